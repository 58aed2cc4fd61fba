-- The smallest EUI among rows, one row after the other.
use Rattle.std.proofs.Common.{◌≡◌, ℕ, ◌+◌, ◌<◌, ◌≤◌, List, [], ◌∷◌, map, take, get_or, length, sym, ap, ◌∙◌, Bool, true, false, if◌then◌else◌, Option, None, refl}
use Rattle.std.specs.Prelude.{filter, fold}
use Rattle.std.proofs.lemmas.List.{map_more, take_all}
use Rattle.std.proofs.lemmas.List.Elements.{filter-append}
use Rattle.std.proofs.lemmas.List.Sums.{fold-append}
use Rattle.zb_model.specs.State.{LinkKey, NodeState}
use Rattle.zb_model.specs.OwnEvents.{is_waiting, least, next_member}
use Rattle.zb_record.specs.declared.link_row.LinkRow.{LinkRow}
use Rattle.zb_record.specs.RowViews.{link_key}

abbrev pub least_of : List LinkKey → Option ℕ
least_of links = fold (λ (best : Option ℕ) (r : LinkKey). least best r.partner) None (filter is_waiting links)

pub least_more : (rows : List LinkRow) (i : ℕ) (d : LinkRow) (b : Bool) → i < length rows
    → is_waiting (link_key (get_or rows i d)) ≡ b
    → least_of (map link_key (take (i + 1) rows))
    ≡ (if b then least (least_of (map link_key (take i rows))) (link_key (get_or rows i d)).partner
    else least_of (map link_key (take i rows)))
least_more rows i d b lt is =
    ap least_of (map_more link_key rows i d lt)
    ∙ ap (fold (λ (best : Option ℕ) (r : LinkKey). least best r.partner) None)
    (filter-append is_waiting (map link_key (take i rows)) (link_key (get_or rows i d) ∷ []))
    ∙ fold-append (λ (best : Option ℕ) (r : LinkKey). least best r.partner) None
    (filter is_waiting (map link_key (take i rows))) (filter is_waiting (link_key (get_or rows i d) ∷ []))
    ∙ at_test b is
  where
    at_test : (b : Bool) → is_waiting (link_key (get_or rows i d)) ≡ b
        → fold (λ (best : Option ℕ) (r : LinkKey). least best r.partner) (least_of (map link_key (take i rows)))
        (filter is_waiting (link_key (get_or rows i d) ∷ []))
        ≡ (if b then least (least_of (map link_key (take i rows))) (link_key (get_or rows i d)).partner
        else least_of (map link_key (take i rows)))
    at_test true yes_ = rw yes_ refl
    at_test false no_ = rw no_ refl

pub waiting_step : (rows : List LinkRow) (i : ℕ) (d : LinkRow) (o next : Option ℕ) → i < length rows → o
    ≡ least_of (map link_key (take i rows))
    → next ≡ (if is_waiting (link_key (get_or rows i d)) then least o (link_key (get_or rows i d)).partner else o)
    → next ≡ least_of (map link_key (take (i + 1) rows))
waiting_step rows i d o next lt so is =
    is ∙ ap (λ x. if is_waiting (link_key (get_or rows i d)) then least x (link_key (get_or rows i d)).partner
    else x) so
    ∙ sym (least_more rows i d (is_waiting (link_key (get_or rows i d))) lt refl)

pub least_all : (rows : List LinkRow) (i : ℕ) (o : Option ℕ) → length rows ≤ i → o
    ≡ least_of (map link_key (take i rows)) → o ≡ least_of (map link_key rows)
least_all rows i o long so = so ∙ ap (λ l. least_of (map link_key l)) (take_all i rows long)

pub next_is : (s : NodeState) (rows : List LinkRow) (o : Option ℕ) → map link_key rows ≡ s.links → o
    ≡ least_of (map link_key rows) → o ≡ next_member s
unfolding next_member
next_is s rows o same is = is ∙ ap least_of same
