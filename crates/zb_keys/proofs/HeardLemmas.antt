-- What seals and accepted frames do to the contents of tables.
use Rattle.std.proofs.Common.{◌≡◌, ℕ, ◌+◌, List, [], map, length, refl, sym, ap, ◌∙◌, Bool, true, false, if◌then◌else◌, subst, Some, None}
use Rattle.std.specs.Prelude.{nat_lt}
use Rattle.std.specs.Vec.{with_items}
use Rattle.std.proofs.lemmas.List.{with_items_is}
use borrow.Author.Tests.{lt-ltb}
use Rattle.zb_model.specs.Data.{Bytes, Layer, Nwk, Aps, Term}
use Rattle.zb_model.specs.State.{greatest_counter, NodeState, NetKey, LinkKey, same_key, at_net, at_link, is_link, shown_net, next_at, net_kept, link_kept, after_sealing}
use Rattle.zb_model.specs.Fits.{keeps_rules}
use Rattle.zb_keys.specs.declared.contents.Contents.{Contents}
use Rattle.zb_record.specs.declared.net_row.NetRow.{NetRow}
use Rattle.zb_record.specs.declared.link_row.LinkRow.{LinkRow}
use Rattle.zb_record.specs.RowViews.{net_key, link_key}
use Rattle.zb_keys.specs.Reading.{next_under, behind_next, IsNext}
use Rattle.zb_keys.specs.Tables.{state_of, IsSound, Forgets}
use Rattle.zb_keys.proofs.ShownLemmas.{shown_at}
use Rattle.zb_keys.proofs.RuleLemmas.{Mild, mild_at, kept_by_map, kept_by_links}

-- network rows that are changed where nothing of the rules is told
pub sound_nets : (a : Contents) (rows : List NetRow) (key : Bytes) (f : NetKey → NetKey) → Mild f
    → ((r : NetKey) → shown_net r ≡ r → shown_net (f r) ≡ f r)
    → length rows ≡ a.nets.len → map net_key rows ≡ at_net key f (map net_key a.nets.items) → IsSound a
    → IsSound (record a { nets = with_items a.nets rows })
sound_nets a rows key f mild shows long is sound =
    let state : state_of (record a { nets = with_items a.nets rows })
    ≡ record (state_of a) { nets = at_net key f (map net_key a.nets.items) } =
    ap (λ l. record (state_of a) { nets = map net_key l }) (with_items_is a.nets rows long) ∙ ap
    (λ l. record (state_of a) { nets = l }) is in
    record {
      rules = subst (λ s. keeps_rules s ≡ true) (sym state)
          (kept_by_map (λ (r : NetKey). if same_key r.key key then f r else r) (mild_at key f mild) (state_of a)
          sound.rules);
      forgets = subst Forgets (sym state) (shown_at key f f shows (map net_key a.nets.items) sound.forgets);
      nets_room = sound.nets_room;
      links_room = sound.links_room;
      pairs_room = sound.pairs_room;
    }

pub state_nets : (a : Contents) (rows : List NetRow) (nets : List NetKey) → length rows ≡ a.nets.len
    → map net_key rows ≡ nets → state_of (record a { nets = with_items a.nets rows })
    ≡ record (state_of a) { nets = nets }
state_nets a rows nets long is = ap (λ l. record (state_of a) { nets = map net_key l })
    (with_items_is a.nets rows long) ∙ ap (λ l. record (state_of a) { nets = l }) is

pub heard_shows : (sender kept : ℕ) (r : NetKey) → shown_net r ≡ r → shown_net (net_kept sender kept r)
    ≡ net_kept sender kept r
heard_shows sender kept r same = by_live r.live refl
  where
    by_live : (b : Bool) → r.live ≡ b → shown_net (net_kept sender kept r) ≡ net_kept sender kept r
    by_live true live = rw live refl
    by_live false dead =
        let empty : r.floors ≡ [] = ap (λ (x : NetKey). x.floors) (sym (rw dead at same)) in
        rw (dead, empty) refl

pub link_heard : (a : Contents) (rows : List LinkRow) (partner : ℕ) (key : Bytes) (kept : ℕ) → length rows
    ≡ a.links.len → map link_key rows ≡ at_link partner key (link_kept kept) (map link_key a.links.items) → IsSound a
    → IsSound (record a { links = with_items a.links rows })
link_heard a rows partner key kept long is sound =
    let state : state_of (record a { links = with_items a.links rows })
    ≡ record (state_of a) { links = at_link partner key (link_kept kept) (map link_key a.links.items) } =
    ap (λ l. record (state_of a) { links = map link_key l }) (with_items_is a.links rows long) ∙ ap
    (λ l. record (state_of a) { links = l }) is in
    record {
      rules = subst (λ s. keeps_rules s ≡ true) (sym state)
          (kept_by_links (λ (r : LinkKey). if is_link partner key r then link_kept kept r
          else r) (λ r. bare_same (is_link partner key r) r) (state_of a) sound.rules);
      forgets = subst Forgets (sym state) sound.forgets;
      nets_room = sound.nets_room;
      links_room = sound.links_room;
      pairs_room = sound.pairs_room;
    }
  where
    bare_same : (b : Bool) (r : LinkKey) → record (if b then link_kept kept r else r) { kept = 0; stored = 0 }
        ≡ record r { kept = 0; stored = 0 }
    bare_same true r = refl
    bare_same false r = refl

pub state_links : (a : Contents) (rows : List LinkRow) (links : List LinkKey) → length rows ≡ a.links.len
    → map link_key rows ≡ links → state_of (record a { links = with_items a.links rows })
    ≡ record (state_of a) { links = links }
state_links a rows links long is = ap (λ l. record (state_of a) { links = map link_key l })
    (with_items_is a.links rows long) ∙ ap (λ l. record (state_of a) { links = l }) is

-- a term was sealed with the next counter of its base key
pub next_is_mild : (next : ℕ) → Mild (next_at next)
next_is_mild next = record { key = λ r. refl; live = λ r. refl; limit = λ r e. e; floors = λ r e. e }

pub next_shows : (next : ℕ) (r : NetKey) → shown_net r ≡ r → shown_net (next_at next r) ≡ next_at next r
next_shows next r same = ap (next_at next) same

pub behind_is : (layer : Layer) (key : Bytes) (s : NodeState) (t : Term) → IsNext layer key s t
    → behind_next (next_under layer key s) ≡ Some (t.counter + 1)
behind_is layer key s t so =
    let lt : nat_lt t.counter greatest_counter ≡ true = lt-ltb _ _ so.below_last in
    ap behind_next so.counter_is ∙ rw lt refl

pub sealed_nwk : (key : Bytes) (s : NodeState) (t : Term) (next : ℕ) → IsNext Nwk key s t → Some next
    ≡ behind_next (next_under Nwk key s) → record s { nets = at_net key (next_at next) s.nets } ≡ after_sealing t s
unfolding after_sealing
sealed_nwk key s t next so is =
    let both_ : Some next ≡ Some (t.counter + 1) = is ∙ behind_is Nwk key s t so in
    let same : next ≡ t.counter + 1 = cc in
    rw (so.layer_is, so.base_is, same) refl

pub sealed_aps : (key : Bytes) (s : NodeState) (t : Term) (next : ℕ) → IsNext Aps key s t → Some next
    ≡ behind_next (Some s.aps_next) → record s { aps_next = next } ≡ after_sealing t s
unfolding after_sealing
sealed_aps key s t next so is =
    let both_ : Some next ≡ Some (t.counter + 1) = is ∙ behind_is Aps key s t so in
    let same : next ≡ t.counter + 1 = cc in
    rw (so.layer_is, same) refl

pub sealed_none : (layer : Layer) (key : Bytes) (s : NodeState) (t : Term) → IsNext layer key s t → None
    ≡ behind_next (next_under layer key s) → s ≡ after_sealing t s
sealed_none layer key s t so is = let clash : None ≡ Some (t.counter + 1) = is ∙ behind_is layer key s t so in absurd
    (cc)
