-- What a boot sets back in the contents of tables.
use Rattle.std.proofs.Common.{◌≡◌, List, [], ◌∷◌, map, length, refl, sym, ap, ◌∙◌, Bool, true, false, if◌then◌else◌, subst}
use Rattle.std.specs.Vec.{with_items}
use Rattle.std.proofs.lemmas.List.{with_items_is}
use Rattle.zb_model.specs.State.{NetKey, shown_net, booted_floor, booted_net, booted_link}
use Rattle.zb_model.specs.Fits.{keeps_rules}
use Rattle.zb_keys.specs.declared.contents.Contents.{Contents}
use Rattle.zb_record.specs.declared.net_row.NetRow.{NetRow}
use Rattle.zb_record.specs.declared.link_row.LinkRow.{LinkRow}
use Rattle.zb_record.specs.RowViews.{net_key, link_key}
use Rattle.zb_keys.specs.Tables.{state_of, nets_booted, links_booted, IsSound, Forgets}
use Rattle.zb_keys.proofs.RuleLemmas.{boot_is_mild, kept_by_map, kept_by_links}

pub booted_shown : (rs : List NetKey) → map booted_net (map shown_net rs) ≡ map shown_net (map booted_net rs)
booted_shown [] = refl
booted_shown (r ∷ rs) = ap (λ x. x ∷ map booted_net (map shown_net rs)) (by_live r.live) ∙ ap
    (λ l. shown_net (booted_net r) ∷ l) (booted_shown rs)
  where
    by_live : (b : Bool)
        → record r { next = r.limit; live = b; floors = map booted_floor (if b then r.floors else []) }
        ≡ record r { next = r.limit; live = b; floors = if b then map booted_floor r.floors else [] }
    by_live true = refl
    by_live false = refl

pub nets_sound : (a : Contents) (rows : List NetRow) → length rows ≡ a.nets.len → map net_key rows
    ≡ map booted_net (map net_key a.nets.items) → IsSound a → IsSound (record a { nets = with_items a.nets rows })
nets_sound a rows long is sound =
    let state : state_of (record a { nets = with_items a.nets rows }) ≡ nets_booted (state_of a) =
    ap (λ l. record (state_of a) { nets = map net_key l }) (with_items_is a.nets rows long) ∙ ap
    (λ l. record (state_of a) { nets = l }) is in
    record {
      rules = subst (λ s. keeps_rules s ≡ true) (sym state)
          (kept_by_map booted_net boot_is_mild (state_of a) sound.rules);
      forgets =
          subst Forgets (sym state)
          (sym (booted_shown (map net_key a.nets.items)) ∙ ap (map booted_net) sound.forgets);
      nets_room = sound.nets_room;
      links_room = sound.links_room;
      pairs_room = sound.pairs_room;
    }

pub links_sound : (a : Contents) (rows : List LinkRow) → length rows ≡ a.links.len → map link_key rows
    ≡ map booted_link (map link_key a.links.items) → IsSound a → IsSound (record a { links = with_items a.links rows })
links_sound a rows long is sound =
    let state : state_of (record a { links = with_items a.links rows }) ≡ links_booted (state_of a) =
    ap (λ l. record (state_of a) { links = map link_key l }) (with_items_is a.links rows long) ∙ ap
    (λ l. record (state_of a) { links = l }) is in
    record {
      rules = subst (λ s. keeps_rules s ≡ true) (sym state)
          (kept_by_links booted_link (λ r. refl) (state_of a) sound.rules);
      forgets = subst Forgets (sym state) sound.forgets;
      nets_room = sound.nets_room;
      links_room = sound.links_room;
      pairs_room = sound.pairs_room;
    }
