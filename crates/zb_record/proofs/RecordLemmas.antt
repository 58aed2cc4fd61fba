-- The parts of a record make up the record.
use Rattle.std.proofs.Common.{◌≡◌, ℕ, List, [], ◌∷◌, ◌++◌, length, map, refl, ap, ◌∙◌, append_assoc, Bool, true, false, if◌then◌else◌, Option, Some, None}
use Rattle.std.specs.Prelude.{filter}
use Rattle.std.specs.List.{flat_map}
use Rattle.std.proofs.lemmas.List.{length-map}
use Rattle.zb_base.specs.declared.key.Key.{Key}
use Rattle.zb_node_types.specs.Changes.{model_role, model_state, is_sending}
use Rattle.zb_model.specs.State.{NetKey}
use Rattle.zb_model.specs.Record.{record_of, active_place, role_byte, state_byte, two_bytes, four_bytes, net_bytes, floors_bytes, link_bytes, pair_bytes, worth}
use Rattle.zb_record.specs.declared.write.Heading.{Heading}
use Rattle.zb_record.specs.declared.net_row.NetRow.{NetRow}
use Rattle.zb_record.specs.declared.link_row.LinkRow.{LinkRow}
use Rattle.zb_record.specs.declared.pair_row.Pair.{Pair}
use Rattle.zb_record.specs.RowViews.{net_key, link_key, pair_key}
use Rattle.zb_record.specs.Headings.{place_in, state_with, state_written}

-- the bytes of the rows that satisfy the test, one after the other
flat_map_if : (spell : NetKey → List ℕ) (rows : List NetRow)
    → flat_map (λ (r : NetRow). if (net_key r).live then spell (net_key r) else []) rows
    ≡ flat_map spell (filter (λ (r : NetKey). r.live) (map net_key rows))
flat_map_if spell [] = refl
flat_map_if spell (r ∷ rs) = at_test (net_key r).live (flat_map_if spell rs)
  where
    at_test : (b : Bool) → flat_map (λ (x : NetRow). if (net_key x).live then spell (net_key x) else []) rs
        ≡ flat_map spell (filter (λ (x : NetKey). x.live) (map net_key rs))
        → (if b then spell (net_key r) else [])
        ++ flat_map (λ (x : NetRow). if (net_key x).live then spell (net_key x) else []) rs
        ≡ flat_map spell (if b then net_key r ∷ filter (λ (x : NetKey). x.live) (map net_key rs)
        else filter (λ (x : NetKey). x.live) (map net_key rs))
    at_test true e = ap (λ l. spell (net_key r) ++ l) e
    at_test false e = e

regroup : (f g h i j k : List ℕ) → ((f ++ g) ++ (h ++ i)) ++ (j ++ k) ≡ f ++ (g ++ (h ++ (i ++ (j ++ k))))
regroup f g h i j k = simp append_assoc

-- the place of the active row
at_active : (next : ℕ) (h : Heading) (active : Option Key) (nets : List NetRow) (links : List LinkRow)
    (pairs : List Pair) → place_in active nets ≡ active_place (state_with next h active nets links pairs)
at_active next h None nets links pairs = refl
at_active next h (Some key) nets links pairs = refl

with_place : (next : ℕ) (h : Heading) (nets : List NetRow) (links : List LinkRow) (pairs : List Pair)
    → (((((3 ∷ role_byte (model_role h.role) ∷ state_byte (model_state h.state) ∷ four_bytes h.declared)
    ++ (four_bytes h.aps_limit ++ worth 1 (is_sending h.rolling) ∷ []))
    ++ ((two_bytes (length nets) ++ two_bytes (active_place (state_written next h nets links pairs)))
    ++ (flat_map net_bytes (map net_key nets)
    ++ flat_map (λ (r : NetRow). if (net_key r).live then floors_bytes (net_key r) else []) nets)))
    ++ (two_bytes (length links) ++ flat_map link_bytes (map link_key links)))
    ++ (two_bytes (length pairs) ++ flat_map pair_bytes (map pair_key pairs)))
    ≡ record_of (state_written next h nets links pairs)
unfolding record_of
with_place next h nets links pairs =
    rw (flat_map_if floors_bytes nets, length-map nets net_key, length-map links link_key, length-map pairs pair_key)
    (ap (λ l. (3 ∷ role_byte (model_role h.role) ∷ state_byte (model_state h.state) ∷ four_bytes h.declared)
    ++ ((four_bytes h.aps_limit ++ worth 1 (is_sending h.rolling) ∷ [])
    ++ ((two_bytes (length nets) ++ two_bytes (active_place (state_written next h nets links pairs))) ++ l)))
    (regroup (flat_map net_bytes (map net_key nets))
    (flat_map floors_bytes (filter (λ (r : NetKey). r.live) (map net_key nets)))
    (two_bytes (length links)) (flat_map link_bytes (map link_key links)) (two_bytes (length pairs))
    (flat_map pair_bytes (map pair_key pairs))))

pub parts_are : (next : ℕ) (h : Heading) (nets : List NetRow) (links : List LinkRow) (pairs : List Pair)
    → (((((3 ∷ role_byte (model_role h.role) ∷ state_byte (model_state h.state) ∷ four_bytes h.declared)
    ++ (four_bytes h.aps_limit ++ worth 1 (is_sending h.rolling) ∷ []))
    ++ ((two_bytes (length nets) ++ two_bytes (place_in h.active nets))
    ++ (flat_map net_bytes (map net_key nets)
    ++ flat_map (λ (r : NetRow). if (net_key r).live then floors_bytes (net_key r) else []) nets)))
    ++ (two_bytes (length links) ++ flat_map link_bytes (map link_key links)))
    ++ (two_bytes (length pairs) ++ flat_map pair_bytes (map pair_key pairs)))
    ≡ record_of (state_written next h nets links pairs)
parts_are next h nets links pairs =
    ap (λ (place : ℕ).
    ((((3 ∷ role_byte (model_role h.role) ∷ state_byte (model_state h.state) ∷ four_bytes h.declared)
    ++ (four_bytes h.aps_limit ++ worth 1 (is_sending h.rolling) ∷ []))
    ++ ((two_bytes (length nets) ++ two_bytes place)
    ++ (flat_map net_bytes (map net_key nets)
    ++ flat_map (λ (r : NetRow). if (net_key r).live then floors_bytes (net_key r) else []) nets)))
    ++ (two_bytes (length links) ++ flat_map link_bytes (map link_key links)))
    ++ (two_bytes (length pairs) ++ flat_map pair_bytes (map pair_key pairs)))
    (at_active next h h.active nets links pairs)
    ∙ with_place next h nets links pairs
