-- Few changes have room in an entry.
use Rattle.std.proofs.Common.{ℕ, ◌*◌, ◌≤◌, List, [], ◌∷◌, ◌++◌, length, flat_map, ap, arith, length-append}
use Rattle.std.specs.List.{AllByRecursion}
use Rattle.std.proofs.lemmas.List.Concat.{flat_map-cons}
use Rattle.zb_node_types.specs.declared.change.Change.{Change}
use Rattle.zb_node_types.specs.declared.change.Change.TheVariants as change
use Rattle.zb_node_types.specs.Changes.{edit, edits, model_attribute}
use Rattle.zb_model.specs.Record.{edit_bytes, payload, attribute_byte, four_bytes, eight_bytes}
use Rattle.zb_record.specs.Ranges.{InRange}

-- the longest is a pair
one_short : (c : Change) → InRange c → length (edit_bytes (edit c)) ≤ 33
unfolding edit_bytes
one_short (change.Reserve l limit) range = omega arith
one_short (change.Floor l key sender value) range =
    omega (arith, length-append key.0 (eight_bytes sender.0 ++ four_bytes value), range.0)
one_short (change.Draw key) range = omega arith
one_short (change.DropNet key) range = omega (arith, range)
one_short (change.DropLink partner key) range = omega (arith, length-append (eight_bytes partner.0) key.0, range.1)
one_short (change.Install key sequence) range = omega (arith, length-append key.0 (sequence ∷ []), range.0)
one_short (change.Active key) range = omega (arith, range)
one_short (change.Start key value) range = omega (arith, length-append key.0 (four_bytes value), range.0)
one_short (change.Row partner key t) range =
    omega (
      arith,
      length-append (eight_bytes partner.0) (key.0 ++ attribute_byte (model_attribute t) ∷ []),
      length-append key.0 (attribute_byte (model_attribute t) ∷ []),
      range.1,
    )
one_short (change.Pair first second key) range =
    omega (
      arith,
      length-append (eight_bytes first.0) (eight_bytes second.0 ++ key.0),
      length-append (eight_bytes second.0) key.0,
      range.2,
    )
one_short (change.State g) range = omega arith
one_short (change.Live device) range = omega arith
one_short (change.Removed device) range = omega arith
one_short (change.Roll r) range = omega arith
one_short (change.Told device) range = omega arith
one_short (change.Untold device) range = omega arith

all_short : (cs : List Change) → AllByRecursion InRange cs → length (flat_map edit_bytes (edits cs)) ≤ 33 * length cs
all_short [] range = omega arith
all_short (c ∷ cs) range =
    omega (
      arith,
      ap (length {A = ℕ}) (flat_map-cons edit_bytes (edit c) (edits cs)),
      length-append (edit_bytes (edit c)) (flat_map edit_bytes (edits cs)),
      one_short c range.0,
      all_short cs range.1,
    )

pub few_short : (cs : List Change) → AllByRecursion InRange cs → length cs ≤ 14 → length (payload (edits cs)) ≤ 481
unfolding payload
few_short cs range few = omega (arith, all_short cs range, few)
