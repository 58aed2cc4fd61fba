-- Fourteen changes have room in an entry of the journal: none has more than 33 bytes.
use Rattle.std.proofs.Common.{◌≡◌, ◌*◌, ◌≤◌, List, [], ◌∷◌, ◌++◌, length, arith, true, length-append}
use Rattle.std.specs.Prelude.{flat_map, nat_eq}
use Rattle.std.specs.List.{list_all}
use Rattle.std.proofs.lemmas.Bool.{eqb-true}
use Rattle.zb_model.specs.Data.{Bytes, Draw, DropNet, DropLink, Install, Active, Row, Pair, Became, Live, Removed, Roll, Told, Untold, Edit, Reserve, Floor, Start, Moved}
use Rattle.zb_model.specs.Record.{eight_bytes, four_bytes, attribute_byte, edit_bytes, payload}
use Rattle.law_change_fits.proofs.Tests.{both}
use Rattle.law_answer_storable.specs.Storing.{has_whole_keys}

sixteen : (key : Bytes) → nat_eq (length key) 16 ≡ true → length key ≡ 16
sixteen key e = eqb-true (length key) 16 e

one_short : (e : Edit) → has_whole_keys e ≡ true → length (edit_bytes e) ≤ 33
unfolding edit_bytes
one_short (Reserve layer limit) w = omega arith
one_short (Floor layer key sender value) w =
    omega (arith, length-append key (eight_bytes sender ++ four_bytes value), sixteen key w)
one_short (Start key value) w = omega (arith, length-append key (four_bytes value), sixteen key w)
one_short (Moved (Draw key)) w = omega arith
one_short (Moved (DropNet key)) w = omega (arith, sixteen key w)
one_short (Moved (DropLink partner key)) w = omega (arith, length-append (eight_bytes partner) key, sixteen key w)
one_short (Moved (Install key sequence)) w = omega (arith, length-append key (sequence ∷ []), sixteen key w)
one_short (Moved (Active key)) w = omega (arith, sixteen key w)
one_short (Moved (Row partner key attribute)) w =
    omega (
      arith,
      length-append (eight_bytes partner) (key ++ attribute_byte attribute ∷ []),
      length-append key (attribute_byte attribute ∷ []),
      sixteen key w,
    )
one_short (Moved (Pair first second key)) w =
    omega (
      arith,
      length-append (eight_bytes first) (eight_bytes second ++ key),
      length-append (eight_bytes second)
          key,
      sixteen key w,
    )
one_short (Moved (Became state)) w = omega arith
one_short (Moved (Live device)) w = omega arith
one_short (Moved (Removed device)) w = omega arith
one_short (Moved (Roll sending)) w = omega arith
one_short (Moved (Told device)) w = omega arith
one_short (Moved (Untold device)) w = omega arith

all_short : (es : List Edit) → list_all has_whole_keys es ≡ true → length (flat_map edit_bytes es) ≤ 33 * length es
all_short [] w = omega arith
all_short (e ∷ es) w =
    let parts = both (has_whole_keys e) (list_all has_whole_keys es) w in
    omega (arith, length-append (edit_bytes e) (flat_map edit_bytes es), one_short e parts.0, all_short es parts.1)

pub few_short : (es : List Edit) → list_all has_whole_keys es ≡ true → length es ≤ 14 → length (payload es) ≤ 481
unfolding payload
few_short es w few = omega (arith, all_short es w, few)
