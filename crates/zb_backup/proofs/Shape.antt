-- The shape of a backup object: it is the same as itself, has no fraction, and nests four deep.
use Rattle.std.proofs.Common.{◌≡◌, ℕ, ◌≤◌, List, [], ◌∷◌, map, Bool, true, false, Option, Some, None, refl, arith}
use Rattle.std.proofs.lemmas.Bool.{and_from}
use Rattle.std.specs.Prelude.{◌||◌}
use Rattle.serde_json.specs.Data.{Data, depth, items_depth}
use Rattle.serde_json.specs.View.{items_of}
use Rattle.serde_json.specs.Written.{has_float, items_have_float}
use Rattle.zb_text.specs.Fields.{eui_text}
use Rattle.hex.specs.Hex.{encode_upper}
use Rattle.zb_model.specs.Data.{Bytes}
use Rattle.zb_model.specs.Record.{attribute_byte}
use Rattle.zb_model.specs.State.{SenderFloor, NetKey, LinkKey, PairKey, NodeState}
use Rattle.zb_backup.specs.Format.{floor_object, net_object, link_object, pair_object, place_value, active_value, roll_text, backup_of}
use Rattle.zb_backup.specs.Reading.{same_value, same_items}
use Rattle.zb_backup.proofs.Same.{text_same, number_same, flag_same}

-- a value of such a shape, at most so deep
pub record Has (n : ℕ) (d : Data) : Type 0 where
  pub same : same_value d d ≡ true
  pub whole : has_float d ≡ false
  pub depth : depth d ≤ n

pub record HaveItems {X : Type 0} (n : ℕ) (value : X → Data) (xs : List X) : Type 0 where
  pub same : same_items (items_of (map value xs)) (items_of (map value xs)) ≡ true
  pub whole : items_have_float (items_of (map value xs)) ≡ false
  pub depth : items_depth (items_of (map value xs)) ≤ n

neither : (a b : Bool) → a ≡ false → b ≡ false → (a || b) ≡ false
neither false b x y = y
neither true b x y = x

have_items : {X : Type 0} (n : ℕ) (value : X → Data) → ((x : X) → Has n (value x)) → (xs : List X)
    → HaveItems n value xs
have_items n value each [] = record { same = refl; whole = refl; depth = omega arith }
have_items n value each (x ∷ xs) =
    let one = each x in
    let more = have_items n value each xs in
    record {
      same = and_from (same_value (value x) (value x)) _ one.same more.same;
      whole = neither (has_float (value x)) _ one.whole more.whole;
      depth = omega (arith, one.depth, more.depth);
    }

floor_has : (f : SenderFloor) → Has 1 (floor_object f)
unfolding floor_object
floor_has f =
    record { same = rw (number_same f.stored, text_same (eui_text f.sender)) refl; whole = refl; depth = omega arith }

net_has : (r : NetKey) → Has 3 (net_object r)
unfolding net_object
net_has r =
    let floors = have_items 1 floor_object floor_has r.floors in
    record {
      same = rw (
        floors.same,
        text_same (encode_upper r.key),
        number_same r.limit,
        flag_same r.live,
        number_same r.sequence,
        flag_same r.started,
      ) refl;
      whole = rw floors.whole refl;
      depth = omega (arith, floors.depth);
    }

link_has : (r : LinkKey) → Has 1 (link_object r)
unfolding link_object
link_has r = record {
  same = rw (
    number_same (attribute_byte r.attribute),
    flag_same r.code,
    number_same r.stored,
    text_same (encode_upper r.key),
    flag_same r.live,
    text_same (eui_text r.partner),
    flag_same r.told,
  ) refl;
  whole = refl;
  depth = omega arith;
}

pair_has : (p : PairKey) → Has 1 (pair_object p)
unfolding pair_object
pair_has p =
    record {
      same = rw (text_same (eui_text p.first), text_same (encode_upper p.key), text_same (eui_text p.second))
          refl;
      whole = refl;
      depth = omega arith;
    }

place_has : (place : Option ℕ) → Has 0 (place_value place)
place_has None = record { same = refl; whole = refl; depth = omega arith }
place_has (Some n) = record { same = number_same n; whole = refl; depth = omega arith }

active_has : (active : Option Bytes) (nets : List NetKey) → Has 0 (active_value active nets)
unfolding active_value
active_has None nets = record { same = refl; whole = refl; depth = omega arith }
active_has (Some key) nets = place_has _

pub backup_has : (s : NodeState) → Has 5 (backup_of s)
unfolding backup_of
backup_has s =
    let active = active_has s.active s.nets in
    let nets = have_items 3 net_object net_has s.nets in
    let links = have_items 1 link_object link_has s.links in
    let pairs = have_items 1 pair_object pair_has s.pairs in
    record {
      same = rw (
        active.same,
        number_same s.aps_limit,
        links.same,
        nets.same,
        number_same s.declared,
        pairs.same,
        text_same (roll_text s.sending),
      ) refl;
      whole = rw (active.whole, nets.whole, links.whole, pairs.whole) refl;
      depth = omega (arith, active.depth, nets.depth, links.depth, pairs.depth);
    }
