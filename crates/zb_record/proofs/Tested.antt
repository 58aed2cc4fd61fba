-- The test of the widths of a record is equivalent to the statement about them.
use Rattle.std.proofs.Common.{◌≡◌, ◌<◌, ◌^◌, Bool, true, ◌&&◌, List, [], ◌∷◌, length, refl}
use Rattle.std.specs.Prelude.{nat_eq, nat_lt}
use Rattle.std.specs.List.{AllByRecursion, list_all}
use Rattle.std.proofs.lemmas.Bool.{ltb-true, lt-ltb, eqb-true, eq-eqb, and_from}
use Rattle.law_change_fits.proofs.Tests.{both}
use Rattle.zb_model.specs.State.{SenderFloor, NetKey, LinkKey, PairKey, NodeState}
use Rattle.zb_record.specs.Ranges.{NetFits, LinkFits, PairFits, FitsBytes, floor_fits, net_fits, link_fits, pair_fits, fits_widths}

abbrev FloorFits : SenderFloor → Type 0
FloorFits f = (f.sender < 2 ^ 64) × (f.stored < 2 ^ 32)

module _ {A : Type 0} (P : A → Type 0) (test : A → Bool) where
  all_true : ((x : A) → P x → test x ≡ true) → (xs : List A) → AllByRecursion P xs → list_all test xs ≡ true
  all_true each [] all = refl
  all_true each (x ∷ xs) all = and_from (test x) (list_all test xs) (each x all.0) (all_true each xs all.1)

  all_from : ((x : A) → test x ≡ true → P x) → (xs : List A) → list_all test xs ≡ true → AllByRecursion P xs
  all_from each [] e = tt
  all_from each (x ∷ xs) e = let parts =
      both (test x) (list_all test xs) e in (each x parts.0, all_from each xs parts.1)

floor_true : (f : SenderFloor) → FloorFits f → floor_fits f ≡ true
floor_true f p = and_from _ _ (lt-ltb f.sender (2 ^ 64) p.0) (lt-ltb f.stored (2 ^ 32) p.1)

floor_from : (f : SenderFloor) → floor_fits f ≡ true → FloorFits f
floor_from f e = let parts = both (nat_lt f.sender (2 ^ 64)) (nat_lt f.stored (2 ^ 32)) e in
    (ltb-true f.sender (2 ^ 64) parts.0, ltb-true f.stored (2 ^ 32) parts.1)

net_true : (r : NetKey) → NetFits r → net_fits r ≡ true
net_true r p = and_from _ _ (eq-eqb (length r.key) 16 p.key)
    (and_from _ _ (lt-ltb r.limit (2 ^ 32) p.limit) (all_true FloorFits floor_fits floor_true r.floors p.floors))

net_from : (r : NetKey) → net_fits r ≡ true → NetFits r
net_from r e =
    let a = both (nat_eq (length r.key) 16) (nat_lt r.limit (2 ^ 32) && list_all floor_fits r.floors) e in
    let b = both (nat_lt r.limit (2 ^ 32)) (list_all floor_fits r.floors) a.1 in
    record {
      key = eqb-true (length r.key) 16 a.0;
      limit = ltb-true r.limit (2 ^ 32) b.0;
      floors = all_from FloorFits floor_fits floor_from r.floors b.1;
    }

link_true : (r : LinkKey) → LinkFits r → link_fits r ≡ true
link_true r p = and_from _ _ (lt-ltb r.partner (2 ^ 64) p.partner)
    (and_from _ _ (eq-eqb (length r.key) 16 p.key) (lt-ltb r.stored (2 ^ 32) p.stored))

link_from : (r : LinkKey) → link_fits r ≡ true → LinkFits r
link_from r e =
    let a = both (nat_lt r.partner (2 ^ 64)) (nat_eq (length r.key) 16 && nat_lt r.stored (2 ^ 32)) e in
    let b = both (nat_eq (length r.key) 16) (nat_lt r.stored (2 ^ 32)) a.1 in
    record {
      partner = ltb-true r.partner (2 ^ 64) a.0;
      key = eqb-true (length r.key) 16 b.0;
      stored = ltb-true r.stored (2 ^ 32) b.1;
    }

pair_true : (p : PairKey) → PairFits p → pair_fits p ≡ true
pair_true p f = and_from _ _ (lt-ltb p.first (2 ^ 64) f.first)
    (and_from _ _ (lt-ltb p.second (2 ^ 64) f.second) (eq-eqb (length p.key) 16 f.key))

pair_from : (p : PairKey) → pair_fits p ≡ true → PairFits p
pair_from p e =
    let a = both (nat_lt p.first (2 ^ 64)) (nat_lt p.second (2 ^ 64) && nat_eq (length p.key) 16) e in
    let b = both (nat_lt p.second (2 ^ 64)) (nat_eq (length p.key) 16) a.1 in
    record {
      first = ltb-true p.first (2 ^ 64) a.0;
      second = ltb-true p.second (2 ^ 64) b.0;
      key = eqb-true (length p.key) 16 b.1;
    }

pub fits_true : (s : NodeState) → FitsBytes s → fits_widths s ≡ true
unfolding fits_widths
fits_true s f =
    and_from _ _ (lt-ltb s.declared (2 ^ 32) f.declared) (and_from _ _ (lt-ltb s.aps_limit (2 ^ 32) f.aps_limit)
    (and_from _ _ (all_true NetFits net_fits net_true s.nets f.nets)
    (and_from _ _ (all_true LinkFits link_fits link_true s.links f.links)
    (all_true PairFits pair_fits pair_true s.pairs f.pairs))))

pub fits_from : (s : NodeState) → fits_widths s ≡ true → FitsBytes s
unfolding fits_widths
fits_from s e =
    let a = both (nat_lt s.declared (2 ^ 32)) _ e in
    let b = both (nat_lt s.aps_limit (2 ^ 32)) _ a.1 in
    let c = both (list_all net_fits s.nets) _ b.1 in
    let d = both (list_all link_fits s.links) _ c.1 in
    record {
      declared = ltb-true s.declared (2 ^ 32) a.0;
      aps_limit = ltb-true s.aps_limit (2 ^ 32) b.0;
      nets = all_from NetFits net_fits net_from s.nets c.0;
      links = all_from LinkFits link_fits link_from s.links d.0;
      pairs = all_from PairFits pair_fits pair_from s.pairs d.1;
    }
