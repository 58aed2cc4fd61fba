-- Values within their widths.
use Rattle.std.proofs.Common.{◌≡◌, ℕ, zero, suc, ◌<◌, ◌^◌, List, [], ◌∷◌, length, Bool, true, refl, arith}
use Rattle.std.proofs.lemmas.Bool.{and_from, and_parts, lt-ltb, ltb-true, eqb-true}
use Rattle.std.specs.Prelude.{slice_index}
use Rattle.std.specs.List.{list_all, AllByRecursion}
use Rattle.hex.specs.Hex.{IsBytes}
use Rattle.zb_model.specs.Data.{Bytes}
use Rattle.zb_model.specs.State.{SenderFloor, NetKey, LinkKey, PairKey, NodeState}
use Rattle.zb_record.specs.Ranges.{FitsBytes, NetFits, LinkFits, PairFits}
use Rattle.zb_backup.specs.Reading.{is_byte, is_counter, is_eui, is_key, floor_fits, net_fits, link_fits, pair_fits, has_widths}

pub bytes_pass : (bytes : List ℕ) → IsBytes bytes → list_all is_byte bytes ≡ true
bytes_pass [] fit = refl
bytes_pass (b ∷ bs) fit = and_from (is_byte b) (list_all is_byte bs) (lt-ltb b 256 (fit 0))
    (bytes_pass bs (λ i. fit (suc i)))

bytes_at : (bytes : List ℕ) → list_all is_byte bytes ≡ true → (i : ℕ) → slice_index bytes i < 256
bytes_at [] pass i = omega arith
bytes_at (b ∷ bs) pass zero = ltb-true b 256 (and_parts (is_byte b) (list_all is_byte bs) pass).0
bytes_at (b ∷ bs) pass (suc i) = bytes_at bs (and_parts (is_byte b) (list_all is_byte bs) pass).1 i

-- what a test says of each item of a list
pub each_is : {X : Type 0} (p : X → Bool) (P : X → Type 0) → ((x : X) → p x ≡ true → P x) → (xs : List X)
    → list_all p xs ≡ true → AllByRecursion P xs
each_is p P h [] all = tt
each_is p P h (x ∷ xs) all = let q = and_parts (p x) (list_all p xs) all in (h x q.0, each_is p P h xs q.1)

-- a key of 16 bytes
pub record IsKey (key : Bytes) : Type 0 where
  pub long : length key ≡ 16
  pub bytes : IsBytes key

pub key_is : (key : Bytes) → is_key key ≡ true → IsKey key
key_is key fits =
    let p = and_parts _ (list_all is_byte key) fits in
    record { long = eqb-true (length key) 16 p.0; bytes = bytes_at key p.1 }

pub counter_is : (n : ℕ) → is_counter n ≡ true → n < 2 ^ 32
counter_is n fits = ltb-true n 4294967296 fits

pub eui_is : (n : ℕ) → is_eui n ≡ true → n < 2 ^ 64
eui_is n fits = ltb-true n 18446744073709551616 fits

pub record FloorIs (f : SenderFloor) : Type 0 where
  pub sender : f.sender < 2 ^ 64
  pub stored : f.stored < 2 ^ 32

pub floor_is : (f : SenderFloor) → floor_fits f ≡ true → FloorIs f
floor_is f fits = let p = and_parts (is_eui f.sender) (is_counter f.stored) fits in
    record { sender = eui_is f.sender p.0; stored = counter_is f.stored p.1 }

pub record NetIs (r : NetKey) : Type 0 where
  pub key : IsKey r.key
  pub sequence : r.sequence < 256
  pub limit : r.limit < 2 ^ 32
  pub floors : list_all floor_fits r.floors ≡ true

pub net_is : (r : NetKey) → net_fits r ≡ true → NetIs r
net_is r fits =
    let p = and_parts (is_key r.key) _ fits in
    let q = and_parts (is_byte r.sequence) _ p.1 in
    let t = and_parts (is_counter r.limit) _ q.1 in
    record {
      key = key_is r.key p.0;
      sequence = ltb-true r.sequence 256 q.0;
      limit = counter_is r.limit t.0;
      floors = t.1;
    }

pub record LinkIs (r : LinkKey) : Type 0 where
  pub partner : r.partner < 2 ^ 64
  pub key : IsKey r.key
  pub stored : r.stored < 2 ^ 32

pub link_is : (r : LinkKey) → link_fits r ≡ true → LinkIs r
link_is r fits =
    let p = and_parts (is_eui r.partner) _ fits in
    let q = and_parts (is_key r.key) _ p.1 in
    record { partner = eui_is r.partner p.0; key = key_is r.key q.0; stored = counter_is r.stored q.1 }

pub record PairIs (x : PairKey) : Type 0 where
  pub first : x.first < 2 ^ 64
  pub second : x.second < 2 ^ 64
  pub key : IsKey x.key

pub pair_is : (x : PairKey) → pair_fits x ≡ true → PairIs x
pair_is x fits =
    let p = and_parts (is_eui x.first) _ fits in
    let q = and_parts (is_eui x.second) _ p.1 in
    record { first = eui_is x.first p.0; second = eui_is x.second q.0; key = key_is x.key q.1 }

pub record StateIs (s : NodeState) : Type 0 where
  pub declared : s.declared < 2 ^ 32
  pub aps_limit : s.aps_limit < 2 ^ 32
  pub nets : list_all net_fits s.nets ≡ true
  pub links : list_all link_fits s.links ≡ true
  pub pairs : list_all pair_fits s.pairs ≡ true

pub state_is : (s : NodeState) → has_widths s ≡ true → StateIs s
unfolding has_widths
state_is s fits =
    let p = and_parts (is_counter s.declared) _ fits in
    let q = and_parts (is_counter s.aps_limit) _ p.1 in
    let t = and_parts (list_all net_fits s.nets) _ q.1 in
    let u = and_parts (list_all link_fits s.links) _ t.1 in
    record {
      declared = counter_is s.declared p.0;
      aps_limit = counter_is s.aps_limit q.0;
      nets = t.0;
      links = u.0;
      pairs = u.1;
    }

net_spelled : (r : NetKey) → net_fits r ≡ true → NetFits r
net_spelled r fits =
    let n = net_is r fits in
    record {
      key = n.key.long;
      limit = n.limit;
      floors = each_is floor_fits _ (λ f h. ((floor_is f h).sender, (floor_is f h).stored)) r.floors n.floors;
    }

link_spelled : (r : LinkKey) → link_fits r ≡ true → LinkFits r
link_spelled r fits = let l = link_is r fits in record { partner = l.partner; key = l.key.long; stored = l.stored }

pair_spelled : (x : PairKey) → pair_fits x ≡ true → PairFits x
pair_spelled x fits = let p = pair_is x fits in record { first = p.first; second = p.second; key = p.key.long }

-- such a state has a record
pub widths_fit : (s : NodeState) → has_widths s ≡ true → FitsBytes s
widths_fit s fits =
    let w = state_is s fits in
    record {
      declared = w.declared;
      aps_limit = w.aps_limit;
      nets = each_is net_fits NetFits net_spelled s.nets w.nets;
      links = each_is link_fits LinkFits link_spelled s.links w.links;
      pairs = each_is pair_fits PairFits pair_spelled s.pairs w.pairs;
    }
