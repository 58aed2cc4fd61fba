-- The record of a state in its ranges consists of bytes.
use Rattle.std.proofs.Common.{◌≡◌, ℕ, ◌+◌, ◌≤◌, Bool, true, false, ◌&&◌, nat_le, nat_lt, List, [], ◌∷◌, ◌++◌, length, flat_map, refl, arith, leb-true}
use Rattle.std.specs.List.{AllByRecursion, list_all}
use Rattle.std.proofs.lemmas.Bool.{false≢true}
use Rattle.zb_model.specs.Data.{Bytes, Role, Centre, Router, Device, State, Fresh, Knocked, Joined, Offered, Confirmed, Rejoining, Gone, Attribute, Provisional, Unverified, Verified}
use Rattle.zb_model.specs.Fits.{most_senders, most_nets, rows_have_room, keys_differ, at_most_two_live, active_is_live, partners_agree, links_are_marked, floors_are_kept, senders_ascend, keeps_rules}
use Rattle.zb_model.specs.Record.{two_bytes, four_bytes, eight_bytes, role_byte, state_byte, attribute_byte, worth, active_place, net_bytes, sender_bytes, floors_bytes, link_bytes, pair_bytes, record_of}
use Rattle.zb_model.specs.State.{SenderFloor, NetKey, LinkKey, PairKey, NodeState, live_nets}
use Rattle.law_run_ranges.specs.Ranges.{IsCount, IsByte, AreBytes}
use Rattle.law_run_ranges.proofs.Frames.{two_in, four_in, eight_in, bytes_append}
use Rattle.law_run_ranges.proofs.Lists.{filtered}
use Rattle.law_run_ranges.proofs.States.{FloorInRange, NetInRange, LinkInRange, PairInRange, StateInRange}

left : (a b : Bool) → (a && b) ≡ true → a ≡ true
left true b e = refl
left false b e = absurd (false≢true e)

right : (a b : Bool) → (a && b) ≡ true → b ≡ true
right true b e = e
right false b e = absurd (false≢true e)

-- ---- what the rules for records say of sizes

pub few_nets : (s : NodeState) → keeps_rules s ≡ true → IsCount (length s.nets)
unfolding keeps_rules rows_have_room
few_nets s e =
    omega (arith, leb-true (length s.nets) most_nets (left (nat_le (length s.nets) most_nets) _ (left _ _ e)))

abbrev HasFew : NetKey → Type 0
HasFew r = IsByte (length r.floors)

each_few : (rs : List NetKey)
    → list_all
    (λ (r : NetKey). nat_le (length r.floors) most_senders
    && (list_all (λ (f : SenderFloor). nat_lt 0 f.stored) r.floors && senders_ascend r.floors)) rs ≡ true
    → AllByRecursion HasFew rs
each_few [] e = tt
each_few (r ∷ rs) e = (
  omega (
    arith,
    leb-true (length r.floors) most_senders
        (left (nat_le (length r.floors) most_senders) _ (left _ _ e)),
  ),
  each_few rs (right _ _ e),
)

few_floors : (s : NodeState) → keeps_rules s ≡ true → AllByRecursion HasFew s.nets
unfolding keeps_rules floors_are_kept
few_floors s e =
    each_few s.nets
    (left _ _
    (right (links_are_marked s) _
    (right (partners_agree s) _
    (right (active_is_live s) _
    (right (at_most_two_live s) _ (right (keys_differ s) _ (right (rows_have_room s) _ e)))))))

-- ---- bytes

bytes_of : {X : Type 0} (P : X → Type 0) (f : X → Bytes) → ((x : X) → P x → AreBytes (f x)) → (xs : List X)
    → AllByRecursion P xs → AreBytes (flat_map f xs)
bytes_of P f each [] all = tt
bytes_of P f each (x ∷ xs) all = bytes_append (f x) (flat_map f xs) (each x all.0) (bytes_of P f each xs all.1)

worth_in : (n : ℕ) (b : Bool) → n ≤ 4 → worth n b ≤ n
worth_in n true le = omega arith
worth_in n false le = omega arith

state_in : (s : State) → IsByte (state_byte s)
state_in Fresh = omega arith
state_in Knocked = omega arith
state_in Joined = omega arith
state_in Offered = omega arith
state_in Confirmed = omega arith
state_in Rejoining = omega arith
state_in Gone = omega arith

role_in : (r : Role) → IsByte (role_byte r)
role_in Centre = omega arith
role_in Router = omega arith
role_in Device = omega arith

attribute_in : (a : Attribute) → IsByte (attribute_byte a)
attribute_in Provisional = omega arith
attribute_in Unverified = omega arith
attribute_in Verified = omega arith

net_in : (r : NetKey) → NetInRange r → AreBytes (net_bytes r)
net_in r x = bytes_append r.key (r.sequence ∷ (worth 1 r.live + worth 2 r.started) ∷ four_bytes r.limit) x.0.0
    (x.1, (omega (arith, worth_in 1 r.live (omega arith), worth_in 2 r.started (omega arith)), four_in r.limit))

sender_in : (f : SenderFloor) → FloorInRange f → AreBytes (sender_bytes f)
sender_in f x = bytes_append (eight_bytes f.sender) (four_bytes f.stored) (eight_in f.sender) (four_in f.stored)

abbrev FloorsInRange : NetKey → Type 0
FloorsInRange r = NetInRange r × HasFew r

floors_in : (r : NetKey) → FloorsInRange r → AreBytes (floors_bytes r)
floors_in r x = (x.1, bytes_of FloorInRange sender_bytes sender_in r.floors x.0.2)

link_in : (r : LinkKey) → LinkInRange r → AreBytes (link_bytes r)
link_in r x =
    bytes_append (eight_bytes r.partner) _ (eight_in r.partner)
    (bytes_append r.key (attribute_byte r.attribute ∷ (worth 1 r.live + (worth 2 r.code + worth 4 r.told))
    ∷ four_bytes r.stored) x.1.0 (
      attribute_in r.attribute,
      (
        omega (
          arith,
          worth_in 1 r.live (omega arith),
          worth_in 2 r.code (omega arith),
          worth_in 4 r.told (omega arith),
        ),
        four_in r.stored,
      ),
    ))

pair_in : (p : PairKey) → PairInRange p → AreBytes (pair_bytes p)
pair_in p x = bytes_append (eight_bytes p.first) (eight_bytes p.second ++ (p.key ++ 1 ∷ [])) (eight_in p.first)
    (bytes_append (eight_bytes p.second) (p.key ++ 1 ∷ []) (eight_in p.second)
    (bytes_append p.key (1 ∷ []) x.0 (omega arith, tt)))

both_of : (rs : List NetKey) → AllByRecursion NetInRange rs → AllByRecursion HasFew rs
    → AllByRecursion FloorsInRange rs
both_of [] all few = tt
both_of (r ∷ rs) all few = ((all.0, few.0), both_of rs all.1 few.1)

pub record_in : (s : NodeState) → keeps_rules s ≡ true → StateInRange s → AreBytes (record_of s)
unfolding record_of
record_in s e is =
    let floors = filtered FloorsInRange (λ (r : NetKey). r.live) s.nets (both_of s.nets is.0 (few_floors s e)) in
    let pairs = two_bytes (length s.pairs) ++ flat_map pair_bytes s.pairs in
    let links = flat_map link_bytes s.links ++ pairs in
    let floored = flat_map floors_bytes (live_nets s) ++ (two_bytes (length s.links) ++ links) in
    let nets = flat_map net_bytes s.nets ++ floored in
    let placed = two_bytes (active_place s) ++ nets in
    let all = two_bytes (length s.nets) ++ placed in
    let pairs_in : AreBytes pairs = bytes_append (two_bytes (length s.pairs)) (flat_map pair_bytes s.pairs)
    (two_in (length s.pairs)) (bytes_of PairInRange pair_bytes pair_in s.pairs is.2) in
    let links_in : AreBytes links = bytes_append (flat_map link_bytes s.links) pairs
    (bytes_of LinkInRange link_bytes link_in s.links is.1) pairs_in in
    let floored_in : AreBytes floored =
    bytes_append (flat_map floors_bytes (live_nets s)) (two_bytes (length s.links) ++ links)
    (bytes_of FloorsInRange floors_bytes floors_in (live_nets s) floors)
    (bytes_append (two_bytes (length s.links)) links (two_in (length s.links)) links_in) in
    let nets_in : AreBytes nets = bytes_append (flat_map net_bytes s.nets) floored
    (bytes_of NetInRange net_bytes net_in s.nets is.0) floored_in in
    let all_in : AreBytes all = bytes_append (two_bytes (length s.nets)) placed (two_in (length s.nets))
    (bytes_append (two_bytes (active_place s)) nets (two_in (active_place s)) nets_in) in (
      omega arith,
      (
        role_in s.role,
        (
          state_in s.state,
          bytes_append (four_bytes s.declared) (four_bytes s.aps_limit ++ (worth 1 s.sending ∷ all))
              (four_in s.declared)
              (bytes_append (four_bytes s.aps_limit) (worth 1 s.sending ∷ all) (four_in s.aps_limit)
              (omega (arith, worth_in 1 s.sending (omega arith)), all_in)),
        ),
      ),
    )
