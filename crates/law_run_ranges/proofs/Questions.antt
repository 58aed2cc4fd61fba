-- What rules find in a state is in its range.
use Rattle.std.proofs.Common.{ℕ, cond, not, ◌&&◌, nat_eq, nat_le, List, [], ◌∷◌, map, filter, find, fold, length, Option, Some, None, IfSome, arith}
use Rattle.std.specs.List.{AllByRecursion}
use Rattle.zb_model.specs.Data.{Bytes, Move}
use Rattle.zb_model.specs.OwnEvents.{is_waiting, least, next_member}
use Rattle.zb_model.specs.Rules.{unless_held, drop_link, drop_partner, drop_others, drop_row, first_drop, drop_old}
use Rattle.zb_model.specs.State.{NetKey, LinkKey, NodeState, same_key, is_live_of, is_unverified, names_two, net_of_active, active_row, live_nets, usable_nets, may_use, newest, usable_of, live_of, current, offered, code_row, other_user, pair_of, is_active_key}
use Rattle.law_run_ranges.specs.Ranges.{IsEui, IsKey, MoveInRange}
use Rattle.law_run_ranges.proofs.Lists.{found, last_found, filtered, if_then}
use Rattle.law_run_ranges.proofs.States.{NetInRange, LinkInRange, PairInRange, StateInRange}

in_active_row : (o : Option Bytes) (s : NodeState) → StateInRange s → IfSome (net_of_active o s) NetInRange
in_active_row None s is = tt
in_active_row (Some key) s is = found NetInRange (λ (r : NetKey). same_key r.key key) s.nets is.0

pub active_in : (s : NodeState) → StateInRange s → IfSome (active_row s) NetInRange
unfolding active_row
active_in s is = in_active_row s.active s is

live_in : (s : NodeState) → StateInRange s → AllByRecursion NetInRange (live_nets s)
live_in s is = filtered NetInRange (λ (r : NetKey). r.live) s.nets is.0

pub newest_in : (s : NodeState) → StateInRange s → IfSome (newest s) NetInRange
unfolding newest
newest_in s is = last_found NetInRange (λ (r : NetKey). r.live) s.nets is.0

pub usable_in : (s : NodeState) (sequence : ℕ) → StateInRange s → IfSome (usable_of s sequence) NetInRange
unfolding usable_of usable_nets
usable_in s sequence is =
    last_found NetInRange (λ (r : NetKey). nat_eq r.sequence sequence) (cond (may_use s) (live_nets s) [])
    (if_then (λ (l : List NetKey). AllByRecursion NetInRange l) (may_use s) (live_nets s) [] (live_in s is) tt)

pub live_of_in : (s : NodeState) (sequence : ℕ) → StateInRange s → IfSome (live_of s sequence) NetInRange
unfolding live_of
live_of_in s sequence is = last_found NetInRange (λ (r : NetKey). r.live && nat_eq r.sequence sequence) s.nets is.0

pub current_in : (s : NodeState) (partner : ℕ) → StateInRange s → IfSome (current s partner) LinkInRange
unfolding current
current_in s partner is = found LinkInRange (λ (r : LinkKey). is_live_of partner r && not (is_unverified r.attribute))
    s.links is.1

pub offered_in : (s : NodeState) (partner : ℕ) → StateInRange s → IfSome (offered s partner) LinkInRange
unfolding offered
offered_in s partner is = found LinkInRange (λ (r : LinkKey). is_live_of partner r && is_unverified r.attribute)
    s.links is.1

pub live_link_in : (s : NodeState) (partner : ℕ) → StateInRange s
    → IfSome (find (is_live_of partner) s.links) LinkInRange
live_link_in s partner is = found LinkInRange (is_live_of partner) s.links is.1

pub code_row_in : (s : NodeState) (centre : ℕ) → StateInRange s → IfSome (code_row s centre) LinkInRange
unfolding code_row
code_row_in s centre is = found LinkInRange (λ (r : LinkKey). nat_eq r.partner centre && r.code) s.links is.1

pub other_user_in : (s : NodeState) (partner : ℕ) (key : Bytes) → StateInRange s
    → IfSome (other_user s partner key) LinkInRange
unfolding other_user
other_user_in s partner key is =
    found LinkInRange (λ (r : LinkKey). same_key r.key key && not (nat_eq r.partner partner)) s.links is.1

pub pair_in : (s : NodeState) (a b : ℕ) → StateInRange s → IfSome (pair_of s a b) PairInRange
unfolding pair_of
pair_in s a b is = found PairInRange (names_two a b) s.pairs is.2

-- ---- the supply

pub held_in : (s : NodeState) (draw : Option Bytes) → IfSome draw IsKey → IfSome (unless_held s draw) IsKey
held_in s None is = tt
held_in s (Some key) is = if_then (λ (o : Option Bytes). IfSome o IsKey) _ None (Some key) tt is

-- ---- drops

pub drops_in : (rs : List LinkKey) → AllByRecursion LinkInRange rs → AllByRecursion MoveInRange (map drop_link rs)
drops_in [] all = tt
drops_in (r ∷ rs) all = ((all.0.0, all.0.1), drops_in rs all.1)

pub drop_partner_in : (s : NodeState) (partner : ℕ) → StateInRange s
    → AllByRecursion MoveInRange (drop_partner s partner)
unfolding drop_partner
drop_partner_in s partner is = drops_in (filter (is_live_of partner) s.links)
    (filtered LinkInRange (is_live_of partner) s.links is.1)

pub drop_others_in : (s : NodeState) (partner : ℕ) (key : Bytes) → StateInRange s
    → AllByRecursion MoveInRange (drop_others s partner key)
unfolding drop_others
drop_others_in s partner key is =
    drops_in _ (filtered LinkInRange (λ (r : LinkKey). is_live_of partner r && not (same_key r.key key)) s.links is.1)

pub drop_row_in : (o : Option LinkKey) → IfSome o LinkInRange → AllByRecursion MoveInRange (drop_row o)
drop_row_in None is = tt
drop_row_in (Some r) is = ((is.0, is.1), tt)

first_in : (rs : List NetKey) → AllByRecursion NetInRange rs → AllByRecursion MoveInRange (first_drop rs)
first_in [] all = tt
first_in (r ∷ rs) all = (all.0.0, tt)

pub drop_old_in : (s : NodeState) → StateInRange s → AllByRecursion MoveInRange (drop_old s)
unfolding drop_old
drop_old_in s is =
    if_then (λ (l : List Move). AllByRecursion MoveInRange l) (nat_le 2 (length (live_nets s))) _ []
    (first_in _
    (filtered NetInRange (λ (r : NetKey). not (is_active_key s.active r.key)) (live_nets s) (live_in s is))) tt

-- ---- the device that a rollover reaches next

least_in : (o : Option ℕ) (n : ℕ) → IfSome o IsEui → IsEui n → IfSome (least o n) IsEui
least_in None n is e = e
least_in (Some m) n is e = omega arith

least_of : (rs : List LinkKey) (o : Option ℕ) → IfSome o IsEui → AllByRecursion LinkInRange rs
    → IfSome (fold (λ (best : Option ℕ) (r : LinkKey). least best r.partner) o rs) IsEui
least_of [] o is all = is
least_of (r ∷ rs) o is all = least_of rs (least o r.partner) (least_in o r.partner is all.0.0) all.1

pub next_member_in : (s : NodeState) → StateInRange s → IfSome (next_member s) IsEui
unfolding next_member
next_member_in s is = least_of (filter is_waiting s.links) None tt (filtered LinkInRange is_waiting s.links is.1)
