-- The rules that every stored state keeps, and when a change fits a state. No rule of the policy breaks them, and a
-- journal that is read back must not break them.
use Rattle.std.specs.Prelude.{ℕ, ◌≡◌, Bool, true, false, not, if◌then◌else◌, ◌&&◌, ◌||◌, List, [], ◌∷◌, find, length, Option, Some, None, nat_eq, nat_lt, nat_le, is_some, is_none}
use Rattle.std.specs.List.{list_any, list_all}
use Rattle.zb_model.specs.Data.{Bytes, Role, State, Fresh, Nwk, Aps, Move, Draw, DropNet, DropLink, Install, Active, Row, Pair, Became, Live, Removed, Roll, Told, Untold, Edit, Reserve, Floor, Start, Moved}
use Rattle.zb_model.specs.State.{SenderFloor, NetKey, LinkKey, PairKey, NodeState, same_key, is_centre, is_provisional, is_unverified, has_net, is_link, net_of, active_row, live_nets, is_live, pair_of, stored_limit, sender_floor, applied}

-- How many rows there may be: 256 network keys, 1,024 link keys at the centre and 64 elsewhere, 256 pairs, 64 senders
-- with a floor under one network key.
abbrev pub most_nets : ℕ
most_nets = 256

abbrev pub most_centre_links : ℕ
most_centre_links = 1024

abbrev pub most_member_links : ℕ
most_member_links = 64

abbrev pub most_links : Role → ℕ
most_links role = if is_centre role then most_centre_links else most_member_links

abbrev pub most_pairs : ℕ
most_pairs = 256

abbrev pub most_senders : ℕ
most_senders = 64

-- no two items satisfy the test
abbrev pub all_apart : {X : Type 0} → (X → X → Bool) → List X → Bool
all_apart alike [] = true
all_apart alike (x ∷ xs) = not (list_any (alike x) xs) && all_apart alike xs

unfoldable pub rows_have_room : NodeState → Bool
rows_have_room s = nat_le (length s.nets) most_nets
    && (nat_le (length s.links) (most_links s.role) && nat_le (length s.pairs) most_pairs)

unfoldable pub keys_differ : NodeState → Bool
keys_differ s = all_apart (λ (a b : NetKey). same_key a.key b.key) s.nets
    && all_apart (λ (a b : LinkKey). same_key a.key b.key) s.links

unfoldable pub at_most_two_live : NodeState → Bool
at_most_two_live s = nat_le (length (live_nets s)) 2

abbrev pub row_is_live : Option NetKey → Bool
row_is_live None = false
row_is_live (Some r) = r.live

unfoldable pub active_is_live : NodeState → Bool
active_is_live s = named s.active
  where
    named : Option Bytes → Bool
    named None = true
    named (Some key) = row_is_live (net_of key s)

-- A partner has at most one live unverified row and at most one other live row, and they agree on whether it was told.
abbrev pub like_rows : LinkKey → LinkKey → Bool
like_rows a b = a.live && (b.live && nat_eq a.partner b.partner)

abbrev pub same_bool : Bool → Bool → Bool
same_bool a b = if a then b else not b

unfoldable pub partners_agree : NodeState → Bool
partners_agree s =
    all_apart (λ (a b : LinkKey). like_rows a b && same_bool (is_unverified a.attribute) (is_unverified b.attribute))
    s.links
    && all_apart (λ (a b : LinkKey). like_rows a b && not (same_bool a.told b.told)) s.links

-- A told row is a live row of the centre; a row that was ever provisional is from a code.
unfoldable pub links_are_marked : NodeState → Bool
links_are_marked s =
    list_all
    (λ (r : LinkKey). (not r.told || (r.live && is_centre s.role)) && (not (is_provisional r.attribute) || r.code))
    s.links

-- stored floors aren't 0, and are in ascending order of sender
abbrev pub senders_ascend : List SenderFloor → Bool
senders_ascend [] = true
senders_ascend (f ∷ fs) = list_all (λ (g : SenderFloor). nat_lt f.sender g.sender) fs && senders_ascend fs

unfoldable pub floors_are_kept : NodeState → Bool
floors_are_kept s =
    list_all
    (λ (r : NetKey). nat_le (length r.floors) most_senders
    && (list_all (λ (f : SenderFloor). nat_lt 0 f.stored) r.floors && senders_ascend r.floors)) s.nets

unfoldable pub limits_are_started : NodeState → Bool
limits_are_started s = list_all (λ (r : NetKey). r.started || nat_eq r.limit 0) s.nets

abbrev pub is_fresh : State → Bool
is_fresh Fresh = true
is_fresh _ = false

-- The centre has no state of a joining node; only the centre has pairs and a rollover.
unfoldable pub role_is_kept : NodeState → Bool
role_is_kept s = if is_centre s.role then is_fresh s.state else not s.sending && nat_eq (length s.pairs) 0

unfoldable pub pairs_are_kept : NodeState → Bool
pairs_are_kept s = list_all (λ (p : PairKey). nat_lt p.first p.second) s.pairs
    && all_apart (λ (a b : PairKey). nat_eq a.first b.first && nat_eq a.second b.second) s.pairs

-- all rules for records
unfoldable pub keeps_rules : NodeState → Bool
keeps_rules s =
    rows_have_room s
    && (keys_differ s && (at_most_two_live s && (active_is_live s && (partners_agree s && (links_are_marked s
    && (floors_are_kept s && (limits_are_started s && (role_is_kept s && pairs_are_kept s))))))))

-- What a change requires of the state before it

abbrev pub live_net : Bytes → NodeState → Bool
live_net key s = row_is_live (net_of key s)

abbrev pub live_link : ℕ → Bytes → NodeState → Bool
live_link partner key s = list_any (λ (r : LinkKey). is_link partner key r && r.live) s.links

abbrev pub net_stored : ℕ → Option NetKey → ℕ
net_stored sender None = 0
net_stored sender (Some r) = (sender_floor sender r).stored

abbrev pub link_stored : Option LinkKey → ℕ
link_stored None = 0
link_stored (Some r) = r.stored

abbrev pub net_limit : Option NetKey → ℕ
net_limit None = 0
net_limit (Some r) = r.limit

-- Whether a rule may make this change to a state.
abbrev pub may_move : Move → NodeState → Bool
-- a draw requires nothing
may_move (Draw key) s = true
-- a drop requires a live row
may_move (DropNet key) s = live_net key s
may_move (DropLink partner key) s = live_link partner key s
-- an install requires that the key has no row yet
may_move (Install key sequence) s = not (has_net key s.nets)
-- a switch of the active key requires a live row
may_move (Active key) s = live_net key s
-- a link key requires nothing
may_move (Row partner key attribute) s = true
-- a pair requires that the two have none yet
may_move (Pair first second key) s = is_none (pair_of s first second)
-- a state requires nothing
may_move (Became state) s = true
-- a live device requires a live row of it, at the centre alone
may_move (Live device) s = is_centre s.role && is_live s device
-- a removed device requires that it has no live row, at the centre alone
may_move (Removed device) s = is_centre s.role && not (is_live s device)
-- a rollover requires nothing
may_move (Roll sending) s = true
-- a told or untold device requires a live row of it, at the centre alone
may_move (Told device) s = is_centre s.role && is_live s device
may_move (Untold device) s = is_centre s.role && is_live s device

-- Whether this change may be made to a state.
abbrev pub may_change : Edit → NodeState → Bool
-- a reserve at NWK requires an active row, and isn't below the one that it replaces
may_change (Reserve Nwk limit) s = is_some (active_row s) && nat_le (stored_limit Nwk s) limit
-- a reserve at APS isn't below the one that it replaces
may_change (Reserve Aps limit) s = nat_le s.aps_limit limit
-- a floor at NWK requires a live network key, and isn't below the one that it replaces
may_change (Floor Nwk key sender value) s = live_net key s && nat_le (net_stored sender (net_of key s)) value
-- a floor at APS requires a live link key, and isn't below the one that it replaces
may_change (Floor Aps key sender value) s = live_link sender key s
    && nat_le (link_stored (find (is_link sender key) s.links)) value
-- a start requires a row of its key, and isn't below its limit
may_change (Start key value) s = has_net key s.nets && nat_le (net_limit (net_of key s)) value
-- a change by a rule requires what is stated above
may_change (Moved move) s = may_move move s

-- A change fits if it may be made and the state after it keeps the rules; changes fit if each one fits the state after
-- those before it. A draw changes nothing and always fits.
unfoldable pub fits : Edit → NodeState → Bool
fits (Moved (Draw key)) s = true
fits e s = may_change e s && keeps_rules (applied e s)

unfoldable pub all_fit : List Edit → NodeState → Bool
all_fit [] s = true
all_fit (e ∷ es) s = fits e s && all_fit es (applied e s)

abbrev pub AllFit : List Edit → NodeState → Type 0
AllFit es s = all_fit es s ≡ true
