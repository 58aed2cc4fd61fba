-- What a change asks of a state that keeps the rules for records, in addition to that it may be made: the rules are
-- kept after it. Each question is about the rows that the change touches.
use Rattle.std.specs.Prelude.{ℕ, Bool, true, not, ◌&&◌, ◌||◌, List, length, Option, Some, None, nat_eq, nat_lt}
use Rattle.std.specs.List.{list_any}
use Rattle.zb_model.specs.Data.{Bytes, Attribute, Nwk, Move, DropNet, Install, Row, Pair, Became, Roll, Edit, Floor, Moved}
use Rattle.zb_model.specs.State.{SenderFloor, NetKey, LinkKey, NodeState, same_key, is_centre, is_unverified, is_link, has_link, is_live_of, net_of, live_nets, is_active_key}
use Rattle.zb_model.specs.Fits.{most_nets, most_links, most_pairs, most_senders, same_bool, is_fresh}

abbrev pub has_floor : ℕ → List SenderFloor → Bool
has_floor sender floors = list_any (λ (f : SenderFloor). nat_eq f.sender sender) floors

-- a sender that has a floor, or room for one that isn't 0
abbrev pub floor_has_room : ℕ → ℕ → Option NetKey → Bool
floor_has_room sender value None = true
floor_has_room sender value (Some r) = has_floor sender r.floors
    || (nat_lt 0 value && nat_lt (length r.floors) most_senders)

-- another row of the partner in use, which is offered if and only if this one is to be offered
abbrev pub is_rival : ℕ → Bytes → Attribute → LinkKey → Bool
is_rival partner key attribute r = (is_live_of partner r && not (is_link partner key r))
    && same_bool (is_unverified r.attribute) (is_unverified attribute)

abbrev pub key_is_used : Bytes → List LinkKey → Bool
key_is_used key links = list_any (λ (r : LinkKey). same_key r.key key) links

abbrev pub move_leaves : Move → NodeState → Bool
move_leaves (DropNet key) s = not (is_active_key s.active key)
move_leaves (Install key sequence) s = nat_lt (length s.nets) most_nets && nat_lt (length (live_nets s)) 2
move_leaves (Row partner key attribute) s =
    (has_link partner key s.links || (nat_lt (length s.links) (most_links s.role) && not (key_is_used key s.links)))
    && not (list_any (is_rival partner key attribute) s.links)
move_leaves (Pair first second key) s = is_centre s.role && (nat_lt (length s.pairs) most_pairs && nat_lt first second)
move_leaves (Became state) s = not (is_centre s.role) || is_fresh state
move_leaves (Roll sending) s = not sending || is_centre s.role
move_leaves _ s = true

unfoldable pub leaves_rules : Edit → NodeState → Bool
leaves_rules (Floor Nwk key sender value) s = floor_has_room sender value (net_of key s)
leaves_rules (Moved move) s = move_leaves move s
leaves_rules _ s = true
