-- The events of a node's own, one rule each: why they are refused, in order, and what they do. This project's profile
-- of Zigbee 05-3474-21, chapter 4.
use Rattle.std.specs.Prelude.{ℕ, ◌+◌, ◌%◌, min, Bool, true, false, not, if◌then◌else◌, ◌&&◌, ◌||◌, List, [], ◌∷◌, ◌++◌, filter, Option, Some, None, nat_eq, is_some, find, fold}
use Rattle.zb_model.specs.Data.{Bytes, Nwk, Aps, State, Knocked, Joined, Offered, Rejoining, Provisional, ForData, ForTransport, ForLoad, Move, Draw, Install, Active, Row, Became, Live, Removed, Roll, Told, Untold, NoKey, NotMember, WrongState, KeysFull, RowsFull, KeyInUse, NoDraw, CounterSpent, Policy, TransportNet, TransportApp, UpdateDevice, RemoveDevice, RequestApp, RequestLink, SwitchKey, VerifyKey, Task, SayTo, TellTo, DoKnock, DoRejoin, DoTimer, AskFor, HasChild, DoProvision, DoRemove, DoRoll, DoSwitch, DoAgain, DoShare}
use Rattle.zb_model.specs.State.{NetKey, LinkKey, NodeState, is_centre, is_live_of, has_link, active_row, usable_active, newest, current, offered, is_live, is_told, code_row, other_user, pair_of}
use Rattle.zb_model.specs.Tools.{Tools, verify_hash}
use Rattle.zb_model.specs.Frames.{clear_command, clear_broadcast, to_all}
use Rattle.zb_model.specs.Rules.{Saying, Clear, Secret, Telling, Leaving, Sending, Outcome, Stop, Does, Setting, refuse_if, refuse_unless, found_or, choose, sends, centre_of, short_of, spent, both_spent, in_rejoining, in_confirmed, has_joined, nets_full, links_full, unless_held, drop_partner, drop_others, drop_old}

-- Of every node

-- say: application data to a short address, without APS security
unfoldable pub say : NodeState → ℕ → Bytes → Outcome
say s to bytes =
    found_or (usable_active s) NoKey (λ net.
    refuse_if (in_rejoining s.state) WrongState (
    refuse_if (spent Nwk s) CounterSpent (
    Does [] (sends to true (Saying bytes)))))

-- Of routers and devices

-- knock: a device asks to join. Its code's row is its only live row of the centre, and provisional again.
unfoldable pub knock : Setting → NodeState → Outcome
knock c s =
    found_or (code_row s (centre_of c.stations)) NoKey (λ row.
    Does (drop_others s row.partner row.key ++ (Row row.partner row.key Provisional ∷ Became Knocked ∷ [])) None)

-- rejoin: a member that missed changes of the network key asks to rejoin
unfoldable pub rejoin : NodeState → Outcome
rejoin s =
    refuse_unless (has_joined s.state) WrongState (
    Does (Became Rejoining ∷ []) None)

-- timer, joined: the device asks for a link key of its own (Request-Key, type 4)
unfoldable pub request_key : Setting → NodeState → Outcome
request_key c s =
    found_or (current s (centre_of c.stations)) NoKey (λ row.
    refuse_if (both_spent s) CounterSpent (
    Does [] (sends 0 true (Secret ForData row.key RequestLink))))

-- timer, offered: the device proves the offered key (Verify-Key)
unfoldable pub verify_key : Tools → Setting → NodeState → Outcome
verify_key tools c s =
    -- decides nothing in a run: a node in Offered has an offered row
    found_or (offered s (centre_of c.stations)) NoKey (λ row.
    refuse_if (spent Nwk s) CounterSpent (
    Does [] (sends 0 true (Clear clear_command (VerifyKey 4 c.me.eui (verify_hash tools row.key))))))

abbrev pub timer_in : State → Tools → Setting → NodeState → Outcome
timer_in Joined tools c s = request_key c s
timer_in Offered tools c s = verify_key tools c s
timer_in _ tools c s = Stop WrongState

-- timer: the next step of the key exchange with the centre; there is none in Confirmed and Rejoining
unfoldable pub member_timer : Tools → Setting → NodeState → Outcome
member_timer tools c s =
    found_or (usable_active s) NoKey (λ net.
    timer_in s.state tools c s)

-- ask: the node asks the centre for a key with a partner (Request-Key, type 2)
unfoldable pub ask : Setting → NodeState → ℕ → Outcome
ask c s partner =
    found_or (usable_active s) NoKey (λ net.
    found_or (current s (centre_of c.stations)) NoKey (λ row.
    refuse_unless (in_confirmed s.state) WrongState (
    refuse_if (both_spent s) CounterSpent (
    Does [] (sends 0 true (Secret ForData row.key (RequestApp partner)))))))

-- tell: application data under the key shared with a partner
unfoldable pub tell : Setting → NodeState → ℕ → Bytes → Outcome
tell c s partner bytes =
    found_or (usable_active s) NoKey (λ net.
    found_or (find (is_live_of partner) s.links) NoKey (λ row.
    refuse_if (in_rejoining s.state) WrongState (
    refuse_if (both_spent s) CounterSpent (
    Does [] (sends (short_of c partner) true (Telling row.key bytes))))))

-- Of routers

-- Update-Device's status: 1 for a join, 3 for a rejoin
abbrev pub child_status : Bool → ℕ
child_status rejoin = if rejoin then 3 else 1

-- sealed under the current link row, or without APS security if there is none
abbrev pub report_child : Setting → NodeState → ℕ → Bool → Option LinkKey → Outcome
report_child c s child rejoin None =
    refuse_if (spent Nwk s) CounterSpent (
    Does [] (sends 0 true (Clear clear_command (UpdateDevice child (short_of c child) (child_status rejoin)))))
report_child c s child rejoin (Some row) =
    refuse_if (both_spent s) CounterSpent (
    Does [] (sends 0 true (Secret ForData row.key (UpdateDevice child (short_of c child) (child_status rejoin)))))

-- child, at a router: the router reports it to the centre (Update-Device)
unfoldable pub child_of_router : Setting → NodeState → ℕ → Bool → Outcome
child_of_router c s child rejoin =
    found_or (usable_active s) NoKey (λ net.
    refuse_if (in_rejoining s.state) WrongState (
    report_child c s child rejoin (current s (centre_of c.stations))))

-- Of the centre

-- child, at the centre: the network key to a live device, under its current link key's transport key
unfoldable pub child_of_centre : Setting → NodeState → ℕ → Outcome
child_of_centre c s child =
    found_or (active_row s) NoKey (λ net.
    found_or (current s child) NotMember (λ row.
    refuse_if (spent Aps s) CounterSpent (
    Does []
    (sends (short_of c child) false
    (Secret ForTransport row.key (TransportNet net.key net.sequence child c.me.eui))))))

-- the smallest EUI among live devices that weren't sent the new network key
abbrev pub is_waiting : LinkKey → Bool
is_waiting r = r.live && not r.told

abbrev pub least : Option ℕ → ℕ → Option ℕ
least None n = Some n
least (Some m) n = Some (min m n)

unfoldable pub next_member : NodeState → Option ℕ
next_member s = fold (λ (best : Option ℕ) (r : LinkKey). least best r.partner) None (filter is_waiting s.links)

-- in a rollover that hasn't reached every member
unfoldable pub is_unfinished : NodeState → Bool
is_unfinished s = s.sending && is_some (next_member s)

-- timer, at the centre: the newest network key to the next member
unfoldable pub centre_timer : Setting → NodeState → Outcome
centre_timer c s =
    found_or (active_row s) NoKey (λ net.
    refuse_unless s.sending WrongState (
    found_or (next_member s) WrongState (λ device.
    -- neither decides in a run: the active row is live, so there is a newest row; and each live device has a current
    -- row
    found_or (newest s) NoKey (λ new.
    found_or (current s device) WrongState (λ row.
    refuse_if (both_spent s) CounterSpent (
    Does (Told device ∷ [])
    (sends (short_of c device) true
    (Secret ForTransport row.key (TransportNet new.key new.sequence device c.me.eui)))))))))

-- provision: a device's code is entered, and the device becomes live
abbrev pub provision_new : NodeState → ℕ → Bytes → Option LinkKey → Outcome
provision_new s device key (Some other) = Stop (KeyInUse other.partner)
provision_new s device key None = Does (Row device key Provisional ∷ Live device ∷ []) None

unfoldable pub provision : NodeState → ℕ → Bytes → Outcome
provision s device key =
    refuse_if (is_live s device) WrongState (
    refuse_if (not (has_link device key s.links) && links_full s) RowsFull (
    provision_new s device key (other_user s device key)))

-- remove: a device's rows are dropped, and the device or its parent gets a command, if one can be sealed
abbrev pub tell_leave : Setting → NodeState → ℕ → Option Sending
tell_leave c s device = if is_some (active_row s) && not (spent Nwk s) then sends (short_of c device) true Leaving
    else None

abbrev pub tell_parent : Setting → NodeState → ℕ → ℕ → Option LinkKey → Option Sending
tell_parent c s device via None = None
tell_parent c s device via (Some row) = if is_some (active_row s) && not (both_spent s)
    then sends (short_of c via) true (Secret ForData row.key (RemoveDevice device)) else None

unfoldable pub remove_device : Setting → NodeState → ℕ → ℕ → Outcome
remove_device c s device via =
    refuse_unless (is_live s device) NotMember (
    Does (drop_partner s device ++ Removed device ∷ [])
    (if nat_eq via c.me.eui then tell_leave c s device else tell_parent c s device via (current s via)))

-- roll: a new network key is drawn, which is then sent to each member
unfoldable pub roll : NodeState → Option Bytes → Outcome
roll s draw =
    found_or (active_row s) NoKey (λ net.
    refuse_if s.sending WrongState (
    refuse_if (nets_full s) KeysFull (
    found_or (unless_held s draw) NoDraw (λ key.
    Does (Draw key ∷ drop_old s ++ (Install key ((net.sequence + 1) % 256) ∷ Roll true ∷ [])) None))))

-- switch: the new network key becomes active once it was sent to every member, and all nodes get a Switch-Key. It is
-- sealed under the row that was active before.
abbrev pub switch_to : NetKey → List Move → Outcome
switch_to net moves = Does moves (sends to_all true (Clear clear_broadcast (SwitchKey net.sequence)))

unfoldable pub switch_over : NodeState → Outcome
switch_over s =
    found_or (active_row s) NoKey (λ net.
    refuse_if (is_unfinished s) WrongState (
    refuse_if (spent Nwk s) CounterSpent (
    choose s.sending
    -- decides nothing in a run: the active row is live, so there is a newest row
    (found_or (newest s) NoKey (λ new. switch_to new (Active new.key ∷ Roll false ∷ [])))
    (switch_to net []))))

-- again: the new network key is to be sent to a member again
unfoldable pub again : NodeState → ℕ → Outcome
again s device =
    refuse_unless (is_live s device) NotMember (
    refuse_if (not s.sending || not (is_told s device)) WrongState (
    Does (Untold device ∷ []) None))

-- share: the key of a pair to one of the two
unfoldable pub share : Setting → NodeState → ℕ → ℕ → Outcome
share c s device partner =
    found_or (active_row s) NoKey (λ net.
    refuse_unless (is_live s device && is_live s partner) NotMember (
    found_or (pair_of s device partner) WrongState (λ pair.
    -- decides nothing in a run: each live device has a current row
    found_or (current s device) NotMember (λ row.
    refuse_if (both_spent s) CounterSpent (
    Does [] (sends (short_of c device) true (Secret ForLoad row.key (TransportApp pair.key partner 0))))))))

-- The rule of each event of a node's own; an event that isn't for a node of its role is refused. This decides nothing
-- in a run: no schedule has one.

abbrev pub own_at_centre : Setting → NodeState → Task → Outcome
own_at_centre c s (SayTo to bytes) = say s to bytes
own_at_centre c s DoTimer = centre_timer c s
own_at_centre c s (HasChild child rejoin) = child_of_centre c s child
own_at_centre c s (DoProvision device key) = provision s device key
own_at_centre c s (DoRemove device via) = remove_device c s device via
own_at_centre c s (DoRoll draw) = roll s draw
own_at_centre c s DoSwitch = switch_over s
own_at_centre c s (DoAgain device) = again s device
own_at_centre c s (DoShare device partner) = share c s device partner
own_at_centre c s _ = Stop Policy

abbrev pub own_at_member : Tools → Setting → NodeState → Task → Outcome
own_at_member tools c s (SayTo to bytes) = say s to bytes
own_at_member tools c s (TellTo partner bytes) = tell c s partner bytes
own_at_member tools c s DoKnock = knock c s
own_at_member tools c s DoRejoin = rejoin s
own_at_member tools c s DoTimer = member_timer tools c s
own_at_member tools c s (AskFor partner) = ask c s partner
own_at_member tools c s (HasChild child rejoin) = child_of_router c s child rejoin
own_at_member tools c s _ = Stop Policy

unfoldable pub own : Tools → Setting → NodeState → Task → Outcome
own tools c s task = if is_centre c.me.role then own_at_centre c s task else own_at_member tools c s task
