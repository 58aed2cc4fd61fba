-- Each refusal of the policy's tables, computed on a small state: one lemma each.
use Rattle.std.specs.Prelude.{◌≡◌, ℕ, ◌+◌, true, false, List, [], ◌∷◌, ◌++◌, replicate, Some, None, refl}
use Rattle.zb_model.specs.Data.{Bytes, Role, Centre, Router, Device, Nwk, State, Knocked, Joined, Offered, Confirmed, Rejoining, Provisional, Unverified, Verified, Label, ForData, ForTransport, ForLoad, Station, AtNwk, Malformed, NotForMe, Unsecured, NoKey, CounterMax, Stale, BadMic, Policy, NotMember, WrongState, KeyOld, KeysFull, RowsFull, KeyInUse, NoDraw, CounterSpent, WrongHash}
use Rattle.zb_model.specs.State.{greatest_counter, LinkKey, NodeState, active_row, usable_nets, usable_active, newest, usable_of, live_of, current, offered, is_live, is_known, is_told, code_row, other_user, pair_of, next_counter, sender_floor}
use Rattle.zb_model.specs.Rules.{Stop, Setting, refuse_if, found_or, choose, station_of, station_at, centre_of, short_of, spent, both_spent, drop_partner, drop_others, drop_old}
use Rattle.zb_model.specs.OwnEvents.{say, knock, rejoin, request_key, verify_key, member_timer, ask, tell, child_of_router, child_of_centre, next_member, is_unfinished, centre_timer, provision, remove_device, roll, switch_over, again, share, own}
use Rattle.zb_model.specs.Judging.{Not, reject, need, judge_net, judge_nwk, candidates, judge_aps}
use Rattle.zb_model.specs.Commands.{Heard, take_net_key, take_row, take_link_key, take_app_key, take_switch, take_confirm, take_remove, take_tunnel, take_update, take_request, take_app_request, take_verify, take_command, take_leave}
use Rattle.zb_model.specs.Data.{Received}
use Rattle.zb_model.specs.Answer.{plan_of}
use Rattle.zb_model.proofs.Toy.{x, toy}
use Rattle.zb_model.proofs.Small.{node, k, net_at, link_of, bare, keyed_node}

-- Nodes: a centre 1, a device 2, a router 3, a device 4.
abbrev all : List Station
all = node Centre 1 0 ∷ node Device 2 258 ∷ node Router 3 259 ∷ node Device 4 260 ∷ []

abbrev seen_by : Role → ℕ → ℕ → Setting
seen_by role eui short = record { me = node role eui short; stations = all }

abbrev centre : Setting
centre = seen_by Centre 1 0

abbrev device : Setting
device = seen_by Device 2 258

abbrev router : Setting
router = seen_by Router 3 259

abbrev with_told_row : LinkKey → LinkKey
with_told_row r = record r { told = true }

-- a node whose NWK counter is at its end
abbrev spent_node : Role → State → List LinkKey → NodeState
spent_node role state links =
    record (bare role state) { nets = net_at 1 true greatest_counter ∷ []; active = Some (k 1); links = links }

abbrev spent_aps : NodeState → NodeState
spent_aps s = record s { aps_next = greatest_counter; aps_limit = greatest_counter }

abbrev sending_node : List LinkKey → NodeState
sending_node links = record (keyed_node Centre State.Fresh links) { sending = true }

abbrev full_nets : NodeState → NodeState
full_nets s = record s { nets = net_at 1 true 7 ∷ replicate 255 (net_at 9 false 0) }

abbrev full_links : ℕ → NodeState → NodeState
full_links n s = record s { links = s.links ++ replicate n (link_of 77 9 Verified false) }

abbrev full_pairs : NodeState → NodeState
full_pairs s = record s { pairs = replicate 256 (record { first = 70; second = 71; key = k 9 }) }

-- A command as it comes from the centre, or from a node, sealed with a label under a row, or not sealed.
abbrev sealed_from : ℕ → Label → LinkKey → Heard
sealed_from sender label row = record { sender = sender; label = Some label; row = Some row; nwk_source = Some sender }

abbrev clear_from : ℕ → Heard
clear_from sender = record { sender = sender; label = None; row = None; nwk_source = Some sender }

abbrev unsecured : Heard → Heard
unsecured m = record m { nwk_source = None }

-- the code's row with the centre, and an offered row
abbrev own_row : LinkKey
own_row = link_of 1 5 Verified true

abbrev offer : LinkKey
offer = link_of 1 6 Unverified true

-- the centre's rows of a device
abbrev their_row : ℕ → LinkKey
their_row d = link_of d (20 + d) Verified true

abbrev joining_row : ℕ → LinkKey
joining_row d = link_of d (30 + d) Provisional true

abbrev their_offer : ℕ → LinkKey
their_offer d = link_of d (40 + d) Unverified true

-- Frames of two nodes under the network key 1
abbrev header : Bytes
header = x "0802020100001E002D"

-- say

say_no_key : say (bare Device Knocked) 0 [] ≡ Stop NoKey
unfolding active_row found_or next_counter say spent refuse_if usable_active
say_no_key = refl

say_wrong_state : say (keyed_node Device Rejoining []) 0 [] ≡ Stop WrongState
unfolding active_row found_or next_counter say spent refuse_if usable_active
say_wrong_state = refl

say_counter_spent : say (spent_node Device Joined []) 0 [] ≡ Stop CounterSpent
unfolding active_row found_or next_counter say spent refuse_if usable_active
say_counter_spent = refl

-- knock, rejoin

knock_no_key : knock device (bare Device State.Fresh) ≡ Stop NoKey
unfolding centre_of code_row drop_others found_or knock
knock_no_key = refl

rejoin_wrong_state : rejoin (bare Device Knocked) ≡ Stop WrongState
unfolding rejoin refuse_if
rejoin_wrong_state = refl

-- child, at a router

child_router_no_key : child_of_router router (bare Router State.Fresh) 2 false ≡ Stop NoKey
unfolding active_row both_spent centre_of child_of_router current found_or next_counter rejoin short_of spent
    station_of refuse_if usable_active
child_router_no_key = refl

child_router_wrong_state : child_of_router router (keyed_node Router Rejoining []) 2 false ≡ Stop WrongState
unfolding active_row both_spent centre_of child_of_router current found_or next_counter rejoin short_of spent
    station_of refuse_if usable_active
child_router_wrong_state = refl

child_router_counter_spent : child_of_router router (spent_node Router Joined []) 2 false ≡ Stop CounterSpent
unfolding active_row both_spent centre_of child_of_router current found_or next_counter rejoin short_of spent
    station_of refuse_if usable_active
child_router_counter_spent = refl

child_router_aps_spent : child_of_router router (spent_aps (keyed_node Router Confirmed (own_row ∷ []))) 2 false
    ≡ Stop CounterSpent
unfolding active_row both_spent centre_of child_of_router current found_or next_counter rejoin short_of spent
    station_of refuse_if usable_active
child_router_aps_spent = refl

-- child, at the centre

child_centre_no_key : child_of_centre centre (bare Centre State.Fresh) 2 ≡ Stop NoKey
unfolding active_row child_of_centre current found_or next_counter short_of spent station_of refuse_if
child_centre_no_key = refl

child_centre_not_member : child_of_centre centre (keyed_node Centre State.Fresh []) 2 ≡ Stop NotMember
unfolding active_row child_of_centre current found_or next_counter short_of spent station_of refuse_if
child_centre_not_member = refl

child_centre_counter_spent : child_of_centre centre (spent_aps (keyed_node Centre State.Fresh (their_row 2 ∷ []))) 2
    ≡ Stop CounterSpent
unfolding active_row child_of_centre current found_or next_counter short_of spent station_of refuse_if
child_centre_counter_spent = refl

-- timer, at a router or device

timer_no_key : member_timer toy device (bare Device Knocked) ≡ Stop NoKey
unfolding active_row both_spent centre_of current found_or member_timer next_counter offered request_key spent toy
    refuse_if usable_active verify_key
timer_no_key = refl

timer_no_row : member_timer toy device (keyed_node Device Joined []) ≡ Stop NoKey
unfolding active_row both_spent centre_of current found_or member_timer next_counter offered request_key spent toy
    refuse_if usable_active verify_key
timer_no_row = refl

timer_confirmed : member_timer toy device (keyed_node Device Confirmed (own_row ∷ [])) ≡ Stop WrongState
unfolding active_row both_spent centre_of current found_or member_timer next_counter offered request_key spent toy
    refuse_if usable_active verify_key
timer_confirmed = refl

timer_rejoining : member_timer toy device (keyed_node Device Rejoining (own_row ∷ [])) ≡ Stop WrongState
unfolding active_row both_spent centre_of current found_or member_timer next_counter offered request_key spent toy
    refuse_if usable_active verify_key
timer_rejoining = refl

timer_joined_spent : member_timer toy device (spent_aps (keyed_node Device Joined (own_row ∷ []))) ≡ Stop CounterSpent
unfolding active_row both_spent centre_of current found_or member_timer next_counter offered request_key spent toy
    refuse_if usable_active verify_key
timer_joined_spent = refl

timer_offered_spent : member_timer toy device (spent_node Device Offered (own_row ∷ offer ∷ [])) ≡ Stop CounterSpent
unfolding active_row both_spent centre_of current found_or member_timer next_counter offered request_key spent toy
    refuse_if usable_active verify_key
timer_offered_spent = refl

-- timer, at the centre

timer_centre_no_key : centre_timer centre (bare Centre State.Fresh) ≡ Stop NoKey
unfolding active_row both_spent centre_timer current found_or newest next_counter next_member short_of spent
    station_of refuse_if
timer_centre_no_key = refl

timer_centre_idle : centre_timer centre (keyed_node Centre State.Fresh (their_row 2 ∷ [])) ≡ Stop WrongState
unfolding active_row both_spent centre_timer current found_or newest next_counter next_member short_of spent
    station_of refuse_if
timer_centre_idle = refl

timer_centre_all_told : centre_timer centre (sending_node (with_told_row (their_row 2) ∷ [])) ≡ Stop WrongState
unfolding active_row both_spent centre_timer current found_or newest next_counter next_member short_of spent
    station_of refuse_if
timer_centre_all_told = refl

timer_centre_counter_spent : centre_timer centre (spent_aps (sending_node (their_row 2 ∷ []))) ≡ Stop CounterSpent
unfolding active_row both_spent centre_timer current found_or newest next_counter next_member short_of spent
    station_of refuse_if
timer_centre_counter_spent = refl

-- provision

provision_wrong_state : provision (keyed_node Centre State.Fresh (their_row 2 ∷ [])) 2 (k 8) ≡ Stop WrongState
unfolding is_live other_user provision refuse_if
provision_wrong_state = refl

provision_rows_full : provision (full_links 1024 (keyed_node Centre State.Fresh [])) 2 (k 8) ≡ Stop RowsFull
unfolding is_live other_user provision refuse_if
provision_rows_full = refl

provision_key_in_use : provision (keyed_node Centre State.Fresh (their_row 4 ∷ [])) 2 (k 24) ≡ Stop (KeyInUse 4)
unfolding is_live other_user provision refuse_if
provision_key_in_use = refl

-- remove

remove_not_member : remove_device centre (keyed_node Centre State.Fresh []) 2 1 ≡ Stop NotMember
unfolding active_row both_spent current drop_partner is_live next_counter remove_device short_of spent station_of
    refuse_if
remove_not_member = refl

-- roll

roll_no_key : roll (bare Centre State.Fresh) (Some (k 8)) ≡ Stop NoKey
unfolding active_row drop_old found_or roll refuse_if
roll_no_key = refl

roll_wrong_state : roll (sending_node []) (Some (k 8)) ≡ Stop WrongState
unfolding active_row drop_old found_or roll refuse_if
roll_wrong_state = refl

roll_keys_full : roll (full_nets (keyed_node Centre State.Fresh [])) (Some (k 8)) ≡ Stop KeysFull
unfolding active_row drop_old found_or roll refuse_if
roll_keys_full = refl

roll_no_draw : roll (keyed_node Centre State.Fresh []) None ≡ Stop NoDraw
unfolding active_row drop_old found_or roll refuse_if
roll_no_draw = refl

-- switch

switch_no_key : switch_over (bare Centre State.Fresh) ≡ Stop NoKey
unfolding active_row choose found_or is_unfinished newest next_counter next_member spent switch_over refuse_if
switch_no_key = refl

switch_wrong_state : switch_over (sending_node (their_row 2 ∷ [])) ≡ Stop WrongState
unfolding active_row choose found_or is_unfinished newest next_counter next_member spent switch_over refuse_if
switch_wrong_state = refl

switch_counter_spent : switch_over (spent_node Centre State.Fresh []) ≡ Stop CounterSpent
unfolding active_row choose found_or is_unfinished newest next_counter next_member spent switch_over refuse_if
switch_counter_spent = refl

-- again

again_not_member : again (sending_node []) 2 ≡ Stop NotMember
unfolding again is_live is_told refuse_if
again_not_member = refl

again_idle : again (keyed_node Centre State.Fresh (with_told_row (their_row 2) ∷ [])) 2 ≡ Stop WrongState
unfolding again is_live is_told refuse_if
again_idle = refl

again_not_told : again (sending_node (their_row 2 ∷ [])) 2 ≡ Stop WrongState
unfolding again is_live is_told refuse_if
again_not_told = refl

-- ask

ask_no_key : ask device (bare Device Knocked) 4 ≡ Stop NoKey
unfolding active_row ask both_spent centre_of current found_or next_counter spent refuse_if usable_active
ask_no_key = refl

ask_no_row : ask device (keyed_node Device Confirmed []) 4 ≡ Stop NoKey
unfolding active_row ask both_spent centre_of current found_or next_counter spent refuse_if usable_active
ask_no_row = refl

ask_wrong_state : ask device (keyed_node Device Joined (own_row ∷ [])) 4 ≡ Stop WrongState
unfolding active_row ask both_spent centre_of current found_or next_counter spent refuse_if usable_active
ask_wrong_state = refl

ask_counter_spent : ask device (spent_aps (keyed_node Device Confirmed (own_row ∷ []))) 4 ≡ Stop CounterSpent
unfolding active_row ask both_spent centre_of current found_or next_counter spent refuse_if usable_active
ask_counter_spent = refl

-- share

share_no_key : share centre (bare Centre State.Fresh) 2 4 ≡ Stop NoKey
unfolding active_row both_spent current found_or is_live next_counter pair_of share short_of spent station_of refuse_if
share_no_key = refl

share_not_member : share centre (keyed_node Centre State.Fresh (their_row 2 ∷ [])) 2 4 ≡ Stop NotMember
unfolding active_row both_spent current found_or is_live next_counter pair_of share short_of spent station_of refuse_if
share_not_member = refl

share_wrong_state : share centre (keyed_node Centre State.Fresh (their_row 2 ∷ their_row 4 ∷ [])) 2 4 ≡ Stop WrongState
unfolding active_row both_spent current found_or is_live next_counter pair_of share short_of spent station_of refuse_if
share_wrong_state = refl

share_counter_spent : share centre
    (record (spent_node Centre State.Fresh (their_row 2 ∷ their_row 4 ∷ []))
    { pairs = record { first = 2; second = 4; key = k 9 } ∷ [] }) 2 4 ≡ Stop CounterSpent
unfolding active_row both_spent current found_or is_live next_counter pair_of share short_of spent station_of refuse_if
share_counter_spent = refl

-- tell

tell_no_key : tell device (bare Device Knocked) 4 [] ≡ Stop NoKey
unfolding active_row both_spent found_or next_counter short_of spent station_of tell refuse_if usable_active
tell_no_key = refl

tell_no_row : tell device (keyed_node Device Confirmed (own_row ∷ [])) 4 [] ≡ Stop NoKey
unfolding active_row both_spent found_or next_counter short_of spent station_of tell refuse_if usable_active
tell_no_row = refl

tell_wrong_state : tell device (keyed_node Device Rejoining (link_of 4 9 Verified true ∷ [])) 4 [] ≡ Stop WrongState
unfolding active_row both_spent found_or next_counter short_of spent station_of tell refuse_if usable_active
tell_wrong_state = refl

tell_counter_spent : tell device (spent_node Device Confirmed (link_of 4 9 Verified true ∷ [])) 4 []
    ≡ Stop CounterSpent
unfolding active_row both_spent found_or next_counter short_of spent station_of tell refuse_if usable_active
tell_counter_spent = refl

-- Transport-Key of a network key

net_key_policy_centre : take_net_key centre (keyed_node Centre State.Fresh []) (sealed_from 1 ForTransport own_row)
    (k 8) 0 1 1 ≡ Stop Policy
unfolding centre_of choose current drop_old offered take_net_key refuse_if
net_key_policy_centre = refl

net_key_policy_label : take_net_key device (bare Device Knocked) (sealed_from 1 ForData own_row) (k 8) 0 2 1
    ≡ Stop Policy
unfolding centre_of choose current drop_old offered take_net_key refuse_if
net_key_policy_label = refl

net_key_policy_sender : take_net_key device (bare Device Knocked) (sealed_from 4 ForTransport own_row) (k 8) 0 2 1
    ≡ Stop Policy
unfolding centre_of choose current drop_old offered take_net_key refuse_if
net_key_policy_sender = refl

net_key_policy_destination : take_net_key device (bare Device Knocked) (sealed_from 1 ForTransport own_row) (k 8) 0 4
    1 ≡ Stop Policy
unfolding centre_of choose current drop_old offered take_net_key refuse_if
net_key_policy_destination = refl

net_key_old : take_net_key device (record (bare Device Knocked) { nets = net_at 1 true 7 ∷ net_at 8 false 7 ∷ [] })
    (sealed_from 1 ForTransport own_row) (k 8) 0 2 1 ≡ Stop (KeyOld 1)
unfolding centre_of choose current drop_old offered take_net_key refuse_if
net_key_old = refl

net_key_keys_full : take_net_key device (full_nets (bare Device Knocked)) (sealed_from 1 ForTransport own_row) (k 8) 0
    2 1 ≡ Stop KeysFull
unfolding centre_of choose current drop_old offered take_net_key refuse_if
net_key_keys_full = refl

-- Transport-Key of a link key with the centre

link_key_policy_unsecured : take_link_key device (bare Device Knocked) (unsecured (sealed_from 1 ForLoad own_row))
    (k 8) 2 1 ≡ Stop Policy
unfolding centre_of choose current offered other_user take_link_key take_row refuse_if
link_key_policy_unsecured = refl

link_key_policy_label : take_link_key device (keyed_node Device Joined []) (sealed_from 1 ForTransport own_row) (k 8)
    2 1 ≡ Stop Policy
unfolding centre_of choose current offered other_user take_link_key take_row refuse_if
link_key_policy_label = refl

link_key_wrong_state : take_link_key device (keyed_node Device Rejoining []) (sealed_from 1 ForLoad own_row) (k 8) 2 1
    ≡ Stop WrongState
unfolding centre_of choose current offered other_user take_link_key take_row refuse_if
link_key_wrong_state = refl

link_key_rows_full : take_link_key device (full_links 64 (keyed_node Device Joined []))
    (sealed_from 1 ForLoad own_row) (k 8) 2 1 ≡ Stop RowsFull
unfolding centre_of choose current offered other_user take_link_key take_row refuse_if
link_key_rows_full = refl

link_key_in_use : take_link_key device (keyed_node Device Joined (link_of 4 8 Verified true ∷ []))
    (sealed_from 1 ForLoad own_row) (k 8) 2 1 ≡ Stop (KeyInUse 4)
unfolding centre_of choose current offered other_user take_link_key take_row refuse_if
link_key_in_use = refl

-- Transport-Key of a link key with a partner

app_key_policy_self : take_app_key device (keyed_node Device Confirmed []) (sealed_from 1 ForLoad own_row) (k 8) 2
    ≡ Stop Policy
unfolding centre_of choose drop_partner other_user station_of take_app_key take_row refuse_if
app_key_policy_self = refl

app_key_policy_centre : take_app_key device (keyed_node Device Confirmed []) (sealed_from 1 ForLoad own_row) (k 8) 1
    ≡ Stop Policy
unfolding centre_of choose drop_partner other_user station_of take_app_key take_row refuse_if
app_key_policy_centre = refl

app_key_not_member : take_app_key device (keyed_node Device Confirmed []) (sealed_from 1 ForLoad own_row) (k 8) 99
    ≡ Stop NotMember
unfolding centre_of choose drop_partner other_user station_of take_app_key take_row refuse_if
app_key_not_member = refl

app_key_wrong_state : take_app_key device (keyed_node Device Rejoining []) (sealed_from 1 ForLoad own_row) (k 8) 4
    ≡ Stop WrongState
unfolding centre_of choose drop_partner other_user station_of take_app_key take_row refuse_if
app_key_wrong_state = refl

app_key_rows_full : take_app_key device (full_links 64 (keyed_node Device Confirmed []))
    (sealed_from 1 ForLoad own_row) (k 8) 4 ≡ Stop RowsFull
unfolding centre_of choose drop_partner other_user station_of take_app_key take_row refuse_if
app_key_rows_full = refl

app_key_in_use : take_app_key device (keyed_node Device Confirmed (own_row ∷ [])) (sealed_from 1 ForLoad own_row)
    (k 5) 4 ≡ Stop (KeyInUse 1)
unfolding centre_of choose drop_partner other_user station_of take_app_key take_row refuse_if
app_key_in_use = refl

-- Update-Device

update_policy_sender : take_update centre (keyed_node Centre State.Fresh (their_row 2 ∷ [])) (clear_from 4) 2 1
    ≡ Stop Policy
unfolding active_row both_spent choose current found_or next_counter short_of spent station_of take_update refuse_if
update_policy_sender = refl

update_policy_status : take_update centre (keyed_node Centre State.Fresh (their_row 2 ∷ [])) (clear_from 3) 2 4
    ≡ Stop Policy
unfolding active_row both_spent choose current found_or next_counter short_of spent station_of take_update refuse_if
update_policy_status = refl

update_no_key : take_update centre (bare Centre State.Fresh) (clear_from 3) 2 1 ≡ Stop NoKey
unfolding active_row both_spent choose current found_or next_counter short_of spent station_of take_update refuse_if
update_no_key = refl

update_not_member : take_update centre (keyed_node Centre State.Fresh []) (clear_from 3) 2 1 ≡ Stop NotMember
unfolding active_row both_spent choose current found_or next_counter short_of spent station_of take_update refuse_if
update_not_member = refl

update_counter_spent : take_update centre (spent_aps (keyed_node Centre State.Fresh (their_row 2 ∷ [])))
    (clear_from 3) 2 3 ≡ Stop CounterSpent
unfolding active_row both_spent choose current found_or next_counter short_of spent station_of take_update refuse_if
update_counter_spent = refl

-- Remove-Device

remove_device_policy : take_remove device (keyed_node Device Joined []) (sealed_from 1 ForData own_row) 4 ≡ Stop Policy
unfolding active_row centre_of next_counter short_of spent station_of take_remove refuse_if
remove_device_policy = refl

remove_device_policy_centre : take_remove router (keyed_node Router Joined []) (sealed_from 1 ForData own_row) 1
    ≡ Stop Policy
unfolding active_row centre_of next_counter short_of spent station_of take_remove refuse_if
remove_device_policy_centre = refl

remove_device_not_member : take_remove router (keyed_node Router Joined []) (sealed_from 1 ForData own_row) 99
    ≡ Stop NotMember
unfolding active_row centre_of next_counter short_of spent station_of take_remove refuse_if
remove_device_not_member = refl

remove_device_counter_spent : take_remove router (spent_node Router Joined []) (sealed_from 1 ForData own_row) 4
    ≡ Stop CounterSpent
unfolding active_row centre_of next_counter short_of spent station_of take_remove refuse_if
remove_device_counter_spent = refl

-- Request-Key of a link key with the centre

request_policy_offered : take_request centre (keyed_node Centre State.Fresh (their_row 2 ∷ their_offer 2 ∷ []))
    (sealed_from 2 ForData (their_offer 2)) None ≡ Stop Policy
unfolding active_row both_spent current found_or next_counter offered short_of spent station_of take_request refuse_if
request_policy_offered = refl

request_rows_full : take_request centre (full_links 1023 (keyed_node Centre State.Fresh (their_row 2 ∷ [])))
    (sealed_from 2 ForData (their_row 2)) (Some (k 8)) ≡ Stop RowsFull
unfolding active_row both_spent current found_or next_counter offered short_of spent station_of take_request refuse_if
request_rows_full = refl

request_no_draw : take_request centre (keyed_node Centre State.Fresh (their_row 2 ∷ []))
    (sealed_from 2 ForData (their_row 2)) None ≡ Stop NoDraw
unfolding active_row both_spent current found_or next_counter offered short_of spent station_of take_request refuse_if
request_no_draw = refl

request_counter_spent : take_request centre
    (spent_aps (keyed_node Centre State.Fresh (their_row 2 ∷ their_offer 2 ∷ [])))
    (sealed_from 2 ForData (their_row 2)) None ≡ Stop CounterSpent
unfolding active_row both_spent current found_or next_counter offered short_of spent station_of take_request refuse_if
request_counter_spent = refl

request_new_counter_spent : take_request centre (spent_aps (keyed_node Centre State.Fresh (their_row 2 ∷ [])))
    (sealed_from 2 ForData (their_row 2)) (Some (k 8)) ≡ Stop CounterSpent
unfolding active_row both_spent current found_or next_counter offered short_of spent station_of take_request refuse_if
request_new_counter_spent = refl

-- Request-Key of a link key with a partner

app_request_policy_self : take_app_request centre (keyed_node Centre State.Fresh (their_row 2 ∷ their_row 4 ∷ []))
    (sealed_from 2 ForData (their_row 2)) (Some (k 8)) 2 ≡ Stop Policy
unfolding active_row both_spent current found_or is_live next_counter pair_of short_of spent station_of
    take_app_request refuse_if
app_request_policy_self = refl

app_request_not_member : take_app_request centre (keyed_node Centre State.Fresh (their_row 2 ∷ []))
    (sealed_from 2 ForData (their_row 2)) (Some (k 8)) 4 ≡ Stop NotMember
unfolding active_row both_spent current found_or is_live next_counter pair_of short_of spent station_of
    take_app_request refuse_if
app_request_not_member = refl

app_request_wrong_state : take_app_request centre (keyed_node Centre State.Fresh (their_row 2 ∷ joining_row 4 ∷ []))
    (sealed_from 2 ForData (their_row 2)) (Some (k 8)) 4 ≡ Stop WrongState
unfolding active_row both_spent current found_or is_live next_counter pair_of short_of spent station_of
    take_app_request refuse_if
app_request_wrong_state = refl

app_request_rows_full : take_app_request centre
    (full_pairs (keyed_node Centre State.Fresh (their_row 2 ∷ their_row 4 ∷ [])))
    (sealed_from 2 ForData (their_row 2)) (Some (k 8)) 4 ≡ Stop RowsFull
unfolding active_row both_spent current found_or is_live next_counter pair_of short_of spent station_of
    take_app_request refuse_if
app_request_rows_full = refl

app_request_no_draw : take_app_request centre (keyed_node Centre State.Fresh (their_row 2 ∷ their_row 4 ∷ []))
    (sealed_from 2 ForData (their_row 2)) None 4 ≡ Stop NoDraw
unfolding active_row both_spent current found_or is_live next_counter pair_of short_of spent station_of
    take_app_request refuse_if
app_request_no_draw = refl

app_request_counter_spent : take_app_request centre (spent_node Centre State.Fresh (their_row 2 ∷ their_row 4 ∷ []))
    (sealed_from 2 ForData (their_row 2)) (Some (k 8)) 4 ≡ Stop CounterSpent
unfolding active_row both_spent current found_or is_live next_counter pair_of short_of spent station_of
    take_app_request refuse_if
app_request_counter_spent = refl

-- Switch-Key

switch_key_policy : take_switch centre (keyed_node Centre State.Fresh []) (clear_from 1) 1 ≡ Stop Policy
unfolding centre_of found_or live_of take_switch refuse_if
switch_key_policy = refl

switch_key_policy_sender : take_switch device (keyed_node Device Joined []) (clear_from 4) 1 ≡ Stop Policy
unfolding centre_of found_or live_of take_switch refuse_if
switch_key_policy_sender = refl

switch_key_wrong_state : take_switch device (keyed_node Device Joined []) (clear_from 1) 2 ≡ Stop WrongState
unfolding centre_of found_or live_of take_switch refuse_if
switch_key_wrong_state = refl

-- Tunnel

tunnel_policy : take_tunnel device (keyed_node Device Joined []) (clear_from 1) 4 [] ≡ Stop Policy
unfolding centre_of short_of station_of take_tunnel refuse_if
tunnel_policy = refl

tunnel_not_member : take_tunnel router (keyed_node Router Joined []) (clear_from 1) 99 [] ≡ Stop NotMember
unfolding centre_of short_of station_of take_tunnel refuse_if
tunnel_not_member = refl

tunnel_not_member_self : take_tunnel router (keyed_node Router Joined []) (clear_from 1) 3 [] ≡ Stop NotMember
unfolding centre_of short_of station_of take_tunnel refuse_if
tunnel_not_member_self = refl

-- Verify-Key

verify_policy_source : take_verify toy centre (keyed_node Centre State.Fresh (their_row 2 ∷ [])) (clear_from 2) 4 4
    (k 8) ≡ Stop Policy
unfolding active_row both_spent choose current found_or is_live next_counter offered short_of spent station_of
    take_verify toy refuse_if
verify_policy_source = refl

verify_policy_sealed : take_verify toy centre (keyed_node Centre State.Fresh (their_row 2 ∷ []))
    (sealed_from 2 ForData (their_row 2)) 4 2 (k 8) ≡ Stop Policy
unfolding active_row both_spent choose current found_or is_live next_counter offered short_of spent station_of
    take_verify toy refuse_if
verify_policy_sealed = refl

verify_not_member : take_verify toy centre (keyed_node Centre State.Fresh []) (clear_from 2) 4 2 (k 8) ≡ Stop NotMember
unfolding active_row both_spent choose current found_or is_live next_counter offered short_of spent station_of
    take_verify toy refuse_if
verify_not_member = refl

verify_wrong_state : take_verify toy centre (keyed_node Centre State.Fresh (joining_row 2 ∷ [])) (clear_from 2) 4 2
    (k 8) ≡ Stop WrongState
unfolding active_row both_spent choose current found_or is_live next_counter offered short_of spent station_of
    take_verify toy refuse_if
verify_wrong_state = refl

verify_counter_spent : take_verify toy centre (spent_node Centre State.Fresh (joining_row 2 ∷ their_offer 2 ∷ []))
    (clear_from 2) 4 2 (k 8) ≡ Stop CounterSpent
unfolding active_row both_spent choose current found_or is_live next_counter offered short_of spent station_of
    take_verify toy refuse_if
verify_counter_spent = refl

verify_wrong_hash : take_verify toy centre (keyed_node Centre State.Fresh (joining_row 2 ∷ their_offer 2 ∷ []))
    (clear_from 2) 4 2 (k 8) ≡ Stop WrongHash
unfolding active_row both_spent choose current found_or is_live next_counter offered short_of spent station_of
    take_verify toy refuse_if
verify_wrong_hash = refl

-- Confirm-Key

confirm_policy_status : take_confirm device (keyed_node Device Offered (own_row ∷ offer ∷ []))
    (sealed_from 1 ForData offer) 1 4 2 ≡ Stop Policy
unfolding centre_of current found_or offered take_confirm refuse_if
confirm_policy_status = refl

confirm_policy_destination : take_confirm device (keyed_node Device Offered (own_row ∷ offer ∷ []))
    (sealed_from 1 ForData offer) 0 4 4 ≡ Stop Policy
unfolding centre_of current found_or offered take_confirm refuse_if
confirm_policy_destination = refl

confirm_rejoining : take_confirm device (keyed_node Device Rejoining (own_row ∷ offer ∷ []))
    (sealed_from 1 ForData offer) 0 4 2 ≡ Stop WrongState
unfolding centre_of current found_or offered take_confirm refuse_if
confirm_rejoining = refl

confirm_not_offered : take_confirm device (keyed_node Device Offered (own_row ∷ offer ∷ []))
    (sealed_from 1 ForData own_row) 0 4 2 ≡ Stop WrongState
unfolding centre_of current found_or offered take_confirm refuse_if
confirm_not_offered = refl

-- Leave

leave_policy_centre : take_leave centre
    (record {
      layer = Nwk;
      base = k 1;
      label = Label.ForNetwork;
      source = 3;
      counter = 0;
      control = 45;
      header = [];
      content = [];
    }) 64 ≡ Stop Policy
unfolding centre_of take_leave refuse_if
leave_policy_centre = refl

leave_policy_sender : take_leave device
    (record {
      layer = Nwk;
      base = k 1;
      label = Label.ForNetwork;
      source = 4;
      counter = 0;
      control = 45;
      header = [];
      content = [];
    }) 64 ≡ Stop Policy
unfolding centre_of take_leave refuse_if
leave_policy_sender = refl

leave_policy_options : take_leave device
    (record {
      layer = Nwk;
      base = k 1;
      label = Label.ForNetwork;
      source = 3;
      counter = 0;
      control = 45;
      header = [];
      content = [];
    }) 0 ≡ Stop Policy
unfolding centre_of take_leave refuse_if
leave_policy_options = refl

-- Verifying the NWK layer

nwk_malformed : judge_nwk toy device (keyed_node Device Joined []) (x "00") ≡ Not AtNwk Malformed
unfolding is_known is_live judge_net judge_nwk need reject sender_floor station_of toy usable_nets usable_of
nwk_malformed = refl

nwk_not_for_me : judge_nwk toy device (keyed_node Device Joined [])
    (x "0802040100001E00280000000001000000000000000101010101") ≡ Not AtNwk NotForMe
unfolding is_known is_live judge_net judge_nwk need reject sender_floor station_of toy usable_nets usable_of
nwk_not_for_me = refl

nwk_own_frame : judge_nwk toy device (keyed_node Device Joined [])
    (x "0802FFFF02011E00280000000001000000000000000101010101") ≡ Not AtNwk NotForMe
unfolding is_known is_live judge_net judge_nwk need reject sender_floor station_of toy usable_nets usable_of
nwk_own_frame = refl

nwk_routers_only : judge_nwk toy device (keyed_node Device Joined [])
    (x "0802FCFF00001E00280000000001000000000000000101010101") ≡ Not AtNwk NotForMe
unfolding is_known is_live judge_net judge_nwk need reject sender_floor station_of toy usable_nets usable_of
nwk_routers_only = refl

nwk_unsecured : judge_nwk toy device (keyed_node Device Joined []) (x "0800020100001E00") ≡ Not AtNwk Unsecured
unfolding is_known is_live judge_net judge_nwk need reject sender_floor station_of toy usable_nets usable_of
nwk_unsecured = refl

nwk_no_key : judge_nwk toy device (keyed_node Device Joined [])
    (x "0802020100001E00280000000001000000000000000201010101") ≡ Not AtNwk NoKey
unfolding is_known is_live judge_net judge_nwk need reject sender_floor station_of toy usable_nets usable_of
nwk_no_key = refl

nwk_no_key_knocked : judge_nwk toy device (keyed_node Device Knocked [])
    (x "0802020100001E00280000000001000000000000000101010101") ≡ Not AtNwk NoKey
unfolding is_known is_live judge_net judge_nwk need reject sender_floor station_of toy usable_nets usable_of
nwk_no_key_knocked = refl

nwk_counter_max : judge_nwk toy device (keyed_node Device Joined [])
    (x "0802020100001E0028FFFFFFFF01000000000000000101010101") ≡ Not AtNwk CounterMax
unfolding is_known is_live judge_net judge_nwk need reject sender_floor station_of toy usable_nets usable_of
nwk_counter_max = refl

nwk_stale : judge_nwk toy device
    (record (keyed_node Device Joined [])
    { nets = record (net_at 1 true 7) { floors = record { sender = 1; kept = 5; stored = 9 } ∷ [] } ∷ [] })
    (x "0802020100001E00280400000001000000000000000101010101") ≡ Not AtNwk (Stale 5)
unfolding is_known is_live judge_net judge_nwk need reject sender_floor station_of toy usable_nets usable_of
nwk_stale = refl

nwk_bad_mic : judge_nwk toy device (keyed_node Device Joined [])
    (x "0802020100001E00280000000001000000000000000109090909") ≡ Not AtNwk BadMic
unfolding is_known is_live judge_net judge_nwk need reject sender_floor station_of toy usable_nets usable_of
nwk_bad_mic = refl

nwk_not_declared : judge_nwk toy device (keyed_node Device Joined [])
    (x "0802020100001E00280000000063000000000000000101010101") ≡ Not AtNwk NotMember
unfolding is_known is_live judge_net judge_nwk need reject sender_floor station_of toy usable_nets usable_of
nwk_not_declared = refl

nwk_removed : judge_nwk toy centre (keyed_node Centre State.Fresh (link_of 2 22 Verified false ∷ []))
    (x "0802000002011E00280000000002000000000000000101010101") ≡ Not AtNwk NotMember
unfolding is_known is_live judge_net judge_nwk need reject sender_floor station_of toy usable_nets usable_of
nwk_removed = refl

nwk_rows_full : judge_nwk toy device
    (record (keyed_node Device Joined [])
    { nets = record (net_at 1 true 7) { floors = replicate 64 (record { sender = 50; kept = 5; stored = 9 }) } ∷ [] })
    (x "0802020100001E00280000000001000000000000000101010101") ≡ Not AtNwk RowsFull
unfolding is_known is_live judge_net judge_nwk need reject sender_floor station_of toy usable_nets usable_of
nwk_rows_full = refl

-- Verifying the APS part, and the payload of commands

aps_malformed :
    (plan_of toy device (keyed_node Device Joined [])
    (Received (x "0802020100001E0028000000000100000000000000010701010101") None)).outcome ≡ Stop Malformed
unfolding active_row again ask both_spent candidates centre_of centre_timer child_of_centre child_of_router choose
    code_row current drop_old drop_others drop_partner found_or is_known is_live is_told is_unfinished judge_aps
    judge_net judge_nwk knock live_of member_timer need newest next_counter next_member offered other_user own pair_of
    plan_of provision reject rejoin remove_device request_key roll say sender_floor share short_of spent station_at
    station_of switch_over take_app_key take_app_request take_confirm take_leave take_link_key take_net_key
    take_command take_remove take_request take_row take_switch take_tunnel take_update take_verify tell toy refuse_if
    usable_active usable_nets usable_of verify_key
aps_malformed = refl

aps_command_unknown :
    (plan_of toy device (keyed_node Device Joined [])
    (Received (x "0802020100001E00280000000001000000000000000101007F01010101") None)).outcome ≡ Stop Policy
unfolding active_row again ask both_spent candidates centre_of centre_timer child_of_centre child_of_router choose
    code_row current drop_old drop_others drop_partner found_or is_known is_live is_told is_unfinished judge_aps
    judge_net judge_nwk knock live_of member_timer need newest next_counter next_member offered other_user own pair_of
    plan_of provision reject rejoin remove_device request_key roll say sender_floor share short_of spent station_at
    station_of switch_over take_app_key take_app_request take_confirm take_leave take_link_key take_net_key
    take_command take_remove take_request take_row take_switch take_tunnel take_update take_verify tell toy refuse_if
    usable_active usable_nets usable_of verify_key
aps_command_unknown = refl

aps_command_broken :
    (plan_of toy device (keyed_node Device Joined [])
    (Received (x "0802020100001E00280000000001000000000000000101000801010101") None)).outcome ≡ Stop Malformed
unfolding active_row again ask both_spent candidates centre_of centre_timer child_of_centre child_of_router choose
    code_row current drop_old drop_others drop_partner found_or is_known is_live is_told is_unfinished judge_aps
    judge_net judge_nwk knock live_of member_timer need newest next_counter next_member offered other_user own pair_of
    plan_of provision reject rejoin remove_device request_key roll say sender_floor share short_of spent station_at
    station_of switch_over take_app_key take_app_request take_confirm take_leave take_link_key take_net_key
    take_command take_remove take_request take_row take_switch take_tunnel take_update take_verify tell toy refuse_if
    usable_active usable_nets usable_of verify_key
aps_command_broken = refl

aps_no_key :
    (plan_of toy device (keyed_node Device Joined [])
    (Received (x "0802020100001E00280000000001000000000000000121002000000000010000000000000008040505050501010101")
    None)).outcome ≡ Stop NoKey
unfolding active_row again ask both_spent candidates centre_of centre_timer child_of_centre child_of_router choose
    code_row current drop_old drop_others drop_partner found_or is_known is_live is_told is_unfinished judge_aps
    judge_net judge_nwk knock live_of member_timer need newest next_counter next_member offered other_user own pair_of
    plan_of provision reject rejoin remove_device request_key roll say sender_floor share short_of spent station_at
    station_of switch_over take_app_key take_app_request take_confirm take_leave take_link_key take_net_key
    take_command take_remove take_request take_row take_switch take_tunnel take_update take_verify tell toy refuse_if
    usable_active usable_nets usable_of verify_key
aps_no_key = refl

aps_counter_max :
    (plan_of toy device (keyed_node Device Joined (record own_row { kept = 5; stored = 9 } ∷ []))
    (Received (x "0802020100001E002800000000010000000000000001210020FFFFFFFF010000000000000008040505050501010101")
    None)).outcome ≡ Stop CounterMax
unfolding active_row again ask both_spent candidates centre_of centre_timer child_of_centre child_of_router choose
    code_row current drop_old drop_others drop_partner found_or is_known is_live is_told is_unfinished judge_aps
    judge_net judge_nwk knock live_of member_timer need newest next_counter next_member offered other_user own pair_of
    plan_of provision reject rejoin remove_device request_key roll say sender_floor share short_of spent station_at
    station_of switch_over take_app_key take_app_request take_confirm take_leave take_link_key take_net_key
    take_command take_remove take_request take_row take_switch take_tunnel take_update take_verify tell toy refuse_if
    usable_active usable_nets usable_of verify_key
aps_counter_max = refl

aps_stale :
    (plan_of toy device (keyed_node Device Joined (record own_row { kept = 5; stored = 9 } ∷ []))
    (Received (x "0802020100001E00280000000001000000000000000121002004000000010000000000000008040505050501010101")
    None)).outcome ≡ Stop (Stale 5)
unfolding active_row again ask both_spent candidates centre_of centre_timer child_of_centre child_of_router choose
    code_row current drop_old drop_others drop_partner found_or is_known is_live is_told is_unfinished judge_aps
    judge_net judge_nwk knock live_of member_timer need newest next_counter next_member offered other_user own pair_of
    plan_of provision reject rejoin remove_device request_key roll say sender_floor share short_of spent station_at
    station_of switch_over take_app_key take_app_request take_confirm take_leave take_link_key take_net_key
    take_command take_remove take_request take_row take_switch take_tunnel take_update take_verify tell toy refuse_if
    usable_active usable_nets usable_of verify_key
aps_stale = refl

aps_bad_mic :
    (plan_of toy device (keyed_node Device Joined (record own_row { kept = 5; stored = 9 } ∷ []))
    (Received (x "0802020100001E00280000000001000000000000000121002005000000010000000000000008040909090901010101")
    None)).outcome ≡ Stop BadMic
unfolding active_row again ask both_spent candidates centre_of centre_timer child_of_centre child_of_router choose
    code_row current drop_old drop_others drop_partner found_or is_known is_live is_told is_unfinished judge_aps
    judge_net judge_nwk knock live_of member_timer need newest next_counter next_member offered other_user own pair_of
    plan_of provision reject rejoin remove_device request_key roll say sender_floor share short_of spent station_at
    station_of switch_over take_app_key take_app_request take_confirm take_leave take_link_key take_net_key
    take_command take_remove take_request take_row take_switch take_tunnel take_update take_verify tell toy refuse_if
    usable_active usable_nets usable_of verify_key
aps_bad_mic = refl

leave_malformed :
    (plan_of toy device (keyed_node Device Joined [])
    (Received (x "0902020100001E0028000000000100000000000000010440FF01010101") None)).outcome ≡ Stop Malformed
unfolding active_row again ask both_spent candidates centre_of centre_timer child_of_centre child_of_router choose
    code_row current drop_old drop_others drop_partner found_or is_known is_live is_told is_unfinished judge_aps
    judge_net judge_nwk knock live_of member_timer need newest next_counter next_member offered other_user own pair_of
    plan_of provision reject rejoin remove_device request_key roll say sender_floor share short_of spent station_at
    station_of switch_over take_app_key take_app_request take_confirm take_leave take_link_key take_net_key
    take_command take_remove take_request take_row take_switch take_tunnel take_update take_verify tell toy refuse_if
    usable_active usable_nets usable_of verify_key
leave_malformed = refl

leave_other :
    (plan_of toy device (keyed_node Device Joined [])
    (Received (x "0902020100001E0028000000000100000000000000010501010101") None)).outcome ≡ Stop Policy
unfolding active_row again ask both_spent candidates centre_of centre_timer child_of_centre child_of_router choose
    code_row current drop_old drop_others drop_partner found_or is_known is_live is_told is_unfinished judge_aps
    judge_net judge_nwk knock live_of member_timer need newest next_counter next_member offered other_user own pair_of
    plan_of provision reject rejoin remove_device request_key roll say sender_floor share short_of spent station_at
    station_of switch_over take_app_key take_app_request take_confirm take_leave take_link_key take_net_key
    take_command take_remove take_request take_row take_switch take_tunnel take_update take_verify tell toy refuse_if
    usable_active usable_nets usable_of verify_key
leave_other = refl

leave_empty :
    (plan_of toy device (keyed_node Device Joined [])
    (Received (x "0902020100001E00280000000001000000000000000101010101") None)).outcome ≡ Stop Malformed
unfolding active_row again ask both_spent candidates centre_of centre_timer child_of_centre child_of_router choose
    code_row current drop_old drop_others drop_partner found_or is_known is_live is_told is_unfinished judge_aps
    judge_net judge_nwk knock live_of member_timer need newest next_counter next_member offered other_user own pair_of
    plan_of provision reject rejoin remove_device request_key roll say sender_floor share short_of spent station_at
    station_of switch_over take_app_key take_app_request take_confirm take_leave take_link_key take_net_key
    take_command take_remove take_request take_row take_switch take_tunnel take_update take_verify tell toy refuse_if
    usable_active usable_nets usable_of verify_key
leave_empty = refl
