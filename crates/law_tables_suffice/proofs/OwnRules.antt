-- A node's own events have the same outcome at a state and at what is shown of it.
use Rattle.std.proofs.Common.{◌≡◌, ℕ, option_map, refl, ap, ◌∙◌, Bool, Option, Some, None}
use Rattle.zb_model.specs.Data.{Bytes, Nwk, Aps, State, Fresh, Knocked, Joined, Offered, Confirmed, Rejoining, Gone, Reason, NoKey, Task, SayTo, TellTo, DoKnock, DoRejoin, DoTimer, AskFor, HasChild, DoProvision, DoRemove, DoRoll, DoSwitch, DoAgain, DoShare, Received}
use Rattle.zb_model.specs.State.{NodeState, NetKey, LinkKey, shown, shown_net, active_row, usable_active, current, offered, code_row, is_live, is_told, other_user, pair_of}
use Rattle.zb_model.specs.Tools.{Tools}
use Rattle.zb_model.specs.Rules.{Outcome, Setting, found_or, centre_of, drop_partner, drop_others}
use Rattle.zb_model.specs.OwnEvents.{say, knock, rejoin, request_key, verify_key, timer_in, member_timer, ask, tell, report_child, child_of_router, next_member, is_unfinished, child_of_centre, centre_timer, provision, tell_leave, tell_parent, remove_device, roll, switch_over, again, share, own_at_centre, own_at_member, own}
use Rattle.law_tables_suffice.proofs.Questions.{active_same, usable_active_same, newest_same, has_active_same, spent_same, both_spent_same, full_same, held_same, drop_old_same}

-- the rest of a rule asks of a network row only what is shown of it
pub row_shown : (o : Option NetKey) (reason : Reason) (rest more : NetKey → Outcome)
    → ((r : NetKey) → rest (shown_net r) ≡ more r) → found_or (option_map shown_net o) reason rest
    ≡ found_or o reason more
unfolding found_or
row_shown None reason rest more same = refl
row_shown (Some r) reason rest more same = same r

pub each_found : {A : Type 0} (o : Option A) (reason : Reason) (rest more : A → Outcome) → ((a : A) → rest a ≡ more a)
    → found_or o reason rest ≡ found_or o reason more
unfolding found_or
each_found None reason rest more same = refl
each_found (Some a) reason rest more same = same a

pub in_active : (s : NodeState) (reason : Reason) (rest more : NetKey → Outcome)
    → ((r : NetKey) → rest (shown_net r) ≡ more r) → found_or (active_row (shown s)) reason rest
    ≡ found_or (active_row s) reason more
in_active s reason rest more same = ap (λ o. found_or o reason rest) (active_same s) ∙ row_shown (active_row s) reason
    rest more same

-- ---- of every node, of routers and devices

-- ---- of every node, of routers and devices

say_same : (s : NodeState) (to : ℕ) (bytes : Bytes) → say (shown s) to bytes ≡ say s to bytes
unfolding shown say
say_same s to bytes = rw (usable_active_same s, spent_same Nwk s) (row_shown (usable_active s) NoKey _ _ (λ r. refl))

knock_same : (c : Setting) (s : NodeState) → knock c (shown s) ≡ knock c s
unfolding shown knock code_row drop_others
knock_same c s = refl

rejoin_same : (s : NodeState) → rejoin (shown s) ≡ rejoin s
unfolding shown rejoin
rejoin_same s = refl

request_key_same : (c : Setting) (s : NodeState) → request_key c (shown s) ≡ request_key c s
unfolding shown request_key current
request_key_same c s = rw (both_spent_same s) refl

verify_key_same : (tools : Tools) (c : Setting) (s : NodeState) → verify_key tools c (shown s) ≡ verify_key tools c s
unfolding shown verify_key offered
verify_key_same tools c s = rw (spent_same Nwk s) refl

timer_in_same : (state : State) (tools : Tools) (c : Setting) (s : NodeState) → timer_in state tools c (shown s)
    ≡ timer_in state tools c s
timer_in_same Fresh tools c s = refl
timer_in_same Knocked tools c s = refl
timer_in_same Joined tools c s = request_key_same c s
timer_in_same Offered tools c s = verify_key_same tools c s
timer_in_same Confirmed tools c s = refl
timer_in_same Rejoining tools c s = refl
timer_in_same Gone tools c s = refl

member_timer_same : (tools : Tools) (c : Setting) (s : NodeState) → member_timer tools c (shown s)
    ≡ member_timer tools c s
unfolding shown member_timer
member_timer_same tools c s =
    rw (usable_active_same s) (row_shown (usable_active s) NoKey _ _ (λ r. timer_in_same s.state tools c s))

ask_same : (c : Setting) (s : NodeState) (partner : ℕ) → ask c (shown s) partner ≡ ask c s partner
unfolding shown ask current
ask_same c s partner = rw (usable_active_same s, both_spent_same s) (row_shown (usable_active s) NoKey _ _ (λ r. refl))

tell_same : (c : Setting) (s : NodeState) (partner : ℕ) (bytes : Bytes) → tell c (shown s) partner bytes
    ≡ tell c s partner bytes
unfolding shown tell
tell_same c s partner bytes = rw (usable_active_same s, both_spent_same s)
    (row_shown (usable_active s) NoKey _ _ (λ r. refl))

report_same : (c : Setting) (s : NodeState) (child : ℕ) (again : Bool) (o : Option LinkKey)
    → report_child c (shown s) child again o ≡ report_child c s child again o
report_same c s child again None = rw (spent_same Nwk s) refl
report_same c s child again (Some row) = rw (both_spent_same s) refl

child_same : (c : Setting) (s : NodeState) (child : ℕ) (again : Bool) → child_of_router c (shown s) child again
    ≡ child_of_router c s child again
unfolding shown child_of_router current
child_same c s child again = rw (usable_active_same s, report_same c s child again (current s (centre_of c.stations)))
    (row_shown (usable_active s) NoKey _ _ (λ r. refl))

-- ---- of the centre

child_of_centre_same : (c : Setting) (s : NodeState) (child : ℕ) → child_of_centre c (shown s) child
    ≡ child_of_centre c s child
unfolding shown child_of_centre current
child_of_centre_same c s child = rw (active_same s, spent_same Aps s) (row_shown (active_row s) NoKey _ _ (λ r. refl))

timer_same : (c : Setting) (s : NodeState) → centre_timer c (shown s) ≡ centre_timer c s
unfolding shown centre_timer next_member current
timer_same c s = rw (active_same s, newest_same s, both_spent_same s) (row_shown (active_row s) NoKey _ _ (λ r. refl))

provision_same : (s : NodeState) (device : ℕ) (key : Bytes) → provision (shown s) device key ≡ provision s device key
unfolding shown provision is_live other_user
provision_same s device key = refl

leave_same : (c : Setting) (s : NodeState) (device : ℕ) → tell_leave c (shown s) device ≡ tell_leave c s device
leave_same c s device = rw (has_active_same s, spent_same Nwk s) refl

parent_same : (c : Setting) (s : NodeState) (device via : ℕ) (o : Option LinkKey)
    → tell_parent c (shown s) device via o ≡ tell_parent c s device via o
parent_same c s device via None = refl
parent_same c s device via (Some row) = rw (has_active_same s, both_spent_same s) refl

remove_same : (c : Setting) (s : NodeState) (device via : ℕ) → remove_device c (shown s) device via
    ≡ remove_device c s device via
unfolding shown remove_device is_live drop_partner current
remove_same c s device via = rw (leave_same c s device, parent_same c s device via (current s via)) refl

roll_same : (s : NodeState) (draw : Option Bytes) → roll (shown s) draw ≡ roll s draw
unfolding shown roll
roll_same s draw = rw (active_same s, full_same s, held_same s draw, drop_old_same s)
    (row_shown (active_row s) NoKey _ _ (λ r. refl))

switch_same : (s : NodeState) → switch_over (shown s) ≡ switch_over s
unfolding shown switch_over is_unfinished next_member
switch_same s = rw (active_same s, newest_same s, spent_same Nwk s) (row_shown (active_row s) NoKey _ _ (λ r. refl))

again_same : (s : NodeState) (device : ℕ) → again (shown s) device ≡ again s device
unfolding shown again is_live is_told
again_same s device = refl

share_same : (c : Setting) (s : NodeState) (device partner : ℕ) → share c (shown s) device partner
    ≡ share c s device partner
unfolding shown share is_live pair_of current
share_same c s device partner = rw (active_same s, both_spent_same s) (row_shown (active_row s) NoKey _ _ (λ r. refl))

-- ---- any event of a node's own

centre_same : (c : Setting) (s : NodeState) (task : Task) → own_at_centre c (shown s) task ≡ own_at_centre c s task
centre_same c s (SayTo to bytes) = say_same s to bytes
centre_same c s DoTimer = timer_same c s
centre_same c s (HasChild child rejoin) = child_of_centre_same c s child
centre_same c s (DoProvision device key) = provision_same s device key
centre_same c s (DoRemove device via) = remove_same c s device via
centre_same c s (DoRoll draw) = roll_same s draw
centre_same c s DoSwitch = switch_same s
centre_same c s (DoAgain device) = again_same s device
centre_same c s (DoShare device partner) = share_same c s device partner
centre_same c s (TellTo partner bytes) = refl
centre_same c s DoKnock = refl
centre_same c s DoRejoin = refl
centre_same c s (AskFor partner) = refl
centre_same c s (Received bytes draw) = refl

member_same : (tools : Tools) (c : Setting) (s : NodeState) (task : Task) → own_at_member tools c (shown s) task
    ≡ own_at_member tools c s task
member_same tools c s (SayTo to bytes) = say_same s to bytes
member_same tools c s (TellTo partner bytes) = tell_same c s partner bytes
member_same tools c s DoKnock = knock_same c s
member_same tools c s DoRejoin = rejoin_same s
member_same tools c s DoTimer = member_timer_same tools c s
member_same tools c s (AskFor partner) = ask_same c s partner
member_same tools c s (HasChild child rejoin) = child_same c s child rejoin
member_same tools c s (DoProvision device key) = refl
member_same tools c s (DoRemove device via) = refl
member_same tools c s (DoRoll draw) = refl
member_same tools c s DoSwitch = refl
member_same tools c s (DoAgain device) = refl
member_same tools c s (DoShare device partner) = refl
member_same tools c s (Received bytes draw) = refl

pub own_same : (tools : Tools) (c : Setting) (s : NodeState) (task : Task) → own tools c (shown s) task
    ≡ own tools c s task
unfolding own
own_same tools c s task = rw (centre_same c s task, member_same tools c s task) refl
