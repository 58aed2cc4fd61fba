-- The outcome of each event of a node's own is in its range.
use Rattle.std.proofs.Common.{ℕ, Bool, true, false, cond, not, ◌&&◌, nat_eq, is_some, List, [], ◌∷◌, find, Option, Some, None, IfSome, arith}
use Rattle.std.specs.List.{AllByRecursion}
use Rattle.zb_model.specs.Data.{Bytes, Nwk, ForData, RemoveDevice, Active, Roll, State, Joined, Offered, Move, Task, SayTo, TellTo, DoKnock, DoRejoin, DoTimer, AskFor, HasChild, DoProvision, DoRemove, DoRoll, DoSwitch, DoAgain, DoShare}
use Rattle.zb_model.specs.OwnEvents.{say, knock, rejoin, request_key, verify_key, timer_in, member_timer, ask, tell, child_status, report_child, child_of_router, next_member, child_of_centre, centre_timer, provision_new, provision, tell_leave, tell_parent, remove_device, roll, switch_to, switch_over, again, share, own_at_centre, own_at_member, own}
use Rattle.zb_model.specs.Rules.{Secret, Leaving, Setting, Sending, sends, short_of, spent, both_spent, centre_of, unless_held, drop_partner, drop_others, drop_old}
use Rattle.zb_model.specs.State.{NetKey, LinkKey, NodeState, is_centre, is_live_of, active_row, usable_active, newest, current, offered, code_row, other_user, pair_of}
use Rattle.zb_model.specs.Tools.{Tools}
use Rattle.law_run.proofs.FreshLines.{all-append}
use Rattle.law_run_ranges.specs.Asking.{IsSmall, TaskInRange, KeepsRanges}
use Rattle.law_run_ranges.specs.Ranges.{IsEui, IsByte, IsKey, MoveInRange}
use Rattle.law_run_ranges.proofs.Lists.{if_then}
use Rattle.law_run_ranges.proofs.Outcomes.{SendingInRange, OutcomeInRange, SettingInRange, unless_in, found_in, any_in, choose_in}
use Rattle.law_run_ranges.proofs.Questions.{active_in, newest_in, current_in, offered_in, live_link_in, code_row_in, other_user_in, pair_in, held_in, drop_partner_in, drop_others_in, drop_old_in, next_member_in}
use Rattle.law_run_ranges.proofs.States.{NetInRange, LinkInRange, PairInRange, StateInRange}

say_in : (s : NodeState) (to : ℕ) (bytes : Bytes) → IsSmall bytes → OutcomeInRange (say s to bytes)
unfolding say
say_in s to bytes b =
    any_in (usable_active s) _ _ tt (λ net. unless_in _ _ _ tt (λ e. unless_in _ _ _ tt (λ f. (tt, b))))

knock_in : (c : Setting) (s : NodeState) → StateInRange s → OutcomeInRange (knock c s)
unfolding knock
knock_in c s is =
    found_in LinkInRange (code_row s (centre_of c.stations)) _ _ tt (code_row_in s (centre_of c.stations) is)
    (λ row r. (
      all-append MoveInRange (drop_others s row.partner row.key) _ (drop_others_in s row.partner row.key is)
          ((r.0, r.1), (tt, tt)),
      tt,
    ))

rejoin_in : (s : NodeState) → OutcomeInRange (rejoin s)
unfolding rejoin
rejoin_in s = unless_in _ _ _ tt (λ e. ((tt, tt), tt))

request_key_in : (c : Setting) (s : NodeState) → StateInRange s → OutcomeInRange (request_key c s)
unfolding request_key
request_key_in c s is =
    found_in LinkInRange (current s (centre_of c.stations)) _ _ tt (current_in s (centre_of c.stations) is)
    (λ row r. unless_in _ _ _ tt (λ e. (tt, (r.1, tt, tt))))

verify_key_in : (tools : Tools) (c : Setting) (s : NodeState) → KeepsRanges tools → SettingInRange c → StateInRange s
    → OutcomeInRange (verify_key tools c s)
unfolding verify_key
verify_key_in tools c s keeps at is =
    found_in LinkInRange (offered s (centre_of c.stations)) _ _ tt (offered_in s (centre_of c.stations) is) (λ row r.
    unless_in _ _ _ tt (λ e. (tt, (omega arith, (omega arith, at.0, keeps.keyed row.key 3 r.1 (omega arith)), tt))))

timer_in_in : (state : State) (tools : Tools) (c : Setting) (s : NodeState) → KeepsRanges tools → SettingInRange c
    → StateInRange s → OutcomeInRange (timer_in state tools c s)
timer_in_in Joined tools c s keeps at is = request_key_in c s is
timer_in_in Offered tools c s keeps at is = verify_key_in tools c s keeps at is
timer_in_in _ tools c s keeps at is = tt

member_timer_in : (tools : Tools) (c : Setting) (s : NodeState) → KeepsRanges tools → SettingInRange c
    → StateInRange s → OutcomeInRange (member_timer tools c s)
unfolding member_timer
member_timer_in tools c s keeps at is =
    any_in (usable_active s) _ _ tt (λ net. timer_in_in s.state tools c s keeps at is)

ask_in : (c : Setting) (s : NodeState) (partner : ℕ) → StateInRange s → IsEui partner
    → OutcomeInRange (ask c s partner)
unfolding ask
ask_in c s partner is p =
    any_in (usable_active s) _ _ tt (λ net.
    found_in LinkInRange (current s (centre_of c.stations)) _ _ tt (current_in s (centre_of c.stations) is) (λ row r.
    unless_in _ _ _ tt (λ e. unless_in _ _ _ tt (λ f. (tt, (r.1, p, tt))))))

tell_in : (c : Setting) (s : NodeState) (partner : ℕ) (bytes : Bytes) → StateInRange s → IsSmall bytes
    → OutcomeInRange (tell c s partner bytes)
unfolding tell
tell_in c s partner bytes is b =
    any_in (usable_active s) _ _ tt (λ net.
    found_in LinkInRange (find (is_live_of partner) s.links) _ _ tt (live_link_in s partner is) (λ row r.
    unless_in _ _ _ tt (λ e. unless_in _ _ _ tt (λ f. (tt, (r.1, b))))))

status_in : (again : Bool) → IsByte (child_status again)
status_in true = omega arith
status_in false = omega arith

report_in : (c : Setting) (s : NodeState) (child : ℕ) (again : Bool) (o : Option LinkKey) → IsEui child
    → IfSome o LinkInRange → OutcomeInRange (report_child c s child again o)
report_in c s child again None e is = unless_in _ _ _ tt (λ f. (tt, (omega arith, (e, status_in again), tt)))
report_in c s child again (Some row) e is = unless_in _ _ _ tt (λ f. (tt, (is.1, (e, status_in again), tt)))

child_of_router_in : (c : Setting) (s : NodeState) (child : ℕ) (again : Bool) → IsEui child → StateInRange s
    → OutcomeInRange (child_of_router c s child again)
unfolding child_of_router
child_of_router_in c s child again e is =
    any_in (usable_active s) _ _ tt
    (λ net. unless_in _ _ _ tt
    (λ f. report_in c s child again (current s (centre_of c.stations)) e (current_in s (centre_of c.stations) is)))

child_of_centre_in : (c : Setting) (s : NodeState) (child : ℕ) → SettingInRange c → IsEui child → StateInRange s
    → OutcomeInRange (child_of_centre c s child)
unfolding child_of_centre
child_of_centre_in c s child at e is =
    found_in NetInRange (active_row s) _ _ tt (active_in s is) (λ net n.
    found_in LinkInRange (current s child) _ _ tt (current_in s child is) (λ row r.
    unless_in _ _ _ tt (λ f. (tt, (r.1, (n.0, n.1, e, at.0), tt)))))

centre_timer_in : (c : Setting) (s : NodeState) → SettingInRange c → StateInRange s → OutcomeInRange (centre_timer c s)
unfolding centre_timer
centre_timer_in c s at is =
    any_in (active_row s) _ _ tt (λ net.
    unless_in _ _ _ tt (λ f.
    found_in IsEui (next_member s) _ _ tt (next_member_in s is) (λ device d.
    found_in NetInRange (newest s) _ _ tt (newest_in s is) (λ new n.
    found_in LinkInRange (current s device) _ _ tt (current_in s device is) (λ row r.
    unless_in _ _ _ tt (λ g. ((d, tt), (r.1, (n.0, n.1, d, at.0), tt))))))))

provision_new_in : (s : NodeState) (device : ℕ) (key : Bytes) (o : Option LinkKey) → IsEui device → IsKey key
    → IfSome o LinkInRange → OutcomeInRange (provision_new s device key o)
provision_new_in s device key (Some other) d k is = is.0
provision_new_in s device key None d k is = (((d, k), (d, tt)), tt)

provision_in : (s : NodeState) (device : ℕ) (key : Bytes) → IsEui device → IsKey key → StateInRange s
    → OutcomeInRange (provision s device key)
unfolding provision
provision_in s device key d k is =
    unless_in _ _ _ tt
    (λ e. unless_in _ _ _ tt
    (λ f. provision_new_in s device key (other_user s device key) d k (other_user_in s device key is)))

if_sent : (b : Bool) (x y : Option Sending) → IfSome x SendingInRange → IfSome y SendingInRange
    → IfSome (cond b x y) SendingInRange
if_sent true x y p q = p
if_sent false x y p q = q

parent_in : (c : Setting) (s : NodeState) (device via : ℕ) (o : Option LinkKey) → IsEui device → IfSome o LinkInRange
    → IfSome (tell_parent c s device via o) SendingInRange
parent_in c s device via None d is = tt
parent_in c s device via (Some row) d is =
    if_sent (is_some (active_row s) && not (both_spent s))
    (sends (short_of c via) true (Secret ForData row.key (RemoveDevice device))) None (is.1, d, tt) tt

remove_in : (c : Setting) (s : NodeState) (device via : ℕ) → IsEui device → StateInRange s
    → OutcomeInRange (remove_device c s device via)
unfolding remove_device
remove_in c s device via d is =
    unless_in _ _ _ tt (λ e. (
      all-append MoveInRange (drop_partner s device) _ (drop_partner_in s device is) (d, tt),
      if_sent (nat_eq via c.me.eui) (tell_leave c s device) (tell_parent c s device via (current s via))
          (if_sent (is_some (active_row s) && not (spent Nwk s)) (sends (short_of c device) true Leaving) None tt tt)
          (parent_in c s device via (current s via) d (current_in s via is)),
    ))

roll_in : (s : NodeState) (draw : Option Bytes) → IfSome draw IsKey → StateInRange s → OutcomeInRange (roll s draw)
unfolding roll
roll_in s draw d is =
    any_in (active_row s) _ _ tt (λ net.
    unless_in _ _ _ tt (λ e. unless_in _ _ _ tt (λ f.
    found_in IsKey (unless_held s draw) _ _ tt (held_in s draw d) (λ key k.
    ((k, all-append MoveInRange (drop_old s) _ (drop_old_in s is) ((k, omega arith), (tt, tt))), tt)))))

switch_to_in : (net : NetKey) (moves : List Move) → NetInRange net → AllByRecursion MoveInRange moves
    → OutcomeInRange (switch_to net moves)
switch_to_in net moves n m = (m, (omega arith, n.1, tt))

switch_in : (s : NodeState) → StateInRange s → OutcomeInRange (switch_over s)
unfolding switch_over
switch_in s is =
    found_in NetInRange (active_row s) _ _ tt (active_in s is) (λ net n.
    unless_in _ _ _ tt (λ e. unless_in _ _ _ tt (λ f.
    choose_in s.sending _ _
    (found_in NetInRange (newest s) _ _ tt (newest_in s is)
    (λ new m. switch_to_in new (Active new.key ∷ Roll false ∷ []) m (m.0, (tt, tt))))
    (switch_to_in net [] n tt))))

again_in : (s : NodeState) (device : ℕ) → IsEui device → OutcomeInRange (again s device)
unfolding again
again_in s device d = unless_in _ _ _ tt (λ e. unless_in _ _ _ tt (λ f. ((d, tt), tt)))

share_in : (c : Setting) (s : NodeState) (device partner : ℕ) → IsEui partner → StateInRange s
    → OutcomeInRange (share c s device partner)
unfolding share
share_in c s device partner p is =
    any_in (active_row s) _ _ tt (λ net.
    unless_in _ _ _ tt (λ e.
    found_in PairInRange (pair_of s device partner) _ _ tt (pair_in s device partner is) (λ pair k.
    found_in LinkInRange (current s device) _ _ tt (current_in s device is) (λ row r.
    unless_in _ _ _ tt (λ f. (tt, (r.1, (k, p, omega arith), tt)))))))

-- ---- the rule of each event

module _ (tools : Tools) (c : Setting) (s : NodeState) (keeps : KeepsRanges tools) (at : SettingInRange c)
    (is : StateInRange s) where
  at_centre : (task : Task) → TaskInRange task → OutcomeInRange (own_at_centre c s task)
  at_centre (SayTo to bytes) t = say_in s to bytes t
  at_centre DoTimer t = centre_timer_in c s at is
  at_centre (HasChild child again) t = child_of_centre_in c s child at t is
  at_centre (DoProvision device key) t = provision_in s device key t.0 t.1 is
  at_centre (DoRemove device via) t = remove_in c s device via t is
  at_centre (DoRoll draw) t = roll_in s draw t is
  at_centre DoSwitch t = switch_in s is
  at_centre (DoAgain device) t = again_in s device t
  at_centre (DoShare device partner) t = share_in c s device partner t.1 is
  at_centre _ t = tt

  at_member : (task : Task) → TaskInRange task → OutcomeInRange (own_at_member tools c s task)
  at_member (SayTo to bytes) t = say_in s to bytes t
  at_member (TellTo partner bytes) t = tell_in c s partner bytes is t
  at_member DoKnock t = knock_in c s is
  at_member DoRejoin t = rejoin_in s
  at_member DoTimer t = member_timer_in tools c s keeps at is
  at_member (AskFor partner) t = ask_in c s partner is t
  at_member (HasChild child again) t = child_of_router_in c s child again t is
  at_member _ t = tt

pub own_in : (tools : Tools) (c : Setting) (s : NodeState) (task : Task) → KeepsRanges tools → SettingInRange c
    → StateInRange s → TaskInRange task → OutcomeInRange (own tools c s task)
unfolding own
own_in tools c s task keeps at is t =
    if_then OutcomeInRange (is_centre c.me.role) _ _ (at_centre tools c s keeps at is task t)
    (at_member tools c s keeps at is task t)
