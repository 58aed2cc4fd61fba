-- A rule answers no-draw only if it is given no key that it may use.
use Rattle.std.proofs.Common.{◌≡◌, ℕ, Bool, true, false, cond, List, [], ◌∷◌, ◌++◌, Option, Some, None, option_to_list, find, refl, sym, ap, ◌∙◌, subst}
use Rattle.zb_model.specs.Data.{Bytes, Nwk, Aps, State, Joined, Offered, Reason, CounterSpent, NoDraw, Place, AtAps, Term, Command, TransportNet, TransportApp, TransportLink, UpdateDevice, RemoveDevice, RequestApp, RequestLink, SwitchKey, Tunnel, VerifyKey, ConfirmKey, Task, SayTo, TellTo, DoKnock, DoRejoin, DoTimer, AskFor, HasChild, DoProvision, DoRemove, DoRoll, DoSwitch, DoAgain, DoShare, Received}
use Rattle.zb_model.specs.State.{LinkKey, PairKey, NodeState, is_centre, is_live_of, has_net, active_row, usable_active, usable_of, newest, current, offered, other_user, pair_of}
use Rattle.zb_model.specs.Tools.{Tools, NwkShown, NwkAuxiliary, ApsShown, ApsAuxiliary, CommandShown, Known, Unknown, Broken, LeaveShown, Leave, Other, NoCommand}
use Rattle.zb_model.specs.Judging.{Verdict, Not, Good, reject, need, judge_net, Carrier, carrier, judge_security, judge_nwk, payload_of, candidates, chosen_row, aps_source, Unsealed, judge_aps}
use Rattle.zb_model.specs.Rules.{Outcome, Stop, Does, Plan, Setting, refuse_if, found_or, choose, centre_of, spent, both_spent, unless_held}
use Rattle.zb_model.specs.Answer.{comes_to, heard_clear, heard_sealed, nwk_command, aps_command, clear_part, sealed_part, by_security, aps_part, net_part, received_as, plan_of}
use Rattle.zb_model.specs.OwnEvents.{say, knock, rejoin, request_key, verify_key, timer_in, member_timer, ask, tell, report_child, child_of_router, child_of_centre, next_member, centre_timer, provision_new, provision, remove_device, roll, switch_over, again, share, own_at_centre, own_at_member, own}
use Rattle.zb_model.specs.Commands.{Heard, take_net_key, refuse_if_old, dropped_at, refuse_if_used, take_row, take_link_key, take_app_key, take_switch, take_confirm, take_remove, take_tunnel, take_update, answer_request, take_request, answer_pair, take_app_request, verified_current, take_verify, take_command, take_leave}
use Rattle.zb_model.specs.Lines.{Line}
use Rattle.zb_model.specs.Play.{Schedule, setting_of, supply}
use Rattle.zb_model.specs.Readings.{state_of}
use Rattle.law_run.proofs.LockoutDeeds.{draw_of}
use Rattle.law_run_lookups.specs.Granted.{Granted}

abbrev pub ReasonFits : Option Bytes → NodeState → Reason → Type 0
ReasonFits d s NoDraw = unless_held s d ≡ None
ReasonFits d s _ = Unit {0}

abbrev pub Fits : Option Bytes → NodeState → Outcome → Type 0
Fits d s (Stop reason) = ReasonFits d s reason
Fits d s (Does moves sending) = Unit {0}

un : (d : Option Bytes) (s : NodeState) (bad : Bool) (reason : Reason) (rest : Outcome)
    → (bad ≡ true → ReasonFits d s reason) → Fits d s rest → Fits d s (refuse_if bad reason rest)
unfolding refuse_if
un d s true reason rest k f = k refl
un d s false reason rest k f = f

gi : {A : Type 0} (d : Option Bytes) (s : NodeState) (o : Option A) (reason : Reason) (rest : A → Outcome)
    → ReasonFits d s reason → ((a : A) → Fits d s (rest a)) → Fits d s (found_or o reason rest)
unfolding found_or
gi d s None reason rest k f = k
gi d s (Some a) reason rest k f = f a

ch : (d : Option Bytes) (s : NodeState) (test : Bool) (a b : Outcome) → Fits d s a → Fits d s b
    → Fits d s (choose test a b)
unfolding choose
ch d s true a b f g = f
ch d s false a b f g = g

-- the next key of the supply
gd-by : (d : Option Bytes) (s : NodeState) (o : Option Bytes) (rest : Bytes → Outcome) → unless_held s d ≡ o
    → ((key : Bytes) → Fits d s (rest key)) → Fits d s (found_or o NoDraw rest)
unfolding found_or
gd-by d s None rest e k = e
gd-by d s (Some key) rest e k = k key

gd : (d : Option Bytes) (s : NodeState) (rest : Bytes → Outcome) → ((key : Bytes) → Fits d s (rest key))
    → Fits d s (found_or (unless_held s d) NoDraw rest)
gd d s rest k = gd-by d s (unless_held s d) rest refl k

-- the test of one counter, and of both
nwk : (d : Option Bytes) (s : NodeState) (rest : Outcome) → Fits d s rest
    → Fits d s (refuse_if (spent Nwk s) CounterSpent rest)
nwk d s rest f = un d s (spent Nwk s) CounterSpent rest (λ e. tt) f

aps : (d : Option Bytes) (s : NodeState) (rest : Outcome) → Fits d s rest
    → Fits d s (refuse_if (spent Aps s) CounterSpent rest)
aps d s rest f = un d s (spent Aps s) CounterSpent rest (λ e. tt) f

both : (d : Option Bytes) (s : NodeState) (rest : Outcome) → Fits d s rest
    → Fits d s (refuse_if (both_spent s) CounterSpent rest)
both d s rest f = un d s (both_spent s) CounterSpent rest (λ e. tt) f

-- a node's own events

say-fits : (d : Option Bytes) (s : NodeState) (to : ℕ) (bytes : Bytes) → Fits d s (say s to bytes)
unfolding say
say-fits d s to bytes = gi d s (usable_active s) _ _ tt (λ net. un d s _ _ _ (λ e. tt) (nwk d s _ tt))

knock-fits : (c : Setting) (d : Option Bytes) (s : NodeState) → Fits d s (knock c s)
unfolding knock
knock-fits c d s = gi d s _ _ _ tt (λ row. tt)

rejoin-fits : (d : Option Bytes) (s : NodeState) → Fits d s (rejoin s)
unfolding rejoin
rejoin-fits d s = un d s _ _ _ (λ e. tt) tt

request-fits : (c : Setting) (d : Option Bytes) (s : NodeState) → Fits d s (request_key c s)
unfolding request_key
request-fits c d s = gi d s (current s (centre_of c.stations)) _ _ tt (λ row. both d s _ tt)

verify-fits : (tools : Tools) (c : Setting) (d : Option Bytes) (s : NodeState) → Fits d s (verify_key tools c s)
unfolding verify_key
verify-fits tools c d s = gi d s (offered s (centre_of c.stations)) _ _ tt (λ row. nwk d s _ tt)

timer-fits : (state : State) (tools : Tools) (c : Setting) (d : Option Bytes) (s : NodeState)
    → Fits d s (timer_in state tools c s)
timer-fits Joined tools c d s = request-fits c d s
timer-fits Offered tools c d s = verify-fits tools c d s
timer-fits _ tools c d s = tt

member-timer-fits : (tools : Tools) (c : Setting) (d : Option Bytes) (s : NodeState)
    → Fits d s (member_timer tools c s)
unfolding member_timer
member-timer-fits tools c d s = gi d s (usable_active s) _ _ tt (λ net. timer-fits s.state tools c d s)

ask-fits : (c : Setting) (d : Option Bytes) (s : NodeState) (partner : ℕ) → Fits d s (ask c s partner)
unfolding ask
ask-fits c d s partner =
    gi d s (usable_active s) _ _ tt
    (λ net. gi d s (current s (centre_of c.stations)) _ _ tt (λ row. un d s _ _ _ (λ e. tt) (both d s _ tt)))

tell-fits : (c : Setting) (d : Option Bytes) (s : NodeState) (partner : ℕ) (bytes : Bytes)
    → Fits d s (tell c s partner bytes)
unfolding tell
tell-fits c d s partner bytes =
    gi d s (usable_active s) _ _ tt
    (λ net. gi d s (find (is_live_of partner) s.links) _ _ tt (λ row. un d s _ _ _ (λ e. tt) (both d s _ tt)))

report-fits : (c : Setting) (d : Option Bytes) (s : NodeState) (child : ℕ) (returns : Bool) (o : Option LinkKey)
    → Fits d s (report_child c s child returns o)
report-fits c d s child returns None = nwk d s _ tt
report-fits c d s child returns (Some row) = both d s _ tt

child-router-fits : (c : Setting) (d : Option Bytes) (s : NodeState) (child : ℕ) (returns : Bool)
    → Fits d s (child_of_router c s child returns)
unfolding child_of_router
child-router-fits c d s child returns =
    gi d s (usable_active s) _ _ tt
    (λ net. un d s _ _ _ (λ e. tt) (report-fits c d s child returns (current s (centre_of c.stations))))

child-centre-fits : (c : Setting) (d : Option Bytes) (s : NodeState) (child : ℕ) → Fits d s (child_of_centre c s child)
unfolding child_of_centre
child-centre-fits c d s child =
    gi d s (active_row s) _ _ tt (λ net. gi d s (current s child) _ _ tt (λ row. aps d s _ tt))

centre-timer-fits : (c : Setting) (d : Option Bytes) (s : NodeState) → Fits d s (centre_timer c s)
unfolding centre_timer
centre-timer-fits c d s =
    gi d s (active_row s) _ _ tt
    (λ net. un d s _ _ _ (λ e. tt)
    (gi d s (next_member s) _ _ tt
    (λ device. gi d s (newest s) _ _ tt (λ new. gi d s (current s device) _ _ tt (λ row. both d s _ tt)))))

provision-new-fits : (d : Option Bytes) (s : NodeState) (device : ℕ) (key : Bytes) (o : Option LinkKey)
    → Fits d s (provision_new s device key o)
provision-new-fits d s device key None = tt
provision-new-fits d s device key (Some other) = tt

provision-fits : (d : Option Bytes) (s : NodeState) (device : ℕ) (key : Bytes) → Fits d s (provision s device key)
unfolding provision
provision-fits d s device key =
    un d s _ _ _ (λ e. tt) (un d s _ _ _ (λ e. tt) (provision-new-fits d s device key (other_user s device key)))

remove-fits : (c : Setting) (d : Option Bytes) (s : NodeState) (device via : ℕ)
    → Fits d s (remove_device c s device via)
unfolding remove_device
remove-fits c d s device via = un d s _ _ _ (λ e. tt) tt

roll-fits : (d : Option Bytes) (s : NodeState) → Fits d s (roll s d)
unfolding roll
roll-fits d s =
    gi d s (active_row s) _ _ tt (λ net. un d s _ _ _ (λ e. tt) (un d s _ _ _ (λ e. tt) (gd d s _ (λ key. tt))))

switch-fits : (d : Option Bytes) (s : NodeState) → Fits d s (switch_over s)
unfolding switch_over
switch-fits d s =
    gi d s (active_row s) _ _ tt
    (λ net. un d s _ _ _ (λ e. tt) (nwk d s _ (ch d s s.sending _ _ (gi d s (newest s) _ _ tt (λ new. tt)) tt)))

again-fits : (d : Option Bytes) (s : NodeState) (device : ℕ) → Fits d s (again s device)
unfolding again
again-fits d s device = un d s _ _ _ (λ e. tt) (un d s _ _ _ (λ e. tt) tt)

share-fits : (c : Setting) (d : Option Bytes) (s : NodeState) (device partner : ℕ)
    → Fits d s (share c s device partner)
unfolding share
share-fits c d s device partner =
    gi d s (active_row s) _ _ tt
    (λ net. un d s _ _ _ (λ e. tt)
    (gi d s (pair_of s device partner) _ _ tt (λ pair. gi d s (current s device) _ _ tt (λ row. both d s _ tt))))

centre-own-fits : (c : Setting) (s : NodeState) (task : Task) → Fits (draw_of task) s (own_at_centre c s task)
centre-own-fits c s (SayTo to bytes) = say-fits None s to bytes
centre-own-fits c s DoTimer = centre-timer-fits c None s
centre-own-fits c s (HasChild child returns) = child-centre-fits c None s child
centre-own-fits c s (DoProvision device key) = provision-fits None s device key
centre-own-fits c s (DoRemove device via) = remove-fits c None s device via
centre-own-fits c s (DoRoll draw) = roll-fits draw s
centre-own-fits c s DoSwitch = switch-fits None s
centre-own-fits c s (DoAgain device) = again-fits None s device
centre-own-fits c s (DoShare device partner) = share-fits c None s device partner
centre-own-fits c s _ = tt

member-own-fits : (tools : Tools) (c : Setting) (s : NodeState) (task : Task)
    → Fits (draw_of task) s (own_at_member tools c s task)
member-own-fits tools c s (SayTo to bytes) = say-fits None s to bytes
member-own-fits tools c s (TellTo partner bytes) = tell-fits c None s partner bytes
member-own-fits tools c s DoKnock = knock-fits c None s
member-own-fits tools c s DoRejoin = rejoin-fits None s
member-own-fits tools c s DoTimer = member-timer-fits tools c None s
member-own-fits tools c s (AskFor partner) = ask-fits c None s partner
member-own-fits tools c s (HasChild child returns) = child-router-fits c None s child returns
member-own-fits tools c s _ = tt

own-fits : (tools : Tools) (c : Setting) (s : NodeState) (task : Task) → Fits (draw_of task) s (own tools c s task)
unfolding own
own-fits tools c s task = by-test (is_centre c.me.role)
  where
    by-test : (b : Bool) → Fits (draw_of task) s (cond b (own_at_centre c s task) (own_at_member tools c s task))
    by-test true = centre-own-fits c s task
    by-test false = member-own-fits tools c s task

-- commands

old-fits : (d : Option Bytes) (s : NodeState) (key : Bytes) (o : Option ℕ) (rest : Outcome) → Fits d s rest
    → Fits d s (refuse_if_old s key o rest)
old-fits d s key None rest f = f
old-fits d s key (Some place) rest f = tt

net-key-fits : (c : Setting) (d : Option Bytes) (s : NodeState) (m : Heard) (key : Bytes)
    (sequence destination source : ℕ) → Fits d s (take_net_key c s m key sequence destination source)
unfolding take_net_key
net-key-fits c d s m key sequence destination source =
    un d s _ _ _ (λ e. tt)
    (old-fits d s key (dropped_at 0 key s.nets) _ (ch d s (has_net key s.nets) _ _ tt (un d s _ _ _ (λ e. tt) tt)))

used-fits : (d : Option Bytes) (s : NodeState) (o : Option LinkKey) (rest : Outcome) → Fits d s rest
    → Fits d s (refuse_if_used o rest)
used-fits d s None rest f = f
used-fits d s (Some r) rest f = tt

row-fits : (d : Option Bytes) (s : NodeState) (partner : ℕ) (key : Bytes)
    (moves : List Rattle.zb_model.specs.Data.Move) → Fits d s (take_row s partner key moves)
unfolding take_row
row-fits d s partner key moves = un d s _ _ _ (λ e. tt) (used-fits d s (other_user s partner key) _ tt)

link-key-fits : (c : Setting) (d : Option Bytes) (s : NodeState) (m : Heard) (key : Bytes) (destination source : ℕ)
    → Fits d s (take_link_key c s m key destination source)
unfolding take_link_key
link-key-fits c d s m key destination source =
    un d s _ _ _ (λ e. tt) (un d s _ _ _ (λ e. tt) (ch d s _ _ _ tt (row-fits d s _ key _)))

app-key-fits : (c : Setting) (d : Option Bytes) (s : NodeState) (m : Heard) (key : Bytes) (partner : ℕ)
    → Fits d s (take_app_key c s m key partner)
unfolding take_app_key
app-key-fits c d s m key partner =
    un d s _ _ _ (λ e. tt) (un d s _ _ _ (λ e. tt) (un d s _ _ _ (λ e. tt) (ch d s _ _ _ tt (row-fits d s _ key _))))

take-switch-fits : (c : Setting) (d : Option Bytes) (s : NodeState) (m : Heard) (sequence : ℕ)
    → Fits d s (take_switch c s m sequence)
unfolding take_switch
take-switch-fits c d s m sequence = un d s _ _ _ (λ e. tt) (gi d s _ _ _ tt (λ row. tt))

take-confirm-fits : (c : Setting) (d : Option Bytes) (s : NodeState) (m : Heard) (status kind destination : ℕ)
    → Fits d s (take_confirm c s m status kind destination)
unfolding take_confirm
take-confirm-fits c d s m status kind destination =
    un d s _ _ _ (λ e. tt)
    (un d s _ _ _ (λ e. tt) (un d s _ _ _ (λ e. tt) (gi d s (offered s (centre_of c.stations)) _ _ tt (λ row. tt))))

take-remove-fits : (c : Setting) (d : Option Bytes) (s : NodeState) (m : Heard) (target : ℕ)
    → Fits d s (take_remove c s m target)
unfolding take_remove
take-remove-fits c d s m target = un d s _ _ _ (λ e. tt) (un d s _ _ _ (λ e. tt) (nwk d s _ tt))

take-tunnel-fits : (c : Setting) (d : Option Bytes) (s : NodeState) (m : Heard) (destination : ℕ) (inner : Bytes)
    → Fits d s (take_tunnel c s m destination inner)
unfolding take_tunnel
take-tunnel-fits c d s m destination inner = un d s _ _ _ (λ e. tt) (un d s _ _ _ (λ e. tt) tt)

take-update-fits : (c : Setting) (d : Option Bytes) (s : NodeState) (m : Heard) (device status : ℕ)
    → Fits d s (take_update c s m device status)
unfolding take_update
take-update-fits c d s m device status =
    un d s _ _ _ (λ e. tt)
    (ch d s _ _ _ tt (gi d s (active_row s) _ _ tt (λ net. gi d s (current s device) _ _ tt (λ row. both d s _ tt))))

answer-fits : (c : Setting) (d : Option Bytes) (s : NodeState) (device : ℕ) (row : LinkKey) (o : Option LinkKey)
    → Fits d s (answer_request c s device d row o)
answer-fits c d s device row (Some offer) = both d s _ tt
answer-fits c d s device row None = un d s _ _ _ (λ e. tt) (gd d s _ (λ key. both d s _ tt))

take-request-fits : (c : Setting) (d : Option Bytes) (s : NodeState) (m : Heard) → Fits d s (take_request c s m d)
unfolding take_request
take-request-fits c d s m =
    un d s _ _ _ (λ e. tt)
    (gi d s (current s m.sender) _ _ tt (λ row. answer-fits c d s m.sender row (offered s m.sender)))

pair-fits : (c : Setting) (d : Option Bytes) (s : NodeState) (device partner : ℕ) (row : LinkKey) (o : Option PairKey)
    → Fits d s (answer_pair c s device partner d row o)
pair-fits c d s device partner row (Some pair) = both d s _ tt
pair-fits c d s device partner row None = un d s _ _ _ (λ e. tt) (gd d s _ (λ key. both d s _ tt))

take-app-request-fits : (c : Setting) (d : Option Bytes) (s : NodeState) (m : Heard) (partner : ℕ)
    → Fits d s (take_app_request c s m d partner)
unfolding take_app_request
take-app-request-fits c d s m partner =
    un d s _ _ _ (λ e. tt)
    (un d s _ _ _ (λ e. tt)
    (un d s _ _ _ (λ e. tt)
    (gi d s (current s m.sender) _ _ tt (λ row. pair-fits c d s m.sender partner row (pair_of s m.sender partner)))))

take-verify-fits : (tools : Tools) (c : Setting) (d : Option Bytes) (s : NodeState) (m : Heard) (kind device : ℕ)
    (hash : Bytes) → Fits d s (take_verify tools c s m kind device hash)
unfolding take_verify
take-verify-fits tools c d s m kind device hash =
    un d s _ _ _ (λ e. tt)
    (un d s _ _ _ (λ e. tt)
    (un d s _ _ _ (λ e. tt)
    (both d s _
    (ch d s _ _ _ (gi d s (offered s device) _ _ tt (λ row. tt))
    (ch d s _ _ _ (gi d s (verified_current s device) _ _ tt (λ row. tt)) tt)))))

take-command-fits : (tools : Tools) (c : Setting) (d : Option Bytes) (s : NodeState) (m : Heard) (o : Command)
    → Fits d s (take_command tools c s d m o)
unfolding take_command
take-command-fits tools c d s m (TransportNet key sequence destination source) =
    net-key-fits c d s m key sequence destination source
take-command-fits tools c d s m (TransportApp key partner initiator) = app-key-fits c d s m key partner
take-command-fits tools c d s m (TransportLink key destination source) = link-key-fits c d s m key destination source
take-command-fits tools c d s m (UpdateDevice device short status) = take-update-fits c d s m device status
take-command-fits tools c d s m (RemoveDevice target) = take-remove-fits c d s m target
take-command-fits tools c d s m (RequestApp partner) = take-app-request-fits c d s m partner
take-command-fits tools c d s m RequestLink = take-request-fits c d s m
take-command-fits tools c d s m (SwitchKey sequence) = take-switch-fits c d s m sequence
take-command-fits tools c d s m (Tunnel destination inner) = take-tunnel-fits c d s m destination inner
take-command-fits tools c d s m (VerifyKey kind source hash) = take-verify-fits tools c d s m kind source hash
take-command-fits tools c d s m (ConfirmKey status kind destination) =
    take-confirm-fits c d s m status kind destination

leave-fits : (c : Setting) (d : Option Bytes) (s : NodeState) (term : Term) (options : ℕ)
    → Fits d s (take_leave c term options)
unfolding take_leave
leave-fits c d s term options = un d s _ _ _ (λ e. tt) tt

-- verification

abbrev VerdictFits : {A : Type 0} → Option Bytes → NodeState → Verdict A → Type 0
VerdictFits d s (Not model_place reason) = ReasonFits d s reason
VerdictFits d s (Good it) = Unit {0}

re : {A : Type 0} (d : Option Bytes) (s : NodeState) (bad : Bool) (model_place : Place) (reason : Reason)
    (rest : Verdict A) → ReasonFits d s reason → VerdictFits d s rest
    → VerdictFits d s (reject bad model_place reason rest)
unfolding reject
re d s true model_place reason rest k f = k
re d s false model_place reason rest k f = f

ne : {A B : Type 0} (d : Option Bytes) (s : NodeState) (o : Option A) (model_place : Place) (reason : Reason)
    (rest : A → Verdict B) → ReasonFits d s reason → ((a : A) → VerdictFits d s (rest a))
    → VerdictFits d s (need o model_place reason rest)
unfolding need
ne d s None model_place reason rest k f = k
ne d s (Some a) model_place reason rest k f = f a

judge-net-fits : (tools : Tools) (c : Setting) (d : Option Bytes) (s : NodeState) (bytes : Bytes) (aux : NwkAuxiliary)
    → VerdictFits d s (judge_net tools c s bytes aux)
unfolding judge_net
judge-net-fits tools c d s bytes aux =
    ne d s (usable_of s aux.sequence) _ _ _ tt
    (λ row. re d s _ _ _ _ tt
    (re d s _ _ _ _ tt
    (ne d s (tools.open_nwk bytes row.key) _ _ _ tt
    (λ t. re d s _ _ _ _ tt (re d s _ _ _ _ tt (re d s _ _ _ _ tt tt))))))

carrier-fits : (d : Option Bytes) (s : NodeState) (f : NwkShown) (v : Verdict Term) → VerdictFits d s v
    → VerdictFits d s (carrier f v)
carrier-fits d s f (Not model_place reason) k = k
carrier-fits d s f (Good t) k = tt

security-fits : (tools : Tools) (c : Setting) (d : Option Bytes) (s : NodeState) (bytes : Bytes) (f : NwkShown)
    (x : Option NwkAuxiliary) → VerdictFits d s (judge_security tools c s bytes f x)
security-fits tools c d s bytes f None = re d s _ _ _ _ tt tt
security-fits tools c d s bytes f (Some aux) = carrier-fits d s f (judge_net tools c s bytes aux)
    (judge-net-fits tools c d s bytes aux)

judge-nwk-fits : (tools : Tools) (c : Setting) (d : Option Bytes) (s : NodeState) (bytes : Bytes)
    → VerdictFits d s (judge_nwk tools c s bytes)
unfolding judge_nwk
judge-nwk-fits tools c d s bytes =
    ne d s (tools.read_nwk bytes) _ _ _ tt (λ f. re d s _ _ _ _ tt (security-fits tools c d s bytes f f.auxiliary))

judge-aps-fits : (tools : Tools) (c : Setting) (d : Option Bytes) (s : NodeState) (f : NwkShown) (bytes : Bytes)
    (aux : ApsAuxiliary) → VerdictFits d s (judge_aps tools c s f bytes aux)
unfolding judge_aps
judge-aps-fits tools c d s f bytes aux =
    ne d s (aps_source c f aux) _ _ _ tt
    (λ source. ne d s (chosen_row tools bytes source (candidates s source)) _ _ _ tt
    (λ row. re d s _ _ _ _ tt
    (re d s _ _ _ _ tt (ne d s (tools.open_aps bytes row.key source) _ _ _ tt (λ t. tt)))))

-- the plan

either-plan : (d : Option Bytes) (s : NodeState) (b : Bool) (p q : Plan) → Fits d s p.outcome → Fits d s q.outcome
    → Fits d s (cond b p q).outcome
either-plan d s true p q a b = a
either-plan d s false p q a b = b

command-fits : (tools : Tools) (c : Setting) (d : Option Bytes) (s : NodeState) (ts : List Term) (m : Heard)
    (o : CommandShown) → Fits d s (aps_command tools c s d ts m o).outcome
command-fits tools c d s ts m (Known command) = take-command-fits tools c d s m command
command-fits tools c d s ts m Unknown = tt
command-fits tools c d s ts m Broken = tt

clear-fits : (tools : Tools) (c : Setting) (d : Option Bytes) (s : NodeState) (nwk : Option Term) (a : ApsShown)
    → Fits d s (clear_part tools c s d nwk a).outcome
clear-fits tools c d s nwk a =
    either-plan d s a.is_command
    (aps_command tools c s d (option_to_list nwk) (heard_clear nwk) (tools.read_command a.body))
    (comes_to (option_to_list nwk) AtAps (Does [] None))
    (command-fits tools c d s (option_to_list nwk) (heard_clear nwk) (tools.read_command a.body)) tt

sealed-fits : (tools : Tools) (c : Setting) (d : Option Bytes) (s : NodeState) (nwk : Option Term) (a : ApsShown)
    (aux : ApsAuxiliary) (v : Verdict Unsealed) → VerdictFits d s v
    → Fits d s (sealed_part tools c s d nwk a aux v).outcome
sealed-fits tools c d s nwk a aux (Not model_place reason) k = k
sealed-fits tools c d s nwk a aux (Good u) k =
    either-plan d s a.is_command
    (aps_command tools c s d (option_to_list nwk ++ u.term ∷ []) (heard_sealed nwk aux u)
    (tools.read_command u.term.content)) (comes_to (option_to_list nwk ++ u.term ∷ []) AtAps (Does [] None))
    (command-fits tools c d s (option_to_list nwk ++ u.term ∷ []) (heard_sealed nwk aux u)
    (tools.read_command u.term.content)) tt

by-fits : (tools : Tools) (c : Setting) (d : Option Bytes) (s : NodeState) (f : NwkShown) (nwk : Option Term)
    (a : ApsShown) (x : Option ApsAuxiliary) → Fits d s (by_security tools c s d f nwk a x).outcome
by-fits tools c d s f nwk a None = clear-fits tools c d s nwk a
by-fits tools c d s f nwk a (Some aux) =
    sealed-fits tools c d s nwk a aux (judge_aps tools c s f (payload_of f nwk) aux)
    (judge-aps-fits tools c d s f (payload_of f nwk) aux)

part-fits : (tools : Tools) (c : Setting) (d : Option Bytes) (s : NodeState) (f : NwkShown) (nwk : Option Term)
    (o : Option ApsShown) → Fits d s (aps_part tools c s d f nwk o).outcome
part-fits tools c d s f nwk None = tt
part-fits tools c d s f nwk (Some a) = by-fits tools c d s f nwk a a.auxiliary

nwk-command-fits : (c : Setting) (d : Option Bytes) (s : NodeState) (term : Term) (l : LeaveShown)
    → Fits d s (nwk_command c term l).outcome
nwk-command-fits c d s term (Leave options) = leave-fits c d s term options
nwk-command-fits c d s term Other = tt
nwk-command-fits c d s term NoCommand = tt

net-fits : (tools : Tools) (c : Setting) (d : Option Bytes) (s : NodeState) (f : NwkShown) (o : Option Term)
    → Fits d s (net_part tools c s d f o).outcome
net-fits tools c d s f None = part-fits tools c d s f None (tools.read_aps f.body)
net-fits tools c d s f (Some t) =
    either-plan d s f.is_command (nwk_command c t (tools.read_leave t.content))
    (aps_part tools c s d f (Some t) (tools.read_aps t.content))
    (nwk-command-fits c d s t (tools.read_leave t.content))
    (part-fits tools c d s f (Some t) (tools.read_aps t.content))

received-fits : (tools : Tools) (c : Setting) (d : Option Bytes) (s : NodeState) (v : Verdict Carrier)
    → VerdictFits d s v → Fits d s (received_as tools c s d v).outcome
received-fits tools c d s (Not model_place reason) k = k
received-fits tools c d s (Good x) k = net-fits tools c d s x.frame x.term

pub plan-fits : (tools : Tools) (c : Setting) (s : NodeState) (task : Task)
    → Fits (draw_of task) s (plan_of tools c s task).outcome
unfolding plan_of
plan-fits tools c s (Received bytes draw) = received-fits tools c draw s (judge_nwk tools c s bytes)
    (judge-nwk-fits tools c draw s bytes)
plan-fits tools c s (SayTo to bytes) = own-fits tools c s (SayTo to bytes)
plan-fits tools c s (TellTo partner bytes) = own-fits tools c s (TellTo partner bytes)
plan-fits tools c s DoKnock = own-fits tools c s DoKnock
plan-fits tools c s DoRejoin = own-fits tools c s DoRejoin
plan-fits tools c s DoTimer = own-fits tools c s DoTimer
plan-fits tools c s (AskFor partner) = own-fits tools c s (AskFor partner)
plan-fits tools c s (HasChild child returns) = own-fits tools c s (HasChild child returns)
plan-fits tools c s (DoProvision device key) = own-fits tools c s (DoProvision device key)
plan-fits tools c s (DoRemove device via) = own-fits tools c s (DoRemove device via)
plan-fits tools c s (DoRoll draw) = own-fits tools c s (DoRoll draw)
plan-fits tools c s DoSwitch = own-fits tools c s DoSwitch
plan-fits tools c s (DoAgain device) = own-fits tools c s (DoAgain device)
plan-fits tools c s (DoShare device partner) = own-fits tools c s (DoShare device partner)

-- so if the next key of the supply is used as it is, the supply is empty

stops-so : (d : Option Bytes) (s : NodeState) (o : Outcome) → Fits d s o → Rattle.zb_model.specs.Answer.reason_of o
    ≡ Some NoDraw → unless_held s d ≡ None
stops-so d s (Does moves sending) f e = absurd (subst IsNone e tt)
  where
    IsNone : Option Reason → Type 0
    IsNone None = Unit {0}
    IsNone (Some r) = ⊥
stops-so d s (Stop reason) f e =
    subst (λ r. ReasonFits d s r) (ap (λ (x : Option Reason). Rattle.std.specs.Prelude.unwrap_or x reason) e) f

pub no-draw : (tools : Tools) (c : Setting) (s : NodeState) (task : Task) → unless_held s (draw_of task)
    ≡ draw_of task → Rattle.zb_model.specs.Answer.refusal_of (plan_of tools c s task) ≡ Some NoDraw → draw_of task
    ≡ None
no-draw tools c s task taken e = sym taken ∙ stops-so (draw_of task) s (plan_of tools c s task).outcome
    (plan-fits tools c s task) e

-- at the centre, before an event of a run
pub roll-no-draw : (tools : Tools) (w : Schedule) (h : List Line) (n : ℕ) → Granted w h n
    → is_centre (setting_of w n).me.role ≡ true
    → Rattle.zb_model.specs.Answer.refusal_of (plan_of tools (setting_of w n) (state_of h n) (DoRoll (supply w h)))
    ≡ Some NoDraw → supply w h ≡ None
roll-no-draw tools w h n g m e = no-draw tools (setting_of w n) (state_of h n) (DoRoll (supply w h)) (g.next_key m) e

pub frame-no-draw : (tools : Tools) (w : Schedule) (h : List Line) (n : ℕ) → Granted w h n
    → is_centre (setting_of w n).me.role ≡ true → (bytes : Bytes)
    → Rattle.zb_model.specs.Answer.refusal_of
    (plan_of tools (setting_of w n) (state_of h n) (Received bytes (supply w h))) ≡ Some NoDraw → supply w h ≡ None
frame-no-draw tools w h n g m bytes e = no-draw tools (setting_of w n) (state_of h n) (Received bytes (supply w h))
    (g.next_key m) e
