-- A rule answers counter-spent only if a counter is spent.
use Rattle.std.proofs.Common.{◌≡◌, ℕ, Bool, true, false, cond, List, [], ◌∷◌, ◌++◌, Option, Some, None, option_to_list, find, refl, ◌⊎◌, inl, inr}
use Rattle.std.proofs.lemmas.Bool.{or_cases}
use Rattle.zb_model.specs.Data.{Bytes, Nwk, Aps, State, Joined, Offered, Reason, CounterSpent, Place, AtAps, Term, Command, TransportNet, TransportApp, TransportLink, UpdateDevice, RemoveDevice, RequestApp, RequestLink, SwitchKey, Tunnel, VerifyKey, ConfirmKey, Task, SayTo, TellTo, DoKnock, DoRejoin, DoTimer, AskFor, HasChild, DoProvision, DoRemove, DoRoll, DoSwitch, DoAgain, DoShare, Received}
use Rattle.zb_model.specs.State.{LinkKey, PairKey, NodeState, is_centre, is_live_of, has_net, active_row, usable_active, usable_of, newest, current, offered, other_user, pair_of}
use Rattle.zb_model.specs.Tools.{Tools, NwkShown, NwkAuxiliary, ApsShown, ApsAuxiliary, CommandShown, Known, Unknown, Broken, LeaveShown, Leave, Other, NoCommand}
use Rattle.zb_model.specs.Judging.{Verdict, Not, Good, reject, need, judge_net, Carrier, carrier, judge_security, judge_nwk, payload_of, candidates, chosen_row, aps_source, Unsealed, judge_aps}
use Rattle.zb_model.specs.Rules.{Outcome, Stop, Does, Plan, Setting, refuse_if, found_or, choose, centre_of, spent, both_spent, unless_held}
use Rattle.zb_model.specs.Answer.{comes_to, heard_clear, heard_sealed, nwk_command, aps_command, clear_part, sealed_part, by_security, aps_part, net_part, received_as, plan_of}
use Rattle.zb_model.specs.OwnEvents.{say, knock, rejoin, request_key, verify_key, timer_in, member_timer, ask, tell, report_child, child_of_router, child_of_centre, next_member, centre_timer, provision_new, provision, remove_device, roll, switch_over, again, share, own_at_centre, own_at_member, own}
use Rattle.zb_model.specs.Commands.{Heard, take_net_key, refuse_if_old, dropped_at, refuse_if_used, take_row, take_link_key, take_app_key, take_switch, take_confirm, take_remove, take_tunnel, take_update, answer_request, take_request, answer_pair, take_app_request, verified_current, take_verify, take_command, take_leave}

-- a counter is spent
abbrev pub IsSpent : NodeState → Type 0
IsSpent s = (spent Nwk s ≡ true) ⊎ (spent Aps s ≡ true)

abbrev pub ReasonFits : NodeState → Reason → Type 0
ReasonFits s CounterSpent = IsSpent s
ReasonFits s _ = Unit {0}

abbrev pub Fits : NodeState → Outcome → Type 0
Fits s (Stop reason) = ReasonFits s reason
Fits s (Does moves sending) = Unit {0}

un : (s : NodeState) (bad : Bool) (reason : Reason) (rest : Outcome) → (bad ≡ true → ReasonFits s reason)
    → Fits s rest → Fits s (refuse_if bad reason rest)
unfolding refuse_if
un s true reason rest k f = k refl
un s false reason rest k f = f

gi : {A : Type 0} (s : NodeState) (o : Option A) (reason : Reason) (rest : A → Outcome) → ReasonFits s reason
    → ((a : A) → Fits s (rest a)) → Fits s (found_or o reason rest)
unfolding found_or
gi s None reason rest k f = k
gi s (Some a) reason rest k f = f a

ch : (s : NodeState) (test : Bool) (a b : Outcome) → Fits s a → Fits s b → Fits s (choose test a b)
unfolding choose
ch s true a b f g = f
ch s false a b f g = g

either-spent : (s : NodeState) → both_spent s ≡ true → IsSpent s
unfolding both_spent
either-spent s e = or_cases (spent Nwk s) (spent Aps s) e

-- the test of one counter, and of both
nwk : (s : NodeState) (rest : Outcome) → Fits s rest → Fits s (refuse_if (spent Nwk s) CounterSpent rest)
nwk s rest f = un s (spent Nwk s) CounterSpent rest (λ e. inl e) f

aps : (s : NodeState) (rest : Outcome) → Fits s rest → Fits s (refuse_if (spent Aps s) CounterSpent rest)
aps s rest f = un s (spent Aps s) CounterSpent rest (λ e. inr e) f

both : (s : NodeState) (rest : Outcome) → Fits s rest → Fits s (refuse_if (both_spent s) CounterSpent rest)
both s rest f = un s (both_spent s) CounterSpent rest (either-spent s) f

-- a node's own events

say-fits : (s : NodeState) (to : ℕ) (bytes : Bytes) → Fits s (say s to bytes)
unfolding say
say-fits s to bytes = gi s (usable_active s) _ _ tt (λ net. un s _ _ _ (λ e. tt) (nwk s _ tt))

knock-fits : (c : Setting) (s : NodeState) → Fits s (knock c s)
unfolding knock
knock-fits c s = gi s _ _ _ tt (λ row. tt)

rejoin-fits : (s : NodeState) → Fits s (rejoin s)
unfolding rejoin
rejoin-fits s = un s _ _ _ (λ e. tt) tt

request-fits : (c : Setting) (s : NodeState) → Fits s (request_key c s)
unfolding request_key
request-fits c s = gi s (current s (centre_of c.stations)) _ _ tt (λ row. both s _ tt)

verify-fits : (tools : Tools) (c : Setting) (s : NodeState) → Fits s (verify_key tools c s)
unfolding verify_key
verify-fits tools c s = gi s (offered s (centre_of c.stations)) _ _ tt (λ row. nwk s _ tt)

timer-fits : (state : State) (tools : Tools) (c : Setting) (s : NodeState) → Fits s (timer_in state tools c s)
timer-fits Joined tools c s = request-fits c s
timer-fits Offered tools c s = verify-fits tools c s
timer-fits _ tools c s = tt

member-timer-fits : (tools : Tools) (c : Setting) (s : NodeState) → Fits s (member_timer tools c s)
unfolding member_timer
member-timer-fits tools c s = gi s (usable_active s) _ _ tt (λ net. timer-fits s.state tools c s)

ask-fits : (c : Setting) (s : NodeState) (partner : ℕ) → Fits s (ask c s partner)
unfolding ask
ask-fits c s partner =
    gi s (usable_active s) _ _ tt
    (λ net. gi s (current s (centre_of c.stations)) _ _ tt (λ row. un s _ _ _ (λ e. tt) (both s _ tt)))

tell-fits : (c : Setting) (s : NodeState) (partner : ℕ) (bytes : Bytes) → Fits s (tell c s partner bytes)
unfolding tell
tell-fits c s partner bytes =
    gi s (usable_active s) _ _ tt
    (λ net. gi s (find (is_live_of partner) s.links) _ _ tt (λ row. un s _ _ _ (λ e. tt) (both s _ tt)))

report-fits : (c : Setting) (s : NodeState) (child : ℕ) (returns : Bool) (o : Option LinkKey)
    → Fits s (report_child c s child returns o)
report-fits c s child returns None = nwk s _ tt
report-fits c s child returns (Some row) = both s _ tt

child-router-fits : (c : Setting) (s : NodeState) (child : ℕ) (returns : Bool)
    → Fits s (child_of_router c s child returns)
unfolding child_of_router
child-router-fits c s child returns =
    gi s (usable_active s) _ _ tt
    (λ net. un s _ _ _ (λ e. tt) (report-fits c s child returns (current s (centre_of c.stations))))

child-centre-fits : (c : Setting) (s : NodeState) (child : ℕ) → Fits s (child_of_centre c s child)
unfolding child_of_centre
child-centre-fits c s child = gi s (active_row s) _ _ tt (λ net. gi s (current s child) _ _ tt (λ row. aps s _ tt))

centre-timer-fits : (c : Setting) (s : NodeState) → Fits s (centre_timer c s)
unfolding centre_timer
centre-timer-fits c s =
    gi s (active_row s) _ _ tt
    (λ net. un s _ _ _ (λ e. tt)
    (gi s (next_member s) _ _ tt
    (λ device. gi s (newest s) _ _ tt (λ new. gi s (current s device) _ _ tt (λ row. both s _ tt)))))

provision-new-fits : (s : NodeState) (device : ℕ) (key : Bytes) (o : Option LinkKey)
    → Fits s (provision_new s device key o)
provision-new-fits s device key None = tt
provision-new-fits s device key (Some other) = tt

provision-fits : (s : NodeState) (device : ℕ) (key : Bytes) → Fits s (provision s device key)
unfolding provision
provision-fits s device key =
    un s _ _ _ (λ e. tt) (un s _ _ _ (λ e. tt) (provision-new-fits s device key (other_user s device key)))

remove-fits : (c : Setting) (s : NodeState) (device via : ℕ) → Fits s (remove_device c s device via)
unfolding remove_device
remove-fits c s device via = un s _ _ _ (λ e. tt) tt

roll-fits : (s : NodeState) (draw : Option Bytes) → Fits s (roll s draw)
unfolding roll
roll-fits s draw =
    gi s (active_row s) _ _ tt
    (λ net. un s _ _ _ (λ e. tt) (un s _ _ _ (λ e. tt) (gi s (unless_held s draw) _ _ tt (λ key. tt))))

switch-fits : (s : NodeState) → Fits s (switch_over s)
unfolding switch_over
switch-fits s =
    gi s (active_row s) _ _ tt
    (λ net. un s _ _ _ (λ e. tt) (nwk s _ (ch s s.sending _ _ (gi s (newest s) _ _ tt (λ new. tt)) tt)))

again-fits : (s : NodeState) (device : ℕ) → Fits s (again s device)
unfolding again
again-fits s device = un s _ _ _ (λ e. tt) (un s _ _ _ (λ e. tt) tt)

share-fits : (c : Setting) (s : NodeState) (device partner : ℕ) → Fits s (share c s device partner)
unfolding share
share-fits c s device partner =
    gi s (active_row s) _ _ tt
    (λ net. un s _ _ _ (λ e. tt)
    (gi s (pair_of s device partner) _ _ tt (λ pair. gi s (current s device) _ _ tt (λ row. both s _ tt))))

centre-own-fits : (c : Setting) (s : NodeState) (task : Task) → Fits s (own_at_centre c s task)
centre-own-fits c s (SayTo to bytes) = say-fits s to bytes
centre-own-fits c s DoTimer = centre-timer-fits c s
centre-own-fits c s (HasChild child returns) = child-centre-fits c s child
centre-own-fits c s (DoProvision device key) = provision-fits s device key
centre-own-fits c s (DoRemove device via) = remove-fits c s device via
centre-own-fits c s (DoRoll draw) = roll-fits s draw
centre-own-fits c s DoSwitch = switch-fits s
centre-own-fits c s (DoAgain device) = again-fits s device
centre-own-fits c s (DoShare device partner) = share-fits c s device partner
centre-own-fits c s _ = tt

member-own-fits : (tools : Tools) (c : Setting) (s : NodeState) (task : Task) → Fits s (own_at_member tools c s task)
member-own-fits tools c s (SayTo to bytes) = say-fits s to bytes
member-own-fits tools c s (TellTo partner bytes) = tell-fits c s partner bytes
member-own-fits tools c s DoKnock = knock-fits c s
member-own-fits tools c s DoRejoin = rejoin-fits s
member-own-fits tools c s DoTimer = member-timer-fits tools c s
member-own-fits tools c s (AskFor partner) = ask-fits c s partner
member-own-fits tools c s (HasChild child returns) = child-router-fits c s child returns
member-own-fits tools c s _ = tt

own-fits : (tools : Tools) (c : Setting) (s : NodeState) (task : Task) → Fits s (own tools c s task)
unfolding own
own-fits tools c s task = by-test (is_centre c.me.role)
  where
    by-test : (b : Bool) → Fits s (cond b (own_at_centre c s task) (own_at_member tools c s task))
    by-test true = centre-own-fits c s task
    by-test false = member-own-fits tools c s task

-- commands

old-fits : (s : NodeState) (key : Bytes) (o : Option ℕ) (rest : Outcome) → Fits s rest
    → Fits s (refuse_if_old s key o rest)
old-fits s key None rest f = f
old-fits s key (Some place) rest f = tt

net-key-fits : (c : Setting) (s : NodeState) (m : Heard) (key : Bytes) (sequence destination source : ℕ)
    → Fits s (take_net_key c s m key sequence destination source)
unfolding take_net_key
net-key-fits c s m key sequence destination source =
    un s _ _ _ (λ e. tt)
    (old-fits s key (dropped_at 0 key s.nets) _ (ch s (has_net key s.nets) _ _ tt (un s _ _ _ (λ e. tt) tt)))

used-fits : (s : NodeState) (o : Option LinkKey) (rest : Outcome) → Fits s rest → Fits s (refuse_if_used o rest)
used-fits s None rest f = f
used-fits s (Some r) rest f = tt

row-fits : (s : NodeState) (partner : ℕ) (key : Bytes) (moves : List Rattle.zb_model.specs.Data.Move)
    → Fits s (take_row s partner key moves)
unfolding take_row
row-fits s partner key moves = un s _ _ _ (λ e. tt) (used-fits s (other_user s partner key) _ tt)

link-key-fits : (c : Setting) (s : NodeState) (m : Heard) (key : Bytes) (destination source : ℕ)
    → Fits s (take_link_key c s m key destination source)
unfolding take_link_key
link-key-fits c s m key destination source =
    un s _ _ _ (λ e. tt) (un s _ _ _ (λ e. tt) (ch s _ _ _ tt (row-fits s _ key _)))

app-key-fits : (c : Setting) (s : NodeState) (m : Heard) (key : Bytes) (partner : ℕ)
    → Fits s (take_app_key c s m key partner)
unfolding take_app_key
app-key-fits c s m key partner =
    un s _ _ _ (λ e. tt) (un s _ _ _ (λ e. tt) (un s _ _ _ (λ e. tt) (ch s _ _ _ tt (row-fits s _ key _))))

take-switch-fits : (c : Setting) (s : NodeState) (m : Heard) (sequence : ℕ) → Fits s (take_switch c s m sequence)
unfolding take_switch
take-switch-fits c s m sequence = un s _ _ _ (λ e. tt) (gi s _ _ _ tt (λ row. tt))

take-confirm-fits : (c : Setting) (s : NodeState) (m : Heard) (status kind destination : ℕ)
    → Fits s (take_confirm c s m status kind destination)
unfolding take_confirm
take-confirm-fits c s m status kind destination =
    un s _ _ _ (λ e. tt)
    (un s _ _ _ (λ e. tt) (un s _ _ _ (λ e. tt) (gi s (offered s (centre_of c.stations)) _ _ tt (λ row. tt))))

take-remove-fits : (c : Setting) (s : NodeState) (m : Heard) (target : ℕ) → Fits s (take_remove c s m target)
unfolding take_remove
take-remove-fits c s m target = un s _ _ _ (λ e. tt) (un s _ _ _ (λ e. tt) (nwk s _ tt))

take-tunnel-fits : (c : Setting) (s : NodeState) (m : Heard) (destination : ℕ) (inner : Bytes)
    → Fits s (take_tunnel c s m destination inner)
unfolding take_tunnel
take-tunnel-fits c s m destination inner = un s _ _ _ (λ e. tt) (un s _ _ _ (λ e. tt) tt)

take-update-fits : (c : Setting) (s : NodeState) (m : Heard) (device status : ℕ)
    → Fits s (take_update c s m device status)
unfolding take_update
take-update-fits c s m device status =
    un s _ _ _ (λ e. tt)
    (ch s _ _ _ tt (gi s (active_row s) _ _ tt (λ net. gi s (current s device) _ _ tt (λ row. both s _ tt))))

answer-fits : (c : Setting) (s : NodeState) (device : ℕ) (draw : Option Bytes) (row : LinkKey) (o : Option LinkKey)
    → Fits s (answer_request c s device draw row o)
answer-fits c s device draw row (Some offer) = both s _ tt
answer-fits c s device draw row None = un s _ _ _ (λ e. tt) (gi s (unless_held s draw) _ _ tt (λ key. both s _ tt))

take-request-fits : (c : Setting) (s : NodeState) (m : Heard) (draw : Option Bytes) → Fits s (take_request c s m draw)
unfolding take_request
take-request-fits c s m draw =
    un s _ _ _ (λ e. tt)
    (gi s (current s m.sender) _ _ tt (λ row. answer-fits c s m.sender draw row (offered s m.sender)))

pair-fits : (c : Setting) (s : NodeState) (device partner : ℕ) (draw : Option Bytes) (row : LinkKey)
    (o : Option PairKey) → Fits s (answer_pair c s device partner draw row o)
pair-fits c s device partner draw row (Some pair) = both s _ tt
pair-fits c s device partner draw row None =
    un s _ _ _ (λ e. tt) (gi s (unless_held s draw) _ _ tt (λ key. both s _ tt))

take-app-request-fits : (c : Setting) (s : NodeState) (m : Heard) (draw : Option Bytes) (partner : ℕ)
    → Fits s (take_app_request c s m draw partner)
unfolding take_app_request
take-app-request-fits c s m draw partner =
    un s _ _ _ (λ e. tt)
    (un s _ _ _ (λ e. tt)
    (un s _ _ _ (λ e. tt)
    (gi s (current s m.sender) _ _ tt (λ row. pair-fits c s m.sender partner draw row (pair_of s m.sender partner)))))

take-verify-fits : (tools : Tools) (c : Setting) (s : NodeState) (m : Heard) (kind device : ℕ) (hash : Bytes)
    → Fits s (take_verify tools c s m kind device hash)
unfolding take_verify
take-verify-fits tools c s m kind device hash =
    un s _ _ _ (λ e. tt)
    (un s _ _ _ (λ e. tt)
    (un s _ _ _ (λ e. tt)
    (both s _
    (ch s _ _ _ (gi s (offered s device) _ _ tt (λ row. tt))
    (ch s _ _ _ (gi s (verified_current s device) _ _ tt (λ row. tt)) tt)))))

take-command-fits : (tools : Tools) (c : Setting) (s : NodeState) (draw : Option Bytes) (m : Heard) (o : Command)
    → Fits s (take_command tools c s draw m o)
unfolding take_command
take-command-fits tools c s draw m (TransportNet key sequence destination source) =
    net-key-fits c s m key sequence destination source
take-command-fits tools c s draw m (TransportApp key partner initiator) = app-key-fits c s m key partner
take-command-fits tools c s draw m (TransportLink key destination source) = link-key-fits c s m key destination source
take-command-fits tools c s draw m (UpdateDevice device short status) = take-update-fits c s m device status
take-command-fits tools c s draw m (RemoveDevice target) = take-remove-fits c s m target
take-command-fits tools c s draw m (RequestApp partner) = take-app-request-fits c s m draw partner
take-command-fits tools c s draw m RequestLink = take-request-fits c s m draw
take-command-fits tools c s draw m (SwitchKey sequence) = take-switch-fits c s m sequence
take-command-fits tools c s draw m (Tunnel destination inner) = take-tunnel-fits c s m destination inner
take-command-fits tools c s draw m (VerifyKey kind source hash) = take-verify-fits tools c s m kind source hash
take-command-fits tools c s draw m (ConfirmKey status kind destination) =
    take-confirm-fits c s m status kind destination

leave-fits : (c : Setting) (s : NodeState) (term : Term) (options : ℕ) → Fits s (take_leave c term options)
unfolding take_leave
leave-fits c s term options = un s _ _ _ (λ e. tt) tt

-- verification

abbrev VerdictFits : {A : Type 0} → NodeState → Verdict A → Type 0
VerdictFits s (Not model_place reason) = ReasonFits s reason
VerdictFits s (Good it) = Unit {0}

re : {A : Type 0} (s : NodeState) (bad : Bool) (model_place : Place) (reason : Reason) (rest : Verdict A)
    → ReasonFits s reason → VerdictFits s rest → VerdictFits s (reject bad model_place reason rest)
unfolding reject
re s true model_place reason rest k f = k
re s false model_place reason rest k f = f

ne : {A B : Type 0} (s : NodeState) (o : Option A) (model_place : Place) (reason : Reason) (rest : A → Verdict B)
    → ReasonFits s reason → ((a : A) → VerdictFits s (rest a)) → VerdictFits s (need o model_place reason rest)
unfolding need
ne s None model_place reason rest k f = k
ne s (Some a) model_place reason rest k f = f a

judge-net-fits : (tools : Tools) (c : Setting) (s : NodeState) (bytes : Bytes) (aux : NwkAuxiliary)
    → VerdictFits s (judge_net tools c s bytes aux)
unfolding judge_net
judge-net-fits tools c s bytes aux =
    ne s (usable_of s aux.sequence) _ _ _ tt
    (λ row. re s _ _ _ _ tt
    (re s _ _ _ _ tt
    (ne s (tools.open_nwk bytes row.key) _ _ _ tt (λ t. re s _ _ _ _ tt (re s _ _ _ _ tt (re s _ _ _ _ tt tt))))))

carrier-fits : (s : NodeState) (f : NwkShown) (v : Verdict Term) → VerdictFits s v → VerdictFits s (carrier f v)
carrier-fits s f (Not model_place reason) k = k
carrier-fits s f (Good t) k = tt

security-fits : (tools : Tools) (c : Setting) (s : NodeState) (bytes : Bytes) (f : NwkShown) (x : Option NwkAuxiliary)
    → VerdictFits s (judge_security tools c s bytes f x)
security-fits tools c s bytes f None = re s _ _ _ _ tt tt
security-fits tools c s bytes f (Some aux) = carrier-fits s f (judge_net tools c s bytes aux)
    (judge-net-fits tools c s bytes aux)

judge-nwk-fits : (tools : Tools) (c : Setting) (s : NodeState) (bytes : Bytes)
    → VerdictFits s (judge_nwk tools c s bytes)
unfolding judge_nwk
judge-nwk-fits tools c s bytes =
    ne s (tools.read_nwk bytes) _ _ _ tt (λ f. re s _ _ _ _ tt (security-fits tools c s bytes f f.auxiliary))

judge-aps-fits : (tools : Tools) (c : Setting) (s : NodeState) (f : NwkShown) (bytes : Bytes) (aux : ApsAuxiliary)
    → VerdictFits s (judge_aps tools c s f bytes aux)
unfolding judge_aps
judge-aps-fits tools c s f bytes aux =
    ne s (aps_source c f aux) _ _ _ tt
    (λ source. ne s (chosen_row tools bytes source (candidates s source)) _ _ _ tt
    (λ row. re s _ _ _ _ tt (re s _ _ _ _ tt (ne s (tools.open_aps bytes row.key source) _ _ _ tt (λ t. tt)))))

-- the plan

either-plan : (s : NodeState) (b : Bool) (p q : Plan) → Fits s p.outcome → Fits s q.outcome
    → Fits s (cond b p q).outcome
either-plan s true p q a b = a
either-plan s false p q a b = b

command-fits : (tools : Tools) (c : Setting) (s : NodeState) (draw : Option Bytes) (ts : List Term) (m : Heard)
    (o : CommandShown) → Fits s (aps_command tools c s draw ts m o).outcome
command-fits tools c s draw ts m (Known command) = take-command-fits tools c s draw m command
command-fits tools c s draw ts m Unknown = tt
command-fits tools c s draw ts m Broken = tt

clear-fits : (tools : Tools) (c : Setting) (s : NodeState) (draw : Option Bytes) (nwk : Option Term) (a : ApsShown)
    → Fits s (clear_part tools c s draw nwk a).outcome
clear-fits tools c s draw nwk a =
    either-plan s a.is_command
    (aps_command tools c s draw (option_to_list nwk) (heard_clear nwk) (tools.read_command a.body))
    (comes_to (option_to_list nwk) AtAps (Does [] None))
    (command-fits tools c s draw (option_to_list nwk) (heard_clear nwk) (tools.read_command a.body)) tt

sealed-fits : (tools : Tools) (c : Setting) (s : NodeState) (draw : Option Bytes) (nwk : Option Term) (a : ApsShown)
    (aux : ApsAuxiliary) (v : Verdict Unsealed) → VerdictFits s v
    → Fits s (sealed_part tools c s draw nwk a aux v).outcome
sealed-fits tools c s draw nwk a aux (Not model_place reason) k = k
sealed-fits tools c s draw nwk a aux (Good u) k =
    either-plan s a.is_command
    (aps_command tools c s draw (option_to_list nwk ++ u.term ∷ []) (heard_sealed nwk aux u)
    (tools.read_command u.term.content)) (comes_to (option_to_list nwk ++ u.term ∷ []) AtAps (Does [] None))
    (command-fits tools c s draw (option_to_list nwk ++ u.term ∷ []) (heard_sealed nwk aux u)
    (tools.read_command u.term.content)) tt

by-fits : (tools : Tools) (c : Setting) (s : NodeState) (draw : Option Bytes) (f : NwkShown) (nwk : Option Term)
    (a : ApsShown) (x : Option ApsAuxiliary) → Fits s (by_security tools c s draw f nwk a x).outcome
by-fits tools c s draw f nwk a None = clear-fits tools c s draw nwk a
by-fits tools c s draw f nwk a (Some aux) =
    sealed-fits tools c s draw nwk a aux (judge_aps tools c s f (payload_of f nwk) aux)
    (judge-aps-fits tools c s f (payload_of f nwk) aux)

part-fits : (tools : Tools) (c : Setting) (s : NodeState) (draw : Option Bytes) (f : NwkShown) (nwk : Option Term)
    (o : Option ApsShown) → Fits s (aps_part tools c s draw f nwk o).outcome
part-fits tools c s draw f nwk None = tt
part-fits tools c s draw f nwk (Some a) = by-fits tools c s draw f nwk a a.auxiliary

nwk-command-fits : (c : Setting) (s : NodeState) (term : Term) (l : LeaveShown) → Fits s (nwk_command c term l).outcome
nwk-command-fits c s term (Leave options) = leave-fits c s term options
nwk-command-fits c s term Other = tt
nwk-command-fits c s term NoCommand = tt

net-fits : (tools : Tools) (c : Setting) (s : NodeState) (draw : Option Bytes) (f : NwkShown) (o : Option Term)
    → Fits s (net_part tools c s draw f o).outcome
net-fits tools c s draw f None = part-fits tools c s draw f None (tools.read_aps f.body)
net-fits tools c s draw f (Some t) =
    either-plan s f.is_command (nwk_command c t (tools.read_leave t.content))
    (aps_part tools c s draw f (Some t) (tools.read_aps t.content))
    (nwk-command-fits c s t (tools.read_leave t.content))
    (part-fits tools c s draw f (Some t) (tools.read_aps t.content))

received-fits : (tools : Tools) (c : Setting) (s : NodeState) (draw : Option Bytes) (v : Verdict Carrier)
    → VerdictFits s v → Fits s (received_as tools c s draw v).outcome
received-fits tools c s draw (Not model_place reason) k = k
received-fits tools c s draw (Good x) k = net-fits tools c s draw x.frame x.term

pub plan-fits : (tools : Tools) (c : Setting) (s : NodeState) (task : Task) → Fits s (plan_of tools c s task).outcome
unfolding plan_of
plan-fits tools c s (Received bytes draw) = received-fits tools c s draw (judge_nwk tools c s bytes)
    (judge-nwk-fits tools c s bytes)
plan-fits tools c s (SayTo to bytes) = own-fits tools c s (SayTo to bytes)
plan-fits tools c s (TellTo partner bytes) = own-fits tools c s (TellTo partner bytes)
plan-fits tools c s DoKnock = own-fits tools c s DoKnock
plan-fits tools c s DoRejoin = own-fits tools c s DoRejoin
plan-fits tools c s DoTimer = own-fits tools c s DoTimer
plan-fits tools c s (AskFor partner) = own-fits tools c s (AskFor partner)
plan-fits tools c s (HasChild child returns) = own-fits tools c s (HasChild child returns)
plan-fits tools c s (DoProvision device key) = own-fits tools c s (DoProvision device key)
plan-fits tools c s (DoRemove device via) = own-fits tools c s (DoRemove device via)
plan-fits tools c s (DoRoll draw) = own-fits tools c s (DoRoll draw)
plan-fits tools c s DoSwitch = own-fits tools c s DoSwitch
plan-fits tools c s (DoAgain device) = own-fits tools c s (DoAgain device)
plan-fits tools c s (DoShare device partner) = own-fits tools c s (DoShare device partner)
