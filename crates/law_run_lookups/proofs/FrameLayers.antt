-- A rule answers counter-spent only if a layer of its frame has no counter left. Its frame is sealed at exactly these
-- layers. It refuses as policy no event that is for a node of its role.
use Rattle.std.proofs.Common.{◌≡◌, ℕ, ◌≤◌, Bool, true, false, cond, List, [], ◌∷◌, Option, Some, None, find, is_some, nat_eq, not, ◌&&◌, refl, sym, ◌∙◌, subst, leb-true, ◌⊎◌, inl, inr}
use Rattle.std.proofs.lemmas.Bool.{false≢true, or_cases}
use Rattle.zb_model.specs.Data.{Bytes, Layer, Nwk, Aps, State, Joined, Offered, Reason, CounterSpent, Policy, Move, Command, TransportNet, TransportApp, TransportLink, UpdateDevice, RemoveDevice, RequestApp, RequestLink, SwitchKey, Tunnel, VerifyKey, ConfirmKey, Task, SayTo, TellTo, DoKnock, DoRejoin, DoTimer, AskFor, HasChild, DoProvision, DoRemove, DoRoll, DoSwitch, DoAgain, DoShare}
use Rattle.zb_model.specs.State.{greatest_counter, LinkKey, PairKey, NodeState, is_centre, is_live_of, has_net, active_row, usable_active, newest, current, offered, other_user, pair_of, next_counter}
use Rattle.zb_model.specs.Tools.{Tools}
use Rattle.zb_model.specs.Rules.{Outcome, Stop, Does, Setting, Sending, Leaving, Secret, sends, refuse_if, found_or, choose, centre_of, short_of, spent, both_spent, unless_held}
use Rattle.zb_model.specs.OwnEvents.{say, knock, rejoin, request_key, verify_key, timer_in, member_timer, ask, tell, report_child, child_of_router, child_of_centre, next_member, centre_timer, provision_new, provision, tell_leave, tell_parent, remove_device, roll, switch_over, again, share, own_at_centre, own_at_member, own}
use Rattle.zb_model.specs.Commands.{Heard, take_net_key, refuse_if_old, dropped_at, refuse_if_used, take_row, take_link_key, take_app_key, take_switch, take_confirm, take_remove, take_tunnel, take_update, answer_request, take_request, answer_pair, take_app_request, verified_current, take_verify, take_command}
use Rattle.zb_model.specs.Schedules.{is_for_role}
use Rattle.law_run_lookups.specs.FrameLayers.{at_nwk, at_both, timer_layers, report_layers, centre_layers, member_layers, own_layers, command_layers, OneSpent, SealedAt}

-- P: what a refusal as policy says
abbrev ReasonFits : Type 0 → List Layer → NodeState → Reason → Type 0
ReasonFits P layers s CounterSpent = OneSpent layers s
ReasonFits P layers s Policy = P
ReasonFits P layers s _ = Unit {0}

abbrev Fits : Type 0 → List Layer → NodeState → Outcome → Type 0
Fits P layers s (Stop reason) = ReasonFits P layers s reason
Fits P layers s (Does moves sending) = SealedAt layers sending

un : (P : Type 0) (l : List Layer) (s : NodeState) (bad : Bool) (reason : Reason) (rest : Outcome)
    → (bad ≡ true → ReasonFits P l s reason) → Fits P l s rest → Fits P l s (refuse_if bad reason rest)
unfolding refuse_if
un P l s true reason rest k f = k refl
un P l s false reason rest k f = f

gi : {A : Type 0} (P : Type 0) (l : List Layer) (s : NodeState) (o : Option A) (reason : Reason) (rest : A → Outcome)
    → ReasonFits P l s reason → ((a : A) → Fits P l s (rest a)) → Fits P l s (found_or o reason rest)
unfolding found_or
gi P l s None reason rest k f = k
gi P l s (Some a) reason rest k f = f a

ch : (P : Type 0) (l : List Layer) (s : NodeState) (test : Bool) (a b : Outcome) → Fits P l s a → Fits P l s b
    → Fits P l s (choose test a b)
unfolding choose
ch P l s true a b f g = f
ch P l s false a b f g = g

-- the test of one counter, and of both
at-end : (layer : Layer) (s : NodeState) → spent layer s ≡ true → greatest_counter ≤ next_counter layer s
unfolding spent
at-end layer s e = leb-true greatest_counter (next_counter layer s) e

either-end : (s : NodeState) → both_spent s ≡ true → OneSpent at_both s
unfolding both_spent
either-end s e = by-case (or_cases (spent Nwk s) (spent Aps s) e)
  where
    by-case : (spent Nwk s ≡ true) ⊎ (spent Aps s ≡ true) → OneSpent at_both s
    by-case (inl f) = inl (at-end Nwk s f)
    by-case (inr f) = inr (inl (at-end Aps s f))

nwk : (P : Type 0) (s : NodeState) (rest : Outcome) → Fits P at_nwk s rest
    → Fits P at_nwk s (refuse_if (spent Nwk s) CounterSpent rest)
nwk P s rest f = un P at_nwk s (spent Nwk s) CounterSpent rest (λ e. inl (at-end Nwk s e)) f

aps : (P : Type 0) (s : NodeState) (rest : Outcome) → Fits P (Aps ∷ []) s rest
    → Fits P (Aps ∷ []) s (refuse_if (spent Aps s) CounterSpent rest)
aps P s rest f = un P (Aps ∷ []) s (spent Aps s) CounterSpent rest (λ e. inl (at-end Aps s e)) f

both : (P : Type 0) (s : NodeState) (rest : Outcome) → Fits P at_both s rest
    → Fits P at_both s (refuse_if (both_spent s) CounterSpent rest)
both P s rest f = un P at_both s (both_spent s) CounterSpent rest (either-end s) f

-- a node's own events

say-fits : (P : Type 0) (s : NodeState) (to : ℕ) (bytes : Bytes) → Fits P at_nwk s (say s to bytes)
unfolding say
say-fits P s to bytes =
    gi P at_nwk s (usable_active s) _ _ tt (λ net. un P at_nwk s _ _ _ (λ e. tt) (nwk P s _ (refl, refl)))

knock-fits : (P : Type 0) (c : Setting) (s : NodeState) → Fits P [] s (knock c s)
unfolding knock
knock-fits P c s = gi P [] s _ _ _ tt (λ row. tt)

rejoin-fits : (P : Type 0) (s : NodeState) → Fits P [] s (rejoin s)
unfolding rejoin
rejoin-fits P s = un P [] s _ _ _ (λ e. tt) tt

request-fits : (P : Type 0) (c : Setting) (s : NodeState) → Fits P at_both s (request_key c s)
unfolding request_key
request-fits P c s = gi P at_both s (current s (centre_of c.stations)) _ _ tt (λ row. both P s _ (refl, refl))

verify-fits : (P : Type 0) (tools : Tools) (c : Setting) (s : NodeState) → Fits P at_nwk s (verify_key tools c s)
unfolding verify_key
verify-fits P tools c s = gi P at_nwk s (offered s (centre_of c.stations)) _ _ tt (λ row. nwk P s _ (refl, refl))

timer-fits : (P : Type 0) (state : State) (tools : Tools) (c : Setting) (s : NodeState)
    → Fits P (timer_layers state) s (timer_in state tools c s)
timer-fits P Joined tools c s = request-fits P c s
timer-fits P Offered tools c s = verify-fits P tools c s
timer-fits P _ tools c s = tt

member-timer-fits : (P : Type 0) (tools : Tools) (c : Setting) (s : NodeState)
    → Fits P (timer_layers s.state) s (member_timer tools c s)
unfolding member_timer
member-timer-fits P tools c s = gi P (timer_layers s.state) s (usable_active s) _ _ tt
    (λ net. timer-fits P s.state tools c s)

ask-fits : (P : Type 0) (c : Setting) (s : NodeState) (partner : ℕ) → Fits P at_both s (ask c s partner)
unfolding ask
ask-fits P c s partner =
    gi P at_both s (usable_active s) _ _ tt
    (λ net. gi P at_both s (current s (centre_of c.stations)) _ _ tt
    (λ row. un P at_both s _ _ _ (λ e. tt) (both P s _ (refl, refl))))

tell-fits : (P : Type 0) (c : Setting) (s : NodeState) (partner : ℕ) (bytes : Bytes)
    → Fits P at_both s (tell c s partner bytes)
unfolding tell
tell-fits P c s partner bytes =
    gi P at_both s (usable_active s) _ _ tt
    (λ net. gi P at_both s (find (is_live_of partner) s.links) _ _ tt
    (λ row. un P at_both s _ _ _ (λ e. tt) (both P s _ (refl, refl))))

report-fits : (P : Type 0) (c : Setting) (s : NodeState) (child : ℕ) (returns : Bool) (o : Option LinkKey)
    → Fits P (report_layers o) s (report_child c s child returns o)
report-fits P c s child returns None = nwk P s _ (refl, refl)
report-fits P c s child returns (Some row) = both P s _ (refl, refl)

child-router-fits : (P : Type 0) (c : Setting) (s : NodeState) (child : ℕ) (returns : Bool)
    → Fits P (report_layers (current s (centre_of c.stations))) s (child_of_router c s child returns)
unfolding child_of_router
child-router-fits P c s child returns = gi P (report_layers (current s (centre_of c.stations))) s (usable_active s) _
    _ tt (λ net. un P (report_layers (current s (centre_of c.stations))) s _ _ _ (λ e. tt)
    (report-fits P c s child returns (current s (centre_of c.stations))))

child-centre-fits : (P : Type 0) (c : Setting) (s : NodeState) (child : ℕ)
    → Fits P (Aps ∷ []) s (child_of_centre c s child)
unfolding child_of_centre
child-centre-fits P c s child =
    gi P (Aps ∷ []) s (active_row s) _ _ tt
    (λ net. gi P (Aps ∷ []) s (current s child) _ _ tt (λ row. aps P s _ (refl, refl)))

centre-timer-fits : (P : Type 0) (c : Setting) (s : NodeState) → Fits P at_both s (centre_timer c s)
unfolding centre_timer
centre-timer-fits P c s =
    gi P at_both s (active_row s) _ _ tt
    (λ net. un P at_both s _ _ _ (λ e. tt)
    (gi P at_both s (next_member s) _ _ tt
    (λ device. gi P at_both s (newest s) _ _ tt
    (λ new. gi P at_both s (current s device) _ _ tt (λ row. both P s _ (refl, refl))))))

provision-new-fits : (P : Type 0) (s : NodeState) (device : ℕ) (key : Bytes) (o : Option LinkKey)
    → Fits P [] s (provision_new s device key o)
provision-new-fits P s device key None = tt
provision-new-fits P s device key (Some other) = tt

provision-fits : (P : Type 0) (s : NodeState) (device : ℕ) (key : Bytes) → Fits P [] s (provision s device key)
unfolding provision
provision-fits P s device key =
    un P [] s _ _ _ (λ e. tt) (un P [] s _ _ _ (λ e. tt) (provision-new-fits P s device key (other_user s device key)))

-- the node that is told of a removal, if that can be sealed
if-sealed : (l : List Layer) (b : Bool) (send : Option Sending) → SealedAt l send → SealedAt l (cond b send None)
if-sealed l true send f = f
if-sealed l false send f = tt

parent-fits : (c : Setting) (s : NodeState) (device via : ℕ) (o : Option LinkKey)
    → SealedAt at_both (tell_parent c s device via o)
parent-fits c s device via None = tt
parent-fits c s device via (Some row) = if-sealed at_both (is_some (active_row s) && not (both_spent s))
    (sends (short_of c via) true (Secret Rattle.zb_model.specs.Data.ForData row.key (RemoveDevice device)))
    (refl, refl)

told-fits : (c : Setting) (s : NodeState) (device via : ℕ) (b : Bool)
    → SealedAt (cond b at_nwk at_both) (cond b (tell_leave c s device) (tell_parent c s device via (current s via)))
told-fits c s device via true = if-sealed at_nwk (is_some (active_row s) && not (spent Nwk s))
    (sends (short_of c device) true Leaving) (refl, refl)
told-fits c s device via false = parent-fits c s device via (current s via)

remove-fits : (P : Type 0) (c : Setting) (s : NodeState) (device via : ℕ)
    → Fits P (centre_layers c (DoRemove device via)) s (remove_device c s device via)
unfolding remove_device
remove-fits P c s device via = un P (centre_layers c (DoRemove device via)) s _ _ _ (λ e. tt)
    (told-fits c s device via (nat_eq via c.me.eui))

roll-fits : (P : Type 0) (s : NodeState) (draw : Option Bytes) → Fits P [] s (roll s draw)
unfolding roll
roll-fits P s draw =
    gi P [] s (active_row s) _ _ tt
    (λ net. un P [] s _ _ _ (λ e. tt) (un P [] s _ _ _ (λ e. tt) (gi P [] s (unless_held s draw) _ _ tt (λ key. tt))))

switch-fits : (P : Type 0) (s : NodeState) → Fits P at_nwk s (switch_over s)
unfolding switch_over
switch-fits P s =
    gi P at_nwk s (active_row s) _ _ tt
    (λ net. un P at_nwk s _ _ _ (λ e. tt)
    (nwk P s _ (ch P at_nwk s s.sending _ _ (gi P at_nwk s (newest s) _ _ tt (λ new. (refl, refl))) (refl, refl))))

again-fits : (P : Type 0) (s : NodeState) (device : ℕ) → Fits P [] s (again s device)
unfolding again
again-fits P s device = un P [] s _ _ _ (λ e. tt) (un P [] s _ _ _ (λ e. tt) tt)

share-fits : (P : Type 0) (c : Setting) (s : NodeState) (device partner : ℕ)
    → Fits P at_both s (share c s device partner)
unfolding share
share-fits P c s device partner =
    gi P at_both s (active_row s) _ _ tt
    (λ net. un P at_both s _ _ _ (λ e. tt)
    (gi P at_both s (pair_of s device partner) _ _ tt
    (λ pair. gi P at_both s (current s device) _ _ tt (λ row. both P s _ (refl, refl)))))

-- refused as policy: the event isn't for the role
abbrev Unsuited : Bool → Task → Type 0
Unsuited centre task = is_for_role centre task ≡ false

centre-own-fits : (c : Setting) (s : NodeState) (task : Task) → Fits (Unsuited true task) (centre_layers c task) s
    (own_at_centre c s task)
centre-own-fits c s (SayTo to bytes) = say-fits _ s to bytes
centre-own-fits c s DoTimer = centre-timer-fits _ c s
centre-own-fits c s (HasChild child returns) = child-centre-fits _ c s child
centre-own-fits c s (DoProvision device key) = provision-fits _ s device key
centre-own-fits c s (DoRemove device via) = remove-fits _ c s device via
centre-own-fits c s (DoRoll draw) = roll-fits _ s draw
centre-own-fits c s DoSwitch = switch-fits _ s
centre-own-fits c s (DoAgain device) = again-fits _ s device
centre-own-fits c s (DoShare device partner) = share-fits _ c s device partner
centre-own-fits c s _ = refl

member-own-fits : (tools : Tools) (c : Setting) (s : NodeState) (task : Task)
    → Fits (Unsuited false task) (member_layers c s task) s (own_at_member tools c s task)
member-own-fits tools c s (SayTo to bytes) = say-fits _ s to bytes
member-own-fits tools c s (TellTo partner bytes) = tell-fits _ c s partner bytes
member-own-fits tools c s DoKnock = knock-fits _ c s
member-own-fits tools c s DoRejoin = rejoin-fits _ s
member-own-fits tools c s DoTimer = member-timer-fits _ tools c s
member-own-fits tools c s (AskFor partner) = ask-fits _ c s partner
member-own-fits tools c s (HasChild child returns) = child-router-fits _ c s child returns
member-own-fits tools c s _ = refl

own-fits : (tools : Tools) (c : Setting) (s : NodeState) (task : Task)
    → Fits (Unsuited (is_centre c.me.role) task) (own_layers c s task) s (own tools c s task)
unfolding own
own-fits tools c s task = by-test (is_centre c.me.role)
  where
    by-test : (b : Bool) → Fits (Unsuited b task) (cond b (centre_layers c task) (member_layers c s task)) s
        (cond b (own_at_centre c s task) (own_at_member tools c s task))
    by-test true = centre-own-fits c s task
    by-test false = member-own-fits tools c s task

-- commands, which are never refused as policy

abbrev Takes : List Layer → NodeState → Outcome → Type 0
Takes = Fits (Unit {0})

old-fits : (s : NodeState) (key : Bytes) (o : Option ℕ) (rest : Outcome) → Takes [] s rest
    → Takes [] s (refuse_if_old s key o rest)
old-fits s key None rest f = f
old-fits s key (Some place) rest f = tt

net-key-fits : (c : Setting) (s : NodeState) (m : Heard) (key : Bytes) (sequence destination source : ℕ)
    → Takes [] s (take_net_key c s m key sequence destination source)
unfolding take_net_key
net-key-fits c s m key sequence destination source =
    un _ [] s _ _ _ (λ e. tt)
    (old-fits s key (dropped_at 0 key s.nets) _ (ch _ [] s (has_net key s.nets) _ _ tt (un _ [] s _ _ _ (λ e. tt) tt)))

used-fits : (s : NodeState) (o : Option LinkKey) (rest : Outcome)
    → Takes [] s rest → Takes [] s (refuse_if_used o rest)
used-fits s None rest f = f
used-fits s (Some r) rest f = tt

row-fits : (s : NodeState) (partner : ℕ) (key : Bytes) (moves : List Move) → Takes [] s (take_row s partner key moves)
unfolding take_row
row-fits s partner key moves = un _ [] s _ _ _ (λ e. tt) (used-fits s (other_user s partner key) _ tt)

link-key-fits : (c : Setting) (s : NodeState) (m : Heard) (key : Bytes) (destination source : ℕ)
    → Takes [] s (take_link_key c s m key destination source)
unfolding take_link_key
link-key-fits c s m key destination source =
    un _ [] s _ _ _ (λ e. tt) (un _ [] s _ _ _ (λ e. tt) (ch _ [] s _ _ _ tt (row-fits s _ key _)))

app-key-fits : (c : Setting) (s : NodeState) (m : Heard) (key : Bytes) (partner : ℕ)
    → Takes [] s (take_app_key c s m key partner)
unfolding take_app_key
app-key-fits c s m key partner =
    un _ [] s _ _ _ (λ e. tt)
    (un _ [] s _ _ _ (λ e. tt) (un _ [] s _ _ _ (λ e. tt) (ch _ [] s _ _ _ tt (row-fits s _ key _))))

take-switch-fits : (c : Setting) (s : NodeState) (m : Heard) (sequence : ℕ) → Takes [] s (take_switch c s m sequence)
unfolding take_switch
take-switch-fits c s m sequence = un _ [] s _ _ _ (λ e. tt) (gi _ [] s _ _ _ tt (λ row. tt))

take-confirm-fits : (c : Setting) (s : NodeState) (m : Heard) (status kind destination : ℕ)
    → Takes [] s (take_confirm c s m status kind destination)
unfolding take_confirm
take-confirm-fits c s m status kind destination =
    un _ [] s _ _ _ (λ e. tt)
    (un _ [] s _ _ _ (λ e. tt)
    (un _ [] s _ _ _ (λ e. tt) (gi _ [] s (offered s (centre_of c.stations)) _ _ tt (λ row. tt))))

take-remove-fits : (c : Setting) (s : NodeState) (m : Heard) (target : ℕ) → Takes at_nwk s (take_remove c s m target)
unfolding take_remove
take-remove-fits c s m target = un _ at_nwk s _ _ _ (λ e. tt) (un _ at_nwk s _ _ _ (λ e. tt) (nwk _ s _ (refl, refl)))

take-tunnel-fits : (c : Setting) (s : NodeState) (m : Heard) (destination : ℕ) (inner : Bytes)
    → Takes [] s (take_tunnel c s m destination inner)
unfolding take_tunnel
take-tunnel-fits c s m destination inner = un _ [] s _ _ _ (λ e. tt) (un _ [] s _ _ _ (λ e. tt) (refl, refl))

-- if nothing is sent, nothing is claimed
take-update-fits : (c : Setting) (s : NodeState) (m : Heard) (device status : ℕ)
    → Takes at_both s (take_update c s m device status)
unfolding take_update
take-update-fits c s m device status =
    un _ at_both s _ _ _ (λ e. tt)
    (ch _ at_both s _ _ _ tt
    (gi _ at_both s (active_row s) _ _ tt
    (λ net. gi _ at_both s (current s device) _ _ tt (λ row. both _ s _ (refl, refl)))))

answer-fits : (c : Setting) (s : NodeState) (device : ℕ) (draw : Option Bytes) (row : LinkKey) (o : Option LinkKey)
    → Takes at_both s (answer_request c s device draw row o)
answer-fits c s device draw row (Some offer) = both _ s _ (refl, refl)
answer-fits c s device draw row None =
    un _ at_both s _ _ _ (λ e. tt) (gi _ at_both s (unless_held s draw) _ _ tt (λ key. both _ s _ (refl, refl)))

take-request-fits : (c : Setting) (s : NodeState) (m : Heard) (draw : Option Bytes)
    → Takes at_both s (take_request c s m draw)
unfolding take_request
take-request-fits c s m draw =
    un _ at_both s _ _ _ (λ e. tt)
    (gi _ at_both s (current s m.sender) _ _ tt (λ row. answer-fits c s m.sender draw row (offered s m.sender)))

pair-fits : (c : Setting) (s : NodeState) (device partner : ℕ) (draw : Option Bytes) (row : LinkKey)
    (o : Option PairKey) → Takes at_both s (answer_pair c s device partner draw row o)
pair-fits c s device partner draw row (Some pair) = both _ s _ (refl, refl)
pair-fits c s device partner draw row None =
    un _ at_both s _ _ _ (λ e. tt) (gi _ at_both s (unless_held s draw) _ _ tt (λ key. both _ s _ (refl, refl)))

take-app-request-fits : (c : Setting) (s : NodeState) (m : Heard) (draw : Option Bytes) (partner : ℕ)
    → Takes at_both s (take_app_request c s m draw partner)
unfolding take_app_request
take-app-request-fits c s m draw partner =
    un _ at_both s _ _ _ (λ e. tt)
    (un _ at_both s _ _ _ (λ e. tt)
    (un _ at_both s _ _ _ (λ e. tt)
    (gi _ at_both s (current s m.sender) _ _ tt
    (λ row. pair-fits c s m.sender partner draw row (pair_of s m.sender partner)))))

take-verify-fits : (tools : Tools) (c : Setting) (s : NodeState) (m : Heard) (kind device : ℕ) (hash : Bytes)
    → Takes at_both s (take_verify tools c s m kind device hash)
unfolding take_verify
take-verify-fits tools c s m kind device hash =
    un _ at_both s _ _ _ (λ e. tt)
    (un _ at_both s _ _ _ (λ e. tt)
    (un _ at_both s _ _ _ (λ e. tt)
    (both _ s _
    (ch _ at_both s _ _ _ (gi _ at_both s (offered s device) _ _ tt (λ row. (refl, refl)))
    (ch _ at_both s _ _ _ (gi _ at_both s (verified_current s device) _ _ tt (λ row. (refl, refl))) tt)))))

take-command-fits : (tools : Tools) (c : Setting) (s : NodeState) (draw : Option Bytes) (m : Heard) (o : Command)
    → Takes (command_layers o) s (take_command tools c s draw m o)
unfolding take_command
take-command-fits tools c s draw m (TransportNet key sequence destination source) =
    net-key-fits c s m key sequence destination source
take-command-fits tools c s draw m (TransportApp key partner initiator) = app-key-fits c s m key partner
take-command-fits tools c s draw m (TransportLink key destination source) = link-key-fits c s m key destination source
take-command-fits tools c s draw m (UpdateDevice device short status) = take-update-fits c s m device status
take-command-fits tools c s draw m (RemoveDevice target) = take-remove-fits c s m target
take-command-fits tools c s draw m (RequestApp partner) = take-app-request-fits c s m draw partner
take-command-fits tools c s draw m RequestLink = take-request-fits c s m draw
take-command-fits tools c s draw m (SwitchKey sequence) = take-switch-fits c s m sequence
take-command-fits tools c s draw m (Tunnel destination inner) = take-tunnel-fits c s m destination inner
take-command-fits tools c s draw m (VerifyKey kind source hash) = take-verify-fits tools c s m kind source hash
take-command-fits tools c s draw m (ConfirmKey status kind destination) =
    take-confirm-fits c s m status kind destination

-- what the laws say

pub own-spent : (tools : Tools) (c : Setting) (s : NodeState) (task : Task) → own tools c s task ≡ Stop CounterSpent
    → OneSpent (own_layers c s task) s
own-spent tools c s task e = subst (Fits (Unsuited (is_centre c.me.role) task) (own_layers c s task) s) e
    (own-fits tools c s task)

pub command-spent : (tools : Tools) (c : Setting) (s : NodeState) (draw : Option Bytes) (m : Heard)
    (command : Command) → take_command tools c s draw m command ≡ Stop CounterSpent
    → OneSpent (command_layers command) s
command-spent tools c s draw m command e = subst (Takes (command_layers command) s) e
    (take-command-fits tools c s draw m command)

pub own-sealed : (tools : Tools) (c : Setting) (s : NodeState) (task : Task) (moves : List Move)
    (send : Option Sending) → own tools c s task ≡ Does moves send → SealedAt (own_layers c s task) send
own-sealed tools c s task moves send e = subst (Fits (Unsuited (is_centre c.me.role) task) (own_layers c s task) s) e
    (own-fits tools c s task)

pub command-sealed : (tools : Tools) (c : Setting) (s : NodeState) (draw : Option Bytes) (m : Heard)
    (command : Command) (moves : List Move) (send : Option Sending) → take_command tools c s draw m command
    ≡ Does moves send
    → SealedAt (command_layers command) send
command-sealed tools c s draw m command moves send e = subst (Takes (command_layers command) s) e
    (take-command-fits tools c s draw m command)

pub own-suited : (tools : Tools) (c : Setting) (s : NodeState) (task : Task) → is_for_role (is_centre c.me.role) task
    ≡ true → own tools c s task ≡ Stop Policy → ⊥
own-suited tools c s task suits e =
    false≢true
    (sym (subst (Fits (Unsuited (is_centre c.me.role) task) (own_layers c s task) s) e (own-fits tools c s task)) ∙
    suits)
