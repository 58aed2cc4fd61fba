-- What a rule sends may be sealed, if a node that verified the frame under a network key has an active row. After a
-- network key is installed, a key is active.
use Rattle.std.proofs.Common.{◌≡◌, ℕ, Bool, true, false, cond, not, ◌&&◌, ◌||◌, List, [], ◌∷◌, ◌++◌, map, Option, Some, None, find, is_some, is_none, filter, nat_eq, nat_le, length, refl, sym, ap, ◌∙◌, ◌⊎◌, inl, inr}
use Rattle.std.proofs.lemmas.Bool.{false≢true, and_parts}
use Rattle.zb_model.specs.Data.{Bytes, Nwk, Aps, ForData, State, Joined, Offered, Reason, CounterSpent, Move, Install, Active, Became, Removed, Command, TransportNet, TransportApp, TransportLink, UpdateDevice, RemoveDevice, RequestApp, RequestLink, SwitchKey, Tunnel, VerifyKey, ConfirmKey, Task, SayTo, TellTo, DoKnock, DoRejoin, DoTimer, AskFor, HasChild, DoProvision, DoRemove, DoRoll, DoSwitch, DoAgain, DoShare, Term}
use Rattle.zb_model.specs.State.{NetKey, LinkKey, PairKey, NodeState, same_key, is_centre, is_live_of, is_active_key, live_nets, has_net, net_of_active, active_row, usable_active, may_use, newest, current, offered, other_user, pair_of}
use Rattle.zb_model.specs.Tools.{Tools}
use Rattle.zb_model.specs.Rules.{Outcome, Stop, Does, Setting, Sending, Leaving, Secret, sends, refuse_if, found_or, choose, centre_of, short_of, spent, both_spent, waits_for_key, unless_held, drop_link, drop_row, drop_partner, drop_others, drop_old, first_drop}
use Rattle.zb_model.specs.Answer.{seals_at, may_seal}
use Rattle.zb_model.specs.OwnEvents.{say, knock, rejoin, request_key, verify_key, timer_in, member_timer, ask, tell, report_child, child_of_router, child_of_centre, next_member, centre_timer, provision_new, provision, tell_leave, tell_parent, remove_device, roll, switch_over, again, share, own_at_centre, own_at_member, own}
use Rattle.zb_model.specs.Commands.{Heard, labelled, take_net_key, refuse_if_old, dropped_at, activate, activates, joined_state, refuse_if_used, take_row, take_link_key, take_app_key, take_switch, take_confirm, take_remove, take_tunnel, take_update, answer_request, take_request, answer_pair, take_app_request, verified_current, take_verify, take_command, take_leave}
use Rattle.law_run_lookups.proofs.Waking.{Awake, Wakes, Leads}

abbrev pub Fits : NodeState → Outcome → Type 0
Fits s (Stop reason) = Unit {0}
Fits s (Does moves sending) = (is_some s.active ≡ false → Leads moves) × (may_seal s sending ≡ true)

-- The steps of a rule

un : (s : NodeState) (bad : Bool) (reason : Reason) (rest : Outcome) → Fits s rest → Fits s (refuse_if bad reason rest)
unfolding refuse_if
un s true reason rest f = tt
un s false reason rest f = f

ue : (s : NodeState) (bad : Bool) (reason : Reason) (rest : Outcome) → (bad ≡ false → Fits s rest)
    → Fits s (refuse_if bad reason rest)
unfolding refuse_if
ue s true reason rest f = tt
ue s false reason rest f = f refl

gi : {A : Type 0} (s : NodeState) (o : Option A) (reason : Reason) (rest : A → Outcome)
    → ((a : A) → o ≡ Some a → Fits s (rest a)) → Fits s (found_or o reason rest)
unfolding found_or
gi s None reason rest f = tt
gi s (Some a) reason rest f = f a refl

ch : (s : NodeState) (test : Bool) (a b : Outcome) → Fits s a → Fits s b → Fits s (choose test a b)
unfolding choose
ch s true a b f g = f
ch s false a b f g = g

-- What may be sealed

may-by : (a b c d e : Bool) → (a ≡ true → (b ≡ true) × (c ≡ false)) → (d ≡ true → e ≡ false)
    → ((not a || (b && not c)) && (not d || not e)) ≡ true
may-by false b c false e f g = refl
may-by false b c true false f g = refl
may-by false b c true true f g = absurd (false≢true (sym (g refl)))
may-by true true false false e f g = refl
may-by true true false true false f g = refl
may-by true true false true true f g = absurd (false≢true (sym (g refl)))
may-by true true true d e f g = absurd (false≢true (sym (f refl).1))
may-by true false c d e f g = absurd (false≢true (f refl).0)

may : (s : NodeState) (send : Option Sending) → (seals_at Nwk send ≡ true → Awake s × (spent Nwk s ≡ false))
    → (seals_at Aps send ≡ true → spent Aps s ≡ false) → may_seal s send ≡ true
unfolding may_seal
may s send f g = may-by (seals_at Nwk send) (is_some (active_row s)) (spent Nwk s) (seals_at Aps send) (spent Aps s) f
    g

pub may-none : (s : NodeState) → may_seal s None ≡ true
may-none s = may s None (λ e. absurd (false≢true e)) (λ e. absurd (false≢true e))

may-both : (s : NodeState) (send : Option Sending) → Awake s → (spent Nwk s ≡ false) × (spent Aps s ≡ false)
    → may_seal s send ≡ true
may-both s send a u = may s send (λ e. (a, u.0)) (λ e. u.1)

may-nwk : (s : NodeState) (send : Option Sending) → seals_at Aps send ≡ false → Awake s → spent Nwk s ≡ false
    → may_seal s send ≡ true
may-nwk s send n a u = may s send (λ e. (a, u)) (λ e. absurd (false≢true (sym n ∙ e)))

may-aps : (s : NodeState) (send : Option Sending) → seals_at Nwk send ≡ false → spent Aps s ≡ false → may_seal s send
    ≡ true
may-aps s send n v = may s send (λ e. absurd (false≢true (sym n ∙ e))) (λ e. v)

neither : (a b : Bool) → (a || b) ≡ false → (a ≡ false) × (b ≡ false)
neither false b e = (refl, e)
neither true b e = absurd (false≢true (sym e))

not-true : (b : Bool) → not b ≡ true → b ≡ false
not-true false e = refl
not-true true e = absurd (false≢true e)

not-false : (b : Bool) → not b ≡ false → b ≡ true
not-false true e = refl
not-false false e = absurd (false≢true (sym e))

needs : (a b : Bool) → not (a && b) ≡ false → (a ≡ true) × (b ≡ true)
needs a b e = and_parts a b (not-false (a && b) e)

-- both counters
bo : (s : NodeState) (rest : Outcome) → ((spent Nwk s ≡ false) × (spent Aps s ≡ false) → Fits s rest)
    → Fits s (refuse_if (both_spent s) CounterSpent rest)
unfolding both_spent
bo s rest f = ue s (spent Nwk s || spent Aps s) CounterSpent rest (λ e. f (neither (spent Nwk s) (spent Aps s) e))

-- Rows that are there

usable-by : (b : Bool) (o : Option NetKey) → is_some (cond b o None) ≡ true → is_some o ≡ true
usable-by true o e = e
usable-by false o e = absurd (false≢true e)

usable-awake : (s : NodeState) (net : NetKey) → usable_active s ≡ Some net → Awake s
unfolding usable_active
usable-awake s net e = usable-by (may_use s) (active_row s) (ap is_some e)

row-awake : (s : NodeState) (net : NetKey) → active_row s ≡ Some net → Awake s
row-awake s net e = ap is_some e

-- a node with an active row has an active key
key-by : (s : NodeState) (o : Option Bytes) → is_some (net_of_active o s) ≡ true → is_some o ≡ true
key-by s None e = e
key-by s (Some key) e = refl

awake-key : (s : NodeState) → Awake s → is_some s.active ≡ true
unfolding active_row
awake-key s a = key-by s s.active a

-- Moves that bring no network key

drops-lead : (rs : List LinkKey) (ms : List Move) → Leads ms → Leads (map drop_link rs ++ ms)
drops-lead [] ms l = l
drops-lead (r ∷ rs) ms l = drops-lead rs ms l

partner-leads : (s : NodeState) (p : ℕ) (ms : List Move) → Leads ms → Leads (drop_partner s p ++ ms)
unfolding drop_partner
partner-leads s p ms l = drops-lead (filter (is_live_of p) s.links) ms l

others-lead : (s : NodeState) (p : ℕ) (key : Bytes) (ms : List Move) → Leads ms → Leads (drop_others s p key ++ ms)
unfolding drop_others
others-lead s p key ms l = drops-lead (filter (λ (r : LinkKey). is_live_of p r && not (same_key r.key key)) s.links)
    ms l

row-leads : (o : Option LinkKey) (ms : List Move) → Leads ms → Leads (drop_row o ++ ms)
row-leads None ms l = l
row-leads (Some r) ms l = l

first-leads : (rs : List NetKey) (ms : List Move) → Leads ms → Leads (first_drop rs ++ ms)
first-leads [] ms l = l
first-leads (r ∷ rs) ms l = l

old-leads : (s : NodeState) (ms : List Move) → Leads ms → Leads (drop_old s ++ ms)
unfolding drop_old
old-leads s ms l = by-test (nat_le 2 (length (live_nets s)))
  where
    by-test : (b : Bool)
        → Leads (cond b (first_drop (filter (λ (r : NetKey). not (is_active_key s.active r.key)) (live_nets s))) []
        ++ ms)
    by-test true = first-leads (filter (λ (r : NetKey). not (is_active_key s.active r.key)) (live_nets s)) ms l
    by-test false = l

-- a network key that is installed
activate-by : (key : Bytes) (g : State) (a b : Bool) → Leads (cond a (Active key ∷ []) [] ++ cond b (Became g ∷ []) [])
activate-by key g true b = tt
activate-by key g false true = tt
activate-by key g false false = tt

wakes-by : (key : Bytes) (g : State) (a b : Bool) → a ≡ true
    → Wakes (cond a (Active key ∷ []) [] ++ cond b (Became g ∷ []) [])
wakes-by key g true b e = tt
wakes-by key g false b e = absurd (false≢true e)

wants-one : (a : Bool) (o : Option Bytes) → is_some o ≡ false → (a || is_none o) ≡ true
wants-one true o e = refl
wants-one false None e = refl
wants-one false (Some k) e = absurd (false≢true (sym e))

-- A node's own events

say-fits : (s : NodeState) (to : ℕ) (bytes : Bytes) → Fits s (say s to bytes)
unfolding say
say-fits s to bytes =
    gi s (usable_active s) _ _
    (λ net e. un s _ _ _ (ue s _ _ _ (λ u. (λ x. tt, may-nwk s _ refl (usable-awake s net e) u))))

knock-fits : (c : Setting) (s : NodeState) → Fits s (knock c s)
unfolding knock
knock-fits c s = gi s _ _ _ (λ row e. (λ x. others-lead s row.partner row.key _ tt, may-none s))

rejoin-fits : (s : NodeState) → Fits s (rejoin s)
unfolding rejoin
rejoin-fits s = un s _ _ _ (λ x. tt, may-none s)

request-fits : (c : Setting) (s : NodeState) → Awake s → Fits s (request_key c s)
unfolding request_key
request-fits c s a = gi s (current s (centre_of c.stations)) _ _ (λ row e. bo s _ (λ u. (λ x. tt, may-both s _ a u)))

verify-fits : (tools : Tools) (c : Setting) (s : NodeState) → Awake s → Fits s (verify_key tools c s)
unfolding verify_key
verify-fits tools c s a = gi s (offered s (centre_of c.stations)) _ _
    (λ row e. ue s _ _ _ (λ u. (λ x. tt, may-nwk s _ refl a u)))

timer-fits : (state : State) (tools : Tools) (c : Setting) (s : NodeState) → Awake s
    → Fits s (timer_in state tools c s)
timer-fits Joined tools c s a = request-fits c s a
timer-fits Offered tools c s a = verify-fits tools c s a
timer-fits _ tools c s a = tt

member-timer-fits : (tools : Tools) (c : Setting) (s : NodeState) → Fits s (member_timer tools c s)
unfolding member_timer
member-timer-fits tools c s = gi s (usable_active s) _ _ (λ net e. timer-fits s.state tools c s (usable-awake s net e))

ask-fits : (c : Setting) (s : NodeState) (partner : ℕ) → Fits s (ask c s partner)
unfolding ask
ask-fits c s partner =
    gi s (usable_active s) _ _
    (λ net e. gi s (current s (centre_of c.stations)) _ _
    (λ row f. un s _ _ _ (bo s _ (λ u. (λ x. tt, may-both s _ (usable-awake s net e) u)))))

tell-fits : (c : Setting) (s : NodeState) (partner : ℕ) (bytes : Bytes) → Fits s (tell c s partner bytes)
unfolding tell
tell-fits c s partner bytes =
    gi s (usable_active s) _ _
    (λ net e. gi s (find (is_live_of partner) s.links) _ _
    (λ row f. un s _ _ _ (bo s _ (λ u. (λ x. tt, may-both s _ (usable-awake s net e) u)))))

report-fits : (c : Setting) (s : NodeState) (child : ℕ) (returns : Bool) (o : Option LinkKey) → Awake s
    → Fits s (report_child c s child returns o)
report-fits c s child returns None a = ue s _ _ _ (λ u. (λ x. tt, may-nwk s _ refl a u))
report-fits c s child returns (Some row) a = bo s _ (λ u. (λ x. tt, may-both s _ a u))

child-router-fits : (c : Setting) (s : NodeState) (child : ℕ) (returns : Bool)
    → Fits s (child_of_router c s child returns)
unfolding child_of_router
child-router-fits c s child returns =
    gi s (usable_active s) _ _
    (λ net e. un s _ _ _ (report-fits c s child returns (current s (centre_of c.stations)) (usable-awake s net e)))

child-centre-fits : (c : Setting) (s : NodeState) (child : ℕ) → Fits s (child_of_centre c s child)
unfolding child_of_centre
child-centre-fits c s child =
    gi s (active_row s) _ _
    (λ net e. gi s (current s child) _ _ (λ row f. ue s _ _ _ (λ v. (λ x. tt, may-aps s _ refl v))))

centre-timer-fits : (c : Setting) (s : NodeState) → Fits s (centre_timer c s)
unfolding centre_timer
centre-timer-fits c s =
    gi s (active_row s) _ _
    (λ net e. un s _ _ _
    (gi s (next_member s) _ _
    (λ device f. gi s (newest s) _ _
    (λ new g. gi s (current s device) _ _ (λ row i. bo s _ (λ u. (λ x. tt, may-both s _ (row-awake s net e) u)))))))

provision-new-fits : (s : NodeState) (device : ℕ) (key : Bytes) (o : Option LinkKey)
    → Fits s (provision_new s device key o)
provision-new-fits s device key None = (λ x. tt, may-none s)
provision-new-fits s device key (Some other) = tt

provision-fits : (s : NodeState) (device : ℕ) (key : Bytes) → Fits s (provision s device key)
unfolding provision
provision-fits s device key = un s _ _ _ (un s _ _ _ (provision-new-fits s device key (other_user s device key)))

-- the node that is told of a removal, if that can be sealed
if-may : (s : NodeState) (b : Bool) (send : Option Sending) → (b ≡ true → may_seal s send ≡ true)
    → may_seal s (cond b send None) ≡ true
if-may s true send f = f refl
if-may s false send f = may-none s

leave-may : (c : Setting) (s : NodeState) (device : ℕ) → may_seal s (tell_leave c s device) ≡ true
leave-may c s device = if-may s (is_some (active_row s) && not (spent Nwk s)) (sends (short_of c device) true Leaving)
    (λ e. may-nwk s _ refl (parts e).0 (not-true (spent Nwk s) (parts e).1))
  where
    parts : (is_some (active_row s) && not (spent Nwk s)) ≡ true → Awake s × (not (spent Nwk s) ≡ true)
    parts e = and_parts (is_some (active_row s)) (not (spent Nwk s)) e

none-spent : (s : NodeState) → not (both_spent s) ≡ true → (spent Nwk s ≡ false) × (spent Aps s ≡ false)
unfolding both_spent
none-spent s e = neither (spent Nwk s) (spent Aps s) (not-true (spent Nwk s || spent Aps s) e)

parent-may : (c : Setting) (s : NodeState) (device via : ℕ) (o : Option LinkKey)
    → may_seal s (tell_parent c s device via o) ≡ true
parent-may c s device via None = may-none s
parent-may c s device via (Some row) = if-may s (is_some (active_row s) && not (both_spent s))
    (sends (short_of c via) true (Secret ForData row.key (RemoveDevice device)))
    (λ e. may-both s _ (parts e).0 (none-spent s (parts e).1))
  where
    parts : (is_some (active_row s) && not (both_spent s)) ≡ true → Awake s × (not (both_spent s) ≡ true)
    parts e = and_parts (is_some (active_row s)) (not (both_spent s)) e

told-may : (c : Setting) (s : NodeState) (device via : ℕ) (b : Bool)
    → may_seal s (cond b (tell_leave c s device) (tell_parent c s device via (current s via))) ≡ true
told-may c s device via true = leave-may c s device
told-may c s device via false = parent-may c s device via (current s via)

remove-fits : (c : Setting) (s : NodeState) (device via : ℕ) → Fits s (remove_device c s device via)
unfolding remove_device
remove-fits c s device via =
    un s _ _ _ (λ x. partner-leads s device (Removed device ∷ []) tt, told-may c s device via (nat_eq via c.me.eui))

roll-fits : (s : NodeState) (draw : Option Bytes) → Fits s (roll s draw)
unfolding roll
roll-fits s draw =
    gi s (active_row s) _ _
    (λ net e. un s _ _ _
    (un s _ _ _
    (gi s (unless_held s draw) _ _
    (λ key f. (λ x. absurd (false≢true (sym x ∙ awake-key s (row-awake s net e))), may-none s)))))

switch-fits : (s : NodeState) → Fits s (switch_over s)
unfolding switch_over
switch-fits s =
    gi s (active_row s) _ _
    (λ net e. un s _ _ _
    (ue s _ _ _
    (λ u. ch s s.sending _ _ (gi s (newest s) _ _ (λ new f. (λ x. tt, may-nwk s _ refl (row-awake s net e) u)))
    (λ x. tt, may-nwk s _ refl (row-awake s net e) u))))

again-fits : (s : NodeState) (device : ℕ) → Fits s (again s device)
unfolding again
again-fits s device = un s _ _ _ (un s _ _ _ (λ x. tt, may-none s))

share-fits : (c : Setting) (s : NodeState) (device partner : ℕ) → Fits s (share c s device partner)
unfolding share
share-fits c s device partner =
    gi s (active_row s) _ _
    (λ net e. un s _ _ _
    (gi s (pair_of s device partner) _ _
    (λ pair f. gi s (current s device) _ _ (λ row g. bo s _ (λ u. (λ x. tt, may-both s _ (row-awake s net e) u))))))

centre-own-fits : (c : Setting) (s : NodeState) (task : Task) → Fits s (own_at_centre c s task)
centre-own-fits c s (SayTo to bytes) = say-fits s to bytes
centre-own-fits c s DoTimer = centre-timer-fits c s
centre-own-fits c s (HasChild child returns) = child-centre-fits c s child
centre-own-fits c s (DoProvision device key) = provision-fits s device key
centre-own-fits c s (DoRemove device via) = remove-fits c s device via
centre-own-fits c s (DoRoll draw) = roll-fits s draw
centre-own-fits c s DoSwitch = switch-fits s
centre-own-fits c s (DoAgain device) = again-fits s device
centre-own-fits c s (DoShare device partner) = share-fits c s device partner
centre-own-fits c s _ = tt

member-own-fits : (tools : Tools) (c : Setting) (s : NodeState) (task : Task) → Fits s (own_at_member tools c s task)
member-own-fits tools c s (SayTo to bytes) = say-fits s to bytes
member-own-fits tools c s (TellTo partner bytes) = tell-fits c s partner bytes
member-own-fits tools c s DoKnock = knock-fits c s
member-own-fits tools c s DoRejoin = rejoin-fits s
member-own-fits tools c s DoTimer = member-timer-fits tools c s
member-own-fits tools c s (AskFor partner) = ask-fits c s partner
member-own-fits tools c s (HasChild child returns) = child-router-fits c s child returns
member-own-fits tools c s _ = tt

pub own-fits : (tools : Tools) (c : Setting) (s : NodeState) (task : Task) → Fits s (own tools c s task)
unfolding own
own-fits tools c s task = by-test (is_centre c.me.role)
  where
    by-test : (b : Bool) → Fits s (cond b (own_at_centre c s task) (own_at_member tools c s task))
    by-test true = centre-own-fits c s task
    by-test false = member-own-fits tools c s task

-- Commands. If no active row is known, the command came without NWK security to a router or device, sealed under a
-- transport key.

abbrev pub Ready : Setting → NodeState → Heard → Type 0
Ready c s m = Awake s ⊎ ((is_centre c.me.role ≡ false) × (labelled ForData m.label ≡ false))

centre-awake : (c : Setting) (s : NodeState) (m : Heard) (b : Bool) → Ready c s m → not (is_centre c.me.role && b)
    ≡ false → Awake s
centre-awake c s m b (inl a) e = a
centre-awake c s m b (inr f) e = absurd (false≢true (sym f.0 ∙ (needs (is_centre c.me.role) b e).0))

data-awake : (c : Setting) (s : NodeState) (m : Heard) (a b : Bool) → Ready c s m
    → not (a && (labelled ForData m.label && b)) ≡ false → Awake s
data-awake c s m a b (inl w) e = w
data-awake c s m a b (inr f) e =
    absurd (false≢true
    (sym f.1 ∙ (and_parts (labelled ForData m.label) b (needs a (labelled ForData m.label && b) e).1).0))

old-fits : (s : NodeState) (key : Bytes) (o : Option ℕ) (rest : Outcome) → Fits s rest
    → Fits s (refuse_if_old s key o rest)
old-fits s key None rest f = f
old-fits s key (Some place) rest f = tt

net-key-fits : (c : Setting) (s : NodeState) (m : Heard) (key : Bytes) (sequence destination source : ℕ)
    → Fits s (take_net_key c s m key sequence destination source)
unfolding take_net_key
net-key-fits c s m key sequence destination source =
    un s _ _ _ (old-fits s key (dropped_at 0 key s.nets) _ (ch s (has_net key s.nets) _ _
    (λ x. activate-by key (joined_state c s) (activates s) (waits_for_key s.state), may-none s)
    (un s _ _ _ (
      λ x. old-leads s (Install key sequence ∷ activate c s key)
          (wakes-by key (joined_state c s) (activates s) (waits_for_key s.state)
          (wants-one (waits_for_key s.state) s.active x)),
      may-none s,
    ))))

used-fits : (s : NodeState) (o : Option LinkKey) (rest : Outcome) → Fits s rest → Fits s (refuse_if_used o rest)
used-fits s None rest f = f
used-fits s (Some r) rest f = tt

taken-fits : (s : NodeState) (partner : ℕ) (key : Bytes) (moves : List Move) → Leads moves
    → Fits s (take_row s partner key moves)
unfolding take_row
taken-fits s partner key moves l = un s _ _ _ (used-fits s (other_user s partner key) _ (λ x. l, may-none s))

link-key-fits : (c : Setting) (s : NodeState) (m : Heard) (key : Bytes) (destination source : ℕ)
    → Fits s (take_link_key c s m key destination source)
unfolding take_link_key
link-key-fits c s m key destination source =
    un s _ _ _
    (un s _ _ _
    (ch s _ _ _ (λ x. tt, may-none s) (taken-fits s _ key _ (row-leads (offered s (centre_of c.stations)) _ tt))))

app-key-fits : (c : Setting) (s : NodeState) (m : Heard) (key : Bytes) (partner : ℕ)
    → Fits s (take_app_key c s m key partner)
unfolding take_app_key
app-key-fits c s m key partner =
    un s _ _ _
    (un s _ _ _ (un s _ _ _ (ch s _ _ _ (λ x. tt, may-none s) (taken-fits s _ key _ (partner-leads s partner _ tt)))))

take-switch-fits : (c : Setting) (s : NodeState) (m : Heard) (sequence : ℕ) → Fits s (take_switch c s m sequence)
unfolding take_switch
take-switch-fits c s m sequence = un s _ _ _ (gi s _ _ _ (λ row e. (λ x. tt, may-none s)))

take-confirm-fits : (c : Setting) (s : NodeState) (m : Heard) (status kind destination : ℕ)
    → Fits s (take_confirm c s m status kind destination)
unfolding take_confirm
take-confirm-fits c s m status kind destination =
    un s _ _ _
    (un s _ _ _
    (un s _ _ _
    (gi s (offered s (centre_of c.stations)) _ _
    (λ row e. (λ x. row-leads (current s (centre_of c.stations)) _ tt, may-none s)))))

take-remove-fits : (c : Setting) (s : NodeState) (m : Heard) (target : ℕ) → Ready c s m
    → Fits s (take_remove c s m target)
unfolding take_remove
take-remove-fits c s m target r =
    ue s _ _ _ (λ e. un s _ _ _ (ue s _ _ _ (λ u. (λ x. tt, may-nwk s _ refl (data-awake c s m _ _ r e) u))))

take-tunnel-fits : (c : Setting) (s : NodeState) (m : Heard) (destination : ℕ) (inner : Bytes)
    → Fits s (take_tunnel c s m destination inner)
unfolding take_tunnel
take-tunnel-fits c s m destination inner =
    un s _ _ _ (un s _ _ _ (λ x. tt, may s _ (λ e. absurd (false≢true e)) (λ e. absurd (false≢true e))))

take-update-fits : (c : Setting) (s : NodeState) (m : Heard) (device status : ℕ)
    → Fits s (take_update c s m device status)
unfolding take_update
take-update-fits c s m device status =
    un s _ _ _
    (ch s _ _ _ (λ x. tt, may-none s)
    (gi s (active_row s) _ _
    (λ net e. gi s (current s device) _ _ (λ row f. bo s _ (λ u. (λ x. tt, may-both s _ (row-awake s net e) u))))))

answer-fits : (c : Setting) (s : NodeState) (device : ℕ) (draw : Option Bytes) (row : LinkKey) (o : Option LinkKey)
    → Awake s → Fits s (answer_request c s device draw row o)
answer-fits c s device draw row (Some offer) a = bo s _ (λ u. (λ x. tt, may-both s _ a u))
answer-fits c s device draw row None a =
    un s _ _ _ (gi s (unless_held s draw) _ _ (λ key e. bo s _ (λ u. (λ x. tt, may-both s _ a u))))

take-request-fits : (c : Setting) (s : NodeState) (m : Heard) (draw : Option Bytes) → Ready c s m
    → Fits s (take_request c s m draw)
unfolding take_request
take-request-fits c s m draw r =
    ue s _ _ _
    (λ e. gi s (current s m.sender) _ _
    (λ row f. answer-fits c s m.sender draw row (offered s m.sender) (centre-awake c s m _ r e)))

pair-fits : (c : Setting) (s : NodeState) (device partner : ℕ) (draw : Option Bytes) (row : LinkKey)
    (o : Option PairKey) → Awake s → Fits s (answer_pair c s device partner draw row o)
pair-fits c s device partner draw row (Some pair) a = bo s _ (λ u. (λ x. tt, may-both s _ a u))
pair-fits c s device partner draw row None a =
    un s _ _ _ (gi s (unless_held s draw) _ _ (λ key e. bo s _ (λ u. (λ x. tt, may-both s _ a u))))

take-app-request-fits : (c : Setting) (s : NodeState) (m : Heard) (draw : Option Bytes) (partner : ℕ) → Ready c s m
    → Fits s (take_app_request c s m draw partner)
unfolding take_app_request
take-app-request-fits c s m draw partner r =
    ue s _ _ _
    (λ e. un s _ _ _
    (un s _ _ _
    (gi s (current s m.sender) _ _
    (λ row f. pair-fits c s m.sender partner draw row (pair_of s m.sender partner) (centre-awake c s m _ r e)))))

take-verify-fits : (tools : Tools) (c : Setting) (s : NodeState) (m : Heard) (kind device : ℕ) (hash : Bytes)
    → Ready c s m → Fits s (take_verify tools c s m kind device hash)
unfolding take_verify
take-verify-fits tools c s m kind device hash r =
    ue s _ _ _ (λ e. un s _ _ _ (un s _ _ _ (bo s _ (λ u. ch s _ _ _
    (gi s (offered s device) _ _
    (λ row f. (λ x. row-leads (current s device) _ tt, may-both s _ (centre-awake c s m _ r e) u)))
    (ch s _ _ _ (gi s (verified_current s device) _ _ (λ row f. (λ x. tt, may-both s _ (centre-awake c s m _ r e) u)))
    tt)))))

pub take-command-fits : (tools : Tools) (c : Setting) (s : NodeState) (draw : Option Bytes) (m : Heard) (o : Command)
    → Ready c s m → Fits s (take_command tools c s draw m o)
unfolding take_command
take-command-fits tools c s draw m (TransportNet key sequence destination source) r =
    net-key-fits c s m key sequence destination source
take-command-fits tools c s draw m (TransportApp key partner initiator) r = app-key-fits c s m key partner
take-command-fits tools c s draw m (TransportLink key destination source) r =
    link-key-fits c s m key destination source
take-command-fits tools c s draw m (UpdateDevice device short status) r = take-update-fits c s m device status
take-command-fits tools c s draw m (RemoveDevice target) r = take-remove-fits c s m target r
take-command-fits tools c s draw m (RequestApp partner) r = take-app-request-fits c s m draw partner r
take-command-fits tools c s draw m RequestLink r = take-request-fits c s m draw r
take-command-fits tools c s draw m (SwitchKey sequence) r = take-switch-fits c s m sequence
take-command-fits tools c s draw m (Tunnel destination inner) r = take-tunnel-fits c s m destination inner
take-command-fits tools c s draw m (VerifyKey kind source hash) r = take-verify-fits tools c s m kind source hash r
take-command-fits tools c s draw m (ConfirmKey status kind destination) r =
    take-confirm-fits c s m status kind destination

pub leave-fits : (c : Setting) (s : NodeState) (term : Term) (options : ℕ) → Fits s (take_leave c term options)
unfolding take_leave
leave-fits c s term options = un s _ _ _ (λ x. tt, may-none s)
