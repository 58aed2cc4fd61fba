-- What a node sends before an event of a run may be sealed. A frame that was verified under a network key came to a
-- node that has one, and so an active row. A command that passed without NWK security has no answer that is sealed at
-- NWK.
use Rattle.std.proofs.Common.{◌≡◌, ℕ, Bool, true, false, cond, not, ◌&&◌, ◌||◌, List, [], ◌∷◌, ◌++◌, filter, find, reverse, Option, Some, None, option_to_list, is_some, nat_eq, refl, ap, ◌∙◌, inl, inr}
use Rattle.std.proofs.lemmas.Bool.{false≢true, and_parts}
use Rattle.std.specs.List.{AllByRecursion}
use Rattle.zb_model.specs.Data.{Bytes, Nwk, Aps, Label, ForData, ForNetwork, ForTransport, ForLoad, Term, Place, AtAps, Reason, Task, SayTo, TellTo, DoKnock, DoRejoin, DoTimer, AskFor, HasChild, DoProvision, DoRemove, DoRoll, DoSwitch, DoAgain, DoShare, Received}
use Rattle.zb_model.specs.Lines.{Line}
use Rattle.zb_model.specs.State.{NetKey, NodeState, is_centre, active_row, may_use, usable_nets, usable_of, same_label, applied_all}
use Rattle.zb_model.specs.Tools.{Tools, NwkShown, NwkAuxiliary, ApsShown, ApsAuxiliary, CommandShown, Known, Unknown, Broken, LeaveShown, Leave, Other, NoCommand}
use Rattle.zb_model.specs.Rules.{Outcome, Stop, Does, Plan, Setting, Sending, spent, waits_for_key}
use Rattle.zb_model.specs.Judging.{Verdict, Not, Good, reject, need, judge_net, Carrier, carrier, judge_security, judge_nwk, payload_of, Unsealed, judge_aps, is_transport, sealed_for_transport, may_pass_unsecured}
use Rattle.zb_model.specs.Answer.{Counting, Outgoing, nothing_out, comes_to, heard_clear, heard_sealed, nwk_command, aps_command, clear_part, sealed_part, by_security, aps_part, net_part, received_as, plan_of, counting_of, answer_by, moves_of, sending_of, may_seal, framed, part_of, sent, out_of}
use Rattle.zb_model.specs.Commands.{Heard}
use Rattle.zb_model.specs.Readings.{state_of}
use Rattle.zb_model.specs.Play.{Schedule, Event, setting_of, start}
use Rattle.law_run.specs.Events.{BeforeEach}
use Rattle.law_run.proofs.EventStates.{IsKept, AllKeep, answer_to, kept-before}
use Rattle.law_run_counters.proofs.ActiveRows.{AnyEvent, active-kept}
use Rattle.law_run_counters.proofs.Events.{start-grounded}
use Rattle.law_run_counters.proofs.Started.{ActiveStarted}
use Rattle.law_run_lookups.proofs.Standing.{lines-with, Begins, start-begins, before-map}
use Rattle.law_run_lookups.specs.Sealable.{IsSealable, SendsSealable}
use Rattle.law_run_lookups.proofs.Waking.{Awake, Rests, Leads, answer-rests, accept-rests, seal-rests, boot-rests, begin-rests, wakes-up}
use Rattle.law_run_lookups.proofs.Rules.{Fits, own-fits, take-command-fits, leave-fits, Ready, may-none}

-- a node with a network key that it may use has an active row
abbrev Uses : NodeState → Type 0
Uses s = (sequence : ℕ) (row : NetKey) → usable_of s sequence ≡ Some row → Awake s

-- Verification

-- a frame that passed the NWK layer: under a network key, or in clear as the carrier of a command under a transport
-- key
abbrev Passed : Tools → Setting → NodeState → NwkShown → Option Term → Type 0
Passed tools c s f (Some term) = Awake s
Passed tools c s f None = (is_centre c.me.role ≡ false) × (sealed_for_transport (tools.read_aps f.body) ≡ true)

abbrev Opened : NodeState → Verdict Term → Type 0
Opened s (Not at reason) = Unit {0}
Opened s (Good term) = Awake s

abbrev Judged : Tools → Setting → NodeState → Verdict Carrier → Type 0
Judged tools c s (Not at reason) = Unit {0}
Judged tools c s (Good k) = Passed tools c s k.frame k.term

re : (s : NodeState) (bad : Bool) (at : Place) (reason : Reason) (rest : Verdict Term) → Opened s rest
    → Opened s (reject bad at reason rest)
unfolding reject
re s true at reason rest f = tt
re s false at reason rest f = f

ne : {A : Type 0} (s : NodeState) (o : Option A) (at : Place) (reason : Reason) (rest : A → Verdict Term)
    → ((a : A) → o ≡ Some a → Opened s (rest a)) → Opened s (need o at reason rest)
unfolding need
ne s None at reason rest f = tt
ne s (Some a) at reason rest f = f a refl

net-opened : (tools : Tools) (c : Setting) (s : NodeState) → Uses s → (bytes : Bytes) (aux : NwkAuxiliary)
    → Opened s (judge_net tools c s bytes aux)
unfolding judge_net
net-opened tools c s uses bytes aux =
    ne s (usable_of s aux.sequence) _ _ _
    (λ row e. re s _ _ _ _
    (re s _ _ _ _
    (ne s (tools.open_nwk bytes row.key) _ _ _
    (λ t f. re s _ _ _ _ (re s _ _ _ _ (re s _ _ _ _ (uses aux.sequence row e)))))))

carrier-judged : (tools : Tools) (c : Setting) (s : NodeState) (f : NwkShown) (v : Verdict Term) → Opened s v
    → Judged tools c s (carrier f v)
carrier-judged tools c s f (Not at reason) o = tt
carrier-judged tools c s f (Good t) o = o

not-true : (b : Bool) → not b ≡ true → b ≡ false
not-true false e = refl
not-true true e = absurd (false≢true e)

clear-passed : (tools : Tools) (c : Setting) (s : NodeState) (f : NwkShown) → may_pass_unsecured tools c s f ≡ true
    → Passed tools c s f None
clear-passed tools c s f e = (
  not-true (is_centre c.me.role) (and_parts (not (is_centre c.me.role)) rest e).0,
  (and_parts (not f.is_command) (sealed_for_transport (tools.read_aps f.body))
      (and_parts (waits_for_key s.state) (not f.is_command && sealed_for_transport (tools.read_aps f.body))
      (and_parts (not (is_centre c.me.role)) rest e).1).1).1,
)
  where
    rest : Bool
    rest = waits_for_key s.state && (not f.is_command && sealed_for_transport (tools.read_aps f.body))

by-pass : (tools : Tools) (c : Setting) (s : NodeState) (f : NwkShown) (at : Place) (reason : Reason) (b : Bool)
    → (b ≡ true → Passed tools c s f None)
    → Judged tools c s (reject (not b) at reason (Good (record { frame = f; term = None })))
unfolding reject
by-pass tools c s f at reason true p = p refl
by-pass tools c s f at reason false p = tt

security-judged : (tools : Tools) (c : Setting) (s : NodeState) → Uses s
    → (bytes : Bytes) (f : NwkShown) (x : Option NwkAuxiliary) → Judged tools c s (judge_security tools c s bytes f x)
security-judged tools c s uses bytes f None = by-pass tools c s f _ _ (may_pass_unsecured tools c s f)
    (clear-passed tools c s f)
security-judged tools c s uses bytes f (Some aux) = carrier-judged tools c s f (judge_net tools c s bytes aux)
    (net-opened tools c s uses bytes aux)

reject-judged : (tools : Tools) (c : Setting) (s : NodeState) (bad : Bool) (at : Place) (reason : Reason)
    (rest : Verdict Carrier) → Judged tools c s rest → Judged tools c s (reject bad at reason rest)
unfolding reject
reject-judged tools c s true at reason rest f = tt
reject-judged tools c s false at reason rest f = f

need-judged : {A : Type 0} (tools : Tools) (c : Setting) (s : NodeState) (o : Option A) (at : Place) (reason : Reason)
    (rest : A → Verdict Carrier) → ((a : A) → Judged tools c s (rest a)) → Judged tools c s (need o at reason rest)
unfolding need
need-judged tools c s None at reason rest f = tt
need-judged tools c s (Some a) at reason rest f = f a

nwk-judged : (tools : Tools) (c : Setting) (s : NodeState) → Uses s → (bytes : Bytes)
    → Judged tools c s (judge_nwk tools c s bytes)
unfolding judge_nwk
nwk-judged tools c s uses bytes = need-judged tools c s (tools.read_nwk bytes) _ _ _
    (λ f. reject-judged tools c s _ _ _ _ (security-judged tools c s uses bytes f f.auxiliary))

-- The plan

either-plan : (s : NodeState) (b : Bool) (p q : Plan) → Fits s p.outcome → Fits s q.outcome
    → Fits s (cond b p q).outcome
either-plan s true p q a b = a
either-plan s false p q a b = b

command-fits : (tools : Tools) (c : Setting) (s : NodeState) (d : Option Bytes) (ts : List Term) (m : Heard)
    (o : CommandShown) → Ready c s m → Fits s (aps_command tools c s d ts m o).outcome
command-fits tools c s d ts m (Known command) r = take-command-fits tools c s d m command r
command-fits tools c s d ts m Unknown r = tt
command-fits tools c s d ts m Broken r = tt

clear-fits : (tools : Tools) (c : Setting) (s : NodeState) (d : Option Bytes) (nwk : Option Term) (a : ApsShown)
    → Ready c s (heard_clear nwk) → Fits s (clear_part tools c s d nwk a).outcome
clear-fits tools c s d nwk a r =
    either-plan s a.is_command
    (aps_command tools c s d (option_to_list nwk) (heard_clear nwk) (tools.read_command a.body))
    (comes_to (option_to_list nwk) AtAps (Does [] None))
    (command-fits tools c s d (option_to_list nwk) (heard_clear nwk) (tools.read_command a.body) r)
    (λ x. tt, may-none s)

sealed-fits : (tools : Tools) (c : Setting) (s : NodeState) (d : Option Bytes) (nwk : Option Term) (a : ApsShown)
    (aux : ApsAuxiliary) (v : Verdict Unsealed) → ((u : Unsealed) → Ready c s (heard_sealed nwk aux u))
    → Fits s (sealed_part tools c s d nwk a aux v).outcome
sealed-fits tools c s d nwk a aux (Not at reason) r = tt
sealed-fits tools c s d nwk a aux (Good u) r =
    either-plan s a.is_command
    (aps_command tools c s d (option_to_list nwk ++ u.term ∷ []) (heard_sealed nwk aux u)
    (tools.read_command u.term.content)) (comes_to (option_to_list nwk ++ u.term ∷ []) AtAps (Does [] None))
    (command-fits tools c s d (option_to_list nwk ++ u.term ∷ []) (heard_sealed nwk aux u)
    (tools.read_command u.term.content) (r u)) (λ x. tt, may-none s)

-- under a network key
by-fits : (tools : Tools) (c : Setting) (s : NodeState) (d : Option Bytes) (f : NwkShown) (nwk : Option Term)
    (a : ApsShown) (x : Option ApsAuxiliary) → Awake s → Fits s (by_security tools c s d f nwk a x).outcome
by-fits tools c s d f nwk a None w = clear-fits tools c s d nwk a (inl w)
by-fits tools c s d f nwk a (Some aux) w =
    sealed-fits tools c s d nwk a aux (judge_aps tools c s f (payload_of f nwk) aux) (λ u. inl w)

part-fits : (tools : Tools) (c : Setting) (s : NodeState) (d : Option Bytes) (f : NwkShown) (nwk : Option Term)
    (o : Option ApsShown) → Awake s → Fits s (aps_part tools c s d f nwk o).outcome
part-fits tools c s d f nwk None w = tt
part-fits tools c s d f nwk (Some a) w = by-fits tools c s d f nwk a a.auxiliary w

-- in clear
no-data : (label : Label) → is_transport label ≡ true → same_label ForData label ≡ false
no-data ForData e = absurd (false≢true e)
no-data ForNetwork e = refl
no-data ForTransport e = refl
no-data ForLoad e = refl

carried-fits : (tools : Tools) (c : Setting) (s : NodeState) (d : Option Bytes) (f : NwkShown) (a : ApsShown)
    (x : Option ApsAuxiliary) → is_centre c.me.role ≡ false → sealed_for_transport (Some (record a { auxiliary = x }))
    ≡ true → Fits s (by_security tools c s d f None a x).outcome
carried-fits tools c s d f a None m e = absurd (false≢true (and_parts a.is_command false e).1)
carried-fits tools c s d f a (Some aux) m e =
    sealed-fits tools c s d None a aux (judge_aps tools c s f (payload_of f None) aux)
    (λ u. inr (m, no-data aux.label (and_parts a.is_command (is_transport aux.label) e).1))

open-fits : (tools : Tools) (c : Setting) (s : NodeState) (d : Option Bytes) (f : NwkShown) (o : Option ApsShown)
    → is_centre c.me.role ≡ false → sealed_for_transport o ≡ true → Fits s (aps_part tools c s d f None o).outcome
open-fits tools c s d f None m e = tt
open-fits tools c s d f (Some a) m e = carried-fits tools c s d f a a.auxiliary m e

nwk-command-fits : (c : Setting) (s : NodeState) (term : Term) (l : LeaveShown) → Fits s (nwk_command c term l).outcome
nwk-command-fits c s term (Leave options) = leave-fits c s term options
nwk-command-fits c s term Other = tt
nwk-command-fits c s term NoCommand = tt

net-fits : (tools : Tools) (c : Setting) (s : NodeState) (d : Option Bytes) (f : NwkShown) (o : Option Term)
    → Passed tools c s f o → Fits s (net_part tools c s d f o).outcome
net-fits tools c s d f None p = open-fits tools c s d f (tools.read_aps f.body) p.0 p.1
net-fits tools c s d f (Some t) w =
    either-plan s f.is_command (nwk_command c t (tools.read_leave t.content))
    (aps_part tools c s d f (Some t) (tools.read_aps t.content))
    (nwk-command-fits c s t (tools.read_leave t.content))
    (part-fits tools c s d f (Some t) (tools.read_aps t.content) w)

received-fits : (tools : Tools) (c : Setting) (s : NodeState) (d : Option Bytes) (v : Verdict Carrier)
    → Judged tools c s v → Fits s (received_as tools c s d v).outcome
received-fits tools c s d (Not at reason) k = tt
received-fits tools c s d (Good x) k = net-fits tools c s d x.frame x.term k

plan-fits : (tools : Tools) (c : Setting) (s : NodeState) (task : Task) → Uses s
    → Fits s (plan_of tools c s task).outcome
unfolding plan_of
plan-fits tools c s (Received bytes draw) uses = received-fits tools c s draw (judge_nwk tools c s bytes)
    (nwk-judged tools c s uses bytes)
plan-fits tools c s (SayTo to bytes) uses = own-fits tools c s (SayTo to bytes)
plan-fits tools c s (TellTo partner bytes) uses = own-fits tools c s (TellTo partner bytes)
plan-fits tools c s DoKnock uses = own-fits tools c s DoKnock
plan-fits tools c s DoRejoin uses = own-fits tools c s DoRejoin
plan-fits tools c s DoTimer uses = own-fits tools c s DoTimer
plan-fits tools c s (AskFor partner) uses = own-fits tools c s (AskFor partner)
plan-fits tools c s (HasChild child returns) uses = own-fits tools c s (HasChild child returns)
plan-fits tools c s (DoProvision device key) uses = own-fits tools c s (DoProvision device key)
plan-fits tools c s (DoRemove device via) uses = own-fits tools c s (DoRemove device via)
plan-fits tools c s (DoRoll draw) uses = own-fits tools c s (DoRoll draw)
plan-fits tools c s DoSwitch uses = own-fits tools c s DoSwitch
plan-fits tools c s (DoAgain device) uses = own-fits tools c s (DoAgain device)
plan-fits tools c s (DoShare device partner) uses = own-fits tools c s (DoShare device partner)

-- The claim on states that answers keep

record Waking (s : NodeState) : Type 0 where
  active : ActiveStarted s
  rests : Rests s

none-found : (sequence : ℕ) (b : Bool) (nets : List NetKey) (row : NetKey) → nets ≡ []
    → find (λ (r : NetKey). nat_eq r.sequence sequence) (reverse (cond b (filter (λ (r : NetKey). r.live) nets) []))
    ≡ Some row → ⊥
none-found sequence true [] row e f = false≢true (ap is_some f)
none-found sequence false [] row e f = false≢true (ap is_some f)
none-found sequence b (r ∷ rs) row e f = false≢true (ap is_nil e)
  where
    is_nil : List NetKey → Bool
    is_nil [] = true
    is_nil (x ∷ xs) = false

has-nets : (s : NodeState) (sequence : ℕ) (row : NetKey) → usable_of s sequence ≡ Some row → s.nets ≡ [] → ⊥
unfolding usable_of usable_nets
has-nets s sequence row f e = none-found sequence (may_use s) s.nets row e f

uses-of : (s : NodeState) → Waking s → Uses s
uses-of s w sequence row e = wakes-up s (has-nets s sequence row e) w.rests w.active

fits-leads : (s : NodeState) (o : Outcome) → Fits s o → is_some s.active ≡ false → Leads (moves_of o)
fits-leads s (Stop reason) f e = tt
fits-leads s (Does moves sending) f e = f.0 e

fits-may : (s : NodeState) (o : Outcome) → Fits s o → may_seal s (sending_of o) ≡ true
fits-may s (Stop reason) f = may-none s
fits-may s (Does moves sending) f = f.1

answers-waking : (tools : Tools) (w : Schedule) (h : List Line) (n : ℕ) (task : Task) → Waking (state_of h n)
    → ActiveStarted (applied_all (answer_to tools w h n task).edits (state_of h n))
    → Waking (applied_all (answer_to tools w h n task).edits (state_of h n))
unfolding answer_by
answers-waking tools w h n task p active = record {
  active = active;
  rests = answer-rests (state_of h n) (counting_of (setting_of w n) (state_of h n) plan) plan
      (fits-leads (state_of h n) plan.outcome
      (plan-fits tools (setting_of w n) (state_of h n) task (uses-of (state_of h n) p))) p.rests;
}
  where
    plan : Plan
    plan = plan_of tools (setting_of w n) (state_of h n) task

waking-kept : (tools : Tools) (w : Schedule) → IsKept tools w AnyEvent (λ h n s. Waking s)
waking-kept tools w = record {
  more = λ h ls n s p. p;
  answers = λ h number n task is all. answers-waking tools w h n task (all n)
      (kept.answers h number n task is (λ m. (all m).active));
  accepts = λ h n t s p. record { active = kept.accepts h n t s p.active; rests = accept-rests t s p.rests };
  seals = λ h n t s p. record { active = kept.seals h n t s p.active; rests = seal-rests t s p.rests };
  boots = λ h n s p. record { active = kept.boots h n s p.active; rests = boot-rests s p.rests };
}
  where
    kept : IsKept tools w AnyEvent (λ h n s. ActiveStarted s)
    kept = active-kept tools w AnyEvent

no-lines : (n : ℕ) → Rests (state_of [] n)
unfolding state_of
no-lines n e = refl

start-waking : (w : Schedule) → AllKeep (λ h n s. Waking s) (start w)
start-waking w n =
    record {
      active = (start-grounded w).active n;
      rests = lines-with Rests Begins begin-rests [] (start w)
          (start-begins w) no-lines n;
    }

-- What is sent

sent-frame : (tools : Tools) (c : Setting) (s : NodeState) (k : Counting) (send : Option Sending) → may_seal s send
    ≡ true → is_some (sent tools c s k send).frame ≡ is_some send
unfolding may_seal
sent-frame tools c s k None e = refl
sent-frame tools c s k (Some send) e =
    by-secured send.secured (active_row s)
    (and_parts (not send.secured || (is_some (active_row s) && not (spent Nwk s))) _ e).0
  where
    by-secured : (b : Bool) (o : Option NetKey) → (not b || (is_some o && not (spent Nwk s))) ≡ true
        → is_some
        (framed tools c send.to (k.counter Nwk) b o
        (part_of tools c.me.eui send.to (k.counter Nwk) (k.counter Aps) send.body)).frame ≡ true
    by-secured false o f = refl
    by-secured true (Some r) f = refl
    by-secured true None f = absurd (false≢true f)

out-sent : (tools : Tools) (c : Setting) (s : NodeState) (k : Counting) (send : Option Sending) → may_seal s send
    ≡ true → out_of tools c s k send ≡ sent tools c s k send
unfolding out_of
out-sent tools c s k send e = ap (λ b. cond b (sent tools c s k send) nothing_out) e

sealable-of : (tools : Tools) (c : Setting) (s : NodeState) (send : Option Sending) → may_seal s send ≡ true
    → IsSealable tools c s send
sealable-of tools c s send e = record {
  may = e;
  as_sent = λ k. out-sent tools c s k send e;
  has_frame = λ k. ap (λ (o : Outgoing). is_some o.frame) (out-sent tools c s k send e) ∙ sent-frame tools c s k send
      e;
}

all-events : (events : List Event) → AllByRecursion AnyEvent events
all-events [] = tt
all-events (e ∷ es) = (tt, all-events es)

pub sealable : (tools : Tools) (w : Schedule)
    → BeforeEach (λ (h : List Line) (event : Event). SendsSealable tools w h) tools w (start w) [] 1 w.events
sealable tools w =
    before-map (λ h event. AnyEvent event × AllKeep (λ x n s. Waking s) h) (λ h event. SendsSealable tools w h)
    (λ h event a n task. sealable-of tools (setting_of w n) (state_of h n) _
    (fits-may (state_of h n) (plan_of tools (setting_of w n) (state_of h n) task).outcome
    (plan-fits tools (setting_of w n) (state_of h n) task (uses-of (state_of h n) (a.1 n)))))
    tools w (start w) [] 1 w.events
    (kept-before tools w AnyEvent (λ h n s. Waking s) (waking-kept tools w) (start w) [] 1 w.events
    (all-events w.events) (start-waking w))
