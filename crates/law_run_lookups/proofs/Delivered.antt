-- A delivery is answered with counter-spent only by the rule of its command, and that rule's frame is sealed at the
-- layers of the command's answer.
use Rattle.std.proofs.Common.{◌≡◌, ℕ, Bool, true, false, cond, List, [], ◌∷◌, ◌++◌, Option, Some, None, option_to_list, refl, ap, subst}
use Rattle.zb_model.specs.Data.{Bytes, Layer, Term, Place, AtAps, Reason, CounterSpent, Move, Command, Received}
use Rattle.zb_model.specs.State.{NodeState, usable_of}
use Rattle.zb_model.specs.Tools.{Tools, NwkShown, NwkAuxiliary, ApsShown, ApsAuxiliary, CommandShown, Known, Unknown, Broken, LeaveShown, Leave, Other, NoCommand}
use Rattle.zb_model.specs.Rules.{Outcome, Stop, Does, Plan, Setting, refuse_if}
use Rattle.zb_model.specs.Judging.{Verdict, Not, Good, reject, need, judge_net, Carrier, carrier, judge_security, judge_nwk, payload_of, candidates, chosen_row, aps_source, Unsealed, judge_aps}
use Rattle.zb_model.specs.Answer.{comes_to, heard_clear, heard_sealed, nwk_command, aps_command, sealed_part, by_security, aps_part, net_part, received_as, plan_of, reason_of, refusal_of, sending_of}
use Rattle.zb_model.specs.Commands.{Heard, take_command, take_leave}
use Rattle.law_run_lookups.specs.FrameLayers.{OneSpent, SealedAt}
use Rattle.law_run_lookups.proofs.FrameLayers.{command-spent, command-sealed}
use Rattle.law_run_lookups.specs.Carried.{known, unsealed_command, command_by, command_in, carried_by, passed_command, carried, answer_layers}

abbrev ReasonFits : Option Command → NodeState → Reason → Type 0
ReasonFits o s CounterSpent = OneSpent (answer_layers o) s
ReasonFits o s _ = Unit {0}

abbrev Fits : Option Command → NodeState → Outcome → Type 0
Fits o s (Stop reason) = ReasonFits o s reason
Fits o s (Does moves sending) = SealedAt (answer_layers o) sending

-- a reason that isn't counter-spent
abbrev Unspent : Reason → Type 0
Unspent CounterSpent = ⊥
Unspent _ = Unit {0}

unspent-fits : (o : Option Command) (s : NodeState) (reason : Reason) → Unspent reason → ReasonFits o s reason
unspent-fits o s CounterSpent u = absurd u
unspent-fits o s _ u = tt

abbrev Judges : {A : Type 0} → Verdict A → Type 0
Judges (Not at reason) = Unspent reason
Judges (Good it) = Unit {0}

re : {A : Type 0} (bad : Bool) (at : Place) (reason : Reason) (rest : Verdict A) → Unspent reason → Judges rest
    → Judges (reject bad at reason rest)
unfolding reject
re true at reason rest u f = u
re false at reason rest u f = f

ne : {A B : Type 0} (o : Option A) (at : Place) (reason : Reason) (rest : A → Verdict B) → Unspent reason
    → ((a : A) → Judges (rest a)) → Judges (need o at reason rest)
unfolding need
ne None at reason rest u f = u
ne (Some a) at reason rest u f = f a

judge-net-fits : (tools : Tools) (c : Setting) (s : NodeState) (bytes : Bytes) (aux : NwkAuxiliary)
    → Judges (judge_net tools c s bytes aux)
unfolding judge_net
judge-net-fits tools c s bytes aux =
    ne (usable_of s aux.sequence) _ _ _ tt
    (λ row. re _ _ _ _ tt
    (re _ _ _ _ tt
    (ne (tools.open_nwk bytes row.key) _ _ _ tt (λ t. re _ _ _ _ tt (re _ _ _ _ tt (re _ _ _ _ tt tt))))))

carrier-fits : (f : NwkShown) (v : Verdict Term) → Judges v → Judges (carrier f v)
carrier-fits f (Not at reason) k = k
carrier-fits f (Good t) k = tt

security-fits : (tools : Tools) (c : Setting) (s : NodeState) (bytes : Bytes) (f : NwkShown) (x : Option NwkAuxiliary)
    → Judges (judge_security tools c s bytes f x)
security-fits tools c s bytes f None = re _ _ _ _ tt tt
security-fits tools c s bytes f (Some aux) = carrier-fits f (judge_net tools c s bytes aux)
    (judge-net-fits tools c s bytes aux)

judge-nwk-fits : (tools : Tools) (c : Setting) (s : NodeState) (bytes : Bytes) → Judges (judge_nwk tools c s bytes)
unfolding judge_nwk
judge-nwk-fits tools c s bytes =
    ne (tools.read_nwk bytes) _ _ _ tt (λ f. re _ _ _ _ tt (security-fits tools c s bytes f f.auxiliary))

judge-aps-fits : (tools : Tools) (c : Setting) (s : NodeState) (f : NwkShown) (bytes : Bytes) (aux : ApsAuxiliary)
    → Judges (judge_aps tools c s f bytes aux)
unfolding judge_aps
judge-aps-fits tools c s f bytes aux =
    ne (aps_source c f aux) _ _ _ tt
    (λ source. ne (chosen_row tools bytes source (candidates s source)) _ _ _ tt
    (λ row. re _ _ _ _ tt (re _ _ _ _ tt (ne (tools.open_aps bytes row.key source) _ _ _ tt (λ t. tt)))))

-- The plan

rule-fits : (tools : Tools) (c : Setting) (s : NodeState) (d : Option Bytes) (m : Heard) (command : Command)
    (o : Outcome) → take_command tools c s d m command ≡ o → Fits (Some command) s o
rule-fits tools c s d m command (Does moves sending) e = command-sealed tools c s d m command moves sending e
rule-fits tools c s d m command (Stop reason) e = by-reason reason e
  where
    by-reason : (r : Reason) → take_command tools c s d m command ≡ Stop r → ReasonFits (Some command) s r
    by-reason CounterSpent f = command-spent tools c s d m command f
    by-reason _ f = tt

shown-fits : (tools : Tools) (c : Setting) (s : NodeState) (d : Option Bytes) (ts : List Term) (m : Heard)
    (o : CommandShown) → Fits (known o) s (aps_command tools c s d ts m o).outcome
shown-fits tools c s d ts m (Known command) = rule-fits tools c s d m command (take_command tools c s d m command) refl
shown-fits tools c s d ts m Unknown = tt
shown-fits tools c s d ts m Broken = tt

either-fits : (s : NodeState) (b : Bool) (o : Option Command) (p q : Plan) → Fits o s p.outcome
    → Fits None s q.outcome → Fits (cond b o None) s (cond b p q).outcome
either-fits s true o p q a b = a
either-fits s false o p q a b = b

sealed-fits : (tools : Tools) (c : Setting) (s : NodeState) (d : Option Bytes) (nwk : Option Term) (a : ApsShown)
    (aux : ApsAuxiliary) (v : Verdict Unsealed) → Judges v → Fits (cond a.is_command (unsealed_command tools v) None)
    s (sealed_part tools c s d nwk a aux v).outcome
sealed-fits tools c s d nwk a aux (Not at reason) j = unspent-fits _ s reason j
sealed-fits tools c s d nwk a aux (Good u) j =
    either-fits s a.is_command (known (tools.read_command u.term.content))
    (aps_command tools c s d (option_to_list nwk ++ u.term ∷ []) (heard_sealed nwk aux u)
    (tools.read_command u.term.content)) (comes_to (option_to_list nwk ++ u.term ∷ []) AtAps (Does [] None))
    (shown-fits tools c s d (option_to_list nwk ++ u.term ∷ []) (heard_sealed nwk aux u)
    (tools.read_command u.term.content)) tt

by-fits : (tools : Tools) (c : Setting) (s : NodeState) (d : Option Bytes) (f : NwkShown) (nwk : Option Term)
    (a : ApsShown) (x : Option ApsAuxiliary) → Fits (cond a.is_command (command_by tools c s f nwk a x) None) s
    (by_security tools c s d f nwk a x).outcome
by-fits tools c s d f nwk a None =
    either-fits s a.is_command (known (tools.read_command a.body))
    (aps_command tools c s d (option_to_list nwk) (heard_clear nwk) (tools.read_command a.body))
    (comes_to (option_to_list nwk) AtAps (Does [] None))
    (shown-fits tools c s d (option_to_list nwk) (heard_clear nwk) (tools.read_command a.body)) tt
by-fits tools c s d f nwk a (Some aux) =
    sealed-fits tools c s d nwk a aux (judge_aps tools c s f (payload_of f nwk) aux)
    (judge-aps-fits tools c s f (payload_of f nwk) aux)

part-fits : (tools : Tools) (c : Setting) (s : NodeState) (d : Option Bytes) (f : NwkShown) (nwk : Option Term)
    (o : Option ApsShown) → Fits (command_in tools c s f nwk o) s (aps_part tools c s d f nwk o).outcome
part-fits tools c s d f nwk None = tt
part-fits tools c s d f nwk (Some a) = by-fits tools c s d f nwk a a.auxiliary

leave-fits : (c : Setting) (s : NodeState) (term : Term) (options : ℕ) → Fits None s (take_leave c term options)
unfolding take_leave refuse_if
leave-fits c s term options = by-test _
  where
    by-test : (b : Bool)
        → Fits None s
        (cond b (Stop Rattle.zb_model.specs.Data.Policy)
        (Does (Rattle.zb_model.specs.Data.Became Rattle.zb_model.specs.Data.Gone ∷ []) None))
    by-test true = tt
    by-test false = tt

nwk-command-fits : (c : Setting) (s : NodeState) (term : Term) (l : LeaveShown)
    → Fits None s (nwk_command c term l).outcome
nwk-command-fits c s term (Leave options) = leave-fits c s term options
nwk-command-fits c s term Other = tt
nwk-command-fits c s term NoCommand = tt

other-fits : (s : NodeState) (b : Bool) (o : Option Command) (p q : Plan) → Fits None s p.outcome → Fits o s q.outcome
    → Fits (cond b None o) s (cond b p q).outcome
other-fits s true o p q a b = a
other-fits s false o p q a b = b

net-fits : (tools : Tools) (c : Setting) (s : NodeState) (d : Option Bytes) (f : NwkShown) (o : Option Term)
    → Fits (carried_by tools c s f o) s (net_part tools c s d f o).outcome
net-fits tools c s d f None = part-fits tools c s d f None (tools.read_aps f.body)
net-fits tools c s d f (Some t) =
    other-fits s f.is_command (command_in tools c s f (Some t) (tools.read_aps t.content))
    (nwk_command c t (tools.read_leave t.content)) (aps_part tools c s d f (Some t) (tools.read_aps t.content))
    (nwk-command-fits c s t (tools.read_leave t.content))
    (part-fits tools c s d f (Some t) (tools.read_aps t.content))

received-fits : (tools : Tools) (c : Setting) (s : NodeState) (d : Option Bytes) (v : Verdict Carrier) → Judges v
    → Fits (passed_command tools c s v) s (received_as tools c s d v).outcome
received-fits tools c s d (Not at reason) j = unspent-fits None s reason j
received-fits tools c s d (Good x) j = net-fits tools c s d x.frame x.term

delivery-fits : (tools : Tools) (c : Setting) (s : NodeState) (bytes : Bytes) (d : Option Bytes)
    → Fits (carried tools c s bytes) s (plan_of tools c s (Received bytes d)).outcome
unfolding plan_of carried
delivery-fits tools c s bytes d = received-fits tools c s d (judge_nwk tools c s bytes)
    (judge-nwk-fits tools c s bytes)

-- so the claim is true of refusals and of frames

spent-so : (o : Option Command) (s : NodeState) (x : Outcome) → Fits o s x → reason_of x ≡ Some CounterSpent
    → OneSpent (answer_layers o) s
spent-so o s (Does moves sending) f e = absurd (subst IsNone e tt)
  where
    IsNone : Option Reason → Type 0
    IsNone None = Unit {0}
    IsNone (Some r) = ⊥
spent-so o s (Stop reason) f e =
    subst (ReasonFits o s) (ap (λ (x : Option Reason). Rattle.std.specs.Prelude.unwrap_or x reason) e) f

sealed-so : (o : Option Command) (s : NodeState) (x : Outcome) → Fits o s x → SealedAt (answer_layers o) (sending_of x)
sealed-so o s (Stop reason) f = tt
sealed-so o s (Does moves sending) f = f

pub delivery-spent : (tools : Tools) (c : Setting) (s : NodeState) (bytes : Bytes) (draw : Option Bytes)
    → refusal_of (plan_of tools c s (Received bytes draw)) ≡ Some CounterSpent
    → OneSpent (answer_layers (carried tools c s bytes)) s
delivery-spent tools c s bytes draw e =
    spent-so (carried tools c s bytes) s (plan_of tools c s (Received bytes draw)).outcome
    (delivery-fits tools c s bytes draw) e

pub delivery-sealed : (tools : Tools) (c : Setting) (s : NodeState) (bytes : Bytes) (draw : Option Bytes)
    → SealedAt (answer_layers (carried tools c s bytes)) (sending_of (plan_of tools c s (Received bytes draw)).outcome)
delivery-sealed tools c s bytes draw =
    sealed-so (carried tools c s bytes) s (plan_of tools c s (Received bytes draw)).outcome
    (delivery-fits tools c s bytes draw)
