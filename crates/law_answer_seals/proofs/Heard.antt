-- An answer accepts at most one term of NWK and then one of APS, and none with the greatest counter.
use Rattle.std.proofs.Common.{◌≡◌, ◌<◌, Bool, true, false, if◌then◌else◌, List, [], ◌∷◌, ◌++◌, Option, Some, None, refl, arith, inl, inr, leb-false}
use Rattle.std.specs.List.{AllByRecursion}
use Rattle.std.specs.Prelude.{option_to_list, nat_le}
use Rattle.zb_model.specs.Data.{Bytes, Nwk, Aps, Term, Place, Reason, Task, Received}
use Rattle.zb_model.specs.State.{greatest_counter, NodeState, usable_of}
use Rattle.zb_model.specs.Tools.{Tools, NwkShown, NwkAuxiliary, ApsShown, ApsAuxiliary, CommandShown, Known, Unknown, Broken, LeaveShown, Leave, Other, NoCommand}
use Rattle.zb_model.specs.Rules.{Setting, Plan}
use Rattle.zb_model.specs.Judging.{Verdict, Not, Good, reject, need, judge_net, Carrier, carrier, judge_security, judge_nwk, payload_of, candidates, chosen_row, aps_source, Unsealed, judge_aps}
use Rattle.zb_model.specs.Commands.{Heard}
use Rattle.zb_model.specs.Answer.{nwk_command, heard_clear, heard_sealed, aps_command, clear_part, sealed_part, by_security, aps_part, net_part, received_as, plan_of, answer_by, answer}
use Rattle.law_answer_storable.specs.Storing.{OpensAsJudged}
use Rattle.law_answer_seals.specs.Sealing.{IsHeard, AreHeard}

-- what verification finds

abbrev OnGood : {A : Type 0} → (A → Type 0) → Verdict A → Type 0
OnGood P (Not place reason) = Unit {0}
OnGood P (Good it) = P it

reject_good : {A : Type 0} (P : A → Type 0) (bad : Bool) (place : Place) (reason : Reason) (rest : Verdict A)
    → (bad ≡ false → OnGood P rest) → OnGood P (reject bad place reason rest)
unfolding reject
reject_good P true place reason rest k = tt
reject_good P false place reason rest k = k refl

need_good : {A B : Type 0} (P : B → Type 0) (o : Option A) (place : Place) (reason : Reason) (rest : A → Verdict B)
    → ((a : A) → o ≡ Some a → OnGood P (rest a)) → OnGood P (need o place reason rest)
unfolding need
need_good P None place reason rest k = tt
need_good P (Some a) place reason rest k = k a refl

net_heard : (tools : Tools) → OpensAsJudged tools → (c : Setting) (s : NodeState) (bytes : Bytes) (f : NwkShown)
    (aux : NwkAuxiliary) → tools.read_nwk bytes ≡ Some f → f.auxiliary ≡ Some aux
    → OnGood (IsHeard Nwk) (judge_net tools c s bytes aux)
unfolding judge_net
net_heard tools opens c s bytes f aux read shown =
    need_good (IsHeard Nwk) (usable_of s aux.sequence) _ _ _ (λ row found.
    reject_good (IsHeard Nwk) (nat_le greatest_counter aux.counter) _ _ _ (λ small.
    reject_good (IsHeard Nwk) _ _ _ _ (λ a.
    need_good (IsHeard Nwk) (tools.open_nwk bytes row.key) _ _ _ (λ t opened.
    reject_good (IsHeard Nwk) _ _ _ _ (λ b.
    reject_good (IsHeard Nwk) _ _ _ _ (λ d.
    reject_good (IsHeard Nwk) _ _ _ _ (λ e.
    let is = opens.nwk bytes row.key f aux t read shown opened in
    record { layer_is = is.0; below_last = omega (arith, leb-false greatest_counter aux.counter small, is.3) })))))))

abbrev MayBeHeard : Option Term → Type 0
MayBeHeard None = Unit {0}
MayBeHeard (Some t) = IsHeard Nwk t

abbrev CarrierHeard : Carrier → Type 0
CarrierHeard k = MayBeHeard k.term

carried : (f : NwkShown) (v : Verdict Term) → OnGood (IsHeard Nwk) v → OnGood CarrierHeard (carrier f v)
carried f (Not place reason) good = tt
carried f (Good t) good = good

security_heard : (tools : Tools) → OpensAsJudged tools → (c : Setting) (s : NodeState) (bytes : Bytes) (f : NwkShown)
    (o : Option NwkAuxiliary) → tools.read_nwk bytes ≡ Some f → f.auxiliary ≡ o
    → OnGood CarrierHeard (judge_security tools c s bytes f o)
security_heard tools opens c s bytes f None read shown = reject_good CarrierHeard _ _ _ _ (λ e. tt)
security_heard tools opens c s bytes f (Some aux) read shown = carried f (judge_net tools c s bytes aux)
    (net_heard tools opens c s bytes f aux read shown)

nwk_heard : (tools : Tools) → OpensAsJudged tools → (c : Setting) (s : NodeState) (bytes : Bytes)
    → OnGood CarrierHeard (judge_nwk tools c s bytes)
unfolding judge_nwk
nwk_heard tools opens c s bytes =
    need_good CarrierHeard (tools.read_nwk bytes) _ _ _
    (λ f read. reject_good CarrierHeard _ _ _ _
    (λ e. security_heard tools opens c s bytes f f.auxiliary read refl))

abbrev ApsHeard : Unsealed → Type 0
ApsHeard u = IsHeard Aps u.term

aps_heard : (tools : Tools) → OpensAsJudged tools → (c : Setting) (s : NodeState) (f : NwkShown) (bytes : Bytes)
    (a : ApsShown) (aux : ApsAuxiliary) → tools.read_aps bytes ≡ Some a → a.auxiliary ≡ Some aux
    → OnGood ApsHeard (judge_aps tools c s f bytes aux)
unfolding judge_aps
aps_heard tools opens c s f bytes a aux read shown =
    need_good ApsHeard (aps_source c f aux) _ _ _ (λ source named.
    need_good ApsHeard (chosen_row tools bytes source (candidates s source)) _ _ _ (λ row found.
    reject_good ApsHeard (nat_le greatest_counter aux.counter) _ _ _ (λ small.
    reject_good ApsHeard _ _ _ _ (λ b.
    need_good ApsHeard (tools.open_aps bytes row.key source) _ _ _ (λ t opened.
    let is = opens.aps bytes row.key source a aux t read shown opened in
    record { layer_is = is.0; below_last = omega (arith, leb-false greatest_counter aux.counter small, is.3) })))))

-- the terms of a plan

alone : (o : Option Term) → MayBeHeard o → AreHeard (option_to_list o)
alone None is = tt
alone (Some t) is = inl is

with_aps : (o : Option Term) (t : Term) → MayBeHeard o → IsHeard Aps t → AreHeard (option_to_list o ++ t ∷ [])
with_aps None t is aps = inr aps
with_aps (Some n) t is aps = (is, aps)

either : (b : Bool) (p q : Plan) → AreHeard p.accepts → AreHeard q.accepts → AreHeard (if b then p else q).accepts
either true p q x y = x
either false p q x y = y

leave_heard : (c : Setting) (t : Term) → IsHeard Nwk t → (o : LeaveShown) → AreHeard (nwk_command c t o).accepts
leave_heard c t is (Leave options) = inl is
leave_heard c t is Other = inl is
leave_heard c t is NoCommand = inl is

command_heard : (tools : Tools) (c : Setting) (s : NodeState) (draw : Option Bytes) (ts : List Term) (m : Heard)
    (o : CommandShown) → AreHeard ts → AreHeard (aps_command tools c s draw ts m o).accepts
command_heard tools c s draw ts m (Known command) is = is
command_heard tools c s draw ts m Unknown is = is
command_heard tools c s draw ts m Broken is = is

clear_heard : (tools : Tools) (c : Setting) (s : NodeState) (draw : Option Bytes) (nwk : Option Term) (a : ApsShown)
    → MayBeHeard nwk → AreHeard (clear_part tools c s draw nwk a).accepts
clear_heard tools c s draw nwk a is =
    either a.is_command _ _
    (command_heard tools c s draw (option_to_list nwk) (heard_clear nwk) (tools.read_command a.body)
    (alone nwk is)) (alone nwk is)

sealed_heard : (tools : Tools) (c : Setting) (s : NodeState) (draw : Option Bytes) (nwk : Option Term) (a : ApsShown)
    (aux : ApsAuxiliary) (v : Verdict Unsealed) → MayBeHeard nwk → OnGood ApsHeard v
    → AreHeard (sealed_part tools c s draw nwk a aux v).accepts
sealed_heard tools c s draw nwk a aux (Not place reason) is good = alone nwk is
sealed_heard tools c s draw nwk a aux (Good u) is good =
    either a.is_command _ _
    (command_heard tools c s draw (option_to_list nwk ++ u.term ∷ []) (heard_sealed nwk aux u)
    (tools.read_command u.term.content) (with_aps nwk u.term is good)) (with_aps nwk u.term is good)

module _ (tools : Tools) (opens : OpensAsJudged tools) (c : Setting) (s : NodeState) (draw : Option Bytes) where
  by_security_heard : (f : NwkShown) (nwk : Option Term) (a : ApsShown) (o : Option ApsAuxiliary)
      → tools.read_aps (payload_of f nwk) ≡ Some a → a.auxiliary ≡ o → MayBeHeard nwk
      → AreHeard (by_security tools c s draw f nwk a o).accepts
  by_security_heard f nwk a None read shown is = clear_heard tools c s draw nwk a is
  by_security_heard f nwk a (Some aux) read shown is =
      sealed_heard tools c s draw nwk a aux (judge_aps tools c s f (payload_of f nwk) aux) is
      (aps_heard tools opens c s f (payload_of f nwk) a aux read shown)

  aps_part_heard : (f : NwkShown) (nwk : Option Term) (o : Option ApsShown) → tools.read_aps (payload_of f nwk) ≡ o
      → MayBeHeard nwk → AreHeard (aps_part tools c s draw f nwk o).accepts
  aps_part_heard f nwk None read is = alone nwk is
  aps_part_heard f nwk (Some a) read is = by_security_heard f nwk a a.auxiliary read refl is

  net_part_heard : (f : NwkShown) (nwk : Option Term) → MayBeHeard nwk
      → AreHeard (net_part tools c s draw f nwk).accepts
  net_part_heard f None is = aps_part_heard f None (tools.read_aps f.body) refl tt
  net_part_heard f (Some t) is =
      either f.is_command _ _ (leave_heard c t is (tools.read_leave t.content))
      (aps_part_heard f (Some t) (tools.read_aps t.content) refl is)

  received_heard : (v : Verdict Carrier) → OnGood CarrierHeard v → AreHeard (received_as tools c s draw v).accepts
  received_heard (Not place reason) good = tt
  received_heard (Good k) good = net_part_heard k.frame k.term good

plan_hears : (tools : Tools) → OpensAsJudged tools → (c : Setting) (s : NodeState) (task : Task)
    → AreHeard (plan_of tools c s task).accepts
unfolding plan_of
plan_hears tools opens c s (Received bytes draw) = received_heard tools opens c s draw (judge_nwk tools c s bytes)
    (nwk_heard tools opens c s bytes)
plan_hears tools opens c s _ = tt

pub answer_hears : (tools : Tools) → OpensAsJudged tools → (c : Setting) (s : NodeState) (task : Task)
    → AreHeard (answer tools c s task).accepts
unfolding answer answer_by
answer_hears tools opens c s task = plan_hears tools opens c s task

below_last : (ts : List Term) → AreHeard ts → AllByRecursion (λ (t : Term). t.counter < greatest_counter) ts
below_last [] is = tt
below_last (t ∷ []) (inl is) = (is.below_last, tt)
below_last (t ∷ []) (inr is) = (is.below_last, tt)
below_last (t ∷ u ∷ []) is = (is.0.below_last, (is.1.below_last, tt))
below_last (t ∷ u ∷ v ∷ ts) is = absurd is

pub answer_below_last : (tools : Tools) → OpensAsJudged tools → (c : Setting) (s : NodeState) (task : Task)
    → AllByRecursion (λ (t : Term). t.counter < greatest_counter) (answer tools c s task).accepts
answer_below_last tools opens c s task = below_last (answer tools c s task).accepts (answer_hears tools opens c s task)
