-- What is verified, and the plan of every event, are the same for a state and for what is shown of it.
use Rattle.std.proofs.Common.{◌≡◌, List, [], ◌∷◌, ◌++◌, option_to_list, refl, ap, ◌∙◌, if◌then◌else◌, Option, Some, None}
use Rattle.zb_model.specs.Data.{Bytes, Term, Place, Reason, Task, SayTo, TellTo, DoKnock, DoRejoin, DoTimer, AskFor, HasChild, DoProvision, DoRemove, DoRoll, DoSwitch, DoAgain, DoShare, Received, AtEvent, AtAps}
use Rattle.zb_model.specs.State.{NodeState, shown, is_known, is_live}
use Rattle.zb_model.specs.Tools.{Tools, NwkShown, NwkAuxiliary, ApsShown, ApsAuxiliary, CommandShown, Known, Unknown, Broken}
use Rattle.zb_model.specs.Rules.{Setting, Plan}
use Rattle.zb_model.specs.Judging.{Verdict, Not, Good, need, Carrier, Unsealed, judge_net, judge_security, carrier, judge_nwk, payload_of, candidates, judge_aps}
use Rattle.zb_model.specs.OwnEvents.{own}
use Rattle.zb_model.specs.Commands.{Heard}
use Rattle.zb_model.specs.Answer.{comes_to, nwk_command, heard_clear, heard_sealed, aps_command, clear_part, sealed_part, by_security, aps_part, net_part, received_as, plan_of}
use Rattle.law_tables_suffice.proofs.Questions.{usable_of_same}
use Rattle.law_tables_suffice.proofs.OwnRules.{own_same}
use Rattle.law_tables_suffice.proofs.CommandRules.{command_same}

-- ---- verification

net_same : (tools : Tools) (c : Setting) (s : NodeState) (bytes : Bytes) (aux : NwkAuxiliary)
    → judge_net tools c (shown s) bytes aux ≡ judge_net tools c s bytes aux
unfolding shown judge_net is_known is_live
net_same tools c s bytes aux = rw (usable_of_same s aux.sequence) refl

security_same : (tools : Tools) (c : Setting) (s : NodeState) (bytes : Bytes) (f : NwkShown)
    (aux : Option NwkAuxiliary) → judge_security tools c (shown s) bytes f aux ≡ judge_security tools c s bytes f aux
unfolding shown
security_same tools c s bytes f None = refl
security_same tools c s bytes f (Some aux) = ap (carrier f) (net_same tools c s bytes aux)

need_same : {A B : Type 0} (o : Option A) (place : Place) (reason : Reason) (rest more : A → Verdict B)
    → ((a : A) → rest a ≡ more a)
    → need o place reason rest ≡ need o place reason more
unfolding need
need_same None place reason rest more same = refl
need_same (Some a) place reason rest more same = same a

pub nwk_same : (tools : Tools) (c : Setting) (s : NodeState) (bytes : Bytes) → judge_nwk tools c (shown s) bytes
    ≡ judge_nwk tools c s bytes
unfolding judge_nwk
nwk_same tools c s bytes = need_same (tools.read_nwk bytes) _ _ _ _
    (λ f. rw (security_same tools c s bytes f f.auxiliary) refl)

pub aps_same : (tools : Tools) (c : Setting) (s : NodeState) (f : NwkShown) (bytes : Bytes) (aux : ApsAuxiliary)
    → judge_aps tools c (shown s) f bytes aux ≡ judge_aps tools c s f bytes aux
unfolding shown judge_aps candidates
aps_same tools c s f bytes aux = refl

-- ---- the plan of a frame

aps_command_same : (tools : Tools) (c : Setting) (s : NodeState) (draw : Option Bytes) (accepts : List Term)
    (m : Heard) (command : CommandShown) → aps_command tools c (shown s) draw accepts m command
    ≡ aps_command tools c s draw accepts m command
aps_command_same tools c s draw accepts m (Known command) =
    ap (comes_to accepts AtAps) (command_same tools c s draw m command)
aps_command_same tools c s draw accepts m Unknown = refl
aps_command_same tools c s draw accepts m Broken = refl

clear_same : (tools : Tools) (c : Setting) (s : NodeState) (draw : Option Bytes) (nwk : Option Term) (a : ApsShown)
    → clear_part tools c (shown s) draw nwk a ≡ clear_part tools c s draw nwk a
clear_same tools c s draw nwk a =
    rw (aps_command_same tools c s draw (option_to_list nwk) (heard_clear nwk) (tools.read_command a.body)) refl

sealed_same : (tools : Tools) (c : Setting) (s : NodeState) (draw : Option Bytes) (nwk : Option Term) (a : ApsShown)
    (aux : ApsAuxiliary) (v : Verdict Unsealed) → sealed_part tools c (shown s) draw nwk a aux v
    ≡ sealed_part tools c s draw nwk a aux v
sealed_same tools c s draw nwk a aux (Not place reason) = refl
sealed_same tools c s draw nwk a aux (Good u) =
    rw (aps_command_same tools c s draw (option_to_list nwk ++ u.term ∷ []) (heard_sealed nwk aux u)
    (tools.read_command u.term.content)) refl

by_security_same : (tools : Tools) (c : Setting) (s : NodeState) (draw : Option Bytes) (f : NwkShown)
    (nwk : Option Term) (a : ApsShown) (o : Option ApsAuxiliary) → by_security tools c (shown s) draw f nwk a o
    ≡ by_security tools c s draw f nwk a o
by_security_same tools c s draw f nwk a None = clear_same tools c s draw nwk a
by_security_same tools c s draw f nwk a (Some aux) =
    ap (sealed_part tools c (shown s) draw nwk a aux) (aps_same tools c s f (payload_of f nwk) aux) ∙ sealed_same
    tools c s draw nwk a aux (judge_aps tools c s f (payload_of f nwk) aux)

aps_part_same : (tools : Tools) (c : Setting) (s : NodeState) (draw : Option Bytes) (f : NwkShown) (nwk : Option Term)
    (o : Option ApsShown) → aps_part tools c (shown s) draw f nwk o ≡ aps_part tools c s draw f nwk o
aps_part_same tools c s draw f nwk None = refl
aps_part_same tools c s draw f nwk (Some a) = by_security_same tools c s draw f nwk a a.auxiliary

net_part_same : (tools : Tools) (c : Setting) (s : NodeState) (draw : Option Bytes) (f : NwkShown) (o : Option Term)
    → net_part tools c (shown s) draw f o ≡ net_part tools c s draw f o
net_part_same tools c s draw f None = aps_part_same tools c s draw f None (tools.read_aps f.body)
net_part_same tools c s draw f (Some term) =
    ap (λ (p : Plan). if f.is_command then nwk_command c term (tools.read_leave term.content)
    else p) (aps_part_same tools c s draw f (Some term) (tools.read_aps term.content))

received_same : (tools : Tools) (c : Setting) (s : NodeState) (draw : Option Bytes) (v : Verdict Carrier)
    → received_as tools c (shown s) draw v ≡ received_as tools c s draw v
received_same tools c s draw (Not place reason) = refl
received_same tools c s draw (Good k) = net_part_same tools c s draw k.frame k.term

-- ---- the plan of every event

planned : (tools : Tools) (c : Setting) (s : NodeState) (task : Task)
    → comes_to [] AtEvent (own tools c (shown s) task) ≡ comes_to [] AtEvent (own tools c s task)
planned tools c s task = ap (comes_to [] AtEvent) (own_same tools c s task)

pub plan_same : (tools : Tools) (c : Setting) (s : NodeState) (task : Task) → plan_of tools c (shown s) task
    ≡ plan_of tools c s task
unfolding plan_of
plan_same tools c s (Received bytes draw) = ap (received_as tools c (shown s) draw) (nwk_same tools c s bytes) ∙
    received_same tools c s draw (judge_nwk tools c s bytes)
plan_same tools c s (SayTo to bytes) = planned tools c s (SayTo to bytes)
plan_same tools c s (TellTo partner bytes) = planned tools c s (TellTo partner bytes)
plan_same tools c s DoKnock = planned tools c s DoKnock
plan_same tools c s DoRejoin = planned tools c s DoRejoin
plan_same tools c s DoTimer = planned tools c s DoTimer
plan_same tools c s (AskFor partner) = planned tools c s (AskFor partner)
plan_same tools c s (HasChild child rejoin) = planned tools c s (HasChild child rejoin)
plan_same tools c s (DoProvision device key) = planned tools c s (DoProvision device key)
plan_same tools c s (DoRemove device via) = planned tools c s (DoRemove device via)
plan_same tools c s (DoRoll draw) = planned tools c s (DoRoll draw)
plan_same tools c s DoSwitch = planned tools c s DoSwitch
plan_same tools c s (DoAgain device) = planned tools c s (DoAgain device)
plan_same tools c s (DoShare device partner) = planned tools c s (DoShare device partner)
