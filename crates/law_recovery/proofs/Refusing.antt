-- What a node refuses changes at most limits, counters and floors: its stage in an exchange stays.
use Rattle.std.proofs.Common.{◌≡◌, ℕ, [], filter, Some, is_some, refl, ap, ◌∙◌}
use Rattle.std.proofs.lemmas.Bool.{false≢true}
use Rattle.zb_model.specs.Data.{Bytes, Reason, Task}
use Rattle.zb_model.specs.Rules.{Setting, Outcome, Stop, Does}
use Rattle.zb_model.specs.State.{NodeState}
use Rattle.zb_model.specs.Tools.{Tools}
use Rattle.zb_model.specs.Answer.{changes, moves_of, reason_of, answer_by, counting_of, plan_of, answer}
use Rattle.law_recovery.specs.Answering.{after_task}
use Rattle.law_recovery.specs.Meeting.{IsConfirmed}
use Rattle.law_recovery.proofs.Baring.{bare, bare_after}
use Rattle.law_recovery.proofs.Keeping.{both_left, link_left, network_left, offer_left, proved_left, state_left}
use Rattle.law_recovery.proofs.Proving.{still_offered}
use Rattle.law_recovery.proofs.Requesting.{still_joined}
use Rattle.law_recovery.specs.Entering.{IsSpared}

no_moves : (s : NodeState) (o : Outcome) (reason : Reason) → reason_of o ≡ Some reason
    → filter (changes s) (moves_of o) ≡ []
no_moves s (Stop r) reason e = refl
no_moves s (Does moves sending) reason e = absurd (false≢true (ap is_some e))

pub refused_bare : (tools : Tools) (c : Setting) (s : NodeState) (task : Task) (reason : Reason)
    → (answer tools c s task).refusal ≡ Some reason → bare (after_task tools c s task) ≡ bare s
unfolding after_task answer answer_by
refused_bare tools c s task reason e =
    let p = plan_of tools c s task in
    bare_after tools c s (counting_of c s p) p [] (no_moves s p.outcome reason e) tt

pub still_confirmed : (t u : NodeState) (centre : ℕ) (key : Bytes) (sequence : ℕ) (link : Bytes)
    → IsConfirmed t centre key sequence link → bare u ≡ bare t → IsConfirmed u centre key sequence link
still_confirmed t u centre key sequence link j e = record {
  network = network_left t u key sequence j.network e;
  confirmed = state_left t u e ∙ j.confirmed;
  keys = proved_left t u centre link j.keys e;
}

-- a node's bare rows show its stage
pub spared_by : (s u : NodeState) → bare u ≡ bare s → IsSpared s u
spared_by s u same = record {
  network = λ key sequence h. network_left s u key sequence h same;
  keys = λ partner link h. link_left s u partner link h same;
  offer = λ partner key h. offer_left s u partner key h same;
  joined = λ centre key sequence link j. still_joined s u centre key sequence link j same;
  both = λ partner link key h. both_left s u partner link key h same;
  proved = λ partner key h. proved_left s u partner key h same;
  offered = λ centre key sequence link j. still_offered s u centre key sequence link j same;
  confirmed = λ centre key sequence link j. still_confirmed s u centre key sequence link j same;
}

pub spared : (tools : Tools) (c : Setting) (s : NodeState) (task : Task) (reason : Reason)
    → (answer tools c s task).refusal ≡ Some reason → IsSpared s (after_task tools c s task)
spared tools c s task reason e = spared_by s (after_task tools c s task) (refused_bare tools c s task reason e)
