-- What an outcome of a rule must be: its moves may be made one after the other, and are at most five. A rule is a
-- chain of refusals, so this is asked of what comes after them.
use Rattle.std.proofs.Common.{◌≡◌, ◌≤◌, [], length, refl, arith, Bool, true, false, Option, Some, None}
use Rattle.zb_model.specs.Data.{Reason}
use Rattle.zb_model.specs.State.{NodeState}
use Rattle.zb_model.specs.Rules.{Sending, Outcome, Stop, Does, refuse_if, found_or, choose}
use Rattle.zb_model.specs.Answer.{moves_of}
use Rattle.law_answer_storable.proofs.Moves.{moves_fit}

pub record Fitting (s : NodeState) (o : Outcome) : Type 0 where
  pub fit : moves_fit s (moves_of o) s ≡ true
  pub few : length (moves_of o) ≤ 5

pub stopped : (s : NodeState) (reason : Reason) → Fitting s (Stop reason)
stopped s reason = record { fit = refl; few = omega arith }

pub no_moves : (s : NodeState) (send : Option Sending) → Fitting s (Does [] send)
no_moves s send = record { fit = refl; few = omega arith }

pub after_unless : (s : NodeState) (bad : Bool) (reason : Reason) (rest : Outcome) → (bad ≡ false → Fitting s rest)
    → Fitting s (refuse_if bad reason rest)
unfolding refuse_if
after_unless s true reason rest k = stopped s reason
after_unless s false reason rest k = k refl

pub after_found : {A : Type 0} (s : NodeState) (o : Option A) (reason : Reason) (rest : A → Outcome)
    → ((a : A) → o ≡ Some a → Fitting s (rest a)) → Fitting s (found_or o reason rest)
unfolding found_or
after_found s None reason rest k = stopped s reason
after_found s (Some a) reason rest k = k a refl

pub after_choice : (s : NodeState) (test : Bool) (a b : Outcome) → (test ≡ true → Fitting s a)
    → (test ≡ false → Fitting s b) → Fitting s (choose test a b)
unfolding choose
after_choice s true a b k l = k refl
after_choice s false a b k l = l refl
