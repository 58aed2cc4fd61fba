-- A real frame opens to the term by which it was checked.
use Rattle.std.proofs.Common.{◌≡◌, ℕ, Option, Some, None, refl, ◌∙◌}
use Rattle.std.specs.Prelude.{unwrap_or}
use Rattle.zb_model_real.proofs.Showing.{aps-opens, nwk-opens}
use Rattle.zb_model_real.specs.Real.{real}
use Rattle.law_answer_storable.specs.Storing.{OpensAsJudged, source_or}

given_or : (given : ℕ) (o : Option ℕ) → unwrap_or o given ≡ source_or given o
given_or given None = refl
given_or given (Some source) = refl

pub real_opens : OpensAsJudged real
real_opens = record {
  nwk = nwk-opens;
  aps = λ bytes key given a aux t read shown opened.
      let is = aps-opens bytes key given a aux t read shown opened in
      (is.0, is.1, is.2 ∙ given_or given aux.source, is.3);
}
