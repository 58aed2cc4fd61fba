-- A real frame opens to the values by which it was verified, whichever source it leaves out.
use Rattle.std.proofs.Common.{◌≡◌, ℕ, Option, Some, None, refl, ◌∙◌}
use Rattle.std.specs.Prelude.{unwrap_or}
use Rattle.zb_model_real.proofs.Showing.{aps-opens, nwk-opens}
use Rattle.zb_model_real.specs.Real.{real}
use Rattle.law_answer_storable.specs.Storing.{OpensAsJudged, source_or}
use Rattle.law_run.specs.Opening.{Opens, shown_source}

given_or : (given : ℕ) (o : Option ℕ) → unwrap_or o given ≡ source_or given o
given_or given None = refl
given_or given (Some source) = refl

pub opens_as_judged : OpensAsJudged real
opens_as_judged = record {
  nwk = nwk-opens;
  aps = λ bytes key given a aux t read shown opened.
      let is = aps-opens bytes key given a aux t read shown opened in
      (is.0, is.1, is.2 ∙ given_or given aux.source, is.3);
}

shown_or : (given : ℕ) (o : Option ℕ) → unwrap_or o given ≡ shown_source given o
shown_or given None = refl
shown_or given (Some source) = refl

pub opens_real : Opens real
opens_real = record {
  nwk = nwk-opens;
  aps = λ bytes key given f aux t a b c. let o = aps-opens bytes key given f aux t a b c in
      (o.0, o.1, o.2 ∙ shown_or given aux.source, o.3);
}
