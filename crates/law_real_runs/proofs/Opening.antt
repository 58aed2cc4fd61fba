-- A frame opens to what it shows, as the laws ask.
use Rattle.std.proofs.Common.{◌≡◌, ℕ, Option, Some, None, refl, ◌∙◌}
use Rattle.std.specs.Prelude.{unwrap_or}
use Rattle.law_run.specs.Opening.{Opens, shown_source}
use Rattle.zb_model_real.proofs.Showing.{nwk-opens, aps-opens}
use Rattle.zb_model_real.specs.Real.{real}

given_or : (given : ℕ) (o : Option ℕ) → unwrap_or o given ≡ shown_source given o
given_or given None = refl
given_or given (Some source) = refl

pub opens-real : Opens real
opens-real = record {
  nwk = nwk-opens;
  aps = λ bytes key given f aux t a b c. let o = aps-opens bytes key given f aux t a b c in
      (o.0, o.1, o.2 ∙ given_or given aux.source, o.3);
}
