-- The lines of a run that break the third claim of the audit: none.
use Rattle.std.specs.Prelude.{◌≡◌, []}
use Rattle.zb_audit.specs.Confirming.{is_confirmable}
use Rattle.zb_audit.specs.Failing.{failing}
use Rattle.law_audit_groups.specs.Printing.{printed}
use Rattle.zb_model.specs.Play.{Schedule, stations}
use Rattle.zb_model.specs.Transcript.{transcript}
use Rattle.zb_model_real.specs.Real.{real}

-- the third claim, with real frames: only stored keys are confirmed
abbrev pub KeepsThird : Schedule → Type 0
KeepsThird w = failing is_confirmable (printed (stations w) (transcript real w)) ≡ []
