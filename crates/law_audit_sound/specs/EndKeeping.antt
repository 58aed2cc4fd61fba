-- The lines of a run that break the sixth claim of the audit: none.
use Rattle.std.specs.Prelude.{◌≡◌, []}
use Rattle.zb_audit.specs.Ending.{ill_ended}
use Rattle.law_audit_groups.specs.Printing.{printed}
use Rattle.zb_model.specs.Play.{Schedule, stations}
use Rattle.zb_model.specs.Tools.{Tools}
use Rattle.zb_model.specs.Transcript.{transcript}

-- the sixth claim: the last line is the only end line, and sums up those before it
abbrev pub KeepsSixth : Tools → Schedule → Type 0
KeepsSixth tools w = ill_ended tools (printed (stations w) (transcript tools w)) ≡ []
