-- The lines of a run that break the fourth claim of the audit: none.
use Rattle.std.specs.Prelude.{◌≡◌, []}
use Rattle.law_audit_groups.specs.Printing.{printed}
use Rattle.zb_model.specs.Play.{Schedule, stations}
use Rattle.zb_model.specs.Tools.{Tools}
use Rattle.zb_model.specs.Transcript.{transcript}
use Rattle.zb_audit_counters.specs.Counting.{uncounted}

-- the fourth claim: counters, reserves, floors, starts and active keys add up
abbrev pub KeepsFourth : Tools → Schedule → Type 0
KeepsFourth tools w = uncounted (printed (stations w) (transcript tools w)) ≡ []
