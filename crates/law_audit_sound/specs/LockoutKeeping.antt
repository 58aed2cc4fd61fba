-- The lines of a run with which lockout fails first: none.
use Rattle.std.specs.Prelude.{◌≡◌, None}
use Rattle.zb_audit.specs.Faults.{unlocked}
use Rattle.law_audit_groups.specs.Printing.{printed}
use Rattle.zb_model.specs.Play.{Schedule, stations}
use Rattle.zb_model.specs.Tools.{Tools}
use Rattle.zb_model.specs.Transcript.{transcript}

-- The fifth claim of the audit: if what was accepted came from earlier terms, and if outsiders forged only with what
-- they may know, no line is the first with which lockout fails.
abbrev pub KeepsFifth : Tools → Schedule → Type 0
KeepsFifth tools w = unlocked tools (printed (stations w) (transcript tools w)) ≡ None
