-- What comes before the group of a line, as the audit reads it and as the model does.
use Rattle.std.specs.Prelude.{ℕ, ◌≡◌, List, [], ◌∷◌, ◌++◌, Option, Some, None}
use Rattle.law_audit_groups.specs.Printing.{printed}
use Rattle.zb_audit_lockout.specs.Before as read
use Rattle.zb_model.specs.Claims.{Each, before_group, event_of}
use Rattle.zb_model.specs.Data.{Station}
use Rattle.zb_model.specs.Lines.{Line, End}
use Rattle.zb_model.specs.Play.{Schedule, stations}
use Rattle.zb_model.specs.Tools.{Tools}
use Rattle.zb_model.specs.Transcript.{transcript}

-- the number of a line's event; the end line has none
abbrev pub numbered : Line → Option ℕ
numbered (End events seals accepts refusals ideal private) = None
numbered m = Some (event_of m)

-- The lines before the group of a line, which the audit finds as the longest runs of one number, are all lines of
-- other events before it. They are a prefix of the lines: only lines of its own event come after them.
pub record BeginsAt (known : List Station) (h : List Line) (m : Line) : Type 0 where
  pub group : List Line
  pub whole : before_group (event_of m) h ++ group ≡ h
  pub same : read.before_group (printed known (h ++ m ∷ [])) ≡ printed known (before_group (event_of m) h)

-- for each line of an event
abbrev pub Begins : List Station → List Line → Line → Type 0
Begins known h m = (event : ℕ) → numbered m ≡ Some event → BeginsAt known h m

abbrev pub RunBegins : Tools → Schedule → Type 0
RunBegins tools w = Each (Begins (stations w)) [] (transcript tools w)
