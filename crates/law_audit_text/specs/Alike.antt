-- Lines between which an audit sees no difference.
use Rattle.std.specs.Prelude.{◌≡◌, ◌&&◌, List, map}
use Rattle.zb_audit.specs.Ending.{accepts_in, seals_in}
use Rattle.zb_audit.specs.Faults.{first_fault}
use Rattle.zb_audit_names.specs.Secrets.{ideal, private}
use Rattle.zb_model.specs.Tools.{Tools}
use Rattle.zb_trace.specs.Text.{words}
use Rattle.zb_trace.specs.declared.line.Line.{Line}

-- The lines have the same words, one by one.
abbrev pub HaveSameWords : List Line → List Line → Type 0
HaveSameWords lines others = map words lines ≡ map words others

-- Both have the same first bad line, which breaks the same claim first, or no bad line; and the verdict on them would
-- be the same.
pub record AreJudgedAlike (tools : Tools) (lines others : List Line) : Type 0 where
  pub fault : first_fault tools lines ≡ first_fault tools others
  pub seals : seals_in lines ≡ seals_in others
  pub accepts : accepts_in lines ≡ accepts_in others
  pub locked : (ideal tools lines && private tools lines) ≡ (ideal tools others && private tools others)
