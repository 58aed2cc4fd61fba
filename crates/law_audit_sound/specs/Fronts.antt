-- If lockout is true of lines, it is true of each prefix of them.
use Rattle.std.specs.Prelude.{◌≡◌, true, List, ◌++◌, None}
use Rattle.zb_audit_lockout.specs.Lockout.{first_unlocked, locked}
use Rattle.zb_model.specs.Tools.{Tools}
use Rattle.zb_trace.specs.declared.line.Line.{Line}

-- If removed devices are locked out of lines, they are locked out of each prefix of them: more lines expose no fewer
-- keys, and a prefix cuts the windows after removals. So lockout is true of lines exactly if no line is the first
-- with which it fails.
pub record LocksFronts (tools : Tools) (lines : List Line) : Type 0 where
  pub fronts : (front rest : List Line) → front ++ rest ≡ lines → locked tools lines ≡ true → locked tools front ≡ true
  pub none : locked tools lines ≡ true → first_unlocked tools lines ≡ None
  pub only : first_unlocked tools lines ≡ None → locked tools lines ≡ true
