use Rattle.std.proofs.Common.{◌≡◌, ◌+◌, ◌++◌, ◌∷◌, [], List, None, length}
use Rattle.zb_audit_names.specs.Naming.{declared_in}
use Rattle.zb_audit_names.specs.Standing.{IsSpeaker}
use Rattle.zb_audit_names.proofs.Entries.{on_ok}
use Rattle.zb_audit_lockout.specs.Standing.{Stands}
use Rattle.zb_audit_lockout.proofs.Lines.{failed_stands}
use Rattle.zb_model.specs.Data.{Bytes}
use Rattle.zb_model.specs.Tools.{Tools}
use Rattle.zb_trace.specs.declared.line.Line.{Line}
use Rattle.zb_trace_watch.specs.Standing.{FindKeys}
use Rattle.zb_audit_lockout.proofs.lockout.Lockout.line.Goals as goal

pub returns-in-Some : goal.returns-in-Some
returns-in-Some c = λ tools names h find number_is speaks stands. failed_stands tools names c.args.self.now h
    c.args.line.now _ c.in-Some.is stands

pub returns-in-None : goal.returns-in-None
returns-in-None c =
    let read : ((tools : Tools) (names : List Bytes) (h : List Line) → FindKeys tools → c.args.number ≡ length h + 1
    → IsSpeaker c.args.who names (declared_in h) c.args.line.now → c.args.self.now.first ≡ None
    → Stands tools names c.args.self.now h → Stands tools names c.go_on.new.self (h ++ c.args.line.now ∷ []))
    → (tools : Tools) (names : List Bytes) (h : List Line) → FindKeys tools → c.args.number ≡ length h + 1
    → IsSpeaker c.args.who names (declared_in h) c.args.line.now → Stands tools names c.args.self.now h
    → Stands tools names c.go_on.new.self (h ++ c.args.line.now ∷ []) =
    λ all tools names h find number_is speaks stands. all tools names h find number_is speaks c.in-None.is stands in
    on_ok c.go_on.result _ _ read c.go_on.ensures
