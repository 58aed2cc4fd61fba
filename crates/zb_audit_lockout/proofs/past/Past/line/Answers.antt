use Rattle.std.proofs.Common.{◌≡◌, ◌++◌, ◌∷◌, [], List}
use Rattle.zb_audit_names.specs.Naming.{declared_in}
use Rattle.zb_audit_names.specs.Standing.{IsSpeaker}
use Rattle.zb_audit_names.proofs.Entries.{on_ok}
use Rattle.zb_audit_lockout.specs.Facts.{stated}
use Rattle.zb_audit_lockout.specs.Standing.{IsPast}
use Rattle.zb_audit_lockout.proofs.Pasts.{past_on}
use Rattle.zb_model.specs.Data.{Bytes}
use Rattle.zb_model.specs.Tools.{Tools}
use Rattle.zb_trace.specs.declared.line.Line.{Line}
use Rattle.zb_trace_watch.specs.Standing.{FindKeys}
use Rattle.zb_audit_lockout.proofs.past.Past.line.Goals as goal

pub returns : goal.returns
returns c =
    let read : c.note.new.self.group.items ≡ c.enter.new.self.group.items ++ stated c.args.who c.args.line.now
    → (tools : Tools) (names : List Bytes) (h : List Line) → FindKeys tools
    → IsSpeaker c.args.who names (declared_in h) c.args.line.now → IsPast tools names c.args.self.now h
    → IsPast tools names c.note.new.self (h ++ c.args.line.now ∷ []) =
    λ group tools names h find speaks past.
    past_on tools names c.enter.new.self c.note.new.self h c.args.line.now c.args.who c.event-event.result
    c.event-event.ensures find speaks
    (c.in_ok-enter.ensures tools names h c.args.line.now c.event-event.ensures past) c.note.ensures.event
    c.note.ensures.before group in
    on_ok c.note.result _ _ read c.note.ensures.group
