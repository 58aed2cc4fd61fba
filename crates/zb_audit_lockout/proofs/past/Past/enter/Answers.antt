use Rattle.std.proofs.Common.{sym, ◌∙◌, ◌≡◌, [], List}
use Rattle.zb_audit_names.specs.Groups.{event_of}
use Rattle.zb_audit_lockout.specs.Facts.{Recalls}
use Rattle.zb_audit_lockout.specs.Standing.{Enters, IsPast}
use Rattle.zb_audit_lockout.proofs.Results.{on_both}
use Rattle.zb_audit_lockout.proofs.Pasts.{begins_enters, goes_on_enters}
use Rattle.zb_model.specs.Data.{Bytes}
use Rattle.zb_model.specs.Tools.{Tools}
use Rattle.zb_trace.specs.declared.line.Line.{Line}
use Rattle.zb_audit_lockout.proofs.past.Past.enter.Goals as goal

pub returns-then-goes_on : goal.returns-then-goes_on
returns-then-goes_on c = λ tools names h l is past. goes_on_enters tools names c.args.self.now h l c.args.event is
    (sym c.goes_on.ensures ∙ c.if-goes_on.true) past

pub returns-else-goes_on : goal.returns-else-goes_on
returns-else-goes_on c =
    let read :
    ((tools : Tools) (names : List Bytes) (h : List Line)
    → Recalls tools names c.args.self.now.before c.args.self.now.group.items h
    → Recalls tools names c.end_group.new.self.before [] h)
    → c.end_group.new.self.group.items ≡ []
    → (tools : Tools) (names : List Bytes) (h : List Line) (l : Line) → c.args.event ≡ event_of l
    → IsPast tools names c.args.self.now h → Enters tools names c.end_group.new.self h l =
    λ recalls none tools names h l is past.
    begins_enters tools names c.args.self.now c.end_group.new.self h l c.args.event is
    (sym c.goes_on.ensures ∙ c.if-goes_on.false) past (recalls tools names h past.now) none in
    on_both c.end_group.result _ _ _ c.end_group.ensures.recalls c.end_group.ensures.group read
