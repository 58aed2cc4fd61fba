use Rattle.std.proofs.Common.{ℕ, List, ap, sym, ◌∙◌}
use Rattle.zb_base.specs.declared.address.Eui.{Eui}
use Rattle.zb_audit_lockout.specs.Ordered.{is_number}
use Rattle.zb_audit_lockout.specs.Reading.{number_in}
use Rattle.zb_audit_lockout.proofs.Maps.{first_number, nothing_there}
use Rattle.zb_audit_lockout.proofs.Order.{added, undone}
use Rattle.zb_audit_lockout.proofs.opened.Opened.note.Goals as goal

pub invariant_of-self-in-Err : goal.invariant_of-self-in-Err
invariant_of-self-in-Err c = λ n d.
    undone c.self.inside.numbers c.self.inside.order c.insert.new.self c.remove.new.self c.args.device c.args.number
    c.self.invariant (nothing_there _ (sym c.if-not-contains_key.ensures))
    c.in_ok-insert.ensures.updates.0 c.remove.ensures.updates.0 n d
    ∙ sym (ap (λ (es : List (Eui × ℕ)). is_number n (number_in es d)) c.in-Err.ensures.err)

pub invariant_of-self-in-Ok : goal.invariant_of-self-in-Ok
invariant_of-self-in-Ok c =
    added c.self.inside.numbers c.insert-then-not-contains_key.new.self c.self.inside.order c.insert.new.self
    c.args.device c.args.number c.self.invariant
    (nothing_there _ (sym c.if-not-contains_key.ensures)) c.in_ok-insert.ensures.updates.0 c.in-Ok.ensures.updates.0

pub returns-in-Ok : goal.returns-in-Ok
returns-in-Ok c =
    rw (sym c.self.view_is)
    (first_number c.self.inside.numbers c.insert-then-not-contains_key.new.self c.args.device c.args.number
    (nothing_there _ (sym c.if-not-contains_key.ensures)) c.in-Ok.ensures.updates.0)
