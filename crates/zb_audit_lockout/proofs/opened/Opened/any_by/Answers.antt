use Rattle.std.proofs.Common.{ℕ, List, false, refl, ap, sym, ◌∙◌}
use Rattle.std.specs.Map.{keys_of}
use Rattle.zb_base.specs.declared.address.Eui.{Eui}
use Rattle.zb_audit_lockout.specs.Reading.{some_by}
use Rattle.zb_audit_lockout.proofs.Order.{least_decides, no_keys, none_at_all}
use Rattle.zb_trace_watch.proofs.Truth.{not_both}
use Rattle.zb_audit_lockout.proofs.opened.Opened.any_by.Goals as goal

pub returns-in-Some : goal.returns-in-Some
returns-in-Some c =
    least_decides c.self.inside.numbers c.self.inside.order c.in-Some.opening.now c.args.number c.self.invariant
    c.in-Some.ensures.member (λ q there. c.in-Some.ensures.least q there)
    ∙ ap (λ (es : List (Eui × ℕ)). some_by es c.args.number (keys_of es)) c.self.view_is

pub returns-in-None : goal.returns-in-None
returns-in-None c =
    sym (none_at_all c.self.inside.numbers c.self.inside.order c.args.number c.self.invariant
    (no_keys c.self.inside.order.keys (λ some. not_both false (c.in-None.ensures.variant.1 some) refl)))
    ∙ ap (λ (es : List (Eui × ℕ)). some_by es c.args.number (keys_of es)) c.self.view_is
