use Rattle.std.proofs.Common.{◌++◌, ℕ, List, ap, ◌∙◌}
use Rattle.zb_base.specs.declared.address.Eui.{Eui}
use Rattle.zb_audit_lockout.specs.Ordered.{is_listed, is_number}
use Rattle.zb_audit_lockout.specs.Reading.{number_in}
use Rattle.zb_audit_lockout.specs.declared.opened.Opening.{Opening}
use Rattle.zb_audit_lockout.proofs.Order.{listed_is}
use Rattle.zb_audit_lockout.proofs.opened.Opened.list.Goals as goal

pub returns : goal.returns
returns c = λ n d.
    ap (is_listed n d)
    (c.in_ok-append_all.ensures ∙ ap (λ (l : List Opening). l ++ c.self.inside.order.keys) c.new-list.ensures.items)
    ∙ (listed_is c.self.inside.numbers c.self.inside.order c.self.invariant n d
    ∙ ap (λ (es : List (Eui × ℕ)). is_number n (number_in es d)) c.self.view_is)
