use Rattle.std.proofs.Common.{◌++◌, List, ap, ◌∙◌}
use Rattle.zb_audit_lockout.specs.declared.opened.Opening.{Opening}
use Rattle.zb_audit_lockout.proofs.Unmarking.{nothing_in, withdraws}
use Rattle.zb_audit_lockout.proofs.spread.Spread.forget_holders.Goals as goal

pub returns : goal.returns
returns c = λ known.
    withdraws c.args.windows.now c.args.back.now c.args.self.now c.forget_all.new.self c.args.keys.now
    c.new-opened.result c.forget_all.new.opened c.append_all.new.list.items
    (nothing_in c.new-opened.result c.new-opened.ensures.empty)
    (c.in_ok-append_all.ensures
    ∙ ap (λ (l : List Opening). l ++ c.forget_all.new.opened.keys) c.new-openings.ensures.items)
    c.in_ok-forget_all.ensures known
