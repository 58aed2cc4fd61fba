use Rattle.std.proofs.Common.{ℕ, List, subst}
use Rattle.std.proofs.lemmas.List.{drop_all}
use Rattle.zb_base.specs.declared.address.Eui.{Eui}
use Rattle.zb_base.specs.declared.key.Key.{Key}
use Rattle.zb_audit_lockout.specs.Backing.{is_holder, is_one_of}
use Rattle.zb_audit_lockout.specs.Withdrawing.{Unmarks}
use Rattle.zb_audit_lockout.proofs.Unmarking.{all_unmarked, nothing_unmarked, one_unmarked}
use Rattle.zb_audit_lockout.proofs.spread.Spread.forget_all.Goals as goal

pub loop-key-init : goal.loop-key-init
loop-key-init c =
    nothing_unmarked c.args.windows.now c.args.self.now c.args.opened.now
    (λ (d : ℕ) (key : Key). is_holder c.args.back.now key.0 d) c.args.keys.now

pub loop-key-preserved : goal.loop-key-preserved
loop-key-preserved c =
    one_unmarked c.args.windows.now c.args.self.now c.loop-key.self c.forget_each.new.self c.args.opened.now
    c.loop-key.opened c.forget_each.new.opened (λ (d : ℕ) (key : Key). is_holder c.args.back.now key.0 d)
    c.args.keys.now c.loop-key.key-index _ c.loop-key-test.true c.loop-key.invariant
    (subst (λ (devices : List Eui). Unmarks c.args.windows.now c.loop-key.self c.forget_each.new.self
    c.loop-key.opened c.forget_each.new.opened (is_one_of devices)) c.at.ensures c.in_ok-forget_each.ensures)

pub returns : goal.returns
returns c =
    all_unmarked c.args.windows.now c.args.self.now c.loop-key.self c.args.opened.now c.loop-key.opened
    (λ (d : ℕ) (key : Key). is_holder c.args.back.now key.0 d) c.args.keys.now c.loop-key.key-index
    (drop_all c.loop-key.key-index c.args.keys.now c.loop-key-test.false) c.loop-key.invariant
