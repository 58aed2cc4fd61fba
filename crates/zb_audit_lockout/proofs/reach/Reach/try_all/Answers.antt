use Rattle.std.proofs.lemmas.List.{drop_all}
use Rattle.zb_audit_lockout.proofs.Checking.{all_entered, nothing_entered, one_entered, one_fails, settled_more}
use Rattle.zb_audit_lockout.proofs.reach.Reach.try_all.Goals as goal

pub loop-opening-init : goal.loop-opening-init
loop-opening-init c = nothing_entered c.args.self.now c.args.openings.now

pub loop-opening-preserved : goal.loop-opening-preserved
loop-opening-preserved c =
    one_entered c.args.self.now c.loop-opening.self c.try_one.new.self c.args.openings.now c.loop-opening.opening-index
    _ c.in_ok-stays.stays c.loop-opening-test.true c.loop-opening.invariant c.in_ok-stays.ensures.settles
    c.in_ok-stays.ensures.tried c.if-not-stays.false

pub returns-then-not-stays-clause-entered : goal.returns-then-not-stays-clause-entered
returns-then-not-stays-clause-entered c =
    one_fails c.args.self.now c.loop-opening.self c.try_one.new.self c.args.openings.now c.loop-opening.opening-index _
    c.in_ok-stays.stays c.loop-opening-test.true c.loop-opening.invariant c.in_ok-stays.ensures.tried
    c.if-not-stays.true

pub returns-then-not-stays-clause-settles : goal.returns-then-not-stays-clause-settles
returns-then-not-stays-clause-settles c =
    settled_more c.args.self.now c.loop-opening.self c.try_one.new.self c.loop-opening.invariant.settles
    c.in_ok-stays.ensures.settles

pub returns-clause-entered : goal.returns-clause-entered
returns-clause-entered c =
    all_entered c.args.self.now c.loop-opening.self c.args.openings.now c.loop-opening.opening-index
    c.loop-opening.invariant (drop_all c.loop-opening.opening-index c.args.openings.now c.loop-opening-test.false)
