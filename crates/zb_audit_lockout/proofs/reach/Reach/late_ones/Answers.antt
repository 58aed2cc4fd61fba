use Rattle.std.proofs.Common.{inr}
use Rattle.std.proofs.lemmas.List.{drop_all}
use Rattle.zb_audit_lockout.proofs.Checking.{all_sifted, one_sifted}
use Rattle.zb_audit_lockout.proofs.reach.Reach.late_ones.Goals as goal

pub loop-key-init : goal.loop-key-init
loop-key-init c = λ k there. inr (inr there)

pub loop-key-preserved : goal.loop-key-preserved
loop-key-preserved c =
    one_sifted c.args.self.now c.args.keys.now c.loop-key.late.items c.sift.new.late.items c.loop-key.key-index _
    c.loop-key-test.true c.loop-key.invariant c.in_ok-sift.ensures.kept c.in_ok-sift.ensures.sifted

pub returns : goal.returns
returns c =
    all_sifted c.args.self.now c.args.keys.now c.loop-key.late.items c.loop-key.key-index
    (drop_all c.loop-key.key-index c.args.keys.now c.loop-key-test.false) c.loop-key.invariant
