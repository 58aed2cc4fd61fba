use Rattle.std.proofs.Common.{◌∙◌, sym}
use Rattle.zb_trace_watch.proofs.Owners.{added_bytes}
use Rattle.zb_trace_watch.proofs.Settling.{settled_by_known, settled_by_unknown}
use Rattle.zb_trace_watch.proofs.exposure.Exposure.carry_one.Goals as goal

pub returns-in_ok-learn_one-clause-carried : goal.returns-in_ok-learn_one-clause-carried
returns-in_ok-learn_one-clause-carried c = added_bytes c.add.new.self c.args.self.now.carried c.args.base c.args.key
    c.in_ok-add.ensures

pub returns-else-has-clause-carried : goal.returns-else-has-clause-carried
returns-else-has-clause-carried c = added_bytes c.add.new.self c.args.self.now.carried c.args.base c.args.key
    c.in_ok-add.ensures

pub returns-in_ok-learn_one-clause-settled : goal.returns-in_ok-learn_one-clause-settled
returns-in_ok-learn_one-clause-settled c =
    settled_by_known c.args.self.now c.add.new.self c.args.base c.args.key
    (added_bytes c.add.new.self c.args.self.now.carried c.args.base c.args.key c.in_ok-add.ensures)
    (sym c.has.ensures ∙ c.if-has.true) c.learn_one.new.known c.in_ok-learn_one.ensures

pub returns-else-has-clause-settled : goal.returns-else-has-clause-settled
returns-else-has-clause-settled c =
    settled_by_unknown c.args.self.now c.add.new.self c.args.base c.args.key
    (added_bytes c.add.new.self c.args.self.now.carried c.args.base c.args.key c.in_ok-add.ensures)
    (sym c.has.ensures ∙ c.if-has.false)
