use Rattle.std.proofs.Common.{◌∙◌, sym}
use Rattle.zb_trace_watch.proofs.Owners.{added_number}
use Rattle.zb_trace_watch.proofs.Settling.{settled_by_removed, settled_by_other}
use Rattle.zb_trace_watch.proofs.exposure.Exposure.hold_one.Goals as goal

pub returns-in_ok-learn_one-clause-ever : goal.returns-in_ok-learn_one-clause-ever
returns-in_ok-learn_one-clause-ever c = added_number c.add.new.self c.args.self.now.ever c.args.device c.args.key
    c.in_ok-add.ensures

pub returns-else-contains-clause-ever : goal.returns-else-contains-clause-ever
returns-else-contains-clause-ever c = added_number c.add.new.self c.args.self.now.ever c.args.device c.args.key
    c.in_ok-add.ensures

pub returns-in_ok-learn_one-clause-settled : goal.returns-in_ok-learn_one-clause-settled
returns-in_ok-learn_one-clause-settled c =
    settled_by_removed c.args.self.now c.add.new.self c.args.device.0 c.args.key
    (added_number c.add.new.self c.args.self.now.ever c.args.device c.args.key c.in_ok-add.ensures)
    (sym c.contains.ensures ∙ c.if-contains.true) c.learn_one.new.known c.in_ok-learn_one.ensures

pub returns-else-contains-clause-settled : goal.returns-else-contains-clause-settled
returns-else-contains-clause-settled c =
    settled_by_other c.args.self.now c.add.new.self c.args.device.0 c.args.key
    (added_number c.add.new.self c.args.self.now.ever c.args.device c.args.key c.in_ok-add.ensures)
    (sym c.contains.ensures ∙ c.if-contains.false)
