use Rattle.zb_sched_line.specs.Views.{event_of, sentence_of}
use Rattle.zb_sched_line.specs.Said.{Happens}
use Rattle.zb_sched_line.specs.declared.line.Line.TheVariants.{Node, Code, NetKey, Counter, Draw}
use Rattle.zb_sched.proofs.Finished.{kept_by}
use Rattle.zb_sched.proofs.draft.Draft.take_line.Goals as goal

pub returns-in-Node-clause-kept : goal.returns-in-Node-clause-kept
returns-in-Node-clause-kept c =
    rw c.in-Node.is
    (λ fits keeps. kept_by c.take_node.result c.args.self.now c.take_node.new.self
    (sentence_of (Node c.in-Node.peer c.in-Node.out_block c.in-Node.in_block)) fits c.take_node.ensures keeps)

pub returns-in-Code-clause-kept : goal.returns-in-Code-clause-kept
returns-in-Code-clause-kept c =
    rw c.in-Code.is
    (λ fits keeps. kept_by c.take_code.result c.args.self.now c.take_code.new.self
    (sentence_of (Code c.in-Code.name c.in-Code.code)) fits c.take_code.ensures keeps)

pub returns-in-NetKey-clause-kept : goal.returns-in-NetKey-clause-kept
returns-in-NetKey-clause-kept c =
    rw c.in-NetKey.is
    (λ fits keeps. kept_by c.take_netkey.result c.args.self.now c.take_netkey.new.self
    (sentence_of (NetKey c.in-NetKey.name c.in-NetKey.key c.in-NetKey.sequence)) fits c.take_netkey.ensures keeps)

pub returns-in-Counter-clause-kept : goal.returns-in-Counter-clause-kept
returns-in-Counter-clause-kept c =
    rw c.in-Counter.is
    (λ fits keeps. kept_by c.take_counter.result c.args.self.now c.take_counter.new.self
    (sentence_of (Counter c.in-Counter.name c.in-Counter.layer c.in-Counter.limit)) fits c.take_counter.ensures
    keeps)

pub returns-in-Draw-clause-kept : goal.returns-in-Draw-clause-kept
returns-in-Draw-clause-kept c =
    rw c.in-Draw.is
    (λ fits keeps. kept_by c.take_draw.result c.args.self.now c.take_draw.new.self (sentence_of (Draw c.in-Draw.key))
    fits c.take_draw.ensures keeps)

pub returns-in-Event-clause-kept : goal.returns-in-Event-clause-kept
returns-in-Event-clause-kept c =
    rw c.in-Event.is
    (λ fits keeps. kept_by c.take_event.result c.args.self.now c.take_event.new.self
    (Happens (event_of c.in-Event.event)) fits c.take_event.ensures keeps)
