use Rattle.zb_armed_host.specs.Arms.{armed_of}
use Rattle.zb_model.specs.Data as model
use Rattle.zb_player_node.proofs.Machines.{given_by}
use Rattle.zb_player_node.proofs.machine.Machine.handle.Goals as goal

pub returns-in-Centre-clause-given : goal.returns-in-Centre-clause-given
returns-in-Centre-clause-given c = rw c.in-Centre.is
    (given_by _ model.Centre (armed_of c.args.arms.now) c.in-Centre.host c.run.new.host c.args.disk.now c.run.new.disk
    c.args.event.now c.run.new.plan c.run.result c.run.ensures.planned c.run.ensures.after c.run.ensures.withheld
    c.run.ensures.handled c.run.ensures.fallen)

pub returns-in-Router-clause-given : goal.returns-in-Router-clause-given
returns-in-Router-clause-given c = rw c.in-Router.is
    (given_by _ model.Router (armed_of c.args.arms.now) c.in-Router.host c.run-in-Router.new.host c.args.disk.now
    c.run-in-Router.new.disk c.args.event.now c.run-in-Router.new.plan c.run-in-Router.result
    c.run-in-Router.ensures.planned c.run-in-Router.ensures.after c.run-in-Router.ensures.withheld
    c.run-in-Router.ensures.handled c.run-in-Router.ensures.fallen)

pub returns-in-Device-clause-given : goal.returns-in-Device-clause-given
returns-in-Device-clause-given c = rw c.in-Device.is
    (given_by _ model.Device (armed_of c.args.arms.now) c.in-Device.host c.run-in-Device.new.host c.args.disk.now
    c.run-in-Device.new.disk c.args.event.now c.run-in-Device.new.plan c.run-in-Device.result
    c.run-in-Device.ensures.planned c.run-in-Device.ensures.after c.run-in-Device.ensures.withheld
    c.run-in-Device.ensures.handled c.run-in-Device.ensures.fallen)
