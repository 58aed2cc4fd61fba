-- By the seat of the event's node.
use Rattle.std.proofs.Common.{◌∙◌}
use Rattle.zb_player_events.proofs.ActLemmas.{act_is, names_as}
use Rattle.zb_player_events.proofs.seats.Seats.act_of.Goals as goal

pub returns-in-Say : goal.returns-in-Say
returns-in-Say c = λ known seats names it is. c.say.ensures it.eui.0 ∙ act_is known it _ _ c.in-Say.is is

pub returns-in-Deliver : goal.returns-in-Deliver
returns-in-Deliver c = λ known seats names it is. act_is known it _ _ c.in-Deliver.is is

pub returns-in-Timer : goal.returns-in-Timer
returns-in-Timer c = λ known seats names it is. act_is known it _ _ c.in-Timer.is is

pub returns-in-Knock : goal.returns-in-Knock
returns-in-Knock c = λ known seats names it is. act_is known it _ _ c.in-Knock.is is

pub returns-in-Rejoin : goal.returns-in-Rejoin
returns-in-Rejoin c = λ known seats names it is. act_is known it _ _ c.in-Rejoin.is is

pub returns-in-Child : goal.returns-in-Child
returns-in-Child c = λ known seats names it is. c.child.ensures known seats (names_as known _ _ c.in-Child.is names)
    it.eui.0 ∙ act_is known it _ _ c.in-Child.is is

pub returns-in-Provision : goal.returns-in-Provision
returns-in-Provision c = λ known seats names it is. c.provision.ensures known seats
    (names_as known _ _ c.in-Provision.is names) it.eui.0 ∙ act_is known it _ _ c.in-Provision.is is

pub returns-in-Again : goal.returns-in-Again
returns-in-Again c = λ known seats names it is. c.again.ensures known seats (names_as known _ _ c.in-Again.is names)
    it.eui.0 ∙ act_is known it _ _ c.in-Again.is is

pub returns-in-Roll : goal.returns-in-Roll
returns-in-Roll c = λ known seats names it is. act_is known it _ _ c.in-Roll.is is

pub returns-in-Switch : goal.returns-in-Switch
returns-in-Switch c = λ known seats names it is. act_is known it _ _ c.in-Switch.is is

pub returns-in-Remove : goal.returns-in-Remove
returns-in-Remove c = λ known seats names it is. c.remove.ensures known seats
    (names_as known _ _ c.in-Remove.is names).0 (names_as known _ _ c.in-Remove.is names).1 it.eui.0 ∙ act_is known it
    _ _ c.in-Remove.is is

pub returns-in-Reset : goal.returns-in-Reset
returns-in-Reset c = λ known seats names it is. act_is known it _ _ c.in-Reset.is is

pub returns-in-Boot : goal.returns-in-Boot
returns-in-Boot c = λ known seats names it is. act_is known it _ _ c.in-Boot.is is

pub returns-in-Dump : goal.returns-in-Dump
returns-in-Dump c = λ known seats names it is. act_is known it _ _ c.in-Dump.is is

pub returns-in-Stop : goal.returns-in-Stop
returns-in-Stop c = λ known seats names it is. c.stop.ensures it.eui.0 ∙ act_is known it _ _ c.in-Stop.is is

pub returns-in-Fail : goal.returns-in-Fail
returns-in-Fail c = λ known seats names it is. act_is known it _ _ c.in-Fail.is is

pub returns-in-Ask : goal.returns-in-Ask
returns-in-Ask c = λ known seats names it is. c.ask.ensures known seats (names_as known _ _ c.in-Ask.is names)
    it.eui.0 ∙ act_is known it _ _ c.in-Ask.is is

pub returns-in-Share : goal.returns-in-Share
returns-in-Share c = λ known seats names it is. c.share.ensures known seats (names_as known _ _ c.in-Share.is names).0
    (names_as known _ _ c.in-Share.is names).1 it.eui.0 ∙ act_is known it _ _ c.in-Share.is is

pub returns-in-Tell : goal.returns-in-Tell
returns-in-Tell c = λ known seats names it is. c.tell.ensures known seats (names_as known _ _ c.in-Tell.is names)
    it.eui.0 ∙ act_is known it _ _ c.in-Tell.is is
