-- One of the nodes is the centre, and the first one is that of the model.
use Rattle.std.proofs.Common.{◌≡◌, None, Some, find, sym}
use Rattle.zb_sched.specs.Reading.{is_centre}
use Rattle.zb_sched.specs.declared.schedule.Node.{Node}
use Rattle.zb_player_start.proofs.Settings.{centre_is, some_centre}
use Rattle.zb_player_start.proofs.config.centre_of.Goals as goal

pub returns-in-Some : goal.returns-in-Some
returns-in-Some c = λ p is.
    let one : find (λ (d : Node). is_centre d.peer.role) c.args.declared.now ≡ Some c.in-Some.node.now =
    sym (rw c.in-Some.is at c.first_centre.ensures) in
    centre_is p c.args.declared.now is c.in-Some.node.now one

pub returns-in-None : goal.returns-in-None
returns-in-None c = λ p is.
    let none : find (λ (d : Node). is_centre d.peer.role) c.args.declared.now ≡ None =
    sym (rw c.in-None.is at c.first_centre.ensures) in
    absurd (some_centre p c.args.declared.now is none)
