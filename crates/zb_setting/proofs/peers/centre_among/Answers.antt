-- One of the nodes is counted as the centre, so one is found.
use Rattle.std.proofs.Common.{◌≡◌, None, find, sym, arith}
use Rattle.zb_base.specs.declared.node.Peer.{Peer}
use Rattle.zb_model.specs.State.{is_centre}
use Rattle.zb_setting.specs.Settings.{known}
use Rattle.zb_setting.proofs.Looking.{no_centre}
use Rattle.zb_setting.proofs.peers.centre_among.Goals as goal

pub returns-in-None : goal.returns-in-None
returns-in-None c =
    let none : find (λ (p : Peer). is_centre (known p).role) c.args.peers.now ≡ None =
    sym (rw c.in-None.is at c.first_centre.ensures) in
    absurd (omega (arith, c.requires, no_centre c.args.peers.now none))
