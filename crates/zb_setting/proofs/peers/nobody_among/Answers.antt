-- A node that was found as nobody would pass the test, and none passes it.
use Rattle.std.proofs.Common.{◌≡◌, true, sym}
use Rattle.std.specs.Prelude.{nat_eq}
use Rattle.zb_base.specs.declared.node.Peer.{Peer}
use Rattle.zb_model.specs.Data.{nobody}
use Rattle.zb_setting.specs.Settings.{known}
use Rattle.zb_setting.proofs.Looking.{found_passes}
use Rattle.zb_setting.proofs.peers.nobody_among.Goals as goal

pub returns-in-Some : goal.returns-in-Some
returns-in-Some c =
    let passes : nat_eq (known c.in-Some.peer.now).eui nobody ≡ true =
    found_passes (λ (p : Peer). nat_eq (known p).eui nobody) c.args.peers.now c.in-Some.peer.now
    (sym (rw c.in-Some.is at c.first_nobody.ensures)) in
    absurd (cc)
