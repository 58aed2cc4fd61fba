use Rattle.std.proofs.Common.{refl}
use Rattle.zb_audit_lockout.proofs.Starting.{new_stands}
use Rattle.zb_audit_lockout.proofs.lockout.Lockout.new.Goals as goal

pub returns : goal.returns
returns c =
    λ tools names.
    let reach = c.new-2.ensures in
    let evidence = c.new-3.ensures in
    new_stands tools names _ refl (c.in_ok-new.ensures tools names) reach.found reach.last reach.leads
    reach.held reach.drawn reach.devices reach.keys evidence.forged evidence.sealed
