use Rattle.zb_audit_lockout.proofs.before.Before.learn.Goals as goal

pub returns : goal.returns
returns c =
    let it = c.in_ok-take_in.ensures in
    record { settled = it.settled; ever = it.ever; carried = it.carried; removed = it.removed; live = it.live }
