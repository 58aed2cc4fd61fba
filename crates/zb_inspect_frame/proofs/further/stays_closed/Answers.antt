use Rattle.std.proofs.Common.{ap}
use Rattle.zb_inspect_frame.specs.declared.layer.Finding.{Finding}
use Rattle.zb_inspect_frame.specs.declared.shown.Shown.{Shown}
use Rattle.zb_inspect_frame.proofs.MoreKeys.{still_shown}
use Rattle.zb_inspect_frame.proofs.further.stays_closed.Goals as goal

pub returns-clause-tried : goal.returns-clause-tried
returns-clause-tried c =
    let with : Finding → Shown = λ n. record { nwk = n; below = c.args.seen.now.below } in
    ap with c.try_further.ensures

pub returns-clause-closed : goal.returns-clause-closed
returns-clause-closed c =
    still_shown c.args.known c.args.keys.now c.args.seen.now c.try_further.new.finding c.is_closed.result
    c.requires.within c.try_further.ensures c.is_closed.ensures
