use Rattle.zb_aes.proofs.Turned.{of_lanes-built}
use Rattle.zb_aes.proofs.state.State.of_lanes.Goals as goal

pub returns : goal.returns
returns c = of_lanes-built c.args.lanes c.fits-lanes
