use Rattle.zb_seal.specs.Wire.{zero_level}
use Rattle.zb_seal.proofs.Places.{at_place_set}
use Rattle.zb_seal.proofs.sealing.clear_level.Goals as goal

pub returns : goal.returns
returns c = rw c.zero_level.ensures (at_place_set zero_level c.args.place c.args.bytes.now)
