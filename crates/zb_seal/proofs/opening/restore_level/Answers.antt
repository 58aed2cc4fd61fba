use Rattle.zb_seal.specs.Wire.{real_level}
use Rattle.zb_seal.proofs.Places.{at_place_set}
use Rattle.zb_seal.proofs.opening.restore_level.Goals as goal

pub returns : goal.returns
returns c = rw c.real_level.ensures (at_place_set real_level c.args.place c.args.bytes.now)
