use Rattle.zb_install.proofs.Ending.{ends}
use Rattle.zb_install.proofs.check.crc.Goals as goal

pub returns : goal.returns
returns c = ends c.args.bytes.now c.divide.result c.divide.type_inv c.divide.ensures.bits
