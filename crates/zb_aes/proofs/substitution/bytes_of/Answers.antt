use Rattle.std.proofs.Common.{◌/◌, bit_and}
use Rattle.zb_aes.proofs.Lanes.{swizzle-ok}
use Rattle.zb_aes.proofs.Pairs.{bytes_of-is, high-places, low-places}
use Rattle.zb_aes.proofs.substitution.bytes_of.Goals as goal

pub swizzle : goal.swizzle
swizzle c = swizzle-ok (λ b. bit_and b 15) c.args.pairs _ c.fits-pairs c.low_bits.ensures low-places

pub swizzle-2 : goal.swizzle-2
swizzle-2 c = swizzle-ok (λ b. b / 16) c.args.pairs _ c.fits-pairs c.high_bits.ensures high-places

pub returns : goal.returns
returns c = bytes_of-is c.args.pairs _ _ c.fits-pairs c.low_bits.ensures c.high_bits.ensures
