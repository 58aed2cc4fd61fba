use Rattle.std.proofs.Common.{◌/◌, bit_and}
use Rattle.zb_aes.proofs.Lanes.{swizzle-ok}
use Rattle.zb_aes.proofs.Pairs.{high-places, low-places, pairs-is}
use Rattle.zb_aes.proofs.substitution.pairs.Goals as goal

pub swizzle : goal.swizzle
swizzle c = swizzle-ok (λ b. bit_and b 15) c.args.bytes _ c.fits-bytes c.low_bits.ensures low-places

pub swizzle-2 : goal.swizzle-2
swizzle-2 c = swizzle-ok (λ b. b / 16) c.args.bytes _ c.fits-bytes c.high_bits.ensures high-places

pub returns : goal.returns
returns c = pairs-is c.args.bytes _ _ c.fits-bytes c.low_bits.ensures c.high_bits.ensures
