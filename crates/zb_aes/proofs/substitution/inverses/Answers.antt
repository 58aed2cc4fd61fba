use Rattle.zb_aes.proofs.Inverses.{first-ok, first_inverse-is, of_first-ok, of_sum-ok, second-ok, second_inverse-is, sum-ok}
use Rattle.zb_aes.proofs.substitution.inverses.Goals as goal

pub swizzle-scaled : goal.swizzle-scaled
swizzle-scaled c =
    second-ok c.args.pairs _ _ c.fits-pairs c.high_bits-first.ensures c.low_bits-second.ensures

pub swizzle : goal.swizzle
swizzle c =
    first-ok c.args.pairs _ _ c.fits-pairs c.high_bits-first.ensures c.low_bits-second.ensures

pub swizzle-2 : goal.swizzle-2
swizzle-2 c =
    sum-ok c.args.pairs _ _ c.fits-pairs c.high_bits-first.ensures c.low_bits-second.ensures

pub swizzle-3 : goal.swizzle-3
swizzle-3 c =
    of_first-ok c.args.pairs _ _ c.fits-pairs c.high_bits-first.ensures c.low_bits-second.ensures

pub swizzle-4 : goal.swizzle-4
swizzle-4 c =
    of_sum-ok c.args.pairs _ _ c.fits-pairs c.high_bits-first.ensures c.low_bits-second.ensures

pub returns-clause-first : goal.returns-clause-first
returns-clause-first c =
    first_inverse-is c.args.pairs _ _ c.fits-pairs c.high_bits-first.ensures c.low_bits-second.ensures

pub returns-clause-second : goal.returns-clause-second
returns-clause-second c =
    second_inverse-is c.args.pairs _ _ c.fits-pairs c.high_bits-first.ensures c.low_bits-second.ensures
