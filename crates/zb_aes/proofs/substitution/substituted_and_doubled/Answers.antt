use Rattle.zb_aes.proofs.Pairs.{doubled-is, first-places, second-places, substituted-is}
use Rattle.zb_aes.proofs.Lanes.{swizzle-ok}
use Rattle.zb_aes.specs.Pairs.{first_inverse, second_inverse}
use Rattle.zb_aes.proofs.substitution.substituted_and_doubled.Goals as goal

pub swizzle : goal.swizzle
swizzle c = swizzle-ok first_inverse c.args.pairs _ c.fits-pairs c.inverses.ensures.first first-places

pub swizzle-2 : goal.swizzle-2
swizzle-2 c = swizzle-ok second_inverse c.args.pairs _ c.fits-pairs c.inverses.ensures.second second-places

pub swizzle-3 : goal.swizzle-3
swizzle-3 c = swizzle-ok first_inverse c.args.pairs _ c.fits-pairs c.inverses.ensures.first first-places

pub swizzle-4 : goal.swizzle-4
swizzle-4 c = swizzle-ok second_inverse c.args.pairs _ c.fits-pairs c.inverses.ensures.second second-places

pub returns-clause-substituted : goal.returns-clause-substituted
returns-clause-substituted c =
    substituted-is c.args.pairs _ _ c.fits-pairs c.inverses.ensures.first c.inverses.ensures.second

pub returns-clause-doubled : goal.returns-clause-doubled
returns-clause-doubled c =
    doubled-is c.args.pairs _ _ c.fits-pairs c.inverses.ensures.first c.inverses.ensures.second
