use Rattle.zb_aes.proofs.Pairs.{first-places, second-places, substituted-is}
use Rattle.zb_aes.proofs.Lanes.{swizzle-ok}
use Rattle.zb_aes.specs.Pairs.{first_inverse, second_inverse}
use Rattle.zb_aes.proofs.substitution.substituted.Goals as goal

pub swizzle : goal.swizzle
swizzle c = swizzle-ok first_inverse c.args.pairs _ c.fits-pairs c.inverses.ensures.first first-places

pub swizzle-2 : goal.swizzle-2
swizzle-2 c = swizzle-ok second_inverse c.args.pairs _ c.fits-pairs c.inverses.ensures.second second-places

pub returns : goal.returns
returns c = substituted-is c.args.pairs _ _ c.fits-pairs c.inverses.ensures.first c.inverses.ensures.second
