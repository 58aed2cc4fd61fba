use Rattle.std.proofs.Common.{bit_and}
use Rattle.std.proofs.lemmas.Simd.{zip2_splat}
use Rattle.zb_aes.proofs.substitution.low_bits.Goals as goal

pub returns : goal.returns
returns c = zip2_splat bit_and c.args.bytes 16 15 c.fits-bytes.0
