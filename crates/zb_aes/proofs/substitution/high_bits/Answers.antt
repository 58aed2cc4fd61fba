use Rattle.std.proofs.Common.{◌/◌, ◌^◌}
use Rattle.std.proofs.lemmas.Simd.{zip2_splat}
use Rattle.zb_aes.proofs.substitution.high_bits.Goals as goal

pub returns : goal.returns
returns c = zip2_splat (λ a b. a / 2 ^ b) c.args.bytes 16 4 c.fits-bytes.0
