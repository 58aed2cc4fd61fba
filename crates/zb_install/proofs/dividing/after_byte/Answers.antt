use Rattle.zb_install.proofs.Steps.{byte_taken}
use Rattle.zb_install.proofs.dividing.after_byte.Goals as goal

pub returns : goal.returns
returns c = λ n rest. byte_taken c.args.register c.args.byte n rest c.ranges.register.fits c.ranges.byte.fits
