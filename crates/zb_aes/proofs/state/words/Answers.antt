use Rattle.zb_aes.proofs.Turned.{lanes-built}
use Rattle.zb_aes.proofs.state.words.Goals as goal

pub returns : goal.returns
returns c =
    lanes-built c.args.a c.args.b c.args.c c.args.d c.ranges.a.fits c.ranges.b.fits c.ranges.c.fits c.ranges.d.fits
