use Rattle.zb_nwk.specs.Reading as nwk_reading
use Rattle.zb_inspect_frame.specs.Shows.{payload_in, given_in}
use Rattle.zb_inspect_frame.proofs.MoreKeys.{below_anew}
use Rattle.zb_inspect_frame.proofs.further.look_further.Goals as goal

-- No Tunnel was known.
pub returns-in-None : goal.returns-in-None
returns-in-None c =
    let r = nwk_reading.frame_of c.args.frame.now.items in
    below_anew (payload_in c.args.nwk.now r) c.args.known c.args.keys.now (given_in c.args.addrs.now r) c.args.seen
    c.try_further.new.finding c.look_inner-inner.result c.requires.within c.try_further.ensures c.requires.before
    c.look_inner-inner.ensures
