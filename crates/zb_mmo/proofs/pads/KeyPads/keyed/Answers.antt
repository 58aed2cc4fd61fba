use Rattle.zb_mmo.proofs.KeyedHashes.{keyed_built}
use Rattle.zb_mmo.proofs.pads.KeyPads.keyed.Goals as goal

pub returns : goal.returns
returns c =
    keyed_built c.self.inside.key.0 c.args.self.now c.args.bytes.now _ _ _ _ c.self.invariant.2 c.self.view_is
    c.self.invariant.0 c.self.invariant.1 c.finished.ensures c.finished-2.ensures
