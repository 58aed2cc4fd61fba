use Rattle.std.proofs.Common.{◌≡◌, [], drop}
use Rattle.zb_inspect.specs.Rings.{given_from}
use Rattle.zb_inspect.proofs.key_ring.given_ring.Given as goal

abbrev pub invariant-loop-key : goal.invariant-loop-key
invariant-loop-key l = given_from l.ring (drop l.key-index l.keys) ≡ given_from [] l.keys
