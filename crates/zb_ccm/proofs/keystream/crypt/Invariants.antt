use Rattle.zb_ccm.proofs.Streams.{IsCrypted}
use Rattle.zb_ccm.proofs.keystream.crypt.Given as goal

abbrev pub invariant-loop-i : goal.invariant-loop-i
invariant-loop-i l = IsCrypted l.cipher l.nonce l.fn.text l.text l.i
