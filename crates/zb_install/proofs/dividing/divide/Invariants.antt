use Rattle.std.proofs.Common.{◌≡◌, ◌<◌, ◌^◌}
use Rattle.zb_install.specs.Division.{remainder}
use Rattle.zb_install.proofs.Division.{left}
use Rattle.zb_install.proofs.dividing.divide.Given as goal

abbrev pub invariant-loop-byte : goal.invariant-loop-byte
invariant-loop-byte l = (remainder l.start l.bytes ≡ left l.bytes l.byte-index l.register) × (l.register < 2 ^ 16)
