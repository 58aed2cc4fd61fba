use Rattle.std.proofs.Common.{◌≡◌, ◌++◌}
use Rattle.zb_capture.proofs.addresses.Addresses.add_all.Given as goal

abbrev pub invariant-loop-addr : goal.invariant-loop-addr
invariant-loop-addr l = l.self ≡ l.fn.self ++ l.yielded
