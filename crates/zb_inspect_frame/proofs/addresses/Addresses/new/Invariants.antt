use Rattle.std.proofs.Common.{◌≡◌, ℕ, drop}
use Rattle.std.specs.Option.{option_or}
use Rattle.zb_inspect_frame.specs.Known.{known_of}
use Rattle.zb_inspect_frame.specs.Shows.{addr_of}
use Rattle.zb_inspect_frame.proofs.addresses.Addresses.new.Given as goal

abbrev pub invariant-loop-addr : goal.invariant-loop-addr
invariant-loop-addr l = (q : ℕ)
    → option_or (known_of l.by_short q) (addr_of (record { 0 = q }) (drop l.addr-index l.list))
    ≡ addr_of (record { 0 = q }) l.list
