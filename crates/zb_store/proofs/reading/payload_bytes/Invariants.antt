use Rattle.std.proofs.Common.{◌≡◌, ◌+◌, ◌-◌, ◌≤◌, ◌++◌, length}
use Rattle.std.specs.List.{concat}
use Rattle.zb_store.specs.Layout.{payloads_of}
use Rattle.zb_store.proofs.reading.payload_bytes.Given as goal

abbrev pub invariant-loop-entry : goal.invariant-loop-entry
invariant-loop-entry l =
    (l.payloads.items ++ concat (payloads_of (32 - l.entry) l.rest) ≡ concat (payloads_of 32 l.fn.entries))
    × (length l.payloads.items + length l.rest ≤ length l.fn.entries)
