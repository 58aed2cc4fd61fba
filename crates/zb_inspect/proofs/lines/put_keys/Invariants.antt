use Rattle.std.proofs.Common.{◌≡◌, ◌+◌, ◌++◌, drop}
use Rattle.zb_inspect.specs.Report.{keys_text}
use Rattle.zb_inspect.proofs.lines.put_keys.Given as goal

abbrev pub invariant-loop-known : goal.invariant-loop-known
invariant-loop-known l =
    (l.out.items ++ keys_text l.number (drop l.known-index l.keys) ≡ l.initial.out.items ++ keys_text 1 l.keys)
    × (l.number ≡ 1 + l.known-index)
