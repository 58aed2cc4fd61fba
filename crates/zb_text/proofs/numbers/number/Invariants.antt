use Rattle.std.proofs.Common.{◌≡◌, ◌≤◌, drop}
use Rattle.zb_text.specs.Numbers.{digits_after}
use Rattle.zb_text.proofs.numbers.number.Given as goal

abbrev pub invariant-loop-byte : goal.invariant-loop-byte
invariant-loop-byte l = (digits_after l.number (drop l.byte-index l.word) ≡ digits_after 0 l.word)
    × (l.number ≤ l.limit)
