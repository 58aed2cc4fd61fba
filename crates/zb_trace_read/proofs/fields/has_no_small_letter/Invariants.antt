-- What was looked at and the bytes to come make the word.
use Rattle.std.proofs.Common.{◌≡◌, ◌&&◌, drop}
use Rattle.zb_trace_read.specs.Grammar.{lacks_small}
use Rattle.zb_trace_read.proofs.fields.has_no_small_letter.Given as goal

abbrev pub invariant-loop-byte : goal.invariant-loop-byte
invariant-loop-byte l = (l.none && lacks_small (drop l.byte-index l.word)) ≡ lacks_small l.word
