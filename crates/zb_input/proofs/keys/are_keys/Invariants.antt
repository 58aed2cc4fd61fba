use Rattle.std.proofs.Common.{◌≡◌, drop, map, string_bytes}
use Rattle.zb_input.specs.KeyWords.{all_keys}
use Rattle.zb_input.proofs.keys.are_keys.Given as goal

abbrev pub invariant-loop-word : goal.invariant-loop-word
invariant-loop-word l = all_keys (map string_bytes (drop l.word-index l.words)) ≡ all_keys (map string_bytes l.words)
