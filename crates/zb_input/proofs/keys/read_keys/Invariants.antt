use Rattle.std.proofs.Common.{◌≡◌, ◌≤◌, ◌++◌, drop, map, string_bytes, vec_len}
use Rattle.zb_input.specs.KeyWords.{keys_in}
use Rattle.zb_input.proofs.keys.read_keys.Given as goal

abbrev pub invariant-loop-word : goal.invariant-loop-word
invariant-loop-word l = record {
  so_far : l.keys.items ++ keys_in (map string_bytes (drop l.word-index l.words)) ≡ keys_in (map string_bytes l.words);
  few : vec_len l.keys ≤ l.word-index;
}
