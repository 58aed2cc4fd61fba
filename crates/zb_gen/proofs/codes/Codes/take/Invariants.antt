use Rattle.std.proofs.Common.{◌≡◌, ◌*◌, length}
use Rattle.zb_gen.specs.Codes.{AreKeysOf}
use Rattle.zb_gen.proofs.codes.Codes.take.Given as goal

abbrev pub invariant-loop-i : goal.invariant-loop-i
invariant-loop-i l = record {
  keys : AreKeysOf l.start l.keys.items;
  long : l.i ≡ length l.keys.items;
  start : l.words.start ≡ l.start;
  place : l.words.place ≡ 4 * l.i;
}
