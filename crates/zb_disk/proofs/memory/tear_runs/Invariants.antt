use Rattle.std.proofs.Common.{◌≡◌, ◌≤◌, ◌++◌, take, drop}
use Rattle.zb_disk.specs.Memory.{tear}
use Rattle.zb_disk.proofs.memory.tear_runs.Given as goal

abbrev pub invariant-loop-i : goal.invariant-loop-i
invariant-loop-i l = record {
  rest : drop l.i l.bytes ≡ drop l.i l.fn.bytes;
  so_far : take l.i l.bytes ++ tear l.fn.pattern l.phase (drop l.i l.fn.bytes) (drop l.i l.fn.written)
      ≡ tear l.fn.pattern 0 l.fn.bytes l.fn.written;
  phase : l.phase ≤ l.i;
}
