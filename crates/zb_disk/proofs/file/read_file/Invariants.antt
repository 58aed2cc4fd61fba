use Rattle.std.proofs.Common.{◌≤◌, length}
use Rattle.zb_disk.proofs.file.read_file.Given as goal

abbrev pub invariant-loop : goal.invariant-loop
invariant-loop g l = l.filled ≤ length l.buf
