use Rattle.std.proofs.Common.{◌≡◌, ◌≤◌, ◌+◌, ◌/◌, [], length}
use Rattle.zb_text.proofs.Pairs.{spelled_from}
use Rattle.zb_text.proofs.hexadecimal.pairs_of.Given as goal

abbrev pub invariant-loop-rest : goal.invariant-loop-rest
invariant-loop-rest g l = record {
  pairs : spelled_from l.found.items l.rest ≡ spelled_from [] l.word;
  room : length l.found.items + length l.rest / 2 ≤ g.row.N;
}

abbrev pub decreases-loop-rest : goal.decreases-loop-rest
decreases-loop-rest g l = length l.rest
