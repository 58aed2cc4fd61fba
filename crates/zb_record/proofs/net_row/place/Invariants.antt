use Rattle.zb_record.proofs.SenderLemmas.{Passed}
use Rattle.zb_record.proofs.net_row.place.Given as goal

abbrev pub invariant-loop-i : goal.invariant-loop-i
invariant-loop-i l = Passed l.floors l.sender.0 l.i
