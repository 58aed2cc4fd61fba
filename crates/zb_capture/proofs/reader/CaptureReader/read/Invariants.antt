use Rattle.zb_capture.proofs.ReadLaws.{IsUnderWay}
use Rattle.zb_capture.proofs.reader.CaptureReader.read.Given as goal

abbrev pub invariant-loop-piece : goal.invariant-loop-piece
invariant-loop-piece g l = IsUnderWay l.fn.self l.self l.text l.yielded l.piece-iterator.rest.items
