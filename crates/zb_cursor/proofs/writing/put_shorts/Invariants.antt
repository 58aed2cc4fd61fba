use Rattle.zb_cursor.proofs.Shorts.{PutSoFar}
use Rattle.zb_cursor.proofs.writing.put_shorts.Given as goal

abbrev pub invariant-loop-address : goal.invariant-loop-address
invariant-loop-address l = PutSoFar l.fn.out.items l.shorts l.address-index l.out.items
