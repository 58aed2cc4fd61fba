use Rattle.zb_cursor.proofs.Shorts.{SoFar}
use Rattle.zb_cursor.proofs.reader.Reader.shorts.Given as goal

abbrev pub invariant-loop : goal.invariant-loop
invariant-loop g l = SoFar l.initial.self.cut l.count l.counter l.initial.self.rest.now l.self.cut l.self.rest.now
    l.shorts.items
