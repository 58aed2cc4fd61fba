use Rattle.std.proofs.Common.{length}
use Rattle.zb_keys.specs.Tables.{state_of, IsSound}
use Rattle.zb_record.specs.Redoing.{redone}
use Rattle.zb_record.proofs.Redone.{Left}
use Rattle.zb_keys.proofs.contents.Contents.redo.Given as goal

abbrev pub invariant-loop-count : goal.invariant-loop-count
invariant-loop-count l = Left l.version l.reader.rest.now (state_of l.self)
    (redone l.version l.initial.reader.rest.now (state_of l.initial.self)) × IsSound l.self

abbrev pub decreases-loop-count : goal.decreases-loop-count
decreases-loop-count l = length l.reader.rest.now
