use Rattle.std.proofs.Common.{Result}
use Rattle.zb_base.specs.declared.fault.OrMemory.{OrMemory}
use Rattle.zb_capture.specs.declared.fault.CaptureError.{CaptureError}
use Rattle.zb_capture.specs.Readings.{AreRead}
use Rattle.zb_capture.proofs.ReadLaws.{has_room, one_taken, not_taken, passed_on}
use Rattle.zb_capture.proofs.reader.CaptureReader.read.Goals as goal

pub add-requires-clause-room : goal.add-requires-clause-room
add-requires-clause-room g c =
    has_room c.args.self.now c.loop-piece.self c.args.text.now c.loop-piece.yielded
    c.loop-piece.piece-iterator.rest.items c.next.new.self.rest.items
    c.in-Some.piece 4294967295 c.loop-piece.invariant c.in-Some.ensures.steps.0 c.requires.room

pub loop-piece-preserved : goal.loop-piece-preserved
loop-piece-preserved g c =
    one_taken c.args.self.now c.loop-piece.self c.add.new.self c.args.text.now c.loop-piece.yielded
    c.loop-piece.piece-iterator.rest.items
    c.next.new.self.rest.items c.in-Some.piece c.loop-piece.invariant c.in-Some.ensures.steps.0
    c.in_ok-add.ensures.exact c.in_ok-add.ensures.count

pub returns-in_err-add-clause-exact : goal.returns-in_err-add-clause-exact
returns-in_err-add-clause-exact g c =
    let P : Result (Unit {0}) (OrMemory CaptureError) → Type 0 = λ r. AreRead r c.args.self.now c.add.new.self
    c.args.text.now in
    passed_on c.from_residual-in_err-add.result c.in_err-add.field-0.0 P c.from_residual-in_err-add.ensures.1
    (not_taken c.args.self.now c.loop-piece.self c.add.new.self c.args.text.now c.loop-piece.yielded
    c.loop-piece.piece-iterator.rest.items
    c.next.new.self.rest.items c.in-Some.piece c.in_err-add.field-0.0 c.loop-piece.invariant c.in-Some.ensures.steps.0
    c.in_err-add.ensures.exact)
