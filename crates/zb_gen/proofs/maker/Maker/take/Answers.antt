use Rattle.std.proofs.Common.{Err, Ok, sym}
use Rattle.zb_sched_line.specs.Views.{sentence_of}
use Rattle.zb_gen.proofs.Folds.{said_so}
use Rattle.zb_gen.proofs.maker.Maker.take.Goals as goal

pub returns-in-Err-Fault-clause-line : goal.returns-in-Err-Fault-clause-line
returns-in-Err-Fault-clause-line c =
    said_so c.args.self.now (record { line = c.self.inside.line; seen = c.self.inside.draft })
    (sentence_of c.args.line) (Err c.in-Err-Fault.cause) (sym c.self.view_is)
    (rw c.in-Err-Fault.field-0-is at c.in-Err-Fault.ensures.exact)

pub returns-clause-line : goal.returns-clause-line
returns-clause-line c =
    said_so c.args.self.now (record { line = c.self.inside.line; seen = c.self.inside.draft })
    (sentence_of c.args.line) (Ok c.take_line.new.self) (sym c.self.view_is) c.in-Ok.ensures.exact
