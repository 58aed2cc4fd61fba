use Rattle.std.specs.Str.Lines.{lines}
use Rattle.zb_capture.proofs.LineLaws.{leads}
use Rattle.zb_input.proofs.PartLaws.{first_bad, second_bad}
use Rattle.zb_input.proofs.capture.add_both.Goals as goal

pub returns-in_err-add-clause-exact : goal.returns-in_err-add-clause-exact
returns-in_err-add-clause-exact c =
    first_bad c.from_residual.result c.in_err-add.field-0.0 c.args.reader.now c.add.new.self c.add.new.self
    c.args.front.now c.args.back.now
    c.from_residual.ensures.1 c.in_err-add.ensures.exact

pub returns-in_err-add-2-clause-exact : goal.returns-in_err-add-2-clause-exact
returns-in_err-add-2-clause-exact c =
    second_bad c.from_residual-in_err-add-2.result c.in_err-add-2.field-0.0 c.args.reader.now c.add.new.self
    c.add-2.new.self c.add-2.new.self
    c.args.front.now c.args.back.now c.from_residual-in_err-add-2.ensures.1 c.in_ok-add.ensures.exact
    c.in_err-add-2.ensures.exact

pub returns-clause-exact : goal.returns-clause-exact
returns-clause-exact c =
    leads c.args.reader.now c.add.new.self c.add-2.new.self (lines c.args.front.now) (lines c.args.back.now)
    c.in_ok-add.ensures.exact c.in_ok-add-2.ensures.exact
