use Rattle.std.proofs.Common.{◌∙◌}
use Rattle.zb_gen.proofs.Wholes.{again, handed_on, stopped, through, valid}
use Rattle.zb_gen.proofs.made.make.Goals as goal

pub returns-in_err-take_made-clause-exact : goal.returns-in_err-take_made-clause-exact
returns-in_err-take_made-clause-exact c =
    handed_on c.from_residual-in_err-take_made.result c.in_err-take_made.field-0.0 _
    c.from_residual-in_err-take_made.ensures.1
    (stopped c.args.start c.args.n c.in_err-take_made.field-0.0 c.reserve.new.self c.take_made.new.maker c.requires.0
    c.requires.1 (c.in_ok-reserve.ensures ∙ c.new-maker.ensures) c.in_err-take_made.ensures)

pub returns-clause-exact : goal.returns-clause-exact
returns-clause-exact c =
    through c.args.start c.args.n c.finish.result c.reserve.new.self c.take_made.new.maker c.requires.0 c.requires.1
    (c.in_ok-reserve.ensures ∙ c.new-maker.ensures) c.in_ok-take_made.ensures c.finish.ensures

pub returns-clause-valid : goal.returns-clause-valid
returns-clause-valid c = valid c.args.start c.args.n c.finish.result c.requires.0 c.requires.1 (returns-clause-exact c)

pub returns-clause-again : goal.returns-clause-again
returns-clause-again c = again c.args.start c.args.n c.finish.result c.requires.0 c.requires.1 (returns-clause-exact c)
