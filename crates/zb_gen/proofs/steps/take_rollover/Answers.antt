use Rattle.std.proofs.Common.{◌-◌, ◌++◌, [], ◌∷◌, Ok, Err, codes}
use Rattle.zb_gen.proofs.Folds.{handed, stops, then_comes, timers}
use Rattle.zb_gen.proofs.steps.take_rollover.Goals as goal

pub returns-in_err-take_timers-clause-lines : goal.returns-in_err-take_timers-clause-lines
returns-in_err-take_timers-clause-lines c =
    handed c.from_residual-in_err-take_timers.result c.in_err-take_timers.field-0.0 c.take_timers.new.maker _
    c.from_residual-in_err-take_timers.ensures.1
    (then_comes (Err c.in_err-take_timers.field-0.0) c.args.maker.now c.take_roll_line.new.maker
    c.take_timers.new.maker (codes "remove d1 via c" ∷ codes "roll" ∷ [])
    (timers (c.args.n - 1) ++ codes "switch" ∷ [])
    (then_comes (Ok tt) c.args.maker.now c.take_removal.new.maker c.take_roll_line.new.maker
    (codes "remove d1 via c" ∷ []) (codes "roll" ∷ []) c.in_ok-take_removal.ensures.lines
    c.in_ok-take_roll_line.ensures.lines)
    (stops c.in_err-take_timers.field-0.0 c.take_roll_line.new.maker c.take_timers.new.maker c.take_timers.new.maker
    (timers (c.args.n - 1)) (codes "switch" ∷ []) c.in_err-take_timers.ensures.lines))

pub returns-clause-lines : goal.returns-clause-lines
returns-clause-lines c =
    then_comes c.take_switch_line.result c.args.maker.now c.take_roll_line.new.maker c.take_switch_line.new.maker
    (codes "remove d1 via c" ∷ codes "roll" ∷ []) (timers (c.args.n - 1) ++ codes "switch" ∷ [])
    (then_comes (Ok tt) c.args.maker.now c.take_removal.new.maker c.take_roll_line.new.maker
    (codes "remove d1 via c" ∷ []) (codes "roll" ∷ []) c.in_ok-take_removal.ensures.lines
    c.in_ok-take_roll_line.ensures.lines)
    (then_comes c.take_switch_line.result c.take_roll_line.new.maker c.take_timers.new.maker
    c.take_switch_line.new.maker (timers (c.args.n - 1)) (codes "switch" ∷ []) c.in_ok-take_timers.ensures.lines
    c.take_switch_line.ensures.lines)
