use Rattle.std.proofs.Common.{◌≡◌, ℕ, ◌++◌, ◌∙◌, Ok, Err, ap, subst}
use Rattle.zb_gen.specs.Made.{rollover_lines}
use Rattle.zb_gen.specs.Progress.{after_texts, Comes, events}
use Rattle.zb_gen.specs.Words.{Place}
use Rattle.zb_gen.proofs.Folds.{all_joins, all_late, all_steps, handed, stops, then_comes}
use Rattle.zb_gen.proofs.made.take_events.Goals as goal

pub returns-in_err-take_joins : goal.returns-in_err-take_joins
unfolding events
returns-in_err-take_joins c =
    handed c.from_residual.result c.in_err-take_joins.field-0.0 c.take_joins.new.maker _ c.from_residual.ensures.1
    (stops c.in_err-take_joins.field-0.0 c.args.maker.now c.take_joins.new.maker c.take_joins.new.maker
    (all_joins c.args.codes.now.start c.args.n)
    (all_steps c.args.codes.now.start c.args.n
    ++ (rollover_lines c.args.n ++ all_late c.args.codes.now.start c.args.n)) c.in_err-take_joins.ensures.lines)

pub returns-in_err-take_steps : goal.returns-in_err-take_steps
unfolding events
returns-in_err-take_steps c =
    handed c.from_residual-in_err-take_steps.result c.in_err-take_steps.field-0.0 c.take_steps.new.maker _
    c.from_residual-in_err-take_steps.ensures.1
    (then_comes (Err c.in_err-take_steps.field-0.0) c.args.maker.now c.take_joins.new.maker c.take_steps.new.maker
    (all_joins c.args.codes.now.start c.args.n)
    (all_steps c.args.codes.now.start c.args.n
    ++ (rollover_lines c.args.n ++ all_late c.args.codes.now.start c.args.n)) c.in_ok-take_joins.ensures.lines
    (stops c.in_err-take_steps.field-0.0 c.take_joins.new.maker c.take_steps.new.maker c.take_steps.new.maker
    (all_steps c.args.codes.now.start c.args.n)
    (rollover_lines c.args.n ++ all_late c.args.codes.now.start c.args.n)
    (subst (λ (s : ℕ). Comes (Err c.in_err-take_steps.field-0.0) c.take_steps.new.maker
    (after_texts c.take_joins.new.maker (all_steps s c.args.n))) (ap (λ (w : Place). w.start) c.requires.words)
    c.in_err-take_steps.ensures.lines)))

pub returns-in_err-take_rollover : goal.returns-in_err-take_rollover
unfolding events
returns-in_err-take_rollover c =
    handed c.from_residual-in_err-take_rollover.result c.in_err-take_rollover.field-0.0 c.take_rollover.new.maker _
    c.from_residual-in_err-take_rollover.ensures.1
    (then_comes (Err c.in_err-take_rollover.field-0.0) c.args.maker.now c.take_joins.new.maker
    c.take_rollover.new.maker (all_joins c.args.codes.now.start c.args.n)
    (all_steps c.args.codes.now.start c.args.n
    ++ (rollover_lines c.args.n ++ all_late c.args.codes.now.start c.args.n)) c.in_ok-take_joins.ensures.lines
    (then_comes (Err c.in_err-take_rollover.field-0.0) c.take_joins.new.maker c.take_steps.new.maker
    c.take_rollover.new.maker (all_steps c.args.codes.now.start c.args.n)
    (rollover_lines c.args.n ++ all_late c.args.codes.now.start c.args.n)
    (subst (λ (s : ℕ). after_texts c.take_joins.new.maker (all_steps s c.args.n) ≡ Ok c.take_steps.new.maker)
    (ap (λ (w : Place). w.start) c.requires.words) c.in_ok-take_steps.ensures.lines)
    (stops c.in_err-take_rollover.field-0.0 c.take_steps.new.maker c.take_rollover.new.maker c.take_rollover.new.maker
    (rollover_lines c.args.n) (all_late c.args.codes.now.start c.args.n) c.in_err-take_rollover.ensures.lines)))

pub returns : goal.returns
unfolding events
returns c =
    then_comes c.take_late.result c.args.maker.now c.take_joins.new.maker c.take_late.new.maker
    (all_joins c.args.codes.now.start c.args.n)
    (all_steps c.args.codes.now.start c.args.n
    ++ (rollover_lines c.args.n ++ all_late c.args.codes.now.start c.args.n)) c.in_ok-take_joins.ensures.lines
    (then_comes c.take_late.result c.take_joins.new.maker c.take_steps.new.maker c.take_late.new.maker
    (all_steps c.args.codes.now.start c.args.n)
    (rollover_lines c.args.n ++ all_late c.args.codes.now.start c.args.n)
    (subst (λ (s : ℕ). after_texts c.take_joins.new.maker (all_steps s c.args.n) ≡ Ok c.take_steps.new.maker)
    (ap (λ (w : Place). w.start) c.requires.words) c.in_ok-take_steps.ensures.lines)
    (then_comes c.take_late.result c.take_steps.new.maker c.take_rollover.new.maker c.take_late.new.maker
    (rollover_lines c.args.n) (all_late c.args.codes.now.start c.args.n) c.in_ok-take_rollover.ensures.lines
    (subst (λ (s : ℕ). Comes c.take_late.result c.take_late.new.maker
    (after_texts c.take_rollover.new.maker (all_late s c.args.n)))
    (ap (λ (w : Place). w.start) c.in_ok-take_steps.ensures.words ∙
    (ap (λ (w : Place). w.start) c.requires.words)) c.take_late.ensures.lines)))
