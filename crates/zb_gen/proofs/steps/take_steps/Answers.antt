use Rattle.std.proofs.Common.{◌≡◌, ℕ, ◌+◌, ◌*◌, ◌∙◌, Ok, Err, ap, subst, arith}
use Rattle.zb_gen.specs.Made.{step_lines, step_of}
use Rattle.zb_gen.specs.Steps.{step_at}
use Rattle.zb_gen.specs.declared.steps.Step.{Step}
use Rattle.zb_gen.specs.Words.{Place}
use Rattle.zb_gen.specs.Progress.{after_texts, Comes}
use Rattle.zb_gen.proofs.Folds.{handed, part_done, part_stops}
use Rattle.zb_gen.proofs.steps.take_steps.Goals as goal

pub returns-in_err-take_step-clause-lines : goal.returns-in_err-take_step-clause-lines
returns-in_err-take_step-clause-lines c =
    handed c.from_residual.result c.in_err-take_step.field-0.0 c.take_step.new.maker _ c.from_residual.ensures.1
    (part_stops (λ (x : ℕ). step_lines c.args.words.now.start c.args.n (8 * c.args.n + 8 + 4 * x)) 0 c.loop-k.k
    c.loop-k.k (20 * c.args.n) c.in_err-take_step.field-0.0 c.args.maker.now c.loop-k.maker c.take_step.new.maker
    c.take_step.new.maker
    (omega arith) (omega (arith, c.loop-k-test.true)) c.loop-k.invariant.lines
    (subst (λ (s : Step). Comes (Err c.in_err-take_step.field-0.0) c.take_step.new.maker
    (after_texts c.loop-k.maker (step_of c.args.n s.kind s.node s.p s.q)))
    (c.next_step-step.ensures.step ∙ ap (λ (s : ℕ). step_at s c.args.n c.loop-k.words.place) c.loop-k.invariant.start
    ∙ ap (λ (x : ℕ). step_at c.args.words.now.start c.args.n x) c.loop-k.invariant.place)
    c.in_err-take_step.ensures.lines))

pub loop-k-preserved : goal.loop-k-preserved
loop-k-preserved c = record {
  lines =
      part_done (λ (x : ℕ). step_lines c.args.words.now.start c.args.n (8 * c.args.n + 8 + 4 * x)) 0 c.loop-k.k
      c.loop-k.k c.args.maker.now c.loop-k.maker c.take_step.new.maker (omega arith) c.loop-k.invariant.lines
      (subst (λ (s : Step). after_texts c.loop-k.maker (step_of c.args.n s.kind s.node s.p s.q)
      ≡ Ok c.take_step.new.maker)
      (c.next_step-step.ensures.step ∙ ap (λ (s : ℕ). step_at s c.args.n c.loop-k.words.place)
      c.loop-k.invariant.start ∙ ap (λ (x : ℕ). step_at c.args.words.now.start c.args.n x)
      c.loop-k.invariant.place) c.in_ok-take_step.ensures.lines);
  count = omega (arith, c.loop-k.invariant.count, c.in_ok-take_step.ensures.count);
  start = ap (λ (w : Place). w.start) c.next_step-step.ensures.next ∙ c.loop-k.invariant.start;
  place = omega (arith, ap (λ (w : Place). w.place) c.next_step-step.ensures.next, c.loop-k.invariant.place);
}
