use Rattle.std.proofs.Common.{◌≡◌, ℕ, ◌+◌, ◌*◌, ◌∙◌, [], ◌∷◌, Ok, Err, ap, subst, arith}
use Rattle.zb_gen.specs.Made.{late_line}
use Rattle.zb_gen.specs.Words.{Place}
use Rattle.zb_gen.specs.Progress.{after_texts, Comes}
use Rattle.zb_gen.proofs.Folds.{handed, line_done, line_stops}
use Rattle.zb_gen.proofs.steps.take_late.Goals as goal

pub returns-in_err-take_late_line-clause-lines : goal.returns-in_err-take_late_line-clause-lines
returns-in_err-take_late_line-clause-lines c =
    handed c.from_residual.result c.in_err-take_late_line.field-0.0 c.take_late_line.new.maker _
    c.from_residual.ensures.1
    (line_stops (λ (x : ℕ). late_line c.args.words.now.start c.args.n (88 * c.args.n + 8 + 2 * x)) 0 c.loop-k.k
    c.loop-k.k (10 * c.args.n) c.in_err-take_late_line.field-0.0 c.args.maker.now c.loop-k.maker
    c.take_late_line.new.maker c.take_late_line.new.maker
    (omega arith) (omega (arith, c.loop-k-test.true)) c.loop-k.invariant.lines
    (subst (λ (p : ℕ). Comes (Err c.in_err-take_late_line.field-0.0) c.take_late_line.new.maker
    (after_texts c.loop-k.maker (late_line c.args.words.now.start c.args.n p ∷ []))) c.loop-k.invariant.place
    (subst (λ (s : ℕ). Comes (Err c.in_err-take_late_line.field-0.0) c.take_late_line.new.maker
    (after_texts c.loop-k.maker (late_line s c.args.n c.loop-k.words.place ∷ []))) c.loop-k.invariant.start
    c.in_err-take_late_line.ensures.lines)))

pub loop-k-preserved : goal.loop-k-preserved
loop-k-preserved c = record {
  lines =
      line_done (λ (x : ℕ). late_line c.args.words.now.start c.args.n (88 * c.args.n + 8 + 2 * x)) 0 c.loop-k.k
      c.loop-k.k c.args.maker.now c.loop-k.maker c.take_late_line.new.maker (omega arith) c.loop-k.invariant.lines
      (subst (λ (p : ℕ). after_texts c.loop-k.maker (late_line c.args.words.now.start c.args.n p ∷ [])
      ≡ Ok c.take_late_line.new.maker) c.loop-k.invariant.place
      (subst (λ (s : ℕ). after_texts c.loop-k.maker (late_line s c.args.n c.loop-k.words.place ∷ [])
      ≡ Ok c.take_late_line.new.maker) c.loop-k.invariant.start c.in_ok-take_late_line.ensures.lines));
  count = omega (arith, c.loop-k.invariant.count, c.in_ok-take_late_line.ensures.count);
  start = ap (λ (w : Place). w.start) c.in_ok-take_late_line.ensures.next ∙ c.loop-k.invariant.start;
  place = omega (arith, ap (λ (w : Place). w.place) c.in_ok-take_late_line.ensures.next, c.loop-k.invariant.place);
}
