use Rattle.std.proofs.Common.{◌≡◌, ℕ, ◌+◌, ◌∙◌, [], ◌∷◌, Ok, Err, ap, subst, arith}
use Rattle.zb_gen.specs.Made.{draw_line}
use Rattle.zb_gen.specs.Words.{Place}
use Rattle.zb_gen.specs.Progress.{after_texts, Comes}
use Rattle.zb_gen.proofs.Folds.{handed, line_done, line_stops}
use Rattle.zb_gen.proofs.lines.take_draws.Goals as goal

pub returns-in_err-take_draw_line-clause-lines : goal.returns-in_err-take_draw_line-clause-lines
returns-in_err-take_draw_line-clause-lines c =
    handed c.from_residual.result c.in_err-take_draw_line.field-0.0 c.take_draw_line.new.maker _
    c.from_residual.ensures.1
    (line_stops (λ (x : ℕ). draw_line c.args.words.now.start c.args.n x) 0 c.loop-j.j c.loop-j.j (c.args.n + 1)
    c.in_err-take_draw_line.field-0.0 c.args.maker.now c.loop-j.maker c.take_draw_line.new.maker
    c.take_draw_line.new.maker
    (omega arith) (omega (arith, c.loop-j-test.true)) c.loop-j.invariant.lines
    (subst (λ (s : ℕ). Comes (Err c.in_err-take_draw_line.field-0.0) c.take_draw_line.new.maker
    (after_texts c.loop-j.maker (draw_line s c.args.n c.loop-j.j ∷ []))) c.loop-j.invariant.start
    c.in_err-take_draw_line.ensures.lines))

pub loop-j-preserved : goal.loop-j-preserved
loop-j-preserved c = record {
  lines =
      line_done (λ (x : ℕ). draw_line c.args.words.now.start c.args.n x) 0 c.loop-j.j c.loop-j.j c.args.maker.now
      c.loop-j.maker c.take_draw_line.new.maker (omega arith) c.loop-j.invariant.lines
      (subst (λ (s : ℕ). after_texts c.loop-j.maker (draw_line s c.args.n c.loop-j.j ∷ [])
      ≡ Ok c.take_draw_line.new.maker) c.loop-j.invariant.start c.in_ok-take_draw_line.ensures.lines);
  count = omega (arith, c.loop-j.invariant.count, c.in_ok-take_draw_line.ensures.count);
  start = ap (λ (w : Place). w.start) c.in_ok-take_draw_line.ensures.words ∙ c.loop-j.invariant.start;
  place = omega (arith, ap (λ (w : Place). w.place) c.in_ok-take_draw_line.ensures.words, c.loop-j.invariant.place);
}
