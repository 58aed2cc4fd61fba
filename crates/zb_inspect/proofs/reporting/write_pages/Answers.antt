use Rattle.std.proofs.Common.{◌∙◌, List, ℕ, Vec, Global, arith, ap, subst}
use Rattle.std.specs.Io.KnownBytes.{Appends}
use Rattle.zb_base.specs.Outside.{AppendsFront}
use Rattle.zb_inspect.proofs.Printed.{front_at, whole_next, on_err}
use Rattle.zb_inspect.proofs.reporting.write_pages.Goals as goal

abbrev text : Vec ℕ Global → List ℕ
text page = page.items

pub loop-page-preserved : goal.loop-page-preserved
loop-page-preserved g c =
    let so_far = g.W.Sink.taken c.loop-page.out in
    let after = g.W.Sink.taken c.write.new.self in
    let P : List ℕ → Type 0 = λ lines. Appends so_far after lines in
    record {
      so_far = whole_next text (g.W.Sink.taken c.args.out.now) so_far after c.args.pages.now c.loop-page.page-index
          c.page-item.result
          c.loop-page-test.true c.loop-page.invariant.so_far
          (subst P (c.as_slice.ensures.value ∙ ap text c.page-item.is) c.in_ok-write.ensures.whole);
      later = omega (arith, c.loop-page.invariant.later, c.in_ok-write.ensures.cause.later);
      unrisen = c.in_ok-write.ensures.cause.unrisen ∙ c.loop-page.invariant.unrisen;
    }

pub returns-in_err-write-clause-front : goal.returns-in_err-write-clause-front
returns-in_err-write-clause-front g c =
    let so_far = g.W.Sink.taken c.loop-page.out in
    let after = g.W.Sink.taken c.write.new.self in
    let P : List ℕ → Type 0 = λ lines. AppendsFront so_far after lines in
    on_err _ _
    (front_at text (g.W.Sink.taken c.args.out.now) so_far after c.args.pages.now c.loop-page.page-index
    c.page-item.result
    c.loop-page-test.true c.loop-page.invariant.so_far
    (subst P (c.as_slice.ensures.value ∙ ap text c.page-item.is) c.in_err-write.ensures.front))
