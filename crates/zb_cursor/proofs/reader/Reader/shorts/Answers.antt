use Rattle.std.proofs.Common.{ap, sym, ◌∙◌}
use Rattle.std.proofs.lemmas.Result.{err_from_is_err_and}
use Rattle.zb_cursor.specs.Reading.{short_at, times_at}
use Rattle.zb_cursor.proofs.Times.{ends, is_done}
use Rattle.zb_cursor.proofs.Shorts.{more}
use Rattle.zb_cursor.proofs.reader.Reader.shorts.Goals as goal

pub returns-in_err-short-clause-exact : goal.returns-in_err-short-clause-exact
returns-in_err-short-clause-exact g c =
    let p = err_from_is_err_and c.from_residual.result c.from_residual.ensures.1 in
    let inv = c.loop.invariant in
    let cut_read = ap (λ e. short_at e c.loop.self.rest.now) (sym inv.same_cut) ∙ c.in_err-short.ensures.exact in
    rw (p.1, p.2)
    (ends c.args.self.now.cut c.in_err-short.field-0.0 short_at c.loop.shorts.items c.args.count c.loop.counter
    c.loop.self.rest.now (times_at short_at c.args.count c.args.self.now.cut c.args.self.now.rest.now)
    c.loop-test.true cut_read inv.reads)

pub loop-preserved : goal.loop-preserved
loop-preserved g c =
    rw c.push.ensures.items
    (more c.args.self.now.cut c.args.count c.loop.counter c.args.self.now.rest.now c.loop.self.cut
    c.short.new.self.cut c.loop.self.rest.now c.short.new.self.rest.now c.loop.shorts.items c.in_ok-short.short
    c.loop.invariant c.loop-test.true c.in_ok-short.ensures.exact c.in_ok-short.ensures.spelled
    c.in_ok-short.ensures.in_range c.in_ok-short.ensures.cut)

pub returns-clause-exact : goal.returns-clause-exact
returns-clause-exact g c =
    is_done c.args.self.now.cut short_at c.loop.shorts.items c.args.count c.loop.counter c.loop.self.rest.now
    (times_at short_at c.args.count c.args.self.now.cut c.args.self.now.rest.now) c.loop-test.false
    c.loop.invariant.reads
