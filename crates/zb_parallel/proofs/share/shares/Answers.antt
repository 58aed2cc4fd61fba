use Rattle.std.proofs.Common.{ℕ, ◌+◌, ◌-◌, subst, arith, refl}
use Rattle.zb_parallel.specs.Shares.{AreShares}
use Rattle.zb_parallel.proofs.ShareLaws.{few_shares, share_end, share_more, some_size}
use Rattle.zb_parallel.proofs.share.shares.Goals as goal

pub loop-first-preserved : goal.loop-first-preserved
loop-first-preserved c =
    let before = c.loop-first.invariant in
    let size = some_size c.args.total c.div_ceil-size.result c.args.jobs before.size
    (omega (arith, c.loop-first-test.true)) in
    record {
      within = omega (arith, before.within, c.min-count.ensures, c.loop-first-test.true);
      number = omega (arith, before.number, size, c.min-count.ensures, c.loop-first-test.true);
      cut = share_more c.div_ceil-size.result c.args.total c.loop-first.number c.loop-first.first
          (c.args.total - c.loop-first.first)
          (c.loop-first.first + c.min-count.result) (c.args.total - (c.loop-first.first + c.min-count.result))
          c.loop-first.shares.items
          c.push.new.self.items
          (record { number = c.loop-first.number; first = c.loop-first.first; count = c.min-count.result })
          before.cut
          c.in_ok-push.ensures.items refl refl (omega (arith, c.loop-first-test.true)) c.min-count.ensures
          (omega (arith, c.min-count.ensures)) (omega (arith, c.min-count.ensures));
      size = before.size;
    }

pub returns-clause-cut : goal.returns-clause-cut
returns-clause-cut c =
    let P : ℕ → Type 0 = λ size. AreShares size 0 0 c.args.total c.loop-first.shares.items in
    subst P c.div_ceil-size.ensures
    (share_end c.div_ceil-size.result c.args.total c.loop-first.number c.loop-first.first
    (c.args.total - c.loop-first.first)
    c.loop-first.shares.items c.loop-first.invariant.cut (omega (arith, c.loop-first-test.false)))

pub returns-clause-few : goal.returns-clause-few
returns-clause-few c =
    few_shares c.div_ceil-size.result 0 0 c.args.total c.args.jobs c.loop-first.shares.items
    (share_end c.div_ceil-size.result c.args.total c.loop-first.number c.loop-first.first
    (c.args.total - c.loop-first.first)
    c.loop-first.shares.items c.loop-first.invariant.cut (omega (arith, c.loop-first-test.false)))
    c.loop-first.invariant.size
