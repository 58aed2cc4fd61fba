use Rattle.std.proofs.Common.{◌≡◌, ◌<◌, ◌≤◌, ◌∙◌, ap, subst, sym}
use Rattle.zb_model.specs.State.{NodeState, after_boot}
use Rattle.zb_record.specs.Ranges.{FitsBytes}
use Rattle.zb_record.specs.RowViews.{net_key}
use Rattle.zb_centre_store.specs.Skipping.{skipped}
use Rattle.zb_centre_store.proofs.SkipLemmas.{all_skipped, half_more, rows_counted, skipped_booted, skipped_fits, skipped_role}
use Rattle.zb_centre_store.proofs.counters.skip.Goals as goal

pub loop-place-preserved : goal.loop-place-preserved
loop-place-preserved c =
    half_more c.args.by _ c.loop-place.place _ c.args.tables.now _ _
    (subst (λ n. c.loop-place.place < n)
    (rows_counted net_key c.nets-count.result.now c.args.tables.now _ _ c.nets-count.ensures c.skip_aps.ensures)
    c.loop-place-test.true)
    c.loop-place.invariant c.skip_net.ensures

pub returns : goal.returns
returns c =
    let is : c.boot.new.self ≡ skipped c.args.by c.args.tables.now =
    c.boot.ensures
    ∙ all_skipped c.args.by _ c.loop-place.place c.args.tables.now _ c.limit_of-active.ensures.value
    (subst (λ n. n ≤ c.loop-place.place)
    (rows_counted net_key c.nets-count.result.now c.args.tables.now _ _ c.nets-count.ensures c.skip_aps.ensures)
    c.loop-place-test.false)
    c.loop-place.invariant in
    record {
      is = is;
      role = ap (λ (s : NodeState). s.role) is ∙ skipped_role c.args.by c.args.tables.now;
      booted = ap after_boot is ∙ skipped_booted c.args.by c.args.tables.now ∙ sym is;
      widths = λ fits. subst FitsBytes (sym is) (skipped_fits c.args.by c.args.tables.now fits);
    }
