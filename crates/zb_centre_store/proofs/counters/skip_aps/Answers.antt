use Rattle.std.proofs.Common.{◌∙◌, ap, subst, ◌<◌, ◌^◌}
use Rattle.zb_model.specs.Data.{Reserve, Aps}
use Rattle.zb_model.specs.Fits.{fits}
use Rattle.zb_model.specs.State.{applied, shown}
use Rattle.zb_centre_store.specs.Skipping.{skipped_limit}
use Rattle.zb_centre_store.proofs.SkipLemmas.{aps_fits, aps_made, aps_limit_is}
use Rattle.zb_centre_store.proofs.counters.skip_aps.Goals as goal

pub make-requires : goal.make-requires
make-requires c =
    let is = aps_limit_is c.args.tables.now _ c.limit_of.ensures.value in
    ap (λ n. fits (Reserve Aps n) c.args.tables.now) (c.saturating_add-limit.ensures ∙ ap (skipped_limit c.args.by) is)
    ∙ aps_fits c.args.by c.args.tables.now c.keep_rules.ensures.rules
    (subst (λ n. n < 2 ^ 32) is c.limit_of.ensures.fits)

pub returns : goal.returns
returns c =
    let is = aps_limit_is c.args.tables.now _ c.limit_of.ensures.value in
    c.make.ensures
    ∙ ap (λ n. shown (applied (Reserve Aps n) c.args.tables.now))
    (c.saturating_add-limit.ensures ∙ ap (skipped_limit c.args.by) is)
    ∙ aps_made c.args.by c.args.tables.now c.keep_rules.ensures.forgets
    (subst (λ n. n < 2 ^ 32) is c.limit_of.ensures.fits)
