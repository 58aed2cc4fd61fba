use Rattle.std.proofs.Common.{◌≡◌}
use Rattle.zb_centre_store.specs.Skipping.{skipped_limit}
use Rattle.zb_centre_store.proofs.SkipLemmas.{half_way}
use Rattle.zb_centre_store.proofs.counters.skip.Given as goal

abbrev pub invariant-loop-place : goal.invariant-loop-place
invariant-loop-place l = l.tables
    ≡ record l.fn.tables
    { aps_limit = skipped_limit l.by l.fn.tables.aps_limit; nets = half_way l.by l.active l.place l.fn.tables.nets }
