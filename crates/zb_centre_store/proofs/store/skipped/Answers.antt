use Rattle.std.proofs.Common.{◌∙◌}
use Rattle.zb_centre_store.proofs.StoreLemmas.{no_bad_place, read_back}
use Rattle.zb_centre_store.proofs.store.skipped.Goals as goal

pub returns-clause-centre : goal.returns-clause-centre
returns-clause-centre c = c.skip.ensures.role ∙ (read_back c.args.kept.now _ c.requires c.in-Ok.ensures.found).0

pub returns-clause-widths : goal.returns-clause-widths
returns-clause-widths c = c.skip.ensures.widths (read_back c.args.kept.now _ c.requires c.in-Ok.ensures.found).1

pub unreachable-requires : goal.unreachable-requires
unreachable-requires c =
    let bad_place = rw c.in-Err-Fault.field-0-is at c.in-Err-Fault.ensures.fault in
    no_bad_place c.args.kept.now c.in-Err-Fault.field-0-0 c.requires bad_place
