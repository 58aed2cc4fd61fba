use Rattle.zb_keys.proofs.RestoreLemmas.{restored_sound}
use Rattle.zb_keys.proofs.tables.Tables.from_record.Goals as goal

pub invariant_of-result : goal.invariant_of-result
invariant_of-result c = restored_sound c.args.bytes.now c.in-Ok.contents c.in_ok-record.record
    c.in_ok-record.ensures.found c.in-Ok.ensures
