use Rattle.std.proofs.Common.{ap, sym, ◌∙◌}
use Rattle.zb_model.specs.State.{after_boot}
use Rattle.zb_record.specs.Records.{record_read}
use Rattle.law_records.proofs.Reading.{no_fault, one_read}
use Rattle.law_records.proofs.again.written_and_read.Goals as goal

pub returns-in-Ok : goal.returns-in-Ok
returns-in-Ok c =
    one_read _ (after_boot c.args.tables.now) c.in-Ok.read c.a_record_is_read_as_its_tables.ensures
    (sym (ap record_read c.record_bytes-size.ensures.bytes) ∙ c.in-Ok.ensures.found)

pub unreachable-requires : goal.unreachable-requires
unreachable-requires c =
    let is = ap record_read c.record_bytes-size.ensures.bytes ∙ c.a_record_is_read_as_its_tables.ensures in
    let bad = rw c.in-Err-Fault.field-0-is at c.in-Err-Fault.ensures.fault in
    no_fault _ (after_boot c.args.tables.now) c.in-Err-Fault.field-0-0 _ is bad
