use Rattle.std.proofs.Common.{Ok, ap, ◌∙◌}
use Rattle.law_records.proofs.Booted.{forgets_booted}
use Rattle.law_records.proofs.again.a_record_is_read_as_its_tables.Goals as goal

pub returns : goal.returns
returns c =
    let s = c.args.tables.now in
    c.a_written_record_is_read.ensures s c.keep_rules.ensures.rules c.tables_fit_a_record.ensures ∙ ap Ok
    (forgets_booted s c.keep_rules.ensures.forgets)
