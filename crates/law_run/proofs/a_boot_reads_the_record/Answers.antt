-- The record is read back, and a boot's line does what a boot does.
use Rattle.law_run.proofs.RecordLaws.{boot-reads}
use Rattle.law_run.proofs.a_boot_reads_the_record.Goals as goal

pub returns : goal.returns
returns c = boot-reads
