use Rattle.std.proofs.Common.{◌∙◌, sym, subst}
use Rattle.zb_stored_tables.proofs.Restoring.{boot_role}
use Rattle.zb_record.specs.Ranges.{FitsBytes}
use Rattle.zb_stored_tables.proofs.Made.{booted_fits}
use Rattle.zb_stored_tables.proofs.restore.restore.Goals as goal

pub returns-clause-widths : goal.returns-clause-widths
returns-clause-widths c =
    subst FitsBytes (sym c.boot.ensures) (booted_fits c.in_ok-tables.tables c.in_ok-tables.ensures.widths)

pub returns-clause-role : goal.returns-clause-role
returns-clause-role c = boot_role c.in_ok-tables.tables c.boot.new.self c.boot.ensures ∙ c.in_ok-tables.ensures.role
