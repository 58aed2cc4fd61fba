use Rattle.std.specs.Prelude.{option_map}
use Rattle.zb_base.specs.declared.key.Key.{Key}
use Rattle.zb_rows.specs.Asking.{goes}
use Rattle.zb_rows.proofs.Drops.{Dropping}
use Rattle.zb_rows.proofs.moves.add_drops.Given as goal

abbrev pub invariant-loop-row : goal.invariant-loop-row
invariant-loop-row l = Dropping (goes l.partner.0 (option_map (λ (k : Key). k.0) l.spared)) l.rows l.row-index
    l.initial.changes.items l.changes.items
