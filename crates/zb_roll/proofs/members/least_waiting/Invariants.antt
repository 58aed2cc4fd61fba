use Rattle.std.proofs.Common.{◌≡◌, map, take}
use Rattle.std.specs.Prelude.{option_map}
use Rattle.zb_base.specs.declared.address.Eui.{Eui}
use Rattle.zb_record.specs.RowViews.{link_key}
use Rattle.zb_roll.proofs.LeastLemmas.{least_of}
use Rattle.zb_roll.proofs.members.least_waiting.Given as goal

abbrev pub invariant-loop-row : goal.invariant-loop-row
invariant-loop-row l = option_map (λ (e : Eui). e.0) l.best ≡ least_of (map link_key (take l.row-index l.rows))
