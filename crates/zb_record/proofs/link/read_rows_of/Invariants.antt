use Rattle.std.proofs.Common.{◌≡◌, ◌-◌, []}
use Rattle.zb_node_types.specs.Changes.{model_role}
use Rattle.zb_record.specs.Rows.{link_at}
use Rattle.zb_record.specs.Placed.{rows_at}
use Rattle.zb_record.proofs.link.read_rows_of.Given as goal

abbrev pub invariant-loop : goal.invariant-loop
invariant-loop l = rows_at (link_at (model_role l.role)) (l.count - l.counter) l.rows l.reader.rest.now
    ≡ rows_at (link_at (model_role l.role)) l.count [] l.initial.reader.rest.now
