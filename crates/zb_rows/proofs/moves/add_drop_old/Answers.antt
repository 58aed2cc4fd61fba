use Rattle.std.proofs.Common.{◌∙◌, ◌++◌, map, sym, ap, append-nil, Some, None}
use Rattle.zb_node_types.specs.Changes.{edits}
use Rattle.zb_model.specs.Data.{Moved}
use Rattle.zb_rows.proofs.Rooms.{live_count, drop_few, drop_idle}
use Rattle.zb_rows.proofs.moves.add_drop_old.Goals as goal

pub returns-then-count_live-lt2-clause-made : goal.returns-then-count_live-lt2-clause-made
returns-then-count_live-lt2-clause-made c = drop_few c.args.tables.now c.args.changes.now.items _
    (live_count c.args.tables.now _ _ c.nets.ensures c.count_live.ensures) c.if-count_live-lt2.true

pub returns-in-Some-clause-made : goal.returns-in-Some-clause-made
returns-in-Some-clause-made c =
    let number = live_count c.args.tables.now _ _ c.nets.ensures c.count_live.ensures in
    c.add.ensures.made ∙ ap (λ l. edits c.args.changes.now.items ++ map Moved l)
    (drop_idle c.args.tables.now _ _ _ (Some c.in-Some.row.now) c.nets-2.ensures c.active_key.ensures number
    c.if-count_live-lt2.false c.in-Some.ensures)

pub returns-in-None-clause-made : goal.returns-in-None-clause-made
returns-in-None-clause-made c =
    let number = live_count c.args.tables.now _ _ c.nets.ensures c.count_live.ensures in
    sym (append-nil (edits c.args.changes.now.items)) ∙ ap (λ l. edits c.args.changes.now.items ++ map Moved l)
    (drop_idle c.args.tables.now _ _ _ None c.nets-2.ensures c.active_key.ensures number c.if-count_live-lt2.false
    c.in-None.ensures)
