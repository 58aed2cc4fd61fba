use Rattle.std.proofs.Common.{◌+◌, ◌≤◌, length, sym, subst, arith}
use Rattle.std.proofs.lemmas.List.Folds.{flat_map-map}
use Rattle.zb_node_types.specs.Changes.{edit}
use Rattle.zb_model.specs.Record.{edit_bytes}
use Rattle.zb_record.proofs.WritingLemmas.{written_none, written_more, written_room, written_all, writes_as}
use Rattle.zb_record.proofs.payload.put_changes.Goals as goal

pub loop-change-init : goal.loop-change-init
loop-change-init c = written_none _ c.args.into.now c.args.at c.args.changes.now

pub put_change-end-requires : goal.put_change-end-requires
put_change-end-requires c = written_room c.args.into.now c.loop-change.into c.args.at c.loop-change.end
    c.loop-change.change-index c.args.changes.now _ _ c.loop-change-test.true
    (subst (λ l. c.args.at + length l ≤ length c.loop-change.into) (flat_map-map edit_bytes edit c.args.changes.now)
    (omega (arith, c.requires, c.loop-change.auto.into))) c.loop-change.invariant

pub loop-change-preserved : goal.loop-change-preserved
loop-change-preserved c = written_more c.args.into.now c.loop-change.into c.put_change-end.new.into c.args.at
    c.loop-change.end c.put_change-end.result c.loop-change.change-index c.args.changes.now _ c.loop-change-test.true
    c.loop-change.invariant c.put_change-end.ensures

pub returns : goal.returns
returns c = writes_as _ _ _ _ _ _ (sym (flat_map-map edit_bytes edit c.args.changes.now))
    (written_all c.args.into.now c.loop-change.into c.args.at c.loop-change.end c.loop-change.change-index
    c.args.changes.now c.loop-change-test.false c.loop-change.invariant)
