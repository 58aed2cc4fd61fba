use Rattle.zb_node_types.specs.Changes.{edit}
use Rattle.zb_node_types.specs.declared.change.Change.{Change}
use Rattle.zb_model.specs.Record.{edit_bytes}
use Rattle.zb_record.proofs.WritingLemmas.{Written}
use Rattle.zb_record.proofs.payload.put_changes.Given as goal

abbrev pub invariant-loop-change : goal.invariant-loop-change
invariant-loop-change l = Written (λ (x : Change). edit_bytes (edit x)) l.fn.into l.into l.fn.at l.end l.change-index
    l.changes
