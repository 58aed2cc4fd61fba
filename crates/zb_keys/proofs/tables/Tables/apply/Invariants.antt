use Rattle.zb_node_types.specs.Changes.{edits}
use Rattle.zb_keys.proofs.ApplyLemmas.{Applying}
use Rattle.zb_keys.proofs.tables.Tables.apply.Given as goal

abbrev pub invariant-loop-change : goal.invariant-loop-change
invariant-loop-change l = Applying (edits l.change-items) l.fn.self l.change-index l.self-inside.contents
