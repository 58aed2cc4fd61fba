use Rattle.std.proofs.Common.{◌≡◌, true, subst, sym}
use Rattle.zb_node_types.specs.Changes.{edits}
use Rattle.zb_model.specs.Fits.{all_fit}
use Rattle.zb_keys.proofs.ApplyLemmas.{begins, change_fits, change_made}
use Rattle.zb_keys.proofs.tables.Tables.apply.Goals as goal

pub loop-change-init : goal.loop-change-init
loop-change-init c = begins _ c.args.self.now c.self.inside.contents c.self.invariant c.self.view_is
    (subst (λ l. all_fit (edits l) c.args.self.now ≡ true) (sym c.as_slice-change-items.ensures.value) c.requires)

pub change-requires-clause-rules : goal.change-requires-clause-rules
change-requires-clause-rules c = change_fits c.as_slice-change-items.result.now c.args.self.now
    c.loop-change.change-index _ c.loop-change.self-inside.contents c.loop-change-test.true c.loop-change.invariant

pub loop-change-preserved : goal.loop-change-preserved
loop-change-preserved c = change_made c.as_slice-change-items.result.now c.args.self.now c.loop-change.change-index _
    c.loop-change.self-inside.contents c.change.new.self c.loop-change-test.true c.loop-change.invariant
    c.change.ensures.sound c.change.ensures.state
