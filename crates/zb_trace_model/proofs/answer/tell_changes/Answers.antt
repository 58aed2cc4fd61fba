use Rattle.std.proofs.Common.{List, [], ◌∷◌, subst, sym, arith, get_or}
use Rattle.zb_base.specs.declared.label.Layer.TheVariants.{Nwk}
use Rattle.zb_model.specs.Lines.{Line, Changed}
use Rattle.zb_node_types.specs.Changes.{edit}
use Rattle.zb_node_types.specs.declared.change.Change.{Change}
use Rattle.zb_node_types.specs.declared.change.Change.TheVariants.{Reserve}
use Rattle.zb_trace_model.specs.Said.{IsOfCentre}
use Rattle.zb_trace_model.proofs.AnswerLaws.{all_at, change_more}
use Rattle.zb_trace_model.proofs.answer.tell_changes.Goals as goal

pub loop-change-init : goal.loop-change-init
loop-change-init g c = (λ known n called all. g.met.T.Teller.nothing known c.args.to.now, omega arith)

pub loop-change-preserved : goal.loop-change-preserved
loop-change-preserved g c =
    let changes = c.args.changes.now in
    let i = c.loop-change.change-index in
    let change : Change = get_or changes i (Reserve Nwk 0) in (
      λ known n called all.
          subst (λ (lines : List Line). g.T.Teller.Tells known lines c.args.to.now c.tell_change.new.to)
          (sym (change_more c.args.group.now.event n changes i (Reserve Nwk 0) c.loop-change-test.true))
          (g.met.T.Teller.joined known _ (Changed c.args.group.now.event n (edit change) ∷ []) _ _ _
          (c.loop-change.invariant.0 known n called all)
          (c.in_ok-tell_change.ensures.tells known n called
          (all_at (λ (it : Change). IsOfCentre known n (edit it)) changes i (Reserve Nwk 0)
          c.loop-change-test.true all))),
      omega (arith, c.in_ok-tell_change.ensures.told, c.loop-change.invariant.1),
    )
