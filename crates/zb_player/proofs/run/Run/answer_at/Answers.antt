use Rattle.std.proofs.Common.{refl, sym, ap, get_or, arith}
use Rattle.law_run_steps.specs.Conditions.{condition_of}
use Rattle.law_schedules.specs.Schedules.{schedule_of}
use Rattle.zb_player.proofs.CallsMade.{went_calls}
use Rattle.zb_player.proofs.Goings.{nodes_enough, on_ok, went}
use Rattle.zb_player.proofs.run.Run.answer_at.Goals as goal
use Rattle.zb_player.proofs.run.Run.answer_at.Goals.{then-place-len-via-then-place-len, then-place-len-via-else-place-len+then-place-disks}

pub returns-then-place-len-clause-goes : goal.returns-then-place-len-clause-goes
returns-then-place-len-clause-goes c = λ p h xs latest event q few is stands at.
    let many = nodes_enough p h xs latest c.args.place q c.args.act event c.args.self.now c.args.disks.now
    stands at in
    elim c.then-place-len.branch [
      | then-place-len-via-then-place-len w ↦ absurd (omega (arith, many.0, w.if-place-len.true))
      | then-place-len-via-else-place-len+then-place-disks w ↦ absurd (omega (arith, many.1, w.if-place-disks.true))
    ]

pub returns-clause-goes : goal.returns-clause-goes
returns-clause-goes c =
    on_ok c.answer_node.result _ _ (λ goes p h xs latest event q few is stands at.
    went p h xs latest c.args.number c.args.place q c.args.act event c.args.self.now _ c.args.disks.now _
    c.index_mut-node.result.now c.answer_node.new.node
    (get_or c.args.disks.now c.args.place c.index-disks-place.result) c.answer_node.new.disk few is
    stands at
    (sym c.index_mut-node.ensures.value)
    (ap (λ x. get_or c.args.disks.now c.args.place x) (sym c.index-disks-place.is)) c.answer_node.ensures.seat
    goes refl refl refl refl)
    c.answer_node.ensures.goes

pub returns-then-place-len-clause-calls : goal.returns-then-place-len-clause-calls
returns-then-place-len-clause-calls c = λ p h ds event q is stands at.
    let many = nodes_enough p h (condition_of (schedule_of p) h ds) c.args.number c.args.place q c.args.act event
    c.args.self.now c.args.disks.now stands at in
    elim c.then-place-len.branch [
      | then-place-len-via-then-place-len w ↦ absurd (omega (arith, many.0, w.if-place-len.true))
      | then-place-len-via-else-place-len+then-place-disks w ↦ absurd (omega (arith, many.1, w.if-place-disks.true))
    ]

pub returns-clause-calls : goal.returns-clause-calls
returns-clause-calls c =
    on_ok c.answer_node.result _ _ (λ calls p h ds event q is stands at.
    went_calls p h ds c.args.number c.args.place q c.args.act event c.args.self.now c.args.disks.now _
    c.index_mut-node.result.now
    (get_or c.args.disks.now c.args.place c.index-disks-place.result) c.answer_node.new.disk c.ranges.number.fits is
    stands at
    (sym c.index_mut-node.ensures.value)
    (ap (λ x. get_or c.args.disks.now c.args.place x) (sym c.index-disks-place.is)) calls refl)
    c.answer_node.ensures.calls
