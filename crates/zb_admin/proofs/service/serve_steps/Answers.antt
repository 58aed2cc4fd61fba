use Rattle.std.proofs.Common.{ap, arith, refl, ◌∙◌}
use Rattle.zb_admin.specs.Serving.{outside}
use Rattle.zb_setting.specs.Settings.{setting_for}
use Rattle.zb_centre_store.specs.Calls.{tables_in}
use Rattle.zb_admin.proofs.FollowLemmas.{told_all, told_cut, told_more, told_none, told_worn}
use Rattle.zb_admin.proofs.ServeLemmas.{all_served, begins, fault_later, step_ends, step_more}
use Rattle.zb_admin.proofs.service.serve_steps.Goals as goal

pub loop-step-init : goal.loop-step-init
loop-step-init g c = record {
  empty = c.new-page.ensures.items;
  store = c.requires.store;
  configured = c.requires.configured;
  count = omega arith;
  unrisen = refl;
  later = omega arith;
  out_unrisen = refl;
  goes = λ told first stood. begins (outside g.D.Disk.tells g.D.Disk.state g.W.Sink.taken g.W.Sink.faults)
      (setting_for c.args.config.now) c.args.steps.now first c.args.disk.now c.args.out.now c.args.centre.now stood;
  told = told_none (setting_for c.args.config.now) c.args.steps.now (tables_in c.args.centre.now)
      (g.W.Sink.taken c.args.out.now);
}

pub loop-step-preserved : goal.loop-step-preserved
loop-step-preserved g c = record {
  empty = c.in-Ok.ensures.empty;
  store = c.in-Ok.ensures.store;
  configured = c.in-Ok.ensures.configured;
  count = omega (arith, c.loop-step.invariant.count, c.serve_step.ensures.count);
  unrisen = c.in-Ok.ensures.unrisen (λ is. cc is) ∙ c.loop-step.invariant.unrisen;
  later = omega (arith, c.loop-step.invariant.later, c.serve_step.ensures.later);
  out_unrisen = c.in-Ok.ensures.out_unrisen (λ is. cc is) ∙ c.loop-step.invariant.out_unrisen;
  goes = λ told first stood.
      step_more (outside g.D.Disk.tells g.D.Disk.state g.W.Sink.taken g.W.Sink.faults) (setting_for c.args.config.now)
      c.args.steps.now first c.args.disk.now c.args.out.now c.loop-step.step-index c.step-item.result
      c.loop-step-test.true c.step-item.is
      c.loop-step.centre c.loop-step.disk c.loop-step.out (c.loop-step.invariant.goes told first stood)
      c.serve_step.new.centre c.serve_step.new.disk c.serve_step.new.out
      (c.in-Ok.ensures.served told);
  told =
      told_more (setting_for c.args.config.now) c.args.steps.now (tables_in c.args.centre.now)
      (tables_in c.loop-step.centre) c.loop-step.step-index
      (g.W.Sink.taken c.args.out.now) (g.W.Sink.taken c.loop-step.out) c.loop-step.invariant.told
      c.step-item.result c.loop-step-test.true c.step-item.is (g.W.Sink.taken c.serve_step.new.out)
      (tables_in c.serve_step.new.centre) c.in-Ok.ensures.follows c.in-Ok.ensures.writes;
}

pub returns-clause-run : goal.returns-clause-run
returns-clause-run g c = λ told first stood.
    all_served (outside g.D.Disk.tells g.D.Disk.state g.W.Sink.taken g.W.Sink.faults) (setting_for c.args.config.now)
    c.args.steps.now first c.args.disk.now c.args.out.now c.loop-step.step-index c.loop-step.centre
    c.loop-step.disk c.loop-step.out c.loop-step-test.false (c.loop-step.invariant.goes told first stood)

pub returns-in-Err-clause-run : goal.returns-in-Err-clause-run
returns-in-Err-clause-run g c = λ told first stood.
    step_ends (outside g.D.Disk.tells g.D.Disk.state g.W.Sink.taken g.W.Sink.faults) (setting_for c.args.config.now)
    c.args.steps.now first c.args.disk.now c.args.out.now c.loop-step.step-index c.step-item.result
    c.loop-step-test.true c.step-item.is
    c.loop-step.centre c.loop-step.disk c.loop-step.out (c.loop-step.invariant.goes told first stood) c.in-Err.fault
    c.serve_step.new.centre c.serve_step.new.disk c.serve_step.new.out
    (c.in-Err.ensures.served told)

pub returns-in-Err-clause-faults : goal.returns-in-Err-clause-faults
returns-in-Err-clause-faults g c =
    fault_later (outside g.D.Disk.tells g.D.Disk.state g.W.Sink.taken g.W.Sink.faults) (setting_for c.args.config.now)
    c.args.centre.now c.loop-step.centre c.args.disk.now c.loop-step.disk c.serve_step.new.disk c.args.out.now
    c.loop-step.out c.serve_step.new.out c.in-Err.fault
    c.loop-step.invariant.unrisen c.loop-step.invariant.later
    (λ told first stood. let now = c.loop-step.invariant.goes told first stood in (now.standing, now.stood))
    c.in-Err.ensures.faults

pub returns-clause-told : goal.returns-clause-told
returns-clause-told g c =
    told_all (setting_for c.args.config.now) c.args.steps.now (tables_in c.args.centre.now)
    (tables_in c.loop-step.centre) c.loop-step.step-index
    (g.W.Sink.taken c.args.out.now) (g.W.Sink.taken c.loop-step.out) c.loop-step.invariant.told
    c.loop-step-test.false

pub returns-in-Err-clause-told_front : goal.returns-in-Err-clause-told_front
returns-in-Err-clause-told_front g c =
    told_cut (setting_for c.args.config.now) c.args.steps.now (tables_in c.args.centre.now)
    (tables_in c.loop-step.centre) c.loop-step.step-index
    (g.W.Sink.taken c.args.out.now) (g.W.Sink.taken c.loop-step.out) c.loop-step.invariant.told
    c.step-item.result c.loop-step-test.true c.step-item.is (g.W.Sink.taken c.serve_step.new.out)
    c.in-Err.ensures.front

pub returns-in-Err-clause-unrisen : goal.returns-in-Err-clause-unrisen
returns-in-Err-clause-unrisen g c = λ not. c.in-Err.ensures.unrisen not ∙ c.loop-step.invariant.unrisen

pub returns-in-Err-clause-told_worn : goal.returns-in-Err-clause-told_worn
returns-in-Err-clause-told_worn g c = λ is.
    let worn = c.in-Err.ensures.worn is in
    told_worn (setting_for c.args.config.now) c.args.steps.now (tables_in c.args.centre.now)
    (tables_in c.loop-step.centre) c.loop-step.step-index
    (g.W.Sink.taken c.args.out.now) (g.W.Sink.taken c.loop-step.out) c.loop-step.invariant.told
    c.step-item.result c.loop-step-test.true c.step-item.is (g.W.Sink.taken c.serve_step.new.out) worn.0
    (ap (λ out. g.W.Sink.taken out) worn.1)
