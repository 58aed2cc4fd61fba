-- The commands so far were served, and the others lead to the whole.
use Rattle.std.proofs.Common.{◌≡◌, ◌≤◌, [], Option, IsTrue}
use Rattle.zb_centre_store.specs.Calls.{HasSetting, HasStore, tables_in}
use Rattle.zb_admin.specs.Serving.{outside}
use Rattle.zb_centre_store.specs.Standing.{Stands}
use Rattle.zb_base.specs.Outside.{Unrisen}
use Rattle.zb_model.specs.State.{NodeState}
use Rattle.zb_setting.specs.Settings.{setting_for}
use Rattle.zb_admin.proofs.FollowLemmas.{IsTold}
use Rattle.zb_admin.proofs.ServeLemmas.{GoesOn}
use Rattle.zb_admin.proofs.service.serve_steps.Given as goal

abbrev pub invariant-loop-step : goal.invariant-loop-step
invariant-loop-step g l = record {
  empty : l.page.items ≡ [];
  store : HasStore l.centre;
  configured : HasSetting (setting_for l.config) l.centre;
  count : (g.D.Disk.state l.initial.disk).faults ≤ (g.D.Disk.state l.disk).faults;
  unrisen : Unrisen (g.D.Disk.state l.initial.disk).faults (g.D.Disk.state l.disk).faults;
  later : g.W.Sink.faults l.initial.out ≤ g.W.Sink.faults l.out;
  out_unrisen : Unrisen (g.W.Sink.faults l.initial.out) (g.W.Sink.faults l.out);
  goes : IsTrue g.D.Disk.tells.content → (first : Option NodeState)
      → Stands (setting_for l.config) first l.initial.centre (g.D.Disk.state l.initial.disk)
      → GoesOn (outside g.D.Disk.tells g.D.Disk.state g.W.Sink.taken g.W.Sink.faults) (setting_for l.config) l.steps
      first l.initial.disk l.initial.out l.step-index l.centre l.disk l.out;
  told : IsTold (setting_for l.config) l.steps (tables_in l.initial.centre) (tables_in l.centre) l.step-index
      (g.W.Sink.taken l.initial.out) (g.W.Sink.taken l.out);
}
