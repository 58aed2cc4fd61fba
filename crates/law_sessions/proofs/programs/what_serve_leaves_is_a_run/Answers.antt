use Rattle.std.proofs.Common.{Some, ◌∙◌, ap}
use Rattle.law_sessions.specs.Leaving.{IsOfRun}
use Rattle.law_sessions.proofs.LeftsOfRuns.{of_run}
use Rattle.law_sessions.proofs.programs.what_serve_leaves_is_a_run.Goals as goal
use Rattle.zb_admin.specs.Moments as admin
use Rattle.zb_centre_store.specs.Outside.{outside}
use Rattle.zb_centre_store.specs.Standing.{found_on}
use Rattle.zb_disk.proofs.Moments.{weakened}
use Rattle.zb_setting.specs.Settings.{setting_for}

pub returns : goal.returns
returns g c = λ told image only can s found kept.
    let x = outside g.D.Disk.tells g.D.Disk.state g.W.Sink.taken g.W.Sink.faults in
    let old = c.args.disk.now in
    let script = c.args.script.now in
    weakened (x.state old) (x.state c.serve.new.disk)
    (admin.IsOfRun x (setting_for script.config) script.steps (Some s) old) (IsOfRun image script)
    (of_run x script c.requires old image only s found kept)
    (c.serve.ensures.served.all told can s (ap found_on only.seen ∙ found))
