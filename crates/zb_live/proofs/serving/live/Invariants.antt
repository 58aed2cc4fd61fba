-- The session has served some lines, and the page is empty.
use Rattle.std.proofs.Common.{◌≡◌, []}
use Rattle.zb_centre_store.specs.Outside.{outside}
use Rattle.zb_live.specs.Alive.{CanGoOn}
use Rattle.zb_live.proofs.ServingLemmas.{Loop}
use Rattle.zb_live.specs.Moments.{input_of}
use Rattle.zb_live.proofs.serving.live.Given as goal

abbrev pub invariant-loop : goal.invariant-loop
invariant-loop g l =
    Loop (outside g.D.Disk.tells g.D.Disk.state g.W.Sink.taken g.W.Sink.faults)
    (input_of (g.R.Source.rest l.initial.input) (g.R.Source.calls l.initial.input) (g.R.Source.faults
    l.initial.input)) l.initial.disk
    l.initial.output
    l.session l.feed.held.items (input_of (g.R.Source.rest l.input) (g.R.Source.calls l.input) (g.R.Source.faults
    l.input)) l.disk l.output
    × CanGoOn l.session × (l.page.items ≡ [])
