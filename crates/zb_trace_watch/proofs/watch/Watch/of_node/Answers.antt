use Rattle.std.proofs.Common.{subst}
use Rattle.zb_trace_watch.specs.Sayings.{said_by, JoinerCounts}
use Rattle.zb_trace_watch.specs.Standing.{Follows}
use Rattle.zb_trace_watch.specs.Watching.{is_somebody}
use Rattle.zb_trace_watch.specs.declared.speaker.Speaker.{Speaker}
use Rattle.zb_trace_watch.proofs.watch.Watch.of_node.Goals as goal

pub returns-clause-words : goal.returns-clause-words
returns-clause-words c =
    λ tools s.
    subst
    (λ (who : Speaker). JoinerCounts is_somebody who c.args.line.now
    → Follows tools is_somebody s (said_by tools s who c.args.line.now) c.args.self.now.words c.line.new.self)
    c.who-who.ensures (c.in_ok-line.ensures tools is_somebody s)
