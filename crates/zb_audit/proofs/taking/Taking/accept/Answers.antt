use Rattle.std.proofs.Common.{◌∙◌, ap, sym, cond, Some}
use Rattle.std.specs.BTreeMap.{get, is_at}
use Rattle.zb_audit.specs.Standing.{channel_cmp, height, is_below}
use Rattle.zb_audit.specs.declared.taking.Channel.{Channel}
use Rattle.zb_audit.specs.declared.taking.Taking.{Taking}
use Rattle.zb_audit.proofs.TakenCounters.{heights_stay, heights_written}
use Rattle.zb_trace_watch.proofs.Truth.{not_false, not_true}
use Rattle.zb_audit.proofs.taking.Taking.accept.Goals as goal
use Rattle.zb_audit.proofs.taking.Taking.accept.Goals.{then-rises+in_ok-insert, else-rises}

pub returns-clause-heights : goal.returns-clause-heights
returns-clause-heights c =
    elim c.if-rises.branch [
      | then-rises+in_ok-insert w ↦
          heights_written c.args.self.now c.if-rises.self c.args.term.now c.args.place
          (ap (λ (q : Channel). is_below c.args.term.now.counter (get channel_cmp c.args.self.now.heights q))
          (sym c.channel_of-channel.ensures)
          ∙ not_true _ (sym c.rises-rises.ensures ∙ w.if-rises.true))
          (λ q.
          ap (λ (k : Taking). get channel_cmp k.heights q) w.self-is
          ∙ (w.in_ok-insert.ensures.updates.0 q
          ∙ ap (λ (k : Channel). cond (is_at (channel_cmp k) q) (Some c.args.term.now.counter)
          (get channel_cmp c.args.self.now.heights q)) c.channel_of-channel.ensures))
      | else-rises w ↦ λ i u.
          ap (λ (k : Taking). is_below u.counter (height k i u)) w.self-is
          ∙ heights_stay c.args.self.now c.args.term.now c.args.place
          (ap (λ (q : Channel). is_below c.args.term.now.counter (get channel_cmp c.args.self.now.heights q))
          (sym c.channel_of-channel.ensures)
          ∙ not_false _ (sym c.rises-rises.ensures ∙ w.if-rises.false))
          i u
    ]
