use Rattle.std.proofs.Common.{subst, sym}
use Rattle.zb_trace.specs.declared.line.Line.{Line}
use Rattle.zb_trace_watch.specs.Sayings.{said_by, JoinerCounts}
use Rattle.zb_trace_watch.specs.Standing.{Follows}
use Rattle.zb_trace_watch.proofs.Effects.{quiet_follows, says_nothing}
use Rattle.zb_trace_watch.proofs.Starting.{on_ok}
use Rattle.zb_trace_watch.proofs.words.EndWords.line.Goals as goal

pub returns-in-GivenNet : goal.returns-in-GivenNet
returns-in-GivenNet c =
    on_ok c.given_net.result _ _
    (λ all tools counts said joiner. subst
    (λ (l : Line). Follows tools counts said (said_by tools said c.args.who l) c.args.self.now c.given_net.new.self)
    (sym c.in-GivenNet.is) (all tools counts said c.in-GivenNet.node c.in-GivenNet.sequence))
    c.given_net.ensures

pub returns-in-GivenLink : goal.returns-in-GivenLink
returns-in-GivenLink c =
    on_ok c.given_link.result _ _
    (λ all tools counts said joiner. subst
    (λ (l : Line). Follows tools counts said (said_by tools said c.args.who l) c.args.self.now c.given_link.new.self)
    (sym c.in-GivenLink.is) (all tools counts said c.in-GivenLink.node c.in-GivenLink.partner))
    c.given_link.ensures

pub returns-in-Draw : goal.returns-in-Draw
returns-in-Draw c =
    on_ok c.draw.result _ _
    (λ all tools counts said joiner. subst
    (λ (l : Line). Follows tools counts said (said_by tools said c.args.who l) c.args.self.now c.draw.new.self)
    (sym c.in-Draw.is) (all tools counts said c.args.who c.in-Draw.event))
    c.draw.ensures

pub returns-in-Install : goal.returns-in-Install
returns-in-Install c =
    on_ok c.install.result _ _
    (λ all tools counts said joiner. subst
    (λ (l : Line). Follows tools counts said (said_by tools said c.args.who l) c.args.self.now c.install.new.self)
    (sym c.in-Install.is) (all tools counts said c.in-Install.node c.in-Install.event c.in-Install.sequence
    (subst (λ (l : Line). JoinerCounts counts c.args.who l) c.in-Install.is joiner)))
    c.install.ensures

pub returns-in-Row : goal.returns-in-Row
returns-in-Row c =
    on_ok c.row.result _ _
    (λ all tools counts said joiner. subst
    (λ (l : Line). Follows tools counts said (said_by tools said c.args.who l) c.args.self.now c.row.new.self)
    (sym c.in-Row.is) (all tools counts said c.in-Row.node c.in-Row.event
    (subst (λ (l : Line). JoinerCounts counts c.args.who l) c.in-Row.is joiner)))
    c.row.ensures

pub returns-in-Pair : goal.returns-in-Pair
returns-in-Pair c =
    on_ok c.pair.result _ _
    (λ all tools counts said joiner. subst
    (λ (l : Line). Follows tools counts said (said_by tools said c.args.who l) c.args.self.now c.pair.new.self)
    (sym c.in-Pair.is) (all tools counts said c.args.who c.in-Pair.event c.in-Pair.node))
    c.pair.ensures

pub returns-in-Removed : goal.returns-in-Removed
returns-in-Removed c =
    on_ok c.remove.result _ _
    (λ all tools counts said joiner. subst
    (λ (l : Line). Follows tools counts said (said_by tools said c.args.who l) c.args.self.now c.remove.new.self)
    (sym c.in-Removed.is) (all tools counts said c.args.who c.in-Removed.event))
    c.remove.ensures

pub returns-in-Seal : goal.returns-in-Seal
returns-in-Seal c =
    on_ok c.seal.result _ _
    (λ all tools counts said joiner. subst
    (λ (l : Line). Follows tools counts said (said_by tools said c.args.who l) c.args.self.now c.seal.new.self)
    (sym c.in-Seal.is) (all tools counts said c.args.who c.in-Seal.event c.in-Seal.node))
    c.seal.ensures

pub returns-in-Forge : goal.returns-in-Forge
returns-in-Forge c =
    on_ok c.forge.result _ _
    (λ all tools counts said joiner. subst
    (λ (l : Line). Follows tools counts said (said_by tools said c.args.who l) c.args.self.now c.forge.new.self)
    (sym c.in-Forge.is) (all tools counts said c.args.who c.in-Forge.event))
    c.forge.ensures

pub returns-in-Accept : goal.returns-in-Accept
returns-in-Accept c =
    λ tools counts said joiner.
    subst (λ (l : Line). Follows tools counts said (said_by tools said c.args.who l) c.args.self.now c.accept.new.self)
    (sym c.in-Accept.is)
    (c.accept.ensures tools counts said c.args.who c.in-Accept.event c.in-Accept.node)

pub returns-in_default : goal.returns-in_default
returns-in_default c =
    λ tools counts said joiner find after grows stands.
    let it = c.in_default in
    quiet_follows tools counts c.args.self.now said (said_by tools said c.args.who c.args.line.now)
    (says_nothing tools said c.args.who c.args.line.now it.not-GivenNet it.not-GivenLink it.not-Draw it.not-Install
    it.not-Row it.not-Pair it.not-Removed it.not-Accept it.not-Seal it.not-Forge) after grows stands
