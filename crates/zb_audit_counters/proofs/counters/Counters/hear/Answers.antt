use Rattle.std.proofs.Common.{refl}
use Rattle.std.proofs.lemmas.Result.{on_ok_weaker}
use Rattle.zb_audit_counters.proofs.Hearing.{heard_by, heard_on, sender_is}
use Rattle.zb_audit_counters.proofs.counters.Counters.hear.Goals as goal
use Rattle.zb_audit_names.specs.Naming.{speaker}
use Rattle.zb_trace.specs.declared.line.Line.TheVariants as line

pub returns-in-Counter-clause-heard : goal.returns-in-Counter-clause-heard
unfolding speaker
returns-in-Counter-clause-heard c =
    λ n speaks. heard_by c.args.group c.args.number c.args.line.now
    (line.Counter c.in-Counter.node c.in-Counter.layer c.in-Counter.limit) c.in-Counter.node.bytes n _ _
    c.in-Counter.is refl (c.declare.ensures c.args.number c.in-Counter.node) speaks

pub returns-in_ok-give-in-GivenNet-clause-heard : goal.returns-in_ok-give-in-GivenNet-clause-heard
unfolding speaker
returns-in_ok-give-in-GivenNet-clause-heard c =
    λ n speaks. heard_by c.args.group c.args.number c.args.line.now _ c.in-GivenNet.node.bytes n _ _ c.in-GivenNet.is
    refl (c.in_ok-give-in-GivenNet.ensures c.args.number c.in-GivenNet.sequence c.in-GivenNet.node) speaks

pub returns-in-Active-clause-heard : goal.returns-in-Active-clause-heard
unfolding speaker
returns-in-Active-clause-heard c =
    heard_on c.args.group c.args.number c.args.line.now c.in-Active.node _ c.activate.result _ _ c.in-Active.is refl
    (on_ok_weaker c.activate.result (λ heard. heard c.args.number c.in-Active.event c.in-Active.node)
    c.activate.ensures.heard)

pub returns-in-Start-clause-heard : goal.returns-in-Start-clause-heard
unfolding speaker
returns-in-Start-clause-heard c =
    heard_on c.args.group c.args.number c.args.line.now c.in-Start.node _ c.start.result _ _ c.in-Start.is refl
    (on_ok_weaker c.start.result (λ heard. heard c.args.number c.in-Start.event c.in-Start.node) c.start.ensures.heard)

pub returns-in-Reserve-clause-heard : goal.returns-in-Reserve-clause-heard
unfolding speaker
returns-in-Reserve-clause-heard c =
    heard_on c.args.group c.args.number c.args.line.now c.in-Reserve.node _ c.reserve.result _ _ c.in-Reserve.is refl
    (on_ok_weaker c.reserve.result (λ heard. heard c.args.number c.in-Reserve.event c.in-Reserve.node)
    c.reserve.ensures.heard)

pub returns-in-Seal-clause-heard : goal.returns-in-Seal-clause-heard
unfolding speaker
returns-in-Seal-clause-heard c =
    heard_on c.args.group c.args.number c.args.line.now c.in-Seal.node _ c.seal.result _ _ c.in-Seal.is refl
    (on_ok_weaker c.seal.result (λ heard. heard c.args.number c.in-Seal.event c.in-Seal.node) c.seal.ensures.heard)

pub returns-in-Accept-clause-heard : goal.returns-in-Accept-clause-heard
unfolding speaker
returns-in-Accept-clause-heard c =
    heard_on c.args.group c.args.number c.args.line.now c.in-Accept.node _ c.accept.result _ _ c.in-Accept.is refl
    (on_ok_weaker c.accept.result
    (λ heard. heard c.args.number c.in-Accept.event c.in-Accept.node c.in-Accept.term
    (sender_is c.in-Accept.term c.sender_of.result c.sender_of.ensures)) c.accept.ensures.heard)

pub returns-in-Accept-clause-judged : goal.returns-in-Accept-clause-judged
returns-in-Accept-clause-judged c = rw (c.in-Accept.is, ← c.sender_of.ensures) c.accept.ensures.judged

pub returns-in-Floor-clause-heard : goal.returns-in-Floor-clause-heard
unfolding speaker
returns-in-Floor-clause-heard c =
    heard_on c.args.group c.args.number c.args.line.now c.in-Floor.node _ c.store_floor.result _ _ c.in-Floor.is refl
    (on_ok_weaker c.store_floor.result (λ heard. heard c.args.number c.in-Floor.event c.in-Floor.node)
    c.store_floor.ensures.heard)

pub returns-in-Boot-clause-heard : goal.returns-in-Boot-clause-heard
unfolding speaker
returns-in-Boot-clause-heard c =
    λ n speaks. heard_by c.args.group c.args.number c.args.line.now _ c.in-Boot.node.bytes n _ _ c.in-Boot.is refl
    (c.boot.ensures c.in-Boot.event c.in-Boot.node) speaks
