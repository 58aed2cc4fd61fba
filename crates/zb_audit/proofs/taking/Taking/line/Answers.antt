use Rattle.std.proofs.Common.{◌++◌, ◌∷◌, [], subst, sym}
use Rattle.zb_audit.specs.Standing.{AreTaken}
use Rattle.zb_audit.proofs.TakenCounters.{accept_follows, quiet_follows}
use Rattle.zb_audit_names.specs.Naming.{declared_in, speaker}
use Rattle.zb_audit_names.specs.Standing.{IsSpeaker}
use Rattle.zb_trace.specs.declared.line.Line.{Line}
use Rattle.zb_audit.proofs.taking.Taking.line.Goals as goal

pub returns-in_ok-accept-in-Accept : goal.returns-in_ok-accept-in-Accept
unfolding speaker
returns-in_ok-accept-in-Accept c =
    λ names h here.
    subst (λ (l : Line). IsSpeaker c.args.who names (declared_in h) l → AreTaken names c.args.self.now h
    → AreTaken names c.accept.new.self (h ++ l ∷ [])) (sym c.in-Accept.is)
    (λ told before.
    accept_follows names c.args.self.now c.accept.new.self h c.in-Accept.event c.in-Accept.node c.in-Accept.term
    c.args.who.place c.args.number c.in_ok-accept-in-Accept.ensures.heights
    c.in_ok-accept-in-Accept.ensures.first here told.place before)

pub returns-in_default : goal.returns-in_default
returns-in_default c = λ names h here speaker before. quiet_follows names c.args.self.now h c.args.line.now
    c.in_default.not-Accept before
