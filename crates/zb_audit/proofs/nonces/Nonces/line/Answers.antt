use Rattle.std.proofs.Common.{◌++◌, ◌∷◌, [], subst, sym}
use Rattle.zb_audit.specs.Standing.{AreNonces}
use Rattle.zb_audit.proofs.FreshNonces.{quiet_follows, seal_follows}
use Rattle.zb_trace.specs.declared.line.Line.{Line}
use Rattle.zb_audit.proofs.nonces.Nonces.line.Goals as goal

pub returns-in_ok-seal-in-Seal : goal.returns-in_ok-seal-in-Seal
returns-in_ok-seal-in-Seal c =
    λ h here before.
    subst (λ (l : Line). AreNonces c.seal.new.self (h ++ l ∷ [])) (sym c.in-Seal.is)
    (seal_follows c.args.self.now c.seal.new.self h c.in-Seal.event c.in-Seal.node c.in-Seal.term c.args.number
    c.in_ok-seal-in-Seal.ensures.seen c.in_ok-seal-in-Seal.ensures.first here before)

pub returns-in_default : goal.returns-in_default
returns-in_default c = λ h here before. quiet_follows c.args.self.now h c.args.line.now c.in_default.not-Seal before
