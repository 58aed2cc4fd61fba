use Rattle.std.proofs.Common.{◌++◌, ◌∷◌, [], subst, sym}
use Rattle.zb_audit.specs.Standing.{AreConfirmed}
use Rattle.zb_audit.specs.declared.confirming.Confirming.{Confirming}
use Rattle.zb_audit.proofs.ConfirmedKeys.{commit_follows, drop_follows, quiet_follows, row_follows, seal_follows}
use Rattle.zb_audit_names.specs.Naming.{declared_in, speaker}
use Rattle.zb_audit_names.specs.Standing.{IsSpeaker}
use Rattle.zb_trace.specs.declared.line.Line.{Line}
use Rattle.zb_trace.specs.declared.line.Line.TheVariants as line
use Rattle.zb_audit.proofs.confirming.Confirming.line.Goals as goal

pub returns-in_ok-row-in-Row : goal.returns-in_ok-row-in-Row
unfolding speaker
returns-in_ok-row-in-Row c =
    λ names h here.
    subst (λ (l : Line). IsSpeaker c.args.who names (declared_in h) l → AreConfirmed c.args.self.now h
    → AreConfirmed c.row.new.self (h ++ l ∷ [])) (sym c.in-Row.is)
    (λ told before.
    row_follows c.args.self.now c.row.new.self h c.in-Row.event c.in-Row.node c.in-Row.partner c.in-Row.key
    c.in-Row.attribute c.args.number c.args.who.is_centre
    c.in_ok-row-in-Row.ensures.rows c.in_ok-row-in-Row.ensures.committed c.in_ok-row-in-Row.ensures.first here
    told.centre before)

pub returns-in-DropLink : goal.returns-in-DropLink
unfolding speaker
returns-in-DropLink c =
    λ names h here.
    subst (λ (l : Line). IsSpeaker c.args.who names (declared_in h) l → AreConfirmed c.args.self.now h
    → AreConfirmed c.unsettle.new.self (h ++ l ∷ [])) (sym c.in-DropLink.is)
    (λ told before.
    drop_follows c.args.self.now c.unsettle.new.self h c.in-DropLink.event c.in-DropLink.node c.in-DropLink.partner
    c.in-DropLink.key c.args.who.is_centre
    c.unsettle.ensures.rows c.unsettle.ensures.committed c.unsettle.ensures.first told.centre before)

pub returns-in-Commit : goal.returns-in-Commit
unfolding speaker
returns-in-Commit c =
    λ names h here.
    subst (λ (l : Line). IsSpeaker c.args.who names (declared_in h) l → AreConfirmed c.args.self.now h
    → AreConfirmed c.commit.new.self (h ++ l ∷ [])) (sym c.in-Commit.is)
    (λ told before.
    subst (λ (new : Confirming). AreConfirmed new (h ++ line.Commit c.in-Commit.event c.in-Commit.node ∷ []))
    (sym c.commit.ensures)
    (commit_follows c.args.self.now h c.in-Commit.event c.in-Commit.node c.args.number c.args.who.is_centre here
    told.centre before))

pub returns-in-Seal : goal.returns-in-Seal
unfolding speaker
returns-in-Seal c =
    λ names h here.
    subst (λ (l : Line). IsSpeaker c.args.who names (declared_in h) l → AreConfirmed c.args.self.now h
    → AreConfirmed c.seal.new.self (h ++ l ∷ [])) (sym c.in-Seal.is)
    (λ told before.
    seal_follows c.args.self.now c.seal.new.self h c.in-Seal.event c.in-Seal.node c.in-Seal.term c.args.number
    c.args.who.is_centre
    c.seal.ensures.rows c.seal.ensures.committed c.seal.ensures.first here told.centre before)

pub returns-in_default : goal.returns-in_default
returns-in_default c =
    λ names h here told before.
    let it = c.in_default in
    quiet_follows c.args.self.now h c.args.line.now it.not-Row it.not-DropLink it.not-Commit it.not-Seal before
