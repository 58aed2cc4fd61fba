use Rattle.std.proofs.Common.{List, subst, sym, ◌++◌, ◌∷◌, []}
use Rattle.zb_model.specs.Data.{Bytes, Station}
use Rattle.zb_audit_names.specs.Naming.{declared_in, named_by, names_in}
use Rattle.zb_audit_names.specs.Standing.{IsSpeaker, Stands}
use Rattle.zb_audit_names.proofs.Entries.{declared_more, names_more}
use Rattle.zb_audit_names.proofs.directory.Directory.line.Goals as goal

pub returns-clause-stands : goal.returns-clause-stands
returns-clause-stands c =
    λ h stands.
    subst (λ (n : List Bytes). Stands c.declare.new.self n (declared_in (h ++ c.args.line.now ∷ [])))
    (sym (names_more h c.args.line.now))
    (subst (λ (k : List Station). Stands c.declare.new.self (named_by (names_in h) c.args.line.now) k)
    (sym (declared_more h c.args.line.now))
    (c.in_ok-declare.ensures (named_by (names_in h) c.args.line.now) (declared_in h)
    (c.in_ok-who.ensures.tells (names_in h) (declared_in h) stands)
    (c.in_ok-who.ensures.stands (names_in h) (declared_in h) stands)))

pub returns-clause-tells : goal.returns-clause-tells
returns-clause-tells c =
    λ h stands.
    subst (λ (n : List Bytes). IsSpeaker c.in_ok-who.who n (declared_in h) c.args.line.now)
    (sym (names_more h c.args.line.now))
    (c.in_ok-who.ensures.tells (names_in h) (declared_in h) stands)
