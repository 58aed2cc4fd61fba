use Rattle.std.proofs.Common.{Option, subst}
use Rattle.zb_model.specs.Data.{Bytes}
use Rattle.zb_audit_names.specs.Naming.{named_by, with_speaker}
use Rattle.zb_audit_names.specs.Standing.{Stands, TellsOf}
use Rattle.zb_audit_names.proofs.Entries.{if_ok, on_ok}
use Rattle.zb_audit_names.proofs.directory.Directory.speaker.Goals as goal

pub returns-in-Some-clause-stands : goal.returns-in-Some-clause-stands
unfolding named_by
returns-in-Some-clause-stands c =
    on_ok c.who.result _ _
    (λ all names known stands. subst (λ (o : Option Bytes). Stands c.who.new.self (with_speaker names o) known)
    c.in-Some.ensures (all names known stands))
    c.who.ensures.stands

pub returns-in-Some-clause-tells : goal.returns-in-Some-clause-tells
unfolding named_by
returns-in-Some-clause-tells c =
    if_ok c.who.result _ _
    (λ who all names known stands. subst (λ (o : Option Bytes). TellsOf who (with_speaker names o) known o)
    c.in-Some.ensures (all names known stands)) c.who.ensures.tells

pub returns-in-None-clause-stands : goal.returns-in-None-clause-stands
unfolding named_by
returns-in-None-clause-stands c =
    λ names known stands. subst (λ (o : Option Bytes). Stands c.args.self.now (with_speaker names o) known)
    c.in-None.ensures stands
