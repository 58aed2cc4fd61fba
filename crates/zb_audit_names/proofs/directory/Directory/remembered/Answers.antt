use Rattle.std.proofs.Common.{subst, List, Option, Some}
use Rattle.zb_model.specs.Data.{Bytes, Station}
use Rattle.zb_audit_names.specs.Standing.{AreKnown, IsKnown}
use Rattle.zb_audit_names.specs.declared.directory.Known.{Known}
use Rattle.zb_audit_names.proofs.Entries.{told_found}
use Rattle.zb_audit_names.proofs.directory.Directory.remembered.Goals as goal

pub returns-in-Some : goal.returns-in-Some
returns-in-Some c =
    told_found c.args.self.now c.args.name.now c.who_of.result c.in-Some.known
    (subst (λ (items : List (Option Known)). (names : List Bytes) (known : List Station)
    → AreKnown items names known → IsKnown (Some c.in-Some.known) names known)
    c.as_slice.ensures.value c.in-Some.ensures) c.who_of.ensures
