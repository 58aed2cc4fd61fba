use Rattle.std.proofs.Common.{List, subst, sym, refl}
use Rattle.zb_model.specs.Data.{Station}
use Rattle.zb_trace.specs.declared.line.Line.{Line}
use Rattle.zb_audit_names.specs.Naming.{declares, speaker}
use Rattle.zb_audit_names.specs.Standing.{IsSpeaker, Stands}
use Rattle.zb_audit_names.proofs.Entries.{on_ok, quiet}
use Rattle.zb_audit_names.proofs.directory.Directory.declare.Goals as goal

pub returns-in-Node : goal.returns-in-Node
unfolding declares speaker
returns-in-Node c =
    on_ok c.declare_node.result _ _
    (λ all names known.
    subst (λ (l : Line). IsSpeaker c.args.who names known l → Stands c.args.self.now names known
    → Stands c.declare_node.new.self names (declares known l)) (sym c.in-Node.is)
    (λ tells stands. all names known _
    (record { name_is = refl; eui_is = refl; role_is = refl; out_is = refl; in_is = refl }) tells stands))
    c.declare_node.ensures

pub returns-in_default : goal.returns-in_default
returns-in_default c = λ names known tells stands. subst (λ (k : List Station). Stands c.args.self.now names k)
    (sym (quiet c.args.line.now c.in_default.not-Node known)) stands
