use Rattle.std.proofs.Common.{List, subst, sym, ap, ◌∙◌}
use Rattle.zb_model.specs.Data.{Station}
use Rattle.zb_audit_names.specs.Naming.{station_named}
use Rattle.zb_audit_names.specs.Standing.{Stands}
use Rattle.zb_audit_names.proofs.Entries.{is_undeclared, on_ok, stays_declared, with_undeclared}
use Rattle.zb_audit_names.proofs.directory.Directory.declare_node.Goals as goal

pub returns-in-Some : goal.returns-in-Some
returns-in-Some c = λ names known s its tells stands. stays_declared c.args.self.now names known s c.args.name.bytes _
    c.args.who c.in-Some.is tells its.name_is stands

pub returns-in-None : goal.returns-in-None
returns-in-None c =
    on_ok c.first_node.result _ _
    (λ all names known s its tells stands.
    let none = is_undeclared c.args.who names known c.args.name.bytes c.in-None.is tells in
    subst (λ (k : List Station). Stands c.first_node.new.self names k)
    (sym (with_undeclared known s (ap (station_named known) its.name_is ∙ none)))
    (all names known s its tells.place none stands))
    c.first_node.ensures
