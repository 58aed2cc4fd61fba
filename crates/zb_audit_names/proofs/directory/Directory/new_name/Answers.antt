use Rattle.std.proofs.Common.{◌∙◌}
use Rattle.zb_audit_names.proofs.Entries.{is_new, stands_new, stands_with_new, tells_with_new}
use Rattle.zb_audit_names.proofs.directory.Directory.new_name.Goals as goal

pub returns-clause-stands : goal.returns-clause-stands
returns-clause-stands c =
    λ none names known stands.
    stands_with_new c.args.self.now _ c.args.name names known none stands
    (stands_new c.args.self.now c.len.result c.insert.new.self c.in_ok-insert.field-0 names known c.args.name
    c.len.ensures.len stands
    (is_new c.args.self.now names known c.args.name stands none) (c.in_ok-insert.ensures.old ∙ none)
    c.in_ok-insert.ensures.len (c.in_ok-insert.ensures.updates.0))

pub returns-clause-tells : goal.returns-clause-tells
returns-clause-tells c = λ none names known stands. tells_with_new c.args.self.now c.len.result c.args.name names
    known c.len.ensures.len none stands
