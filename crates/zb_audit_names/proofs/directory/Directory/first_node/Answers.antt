use Rattle.std.proofs.Common.{◌∙◌}
use Rattle.zb_audit_names.proofs.Entries.{by_left, by_right, stands_declared}
use Rattle.zb_audit_names.proofs.directory.Directory.first_node.Goals as goal
use Rattle.zb_audit_names.proofs.directory.Directory.first_node.Goals.{then-self, else-self}

pub returns : goal.returns
returns c =
    λ names known s its there none stands.
    stands_declared c.args.self.now c.insert.new.self c.in_ok-insert.field-0 _ c.is_first_centre-is_centre.result
    c.args.name c.args.place c.args.node names known s its there none stands
    c.is_first_centre-is_centre.ensures
    (elim c.if-self.branch [
      | then-self w ↦ w.self-is ∙ by_left _ c.is_first_centre-is_centre.result w.if-self.true
      | else-self w ↦
          w.self-is ∙ by_right c.args.self.now.has_centre _ w.if-self.false
    ]) c.in_ok-insert.ensures.old
    c.in_ok-insert.ensures.len (c.in_ok-insert.ensures.updates.0)
