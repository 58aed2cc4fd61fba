use Rattle.std.proofs.Common.{vec_len, sym, ◌∙◌}
use Rattle.std.proofs.lemmas.Bool.{eqb-true}
use Rattle.std.proofs.lemmas.List.{nil_from_length}
use Rattle.zb_audit_lockout.proofs.Checking.{late_checked, none_late, settled_here}
use Rattle.zb_audit_lockout.proofs.reach.Reach.check.Goals as goal

pub returns-then-is_empty-clause-settles : goal.returns-then-is_empty-clause-settles
returns-then-is_empty-clause-settles c = settled_here c.args.self.now

pub returns-then-is_empty-clause-checked : goal.returns-then-is_empty-clause-checked
returns-then-is_empty-clause-checked c =
    none_late c.args.self.now c.args.keys.now c.in_ok-late.late.items c.in_ok-late.ensures
    (nil_from_length c.in_ok-late.late.items
    (sym c.in_ok-late.late.ok.0
    ∙ eqb-true (vec_len c.in_ok-late.late) 0 (sym c.is_empty.ensures ∙ c.if-is_empty.true)))

pub returns-in_ok-stays-clause-checked : goal.returns-in_ok-stays-clause-checked
returns-in_ok-stays-clause-checked c =
    late_checked c.args.self.now c.find_anew.new.self c.args.keys.now c.in_ok-late.late.items c.in_ok-stays.stays
    c.in_ok-late.ensures c.in_ok-stays.ensures.checked
