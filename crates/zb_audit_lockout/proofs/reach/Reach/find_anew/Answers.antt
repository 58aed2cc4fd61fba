use Rattle.std.proofs.Common.{List, subst}
use Rattle.zb_audit_lockout.specs.Standing.{EnteredAll}
use Rattle.zb_audit_lockout.specs.declared.opened.Opening.{Opening}
use Rattle.zb_audit_lockout.proofs.Checking.{found_anew, settled_more}
use Rattle.zb_audit_lockout.proofs.reach.Reach.find_anew.Goals as goal

pub returns-clause-settles : goal.returns-clause-settles
returns-clause-settles c =
    settled_more c.args.self.now c.take_back.new.self c.try_all.new.self c.in_ok-openings.ensures.settles
    c.in_ok-stays.ensures.settles

pub returns-clause-checked : goal.returns-clause-checked
returns-clause-checked c =
    found_anew c.args.self.now c.take_back.new.self c.try_all.new.self c.args.keys.items
    c.in_ok-openings.openings.items c.in_ok-stays.stays c.in_ok-openings.ensures.settles
    c.in_ok-stays.ensures.settles c.in_ok-openings.ensures.taken
    (subst (λ (list : List Opening). EnteredAll c.take_back.new.self c.try_all.new.self list c.in_ok-stays.stays)
    c.deref.ensures.value c.in_ok-stays.ensures.entered)
