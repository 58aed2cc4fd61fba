use Rattle.std.proofs.Common.{refl}
use Rattle.zb_audit_lockout.proofs.Lines.{go_on_stands, held_on}
use Rattle.zb_audit_lockout.specs.declared.lockout.Lockout.{Lockout}
use Rattle.zb_audit_lockout.proofs.lockout.Lockout.go_on.Goals as goal

pub returns : goal.returns
returns c =
    λ tools names h find number_is speaks none stands.
    let mid : Lockout =
    record {
      first = c.args.self.now.first;
      past = c.line.new.self;
      reach = c.args.self.now.reach;
      evidence = c.args.self.now.evidence;
    } in
    go_on_stands tools names c.args.self.now c.judge.new.self _ h c.args.line.now c.args.number c.in_ok-stays.stays
    number_is none stands
    (λ held.
    held_on tools names c.args.self.now mid c.judge.new.self h c.args.line.now c.args.number c.args.who
    c.in_ok-stays.stays find number_is speaks refl refl
    (c.in_ok-line.ensures tools names h find speaks held.past) c.in_ok-stays.ensures.judges held)
    refl refl refl c.unless-self.ensures
