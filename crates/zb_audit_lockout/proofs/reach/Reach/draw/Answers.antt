use Rattle.std.proofs.Common.{◌++◌, ◌∷◌, [], ℕ, List, ap, ◌∙◌, bytes_eq, subst}
use Rattle.std.specs.Prelude.{if◌then◌else◌}
use Rattle.zb_base.specs.declared.key.Key.{Key}
use Rattle.zb_audit_lockout.specs.Reading.{number_of}
use Rattle.zb_audit_lockout.specs.Standing.{Checked}
use Rattle.zb_audit_lockout.specs.declared.numbers.Numbers.{Numbers}
use Rattle.zb_audit_lockout.specs.declared.reach.Reach.{Reach}
use Rattle.zb_audit_lockout.proofs.Telling.{drawn_tells}
use Rattle.zb_audit_lockout.proofs.reach.Reach.draw.Goals as goal

pub returns-clause-draws : goal.returns-clause-draws
returns-clause-draws c =
    let s = c.in_ok-stays.ensures.settles in
    record {
      windows = s.windows;
      leads = s.leads;
      held = s.held;
      drawn = λ k. ap (λ (n : Numbers). number_of n k) s.drawn
          ∙ (c.in_ok-set.ensures k
          ∙ ap (λ (n : ℕ). if bytes_eq k c.args.key.0 then n else number_of c.args.self.now.drawn k)
          c.from-last.ensures);
    }

pub returns-clause-tells : goal.returns-clause-tells
returns-clause-tells c =
    let mid : Reach =
    record {
      windows = c.args.self.now.windows;
      leads = c.args.self.now.leads;
      held = c.args.self.now.held;
      back = c.args.self.now.back;
      drawn = c.set.new.self;
      spread = c.args.self.now.spread;
    } in
    drawn_tells c.args.self.now c.check.new.self c.set.new.self c.args.key c.in_ok-stays.stays
    (λ k. c.in_ok-set.ensures k
    ∙ ap (λ (n : ℕ). if bytes_eq k c.args.key.0 then n else number_of c.args.self.now.drawn k) c.from-last.ensures)
    (subst (λ (keys : List Key). Checked mid c.check.new.self keys c.in_ok-stays.stays)
    (c.deref.ensures.value
    ∙ (c.in_ok-push.ensures.items ∙ ap (λ (l : List Key). l ++ c.args.key ∷ []) c.new-keys.ensures.items))
    c.in_ok-stays.ensures.checked)
