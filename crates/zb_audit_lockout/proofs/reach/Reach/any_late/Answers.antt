use Rattle.std.proofs.Common.{sym, ◌∙◌}
use Rattle.zb_base.specs.declared.key.Key.{Key}
use Rattle.zb_audit_lockout.specs.Reading.{is_late}
use Rattle.zb_audit_lockout.proofs.Loops.{any_here, any_next}
use Rattle.zb_audit_lockout.proofs.reach.Reach.any_late.Goals as goal

pub returns-then-is_late : goal.returns-then-is_late
returns-then-is_late c =
    sym (any_here (λ (key : Key). is_late c.args.self.now.drawn c.args.early key.0)
    c.args.keys.now c.loop-key.key-index _ c.loop-key-test.true (sym c.is_late.ensures ∙ c.if-is_late.true))
    ∙ c.loop-key.invariant

pub loop-key-preserved : goal.loop-key-preserved
loop-key-preserved c =
    any_next (λ (key : Key). is_late c.args.self.now.drawn c.args.early key.0)
    c.args.keys.now c.loop-key.key-index _ c.loop-key-test.true (sym c.is_late.ensures ∙ c.if-is_late.false)
    ∙ c.loop-key.invariant
