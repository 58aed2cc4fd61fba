-- The keys that are left decide.
use Rattle.std.proofs.Common.{◌≡◌, drop}
use Rattle.std.specs.List.{list_any}
use Rattle.zb_base.specs.declared.key.Key.{Key}
use Rattle.zb_audit_lockout.specs.Reading.{is_late}
use Rattle.zb_audit_lockout.proofs.reach.Reach.any_late.Given as goal

abbrev pub invariant-loop-key : goal.invariant-loop-key
invariant-loop-key l =
    list_any (λ (key : Key). is_late l.self.drawn l.early key.0) (drop l.key-index l.keys)
    ≡ list_any (λ (key : Key). is_late l.self.drawn l.early key.0) l.keys
