use Rattle.std.proofs.Common.{Bool, None, sym, ap, ◌∙◌, if◌then◌else◌}
use Rattle.zb_audit.proofs.Auditing.{unlocked_is}
use Rattle.zb_trace_watch.proofs.Truth.{not_both}
use Rattle.zb_audit.proofs.auditor.Auditor.unlocked.Goals as goal

pub returns-then-is_locked : goal.returns-then-is_locked
returns-then-is_locked c =
    λ tools h stands.
    ap (λ (b : Bool). if b then c.first_unlocked.result else None) (sym c.if-is_locked.true)
    ∙ unlocked_is tools c.args.self.now h c.is_locked.result c.first_unlocked.result
    (c.is_locked.ensures tools h stands) stands (λ it names locks. c.first_unlocked.ensures tools names h locks)

pub returns-else-is_locked : goal.returns-else-is_locked
returns-else-is_locked c =
    λ tools h stands.
    ap (λ (b : Bool). if b then None else None) (sym c.if-is_locked.false)
    ∙ unlocked_is tools c.args.self.now h c.is_locked.result None (c.is_locked.ensures tools h stands) stands
    (λ it. absurd (not_both _ it c.if-is_locked.false))
