use Rattle.std.proofs.Common.{refl}
use Rattle.zb_audit_lockout.proofs.Pasts.{past_nothing}
use Rattle.zb_audit_lockout.proofs.Recalling.{recalls_nothing}
use Rattle.zb_audit_lockout.proofs.past.Past.new.Goals as goal

pub returns : goal.returns
returns c =
    λ tools names.
    let it = c.in_ok-new.ensures in
    past_nothing tools names _ refl c.new-2.ensures.items
    (recalls_nothing tools names c.in_ok-new.field-0 _ refl it.settled it.ever it.carried it.removed it.live)
