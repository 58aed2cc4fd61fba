use Rattle.std.proofs.Common.{Some, sym, ◌∙◌}
use Rattle.zb_send.proofs.Reserves.{none_reserved, reserved_is}
use Rattle.zb_send.proofs.sent.reserve_for.Goals as goal
use Rattle.zb_send.specs.Sendings.{sending_of}

pub returns-then-is_sealed_at : goal.returns-then-is_sealed_at
returns-then-is_sealed_at c =
    c.drawn_limit.ensures ∙ reserved_is c.args.network.now c.args.tables.now (Some (sending_of c.args.sending.now)) _
    (sym c.is_sealed_at.ensures ∙ c.if-is_sealed_at.true)

pub returns-else-is_sealed_at : goal.returns-else-is_sealed_at
returns-else-is_sealed_at c =
    none_reserved c.args.network.now c.args.tables.now (Some (sending_of c.args.sending.now)) _
    (sym c.is_sealed_at.ensures ∙ c.if-is_sealed_at.false)
