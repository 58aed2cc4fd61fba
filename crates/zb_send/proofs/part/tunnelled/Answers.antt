-- A sealed command has at least 19 bytes, and the extended nonce in its third.
use Rattle.std.proofs.Common.{◌∙◌, ap, arith}
use Rattle.zb_model_real.specs.Real.{real}
use Rattle.zb_send.proofs.Lengths.{inner_shaped}
use Rattle.zb_send.proofs.part.tunnelled.Goals as goal

pub tunnel-bytes-requires-clause-shaped : goal.tunnel-bytes-requires-clause-shaped
tunnel-bytes-requires-clause-shaped c =
    inner_shaped c.args.key.now.0 c.args.seals.now.me.0 c.args.seals.now.aps c.spelled.result.items
    c.sealed-inner.result.items
    (c.sealed-inner.ensures.text ∙ ap real.wire c.command_term-term.ensures.term)
    (omega (arith, c.sealed-inner.ensures.len, c.command_term-term.ensures.len))
