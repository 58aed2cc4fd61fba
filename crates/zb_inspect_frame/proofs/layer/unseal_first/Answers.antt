-- The key that is tried is the first of those that are left.
use Rattle.std.proofs.Common.{◌+◌, drop, arith, ap, sym, ◌∙◌}
use Rattle.zb_base.specs.declared.key.Key.{Key}
use Rattle.zb_seal.specs.Opening.{content_of, term_of}
use Rattle.zb_seal.specs.declared.envelope.Envelope.{Envelope}
use Rattle.zb_inspect_frame.specs.Layers.{opened_by}
use Rattle.zb_inspect_frame.specs.declared.layer.Finding.TheVariants.{Opened}
use Rattle.zb_inspect_frame.proofs.Trying.{opens_here, opens_later, first_left}
use Rattle.zb_inspect_frame.proofs.layer.unseal_first.Goals as goal

pub returns-in-Ok-clause-opened : goal.returns-in-Ok-clause-opened
returns-in-Ok-clause-opened c =
    let closed = c.loop-sealing_keys.envelope in
    let place = c.loop-sealing_keys.place in
    let rest = drop (c.loop-sealing_keys.sealing_keys-index + 1) c.args.keys.now in
    sym (ap (Opened (place + 1)) (ap (λ (k : Key). term_of c.unseal.new.self k c.args.source) c.base.ensures)
    ∙ sym (opens_here closed c.unseal.new.self c.args.source place c.sealing_keys-item.result rest
    (ap (λ k. content_of closed k c.args.source) (sym c.of-cipher.ensures) ∙ c.in-Ok.ensures.opened)
    c.unseal.ensures.same)
    ∙ ap (opened_by closed c.args.source place)
    (sym (first_left c.args.keys.now c.loop-sealing_keys.sealing_keys-index c.sealing_keys-item.result
    c.loop-sealing_keys-test.true c.sealing_keys-item.is))
    ∙ c.loop-sealing_keys.invariant.0)

pub loop-sealing_keys-preserved : goal.loop-sealing_keys-preserved
loop-sealing_keys-preserved c =
    let closed = c.loop-sealing_keys.envelope in
    let place = c.loop-sealing_keys.place in
    let rest = drop (c.loop-sealing_keys.sealing_keys-index + 1) c.args.keys.now in (
      ap (λ (s : Envelope). opened_by s c.args.source (place + 1) rest) c.in-Err.ensures.kept
          ∙ sym (opens_later closed c.args.source place c.sealing_keys-item.result rest
          (ap (λ k. content_of closed k c.args.source) (sym c.of-cipher.ensures) ∙ c.in-Err.ensures.refused))
          ∙ ap (opened_by closed c.args.source place)
          (sym (first_left c.args.keys.now c.loop-sealing_keys.sealing_keys-index c.sealing_keys-item.result
          c.loop-sealing_keys-test.true c.sealing_keys-item.is))
          ∙ c.loop-sealing_keys.invariant.0,
      omega (arith, c.loop-sealing_keys.invariant.1),
      c.in-Err.ensures.kept ∙ c.loop-sealing_keys.invariant.2,
    )
