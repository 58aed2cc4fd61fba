use Rattle.std.proofs.Common.{[], ◌∷◌, ◌∙◌, sym, ap, map, ◌-◌, ◌+◌, length, arith, length-append}
use Rattle.std.proofs.lemmas.Result.{err_from_is_err_and}
use Rattle.std.proofs.lemmas.List.{map_push}
use Rattle.zb_model.specs.Fits.{senders_ascend}
use Rattle.zb_record.specs.Rows.{is_last, sender_seen, sender_at}
use Rattle.zb_record.specs.Placed.{rows_at}
use Rattle.zb_record.specs.declared.sender.SenderRecord.{SenderRecord}
use Rattle.zb_record.proofs.Sound.{ascend_snoc}
use Rattle.zb_record.proofs.Placing.{go_on, stop, all_read}
use Rattle.zb_record.proofs.sender.read_senders.Goals as goal

pub returns-in_err-floor : goal.returns-in_err-floor
returns-in_err-floor c =
    let p = err_from_is_err_and c.from_residual.result c.from_residual.ensures.1 in
    rw (p.1, p.2)
    (stop sender_at sender_seen c.args.count c.loop.counter c.loop.reader.rest.now c.loop.floors.items
    (rows_at sender_at c.args.count [] c.args.reader.now.rest.now) c.in_err-floor.field-0.0 c.loop-test.true
    (ap (λ l. sender_at (map sender_seen l) c.loop.reader.rest.now) (sym c.as_slice.ensures.value) ∙
    c.in_err-floor.ensures.exact) c.loop.invariant.0)

pub loop-preserved : goal.loop-preserved
loop-preserved c = (
  ap (λ l. rows_at sender_at (c.args.count - (c.loop.counter + 1)) (map sender_seen l)
      c.read_sender.new.reader.rest.now) c.push.ensures.items
      ∙ go_on sender_at sender_seen c.args.count c.loop.counter c.loop.reader.rest.now c.loop.floors.items
      (rows_at sender_at c.args.count [] c.args.reader.now.rest.now) c.read_sender.new.reader.rest.now
      c.in_ok-floor.floor c.loop-test.true
      (ap (λ l. sender_at (map sender_seen l) c.loop.reader.rest.now) (sym c.as_slice.ensures.value) ∙
      c.in_ok-floor.ensures.exact) c.loop.invariant.0,
  (
    omega (
      arith,
      ap (length {A = SenderRecord}) c.push.ensures.items,
      length-append c.loop.floors.items (c.in_ok-floor.floor ∷ []),
      c.loop.invariant.1.0,
    ),
    ap (λ l. senders_ascend (map sender_seen l)) c.push.ensures.items
        ∙ ap senders_ascend (map_push sender_seen c.loop.floors.items c.in_ok-floor.floor)
        ∙ ascend_snoc (map sender_seen c.loop.floors.items) (sender_seen c.in_ok-floor.floor) c.loop.invariant.1.1
        (ap (λ l. is_last (map sender_seen l) c.in_ok-floor.floor.sender) (sym c.as_slice.ensures.value)
        ∙ c.in_ok-floor.ensures.last),
  ),
)

pub returns : goal.returns
returns c =
    all_read sender_at sender_seen c.args.count c.loop.counter c.loop.reader.rest.now c.loop.floors.items
    (rows_at sender_at c.args.count [] c.args.reader.now.rest.now) c.loop-test.false c.loop.invariant.0
