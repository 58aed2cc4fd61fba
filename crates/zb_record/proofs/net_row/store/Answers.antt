use Rattle.std.proofs.Common.{◌≡◌, ◌∙◌, length, map, refl, ap, subst, arith}
use Rattle.std.specs.Prelude.{insert}
use Rattle.std.specs.List.{refill}
use Rattle.zb_record.specs.RowViews.{heard_floor}
use Rattle.zb_record.specs.Senders.{IsPlace}
use Rattle.zb_record.proofs.SenderLemmas.{inserted, has_room, refilled}
use Rattle.zb_record.proofs.net_row.store.Goals as goal

pub insert-requires : goal.insert-requires
insert-requires c =
    let absent = c.if-not-raise.ensures.absent refl in
    let same : c.raise.new.floors ≡ c.args.floors.now.items = absent.0 ∙ c.as_mut_slice.ensures.value in
    let full : refill (length c.args.floors.now.items) c.args.floors.now.items c.raise.new.floors
    ≡ c.args.floors.now.items = refilled _ _ (ap length same) ∙ same in
    let place : IsPlace c.args.floors.now.items c.args.sender.0 c.place-at.result =
    subst (λ l. IsPlace l c.args.sender.0 c.place-at.result) c.as_slice.ensures.value c.place-at.ensures in
    rw full (
      omega arith,
      (
        place.within,
        has_room c.args.floors.now.items c.args.sender.0 c.place-at.result c.args.value place
            (rw c.as_mut_slice.ensures.value at absent.1) c.requires,
      ),
    )

pub returns-then-not-raise : goal.returns-then-not-raise
returns-then-not-raise c =
    let absent = c.if-not-raise.ensures.absent refl in
    let same : c.raise.new.floors ≡ c.args.floors.now.items = absent.0 ∙ c.as_mut_slice.ensures.value in
    let full : refill (length c.args.floors.now.items) c.args.floors.now.items c.raise.new.floors
    ≡ c.args.floors.now.items = refilled _ _ (ap length same) ∙ same in
    let place : IsPlace c.args.floors.now.items c.args.sender.0 c.place-at.result =
    subst (λ l. IsPlace l c.args.sender.0 c.place-at.result) c.as_slice.ensures.value c.place-at.ensures in
    ap (map heard_floor)
    (c.insert.ensures.items ∙ ap
    (λ l. insert l c.place-at.result (record { sender = c.args.sender; kept = 0; stored = c.args.value })) full)
    ∙ inserted c.args.floors.now.items c.args.sender.0 c.place-at.result c.args.value _ refl place
    (rw c.as_mut_slice.ensures.value at absent.1)
