use Rattle.std.proofs.Common.{◌≡◌, ◌+◌, ◌-◌, drop, arith}
use Rattle.zb_store.specs.Layout.{base_of, slot, size_of, standing_in, fields_of}
use Rattle.zb_store.proofs.Finding.{behind_is}
use Rattle.zb_store.proofs.reading.count_found.Goals as goal

pub returns-in-Ok-clause-answer : goal.returns-in-Ok-clause-answer
returns-in-Ok-clause-answer g c told is =
    let f = c.args.found in
    let seen = (g.D.Disk.state c.args.disk.now).seen in
    let y = slot f.second seen in
    let start = c.base.result + 13 + c.from.result in
    let start_is : start ≡ base_of f.second + 13 + f.size = omega (arith, c.base.ensures, c.from.ensures) in
    let room_is : c.saturating_sub-room.result ≡ f.room - (13 + f.size) =
    omega (arith, c.saturating_sub-room.ensures, c.from-2.ensures) in
    let count = c.in-Ok.ensures.entries told (drop (13 + size_of y) y)
    (behind_is f seen is start c.saturating_sub-room.result start_is room_is) in
    (standing_in f.second (fields_of y), is.stands, is.generation, count.0)
