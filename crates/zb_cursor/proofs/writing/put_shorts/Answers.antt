use Rattle.std.proofs.lemmas.Result.{err_from_is_err_and}
use Rattle.zb_cursor.proofs.Shorts.{put_none}
use Rattle.zb_cursor.proofs.writing.put_shorts.Goals as goal

pub returns-in_err-put_short : goal.returns-in_err-put_short
returns-in_err-put_short c =
    let p = err_from_is_err_and c.from_residual-in_err-put_short.result c.from_residual-in_err-put_short.ensures.1 in
    rw p.1 (put_none c.args.out.now.items c.args.shorts.now c.loop-address.address-index c.loop-address.out.items
    c.loop-address.invariant c.loop-address-test.true c.in_err-put_short.ensures)
