use Rattle.std.proofs.Common.{◌++◌}
use Rattle.std.specs.Int.{w32}
use Rattle.zb_cursor.specs.Spelling.{byte, number, eui}
use Rattle.zb_cursor.proofs.Pieces.{two}
use Rattle.zb_nwk.proofs.auxiliary.put_aux.Goals as goal

pub returns : goal.returns
returns c =
    let old = c.args.out.now.items in
    let a = c.args.value.now in
    let x1 = c.put_byte.new.out.items in
    let x2 = c.put_number32.new.out.items in
    let x3 = c.put_eui.new.out.items in
    let two_fields = two old x1 x2 (byte a.control) (number w32 a.counter) c.in_ok-put_byte.ensures
    c.in_ok-put_number32.ensures in
    let three_fields = two old x2 x3 (byte a.control ++ number w32 a.counter) (eui a.source) two_fields
    c.in_ok-put_eui.ensures in
    two old x3 c.put_byte-2.new.out.items (byte a.control ++ number w32 a.counter ++ eui a.source)
    (byte a.key_sequence) three_fields c.in_ok-put_byte-2.ensures
