use Rattle.std.proofs.Common.{[], ◌∷◌, ◌++◌}
use Rattle.zb_cursor.specs.Spelling.{byte, short, eui}
use Rattle.zb_cursor.proofs.Pieces.{two}
use Rattle.zb_cmd.proofs.command.put_update.Goals as goal

pub returns : goal.returns
returns c =
    let old = c.args.out.now.items in
    let x1 = c.put_byte.new.out.items in
    let x2 = c.put_eui.new.out.items in
    let x3 = c.put_short.new.out.items in
    let two_fields = two old x1 x2 (6 ∷ []) (eui c.args.device) c.in_ok-put_byte.ensures c.in_ok-put_eui.ensures in
    let three_fields = two old x2 x3 (6 ∷ eui c.args.device) (short c.args.address) two_fields
    c.in_ok-put_short.ensures in
    two old x3 c.put_byte-2.new.out.items (6 ∷ (eui c.args.device ++ short c.args.address)) (byte c.args.status)
    three_fields c.in_ok-put_byte-2.ensures
