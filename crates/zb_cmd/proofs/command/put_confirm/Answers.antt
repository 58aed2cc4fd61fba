use Rattle.std.proofs.Common.{[], ◌∷◌}
use Rattle.zb_cursor.specs.Spelling.{eui}
use Rattle.zb_cursor.proofs.Pieces.{two}
use Rattle.zb_cmd.proofs.command.put_confirm.Goals as goal

pub returns : goal.returns
returns c = two c.args.out.now.items c.put.new.out.items c.put_eui.new.out.items
    (16 ∷ c.args.status ∷ c.args.kind ∷ []) (eui c.args.destination) c.in_ok-put.ensures.appends
    c.in_ok-put_eui.ensures
