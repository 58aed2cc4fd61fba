use Rattle.zb_rows.proofs.Rooms.{added}
use Rattle.zb_rows.proofs.moves.add.Goals as goal

pub returns-clause-made : goal.returns-clause-made
returns-clause-made c = added c.args.changes.now.items c.push.new.self.items c.args.change c.push.ensures.items
