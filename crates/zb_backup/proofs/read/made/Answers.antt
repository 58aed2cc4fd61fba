use Rattle.std.proofs.Common.{sym, ◌∙◌}
use Rattle.zb_backup.proofs.Making.{no_room}
use Rattle.zb_backup.proofs.read.made.Goals as goal

pub returns-then-not-has_room : goal.returns-then-not-has_room
returns-then-not-has_room c = no_room c.args.parts.now (sym c.has_room.ensures ∙ c.if-not-has_room.true)
