use Rattle.zb_backup.proofs.Both.{text_complete, text_sound}
use Rattle.zb_backup.proofs.laws.backups_are_read_both_ways.Goals as goal

pub returns-clause-sound : goal.returns-clause-sound
returns-clause-sound c = text_sound

pub returns-clause-complete : goal.returns-clause-complete
returns-clause-complete c = text_complete
