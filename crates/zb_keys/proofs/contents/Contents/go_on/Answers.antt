use Rattle.zb_keys.proofs.ReadLemmas.{aps_sound}
use Rattle.zb_keys.proofs.contents.Contents.go_on.Goals as goal

pub returns-in-Aps-clause-sound : goal.returns-in-Aps-clause-sound
returns-in-Aps-clause-sound c = aps_sound c.args.self.now _ c.requires.sound
