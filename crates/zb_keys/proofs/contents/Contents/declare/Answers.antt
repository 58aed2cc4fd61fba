use Rattle.zb_keys.specs.Tables.{state_of}
use Rattle.zb_keys.proofs.ReadLemmas.{declared_sound, declared_state}
use Rattle.zb_keys.proofs.contents.Contents.declare.Goals as goal

pub returns-clause-state : goal.returns-clause-state
returns-clause-state c = declared_state (state_of c.args.self.now) c.args.start c.requires.empty

pub returns-clause-sound : goal.returns-clause-sound
returns-clause-sound c = declared_sound c.args.self.now _ c.requires.sound
