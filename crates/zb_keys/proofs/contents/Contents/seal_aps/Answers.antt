use Rattle.zb_model.specs.Data.{Aps}
use Rattle.zb_keys.specs.Tables.{state_of}
use Rattle.zb_keys.proofs.ReadLemmas.{aps_sound}
use Rattle.zb_keys.proofs.HeardLemmas.{sealed_aps, sealed_none}
use Rattle.zb_keys.proofs.contents.Contents.seal_aps.Goals as goal

pub returns-in-Some-clause-state : goal.returns-in-Some-clause-state
returns-in-Some-clause-state c = λ key t so. sealed_aps key (state_of c.args.self.now) t c.in-Some.next so
    c.in-Some.ensures

pub returns-in-Some-clause-sound : goal.returns-in-Some-clause-sound
returns-in-Some-clause-sound c = aps_sound c.args.self.now _ c.requires.sound

pub returns-in-None-clause-state : goal.returns-in-None-clause-state
returns-in-None-clause-state c = λ key t so. sealed_none Aps key (state_of c.args.self.now) t so c.in-None.ensures
