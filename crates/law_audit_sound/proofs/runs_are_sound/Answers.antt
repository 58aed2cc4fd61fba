-- Only lockout asks of real frames what a node's own frame shows of a key.
use Rattle.law_audit_sound.proofs.Whole.{sound}
use Rattle.law_audit_sound.proofs.runs_are_sound.Goals as goal

pub returns : goal.returns
returns c = sound c.frames_show_their_own_keys.ensures
