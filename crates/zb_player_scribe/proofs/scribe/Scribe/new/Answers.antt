use Rattle.std.proofs.Common.{refl}
use Rattle.zb_model_real.specs.Real.{real}
use Rattle.zb_player_scribe.proofs.Telling.{nothing_kept}
use Rattle.zb_player_scribe.proofs.scribe.Scribe.new.Goals as goal

pub returns-clause-kept : goal.returns-clause-kept
returns-clause-kept c = nothing_kept _ (c.in_ok-new.ensures real) c.new-2.ensures refl refl refl refl
