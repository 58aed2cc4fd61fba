-- The lines of a run with real frames.
use Rattle.zb_model.specs.Play.{Schedule}
use Rattle.law_run_text.specs.Alone.{AreWide, StandAlone}
use Rattle.zb_model_real.specs.Real.{real}

-- All numbers in them are in the ranges of their fields, and all keys have 16 bytes. So they are proper, and their
-- text is the text of no other proper lines.
pub record AreTheirOwn (w : Schedule) : Type 0 where
  pub wide : AreWide real w
  pub alone : StandAlone real w
