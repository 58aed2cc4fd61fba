-- What the scribe of a run keeps of the lines so far, and what it is that it told lines.
use Rattle.std.specs.Prelude.{◌≡◌, ℕ, ◌+◌, List, ◌++◌, fold, length, Option}
use Rattle.std.specs.Io.KnownBytes.{append_known}
use Rattle.zb_model.specs.Data.{Station}
use Rattle.zb_model.specs.Lines as log
use Rattle.zb_model.specs.Readings.{air, air_line, draw_line, draws_used, stations_of}
use Rattle.zb_model.specs.Transcript.{accept_count, refuse_count, seal_count}
use Rattle.zb_model_real.specs.Real.{real}
use Rattle.zb_trace_model.specs.Said.{text_of}
use Rattle.zb_player_scribe.specs.declared.scribe.Scribe.{Scribe}
use Rattle.zb_trace_watch.specs.Watching.{Stands}

-- The scribe has of these lines what a run needs of them.
pub record Kept (h : List log.Line) (k : Scribe) : Type 0 where
  pub watch : Stands real k.watch h
  pub air : k.air ≡ air h
  pub used : k.used ≡ draws_used h
  pub seals : k.seals ≡ fold seal_count 0 h
  pub accepts : k.accepts ≡ fold accept_count 0 h
  pub refusals : k.refusals ≡ fold refuse_count 0 h

-- how many lines it counted
abbrev pub told : Scribe → ℕ
told k = k.used + (k.seals + (k.accepts + (k.refusals + length k.air)))

-- What a line changes of a scribe beside its watch.
pub record Counts (m : log.Line) (old new : Scribe) : Type 0 where
  pub watch : new.watch ≡ old.watch
  pub air : new.air ≡ air_line old.air m
  pub used : new.used ≡ draw_line old.used m
  pub seals : new.seals ≡ seal_count old.seals m
  pub accepts : new.accepts ≡ accept_count old.accepts m
  pub refusals : new.refusals ≡ refuse_count old.refusals m

-- Lines of the model were told, none of which declares a node. Where the page is read their text is after what stood
-- on it. The scribe keeps what they say after the lines before them.
pub record Tells (known : List Station) (lines : List log.Line) (old : Scribe) (before : Option (List ℕ))
    (new : Scribe) (after : Option (List ℕ)) : Type 0 where
  pub page : after ≡ append_known before (text_of known lines)
  pub kept : (h : List log.Line) → stations_of h ≡ known → Kept h old → Kept (h ++ lines) new
  pub nodes : (h : List log.Line) → stations_of h ≡ known → stations_of (h ++ lines) ≡ known
