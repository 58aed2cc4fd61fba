-- The laws over every run, for real frames.
use Rattle.std.proofs.Common.{◌≡◌, List, [], ◌∷◌, ◌++◌, length, true}
use Rattle.law_run_counters.proofs.Floors.{floors-are-for}
use Rattle.law_run_counters.proofs.Unique.{counted, unique}
use Rattle.law_run_lookups.proofs.Senders.{has-room}
use Rattle.law_run_lookups.proofs.Standing.{granted}
use Rattle.law_run_lookups.proofs.Suited.{draws, suited}
use Rattle.law_run.proofs.ConfirmsRuns.{confirms}
use Rattle.law_run.proofs.LawfulRuns.{lawful}
use Rattle.law_run.proofs.LockoutLaw.{locked}
use Rattle.law_run.proofs.OnceRuns.{once}
use Rattle.law_run.proofs.Runs.{fresh}
use Rattle.law_run.proofs.SpentLaw.{transcript-spent}
use Rattle.law_run.proofs.SpentSteps.{takes-all}
use Rattle.law_run.specs.Premises.{Premises}
use Rattle.zb_model.specs.Lines.{Line}
use Rattle.zb_model.specs.Play.{Schedule}
use Rattle.zb_model.specs.Secrets.{ideal, private}
use Rattle.zb_model.specs.Transcript.{end_line, run_lines, transcript}
use Rattle.law_real_runs.specs.Headline.{EndsYesYes, Holds, SaysYesYes}
use Rattle.zb_model_real.specs.Real.{real}
use Rattle.law_real_runs.proofs.Opening.{opens-real}
use Rattle.law_real_runs.proofs.Confirming.{spells-confirm}
use Rattle.law_real_runs.proofs.OwnKeys.{shows-keys}

-- a list of lines ends with its last line
ends : (ls : List Line) (l : Line) → EndsYesYes (ls ++ l ∷ []) → SaysYesYes l
ends [] l e = e
ends (x ∷ []) l e = e
ends (x ∷ y ∷ ls) l e = ends (y ∷ ls) l e

two_words : (w : Schedule) → EndsYesYes (transcript real w) → (ideal real (run_lines real w) ≡ true)
    × (private real (run_lines real w) ≡ true)
unfolding transcript end_line
two_words w e = ends (run_lines real w) (end_line real (length w.events) (run_lines real w)) e

pub holds : (w : Schedule) → Premises w → Holds w
holds w p = record {
  lawful = lawful real w;
  counted = counted real opens-real w;
  alone = unique real opens-real w;
  in_order = takes-all real w p.schedule;
  floors = floors-are-for real opens-real w;
  spent = transcript-spent real w p.schedule;
  granted = granted real opens-real w p.keys;
  draws = draws real opens-real w p.keys;
  suited = suited real w p.schedule;
  room = has-room real opens-real w p.schedule.few_nodes;
  fresh = fresh real w p.schedule;
  once = once real opens-real w p.schedule;
  confirms = confirms real opens-real spells-confirm w p.schedule p.one_centre;
  locked = λ e. locked real opens-real shows-keys w p.schedule p.one_centre p.keys (two_words w e).0 (two_words w e).1;
}
