-- By the definition of the lines of all events.
use Rattle.std.proofs.Common.{◌≡◌, [], ◌∷◌, ◌++◌, length, refl}
use Rattle.zb_model.specs.Play.{Schedule, start, groups}
use Rattle.zb_model.specs.Tools.{Tools}
use Rattle.zb_model.specs.Transcript.{end_line, run_lines, transcript}
use Rattle.law_run_steps.proofs.Starts.{run-goes-on, run-ends, group-first}
use Rattle.law_run_steps.proofs.a_run_goes_on.Goals as goal

first : (tools : Tools) (w : Schedule) → start w ++ groups tools w (start w) [] 1 w.events ≡ run_lines tools w
unfolding run_lines
first tools w = refl

last : (tools : Tools) (w : Schedule) → transcript tools w ≡ run_lines tools w
    ++ end_line tools (length w.events) (run_lines tools w) ∷ []
unfolding transcript
last tools w = refl

pub returns : goal.returns
returns c = record { begins = first; goes_on = run-goes-on; ends = run-ends; group = group-first; transcript = last }
