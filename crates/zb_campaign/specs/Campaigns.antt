-- Campaigns: generated schedules with consecutive start values, each of them played, and the ends of the runs (this
-- project's profile).
use Rattle.std.specs.Prelude.{ℕ, ◌+◌, ◌%◌, List, [], ◌∷◌, ◌++◌, length, map, sum_by, codes, decimal, Result, Ok, Err}
use Rattle.std.specs.List.{range_with_len}
use Rattle.zb_gen.specs.Made.{made_schedule}
use Rattle.zb_model.specs.Data.{Bytes}
use Rattle.zb_model.specs.Lines.{Line, End}
use Rattle.zb_model.specs.Transcript.{end_line, run_lines}
use Rattle.zb_model_real.specs.Real.{real}
use Rattle.law_schedules.specs.Schedules.{schedule_of}
use Rattle.zb_trace_model.specs.Said.{line_text}
use Rattle.zb_sched.specs.Schedules.{Schedule}
use Rattle.zb_sched.specs.declared.error.SchedError.{SchedError}
use Rattle.zb_text.specs.Words.{then}

-- The last line of the transcript that the policy gives for a schedule.
abbrev pub ending : Schedule → Line
ending p = end_line real (length p.events) (run_lines real (schedule_of p))

abbrev pub if_made : Result Schedule SchedError → Result Line SchedError
if_made (Ok p) = Ok (ending p)
if_made (Err e) = Err e

-- The last line of the transcript of run i, from 0, or the clash of its schedule. It has 1 + i mod 8 routers and
-- devices.
unfoldable pub ending_of_run : ℕ → ℕ → Result Line SchedError
ending_of_run start i = if_made (made_schedule (start + i) (1 + i % 8))

-- ---- The results of several, one after the other, or the first fault

abbrev pub behind : {A E : Type 0} → List A → Result (List A) E → Result (List A) E
behind front (Ok more) = Ok (front ++ more)
behind front (Err e) = Err e

abbrev pub all_of : {A E : Type 0} → List (Result A E) → Result (List A) E
all_of [] = Ok []
all_of (Ok x ∷ more) = behind (x ∷ []) (all_of more)
all_of (Err e ∷ more) = Err e

-- The same for lists, appended to each other.
abbrev pub joined : {A E : Type 0} → List (Result (List A) E) → Result (List A) E
joined [] = Ok []
joined (Ok xs ∷ more) = behind xs (joined more)
joined (Err e ∷ more) = Err e

-- The last lines of `count` runs from number `first` on, or the clash of the first run that has one.
unfoldable pub endings : ℕ → ℕ → ℕ → Result (List Line) SchedError
endings start first count = all_of (map (λ i. ending_of_run start i) (range_with_len first count))

-- ---- The text

-- `I end EVENTS SEALS ACCEPTS REFUSALS IDEAL PRIVATE`: the number of the run, and the words of its last line. That
-- names no node.
unfoldable pub run_line : ℕ → Line → Bytes
run_line i last = decimal i ++ then (line_text [] last)

-- The lines of runs, of which the first has the number i.
abbrev pub runs_text : ℕ → List Line → Bytes
runs_text i [] = []
runs_text i (last ∷ more) = run_line i last ++ runs_text (i + 1) more

-- How many seals, acceptances and refusals the last line of a transcript has.
abbrev pub seals_in : Line → ℕ
seals_in (End events seals accepts refusals ideal private) = seals
seals_in _ = 0

abbrev pub accepts_in : Line → ℕ
accepts_in (End events seals accepts refusals ideal private) = accepts
accepts_in _ = 0

abbrev pub refusals_in : Line → ℕ
refusals_in (End events seals accepts refusals ideal private) = refusals
refusals_in _ = 0

-- `total COUNT SEALS ACCEPTS REFUSALS`
abbrev pub total_line : ℕ → ℕ → ℕ → ℕ → Bytes
total_line count seals accepts refusals =
    codes "total" ++ then (decimal count) ++ then (decimal seals) ++ then (decimal accepts) ++ then (decimal refusals)
    ++ 10 ∷ []

-- How many runs there are, and the sums of their counts.
unfoldable pub total_of : List Line → Bytes
total_of lasts = total_line (length lasts) (sum_by seals_in lasts) (sum_by accepts_in lasts) (sum_by refusals_in lasts)

abbrev pub campaign_text : List Line → Bytes
campaign_text lasts = runs_text 0 lasts ++ total_of lasts

abbrev pub told : Result (List Line) SchedError → Result Bytes SchedError
told (Ok lasts) = Ok (campaign_text lasts)
told (Err e) = Err e

-- What a campaign of `count` runs writes, or the clash of the first run that has one. It doesn't depend on jobs and
-- gates.
unfoldable pub campaigned : ℕ → ℕ → Result Bytes SchedError
campaigned count start = told (endings start 0 count)
