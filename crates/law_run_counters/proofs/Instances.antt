-- For the law that only a transcript is lawful and counted: a transcript is both.
use Rattle.zb_model.specs.Claims.{Lawful}
use Rattle.zb_model.specs.Play.{Schedule}
use Rattle.zb_model.specs.Tools.{Tools}
use Rattle.zb_model.specs.Transcript.{transcript}
use Rattle.law_run.specs.Opening.{Opens}
use Rattle.law_run.proofs.LawfulRuns.{lawful}
use Rattle.law_run_counters.specs.Counted.{Counted}
use Rattle.law_run_counters.proofs.Unique.{counted}

-- Instance of lawful_and_counted_lines_are_the_transcript.
both : (tools : Tools) → Opens tools → (w : Schedule)
    → Lawful tools w (transcript tools w) × Counted tools w (transcript tools w)
both tools opens w = (lawful tools w, counted tools opens w)
