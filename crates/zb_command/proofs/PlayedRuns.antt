-- The run of a schedule that was read and played.
use Rattle.std.proofs.Common.{◌≡◌, Ok, Option, None, Some, IfSome, ◌∙◌, subst}
use Rattle.std.specs.Io.KnownBytes.{Appends}
use Rattle.zb_model.specs.Data.{Bytes}
use Rattle.zb_model_real.specs.Real.{real}
use Rattle.law_real_nodes.specs.Sound.{NodesAreSound}
use Rattle.law_real_runs.specs.Headline.{Holds}
use Rattle.law_run_readings.specs.Agreeing.{RunAgrees}
use Rattle.law_schedules.specs.Schedules.{schedule_of}
use Rattle.zb_campaign.specs.Runs.{transcript_text}
use Rattle.zb_sched.specs.Reading.{schedule_in}
use Rattle.zb_sched.specs.Schedules.{Schedule}
use Rattle.zb_command.specs.Outcomes.{Played}

-- an input that the source tells was read whole
pub told : (rest : Option Bytes) (bytes read : Bytes) (plan : Schedule) (before after : Option Bytes)
    → IfSome rest (λ input. bytes ≡ input) → read ≡ bytes
    → schedule_in read ≡ Ok plan → Holds (schedule_of plan) → NodesAreSound (schedule_of plan)
    → RunAgrees real (schedule_of plan) → Appends before after (transcript_text plan)
    → IfSome rest (λ input. Played input before after)
told None bytes read plan before after whole same reads holds nodes says written = tt
told (Some input) bytes read plan before after whole same reads holds nodes says written = record {
  schedule = plan;
  reads = subst (λ (l : Bytes). schedule_in l ≡ Ok plan) (same ∙ whole) reads;
  written = written;
  holds = holds;
  nodes = nodes;
  says = says;
}
