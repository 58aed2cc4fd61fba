-- The command whose rule answers a delivered frame after its layers have passed, and the layers of the frame that
-- answers it.
use Rattle.std.specs.Prelude.{if◌then◌else◌, List, [], Option, Some, None}
use Rattle.zb_model.specs.Data.{Bytes, Layer, Term, Command}
use Rattle.zb_model.specs.State.{NodeState}
use Rattle.zb_model.specs.Tools.{Tools, NwkShown, ApsShown, ApsAuxiliary, CommandShown, Known}
use Rattle.zb_model.specs.Rules.{Setting}
use Rattle.zb_model.specs.Judging.{Verdict, Not, Good, Carrier, Unsealed, judge_nwk, judge_aps, payload_of}
use Rattle.law_run_lookups.specs.FrameLayers.{command_layers}

abbrev pub known : CommandShown → Option Command
known (Known command) = Some command
known _ = None

-- sealed at APS: what the term opens to
abbrev pub unsealed_command : Tools → Verdict Unsealed → Option Command
unsealed_command tools (Not place reason) = None
unsealed_command tools (Good u) = known (tools.read_command u.term.content)

abbrev pub command_by : Tools → Setting → NodeState → NwkShown → Option Term → ApsShown → Option ApsAuxiliary
    → Option Command
command_by tools c s f nwk a None = known (tools.read_command a.body)
command_by tools c s f nwk a (Some aux) = unsealed_command tools (judge_aps tools c s f (payload_of f nwk) aux)

-- an APS frame with a command
abbrev pub command_in : Tools → Setting → NodeState → NwkShown → Option Term → Option ApsShown → Option Command
command_in tools c s f nwk None = None
command_in tools c s f nwk (Some a) = if a.is_command then command_by tools c s f nwk a a.auxiliary else None

-- a NWK command, in a secured frame, carries no APS frame
abbrev pub carried_by : Tools → Setting → NodeState → NwkShown → Option Term → Option Command
carried_by tools c s f None = command_in tools c s f None (tools.read_aps f.body)
carried_by tools c s f (Some term) = if f.is_command then None
    else command_in tools c s f (Some term) (tools.read_aps term.content)

abbrev pub passed_command : Tools → Setting → NodeState → Verdict Carrier → Option Command
passed_command tools c s (Not place reason) = None
passed_command tools c s (Good k) = carried_by tools c s k.frame k.term

unfoldable pub carried : Tools → Setting → NodeState → Bytes → Option Command
carried tools c s bytes = passed_command tools c s (judge_nwk tools c s bytes)

-- without a command nothing is sent
abbrev pub answer_layers : Option Command → List Layer
answer_layers None = []
answer_layers (Some command) = command_layers command
