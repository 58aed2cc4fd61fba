-- The kinds of lines, in the order in which the printer asks for them.
use Rattle.std.specs.Prelude.{Bool, true, false}
use Rattle.zb_trace.specs.declared.line.Line.{Line}
use Rattle.zb_trace.specs.declared.line.Line.TheVariants as line

-- Nodes, what they hold at the start, and their counters.
abbrev pub is_of_counters : Line → Bool
is_of_counters (line.Node name role eui short out_block in_block) = true
is_of_counters (line.GivenNet node key sequence) = true
is_of_counters (line.GivenLink node partner key) = true
is_of_counters (line.Counter node layer limit) = true
is_of_counters (line.Reserve event node layer limit) = true
is_of_counters (line.Floor event node layer key sender value) = true
is_of_counters _ = false

-- Network keys.
abbrev pub is_of_keys : Line → Bool
is_of_keys (line.Draw event key) = true
is_of_keys (line.DropNet event node key) = true
is_of_keys (line.DropLink event node partner key) = true
is_of_keys (line.Install event node key sequence) = true
is_of_keys (line.Active event node key) = true
is_of_keys (line.Start event node key value) = true
is_of_keys _ = false

-- Link keys and devices.
abbrev pub is_of_devices : Line → Bool
is_of_devices (line.Row event node partner key attribute) = true
is_of_devices (line.Pair event node first second key) = true
is_of_devices (line.State event node state) = true
is_of_devices (line.Live event device) = true
is_of_devices (line.Removed event device) = true
is_of_devices (line.Roll event node rollover) = true
is_of_devices (line.Told event device) = true
is_of_devices (line.Untold event device) = true
is_of_devices _ = false

-- Commits and frames.
abbrev pub is_of_frames : Line → Bool
is_of_frames (line.Commit event node) = true
is_of_frames (line.Accept event node term) = true
is_of_frames (line.Refuse event node refusal) = true
is_of_frames (line.Seal event node term) = true
is_of_frames (line.Forge event term) = true
is_of_frames (line.Send event node frame bytes) = true
is_of_frames (line.Inject event frame bytes) = true
is_of_frames _ = false
