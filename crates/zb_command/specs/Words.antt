-- A command of the program as an invocation.
use Rattle.std.specs.Prelude.{◌<◌, ◌≤◌, ◌^◌, ◌-◌, length, map, string_bytes, ⊤}
use Rattle.zb_input.specs.KeyWords.{keys_in}
use Rattle.zb_command.specs.Commands.{Invocation, Playing, Installing, Making, Inspecting, Sniffing, Campaigning, Auditing, Serving}
use Rattle.zb_command.specs.declared.command.Command.{Command}
use Rattle.zb_command.specs.declared.command.Command.TheVariants.{Play, Install, Make, Inspect, Sniff, Campaign, Audit, Admin}
use Rattle.zb_base.specs.Limits.{most_runs, last_start, most_jobs, most_made, most_keys}

abbrev pub invocation : Command → Invocation
invocation Play = Playing
invocation (Install code) = Installing code.now
invocation (Make count) = Making count
invocation (Inspect jobs) = Inspecting jobs
invocation (Sniff jobs words) = Sniffing jobs (keys_in (map string_bytes words.now))
invocation (Campaign count start jobs) = Campaigning count start jobs
invocation Audit = Auditing
invocation Admin = Serving

-- What holds of the values of a command.
abbrev pub Fits : Command → Type 0
Fits Play = ⊤
-- a code has fewer than 2^32 - 1 bytes
Fits (Install code) = length code.now < 2 ^ 32 - 1
-- a made schedule has 1 to 60 routers and devices
Fits (Make count) = (1 ≤ count) × (count ≤ most_made)
-- jobs are 1 to 64
Fits (Inspect jobs) = (1 ≤ jobs) × (jobs ≤ most_jobs)
-- at most 256 keys are given
Fits (Sniff jobs words) = (1 ≤ jobs) × (jobs ≤ most_jobs) × (length words.now ≤ most_keys)
-- a campaign has 1 to 1,000 runs, and the start value of its last run is below 2^32
Fits (Campaign count start jobs) =
    (1 ≤ count) × (count ≤ most_runs) × (start ≤ last_start) × (1 ≤ jobs) × (jobs ≤ most_jobs)
Fits Audit = ⊤
Fits Admin = ⊤
