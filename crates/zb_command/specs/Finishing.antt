-- How each command ends.
use Rattle.std.specs.Prelude.{ℕ, Option}
use Rattle.zb_model.specs.Data.{Bytes}
use Rattle.zb_command.specs.Answers.{wanted}
use Rattle.zb_command.specs.Auditing.{Audits}
use Rattle.zb_command.specs.Commands.{Invocation, Playing, Installing, Making, Inspecting, Sniffing, Campaigning, Auditing, Serving}
use Rattle.zb_command.specs.Outcomes.{Ends}
use Rattle.zb_command.specs.Serving.{ServesOut}
use Rattle.zb_command.specs.declared.status.Status.{Status}

-- By the bytes that the source had to come, where these are known, what the sink took before and after, and its count
-- of faults.
abbrev pub Finishes : Invocation → Status → Option Bytes → Option Bytes → Option Bytes → ℕ → ℕ → Type 0
Finishes Playing status rest before after old new = Ends status (wanted Playing rest) before after old new
Finishes (Installing code) status rest before after old new = Ends status (wanted (Installing code) rest) before after
    old new
Finishes (Making count) status rest before after old new = Ends status (wanted (Making count) rest) before after old
    new
Finishes (Inspecting jobs) status rest before after old new = Ends status (wanted (Inspecting jobs) rest) before after
    old new
Finishes (Sniffing jobs keys) status rest before after old new = Ends status (wanted (Sniffing jobs keys) rest) before
    after old new
Finishes (Campaigning count start jobs) status rest before after old new =
    Ends status (wanted (Campaigning count start jobs) rest) before after old new
Finishes Auditing status rest before after old new = Audits status rest before after old new
Finishes Serving status rest before after old new = ServesOut status before after old new
