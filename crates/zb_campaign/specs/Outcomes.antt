-- What was written when the writing of a campaign ended.
use Rattle.std.specs.Prelude.{◌≡◌, ℕ, Option, Result, Ok, Err}
use Rattle.std.specs.Io.KnownBytes.{Appends, Keeps}
use Rattle.zb_base.specs.Outside.{AppendsFront, Rose}
use Rattle.zb_campaign.specs.declared.fault.CampaignFault.{CampaignFault}
use Rattle.zb_campaign.specs.declared.fault.CampaignFault.TheVariants.{Write, Clash, NoMemory}
use Rattle.zb_model.specs.Data.{Bytes}
use Rattle.zb_sched.specs.declared.error.SchedError.{SchedError}

-- There is no clash, and the text was written.
abbrev pub IsWritten : Result Bytes SchedError → Option Bytes → Option Bytes → Type 0
IsWritten (Ok text) before after = Appends before after text
IsWritten (Err e) before after = ⊥

-- There is no clash, and a prefix of the text was written.
abbrev pub IsBegun : Result Bytes SchedError → Option Bytes → Option Bytes → Type 0
IsBegun (Ok text) before after = AppendsFront before after text
IsBegun (Err e) before after = ⊥

-- After `Ok`, the campaign was written. If the sink failed, a prefix of it. At a clash, and if memory ran out,
-- nothing.
abbrev pub Campaigns : Result Bytes SchedError → Option Bytes → Option Bytes → ℕ → ℕ → Result (Unit {0}) CampaignFault
    → Type 0
Campaigns wanted before after old new (Ok done) = IsWritten wanted before after
Campaigns wanted before after old new (Err Write) = Rose old new × IsBegun wanted before after
Campaigns wanted before after old new (Err (Clash line cause)) =
    (wanted ≡ Err (record { line = line; cause = cause })) × Keeps before after
Campaigns wanted before after old new (Err NoMemory) = Keeps before after
