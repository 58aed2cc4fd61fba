-- What a call returns, compared with what is expected.
use Rattle.std.specs.Prelude.{◌≡◌, List, map, Vec, Result, Ok, Err, ⊤}
use Rattle.std.specs.Global.{Global}
use Rattle.zb_campaign.specs.declared.fault.CampaignFault.{CampaignFault}
use Rattle.zb_campaign.specs.declared.fault.CampaignFault.TheVariants.{Write, Clash, NoMemory}
use Rattle.zb_model.specs.Lines.{Line}
use Rattle.zb_player.specs.Runs.{last_line}
use Rattle.zb_player.specs.declared.summary.Summary.{Summary}
use Rattle.zb_sched.specs.declared.error.SchedError.{SchedError}

-- A call returned the expected value, or the clash that there is, or ran out of memory.
abbrev pub Answers : {A B : Type 0} → (A → B) → Result A CampaignFault → Result B SchedError → Type 0
Answers view (Ok x) wanted = wanted ≡ Ok (view x)
Answers view (Err Write) wanted = ⊥
Answers view (Err (Clash line cause)) wanted = wanted ≡ Err (record { line = line; cause = cause })
Answers view (Err NoMemory) wanted = ⊤

-- Summaries as the last lines of transcripts.
abbrev pub last_lines : Vec Summary Global → List Line
last_lines ends = map last_line ends.items
