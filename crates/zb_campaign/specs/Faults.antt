-- The faults of a campaign.
use Rattle.std.specs.Prelude.{List, ℕ, codes}
use Rattle.zb_campaign.specs.declared.fault.CampaignFault.{CampaignFault}
use Rattle.zb_campaign.specs.declared.fault.CampaignFault.TheVariants.{Write, Clash, NoMemory}
use Rattle.zb_gen.specs.declared.maker.GenFault.{GenFault}
use Rattle.zb_gen.specs.declared.maker.GenFault.TheVariants as made

-- How a fault is printed.
abbrev pub fault_text : CampaignFault → List ℕ
fault_text Write = codes "the lines can't be written"
fault_text (Clash line cause) = codes "a made schedule clashes"
fault_text NoMemory = codes "no memory"

-- Why there is no generated schedule.
abbrev pub made_fault : GenFault → CampaignFault
made_fault (made.Clash line cause) = Clash line cause
made_fault made.NoMemory = NoMemory
