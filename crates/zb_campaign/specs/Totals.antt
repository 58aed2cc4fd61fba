-- The line of a total.
use Rattle.std.specs.Prelude.{ℕ}
use Rattle.zb_campaign.specs.Campaigns.{total_line}
use Rattle.zb_campaign.specs.declared.total.Total.{Total}
use Rattle.zb_model.specs.Data.{Bytes}

abbrev pub total_text : ℕ → Total → Bytes
total_text count total = total_line count total.seals total.accepts total.refusals
