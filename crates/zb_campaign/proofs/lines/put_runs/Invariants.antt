use Rattle.std.proofs.Common.{◌≡◌, ◌++◌, drop, map}
use Rattle.zb_campaign.specs.Campaigns.{runs_text}
use Rattle.zb_player.specs.Runs.{last_line}
use Rattle.zb_campaign.proofs.lines.put_runs.Given as goal

abbrev pub invariant-loop-end : goal.invariant-loop-end
invariant-loop-end l =
    (l.out.items ++ runs_text l.number (map last_line (drop l.end-index l.ends)) ≡ l.initial.out.items
    ++ runs_text 0 (map last_line l.ends))
    × (l.number ≡ l.end-index)
