use Rattle.std.proofs.Common.{◌∙◌, ℕ, Some, None, ap}
use Rattle.std.specs.Option.{option_or}
use Rattle.std.specs.Prelude.{if◌then◌else◌}
use Rattle.zb_audit.proofs.EndLines.{end_is}
use Rattle.zb_audit.proofs.ending.Ending.end.Goals as goal

pub returns : goal.returns
returns c =
    λ tools h ends.
    c.first_bad.ensures
    ∙ (ap (λ (n : ℕ). option_or c.args.self.now.first (if c.args.self.now.sums_up then None else Some n))
    c.max.ensures ∙ end_is tools c.args.self.now h ends)
