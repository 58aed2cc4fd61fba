use Rattle.std.proofs.Common.{◌∙◌, ap, Bool, Some, None}
use Rattle.std.specs.Option.{option_or}
use Rattle.std.specs.Prelude.{not, if◌then◌else◌}
use Rattle.zb_audit.specs.Standing.{stamp_of}
use Rattle.zb_audit.proofs.FreshNonces.{stamp_added, stamp_is_new}
use Rattle.zb_audit.proofs.nonces.Nonces.seal.Goals as goal

pub returns-clause-seen : goal.returns-clause-seen
returns-clause-seen c =
    λ u. stamp_added c.args.self.now.seen.keys c.insert.new.self.keys c.stamp_of.result c.args.term.now u
    c.stamp_of.ensures (c.in_ok-is_new.ensures.updates.0 (stamp_of u))

pub returns-clause-first : goal.returns-clause-first
returns-clause-first c =
    c.first_bad-self.ensures
    ∙ ap (λ (good : Bool). option_or c.args.self.now.first (if good then None else Some c.args.number))
    (c.in_ok-is_new.ensures.added ∙ ap
    not (stamp_is_new c.args.self.now.seen.keys c.stamp_of.result c.args.term.now c.stamp_of.ensures))
