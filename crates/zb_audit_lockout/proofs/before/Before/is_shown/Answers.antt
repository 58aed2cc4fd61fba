use Rattle.std.proofs.Common.{sym, ◌∙◌}
use Rattle.std.specs.Ordering.{nat_cmp}
use Rattle.zb_trace_watch.specs.Sets.{is_among, keys_at}
use Rattle.zb_audit_lockout.proofs.Knowing.{among_passes}
use Rattle.zb_audit_lockout.proofs.before.Before.is_shown.Goals as goal

pub returns-then-has : goal.returns-then-has
returns-then-has c =
    λ known.
    among_passes (is_among (keys_at nat_cmp c.args.self.now.live c.args.place)) c.in-Some.key.now.0
    c.args.self.now.exposure.known.keys.keys
    (sym c.has-then-has.ensures ∙ known) (sym c.has.ensures ∙ c.if-has.true)
