use Rattle.std.proofs.Common.{sym, ◌∙◌}
use Rattle.zb_audit_counters.proofs.Running.{known_ready, known_stays, none_known}
use Rattle.zb_audit_counters.proofs.recount.Recount.line.Goals as goal

pub returns-then-is_some : goal.returns-then-is_some
returns-then-is_some c = λ names h number who stands. known_stays names c.args.self.now h c.args.line.now
    (sym c.is_some.ensures ∙ c.if-is_some.true) stands

pub returns-then-is_some-2 : goal.returns-then-is_some-2
returns-then-is_some-2 c =
    λ names h number who stands.
    known_ready names c.turn.new.self h c.args.line.now (sym c.is_some-2.ensures ∙ c.if-is_some-2.true)
    (c.turn.ensures names h c.args.line.now c.event.ensures number
    (none_known c.args.self.now.first (sym c.is_some.ensures ∙ c.if-is_some.false)) stands)

pub returns : goal.returns
returns c =
    λ names h number who stands.
    c.in_ok-read.ensures names h number who
    (none_known c.turn.new.self.first (sym c.is_some-2.ensures ∙ c.if-is_some-2.false))
    (c.turn.ensures names h c.args.line.now c.event.ensures number
    (none_known c.args.self.now.first (sym c.is_some.ensures ∙ c.if-is_some.false)) stands)
