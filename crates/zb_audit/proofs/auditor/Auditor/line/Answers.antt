use Rattle.std.proofs.Common.{◌∙◌, subst}
use Rattle.zb_audit.proofs.Auditing.{line_stands}
use Rattle.zb_audit.proofs.SaidByName.{words_follow, words_private}
use Rattle.zb_audit.specs.Words.{is_place, said}
use Rattle.zb_trace_watch.specs.Sayings.{said_by, Grows, JoinerCounts}
use Rattle.zb_trace_watch.specs.Standing.{Represents}
use Rattle.zb_trace_watch.specs.declared.speaker.Speaker.{Speaker}
use Rattle.zb_audit.proofs.auditor.Auditor.line.Goals as goal

pub returns : goal.returns
returns c =
    λ tools h find before.
    line_stands tools c.args.self.now h c.args.line.now c.in_ok-who.who c.in_ok-number.number c.ideal-ideal.result
    c.private-private.result
    c.line.new.self c.line-7.new.self c.line-2.new.self c.line-3.new.self c.line-4.new.self c.line-5.new.self
    c.carry_on.new.lockout c.line-6.new.self
    find c.in_ok-number.ensures c.in_ok-who.ensures.stands c.in_ok-who.ensures.tells
    (λ names g. c.ideal-ideal.ensures tools (is_place names) (said tools names g))
    (λ names g stands. c.private-private.ensures tools (is_place names) (said tools names g) stands
    ∙ words_private tools names g)
    c.in_ok-line.ensures c.in_ok-line-2.ensures c.in_ok-line-3.ensures c.in_ok-line-4.ensures c.in_ok-carry_on.ensures
    (c.in_ok-line-5.ensures tools)
    (λ names g told. words_follow tools names g c.in_ok-who.who c.args.line.now c.args.self.now.words c.line-7.new.self
    (λ s counts after. subst (λ (who : Speaker). JoinerCounts (is_place names) who c.args.line.now
    → Grows (is_place names) s (said_by tools s who c.args.line.now) after
    → Represents tools (is_place names) c.args.self.now.words s
    → Represents tools (is_place names) c.line-7.new.self after) c.seen.ensures
    (λ joiner grows. c.in_ok-line-6.ensures tools (is_place names) s joiner find after grows) counts) told) before
