-- The lines that were found are all lines of the text, and a text of lines has no bad one.
use Rattle.std.proofs.Common.{rules, ◌≡◌, ◌∙◌, sym, length}
use Rattle.zb_trace.specs.Text.{texts}
use Rattle.zb_trace_read.proofs.Taking.{one_text, no_bad, match_none, nothing_left, not_empty}
use Rattle.zb_trace_read.proofs.reading.read_lines.Goals as goal

pub returns-in-None-clause-accepts : goal.returns-in-None-clause-accepts
returns-in-None-clause-accepts c =
    λ ls proper e.
    let some : length c.loop-rest.rest.now ≡ 0 → ⊥ = search rules in
    absurd (no_bad c.loop-rest.lines.items ls c.args.bytes.now c.loop-rest.rest.now c.loop-rest.invariant.0 proper
    c.loop-rest.invariant.1
    (not_empty c.loop-rest.rest.now some) (match_none c.in_ok-line.field-0 _ _ c.in_ok-line.ensures.none c.in-None.is)
    e)

pub returns-clause-only : goal.returns-clause-only
returns-clause-only c =
    λ ls proper e.
    let empty : length c.loop-rest.rest.now ≡ 0 = search rules in
    one_text c.loop-rest.lines.items ls c.loop-rest.invariant.0 proper
    (sym (nothing_left c.args.bytes.now (texts c.loop-rest.lines.items) c.loop-rest.rest.now c.loop-rest.invariant.1
    empty) ∙ e)
