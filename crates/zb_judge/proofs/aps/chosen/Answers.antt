-- What opens the frame, else what is in use: the newest of each. The newest in use is tried first.
use Rattle.std.proofs.Common.{rules, ◌≡◌, ◌∙◌, sym, find, is_some, reverse, true, Some, None}
use Rattle.std.specs.Option.{option_copied}
use Rattle.zb_model.specs.State.{is_live_of}
use Rattle.zb_model_real.specs.Real.{real}
use Rattle.zb_model_real.specs.Terms.{model_term}
use Rattle.zb_record.specs.RowViews.{link_key}
use Rattle.zb_record.specs.declared.link_row.LinkRow.{LinkRow}
use Rattle.zb_judge.proofs.Choosing.{chosen_newest, chosen_nobody, chosen_none, chosen_some, shown_some}
use Rattle.zb_judge.proofs.aps.chosen.Goals as goal

pub returns-in_err-newest-clause-row : goal.returns-in_err-newest-clause-row
returns-in_err-newest-clause-row c =
    let nothing : c.from_residual.result ≡ None = search rules in
    let nobody : option_copied c.first_candidate.result ≡ None = search rules in
    rw nothing
    (chosen_nobody real c.args.bytes.now c.args.source.0 c.args.tables.now c.links-rows.result.now c.links-rows.ensures
    (sym nobody ∙ c.first_candidate.ensures))

pub returns-then-is_some-clause-row : goal.returns-then-is_some-clause-row
returns-then-is_some-clause-row c =
    let newest : Some c.in_ok-newest.newest.now
    ≡ find (λ (r : LinkRow). is_live_of c.args.source.0 (link_key r)) (reverse c.links-rows.result.now)
    = search rules in
    let some : is_some c.open_aps.result ≡ true = search rules in
    chosen_newest real c.args.bytes.now c.args.source.0 c.args.tables.now c.links-rows.result.now
    c.in_ok-newest.newest.now c.links-rows.ensures newest
    (shown_some model_term c.open_aps.result _ c.open_aps.ensures some)

pub returns-in-Some-clause-row : goal.returns-in-Some-clause-row
returns-in-Some-clause-row c = chosen_some real c.args.bytes.now c.args.source.0 c.args.tables.now
    c.links-rows.result.now c.in-Some.row.now c.links-rows.ensures (rw c.in-Some.is at c.first_opening.ensures)

pub returns-in-None-clause-row : goal.returns-in-None-clause-row
returns-in-None-clause-row c =
    let newest : Some c.in_ok-newest.newest.now
    ≡ find (λ (r : LinkRow). is_live_of c.args.source.0 (link_key r)) (reverse c.links-rows.result.now)
    = search rules in
    chosen_none real c.args.bytes.now c.args.source.0 c.args.tables.now c.links-rows.result.now
    (Some c.in_ok-newest.newest.now) c.links-rows.ensures (rw c.in-None.is at c.first_opening.ensures) newest
