use Rattle.std.proofs.Common.{List, ℕ, ap, subst}
use Rattle.std.proofs.lemmas.Bool.{false≢true}
use Rattle.zb_live.specs.Shown.{Prints, event_lines}
use Rattle.zb_model.specs.Lines.{Line}
use Rattle.zb_live.proofs.TellingLemmas.{all_of_centre, answer_is, on_ok}
use Rattle.zb_live.proofs.telling.put_event.Goals as goal

pub returns : goal.returns
returns c =
    let entry = c.args.entry.now in
    let group = entry.group in
    let after = c.tell_answer-told.new.to.text.items in
    on_ok c.tell_answer-told.result (λ tells known n a called centre is.
    subst (λ (before : List ℕ). Prints entry.log known (event_lines group.event n group.frame a) before after)
    (ap (λ v. v.items) c.replace.ensures.value)
    (subst (λ (lines : List Line). Prints entry.log known lines c.replace.result.items after)
    (answer_is group.event n group.frame c.args.plan.now a is)
    (tells known n called (λ no. absurd (false≢true no)) (all_of_centre known n c.args.plan.now.changes.items
    centre)).1))
    c.tell_answer-told.ensures.tells
