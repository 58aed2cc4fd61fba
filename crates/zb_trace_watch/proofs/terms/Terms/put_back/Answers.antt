use Rattle.std.proofs.Common.{ℕ, Option, ◌||◌, ap, sym, ◌∙◌, bytes_eq, false}
use Rattle.std.specs.Global.{Vec}
use Rattle.std.specs.List.{list_any}
use Rattle.zb_trace_watch.specs.Terms.{is_kept}
use Rattle.zb_trace_watch.proofs.TermBytes.{nothing_more, other_added}
use Rattle.zb_trace_watch.proofs.terms.Terms.put_back.Goals as goal

pub returns-in-None-clause-firsts : goal.returns-in-None-clause-firsts
returns-in-None-clause-firsts c = λ h. c.in_ok-there.ensures.updates.0 h

pub returns-in-None-clause-others : goal.returns-in-None-clause-others
returns-in-None-clause-others c = λ b.
    let others = list_any (λ (kept : Vec ℕ). bytes_eq b kept.items) c.args.self.now.others.keys in
    nothing_more others
    ∙ ap (λ (o : Option (Vec ℕ)). others || is_kept o b) (sym (sym c.in_ok-there.ensures.old ∙ c.in-None.is))

pub returns-in_ok-insert-in-Some-clause-others : goal.returns-in_ok-insert-in-Some-clause-others
returns-in_ok-insert-in-Some-clause-others c = λ b.
    let others = list_any (λ (kept : Vec ℕ). bytes_eq b kept.items) c.args.self.now.others.keys in
    other_added false c.args.self.now.others.keys c.insert-in-Some.new.self.keys c.in-Some.bytes b
    c.in_ok-insert-in-Some.ensures.keys
    ∙ ap (λ (o : Option (Vec ℕ)). others || is_kept o b) (sym (sym c.in_ok-there.ensures.old ∙ c.in-Some.is))
