use Rattle.std.proofs.Common.{◌∙◌, ap, sym, List}
use Rattle.std.specs.Prelude.{position}
use Rattle.zb_sched.specs.Drafts.{seat_of}
use Rattle.zb_sched.specs.Judge.{Seat, has_name, starting}
use Rattle.zb_sched.specs.declared.entry.Entry.{Entry}
use Rattle.zb_sched.proofs.DraftLemmas.{entries_changed, entries_same}
use Rattle.zb_sched.proofs.NameLemmas.{changed_apart, start_keeps_name}
use Rattle.zb_sched.proofs.entry.set_counter.Goals as goal

pub returns-in-Some-clause-seats : goal.returns-in-Some-clause-seats
returns-in-Some-clause-seats c =
    entries_changed c.args.name.now.bytes (λ (seat : Seat). starting c.args.layer c.args.limit seat)
    c.args.entries.now.items c.in-Some.at c.index_mut.result.now c.start_at.new.self
    (ap (λ (es : List Entry). position (λ x. has_name c.args.name.now.bytes (seat_of x)) es)
    (sym c.as_slice.ensures.value) ∙ sym c.in-Some.ensures)
    (c.start_at.ensures.seat ∙ ap (λ (x : Entry). starting c.args.layer c.args.limit (seat_of x))
    c.index_mut.ensures.value)

pub returns-in-None-clause-seats : goal.returns-in-None-clause-seats
returns-in-None-clause-seats c =
    entries_same c.args.name.now.bytes (λ (seat : Seat). starting c.args.layer c.args.limit seat)
    c.args.entries.now.items
    (ap (λ (es : List Entry). position (λ x. has_name c.args.name.now.bytes (seat_of x)) es)
    (sym c.as_slice.ensures.value) ∙ sym c.in-None.ensures)

pub returns-in-Some-clause-named : goal.returns-in-Some-clause-named
returns-in-Some-clause-named c =
    changed_apart c.args.name.now.bytes (λ (seat : Seat). starting c.args.layer c.args.limit seat)
    (start_keeps_name c.args.layer c.args.limit) _ _ (returns-in-Some-clause-seats c)

pub returns-in-None-clause-named : goal.returns-in-None-clause-named
returns-in-None-clause-named c =
    changed_apart c.args.name.now.bytes (λ (seat : Seat). starting c.args.layer c.args.limit seat)
    (start_keeps_name c.args.layer c.args.limit) _ _ (returns-in-None-clause-seats c)
