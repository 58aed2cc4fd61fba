use Rattle.std.proofs.Common.{◌∙◌, ap, refl, sym, List}
use Rattle.std.specs.Prelude.{position}
use Rattle.zb_sched.specs.Drafts.{seat_of}
use Rattle.zb_sched.specs.Judge.{Seat, has_name, holding}
use Rattle.zb_sched.specs.declared.entry.Entry.{Entry}
use Rattle.zb_sched.proofs.DraftLemmas.{entries_changed, entries_same}
use Rattle.zb_sched.proofs.NameLemmas.{changed_apart}
use Rattle.zb_sched.proofs.entry.set_network.Goals as goal

pub returns-in-Some-clause-seats : goal.returns-in-Some-clause-seats
returns-in-Some-clause-seats c =
    entries_changed c.args.name.now.bytes (λ (seat : Seat). holding c.args.key.0 c.args.sequence seat)
    c.args.entries.now.items c.in-Some.at c.index_mut.result.now c.set_network.new.self
    (ap (λ (es : List Entry). position (λ x. has_name c.args.name.now.bytes (seat_of x)) es)
    (sym c.as_slice.ensures.value) ∙ sym c.in-Some.ensures)
    (c.set_network.ensures.seat ∙ ap (λ (x : Entry). holding c.args.key.0 c.args.sequence (seat_of x))
    c.index_mut.ensures.value)

pub returns-in-None-clause-seats : goal.returns-in-None-clause-seats
returns-in-None-clause-seats c =
    entries_same c.args.name.now.bytes (λ (seat : Seat). holding c.args.key.0 c.args.sequence seat)
    c.args.entries.now.items
    (ap (λ (es : List Entry). position (λ x. has_name c.args.name.now.bytes (seat_of x)) es)
    (sym c.as_slice.ensures.value) ∙ sym c.in-None.ensures)

pub returns-in-Some-clause-named : goal.returns-in-Some-clause-named
returns-in-Some-clause-named c =
    changed_apart c.args.name.now.bytes (λ (seat : Seat). holding c.args.key.0 c.args.sequence seat) (λ seat. refl) _
    _ (returns-in-Some-clause-seats c)

pub returns-in-None-clause-named : goal.returns-in-None-clause-named
returns-in-None-clause-named c =
    changed_apart c.args.name.now.bytes (λ (seat : Seat). holding c.args.key.0 c.args.sequence seat) (λ seat. refl) _
    _ (returns-in-None-clause-seats c)
