use Rattle.std.proofs.Common.{◌≡◌, ◌-◌, List, [], Bool, vec_len, sym, ◌∙◌, ap, arith}
use Rattle.std.proofs.lemmas.List.{nil_from_length}
use Rattle.std.proofs.lemmas.Bool.{eqb-true}
use Rattle.zb_disk.specs.MemoryInside.{flags_around}
use Rattle.zb_disk.proofs.Windows.{around_none, around_more}
use Rattle.zb_disk.proofs.flags.open.Goals as goal

pub returns-then-is_empty-clause-after : goal.returns-then-is_empty-clause-after
returns-then-is_empty-clause-after c n from within =
    let w = c.args.written.now.items in
    let zero : vec_len c.args.written.now
    ≡ 0 = eqb-true (vec_len c.args.written.now) 0 (sym c.is_empty.ensures ∙ c.if-is_empty.true) in
    let none : w ≡ [] = nil_from_length w (sym c.args.written.now.ok.0 ∙ zero) in
    ap (λ (l : List Bool). flags_around c.args.start l n) none ∙ around_none c.args.start n from ∙ sym
    (around_none c.args.base n (omega arith)) ∙ ap (λ (l : List Bool). flags_around c.args.base l n) (sym none)

pub returns-then-start-base-clause-after : goal.returns-then-start-base-clause-after
returns-then-start-base-clause-after c n from within =
    ap (λ (l : List Bool). flags_around c.args.start l n) c.widen.ensures.after
    ∙ around_more c.args.start (c.args.base - c.args.start) c.args.base c.args.written.now.items n (omega arith)
