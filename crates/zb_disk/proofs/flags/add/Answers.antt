use Rattle.std.proofs.Common.{◌≡◌, ◌+◌, ◌-◌, ◌≤◌, ℕ, List, Bool, true, false, length, replicate, max, sym, ◌∙◌, ap, arith}
use Rattle.std.proofs.lemmas.List.{length-replicate}
use Rattle.zb_disk.specs.Memory.{patch, spread}
use Rattle.zb_disk.specs.MemoryInside.{flags_around}
use Rattle.zb_disk.proofs.Lists.{length-patch, length-spread}
use Rattle.zb_disk.proofs.Windows.{around_patch, patch_none}
use Rattle.zb_disk.proofs.flags.add.Goals as goal

-- The length of the window after flags were set in it.
mark_long : (old new : List Bool) (base start end : ℕ) → base ≤ start → start ≤ end
    → new ≡ patch (spread old (end - base) false) (start - base) (replicate (end - base - (start - base)) true)
    → length new ≡ max (length old) (end - base)
mark_long old new base start end from order is =
    let n = end - base - (start - base) in
    let flags = replicate n true in
    let all = spread old (end - base) false in
    let fits : start - base + length flags ≤ length all =
    omega (arith, length-spread old (end - base) false, length-replicate n true) in
    ap length is ∙ length-patch all flags (start - base) fits ∙ length-spread old (end - base) false

pub returns-then-start-end-clause-ends : goal.returns-then-start-end-clause-ends
returns-then-start-end-clause-ends c =
    let opened = c.open-begin.ensures in
    let n = max (c.args.base + length c.args.written.now.items) c.args.end in
    let order : c.args.start ≤ c.args.end = c.requires.order in
    let long = mark_long c.open-begin.new.written.items c.mark.new.written.items c.open-begin.result c.args.start
    c.args.end opened.begins order c.mark.ensures.after in
    let window : c.open-begin.result + length c.open-begin.new.written.items
    ≤ n = opened.ends n (omega arith) (omega arith) in
    omega (arith, long, window, opened.begins)

pub returns-then-start-end-clause-after : goal.returns-then-start-end-clause-after
returns-then-start-end-clause-after c n until within =
    let start = c.args.start in
    let end = c.args.end in
    let opened = c.open-begin.ensures in
    let b = c.open-begin.result in
    let w = c.open-begin.new.written.items in
    let flags = replicate (end - start) true in
    let low : start ≤ n = omega (arith, c.requires.order) in
    let count : end - b - (start - b) ≡ end - start = omega (arith, opened.begins) in
    let ends : end ≡ start + length flags = omega (arith, length-replicate (end - start) true, c.requires.order) in
    ap (λ (l : List Bool). flags_around b l n)
    (c.mark.ensures.after ∙ ap (λ (k : ℕ). patch (spread w (end - b) false) (start - b) (replicate k true)) count)
    ∙ around_patch b w flags start end n (opened.ends n low within) opened.begins ends until
    ∙ ap (λ (l : List Bool). patch l start flags) (opened.after n low within)

pub returns-clause-after : goal.returns-clause-after
returns-clause-after c n until within =
    let flags = flags_around c.args.base c.args.written.now.items n in
    let none : c.args.end - c.args.start ≡ 0 = omega arith in
    sym (ap (λ (k : ℕ). patch flags c.args.start (replicate k true)) none ∙ patch_none flags c.args.start)
