use Rattle.std.proofs.Common.{List, ◌∷◌, [], length, length-append, arith, ap, sym, ◌∙◌, subst}
use Rattle.zb_base.specs.declared.key.Key.{Key}
use Rattle.zb_trace_watch.specs.Sets.{has, key_cmp, keys_at}
use Rattle.zb_trace_watch.proofs.Learning.{Learning, learns_new, learns_old, opened_once, known_more, known_now}
use Rattle.zb_trace_watch.proofs.Truth.{not_false, not_true}
use Rattle.zb_trace_watch.proofs.exposure.learn.Goals as goal

pub loop-key-preserved-in-Continue-branch-2 : goal.loop-key-preserved-in-Continue-branch-2
loop-key-preserved-in-Continue-branch-2 c =
    subst (λ (left : List Key). Learning c.args.carried.now c.args.known.now c.add.new.self c.args.keys.items left)
    (sym c.in_ok-append_to.ensures)
    (learns_new c.args.carried.now c.args.known.now c.loop-key.known c.add.new.self c.args.keys.items
    c.pop.new.self.items c.in-Some.key c.in_ok-add.ensures.adds
    (subst (λ (left : List Key). Learning c.args.carried.now c.args.known.now c.loop-key.known c.args.keys.items left)
    c.in-Some.ensures.items c.loop-key.invariant))

pub loop-key-preserved : goal.loop-key-preserved
loop-key-preserved c =
    learns_old c.args.carried.now c.args.known.now c.loop-key.known c.add.new.self c.args.keys.items
    c.pop.new.self.items c.in-Some.key c.in_ok-add.ensures.adds
    (subst (λ (left : List Key). Learning c.args.carried.now c.args.known.now c.loop-key.known c.args.keys.items left)
    c.in-Some.ensures.items c.loop-key.invariant)
    (not_false (has c.loop-key.known c.in-Some.key.0) (sym c.in_ok-add.ensures.new ∙ c.if-branch.false))

pub loop-key-smaller-in-Continue-branch-2 : goal.loop-key-smaller-in-Continue-branch-2
loop-key-smaller-in-Continue-branch-2 c =
    let once = opened_once c.loop-key.known c.add.new.self c.in-Some.key
    (known_more _ _ c.in-Some.key c.in_ok-add.ensures.adds)
    (not_true (has c.loop-key.known c.in-Some.key.0) (sym c.in_ok-add.ensures.new ∙ c.if-branch.true))
    (known_now _ _ c.in-Some.key c.in_ok-add.ensures.adds)
    c.args.carried.now.sets.entries in
    let more = ap (λ (l : List Key). length l) c.in_ok-append_to.ensures ∙ length-append c.pop.new.self.items
    (keys_at key_cmp c.args.carried.now c.in-Some.key) in
    let less = ap (λ (l : List Key). length l) c.in-Some.ensures.items ∙ length-append c.pop.new.self.items
    (c.in-Some.key ∷ []) in
    omega arith
