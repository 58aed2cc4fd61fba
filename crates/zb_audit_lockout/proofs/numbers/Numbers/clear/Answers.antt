use Rattle.std.proofs.Common.{◌++◌, List, ◌∷◌, [], length, length-append, arith, ap, sym, ◌∙◌, subst}
use Rattle.zb_base.specs.declared.key.Key.{Key}
use Rattle.zb_trace_watch.specs.Sets.{key_cmp, keys_at}
use Rattle.zb_audit_lockout.proofs.Clearing.{Clearing, clears_new, clears_old, is_clear, is_clear_now, stays_clear, was_not_clear}
use Rattle.zb_audit_lockout.proofs.Left.{done_once, fewer_left}
use Rattle.zb_audit_lockout.proofs.numbers.Numbers.clear.Goals as goal

pub loop-key-preserved-in-Continue-branch-2 : goal.loop-key-preserved-in-Continue-branch-2
loop-key-preserved-in-Continue-branch-2 c =
    subst (λ (cleared : List Key). Clearing c.args.bases.now c.args.self.now c.clear_one.new.self c.args.keys.items
    c.append_to.new.list.items cleared) (sym c.in_ok-push.ensures.items)
    (subst (λ (left : List Key). Clearing c.args.bases.now c.args.self.now c.clear_one.new.self c.args.keys.items
    left (c.loop-key.cleared.items ++ c.in-Some.key ∷ [])) (sym c.in_ok-append_to.ensures)
    (clears_new c.loop-key.self c.clear_one.new.self c.in-Some.key c.clear_one.ensures.numbers c.args.bases.now
    c.args.self.now c.args.keys.items c.pop.new.self.items c.loop-key.cleared.items
    (subst (λ (left : List Key). Clearing c.args.bases.now c.args.self.now c.loop-key.self c.args.keys.items left
    c.loop-key.cleared.items) c.in-Some.ensures.items c.loop-key.invariant)))

pub loop-key-preserved : goal.loop-key-preserved
loop-key-preserved c =
    clears_old c.loop-key.self c.clear_one.new.self c.in-Some.key c.clear_one.ensures.numbers c.args.bases.now
    c.args.self.now c.args.keys.items c.pop.new.self.items c.loop-key.cleared.items
    (subst (λ (left : List Key). Clearing c.args.bases.now c.args.self.now c.loop-key.self c.args.keys.items left
    c.loop-key.cleared.items) c.in-Some.ensures.items c.loop-key.invariant)
    (sym c.clear_one.ensures.clears ∙ c.if-clear_one.false)

pub loop-key-smaller-in-Continue-branch-2 : goal.loop-key-smaller-in-Continue-branch-2
loop-key-smaller-in-Continue-branch-2 c =
    let above = sym c.clear_one.ensures.clears ∙ c.if-clear_one.true in
    let once = done_once (is_clear c.loop-key.self) (is_clear c.clear_one.new.self)
    (stays_clear c.loop-key.self c.clear_one.new.self c.in-Some.key c.clear_one.ensures.numbers) c.in-Some.key
    (was_not_clear c.loop-key.self c.clear_one.new.self c.in-Some.key c.clear_one.ensures.numbers above)
    (is_clear_now c.loop-key.self c.clear_one.new.self c.in-Some.key c.clear_one.ensures.numbers)
    c.args.bases.now.sets.entries in
    let more = ap (λ (l : List Key). length l) c.in_ok-append_to.ensures ∙ length-append c.pop.new.self.items
    (keys_at key_cmp c.args.bases.now c.in-Some.key) in
    let less = ap (λ (l : List Key). length l) c.in-Some.ensures.items ∙ length-append c.pop.new.self.items
    (c.in-Some.key ∷ []) in
    omega arith

pub loop-key-smaller : goal.loop-key-smaller
loop-key-smaller c =
    let fewer = fewer_left (is_clear c.loop-key.self) (is_clear c.clear_one.new.self)
    (stays_clear c.loop-key.self c.clear_one.new.self c.in-Some.key c.clear_one.ensures.numbers)
    c.args.bases.now.sets.entries in
    let less = ap (λ (l : List Key). length l) c.in-Some.ensures.items ∙ length-append c.pop.new.self.items
    (c.in-Some.key ∷ []) in
    omega arith
