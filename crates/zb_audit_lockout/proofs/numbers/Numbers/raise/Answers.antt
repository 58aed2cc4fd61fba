use Rattle.std.proofs.Common.{◌++◌, List, ◌∷◌, [], length, length-append, arith, ap, sym, ◌∙◌, subst}
use Rattle.zb_base.specs.declared.key.Key.{Key}
use Rattle.zb_trace_watch.specs.Sets.{key_cmp, keys_at}
use Rattle.zb_audit_lockout.proofs.Left.{done_once}
use Rattle.zb_audit_lockout.proofs.Raised.{Raising, is_high, is_high_now, raises_new, raises_old, stays_high, was_low}
use Rattle.zb_audit_lockout.proofs.numbers.Numbers.raise.Goals as goal

pub loop-key-preserved-in-Continue-branch-3 : goal.loop-key-preserved-in-Continue-branch-3
loop-key-preserved-in-Continue-branch-3 c =
    subst (λ (raised : List Key). Raising c.args.leads.now c.args.self.now c.raise_one.new.self c.args.keys.items
    c.append_to.new.list.items c.args.number raised) (sym c.in_ok-push.ensures.items)
    (subst (λ (left : List Key). Raising c.args.leads.now c.args.self.now c.raise_one.new.self c.args.keys.items
    left c.args.number (c.loop-key.raised.items ++ c.in-Some.key ∷ [])) (sym c.in_ok-append_to.ensures)
    (raises_new c.args.leads.now c.args.self.now c.loop-key.self c.raise_one.new.self c.args.keys.items
    c.pop.new.self.items c.args.number c.loop-key.raised.items c.in-Some.key c.in_ok-raise_one.ensures.numbers
    (subst (λ (left : List Key). Raising c.args.leads.now c.args.self.now c.loop-key.self c.args.keys.items left
    c.args.number c.loop-key.raised.items) c.in-Some.ensures.items c.loop-key.invariant)
    (sym c.in_ok-raise_one.ensures.rises ∙ c.if-branch.true)))

pub loop-key-preserved : goal.loop-key-preserved
loop-key-preserved c =
    raises_old c.args.leads.now c.args.self.now c.loop-key.self c.raise_one.new.self c.args.keys.items
    c.pop.new.self.items c.args.number c.loop-key.raised.items c.in-Some.key c.in_ok-raise_one.ensures.numbers
    (subst (λ (left : List Key). Raising c.args.leads.now c.args.self.now c.loop-key.self c.args.keys.items left
    c.args.number c.loop-key.raised.items) c.in-Some.ensures.items c.loop-key.invariant)
    (sym c.in_ok-raise_one.ensures.rises ∙ c.if-branch.false)

pub loop-key-smaller-in-Continue-branch-3 : goal.loop-key-smaller-in-Continue-branch-3
loop-key-smaller-in-Continue-branch-3 c =
    let below = sym c.in_ok-raise_one.ensures.rises ∙ c.if-branch.true in
    let once = done_once (is_high c.loop-key.self c.args.number) (is_high c.raise_one.new.self c.args.number)
    (stays_high c.loop-key.self c.raise_one.new.self c.args.number c.in-Some.key c.in_ok-raise_one.ensures.numbers)
    c.in-Some.key
    (was_low c.loop-key.self c.raise_one.new.self c.args.number c.in-Some.key c.in_ok-raise_one.ensures.numbers below)
    (is_high_now c.loop-key.self c.raise_one.new.self c.args.number c.in-Some.key c.in_ok-raise_one.ensures.numbers
    below) c.args.leads.now.sets.entries in
    let more = ap (λ (l : List Key). length l) c.in_ok-append_to.ensures ∙ length-append c.pop.new.self.items
    (keys_at key_cmp c.args.leads.now c.in-Some.key) in
    let less = ap (λ (l : List Key). length l) c.in-Some.ensures.items ∙ length-append c.pop.new.self.items
    (c.in-Some.key ∷ []) in
    omega arith
