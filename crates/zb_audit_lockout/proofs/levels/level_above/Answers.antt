use Rattle.std.proofs.Common.{List, ◌∷◌, [], length, length-append, arith, ap, sym, ◌∙◌}
use Rattle.zb_base.specs.declared.key.Key.{Key}
use Rattle.zb_trace_watch.specs.Sets.{has, key_cmp, keys_at}
use Rattle.zb_trace_watch.proofs.Learning.{opened_once, known_more, known_now}
use Rattle.zb_trace_watch.proofs.Truth.{not_true}
use Rattle.zb_audit_lockout.proofs.levels.level_above.Goals as goal

pub loop-key-smaller-in-Continue-branch-3 : goal.loop-key-smaller-in-Continue-branch-3
loop-key-smaller-in-Continue-branch-3 c =
    let once = opened_once c.loop-key.seen c.add.new.self c.in-Some.key
    (known_more _ _ c.in-Some.key c.in_ok-add.ensures.adds)
    (not_true (has c.loop-key.seen c.in-Some.key.0) (sym c.in_ok-add.ensures.new ∙ c.if-branch.true))
    (known_now _ _ c.in-Some.key c.in_ok-add.ensures.adds)
    c.args.leads.now.sets.entries in
    let more = ap (λ (l : List Key). length l) c.in_ok-append_to.ensures ∙ length-append c.pop.new.self.items
    (keys_at key_cmp c.args.leads.now c.in-Some.key) in
    let less = ap (λ (l : List Key). length l) c.in-Some.ensures.items ∙ length-append c.pop.new.self.items
    (c.in-Some.key ∷ []) in
    omega arith
