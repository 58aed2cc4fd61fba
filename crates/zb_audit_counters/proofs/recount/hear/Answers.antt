use Rattle.std.proofs.Common.{◌∙◌, ℕ, Some, ap, cond}
use Rattle.std.specs.BTreeMap.{BTreeMap, get, is_at}
use Rattle.std.specs.Ordering.{nat_cmp}
use Rattle.zb_audit_counters.proofs.Running.{found_there, found_new, heard_at, put_at, there}
use Rattle.zb_audit_counters.proofs.recount.hear.Goals as goal
use Rattle.zb_audit_counters.specs.declared.counters.Counters.{Counters}

pub returns-in-Some : goal.returns-in-Some
returns-in-Some c =
    let holds = c.get_mut.follows.holds c.hear.new.self in
    heard_at c.args.group c.args.number c.args.line.now _ _ c.args.who.place c.args.nodes.now
    (c.get_mut.follows.lender c.hear.new.self) c.in-Some.counters.now c.hear.new.self c.hear.result
    (found_there _ c.in-Some.counters.now c.in-Some.ensures.value)
    (holds.3 (there _ c.in-Some.counters.now c.in-Some.ensures.value)).0 c.hear.ensures.judged c.hear.ensures.heard

pub returns-in_ok-insert-in-None : goal.returns-in_ok-insert-in-None
returns-in_ok-insert-in-None c =
    let same = c.get_mut.follows.holds-at-none in
    record {
      was = c.new-counters.result;
      is = c.hear-in-None.new.self;
      found = found_new _ c.new-counters.result c.in-None.ensures.value c.new-counters.ensures;
      heard = c.in_ok-judgement-in-None.ensures.heard;
      judged = c.in_ok-judgement-in-None.ensures.judged;
      puts = λ q. c.in_ok-insert-in-None.ensures.updates.0 q
          ∙ (ap (λ (m : BTreeMap ℕ Counters). cond (is_at (nat_cmp c.args.who.place) q) (Some c.hear-in-None.new.self)
          (get nat_cmp m q)) same ∙ put_at c.args.who.place q c.hear-in-None.new.self
          (get nat_cmp c.args.nodes.now q));
    }
