use Rattle.std.proofs.Common.{ℕ, Option, ◌||◌, ap, sym, ◌∙◌, bytes_eq, is_some}
use Rattle.std.specs.BTreeMap.{get}
use Rattle.std.specs.Global.{Vec}
use Rattle.std.specs.List.{list_any}
use Rattle.std.specs.Ordering.{nat_cmp}
use Rattle.zb_trace_watch.specs.Terms.{is_kept}
use Rattle.zb_trace_watch.proofs.TermBytes.{back_in_place, first_added}
use Rattle.zb_trace_watch.proofs.terms.Terms.keep.Goals as goal

pub returns-in-None : goal.returns-in-None
returns-in-None c =
    λ h b alone.
    first_added (get nat_cmp c.args.self.now.firsts) (get nat_cmp c.insert.new.self) c.args.head c.args.bytes h b
    (list_any (λ (kept : Vec ℕ). bytes_eq b kept.items) c.args.self.now.others.keys)
    (c.in_ok-there.ensures.updates.0 h) (ap is_some (sym c.in_ok-there.ensures.old ∙ c.in-None.is)) alone

pub returns-in_ok-put_back-in-Some : goal.returns-in_ok-put_back-in-Some
returns-in_ok-put_back-in-Some c =
    λ h b alone.
    let others = list_any (λ (kept : Vec ℕ). bytes_eq b kept.items) c.args.self.now.others.keys in
    back_in_place (get nat_cmp c.args.self.now.firsts) (get nat_cmp c.insert.new.self)
    (get nat_cmp c.put_back.new.self.firsts) c.args.head c.in-Some.first c.args.bytes h b others
    (list_any (λ (kept : Vec ℕ). bytes_eq b kept.items) c.put_back.new.self.others.keys)
    (sym c.in_ok-there.ensures.old ∙ c.in-Some.is) (c.in_ok-there.ensures.updates.0 h)
    (c.in_ok-put_back-in-Some.ensures.firsts h)
    (c.in_ok-put_back-in-Some.ensures.others b
    ∙ ap (λ (o : Option (Vec ℕ)). others || is_kept o b) c.in_ok-there.ensures.updates.1)
