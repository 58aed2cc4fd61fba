use Rattle.std.proofs.Common.{◌≡◌, ◌∙◌, List, ◌++◌, ap, subst}
use Rattle.zb_base.specs.declared.key.Key.{Key}
use Rattle.zb_trace_watch.specs.Exposure.{Learns}
use Rattle.zb_trace_watch.specs.Sets.{eui_cmp, keys_at}
use Rattle.zb_trace_watch.proofs.Owners.{removed_number}
use Rattle.zb_trace_watch.proofs.Settling.{settled_by_removal}
use Rattle.zb_trace_watch.proofs.exposure.Exposure.remove.Goals as goal

pub returns-in_ok-learn-clause-removed : goal.returns-in_ok-learn-clause-removed
returns-in_ok-learn-clause-removed c = removed_number c.insert.new.self c.args.self.now.removed c.args.device
    c.in_ok-insert.ensures.updates.0

pub returns-in_ok-learn-clause-settled : goal.returns-in_ok-learn-clause-settled
returns-in_ok-learn-clause-settled c =
    let listed : c.append_to.new.list.items ≡ keys_at eui_cmp c.args.self.now.ever c.args.device =
    c.in_ok-append_to.ensures ∙ ap (λ (l : List Key). l ++ keys_at eui_cmp c.args.self.now.ever c.args.device)
    c.new-keys.ensures.items in
    settled_by_removal c.args.self.now c.insert.new.self c.args.device
    (removed_number c.insert.new.self c.args.self.now.removed c.args.device c.in_ok-insert.ensures.updates.0)
    c.learn.new.known
    (subst (λ (l : List Key). Learns c.args.self.now.carried c.args.self.now.known c.learn.new.known l) listed
    c.in_ok-learn.ensures)
