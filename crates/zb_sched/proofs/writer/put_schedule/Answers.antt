use Rattle.std.proofs.Common.{◌≡◌, ℕ, ◌++◌, ◌∙◌, map, ap, List}
use Rattle.std.specs.List.{flat_map}
use Rattle.zb_base.specs.declared.key.Key.{Key}
use Rattle.zb_sched_line.specs.declared.event.Event.{Event}
use Rattle.zb_sched_line.specs.Views.{event_of}
use Rattle.zb_text.specs.Pages.{page}
use Rattle.zb_sched.specs.Schedules.{node_of}
use Rattle.zb_sched.specs.Printed.{event_line, code_lines, counter_lines, draw_line, netkey_lines, node_line}
use Rattle.zb_sched.specs.declared.schedule.Node.{Node}
use Rattle.zb_sched.proofs.PageLemmas.{printed_by_kind, regrouped}
use Rattle.zb_sched.proofs.writer.put_schedule.Goals as goal

pub returns : goal.returns
returns c =
    let piece0 : c.put_nodes.new.out.items ≡ c.args.out.now.items
    ++ (page (map (λ (n : Node). node_line (node_of n)) c.args.schedule.now.nodes)) =
    c.in_ok-put_nodes.ensures ∙ ap (λ (y : List ℕ). c.args.out.now.items ++ y)
    (ap (λ (x : List Node). page (map (λ (n : Node). node_line (node_of n)) x)) c.as_slice.ensures) in
    let piece1 : c.put_codes.new.out.items ≡ c.put_nodes.new.out.items
    ++ (page (flat_map (λ (n : Node). code_lines (node_of n)) c.args.schedule.now.nodes)) =
    c.in_ok-put_codes.ensures ∙ ap (λ (y : List ℕ). c.put_nodes.new.out.items ++ y)
    (ap (λ (x : List Node). page (flat_map (λ (n : Node). code_lines (node_of n)) x)) c.as_slice-2.ensures) in
    let piece2 : c.put_netkeys.new.out.items ≡ c.put_codes.new.out.items
    ++ (page (flat_map (λ (n : Node). netkey_lines (node_of n)) c.args.schedule.now.nodes)) =
    c.in_ok-put_netkeys.ensures ∙ ap (λ (y : List ℕ). c.put_codes.new.out.items ++ y)
    (ap (λ (x : List Node). page (flat_map (λ (n : Node). netkey_lines (node_of n)) x)) c.as_slice-3.ensures) in
    let piece3 : c.put_counters.new.out.items ≡ c.put_netkeys.new.out.items
    ++ (page (flat_map (λ (n : Node). counter_lines (node_of n)) c.args.schedule.now.nodes)) =
    c.in_ok-put_counters.ensures ∙ ap (λ (y : List ℕ). c.put_netkeys.new.out.items ++ y)
    (ap (λ (x : List Node). page (flat_map (λ (n : Node). counter_lines (node_of n)) x)) c.as_slice-4.ensures) in
    let piece4 : c.put_draws.new.out.items ≡ c.put_counters.new.out.items
    ++ (page (map (λ (k : Key). draw_line k.0) c.args.schedule.now.draws)) =
    c.in_ok-put_draws.ensures ∙ ap (λ (y : List ℕ). c.put_counters.new.out.items ++ y)
    (ap (λ (x : List Key). page (map (λ (k : Key). draw_line k.0) x)) c.as_slice-5.ensures) in
    let piece5 : c.put_events.new.out.items ≡ c.put_draws.new.out.items
    ++ (page (map (λ (e : Event). event_line (event_of e)) c.args.schedule.now.events)) =
    c.in_ok-put_events.ensures ∙ ap (λ (y : List ℕ). c.put_draws.new.out.items ++ y)
    (ap (λ (x : List Event). page (map (λ (e : Event). event_line (event_of e)) x)) c.as_slice-6.ensures) in
    let text = printed_by_kind c.args.schedule.now.nodes c.args.schedule.now.draws c.args.schedule.now.events in
    let grouped =
    regrouped c.args.out.now.items (page (map (λ (n : Node). node_line (node_of n)) c.args.schedule.now.nodes))
    (page (flat_map (λ (n : Node). code_lines (node_of n)) c.args.schedule.now.nodes))
    (page (flat_map (λ (n : Node). netkey_lines (node_of n)) c.args.schedule.now.nodes))
    (page (flat_map (λ (n : Node). counter_lines (node_of n)) c.args.schedule.now.nodes))
    (page (map (λ (k : Key). draw_line k.0) c.args.schedule.now.draws))
    (page (map (λ (e : Event). event_line (event_of e)) c.args.schedule.now.events)) in
    cc (piece0, piece1, piece2, piece3, piece4, piece5, text, grouped)
