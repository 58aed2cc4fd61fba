use Rattle.std.proofs.Common.{refl, subst, sym}
use Rattle.zb_model.specs.Readings.{stations_of}
use Rattle.zb_trace.specs.Views.{logged}
use Rattle.zb_trace.specs.declared.line.Line.{Line}
use Rattle.zb_trace.specs.declared.line.Line.TheVariants as line
use Rattle.zb_trace_watch.specs.Nodes.{no_node, who_is}
use Rattle.zb_trace_watch.specs.Watching.{Follows, FollowsBy}
use Rattle.zb_trace_watch.proofs.Found.{joiner_counts}
use Rattle.zb_trace_watch.proofs.Logged.{given_link_grows, given_net_grows, install_grows, line_follows, other_grows, other_stations, row_grows}
use Rattle.zb_trace_watch.proofs.Starting.{on_ok}
use Rattle.zb_trace_watch.proofs.watch.Watch.line.Goals as goal

pub returns-in-Node : goal.returns-in-Node
returns-in-Node c =
    on_ok c.declare.result _ _
    (λ all tools h. subst
    (λ (l : Line). Follows c.args.self.now c.declare.new.self (logged (stations_of h) l) h tools)
    (sym c.in-Node.is) (all tools h _ (record { name_is = refl; eui_is = refl; role_is = refl })))
    c.declare.ensures

pub returns-in-GivenNet : goal.returns-in-GivenNet
returns-in-GivenNet c =
    on_ok c.of_node.result _ _
    (λ follows tools h. subst (λ (l : Line). Follows c.args.self.now c.of_node.new.self (logged (stations_of h) l) h
    tools)
    (sym c.in-GivenNet.is)
    (line_follows tools c.args.self.now c.of_node.new.self h (who_is c.args.self.now.nodes c.in-GivenNet.node)
    (line.GivenNet c.in-GivenNet.node c.in-GivenNet.key c.in-GivenNet.sequence) _
    c.of_node.ensures.nodes refl (λ declares it. joiner_counts c.args.self.now.nodes h declares c.in-GivenNet.node)
    (λ declares. given_net_grows tools c.args.self.now.nodes h declares c.in-GivenNet.node c.in-GivenNet.key
    c.in-GivenNet.sequence)
    (subst (λ (l : Line). FollowsBy tools (who_is c.args.self.now.nodes c.in-GivenNet.node) l c.args.self.now.words
    c.of_node.new.self.words) c.in-GivenNet.is (follows tools))))
    c.of_node.ensures.words

pub returns-in-GivenLink : goal.returns-in-GivenLink
returns-in-GivenLink c =
    on_ok c.of_node-in-GivenLink.result _ _
    (λ follows tools h. subst (λ (l : Line). Follows c.args.self.now c.of_node-in-GivenLink.new.self (logged
    (stations_of h) l) h tools)
    (sym c.in-GivenLink.is)
    (line_follows tools c.args.self.now c.of_node-in-GivenLink.new.self h (who_is c.args.self.now.nodes
    c.in-GivenLink.node)
    (line.GivenLink c.in-GivenLink.node c.in-GivenLink.partner c.in-GivenLink.key) _
    c.of_node-in-GivenLink.ensures.nodes refl (λ declares it. joiner_counts c.args.self.now.nodes h declares
    c.in-GivenLink.node)
    (λ declares. given_link_grows tools c.args.self.now.nodes h declares c.in-GivenLink.node c.in-GivenLink.partner
    c.in-GivenLink.key)
    (subst (λ (l : Line). FollowsBy tools (who_is c.args.self.now.nodes c.in-GivenLink.node) l c.args.self.now.words
    c.of_node-in-GivenLink.new.self.words) c.in-GivenLink.is (follows tools))))
    c.of_node-in-GivenLink.ensures.words

pub returns-in-Install : goal.returns-in-Install
returns-in-Install c =
    on_ok c.of_node-in-Install.result _ _
    (λ follows tools h. subst (λ (l : Line). Follows c.args.self.now c.of_node-in-Install.new.self (logged
    (stations_of h) l) h tools)
    (sym c.in-Install.is)
    (line_follows tools c.args.self.now c.of_node-in-Install.new.self h (who_is c.args.self.now.nodes
    c.in-Install.node)
    (line.Install c.in-Install.event c.in-Install.node c.in-Install.key c.in-Install.sequence) _
    c.of_node-in-Install.ensures.nodes refl (λ declares it. joiner_counts c.args.self.now.nodes h declares
    c.in-Install.node)
    (λ declares. install_grows tools c.args.self.now.nodes h declares c.in-Install.event c.in-Install.node
    c.in-Install.key c.in-Install.sequence)
    (subst (λ (l : Line). FollowsBy tools (who_is c.args.self.now.nodes c.in-Install.node) l c.args.self.now.words
    c.of_node-in-Install.new.self.words) c.in-Install.is (follows tools))))
    c.of_node-in-Install.ensures.words

pub returns-in-Row : goal.returns-in-Row
returns-in-Row c =
    on_ok c.of_node-in-Row.result _ _
    (λ follows tools h. subst (λ (l : Line). Follows c.args.self.now c.of_node-in-Row.new.self (logged (stations_of h)
    l) h tools)
    (sym c.in-Row.is)
    (line_follows tools c.args.self.now c.of_node-in-Row.new.self h (who_is c.args.self.now.nodes c.in-Row.node)
    (line.Row c.in-Row.event c.in-Row.node c.in-Row.partner c.in-Row.key c.in-Row.attribute) _
    c.of_node-in-Row.ensures.nodes refl (λ declares it. joiner_counts c.args.self.now.nodes h declares c.in-Row.node)
    (λ declares. row_grows tools c.args.self.now.nodes h declares c.in-Row.event c.in-Row.node c.in-Row.partner
    c.in-Row.key c.in-Row.attribute)
    (subst (λ (l : Line). FollowsBy tools (who_is c.args.self.now.nodes c.in-Row.node) l c.args.self.now.words
    c.of_node-in-Row.new.self.words) c.in-Row.is (follows tools))))
    c.of_node-in-Row.ensures.words

pub returns-in_default : goal.returns-in_default
returns-in_default c =
    on_ok c.of_nobody.result _ _
    (λ follows tools h.
    let it = c.in_default in
    line_follows tools c.args.self.now c.of_nobody.new.self h no_node c.args.line.now (logged (stations_of h)
    c.args.line.now) c.of_nobody.ensures.nodes (other_stations (stations_of h) c.args.line.now it.not-Node)
    (λ declares it. tt)
    (λ declares. other_grows tools h c.args.line.now it.not-Node it.not-GivenNet it.not-GivenLink it.not-Install
    it.not-Row) (follows tools))
    c.of_nobody.ensures.words
