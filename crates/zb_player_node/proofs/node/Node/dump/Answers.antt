use Rattle.std.proofs.Common.{◌≡◌, ℕ, List, [], take, sym, ◌∙◌, subst}
use Rattle.std.specs.Option.{MatchOption}
use Rattle.zb_armed_host.specs.Driven.{IsShown}
use Rattle.zb_host.specs.Hosts.{Gives}
use Rattle.zb_player_node.proofs.Conditions.{was_dumped}
use Rattle.zb_player_node.proofs.Machines.{room_is, dump_is}
use Rattle.zb_player_node.specs.Answers.{IsDump}
use Rattle.zb_player_node.specs.Values.{NodeValue}
use Rattle.zb_node_types.specs.Changes.{model_role}
use Rattle.zb_stored_tables.specs.Stored.{restored}
use Rattle.zb_player_node.proofs.node.Node.dump.Goals as goal

pub returns-clause-record_is : goal.returns-clause-record_is
returns-clause-record_is c =
    let room = c.dump.new.room in
    let same = room_is c.resize.new.self.len room c.resize.new.self.items (c.dump.auto.room ∙ c.deref_mut.ensures.len)
    in
    was_dumped c.args.self.now c.args.disk.now c.dump.new.disk c.keep_shown.new.room.items c.in_ok-len.ensures.still
    (λ s w whole quiet given. c.keep_shown.ensures.shown w
    (subst (λ (l : List ℕ). IsShown c.in_ok-len.len l w) (sym same)
    (c.in_ok-len.ensures.shown s w whole quiet
    (subst (λ (n : NodeValue). Gives (restored (model_role n.peer.role)) s w) (sym c.self.view_is) given))))

pub returns-clause-exact : goal.returns-clause-exact
returns-clause-exact c =
    let old = c.args.disk.now in
    let room = c.dump.new.room in
    let kept = c.keep_shown.new.room.items in
    let role = model_role c.self.inside.peer.role in
    let same = room_is c.resize.new.self.len room c.resize.new.self.items (c.dump.auto.room ∙ c.deref_mut.ensures.len)
    in
    subst (λ (n : NodeValue). IsDump (restored (model_role n.peer.role)) old kept) c.self.view_is
    (dump_is (restored role) old c.in_ok-len.len room kept c.in_ok-len.ensures.exact
    (subst (λ (l : List ℕ). MatchOption c.in_ok-len.len (kept ≡ []) (λ n. kept ≡ take n l)) same
    c.keep_shown.ensures.exact))
