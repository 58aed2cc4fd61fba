-- A received command has the same outcome at a state and at what is shown of it.
use Rattle.std.proofs.Common.{◌≡◌, ℕ, [], refl, ap, true, not, ◌&&◌, Option, Some, None}
use Rattle.zb_model.specs.Data.{Bytes, Nwk, NoKey, NotMember, CounterSpent, Policy, Command, TransportNet, TransportApp, TransportLink, UpdateDevice, RemoveDevice, RequestApp, RequestLink, SwitchKey, Tunnel, VerifyKey, ConfirmKey}
use Rattle.zb_model.specs.State.{NodeState, NetKey, LinkKey, PairKey, shown, is_centre, active_row, current, offered, is_live, other_user, pair_of}
use Rattle.zb_model.specs.Tools.{Tools}
use Rattle.zb_model.specs.Rules.{Outcome, Does, Tunnelled, Setting, refuse_if, refuse_unless, found_or, sends, short_of, both_spent, drop_partner}
use Rattle.zb_model.specs.Commands.{Heard, eui_of, under_current, take_net_key, take_row, take_link_key, take_app_key, take_switch, take_confirm, take_remove, take_tunnel, take_update, answer_request, take_request, answer_pair, take_app_request, take_verify, take_command}
use Rattle.law_tables_suffice.proofs.Questions.{has_same, dropped_same, live_of_same, spent_same, both_spent_same, full_same, held_same, drop_old_same}
use Rattle.law_tables_suffice.proofs.OwnRules.{in_active, each_found}

net_key_same : (c : Setting) (s : NodeState) (m : Heard) (key : Bytes) (sequence destination source : ℕ)
    → take_net_key c (shown s) m key sequence destination source ≡ take_net_key c s m key sequence destination source
unfolding shown take_net_key current offered
net_key_same c s m key sequence destination source =
    rw (dropped_same 0 key s.nets, has_same key s.nets, full_same s, drop_old_same s) refl

link_key_same : (c : Setting) (s : NodeState) (m : Heard) (key : Bytes) (destination source : ℕ)
    → take_link_key c (shown s) m key destination source ≡ take_link_key c s m key destination source
unfolding shown take_link_key current offered take_row other_user
link_key_same c s m key destination source = refl

app_key_same : (c : Setting) (s : NodeState) (m : Heard) (key : Bytes) (partner : ℕ)
    → take_app_key c (shown s) m key partner ≡ take_app_key c s m key partner
unfolding shown take_app_key drop_partner take_row other_user
app_key_same c s m key partner = refl

switch_same : (c : Setting) (s : NodeState) (m : Heard) (sequence : ℕ) → take_switch c (shown s) m sequence
    ≡ take_switch c s m sequence
unfolding take_switch
switch_same c s m sequence = rw (live_of_same s sequence) refl

confirm_same : (c : Setting) (s : NodeState) (m : Heard) (status kind destination : ℕ)
    → take_confirm c (shown s) m status kind destination ≡ take_confirm c s m status kind destination
unfolding shown take_confirm current offered
confirm_same c s m status kind destination = refl

remove_same : (c : Setting) (s : NodeState) (m : Heard) (target : ℕ) → take_remove c (shown s) m target
    ≡ take_remove c s m target
unfolding take_remove
remove_same c s m target = rw (spent_same Nwk s) refl

tunnel_same : (c : Setting) (s : NodeState) (m : Heard) (destination : ℕ) (inner : Bytes)
    → take_tunnel c (shown s) m destination inner ≡ take_tunnel c s m destination inner
unfolding take_tunnel
tunnel_same c s m destination inner = refl

update_same : (c : Setting) (s : NodeState) (m : Heard) (device status : ℕ) → take_update c (shown s) m device status
    ≡ take_update c s m device status
unfolding shown take_update current
update_same c s m device status = rw (both_spent_same s, found_shown) refl
  where
    rest : NetKey → Outcome
    rest net =
        found_or (current s device) NotMember (λ row.
        refuse_if (both_spent s) CounterSpent (
        Does []
        (sends (short_of c (eui_of m.nwk_source)) true
        (Tunnelled device row.key (TransportNet net.key net.sequence device c.me.eui)))))

    found_shown : found_or (active_row (shown s)) NoKey rest ≡ found_or (active_row s) NoKey rest
    found_shown = in_active s NoKey rest rest (λ r. refl)

request_by : (c : Setting) (s : NodeState) (device : ℕ) (draw : Option Bytes) (row : LinkKey) (o : Option LinkKey)
    → answer_request c (shown s) device draw row o ≡ answer_request c s device draw row o
unfolding shown
request_by c s device draw row (Some offer) = rw (both_spent_same s) refl
request_by c s device draw row None = rw (held_same s draw, both_spent_same s) refl

request_same : (c : Setting) (s : NodeState) (m : Heard) (draw : Option Bytes) → take_request c (shown s) m draw
    ≡ take_request c s m draw
unfolding shown take_request current offered
request_same c s m draw =
    ap (refuse_unless (is_centre c.me.role && under_current s m) Policy)
    (each_found (current s m.sender) Policy _ _ (λ row. request_by c s m.sender draw row (offered s m.sender)))

pair_by : (c : Setting) (s : NodeState) (device partner : ℕ) (draw : Option Bytes) (row : LinkKey)
    (o : Option PairKey) → answer_pair c (shown s) device partner draw row o
    ≡ answer_pair c s device partner draw row o
unfolding shown
pair_by c s device partner draw row (Some pair) = rw (both_spent_same s) refl
pair_by c s device partner draw row None = rw (held_same s draw, both_spent_same s) refl

app_request_same : (c : Setting) (s : NodeState) (m : Heard) (draw : Option Bytes) (partner : ℕ)
    → take_app_request c (shown s) m draw partner ≡ take_app_request c s m draw partner
unfolding shown take_app_request current is_live pair_of
app_request_same c s m draw partner =
    rw (each_found (current s m.sender) Policy
    (λ row. answer_pair c (shown s) m.sender partner draw row (pair_of s m.sender partner))
    (λ row. answer_pair c s m.sender partner draw row (pair_of s m.sender partner))
    (λ row. pair_by c s m.sender partner draw row (pair_of s m.sender partner))) refl

verify_same : (tools : Tools) (c : Setting) (s : NodeState) (m : Heard) (kind device : ℕ) (hash : Bytes)
    → take_verify tools c (shown s) m kind device hash ≡ take_verify tools c s m kind device hash
unfolding shown take_verify current is_live offered
verify_same tools c s m kind device hash = rw (both_spent_same s) refl

pub command_same : (tools : Tools) (c : Setting) (s : NodeState) (draw : Option Bytes) (m : Heard) (command : Command)
    → take_command tools c (shown s) draw m command ≡ take_command tools c s draw m command
unfolding take_command
command_same tools c s draw m (TransportNet key sequence destination source) =
    net_key_same c s m key sequence destination source
command_same tools c s draw m (TransportApp key partner initiator) = app_key_same c s m key partner
command_same tools c s draw m (TransportLink key destination source) = link_key_same c s m key destination source
command_same tools c s draw m (UpdateDevice device short status) = update_same c s m device status
command_same tools c s draw m (RemoveDevice target) = remove_same c s m target
command_same tools c s draw m (RequestApp partner) = app_request_same c s m draw partner
command_same tools c s draw m RequestLink = request_same c s m draw
command_same tools c s draw m (SwitchKey sequence) = switch_same c s m sequence
command_same tools c s draw m (Tunnel destination inner) = tunnel_same c s m destination inner
command_same tools c s draw m (VerifyKey kind source hash) = verify_same tools c s m kind source hash
command_same tools c s draw m (ConfirmKey status kind destination) = confirm_same c s m status kind destination
