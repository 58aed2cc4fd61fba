-- The rules that a router or device has make no change of the centre's, whatever the tools are.
use Rattle.std.proofs.Common.{◌≡◌, ℕ, Bool, true, false, cond, not, ◌&&◌, List, [], ◌∷◌, ◌++◌, map, filter, length, Option, Some, None, option_to_list, nat_le, sym, ◌∙◌, subst}
use Rattle.std.proofs.lemmas.Bool.{false≢true}
use Rattle.std.specs.List.{AllByRecursion}
use Rattle.zb_model.specs.Data.{Bytes, Offered, Confirmed, Unverified, Verified, Move, Install, Active, Row, Became, Command, TransportNet, TransportApp, TransportLink, UpdateDevice, RemoveDevice, RequestApp, RequestLink, SwitchKey, Tunnel, VerifyKey, ConfirmKey, AtAps, Reason, Term, Task, SayTo, TellTo, DoKnock, DoRejoin, DoTimer, AskFor, HasChild, DoProvision, DoRemove, DoRoll, DoSwitch, DoAgain, DoShare, Received}
use Rattle.zb_model.specs.State.{NetKey, LinkKey, NodeState, is_centre, is_live_of, is_active_key, live_nets, has_net, active_row, live_of, current, offered, other_user}
use Rattle.zb_model.specs.Tools.{Tools, NwkShown, ApsShown, ApsAuxiliary, CommandShown, Known, Unknown, Broken, LeaveShown, Leave, Other, NoCommand}
use Rattle.zb_model.specs.Judging.{Verdict, Not, Good, Carrier, judge_nwk, payload_of, Unsealed, judge_aps}
use Rattle.zb_model.specs.Rules.{Outcome, Stop, Does, Plan, Setting, refuse_if, refuse_unless, found_or, choose, centre_of, waits_for_key, drop_link, drop_row, drop_partner, drop_old, first_drop}
use Rattle.zb_model.specs.OwnEvents.{own}
use Rattle.zb_model.specs.Commands.{Heard, refuse_if_old, dropped_at, activates, activate, joined_state, refuse_if_used, take_net_key, take_row, take_link_key, take_app_key, take_switch, take_confirm, take_remove, take_tunnel, take_update, take_request, take_app_request, take_verify, take_command, take_leave}
use Rattle.zb_model.specs.Answer.{moves_of, comes_to, heard_clear, heard_sealed, nwk_command, aps_command, clear_part, sealed_part, by_security, aps_part, net_part, received_as, plan_of}
use Rattle.law_run.proofs.FreshLines.{all-append}
use Rattle.law_run.proofs.LockoutDeeds.{OfMember, Deed, member, nothing, quiet, verifies, rolls, offers, pairs, enters, removes, OutcomeFits, own-fits}

abbrev pub Members : Outcome → Type 0
Members o = AllByRecursion OfMember (moves_of o)

-- The steps of a rule

unless-of : (bad : Bool) (reason : Reason) (rest : Outcome) → Members rest → Members (refuse_if bad reason rest)
unfolding refuse_if
unless-of true reason rest k = tt
unless-of false reason rest k = k

given-of : {A : Type 0} (o : Option A) (reason : Reason) (rest : A → Outcome) → ((a : A) → Members (rest a))
    → Members (found_or o reason rest)
unfolding found_or
given-of None reason rest k = tt
given-of (Some a) reason rest k = k a

choose-of : (test : Bool) (one other : Outcome) → Members one → Members other → Members (choose test one other)
unfolding choose
choose-of true one other k j = k
choose-of false one other k j = j

old-of : (s : NodeState) (key : Bytes) (o : Option ℕ) (rest : Outcome) → Members rest
    → Members (refuse_if_old s key o rest)
old-of s key None rest k = k
old-of s key (Some place) rest k = tt

used-of : (o : Option LinkKey) (rest : Outcome) → Members rest → Members (refuse_if_used o rest)
used-of None rest k = k
used-of (Some r) rest k = tt

-- a node that isn't the centre refuses what is for the centre
centre-of : (c : Setting) (b : Bool) (reason : Reason) (rest : Outcome) → is_centre c.me.role ≡ false
    → Members (refuse_unless (is_centre c.me.role && b) reason rest)
unfolding refuse_if
centre-of c b reason rest e = subst (λ t. Members (cond (not (t && b)) (Stop reason) rest)) (sym e) tt

-- The lists of changes

active-if : (key : Bytes) (b : Bool) → AllByRecursion OfMember (cond b (Active key ∷ []) [])
active-if key true = (tt, tt)
active-if key false = tt

became-if : (c : Setting) (s : NodeState) (b : Bool)
    → AllByRecursion OfMember (cond b (Became (joined_state c s) ∷ []) [])
became-if c s true = (tt, tt)
became-if c s false = tt

activate-of : (c : Setting) (s : NodeState) (key : Bytes) → AllByRecursion OfMember (activate c s key)
activate-of c s key = all-append OfMember (cond (activates s) (Active key ∷ []) [])
    (cond (waits_for_key s.state) (Became (joined_state c s) ∷ []) []) (active-if key (activates s))
    (became-if c s (waits_for_key s.state))

first-of : (rows : List NetKey) → AllByRecursion OfMember (first_drop rows)
first-of [] = tt
first-of (r ∷ rs) = (tt, tt)

drop-old-of : (s : NodeState) → AllByRecursion OfMember (drop_old s)
unfolding drop_old
drop-old-of s = by-test (nat_le 2 (length (live_nets s)))
  where
    by-test : (b : Bool)
        → AllByRecursion OfMember
        (cond b (first_drop (filter (λ (r : NetKey). not (is_active_key s.active r.key)) (live_nets s))) [])
    by-test true = first-of (filter (λ (r : NetKey). not (is_active_key s.active r.key)) (live_nets s))
    by-test false = tt

row-of : (o : Option LinkKey) → AllByRecursion OfMember (drop_row o)
row-of None = tt
row-of (Some r) = (tt, tt)

rows-of : (rows : List LinkKey) → AllByRecursion OfMember (map drop_link rows)
rows-of [] = tt
rows-of (r ∷ rs) = (tt, rows-of rs)

partner-of : (s : NodeState) (partner : ℕ) → AllByRecursion OfMember (drop_partner s partner)
unfolding drop_partner
partner-of s partner = rows-of (filter (is_live_of partner) s.links)

-- The rules of commands

net-key-of : (c : Setting) (s : NodeState) (m : Heard) (key : Bytes) (sequence destination source : ℕ)
    → Members (take_net_key c s m key sequence destination source)
unfolding take_net_key
net-key-of c s m key sequence destination source =
    unless-of _ _ _ (old-of s key (dropped_at 0 key s.nets) _ (choose-of (has_net key s.nets) _ _ (activate-of c s key)
    (unless-of _ _ _
    (all-append OfMember (drop_old s) (Install key sequence ∷ activate c s key) (drop-old-of s)
    (tt, activate-of c s key)))))

take-row-of : (s : NodeState) (partner : ℕ) (key : Bytes) (moves : List Move) → AllByRecursion OfMember moves
    → Members (take_row s partner key moves)
unfolding take_row
take-row-of s partner key moves a = unless-of _ _ _ (used-of (other_user s partner key) _ a)

link-key-of : (c : Setting) (s : NodeState) (m : Heard) (key : Bytes) (destination source : ℕ)
    → Members (take_link_key c s m key destination source)
unfolding take_link_key
link-key-of c s m key destination source =
    unless-of _ _ _
    (unless-of _ _ _
    (choose-of _ _ _ tt
    (take-row-of s (centre_of c.stations) key
    (drop_row (offered s (centre_of c.stations))
    ++ (Row (centre_of c.stations) key Unverified ∷ Became Offered ∷ []))
    (all-append OfMember (drop_row (offered s (centre_of c.stations)))
    (Row (centre_of c.stations) key Unverified ∷ Became Offered ∷ []) (row-of (offered s (centre_of c.stations)))
    (tt, (tt, tt))))))

app-key-of : (c : Setting) (s : NodeState) (m : Heard) (key : Bytes) (partner : ℕ)
    → Members (take_app_key c s m key partner)
unfolding take_app_key
app-key-of c s m key partner =
    unless-of _ _ _
    (unless-of _ _ _
    (unless-of _ _ _
    (choose-of _ _ _ tt (take-row-of s partner key (drop_partner s partner ++ (Row partner key Verified ∷ []))
    (all-append OfMember (drop_partner s partner) (Row partner key Verified ∷ []) (partner-of s partner) (tt, tt))))))

switch-of : (c : Setting) (s : NodeState) (m : Heard) (sequence : ℕ) → Members (take_switch c s m sequence)
unfolding take_switch
switch-of c s m sequence = unless-of _ _ _ (given-of (live_of s sequence) _ _ (λ row. (tt, tt)))

confirm-of : (c : Setting) (s : NodeState) (m : Heard) (status kind destination : ℕ)
    → Members (take_confirm c s m status kind destination)
unfolding take_confirm
confirm-of c s m status kind destination =
    unless-of _ _ _ (unless-of _ _ _ (unless-of _ _ _ (given-of (offered s (centre_of c.stations)) _ _ (λ row.
    all-append OfMember (drop_row (current s (centre_of c.stations)))
    (Row row.partner row.key Verified ∷ Became Confirmed ∷ []) (row-of (current s (centre_of c.stations)))
    (tt, (tt, tt))))))

remove-of : (c : Setting) (s : NodeState) (m : Heard) (target : ℕ) → Members (take_remove c s m target)
unfolding take_remove
remove-of c s m target = unless-of _ _ _ (unless-of _ _ _ (unless-of _ _ _ tt))

tunnel-of : (c : Setting) (s : NodeState) (m : Heard) (destination : ℕ) (inner : Bytes)
    → Members (take_tunnel c s m destination inner)
unfolding take_tunnel
tunnel-of c s m destination inner = unless-of _ _ _ (unless-of _ _ _ tt)

update-of : (c : Setting) (s : NodeState) (m : Heard) (device status : ℕ) → Members (take_update c s m device status)
unfolding take_update
update-of c s m device status =
    unless-of _ _ _
    (choose-of _ _ _ tt
    (given-of (active_row s) _ _ (λ net. given-of (current s device) _ _ (λ row. unless-of _ _ _ tt))))

request-of : (c : Setting) (s : NodeState) (m : Heard) (draw : Option Bytes) → is_centre c.me.role ≡ false
    → Members (take_request c s m draw)
unfolding take_request
request-of c s m draw e = centre-of c _ _ _ e

app-request-of : (c : Setting) (s : NodeState) (m : Heard) (draw : Option Bytes) (partner : ℕ) → is_centre c.me.role
    ≡ false → Members (take_app_request c s m draw partner)
unfolding take_app_request
app-request-of c s m draw partner e = centre-of c _ _ _ e

verify-of : (tools : Tools) (c : Setting) (s : NodeState) (m : Heard) (kind device : ℕ) (hash : Bytes)
    → is_centre c.me.role ≡ false → Members (take_verify tools c s m kind device hash)
unfolding take_verify
verify-of tools c s m kind device hash e = centre-of c _ _ _ e

take-command-of : (tools : Tools) (c : Setting) (s : NodeState) (draw : Option Bytes) (m : Heard)
    → is_centre c.me.role ≡ false → (o : Command) → Members (take_command tools c s draw m o)
unfolding take_command
take-command-of tools c s draw m e (TransportNet key sequence destination source) =
    net-key-of c s m key sequence destination source
take-command-of tools c s draw m e (TransportApp key partner initiator) = app-key-of c s m key partner
take-command-of tools c s draw m e (TransportLink key destination source) = link-key-of c s m key destination source
take-command-of tools c s draw m e (UpdateDevice device short status) = update-of c s m device status
take-command-of tools c s draw m e (RemoveDevice target) = remove-of c s m target
take-command-of tools c s draw m e (RequestApp partner) = app-request-of c s m draw partner e
take-command-of tools c s draw m e RequestLink = request-of c s m draw e
take-command-of tools c s draw m e (SwitchKey sequence) = switch-of c s m sequence
take-command-of tools c s draw m e (Tunnel destination inner) = tunnel-of c s m destination inner
take-command-of tools c s draw m e (VerifyKey kind source hash) = verify-of tools c s m kind source hash e
take-command-of tools c s draw m e (ConfirmKey status kind destination) = confirm-of c s m status kind destination

leave-of : (c : Setting) (term : Term) (options : ℕ) → Members (take_leave c term options)
unfolding take_leave
leave-of c term options = unless-of _ _ _ (tt, tt)

-- The plan of a delivered frame

abbrev pub PlanOf : Plan → Type 0
PlanOf p = Members p.outcome

either : (b : Bool) (p q : Plan) → PlanOf p → PlanOf q → PlanOf (cond b p q)
either true p q a b = a
either false p q a b = b

command-of : (tools : Tools) (c : Setting) (s : NodeState) (draw : Option Bytes) (accepts : List Term) (m : Heard)
    → is_centre c.me.role ≡ false → (o : CommandShown) → PlanOf (aps_command tools c s draw accepts m o)
command-of tools c s draw accepts m e (Known command) = take-command-of tools c s draw m e command
command-of tools c s draw accepts m e Unknown = tt
command-of tools c s draw accepts m e Broken = tt

clear-of : (tools : Tools) (c : Setting) (s : NodeState) (draw : Option Bytes) (nwk : Option Term) (a : ApsShown)
    → is_centre c.me.role ≡ false → PlanOf (clear_part tools c s draw nwk a)
clear-of tools c s draw nwk a e =
    either a.is_command
    (aps_command tools c s draw (option_to_list nwk) (heard_clear nwk) (tools.read_command a.body))
    (comes_to (option_to_list nwk) AtAps (Does [] None))
    (command-of tools c s draw (option_to_list nwk) (heard_clear nwk) e (tools.read_command a.body)) tt

sealed-of : (tools : Tools) (c : Setting) (s : NodeState) (draw : Option Bytes) (nwk : Option Term) (a : ApsShown)
    (aux : ApsAuxiliary) → is_centre c.me.role ≡ false → (v : Verdict Unsealed)
    → PlanOf (sealed_part tools c s draw nwk a aux v)
sealed-of tools c s draw nwk a aux e (Not place reason) = tt
sealed-of tools c s draw nwk a aux e (Good u) =
    either a.is_command
    (aps_command tools c s draw (option_to_list nwk ++ u.term ∷ []) (heard_sealed nwk aux u)
    (tools.read_command u.term.content)) (comes_to (option_to_list nwk ++ u.term ∷ []) AtAps (Does [] None))
    (command-of tools c s draw (option_to_list nwk ++ u.term ∷ []) (heard_sealed nwk aux u) e
    (tools.read_command u.term.content)) tt

security-of : (tools : Tools) (c : Setting) (s : NodeState) (draw : Option Bytes) (f : NwkShown) (nwk : Option Term)
    (a : ApsShown) → is_centre c.me.role ≡ false → (x : Option ApsAuxiliary)
    → PlanOf (by_security tools c s draw f nwk a x)
security-of tools c s draw f nwk a e None = clear-of tools c s draw nwk a e
security-of tools c s draw f nwk a e (Some aux) =
    sealed-of tools c s draw nwk a aux e (judge_aps tools c s f (payload_of f nwk) aux)

part-of : (tools : Tools) (c : Setting) (s : NodeState) (draw : Option Bytes) (f : NwkShown) (nwk : Option Term)
    → is_centre c.me.role ≡ false → (o : Option ApsShown) → PlanOf (aps_part tools c s draw f nwk o)
part-of tools c s draw f nwk e None = tt
part-of tools c s draw f nwk e (Some a) = security-of tools c s draw f nwk a e a.auxiliary

nwk-command-of : (c : Setting) (term : Term) (l : LeaveShown) → PlanOf (nwk_command c term l)
nwk-command-of c term (Leave options) = leave-of c term options
nwk-command-of c term Other = tt
nwk-command-of c term NoCommand = tt

net-of : (tools : Tools) (c : Setting) (s : NodeState) (draw : Option Bytes) (f : NwkShown) → is_centre c.me.role
    ≡ false → (o : Option Term) → PlanOf (net_part tools c s draw f o)
net-of tools c s draw f e None = part-of tools c s draw f None e (tools.read_aps f.body)
net-of tools c s draw f e (Some t) =
    either f.is_command (nwk_command c t (tools.read_leave t.content))
    (aps_part tools c s draw f (Some t) (tools.read_aps t.content))
    (nwk-command-of c t (tools.read_leave t.content)) (part-of tools c s draw f (Some t) e (tools.read_aps t.content))

received-of : (tools : Tools) (c : Setting) (s : NodeState) (draw : Option Bytes) → is_centre c.me.role ≡ false
    → (v : Verdict Carrier) → PlanOf (received_as tools c s draw v)
received-of tools c s draw e (Not place reason) = tt
received-of tools c s draw e (Good k) = net-of tools c s draw k.frame e k.term

-- A node's own events, by what their rules do with keys

deed-of : (c : Setting) (s : NodeState) (task : Task) (moves : List Move) → is_centre c.me.role ≡ false
    → Deed c s task moves → AllByRecursion OfMember moves
deed-of c s task moves e (member m a d) = a
deed-of c s task moves e (nothing q) = subst (AllByRecursion OfMember) (sym q) tt
deed-of c s task moves e (quiet m a y) = absurd (false≢true (sym e ∙ m))
deed-of c s task moves e (verifies m p row o a q) = absurd (false≢true (sym e ∙ m))
deed-of c s task moves e (rolls m k q drops new a y r) = absurd (false≢true (sym e ∙ m))
deed-of c s task moves e (offers m p k new live q) = absurd (false≢true (sym e ∙ m))
deed-of c s task moves e (pairs m a b k new la lb q) = absurd (false≢true (sym e ∙ m))
deed-of c s task moves e (enters m p k by dead none q) = absurd (false≢true (sym e ∙ m))
deed-of c s task moves e (removes m p live q) = absurd (false≢true (sym e ∙ m))

outcome-of : (c : Setting) (s : NodeState) (task : Task) (o : Outcome) → is_centre c.me.role ≡ false
    → OutcomeFits c s task o → Members o
outcome-of c s task (Stop reason) e f = tt
outcome-of c s task (Does moves sending) e f = deed-of c s task moves e f.deed

own-of : (tools : Tools) (c : Setting) (s : NodeState) (task : Task) → is_centre c.me.role ≡ false
    → Members (own tools c s task)
own-of tools c s task e = outcome-of c s task (own tools c s task) e (own-fits tools c s task)

pub plan-of : (tools : Tools) (c : Setting) (s : NodeState) (task : Task) → is_centre c.me.role ≡ false
    → PlanOf (plan_of tools c s task)
unfolding plan_of
plan-of tools c s (Received bytes draw) e = received-of tools c s draw e (judge_nwk tools c s bytes)
plan-of tools c s (SayTo to bytes) e = own-of tools c s (SayTo to bytes) e
plan-of tools c s (TellTo partner bytes) e = own-of tools c s (TellTo partner bytes) e
plan-of tools c s DoKnock e = own-of tools c s DoKnock e
plan-of tools c s DoRejoin e = own-of tools c s DoRejoin e
plan-of tools c s DoTimer e = own-of tools c s DoTimer e
plan-of tools c s (AskFor partner) e = own-of tools c s (AskFor partner) e
plan-of tools c s (HasChild child returns) e = own-of tools c s (HasChild child returns) e
plan-of tools c s (DoProvision device key) e = own-of tools c s (DoProvision device key) e
plan-of tools c s (DoRemove device via) e = own-of tools c s (DoRemove device via) e
plan-of tools c s (DoRoll draw) e = own-of tools c s (DoRoll draw) e
plan-of tools c s DoSwitch e = own-of tools c s DoSwitch e
plan-of tools c s (DoAgain device) e = own-of tools c s (DoAgain device) e
plan-of tools c s (DoShare device partner) e = own-of tools c s (DoShare device partner) e
