-- What every rule keeps: a frame without NWK security uses no NWK counter, and at most one key becomes active, which
-- has a row.
use Rattle.std.proofs.Common.{◌≡◌, ℕ, Bool, true, false, cond, not, ◌&&◌, ◌||◌, List, [], ◌∷◌, ◌++◌, map, filter, reverse, Option, Some, None, is_some, nat_eq, refl, ap, ◌∙◌, inl, inr}
use Rattle.std.specs.List.{AllByRecursion, list_any}
use Rattle.zb_model.specs.Data.{Bytes, Nwk, ForData, State, Joined, Offered, Term, Move, Draw, DropNet, DropLink, Install, Active, Row, Pair, Became, Live, Removed, Roll, Told, Untold, Reason, Task, SayTo, TellTo, DoKnock, DoRejoin, DoTimer, AskFor, HasChild, DoProvision, DoRemove, DoRoll, DoSwitch, DoAgain, DoShare, Received, Command, TransportNet, TransportApp, TransportLink, UpdateDevice, RemoveDevice, RequestApp, RequestLink, SwitchKey, Tunnel, VerifyKey, ConfirmKey}
use Rattle.zb_model.specs.State.{NetKey, LinkKey, PairKey, NodeState, same_key, has_net, at_net, new_net, dropped_net, live_nets, active_row, newest, live_of, is_centre, is_live_of, current, offered, other_user, pair_of, is_active_key}
use Rattle.zb_model.specs.Tools.{Tools, CommandShown, Known, Unknown, Broken, LeaveShown, Leave, Other, NoCommand, NwkShown, ApsShown, ApsAuxiliary}
use Rattle.zb_model.specs.Rules.{Body, Saying, Clear, Secret, Tunnelled, Telling, Leaving, Relayed, Sending, Outcome, Stop, Does, Plan, Setting, refuse_if, found_or, choose, sends, short_of, spent, both_spent, drop_link, drop_partner, drop_others, drop_row, drop_old, first_drop, waits_for_key}
use Rattle.zb_model.specs.OwnEvents.{say, knock, rejoin, request_key, verify_key, timer_in, member_timer, ask, tell, report_child, child_of_router, child_of_centre, centre_timer, provision_new, provision, tell_leave, tell_parent, remove_device, roll, switch_over, again, share, own_at_centre, own_at_member, own}
use Rattle.zb_model.specs.Judging.{Verdict, Not, Good, Carrier, Unsealed}
use Rattle.zb_model.specs.Commands.{Heard, refuse_if_old, activates, activate, joined_state, dropped_at, take_net_key, refuse_if_used, take_row, take_link_key, take_app_key, take_switch, take_confirm, take_remove, take_tunnel, take_update, answer_request, take_request, answer_pair, take_app_request, take_verify, take_command, take_leave}
use Rattle.zb_model.specs.Answer.{plan_of, received_as, net_part, aps_part, by_security, sealed_part, clear_part, aps_command, nwk_command, heard_clear, heard_sealed}
use Rattle.law_run.proofs.Basics.{same_key-refl}
use Rattle.law_run.proofs.FreshLines.{all-append}
use Rattle.law_run.proofs.Judged.{In, in-reverse, found-element}

-- The keys that moves make active

abbrev pub NoActive : Move → Type 0
NoActive (Active key) = ⊥
NoActive _ = Unit {0}

-- a key that becomes active has a row, or one is installed before it; no other key does
abbrev pub MovesFit : List NetKey → List Move → Type 0
MovesFit nets [] = Unit {0}
MovesFit nets (Active key ∷ ms) = (has_net key nets ≡ true) × AllByRecursion NoActive ms
MovesFit nets (Install key q ∷ ms) = MovesFit (cond (has_net key nets) nets (nets ++ new_net key q ∷ [])) ms
MovesFit nets (DropNet key ∷ ms) = MovesFit (at_net key dropped_net nets) ms
MovesFit nets (_ ∷ ms) = MovesFit nets ms

pub none-fits : (nets : List NetKey) (ms : List Move) → AllByRecursion NoActive ms → MovesFit nets ms
none-fits nets [] a = tt
none-fits nets (Draw k ∷ ms) a = none-fits nets ms a.1
none-fits nets (DropNet k ∷ ms) a = none-fits (at_net k dropped_net nets) ms a.1
none-fits nets (DropLink p k ∷ ms) a = none-fits nets ms a.1
none-fits nets (Install k q ∷ ms) a = none-fits (cond (has_net k nets) nets (nets ++ new_net k q ∷ [])) ms a.1
none-fits nets (Active k ∷ ms) a = absurd a.0
none-fits nets (Row p k t ∷ ms) a = none-fits nets ms a.1
none-fits nets (Pair x y k ∷ ms) a = none-fits nets ms a.1
none-fits nets (Became g ∷ ms) a = none-fits nets ms a.1
none-fits nets (Live d ∷ ms) a = none-fits nets ms a.1
none-fits nets (Removed d ∷ ms) a = none-fits nets ms a.1
none-fits nets (Roll b ∷ ms) a = none-fits nets ms a.1
none-fits nets (Told d ∷ ms) a = none-fits nets ms a.1
none-fits nets (Untold d ∷ ms) a = none-fits nets ms a.1

-- drops make nothing active
links-drop : (rs : List LinkKey) → AllByRecursion NoActive (map drop_link rs)
links-drop [] = tt
links-drop (r ∷ rs) = (tt, links-drop rs)

partner-drops : (s : NodeState) (p : ℕ) → AllByRecursion NoActive (drop_partner s p)
unfolding drop_partner
partner-drops s p = links-drop (filter (is_live_of p) s.links)

others-drop : (s : NodeState) (p : ℕ) (key : Bytes) → AllByRecursion NoActive (drop_others s p key)
unfolding drop_others
others-drop s p key = links-drop (filter (λ (r : LinkKey). is_live_of p r && not (same_key r.key key)) s.links)

row-drops : (o : Option LinkKey) → AllByRecursion NoActive (drop_row o)
row-drops None = tt
row-drops (Some r) = (tt, tt)

first-drops : (rs : List NetKey) → AllByRecursion NoActive (first_drop rs)
first-drops [] = tt
first-drops (r ∷ rs) = (tt, tt)

either-none : (b : Bool) (ms : List Move) → AllByRecursion NoActive ms → AllByRecursion NoActive (cond b ms [])
either-none true ms a = a
either-none false ms a = tt

old-drops : (s : NodeState) → AllByRecursion NoActive (drop_old s)
unfolding drop_old
old-drops s = either-none (Rattle.std.specs.Prelude.nat_le 2 (Rattle.std.specs.Prelude.length (live_nets s)))
    (first_drop (filter (λ (r : NetKey). not (is_active_key s.active r.key)) (live_nets s)))
    (first-drops (filter (λ (r : NetKey). not (is_active_key s.active r.key)) (live_nets s)))

-- a network key that is installed, and perhaps activated

install-has : (b : Bool) (key : Bytes) (q : ℕ) (nets : List NetKey) → has_net key nets ≡ b
    → has_net key (cond b nets (nets ++ new_net key q ∷ [])) ≡ true
install-has true key q nets e = e
install-has false key q nets e = last key q nets
  where
    or-true : (b : Bool) → (b || true) ≡ true
    or-true true = refl
    or-true false = refl

    or-later : (a b : Bool) → b ≡ true → (a || b) ≡ true
    or-later true b e = refl
    or-later false b e = e

    last : (key : Bytes) (q : ℕ) (nets : List NetKey) → has_net key (nets ++ new_net key q ∷ []) ≡ true
    last key q [] = ap (λ b. b || false) (same_key-refl key)
    last key q (r ∷ rs) = or-later (same_key r.key key) (has_net key (rs ++ new_net key q ∷ [])) (last key q rs)

activate-by : (nets : List NetKey) (key : Bytes) (a b : Bool) (g : State) → has_net key nets ≡ true
    → MovesFit nets (cond a (Active key ∷ []) [] ++ cond b (Became g ∷ []) [])
activate-by nets key true true g e = (e, (tt, tt))
activate-by nets key true false g e = (e, tt)
activate-by nets key false true g e = tt
activate-by nets key false false g e = tt

activate-fits : (c : Setting) (s : NodeState) (key : Bytes) (nets : List NetKey) → has_net key nets ≡ true
    → MovesFit nets (activate c s key)
activate-fits c s key nets e = activate-by nets key (activates s) (waits_for_key s.state) (joined_state c s) e

install-fits : (c : Setting) (s : NodeState) (key : Bytes) (q : ℕ) (nets : List NetKey)
    → MovesFit nets (Install key q ∷ activate c s key)
install-fits c s key q nets = activate-fits c s key (cond (has_net key nets) nets (nets ++ new_net key q ∷ []))
    (install-has (has_net key nets) key q nets refl)

first-fits : (rs : List NetKey) (ms : List Move) → ((nets : List NetKey) → MovesFit nets ms) → (nets : List NetKey)
    → MovesFit nets (first_drop rs ++ ms)
first-fits [] ms k nets = k nets
first-fits (r ∷ rs) ms k nets = k (at_net r.key dropped_net nets)

old-by : (b : Bool) (rs : List NetKey) (ms : List Move) → ((nets : List NetKey) → MovesFit nets ms)
    → (nets : List NetKey) → MovesFit nets (cond b (first_drop rs) [] ++ ms)
old-by true rs ms k nets = first-fits rs ms k nets
old-by false rs ms k nets = k nets

old-fits : (s : NodeState) (ms : List Move) → ((nets : List NetKey) → MovesFit nets ms) → (nets : List NetKey)
    → MovesFit nets (drop_old s ++ ms)
unfolding drop_old
old-fits s ms k nets = old-by (Rattle.std.specs.Prelude.nat_le 2 (Rattle.std.specs.Prelude.length (live_nets s)))
    (filter (λ (r : NetKey). not (is_active_key s.active r.key)) (live_nets s)) ms k nets

-- a row that is there is found by its key
in-has : (r : NetKey) (nets : List NetKey) → In r nets → has_net r.key nets ≡ true
unfolding In
in-has r [] i = absurd i
in-has r (x ∷ xs) (inl e) =
    ap (λ b. b || has_net r.key xs) (ap (λ (y : NetKey). same_key y.key r.key) e ∙ same_key-refl r.key)
in-has r (x ∷ xs) (inr i) = later (same_key x.key r.key) (has_net r.key xs) (in-has r xs i)
  where
    later : (a b : Bool) → b ≡ true → (a || b) ≡ true
    later true b e = refl
    later false b e = e

newest-has : (s : NodeState) (r : NetKey) → newest s ≡ Some r → has_net r.key s.nets ≡ true
unfolding newest
newest-has s r e =
    in-has r s.nets (in-reverse r s.nets (found-element (λ (r : NetKey). r.live) (reverse s.nets) r e).0)

live-has : (s : NodeState) (q : ℕ) (r : NetKey) → live_of s q ≡ Some r → has_net r.key s.nets ≡ true
unfolding live_of
live-has s q r e =
    in-has r s.nets
    (in-reverse r s.nets
    (found-element (λ (r : NetKey). r.live && Rattle.std.specs.Prelude.nat_eq r.sequence q) (reverse s.nets) r e).0)

-- What is sent without NWK security

abbrev pub NeedsNoNwk : Body → Type 0
NeedsNoNwk (Secret label key command) = Unit {0}
NeedsNoNwk (Telling key bytes) = Unit {0}
NeedsNoNwk Leaving = Unit {0}
NeedsNoNwk (Relayed bytes) = Unit {0}
NeedsNoNwk (Saying bytes) = ⊥
NeedsNoNwk (Clear control command) = ⊥
NeedsNoNwk (Tunnelled device key command) = ⊥

abbrev pub ShownBy : Bool → Body → Type 0
ShownBy true body = Unit {0}
ShownBy false body = NeedsNoNwk body

abbrev pub Shown : Option Sending → Type 0
Shown None = Unit {0}
Shown (Some send) = ShownBy send.secured send.body

-- Outcomes

abbrev pub Fits : NodeState → Outcome → Type 0
Fits s (Stop reason) = Unit {0}
Fits s (Does moves send) = MovesFit s.nets moves × Shown send

un : (s : NodeState) (b : Bool) (reason : Reason) (rest : Outcome) → Fits s rest → Fits s (refuse_if b reason rest)
unfolding refuse_if
un s true reason rest f = tt
un s false reason rest f = f

gi : {A : Type 0} (s : NodeState) (o : Option A) (reason : Reason) (rest : A → Outcome)
    → ((a : A) → o ≡ Some a → Fits s (rest a)) → Fits s (found_or o reason rest)
unfolding found_or
gi s None reason rest k = tt
gi s (Some a) reason rest k = k a refl

ch : (s : NodeState) (b : Bool) (x y : Outcome) → (b ≡ true → Fits s x) → (b ≡ false → Fits s y)
    → Fits s (choose b x y)
unfolding choose
ch s true x y f g = f refl
ch s false x y f g = g refl

say-fits : (s : NodeState) (to : ℕ) (bytes : Bytes) → Fits s (say s to bytes)
unfolding say
say-fits s to bytes = gi s _ _ _ (λ net e. un s _ _ _ (un s _ _ _ (tt, tt)))

knock-fits : (c : Setting) (s : NodeState) → Fits s (knock c s)
unfolding knock
knock-fits c s =
    gi s _ _ _
    (λ row e. (
      none-fits s.nets (drop_others s row.partner row.key ++ (Row row.partner row.key _ ∷ Became _ ∷ []))
          (all-append NoActive (drop_others s row.partner row.key) _ (others-drop s row.partner row.key)
          (tt, (tt, tt))),
      tt,
    ))

rejoin-fits : (s : NodeState) → Fits s (rejoin s)
unfolding rejoin
rejoin-fits s = un s _ _ _ (tt, tt)

timer-in-fits : (g : State) (tools : Tools) (c : Setting) (s : NodeState) → Fits s (timer_in g tools c s)
unfolding request_key verify_key
timer-in-fits Joined tools c s = gi s _ _ _ (λ row e. un s _ _ _ (tt, tt))
timer-in-fits Offered tools c s = gi s _ _ _ (λ row e. un s _ _ _ (tt, tt))
timer-in-fits _ tools c s = tt

member-timer-fits : (tools : Tools) (c : Setting) (s : NodeState) → Fits s (member_timer tools c s)
unfolding member_timer
member-timer-fits tools c s = gi s _ _ _ (λ net e. timer-in-fits s.state tools c s)

ask-fits : (c : Setting) (s : NodeState) (partner : ℕ) → Fits s (ask c s partner)
unfolding ask
ask-fits c s partner = gi s _ _ _ (λ net e. gi s _ _ _ (λ row f. un s _ _ _ (un s _ _ _ (tt, tt))))

tell-fits : (c : Setting) (s : NodeState) (partner : ℕ) (bytes : Bytes) → Fits s (tell c s partner bytes)
unfolding tell
tell-fits c s partner bytes = gi s _ _ _ (λ net e. gi s _ _ _ (λ row f. un s _ _ _ (un s _ _ _ (tt, tt))))

report-fits : (c : Setting) (s : NodeState) (child : ℕ) (rejoin : Bool) (o : Option LinkKey)
    → Fits s (report_child c s child rejoin o)
report-fits c s child rejoin None = un s _ _ _ (tt, tt)
report-fits c s child rejoin (Some row) = un s _ _ _ (tt, tt)

router-child-fits : (c : Setting) (s : NodeState) (child : ℕ) (rejoin : Bool)
    → Fits s (child_of_router c s child rejoin)
unfolding child_of_router
router-child-fits c s child rejoin = gi s _ _ _ (λ net e. un s _ _ _ (report-fits c s child rejoin (current s _)))

centre-child-fits : (c : Setting) (s : NodeState) (child : ℕ) → Fits s (child_of_centre c s child)
unfolding child_of_centre
centre-child-fits c s child = gi s _ _ _ (λ net e. gi s _ _ _ (λ row f. un s _ _ _ (tt, tt)))

centre-timer-fits : (c : Setting) (s : NodeState) → Fits s (centre_timer c s)
unfolding centre_timer
centre-timer-fits c s =
    gi s _ _ _
    (λ net e. un s _ _ _ (gi s _ _ _ (λ device f. gi s _ _ _ (λ new g. gi s _ _ _ (λ row h. un s _ _ _ (tt, tt))))))

provision-new-fits : (s : NodeState) (device : ℕ) (key : Bytes) (o : Option LinkKey)
    → Fits s (provision_new s device key o)
provision-new-fits s device key None = (tt, tt)
provision-new-fits s device key (Some other) = tt

provision-fits : (s : NodeState) (device : ℕ) (key : Bytes) → Fits s (provision s device key)
unfolding provision
provision-fits s device key = un s _ _ _ (un s _ _ _ (provision-new-fits s device key (other_user s device key)))

shown-cond : (b : Bool) (x y : Option Sending) → Shown x → Shown y → Shown (cond b x y)
shown-cond true x y p q = p
shown-cond false x y p q = q

leave-shown : (c : Setting) (s : NodeState) (device : ℕ) → Shown (tell_leave c s device)
leave-shown c s device = shown-cond (is_some (active_row s) && not (spent Nwk s))
    (sends (short_of c device) true Leaving) None tt tt

parent-shown : (c : Setting) (s : NodeState) (device via : ℕ) (o : Option LinkKey)
    → Shown (tell_parent c s device via o)
parent-shown c s device via None = tt
parent-shown c s device via (Some row) = shown-cond (is_some (active_row s) && not (both_spent s))
    (sends (short_of c via) true (Secret ForData row.key (RemoveDevice device))) None tt tt

remove-fits : (c : Setting) (s : NodeState) (device via : ℕ) → Fits s (remove_device c s device via)
unfolding remove_device
remove-fits c s device via = un s _ _ _ (
  none-fits s.nets (drop_partner s device ++ Removed device ∷ [])
      (all-append NoActive (drop_partner s device) (Removed device ∷ []) (partner-drops s device) (tt, tt)),
  shown-cond (nat_eq via c.me.eui) (tell_leave c s device) (tell_parent c s device via (current s via))
      (leave-shown c s device) (parent-shown c s device via (current s via)),
)

roll-fits : (s : NodeState) (draw : Option Bytes) → Fits s (roll s draw)
unfolding roll
roll-fits s draw =
    gi s _ _ _
    (λ net e. un s _ _ _
    (un s _ _ _
    (gi s _ _ _
    (λ key f. (
      none-fits s.nets (Draw key ∷ drop_old s ++ (Install key _ ∷ Roll true ∷ []))
          (tt, all-append NoActive (drop_old s) (Install key _ ∷ Roll true ∷ []) (old-drops s) (tt, (tt, tt))),
      tt,
    )))))

switch-fits : (s : NodeState) → Fits s (switch_over s)
unfolding switch_over
switch-fits s =
    gi s _ _ _
    (λ net e. un s _ _ _
    (un s _ _ _ (ch s _ _ _ (λ f. gi s _ _ _ (λ new g. ((newest-has s new g, (tt, tt)), tt))) (λ f. (tt, tt)))))

again-fits : (s : NodeState) (device : ℕ) → Fits s (again s device)
unfolding again
again-fits s device = un s _ _ _ (un s _ _ _ (tt, tt))

share-fits : (c : Setting) (s : NodeState) (device partner : ℕ) → Fits s (share c s device partner)
unfolding share
share-fits c s device partner =
    gi s _ _ _ (λ net e. un s _ _ _ (gi s _ _ _ (λ pair f. gi s _ _ _ (λ row g. un s _ _ _ (tt, tt)))))

at-centre-fits : (c : Setting) (s : NodeState) (task : Task) → Fits s (own_at_centre c s task)
at-centre-fits c s (SayTo to bytes) = say-fits s to bytes
at-centre-fits c s DoTimer = centre-timer-fits c s
at-centre-fits c s (HasChild child rejoin) = centre-child-fits c s child
at-centre-fits c s (DoProvision device key) = provision-fits s device key
at-centre-fits c s (DoRemove device via) = remove-fits c s device via
at-centre-fits c s (DoRoll draw) = roll-fits s draw
at-centre-fits c s DoSwitch = switch-fits s
at-centre-fits c s (DoAgain device) = again-fits s device
at-centre-fits c s (DoShare device partner) = share-fits c s device partner
at-centre-fits c s _ = tt

at-member-fits : (tools : Tools) (c : Setting) (s : NodeState) (task : Task) → Fits s (own_at_member tools c s task)
at-member-fits tools c s (SayTo to bytes) = say-fits s to bytes
at-member-fits tools c s (TellTo partner bytes) = tell-fits c s partner bytes
at-member-fits tools c s DoKnock = knock-fits c s
at-member-fits tools c s DoRejoin = rejoin-fits s
at-member-fits tools c s DoTimer = member-timer-fits tools c s
at-member-fits tools c s (AskFor partner) = ask-fits c s partner
at-member-fits tools c s (HasChild child rejoin) = router-child-fits c s child rejoin
at-member-fits tools c s _ = tt

either-fits : (s : NodeState) (b : Bool) (x y : Outcome) → Fits s x → Fits s y → Fits s (cond b x y)
either-fits s true x y f g = f
either-fits s false x y f g = g

own-fits : (tools : Tools) (c : Setting) (s : NodeState) (task : Task) → Fits s (own tools c s task)
unfolding own
own-fits tools c s task = either-fits s (is_centre c.me.role) (own_at_centre c s task) (own_at_member tools c s task)
    (at-centre-fits c s task) (at-member-fits tools c s task)

-- Commands

unless-old-fits : (s : NodeState) (key : Bytes) (o : Option ℕ) (rest : Outcome) → Fits s rest
    → Fits s (refuse_if_old s key o rest)
unless-old-fits s key None rest f = f
unless-old-fits s key (Some place) rest f = tt

net-key-fits : (c : Setting) (s : NodeState) (m : Heard) (key : Bytes) (q destination source : ℕ)
    → Fits s (take_net_key c s m key q destination source)
unfolding take_net_key
net-key-fits c s m key q destination source = un s _ _ _ (unless-old-fits s key (dropped_at 0 key s.nets) _ (ch s _ _ _
    (λ e. (activate-fits c s key s.nets e, tt))
    (λ e. un s _ _ _ (old-fits s (Install key q ∷ activate c s key) (install-fits c s key q) s.nets, tt))))

unless-used-fits : (s : NodeState) (o : Option LinkKey) (rest : Outcome) → Fits s rest → Fits s (refuse_if_used o rest)
unless-used-fits s None rest f = f
unless-used-fits s (Some other) rest f = tt

row-fits : (s : NodeState) (partner : ℕ) (key : Bytes) (ms : List Move) → AllByRecursion NoActive ms
    → Fits s (take_row s partner key ms)
unfolding take_row
row-fits s partner key ms a =
    un s _ _ _ (unless-used-fits s (other_user s partner key) (Does ms None) (none-fits s.nets ms a, tt))

link-key-fits : (c : Setting) (s : NodeState) (m : Heard) (key : Bytes) (destination source : ℕ)
    → Fits s (take_link_key c s m key destination source)
unfolding take_link_key
link-key-fits c s m key destination source =
    un s _ _ _
    (un s _ _ _
    (ch s _ _ _ (λ e. (tt, tt))
    (λ e. row-fits s _ key _
    (all-append NoActive (drop_row (offered s _)) _ (row-drops (offered s _)) (tt, (tt, tt))))))

app-key-fits : (c : Setting) (s : NodeState) (m : Heard) (key : Bytes) (partner : ℕ)
    → Fits s (take_app_key c s m key partner)
unfolding take_app_key
app-key-fits c s m key partner =
    un s _ _ _
    (un s _ _ _
    (un s _ _ _
    (ch s _ _ _ (λ e. (tt, tt))
    (λ e. row-fits s partner key _
    (all-append NoActive (drop_partner s partner) _ (partner-drops s partner) (tt, tt))))))

take-switch-fits : (c : Setting) (s : NodeState) (m : Heard) (q : ℕ) → Fits s (take_switch c s m q)
unfolding take_switch
take-switch-fits c s m q = un s _ _ _ (gi s _ _ _ (λ row e. ((live-has s q row e, tt), tt)))

confirm-fits : (c : Setting) (s : NodeState) (m : Heard) (status kind destination : ℕ)
    → Fits s (take_confirm c s m status kind destination)
unfolding take_confirm
confirm-fits c s m status kind destination =
    un s _ _ _
    (un s _ _ _
    (un s _ _ _
    (gi s _ _ _
    (λ row e. (
      none-fits s.nets (drop_row (current s _) ++ (Row row.partner row.key _ ∷ Became _ ∷ []))
          (all-append NoActive (drop_row (current s _)) _ (row-drops (current s _)) (tt, (tt, tt))),
      tt,
    )))))

take-remove-fits : (c : Setting) (s : NodeState) (m : Heard) (target : ℕ) → Fits s (take_remove c s m target)
unfolding take_remove
take-remove-fits c s m target = un s _ _ _ (un s _ _ _ (un s _ _ _ (tt, tt)))

tunnel-fits : (c : Setting) (s : NodeState) (m : Heard) (destination : ℕ) (inner : Bytes)
    → Fits s (take_tunnel c s m destination inner)
unfolding take_tunnel
tunnel-fits c s m destination inner = un s _ _ _ (un s _ _ _ (tt, tt))

update-fits : (c : Setting) (s : NodeState) (m : Heard) (device status : ℕ) → Fits s (take_update c s m device status)
unfolding take_update
update-fits c s m device status =
    un s _ _ _ (ch s _ _ _ (λ e. (tt, tt)) (λ e. gi s _ _ _ (λ net f. gi s _ _ _ (λ row g. un s _ _ _ (tt, tt)))))

answer-request-fits : (c : Setting) (s : NodeState) (device : ℕ) (draw : Option Bytes) (row : LinkKey)
    (o : Option LinkKey) → Fits s (answer_request c s device draw row o)
answer-request-fits c s device draw row None = un s _ _ _ (gi s _ _ _ (λ key e. un s _ _ _ (tt, tt)))
answer-request-fits c s device draw row (Some offer) = un s _ _ _ (tt, tt)

request-fits : (c : Setting) (s : NodeState) (m : Heard) (draw : Option Bytes) → Fits s (take_request c s m draw)
unfolding take_request
request-fits c s m draw =
    un s _ _ _ (gi s _ _ _ (λ row e. answer-request-fits c s m.sender draw row (offered s m.sender)))

answer-pair-fits : (c : Setting) (s : NodeState) (device partner : ℕ) (draw : Option Bytes) (row : LinkKey)
    (o : Option PairKey) → Fits s (answer_pair c s device partner draw row o)
answer-pair-fits c s device partner draw row None = un s _ _ _ (gi s _ _ _ (λ key e. un s _ _ _ (tt, tt)))
answer-pair-fits c s device partner draw row (Some pair) = un s _ _ _ (tt, tt)

app-request-fits : (c : Setting) (s : NodeState) (m : Heard) (draw : Option Bytes) (partner : ℕ)
    → Fits s (take_app_request c s m draw partner)
unfolding take_app_request
app-request-fits c s m draw partner =
    un s _ _ _
    (un s _ _ _
    (un s _ _ _ (gi s _ _ _ (λ row e. answer-pair-fits c s m.sender partner draw row (pair_of s m.sender partner)))))

verify-fits : (tools : Tools) (c : Setting) (s : NodeState) (m : Heard) (kind device : ℕ) (hash : Bytes)
    → Fits s (take_verify tools c s m kind device hash)
unfolding take_verify
verify-fits tools c s m kind device hash = un s _ _ _ (un s _ _ _ (un s _ _ _ (un s _ _ _ (ch s _ _ _
    (λ e. gi s _ _ _
    (λ row f. (
      none-fits s.nets (drop_row (current s device) ++ (Row device row.key _ ∷ []))
          (all-append NoActive (drop_row (current s device)) _ (row-drops (current s device)) (tt, tt)),
      tt,
    )))
    (λ e. ch s _ _ _ (λ f. gi s _ _ _ (λ row g. (tt, tt))) (λ f. tt))))))

take-command-fits : (tools : Tools) (c : Setting) (s : NodeState) (draw : Option Bytes) (m : Heard) (o : Command)
    → Fits s (take_command tools c s draw m o)
unfolding take_command
take-command-fits tools c s draw m (TransportNet key q destination source) =
    net-key-fits c s m key q destination source
take-command-fits tools c s draw m (TransportApp key partner initiator) = app-key-fits c s m key partner
take-command-fits tools c s draw m (TransportLink key destination source) = link-key-fits c s m key destination source
take-command-fits tools c s draw m (UpdateDevice device short status) = update-fits c s m device status
take-command-fits tools c s draw m (RemoveDevice target) = take-remove-fits c s m target
take-command-fits tools c s draw m (RequestApp partner) = app-request-fits c s m draw partner
take-command-fits tools c s draw m RequestLink = request-fits c s m draw
take-command-fits tools c s draw m (SwitchKey q) = take-switch-fits c s m q
take-command-fits tools c s draw m (Tunnel destination inner) = tunnel-fits c s m destination inner
take-command-fits tools c s draw m (VerifyKey kind source hash) = verify-fits tools c s m kind source hash
take-command-fits tools c s draw m (ConfirmKey status kind destination) = confirm-fits c s m status kind destination

leave-fits : (c : Setting) (s : NodeState) (t : Term) (options : ℕ) → Fits s (take_leave c t options)
unfolding take_leave
leave-fits c s t options = un s _ _ _ (tt, tt)

-- Plans

abbrev PlanFits : NodeState → Plan → Type 0
PlanFits s p = Fits s p.outcome

either-plan : (s : NodeState) (b : Bool) (p q : Plan) → PlanFits s p → PlanFits s q → PlanFits s (cond b p q)
either-plan s true p q f g = f
either-plan s false p q f g = g

command-fits : (tools : Tools) (c : Setting) (s : NodeState) (draw : Option Bytes) (ts : List Term) (m : Heard)
    (o : CommandShown) → PlanFits s (aps_command tools c s draw ts m o)
command-fits tools c s draw ts m (Known command) = take-command-fits tools c s draw m command
command-fits tools c s draw ts m Unknown = tt
command-fits tools c s draw ts m Broken = tt

clear-fits : (tools : Tools) (c : Setting) (s : NodeState) (draw : Option Bytes) (nwk : Option Term) (a : ApsShown)
    → PlanFits s (clear_part tools c s draw nwk a)
clear-fits tools c s draw nwk a =
    either-plan s a.is_command (aps_command tools c s draw _ (heard_clear nwk) (tools.read_command a.body)) _
    (command-fits tools c s draw _ (heard_clear nwk) (tools.read_command a.body)) (tt, tt)

sealed-fits : (tools : Tools) (c : Setting) (s : NodeState) (draw : Option Bytes) (nwk : Option Term) (a : ApsShown)
    (aux : ApsAuxiliary) (v : Verdict Unsealed) → PlanFits s (sealed_part tools c s draw nwk a aux v)
sealed-fits tools c s draw nwk a aux (Not model_place reason) = tt
sealed-fits tools c s draw nwk a aux (Good u) =
    either-plan s a.is_command
    (aps_command tools c s draw _ (heard_sealed nwk aux u) (tools.read_command u.term.content)) _
    (command-fits tools c s draw _ (heard_sealed nwk aux u) (tools.read_command u.term.content)) (tt, tt)

security-fits : (tools : Tools) (c : Setting) (s : NodeState) (draw : Option Bytes) (f : NwkShown) (nwk : Option Term)
    (a : ApsShown) (x : Option ApsAuxiliary) → PlanFits s (by_security tools c s draw f nwk a x)
security-fits tools c s draw f nwk a None = clear-fits tools c s draw nwk a
security-fits tools c s draw f nwk a (Some aux) = sealed-fits tools c s draw nwk a aux _

aps-fits : (tools : Tools) (c : Setting) (s : NodeState) (draw : Option Bytes) (f : NwkShown) (nwk : Option Term)
    (x : Option ApsShown) → PlanFits s (aps_part tools c s draw f nwk x)
aps-fits tools c s draw f nwk None = tt
aps-fits tools c s draw f nwk (Some a) = security-fits tools c s draw f nwk a a.auxiliary

nwk-command-fits : (c : Setting) (s : NodeState) (t : Term) (l : LeaveShown) → PlanFits s (nwk_command c t l)
nwk-command-fits c s t (Leave options) = leave-fits c s t options
nwk-command-fits c s t Other = tt
nwk-command-fits c s t NoCommand = tt

net-fits : (tools : Tools) (c : Setting) (s : NodeState) (draw : Option Bytes) (f : NwkShown) (nwk : Option Term)
    → PlanFits s (net_part tools c s draw f nwk)
net-fits tools c s draw f None = aps-fits tools c s draw f None (tools.read_aps f.body)
net-fits tools c s draw f (Some t) = either-plan s f.is_command (nwk_command c t (tools.read_leave t.content))
    (aps_part tools c s draw f (Some t) (tools.read_aps t.content))
    (nwk-command-fits c s t (tools.read_leave t.content))
    (aps-fits tools c s draw f (Some t) (tools.read_aps t.content))

received-fits : (tools : Tools) (c : Setting) (s : NodeState) (draw : Option Bytes) (v : Verdict Carrier)
    → PlanFits s (received_as tools c s draw v)
received-fits tools c s draw (Not model_place reason) = tt
received-fits tools c s draw (Good k) = net-fits tools c s draw k.frame k.term

pub plan-fits : (tools : Tools) (c : Setting) (s : NodeState) (task : Task) → Fits s (plan_of tools c s task).outcome
unfolding plan_of
plan-fits tools c s (Received bytes draw) = received-fits tools c s draw _
plan-fits tools c s (SayTo to bytes) = own-fits tools c s (SayTo to bytes)
plan-fits tools c s (TellTo partner bytes) = own-fits tools c s (TellTo partner bytes)
plan-fits tools c s DoKnock = own-fits tools c s DoKnock
plan-fits tools c s DoRejoin = own-fits tools c s DoRejoin
plan-fits tools c s DoTimer = own-fits tools c s DoTimer
plan-fits tools c s (AskFor partner) = own-fits tools c s (AskFor partner)
plan-fits tools c s (HasChild child rejoin) = own-fits tools c s (HasChild child rejoin)
plan-fits tools c s (DoProvision device key) = own-fits tools c s (DoProvision device key)
plan-fits tools c s (DoRemove device via) = own-fits tools c s (DoRemove device via)
plan-fits tools c s (DoRoll draw) = own-fits tools c s (DoRoll draw)
plan-fits tools c s DoSwitch = own-fits tools c s DoSwitch
plan-fits tools c s (DoAgain device) = own-fits tools c s (DoAgain device)
plan-fits tools c s (DoShare device partner) = own-fits tools c s (DoShare device partner)
