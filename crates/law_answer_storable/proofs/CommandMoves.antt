-- The commands that a node receives: the moves of each rule may be made one after the other.
use Rattle.std.proofs.Common.{◌≡◌, ℕ, ◌+◌, ◌<◌, ◌≤◌, List, [], ◌∷◌, ◌++◌, length, map, refl, sym, ap, ◌∙◌, subst, arith, Bool, true, false, not, if◌then◌else◌, ◌&&◌, ◌||◌, Option, Some, None, nat_eq, nat_lt, min, max}
use Rattle.std.specs.Prelude.{find, filter, reverse, is_none}
use Rattle.std.proofs.lemmas.Bool.{not-true, eqb-true, eqb-false, lt-ltb, ltb-false, leb-false}
use Rattle.zb_model.specs.Data.{Bytes, Unverified, Verified, State, Offered, Confirmed, Gone, Move, Install, Active, Row, Became, Reason, Command, TransportNet, TransportApp, TransportLink, UpdateDevice, RemoveDevice, RequestApp, RequestLink, SwitchKey, Tunnel, VerifyKey, ConfirmKey, Term}
use Rattle.zb_model.specs.State.{NetKey, LinkKey, PairKey, NodeState, same_key, is_centre, is_link, has_link, has_net, is_live_of, is_unverified, live_of, current, offered, other_user, pair_of, names_two}
use Rattle.zb_model.specs.Fits.{live_net, row_is_live, most_links}
use Rattle.zb_model.specs.Tools.{Tools}
use Rattle.zb_model.specs.Rules.{Outcome, Does, Setting, centre_of, waits_for_key, nets_full, links_full, pairs_full, unless_held, drop_link, drop_row, drop_partner, both_spent}
use Rattle.zb_model.specs.Commands.{Heard, is_member, dropped_at, refuse_if_old, activates, joined_state, activate, take_net_key, refuse_if_used, take_row, take_link_key, take_app_key, take_switch, take_confirm, take_remove, take_tunnel, take_update, under_current, answer_request, take_request, lesser, greater, answer_pair, take_app_request, take_verify, take_command, take_leave}
use Rattle.law_change_fits.proofs.Tests.{both}
use Rattle.law_change_fits.proofs.Parts.{Rules, same_key_of}
use Rattle.law_answer_storable.proofs.Lists.{found_test, found_any, found_none, any_reverse}
use Rattle.law_answer_storable.proofs.Moves.{moves_fit}
use Rattle.law_answer_storable.proofs.Drops.{dropped_then, dropped_none, row_then}
use Rattle.law_answer_storable.proofs.LinkRows.{room_for, row_after, room_asked, rival_of_partner, rival_of_current, rival_of_offered, kind_of_current, kind_of_offered, row_alone, row_then_state, state_alone, few_of_partner, few_dropped, few_row}
use Rattle.law_answer_storable.proofs.NetRows.{live_found, old_then, few_old, active_alone, activated_fit}
use Rattle.law_answer_storable.proofs.Outcomes.{Fitting, stopped, no_moves, after_unless, after_found, after_choice}
use Rattle.law_answer_storable.proofs.OwnMoves.{held_by_none}

-- a node that passes the first test of a rule has that role
first_of : (a b : Bool) → not (a && b) ≡ false → a ≡ true
first_of true b e = refl
first_of false b e = absurd (cc)

member_of : (c : Setting) (s : NodeState) → s.role ≡ c.me.role → is_member c ≡ true → is_centre s.role ≡ false
member_of c s role e = ap is_centre role ∙ not-true _ e

-- a network key that was never dropped is live
live_or_dropped : (place : ℕ) (key : Bytes) (nets : List NetKey) → dropped_at place key nets ≡ None → has_net key nets
    ≡ true → row_is_live (find (λ (r : NetKey). same_key r.key key) nets) ≡ true
live_or_dropped place key [] none there = absurd (cc)
live_or_dropped place key (r ∷ rs) none there = by_tests (same_key r.key key) r.live refl none there
    (live_or_dropped (place + 1) key rs)
  where
    by_tests : (b c : Bool) → r.live ≡ c → (if b && not c then Some place else dropped_at (place + 1) key rs) ≡ None
        → (b || has_net key rs) ≡ true
        → (dropped_at (place + 1) key rs ≡ None → has_net key rs ≡ true
        → row_is_live (find (λ (x : NetKey). same_key x.key key) rs) ≡ true)
        → row_is_live (if b then Some r else find (λ (x : NetKey). same_key x.key key) rs) ≡ true
    by_tests true true is none there later = is
    by_tests true false is none there later = absurd (cc)
    by_tests false c is none there later = later none there

after_old : (s : NodeState) (key : Bytes) (o : Option ℕ) (rest : Outcome) → (o ≡ None → Fitting s rest)
    → Fitting s (refuse_if_old s key o rest)
after_old s key None rest k = k refl
after_old s key (Some place) rest k = stopped s _

few_activated : (key : Bytes) (state : State) (a w : Bool)
    → length ((if a then Active key ∷ [] else []) ++ (if w then Became state ∷ [] else [])) ≤ 2
few_activated key state true true = omega arith
few_activated key state true false = omega arith
few_activated key state false true = omega arith
few_activated key state false false = omega arith

net_key_fits : (c : Setting) (s : NodeState) (m : Heard) (key : Bytes) (sequence destination source : ℕ) → Rules s
    → s.role ≡ c.me.role → Fitting s (take_net_key c s m key sequence destination source)
unfolding take_net_key
net_key_fits c s m key sequence destination source r role =
    after_unless s _ Reason.Policy _
    (λ a. after_old s key (dropped_at 0 key s.nets) _ (λ o. after_choice s (has_net key s.nets) _ _
    (λ there. record {
      fit = activated_fit s s key (joined_state c s) (activates s) (waits_for_key s.state)
          (live_or_dropped 0 key s.nets o there) (part _ a);
      few = omega (arith, few_activated key (joined_state c s) (activates s) (waits_for_key s.state));
    })
    (λ new. after_unless s (nets_full s) Reason.KeysFull _ (λ full. record {
      fit = old_then s s r key sequence (activate c s key) new full
          (λ nets live. activated_fit s (record s { nets = nets }) key (joined_state c s) (activates s)
          (waits_for_key s.state) live (part _ a));
      few = few_old s (Install key sequence ∷ activate c s key)
          (omega (arith, few_activated key (joined_state c s) (activates s) (waits_for_key s.state)));
    }))))
  where
    part : (b : Bool) → not (is_member c && b) ≡ false → is_centre s.role ≡ false
    part b e = member_of c s role (first_of (is_member c) b e)

-- a key that is installed: its row has room
taken : (s : NodeState) (partner : ℕ) (key : Bytes) (moves : List Move)
    → (room_for partner key s ≡ true → moves_fit s moves s ≡ true) → length moves ≤ 5
    → Fitting s (take_row s partner key moves)
unfolding take_row
taken s partner key moves k few =
    after_unless s (not (has_link partner key s.links) && links_full s) Reason.RowsFull _
    (λ room. by_user (other_user s partner key) refl room)
  where
    by_user : (o : Option LinkKey) → other_user s partner key ≡ o
        → (not (has_link partner key s.links) && links_full s) ≡ false → Fitting s (refuse_if_used o (Does moves None))
    by_user None e room = record { fit = k (room_asked partner key s room e); few = few }
    by_user (Some other) e room = stopped s _

abbrev is_current : ℕ → LinkKey → Bool
is_current partner r = is_live_of partner r && not (is_unverified r.attribute)

abbrev is_offered : ℕ → LinkKey → Bool
is_offered partner r = is_live_of partner r && is_unverified r.attribute

link_key_fits : (c : Setting) (s : NodeState) (m : Heard) (key : Bytes) (destination source : ℕ) → Rules s → s.role
    ≡ c.me.role → Fitting s (take_link_key c s m key destination source)
unfolding take_link_key offered
link_key_fits c s m key destination source r role =
    after_unless s _ Reason.Policy _
    (λ a. after_unless s _ Reason.WrongState _ (λ b. after_choice s _ _ _ (λ d. no_moves s _) (λ d.
    taken s centre key (drop_row (find (is_offered centre) s.links) ++ tail) (λ room.
    row_then s s centre (is_offered centre) true (kind_of_offered centre) r.link_keys r.kinds tail
    (λ left e. row_then_state s (record s { links = left }) centre key Unverified Offered
    (row_after centre key Unverified s (is_offered centre) left e room (rival_of_offered centre key)) (part _ a)))
    (few_row (find (is_offered centre) s.links) tail (omega arith)))))
  where
    centre : ℕ
    centre = centre_of c.stations

    tail : List Move
    tail = Row centre key Unverified ∷ Became Offered ∷ []

    part : (b : Bool) → not (is_member c && b) ≡ false → is_centre s.role ≡ false
    part b e = member_of c s role (first_of (is_member c) b e)

app_key_fits : (c : Setting) (s : NodeState) (m : Heard) (key : Bytes) (partner : ℕ) → Rules s
    → Fitting s (take_app_key c s m key partner)
unfolding take_app_key drop_partner
app_key_fits c s m key partner r =
    after_unless s _ Reason.Policy _
    (λ a. after_unless s _ Reason.NotMember _
    (λ b. after_unless s _ Reason.WrongState _ (λ d. after_choice s _ _ _ (λ e. no_moves s _) (λ e.
    taken s partner key (map drop_link (filter (is_live_of partner) s.links) ++ tail) (λ room.
    dropped_then s s (is_live_of partner) r.link_keys (λ x f. (both x.live (nat_eq x.partner partner) f).0) tail
    (λ left f. row_alone s (record s { links = left }) partner key Verified
    (row_after partner key Verified s (is_live_of partner) left f room (rival_of_partner partner key Verified))))
    (few_dropped (filter (is_live_of partner) s.links) tail
    (few_of_partner s r partner (is_live_of partner) (λ x f. f)) (omega arith))))))
  where
    tail : List Move
    tail = Row partner key Verified ∷ []

switch_key_fits : (c : Setting) (s : NodeState) (m : Heard) (sequence : ℕ) → Rules s
    → Fitting s (take_switch c s m sequence)
unfolding take_switch live_of
switch_key_fits c s m sequence r =
    after_unless s _ Reason.Policy _
    (λ a. after_found s (find test (reverse s.nets)) Reason.WrongState _
    (λ row e. record { fit = active_alone s s row.key (live row e); few = omega arith }))
  where
    test : NetKey → Bool
    test x = x.live && nat_eq x.sequence sequence

    live : (row : NetKey) → find test (reverse s.nets) ≡ Some row → live_net row.key s ≡ true
    live row e =
        let alive : row.live ≡ true =
        (both row.live (nat_eq row.sequence sequence) (found_test test (reverse s.nets) row e)).0 in
        live_found row.key s.nets r.net_keys (any_reverse (λ (x : NetKey). x.live && same_key x.key row.key) s.nets
        (found_any test (λ (x : NetKey). x.live && same_key x.key row.key) (reverse s.nets) row e
        (rw (alive, same_key_of row.key row.key refl) refl)))

-- an offered row: its key has a row of its partner
offered_room : (s : NodeState) (partner : ℕ) (row : LinkKey) → find (is_offered partner) s.links ≡ Some row
    → (row.partner ≡ partner) × (room_for partner row.key s ≡ true)
offered_room s partner row e =
    let named : nat_eq row.partner partner ≡ true =
    (both row.live (nat_eq row.partner partner)
    (both (is_live_of partner row) (is_unverified row.attribute)
    (found_test (is_offered partner) s.links row e)).0).1 in (
      eqb-true _ _ named,
      rw (found_any (is_offered partner) (is_link partner row.key) s.links row e
          (rw (named, same_key_of row.key row.key refl) refl)) refl,
    )

confirm_fits : (c : Setting) (s : NodeState) (m : Heard) (status kind destination : ℕ) → Rules s → s.role ≡ c.me.role
    → Fitting s (take_confirm c s m status kind destination)
unfolding take_confirm offered current
confirm_fits c s m status kind destination r role =
    after_unless s _ Reason.Policy _
    (λ a. after_unless s _ Reason.WrongState _
    (λ b. after_unless s _ Reason.WrongState _
    (λ d. after_found s (find (is_offered centre) s.links) Reason.WrongState _ (λ row e.
    let known = offered_room s centre row e in
    subst (λ p. Fitting s
    (Does (drop_row (find (is_current centre) s.links) ++ (Row p row.key Verified ∷ Became Confirmed ∷ [])) None))
    (sym known.0)
    (record {
      fit = row_then s s centre (is_current centre) false (kind_of_current centre) r.link_keys r.kinds
          (Row centre row.key Verified ∷ Became Confirmed ∷ [])
          (λ left f. row_then_state s (record s { links = left }) centre row.key Verified Confirmed
          (row_after centre row.key Verified s (is_current centre) left f known.1
          (rival_of_current centre row.key)) (part _ a));
      few = few_row (find (is_current centre) s.links) (Row centre row.key Verified ∷ Became Confirmed ∷ [])
          (omega arith);
    })))))
  where
    centre : ℕ
    centre = centre_of c.stations

    part : (b : Bool) → not (is_member c && b) ≡ false → is_centre s.role ≡ false
    part b e = member_of c s role (first_of (is_member c) b e)

remove_key_fits : (c : Setting) (s : NodeState) (m : Heard) (target : ℕ) → Fitting s (take_remove c s m target)
unfolding take_remove
remove_key_fits c s m target =
    after_unless s _ Reason.Policy _
    (λ a. after_unless s _ Reason.NotMember _ (λ b. after_unless s _ Reason.CounterSpent _ (λ d. no_moves s _)))

tunnel_fits : (c : Setting) (s : NodeState) (m : Heard) (destination : ℕ) (inner : Bytes)
    → Fitting s (take_tunnel c s m destination inner)
unfolding take_tunnel
tunnel_fits c s m destination inner =
    after_unless s _ Reason.Policy _ (λ a. after_unless s _ Reason.NotMember _ (λ b. no_moves s _))

update_fits : (c : Setting) (s : NodeState) (m : Heard) (device status : ℕ)
    → Fitting s (take_update c s m device status)
unfolding take_update
update_fits c s m device status =
    after_unless s _ Reason.Policy _
    (λ a. after_choice s _ _ _ (λ b. no_moves s _)
    (λ b. after_found s _ Reason.NoKey _ (λ net e. after_found s _ Reason.NotMember _ (λ row f.
    after_unless s _ Reason.CounterSpent _ (λ d. no_moves s _)))))

answer_fits : (c : Setting) (s : NodeState) (device : ℕ) (draw : Option Bytes) (row : LinkKey) (o : Option LinkKey)
    → find (is_offered device) s.links ≡ o → Fitting s (answer_request c s device draw row o)
answer_fits c s device draw row (Some offer) e = after_unless s (both_spent s) Reason.CounterSpent _
    (λ b. no_moves s _)
answer_fits c s device draw row None e = after_unless s (links_full s) Reason.RowsFull _
    (λ full. after_found s (unless_held s draw) Reason.NoDraw _
    (λ key f. after_unless s (both_spent s) Reason.CounterSpent _ (λ b. record {
      fit = row_alone s s device key Unverified
          (row_after device key Unverified s (is_offered device) s.links
          (dropped_none (is_offered device) s.links (found_none (is_offered device) s.links e)) (room key full f)
          (rival_of_offered device key));
      few = omega arith;
    })))
  where
    or_end : (a : Bool) → (a || true) ≡ true
    or_end true = refl
    or_end false = refl

    room : (key : Bytes) → links_full s ≡ false → unless_held s draw ≡ Some key → room_for device key s ≡ true
    room key full f =
        let small : nat_lt (length s.links) (most_links s.role) ≡ true = lt-ltb _ _ (leb-false _ _ full) in
        rw (small, (held_by_none s draw key f).1) (or_end (has_link device key s.links))

request_key_fits : (c : Setting) (s : NodeState) (m : Heard) (draw : Option Bytes)
    → Fitting s (take_request c s m draw)
unfolding take_request offered
request_key_fits c s m draw =
    after_unless s _ Reason.Policy _
    (λ a. after_found s (current s m.sender) Reason.Policy _
    (λ row e. answer_fits c s m.sender draw row (find (is_offered m.sender) s.links) refl))

-- the two of a pair, by their order
pair_order : (a b : ℕ) → nat_eq b a ≡ false → (min (lesser a b) (greater a b) ≡ min a b)
    × (max (lesser a b) (greater a b) ≡ max a b) × (nat_lt (lesser a b) (greater a b) ≡ true)
pair_order a b other = by_test (nat_lt a b) refl
  where
    by_test : (t : Bool) → nat_lt a b ≡ t → (min (if t then a else b) (if t then b else a) ≡ min a b)
        × (max (if t then a else b) (if t then b else a) ≡ max a b)
        × (nat_lt (if t then a else b) (if t then b else a) ≡ true)
    by_test true is = (refl, refl, is)
    by_test false is = (omega arith, omega arith, lt-ltb _ _ (below (ltb-false _ _ is) (eqb-false _ _ other)))
      where
        below : b ≤ a → (b ≡ a → ⊥) → b < a
        below le ne = omega (arith, le, ne)

pair_fits : (c : Setting) (s : NodeState) (device partner : ℕ) (draw : Option Bytes) (row : LinkKey)
    → is_centre s.role ≡ true → nat_eq partner device ≡ false → (o : Option PairKey)
    → find (names_two device partner) s.pairs ≡ o
    → Fitting s (answer_pair c s device partner draw row o)
unfolding pair_of
pair_fits c s device partner draw row part other (Some pair) e = after_unless s (both_spent s) Reason.CounterSpent _
    (λ b. no_moves s _)
pair_fits c s device partner draw row part other None e = after_unless s (pairs_full s) Reason.RowsFull _
    (λ full. after_found s (unless_held s draw) Reason.NoDraw _
    (λ key f. after_unless s (both_spent s) Reason.CounterSpent _ (λ b.
    let order = pair_order device partner other in
    let room : nat_lt (length s.pairs) 256 ≡ true = lt-ltb _ _ (leb-false _ _ full) in
    let free : is_none (find (names_two (lesser device partner) (greater device partner)) s.pairs) ≡ true =
    ap (λ (n : ℕ). is_none
    (find (λ (p : PairKey). nat_eq p.first n
    && nat_eq p.second (max (lesser device partner) (greater device partner))) s.pairs)) order.0
    ∙ ap (λ (n : ℕ). is_none
    (find (λ (p : PairKey). nat_eq p.first (min device partner) && nat_eq p.second n) s.pairs)) order.1 ∙ ap
    is_none e in
    record { fit = rw (free, part, room, order.2) refl; few = omega arith })))

app_request_fits : (c : Setting) (s : NodeState) (m : Heard) (draw : Option Bytes) (partner : ℕ) → s.role ≡ c.me.role
    → Fitting s (take_app_request c s m draw partner)
unfolding take_app_request pair_of
app_request_fits c s m draw partner role =
    after_unless s _ Reason.Policy _
    (λ a. after_unless s _ Reason.NotMember _
    (λ b. after_unless s _ Reason.WrongState _ (λ d. after_found s (current s m.sender) Reason.Policy _ (λ row e.
    pair_fits c s m.sender partner draw row (ap is_centre role ∙ first_of (is_centre c.me.role) _ a)
    (others (is_centre c.me.role) (under_current s m) (nat_eq partner m.sender) (nat_eq partner c.me.eui) a)
    (find (names_two m.sender partner) s.pairs) refl))))
  where
    others : (a b x y : Bool) → not (a && (b && not (x || y))) ≡ false → x ≡ false
    others true true true y e = absurd (cc)
    others true true false y e = refl
    others true false x y e = absurd (cc)
    others false b x y e = absurd (cc)

verify_fits : (tools : Tools) (c : Setting) (s : NodeState) (m : Heard) (kind device : ℕ) (hash : Bytes) → Rules s
    → Fitting s (take_verify tools c s m kind device hash)
unfolding take_verify offered current
verify_fits tools c s m kind device hash r =
    after_unless s _ Reason.Policy _
    (λ a. after_unless s _ Reason.NotMember _
    (λ b. after_unless s _ Reason.WrongState _ (λ d. after_unless s _ Reason.CounterSpent _ (λ e.
    after_choice s _ _ _ (λ f. after_found s (find (is_offered device) s.links) Reason.WrongHash _ (λ row g. record {
      fit = row_then s s device (is_current device) false (kind_of_current device) r.link_keys r.kinds
          (Row device row.key Verified ∷ [])
          (λ left h. row_alone s (record s { links = left }) device row.key Verified
          (row_after device row.key Verified s (is_current device) left h (offered_room s device row g).1
          (rival_of_current device row.key)));
      few = few_row (find (is_current device) s.links) (Row device row.key Verified ∷ []) (omega arith);
    })) (λ f. after_choice s _ _ _ (λ g. after_found s _ Reason.WrongHash _ (λ row h. no_moves s _))
    (λ g. stopped s _))))))

pub command_fits : (tools : Tools) (c : Setting) (s : NodeState) (draw : Option Bytes) (m : Heard) (command : Command)
    → Rules s → s.role ≡ c.me.role → Fitting s (take_command tools c s draw m command)
unfolding take_command
command_fits tools c s draw m (TransportNet key sequence destination source) r role =
    net_key_fits c s m key sequence destination source r role
command_fits tools c s draw m (TransportApp key partner initiator) r role = app_key_fits c s m key partner r
command_fits tools c s draw m (TransportLink key destination source) r role =
    link_key_fits c s m key destination source r role
command_fits tools c s draw m (UpdateDevice device short status) r role = update_fits c s m device status
command_fits tools c s draw m (RemoveDevice target) r role = remove_key_fits c s m target
command_fits tools c s draw m (RequestApp partner) r role = app_request_fits c s m draw partner role
command_fits tools c s draw m RequestLink r role = request_key_fits c s m draw
command_fits tools c s draw m (SwitchKey sequence) r role = switch_key_fits c s m sequence r
command_fits tools c s draw m (Tunnel destination inner) r role = tunnel_fits c s m destination inner
command_fits tools c s draw m (VerifyKey kind source hash) r role = verify_fits tools c s m kind source hash r
command_fits tools c s draw m (ConfirmKey status kind destination) r role = confirm_fits c s m status kind destination
    r role

pub leave_fits : (c : Setting) (s : NodeState) (term : Term) (options : ℕ) → s.role ≡ c.me.role
    → Fitting s (take_leave c term options)
unfolding take_leave
leave_fits c s term options role =
    after_unless s _ Reason.Policy _
    (λ a. record { fit = state_alone s s Gone (member_of c s role (first_of (is_member c) _ a)); few = omega arith })
