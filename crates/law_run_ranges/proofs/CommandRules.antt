-- The outcome of each command is in its range.
use Rattle.std.proofs.Common.{◌≡◌, ℕ, ◌+◌, ◌≤◌, Bool, true, false, cond, not, ◌&&◌, nat_lt, List, [], ◌∷◌, length, Option, Some, None, IfSome, refl, sym, arith}
use Rattle.std.specs.List.{AllByRecursion}
use Rattle.std.proofs.lemmas.Bool.{false≢true}
use Rattle.zb_model.specs.Commands.{Heard, labelled, under_current, dropped_at, refuse_if_old, activates, joined_state, activate, take_net_key, refuse_if_used, take_row, take_link_key, take_app_key, take_switch, take_confirm, take_remove, take_tunnel, take_update, send_link_key, answer_request, take_request, send_app_key, lesser, greater, answer_pair, take_app_request, send_confirm, verified_current, take_verify, take_command, take_leave}
use Rattle.zb_model.specs.Data.{Bytes, Label, ForData, Term, Move, Active, Became, Draw, Install, Row, Pair, Unverified, Command, TransportNet, TransportApp, TransportLink, UpdateDevice, RemoveDevice, RequestApp, RequestLink, SwitchKey, Tunnel, VerifyKey, ConfirmKey}
use Rattle.zb_model.specs.Rules.{Outcome, Setting, centre_of, unless_held, drop_row, drop_partner, drop_old, waits_for_key}
use Rattle.zb_model.specs.State.{NetKey, LinkKey, PairKey, NodeState, same_key, is_verified, active_row, live_of, current, offered, other_user, pair_of}
use Rattle.zb_model.specs.Tools.{Tools}
use Rattle.law_run.proofs.FreshLines.{all-append}
use Rattle.law_run_ranges.specs.Asking.{CommandInRange}
use Rattle.law_run_ranges.specs.Ranges.{IsCount, IsEui, IsByte, AreBytes, IsKey, MoveInRange}
use Rattle.law_run_ranges.proofs.Lists.{if_then}
use Rattle.law_run_ranges.proofs.Outcomes.{OutcomeInRange, SettingInRange, unless_in, found_in, choose_in}
use Rattle.law_run_ranges.proofs.Questions.{active_in, live_of_in, current_in, offered_in, other_user_in, pair_in, held_in, drop_partner_in, drop_row_in, drop_old_in}
use Rattle.law_run_ranges.proofs.States.{NetInRange, LinkInRange, PairInRange, StateInRange}

-- the sender of a sealed command
abbrev pub HeardInRange : Heard → Type 0
HeardInRange m = IfSome m.label (λ (l : Label). IsEui m.sender)

labelled_eui : (o : Option Label) (n : ℕ) → IfSome o (λ (l : Label). IsEui n) → labelled ForData o ≡ true → IsEui n
labelled_eui None n is e = absurd (false≢true e)
labelled_eui (Some l) n is e = is

second : (a b : Bool) → not (a && b) ≡ false → b ≡ true
second true true e = refl
second true false e = absurd (false≢true (sym e))
second false b e = absurd (false≢true (sym e))

first : (a b : Bool) → (a && b) ≡ true → a ≡ true
first true b e = refl
first false b e = absurd (false≢true e)

-- ---- routers and devices

dropped_in : (place : ℕ) (key : Bytes) (rs : List NetKey) → IsCount (place + length rs)
    → IfSome (dropped_at place key rs) IsCount
dropped_in place key [] le = tt
dropped_in place key (r ∷ rs) le =
    if_then (λ (o : Option ℕ). IfSome o IsCount) (same_key r.key key && not r.live) (Some place)
    (dropped_at (place + 1) key rs) (omega arith) (dropped_in (place + 1) key rs (omega arith))

old_in : (s : NodeState) (key : Bytes) (o : Option ℕ) (rest : Outcome) → IfSome o IsCount → OutcomeInRange rest
    → OutcomeInRange (refuse_if_old s key o rest)
old_in s key None rest is r = r
old_in s key (Some place) rest is r = is

activate_in : (c : Setting) (s : NodeState) (key : Bytes) → IsKey key → AllByRecursion MoveInRange (activate c s key)
activate_in c s key k =
    all-append MoveInRange (cond (activates s) (Active key ∷ []) [])
    (cond (waits_for_key s.state) (Became (joined_state c s) ∷ []) [])
    (if_then (λ (l : List Move). AllByRecursion MoveInRange l) (activates s) (Active key ∷ []) [] (k, tt) tt)
    (if_then (λ (l : List Move). AllByRecursion MoveInRange l) (waits_for_key s.state)
    (Became (joined_state c s) ∷ []) [] (tt, tt) tt)

net_key_in : (c : Setting) (s : NodeState) (m : Heard) (key : Bytes) (sequence destination source : ℕ)
    → IsCount (length s.nets) → StateInRange s → IsKey key → IsByte sequence
    → OutcomeInRange (take_net_key c s m key sequence destination source)
unfolding take_net_key
net_key_in c s m key sequence destination source few is k q =
    unless_in _ _ _ tt (λ e.
    old_in s key (dropped_at 0 key s.nets) _ (dropped_in 0 key s.nets (omega (arith, few))) (
    choose_in _ _ _ (activate_in c s key k, tt)
    (unless_in _ _ _ tt (λ f. (
      all-append MoveInRange (drop_old s) (Install key sequence ∷ activate c s key) (drop_old_in s is)
          ((k, q), activate_in c s key k),
      tt,
    )))))

used_in : (o : Option LinkKey) (rest : Outcome) → IfSome o LinkInRange → OutcomeInRange rest
    → OutcomeInRange (refuse_if_used o rest)
used_in None rest is r = r
used_in (Some other) rest is r = is.0

take_row_in : (s : NodeState) (partner : ℕ) (key : Bytes) (moves : List Move) → StateInRange s
    → AllByRecursion MoveInRange moves → OutcomeInRange (take_row s partner key moves)
unfolding take_row
take_row_in s partner key moves is m =
    unless_in _ _ _ tt (λ e. used_in (other_user s partner key) _ (other_user_in s partner key is) (m, tt))

link_key_in : (c : Setting) (s : NodeState) (m : Heard) (key : Bytes) (destination source : ℕ) → SettingInRange c
    → StateInRange s → IsKey key → OutcomeInRange (take_link_key c s m key destination source)
unfolding take_link_key
link_key_in c s m key destination source at is k =
    unless_in _ _ _ tt (λ e. unless_in _ _ _ tt (λ f.
    choose_in _ _ _ (tt, tt)
    (take_row_in s (centre_of c.stations) key _ is
    (all-append MoveInRange (drop_row (offered s (centre_of c.stations))) _
    (drop_row_in (offered s (centre_of c.stations)) (offered_in s (centre_of c.stations) is))
    ((at.1, k), (tt, tt))))))

app_key_in : (c : Setting) (s : NodeState) (m : Heard) (key : Bytes) (partner : ℕ) → StateInRange s → IsKey key
    → IsEui partner → OutcomeInRange (take_app_key c s m key partner)
unfolding take_app_key
app_key_in c s m key partner is k p =
    unless_in _ _ _ tt (λ e. unless_in _ _ _ tt (λ f. unless_in _ _ _ tt (λ g.
    choose_in _ _ _ (tt, tt)
    (take_row_in s partner key _ is
    (all-append MoveInRange (drop_partner s partner) _ (drop_partner_in s partner is) ((p, k), tt))))))

take_switch_in : (c : Setting) (s : NodeState) (m : Heard) (sequence : ℕ) → StateInRange s
    → OutcomeInRange (take_switch c s m sequence)
unfolding take_switch
take_switch_in c s m sequence is =
    unless_in _ _ _ tt
    (λ e. found_in NetInRange (live_of s sequence) _ _ tt (live_of_in s sequence is) (λ row r. ((r.0, tt), tt)))

confirm_in : (c : Setting) (s : NodeState) (m : Heard) (status kind destination : ℕ) → StateInRange s
    → OutcomeInRange (take_confirm c s m status kind destination)
unfolding take_confirm
confirm_in c s m status kind destination is =
    unless_in _ _ _ tt (λ e. unless_in _ _ _ tt (λ f. unless_in _ _ _ tt (λ g.
    found_in LinkInRange (offered s (centre_of c.stations)) _ _ tt (offered_in s (centre_of c.stations) is) (λ row r. (
      all-append MoveInRange (drop_row (current s (centre_of c.stations))) _
          (drop_row_in (current s (centre_of c.stations)) (current_in s (centre_of c.stations) is))
          ((r.0, r.1), (tt, tt)),
      tt,
    )))))

-- ---- routers

take_remove_in : (c : Setting) (s : NodeState) (m : Heard) (target : ℕ) → OutcomeInRange (take_remove c s m target)
unfolding take_remove
take_remove_in c s m target = unless_in _ _ _ tt (λ e. unless_in _ _ _ tt (λ f. unless_in _ _ _ tt (λ g. (tt, tt))))

tunnel_in : (c : Setting) (s : NodeState) (m : Heard) (destination : ℕ) (inner : Bytes) → AreBytes inner
    → length inner ≤ 118 → OutcomeInRange (take_tunnel c s m destination inner)
unfolding take_tunnel
tunnel_in c s m destination inner b le = unless_in _ _ _ tt (λ e. unless_in _ _ _ tt (λ f. (tt, (refl, b, le))))

-- ---- the centre

update_in : (c : Setting) (s : NodeState) (m : Heard) (device status : ℕ) → SettingInRange c → StateInRange s
    → IsEui device → OutcomeInRange (take_update c s m device status)
unfolding take_update
update_in c s m device status at is d =
    unless_in _ _ _ tt (λ e.
    choose_in _ _ _ (tt, tt)
    (found_in NetInRange (active_row s) _ _ tt (active_in s is) (λ net n.
    found_in LinkInRange (current s device) _ _ tt (current_in s device is) (λ row r.
    unless_in _ _ _ tt (λ f. (tt, (d, r.1, (n.0, n.1, d, at.0), tt)))))))

send_link_in : (c : Setting) (s : NodeState) (device : ℕ) (key : Bytes) (moves : List Move) (row : LinkKey)
    → SettingInRange c → IsEui device → IsKey key → AllByRecursion MoveInRange moves → LinkInRange row
    → OutcomeInRange (send_link_key c s device key moves row)
send_link_in c s device key moves row at d k m r = (m, (r.1, (k, d, at.0), tt))

answer_in : (c : Setting) (s : NodeState) (device : ℕ) (draw : Option Bytes) (row : LinkKey) (o : Option LinkKey)
    → SettingInRange c → IsEui device → IfSome draw IsKey → LinkInRange row → IfSome o LinkInRange
    → OutcomeInRange (answer_request c s device draw row o)
answer_in c s device draw row (Some offer) at d k r is =
    unless_in _ _ _ tt (λ e. send_link_in c s device offer.key [] row at d is.1 tt r)
answer_in c s device draw row None at d k r is =
    unless_in _ _ _ tt (λ e.
    found_in IsKey (unless_held s draw) _ _ tt (held_in s draw k) (λ key is_key.
    unless_in _ _ _ tt
    (λ f. send_link_in c s device key (Draw key ∷ Row device key Unverified ∷ []) row at d is_key
    (is_key, ((d, is_key), tt)) r)))

request_in : (c : Setting) (s : NodeState) (m : Heard) (draw : Option Bytes) → SettingInRange c → StateInRange s
    → HeardInRange m → IfSome draw IsKey → OutcomeInRange (take_request c s m draw)
unfolding take_request
request_in c s m draw at is h d =
    unless_in _ _ _ tt (λ e.
    let sender : IsEui m.sender = labelled_eui m.label m.sender h (first (labelled ForData m.label) _ (second _ _ e))
    in
    found_in LinkInRange (current s m.sender) _ _ tt (current_in s m.sender is) (λ row r.
    answer_in c s m.sender draw row (offered s m.sender) at sender d r (offered_in s m.sender is)))

send_app_in : (c : Setting) (device partner : ℕ) (key : Bytes) (moves : List Move) (row : LinkKey) → IsEui partner
    → IsKey key → AllByRecursion MoveInRange moves → LinkInRange row
    → OutcomeInRange (send_app_key c device partner key moves row)
send_app_in c device partner key moves row p k m r = (m, (r.1, (k, p, omega arith), tt))

lesser_in : (a b : ℕ) → IsEui a → IsEui b → IsEui (lesser a b)
lesser_in a b p q = if_then IsEui (nat_lt a b) a b p q

greater_in : (a b : ℕ) → IsEui a → IsEui b → IsEui (greater a b)
greater_in a b p q = if_then IsEui (nat_lt a b) b a q p

answer_pair_in : (c : Setting) (s : NodeState) (device partner : ℕ) (draw : Option Bytes) (row : LinkKey)
    (o : Option PairKey) → IsEui device → IsEui partner → IfSome draw IsKey → LinkInRange row → IfSome o PairInRange
    → OutcomeInRange (answer_pair c s device partner draw row o)
answer_pair_in c s device partner draw row (Some pair) d p k r is =
    unless_in _ _ _ tt (λ e. send_app_in c device partner pair.key [] row p is tt r)
answer_pair_in c s device partner draw row None d p k r is =
    unless_in _ _ _ tt (λ e.
    found_in IsKey (unless_held s draw) _ _ tt (held_in s draw k) (λ key is_key.
    unless_in _ _ _ tt
    (λ f. send_app_in c device partner key
    (Draw key ∷ Pair (lesser device partner) (greater device partner) key ∷ []) row p is_key
    (is_key, ((lesser_in device partner d p, greater_in device partner d p, is_key), tt)) r)))

app_request_in : (c : Setting) (s : NodeState) (m : Heard) (draw : Option Bytes) (partner : ℕ) → StateInRange s
    → HeardInRange m → IfSome draw IsKey → IsEui partner → OutcomeInRange (take_app_request c s m draw partner)
unfolding take_app_request
app_request_in c s m draw partner is h d p =
    unless_in _ _ _ tt (λ e.
    let sender : IsEui m.sender =
    labelled_eui m.label m.sender h
    (first (labelled ForData m.label) _ (first (under_current s m) _ (second _ _ e))) in
    unless_in _ _ _ tt (λ f. unless_in _ _ _ tt (λ g.
    found_in LinkInRange (current s m.sender) _ _ tt (current_in s m.sender is) (λ row r.
    answer_pair_in c s m.sender partner draw row (pair_of s m.sender partner) sender p d r
    (pair_in s m.sender partner is)))))

send_confirm_in : (c : Setting) (device : ℕ) (key : Bytes) (moves : List Move) → IsEui device → IsKey key
    → AllByRecursion MoveInRange moves → OutcomeInRange (send_confirm c device key moves)
send_confirm_in c device key moves d k m = (m, (k, (omega arith, omega arith, d), tt))

verified_by : (s : NodeState) (device : ℕ) (o : Option LinkKey) → current s device ≡ o → IfSome o LinkInRange
    → IfSome (verified_current s device) LinkInRange
verified_by s device None e is = rw e tt
verified_by s device (Some r) e is =
    rw e (if_then (λ (x : Option LinkKey). IfSome x LinkInRange) (is_verified r.attribute) (Some r) None is tt)

verified_in : (s : NodeState) (device : ℕ) → StateInRange s → IfSome (verified_current s device) LinkInRange
verified_in s device is = verified_by s device (current s device) refl (current_in s device is)

verify_in : (tools : Tools) (c : Setting) (s : NodeState) (m : Heard) (kind device : ℕ) (hash : Bytes)
    → StateInRange s → IsEui device → OutcomeInRange (take_verify tools c s m kind device hash)
unfolding take_verify
verify_in tools c s m kind device hash is d =
    unless_in _ _ _ tt (λ e. unless_in _ _ _ tt (λ f. unless_in _ _ _ tt (λ g. unless_in _ _ _ tt (λ h.
    choose_in _ _ _
    (found_in LinkInRange (offered s device) _ _ tt (offered_in s device is) (λ row r.
    send_confirm_in c device row.key _ d r.1
    (all-append MoveInRange (drop_row (current s device)) _
    (drop_row_in (current s device) (current_in s device is)) ((d, r.1), tt))))
    (choose_in _ _ _
    (found_in LinkInRange (verified_current s device) _ _ tt (verified_in s device is)
    (λ row r. send_confirm_in c device row.key [] d r.1 tt))
    tt)))))

-- ---- the rule of each command

pub command_in : (tools : Tools) (c : Setting) (s : NodeState) (draw : Option Bytes) (m : Heard) (command : Command)
    → SettingInRange c → StateInRange s → IsCount (length s.nets) → IfSome draw IsKey → HeardInRange m
    → CommandInRange command
    → OutcomeInRange (take_command tools c s draw m command)
unfolding take_command
command_in tools c s draw m (TransportNet key sequence destination source) at is few d h o =
    net_key_in c s m key sequence destination source few is o.0 o.1
command_in tools c s draw m (TransportApp key partner initiator) at is few d h o =
    app_key_in c s m key partner is o.0 o.1
command_in tools c s draw m (TransportLink key destination source) at is few d h o =
    link_key_in c s m key destination source at is o.0
command_in tools c s draw m (UpdateDevice device short status) at is few d h o =
    update_in c s m device status at is o.0
command_in tools c s draw m (RemoveDevice target) at is few d h o = take_remove_in c s m target
command_in tools c s draw m (RequestApp partner) at is few d h o = app_request_in c s m draw partner is h d o
command_in tools c s draw m RequestLink at is few d h o = request_in c s m draw at is h d
command_in tools c s draw m (SwitchKey sequence) at is few d h o = take_switch_in c s m sequence is
command_in tools c s draw m (Tunnel destination inner) at is few d h o = tunnel_in c s m destination inner o.1 o.2
command_in tools c s draw m (VerifyKey kind source hash) at is few d h o = verify_in tools c s m kind source hash is
    o.1
command_in tools c s draw m (ConfirmKey status kind destination) at is few d h o =
    confirm_in c s m status kind destination is

pub leave_in : (c : Setting) (term : Term) (options : ℕ) → OutcomeInRange (take_leave c term options)
unfolding take_leave
leave_in c term options = unless_in _ _ _ tt (λ e. ((tt, tt), tt))
