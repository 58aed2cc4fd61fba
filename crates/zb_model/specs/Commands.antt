-- The commands that a node receives, one rule each: which node takes it, in which form (any other form is `policy`),
-- why it is refused, and what it does. This project's profile of Zigbee 05-3474-21, 4.4.
use Rattle.std.specs.Prelude.{ℕ, ◌+◌, ◌%◌, ◌/◌, Bool, true, false, not, if◌then◌else◌, ◌&&◌, ◌||◌, List, [], ◌∷◌, ◌++◌, find, Option, Some, None, nat_eq, nat_lt, nat_le, is_some, is_none}
use Rattle.zb_model.specs.Data.{Bytes, Nwk, State, Joined, Offered, Confirmed, Gone, Unverified, Verified, Label, ForData, ForTransport, ForLoad, Term, Move, Draw, Install, Active, Row, Pair, Became, NoKey, NotMember, WrongState, KeyOld, KeysFull, RowsFull, KeyInUse, NoDraw, CounterSpent, WrongHash, Policy, Command, TransportNet, TransportApp, TransportLink, UpdateDevice, RemoveDevice, RequestApp, RequestLink, SwitchKey, Tunnel, VerifyKey, ConfirmKey, nobody}
use Rattle.zb_model.specs.State.{NetKey, LinkKey, PairKey, NodeState, same_key, is_centre, is_verified, is_live_of, has_net, has_link, active_row, live_of, current, offered, is_live, other_user, pair_of, same_label}
use Rattle.zb_model.specs.Tools.{Tools, verify_hash}
use Rattle.zb_model.specs.Rules.{Secret, Tunnelled, Leaving, Relayed, Outcome, Stop, Does, Setting, refuse_if, refuse_unless, found_or, choose, sends, centre_of, short_of, is_declared, acts_as_router, from_centre, is_router, spent, both_spent, in_rejoining, waits_for_key, nets_full, links_full, pairs_full, unless_held, drop_row, drop_partner, drop_old}

-- A received command. `sender` is the source of the sealed layer: that of the APS term if the command was sealed, else
-- that of the NWK term. `label` and `row` are what opened it; `nwk_source` is the source of the NWK term.
pub record Heard : Type 0 where
  pub sender : ℕ
  pub label : Option Label
  pub row : Option LinkKey
  pub nwk_source : Option ℕ

-- The forms in which a command may come

abbrev pub labelled : Label → Option Label → Bool
labelled label None = false
labelled label (Some found) = same_label label found

abbrev pub is_clear : Heard → Bool
is_clear m = is_none m.label

abbrev pub clear_or_data : Heard → Bool
clear_or_data m = is_clear m || labelled ForData m.label

abbrev pub nwk_secured : Heard → Bool
nwk_secured m = is_some m.nwk_source

abbrev pub is_member : Setting → Bool
is_member c = not (is_centre c.me.role)

abbrev pub row_is : Option LinkKey → Option LinkKey → Bool
row_is None b = false
row_is (Some a) None = false
row_is (Some a) (Some b) = same_key a.key b.key

abbrev pub is_verified_row : Option LinkKey → Bool
is_verified_row None = false
is_verified_row (Some r) = is_verified r.attribute

abbrev pub names_eui : ℕ → Option ℕ → Bool
names_eui eui None = false
names_eui eui (Some found) = nat_eq eui found

-- Taken by routers and devices

-- the place, over all rows, of the dropped network row with a key
abbrev pub dropped_at : ℕ → Bytes → List NetKey → Option ℕ
dropped_at place key [] = None
dropped_at place key (r ∷ rs) = if same_key r.key key && not r.live then Some place else dropped_at (place + 1) key rs

abbrev pub refuse_if_old : NodeState → Bytes → Option ℕ → Outcome → Outcome
refuse_if_old s key None rest = rest
refuse_if_old s key (Some place) rest = Stop (KeyOld place)

-- A network key that is installed becomes active in a node that waits for one, and in a node without an active key.
abbrev pub activates : NodeState → Bool
activates s = waits_for_key s.state || is_none s.active

-- in such a node the new state follows from the link rows of the centre
abbrev pub joined_state : Setting → NodeState → State
joined_state c s =
    if is_some (offered s (centre_of c.stations)) then Offered
    else (if is_verified_row (current s (centre_of c.stations)) then Confirmed else Joined)

abbrev pub activate : Setting → NodeState → Bytes → List Move
activate c s key =
    (if activates s then Active key ∷ [] else []) ++ (if waits_for_key s.state then Became (joined_state c s) ∷ []
    else [])

-- Transport-Key, type 1: a network key
unfoldable pub take_net_key : Setting → NodeState → Heard → Bytes → ℕ → ℕ → ℕ → Outcome
take_net_key c s m key sequence destination source =
    refuse_unless (is_member c && (labelled ForTransport m.label && (from_centre c m.sender
    && (nat_eq destination c.me.eui && from_centre c source)))) Policy (
    refuse_if_old s key (dropped_at 0 key s.nets) (
    choose (has_net key s.nets)
    (Does (activate c s key) None)
    (refuse_if (nets_full s) KeysFull (
    Does (drop_old s ++ (Install key sequence ∷ activate c s key)) None))))

-- a link key is installed: its row is new, or is a dropped row of that partner
abbrev pub refuse_if_used : Option LinkKey → Outcome → Outcome
refuse_if_used None rest = rest
refuse_if_used (Some other) rest = Stop (KeyInUse other.partner)

unfoldable pub take_row : NodeState → ℕ → Bytes → List Move → Outcome
take_row s partner key moves =
    refuse_if (not (has_link partner key s.links) && links_full s) RowsFull (
    refuse_if_used (other_user s partner key) (
    Does moves None))

abbrev pub has_key : Bytes → Option LinkKey → Bool
has_key key None = false
has_key key (Some r) = same_key r.key key

-- Transport-Key, type 4: a link key with the centre, which the device then has to prove
unfoldable pub take_link_key : Setting → NodeState → Heard → Bytes → ℕ → ℕ → Outcome
take_link_key c s m key destination source =
    refuse_unless (is_member c && (nwk_secured m && (labelled ForLoad m.label && (from_centre c m.sender
    && (nat_eq destination c.me.eui && from_centre c source))))) Policy (
    refuse_if (in_rejoining s.state) WrongState (
    choose (has_key key (current s (centre_of c.stations)) || has_key key (offered s (centre_of c.stations)))
    (Does [] None)
    (take_row s (centre_of c.stations) key
    (drop_row (offered s (centre_of c.stations))
    ++ (Row (centre_of c.stations) key Unverified ∷ Became Offered ∷ [])))))

-- Transport-Key, type 3: a link key with a partner
unfoldable pub take_app_key : Setting → NodeState → Heard → Bytes → ℕ → Outcome
take_app_key c s m key partner =
    refuse_unless (is_member c && (nwk_secured m && (labelled ForLoad m.label && (from_centre c m.sender
    && not (nat_eq partner c.me.eui || from_centre c partner))))) Policy (
    refuse_unless (is_declared c partner) NotMember (
    refuse_if (in_rejoining s.state) WrongState (
    choose (has_key key (find (is_live_of partner) s.links))
    (Does [] None)
    (take_row s partner key (drop_partner s partner ++ (Row partner key Verified ∷ []))))))

-- Switch-Key: the newest live network row of that sequence becomes active
unfoldable pub take_switch : Setting → NodeState → Heard → ℕ → Outcome
take_switch c s m sequence =
    refuse_unless (is_member c && (clear_or_data m && from_centre c m.sender)) Policy (
    found_or (live_of s sequence) WrongState (λ row.
    Does (Active row.key ∷ []) None))

-- Confirm-Key: the offered key was proved and replaces the current one
unfoldable pub take_confirm : Setting → NodeState → Heard → ℕ → ℕ → ℕ → Outcome
take_confirm c s m status kind destination =
    refuse_unless (is_member c && (labelled ForData m.label && (from_centre c m.sender
    && (nat_eq status 0 && (nat_eq kind 4 && nat_eq destination c.me.eui))))) Policy (
    refuse_if (in_rejoining s.state) WrongState (
    refuse_unless (row_is m.row (offered s (centre_of c.stations))) WrongState (
    -- this never refuses: the row that opened the command is the offered one, so there is one
    found_or (offered s (centre_of c.stations)) WrongState (λ row.
    Does (drop_row (current s (centre_of c.stations)) ++ (Row row.partner row.key Verified ∷ Became Confirmed ∷ []))
    None))))

-- Taken by routers

-- Remove-Device: the target is asked to leave
unfoldable pub take_remove : Setting → NodeState → Heard → ℕ → Outcome
take_remove c s m target =
    refuse_unless (is_router c.me.role && (labelled ForData m.label && (from_centre c m.sender
    && not (nat_eq target c.me.eui || from_centre c target)))) Policy (
    refuse_unless (is_declared c target) NotMember (
    refuse_if (spent Nwk s) CounterSpent (
    Does [] (sends (short_of c target) true Leaving))))

-- Tunnel: its inner frame goes to the destination, without NWK security
unfoldable pub take_tunnel : Setting → NodeState → Heard → ℕ → Bytes → Outcome
take_tunnel c s m destination inner =
    refuse_unless (is_router c.me.role && (is_clear m && from_centre c m.sender)) Policy (
    refuse_if (not (is_declared c destination) || nat_eq destination c.me.eui) NotMember (
    Does [] (sends (short_of c destination) false (Relayed inner))))

-- Taken by the centre

-- the default source has no effect: the centre takes no frame without NWK security
abbrev pub eui_of : Option ℕ → ℕ
eui_of None = nobody
eui_of (Some eui) = eui

-- Update-Device: a router reports a child that joins (1) or rejoins (3). The centre sends it the network key through a
-- Tunnel.
unfoldable pub take_update : Setting → NodeState → Heard → ℕ → ℕ → Outcome
take_update c s m device status =
    refuse_unless (is_centre c.me.role && (clear_or_data m && (acts_as_router c m.sender && nat_le status 3))) Policy (
    choose (not (nat_eq status 1 || nat_eq status 3))
    (Does [] None)
    (found_or (active_row s) NoKey (λ net.
    found_or (current s device) NotMember (λ row.
    refuse_if (both_spent s) CounterSpent (
    Does []
    (sends (short_of c (eui_of m.nwk_source)) true
    (Tunnelled device row.key (TransportNet net.key net.sequence device c.me.eui))))))))

-- the row that opened a request is the sender's current one
abbrev pub under_current : NodeState → Heard → Bool
under_current s m = labelled ForData m.label && row_is m.row (current s m.sender)

abbrev pub send_link_key : Setting → NodeState → ℕ → Bytes → List Move → LinkKey → Outcome
send_link_key c s device key moves row =
    Does moves (sends (short_of c device) true (Secret ForLoad row.key (TransportLink key device c.me.eui)))

-- Request-Key, type 4: the offered key is sent again, or a new one is drawn and offered
abbrev pub answer_request : Setting → NodeState → ℕ → Option Bytes → LinkKey → Option LinkKey → Outcome
answer_request c s device draw row (Some offer) =
    refuse_if (both_spent s) CounterSpent (
    send_link_key c s device offer.key [] row)
answer_request c s device draw row None =
    refuse_if (links_full s) RowsFull (
    found_or (unless_held s draw) NoDraw (λ key.
    refuse_if (both_spent s) CounterSpent (
    send_link_key c s device key (Draw key ∷ Row device key Unverified ∷ []) row)))

unfoldable pub take_request : Setting → NodeState → Heard → Option Bytes → Outcome
take_request c s m draw =
    refuse_unless (is_centre c.me.role && under_current s m) Policy (
    -- this never refuses: the row that opened the request is the current one, so there is one
    found_or (current s m.sender) Policy (λ row.
    answer_request c s m.sender draw row (offered s m.sender)))

-- Request-Key, type 2: the key of the pair is sent again, or a new one is drawn for the two
abbrev pub send_app_key : Setting → ℕ → ℕ → Bytes → List Move → LinkKey → Outcome
send_app_key c device partner key moves row =
    Does moves (sends (short_of c device) true (Secret ForLoad row.key (TransportApp key partner 1)))

abbrev pub lesser : ℕ → ℕ → ℕ
lesser a b = if nat_lt a b then a else b

abbrev pub greater : ℕ → ℕ → ℕ
greater a b = if nat_lt a b then b else a

abbrev pub answer_pair : Setting → NodeState → ℕ → ℕ → Option Bytes → LinkKey → Option PairKey → Outcome
answer_pair c s device partner draw row (Some pair) =
    refuse_if (both_spent s) CounterSpent (
    send_app_key c device partner pair.key [] row)
answer_pair c s device partner draw row None =
    refuse_if (pairs_full s) RowsFull (
    found_or (unless_held s draw) NoDraw (λ key.
    refuse_if (both_spent s) CounterSpent (
    send_app_key c device partner key (Draw key ∷ Pair (lesser device partner) (greater device partner) key ∷ [])
    row)))

unfoldable pub take_app_request : Setting → NodeState → Heard → Option Bytes → ℕ → Outcome
take_app_request c s m draw partner =
    refuse_unless
    (is_centre c.me.role && (under_current s m && not (nat_eq partner m.sender || nat_eq partner c.me.eui)))
    Policy (
    refuse_unless (is_live s partner) NotMember (
    refuse_unless (is_verified_row (current s m.sender) && is_verified_row (current s partner)) WrongState (
    -- this never refuses: the current row was verified above, so there is one
    found_or (current s m.sender) Policy (λ row.
    answer_pair c s m.sender partner draw row (pair_of s m.sender partner)))))

-- Verify-Key: if it proves the offered key, that key replaces the current one. Then, or if it proves the verified
-- current key, the centre confirms this to the device (Confirm-Key) under that key.
abbrev pub send_confirm : Setting → ℕ → Bytes → List Move → Outcome
send_confirm c device key moves =
    Does moves (sends (short_of c device) true (Secret ForData key (ConfirmKey 0 4 device)))

abbrev pub proves : Tools → Bytes → Option LinkKey → Bool
proves tools hash None = false
proves tools hash (Some r) = same_key (verify_hash tools r.key) hash

abbrev pub verified_current : NodeState → ℕ → Option LinkKey
verified_current s device = only (current s device)
  where
    only : Option LinkKey → Option LinkKey
    only None = None
    only (Some r) = if is_verified r.attribute then Some r else None

unfoldable pub take_verify : Tools → Setting → NodeState → Heard → ℕ → ℕ → Bytes → Outcome
take_verify tools c s m kind device hash =
    refuse_unless (is_centre c.me.role && (is_clear m && (nat_eq kind 4 && names_eui device m.nwk_source))) Policy (
    refuse_unless (is_live s device) NotMember (
    refuse_if (is_none (offered s device) && is_none (verified_current s device)) WrongState (
    refuse_if (both_spent s) CounterSpent (
    -- neither `found_or` refuses: a row with that proof exists
    choose (proves tools hash (offered s device))
    (found_or (offered s device) WrongHash (λ row.
    send_confirm c device row.key (drop_row (current s device) ++ (Row device row.key Verified ∷ []))))
    (choose (proves tools hash (verified_current s device))
    (found_or (verified_current s device) WrongHash (λ row. send_confirm c device row.key []))
    (Stop WrongHash))))))

-- The rule of each command.
unfoldable pub take_command : Tools → Setting → NodeState → Option Bytes → Heard → Command → Outcome
take_command tools c s draw m (TransportNet key sequence destination source) =
    take_net_key c s m key sequence destination source
take_command tools c s draw m (TransportApp key partner initiator) = take_app_key c s m key partner
take_command tools c s draw m (TransportLink key destination source) = take_link_key c s m key destination source
take_command tools c s draw m (UpdateDevice device short status) = take_update c s m device status
take_command tools c s draw m (RemoveDevice target) = take_remove c s m target
take_command tools c s draw m (RequestApp partner) = take_app_request c s m draw partner
take_command tools c s draw m RequestLink = take_request c s m draw
take_command tools c s draw m (SwitchKey sequence) = take_switch c s m sequence
take_command tools c s draw m (Tunnel destination inner) = take_tunnel c s m destination inner
take_command tools c s draw m (VerifyKey kind source hash) = take_verify tools c s m kind source hash
take_command tools c s draw m (ConfirmKey status kind destination) = take_confirm c s m status kind destination

-- A NWK command: a Leave from the centre or a router, whose bit 6 asks the node itself to leave.
abbrev pub asks_to_go : ℕ → Bool
asks_to_go options = nat_eq ((options / 64) % 2) 1

unfoldable pub take_leave : Setting → Term → ℕ → Outcome
take_leave c term options =
    refuse_unless (is_member c && ((from_centre c term.source || acts_as_router c term.source) && asks_to_go options))
    Policy (
    Does (Became Gone ∷ []) None)
