-- The results of the calls that return the changes of rows, in the terms of the policy: each is the part of a rule
-- about its rows. This project's profile of Zigbee 05-3474-21, chapter 4.
use Rattle.std.specs.Prelude.{ℕ, ◌≤◌, ◌&&◌, ◌||◌, ⊤, List, [], ◌∷◌, ◌++◌, map, filter, flat_map, find, length, Option, Some, None, if◌then◌else◌, is_none, Result, Ok, Err}
use Rattle.zb_model.specs.Answer.{changes, start_edit, start_for}
use Rattle.zb_model.specs.Commands.{activates, dropped_at, greater, has_key, lesser, proves, take_row, refuse_if_old, verified_current}
use Rattle.zb_model.specs.Data.{Bytes, Edit, Moved, Move, Install, Active, Row, Pair, Unverified, Verified, Reason, KeyOld, KeysFull, RowsFull, KeyInUse, WrongState, WrongHash, Malformed}
use Rattle.zb_model.specs.Rules.{Outcome, Stop, Does, Sending, refuse_if, found_or, choose, drop_old, drop_partner, drop_row, nets_full, pairs_full}
use Rattle.zb_model.specs.State.{NodeState, current, has_net, is_live_of, live_of, offered}
use Rattle.zb_model.specs.Tools.{Tools}
use Rattle.zb_node_types.specs.Changes.{edits}
use Rattle.zb_node_types.specs.declared.change.Change.{Change}
use Rattle.zb_node_types.specs.declared.fault.KeyError.{KeyError}
use Rattle.zb_node_types.specs.declared.fault.KeyError.TheVariants as fault
use Rattle.arrayvec.specs.ArrayVec.{ArrayVec}

-- The policy's reason for each refusal. If the call finds no row that it could be about, the reason is that of the
-- state.
abbrev pub reason_of : KeyError → Reason
reason_of (fault.KeyOld place) = KeyOld place
reason_of fault.KeysFull = KeysFull
reason_of fault.RowsFull = RowsFull
reason_of (fault.KeyInUse partner) = KeyInUse partner.0
reason_of fault.NoRow = WrongState
reason_of fault.WrongHash = WrongHash
reason_of (fault.BadRecord at) = Malformed

-- an outcome of the policy: its reason, or its moves as changes and what it sends
abbrev pub told : Outcome → Result (List Edit × Option Sending) Reason
told (Stop why) = Err why
told (Does moves sending) = Ok (map Moved moves, sending)

-- what a call returns, in the same form: it sends nothing
abbrev pub answered : Result (ArrayVec Change) KeyError → Result (List Edit × Option Sending) Reason
answered (Err e) = Err (reason_of e)
answered (Ok list) = Ok (edits list.items, None)

-- a refusal, or moves as changes
abbrev pub refused_or : Option KeyError → List Move → Result (List Edit × Option Sending) Reason
refused_or None moves = Ok (map Moved moves, None)
refused_or (Some e) moves = Err (reason_of e)

-- No call returns more than five changes.
abbrev pub IsFew : Result (ArrayVec Change) KeyError → Type 0
IsFew (Err e) = ⊤
IsFew (Ok list) = length list.items ≤ 5

-- Network keys

-- a key that becomes active: if it never was active, its first counter follows
abbrev pub stored_move : NodeState → Move → List Edit
stored_move s (Active key) = Moved (Active key) ∷ start_edit key (start_for s (Some key))
stored_move s move = Moved move ∷ []

-- moves as they are stored: only those that change something, and with first counters
unfoldable pub settled : NodeState → List Move → List Edit
settled s moves = flat_map (stored_move s) (filter (changes s) moves)

abbrev pub stored : NodeState → Outcome → Result (List Edit × Option Sending) Reason
stored s (Stop why) = Err why
stored s (Does moves sending) = Ok (settled s moves, sending)

-- a network key that is installed is active at once in a node that waits for one, or has no active key
abbrev pub arrival : NodeState → Bytes → List Move
arrival s key = if activates s then Active key ∷ [] else []

-- A network key is installed, unless it was dropped before. One that is in use gets no second row. A new one gets a
-- row, and of two in use the one that isn't active is dropped.
unfoldable pub net_rule : NodeState → Bytes → ℕ → Outcome
net_rule s key sequence =
    refuse_if_old s key (dropped_at 0 key s.nets) (
    choose (has_net key s.nets)
    (Does (arrival s key) None)
    (refuse_if (nets_full s) KeysFull (
    Does (drop_old s ++ (Install key sequence ∷ arrival s key)) None)))

-- the newest network key in use of that sequence becomes active
unfoldable pub switch_rule : NodeState → ℕ → Outcome
switch_rule s sequence =
    found_or (live_of s sequence) WrongState (λ row.
    Does (Active row.key ∷ []) None)

-- Link keys

-- A link key is offered: nothing changes if it is the current or the offered one. Otherwise it becomes the offered one
-- and replaces another.
unfoldable pub offer_rule : NodeState → ℕ → Bytes → Outcome
offer_rule s partner key =
    choose (has_key key (current s partner) || has_key key (offered s partner))
    (Does [] None)
    (take_row s partner key (drop_row (offered s partner) ++ (Row partner key Unverified ∷ [])))

-- A key is shared with a partner: nothing changes if its row in use has it. Otherwise it replaces these rows.
unfoldable pub partner_rule : NodeState → ℕ → Bytes → Outcome
partner_rule s partner key =
    choose (has_key key (find (is_live_of partner) s.links))
    (Does [] None)
    (take_row s partner key (drop_partner s partner ++ (Row partner key Verified ∷ [])))

-- A partner proves a key by its hash: the offered one is verified and replaces the current one; for the verified
-- current one nothing changes.
unfoldable pub verify_rule : Tools → NodeState → ℕ → Bytes → Outcome
verify_rule tools s partner hash =
    refuse_if (is_none (offered s partner) && is_none (verified_current s partner)) WrongState (
    choose (proves tools hash (offered s partner))
    (found_or (offered s partner) WrongHash (λ row.
    Does (drop_row (current s partner) ++ (Row partner row.key Verified ∷ [])) None))
    (choose (proves tools hash (verified_current s partner))
    (Does [] None)
    (Stop WrongHash)))

-- Pairs

-- two devices get a key for use with each other, the smaller EUI first
unfoldable pub pair_rule : NodeState → ℕ → ℕ → Bytes → Outcome
pair_rule s a b key =
    refuse_if (pairs_full s) RowsFull (
    Does (Pair (lesser a b) (greater a b) key ∷ []) None)
