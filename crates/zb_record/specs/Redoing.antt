-- The payloads of journal entries are applied one after the other: each change in its order, up to the first that
-- isn't whole, isn't a change, or doesn't fit. After a record of version 1 two kinds of changes have another effect
-- than after later versions, and two kinds aren't allowed.
use Rattle.std.specs.Prelude.{◌≡◌, ℕ, zero, suc, ◌-◌, max, min, Bool, true, false, nat_le, List, [], ◌∷◌, ◌++◌, length, map, Result, Ok, Err, if◌then◌else◌}
use Rattle.std.specs.List.{AllByRecursion}
use Rattle.zb_node_types.specs.declared.change.Change.{Change}
use Rattle.zb_node_types.specs.declared.fault.KeyError.{KeyError}
use Rattle.zb_node_types.specs.declared.fault.KeyError.TheVariants.{BadRecord}
use Rattle.zb_node_types.specs.Changes.{edit}
use Rattle.zb_model.specs.Data.{Bytes, Edit, Reserve, Start, Moved, Install, Pair, Nwk}
use Rattle.zb_model.specs.State.{NodeState, NetKey, has_net, given_net, shown, applied}
use Rattle.zb_model.specs.Fits.{fits}
use Rattle.zb_record.specs.declared.version.Version.{Version}
use Rattle.zb_record.specs.declared.version.Version.TheVariants.{First, Second, Third}
use Rattle.zb_record.specs.Changes.{change_at}
use Rattle.zb_base.specs.Limits.{greatest_count}

-- After a record of version 1 there is one NWK limit for all network rows. The declared start is that limit too, and
-- each row counts as started with it.

-- a row continues from the limit; like all limits it never falls
abbrev pub limited : ℕ → NetKey → NetKey
limited limit r = record r { started = true; limit = max r.limit limit; next = max r.next limit }

-- a NWK reserve sets the one limit, whether a row is active or not
abbrev pub with_limit : ℕ → NodeState → NodeState
with_limit limit s = record s { declared = limit; nets = map (limited limit) s.nets }

-- a new row has this limit too
abbrev pub with_net : Bytes → ℕ → NodeState → NodeState
with_net key sequence s = record s {
  nets = if has_net key s.nets then s.nets
      else s.nets ++ given_net s.declared key sequence ∷ [];
}

-- all other changes have their usual effect
unfoldable pub first_applied : Edit → NodeState → NodeState
first_applied (Reserve Nwk limit) s = with_limit limit s
first_applied (Moved (Install key sequence)) s = with_net key sequence s
first_applied e s = applied e s

-- a NWK reserve isn't below the one limit, a start and a pair aren't allowed, and all other changes fit by the usual
-- rules
unfoldable pub first_fits : Edit → NodeState → Bool
first_fits (Reserve Nwk limit) s = nat_le s.declared limit
first_fits (Start key value) s = false
first_fits (Moved (Pair first second key)) s = false
first_fits e s = fits e s

-- whether a change fits after a record of a version, and its effect there
unfoldable pub fits_behind : Version → Edit → NodeState → Bool
fits_behind First e s = first_fits e s
fits_behind Second e s = fits e s
fits_behind Third e s = fits e s

unfoldable pub applied_behind : Version → Edit → NodeState → NodeState
applied_behind First e s = first_applied e s
applied_behind Second e s = applied e s
applied_behind Third e s = applied e s

-- The state after the changes that were made, and the bytes after them; or the fault, as the number of bytes from its
-- first one to the end.
abbrev pub Redone : Type 0
Redone = NodeState × Result (List ℕ) ℕ

abbrev pub onward : NodeState → Result (List ℕ) ℕ → (List ℕ → NodeState → Redone) → Redone
onward s (Ok rest) next = next rest s
onward s (Err left) next = (s, Err left)

-- a change that was read is made if it fits; otherwise the fault is at its first byte
abbrev pub change_made : Version → NodeState → ℕ → Result (Change × List ℕ) ℕ → Redone
change_made v s left (Ok x) = if fits_behind v (edit x.0) s then (shown (applied_behind v (edit x.0) s), Ok x.1)
    else (s, Err left)
change_made v s left (Err e) = (s, Err e)

-- the change at the start
unfoldable pub change_redone : Version → List ℕ → NodeState → Redone
change_redone v bytes s = change_made v s (length bytes) (change_at (length bytes) bytes)

-- that many changes
unfoldable pub changes_redone : Version → ℕ → List ℕ → NodeState → Redone
changes_redone v zero bytes s = (s, Ok bytes)
changes_redone v (suc n) bytes s = onward (change_redone v bytes s).0 (change_redone v bytes s).1 (changes_redone v n)

-- at most that many payloads: each is a count of changes, and the changes
unfoldable pub payloads_redone : Version → ℕ → List ℕ → NodeState → Redone
payloads_redone v zero bytes s = (s, Ok bytes)
payloads_redone v (suc n) [] s = (s, Ok [])
payloads_redone v (suc n) (count ∷ bytes) s = onward (changes_redone v count bytes s).0
    (changes_redone v count bytes s).1 (payloads_redone v n)

-- all payloads after a record of a version; each payload has at least one byte
unfoldable pub redone : Version → List ℕ → NodeState → Redone
redone v entries s = payloads_redone v (length entries) entries s

-- A call applied this, and left these bytes and this state.
abbrev pub Redoes : Result (Unit {0}) ℕ → List ℕ → NodeState → Redone → Type 0
Redoes (Ok done) rest s r = r ≡ (s, Ok rest)
Redoes (Err left) rest s r = r ≡ (s, Err left)

-- a row is started, and continues from that limit
abbrev pub GoesOn : ℕ → NetKey → Type 0
GoesOn limit r = (r.started ≡ true) × (r.limit ≡ limit) × (r.next ≡ limit)

-- all network rows continue from the declared start
abbrev pub HasOneLimit : NodeState → Type 0
HasOneLimit s = AllByRecursion (GoesOn s.declared) s.nets

-- the place of a fault: how many bytes come before it, at most 2^32 - 1
abbrev pub place_of : ℕ → ℕ → ℕ
place_of total left = min (total - left) greatest_count

-- the result of a call that applies the entries, of `total` bytes
abbrev pub redo_answer : ℕ → Result (List ℕ) ℕ → Result (Unit {0}) KeyError
redo_answer total (Ok rest) = Ok tt
redo_answer total (Err left) = Err (BadRecord (place_of total left))
