-- The obstacles of an exchange of link keys, event by event, each with the refusal that it gives, in the order in
-- which they are checked.
use Rattle.std.specs.Prelude.{ℕ, Bool, true, false, Option, Some, None, nat_lt, is_none, find, reverse}
use Rattle.zb_model.specs.Data.{Bytes, Nwk, Reason, NoKey, CounterSpent, NoDraw, RowsFull, KeyInUse, Stale}
use Rattle.zb_model.specs.Judging.{senders_full}
use Rattle.zb_model.specs.Rules.{spent, both_spent, links_full, unless_held}
use Rattle.zb_model.specs.State.{NetKey, LinkKey, NodeState, is_live_of, current, other_user, sender_floor, usable_of}
use Rattle.law_recovery.specs.Exchanging.{Seals}

abbrev pub or_else : Option Reason → Option Reason → Option Reason
or_else None rest = rest
or_else (Some reason) rest = Some reason

abbrev pub obstacle_if : Bool → Reason → Option Reason
obstacle_if true reason = Some reason
obstacle_if false reason = None

-- a floor is above the counter
abbrev pub why_stale : ℕ → ℕ → Option Reason
why_stale counter floor = obstacle_if (nat_lt counter floor) (Stale floor)

-- Why a node refuses a sender's frame under a network key: its floor is above the counter, or it has floors of 64
-- others.
unfoldable pub why_not_heard : NetKey → ℕ → ℕ → Option Reason
why_not_heard row source counter =
    or_else (why_stale counter (sender_floor source row).kept) (obstacle_if (senders_full source counter row) RowsFull)

-- Why a node refuses a frame under a link key: its floor is above the counter.
unfoldable pub why_not_opened : LinkKey → ℕ → Option Reason
why_not_opened row counter = why_stale counter row.kept

-- Why nothing is sent: a counter is at its end. A frame that is sealed only at NWK needs one counter.
abbrev pub why_not_sealed : NodeState → Option Reason
why_not_sealed s = obstacle_if (both_spent s) CounterSpent

abbrev pub why_not_sealed_at_nwk : NodeState → Option Reason
why_not_sealed_at_nwk s = obstacle_if (spent Nwk s) CounterSpent

-- Why the centre offers no key: its link rows are full, no key is left to draw, or a counter is at its end.
abbrev pub why_not_offered : NodeState → Option Bytes → Option Reason
why_not_offered s draw =
    or_else (obstacle_if (links_full s) RowsFull)
    (or_else (obstacle_if (is_none (unless_held s draw)) NoDraw) (why_not_sealed s))

-- Why the device doesn't keep an offer: its link rows are full, or another partner has that key.
abbrev pub why_key_in_use : Option LinkKey → Option Reason
why_key_in_use None = None
why_key_in_use (Some other) = Some (KeyInUse other.partner)

abbrev pub why_not_kept : NodeState → ℕ → Bytes → Option Reason
why_not_kept t centre key = or_else (obstacle_if (links_full t) RowsFull) (why_key_in_use (other_user t centre key))

-- ---- event by event

-- of the row that is found; if there is none, the key is missing
abbrev pub in_row : {A : Type 0} → Option A → (A → Option Reason) → Option Reason
in_row None why = Some NoKey
in_row (Some row) why = why row

-- a NWK frame of a sender, under the network key of this sequence
abbrev pub why_unheard : NodeState → ℕ → Seals → Option Reason
why_unheard s source k = in_row (usable_of s k.sequence) (λ row. why_not_heard row source k.nwk)

-- The device's request; the centre's offer; how the device keeps it.
abbrev pub why_no_request : NodeState → Option Reason
why_no_request t = why_not_sealed t

unfoldable pub why_no_offer : NodeState → ℕ → Seals → Option Bytes → Option Reason
why_no_offer s device k draw =
    or_else (why_unheard s device k)
    (or_else (in_row (current s device) (λ row. why_not_opened row k.aps)) (why_not_offered s draw))

-- The centre repeats its offer of a key; nothing is drawn then.
unfoldable pub why_no_offer_again : NodeState → ℕ → Seals → Option Reason
why_no_offer_again s device k =
    or_else (why_unheard s device k)
    (or_else (in_row (current s device) (λ row. why_not_opened row k.aps)) (why_not_sealed s))

unfoldable pub why_offer_not_kept : NodeState → ℕ → Seals → Bytes → Option Reason
why_offer_not_kept t centre k key =
    or_else (why_unheard t centre k)
    (or_else (in_row (current t centre) (λ row. why_not_opened row k.aps)) (why_not_kept t centre key))

-- The device's proof; the centre's confirmation; how the device receives it. The device tries its last row of the
-- centre first.
abbrev pub why_no_proof : NodeState → Option Reason
why_no_proof t = why_not_sealed_at_nwk t

unfoldable pub why_no_confirmation : NodeState → ℕ → Seals → Option Reason
why_no_confirmation s device k = or_else (why_unheard s device k) (why_not_sealed s)

unfoldable pub why_not_confirmed : NodeState → ℕ → Seals → Option Reason
why_not_confirmed t centre k =
    or_else (why_unheard t centre k)
    (in_row (find (is_live_of centre) (reverse t.links)) (λ row. why_not_opened row k.aps))
