-- How a centre goes on from a backup: its counters skip the numbers that may have been used since.
use Rattle.std.specs.Prelude.{ℕ, ◌≡◌, ◌<◌, ◌+◌, ◌^◌, max, min, true, List, ◌∷◌, ◌++◌, length, map, if◌then◌else◌}
use Rattle.zb_model.specs.Data.{Nwk, Start}
use Rattle.zb_model.specs.State.{NetKey, NodeState, greatest_counter, stored_limit, after_boot}
use Rattle.zb_node_types.specs.Changes.{edit}
use Rattle.zb_node_types.specs.declared.change.Change.{Change}

-- A limit that is `by` higher, up to the greatest counter.
abbrev pub skipped_limit : ℕ → ℕ → ℕ
skipped_limit by limit = min (limit + by) greatest_counter

-- Where a network key counts from: its limit, or that of the active key where it was never active itself.
abbrev pub counted_from : ℕ → NetKey → ℕ
counted_from active r = if r.started then r.limit else active

abbrev pub skipped_net : ℕ → ℕ → NetKey → NetKey
skipped_net by active r = record r { started = true; limit = skipped_limit by (counted_from active r) }

-- The tables with which a centre goes on. The limit of APS and that of each network key, dropped ones too, are `by`
-- higher. A key that was never active counts from the limit of the active one, or from the declared start where none
-- is active. As after a boot, each counter is at its limit. The declared start stays.
unfoldable pub skipped : ℕ → NodeState → NodeState
skipped by s = after_boot (record s {
  aps_limit = skipped_limit by s.aps_limit;
  nets = map (skipped_net by (stored_limit Nwk s)) s.nets;
})

-- Row by row

-- The row of a network key whose counter skips `by` numbers: it goes on from its new limit.
abbrev pub raised : ℕ → ℕ → NetKey → NetKey
raised by active r = record (skipped_net by active r) { next = max r.next (skipped_limit by (counted_from active r)) }

-- The change of the row at a place of these, and that the row's limit is within its width.
abbrev pub StartsAt : ℕ → ℕ → ℕ → List NetKey → Change → Type 0
StartsAt by active place rows change = (before after : List NetKey) (r : NetKey) → rows ≡ before ++ r ∷ after
    → length before ≡ place
    → (edit change ≡ Start r.key (skipped_limit by (counted_from active r))) × (r.limit < 2 ^ 32)

-- The row at a place has skipped `by` numbers, and all else is as it was.
abbrev pub Raises : ℕ → ℕ → ℕ → NodeState → NodeState → Type 0
Raises by active place old new = (before after : List NetKey) (r : NetKey) → old.nets ≡ before ++ r ∷ after
    → length before ≡ place
    → new ≡ record old { nets = before ++ raised by active r ∷ after }
