-- Which lines of a transcript don't add up.
--
-- A line's group is the lines of the same event around it. `before` are the groups before it, `group` is the whole
-- group, and `prefix` its lines before the line.
use Rattle.std.specs.Prelude.{ℕ, ◌+◌, min, Bool, true, false, not, if◌then◌else◌, ◌&&◌, ◌||◌, List, [], ◌∷◌, ◌++◌, length, nat_eq, nat_lt, nat_le, flat_map, bytes_eq, Option, Some, None}
use Rattle.std.specs.List.{list_any, list_all}
use Rattle.std.specs.Option.{option_map, is_some}
use Rattle.zb_base.specs.declared.label.Layer.{Layer}
use Rattle.zb_base.specs.declared.label.Layer.TheVariants.{Nwk, Aps}
use Rattle.zb_audit_names.specs.Groups.{flat, groups}
use Rattle.zb_audit_names.specs.Naming.{declared_in, station_named}
use Rattle.zb_model.specs.Data.{Bytes, Station}
use Rattle.zb_audit_counters.specs.Readings.{active, floor_in, has_started, is_from, is_key, last, limit, next, reserve_in, same_layer, stored}
use Rattle.zb_seal.specs.declared.term.Term.{Term}
use Rattle.zb_trace.specs.declared.line.Line.{Line}
use Rattle.zb_trace.specs.declared.line.Line.TheVariants as line

-- The greatest counter and limit.
abbrev pub greatest : ℕ
greatest = 4294967295

-- The counter from which a key that becomes active starts again at 0.
abbrev pub half : ℕ
half = 2147483648

-- A limit or a floor: a block ahead, or the greatest counter.
abbrev pub ahead : ℕ → ℕ → ℕ
ahead counter block = min (counter + block) greatest

-- The blocks of a node, if a `0 node` line declares it.
abbrev pub out_block : List Line → Bytes → Option ℕ
out_block h n = option_map (λ (s : Station). s.out_block) (station_named (declared_in h) n)

abbrev pub in_block : List Line → Bytes → Option ℕ
in_block h n = option_map (λ (s : Station). s.in_block) (station_named (declared_in h) n)

-- Whether there is a block, and it passes.
abbrev pub block_passes : (ℕ → Bool) → Option ℕ → Bool
block_passes test None = false
block_passes test (Some block) = test block

-- Tests of the other lines of a group

-- Whether a line shows that a disk cut the event short.
abbrev pub cuts : Line → Bool
cuts (line.Stopped e m) = true
cuts (line.DownDisk e m) = true
cuts _ = false

abbrev pub seals_at : Bytes → Layer → Line → Bool
seals_at n l (line.Seal e m t) = bytes_eq m.bytes n && same_layer t.layer l
seals_at n l _ = false

abbrev pub activates : Bytes → Bytes → Line → Bool
activates n key (line.Active e m k) = bytes_eq m.bytes n && bytes_eq k.0 key
activates n key _ = false

abbrev pub starts : Bytes → Bytes → Line → Bool
starts n key (line.Start e m k value) = bytes_eq m.bytes n && bytes_eq k.0 key
starts n key _ = false

-- The counters of the frames of a sender that a group's lines accept.
abbrev pub accepted_in : Bytes → Layer → Bytes → ℕ → Line → List ℕ
accepted_in n l key sender (line.Accept e m t) =
    if bytes_eq m.bytes n && is_from l key sender t.layer t.base.0 t.source.0 then t.counter ∷ [] else []
accepted_in n l key sender _ = []

unfoldable pub accepted : List Line → Bytes → Layer → Bytes → ℕ → List ℕ
accepted group n l key sender = flat_map (accepted_in n l key sender) group

-- Seals: the counter is the next one, at NWK under the active key. If that has reached the limit, a reserve comes
-- before the seal.

abbrev pub is_under : Layer → Option Bytes → Bytes → Bool
is_under Nwk key base = is_key key base
is_under Aps key base = true

abbrev pub is_spent : List (List Line) → Bytes → Layer → Bool
is_spent before n l = nat_eq (next before n l) (limit before n l)

unfoldable pub seal_stands : List (List Line) → List Line → Bytes → Term → Bool
seal_stands before front n t =
    (nat_eq t.counter (next before n t.layer) && is_under t.layer (active (flat before) n) t.base.0)
    && (is_some (out_block (flat before ++ front) n)
    && (not (is_spent before n t.layer) || is_some (last (reserve_in n t.layer) front)))

-- Reserves: the limit is one outgoing block ahead, and the next counter has reached the old limit. The group has a
-- seal at the layer, or the event was cut short.

unfoldable pub reserve_stands : List (List Line) → List Line → List Line → Bytes → Layer → ℕ → Bool
reserve_stands before group front n l value =
    (block_passes (λ block. nat_eq value (ahead (next before n l) block)) (out_block (flat before ++ front) n)
    && is_spent before n l)
    && (list_any cuts group || list_any (seals_at n l) group)

-- Accepts: a counter at or above the stored floor requires a floor line.

unfoldable pub accept_stands : List (List Line) → List Line → Bytes → Term → Bool
accept_stands before group n t =
    nat_lt t.counter (stored (flat before) n t.layer t.base.0 t.source.0)
    || is_some (last (floor_in n t.layer t.base.0 t.source.0) group)

-- Floors: one incoming block ahead of each accepted counter, none of which is below the stored floor. If the event
-- was cut short, nothing is accepted, and the floor has to rise.

abbrev pub floor_fits : ℕ → ℕ → ℕ → ℕ → Bool
floor_fits floor value block counter = nat_le floor counter && nat_eq value (ahead counter block)

abbrev pub is_called_for : Bool → ℕ → ℕ → List ℕ → Bool
is_called_for true floor value counters = nat_lt floor value
is_called_for false floor value [] = false
is_called_for false floor value (counter ∷ more) = true

unfoldable pub floor_stands : List (List Line) → List Line → List Line → Bytes → Layer → Bytes → ℕ → ℕ → Bool
floor_stands before group front n l key sender value =
    block_passes
    (λ block. list_all (floor_fits (stored (flat before) n l key sender) value block)
    (accepted group n l key sender)) (in_block (flat before ++ front) n)
    && is_called_for (list_any cuts group) (stored (flat before) n l key sender) value (accepted group n l key sender)

-- Starts: a key starts when it first becomes active, at the next counter, or at 0 from half of the range on.

abbrev pub start_value : ℕ → ℕ
start_value counter = if nat_le half counter then 0 else counter

unfoldable pub start_stands : List (List Line) → List Line → List Line → Bytes → Bytes → ℕ → Bool
start_stands before group front n key value =
    (is_some (out_block (flat before ++ front) n)
    && (not (has_started (flat before) n key) && nat_eq value (start_value (next before n Nwk))))
    && list_any (activates n key) group

unfoldable pub active_stands : List (List Line) → List Line → Bytes → Bytes → Bool
active_stands before group n key = has_started (flat before) n key || list_any (starts n key) group

-- Whether a line adds up with those around it.
unfoldable pub is_counted : List (List Line) → List Line → List Line → Line → Bool
is_counted before group front (line.Seal e n t) = seal_stands before front n.bytes t
is_counted before group front (line.Reserve e n l value) = reserve_stands before group front n.bytes l value
is_counted before group front (line.Accept e n t) = accept_stands before group n.bytes t
is_counted before group front (line.Floor e n l key sender value) = floor_stands before group front n.bytes l key.0
    sender.0 value
is_counted before group front (line.Start e n key value) = start_stands before group front n.bytes key.0 value
is_counted before group front (line.Active e n key) = active_stands before group n.bytes key.0
is_counted before group front _ = true

-- The numbers of a group's lines that don't add up, from the line after `prefix` on, which has this number.
unfoldable pub uncounted_in : List (List Line) → List Line → List Line → ℕ → List Line → List ℕ
uncounted_in before group front number [] = []
uncounted_in before group front number (l ∷ ls) =
    (if is_counted before group front l then [] else number ∷ [])
    ++ uncounted_in before group (front ++ l ∷ []) (number + 1) ls

unfoldable pub uncounted_from : List (List Line) → ℕ → List (List Line) → List ℕ
uncounted_from before number [] = []
uncounted_from before number (group ∷ more) =
    uncounted_in before group [] number group ++ uncounted_from (before ++ group ∷ []) (number + length group) more

-- The numbers of all lines that don't add up, from 1, in order; and the first of them.
unfoldable pub uncounted : List Line → List ℕ
uncounted lines = uncounted_from [] 1 (groups lines)

abbrev pub first_of : List ℕ → Option ℕ
first_of [] = None
first_of (number ∷ more) = Some number

unfoldable pub first_uncounted : List Line → Option ℕ
first_uncounted lines = first_of (uncounted lines)
