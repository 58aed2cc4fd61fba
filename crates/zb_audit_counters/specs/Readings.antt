-- What the lines of a transcript say about counters, whoever wrote it. The last line about a thing decides, and a
-- node is its name.
use Rattle.std.specs.Prelude.{ℕ, ◌+◌, Bool, true, false, if◌then◌else◌, ◌&&◌, List, [], ◌∷◌, ◌++◌, fold, nat_eq, bytes_eq, Option, Some, None, unwrap_or}
use Rattle.std.specs.List.{list_any}
use Rattle.std.specs.Option.{option_or}
use Rattle.zb_base.specs.declared.label.Layer.{Layer}
use Rattle.zb_base.specs.declared.label.Layer.TheVariants.{Nwk, Aps}
use Rattle.zb_audit_names.specs.Groups.{flat}
use Rattle.zb_model.specs.Data.{Bytes}
use Rattle.zb_seal.specs.declared.term.Term.{Term}
use Rattle.zb_trace.specs.declared.line.Line.{Line}
use Rattle.zb_trace.specs.declared.line.Line.TheVariants as line

-- What the last line about a thing says.
unfoldable pub last : {A : Type 0} → (Line → Option A) → List Line → Option A
last {A = A} speaks h = fold (λ (found : Option A) (l : Line). option_or (speaks l) found) None h

abbrev pub same_layer : Layer → Layer → Bool
same_layer Nwk Nwk = true
same_layer Aps Aps = true
same_layer _ _ = false

-- Whether there is a key, and it is this one.
abbrev pub is_key : Option Bytes → Bytes → Bool
is_key None key = false
is_key (Some other) key = bytes_eq other key

-- The active network key of a node: that of its last `active` line, else of its last `given` line.

abbrev pub active_in : Bytes → Line → Option Bytes
active_in n (line.Active e m key) = if bytes_eq m.bytes n then Some key.0 else None
active_in n _ = None

abbrev pub given_in : Bytes → Line → Option Bytes
given_in n (line.GivenNet m key sequence) = if bytes_eq m.bytes n then Some key.0 else None
given_in n _ = None

unfoldable pub active : List Line → Bytes → Option Bytes
active h n = option_or (last (active_in n) h) (last (given_in n) h)

-- A network key of a node has started from its `given` line or its first `start` line on.

abbrev pub starts_key : Bytes → Bytes → Line → Bool
starts_key n key (line.GivenNet m k sequence) = bytes_eq m.bytes n && bytes_eq k.0 key
starts_key n key (line.Start e m k value) = bytes_eq m.bytes n && bytes_eq k.0 key
starts_key n key _ = false

unfoldable pub has_started : List Line → Bytes → Bytes → Bool
has_started h n key = list_any (starts_key n key) h

-- The counter of a layer that was declared for the start: 0 without a `counter` line.

abbrev pub counter_in : Bytes → Layer → Line → Option ℕ
counter_in n l (line.Counter m layer value) = if bytes_eq m.bytes n && same_layer layer l then Some value else None
counter_in n l _ = None

unfoldable pub declared : List Line → Bytes → Layer → ℕ
declared h n l = unwrap_or (last (counter_in n l) h) 0

-- The stored limit of a layer. `before` are the groups so far. It is that of the last `reserve` line, else the
-- declared counter.
--
-- At NWK each key has its own limit. It is set by the key's `start` line, and by those `reserve` lines of the layer
-- before whose group the key was active.

abbrev pub reserve_in : Bytes → Layer → Line → Option ℕ
reserve_in n l (line.Reserve e m layer value) = if bytes_eq m.bytes n && same_layer layer l then Some value else None
reserve_in n l _ = None

-- What a line says about the limit of a key. `was` says whether the key was active before the line's group.
abbrev pub limit_in : Bytes → Bytes → Bool → Line → Option ℕ
limit_in n key was (line.Start e m k value) = if bytes_eq m.bytes n && bytes_eq k.0 key then Some value else None
limit_in n key was (line.Reserve e m layer value) = if was && (bytes_eq m.bytes n && same_layer layer Nwk)
    then Some value else None
limit_in n key was _ = None

-- The limit of a key by groups that come after the lines `h`.
unfoldable pub limit_behind : List Line → Bytes → Bytes → List (List Line) → Option ℕ
limit_behind h n key [] = None
limit_behind h n key (group ∷ more) =
    option_or (limit_behind (h ++ group) n key more) (last (limit_in n key (is_key (active h n) key)) group)

unfoldable pub limit_under : List (List Line) → Bytes → Option Bytes → ℕ
limit_under before n None = declared (flat before) n Nwk
limit_under before n (Some key) = unwrap_or (limit_behind [] n key before) (declared (flat before) n Nwk)

unfoldable pub limit : List (List Line) → Bytes → Layer → ℕ
limit before n Nwk = limit_under before n (active (flat before) n)
limit before n Aps = unwrap_or (last (reserve_in n Aps) (flat before)) (declared (flat before) n Aps)

-- The next counter of a layer: one more than that of the node's last seal at the layer since its last boot, at NWK
-- under the active key. Without such a seal it is the stored limit.

abbrev pub boots : Bytes → Line → Bool
boots n (line.Boot e m) = bytes_eq m.bytes n
boots n _ = false

unfoldable pub since_boot : Bytes → List Line → List Line
since_boot n h = fold (λ run l. if boots n l then [] else run ++ l ∷ []) [] h

-- Whether a term is sealed at a layer, at NWK under this key.
abbrev pub is_sealed_at : Layer → Option Bytes → Term → Bool
is_sealed_at Nwk key t = same_layer t.layer Nwk && is_key key t.base.0
is_sealed_at Aps key t = same_layer t.layer Aps

-- The counter of a seal.
abbrev pub sealed_in : Bytes → Layer → Option Bytes → Line → Option ℕ
sealed_in n l key (line.Seal e m t) = if bytes_eq m.bytes n && is_sealed_at l key t then Some t.counter else None
sealed_in n l key _ = None

-- The counter after another, or the limit if there is none.
abbrev pub behind : ℕ → Option ℕ → ℕ
behind limit None = limit
behind limit (Some counter) = counter + 1

unfoldable pub next : List (List Line) → Bytes → Layer → ℕ
next before n l =
    behind (limit before n l) (last (sealed_in n l (active (flat before) n)) (since_boot n (flat before)))

-- The stored floor of a layer, a key and a sender: 0 without a `floor` line.

abbrev pub is_from : Layer → Bytes → ℕ → Layer → Bytes → ℕ → Bool
is_from l key sender layer base source = same_layer layer l && (bytes_eq base key && nat_eq source sender)

abbrev pub floor_in : Bytes → Layer → Bytes → ℕ → Line → Option ℕ
floor_in n l key sender (line.Floor e m layer k s value) = if bytes_eq m.bytes n && is_from l key sender layer k.0 s.0
    then Some value else None
floor_in n l key sender _ = None

unfoldable pub stored : List Line → Bytes → Layer → Bytes → ℕ → ℕ
stored h n l key sender = unwrap_or (last (floor_in n l key sender) h) 0
