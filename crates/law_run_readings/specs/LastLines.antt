-- What lines say of a node by themselves: the last line about each thing decides.
use Rattle.std.specs.Prelude.{ℕ, ◌+◌, Bool, true, if◌then◌else◌, ◌&&◌, List, [], ◌∷◌, ◌++◌, fold, Option, Some, None, nat_eq, flat_map, unwrap_or}
use Rattle.std.specs.Option.{option_or}
use Rattle.zb_model.specs.Data.{Bytes, Layer, Nwk, Aps, Term, Active, Reserve, Floor, Start, Moved}
use Rattle.zb_model.specs.Lines.{Line, GivenNet, Counter, Changed, Accept, Seal, Boot}
use Rattle.zb_model.specs.State.{same_key, same_layer, is_active_key}
use Rattle.zb_model.specs.Readings.{speaker}

-- what a node's own lines say; the last one decides
abbrev pub said_by : {A : Type 0} → ℕ → (Line → Option A) → Line → Option A
said_by n says l = if nat_eq (speaker l) n then says l else None

unfoldable pub last_said : {A : Type 0} → ℕ → (Line → Option A) → List Line → Option A
last_said n says h = fold (λ found l. option_or (said_by n says l) found) None h

-- the active network key: that of the last `active` line, or else of the last `given` line
abbrev pub given_in : Line → Option Bytes
given_in (GivenNet n key sequence) = Some key
given_in _ = None

abbrev pub active_in : Line → Option Bytes
active_in (Changed e n (Moved (Active key))) = Some key
active_in _ = None

unfoldable pub active : List Line → ℕ → Option Bytes
active h n = option_or (last_said n active_in h) (last_said n given_in h)

-- the outgoing limit that is declared at the start
abbrev pub counter_in : Layer → Line → Option ℕ
counter_in layer (Counter n l limit) = if same_layer l layer then Some limit else None
counter_in layer _ = None

unfoldable pub declared : List Line → ℕ → Layer → ℕ
declared h n layer = unwrap_or (last_said n (counter_in layer) h) 0

-- The stored outgoing limit. At APS it is that of the last `reserve` line there. At NWK the limit of a network key is
-- that of its `start` line, or of the last `reserve` line that is for it. A `reserve` line is for the key that is
-- active before its group.
abbrev pub reserve_in : Layer → Line → Option ℕ
reserve_in layer (Changed e n (Reserve l limit)) = if same_layer l layer then Some limit else None
reserve_in layer _ = None

abbrev pub limit_in : Bytes → Bool → Line → Option ℕ
limit_in key was (Changed e n (Start k value)) = if same_key k key then Some value else None
limit_in key was (Changed e n (Reserve l limit)) = if was then reserve_in Nwk (Changed e n (Reserve l limit)) else None
limit_in key was _ = None

unfoldable pub limit_from : ℕ → Bytes → List Line → List (List Line) → Option ℕ
limit_from n key h [] = None
limit_from n key h (g ∷ gs) = option_or (limit_from n key (h ++ g) gs)
    (last_said n (limit_in key (is_active_key (active h n) key)) g)

-- the lines of groups
abbrev pub flat : List (List Line) → List Line
flat gs = flat_map (λ (g : List Line). g) gs

abbrev pub limit_of_key : List (List Line) → ℕ → Option Bytes → ℕ
limit_of_key before n None = declared (flat before) n Nwk
limit_of_key before n (Some key) = unwrap_or (limit_from n key [] before) (declared (flat before) n Nwk)

unfoldable pub limit : List (List Line) → ℕ → Layer → ℕ
limit before n Aps = unwrap_or (last_said n (reserve_in Aps) (flat before)) (declared (flat before) n Aps)
limit before n Nwk = limit_of_key before n (active (flat before) n)

-- The counter after the last one that was sealed since the last boot: at NWK under a network key, at APS under any
-- key.
abbrev pub is_under : Layer → Bytes → Bytes → Bool
is_under Nwk key base = same_key base key
is_under Aps key base = true

abbrev pub sealed_in : Layer → Bytes → Option ℕ → Line → Option ℕ
sealed_in layer key found (Boot e n) = None
sealed_in layer key found (Seal e n t) = if same_layer t.layer layer && is_under layer key t.base
    then Some (t.counter + 1) else found
sealed_in layer key found _ = found

unfoldable pub sealed_since : ℕ → Layer → Bytes → List Line → Option ℕ
sealed_since n layer key h = fold (λ found l. if nat_eq (speaker l) n then sealed_in layer key found l else found)
    None h

-- The next counter: after the last one that was sealed since the last boot, or otherwise the stored limit.
abbrev pub sealed_of_key : List (List Line) → ℕ → Option Bytes → Option ℕ
sealed_of_key before n None = None
sealed_of_key before n (Some key) = sealed_since n Nwk key (flat before)

unfoldable pub next : List (List Line) → ℕ → Layer → ℕ
next before n Aps = unwrap_or (sealed_since n Aps [] (flat before)) (limit before n Aps)
next before n Nwk = unwrap_or (sealed_of_key before n (active (flat before) n)) (limit before n Nwk)

-- the stored floor of a sender under a base key: that of the last `floor` line
abbrev pub floor_in : Layer → Bytes → ℕ → Line → Option ℕ
floor_in layer key sender (Changed e n (Floor l k from value)) = if same_layer l layer
    && (same_key k key && nat_eq from sender) then Some value else None
floor_in layer key sender _ = None

unfoldable pub stored : List Line → ℕ → Layer → Bytes → ℕ → ℕ
stored h n layer key sender = unwrap_or (last_said n (floor_in layer key sender) h) 0

-- The floor in memory of a sender under a base key: after the last counter of the sender that was accepted since the
-- last boot, or otherwise the stored floor.
abbrev pub is_from : Layer → Bytes → ℕ → Term → Bool
is_from layer key sender t = same_layer t.layer layer && (same_key t.base key && nat_eq t.source sender)

abbrev pub accepted_in : Layer → Bytes → ℕ → Option ℕ → Line → Option ℕ
accepted_in layer key sender found (Boot e n) = None
accepted_in layer key sender found (Accept e n t) = if is_from layer key sender t then Some (t.counter + 1) else found
accepted_in layer key sender found _ = found

unfoldable pub accepted_since : ℕ → Layer → Bytes → ℕ → List Line → Option ℕ
accepted_since n layer key sender h = fold
    (λ found l. if nat_eq (speaker l) n then accepted_in layer key sender found l else found) None h

unfoldable pub kept : List Line → ℕ → Layer → Bytes → ℕ → ℕ
kept h n layer key sender = unwrap_or (accepted_since n layer key sender h) (stored h n layer key sender)
