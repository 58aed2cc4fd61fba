-- What the words of a line are, by its kind.
use Rattle.std.specs.Prelude.{ℕ, ◌==◌, List, [], ◌∷◌, codes, bytes_eq, if◌then◌else◌, Option, None}
use Rattle.std.specs.Option.{option_map, option_and_then}
use Rattle.zb_text.specs.Fields.{name_of}
use Rattle.zb_text.specs.Numbers.{number_of}
use Rattle.zb_text.specs.Words.{first_of, field}
use Rattle.zb_trace.specs.Text.{Word, Fixed, roles, attributes, states, rollovers, answers, begun, begun_of}
use Rattle.zb_trace_read.specs.Grammar.{OneOf, ANameOrDash, AnAddress, AShort, AKey, SomeBytes, AllBytes, a_count, a_sequence, a_layer, a_term, shaped, two_forms, a_refusal}
use Rattle.zb_base.specs.Limits.{longest_frame, greatest_count}

-- After the name of a node, at the start.
unfoldable pub of_start : List ℕ → List ℕ → List (List ℕ) → Option (List Word)
of_start kind node words =
    if bytes_eq kind (codes "node")
    then option_map (begun_of 0 (codes "node") node)
    (shaped (OneOf roles ∷ AnAddress ∷ AShort ∷ a_count ∷ a_count ∷ []) words)
    else if bytes_eq kind (codes "given")
    then option_map (begun_of 0 (codes "given") node)
    (two_forms (codes "net") (AKey ∷ a_sequence ∷ []) (codes "link") (AnAddress ∷ AKey ∷ []) words)
    else if bytes_eq kind (codes "counter")
    then option_map (begun_of 0 (codes "counter") node) (shaped (a_layer ∷ a_count ∷ []) words)
    else None

-- After the name of a node whose stable state changes.
unfoldable pub of_change : ℕ → List ℕ → List ℕ → List (List ℕ) → Option (List Word)
of_change event kind node words =
    if bytes_eq kind (codes "reserve")
    then option_map (begun_of event (codes "reserve") node) (shaped (a_layer ∷ a_count ∷ []) words)
    else if bytes_eq kind (codes "floor")
    then option_map (begun_of event (codes "floor") node)
    (shaped (a_layer ∷ AKey ∷ AnAddress ∷ a_count ∷ []) words)
    else if bytes_eq kind (codes "drop")
    then option_map (begun_of event (codes "drop") node)
    (two_forms (codes "net") (AKey ∷ []) (codes "link") (AnAddress ∷ AKey ∷ []) words)
    else if bytes_eq kind (codes "install")
    then option_map (begun_of event (codes "install") node) (shaped (AKey ∷ a_sequence ∷ []) words)
    else if bytes_eq kind (codes "active")
    then option_map (begun_of event (codes "active") node) (shaped (AKey ∷ []) words)
    else if bytes_eq kind (codes "start")
    then option_map (begun_of event (codes "start") node) (shaped (AKey ∷ a_count ∷ []) words)
    else if bytes_eq kind (codes "row")
    then option_map (begun_of event (codes "row") node) (shaped (AnAddress ∷ AKey ∷ OneOf attributes ∷ []) words)
    else if bytes_eq kind (codes "pair")
    then option_map (begun_of event (codes "pair") node) (shaped (AnAddress ∷ AnAddress ∷ AKey ∷ []) words)
    else if bytes_eq kind (codes "state")
    then option_map (begun_of event (codes "state") node) (shaped (OneOf states ∷ []) words)
    else if bytes_eq kind (codes "roll")
    then option_map (begun_of event (codes "roll") node) (shaped (OneOf rollovers ∷ []) words)
    else if event == 0 then of_start kind node words
    else None

-- After the name of a node to which something happens.
unfoldable pub of_node : ℕ → List ℕ → List ℕ → List (List ℕ) → Option (List Word)
of_node event kind node words =
    if bytes_eq kind (codes "seal") then option_map (begun_of event (codes "seal") node) (shaped a_term words)
    else if bytes_eq kind (codes "accept") then option_map (begun_of event (codes "accept") node) (shaped a_term words)
    else if bytes_eq kind (codes "commit") then option_map (begun_of event (codes "commit") node) (shaped [] words)
    else if bytes_eq kind (codes "refuse") then option_map (begun_of event (codes "refuse") node) (a_refusal words)
    else if bytes_eq kind (codes "boot") then option_map (begun_of event (codes "boot") node) (shaped [] words)
    else if bytes_eq kind (codes "down")
    then option_map (begun_of event (codes "down") node) (two_forms (codes "reset") [] (codes "disk") [] words)
    else if bytes_eq kind (codes "stopped") then option_map (begun_of event (codes "stopped") node) (shaped [] words)
    else of_change event kind node words

-- Lines that show no node.
unfoldable pub of_nobody : ℕ → List ℕ → List (List ℕ) → Option (List Word)
of_nobody event kind words =
    if bytes_eq kind (codes "send")
    then option_map (begun event (codes "send")) (shaped (ANameOrDash ∷ a_count ∷ SomeBytes longest_frame ∷ []) words)
    else if bytes_eq kind (codes "forge") then option_map (begun event (codes "forge")) (shaped a_term words)
    else if bytes_eq kind (codes "inject")
    then option_map (begun event (codes "inject")) (shaped (a_count ∷ SomeBytes longest_frame ∷ []) words)
    else if bytes_eq kind (codes "draw") then option_map (begun event (codes "draw")) (shaped (AKey ∷ []) words)
    else if bytes_eq kind (codes "live") then option_map (begun event (codes "live")) (shaped (AnAddress ∷ []) words)
    else if bytes_eq kind (codes "removed")
    then option_map (begun event (codes "removed")) (shaped (AnAddress ∷ []) words)
    else if bytes_eq kind (codes "told") then option_map (begun event (codes "told")) (shaped (AnAddress ∷ []) words)
    else if bytes_eq kind (codes "untold")
    then option_map (begun event (codes "untold")) (shaped (AnAddress ∷ []) words)
    else option_and_then (λ (node : List ℕ × List (List ℕ)). of_node event kind node.0 node.1) (field name_of words)

-- The record of a node's disk, which may be longer than any other word.
abbrev pub of_dump : ℕ → List (List ℕ) → Option (List Word)
of_dump event words =
    option_and_then
    (λ (node : List ℕ × List (List ℕ)). option_map (begun_of event (codes "dump") node.0)
    (shaped (AllBytes ∷ []) node.1)) (field name_of words)

-- After the number of an event.
abbrev pub of_event : ℕ → List (List ℕ) → Option (List Word)
of_event event words =
    option_and_then (λ (kind : List ℕ × List (List ℕ)).
    if bytes_eq kind.0 (codes "dump") then of_dump event kind.1 else of_nobody event kind.0 kind.1)
    (first_of words)

abbrev pub of_end : List (List ℕ) → Option (List Word)
of_end words =
    option_map (λ behind. Fixed (codes "end") ∷ behind)
    (shaped (a_count ∷ a_count ∷ a_count ∷ a_count ∷ OneOf answers ∷ OneOf answers ∷ []) words)

-- What the words of a line are, if they are those of a line.
unfoldable pub read_words : List (List ℕ) → Option (List Word)
read_words words =
    option_and_then (λ (first : List ℕ × List (List ℕ)).
    if bytes_eq first.0 (codes "end") then of_end first.1
    else option_and_then (λ event. of_event event first.1) (number_of greatest_count first.0))
    (first_of words)
