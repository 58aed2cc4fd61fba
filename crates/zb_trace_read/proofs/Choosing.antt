-- A word that is one of a few things, as the word of a line that it is.
use Rattle.std.proofs.Common.{◌≡◌, ℕ, List, [], ◌∷◌, Bool, true, false, Option, Some, None, refl, ap, map, bytes_eq}
use Rattle.std.specs.Prelude.{if◌then◌else◌}
use Rattle.std.specs.Option.{option_map}
use Rattle.zb_text.specs.Choices as choices
use Rattle.zb_text.specs.Choices.{value_among, role_of, role_text, layer_of, layer_text, label_of, label_text, attribute_of, attribute_text, state_of, state_text, rollover_of, rollover_text, place_of, place_text, answer_of, answer_text}
use Rattle.zb_text.specs.Words.{field}
use Rattle.zb_trace.specs.Text.{Word, Chosen, roles, layers, labels, attributes, states, rollovers, places, answers}
use Rattle.zb_trace_read.specs.Grammar.{OneOf, choice, value_of}

abbrev chosen : {X : Type 0} → List (List ℕ) → (X → List ℕ) → Option X → Option Word
chosen among text o = option_map (λ x. Chosen among (text x)) o

by_test : {X : Type 0} (among : List (List ℕ)) (text : X → List ℕ) (x : X) (rest : Option X) (other : Option Word)
    (same : Bool)
    → other ≡ chosen among text rest → (if same then Some (Chosen among (text x)) else other)
    ≡ chosen among text (if same then Some x else rest)
by_test among text x rest other true e = refl
by_test among text x rest other false e = e

choice_of : {X : Type 0} (among : List (List ℕ)) (text : X → List ℕ) (values : List X) (word : List ℕ)
    → choice among (map text values) word ≡ chosen among text (value_among text values word)
choice_of among text [] word = refl
choice_of among text (x ∷ more) word =
    by_test among text x (value_among text more word) (choice among (map text more) word) (bytes_eq word (text x))
    (choice_of among text more word)

abbrev with_rest : {X : Type 0} → List (List ℕ) → (X → List ℕ) → X × List (List ℕ) → Word × List (List ℕ)
with_rest among text taken = (Chosen among (text taken.0), taken.1)

behind : {X : Type 0} (among : List (List ℕ)) (text : X → List ℕ) (more : List (List ℕ)) (o : Option X)
    → option_map (λ w. (w, more)) (chosen among text o)
    ≡ option_map (with_rest among text) (option_map (λ x. (x, more)) o)
behind among text more None = refl
behind among text more (Some x) = refl

field_of : {X : Type 0} (among : List (List ℕ)) (text : X → List ℕ) (values : List X) → among ≡ map text values
    → (ws : List (List ℕ))
    → field (value_of (OneOf among)) ws ≡ option_map (with_rest among text) (field (value_among text values) ws)
field_of among text values e [] = refl
field_of among text values e (word ∷ more) =
    rw (ap (λ (l : List (List ℕ)). choice among l word) e, choice_of among text values word)
    (behind among text more (value_among text values word))

pub role_field : (ws : List (List ℕ)) → field (value_of (OneOf roles)) ws
    ≡ option_map (λ t. (Chosen roles (role_text t.0), t.1)) (field role_of ws)
role_field ws = field_of roles role_text choices.roles refl ws

pub layer_field : (ws : List (List ℕ)) → field (value_of (OneOf layers)) ws
    ≡ option_map (λ t. (Chosen layers (layer_text t.0), t.1)) (field layer_of ws)
layer_field ws = field_of layers layer_text choices.layers refl ws

pub label_field : (ws : List (List ℕ)) → field (value_of (OneOf labels)) ws
    ≡ option_map (λ t. (Chosen labels (label_text t.0), t.1)) (field label_of ws)
label_field ws = field_of labels label_text choices.labels refl ws

pub attribute_field : (ws : List (List ℕ)) → field (value_of (OneOf attributes)) ws
    ≡ option_map (λ t. (Chosen attributes (attribute_text t.0), t.1)) (field attribute_of ws)
attribute_field ws = field_of attributes attribute_text choices.attributes refl ws

pub state_field : (ws : List (List ℕ)) → field (value_of (OneOf states)) ws
    ≡ option_map (λ t. (Chosen states (state_text t.0), t.1)) (field state_of ws)
state_field ws = field_of states state_text choices.states refl ws

pub rollover_field : (ws : List (List ℕ)) → field (value_of (OneOf rollovers)) ws
    ≡ option_map (λ t. (Chosen rollovers (rollover_text t.0), t.1)) (field rollover_of ws)
rollover_field ws = field_of rollovers rollover_text choices.rollovers refl ws

pub place_field : (ws : List (List ℕ)) → field (value_of (OneOf places)) ws
    ≡ option_map (λ t. (Chosen places (place_text t.0), t.1)) (field place_of ws)
place_field ws = field_of places place_text choices.places refl ws

pub answer_field : (ws : List (List ℕ)) → field (value_of (OneOf answers)) ws
    ≡ option_map (λ t. (Chosen answers (answer_text t.0), t.1)) (field answer_of ws)
answer_field ws = field_of answers answer_text choices.answers refl ws
