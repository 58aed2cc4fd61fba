-- What is chosen among a few things reads back as itself, and a word that reads as one of them is its text.
use Rattle.std.proofs.Common.{◌≡◌, ℕ, List, [], ◌∷◌, Bool, true, false, Option, Some, None, refl, ap, ◌∙◌, bytes_eq}
use Rattle.std.specs.Prelude.{if◌then◌else◌}
use Rattle.std.proofs.lemmas.Slice.Eq.{bytes_eq-Decides}
use Rattle.zb_base.specs.declared.node.Role.{Role}
use Rattle.zb_base.specs.declared.node.Role.TheVariants as role
use Rattle.zb_base.specs.declared.label.Layer.{Layer}
use Rattle.zb_base.specs.declared.label.Layer.TheVariants as layer
use Rattle.zb_base.specs.declared.label.Label.{Label}
use Rattle.zb_base.specs.declared.label.Label.TheVariants as label
use Rattle.zb_base.specs.declared.state.Attribute.{Attribute}
use Rattle.zb_base.specs.declared.state.Attribute.TheVariants as attribute
use Rattle.zb_base.specs.declared.state.State.{State}
use Rattle.zb_base.specs.declared.state.State.TheVariants as state
use Rattle.zb_base.specs.declared.state.Rollover.{Rollover}
use Rattle.zb_base.specs.declared.state.Rollover.TheVariants as rollover
use Rattle.zb_base.specs.declared.place.Place.{Place}
use Rattle.zb_base.specs.declared.place.Place.TheVariants as place
use Rattle.zb_text.specs.Choices.{value_among, IsBothWays, role_text, roles, role_of, layer_text, layers, layer_of, label_text, labels, label_of, attribute_text, attributes, attribute_of, state_text, states, state_of, rollover_text, rollovers, rollover_of, place_text, places, place_of, answer_text, answers, answer_of}
use Rattle.zb_text.specs.Pages.{IsWord}

abbrev value_or : {X : Type 0} → X → Option X → X
value_or x None = x
value_or x (Some y) = y

by_test : {X : Type 0} (text : X → List ℕ) (word : List ℕ) (x y : X) (rest : Option X) (same : Bool)
    → bytes_eq word (text y) ≡ same
    → (rest ≡ Some x → word ≡ text x) → (if same then Some y else rest) ≡ Some x → word ≡ text x
by_test text word x y rest true e behind h = (bytes_eq-Decides word (text y)).0 e ∙ ap (λ o. text (value_or y o)) h
by_test text word x y rest false e behind h = behind h

-- a word that reads as a value is its text
pub value_is_text : {X : Type 0} (text : X → List ℕ) (values : List X) (word : List ℕ) (x : X)
    → value_among text values word ≡ Some x → word ≡ text x
value_is_text text [] word x h = cc h
value_is_text text (y ∷ more) word x h =
    by_test text word x y (value_among text more word) (bytes_eq word (text y)) refl (value_is_text text more word x) h

pub role_again : (x : Role) → role_of (role_text x) ≡ Some x
role_again role.Centre = refl
role_again role.Router = refl
role_again role.Device = refl

pub role_words : (x : Role) → IsWord (role_text x)
role_words role.Centre = refl
role_words role.Router = refl
role_words role.Device = refl

pub role_both_ways : IsBothWays role_text role_of
role_both_ways = record { word = role_words; reads = role_again; printed = value_is_text role_text roles }

pub layer_again : (x : Layer) → layer_of (layer_text x) ≡ Some x
layer_again layer.Nwk = refl
layer_again layer.Aps = refl

pub layer_words : (x : Layer) → IsWord (layer_text x)
layer_words layer.Nwk = refl
layer_words layer.Aps = refl

pub layer_both_ways : IsBothWays layer_text layer_of
layer_both_ways = record { word = layer_words; reads = layer_again; printed = value_is_text layer_text layers }

pub label_again : (x : Label) → label_of (label_text x) ≡ Some x
label_again label.Data = refl
label_again label.Network = refl
label_again label.Transport = refl
label_again label.Load = refl

pub label_words : (x : Label) → IsWord (label_text x)
label_words label.Data = refl
label_words label.Network = refl
label_words label.Transport = refl
label_words label.Load = refl

pub label_both_ways : IsBothWays label_text label_of
label_both_ways = record { word = label_words; reads = label_again; printed = value_is_text label_text labels }

pub attribute_again : (x : Attribute) → attribute_of (attribute_text x) ≡ Some x
attribute_again attribute.Provisional = refl
attribute_again attribute.Unverified = refl
attribute_again attribute.Verified = refl

pub attribute_words : (x : Attribute) → IsWord (attribute_text x)
attribute_words attribute.Provisional = refl
attribute_words attribute.Unverified = refl
attribute_words attribute.Verified = refl

pub attribute_both_ways : IsBothWays attribute_text attribute_of
attribute_both_ways =
    record { word = attribute_words; reads = attribute_again; printed = value_is_text attribute_text attributes }

pub state_again : (x : State) → state_of (state_text x) ≡ Some x
state_again state.Fresh = refl
state_again _ = refl

pub state_words : (x : State) → IsWord (state_text x)
state_words state.Fresh = refl
state_words _ = refl

pub state_both_ways : IsBothWays state_text state_of
state_both_ways = record { word = state_words; reads = state_again; printed = value_is_text state_text states }

pub rollover_again : (x : Rollover) → rollover_of (rollover_text x) ≡ Some x
rollover_again rollover.Idle = refl
rollover_again rollover.Sending = refl

pub rollover_words : (x : Rollover) → IsWord (rollover_text x)
rollover_words rollover.Idle = refl
rollover_words rollover.Sending = refl

pub rollover_both_ways : IsBothWays rollover_text rollover_of
rollover_both_ways =
    record { word = rollover_words; reads = rollover_again; printed = value_is_text rollover_text rollovers }

pub place_again : (x : Place) → place_of (place_text x) ≡ Some x
place_again place.Nwk = refl
place_again place.Aps = refl
place_again place.Event = refl

pub place_words : (x : Place) → IsWord (place_text x)
place_words place.Nwk = refl
place_words place.Aps = refl
place_words place.Event = refl

pub place_both_ways : IsBothWays place_text place_of
place_both_ways = record { word = place_words; reads = place_again; printed = value_is_text place_text places }

pub answer_again : (x : Bool) → answer_of (answer_text x) ≡ Some x
answer_again true = refl
answer_again false = refl

pub answer_words : (x : Bool) → IsWord (answer_text x)
answer_words true = refl
answer_words false = refl

pub answer_both_ways : IsBothWays answer_text answer_of
answer_both_ways = record { word = answer_words; reads = answer_again; printed = value_is_text answer_text answers }
