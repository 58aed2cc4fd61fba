-- The words for one of a few things: a role, a layer, a key identifier, an attribute, a state, a rollover, the place
-- of a refusal, an answer. A word is read if it is the text of one of them.
use Rattle.std.specs.Prelude.{◌≡◌, ℕ, List, [], ◌∷◌, codes, bytes_eq, Bool, true, false, if◌then◌else◌, Option, Some, None}
use Rattle.zb_base.specs.declared.label.Label.{Label}
use Rattle.zb_base.specs.declared.label.Label.TheVariants as label
use Rattle.zb_base.specs.declared.label.Layer.{Layer}
use Rattle.zb_base.specs.declared.label.Layer.TheVariants as layer
use Rattle.zb_base.specs.declared.node.Role.{Role}
use Rattle.zb_base.specs.declared.node.Role.TheVariants as role
use Rattle.zb_base.specs.declared.place.Place.{Place}
use Rattle.zb_base.specs.declared.place.Place.TheVariants as place
use Rattle.zb_base.specs.declared.state.Attribute.{Attribute}
use Rattle.zb_base.specs.declared.state.Attribute.TheVariants as attribute
use Rattle.zb_base.specs.declared.state.Rollover.{Rollover}
use Rattle.zb_base.specs.declared.state.Rollover.TheVariants as rollover
use Rattle.zb_base.specs.declared.state.State.{State}
use Rattle.zb_base.specs.declared.state.State.TheVariants as state
use Rattle.zb_text.specs.Pages.{IsWord}

-- The first of some values whose text is this word.
abbrev pub value_among : {X : Type 0} → (X → List ℕ) → List X → List ℕ → Option X
value_among text [] word = None
value_among text (x ∷ more) word = if bytes_eq word (text x) then Some x else value_among text more word

-- ---- the text of each

abbrev pub role_text : Role → List ℕ
role_text role.Centre = codes "centre"
role_text role.Router = codes "router"
role_text role.Device = codes "device"

abbrev pub layer_text : Layer → List ℕ
layer_text layer.Nwk = codes "nwk"
layer_text layer.Aps = codes "aps"

-- The key identifiers of an auxiliary header (05-3474-21, 4.5.1.1.2).
abbrev pub label_text : Label → List ℕ
label_text label.Data = codes "data"
label_text label.Network = codes "network"
label_text label.Transport = codes "transport"
label_text label.Load = codes "load"

abbrev pub attribute_text : Attribute → List ℕ
attribute_text attribute.Provisional = codes "provisional"
attribute_text attribute.Unverified = codes "unverified"
attribute_text attribute.Verified = codes "verified"

abbrev pub state_text : State → List ℕ
state_text state.Fresh = codes "fresh"
state_text state.Knocked = codes "knocked"
state_text state.Joined = codes "joined"
state_text state.Offered = codes "offered"
state_text state.Confirmed = codes "confirmed"
state_text state.Rejoining = codes "rejoining"
state_text state.Gone = codes "gone"

abbrev pub rollover_text : Rollover → List ℕ
rollover_text rollover.Sending = codes "sending"
rollover_text rollover.Idle = codes "idle"

abbrev pub place_text : Place → List ℕ
place_text place.Nwk = codes "nwk"
place_text place.Aps = codes "aps"
place_text place.Event = codes "event"

abbrev pub answer_text : Bool → List ℕ
answer_text true = codes "yes"
answer_text false = codes "no"

-- ---- all values of each, in the order in which they are tried

abbrev pub roles : List Role
roles = role.Centre ∷ role.Router ∷ role.Device ∷ []

abbrev pub layers : List Layer
layers = layer.Nwk ∷ layer.Aps ∷ []

abbrev pub labels : List Label
labels = label.Data ∷ label.Network ∷ label.Transport ∷ label.Load ∷ []

abbrev pub attributes : List Attribute
attributes = attribute.Provisional ∷ attribute.Unverified ∷ attribute.Verified ∷ []

abbrev pub states : List State
states = state.Fresh ∷ state.Knocked ∷ state.Joined ∷ state.Offered ∷ state.Confirmed ∷ state.Rejoining ∷ state.Gone
    ∷ []

abbrev pub rollovers : List Rollover
rollovers = rollover.Sending ∷ rollover.Idle ∷ []

abbrev pub places : List Place
places = place.Nwk ∷ place.Aps ∷ place.Event ∷ []

abbrev pub answers : List Bool
answers = true ∷ false ∷ []

-- ---- what a word is

abbrev pub role_of : List ℕ → Option Role
role_of word = value_among role_text roles word

abbrev pub layer_of : List ℕ → Option Layer
layer_of word = value_among layer_text layers word

abbrev pub label_of : List ℕ → Option Label
label_of word = value_among label_text labels word

abbrev pub attribute_of : List ℕ → Option Attribute
attribute_of word = value_among attribute_text attributes word

abbrev pub state_of : List ℕ → Option State
state_of word = value_among state_text states word

abbrev pub rollover_of : List ℕ → Option Rollover
rollover_of word = value_among rollover_text rollovers word

abbrev pub place_of : List ℕ → Option Place
place_of word = value_among place_text places word

abbrev pub answer_of : List ℕ → Option Bool
answer_of word = value_among answer_text answers word

-- ---- both directions

-- Each value's text is a word that reads back as the value, and a word that reads as a value is its text.
pub record IsBothWays {X : Type 0} (text : X → List ℕ) (reading : List ℕ → Option X) : Type 0 where
  pub word : (x : X) → IsWord (text x)
  pub reads : (x : X) → reading (text x) ≡ Some x
  pub printed : (word : List ℕ) (x : X) → reading word ≡ Some x → word ≡ text x
