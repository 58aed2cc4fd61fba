-- A change that is written is read back, whatever follows.
use Rattle.std.proofs.Common.{◌≡◌, ℕ, ◌^◌, true, List, [], ◌∷◌, ◌++◌, Ok, refl, ap, ◌∙◌, append_assoc}
use Rattle.std.specs.Int.{w32}
use Rattle.zb_base.specs.declared.label.Layer.{Layer}
use Rattle.zb_base.specs.declared.label.Layer.TheVariants as layer
use Rattle.zb_base.specs.declared.state.State.{State}
use Rattle.zb_base.specs.declared.state.State.TheVariants as state
use Rattle.zb_base.specs.declared.state.Attribute.{Attribute}
use Rattle.zb_base.specs.declared.state.Attribute.TheVariants as attribute
use Rattle.zb_base.specs.declared.state.Rollover.{Rollover}
use Rattle.zb_base.specs.declared.state.Rollover.TheVariants as rollover
use Rattle.zb_node_types.specs.declared.change.Change.{Change}
use Rattle.zb_node_types.specs.declared.change.Change.TheVariants as change
use Rattle.zb_node_types.specs.Changes.{edit, model_layer, model_attribute, model_state, is_sending}
use Rattle.zb_cursor.specs.Spelling.{number, eui, key}
use Rattle.zb_cursor.proofs.ReadAgain.{wide32, number_again, eui_again, key_again}
use Rattle.zb_model.specs.Record.{edit_bytes, is_stored, layer_byte, attribute_byte, state_byte, worth}
use Rattle.zb_record.specs.Fields.{layer_at, attribute_at, state_at, rollover_at}
use Rattle.zb_record.specs.Changes.{reserve_at, floor_at, drop_net_at, drop_link_at, install_at, active_at, row_at, became_at, roll_at, told_at, untold_at, live_at, removed_at, start_at, pair_at, later_of, fields_of, change_at}
use Rattle.zb_record.specs.Ranges.{InRange}

pub layer_again : {E : Type 0} (cut : E) (l : Layer) (rest : List ℕ)
    → layer_at cut (layer_byte (model_layer l) ∷ rest) ≡ Ok (l, rest)
unfolding layer_at
layer_again cut layer.Nwk rest = refl
layer_again cut layer.Aps rest = refl

pub attribute_again : {E : Type 0} (cut : E) (a : Attribute) (rest : List ℕ)
    → attribute_at cut (attribute_byte (model_attribute a) ∷ rest) ≡ Ok (a, rest)
unfolding attribute_at
attribute_again cut attribute.Provisional rest = refl
attribute_again cut attribute.Unverified rest = refl
attribute_again cut attribute.Verified rest = refl

pub state_again : {E : Type 0} (cut : E) (s : State) (rest : List ℕ)
    → state_at cut (state_byte (model_state s) ∷ rest) ≡ Ok (s, rest)
unfolding state_at
state_again cut state.Fresh rest = refl
state_again cut state.Knocked rest = refl
state_again cut state.Joined rest = refl
state_again cut state.Offered rest = refl
state_again cut state.Confirmed rest = refl
state_again cut state.Rejoining rest = refl
state_again cut state.Gone rest = refl

pub rollover_again : {E : Type 0} (cut : E) (r : Rollover) (rest : List ℕ)
    → rollover_at cut (worth 1 (is_sending r) ∷ rest) ≡ Ok (r, rest)
unfolding rollover_at
rollover_again cut rollover.Idle rest = refl
rollover_again cut rollover.Sending rest = refl

regroup2 : (a b r : List ℕ) → (a ++ b) ++ r ≡ a ++ (b ++ r)
regroup2 a b r = append_assoc a b r

regroup3 : (a b c r : List ℕ) → (a ++ (b ++ c)) ++ r ≡ a ++ (b ++ (c ++ r))
regroup3 a b c r = simp append_assoc

pub change_again : {E : Type 0} (cut : E) (c : Change) (rest : List ℕ) → InRange c → is_stored (edit c) ≡ true
    → change_at cut (edit_bytes (edit c) ++ rest) ≡ Ok (c, rest)
unfolding change_at fields_of later_of reserve_at floor_at drop_net_at drop_link_at install_at active_at row_at
    became_at roll_at told_at untold_at live_at removed_at start_at pair_at edit_bytes
change_again cut (change.Reserve l limit) rest fits is =
    rw (layer_again cut l (number w32 limit ++ rest), number_again cut w32 (2 ^ 32) wide32 limit rest fits) refl
change_again cut (change.Floor l k sender value) rest fits is =
    ap (λ (t : List ℕ). change_at cut (2 ∷ layer_byte (model_layer l) ∷ t))
    (regroup3 (key k) (eui sender) (number w32 value) rest)
    ∙ rw (
      layer_again cut l (key k ++ (eui sender ++ (number w32 value ++ rest))),
      key_again cut k (eui sender ++ (number w32 value ++ rest)) fits.0,
      eui_again cut sender (number w32 value ++ rest) fits.1,
      number_again cut w32 (2 ^ 32) wide32 value rest
          fits.2,
    ) refl
change_again cut (change.Draw k) rest fits is = absurd (cc)
change_again cut (change.DropNet k) rest fits is = rw (key_again cut k rest fits) refl
change_again cut (change.DropLink partner k) rest fits is =
    ap (λ (t : List ℕ). change_at cut (4 ∷ t)) (regroup2 (eui partner) (key k) rest) ∙ rw
    (eui_again cut partner (key k ++ rest) fits.0, key_again cut k rest fits.1) refl
change_again cut (change.Install k sequence) rest fits is =
    ap (λ (t : List ℕ). change_at cut (5 ∷ t)) (regroup2 (key k) (sequence ∷ []) rest) ∙ rw
    (key_again cut k (sequence ∷ rest) fits.0) refl
change_again cut (change.Active k) rest fits is = rw (key_again cut k rest fits) refl
change_again cut (change.Row partner k a) rest fits is =
    ap (λ (t : List ℕ). change_at cut (7 ∷ t))
    (regroup3 (eui partner) (key k) (attribute_byte (model_attribute a) ∷ []) rest)
    ∙ rw (
      eui_again cut partner (key k ++ (attribute_byte (model_attribute a) ∷ rest)) fits.0,
      key_again cut k (attribute_byte (model_attribute a) ∷ rest) fits.1,
      attribute_again cut a rest,
    ) refl
change_again cut (change.State s) rest fits is = rw (state_again cut s rest) refl
change_again cut (change.Roll r) rest fits is = rw (rollover_again cut r rest) refl
change_again cut (change.Told device) rest fits is = rw (eui_again cut device rest fits) refl
change_again cut (change.Untold device) rest fits is = rw (eui_again cut device rest fits) refl
change_again cut (change.Live device) rest fits is = rw (eui_again cut device rest fits) refl
change_again cut (change.Removed device) rest fits is = rw (eui_again cut device rest fits) refl
change_again cut (change.Start k value) rest fits is =
    ap (λ (t : List ℕ). change_at cut (14 ∷ t)) (regroup2 (key k) (number w32 value) rest) ∙ rw
    (key_again cut k (number w32 value ++ rest) fits.0, number_again cut w32 (2 ^ 32) wide32 value rest fits.1)
    refl
change_again cut (change.Pair first second k) rest fits is =
    ap (λ (t : List ℕ). change_at cut (15 ∷ t)) (regroup3 (eui first) (eui second) (key k) rest)
    ∙ rw (
      eui_again cut first (eui second ++ (key k ++ rest)) fits.0,
      eui_again cut second (key k ++ rest) fits.1,
      key_again cut k rest fits.2,
    ) refl
