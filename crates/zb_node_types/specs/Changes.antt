-- Changes, states and refusals of the program as the model's.
use Rattle.std.specs.Prelude.{Bool, true, false, List, map}
use Rattle.zb_base.specs.declared.label.Layer.{Layer}
use Rattle.zb_base.specs.declared.label.Layer.TheVariants as layer
use Rattle.zb_base.specs.declared.node.Role.{Role}
use Rattle.zb_base.specs.declared.node.Role.TheVariants as role
use Rattle.zb_base.specs.declared.state.State.{State}
use Rattle.zb_base.specs.declared.state.State.TheVariants as state
use Rattle.zb_base.specs.declared.state.Attribute.{Attribute}
use Rattle.zb_base.specs.declared.state.Attribute.TheVariants as attribute
use Rattle.zb_base.specs.declared.state.Rollover.{Rollover}
use Rattle.zb_base.specs.declared.state.Rollover.TheVariants as rollover
use Rattle.zb_node_types.specs.declared.change.Change.{Change}
use Rattle.zb_node_types.specs.declared.change.Change.TheVariants as change
use Rattle.zb_base.specs.declared.place.Place.{Place}
use Rattle.zb_base.specs.declared.place.Place.TheVariants as place
use Rattle.zb_node_types.specs.declared.refusal.Refusal.{Refusal}
use Rattle.zb_node_types.specs.declared.refusal.Refusal.TheVariants as refusal
use Rattle.zb_model.specs.Data as model

abbrev pub model_layer : Layer → model.Layer
model_layer layer.Nwk = model.Nwk
model_layer layer.Aps = model.Aps

abbrev pub model_role : Role → model.Role
model_role role.Centre = model.Centre
model_role role.Router = model.Router
model_role role.Device = model.Device

abbrev pub model_state : State → model.State
model_state state.Fresh = model.Fresh
model_state state.Knocked = model.Knocked
model_state state.Joined = model.Joined
model_state state.Offered = model.Offered
model_state state.Confirmed = model.Confirmed
model_state state.Rejoining = model.Rejoining
model_state state.Gone = model.Gone

abbrev pub model_attribute : Attribute → model.Attribute
model_attribute attribute.Provisional = model.Provisional
model_attribute attribute.Unverified = model.Unverified
model_attribute attribute.Verified = model.Verified

abbrev pub is_sending : Rollover → Bool
is_sending rollover.Idle = false
is_sending rollover.Sending = true

abbrev pub edit : Change → model.Edit
edit (change.Reserve l limit) = model.Reserve (model_layer l) limit
edit (change.Floor l key sender value) = model.Floor (model_layer l) key.0 sender.0 value
edit (change.Draw key) = model.Moved (model.Draw key.0)
edit (change.DropNet key) = model.Moved (model.DropNet key.0)
edit (change.DropLink partner key) = model.Moved (model.DropLink partner.0 key.0)
edit (change.Install key sequence) = model.Moved (model.Install key.0 sequence)
edit (change.Active key) = model.Moved (model.Active key.0)
edit (change.Start key value) = model.Start key.0 value
edit (change.Row partner key a) = model.Moved (model.Row partner.0 key.0 (model_attribute a))
edit (change.Pair first second key) = model.Moved (model.Pair first.0 second.0 key.0)
edit (change.State s) = model.Moved (model.Became (model_state s))
edit (change.Live device) = model.Moved (model.Live device.0)
edit (change.Removed device) = model.Moved (model.Removed device.0)
edit (change.Roll r) = model.Moved (model.Roll (is_sending r))
edit (change.Told device) = model.Moved (model.Told device.0)
edit (change.Untold device) = model.Moved (model.Untold device.0)

abbrev pub edits : List Change → List model.Edit
edits changes = map edit changes

abbrev pub model_place : Place → model.Place
model_place place.Nwk = model.AtNwk
model_place place.Aps = model.AtAps
model_place place.Event = model.AtEvent

-- the reason of a refusal, apart from its place
abbrev pub reason : Refusal → model.Reason
reason (refusal.Down at) = model.Down
reason (refusal.Malformed at) = model.Malformed
reason (refusal.NotForMe at) = model.NotForMe
reason (refusal.Unsecured at) = model.Unsecured
reason (refusal.NoKey at) = model.NoKey
reason (refusal.CounterMax at) = model.CounterMax
reason (refusal.Stale at floor) = model.Stale floor
reason (refusal.BadMic at) = model.BadMic
reason (refusal.Policy at) = model.Policy
reason (refusal.NotMember at) = model.NotMember
reason (refusal.WrongState at) = model.WrongState
reason (refusal.KeyOld at row) = model.KeyOld row
reason (refusal.KeysFull at) = model.KeysFull
reason (refusal.RowsFull at) = model.RowsFull
reason (refusal.KeyInUse at partner) = model.KeyInUse partner.0
reason (refusal.NoDraw at) = model.NoDraw
reason (refusal.CounterSpent at) = model.CounterSpent
reason (refusal.WrongHash at) = model.WrongHash
reason (refusal.NoFrame at) = model.NoFrame

-- where an event is refused
abbrev pub place_of : Refusal → Place
place_of (refusal.Down at) = at
place_of (refusal.Malformed at) = at
place_of (refusal.NotForMe at) = at
place_of (refusal.Unsecured at) = at
place_of (refusal.NoKey at) = at
place_of (refusal.CounterMax at) = at
place_of (refusal.Stale at floor) = at
place_of (refusal.BadMic at) = at
place_of (refusal.Policy at) = at
place_of (refusal.NotMember at) = at
place_of (refusal.WrongState at) = at
place_of (refusal.KeyOld at row) = at
place_of (refusal.KeysFull at) = at
place_of (refusal.RowsFull at) = at
place_of (refusal.KeyInUse at partner) = at
place_of (refusal.NoDraw at) = at
place_of (refusal.CounterSpent at) = at
place_of (refusal.WrongHash at) = at
place_of (refusal.NoFrame at) = at
