-- Roles, states, attributes and refusals of the model as the program's.
use Rattle.std.specs.Prelude.{Bool, true, false}
use Rattle.zb_base.specs.declared.node.Role.{Role}
use Rattle.zb_base.specs.declared.node.Role.TheVariants as role
use Rattle.zb_base.specs.declared.place.Place.{Place}
use Rattle.zb_base.specs.declared.place.Place.TheVariants as place
use Rattle.zb_base.specs.declared.state.Attribute.{Attribute}
use Rattle.zb_base.specs.declared.state.Attribute.TheVariants as attribute
use Rattle.zb_base.specs.declared.state.Rollover.{Rollover}
use Rattle.zb_base.specs.declared.state.Rollover.TheVariants as rollover
use Rattle.zb_base.specs.declared.state.State.{State}
use Rattle.zb_base.specs.declared.state.State.TheVariants as state
use Rattle.zb_model.specs.Data as model
use Rattle.zb_model_real.specs.Terms.{eui_of}
use Rattle.zb_node_types.specs.declared.refusal.Refusal.{Refusal}
use Rattle.zb_node_types.specs.declared.refusal.Refusal.TheVariants as refusal

abbrev pub role_for : model.Role → Role
role_for model.Centre = role.Centre
role_for model.Router = role.Router
role_for model.Device = role.Device

abbrev pub state_for : model.State → State
state_for model.Fresh = state.Fresh
state_for model.Knocked = state.Knocked
state_for model.Joined = state.Joined
state_for model.Offered = state.Offered
state_for model.Confirmed = state.Confirmed
state_for model.Rejoining = state.Rejoining
state_for model.Gone = state.Gone

abbrev pub attribute_for : model.Attribute → Attribute
attribute_for model.Provisional = attribute.Provisional
attribute_for model.Unverified = attribute.Unverified
attribute_for model.Verified = attribute.Verified

abbrev pub rollover_for : Bool → Rollover
rollover_for true = rollover.Sending
rollover_for false = rollover.Idle

abbrev pub place_for : model.Place → Place
place_for model.AtNwk = place.Nwk
place_for model.AtAps = place.Aps
place_for model.AtEvent = place.Event

-- where and why an event was refused
abbrev pub refusal_for : Place → model.Reason → Refusal
refusal_for at model.Down = refusal.Down at
refusal_for at model.Malformed = refusal.Malformed at
refusal_for at model.NotForMe = refusal.NotForMe at
refusal_for at model.Unsecured = refusal.Unsecured at
refusal_for at model.NoKey = refusal.NoKey at
refusal_for at model.CounterMax = refusal.CounterMax at
refusal_for at (model.Stale floor) = refusal.Stale at floor
refusal_for at model.BadMic = refusal.BadMic at
refusal_for at model.Policy = refusal.Policy at
refusal_for at model.NotMember = refusal.NotMember at
refusal_for at model.WrongState = refusal.WrongState at
refusal_for at (model.KeyOld row) = refusal.KeyOld at row
refusal_for at model.KeysFull = refusal.KeysFull at
refusal_for at model.RowsFull = refusal.RowsFull at
refusal_for at (model.KeyInUse partner) = refusal.KeyInUse at (eui_of partner)
refusal_for at model.NoDraw = refusal.NoDraw at
refusal_for at model.CounterSpent = refusal.CounterSpent at
refusal_for at model.WrongHash = refusal.WrongHash at
refusal_for at model.NoFrame = refusal.NoFrame at
