-- Fields of one byte that represent one of a few values; any other byte is refused in the same way as a missing one.
use Rattle.std.specs.Prelude.{ℕ, List, [], ◌∷◌, Option, Some, None, Ok, Err, ◌==◌, if◌then◌else◌}
use Rattle.zb_base.specs.declared.label.Layer.{Layer}
use Rattle.zb_base.specs.declared.label.Layer.TheVariants as layer
use Rattle.zb_base.specs.declared.node.Role.{Role}
use Rattle.zb_base.specs.declared.node.Role.TheVariants as role
use Rattle.zb_record.specs.declared.version.Version.{Version}
use Rattle.zb_record.specs.declared.version.Version.TheVariants as version
use Rattle.zb_base.specs.declared.state.State.{State}
use Rattle.zb_base.specs.declared.state.State.TheVariants as state
use Rattle.zb_base.specs.declared.state.Attribute.{Attribute}
use Rattle.zb_base.specs.declared.state.Attribute.TheVariants as attribute
use Rattle.zb_base.specs.declared.state.Rollover.{Rollover}
use Rattle.zb_base.specs.declared.state.Rollover.TheVariants as rollover
use Rattle.zb_cursor.specs.Reading.{Reading, ◌>>=◌, byte_at}

-- a value, if there is one
abbrev pub chosen : {E A : Type 0} → Option A → Reading E A
chosen None cut bytes = Err cut
chosen (Some x) cut bytes = Ok (x, bytes)

abbrev pub layer_of : ℕ → Option Layer
layer_of b = if b == 0 then Some layer.Nwk else if b == 1 then Some layer.Aps else None

abbrev pub attribute_of : ℕ → Option Attribute
attribute_of b = if b == 0 then Some attribute.Provisional else if b == 1 then Some attribute.Unverified
    else if b == 2 then Some attribute.Verified else None

abbrev pub state_of : ℕ → Option State
state_of b =
    if b == 0 then Some state.Fresh
    else if b == 1 then Some state.Knocked
    else if b == 2 then Some state.Joined
    else if b == 3 then Some state.Offered
    else if b == 4 then Some state.Confirmed
    else if b == 5 then Some state.Rejoining
    else if b == 6 then Some state.Gone
    else None

abbrev pub rollover_of : ℕ → Option Rollover
rollover_of b = if b == 0 then Some rollover.Idle else if b == 1 then Some rollover.Sending else None

unfoldable pub layer_at : {E : Type 0} → Reading E Layer
layer_at = do
  b ← byte_at
  chosen (layer_of b)

unfoldable pub attribute_at : {E : Type 0} → Reading E Attribute
attribute_at = do
  b ← byte_at
  chosen (attribute_of b)

unfoldable pub state_at : {E : Type 0} → Reading E State
state_at = do
  b ← byte_at
  chosen (state_of b)

unfoldable pub rollover_at : {E : Type 0} → Reading E Rollover
rollover_at = do
  b ← byte_at
  chosen (rollover_of b)

abbrev pub role_of : ℕ → Option Role
role_of b = if b == 0 then Some role.Centre else if b == 1 then Some role.Router else if b == 2 then Some role.Device
    else None

unfoldable pub role_at : {E : Type 0} → Reading E Role
role_at = do
  b ← byte_at
  chosen (role_of b)

abbrev pub version_of : ℕ → Option Version
version_of b = if b == 1 then Some version.First else if b == 2 then Some version.Second
    else if b == 3 then Some version.Third else None

-- the version of a record, given by its first byte
abbrev pub record_version : List ℕ → Option Version
record_version [] = None
record_version (b ∷ bytes) = version_of b

unfoldable pub version_at : {E : Type 0} → Reading E Version
version_at = do
  b ← byte_at
  chosen (version_of b)
