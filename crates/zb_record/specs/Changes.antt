-- The changes of a journal entry, read from their bytes: a kind byte, and the fields of that kind. Each fault of a
-- change is reported in the same way as a change that isn't whole.
use Rattle.std.specs.Prelude.{ℕ, Err, ◌==◌, if◌then◌else◌}
use Rattle.std.specs.Int.{w32}
use Rattle.zb_node_types.specs.declared.change.Change.{Change}
use Rattle.zb_node_types.specs.declared.change.Change.TheVariants.{Reserve, Floor, DropNet, DropLink, Install, Active, Row, State, Roll, Told, Untold, Live, Removed, Start, Pair}
use Rattle.zb_cursor.specs.Reading.{Reading, ◌>>=◌, give, byte_at, number_at, eui_at, key_at}
use Rattle.zb_record.specs.Fields.{layer_at, attribute_at, state_at, rollover_at}

-- 01: a layer, and the limit up to which its counter is reserved
unfoldable pub reserve_at : {E : Type 0} → Reading E Change
reserve_at = do
  layer ← layer_at
  limit ← number_at w32
  give (Reserve layer limit)

-- 02: a layer, a key, and the floor of a sender
unfoldable pub floor_at : {E : Type 0} → Reading E Change
floor_at = do
  layer ← layer_at
  key ← key_at
  sender ← eui_at
  value ← number_at w32
  give (Floor layer key sender value)

-- 03: a network key
unfoldable pub drop_net_at : {E : Type 0} → Reading E Change
drop_net_at = do
  key ← key_at
  give (DropNet key)

-- 04: a partner and a link key
unfoldable pub drop_link_at : {E : Type 0} → Reading E Change
drop_link_at = do
  partner ← eui_at
  key ← key_at
  give (DropLink partner key)

-- 05: a network key and its sequence
unfoldable pub install_at : {E : Type 0} → Reading E Change
install_at = do
  key ← key_at
  sequence ← byte_at
  give (Install key sequence)

-- 06: a network key
unfoldable pub active_at : {E : Type 0} → Reading E Change
active_at = do
  key ← key_at
  give (Active key)

-- 07: a partner, a link key and its attribute
unfoldable pub row_at : {E : Type 0} → Reading E Change
row_at = do
  partner ← eui_at
  key ← key_at
  attribute ← attribute_at
  give (Row partner key attribute)

-- 08: a state
unfoldable pub became_at : {E : Type 0} → Reading E Change
became_at = do
  state ← state_at
  give (State state)

-- 09: a rollover
unfoldable pub roll_at : {E : Type 0} → Reading E Change
roll_at = do
  rollover ← rollover_at
  give (Roll rollover)

-- 0A, 0B, 0C, 0D: a device
unfoldable pub told_at : {E : Type 0} → Reading E Change
told_at = do
  device ← eui_at
  give (Told device)

unfoldable pub untold_at : {E : Type 0} → Reading E Change
untold_at = do
  device ← eui_at
  give (Untold device)

unfoldable pub live_at : {E : Type 0} → Reading E Change
live_at = do
  device ← eui_at
  give (Live device)

unfoldable pub removed_at : {E : Type 0} → Reading E Change
removed_at = do
  device ← eui_at
  give (Removed device)

-- 0E: a network key and its first counter
unfoldable pub start_at : {E : Type 0} → Reading E Change
start_at = do
  key ← key_at
  value ← number_at w32
  give (Start key value)

-- 0F: two devices and their key
unfoldable pub pair_at : {E : Type 0} → Reading E Change
pair_at = do
  first ← eui_at
  second ← eui_at
  key ← key_at
  give (Pair first second key)

-- kinds 08 to 0F
unfoldable pub later_of : {E : Type 0} → ℕ → Reading E Change
later_of kind cut bytes =
    if kind == 8 then became_at cut bytes
    else if kind == 9 then roll_at cut bytes
    else if kind == 10 then told_at cut bytes
    else if kind == 11 then untold_at cut bytes
    else if kind == 12 then live_at cut bytes
    else if kind == 13 then removed_at cut bytes
    else if kind == 14 then start_at cut bytes
    else if kind == 15 then pair_at cut bytes
    else Err cut

-- the fields of a kind
unfoldable pub fields_of : {E : Type 0} → ℕ → Reading E Change
fields_of kind cut bytes =
    if kind == 1 then reserve_at cut bytes
    else if kind == 2 then floor_at cut bytes
    else if kind == 3 then drop_net_at cut bytes
    else if kind == 4 then drop_link_at cut bytes
    else if kind == 5 then install_at cut bytes
    else if kind == 6 then active_at cut bytes
    else if kind == 7 then row_at cut bytes
    else later_of kind cut bytes

unfoldable pub change_at : {E : Type 0} → Reading E Change
change_at = do
  kind ← byte_at
  fields_of kind
