-- Reading a command field by field, up to the first fault.
use Rattle.std.specs.Prelude.{◌≡◌, ◌≤◌, ℕ, List, ◌++◌, IfOk, length, take, drop, min, Result, Ok, Err, ◌==◌, if◌then◌else◌}
use Rattle.zb_cursor.specs.Reading.{Reading, Gives, follow, ◌>>=◌, give, refuse, byte_at, bytes_at, short_at, eui_at, key_at}
use Rattle.arrayvec.specs.ArrayVec.{ArrayVec}
use Rattle.zb_cmd.specs.declared.fault.CmdError.{CmdError}
use Rattle.zb_cmd.specs.declared.fault.CmdError.TheVariants.{Unknown, KeyType, Short, Trailing}
use Rattle.zb_cmd.specs.declared.command.Command.{Command}
use Rattle.zb_cmd.specs.declared.command.Command.TheVariants.{TransportNetwork, TransportApplication, TransportLink, Update, Remove, RequestApplication, RequestLink, Switch, Tunnel, Verify, Confirm}
use Rattle.zb_cmd.specs.declared.leave.Leave.{Leave}
use Rattle.zb_cmd.specs.Spelling.{command}
use Rattle.zb_cmd.specs.Shape.{is_inner, InRange, IsCommand, IsSmall}
use Rattle.zb_base.specs.Limits.{longest_tunnelled}

unfoldable pub network_at : Reading CmdError Command
network_at = do
  k ← key_at
  sequence ← byte_at
  destination ← eui_at
  source ← eui_at
  give (TransportNetwork k sequence destination source)

unfoldable pub application_at : Reading CmdError Command
application_at = do
  k ← key_at
  partner ← eui_at
  initiator ← byte_at
  give (TransportApplication k partner initiator)

unfoldable pub link_at : Reading CmdError Command
link_at = do
  k ← key_at
  destination ← eui_at
  source ← eui_at
  give (TransportLink k destination source)

-- the type byte of a key: network (1), application (3) or link (4)
unfoldable pub transport_of : ℕ → Reading CmdError Command
transport_of kind cut bytes =
    if kind == 1 then network_at cut bytes else if kind == 3 then application_at cut bytes
    else if kind == 4 then link_at cut bytes else refuse (KeyType kind) cut bytes

unfoldable pub transport_at : Reading CmdError Command
transport_at = do
  kind ← byte_at
  transport_of kind

unfoldable pub update_at : Reading CmdError Command
update_at = do
  device ← eui_at
  address ← short_at
  status ← byte_at
  give (Update device address status)

unfoldable pub remove_at : Reading CmdError Command
remove_at = do
  target ← eui_at
  give (Remove target)

unfoldable pub partner_at : Reading CmdError Command
partner_at = do
  partner ← eui_at
  give (RequestApplication partner)

-- the type byte of a requested key: application (2) or link (4)
unfoldable pub request_of : ℕ → Reading CmdError Command
request_of kind cut bytes = if kind == 2 then partner_at cut bytes else if kind == 4 then give RequestLink cut bytes
    else refuse (KeyType kind) cut bytes

unfoldable pub request_at : Reading CmdError Command
request_at = do
  kind ← byte_at
  request_of kind

unfoldable pub switch_at : Reading CmdError Command
switch_at = do
  sequence ← byte_at
  give (Switch sequence)

-- the frame in a Tunnel is all that remains, up to the 127th byte of the command
unfoldable pub inner_at : Reading CmdError (ArrayVec ℕ)
inner_at cut bytes = if is_inner (take (min (length bytes) longest_tunnelled) bytes)
    then Ok (
      record { items = take (min (length bytes) longest_tunnelled) bytes },
      drop (min (length bytes) longest_tunnelled) bytes,
    ) else Err cut

unfoldable pub tunnel_at : Reading CmdError Command
tunnel_at = do
  destination ← eui_at
  inner ← inner_at
  give (Tunnel destination inner)

unfoldable pub verify_at : Reading CmdError Command
verify_at = do
  kind ← byte_at
  source ← eui_at
  hash ← bytes_at 16
  give (Verify kind source hash)

unfoldable pub confirm_at : Reading CmdError Command
confirm_at = do
  status ← byte_at
  kind ← byte_at
  destination ← eui_at
  give (Confirm status kind destination)

-- the fields after the identifier
unfoldable pub body_of : ℕ → Reading CmdError Command
body_of id cut bytes =
    if id == 5 then transport_at cut bytes
    else if id == 6 then update_at cut bytes
    else if id == 7 then remove_at cut bytes
    else if id == 8 then request_at cut bytes
    else if id == 9 then switch_at cut bytes
    else if id == 14 then tunnel_at cut bytes
    else if id == 15 then verify_at cut bytes
    else if id == 16 then confirm_at cut bytes
    else refuse (Unknown id) cut bytes

unfoldable pub command_at : Reading CmdError Command
command_at = do
  id ← byte_at
  body_of id

-- What a reader of the fields after `prefix` returned, and what it left of the bytes: this is the result of the
-- reading, and a command that is returned has this spelling.
pub record IsRead (reading : Reading CmdError Command) (front : List ℕ) (cut : CmdError) (old new : List ℕ)
    (result : Result Command CmdError) : Type 0 where
  pub exact : Gives result new (reading cut old)
  pub spelled : IfOk result (λ c. front ++ old ≡ command c ++ new)
  pub shaped : IfOk result (λ c. IsCommand c)
  pub in_range : IfOk result (λ c. InRange c)
  pub small : IfOk result (λ c. IsSmall c)
  pub shorter : length new ≤ length old

-- all of the bytes
abbrev pub whole : {A : Type 0} → Result (A × List ℕ) CmdError → Result A CmdError
whole (Ok x) = if length x.1 == 0 then Ok x.0 else Err (Trailing (length x.1))
whole (Err e) = Err e

-- The command that takes all of the bytes, or their first fault.
unfoldable pub command_of : List ℕ → Result Command CmdError
command_of bytes = whole (command_at (Short (length bytes)) bytes)

unfoldable pub leave_body : ℕ → Reading CmdError Leave
leave_body id cut bytes = if id == 4
    then follow (byte_at cut bytes) (λ options rest. Ok (record { options = options }, rest))
    else refuse (Unknown id) cut bytes

unfoldable pub leave_at : Reading CmdError Leave
leave_at = do
  id ← byte_at
  leave_body id

unfoldable pub leave_of : List ℕ → Result Leave CmdError
leave_of bytes = whole (leave_at (Short (length bytes)) bytes)
