-- The one spelling of each command: the identifier, the type byte of a key if the command has one, and the fields
-- (05-3474-21, 4.4.10 for the commands of the APS and 3.4.4 for Leave).
use Rattle.std.specs.Prelude.{ℕ, List, [], ◌∷◌, ◌++◌}
use Rattle.zb_cursor.specs.Spelling.{byte, short, eui, key}
use Rattle.zb_cmd.specs.declared.command.Command.{Command}
use Rattle.zb_cmd.specs.declared.command.Command.TheVariants.{TransportNetwork, TransportApplication, TransportLink, Update, Remove, RequestApplication, RequestLink, Switch, Tunnel, Verify, Confirm}
use Rattle.zb_cmd.specs.declared.leave.Leave.{Leave}

abbrev pub command : Command → List ℕ
command (TransportNetwork k sequence destination source) = 5 ∷ 1
    ∷ (key k ++ byte sequence ++ eui destination ++ eui source)
command (TransportApplication k partner initiator) = 5 ∷ 3 ∷ (key k ++ eui partner ++ byte initiator)
command (TransportLink k destination source) = 5 ∷ 4 ∷ (key k ++ eui destination ++ eui source)
command (Update device address status) = 6 ∷ (eui device ++ short address ++ byte status)
command (Remove target) = 7 ∷ eui target
command (RequestApplication partner) = 8 ∷ 2 ∷ eui partner
command RequestLink = 8 ∷ 4 ∷ []
command (Switch sequence) = 9 ∷ byte sequence
command (Tunnel destination inner) = 14 ∷ (eui destination ++ inner.items)
command (Verify kind source hash) = 15 ∷ (byte kind ++ eui source ++ hash)
command (Confirm status kind destination) = 16 ∷ (byte status ++ byte kind ++ eui destination)

abbrev pub leave : Leave → List ℕ
leave l = 4 ∷ byte l.options
