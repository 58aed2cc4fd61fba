-- Frames and commands, read by this program's readers, as the model's tools show them.
use Rattle.std.specs.Prelude.{Option, Some, None, Result, Ok, Err}
use Rattle.std.specs.Option.{option_map}
use Rattle.zb_aps.specs.Shape.{key_id}
use Rattle.zb_aps.specs.declared.auxiliary.ApsAux.{ApsAux}
use Rattle.zb_aps.specs.declared.fault.ApsError.{ApsError}
use Rattle.zb_aps.specs.declared.frame.ApsFrame.{ApsFrame}
use Rattle.zb_base.specs.declared.address.Eui.{Eui}
use Rattle.zb_seal.specs.Carrying.{is_command}
use Rattle.zb_cmd.specs.declared.command.Command.{Command}
use Rattle.zb_cmd.specs.declared.command.Command.TheVariants as command
use Rattle.zb_cmd.specs.declared.fault.CmdError.{CmdError}
use Rattle.zb_cmd.specs.declared.fault.CmdError.TheVariants as fault
use Rattle.zb_cmd.specs.declared.leave.Leave as leaving
use Rattle.zb_model.specs.Data as model
use Rattle.zb_model.specs.Tools.{NwkShown, NwkAuxiliary, ApsShown, ApsAuxiliary, CommandShown, Known, Unknown, Broken, LeaveShown, Leave, Other, NoCommand}
use Rattle.zb_nwk.specs.declared.auxiliary.NwkAux.{NwkAux}
use Rattle.zb_nwk.specs.declared.fault.NwkError.{NwkError}
use Rattle.zb_nwk.specs.declared.frame.NwkFrame.{NwkFrame}
use Rattle.zb_seal.specs.Opening.{label_of}
use Rattle.zb_model_real.specs.Terms.{model_label}

abbrev pub model_command : Command → model.Command
model_command (command.TransportNetwork key sequence destination source) =
    model.TransportNet key.0 sequence destination.0 source.0
model_command (command.TransportApplication key partner initiator) = model.TransportApp key.0 partner.0 initiator
model_command (command.TransportLink key destination source) = model.TransportLink key.0 destination.0 source.0
model_command (command.Update device short status) = model.UpdateDevice device.0 short.0 status
model_command (command.Remove target) = model.RemoveDevice target.0
model_command (command.RequestApplication partner) = model.RequestApp partner.0
model_command command.RequestLink = model.RequestLink
model_command (command.Switch sequence) = model.SwitchKey sequence
model_command (command.Tunnel destination inner) = model.Tunnel destination.0 inner.items
model_command (command.Verify kind source hash) = model.VerifyKey kind source.0 hash
model_command (command.Confirm status kind destination) = model.ConfirmKey status kind destination.0

abbrev pub command_shown : Result Command CmdError → CommandShown
command_shown (Ok c) = Known (model_command c)
command_shown (Err (fault.Unknown id)) = Unknown
command_shown (Err (fault.KeyType found)) = Unknown
command_shown (Err _) = Broken

abbrev pub auxiliary : ApsAux → ApsAuxiliary
auxiliary aux =
    record {
      label = model_label (label_of (key_id aux.control));
      counter = aux.counter;
      source = option_map (λ (e : Eui). e.0) aux.source;
    }

abbrev pub aps_frame_shown : ApsFrame → ApsShown
aps_frame_shown f =
    record { is_command = is_command f.header.control; auxiliary = option_map auxiliary f.aux; body = f.body.items }

abbrev pub aps_shown : Result ApsFrame ApsError → Option ApsShown
aps_shown (Ok f) = Some (aps_frame_shown f)
aps_shown (Err e) = None

abbrev pub nwk_auxiliary : NwkAux → NwkAuxiliary
nwk_auxiliary aux = record { counter = aux.counter; source = aux.source.0; sequence = aux.key_sequence }

abbrev pub nwk_frame_shown : NwkFrame → NwkShown
nwk_frame_shown f = record {
  is_command = is_command f.header.control;
  destination = f.header.destination.0;
  source = f.header.source.0;
  auxiliary = option_map nwk_auxiliary f.aux;
  body = f.body.items;
}

abbrev pub nwk_shown : Result NwkFrame NwkError → Option NwkShown
nwk_shown (Err e) = None
nwk_shown (Ok f) = Some (nwk_frame_shown f)

abbrev pub leave_shown : Result leaving.Leave CmdError → LeaveShown
leave_shown (Ok l) = Leave l.options
leave_shown (Err (fault.Unknown id)) = Other
leave_shown (Err _) = NoCommand
