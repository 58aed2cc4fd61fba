-- The tools of the model, defined: frames and commands as this program's crates read and write them, sealing and
-- opening by CCM* over AES-128, the keyed hash of 05-3474-21, annex B.
use Rattle.std.specs.Prelude.{[], ◌∷◌, Option, Some, None, Result, Ok, Err}
use Rattle.zb_aps.specs.Reading as aps
use Rattle.zb_cmd.specs.Reading.{command_of, leave_of}
use Rattle.zb_cmd.specs.Spelling.{command}
use Rattle.zb_cmd.specs.declared.command.Command.{Command}
use Rattle.zb_cmd.specs.declared.command.Command.TheVariants as cmd
use Rattle.zb_seal.specs.Keyed.{keyed}
use Rattle.zb_model.specs.Data as model
use Rattle.zb_model.specs.Tools.{Tools}
use Rattle.zb_nwk.specs.Reading as nwk
use Rattle.zb_seal.specs.Opening.{opened_nwk, opened_aps}
use Rattle.zb_seal.specs.Wire.{wire}
use Rattle.zb_seal.specs.declared.envelope.OpenError.{OpenError}
use Rattle.zb_seal.specs.declared.term.Term.{Term}
use Rattle.zb_model_real.specs.Readers.{aps_shown, nwk_shown, command_shown, leave_shown}
use Rattle.zb_model_real.specs.Terms.{eui_of, key_of, term_of, model_term}

abbrev pub opened : Result Term OpenError → Option model.Term
opened (Ok t) = Some (model_term t)
opened (Err e) = None

-- a command of the model as the program's command
abbrev pub command_for : model.Command → Command
command_for (model.TransportNet key sequence destination source) = cmd.TransportNetwork (key_of key) sequence
    (eui_of destination) (eui_of source)
command_for (model.TransportApp key partner initiator) = cmd.TransportApplication (key_of key) (eui_of partner)
    initiator
command_for (model.TransportLink key destination source) = cmd.TransportLink (key_of key) (eui_of destination)
    (eui_of source)
command_for (model.UpdateDevice device short status) = cmd.Update (eui_of device) (record { 0 = short }) status
command_for (model.RemoveDevice target) = cmd.Remove (eui_of target)
command_for (model.RequestApp partner) = cmd.RequestApplication (eui_of partner)
command_for model.RequestLink = cmd.RequestLink
command_for (model.SwitchKey sequence) = cmd.Switch sequence
command_for (model.Tunnel destination inner) = cmd.Tunnel (eui_of destination) (record { items = inner })
command_for (model.VerifyKey kind source hash) = cmd.Verify kind (eui_of source) hash
command_for (model.ConfirmKey status kind destination) = cmd.Confirm status kind (eui_of destination)

unfoldable pub real : Tools
real = record {
  wire = λ t. wire (term_of t);
  keyed = λ key b. keyed key (b ∷ []);
  read_nwk = λ bytes. nwk_shown (nwk.frame_of bytes);
  open_nwk = λ bytes key. opened (opened_nwk bytes (key_of key));
  read_aps = λ bytes. aps_shown (aps.frame_of bytes);
  open_aps = λ bytes key source. opened (opened_aps bytes (key_of key) (Some (eui_of source)));
  read_command = λ bytes. command_shown (command_of bytes);
  spelled = λ model_command. command (command_for model_command);
  read_leave = λ bytes. leave_shown (leave_of bytes);
}
