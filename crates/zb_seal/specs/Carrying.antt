-- Which key a term carries.
use Rattle.std.specs.Prelude.{ℕ, ◌%◌, ◌==◌, ◌&&◌, Bool, false, is_none, List, [], ◌∷◌, if◌then◌else◌, Option, Some, None, Result, Ok, Err}
use Rattle.zb_aps.specs.Reading.{frame_of}
use Rattle.zb_aps.specs.declared.fault.ApsError.{ApsError}
use Rattle.zb_aps.specs.declared.frame.ApsFrame.{ApsFrame}
use Rattle.zb_base.specs.declared.key.Key.{Key}
use Rattle.zb_base.specs.declared.label.Layer.{Layer}
use Rattle.zb_base.specs.declared.label.Layer.TheVariants.{Nwk, Aps}
use Rattle.zb_cmd.specs.Reading.{command_of}
use Rattle.zb_cmd.specs.declared.command.Command.{Command}
use Rattle.zb_cmd.specs.declared.command.Command.TheVariants.{TransportNetwork, TransportApplication, TransportLink}
use Rattle.zb_cmd.specs.declared.fault.CmdError.{CmdError}
use Rattle.zb_seal.specs.declared.term.Term.{Term}

-- the key in a Transport-Key (05-3474-21, 4.4.10.1), of any of its three types
abbrev pub key_in : Result Command CmdError → Option Key
key_in (Ok (TransportNetwork key sequence destination source)) = Some key
key_in (Ok (TransportApplication key partner initiator)) = Some key
key_in (Ok (TransportLink key destination source)) = Some key
key_in _ = None

-- the two low bits of a frame control are 1 for a command, both at NWK (05-3474-21, 3.3.1.1.1) and at APS
-- (2.2.5.1.1.1)
abbrev pub is_command : ℕ → Bool
is_command control = control % 4 == 1

abbrev pub is_command_header : List ℕ → Bool
is_command_header [] = false
is_command_header (control ∷ more) = is_command control

-- an APS command without APS security, and the key in a whole one
abbrev pub is_clear_command : ApsFrame → Bool
is_clear_command frame = is_none frame.aux && is_command frame.header.control

abbrev pub clear_key : Result ApsFrame ApsError → Option Key
clear_key (Ok frame) = if is_clear_command frame then key_in (command_of frame.body.items) else None
clear_key (Err fault) = None

abbrev pub carried_at : Layer → List ℕ → List ℕ → Option Key
carried_at Aps header content = if is_command_header header then key_in (command_of content) else None
carried_at Nwk header content = clear_key (frame_of content)

-- The key that a term carries. An APS term carries one if its header is of a command and its content is a
-- Transport-Key. A NWK term carries one if its content is a whole APS command without APS security that is a
-- Transport-Key.
unfoldable pub carried : Term → Option Key
carried term = carried_at term.layer term.header.items term.content.items
