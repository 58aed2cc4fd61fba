-- The third claim: only stored keys are confirmed.
use Rattle.std.specs.Prelude.{ℕ, Bool, true, false, ◌&&◌, if◌then◌else◌, List, [], ◌∷◌, bytes_eq, nat_eq, Option, Some, None, Result, Ok}
use Rattle.zb_base.specs.declared.address.Eui.{Eui}
use Rattle.zb_base.specs.declared.label.Layer.{Layer}
use Rattle.zb_base.specs.declared.label.Layer.TheVariants.{Nwk, Aps}
use Rattle.zb_base.specs.declared.state.Attribute.{Attribute}
use Rattle.zb_base.specs.declared.state.Attribute.TheVariants as attribute
use Rattle.zb_cmd.specs.Reading.{command_of}
use Rattle.zb_cmd.specs.declared.command.Command.{Command}
use Rattle.zb_cmd.specs.declared.command.Command.TheVariants.{Confirm}
use Rattle.zb_cmd.specs.declared.fault.CmdError.{CmdError}
use Rattle.zb_audit_names.specs.Naming.{declared_in, declares, is_centres}
use Rattle.zb_model.specs.Data.{Bytes, Station}
use Rattle.zb_seal.specs.declared.term.Term.{Term}
use Rattle.zb_trace.specs.declared.line.Line.{Line}
use Rattle.zb_trace.specs.declared.line.Line.TheVariants as line
use Rattle.zb_seal.specs.Carrying.{is_command_header}

-- The device in a Confirm-Key of status 00 (05-3474-21, 4.4.10.8).
abbrev pub confirmed_in : Result Command CmdError → Option Eui
confirmed_in (Ok (Confirm status kind destination)) = if nat_eq status 0 then Some destination else None
confirmed_in _ = None

abbrev pub confirmed_at : Layer → List ℕ → List ℕ → Option Eui
confirmed_at Aps header content = if is_command_header header then confirmed_in (command_of content) else None
confirmed_at Nwk header content = None

-- The device whose key a term confirms, if its content is a Confirm-Key of status 00, sealed as an APS command.
unfoldable pub confirmed : Term → Option Eui
confirmed t = confirmed_at t.layer t.header.items t.content.items

-- The state of a link row of the centre after some lines: not verified, made verified, or stored as verified by a
-- later commit.
pub data RowState : Type 0 where
  Absent : RowState
  Made : RowState
  Kept : RowState

abbrev pub made : RowState → RowState
made Absent = Made
made s = s

abbrev pub committed : RowState → RowState
committed Made = Kept
committed s = s

abbrev pub is_kept : RowState → Bool
is_kept Absent = false
is_kept Made = false
is_kept Kept = true

abbrev pub is_row : ℕ → Bytes → ℕ → Bytes → Bool
is_row partner key p k = nat_eq p partner && bytes_eq k key

-- A row with that attribute makes the key verified, or ends that.
abbrev pub with_attribute : Attribute → RowState → RowState
with_attribute attribute.Verified s = made s
with_attribute attribute.Unverified s = Absent
with_attribute attribute.Provisional s = Absent

-- What one line does to the centre's row of a partner and a key, after lines that declare these nodes.
abbrev pub row_becomes : ℕ → Bytes → List Station → RowState → Line → RowState
row_becomes partner key known s (line.Row event node p k a) =
    if is_centres known node.bytes && is_row partner key p.0 k.0 then with_attribute a s else s
row_becomes partner key known s (line.DropLink event node p k) =
    if is_centres known node.bytes && is_row partner key p.0 k.0 then Absent else s
row_becomes partner key known s (line.Commit event node) = if is_centres known node.bytes then committed s else s
row_becomes partner key known s _ = s

unfoldable pub row_from : ℕ → Bytes → List Station → RowState → List Line → RowState
row_from partner key known s [] = s
row_from partner key known s (l ∷ ls) = row_from partner key (declares known l) (row_becomes partner key known s l) ls

unfoldable pub row_in : List Line → ℕ → Bytes → RowState
row_in h partner key = row_from partner key [] Absent h

-- Whether the node is the centre, and has stored the key of the device as verified.
abbrev pub stands_for : List Line → Bytes → Bytes → Option Eui → Bool
stands_for h name base None = true
stands_for h name base (Some device) = is_centres (declared_in h) name && is_kept (row_in h device.0 base)

-- Whether a seal confirms no key, or the centre made it and has stored the key as verified.
unfoldable pub is_confirmable : List Line → Line → Bool
is_confirmable h (line.Seal event node t) = stands_for h node.bytes t.base.0 (confirmed t)
is_confirmable h _ = true
