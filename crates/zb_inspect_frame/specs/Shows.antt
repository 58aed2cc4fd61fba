-- What a frame shows under the keys of a ring, layer by layer (this project's profile).
use Rattle.std.specs.Prelude.{ℕ, ◌==◌, List, [], ◌∷◌, if◌then◌else◌, Option, Some, None, Result, Ok, Err}
use Rattle.std.specs.Option.{option_map, option_and_then}
use Rattle.arrayvec.specs.ArrayVec.{ArrayVec}
use Rattle.zb_base.specs.declared.address.Eui.{Eui}
use Rattle.zb_base.specs.declared.address.Short.{Short}
use Rattle.zb_base.specs.declared.key.Key.{Key}
use Rattle.zb_nwk.specs.Reading as nwk_reading
use Rattle.zb_nwk.specs.Shape as nwk_shape
use Rattle.zb_nwk.specs.declared.fault.NwkError.{NwkError}
use Rattle.zb_nwk.specs.declared.frame.NwkFrame.{NwkFrame}
use Rattle.zb_nwk.specs.declared.header.NwkHeader.{NwkHeader}
use Rattle.zb_aps.specs.Reading as aps_reading
use Rattle.zb_aps.specs.Shape as aps_shape
use Rattle.zb_aps.specs.declared.fault.ApsError.{ApsError}
use Rattle.zb_aps.specs.declared.frame.ApsFrame.{ApsFrame}
use Rattle.zb_cmd.specs.Reading.{command_of}
use Rattle.zb_cmd.specs.declared.command.Command.{Command}
use Rattle.zb_cmd.specs.declared.command.Command.TheVariants.{Tunnel}
use Rattle.zb_cmd.specs.declared.fault.CmdError.{CmdError}
use Rattle.zb_inspect_frame.specs.declared.layer.Finding.{Finding}
use Rattle.zb_inspect_frame.specs.declared.shown.Shown.{Shown}
use Rattle.zb_inspect_frame.specs.declared.shown.Below.{Below}
use Rattle.zb_inspect_frame.specs.Layers.{found_nwk, found_aps, clear}

-- The first known EUI of a short address.
abbrev pub addr_of : Short → List (Short × Eui) → Option Eui
addr_of short [] = None
addr_of short (addr ∷ more) = if addr.0.0 == short.0 then Some addr.1 else addr_of short more

abbrev pub eui_or : Option Eui → Option Eui → Option Eui
eui_or (Some eui) other = Some eui
eui_or None other = other

-- The source of an APS frame that names none: the EUI of the NWK source, if the frame has it, else the known one.
abbrev pub source_known : List (Short × Eui) → NwkHeader → Option Eui
source_known addrs header = eui_or header.source_eui (addr_of header.source addrs)

-- The payload of a NWK data frame (type 0), if it is known.
abbrev pub data_in : Finding → NwkFrame → Option (List ℕ)
data_in nwk frame = if nwk_shape.kind frame.header.control == 0 then clear nwk frame.body.items else None

-- The payload of an APS command (type 1), if it is known.
abbrev pub command_in : Finding → ApsFrame → Option (List ℕ)
command_in aps frame = if aps_shape.kind frame.header.control == 1 then clear aps frame.body.items else None

-- The frame in a Tunnel command.
abbrev pub tunnel_in : Result Command CmdError → Option (ArrayVec ℕ)
tunnel_in (Ok (Tunnel destination inner)) = Some inner
tunnel_in _ = None

abbrev pub tunnel_of : List ℕ → Option (ArrayVec ℕ)
tunnel_of content = tunnel_in (command_of content)

abbrev pub tunnelled : Finding → Result ApsFrame ApsError → Option (ArrayVec ℕ)
tunnelled aps (Err fault) = None
tunnelled aps (Ok frame) = option_and_then tunnel_of (command_in aps frame)

-- The APS layer of a payload, and of the frame in its Tunnel.
abbrev pub below : List Key → Option Eui → List ℕ → Below
below keys given payload = record {
  aps = found_aps keys given payload;
  inner = option_map (λ inner. found_aps keys given inner.items)
      (tunnelled (found_aps keys given payload) (aps_reading.frame_of payload));
}

abbrev pub shown_under : List (Short × Eui) → List Key → Finding → Result NwkFrame NwkError → Shown
shown_under addrs keys nwk (Err fault) = record { nwk = nwk; below = None }
shown_under addrs keys nwk (Ok frame) =
    record { nwk = nwk; below = option_map (below keys (source_known addrs frame.header)) (data_in nwk frame) }

-- What a frame shows.
unfoldable pub frame_shown : List (Short × Eui) → List Key → List ℕ → Shown
frame_shown addrs keys bytes = shown_under addrs keys (found_nwk keys bytes) (nwk_reading.frame_of bytes)

-- The payload of a frame's data, if it is known, and the source of an APS frame in it that names none.
abbrev pub payload_in : Finding → Result NwkFrame NwkError → Option (List ℕ)
payload_in nwk (Err fault) = None
payload_in nwk (Ok frame) = data_in nwk frame

abbrev pub given_in : List (Short × Eui) → Result NwkFrame NwkError → Option Eui
given_in addrs (Err fault) = None
given_in addrs (Ok frame) = source_known addrs frame.header

-- The same with another NWK layer.
abbrev pub with_nwk : (Finding → Finding) → Shown → Shown
with_nwk f seen = record { nwk = f seen.nwk; below = seen.below }
