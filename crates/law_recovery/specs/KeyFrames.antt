-- The frame that brings a network key to a node that waits for one: a Transport-Key, sealed for transport under the
-- node's link key, in a NWK frame without security (05-3474-21, 4.4.10.1 and 4.6.3).
use Rattle.std.specs.Prelude.{ℕ, ◌≡◌, ◌<◌, ◌^◌, ◌++◌, true, false, length, Some, None}
use Rattle.zb_model.specs.Data.{Bytes, ForTransport, Term, Command, TransportNet}
use Rattle.zb_model.specs.Frames.{plain_frame, nwk_header, aps_term, sealed_command}
use Rattle.zb_model.specs.State.{greatest_counter}
use Rattle.zb_model.specs.Tools.{Tools, ApsShown, Known}

-- The network key with its sequence, the EUIs of the node and of the centre, their short addresses, the link key and
-- the counter of the seal.
pub record KeyFrame : Type 0 where
  pub key : Bytes
  pub sequence : ℕ
  pub device : ℕ
  pub centre : ℕ
  pub to : ℕ
  pub from : ℕ
  pub link : Bytes
  pub counter : ℕ

abbrev pub key_command : KeyFrame → Command
key_command f = TransportNet f.key f.sequence f.device f.centre

abbrev pub key_term : Tools → KeyFrame → Term
key_term tools f = aps_term sealed_command ForTransport f.link f.centre f.counter (tools.spelled (key_command f))

abbrev pub key_bytes : Tools → KeyFrame → Bytes
key_bytes tools f = nwk_header plain_frame f.to f.from 0 ++ tools.wire (key_term tools f)

pub record KeyFrameInRange (f : KeyFrame) : Type 0 where
  pub key : length f.key ≡ 16
  pub sequence : f.sequence < 2 ^ 8
  pub device : f.device < 2 ^ 64
  pub centre : f.centre < 2 ^ 64
  pub to : f.to < 2 ^ 16
  pub from : f.from < 2 ^ 16
  pub link : length f.link ≡ 16
  pub counter : f.counter < greatest_counter

-- The frame is read, opened and understood as it was sealed: its addresses, that a command is sealed in it for
-- transport, the term, and the command.
pub record Arrives (tools : Tools) (f : KeyFrame) : Type 0 where
  pub shown : tools.read_nwk (key_bytes tools f)
      ≡ Some (record {
        is_command = false;
        destination = f.to;
        source = f.from;
        auxiliary = None;
        body = tools.wire (key_term tools f);
      })
  pub part : ApsShown
  pub reads : tools.read_aps (tools.wire (key_term tools f)) ≡ Some part
  pub is_command : part.is_command ≡ true
  pub sealed : part.auxiliary ≡ Some (record { label = ForTransport; counter = f.counter; source = Some f.centre })
  pub opens : (given : ℕ) → tools.open_aps (tools.wire (key_term tools f)) f.link given ≡ Some (key_term tools f)
  pub means : tools.read_command (tools.spelled (key_command f)) ≡ Known (key_command f)

-- what the laws ask of the tools
abbrev pub DeliversKeys : Tools → Type 0
DeliversKeys tools = (f : KeyFrame) → KeyFrameInRange f → Arrives tools f
