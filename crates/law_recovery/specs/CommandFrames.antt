-- The frames of the exchange of link keys: an APS command in a NWK frame that is sealed under the network key. The
-- command is sealed under a link key, or is in clear (05-3474-21, 4.4.10, 4.5.1 and 4.6.3).
use Rattle.std.specs.Prelude.{ℕ, ◌≡◌, ◌<◌, ◌^◌, ◌∷◌, true, false, length, Some, None}
use Rattle.zb_model.specs.Data.{Bytes, Label, ForData, ForLoad, Term, Command, TransportLink, RequestLink, VerifyKey, ConfirmKey}
use Rattle.zb_model.specs.Frames.{low_byte, secured_frame, nwk_term, aps_term, sealed_command, clear_command}
use Rattle.zb_model.specs.State.{greatest_counter}
use Rattle.zb_model.specs.Tools.{Tools, ApsShown, Known, verify_hash}

-- A NWK frame from one node to another: their short addresses, the EUI of its sender, the network key with its
-- sequence, and the counter of the seal.
pub record NetFrame : Type 0 where
  pub to : ℕ
  pub from : ℕ
  pub source : ℕ
  pub key : Bytes
  pub sequence : ℕ
  pub counter : ℕ

-- A command that is sealed under a link key: its label, the link key, the EUI of its sender, the counter of the seal.
pub record LinkFrame : Type 0 where
  pub label : Label
  pub link : Bytes
  pub source : ℕ
  pub counter : ℕ
  pub command : Command

abbrev pub net_term : NetFrame → Bytes → Term
net_term f content = nwk_term secured_frame f.to f.from f.source f.key f.sequence f.counter content

abbrev pub link_term : Tools → LinkFrame → Term
link_term tools l = aps_term sealed_command l.label l.link l.source l.counter (tools.spelled l.command)

-- what a NWK frame carries: a sealed command, or one in clear
abbrev pub sealed_content : Tools → LinkFrame → Bytes
sealed_content tools l = tools.wire (link_term tools l)

abbrev pub clear_content : Tools → ℕ → Command → Bytes
clear_content tools counter command = clear_command ∷ low_byte counter ∷ tools.spelled command

abbrev pub sealed_bytes : Tools → NetFrame → LinkFrame → Bytes
sealed_bytes tools f l = tools.wire (net_term f (sealed_content tools l))

abbrev pub clear_bytes : Tools → NetFrame → Command → Bytes
clear_bytes tools f command = tools.wire (net_term f (clear_content tools f.counter command))

-- ---- ranges

pub record NetFrameInRange (f : NetFrame) : Type 0 where
  pub to : f.to < 2 ^ 16
  pub from : f.from < 2 ^ 16
  pub source : f.source < 2 ^ 64
  pub key : length f.key ≡ 16
  pub sequence : f.sequence < 2 ^ 8
  pub counter : f.counter < greatest_counter

-- the sealed commands of the exchange, each with its label: a request, its answer, and the confirmation
abbrev pub SealedInRange : Label → Command → Type 0
SealedInRange ForData RequestLink = Unit {0}
SealedInRange ForData (ConfirmKey status kind destination) = (status < 2 ^ 8) × (kind < 2 ^ 8) × (destination < 2 ^ 64)
SealedInRange ForLoad (TransportLink key destination source) = (length key ≡ 16) × (destination < 2 ^ 64)
    × (source < 2 ^ 64)
SealedInRange label command = ◌≡◌ {A = ℕ} 0 1

pub record LinkFrameInRange (l : LinkFrame) : Type 0 where
  pub link : length l.link ≡ 16
  pub source : l.source < 2 ^ 64
  pub counter : l.counter < greatest_counter
  pub command : SealedInRange l.label l.command

-- the one command in clear: the proof of a key
abbrev pub ClearInRange : Command → Type 0
ClearInRange (VerifyKey kind source hash) = (kind < 2 ^ 8) × (source < 2 ^ 64) × (length hash ≡ 16)
ClearInRange command = ◌≡◌ {A = ℕ} 0 1

-- ---- what the laws ask of the tools

-- The NWK frame is read and opened as it was sealed: its addresses, its auxiliary header, and the term.
pub record IsCarried (tools : Tools) (f : NetFrame) (content : Bytes) : Type 0 where
  pub body : Bytes
  pub shown : tools.read_nwk (tools.wire (net_term f content)) ≡ Some (record {
    is_command = false;
    destination = f.to;
    source = f.from;
    auxiliary = Some (record { counter = f.counter; source = f.source; sequence = f.sequence });
    body = body;
  })
  pub opens : tools.open_nwk (tools.wire (net_term f content)) f.key ≡ Some (net_term f content)

-- The sealed command is read, opened and understood as it was sealed.
pub record IsUnsealed (tools : Tools) (l : LinkFrame) : Type 0 where
  pub part : ApsShown
  pub reads : tools.read_aps (sealed_content tools l) ≡ Some part
  pub is_command : part.is_command ≡ true
  pub sealed : part.auxiliary ≡ Some (record { label = l.label; counter = l.counter; source = Some l.source })
  pub opens : (given : ℕ) → tools.open_aps (sealed_content tools l) l.link given ≡ Some (link_term tools l)
  pub means : tools.read_command (tools.spelled l.command) ≡ Known l.command

-- The command in clear is read and understood.
pub record IsRead (tools : Tools) (counter : ℕ) (command : Command) : Type 0 where
  pub part : ApsShown
  pub reads : tools.read_aps (clear_content tools counter command) ≡ Some part
  pub is_command : part.is_command ≡ true
  pub clear : part.auxiliary ≡ None
  pub body : part.body ≡ tools.spelled command
  pub means : tools.read_command (tools.spelled command) ≡ Known command

-- Frames of the exchange arrive as they were sent, and the proof of a key has 16 bytes.
pub record DeliversCommands (tools : Tools) : Type 0 where
  pub carried : (f : NetFrame) (l : LinkFrame) → NetFrameInRange f → LinkFrameInRange l
      → IsCarried tools f (sealed_content tools l)
  pub unsealed : (l : LinkFrame) → LinkFrameInRange l → IsUnsealed tools l
  pub carried_clear : (f : NetFrame) (command : Command) → NetFrameInRange f → ClearInRange command
      → IsCarried tools f (clear_content tools f.counter command)
  pub read : (counter : ℕ) (command : Command) → ClearInRange command → IsRead tools counter command
  pub proof : (key : Bytes) → length (verify_hash tools key) ≡ 16
