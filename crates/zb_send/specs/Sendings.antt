-- What a node is to send, as the model's, and what fits a frame.
use Rattle.std.specs.Prelude.{◌≡◌, ◌≤◌, ℕ, Bool, true, false, List, length, Option, Some, None, ⊤}
use Rattle.zb_cmd.specs.Shape.{is_tunnel}
use Rattle.zb_model.specs.Rules as model
use Rattle.zb_model_real.specs.Readers.{model_command}
use Rattle.zb_model_real.specs.Terms.{model_label}
use Rattle.zb_send.specs.declared.sending.Body.{Body}
use Rattle.zb_send.specs.declared.sending.Body.TheVariants.{Saying, Clear, Secret, Tunnelled, Telling, Leaving, Relayed}
use Rattle.zb_send.specs.declared.sending.Sending.{Sending}
use Rattle.zb_base.specs.Limits.{longest_tunnelled}

abbrev pub body_of : Body → model.Body
body_of (Saying bytes) = model.Saying bytes.items
body_of (Clear control command) = model.Clear control (model_command command)
body_of (Secret label key command) = model.Secret (model_label label) key.0 (model_command command)
body_of (Tunnelled device key command) = model.Tunnelled device.0 key.0 (model_command command)
body_of (Telling key bytes) = model.Telling key.0 bytes.items
body_of Leaving = model.Leaving
body_of (Relayed bytes) = model.Relayed bytes.items

abbrev pub sending_of : Sending → model.Sending
sending_of s = record { to = s.to.0; secured = s.secured; body = body_of s.body }

-- The bytes for which a NWK frame has room, of its 127. Its header has 8. Where it is sealed, there are an auxiliary
-- header of 14 and a MIC of 4.
abbrev pub clear_room : ℕ
clear_room = 119

abbrev pub sealed_room : ℕ
sealed_room = 101

-- The longest command but a Tunnel, in bytes: a Transport-Key.
abbrev pub longest_plain : ℕ
longest_plain = 35

-- The longest frame in a Tunnel that is made here: such a command with an APS header, an auxiliary header and a MIC.
abbrev pub longest_inner : ℕ
longest_inner = 54

abbrev pub room : Bool → ℕ
room false = clear_room
room true = sealed_room

-- What is relayed isn't sealed at NWK, since it goes to a device without the network key.
abbrev pub IsRelayable : Bool → List ℕ → Type 0
IsRelayable false bytes = length bytes ≤ longest_tunnelled
IsRelayable true bytes = ⊥

-- The frame of the body fits: no command that it has is a Tunnel, which the body itself represents, and so does what
-- is relayed.
abbrev pub HasRoom : Bool → Body → Type 0
HasRoom secured (Clear control command) = is_tunnel command ≡ false
HasRoom secured (Secret label key command) = is_tunnel command ≡ false
HasRoom secured (Tunnelled device key command) = is_tunnel command ≡ false
HasRoom secured (Relayed bytes) = IsRelayable secured bytes.items
HasRoom secured _ = ⊤

abbrev pub IsSendable : Sending → Type 0
IsSendable s = HasRoom s.secured s.body

abbrev pub CanBeSent : Option Sending → Type 0
CanBeSent None = ⊤
CanBeSent (Some s) = IsSendable s
