-- What the laws on keys ask of a schedule's nodes, and of frames and commands as they are spelled and read.
use Rattle.std.specs.Prelude.{ℕ, ◌≡◌, ◌<◌, ◌^◌, ◌⊎◌, true, false, ◌∷◌, Some, is_some}
use Rattle.std.specs.List.{AllByRecursion}
use Rattle.zb_model.specs.Data.{Bytes, Label, Station, Command, ConfirmKey}
use Rattle.zb_model.specs.State.{is_centre}
use Rattle.zb_model.specs.Tools.{Tools, ApsShown, Known}
use Rattle.zb_model.specs.Frames.{aps_term, sealed_command, sealed_data, data_front, clear_command, clear_broadcast}
use Rattle.zb_model.specs.Secrets.{key_in, key_shown, is_command_header}
use Rattle.zb_model.specs.Rules.{centre_of}
use Rattle.zb_model.specs.Play.{Schedule, stations}

-- A schedule declares one centre: each station that is declared as one has the centre's EUI.
abbrev pub OneCentre : Schedule → Type 0
OneCentre w = AllByRecursion (λ (p : Station). is_centre p.role ≡ true → p.eui ≡ centre_of (stations w)) (stations w)

-- the command is a Confirm-Key for the device, if its own device has an EUI of 64 bits
abbrev pub IsConfirmOf : Command → ℕ → Type 0
IsConfirmOf (ConfirmKey status kind device) d = device < 2 ^ 64 → device ≡ d
IsConfirmOf _ d = ⊥

-- Of the commands, only Confirm-Key is spelled so that it reads as a Confirm-Key of status 0, with its own device.
abbrev pub SpellsConfirm : Tools → Type 0
SpellsConfirm tools = (command : Command) (kind d : ℕ) → tools.read_command (tools.spelled command)
    ≡ Known (ConfirmKey 0 kind d) → IsConfirmOf command d

-- the frame control of an unsealed command in a frame: to one node, or to all
abbrev pub IsClearControl : ℕ → Type 0
IsClearControl control = (control ≡ clear_command) ⊎ (control ≡ clear_broadcast)

-- What a node's own frame shows of keys.
pub record ShowsKeys (tools : Tools) : Type 0 where
  -- a spelled command reads as one with its own key, or with none
  pub spelled : (o : Command) (k : Bytes) → key_shown (tools.read_command (tools.spelled o)) ≡ Some k → key_in o
      ≡ Some k
  -- what doesn't begin as a command isn't read as one
  pub plain : (bytes : Bytes) (a : ApsShown) → tools.read_aps bytes ≡ Some a → is_command_header bytes ≡ false
      → a.is_command ≡ false
  -- a command in clear is read after its control and its counter
  pub clear : (control counter : ℕ) (bytes : Bytes) (a : ApsShown) → IsClearControl control
      → tools.read_aps (control ∷ counter ∷ bytes) ≡ Some a → a.body ≡ bytes
  -- a sealed APS frame shows that it is sealed: one with a command, and one with data
  pub command : (label : Label) (key : Bytes) (source counter : ℕ) (content : Bytes) (a : ApsShown)
      → tools.read_aps (tools.wire (aps_term sealed_command label key source counter content)) ≡ Some a
      → is_some a.auxiliary ≡ true
  pub telling : (label : Label) (key : Bytes) (source counter : ℕ) (content : Bytes) (a : ApsShown)
      → tools.read_aps (tools.wire (aps_term (data_front sealed_data) label key source counter content)) ≡ Some a
      → is_some a.auxiliary ≡ true
