-- What the lines of a schedule say. Names, keys and other strings of bytes are lists of numbers below 256; addresses
-- and counters are numbers.
use Rattle.std.specs.Prelude.{ℕ, List, Bool, Option}
use Rattle.zb_base.specs.declared.label.Label.{Label}
use Rattle.zb_base.specs.declared.label.Layer.{Layer}
use Rattle.zb_base.specs.declared.node.Role.{Role}

abbrev pub Bytes : Type 0
Bytes = List ℕ

-- An event.
pub data Event : Type 0 where
  -- a node sends application bytes
  Says : (name : Bytes) (to : ℕ) (bytes : Bytes) → Event
  -- a frame that went on the air arrives at a node
  Delivers : (frame : ℕ) (name : Bytes) → Event
  -- a node's timer
  Ticks : (name : Bytes) → Event
  -- a router or device starts to join, or to rejoin
  Knocks : (name : Bytes) → Event
  Rejoins : (name : Bytes) → Event
  -- a parent hears a child that joins or rejoins
  Adopts : (parent : Bytes) (name : Bytes) (rejoin : Bool) → Event
  -- the centre: a device's install code is entered, and the device is sent the network key again
  Provisions : (name : Bytes) (code : Bytes) → Event
  Repeats : (name : Bytes) → Event
  -- the centre: a new network key, the switch to it, and a device is removed by way of a parent
  Rolls : Event
  Switches : Event
  Removes : (name : Bytes) (parent : Bytes) → Event
  -- power and disk
  Resets : (name : Bytes) → Event
  Boots : (name : Bytes) → Event
  Dumps : (name : Bytes) → Event
  Stops : (name : Bytes) (calls : ℕ) (torn : Bytes) → Event
  Fails : (name : Bytes) (call : ℕ) → Event
  -- the hostile air: bytes, and frames sealed by an outsider
  Injects : (bytes : Bytes) → Event
  ForgesNet : (to from source : ℕ) (key : Bytes) (sequence counter : ℕ) (content : Bytes) → Event
  ForgesBoth : (to from source : ℕ) (key : Bytes) (sequence counter : ℕ) (label : Label) (base : Bytes)
      (aps_counter : ℕ) (command : Bytes) → Event
  ForgesOpen : (to from source : ℕ) (label : Label) (base : Bytes) (aps_counter : ℕ) (command : Bytes) → Event
  -- application link keys: a device asks for one, the centre shares it with the partner, a device uses it
  Asks : (name : Bytes) (partner : Bytes) → Event
  Shares : (name : Bytes) (partner : Bytes) → Event
  Tells : (name : Bytes) (partner : Bytes) (bytes : Bytes) → Event

-- A line.
pub data Sentence : Type 0 where
  -- an empty line or a comment
  Quiet : Sentence
  -- declarations: a node, and its install code (None where the bytes are no install code)
  Introduces : (name : Bytes) (role : Role) (eui short out_block in_block : ℕ) → Sentence
  Codes : (name : Bytes) (code : Option Bytes) → Sentence
  -- declarations: a network key that a node holds, its stored outgoing limit, and the next key of the supply
  Holds : (name : Bytes) (key : Bytes) (sequence : ℕ) → Sentence
  Starts : (name : Bytes) (layer : Layer) (limit : ℕ) → Sentence
  Draws : (key : Bytes) → Sentence
  -- an event whose bytes are no install code, and any other event
  Misprovisions : (name : Bytes) → Sentence
  Happens : (event : Event) → Sentence
