-- The plain data of the model. A node is named by its EUI, a number below 2^64; a key is its 16 bytes; other
-- strings of bytes are lists of numbers too.
use Rattle.std.specs.Prelude.{ℕ, List, Bool, Option}

-- Bytes, each a number below 256.
abbrev pub Bytes : Type 0
Bytes = List ℕ

-- No node's EUI: it is used if a line names a node that it hasn't declared. It decides nothing in a run, whose lines
-- name declared nodes.
abbrev pub nobody : ℕ
nobody = 18446744073709551616

-- A node's part in the network (Zigbee 05-3474-21, chapter 4: trust centre, router, end device).
pub data Role : Type 0 where
  Centre : Role
  Router : Role
  Device : Role

-- The layer at which a frame is secured: network (NWK) or application support (APS).
pub data Layer : Type 0 where
  Nwk : Layer
  Aps : Layer

-- The key identifier of an auxiliary header (05-3474-21, 4.5.1.1.2): which key is derived from the base key.
pub data Label : Type 0 where
  ForData : Label
  ForNetwork : Label
  ForTransport : Label
  ForLoad : Label

-- The state of a router or device (this project's profile). The centre stays in Fresh.
pub data State : Type 0 where
  Fresh : State
  Knocked : State
  Joined : State
  Offered : State
  Confirmed : State
  Rejoining : State
  Gone : State

-- The attribute of a link key (05-3474-21, 4.7.4.1: provisional, unverified, verified).
pub data Attribute : Type 0 where
  Provisional : Attribute
  Unverified : Attribute
  Verified : Attribute

-- A node as it is declared: its name (letters and digits), EUI, short address, part, and its blocks of outgoing
-- and of incoming counters.
pub record Station : Type 0 where
  pub name : Bytes
  pub eui : ℕ
  pub short : ℕ
  pub role : Role
  pub out_block : ℕ
  pub in_block : ℕ

-- What is sealed, and what a frame opens to. The base key and the label give the sealing key. Source, counter and
-- control make the nonce. The header is authenticated, and the content is encrypted too.
pub record Term : Type 0 where
  pub layer : Layer
  pub base : Bytes
  pub label : Label
  pub source : ℕ
  pub counter : ℕ
  pub control : ℕ
  pub header : Bytes
  pub content : Bytes

-- A change that a rule of the policy makes to a node's stable state.
pub data Move : Type 0 where
  Draw : (key : Bytes) → Move
  DropNet : (key : Bytes) → Move
  DropLink : (partner : ℕ) (key : Bytes) → Move
  Install : (key : Bytes) (sequence : ℕ) → Move
  Active : (key : Bytes) → Move
  Row : (partner : ℕ) (key : Bytes) (attribute : Attribute) → Move
  Pair : (first : ℕ) (second : ℕ) (key : Bytes) → Move
  Became : (state : State) → Move
  Live : (device : ℕ) → Move
  Removed : (device : ℕ) → Move
  Roll : (sending : Bool) → Move
  Told : (device : ℕ) → Move
  Untold : (device : ℕ) → Move

-- A change to a node's stable state: to a counter's limit, a floor or a network key's first counter, or one of the
-- policy's own.
pub data Edit : Type 0 where
  Reserve : (layer : Layer) (limit : ℕ) → Edit
  Floor : (layer : Layer) (key : Bytes) (sender : ℕ) (value : ℕ) → Edit
  Start : (key : Bytes) (value : ℕ) → Edit
  Moved : (move : Move) → Edit

-- Where an event was refused: as a NWK frame, in its APS part, or before either.
pub data Place : Type 0 where
  AtNwk : Place
  AtAps : Place
  AtEvent : Place

-- Why an event was refused, in the order in which the reasons are tried (except NoFrame, which follows Down). Stale
-- shows the floor, KeyOld the place of the dropped row, KeyInUse whose key it is.
pub data Reason : Type 0 where
  Down : Reason
  Malformed : Reason
  NotForMe : Reason
  Unsecured : Reason
  NoKey : Reason
  CounterMax : Reason
  Stale : (floor : ℕ) → Reason
  BadMic : Reason
  Policy : Reason
  NotMember : Reason
  WrongState : Reason
  KeyOld : (place : ℕ) → Reason
  KeysFull : Reason
  RowsFull : Reason
  KeyInUse : (partner : ℕ) → Reason
  NoDraw : Reason
  CounterSpent : Reason
  WrongHash : Reason
  NoFrame : Reason

-- An APS command (05-3474-21, 4.4.11), with its fields in the order in which they are written.
pub data Command : Type 0 where
  TransportNet : (key : Bytes) (sequence : ℕ) (destination : ℕ) (source : ℕ) → Command
  TransportApp : (key : Bytes) (partner : ℕ) (initiator : ℕ) → Command
  TransportLink : (key : Bytes) (destination : ℕ) (source : ℕ) → Command
  UpdateDevice : (device : ℕ) (short : ℕ) (status : ℕ) → Command
  RemoveDevice : (target : ℕ) → Command
  RequestApp : (partner : ℕ) → Command
  RequestLink : Command
  SwitchKey : (sequence : ℕ) → Command
  Tunnel : (destination : ℕ) (inner : Bytes) → Command
  VerifyKey : (kind : ℕ) (source : ℕ) (hash : Bytes) → Command
  ConfirmKey : (status : ℕ) (kind : ℕ) (destination : ℕ) → Command

-- What an event asks of one node: its own events, and a delivered frame together with the next key of the supply,
-- which the centre may need. N is how nodes are named, and K is what admits a device.
pub data TaskOf (N K : Type 0) : Type 0 where
  SayTo : (to : ℕ) (bytes : Bytes) → TaskOf N K
  TellTo : (partner : N) (bytes : Bytes) → TaskOf N K
  DoKnock : TaskOf N K
  DoRejoin : TaskOf N K
  DoTimer : TaskOf N K
  AskFor : (partner : N) → TaskOf N K
  HasChild : (child : N) (rejoin : Bool) → TaskOf N K
  DoProvision : (device : N) (key : K) → TaskOf N K
  DoRemove : (device : N) (via : N) → TaskOf N K
  DoRoll : (draw : Option Bytes) → TaskOf N K
  DoSwitch : TaskOf N K
  DoAgain : (device : N) → TaskOf N K
  DoShare : (device : N) (partner : N) → TaskOf N K
  Received : (bytes : Bytes) (draw : Option Bytes) → TaskOf N K

-- a task of a node: nodes are named by their EUI, and a device is admitted by its link key
abbrev pub Task : Type 0
Task = TaskOf ℕ Bytes
