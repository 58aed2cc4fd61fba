-- The ranges of the values in lines. Addresses have 64 and 16 bits, counters and numbers 32, sequences of network
-- keys 8. Keys have 16 bytes, and a frame on the air has at most 127 bytes.
use Rattle.std.specs.Prelude.{◌≡◌, ◌<◌, ◌≤◌, ◌^◌, ℕ, length, ⊤}
use Rattle.std.specs.List.{AllByRecursion}
use Rattle.zb_model.specs.Data.{Bytes, Station, Term, Move, Draw, DropNet, DropLink, Install, Active, Row, Pair, Became, Live, Removed, Roll, Told, Untold, Edit, Reserve, Floor, Start, Moved, Reason, Stale, KeyOld, KeyInUse}
use Rattle.zb_model.specs.State.{greatest_counter}
use Rattle.zb_model.specs.Lines.{Line, Declared, GivenNet, GivenLink, Counter, Changed, Commit, Accept, Refuse, Seal, Forge, Send, Inject, Stopped, DownReset, DownDisk, Boot, Dump, End}

-- the longest frame, in bytes
abbrev pub longest_frame : ℕ
longest_frame = 127

-- a counter, a limit, a floor; the number of an event or of a frame
abbrev pub IsCount : ℕ → Type 0
IsCount n = n ≤ greatest_counter

abbrev pub IsEui : ℕ → Type 0
IsEui n = n < 2 ^ 64

abbrev pub IsByte : ℕ → Type 0
IsByte b = b < 256

abbrev pub AreBytes : Bytes → Type 0
AreBytes bytes = AllByRecursion IsByte bytes

abbrev pub IsKey : Bytes → Type 0
IsKey key = AreBytes key × (length key ≡ 16)

-- a frame, a header, a content
abbrev pub IsShort : Bytes → Type 0
IsShort bytes = AreBytes bytes × (length bytes ≤ longest_frame)

pub record StationInRange (p : Station) : Type 0 where
  pub eui : IsEui p.eui
  pub short : p.short < 2 ^ 16
  pub out_block : IsCount p.out_block
  pub in_block : IsCount p.in_block

pub record TermInRange (t : Term) : Type 0 where
  pub base : IsKey t.base
  pub source : IsEui t.source
  pub counter : IsCount t.counter
  pub control : IsByte t.control
  pub header : IsShort t.header
  pub content : IsShort t.content

abbrev pub MoveInRange : Move → Type 0
MoveInRange (Draw key) = IsKey key
MoveInRange (DropNet key) = IsKey key
MoveInRange (DropLink partner key) = IsEui partner × IsKey key
MoveInRange (Install key sequence) = IsKey key × IsByte sequence
MoveInRange (Active key) = IsKey key
MoveInRange (Row partner key attribute) = IsEui partner × IsKey key
MoveInRange (Pair first second key) = IsEui first × IsEui second × IsKey key
MoveInRange (Became state) = ⊤
MoveInRange (Live device) = IsEui device
MoveInRange (Removed device) = IsEui device
MoveInRange (Roll sending) = ⊤
MoveInRange (Told device) = IsEui device
MoveInRange (Untold device) = IsEui device

abbrev pub EditInRange : Edit → Type 0
EditInRange (Reserve layer limit) = IsCount limit
EditInRange (Floor layer key sender value) = IsKey key × IsEui sender × IsCount value
EditInRange (Start key value) = IsKey key × IsCount value
EditInRange (Moved move) = MoveInRange move

-- what a refusal shows: a floor, the place of a row, whose key it is
abbrev pub ReasonInRange : Reason → Type 0
ReasonInRange (Stale floor) = IsCount floor
ReasonInRange (KeyOld place) = IsCount place
ReasonInRange (KeyInUse partner) = IsEui partner
ReasonInRange _ = ⊤

-- The values in a line are in their ranges. An accepted counter isn't the greatest, so the floor above it is a
-- counter.
abbrev pub LineInRange : Line → Type 0
LineInRange (Declared p) = StationInRange p
LineInRange (GivenNet n key sequence) = IsKey key × IsByte sequence
LineInRange (GivenLink n partner key) = IsEui partner × IsKey key
LineInRange (Counter n layer limit) = IsCount limit
LineInRange (Changed event n edit) = IsCount event × EditInRange edit
LineInRange (Commit event n) = IsCount event
LineInRange (Accept event n t) = IsCount event × TermInRange t × (t.counter < greatest_counter)
LineInRange (Refuse event n place reason) = IsCount event × ReasonInRange reason
LineInRange (Seal event n t) = IsCount event × TermInRange t
LineInRange (Forge event t) = IsCount event × TermInRange t
LineInRange (Send event n frame bytes) = IsCount event × IsCount frame × IsShort bytes
LineInRange (Inject event frame bytes) = IsCount event × IsCount frame × IsShort bytes
LineInRange (Stopped event n) = IsCount event
LineInRange (DownReset event n) = IsCount event
LineInRange (DownDisk event n) = IsCount event
LineInRange (Boot event n) = IsCount event
LineInRange (Dump event n bytes) = IsCount event × AreBytes bytes
LineInRange (End events seals accepts refusals ideal private) = IsCount events × IsCount seals × IsCount accepts
    × IsCount refusals
