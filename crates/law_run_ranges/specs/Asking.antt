-- What the law asks so that all values in the lines of a run are in their ranges: of the values that a schedule
-- declares and its events bring, and of the tools.
use Rattle.std.specs.Prelude.{◌≡◌, ◌≤◌, ◌+◌, ℕ, length, IfSome, ⊤}
use Rattle.std.specs.List.{AllByRecursion}
use Rattle.zb_model.specs.Data.{Bytes, Term, Command, TransportNet, TransportApp, TransportLink, UpdateDevice, RemoveDevice, RequestApp, RequestLink, SwitchKey, Tunnel, VerifyKey, ConfirmKey, Task, SayTo, TellTo, DoKnock, DoRejoin, DoTimer, AskFor, HasChild, DoProvision, DoRemove, DoRoll, DoSwitch, DoAgain, DoShare, Received}
use Rattle.zb_model.specs.Play.{Schedule, Node, Event, Own, InjectBytes, ForgeNet, ForgeNetAps, ForgeOpen, stations}
use Rattle.zb_model.specs.Rules.{centre_of}
use Rattle.zb_model.specs.Tools.{Tools, NwkShown, ApsShown, ApsAuxiliary, CommandShown, Known, Unknown, Broken}
use Rattle.zb_model.specs.Transcript.{transcript}
use Rattle.law_run_ranges.specs.Ranges.{IsCount, IsEui, IsByte, AreBytes, IsKey, IsShort, StationInRange, TermInRange, LineInRange}

-- ---- the schedule

-- the longest application data, and the most that an outsider forges, in bytes
abbrev pub longest_content : ℕ
longest_content = 64

-- the most events of a schedule
abbrev pub most_events : ℕ
most_events = 100000

-- the longest frame that the command Tunnel carries, in bytes
abbrev pub longest_tunnelled : ℕ
longest_tunnelled = 118

-- the longest command other than a Tunnel, in bytes
abbrev pub longest_plain : ℕ
longest_plain = 35

abbrev pub IsSmall : Bytes → Type 0
IsSmall bytes = AreBytes bytes × (length bytes ≤ longest_content)

pub record NodeInRange (m : Node) : Type 0 where
  pub station : StationInRange m.station
  pub code : IfSome m.code IsKey
  pub network : IfSome m.network (λ given. IsKey given.0 × IsByte given.1)
  pub start_nwk : IsCount m.start_nwk
  pub start_aps : IsCount m.start_aps

abbrev pub TaskInRange : Task → Type 0
TaskInRange (SayTo to bytes) = IsSmall bytes
TaskInRange (TellTo partner bytes) = IsSmall bytes
TaskInRange DoKnock = ⊤
TaskInRange DoRejoin = ⊤
TaskInRange DoTimer = ⊤
TaskInRange (AskFor partner) = IsEui partner
TaskInRange (HasChild child rejoin) = IsEui child
TaskInRange (DoProvision device key) = IsEui device × IsKey key
TaskInRange (DoRemove device via) = IsEui device
TaskInRange (DoRoll draw) = IfSome draw IsKey
TaskInRange DoSwitch = ⊤
TaskInRange (DoAgain device) = IsEui device
TaskInRange (DoShare device partner) = IsEui device × IsEui partner
TaskInRange (Received bytes draw) = IsShort bytes × IfSome draw IsKey

abbrev pub EventInRange : Event → Type 0
EventInRange (Own n task) = TaskInRange task
EventInRange (InjectBytes bytes) = IsShort bytes
EventInRange (ForgeNet to from source key sequence counter content) = IsEui source × IsKey key × IsByte sequence
    × IsCount counter × IsSmall content
EventInRange (ForgeNetAps to from source key sequence counter label base aps_counter command) =
    IsEui source × IsKey key × IsByte sequence × IsCount counter × IsKey base × IsCount aps_counter × IsSmall command
EventInRange (ForgeOpen to from source label base aps_counter command) = IsEui source × IsKey base
    × IsCount aps_counter × IsSmall command
EventInRange _ = ⊤

-- The values of a schedule are in their ranges; it has a centre, and at most 100,000 events.
pub record ScheduleInRange (w : Schedule) : Type 0 where
  pub nodes : AllByRecursion NodeInRange w.nodes
  pub centre : IsEui (centre_of (stations w))
  pub draws : AllByRecursion IsKey w.draws
  pub events : AllByRecursion EventInRange w.events
  pub few_events : length w.events ≤ most_events

-- ---- the tools

abbrev pub CommandInRange : Command → Type 0
CommandInRange (TransportNet key sequence destination source) = IsKey key × IsByte sequence × IsEui destination
    × IsEui source
CommandInRange (TransportApp key partner initiator) = IsKey key × IsEui partner × IsByte initiator
CommandInRange (TransportLink key destination source) = IsKey key × IsEui destination × IsEui source
CommandInRange (UpdateDevice device short status) = IsEui device × IsByte status
CommandInRange (RemoveDevice target) = IsEui target
CommandInRange (RequestApp partner) = IsEui partner
CommandInRange RequestLink = ⊤
CommandInRange (SwitchKey sequence) = IsByte sequence
CommandInRange (Tunnel destination inner) = IsEui destination × AreBytes inner × (length inner ≤ longest_tunnelled)
CommandInRange (VerifyKey kind source hash) = IsByte kind × IsEui source × IsKey hash
CommandInRange (ConfirmKey status kind destination) = IsByte status × IsByte kind × IsEui destination

-- every command other than a Tunnel
abbrev pub IsPlain : Command → Type 0
IsPlain (Tunnel destination inner) = ⊥
IsPlain _ = ⊤

abbrev pub ShownInRange : CommandShown → Type 0
ShownInRange (Known command) = CommandInRange command
ShownInRange Unknown = ⊤
ShownInRange Broken = ⊤

-- what an APS frame shows: the source that may be in it, and its payload if that isn't secured
abbrev pub ApsInRange : ApsShown → Type 0
ApsInRange a = IsShort a.body × IfSome a.auxiliary (λ (x : ApsAuxiliary). IfSome x.source IsEui)

-- What is sealed, spelled and hashed consists of bytes. A sealed term has 4 bytes more than its header and its
-- content, and a command other than a Tunnel has at most 35. What is read from such bytes, and what they open to, is
-- in its range.
pub record KeepsRanges (tools : Tools) : Type 0 where
  pub wire : (t : Term) → TermInRange t → AreBytes (tools.wire t)
  pub wire_length : (t : Term) → TermInRange t → length (tools.wire t) ≡ length t.header + length t.content + 4
  pub keyed : (key : Bytes) (b : ℕ) → IsKey key → IsByte b → IsKey (tools.keyed key b)
  pub spelled : (command : Command) → CommandInRange command → AreBytes (tools.spelled command)
  pub plain : (command : Command) → CommandInRange command → IsPlain command → length (tools.spelled command)
      ≤ longest_plain
  pub tunnel : (destination : ℕ) (inner : Bytes) → length (tools.spelled (Tunnel destination inner)) ≡ 9 + length inner
  pub read_nwk : (bytes : Bytes) → IsShort bytes → IfSome (tools.read_nwk bytes) (λ (f : NwkShown). IsShort f.body)
  pub open_nwk : (bytes key : Bytes) → IsShort bytes → IsKey key → IfSome (tools.open_nwk bytes key) TermInRange
  pub read_aps : (bytes : Bytes) → IsShort bytes → IfSome (tools.read_aps bytes) ApsInRange
  pub open_aps : (bytes key : Bytes) (source : ℕ) → IsShort bytes → IsKey key → IsEui source
      → IfSome (tools.open_aps bytes key source) TermInRange
  pub read_command : (bytes : Bytes) → IsShort bytes → ShownInRange (tools.read_command bytes)

-- The values of each line are in their ranges.
abbrev pub AreInRange : Tools → Schedule → Type 0
AreInRange tools w = AllByRecursion LineInRange (transcript tools w)
