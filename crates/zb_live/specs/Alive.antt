-- The session of the program: what it is of the session as it is defined, and what the disk holds of it.
use Rattle.std.specs.Prelude.{ℕ, ◌≡◌, ◌⊎◌, ◌++◌, true, List, [], Option, Some, None, Result, Ok, Err, OnOk, IsTrue, is_some, option_map, ⊤}
use Rattle.zb_base.specs.Outside.{Rose, Unrisen}
use Rattle.zb_base.specs.declared.fault.OrMemory.{OrMemory}
use Rattle.zb_base.specs.declared.fault.OrMemory.TheVariants.{Fault, NoMemory as memory}
use Rattle.zb_centre_store.specs.Calls.{WasThereOrEmpty}
use Rattle.zb_centre_store.specs.Standing.{CanBeServed, IsUp, IsWornOut, StandsAs, found_on}
use Rattle.zb_centre_store.specs.declared.fault.AdminFault.{AdminFault}
use Rattle.zb_centre_store.specs.declared.fault.AdminFault.TheVariants.{Disk, NoStore, BadStore, Worn, Write, NoMemory}
use Rattle.zb_disk.specs.View.{Telling, View, LeavesOnly}
use Rattle.zb_host.specs.Hosts.{Hosted}
use Rattle.zb_live.specs.Living.{Done, Found, HasChanges, Living, cause_of, on_stage, setting_of}
use Rattle.zb_live.specs.declared.session.Session.{Session}
use Rattle.zb_live.specs.Answers.{ok_text, refused_text}
use Rattle.zb_live.specs.Said.{Sentence}
use Rattle.zb_model.specs.Rules.{Setting}
use Rattle.zb_model.specs.State.{NodeState}
use Rattle.zb_script.specs.Judge.{has_centre}
use Rattle.zb_script.specs.Scripts.{Script}
use Rattle.zb_script.specs.declared.error.ScriptCause.{ScriptCause}
use Rattle.zb_store.specs.Layout.{Standing, stands}
use Rattle.zb_stored_tables.specs.Cores.{CoreValue}

-- the tables of the centre, if it is up
abbrev pub tables_of : Option (Hosted CoreValue) → Option NodeState
tables_of centre = option_map (λ (h : Hosted CoreValue). h.core.tables) centre

-- the session that the program's is
abbrev pub living_of : Session → Living
living_of session =
    record {
      lines = session.lines;
      log = session.log;
      network = session.network;
      tables = tables_of session.centre;
      events = session.events;
      frames = session.frames;
    }

-- what a line that says this does to the program's session
abbrev pub done_by : ℕ → Found → Sentence → Session → Done
done_by number found sentence session = on_stage number found (tables_of session.centre) sentence (living_of session)

-- how a line of the network is answered; without memory it isn't
abbrev pub answer_text : ℕ → Result (Unit {0}) (OrMemory ScriptCause) → List ℕ
answer_text number (Ok done) = ok_text number
answer_text number (Err (Fault cause)) = refused_text number (cause_of cause)
answer_text number (Err memory) = []

abbrev pub IsDeclared : Result (Unit {0}) (OrMemory ScriptCause) → Type 0
IsDeclared (Ok done) = ⊤
IsDeclared (Err (Fault cause)) = ⊤
IsDeclared (Err memory) = ⊥

-- Before the session is open: the disk can be served, and holds what was found in it at first.
pub record IsWaiting (found : Found) (now : View) : Type 0 where
  pub can : CanBeServed now
  pub found_so : found_on now.seen ≡ found

-- The centre is up with its network, once the session is open.
abbrev pub IsCentreOf : Found → Script → Option (Hosted CoreValue) → View → Type 0
IsCentreOf found network None now = IsWaiting found now
IsCentreOf found network (Some host) now = IsUp (setting_of network) host.core.tables host now

-- The program's session continues over a disk that held `found` when it began.
abbrev pub IsAlive : Found → Session → View → Type 0
IsAlive found session now = IsCentreOf found session.network session.centre now

-- What a crash leaves: before the session is open what was there on this disk, and then the record of its tables.
abbrev pub CrashLeaves : View → Option NodeState → List ℕ → Type 0
CrashLeaves disk None image = WasThereOrEmpty disk image
CrashLeaves disk (Some s) image = StandsAs (Some s) image

abbrev pub LeavesEither : View → Option NodeState → Option NodeState → List ℕ → Type 0
LeavesEither disk before after image = CrashLeaves disk before image ⊎ CrashLeaves disk after image

-- A line that calls no disk was taken. What it writes is on the page after what was there, the session is the one
-- after it, and the centre is as it was.
pub record HasSaid (number : ℕ) (sentence : Sentence) (old : Session) (front : List ℕ) (new : Session)
    (page : List ℕ) : Type 0 where
  pub text : (found : Found) → page ≡ front ++ (done_by number found sentence old).text
  pub after : (found : Found) → living_of new ≡ (done_by number found sentence old).after
  pub centre : new.centre ≡ old.centre
  pub network : is_some old.centre ≡ true → new.network ≡ old.network

-- A line was taken: what it writes is on the page after what was there, and the session is the one after it. Or it
-- failed. At each moment of it an image holds the session before the line or the one after it.
pub record HasTaken (found : Found) (session : Session) (d : Done) (old : View) (front : List ℕ)
    (result : Result (Unit {0}) AdminFault) (next : Session) (new : View) (page : List ℕ) : Type 0 where
  pub alive : OnOk result (IsAlive found next new)
  pub after : OnOk result (living_of next ≡ d.after)
  pub text : OnOk result (page ≡ front ++ d.text)
  pub between : LeavesOnly old new (LeavesEither old (living_of session).tables d.after.tables)

-- A line was taken over any disk, even one that reports nothing. What it writes is on the page after what was there,
-- and the session is the one after it. If it opens the session, some tables are found in the store, or none.
pub record HasFollowed (d : Found → Done) (front : List ℕ) (next : Session) (page : List ℕ) : Type 0 where
  pub found : Option NodeState
  pub text : page ≡ front ++ (d (Ok found)).text
  pub after : living_of next ≡ (d (Ok found)).after

-- a centre that is up has its store and the setting of its network, which was declared
abbrev pub CanServe : Script → Option (Hosted CoreValue) → Type 0
CanServe network None = ⊤
CanServe network (Some host) = (is_some host.store ≡ true) × (has_centre network ≡ true)
    × (host.core.setting ≡ setting_of network)

abbrev pub CanGoOn : Session → Type 0
CanGoOn session = CanServe session.network session.centre

-- When each fault of a line comes that says this. Those of a store that is no centre's come only before the session is
-- open, and the store is worn only where the line has something to store.
abbrev pub IsLineFault : Telling → Option Sentence → Session → View → View → AdminFault → Type 0
IsLineFault tells says session old new Disk = Rose old.faults new.faults
IsLineFault tells says session old new NoStore = (session.centre ≡ None)
    × (IsTrue tells.content → found_on old.seen ≡ Err NoStore)
IsLineFault tells says session old new (BadStore at) = (session.centre ≡ None)
    × (IsTrue tells.content → found_on old.seen ≡ Err (BadStore at))
IsLineFault tells says session old new Worn = (host : Hosted CoreValue) × (session.centre ≡ Some host)
    × (IsTrue tells.content → (c : Setting) (s : NodeState) → IsUp c s host old → (z : Standing)
    × (stands new.seen ≡ Some z) × IsWornOut z) × HasChanges says (living_of session)
IsLineFault tells says session old new Write = ⊥
IsLineFault tells says session old new NoMemory = Unrisen old.faults new.faults
