-- What serving a session does to its input, the disk and the output.
use Rattle.std.specs.Prelude.{ℕ, ◌≡◌, ◌≢◌, ◌≤◌, ◌++◌, length, List, [], ◌∷◌, Some, Result, Err, IfErr, OnOk, OnErr, IsTrue, ⊤}
use Rattle.std.specs.List.{AllByRecursion}
use Rattle.std.specs.Io.KnownBytes.{Appends}
use Rattle.zb_base.specs.Outside.{AppendsFront, Rose, Unrisen}
use Rattle.zb_centre_store.specs.Outside.{Outside}
use Rattle.zb_centre_store.specs.Standing.{CanBeServed, IsWornOut, found_on}
use Rattle.zb_centre_store.specs.declared.fault.AdminFault.TheVariants as store
use Rattle.zb_live.specs.Alive.{CrashLeaves}
use Rattle.zb_live.specs.Living.{Found, HasChanges, fresh, served}
use Rattle.zb_live.specs.Feeding.{BeginsLong}
use Rattle.zb_live.specs.Following.{WritesAll, WritesFront, WritesWorn}
use Rattle.zb_live.specs.Grammar.{meaning_of}
use Rattle.zb_live.specs.Moments.{Goes, Input, Moment}
use Rattle.zb_live.specs.WholeLines.{longest_line, whole_lines}
use Rattle.zb_live.specs.declared.fault.LiveFault.{LiveFault}
use Rattle.zb_live.specs.declared.fault.LiveFault.TheVariants.{Read, TooLong, Write, Disk, NoStore, BadStore, Worn, NoMemory}
use Rattle.zb_model.specs.Data.{Bytes}
use Rattle.zb_store.specs.Layout.{Standing, stands}

abbrev pub Ended : Type 0
Ended = Result (Unit {0}) LiveFault

-- When each fault comes. Those of a store that isn't a centre's say what was found on the disk. If memory is short,
-- the disk's count of faults is as it was.
abbrev pub IsLiveFault : {D W : Type 0} → Outside D W → Input → D → W → Input → D → W → LiveFault → Type 0
IsLiveFault x input old before rest new after Read = Rose input.faults rest.faults
IsLiveFault x input old before rest new after TooLong = (bytes : Bytes) → input.rest ≡ Some bytes
    → (front back : Bytes) × (bytes ≡ front ++ back) × BeginsLong back
IsLiveFault x input old before rest new after Write = Rose (x.faults before) (x.faults after)
IsLiveFault x input old before rest new after Disk = Rose (x.state old).faults (x.state new).faults
IsLiveFault x input old before rest new after NoStore = IsTrue x.tells.content → found_on (x.state old).seen
    ≡ Err store.NoStore
IsLiveFault x input old before rest new after (BadStore at) = IsTrue x.tells.content → found_on (x.state old).seen
    ≡ Err (store.BadStore at)
IsLiveFault x input old before rest new after Worn = IsTrue x.tells.content → CanBeServed (x.state old)
    → (z : Standing) × (stands (x.state new).seen ≡ Some z) × IsWornOut z
IsLiveFault x input old before rest new after NoMemory = Unrisen (x.state old).faults (x.state new).faults

-- The last of these lines had something to store: the policy's answer to it, in the session after the lines before it,
-- has changes. All that those write was written.
pub record IsWornAt {D W : Type 0} (x : Outside D W) (found : Found) (lines : List Bytes) (before after : W) : Type 0
  where
    pub front : List Bytes
    pub line : Bytes
    pub split : lines ≡ front ++ line ∷ []
    pub changes : HasChanges (meaning_of line) (served found front fresh).after
    pub written : Appends (x.taken before) (x.taken after) (served found front fresh).text

-- An end that no fault of the input, the output or the store gives.
abbrev pub EndsItself : Ended → Type 0
EndsItself (Err Read) = ⊥
EndsItself (Err Write) = ⊥
EndsItself (Err Disk) = ⊥
EndsItself _ = ⊤

-- A session was served.
pub record Lives {D W : Type 0} (x : Outside D W) (input : Input) (old : D) (before : W) (result : Ended)
    (rest : Input) (new : D) (after : W) : Type 0 where
  -- the lines that were taken: the first whole lines of the input, and at Ok all of them
  pub lines : List Bytes
  pub taken : (bytes : Bytes) → input.rest ≡ Some bytes → (more : List Bytes) × (whole_lines bytes ≡ lines ++ more)
  pub all : OnOk result ((bytes : Bytes) → input.rest ≡ Some bytes → (whole_lines bytes ≡ lines)
      × (rest.rest ≡ Some []))
  -- at Ok what they write was written, and at a fault a prefix of it
  pub text : OnOk result (IsTrue x.tells.content → CanBeServed (x.state old)
      → Appends (x.taken before) (x.taken after) (served (found_on (x.state old).seen) lines fresh).text)
  pub front : OnErr result (IsTrue x.tells.content → CanBeServed (x.state old)
      → AppendsFront (x.taken before) (x.taken after) (served (found_on (x.state old).seen) lines fresh).text)
  -- Over any store: at Ok what was written is the text of these lines. If one opens the session, it begins with some
  -- tables or none. At a fault a prefix of this text was written.
  pub told : OnOk result (WritesAll lines (x.taken before) (x.taken after))
  pub told_front : OnErr result (WritesFront lines (x.taken before) (x.taken after))
  -- at Ok every image holds the session after them
  pub last : OnOk result
      (IsTrue x.tells.content → CanBeServed (x.state old) → (image : List ℕ) → (x.state new).images image
      → CrashLeaves (x.state old) (served (found_on (x.state old).seen) lines fresh).after.tables image)
  -- At every moment an image holds the session after some first lines. Each line is among them of whose answer a byte
  -- was written. Before each read all whole lines that came were answered.
  pub moments : IsTrue x.tells.content → CanBeServed (x.state old)
      → (between : List (Moment D W)) × Goes x (found_on (x.state old).seen) (x.state old) input lines before
      (record { disk = old; out = before; input = input }) between (record { disk = new; out = after; input = rest })
  -- no line that was taken is longer than a line may be
  pub short : AllByRecursion (λ (line : Bytes). length line ≤ longest_line) lines
  -- when each fault comes
  pub faults : IfErr result (IsLiveFault x input old before rest new after)
  -- The store is worn only at a line that has something to store, the last that was taken. The second says so of any
  -- store, with some tables if a line opens the session.
  pub worn : result ≡ Err Worn → IsTrue x.tells.content → CanBeServed (x.state old)
      → IsWornAt x (found_on (x.state old).seen) lines before after
  pub told_worn : result ≡ Err Worn → WritesWorn lines (x.taken before) (x.taken after)
  -- A fault of the input, the output or the store is reported as nothing else: the count of faults is as it was at
  -- each other end. So if none of the three fails, the session succeeds, or ends because of a line, the store
  -- or the memory.
  pub unread : result ≢ Err Read → Unrisen input.faults rest.faults
  pub unwritten : result ≢ Err Write → Unrisen (x.faults before) (x.faults after)
  pub unrisen : result ≢ Err Disk → Unrisen (x.state old).faults (x.state new).faults
  pub complete : (Rose input.faults rest.faults → ⊥) → (Rose (x.faults before) (x.faults after) → ⊥)
      → (Rose (x.state old).faults (x.state new).faults → ⊥) → EndsItself result
