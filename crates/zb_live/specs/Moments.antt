-- The moments of a session: what a crash at each of them leaves on the disk, what was written by then, and what the
-- input still had.
use Rattle.std.specs.Prelude.{ℕ, ◌≡◌, ◌≤◌, ◌++◌, List, [], ◌∷◌, length, Option, Some}
use Rattle.std.specs.Io.KnownBytes.{Appends}
use Rattle.zb_base.specs.Outside.{AppendsFront, risen}
use Rattle.zb_centre_store.specs.Outside.{Outside}
use Rattle.zb_disk.specs.View.{View, LeavesOnly}
use Rattle.zb_live.specs.Alive.{CrashLeaves}
use Rattle.zb_live.specs.Living.{Found, fresh, served}
use Rattle.zb_live.specs.WholeLines.{whole_lines}
use Rattle.zb_model.specs.Data.{Bytes}
use Rattle.zb_live.specs.Feeding.{most_read}

-- what definitions have of a source: the bytes that are still to come, and its counts of calls and faults
pub record Input : Type 0 where
  pub rest : Option Bytes
  pub calls : ℕ
  pub faults : ℕ

abbrev pub input_of : Option Bytes → ℕ → ℕ → Input
input_of rest calls faults = record { rest = rest; calls = calls; faults = faults }

-- the disk, the output and the input at a moment
pub record Moment (D W : Type 0) : Type 0 where
  pub disk : D
  pub out : W
  pub input : Input

-- An image holds the session after the first of some lines, and all that was written by then is a prefix of what these
-- write. So each line is among them of whose answer a byte was written.
pub record Covers {D W : Type 0} (x : Outside D W) (found : Found) (first : View) (lines : List Bytes)
    (before out : W) (image : List ℕ) : Type 0 where
  pub taken : List Bytes
  pub more : List Bytes
  pub split : taken ++ more ≡ lines
  pub holds : CrashLeaves first (served found taken fresh).after.tables image
  pub written : AppendsFront (x.taken before) (x.taken out) (served found taken fresh).text

-- Of all bytes of the input these came so far, and the whole lines among them were all answered: what was written is
-- just what they write. Then the input is read: at most 4,096 bytes come, and the others are left.
pub record AnsweredFirst {D W : Type 0} (x : Outside D W) (found : Found) (all : Bytes) (before : W)
    (now next : Moment D W) : Type 0 where
  pub came : Bytes
  pub read : Bytes
  pub left : Bytes
  pub all_is : all ≡ came ++ (read ++ left)
  pub to_come : now.input.rest ≡ Some (read ++ left)
  pub left_is : next.input.rest ≡ Some left
  pub few : length read ≤ most_read
  pub answered : Appends (x.taken before) (x.taken now.out) (served found (whole_lines came) fresh).text

-- From one moment to a later one. The disk is called, and nothing is written or read. Or something is written, and the
-- disk and the input stay as they are. A crash at any moment in between leaves an image that covers what was written
-- by then. Or the input is read by one call, after all whole lines that came were answered.
pub data Stretch {D W : Type 0} (x : Outside D W) (found : Found) (first : View) (input : Input) (lines : List Bytes)
    (before : W) (now next : Moment D W) : Type 0 where
  calls : next.out ≡ now.out → next.input ≡ now.input → LeavesOnly (x.state now.disk) (x.state next.disk)
      (Covers x found first lines before next.out)
      → Stretch x found first input lines before now next
  writes : (text : Bytes) → next.disk ≡ now.disk → next.input ≡ now.input
      → AppendsFront (x.taken now.out) (x.taken next.out) text
      → ((image : List ℕ) → (x.state next.disk).images image → Covers x found first lines before next.out image)
      → Stretch x found first input lines before now next
  reads : next.disk ≡ now.disk → next.out ≡ now.out → next.input.calls ≡ risen now.input.calls 1
      → ((all : Bytes) → input.rest ≡ Some all → AnsweredFirst x found all before now next)
      → Stretch x found first input lines before now next

-- from one moment over these to the last one
abbrev pub Goes : {D W : Type 0} → Outside D W → Found → View → Input → List Bytes → W → Moment D W
    → List (Moment D W) → Moment D W → Type 0
Goes x found first input lines before now [] last = last ≡ now
Goes x found first input lines before now (next ∷ more) last = Stretch x found first input lines before now next
    × Goes x found first input lines before next more last
