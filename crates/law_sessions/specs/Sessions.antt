-- All sessions on one store, one after the other: what each finds in the store, and what the centre seals in them.
use Rattle.std.specs.Prelude.{ℕ, ◌≡◌, ◌++◌, true, is_some, List, [], ◌∷◌, Option, Some, None, Result, Ok, Err, ⊤}
use Rattle.std.specs.List.{AllByRecursion}
use Rattle.zb_centre_store.specs.Standing.{StandsAs, found_on}
use Rattle.zb_live.specs.Events.{task_for}
use Rattle.zb_live.specs.Living.{Found, Living, done, fresh, served, setting_of}
use Rattle.zb_live.specs.Grammar.{meaning_of}
use Rattle.zb_live.specs.Said.{Sentence, Happens}
use Rattle.zb_live.specs.declared.cause.Cause.{Cause}
use Rattle.zb_model.specs.Answer.{answer}
use Rattle.zb_model.specs.Data.{Bytes, Layer, Nwk, Aps, Task, Term}
use Rattle.zb_model.specs.State.{NodeState, after_boot, net_of, shown}
use Rattle.zb_model_real.specs.Real.{real}
use Rattle.zb_script.specs.Scripts.{Script}
use Rattle.zb_stored_tables.specs.Stored.{IsKept}

-- ---- what is sealed

-- An event of the centre seals what the policy's answer to its task seals. One that is refused for a name seals
-- nothing.
abbrev pub event_seals : Script → NodeState → Result Task Cause → List Term
event_seals network s (Ok task) = (answer real (setting_of network) s task).seals
event_seals network s (Err cause) = []

-- of all lines those of events seal
abbrev pub sentence_seals : Script → NodeState → Sentence → List Term
sentence_seals network s (Happens event) = event_seals network s (task_for network.stations event)
sentence_seals network s _ = []

-- nothing is sealed before the session is open, nor at a line that means nothing
abbrev pub meaning_seals : Script → Option NodeState → Option Sentence → List Term
meaning_seals network None said = []
meaning_seals network (Some s) None = []
meaning_seals network (Some s) (Some sentence) = sentence_seals network s sentence

-- what the next line seals
unfoldable pub line_seals : Bytes → Living → List Term
line_seals line v = meaning_seals v.network v.tables (meaning_of line)

-- what lines seal, one after the other
abbrev pub lines_seal : Found → List Bytes → Living → List Term
lines_seal found [] v = []
lines_seal found (line ∷ more) v = line_seals line v ++ lines_seal found more (done found line v).after

-- ---- sessions

-- What the next session finds in the store: where the one before was never opened what that found, and else its tables
-- after a boot.
abbrev pub found_after : Found → Option NodeState → Found
found_after found None = found
found_after found (Some s) = Ok (Some (shown (after_boot s)))

abbrev pub left_by : Found → List Bytes → Found
left_by found lines = found_after found (served found lines fresh).after.tables

-- What all sessions on a store seal. A session is the list of its lines that are stored: all that it took, or those up
-- to where it was killed, of which the last one may not have been answered any more.
abbrev pub sessions_seal : Found → List (List Bytes) → List Term
sessions_seal found [] = []
sessions_seal found (lines ∷ more) = lines_seal found lines fresh ++ sessions_seal (left_by found lines) more

-- what they leave in the store
abbrev pub left_by_all : Found → List (List Bytes) → Found
left_by_all found [] = found
left_by_all found (lines ∷ more) = left_by_all (left_by found lines) more

-- ---- sessions on a disk

-- A session with the image that its end, or a crash at any moment of it, left of the disk: its lines are those that
-- the image holds.
pub record Session : Type 0 where
  pub lines : List Bytes
  pub left : List ℕ

-- The image holds the tables after the lines, or what was found, where the session was never open.
abbrev pub IsLeft : Found → Option NodeState → List ℕ → Type 0
IsLeft found None left = found_on left ≡ found
IsLeft found (Some s) left = StandsAs (Some s) left

-- each session begins on the image that the one before left
abbrev pub AreSessions : List ℕ → List Session → Type 0
AreSessions image [] = ⊤
AreSessions image (x ∷ more) = IsLeft (found_on image) (served (found_on image) x.lines fresh).after.tables x.left
    × AreSessions x.left more

-- what they seal
abbrev pub sealed_on : List ℕ → List Session → List Term
sealed_on image [] = []
sealed_on image (x ∷ more) = lines_seal (found_on image) x.lines fresh ++ sealed_on x.left more

-- ---- what is claimed

-- the tables keep the rules for records and the widths of a record, if there are some
abbrev pub AreKept : Option NodeState → Type 0
AreKept None = ⊤
AreKept (Some s) = IsKept s

-- at NWK each network key has counters of its own, at APS the centre has one for all keys
abbrev pub AreCountedAsOne : Layer → Bytes → Bytes → Type 0
AreCountedAsOne Nwk key other = key ≡ other
AreCountedAsOne Aps key other = ⊤

-- Two terms take one counter. So do those of one layer that have one key and one counter.
pub record TakeOneCounter (t u : Term) : Type 0 where
  pub layer : t.layer ≡ u.layer
  pub key : AreCountedAsOne t.layer t.base u.base
  pub counter : t.counter ≡ u.counter

-- no two of these terms do
abbrev pub NoneTwice : List Term → Type 0
NoneTwice [] = ⊤
NoneTwice (t ∷ ts) = AllByRecursion (λ u. TakeOneCounter t u → ⊥) ts × NoneTwice ts

-- the base key of a NWK term is a network key of the backup; of APS terms nothing is asked
abbrev pub IsUnderKept : Layer → Bytes → NodeState → Type 0
IsUnderKept Nwk key backup = is_some (net_of key backup) ≡ true
IsUnderKept Aps key backup = ⊤

-- no term of the second list takes a counter of the first one, under a key that the backup has
abbrev pub NoneAgain : NodeState → List Term → List Term → Type 0
NoneAgain backup before since =
    AllByRecursion
    (λ (t : Term). IsUnderKept t.layer t.base backup → AllByRecursion (λ u. TakeOneCounter t u → ⊥) since) before
