-- What is done to one store: sessions of `tc_centre` and runs of `admin`, one after the other, in any order.
use Rattle.std.specs.Prelude.{List, ℕ, [], ◌∷◌, ◌++◌, ⊤}
use Rattle.law_sessions.specs.Runs as runs
use Rattle.law_sessions.specs.Runs.{Run, run_seals}
use Rattle.law_sessions.specs.Sessions as sessions
use Rattle.law_sessions.specs.Sessions.{Session, lines_seal}
use Rattle.zb_centre_store.specs.Standing.{found_on}
use Rattle.zb_live.specs.Living.{Found, fresh, served}
use Rattle.zb_model.specs.Data.{Term}
use Rattle.zb_script.specs.Scripts.{IsScript}

-- a session, or a run of `admin`; each has a header or network of its own
pub data Deed : Type 0 where
  Lived : (session : Session) → Deed
  Ran : (run : Run) → Deed

-- the image that its end, or a crash at any moment of it, left of the disk
abbrev pub left : Deed → List ℕ
left (Lived session) = session.left
left (Ran run) = run.left

-- what it leaves, by what it found
abbrev pub IsLeft : Deed → Found → Type 0
IsLeft (Lived session) found = sessions.IsLeft found (served found session.lines fresh).after.tables session.left
IsLeft (Ran run) found = IsScript run.script × runs.IsLeft run found

-- each deed begins on the image that the one before left
abbrev pub AreDeeds : List ℕ → List Deed → Type 0
AreDeeds image [] = ⊤
AreDeeds image (deed ∷ more) = IsLeft deed (found_on image) × AreDeeds (left deed) more

-- the image that the last of them left
abbrev pub last_left : List ℕ → List Deed → List ℕ
last_left image [] = image
last_left image (deed ∷ more) = last_left (left deed) more

-- what the centre seals in a deed
abbrev pub deed_seals : Deed → Found → List Term
deed_seals (Lived session) found = lines_seal found session.lines fresh
deed_seals (Ran run) found = run_seals run found

-- what it seals in all of them
abbrev pub all_seals : List ℕ → List Deed → List Term
all_seals image [] = []
all_seals image (deed ∷ more) = deed_seals deed (found_on image) ++ all_seals (left deed) more
