-- What the centre accepts in sessions and runs of `admin` on one store.
use Rattle.std.specs.Prelude.{ℕ, ◌≡◌, ◌<◌, ◌++◌, List, [], ◌∷◌, Option, Some, None, Result, Ok, Err, ⊤}
use Rattle.std.specs.List.{AllByRecursion}
use Rattle.law_sessions.specs.Deeds.{Deed, Lived, Ran, left}
use Rattle.zb_centre_store.specs.Standing.{found_on}
use Rattle.zb_live.specs.Events.{task_for}
use Rattle.zb_live.specs.Grammar.{meaning_of}
use Rattle.zb_live.specs.Living.{Found, Living, done, fresh, setting_of}
use Rattle.zb_live.specs.Said.{Sentence, Happens}
use Rattle.zb_live.specs.declared.cause.Cause.{Cause}
use Rattle.zb_model.specs.Answer.{answer}
use Rattle.zb_model.specs.Data.{Bytes, Task, Term}
use Rattle.zb_model.specs.State.{NodeState}
use Rattle.zb_model_real.specs.Real.{real}
use Rattle.zb_script.specs.Scripts.{Script}

-- An event of the centre accepts what the policy's answer to its task accepts.
abbrev pub event_accepts : Script → NodeState → Result Task Cause → List Term
event_accepts network s (Ok task) = (answer real (setting_of network) s task).accepts
event_accepts network s (Err cause) = []

-- of all lines those of events accept
abbrev pub sentence_accepts : Script → NodeState → Sentence → List Term
sentence_accepts network s (Happens event) = event_accepts network s (task_for network.stations event)
sentence_accepts network s _ = []

-- nothing is accepted before the session is open, nor at a line that means nothing
abbrev pub meaning_accepts : Script → Option NodeState → Option Sentence → List Term
meaning_accepts network None said = []
meaning_accepts network (Some s) None = []
meaning_accepts network (Some s) (Some sentence) = sentence_accepts network s sentence

-- what the next line accepts
unfoldable pub line_accepts : Bytes → Living → List Term
line_accepts line v = meaning_accepts v.network v.tables (meaning_of line)

-- what lines accept, one after the other
abbrev pub lines_accept : Found → List Bytes → Living → List Term
lines_accept found [] v = []
lines_accept found (line ∷ more) v = line_accepts line v ++ lines_accept found more (done found line v).after

-- a run of `admin` is given no frame
abbrev pub deed_accepts : Deed → Found → List Term
deed_accepts (Lived session) found = lines_accept found session.lines fresh
deed_accepts (Ran run) found = []

-- what all deeds accept
abbrev pub all_accepts : List ℕ → List Deed → List Term
all_accepts image [] = []
all_accepts image (deed ∷ more) = deed_accepts deed (found_on image) ++ all_accepts (left deed) more

-- the later of two terms of one layer, base key and source has the greater counter
abbrev pub Rises : Term → Term → Type 0
Rises t u = t.layer ≡ u.layer → t.base ≡ u.base → t.source ≡ u.source → t.counter < u.counter

-- each later one does
abbrev pub AllRise : List Term → Type 0
AllRise [] = ⊤
AllRise (t ∷ ts) = AllByRecursion (Rises t) ts × AllRise ts
