-- The log of a hub has the lines of the policy's answers to its tasks, session after session.
use Rattle.std.proofs.Common.{◌≡◌, ℕ, ◌⊎◌, ◌++◌, Bool, true, false, if◌then◌else◌, List, [], ◌∷◌, flat_map, Option, Some, None, Result, Ok, Err, inl, inr, refl, sym, ap, ◌∙◌, subst, append_assoc}
use Rattle.std.specs.Prelude.{is_some, ⊤}
use Rattle.law_sessions.specs.Hubs.{without_numbers}
use Rattle.law_sessions.specs.Logs.{AllHaveSetting, HasSetting, hub_log, hub_tasks, line_tasks, line_writes, lines_tasks, lines_write, meaning_tasks, opened_lines, opened_tasks, sentence_tasks, task_in, task_writes, writes_in}
use Rattle.law_sessions.specs.Sessions.{found_after}
use Rattle.law_sessions.proofs.HubRuns.{again, hub_lines, next_tables, tables_after_all, tasks_lines}
use Rattle.law_sessions.proofs.PlainLines.{both_parts, plain, plain_lines}
use Rattle.zb_live.specs.Events.{task_for}
use Rattle.zb_live.specs.Living.{Found, Living, counted, declared, done, fresh, happened, next, on_header, on_meaning, on_open, on_stage, opened, refused, served, setting_of}
use Rattle.zb_live.specs.Shown.{event_lines}
use Rattle.zb_live.specs.Grammar.{meaning_of}
use Rattle.zb_live.specs.Said.{Sentence, Quiet, Founds, Introduces, Logs, Opens, Happens, Asks}
use Rattle.zb_live.specs.declared.cause.Cause.{Cause}
use Rattle.zb_live.specs.declared.cause.Cause.TheVariants as cause
use Rattle.zb_model.specs.Answer.{Answer, answer}
use Rattle.zb_model.specs.Data.{Bytes, Task}
use Rattle.zb_model.specs.Lines.{Line, Boot, DownReset}
use Rattle.zb_model.specs.Rules.{Setting}
use Rattle.zb_model.specs.State.{NodeState}
use Rattle.zb_model_real.specs.Real.{real}
use Rattle.zb_script.specs.Judge.{after_centre, after_peer, has_centre}
use Rattle.zb_script.specs.Scripts.{Script}
use Rattle.zb_script.specs.declared.error.ScriptCause.{ScriptCause}

-- ---- tasks, one after the other

tables_after_both : (c : Setting) (s : NodeState) (ts us : List Task) → tables_after_all real c s (ts ++ us)
    ≡ tables_after_all real c (tables_after_all real c s ts) us
tables_after_both c s [] us = refl
tables_after_both c s (t ∷ ts) us = tables_after_both c (next_tables real c s t) ts us

lines_of_both : (c : Setting) (n : ℕ) (s : NodeState) (ts us : List Task) → tasks_lines real c n s (ts ++ us)
    ≡ tasks_lines real c n s ts ++ tasks_lines real c n (tables_after_all real c s ts) us
lines_of_both c n s [] us = refl
lines_of_both c n s (t ∷ ts) us =
    ap (λ l. plain_lines n (answer real c s t) ++ l) (lines_of_both c n (next_tables real c s t) ts us)
    ∙ sym (append_assoc (plain_lines n (answer real c s t)) (tasks_lines real c n (next_tables real c s t) ts)
    (tasks_lines real c n (tables_after_all real c (next_tables real c s t) ts) us))

-- ---- a line of an open session

-- a line with these tasks and lines continues from these tables
record Goes (c : Setting) (s : NodeState) (v after : Living) (ts : List Task) (ls : List Line) : Type 0 where
  pub lines : without_numbers ls ≡ tasks_lines real c c.me.eui s ts
  pub tables : after.tables ≡ Some (tables_after_all real c s ts)
  pub network : after.network ≡ v.network

event_plain : (event n frame : ℕ) (a : Answer) → without_numbers (event_lines event n frame a) ≡ plain_lines n a
unfolding event_lines
event_plain event n frame a = plain event n frame a

happened_goes : (number : ℕ) (v : Living) (c : Setting) (s : NodeState) (r : Result Task Cause) → v.tables ≡ Some s
    → setting_of v.network ≡ c
    → Goes c s v (happened number v s r).after (task_in r) (flat_map (task_writes v s) (task_in r))
happened_goes number v c s (Ok task) some same = record {
  lines = both_parts (task_writes v s task) [] (plain_lines c.me.eui (answer real c s task)) []
      (subst (λ (x : Setting). without_numbers (task_writes v s task) ≡ plain_lines x.me.eui (answer real x s task))
      same
      (event_plain (next v.events) (setting_of v.network).me.eui (next v.frames)
      (answer real (setting_of v.network) s task))) refl;
  tables = ap (λ (x : Setting). Some (next_tables real x s task)) same;
  network = refl;
}
happened_goes number v c s (Err why) some same = record { lines = refl; tables = some; network = refl }

open_goes : (number : ℕ) (v : Living) (c : Setting) (s : NodeState) (said : Sentence) → v.tables ≡ Some s
    → setting_of v.network ≡ c
    → Goes c s v (on_open number s said v).after (sentence_tasks v.network said)
    (flat_map (task_writes v s) (sentence_tasks v.network said))
open_goes number v c s Quiet some same = record { lines = refl; tables = some; network = refl }
open_goes number v c s (Founds name eui out_block in_block) some same =
    record { lines = refl; tables = some; network = refl }
open_goes number v c s (Introduces name role eui short) some same =
    record { lines = refl; tables = some; network = refl }
open_goes number v c s (Logs log) some same = record { lines = refl; tables = some; network = refl }
open_goes number v c s Opens some same = record { lines = refl; tables = some; network = refl }
open_goes number v c s (Happens event) some same =
    happened_goes number v c s (task_for v.network.stations event) some same
open_goes number v c s (Asks question) some same = record { lines = refl; tables = some; network = refl }

meaning_goes : (number : ℕ) (found : Found) (v : Living) (c : Setting) (s : NodeState) (m : Option Sentence)
    → v.tables ≡ Some s → setting_of v.network ≡ c
    → Goes c s v (on_meaning number found m v).after (meaning_tasks v.network (Some s) m)
    (flat_map (task_writes v s) (meaning_tasks v.network (Some s) m))
meaning_goes number found v c s None some same = record { lines = refl; tables = some; network = refl }
meaning_goes number found v c s (Some said) some same =
    subst
    (λ (o : Option NodeState). Goes c s v (on_stage number found o said v).after (sentence_tasks v.network said)
    (flat_map (task_writes v s) (sentence_tasks v.network said)))
    (sym some) (open_goes number v c s said some same)

line_goes : (found : Found) (line : Bytes) (v : Living) (c : Setting) (s : NodeState) → v.tables ≡ Some s
    → setting_of v.network ≡ c → Goes c s v (done found line v).after (line_tasks line v) (line_writes line v)
unfolding done line_tasks line_writes
line_goes found line v c s some same =
    subst
    (λ (o : Option NodeState). Goes c s v (on_meaning (next v.lines) found (meaning_of line) (counted v)).after
    (meaning_tasks v.network o (meaning_of line)) (writes_in v o (meaning_tasks v.network o (meaning_of line))))
    (sym some)
    (from_counted (meaning_goes (next v.lines) found (counted v) c s (meaning_of line) some same))
  where
    from_counted : Goes c s (counted v) (on_meaning (next v.lines) found (meaning_of line) (counted v)).after
        (meaning_tasks v.network (Some s) (meaning_of line))
        (flat_map (task_writes (counted v) s) (meaning_tasks v.network (Some s) (meaning_of line)))
        → Goes c s v (on_meaning (next v.lines) found (meaning_of line) (counted v)).after
        (meaning_tasks v.network (Some s) (meaning_of line))
        (flat_map (task_writes v s) (meaning_tasks v.network (Some s) (meaning_of line)))
    from_counted g = record { lines = g.lines; tables = g.tables; network = g.network }

open_lines_go : (found : Found) (lines : List Bytes) (v : Living) (c : Setting) (s : NodeState) → v.tables ≡ Some s
    → setting_of v.network ≡ c
    → Goes c s v (served found lines v).after (lines_tasks found lines v) (lines_write found lines v)
open_lines_go found [] v c s some same = record { lines = refl; tables = some; network = refl }
open_lines_go found (line ∷ more) v c s some same =
    let one = line_goes found line v c s some same in
    let d = (done found line v).after in
    let ts = line_tasks line v in
    let us = lines_tasks found more d in
    let all = open_lines_go found more d c (tables_after_all real c s ts) one.tables
    (ap setting_of one.network ∙ same) in
    record {
      lines = both_parts (line_writes line v) (lines_write found more d) (tasks_lines real c c.me.eui s ts)
          (tasks_lines real c c.me.eui (tables_after_all real c s ts) us) one.lines all.lines
          ∙ sym (lines_of_both c c.me.eui s ts us);
      tables = all.tables ∙ ap (λ x. Some x) (sym (tables_after_both c s ts us));
      network = all.network ∙ one.network;
    }

-- ---- a session, from its first line on

-- what is found in a store with these tables
abbrev pub holding : NodeState → Found
holding t = Ok (Some t)

-- after a line of the header the session is closed as before, or open with what was found
abbrev IsBegun : NodeState → Option NodeState → Type 0
IsBegun t o = (o ≡ None) ⊎ (o ≡ Some t)

declared_begun : (number : ℕ) (v : Living) (t : NodeState) (r : Result Script ScriptCause) → v.tables ≡ None
    → IsBegun t (declared number v r).after.tables
declared_begun number v t (Ok network) none = inl none
declared_begun number v t (Err why) none = inl none

header_begun : (number : ℕ) (v : Living) (t : NodeState) (said : Sentence) → v.tables ≡ None
    → IsBegun t (on_header number (holding t) said v).after.tables
header_begun number v t Quiet none = inl none
header_begun number v t (Founds name eui out_block in_block) none =
    declared_begun number v t (after_centre v.network name eui out_block in_block) none
header_begun number v t (Introduces name role eui short) none =
    declared_begun number v t (after_peer v.network name role eui short) none
header_begun number v t (Logs log) none = inl none
header_begun number v t Opens none = by_centre (has_centre v.network)
  where
    by_centre : (b : Bool) → IsBegun t (if b then opened number (holding t) v
        else refused number cause.NoCentre v).after.tables
    by_centre true = inr refl
    by_centre false = inl none
header_begun number v t (Happens event) none = inl none
header_begun number v t (Asks question) none = inl none

meaning_begun : (number : ℕ) (v : Living) (t : NodeState) (m : Option Sentence) → v.tables ≡ None
    → IsBegun t (on_meaning number (holding t) m v).after.tables
meaning_begun number v t None none = inl none
meaning_begun number v t (Some said) none =
    subst (λ (o : Option NodeState). IsBegun t (on_stage number (holding t) o said v).after.tables) (sym none)
    (header_begun number v t said none)

line_begun : (line : Bytes) (v : Living) (t : NodeState) → v.tables ≡ None
    → IsBegun t (done (holding t) line v).after.tables
unfolding done
line_begun line v t none = meaning_begun (next v.lines) (counted v) t (meaning_of line) none

no_tasks : (line : Bytes) (v : Living) → v.tables ≡ None → line_tasks line v ≡ []
unfolding line_tasks
no_tasks line v none = ap (λ o. meaning_tasks v.network o (meaning_of line)) none

no_writes : (line : Bytes) (v : Living) → v.tables ≡ None → line_writes line v ≡ []
unfolding line_writes
no_writes line v none = ap (λ o. writes_in v o (line_tasks line v)) none

-- a session that was opened has the lines of its tasks, and leaves their tables
record IsServed (c : Setting) (t s : NodeState) (ts : List Task) (ls : List Line) : Type 0 where
  pub tables : s ≡ tables_after_all real c t ts
  pub lines : without_numbers ls ≡ tasks_lines real c c.me.eui t ts

abbrev IsServedIn : Setting → NodeState → List Task → List Line → Option NodeState → Type 0
IsServedIn c t ts ls None = ⊤
IsServedIn c t ts ls (Some s) = IsServed c t s ts ls

from_open : (c : Setting) (t : NodeState) (v after : Living) (ts : List Task) (ls : List Line)
    → Goes c t v after ts ls → IsServedIn c t ts ls after.tables
from_open c t v after ts ls g = subst (IsServedIn c t ts ls) (sym g.tables) (record { tables = refl; lines = g.lines })

lines_serve : (lines : List Bytes) (v : Living) (c : Setting) (t : NodeState) → v.tables ≡ None
    → HasSetting c (served (holding t) lines v).after
    → IsServedIn c t (lines_tasks (holding t) lines v) (lines_write (holding t) lines v)
    (served (holding t) lines v).after.tables
lines_serve [] v c t none has = subst (IsServedIn c t [] []) (sym none) tt
lines_serve (line ∷ more) v c t none has =
    by_begun (line_begun line v t none) (λ still. lines_serve more (done (holding t) line v).after c t still has)
  where
    d : Living
    d = (done (holding t) line v).after

    rest : IsServedIn c t (lines_tasks (holding t) more d) (lines_write (holding t) more d)
        (served (holding t) more d).after.tables
        → IsServedIn c t (lines_tasks (holding t) (line ∷ more) v) (lines_write (holding t) (line ∷ more) v)
        (served (holding t) (line ∷ more) v).after.tables
    rest is = subst
        (λ ts. IsServedIn c t (ts ++ lines_tasks (holding t) more d) (lines_write (holding t) (line ∷ more) v)
        (served (holding t) (line ∷ more) v).after.tables) (sym (no_tasks line v none))
        (subst
        (λ ls. IsServedIn c t (lines_tasks (holding t) more d) (ls ++ lines_write (holding t) more d)
        (served (holding t) (line ∷ more) v).after.tables) (sym (no_writes line v none)) is)

    open_here : d.tables ≡ Some t → (setting_of d.network ≡ c)
        → IsServedIn c t (lines_tasks (holding t) more d) (lines_write (holding t) more d)
        (served (holding t) more d).after.tables
    open_here some same = from_open c t d (served (holding t) more d).after (lines_tasks (holding t) more d)
        (lines_write (holding t) more d) (open_lines_go (holding t) more d c t some same)

    setting_there : d.tables ≡ Some t → setting_of d.network ≡ c
    setting_there some =
        let g = open_lines_go (holding t) more d (setting_of d.network) t some refl in
        ap setting_of (sym g.network) ∙ has (ap is_some g.tables)

    by_begun : IsBegun t d.tables
        → (d.tables ≡ None
        → IsServedIn c t (lines_tasks (holding t) more d) (lines_write (holding t) more d)
        (served (holding t) more d).after.tables)
        → IsServedIn c t (lines_tasks (holding t) (line ∷ more) v) (lines_write (holding t) (line ∷ more) v)
        (served (holding t) (line ∷ more) v).after.tables
    by_begun (inl still) closed = rest (closed still)
    by_begun (inr some) closed = rest (open_here some (setting_there some))

-- ---- sessions

pub sessions_log : (c : Setting) (s : NodeState) (sessions : List (List Bytes))
    → AllHaveSetting c (holding (again s)) sessions
    → without_numbers (hub_log c.me.eui (holding (again s)) sessions)
    ≡ hub_lines real c c.me.eui s (hub_tasks (holding (again s)) sessions)
sessions_log c s [] all = refl
sessions_log c s (lines ∷ more) all =
    by_tables (served (holding (again s)) lines fresh).after.tables
    (lines_serve lines fresh c (again s) refl all.0) all.1 (λ y rest. sessions_log c y more rest)
  where
    n : ℕ
    n = c.me.eui

    ts : List Task
    ts = lines_tasks (holding (again s)) lines fresh

    ls : List Line
    ls = lines_write (holding (again s)) lines fresh

    by_tables : (o : Option NodeState) → IsServedIn c (again s) ts ls o
        → AllHaveSetting c (found_after (holding (again s)) o) more
        → ((y : NodeState) → AllHaveSetting c (holding (again y)) more
        → without_numbers (hub_log n (holding (again y)) more)
        ≡ hub_lines real c n y (hub_tasks (holding (again y)) more))
        → without_numbers (opened_lines n o ls ++ hub_log n (found_after (holding (again s)) o) more)
        ≡ hub_lines real c n s (opened_tasks o ts ++ hub_tasks (found_after (holding (again s)) o) more)
    by_tables None is all further = further s all
    by_tables (Some x) is all further =
        ap (λ l. DownReset 0 n ∷ Boot 0 n ∷ l)
        (both_parts ls (hub_log n (holding (again x)) more) (tasks_lines real c n (again s) ts)
        (hub_lines real c n (tables_after_all real c (again s) ts) (hub_tasks (holding (again x)) more)) is.lines
        (further x all
        ∙ ap (λ (y : NodeState). hub_lines real c n y (hub_tasks (holding (again x)) more)) is.tables))
