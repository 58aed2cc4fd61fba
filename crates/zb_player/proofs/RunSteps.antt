-- What is written, event by event, is the text of the run's lines.
use Rattle.std.proofs.Common.{◌≡◌, ℕ, zero, suc, ◌+◌, ◌<◌, List, [], ◌∷◌, ◌++◌, length, map, take, get_or, Option, Result, Ok, Err, OnErr, refl, sym, ap, ◌∙◌, subst, arith, append_assoc, append-nil, add-one}
use Rattle.std.specs.Io.KnownBytes.{Appends}
use Rattle.std.proofs.KnownBytes.{Appends-nil, Appends-trans}
use Rattle.std.specs.List.{AllByRecursion}
use Rattle.zb_base.specs.Outside.{AppendsFront}
use Rattle.zb_disk.specs.Memory.{Medium}
use Rattle.zb_model.specs.Data.{Bytes}
use Rattle.zb_model.specs.Lines.{Line}
use Rattle.zb_model.specs.Play.{Disk, Step, groups, stations, step}
use Rattle.zb_model.specs.Schedules.{CountsCalls}
use Rattle.zb_model_real.specs.Real.{real}
use Rattle.law_schedules.specs.Schedules.{event_for, schedule_of, stations_for}
use Rattle.law_schedules.proofs.Meets.{is_schedule}
use Rattle.zb_player.specs.Playing.{FitsRun, RunGoes, RunStands, step_of}
use Rattle.zb_player.specs.Runs.{Answered, acts_of, disks_after, lines_of, text_in}
use Rattle.zb_player.specs.declared.run.Run.{Run}
use Rattle.zb_player.proofs.Paging.{handed, handed_front, IsSameRun, paged, still_for}
use Rattle.zb_player.proofs.RunLines.{disks_take, groups_rest, groups_take, next_step}
use Rattle.zb_player.proofs.Seating.{all_get}
use Rattle.zb_trace_model.specs.Said.{text_of}
use Rattle.zb_player_scribe.specs.Pages.{cleared, IsClear, IsFor, Takes, TakesFront}
use Rattle.zb_trace_model.proofs.Texts.{text_append}
use Rattle.zb_sched.specs.Schedules as sched
use Rattle.zb_sched.specs.Valid.{FitsSchedule, IsSchedule}
use Rattle.zb_sched_line.specs.Said as said

pub on_err : {T E : Type 0} (r : Result T E) (P : Type 0) → P → OnErr r P
on_err (Ok x) P p = tt
on_err (Err e) P p = p

-- Fronts

take-front : (ys rest : Bytes) (n : ℕ) → ((m : ℕ) × (take m (ys ++ rest) ≡ take n ys))
take-front [] rest zero = (0, refl)
take-front [] rest (suc n) = (0, refl)
take-front (y ∷ ys) rest zero = (0, refl)
take-front (y ∷ ys) rest (suc n) = let r = take-front ys rest n in (suc r.0, ap (λ l. y ∷ l) r.1)

take-behind : (xs ys rest : Bytes) (n : ℕ) → ((m : ℕ) × (take m (xs ++ (ys ++ rest)) ≡ xs ++ take n ys))
take-behind [] ys rest n = take-front ys rest n
take-behind (x ∷ xs) ys rest n = let r = take-behind xs ys rest n in (suc r.0, ap (λ l. x ∷ l) r.1)

-- a whole piece and then a prefix of the next one is a prefix of all
pub front_of : (a b c : Option Bytes) (xs ys rest : Bytes) → Appends a b xs → AppendsFront b c ys
    → AppendsFront a c (xs ++ (ys ++ rest))
front_of a b c xs ys rest first second =
    let r = take-behind xs ys rest second.0 in
    (r.0, subst (Appends a c) (sym r.1) (Appends-trans a b c xs (take second.0 ys) first second.1))

pub front_at : (a b : Option Bytes) (xs rest : Bytes) → Appends a b xs → AppendsFront a b (xs ++ rest)
front_at a b xs rest first = front_of a b b xs [] rest first (0, Appends-nil b)

-- What an event of a schedule asks of it.

mapped_get : {X Y : Type 0} (P : Y → Type 0) (f : X → Y) (xs : List X) (i : ℕ) (d : X) → i < length xs
    → AllByRecursion P (map f xs) → P (f (get_or xs i d))
mapped_get P f [] i d bound all = absurd (omega arith)
mapped_get P f (x ∷ xs) zero d bound all = all.0
mapped_get P f (x ∷ xs) (suc i) d bound all = mapped_get P f xs i d (omega arith) all.1

pub fits_at : (p : sched.Schedule) (i : ℕ) (d : said.Event) → IsSchedule p → i < length p.events
    → FitsRun p (i + 1) (get_or p.events i d)
unfolding schedule_of
fits_at p i d is bound =
    let w = is_schedule p is in
    record {
      early = omega (arith, bound, is.so_far.few_events);
      fits = all_get (FitsSchedule p) p.events i d bound is.so_far.events;
      calls = mapped_get CountsCalls (event_for (stations_for p)) p.events i d bound w.calls;
    }

-- The loop over the events.

-- no event yet
pub none_yet : (p : sched.Schedule) (h : List Line) (ds : List Disk) (events : List said.Event) (run : Run)
    (disks : List Medium) (before : Option Bytes)
    → RunStands p h ds 1 run disks → IsFor run.ledger.transcript.page before → Answered p h ds events 0 run disks
    before before
unfolding groups disks_after text_of
none_yet p h ds events run disks before stands fit = record {
  stands = subst (λ (l : List Line). RunStands p l ds 1 run disks) (sym (append-nil h)) stands;
  taken = Appends-nil before;
  page = fit;
}

abbrev pub next_of : sched.Schedule → List Line → List Disk → List said.Event → ℕ → said.Event → Step
next_of p h ds events i d = next_step (schedule_of p) (event_for (stations_for p)) h ds 1 events i d

order : (i : ℕ) → 1 + i ≡ i + 1
order i = omega arith

-- the step of the next event, as the loop has it
pub next_is : (p : sched.Schedule) (h : List Line) (ds : List Disk) (events : List said.Event) (i : ℕ) (d : said.Event)
    → next_of p h ds events i d
    ≡ step_of p (h ++ lines_of p h ds (take i events))
    (disks_after (schedule_of p) h ds 1 (acts_of p (take i events))) (i + 1)
    (event_for (stations_for p) (get_or events i d))
next_is p h ds events i d =
    ap (λ n. step real (schedule_of p) (h ++ lines_of p h ds (take i events))
    (disks_after (schedule_of p) h ds 1 (acts_of p (take i events))) n
    (event_for (stations_for p) (get_or events i d))) (order i)

pub lines_more : (p : sched.Schedule) (h : List Line) (ds : List Disk) (events : List said.Event) (i : ℕ)
    (d : said.Event) → i < length events
    → lines_of p h ds (take (i + 1) events) ≡ lines_of p h ds (take i events) ++ (next_of p h ds events i d).lines
lines_more p h ds events i d bound =
    ap (λ n. lines_of p h ds (take n events)) (add-one i) ∙ groups_take (schedule_of p) (event_for (stations_for p)) h
    ds 1 events i d bound

pub disks_more : (p : sched.Schedule) (h : List Line) (ds : List Disk) (events : List said.Event) (i : ℕ)
    (d : said.Event) → i < length events
    → disks_after (schedule_of p) h ds 1 (acts_of p (take (i + 1) events)) ≡ (next_of p h ds events i d).disks
disks_more p h ds events i d bound =
    ap (λ n. disks_after (schedule_of p) h ds 1 (acts_of p (take n events))) (add-one i) ∙ disks_take (schedule_of p)
    (event_for (stations_for p)) h ds 1 events i d bound

-- one event more
pub one_more : (p : sched.Schedule) (h : List Line) (ds : List Disk) (events : List said.Event) (i : ℕ)
    (d : said.Event) (now new : Run) (dnow dnew : List Medium)
    (before middle after : Option Bytes) → i < length events
    → Answered p h ds events i now dnow before middle
    → RunGoes p
    (step_of p (h ++ lines_of p h ds (take i events))
    (disks_after (schedule_of p) h ds 1 (acts_of p (take i events))) (i + 1)
    (event_for (stations_for p) (get_or events i d))) (h ++ lines_of p h ds (take i events)) (i + 1) now new dnew
    → IsClear now.ledger.transcript.page → Takes new.ledger.transcript.page middle after → (other : Run) → IsSameRun
    new other
    → other.ledger.transcript.page ≡ cleared new.ledger.transcript.page
    → Answered p h ds events (i + 1) other dnew before after
one_more p h ds events i d now new dnow dnew before middle after bound so_far goes clear took other same empty =
    let w = schedule_of p in
    let done = lines_of p h ds (take i events) in
    let g = next_of p h ds events i d in
    let goes' : RunGoes p g (h ++ done) (i + 1) now new dnew =
    subst (λ (s : Step). RunGoes p s (h ++ done) (i + 1) now new dnew) (sym (next_is p h ds events i d)) goes in
    let out : Appends middle after (text_in p g.lines) = handed now.ledger.transcript.page new.ledger.transcript.page
    (text_in p g.lines)
    middle after goes'.page clear so_far.page took in
    record {
      stands = paged p (h ++ lines_of p h ds (take (i + 1) events))
          (disks_after w h ds 1 (acts_of p (take (i + 1) events))) (i + 1 + 1) new other dnew same
          (subst (λ (l : List Line). RunStands p l (disks_after w h ds 1 (acts_of p (take (i + 1) events)))
          (i + 1 + 1) new dnew)
          (append_assoc h done g.lines ∙ ap (λ l. h ++ l) (sym (lines_more p h ds events i d bound)))
          (subst (λ (es : List Disk). RunStands p ((h ++ done) ++ g.lines) es (i + 1 + 1) new dnew)
          (sym (disks_more p h ds events i d bound)) goes'.stands));
      taken =
          subst (Appends before after)
          (sym (text_append (stations w) done g.lines) ∙ ap (text_in p) (sym (lines_more p h ds events i d bound)))
          (Appends-trans before middle after (text_in p done) (text_in p g.lines) so_far.taken out);
      page = still_for now.ledger.transcript.page new.ledger.transcript.page other.ledger.transcript.page (text_in p
          g.lines) middle after goes'.page
          empty so_far.page took;
    }

-- Where it ends early, a prefix of the text is written.

rest_of : (p : sched.Schedule) (h : List Line) (ds : List Disk) (events : List said.Event) (i : ℕ)
    → ((rest : List Line) × (lines_of p h ds events ≡ lines_of p h ds (take i events) ++ rest))
rest_of p h ds events i = groups_rest (schedule_of p) (event_for (stations_for p)) h ds 1 events i

-- no line of the next event is written
pub stopped : (p : sched.Schedule) (h : List Line) (ds : List Disk) (events : List said.Event) (i : ℕ) (now : Run)
    (dnow : List Medium) (before after : Option Bytes)
    → Answered p h ds events i now dnow before after → AppendsFront before after (text_in p (lines_of p h ds events))
stopped p h ds events i now dnow before after so_far =
    let r = rest_of p h ds events i in
    subst (AppendsFront before after)
    (sym (text_append (stations (schedule_of p)) (lines_of p h ds (take i events)) r.0) ∙ ap (text_in p) (sym r.1))
    (front_at before after (text_in p (lines_of p h ds (take i events))) (text_in p r.0) so_far.taken)

-- a prefix of the lines of the next event is
pub cut : (p : sched.Schedule) (h : List Line) (ds : List Disk) (events : List said.Event) (i : ℕ) (d : said.Event)
    (now new : Run) (dnow dnew : List Medium)
    (before middle after : Option Bytes) → i < length events
    → Answered p h ds events i now dnow before middle
    → RunGoes p
    (step_of p (h ++ lines_of p h ds (take i events))
    (disks_after (schedule_of p) h ds 1 (acts_of p (take i events))) (i + 1)
    (event_for (stations_for p) (get_or events i d))) (h ++ lines_of p h ds (take i events)) (i + 1) now new dnew
    → IsClear now.ledger.transcript.page → TakesFront new.ledger.transcript.page middle after
    → AppendsFront before after (text_in p (lines_of p h ds events))
cut p h ds events i d now new dnow dnew before middle after bound so_far goes clear took =
    let w = schedule_of p in
    let done = lines_of p h ds (take i events) in
    let g = next_of p h ds events i d in
    let goes' : RunGoes p g (h ++ done) (i + 1) now new dnew =
    subst (λ (s : Step). RunGoes p s (h ++ done) (i + 1) now new dnew) (sym (next_is p h ds events i d)) goes in
    let page = text_in p g.lines in
    let out : AppendsFront middle after page = handed_front now.ledger.transcript.page new.ledger.transcript.page
    page middle after
    goes'.page clear took in
    let r = rest_of p h ds events (i + 1) in
    let whole : text_in p (lines_of p h ds events) ≡ text_in p done ++ (page ++ text_in p r.0) =
    ap (text_in p) (r.1 ∙ ap (λ l. l ++ r.0) (lines_more p h ds events i d bound))
    ∙ text_append (stations w) (done ++ g.lines) r.0
    ∙ ap (λ l. l ++ text_in p r.0) (text_append (stations w) done g.lines)
    ∙ append_assoc (text_in p done) page (text_in p r.0) in
    subst (AppendsFront before after) (sym whole)
    (front_of before middle after (text_in p done) page (text_in p r.0) so_far.taken out)
