-- The loop over the events, as the program has it.
use Rattle.std.proofs.Common.{◌≡◌, ℕ, ◌+◌, ◌<◌, List, ◌++◌, length, map, take, get_or, Option, sym, ap, ◌∙◌, subst, arith}
use Rattle.std.proofs.Math.ListN.{get_or-map}
use Rattle.std.proofs.lemmas.List.{length-map}
use Rattle.zb_disk.specs.Memory.{Medium}
use Rattle.zb_model.specs.Lines.{Line}
use Rattle.zb_model.specs.Play.{Disk}
use Rattle.law_schedules.specs.Schedules.{event_for, schedule_of, stations_for}
use Rattle.zb_player.specs.Playing.{FitsRun, RunGoes, RunStands, step_of}
use Rattle.zb_player.specs.Runs.{Answered, Answers, IsPlayed, PrintsAll, acts_of, disks_after, lines_of}
use Rattle.zb_player.specs.declared.run.Run.{Run}
use Rattle.zb_player.proofs.Paging.{IsSameRun}
use Rattle.zb_player.proofs.RunSteps.{cut, fits_at, none_yet, one_more, stopped}
use Rattle.zb_sched.specs.Schedules as sched
use Rattle.zb_sched.specs.Valid.{IsSchedule}
use Rattle.zb_sched_line.specs.Said as said
use Rattle.zb_sched_line.specs.Views.{event_of}
use Rattle.zb_sched_line.specs.declared.event.Event.{Event as CodeEvent}
use Rattle.zb_player_scribe.specs.Pages.{cleared, IsClear, IsFor, Takes, TakesFront}

-- what the program's answer of an event promises
abbrev pub EventGoes : ℕ → said.Event → Run → List Medium → Run → List Medium → Type 0
EventGoes number e now dnow new dnew =
    (p : sched.Schedule) (h : List Line) (ds : List Disk) → IsSchedule p → FitsRun p number e
    → RunStands p h ds number now dnow
    → RunGoes p (step_of p h ds number (event_for (stations_for p) e)) h number now new dnew

pub mapped_at : (events : List CodeEvent) (i : ℕ) (e : CodeEvent) → e ≡ get_or events i e
    → get_or (map event_of events) i (event_of e) ≡ event_of e
mapped_at events i e is = get_or-map event_of events i e ∙ ap event_of (sym is)

-- the next event, after those that were answered
pub next : (p : sched.Schedule) (h : List Line) (ds : List Disk) (events : List CodeEvent) (i : ℕ) (e : CodeEvent)
    (now new : Run) (dnow dnew : List Medium) (before middle : Option (List ℕ))
    → i < length events → e ≡ get_or events i e → IsPlayed p (map event_of events)
    → Answered p h ds (map event_of events) i now dnow before middle
    → EventGoes (i + 1) (event_of e) now dnow new dnew
    → let all = map event_of events in
    RunGoes p
    (step_of p (h ++ lines_of p h ds (take i all)) (disks_after (schedule_of p) h ds 1 (acts_of p (take i all)))
    (i + 1)
    (event_for (stations_for p) (get_or all i (event_of e)))) (h ++ lines_of p h ds (take i all)) (i + 1) now new dnew
next p h ds events i e now new dnow dnew before middle bound is played so_far goes =
    let all = map event_of events in
    let many : i < length p.events = subst (λ (es : List said.Event). i < length es) played.events_are
    (omega (arith, bound, length-map events event_of)) in
    let at : get_or p.events i (event_of e) ≡ event_of e =
    ap (λ (es : List said.Event). get_or es i (event_of e)) (sym played.events_are) ∙ mapped_at events i e is in
    let fits : FitsRun p (i + 1) (event_of e) =
    subst (FitsRun p (i + 1)) at (fits_at p i (event_of e) played.schedule many) in
    subst (λ (x : said.Event). RunGoes p
    (step_of p (h ++ lines_of p h ds (take i all)) (disks_after (schedule_of p) h ds 1 (acts_of p (take i all)))
    (i + 1)
    (event_for (stations_for p) x)) (h ++ lines_of p h ds (take i all)) (i + 1) now new dnew)
    (sym (mapped_at events i e is))
    (goes p (h ++ lines_of p h ds (take i all)) (disks_after (schedule_of p) h ds 1 (acts_of p (take i all)))
    played.schedule fits so_far.stands)

pub more_answers : (events : List CodeEvent) (i : ℕ) (e : CodeEvent) (old now new other : Run)
    (disks dnow dnew : List Medium) (before middle after : Option (List ℕ))
    → i < length events → e ≡ get_or events i e → IsClear now.ledger.transcript.page
    → Answers old disks (map event_of events) i now dnow before middle
    → EventGoes (i + 1) (event_of e) now dnow new dnew
    → Takes new.ledger.transcript.page middle after → IsSameRun new other → other.ledger.transcript.page ≡ cleared
    new.ledger.transcript.page
    → Answers old disks (map event_of events) (i + 1) other dnew before after
more_answers events i e old now new other disks dnow dnew before middle after bound is clear so_far goes took same
    empty = λ p h ds played stands.
    let a = so_far p h ds played stands in
    one_more p h ds (map event_of events) i (event_of e) now new dnow dnew before middle after
    (omega (arith, bound, length-map events event_of)) a
    (next p h ds events i e now new dnow dnew before middle bound is played a goes) clear took other same empty

pub cut_answers : (events : List CodeEvent) (i : ℕ) (e : CodeEvent) (old now new : Run)
    (disks dnow dnew : List Medium) (before middle after : Option (List ℕ))
    → i < length events → e ≡ get_or events i e → IsClear now.ledger.transcript.page
    → Answers old disks (map event_of events) i now dnow before middle
    → EventGoes (i + 1) (event_of e) now dnow new dnew
    → TakesFront new.ledger.transcript.page middle after
    → PrintsAll old disks (map event_of events) before after
cut_answers events i e old now new disks dnow dnew before middle after bound is clear so_far goes took =
    λ p h ds played stands.
    let a = so_far p h ds played stands in
    cut p h ds (map event_of events) i (event_of e) now new dnow dnew before middle after
    (omega (arith, bound, length-map events event_of)) a
    (next p h ds events i e now new dnow dnew before middle bound is played a goes) clear took

pub stopped_answers : (events : List CodeEvent) (i : ℕ) (old now : Run) (disks dnow : List Medium)
    (before after : Option (List ℕ))
    → Answers old disks (map event_of events) i now dnow before after
    → PrintsAll old disks (map event_of events) before after
stopped_answers events i old now disks dnow before after so_far = λ p h ds played stands.
    stopped p h ds (map event_of events) i now dnow before after (so_far p h ds played stands)

pub no_answers : (events : List CodeEvent) (run : Run) (disks : List Medium) (before : Option (List ℕ))
    → IsFor run.ledger.transcript.page before → Answers run disks (map event_of events) 0 run disks before before
no_answers events run disks before fit = λ p h ds played stands. none_yet p h ds (map event_of events) run disks
    before stands fit
