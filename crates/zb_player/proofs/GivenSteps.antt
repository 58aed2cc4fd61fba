-- What is written of a run whose nodes are given disks, event by event, is the text of its lines.
use Rattle.std.proofs.Common.{◌≡◌, ℕ, ◌+◌, ◌<◌, ◌≤◌, Bool, true, false, cond, nat_eq, List, [], ◌++◌, length, map, take, get_or, Option, Some, None, refl, sym, ap, ◌∙◌, subst, arith, append_assoc, append-nil, add-one}
use Rattle.std.specs.Io.KnownBytes.{Appends}
use Rattle.std.proofs.KnownBytes.{Appends-nil, Appends-trans}
use Rattle.std.proofs.lemmas.Bool.Decides.{nat_tests}
use Rattle.std.proofs.lemmas.List.{length-map}
use Rattle.zb_base.specs.Outside.{AppendsFront}
use Rattle.zb_disk.specs.Memory.{Medium}
use Rattle.zb_model.specs.Data.{Bytes}
use Rattle.zb_model.specs.Lines.{Line}
use Rattle.zb_model.specs.Play.{stations}
use Rattle.zb_model_real.specs.Real.{real}
use Rattle.law_run.proofs.Basics.{nat_eq-refl}
use Rattle.law_run_steps.specs.Conditions.{Condition}
use Rattle.law_run_steps.specs.Swaps.{Passed, Stood, node_of, one_passed, swapped_groups}
use Rattle.law_schedules.specs.Schedules.{event_for, schedule_of, stations_for}
use Rattle.zb_player_events.proofs.NodeLaws.{holds_from}
use Rattle.zb_player_events.specs.Acts.{seat_for}
use Rattle.zb_player_events.specs.Seats.{AreSeats}
use Rattle.zb_player_events.specs.declared.seats.Seat.{Seat}
use Rattle.zb_player_events.specs.declared.seats.Seats.{Seats}
use Rattle.zb_player.specs.Benches.{Gave, GaveAt, GaveFor, given_at, given_for}
use Rattle.zb_player.specs.Playing.{FitsRun, RunIn, RunPasses}
use Rattle.zb_player.specs.Runs.{text_in}
use Rattle.zb_player.specs.Swapping.{AgreesTo, AnswersGiven, FitsAt, IsAnswered, IsGiven, PrintsGiven, nodes_after, nodes_in, passed_with, swapped_in}
use Rattle.zb_player.specs.declared.run.Run.{Run}
use Rattle.zb_player.proofs.Answering.{no_node}
use Rattle.zb_player.proofs.Asking.{few_stations}
use Rattle.zb_player.proofs.GivenLines.{fit_at, next_passed, nodes_take, swapped_rest, swapped_take}
use Rattle.zb_player.proofs.Looping.{mapped_at}
use Rattle.zb_player.proofs.Paging.{IsSameRun, handed, handed_front, paged_in, still_for}
use Rattle.zb_player.proofs.RunSteps.{fits_at, front_at, front_of}
use Rattle.zb_player_scribe.specs.Pages.{cleared, IsClear, IsFor, Takes, TakesFront}
use Rattle.zb_sched.specs.Schedules as sched
use Rattle.zb_sched.specs.Valid.{IsSchedule}
use Rattle.zb_sched_line.specs.Said as said
use Rattle.zb_sched_line.specs.Views.{event_of}
use Rattle.zb_sched_line.specs.declared.event.Event.{Event as CodeEvent}
use Rattle.zb_trace_model.proofs.Texts.{text_append}
use Rattle.zb_trace_model.specs.Said.{text_of}

-- ---- what a bench tells

not_yet : (k n : ℕ) → k ≤ n → nat_eq k (n + 1) ≡ false
not_yet k n before = grind (arith, nat_tests, before)

if_not : (b : Bool) (x y : Option Medium) → b ≡ false → cond b x y ≡ y
if_not true x y e = absurd (cc)
if_not false x y e = refl

if_so : (b : Bool) (x y : Option Medium) → b ≡ true → cond b x y ≡ x
if_so true x y e = refl
if_so false x y e = absurd (cc)

-- before the event it told the same of those before it
gave_before : (n : ℕ) (given : ℕ → Option Medium) (a b : Option (ℕ → Option Medium)) (m : Option Medium)
    → Gave a b (n + 1) m → AgreesTo (n + 1) given b → AgreesTo n given a
gave_before n given None None m gave agrees = absurd agrees
gave_before n given None (Some b) m gave agrees = absurd gave
gave_before n given (Some a) None m gave agrees = absurd gave
gave_before n given (Some a) (Some b) m gave agrees = λ k before.
    sym (gave k ∙ if_not (nat_eq k (n + 1)) m (a k) (not_yet k n before)) ∙ agrees k (omega (arith, before))

-- and what it answered is what it tells
gave_now : (n : ℕ) (given : ℕ → Option Medium) (a b : Option (ℕ → Option Medium)) (m : Option Medium)
    → Gave a b (n + 1) m → AgreesTo (n + 1) given b → given (n + 1) ≡ m
gave_now n given None None m gave agrees = absurd agrees
gave_now n given None (Some b) m gave agrees = absurd gave
gave_now n given (Some a) None m gave agrees = absurd gave
gave_now n given (Some a) (Some b) m gave agrees =
    sym (agrees (n + 1) (omega arith)) ∙ gave (n + 1)
    ∙ if_so (nat_eq (n + 1) (n + 1)) m (a (n + 1)) (nat_eq-refl (n + 1))

agrees_less : (n m : ℕ) (given : ℕ → Option Medium) (a : Option (ℕ → Option Medium)) → n ≤ m → AgreesTo m given a
    → AgreesTo n given a
agrees_less n m given None less agrees = agrees
agrees_less n m given (Some a) less agrees = λ k before. agrees k (omega (arith, before, less))

before_at : (n : ℕ) (given : ℕ → Option Medium) (gives : ℕ → ℕ → Option Medium) (a b : Option (ℕ → Option Medium))
    (o : Option Seat) → GaveAt a b (n + 1) gives o → AgreesTo (n + 1) given b → AgreesTo n given a
before_at n given gives a b None gave agrees =
    agrees_less n (n + 1) given a (omega arith) (subst (AgreesTo (n + 1) given) gave agrees)
before_at n given gives a b (Some it) gave agrees =
    gave_before n given a b (gives (n + 1) it.place) gave agrees

-- what is given by the bench's own word is what it answers
asked_at : (latest n : ℕ) (gift : Option Stood) (given : ℕ → Option Medium) (gives : ℕ → ℕ → Option Medium)
    (a b : Option (ℕ → Option Medium)) (xs : ℕ → Condition) (node : Option ℕ) (o : Option Seat)
    → (o ≡ None → node ≡ None) → GaveAt a b (n + 1) gives o → AgreesTo (n + 1) given b
    → FitsAt latest gift (given (n + 1)) xs node → FitsAt latest gift (given_at gives (n + 1) o) xs node
asked_at latest n gift given gives a b xs node None none gave agrees fit =
    subst (λ (q : Option ℕ). FitsAt latest gift None xs q) (sym (none refl)) tt
asked_at latest n gift given gives a b xs node (Some it) none gave agrees fit =
    subst (λ (m : Option Medium). FitsAt latest gift m xs node)
    (gave_now n given a b (gives (n + 1) it.place) gave agrees) fit

fits_from : (latest later : ℕ) (gift : Option Stood) (given : Option Medium) (xs : ℕ → Condition) (node : Option ℕ)
    → latest ≤ later → FitsAt latest gift given xs node → FitsAt later gift given xs node
fits_from latest later gift given xs None from fit = tt
fits_from latest later None None xs (Some n) from fit = tt
fits_from latest later None (Some m) xs (Some n) from fit = absurd fit
fits_from latest later (Some s) None xs (Some n) from fit = absurd fit
fits_from latest later (Some s) (Some m) xs (Some n) from fit =
    (fit.0, holds_from (xs n).setting.me.role latest later m s from fit.1)

-- ---- the loop over the events

-- no event yet
pub none_given : (p : sched.Schedule) (gifts : ℕ → Option Stood) (h : List Line) (xs : ℕ → Condition) (latest : ℕ)
    (events : List said.Event) (run : Run) (disks : List Medium) (before : Option Bytes)
    → RunIn p h xs latest run disks → IsFor run.ledger.transcript.page before
    → IsAnswered p gifts h xs latest events 0 run disks before before
unfolding swapped_groups nodes_after text_of
none_given p gifts h xs latest events run disks before stands fit =
    let same : latest ≡ latest + 0 = omega arith in
    record {
      stands =
          subst (λ n. RunIn p (h ++ []) xs n run disks) same
          (subst (λ (l : List Line). RunIn p l xs latest run disks) (sym (append-nil h)) stands);
      taken = Appends-nil before;
      page = fit;
    }

-- what the program's answer of an event promises
abbrev pub EventPasses : ℕ → said.Event → (ℕ → ℕ → Option Medium) → Run → List Medium → Run → List Medium → Type 0
EventPasses number e gives now dnow new dnew =
    (p : sched.Schedule) (h : List Line) (xs : ℕ → Condition) (latest : ℕ) (gift : Option Stood) → IsSchedule p
    → FitsRun p number e → latest < 9223372036854775808 → RunIn p h xs latest now dnow
    → FitsAt latest gift (given_for gives (stations (schedule_of p)) number e) xs
    (node_of (event_for (stations_for p) e))
    → RunPasses p (passed_with p gift h xs number (event_for (stations_for p) e)) h latest now new dnew

abbrev pub next_in : sched.Schedule → (ℕ → Option Stood) → List Line → (ℕ → Condition) → List said.Event → ℕ
    → said.Event → Passed
next_in p gifts h xs events i d = next_passed (schedule_of p) gifts (event_for (stations_for p)) h xs 1 events i d

order : (i : ℕ) → 1 + i ≡ i + 1
order i = omega arith

-- One event more, as the loop has it: it is the next one of the schedule, and what is given before it fits it.
pub record IsNext (p : sched.Schedule) (gifts : ℕ → Option Stood) (h : List Line) (xs : ℕ → Condition) (latest : ℕ)
    (events : List said.Event) (i : ℕ) (d : said.Event) (now new : Run) (dnow dnew : List Medium)
    (before middle : Option Bytes) : Type 0 where
  pub bound : i < length events
  pub so_far : IsAnswered p gifts h xs latest events i now dnow before middle
  pub passes : RunPasses p (next_in p gifts h xs events i d) (h ++ swapped_in p gifts h xs (take i events))
      (latest + i) now new dnew

lines_more : (p : sched.Schedule) (gifts : ℕ → Option Stood) (h : List Line) (xs : ℕ → Condition)
    (events : List said.Event) (i : ℕ) (d : said.Event) → i < length events
    → swapped_in p gifts h xs (take (i + 1) events)
    ≡ swapped_in p gifts h xs (take i events) ++ (next_in p gifts h xs events i d).lines
lines_more p gifts h xs events i d bound =
    ap (λ n. swapped_in p gifts h xs (take n events)) (add-one i)
    ∙ swapped_take (schedule_of p) gifts (event_for (stations_for p)) h xs 1 events i d bound

nodes_more : (p : sched.Schedule) (gifts : ℕ → Option Stood) (h : List Line) (xs : ℕ → Condition)
    (events : List said.Event) (i : ℕ) (d : said.Event) → i < length events
    → nodes_in p gifts h xs (take (i + 1) events) ≡ (next_in p gifts h xs events i d).nodes
nodes_more p gifts h xs events i d bound =
    ap (λ n. nodes_in p gifts h xs (take n events)) (add-one i)
    ∙ nodes_take (schedule_of p) gifts (event_for (stations_for p)) h xs 1 events i d bound

pub one_given : (p : sched.Schedule) (gifts : ℕ → Option Stood) (h : List Line) (xs : ℕ → Condition) (latest : ℕ)
    (events : List said.Event) (i : ℕ) (d : said.Event) (now new other : Run) (dnow dnew : List Medium)
    (before middle after : Option Bytes)
    → IsNext p gifts h xs latest events i d now new dnow dnew before middle
    → IsClear now.ledger.transcript.page → Takes new.ledger.transcript.page middle after → IsSameRun new other
    → other.ledger.transcript.page ≡ cleared new.ledger.transcript.page
    → IsAnswered p gifts h xs latest events (i + 1) other dnew before after
one_given p gifts h xs latest events i d now new other dnow dnew before middle after next clear took same empty =
    let done = swapped_in p gifts h xs (take i events) in
    let g = next_in p gifts h xs events i d in
    let so_far = next.so_far in
    let goes = next.passes in
    let later : latest + i + 1 ≡ latest + (i + 1) = omega arith in
    let out : Appends middle after (text_in p g.lines) = handed now.ledger.transcript.page new.ledger.transcript.page
    (text_in p g.lines)
    middle after goes.page clear so_far.page took in
    record {
      stands = paged_in p (h ++ swapped_in p gifts h xs (take (i + 1) events))
          (nodes_in p gifts h xs (take (i + 1) events)) (latest + (i + 1)) new other dnew same
          (subst (λ n. RunIn p (h ++ swapped_in p gifts h xs (take (i + 1) events))
          (nodes_in p gifts h xs (take (i + 1) events)) n new dnew) later
          (subst (λ (l : List Line). RunIn p l (nodes_in p gifts h xs (take (i + 1) events)) (latest + i + 1) new dnew)
          (append_assoc h done g.lines ∙ ap (λ l. h ++ l) (sym (lines_more p gifts h xs events i d next.bound)))
          (subst (λ (ys : ℕ → Condition). RunIn p ((h ++ done) ++ g.lines) ys (latest + i + 1) new dnew)
          (sym (nodes_more p gifts h xs events i d next.bound)) goes.stands)));
      taken =
          subst (Appends before after)
          (sym (text_append (stations (schedule_of p)) done g.lines)
          ∙ ap (text_in p) (sym (lines_more p gifts h xs events i d next.bound)))
          (Appends-trans before middle after (text_in p done) (text_in p g.lines) so_far.taken out);
      page = still_for now.ledger.transcript.page new.ledger.transcript.page other.ledger.transcript.page (text_in p
          g.lines) middle after goes.page
          empty so_far.page took;
    }

-- no line of the next event is written
pub given_stopped : (p : sched.Schedule) (gifts : ℕ → Option Stood) (h : List Line) (xs : ℕ → Condition) (latest : ℕ)
    (events : List said.Event) (i : ℕ) (now : Run) (dnow : List Medium) (before after : Option Bytes)
    → IsAnswered p gifts h xs latest events i now dnow before after
    → AppendsFront before after (text_in p (swapped_in p gifts h xs events))
given_stopped p gifts h xs latest events i now dnow before after so_far =
    let r = swapped_rest (schedule_of p) gifts (event_for (stations_for p)) h xs 1 events i in
    let done = swapped_in p gifts h xs (take i events) in
    subst (AppendsFront before after)
    (sym (text_append (stations (schedule_of p)) done r.0) ∙ ap (text_in p) (sym r.1))
    (front_at before after (text_in p done) (text_in p r.0) so_far.taken)

-- a prefix of the lines of the next event is
pub given_cut : (p : sched.Schedule) (gifts : ℕ → Option Stood) (h : List Line) (xs : ℕ → Condition) (latest : ℕ)
    (events : List said.Event) (i : ℕ) (d : said.Event) (now new : Run) (dnow dnew : List Medium)
    (before middle after : Option Bytes)
    → IsNext p gifts h xs latest events i d now new dnow dnew before middle
    → IsClear now.ledger.transcript.page → TakesFront new.ledger.transcript.page middle after
    → AppendsFront before after (text_in p (swapped_in p gifts h xs events))
given_cut p gifts h xs latest events i d now new dnow dnew before middle after next clear took =
    let known = stations (schedule_of p) in
    let done = swapped_in p gifts h xs (take i events) in
    let g = next_in p gifts h xs events i d in
    let page = text_in p g.lines in
    let out : AppendsFront middle after page = handed_front now.ledger.transcript.page new.ledger.transcript.page
    page middle after
    next.passes.page clear took in
    let r = swapped_rest (schedule_of p) gifts (event_for (stations_for p)) h xs 1 events (i + 1) in
    let whole : text_in p (swapped_in p gifts h xs events) ≡ text_in p done ++ (page ++ text_in p r.0) =
    ap (text_in p) (r.1 ∙ ap (λ l. l ++ r.0) (lines_more p gifts h xs events i d next.bound))
    ∙ text_append known (done ++ g.lines) r.0
    ∙ ap (λ l. l ++ text_in p r.0) (text_append known done g.lines)
    ∙ append_assoc (text_in p done) page (text_in p r.0) in
    subst (AppendsFront before after) (sym whole)
    (front_of before middle after (text_in p done) page (text_in p r.0) next.so_far.taken out)

-- ---- as the program has it

-- the next event, after those that were answered
is_next : (p : sched.Schedule) (gifts : ℕ → Option Stood) (given : ℕ → Option Medium) (h : List Line)
    (xs : ℕ → Condition) (latest : ℕ) (events : List CodeEvent) (i : ℕ) (e : CodeEvent)
    (gives : ℕ → ℕ → Option Medium) (a b : Option (ℕ → Option Medium)) (old now new : Run)
    (disks dnow dnew : List Medium) (before middle : Option Bytes)
    → i < length events → e ≡ get_or events i e
    → IsGiven p gifts given h xs latest (map event_of events) old disks
    → IsAnswered p gifts h xs latest (map event_of events) i now dnow before middle
    → GaveFor now.seats (i + 1) (event_of e) gives a b → AgreesTo (i + 1) given b
    → EventPasses (i + 1) (event_of e) gives now dnow new dnew
    → IsNext p gifts h xs latest (map event_of events) i (event_of e) now new dnow dnew before middle
is_next p gifts given h xs latest events i e gives a b old now new disks dnow dnew before middle bound is it so_far
    gave agrees goes =
    let w = schedule_of p in
    let all = map event_of events in
    let f = event_for (stations_for p) in
    let x = event_of e in
    let bound' : i < length all = omega (arith, bound, length-map events event_of) in
    let many : i < length p.events = subst (λ (es : List said.Event). i < length es) it.played.events_are bound' in
    let at : get_or p.events i x ≡ x =
    ap (λ (es : List said.Event). get_or es i x) (sym it.played.events_are) ∙ mapped_at events i e is in
    let fits : FitsRun p (i + 1) x = subst (FitsRun p (i + 1)) at (fits_at p i x it.played.schedule many) in
    let done = h ++ swapped_in p gifts h xs (take i all) in
    let ys = nodes_in p gifts h xs (take i all) in
    let few : latest + i < 9223372036854775808 = omega (arith, it.few, fits.early) in
    let known = stations w in
    let found : FitsAt latest (gifts (1 + i)) (given (1 + i)) ys (node_of (f (get_or all i x))) =
    fit_at latest w gifts given f h xs 1 all i x bound' it.fit in
    let here : FitsAt latest (gifts (i + 1)) (given (i + 1)) ys (node_of (f x)) =
    subst (λ n. FitsAt latest (gifts n) (given n) ys (node_of (f x))) (order i)
    (subst (λ (y : said.Event). FitsAt latest (gifts (1 + i)) (given (1 + i)) ys (node_of (f y)))
    (mapped_at events i e is) found) in
    let answered : FitsAt (latest + i) (gifts (i + 1)) (given_for gives known (i + 1) x) ys (node_of (f x)) =
    asked_at (latest + i) i (gifts (i + 1)) given gives a b ys (node_of (f x)) (seat_for known x)
    (λ none. no_node p (i + 1) x it.played.schedule fits none)
    (gave known so_far.stands.seats (few_stations p it.played.schedule)) agrees
    (fits_from latest (latest + i) (gifts (i + 1)) (given (i + 1)) ys (node_of (f x)) (omega arith) here) in
    let passes : RunPasses p (passed_with p (gifts (i + 1)) done ys (i + 1) (f x)) done (latest + i) now new dnew =
    goes p done ys (latest + i) (gifts (i + 1)) it.played.schedule fits few so_far.stands answered in
    record {
      bound = bound';
      so_far = so_far;
      passes =
          subst (λ (y : said.Event). RunPasses p (one_passed real w gifts done ys (1 + i) (f y)) done (latest + i) now
          new dnew) (sym (mapped_at events i e is))
          (subst (λ n. RunPasses p (one_passed real w gifts done ys n (f x)) done (latest + i) now new dnew)
          (sym (order i)) passes);
    }

pub no_given : (events : List CodeEvent) (run : Run) (disks : List Medium) (gave : Option (ℕ → Option Medium))
    (before : Option Bytes) → IsFor run.ledger.transcript.page before
    → AnswersGiven run disks (map event_of events) gave 0 run disks before before
no_given events run disks gave before fit = λ p gifts given h xs latest it agrees.
    none_given p gifts h xs latest (map event_of events) run disks before it.stands fit

-- what it told before that event
told_before : (p : sched.Schedule) (gifts : ℕ → Option Stood) (given : ℕ → Option Medium) (h : List Line)
    (xs : ℕ → Condition) (latest : ℕ) (events : List said.Event) (i : ℕ) (e : said.Event)
    (gives : ℕ → ℕ → Option Medium) (a b : Option (ℕ → Option Medium)) (old now : Run) (disks : List Medium)
    → now.seats ≡ old.seats → IsGiven p gifts given h xs latest events old disks
    → GaveFor now.seats (i + 1) e gives a b → AgreesTo (i + 1) given b → AgreesTo i given a
told_before p gifts given h xs latest events i e gives a b old now disks same it gave agrees =
    let known = stations (schedule_of p) in
    before_at i given gives a b (seat_for known e)
    (gave known (subst (λ (seats : Seats). AreSeats seats known) (sym same) it.stands.seats)
    (few_stations p it.played.schedule)) agrees

pub more_given : (events : List CodeEvent) (i : ℕ) (e : CodeEvent) (gives : ℕ → ℕ → Option Medium)
    (a b : Option (ℕ → Option Medium)) (old now new other : Run)
    (disks dnow dnew : List Medium) (before middle after : Option Bytes)
    → i < length events → e ≡ get_or events i e → now.seats ≡ old.seats → IsClear now.ledger.transcript.page
    → AnswersGiven old disks (map event_of events) a i now dnow before middle
    → GaveFor now.seats (i + 1) (event_of e) gives a b
    → EventPasses (i + 1) (event_of e) gives now dnow new dnew
    → Takes new.ledger.transcript.page middle after → IsSameRun new other → other.ledger.transcript.page ≡ cleared
    new.ledger.transcript.page
    → AnswersGiven old disks (map event_of events) b (i + 1) other dnew before after
more_given events i e gives a b old now new other disks dnow dnew before middle after bound is seats clear so_far gave
    goes took same empty = λ p gifts given h xs latest it agrees.
    let done = so_far p gifts given h xs latest it
    (told_before p gifts given h xs latest (map event_of events) i (event_of e) gives a b old now disks seats it gave
    agrees) in
    one_given p gifts h xs latest (map event_of events) i (event_of e) now new other dnow dnew before middle after
    (is_next p gifts given h xs latest events i e gives a b old now new disks dnow dnew before middle bound is it done
    gave agrees goes) clear took same empty

pub cut_given : (events : List CodeEvent) (i : ℕ) (e : CodeEvent) (gives : ℕ → ℕ → Option Medium)
    (a b : Option (ℕ → Option Medium)) (old now new : Run)
    (disks dnow dnew : List Medium) (before middle after : Option Bytes)
    → i < length events → e ≡ get_or events i e → now.seats ≡ old.seats → IsClear now.ledger.transcript.page
    → AnswersGiven old disks (map event_of events) a i now dnow before middle
    → GaveFor now.seats (i + 1) (event_of e) gives a b
    → EventPasses (i + 1) (event_of e) gives now dnow new dnew
    → TakesFront new.ledger.transcript.page middle after
    → PrintsGiven old disks (map event_of events) b before after
cut_given events i e gives a b old now new disks dnow dnew before middle after bound is seats clear so_far gave goes
    took = λ p gifts given h xs latest it all_agree.
    let all = map event_of events in
    let agrees : AgreesTo (i + 1) given b =
    agrees_less (i + 1) (length all) given b (omega (arith, bound, length-map events event_of)) all_agree in
    let done = so_far p gifts given h xs latest it
    (told_before p gifts given h xs latest all i (event_of e) gives a b old now disks seats it gave agrees) in
    given_cut p gifts h xs latest all i (event_of e) now new dnow dnew before middle after
    (is_next p gifts given h xs latest events i e gives a b old now new disks dnow dnew before middle bound is it done
    gave agrees goes) clear took

pub stopped_given : (events : List CodeEvent) (i : ℕ) (e : CodeEvent) (gives : ℕ → ℕ → Option Medium)
    (a b : Option (ℕ → Option Medium)) (old now : Run) (disks dnow : List Medium) (before after : Option Bytes)
    → i < length events → now.seats ≡ old.seats
    → AnswersGiven old disks (map event_of events) a i now dnow before after
    → GaveFor now.seats (i + 1) (event_of e) gives a b
    → PrintsGiven old disks (map event_of events) b before after
stopped_given events i e gives a b old now disks dnow before after bound seats so_far gave =
    λ p gifts given h xs latest it all_agree.
    let all = map event_of events in
    let agrees : AgreesTo (i + 1) given b =
    agrees_less (i + 1) (length all) given b (omega (arith, bound, length-map events event_of)) all_agree in
    given_stopped p gifts h xs latest all i now dnow before after (so_far p gifts given h xs latest it
    (told_before p gifts given h xs latest all i (event_of e) gives a b old now disks seats it gave agrees))
