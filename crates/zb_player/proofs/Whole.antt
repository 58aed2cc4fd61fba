-- The text of a whole run, in its parts.
use Rattle.std.proofs.Common.{◌≡◌, ℕ, ◌+◌, List, [], ◌∷◌, ◌++◌, length, take, Option, refl, sym, ap, ◌∙◌, subst, append_assoc, append-nil}
use Rattle.std.specs.Io.KnownBytes.{Appends}
use Rattle.std.proofs.KnownBytes.{Appends-nil, Appends-trans}
use Rattle.std.proofs.Math.Seq.{take-length}
use Rattle.std.proofs.lemmas.List.{length-map}
use Rattle.zb_base.specs.Outside.{AppendsFront}
use Rattle.zb_disk.specs.Memory.{Medium}
use Rattle.zb_player_events.specs.Calls.{run_calls}
use Rattle.zb_model.specs.Data.{Bytes}
use Rattle.zb_model.specs.Lines.{Line}
use Rattle.zb_model.specs.Play.{Disk, start, stations}
use Rattle.zb_model.specs.Transcript.{end_line, run_lines, transcript}
use Rattle.zb_model_real.specs.Real.{real}
use Rattle.law_schedules.specs.Schedules.{event_for, schedule_of, stations_for}
use Rattle.zb_player.specs.Playing.{RunStands}
use Rattle.zb_player.specs.Runs.{Answers, HaveMade, IsFront, IsPlayed, IsWhole, WerePlayed, PrintsAll, Sums, acts_of, disks_after, last_line, lines_of, text_in, transcript_text}
use Rattle.zb_player.specs.declared.run.Run.{Run}
use Rattle.zb_player.specs.declared.summary.Summary.{Summary}
use Rattle.zb_player.proofs.RunSteps.{front_at, front_of}
use Rattle.zb_trace_model.specs.Said.{text_of}
use Rattle.zb_trace_model.proofs.Texts.{text_append}
use Rattle.zb_sched.specs.Schedules as sched
use Rattle.zb_sched_line.specs.Said as said
use Rattle.zb_player_scribe.specs.Pages.{IsFor}

abbrev pub begin : sched.Schedule → List Line
begin p = start (schedule_of p)

abbrev pub middle : sched.Schedule → List Line
middle p = lines_of p (begin p) [] p.events

abbrev pub last : sched.Schedule → Line
last p = end_line real (length p.events) (begin p ++ middle p)

run_is : (p : sched.Schedule) → run_lines real (schedule_of p) ≡ begin p ++ middle p
unfolding run_lines schedule_of
run_is p = refl

last_is : (p : sched.Schedule) → end_line real (length (schedule_of p).events) (run_lines real (schedule_of p))
    ≡ last p
unfolding schedule_of run_lines
last_is p = ap (λ n. end_line real n (run_lines real (schedule_of p)))
    (length-map p.events (event_for (stations_for p)))

pub whole_text : (p : sched.Schedule) → transcript_text p ≡ text_in p (begin p)
    ++ (text_in p (middle p) ++ text_in p (last p ∷ []))
unfolding transcript
whole_text p =
    let known = stations (schedule_of p) in
    ap (λ l. text_of known (run_lines real (schedule_of p) ++ l ∷ [])) (last_is p)
    ∙ ap (λ h. text_of known (h ++ last p ∷ [])) (run_is p)
    ∙ text_append known (begin p ++ middle p) (last p ∷ [])
    ∙ ap (λ t. t ++ text_in p (last p ∷ [])) (text_append known (begin p) (middle p))
    ∙ append_assoc (text_in p (begin p)) (text_in p (middle p)) (text_in p (last p ∷ []))

-- the start isn't taken whole
pub front_start : (p : sched.Schedule) (before after : Option Bytes) → AppendsFront before after (text_in p (begin p))
    → IsFront p before after
front_start p before after out =
    subst (AppendsFront before after) (sym (whole_text p))
    (front_of before before after [] (text_in p (begin p)) (text_in p (middle p) ++ text_in p (last p ∷ []))
    (Appends-nil before) out)

-- not all events are answered
pub front_middle : (p : sched.Schedule) (run : Run) (disks : List Medium) (events : List said.Event)
    (before mid after : Option Bytes)
    → IsPlayed p events → RunStands p (begin p) [] 1 run disks → Appends before mid (text_in p (begin p))
    → PrintsAll run disks events mid after
    → IsFront p before after
front_middle p run disks events before mid after played stands out prints =
    let text : AppendsFront mid after (text_in p (middle p)) =
    subst (λ es. AppendsFront mid after (text_in p (lines_of p (begin p) [] es))) played.events_are
    (prints p (begin p) [] played stands) in
    subst (AppendsFront before after) (sym (whole_text p))
    (front_of before mid after (text_in p (begin p)) (text_in p (middle p)) (text_in p (last p ∷ [])) out text)

-- all events are answered
pub record Ended (p : sched.Schedule) (run : Run) (disks : List Medium) (before after : Option Bytes) : Type 0 where
  pub taken : Appends before after (text_in p (begin p) ++ text_in p (middle p))
  pub page : IsFor run.ledger.transcript.page after
  pub ds : List Disk
  pub stands : RunStands p (begin p ++ middle p) ds (length p.events + 1) run disks

pub all_answered : (p : sched.Schedule) (old new : Run) (disks disks' : List Medium) (events : List said.Event)
    (n : ℕ) (before mid after : Option Bytes)
    → IsPlayed p events → n ≡ length events → RunStands p (begin p) [] 1 old disks
    → Appends before mid (text_in p (begin p))
    → Answers old disks events n new disks' mid after → Ended p new disks' before after
all_answered p old new disks disks' events n before mid after played many stands out answers =
    let a = answers p (begin p) [] played stands in
    let whole : take n events ≡ p.events = ap (λ k. take k events) many ∙ take-length events ∙ played.events_are in
    let count : n ≡ length p.events = many ∙ ap (λ (es : List said.Event). length es) played.events_are in
    record {
      taken =
          subst (Appends before after) (ap (λ es. text_in p (begin p) ++ text_in p (lines_of p (begin p) [] es)) whole)
          (Appends-trans before mid after (text_in p (begin p)) (text_in p (lines_of p (begin p) [] (take n events)))
          out a.taken);
      page = a.page;
      ds = disks_after (schedule_of p) (begin p) [] 1 (acts_of p (take n events));
      stands =
          subst (λ k. RunStands p (begin p ++ middle p)
          (disks_after (schedule_of p) (begin p) [] 1 (acts_of p (take n events))) (k + 1) new disks') count
          (subst (λ es. RunStands p (begin p ++ lines_of p (begin p) [] es)
          (disks_after (schedule_of p) (begin p) [] 1 (acts_of p (take n events))) (n + 1) new disks') whole
          a.stands);
    }

-- the last line isn't printed
pub front_last : (p : sched.Schedule) (run : Run) (disks : List Medium) (before after : Option Bytes)
    → Ended p run disks before after → IsFront p before after
front_last p run disks before after e =
    subst (AppendsFront before after)
    (append_assoc (text_in p (begin p)) (text_in p (middle p)) (text_in p (last p ∷ [])) ∙ sym (whole_text p))
    (front_at before after (text_in p (begin p) ++ text_in p (middle p)) (text_in p (last p ∷ [])) e.taken)

-- it isn't taken whole
pub front_end : (p : sched.Schedule) (run : Run) (disks : List Medium) (before mid after : Option Bytes)
    → Ended p run disks before mid
    → AppendsFront mid after (text_in p (last p ∷ [])) → IsFront p before after
front_end p run disks before mid after e out =
    subst (AppendsFront before after)
    (ap (λ t. (text_in p (begin p) ++ text_in p (middle p)) ++ t) (append-nil (text_in p (last p ∷ [])))
    ∙ append_assoc (text_in p (begin p)) (text_in p (middle p)) (text_in p (last p ∷ [])) ∙ sym (whole_text p))
    (front_of before mid after (text_in p (begin p) ++ text_in p (middle p)) (text_in p (last p ∷ [])) [] e.taken out)

-- all is written
pub whole_run : (p : sched.Schedule) (run : Run) (disks : List Medium) (before mid after : Option Bytes)
    → Ended p run disks before mid
    → Appends mid after (text_in p (last p ∷ [])) → IsWhole p before after
whole_run p run disks before mid after e out =
    subst (Appends before after)
    (append_assoc (text_in p (begin p)) (text_in p (middle p)) (text_in p (last p ∷ [])) ∙ sym (whole_text p))
    (Appends-trans before mid after (text_in p (begin p) ++ text_in p (middle p)) (text_in p (last p ∷ [])) e.taken
    out)

-- the disks, and the words of the last line
pub played_disks : (p : sched.Schedule) (run : Run) (disks : List Medium) (before after : Option Bytes)
    → Ended p run disks before after
    → HaveMade (run_calls real (schedule_of p) (start (schedule_of p)) [] 1 (schedule_of p).events)
    (stations (schedule_of p)) disks → WerePlayed p disks
played_disks p run disks before after e calls = record {
  nodes = run.nodes.items;
  ds = e.ds;
  stand =
      subst (λ h. Rattle.zb_player_events.specs.Nodes.AllStand (schedule_of p) h e.ds (length p.events + 1)
      (stations (schedule_of p)) run.nodes.items disks) (sym (run_is p)) e.stands.nodes;
  calls = calls;
}

-- what a scribe sums up are the words of the last line
pub sums_up : (p : sched.Schedule) (run : Run) (disks : List Medium) (before after : Option Bytes) (s : Summary)
    (events : ℕ) → Ended p run disks before after
    → events ≡ length p.events
    → ((h : List Line) → Rattle.zb_player_scribe.specs.Kept.Kept h run.ledger.transcript.scribe → last_line s
    ≡ end_line real events h)
    → last_line s ≡ last p
sums_up p run disks before after s events e many of =
    of (begin p ++ middle p) e.stands.told.kept ∙ ap (λ n. end_line real n (begin p ++ middle p)) many

pub summed : (p : sched.Schedule) (s : Summary) → last_line s ≡ last p → Sums p s
summed p s e = e ∙ ap (λ h. end_line real (length p.events) h) (sym (run_is p))
