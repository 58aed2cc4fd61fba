-- The text of a whole run whose nodes are given disks, in its parts.
use Rattle.std.proofs.Common.{◌≡◌, ℕ, List, [], ◌∷◌, ◌++◌, length, take, Option, Some, None, refl, sym, ap, ◌∙◌, subst, arith, append_assoc, append-nil}
use Rattle.std.specs.Io.KnownBytes.{Appends}
use Rattle.std.proofs.KnownBytes.{Appends-nil, Appends-trans}
use Rattle.std.proofs.Math.Seq.{take-length}
use Rattle.std.proofs.lemmas.List.{length-map}
use Rattle.zb_base.specs.Outside.{AppendsFront}
use Rattle.zb_disk.specs.Memory.{Medium}
use Rattle.zb_model.specs.Data.{Bytes}
use Rattle.zb_model.specs.Lines.{Line}
use Rattle.zb_model.specs.Play.{stations}
use Rattle.zb_model.specs.Transcript.{end_line}
use Rattle.zb_model_real.specs.Real.{real}
use Rattle.law_run_steps.specs.Conditions.{Condition, condition_of}
use Rattle.law_run_steps.specs.Swaps.{Stood, first_nodes, swapped_lines, swapped_transcript}
use Rattle.law_schedules.specs.Schedules.{event_for, schedule_of, stations_for}
use Rattle.zb_player.specs.Playing.{RunStands}
use Rattle.zb_player.specs.Runs.{IsPlayed, acts_of, last_line, text_in}
use Rattle.zb_player.specs.Swapping.{AgreesTo, AnswersGiven, AreFit, AreGifts, ForGifts, IsGiven, PrintsGiven, swapped_in}
use Rattle.zb_player.specs.declared.run.Run.{Run}
use Rattle.zb_player.specs.declared.summary.Summary.{Summary}
use Rattle.zb_player.proofs.Goings.{run_as}
use Rattle.zb_player.proofs.RunSteps.{front_at, front_of}
use Rattle.zb_player.proofs.Whole.{begin}
use Rattle.zb_player_scribe.specs.Kept.{Kept}
use Rattle.zb_player_scribe.specs.Pages.{IsFor}
use Rattle.zb_sched.specs.Schedules as sched
use Rattle.zb_sched_line.specs.Said as said
use Rattle.zb_trace_model.specs.Said.{text_of}
use Rattle.zb_trace_model.proofs.Texts.{text_append}

-- where a bench tells what it gave
pub for_gifts : (p : sched.Schedule) (gave : Option (ℕ → Option Medium)) (claim : (ℕ → Option Stood) → Type 0)
    → ((gifts : ℕ → Option Stood) (given : ℕ → Option Medium) → gave ≡ Some given → AreGifts p gifts given
    → claim gifts)
    → ForGifts p gave claim
for_gifts p None claim holds = tt
for_gifts p (Some given) claim holds = λ gifts fits. holds gifts given refl fits

-- ---- the text

abbrev pub given_middle : sched.Schedule → (ℕ → Option Stood) → List Line
given_middle p gifts = swapped_in p gifts (begin p) (first_nodes (schedule_of p)) p.events

abbrev pub given_last : sched.Schedule → (ℕ → Option Stood) → Line
given_last p gifts = end_line real (length p.events) (begin p ++ given_middle p gifts)

swapped_is : (p : sched.Schedule) (gifts : ℕ → Option Stood) → swapped_lines real (schedule_of p) gifts
    ≡ begin p ++ given_middle p gifts
unfolding swapped_lines schedule_of
swapped_is p gifts = refl

last_is : (p : sched.Schedule) (gifts : ℕ → Option Stood)
    → end_line real (length (schedule_of p).events) (swapped_lines real (schedule_of p) gifts) ≡ given_last p gifts
unfolding schedule_of swapped_lines
last_is p gifts = ap (λ n. end_line real n (swapped_lines real (schedule_of p) gifts))
    (length-map p.events (event_for (stations_for p)))

given_text : (p : sched.Schedule) (gifts : ℕ → Option Stood)
    → text_in p (swapped_transcript real (schedule_of p) gifts)
    ≡ text_in p (begin p) ++ (text_in p (given_middle p gifts) ++ text_in p (given_last p gifts ∷ []))
unfolding swapped_transcript
given_text p gifts =
    let known = stations (schedule_of p) in
    ap (λ l. text_of known (swapped_lines real (schedule_of p) gifts ++ l ∷ [])) (last_is p gifts)
    ∙ ap (λ h. text_of known (h ++ given_last p gifts ∷ [])) (swapped_is p gifts)
    ∙ text_append known (begin p ++ given_middle p gifts) (given_last p gifts ∷ [])
    ∙ ap (λ t. t ++ text_in p (given_last p gifts ∷ [])) (text_append known (begin p) (given_middle p gifts))
    ∙ append_assoc (text_in p (begin p)) (text_in p (given_middle p gifts)) (text_in p (given_last p gifts ∷ []))

abbrev pub IsFrontOf : sched.Schedule → (ℕ → Option Stood) → Option Bytes → Option Bytes → Type 0
IsFrontOf p gifts before after =
    AppendsFront before after (text_in p (swapped_transcript real (schedule_of p) gifts))

-- nothing is written
pub given_nothing : (p : sched.Schedule) (gifts : ℕ → Option Stood) (before : Option Bytes)
    → IsFrontOf p gifts before before
given_nothing p gifts before = (0, Appends-nil before)

-- the start isn't taken whole
pub given_start : (p : sched.Schedule) (gifts : ℕ → Option Stood) (before after : Option Bytes)
    → AppendsFront before after (text_in p (begin p)) → IsFrontOf p gifts before after
given_start p gifts before after out =
    subst (AppendsFront before after) (sym (given_text p gifts))
    (front_of before before after [] (text_in p (begin p))
    (text_in p (given_middle p gifts) ++ text_in p (given_last p gifts ∷ [])) (Appends-nil before) out)

-- what the events of a schedule are given, at its start
at_start : (p : sched.Schedule) (gifts : ℕ → Option Stood) (given : ℕ → Option Medium) (events : List said.Event)
    (run : Run) (disks : List Medium) → IsPlayed p events → RunStands p (begin p) [] 1 run disks
    → AreGifts p gifts given
    → IsGiven p gifts given (begin p) (first_nodes (schedule_of p)) 4611686018427387904 events run disks
unfolding schedule_of
at_start p gifts given events run disks played stands fits =
    let w = schedule_of p in
    record {
      played = played;
      few = omega arith;
      stands = run_as p (begin p) (condition_of w (begin p) []) (first_nodes w) 1 4611686018427387904 run disks
          (omega arith) (λ q. refl) stands;
      fit = subst (λ es. AreFit 4611686018427387904 w gifts given (begin p) (first_nodes w) 1 (acts_of p es))
          (sym played.events_are) fits;
    }

agrees_all : (n : ℕ) (given : ℕ → Option Medium) (gave : Option (ℕ → Option Medium)) → gave ≡ Some given
    → AgreesTo n given gave
agrees_all n given gave told = subst (AgreesTo n given) (sym told) (λ k before. refl)

-- not all events are answered
pub given_part : (p : sched.Schedule) (gifts : ℕ → Option Stood) (given : ℕ → Option Medium)
    (gave : Option (ℕ → Option Medium)) (run : Run) (disks : List Medium) (events : List said.Event)
    (before mid after : Option Bytes) → gave ≡ Some given → AreGifts p gifts given → IsPlayed p events
    → RunStands p (begin p) [] 1 run disks → Appends before mid (text_in p (begin p))
    → PrintsGiven run disks events gave mid after → IsFrontOf p gifts before after
given_part p gifts given gave run disks events before mid after told fits played stands out prints =
    let text : AppendsFront mid after (text_in p (given_middle p gifts)) =
    subst (λ es. AppendsFront mid after (text_in p (swapped_in p gifts (begin p) (first_nodes (schedule_of p)) es)))
    played.events_are
    (prints p gifts given (begin p) (first_nodes (schedule_of p)) 4611686018427387904
    (at_start p gifts given events run disks played stands fits) (agrees_all (length events) given gave told)) in
    subst (AppendsFront before after) (sym (given_text p gifts))
    (front_of before mid after (text_in p (begin p)) (text_in p (given_middle p gifts))
    (text_in p (given_last p gifts ∷ [])) out text)

-- all events are answered
pub record GivenEnded (p : sched.Schedule) (gifts : ℕ → Option Stood) (run : Run) (before after : Option Bytes) : Type
    0 where
  pub taken : Appends before after (text_in p (begin p) ++ text_in p (given_middle p gifts))
  pub page : IsFor run.ledger.transcript.page after
  pub kept : Kept (begin p ++ given_middle p gifts) run.ledger.transcript.scribe

pub all_given : (p : sched.Schedule) (gifts : ℕ → Option Stood) (given : ℕ → Option Medium)
    (gave : Option (ℕ → Option Medium)) (old new : Run) (disks disks' : List Medium) (events : List said.Event) (n : ℕ)
    (before mid after : Option Bytes) → gave ≡ Some given → AreGifts p gifts given → IsPlayed p events
    → n ≡ length events → RunStands p (begin p) [] 1 old disks → Appends before mid (text_in p (begin p))
    → AnswersGiven old disks events gave n new disks' mid after → GivenEnded p gifts new before after
all_given p gifts given gave old new disks disks' events n before mid after told fits played many stands out answers =
    let xs : ℕ → Condition = first_nodes (schedule_of p) in
    let a = answers p gifts given (begin p) xs 4611686018427387904
    (at_start p gifts given events old disks played stands fits) (agrees_all n given gave told) in
    let whole : take n events ≡ p.events = ap (λ k. take k events) many ∙ take-length events ∙ played.events_are in
    record {
      taken =
          subst (Appends before after)
          (ap (λ es. text_in p (begin p) ++ text_in p (swapped_in p gifts (begin p) xs es)) whole)
          (Appends-trans before mid after (text_in p (begin p))
          (text_in p (swapped_in p gifts (begin p) xs (take n events))) out a.taken);
      page = a.page;
      kept =
          subst (λ es. Kept (begin p ++ swapped_in p gifts (begin p) xs es) new.ledger.transcript.scribe) whole
          a.stands.told.kept;
    }

-- the last line isn't printed
pub given_unended : (p : sched.Schedule) (gifts : ℕ → Option Stood) (run : Run) (before after : Option Bytes)
    → GivenEnded p gifts run before after → IsFrontOf p gifts before after
given_unended p gifts run before after e =
    subst (AppendsFront before after)
    (append_assoc (text_in p (begin p)) (text_in p (given_middle p gifts)) (text_in p (given_last p gifts ∷ []))
    ∙ sym (given_text p gifts))
    (front_at before after (text_in p (begin p) ++ text_in p (given_middle p gifts))
    (text_in p (given_last p gifts ∷ [])) e.taken)

-- it isn't taken whole
pub given_end : (p : sched.Schedule) (gifts : ℕ → Option Stood) (run : Run) (before mid after : Option Bytes)
    → GivenEnded p gifts run before mid → AppendsFront mid after (text_in p (given_last p gifts ∷ []))
    → IsFrontOf p gifts before after
given_end p gifts run before mid after e out =
    subst (AppendsFront before after)
    (ap (λ t. (text_in p (begin p) ++ text_in p (given_middle p gifts)) ++ t)
    (append-nil (text_in p (given_last p gifts ∷ [])))
    ∙ append_assoc (text_in p (begin p)) (text_in p (given_middle p gifts)) (text_in p (given_last p gifts ∷ []))
    ∙ sym (given_text p gifts))
    (front_of before mid after (text_in p (begin p) ++ text_in p (given_middle p gifts))
    (text_in p (given_last p gifts ∷ [])) [] e.taken out)

-- all is written
pub given_whole : (p : sched.Schedule) (gifts : ℕ → Option Stood) (run : Run) (before mid after : Option Bytes)
    → GivenEnded p gifts run before mid → Appends mid after (text_in p (given_last p gifts ∷ []))
    → Appends before after (text_in p (swapped_transcript real (schedule_of p) gifts))
given_whole p gifts run before mid after e out =
    subst (Appends before after)
    (append_assoc (text_in p (begin p)) (text_in p (given_middle p gifts)) (text_in p (given_last p gifts ∷ []))
    ∙ sym (given_text p gifts))
    (Appends-trans before mid after (text_in p (begin p) ++ text_in p (given_middle p gifts))
    (text_in p (given_last p gifts ∷ [])) e.taken out)

-- what a scribe sums up are the words of the last line
pub sums_given : (p : sched.Schedule) (gifts : ℕ → Option Stood) (run : Run) (before after : Option Bytes)
    (s : Summary) (events : ℕ) → GivenEnded p gifts run before after → events ≡ length p.events
    → ((h : List Line) → Kept h run.ledger.transcript.scribe → last_line s ≡ end_line real events h)
    → last_line s ≡ given_last p gifts
sums_given p gifts run before after s events e many of =
    of (begin p ++ given_middle p gifts) e.kept
    ∙ ap (λ n. end_line real n (begin p ++ given_middle p gifts)) many

pub summed_given : (p : sched.Schedule) (gifts : ℕ → Option Stood) (s : Summary) → last_line s ≡ given_last p gifts
    → last_line s ≡ end_line real (length p.events) (swapped_lines real (schedule_of p) gifts)
summed_given p gifts s e = e ∙ ap (λ h. end_line real (length p.events) h) (sym (swapped_is p gifts))
