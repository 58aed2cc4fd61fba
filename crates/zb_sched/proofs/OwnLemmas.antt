-- An event of one node that is read into its place, behind all others.
use Rattle.std.proofs.Common.{◌≡◌, ℕ, nat_le, List, [], ◌∷◌, ◌++◌, map, length, get_or, set, Bool, true, false, Option, Some, None, Ok, ◌<◌, refl, arith, ap, sym, ◌∙◌}
use Rattle.std.specs.Prelude.{if◌then◌else◌, is_some, IfSome}
use Rattle.std.specs.Option.{option_map}
use Rattle.std.proofs.lemmas.List.{map-append, length-map}
use Rattle.std.proofs.lemmas.Bool.{false≢true}
use Rattle.std.proofs.lemmas.Bool.Decides.{nat_tests}
use Rattle.std.proofs.Math.Seq.{set-append_seam, get_or-append_seam}
use Rattle.zb_sched_line.specs.Grammar.{◌>>=◌, is_quiet, meaning_of, or_else, own_event, declaration, other_event}
use Rattle.zb_sched_line.specs.Places.{own_event_of, read_into}
use Rattle.zb_sched_line.specs.Fits.{FitsEvent}
use Rattle.zb_sched_line.specs.Said.{Bytes, Event, Sentence, Quiet, Happens, Provisions}
use Rattle.zb_sched_line.specs.Views.{event_of}
use Rattle.zb_sched_line.specs.declared.event.Event.{Event as CodeEvent}
use Rattle.zb_sched.specs.Judge.{Seat, Seen, after_event, has_its_nodes, provision_clashes}
use Rattle.zb_sched.specs.Reading.{after_line, after_meaning, finished}
use Rattle.zb_sched.specs.Valid.{IsSoFar}
use Rattle.zb_sched.proofs.Kept.{kept}
use Rattle.zb_text.specs.Words.{words, first_of, Shows}

found_first : (own : Option Event) (others : Option Sentence) (e : Event) → own ≡ Some e
    → or_else (option_map Happens own) others ≡ Some (Happens e)
found_first own others e h = rw h refl

meant : (quiet : Bool) (first : Option (List ℕ × List (List ℕ))) (e : Event)
    → (if quiet then None else (first >>= (λ f. own_event f.0 f.1))) ≡ Some e
    → (if quiet then Some Quiet
    else (first >>= (λ f. or_else (option_map Happens (own_event f.0 f.1))
    (or_else (declaration f.0 f.1) (option_map Happens (other_event f.0 f.1)))))) ≡ Some (Happens e)
meant true first e h = cc h
meant false None e h = cc h
meant false (Some f) e h =
    found_first (own_event f.0 f.1) (or_else (declaration f.0 f.1) (option_map Happens (other_event f.0 f.1))) e h

-- a line that is an event of one node means that event
pub own_is_meant : (line : List ℕ) (e : Event) → own_event_of line ≡ Some e → meaning_of line ≡ Some (Happens e)
own_is_meant line e h = meant (is_quiet line) (first_of (words (Some line))) e h

-- so after the line is after the event
pub after_own : (before : Seen) (line : List ℕ) (e : Event) → own_event_of line ≡ Some e → after_line before line
    ≡ after_event before e
after_own before line e h = ap (after_meaning before) (own_is_meant line e h)

-- a schedule so far with one more event
abbrev pub with_one : Seen → Event → Seen
with_one before e = record before { events = before.events ++ e ∷ [] }

same_clashes : (before : Seen) (e : Event) (events : List Event)
    → provision_clashes e (record before { events = events }) ≡ provision_clashes e before
same_clashes before (Provisions name code) events = refl
same_clashes before _ events = refl

-- the line does what the event does, which is judged where it stands already
pub own_taken : (before : Seen) (line : List ℕ) (e : Event) → own_event_of line ≡ Some e
    → provision_clashes e (with_one before e) ≡ false → has_its_nodes e before.seats ≡ true
    → nat_le 100000 (length before.events) ≡ false
    → after_line before line ≡ Ok (with_one before e)
own_taken before line e own clear nodes room =
    after_own before line e own
    ∙ rw (sym (same_clashes before e (before.events ++ e ∷ [])) ∙ clear, nodes, room) refl

pub own_keeps : (before after : Seen) (line : List ℕ) (e : Event) → own_event_of line ≡ Some e → FitsEvent e
    → after_line before line ≡ Ok after → IsSoFar (finished before) → IsSoFar (finished after)
own_keeps before after line e own fits step keeps =
    kept before after (Happens e) fits (sym (after_own before line e own) ∙ step) keeps

-- ---- the place behind all others

-- what was read
pub was_read : (r : Option Unit) (e : CodeEvent) (wanted : Option Event) → is_some r ≡ true
    → Shows event_of (read_into r e) wanted → wanted ≡ Some (event_of e)
was_read (Some done) e wanted some h = h
was_read None e wanted some h = cc some

pub has_fit : (r : Option Unit) (P : Type 0) → is_some r ≡ true → IfSome r (λ _. P) → P
has_fit (Some done) P some h = h
has_fit None P some h = absurd (false≢true some)

-- a last event that was read over is the event that was read
pub placed : (items pushed : List CodeEvent) (last : ℕ) (x e : CodeEvent) → pushed ≡ items ++ x ∷ []
    → last ≡ length items → set pushed last e ≡ items ++ e ∷ []
placed items pushed last x e push at = rw (push, at) (set-append_seam items x [] e)

pub seen_last : (items pushed : List CodeEvent) (last : ℕ) (x e d seen : CodeEvent) → pushed ≡ items ++ x ∷ []
    → last ≡ length items → seen ≡ get_or (set pushed last e) last d → seen ≡ e
seen_last items pushed last x e d seen push at index =
    index ∙ rw (placed items pushed last x e push at, at) (get_or-append_seam items e [] d)

pub with_last : (seats : List Seat) (draws : List Bytes) (items items2 : List CodeEvent) (e : CodeEvent)
    → items2 ≡ items ++ e ∷ []
    → record { seats = seats; draws = draws; events = map event_of items2 }
    ≡ with_one (record { seats = seats; draws = draws; events = map event_of items }) (event_of e)
with_last seats draws items items2 e same =
    ap (λ (events : List Event). record { seats = seats; draws = draws; events = events })
    (ap (map event_of) same ∙ map-append event_of items (e ∷ []))

pub has_room : (items : List CodeEvent) (last : ℕ) → last ≡ length items → last < 100000
    → nat_le 100000 (length (map event_of items)) ≡ false
has_room items last at few = grind (arith, nat_tests, length-map items event_of)

pub clash_of : (p b : Bool) (seen e : CodeEvent) (now after : Seen) → p ≡ provision_clashes (event_of seen) now
    → seen ≡ e → now ≡ after → p ≡ b → provision_clashes (event_of e) after ≡ b
clash_of p b seen e now after is same view test =
    ap (λ x. provision_clashes (event_of x) after) (sym same)
    ∙ ap (λ s. provision_clashes (event_of seen) s) (sym view) ∙ sym is ∙ test

pub nodes_of_last : (p b : Bool) (seen e : CodeEvent) (seats : List Seat) → p ≡ has_its_nodes (event_of seen) seats
    → seen ≡ e → p ≡ b → has_its_nodes (event_of e) seats ≡ b
nodes_of_last p b seen e seats is same test = ap (λ x. has_its_nodes (event_of x) seats) (sym same) ∙ sym is ∙ test
