-- What it comes to that lines are told: one line, lines one after the other, and the lines of an answer.
use Rattle.std.proofs.Common.{◌≡◌, ℕ, false, List, [], ◌∷◌, ◌++◌, refl, ap, sym, subst, ◌∙◌, Option}
use Rattle.std.specs.Io.KnownBytes.{append_known}
use Rattle.std.proofs.lemmas.List.{append-nil}
use Rattle.std.proofs.lemmas.Bool.{false≢true}
use Rattle.std.specs.List.{fold}
use Rattle.std.proofs.lemmas.List.Sums.{fold-append}
use Rattle.zb_model.specs.Data.{Bytes, Station}
use Rattle.zb_model.specs.Lines as log
use Rattle.zb_model.specs.Readings.{air, air_line, draw_line, draws_used, station_line, stations_of}
use Rattle.zb_model.specs.Transcript.{accept_count, refuse_count, seal_count}
use Rattle.zb_model_real.specs.Real.{real}
use Rattle.zb_trace_model.specs.Said.{line_text, text_of, IsLineOf}
use Rattle.zb_player_scribe.specs.Kept.{Counts, Kept, Tells}
use Rattle.zb_trace_model.specs.AnswerLines.{declares_node}
use Rattle.zb_player_scribe.specs.declared.scribe.Scribe.{Scribe}
use Rattle.zb_trace.specs.Text.{text}
use Rattle.zb_trace.specs.Views.{logged}
use Rattle.zb_trace.specs.declared.line.Line.{Line}
use Rattle.zb_trace_watch.specs.Watching.{Stands}
use Rattle.zb_trace_watch.specs.declared.watch.Watch.{Watch}

-- a line more
pub kept_more : (h : List log.Line) (m : log.Line) (old new : Scribe) (w : Watch) → Stands real w (h ++ m ∷ [])
    → Counts m (record old { watch = w }) new → Kept h old
    → Kept (h ++ m ∷ []) new
unfolding air draws_used
kept_more h m old new w stands counts kept = record {
  watch = subst (λ (v : Watch). Stands real v (h ++ m ∷ [])) (sym counts.watch) stands;
  air = counts.air ∙ ap (λ (frames : List Bytes). air_line frames m) kept.air ∙ sym
      (fold-append air_line [] h (m ∷ []));
  used = counts.used ∙ ap (λ n. draw_line n m) kept.used ∙ sym (fold-append draw_line 0 h (m ∷ []));
  seals = counts.seals ∙ ap (λ n. seal_count n m) kept.seals ∙ sym (fold-append seal_count 0 h (m ∷ []));
  accepts = counts.accepts ∙ ap (λ n. accept_count n m) kept.accepts ∙ sym (fold-append accept_count 0 h (m ∷ []));
  refusals = counts.refusals ∙ ap (λ n. refuse_count n m) kept.refusals ∙ sym (fold-append refuse_count 0 h (m ∷ []));
}

undeclaring : (stations : List Station) (m : log.Line) → declares_node m ≡ false → station_line stations m ≡ stations
undeclaring stations (log.Declared p) none = absurd (false≢true (sym none))
undeclaring stations (log.GivenNet n key sequence) none = refl
undeclaring stations (log.GivenLink n partner key) none = refl
undeclaring stations (log.Counter n layer limit) none = refl
undeclaring stations (log.Changed event n edit) none = refl
undeclaring stations (log.Commit event n) none = refl
undeclaring stations (log.Accept event n t) none = refl
undeclaring stations (log.Refuse event n at why) none = refl
undeclaring stations (log.Seal event n t) none = refl
undeclaring stations (log.Forge event t) none = refl
undeclaring stations (log.Send event n frame bytes) none = refl
undeclaring stations (log.Inject event frame bytes) none = refl
undeclaring stations (log.Stopped event n) none = refl
undeclaring stations (log.DownReset event n) none = refl
undeclaring stations (log.DownDisk event n) none = refl
undeclaring stations (log.Boot event n) none = refl
undeclaring stations (log.Dump event n bytes) none = refl
undeclaring stations (log.End events seals accepts refusals ideal private) none = refl

still_known : (h : List log.Line) (m : log.Line) → declares_node m ≡ false → stations_of (h ++ m ∷ []) ≡ stations_of h
unfolding stations_of
still_known h m none = fold-append station_line [] h (m ∷ []) ∙ undeclaring (fold station_line [] h) m none

one_text : (known : List Station) (m : log.Line) → text_of known (m ∷ []) ≡ line_text known m
unfolding text_of
one_text known m = append-nil (line_text known m)

-- what a scribe keeps once it was told a line of the program
abbrev pub KeepsLine : Line → Scribe → Scribe → Type 0
KeepsLine l old new = (h : List log.Line) → Kept h old → Kept (h ++ logged (stations_of h) l ∷ []) new

pub one_told : (known : List Station) (l : Line) (m : log.Line) (old new : Scribe) (before after : Option (List ℕ))
    → after ≡ append_known before (text l) → KeepsLine l old new
    → IsLineOf known l m → declares_node m ≡ false → Tells known (m ∷ []) old before new after
one_told known l m old new before after prints keeps says none = record {
  page = prints ∙ ap (append_known before) (says.text_is ∙ sym (one_text known m));
  kept = λ h e k. subst (λ (line : log.Line). Kept (h ++ line ∷ []) new)
      (ap (λ (stations : List Station). logged stations l) e ∙ says.logged_is) (keeps h k);
  nodes = λ h e. still_known h m none ∙ e;
}

-- before any line
pub nothing_kept : (k : Scribe) → Stands real k.watch [] → k.air ≡ [] → k.used ≡ 0 → k.seals ≡ 0 → k.accepts ≡ 0
    → k.refusals ≡ 0 → Kept [] k
unfolding air draws_used
nothing_kept k watch air used seals accepts refusals =
    record { watch = watch; air = air; used = used; seals = seals; accepts = accepts; refusals = refusals }
