-- The lines of an answer, told one after the other.
use Rattle.std.proofs.Common.{◌≡◌, ℕ, ◌+◌, ◌<◌, Bool, List, [], ◌∷◌, ◌++◌, Option, Some, None, Result, Ok, Err, OnOk, zero, suc, false, true, refl, ap, sym, ◌∙◌, map, length, take, get_or, arith}
use Rattle.std.specs.Prelude.{◌==◌}
use Rattle.std.specs.List.{AllByRecursion}
use Rattle.std.proofs.lemmas.Bool.{false≢true}
use Rattle.std.proofs.lemmas.List.{map-append, take_more}
use Rattle.arrayvec.specs.ArrayString.{ArrayString}
use Rattle.arrayvec.specs.ArrayVec.{ArrayVec}
use Rattle.zb_host.specs.declared.outcome.Outcome.{Outcome}
use Rattle.zb_model.specs.Data as model
use Rattle.zb_model.specs.Data.{Station}
use Rattle.zb_model.specs.Lines as log
use Rattle.zb_model.specs.Play.{change_lines, commit_lines, send_lines}
use Rattle.zb_node_types.specs.Changes.{edit, edits}
use Rattle.zb_node_types.specs.declared.change.Change.{Change}
use Rattle.zb_node_types.specs.declared.refusal.Refusal.{Refusal}
use Rattle.zb_seal.specs.declared.term.Term.{Term}
use Rattle.zb_text.specs.Fields.{is_name}
use Rattle.zb_trace.specs.Text.{line_of, text, words}
use Rattle.zb_trace.specs.Views.{logged}
use Rattle.zb_trace.specs.declared.line.Line.{Line}
use Rattle.zb_trace.specs.declared.line.Line.TheVariants as line
use Rattle.zb_trace_model.specs.AnswerLines.{IsSaid, declares_node, frame_bytes, has_key, listed, outcome_lines, refused_lines, terms}
use Rattle.zb_trace_model.specs.Naming.{IsCalled}
use Rattle.zb_trace_model.specs.Said.{IsLineOf, line_for, line_text, name_in}
use Rattle.zb_trace_model.proofs.Says.{send_says}

pub on_ok : {T E P Q : Type 0} (r : Result T E) → (P → Q) → OnOk r P → OnOk r Q
on_ok (Ok x) f p = f p
on_ok (Err e) f p = tt

-- ---- what a line says to a teller

key_is_logged : (known ks : List Station) (l : Line) → has_key (logged known l) ≡ has_key (logged ks l)
key_is_logged known ks (line.Node name r eui short out_block in_block) = refl
key_is_logged known ks (line.GivenNet node key sequence) = refl
key_is_logged known ks (line.GivenLink node partner key) = refl
key_is_logged known ks (line.Counter node l limit) = refl
key_is_logged known ks (line.Reserve event node l limit) = refl
key_is_logged known ks (line.Floor event node l key sender value) = refl
key_is_logged known ks (line.Draw event key) = refl
key_is_logged known ks (line.DropNet event node key) = refl
key_is_logged known ks (line.DropLink event node partner key) = refl
key_is_logged known ks (line.Install event node key sequence) = refl
key_is_logged known ks (line.Active event node key) = refl
key_is_logged known ks (line.Start event node key value) = refl
key_is_logged known ks (line.Row event node partner key a) = refl
key_is_logged known ks (line.Pair event node first second key) = refl
key_is_logged known ks (line.State event node s) = refl
key_is_logged known ks (line.Live event device) = refl
key_is_logged known ks (line.Removed event device) = refl
key_is_logged known ks (line.Roll event node r) = refl
key_is_logged known ks (line.Told event device) = refl
key_is_logged known ks (line.Untold event device) = refl
key_is_logged known ks (line.Commit event node) = refl
key_is_logged known ks (line.Accept event node t) = refl
key_is_logged known ks (line.Refuse event node r) = refl
key_is_logged known ks (line.Seal event node t) = refl
key_is_logged known ks (line.Forge event t) = refl
key_is_logged known ks (line.Send event node frame bytes) = refl
key_is_logged known ks (line.Inject event frame bytes) = refl
key_is_logged known ks (line.Stopped event node) = refl
key_is_logged known ks (line.DownReset event node) = refl
key_is_logged known ks (line.DownDisk event node) = refl
key_is_logged known ks (line.Boot event node) = refl
key_is_logged known ks (line.Dump event node bytes) = refl
key_is_logged known ks (line.End events seals accepts refusals ideal private) = refl

pub said : (reads : Bool) (known : List Station) (l : Line) (m : log.Line) → IsLineOf known l m
    → declares_node m ≡ false → IsSaid reads known l m
said reads known l m says plain = record {
  text_is = says.text_is;
  key_is = key_is_logged [] known l ∙ ap has_key says.logged_is;
  logged_is = λ _. says.logged_is;
  plain = plain;
}

pub send_said : (event : ℕ) (node : ArrayString) (frame : ℕ) (bytes : ArrayVec ℕ) (reads : Bool)
    (known : List Station) (n : ℕ) → IsCalled known n node.bytes → (reads ≡ true → is_name node.bytes ≡ true)
    → IsSaid reads known (line.Send event node frame bytes) (log.Send event (Some n) frame bytes.items)
unfolding text line_text line_for
send_said event node frame bytes reads known n it spelled = record {
  text_is = ap (λ name. line_of (words (line.Send event (name_in name) frame bytes))) (sym it.name_is);
  key_is = refl;
  logged_is = λ r. (send_says event node frame bytes known n it (spelled r)).logged_is;
  plain = refl;
}

-- ---- changes

pub all_at : {A : Type 0} (P : A → Type 0) (xs : List A) (i : ℕ) (d : A) → i < length xs → AllByRecursion P xs
    → P (get_or xs i d)
all_at P [] i d within all = absurd (omega (arith, within))
all_at P (x ∷ xs) zero d within all = all.0
all_at P (x ∷ xs) (suc i) d within all = all_at P xs i d (omega (arith, within)) all.1

pub change_more : (event n : ℕ) (changes : List Change) (i : ℕ) (d : Change) → i < length changes
    → change_lines event n (edits (take (i + 1) changes)) ≡ change_lines event n (edits (take i changes))
    ++ log.Changed event n (edit (get_or changes i d)) ∷ []
change_more event n changes i d within =
    ap (λ (cs : List Change). map (log.Changed event n) (map edit cs)) (take_more changes i d within)
    ∙ ap (map (log.Changed event n)) (map-append edit (take i changes) (get_or changes i d ∷ []))
    ∙ map-append (log.Changed event n) (map edit (take i changes)) (edit (get_or changes i d) ∷ [])

-- ---- what goes out

terms_apart : (f : model.Term → log.Line) (first second : Option Term)
    → map f (terms first second) ≡ map f (listed first) ++ map f (listed second)
terms_apart f None None = refl
terms_apart f (Some a) None = refl
terms_apart f None (Some b) = refl
terms_apart f (Some a) (Some b) = refl

pub outcome_told : {S : Type 0} (Tells : List log.Line → S → S → Type 0)
    (joined : (some more : List log.Line) (a b c : S) → Tells some a b → Tells more b c → Tells (some ++ more) a c)
    (event n frame : ℕ) (out : Outcome Term Refusal) (s0 s1 s2 s3 s4 s5 s6 : S)
    → Tells (map (log.Accept event n) (listed out.accepted_nwk)) s0 s1
    → Tells (map (log.Accept event n) (listed out.accepted_aps)) s1 s2
    → Tells (refused_lines event n out.refused) s2 s3
    → Tells (map (log.Seal event n) (listed out.sealed_aps)) s3 s4
    → Tells (map (log.Seal event n) (listed out.sealed_nwk)) s4 s5
    → Tells (send_lines event (Some n) frame (frame_bytes out.frame)) s5 s6
    → Tells (outcome_lines event n frame out) s0 s6
unfolding outcome_lines
outcome_told Tells joined event n frame out s0 s1 s2 s3 s4 s5 s6 one two three four five six =
    rw (
      terms_apart (log.Accept event n) out.accepted_nwk out.accepted_aps,
      terms_apart (log.Seal event n) out.sealed_aps out.sealed_nwk,
    )
    (joined _ _ s0 s2 s6 (joined _ _ s0 s1 s2 one two)
    (joined _ _ s2 s3 s6 three (joined _ _ s3 s5 s6 (joined _ _ s3 s4 s5 four five) six)))
