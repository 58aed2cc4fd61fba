-- Lockout over a list with one more line: only open windows add conditions.
use Rattle.std.proofs.Common.{◌≡◌, ◌+◌, ℕ, List, [], ◌∷◌, ◌++◌, length, Bool, true, false, ◌&&◌, inl, inr, refl, ap, sym, ◌∙◌, append_assoc, Option, Some, None}
use Rattle.std.specs.Option.{option_or}
use Rattle.std.specs.Prelude.{if◌then◌else◌}
use Rattle.std.proofs.lemmas.List.{append-nil}
use Rattle.zb_audit_lockout.specs.Lockout.{admits, first_unlocked, keeps_out, locked, locked_from, locked_line, locks_out, refuses, refuses_line, unlocked_from, until_live}
use Rattle.zb_audit_lockout.specs.Standing.{goes_on}
use Rattle.zb_audit_lockout.specs.Windows.{EachAt, EachWindow, SomeAt, SomeWindow, is_shut}
use Rattle.zb_audit_lockout.proofs.Tests.{left_off, right_off, and_off, off_left, off_right}
use Rattle.zb_model.specs.Tools.{Tools}
use Rattle.zb_trace.specs.declared.line.Line.{Line}
use Rattle.zb_trace.specs.declared.line.Line.TheVariants as line
use Rattle.zb_trace_watch.proofs.Truth.{and_left, and_right, both, decided, either, not_both}

-- The lines of a window

until_shut : (d : ℕ) (ls more : List Line) → is_shut d ls ≡ true → until_live d (ls ++ more) ≡ until_live d ls
until_shut d [] more shut = cc
until_shut d (m ∷ ls) more shut = elim (decided (admits d m)) [
  | inl is ↦ rw is refl
  | inr is ↦ rw is
      (ap (λ (g : List Line). m ∷ g)
      (until_shut d ls more
      (elim (either (admits d m) (is_shut d ls) shut)
      [ inl here ↦ absurd (not_both (admits d m) here is) | inr later ↦ later ])))
]

until_open : (d : ℕ) (ls more : List Line) → is_shut d ls ≡ false → until_live d (ls ++ more) ≡ ls ++ until_live d more
until_open d [] more stays = refl
until_open d (m ∷ ls) more stays =
    rw (left_off (admits d m) (is_shut d ls) stays)
    (ap (λ (g : List Line). m ∷ g) (until_open d ls more (right_off (admits d m) (is_shut d ls) stays)))

until_all : (d : ℕ) (ls : List Line) → is_shut d ls ≡ false → until_live d ls ≡ ls
until_all d [] stays = refl
until_all d (m ∷ ls) stays =
    rw (left_off (admits d m) (is_shut d ls) stays)
    (ap (λ (g : List Line). m ∷ g) (until_all d ls (right_off (admits d m) (is_shut d ls) stays)))

until_admitted : (d : ℕ) (ls : List Line) (l : Line) → is_shut d ls ≡ false → admits d l ≡ true
    → until_live d (ls ++ l ∷ []) ≡ ls
until_admitted d ls l stays last =
    until_open d ls (l ∷ []) stays ∙ (ap (λ (b : Bool). ls ++ (if b then [] else l ∷ [])) last ∙ append-nil ls)

until_further : (d : ℕ) (ls : List Line) (l : Line) → is_shut d ls ≡ false → admits d l ≡ false
    → until_live d (ls ++ l ∷ []) ≡ ls ++ l ∷ []
until_further d ls l stays last = until_open d ls (l ∷ []) stays ∙ ap (λ (b : Bool). ls ++ (if b then [] else l ∷ []))
    last

module _ (tools : Tools) where
  refuses_more : (d : ℕ) (h since ls : List Line) (l : Line) → refuses tools d h since (ls ++ l ∷ [])
      ≡ (refuses tools d h since ls && refuses_line tools d h (since ++ ls) l)
  unfolding refuses
  refuses_more d h since [] l = one (refuses_line tools d h since l) ∙ ap
      (λ (g : List Line). refuses_line tools d h g l) (sym (append-nil since))
    where
      one : (b : Bool) → (b && true) ≡ b
      one true = refl
      one false = refl
  refuses_more d h since (m ∷ ls) l =
      ap (λ (b : Bool). refuses_line tools d h since m && b)
      (refuses_more d h (since ++ m ∷ []) ls l ∙ ap
      (λ (g : List Line). refuses tools d h (since ++ m ∷ []) ls && refuses_line tools d h g l)
      (append_assoc since (m ∷ []) ls))
      ∙ sym (assoc (refuses_line tools d h since m) (refuses tools d h (since ++ m ∷ []) ls)
      (refuses_line tools d h (since ++ m ∷ ls) l))
    where
      assoc : (a b c : Bool) → ((a && b) && c) ≡ (a && (b && c))
      assoc true b c = refl
      assoc false b c = refl

  locks_more : (d : ℕ) (a ls : List Line) (l : Line) → refuses tools d a [] ls ≡ true → goes_on tools a d ls l ≡ true
      → locks_out tools a (ls ++ l ∷ []) d ≡ true
  locks_more d a ls l before on =
      both _ _ (and_left (keeps_out tools a (ls ++ l ∷ []) d) _ on)
      (refuses_more d a [] ls l ∙ both _ _ before (and_right (keeps_out tools a (ls ++ l ∷ []) d) _ on))

  locks_less : (d : ℕ) (a ls : List Line) (l : Line) → goes_on tools a d ls l ≡ false
      → locks_out tools a (ls ++ l ∷ []) d ≡ false
  locks_less d a ls l off =
      elim (and_off (keeps_out tools a (ls ++ l ∷ []) d) (refuses_line tools d a ls l) off) [
        | inl out ↦ off_left _ _ out
        | inr taken ↦ off_right (keeps_out tools a (ls ++ l ∷ []) d) _
            (refuses_more d a [] ls l ∙ off_right (refuses tools d a [] ls) _ taken)
      ]

  -- One removal

  abbrev locks : List Line → ℕ → List Line → Bool
  locks a d ls = locks_out tools a ls d

  stays_at : (h : List Line) (m : Line) (ls : List Line) (l : Line) → locked_line tools h m ls ≡ true
      → EachAt (λ a d b. admits d l ≡ false → goes_on tools a d b l ≡ true) h m ls
      → locked_line tools h m (ls ++ l ∷ []) ≡ true
  stays_at h (line.Removed event device) ls l before each =
      let a : List Line = h ++ line.Removed event device ∷ [] in
      elim (decided (is_shut device.0 ls)) [
        | inl shut ↦ ap (locks a device.0) (until_shut device.0 ls (l ∷ []) shut) ∙ before
        | inr stays ↦ elim (decided (admits device.0 l)) [
          | inl last ↦ ap (locks a device.0)
              (until_admitted device.0 ls l stays last ∙ sym (until_all device.0 ls stays)) ∙ before
          | inr further ↦ ap (locks a device.0) (until_further device.0 ls l stays further)
              ∙ locks_more device.0 a ls l
              (and_right (keeps_out tools a ls device.0) _
              (sym (ap (locks a device.0) (until_all device.0 ls stays)) ∙ before)) (each stays further)
        ]
      ]
  stays_at h _ ls l before each = refl

  fails_at : (h : List Line) (m : Line) (ls : List Line) (l : Line)
      → SomeAt (λ a d b. (admits d l ≡ false) × (goes_on tools a d b l ≡ false)) h m ls
      → locked_line tools h m (ls ++ l ∷ []) ≡ false
  fails_at h (line.Removed event device) ls l some =
      let a : List Line = h ++ line.Removed event device ∷ [] in
      ap (locks a device.0) (until_further device.0 ls l some.0 some.1.0) ∙ locks_less device.0 a ls l some.1.1
  fails_at h _ ls l some = absurd some

  new_at : (h : List Line) (l : Line) → locked_line tools h l [] ≡ true
  unfolding keeps_out refuses
  new_at h (line.Removed event device) = refl
  new_at h _ = refl

  -- All removals

  stays_from : (h ls : List Line) (l : Line) → locked_from tools h ls ≡ true
      → EachWindow (λ a d b. admits d l ≡ false → goes_on tools a d b l ≡ true) h ls
      → locked_from tools h (ls ++ l ∷ []) ≡ true
  stays_from h [] l before each = both _ _ (new_at h l) refl
  stays_from h (m ∷ ls) l before each =
      both _ _ (stays_at h m ls l (and_left (locked_line tools h m ls) _ before) each.0)
      (stays_from (h ++ m ∷ []) ls l (and_right (locked_line tools h m ls) _ before) each.1)

  fails_from : (h ls : List Line) (l : Line)
      → SomeWindow (λ a d b. (admits d l ≡ false) × (goes_on tools a d b l ≡ false)) h ls
      → locked_from tools h (ls ++ l ∷ []) ≡ false
  fails_from h [] l some = absurd some
  fails_from h (m ∷ ls) l (inl here) = off_left _ _ (fails_at h m ls l here)
  fails_from h (m ∷ ls) l (inr later) = off_right (locked_line tools h m (ls ++ l ∷ [])) _
      (fails_from (h ++ m ∷ []) ls l later)

  pub locked_more : (h : List Line) (l : Line) (stays : Bool) → locked tools h ≡ true
      → (stays ≡ true → EachWindow (λ a d b. admits d l ≡ false → goes_on tools a d b l ≡ true) [] h)
      → (stays ≡ false → SomeWindow (λ a d b. (admits d l ≡ false) × (goes_on tools a d b l ≡ false)) [] h)
      → locked tools (h ++ l ∷ []) ≡ stays
  unfolding locked
  locked_more h l true before each some = stays_from [] h l before (each refl)
  locked_more h l false before each some = fails_from [] h l (some refl)

  pub locked_nothing : locked tools [] ≡ true
  unfolding locked
  locked_nothing = refl

  -- The first line with which it fails

  abbrev unlocked_by : List Line → Bool → Option ℕ
  unlocked_by h stays = if stays then None else Some (length h + 1)

  unlocked_at : (h : List Line) (m : Line) (ls : List Line) (l : Line) (b : Bool)
      → unlocked_from tools (h ++ m ∷ []) (ls ++ l ∷ []) ≡ option_or (unlocked_from tools (h ++ m ∷ []) ls)
      (unlocked_by ((h ++ m ∷ []) ++ ls) (locked tools (((h ++ m ∷ []) ++ ls) ++ l ∷ [])))
      → (if b then unlocked_from tools (h ++ m ∷ []) (ls ++ l ∷ []) else Some (length h + 1))
      ≡ option_or (if b then unlocked_from tools (h ++ m ∷ []) ls else Some (length h + 1))
      (unlocked_by (h ++ m ∷ ls) (locked tools ((h ++ m ∷ ls) ++ l ∷ [])))
  unlocked_at h m ls l true later =
      later ∙ ap
      (λ (g : List Line). option_or (unlocked_from tools (h ++ m ∷ []) ls)
      (unlocked_by g (locked tools (g ++ l ∷ [])))) (append_assoc h (m ∷ []) ls)
  unlocked_at h m ls l false later = refl

  unlocked_more : (h ls : List Line) (l : Line) → unlocked_from tools h (ls ++ l ∷ [])
      ≡ option_or (unlocked_from tools h ls) (unlocked_by (h ++ ls) (locked tools ((h ++ ls) ++ l ∷ [])))
  unlocked_more h [] l = ap (λ (g : List Line). unlocked_by g (locked tools (g ++ l ∷ []))) (sym (append-nil h))
  unlocked_more h (m ∷ ls) l = unlocked_at h m ls l (locked tools (h ++ m ∷ [])) (unlocked_more (h ++ m ∷ []) ls l)

  pub first_more : (h : List Line) (l : Line) → first_unlocked tools (h ++ l ∷ [])
      ≡ option_or (first_unlocked tools h) (unlocked_by h (locked tools (h ++ l ∷ [])))
  unfolding first_unlocked
  first_more h l = unlocked_more [] h l

  after_line : (h : List Line) (m : Line) (ls : List Line) (b : Bool) → locked tools (h ++ m ∷ []) ≡ b
      → (if b then unlocked_from tools (h ++ m ∷ []) ls else Some (length h + 1)) ≡ None
      → (locked tools (h ++ m ∷ []) ≡ true → unlocked_from tools (h ++ m ∷ []) ls ≡ None
      → locked tools ((h ++ m ∷ []) ++ ls) ≡ true) → locked tools (h ++ m ∷ ls) ≡ true
  after_line h m ls true is none later = ap (locked tools) (sym (append_assoc h (m ∷ []) ls)) ∙ later is none
  after_line h m ls false is none later = cc

  locked_after : (h ls : List Line) → locked tools h ≡ true → unlocked_from tools h ls ≡ None → locked tools (h ++ ls)
      ≡ true
  locked_after h [] before none = ap (locked tools) (append-nil h) ∙ before
  locked_after h (m ∷ ls) before none = after_line h m ls (locked tools (h ++ m ∷ [])) refl none
      (locked_after (h ++ m ∷ []) ls)

  -- If no line is the first, lockout holds.
  pub locked_where_none : (h : List Line) → first_unlocked tools h ≡ None → locked tools h ≡ true
  unfolding first_unlocked
  locked_where_none h none = locked_after [] h locked_nothing none
