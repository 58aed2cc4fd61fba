-- If removed devices are locked out of lines, they are locked out of each prefix of them: more lines expose no fewer
-- keys, and the windows of a prefix are prefixes of the windows. So no line is the first with which lockout fails.
use Rattle.std.proofs.Common.{◌≡◌, ℕ, ◌+◌, Bool, true, false, cond, List, [], ◌∷◌, ◌++◌, length, ◌⊎◌, inl, inr, Some, None, refl, ap, sym, ◌∙◌, subst, append_assoc, flat_map}
use Rattle.std.specs.List.{AllByRecursion, list_any}
use Rattle.std.proofs.lemmas.Grind.{flat_map-append}
use Rattle.std.proofs.lemmas.List.{append-nil}
use Rattle.law_audit_sound.specs.Fronts.{LocksFronts}
use Rattle.zb_audit_names.specs.Secrets.{ever, exposed, terms_in, terms_of}
use Rattle.zb_audit_lockout.specs.Lockout.{admits, drawn_in, first_unlocked, keeps_out, locked, locked_from, locked_line, locks_out, refuses, refuses_line, unlocked_from, until_live}
use Rattle.zb_audit_lockout.proofs.Duality.{closed, covers, least}
use Rattle.zb_audit_lockout.proofs.Growing.{drawn_more, ever_more}
use Rattle.zb_audit_lockout.proofs.Locking.{locked_where_none}
use Rattle.zb_audit_lockout.proofs.Tests.{any_at, none_any, not_on, was_off}
use Rattle.zb_model.specs.Data.{Bytes, Term}
use Rattle.zb_model.specs.Secrets.{holds, well_known}
use Rattle.zb_model.specs.Tools.{Tools}
use Rattle.zb_trace.specs.declared.line.Line.{Line}
use Rattle.zb_trace.specs.declared.line.Line.TheVariants as line
use Rattle.zb_trace_watch.specs.Closure.{IsClosed, Passes}
use Rattle.zb_trace_watch.proofs.Truth.{and_left, and_right, both, decided, either, not_both, or_left, or_right}

-- What more lines expose

all_left : (P : Term → Type 0) (ts more : List Term) → AllByRecursion P (ts ++ more) → AllByRecursion P ts
all_left P [] more all = tt
all_left P (t ∷ ts) more all = (all.0, all_left P ts more all.1)

terms_append : (h g : List Line) → terms_of (h ++ g) ≡ terms_of h ++ terms_of g
unfolding terms_of
terms_append h g = flat_map-append terms_in h g

module _ (tools : Tools) where
  wider : (h g : List Line) (from more : List Bytes) → ((k : Bytes) → holds from k ≡ true → holds more k ≡ true)
      → (k : Bytes)
      → holds (exposed tools h from) k ≡ true → holds (exposed tools (h ++ g) more) k ≡ true
  wider h g from more within k there =
      let S : Bytes → Bool = holds (exposed tools (h ++ g) more) in
      least tools h from S (λ q start. covers tools (h ++ g) more q (within q start))
      (all_left (Passes tools S) (terms_of h) (terms_of g)
      (subst (λ (ts : List Term). IsClosed tools S ts) (terms_append h g) (closed tools (h ++ g) more))) k there

  -- what a device can have after lines, and after one more
  abbrev had : List Line → ℕ → List Bytes
  had h d = well_known ∷ ever h d

  had_more : (h : List Line) (l : Line) (d : ℕ) (k : Bytes) → holds (had h d) k ≡ true → holds (had (h ++ l ∷ []) d) k
      ≡ true
  had_more h l d k there =
      elim (either (Rattle.std.specs.Prelude.bytes_eq k well_known) (holds (ever h d) k) there) [
        | inl known ↦ or_left _ _ known
        | inr held ↦ or_right _ _ (ever_more h l d k ∙ or_left _ _ held)
      ]

  -- One window of a prefix

  keeps_less : (a b : List Line) (l : Line) (d : ℕ) → keeps_out tools a (b ++ l ∷ []) d ≡ true → keeps_out tools a b d
      ≡ true
  unfolding keeps_out
  keeps_less a b l d out =
      not_on (list_any shown (flat_map drawn_in b))
      (none_any shown (flat_map drawn_in b) (λ q there. by q there (decided (shown q))))
    where
      shown : Bytes → Bool
      shown q = holds (exposed tools (a ++ b) (had (a ++ b) d)) q

      shown_more : Bytes → Bool
      shown_more q = holds (exposed tools (a ++ (b ++ l ∷ [])) (had (a ++ (b ++ l ∷ [])) d)) q

      rises : (q : Bytes) → shown q ≡ true → shown_more q ≡ true
      rises q it =
          ap (λ (g : List Line). holds (exposed tools g (had g d)) q) (sym (append_assoc a b (l ∷ [])))
          ∙ wider (a ++ b) (l ∷ []) (had (a ++ b) d) (had ((a ++ b) ++ l ∷ []) d) (had_more (a ++ b) l d) q it

      by : (q : Bytes) → holds (flat_map drawn_in b) q ≡ true → (shown q ≡ true) ⊎ (shown q ≡ false) → shown q ≡ false
      by q there (inr off) = off
      by q there (inl it) =
          absurd (not_both (list_any shown_more (flat_map drawn_in (b ++ l ∷ [])))
          (any_at shown_more q (flat_map drawn_in (b ++ l ∷ [])) (drawn_more b l q ∙ or_left _ _ there) (rises q it))
          (was_off _ out))

  refuses_less : (d : ℕ) (h since ls : List Line) (l : Line) → refuses tools d h since (ls ++ l ∷ []) ≡ true
      → refuses tools d h since ls ≡ true
  unfolding refuses
  refuses_less d h since [] l all = refl
  refuses_less d h since (m ∷ ls) l all =
      both (refuses_line tools d h since m) _ (and_left _ _ all)
      (refuses_less d h (since ++ m ∷ []) ls l (and_right (refuses_line tools d h since m) _ all))

  locks_less : (a b : List Line) (l : Line) (d : ℕ) → locks_out tools a (b ++ l ∷ []) d ≡ true → locks_out tools a b d
      ≡ true
  locks_less a b l d all =
      both _ _ (keeps_less a b l d (and_left (keeps_out tools a (b ++ l ∷ []) d) _ all))
      (refuses_less d a [] b l (and_right (keeps_out tools a (b ++ l ∷ []) d) _ all))

  -- a window of a prefix is the window, or that without its last line
  abbrev IsCut : List Line → List Line → Line → Type 0
  IsCut whole front l = (whole ≡ front) ⊎ (whole ≡ front ++ l ∷ [])

  cut_one : (b : Bool) (l : Line) → IsCut (cond b [] (l ∷ [])) [] l
  cut_one true l = inl refl
  cut_one false l = inr refl

  cut_more : (b : Bool) (m l : Line) (whole front : List Line) → IsCut whole front l
      → IsCut (cond b [] (m ∷ whole)) (cond b [] (m ∷ front)) l
  cut_more true m l whole front is = inl refl
  cut_more false m l whole front (inl is) = inl (ap (λ (ls : List Line). m ∷ ls) is)
  cut_more false m l whole front (inr is) = inr (ap (λ (ls : List Line). m ∷ ls) is)

  cut : (d : ℕ) (ls : List Line) (l : Line) → IsCut (until_live d (ls ++ l ∷ [])) (until_live d ls) l
  cut d [] l = cut_one (admits d l) l
  cut d (m ∷ ls) l = cut_more (admits d m) m l (until_live d (ls ++ l ∷ [])) (until_live d ls) (cut d ls l)

  locks_cut : (a whole front : List Line) (l : Line) (d : ℕ) → IsCut whole front l → locks_out tools a whole d ≡ true
      → locks_out tools a front d ≡ true
  locks_cut a whole front l d (inl is) all = ap (λ (ls : List Line). locks_out tools a ls d) (sym is) ∙ all
  locks_cut a whole front l d (inr is) all =
      locks_less a front l d (ap (λ (ls : List Line). locks_out tools a ls d) (sym is) ∙ all)

  -- All windows

  line_less : (h : List Line) (m : Line) (ls : List Line) (l : Line) → locked_line tools h m (ls ++ l ∷ []) ≡ true
      → locked_line tools h m ls ≡ true
  line_less h (line.Removed event device) ls l all =
      locks_cut (h ++ line.Removed event device ∷ []) (until_live device.0 (ls ++ l ∷ [])) (until_live device.0 ls) l
      device.0 (cut device.0 ls l) all
  line_less h _ ls l all = refl

  from_less : (h ls : List Line) (l : Line) → locked_from tools h (ls ++ l ∷ []) ≡ true → locked_from tools h ls ≡ true
  from_less h [] l all = refl
  from_less h (m ∷ ls) l all =
      both _ _ (line_less h m ls l (and_left (locked_line tools h m (ls ++ l ∷ [])) _ all))
      (from_less (h ++ m ∷ []) ls l (and_right (locked_line tools h m (ls ++ l ∷ [])) _ all))

  locked_less : (h : List Line) (l : Line) → locked tools (h ++ l ∷ []) ≡ true → locked tools h ≡ true
  unfolding locked
  locked_less h l all = from_less [] h l all

  pub locked_front : (h g : List Line) → locked tools (h ++ g) ≡ true → locked tools h ≡ true
  locked_front h [] all = ap (locked tools) (sym (append-nil h)) ∙ all
  locked_front h (l ∷ g) all =
      locked_less h l (locked_front (h ++ l ∷ []) g (ap (locked tools) (append_assoc h (l ∷ []) g) ∙ all))

  -- The first line with which it fails

  none_from : (h ls : List Line) → locked tools (h ++ ls) ≡ true → unlocked_from tools h ls ≡ None
  none_from h [] all = refl
  none_from h (l ∷ ls) all =
      let whole : locked tools ((h ++ l ∷ []) ++ ls) ≡ true = ap (locked tools) (append_assoc h (l ∷ []) ls) ∙ all in
      ap (λ (b : Bool). cond b (unlocked_from tools (h ++ l ∷ []) ls) (Some (length h + 1)))
      (locked_front (h ++ l ∷ []) ls whole)
      ∙ none_from (h ++ l ∷ []) ls whole

  pub none_first : (lines : List Line) → locked tools lines ≡ true → first_unlocked tools lines ≡ None
  unfolding first_unlocked
  none_first lines all = none_from [] lines all

pub locks_fronts : (tools : Tools) (lines : List Line) → LocksFronts tools lines
locks_fronts tools lines = record {
  fronts = λ front rest is all. locked_front tools front rest (ap (locked tools) is ∙ all);
  none = none_first tools lines;
  only = locked_where_none tools lines;
}
