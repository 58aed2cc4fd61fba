-- Windows of a list with one more line.
use Rattle.std.proofs.Common.{◌≡◌, ℕ, List, [], ◌∷◌, ◌++◌, false, inl, inr, refl, sym, ◌∙◌, subst, append_assoc}
use Rattle.std.proofs.lemmas.List.{append-nil}
use Rattle.std.proofs.lemmas.List.Folds.{list_any-append}
use Rattle.zb_audit_lockout.specs.Lockout.{admits}
use Rattle.zb_audit_lockout.specs.Windows.{Claim, EachAt, EachWindow, SomeAt, SomeWindow, is_shut}
use Rattle.zb_audit_lockout.proofs.Tests.{left_off, right_off, both_off}
use Rattle.zb_trace.specs.declared.line.Line.{Line}
use Rattle.zb_trace.specs.declared.line.Line.TheVariants as line

pub shut_before : (d : ℕ) (ls : List Line) (l : Line) → is_shut d (ls ++ l ∷ []) ≡ false → is_shut d ls ≡ false
shut_before d ls l stays = left_off _ _ (sym (list_any-append (admits d) ls (l ∷ [])) ∙ stays)

pub shut_last : (d : ℕ) (ls : List Line) (l : Line) → is_shut d (ls ++ l ∷ []) ≡ false → admits d l ≡ false
shut_last d ls l stays =
    left_off _ _ (right_off (is_shut d ls) _ (sym (list_any-append (admits d) ls (l ∷ [])) ∙ stays))

pub still_open : (d : ℕ) (ls : List Line) (l : Line) → is_shut d ls ≡ false → admits d l ≡ false
    → is_shut d (ls ++ l ∷ []) ≡ false
still_open d ls l stays not_last = list_any-append (admits d) ls (l ∷ []) ∙ both_off _ _ stays
    (both_off _ _ not_last refl)

at_start : (P : List Line → Type 0) (h : List Line) → P (h ++ []) → P h
at_start P h p = subst P (append-nil h) p

at_next : (P : List Line → Type 0) (h : List Line) (m : Line) (ls : List Line) → P (h ++ m ∷ ls)
    → P ((h ++ m ∷ []) ++ ls)
at_next P h m ls p = subst P (sym (append_assoc h (m ∷ []) ls)) p

module _ (P Q : Claim) (l : Line) (moves : (a : List Line) (d : ℕ) (b : List Line) → P a d b → admits d l ≡ false
    → Q a d (b ++ l ∷ [])) where
  each_at : (h : List Line) (m : Line) (ls : List Line) → EachAt P h m ls → EachAt Q h m (ls ++ l ∷ [])
  each_at h (line.Removed event device) ls at =
      λ stays. moves (h ++ line.Removed event device ∷ []) device.0 ls (at (shut_before device.0 ls l stays))
      (shut_last device.0 ls l stays)
  each_at h _ ls at = tt

  pub each_more : (h ls : List Line) → EachWindow P h ls → EachAt Q (h ++ ls) l [] → EachWindow Q h (ls ++ l ∷ [])
  each_more h [] each last = (at_start (λ (g : List Line). EachAt Q g l []) h last, tt)
  each_more h (m ∷ ls) each last = (
    each_at h m ls each.0,
    each_more (h ++ m ∷ []) ls each.1
        (at_next (λ (g : List Line). EachAt Q g l []) h m ls last),
  )

module _ (P Q : Claim) (moves : (a : List Line) (d : ℕ) (b : List Line) → P a d b → Q a d b) where
  map_at : (h : List Line) (m : Line) (ls : List Line) → EachAt P h m ls → EachAt Q h m ls
  map_at h (line.Removed event device) ls at = λ stays. moves (h ++ line.Removed event device ∷ []) device.0 ls
      (at stays)
  map_at h _ ls at = tt

  pub each_map : (h ls : List Line) → EachWindow P h ls → EachWindow Q h ls
  each_map h [] each = tt
  each_map h (m ∷ ls) each = (map_at h m ls each.0, each_map (h ++ m ∷ []) ls each.1)

  some_map_at : (h : List Line) (m : Line) (ls : List Line) → SomeAt P h m ls → SomeAt Q h m ls
  some_map_at h (line.Removed event device) ls at =
      (at.0, moves (h ++ line.Removed event device ∷ []) device.0 ls at.1)
  some_map_at h _ ls at = absurd at

  pub some_map : (h ls : List Line) → SomeWindow P h ls → SomeWindow Q h ls
  some_map h [] some = absurd some
  some_map h (m ∷ ls) (inl here) = inl (some_map_at h m ls here)
  some_map h (m ∷ ls) (inr later) = inr (some_map (h ++ m ∷ []) ls later)

module _ (P Q : Claim) (l : Line) (moves : (a : List Line) (d : ℕ) (b : List Line) → P a d b → (admits d l ≡ false)
    × Q a d (b ++ l ∷ [])) where
  some_at : (h : List Line) (m : Line) (ls : List Line) → SomeAt P h m ls → SomeAt Q h m (ls ++ l ∷ [])
  some_at h (line.Removed event device) ls at =
      let it = moves (h ++ line.Removed event device ∷ []) device.0 ls at.1 in
      (still_open device.0 ls l at.0 it.0, it.1)
  some_at h _ ls at = absurd at

  pub some_more : (h ls : List Line) → SomeWindow P h ls → SomeWindow Q h (ls ++ l ∷ [])
  some_more h [] some = absurd some
  some_more h (m ∷ ls) (inl here) = inl (some_at h m ls here)
  some_more h (m ∷ ls) (inr later) = inr (some_more (h ++ m ∷ []) ls later)

pub some_last : (Q : Claim) (l : Line) (h ls : List Line) → SomeAt Q (h ++ ls) l [] → SomeWindow Q h (ls ++ l ∷ [])
some_last Q l h [] at = inl (at_start (λ (g : List Line). SomeAt Q g l []) h at)
some_last Q l h (m ∷ ls) at =
    inr (some_last Q l (h ++ m ∷ []) ls (at_next (λ (g : List Line). SomeAt Q g l []) h m ls at))

-- If some window has one claim and each has another, some window has both.
module _ (P Q : Claim) where
  meet_at : (h : List Line) (m : Line) (ls : List Line) → EachAt P h m ls → SomeAt Q h m ls
      → SomeAt (λ a d b. P a d b × Q a d b) h m ls
  meet_at h (line.Removed event device) ls each some = (some.0, (each some.0, some.1))
  meet_at h _ ls each some = absurd some

  pub each_some : (h ls : List Line) → EachWindow P h ls → SomeWindow Q h ls
      → SomeWindow (λ a d b. P a d b × Q a d b) h ls
  each_some h [] each some = absurd some
  each_some h (m ∷ ls) each (inl here) = inl (meet_at h m ls each.0 here)
  each_some h (m ∷ ls) each (inr later) = inr (each_some (h ++ m ∷ []) ls each.1 later)

  both_at : (h : List Line) (m : Line) (ls : List Line) → EachAt P h m ls → EachAt Q h m ls
      → EachAt (λ a d b. P a d b × Q a d b) h m ls
  both_at h (line.Removed event device) ls p q = λ stays. (p stays, q stays)
  both_at h _ ls p q = tt

  pub each_both : (h ls : List Line) → EachWindow P h ls → EachWindow Q h ls
      → EachWindow (λ a d b. P a d b × Q a d b) h ls
  each_both h [] p q = tt
  each_both h (m ∷ ls) p q = (both_at h m ls p.0 q.0, each_both (h ++ m ∷ []) ls p.1 q.1)
