-- Nothing is accepted that is sealed only later, so the two ways to state the lockout are one.
use Rattle.std.proofs.Common.{◌≡◌, ◌⊎◌, inl, inr, ℕ, Bool, true, false, cond, List, [], ◌∷◌, ◌++◌, flat_map, refl, sym, ◌∙◌, ap, subst, append_assoc}
use Rattle.std.proofs.lemmas.Bool.{and_parts}
use Rattle.std.proofs.lemmas.List.{append-nil}
use Rattle.std.proofs.lemmas.Grind.{flat_map-append}
use Rattle.std.proofs.lemmas.List.Concat.{flat_map-cons}
use Rattle.zb_model.specs.Claims.{AreApart, Each, Fresh, HoldsNoneKnown, Locked, LockedFrom, LockedLine, RefusesLine, before_group, is_live_line, sealed_in, sealed_terms, seals_of, until_live}
use Rattle.zb_model.specs.Data.{Moved, Nwk, Removed, Term}
use Rattle.zb_model.specs.Lines.{Accept, Changed, Line}
use Rattle.zb_model.specs.Secrets.{each_line, forged_in, ideal, ideal_line, terms_of}
use Rattle.zb_model.specs.Tools.{Tools}
use Rattle.law_lockout.specs.LockedOut.{LockedOut, LockedOutFrom, LockedOutLine, TakesNoneOf}
use Rattle.law_lockout.proofs.Terms.{Has, has_by_test, has_from, has_lines, has_term, lines_either, lines_front, own_seal, sealed_once, sealed_or_forged}

-- what a test of each line says of one of them
each_at : (test : List Line → Line → Bool) (h xs : List Line) (l : Line) (ys : List Line)
    → each_line test h (xs ++ l ∷ ys) ≡ true → test (h ++ xs) l ≡ true
unfolding each_line
each_at test h [] l ys is = subst (λ x. test x l ≡ true) (sym (append-nil h)) (and_parts (test h l) _ is).0
each_at test h (x ∷ xs) l ys is =
    subst (λ z. test z l ≡ true) (append_assoc h (x ∷ []) xs)
    (each_at test (h ++ x ∷ []) xs l ys (and_parts (test h x) _ is).1)

-- lines of which one is an acceptance
module _ (tools : Tools) (lines front later : List Line) (e n : ℕ) (t : Term) (apart : Fresh tools lines)
    (all : ideal tools lines ≡ true) (split : lines ≡ front ++ Accept e n t ∷ later) where
  was_there : Has t (terms_of front)
  unfolding ideal ideal_line
  was_there =
      has_by_test t (terms_of front)
      (each_at (ideal_line tools) [] front (Accept e n t) later
      (subst (λ ls. each_line (ideal_line tools) [] ls ≡ true) split all))

  sealed_parts : sealed_terms lines ≡ sealed_terms front ++ sealed_terms later
  unfolding sealed_terms
  sealed_parts = ap (flat_map sealed_in) split ∙ flat_map-append sealed_in front (Accept e n t ∷ later) ∙ ap
      (λ us. flat_map sealed_in front ++ us) (flat_map-cons sealed_in (Accept e n t) later)

  -- a term that is sealed later was forged before
  pub forged_before : Has t (flat_map sealed_in later) → Has t (flat_map forged_in front)
  unfolding sealed_terms terms_of
  forged_before sealed = elim (sealed_or_forged front t was_there) [
    | inl early ↦ absurd
        (sealed_once tools (flat_map sealed_in front) (flat_map sealed_in later) t
        (subst (AreApart tools) sealed_parts apart) early sealed)
    | inr forged ↦ forged
  ]

-- ---- after a removal: the lines up to it, and all lines after it

module _ (tools : Tools) (lines h after : List Line) (d : ℕ) (whole : lines ≡ h ++ after) (apart : Fresh tools lines)
    (all : ideal tools lines ≡ true) where
  one_line : (since : List Line) (l : Line) (later : List Line) → after ≡ since ++ l ∷ later
      → RefusesLine tools d h since l → TakesNoneOf tools d h after since l
  one_line since (Accept e n t) later split refuses = λ nwk none has. elim has [
    | inl sealed ↦ by_part nwk none
        (lines_either (seals_of d) since (Accept e n t ∷ later) t
        (subst (λ ls. Has t (flat_map (seals_of d) ls)) split (has_from t (flat_map (seals_of d) after) sealed)))
    | inr forged ↦ refuses nwk none (inr forged)
  ]
    where
      here : lines ≡ (h ++ since) ++ Accept e n t ∷ later
      here = whole ∙ ap (λ ls. h ++ ls) split ∙ sym (append_assoc h since (Accept e n t ∷ later))

      by_part : t.layer ≡ Nwk → HoldsNoneKnown tools (before_group e (h ++ since)) n
          → Has t (flat_map (seals_of d) since) ⊎ Has t (flat_map (seals_of d) (Accept e n t ∷ later)) → ⊥
      by_part nwk none (inl early) = refuses nwk none (inl (has_term t (flat_map (seals_of d) since) early))
      by_part nwk none (inr late) =
          let sealed = has_lines (seals_of d) sealed_in (own_seal d) later t
          (subst (Has t) (flat_map-cons (seals_of d) (Accept e n t) later) late) in
          refuses nwk none
          (inr (has_term t (flat_map forged_in (h ++ since))
          (forged_before tools lines (h ++ since) later e n t apart all here sealed)))
  one_line since _ later split refuses = tt

  each_takes : (since ls rest : List Line) → after ≡ (since ++ ls) ++ rest → Each (RefusesLine tools d h) since ls
      → Each (TakesNoneOf tools d h after) since ls
  each_takes since [] rest split each = tt
  each_takes since (l ∷ ls) rest split each = (
    one_line since l (ls ++ rest) (split ∙ append_assoc since (l ∷ ls) rest) each.0,
    each_takes (since ++ l ∷ []) ls rest (split ∙ ap (λ xs. xs ++ rest) (sym (append_assoc since (l ∷ []) ls))) each.1,
  )

-- the lines up to a device's next admission are a prefix
until_front : (d : ℕ) (ls : List Line) → (rest : List Line) × (ls ≡ until_live d ls ++ rest)
until_front d [] = ([], refl)
until_front d (l ∷ ls) = by_test (is_live_line d l) (until_front d ls)
  where
    by_test : (b : Bool) → ((rest : List Line) × (ls ≡ until_live d ls ++ rest)) → (rest : List Line)
        × (l ∷ ls ≡ cond b [] (l ∷ until_live d ls) ++ rest)
    by_test true more = (l ∷ ls, refl)
    by_test false more = (more.0, ap (λ xs. l ∷ xs) more.1)

out_line : (tools : Tools) (lines h : List Line) (l : Line) (ls : List Line) → lines ≡ (h ++ l ∷ []) ++ ls
    → Fresh tools lines → ideal tools lines ≡ true → LockedLine tools h l ls → LockedOutLine tools h l ls
out_line tools lines h (Changed e n (Moved (Removed d))) ls whole apart all locked =
    let more = until_front d ls in (
      locked.0,
      each_takes tools lines (h ++ Changed e n (Moved (Removed d)) ∷ []) ls d whole apart all []
          (until_live d ls) more.0 more.1 locked.1,
    )
out_line tools lines h _ ls whole apart all locked = tt

out_from : (tools : Tools) (lines h ls : List Line) → lines ≡ h ++ ls → Fresh tools lines → ideal tools lines ≡ true
    → LockedFrom tools h ls → LockedOutFrom tools h ls
out_from tools lines h [] whole apart all locked = tt
out_from tools lines h (l ∷ ls) whole apart all locked =
    let here : lines ≡ (h ++ l ∷ []) ++ ls = whole ∙ sym (append_assoc h (l ∷ []) ls) in (
      out_line tools lines h l ls here apart all locked.0,
      out_from tools lines (h ++ l ∷ []) ls here apart all
          locked.1,
    )

pub locked_out : (tools : Tools) (lines : List Line) → Fresh tools lines → ideal tools lines ≡ true
    → Locked tools lines → LockedOut tools lines
locked_out tools lines apart all locked = out_from tools lines [] lines refl apart all locked

-- ---- the reverse: what was sealed before an acceptance is sealed after the removal

back_line : (tools : Tools) (d : ℕ) (h after since : List Line) (l : Line) (later : List Line) → after ≡ since ++ l
    ∷ later → TakesNoneOf tools d h after since l → RefusesLine tools d h since l
back_line tools d h after since (Accept e n t) later split takes = λ nwk none has. elim has [
  | inl early ↦ takes nwk none
      (inl (has_term t (flat_map (seals_of d) after)
      (subst (λ ls. Has t (flat_map (seals_of d) ls)) (sym split)
      (lines_front (seals_of d) since (Accept e n t ∷ later) t (has_from t (flat_map (seals_of d) since) early)))))
  | inr forged ↦ takes nwk none (inr forged)
]
back_line tools d h after since _ later split takes = tt

each_back : (tools : Tools) (d : ℕ) (h after since ls rest : List Line) → after ≡ (since ++ ls) ++ rest
    → Each (TakesNoneOf tools d h after) since ls → Each (RefusesLine tools d h) since ls
each_back tools d h after since [] rest split each = tt
each_back tools d h after since (l ∷ ls) rest split each = (
  back_line tools d h after since l (ls ++ rest) (split ∙ append_assoc since (l ∷ ls) rest) each.0,
  each_back tools d h after (since ++ l ∷ []) ls rest
      (split ∙ ap (λ xs. xs ++ rest) (sym (append_assoc since (l ∷ []) ls))) each.1,
)

in_line : (tools : Tools) (h : List Line) (l : Line) (ls : List Line) → LockedOutLine tools h l ls
    → LockedLine tools h l ls
in_line tools h (Changed e n (Moved (Removed d))) ls out =
    let more =
    until_front d ls in (
      out.0,
      each_back tools d (h ++ Changed e n (Moved (Removed d)) ∷ []) ls [] (until_live d ls) more.0 more.1
          out.1,
    )
in_line tools h _ ls out = tt

in_from : (tools : Tools) (h ls : List Line) → LockedOutFrom tools h ls → LockedFrom tools h ls
in_from tools h [] out = tt
in_from tools h (l ∷ ls) out = (in_line tools h l ls out.0, in_from tools (h ++ l ∷ []) ls out.1)

pub locked : (tools : Tools) (lines : List Line) → LockedOut tools lines → Locked tools lines
locked tools lines out = in_from tools [] lines out
