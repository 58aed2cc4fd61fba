-- The places of names in a list of names.
use Rattle.std.proofs.Common.{◌≡◌, ℕ, suc, ◌+◌, Bool, true, false, List, [], ◌∷◌, ◌++◌, length, Option, Some, None, refl, ap, sym, ◌∙◌, bytes_eq, arith}
use Rattle.std.specs.Option.{option_map}
use Rattle.std.specs.Prelude.{if◌then◌else◌}
use Rattle.std.proofs.lemmas.Slice.Eq.{bytes_eq-Decides}
use Rattle.zb_model.specs.Data.{Bytes}
use Rattle.zb_audit_names.specs.Naming.{or_new, place_in, with_name}

pub same_bytes : (a b : Bytes) → bytes_eq a b ≡ true → a ≡ b
same_bytes a b h = (bytes_eq-Decides a b).0 h

pub itself : (a : Bytes) → bytes_eq a a ≡ true
itself a = (bytes_eq-Decides a a).1 refl

pub apart : (a b : Bytes) → (a ≡ b → ⊥) → bytes_eq a b ≡ false
apart a b differ = from (bytes_eq a b) refl
  where
    from : (same : Bool) → bytes_eq a b ≡ same → bytes_eq a b ≡ false
    from true e = absurd (differ ((bytes_eq-Decides a b).0 e))
    from false e = e

unsome : {A : Type 0} (x y : A) → Some x ≡ Some y → x ≡ y
unsome x y e = cc

more_than : (place : Option ℕ) (i : ℕ) → option_map (λ (n : ℕ). n + 1) place ≡ Some i → (j : ℕ) × (place ≡ Some j)
    × (i ≡ j + 1)
more_than None i e = cc
more_than (Some j) i e = (j, refl, sym (unsome (j + 1) i e))

-- Names at one place are one name.
at_head : (a b other : Bytes) (x y : Bool) (p q : Option ℕ) (i : ℕ) → bytes_eq other a ≡ x → bytes_eq other b ≡ y
    → ((j : ℕ) → p ≡ Some j → q ≡ Some j → a ≡ b)
    → (if x then Some 0 else option_map (λ (n : ℕ). n + 1) p) ≡ Some i
    → (if y then Some 0 else option_map (λ (n : ℕ). n + 1) q) ≡ Some i → a ≡ b
at_head a b other true true p q i ea eb more f g = sym (same_bytes other a ea) ∙ same_bytes other b eb
at_head a b other true false p q i ea eb more f g =
    let it = more_than q i g in let zero : 0 ≡ i = unsome 0 i f in let one : i ≡ it.0 + 1 =
    it.2 in absurd (omega arith)
at_head a b other false true p q i ea eb more f g =
    let it = more_than p i f in let zero : 0 ≡ i = unsome 0 i g in let one : i ≡ it.0 + 1 =
    it.2 in absurd (omega arith)
at_head a b other false false p q i ea eb more f g =
    let it = more_than p i f in
    let there = more_than q i g in
    let one : i ≡ it.0 + 1 = it.2 in
    let two : i ≡ there.0 + 1 = there.2 in
    let same : there.0 ≡ it.0 = omega arith in
    more it.0 it.1 (there.1 ∙ ap Some same)

pub one_place : (names : List Bytes) (a b : Bytes) (i : ℕ) → place_in names a ≡ Some i → place_in names b ≡ Some i → a
    ≡ b
unfolding place_in
one_place [] a b i f g = cc
one_place (other ∷ names) a b i f g = at_head a b other (bytes_eq other a) (bytes_eq other b) (place_in names a)
    (place_in names b) i refl refl (one_place names a b) f g

-- The place of a name stays the same as further names come.
kept_head : (x : Bool) (p q : Option ℕ) (i : ℕ) → ((j : ℕ) → p ≡ Some j → q ≡ Some j)
    → (if x then Some 0 else option_map (λ (n : ℕ). n + 1) p) ≡ Some i
    → (if x then Some 0 else option_map (λ (n : ℕ). n + 1) q) ≡ Some i
kept_head true p q i more f = f
kept_head false p q i more f = let it = more_than p i f in ap (option_map (λ (n : ℕ). n + 1)) (more it.0 it.1) ∙ ap
    Some (sym it.2)

pub place_kept : (names later : List Bytes) (a : Bytes) (i : ℕ) → place_in names a ≡ Some i
    → place_in (names ++ later) a ≡ Some i
unfolding place_in
place_kept [] later a i f = cc
place_kept (other ∷ names) later a i f = kept_head (bytes_eq other a) (place_in names a) (place_in (names ++ later) a)
    i (place_kept names later a) f

-- A new name comes after all others, and no other name does.
end_head : (x : Bool) (p q : Option ℕ) (n : ℕ) (y : Bool) → (p ≡ None → q ≡ (if y then Some n else None))
    → (if x then Some 0 else option_map (λ (n : ℕ). n + 1) p) ≡ None
    → (if x then Some 0 else option_map (λ (n : ℕ). n + 1) q) ≡ (if y then Some (suc n) else None)
end_head true p q n y more f = cc
end_head false (Some j) q n y more f = cc
end_head false None q n true more f = ap (option_map (λ (n : ℕ). n + 1)) (more refl) ∙ ap Some (omega arith)
end_head false None q n false more f = ap (option_map (λ (n : ℕ). n + 1)) (more refl)

pub place_end : (names : List Bytes) (a b : Bytes) → place_in names a ≡ None → place_in (names ++ b ∷ []) a
    ≡ (if bytes_eq b a then Some (length names) else None)
unfolding place_in
place_end [] a b f = refl
place_end (other ∷ names) a b f = end_head (bytes_eq other a) (place_in names a) (place_in (names ++ b ∷ []) a)
    (length names) (bytes_eq b a) (place_end names a b) f

-- The names grow at their end.
grown : (names : List Bytes) (name : Bytes) (place : Option ℕ) (a : Bytes) (i : ℕ) → place_in names a ≡ Some i
    → place_in (or_new names name place) a ≡ Some i
grown names name None a i f = place_kept names (name ∷ []) a i f
grown names name (Some place) a i f = f

pub place_stays : (names : List Bytes) (name a : Bytes) (i : ℕ) → place_in names a ≡ Some i
    → place_in (with_name names name) a ≡ Some i
unfolding with_name
place_stays names name a i f = grown names name (place_in names name) a i f
