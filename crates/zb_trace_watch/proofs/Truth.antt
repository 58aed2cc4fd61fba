-- Truth values, and lists of keys.
use Rattle.std.proofs.Common.{◌≡◌, ℕ, List, [], ◌∷◌, ◌++◌, Bool, true, false, true≢false, not, ◌||◌, ◌&&◌, ◌⊎◌, inl, inr, refl, ap, sym, ◌∙◌, bytes_eq, nat_eq, eq-eqb}
use Rattle.std.specs.Ordering.{is_eq, nat_cmp}
use Rattle.std.specs.declared.cmp.Ordering.{Ordering}
use Rattle.std.specs.declared.cmp.Ordering.TheVariants.{Less, Equal, Greater}
use Rattle.std.proofs.lemmas.Cmp.{nat_cmp_total, tied_itself}
use Rattle.std.proofs.lemmas.Map.Lookups.{exact_unsigned}
use Rattle.std.proofs.lemmas.Map.Views.{exact_unsigned_eq}
use Rattle.std.proofs.lemmas.List.Folds.{list_any-append}
use Rattle.std.proofs.lemmas.Slice.Eq.{bytes_eq-Decides}
use Rattle.zb_base.specs.declared.key.Key.{Key}
use Rattle.zb_trace_watch.specs.Sets.{is_among}

pub either : (a b : Bool) → (a || b) ≡ true → (a ≡ true) ⊎ (b ≡ true)
either true b h = inl refl
either false b h = inr h

pub or_left : (a b : Bool) → a ≡ true → (a || b) ≡ true
or_left a b h = rw h refl

pub or_right : (a b : Bool) → b ≡ true → (a || b) ≡ true
or_right true b h = refl
or_right false b h = h

pub both : (a b : Bool) → a ≡ true → b ≡ true → (a && b) ≡ true
both a b h k = rw (h, k) refl

pub and_left : (a b : Bool) → (a && b) ≡ true → a ≡ true
and_left true b h = refl
and_left false b h = h

pub and_right : (a b : Bool) → (a && b) ≡ true → b ≡ true
and_right true b h = h
and_right false b h = cc

pub same_truth : (a b : Bool) → (a ≡ true → b ≡ true) → (b ≡ true → a ≡ true) → a ≡ b
same_truth true true f g = refl
same_truth true false f g = sym (f refl)
same_truth false true f g = g refl
same_truth false false f g = refl

pub same_bytes : (a b : List ℕ) → bytes_eq a b ≡ true → a ≡ b
same_bytes a b h = (bytes_eq-Decides a b).0 h

pub itself : (a : List ℕ) → bytes_eq a a ≡ true
itself a = (bytes_eq-Decides a a).1 refl

pub among_append : (keys more : List Key) (k : List ℕ) → is_among (keys ++ more) k
    ≡ (is_among keys k || is_among more k)
among_append keys more k = list_any-append (λ (other : Key). bytes_eq k other.0) keys more

pub among_end : (keys : List Key) (key : Key) → is_among (keys ++ key ∷ []) key.0 ≡ true
among_end keys key = among_append keys (key ∷ []) key.0 ∙ or_right _ _ (or_left _ _ (itself key.0))

pub same_number : (a b : ℕ) → nat_eq a b ≡ true → a ≡ b
same_number a b h = exact_unsigned_eq a b h

pub itself_number : (a : ℕ) → nat_eq a a ≡ true
itself_number a = eq-eqb a a refl

pub number_alike : (a b : ℕ) → is_eq (nat_cmp a b) ≡ nat_eq b a
number_alike a b =
    same_truth (is_eq (nat_cmp a b)) (nat_eq b a) (λ h. eq-eqb b a (sym (exact_unsigned a b (equal (nat_cmp a b) h))))
    (λ h. ap (λ (x : ℕ). is_eq (nat_cmp x b)) (sym (exact_unsigned_eq b a h)) ∙ ap is_eq
    (tied_itself nat_cmp_total b))
  where
    equal : (o : Ordering) → is_eq o ≡ true → o ≡ Equal
    equal Less h = cc
    equal Equal h = refl
    equal Greater h = cc

pub not_both : (a : Bool) → a ≡ true → a ≡ false → ⊥
not_both a h k = true≢false (sym h ∙ k)

pub not_false : (a : Bool) → not a ≡ false → a ≡ true
not_false true h = refl
not_false false h = cc

pub not_true : (a : Bool) → not a ≡ true → a ≡ false
not_true false h = refl
not_true true h = cc

pub none_left : (a : Bool) → (a || false) ≡ true → a ≡ true
none_left true h = refl
none_left false h = h

pub decided : (a : Bool) → (a ≡ true) ⊎ (a ≡ false)
decided true = inl refl
decided false = inr refl

pub turned_number : (a b : ℕ) → nat_eq a b ≡ nat_eq b a
turned_number a b = same_truth _ _ (λ h. eq-eqb b a (sym (exact_unsigned_eq a b h)))
    (λ h. eq-eqb a b (sym (exact_unsigned_eq b a h)))

pub number_so : (a b : ℕ) → is_eq (nat_cmp a b) ≡ nat_eq a b
number_so a b = number_alike a b ∙ turned_number b a
