-- Items that differ in a property are each found by that property.
use Rattle.std.proofs.Common.{◌≡◌, List, [], ◌∷◌, find, ap, ◌∙◌, Bool, true, false, not, if◌then◌else◌, Some}
use Rattle.std.specs.List.{AllByRecursion, list_any}
use Rattle.std.proofs.lemmas.Bool.{not-true}
use Rattle.zb_model.specs.Fits.{all_apart}
use Rattle.law_change_fits.proofs.Tests.{both, neither}

abbrev IsFirst : {X : Type 0} → (X → X → Bool) → List X → X → Type 0
IsFirst alike xs r = find (λ x. alike x r) xs ≡ Some r

first_behind : {X : Type 0} (alike : X → X → Bool) (x : X) (xs rs : List X) → list_any (alike x) rs ≡ false
    → AllByRecursion (IsFirst alike xs) rs → AllByRecursion (IsFirst alike (x ∷ xs)) rs
first_behind alike x xs [] none all = tt
first_behind alike x xs (r ∷ rs) none all =
    let parts = neither (alike x r) (list_any (alike x) rs) none in (
      ap (λ (b : Bool). if b then Some x else find (λ y. alike y r) xs) parts.0 ∙ all.0,
      first_behind alike x xs rs parts.1 all.1,
    )

pub each_first : {X : Type 0} (alike : X → X → Bool) → ((x : X) → alike x x ≡ true) → (xs : List X)
    → all_apart alike xs ≡ true → AllByRecursion (IsFirst alike xs) xs
each_first alike self [] apart = tt
each_first alike self (x ∷ xs) apart =
    let parts = both (not (list_any (alike x) xs)) (all_apart alike xs) apart in (
      ap (λ (b : Bool). if b then Some x else find (λ y. alike y x) xs) (self x),
      first_behind alike x xs xs (not-true _ parts.0) (each_first alike self xs parts.1),
    )
