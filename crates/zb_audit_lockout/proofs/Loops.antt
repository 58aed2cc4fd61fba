-- Loops that look for an item that passes a test.
use Rattle.std.proofs.Common.{◌≡◌, ℕ, suc, zero, ◌+◌, ◌<◌, List, [], ◌∷◌, length, arith, drop, get_or, Bool, true, false, ◌||◌, ap, sym, ◌∙◌}
use Rattle.std.specs.List.{list_any}
use Rattle.std.proofs.lemmas.List.{drop_more}
use Rattle.zb_trace_watch.proofs.Truth.{or_left, or_right}

pub any_here : {A : Type 0} (test : A → Bool) (xs : List A) (i : ℕ) (d : A) → i < length xs → test (get_or xs i d)
    ≡ true → list_any test (drop i xs) ≡ true
any_here test xs i d lt is = ap (list_any test) (drop_more xs i d lt) ∙ or_left _ _ is

pub any_next : {A : Type 0} (test : A → Bool) (xs : List A) (i : ℕ) (d : A) → i < length xs → test (get_or xs i d)
    ≡ false → list_any test (drop (i + 1) xs) ≡ list_any test (drop i xs)
any_next {A} test xs i d lt is =
    sym (ap (list_any test) (drop_more xs i d lt) ∙ ap (λ (b : Bool). b || list_any test (drop (i + 1) xs)) is)

pub any_get : {A : Type 0} (test : A → Bool) (xs : List A) (i : ℕ) (d : A) → i < length xs
    → test (get_or xs i d) ≡ true → list_any test xs ≡ true
any_get test [] i d lt is = absurd (omega arith)
any_get test (x ∷ xs) zero d lt is = or_left _ _ is
any_get test (x ∷ xs) (suc i) d lt is = or_right (test x) _ (any_get test xs i d (omega arith) is)
