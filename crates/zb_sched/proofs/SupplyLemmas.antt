-- One more key of a supply.
use Rattle.std.proofs.Common.{◌≡◌, ℕ, ◌||◌, List, [], ◌∷◌, ◌++◌, Bool, true, false, cond, map, refl, sym, ◌∙◌, bytes_eq}
use Rattle.std.specs.BTreeSet.{BTreeSet, Updates}
use Rattle.std.specs.Cmp.Lexicographic.{slice_cmp}
use Rattle.std.specs.Ordering.{nat_cmp}
use Rattle.std.proofs.lemmas.Map.Text.{is_eq-slice_cmp}
use Rattle.std.proofs.lemmas.List.Folds.{list_any-append}
use Rattle.std.proofs.lemmas.List.{map-append}
use Rattle.zb_base.specs.declared.key.Key.{Key}
use Rattle.zb_sched.specs.Judge.{is_drawn}
use Rattle.zb_sched.specs.Supplies.{HasTheSame}

by_either : (a b : Bool) → cond a true b ≡ (b || (a || false))
by_either true true = refl
by_either true false = refl
by_either false true = refl
by_either false false = refl

pub more_known : (s n : BTreeSet (List ℕ)) (keys : List (List ℕ)) (key : List ℕ) → HasTheSame s keys
    → Updates (slice_cmp nat_cmp) s n key true
    → HasTheSame n (keys ++ key ∷ [])
more_known s n keys key same updates q =
    updates.0 q ∙ rw (same q, is_eq-slice_cmp key q) (by_either (bytes_eq key q) (is_drawn q keys)) ∙ sym
    (list_any-append (λ draw. bytes_eq draw q) keys (key ∷ []))

-- the keys of a list with one more, as bytes
pub key_bytes_more : (keys : List Key) (key : Key) → map (λ (k : Key). k.0) (keys ++ key ∷ [])
    ≡ map (λ (k : Key). k.0) keys ++ key.0 ∷ []
key_bytes_more keys key = map-append (λ (k : Key). k.0) keys (key ∷ [])
