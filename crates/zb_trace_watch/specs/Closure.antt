-- Sets of keys that are closed under what terms carry.
use Rattle.std.specs.Prelude.{◌≡◌, List, Bool, true, IfSome}
use Rattle.std.specs.List.{AllByRecursion}
use Rattle.zb_model.specs.Data.{Bytes, Term}
use Rattle.zb_model.specs.Secrets.{carried}
use Rattle.zb_model.specs.Tools.{Tools}

-- If the set has the base key of a term, it has the key that the term carries.
abbrev pub Passes : Tools → (Bytes → Bool) → Term → Type 0
Passes tools S t = S t.base ≡ true → IfSome (carried tools t) (λ key. S key ≡ true)

abbrev pub IsClosed : Tools → (Bytes → Bool) → List Term → Type 0
IsClosed tools S terms = AllByRecursion (Passes tools S) terms
