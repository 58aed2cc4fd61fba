-- A set of keys beside a list of them.
use Rattle.std.specs.Prelude.{◌≡◌, ℕ, List}
use Rattle.std.specs.BTreeSet.{BTreeSet, contains}
use Rattle.std.specs.Cmp.Lexicographic.{slice_cmp}
use Rattle.std.specs.Ordering.{nat_cmp}
use Rattle.zb_sched.specs.Judge.{is_drawn}

-- The set has exactly the keys of the list.
abbrev pub HasTheSame : BTreeSet (List ℕ) → List (List ℕ) → Type 0
HasTheSame known keys = (key : List ℕ) → contains (slice_cmp nat_cmp) known key ≡ is_drawn key keys
