-- What the program may assume of the objects outside it: sources, sinks and their counts of faults.
use Rattle.std.specs.Prelude.{ℕ, ◌+◌, ◌-◌, ◌^◌, ◌≡◌, ◌≤◌, min, List, take, Option, Result, OnOk, OnErr, Bool, ◌==◌}
use Rattle.std.specs.List.{list_any}
use Rattle.std.specs.Io.KnownBytes.{Appends}

-- a count that rose by `more`. It stops at 2^64 - 1, where the u64 of an adapter ends
abbrev pub risen : ℕ → ℕ → ℕ
risen count more = min (count + more) (2 ^ 64 - 1)

-- a count rose: it is greater than before, or is 2^64 - 1
abbrev pub Rose : ℕ → ℕ → Type 0
Rose before now = risen before 1 ≤ now

-- a count didn't change
abbrev pub Unrisen : ℕ → ℕ → Type 0
Unrisen before now = now ≡ before

-- a count of faults never falls: it doesn't change if the call succeeded, and rose if the call failed
pub record HasCause {T E : Type 0} (before now : ℕ) (result : Result T E) : Type 0 where
  pub later : before ≤ now
  pub unrisen : OnOk result (Unrisen before now)
  pub failed : OnErr result (Rose before now)

-- known bytes grow by some prefix of the piece
abbrev pub AppendsFront : Option (List ℕ) → Option (List ℕ) → List ℕ → Type 0
AppendsFront old new piece = (n : ℕ) × Appends old new (take n piece)

-- whether a number is one of these
abbrev pub has_number : List ℕ → ℕ → Bool
has_number numbers number = list_any (λ n. n == number) numbers

-- what a source over a reader counts: its calls, and those that failed
pub record Counts : Type 0 where
  pub calls : ℕ
  pub faults : ℕ

-- a source in memory: the bytes to come, the numbers from 1 of the calls that are to fail, and the counts so far
pub record Supply : Type 0 where
  pub rest : List ℕ
  pub fails : List ℕ
  pub calls : ℕ
  pub faults : ℕ

-- a sink in memory: what it took, its room, the numbers from 1 of the calls that are to fail, and the counts so far
pub record Intake : Type 0 where
  pub taken : List ℕ
  pub room : ℕ
  pub fails : List ℕ
  pub calls : ℕ
  pub faults : ℕ
