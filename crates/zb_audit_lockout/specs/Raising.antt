-- What the numbers of keys become as some are raised and some are cleared.
use Rattle.std.specs.Prelude.{◌≡◌, ◌<◌, ◌≤◌, ◌⊎◌, ℕ, List, Bool, true}
use Rattle.zb_base.specs.declared.key.Key.{Key}
use Rattle.zb_audit_lockout.specs.Reading.{number_of}
use Rattle.zb_audit_lockout.specs.declared.numbers.Numbers.{Numbers}
use Rattle.zb_trace_watch.specs.Sets.{is_among, is_carried}
use Rattle.zb_trace_watch.specs.declared.holdings.Holdings.{Holdings}

-- A key has a number that it didn't have, and is among those that were raised.
pub record IsRaised (old new : Numbers) (number : ℕ) (raised : List Key) (k : List ℕ) : Type 0 where
  pub was : number_of old k < number
  pub is : number_of new k ≡ number
  pub among : is_among raised k ≡ true

-- Keys are raised to a number, and with each raised key all keys that terms carry under it. No other keys are raised.
pub record Raises (leads : Holdings Key) (old new : Numbers) (keys : List Key) (number : ℕ) (raised : List Key) :
    Type 0 where
  pub told : (k : List ℕ) → (number_of new k ≡ number_of old k) ⊎ IsRaised old new number raised k
  pub only : (k : List ℕ) → is_among raised k ≡ true → number_of new k ≡ number
  pub reached : (k : List ℕ) → is_among keys k ≡ true → number ≤ number_of new k
  pub carried : (b k : List ℕ) → is_among raised b ≡ true → is_carried leads b k ≡ true → number ≤ number_of new k
  pub least : (S : List ℕ → Bool) → ((k : List ℕ) → is_among keys k ≡ true → S k ≡ true)
      → ((b k : List ℕ) → S b ≡ true → is_carried leads b k ≡ true → S k ≡ true)
      → (k : List ℕ) → is_among raised k ≡ true → S k ≡ true

-- The numbers of keys are cleared, and with each key those of all keys under which terms carry it.
pub record Clears (bases : Holdings Key) (old new : Numbers) (keys cleared : List Key) : Type 0 where
  pub told : (k : List ℕ) → (number_of new k ≡ number_of old k)
      ⊎ ((number_of new k ≡ 0) × (is_among cleared k ≡ true))
  pub only : (k : List ℕ) → is_among cleared k ≡ true → number_of new k ≡ 0
  pub reached : (k : List ℕ) → is_among keys k ≡ true → number_of new k ≡ 0
  pub carried : (k b : List ℕ) → is_among cleared k ≡ true → is_carried bases k b ≡ true → number_of new b ≡ 0
