-- Readings with the place of a fault: the number of bytes from the first one of the faulty field to the end.
use Rattle.std.specs.Prelude.{◌≡◌, ℕ, zero, suc, Bool, List, [], ◌∷◌, ◌++◌, length, Result, Ok, Err, if◌then◌else◌}
use Rattle.zb_base.specs.declared.fault.OrMemory.{OrMemory}
use Rattle.zb_base.specs.declared.fault.OrMemory.TheVariants.{Fault, NoMemory}
use Rattle.zb_cursor.specs.Reading.{Reading}

abbrev pub Placed : Type 0 → Type 0
Placed A = List ℕ → Result (A × List ℕ) ℕ

abbrev pub onward : {A B : Type 0} → Result (A × List ℕ) ℕ → (A → List ℕ → Result (B × List ℕ) ℕ)
    → Result (B × List ℕ) ℕ
onward (Ok x) next = next x.0 x.1
onward (Err left) next = Err left

-- one field, and then what depends on it
infixl 10 ◌>>=◌
abbrev pub ◌>>=◌ : {A B : Type 0} → Placed A → (A → Placed B) → Placed B
(first >>= next) bytes = onward (first bytes) (λ x rest. next x rest)

-- no byte is read
abbrev pub give : {A : Type 0} → A → Placed A
give x bytes = Ok (x, bytes)

abbrev pub judged : {A : Type 0} → ℕ → (A → Bool) → Result (A × List ℕ) ℕ → Result (A × List ℕ) ℕ
judged left fits (Ok x) = if fits x.0 then Ok x else Err left
judged left fits (Err e) = Err e

-- a field that is whole and passes a test
abbrev pub field : {A : Type 0} → Reading ℕ A → (A → Bool) → Placed A
field read fits bytes = judged (length bytes) fits (read (length bytes) bytes)

-- a field that is whole
abbrev pub whole : {A : Type 0} → Reading ℕ A → Placed A
whole read bytes = read (length bytes) bytes

-- that many rows, each checked against those before it
unfoldable pub rows_at : {A : Type 0} → (List A → Placed A) → ℕ → List A → Placed (List A)
rows_at step zero done bytes = Ok (done, bytes)
rows_at step (suc n) done bytes = onward (step done bytes) (λ row rest. rows_at step n (done ++ row ∷ []) rest)

-- What a call returned, and what it left in its reader.
abbrev pub Gives : {A B : Type 0} → (A → B) → Result A ℕ → List ℕ → Result (B × List ℕ) ℕ → Type 0
Gives view (Ok x) rest read = read ≡ Ok (view x, rest)
Gives view (Err left) rest read = read ≡ Err left

-- The same of a call that may run out of memory.
abbrev pub Answers : {A B : Type 0} → (A → B) → Result A (OrMemory ℕ) → List ℕ → Result (B × List ℕ) ℕ → Type 0
Answers view (Ok x) rest read = read ≡ Ok (view x, rest)
Answers view (Err (Fault left)) rest read = read ≡ Err left
Answers view (Err NoMemory) rest read = Unit {0}

-- a result as that of a call that may run out of memory
abbrev pub without_memory : {A : Type 0} → Result A ℕ → Result A (OrMemory ℕ)
without_memory (Ok x) = Ok x
without_memory (Err left) = Err (Fault left)
