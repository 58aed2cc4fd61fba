-- Applying changes: how the loops continue and end.
use Rattle.std.proofs.Common.{◌≡◌, ℕ, zero, suc, ◌+◌, ◌-◌, ◌<◌, ◌≤◌, true, false, List, [], ◌∷◌, length, Ok, Err, refl, sym, ap, ◌∙◌, arith}
use Rattle.zb_node_types.specs.declared.change.Change.{Change}
use Rattle.zb_node_types.specs.Changes.{edit}
use Rattle.zb_model.specs.State.{NodeState, shown}
use Rattle.zb_record.specs.Changes.{change_at}
use Rattle.zb_record.specs.declared.version.Version.{Version}
use Rattle.zb_record.specs.Redoing.{Redone, change_made, fits_behind, applied_behind, change_redone, changes_redone, payloads_redone, redone}

-- one change

pub one_failed : (v : Version) (bytes : List ℕ) (s : NodeState) (e : ℕ) → change_at (length bytes) bytes ≡ Err e
    → change_redone v bytes s ≡ (s, Err e)
unfolding change_redone
one_failed v bytes s e read = ap (change_made v s (length bytes)) read

pub one_unfit : (v : Version) (bytes rest : List ℕ) (s : NodeState) (c : Change) → change_at (length bytes) bytes
    ≡ Ok (c, rest) → fits_behind v (edit c) s ≡ false → change_redone v bytes s ≡ (s, Err (length bytes))
unfolding change_redone
one_unfit v bytes rest s c read fit = ap (change_made v s (length bytes)) read ∙ rw fit refl

pub one_made : (v : Version) (bytes rest : List ℕ) (s : NodeState) (c : Change) → change_at (length bytes) bytes
    ≡ Ok (c, rest) → fits_behind v (edit c) s ≡ true → change_redone v bytes s
    ≡ (shown (applied_behind v (edit c) s), Ok rest)
unfolding change_redone
one_made v bytes rest s c read fit = ap (change_made v s (length bytes)) read ∙ rw fit refl

-- that many changes: the remaining ones give the whole
module _ (v : Version) (count i : ℕ) (bytes rest : List ℕ) (s t : NodeState) (total : Redone) (lt : i < count)
    (so : changes_redone v (count - i) bytes s ≡ total) where
  pub go_on : change_redone v bytes s ≡ (t, Ok rest) → changes_redone v (count - (i + 1)) rest t ≡ total
  unfolding changes_redone
  go_on one =
      let k : count - i ≡ suc (count - (i + 1)) = omega arith in
      let step : changes_redone v (count - i) bytes s ≡ changes_redone v (count - (i + 1)) rest t = rw (k, one) refl in
      sym step ∙ so

  pub stop : (e : ℕ) → change_redone v bytes s ≡ (t, Err e) → total ≡ (t, Err e)
  unfolding changes_redone
  stop e one =
      let k : count - i ≡ suc (count - (i + 1)) = omega arith in
      let step : changes_redone v (count - i) bytes s ≡ (t, Err e) = rw (k, one) refl in
      sym so ∙ step

pub all_made : (v : Version) (count i : ℕ) (bytes : List ℕ) (s : NodeState) (total : Redone) → count ≤ i
    → changes_redone v (count - i) bytes s ≡ total → total ≡ (s, Ok bytes)
unfolding changes_redone
all_made v count i bytes s total le so =
    let k : count - i ≡ 0 = omega arith in
    let step : changes_redone v (count - i) bytes s ≡ (s, Ok bytes) = rw k refl in
    sym so ∙ step

-- payloads: if there are at least as many bytes as payloads, the remaining ones give the whole
pub record Left (v : Version) (bytes : List ℕ) (s : NodeState) (total : Redone) : Type 0 where
  pub greatest_counter : ℕ
  pub enough : length bytes ≤ greatest_counter
  pub gives : payloads_redone v greatest_counter bytes s ≡ total

pub at_first : (v : Version) (bytes : List ℕ) (s : NodeState) → Left v bytes s (redone v bytes s)
unfolding redone
at_first v bytes s = record { greatest_counter = length bytes; enough = omega arith; gives = refl }

pub at_last : (v : Version) (bytes : List ℕ) (s : NodeState) (total : Redone) → bytes ≡ [] → Left v bytes s total
    → total ≡ (s, Ok [])
unfolding payloads_redone
at_last v bytes s total none so = sym so.gives ∙ ap (λ b. payloads_redone v so.greatest_counter b s) none ∙ by_most
    so.greatest_counter
  where
    by_most : (n : ℕ) → payloads_redone v n [] s ≡ (s, Ok [])
    by_most zero = refl
    by_most (suc n) = refl

module _ (v : Version) (bytes front rest : List ℕ) (count : ℕ) (s t : NodeState) (total : Redone)
    (parts : bytes ≡ count ∷ front) (so : Left v bytes s total) where
  pub next_payload : changes_redone v count front s ≡ (t, Ok rest) → length rest ≤ length front → Left v rest t total
  unfolding payloads_redone
  next_payload one le = by_most so.greatest_counter so.enough so.gives
    where
      by_most : (n : ℕ) → length bytes ≤ n → payloads_redone v n bytes s ≡ total → Left v rest t total
      by_most zero enough gives = absurd (omega (arith, ap (length {A = ℕ}) parts, enough))
      by_most (suc n) enough gives =
          let step : payloads_redone v (suc n) (count ∷ front) s ≡ payloads_redone v n rest t = rw one refl in
          record {
            greatest_counter = n;
            enough = omega (arith, ap (length {A = ℕ}) parts, enough, le);
            gives = sym step ∙ ap (λ b. payloads_redone v (suc n) b s) (sym parts) ∙ gives;
          }

  pub bad_payload : (e : ℕ) → changes_redone v count front s ≡ (t, Err e) → total ≡ (t, Err e)
  unfolding payloads_redone
  bad_payload e one = by_most so.greatest_counter so.enough so.gives
    where
      by_most : (n : ℕ) → length bytes ≤ n → payloads_redone v n bytes s ≡ total → total ≡ (t, Err e)
      by_most zero enough gives = absurd (omega (arith, ap (length {A = ℕ}) parts, enough))
      by_most (suc n) enough gives =
          let step : payloads_redone v (suc n) (count ∷ front) s ≡ (t, Err e) = rw one refl in
          sym gives ∙ ap (λ b. payloads_redone v (suc n) b s) parts ∙ step
