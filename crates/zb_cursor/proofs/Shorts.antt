-- The invariants of the loop that reads short addresses.
use Rattle.std.proofs.Common.{◌≡◌, ℕ, ◌+◌, ◌-◌, ◌*◌, ◌^◌, ◌<◌, ◌≤◌, List, [], ◌∷◌, ◌++◌, length, take, Ok, refl, sym, ap, ◌∙◌, append_assoc, arith, length-append}
use Rattle.std.specs.List.{flat_map, AllByRecursion}
use Rattle.zb_base.specs.declared.address.Short.{Short}
use Rattle.zb_cursor.specs.Spelling.{short}
use Rattle.zb_cursor.specs.Reading.{short_at, times_at}
use Rattle.std.proofs.lemmas.List.{append-nil, length-take}
use Rattle.std.proofs.lemmas.List.Concat.{flat_map-cons}
use Rattle.std.proofs.lemmas.Grind.{flat_map-append}
use Rattle.zb_cursor.proofs.Times.{with_front, goes_on}

pub record SoFar {E : Type 0} (cut : E) (count i : ℕ) (bytes : List ℕ) (here : E) (rest : List ℕ)
    (shorts : List Short) : Type 0 where
  pub reads : with_front shorts (times_at short_at (count - i) cut rest) ≡ times_at short_at count cut bytes
  pub text : bytes ≡ flat_map short shorts ++ rest
  pub number : length shorts ≡ i
  pub in_range : AllByRecursion (λ s. s.0 < 2 ^ 16) shorts
  pub used : 2 * i + length rest ≡ length bytes
  pub same_cut : here ≡ cut

pub all_push : {A : Type 0} (P : A → Type 0) (xs : List A) (x : A) → AllByRecursion P xs → P x
    → AllByRecursion P (xs ++ x ∷ [])
all_push P [] x all here = (here, tt)
all_push P (y ∷ ys) x all here = (all.0, all_push P ys x all.1 here)

pub more : {E : Type 0} (cut : E) (count i : ℕ) (bytes : List ℕ) (here next : E) (rest after : List ℕ)
    (shorts : List Short) (x : Short)
    → SoFar cut count i bytes here rest shorts → i < count → short_at here rest ≡ Ok (x, after) → rest ≡ short x
    ++ after → x.0 < 2 ^ 16 → next ≡ here
    → SoFar cut count (i + 1) bytes next after (shorts ++ x ∷ [])
more cut count i bytes here next rest after shorts x so_far lt read spelled in_range same =
    let cut_read : short_at cut rest ≡ Ok (x, after) = ap (λ e. short_at e rest) (sym so_far.same_cut) ∙ read in
    let one : flat_map short (x ∷ []) ≡ short x = flat_map-cons short x [] ∙ append-nil (short x) in
    let text : flat_map short shorts ++ rest ≡ flat_map short (shorts ++ x ∷ []) ++ after =
    rw (flat_map-append short shorts (x ∷ []), one, spelled)
    (sym (append_assoc (flat_map short shorts) (short x) after)) in
    record {
      reads = goes_on cut short_at shorts count i rest x after (times_at short_at count cut bytes) lt cut_read
          so_far.reads;
      text = so_far.text ∙ text;
      number = omega (arith, length-append shorts (x ∷ []), so_far.number);
      in_range = all_push (λ s. s.0 < 2 ^ 16) shorts x so_far.in_range in_range;
      used = omega (arith, so_far.used, ap (length {A = ℕ}) spelled, length-append (short x) after);
      same_cut = same ∙ so_far.same_cut;
    }

-- ---- writing

pub record PutSoFar (old : List ℕ) (shorts : List Short) (i : ℕ) (new : List ℕ) : Type 0 where
  pub text : new ≡ old ++ flat_map short (take i shorts)
  pub fits : length new ≤ 127

pub length-shorts : (shorts : List Short) → length (flat_map short shorts) ≡ 2 * length shorts
length-shorts [] = refl
length-shorts (s ∷ shorts) =
    omega (
      arith,
      ap (length {A = ℕ}) (flat_map-cons short s shorts),
      length-append (short s) (flat_map short shorts),
      length-shorts shorts,
    )

-- if an address doesn't fit, they don't all fit
pub put_none : (old : List ℕ) (shorts : List Short) (i : ℕ) (now : List ℕ) → PutSoFar old shorts i now → i
    < length shorts → 127 < length now + 2 → 127 < length old + length (flat_map short shorts)
put_none old shorts i now so_far lt long =
    omega (
      arith,
      ap (length {A = ℕ}) so_far.text,
      length-append old (flat_map short (take i shorts)),
      length-shorts (take i shorts),
      length-take i shorts,
      length-shorts shorts,
    )
