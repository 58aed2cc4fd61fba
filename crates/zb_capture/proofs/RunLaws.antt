-- Frames in a text: from the first one on, and from a place on, after earlier runs.
use Rattle.std.proofs.Common.{◌≡◌, ℕ, zero, suc, ◌+◌, ◌-◌, ◌*◌, ◌<◌, ◌≤◌, List, [], ◌∷◌, ◌++◌, length, get_or, take, drop, refl, ap, sym, subst, ◌∙◌, add-one, arith, length-append, append_assoc}
use Rattle.arrayvec.specs.ArrayVec.{ArrayVec}
use Rattle.zb_capture.specs.Runs.{all_runs, frames_in, AreEnds}

-- Where frames end.
pub ends_within : (all start : ℕ) (ends : List ℕ) → AreEnds all start ends → start ≤ all
ends_within all start [] is = omega (arith, is)
ends_within all start (end ∷ ends) is = omega (arith, is.0, ends_within all end ends is.2)

pub ends_room : (all start : ℕ) (ends : List ℕ) → AreEnds all start ends → all ≤ start + 127 * length ends
ends_room all start [] is = omega (arith, is)
ends_room all start (end ∷ ends) is = omega (arith, is.1, ends_room all end ends is.2)

pub ends_more : (all start n : ℕ) (ends : List ℕ) → n ≤ 127 → AreEnds all start ends
    → AreEnds (all + n) start (ends ++ (all + n) ∷ [])
ends_more all start n [] few is = (omega (arith, is), omega (arith, is, few), refl)
ends_more all start n (end ∷ ends) few is = (is.0, is.1, ends_more all end n ends few is.2)

pub ends_from : (all start place : ℕ) (ends : List ℕ) → place < length ends → AreEnds all start ends
    → AreEnds all (get_or (start ∷ ends) place 0) (drop place ends)
ends_from all start place [] within is = absurd (omega (arith, within))
ends_from all start zero (end ∷ ends) within is = is
ends_from all start (suc place) (end ∷ []) within is = absurd (omega (arith, within))
ends_from all start (suc place) (end ∷ next ∷ ends) within is =
    ends_from all end place (next ∷ ends) (omega (arith, within)) is.2

-- One frame.
pub record IsAt (all start end : ℕ) : Type 0 where
  pub order : start ≤ end
  pub few : end ≤ start + 127
  pub within : end ≤ all

pub is_at : (all start place : ℕ) (ends : List ℕ) → place < length ends → AreEnds all start ends
    → IsAt all (get_or (start ∷ ends) place 0) (get_or ends place 0)
is_at all start place [] within is = absurd (omega (arith, within))
is_at all start zero (end ∷ ends) within is =
    record { order = is.0; few = is.1; within = ends_within all end ends is.2 }
is_at all start (suc place) (end ∷ ends) within is = is_at all end place ends (omega (arith, within)) is.2

-- The frames.
pub frame_count : (bytes : List ℕ) (start : ℕ) (ends : List ℕ) → length (frames_in bytes start ends) ≡ length ends
frame_count bytes start [] = refl
frame_count bytes start (end ∷ ends) = ap (λ n. suc n) (frame_count bytes end ends)

pub frames_from : (bytes : List ℕ) (start place : ℕ) (ends : List ℕ) → place < length ends
    → frames_in bytes (get_or (start ∷ ends) place 0) (drop place ends) ≡ drop place (frames_in bytes start ends)
frames_from bytes start place [] within = absurd (omega (arith, within))
frames_from bytes start zero (end ∷ ends) within = refl
frames_from bytes start (suc place) (end ∷ []) within = absurd (omega (arith, within))
frames_from bytes start (suc place) (end ∷ next ∷ ends) within = frames_from bytes end place (next ∷ ends)
    (omega (arith, within))

pub frame_is : (bytes : List ℕ) (start place : ℕ) (ends : List ℕ) (other : ArrayVec ℕ) → place < length ends
    → get_or (frames_in bytes start ends) place other
    ≡ record {
      items = take (get_or ends place 0 - get_or (start ∷ ends) place 0)
          (drop (get_or (start ∷ ends) place 0) bytes);
    }
frame_is bytes start place [] other within = absurd (omega (arith, within))
frame_is bytes start zero (end ∷ ends) other within = refl
frame_is bytes start (suc place) (end ∷ ends) other within =
    frame_is bytes end place ends other (omega (arith, within))

-- One frame more.
before_more : (start n : ℕ) (bytes more : List ℕ) → start + n ≤ length bytes → take n (drop start (bytes ++ more))
    ≡ take n (drop start bytes)
before_more zero zero bytes more within = refl
before_more zero (suc n) [] more within = absurd (omega (arith, within))
before_more zero (suc n) (x ∷ bytes) more within =
    ap (λ zs. x ∷ zs) (before_more zero n bytes more (omega (arith, within)))
before_more (suc start) n [] more within = absurd (omega (arith, within))
before_more (suc start) n (x ∷ bytes) more within = before_more start n bytes more (omega (arith, within))

behind : (bytes more : List ℕ) → drop (length bytes) (bytes ++ more) ≡ more
behind [] more = refl
behind (x ∷ bytes) more = behind bytes more

all_of : (n : ℕ) (xs : List ℕ) → n ≡ length xs → take n xs ≡ xs
all_of zero [] is = refl
all_of zero (x ∷ xs) is = absurd (omega (arith, is))
all_of (suc n) [] is = refl
all_of (suc n) (x ∷ xs) is = ap (λ zs. x ∷ zs) (all_of n xs (omega (arith, is)))

last_frame : (bytes more : List ℕ) (start : ℕ) → start ≡ length bytes
    → take (length bytes + length more - start) (drop start (bytes ++ more)) ≡ more
last_frame bytes more start is =
    ap (λ k. take (length bytes + length more - start) (drop k (bytes ++ more))) is ∙ ap
    (take (length bytes + length more - start)) (behind bytes more)
    ∙ all_of (length bytes + length more - start) more (omega (arith, is))

pub frames_more : (bytes more : List ℕ) (start : ℕ) (ends : List ℕ) → AreEnds (length bytes) start ends
    → frames_in (bytes ++ more) start (ends ++ (length bytes + length more) ∷ []) ≡ frames_in bytes start ends
    ++ record { items = more } ∷ []
frames_more bytes more start [] is = ap (λ (xs : List ℕ). record { items = xs } ∷ []) (last_frame bytes more start is)
frames_more bytes more start (end ∷ ends) is =
    let same : take (end - start) (drop start (bytes ++ more)) ≡ take (end - start) (drop start bytes) =
    before_more start (end - start) bytes more (omega (arith, is.0, ends_within (length bytes) end ends is.2)) in
    ap (λ (xs : List ℕ). record { items = xs }
    ∷ frames_in (bytes ++ more) end (ends ++ (length bytes + length more) ∷ [])) same
    ∙ ap (λ zs. record { items = take (end - start) (drop start bytes) } ∷ zs) (frames_more bytes more end ends is.2)

pub push_ends : (bytes more new ends after : List ℕ) (end : ℕ) → AreEnds (length bytes) 0 ends → length more ≤ 127
    → new ≡ bytes ++ more
    → end ≡ length bytes + length more → after ≡ ends ++ end ∷ [] → AreEnds (length new) 0 after
push_ends bytes more new ends after end is few one two three =
    let Q : List ℕ → Type 0 = λ zs. AreEnds (length new) 0 zs in
    let all : length new ≡ length bytes + length more = ap (length {A = ℕ}) one ∙ length-append bytes more in
    let N : ℕ → Type 0 = λ n. AreEnds n 0 (ends ++ (length bytes + length more) ∷ []) in
    subst Q (ap (λ n. ends ++ n ∷ []) (sym two) ∙ sym three)
    (subst N (sym all) (ends_more (length bytes) 0 (length more) ends few is))

pub push_frames : (bytes more new ends after : List ℕ) (end : ℕ) → AreEnds (length bytes) 0 ends → new ≡ bytes ++ more
    → end ≡ length bytes + length more → after ≡ ends ++ end ∷ [] → frames_in new 0 after ≡ frames_in bytes 0 ends
    ++ record { items = more } ∷ []
push_frames bytes more new ends after end is one two three =
    ap (λ zs. frames_in zs 0 after) one ∙ ap (frames_in (bytes ++ more) 0) (three ∙ ap (λ n. ends ++ n ∷ []) two) ∙
    frames_more bytes more 0 ends is

-- Runs, one after the other.
abbrev Run : Type 0
Run = List (ArrayVec ℕ)

runs_on : (runs : List Run) (i : ℕ) (d : Run) → i < length runs → all_runs (drop i runs) ≡ get_or runs i d
    ++ all_runs (drop (suc i) runs)
runs_on [] i d within = absurd (omega (arith, within))
runs_on (run ∷ runs) zero d within = refl
runs_on (run ∷ runs) (suc i) d within = runs_on runs i d (omega (arith, within))

past : {A : Type 0} (xs ys : List A) (n : ℕ) → length xs ≤ n → drop n (xs ++ ys) ≡ drop (n - length xs) ys
past [] ys n within = ap (λ k. drop k ys) (omega arith)
past (x ∷ xs) ys zero within = absurd (omega (arith, within))
past (x ∷ xs) ys (suc n) within = past xs ys n (omega (arith, within)) ∙ ap (λ k. drop k ys) (omega arith)

-- A run is passed.
pub record IsPassed (left : ℕ) (runs : List Run) (last : Run) (i : ℕ) (rest : Run) : Type 0 where
  pub within : left < length (all_runs (drop i runs) ++ last)
  pub same : drop left (all_runs (drop i runs) ++ last) ≡ rest

pub run_passed : (runs : List Run) (last : Run) (i left n : ℕ) (d : Run) (rest : Run) → i < length runs → n
    ≡ length (get_or runs i d) → n ≤ left
    → left < length (all_runs (drop i runs) ++ last) → drop left (all_runs (drop i runs) ++ last) ≡ rest
    → IsPassed (left - n) runs last (i + 1) rest
run_passed runs last i left n d rest within is long some same =
    let here = get_or runs i d in
    let behind = all_runs (drop (i + 1) runs) ++ last in
    let on : all_runs (drop i runs) ++ last ≡ here ++ behind =
    ap (λ zs. zs ++ last) (runs_on runs i d within ∙ ap (λ k. here ++ all_runs (drop k runs)) (sym (add-one i)))
    ∙ append_assoc here (all_runs (drop (i + 1) runs)) last in
    record {
      within = omega (arith, is, some, long, ap (length {A = ArrayVec ℕ}) on, length-append here behind);
      same = ap (λ k. drop (left - k) behind) is ∙ sym (past here behind left (omega (arith, is, long))) ∙ ap
          (drop left) (sym on) ∙ same;
    }
