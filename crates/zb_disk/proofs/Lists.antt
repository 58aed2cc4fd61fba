-- Places of lists after an overwrite.
use Rattle.std.proofs.Common.{◌≡◌, inl, inr, ℕ, ◌+◌, ◌-◌, ◌≤◌, ◌<◌, List, ◌++◌, length, get_or, take, drop, replicate, max, min, refl, sym, ◌∙◌, ap, arith, rules, length-take, length-drop, length-append, get_or-drop}
use Rattle.std.proofs.lemmas.List.{length-replicate, take-append-le, take_all, drop_min, drop_all, append_assoc, append-nil, replicate-append-replicate, places, get_or-append_right, get_or_append_left, get_or-replicate, get_or_past}
use Rattle.std.proofs.lemmas.Bool.{cases_lt}
use Rattle.zb_disk.specs.View.{overwrite, window}
use Rattle.zb_disk.specs.Memory.{spread, patch}

pub length-patch : {A : Type 0} (xs piece : List A) (start : ℕ) → start + length piece ≤ length xs
    → length (patch xs start piece) ≡ length xs
length-patch xs piece start fits = search (rules, places)

pub get_or-patch_before : {A : Type 0} (xs piece : List A) (start k : ℕ) (d : A) → start + length piece ≤ length xs
    → k < start → get_or (patch xs start piece) k d ≡ get_or xs k d
get_or-patch_before xs piece start k d fits before = grind (arith, places)

pub get_or-patch_in : {A : Type 0} (xs piece : List A) (start k : ℕ) (d : A) → start + length piece ≤ length xs
    → start ≤ k → k < start + length piece → get_or (patch xs start piece) k d ≡ get_or piece (k - start) d
get_or-patch_in xs piece start k d fits from to = grind (arith, places)

pub get_or-patch_after : {A : Type 0} (xs piece : List A) (start k : ℕ) (d : A) → start + length piece ≤ length xs
    → start + length piece ≤ k → get_or (patch xs start piece) k d ≡ get_or xs k d
get_or-patch_after xs piece start k d fits after =
    let a : length (take start xs ++ piece) ≡ start + length piece = simp (length-append, length-take) (omega arith) in
    get_or-append_right (take start xs ++ piece) (drop (start + length piece) xs) (start + length piece) k d a after
    ∙ get_or-drop (start + length piece) xs (k - (start + length piece)) d
    ∙ ap (λ (i : ℕ). get_or xs i d) (omega arith)

pub length-spread : {A : Type 0} (xs : List A) (n : ℕ) (filling : A) → length (spread xs n filling) ≡ max (length xs) n
length-spread xs n filling = simp (length-append, length-replicate) (omega arith)

pub get_or-spread : {A : Type 0} (xs : List A) (n k : ℕ) (filling : A) → get_or (spread xs n filling) k filling
    ≡ get_or xs k filling
get_or-spread xs n k filling = elim (cases_lt k (length xs)) [
  | inl within ↦ get_or_append_left xs (replicate (n - length xs) filling) filling k within
  | inr past ↦ elim (cases_lt (k - length xs) (n - length xs)) [
    | inl filled ↦ get_or-append_right xs (replicate (n - length xs) filling) (length xs) k filling refl past ∙
        get_or-replicate (n - length xs) (k - length xs) filling filling filled ∙ sym (get_or_past xs k filling past)
    | inr beyond ↦ get_or_past (spread xs n filling) k filling (omega (arith, length-spread xs n filling)) ∙ sym
        (get_or_past xs k filling past)
  ]
]

-- A prefix of a list that was extended.
spread_front : (old : List ℕ) (start n : ℕ) → take start (spread old (start + n) 0) ≡ take start (spread old start 0)
spread_front old start n = elim (cases_lt start (length old)) [
  | inl within ↦ take-append-le start old (replicate (start + n - length old) 0) (omega arith) ∙ sym
      (take-append-le start old (replicate (start - length old) 0) (omega arith))
  | inr past ↦
      let split : replicate (start + n - length old) 0 ≡ replicate (start - length old) 0 ++ replicate n 0 =
      let sum : start + n - length old ≡ (start - length old) + n = omega arith in
      ap (λ (m : ℕ). replicate m 0) sum ∙ sym (replicate-append-replicate (start - length old) n 0) in
      let long : length (spread old start 0) ≡ start = length-spread old start 0 ∙ omega arith in
      ap (λ (l : List ℕ). take start (old ++ l)) split
      ∙ ap (take start) (sym (append_assoc old (replicate (start - length old) 0) (replicate n 0)))
      ∙ take-append-le start (spread old start 0) (replicate n 0) (omega arith)
]

spread_back : (old : List ℕ) (end : ℕ) → drop end (spread old end 0) ≡ drop end old
spread_back old end = elim (cases_lt end (length old)) [
  | inl within ↦
      let none : end - length old ≡ 0 = omega arith in
      ap (λ (m : ℕ). drop end (old ++ replicate m 0)) none ∙ ap (λ (l : List ℕ). drop end l) (append-nil old)
  | inr past ↦ drop_all end (spread old end 0) (omega (arith, length-spread old end 0)) ∙ sym (drop_all end old past)
]

-- A write past the end of a list that was extended first.
pub overwrite_spread : (old bytes : List ℕ) (start : ℕ) → patch (spread old (start + length bytes) 0) start bytes
    ≡ overwrite old start bytes
overwrite_spread old bytes start =
    ap (λ (l : List ℕ). l ++ bytes ++ drop (start + length bytes) (spread old (start + length bytes) 0))
    (spread_front old start (length bytes))
    ∙ ap (λ (l : List ℕ). take start (spread old start 0) ++ bytes ++ l) (spread_back old (start + length bytes))

-- A window, as it is read: what is there, and then 00.
pub window_is : (bytes : List ℕ) (at start n count : ℕ) → start ≡ min at (length bytes) → count
    ≡ min n (length bytes - start) → take count (drop start bytes) ++ replicate (n - count) 0 ≡ window bytes at n
window_is bytes at start n count start_is count_is =
    let t = drop at bytes in
    let same : drop start bytes ≡ t = ap (λ i. drop i bytes) start_is ∙ drop_min at bytes in
    let long : length t ≡ length bytes - at = length-drop at bytes in
    ap (λ (l : List ℕ). take count l ++ replicate (n - count) 0) same ∙ elim (cases_lt (length t) n) [
      | inr enough ↦
          let all : count ≡ n = omega arith in
          let none : n - count ≡ 0 = omega arith in
          ap (λ i. take i t ++ replicate (n - count) 0) all ∙ ap (λ i. take n t ++ replicate i 0) none ∙ append-nil
          (take n t) ∙ sym (take-append-le n t (replicate n 0) enough)
      | inl short ↦
          let all : count ≡ length t = omega arith in
          let split : n ≡ (n - length t) + length t = omega arith in
          let zeros : replicate n 0 ≡ replicate (n - length t) 0 ++ replicate (length t) 0 =
          ap (λ i. replicate i 0) split ∙ sym (replicate-append-replicate (n - length t) (length t) 0) in
          let filled : length (t ++ replicate (n - length t) 0)
          ≡ n = simp (length-append, length-replicate) (omega arith) in
          ap (λ i. take i t ++ replicate (n - i) 0) all
          ∙ ap (λ (l : List ℕ). l ++ replicate (n - length t) 0) (take_all (length t) t (omega arith))
          ∙ sym (take_all n (t ++ replicate (n - length t) 0) (omega arith))
          ∙ sym (take-append-le n (t ++ replicate (n - length t) 0) (replicate (length t) 0) (omega arith))
          ∙ ap (λ (l : List ℕ). take n l)
          (append_assoc t (replicate (n - length t) 0) (replicate (length t) 0) ∙ ap (λ (l : List ℕ). t ++ l)
          (sym zeros))
    ]
