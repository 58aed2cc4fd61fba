-- The flags of a disk, of which only a window is kept.
use Rattle.std.proofs.Common.{◌≡◌, inl, inr, ℕ, ◌+◌, ◌-◌, ◌≤◌, ◌<◌, List, [], ◌++◌, length, get_or, take, drop, replicate, max, Bool, true, false, sym, ◌∙◌, ap, arith, append_assoc, length-append, take-append-drop}
use Rattle.std.proofs.lemmas.List.{ext_get_or, length-replicate, get_or-replicate, get_or_append_left, get_or-append_right, replicate-append-replicate, append-nil, take-append-le, drop-append-le}
use Rattle.std.proofs.lemmas.Bool.{cases_lt}
use Rattle.zb_disk.specs.declared.memory.Arming.TheVariants.{Unarmed}
use Rattle.zb_disk.specs.Memory.{Medium, spread, patch, fresh}
use Rattle.zb_disk.specs.MemoryInside.{flags_around}
use Rattle.zb_disk.proofs.Lists.{length-patch, length-spread, get_or-spread, get_or-patch_before, get_or-patch_in, get_or-patch_after}

pub length-around : (base : ℕ) (w : List Bool) (n : ℕ) → base + length w ≤ n → length (flags_around base w n) ≡ n
unfolding flags_around
length-around base w n within =
    let front = replicate base false ++ w in
    let back = replicate (n - base - length w) false in
    omega (
      arith,
      length-append front back,
      length-append (replicate base false) w,
      length-replicate base false,
      length-replicate (n - base - length w) false,
    )

-- Before the window all flags are clear.
pub around_before : (base : ℕ) (w : List Bool) (n k : ℕ) → k < base → get_or (flags_around base w n) k false ≡ false
unfolding flags_around
around_before base w n k low =
    let front = replicate base false in
    let back = replicate (n - base - length w) false in
    ap (λ (l : List Bool). get_or l k false) (append_assoc front w back) ∙ get_or_append_left front (w ++ back) false
    k (omega (arith, length-replicate base false)) ∙ get_or-replicate base k false false low

-- From the window's beginning on they are the window's.
pub around_from : (base : ℕ) (w : List Bool) (n k : ℕ) → base ≤ k → get_or (flags_around base w n) k false
    ≡ get_or w (k - base) false
unfolding flags_around
around_from base w n k from =
    let front = replicate base false in
    let m = n - base - length w in
    ap (λ (l : List Bool). get_or l k false) (append_assoc front w (replicate m false)) ∙ get_or-append_right front
    (w ++ replicate m false) base k false (length-replicate base false) from
    ∙ ap (λ (i : ℕ). get_or (w ++ replicate i false) (k - base) false) (omega arith) ∙ get_or-spread w (m + length w)
    (k - base) false

-- If nothing was written, all are clear.
pub around_none : (base n : ℕ) → base ≤ n → flags_around base [] n ≡ replicate n false
unfolding flags_around
around_none base n within =
    let all : base + (n - base - 0) ≡ n = omega arith in
    append_assoc (replicate base false) [] (replicate (n - base - 0) false) ∙ replicate-append-replicate base
    (n - base - 0) false ∙ ap (λ (i : ℕ). replicate i false) all

-- Clear flags may be put before the window.
pub around_more : (start more base : ℕ) (w : List Bool) (n : ℕ) → start + more ≡ base
    → flags_around start (replicate more false ++ w) n ≡ flags_around base w n
unfolding flags_around
around_more start more base w n is =
    let front = replicate start false in
    let lower = replicate more false in
    let long : length (lower ++ w) ≡ more + length w =
    omega (arith, length-append lower w, length-replicate more false) in
    let rest : n - start - length (lower ++ w) ≡ n - base - length w = omega arith in
    let both : front ++ lower ≡ replicate base false = replicate-append-replicate start more false ∙ ap
    (λ (i : ℕ). replicate i false) is in
    ap (λ (i : ℕ). front ++ (lower ++ w) ++ replicate i false) rest
    ∙ ap (λ (l : List Bool). l ++ replicate (n - base - length w) false)
    (sym (append_assoc front lower w) ∙ ap (λ (l : List Bool). l ++ w) both)

-- A longer disk has more clear flags.
pub around_spread : (base : ℕ) (w : List Bool) (n end new : ℕ) → base + length w ≤ n → new ≡ max n end
    → spread (flags_around base w n) end false ≡ flags_around base w new
around_spread base w n end new within is =
    let long = length-around base w n within in
    let long_new : length (flags_around base w new) ≡ new = length-around base w new (omega arith) in
    ext_get_or false (spread (flags_around base w n) end false) (flags_around base w new)
    (omega (arith, length-spread (flags_around base w n) end false)) (λ k in_it.
    get_or-spread (flags_around base w n) end k false ∙ elim (cases_lt k base) [
      | inl low ↦ around_before base w n k low ∙ sym (around_before base w new k low)
      | inr from ↦ around_from base w n k from ∙ sym (around_from base w new k from)
    ])

-- Flags that are set in the window are set on the disk.
pub around_patch : (base : ℕ) (w piece : List Bool) (start end n : ℕ) → base + length w ≤ n → base ≤ start → end
    ≡ start + length piece → end ≤ n
    → flags_around base (patch (spread w (end - base) false) (start - base) piece) n
    ≡ patch (flags_around base w n) start piece
around_patch base w piece start end n within from is fits =
    let s = spread w (end - base) false in
    let size : length s ≡ max (length w) (end - base) = length-spread w (end - base) false in
    let in_s : start - base + length piece ≤ length s = omega arith in
    let p = patch s (start - base) piece in
    let long = length-patch s piece (start - base) in_s in
    let old = flags_around base w n in
    let old_long = length-around base w n within in
    let in_old : start + length piece ≤ length old = omega arith in
    let new_long = length-around base p n (omega arith) in
    ext_get_or false (flags_around base p n) (patch old start piece)
    (omega (arith, length-patch old piece start in_old)) (λ k in_it. elim (cases_lt k base) [
      | inl low ↦ around_before base p n k low ∙ sym
          (get_or-patch_before old piece start k false in_old (omega arith) ∙ around_before base w n k low)
      | inr high ↦ around_from base p n k high ∙ elim (cases_lt k start) [
        | inl before ↦ get_or-patch_before s piece (start - base) (k - base) false in_s (omega arith) ∙ get_or-spread
            w (end - base) (k - base) false
            ∙ sym (get_or-patch_before old piece start k false in_old before ∙ around_from base w n k high)
        | inr later ↦ elim (cases_lt k end) [
          | inl to ↦
              let same : k - base - (start - base) ≡ k - start = omega arith in
              get_or-patch_in s piece (start - base) (k - base) false in_s (omega arith) (omega arith) ∙ ap
              (λ (i : ℕ). get_or piece i false) same
              ∙ sym (get_or-patch_in old piece start k false in_old later (omega arith))
          | inr after ↦ get_or-patch_after s piece (start - base) (k - base) false in_s (omega arith) ∙ get_or-spread
              w (end - base) (k - base) false
              ∙ sym (get_or-patch_after old piece start k false in_old (omega arith) ∙ around_from base w n k high)
        ]
      ]
    ])

-- So they are after the window was emptied.
pub around_emptied : (base : ℕ) (w new : List Bool) (n : ℕ) → base + length w ≤ n → new ≡ [] → flags_around base new n
    ≡ replicate (length (flags_around base w n)) false
around_emptied base w new n within none =
    ap (λ (l : List Bool). flags_around base l n) none ∙ around_none base n (omega arith) ∙ ap
    (λ (i : ℕ). replicate i false) (sym (length-around base w n within))

-- The flags of the last write are over them.
pub patch_none : (xs : List Bool) (at : ℕ) → patch xs at [] ≡ xs
patch_none xs at =
    let here : at + 0 ≡ at = omega arith in
    ap (λ (l : List Bool). l ++ drop (at + 0) xs) (append-nil (take at xs)) ∙ ap (λ (i : ℕ). take at xs ++ drop i xs)
    here ∙ take-append-drop at xs

pub length-flags : (base : ℕ) (w : List Bool) (n from to : ℕ) → base + length w ≤ n → from ≤ to → to ≤ n
    → length (patch (flags_around base w n) from (replicate (to - from) true)) ≡ n
length-flags base w n from to within order last =
    let long = length-around base w n within in
    length-patch (flags_around base w n) (replicate (to - from) true) from
    (omega (arith, length-replicate (to - from) true)) ∙ long

-- An overwritten list is extended like any other.
spread_patch : (xs piece : List Bool) (start end : ℕ) → start + length piece ≤ length xs
    → spread (patch xs start piece) end false ≡ patch (spread xs end false) start piece
spread_patch xs piece start end fits =
    let m = length xs in
    let more = replicate (end - m) false in
    let stop = start + length piece in
    let front : take start (xs ++ more) ≡ take start xs = take-append-le start xs more (omega arith) in
    let back : drop stop (xs ++ more) ≡ drop stop xs ++ more = drop-append-le stop xs more fits in
    ap (λ (i : ℕ). patch xs start piece ++ replicate (end - i) false) (length-patch xs piece start fits)
    ∙ append_assoc (take start xs ++ piece) (drop stop xs) more
    ∙ ap (λ (l : List Bool). take start xs ++ piece ++ l) (sym back)
    ∙ ap (λ (l : List Bool). l ++ piece ++ drop stop (xs ++ more)) (sym front)

-- The result of a write: the flags of the write before it are in the window.
pub around_written : (base : ℕ) (w : List Bool) (base' : ℕ) (w' piece : List Bool) (start end n new : ℕ)
    → base + length w ≤ n → new ≡ max n end → start + length piece ≤ n
    → flags_around base' w' new ≡ patch (flags_around base w new) start piece
    → flags_around base' w' new ≡ spread (patch (flags_around base w n) start piece) end false
around_written base w base' w' piece start end n new within is fits same =
    same ∙ ap (λ (l : List Bool). patch l start piece) (sym (around_spread base w n end new within is))
    ∙ sym (spread_patch (flags_around base w n) piece start end (omega (arith, length-around base w n within)))

-- A disk that has just been made.
pub fresh_is : (bytes items torn : List ℕ) (w : List Bool) → items ≡ bytes → w ≡ [] → torn ≡ []
    → ◌≡◌ {A = Medium}
    (record {
      bytes = items;
      written = flags_around 0 w (length bytes);
      grown = 0;
      arming = Unarmed;
      torn = torn;
      calls = 0;
      faults = 0;
    }) (fresh bytes)
fresh_is bytes items torn w same none no_pattern =
    ap (λ (x : List ℕ). let n : Medium =
    record {
      bytes = x;
      written = flags_around 0 w (length bytes);
      grown = 0;
      arming = Unarmed;
      torn = torn;
      calls = 0;
      faults = 0;
    } in n) same
    ∙ ap (λ (x : List Bool). let n : Medium =
    record {
      bytes = bytes;
      written = flags_around 0 x (length bytes);
      grown = 0;
      arming = Unarmed;
      torn = torn;
      calls = 0;
      faults = 0;
    } in n) none
    ∙ ap (λ (x : List Bool). let n : Medium =
    record { bytes = bytes; written = x; grown = 0; arming = Unarmed; torn = torn; calls = 0; faults = 0 } in n)
    (around_none 0 (length bytes) (omega arith))
    ∙ ap (λ (x : List ℕ). let n : Medium =
    record {
      bytes = bytes;
      written = replicate (length bytes) false;
      grown = 0;
      arming = Unarmed;
      torn = x;
      calls = 0;
      faults = 0;
    } in n) no_pattern
