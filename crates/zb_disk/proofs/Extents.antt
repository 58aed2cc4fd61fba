-- How much of a disk was written since it was renewed.
use Rattle.std.proofs.Common.{◌≡◌, inl, inr, ⊎_elim, ℕ, ◌+◌, ◌-◌, ◌≤◌, ◌<◌, List, ◌++◌, length, get_or, take, drop, replicate, max, min, Bool, true, false, nat_lt, if◌then◌else◌, refl, sym, ◌∙◌, ap, arith, length-take, get_or-take}
use Rattle.std.proofs.lemmas.List.{ext_get_or, length-replicate, get_or-replicate, get_or_past, take_at, length-take-le}
use Rattle.std.proofs.lemmas.Bool.{cases_lt}
use Rattle.zb_disk.specs.Memory.{patch, spread, tear, torn_by}
use Rattle.zb_disk.specs.MemoryInside.{flags_around, IsOutside}
use Rattle.zb_disk.proofs.Lists.{length-patch, length-spread, get_or-patch_before, get_or-patch_in, get_or-patch_after, get_or-spread}
use Rattle.zb_disk.proofs.Windows.{length-around, around_before, around_from, around_spread}
use Rattle.zb_disk.proofs.Images.{outside_patch, lowered}
use Rattle.zb_disk.proofs.Tearing.{length-tear, tear_stands, tear_part}

-- ---- A disk that is renewed

-- A range that was blanked, if it ends with the bytes or before.
pub cleared_inside : (xs : List ℕ) (from to start end k : ℕ) → end ≡ min to (length xs) → start ≡ min from end → from
    ≤ k → k < to → get_or (patch xs start (replicate (end - start) 0)) k 0 ≡ 0
cleared_inside xs from to start end k end_is start_is after before =
    let zeros : List ℕ = replicate (end - start) 0 in
    let many : length zeros ≡ end - start = length-replicate (end - start) 0 in
    let fits : start + length zeros ≤ length xs = omega arith in
    let long : length (patch xs start zeros) ≡ length xs = length-patch xs zeros start fits in
    elim (cases_lt k (length xs)) [
      | inl within ↦ get_or-patch_in xs zeros start k 0 fits (omega arith) (omega arith) ∙ get_or-replicate
          (end - start) (k - start) 0 0 (omega arith)
      | inr past ↦ get_or_past (patch xs start zeros) k 0 (omega (arith, long))
    ]

pub cleared_others : (xs : List ℕ) (start end k : ℕ) → start ≤ end → end ≤ length xs → get_or xs k 0 ≡ 0
    → get_or (patch xs start (replicate (end - start) 0)) k 0 ≡ 0
cleared_others xs start end k order within blank =
    let zeros : List ℕ = replicate (end - start) 0 in
    let many : length zeros ≡ end - start = length-replicate (end - start) 0 in
    let fits : start + length zeros ≤ length xs = omega arith in
    elim (cases_lt k start) [
      | inl before ↦ get_or-patch_before xs zeros start k 0 fits before ∙ blank
      | inr from ↦ elim (cases_lt k end) [
        | inl to ↦ get_or-patch_in xs zeros start k 0 fits from (omega arith) ∙ get_or-replicate (end - start)
            (k - start) 0 0 (omega arith)
        | inr after ↦ get_or-patch_after xs zeros start k 0 fits (omega arith) ∙ blank
      ]
    ]

-- ---- A write

-- What a read returns at a place of the prefix, if all bytes after it are 00.
front_reads : (xs : List ℕ) (n k : ℕ) → ((j : ℕ) → n ≤ j → get_or xs j 0 ≡ 0) → get_or (take n xs) k 0 ≡ get_or xs k 0
front_reads xs n k behind = elim (cases_lt k n) [
  | inl within ↦ get_or-take n xs k 0 within
  | inr past ↦ get_or_past (take n xs) k 0 (omega (arith, length-take n xs)) ∙ sym (behind k past)
]

-- Lists that are equal at a place are so with the same piece over them.
patched_alike : (a b piece : List ℕ) (start k : ℕ) → start + length piece ≤ length a → start + length piece ≤ length b
    → get_or a k 0 ≡ get_or b k 0 → get_or (patch a start piece) k 0 ≡ get_or (patch b start piece) k 0
patched_alike a b piece start k fits fits' alike = elim (cases_lt k start) [
  | inl before ↦ get_or-patch_before a piece start k 0 fits before ∙ alike ∙ sym
      (get_or-patch_before b piece start k 0 fits' before)
  | inr from ↦ elim (cases_lt k (start + length piece)) [
    | inl to ↦ get_or-patch_in a piece start k 0 fits from to ∙ sym (get_or-patch_in b piece start k 0 fits' from to)
    | inr after ↦ get_or-patch_after a piece start k 0 fits after ∙ alike ∙ sym
        (get_or-patch_after b piece start k 0 fits' after)
  ]
]

-- What is written to all bytes is written to those that are read.
pub put_front : (xs piece new : List ℕ) (start len : ℕ) → len ≤ length xs → ((j : ℕ) → len ≤ j → get_or xs j 0 ≡ 0)
    → new ≡ patch (spread xs (start + length piece) 0) start piece
    → take (max len (start + length piece)) new ≡ patch (spread (take len xs) (start + length piece) 0) start piece
put_front xs piece new start len within behind is =
    let end = start + length piece in
    let all = spread xs end 0 in
    let front = spread (take len xs) end 0 in
    let all_long : length all ≡ max (length xs) end = length-spread xs end 0 in
    let front_long : length front ≡ max len end = length-spread (take len xs) end 0 ∙ omega
    (arith, length-take len xs) in
    let fits : end ≤ length all = omega arith in
    let fits_front : end ≤ length front = omega arith in
    let new_long : length new ≡ max (length xs) end = ap length is ∙ length-patch all piece start fits ∙ all_long in
    let long : length (patch front start piece) ≡ max len end = length-patch front piece start fits_front ∙ front_long
    in
    ext_get_or 0 (take (max len end) new) (patch front start piece) (omega (arith, length-take (max len end) new))
    (λ k in_it.
    get_or-take (max len end) new k 0 (omega (arith, length-take (max len end) new)) ∙ ap
    (λ (l : List ℕ). get_or l k 0) is
    ∙ patched_alike all front piece start k fits fits_front
    (get_or-spread xs end k 0 ∙ sym (front_reads xs len k behind) ∙ sym (get_or-spread (take len xs) end k 0)))

-- No other place changes.
pub put_outside : (xs piece new : List ℕ) (start k : ℕ) → new ≡ patch (spread xs (start + length piece) 0) start piece
    → IsOutside start (start + length piece) k → get_or xs k 0 ≡ 0 → get_or new k 0 ≡ 0
put_outside xs piece new start k is where_it_is blank = ap (λ (l : List ℕ). get_or l k 0) is ∙ outside_patch xs piece
    start k 0 where_it_is ∙ blank

-- ---- A stop

-- No flag is set outside the window.
around_outside : (base : ℕ) (w : List Bool) (n k : ℕ) → IsOutside base (base + length w) k
    → get_or (flags_around base w n) k false ≡ false
around_outside base w n k where_it_is = ⊎_elim (λ (before : k < base). around_before base w n k before)
    (λ (after : base + length w ≤ k). around_from base w n k (omega arith) ∙ get_or_past w (k - base) false
    (omega arith)) where_it_is

torn_some_outside : (p bytes : List ℕ) (written : List Bool) (k : ℕ) (some : Bool) → get_or written k false ≡ false
    → get_or (if some then tear p 0 bytes written else bytes) k 0 ≡ get_or bytes k 0
torn_some_outside p bytes written k true down = tear_stands p 0 bytes written k down
torn_some_outside p bytes written k false down = refl

-- Outside the window no byte is torn.
pub torn_outside : (p bytes : List ℕ) (base : ℕ) (w : List Bool) (n k : ℕ) (new : List ℕ) → new
    ≡ torn_by p bytes (flags_around base w n) → IsOutside base (base + length w) k → get_or bytes k 0 ≡ 0
    → get_or new k 0 ≡ 0
torn_outside p bytes base w n k new is where_it_is blank =
    ap (λ (l : List ℕ). get_or l k 0) is ∙ torn_some_outside p bytes (flags_around base w n) k (nat_lt 0 (length p))
    (around_outside base w n k where_it_is) ∙ blank

torn_all : (p bytes : List ℕ) (base : ℕ) (w : List Bool) (len : ℕ) → base + length w ≤ len → len ≤ length bytes
    → tear p 0 bytes (flags_around base w (length bytes)) ≡ tear p 0 (take len bytes) (flags_around base w len)
    ++ drop len bytes
torn_all p bytes base w len within fits =
    let n = length bytes in
    let flags = flags_around base w len in
    let long : length flags ≡ len = length-around base w len within in
    ap (λ (l : List Bool). tear p 0 bytes l) (sym (around_spread base w len n n within (omega arith)))
    ∙ tear_part p 0 bytes flags (replicate (n - length flags) false) (omega arith) (lowered (n - length flags))
    ∙ ap (λ (i : ℕ). tear p 0 (take i bytes) flags ++ drop i bytes) long

torn_some_front : (p bytes : List ℕ) (base : ℕ) (w : List Bool) (len : ℕ) (some : Bool) → base + length w ≤ len → len
    ≤ length bytes
    → take len (if some then tear p 0 bytes (flags_around base w (length bytes)) else bytes)
    ≡ (if some then tear p 0 (take len bytes) (flags_around base w len) else take len bytes)
torn_some_front p bytes base w len true within fits =
    let front = tear p 0 (take len bytes) (flags_around base w len) in
    let long : length front ≡ len = length-tear p 0 (take len bytes) (flags_around base w len) ∙ length-take-le len
    bytes fits in
    ap (λ (l : List ℕ). take len l) (torn_all p bytes base w len within fits) ∙ take_at front (drop len bytes) len long
torn_some_front p bytes base w len false within fits = refl

-- The bytes that are read are torn like all bytes.
pub torn_front : (p bytes : List ℕ) (base : ℕ) (w : List Bool) (len : ℕ) → base + length w ≤ len → len ≤ length bytes
    → take len (torn_by p bytes (flags_around base w (length bytes)))
    ≡ torn_by p (take len bytes) (flags_around base w len)
torn_front p bytes base w len within fits = torn_some_front p bytes base w len (nat_lt 0 (length p)) within fits
