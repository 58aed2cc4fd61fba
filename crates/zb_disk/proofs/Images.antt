-- What a write and a sync do to the images of a disk in memory.
use Rattle.std.proofs.Common.{◌≡◌, inl, inr, ⊎_elim, ℕ, ◌+◌, ◌-◌, ◌≤◌, ◌<◌, ◌&&◌, List, length, get_or, take, drop, replicate, map, max, min, Bool, true, false, cond, nat_le, nat_lt, refl, sym, ◌∙◌, ap, arith, length-take, length-drop, get_or-take, get_or-drop}
use Rattle.std.specs.List.{range_with_len}
use Rattle.std.proofs.lemmas.List.{ext_get_or, length-replicate, get_or-replicate, get_or_past}
use Rattle.std.proofs.lemmas.List.FromFn.{get_or-map-range_with_len, length-map-range_with_len}
use Rattle.std.proofs.lemmas.Bool.{false≢true, cases_lt, and_from, and_left, and_right, le-leb, lt-leb, lt-ltb, le-ltb}
use Rattle.zb_disk.specs.View.{Torn, Follows, Opens, Only}
use Rattle.zb_disk.specs.Memory.{Medium, IsImage, spread, patch, stored}
use Rattle.zb_disk.specs.MemoryInside.{IsOutside}
use Rattle.zb_disk.proofs.Lists.{length-patch, length-spread, get_or-patch_before, get_or-patch_in, get_or-patch_after, get_or-spread}

-- The images of a disk in memory.
abbrev pub ImageOf : Medium → List ℕ → Type 0
ImageOf m = IsImage m.bytes m.written m.grown

-- `new` is `old` with something written from one place to another, which is excluded.
pub record IsPatched (at end : ℕ) (old new : Medium) : Type 0 where
  pub size : length new.bytes ≡ max (length old.bytes) end
  pub grown : new.grown ≡ old.grown + (end - length old.bytes)
  pub outside : (k : ℕ) → IsOutside at end k → get_or new.bytes k 0 ≡ get_or old.bytes k 0
  pub flags : (k : ℕ) → IsOutside at end k → get_or new.written k false ≡ get_or old.written k false
  pub raised : (k : ℕ) → at ≤ k → k < end → get_or new.written k false ≡ true

-- Outside the piece, a patched list is unchanged.
pub outside_patch : {A : Type 0} (xs piece : List A) (at k : ℕ) (filling : A) → IsOutside at (at + length piece) k
    → get_or (patch (spread xs (at + length piece) filling) at piece) k filling ≡ get_or xs k filling
outside_patch xs piece at k filling where_it_is =
    let all = spread xs (at + length piece) filling in
    let fits : at + length piece ≤ length all = omega (arith, length-spread xs (at + length piece) filling) in
    ⊎_elim (λ (before : k < at). get_or-patch_before all piece at k filling fits before)
    (λ (after : at + length piece ≤ k). get_or-patch_after all piece at k filling fits after) where_it_is
    ∙ get_or-spread xs (at + length piece) k filling

pub stored_is : (m : Medium) (at : ℕ) (piece : List ℕ) → IsPatched at (at + length piece) m (stored m at piece)
unfolding stored
stored_is m at piece =
    let end = at + length piece in
    let flags = replicate (length piece) true in
    let many : length flags ≡ length piece = length-replicate (length piece) true in
    let fits : at + length piece ≤ length (spread m.bytes end 0) = omega (arith, length-spread m.bytes end 0) in
    let flags_fit : at + length flags ≤ length (spread m.written end false) =
    omega (arith, length-spread m.written end false) in
    record {
      size = length-patch (spread m.bytes end 0) piece at fits ∙ length-spread m.bytes end 0;
      grown = refl;
      outside = λ k it. outside_patch m.bytes piece at k 0 it;
      flags = λ k it.
          ⊎_elim (λ (before : k < at). get_or-patch_before (spread m.written end false) flags at k false flags_fit
          before)
          (λ (after : end ≤ k). get_or-patch_after (spread m.written end false) flags at k false flags_fit
          (omega arith)) it
          ∙ get_or-spread m.written end k false;
      raised = λ k from to.
          get_or-patch_in (spread m.written end false) flags at k false flags_fit from (omega arith) ∙
          get_or-replicate (length piece) (k - at) true false (omega arith);
    }

-- A byte outside the range is unchanged.
pub torn_stands : (at n : ℕ) (d c : List ℕ) → Torn at n d c → (k : ℕ) → IsOutside at (at + n) k → k < length d
    → get_or c k 0 ≡ get_or d k 0
torn_stands at n d c torn k it within = ⊎_elim
    (λ (before : k < at). sym (get_or-take (k + 1) c k 0 (omega arith)) ∙ ap (λ (l : List ℕ). get_or l k 0)
    (torn.before (k + 1) (omega arith) (omega arith)) ∙ get_or-take (k + 1) d k 0 (omega arith))
    (λ (after : at + n ≤ k).
    let here : k + 0 ≡ k = omega arith in
    ap (λ (i : ℕ). get_or c i 0) (sym here) ∙ sym (get_or-drop k c 0 0) ∙ ap (λ (l : List ℕ). get_or l 0 0)
    (torn.after k after) ∙ get_or-drop k d 0 0 ∙ ap (λ (i : ℕ). get_or d i 0) here)
    it

module _ (at n : ℕ) (old new : Medium) (is : IsPatched at (at + n) old new) where
  -- A byte of the old content inside the range, and of the image elsewhere.
  pick : List ℕ → ℕ → ℕ
  pick c k = cond (nat_le at k && nat_lt k (at + n)) (get_or old.bytes k 0) (get_or c k 0)

  pick_in : (c : List ℕ) (k : ℕ) → at ≤ k → k < at + n → pick c k ≡ get_or old.bytes k 0
  unfolding pick
  pick_in c k from to = ap (λ b. cond b (get_or old.bytes k 0) (get_or c k 0))
      (and_from (nat_le at k) (nat_lt k (at + n)) (le-leb at k from) (lt-ltb k (at + n) to))

  pick_out : (c : List ℕ) (k : ℕ) → IsOutside at (at + n) k → pick c k ≡ get_or c k 0
  unfolding pick
  pick_out c k it = ap (λ b. cond b (get_or old.bytes k 0) (get_or c k 0))
      (⊎_elim (λ (before : k < at). and_left (nat_le at k) (nat_lt k (at + n)) (lt-leb at k before))
      (λ (after : at + n ≤ k). and_right (nat_le at k) (nat_lt k (at + n)) (le-ltb k (at + n) after)) it)

  -- The old image that a new one comes from.
  origin : List ℕ → List ℕ
  origin c = map (pick c) (range_with_len 0 (min (length c) (length old.bytes)))

  length-origin : (c : List ℕ) → length (origin c) ≡ min (length c) (length old.bytes)
  unfolding origin
  length-origin c = length-map-range_with_len (pick c) 0 (min (length c) (length old.bytes))

  get_or-origin : (c : List ℕ) (k : ℕ) → k < length (origin c) → get_or (origin c) k 0 ≡ pick c k
  unfolding origin
  get_or-origin c k in_it = get_or-map-range_with_len (pick c) 0 (min (length c) (length old.bytes)) k k 0
      (omega (arith, length-origin c)) (omega arith)

  origin_image : (c : List ℕ) → ImageOf new c → ImageOf old (origin c)
  origin_image c image =
      let long = length-origin c in
      let shorter = image.no_shorter in
      let size = is.size in
      let grown = is.grown in
      record {
        no_shorter = omega arith;
        no_longer = omega arith;
        others = λ k stands down. get_or-origin c k (omega arith) ∙ elim (cases_lt k at) [
          | inl before ↦ pick_out c k (inl before) ∙ image.others k (omega arith) (is.flags k (inl before) ∙ down) ∙
              is.outside k (inl before)
          | inr from ↦ elim (cases_lt k (at + n)) [
            | inl to ↦ pick_in c k from to
            | inr after ↦ pick_out c k (inr after) ∙ image.others k (omega arith) (is.flags k (inr after) ∙ down) ∙
                is.outside k (inr after)
          ]
        ];
      }

  origin_torn : (c : List ℕ) → ImageOf new c → Torn at n (origin c) c
  origin_torn c image =
      let long = length-origin c in
      let longer = image.no_longer in
      let size = is.size in
      record {
        before = λ m until within. ext_get_or 0 (take m c) (take m (origin c))
            (omega (arith, length-take m c, length-take m (origin c))) (λ i lt.
            let low : i < m = omega (arith, length-take m c) in
            get_or-take m c i 0 low ∙ sym (pick_out c i (inl (omega arith))) ∙ sym (get_or-origin c i (omega arith)) ∙
            sym (get_or-take m (origin c) i 0 low));
        after = λ m from. ext_get_or 0 (drop m c) (drop m (origin c))
            (omega (arith, length-drop m c, length-drop m (origin c))) (λ i lt.
            let high : m + i < length (origin c) = omega (arith, length-drop m c) in
            get_or-drop m c i 0 ∙ sym (pick_out c (m + i) (inr (omega arith))) ∙ sym (get_or-origin c (m + i) high) ∙
            sym (get_or-drop m (origin c) i 0));
        no_shorter = omega arith;
      }

  -- Each new image is an old one, torn.
  pub torn_from : Follows (Torn at n) (ImageOf old) (ImageOf new)
  torn_from c image = (origin c, origin_image c image, origin_torn c image)

  -- Each old image, torn, is a new one.
  pub torn_to : Opens (Torn at n) (ImageOf old) (ImageOf new)
  torn_to d c image torn =
      let size = is.size in
      let grown = is.grown in
      let not_longer = image.no_longer in
      let not_shorter = image.no_shorter in
      let end = ap length (torn.after (at + n) (omega arith)) in
      let longer = torn.no_shorter in
      record {
        no_shorter = omega arith;
        no_longer = omega (arith, end, length-drop (at + n) c, length-drop (at + n) d);
        others = λ k stands down.
            let within : k < length d = omega arith in
            elim (cases_lt k at) [
              | inl before ↦ torn_stands at n d c torn k (inl before) within ∙ image.others k (omega arith)
                  (sym (is.flags k (inl before)) ∙ down) ∙ sym (is.outside k (inl before))
              | inr from ↦ elim (cases_lt k (at + n)) [
                | inl to ↦ absurd (false≢true (sym down ∙ is.raised k from to))
                | inr after ↦ torn_stands at n d c torn k (inr after) within ∙ image.others k (omega arith)
                    (sym (is.flags k (inr after)) ∙ down) ∙ sym (is.outside k (inr after))
              ]
            ];
      }

-- If nothing was written, the bytes that are read are the only image.
pub one_image : (bytes : List ℕ) (written : List Bool) → ((k : ℕ) → get_or written k false ≡ false)
    → Only bytes (IsImage bytes written 0)
one_image bytes written none c image =
    let shorter = image.no_shorter in
    let longer = image.no_longer in
    ext_get_or 0 c bytes (omega arith) (λ i lt. image.others i (omega arith) (none i))

pub lowered : (n k : ℕ) → get_or (replicate n false) k false ≡ false
lowered n k = elim (cases_lt k n) [
  | inl within ↦ get_or-replicate n k false false within
  | inr past ↦ get_or_past (replicate n false) k false (omega (arith, length-replicate n false))
]
