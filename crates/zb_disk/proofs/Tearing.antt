-- What a disk has when the power comes back after a stop.
use Rattle.std.proofs.Common.{◌≡◌, ◌⊎◌, inl, inr, ⊎_elim, ℕ, zero, suc, ◌+◌, ◌-◌, ◌%◌, ◌≤◌, ◌<◌, List, [], ◌∷◌, ◌++◌, length, get_or, set, take, drop, replicate, Bool, true, false, nat_lt, if◌then◌else◌, refl, sym, ◌∙◌, ap, arith, take-append-drop, length-set, get_or-set_same, get_or-set_other, append_assoc, length-drop}
use Rattle.std.proofs.lemmas.List.{ext_get_or, drop_more, drop-set-lt, take-set-le, take_more_set, take_more, set_split, take-append-le, length-take-le, get_or-take, get_or-drop, drop-drop, drop_at, drop_all, take_all, append-nil, length-replicate, get_or-replicate, get_or_append_left}
use Rattle.std.proofs.lemmas.Bool.{false≢true, cases_lt, cases_eq, cases_Bool, lt-ltb}
use Rattle.zb_disk.specs.View.{Torn, IsUnsynced, Only, overwrite}
use Rattle.zb_disk.specs.Memory.{Medium, IsImage, tear, torn_by, settled, synced, powered, is_stopped, memory_view}
use Rattle.zb_disk.specs.declared.memory.Arming.TheVariants.{Unarmed}
use Rattle.zb_disk.specs.MemoryInside.{flags_around}
use Rattle.zb_disk.specs.MemoryLaws.{image_seen}
use Rattle.zb_disk.proofs.Images.{torn_stands, one_image, lowered}

pub length-tear : (p : List ℕ) (phase : ℕ) (bytes : List ℕ) (written : List Bool)
    → length (tear p phase bytes written) ≡ length bytes
length-tear p phase [] written = refl
length-tear p phase (b ∷ bytes) [] = refl
length-tear p phase (b ∷ bytes) (true ∷ written) = ap suc (length-tear p (phase + 1) bytes written)
length-tear p phase (b ∷ bytes) (false ∷ written) = ap suc (length-tear p 0 bytes written)

-- A byte that wasn't written is unchanged.
pub tear_stands : (p : List ℕ) (phase : ℕ) (bytes : List ℕ) (written : List Bool) (k : ℕ) → get_or written k false
    ≡ false → get_or (tear p phase bytes written) k 0 ≡ get_or bytes k 0
tear_stands p phase [] written k down = refl
tear_stands p phase (b ∷ bytes) [] k down = refl
tear_stands p phase (b ∷ bytes) (true ∷ written) zero down = absurd (false≢true (sym down))
tear_stands p phase (b ∷ bytes) (true ∷ written) (suc k) down = tear_stands p (phase + 1) bytes written k down
tear_stands p phase (b ∷ bytes) (false ∷ written) zero down = refl
tear_stands p phase (b ∷ bytes) (false ∷ written) (suc k) down = tear_stands p 0 bytes written k down

-- The torn bytes are one of the images.
pub image_torn : (p : List ℕ) (bytes : List ℕ) (written : List Bool) (grown : ℕ)
    → IsImage bytes written grown (tear p 0 bytes written)
image_torn p bytes written grown =
    let same = length-tear p 0 bytes written in
    record {
      no_shorter = omega arith;
      no_longer = omega arith;
      others = λ k stands down. tear_stands p 0 bytes
          written k down;
    }

-- The first byte of a run becomes the first of the pattern.
tear_first : (p : List ℕ) (phase : ℕ) (bytes : List ℕ) (written : List Bool) (k : ℕ) → k < length bytes
    → get_or written k false ≡ true → (k ≡ 0 → phase ≡ 0) → ((j : ℕ) → j + 1 ≡ k → get_or written j false ≡ false)
    → get_or (tear p phase bytes written) k 0 ≡ get_or p (0 % length p) 0
tear_first p phase [] written k within up begins alone = absurd (omega arith)
tear_first p phase (b ∷ bytes) [] k within up begins alone = absurd (false≢true up)
tear_first p phase (b ∷ bytes) (true ∷ written) zero within up begins alone =
    ap (λ n. get_or p (n % length p) 0) (begins refl)
tear_first p phase (b ∷ bytes) (true ∷ written) (suc zero) within up begins alone =
    absurd (false≢true (sym (alone 0 (omega arith))))
tear_first p phase (b ∷ bytes) (true ∷ written) (suc (suc k)) within up begins alone =
    tear_first p (phase + 1) bytes written (suc k) (omega arith) up (λ no. absurd (omega arith))
    (λ j is. alone (suc j) (omega arith))
tear_first p phase (b ∷ bytes) (false ∷ written) zero within up begins alone = absurd (false≢true up)
tear_first p phase (b ∷ bytes) (false ∷ written) (suc k) within up begins alone =
    tear_first p 0 bytes written k (omega arith) up (λ no. refl) (λ j is. alone (suc j) (omega arith))

module _ (at : ℕ) (bytes : List ℕ) (written : List Bool) (grown : ℕ)
    (only : (c : List ℕ) → IsImage bytes written grown c → Torn at 1 bytes c)
    (each : (c : List ℕ) → Torn at 1 bytes c → IsImage bytes written grown c) (within : at < length bytes) where
  -- Nothing lies past the synced end; otherwise the disk could come back shorter.
  not_grown : grown ≡ 0
  not_grown = elim (cases_eq grown 0) [
    | inl none ↦ none
    | inr some ↦
        let n = length bytes - 1 in
        let cut = take n bytes in
        let long : length cut ≡ n = length-take-le n bytes (omega arith) in
        let torn = only cut (record {
          no_shorter = omega arith;
          no_longer = omega arith;
          others = λ k stands down. get_or-take n bytes k 0 (omega arith);
        }) in
        let longer = torn.no_shorter in
        absurd (omega arith)
  ]

  bumped : ℕ → List ℕ
  bumped k = set bytes k (get_or bytes k 0 + 1)

  -- A byte elsewhere wasn't written.
  down_elsewhere : (k : ℕ) → (k ≡ at → ⊥) → get_or written k false ≡ false ⊎ (length bytes ≤ k)
  unfolding bumped
  down_elsewhere k other = elim (cases_lt k (length bytes)) [
    | inr past ↦ inr past
    | inl in_it ↦ elim (cases_Bool (get_or written k false)) [
      | inr down ↦ inl down
      | inl up ↦
          let long = length-set bytes k (get_or bytes k 0 + 1) in
          let torn = only (bumped k) (record {
            no_shorter = omega arith;
            no_longer = omega arith;
            others = λ j stands down. get_or-set_other bytes k j (get_or bytes k 0 + 1) 0
                (λ same. false≢true (sym down ∙ ap (λ (i : ℕ). get_or written i false) same ∙ up));
          }) in
          let here : get_or (bumped k) k 0 ≡ get_or bytes k 0 + 1 = get_or-set_same bytes k (get_or bytes k 0 + 1) 0
          in_it in
          let stands : get_or (bumped k) k 0 ≡ get_or bytes k 0 = torn_stands at 1 bytes (bumped k) torn k
          (elim (cases_lt k at) [ inl before ↦ inl before | inr from ↦ inr (omega arith) ]) in_it in
          absurd (omega arith)
    ]
  ]

  -- The byte itself was written.
  up_here : get_or written at false ≡ true
  unfolding bumped
  up_here = elim (cases_Bool (get_or written at false)) [
    | inl up ↦ up
    | inr down ↦
        let none = not_grown in
        let image = each (bumped at) (record {
          before = λ m until m_within. take-set-le m bytes at (get_or bytes at 0 + 1) until;
          after = λ m from. drop-set-lt m bytes at (get_or bytes at 0 + 1) (omega arith);
          no_shorter = omega (arith, length-set bytes at (get_or bytes at 0 + 1));
        }) in
        let here : get_or (bumped at) at 0 ≡ get_or bytes at 0 + 1 = get_or-set_same bytes at (get_or bytes at 0 + 1)
        0 within in
        let stands = image.others at (omega arith) down in
        absurd (omega arith)
  ]

  pub torn_byte : (p : List ℕ) → 0 < length p → tear p 0 bytes written ≡ overwrite bytes at (get_or p 0 0 ∷ [])
  torn_byte p some =
      let t = get_or p 0 0 in
      let next : suc at ≡ at + 1 = omega arith in
      let split : set bytes at t ≡ take at bytes ++ t ∷ drop (at + 1) bytes =
      set_split bytes at t within ∙ ap (λ (n : ℕ). take at bytes ++ t ∷ drop n bytes) next in
      let as_set : set bytes at t ≡ overwrite bytes at (t ∷ []) =
      split ∙ ap (λ (l : List ℕ). l ++ t ∷ drop (at + 1) bytes)
      (sym (take-append-le at bytes (replicate (at - length bytes) 0) (omega arith)))
      ∙ sym (append_assoc (take at (bytes ++ replicate (at - length bytes) 0)) (t ∷ []) (drop (at + 1) bytes)) in
      let first : 0 % length p ≡ 0 = omega arith in
      let at_it : get_or (tear p 0 bytes written) at 0 ≡ get_or (set bytes at t) at 0 =
      tear_first p 0 bytes written at within up_here (λ no. refl)
      (λ j is. ⊎_elim (λ (down : get_or written j false ≡ false). down)
      (λ (past : length bytes ≤ j). absurd (omega arith)) (down_elsewhere j (λ same. omega arith)))
      ∙ ap (λ n. get_or p n 0) first ∙ sym (get_or-set_same bytes at t 0 within) in
      ext_get_or 0 (tear p 0 bytes written) (set bytes at t)
      (length-tear p 0 bytes written ∙ sym (length-set bytes at t)) (λ k lt.
      let in_it : k < length bytes = omega (arith, length-tear p 0 bytes written) in
      elim (cases_eq k at) [
        | inl here ↦ ap (λ i. get_or (tear p 0 bytes written) i 0) here ∙ at_it ∙ ap
            (λ i. get_or (set bytes at t) i 0) (sym here)
        | inr other ↦
            let down : get_or written k false ≡ false = ⊎_elim (λ (it : get_or written k false ≡ false). it)
            (λ (past : length bytes ≤ k). absurd (omega arith)) (down_elsewhere k other) in
            tear_stands p 0 bytes written k down ∙ sym (get_or-set_other bytes at k t 0 other)
      ])
      ∙ as_set

-- One step of the loop, at a byte that was written.
pub tear_up : (p : List ℕ) (phase : ℕ) (bytes new next : List ℕ) (written : List Bool) (i : ℕ) (whole : List ℕ) → i
    < length bytes → i < length new → i < length written → get_or written i false ≡ true → drop i new ≡ drop i bytes
    → take i new ++ tear p phase (drop i bytes) (drop i written) ≡ whole → next
    ≡ set new i (get_or p (phase % length p) 0)
    → (drop (i + 1) next ≡ drop (i + 1) bytes)
    × (take (i + 1) next ++ tear p (phase + 1) (drop (i + 1) bytes) (drop (i + 1) written) ≡ whole)
tear_up p phase bytes new next written i whole in_bytes in_new in_written up same so_far is =
    let v = get_or p (phase % length p) 0 in
    let rest = tear p (phase + 1) (drop (i + 1) bytes) (drop (i + 1) written) in
    let here : tear p phase (drop i bytes) (drop i written) ≡ v ∷ rest =
    ap (λ (l : List ℕ). tear p phase l (drop i written)) (drop_more bytes i 0 in_bytes)
    ∙ ap (λ (l : List Bool). tear p phase (get_or bytes i 0 ∷ drop (i + 1) bytes) l)
    (drop_more written i false in_written)
    ∙ ap (λ (b : Bool). tear p phase (get_or bytes i 0 ∷ drop (i + 1) bytes) (b ∷ drop (i + 1) written)) up in (
      ap (λ (l : List ℕ). drop (i + 1) l) is ∙ drop-set-lt (i + 1) new i v (omega arith) ∙ later_same new bytes i same,
      ap (λ (l : List ℕ). take (i + 1) l ++ rest) is ∙ ap (λ (l : List ℕ). l ++ rest) (take_more_set new i v in_new) ∙
          append_assoc (take i new) (v ∷ []) rest ∙ ap (λ (l : List ℕ). take i new ++ l) (sym here) ∙ so_far,
    )
  where
    later_same : (a b : List ℕ) (i : ℕ) → drop i a ≡ drop i b → drop (i + 1) a ≡ drop (i + 1) b
    later_same a b i same = sym (drop-drop 1 i a) ∙ ap (λ (l : List ℕ). drop 1 l) same ∙ drop-drop 1 i b

-- And at a byte that wasn't.
pub tear_down : (p : List ℕ) (phase : ℕ) (bytes new : List ℕ) (written : List Bool) (i : ℕ) (whole : List ℕ) → i
    < length bytes → i < length new → i < length written → get_or written i false ≡ false → drop i new ≡ drop i bytes
    → take i new ++ tear p phase (drop i bytes) (drop i written) ≡ whole
    → (drop (i + 1) new ≡ drop (i + 1) bytes)
    × (take (i + 1) new ++ tear p 0 (drop (i + 1) bytes) (drop (i + 1) written) ≡ whole)
tear_down p phase bytes new written i whole in_bytes in_new in_written down same so_far =
    let v = get_or bytes i 0 in
    let rest = tear p 0 (drop (i + 1) bytes) (drop (i + 1) written) in
    let here : tear p phase (drop i bytes) (drop i written) ≡ v ∷ rest =
    ap (λ (l : List ℕ). tear p phase l (drop i written)) (drop_more bytes i 0 in_bytes)
    ∙ ap (λ (l : List Bool). tear p phase (v ∷ drop (i + 1) bytes) l) (drop_more written i false in_written)
    ∙ ap (λ (b : Bool). tear p phase (v ∷ drop (i + 1) bytes) (b ∷ drop (i + 1) written)) down in
    let same_byte : get_or new i 0 ≡ v = at_front new i ∙ ap (λ (l : List ℕ). get_or l 0 0) same ∙ sym
    (at_front bytes i) in (
      later_same new bytes i same,
      ap (λ (l : List ℕ). l ++ rest) (take_more new i 0 in_new ∙ ap (λ (x : ℕ). take i new ++ x ∷ []) same_byte) ∙
          append_assoc (take i new) (v ∷ []) rest ∙ ap (λ (l : List ℕ). take i new ++ l) (sym here) ∙ so_far,
    )
  where
    later_same : (a b : List ℕ) (i : ℕ) → drop i a ≡ drop i b → drop (i + 1) a ≡ drop (i + 1) b
    later_same a b i same = sym (drop-drop 1 i a) ∙ ap (λ (l : List ℕ). drop 1 l) same ∙ drop-drop 1 i b

    at_front : (l : List ℕ) (i : ℕ) → get_or l i 0 ≡ get_or (drop i l) 0 0
    at_front l i = let here : i + 0 ≡ i = omega arith in ap (λ (j : ℕ). get_or l j 0) (sym here) ∙ sym
        (get_or-drop i l 0 0)

torn_by_image : (p : List ℕ) (bytes : List ℕ) (written : List Bool) (grown : ℕ) (some : Bool)
    → IsImage bytes written grown (if some then tear p 0 bytes written else bytes)
torn_by_image p bytes written grown true = image_torn p bytes written grown
torn_by_image p bytes written grown false = image_seen bytes written grown

-- What is read after the power came back was one of the images.
pub settled_image : (m : Medium) (stopped : Bool)
    → IsImage m.bytes m.written m.grown (if stopped then torn_by m.torn m.bytes m.written else m.bytes)
settled_image m true = torn_by_image m.torn m.bytes m.written m.grown (nat_lt 0 (length m.torn))
settled_image m false = image_seen m.bytes m.written m.grown

-- If exactly one byte was unsynced, it is the first of the pattern.
pub settled_byte : (m : Medium) (at : ℕ) → IsUnsynced at 1 (memory_view m) → at < length m.bytes → is_stopped m.arming
    ≡ true → 0 < length m.torn → settled m ≡ overwrite m.bytes at (get_or m.torn 0 0 ∷ [])
settled_byte m at one within stopped some =
    ap (λ b. if b then torn_by m.torn m.bytes m.written else m.bytes) stopped
    ∙ ap (λ b. if b then tear m.torn 0 m.bytes m.written else m.bytes) (lt-ltb 0 (length m.torn) some)
    ∙ torn_byte at m.bytes m.written m.grown one.only one.each within m.torn some

-- A disk that wasn't stopped is synced. A stopped one is torn first.
pub powered_on : (m : Medium) → is_stopped m.arming ≡ false → synced m ≡ powered m
unfolding synced powered
powered_on m goes =
    ap (λ (b : Bool). let n : Medium = record m {
      bytes = if b then torn_by m.torn m.bytes m.written
          else m.bytes;
      written = replicate (length m.written) false;
      grown = 0;
      arming = if b then Unarmed else m.arming;
    }
    in n) (sym goes)

pub powered_off : (m : Medium) (bytes : List ℕ) → is_stopped m.arming ≡ true → bytes
    ≡ torn_by m.torn m.bytes m.written → synced (record m { bytes = bytes; arming = Unarmed }) ≡ powered m
unfolding synced powered
powered_off m bytes stopped is =
    ap (λ (l : List ℕ). let n : Medium = record m
    { bytes = l; written = replicate (length m.written) false; grown = 0; arming = Unarmed } in n) is
    ∙ ap (λ (b : Bool). let n : Medium = record m {
      bytes = if b then torn_by m.torn m.bytes m.written
          else m.bytes;
      written = replicate (length m.written) false;
      grown = 0;
      arming = if b then Unarmed
          else m.arming;
    } in n) (sym stopped)

-- Then the bytes that are read are the only image.
pub only_powered : (m : Medium) → Only (powered m).bytes (memory_view (powered m)).images
unfolding powered
only_powered m = one_image (settled m) (replicate (length m.written) false) (lowered (length m.written))

-- ---- Bytes that weren't written aren't torn

none_torn : (p : List ℕ) (phase : ℕ) (bytes : List ℕ) (written : List Bool)
    → ((k : ℕ) → get_or written k false ≡ false) → tear p phase bytes written ≡ bytes
none_torn p phase [] written none = refl
none_torn p phase (b ∷ bytes) [] none = refl
none_torn p phase (b ∷ bytes) (true ∷ written) none = absurd (false≢true (sym (none 0)))
none_torn p phase (b ∷ bytes) (false ∷ written) none =
    ap (λ (l : List ℕ). b ∷ l) (none_torn p 0 bytes written (λ k. none (suc k)))

torn_from_here : (p : List ℕ) (bytes : List ℕ) (written : List Bool) (n : ℕ)
    → ((k : ℕ) → k < n → get_or written k false ≡ false)
    → take n bytes ++ tear p 0 (drop n bytes) (drop n written) ≡ tear p 0 bytes written
torn_from_here p bytes written zero none = refl
torn_from_here p [] written (suc n) none = refl
torn_from_here p (b ∷ bytes) [] (suc n) none =
    ap (λ (l : List ℕ). b ∷ (take n bytes ++ l)) (none_torn p 0 (drop n bytes) [] (λ k. refl)) ∙ ap
    (λ (l : List ℕ). b ∷ l) (take-append-drop n bytes)
torn_from_here p (b ∷ bytes) (true ∷ written) (suc n) none = absurd (false≢true (sym (none 0 (omega arith))))
torn_from_here p (b ∷ bytes) (false ∷ written) (suc n) none =
    ap (λ (l : List ℕ). b ∷ l) (torn_from_here p bytes written n (λ k low. none (suc k) (omega arith)))

-- What is torn after the window's end is unchanged.
pub tear_part : (p : List ℕ) (phase : ℕ) (bytes : List ℕ) (w rest : List Bool) → length w ≤ length bytes
    → ((k : ℕ) → get_or rest k false ≡ false)
    → tear p phase bytes (w ++ rest) ≡ tear p phase (take (length w) bytes) w ++ drop (length w) bytes
tear_part p phase bytes [] rest within none = none_torn p phase bytes rest none
tear_part p phase [] (x ∷ w) rest within none = absurd (omega arith)
tear_part p phase (b ∷ bytes) (true ∷ w) rest within none = ap (λ (l : List ℕ). get_or p (phase % length p) 0 ∷ l)
    (tear_part p (phase + 1) bytes w rest (omega arith) none)
tear_part p phase (b ∷ bytes) (false ∷ w) rest within none =
    ap (λ (l : List ℕ). b ∷ l) (tear_part p 0 bytes w rest (omega arith) none)

-- A stop tears only bytes inside the window.
pub torn_window : (p : List ℕ) (bytes : List ℕ) (base : ℕ) (w : List Bool) → base + length w ≤ length bytes
    → take base bytes ++ (tear p 0 (take (length w) (drop base bytes)) w ++ drop (length w) (drop base bytes))
    ≡ tear p 0 bytes (flags_around base w (length bytes))
unfolding flags_around
torn_window p bytes base w within =
    let m = length bytes - base - length w in
    let front = replicate base false in
    let all = front ++ w ++ replicate m false in
    let cut : drop base all ≡ w ++ replicate m false =
    ap (λ (l : List Bool). drop base l) (append_assoc front w (replicate m false)) ∙ drop_at front
    (w ++ replicate m false) base (length-replicate base false) in
    ap (λ (l : List ℕ). take base bytes ++ l)
    (sym (tear_part p 0 (drop base bytes) w (replicate m false) (omega (arith, length-drop base bytes))
    (lowered m)))
    ∙ ap (λ (l : List Bool). take base bytes ++ tear p 0 (drop base bytes) l) (sym cut)
    ∙ torn_from_here p bytes all base (λ k low.
    ap (λ (l : List Bool). get_or l k false) (append_assoc front w (replicate m false)) ∙ get_or_append_left front
    (w ++ replicate m false) false k (omega (arith, length-replicate base false)) ∙ get_or-replicate base k false
    false low)

-- After the last flag.
pub torn_at_last : (p : List ℕ) (phase : ℕ) (bytes new : List ℕ) (written : List Bool) (i : ℕ) (whole : List ℕ)
    → length bytes ≤ i → length new ≤ i
    → take i new ++ tear p phase (drop i bytes) (drop i written) ≡ whole → new ≡ whole
torn_at_last p phase bytes new written i whole late late_new so_far =
    sym (take_all i new late_new) ∙ sym (append-nil (take i new))
    ∙ ap (λ (l : List ℕ). take i new ++ tear p phase l (drop i written)) (sym (drop_all i bytes late)) ∙ so_far
