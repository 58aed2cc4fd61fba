-- What an image represents after a torn write of the store.
use Rattle.std.proofs.Common.{◌≡◌, ◌≢◌, ℕ, suc, ◌+◌, ◌-◌, ◌≤◌, ◌<◌, ◌^◌, List, [], ◌∷◌, ◌++◌, length, get_or, take, drop, Some, Bool, not, refl, sym, ◌∙◌, ap, subst, arith, length-take, length-drop, length-append, get_or-take, get_or-drop}
use Rattle.std.proofs.lemmas.List.{take-take, drop-take, drop-drop, take_at, drop_at, append_assoc, append-nil, get_or_at}
use Rattle.std.proofs.lemmas.Nat.{from_le_bytes-to_le_bytes_4, from_le_bytes-to_le_bytes_8}
use Rattle.std.specs.Int.{from_le_bytes, to_le_bytes, w32, w64}
use Rattle.zb_store.specs.Layout.{fields_of, IsOpen, Standing, slot, gate_of, generation_of, size_of, stands, standing_in, payloads_of, extent, end_of, entry_body, body}
use Rattle.zb_store.specs.Store.{appended}
use Rattle.zb_store.proofs.Slots.{part, opened_some, opened_none, same_open, same_standing, stands_alone, stands_newer, IsIn}
use Rattle.zb_store.proofs.Entries.{extent_within, payloads_split, none_behind, one_behind}

-- where the entries of a slot end
pub end_is : (s : Standing) (x : List ℕ) → IsIn s x → (end_of s ≡ 13 + size_of x + extent s.payloads)
    × (end_of s ≤ length x)
end_is s x it =
    let bound = subst (λ (ps : List (List ℕ)). extent ps ≤ length (drop (13 + size_of x) x)) (sym it.payloads)
    (extent_within 32 (drop (13 + size_of x) x)) in
    (omega (arith, it.size), omega (arith, it.size, bound, length-drop (13 + size_of x) x, it.is.within))

-- a slot whose prefix is the same up to the end of its entries
module _ (s : Standing) (x y : List ℕ) (it : IsIn s x) (same : take (end_of s) y ≡ take (end_of s) x)
    (longer : length x ≤ length y) where
  places : (end_of s ≡ 13 + size_of x + extent s.payloads) × (end_of s ≤ length x)
  places = end_is s x it

  opens : (size_of y ≡ size_of x) × (generation_of y ≡ generation_of x) × IsOpen y
  opens = same_open x y (end_of s) (omega (arith, places.0)) same longer it.is

  content_same : s.content ≡ take (size_of y) (drop 13 y)
  content_same =
      it.content ∙ sym (part 13 (size_of x) (end_of s) y x (omega (arith, places.0)) same) ∙ ap
      (λ (n : ℕ). take n (drop 13 y)) (sym opens.0)

  behind : payloads_of 32 (drop (13 + size_of y) y) ≡ s.payloads
      ++ payloads_of (32 - length s.payloads) (drop (end_of s) y)
  behind =
      let k = 13 + size_of x in
      let ps = payloads_of 32 (drop k x) in
      let e_is : extent ps ≡ extent s.payloads = ap extent (sym it.payloads) in
      let front : take (extent ps) (drop k y) ≡ take (extent ps) (drop k x) =
      part k (extent ps) (end_of s) y x (omega (arith, places.0, e_is)) same in
      let end : k + extent ps ≡ end_of s = omega (arith, places.0, e_is) in
      ap (λ (n : ℕ). payloads_of 32 (drop (13 + n) y)) opens.0 ∙ payloads_split 32 (drop k x) (drop k y) front
      ∙ ap (λ (l : List (List ℕ)). l ++ payloads_of (32 - length l) (drop (extent ps) (drop k y))) (sym it.payloads)
      ∙ ap (λ (l : List ℕ). s.payloads ++ payloads_of (32 - length s.payloads) l)
      (drop-drop (extent ps) k y ∙ ap (λ (i : ℕ). drop i y) end)

  -- with a closed gate there it holds the same
  pub keeps : get_or y (end_of s) 0 ≢ 165 → IsIn s y
  keeps shut =
      let at_end : get_or (drop (end_of s) y) 0 0 ≡ get_or y (end_of s) 0 =
      get_or-drop (end_of s) y 0 0 ∙ ap (λ (i : ℕ). get_or y i 0) (omega arith) in
      record {
        is = opens.2;
        generation = it.generation ∙ sym opens.1;
        content = content_same;
        payloads =
            sym (behind ∙ ap (λ (l : List (List ℕ)). s.payloads ++ l)
            (none_behind (32 - length s.payloads) (drop (end_of s) y) (λ open_it. shut (sym at_end ∙ open_it))) ∙
            append-nil s.payloads);
        size = it.size ∙ sym opens.0;
      }

  -- with an open gate and an entry after it it holds one more
  pub adds : (payload : List ℕ) → length s.payloads < 32 → length payload ≤ 481 → get_or y (end_of s) 0 ≡ 165
      → take (length (entry_body payload)) (drop (end_of s + 1) y) ≡ entry_body payload → IsIn (appended s payload) y
  adds payload few small gate holds =
      let rest = drop (end_of s) y in
      let at_end : get_or rest 0 0 ≡ 165 = get_or-drop (end_of s) y 0 0 ∙ ap (λ (i : ℕ). get_or y i 0) (omega arith) ∙
      gate in
      let more : 32 - length s.payloads ≡ suc (31 - length s.payloads) = omega arith in
      let body_there : take (length (entry_body payload)) (drop 1 rest) ≡ entry_body payload =
      ap (λ (l : List ℕ). take (length (entry_body payload)) l) (drop-drop 1 (end_of s) y) ∙ holds in
      record {
        is = opens.2;
        generation = it.generation ∙ sym opens.1;
        content = content_same;
        payloads =
            sym (behind ∙ ap (λ (n : ℕ). s.payloads ++ payloads_of n rest) more ∙ ap
            (λ (l : List (List ℕ)). s.payloads ++ l)
            (one_behind (31 - length s.payloads) rest payload small at_end body_there));
        size = it.size ∙ sym opens.0;
      }

-- a record that was written after an open gate is there, with no entries
pub holds_body : (b : Bool) (generation : ℕ) (content x : List ℕ) → gate_of x ≡ 165
    → take (length (body generation content)) (drop 1 x) ≡ body generation content → generation < 2 ^ 64
    → length content ≤ 49152
    → IsIn (record { second = b; generation = generation; content = content; payloads = [] }) x
    × (13 + length content < length x) × (get_or x (13 + length content) 0 ≡ 0)
unfolding body size_of generation_of
holds_body b generation content x gate holds fits small =
    let g = to_le_bytes w64 generation in
    let n = to_le_bytes w32 (length content) in
    let all = ((g ++ n) ++ content) ++ 0 ∷ [] in
    let y = drop 1 x in
    let head : length (g ++ n) ≡ 12 = length-append g n in
    let size_of_all : length all ≡ 13 + length content =
    omega (arith, length-append ((g ++ n) ++ content) (0 ∷ []), length-append (g ++ n) content, head) in
    let long : 13 + length content ≤ length y = omega (arith, ap length holds, length-take (length all) y) in
    let longer : 13 + length content < length x = omega (arith, length-drop 1 x) in
    let apart : all ≡ g ++ (n ++ (content ++ 0 ∷ [])) = append_assoc (g ++ n) content (0 ∷ []) ∙ append_assoc g n
    (content ++ 0 ∷ []) in
    let first : take 8 y ≡ g = sym (take-take 8 (length all) y (omega arith)) ∙ ap (λ (l : List ℕ). take 8 l)
    (holds ∙ apart) ∙ take_at g (n ++ (content ++ 0 ∷ [])) 8 refl in
    let second : take 4 (drop 9 x) ≡ n =
    ap (λ (l : List ℕ). take 4 l) (sym (drop-drop 8 1 x)) ∙ sym (drop-take 8 4 y)
    ∙ ap (λ (l : List ℕ). drop 8 l)
    (sym (take-take 12 (length all) y (omega arith)) ∙ ap (λ (l : List ℕ). take 12 l)
    (holds ∙ append_assoc (g ++ n) content (0 ∷ [])) ∙ take_at (g ++ n) (content ++ 0 ∷ []) 12 head) ∙ drop_at g n
    8 refl in
    let size : from_le_bytes w32 (take 4 (drop 9 x)) ≡ length content =
    ap (from_le_bytes w32) second ∙ from_le_bytes-to_le_bytes_4 (length content) (omega arith) in
    let third : take (length content) (drop 13 x) ≡ content =
    ap (λ (l : List ℕ). take (length content) l) (sym (drop-drop 12 1 x)) ∙ sym (drop-take 12 (length content) y)
    ∙ ap (λ (l : List ℕ). drop 12 l)
    (sym (take-take (12 + length content) (length all) y (omega arith)) ∙ ap
    (λ (l : List ℕ). take (12 + length content) l) holds
    ∙ take_at ((g ++ n) ++ content) (0 ∷ []) (12 + length content)
    (length-append (g ++ n) content ∙ ap (λ (i : ℕ). i + length content) head)) ∙ drop_at (g ++ n) content 12 head
    in
    let end : get_or x (13 + length content) 0 ≡ 0 =
    ap (λ (i : ℕ). get_or x i 0) (omega arith) ∙ sym (get_or-drop 1 x (12 + length content) 0) ∙ sym
    (get_or-take (length all) y (12 + length content) 0 (omega arith))
    ∙ ap (λ (l : List ℕ). get_or l (12 + length content) 0) holds ∙ get_or_at ((g ++ n) ++ content) 0 [] 0
    (12 + length content) (length-append (g ++ n) content ∙ ap (λ (i : ℕ). i + length content) head) in
    let next : get_or (drop (13 + from_le_bytes w32 (take 4 (drop 9 x))) x) 0 0 ≡ 0 =
    ap (λ (i : ℕ). get_or (drop (13 + i) x) 0 0) size ∙ get_or-drop (13 + length content) x 0 0 ∙ ap
    (λ (i : ℕ). get_or x i 0) (omega arith) ∙ end in (
      record {
        is = record { gate = gate; small = omega (arith, size); within = omega (arith, size) };
        generation = sym (ap (from_le_bytes w64) first ∙ from_le_bytes-to_le_bytes_8 generation fits);
        content = sym (ap (λ (i : ℕ). take i (drop 13 x)) size ∙ third);
        payloads = sym (none_behind 32 (drop (13 + from_le_bytes w32 (take 4 (drop 9 x))) x) (λ open_it. omega arith));
        size = sym size;
      },
      longer,
      end,
    )

-- a slot that holds this represents it
as_standing : (s : Standing) (x : List ℕ) → IsIn s x → standing_in s.second (fields_of x) ≡ s
as_standing s x it = same_standing (standing_in s.second (fields_of x)) s refl (sym it.generation) (sym it.content)
    (sym it.payloads)

pub alone : (s : Standing) (c : List ℕ) → IsIn s (slot s.second c) → gate_of (slot (not s.second) c) ≢ 165 → stands c
    ≡ Some s
alone s c it shut =
    let x = slot s.second c in
    stands_alone s.second c (fields_of x) (opened_some x it.is) (opened_none (slot (not s.second) c) shut) ∙ ap
    (λ (t : Standing). Some t) (as_standing s x it)

pub newer : (s old : Standing) (c : List ℕ) → IsIn s (slot s.second c) → IsIn old (slot (not s.second) c)
    → old.generation < s.generation → stands c ≡ Some s
newer s old c it there later =
    let x = slot s.second c in
    let y = slot (not s.second) c in
    stands_newer s.second c (fields_of x) (fields_of y) (opened_some x it.is) (opened_some y there.is)
    (omega (arith, it.generation, there.generation)) ∙ ap (λ (t : Standing). Some t) (as_standing s x it)
