-- What the reads of a store find.
use Rattle.std.proofs.Common.{◌≡◌, inl, inr, ℕ, zero, suc, ◌+◌, ◌-◌, ◌≤◌, ◌<◌, ◌&&◌, ◌||◌, ◌==◌, List, [], ◌∷◌, ◌++◌, length, get_or, take, drop, replicate, min, Option, Some, None, Bool, true, false, not, nat_le, nat_lt, if◌then◌else◌, refl, sym, ◌∙◌, ap, arith, length-take, length-drop, get_or-take, get_or-drop}
use Rattle.std.specs.Int.{from_le_bytes, sum_through, byte_worth, byte_len, Width, w16, w32, w64}
use Rattle.std.specs.List.{concat}
use Rattle.std.proofs.lemmas.List.{take-take, drop-drop, drop_all, take-append-le, get_or-append_right, get_or_append_left, get_or-replicate, get_or_past, append-nil, append_assoc}
use Rattle.std.proofs.lemmas.Bool.{cases_lt, and_parts, and_right, eqb-true, leb-true, lt-leb}
use Rattle.zb_disk.specs.View.{window}
use Rattle.std.specs.Option.{MatchOption}
use Rattle.zb_store.specs.declared.reading.Header.{Header}
use Rattle.zb_store.specs.declared.reading.Found.{Found}
use Rattle.zb_store.specs.Layout.{Standing, end_of, slot, base_of, payloads_of, followed, entry_of, extent, Opened, opened, elected, stands, standing_in, IsOpen, fields_of, gate_of, generation_of, size_of}
use Rattle.zb_store.specs.Reading.{IsHeaderOf, opens, found_in, chosen, IsFoundIn, IsBehind, size_at, size_in}
use Rattle.zb_store.proofs.Entries.{payloads_split, extent_within, payload_size, entry_by}
use Rattle.zb_store.proofs.Slots.{slot_byte, slot_part, in_disk, opened_some}

-- a byte of a window
pub window_byte : (seen : List ℕ) (at n k : ℕ) → k < n → get_or (window seen at n) k 0 ≡ get_or seen (at + k) 0
window_byte seen at n k within =
    let there = drop at seen in
    get_or-take n (there ++ replicate n 0) k 0 within ∙ elim (cases_lt k (length there)) [
      | inl inside ↦ get_or_append_left there (replicate n 0) 0 k inside ∙ get_or-drop at seen k 0
      | inr past ↦
          get_or-append_right there (replicate n 0) (length there) k 0 refl past ∙ get_or-replicate n
          (k - length there) 0 0 (omega arith)
          ∙ sym (get_or_past seen (at + k) 0 (omega (arith, length-drop at seen)))
    ]

-- a window within what is there
pub window_within : (seen : List ℕ) (at n : ℕ) → at + n ≤ length seen → window seen at n ≡ take n (drop at seen)
window_within seen at n within = take-append-le n (drop at seen) (replicate n 0) (omega (arith, length-drop at seen))

sum_same : (f h : ℕ → ℕ) (k : ℕ) → ((i : ℕ) → f i ≡ h i) → sum_through f k ≡ sum_through h k
sum_same f h zero same = same 0
sum_same f h (suc k) same = omega (arith, sum_same f h k same, same (suc k))

-- bytes that are the same in each place spell the same number
pub from_le_same : (w : Width) (xs ys : List ℕ) → ((i : ℕ) → get_or xs i 0 ≡ get_or ys i 0) → from_le_bytes w xs
    ≡ from_le_bytes w ys
from_le_same w xs ys same = sum_same (λ i. byte_worth i (get_or xs i 0)) (λ i. byte_worth i (get_or ys i 0))
    (byte_len w - 1) (λ i. ap (byte_worth i) (same i))

-- a part of a list of which each byte is known
pub part_same : (xs ys : List ℕ) (a n m : ℕ) → a + n ≤ m → ((k : ℕ) → k < m → get_or xs k 0 ≡ get_or ys k 0) → (i : ℕ)
    → get_or (take n (drop a xs)) i 0 ≡ get_or (take n (drop a ys)) i 0
part_same xs ys a n m within same i = elim (cases_lt i n) [
  | inl inside ↦ get_or-take n (drop a xs) i 0 inside ∙ get_or-drop a xs i 0 ∙ same (a + i) (omega arith) ∙ sym
      (get_or-drop a ys i 0) ∙ sym (get_or-take n (drop a ys) i 0 inside)
  | inr past ↦ get_or_past (take n (drop a xs)) i 0 (omega (arith, length-take n (drop a xs))) ∙ sym
      (get_or_past (take n (drop a ys)) i 0 (omega (arith, length-take n (drop a ys))))
]

-- one entry more
abbrev More : ℕ → Type 0
More n = (b payload : List ℕ) → length (payloads_of n b) ≡ n → entry_of (drop (extent (payloads_of n b)) b)
    ≡ Some payload → payloads_of (suc n) b ≡ payloads_of n b ++ payload ∷ []

at_entry : (n : ℕ) (b payload : List ℕ) → entry_of b ≡ Some payload → payloads_of (suc n) b ≡ payload
    ∷ payloads_of n (drop (3 + length payload) b)
unfolding payloads_of
at_entry n b payload is = ap (λ (o : Option (List ℕ)). followed o (λ p. payloads_of n (drop (3 + length p) b))) is

no_entry : (n : ℕ) (b : List ℕ) → entry_of b ≡ None → payloads_of n b ≡ []
unfolding payloads_of
no_entry zero b none = refl
no_entry (suc n) b none = ap (λ (o : Option (List ℕ)). followed o (λ p. payloads_of n (drop (3 + length p) b))) none

pub none_of : (b : List ℕ) → payloads_of 0 b ≡ []
unfolding payloads_of
none_of b = refl

more_by : (n : ℕ) (b payload : List ℕ) (o : Option (List ℕ)) → entry_of b ≡ o → More n
    → length (payloads_of (suc n) b) ≡ suc n → entry_of (drop (extent (payloads_of (suc n) b)) b) ≡ Some payload
    → payloads_of (suc (suc n)) b ≡ payloads_of (suc n) b ++ payload ∷ []
more_by n b payload None is rec size next = absurd (omega (arith, size, ap length (no_entry (suc n) b is)))
more_by n b payload (Some first) is rec size next =
    let a = 3 + length first in
    let here = at_entry n b first is in
    let e = extent (payloads_of n (drop a b)) in
    let there : entry_of (drop e (drop a b)) ≡ Some payload =
    ap entry_of (drop-drop e a b ∙ ap (λ (l : List (List ℕ)). drop (extent l) b) (sym here)) ∙ next in
    at_entry (suc n) b first is ∙ ap (λ (l : List (List ℕ)). first ∷ l)
    (rec (drop a b) payload (omega (arith, size, ap length here)) there) ∙ ap
    (λ (l : List (List ℕ)). l ++ payload ∷ []) (sym here)

pub payloads_more : (n : ℕ) → More n
payloads_more zero b payload size next =
    let first : entry_of b ≡ Some payload = ap (λ (l : List (List ℕ)). entry_of (drop (extent l) b)) (sym (none_of b))
    ∙ next in
    at_entry 0 b payload first ∙ ap (λ (l : List (List ℕ)). payload ∷ l) (none_of (drop (3 + length payload) b)) ∙ ap
    (λ (l : List (List ℕ)). l ++ payload ∷ []) (sym (none_of b))
payloads_more (suc n) b payload size next = more_by n b payload (entry_of b) refl (payloads_more n) size next

-- and none: then there are no others
pub payloads_end : (n m : ℕ) (b : List ℕ) → n ≤ m → length (payloads_of n b) ≡ n
    → entry_of (drop (extent (payloads_of n b)) b) ≡ None → payloads_of m b ≡ payloads_of n b
payloads_end zero m b fewer size none =
    no_entry m b (ap (λ (l : List (List ℕ)). entry_of (drop (extent l) b)) (sym (none_of b)) ∙ none) ∙ sym (none_of b)
payloads_end (suc n) zero b fewer size none = absurd (omega arith)
payloads_end (suc n) (suc m) b fewer size none =
    end_by n m b (entry_of b) refl (λ c. payloads_end n m c (omega arith)) size none
  where
    end_by : (n m : ℕ) (b : List ℕ) (o : Option (List ℕ)) → entry_of b ≡ o
        → ((c : List ℕ) → length (payloads_of n c) ≡ n → entry_of (drop (extent (payloads_of n c)) c) ≡ None
        → payloads_of m c ≡ payloads_of n c)
        → length (payloads_of (suc n) b) ≡ suc n → entry_of (drop (extent (payloads_of (suc n) b)) b) ≡ None
        → payloads_of (suc m) b ≡ payloads_of (suc n) b
    end_by n m b None is rec size none = absurd (omega (arith, size, ap length (no_entry (suc n) b is)))
    end_by n m b (Some first) is rec size none =
        let a = 3 + length first in
        let here = at_entry n b first is in
        let e = extent (payloads_of n (drop a b)) in
        let there : entry_of (drop e (drop a b)) ≡ None =
        ap entry_of (drop-drop e a b ∙ ap (λ (l : List (List ℕ)). drop (extent l) b) (sym here)) ∙ none in
        at_entry m b first is ∙ ap (λ (l : List (List ℕ)). first ∷ l)
        (rec (drop a b) (omega (arith, size, ap length here)) there) ∙ sym here

none_by : (o : Option (List ℕ)) → size_in o ≡ None → o ≡ None
none_by None is = refl
none_by (Some payload) is = cc

pub size_none : (b : List ℕ) → size_at b ≡ None → entry_of b ≡ None
size_none b is = none_by (entry_of b) is

some_by : (o : Option (List ℕ)) (n : ℕ) → size_in o ≡ Some n → (payload : List ℕ) × (o ≡ Some payload)
    × (length payload ≡ n)
some_by None n is = cc
some_by (Some payload) n is = (payload, refl, cc)

pub size_some : (b : List ℕ) (n : ℕ) → size_at b ≡ Some n → (payload : List ℕ) × (entry_of b ≡ Some payload)
    × (length payload ≡ n)
size_some b n is = some_by (entry_of b) n is

-- what lies after the entries so far
pub behind_more : (b : List ℕ) (start room taken : ℕ) (seen : List ℕ) → IsBehind b start room 15616 seen → taken
    ≤ 15488 → IsBehind (drop taken b) (start + taken) (room - taken) 3 seen
behind_more b start room taken seen is few = record {
  size = length-drop taken b ∙ ap (λ (n : ℕ). n - taken) is.size;
  same = λ k within low.
      let place : start + (taken + k) ≡ start + taken + k = omega arith in
      get_or-drop taken b k 0 ∙ is.same (taken + k) (omega arith) (omega arith) ∙ ap (λ (i : ℕ). get_or seen i 0)
      place;
}

-- the header of a slot
pub header_is : (second : Bool) (seen buf : List ℕ) (gate generation size : ℕ) → buf ≡ window seen (base_of second) 13
    → gate ≡ get_or buf 0 0 → generation ≡ from_le_bytes w64 (take 8 (drop 1 buf)) → size
    ≡ from_le_bytes w32 (take 4 (drop 9 buf))
    → IsHeaderOf (slot second seen) (record { gate = gate; generation = generation; size = size })
unfolding generation_of size_of
header_is second seen buf gate generation size is gate_is generation_is size_is =
    let x = slot second seen in
    let byte : (k : ℕ) → k < 13 → get_or buf k 0 ≡ get_or x k 0 = λ k low. ap (λ (l : List ℕ). get_or l k 0) is ∙
    window_byte seen (base_of second) 13 k low ∙ sym (slot_byte second k seen (omega arith)) in
    record {
      gate = gate_is ∙ byte 0 (omega arith);
      generation = generation_is ∙ from_le_same w64 (take 8 (drop 1 buf)) (take 8 (drop 1 x))
          (part_same buf x 1 8 13 (omega arith) byte);
      size = size_is ∙ from_le_same w32 (take 4 (drop 9 buf)) (take 4 (drop 9 x))
          (part_same buf x 9 4 13 (omega arith) byte);
    }

-- a slot is open as its header says
opens_true : (x : List ℕ) (h : Header) (room : ℕ) → IsHeaderOf x h → room ≡ length x → opens h room ≡ true → IsOpen x
opens_true x h room is room_is open_it =
    let parts = and_parts (h.gate == 165 && nat_le h.size 49152) (nat_le (13 + h.size) room) open_it in
    let first = and_parts (h.gate == 165) (nat_le h.size 49152) parts.0 in
    record {
      gate = sym is.gate ∙ eqb-true h.gate 165 first.0;
      small = omega (arith, is.size, leb-true h.size 49152 first.1);
      within = omega (arith, is.size, room_is, leb-true (13 + h.size) room parts.1);
    }

opens_false : (x : List ℕ) (h : Header) (room : ℕ) → IsHeaderOf x h → room ≡ length x → opens h room ≡ false
    → opened x ≡ None
unfolding opened
opens_false x h room is room_is shut =
    let same : (gate_of x == 165 && nat_le (size_of x) 49152 && nat_le (13 + size_of x) (length x)) ≡ opens h room =
    ap (λ (g : ℕ). g == 165 && nat_le (size_of x) 49152 && nat_le (13 + size_of x) (length x)) (sym is.gate) ∙ ap
    (λ (n : ℕ). h.gate == 165 && nat_le n 49152 && nat_le (13 + n) (length x)) (sym is.size)
    ∙ ap (λ (r : ℕ). h.gate == 165 && nat_le h.size 49152 && nat_le (13 + h.size) r) (sym room_is) in
    ap (λ (b : Bool). if b then Some (fields_of x) else None) (same ∙ shut)

-- which slot stands
module _ (a b : Header) (a_room b_room : ℕ) (seen : List ℕ) (a_is : IsHeaderOf (slot false seen) a)
    (b_is : IsHeaderOf (slot true seen) b) (a_room_is : a_room ≡ length (slot false seen))
    (b_room_is : b_room ≡ length (slot true seen)) where
  found_second : IsOpen (slot true seen) → stands seen ≡ Some (standing_in true (fields_of (slot true seen)))
      → IsFoundIn (found_in true b b_room a) seen
  found_second open_it stand = record {
    stands = stand;
    open_slot = open_it;
    generation = b_is.generation;
    size = b_is.size;
    room = b_room_is;
    other = ap (λ (g : ℕ). g == 165) a_is.gate;
  }

  found_first : IsOpen (slot false seen) → stands seen ≡ Some (standing_in false (fields_of (slot false seen)))
      → IsFoundIn (found_in false a a_room b) seen
  found_first open_it stand = record {
    stands = stand;
    open_slot = open_it;
    generation = a_is.generation;
    size = a_is.size;
    room = a_room_is;
    other = ap (λ (g : ℕ). g == 165) b_is.gate;
  }

  by_tests : (oa ob lt : Bool) → opens a a_room ≡ oa → opens b b_room ≡ ob → nat_lt a.generation b.generation ≡ lt
      → MatchOption (if ob && (not oa || lt) then Some (found_in true b b_room a)
      else (if oa then Some (found_in false a a_room b) else None)) (stands seen ≡ None) (λ f. IsFoundIn f seen)
  unfolding stands elected
  by_tests true true true oa ob lt =
      let x = opens_true (slot false seen) a a_room a_is a_room_is oa in
      let y = opens_true (slot true seen) b b_room b_is b_room_is ob in
      found_second y
      (ap (λ (o : Option Opened). elected o (opened (slot true seen))) (opened_some (slot false seen) x) ∙ ap
      (λ (o : Option Opened). elected (Some (fields_of (slot false seen))) o) (opened_some (slot true seen) y)
      ∙ ap (λ (t : Bool). if t then Some (standing_in true (fields_of (slot true seen)))
      else Some (standing_in false (fields_of (slot false seen))))
      (ap (λ (n : ℕ). nat_lt n (generation_of (slot true seen))) (sym a_is.generation) ∙ ap
      (λ (n : ℕ). nat_lt a.generation n) (sym b_is.generation) ∙ lt))
  by_tests true true false oa ob lt =
      let x = opens_true (slot false seen) a a_room a_is a_room_is oa in
      let y = opens_true (slot true seen) b b_room b_is b_room_is ob in
      found_first x
      (ap (λ (o : Option Opened). elected o (opened (slot true seen))) (opened_some (slot false seen) x) ∙ ap
      (λ (o : Option Opened). elected (Some (fields_of (slot false seen))) o) (opened_some (slot true seen) y)
      ∙ ap (λ (t : Bool). if t then Some (standing_in true (fields_of (slot true seen)))
      else Some (standing_in false (fields_of (slot false seen))))
      (ap (λ (n : ℕ). nat_lt n (generation_of (slot true seen))) (sym a_is.generation) ∙ ap
      (λ (n : ℕ). nat_lt a.generation n) (sym b_is.generation) ∙ lt))
  by_tests false true lt oa ob l =
      let y = opens_true (slot true seen) b b_room b_is b_room_is ob in
      found_second y
      (ap (λ (o : Option Opened). elected o (opened (slot true seen)))
      (opens_false (slot false seen) a a_room a_is a_room_is oa) ∙ ap (λ (o : Option Opened). elected None o)
      (opened_some (slot true seen) y))
  by_tests true false lt oa ob l =
      let x = opens_true (slot false seen) a a_room a_is a_room_is oa in
      found_first x
      (ap (λ (o : Option Opened). elected o (opened (slot true seen))) (opened_some (slot false seen) x) ∙ ap
      (λ (o : Option Opened). elected (Some (fields_of (slot false seen))) o)
      (opens_false (slot true seen) b b_room b_is b_room_is ob))
  by_tests false false lt oa ob l =
      ap (λ (o : Option Opened). elected o (opened (slot true seen)))
      (opens_false (slot false seen) a a_room a_is a_room_is oa) ∙ ap (λ (o : Option Opened). elected None o)
      (opens_false (slot true seen) b b_room b_is b_room_is ob)

  pub chosen_is : MatchOption (chosen a a_room b b_room) (stands seen ≡ None) (λ f. IsFoundIn f seen)
  chosen_is = by_tests (opens a a_room) (opens b b_room) (nat_lt a.generation b.generation) refl refl refl

pub room_first : (seen : List ℕ) (n : ℕ) → n ≡ length seen → min n 65536 ≡ length (slot false seen)
unfolding slot
room_first seen n is = omega (arith, is, length-take 65536 seen)

pub room_second : (seen : List ℕ) (n : ℕ) → n ≡ length seen → n - 65536 ≡ length (slot true seen)
unfolding slot
room_second seen n is = omega (arith, is, length-drop 65536 seen)

-- the length of an entry, from its first three bytes
entry_test : (b : List ℕ) (t : Bool) → t
    ≡ (get_or b 0 0 == 165 && nat_le (payload_size b) 481 && nat_le (3 + payload_size b) (length b))
    → (if t then Some (payload_size b) else None) ≡ size_at b
entry_test b true is =
    let parts = and_parts (get_or b 0 0 == 165 && nat_le (payload_size b) 481)
    (nat_le (3 + payload_size b) (length b)) (sym is) in
    let within = leb-true (3 + payload_size b) (length b) parts.1 in
    let size : payload_size b ≡ length (take (payload_size b) (drop 3 b)) =
    omega (arith, length-take (payload_size b) (drop 3 b), length-drop 3 b) in
    ap (λ (n : ℕ). Some n) size ∙ ap size_in (sym (entry_by b true is))
entry_test b false is = ap size_in (sym (entry_by b false is))

pub entry_size_is : (b : List ℕ) (at room : ℕ) (seen buf : List ℕ) (gate size : ℕ) (t : Bool)
    → IsBehind b at room 3 seen → buf ≡ window seen at 3 → gate ≡ get_or buf 0 0 → size
    ≡ from_le_bytes w16 (take 2 (drop 1 buf))
    → t ≡ (gate == 165 && nat_le size 481 && nat_le (3 + size) room) → (if t then Some size else None) ≡ size_at b
unfolding payload_size
entry_size_is b at room seen buf gate size t is window_is gate_is size_is t_is = elim (cases_lt room 3) [
  | inl short ↦
      let here : t ≡ false = t_is ∙ and_right (gate == 165 && nat_le size 481) (nat_le (3 + size) room)
      (lt-leb (3 + size) room (omega arith)) in
      let n = from_le_bytes w16 (take 2 (drop 1 b)) in
      let there : false ≡ (get_or b 0 0 == 165 && nat_le n 481 && nat_le (3 + n) (length b)) =
      sym (and_right (get_or b 0 0 == 165 && nat_le n 481) (nat_le (3 + n) (length b))
      (lt-leb (3 + n) (length b) (omega (arith, is.size)))) in
      ap (λ (x : Bool). if x then Some size else None) here ∙ ap size_in (sym (entry_by b false there))
  | inr long ↦
      let byte : (k : ℕ) → k < 3 → get_or buf k 0 ≡ get_or b k 0 = λ k low. ap (λ (l : List ℕ). get_or l k 0)
      window_is ∙ window_byte seen at 3 k low ∙ sym (is.same k (omega arith) low) in
      let n = from_le_bytes w16 (take 2 (drop 1 b)) in
      let same_size : size ≡ n = size_is ∙ from_le_same w16 (take 2 (drop 1 buf)) (take 2 (drop 1 b))
      (part_same buf b 1 2 3 (omega arith) byte) in
      let same_gate : gate ≡ get_or b 0 0 = gate_is ∙ byte 0 (omega arith) in
      let test : t ≡ (get_or b 0 0 == 165 && nat_le n 481 && nat_le (3 + n) (length b)) =
      t_is ∙ ap (λ (x : ℕ). x == 165 && nat_le size 481 && nat_le (3 + size) room) same_gate ∙ ap
      (λ (m : ℕ). get_or b 0 0 == 165 && nat_le m 481 && nat_le (3 + m) room) same_size ∙ ap
      (λ (r : ℕ). get_or b 0 0 == 165 && nat_le n 481 && nat_le (3 + n) r) (sym is.size) in
      ap (λ (m : ℕ). if t then Some m else None) same_size ∙ entry_test b t test
]

-- the first entry is cut short
pub entry_short : (b : List ℕ) → length b < 3 → entry_of b ≡ None
entry_short b short =
    entry_by b false
    (sym (and_right (get_or b 0 0 == 165 && nat_le (payload_size b) 481) (nat_le (3 + payload_size b) (length b))
    (lt-leb (3 + payload_size b) (length b) (omega arith))))

pub entry_test_is : (b : List ℕ) (gate size room : ℕ) (t : Bool) → gate ≡ get_or b 0 0 → size
    ≡ from_le_bytes w16 (take 2 (drop 1 b)) → room ≡ length b → t
    ≡ (gate == 165 && nat_le size 481 && nat_le (3 + size) room)
    → entry_of b ≡ (if t then Some (take size (drop 3 b)) else None)
unfolding payload_size
entry_test_is b gate size room t gate_is size_is room_is t_is =
    let n = from_le_bytes w16 (take 2 (drop 1 b)) in
    let test : t ≡ (get_or b 0 0 == 165 && nat_le n 481 && nat_le (3 + n) (length b)) =
    t_is ∙ ap (λ (x : ℕ). x == 165 && nat_le size 481 && nat_le (3 + size) room) gate_is ∙ ap
    (λ (m : ℕ). get_or b 0 0 == 165 && nat_le m 481 && nat_le (3 + m) room) size_is ∙ ap
    (λ (r : ℕ). get_or b 0 0 == 165 && nat_le n 481 && nat_le (3 + n) r) room_is in
    entry_by b t test ∙ ap (λ (m : ℕ). if t then Some (take m (drop 3 b)) else None) (sym size_is)

-- the payloads of a list of entries, one step and the end
pub concat_step : (n i : ℕ) (b behind payload out : List ℕ) → i < n → entry_of b ≡ Some payload → behind
    ≡ drop (3 + length payload) b
    → (out ++ payload) ++ concat (payloads_of (n - (i + 1)) behind) ≡ out ++ concat (payloads_of (n - i) b)
concat_step n i b behind payload out more is behind_is =
    let next : n - i ≡ suc (n - (i + 1)) = omega arith in
    let here = ap (λ (m : ℕ). payloads_of m b) next ∙ at_entry (n - (i + 1)) b payload is in
    append_assoc out payload (concat (payloads_of (n - (i + 1)) behind)) ∙ ap
    (λ (l : List ℕ). out ++ (payload ++ concat (payloads_of (n - (i + 1)) l))) behind_is ∙ ap
    (λ (l : List (List ℕ)). out ++ concat l) (sym here)

pub concat_end : (n : ℕ) (b out : List ℕ) → entry_of b ≡ None → out ++ concat (payloads_of n b) ≡ out
concat_end n b out none = ap (λ (l : List (List ℕ)). out ++ concat l) (no_entry n b none) ∙ append-nil out

pub concat_full : (b out : List ℕ) → out ++ concat (payloads_of 0 b) ≡ out
concat_full b out = ap (λ (l : List (List ℕ)). out ++ concat l) (none_of b) ∙ append-nil out

-- what was read in the slot that was found
module _ (f : Found) (seen : List ℕ) (is : IsFoundIn f seen) where
  x : List ℕ
  x = slot f.second seen

  s : Standing
  s = standing_in f.second (fields_of (slot f.second seen))

  on_disk : base_of f.second + (13 + size_of (slot f.second seen)) ≤ length seen
  on_disk = let inside = in_disk f.second (12 + size_of (slot f.second seen)) seen
      (omega (arith, is.open_slot.within)) in omega arith

  pub record_is : window seen (base_of f.second + 13) f.size
      ≡ take (size_of (slot f.second seen)) (drop 13 (slot f.second seen))
  record_is =
      ap (λ (n : ℕ). window seen (base_of f.second + 13) n) is.size ∙ window_within seen (base_of f.second + 13)
      (size_of (slot f.second seen)) (omega (arith, on_disk))
      ∙ sym (slot_part f.second 13 (size_of (slot f.second seen)) seen (omega (arith, is.open_slot.small)))

  behind : List ℕ
  behind = drop (13 + size_of (slot f.second seen)) (slot f.second seen)

  pub behind_is : (start room : ℕ) → start ≡ base_of f.second + 13 + f.size → room ≡ f.room - (13 + f.size)
      → IsBehind (drop (13 + size_of (slot f.second seen)) (slot f.second seen)) start room 15616 seen
  behind_is start room start_is room_is =
      let y = slot f.second seen in
      let k = 13 + size_of y in
      record {
        size = length-drop k y ∙ omega (arith, room_is, is.room, is.size);
        same = λ j within low.
            let place : base_of f.second + (k + j) ≡ start + j = omega (arith, start_is, is.size) in
            get_or-drop k y j 0 ∙ slot_byte f.second (k + j) seen (omega (arith, is.open_slot.small)) ∙ ap
            (λ (i : ℕ). get_or seen i 0) place;
      }

  region_is : (start taken : ℕ) → start ≡ base_of f.second + 13 + f.size → taken
      ≡ extent (payloads_of 32 (drop (13 + size_of (slot f.second seen)) (slot f.second seen))) → taken ≤ 15488
      → window seen start taken ≡ take taken (drop (13 + size_of (slot f.second seen)) (slot f.second seen))
  region_is start taken start_is taken_is few =
      let y = slot f.second seen in
      let k = 13 + size_of y in
      let inside : taken ≤ length (drop k y) = omega (arith, taken_is, extent_within 32 (drop k y)) in
      let place : start ≡ base_of f.second + k = omega (arith, start_is, is.size) in
      let last = in_disk f.second (k + taken - 1) seen (omega (arith, inside, length-drop k y, is.open_slot.within)) in
      let end : start + taken ≤ length seen = omega (arith, last, place) in
      window_within seen start taken end ∙ ap (λ (i : ℕ). take taken (drop i seen)) place ∙ sym
      (slot_part f.second k taken seen (omega (arith, is.open_slot.small)))

  -- the payloads in the region are those that stand
  pub region_payloads : (region : List ℕ) (start taken : ℕ) → region ≡ window seen start taken → start
      ≡ base_of f.second + 13 + f.size → taken
      ≡ extent (payloads_of 32 (drop (13 + size_of (slot f.second seen)) (slot f.second seen))) → taken ≤ 15488
      → payloads_of 32 region ≡ payloads_of 32 (drop (13 + size_of (slot f.second seen)) (slot f.second seen))
  region_payloads region start taken region_is' start_is taken_is few =
      let b = drop (13 + size_of (slot f.second seen)) (slot f.second seen) in
      let ps = payloads_of 32 b in
      let r : region ≡ take (extent ps) b = region_is' ∙ region_is start taken start_is taken_is few ∙ ap
      (λ (n : ℕ). take n b) taken_is in
      let front : take (extent ps) region ≡ take (extent ps) b = ap (λ (l : List ℕ). take (extent ps) l) r ∙ take-take
      (extent ps) (extent ps) b (omega arith) in
      let none : drop (extent ps) region
      ≡ [] = drop_all (extent ps) region (omega (arith, ap length r, length-take (extent ps) b)) in
      payloads_split 32 b region front ∙ ap (λ (l : List ℕ). ps ++ payloads_of (32 - length ps) l) none ∙ ap
      (λ (l : List (List ℕ)). ps ++ l) (no_entry (32 - length ps) [] (entry_short [] (omega arith))) ∙ append-nil
      ps

-- all that was read
pub read_as : (f : Found) (seen content payloads region : List ℕ) (start room entries taken end : ℕ)
    → IsFoundIn f seen → start ≡ base_of f.second + 13 + f.size → room ≡ f.room - (13 + f.size) → taken ≤ 15488
    → ((b : List ℕ) → IsBehind b start room 15616 seen → (entries ≡ length (payloads_of 32 b))
    × (taken ≡ extent (payloads_of 32 b)))
    → content ≡ window seen (base_of f.second + 13) f.size → region ≡ window seen start taken → payloads
    ≡ concat (payloads_of 32 region) → end ≡ 13 + f.size + taken
    → (s : Standing) × (stands seen ≡ Some s) × (f.second ≡ s.second) × (f.generation ≡ s.generation)
    × (content ≡ s.content) × (payloads ≡ concat s.payloads) × (entries ≡ length s.payloads) × (end ≡ end_of s)
    × (f.other_open ≡ (gate_of (slot (not s.second) seen) == 165))
read_as f seen content payloads region start room entries taken end is start_is room_is few counted content_is
    region_is' payloads_is end_is =
    let y = slot f.second seen in
    let b = drop (13 + size_of y) y in
    let count = counted b (behind_is f seen is start room start_is room_is) in
    let there = region_payloads f seen is region start taken region_is' start_is count.1 few in
    let size : length (take (size_of y) (drop 13 y)) ≡ size_of y =
    omega (arith, length-take (size_of y) (drop 13 y), length-drop 13 y, is.open_slot.within) in (
      standing_in f.second (fields_of y),
      is.stands,
      refl,
      is.generation,
      content_is ∙ record_is f seen is,
      payloads_is ∙ ap concat there,
      count.0,
      omega (arith, end_is, size, is.size, count.1),
      is.other,
    )
