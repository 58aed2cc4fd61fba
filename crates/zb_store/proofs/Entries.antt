-- Entries after one another.
use Rattle.std.proofs.Common.{◌≡◌, ◌≢◌, ℕ, zero, suc, ◌+◌, ◌-◌, ◌≤◌, ◌&&◌, ◌==◌, List, [], ◌∷◌, ◌++◌, length, get_or, take, drop, Option, Some, None, Bool, true, false, nat_le, if◌then◌else◌, refl, sym, ◌∙◌, ap, arith, length-take, length-drop, length-append, get_or-take, get_or-drop}
use Rattle.std.proofs.lemmas.List.{take-take, drop-take, drop-drop, take_at, drop_at, append_assoc, get_or_at}
use Rattle.std.proofs.lemmas.Bool.{and_parts, and_from, and_left, eqb-true, eq-eqb, ne_eqb, leb-true, le-leb}
use Rattle.std.proofs.lemmas.Nat.{from_le_bytes-to_le_bytes_2}
use Rattle.std.specs.Int.{from_le_bytes, to_le_bytes, w16}
use Rattle.zb_store.specs.Layout.{entry_of, payloads_of, followed, extent, entry_body}
use Rattle.zb_store.proofs.Slots.{part, byte_of}

unfoldable pub payload_size : List ℕ → ℕ
payload_size bytes = from_le_bytes w16 (take 2 (drop 1 bytes))

pub record IsEntry (bytes : List ℕ) : Type 0 where
  pub gate : get_or bytes 0 0 ≡ 165
  pub small : payload_size bytes ≤ 481
  pub within : 3 + payload_size bytes ≤ length bytes

pub entry_some : (bytes : List ℕ) → IsEntry bytes → entry_of bytes ≡ Some (take (payload_size bytes) (drop 3 bytes))
unfolding entry_of payload_size
entry_some bytes is =
    let n = from_le_bytes w16 (take 2 (drop 1 bytes)) in
    ap (λ (b : Bool). if b then Some (take n (drop 3 bytes)) else None)
    (and_from (get_or bytes 0 0 == 165 && nat_le n 481) (nat_le (3 + n) (length bytes))
    (and_from (get_or bytes 0 0 == 165) (nat_le n 481) (eq-eqb (get_or bytes 0 0) 165 is.gate) (le-leb n 481 is.small))
    (le-leb (3 + n) (length bytes) is.within))

pub entry_none : (bytes : List ℕ) → get_or bytes 0 0 ≢ 165 → entry_of bytes ≡ None
unfolding entry_of
entry_none bytes shut =
    let n = from_le_bytes w16 (take 2 (drop 1 bytes)) in
    ap (λ (b : Bool). if b then Some (take n (drop 3 bytes)) else None)
    (and_left (get_or bytes 0 0 == 165 && nat_le n 481) (nat_le (3 + n) (length bytes))
    (and_left (get_or bytes 0 0 == 165) (nat_le n 481) (ne_eqb (get_or bytes 0 0) 165 shut)))

-- an entry stands exactly where the test says so
pub entry_by : (bytes : List ℕ) (t : Bool) → t
    ≡ (get_or bytes 0 0 == 165 && nat_le (payload_size bytes) 481 && nat_le (3 + payload_size bytes) (length bytes))
    → entry_of bytes ≡ (if t then Some (take (payload_size bytes) (drop 3 bytes)) else None)
unfolding entry_of payload_size
entry_by bytes t is =
    ap (λ (b : Bool). if b then Some (take (from_le_bytes w16 (take 2 (drop 1 bytes))) (drop 3 bytes)) else None)
    (sym is)

choice : {A : Type 0} (b : Bool) (x o : A) → (if b then Some x else None) ≡ Some o → (b ≡ true) × (o ≡ x)
choice true x o is = (refl, cc)
choice false x o is = cc

pub entry_facts : (bytes payload : List ℕ) → entry_of bytes ≡ Some payload → IsEntry bytes
    × (payload ≡ take (payload_size bytes) (drop 3 bytes)) × (length payload ≡ payload_size bytes)
unfolding entry_of payload_size
entry_facts bytes payload is =
    let n = from_le_bytes w16 (take 2 (drop 1 bytes)) in
    let got = choice (get_or bytes 0 0 == 165 && nat_le n 481 && nat_le (3 + n) (length bytes))
    (take n (drop 3 bytes)) payload is in
    let parts = and_parts (get_or bytes 0 0 == 165 && nat_le n 481) (nat_le (3 + n) (length bytes)) got.0 in
    let first = and_parts (get_or bytes 0 0 == 165) (nat_le n 481) parts.0 in
    let within : 3 + n ≤ length bytes = leb-true (3 + n) (length bytes) parts.1 in (
      record { gate = eqb-true (get_or bytes 0 0) 165 first.0; small = leb-true n 481 first.1; within = within },
      got.1,
      ap length got.1 ∙ omega (arith, length-take n (drop 3 bytes), length-drop 3 bytes),
    )

-- an entry is decided by its own bytes
same_entry : (b b' payload : List ℕ) (e : ℕ) → entry_of b ≡ Some payload → 3 + length payload ≤ e → e ≤ length b
    → take e b' ≡ take e b → entry_of b' ≡ Some payload
unfolding payload_size
same_entry b b' payload e is within in_it same =
    let facts = entry_facts b payload is in
    let entry = facts.0 in
    let size = ap (from_le_bytes w16) (part 1 2 e b' b (omega arith) same) in
    let longer : e ≤ length b' = omega (arith, ap length same, length-take e b', length-take e b) in
    let here : IsEntry b' = record {
      gate = byte_of 0 e b' b (omega arith) same ∙ entry.gate;
      small = omega (arith, size, entry.small);
      within = omega (arith, size, facts.2);
    } in
    entry_some b' here ∙ ap (λ (n : ℕ). Some (take n (drop 3 b'))) size ∙ ap (λ (l : List ℕ). Some l)
    (part 3 (from_le_bytes w16 (take 2 (drop 1 b))) e b' b (omega (arith, facts.2)) same ∙ sym facts.1)

extent_by : (n : ℕ) (b : List ℕ) (o : Option (List ℕ)) → entry_of b ≡ o
    → ((x : List ℕ) → extent (payloads_of n x) ≤ length x)
    → extent (followed o (λ payload. payloads_of n (drop (3 + length payload) b))) ≤ length b
extent_by n b None is rec = omega arith
extent_by n b (Some payload) is rec =
    let facts = entry_facts b payload is in
    omega (arith, rec (drop (3 + length payload) b), length-drop (3 + length payload) b, facts.2, facts.0.within)

pub extent_within : (n : ℕ) (b : List ℕ) → extent (payloads_of n b) ≤ length b
unfolding payloads_of
extent_within zero b = omega arith
extent_within (suc n) b = extent_by n b (entry_of b) refl (extent_within n)

abbrev Split : ℕ → Type 0
Split n = (b b' : List ℕ) → take (extent (payloads_of n b)) b' ≡ take (extent (payloads_of n b)) b
    → payloads_of n b' ≡ payloads_of n b
    ++ payloads_of (n - length (payloads_of n b)) (drop (extent (payloads_of n b)) b')

at_entry : (n : ℕ) (b : List ℕ) (payload : List ℕ) → entry_of b ≡ Some payload → payloads_of (suc n) b ≡ payload
    ∷ payloads_of n (drop (3 + length payload) b)
unfolding payloads_of
at_entry n b payload is = ap (λ (o : Option (List ℕ)). followed o (λ p. payloads_of n (drop (3 + length p) b))) is

split_by : (n : ℕ) (b b' : List ℕ) (o : Option (List ℕ)) → entry_of b ≡ o → Split n
    → extent (followed o (λ payload. payloads_of n (drop (3 + length payload) b))) ≤ length b
    → take (extent (followed o (λ payload. payloads_of n (drop (3 + length payload) b)))) b'
    ≡ take (extent (followed o (λ payload. payloads_of n (drop (3 + length payload) b)))) b
    → payloads_of (suc n) b' ≡ followed o (λ payload. payloads_of n (drop (3 + length payload) b))
    ++ payloads_of (suc n - length (followed o (λ payload. payloads_of n (drop (3 + length payload) b))))
    (drop (extent (followed o (λ payload. payloads_of n (drop (3 + length payload) b)))) b')
split_by n b b' None is rec within same = let whole : suc n ≡ suc n - 0 =
    omega arith in ap (λ (m : ℕ). payloads_of m b') whole
split_by n b b' (Some payload) is rec within same =
    let a = 3 + length payload in
    let ps = payloads_of n (drop a b) in
    let e = extent ps in
    let here = same_entry b b' payload (a + e) is (omega arith) within same in
    let behind = rec (drop a b) (drop a b') (part a e (a + e) b' b (omega arith) same) in
    let less : n - length ps ≡ suc n - suc (length ps) = omega arith in
    at_entry n b' payload here
    ∙ ap (λ (l : List (List ℕ)). payload ∷ l)
    (behind ∙ ap (λ (m : ℕ). ps ++ payloads_of m (drop e (drop a b'))) less ∙ ap
    (λ (l : List ℕ). ps ++ payloads_of (suc n - suc (length ps)) l) (drop-drop e a b'))

-- bytes that begin with the same entries have them, and then whatever comes after it
pub payloads_split : (n : ℕ) (b b' : List ℕ) → take (extent (payloads_of n b)) b' ≡ take (extent (payloads_of n b)) b
    → payloads_of n b' ≡ payloads_of n b
    ++ payloads_of (n - length (payloads_of n b)) (drop (extent (payloads_of n b)) b')
unfolding payloads_of
payloads_split zero b b' same = refl
payloads_split (suc n) b b' same = split_by n b b' (entry_of b) refl (payloads_split n) (extent_within (suc n) b) same

-- a closed gate ends them
pub none_behind : (n : ℕ) (b : List ℕ) → get_or b 0 0 ≢ 165 → payloads_of n b ≡ []
unfolding payloads_of
none_behind zero b shut = refl
none_behind (suc n) b shut =
    ap (λ (o : Option (List ℕ)). followed o (λ payload. payloads_of n (drop (3 + length payload) b)))
    (entry_none b shut)

-- an entry that was written after an open gate is one more
pub one_behind : (n : ℕ) (b payload : List ℕ) → length payload ≤ 481 → get_or b 0 0 ≡ 165
    → take (length (entry_body payload)) (drop 1 b) ≡ entry_body payload → payloads_of (suc n) b ≡ payload ∷ []
unfolding payloads_of entry_body payload_size
one_behind n b payload small gate holds =
    let len = length payload in
    let front = to_le_bytes w16 len in
    let all = (front ++ payload) ++ 0 ∷ [] in
    let y = drop 1 b in
    let size_of_all : length all ≡ 3 + len =
    omega (arith, length-append (front ++ payload) (0 ∷ []), length-append front payload) in
    let long : 3 + len ≤ length y = omega (arith, ap length holds, length-take (length all) y) in
    let head : take 2 y ≡ front =
    sym (take-take 2 (length all) y (omega arith)) ∙ ap (λ (l : List ℕ). take 2 l)
    (holds ∙ append_assoc front payload (0 ∷ [])) ∙ take_at front (payload ++ 0 ∷ []) 2 refl in
    let size : from_le_bytes w16 (take 2 y) ≡ len = ap (from_le_bytes w16) head ∙ from_le_bytes-to_le_bytes_2 len
    (omega arith) in
    let middle : take len (drop 3 b) ≡ payload =
    ap (λ (l : List ℕ). take len l) (sym (drop-drop 2 1 b)) ∙ sym (drop-take 2 len y)
    ∙ ap (λ (l : List ℕ). drop 2 l)
    (sym (take-take (2 + len) (length all) y (omega arith)) ∙ ap (λ (l : List ℕ). take (2 + len) l) holds ∙
    take_at (front ++ payload) (0 ∷ []) (2 + len) (length-append front payload)) ∙ drop_at front payload 2 refl in
    let entry : IsEntry b =
    record { gate = gate; small = omega (arith, size); within = omega (arith, size, length-drop 1 b) } in
    let here : entry_of b ≡ Some payload = entry_some b entry ∙ ap (λ (k : ℕ). Some (take k (drop 3 b))) size ∙ ap
    (λ (l : List ℕ). Some l) middle in
    let next : get_or (drop (3 + len) b) 0 0 ≡ 0 =
    ap (λ (l : List ℕ). get_or l 0 0) (ap (λ (i : ℕ). drop i b) (omega arith) ∙ sym (drop-drop (2 + len) 1 b)) ∙
    get_or-drop (2 + len) y 0 0
    ∙ sym (get_or-take (length all) y (2 + len + 0) 0 (omega arith)) ∙ ap (λ (l : List ℕ). get_or l (2 + len + 0) 0)
    holds ∙ ap (λ (i : ℕ). get_or all i 0) (omega arith) ∙ get_or_at (front ++ payload) 0 [] 0 (2 + len)
    (length-append front payload) in
    ap (λ (o : Option (List ℕ)). followed o (λ p. payloads_of n (drop (3 + length p) b))) here ∙ ap
    (λ (l : List (List ℕ)). payload ∷ l) (none_behind n (drop (3 + len) b) (λ open_it. omega arith))

pub extent-append : (ps : List (List ℕ)) (p : List ℕ) → extent (ps ++ p ∷ []) ≡ extent ps + (3 + length p)
extent-append [] p = omega arith
extent-append (q ∷ ps) p = omega (arith, extent-append ps p)
