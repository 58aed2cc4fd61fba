-- The two slots of a disk, and what a torn write in one of them leaves.
use Rattle.std.proofs.Common.{◌≡◌, ◌≢◌, inl, inr, ℕ, ◌+◌, ◌-◌, ◌≤◌, ◌<◌, ◌&&◌, ◌==◌, List, ◌++◌, length, get_or, take, drop, replicate, Option, Some, None, Bool, true, false, not, nat_le, nat_lt, if◌then◌else◌, refl, sym, ◌∙◌, ap, subst, arith, length-take, length-drop, length-append, get_or-take, get_or-drop, zero-add}
use Rattle.std.proofs.lemmas.List.{take-take, drop-take, drop-drop, drop_all, drop_at, take_at, take-append-le, length-replicate, append_assoc}
use Rattle.std.proofs.lemmas.Bool.{cases_lt, and_parts, and_from, and_left, eqb-true, eq-eqb, ne_eqb, leb-true, le-leb, lt-ltb, le-ltb}
use Rattle.std.specs.Int.{from_le_bytes, w32, w64}
use Rattle.zb_disk.specs.View.{Torn, overwrite}
use Rattle.zb_store.specs.Layout.{fields_of, IsOpen, Opened, Standing, slot, base_of, gate_of, generation_of, size_of, opened, elected, stands, standing_in, payloads_of}

-- what a prefix decides is in it
pub part : (a n m : ℕ) (x y : List ℕ) → a + n ≤ m → take m x ≡ take m y → take n (drop a x) ≡ take n (drop a y)
part a n m x y within same =
    sym (drop-take a n x) ∙ ap (λ (l : List ℕ). drop a l)
    (sym (take-take (a + n) m x within) ∙ ap (λ (l : List ℕ). take (a + n) l) same ∙ take-take (a + n) m y within)
    ∙ drop-take a n y

pub byte_of : (k m : ℕ) (x y : List ℕ) → k < m → take m x ≡ take m y → get_or x k 0 ≡ get_or y k 0
byte_of k m x y within same = sym (get_or-take m x k 0 within) ∙ ap (λ (l : List ℕ). get_or l k 0) same ∙ get_or-take
    m y k 0 within

-- a write in the prefix of the disk, and in what lies after it
torn_front : (h at n : ℕ) (d c : List ℕ) → at + n ≤ h → Torn at n d c → Torn at n (take h d) (take h c)
torn_front h at n d c within torn = record {
  before = λ m until in_it. take-take m h c (omega arith) ∙ torn.before m until (omega (arith, length-take h d)) ∙ sym
      (take-take m h d (omega arith));
  after = λ m from. elim (cases_lt m h) [
    | inl low ↦
        let split : h ≡ m + (h - m) = omega arith in
        ap (λ (i : ℕ). drop m (take i c)) split ∙ drop-take m (h - m) c ∙ ap (λ (l : List ℕ). take (h - m) l)
        (torn.after m from) ∙ sym (drop-take m (h - m) d) ∙ ap (λ (i : ℕ). drop m (take i d)) (sym split)
    | inr high ↦ drop_all m (take h c) (omega (arith, length-take h c)) ∙ sym
        (drop_all m (take h d) (omega (arith, length-take h d)))
  ];
  no_shorter = omega (arith, torn.no_shorter, length-take h d, length-take h c);
}

torn_back : (h at n : ℕ) (d c : List ℕ) → h ≤ length d → Torn (h + at) n d c → Torn at n (drop h d) (drop h c)
torn_back h at n d c long torn = record {
  before = λ m until in_it. sym (drop-take h m c) ∙ ap (λ (l : List ℕ). drop h l)
      (torn.before (h + m) (omega arith) (omega (arith, length-drop h d))) ∙ drop-take h m d;
  after = λ m from. drop-drop m h c ∙ torn.after (h + m) (omega arith) ∙ sym (drop-drop m h d);
  no_shorter = omega (arith, torn.no_shorter, length-drop h d, length-drop h c);
}

-- a write within a slot is torn in that slot alone
pub torn_slot : (b : Bool) (at n : ℕ) (d c : List ℕ) → at + n ≤ 65536 → 65536 ≤ length d → Torn (base_of b + at) n d c
    → Torn at n (slot b d) (slot b c)
unfolding slot
torn_slot false at n d c within long torn =
    torn_front 65536 at n d c within (subst (λ i. Torn i n d c) (zero-add at) torn)
torn_slot true at n d c within long torn = torn_back 65536 at n d c long torn

pub torn_other : (b : Bool) (at n : ℕ) (d c : List ℕ) → at + n ≤ 65536 → 65536 ≤ length d
    → Torn (base_of b + at) n d c → slot (not b) c ≡ slot (not b) d
unfolding slot
torn_other false at n d c within long torn = torn.after 65536 (omega arith)
torn_other true at n d c within long torn = torn.before 65536 (omega arith) long

-- bytes of a slot are bytes of the disk
pub slot_part : (b : Bool) (at n : ℕ) (x : List ℕ) → at + n ≤ 65536 → take n (drop at (slot b x))
    ≡ take n (drop (base_of b + at) x)
unfolding slot
slot_part false at n x within = part at n (at + n) (take 65536 x) x (omega arith) (take-take (at + n) 65536 x within)
    ∙ ap (λ (i : ℕ). take n (drop i x)) (sym (zero-add at))
slot_part true at n x within = ap (λ (l : List ℕ). take n l) (drop-drop at 65536 x)

pub slot_byte : (b : Bool) (k : ℕ) (x : List ℕ) → k < 65536 → get_or (slot b x) k 0 ≡ get_or x (base_of b + k) 0
unfolding slot
slot_byte false k x within = get_or-take 65536 x k 0 within ∙ ap (λ (i : ℕ). get_or x i 0) (sym (zero-add k))
slot_byte true k x within = get_or-drop 65536 x k 0

-- a disk that has the gate of its second slot is longer than the first
pub long_by_gate : (x : List ℕ) → 0 < length (slot true x) → 65536 < length x
unfolding slot
long_by_gate x gate = omega (arith, length-drop 65536 x)

pub long_by_first : (b : Bool) (x : List ℕ) → 0 < length (slot b x) → 0 < length (slot (not b) x) → 65536 < length x
long_by_first false x one other = long_by_gate x other
long_by_first true x one other = long_by_gate x one

-- what was written is there
module _ (d : List ℕ) (at : ℕ) (bytes : List ℕ) where
  front : List ℕ
  front = take at (d ++ replicate (at - length d) 0)

  length-front : length front ≡ at
  unfolding front
  length-front =
      omega (
        arith,
        length-take at (d ++ replicate (at - length d) 0),
        length-append d (replicate (at - length d) 0),
        length-replicate {A = ℕ} (at - length d) 0,
      )

  as_front : overwrite d at bytes ≡ front ++ (bytes ++ drop (at + length bytes) d)
  unfolding front
  as_front = append_assoc front bytes (drop (at + length bytes) d)

  pub overwrite_holds : take (length bytes) (drop at (overwrite d at bytes)) ≡ bytes
  overwrite_holds =
      ap (λ (l : List ℕ). take (length bytes) (drop at l)) as_front ∙ ap (λ (l : List ℕ). take (length bytes) l)
      (drop_at front (bytes ++ drop (at + length bytes) d) at length-front)
      ∙ take_at bytes (drop (at + length bytes) d) (length bytes) refl

  pub overwrite_torn : Torn at (length bytes) d (overwrite d at bytes)
  unfolding front
  overwrite_torn =
      let long : length (front ++ bytes) ≡ at + length bytes = omega (arith, length-append front bytes, length-front)
      in
      record {
        before = λ m until in_it.
            ap (λ (l : List ℕ). take m l) as_front ∙ take-append-le m front (bytes ++ drop (at + length bytes) d)
            (omega (arith, length-front))
            ∙ take-take m at (d ++ replicate (at - length d) 0) until ∙ take-append-le m d
            (replicate (at - length d) 0) in_it;
        after = λ m from.
            let split : m ≡ (at + length bytes) + (m - (at + length bytes)) = omega arith in
            ap (λ (i : ℕ). drop i (overwrite d at bytes)) split ∙ sym
            (drop-drop (m - (at + length bytes)) (at + length bytes) (overwrite d at bytes))
            ∙ ap (λ (l : List ℕ). drop (m - (at + length bytes)) l)
            (drop_at (front ++ bytes) (drop (at + length bytes) d) (at + length bytes) long)
            ∙ drop-drop (m - (at + length bytes)) (at + length bytes) d ∙ ap (λ (i : ℕ). drop i d) (sym split);
        no_shorter =
            omega (
              arith,
              ap length as_front,
              length-append front (bytes ++ drop (at + length bytes) d),
              length-front,
              length-append bytes (drop (at + length bytes) d),
              length-drop (at + length bytes) d,
            );
      }

-- a torn write after a torn write in the same place
pub torn_again : (at n : ℕ) (d m c : List ℕ) → Torn at n d m → Torn at n m c → Torn at n d c
torn_again at n d m c first second = record {
  before = λ i until in_it. second.before i until (omega (arith, in_it, first.no_shorter)) ∙ first.before i until
      in_it;
  after = λ i from. second.after i from ∙ first.after i from;
  no_shorter = omega (arith, first.no_shorter, second.no_shorter);
}

-- the images of a range that is torn are the same before and after it was written
pub torn_over : (at : ℕ) (bytes m c : List ℕ) → at + length bytes ≤ length m → Torn at (length bytes) m c
    → Torn at (length bytes) (overwrite m at bytes) c
torn_over at bytes m c within torn =
    let o = overwrite_torn m at bytes in
    let size : length (overwrite m at bytes) ≡ length m =
    omega (
      arith,
      ap length (o.after (at + length bytes) (omega arith)),
      length-drop (at + length bytes) (overwrite m at bytes),
      length-drop (at + length bytes) m,
      o.no_shorter,
    ) in
    record {
      before = λ i until in_it. torn.before i until (omega arith) ∙ sym (o.before i until (omega arith));
      after = λ i from. torn.after i from ∙ sym (o.after i from);
      no_shorter = omega (arith, size, torn.no_shorter);
    }

pub in_disk : (b : Bool) (k : ℕ) (x : List ℕ) → k < length (slot b x) → base_of b + k < length x
unfolding slot
in_disk false k x within = omega (arith, length-take 65536 x)
in_disk true k x within = omega (arith, length-drop 65536 x)

-- what an open slot holds
pub opened_some : (s : List ℕ) → IsOpen s → opened s ≡ Some (fields_of s)
unfolding opened
opened_some s is = ap (λ (b : Bool). if b then Some (fields_of s) else None)
    (and_from (gate_of s == 165 && nat_le (size_of s) 49152) (nat_le (13 + size_of s) (length s))
    (and_from (gate_of s == 165) (nat_le (size_of s) 49152) (eq-eqb (gate_of s) 165 is.gate)
    (le-leb (size_of s) 49152 is.small))
    (le-leb (13 + size_of s) (length s) is.within))

pub opened_none : (s : List ℕ) → gate_of s ≢ 165 → opened s ≡ None
unfolding opened
opened_none s shut = ap (λ (b : Bool). if b then Some (fields_of s) else None)
    (and_left (gate_of s == 165 && nat_le (size_of s) 49152) (nat_le (13 + size_of s) (length s))
    (and_left (gate_of s == 165) (nat_le (size_of s) 49152) (ne_eqb (gate_of s) 165 shut)))

choice : {A : Type 0} (b : Bool) (x o : A) → (if b then Some x else None) ≡ Some o → (b ≡ true) × (o ≡ x)
choice true x o is = (refl, cc)
choice false x o is = cc

pub opened_facts : (s : List ℕ) (o : Opened) → opened s ≡ Some o → IsOpen s × (o ≡ fields_of s)
unfolding opened
opened_facts s o is =
    let test = gate_of s == 165 && nat_le (size_of s) 49152 && nat_le (13 + size_of s) (length s) in
    let got = choice test (fields_of s) o is in
    let parts = and_parts (gate_of s == 165 && nat_le (size_of s) 49152) (nat_le (13 + size_of s) (length s)) got.0 in
    let first = and_parts (gate_of s == 165) (nat_le (size_of s) 49152) parts.0 in (
      record {
        gate = eqb-true (gate_of s) 165 first.0;
        small = leb-true (size_of s) 49152 first.1;
        within = leb-true (13 + size_of s) (length s) parts.1;
      },
      got.1,
    )

-- a slot whose prefix is that of an open one is open too, with the same generation and record
pub same_open : (x y : List ℕ) (m : ℕ) → 13 + size_of x ≤ m → take m y ≡ take m x → length x ≤ length y → IsOpen x
    → (size_of y ≡ size_of x) × (generation_of y ≡ generation_of x) × IsOpen y
unfolding size_of generation_of
same_open x y m front same longer is =
    let size = ap (from_le_bytes w32) (part 9 4 m y x (omega arith) same) in (
      size,
      ap (from_le_bytes w64) (part 1 8 m y x (omega arith) same),
      record {
        gate = byte_of 0 m y x (omega arith) same ∙ is.gate;
        small = omega (arith, size, is.small);
        within = omega (arith, size, is.within, longer);
      },
    )

pub same_standing : (s t : Standing) → s.second ≡ t.second → s.generation ≡ t.generation → s.content ≡ t.content
    → s.payloads ≡ t.payloads → s ≡ t
same_standing s t p q r u =
    ap (λ (x : Bool). let n : Standing = record s { second = x } in n) p
    ∙ ap (λ (x : ℕ). let n : Standing = record s { second = t.second; generation = x } in n) q
    ∙ ap (λ (x : List ℕ). let n : Standing = record s { second = t.second; generation = t.generation; content = x } in
    n) r
    ∙ ap (λ (x : List (List ℕ)). let n : Standing =
    record { second = t.second; generation = t.generation; content = t.content; payloads = x } in n) u

-- a slot that is open alone stands, and so does the newer of two
pub stands_alone : (b : Bool) (c : List ℕ) (o : Opened) → opened (slot b c) ≡ Some o → opened (slot (not b) c) ≡ None
    → stands c ≡ Some (standing_in b o)
unfolding stands elected
stands_alone false c o here none = ap (λ (x : Option Opened). elected x (opened (slot true c))) here ∙ ap
    (λ (x : Option Opened). elected (Some o) x) none
stands_alone true c o here none = ap (λ (x : Option Opened). elected (opened (slot false c)) x) here ∙ ap
    (λ (x : Option Opened). elected x (Some o)) none

pub stands_newer : (b : Bool) (c : List ℕ) (new old : Opened) → opened (slot b c) ≡ Some new → opened (slot (not b) c)
    ≡ Some old → old.generation < new.generation → stands c ≡ Some (standing_in b new)
unfolding stands elected
stands_newer false c new old here there newer =
    ap (λ (x : Option Opened). elected x (opened (slot true c))) here ∙ ap
    (λ (x : Option Opened). elected (Some new) x) there
    ∙ ap (λ (t : Bool). if t then Some (standing_in true old) else Some (standing_in false new))
    (le-ltb new.generation old.generation (omega arith))
stands_newer true c new old here there newer =
    ap (λ (x : Option Opened). elected (opened (slot false c)) x) here ∙ ap
    (λ (x : Option Opened). elected x (Some new)) there
    ∙ ap (λ (t : Bool). if t then Some (standing_in true new) else Some (standing_in false old))
    (lt-ltb old.generation new.generation newer)

-- what stands is what its slot holds
elected_facts : (a b : Option Opened) (s : Standing) → elected a b ≡ Some s → (o : Opened)
    × ((if s.second then b else a) ≡ Some o) × (s ≡ standing_in s.second o)
unfolding elected
elected_facts None None s is = cc
elected_facts (Some a) None s is = let e : s ≡ standing_in false a =
    cc in (
      a,
      ap (λ (x : Standing). if x.second then None else Some a) e,
      e ∙ ap (λ (x : Standing). standing_in x.second a) (sym e),
    )
elected_facts None (Some b) s is = let e : s ≡ standing_in true b =
    cc in (
      b,
      ap (λ (x : Standing). if x.second then Some b else None) e,
      e ∙ ap (λ (x : Standing). standing_in x.second b) (sym e),
    )
elected_facts (Some a) (Some b) s is = by_test (nat_lt a.generation b.generation) is
  where
    by_test : (t : Bool) → (if t then Some (standing_in true b) else Some (standing_in false a)) ≡ Some s
        → (o : Opened) × ((if s.second then Some b else Some a) ≡ Some o) × (s ≡ standing_in s.second o)
    by_test true is = let e : s ≡ standing_in true b =
        cc in (
          b,
          ap (λ (x : Standing). if x.second then Some b else Some a) e,
          e ∙ ap (λ (x : Standing). standing_in x.second b) (sym e),
        )
    by_test false is = let e : s ≡ standing_in false a =
        cc in (
          a,
          ap (λ (x : Standing). if x.second then Some b else Some a) e,
          e ∙ ap (λ (x : Standing). standing_in x.second a) (sym e),
        )

slot_choice : (b : Bool) (c : List ℕ) → opened (slot b c) ≡ (if b then opened (slot true c) else opened (slot false c))
slot_choice false c = refl
slot_choice true c = refl

pub record IsIn (s : Standing) (x : List ℕ) : Type 0 where
  pub is : IsOpen x
  pub generation : s.generation ≡ generation_of x
  pub content : s.content ≡ take (size_of x) (drop 13 x)
  pub payloads : s.payloads ≡ payloads_of 32 (drop (13 + size_of x) x)
  pub size : length s.content ≡ size_of x

pub stands_in : (s : Standing) (c : List ℕ) → stands c ≡ Some s
    → (opened (slot s.second c) ≡ Some (fields_of (slot s.second c))) × IsIn s (slot s.second c)
unfolding stands
stands_in s c is =
    let x = slot s.second c in
    let got = elected_facts (opened (slot false c)) (opened (slot true c)) s is in
    let open_it = opened_facts x got.0 (slot_choice s.second c ∙ got.1) in
    let same : s ≡ standing_in s.second (fields_of x) = got.2 ∙ ap (λ (o : Opened). standing_in s.second o) open_it.1
    in (
      opened_some x open_it.0,
      record {
        is = open_it.0;
        generation = ap (λ (t : Standing). t.generation) same;
        content = ap (λ (t : Standing). t.content) same;
        payloads = ap (λ (t : Standing). t.payloads) same;
        size = ap (λ (t : Standing). length t.content) same ∙ length-take-drop x open_it.0;
      },
    )
  where
    length-take-drop : (x : List ℕ) → IsOpen x → length (take (size_of x) (drop 13 x)) ≡ size_of x
    length-take-drop x is = omega (arith, length-take (size_of x) (drop 13 x), length-drop 13 x, is.within)
