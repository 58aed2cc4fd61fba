-- What a `format` leaves, and what an `open` does.
use Rattle.std.proofs.Common.{◌≡◌, ◌≢◌, inl, inr, ℕ, ◌+◌, ◌≤◌, ◌<◌, ◌&&◌, ◌==◌, List, [], ◌∷◌, length, get_or, take, drop, Option, Some, None, Bool, true, false, not, if◌then◌else◌, IsTrue, Result, Ok, Err, refl, sym, ◌∙◌, ap, subst, arith, length-take, length-drop, get_or-drop, add-zero, zero-add}
use Rattle.std.proofs.lemmas.Bool.{eq-eqb}
use Rattle.zb_disk.specs.View.{Telling, View, Torn, Follows, IsStill, LeavesOnly, overwrite}
use Rattle.zb_disk.specs.Calls.{IsWrite}
use Rattle.zb_disk.proofs.Images.{torn_stands}
use Rattle.zb_disk.proofs.Moments.{weakened, still_then, still_trans}
use Rattle.zb_store.specs.Layout.{Standing, Opened, IsWhole, slot, base_of, gate_of, opened, elected, stands, end_of, body, open_gate}
use Rattle.zb_store.specs.Steps.{WentThrough, PlaceStop, IsPlaced}
use Rattle.zb_store.specs.Store.{Place, place_of, IsHeld, IsReady, formatted, IsTornLayout, FormatStop, IsLaidOut, both_gates_open, AllWhole, WasThere, IsFound, IsSettled, OpenStop}
use Rattle.zb_store.proofs.Slots.{part, slot_part, slot_byte, overwrite_holds, overwrite_torn, opened_none, stands_in}
use Rattle.zb_store.proofs.Images.{holds_body, alone}
use Rattle.zb_store.proofs.Stages.{written_byte}
use Rattle.zb_store.proofs.Replacing.{length-body}
use Rattle.zb_store.proofs.Going.{one_through, one_stopped, through_then, stopped_then, causes, still_through, still_stopped, one_asked, asked_then}

-- what a `format` writes: a body from the second byte on, a closed gate further on, and then the first byte
module _ (h : ℕ) (seen bytes : List ℕ) (some : 0 < length bytes) (fits : 1 + length bytes ≤ h) where
  laid : List ℕ
  laid = overwrite (overwrite (overwrite seen 1 bytes) h (0 ∷ [])) 0 (165 ∷ [])

  long_first : 1 + length bytes ≤ length (overwrite seen 1 bytes)
  long_first =
      omega (
        arith,
        ap length (overwrite_holds seen 1 bytes),
        length-take (length bytes) (drop 1 (overwrite seen 1 bytes)),
        length-drop 1 (overwrite seen 1 bytes),
      )

  pub laid_body : take (length bytes)
      (drop 1 (overwrite (overwrite (overwrite seen 1 bytes) h (0 ∷ [])) 0 (165 ∷ []))) ≡ bytes
  laid_body =
      let torn2 = overwrite_torn (overwrite seen 1 bytes) h (0 ∷ []) in
      let torn3 = overwrite_torn (overwrite (overwrite seen 1 bytes) h (0 ∷ [])) 0 (165 ∷ []) in
      ap (λ (l : List ℕ). take (length bytes) l) (torn3.after 1 (omega arith))
      ∙ part 1 (length bytes) (1 + length bytes) (overwrite (overwrite seen 1 bytes) h (0 ∷ []))
      (overwrite seen 1 bytes) (omega arith) (torn2.before (1 + length bytes) fits long_first) ∙ overwrite_holds
      seen 1 bytes

  pub laid_back : drop h (overwrite (overwrite (overwrite seen 1 bytes) h (0 ∷ [])) 0 (165 ∷ []))
      ≡ drop h (overwrite (overwrite seen 1 bytes) h (0 ∷ []))
  laid_back = let torn3 = overwrite_torn (overwrite (overwrite seen 1 bytes) h (0 ∷ [])) 0 (165 ∷ []) in torn3.after h
      (omega arith)

  pub laid_gate : get_or (drop h (overwrite (overwrite (overwrite seen 1 bytes) h (0 ∷ [])) 0 (165 ∷ []))) 0 0 ≡ 0
  laid_gate =
      ap (λ (l : List ℕ). get_or l 0 0) laid_back ∙ get_or-drop h (overwrite (overwrite seen 1 bytes) h (0 ∷ [])) 0 0
      ∙ ap (λ (i : ℕ). get_or (overwrite (overwrite seen 1 bytes) h (0 ∷ [])) i 0) (add-zero h) ∙ written_byte h 0
      (overwrite seen 1 bytes)

  pub laid_long : 0 < length (drop h (overwrite (overwrite (overwrite seen 1 bytes) h (0 ∷ [])) 0 (165 ∷ [])))
  laid_long =
      subst (λ (l : List ℕ). 0 < length l) (sym laid_back)
      (omega (
        arith,
        ap length (overwrite_holds (overwrite seen 1 bytes) h (0 ∷ [])),
        length-take 1 (drop h (overwrite (overwrite seen 1 bytes) h (0 ∷ []))),
      ))

second_is : (x : List ℕ) → slot true x ≡ drop 65536 x
unfolding slot
second_is x = refl

-- bytes that are a formatted disk
laid_whole : (x content : List ℕ) → gate_of (slot false x) ≡ 165
    → take (length (body 1 content)) (drop 1 (slot false x)) ≡ body 1 content → gate_of (slot true x) ≡ 0 → 0
    < length (slot true x) → length content ≤ 49152 → IsWhole (formatted content) x
laid_whole x content gate there second some small =
    let got = holds_body false 1 content (slot false x) gate there (omega arith) small in
    record {
      stands = alone (formatted content) x got.0 (λ open_it. omega arith);
      other_gate = some;
      end = omega (arith, got.1);
      end_closed = λ open_end. let zero_there : get_or (slot false x) (end_of (formatted content)) 0
          ≡ 0 = ap (λ (i : ℕ). get_or (slot false x) i 0) (add-zero (13 + length content)) ∙ got.2 in omega arith;
    }

formatted_whole : (seen bytes content : List ℕ) → bytes ≡ body 1 content → length content ≤ 49152 → (laid : List ℕ)
    → laid ≡ overwrite (overwrite (overwrite seen 1 bytes) 65536 (0 ∷ [])) 0 (165 ∷ [])
    → IsWhole (formatted content) laid × (gate_of (slot true laid) ≡ 0)
formatted_whole seen bytes content bytes_are small x is =
    let n_is : length bytes ≡ 13 + length content = ap length bytes_are ∙ length-body 1 content in
    let some : 0 < length bytes = omega (arith, n_is) in
    let fits : 1 + length bytes ≤ 65536 = omega (arith, n_is) in
    let gate : gate_of (slot false x) ≡ 165 =
    slot_byte false 0 x (omega arith) ∙ ap (λ (i : ℕ). get_or x i 0) (zero-add 0) ∙ ap (λ (l : List ℕ). get_or l 0 0)
    is ∙ written_byte 0 165 (overwrite (overwrite seen 1 bytes) 65536 (0 ∷ [])) in
    let there : take (length bytes) (drop 1 (slot false x)) ≡ bytes =
    slot_part false 1 (length bytes) x fits ∙ ap (λ (i : ℕ). take (length bytes) (drop i x)) (zero-add 1) ∙ ap
    (λ (l : List ℕ). take (length bytes) (drop 1 l)) is ∙ laid_body 65536 seen bytes some fits in
    let spelled = subst (λ (l : List ℕ). take (length l) (drop 1 (slot false x)) ≡ l) bytes_are there in
    let second : gate_of (slot true x)
    ≡ 0 = ap (λ (l : List ℕ). get_or l 0 0) (second_is x ∙ ap (λ (l : List ℕ). drop 65536 l) is) ∙ laid_gate 65536
    seen bytes some fits in
    let long = subst (λ (l : List ℕ). 0 < length l) (sym (second_is x ∙ ap (λ (l : List ℕ). drop 65536 l) is))
    (laid_long 65536 seen bytes some fits) in
    (laid_whole x content gate spelled second long small, second)

none_stands : (c : List ℕ) → gate_of (slot false c) ≢ 165 → gate_of (slot true c) ≢ 165 → stands c ≡ None
unfolding stands elected
none_stands c first second = ap (λ (x : Option Opened). elected x (opened (slot true c)))
    (opened_none (slot false c) first) ∙ ap (λ (x : Option Opened). elected None x) (opened_none (slot true c) second)

front_stands : (seen bytes : List ℕ) → get_or (overwrite seen 1 bytes) 0 0 ≡ get_or seen 0 0
front_stands [] bytes = refl
front_stands (b ∷ seen) bytes = refl

torn_same : (at n : ℕ) (c : List ℕ) → Torn at n c c
torn_same at n c = record { before = λ m until within. refl; after = λ m from. refl; no_shorter = omega arith }

-- bytes that are a formatted disk but for the first gate, which may be torn
module _ (seen bytes content x c : List ℕ) (bytes_are : bytes ≡ body 1 content) (small : length content ≤ 49152)
    (is : x ≡ overwrite (overwrite seen 1 bytes) 65536 (0 ∷ [])) (torn : Torn 0 1 x c) where
  many : length bytes ≡ 13 + length content
  many = ap length bytes_are ∙ length-body 1 content

  long_body : 1 + length bytes ≤ length (overwrite seen 1 bytes)
  long_body =
      omega (
        arith,
        many,
        ap length (overwrite_holds seen 1 bytes),
        length-take (length bytes) (drop 1 (overwrite seen 1 bytes)),
        length-drop 1 (overwrite seen 1 bytes),
      )

  wide_disk : 65537 ≤ length x
  wide_disk = subst (λ (l : List ℕ). 65537 ≤ length l) (sym is)
      (omega (
        arith,
        ap length (overwrite_holds (overwrite seen 1 bytes) 65536 (0 ∷ [])),
        length-take 1 (drop 65536 (overwrite (overwrite seen 1 bytes) 65536 (0 ∷ []))),
        length-drop 65536 (overwrite (overwrite seen 1 bytes) 65536 (0 ∷ [])),
      ))

  second_shut : gate_of (slot true c) ≡ 0
  second_shut =
      slot_byte true 0 c (omega arith) ∙ torn_stands 0 1 x c torn 65536 (inr (omega arith)) (omega (arith, wide_disk))
      ∙ ap (λ (l : List ℕ). get_or l 65536 0) is ∙ written_byte 65536 0 (overwrite seen 1 bytes)

  first_gate : gate_of (slot false c) ≡ get_or c 0 0
  first_gate = slot_byte false 0 c (omega arith)

  pub shut_none : get_or c 0 0 ≢ 165 → stands c ≡ None
  shut_none shut = none_stands c (λ open_it. shut (sym first_gate ∙ open_it))
      (λ open_it. let zero_there = second_shut in omega arith)

  pub open_whole : get_or c 0 0 ≡ 165 → IsWhole (formatted content) c
  open_whole open_it =
      let n = length bytes in
      let torn2 = overwrite_torn (overwrite seen 1 bytes) 65536 (0 ∷ []) in
      let there : take n (drop 1 (slot false c)) ≡ bytes =
      slot_part false 1 n c (omega (arith, many)) ∙ ap (λ (i : ℕ). take n (drop i c)) (zero-add 1) ∙ ap
      (λ (l : List ℕ). take n l) (torn.after 1 (omega arith)) ∙ ap (λ (l : List ℕ). take n (drop 1 l)) is
      ∙ part 1 n (1 + n) (overwrite (overwrite seen 1 bytes) 65536 (0 ∷ [])) (overwrite seen 1 bytes) (omega arith)
      (torn2.before (1 + n) (omega (arith, many)) long_body) ∙ overwrite_holds seen 1 bytes in
      let spelled = subst (λ (l : List ℕ). take (length l) (drop 1 (slot false c)) ≡ l) bytes_are there in
      let long = subst (λ (l : List ℕ). 0 < length l) (sym (second_is c))
      (omega (arith, length-drop 65536 c, wide_disk, torn.no_shorter)) in
      laid_whole c content (first_gate ∙ open_it) spelled second_shut long small

  pub same_front : get_or x 0 0 ≡ get_or seen 0 0
  same_front =
      ap (λ (l : List ℕ). get_or l 0 0) is
      ∙ torn_stands 65536 1 (overwrite seen 1 bytes) (overwrite (overwrite seen 1 bytes) 65536 (0 ∷ []))
      (overwrite_torn (overwrite seen 1 bytes) 65536 (0 ∷ [])) 0 (inl (omega arith)) (omega (arith, long_body))
      ∙ front_stands seen bytes

-- a `format` that stopped
module _ (tells : Telling) (bytes : List ℕ) (v0 v1 v2 v3 : View) where
  as_layout : (content : List ℕ) → bytes ≡ body 1 content → Follows (IsTornLayout (length bytes)) v0.images v3.images
      → Follows (IsTornLayout (13 + length content)) v0.images v3.images
  as_layout content bytes_are it = subst (λ (n : ℕ). Follows (IsTornLayout n) v0.images v3.images)
      (ap length bytes_are ∙ length-body 1 content) it

  pub format_unwritten : {T E : Type 0} (e : E) → IsWrite {T = T} {E = E} tells 1 bytes v0 v3 (Err e)
      → IsLaidOut {T = T} {E = E} tells bytes v0 v3 (Err e)
  format_unwritten e write = record {
    held = tt;
    through = tt;
    stopped = λ content bytes_are small told steady.
        let same = write.refused steady in
        FormatStop.unsynced 0 (omega arith) (one_stopped write.counted)
        (as_layout content bytes_are
        (λ c image. (c, same.images c image, (c, torn_same 1 (length bytes) c, torn_same 65536 1 c))));
    cause = write.counted.cause;
    asked = one_asked write.counted;
  }

  second_stop : {T E : Type 0} (x : T) → IsWrite {T = T} {E = E} tells 1 bytes v0 v1 (Ok x) → (content : List ℕ)
      → bytes ≡ body 1 content → PlaceStop tells 65536 (0 ∷ []) v1 v3 → FormatStop tells content v0 v3
  second_stop x write content bytes_are (PlaceStop.before_write stop same) =
      FormatStop.unsynced 1 (omega arith) (stopped_then 1 0 v0 v1 v3 (one_through write.counted) stop)
      (as_layout content bytes_are
      (λ c image. let from = write.torn c (same.images c image) in
      (from.0, from.1, (c, from.2, torn_same 65536 1 c))))
  second_stop x write content bytes_are (PlaceStop.before_sync stop open_range) =
      FormatStop.unsynced 2 (omega arith) (stopped_then 1 1 v0 v1 v3 (one_through write.counted) stop)
      (as_layout content bytes_are
      (λ c image. let e = open_range.torn c image in let from = write.torn e.0 e.1 in
      (from.0, from.1, (e.0, from.2, e.2))))

  pub format_shut : {T E : Type 0} (x : T) (e : E) → IsWrite {T = T} {E = E} tells 1 bytes v0 v1 (Ok x)
      → IsPlaced {T = T} {E = E} tells (base_of true) (0 ∷ []) v1 v3 (Err e)
      → IsLaidOut {T = T} {E = E} tells bytes v0 v3 (Err e)
  format_shut x e write second = record {
    held = tt;
    through = tt;
    stopped = λ content bytes_are small told steady. second_stop x write content bytes_are
        (second.stopped told steady);
    cause = causes v0.faults v1.faults v3.faults x (Err e) write.counted.cause second.cause;
    asked = asked_then v0 v1 v3 (one_asked write.counted) second.asked;
  }

  first_stop : {T E : Type 0} (x y : T) → IsWrite {T = T} {E = E} tells 1 bytes v0 v1 (Ok x)
      → IsPlaced {T = T} {E = E} tells (base_of true) (0 ∷ []) v1 v2 (Ok y) → IsTrue tells.content
      → (content : List ℕ) → bytes ≡ body 1 content → length content ≤ 49152 → PlaceStop tells 0 (165 ∷ []) v2 v3
      → FormatStop tells content v0 v3
  first_stop x y write second told content bytes_are small (PlaceStop.before_write stop same) =
      let is : v2.seen ≡ overwrite (overwrite v0.seen 1 bytes) 65536 (0 ∷ []) =
      second.seen told ∙ ap (λ (l : List ℕ). overwrite l 65536 (0 ∷ [])) (write.written told) in
      let torn = torn_same 0 1 v2.seen in
      FormatStop.before_gate
      (stopped_then 3 0 v0 v2 v3 (through_then 1 2 v0 v1 v2 (one_through write.counted) second.through) stop)
      (λ shut c image. subst (λ (l : List ℕ). stands l ≡ None) (sym (second.durable c (same.images c image)))
      (shut_none v0.seen bytes content v2.seen v2.seen bytes_are small is torn
      (λ open_it. shut
      (sym (same_front v0.seen bytes content v2.seen v2.seen bytes_are small is torn) ∙ open_it))))
  first_stop x y write second told content bytes_are small (PlaceStop.before_sync stop open_range) =
      let is : v2.seen ≡ overwrite (overwrite v0.seen 1 bytes) 65536 (0 ∷ []) =
      second.seen told ∙ ap (λ (l : List ℕ). overwrite l 65536 (0 ∷ [])) (write.written told) in
      FormatStop.opening
      (stopped_then 3 1 v0 v2 v3 (through_then 1 2 v0 v1 v2 (one_through write.counted) second.through) stop)
      (λ c image. open_whole v0.seen bytes content v2.seen c bytes_are small is (from_seen c image))
      (λ c image. shut_none v0.seen bytes content v2.seen c bytes_are small is (from_seen c image))
    where
      from_seen : (c : List ℕ) → v3.images c → Torn 0 1 v2.seen c
      from_seen c image = let e = open_range.torn c image in subst (λ (d : List ℕ). Torn 0 1 d c)
          (second.durable e.0 e.1) e.2

module _ (tells : Telling) (bytes : List ℕ) (v0 v1 v2 v3 : View) where
  laid_held : {T E : Type 0} (x y z : T) → IsWrite {T = T} {E = E} tells 1 bytes v0 v1 (Ok x)
      → IsPlaced {T = T} {E = E} tells (base_of true) (0 ∷ []) v1 v2 (Ok y)
      → IsPlaced {T = T} {E = E} tells (base_of false) (165 ∷ []) v2 v3 (Ok z)
      → (content : List ℕ) → bytes ≡ body 1 content → length content ≤ 49152 → IsTrue tells.content
      → IsHeld (formatted content) v3
  laid_held x y z write second first content bytes_are small told =
      let seen : v3.seen ≡ overwrite (overwrite (overwrite v0.seen 1 bytes) 65536 (0 ∷ [])) 0 (165 ∷ []) =
      first.seen told ∙ ap (λ (l : List ℕ). overwrite l 0 (165 ∷ []))
      (second.seen told ∙ ap (λ (l : List ℕ). overwrite l 65536 (0 ∷ [])) (write.written told)) in
      let got = formatted_whole v0.seen bytes content bytes_are small v3.seen seen in
      record {
        whole = λ c image. subst (IsWhole (formatted content)) (sym (first.durable c image)) got.0;
        closed = λ c image open_it. let zero_there : gate_of (slot true c)
            ≡ 0 = ap (λ (l : List ℕ). gate_of (slot true l)) (first.durable c image) ∙ got.1 in omega arith;
      }

  pub laid_out : {T E : Type 0} (x y : T) (r : Result T E) → IsWrite {T = T} {E = E} tells 1 bytes v0 v1 (Ok x)
      → IsPlaced {T = T} {E = E} tells (base_of true) (0 ∷ []) v1 v2 (Ok y)
      → IsPlaced {T = T} {E = E} tells (base_of false) (165 ∷ []) v2 v3 r
      → IsLaidOut {T = T} {E = E} tells bytes v0 v3 r
  laid_out {T} {E} x y (Ok z) write second first = record {
    held = laid_held x y z write second first;
    through = through_then 3 2 v0 v2 v3 (through_then 1 2 v0 v1 v2 (one_through write.counted) second.through)
        first.through;
    stopped = tt;
    cause = causes v0.faults v2.faults v3.faults y (Ok z)
        (causes v0.faults v1.faults v2.faults x (Ok y) write.counted.cause second.cause) first.cause;
    asked = asked_then v0 v2 v3 (asked_then v0 v1 v2 (one_asked write.counted) second.asked) first.asked;
  }
  laid_out {T} {E} x y (Err e) write second first = record {
    held = tt;
    through = tt;
    stopped = λ content bytes_are small told steady. first_stop tells bytes v0 v1 v2 v3 x y write second told content
        bytes_are small (first.stopped told steady);
    cause = causes v0.faults v2.faults v3.faults y (Err e)
        (causes v0.faults v1.faults v2.faults x (Ok y) write.counted.cause second.cause) first.cause;
    asked = asked_then v0 v2 v3 (asked_then v0 v1 v2 (one_asked write.counted) second.asked) first.asked;
  }

-- what stands is one thing
pub same_stand : (c : List ℕ) (s t : Standing) → stands c ≡ Some s → stands c ≡ Some t → s ≡ t
same_stand c s t p q = let e : Some s ≡ Some t = sym p ∙ q in cc

true_right : (t : Bool) → (t && true) ≡ t
true_right true = refl
true_right false = refl

pub both_are : (seen : List ℕ) (s : Standing) → stands seen ≡ Some s → both_gates_open seen
    ≡ (gate_of (slot (not s.second) seen) == open_gate)
both_are seen s is = by_slot s.second (eq-eqb (gate_of (slot s.second seen)) open_gate (stands_in s seen is).1.is.gate)
  where
    by_slot : (b : Bool) → (gate_of (slot b seen) == open_gate) ≡ true → both_gates_open seen
        ≡ (gate_of (slot (not b) seen) == open_gate)
    by_slot false here = ap (λ t. t && (gate_of (slot true seen) == open_gate)) here
    by_slot true here = ap (λ t. (gate_of (slot false seen) == open_gate) && t) here ∙ true_right
        (gate_of (slot false seen) == open_gate)

-- an `open`, after its reads
module _ (tells : Telling) (v0 v1 v2 : View) (still : IsStill v0 v1)
    (reads : IsTrue tells.content → v0.images v0.seen) (only_now : (c : List ℕ) → v0.since v0.moment c → v0.images c)
  where
    whole_seen : (s : Standing) → AllWhole v0 → IsTrue tells.content → stands v0.seen ≡ Some s → IsWhole s v1.seen
    whole_seen s all told is =
        let w = all v0.seen (reads told) in
        let same : w.0 ≡ s = same_stand v0.seen w.0 s w.1.stands is in
        subst (λ (l : List ℕ). IsWhole s l) (sym still.same.seen)
        (subst (λ (t : Standing). IsWhole t v0.seen) same w.1)

    found : (s : Standing) (second other : Bool) → AllWhole v0 → IsTrue tells.content → stands v0.seen ≡ Some s
        → second
        ≡ s.second → other ≡ (gate_of (slot (not s.second) v0.seen) == open_gate) → IsFound s second other v1
    found s second other all told is place gate = record {
      is = whole_seen s all told is;
      place = place;
      gate = gate ∙ ap (λ (l : List ℕ). gate_of (slot (not s.second) l) == open_gate) (sym still.same.seen);
    }

    pub open_moments : {T E : Type 0} (r : Result T E) (s : Standing) (second other : Bool)
        → IsSettled tells second other v1 v2 r → stands v0.seen ≡ Some s → second ≡ s.second → other
        ≡ (gate_of (slot (not s.second) v0.seen) == open_gate)
        → AllWhole v0 → IsTrue tells.content → LeavesOnly v0 v2 (WasThere v0)
    open_moments r s second other settled is place gate all told =
        still_then v0 v1 v2 (WasThere v0) still
        (weakened v1 v2 (WasThere v1) (WasThere v0)
        (λ c w. (w.0, w.1, (w.2.0, still.same.images w.2.0 w.2.1, w.2.2)))
        (settled.moments s (found s second other all told is place gate)
        (λ c image. let w = all c (still.same.images c image) in (w.0, w.1, (c, image, w.1))) told))

    pub open_ready : {T E : Type 0} (x : T) (s t : Standing) (second other : Bool) (store : Place)
        → IsSettled {T = T} {E = E} tells second other v1 v2 (Ok x) → stands v0.seen ≡ Some s → second ≡ s.second
        → other ≡ (gate_of (slot (not s.second) v0.seen) == open_gate)
        → store ≡ place_of s → AllWhole v0 → IsTrue tells.content → stands v0.seen ≡ Some t → IsReady store t v2
    open_ready x s t second other store settled is place gate store_is all told also =
        let same : s ≡ t = same_stand v0.seen s t is also in
        subst (λ (u : Standing). IsReady store u v2) same
        (record { place = store_is; held = settled.held s (found s second other all told is place gate) told })

    pub open_through : {T E : Type 0} (x : T) (s : Standing) (second other : Bool)
        → IsSettled {T = T} {E = E} tells second other v1 v2 (Ok x) → stands v0.seen ≡ Some s → other
        ≡ (gate_of (slot (not s.second) v0.seen) == open_gate)
        → WentThrough tells (if both_gates_open v0.seen then 3 else 1) v0 v2
    open_through x s second other settled is gate =
        still_through (if both_gates_open v0.seen then 3 else 1) v0 v1 v2 still
        (subst (λ b. WentThrough tells (if b then 3 else 1) v1 v2) (gate ∙ sym (both_are v0.seen s is))
        settled.through)

    later_stop : (s : Standing) → OpenStop tells s v1 v2 → OpenStop tells s v0 v2
    later_stop s (OpenStop.reading off s2) = OpenStop.reading (λ told. sym (still.off 0) ∙ off told)
        (still_trans v0 v1 v2 still s2)
    later_stop s (OpenStop.not_synced stop same) = OpenStop.not_synced (still_stopped 0 v0 v1 v2 still stop) (record {
      seen = same.seen ∙ still.same.seen;
      images = λ c image. still.same.images c (same.images c image);
      images_kept = λ c image. same.images_kept c (still.same.images_kept c image);
    })
    later_stop s (OpenStop.both_open wide stop both) =
        OpenStop.both_open (ap both_gates_open (sym still.same.seen) ∙ wide) (still_stopped 1 v0 v1 v2 still stop) both
    later_stop s (OpenStop.closing wide stop closing) =
        OpenStop.closing (ap both_gates_open (sym still.same.seen) ∙ wide) (still_stopped 2 v0 v1 v2 still stop)
        closing

    pub open_stopped : {T E : Type 0} (e : E) (s t : Standing) (second other : Bool)
        → IsSettled {T = T} {E = E} tells second other v1 v2 (Err e) → stands v0.seen ≡ Some s → second ≡ s.second
        → other ≡ (gate_of (slot (not s.second) v0.seen) == open_gate)
        → AllWhole v0 → IsTrue tells.content → IsTrue tells.steady → stands v0.seen ≡ Some t → OpenStop tells t v0 v2
    open_stopped e s t second other settled is place gate all told steady also =
        let same : s ≡ t = same_stand v0.seen s t is also in
        subst (λ (u : Standing). OpenStop tells u v0 v2) same
        (later_stop s (settled.stopped s (found s second other all told is place gate) told steady))
