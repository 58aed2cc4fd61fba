-- What an image represents at each stage of a `put`, and where the other slot's gate is closed.
use Rattle.std.proofs.Common.{◌≡◌, ◌≢◌, inl, inr, ℕ, ◌+◌, ◌≤◌, ◌<◌, ◌^◌, List, [], ◌∷◌, ◌++◌, length, get_or, take, drop, Some, Bool, true, false, not, IsTrue, Result, Ok, Err, sym, ◌∙◌, ap, subst, arith, length-append, add-zero}
use Rattle.std.proofs.lemmas.Bool.{cases_eq}
use Rattle.std.specs.Int.{to_le_bytes, w32, w64}
use Rattle.zb_disk.specs.View.{Telling, View, Torn, Only, IsSame, LeavesOnly, overwrite}
use Rattle.zb_disk.proofs.Moments.{weakened, goes_through}
use Rattle.zb_store.specs.Layout.{Standing, IsWhole, slot, base_of, gate_of, stands, opened, elected, end_of, body, open_gate}
use Rattle.zb_store.specs.Steps.{WentThrough, TornFrom, staged, gated, GateStop, IsStage, IsGated, IsOpenRange, PlaceStop, IsPlaced}
use Rattle.zb_store.specs.Store.{IsHeld, replaced, IsWholeEither, IsBothOpen, IsGateClosing, other_gate, PutStop, IsReplacement, IsReplaced}
use Rattle.zb_store.proofs.Slots.{torn_slot, torn_other, slot_part, slot_byte, overwrite_holds, overwrite_torn, torn_again, torn_over, in_disk, IsIn, stands_in}
use Rattle.zb_store.proofs.Images.{holds_body, alone, newer}
use Rattle.zb_store.proofs.Stages.{not_not, long, stands_before, written_byte}
use Rattle.zb_store.proofs.Going.{through_then, stopped_then, causes, asked_then}

pub length-body : (generation : ℕ) (content : List ℕ) → length (body generation content) ≡ 13 + length content
unfolding body
length-body generation content =
    omega (
      arith,
      length-append ((to_le_bytes w64 generation ++ to_le_bytes w32 (length content)) ++ content)
          (0 ∷ []),
      length-append (to_le_bytes w64 generation ++ to_le_bytes w32 (length content)) content,
      length-append (to_le_bytes w64 generation) (to_le_bytes w32 (length content)),
    )

-- a write in the other slot leaves this one
module _ (s : Standing) (at n : ℕ) (d c : List ℕ) (whole : IsWhole s d) (fits : at + n ≤ 65536)
    (torn : Torn (other_gate s + at) n d c) where
  pub other_torn : Torn at n (slot (not s.second) d) (slot (not s.second) c)
  other_torn = torn_slot (not s.second) at n d c fits (long s d whole) torn

  pub same_slot : slot s.second c ≡ slot s.second d
  same_slot = subst (λ b. slot b c ≡ slot b d) (not_not s.second)
      (torn_other (not s.second) at n d c fits (long s d whole) torn)

  still_in : IsIn s (slot s.second c)
  still_in = subst (IsIn s) (sym same_slot) (stands_in s d whole.stands).1

  still_whole : stands c ≡ Some s → IsWhole s c
  still_whole stand = record {
    stands = stand;
    other_gate = omega (arith, whole.other_gate, other_torn.no_shorter);
    end = subst (λ (l : List ℕ). end_of s < length l) (sym same_slot) whole.end;
    end_closed = λ open_it. whole.end_closed (ap (λ (l : List ℕ). get_or l (end_of s) 0) (sym same_slot) ∙ open_it);
  }

  -- with the other gate closed it still stands
  pub stays : gate_of (slot (not s.second) c) ≢ open_gate → IsWhole s c
  stays shut = still_whole (alone s c still_in shut)

-- the other gate, torn where it was open: either it is open still, and nothing has changed, or it is closed
pub closing_whole : (s : Standing) (d c : List ℕ) → IsWhole s d → gate_of (slot (not s.second) d) ≡ open_gate
    → Torn (other_gate s) 1 d c → IsWhole s c
unfolding stands
closing_whole s d c whole was torn =
    let torn_at : Torn (other_gate s + 0) 1 d c = subst (λ i. Torn i 1 d c) (sym (add-zero (other_gate s))) torn in
    let y = slot (not s.second) d in
    let z = slot (not s.second) c in
    let there = other_torn s 0 1 d c whole (omega arith) torn_at in
    elim (cases_eq (gate_of z) open_gate) [
      | inr shut ↦ stays s 0 1 d c whole (omega arith) torn_at shut
      | inl open_it ↦
          let same : z ≡ y = first_same y z whole.other_gate there (open_it ∙ sym was) in
          still_whole s 0 1 d c whole (omega arith) torn_at
          (both s.second (same_slot s 0 1 d c whole (omega arith) torn_at) same ∙ whole.stands)
    ]
  where
    first_same : (y z : List ℕ) → 0 < length y → Torn 0 1 y z → gate_of z ≡ gate_of y → z ≡ y
    first_same [] z some t e = absurd (omega arith)
    first_same (a ∷ y) [] some t e = absurd (omega (arith, t.no_shorter))
    first_same (a ∷ y) (b ∷ z) some t e = ap (λ (x : ℕ). x ∷ z) e ∙ ap (λ (l : List ℕ). a ∷ l)
        (t.after 1 (omega arith))

    both : (b : Bool) → slot b c ≡ slot b d → slot (not b) c ≡ slot (not b) d
        → elected (opened (slot false c)) (opened (slot true c))
        ≡ elected (opened (slot false d)) (opened (slot true d))
    both false here there = ap (λ (l : List ℕ). elected (opened l) (opened (slot true c))) here ∙ ap
        (λ (l : List ℕ). elected (opened (slot false d)) (opened l)) there
    both true here there = ap (λ (l : List ℕ). elected (opened l) (opened (slot true c))) there ∙ ap
        (λ (l : List ℕ). elected (opened (slot false d)) (opened l)) here

-- the record is written after the other slot's closed gate
module _ (s : Standing) (content d c : List ℕ) (whole : IsWhole s d)
    (shut : gate_of (slot (not s.second) d) ≢ open_gate)
    (small : length content ≤ 49152) (torn : Torn (other_gate s + 1) (length (body (s.generation + 1) content)) d c)
  where
    fits : 1 + length (body (s.generation + 1) content) ≤ 65536
    fits = omega (arith, length-body (s.generation + 1) content)

    pub put_first_shut : gate_of (slot (not s.second) c) ≢ open_gate
    put_first_shut open_it =
        let there = other_torn s 1 (length (body (s.generation + 1) content)) d c whole fits torn in
        shut (sym
        (stands_before 1 (length (body (s.generation + 1) content)) 0 (slot (not s.second) d)
        (slot (not s.second) c) there (omega arith) whole.other_gate) ∙ open_it)

    pub put_first : IsWhole s c
    put_first = stays s 1 (length (body (s.generation + 1) content)) d c whole fits torn put_first_shut

    pub put_first_gate : get_or c (other_gate s) 0 ≢ open_gate
    put_first_gate open_it =
        put_first_shut
        (slot_byte (not s.second) 0 c (omega arith) ∙ ap (λ (i : ℕ). get_or c i 0) (add-zero (other_gate s)) ∙ open_it)

-- and then its gate
module _ (s : Standing) (content d c : List ℕ) (whole : IsWhole s d)
    (shut : gate_of (slot (not s.second) d) ≢ open_gate)
    (small : length content ≤ 49152)
    (torn : Torn (other_gate s) 1 (staged (other_gate s) (body (s.generation + 1) content) d) c) where
  m : List ℕ
  m = staged (other_gate s) (body (s.generation + 1) content) d

  torn_m : Torn (other_gate s + 1) (length (body (s.generation + 1) content)) d m
  unfolding m
  torn_m = overwrite_torn d (other_gate s + 1) (body (s.generation + 1) content)

  whole_m : IsWhole s m
  whole_m = put_first s content d m whole shut small torn_m

  torn_at : Torn (other_gate s + 0) 1 m c
  unfolding m
  torn_at = subst (λ i. Torn i 1 (staged (other_gate s) (body (s.generation + 1) content) d) c)
      (sym (add-zero (other_gate s))) torn

  there : Torn 0 1 (slot (not s.second) m) (slot (not s.second) c)
  there = other_torn s 0 1 m c whole_m (omega arith) torn_at

  same : slot s.second c ≡ slot s.second m
  same = same_slot s 0 1 m c whole_m (omega arith) torn_at

  gate_is : gate_of (slot (not s.second) c) ≡ get_or c (other_gate s) 0
  gate_is = slot_byte (not s.second) 0 c (omega arith) ∙ ap (λ (i : ℕ). get_or c i 0) (add-zero (other_gate s))

  pub put_shut : get_or c (other_gate s) 0 ≢ open_gate → IsWhole s c
  put_shut closed = stays s 0 1 m c whole_m (omega arith) torn_at (λ open_it. closed (sym gate_is ∙ open_it))

  holds : take (length (body (s.generation + 1) content)) (drop 1 (slot (not s.second) c))
      ≡ body (s.generation + 1) content
  unfolding m
  holds =
      let n = length (body (s.generation + 1) content) in
      ap (λ (l : List ℕ). take n l) (there.after 1 (omega arith)) ∙ slot_part (not s.second) 1 n m
      (omega (arith, length-body (s.generation + 1) content)) ∙ overwrite_holds d (other_gate s + 1)
      (body (s.generation + 1) content)

  pub put_open : s.generation + 1 < 2 ^ 64 → get_or c (other_gate s) 0 ≡ open_gate → IsWhole (replaced s content) c
      × (gate_of (slot s.second c) ≡ open_gate)
  put_open later open_it =
      let new = replaced s content in
      let y = slot (not s.second) c in
      let got = holds_body (not s.second) (s.generation + 1) content y (gate_is ∙ open_it) holds later small in
      let old_in : IsIn s (slot s.second c) = subst (IsIn s) (sym same) (stands_in s m whole_m.stands).1 in
      let old_there : IsIn s (slot (not (not s.second)) c) = subst (λ b. IsIn s (slot b c)) (sym (not_not s.second))
      old_in in (
        record {
          stands = newer new s c got.0 old_there (omega arith);
          other_gate = subst (λ b. 0 < length (slot b c)) (sym (not_not s.second)) (omega (arith, old_in.is.within));
          end = omega (arith, got.1);
          end_closed = λ open_end. let zero_there : get_or y (end_of new) 0
              ≡ 0 = ap (λ (i : ℕ). get_or y i 0) (add-zero (13 + length content)) ∙ got.2 in omega arith;
        },
        old_in.is.gate,
      )

-- what comes out of the first four calls of a `put`
module _ (tells : Telling) (s : Standing) (content : List ℕ) (v0 v1 : View) (held : IsHeld s v0)
    (reads : v0.images v0.seen)
    (small : length content ≤ 49152) (later : s.generation + 1 < 2 ^ 64) where
  bytes : List ℕ
  bytes = body (s.generation + 1) content

  seen_whole : IsWhole s v0.seen
  seen_whole = held.whole v0.seen reads

  seen_shut : gate_of (slot (not s.second) v0.seen) ≢ open_gate
  seen_shut = held.closed v0.seen reads

  stage_whole : (c : List ℕ) → IsStage (other_gate s) (body (s.generation + 1) content) v0 c
      → IsWholeEither s (replaced s content) c
  stage_whole c (inl from) =
      inl (put_first s content from.0 c (held.whole from.0 from.1) (held.closed from.0 from.1) small from.2)
  stage_whole c (inr torn) = elim (cases_eq (get_or c (other_gate s) 0) open_gate) [
    | inl open_it ↦ inr (put_open s content v0.seen c seen_whole seen_shut small torn later open_it).0
    | inr closed ↦ inl (put_shut s content v0.seen c seen_whole seen_shut small torn closed)
  ]

  pub put_opens : {T E : Type 0} (r : Result T E) → IsTrue tells.content
      → IsGated tells (other_gate s) (body (s.generation + 1) content) v0 v1 r
      → LeavesOnly v0 v1 (IsWholeEither s (replaced s content))
  put_opens r told done = weakened v0 v1 (IsStage (other_gate s) (body (s.generation + 1) content) v0)
      (IsWholeEither s (replaced s content)) stage_whole (done.past told)

  opened_torn : Torn (other_gate s) 1 (staged (other_gate s) (body (s.generation + 1) content) v0.seen)
      (gated (other_gate s) (body (s.generation + 1) content) v0.seen)
  opened_torn = overwrite_torn (staged (other_gate s) (body (s.generation + 1) content) v0.seen) (other_gate s)
      (open_gate ∷ [])

  -- both gates are open
  pub both_whole : {T E : Type 0} (x : T) → IsTrue tells.content
      → IsGated {T = T} {E = E} tells (other_gate s) (body (s.generation + 1) content) v0 v1 (Ok x)
      → IsWhole (replaced s content) v1.seen × (gate_of (slot (not (not s.second)) v1.seen) ≡ open_gate)
      × (get_or v1.seen (other_gate s) 0 ≡ open_gate) × Only v1.seen v1.images
  both_whole x told done =
      let m = staged (other_gate s) (body (s.generation + 1) content) v0.seen in
      let g = gated (other_gate s) (body (s.generation + 1) content) v0.seen in
      let is = done.seen told in
      let byte = written_byte (other_gate s) open_gate m in
      let got = put_open s content v0.seen g seen_whole seen_shut small opened_torn later byte in (
        subst (IsWhole (replaced s content)) (sym is) got.0,
        subst (λ b. gate_of (slot b v1.seen) ≡ open_gate) (sym (not_not s.second))
            (ap (λ (l : List ℕ). gate_of (slot s.second l)) is ∙ got.1),
        ap (λ (l : List ℕ). get_or l (other_gate s) 0) is ∙ byte,
        done.durable,
      )

  pub put_stopped : GateStop tells (other_gate s) (body (s.generation + 1) content) v0 v1
      → PutStop tells s content v0 v1
  put_stopped (GateStop.before_bytes stop same) = PutStop.not_begun 0 (omega arith) stop (record {
    whole = λ c image. held.whole c (same.images c image);
    closed = λ c image open_it. held.closed c (same.images c image)
        (slot_byte (not s.second) 0 c (omega arith) ∙ ap (λ (i : ℕ). get_or c i 0) (add-zero (other_gate s)) ∙
        open_it);
  })
  put_stopped (GateStop.bytes_unsynced stop torn) = PutStop.not_begun 1 (omega arith) stop (record {
    whole = λ c image. let from = torn c image in put_first s content from.0 c (held.whole from.0 from.1)
        (held.closed from.0 from.1) small from.2;
    closed = λ c image. let from = torn c image in put_first_gate s content from.0 c (held.whole from.0 from.1)
        (held.closed from.0 from.1) small from.2;
  })
  put_stopped (GateStop.before_gate stop only) =
      let m = staged (other_gate s) (body (s.generation + 1) content) v0.seen in
      let torn = overwrite_torn v0.seen (other_gate s + 1) (body (s.generation + 1) content) in
      PutStop.not_begun 2 (omega arith) stop (record {
        whole = λ c image. subst (IsWhole s) (sym (only c image))
            (put_first s content v0.seen m seen_whole seen_shut small torn);
        closed = λ c image. subst (λ (l : List ℕ). get_or l (other_gate s) 0 ≢ open_gate) (sym (only c image))
            (put_first_gate s content v0.seen m seen_whole seen_shut small torn);
      })
  put_stopped (GateStop.gate_unsynced stop seen only each) =
      let gate = other_gate s in
      let m = staged gate (body (s.generation + 1) content) v0.seen in
      let torn_m = overwrite_torn v0.seen (gate + 1) (body (s.generation + 1) content) in
      let whole_m = put_first s content v0.seen m seen_whole seen_shut small torn_m in
      let within : gate + 1 ≤ length m = omega (arith, in_disk (not s.second) 0 m whole_m.other_gate) in
      PutStop.opening stop (record {
        unsynced = record {
          only = λ c image. subst (λ (l : List ℕ). Torn gate 1 l c) (sym seen)
              (torn_over gate (open_gate ∷ []) m c within (only c image));
          each = λ c torn. each c
              (torn_again gate 1 m v1.seen c (subst (λ (l : List ℕ). Torn gate 1 m l) (sym seen) opened_torn) torn);
        };
        reads = ap (λ (l : List ℕ). get_or l gate 0) seen ∙ written_byte gate open_gate m;
        committed =
            λ c image open_it.
            (put_open s content v0.seen c seen_whole seen_shut small (only c image) later open_it).0;
        not_committed = λ c image. put_shut s content v0.seen c seen_whole seen_shut small (only c image);
      })

-- the other gate is closed, where what stands is all synced
module _ (tells : Telling) (s : Standing) (v0 v1 : View) (only : Only v0.seen v0.images) (reads : v0.images v0.seen)
    (whole : IsWhole s v0.seen) (was : gate_of (slot (not s.second) v0.seen) ≡ open_gate) where
  torn_whole : (c : List ℕ) → TornFrom v0.images (other_gate s) 1 c → IsWhole s c
  torn_whole c from =
      closing_whole s v0.seen c whole was
      (subst (λ (d : List ℕ). Torn (other_gate s) 1 d c) (only from.0 from.1) from.2)

  pub closes : {T E : Type 0} (r : Result T E) → IsPlaced tells (other_gate s) (0 ∷ []) v0 v1 r
      → LeavesOnly v0 v1 (IsWhole s)
  closes r done = weakened v0 v1 (TornFrom v0.images (other_gate s) 1) (IsWhole s) torn_whole done.past

  pub closed_held : {T E : Type 0} (x : T) → IsTrue tells.content
      → IsPlaced {T = T} {E = E} tells (other_gate s) (0 ∷ []) v0 v1 (Ok x) → IsHeld s v1
  closed_held x told done =
      let is : (c : List ℕ) → v1.images c → c ≡ overwrite v0.seen (other_gate s) (0 ∷ []) =
      λ c image. done.durable c image ∙ done.seen told in
      let torn = overwrite_torn v0.seen (other_gate s) (0 ∷ []) in
      let byte = written_byte (other_gate s) 0 v0.seen in
      record {
        whole = λ c image. subst (IsWhole s) (sym (is c image))
            (closing_whole s v0.seen (overwrite v0.seen (other_gate s) (0 ∷ [])) whole was torn);
        closed = λ c image open_it.
            let zero_there : gate_of (slot (not s.second) c) ≡ 0 =
            slot_byte (not s.second) 0 c (omega arith) ∙ ap (λ (i : ℕ). get_or c i 0) (add-zero (other_gate s)) ∙ ap
            (λ (l : List ℕ). get_or l (other_gate s) 0) (is c image) ∙ byte in
            omega arith;
      }

  pub closing_of : IsOpenRange (other_gate s) (0 ∷ []) v0 v1 → IsGateClosing (other_gate s) s v1
  closing_of open_range =
      let gate = other_gate s in
      let within : gate + 1 ≤ length v0.seen = omega (arith, in_disk (not s.second) 0 v0.seen whole.other_gate) in
      let torn = overwrite_torn v0.seen gate (0 ∷ []) in
      let from : (c : List ℕ) → v1.images c → Torn gate 1 v0.seen c = λ c image. let f =
      open_range.torn c image in subst (λ (d : List ℕ). Torn gate 1 d c) (only f.0 f.1) f.2 in
      record {
        unsynced = record {
          only = λ c image. subst (λ (l : List ℕ). Torn gate 1 l c) (sym open_range.seen)
              (torn_over gate (0 ∷ []) v0.seen c within (from c image));
          each = λ c t. open_range.opens v0.seen c reads
              (torn_again gate 1 v0.seen v1.seen c
              (subst (λ (l : List ℕ). Torn gate 1 v0.seen l) (sym open_range.seen) torn) t);
        };
        reads = ap (λ (l : List ℕ). get_or l gate 0) open_range.seen ∙ written_byte gate 0 v0.seen;
        whole = λ c image. closing_whole s v0.seen c whole was (from c image);
      }

  pub both_open : IsSame v0 v1 → IsBothOpen (base_of s.second) (other_gate s) s v1
  both_open same =
      let seen = same.seen in
      let here : get_or v0.seen (base_of s.second) 0 ≡ open_gate =
      ap (λ (i : ℕ). get_or v0.seen i 0) (sym (add-zero (base_of s.second))) ∙ sym
      (slot_byte s.second 0 v0.seen (omega arith)) ∙ (stands_in s v0.seen whole.stands).1.is.gate in
      let there : get_or v0.seen (other_gate s) 0 ≡ open_gate =
      ap (λ (i : ℕ). get_or v0.seen i 0) (sym (add-zero (other_gate s))) ∙ sym
      (slot_byte (not s.second) 0 v0.seen (omega arith)) ∙ was in
      record {
        synced = λ c image. only c (same.images c image) ∙ sym seen;
        new_open = ap (λ (l : List ℕ). get_or l (base_of s.second) 0) seen ∙ here;
        old_open = ap (λ (l : List ℕ). get_or l (other_gate s) 0) seen ∙ there;
        whole = subst (IsWhole s) (sym seen) whole;
      }

-- a `put`
module _ (tells : Telling) (second : Bool) (bytes : List ℕ) (v0 v1 v2 : View)
    (reads0 : IsTrue tells.content → v0.images v0.seen) (reads1 : IsTrue tells.content → v1.images v1.seen) where
  as_gated : {T E : Type 0} (s : Standing) (content : List ℕ) (r : Result T E) → IsReplacement s content second bytes
      → IsGated tells (base_of second) bytes v0 v1 r → IsGated tells (other_gate s) (body (s.generation + 1) content)
      v0 v1 r
  as_gated s content r it done =
      subst (λ (b : Bool). IsGated tells (base_of b) (body (s.generation + 1) content) v0 v1 r) it.place
      (subst (λ (l : List ℕ). IsGated tells (base_of second) l v0 v1 r) it.bytes_are done)

  as_placed : {T E : Type 0} (s : Standing) (content : List ℕ) (r : Result T E) → IsReplacement s content second bytes
      → IsPlaced tells (base_of (not second)) (0 ∷ []) v1 v2 r → IsPlaced tells (other_gate (replaced s content))
      (0 ∷ []) v1 v2 r
  as_placed s content r it done = subst (λ (b : Bool). IsPlaced tells (base_of (not b)) (0 ∷ []) v1 v2 r) it.place done

  pub replace_stopped : {T E : Type 0} (e : E) → IsGated {T = T} {E = E} tells (base_of second) bytes v0 v1 (Err e)
      → IsReplaced {T = T} {E = E} tells second bytes v0 v1 (Err e)
  replace_stopped {T} {E} e done = let failed : Result T E = Err e in record {
    moments = λ s content it held told. put_opens tells s content v0 v1 held (reads0 told) it.small it.later failed
        told (as_gated s content failed it done);
    held = tt;
    through = tt;
    stopped = λ s content it held told steady. put_stopped tells s content v0 v1 held (reads0 told) it.small it.later
        ((as_gated s content failed it done).stopped told steady);
    cause = done.cause;
    asked = done.asked;
  }

  last_moments : {T E : Type 0} (x : T) (r : Result T E) (s : Standing) (content : List ℕ)
      → IsGated {T = T} {E = E} tells (base_of second) bytes v0 v1 (Ok x)
      → IsPlaced tells (base_of (not second)) (0 ∷ []) v1 v2 r
      → IsReplacement s content second bytes → IsHeld s v0 → IsTrue tells.content
      → LeavesOnly v0 v2 (IsWholeEither s (replaced s content))
  last_moments {T} {E} x r s content first second' it held told =
      let went : Result T E = Ok x in
      let opens = as_gated s content went it first in
      let both = both_whole tells s content v0 v1 held (reads0 told) it.small it.later x told opens in
      goes_through v0 v1 v2 (IsWholeEither s (replaced s content))
      (put_opens tells s content v0 v1 held (reads0 told) it.small it.later went told opens)
      (weakened v1 v2 (IsWhole (replaced s content)) (IsWholeEither s (replaced s content)) (λ c it. inr it)
      (closes tells (replaced s content) v1 v2 both.3 (reads1 told) both.0 both.1 r
      (as_placed s content r it second')))

  pub replace_done : {T E : Type 0} (x : T) (r : Result T E) → IsGated {T = T} {E = E} tells (base_of second) bytes v0
      v1 (Ok x) → IsPlaced {T = T} {E = E} tells (base_of (not second)) (0 ∷ []) v1 v2 r
      → IsReplaced {T = T} {E = E} tells second bytes v0 v2 r
  replace_done {T} {E} x (Ok y) first last = let went : Result T E = Ok x in let done : Result T E = Ok y in record {
    moments = λ s content it held told. last_moments x done s content first last it held told;
    held = λ s content it held told.
        let both = both_whole tells s content v0 v1 held (reads0 told) it.small it.later x told
        (as_gated s content went it first) in
        closed_held tells (replaced s content) v1 v2 both.3 (reads1 told) both.0 both.1 y told
        (as_placed s content done it last);
    through = through_then 4 2 v0 v1 v2 first.through last.through;
    stopped = tt;
    cause = causes v0.faults v1.faults v2.faults x (Ok y) first.cause last.cause;
    asked = asked_then v0 v1 v2 first.asked last.asked;
  }
  replace_done {T} {E} x (Err e) first last = let went : Result T E = Ok x in let done : Result T E = Err e in record {
    moments = λ s content it held told. last_moments x done s content first last it held told;
    held = tt;
    through = tt;
    stopped = λ s content it held told steady.
        let both = both_whole tells s content v0 v1 held (reads0 told) it.small it.later x told
        (as_gated s content went it first) in
        last_stop s content both.0 both.1 both.3 (reads1 told) first.through
        ((as_placed s content done it last).stopped told steady);
    cause = causes v0.faults v1.faults v2.faults x (Err e) first.cause last.cause;
    asked = asked_then v0 v1 v2 first.asked last.asked;
  }
    where
      last_stop : (s : Standing) (content : List ℕ) → IsWhole (replaced s content) v1.seen
          → gate_of (slot (not (not s.second)) v1.seen) ≡ open_gate → Only v1.seen v1.images → v1.images v1.seen
          → WentThrough tells 4 v0 v1
          → PlaceStop tells (other_gate (replaced s content)) (0 ∷ []) v1 v2 → PutStop tells s content v0 v2
      last_stop s content whole was only reads through (PlaceStop.before_write stop unchanged) =
          PutStop.both_open (stopped_then 4 0 v0 v1 v2 through stop)
          (subst (λ b. IsBothOpen (other_gate s) (base_of b) (replaced s content) v2) (not_not s.second)
          (both_open tells (replaced s content) v1 v2 only reads whole was unchanged))
      last_stop s content whole was only reads through (PlaceStop.before_sync stop open_range) =
          PutStop.closing (stopped_then 4 1 v0 v1 v2 through stop)
          (subst (λ b. IsGateClosing (base_of b) (replaced s content) v2) (not_not s.second)
          (closing_of tells (replaced s content) v1 v2 only reads whole was open_range))
