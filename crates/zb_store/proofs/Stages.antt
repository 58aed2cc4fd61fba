-- What an image represents at each stage of a call of the store.
use Rattle.std.proofs.Common.{◌≡◌, ◌≢◌, inl, inr, ℕ, ◌+◌, ◌-◌, ◌≤◌, ◌<◌, List, [], ◌∷◌, ◌++◌, length, get_or, take, drop, Bool, true, false, not, IsTrue, Result, Ok, refl, sym, ◌∙◌, ap, subst, arith, length-take, length-drop, length-append, get_or-take, get_or-drop, add-zero}
use Rattle.std.proofs.lemmas.List.{get_or_at}
use Rattle.std.proofs.lemmas.Bool.{cases_eq}
use Rattle.std.specs.Int.{to_le_bytes, w16}
use Rattle.zb_disk.specs.View.{Telling, View, Torn, LeavesOnly, overwrite}
use Rattle.zb_disk.proofs.Moments.{weakened}
use Rattle.zb_store.specs.Layout.{Standing, IsWhole, slot, base_of, gate_of, end_of, entry_body, open_gate}
use Rattle.zb_store.specs.Steps.{staged, gated, GateStop, IsStage, IsGated}
use Rattle.zb_store.specs.Store.{IsHeld, appended, IsWholeEither, entry_gate, AppendStop}
use Rattle.zb_store.proofs.Slots.{byte_of, torn_slot, torn_other, slot_part, slot_byte, long_by_first, overwrite_holds, overwrite_torn, torn_again, torn_over, in_disk, stands_in}
use Rattle.zb_store.proofs.Entries.{extent-append}
use Rattle.zb_store.proofs.Images.{end_is, keeps, adds, alone}

pub not_not : (b : Bool) → not (not b) ≡ b
not_not true = refl
not_not false = refl

-- a whole image is longer than the first slot
pub long : (s : Standing) (d : List ℕ) → IsWhole s d → 65536 ≤ length d
long s d whole = let more = long_by_first s.second d (omega (arith, whole.end)) whole.other_gate in omega arith

-- a byte beside the range stands
pub stands_before : (at n k : ℕ) (d c : List ℕ) → Torn at n d c → k < at → k < length d → get_or c k 0 ≡ get_or d k 0
stands_before at n k d c torn before within =
    byte_of k (k + 1) c d (omega arith) (torn.before (k + 1) (omega arith) (omega arith))

-- the byte of a write of one byte
pub written_byte : (at x : ℕ) (d : List ℕ) → get_or (overwrite d at (x ∷ [])) at 0 ≡ x
written_byte at x d =
    ap (λ (i : ℕ). get_or (overwrite d at (x ∷ [])) i 0) (sym (add-zero at)) ∙ sym
    (get_or-drop at (overwrite d at (x ∷ [])) 0 0) ∙ sym
    (get_or-take 1 (drop at (overwrite d at (x ∷ []))) 0 0 (omega arith))
    ∙ ap (λ (l : List ℕ). get_or l 0 0) (overwrite_holds d at (x ∷ []))

pub length-entry_body : (payload : List ℕ) → length (entry_body payload) ≡ 3 + length payload
unfolding entry_body
length-entry_body payload =
    omega (
      arith,
      length-append (to_le_bytes w16 (length payload) ++ payload) (0 ∷ []),
      length-append (to_le_bytes w16 (length payload)) payload,
    )

entry_last : (payload : List ℕ) → get_or (entry_body payload) (2 + length payload) 0 ≡ 0
unfolding entry_body
entry_last payload = get_or_at (to_le_bytes w16 (length payload) ++ payload) 0 [] 0 (2 + length payload)
    (length-append (to_le_bytes w16 (length payload)) payload)

-- the entry is written after its closed gate
module _ (s : Standing) (payload d c : List ℕ) (whole : IsWhole s d)
    (shut : gate_of (slot (not s.second) d) ≢ open_gate)
    (fits : end_of s + 1 + length (entry_body payload) ≤ 65536)
    (torn : Torn (entry_gate s + 1) (length (entry_body payload)) d c) where
  b : Bool
  b = s.second

  at_slot : Torn (base_of s.second + (end_of s + 1)) (length (entry_body payload)) d c
  at_slot = let place : entry_gate s + 1 ≡ base_of s.second + (end_of s + 1) =
      omega arith in subst (λ i. Torn i (length (entry_body payload)) d c) place torn

  here : Torn (end_of s + 1) (length (entry_body payload)) (slot s.second d) (slot s.second c)
  here = torn_slot s.second (end_of s + 1) (length (entry_body payload)) d c fits (long s d whole) at_slot

  there : slot (not s.second) c ≡ slot (not s.second) d
  there = torn_other s.second (end_of s + 1) (length (entry_body payload)) d c fits (long s d whole) at_slot

  gate_stands : get_or (slot s.second c) (end_of s) 0 ≡ get_or (slot s.second d) (end_of s) 0
  gate_stands = stands_before (end_of s + 1) (length (entry_body payload)) (end_of s) (slot s.second d)
      (slot s.second c) here (omega arith) whole.end

  pub append_first : IsWhole s c
  append_first =
      let x = slot s.second d in
      let y = slot s.second c in
      let it = (stands_in s d whole.stands).1 in
      let front : take (end_of s) y ≡ take (end_of s) x = here.before (end_of s) (omega arith) (end_is s x it).1 in
      let closed : get_or y (end_of s) 0 ≢ open_gate = λ open_it. whole.end_closed (sym gate_stands ∙ open_it) in
      record {
        stands = alone s c (keeps s x y it front here.no_shorter closed)
            (λ open_it. shut (ap gate_of (sym there) ∙ open_it));
        other_gate = subst (λ (l : List ℕ). 0 < length l) (sym there) whole.other_gate;
        end = omega (arith, whole.end, here.no_shorter);
        end_closed = closed;
      }

  pub append_first_other : gate_of (slot (not s.second) c) ≢ open_gate
  append_first_other open_it = shut (ap gate_of (sym there) ∙ open_it)

  pub append_first_gate : get_or c (entry_gate s) 0 ≢ open_gate
  append_first_gate open_it =
      whole.end_closed (sym gate_stands ∙ slot_byte s.second (end_of s) c (omega arith) ∙ open_it)

-- and then its gate
module _ (s : Standing) (payload d c : List ℕ) (whole : IsWhole s d)
    (shut : gate_of (slot (not s.second) d) ≢ open_gate)
    (fits : end_of s + 1 + length (entry_body payload) ≤ 65536)
    (torn : Torn (entry_gate s) 1 (staged (entry_gate s) (entry_body payload) d) c) where
  m : List ℕ
  m = staged (entry_gate s) (entry_body payload) d

  torn_m : Torn (entry_gate s + 1) (length (entry_body payload)) d m
  unfolding m
  torn_m = overwrite_torn d (entry_gate s + 1) (entry_body payload)

  whole_m : IsWhole s m
  whole_m = append_first s payload d m whole shut fits torn_m

  first : Torn (end_of s + 1) (length (entry_body payload)) (slot s.second d) (slot s.second m)
  first = here s payload d m whole shut fits torn_m

  second : Torn (end_of s) 1 (slot s.second m) (slot s.second c)
  unfolding m
  second = torn_slot s.second (end_of s) 1 m c (omega arith) (long s m whole_m) torn

  other : slot (not s.second) c ≡ slot (not s.second) d
  unfolding m
  other = torn_other s.second (end_of s) 1 m c (omega arith) (long s m whole_m) torn ∙ there s payload d m whole shut
      fits torn_m

  pub append_second_other : gate_of (slot (not s.second) c) ≢ open_gate
  append_second_other open_it = shut (ap gate_of (sym other) ∙ open_it)

  fronts : take (end_of s) (slot s.second c) ≡ take (end_of s) (slot s.second d)
  fronts =
      let it = (stands_in s d whole.stands).1 in
      second.before (end_of s) (omega arith) (omega (arith, whole_m.end)) ∙ first.before (end_of s) (omega arith)
      (end_is s (slot s.second d) it).1

  longer : length (slot s.second d) ≤ length (slot s.second c)
  longer = omega (arith, first.no_shorter, second.no_shorter)

  holds : take (length (entry_body payload)) (drop (end_of s + 1) (slot s.second c)) ≡ entry_body payload
  unfolding m
  holds =
      let n = length (entry_body payload) in
      let place : base_of s.second + (end_of s + 1) ≡ entry_gate s + 1 = omega arith in
      ap (λ (l : List ℕ). take n l) (second.after (end_of s + 1) (omega arith)) ∙ slot_part s.second (end_of s + 1) n
      m (omega arith)
      ∙ ap (λ (i : ℕ). take n (drop i m)) place ∙ overwrite_holds d (entry_gate s + 1) (entry_body payload)

  gate_is : get_or (slot s.second c) (end_of s) 0 ≡ get_or c (entry_gate s) 0
  gate_is = slot_byte s.second (end_of s) c (omega arith)

  pub append_shut : get_or c (entry_gate s) 0 ≢ open_gate → IsWhole s c
  append_shut closed =
      let x = slot s.second d in
      let y = slot s.second c in
      let it = (stands_in s d whole.stands).1 in
      let end_shut : get_or y (end_of s) 0 ≢ open_gate = λ open_it. closed (sym gate_is ∙ open_it) in
      record {
        stands = alone s c (keeps s x y it fronts longer end_shut) append_second_other;
        other_gate = subst (λ (l : List ℕ). 0 < length l) (sym other) whole.other_gate;
        end = omega (arith, whole.end, longer);
        end_closed = end_shut;
      }

  pub append_open : length s.payloads < 32 → length payload ≤ 481 → get_or c (entry_gate s) 0 ≡ open_gate
      → IsWhole (appended s payload) c
  append_open few small open_it =
      let x = slot s.second d in
      let y = slot s.second c in
      let n = length (entry_body payload) in
      let it = (stands_in s d whole.stands).1 in
      let n_is = length-entry_body payload in
      let there_is : n ≤ length y - (end_of s + 1) =
      omega (arith, ap length holds, length-take n (drop (end_of s + 1) y), length-drop (end_of s + 1) y) in
      let end_is : end_of (appended s payload) ≡ end_of s + 1 + (2 + length payload) =
      omega (arith, extent-append s.payloads payload) in
      let last : get_or y (end_of s + 1 + (2 + length payload)) 0 ≡ 0 =
      sym (get_or-drop (end_of s + 1) y (2 + length payload) 0) ∙ sym
      (get_or-take n (drop (end_of s + 1) y) (2 + length payload) 0 (omega arith)) ∙ ap
      (λ (l : List ℕ). get_or l (2 + length payload) 0) holds ∙ entry_last payload in
      record {
        stands =
            alone (appended s payload) c (adds s x y it fronts longer payload few small (gate_is ∙ open_it) holds)
            append_second_other;
        other_gate = subst (λ (l : List ℕ). 0 < length l) (sym other) whole.other_gate;
        end = omega arith;
        end_closed = λ open_end. let zero_there : get_or y (end_of (appended s payload)) 0
            ≡ 0 = ap (λ (i : ℕ). get_or y i 0) end_is ∙ last in omega arith;
      }

-- the whole of an `append`
module _ (tells : Telling) (s : Standing) (payload : List ℕ) (v0 v1 : View) (held : IsHeld s v0)
    (reads : v0.images v0.seen)
    (fits : end_of s + 1 + length (entry_body payload) ≤ 65536) (few : length s.payloads < 32)
    (small : length payload ≤ 481) where
  seen_whole : IsWhole s v0.seen
  seen_whole = held.whole v0.seen reads

  seen_shut : gate_of (slot (not s.second) v0.seen) ≢ open_gate
  seen_shut = held.closed v0.seen reads

  second_whole : (c : List ℕ) → Torn (entry_gate s) 1 (staged (entry_gate s) (entry_body payload) v0.seen) c
      → IsWholeEither s (appended s payload) c
  second_whole c torn = elim (cases_eq (get_or c (entry_gate s) 0) open_gate) [
    | inl open_it ↦ inr (append_open s payload v0.seen c seen_whole seen_shut fits torn few small open_it)
    | inr closed ↦ inl (append_shut s payload v0.seen c seen_whole seen_shut fits torn closed)
  ]

  stage_whole : (c : List ℕ) → IsStage (entry_gate s) (entry_body payload) v0 c
      → IsWholeEither s (appended s payload) c
  stage_whole c (inl from) =
      inl (append_first s payload from.0 c (held.whole from.0 from.1) (held.closed from.0 from.1) fits from.2)
  stage_whole c (inr torn) = second_whole c torn

  pub append_moments : {T E : Type 0} (r : Result T E) → IsTrue tells.content
      → IsGated tells (entry_gate s) (entry_body payload) v0 v1 r
      → LeavesOnly v0 v1 (IsWholeEither s (appended s payload))
  append_moments r told done = weakened v0 v1 (IsStage (entry_gate s) (entry_body payload) v0)
      (IsWholeEither s (appended s payload)) stage_whole (done.past told)

  opened_torn : Torn (entry_gate s) 1 (staged (entry_gate s) (entry_body payload) v0.seen)
      (gated (entry_gate s) (entry_body payload) v0.seen)
  opened_torn = overwrite_torn (staged (entry_gate s) (entry_body payload) v0.seen) (entry_gate s) (open_gate ∷ [])

  pub append_held : {T E : Type 0} (x : T) → IsTrue tells.content
      → IsGated {T = T} {E = E} tells (entry_gate s) (entry_body payload) v0 v1 (Ok x) → IsHeld (appended s payload) v1
  append_held x told done =
      let m = staged (entry_gate s) (entry_body payload) v0.seen in
      let is : (c : List ℕ) → v1.images c → c ≡ gated (entry_gate s) (entry_body payload) v0.seen =
      λ c image. done.durable c image ∙ done.seen told in
      let open_it = written_byte (entry_gate s) open_gate m in
      record {
        whole = λ c image. subst (IsWhole (appended s payload)) (sym (is c image))
            (append_open s payload v0.seen (gated (entry_gate s) (entry_body payload) v0.seen) seen_whole seen_shut
            fits opened_torn few small open_it);
        closed = λ c image. subst (λ (l : List ℕ). gate_of (slot (not s.second) l) ≢ open_gate) (sym (is c image))
            (append_second_other s payload v0.seen (gated (entry_gate s) (entry_body payload) v0.seen) seen_whole
            seen_shut fits opened_torn);
      }

  pub append_stopped : GateStop tells (entry_gate s) (entry_body payload) v0 v1 → AppendStop tells s payload v0 v1
  append_stopped (GateStop.before_bytes stop same) = AppendStop.not_begun 0 (omega arith) stop (record {
    whole = λ c image. held.whole c (same.images c image);
    closed = λ c image open_it. let whole = held.whole c (same.images c image) in whole.end_closed
        (slot_byte s.second (end_of s) c (omega arith) ∙ open_it);
  }) (λ c image. held.closed c (same.images c image))
  append_stopped (GateStop.bytes_unsynced stop torn) = AppendStop.not_begun 1 (omega arith) stop (record {
    whole = λ c image. let from = torn c image in append_first s payload from.0 c (held.whole from.0 from.1)
        (held.closed from.0 from.1) fits from.2;
    closed = λ c image. let from = torn c image in append_first_gate s payload from.0 c (held.whole from.0 from.1)
        (held.closed from.0 from.1) fits from.2;
  }) (λ c image. let from = torn c image in append_first_other s payload from.0 c (held.whole from.0 from.1)
      (held.closed from.0 from.1) fits from.2)
  append_stopped (GateStop.before_gate stop only) =
      let m = staged (entry_gate s) (entry_body payload) v0.seen in
      let torn = overwrite_torn v0.seen (entry_gate s + 1) (entry_body payload) in
      AppendStop.not_begun 2 (omega arith) stop (record {
        whole = λ c image. subst (IsWhole s) (sym (only c image))
            (append_first s payload v0.seen m seen_whole seen_shut fits torn);
        closed = λ c image. subst (λ (l : List ℕ). get_or l (entry_gate s) 0 ≢ open_gate) (sym (only c image))
            (append_first_gate s payload v0.seen m seen_whole seen_shut fits torn);
      }) (λ c image. subst (λ (l : List ℕ). gate_of (slot (not s.second) l) ≢ open_gate) (sym (only c image))
      (append_first_other s payload v0.seen m seen_whole seen_shut fits torn))
  append_stopped (GateStop.gate_unsynced stop seen only each) =
      let gate = entry_gate s in
      let m = staged gate (entry_body payload) v0.seen in
      let torn_m = overwrite_torn v0.seen (gate + 1) (entry_body payload) in
      let whole_m = append_first s payload v0.seen m seen_whole seen_shut fits torn_m in
      let inside = in_disk s.second (end_of s) m whole_m.end in
      let within : gate + 1 ≤ length m = omega arith in
      AppendStop.opening stop (record {
        unsynced = record {
          only = λ c image. subst (λ (l : List ℕ). Torn gate 1 l c) (sym seen)
              (torn_over gate (open_gate ∷ []) m c within (only c image));
          each = λ c torn. each c
              (torn_again gate 1 m v1.seen c (subst (λ (l : List ℕ). Torn gate 1 m l) (sym seen) opened_torn) torn);
        };
        reads = ap (λ (l : List ℕ). get_or l gate 0) seen ∙ written_byte gate open_gate m;
        committed = λ c image. append_open s payload v0.seen c seen_whole seen_shut fits (only c image) few small;
        not_committed = λ c image. append_shut s payload v0.seen c seen_whole seen_shut fits (only c image);
      }) (λ c image. append_second_other s payload v0.seen c seen_whole seen_shut fits (only c image))
