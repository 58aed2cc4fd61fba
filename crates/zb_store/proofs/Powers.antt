-- What the power leaves on a disk in memory after a commit that a stop or a failure ended.
use Rattle.std.proofs.Common.{◌≡◌, ◌≢◌, ◌⊎◌, inl, inr, ℕ, zero, suc, ◌+◌, ◌-◌, ◌≤◌, ◌<◌, ◌==◌, ◌&&◌, List, [], ◌∷◌, length, get_or, Bool, true, false, not, nat_le, if◌then◌else◌, refl, sym, ◌∙◌, ap, subst, arith, add-zero}
use Rattle.std.proofs.lemmas.Bool.{false≢true, cases_lt, le-leb, leb-true, lt-ltb, le-ltb, eq-eqb, ne_eqb, eqb-true}
use Rattle.std.proofs.lemmas.List.{get_or_past}
use Rattle.zb_disk.specs.declared.memory.Arming.TheVariants.{Unarmed, Stop, Fail}
use Rattle.zb_base.specs.Outside.{risen}
use Rattle.zb_disk.specs.View.{Telling, View, Torn, Only, IsUnsynced, overwrite}
use Rattle.zb_disk.specs.Memory.{Medium, IsImage, refuses, will_refuse, off_after, is_stopped, powered, settled, torn_by, memory_tells, memory_view}
use Rattle.zb_disk.specs.MemoryLaws.{image_seen}
use Rattle.zb_disk.proofs.Calls.{off_now, refuses_none}
use Rattle.zb_disk.proofs.Images.{torn_stands}
use Rattle.zb_disk.proofs.Tearing.{settled_image, settled_byte}
use Rattle.zb_store.specs.Layout.{Standing, IsWhole, slot, base_of, gate_of, end_of, open_gate}
use Rattle.zb_store.specs.Steps.{WentThrough, StoppedAfter, StoppedWithin}
use Rattle.zb_store.specs.Store.{appended, replaced, IsGateOpening, IsBothOpen, IsGateClosing, IsUntouched, other_gate, both_gates_open, open_calls, AppendStop, PutStop, OpenStop, FormatStop}
use Rattle.zb_store.specs.Power.{reads_open, stop_commits, failure_commits, stop_opens_both, failure_opens_both, open_stop_leaves_both, open_failure_leaves_both, StopFell, FailureFell}
use Rattle.zb_store.proofs.Slots.{slot_byte, long_by_first, overwrite_torn, stands_in}
use Rattle.zb_store.proofs.Stages.{not_not, written_byte}

-- what reads once the power is back
left_is : (m : Medium) → (powered m).bytes ≡ settled m
unfolding powered
left_is m = refl

left_image : (m : Medium) → IsImage m.bytes m.written m.grown (powered m).bytes
left_image m = subst (λ (l : List ℕ). IsImage m.bytes m.written m.grown l) (sym (left_is m))
    (settled_image m (is_stopped m.arming))

-- a stop that falls after so many calls was armed for so many
stop_at : (calls n : ℕ) → ((k : ℕ) → k < n → nat_le calls k ≡ false) → nat_le calls n ≡ true → n ≡ calls
stop_at calls n before here = elim (cases_lt calls n) [
  | inl early ↦ absurd (false≢true (sym (before calls early) ∙ le-leb calls calls (omega arith)))
  | inr late ↦ omega (arith, leb-true calls n here)
]

module _ (n : ℕ) (old new : Medium) (stop : StoppedAfter memory_tells n (memory_view old) (memory_view new)) where
  stop_is : (calls : ℕ) → old.arming ≡ Stop calls → n ≡ calls
  stop_is calls armed = stop_at calls n (λ k low. ap (λ a. refuses a k) (sym armed) ∙ stop.foretold refl k low)
      (ap (λ a. refuses a n) (sym armed) ∙ stop.refused refl)

  now_off : (calls : ℕ) → old.arming ≡ Stop calls → is_stopped new.arming ≡ true
  now_off calls armed =
      let here = stop_is calls armed in
      sym (off_now new.arming) ∙ stop.off refl ∙ ap (λ a. off_after a (n + 1)) armed ∙ lt-ltb calls (n + 1)
      (omega arith)

  failure_is : (call : ℕ) → old.arming ≡ Fail call → n + 1 ≡ call
  failure_is call armed = eqb-true (n + 1) call (ap (λ a. refuses a n) (sym armed) ∙ stop.refused refl)

  now_on : (call : ℕ) → old.arming ≡ Fail call → is_stopped new.arming ≡ false
  now_on call armed = sym (off_now new.arming) ∙ stop.off refl ∙ ap (λ a. off_after a (n + 1)) armed

  now_spent : (call : ℕ) → old.arming ≡ Fail call → will_refuse new.arming ≡ false
  now_spent call armed =
      let here = failure_is call armed in
      refuses_none new.arming
      (λ k. stop.later refl k ∙ ap (λ a. refuses a (k + (n + 1))) armed ∙ ne_eqb (k + (n + 1) + 1) call
      (λ same. absurd (omega (arith, here, same))))

-- a disk that isn't off stands as it reads
as_read : (m : Medium) → is_stopped m.arming ≡ false → (powered m).bytes ≡ m.bytes
as_read m on = left_is m ∙ ap (λ b. if b then torn_by m.torn m.bytes m.written else m.bytes) on

-- the one gate that is unsynced, after a stop
gate_left : (torn : List ℕ) (written gate : ℕ) (m : Medium) → m.torn ≡ torn → is_stopped m.arming ≡ true
    → IsUnsynced gate 1 (memory_view m) → gate < length m.bytes → get_or m.bytes gate 0 ≡ written
    → (get_or (powered m).bytes gate 0 == open_gate) ≡ reads_open torn written
gate_left [] written gate m torn off one within reads =
    ap (λ (x : ℕ). x == open_gate) (
    ap (λ (l : List ℕ). get_or l gate 0)
    (left_is m ∙ ap (λ b. if b then torn_by m.torn m.bytes m.written else m.bytes) off ∙ ap
    (λ (p : List ℕ). torn_by p m.bytes m.written) torn)
    ∙ reads)
gate_left (b ∷ torn) written gate m is off one within reads =
    ap (λ (x : ℕ). x == open_gate) (
    ap (λ (l : List ℕ). get_or l gate 0)
    (left_is m ∙ settled_byte m gate one within off (omega (arith, ap (length {A = ℕ}) is)))
    ∙ written_byte gate (get_or m.torn 0 0) m.bytes ∙ ap (λ (l : List ℕ). get_or l 0 0) is)

-- a place that doesn't read 00 lies on the disk
on_disk : (bytes : List ℕ) (k : ℕ) → get_or bytes k 0 ≡ open_gate → k < length bytes
on_disk bytes k is = elim (cases_lt k (length bytes)) [
  | inl within ↦ within
  | inr past ↦ let none : get_or bytes k 0 ≡ 0 = get_or_past bytes k 0 past in absurd (omega arith)
]

longer : (s : Standing) (c : List ℕ) → IsWhole s c → 65536 < length c
longer s c whole = long_by_first s.second c (omega (arith, whole.end)) whole.other_gate

base_small : (b : Bool) → base_of b ≤ 65536
base_small false = omega arith
base_small true = omega arith

-- where a gate was opening, by how it reads
opening_left : (gate : ℕ) (s t : Standing) (m : Medium) → IsGateOpening gate s t (memory_view m) → (b : Bool)
    → (get_or (powered m).bytes gate 0 == open_gate) ≡ b → IsWhole (if b then t else s) (powered m).bytes
opening_left gate s t m it true is = it.committed (powered m).bytes (left_image m)
    (eqb-true (get_or (powered m).bytes gate 0) open_gate is)
opening_left gate s t m it false is = it.not_committed (powered m).bytes (left_image m)
    (λ open_it. false≢true (sym is ∙ eq-eqb (get_or (powered m).bytes gate 0) open_gate open_it))

-- what stands after a stop or a failure where the gate of the commit was opening
module _ (gate : ℕ) (s t : Standing) (old new : Medium)
    (stop : StoppedAfter memory_tells 3 (memory_view old) (memory_view new))
    (it : IsGateOpening gate s t (memory_view new)) where
  opening_gate : (calls : ℕ) → old.arming ≡ Stop calls → (get_or (powered new).bytes gate 0 == open_gate)
      ≡ reads_open old.torn open_gate
  opening_gate calls armed = gate_left old.torn open_gate gate new (stop.torn refl)
      (now_off 3 old new stop calls armed) it.unsynced (on_disk new.bytes gate it.reads) it.reads

  opening_stopped : (calls : ℕ) → old.arming ≡ Stop calls → IsWhole (if stop_commits calls old.torn then t
      else s) (powered new).bytes
  opening_stopped calls armed =
      subst (λ (k : ℕ). IsWhole (if stop_commits k old.torn then t else s) (powered new).bytes)
      (stop_is 3 old new stop calls armed)
      (opening_left gate s t new it (reads_open old.torn open_gate) (opening_gate calls armed))

  opening_failed : (call : ℕ) → old.arming ≡ Fail call → IsWhole (if failure_commits call then t
      else s) (powered new).bytes
  opening_failed call armed =
      subst (λ (k : ℕ). IsWhole (if failure_commits k then t else s) (powered new).bytes)
      (failure_is 3 old new stop call armed)
      (it.committed (powered new).bytes (left_image new)
      (ap (λ (l : List ℕ). get_or l gate 0) (as_read new (now_on 3 old new stop call armed)) ∙ it.reads))

-- what stands where the gate wasn't written
module _ (gate n : ℕ) (s t : Standing) (old new : Medium) (low : n < 3)
    (stop : StoppedAfter memory_tells n (memory_view old) (memory_view new))
    (it : IsUntouched gate s (memory_view new)) where
  early_stop : (k : ℕ) (torn : List ℕ) → k < 3 → stop_commits k torn ≡ false
  early_stop zero torn low = refl
  early_stop (suc zero) torn low = refl
  early_stop (suc (suc zero)) torn low = refl
  early_stop (suc (suc (suc k))) torn low = absurd (omega arith)

  untouched_stopped : (calls : ℕ) → old.arming ≡ Stop calls → IsWhole (if stop_commits calls old.torn then t
      else s) (powered new).bytes
  untouched_stopped calls armed =
      subst (λ (b : Bool). IsWhole (if b then t else s) (powered new).bytes)
      (sym (ap (λ (k : ℕ). stop_commits k old.torn) (sym (stop_is n old new stop calls armed)) ∙ early_stop n
      old.torn low))
      (it.whole (powered new).bytes (left_image new))

  untouched_failed : (call : ℕ) → old.arming ≡ Fail call → IsWhole (if failure_commits call then t
      else s) (powered new).bytes
  untouched_failed call armed =
      subst (λ (b : Bool). IsWhole (if b then t else s) (powered new).bytes)
      (sym (ap failure_commits (sym (failure_is n old new stop call armed)) ∙ le-ltb 3 (n + 1) (omega arith)))
      (it.whole (powered new).bytes (left_image new))

pub append_stands : (s : Standing) (payload : List ℕ) (old new : Medium) (calls : ℕ)
    → AppendStop memory_tells s payload (memory_view old) (memory_view new)
    → old.arming ≡ Stop calls → IsWhole (if stop_commits calls old.torn then appended s payload
    else s) (powered new).bytes
append_stands s payload old new calls (AppendStop.not_begun n low stop it shut) armed =
    untouched_stopped (base_of s.second + end_of s) n s (appended s payload) old new low stop it calls armed
append_stands s payload old new calls (AppendStop.opening stop it shut) armed =
    opening_stopped (base_of s.second + end_of s) s (appended s payload) old new stop it calls armed

pub append_failure_stands : (s : Standing) (payload : List ℕ) (old new : Medium) (call : ℕ)
    → AppendStop memory_tells s payload (memory_view old) (memory_view new)
    → old.arming ≡ Fail call → IsWhole (if failure_commits call then appended s payload else s) (powered new).bytes
append_failure_stands s payload old new call (AppendStop.not_begun n low stop it shut) armed =
    untouched_failed (base_of s.second + end_of s) n s (appended s payload) old new low stop it call armed
append_failure_stands s payload old new call (AppendStop.opening stop it shut) armed =
    opening_failed (base_of s.second + end_of s) s (appended s payload) old new stop it call armed

pub put_stands : (s : Standing) (content : List ℕ) (old new : Medium) (calls : ℕ)
    → PutStop memory_tells s content (memory_view old) (memory_view new)
    → old.arming ≡ Stop calls → IsWhole (if stop_commits calls old.torn then replaced s content
    else s) (powered new).bytes
put_stands s content old new calls (PutStop.not_begun n low stop it) armed =
    untouched_stopped (other_gate s) n s (replaced s content) old new low stop it calls armed
put_stands s content old new calls (PutStop.opening stop it) armed =
    opening_stopped (other_gate s) s (replaced s content) old new stop it calls armed
put_stands s content old new calls (PutStop.both_open stop it) armed =
    subst (λ (k : ℕ). IsWhole (if stop_commits k old.torn then replaced s content else s) (powered new).bytes)
    (stop_is 4 old new stop calls armed)
    (subst (IsWhole (replaced s content)) (sym (it.synced (powered new).bytes (left_image new))) it.whole)
put_stands s content old new calls (PutStop.closing stop it) armed =
    subst (λ (k : ℕ). IsWhole (if stop_commits k old.torn then replaced s content else s) (powered new).bytes)
    (stop_is 5 old new stop calls armed)
    (it.whole (powered new).bytes (left_image new))

pub put_failure_stands : (s : Standing) (content : List ℕ) (old new : Medium) (call : ℕ)
    → PutStop memory_tells s content (memory_view old) (memory_view new)
    → old.arming ≡ Fail call → IsWhole (if failure_commits call then replaced s content else s) (powered new).bytes
put_failure_stands s content old new call (PutStop.not_begun n low stop it) armed =
    untouched_failed (other_gate s) n s (replaced s content) old new low stop it call armed
put_failure_stands s content old new call (PutStop.opening stop it) armed =
    opening_failed (other_gate s) s (replaced s content) old new stop it call armed
put_failure_stands s content old new call (PutStop.both_open stop it) armed =
    subst (λ (k : ℕ). IsWhole (if failure_commits k then replaced s content else s) (powered new).bytes)
    (failure_is 4 old new stop call armed)
    (subst (IsWhole (replaced s content)) (sym (it.synced (powered new).bytes (left_image new))) it.whole)
put_failure_stands s content old new call (PutStop.closing stop it) armed =
    subst (λ (k : ℕ). IsWhole (if failure_commits k then replaced s content else s) (powered new).bytes)
    (failure_is 5 old new stop call armed)
    (it.whole (powered new).bytes (left_image new))

-- the gates of both slots, one of which is open
and_true : (b : Bool) → (b && true) ≡ b
and_true true = refl
and_true false = refl

gates_at : (b : Bool) (c : List ℕ) → gate_of (slot b c) ≡ open_gate → both_gates_open c
    ≡ (gate_of (slot (not b) c) == open_gate)
gates_at false c here = ap (λ (x : Bool). x && (gate_of (slot true c) == open_gate))
    (eq-eqb (gate_of (slot false c)) open_gate here)
gates_at true c here = ap (λ (x : Bool). (gate_of (slot false c) == open_gate) && x)
    (eq-eqb (gate_of (slot true c)) open_gate here) ∙ and_true (gate_of (slot false c) == open_gate)

base_gate : (b : Bool) (c : List ℕ) → gate_of (slot b c) ≡ get_or c (base_of b) 0
base_gate b c = slot_byte b 0 c (omega arith) ∙ ap (λ (i : ℕ). get_or c i 0) (add-zero (base_of b))

standing_gate : (s : Standing) (c : List ℕ) → IsWhole s c → gate_of (slot s.second c) ≡ open_gate
standing_gate s c whole = (stands_in s c whole.stands).1.is.gate

apart : (b : Bool) → (base_of b < base_of (not b)) ⊎ (base_of (not b) + 1 ≤ base_of b)
apart false = inl (omega arith)
apart true = inr (omega arith)

-- with one slot's gate open, by the place of the other's
gates_by : (b : Bool) (c : List ℕ) → get_or c (base_of b) 0 ≡ open_gate → both_gates_open c
    ≡ (get_or c (base_of (not b)) 0 == open_gate)
gates_by b c here = gates_at b c (base_gate b c ∙ here) ∙ ap (λ (x : ℕ). x == open_gate) (base_gate (not b) c)

gates_shut : (s : Standing) (c : List ℕ) → IsWhole s c → get_or c (base_of (not s.second)) 0 ≢ open_gate
    → both_gates_open c ≡ false
gates_shut s c whole shut = gates_by s.second c (sym (base_gate s.second c) ∙ standing_gate s c whole) ∙ ne_eqb
    (get_or c (base_of (not s.second)) 0) open_gate shut

-- while the new slot's gate is opening, the old slot's is open
module _ (s t : Standing) (m : Medium) (it : IsGateOpening (other_gate s) s t (memory_view m)) where
  old_open : (c : List ℕ) → IsImage m.bytes m.written m.grown c → get_or c (base_of s.second) 0 ≡ open_gate
  old_open c image =
      let gate = other_gate s in
      let shut = overwrite m.bytes gate (0 ∷ []) in
      let torn : Torn gate 1 m.bytes shut = overwrite_torn m.bytes gate (0 ∷ []) in
      let closed : get_or shut gate 0 ≡ 0 = written_byte gate 0 m.bytes in
      let whole = it.not_committed shut (it.unsynced.each shut torn) (λ open_it. absurd (omega arith)) in
      let long = longer t m.bytes (it.committed m.bytes (image_seen m.bytes m.written m.grown) it.reads) in
      let small = base_small s.second in
      torn_stands gate 1 m.bytes c (it.unsynced.only c image) (base_of s.second) (apart s.second) (omega arith)
      ∙ sym (torn_stands gate 1 m.bytes shut torn (base_of s.second) (apart s.second) (omega arith))
      ∙ sym (base_gate s.second shut) ∙ standing_gate s shut whole

pub append_gates : (s : Standing) (payload : List ℕ) (old new : Medium)
    → AppendStop memory_tells s payload (memory_view old) (memory_view new) → both_gates_open (powered new).bytes
    ≡ false
append_gates s payload old new (AppendStop.not_begun n low stop it shut) =
    let c = (powered new).bytes in
    gates_shut s c (it.whole c (left_image new))
    (λ open_it. shut c (left_image new) (base_gate (not s.second) c ∙ open_it))
append_gates s payload old new (AppendStop.opening stop it shut) =
    let c = (powered new).bytes in
    let b = get_or c (base_of s.second + end_of s) 0 == open_gate in
    by_either b (opening_left (base_of s.second + end_of s) s (appended s payload) new it b refl)
  where
    by_either : (b : Bool) → IsWhole (if b then appended s payload else s) (powered new).bytes
        → both_gates_open (powered new).bytes ≡ false
    by_either true whole = let c = (powered new).bytes in gates_shut (appended s payload) c whole
        (λ open_it. shut c (left_image new) (base_gate (not s.second) c ∙ open_it))
    by_either false whole = let c = (powered new).bytes in gates_shut s c whole
        (λ open_it. shut c (left_image new) (base_gate (not s.second) c ∙ open_it))

early_both : (k : ℕ) (torn : List ℕ) → k < 3 → stop_opens_both k torn ≡ false
early_both zero torn low = refl
early_both (suc zero) torn low = refl
early_both (suc (suc zero)) torn low = refl
early_both (suc (suc (suc k))) torn low = absurd (omega arith)

early_failure : (k : ℕ) → k < 3 → failure_opens_both (k + 1) ≡ false
early_failure zero low = refl
early_failure (suc zero) low = refl
early_failure (suc (suc zero)) low = refl
early_failure (suc (suc (suc k))) low = absurd (omega arith)

pub put_gates : (s : Standing) (content : List ℕ) (old new : Medium) (calls : ℕ)
    → PutStop memory_tells s content (memory_view old) (memory_view new) → old.arming ≡ Stop calls
    → both_gates_open (powered new).bytes ≡ stop_opens_both calls old.torn
put_gates s content old new calls (PutStop.not_begun n low stop it) armed =
    let c = (powered new).bytes in
    gates_shut s c (it.whole c (left_image new)) (it.closed c (left_image new)) ∙ sym (early_both n old.torn low) ∙ ap
    (λ (k : ℕ). stop_opens_both k old.torn) (stop_is n old new stop calls armed)
put_gates s content old new calls (PutStop.opening stop it) armed =
    let c = (powered new).bytes in
    gates_by s.second c (old_open s (replaced s content) new it c (left_image new)) ∙ opening_gate (other_gate s) s
    (replaced s content) old new stop it calls armed
    ∙ ap (λ (k : ℕ). stop_opens_both k old.torn) (stop_is 3 old new stop calls armed)
put_gates s content old new calls (PutStop.both_open stop it) armed =
    let c = (powered new).bytes in
    let is = it.synced c (left_image new) in
    gates_by s.second c (ap (λ (l : List ℕ). get_or l (base_of s.second) 0) is ∙ it.old_open)
    ∙ eq-eqb (get_or c (other_gate s) 0) open_gate (ap (λ (l : List ℕ). get_or l (other_gate s) 0) is ∙ it.new_open)
    ∙ ap (λ (k : ℕ). stop_opens_both k old.torn) (stop_is 4 old new stop calls armed)
put_gates s content old new calls (PutStop.closing stop it) armed =
    let c = (powered new).bytes in
    let long = longer (replaced s content) new.bytes (it.whole new.bytes (image_seen new.bytes new.written new.grown))
    in
    let small = base_small s.second in
    gates_by (not s.second) c
    (sym (base_gate (not s.second) c) ∙ standing_gate (replaced s content) c (it.whole c (left_image new)))
    ∙ ap (λ (b : Bool). get_or c (base_of b) 0 == open_gate) (not_not s.second)
    ∙ gate_left old.torn 0 (base_of s.second) new (stop.torn refl) (now_off 5 old new stop calls armed) it.unsynced
    (omega arith) it.reads
    ∙ ap (λ (k : ℕ). stop_opens_both k old.torn) (stop_is 5 old new stop calls armed)

pub put_failure_gates : (s : Standing) (content : List ℕ) (old new : Medium) (call : ℕ)
    → PutStop memory_tells s content (memory_view old) (memory_view new) → old.arming ≡ Fail call
    → both_gates_open (powered new).bytes ≡ failure_opens_both call
put_failure_gates s content old new call (PutStop.not_begun n low stop it) armed =
    let c = (powered new).bytes in
    gates_shut s c (it.whole c (left_image new)) (it.closed c (left_image new)) ∙ sym (early_failure n low) ∙ ap
    failure_opens_both (failure_is n old new stop call armed)
put_failure_gates s content old new call (PutStop.opening stop it) armed =
    let c = (powered new).bytes in
    let same = as_read new (now_on 3 old new stop call armed) in
    gates_by s.second c (old_open s (replaced s content) new it c (left_image new))
    ∙ eq-eqb (get_or c (other_gate s) 0) open_gate (ap (λ (l : List ℕ). get_or l (other_gate s) 0) same ∙ it.reads)
    ∙ ap failure_opens_both (failure_is 3 old new stop call armed)
put_failure_gates s content old new call (PutStop.both_open stop it) armed =
    let c = (powered new).bytes in
    let is = it.synced c (left_image new) in
    gates_by s.second c (ap (λ (l : List ℕ). get_or l (base_of s.second) 0) is ∙ it.old_open)
    ∙ eq-eqb (get_or c (other_gate s) 0) open_gate (ap (λ (l : List ℕ). get_or l (other_gate s) 0) is ∙ it.new_open)
    ∙ ap failure_opens_both (failure_is 4 old new stop call armed)
put_failure_gates s content old new call (PutStop.closing stop it) armed =
    let c = (powered new).bytes in
    let same = as_read new (now_on 5 old new stop call armed) in
    let shut : get_or c (base_of s.second) 0 ≡ 0 = ap (λ (l : List ℕ). get_or l (base_of s.second) 0) same ∙ it.reads
    in
    gates_by (not s.second) c
    (sym (base_gate (not s.second) c) ∙ standing_gate (replaced s content) c (it.whole c (left_image new)))
    ∙ ap (λ (b : Bool). get_or c (base_of b) 0 == open_gate) (not_not s.second)
    ∙ ne_eqb (get_or c (base_of s.second) 0) open_gate (λ open_it. absurd (omega arith))
    ∙ ap failure_opens_both (failure_is 5 old new stop call armed)

-- an `open` on a disk that isn't off: what stood still stands
open_stands_by : (s : Standing) (old new : Medium) → OpenStop memory_tells s (memory_view old) (memory_view new)
    → IsWhole s old.bytes → ((c : List ℕ) → IsImage old.bytes old.written old.grown c → c ≡ old.bytes)
    → off_after old.arming 0 ≡ false → IsWhole s (powered new).bytes
open_stands_by s old new (OpenStop.reading off still) whole only on = absurd (false≢true (sym on ∙ off refl))
open_stands_by s old new (OpenStop.not_synced stop same) whole only on =
    subst (IsWhole s) (sym (only (powered new).bytes (same.images (powered new).bytes (left_image new)))) whole
open_stands_by s old new (OpenStop.both_open wide stop it) whole only on =
    subst (IsWhole s) (sym (it.synced (powered new).bytes (left_image new))) it.whole
open_stands_by s old new (OpenStop.closing wide stop it) whole only on = it.whole (powered new).bytes (left_image new)

on_by_stop : (old : Medium) (calls : ℕ) → old.arming ≡ Stop calls → off_after old.arming 0 ≡ false
on_by_stop old calls armed = ap (λ a. off_after a 0) armed ∙ le-ltb calls 0 (omega arith)

on_by_failure : (old : Medium) (call : ℕ) → old.arming ≡ Fail call → off_after old.arming 0 ≡ false
on_by_failure old call armed = ap (λ a. off_after a 0) armed

pub open_stands : (s : Standing) (old new : Medium) (calls : ℕ)
    → OpenStop memory_tells s (memory_view old) (memory_view new) → IsWhole s old.bytes
    → Only old.bytes (memory_view old).images
    → old.arming ≡ Stop calls → IsWhole s (powered new).bytes
open_stands s old new calls stopped whole only armed = open_stands_by s old new stopped whole only
    (on_by_stop old calls armed)

pub open_failure_stands : (s : Standing) (old new : Medium) (call : ℕ)
    → OpenStop memory_tells s (memory_view old) (memory_view new) → IsWhole s old.bytes
    → Only old.bytes (memory_view old).images
    → old.arming ≡ Fail call → IsWhole s (powered new).bytes
open_failure_stands s old new call stopped whole only armed = open_stands_by s old new stopped whole only
    (on_by_failure old call armed)

both_by : (s : Standing) (m : Medium) → IsBothOpen (base_of s.second) (other_gate s) s (memory_view m)
    → both_gates_open (powered m).bytes ≡ true
both_by s m it =
    let c = (powered m).bytes in
    let is = it.synced c (left_image m) in
    gates_by s.second c (ap (λ (l : List ℕ). get_or l (base_of s.second) 0) is ∙ it.new_open) ∙ eq-eqb
    (get_or c (other_gate s) 0) open_gate (ap (λ (l : List ℕ). get_or l (other_gate s) 0) is ∙ it.old_open)

closing_by : (s : Standing) (m : Medium) → IsGateClosing (other_gate s) s (memory_view m)
    → both_gates_open (powered m).bytes ≡ (get_or (powered m).bytes (other_gate s) 0 == open_gate)
closing_by s m it = let c = (powered m).bytes in gates_by s.second c
    (sym (base_gate s.second c) ∙ standing_gate s c (it.whole c (left_image m)))

pub open_gates : (s : Standing) (old new : Medium) (calls : ℕ)
    → OpenStop memory_tells s (memory_view old) (memory_view new) → Only old.bytes (memory_view old).images
    → both_gates_open old.bytes ≡ true
    → old.arming ≡ Stop calls → both_gates_open (powered new).bytes ≡ open_stop_leaves_both calls old.torn
open_gates s old new calls (OpenStop.reading off still) only both armed =
    absurd (false≢true (sym (on_by_stop old calls armed) ∙ off refl))
open_gates s old new calls (OpenStop.not_synced stop same) only both armed =
    ap both_gates_open (only (powered new).bytes (same.images (powered new).bytes (left_image new))) ∙ both ∙ ap
    (λ (k : ℕ). open_stop_leaves_both k old.torn) (stop_is 0 old new stop calls armed)
open_gates s old new calls (OpenStop.both_open wide stop it) only both armed =
    both_by s new it ∙ ap (λ (k : ℕ). open_stop_leaves_both k old.torn) (stop_is 1 old new stop calls armed)
open_gates s old new calls (OpenStop.closing wide stop it) only both armed =
    let long = longer s new.bytes (it.whole new.bytes (image_seen new.bytes new.written new.grown)) in
    let small = base_small (not s.second) in
    closing_by s new it ∙ gate_left old.torn 0 (other_gate s) new (stop.torn refl)
    (now_off 2 old new stop calls armed) it.unsynced (omega arith) it.reads
    ∙ ap (λ (k : ℕ). open_stop_leaves_both k old.torn) (stop_is 2 old new stop calls armed)

pub open_failure_gates : (s : Standing) (old new : Medium) (call : ℕ)
    → OpenStop memory_tells s (memory_view old) (memory_view new) → Only old.bytes (memory_view old).images
    → both_gates_open old.bytes ≡ true
    → old.arming ≡ Fail call → both_gates_open (powered new).bytes ≡ open_failure_leaves_both call
open_failure_gates s old new call (OpenStop.reading off still) only both armed =
    absurd (false≢true (sym (on_by_failure old call armed) ∙ off refl))
open_failure_gates s old new call (OpenStop.not_synced stop same) only both armed =
    ap both_gates_open (only (powered new).bytes (same.images (powered new).bytes (left_image new))) ∙ both ∙ ap
    open_failure_leaves_both (failure_is 0 old new stop call armed)
open_failure_gates s old new call (OpenStop.both_open wide stop it) only both armed =
    both_by s new it ∙ ap open_failure_leaves_both (failure_is 1 old new stop call armed)
open_failure_gates s old new call (OpenStop.closing wide stop it) only both armed =
    let c = (powered new).bytes in
    let shut : get_or c (other_gate s) 0 ≡ 0 = ap (λ (l : List ℕ). get_or l (other_gate s) 0)
    (as_read new (now_on 2 old new stop call armed)) ∙ it.reads in
    closing_by s new it ∙ ne_eqb (get_or c (other_gate s) 0) open_gate (λ open_it. absurd (omega arith)) ∙ ap
    open_failure_leaves_both (failure_is 2 old new stop call armed)

-- where one gate was closed, one is
pub open_closed : (s : Standing) (old new : Medium) → OpenStop memory_tells s (memory_view old) (memory_view new)
    → Only old.bytes (memory_view old).images → both_gates_open old.bytes ≡ false
    → both_gates_open (powered new).bytes ≡ false
open_closed s old new (OpenStop.reading off still) only shut =
    ap both_gates_open (only (powered new).bytes (still.same.images (powered new).bytes (left_image new))) ∙ shut
open_closed s old new (OpenStop.not_synced stop same) only shut =
    ap both_gates_open (only (powered new).bytes (same.images (powered new).bytes (left_image new))) ∙ shut
open_closed s old new (OpenStop.both_open wide stop it) only shut = absurd (false≢true (sym shut ∙ wide))
open_closed s old new (OpenStop.closing wide stop it) only shut = absurd (false≢true (sym shut ∙ wide))

-- within how many calls each call of the store stopped
pub append_within : (tells : Telling) (s : Standing) (payload : List ℕ) (old new : View)
    → AppendStop tells s payload old new → StoppedWithin tells 4 old new
append_within tells s payload old new (AppendStop.not_begun n low stop it shut) = (n, omega arith, stop)
append_within tells s payload old new (AppendStop.opening stop it shut) = (3, omega arith, stop)

pub put_within : (tells : Telling) (s : Standing) (content : List ℕ) (old new : View)
    → PutStop tells s content old new → StoppedWithin tells 6 old new
put_within tells s content old new (PutStop.not_begun n low stop it) = (n, omega arith, stop)
put_within tells s content old new (PutStop.opening stop it) = (3, omega arith, stop)
put_within tells s content old new (PutStop.both_open stop it) = (4, omega arith, stop)
put_within tells s content old new (PutStop.closing stop it) = (5, omega arith, stop)

pub format_within : (tells : Telling) (content : List ℕ) (old new : View) → FormatStop tells content old new
    → StoppedWithin tells 5 old new
format_within tells content old new (FormatStop.unsynced n low stop it) = (n, omega arith, stop)
format_within tells content old new (FormatStop.before_gate stop it) = (3, omega arith, stop)
format_within tells content old new (FormatStop.opening stop it else_none) = (4, omega arith, stop)

some_calls : (wide : Bool) → 0 < (if wide then 3 else 1)
some_calls true = omega arith
some_calls false = omega arith

pub open_within : (s : Standing) (old new : Medium) → OpenStop memory_tells s (memory_view old) (memory_view new)
    → is_stopped old.arming ≡ false
    → StoppedWithin memory_tells (open_calls old.bytes) (memory_view old) (memory_view new)
open_within s old new (OpenStop.reading off still) on =
    absurd (false≢true (sym on ∙ sym (off_now old.arming) ∙ off refl))
open_within s old new (OpenStop.not_synced stop same) on = (0, some_calls (both_gates_open old.bytes), stop)
open_within s old new (OpenStop.both_open wide stop it) on =
    (1, subst (λ (b : Bool). 1 < (if b then 3 else 1)) (sym wide) (omega arith), stop)
open_within s old new (OpenStop.closing wide stop it) on =
    (2, subst (λ (b : Bool). 2 < (if b then 3 else 1)) (sym wide) (omega arith), stop)

-- what an armed disk does to a run of calls
module _ (run : ℕ) (old new : Medium) where
  pub stop_falls : (calls : ℕ) → StoppedWithin memory_tells run (memory_view old) (memory_view new) → old.arming
      ≡ Stop calls → StopFell calls run old new
  stop_falls calls (n, low, stop) armed =
      let here = stop_is n old new stop calls armed in
      record {
        within = omega (arith, here, low);
        made = stop.calls ∙ ap (λ (k : ℕ). risen old.calls (k + 1)) here;
        off = now_off n old new stop calls armed;
      }

  pub failure_falls : (call : ℕ) → StoppedWithin memory_tells run (memory_view old) (memory_view new) → old.arming
      ≡ Fail call → FailureFell call run old new
  failure_falls call (n, low, stop) armed =
      let here = failure_is n old new stop call armed in
      record {
        first = omega (arith, here);
        within = omega (arith, here, low);
        made = stop.calls ∙ ap (λ (k : ℕ). risen old.calls k) here;
        on = now_on n old new stop call armed;
        spent = now_spent n old new stop call armed;
      }

  pub unarmed_none : StoppedWithin memory_tells run (memory_view old) (memory_view new) → old.arming ≡ Unarmed → ⊥
  unarmed_none (n, low, stop) armed = false≢true (ap (λ a. refuses a n) (sym armed) ∙ stop.refused refl)

  pub stop_missed : (calls : ℕ) → WentThrough memory_tells run (memory_view old) (memory_view new) → old.arming
      ≡ Stop calls → run ≤ calls
  stop_missed calls went armed = elim (cases_lt calls run) [
    | inl early ↦ absurd
        (false≢true
        (sym (ap (λ a. refuses a calls) (sym armed) ∙ went.foretold refl calls early) ∙ le-leb calls calls
        (omega arith)))
    | inr late ↦ late
  ]

  pub failure_missed : (call : ℕ) → WentThrough memory_tells run (memory_view old) (memory_view new) → old.arming
      ≡ Fail call → 1 ≤ call → run < call
  failure_missed call went armed some = elim (cases_lt run call) [
    | inl late ↦ late
    | inr early ↦
        let there : (call - 1) + 1 ≡ call = omega arith in
        absurd (false≢true
        (sym (ap (λ a. refuses a (call - 1)) (sym armed) ∙ went.foretold refl (call - 1) (omega arith)) ∙ eq-eqb
        ((call - 1) + 1) call there))
  ]

  pub still_on : WentThrough memory_tells run (memory_view old) (memory_view new) → is_stopped new.arming ≡ false
  still_on went = sym (off_now new.arming) ∙ went.on refl
