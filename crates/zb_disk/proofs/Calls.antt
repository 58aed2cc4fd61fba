-- The calls of a disk in memory keep the contracts of the trait.
use Rattle.std.proofs.Common.{◌≡◌, inr, ℕ, zero, suc, ◌+◌, ◌-◌, ◌≤◌, List, length, replicate, Bool, true, false, nat_le, nat_lt, ◌==◌, if◌then◌else◌, cond, Ok, Err, refl, sym, ◌∙◌, ap, subst, arith}
use Rattle.std.proofs.lemmas.Bool.{false≢true, le-leb, le-ltb, lt-ltb, eqb-true, eq-eqb}
use Rattle.std.proofs.lemmas.Bool.Decides.{nat_tests}
use Rattle.zb_base.specs.Outside.{risen}
use Rattle.zb_disk.specs.declared.memory.Arming.{Arming}
use Rattle.zb_disk.specs.declared.memory.Arming.TheVariants.{Unarmed, Stop, Fail, Stopped}
use Rattle.zb_disk.specs.View.{Torn}
use Rattle.zb_disk.specs.Calls.{IsCounted, IsWrite, IsSync, Elapses}
use Rattle.zb_disk.specs.Memory.{Medium, IsImage, refuses, will_refuse, after_call, is_stopped, off_after, counted, stored, synced, memory_tells, memory_view}
use Rattle.zb_disk.specs.MemoryLaws.{image_seen}
use Rattle.zb_disk.proofs.Lists.{overwrite_spread}
use Rattle.zb_disk.proofs.Images.{stored_is, torn_from, torn_to, one_image, lowered}

later_stop : (calls k : ℕ) (t : Bool) → (calls == 0) ≡ t → refuses (if t then Stopped else Stop (calls - 1)) k
    ≡ nat_le calls (k + 1)
later_stop calls k true none = sym (le-leb calls (k + 1) (omega (arith, eqb-true calls 0 none)))
later_stop calls k false some = grind (arith, nat_tests)

later_refusals : (a : Arming) (k : ℕ) → refuses (after_call a) k ≡ refuses a (k + 1)
later_refusals Unarmed k = refl
later_refusals (Stop calls) k = later_stop calls k (calls == 0) refl
later_refusals (Fail call) k = grind (arith, nat_tests)
later_refusals Stopped k = refl

later_off_stop : (calls k : ℕ) (t : Bool) → (calls == 0) ≡ t → off_after (if t then Stopped else Stop (calls - 1)) k
    ≡ nat_lt calls (k + 1)
later_off_stop calls k true none = sym (lt-ltb calls (k + 1) (omega (arith, eqb-true calls 0 none)))
later_off_stop calls k false some = grind (arith, nat_tests)

later_off : (a : Arming) (k : ℕ) → off_after (after_call a) k ≡ off_after a (k + 1)
later_off Unarmed k = refl
later_off (Stop calls) k = later_off_stop calls k (calls == 0) refl
later_off (Fail call) k = refl
later_off Stopped k = refl

-- The disk is off now exactly if it is stopped.
pub off_now : (a : Arming) → off_after a 0 ≡ is_stopped a
off_now Unarmed = refl
off_now (Stop calls) = le-ltb calls 0 (omega arith)
off_now (Fail call) = refl
off_now Stopped = refl

-- The disk will refuse a call exactly if it refuses the one of some number.

pub refuses_some : (a : Arming) (k : ℕ) → refuses a k ≡ true → will_refuse a ≡ true
refuses_some Unarmed k here = here
refuses_some (Stop calls) k here = refl
refuses_some (Fail call) k here = lt-ltb 0 call (omega (arith, eqb-true (k + 1) call here))
refuses_some Stopped k here = refl

pub refuses_none : (a : Arming) → ((k : ℕ) → refuses a k ≡ false) → will_refuse a ≡ false
refuses_none Unarmed none = refl
refuses_none (Stop calls) none = absurd (false≢true (sym (none calls) ∙ le-leb calls calls (omega arith)))
refuses_none (Fail zero) none = refl
refuses_none (Fail (suc call)) none =
    absurd (false≢true (sym (none call) ∙ eq-eqb (call + 1) (suc call) (omega arith)))
refuses_none Stopped none = absurd (false≢true (sym (none 0)))

on_after : (a : Arming) → refuses a 0 ≡ false → off_after (after_call a) 0 ≡ false
on_after Unarmed goes = refl
on_after (Stop calls) goes = grind (arith, nat_tests)
on_after (Fail call) goes = refl
on_after Stopped goes = absurd (false≢true (sym goes))

elapses : (old new : Medium) → Elapses memory_tells (memory_view old) (memory_view new)
elapses old new =
    record { later = omega arith; nothing_else = λ t c before left. inr left; kept = λ told. absurd (false≢true told) }

-- A call that succeeded.
counted_ok : {E : Type 0} (m new : Medium) → refuses m.arming 0 ≡ false → m.faults ≤ (counted m).faults → new.arming
    ≡ (counted m).arming → new.torn ≡ m.torn → new.calls ≡ (counted m).calls → new.faults ≡ (counted m).faults
    → IsCounted {T = Unit {0}} {E = E} memory_tells (memory_view m) (memory_view new) (Ok tt)
unfolding counted
counted_ok m new goes later arming torn calls faults = record {
  calls = calls;
  cause =
      record {
        later = omega arith;
        unrisen = faults ∙ ap (λ b. cond b (risen m.faults 1) m.faults) goes;
        failed = tt;
      };
  time = elapses m new;
  foretold = λ told. record {
    refusal = sym goes;
    later = λ k. ap (λ a. refuses a k) arming ∙ later_refusals m.arming k;
    off = λ k. ap (λ a. off_after a k) arming ∙ later_off m.arming k;
    on = ap (λ a. off_after a 0) arming ∙ on_after m.arming goes;
    torn = torn;
  };
}

-- A call that was refused.
counted_err : {E : Type 0} (m : Medium) (e : E) → refuses m.arming 0 ≡ true → m.faults ≤ (counted m).faults
    → IsCounted {T = Unit {0}} {E = E} memory_tells (memory_view m) (memory_view (counted m)) (Err e)
unfolding counted
counted_err m e refused later = record {
  calls = refl;
  cause =
      record {
        later = later;
        unrisen = tt;
        failed = subst (λ b. risen m.faults 1 ≤ cond b (risen m.faults 1) m.faults) (sym refused) (omega arith);
      };
  time = elapses m (counted m);
  foretold =
      λ told. record {
        refusal = sym refused;
        later = λ k. later_refusals m.arming k;
        off = λ k. later_off m.arming k;
        on = tt;
        torn = refl;
      };
}

torn_same : (at n : ℕ) (c : List ℕ) → Torn at n c c
torn_same at n c = record { before = λ m until within. refl; after = λ m from. refl; no_shorter = omega arith }

pub write_ok : {E : Type 0} (m : Medium) (at : ℕ) (piece : List ℕ) → refuses m.arming 0 ≡ false → m.faults
    ≤ (counted m).faults
    → IsWrite {T = Unit {0}} {E = E} memory_tells at piece (memory_view m) (memory_view (stored (counted m) at piece))
    (Ok tt)
unfolding counted stored
write_ok m at piece goes later = record {
  written = λ told. overwrite_spread m.bytes piece at;
  torn = torn_from at (length piece) (counted m) (stored (counted m) at piece) (stored_is (counted m) at piece);
  opens = torn_to at (length piece) (counted m) (stored (counted m) at piece) (stored_is (counted m) at piece);
  refused = tt;
  counted = counted_ok m (stored (counted m) at piece) goes later refl refl refl refl;
}

pub write_err : {E : Type 0} (m : Medium) (at : ℕ) (piece : List ℕ) (e : E) → refuses m.arming 0 ≡ true → m.faults
    ≤ (counted m).faults
    → IsWrite {T = Unit {0}} {E = E} memory_tells at piece (memory_view m) (memory_view (counted m)) (Err e)
unfolding counted
write_err m at piece e refused later = record {
  written = tt;
  torn = λ c image. (c, image, torn_same at (length piece) c);
  opens = tt;
  refused = λ told. record { seen = refl; images = λ c image. image; images_kept = λ c image. image };
  counted = counted_err m e refused later;
}

pub sync_ok : {E : Type 0} (m : Medium) → refuses m.arming 0 ≡ false → m.faults ≤ (counted m).faults
    → IsSync {T = Unit {0}} {E = E} memory_tells (memory_view m) (memory_view (synced (counted m))) (Ok tt)
unfolding counted synced
sync_ok m goes later =
    let only = one_image m.bytes (replicate (length m.written) false) (lowered (length m.written)) in
    record {
      durable = only;
      seen = refl;
      images = λ c image. subst (λ (l : List ℕ). IsImage m.bytes m.written m.grown l) (sym (only c image))
          (image_seen m.bytes m.written m.grown);
      images_kept = tt;
      counted = counted_ok m (synced (counted m)) goes later refl refl refl refl;
    }

pub sync_err : {E : Type 0} (m : Medium) (e : E) → refuses m.arming 0 ≡ true → m.faults ≤ (counted m).faults
    → IsSync {T = Unit {0}} {E = E} memory_tells (memory_view m) (memory_view (counted m)) (Err e)
unfolding counted
sync_err m e refused later = record {
  durable = tt;
  seen = refl;
  images = λ c image. image;
  images_kept = λ c image. image;
  counted = counted_err m e refused later;
}
