-- How a call ended that went wrong, on any disk.
use Rattle.std.proofs.Common.{◌≡◌, inl, inr, ℕ, zero, suc, ◌+◌, ◌-◌, ◌<◌, ◌==◌, ◌&&◌, Bool, true, false, not, nat_le, nat_lt, if◌then◌else◌, refl, sym, ◌∙◌, ap, arith, zero-add}
use Rattle.std.proofs.lemmas.Bool.{cases_lt, le-leb, lt-leb, eq-eqb, ne_eqb}
use Rattle.zb_disk.specs.declared.memory.Arming.{Arming}
use Rattle.zb_disk.specs.declared.memory.Arming.TheVariants.{Stop, Fail, Unarmed}
use Rattle.zb_disk.specs.Memory.{Medium, refuses, is_stopped, will_refuse, off_after, powered, memory_tells, memory_view}
use Rattle.zb_disk.proofs.Calls.{off_now, refuses_none, refuses_some}
use Rattle.zb_store.specs.Steps.{WasAsked, calls_then}
use Rattle.zb_model.specs.Play.{Armed, NotArmed, StopAfter, FailAt}
use Rattle.zb_armed_host.specs.declared.fall.Fallen.{Fallen}
use Rattle.zb_armed_host.specs.Arms.{armed_on, arming_on, disarmed_medium, falls_within, fired_seen}
use Rattle.zb_armed_host.specs.Driven.{HasEnded, fall_seen}
use Rattle.zb_armed_host.proofs.Armings.{disarmed_calls, on_once_powered, powered_calls}

calls_on : (a : Armed) (m : Medium) → (armed_on a m).calls ≡ m.calls
calls_on NotArmed m = refl
calls_on (StopAfter calls torn) m = refl
calls_on (FailAt call) m = refl

arming_is : (a : Armed) (m : Medium) → (armed_on a m).arming ≡ arming_on a m.arming
arming_is NotArmed m = refl
arming_is (StopAfter calls torn) m = refl
arming_is (FailAt call) m = refl

on_by : (b : Bool) (x : Arming) → is_stopped x ≡ b → b ≡ false → is_stopped (if b then x else Unarmed) ≡ false
on_by true x is on = is ∙ on
on_by false x is on = refl

disarmed_on : (a : Armed) (m : Medium) → is_stopped m.arming ≡ false → is_stopped (disarmed_medium a m).arming ≡ false
disarmed_on NotArmed m on = on
disarmed_on (StopAfter calls torn) m on = on_by (is_stopped m.arming) m.arming refl on
disarmed_on (FailAt call) m on = on_by (is_stopped m.arming) m.arming refl on

-- the disk is off after the calls where that was told
off_then : (a : Armed) (old m : Medium)
    → (asked : WasAsked memory_tells (memory_view (armed_on a old)) (memory_view m)) → is_stopped m.arming
    ≡ off_after (arming_on a old.arming) asked.made
off_then a old m asked =
    sym (off_now m.arming) ∙ asked.off refl 0 ∙ ap (λ (k : ℕ). off_after (armed_on a old).arming k)
    (zero-add asked.made)
    ∙ ap (λ (x : Arming). off_after x asked.made) (arming_is a old)

-- a failure of the call of this number is over exactly where so many calls were made
module _ (call made : ℕ) (x : Arming) (later : (k : ℕ) → refuses x k ≡ (k + made + 1 == call)) where
  over : 0 < call → not (will_refuse x) ≡ nat_le call made
  over some = elim (cases_lt made call) [
    | inl early ↦
        let there : (call - 1 - made) + made + 1 ≡ call = omega (arith, early, some) in
        ap not (refuses_some x (call - 1 - made)
        (later (call - 1 - made) ∙ eq-eqb ((call - 1 - made) + made + 1) call there)) ∙ sym
        (lt-leb call made early)
    | inr late ↦
        ap not (refuses_none x
        (λ k. later k ∙ ne_eqb (k + made + 1) call (λ same. absurd (omega (arith, late, same))))) ∙ sym
        (le-leb call made late)
  ]

fail_is : (call made : ℕ) (x : Arming) → ((k : ℕ) → refuses x k ≡ (k + made + 1 == call))
    → (nat_lt 0 call && not (will_refuse x)) ≡ (nat_lt 0 call && nat_le call made)
fail_is zero made x later = refl
fail_is (suc call) made x later = ap (λ (b : Bool). nat_lt 0 (suc call) && b)
    (over (suc call) made x later (omega arith))

fired_by : (b : Bool) (a : Armed) (old m : Medium) → is_stopped old.arming ≡ b
    → (asked : WasAsked memory_tells (memory_view (armed_on a old)) (memory_view m))
    → fired_seen a b (is_stopped m.arming) (will_refuse m.arming) ≡ falls_within a b asked.made
fired_by b NotArmed old m is asked = refl
fired_by true (StopAfter calls torn) old m is asked = refl
fired_by true (FailAt call) old m is asked = refl
fired_by false (StopAfter calls torn) old m is asked =
    off_then (StopAfter calls torn) old m asked ∙ ap
    (λ (b : Bool). off_after (if b then old.arming else Stop calls) asked.made) is
fired_by false (FailAt call) old m is asked =
    fail_is call asked.made m.arming
    (λ k. asked.later refl k ∙ ap (λ (b : Bool). refuses (if b then old.arming else Fail call) (k + asked.made))
    is)

pub has_ended : (a : Armed) (old m : Medium) (fallen : Fallen) → WasAsked memory_tells (memory_view (armed_on a old))
    (memory_view m)
    → fallen.fall ≡ fall_seen (is_stopped old.arming) (is_stopped m.arming) → fallen.fired
    ≡ fired_seen a (is_stopped old.arming) (is_stopped m.arming) (will_refuse m.arming)
    → HasEnded a old fallen (disarmed_medium a (powered m))
has_ended a old m fallen asked fall fired = record {
  made = asked.made;
  calls = disarmed_calls a (powered m) ∙ powered_calls m ∙ asked.calls ∙ ap (λ (n : ℕ). calls_then n asked.made)
      (calls_on a old);
  fall = fall ∙ ap (fall_seen (is_stopped old.arming)) (off_then a old m asked);
  fired = fired ∙ fired_by (is_stopped old.arming) a old m refl asked;
  on = disarmed_on a (powered m) (on_once_powered m);
}
