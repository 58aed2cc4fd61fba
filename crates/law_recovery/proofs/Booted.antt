-- A node without power is booted: it is ready, and its state is as a boot leaves it.
use Rattle.std.proofs.Common.{◌≡◌, ℕ, false, ◌∙◌, ap}
use Rattle.zb_model.specs.Play.{Schedule, Armed, NotArmed, BootCalls, PowerOn, Step, disk_of, falls, step}
use Rattle.zb_model.specs.Readings.{is_up, state_of}
use Rattle.zb_model.specs.State.{after_boot}
use Rattle.zb_model.specs.Tools.{Tools}
use Rattle.law_run_steps.specs.Conditions.{Condition, condition_of}
use Rattle.law_run_steps.specs.Steps.{falls_at_boot}
use Rattle.law_run_steps.proofs.Others.{boot-down, booted}
use Rattle.law_recovery.specs.Fronts.{Front, IsReady, after_event}

unarmed-boot : (w : Schedule) (x : Front) (n : ℕ) → (disk_of x.disks n).armed ≡ NotArmed
    → falls_at_boot (condition_of w x.lines x.disks n) ≡ false
unarmed-boot w x n e = ap (λ (armed : Armed). falls armed (BootCalls (disk_of x.disks n).both_open)) e

pub boots : (tools : Tools) (w : Schedule) (x : Front) (n : ℕ) → is_up x.lines n ≡ false → (disk_of x.disks n).armed
    ≡ NotArmed
    → IsReady (after_event tools w x (PowerOn n)) n
    × (state_of (after_event tools w x (PowerOn n)).lines n ≡ after_boot (state_of x.lines n))
unfolding after_event
boots tools w x n down unarmed =
    let g : Step = step tools w x.lines x.disks x.number (PowerOn n) in
    let to = (booted w x.lines x.disks x.number n g (boot-down tools w x.lines x.disks x.number n down) down).whole
    (unarmed-boot w x n unarmed) in (
      record {
        up = ap (λ (k : Condition). k.up) to.condition;
        unarmed = ap (λ (k : Condition). k.disk.armed) to.condition
            ∙ unarmed;
      },
      ap (λ (k : Condition). k.state) to.condition,
    )
