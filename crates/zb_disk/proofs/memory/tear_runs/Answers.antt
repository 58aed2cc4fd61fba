use Rattle.std.proofs.Common.{◌+◌, ◌<◌, List, ◌++◌, ℕ, length, take, drop, ◌∙◌, ap, arith}
use Rattle.zb_disk.specs.Memory.{tear}
use Rattle.zb_disk.proofs.Tearing.{tear_up, tear_down, torn_at_last}
use Rattle.zb_disk.proofs.memory.tear_runs.Goals as goal
use Rattle.zb_disk.proofs.memory.tear_runs.Goals.{then-written-i, else-written-i}

pub loop-i-preserved : goal.loop-i-preserved
loop-i-preserved c =
    let p = c.args.pattern.now in
    let bytes = c.args.bytes.now in
    let written = c.args.written.now in
    let i = c.loop-i.i in
    let inv = c.loop-i.invariant in
    let whole = tear p 0 bytes written in
    let in_written : i < length written = omega (arith, c.loop-i-test.true) in
    let in_bytes : i < length bytes = omega arith in
    let in_new : i < length c.loop-i.bytes = omega arith in
    elim c.if-written-i.branch [
      | then-written-i w ↦
          let step = tear_up p c.loop-i.phase bytes c.loop-i.bytes c.if-written-i.bytes written i whole in_bytes
          in_new in_written w.if-written-i.true inv.rest inv.so_far w.bytes-is in
          record {
            rest = step.0;
            so_far =
                ap (λ (n : ℕ). take (i + 1) c.if-written-i.bytes
                ++ tear p n (drop (i + 1) bytes) (drop (i + 1) written)) w.phase-is ∙ step.1;
            phase = omega (arith, inv.phase, w.phase-is);
          }
      | else-written-i w ↦
          let step = tear_down p c.loop-i.phase bytes c.loop-i.bytes written i whole in_bytes in_new in_written
          w.if-written-i.false inv.rest inv.so_far in
          record {
            rest = ap (λ (l : List ℕ). drop (i + 1) l) w.bytes-is ∙ step.0;
            so_far =
                ap (λ (l : List ℕ). take (i + 1) l ++ tear p c.if-written-i.phase (drop (i + 1) bytes)
                (drop (i + 1) written)) w.bytes-is
                ∙ ap (λ (n : ℕ). take (i + 1) c.loop-i.bytes ++ tear p n (drop (i + 1) bytes) (drop (i + 1) written))
                w.phase-is ∙ step.1;
            phase = omega (arith, w.phase-is);
          }
    ]

pub returns : goal.returns
returns c = torn_at_last c.args.pattern.now c.loop-i.phase c.args.bytes.now c.loop-i.bytes c.args.written.now
    c.loop-i.i (tear c.args.pattern.now 0 c.args.bytes.now c.args.written.now)
    (omega (arith, c.loop-i-test.false)) (omega (arith, c.loop-i-test.false)) c.loop-i.invariant.so_far
