-- Outgoing frame counters, taken from blocks that were reserved on the disk (05-3474-21, sections 4.3.1.1 and
-- 4.4.1.1).
use Rattle.std.specs.Prelude.{ℕ, ◌+◌, ◌==◌, min, if◌then◌else◌}
use Rattle.zb_counter.specs.declared.sending.Outgoing.{Outgoing}
use Rattle.zb_counter.specs.declared.sending.Draw.{Draw}
use Rattle.zb_counter.specs.declared.sending.Draw.TheVariants.{Ready, Reserve, Spent}

-- the number that no frame has: a counter that has reached it is spent
abbrev pub last_counter : ℕ
last_counter = 4294967295

-- one block above, but never past the last number
abbrev pub block_beyond : ℕ → ℕ → ℕ
block_beyond from block = min (from + block) last_counter

-- what a draw returns
abbrev pub draw_of : Outgoing → Draw
draw_of o = if o.next == last_counter then Spent
    else (if o.next == o.limit then Reserve (block_beyond o.next o.block) else Ready o.next)

-- the counter after a draw: one higher if a number was handed out, else unchanged
abbrev pub after_draw : Outgoing → Outgoing
after_draw o = if o.next == last_counter then o else (if o.next == o.limit then o else record o { next = o.next + 1 })
