-- The least number that a received frame counter may have (05-3474-21, sections 4.3.1.2 and 4.4.1.2).
use Rattle.std.specs.Prelude.{ℕ, Option, Some, None, ◌==◌, nat_lt, if◌then◌else◌}
use Rattle.zb_counter.specs.Outgoing.{last_counter, block_beyond}
use Rattle.zb_counter.specs.declared.receiving.Floor.{Floor}
use Rattle.zb_counter.specs.declared.receiving.Judge.{Judge}
use Rattle.zb_counter.specs.declared.receiving.Judge.TheVariants.{Fresh, Stale, Max}

-- what must be stored before the number is accepted: nothing if it is below the stored floor, else a floor one block
-- above
abbrev pub store_to_of : Floor → ℕ → ℕ → Option ℕ
store_to_of f counter block = if nat_lt counter f.stored then None else Some (block_beyond counter block)

-- how a received number is checked: the last number is never taken; then come those below the floor, then the fresh
-- ones
abbrev pub judge_of : Floor → ℕ → ℕ → Judge
judge_of f counter block = if counter == last_counter then Max
    else (if nat_lt counter f.kept then Stale f.kept else Fresh (store_to_of f counter block))
