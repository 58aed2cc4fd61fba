-- What a draw from an outgoing counter gives, in the model's terms.
use Rattle.std.specs.Prelude.{ℕ, ◌+◌, min, Bool, true, false, if◌then◌else◌, Option, Some, None, nat_eq, nat_le}
use Rattle.zb_counter.specs.declared.sending.Draw.{Draw}
use Rattle.zb_counter.specs.declared.sending.Draw.TheVariants.{Ready, Reserve, Spent}
use Rattle.zb_counter.specs.declared.sending.Outgoing.{Outgoing}
use Rattle.zb_model.specs.Data.{Layer}
use Rattle.zb_model.specs.Rules.{Setting}
use Rattle.zb_model.specs.State.{NodeState, greatest_counter, next_counter, stored_limit}
use Rattle.zb_rows.specs.declared.counters.Drawn.{Drawn}

-- the limit that is stored first: that of a new block if the counter has reached its limit, else none
abbrev pub limit_to_store : ℕ → ℕ → ℕ → Option ℕ
limit_to_store next limit block = if nat_eq next limit then Some (min (next + block) greatest_counter) else None

-- the limit that a node stores before it seals at a layer
abbrev pub reserve_at : Setting → NodeState → Layer → Option ℕ
reserve_at c s layer = limit_to_store (next_counter layer s) (stored_limit layer s) c.me.out_block

abbrev pub given : ℕ → Option ℕ → Option Drawn
given number reserve = Some (record { number = number; reserve = reserve })

-- the number that a counter gives a frame: none once it has reached its end
abbrev pub drawn_of : Outgoing → Option Drawn
drawn_of o = if nat_le greatest_counter o.next then None
    else given o.next (limit_to_store o.next o.limit o.block)

-- the number that a draw gives a frame, if one is ready; the limit was stored before
abbrev pub ready_of : Option ℕ → Draw → Option Drawn
ready_of reserve (Ready number) = given number reserve
ready_of reserve (Reserve limit) = None
ready_of reserve Spent = None

-- a draw found the counter at its end
abbrev pub is_end : Draw → Bool
is_end (Ready number) = false
is_end (Reserve limit) = false
is_end Spent = true
