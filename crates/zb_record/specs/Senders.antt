-- The floors of senders in a row of the program, which has room for 64 of them.
use Rattle.std.specs.Prelude.{◌≡◌, ℕ, ◌≤◌, List, ◌∷◌, ◌++◌, length, map, take, drop, ◌≢◌, if◌then◌else◌}
use Rattle.zb_model.specs.State.{NetKey, floor_stored, net_floor}
use Rattle.zb_record.specs.declared.net_row.SenderFloor.{SenderFloor}
use Rattle.zb_record.specs.RowViews.{heard_floor}
use Rattle.zb_model.specs.Fits.{most_senders}

abbrev pub HasRoom : NetKey → Type 0
HasRoom r = length r.floors ≤ most_senders

-- a floor is stored if the row is in use
abbrev pub live_floor : ℕ → ℕ → NetKey → NetKey
live_floor sender value r = if r.live then net_floor sender value r else r

-- the place of a sender among ascending ones: those before it are smaller, and the one there isn't
pub record IsPlace (floors : List SenderFloor) (sender place : ℕ) : Type 0 where
  pub within : place ≤ length floors
  pub before : (value : ℕ) → floor_stored sender value (map heard_floor floors) ≡ map heard_floor (take place floors)
      ++ floor_stored sender value (map heard_floor (drop place floors))
  pub here : (f : SenderFloor) (rest : List SenderFloor) → drop place floors ≡ f ∷ rest → sender ≤ f.sender.0

-- the floor at that place belongs to another sender
abbrev pub IsAbsent : List SenderFloor → ℕ → ℕ → Type 0
IsAbsent floors sender place = (f : SenderFloor) (rest : List SenderFloor) → drop place floors ≡ f ∷ rest
    → f.sender.0 ≢ sender
