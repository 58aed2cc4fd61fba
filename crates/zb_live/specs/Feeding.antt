-- The bytes of an input as they come, and the next line of them.
use Rattle.std.specs.Prelude.{ℕ, ◌≡◌, ◌≤◌, ◌<◌, ◌==◌, ◌++◌, false, List, ◌∷◌, length, Vec, Option, Some, None, ⊤}
use Rattle.std.specs.Global.{Global}
use Rattle.std.specs.List.{AllByRecursion}
use Rattle.zb_live.specs.WholeLines.{longest_line}
use Rattle.zb_live.specs.declared.fault.LiveFault.{LiveFault}
use Rattle.zb_live.specs.declared.fault.LiveFault.TheVariants.{TooLong, NoMemory}

-- none of these bytes is a line feed
abbrev pub IsInLine : List ℕ → Type 0
IsInLine bytes = AllByRecursion (λ (byte : ℕ). (byte == 10) ≡ false) bytes

-- A line was taken off the beginning of what was held, with its line feed. Or nothing was taken, and none of what is
-- held is a line feed. Neither is longer than a line may be.
abbrev pub IsNext : List ℕ → Option (Vec ℕ Global) → List ℕ → Type 0
IsNext held (Some line) left = (held ≡ line.items ++ 10 ∷ left) × IsInLine line.items
    × (length line.items ≤ longest_line)
IsNext held None left = (left ≡ held) × IsInLine held × (length held ≤ longest_line)

-- these bytes begin with more bytes of one line than a line may have
pub record BeginsLong (all : List ℕ) : Type 0 where
  pub line : List ℕ
  pub back : List ℕ
  pub whole : all ≡ line ++ back
  pub in_line : IsInLine line
  pub long : longest_line < length line

-- When each fault of a call for the next line comes: the line that comes next is too long, or memory is short.
abbrev pub IsTakeFault : List ℕ → LiveFault → Type 0
IsTakeFault held TooLong = BeginsLong held
IsTakeFault held NoMemory = ⊤
IsTakeFault held fault = ⊥

-- The most bytes that one read takes.
abbrev pub most_read : ℕ
most_read = 4096

-- A read took at most 4,096 bytes off the beginning of those that were to come.
pub record TakesFew (old : List ℕ) (rest : Option (List ℕ)) : Type 0 where
  pub read : List ℕ
  pub left : List ℕ
  pub left_is : rest ≡ Some left
  pub whole : old ≡ read ++ left
  pub few : length read ≤ most_read
