-- The buffers of a call, the numbers that it returns, and what it writes into the buffers.
use Rattle.std.specs.Prelude.{ℕ, ◌≡◌, ◌&&◌, ◌++◌, List, length, take, drop, Bool, nat_le, if◌then◌else◌, Result, Ok, Err, true}
use Rattle.tc_c_centre.specs.declared.fault.CallFault.{CallFault}
use Rattle.tc_c_centre.specs.declared.fault.CallFault.TheVariants.{Usage, Short, Refused, NoMemory, NoStore, TooLong, BadStore, Worn}
use Rattle.tc_c_centre.specs.declared.used.TcUsed.{TcUsed}
use Rattle.zb_base.specs.Sizes.{disk_size}

-- the two buffers, and what is said of them
pub record Buffers : Type 0 where
  pub store : List ℕ
  pub answer : List ℕ
  pub used : TcUsed

abbrev pub buffers : List ℕ → List ℕ → TcUsed → Buffers
buffers store answer used = record { store = store; answer = answer; used = used }

-- The buffer of the store has the room of a store, and no more bytes are in use than a store has.
abbrev pub is_ready : List ℕ → TcUsed → Bool
is_ready store used = nat_le disk_size (length store) && nat_le used.store disk_size

-- the store: the first bytes of its buffer
abbrev pub in_use : Buffers → List ℕ
in_use b = take b.used.store b.store

-- what a call makes: the new bytes of the store, and the answer
pub record Made : Type 0 where
  pub store : List ℕ
  pub answer : List ℕ

-- ---- numbers

abbrev pub number_of : CallFault → ℕ
number_of Usage = 2
number_of (Short needed) = 4
number_of (Refused line cause) = 5
number_of NoMemory = 6
number_of NoStore = 8
number_of TooLong = 9
number_of (BadStore at) = 11
number_of Worn = 12

-- what is said of a fault besides its number
abbrev pub told : CallFault → TcUsed → TcUsed
told Usage used = used
told (Short needed) used = record used { answer = needed }
told (Refused line cause) used = record used { at = line; cause = cause }
told NoMemory used = used
told NoStore used = used
told TooLong used = used
told (BadStore at) used = record used { at = at }
told Worn used = used

-- ---- what is written

-- these bytes, and after them what was there
abbrev pub over : List ℕ → List ℕ → List ℕ
over bytes old = bytes ++ drop (length bytes) old

abbrev pub written : Made → Buffers → Buffers
written made before =
    record {
      store = over made.store before.store;
      answer = over made.answer before.answer;
      used = record before.used { store = length made.store; answer = length made.answer };
    }

-- what was made, if there is room for the answer
abbrev pub fitted : ℕ → Result Made CallFault → Result Made CallFault
fitted room (Ok made) = if nat_le (length made.answer) room then Ok made else Err (Short (length made.answer))
fitted room (Err fault) = Err fault

-- the buffers come first, and then the room for the answer
abbrev pub outcome : Buffers → Result Made CallFault → Result Made CallFault
outcome before made = if is_ready before.store before.used then fitted (length before.answer) made else Err Usage

-- A call returns 0, and wrote the new store and the answer. Or it returns the number of what was wrong, and wrote
-- nothing but what it says of that.
abbrev pub HandsOut : Result Made CallFault → ℕ → Buffers → Buffers → Type 0
HandsOut (Ok made) number before after = (number ≡ 0) × (after ≡ written made before)
HandsOut (Err fault) number before after =
    (number ≡ number_of fault) × (after ≡ record before { used = told fault before.used })

-- A call, where it is said what may be made of the store's bytes.
pub record Calls (is_made : List ℕ → Result Made CallFault → Type 0) (before : Buffers) (number : ℕ)
    (after : Buffers) : Type 0 where
  pub made : Result Made CallFault
  pub right : is_ready before.store before.used ≡ true → is_made (in_use before) made
  pub handed_out : HandsOut (outcome before made) number before after
