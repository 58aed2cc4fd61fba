-- What the fields of a memory disk keep.
use Rattle.std.specs.Prelude.{ℕ, ◌+◌, ◌-◌, ◌≤◌, ◌<◌, ◌≡◌, ◌⊎◌, List, ◌++◌, Bool, true, false, length, get_or, take, replicate, vec_len, vec_capacity}
use Rattle.zb_disk.specs.declared.memory.Extent.{Extent}
use Rattle.zb_disk.specs.declared.memory.MemDisk.TheInside.{Inside}
use Rattle.zb_disk.specs.Memory.{Medium, patch}
use Rattle.zb_base.specs.Sizes.{disk_size, slot_size}

-- The flags of all bytes of a disk of a size: those of a window from a place on, and clear ones around it.
unfoldable pub flags_around : ℕ → List Bool → ℕ → List Bool
flags_around base written size = replicate base false ++ written ++ replicate (size - base - length written) false

-- A place that isn't in the range from one place to another, which is excluded.
abbrev pub IsOutside : ℕ → ℕ → ℕ → Type 0
IsOutside at end k = (k < at) ⊎ (end ≤ k)

-- A place beyond what was written since the disk was renewed.
abbrev pub IsBeyond : Extent → ℕ → Type 0
IsBeyond e k = (e.low ≤ k) × IsOutside slot_size e.high k

abbrev pub medium_of : Inside → Medium
medium_of d = record {
  bytes = take d.len d.bytes.items;
  written = patch (flags_around d.base d.written.items d.len) d.from (replicate (d.to - d.from) true);
  grown = d.grown;
  arming = d.arming;
  torn = d.torn.items;
  calls = d.calls;
  faults = d.faults;
}

pub record IsMemDisk (d : Inside) : Type 0 where
  pub flags : d.base + vec_len d.written ≤ d.len
  pub order : d.from ≤ d.to
  pub last : d.to ≤ d.len
  pub within : d.len ≤ vec_len d.bytes
  pub size : vec_len d.bytes ≤ disk_size
  pub grown : d.grown ≤ d.len
  -- After what is read, and beyond what was written, all bytes are 00.
  pub behind : (k : ℕ) → d.len ≤ k → get_or d.bytes.items k 0 ≡ 0
  pub beyond : (k : ℕ) → IsBeyond d.extent k → get_or d.bytes.items k 0 ≡ 0
  pub room : disk_size ≤ vec_capacity d.bytes
  pub room_flags : disk_size ≤ vec_capacity d.written
