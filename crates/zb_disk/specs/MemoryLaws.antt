-- The laws of the trait, for a disk in memory.
use Rattle.std.specs.Prelude.{ℕ, List, Bool, refl}
use native.Mathlib.Omega.{arith}
use Rattle.zb_disk.specs.Memory.{IsImage}

-- What is read is one of the images.
pub image_seen : (bytes : List ℕ) (written : List Bool) (grown : ℕ) → IsImage bytes written grown bytes
image_seen bytes written grown =
    record { no_shorter = omega arith; no_longer = omega arith; others = λ k in_it down. refl }
