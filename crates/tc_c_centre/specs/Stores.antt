-- A store in memory and an answer, as the definitions of what is served see them.
use Rattle.std.specs.Prelude.{ℕ, ◌≡◌, ◌⊎◌, List, [], Some}
use Rattle.tc_c_centre.specs.Outside.{Written}
use Rattle.zb_centre_store.specs.Outside.{Outside, outside}
use Rattle.zb_disk.specs.Memory.{Medium, memory_tells, memory_view}
use Rattle.zb_store.specs.Layout.{Standing, IsWhole}

abbrev pub in_memory : Outside Medium Written
in_memory = outside memory_tells memory_view (λ (a : Written). Some a.text) (λ (a : Written). a.faults)

-- nothing was written yet
abbrev pub unwritten : Written
unwritten = record { text = []; faults = 0 }

-- A store is empty or whole: each is that these calls, `tc admin` and `tc_centre` leave.
abbrev pub IsSound : List ℕ → Type 0
IsSound bytes = (bytes ≡ []) ⊎ ((s : Standing) × IsWhole s bytes)
