-- Devices with a number each, in the order of the numbers.
use Rattle.std.specs.Prelude.{◌≡◌, ℕ, Bool, false, ◌&&◌, List, nat_eq, Option, Some, None}
use Rattle.std.specs.BTreeMap.{BTreeMap, get}
use Rattle.std.specs.BTreeSet.{BTreeSet, contains}
use Rattle.std.specs.List.{list_any}
use Rattle.std.specs.Ordering.{nat_cmp, ordering_then}
use Rattle.std.specs.declared.cmp.Ordering.{Ordering}
use Rattle.zb_base.specs.declared.address.Eui.{Eui}
use Rattle.zb_audit_lockout.specs.declared.opened.Opening.{Opening}
use Rattle.zb_trace_watch.specs.Sets.{eui_cmp}

abbrev pub opening_cmp : Opening → Opening → Ordering
opening_cmp a b = ordering_then (nat_cmp a.number b.number) (nat_cmp a.device.0 b.device.0)

abbrev pub opening_at : ℕ → ℕ → Opening
opening_at n d = record { number = n; device = record { 0 = d } }

-- Whether there is a number, and it is this one.
abbrev pub is_number : ℕ → Option ℕ → Bool
is_number n None = false
is_number n (Some m) = nat_eq n m

-- The order has each device after its number, and nothing else.
abbrev pub IsInOrder : BTreeMap Eui ℕ → BTreeSet Opening → Type 0
IsInOrder numbers order = (n d : ℕ) → contains opening_cmp order (record { number = n; device = record { 0 = d } })
    ≡ is_number n (get eui_cmp numbers (record { 0 = d }))

-- Whether a list has the device with this number.
abbrev pub is_listed : ℕ → ℕ → List Opening → Bool
is_listed n d list = list_any (λ (o : Opening). nat_eq n o.number && nat_eq d o.device.0) list
