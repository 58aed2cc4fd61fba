-- What the parts of the program's value say.
use Rattle.std.specs.Prelude.{ℕ, ◌+◌, Bool, true, false, not, ◌&&◌, ◌||◌, List, nat_eq, nat_le, Option, Some, None}
use Rattle.std.specs.BTreeMap.{get, is_at}
use Rattle.std.specs.Map.{keys_of, lookup}
use Rattle.std.specs.List.{list_any}
use Rattle.zb_base.specs.declared.address.Eui.{Eui}
use Rattle.std.specs.Ordering.{nat_cmp}
use Rattle.std.specs.declared.cmp.Ordering.{Ordering}
use Rattle.zb_base.specs.declared.label.Layer.{Layer}
use Rattle.zb_base.specs.declared.label.Layer.TheVariants as layer
use Rattle.zb_audit_lockout.specs.Bags.{items_at}
use Rattle.zb_audit_lockout.specs.declared.before.Before.{Before}
use Rattle.zb_audit_lockout.specs.declared.evidence.Evidence.{Evidence}
use Rattle.zb_audit_lockout.specs.declared.evidence.LateSeal.{LateSeal}
use Rattle.zb_audit_lockout.specs.declared.numbers.Numbers.{Numbers}
use Rattle.zb_audit_lockout.specs.declared.spread.Spread.{Spread}
use Rattle.zb_audit_lockout.specs.declared.lockout.Lockout.{Lockout}
use Rattle.zb_audit_lockout.specs.declared.windows.Windows.{Windows}
use Rattle.zb_seal.specs.declared.term.Term.{Term}
use Rattle.zb_seal.specs.contracts.term.TermOrd.TheImpl as term_ord
use Rattle.zb_trace_watch.specs.Sets.{eui_cmp, key_cmp, keys_at, meet}
use Rattle.zb_trace_watch.specs.Terms.{has_term}

-- The number of the line that removed a device.
abbrev pub number_in : List (Eui × ℕ) → ℕ → Option ℕ
number_in removals d = lookup (is_at (eui_cmp (record { 0 = d }))) removals

abbrev pub open_at : Windows → ℕ → Option ℕ
open_at w d = number_in w.removals d

-- Whether there is a number, and it is at most another one.
abbrev pub opened_by : Option ℕ → ℕ → Bool
opened_by None number = false
opened_by (Some opened) number = nat_le opened number

-- Whether one of the devices has a number that is at most that one.
abbrev pub some_by : List (Eui × ℕ) → ℕ → List Eui → Bool
some_by numbers number devices = list_any (λ (device : Eui). opened_by (number_in numbers device.0) number) devices

-- Whether one of the devices is removed by a line of at most that number.
abbrev pub some_open : Windows → ℕ → List Eui → Bool
some_open w number devices = list_any (λ (device : Eui). opened_by (open_at w device.0) number) devices

-- The number of a key.
abbrev pub or_zero : Option ℕ → ℕ
or_zero None = 0
or_zero (Some number) = number

abbrev pub number_of : Numbers → List ℕ → ℕ
number_of l key = or_zero (get key_cmp l.numbers (record { 0 = key }))

-- How early the line of number 0 is: 2^32, above the number of each line.
abbrev pub earliest : ℕ
earliest = 4294967296

-- How early a device was removed: the earlier, the greater.
abbrev pub early_of : Spread → ℕ → ℕ
early_of s d = or_zero (get eui_cmp s.devices (record { 0 = d }))

-- Whether a key was drawn after a removal that is this early.
abbrev pub is_late : Numbers → ℕ → List ℕ → Bool
is_late drawn early key = nat_le earliest (early + number_of drawn key)

-- The seals of a term by removed devices.
abbrev pub has_seal : List LateSeal → ℕ → ℕ → Bool
has_seal seals d number = list_any (λ (s : LateSeal). nat_eq d s.device.0 && nat_le number s.number) seals

abbrev pub term_cmp : Term → Term → Ordering
term_cmp = term_ord.cmp-value.it

abbrev pub seals_of : Evidence → Term → List LateSeal
seals_of e t = items_at term_cmp e.sealed t

-- Whether a device sealed the term while the last removal had at least that number.
abbrev pub late_by : Evidence → ℕ → ℕ → Term → Bool
late_by e d number t = has_seal (seals_of e t) d number

-- Whether a device that sealed the term was removed then, and still is.
abbrev pub some_late : Windows → List LateSeal → Bool
some_late w seals = list_any (λ (s : LateSeal). opened_by (open_at w s.device.0) s.number) seals

-- Whether there is a device, it is this one, and it is removed; and the last removal has at least that number.
abbrev pub is_late_seal : Windows → Option Eui → ℕ → ℕ → Bool
is_late_seal w None d number = false
is_late_seal w (Some device) d number = opened_by (open_at w device.0) w.last
    && (nat_eq d device.0 && nat_le number w.last)

-- Whether a term was forged, or a removed device sealed it, while a device is removed.
abbrev pub is_foul : Windows → Evidence → Term → Bool
is_foul w e t = some_late w (seals_of e t) || (some_open w w.last (keys_of w.removals) && has_term e.forged t)

-- Whether the node at a place has a live network key that outsiders may know.
abbrev pub knows : Before → ℕ → Bool
knows b place = meet b.exposure.known.keys.keys (keys_at nat_cmp b.live place)

abbrev pub accepts_at : Layer → Lockout → ℕ → Term → Bool
accepts_at layer.Aps s place t = true
accepts_at layer.Nwk s place t = not (is_foul s.reach.windows s.evidence t) || knows s.past.before place

abbrev pub accepts : Lockout → ℕ → Term → Bool
accepts s place t = accepts_at t.layer s place t
