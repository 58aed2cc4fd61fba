-- Which devices are removed.
use Rattle.std.proofs.Common.{◌≡◌, ℕ, ◌≤◌, List, [], ◌∷◌, Bool, true, cond, Option, Some, None, inl, inr, refl, ap, sym, ◌∙◌, nat_eq}
use Rattle.std.specs.BTreeMap.{is_at}
use Rattle.std.specs.Map.{keys_of, lookup}
use Rattle.std.specs.List.{list_any}
use Rattle.std.proofs.lemmas.Bool.{le-leb, leb-true}
use Rattle.zb_base.specs.declared.address.Eui.{Eui}
use Rattle.zb_audit_lockout.specs.Reading.{open_at, opened_by, some_open}
use Rattle.zb_audit_lockout.specs.declared.windows.Windows.{Windows}
use Rattle.zb_trace_watch.specs.Sets.{eui_cmp}
use Rattle.zb_trace_watch.proofs.Truth.{decided, either, itself_number, number_so, or_left, or_right, same_number}

pub opened_one : (o : Option ℕ) (number m : ℕ) → o ≡ Some m → m ≤ number → opened_by o number ≡ true
opened_one o number m is le = ap (λ (x : Option ℕ). opened_by x number) is ∙ le-leb m number le

pub record IsOpened (o : Option ℕ) (number : ℕ) : Type 0 where
  pub opened : ℕ
  pub is : o ≡ Some opened
  pub early : opened ≤ number

pub was_opened : (o : Option ℕ) (number : ℕ) → opened_by o number ≡ true → IsOpened o number
was_opened None number h = cc
was_opened (Some m) number h = record { opened = m; is = refl; early = leb-true m number h }

some_at : (w : Windows) (number d m : ℕ) (devices : List Eui) → open_at w d ≡ Some m → m ≤ number
    → list_any (λ (device : Eui). nat_eq d device.0) devices ≡ true → some_open w number devices ≡ true
some_at w number d m [] found le there = cc
some_at w number d m (e ∷ devices) found le there =
    elim (either (nat_eq d e.0) (list_any (λ (device : Eui). nat_eq d device.0) devices) there) [
      | inl here ↦ or_left _ _
          (opened_one (open_at w e.0) number m (ap (open_at w) (sym (same_number d e.0 here)) ∙ found) le)
      | inr later ↦ or_right _ _ (some_at w number d m devices found le later)
    ]

in_keys : (d m : ℕ) (entries : List (Eui × ℕ)) → lookup (is_at (eui_cmp (record { 0 = d }))) entries ≡ Some m
    → list_any (λ (device : Eui). nat_eq d device.0) (keys_of entries) ≡ true
in_keys d m [] found = cc
in_keys d m (e ∷ entries) found = elim (decided (nat_eq d e.0.0)) [
  | inl is ↦ or_left _ _ is
  | inr is ↦ or_right (nat_eq d e.0.0) _
      (in_keys d m entries
      (sym (ap (λ (b : Bool). cond b (Some e.1) (lookup (is_at (eui_cmp (record { 0 = d }))) entries))
      (number_so d e.0.0 ∙ is)) ∙ found))
]

pub some_key : (w : Windows) (number d m : ℕ) → open_at w d ≡ Some m → m ≤ number
    → some_open w number (keys_of w.removals) ≡ true
some_key w number d m found le = some_at w number d m (keys_of w.removals) found le (in_keys d m w.removals found)

-- A device of a list that is removed.
pub record IsOneOpen (w : Windows) (number : ℕ) (devices : List Eui) : Type 0 where
  pub device : ℕ
  pub among : list_any (λ (e : Eui). nat_eq device e.0) devices ≡ true
  pub opened : IsOpened (open_at w device) number

pub one_open : (w : Windows) (number : ℕ) (devices : List Eui) → some_open w number devices ≡ true
    → IsOneOpen w number devices
one_open w number [] some = cc
one_open w number (e ∷ devices) some =
    elim (either (opened_by (open_at w e.0) number) (some_open w number devices) some) [
      | inl here ↦
          record {
            device = e.0;
            among = or_left _ _ (itself_number e.0);
            opened = was_opened (open_at w e.0) number
                here;
          }
      | inr later ↦ let it =
          one_open w number devices later in
          record { device = it.device; among = or_right _ _ it.among; opened = it.opened }
    ]
