-- Which keys and which devices lead to each key.
use Rattle.std.specs.Prelude.{◌≡◌, ◌⊎◌, ℕ, List, Bool, true, nat_eq}
use Rattle.std.specs.List.{list_any}
use Rattle.zb_base.specs.declared.address.Eui.{Eui}
use Rattle.zb_base.specs.declared.key.Key.{Key}
use Rattle.zb_audit_lockout.specs.Bags.{items_at}
use Rattle.zb_audit_lockout.specs.declared.back.Back.{Back}
use Rattle.zb_trace_watch.specs.Sets.{is_carried, key_cmp, node_has}
use Rattle.zb_trace_watch.specs.declared.holdings.Holdings.{Holdings}

-- Whether a device is among the holders of a key.
abbrev pub is_one_of : List Eui → ℕ → Bool
is_one_of devices d = list_any (λ (device : Eui). nat_eq d device.0) devices

abbrev pub is_holder : Back → List ℕ → ℕ → Bool
is_holder back k d = is_one_of (items_at key_cmp back.holders (record { 0 = k })) d

-- Whatever leads to a key is found from it.
pub record IsBack (leads : Holdings Key) (held : Holdings Eui) (back : Back) : Type 0 where
  pub bases : (b k : List ℕ) → is_carried leads b k ≡ true → is_carried back.bases k b ≡ true
  pub holders : (d : ℕ) (k : List ℕ) → node_has held d k ≡ true → is_holder back k d ≡ true

-- A device is noted as a holder of a key, unless it held it before.
pub record Notes (held : Holdings Eui) (old new : Back) (d : ℕ) (key : List ℕ) : Type 0 where
  pub bases : new.bases ≡ old.bases
  pub kept : (k : List ℕ) (e : ℕ) → is_holder old k e ≡ true → is_holder new k e ≡ true
  pub noted : (node_has held d key ≡ true) ⊎ (is_holder new key d ≡ true)
