-- What the removed devices become, as some are forgotten.
use Rattle.std.specs.Prelude.{◌≡◌, ◌⊎◌, ◌||◌, ℕ, List, Bool, true, bytes_eq, Some}
use Rattle.std.specs.BTreeSet.{BTreeSet, contains}
use Rattle.std.specs.List.{list_any}
use Rattle.zb_base.specs.declared.key.Key.{Key}
use Rattle.zb_audit_lockout.specs.Backing.{is_holder}
use Rattle.zb_audit_lockout.specs.Ordered.{is_listed, opening_at, opening_cmp}
use Rattle.zb_audit_lockout.specs.Reading.{early_of, number_of, open_at}
use Rattle.zb_audit_lockout.specs.declared.back.Back.{Back}
use Rattle.zb_audit_lockout.specs.declared.opened.Opening.{Opening}
use Rattle.zb_audit_lockout.specs.declared.spread.Spread.{Spread}
use Rattle.zb_audit_lockout.specs.declared.windows.Windows.{Windows}
use Rattle.zb_model.specs.Secrets.{well_known}
use Rattle.zb_trace_watch.specs.Sets.{is_among}

-- Whether a device is among the holders of one of the keys.
abbrev pub holds_any : Back → List Key → ℕ → Bool
holds_any back keys d = list_any (λ (key : Key). is_holder back key.0 d) keys

abbrev pub is_in : BTreeSet Opening → ℕ → ℕ → Bool
is_in set n d = contains opening_cmp set (opening_at n d)

-- Some devices are forgotten, with those of `gone`. If they are still removed they are put into a set.
pub record Unmarks (w : Windows) (old new : Spread) (was now : BTreeSet Opening) (gone : ℕ → Bool) : Type 0 where
  pub keys : new.keys ≡ old.keys
  pub told : (d : ℕ) → (early_of new d ≡ early_of old d)
      ⊎ ((early_of new d ≡ 0) × ((n : ℕ) → open_at w d ≡ Some n → is_in now n d ≡ true))
  pub zero : (d : ℕ) → gone d ≡ true → early_of new d ≡ 0
  pub more : (n d : ℕ) → is_in was n d ≡ true → is_in now n d ≡ true
  pub only : (n d : ℕ) → is_in now n d ≡ true → (is_in was n d ≡ true) ⊎ (open_at w d ≡ Some n)

-- The holders of keys that no longer come out are forgotten. The list has those that are still removed.
pub record Withdraws (w : Windows) (back : Back) (old new : Spread) (cleared : List Key) (list : List Opening) :
    Type 0 where
  pub keys : new.keys ≡ old.keys
  pub told : (d : ℕ) → (early_of new d ≡ early_of old d)
      ⊎ ((early_of new d ≡ 0) × ((n : ℕ) → open_at w d ≡ Some n → is_listed n d list ≡ true))
  pub zero : (k : List ℕ) (d : ℕ) → is_among cleared k ≡ true → number_of old.keys k ≡ 0
      → (bytes_eq k well_known || is_holder back k d) ≡ true → early_of new d ≡ 0
  pub found : (n d : ℕ) → is_listed n d list ≡ true → open_at w d ≡ Some n
