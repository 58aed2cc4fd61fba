-- Which keys come out for removed devices, and how early these were removed.
use Rattle.std.specs.Prelude.{◌≡◌, ◌≤◌, ◌⊎◌, ◌||◌, ℕ, List, Bool, true, bytes_eq}
use Rattle.zb_base.specs.declared.address.Eui.{Eui}
use Rattle.zb_base.specs.declared.key.Key.{Key}
use Rattle.zb_audit_lockout.specs.Reading.{early_of, number_of}
use Rattle.zb_audit_lockout.specs.declared.spread.Spread.{Spread}
use Rattle.zb_model.specs.Secrets.{well_known}
use Rattle.zb_trace_watch.specs.Sets.{is_among, is_carried, node_has}
use Rattle.zb_trace_watch.specs.declared.holdings.Holdings.{Holdings}

-- Whether a device holds a key: everybody holds the well-known key.
abbrev pub has_key : Holdings Eui → ℕ → List ℕ → Bool
has_key held d k = bytes_eq k well_known || node_has held d k

-- A key is at least as early as each device that holds it, and as each key under which a term carries it.
pub record IsSpread (leads : Holdings Key) (held : Holdings Eui) (s : Spread) : Type 0 where
  pub has : (d : ℕ) (k : List ℕ) → has_key held d k ≡ true → early_of s d ≤ number_of s.keys k
  pub carried : (b k : List ℕ) → is_carried leads b k ≡ true → number_of s.keys b ≤ number_of s.keys k

-- The same, except for some keys, which have yet to become as early as that.
pub record IsSpreadBut (leads : Holdings Key) (held : Holdings Eui) (s : Spread) (left : List Key) (early : ℕ) :
    Type 0 where
  pub has : (d : ℕ) (k : List ℕ) → has_key held d k ≡ true → (early_of s d ≤ number_of s.keys k)
      ⊎ ((is_among left k ≡ true) × (early_of s d ≤ early))
  pub carried : (b k : List ℕ) → is_carried leads b k ≡ true → (number_of s.keys b ≤ number_of s.keys k)
      ⊎ ((is_among left k ≡ true) × (number_of s.keys b ≤ early))

-- A set that has the keys of a device, and with a key all that terms carry under it.
pub record IsShut (leads : Holdings Key) (held : Holdings Eui) (d : ℕ) (S : List ℕ → Bool) : Type 0 where
  pub has : (k : List ℕ) → has_key held d k ≡ true → S k ≡ true
  pub carried : (b k : List ℕ) → S b ≡ true → is_carried leads b k ≡ true → S k ≡ true

-- A device is noted as removed this early. These keys come out for it, and became as early as that.
pub record Enters (leads : Holdings Key) (held : Holdings Eui) (old new : Spread) (d early : ℕ) (raised : List Key) :
    Type 0 where
  pub spread : IsSpread leads held old → IsSpread leads held new
  pub reached : early ≤ early_of new d
  pub kept : (e : ℕ) → early_of old e ≤ early_of new e
  pub told : (k : List ℕ) → (number_of new.keys k ≡ number_of old.keys k)
      ⊎ ((number_of new.keys k ≡ early) × (is_among raised k ≡ true))
  pub least : (S : List ℕ → Bool) → IsShut leads held d S → (k : List ℕ) → is_among raised k ≡ true → S k ≡ true
