-- What outsiders may know.
use Rattle.std.specs.Prelude.{◌≡◌, ℕ, List, Bool, true, false}
use Rattle.std.specs.BTreeSet.{contains}
use Rattle.zb_base.specs.declared.key.Key.{Key}
use Rattle.zb_model.specs.Secrets.{well_known}
use Rattle.zb_trace_watch.specs.Sets.{eui_cmp, has, is_among, is_carried, node_has}
use Rattle.zb_trace_watch.specs.declared.exposure.Exposure.{Exposure}
use Rattle.zb_trace_watch.specs.declared.holdings.Holdings.{Holdings}
use Rattle.zb_trace_watch.specs.declared.keys.Keys.{Keys}

-- Whether the device was removed.
abbrev pub was_removed : Exposure → ℕ → Bool
was_removed e device = contains eui_cmp e.removed (record { 0 = device })

-- The sets of keys that outsiders may know at least. They have the well-known key, what removed devices ever held,
-- and with a base key also what terms carry under it.
pub record Covers (e : Exposure) (S : List ℕ → Bool) : Type 0 where
  pub everybody : S well_known ≡ true
  pub removed : (d : ℕ) (k : List ℕ) → was_removed e d ≡ true → node_has e.ever d k ≡ true → S k ≡ true
  pub carried : (b k : List ℕ) → S b ≡ true → is_carried e.carried b k ≡ true → S k ≡ true

-- What is known is the least such set.
pub record IsSettled (e : Exposure) : Type 0 where
  pub covers : Covers e (has e.known)
  pub least : (S : List ℕ → Bool) → Covers e S → (k : List ℕ) → has e.known k ≡ true → S k ≡ true

-- What a set of keys becomes as it learns more keys, and all keys that come out under the new ones: the least such
-- set.
pub record Learns (carried : Holdings Key) (old new : Keys) (keys : List Key) : Type 0 where
  pub keeps : (k : List ℕ) → has old k ≡ true → has new k ≡ true
  pub learns : (k : List ℕ) → is_among keys k ≡ true → has new k ≡ true
  pub opens : (b k : List ℕ) → has old b ≡ false → has new b ≡ true → is_carried carried b k ≡ true → has new k ≡ true
  pub least : (S : List ℕ → Bool) → ((k : List ℕ) → has old k ≡ true → S k ≡ true)
      → ((k : List ℕ) → is_among keys k ≡ true → S k ≡ true)
      → ((b k : List ℕ) → S b ≡ true → is_carried carried b k ≡ true → S k ≡ true)
      → (k : List ℕ) → has new k ≡ true → S k ≡ true
