-- A set with the keys of the ring.
use Rattle.std.proofs.Common.{◌≡◌, List, [], ◌∷◌, ◌++◌, Bool, true, false, cond, ◌||◌, refl, ap, sym, ◌∙◌, bytes_eq}
use Rattle.std.specs.BTreeSet.{BTreeSet}
use Rattle.std.specs.BTreeMap.{is_at}
use Rattle.std.specs.Cmp.Lexicographic.{texts_ties}
use Rattle.std.proofs.lemmas.List.{map-append}
use Rattle.std.proofs.lemmas.List.Folds.{list_any-append}
use Rattle.zb_base.specs.declared.key.Key.{Key}
use Rattle.zb_inspect.specs.Known.{is_known, key_cmp}
use Rattle.zb_inspect.specs.Rings.{has_key, is_key, keys_of}
use Rattle.zb_inspect.specs.declared.key_ring.RingKey.{RingKey}

either : (same before : Bool) → cond same true before ≡ (before || (same || false))
either true true = refl
either true false = refl
either false true = refl
either false false = refl

-- One more key.
pub known_with : (old new : BTreeSet Key) (ring : List RingKey) (k : RingKey)
    → ((key : Key) → is_known old key ≡ has_key ring key)
    → ((q : Key) → is_known new q ≡ cond (is_at (key_cmp k.key) q) true (is_known old q)) → (key : Key)
    → is_known new key ≡ has_key (ring ++ k ∷ []) key
known_with old new ring k before updates key =
    updates key
    ∙ ap (λ b. cond b true (is_known old key)) (sym (texts_ties k.key.0 key.0))
    ∙ ap (λ b. cond (bytes_eq k.key.0 key.0) true b) (before key)
    ∙ either (bytes_eq k.key.0 key.0) (has_key ring key)
    ∙ sym (list_any-append (is_key key) ring (k ∷ []))

pub sealing_keys_with : (old new : List Key) (keys more : List RingKey) (x : Key) (k : RingKey) → old ≡ keys_of keys
    → new ≡ old ++ x ∷ [] → x ≡ k.key
    → more ≡ keys ++ k ∷ [] → new ≡ keys_of more
sealing_keys_with old new keys more x k was is same also =
    is ∙ ap (λ ks. ks ++ x ∷ []) was ∙ ap (λ (y : Key). keys_of keys ++ y ∷ []) same ∙ sym
    (map-append _ keys (k ∷ [])) ∙ ap keys_of (sym also)

pub known_as : (set : BTreeSet Key) (ring more : List RingKey) → more ≡ ring
    → ((key : Key) → is_known set key ≡ has_key ring key)
    → (key : Key) → is_known set key ≡ has_key more key
known_as set ring more is known key = known key ∙ ap (λ r. has_key r key) (sym is)
