-- What outsiders may know stays the least set that covers what they get, as they get more.
use Rattle.std.proofs.Common.{◌≡◌, ℕ, List, [], ◌∷◌, Bool, true, false, ◌||◌, ◌&&◌, ◌⊎◌, inl, inr, refl, ap, sym, ◌∙◌, bytes_eq, nat_eq}
use Rattle.std.specs.BTreeSet.{BTreeSet, contains}
use Rattle.zb_base.specs.declared.address.Eui.{Eui}
use Rattle.zb_base.specs.declared.key.Key.{Key}
use Rattle.zb_model.specs.Secrets.{well_known}
use Rattle.zb_trace_watch.specs.Exposure.{Covers, IsSettled, Learns, was_removed}
use Rattle.zb_trace_watch.specs.Sets.{has, is_among, is_carried, held, keys_at, node_has, eui_cmp}
use Rattle.zb_trace_watch.specs.declared.exposure.Exposure.{Exposure}
use Rattle.zb_trace_watch.specs.declared.holdings.Holdings.{Holdings}
use Rattle.zb_trace_watch.specs.declared.keys.Keys.{Keys}
use Rattle.zb_trace_watch.proofs.Truth.{either, or_left, or_right, and_left, and_right, both, none_left, decided, not_both, same_bytes, itself, same_number, itself_number}

pub learns_nothing : (carried : Holdings Key) (known : Keys) → Learns carried known known []
learns_nothing carried known = record {
  keeps = λ k h. h;
  learns = λ k h. cc;
  opens = λ b k unknown there h. absurd (not_both (has known b) there unknown);
  least = λ S old more closed. old;
}

module _ (e new : Exposure) (keys : List Key) (settled : IsSettled e)
    (learns : Learns new.carried e.known new.known keys)
    (more_held : (d : ℕ) (k : List ℕ) → was_removed e d ≡ true → node_has e.ever d k ≡ true
    → (was_removed new d ≡ true) × (node_has new.ever d k ≡ true))
    (more_carried : (b k : List ℕ) → is_carried e.carried b k ≡ true → is_carried new.carried b k ≡ true)
    (held_new : (d : ℕ) (k : List ℕ) → was_removed new d ≡ true → node_has new.ever d k ≡ true
    → (has e.known k || is_among keys k) ≡ true)
    (carried_new : (b k : List ℕ) → has e.known b ≡ true → is_carried new.carried b k ≡ true
    → (has e.known k || is_among keys k) ≡ true)
    (justified : (S : List ℕ → Bool) → Covers new S → ((k : List ℕ) → has e.known k ≡ true → S k ≡ true)
    → (k : List ℕ) → is_among keys k ≡ true → S k ≡ true) where
  learnt : (k : List ℕ) → (has e.known k || is_among keys k) ≡ true → has new.known k ≡ true
  learnt k h = elim (either (has e.known k) (is_among keys k) h)
      [ inl before ↦ learns.keeps k before | inr more ↦ learns.learns k more ]

  opened : (b k : List ℕ) → (has e.known b ≡ true) ⊎ (has e.known b ≡ false) → has new.known b ≡ true
      → is_carried new.carried b k ≡ true → has new.known k ≡ true
  opened b k (inl before) known there = learnt k (carried_new b k before there)
  opened b k (inr unknown) known there = learns.opens b k unknown known there

  weaker : (S : List ℕ → Bool) → Covers new S → Covers e S
  weaker S covers = record {
    everybody = covers.everybody;
    removed = λ d k gone did. let more = more_held d k gone did in covers.removed d k more.0 more.1;
    carried = λ b k known there. covers.carried b k known (more_carried b k there);
  }

  pub settles_again : IsSettled new
  settles_again = record {
    covers = record {
      everybody = learns.keeps well_known settled.covers.everybody;
      removed = λ d k gone did. learnt k (held_new d k gone did);
      carried = λ b k known there. opened b k (decided (has e.known b)) known there;
    };
    least = λ S covers. learns.least S (settled.least S (weaker S covers))
        (justified S covers (settled.least S (weaker S covers))) covers.carried;
  }

pub one_key : (key : Key) (k : List ℕ) → is_among (key ∷ []) k ≡ true → k ≡ key.0
one_key key k h = same_bytes k key.0 (none_left (bytes_eq k key.0) h)

pub is_one : (key : Key) (k : List ℕ) → bytes_eq k key.0 ≡ true → is_among (key ∷ []) k ≡ true
is_one key k h = or_left _ _ h

-- A node holds one more key.
module _ (e : Exposure) (ever : Holdings Eui) (device : ℕ) (key : Key)
    (holds : (d : ℕ) (k : List ℕ) → held eui_cmp ever (record { 0 = d }) k
    ≡ (node_has e.ever d k || (nat_eq d device && bytes_eq k key.0))) where
  abbrev holding : Keys → Exposure
  holding known = record e { ever = ever; known = known }

  holds_more : (known : Keys) (d : ℕ) (k : List ℕ) → was_removed e d ≡ true → node_has e.ever d k ≡ true
      → (was_removed (holding known) d ≡ true) × (node_has ever d k ≡ true)
  holds_more known d k gone did = (gone, holds d k ∙ or_left _ _ did)

  pub settled_by_removed : was_removed e device ≡ true → (known : Keys) → Learns e.carried e.known known (key ∷ [])
      → IsSettled e → IsSettled (holding known)
  settled_by_removed removed known learns settled =
      settles_again e (holding known) (key ∷ []) settled learns (holds_more known) (λ b k there. there)
      (λ d k gone did.
      elim (either (node_has e.ever d k) (nat_eq d device && bytes_eq k key.0) (sym (holds d k) ∙ did)) [
        | inl before ↦ or_left _ _ (settled.covers.removed d k gone before)
        | inr it ↦ or_right _ _ (is_one key k (and_right _ _ it))
      ])
      (λ b k before there. or_left _ _ (settled.covers.carried b k before there))
      (λ S covers old k there.
      ap S (one_key key k there) ∙ covers.removed device key.0 removed
      (holds device key.0 ∙ or_right _ _ (both _ _ (itself_number device) (itself key.0))))

  pub settled_by_other : was_removed e device ≡ false → IsSettled e → IsSettled (holding e.known)
  settled_by_other stays settled =
      settles_again e (holding e.known) [] settled (learns_nothing e.carried e.known) (holds_more e.known)
      (λ b k there. there)
      (λ d k gone did.
      elim (either (node_has e.ever d k) (nat_eq d device && bytes_eq k key.0) (sym (holds d k) ∙ did)) [
        | inl before ↦ or_left _ _ (settled.covers.removed d k gone before)
        | inr it ↦ absurd
            (not_both (was_removed e d) gone (ap (was_removed e) (same_number d device (and_left _ _ it)) ∙ stays))
      ])
      (λ b k before there. or_left _ _ (settled.covers.carried b k before there))
      (λ S covers old k there. cc)

-- A term carries one more key.
module _ (e : Exposure) (carried : Holdings Key) (base key : Key)
    (carries : (b k : List ℕ) → is_carried carried b k
    ≡ (is_carried e.carried b k || (bytes_eq b base.0 && bytes_eq k key.0))) where
  abbrev carrying : Keys → Exposure
  carrying known = record e { carried = carried; known = known }

  pub settled_by_known : has e.known base.0 ≡ true → (known : Keys) → Learns carried e.known known (key ∷ [])
      → IsSettled e → IsSettled (carrying known)
  settled_by_known is_known known learns settled =
      settles_again e (carrying known) (key ∷ []) settled learns (λ d k gone did. (gone, did))
      (λ b k there. carries b k ∙ or_left _ _ there)
      (λ d k gone did. or_left _ _ (settled.covers.removed d k gone did))
      (λ b k before there.
      elim (either (is_carried e.carried b k) (bytes_eq b base.0 && bytes_eq k key.0) (sym (carries b k) ∙ there)) [
        | inl old ↦ or_left _ _ (settled.covers.carried b k before old)
        | inr it ↦ or_right _ _ (is_one key k (and_right _ _ it))
      ])
      (λ S covers old k there.
      ap S (one_key key k there) ∙ covers.carried base.0 key.0 (old base.0 is_known)
      (carries base.0 key.0 ∙ or_right _ _ (both _ _ (itself base.0) (itself key.0))))

  pub settled_by_unknown : has e.known base.0 ≡ false → IsSettled e → IsSettled (carrying e.known)
  settled_by_unknown shut settled =
      settles_again e (carrying e.known) [] settled (learns_nothing carried e.known) (λ d k gone did. (gone, did))
      (λ b k there. carries b k ∙ or_left _ _ there)
      (λ d k gone did. or_left _ _ (settled.covers.removed d k gone did))
      (λ b k before there.
      elim (either (is_carried e.carried b k) (bytes_eq b base.0 && bytes_eq k key.0) (sym (carries b k) ∙ there)) [
        | inl old ↦ or_left _ _ (settled.covers.carried b k before old)
        | inr it ↦ absurd
            (not_both (has e.known b) before (ap (has e.known) (same_bytes b base.0 (and_left _ _ it)) ∙ shut))
      ])
      (λ S covers old k there. cc)

-- One more device is removed.
module _ (e : Exposure) (removed : BTreeSet Eui) (device : Eui)
    (removes : (d : ℕ) → was_removed (record e { removed = removed }) d ≡ (was_removed e d || nat_eq d device.0)) where
  abbrev removing : Keys → Exposure
  removing known = record e { removed = removed; known = known }

  pub settled_by_removal : (known : Keys) → Learns e.carried e.known known (keys_at eui_cmp e.ever device)
      → IsSettled e → IsSettled (removing known)
  settled_by_removal known learns settled =
      settles_again e (removing known) (keys_at eui_cmp e.ever device) settled learns
      (λ d k gone did. (removes d ∙ or_left _ _ gone, did)) (λ b k there. there)
      (λ d k gone did.
      elim (either (was_removed e d) (nat_eq d device.0) (sym (removes d) ∙ gone)) [
        | inl before ↦ or_left _ _ (settled.covers.removed d k before did)
        | inr it ↦ or_right _ _ (ap (λ (x : ℕ). node_has e.ever x k) (sym (same_number d device.0 it)) ∙ did)
      ])
      (λ b k before there. or_left _ _ (settled.covers.carried b k before there))
      (λ S covers old k there. covers.removed device.0 k (removes device.0 ∙ or_right _ _ (itself_number device.0))
      there)

-- At the start only the well-known key is known.
pub settled_at_first : (e : Exposure) (none : Keys) (key : Key) → key.0 ≡ well_known
    → ((k : List ℕ) → has none k ≡ false) → ((d : ℕ) → was_removed e d ≡ false)
    → Learns e.carried none e.known (key ∷ []) → IsSettled e
settled_at_first e none key is nothing stays learns = record {
  covers = record {
    everybody =
        learns.learns well_known
        (is_one key well_known (ap (λ (k : List ℕ). bytes_eq k key.0) (sym is) ∙ itself key.0));
    removed = λ d k gone did. absurd (not_both (was_removed e d) gone (stays d));
    carried = λ b k known there. learns.opens b k (nothing b) known there;
  };
  least = λ S covers.
      learns.least S (λ k h. absurd (not_both (has none k) h (nothing k)))
      (λ k h. ap S (one_key key k h ∙ is) ∙ covers.everybody) covers.carried;
}

pub none_removed : (removed : BTreeSet Eui) → removed.keys ≡ [] → (d : ℕ)
    → contains eui_cmp removed (record { 0 = d }) ≡ false
none_removed removed none d = rw none refl
