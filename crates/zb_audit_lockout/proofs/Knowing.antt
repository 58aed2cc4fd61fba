-- What outsiders may know, and which nodes have such a key.
use Rattle.std.proofs.Common.{◌≡◌, ℕ, List, [], ◌∷◌, Bool, true, inl, inr, Some, refl, ap, sym, ◌∙◌, bytes_eq, nat_eq}
use Rattle.std.specs.List.{list_any, flat_map}
use Rattle.std.specs.Ordering.{nat_cmp}
use Rattle.std.proofs.lemmas.List.Folds.{list_any-append}
use Rattle.zb_base.specs.declared.key.Key.{Key}
use Rattle.zb_audit_names.specs.Naming.{place_in}
use Rattle.zb_audit_names.specs.Secrets.{ever, exposed, outside, removed_devices, terms_of}
use Rattle.zb_audit_lockout.specs.Before.{holds_known, is_live}
use Rattle.zb_audit_lockout.specs.Facts.{Recalls}
use Rattle.zb_audit_lockout.specs.Reading.{knows}
use Rattle.zb_audit_lockout.specs.declared.before.Before.{Before}
use Rattle.zb_audit_lockout.proofs.Duality.{closed, closed_any, closed_from, covers, least}
use Rattle.zb_audit_lockout.proofs.Tests.{any_at, or_none}
use Rattle.zb_model.specs.Data.{Bytes}
use Rattle.zb_model.specs.Secrets.{holds, well_known}
use Rattle.zb_model.specs.Tools.{Tools}
use Rattle.zb_trace.specs.declared.line.Line.{Line}
use Rattle.zb_trace_watch.specs.Exposure.{Covers, IsSettled, was_removed}
use Rattle.zb_trace_watch.specs.Sets.{has, is_among, is_carried, keys_at, node_has}
use Rattle.zb_trace_watch.specs.Standing.{carries}
use Rattle.zb_trace_watch.specs.declared.exposure.Exposure.{Exposure}
use Rattle.zb_trace_watch.proofs.Alike.{list_any_alike}
use Rattle.zb_trace_watch.proofs.Truth.{either, itself, itself_number, or_left, or_right, same_bytes, same_number, same_truth}

-- What removed devices ever held is among what outsiders may hold.
outside_has : (f : ℕ → List Bytes) (d : ℕ) (k : Bytes) (ds : List ℕ) → list_any (nat_eq d) ds ≡ true → holds (f d) k
    ≡ true → holds (flat_map f ds) k ≡ true
outside_has f d k [] gone did = cc
outside_has f d k (x ∷ ds) gone did =
    list_any-append (bytes_eq k) (f x) (flat_map f ds)
    ∙ elim (either (nat_eq d x) (list_any (nat_eq d) ds) gone) [
      | inl here ↦ or_left _ _ (ap (λ (n : ℕ). holds (f n) k) (sym (same_number d x here)) ∙ did)
      | inr there ↦ or_right _ _ (outside_has f d k ds there did)
    ]

from_outside : (f : ℕ → List Bytes) (S : Bytes → Bool) (k : Bytes) (ds : List ℕ)
    → ((d : ℕ) → list_any (nat_eq d) ds ≡ true → holds (f d) k ≡ true → S k ≡ true) → holds (flat_map f ds) k ≡ true
    → S k ≡ true
from_outside f S k [] covered there = cc
from_outside f S k (d ∷ ds) covered there =
    elim (either (holds (f d) k) (holds (flat_map f ds) k)
    (sym (list_any-append (bytes_eq k) (f d) (flat_map f ds)) ∙ there)) [
      | inl here ↦ covered d (or_left _ _ (itself_number d)) here
      | inr later ↦ from_outside f S k ds (λ e gone did. covered e (or_right _ _ gone) did) later
    ]

-- If the parts of an exposure are those of a list of lines.
module _ (tools : Tools) (e : Exposure) (h : List Line)
    (carried_is : (base key : Bytes) → is_carried e.carried base key ≡ list_any (carries tools base key) (terms_of h))
    (ever_is : (d : ℕ) (key : Bytes) → node_has e.ever d key ≡ holds (ever h d) key)
    (removed_is : (d : ℕ) → was_removed e d ≡ list_any (nat_eq d) (removed_devices h)) where
  covers_exposed : Covers e (holds (exposed tools h (outside h)))
  unfolding outside
  covers_exposed = record {
    everybody = covers tools h (outside h) well_known refl;
    removed = λ d k gone did.
        covers tools h (outside h) k
        (or_right _ _
        (outside_has (ever h) d k (removed_devices h) (sym (removed_is d) ∙ gone) (sym (ever_is d k) ∙ did)));
    carried = λ base key known there. closed_any tools (holds (exposed tools h (outside h))) base key (terms_of h)
        (closed tools h (outside h)) known (sym (carried_is base key) ∙ there);
  }

  exposed_within : (S : Bytes → Bool) → Covers e S → (k : Bytes) → holds (exposed tools h (outside h)) k ≡ true → S k
      ≡ true
  unfolding outside
  exposed_within S covered k there =
      least tools h (outside h) S
      (λ q out.
      elim (either (bytes_eq q well_known) (holds (flat_map (ever h) (removed_devices h)) q) out) [
        | inl is ↦ ap S (same_bytes q well_known is) ∙ covered.everybody
        | inr from ↦ from_outside (ever h) S q (removed_devices h)
            (λ d was did. covered.removed d q (removed_is d ∙ was) (ever_is d q ∙ did)) from
      ])
      (closed_from tools S (terms_of h)
      (λ base key known carry. covered.carried base key known (carried_is base key ∙ carry))) k there

  known_is : IsSettled e → (k : Bytes) → has e.known k ≡ holds (exposed tools h (outside h)) k
  known_is settled k = same_truth _ _ (settled.least (holds (exposed tools h (outside h))) covers_exposed k)
      (exposed_within (has e.known) settled.covers k)

-- Two lists with the same keys: some key of one passes a test if some key of the other does.

pub among_passes : (P : Bytes → Bool) (k : Bytes) (keys : List Key) → is_among keys k ≡ true → P k ≡ true
    → list_any (λ (key : Key). P key.0) keys ≡ true
among_passes P k [] there h = cc
among_passes P k (key ∷ keys) there h =
    elim (either (bytes_eq k key.0) (is_among keys k) there) [
      | inl here ↦ or_left _ _ (ap P (sym (same_bytes k key.0 here)) ∙ h)
      | inr later ↦ or_right _ _ (among_passes P k keys later h)
    ]

some_held : (P : Bytes → Bool) (keys : List Key) (bs : List Bytes)
    → ((k : Bytes) → is_among keys k ≡ true → holds bs k ≡ true) → list_any (λ (key : Key). P key.0) keys ≡ true
    → list_any P bs ≡ true
some_held P [] bs within some = cc
some_held P (key ∷ keys) bs within some =
    elim (either (P key.0) (list_any (λ (x : Key). P x.0) keys) some) [
      | inl here ↦ any_at P key.0 bs (within key.0 (or_left _ _ (itself key.0))) here
      | inr later ↦ some_held P keys bs (λ k there. within k (or_right _ _ there)) later
    ]

some_among : (P : Bytes → Bool) (keys : List Key) (bs : List Bytes)
    → ((k : Bytes) → holds bs k ≡ true → is_among keys k ≡ true) → list_any P bs ≡ true
    → list_any (λ (key : Key). P key.0) keys ≡ true
some_among P keys [] within some = cc
some_among P keys (b ∷ bs) within some =
    elim (either (P b) (list_any P bs) some) [
      | inl here ↦ among_passes P b keys (within b (or_left _ _ (itself b))) here
      | inr later ↦ some_among P keys bs (λ k there. within k (or_right _ _ there)) later
    ]

pub knows_is : (tools : Tools) (names : List Bytes) (b : Before) (h : List Line) (name : Bytes) (place : ℕ)
    → Recalls tools names b [] h → place_in names name ≡ Some place → knows b place ≡ holds_known tools h name
unfolding holds_known
knows_is tools names b h name place r at =
    list_any_alike (λ (key : Key). is_among (keys_at nat_cmp b.live place) key.0)
    (λ (key : Key). is_live h name key.0) (λ (key : Key). r.live name place at key.0) b.exposure.known.keys.keys
    ∙ same_truth _ _
    (some_held (is_live h name) b.exposure.known.keys.keys (exposed tools h (outside h))
    (λ k there. sym (known k) ∙ there))
    (some_among (is_live h name) b.exposure.known.keys.keys (exposed tools h (outside h)) (λ k there. known k ∙ there))
  where
    known : (k : Bytes) → has b.exposure.known k ≡ holds (exposed tools h (outside h)) k
    known = known_is tools b.exposure h (λ base key. sym (or_none _) ∙ r.carried base key)
        (λ d key. sym (or_none _) ∙ r.ever d key) (λ d. sym (or_none _) ∙ r.removed d) r.settled
