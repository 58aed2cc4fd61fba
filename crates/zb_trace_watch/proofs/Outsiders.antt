-- What outsiders may know is the list of exposed keys, as a set.
use Rattle.std.proofs.Common.{◌≡◌, ℕ, ◌≤◌, length, List, [], ◌∷◌, Bool, true, false, ◌&&◌, inl, inr, Option, Some, None, refl, ap, sym, ◌∙◌, bytes_eq, nat_eq}
use Rattle.std.specs.List.{list_any, flat_map}
use Rattle.std.specs.Option.{IfSome}
use Rattle.std.proofs.lemmas.List.Folds.{list_any-append}
use Rattle.zb_model.specs.Data.{Bytes, Term, nobody}
use Rattle.zb_model.specs.Secrets.{carried, holds, rounds, well_known}
use Rattle.zb_model.specs.Tools.{Tools}
use Rattle.zb_trace_watch.specs.Closure.{IsClosed, Passes}
use Rattle.zb_trace_watch.specs.Exposure.{Covers, IsSettled, was_removed}
use Rattle.zb_trace_watch.specs.Sayings.{exposed, Sayings}
use Rattle.zb_trace_watch.specs.Sets.{has, is_carried, node_has}
use Rattle.zb_trace_watch.specs.Standing.{carries, is_that}
use Rattle.zb_trace_watch.specs.declared.exposure.Exposure.{Exposure}
use Rattle.zb_trace_watch.proofs.Exposed.{rounds_cover, rounds_closed, rounds_least}
use Rattle.zb_trace_watch.proofs.Truth.{and_left, and_right, both, decided, either, itself, not_both, or_left, or_right, same_bytes, same_number, same_truth, itself_number}

-- What outsiders may hold is the well-known key and what removed devices ever held.
outside_has : (f : ℕ → List Bytes) (d : ℕ) (k : Bytes) (ds : List ℕ) → list_any (nat_eq d) ds ≡ true → holds (f d) k
    ≡ true → holds (flat_map f ds) k ≡ true
outside_has f d k [] gone did = cc
outside_has f d k (x ∷ ds) gone did =
    list_any-append (bytes_eq k) (f x) (flat_map f ds)
    ∙ elim (either (nat_eq d x) (list_any (nat_eq d) ds) gone) [
      | inl here ↦ or_left _ _ (ap (λ (n : ℕ). holds (f n) k) (sym (same_number d x here)) ∙ did)
      | inr there ↦ or_right _ _ (outside_has f d k ds there did)
    ]

from_outside : (f : ℕ → List Bytes) (S : Bytes → Bool) (k : Bytes) (ds : List ℕ)
    → ((d : ℕ) → list_any (nat_eq d) ds ≡ true → holds (f d) k ≡ true → S k ≡ true) → holds (flat_map f ds) k ≡ true
    → S k ≡ true
from_outside f S k [] covers there = cc
from_outside f S k (d ∷ ds) covers there =
    elim (either (holds (f d) k) (holds (flat_map f ds) k)
    (sym (list_any-append (bytes_eq k) (f d) (flat_map f ds)) ∙ there)) [
      | inl here ↦ covers d (or_left _ _ (itself_number d)) here
      | inr later ↦ from_outside f S k ds (λ e gone did. covers e (or_right _ _ gone) did) later
    ]

module _ (tools : Tools) (S : Bytes → Bool) where
  passes_any : (base key : Bytes) (t : Term) (o : Option Bytes) → carried tools t ≡ o → Passes tools S t → S base
      ≡ true → (bytes_eq base t.base && is_that o key) ≡ true → S key ≡ true
  passes_any base key t None is passes known there = cc (and_right (bytes_eq base t.base) false there)
  passes_any base key t (Some k) is passes known there =
      let here : IfSome (carried tools t) (λ (q : Bytes). S q ≡ true) =
      passes (ap S (sym (same_bytes base t.base (and_left _ _ there))) ∙ known) in
      let it : S k ≡ true = rw is at here in
      ap S (same_bytes key k (and_right _ _ there)) ∙ it

  closed_any : (base key : Bytes) (ts : List Term) → IsClosed tools S ts → S base ≡ true
      → list_any (carries tools base key) ts ≡ true → S key ≡ true
  closed_any base key [] closed known there = cc
  closed_any base key (t ∷ ts) closed known there =
      elim (either (carries tools base key t) (list_any (carries tools base key) ts) there) [
        | inl here ↦ passes_any base key t (carried tools t) refl closed.0 known here
        | inr later ↦ closed_any base key ts closed.1 known later
      ]

  passes_one : (t : Term) (o : Option Bytes)
      → ((key : Bytes) → S t.base ≡ true → (bytes_eq t.base t.base && is_that o key) ≡ true → S key ≡ true) → S t.base
      ≡ true → IfSome o (λ (key : Bytes). S key ≡ true)
  passes_one t None carries_all known = tt
  passes_one t (Some k) carries_all known = carries_all k known (both _ _ (itself t.base) (itself k))

  closed_from : (ts : List Term)
      → ((base key : Bytes) → S base ≡ true → list_any (carries tools base key) ts ≡ true → S key ≡ true)
      → IsClosed tools S ts
  closed_from [] carries_all = tt
  closed_from (t ∷ ts) carries_all = (
    passes_one t (carried tools t) (λ key known there. carries_all t.base key known (or_left _ _ there)),
    closed_from ts (λ base key known there. carries_all base key known (or_right _ _ there)),
  )

-- If the parts of an exposure are what lines say.
module _ (tools : Tools) (e : Exposure) (s : Sayings) (few : length s.terms ≤ s.lines)
    (carried_is : (base key : Bytes) → is_carried e.carried base key ≡ list_any (carries tools base key) s.terms)
    (ever_is : (node : ℕ) → nat_eq node nobody ≡ false → (key : Bytes) → node_has e.ever node key
    ≡ holds (s.ever node) key)
    (removed_is : (device : ℕ) → was_removed e device ≡ list_any (nat_eq device) s.removed)
    (somebody : list_any (nat_eq nobody) s.removed ≡ false) where
  not_nobody : (d : ℕ) → list_any (nat_eq d) s.removed ≡ true → nat_eq d nobody ≡ false
  not_nobody d gone = elim (decided (nat_eq d nobody)) [
    | inl is ↦ absurd
        (not_both _ gone (ap (λ (n : ℕ). list_any (nat_eq n) s.removed) (same_number d nobody is) ∙ somebody))
    | inr is ↦ is
  ]

  abbrev outside : List Bytes
  outside = well_known ∷ flat_map s.ever s.removed

  covers_exposed : Covers e (holds (exposed tools s))
  unfolding exposed
  covers_exposed = record {
    everybody = rounds_cover tools s.lines s.terms outside well_known refl;
    removed = λ d k gone did.
        let was : list_any (nat_eq d) s.removed ≡ true = sym (removed_is d) ∙ gone in
        rounds_cover tools s.lines s.terms outside k
        (or_right _ _ (outside_has s.ever d k s.removed was (sym (ever_is d (not_nobody d was) k) ∙ did)));
    carried = λ base key known there. closed_any tools (holds (rounds s.lines tools s.terms outside)) base key s.terms
        (rounds_closed tools s.lines s.terms outside few) known (sym (carried_is base key) ∙ there);
  }

  exposed_within : (S : Bytes → Bool) → Covers e S → (k : Bytes) → holds (exposed tools s) k ≡ true → S k ≡ true
  unfolding exposed
  exposed_within S covers k there =
      rounds_least tools s.lines s.terms outside S
      (λ q out.
      elim (either (bytes_eq q well_known) (holds (flat_map s.ever s.removed) q) out) [
        | inl is ↦ ap S (same_bytes q well_known is) ∙ covers.everybody
        | inr from ↦ from_outside s.ever S q s.removed
            (λ d was did. covers.removed d q (removed_is d ∙ was) (ever_is d (not_nobody d was) q ∙ did)) from
      ])
      (closed_from tools S s.terms
      (λ base key known carry. covers.carried base key known (carried_is base key ∙ carry))) k there

  pub known_is_exposed : IsSettled e → (k : Bytes) → has e.known k ≡ holds (exposed tools s) k
  known_is_exposed settled k =
      same_truth _ _ (settled.least (holds (exposed tools s)) covers_exposed k)
      (exposed_within (has e.known) settled.covers k)

  pub exposed_is_settled : ((k : Bytes) → has e.known k ≡ holds (exposed tools s) k) → IsSettled e
  exposed_is_settled known_is = record {
    covers = record {
      everybody = known_is well_known ∙ covers_exposed.everybody;
      removed = λ d k gone did. known_is k ∙ covers_exposed.removed d k gone did;
      carried = λ base key known there. known_is key ∙ covers_exposed.carried base key (sym (known_is base) ∙ known)
          there;
    };
    least = λ S covers k known. exposed_within S covers k (sym (known_is k) ∙ known);
  }
