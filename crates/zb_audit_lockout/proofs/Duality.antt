-- What comes out: the least closed set that has some keys.
use Rattle.zb_model.specs.Lines as log
use Rattle.zb_model.specs.Secrets as model
use Rattle.std.proofs.Common.{◌≡◌, ℕ, suc, List, [], ◌∷◌, length, Bool, true, false, ◌&&◌, inl, inr, Option, Some, None, refl, ap, sym, ◌∙◌, subst, bytes_eq}
use Rattle.std.specs.List.{list_any, flat_map}
use Rattle.std.specs.Option.{IfSome}
use Rattle.zb_audit_names.specs.Secrets.{exposed, terms_in, terms_of}
use Rattle.zb_model.specs.Data.{Bytes, Term}
use Rattle.zb_model.specs.Secrets.{carried, holds}
use Rattle.zb_model.specs.Tools.{Tools}
use Rattle.zb_model_real.specs.Terms.{model_term}
use Rattle.zb_trace.specs.declared.line.Line.{Line}
use Rattle.zb_trace.specs.declared.line.Line.TheVariants as line
use Rattle.zb_trace_watch.specs.Closure.{IsClosed, Passes}
use Rattle.zb_trace_watch.specs.Standing.{carries, is_that}
use Rattle.zb_trace_watch.proofs.Exposed.{exposed_covers, exposed_closed, exposed_least}
use Rattle.zb_trace_watch.proofs.Truth.{and_left, and_right, both, either, itself, or_left, or_right, same_bytes}

-- What comes out depends only on the terms.

abbrev plain : Line → log.Line
plain (line.Seal event node t) = log.Seal event 0 (model_term t)
plain (line.Forge event t) = log.Forge event (model_term t)
plain _ = log.Commit 0 0

plain_terms : (l : Line) → model.terms_in (plain l) ≡ terms_in l
plain_terms (line.Seal event node t) = refl
plain_terms (line.Forge event t) = refl
plain_terms _ = refl

abbrev plain_lines : List Line → List log.Line
plain_lines [] = []
plain_lines (l ∷ h) = plain l ∷ plain_lines h

plain_length : (h : List Line) → length (plain_lines h) ≡ length h
plain_length [] = refl
plain_length (l ∷ h) = ap (λ (n : ℕ). suc n) (plain_length h)

plain_all : (h : List Line) → flat_map model.terms_in (plain_lines h) ≡ flat_map terms_in h
plain_all [] = refl
plain_all (l ∷ h) = rw (plain_terms l, plain_all h) refl

module _ (tools : Tools) (h : List Line) where
  as_plain : (from : List Bytes) → model.exposed tools (plain_lines h) from ≡ exposed tools h from
  unfolding model.exposed model.terms_of exposed terms_of
  as_plain from = rw (plain_length h, plain_all h) refl

  plain_terms_of : model.terms_of (plain_lines h) ≡ terms_of h
  unfolding model.terms_of terms_of
  plain_terms_of = plain_all h

  pub covers : (from : List Bytes) (k : Bytes) → holds from k ≡ true → holds (exposed tools h from) k ≡ true
  covers from k there = ap (λ (keys : List Bytes). holds keys k) (sym (as_plain from)) ∙ exposed_covers tools
      (plain_lines h) from k there

  pub closed : (from : List Bytes) → IsClosed tools (holds (exposed tools h from)) (terms_of h)
  closed from =
      subst (λ (ts : List Term). IsClosed tools (holds (exposed tools h from)) ts) plain_terms_of
      (subst (λ (keys : List Bytes). IsClosed tools (holds keys) (model.terms_of (plain_lines h))) (as_plain from)
      (exposed_closed tools (plain_lines h) from))

  pub least : (from : List Bytes) (S : Bytes → Bool) → ((k : Bytes) → holds from k ≡ true → S k ≡ true)
      → IsClosed tools S (terms_of h)
      → (k : Bytes) → holds (exposed tools h from) k ≡ true → S k ≡ true
  least from S start shut k there =
      exposed_least tools (plain_lines h) from S start
      (subst (λ (ts : List Term). IsClosed tools S ts) (sym plain_terms_of) shut) k
      (ap (λ (keys : List Bytes). holds keys k) (as_plain from) ∙ there)

-- Closed sets, key by key.

module _ (tools : Tools) (S : Bytes → Bool) where
  passes_any : (base key : Bytes) (t : Term) (o : Option Bytes) → carried tools t ≡ o → Passes tools S t → S base
      ≡ true → (bytes_eq base t.base && is_that o key) ≡ true → S key ≡ true
  passes_any base key t None is passes known there = cc (and_right (bytes_eq base t.base) false there)
  passes_any base key t (Some k) is passes known there =
      let here : IfSome (carried tools t) (λ (q : Bytes). S q ≡ true) =
      passes (ap S (sym (same_bytes base t.base (and_left _ _ there))) ∙ known) in
      let it : S k ≡ true = rw is at here in
      ap S (same_bytes key k (and_right _ _ there)) ∙ it

  pub closed_any : (base key : Bytes) (ts : List Term) → IsClosed tools S ts → S base ≡ true
      → list_any (carries tools base key) ts ≡ true → S key ≡ true
  closed_any base key [] shut known there = cc
  closed_any base key (t ∷ ts) shut known there =
      elim (either (carries tools base key t) (list_any (carries tools base key) ts) there) [
        | inl here ↦ passes_any base key t (carried tools t) refl shut.0 known here
        | inr later ↦ closed_any base key ts shut.1 known later
      ]

  passes_one : (t : Term) (o : Option Bytes)
      → ((key : Bytes) → S t.base ≡ true → (bytes_eq t.base t.base && is_that o key) ≡ true → S key ≡ true) → S t.base
      ≡ true → IfSome o (λ (key : Bytes). S key ≡ true)
  passes_one t None carries_all known = tt
  passes_one t (Some k) carries_all known = carries_all k known (both _ _ (itself t.base) (itself k))

  pub closed_from : (ts : List Term)
      → ((base key : Bytes) → S base ≡ true → list_any (carries tools base key) ts ≡ true → S key ≡ true)
      → IsClosed tools S ts
  closed_from [] carries_all = tt
  closed_from (t ∷ ts) carries_all = (
    passes_one t (carried tools t) (λ key known there. carries_all t.base key known (or_left _ _ there)),
    closed_from ts (λ base key known there. carries_all base key known (or_right _ _ there)),
  )
