-- Tests of lists.
use Rattle.std.proofs.Common.{◌≡◌, List, [], ◌∷◌, Bool, true, false, not, ◌||◌, ◌&&◌, ◌⊎◌, inl, inr, refl, ap, sym, ◌∙◌, bytes_eq}
use Rattle.std.specs.List.{list_any}
use Rattle.zb_model.specs.Data.{Bytes}
use Rattle.zb_model.specs.Secrets.{holds}
use Rattle.zb_trace_watch.proofs.Truth.{either, or_left, or_right, same_bytes, itself}

pub or_none : (a : Bool) → (a || false) ≡ a
or_none true = refl
or_none false = refl

pub or_assoc : (a b c : Bool) → ((a || b) || c) ≡ (a || (b || c))
or_assoc true b c = refl
or_assoc false b c = refl

pub left_off : (a b : Bool) → (a || b) ≡ false → a ≡ false
left_off false b h = refl
left_off true b h = cc

pub right_off : (a b : Bool) → (a || b) ≡ false → b ≡ false
right_off false b h = h
right_off true b h = cc

pub both_off : (a b : Bool) → a ≡ false → b ≡ false → (a || b) ≡ false
both_off a b e f = rw (e, f) refl

pub and_off : (a b : Bool) → (a && b) ≡ false → (a ≡ false) ⊎ (b ≡ false)
and_off false b h = inl refl
and_off true b h = inr h

pub off_left : (a b : Bool) → a ≡ false → (a && b) ≡ false
off_left a b h = rw h refl

pub off_right : (a b : Bool) → b ≡ false → (a && b) ≡ false
off_right true b h = h
off_right false b h = refl

pub not_on : (a : Bool) → a ≡ false → not a ≡ true
not_on a h = rw h refl

pub not_off : (a : Bool) → a ≡ true → not a ≡ false
not_off a h = rw h refl

pub was_off : (a : Bool) → not a ≡ true → a ≡ false
was_off false h = refl
was_off true h = cc

pub was_on : (a : Bool) → not a ≡ false → a ≡ true
was_on true h = refl
was_on false h = cc

-- Some key of a list passes a test, or none does.
pub any_at : (p : Bytes → Bool) (q : Bytes) (keys : List Bytes) → holds keys q ≡ true → p q ≡ true → list_any p keys
    ≡ true
any_at p q [] there h = cc
any_at p q (k ∷ keys) there h =
    elim (either (bytes_eq q k) (holds keys q) there) [
      | inl here ↦ or_left _ _ (ap p (sym (same_bytes q k here)) ∙ h)
      | inr later ↦ or_right _ _ (any_at p q keys later h)
    ]

pub none_any : (p : Bytes → Bool) (keys : List Bytes) → ((q : Bytes) → holds keys q ≡ true → p q ≡ false)
    → list_any p keys ≡ false
none_any p [] none = refl
none_any p (k ∷ keys) none = both_off _ _ (none k (or_left _ _ (itself k)))
    (none_any p keys (λ q there. none q (or_right _ _ there)))
