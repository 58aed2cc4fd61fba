-- A reserve fits where its limit isn't below the stored one, and makes room for the next counter.
use Rattle.std.proofs.Common.{◌≡◌, ℕ, ◌≤◌, min, max, Bool, true, false, if◌then◌else◌, List, [], ◌∷◌, map, Option, Some, None, find, option_map, is_some, refl, ap, ◌∙◌}
use Rattle.std.proofs.lemmas.Bool.{le-leb, and_from}
use Rattle.law_change_fits.proofs.FitLaws.{fits_is}
use Rattle.law_change_fits.specs.Fitting.{leaves_rules}
use Rattle.law_run.proofs.Basics.{find-map}
use Rattle.zb_model.specs.Data.{Bytes, Layer, Nwk, Aps, Reserve}
use Rattle.zb_model.specs.State.{NetKey, NodeState, same_key, at_net, of_active, reserved, net_of_active, active_row, next_of, limit_of, next_counter, stored_limit, shown_net, shown, applied, greatest_counter}
use Rattle.zb_model.specs.Fits.{keeps_rules, fits}
use Rattle.zb_stored_tables.specs.Stored.{MayReserve}

abbrev with_key : Bytes → NetKey → Bool
with_key key r = same_key r.key key

-- the row of a key that was changed
found_at : (key : Bytes) (g : NetKey → NetKey) → ((r : NetKey) → (g r).key ≡ r.key) → (rs : List NetKey)
    → find (with_key key) (at_net key g rs) ≡ option_map g (find (with_key key) rs)
found_at key g same [] = refl
found_at key g same (r ∷ rs) = by_test (same_key r.key key) refl (found_at key g same rs)
  where
    by_test : (b : Bool) → same_key r.key key ≡ b → find (with_key key) (at_net key g rs)
        ≡ option_map g (find (with_key key) rs)
        → find (with_key key) ((if b then g r else r) ∷ at_net key g rs)
        ≡ option_map g (if b then Some r else find (with_key key) rs)
    by_test true is further = rw (ap (λ (k : Bytes). same_key k key) (same r) ∙ is) refl
    by_test false is further = rw is further

active_reserved : (limit : ℕ) (s : NodeState) → active_row (applied (Reserve Nwk limit) s)
    ≡ option_map (reserved limit) (active_row s)
unfolding active_row applied
active_reserved limit s = by_active s.active
  where
    by_active : (o : Option Bytes) → net_of_active o (record s { nets = of_active (reserved limit) o s.nets })
        ≡ option_map (reserved limit) (net_of_active o s)
    by_active None = refl
    by_active (Some key) = found_at key (reserved limit) (λ r. refl) s.nets

active_shown : (s : NodeState) → active_row (shown s) ≡ option_map shown_net (active_row s)
unfolding active_row shown
active_shown s = by_active s.active
  where
    by_active : (o : Option Bytes) → net_of_active o (record s { nets = map shown_net s.nets })
        ≡ option_map shown_net (net_of_active o s)
    by_active None = refl
    by_active (Some key) = find-map (with_key key) shown_net (λ r. refl) s.nets

next_same : (f : NetKey → NetKey) → ((r : NetKey) → (f r).next ≡ r.next) → (declared : ℕ) (o : Option NetKey)
    → next_of declared (option_map f o) ≡ next_of declared o
next_same f same declared None = refl
next_same f same declared (Some r) = same r

limit_same : (f : NetKey → NetKey) → ((r : NetKey) → (f r).limit ≡ r.limit) → (declared : ℕ) (o : Option NetKey)
    → limit_of declared (option_map f o) ≡ limit_of declared o
limit_same f same declared None = refl
limit_same f same declared (Some r) = same r

pub active_after : (limit : ℕ) (s : NodeState) → active_row (shown (applied (Reserve Nwk limit) s))
    ≡ option_map shown_net (option_map (reserved limit) (active_row s))
active_after limit s = active_shown (applied (Reserve Nwk limit) s) ∙ ap (option_map shown_net)
    (active_reserved limit s)

reserved_limit : (limit declared : ℕ) (o : Option NetKey) → is_some o ≡ true
    → limit_of declared (option_map (reserved limit) o) ≡ max (limit_of declared o) (min limit greatest_counter)
reserved_limit limit declared None some = absurd (cc)
reserved_limit limit declared (Some r) some = refl

-- the next counter stays
pub next_reserved : (layer : Layer) (limit : ℕ) (s : NodeState)
    → next_counter layer (shown (applied (Reserve layer limit) s)) ≡ next_counter layer s
unfolding next_counter shown applied
next_reserved Nwk limit s =
    ap (next_of s.declared) (active_after limit s)
    ∙ next_same shown_net (λ r. refl) s.declared (option_map (reserved limit) (active_row s))
    ∙ next_same (reserved limit) (λ r. refl) s.declared (active_row s)
next_reserved Aps limit s = refl

-- and the stored limit is the new one, where it was lower
pub limit_reserved : (layer : Layer) (limit : ℕ) (s : NodeState) → MayReserve layer s
    → stored_limit layer (shown (applied (Reserve layer limit) s))
    ≡ max (stored_limit layer s) (min limit greatest_counter)
unfolding stored_limit shown applied
limit_reserved Nwk limit s may =
    ap (limit_of s.declared) (active_after limit s)
    ∙ limit_same shown_net (λ r. refl) s.declared (option_map (reserved limit) (active_row s))
    ∙ reserved_limit limit s.declared (active_row s) may
limit_reserved Aps limit s may = refl

pub reserve_fits : (layer : Layer) (limit : ℕ) (s : NodeState) → keeps_rules s ≡ true → MayReserve layer s
    → stored_limit layer s ≤ limit → fits (Reserve layer limit) s ≡ true
unfolding leaves_rules stored_limit
reserve_fits Nwk limit s kept may low = fits_is (Reserve Nwk limit) s kept ∙ and_from _ true
    (and_from _ _ may (le-leb _ _ low)) refl
reserve_fits Aps limit s kept may low = fits_is (Reserve Aps limit) s kept ∙ and_from _ true (le-leb _ _ low) refl
