-- A network key that a member has in a live row is refused neither as old nor because of full rows.
use Rattle.std.proofs.Common.{◌≡◌, ℕ, ◌+◌, ◌≤◌, Bool, true, false, not, ◌&&◌, ◌||◌, if◌then◌else◌, List, [], ◌∷◌, find, Some, None, refl, sym, ap, ◌∙◌}
use Rattle.std.specs.List.{list_any}
use Rattle.std.proofs.lemmas.Bool.{false≢true, not-true, le-ltb}
use Rattle.zb_model.specs.Commands.{dropped_at}
use Rattle.zb_model.specs.Data.{Bytes}
use Rattle.zb_model.specs.Fits.{all_apart, keeps_rules, live_net, row_is_live}
use Rattle.zb_model.specs.State.{NetKey, LinkKey, NodeState, same_key}
use Rattle.law_change_fits.proofs.Parts.{nets_alike, rules_of, same_key_is, same_key_sym}
use Rattle.law_change_fits.proofs.Tests.{both, neither, none_where}
use Rattle.law_recovery.specs.Rejoining.{why_not_taken}

abbrev is_key : Bytes → NetKey → Bool
is_key key r = same_key r.key key

none_old : (key : Bytes) (place : ℕ) (rs : List NetKey) → list_any (is_key key) rs ≡ false → dropped_at place key rs
    ≡ None
none_old key place [] e = refl
none_old key place (r ∷ rs) e =
    let parts = neither (is_key key r) (list_any (is_key key) rs) e in
    rw parts.0 (none_old key (place + 1) rs parts.1)

-- if a row has a key and no other row is like it, no other row has that key
no_other : (key : Bytes) (r : NetKey) (rs : List NetKey) → is_key key r ≡ true → list_any (nets_alike r) rs ≡ false
    → list_any (is_key key) rs ≡ false
no_other key r rs is apart =
    none_where (nets_alike r) (is_key key)
    (λ x e. same_key_sym x.key key ∙ ap (λ k. same_key k x.key) (sym (same_key_is r.key key is)) ∙ e) rs apart

not_old : (key : Bytes) (place : ℕ) (rs : List NetKey) → all_apart nets_alike rs ≡ true
    → row_is_live (find (is_key key) rs) ≡ true → dropped_at place key rs ≡ None
not_old key place [] apart live = refl
not_old key place (r ∷ rs) apart live =
    let parts = both (not (list_any (nets_alike r) rs)) (all_apart nets_alike rs) apart in
    by_test (is_key key r) refl live (λ next. not_old key (place + 1) rs parts.1 next)
    (not-true (list_any (nets_alike r) rs) parts.0)
  where
    by_test : (b : Bool) → is_key key r ≡ b → row_is_live (if b then Some r else find (is_key key) rs) ≡ true
        → (row_is_live (find (is_key key) rs) ≡ true → dropped_at (place + 1) key rs ≡ None)
        → list_any (nets_alike r) rs ≡ false
        → (if b && not r.live then Some place else dropped_at (place + 1) key rs) ≡ None
    by_test true is live more alone = rw live (none_old key (place + 1) rs (no_other key r rs is alone))
    by_test false is live more alone = more live

has_it : (key : Bytes) (rs : List NetKey) → row_is_live (find (is_key key) rs) ≡ true → list_any (is_key key) rs ≡ true
has_it key [] live = absurd (false≢true live)
has_it key (r ∷ rs) live = by_test (is_key key r) live (has_it key rs)
  where
    by_test : (b : Bool) → row_is_live (if b then Some r else find (is_key key) rs) ≡ true
        → (row_is_live (find (is_key key) rs) ≡ true → list_any (is_key key) rs ≡ true)
        → (b || list_any (is_key key) rs) ≡ true
    by_test true live more = refl
    by_test false live more = more live

pub live_taken : (t : NodeState) (own : LinkKey) (counter : ℕ) (key : Bytes) → keeps_rules t ≡ true → live_net key t
    ≡ true → own.kept ≤ counter → why_not_taken t own counter key ≡ None
unfolding why_not_taken
live_taken t own counter key rules live le =
    rw (le-ltb counter own.kept le, not_old key 0 t.nets (rules_of t rules).net_keys live, has_it key t.nets live) refl
