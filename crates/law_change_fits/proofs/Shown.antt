-- No change needs what tables forget, which are the floors of dropped network keys.
use Rattle.std.proofs.Common.{◌≡◌, ℕ, List, [], ◌∷◌, length, map, filter, refl, sym, ap, ◌∙◌, Bool, true, false, not, if◌then◌else◌, ◌&&◌, Option, Some, None}
use Rattle.std.specs.Prelude.{find, nat_le, nat_lt, option_map, is_some}
use Rattle.std.proofs.lemmas.List.{length-map}
use Rattle.zb_model.specs.Data.{Bytes, Nwk, Aps, Move, Draw, DropNet, DropLink, Install, Active, Row, Pair, Became, Live, Removed, Roll, Told, Untold, Edit, Reserve, Floor, Start, Moved}
use Rattle.zb_model.specs.State.{NodeState, NetKey, same_key, shown, shown_net, net_of, net_of_active, active_row, has_net, stored_limit, limit_of, is_live, pair_of}
use Rattle.zb_model.specs.Fits.{keeps_rules, may_change, may_move, fits, row_is_live, net_stored, net_limit}
use Rattle.law_change_fits.specs.Fitting.{leaves_rules, move_leaves, floor_has_room}
use Rattle.law_change_fits.proofs.Tests.{any_map, all_map}
use Rattle.law_change_fits.proofs.Parts.{rules_of, floors_rule}
use Rattle.law_change_fits.proofs.Nets.{Mild, mild_kept}
use Rattle.law_change_fits.proofs.FitLaws.{fits_is}

found_shown : (key : Bytes) (nets : List NetKey) → find (λ (r : NetKey). same_key r.key key) (map shown_net nets)
    ≡ option_map shown_net (find (λ (r : NetKey). same_key r.key key) nets)
found_shown key [] = refl
found_shown key (r ∷ rs) = at_test (same_key r.key key) (found_shown key rs)
  where
    at_test : (b : Bool) → find (λ (x : NetKey). same_key x.key key) (map shown_net rs)
        ≡ option_map shown_net (find (λ (x : NetKey). same_key x.key key) rs)
        → (if b then Some (shown_net r) else find (λ (x : NetKey). same_key x.key key) (map shown_net rs))
        ≡ option_map shown_net (if b then Some r else find (λ (x : NetKey). same_key x.key key) rs)
    at_test true e = refl
    at_test false e = e

live_shown : (o : Option NetKey) → row_is_live (option_map shown_net o) ≡ row_is_live o
live_shown None = refl
live_shown (Some r) = refl

limit_shown : (o : Option NetKey) → net_limit (option_map shown_net o) ≡ net_limit o
limit_shown None = refl
limit_shown (Some r) = refl

some_shown : (o : Option NetKey) → is_some (option_map shown_net o) ≡ is_some o
some_shown None = refl
some_shown (Some r) = refl

reserve_limit_shown : (declared : ℕ) (o : Option NetKey) → limit_of declared (option_map shown_net o)
    ≡ limit_of declared o
reserve_limit_shown declared None = refl
reserve_limit_shown declared (Some r) = refl

active_shown : (s : NodeState) (active : Option Bytes) → net_of_active active (shown s)
    ≡ option_map shown_net (net_of_active active s)
unfolding shown
active_shown s None = refl
active_shown s (Some key) = found_shown key s.nets

-- the floor under a live key is shown
floor_shown : (sender value : ℕ) (o : Option NetKey)
    → ((row_is_live (option_map shown_net o) && nat_le (net_stored sender (option_map shown_net o)) value)
    && floor_has_room sender value (option_map shown_net o))
    ≡ ((row_is_live o && nat_le (net_stored sender o) value) && floor_has_room sender value o)
floor_shown sender value None = refl
floor_shown sender value (Some r) = by_live r.live
  where
    by_live : (b : Bool)
        → ((b && nat_le (net_stored sender (Some (shown_net (record r { live = b })))) value)
        && floor_has_room sender value (Some (shown_net (record r { live = b }))))
        ≡ ((b && nat_le (net_stored sender (Some (record r { live = b }))) value)
        && floor_has_room sender value (Some (record r { live = b })))
    by_live true = refl
    by_live false = refl

lives_shown : (nets : List NetKey) → length (filter (λ (r : NetKey). r.live) (map shown_net nets))
    ≡ length (filter (λ (r : NetKey). r.live) nets)
lives_shown [] = refl
lives_shown (r ∷ rs) = at_test r.live (lives_shown rs)
  where
    at_test : (b : Bool) → length (filter (λ (x : NetKey). x.live) (map shown_net rs))
        ≡ length (filter (λ (x : NetKey). x.live) rs)
        → length (if b then shown_net r ∷ filter (λ (x : NetKey). x.live) (map shown_net rs)
        else filter (λ (x : NetKey). x.live) (map shown_net rs))
        ≡ length (if b then r ∷ filter (λ (x : NetKey). x.live) rs else filter (λ (x : NetKey). x.live) rs)
    at_test true e = rw e refl
    at_test false e = e

move_shown : (m : Move) (s : NodeState) → (may_move m (shown s) && move_leaves m (shown s))
    ≡ (may_move m s && move_leaves m s)
unfolding shown is_live pair_of
move_shown (DropNet key) s = ap (λ b. b && move_leaves (DropNet key) s)
    (ap row_is_live (found_shown key s.nets) ∙ live_shown (net_of key s))
move_shown (Install key sequence) s =
    ap (λ b. not b
    && (nat_lt (length (map shown_net s.nets)) 256
    && nat_lt (length (filter (λ (r : NetKey). r.live) (map shown_net s.nets))) 2))
    (any_map (λ (r : NetKey). same_key r.key key) shown_net s.nets)
    ∙ ap (λ n. not (has_net key s.nets)
    && (nat_lt n 256 && nat_lt (length (filter (λ (r : NetKey). r.live) (map shown_net s.nets))) 2))
    (length-map s.nets shown_net)
    ∙ ap (λ n. not (has_net key s.nets) && (nat_lt (length s.nets) 256 && nat_lt n 2)) (lives_shown s.nets)
move_shown (Active key) s = ap (λ b. b && true) (ap row_is_live (found_shown key s.nets) ∙ live_shown (net_of key s))
move_shown _ _ = refl

change_shown : (e : Edit) (s : NodeState) → (may_change e (shown s) && leaves_rules e (shown s))
    ≡ (may_change e s && leaves_rules e s)
unfolding shown leaves_rules active_row stored_limit
change_shown (Reserve Nwk limit) s =
    ap (λ o. (is_some o && nat_le (limit_of s.declared o) limit) && true) (active_shown s s.active)
    ∙ ap (λ b. (b && nat_le (limit_of s.declared (option_map shown_net (active_row s))) limit) && true)
    (some_shown (active_row s))
    ∙ ap (λ n. (is_some (active_row s) && nat_le n limit) && true) (reserve_limit_shown s.declared (active_row s))
change_shown (Reserve Aps limit) s = refl
change_shown (Floor Nwk key sender value) s =
    ap (λ o. (row_is_live o && nat_le (net_stored sender o) value) && floor_has_room sender value o)
    (found_shown key s.nets) ∙ floor_shown sender value (net_of key s)
change_shown (Floor Aps key sender value) s = refl
change_shown (Start key value) s =
    ap (λ b. (b && nat_le (net_limit (net_of key (shown s))) value) && true)
    (any_map (λ (r : NetKey). same_key r.key key) shown_net s.nets)
    ∙ ap (λ n. (has_net key s.nets && nat_le n value) && true)
    (ap net_limit (found_shown key s.nets) ∙ limit_shown (net_of key s))
change_shown (Moved m) s = move_shown m s

shown_is_mild : Mild shown_net
shown_is_mild = record { key = λ r. refl; live = λ r. refl; limit = λ r e. e }

floors_shown : (r : NetKey) → floors_rule r ≡ true → floors_rule (shown_net r) ≡ true
floors_shown r e = by_live r.live e
  where
    by_live : (b : Bool) → floors_rule r ≡ true → floors_rule (shown_net (record r { live = b })) ≡ true
    by_live true e = e
    by_live false e = refl

pub rules_shown : (s : NodeState) → keeps_rules s ≡ true → keeps_rules (shown s) ≡ true
unfolding shown
rules_shown s kept =
    let r = rules_of s kept in
    mild_kept shown_net shown_is_mild s r (all_map floors_rule floors_rule shown_net floors_shown s.nets r.floors)

pub fits_shown : (e : Edit) (s : NodeState) → keeps_rules s ≡ true → fits e (shown s) ≡ fits e s
fits_shown e s kept = fits_is e (shown s) (rules_shown s kept) ∙ change_shown e s ∙ sym (fits_is e s kept)
