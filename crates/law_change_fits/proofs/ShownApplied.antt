-- What a state shows after a change, from what it showed before.
use Rattle.std.proofs.Common.{◌≡◌, ℕ, List, [], ◌∷◌, ◌++◌, map, refl, sym, ap, ◌∙◌, Bool, true, false, if◌then◌else◌, Option, Some, None, max, min}
use Rattle.std.proofs.lemmas.List.{map-append}
use Rattle.zb_model.specs.Data.{Bytes, Nwk, Aps, Draw, DropNet, DropLink, Install, Active, Row, Pair, Became, Live, Removed, Roll, Told, Untold, Edit, Reserve, Floor, Start, Moved}
use Rattle.zb_model.specs.State.{NodeState, NetKey, same_key, shown, shown_net, applied, at_net, has_net, reserved, started_at, dropped_net, net_floor, new_net, of_active, is_told, greatest_counter}
use Rattle.law_change_fits.proofs.Tests.{any_map}

pub shown_twice : (nets : List NetKey) → map shown_net (map shown_net nets) ≡ map shown_net nets
shown_twice [] = refl
shown_twice (r ∷ rs) = ap (λ x. x ∷ map shown_net (map shown_net rs)) (again r) ∙ ap (λ l. shown_net r ∷ l)
    (shown_twice rs)
  where
    again : (r : NetKey) → shown_net (shown_net r) ≡ shown_net r
    again r = by_live r.live
      where
        by_live : (b : Bool) → record r { live = b; floors = if b then (if b then r.floors else []) else [] }
            ≡ record r { live = b; floors = if b then r.floors else [] }
        by_live true = refl
        by_live false = refl

-- What is shown after a change does not depend on floors that were not shown before.
again_at : (key : Bytes) (f : NetKey → NetKey) → ((r : NetKey) → shown_net (f (shown_net r)) ≡ shown_net (f r))
    → (nets : List NetKey) → map shown_net (at_net key f (map shown_net nets)) ≡ map shown_net (at_net key f nets)
again_at key f each [] = refl
again_at key f each (r ∷ rs) =
    ap (λ l. shown_net (if same_key r.key key then f (shown_net r) else shown_net r) ∷ l) (again_at key f each rs)
    ∙ ap (λ x. x ∷ map shown_net (at_net key f rs)) (at_test (same_key r.key key) r.live)
  where
    twice : (b : Bool) → record r { live = b; floors = if b then (if b then r.floors else []) else [] }
        ≡ record r { live = b; floors = if b then r.floors else [] }
    twice true = refl
    twice false = refl

    at_test : (b live : Bool) → shown_net (if b then f (shown_net r) else shown_net r)
        ≡ shown_net (if b then f r else r)
    at_test true live = each r
    at_test false live = twice r.live

floor_again : (sender value : ℕ) (r : NetKey) → shown_net (net_floor sender value (shown_net r))
    ≡ shown_net (net_floor sender value r)
floor_again sender value r = by_live r.live
  where
    by_live : (b : Bool) → shown_net (net_floor sender value (shown_net (record r { live = b })))
        ≡ shown_net (net_floor sender value (record r { live = b }))
    by_live true = refl
    by_live false = refl

reserved_again : (limit : ℕ) (r : NetKey) → shown_net (reserved limit (shown_net r)) ≡ shown_net (reserved limit r)
reserved_again limit r = by_live r.live
  where
    by_live : (b : Bool) → shown_net (reserved limit (shown_net (record r { live = b })))
        ≡ shown_net (reserved limit (record r { live = b }))
    by_live true = refl
    by_live false = refl

started_again : (value : ℕ) (r : NetKey) → shown_net (started_at value (shown_net r)) ≡ shown_net (started_at value r)
started_again value r = by_live r.live
  where
    by_live : (b : Bool) → shown_net (started_at value (shown_net (record r { live = b })))
        ≡ shown_net (started_at value (record r { live = b }))
    by_live true = refl
    by_live false = refl

installed_again : (key : Bytes) (sequence : ℕ) (nets : List NetKey)
    → map shown_net (if has_net key (map shown_net nets) then map shown_net nets
    else map shown_net nets ++ new_net key sequence ∷ []) ≡ map shown_net (if has_net key nets then nets
    else nets ++ new_net key sequence ∷ [])
installed_again key sequence nets =
    ap (λ b. map shown_net (if b then map shown_net nets else map shown_net nets ++ new_net key sequence ∷ []))
    (any_map (λ (r : NetKey). same_key r.key key) shown_net nets)
    ∙ at_test (has_net key nets)
  where
    at_test : (b : Bool) → map shown_net (if b then map shown_net nets
        else map shown_net nets ++ new_net key sequence ∷ [])
        ≡ map shown_net (if b then nets else nets ++ new_net key sequence ∷ [])
    at_test true = shown_twice nets
    at_test false = map-append shown_net (map shown_net nets) (new_net key sequence ∷ []) ∙ ap
        (λ l. l ++ new_net key sequence ∷ []) (shown_twice nets) ∙ sym
        (map-append shown_net nets (new_net key sequence ∷ []))

active_again : (limit : ℕ) (active : Option Bytes) (nets : List NetKey)
    → map shown_net (of_active (reserved limit) active (map shown_net nets))
    ≡ map shown_net (of_active (reserved limit) active nets)
active_again limit None nets = shown_twice nets
active_again limit (Some key) nets = again_at key (reserved limit) (reserved_again limit) nets

pub shown_applied : (e : Edit) (s : NodeState) → shown (applied e (shown s)) ≡ shown (applied e s)
unfolding shown applied is_told
shown_applied (Reserve Nwk limit) s = ap (λ l. record s { nets = l }) (active_again limit s.active s.nets)
shown_applied (Reserve Aps limit) s =
    ap (λ l. record s { nets = l; aps_limit = max s.aps_limit (min limit greatest_counter) }) (shown_twice s.nets)
shown_applied (Floor Nwk key sender value) s =
    ap (λ l. record s { nets = l }) (again_at key (net_floor sender value) (floor_again sender value) s.nets)
shown_applied (Floor Aps key sender value) s = ap (λ l. record (applied (Floor Aps key sender value) s) { nets = l })
    (shown_twice s.nets)
shown_applied (Start key value) s =
    ap (λ l. record s { nets = l }) (again_at key (started_at value) (started_again value) s.nets)
shown_applied (Moved (Draw key)) s = ap (λ l. record s { nets = l }) (shown_twice s.nets)
shown_applied (Moved (DropNet key)) s = ap (λ l. record s { nets = l }) (again_at key dropped_net (λ r. refl) s.nets)
shown_applied (Moved (DropLink partner key)) s =
    ap (λ l. record (applied (Moved (DropLink partner key)) s) { nets = l }) (shown_twice s.nets)
shown_applied (Moved (Install key sequence)) s = ap (λ l. record s { nets = l }) (installed_again key sequence s.nets)
shown_applied (Moved (Active key)) s = ap (λ l. record (applied (Moved (Active key)) s) { nets = l })
    (shown_twice s.nets)
shown_applied (Moved (Row partner key attribute)) s =
    ap (λ l. record (applied (Moved (Row partner key attribute)) s) { nets = l }) (shown_twice s.nets)
shown_applied (Moved (Pair first second key)) s =
    ap (λ l. record (applied (Moved (Pair first second key)) s) { nets = l }) (shown_twice s.nets)
shown_applied (Moved (Became state)) s = ap (λ l. record (applied (Moved (Became state)) s) { nets = l })
    (shown_twice s.nets)
shown_applied (Moved (Live device)) s = ap (λ l. record (applied (Moved (Live device)) s) { nets = l })
    (shown_twice s.nets)
shown_applied (Moved (Removed device)) s = ap (λ l. record (applied (Moved (Removed device)) s) { nets = l })
    (shown_twice s.nets)
shown_applied (Moved (Roll sending)) s = ap (λ l. record (applied (Moved (Roll sending)) s) { nets = l })
    (shown_twice s.nets)
shown_applied (Moved (Told device)) s = ap (λ l. record (applied (Moved (Told device)) s) { nets = l })
    (shown_twice s.nets)
shown_applied (Moved (Untold device)) s = ap (λ l. record (applied (Moved (Untold device)) s) { nets = l })
    (shown_twice s.nets)
