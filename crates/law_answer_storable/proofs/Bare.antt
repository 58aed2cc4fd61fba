-- What the moves of a rule ask of a state concerns only its bare rows, which are without limits, counters and floors.
-- Reserves, floors and first counters leave these as they are.
use Rattle.std.proofs.Common.{◌≡◌, ℕ, suc, List, [], ◌∷◌, ◌++◌, length, map, refl, sym, ap, ◌∙◌, Bool, true, false, not, if◌then◌else◌, ◌&&◌, Option, Some, None, option_map}
use Rattle.std.specs.Prelude.{filter}
use Rattle.std.proofs.lemmas.List.{length-map, map-append}
use Rattle.zb_model.specs.Data.{Bytes, Attribute, Layer, Nwk, Aps, Move, Draw, DropNet, DropLink, Install, Active, Row, Pair, Became, Live, Removed, Roll, Told, Untold, Reserve, Floor, Start}
use Rattle.zb_model.specs.State.{NetKey, LinkKey, NodeState, same_key, is_centre, has_net, has_link, is_link, is_live_of, is_live, is_told, net_of, at_link, of_active, new_net, reserved, started_at, dropped_net, dropped_link, net_floor, link_floor, told_as, revived, new_link, pair_of, with_link, with_told, moved, applied}
use Rattle.zb_model.specs.Fits.{row_is_live, live_net, may_move}
use Rattle.law_change_fits.specs.Fitting.{move_leaves, is_rival}
use Rattle.law_change_fits.proofs.Tests.{any_map}
use Rattle.law_answer_storable.proofs.Lists.{found_map}

abbrev pub bare_net : NetKey → NetKey
bare_net r = record r { started = false; limit = 0; next = 0; floors = [] }

abbrev pub bare_link : LinkKey → LinkKey
bare_link r = record r { kept = 0; stored = 0 }

unfoldable pub bare : NodeState → NodeState
bare s = record s { aps_limit = 0; aps_next = 0; nets = map bare_net s.nets; links = map bare_link s.links }

-- changes of rows that leave the bare rows, or that are the same of these

blind : {X : Type 0} (test : X → Bool) (f g : X → X) → ((x : X) → g (f x) ≡ g x) → (xs : List X)
    → map g (map (λ x. if test x then f x else x) xs) ≡ map g xs
blind test f g each [] = refl
blind {X} test f g each (x ∷ xs) = ap (λ y. y ∷ map g (map (λ x. if test x then f x else x) xs)) (by_test (test x)) ∙
    ap (λ l. g x ∷ l) (blind test f g each xs)
  where
    by_test : (b : Bool) → g (if b then f x else x) ≡ g x
    by_test true = each x
    by_test false = refl

swapped : {X : Type 0} (test : X → Bool) (f g : X → X) → ((x : X) → test (g x) ≡ test x)
    → ((x : X) → g (f x) ≡ f (g x)) → (xs : List X)
    → map g (map (λ x. if test x then f x else x) xs) ≡ map (λ x. if test x then f x else x) (map g xs)
swapped test f g same each [] = refl
swapped {X} test f g same each (x ∷ xs) =
    ap (λ y. y ∷ map g (map (λ x. if test x then f x else x) xs))
    (by_test (test x) ∙ ap (λ b. if b then f (g x) else g x) (sym (same x)))
    ∙ ap (λ l. (if test (g x) then f (g x) else g x) ∷ l) (swapped test f g same each xs)
  where
    by_test : (b : Bool) → g (if b then f x else x) ≡ (if b then f (g x) else g x)
    by_test true = each x
    by_test false = refl

all_swapped : {X : Type 0} (f g : X → X) → ((x : X) → g (f x) ≡ f (g x)) → (xs : List X) → map g (map f xs)
    ≡ map f (map g xs)
all_swapped f g each [] = refl
all_swapped f g each (x ∷ xs) = ap (λ y. y ∷ map g (map f xs)) (each x) ∙ ap (λ l. f (g x) ∷ l)
    (all_swapped f g each xs)

with_nets : (s : NodeState) (a b : List NetKey) → a ≡ b → record s { nets = a } ≡ record s { nets = b }
with_nets s a b e = ap (λ (x : List NetKey). record s { nets = x }) e

with_links : (s : NodeState) (a b : List LinkKey) → a ≡ b → record s { links = a } ≡ record s { links = b }
with_links s a b e = ap (λ (x : List LinkKey). record s { links = x }) e

-- reserves, floors and first counters

active_blind : (limit : ℕ) (active : Option Bytes) (rs : List NetKey)
    → map bare_net (of_active (reserved limit) active rs) ≡ map bare_net rs
active_blind limit None rs = refl
active_blind limit (Some key) rs = blind (λ (r : NetKey). same_key r.key key) (reserved limit) bare_net (λ r. refl) rs

pub reserve_bare : (layer : Layer) (limit : ℕ) (s : NodeState) → bare (applied (Reserve layer limit) s) ≡ bare s
unfolding bare applied
reserve_bare Nwk limit s = with_nets (bare s) _ _ (active_blind limit s.active s.nets)
reserve_bare Aps limit s = refl

pub floor_bare : (layer : Layer) (key : Bytes) (sender value : ℕ) (s : NodeState)
    → bare (applied (Floor layer key sender value) s) ≡ bare s
unfolding bare applied
floor_bare Nwk key sender value s =
    with_nets (bare s) _ _
    (blind (λ (r : NetKey). same_key r.key key) (net_floor sender value) bare_net (λ r. refl) s.nets)
floor_bare Aps key sender value s =
    with_links (bare s) _ _ (blind (is_link sender key) (link_floor value) bare_link (λ r. refl) s.links)

pub start_bare : (key : Bytes) (value : ℕ) (s : NodeState) → bare (applied (Start key value) s) ≡ bare s
unfolding bare applied
start_bare key value s =
    with_nets (bare s) _ _ (blind (λ (r : NetKey). same_key r.key key) (started_at value) bare_net (λ r. refl) s.nets)

-- moves

told_bare : (s : NodeState) (partner : ℕ) → is_told (bare s) partner ≡ is_told s partner
unfolding bare is_told
told_bare s partner = any_map (λ (r : LinkKey). is_live_of partner r && r.told) bare_link s.links

live_bare : (s : NodeState) (partner : ℕ) → is_live (bare s) partner ≡ is_live s partner
unfolding bare is_live
live_bare s partner = any_map (is_live_of partner) bare_link s.links

installed_bare : (key : Bytes) (sequence : ℕ) (rs : List NetKey) → map bare_net (if has_net key rs then rs
    else rs ++ new_net key sequence ∷ [])
    ≡ (if has_net key (map bare_net rs) then map bare_net rs else map bare_net rs ++ new_net key sequence ∷ [])
installed_bare key sequence rs =
    by_test (has_net key rs) ∙ ap (λ b. if b then map bare_net rs else map bare_net rs ++ new_net key sequence ∷ [])
    (sym (any_map (λ (r : NetKey). same_key r.key key) bare_net rs))
  where
    by_test : (b : Bool) → map bare_net (if b then rs else rs ++ new_net key sequence ∷ [])
        ≡ (if b then map bare_net rs else map bare_net rs ++ new_net key sequence ∷ [])
    by_test true = refl
    by_test false = map-append bare_net rs (new_net key sequence ∷ [])

linked_bare : (partner : ℕ) (key : Bytes) (attribute : Attribute) (told : Bool) (rs : List LinkKey)
    → map bare_link (with_link partner key attribute told rs) ≡ with_link partner key attribute told (map bare_link rs)
linked_bare partner key attribute told rs =
    by_test (has_link partner key rs)
    ∙ ap (λ b. if b then at_link partner key (revived attribute told) (map bare_link rs)
    else map bare_link rs ++ new_link partner key attribute told ∷ [])
    (sym (any_map (is_link partner key) bare_link rs))
  where
    by_test : (b : Bool) → map bare_link (if b then at_link partner key (revived attribute told) rs
        else rs ++ new_link partner key attribute told ∷ [])
        ≡ (if b then at_link partner key (revived attribute told) (map bare_link rs)
        else map bare_link rs ++ new_link partner key attribute told ∷ [])
    by_test true = swapped (is_link partner key) (revived attribute told) bare_link (λ r. refl) (λ r. refl) rs
    by_test false = map-append bare_link rs (new_link partner key attribute told ∷ [])

marked_bare : (partner : ℕ) (told : Bool) (rs : List LinkKey) → map bare_link (with_told partner told rs)
    ≡ with_told partner told (map bare_link rs)
marked_bare partner told rs = swapped (is_live_of partner) (told_as told) bare_link (λ r. refl) (λ r. refl) rs

pub moved_bare : (m : Move) (s : NodeState) → bare (moved m s) ≡ moved m (bare s)
unfolding bare
moved_bare (Draw key) s = refl
moved_bare (DropNet key) s =
    with_nets (bare s) _ _
    (swapped (λ (r : NetKey). same_key r.key key) dropped_net bare_net (λ r. refl) (λ r. refl) s.nets)
moved_bare (DropLink partner key) s =
    with_links (bare s) _ _ (swapped (is_link partner key) dropped_link bare_link (λ r. refl) (λ r. refl) s.links)
moved_bare (Install key sequence) s = with_nets (bare s) _ _ (installed_bare key sequence s.nets)
moved_bare (Active key) s = refl
moved_bare (Row partner key attribute) s =
    with_links (bare s) _ _
    (linked_bare partner key attribute (is_told s partner) s.links ∙ ap
    (λ b. with_link partner key attribute b (map bare_link s.links)) (sym (told_bare s partner)))
moved_bare (Pair first second key) s = refl
moved_bare (Became state) s = refl
moved_bare (Live device) s = with_links (bare s) _ _ (marked_bare device false s.links)
moved_bare (Removed device) s = refl
moved_bare (Roll true) s = with_links (bare (record s { sending = true })) _ _
    (all_swapped (told_as false) bare_link (λ r. refl) s.links)
moved_bare (Roll false) s = refl
moved_bare (Told device) s = with_links (bare s) _ _ (marked_bare device true s.links)
moved_bare (Untold device) s = with_links (bare s) _ _ (marked_bare device false s.links)

-- what a move asks

row_live : (o : Option NetKey) → row_is_live (option_map bare_net o) ≡ row_is_live o
row_live None = refl
row_live (Some r) = refl

net_bare : (key : Bytes) (s : NodeState) → live_net key (bare s) ≡ live_net key s
unfolding bare
net_bare key s = ap row_is_live (found_map (λ (r : NetKey). same_key r.key key) bare_net (λ r. refl) s.nets) ∙
    row_live (net_of key s)

so_many : (rs : List NetKey) → length (filter (λ (r : NetKey). r.live) (map bare_net rs))
    ≡ length (filter (λ (r : NetKey). r.live) rs)
so_many [] = refl
so_many (r ∷ rs) = by_test r.live (so_many rs)
  where
    by_test : (b : Bool) → length (filter (λ (x : NetKey). x.live) (map bare_net rs))
        ≡ length (filter (λ (x : NetKey). x.live) rs)
        → length (if b then bare_net r ∷ filter (λ (x : NetKey). x.live) (map bare_net rs)
        else filter (λ (x : NetKey). x.live) (map bare_net rs))
        ≡ length (if b then r ∷ filter (λ (x : NetKey). x.live) rs else filter (λ (x : NetKey). x.live) rs)
    by_test true e = ap suc e
    by_test false e = e

pub may_bare : (m : Move) (s : NodeState) → may_move m (bare s) ≡ may_move m s
unfolding bare pair_of
may_bare (Draw key) s = refl
may_bare (DropNet key) s = net_bare key s
may_bare (DropLink partner key) s = any_map (λ (r : LinkKey). is_link partner key r && r.live) bare_link s.links
may_bare (Install key sequence) s = ap not (any_map (λ (r : NetKey). same_key r.key key) bare_net s.nets)
may_bare (Active key) s = net_bare key s
may_bare (Row partner key attribute) s = refl
may_bare (Pair first second key) s = refl
may_bare (Became state) s = refl
may_bare (Live device) s = ap (λ b. is_centre s.role && b) (live_bare s device)
may_bare (Removed device) s = ap (λ b. is_centre s.role && not b) (live_bare s device)
may_bare (Roll sending) s = refl
may_bare (Told device) s = ap (λ b. is_centre s.role && b) (live_bare s device)
may_bare (Untold device) s = ap (λ b. is_centre s.role && b) (live_bare s device)

row_leaves_bare : (partner : ℕ) (key : Bytes) (attribute : Attribute) (s : NodeState)
    → move_leaves (Row partner key attribute) (bare s) ≡ move_leaves (Row partner key attribute) s
unfolding bare
row_leaves_bare partner key attribute s =
    rw (
      any_map (is_link partner key) bare_link s.links,
      length-map s.links bare_link,
      any_map (λ (r : LinkKey). same_key r.key key) bare_link s.links,
      any_map (is_rival partner key attribute)
          bare_link s.links,
    ) refl

pub leaves_bare : (m : Move) (s : NodeState) → move_leaves m (bare s) ≡ move_leaves m s
unfolding bare
leaves_bare (Install key sequence) s = rw (length-map s.nets bare_net, so_many s.nets) refl
leaves_bare (Row partner key attribute) s = row_leaves_bare partner key attribute s
leaves_bare _ s = refl
