-- What a change makes of the stored state depends on the stored state alone.
use Rattle.std.proofs.Common.{◌≡◌, ℕ, List, [], ◌∷◌, ◌++◌, map, Bool, true, false, if◌then◌else◌, ◌||◌, ◌&&◌, Option, Some, None, nat_lt, nat_eq, max, refl, sym, ap, ◌∙◌}
use Rattle.std.specs.List.{list_any}
use Rattle.std.proofs.lemmas.List.{map-append}
use Rattle.zb_model.specs.Data.{Bytes, Nwk, Aps, Attribute, Draw, DropNet, DropLink, Install, Active, Row, Pair, Became, Live, Removed, Roll, Told, Untold, Edit, Reserve, Floor, Start, Moved}
use Rattle.zb_model.specs.State.{SenderFloor, NetKey, LinkKey, NodeState, same_key, has_net, has_link, is_link, is_live_of, is_told, at_net, at_link, of_active, new_net, reserved, started_at, dropped_net, dropped_link, floor_stored, net_floor, link_floor, told_as, revived, new_link, with_link, with_told, applied, applied_all, booted_floor, booted_net, booted_link, after_boot}

-- a boot after a boot changes nothing

floors_twice : (fs : List SenderFloor) → map booted_floor (map booted_floor fs) ≡ map booted_floor fs
floors_twice [] = refl
floors_twice (f ∷ fs) = ap (λ (l : List SenderFloor). booted_floor f ∷ l) (floors_twice fs)

net_twice : (r : NetKey) → booted_net (booted_net r) ≡ booted_net r
net_twice r = ap (λ (fs : List SenderFloor). record r { next = r.limit; floors = fs }) (floors_twice r.floors)

nets_twice : (rs : List NetKey) → map booted_net (map booted_net rs) ≡ map booted_net rs
nets_twice [] = refl
nets_twice (r ∷ rs) = ap (λ (x : NetKey). x ∷ map booted_net (map booted_net rs)) (net_twice r) ∙ ap
    (λ (l : List NetKey). booted_net r ∷ l) (nets_twice rs)

links_twice : (rs : List LinkKey) → map booted_link (map booted_link rs) ≡ map booted_link rs
links_twice [] = refl
links_twice (r ∷ rs) = ap (λ (l : List LinkKey). booted_link r ∷ l) (links_twice rs)

-- a change of some rows

at_nets : (key : Bytes) (f : NetKey → NetKey) → ((r : NetKey) → booted_net (f (booted_net r)) ≡ booted_net (f r))
    → (rs : List NetKey)
    → map booted_net (at_net key f (map booted_net rs)) ≡ map booted_net (at_net key f rs)
at_nets key f each [] = refl
at_nets key f each (r ∷ rs) =
    ap (λ (x : NetKey). x ∷ map booted_net (at_net key f (map booted_net rs))) (by_test (same_key r.key key))
    ∙ ap (λ (l : List NetKey). booted_net (if same_key r.key key then f r else r) ∷ l) (at_nets key f each rs)
  where
    by_test : (b : Bool) → booted_net (if b then f (booted_net r) else booted_net r)
        ≡ booted_net (if b then f r else r)
    by_test true = each r
    by_test false = net_twice r

some_links : (test : LinkKey → Bool) (f : LinkKey → LinkKey) → ((r : LinkKey) → test (booted_link r) ≡ test r)
    → ((r : LinkKey) → booted_link (f (booted_link r)) ≡ booted_link (f r)) → (rs : List LinkKey)
    → map booted_link (map (λ (r : LinkKey). if test r then f r else r) (map booted_link rs))
    ≡ map booted_link (map (λ (r : LinkKey). if test r then f r else r) rs)
some_links test f same each [] = refl
some_links test f same each (r ∷ rs) =
    ap (λ (x : LinkKey). x ∷ map booted_link (map (λ (r : LinkKey). if test r then f r else r) (map booted_link rs)))
    (ap (λ (b : Bool). booted_link (if b then f (booted_link r) else booted_link r)) (same r) ∙ by_test (test r))
    ∙ ap (λ (l : List LinkKey). booted_link (if test r then f r else r) ∷ l) (some_links test f same each rs)
  where
    by_test : (b : Bool) → booted_link (if b then f (booted_link r) else booted_link r)
        ≡ booted_link (if b then f r else r)
    by_test true = each r
    by_test false = refl

all_links : (f : LinkKey → LinkKey) → ((r : LinkKey) → booted_link (f (booted_link r)) ≡ booted_link (f r))
    → (rs : List LinkKey)
    → map booted_link (map f (map booted_link rs)) ≡ map booted_link (map f rs)
all_links f each [] = refl
all_links f each (r ∷ rs) = ap (λ (x : LinkKey). x ∷ map booted_link (map f (map booted_link rs))) (each r) ∙ ap
    (λ (l : List LinkKey). booted_link (f r) ∷ l) (all_links f each rs)

-- questions to the rows

pub any_net : (test : NetKey → Bool) → ((r : NetKey) → test (booted_net r) ≡ test r) → (rs : List NetKey)
    → list_any test (map booted_net rs) ≡ list_any test rs
any_net test same [] = refl
any_net test same (r ∷ rs) = ap (λ (b : Bool). b || list_any test (map booted_net rs)) (same r) ∙ ap
    (λ (b : Bool). test r || b) (any_net test same rs)

pub any_link : (test : LinkKey → Bool) → ((r : LinkKey) → test (booted_link r) ≡ test r) → (rs : List LinkKey)
    → list_any test (map booted_link rs) ≡ list_any test rs
any_link test same [] = refl
any_link test same (r ∷ rs) = ap (λ (b : Bool). b || list_any test (map booted_link rs)) (same r) ∙ ap
    (λ (b : Bool). test r || b) (any_link test same rs)

-- floors

floor_again : (sender value : ℕ) (fs : List SenderFloor)
    → map booted_floor (floor_stored sender value (map booted_floor fs))
    ≡ map booted_floor (floor_stored sender value fs)
floor_again sender value [] = refl
floor_again sender value (f ∷ fs) = by_place (nat_lt sender f.sender) (nat_eq sender f.sender)
    (floor_again sender value fs)
  where
    by_place : (before same : Bool) → map booted_floor (floor_stored sender value (map booted_floor fs))
        ≡ map booted_floor (floor_stored sender value fs)
        → map booted_floor (if before then record { sender = sender; kept = 0; stored = value } ∷ booted_floor f
        ∷ map booted_floor fs
        else (if same then record (booted_floor f) { stored = max f.stored value } ∷ map booted_floor fs
        else booted_floor f ∷ floor_stored sender value (map booted_floor fs)))
        ≡ map booted_floor (if before then record { sender = sender; kept = 0; stored = value } ∷ f ∷ fs
        else (if same then record f { stored = max f.stored value } ∷ fs else f ∷ floor_stored sender value fs))
    by_place true same further =
        ap (λ (l : List SenderFloor). record { sender = sender; kept = value; stored = value } ∷ booted_floor f ∷ l)
        (floors_twice fs)
    by_place false true further =
        ap (λ (l : List SenderFloor).
        record { sender = f.sender; kept = max f.stored value; stored = max f.stored value } ∷ l) (floors_twice fs)
    by_place false false further = ap (λ (l : List SenderFloor). booted_floor f ∷ l) further

-- single rows

reserved_again : (limit : ℕ) (r : NetKey) → booted_net (reserved limit (booted_net r)) ≡ booted_net (reserved limit r)
reserved_again limit r = ap (λ (fs : List SenderFloor). record (booted_net (reserved limit r)) { floors = fs })
    (floors_twice r.floors)

started_again : (value : ℕ) (r : NetKey) → booted_net (started_at value (booted_net r))
    ≡ booted_net (started_at value r)
started_again value r = ap (λ (fs : List SenderFloor). record (booted_net (started_at value r)) { floors = fs })
    (floors_twice r.floors)

dropped_again : (r : NetKey) → booted_net (dropped_net (booted_net r)) ≡ booted_net (dropped_net r)
dropped_again r = ap (λ (fs : List SenderFloor). record (booted_net (dropped_net r)) { floors = fs })
    (floors_twice r.floors)

heard_again : (sender value : ℕ) (r : NetKey) → booted_net (net_floor sender value (booted_net r))
    ≡ booted_net (net_floor sender value r)
heard_again sender value r = ap (λ (fs : List SenderFloor). record (booted_net r) { floors = fs })
    (floor_again sender value r.floors)

-- rows that are added

installed_again : (key : Bytes) (sequence : ℕ) (rs : List NetKey)
    → map booted_net (if has_net key (map booted_net rs) then map booted_net rs
    else map booted_net rs ++ new_net key sequence ∷ [])
    ≡ map booted_net (if has_net key rs then rs else rs ++ new_net key sequence ∷ [])
installed_again key sequence rs =
    ap (λ (b : Bool). map booted_net (if b then map booted_net rs
    else map booted_net rs ++ new_net key sequence ∷ []))
    (any_net (λ (r : NetKey). same_key r.key key) (λ r. refl) rs)
    ∙ by_test (has_net key rs)
  where
    by_test : (b : Bool) → map booted_net (if b then map booted_net rs
        else map booted_net rs ++ new_net key sequence ∷ [])
        ≡ map booted_net (if b then rs else rs ++ new_net key sequence ∷ [])
    by_test true = nets_twice rs
    by_test false = map-append booted_net (map booted_net rs) (new_net key sequence ∷ []) ∙ ap
        (λ (l : List NetKey). l ++ booted_net (new_net key sequence) ∷ []) (nets_twice rs)
        ∙ sym (map-append booted_net rs (new_net key sequence ∷ []))

linked_again : (partner : ℕ) (key : Bytes) (attribute : Attribute) (told : Bool) (rs : List LinkKey)
    → map booted_link (with_link partner key attribute told (map booted_link rs))
    ≡ map booted_link (with_link partner key attribute told rs)
linked_again partner key attribute told rs =
    ap (λ (b : Bool). map booted_link (if b then at_link partner key (revived attribute told) (map booted_link rs)
    else map booted_link rs ++ new_link partner key attribute told ∷ []))
    (any_link (is_link partner key) (λ r. refl) rs)
    ∙ by_test (has_link partner key rs)
  where
    by_test : (b : Bool)
        → map booted_link (if b then at_link partner key (revived attribute told) (map booted_link rs)
        else map booted_link rs ++ new_link partner key attribute told ∷ [])
        ≡ map booted_link (if b then at_link partner key (revived attribute told) rs
        else rs ++ new_link partner key attribute told ∷ [])
    by_test true = some_links (is_link partner key) (revived attribute told) (λ r. refl) (λ r. refl) rs
    by_test false = map-append booted_link (map booted_link rs) (new_link partner key attribute told ∷ []) ∙ ap
        (λ (l : List LinkKey). l ++ booted_link (new_link partner key attribute told) ∷ []) (links_twice rs)
        ∙ sym (map-append booted_link rs (new_link partner key attribute told ∷ []))

told_again : (partner : ℕ) (told : Bool) (rs : List LinkKey)
    → map booted_link (with_told partner told (map booted_link rs)) ≡ map booted_link (with_told partner told rs)
told_again partner told rs = some_links (is_live_of partner) (told_as told) (λ r. refl) (λ r. refl) rs

-- both kinds of rows
rows : (s : NodeState) (nets nets2 : List NetKey) (links links2 : List LinkKey) → nets ≡ nets2 → links ≡ links2
    → record s { nets = nets; links = links } ≡ record s { nets = nets2; links = links2 }
rows s nets nets2 links links2 n l = ap (λ (x : List NetKey). record s { nets = x; links = links }) n ∙ ap
    (λ (x : List LinkKey). record s { nets = nets2; links = x }) l

of_active_again : (limit : ℕ) (active : Option Bytes) (rs : List NetKey)
    → map booted_net (of_active (reserved limit) active (map booted_net rs))
    ≡ map booted_net (of_active (reserved limit) active rs)
of_active_again limit None rs = nets_twice rs
of_active_again limit (Some key) rs = at_nets key (reserved limit) (reserved_again limit) rs

pub change_again : (e : Edit) (s : NodeState) → after_boot (applied e (after_boot s)) ≡ after_boot (applied e s)
unfolding after_boot applied is_told
change_again (Reserve Nwk limit) s = rows (after_boot (applied (Reserve Nwk limit) s)) _ _ _ _
    (of_active_again limit s.active s.nets) (links_twice s.links)
change_again (Reserve Aps limit) s = rows (after_boot (applied (Reserve Aps limit) s)) _ _ _ _ (nets_twice s.nets)
    (links_twice s.links)
change_again (Floor Nwk key sender value) s =
    rows (after_boot s) _ _ _ _ (at_nets key (net_floor sender value) (heard_again sender value) s.nets)
    (links_twice s.links)
change_again (Floor Aps key sender value) s = rows (after_boot s) _ _ _ _ (nets_twice s.nets)
    (some_links (is_link sender key) (link_floor value) (λ r. refl) (λ r. refl) s.links)
change_again (Start key value) s =
    rows (after_boot s) _ _ _ _ (at_nets key (started_at value) (started_again value) s.nets) (links_twice s.links)
change_again (Moved (Draw key)) s = rows (after_boot s) _ _ _ _ (nets_twice s.nets) (links_twice s.links)
change_again (Moved (DropNet key)) s = rows (after_boot s) _ _ _ _ (at_nets key dropped_net dropped_again s.nets)
    (links_twice s.links)
change_again (Moved (DropLink partner key)) s = rows (after_boot s) _ _ _ _ (nets_twice s.nets)
    (some_links (is_link partner key) dropped_link (λ r. refl) (λ r. refl) s.links)
change_again (Moved (Install key sequence)) s = rows (after_boot s) _ _ _ _ (installed_again key sequence s.nets)
    (links_twice s.links)
change_again (Moved (Active key)) s = rows (after_boot (applied (Moved (Active key)) s)) _ _ _ _ (nets_twice s.nets)
    (links_twice s.links)
change_again (Moved (Row partner key attribute)) s = rows (after_boot s) _ _ _ _ (nets_twice s.nets)
    (ap (λ (b : Bool). map booted_link (with_link partner key attribute b (map booted_link s.links)))
    (any_link (λ (r : LinkKey). is_live_of partner r && r.told) (λ r. refl) s.links)
    ∙ linked_again partner key attribute (is_told s partner) s.links)
change_again (Moved (Pair first second key)) s = rows (after_boot (applied (Moved (Pair first second key)) s)) _ _ _ _
    (nets_twice s.nets) (links_twice s.links)
change_again (Moved (Became state)) s = rows (after_boot (applied (Moved (Became state)) s)) _ _ _ _
    (nets_twice s.nets) (links_twice s.links)
change_again (Moved (Live device)) s = rows (after_boot s) _ _ _ _ (nets_twice s.nets)
    (told_again device false s.links)
change_again (Moved (Removed device)) s = rows (after_boot (applied (Moved (Removed device)) s)) _ _ _ _
    (nets_twice s.nets) (links_twice s.links)
change_again (Moved (Roll true)) s = rows (after_boot (applied (Moved (Roll true)) s)) _ _ _ _ (nets_twice s.nets)
    (all_links (told_as false) (λ r. refl) s.links)
change_again (Moved (Roll false)) s = rows (after_boot (applied (Moved (Roll false)) s)) _ _ _ _ (nets_twice s.nets)
    (links_twice s.links)
change_again (Moved (Told device)) s = rows (after_boot s) _ _ _ _ (nets_twice s.nets) (told_again device true s.links)
change_again (Moved (Untold device)) s = rows (after_boot s) _ _ _ _ (nets_twice s.nets)
    (told_again device false s.links)

boot_twice : (s : NodeState) → after_boot (after_boot s) ≡ after_boot s
unfolding after_boot
boot_twice s = rows (after_boot s) _ _ _ _ (nets_twice s.nets) (links_twice s.links)

-- several changes
pub changes_again : (es : List Edit) (s : NodeState) → after_boot (applied_all es (after_boot s))
    ≡ after_boot (applied_all es s)
unfolding applied_all
changes_again [] s = boot_twice s
changes_again (e ∷ es) s =
    sym (changes_again es (applied e (after_boot s))) ∙ ap (λ (u : NodeState). after_boot (applied_all es u))
    (change_again e s) ∙ changes_again es (applied e s)
