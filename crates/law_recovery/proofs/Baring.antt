-- What an answer makes of the bare rows of a state, which are without limits, counters and floors: the changes of its
-- rule alone change them. Here are the changes of joining and of the exchange of link keys.
use Rattle.std.proofs.Common.{◌≡◌, ℕ, ◌+◌, Bool, true, false, ◌&&◌, if◌then◌else◌, List, [], ◌∷◌, ◌++◌, map, filter, fold, flat_map, Option, Some, None, option_map, option_to_list, refl, sym, ap, ◌∙◌}
use Rattle.std.specs.List.{AllByRecursion}
use Rattle.std.proofs.lemmas.List.{map-append}
use Rattle.zb_model.specs.Data.{Bytes, Attribute, Layer, Nwk, Aps, Term, Move, Draw, DropNet, DropLink, Install, Active, Row, Became, Edit, Reserve, Floor, Start, Moved}
use Rattle.zb_model.specs.State.{NetKey, LinkKey, NodeState, same_key, is_link, is_live_of, is_told, has_net, has_link, at_net, at_link, of_active, reserved, net_floor, link_floor, revived, dropped_net, dropped_link, new_net, new_link, started_at, with_link, moved, applied, applied_all, next_at, sealed_at, after_sealing, net_kept, link_kept, after_hearing, after_accepting}
use Rattle.zb_model.specs.Rules.{Setting, Plan}
use Rattle.zb_model.specs.Tools.{Tools}
use Rattle.zb_model.specs.Answer.{Counting, accepted_all, sealed_all, changes, moves_of, move_edits, start_edit, floor_edit, edits_of, answer_by, answered}
use Rattle.law_change_fits.proofs.Tests.{any_map}
use Rattle.law_recovery.proofs.Changing.{reserves, applied_then}

abbrev pub bare_net : NetKey → NetKey
bare_net r = record r { started = false; limit = 0; next = 0; floors = [] }

abbrev pub bare_link : LinkKey → LinkKey
bare_link r = record r { kept = 0; stored = 0 }

unfoldable pub bare : NodeState → NodeState
bare s = record s { aps_limit = 0; aps_next = 0; nets = map bare_net s.nets; links = map bare_link s.links }

-- ---- what bare rows don't show

pub blind : {X : Type 0} (test : X → Bool) (f g : X → X) → ((x : X) → g (f x) ≡ g x) → (xs : List X)
    → map g (map (λ x. if test x then f x else x) xs) ≡ map g xs
blind test f g each [] = refl
blind {X} test f g each (x ∷ xs) = ap (λ y. y ∷ map g (map (λ x. if test x then f x else x) xs)) (by_test (test x)) ∙
    ap (λ l. g x ∷ l) (blind test f g each xs)
  where
    by_test : (b : Bool) → g (if b then f x else x) ≡ g x
    by_test true = each x
    by_test false = refl

nets_same : (s : NodeState) (a b : List NetKey) → map bare_net a ≡ map bare_net b → bare (record s { nets = a })
    ≡ bare (record s { nets = b })
unfolding bare
nets_same s a b e = ap (λ (x : List NetKey). record (bare s) { nets = x }) e

links_same : (s : NodeState) (a b : List LinkKey) → map bare_link a ≡ map bare_link b → bare (record s { links = a })
    ≡ bare (record s { links = b })
unfolding bare
links_same s a b e = ap (λ (x : List LinkKey). record (bare s) { links = x }) e

in_active : (limit : ℕ) (o : Option Bytes) (rs : List NetKey) → map bare_net (of_active (reserved limit) o rs)
    ≡ map bare_net rs
in_active limit None rs = refl
in_active limit (Some key) rs = blind (λ (r : NetKey). same_key r.key key) (reserved limit) bare_net (λ r. refl) rs

by_reserve : (layer : Layer) (limit : ℕ) (s : NodeState) → bare (applied (Reserve layer limit) s) ≡ bare s
unfolding bare applied
by_reserve Nwk limit s = nets_same s (of_active (reserved limit) s.active s.nets) s.nets
    (in_active limit s.active s.nets)
by_reserve Aps limit s = refl

by_floor : (layer : Layer) (key : Bytes) (sender value : ℕ) (s : NodeState)
    → bare (applied (Floor layer key sender value) s) ≡ bare s
unfolding applied
by_floor Nwk key sender value s = nets_same s (at_net key (net_floor sender value) s.nets) s.nets
    (blind (λ (r : NetKey). same_key r.key key) (net_floor sender value) bare_net (λ r. refl) s.nets)
by_floor Aps key sender value s = links_same s (at_link sender key (link_floor value) s.links) s.links
    (blind (is_link sender key) (link_floor value) bare_link (λ r. refl) s.links)

by_hearing : (layer : Layer) (key : Bytes) (sender counter : ℕ) (s : NodeState)
    → bare (after_hearing layer key sender counter s) ≡ bare s
unfolding after_hearing
by_hearing Nwk key sender counter s = nets_same s (at_net key (net_kept sender (counter + 1)) s.nets) s.nets
    (blind (λ (r : NetKey). same_key r.key key) (net_kept sender (counter + 1)) bare_net (λ r. refl) s.nets)
by_hearing Aps key sender counter s = links_same s (at_link sender key (link_kept (counter + 1)) s.links) s.links
    (blind (is_link sender key) (link_kept (counter + 1)) bare_link (λ r. refl) s.links)

pub by_accepts : (ts : List Term) (s : NodeState) → bare (accepted_all ts s) ≡ bare s
unfolding after_accepting
by_accepts [] s = refl
by_accepts (t ∷ ts) s = by_accepts ts (after_accepting t s) ∙ by_hearing t.layer t.base t.source t.counter s

by_sealing : (layer : Layer) (t : Term) (s : NodeState) → bare (sealed_at layer t s) ≡ bare s
unfolding bare
by_sealing Nwk t s = nets_same s (at_net t.base (next_at (t.counter + 1)) s.nets) s.nets
    (blind (λ (r : NetKey). same_key r.key t.base) (next_at (t.counter + 1)) bare_net (λ r. refl) s.nets)
by_sealing Aps t s = refl

pub by_seals : (ts : List Term) (s : NodeState) → bare (sealed_all ts s) ≡ bare s
unfolding after_sealing
by_seals [] s = refl
by_seals (t ∷ ts) s = by_seals ts (after_sealing t s) ∙ by_sealing t.layer t s

-- ---- changes of link rows

pub swapped : {X : Type 0} (test : X → Bool) (f g : X → X) → ((x : X) → test (g x) ≡ test x)
    → ((x : X) → g (f x) ≡ f (g x)) → (xs : List X)
    → map g (map (λ x. if test x then f x else x) xs) ≡ map (λ x. if test x then f x else x) (map g xs)
swapped test f g same each [] = refl
swapped {X} test f g same each (x ∷ xs) =
    ap (λ y. y ∷ map g (map (λ x. if test x then f x else x) xs))
    (by_test (test x) ∙ ap (λ b. if b then f (g x) else g x) (sym (same x)))
    ∙ ap (λ l. (if test (g x) then f (g x) else g x) ∷ l) (swapped test f g same each xs)
  where
    by_test : (b : Bool) → g (if b then f x else x) ≡ (if b then f (g x) else g x)
    by_test true = each x
    by_test false = refl

with_links : (s : NodeState) (a b : List LinkKey) → a ≡ b → record s { links = a } ≡ record s { links = b }
with_links s a b e = ap (λ (x : List LinkKey). record s { links = x }) e

told_same : (s : NodeState) (partner : ℕ) → is_told (bare s) partner ≡ is_told s partner
unfolding bare is_told
told_same s partner = any_map (λ (r : LinkKey). is_live_of partner r && r.told) bare_link s.links

linked : (partner : ℕ) (key : Bytes) (attribute : Attribute) (told : Bool) (rs : List LinkKey)
    → map bare_link (with_link partner key attribute told rs) ≡ with_link partner key attribute told (map bare_link rs)
linked partner key attribute told rs =
    by_test (has_link partner key rs)
    ∙ ap (λ b. if b then at_link partner key (revived attribute told) (map bare_link rs)
    else map bare_link rs ++ new_link partner key attribute told ∷ [])
    (sym (any_map (is_link partner key) bare_link rs))
  where
    by_test : (b : Bool) → map bare_link (if b then at_link partner key (revived attribute told) rs
        else rs ++ new_link partner key attribute told ∷ [])
        ≡ (if b then at_link partner key (revived attribute told) (map bare_link rs)
        else map bare_link rs ++ new_link partner key attribute told ∷ [])
    by_test true = swapped (is_link partner key) (revived attribute told) bare_link (λ r. refl) (λ r. refl) rs
    by_test false = map-append bare_link rs (new_link partner key attribute told ∷ [])

with_nets : (s : NodeState) (a b : List NetKey) → a ≡ b → record s { nets = a } ≡ record s { nets = b }
with_nets s a b e = ap (λ (x : List NetKey). record s { nets = x }) e

installed : (key : Bytes) (sequence : ℕ) (rs : List NetKey) → map bare_net (if has_net key rs then rs
    else rs ++ new_net key sequence ∷ []) ≡ (if has_net key (map bare_net rs) then map bare_net rs
    else map bare_net rs ++ new_net key sequence ∷ [])
installed key sequence rs =
    by_test (has_net key rs) ∙ ap (λ b. if b then map bare_net rs else map bare_net rs ++ new_net key sequence ∷ [])
    (sym (any_map (λ (r : NetKey). same_key r.key key) bare_net rs))
  where
    by_test : (b : Bool) → map bare_net (if b then rs else rs ++ new_net key sequence ∷ [])
        ≡ (if b then map bare_net rs else map bare_net rs ++ new_net key sequence ∷ [])
    by_test true = refl
    by_test false = map-append bare_net rs (new_net key sequence ∷ [])

-- the changes that the rules of joining and of the exchange make
abbrev pub OfExchange : Move → Type 0
OfExchange (Draw key) = Unit {0}
OfExchange (DropNet key) = Unit {0}
OfExchange (DropLink partner key) = Unit {0}
OfExchange (Install key sequence) = Unit {0}
OfExchange (Active key) = Unit {0}
OfExchange (Row partner key attribute) = Unit {0}
OfExchange (Became state) = Unit {0}
OfExchange m = ◌≡◌ {A = Bool} false true

by_move : (m : Move) (s : NodeState) → OfExchange m → bare (moved m s) ≡ moved m (bare s)
unfolding bare
by_move (Draw key) s of = refl
by_move (DropNet key) s of =
    with_nets (bare s) _ _
    (swapped (λ (r : NetKey). same_key r.key key) dropped_net bare_net (λ r. refl) (λ r. refl) s.nets)
by_move (Install key sequence) s of = with_nets (bare s) _ _ (installed key sequence s.nets)
by_move (Active key) s of = refl
by_move (DropLink partner key) s of =
    with_links (bare s) _ _ (swapped (is_link partner key) dropped_link bare_link (λ r. refl) (λ r. refl) s.links)
by_move (Row partner key attribute) s of =
    with_links (bare s) _ _
    (linked partner key attribute (is_told s partner) s.links ∙ ap
    (λ b. with_link partner key attribute b (map bare_link s.links)) (sym (told_same s partner)))
by_move (Became state) s of = refl
by_move _ s of = absurd cc

-- several moves, in their order
abbrev pub moved_all : List Move → NodeState → NodeState
moved_all ms s = fold (λ (x : NodeState) (m : Move). moved m x) s ms

by_start : (key : Bytes) (value : ℕ) (s : NodeState) → bare (applied (Start key value) s) ≡ bare s
unfolding applied
by_start key value s = nets_same s (at_net key (started_at value) s.nets) s.nets
    (blind (λ (r : NetKey). same_key r.key key) (started_at value) bare_net (λ r. refl) s.nets)

by_edit : (k : Counting) (m : Move) → OfExchange m → (es : List Edit) (s : NodeState) (x : NodeState)
    → ((u : NodeState) → bare u ≡ moved m (bare s) → bare (applied_all es u) ≡ x)
    → bare (applied_all (move_edits k m ++ es) s) ≡ x
unfolding applied_all applied
by_edit k (Active key) of es s x rest = by_first k.start
  where
    by_first : (o : Option ℕ) → bare (applied_all (Moved (Active key) ∷ start_edit key o ++ es) s) ≡ x
    by_first None = rest (moved (Active key) s) (by_move (Active key) s tt)
    by_first (Some value) = rest (applied (Start key value) (moved (Active key) s))
        (by_start key value (moved (Active key) s) ∙ by_move (Active key) s tt)
by_edit k (Draw key) of es s x rest = rest s refl
by_edit k (DropNet key) of es s x rest = rest (moved (DropNet key) s) (by_move (DropNet key) s tt)
by_edit k (DropLink partner key) of es s x rest =
    rest (moved (DropLink partner key) s) (by_move (DropLink partner key) s tt)
by_edit k (Install key sequence) of es s x rest =
    rest (moved (Install key sequence) s) (by_move (Install key sequence) s tt)
by_edit k (Row partner key attribute) of es s x rest = rest (moved (Row partner key attribute) s)
    (by_move (Row partner key attribute) s tt)
by_edit k (Became state) of es s x rest = rest (moved (Became state) s) (by_move (Became state) s tt)
by_edit k _ of es s x rest = absurd cc

by_moves : (k : Counting) (ms : List Move) → AllByRecursion OfExchange ms → (s x : NodeState) → bare s ≡ x
    → bare (applied_all (flat_map (move_edits k) ms) s) ≡ moved_all ms x
unfolding applied_all
by_moves k [] all s x e = e
by_moves k (m ∷ ms) all s x e = by_edit k m all.0 (flat_map (move_edits k) ms) s (moved_all (m ∷ ms) x)
    (λ u f. by_moves k ms all.1 u (moved m x) (f ∙ ap (moved m) e))

-- ---- a whole answer

by_reserves : (nwk aps : Option ℕ) (s : NodeState) → bare (applied_all (reserves nwk aps) s) ≡ bare s
unfolding applied_all
by_reserves None None s = refl
by_reserves None (Some v) s = by_reserve Aps v s
by_reserves (Some u) None s = by_reserve Nwk u s
by_reserves (Some u) (Some v) s = by_reserve Aps v (applied (Reserve Nwk u) s) ∙ by_reserve Nwk u s

by_one_floor : (t : Term) (o : Option ℕ) (es : List Edit) (s : NodeState)
    → ((u : NodeState) → bare (applied_all es u) ≡ bare u)
    → bare (applied_all (option_to_list (option_map (Floor t.layer t.base t.source) o) ++ es) s) ≡ bare s
unfolding applied_all
by_one_floor t None es s rest = rest s
by_one_floor t (Some n) es s rest = rest (applied (Floor t.layer t.base t.source n) s) ∙ by_floor t.layer t.base
    t.source n s

by_floors : (k : Counting) (ts : List Term) (s : NodeState) → bare (applied_all (flat_map (floor_edit k) ts) s)
    ≡ bare s
unfolding applied_all
by_floors k [] s = refl
by_floors k (t ∷ ts) s = by_one_floor t (k.floor t.layer) (flat_map (floor_edit k) ts) s (by_floors k ts)

pub bare_after : (tools : Tools) (c : Setting) (s : NodeState) (k : Counting) (p : Plan) (ms : List Move)
    → filter (changes s) (moves_of p.outcome) ≡ ms → AllByRecursion OfExchange ms
    → bare (answered (answer_by tools c s k p) s) ≡ moved_all ms (bare s)
unfolding answered answer_by edits_of
bare_after tools c s k p ms e all =
    let a = answer_by tools c s k p in
    let first = reserves (k.reserve Nwk) (k.reserve Aps) in
    let floors = flat_map (floor_edit k) p.accepts in
    let u = applied_all first s in
    let v = applied_all floors u in
    by_seals a.seals (accepted_all a.accepts (applied_all a.edits s))
    ∙ by_accepts a.accepts (applied_all a.edits s)
    ∙ ap bare (applied_then first (floors ++ flat_map (move_edits k) (filter (changes s) (moves_of p.outcome))) s)
    ∙ ap bare (applied_then floors (flat_map (move_edits k) (filter (changes s) (moves_of p.outcome))) u)
    ∙ ap (λ l. bare (applied_all (flat_map (move_edits k) l) v)) e
    ∙ by_moves k ms all v (bare s) (by_floors k p.accepts u ∙ by_reserves (k.reserve Nwk) (k.reserve Aps) s)
