-- What rules ask of the network rows has the same answer for a state and for what is shown of it.
use Rattle.std.proofs.Common.{◌≡◌, ℕ, ◌+◌, List, [], ◌∷◌, length, map, filter, reverse, find, option_map, is_some, refl, ap, ◌∙◌, Bool, true, false, not, if◌then◌else◌, ◌&&◌, Option, Some, None, nat_eq}
use Rattle.std.specs.Prelude.{nat_le}
use Rattle.std.proofs.lemmas.List.{length-map}
use Rattle.std.proofs.lemmas.Bool.{false≢true}
use mathlib.Core.List.{reverse_aux}
use Rattle.zb_model.specs.Data.{Bytes, Layer, Nwk, Aps}
use Rattle.zb_model.specs.State.{NodeState, NetKey, same_key, shown, shown_net, net_of, net_of_active, active_row, has_net, live_nets, usable_nets, usable_active, usable_of, may_use, last_where, newest, live_of, next_of, limit_of, next_counter, stored_limit, is_active_key}
use Rattle.zb_model.specs.Rules.{spent, both_spent, nets_full, unless_held, drop_old, first_drop}
use Rattle.zb_model.specs.Commands.{dropped_at}
use Rattle.law_change_fits.proofs.Tests.{any_map}

-- ---- rows

pub live_stays : (r : NetKey) → r.live ≡ true → shown_net r ≡ r
live_stays r is = by_live r.live is
  where
    by_live : (b : Bool) → b ≡ true → record r { floors = if b then r.floors else [] } ≡ r
    by_live true e = refl
    by_live false e = absurd (false≢true e)

pub net_found : (key : Bytes) (nets : List NetKey) → find (λ (r : NetKey). same_key r.key key) (map shown_net nets)
    ≡ option_map shown_net (find (λ (r : NetKey). same_key r.key key) nets)
net_found key [] = refl
net_found key (r ∷ rs) = at_test (same_key r.key key) (net_found key rs)
  where
    at_test : (b : Bool) → find (λ (x : NetKey). same_key x.key key) (map shown_net rs)
        ≡ option_map shown_net (find (λ (x : NetKey). same_key x.key key) rs)
        → (if b then Some (shown_net r) else find (λ (x : NetKey). same_key x.key key) (map shown_net rs))
        ≡ option_map shown_net (if b then Some r else find (λ (x : NetKey). same_key x.key key) rs)
    at_test true e = refl
    at_test false e = e

-- live rows are shown as they are
pub lives_same : (nets : List NetKey) → filter (λ (r : NetKey). r.live) (map shown_net nets)
    ≡ filter (λ (r : NetKey). r.live) nets
lives_same [] = refl
lives_same (r ∷ rs) = at_test r.live refl (lives_same rs)
  where
    at_test : (b : Bool) → r.live ≡ b → filter (λ (x : NetKey). x.live) (map shown_net rs)
        ≡ filter (λ (x : NetKey). x.live) rs
        → (if b then shown_net r ∷ filter (λ (x : NetKey). x.live) (map shown_net rs)
        else filter (λ (x : NetKey). x.live) (map shown_net rs))
        ≡ (if b then r ∷ filter (λ (x : NetKey). x.live) rs else filter (λ (x : NetKey). x.live) rs)
    at_test true is e = ap (λ x. x ∷ filter (λ (y : NetKey). y.live) (map shown_net rs)) (live_stays r is) ∙ ap
        (λ l. r ∷ l) e
    at_test false is e = e

aux_shown : (xs ys : List NetKey) → reverse_aux (map shown_net xs) (map shown_net ys)
    ≡ map shown_net (reverse_aux xs ys)
aux_shown [] ys = refl
aux_shown (x ∷ xs) ys = aux_shown xs (x ∷ ys)

reverse_shown : (nets : List NetKey) → reverse (map shown_net nets) ≡ map shown_net (reverse nets)
reverse_shown nets = aux_shown nets []

-- what is found by a test that no dropped row passes
live_found : (test : NetKey → Bool) → ((r : NetKey) → test (shown_net r) ≡ test r)
    → ((r : NetKey) → test r ≡ true → r.live ≡ true) → (nets : List NetKey) → find test (map shown_net nets)
    ≡ find test nets
live_found test same alive [] = refl
live_found test same alive (r ∷ rs) = ap (λ b. if b then Some (shown_net r) else find test (map shown_net rs))
    (same r) ∙ at_test (test r) refl (live_found test same alive rs)
  where
    at_test : (b : Bool) → test r ≡ b → find test (map shown_net rs) ≡ find test rs
        → (if b then Some (shown_net r) else find test (map shown_net rs)) ≡ (if b then Some r else find test rs)
    at_test true is e = ap Some (live_stays r (alive r is))
    at_test false is e = e

last_found : (test : NetKey → Bool) → ((r : NetKey) → test (shown_net r) ≡ test r)
    → ((r : NetKey) → test r ≡ true → r.live ≡ true) → (nets : List NetKey) → last_where test (map shown_net nets)
    ≡ last_where test nets
last_found test same alive nets = ap (find test) (reverse_shown nets) ∙ live_found test same alive (reverse nets)

both_first : (a b : Bool) → (a && b) ≡ true → a ≡ true
both_first true b e = refl
both_first false b e = absurd (false≢true e)

-- ---- questions

pub has_same : (key : Bytes) (nets : List NetKey) → has_net key (map shown_net nets) ≡ has_net key nets
has_same key nets = any_map (λ (r : NetKey). same_key r.key key) shown_net nets

pub net_same : (key : Bytes) (s : NodeState) → net_of key (shown s) ≡ option_map shown_net (net_of key s)
unfolding shown
net_same key s = net_found key s.nets

pub active_same : (s : NodeState) → active_row (shown s) ≡ option_map shown_net (active_row s)
unfolding shown active_row
active_same s = by_active s.active
  where
    by_active : (o : Option Bytes) → net_of_active o (shown s) ≡ option_map shown_net (net_of_active o s)
    by_active None = refl
    by_active (Some key) = net_found key s.nets

none_shown : (b : Bool) (o : Option NetKey) → (if b then option_map shown_net o else None)
    ≡ option_map shown_net (if b then o else None)
none_shown true o = refl
none_shown false o = refl

pub usable_active_same : (s : NodeState) → usable_active (shown s) ≡ option_map shown_net (usable_active s)
unfolding shown usable_active
usable_active_same s = ap (λ (o : Option NetKey). if may_use s then o else None) (active_same s) ∙ none_shown
    (may_use s) (active_row s)

pub live_nets_same : (s : NodeState) → live_nets (shown s) ≡ live_nets s
unfolding shown
live_nets_same s = lives_same s.nets

pub usable_nets_same : (s : NodeState) → usable_nets (shown s) ≡ usable_nets s
unfolding shown usable_nets
usable_nets_same s = ap (λ (l : List NetKey). if may_use s then l else []) (lives_same s.nets)

pub usable_of_same : (s : NodeState) (sequence : ℕ) → usable_of (shown s) sequence ≡ usable_of s sequence
unfolding usable_of
usable_of_same s sequence = ap (λ l. last_where (λ (r : NetKey). nat_eq r.sequence sequence) l) (usable_nets_same s)

pub newest_same : (s : NodeState) → newest (shown s) ≡ newest s
unfolding shown newest
newest_same s = last_found (λ (r : NetKey). r.live) (λ r. refl) (λ r e. e) s.nets

pub live_of_same : (s : NodeState) (sequence : ℕ) → live_of (shown s) sequence ≡ live_of s sequence
unfolding shown live_of
live_of_same s sequence = last_found (λ (r : NetKey). r.live && nat_eq r.sequence sequence) (λ r. refl)
    (λ r e. both_first r.live (nat_eq r.sequence sequence) e) s.nets

next_shown : (declared : ℕ) (o : Option NetKey) → next_of declared (option_map shown_net o) ≡ next_of declared o
next_shown declared None = refl
next_shown declared (Some r) = refl

limit_shown : (declared : ℕ) (o : Option NetKey) → limit_of declared (option_map shown_net o) ≡ limit_of declared o
limit_shown declared None = refl
limit_shown declared (Some r) = refl

some_shown : (o : Option NetKey) → is_some (option_map shown_net o) ≡ is_some o
some_shown None = refl
some_shown (Some r) = refl

pub has_active_same : (s : NodeState) → is_some (active_row (shown s)) ≡ is_some (active_row s)
has_active_same s = ap is_some (active_same s) ∙ some_shown (active_row s)

pub next_same : (layer : Layer) (s : NodeState) → next_counter layer (shown s) ≡ next_counter layer s
unfolding shown next_counter
next_same Nwk s = ap (next_of s.declared) (active_same s) ∙ next_shown s.declared (active_row s)
next_same Aps s = refl

pub limit_same : (layer : Layer) (s : NodeState) → stored_limit layer (shown s) ≡ stored_limit layer s
unfolding shown stored_limit
limit_same Nwk s = ap (limit_of s.declared) (active_same s) ∙ limit_shown s.declared (active_row s)
limit_same Aps s = refl

pub spent_same : (layer : Layer) (s : NodeState) → spent layer (shown s) ≡ spent layer s
unfolding spent
spent_same layer s = ap (nat_le 4294967295) (next_same layer s)

pub both_spent_same : (s : NodeState) → both_spent (shown s) ≡ both_spent s
unfolding both_spent
both_spent_same s = rw (spent_same Nwk s, spent_same Aps s) refl

pub full_same : (s : NodeState) → nets_full (shown s) ≡ nets_full s
unfolding shown
full_same s = ap (nat_le 256) (length-map s.nets shown_net)

pub held_same : (s : NodeState) (draw : Option Bytes) → unless_held (shown s) draw ≡ unless_held s draw
unfolding shown
held_same s None = refl
held_same s (Some key) = rw (has_same key s.nets) refl

pub dropped_same : (place : ℕ) (key : Bytes) (nets : List NetKey) → dropped_at place key (map shown_net nets)
    ≡ dropped_at place key nets
dropped_same place key [] = refl
dropped_same place key (r ∷ rs) = ap (λ (o : Option ℕ). if same_key r.key key && not r.live then Some place
    else o) (dropped_same (place + 1) key rs)

pub drop_old_same : (s : NodeState) → drop_old (shown s) ≡ drop_old s
unfolding shown drop_old
drop_old_same s =
    ap (λ (l : List NetKey). if nat_le 2 (length l)
    then first_drop (filter (λ (r : NetKey). not (is_active_key s.active r.key)) l) else []) (live_nets_same s)
