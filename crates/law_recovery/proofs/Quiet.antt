-- What an answer leaves of the floors of senders. A quiet state is without limits and counters: reserves and seals
-- don't show there, but its floors do.
use Rattle.std.proofs.Common.{◌≡◌, ℕ, ◌+◌, Bool, true, false, if◌then◌else◌, List, [], ◌∷◌, ◌++◌, map, filter, find, reverse, flat_map, Option, Some, None, option_map, nat_eq, refl, sym, ap, ◌∙◌}
use Rattle.zb_model.specs.Data.{Bytes, Layer, Nwk, Aps, Term, AtEvent, Reserve}
use Rattle.zb_model.specs.State.{NetKey, NodeState, same_key, at_net, of_active, reserved, next_at, sealed_at, after_sealing, applied, applied_all, sender_floor, may_use, usable_nets, usable_of}
use Rattle.zb_model.specs.Rules.{Setting, Outcome}
use Rattle.zb_model.specs.Tools.{Tools}
use Rattle.zb_model.specs.Answer.{Counting, comes_to, changes, moves_of, move_edits, sealed_all, edits_of, answer_by, answered}
use Rattle.law_recovery.proofs.Changing.{reserves, applied_then}
use Rattle.law_recovery.proofs.Once.{find_map, reverse_map}
use Rattle.law_recovery.specs.Exchanging.{Seals}
use Rattle.law_recovery.specs.Obstacles.{in_row, why_not_heard, why_unheard}
use Rattle.law_recovery.proofs.Baring.{blind}

abbrev pub still_net : NetKey → NetKey
still_net r = record r { started = false; limit = 0; next = 0 }

unfoldable pub quiet : NodeState → NodeState
quiet s = record s { aps_limit = 0; aps_next = 0; nets = map still_net s.nets }

-- ---- what doesn't show

nets_same : (s : NodeState) (a b : List NetKey) → map still_net a ≡ map still_net b → quiet (record s { nets = a })
    ≡ quiet (record s { nets = b })
unfolding quiet
nets_same s a b e = ap (λ (x : List NetKey). record (quiet s) { nets = x }) e

in_active : (limit : ℕ) (o : Option Bytes) (rs : List NetKey) → map still_net (of_active (reserved limit) o rs)
    ≡ map still_net rs
in_active limit None rs = refl
in_active limit (Some key) rs = blind (λ (r : NetKey). same_key r.key key) (reserved limit) still_net (λ r. refl) rs

by_reserve : (layer : Layer) (limit : ℕ) (s : NodeState) → quiet (applied (Reserve
    layer limit) s) ≡ quiet s
unfolding quiet applied
by_reserve Nwk limit s = nets_same s (of_active (reserved limit) s.active s.nets) s.nets
    (in_active limit s.active s.nets)
by_reserve Aps limit s = refl

by_reserves : (nwk aps : Option ℕ) (s : NodeState) → quiet (applied_all (reserves nwk aps) s) ≡ quiet s
unfolding applied_all
by_reserves None None s = refl
by_reserves None (Some v) s = by_reserve Aps v s
by_reserves (Some u) None s = by_reserve Nwk u s
by_reserves (Some u) (Some v) s = by_reserve Aps v (applied (Reserve Nwk u) s)
    ∙ by_reserve Nwk u s

by_sealing : (layer : Layer) (t : Term) (s : NodeState) → quiet (sealed_at layer t s) ≡ quiet s
unfolding quiet
by_sealing Nwk t s = nets_same s (at_net t.base (next_at (t.counter + 1)) s.nets) s.nets
    (blind (λ (r : NetKey). same_key r.key t.base) (next_at (t.counter + 1)) still_net (λ r. refl) s.nets)
by_sealing Aps t s = refl

by_seals : (ts : List Term) (s : NodeState) → quiet (sealed_all ts s) ≡ quiet s
unfolding after_sealing
by_seals [] s = refl
by_seals (t ∷ ts) s = by_seals ts (after_sealing t s) ∙ by_sealing t.layer t s

nothing_more : (u : NodeState) → applied_all [] u ≡ u
unfolding applied_all
nothing_more u = refl

-- an event of a node's own whose rule changes nothing leaves a quiet state
pub quiet_after : (tools : Tools) (c : Setting) (s : NodeState) (k : Counting) (o : Outcome) → moves_of o ≡ []
    → quiet (answered (answer_by tools c s k (comes_to [] AtEvent o)) s) ≡ quiet s
unfolding answered answer_by edits_of
quiet_after tools c s k o e =
    let a = answer_by tools c s k (comes_to [] AtEvent o) in
    let first = reserves (k.reserve Nwk) (k.reserve Aps) in
    by_seals a.seals (applied_all a.edits s)
    ∙ ap (λ ms. quiet (applied_all (first ++ flat_map (move_edits k) (filter (changes s) ms)) s)) e
    ∙ ap quiet (applied_then first [] s)
    ∙ ap quiet (nothing_more (applied_all first s))
    ∙ by_reserves (k.reserve Nwk) (k.reserve Aps) s

-- ---- what is found in it

live_still : (rs : List NetKey) → filter (λ (r : NetKey). r.live) (map still_net rs)
    ≡ map still_net (filter (λ (r : NetKey). r.live) rs)
live_still [] = refl
live_still (r ∷ rs) = by_test r.live (live_still rs)
  where
    by_test : (b : Bool) → filter (λ (x : NetKey). x.live) (map still_net rs)
        ≡ map still_net (filter (λ (x : NetKey). x.live) rs)
        → (if b then still_net r ∷ filter (λ (x : NetKey). x.live) (map still_net rs)
        else filter (λ (x : NetKey). x.live) (map still_net rs))
        ≡ map still_net (if b then r ∷ filter (λ (x : NetKey). x.live) rs else filter (λ (x : NetKey). x.live) rs)
    by_test true e = ap (λ l. still_net r ∷ l) e
    by_test false e = e

pub usable_still : (s : NodeState) (sequence : ℕ) → usable_of (quiet s) sequence ≡ option_map still_net
    (usable_of s sequence)
unfolding quiet usable_of usable_nets
usable_still s sequence = by_may (may_use s)
  where
    by_may : (b : Bool)
        → find (λ (r : NetKey). nat_eq r.sequence sequence)
        (reverse (if b then filter (λ (r : NetKey). r.live) (map still_net s.nets) else []))
        ≡ option_map still_net
        (find (λ (r : NetKey). nat_eq r.sequence sequence)
        (reverse (if b then filter (λ (r : NetKey). r.live) s.nets else [])))
    by_may true =
        ap (λ l. find (λ (r : NetKey). nat_eq r.sequence sequence) (reverse l)) (live_still s.nets)
        ∙ ap (find (λ (r : NetKey). nat_eq r.sequence sequence))
        (reverse_map still_net (filter (λ (r : NetKey). r.live) s.nets))
        ∙ find_map (λ (r : NetKey). nat_eq r.sequence sequence) still_net (λ r. refl)
        (reverse (filter (λ (r : NetKey). r.live) s.nets))
    by_may false = refl

heard_still : (o : Option NetKey) (source counter : ℕ) → in_row (option_map still_net o)
    (λ row. why_not_heard row source counter) ≡ in_row o (λ row. why_not_heard row source counter)
unfolding why_not_heard sender_floor
heard_still None source counter = refl
heard_still (Some r) source counter = refl

unheard_quiet : (s : NodeState) (source : ℕ) (k : Seals) → why_unheard (quiet s) source k ≡ why_unheard s source k
unheard_quiet s source k =
    ap (λ o. in_row o (λ row. why_not_heard row source k.nwk)) (usable_still s k.sequence)
    ∙ heard_still (usable_of s k.sequence) source k.nwk

-- so the node accepts a frame as before
pub unheard_left : (s u : NodeState) (source : ℕ) (k : Seals) → quiet u ≡ quiet s → why_unheard u source k
    ≡ why_unheard s source k
unheard_left s u source k e =
    sym (unheard_quiet u source k) ∙ ap (λ x. why_unheard x source k) e ∙ unheard_quiet s source k

pub links_kept : (s u : NodeState) → quiet u ≡ quiet s → u.links ≡ s.links
unfolding quiet
links_kept s u e = ap (λ (x : NodeState). x.links) e

pub role_kept : (s u : NodeState) → quiet u ≡ quiet s → u.role ≡ s.role
unfolding quiet
role_kept s u e = ap (λ (x : NodeState). x.role) e
