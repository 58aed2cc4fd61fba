-- What is shown after changes, seals, accepted terms and a boot, from what was shown before.
use Rattle.std.proofs.Common.{◌≡◌, ℕ, ◌+◌, List, [], ◌∷◌, map, refl, sym, ap, ◌∙◌, Bool, true, false, if◌then◌else◌}
use Rattle.zb_model.specs.Data.{Bytes, Layer, Nwk, Aps, Term, Edit}
use Rattle.zb_model.specs.State.{NodeState, NetKey, same_key, shown, shown_net, at_net, applied, applied_all, next_at, sealed_at, after_sealing, net_kept, link_kept, at_link, after_hearing, after_accepting, booted_net, booted_link, booted_floor, after_boot}
use Rattle.zb_model.specs.Answer.{Answer, accepted_all, sealed_all, answered}
use Rattle.law_change_fits.proofs.ShownApplied.{shown_twice, shown_applied}

pub twice_same : (s : NodeState) → shown (shown s) ≡ shown s
unfolding shown
twice_same s = ap (λ l. record s { nets = l }) (shown_twice s.nets)

pub applied_same : (es : List Edit) (s : NodeState) → shown (applied_all es (shown s)) ≡ shown (applied_all es s)
unfolding applied_all
applied_same [] s = twice_same s
applied_same (e ∷ es) s = sym (applied_same es (applied e (shown s))) ∙ ap (λ t. shown (applied_all es t))
    (shown_applied e s) ∙ applied_same es (applied e s)

-- a row of one key is changed, and shown
at_same : (key : Bytes) (f : NetKey → NetKey) → ((r : NetKey) → shown_net (f (shown_net r)) ≡ shown_net (f r))
    → (nets : List NetKey) → map shown_net (at_net key f (map shown_net nets)) ≡ map shown_net (at_net key f nets)
at_same key f each [] = refl
at_same key f each (r ∷ rs) =
    ap (λ l. shown_net (if same_key r.key key then f (shown_net r) else shown_net r) ∷ l) (at_same key f each rs)
    ∙ ap (λ x. x ∷ map shown_net (at_net key f rs)) (at_test (same_key r.key key) r.live)
  where
    twice : (b : Bool) → record r { live = b; floors = if b then (if b then r.floors else []) else [] }
        ≡ record r { live = b; floors = if b then r.floors else [] }
    twice true = refl
    twice false = refl

    at_test : (b live : Bool) → shown_net (if b then f (shown_net r) else shown_net r)
        ≡ shown_net (if b then f r else r)
    at_test true live = each r
    at_test false live = twice r.live

kept_same : (sender kept : ℕ) (r : NetKey) → shown_net (net_kept sender kept (shown_net r))
    ≡ shown_net (net_kept sender kept r)
kept_same sender kept r = by_live r.live
  where
    by_live : (b : Bool) → shown_net (net_kept sender kept (shown_net (record r { live = b })))
        ≡ shown_net (net_kept sender kept (record r { live = b }))
    by_live true = refl
    by_live false = refl

next_again : (next : ℕ) (r : NetKey) → shown_net (next_at next (shown_net r)) ≡ shown_net (next_at next r)
next_again next r = by_live r.live
  where
    by_live : (b : Bool) → shown_net (next_at next (shown_net (record r { live = b })))
        ≡ shown_net (next_at next (record r { live = b }))
    by_live true = refl
    by_live false = refl

heard_same : (layer : Layer) (key : Bytes) (sender counter : ℕ) (s : NodeState)
    → shown (after_hearing layer key sender counter (shown s)) ≡ shown (after_hearing layer key sender counter s)
unfolding shown after_hearing
heard_same Nwk key sender counter s =
    ap (λ l. record s { nets = l })
    (at_same key (net_kept sender (counter + 1)) (kept_same sender (counter + 1)) s.nets)
heard_same Aps key sender counter s =
    ap (λ l. record s { nets = l; links = at_link sender key (link_kept (counter + 1)) s.links }) (shown_twice s.nets)

accepted_same : (t : Term) (s : NodeState) → shown (after_accepting t (shown s)) ≡ shown (after_accepting t s)
unfolding after_accepting
accepted_same t s = heard_same t.layer t.base t.source t.counter s

sealed_same : (layer : Layer) (t : Term) (s : NodeState) → shown (sealed_at layer t (shown s))
    ≡ shown (sealed_at layer t s)
unfolding shown
sealed_same Nwk t s =
    ap (λ l. record s { nets = l }) (at_same t.base (next_at (t.counter + 1)) (next_again (t.counter + 1)) s.nets)
sealed_same Aps t s = ap (λ l. record s { nets = l; aps_next = t.counter + 1 }) (shown_twice s.nets)

pub sealing_same : (t : Term) (s : NodeState) → shown (after_sealing t (shown s)) ≡ shown (after_sealing t s)
unfolding after_sealing
sealing_same t s = sealed_same t.layer t s

all_accepted : (ts : List Term) (s : NodeState) → shown (accepted_all ts (shown s)) ≡ shown (accepted_all ts s)
all_accepted [] s = twice_same s
all_accepted (t ∷ ts) s = sym (all_accepted ts (after_accepting t (shown s))) ∙ ap (λ u. shown (accepted_all ts u))
    (accepted_same t s) ∙ all_accepted ts (after_accepting t s)

all_sealed : (ts : List Term) (s : NodeState) → shown (sealed_all ts (shown s)) ≡ shown (sealed_all ts s)
all_sealed [] s = twice_same s
all_sealed (t ∷ ts) s = sym (all_sealed ts (after_sealing t (shown s))) ∙ ap (λ u. shown (sealed_all ts u))
    (sealing_same t s) ∙ all_sealed ts (after_sealing t s)

pub answered_same : (a : Answer) (s : NodeState) → shown (answered a (shown s)) ≡ shown (answered a s)
unfolding answered
answered_same a s =
    sym (all_sealed a.seals (accepted_all a.accepts (applied_all a.edits (shown s))))
    ∙ ap (λ t. shown (sealed_all a.seals t))
    (sym (all_accepted a.accepts (applied_all a.edits (shown s))) ∙ ap (λ t. shown (accepted_all a.accepts t))
    (applied_same a.edits s) ∙ all_accepted a.accepts (applied_all a.edits s))
    ∙ all_sealed a.seals (accepted_all a.accepts (applied_all a.edits s))

-- a boot

boots_same : (rs : List NetKey) → map booted_net (map shown_net rs) ≡ map shown_net (map booted_net rs)
boots_same [] = refl
boots_same (r ∷ rs) = ap (λ x. x ∷ map booted_net (map shown_net rs)) (by_live r.live) ∙ ap
    (λ l. shown_net (booted_net r) ∷ l) (boots_same rs)
  where
    by_live : (b : Bool)
        → record r { next = r.limit; live = b; floors = map booted_floor (if b then r.floors else []) }
        ≡ record r { next = r.limit; live = b; floors = if b then map booted_floor r.floors else [] }
    by_live true = refl
    by_live false = refl

pub boot_same : (s : NodeState) → after_boot (shown s) ≡ shown (after_boot s)
unfolding after_boot shown
boot_same s = ap (λ l. record s { aps_next = s.aps_limit; nets = l; links = map booted_link s.links })
    (boots_same s.nets)
