-- What an answer leaves of the floors in memory of link rows, and of the state if the frame is stale at NWK.
use Rattle.std.proofs.Common.{◌≡◌, ℕ, ◌+◌, ◌<◌, ◌≤◌, Bool, true, false, not, List, [], ◌∷◌, find, reverse, Option, Some, None, nat_eq, refl, sym, ap, ◌∙◌, subst, arith}
use Rattle.std.specs.List.{AllByRecursion}
use Rattle.zb_model.specs.Answer.{Counting, accepted_all, sealed_all, aps_part, stopped_at, answer_by, counting_of, plan_of, answer, answered}
use Rattle.zb_model.specs.Data.{Bytes, Layer, Nwk, Aps, AtNwk, Attribute, Stale, Term, Move, DropLink, Row, Live, Roll, Told, Untold, Edit, Reserve, Floor, Start, Moved, Received}
use Rattle.zb_model.specs.Judging.{senders_full}
use Rattle.zb_model.specs.Rules.{Setting, Plan}
use Rattle.zb_model.specs.State.{NetKey, LinkKey, NodeState, current, is_link, is_unverified, has_link, is_live_of, is_told, dropped_link, link_floor, link_kept, told_as, revived, new_link, with_link, with_told, moved, applied, applied_all, sealed_at, after_sealing, after_hearing, after_accepting, sender_floor}
use Rattle.zb_model.specs.Tools.{Tools}
use Rattle.law_answer_storable.specs.Storing.{OpensAsJudged}
use Rattle.law_recovery.specs.CommandFrames.{IsCarried, NetFrame, net_term}
use Rattle.law_recovery.specs.Obstacles.{why_not_heard}
use Rattle.law_recovery.proofs.Judged.{IsHeard, delivered, free_at, plan_heard, shown_of, stale_at}
use Rattle.law_change_fits.proofs.Parts.{same_key_of}
use Rattle.law_change_fits.proofs.Tests.{both}
use Rattle.law_recovery.proofs.Rows.{found_test, is_current}
use Rattle.law_recovery.specs.Answering.{after_task}
use Rattle.law_run.proofs.FreshLines.{all-append}
use Rattle.law_run.proofs.Judged.{all-in, found-element, in-reverse}
use Rattle.law_recovery.proofs.Floors.{AllWithin, all_found, changed, if_then, mapped}
use Rattle.law_recovery.proofs.Twice.{AllAps, part_begins, shown_counter, stop_leaves}

-- the row of a partner with a key has its floor in memory within a bound
abbrev KeptWithin : ℕ → Bytes → ℕ → LinkKey → Type 0
KeptWithin c key most r = is_link c key r ≡ true → r.kept ≤ most

abbrev pub AllKept : ℕ → Bytes → ℕ → List LinkKey → Type 0
AllKept c key most rs = AllByRecursion (KeptWithin c key most) rs

pub kept_from : (c : ℕ) (key : Bytes) (most : ℕ) (rs : List LinkKey) → AllWithin c key most rs → AllKept c key most rs
kept_from c key most [] all = tt
kept_from c key most (r ∷ rs) all = (λ e. (all.0 e).0, kept_from c key most rs all.1)

link_in : (c : ℕ) (k : Bytes) (most partner : ℕ) (key : Bytes) (a : Attribute) (told : Bool) (rs : List LinkKey)
    → AllKept c k most rs → AllKept c k most (with_link partner key a told rs)
link_in c k most partner key a told rs all =
    if_then (λ (l : List LinkKey). AllKept c k most l) (has_link partner key rs) _ _
    (λ e. changed (KeptWithin c k most) (is_link partner key) (revived a told) (λ r t x. x) rs all)
    (all-append (KeptWithin c k most) rs (new_link partner key a told ∷ []) all (new_within, tt))
  where
    new_within : KeptWithin c k most (new_link partner key a told)
    new_within e = omega arith

told_in : (c : ℕ) (k : Bytes) (most partner : ℕ) (told : Bool) (rs : List LinkKey) → AllKept c k most rs
    → AllKept c k most (with_told partner told rs)
told_in c k most partner told rs all =
    changed (KeptWithin c k most) (is_live_of partner) (told_as told) (λ r t x. x) rs all

move_in : (c : ℕ) (k : Bytes) (most : ℕ) (m : Move) (s : NodeState) → AllKept c k most s.links
    → AllKept c k most (moved m s).links
move_in c k most (DropLink partner key) s all =
    changed (KeptWithin c k most) (is_link partner key) dropped_link (λ r t x. x) s.links all
move_in c k most (Row partner key attribute) s all =
    link_in c k most partner key attribute (is_told s partner) s.links all
move_in c k most (Live device) s all = told_in c k most device false s.links all
move_in c k most (Roll sending) s all =
    if_then (λ (l : List LinkKey). AllKept c k most l) sending _ _
    (λ e. mapped (KeptWithin c k most) (told_as false) (λ r x. x) s.links all) all
move_in c k most (Told device) s all = told_in c k most device true s.links all
move_in c k most (Untold device) s all = told_in c k most device false s.links all
move_in c k most _ s all = all

edit_in : (c : ℕ) (k : Bytes) (most : ℕ) (e : Edit) (s : NodeState) → AllKept c k most s.links
    → AllKept c k most (applied e s).links
unfolding applied
edit_in c k most (Floor Aps key sender value) s all =
    changed (KeptWithin c k most) (is_link sender key) (link_floor value) (λ r t x. x) s.links all
edit_in c k most (Moved m) s all = move_in c k most m s all
edit_in c k most (Reserve Nwk limit) s all = all
edit_in c k most (Reserve Aps limit) s all = all
edit_in c k most (Floor Nwk key sender value) s all = all
edit_in c k most (Start key value) s all = all

edits_in : (c : ℕ) (k : Bytes) (most : ℕ) (es : List Edit) (s : NodeState) → AllKept c k most s.links
    → AllKept c k most (applied_all es s).links
unfolding applied_all
edits_in c k most [] s all = all
edits_in c k most (e ∷ es) s all = edits_in c k most es (applied e s) (edit_in c k most e s all)

-- a term that is accepted at APS has a counter below the bound
abbrev IsLow : ℕ → Term → Type 0
IsLow most t = t.layer ≡ Aps → t.counter < most

one_more : (counter most : ℕ) → counter < most → counter + 1 ≤ most
one_more counter most lt = omega (arith, lt)

hearing_in : (l : Layer) (c : ℕ) (k : Bytes) (most : ℕ) (t : Term) (s : NodeState) → (l ≡ Aps → t.counter < most)
    → AllKept c k most s.links → AllKept c k most (after_hearing l t.base t.source t.counter s).links
unfolding after_hearing
hearing_in Nwk c k most t s low all = all
hearing_in Aps c k most t s low all =
    changed (KeptWithin c k most) (is_link t.source t.base) (λ r. link_kept (t.counter + 1) r)
    (λ r at within e. one_more t.counter most (low refl)) s.links all

accepts_in : (c : ℕ) (k : Bytes) (most : ℕ) (ts : List Term) (s : NodeState) → AllByRecursion (IsLow most) ts
    → AllKept c k most s.links → AllKept c k most (accepted_all ts s).links
unfolding after_accepting
accepts_in c k most [] s low all = all
accepts_in c k most (t ∷ ts) s low all =
    accepts_in c k most ts (after_accepting t s) low.1 (hearing_in t.layer c k most t s low.0 all)

seal_in : (l : Layer) (t : Term) (c : ℕ) (k : Bytes) (most : ℕ) (s : NodeState) → AllKept c k most s.links
    → AllKept c k most (sealed_at l t s).links
seal_in Nwk t c k most s all = all
seal_in Aps t c k most s all = all

seals_in : (c : ℕ) (k : Bytes) (most : ℕ) (ts : List Term) (s : NodeState) → AllKept c k most s.links
    → AllKept c k most (sealed_all ts s).links
unfolding after_sealing
seals_in c k most [] s all = all
seals_in c k most (t ∷ ts) s all = seals_in c k most ts (after_sealing t s) (seal_in t.layer t c k most s all)

links_after : (tools : Tools) (b : Setting) (s : NodeState) (n : Counting) (p : Plan) (c : ℕ) (k : Bytes) (most : ℕ)
    → AllByRecursion (IsLow most) p.accepts → AllKept c k most s.links
    → AllKept c k most (answered (answer_by tools b s n p) s).links
unfolding answered answer_by
links_after tools b s n p c k most low all =
    let a = answer_by tools b s n p in
    seals_in c k most a.seals (accepted_all a.accepts (applied_all a.edits s))
    (accepts_in c k most a.accepts (applied_all a.edits s) low (edits_in c k most a.edits s all))

-- ---- a frame that is accepted

low_rest : (n most : ℕ) (ts : List Term) → n < most → AllAps n ts → AllByRecursion (IsLow most) ts
low_rest n most [] lt all = tt
low_rest n most (t ∷ ts) lt all =
    (λ e. subst (λ m. m < most) (sym all.0.1) lt, low_rest n most ts lt all.1)

no_layer : {X : Type 0} → Nwk ≡ Aps → X
no_layer e = absurd (cc)

pub heard_links : (tools : Tools) → OpensAsJudged tools → (b : Setting) (s : NodeState) (f : NetFrame)
    (content : Bytes) (row : NetKey) (draw : Option Bytes) → IsCarried tools f content → IsHeard b s f row
    → why_not_heard row f.source f.counter ≡ None → (c : ℕ) (k : Bytes) (most : ℕ)
    → shown_counter (tools.read_aps content) < most → AllKept c k most s.links
    → AllKept c k most (after_task tools b s (Received (tools.wire (net_term f content)) draw)).links
unfolding after_task answer
heard_links tools opens b s f content row draw a h free c k most low all =
    let t = net_term f content in
    let part = aps_part tools b s draw (shown_of f a.body) (Some t) (tools.read_aps content) in
    let plan : plan_of tools b s (Received (tools.wire t) draw) ≡ part =
    delivered tools b s f content row draw a h ∙ free_at f row part free in
    let begins = part_begins tools opens b s draw (shown_of f a.body) t (tools.read_aps content) refl in
    let lows : AllByRecursion (IsLow most) part.accepts =
    subst (AllByRecursion (IsLow most)) (sym begins.accepts)
    (λ e. no_layer e, low_rest (shown_counter (tools.read_aps content)) most begins.rest low begins.aps) in
    subst (λ p. AllKept c k most (answered (answer_by tools b s (counting_of b s p) p) s).links) (sym plan)
    (links_after tools b s (counting_of b s part) part c k most lows all)

-- ---- a frame that is stale at NWK

pub stale_leaves : (tools : Tools) (b : Setting) (s : NodeState) (f : NetFrame) (content : Bytes) (row : NetKey)
    (draw : Option Bytes) → IsCarried tools f content → IsHeard b s f row → stale_at f row ≡ true
    → after_task tools b s (Received (tools.wire (net_term f content)) draw) ≡ s
unfolding after_task answer
stale_leaves tools b s f content row draw a h late =
    let floor = (sender_floor f.source row).kept in
    let rest = aps_part tools b s draw (shown_of f a.body) (Some (net_term f content)) (tools.read_aps content) in
    let plan : plan_of tools b s (Received (tools.wire (net_term f content)) draw)
    ≡ stopped_at [] AtNwk (Stale floor) =
    delivered tools b s f content row draw a h
    ∙ ap (λ t. plan_heard t (senders_full f.source f.counter row) floor rest) late in
    ap (λ p. answered (answer_by tools b s (counting_of b s p) p) s) plan ∙ stop_leaves tools b s AtNwk (Stale floor)

-- ---- the current row

pub row_kept : (s : NodeState) (device : ℕ) (link : Bytes) (most : ℕ) (row : LinkKey) → current s device ≡ Some row
    → row.key ≡ link → AllKept device link most s.links → row.kept ≤ most
unfolding current
row_kept s device link most row is key all =
    let live = both (is_live_of device row) (not (is_unverified row.attribute))
    (found_test (is_current device) s.links row is) in
    let mine = (both row.live (nat_eq row.partner device) live.0).1 in
    all_found (KeptWithin device link most) (is_current device) s.links row all is
    (rw (mine, same_key_of row.key link key) refl)

-- and the row that is tried first
pub tried_kept : (s : NodeState) (device : ℕ) (link : Bytes) (most : ℕ) (row : LinkKey)
    → find (is_live_of device) (reverse s.links) ≡ Some row → row.key ≡ link → AllKept device link most s.links
    → row.kept ≤ most
tried_kept s device link most row is key all =
    let found = found-element (is_live_of device) (reverse s.links) row is in
    let mine = (both row.live (nat_eq row.partner device) found.1).1 in
    all-in (KeptWithin device link most) s.links all row (in-reverse row s.links found.0)
    (rw (mine, same_key_of row.key link key) refl)
