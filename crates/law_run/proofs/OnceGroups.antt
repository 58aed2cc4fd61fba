-- The accepted terms of a group fit: their floors are stored before.
use Rattle.std.proofs.Common.{◌≡◌, ℕ, ◌<◌, ◌+◌, min, Bool, true, false, cond, List, [], ◌∷◌, ◌++◌, map, filter, length, Option, Some, None, option_map, option_to_list, find, nat_le, flat_map, refl, sym, ap, ◌∙◌, subst, arith, append_assoc, leb-false, ⊎_elim}
use Rattle.std.specs.List.{AllByRecursion}
use Rattle.zb_model.specs.Data.{Bytes, Layer, Nwk, Aps, Term, Edit, Reserve, Floor, Start, Moved, Place, Reason}
use Rattle.zb_model.specs.Lines.{Line, Changed, Accept, Seal}
use Rattle.zb_model.specs.State.{greatest_counter, NetKey, LinkKey, NodeState, is_link, reserved, net_floor, link_floor, sender_floor, applied, applied_all, after_accepting, after_hearing, same_layer}
use Rattle.zb_model.specs.Fits.{net_stored, link_stored}
use Rattle.zb_model.specs.Rules.{Setting, Plan}
use Rattle.zb_model.specs.Tools.{Tools}
use Rattle.law_run.specs.Opening.{}
use Rattle.zb_model.specs.Answer.{Answer, Counting, answer_by, counting_of, edits_of, floor_of, floor_for, stored_floor, stored_at, reserve_of, sending_of, moves_of, move_edits, changes}
use Rattle.zb_model.specs.Readings.{state_of, after, speaker, air}
use Rattle.zb_model.specs.Play.{stored_lines, told_lines, group_of, cut_of, refuse_lines, send_lines}
use Rattle.zb_model.specs.Claims.{Each}
use Rattle.law_run.proofs.Basics.{append-nil', each-append, state-snoc}
use Rattle.law_run.proofs.Finds.{HoldsOf}
use Rattle.law_run.proofs.Nets.{Holds, On, at_key, Keeps, Closed, Mild, on-applied, on-at, on-map-found}
use Rattle.law_run.proofs.FreshLines.{all-append, heard-keeps}
use Rattle.law_run.proofs.Groups.{reserve_list, reserves, applied-all-append}
use Rattle.law_run.proofs.GroupSeals.{stored-state}
use Rattle.law_run.proofs.FloorRows.{Takes, sorted-stored, stored-keeps, stored-takes, found-takes}
use Rattle.law_run.proofs.OnceLines.{RowTakes, LinkTakes, TakesAt, AcceptState, AcceptFits, LinkClosed, links-applied, link-own}
use Rattle.law_run.proofs.Judged.{RowPre, LinkPre, PreAt, Judged, AcceptsFit}

-- Lines without an accepted term

unfoldable pub NoAccept : Line → Type 0
NoAccept (Accept e n t) = ⊥
NoAccept _ = Unit {0}

no-accept-fits : (l : Line) → NoAccept l → (s : NodeState) → AcceptState l s
unfolding NoAccept
no-accept-fits (Accept e n t) k s = absurd k
no-accept-fits _ k s = tt

pub plain : (h ls : List Line) → AllByRecursion NoAccept ls → Each AcceptFits h ls
plain h [] a = tt
plain h (l ∷ ls) a = (no-accept-fits l a.0 (state_of h (speaker l)), plain (h ++ l ∷ []) ls a.1)

changes-plain : (number n : ℕ) (es : List Edit) → AllByRecursion NoAccept (map (Changed number n) es)
unfolding NoAccept
changes-plain number n [] = tt
changes-plain number n (e ∷ es) = (tt, changes-plain number n es)

commit-plain : (number n : ℕ) (es : List Edit)
    → AllByRecursion NoAccept (Rattle.zb_model.specs.Play.commit_lines number n es)
unfolding NoAccept
commit-plain number n [] = tt
commit-plain number n (e ∷ es) = (tt, tt)

pub stored-plain : (number n : ℕ) (a : Answer) → AllByRecursion NoAccept (stored_lines number n a)
unfolding stored_lines
stored-plain number n a = all-append NoAccept (map (Changed number n) a.edits)
    (Rattle.zb_model.specs.Play.commit_lines number n a.edits) (changes-plain number n a.edits)
    (commit-plain number n a.edits)

refuse-plain : (number n : ℕ) (place : Place) (r : Option Reason)
    → AllByRecursion NoAccept (refuse_lines number n place r)
unfolding NoAccept
refuse-plain number n place None = tt
refuse-plain number n place (Some r) = (tt, tt)

seals-plain : (number n : ℕ) (ts : List Term) → AllByRecursion NoAccept (map (Seal number n) ts)
unfolding NoAccept
seals-plain number n [] = tt
seals-plain number n (t ∷ ts) = (tt, seals-plain number n ts)

send-plain : (number : ℕ) (n : Option ℕ) (frame : ℕ) (bytes : Option Bytes)
    → AllByRecursion NoAccept (send_lines number n frame bytes)
unfolding NoAccept
send-plain number n frame None = tt
send-plain number n frame (Some b) = (tt, tt)

-- A counter that was accepted stays accepted under every change

takes-closed : (c source : ℕ) → Closed (RowTakes c source)
takes-closed c source = record {
  reserves = λ limit. record { key = λ r. refl; kept = λ r h. h };
  drops = record { key = λ r. refl; kept = λ r h. h };
  floors =
      λ sender value.
      record {
        key = λ r. refl;
        kept = λ r h. (
          sorted-stored sender value r.floors h.0,
          stored-keeps (Takes c) (λ v f p. (p.0, omega (arith, p.1))) sender
              value source r.floors h.0 h.1,
        );
      };
}

takes-mild : (c source : ℕ) (e : Edit) → Mild (RowTakes c source) e
takes-mild c source (Start key value) = record { key = λ r. refl; kept = λ r h. h }
takes-mild c source (Reserve layer limit) = tt
takes-mild c source (Floor layer key sender value) = tt
takes-mild c source (Moved m) = tt

takes-links : (c : ℕ) → LinkClosed (LinkTakes c)
takes-links c =
    record {
      drops = λ r h. h;
      revives = λ t b r h. h;
      tells = λ b r h. h;
      floors = λ v r h. (h.0, omega (arith, h.1));
    }

takes-applied : (layer : Layer) (c : ℕ) (base : Bytes) (source : ℕ) (e : Edit) (s : NodeState)
    → TakesAt layer c base source s → TakesAt layer c base source (applied e s)
unfolding TakesAt
takes-applied Nwk c base source e s h = on-applied (RowTakes c source) (takes-closed c source) base e s
    (takes-mild c source e) h
takes-applied Aps c base source e s h = links-applied (LinkTakes c) (takes-links c) source base e s h

pub takes-all : (layer : Layer) (c : ℕ) (base : Bytes) (source : ℕ) (es : List Edit) (s : NodeState)
    → TakesAt layer c base source s → TakesAt layer c base source (applied_all es s)
unfolding applied_all
takes-all layer c base source [] s h = h
takes-all layer c base source (e ∷ es) s h = takes-all layer c base source es (applied e s)
    (takes-applied layer c base source e s h)

-- Reserves leave the floors

pre-closed : (c source : ℕ) → (limit : ℕ) → Keeps (RowPre c source) (reserved limit)
pre-closed c source limit = record { key = λ r. refl; kept = λ r h. h }

pre-reserve : (layer of : Layer) (c : ℕ) (base : Bytes) (source v : ℕ) (s : NodeState) → PreAt layer c base source s
    → PreAt layer c base source (applied (Reserve of v) s)
unfolding PreAt applied
pre-reserve Nwk Nwk c base source v s h = Rattle.law_run.proofs.Nets.on-of-active (RowPre c source) (reserved v)
    (pre-closed c source v) s.active base s.nets h
pre-reserve Nwk Aps c base source v s h = h
pre-reserve Aps Nwk c base source v s h = h
pre-reserve Aps Aps c base source v s h = h

pre-reserve-list : (layer of : Layer) (c : ℕ) (base : Bytes) (source : ℕ) (o : Option ℕ) (s : NodeState)
    → PreAt layer c base source s → PreAt layer c base source (applied_all (reserve_list of o) s)
unfolding applied_all
pre-reserve-list layer of c base source None s h = h
pre-reserve-list layer of c base source (Some v) s h = pre-reserve layer of c base source v s h

pre-reserves : (layer : Layer) (c : ℕ) (base : Bytes) (source : ℕ) (x : Setting) (s0 : NodeState)
    (send : Option Rattle.zb_model.specs.Rules.Sending) (s : NodeState) → PreAt layer c base source s
    → PreAt layer c base source (applied_all (reserves x s0 send) s)
pre-reserves layer c base source x s0 send s h =
    subst (λ y. PreAt layer c base source y)
    (sym (applied-all-append (reserve_list Nwk (reserve_of x s0 send Nwk))
    (reserve_list Aps (reserve_of x s0 send Aps)) s))
    (pre-reserve-list layer Aps c base source (reserve_of x s0 send Aps)
    (applied_all (reserve_list Nwk (reserve_of x s0 send Nwk)) s)
    (pre-reserve-list layer Nwk c base source (reserve_of x s0 send Nwk) s h))

-- a NWK floor leaves the link rows
pre-other : (c : ℕ) (base : Bytes) (source : ℕ) (key : Bytes) (sender v : ℕ) (s : NodeState)
    → PreAt Aps c base source s → PreAt Aps c base source (applied (Floor Nwk key sender v) s)
unfolding PreAt applied
pre-other c base source key sender v s h = h

-- The floor that is stored takes the counter

floor-takes : (layer : Layer) (c : ℕ) (base : Bytes) (source v : ℕ) (s : NodeState) → c < v
    → PreAt layer c base source s → TakesAt layer c base source (applied (Floor layer base source v) s)
unfolding PreAt TakesAt applied
floor-takes Nwk c base source v s lt h =
    on-map-found (RowPre c source) (RowTakes c source) (net_floor source v) base s.nets (λ r. refl)
    (λ r p. (sorted-stored source v r.floors p.0, stored-takes c source v r.floors lt p.1)) h
floor-takes Aps c base source v s lt h = link-own (LinkPre c) (LinkTakes c) (link_floor v) (λ p k r. refl)
    (λ r p. (p, omega (arith, lt))) source base s.links h

-- and so does one that is above it already

row-takes : (c source : ℕ) (o : Option NetKey) → Holds (RowPre c source) o → c < net_stored source o
    → Holds (RowTakes c source) o
unfolding Holds sender_floor
row-takes c source None h lt = h
row-takes c source (Some r) h lt = (h.0, found-takes c source r.floors h.1 lt)

link-takes : (c : ℕ) (o : Option LinkKey) → HoldsOf (LinkPre c) o → c < link_stored o → HoldsOf (LinkTakes c) o
unfolding HoldsOf
link-takes c None h lt = h
link-takes c (Some r) h lt = (h, lt)

stored-at-takes : (layer : Layer) (t : Term) (s : NodeState) → PreAt layer t.counter t.base t.source s → t.counter
    < stored_at layer t s → TakesAt layer t.counter t.base t.source s
unfolding PreAt TakesAt
stored-at-takes Nwk t s h lt = row-takes t.counter t.source (find (at_key t.base) s.nets) h lt
stored-at-takes Aps t s h lt = link-takes t.counter (find (is_link t.source t.base) s.links) h lt

-- A term's own edits, after others that leave its floor

abbrev floor_list : Term → Option ℕ → List Edit
floor_list t o = option_to_list (option_map (Floor t.layer t.base t.source) o)

abbrev block_end : Setting → Term → ℕ
block_end c t = min (t.counter + c.me.in_block) greatest_counter

own-floor : (c : Setting) (s0 s : NodeState) (t : Term) (layer : Layer) → Judged layer s0 t → 0 < c.me.in_block
    → PreAt layer t.counter t.base t.source s
    → (TakesAt layer t.counter t.base t.source s0 → TakesAt layer t.counter t.base t.source s)
    → (b : Bool) → nat_le (stored_floor t s0) t.counter ≡ b
    → TakesAt layer t.counter t.base t.source (applied_all (floor_list t (cond b (Some (block_end c t)) None)) s)
unfolding stored_floor applied_all
own-floor c s0 s t layer j block pre go true e =
    subst (λ x. TakesAt layer t.counter t.base t.source (applied (Floor x t.base t.source (block_end c t)) s))
    (sym j.at) (floor-takes layer t.counter t.base t.source (block_end c t) s (omega (arith, block, j.small)) pre)
own-floor c s0 s t layer j block pre go false e =
    go (stored-at-takes layer t s0 j.pre
    (subst (λ x. t.counter < stored_at x t s0) j.at (leb-false (stored_at t.layer t s0) t.counter e)))

-- The state after all changes takes each accepted term.

abbrev k_floor : Setting → NodeState → List Term → Term → Option ℕ
k_floor c s ts t = floor_of c s ts t.layer

layer-same : (l : Layer) → same_layer l l ≡ true
layer-same Nwk = refl
layer-same Aps = refl

one-floor : (c : Setting) (s : NodeState) (t : Term) → k_floor c s (t ∷ []) t ≡ floor_for c s t
unfolding floor_of
one-floor c s t = ap (λ b. cond b (floor_for c s t) None) (layer-same t.layer)

first-floor : (c : Setting) (s : NodeState) (t u : Term) → k_floor c s (t ∷ u ∷ []) t ≡ floor_for c s t
unfolding floor_of
first-floor c s t u = ap (λ b. cond b (floor_for c s t) (floor_of c s (u ∷ []) t.layer)) (layer-same t.layer)

second-floor : (c : Setting) (s : NodeState) (t u : Term) → t.layer ≡ Nwk → u.layer ≡ Aps → k_floor c s (t ∷ u ∷ []) u
    ≡ floor_for c s u
unfolding floor_of
second-floor c s t u a b =
    ap (λ l. cond (same_layer l u.layer) (floor_for c s t) (floor_of c s (u ∷ []) u.layer)) a
    ∙ ap (λ l. cond (same_layer Nwk l) (floor_for c s t) (cond (same_layer u.layer l) (floor_for c s u) None)) b
    ∙ ap (λ l. cond (same_layer l Aps) (floor_for c s u) None) b

abbrev rest_of : NodeState → Counting → Plan → List Edit
rest_of s k p = flat_map (move_edits k) (filter (changes s) (moves_of p.outcome))

-- the edits of one term, and of two
abbrev pub Takes_ : Layer → Term → NodeState → Type 0
Takes_ layer t s = TakesAt layer t.counter t.base t.source s

one-takes : (c : Setting) (s : NodeState) (t : Term) (layer : Layer) (before rest : List Edit) → Judged layer s t → 0
    < c.me.in_block → PreAt layer t.counter t.base t.source (applied_all before s)
    → Takes_ layer t (applied_all (before ++ (floor_list t (floor_for c s t) ++ rest)) s)
one-takes c s t layer before rest j block pre =
    subst (λ x. Takes_ layer t x)
    (sym (applied-all-append before (floor_list t (floor_for c s t) ++ rest) s ∙ applied-all-append
    (floor_list t (floor_for c s t)) rest (applied_all before s)))
    (takes-all layer t.counter t.base t.source rest
    (applied_all (floor_list t (floor_for c s t)) (applied_all before s))
    (own-floor c s (applied_all before s) t layer j block pre (takes-all layer t.counter t.base t.source before s)
    (nat_le (stored_floor t s) t.counter) refl))

-- a NWK term's floor edit leaves the link rows' floors
pre-floor : (c : ℕ) (base : Bytes) (source : ℕ) (t : Term) (o : Option ℕ) → t.layer ≡ Nwk → (s : NodeState)
    → PreAt Aps c base source s → PreAt Aps c base source (applied_all (floor_list t o) s)
unfolding applied_all
pre-floor c base source t None e s h = h
pre-floor c base source t (Some v) e s h =
    subst (λ l. PreAt Aps c base source (applied (Floor l t.base t.source v) s)) (sym e)
    (pre-other c base source t.base t.source v s h)

-- The lines

heard-nwk-links : (t u : Term) (s : NodeState) → Takes_ Aps u s
    → Takes_ Aps u (after_hearing Nwk t.base t.source t.counter s)
unfolding TakesAt after_hearing
heard-nwk-links t u s h = h

pub accept-keeps-aps : (t u : Term) → t.layer ≡ Nwk → (s : NodeState) → Takes_ Aps u s → Takes_ Aps u
    (after_accepting t s)
unfolding after_accepting
accept-keeps-aps t u e s h = subst (λ l. Takes_ Aps u (after_hearing l t.base t.source t.counter s)) (sym e)
    (heard-nwk-links t u s h)

after-accept : (t u : Term) (number n : ℕ) → t.layer ≡ Nwk → (s : NodeState) → Takes_ Aps u s
    → Takes_ Aps u (after (Accept number n t) s)
unfolding after
after-accept t u number n e s h = accept-keeps-aps t u e s h

one-line : (h : List Line) (number n : ℕ) (t : Term) (layer : Layer) → t.layer ≡ layer → Takes_ layer t (state_of h n)
    → Each AcceptFits h (Accept number n t ∷ [])
unfolding speaker
one-line h number n t layer e f = (subst (λ l. Takes_ l t (state_of h n)) (sym e) f, tt)

two-lines : (h : List Line) (number n : ℕ) (t u : Term) → t.layer ≡ Nwk → u.layer ≡ Aps → Takes_ Nwk t (state_of h n)
    → Takes_ Aps u (state_of h n) → Each AcceptFits h (Accept number n t ∷ Accept number n u ∷ [])
unfolding speaker
two-lines h number n t u a b f g = (
  subst (λ l. Takes_ l t (state_of h n)) (sym a) f,
  (
    subst (λ l. Takes_ l u (state_of (h ++ Accept number n t ∷ []) n)) (sym b)
        (subst (λ s. Takes_ Aps u s) (sym (state-snoc h (Accept number n t) n))
        (heard-keeps (λ s. Takes_ Aps u s) n (Accept number n t) (state_of h n)
        (λ e. after-accept t u number n a (state_of h n) g) g)),
    tt,
  ),
)

-- the state of a plan's accepted terms, by their number
abbrev pub edits : Setting → NodeState → Plan → List Edit
edits c s p = edits_of s (counting_of c s p) p

pub edits-one : (c : Setting) (s : NodeState) (p : Plan) (t : Term) (layer : Layer) → p.accepts ≡ t ∷ [] → 0
    < c.me.in_block → Judged layer s t → Takes_ layer t (applied_all (edits c s p) s)
unfolding edits_of counting_of
edits-one c s p t layer e block j =
    subst (λ ts. Takes_ layer t
    (applied_all
    (reserves c s (sending_of p.outcome)
    ++ (flat_map (λ x. floor_list x (k_floor c s ts x)) ts ++ rest_of s (counting_of c s p) p)) s)) (sym e)
    (subst (λ o. Takes_ layer t
    (applied_all
    (reserves c s (sending_of p.outcome) ++ ((floor_list t o ++ []) ++ rest_of s (counting_of c s p) p)) s))
    (sym (one-floor c s t))
    (subst (λ l. Takes_ layer t
    (applied_all (reserves c s (sending_of p.outcome) ++ (l ++ rest_of s (counting_of c s p) p)) s))
    (sym (append-nil' (floor_list t (floor_for c s t))))
    (one-takes c s t layer (reserves c s (sending_of p.outcome)) (rest_of s (counting_of c s p) p) j block
    (pre-reserves layer t.counter t.base t.source c s (sending_of p.outcome) s j.pre))))

abbrev two_edits : Setting → NodeState → Plan → Term → Term → Option ℕ → Option ℕ → List Edit
two_edits c s p t u o q = reserves c s (sending_of p.outcome)
    ++ ((floor_list t o ++ (floor_list u q ++ [])) ++ rest_of s (counting_of c s p) p)

edits-two : (c : Setting) (s : NodeState) (p : Plan) (t u : Term) → p.accepts ≡ t ∷ u ∷ [] → t.layer ≡ Nwk → u.layer
    ≡ Aps → edits c s p ≡ two_edits c s p t u (floor_for c s t) (floor_for c s u)
unfolding edits_of counting_of
edits-two c s p t u e a b =
    ap (λ ts. reserves c s (sending_of p.outcome)
    ++ (flat_map (λ x. floor_list x (k_floor c s ts x)) ts ++ rest_of s (counting_of c s p) p)) e
    ∙ ap (λ o. two_edits c s p t u o (k_floor c s (t ∷ u ∷ []) u)) (first-floor c s t u)
    ∙ ap (λ o. two_edits c s p t u (floor_for c s t) o) (second-floor c s t u a b)

pub edits-first : (c : Setting) (s : NodeState) (p : Plan) (t u : Term) → p.accepts ≡ t ∷ u ∷ [] → u.layer ≡ Aps → 0
    < c.me.in_block → Judged Nwk s t → Takes_ Nwk t (applied_all (edits c s p) s)
edits-first c s p t u e b block j =
    subst (λ es. Takes_ Nwk t (applied_all es s)) (sym (edits-two c s p t u e j.at b))
    (subst (λ es. Takes_ Nwk t (applied_all (reserves c s (sending_of p.outcome) ++ es) s))
    (sym (append_assoc (floor_list t (floor_for c s t)) (floor_list u (floor_for c s u) ++ [])
    (rest_of s (counting_of c s p) p)))
    (one-takes c s t Nwk (reserves c s (sending_of p.outcome))
    ((floor_list u (floor_for c s u) ++ []) ++ rest_of s (counting_of c s p) p) j block
    (pre-reserves Nwk t.counter t.base t.source c s (sending_of p.outcome) s j.pre)))

pub edits-second : (c : Setting) (s : NodeState) (p : Plan) (t u : Term) → p.accepts ≡ t ∷ u ∷ [] → 0 < c.me.in_block
    → Judged Nwk s t → Judged Aps s u → Takes_ Aps u (applied_all (edits c s p) s)
edits-second c s p t u e block i j =
    subst (λ es. Takes_ Aps u (applied_all es s)) (sym (edits-two c s p t u e i.at j.at ∙ shape))
    (one-takes c s u Aps before (rest_of s (counting_of c s p) p) j block pre)
  where
    first : List Edit
    first = reserves c s (sending_of p.outcome)

    own : List Edit
    own = floor_list t (floor_for c s t)

    next : List Edit
    next = floor_list u (floor_for c s u)

    rest : List Edit
    rest = rest_of s (counting_of c s p) p

    before : List Edit
    before = first ++ own

    shape : first ++ ((own ++ (next ++ [])) ++ rest) ≡ before ++ (next ++ rest)
    shape = ap (λ l. first ++ ((own ++ l) ++ rest)) (append-nil' next) ∙ ap (λ l. first ++ l)
        (append_assoc own next rest) ∙ sym (append_assoc first own (next ++ rest))

    pre : PreAt Aps u.counter u.base u.source (applied_all before s)
    pre = subst (λ x. PreAt Aps u.counter u.base u.source x) (sym (applied-all-append first own s))
        (pre-floor u.counter u.base u.source t (floor_for c s t) i.at (applied_all first s)
        (pre-reserves Aps u.counter u.base u.source c s (sending_of p.outcome) s j.pre))

accepts-lines : (c : Setting) (h h1 : List Line) (number n : ℕ) (p : Plan) (ts : List Term) → p.accepts ≡ ts → 0
    < c.me.in_block → AcceptsFit (state_of h n) ts → state_of h1 n
    ≡ applied_all (edits c (state_of h n) p) (state_of h n)
    → Each AcceptFits h1 (map (Accept number n) ts)
accepts-lines c h h1 number n p [] e block f st = tt
accepts-lines c h h1 number n p (t ∷ []) e block f st = ⊎_elim (λ j. one Nwk j) (λ j. one Aps j) f
  where
    s : NodeState
    s = state_of h n

    one : (layer : Layer) → Judged layer s t → Each AcceptFits h1 (Accept number n t ∷ [])
    one layer j =
        one-line h1 number n t layer j.at (subst (λ x. Takes_ layer t x) (sym st) (edits-one c s p t layer e block j))
accepts-lines c h h1 number n p (t ∷ u ∷ []) e block f st =
    two-lines h1 number n t u f.0.at f.1.at
    (subst (λ x. Takes_ Nwk t x) (sym st) (edits-first c (state_of h n) p t u e f.1.at block f.0))
    (subst (λ x. Takes_ Aps u x) (sym st) (edits-second c (state_of h n) p t u e block f.0 f.1))
accepts-lines c h h1 number n p (t ∷ u ∷ v ∷ ts) e block f st = absurd f

-- The whole group

pub group-accepts : (tools : Tools) (c : Setting) (h h0 : List Line) (number n : ℕ) (p : Plan) → 0 < c.me.in_block
    → AcceptsFit (state_of h n) p.accepts
    → Each AcceptFits h (group_of h0 number n (answer_by tools c (state_of h n) (counting_of c (state_of h n) p) p))
unfolding group_of told_lines answer_by
group-accepts tools c h h0 number n p block f =
    each-append AcceptFits h stored (map (Accept number n) p.accepts ++ rest)
    (plain h stored (stored-plain number n a))
    (each-append AcceptFits (h ++ stored) (map (Accept number n) p.accepts) rest
    (accepts-lines c h (h ++ stored) number n p p.accepts refl block f (stored-state h number n a))
    (plain ((h ++ stored) ++ map (Accept number n) p.accepts) rest
    (all-append NoAccept (refuse_lines number n a.place a.refusal)
    (map (Seal number n) a.seals ++ send_lines number (Some n) (length (air h0) + 1) a.frame)
    (refuse-plain number n a.place a.refusal)
    (all-append NoAccept (map (Seal number n) a.seals) (send_lines number (Some n) (length (air h0) + 1) a.frame)
    (seals-plain number n a.seals) (send-plain number (Some n) (length (air h0) + 1) a.frame)))))
  where
    a : Answer
    a = answer_by tools c (state_of h n) (counting_of c (state_of h n) p) p

    stored : List Line
    stored = stored_lines number n a

    rest : List Line
    rest = refuse_lines number n a.place a.refusal
        ++ (map (Seal number n) a.seals ++ send_lines number (Some n) (length (air h0) + 1) a.frame)
