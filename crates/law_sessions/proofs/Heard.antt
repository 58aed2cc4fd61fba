-- What was accepted stays below the floors that the tables keep, as long as its key is live.
use Rattle.std.proofs.Common.{◌≡◌, ◌⊎◌, inl, inr, ℕ, ◌<◌, ◌+◌, Bool, true, false, if◌then◌else◌, List, [], ◌∷◌, ◌++◌, map, filter, find, Option, Some, None, refl, sym, ap, ◌∙◌, subst, arith, append-nil, append_assoc}
use Rattle.std.proofs.lemmas.Bool.{false≢true}
use Rattle.std.specs.List.{AllByRecursion}
use Rattle.law_run.proofs.Finds.{Finds, HoldsOf, IfOf, finds-map}
use Rattle.law_run.proofs.FloorRows.{FloorAt, NotStale, Over, Sorted, kept-new, kept-over, of_sender, sorted-kept}
use Rattle.law_run.proofs.Judged.{AcceptsFit, In, Judged, LiveAt, LinkPre, PreAt, RowPre, all-in, in-filter, plan-accepts}
use Rattle.law_run.proofs.Nets.{Closed, Holds, Keeps, Mild, On, at_key, on-applied, on-at, on-map, on-map-found}
use Rattle.law_run.proofs.Counters.{on-sealed}
use Rattle.law_run.proofs.OnceGroups.{Takes_, accept-keeps-aps, edits, edits-first, edits-one, edits-second}
use Rattle.law_run.proofs.OnceLines.{LinkOver, LinkTakes, RowOver, RowTakes, TakesAt, link-heard, link-own, links-applied, over-booted, over-closed, over-links}
use Rattle.law_run.proofs.Sound.{Sound}
use Rattle.law_run.specs.Opening.{Opens}
use Rattle.law_sessions.proofs.Used.{all_map}
use Rattle.law_sessions.proofs.Stamps.{all_append}
use Rattle.law_sessions.specs.Accepts.{AllRise, Rises}
use Rattle.zb_centre_store.specs.Skipping.{skipped, skipped_limit, skipped_net}
use Rattle.zb_model.specs.Answer.{Answer, accepted_all, answer, answer_by, answered, plan_of, sealed_all}
use Rattle.zb_model.specs.Data.{Bytes, Layer, Nwk, Aps, Task, Term, Edit, Reserve, Floor, Start, Moved}
use Rattle.zb_model.specs.Rules.{Plan, Setting}
use Rattle.zb_model.specs.State.{LinkKey, NetKey, NodeState, SenderFloor, after_accepting, after_boot, after_hearing, after_sealing, applied, applied_all, booted_link, booted_net, is_link, link_kept, net_floor, net_kept, next_at, reserved, sealed_at, shown, shown_net, started_at, stored_limit}
use Rattle.zb_model.specs.Tools.{Tools}

-- ---- a row

-- the key is no longer live, or the floor of the source is above the counter
abbrev pub RowHeard : ℕ → ℕ → NetKey → Type 0
RowHeard c source r = (r.live ≡ false) ⊎ RowOver c source r

heard_row : (c source : ℕ) (f : NetKey → NetKey) → Keeps (RowOver c source) f → ((r : NetKey) → (f r).live ≡ r.live)
    → Keeps (RowHeard c source) f
heard_row c source f k live = record { key = k.key; kept = kept }
  where
    kept : (r : NetKey) → RowHeard c source r → RowHeard c source (f r)
    kept r (inl e) = inl (live r ∙ e)
    kept r (inr o) = inr (k.kept r o)

heard_closed : (c source : ℕ) → Closed (RowHeard c source)
heard_closed c source = record {
  reserves = λ limit. heard_row c source (reserved limit) ((over-closed c source).reserves limit) (λ r. refl);
  drops = record { key = λ r. refl; kept = λ r h. inl refl };
  floors = λ sender value. heard_row c source (net_floor sender value) ((over-closed c source).floors sender value)
      (λ r. refl);
}

heard_mild : (c source : ℕ) (e : Edit) → Mild (RowHeard c source) e
heard_mild c source (Start key value) =
    heard_row c source (started_at value) (record { key = λ r. refl; kept = λ r h. h }) (λ r. refl)
heard_mild c source (Reserve layer limit) = tt
heard_mild c source (Floor layer key sender value) = tt
heard_mild c source (Moved m) = tt

shown_kept : (c source : ℕ) (r : NetKey) → RowHeard c source r → RowHeard c source (shown_net r)
shown_kept c source r (inl e) = inl e
shown_kept c source r (inr o) = by_live r.live refl
  where
    by_live : (b : Bool) → r.live ≡ b → RowHeard c source (shown_net r)
    by_live true e =
        inr (subst (λ (fs : List SenderFloor). Sorted fs × FloorAt (Over c) source fs)
        (sym (ap (λ (b : Bool). if b then r.floors else []) e)) o)
    by_live false e = inl e

-- ---- a state

unfoldable pub HeardAt : Layer → ℕ → Bytes → ℕ → NodeState → Type 0
HeardAt Nwk c base source s = On (RowHeard c source) base s.nets
HeardAt Aps c base source s = Finds (LinkOver c) (is_link source base) s.links

abbrev pub IsHeard : NodeState → Term → Type 0
IsHeard s t = HeardAt t.layer t.counter t.base t.source s

heard_applied : (layer : Layer) (c : ℕ) (base : Bytes) (source : ℕ) (e : Edit) (s : NodeState)
    → HeardAt layer c base source s → HeardAt layer c base source (applied e s)
unfolding HeardAt
heard_applied Nwk c base source e s h =
    on-applied (RowHeard c source) (heard_closed c source) base e s (heard_mild c source e) h
heard_applied Aps c base source e s h = links-applied (LinkOver c) (over-links c) source base e s h

heard_all : (layer : Layer) (c : ℕ) (base : Bytes) (source : ℕ) (es : List Edit) (s : NodeState)
    → HeardAt layer c base source s → HeardAt layer c base source (applied_all es s)
unfolding applied_all
heard_all layer c base source [] s h = h
heard_all layer c base source (e ∷ es) s h =
    heard_all layer c base source es (applied e s) (heard_applied layer c base source e s h)

row_hears : (c source sender counter : ℕ) (r : NetKey) → RowHeard c source r → RowTakes counter sender r
    → RowHeard c source (net_kept sender (counter + 1) r)
row_hears c source sender counter r (inl e) q = inl e
row_hears c source sender counter r (inr p) q =
    inr (sorted-kept sender (counter + 1) r.floors p.0, kept-over c source sender counter r.floors p.1 q.1)

heard_hearing : (layer of : Layer) (c : ℕ) (base : Bytes) (source : ℕ) (key : Bytes) (sender counter : ℕ)
    (s : NodeState) → TakesAt of counter key sender s → HeardAt layer c base source s
    → HeardAt layer c base source (after_hearing of key sender counter s)
unfolding HeardAt TakesAt after_hearing
heard_hearing Nwk Nwk c base source key sender counter s t h =
    on-sealed (RowHeard c source) (RowTakes counter sender) (net_kept sender (counter + 1)) base key s.nets (λ r. refl)
    (row_hears c source sender counter) h t
heard_hearing Nwk Aps c base source key sender counter s t h = h
heard_hearing Aps Nwk c base source key sender counter s t h = h
heard_hearing Aps Aps c base source key sender counter s t h =
    link-heard (LinkOver c) (LinkTakes counter) (LinkOver c) (link_kept (counter + 1)) (λ p k r. refl) (λ r p. p)
    (λ r p q. (omega (arith, p.0, q.0), p.1)) source sender base key s.links h t

-- what is accepted is below the floors then
heard_own : (layer : Layer) (c : ℕ) (base : Bytes) (source : ℕ) (s : NodeState) → TakesAt layer c base source s
    → HeardAt layer c base source (after_hearing layer base source c s)
unfolding HeardAt TakesAt after_hearing
heard_own Nwk c base source s t =
    on-map-found (RowTakes c source) (RowHeard c source) (net_kept source (c + 1)) base s.nets (λ r. refl)
    (λ r q. inr (sorted-kept source (c + 1) r.floors q.0, kept-new source c r.floors q.1)) t
heard_own Aps c base source s t = link-own (LinkTakes c) (LinkOver c) (link_kept (c + 1)) (λ p k r. refl)
    (λ r p. (omega arith, p.1)) source base s.links t

heard_sealed : (layer of : Layer) (c : ℕ) (base : Bytes) (source : ℕ) (t : Term) (s : NodeState)
    → HeardAt layer c base source s → HeardAt layer c base source (sealed_at of t s)
unfolding HeardAt
heard_sealed Nwk Nwk c base source t s h =
    on-at (RowHeard c source) (next_at (t.counter + 1))
    (heard_row c source (next_at (t.counter + 1)) (record { key = λ r. refl; kept = λ r h. h }) (λ r. refl)) t.base
    base
    s.nets h
heard_sealed Nwk Aps c base source t s h = h
heard_sealed Aps Nwk c base source t s h = h
heard_sealed Aps Aps c base source t s h = h

heard_seals : (layer : Layer) (c : ℕ) (base : Bytes) (source : ℕ) (ts : List Term) (s : NodeState)
    → HeardAt layer c base source s → HeardAt layer c base source (sealed_all ts s)
unfolding after_sealing
heard_seals layer c base source [] s h = h
heard_seals layer c base source (t ∷ ts) s h =
    heard_seals layer c base source ts (after_sealing t s) (heard_sealed layer t.layer c base source t s h)

heard_boot : (layer : Layer) (c : ℕ) (base : Bytes) (source : ℕ) (s : NodeState) → HeardAt layer c base source s
    → HeardAt layer c base source (after_boot s)
unfolding HeardAt after_boot
heard_boot Nwk c base source s h =
    on-map (RowHeard c source) booted_net (heard_row c source booted_net (over-booted c source) (λ r. refl)) base
    s.nets
    h
heard_boot Aps c base source s h = finds-map (LinkOver c) (LinkOver c) (is_link source base) booted_link (λ r. refl)
    (λ r p. (p.1, p.1)) s.links h

heard_shown : (layer : Layer) (c : ℕ) (base : Bytes) (source : ℕ) (s : NodeState) → HeardAt layer c base source s
    → HeardAt layer c base source (shown s)
unfolding HeardAt shown
heard_shown Nwk c base source s h =
    on-map (RowHeard c source) shown_net (record { key = λ r. refl; kept = shown_kept c source }) base s.nets h
heard_shown Aps c base source s h = h

-- ---- a counter that is taken is above all that were

live_in : (b : Bool) (x r : NetKey) (kept : List NetKey) → x.live ≡ b → (In r kept → r.live ≡ true)
    → In r (if b then x ∷ kept else kept) → r.live ≡ true
unfolding In
live_in true x r kept e more (inl same) = ap (λ (y : NetKey). y.live) (sym same) ∙ e
live_in true x r kept e more (inr i) = more i
live_in false x r kept e more i = more i

live_is : (rows : List NetKey) (r : NetKey) → In r (filter (λ (x : NetKey). x.live) rows) → r.live ≡ true
unfolding In
live_is [] r i = absurd i
live_is (x ∷ rows) r i = live_in x.live x r (filter (λ (y : NetKey). y.live) rows) refl (live_is rows r) i

floor_above : (c d : ℕ) (o : Option SenderFloor) → HoldsOf (Over c) o → IfOf (NotStale d) o → c < d
unfolding HoldsOf IfOf
floor_above c d None over stale = absurd over
floor_above c d (Some f) over stale = omega (arith, over.0, stale)

row_above : (c d source : ℕ) (o : Option NetKey) (r : NetKey) → o ≡ Some r → r.live ≡ true
    → Holds (RowHeard c source) o → Holds (RowPre d source) o → c < d
unfolding Holds
row_above c d source None r is live h p = absurd h
row_above c d source (Some x) r is live (inl dead) p =
    let same : x ≡ r = cc is in absurd (false≢true (sym dead ∙ ap (λ (y : NetKey). y.live) same ∙ live))
row_above c d source (Some x) r is live (inr over) p =
    floor_above c d (find (of_sender source) x.floors) over.1 p.1

link_above : (c d : ℕ) (o : Option LinkKey) → HoldsOf (LinkOver c) o → HoldsOf (LinkPre d) o → c < d
unfolding HoldsOf
link_above c d None h p = absurd h
link_above c d (Some r) h p = omega (arith, h.0, p)

above : (layer : Layer) (c : ℕ) (t : Term) (s : NodeState) → Sound s → HeardAt layer c t.base t.source s
    → LiveAt layer t s → PreAt layer t.counter t.base t.source s → c < t.counter
unfolding HeardAt LiveAt PreAt
above Nwk c t s sound h (r, there, key) p =
    row_above c t.counter t.source (find (at_key t.base) s.nets) r
    (ap (λ k. find (at_key k) s.nets) (sym key)
    ∙ all-in (λ (x : NetKey). find (at_key x.key) s.nets ≡ Some x) s.nets sound.nets r
    (in-filter (λ (x : NetKey). x.live) r s.nets there))
    (live_is s.nets r there) h p
above Aps c t s sound h live p = link_above c t.counter (find (is_link t.source t.base) s.links) h p

judged_above : (s : NodeState) (u t : Term) (layer : Layer) → Sound s → Judged layer s t → IsHeard s u → Rises u t
judged_above s u t layer sound j h = λ same base source.
    above layer u.counter t s sound
    (subst (λ l. HeardAt l u.counter t.base t.source s) (same ∙ j.at)
    (subst (λ b. HeardAt u.layer u.counter b t.source s) base
    (subst (λ n. HeardAt u.layer u.counter u.base n s) source h))) j.live j.pre

all_above : (s : NodeState) (us : List Term) (t : Term) (layer : Layer) → Sound s → Judged layer s t
    → AllByRecursion (IsHeard s) us → AllByRecursion (λ u. Rises u t) us
all_above s us t layer sound j heard = all_map (IsHeard s) (λ u. Rises u t)
    (λ u h. judged_above s u t layer sound j h) us heard

-- ---- an answer

-- Terms were accepted, and no later one of a slot has no greater counter.
pub record AreHeard (terms : List Term) (s : NodeState) : Type 0 where
  pub heard : AllByRecursion (IsHeard s) terms
  pub rise : AllRise terms

rise_more : (us : List Term) (t : Term) → AllRise us → AllByRecursion (λ u. Rises u t) us → AllRise (us ++ t ∷ [])
rise_more [] t rise over = (tt, tt)
rise_more (u ∷ us) t rise over =
    (all_append (Rises u) us (t ∷ []) rise.0 (over.0, tt), rise_more us t rise.1 over.1)

hear_one : (layer : Layer) (t u : Term) (s : NodeState) → t.layer ≡ layer → Takes_ layer t s → IsHeard s u
    → IsHeard (after_accepting t s) u
unfolding after_accepting
hear_one layer t u s at takes h =
    heard_hearing u.layer t.layer u.counter u.base u.source t.base t.source t.counter s
    (subst (λ l. TakesAt l t.counter t.base t.source s) (sym at) takes) h

own_heard : (layer : Layer) (t : Term) (s : NodeState) → t.layer ≡ layer → Takes_ layer t s
    → IsHeard (after_accepting t s) t
unfolding after_accepting
own_heard layer t s at takes =
    heard_own t.layer t.counter t.base t.source s (subst (λ l. TakesAt l t.counter t.base t.source s) (sym at) takes)

-- one term more is accepted
hear : (layer : Layer) (us : List Term) (t : Term) (s : NodeState) → t.layer ≡ layer → Takes_ layer t s
    → AllByRecursion (IsHeard s) us → AllByRecursion (IsHeard (after_accepting t s)) (us ++ t ∷ [])
hear layer us t s at takes heard =
    all_append (IsHeard (after_accepting t s)) us (t ∷ [])
    (all_map (IsHeard s) (IsHeard (after_accepting t s)) (λ u h. hear_one layer t u s at takes h) us heard)
    (own_heard layer t s at takes, tt)

differ_rise : (t u : Term) → t.layer ≡ Nwk → u.layer ≡ Aps → Rises t u
differ_rise t u a b = λ same base source. absurd (cc same)

-- the terms of an answer, after its changes
accepts_heard : (c : Setting) (s : NodeState) (p : Plan) (ts used : List Term) → Sound s → 0 < c.me.in_block
    → p.accepts ≡ ts → AcceptsFit s ts → AreHeard used s
    → AllByRecursion (IsHeard (accepted_all ts (applied_all (edits c s p) s))) (used ++ ts) × AllRise (used ++ ts)
accepts_heard c s p [] used sound block is fit h = (
  subst (AllByRecursion (IsHeard (applied_all (edits c s p) s))) (sym (append-nil used))
      (all_map (IsHeard s) (IsHeard (applied_all (edits c s p) s))
      (λ u is. heard_all u.layer u.counter u.base u.source (edits c s p) s is) used h.heard),
  subst AllRise (sym (append-nil used)) h.rise,
)
accepts_heard c s p (t ∷ []) used sound block is fit h = by_layer fit
  where
    changed : AllByRecursion (IsHeard (applied_all (edits c s p) s)) used
    changed = all_map (IsHeard s) (IsHeard (applied_all (edits c s p) s))
        (λ u is. heard_all u.layer u.counter u.base u.source (edits c s p) s is) used h.heard

    of_layer : (layer : Layer) → Judged layer s t
        → AllByRecursion (IsHeard (after_accepting t (applied_all (edits c s p) s))) (used ++ t ∷ [])
        × AllRise (used ++ t ∷ [])
    of_layer layer j = (
      hear layer used t (applied_all (edits c s p) s) j.at (edits-one c s p t layer is block j) changed,
      rise_more used t h.rise (all_above s used t layer sound j h.heard),
    )

    by_layer : Judged Nwk s t ⊎ Judged Aps s t
        → AllByRecursion (IsHeard (after_accepting t (applied_all (edits c s p) s))) (used ++ t ∷ [])
        × AllRise (used ++ t ∷ [])
    by_layer (inl j) = of_layer Nwk j
    by_layer (inr j) = of_layer Aps j
accepts_heard c s p (t ∷ u ∷ []) used sound block is (i, j) h =
    let here = applied_all (edits c s p) s in
    let changed : AllByRecursion (IsHeard here) used =
    all_map (IsHeard s) (IsHeard here) (λ v is. heard_all v.layer v.counter v.base v.source (edits c s p) s is) used
    h.heard in
    let first = hear Nwk used t here i.at (edits-first c s p t u is j.at block i) changed in
    let second = hear Aps (used ++ t ∷ []) u (after_accepting t here) j.at
    (accept-keeps-aps t u i.at here (edits-second c s p t u is block i j)) first in
    let rise = rise_more (used ++ t ∷ []) u
    (rise_more used t h.rise (all_above s used t Nwk sound i h.heard))
    (all_append (λ v. Rises v u) used (t ∷ []) (all_above s used u Aps sound j h.heard)
    (differ_rise t u i.at j.at, tt)) in (
      subst (AllByRecursion (IsHeard (after_accepting u (after_accepting t here)))) (append_assoc used (t ∷ []) (u ∷
          []))
          second,
      subst AllRise (append_assoc used (t ∷ []) (u ∷ [])) rise,
    )
accepts_heard c s p (t ∷ u ∷ v ∷ ts) used sound block is fit h = absurd fit

pub event_heard : (tools : Tools) → Opens tools → (c : Setting) (task : Task) (s : NodeState) (used : List Term)
    → Sound s → 0 < c.me.in_block → AreHeard used s
    → AreHeard (used ++ (answer tools c s task).accepts) (shown (answered (answer tools c s task) s))
unfolding answer answer_by answered
event_heard tools opens c task s used sound block h =
    let p = plan_of tools c s task in
    let a = answer tools c s task in
    let both = accepts_heard c s p p.accepts used sound block refl (plan-accepts tools opens c s sound task) h in
    let there = accepted_all p.accepts (applied_all (edits c s p) s) in
    record {
      heard = all_map (IsHeard there) (IsHeard (shown (answered a s)))
          (λ t is. heard_shown t.layer t.counter t.base t.source (sealed_all a.seals there)
          (heard_seals t.layer t.counter t.base t.source a.seals there is)) (used ++ p.accepts) both.0;
      rise = both.1;
    }

pub boot_heard : (s : NodeState) (used : List Term) → AreHeard used s → AreHeard used (shown (after_boot s))
boot_heard s used h = record {
  heard = all_map (IsHeard s) (IsHeard (shown (after_boot s)))
      (λ t is. heard_shown t.layer t.counter t.base t.source (after_boot s)
      (heard_boot t.layer t.counter t.base t.source s is)) used h.heard;
  rise = h.rise;
}

-- a restore skips counters of seals, and leaves all floors
heard_raised : (layer : Layer) (c : ℕ) (base : Bytes) (source by : ℕ) (s : NodeState) → HeardAt layer c base source s
    → HeardAt layer c base source (record s {
      aps_limit = skipped_limit by s.aps_limit;
      nets = map (skipped_net by (stored_limit Nwk s)) s.nets;
    })
unfolding HeardAt
heard_raised Nwk c base source by s h =
    on-map (RowHeard c source) (skipped_net by (stored_limit Nwk s))
    (heard_row c source (skipped_net by (stored_limit Nwk s)) (record { key = λ r. refl; kept = λ r o. o }) (λ r.
    refl))
    base s.nets h
heard_raised Aps c base source by s h = h

pub skipped_heard : (by : ℕ) (s : NodeState) (used : List Term) → AreHeard used s → AreHeard used (skipped by s)
unfolding skipped
skipped_heard by s used h = record {
  heard = all_map (IsHeard s) (IsHeard (after_boot (record s {
    aps_limit = skipped_limit by s.aps_limit;
    nets = map (skipped_net by (stored_limit Nwk s)) s.nets;
  })))
      (λ t is. heard_boot t.layer t.counter t.base t.source _
      (heard_raised t.layer t.counter t.base t.source by s is)) used h.heard;
  rise = h.rise;
}

-- an answer that accepts nothing
pub quiet_heard : (a : Answer) (s : NodeState) (used : List Term) → a.accepts ≡ [] → AreHeard used s
    → AreHeard used (shown (answered a s))
unfolding answered
quiet_heard a s used none h =
    let there = applied_all a.edits s in
    record {
      heard = all_map (IsHeard s) (IsHeard (shown (answered a s)))
          (λ t is. heard_shown t.layer t.counter t.base t.source (sealed_all a.seals (accepted_all a.accepts there))
          (heard_seals t.layer t.counter t.base t.source a.seals (accepted_all a.accepts there)
          (subst (λ ts. IsHeard (accepted_all ts there) t) (sym none)
          (heard_all t.layer t.counter t.base t.source a.edits s is)))) used h.heard;
      rise = h.rise;
    }
