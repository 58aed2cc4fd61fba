-- The changes of an answer, one after the other: reserves, floors, and the moves of the rule. Each fits, and there
-- are at most fourteen.
use Rattle.std.proofs.Common.{◌≡◌, ℕ, ◌+◌, ◌<◌, ◌≤◌, min, List, [], ◌∷◌, ◌++◌, length, map, refl, sym, ap, ◌∙◌, arith, Bool, true, false, not, if◌then◌else◌, ◌&&◌, ◌||◌, Option, Some, None, option_map, inl, inr, length-append, subst}
use Rattle.std.specs.Prelude.{find, filter, flat_map, option_to_list, is_some, nat_eq, nat_le}
use Rattle.std.specs.List.{list_any, list_all}
use Rattle.std.proofs.lemmas.Bool.{not-true, eqb-true, leb-true, leb-false, le-leb}
use Rattle.zb_model.specs.Data.{Bytes, Layer, Nwk, Aps, Term, Move, Active, Row, Became, Edit, Reserve, Floor, Task}
use Rattle.zb_model.specs.State.{greatest_counter, NetKey, LinkKey, NodeState, same_key, is_link, is_active_key, active_row, net_of, at_net, of_active, reserved, net_floor, next_counter, stored_limit, applied, applied_all, sender_floor}
use Rattle.zb_model.specs.Fits.{keeps_rules, fits, all_fit, live_net, live_link, net_stored, link_stored, net_limit, row_is_live}
use Rattle.zb_model.specs.Tools.{Tools}
use Rattle.zb_model.specs.Rules.{Setting, Sending, Plan, spent}
use Rattle.zb_model.specs.Answer.{Counting, seals_at, may_seal, changes, row_is_started, is_started_key, start_edit, move_edits, floor_edit, moves_of, sending_of, edits_of, answer_by, reserve_of, stored_floor, floor_for, floor_of, first_counter, activated, start_for, counting_of, plan_of, answer, accepted_all, answered}
use Rattle.law_change_fits.specs.Fitting.{leaves_rules, floor_has_room}
use Rattle.law_change_fits.proofs.Tests.{both, filter_shorter, never}
use Rattle.law_change_fits.proofs.Parts.{Rules, rules_of, limit_rule, same_key_of, same_key_is}
use Rattle.zb_model.specs.Record.{payload}
use Rattle.law_answer_storable.specs.Storing.{OpensAsJudged, has_whole_keys}
use Rattle.law_answer_storable.proofs.Afterwards.{kept_accepted, kept_sealed}
use Rattle.law_answer_storable.proofs.Payloads.{few_short}
use Rattle.law_answer_storable.proofs.Lists.{found_map}
use Rattle.law_answer_storable.proofs.Chains.{change_fits, kept_all, fit_then, fit_none, fit_append}
use Rattle.law_answer_storable.proofs.Bare.{bare, reserve_bare, floor_bare}
use Rattle.law_answer_storable.proofs.Moves.{moves_same, starts_fit, moves_stored}
use Rattle.law_answer_storable.proofs.Accepted.{HeardNwk, HeardAps, Accepted, PlanFits, plan_fits}

-- a change that may be there
abbrev maybe : (ℕ → Edit) → Option ℕ → List Edit
maybe change o = option_to_list (option_map change o)

maybe_fits : (change : ℕ → Edit) (o : Option ℕ) (s : NodeState)
    → ((value : ℕ) → o ≡ Some value → fits (change value) s ≡ true) → all_fit (maybe change o) s ≡ true
maybe_fits change None s k = fit_none s
maybe_fits change (Some value) s k = fit_then (change value) [] s (k value refl) (fit_none (applied (change value) s))

few_maybe : (change : ℕ → Edit) (o : Option ℕ) → length (maybe change o) ≤ 1
few_maybe change None = omega arith
few_maybe change (Some value) = omega arith

-- reserves

or_then : (a b : Bool) → (not a || b) ≡ true → a ≡ true → b ≡ true
or_then true b e f = e
or_then false b e f = absurd (cc)

-- a limit that is reserved isn't below the one before it, and what seals has a counter
record Reserves (s : NodeState) (layer : Layer) (limit : ℕ) : Type 0 where
  row : layer ≡ Nwk → is_some (active_row s) ≡ true
  above : stored_limit layer s ≤ limit

may_at : (s : NodeState) (send : Option Sending) (layer : Layer) → seals_at layer send ≡ true → may_seal s send ≡ true
    → (layer ≡ Nwk → is_some (active_row s) ≡ true) × (spent layer s ≡ false)
unfolding may_seal
may_at s send Nwk seals may =
    let parts = both (not (seals_at Nwk send) || (is_some (active_row s) && not (spent Nwk s))) _ may in
    let here = both (is_some (active_row s)) (not (spent Nwk s)) (or_then (seals_at Nwk send) _ parts.0 seals) in
    ((λ e. here.0), not-true _ here.1)
may_at s send Aps seals may =
    let parts = both (not (seals_at Nwk send) || (is_some (active_row s) && not (spent Nwk s))) _ may in
    ((λ e. absurd (other e)), not-true _ (or_then (seals_at Aps send) _ parts.1 seals))
  where
    other : Aps ≡ Nwk → ⊥
    other e = absurd (cc)

some_is : (a b : ℕ) → Some a ≡ Some b → a ≡ b
some_is a b e = cc

reserves : (c : Setting) (s : NodeState) (send : Option Sending) (layer : Layer) (limit : ℕ)
    → reserve_of c s send layer ≡ Some limit → Reserves s layer limit
unfolding reserve_of spent
reserves c s send layer limit e =
    by_test (seals_at layer send && (may_seal s send && nat_eq (next_counter layer s) (stored_limit layer s))) refl e
  where
    by_test : (b : Bool)
        → (seals_at layer send && (may_seal s send && nat_eq (next_counter layer s) (stored_limit layer s))) ≡ b
        → (if b then Some (min (next_counter layer s + c.me.out_block) greatest_counter) else None) ≡ Some limit
        → Reserves s layer limit
    by_test true is e =
        let one = both (seals_at layer send) _ is in
        let two = both (may_seal s send) (nat_eq (next_counter layer s) (stored_limit layer s)) one.1 in
        let may = may_at s send layer one.0 two.0 in
        let value : min (next_counter layer s + c.me.out_block) greatest_counter ≡ limit = some_is _ _ e in
        record {
          row = may.0;
          above =
              omega (
                arith,
                eqb-true (next_counter layer s) (stored_limit layer s) two.1,
                leb-false greatest_counter (next_counter layer s) may.1,
                value,
              );
        }
    by_test false is e = absurd (cc)

nwk_reserve : (c : Setting) (s : NodeState) (send : Option Sending) → keeps_rules s ≡ true
    → all_fit (maybe (Reserve Nwk) (reserve_of c s send Nwk)) s ≡ true
unfolding leaves_rules
nwk_reserve c s send kept = maybe_fits (Reserve Nwk) (reserve_of c s send Nwk) s (λ limit e.
    let r = reserves c s send Nwk limit e in
    let above : nat_le (stored_limit Nwk s) limit ≡ true = le-leb _ _ r.above in
    let row : is_some (active_row s) ≡ true = r.row refl in
    change_fits (Reserve Nwk limit) s kept (rw (row, above) refl) refl)

aps_reserve : (c : Setting) (s u : NodeState) (send : Option Sending) → u.aps_limit ≡ s.aps_limit → keeps_rules u
    ≡ true → all_fit (maybe (Reserve Aps) (reserve_of c s send Aps)) u ≡ true
unfolding leaves_rules stored_limit
aps_reserve c s u send same kept = maybe_fits (Reserve Aps) (reserve_of c s send Aps) u (λ limit e.
    let r = reserves c s send Aps limit e in
    let above : nat_le u.aps_limit limit ≡ true = le-leb _ _ (omega (arith, same, r.above)) in
    change_fits (Reserve Aps limit) u kept (rw above refl) refl)

-- what reserves leave of the rows: all but limits

abbrev quiet : NetKey → NetKey
quiet r = record r { started = false; limit = 0; next = 0 }

record Reserved (s u : NodeState) : Type 0 where
  nets : map quiet u.nets ≡ map quiet s.nets
  links : u.links ≡ s.links
  plain : bare u ≡ bare s

quiet_rows : (limit : ℕ) (active : Option Bytes) (rs : List NetKey) → map quiet (of_active (reserved limit) active rs)
    ≡ map quiet rs
quiet_rows limit None rs = refl
quiet_rows limit (Some key) [] = refl
quiet_rows limit (Some key) (r ∷ rs) = ap (λ x. x ∷ map quiet (at_net key (reserved limit) rs))
    (by_test (same_key r.key key)) ∙ ap (λ l. quiet r ∷ l) (quiet_rows limit (Some key) rs)
  where
    by_test : (b : Bool) → quiet (if b then reserved limit r else r) ≡ quiet r
    by_test true = refl
    by_test false = refl

nwk_reserved : (o : Option ℕ) (s : NodeState) → Reserved s (applied_all (maybe (Reserve Nwk) o) s)
unfolding applied_all applied
nwk_reserved None s = record { nets = refl; links = refl; plain = refl }
nwk_reserved (Some limit) s =
    record { nets = quiet_rows limit s.active s.nets; links = refl; plain = reserve_bare Nwk limit s }

aps_reserved : (o : Option ℕ) (s u : NodeState) → Reserved s u → Reserved s (applied_all (maybe (Reserve Aps) o) u)
unfolding applied_all applied
aps_reserved None s u r = r
aps_reserved (Some limit) s u r = record { nets = r.nets; links = r.links; plain = reserve_bare Aps limit u ∙ r.plain }

aps_limit_left : (o : Option ℕ) (s : NodeState) → (applied_all (maybe (Reserve Nwk) o) s).aps_limit ≡ s.aps_limit
unfolding applied_all applied
aps_limit_left None s = refl
aps_limit_left (Some limit) s = refl

-- questions to a row that its limit doesn't answer
quiet_found : (key : Bytes) (s u : NodeState) → Reserved s u → option_map quiet (net_of key u)
    ≡ option_map quiet (net_of key s)
quiet_found key s u r =
    sym (found_map (λ (x : NetKey). same_key x.key key) quiet (λ x. refl) u.nets) ∙ ap
    (find (λ (x : NetKey). same_key x.key key)) r.nets ∙ found_map (λ (x : NetKey). same_key x.key key) quiet
    (λ x. refl) s.nets

live_same : (o : Option NetKey) → row_is_live (option_map quiet o) ≡ row_is_live o
live_same None = refl
live_same (Some r) = refl

stored_same : (sender : ℕ) (o : Option NetKey) → net_stored sender (option_map quiet o) ≡ net_stored sender o
unfolding sender_floor
stored_same sender None = refl
stored_same sender (Some r) = refl

room_same : (sender value : ℕ) (o : Option NetKey) → floor_has_room sender value (option_map quiet o)
    ≡ floor_has_room sender value o
room_same sender value None = refl
room_same sender value (Some r) = refl

-- floors

floor_is : (c : Setting) (s : NodeState) (t : Term) (value : ℕ) → floor_for c s t ≡ Some value → t.counter
    < greatest_counter → 1 ≤ c.me.in_block
    → (nat_le (stored_floor t s) t.counter ≡ true) × (t.counter ≤ value) × (0 < value)
floor_is c s t value e small block = by_test (nat_le (stored_floor t s) t.counter) refl e
  where
    by_test : (b : Bool) → nat_le (stored_floor t s) t.counter ≡ b
        → (if b then Some (min (t.counter + c.me.in_block) greatest_counter) else None) ≡ Some value
        → (nat_le (stored_floor t s) t.counter ≡ true) × (t.counter ≤ value) × (0 < value)
    by_test true is e =
        let value_is : min (t.counter + c.me.in_block) greatest_counter ≡ value = some_is _ _ e in
        (is, omega (arith, small, block, value_is), omega (arith, small, block, value_is))
    by_test false is e = absurd (cc)

nwk_stored : (t : Term) (s : NodeState) → t.layer ≡ Nwk → stored_floor t s ≡ net_stored t.source (net_of t.base s)
unfolding stored_floor
nwk_stored t s e = rw e refl

aps_stored : (t : Term) (s : NodeState) → t.layer ≡ Aps → stored_floor t s
    ≡ link_stored (find (is_link t.source t.base) s.links)
unfolding stored_floor
aps_stored t s e = rw e refl

nwk_floor : (c : Setting) (s u : NodeState) (t : Term) → Reserved s u → HeardNwk s t → 1 ≤ c.me.in_block
    → keeps_rules u ≡ true → all_fit (maybe (Floor Nwk t.base t.source) (floor_for c s t)) u ≡ true
unfolding leaves_rules
nwk_floor c s u t r h block kept = maybe_fits (Floor Nwk t.base t.source) (floor_for c s t) u (λ value e.
    let is = floor_is c s t value e h.small block in
    let same = quiet_found t.base s u r in
    let live : live_net t.base u ≡ true = sym (live_same (net_of t.base u)) ∙ ap row_is_live same ∙ live_same
    (net_of t.base s) ∙ h.live in
    let stored : net_stored t.source (net_of t.base u) ≡ net_stored t.source (net_of t.base s) =
    sym (stored_same t.source (net_of t.base u)) ∙ ap (net_stored t.source) same ∙ stored_same t.source
    (net_of t.base s) in
    let below : nat_le (net_stored t.source (net_of t.base s)) t.counter ≡ true =
    sym (ap (λ n. nat_le n t.counter) (nwk_stored t s h.layer)) ∙ is.0 in
    let low : nat_le (net_stored t.source (net_of t.base u)) value ≡ true =
    le-leb _ _ (omega (arith, stored, leb-true _ _ below, is.1)) in
    let room : floor_has_room t.source value (net_of t.base u) ≡ true =
    sym (room_same t.source value (net_of t.base u)) ∙ ap (floor_has_room t.source value) same ∙ room_same t.source
    value (net_of t.base s) ∙ h.room below value is.2 in
    change_fits (Floor Nwk t.base t.source value) u kept (rw (live, low) refl) room)

aps_floor : (c : Setting) (s u : NodeState) (t : Term) → u.links ≡ s.links → HeardAps s t → 1 ≤ c.me.in_block
    → keeps_rules u ≡ true → all_fit (maybe (Floor Aps t.base t.source) (floor_for c s t)) u ≡ true
unfolding leaves_rules
aps_floor c s u t links h block kept = maybe_fits (Floor Aps t.base t.source) (floor_for c s t) u (λ value e.
    let is = floor_is c s t value e h.small block in
    let live : live_link t.source t.base u ≡ true =
    ap (λ l. list_any (λ (x : LinkKey). is_link t.source t.base x && x.live) l) links ∙ h.live in
    let stored : link_stored (find (is_link t.source t.base) u.links)
    ≡ link_stored (find (is_link t.source t.base) s.links) =
    ap (λ l. link_stored (find (is_link t.source t.base) l)) links in
    let below : nat_le (link_stored (find (is_link t.source t.base) s.links)) t.counter ≡ true =
    sym (ap (λ n. nat_le n t.counter) (aps_stored t s h.layer)) ∙ is.0 in
    let low : nat_le (link_stored (find (is_link t.source t.base) u.links)) value ≡ true =
    le-leb _ _ (omega (arith, stored, leb-true _ _ below, is.1)) in
    change_fits (Floor Aps t.base t.source value) u kept (rw (live, low) refl) refl)

-- the floors of a plan's terms

abbrev floors : Setting → NodeState → List Term → List Term → List Edit
floors c s all [] = []
floors c s all (t ∷ ts) = maybe (Floor t.layer t.base t.source) (floor_of c s all t.layer) ++ floors c s all ts

nwk_first : (c : Setting) (s : NodeState) (t : Term) (ts : List Term) → t.layer ≡ Nwk
    → maybe (Floor t.layer t.base t.source) (floor_of c s (t ∷ ts) t.layer)
    ≡ maybe (Floor Nwk t.base t.source) (floor_for c s t)
unfolding floor_of
nwk_first c s t ts e = rw e refl

aps_first : (c : Setting) (s : NodeState) (t : Term) (ts : List Term) → t.layer ≡ Aps
    → maybe (Floor t.layer t.base t.source) (floor_of c s (t ∷ ts) t.layer)
    ≡ maybe (Floor Aps t.base t.source) (floor_for c s t)
unfolding floor_of
aps_first c s t ts e = rw e refl

aps_second : (c : Setting) (s : NodeState) (t u : Term) → t.layer ≡ Nwk → u.layer ≡ Aps
    → maybe (Floor u.layer u.base u.source) (floor_of c s (t ∷ u ∷ []) u.layer)
    ≡ maybe (Floor Aps u.base u.source) (floor_for c s u)
unfolding floor_of
aps_second c s t u e f = rw (e, f) refl

links_left : (base : Bytes) (sender : ℕ) (o : Option ℕ) (s : NodeState)
    → (applied_all (maybe (Floor Nwk base sender) o) s).links ≡ s.links
unfolding applied_all applied
links_left base sender None s = refl
links_left base sender (Some value) s = refl

append_none : (es : List Edit) → es ++ [] ≡ es
append_none [] = refl
append_none (e ∷ es) = ap (λ l. e ∷ l) (append_none es)

floors_fit : (c : Setting) (s u : NodeState) (ts : List Term) → Accepted s ts → Reserved s u → 1 ≤ c.me.in_block
    → keeps_rules u ≡ true → all_fit (floors c s ts ts) u ≡ true
floors_fit c s u [] a r block kept = fit_none u
floors_fit c s u (t ∷ []) (inl h) r block kept = ap (λ l. all_fit l u) (append_none _ ∙ nwk_first c s t [] h.layer) ∙
    nwk_floor c s u t r h block kept
floors_fit c s u (t ∷ []) (inr h) r block kept = ap (λ l. all_fit l u) (append_none _ ∙ aps_first c s t [] h.layer) ∙
    aps_floor c s u t r.links h block kept
floors_fit c s u (t ∷ v ∷ []) a r block kept =
    let first : List Edit = maybe (Floor Nwk t.base t.source) (floor_for c s t) in
    let one = nwk_floor c s u t r a.0 block kept in
    ap (λ l. all_fit l u)
    (ap (λ l. l ++ (maybe (Floor v.layer v.base v.source) (floor_of c s (t ∷ v ∷ []) v.layer) ++ []))
    (nwk_first c s t (v ∷ []) a.0.layer)
    ∙ ap (λ l. first ++ l) (append_none _ ∙ aps_second c s t v a.0.layer a.1.layer))
    ∙ fit_append first (maybe (Floor Aps v.base v.source) (floor_for c s v)) u one
    (aps_floor c s (applied_all first u) v (links_left t.base t.source (floor_for c s t) u ∙ r.links) a.1 block
    (kept_all first u kept one))
floors_fit c s u (t ∷ v ∷ w ∷ ts) a r block kept = absurd a

floors_are : (c : Setting) (s : NodeState) (k : Counting) (all ts : List Term)
    → ((layer : Layer) → k.floor layer ≡ floor_of c s all layer) → flat_map (floor_edit k) ts ≡ floors c s all ts
floors_are c s k all [] same = refl
floors_are c s k all (t ∷ ts) same = ap (λ o. maybe (Floor t.layer t.base t.source) o ++ flat_map (floor_edit k) ts)
    (same t.layer) ∙ ap (λ l. maybe (Floor t.layer t.base t.source) (floor_of c s all t.layer) ++ l)
    (floors_are c s k all ts same)

-- what reserves and floors leave for the moves: bare rows, and the limits of keys that aren't active

record Ready (s u : NodeState) : Type 0 where
  plain : bare u ≡ bare s
  active : u.active ≡ s.active
  limits : (key : Bytes) → is_active_key s.active key ≡ false → net_limit (net_of key u) ≡ net_limit (net_of key s)

limit_kept : (f : NetKey → NetKey) → ((r : NetKey) → (f r).key ≡ r.key) → (key : Bytes)
    → ((r : NetKey) → same_key r.key key ≡ true → (f r).limit ≡ r.limit) → (rs : List NetKey)
    → net_limit (find (λ (r : NetKey). same_key r.key key) (map f rs))
    ≡ net_limit (find (λ (r : NetKey). same_key r.key key) rs)
limit_kept f keyed key limited [] = refl
limit_kept f keyed key limited (r ∷ rs) =
    ap (λ k. net_limit (if same_key k key then Some (f r) else find (λ (x : NetKey). same_key x.key key) (map f rs)))
    (keyed r) ∙ by_test (same_key r.key key) refl (limit_kept f keyed key limited rs)
  where
    by_test : (b : Bool) → same_key r.key key ≡ b → net_limit (find (λ (x : NetKey). same_key x.key key) (map f rs))
        ≡ net_limit (find (λ (x : NetKey). same_key x.key key) rs)
        → net_limit (if b then Some (f r) else find (λ (x : NetKey). same_key x.key key) (map f rs))
        ≡ net_limit (if b then Some r else find (λ (x : NetKey). same_key x.key key) rs)
    by_test true is e = limited r is
    by_test false is e = e

reserve_limit : (limit : ℕ) (active : Option Bytes) (key : Bytes) → is_active_key active key ≡ false
    → (rs : List NetKey)
    → net_limit (find (λ (r : NetKey). same_key r.key key) (of_active (reserved limit) active rs))
    ≡ net_limit (find (λ (r : NetKey). same_key r.key key) rs)
reserve_limit limit None key other rs = refl
reserve_limit limit (Some active) key other rs =
    limit_kept (λ (r : NetKey). if same_key r.key active then reserved limit r
    else r) (λ r. key_of (same_key r.key active) r) key (λ r e. limit_of (same_key r.key active) r refl e) rs
  where
    key_of : (b : Bool) (r : NetKey) → (if b then reserved limit r else r).key ≡ r.key
    key_of true r = refl
    key_of false r = refl

    limit_of : (b : Bool) (r : NetKey) → same_key r.key active ≡ b → same_key r.key key ≡ true
        → (if b then reserved limit r else r).limit ≡ r.limit
    limit_of true r is e =
        never (same_key active key)
        (same_key_of active key (sym (same_key_is r.key active is) ∙ same_key_is r.key key e)) other
    limit_of false r is e = refl

floor_limit : (base : Bytes) (sender value : ℕ) (key : Bytes) (rs : List NetKey)
    → net_limit (find (λ (r : NetKey). same_key r.key key) (at_net base (net_floor sender value) rs))
    ≡ net_limit (find (λ (r : NetKey). same_key r.key key) rs)
floor_limit base sender value key rs =
    limit_kept (λ (r : NetKey). if same_key r.key base then net_floor sender value r
    else r) (λ r. key_of (same_key r.key base) r) key (λ r e. limit_of (same_key r.key base) r) rs
  where
    key_of : (b : Bool) (r : NetKey) → (if b then net_floor sender value r else r).key ≡ r.key
    key_of true r = refl
    key_of false r = refl

    limit_of : (b : Bool) (r : NetKey) → (if b then net_floor sender value r else r).limit ≡ r.limit
    limit_of true r = refl
    limit_of false r = refl

ready_reserve : (layer : Layer) (o : Option ℕ) (s u : NodeState) → Ready s u
    → Ready s (applied_all (maybe (Reserve layer) o) u)
unfolding applied_all applied
ready_reserve Nwk None s u r = r
ready_reserve Nwk (Some limit) s u r = record {
  plain = reserve_bare Nwk limit u ∙ r.plain;
  active = r.active;
  limits = λ key other. reserve_limit limit u.active key (ap (λ o. is_active_key o key) r.active ∙ other) u.nets ∙
      r.limits key other;
}
ready_reserve Aps None s u r = r
ready_reserve Aps (Some limit) s u r =
    record { plain = reserve_bare Aps limit u ∙ r.plain; active = r.active; limits = r.limits }

ready_floor : (layer : Layer) (base : Bytes) (sender : ℕ) (o : Option ℕ) (s u : NodeState) → Ready s u
    → Ready s (applied_all (maybe (Floor layer base sender) o) u)
unfolding applied_all applied
ready_floor Nwk base sender None s u r = r
ready_floor Nwk base sender (Some value) s u r = record {
  plain = floor_bare Nwk base sender value u ∙ r.plain;
  active = r.active;
  limits = λ key other. floor_limit base sender value key u.nets ∙ r.limits key other;
}
ready_floor Aps base sender None s u r = r
ready_floor Aps base sender (Some value) s u r =
    record { plain = floor_bare Aps base sender value u ∙ r.plain; active = r.active; limits = r.limits }

applied_append : (a b : List Edit) (s : NodeState) → applied_all (a ++ b) s ≡ applied_all b (applied_all a s)
unfolding applied_all
applied_append [] b s = refl
applied_append (e ∷ es) b s = applied_append es b (applied e s)

ready_floors : (c : Setting) (s : NodeState) (all ts : List Term) (u : NodeState) → Ready s u
    → Ready s (applied_all (floors c s all ts) u)
unfolding applied_all
ready_floors c s all [] u r = r
ready_floors c s all (t ∷ ts) u r =
    subst (Ready s)
    (sym (applied_append (maybe (Floor t.layer t.base t.source) (floor_of c s all t.layer)) (floors c s all ts) u))
    (ready_floors c s all ts (applied_all (maybe (Floor t.layer t.base t.source) (floor_of c s all t.layer)) u)
    (ready_floor t.layer t.base t.source (floor_of c s all t.layer) s u r))

-- the first counter

abbrev is_other : NodeState → Option Bytes → Bool
is_other s None = true
is_other s (Some key) = not (is_active_key s.active key)

activated_other : (s : NodeState) (ms : List Move) → is_other s (activated s (filter (changes s) ms)) ≡ true
activated_other s [] = refl
activated_other s (Active key ∷ ms) = by_test (is_active_key s.active key) refl (activated_other s ms)
  where
    by_test : (b : Bool) → is_active_key s.active key ≡ b → is_other s (activated s (filter (changes s) ms)) ≡ true
        → is_other s (activated s (if not b then Active key ∷ filter (changes s) ms else filter (changes s) ms)) ≡ true
    by_test true is e = e
    by_test false is e = rw is refl
activated_other s (Row partner key attribute ∷ ms) = by_test (changes s (Row partner key attribute))
    (activated_other s ms)
  where
    by_test : (b : Bool) → is_other s (activated s (filter (changes s) ms)) ≡ true
        → is_other s
        (activated s (if b then Row partner key attribute ∷ filter (changes s) ms else filter (changes s) ms)) ≡ true
    by_test true e = e
    by_test false e = e
activated_other s (Became state ∷ ms) = by_test (changes s (Became state)) (activated_other s ms)
  where
    by_test : (b : Bool) → is_other s (activated s (filter (changes s) ms)) ≡ true
        → is_other s (activated s (if b then Became state ∷ filter (changes s) ms else filter (changes s) ms)) ≡ true
    by_test true e = e
    by_test false e = e
activated_other s (_ ∷ ms) = activated_other s ms

-- a row that was never started has a limit of 0
unstarted : (key : Bytes) (rs : List NetKey) → list_all limit_rule rs ≡ true
    → row_is_started (find (λ (r : NetKey). same_key r.key key) rs) ≡ false
    → nat_eq (net_limit (find (λ (r : NetKey). same_key r.key key) rs)) 0 ≡ true
unstarted key [] all e = refl
unstarted key (r ∷ rs) all e =
    let parts = both (limit_rule r) (list_all limit_rule rs) all in
    by_test (same_key r.key key) e parts.0 (unstarted key rs parts.1)
  where
    not_started : (b : Bool) → b ≡ false → (b || nat_eq r.limit 0) ≡ true → nat_eq r.limit 0 ≡ true
    not_started true e f = absurd (cc)
    not_started false e f = f

    by_test : (b : Bool) → row_is_started (if b then Some r else find (λ (x : NetKey). same_key x.key key) rs) ≡ false
        → limit_rule r ≡ true
        → (row_is_started (find (λ (x : NetKey). same_key x.key key) rs) ≡ false
        → nat_eq (net_limit (find (λ (x : NetKey). same_key x.key key) rs)) 0 ≡ true)
        → nat_eq (net_limit (if b then Some r else find (λ (x : NetKey). same_key x.key key) rs)) 0 ≡ true
    by_test true e rule later = not_started r.started e rule
    by_test false e rule later = later e

start_fits : (s u : NodeState) → Rules s → Ready s u → (o : Option Bytes) → is_other s o ≡ true
    → starts_fit (start_for s o) o u ≡ true
start_fits s u r ready None other = refl
start_fits s u r ready (Some key) other = by_test (is_started_key s key) refl
  where
    by_test : (b : Bool) → is_started_key s key ≡ b → starts_fit (if b then None else Some (first_counter s))
        (Some key) u ≡ true
    by_test true is = refl
    by_test false is = ap (λ n. nat_eq n 0) (ready.limits key (not-true _ other)) ∙ unstarted key s.nets r.limits is

-- the whole

abbrev at_nwk : Setting → NodeState → Plan → List Edit
at_nwk c s p = maybe (Reserve Nwk) (reserve_of c s (sending_of p.outcome) Nwk)

abbrev at_aps : Setting → NodeState → Plan → List Edit
at_aps c s p = maybe (Reserve Aps) (reserve_of c s (sending_of p.outcome) Aps)

answer_edits : (c : Setting) (s : NodeState) (p : Plan) → edits_of s (counting_of c s p) p
    ≡ (at_nwk c s p ++ at_aps c s p)
    ++ (floors c s p.accepts p.accepts
    ++ flat_map (move_edits (counting_of c s p)) (filter (changes s) (moves_of p.outcome)))
unfolding edits_of counting_of
answer_edits c s p =
    ap (λ l. (at_nwk c s p ++ at_aps c s p)
    ++ (l ++ flat_map (move_edits (counting_of c s p)) (filter (changes s) (moves_of p.outcome))))
    (floors_are c s (counting_of c s p) p.accepts p.accepts (λ layer. refl))

module _ (c : Setting) (s : NodeState) (p : Plan) (kept : keeps_rules s ≡ true) (fit : PlanFits s p)
    (block : 1 ≤ c.me.in_block) where
  reserves_fit : all_fit (at_nwk c s p ++ at_aps c s p) s ≡ true
  reserves_fit =
      let one = nwk_reserve c s (sending_of p.outcome) kept in
      fit_append (at_nwk c s p) (at_aps c s p) s one
      (aps_reserve c s (applied_all (at_nwk c s p) s) (sending_of p.outcome)
      (aps_limit_left (reserve_of c s (sending_of p.outcome) Nwk) s) (kept_all (at_nwk c s p) s kept one))

  after_reserves : NodeState
  after_reserves = applied_all (at_nwk c s p ++ at_aps c s p) s

  reserved_all : Reserved s after_reserves
  unfolding after_reserves
  reserved_all =
      subst (Reserved s) (sym (applied_append (at_nwk c s p) (at_aps c s p) s))
      (aps_reserved (reserve_of c s (sending_of p.outcome) Aps) s (applied_all (at_nwk c s p) s)
      (nwk_reserved (reserve_of c s (sending_of p.outcome) Nwk) s))

  ready_all : Ready s after_reserves
  unfolding after_reserves
  ready_all =
      subst (Ready s) (sym (applied_append (at_nwk c s p) (at_aps c s p) s))
      (ready_reserve Aps (reserve_of c s (sending_of p.outcome) Aps) s (applied_all (at_nwk c s p) s)
      (ready_reserve Nwk (reserve_of c s (sending_of p.outcome) Nwk) s s
      (record { plain = refl; active = refl; limits = λ key other. refl })))

  kept_reserved : keeps_rules after_reserves ≡ true
  unfolding after_reserves
  kept_reserved = kept_all (at_nwk c s p ++ at_aps c s p) s kept reserves_fit

  floors_here : all_fit (floors c s p.accepts p.accepts) after_reserves ≡ true
  floors_here = floors_fit c s after_reserves p.accepts fit.accepted reserved_all block kept_reserved

  after_floors : NodeState
  after_floors = applied_all (floors c s p.accepts p.accepts) after_reserves

  ready_floored : Ready s after_floors
  unfolding after_floors
  ready_floored = ready_floors c s p.accepts p.accepts after_reserves ready_all

  kept_floored : keeps_rules after_floors ≡ true
  unfolding after_floors
  kept_floored = kept_all (floors c s p.accepts p.accepts) after_reserves kept_reserved floors_here

  moves_here : all_fit (flat_map (move_edits (counting_of c s p)) (filter (changes s) (moves_of p.outcome)))
      after_floors ≡ true
  unfolding counting_of
  moves_here = moves_stored s (counting_of c s p) (moves_of p.outcome) after_floors kept_floored
      (moves_same s (moves_of p.outcome) s after_floors ready_floored.plain fit.outcome.fit)
      (start_fits s after_floors (rules_of s kept) ready_floored
      (activated s (filter (changes s) (moves_of p.outcome))) (activated_other s (moves_of p.outcome)))

  plan_stored : all_fit (edits_of s (counting_of c s p) p) s ≡ true
  unfolding after_reserves after_floors
  plan_stored =
      ap (λ l. all_fit l s) (answer_edits c s p)
      ∙ fit_append (at_nwk c s p ++ at_aps c s p)
      (floors c s p.accepts p.accepts
      ++ flat_map (move_edits (counting_of c s p)) (filter (changes s) (moves_of p.outcome))) s reserves_fit
      (fit_append (floors c s p.accepts p.accepts)
      (flat_map (move_edits (counting_of c s p)) (filter (changes s) (moves_of p.outcome))) after_reserves
      floors_here moves_here)

pub all_stored : (tools : Tools) → OpensAsJudged tools → (c : Setting) (s : NodeState) (task : Task) → keeps_rules s
    ≡ true → s.role ≡ c.me.role → 1 ≤ c.me.in_block → all_fit (answer tools c s task).edits s ≡ true
unfolding answer answer_by
all_stored tools opens c s task kept role block = plan_stored c s (plan_of tools c s task) kept
    (plan_fits tools opens c s task (rules_of s kept) role) block

-- and the rules are kept after them
pub kept_stored : (tools : Tools) → OpensAsJudged tools → (c : Setting) (s : NodeState) (task : Task) → keeps_rules s
    ≡ true → s.role ≡ c.me.role → 1 ≤ c.me.in_block → keeps_rules (applied_all (answer tools c s task).edits s) ≡ true
kept_stored tools opens c s task kept role block = kept_all (answer tools c s task).edits s kept
    (all_stored tools opens c s task kept role block)

pub kept_answered : (tools : Tools) → OpensAsJudged tools → (c : Setting) (s : NodeState) (task : Task)
    → keeps_rules s ≡ true → s.role ≡ c.me.role → 1 ≤ c.me.in_block → keeps_rules (answered (answer tools c s task) s)
    ≡ true
unfolding answered
kept_answered tools opens c s task kept role block =
    let a = answer tools c s task in
    kept_sealed a.seals (accepted_all a.accepts (applied_all a.edits s))
    (kept_accepted a.accepts (applied_all a.edits s) (kept_stored tools opens c s task kept role block))

-- few changes

few_floors : (c : Setting) (s : NodeState) (all ts : List Term) → length (floors c s all ts) ≤ length ts
few_floors c s all [] = omega arith
few_floors c s all (t ∷ ts) =
    omega (
      arith,
      length-append (maybe (Floor t.layer t.base t.source) (floor_of c s all t.layer))
          (floors c s all ts),
      few_maybe (Floor t.layer t.base t.source) (floor_of c s all t.layer),
      few_floors c s all ts,
    )

few_accepted : (s : NodeState) (ts : List Term) → Accepted s ts → length ts ≤ 2
few_accepted s [] a = omega arith
few_accepted s (t ∷ []) a = omega arith
few_accepted s (t ∷ u ∷ []) a = omega arith
few_accepted s (t ∷ u ∷ v ∷ ts) a = absurd a

few_start : (key : Bytes) (o : Option ℕ) → length (start_edit key o) ≤ 1
few_start key None = omega arith
few_start key (Some value) = omega arith

few_of_move : (k : Counting) (m : Move) → length (move_edits k m) ≤ 2
few_of_move k (Active key) = omega (arith, few_start key k.start)
few_of_move k _ = omega arith

few_of_moves : (k : Counting) (ms : List Move) → length (flat_map (move_edits k) ms) ≤ length ms + length ms
few_of_moves k [] = omega arith
few_of_moves k (m ∷ ms) =
    omega (arith, length-append (move_edits k m) (flat_map (move_edits k) ms), few_of_move k m, few_of_moves k ms)

few_edits : (c : Setting) (s : NodeState) (p : Plan) → PlanFits s p → length (edits_of s (counting_of c s p) p) ≤ 14
few_edits c s p fit =
    let moves : List Edit = flat_map (move_edits (counting_of c s p)) (filter (changes s) (moves_of p.outcome)) in
    omega (
      arith,
      ap (length {A = Edit}) (answer_edits c s p),
      length-append (at_nwk c s p ++ at_aps c s p) (floors c s p.accepts p.accepts ++ moves),
      length-append (at_nwk c s p) (at_aps c s p),
      length-append (floors c s p.accepts p.accepts) moves,
      few_maybe (Reserve Nwk) (reserve_of c s (sending_of p.outcome) Nwk),
      few_maybe (Reserve Aps) (reserve_of c s (sending_of p.outcome) Aps),
      few_floors c s p.accepts p.accepts,
      few_accepted s p.accepts fit.accepted,
      few_of_moves (counting_of c s p) (filter (changes s) (moves_of p.outcome)),
      filter_shorter (changes s) (moves_of p.outcome),
      fit.outcome.few,
    )

pub few_stored : (tools : Tools) → OpensAsJudged tools → (c : Setting) (s : NodeState) (task : Task) → keeps_rules s
    ≡ true → s.role ≡ c.me.role → length (answer tools c s task).edits ≤ 14
unfolding answer answer_by
few_stored tools opens c s task kept role =
    few_edits c s (plan_of tools c s task) (plan_fits tools opens c s task (rules_of s kept) role)

pub short_stored : (tools : Tools) → OpensAsJudged tools → (c : Setting) (s : NodeState) (task : Task) → keeps_rules s
    ≡ true → s.role ≡ c.me.role → list_all has_whole_keys (answer tools c s task).edits ≡ true
    → length (payload (answer tools c s task).edits) ≤ 481
short_stored tools opens c s task kept role whole = few_short (answer tools c s task).edits whole
    (few_stored tools opens c s task kept role)
