-- The changes of an answer say of devices what they must: a row is added for a device that is live or is made live at
-- once, and only the centre tells.
use Rattle.std.proofs.Common.{◌≡◌, ℕ, inl, inr, Bool, true, false, cond, not, ◌&&◌, ◌||◌, List, [], ◌∷◌, ◌++◌, map, filter, Option, Some, None, find, flat_map, nat_eq, refl, sym, ap, ◌∙◌, subst, eqb-true, unwrap_or}
use Rattle.std.proofs.lemmas.Bool.{false≢true, and_parts, not-true}
use Rattle.std.specs.List.{AllByRecursion, list_any}
use Rattle.zb_model.specs.Data.{Bytes, Nwk, Aps, Attribute, Provisional, Unverified, Verified, Move, Draw, DropNet, DropLink, Install, Active, Row, Pair, Became, Live, Removed, Roll, Told, Untold, Edit, Reserve, Floor, Start, Moved, Task}
use Rattle.zb_model.specs.Lines.{Line, Changed}
use Rattle.zb_model.specs.State.{LinkKey, NodeState, same_key, is_centre, is_unverified, is_link, is_live_of, is_live, current, offered, at_link, dropped_link, link_floor, applied, applied_all, moved}
use Rattle.zb_model.specs.Tools.{Tools}
use Rattle.zb_model.specs.Rules.{Setting, Plan, Outcome, Stop, Does, drop_link, drop_row, drop_partner}
use Rattle.zb_model.specs.Answer.{Counting, answer, answer_by, plan_of, counting_of, moves_of, move_edits, start_edit, changes, edits_of}
use Rattle.law_run.specs.CentreAlone.{OfEachNode}
use Rattle.law_run.specs.Opening.{Opens}
use Rattle.law_run.proofs.Basics.{same_key-eq}
use Rattle.law_run.proofs.CentreAlone.{centre-alone}
use Rattle.law_run.proofs.ConfirmsRuns.{Mere, rest_edits, rests-mere}
use Rattle.law_run.proofs.FreshLines.{all-append, all-map}
use Rattle.law_run.proofs.Judged.{In, all-in, found-element}
use Rattle.law_run.proofs.LockoutDeeds.{BringsNoRow, Deed, OutcomeFits, Still, enters, member, nothing, offers, pairs, plan-fits, quiet, removes, rolls, verifies}
use Rattle.law_run.proofs.LockoutGroups.{edits-parts}
use Rattle.law_run.proofs.Sound.{Sound, link_test}
use Rattle.law_run_readings.proofs.Telling.{TellsLine}

-- each of the changes asks for what is true in the state before it, and of the lines of those after it
abbrev pub TellAll : ℕ → ℕ → List Edit → NodeState → Type 0
TellAll number n [] s = Unit {0}
TellAll number n (e ∷ es) s = TellsLine (Changed number n e) s (map (Changed number n) es)
    × TellAll number n es (applied e s)

-- ---- the role stays

moved_role : (m : Move) (s : NodeState) → (moved m s).role ≡ s.role
moved_role (Draw k) s = refl
moved_role _ s = refl

applied_role : (e : Edit) (s : NodeState) → (applied e s).role ≡ s.role
unfolding applied
applied_role (Reserve Nwk v) s = refl
applied_role (Reserve Aps v) s = refl
applied_role (Floor Nwk k p v) s = refl
applied_role (Floor Aps k p v) s = refl
applied_role (Start k v) s = refl
applied_role (Moved m) s = moved_role m s

role_after : (b : Bool) (e : Edit) (s : NodeState) → is_centre s.role ≡ b → is_centre (applied e s).role ≡ b
role_after b e s c = ap is_centre (applied_role e s) ∙ c

-- ---- a node that isn't the centre

member_line : (number n : ℕ) (e : Edit) (later : List Line) (s : NodeState) → is_centre s.role ≡ false → OfEachNode e
    → TellsLine (Changed number n e) s later
member_line number n (Moved (Row p k a)) later s m of = inr (inr m)
member_line number n (Moved (Told d)) later s m of = absurd of
member_line number n _ later s m of = tt

member_tells : (number n : ℕ) (es : List Edit) (s : NodeState) → is_centre s.role ≡ false
    → AllByRecursion OfEachNode es → TellAll number n es s
member_tells number n [] s m of = tt
member_tells number n (e ∷ es) s m of = (
  member_line number n e (map (Changed number n) es) s m of.0,
  member_tells number n es (applied e s) (role_after false e s m) of.1,
)

-- ---- the centre: changes that bring no row

abbrev NoRow : Edit → Type 0
NoRow (Moved (Row p k a)) = ⊥
NoRow _ = Unit {0}

no_row_line : (number n : ℕ) (e : Edit) (later : List Line) (s : NodeState) → is_centre s.role ≡ true → NoRow e
    → TellsLine (Changed number n e) s later
no_row_line number n (Moved (Row p k a)) later s c none = absurd none
no_row_line number n (Moved (Told d)) later s c none = c
no_row_line number n _ later s c none = tt

no_row_tells : (number n : ℕ) (es : List Edit) (s : NodeState) → is_centre s.role ≡ true → AllByRecursion NoRow es
    → TellAll number n es s
no_row_tells number n [] s c none = tt
no_row_tells number n (e ∷ es) s c none = (
  no_row_line number n e (map (Changed number n) es) s c none.0,
  no_row_tells number n es (applied e s) (role_after true e s c) none.1,
)

start_no_row : (key : Bytes) (o : Option ℕ) → AllByRecursion NoRow (start_edit key o)
start_no_row key None = tt
start_no_row key (Some v) = (tt, tt)

move_no_row : (k : Counting) (m : Move) → BringsNoRow m → AllByRecursion NoRow (move_edits k m)
move_no_row k (Active key) a = (tt, start_no_row key k.start)
move_no_row k (Draw key) a = (tt, tt)
move_no_row k (DropNet key) a = (tt, tt)
move_no_row k (DropLink p key) a = (tt, tt)
move_no_row k (Install key q) a = (tt, tt)
move_no_row k (Row p key t) a = absurd a
move_no_row k (Pair u v key) a = (tt, tt)
move_no_row k (Became g) a = (tt, tt)
move_no_row k (Live d) a = (tt, tt)
move_no_row k (Removed d) a = (tt, tt)
move_no_row k (Roll b) a = (tt, tt)
move_no_row k (Told d) a = (tt, tt)
move_no_row k (Untold d) a = (tt, tt)

moves_no_row : (s : NodeState) (k : Counting) (ms : List Move) → AllByRecursion BringsNoRow ms
    → AllByRecursion NoRow (flat_map (move_edits k) (filter (changes s) ms))
moves_no_row s k [] a = tt
moves_no_row s k (m ∷ ms) a = by_test (changes s m) (moves_no_row s k ms a.1)
  where
    by_test : (b : Bool) → AllByRecursion NoRow (flat_map (move_edits k) (filter (changes s) ms))
        → AllByRecursion NoRow
        (flat_map (move_edits k) (cond b (m ∷ filter (changes s) ms) (filter (changes s) ms)))
    by_test true more = all-append NoRow (move_edits k m) (flat_map (move_edits k) (filter (changes s) ms))
        (move_no_row k m a.0) more
    by_test false more = more

still_brings : (m : Move) → Still m → BringsNoRow m
still_brings (Row p k t) a = absurd a
still_brings _ a = tt

drops_bring : (rs : List LinkKey) → AllByRecursion BringsNoRow (map drop_link rs)
drops_bring [] = tt
drops_bring (r ∷ rs) = (tt, drops_bring rs)

partner_brings : (s : NodeState) (p : ℕ) → AllByRecursion BringsNoRow (drop_partner s p)
unfolding drop_partner
partner_brings s p = drops_bring (filter (is_live_of p) s.links)

-- ---- reserves and floors come first

mere_first : (number n : ℕ) (es fs : List Edit) (s : NodeState) → AllByRecursion Mere es
    → TellAll number n fs (applied_all es s) → TellAll number n (es ++ fs) s
unfolding applied_all
mere_first number n [] fs s a t = t
mere_first number n (Reserve l v ∷ es) fs s a t = (tt, mere_first number n es fs (applied (Reserve l v) s) a.1 t)
mere_first number n (Floor l k p v ∷ es) fs s a t =
    (tt, mere_first number n es fs (applied (Floor l k p v) s) a.1 t)
mere_first number n (Start k v ∷ es) fs s a t = (tt, mere_first number n es fs (applied (Start k v) s) a.1 t)
mere_first number n (Moved m ∷ es) fs s a t = absurd a.0

mere_role : (es : List Edit) (s : NodeState) → (applied_all es s).role ≡ s.role
unfolding applied_all
mere_role [] s = refl
mere_role (e ∷ es) s = mere_role es (applied e s) ∙ applied_role e s

-- a test that no floor changes
any_floors : (test : LinkKey → Bool) → ((v : ℕ) (r : LinkKey) → test (link_floor v r) ≡ test r) → (p : ℕ) (k : Bytes)
    (v : ℕ) (links : List LinkKey) → list_any test (at_link p k (link_floor v) links) ≡ list_any test links
any_floors test same p k v [] = refl
any_floors test same p k v (r ∷ rs) =
    ap (λ b. b || list_any test (at_link p k (link_floor v) rs)) (one (is_link p k r))
    ∙ ap (λ b. test r || b) (any_floors test same p k v rs)
  where
    one : (b : Bool) → test (cond b (link_floor v r) r) ≡ test r
    one true = same v r
    one false = refl

any_mere_one : (test : LinkKey → Bool) → ((v : ℕ) (r : LinkKey) → test (link_floor v r) ≡ test r) → (e : Edit)
    → Mere e → (s : NodeState) → list_any test (applied e s).links ≡ list_any test s.links
unfolding applied
any_mere_one test same (Reserve Nwk v) a s = refl
any_mere_one test same (Reserve Aps v) a s = refl
any_mere_one test same (Floor Nwk k p v) a s = refl
any_mere_one test same (Floor Aps k p v) a s = any_floors test same p k v s.links
any_mere_one test same (Start k v) a s = refl
any_mere_one test same (Moved m) a s = absurd a

any_mere : (test : LinkKey → Bool) → ((v : ℕ) (r : LinkKey) → test (link_floor v r) ≡ test r) → (es : List Edit)
    → AllByRecursion Mere es → (s : NodeState) → list_any test (applied_all es s).links ≡ list_any test s.links
unfolding applied_all
any_mere test same [] a s = refl
any_mere test same (e ∷ es) a s = any_mere test same es a.1 (applied e s) ∙ any_mere_one test same e a.0 s

live_mere : (p : ℕ) (es : List Edit) → AllByRecursion Mere es → (s : NodeState) → is_live s p ≡ true
    → is_live (applied_all es s) p ≡ true
unfolding is_live
live_mere p es a s live = any_mere (is_live_of p) (λ v r. refl) es a s ∙ live

drawn_live : (k : Bytes) (s : NodeState) (p : ℕ) → is_live s p ≡ true → is_live (applied (Moved (Draw k)) s) p ≡ true
unfolding applied
drawn_live k s p live = live

-- ---- a row that is verified: its device stays live

any_in : (test : LinkKey → Bool) (r : LinkKey) (links : List LinkKey) → In r links → test r ≡ true
    → list_any test links ≡ true
unfolding In
any_in test r [] i is = absurd i
any_in test r (x ∷ xs) (inl e) is = ap (λ b. b || list_any test xs) (ap test e ∙ is)
any_in test r (x ∷ xs) (inr i) is = ap (λ b. test x || b) (any_in test r xs i is) ∙ any_true (test x)
  where
    any_true : (b : Bool) → (b || true) ≡ true
    any_true true = refl
    any_true false = refl

-- a live row of the partner, other than one
abbrev Remains : ℕ → ℕ → Bytes → LinkKey → Bool
Remains p q k r = is_live_of p r && not (is_link q k r)

any_dropped : (p q : ℕ) (k : Bytes) (links : List LinkKey) → list_any (Remains p q k) links ≡ true
    → list_any (is_live_of p) (at_link q k dropped_link links) ≡ true
any_dropped p q k [] is = is
any_dropped p q k (r ∷ rs) is = by_tests (is_live_of p r) refl (is_link q k r) is (any_dropped p q k rs)
  where
    rest : Bool
    rest = list_any (Remains p q k) rs

    more : Bool
    more = list_any (is_live_of p) (at_link q k dropped_link rs)

    by_tests : (b : Bool) → is_live_of p r ≡ b → (d : Bool) → (b && not d || rest) ≡ true → (rest ≡ true → more ≡ true)
        → (is_live_of p (cond d (dropped_link r) r) || more) ≡ true
    by_tests b e true is k = k (both b is)
      where
        both : (b : Bool) → (b && false || rest) ≡ true → rest ≡ true
        both true is = is
        both false is = is
    by_tests true e false is k = ap (λ x. x || more) e
    by_tests false e false is k = ap (λ x. x || more) e ∙ k is

live_dropped : (p q : ℕ) (k : Bytes) (s : NodeState) → list_any (Remains p q k) s.links ≡ true
    → is_live (applied (Moved (DropLink q k)) s) p ≡ true
unfolding applied is_live
live_dropped p q k s is = any_dropped p q k s.links is

-- two rows that are found differ, if one is unverified and the other isn't
apart : (s : NodeState) → Sound s → (a b : LinkKey) → In a s.links → In b s.links → is_unverified a.attribute ≡ true
    → is_unverified b.attribute ≡ false → (t : Bool) → is_link b.partner b.key a ≡ t
    → is_link b.partner b.key a ≡ false
apart s o a b ia ib ua ub false e = e
apart s o a b ia ib ua ub true e =
    let both = and_parts (nat_eq a.partner b.partner) (same_key a.key b.key) e in
    let found_a = all-in (λ x. find (link_test x) s.links ≡ Some x) s.links o.links a ia in
    let found_b = all-in (λ x. find (link_test x) s.links ≡ Some x) s.links o.links b ib in
    let same : Some a ≡ Some b =
    sym found_a ∙ ap (λ p. find (is_link p a.key) s.links) (eqb-true a.partner b.partner both.0)
    ∙ ap (λ k. find (is_link b.partner k) s.links) (same_key-eq a.key b.key both.1) ∙ found_b in
    absurd (false≢true (sym ub ∙ ap (λ (o : Option LinkKey). is_unverified (unwrap_or o a).attribute) (sym same) ∙ ua))

live_of_offered : (s : NodeState) (p : ℕ) (row : LinkKey) → offered s p ≡ Some row
    → In row s.links × ((is_live_of p row && is_unverified row.attribute) ≡ true)
unfolding offered
live_of_offered s p row e = found-element (λ (r : LinkKey). is_live_of p r && is_unverified r.attribute) s.links row e

found_current : (s : NodeState) (p : ℕ) (row : LinkKey) → current s p ≡ Some row
    → In row s.links × ((is_live_of p row && not (is_unverified row.attribute)) ≡ true)
unfolding current
found_current s p row e =
    found-element (λ (r : LinkKey). is_live_of p r && not (is_unverified r.attribute)) s.links row e

offered_live : (s : NodeState) (p : ℕ) (row : LinkKey) → offered s p ≡ Some row → is_live s p ≡ true
unfolding is_live
offered_live s p row e =
    let f = live_of_offered s p row e in
    any_in (is_live_of p) row s.links f.0 (and_parts (is_live_of p row) (is_unverified row.attribute) f.1).0

remains : (s : NodeState) → Sound s → (p : ℕ) (row cur : LinkKey) → offered s p ≡ Some row → current s p ≡ Some cur
    → list_any (Remains p cur.partner cur.key) s.links ≡ true
remains s o p row cur e f =
    let a = live_of_offered s p row e in
    let b = found_current s p cur f in
    let ua = and_parts (is_live_of p row) (is_unverified row.attribute) a.1 in
    let ub = and_parts (is_live_of p cur) (not (is_unverified cur.attribute)) b.1 in
    let other = apart s o row cur a.0 b.0 ua.1 (not-true (is_unverified cur.attribute) ub.1)
    (is_link cur.partner cur.key row) refl in
    any_in (Remains p cur.partner cur.key) row s.links a.0
    (ap (λ x. x && not (is_link cur.partner cur.key row)) ua.0 ∙ ap not other)

-- ---- deeds

one_row : (number n : ℕ) (p : ℕ) (k : Bytes) (a : Attribute) (kk : Counting) (s0 s : NodeState) → is_live s p ≡ true
    → (b : Bool) → TellAll number n (flat_map (move_edits kk) (cond b (Row p k a ∷ []) [])) s
one_row number n p k a kk s0 s live true = (inl live, tt)
one_row number n p k a kk s0 s live false = tt

verify_tells : (number n : ℕ) (kk : Counting) (es : List Edit) → AllByRecursion Mere es → (s : NodeState) → Sound s
    → (p : ℕ) (row : LinkKey) → offered s p ≡ Some row → (o : Option LinkKey) → current s p ≡ o
    → TellAll number n
    (flat_map (move_edits kk) (filter (changes s) (drop_row o ++ (Row p row.key Verified ∷ [])))) (applied_all es s)
verify_tells number n kk es a s sound_ p row e None f =
    one_row number n p row.key Verified kk s (applied_all es s) (live_mere p es a s (offered_live s p row e))
    (changes s (Row p row.key Verified))
verify_tells number n kk es a s sound_ p row e (Some cur) f = (
  tt,
  one_row number n p row.key Verified kk s (applied (Moved (DropLink cur.partner cur.key)) (applied_all es s))
      (live_dropped p cur.partner cur.key (applied_all es s)
      (any_mere (Remains p cur.partner cur.key) (λ v r. refl) es a s ∙ remains s sound_ p row cur e f))
      (changes s (Row p row.key Verified)),
)

enter_tells : (number n : ℕ) (p : ℕ) (k : Bytes) (kk : Counting) (s : NodeState) (b : Bool)
    → TellAll number n (flat_map (move_edits kk) (cond b (Row p k Provisional ∷ Live p ∷ []) (Live p ∷ []))) s
enter_tells number n p k kk s true = (inr (inl (inl (refl, refl))), (tt, tt))
enter_tells number n p k kk s false = (tt, tt)

offer_tells : (number n : ℕ) (p : ℕ) (k : Bytes) (kk : Counting) (s0 s : NodeState) → is_live s p ≡ true
    → TellAll number n (flat_map (move_edits kk) (filter (changes s0) (Draw k ∷ Row p k Unverified ∷ []))) s
offer_tells number n p k kk s0 s live = (
  tt,
  one_row number n p k Unverified kk s0 (applied (Moved (Draw k)) s) (drawn_live k s p live)
      (changes s0 (Row p k Unverified)),
)

deed_tells : (c : Setting) (task : Task) (number n : ℕ) (kk : Counting) (es : List Edit) → AllByRecursion Mere es
    → (s : NodeState) → Sound s → is_centre c.me.role ≡ true → is_centre s.role ≡ true
    → (moves : List Move) → Deed c s task moves
    → TellAll number n (flat_map (move_edits kk) (filter (changes s) moves)) (applied_all es s)
deed_tells c task number n kk es a s sound_ mine role moves deed = by_deed deed
  where
    s1 : NodeState
    s1 = applied_all es s

    edits : List Move → List Edit
    edits ms = flat_map (move_edits kk) (filter (changes s) ms)

    none : (ms : List Move) → AllByRecursion BringsNoRow ms → TellAll number n (edits ms) s1
    none ms free =
        no_row_tells number n (edits ms) s1 (ap is_centre (mere_role es s) ∙ role) (moves_no_row s kk ms free)

    by_moves : (ms : List Move) → moves ≡ ms → TellAll number n (edits ms) s1 → TellAll number n (edits moves) s1
    by_moves ms e t = subst (λ x. TellAll number n (edits x) s1) (sym e) t

    by_deed : Deed c s task moves → TellAll number n (edits moves) s1
    by_deed (member m of d) = absurd (false≢true (sym m ∙ mine))
    by_deed (nothing e) = by_moves [] e tt
    by_deed (quiet m q y) = none moves (all-map Still BringsNoRow still_brings moves y)
    by_deed (verifies m p row o q e) = by_moves (drop_row (current s p) ++ (Row p row.key Verified ∷ [])) e
        (verify_tells number n kk es a s sound_ p row o (current s p) refl)
    by_deed (rolls m k q drops new i y e) = none moves
        (subst (AllByRecursion BringsNoRow) (sym e) (
          tt,
          all-append BringsNoRow drops (Install k q ∷ Roll true ∷ [])
              (all-map Still BringsNoRow still_brings drops y) (tt, (tt, tt)),
        ))
    by_deed (offers m p k new live e) = by_moves (Draw k ∷ Row p k Unverified ∷ []) e
        (offer_tells number n p k kk s s1 (live_mere p es a s live))
    by_deed (pairs m u v k new lu lv e) = none moves (subst (AllByRecursion BringsNoRow) (sym e) (tt, (tt, tt)))
    by_deed (enters m p k by dead new e) = by_moves (Row p k Provisional ∷ Live p ∷ []) e
        (enter_tells number n p k kk s1 (changes s (Row p k Provisional)))
    by_deed (removes m p live e) = none moves
        (subst (AllByRecursion BringsNoRow) (sym e)
        (all-append BringsNoRow (drop_partner s p) (Removed p ∷ []) (partner_brings s p) (tt, tt)))

-- ---- an answer

outcome_tells : (c : Setting) (task : Task) (number n : ℕ) (kk : Counting) (es : List Edit) → AllByRecursion Mere es
    → (s : NodeState) → Sound s → is_centre c.me.role ≡ true → is_centre s.role ≡ true
    → (o : Outcome) → OutcomeFits c s task o
    → TellAll number n (flat_map (move_edits kk) (filter (changes s) (moves_of o))) (applied_all es s)
outcome_tells c task number n kk es a s sound_ mine role (Stop reason) f = tt
outcome_tells c task number n kk es a s sound_ mine role (Does moves sending) f =
    deed_tells c task number n kk es a s sound_ mine role moves f.deed

edits_tell : (c : Setting) (task : Task) (number n : ℕ) (kk : Counting) (s : NodeState) → Sound s
    → is_centre c.me.role ≡ true → is_centre s.role ≡ true → (p : Plan) → OutcomeFits c s task p.outcome
    → TellAll number n (edits_of s kk p) s
edits_tell c task number n kk s sound_ mine role p f =
    subst (λ es. TellAll number n es s) (sym (edits-parts s kk p))
    (mere_first number n (rest_edits kk p.accepts)
    (flat_map (move_edits kk) (filter (changes s) (moves_of p.outcome))) s (rests-mere kk p.accepts)
    (outcome_tells c task number n kk (rest_edits kk p.accepts) (rests-mere kk p.accepts) s sound_ mine role p.outcome
    f))

pub answer_tells : (tools : Tools) → Opens tools → (c : Setting) (s : NodeState) (task : Task) → Sound s
    → s.role ≡ c.me.role → (number n : ℕ) → TellAll number n (answer tools c s task).edits s
unfolding answer answer_by
answer_tells tools opens c s task sound_ role number n = by_role (is_centre c.me.role) refl
  where
    p : Plan
    p = plan_of tools c s task

    by_role : (b : Bool) → is_centre c.me.role ≡ b → TellAll number n (edits_of s (counting_of c s p) p) s
    by_role true mine = edits_tell c task number n (counting_of c s p) s sound_ mine (ap is_centre role ∙ mine) p
        (plan-fits tools opens c s task)
    by_role false other = member_tells number n (edits_of s (counting_of c s p) p) s (ap is_centre role ∙ other)
        (centre-alone tools opens c s task other)
