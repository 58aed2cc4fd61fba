-- Changes that leave the network rows their keys and their next counters: all but seals, first counters and new keys.
use Rattle.std.proofs.Common.{◌≡◌, ℕ, ◌+◌, Bool, true, false, if◌then◌else◌, List, [], ◌∷◌, ◌++◌, map, filter, find, flat_map, Option, Some, None, option_map, option_to_list, refl, sym, ap, ◌∙◌, subst}
use Rattle.std.specs.List.{AllByRecursion}
use Rattle.std.proofs.lemmas.Bool.{false≢true}
use Rattle.zb_model.specs.Data.{Bytes, Layer, Nwk, Aps, Term, Move, Draw, DropLink, Row, Became, Edit, Reserve, Floor, Start, Moved}
use Rattle.zb_model.specs.Rules.{Plan}
use Rattle.zb_model.specs.State.{NetKey, NodeState, same_key, at_net, reserved, net_floor, net_kept, next_at, net_of_active, active_row, next_of, next_counter, applied, applied_all, moved, after_hearing, after_accepting}
use Rattle.zb_model.specs.Answer.{Counting, accepted_all, changes, moves_of, move_edits, floor_edit, edits_of}
use Rattle.law_change_fits.proofs.Parts.{same_key_of}
use Rattle.law_recovery.proofs.Changing.{IsMild, active_after, active_key, in_rows, mild_if, mild_then}
use Rattle.law_recovery.proofs.Once.{map_map, map_same}
use Rattle.law_recovery.specs.Meeting.{HasNetwork}

-- the rows are changed mildly and keep their next counters; the active key and the other counters are the same
pub record Calmly (s v : NodeState) : Type 0 where
  pub change : NetKey → NetKey
  pub mild : IsMild change
  pub next : (r : NetKey) → (change r).next ≡ r.next
  pub nets : v.nets ≡ map change s.nets
  pub active : v.active ≡ s.active
  pub declared : v.declared ≡ s.declared

mild_same : IsMild (λ r. r)
mild_same = record { key = λ r. refl; sequence = λ r. refl; live = λ r. refl }

same_nets : (s v : NodeState) → v.nets ≡ s.nets → v.active ≡ s.active → v.declared ≡ s.declared → Calmly s v
same_nets s v nets active declared = record {
  change = λ r. r;
  mild = mild_same;
  next = λ r. refl;
  nets = nets ∙ sym (map_same s.nets);
  active = active;
  declared = declared;
}

calm_then : (s u v : NodeState) → Calmly s u → Calmly u v → Calmly s v
calm_then s u v a b = record {
  change = λ r. b.change (a.change r);
  mild = mild_then b.change a.change b.mild a.mild;
  next = λ r. b.next (a.change r) ∙ a.next r;
  nets = b.nets ∙ ap (map b.change) a.nets ∙ map_map b.change a.change s.nets;
  active = b.active ∙ a.active;
  declared = b.declared ∙ a.declared;
}

calm_at : (s : NodeState) (key : Bytes) (f : NetKey → NetKey) → IsMild f → ((r : NetKey) → (f r).next ≡ r.next)
    → Calmly s (record s { nets = at_net key f s.nets })
calm_at s key f mild next = record {
  change = λ r. if same_key r.key key then f r else r;
  mild = mild_if (λ r. same_key r.key key) f mild;
  next = λ r. kept (same_key r.key key) r;
  nets = refl;
  active = refl;
  declared = refl;
}
  where
    kept : (b : Bool) (r : NetKey) → (if b then f r else r).next ≡ r.next
    kept true r = next r
    kept false r = refl

-- ---- changes

abbrev pub OfLinks : Move → Type 0
OfLinks (Draw key) = Unit {0}
OfLinks (DropLink partner key) = Unit {0}
OfLinks (Row partner key attribute) = Unit {0}
OfLinks (Became state) = Unit {0}
OfLinks m = ◌≡◌ {A = Bool} false true

abbrev IsCalm : Edit → Type 0
IsCalm (Start key value) = ◌≡◌ {A = Bool} false true
IsCalm (Moved m) = OfLinks m
IsCalm e = Unit {0}

calm_move : (m : Move) (s : NodeState) → OfLinks m → Calmly s (moved m s)
calm_move (Draw key) s of = same_nets s s refl refl refl
calm_move (DropLink partner key) s of = same_nets s (moved (DropLink partner key) s) refl refl refl
calm_move (Row partner key attribute) s of = same_nets s (moved (Row partner key attribute) s) refl refl refl
calm_move (Became state) s of = same_nets s (moved (Became state) s) refl refl refl
calm_move _ s of = absurd cc

calm_edit : (e : Edit) (s : NodeState) → IsCalm e → Calmly s (applied e s)
unfolding applied
calm_edit (Reserve Nwk limit) s is =
    let rows = in_rows (reserved limit) (record { key = λ r. refl; sequence = λ r. refl; live = λ r. refl }) s.active
    s.nets in
    record {
      change = rows.change;
      mild = rows.mild;
      next = rows.next (λ r. refl);
      nets = rows.same;
      active = refl;
      declared = refl;
    }
calm_edit (Reserve Aps limit) s is = same_nets s (applied (Reserve Aps limit) s) refl refl refl
calm_edit (Floor Nwk key sender value) s is =
    calm_at s key (net_floor sender value) (record { key = λ r. refl; sequence = λ r. refl; live = λ r. refl })
    (λ r. refl)
calm_edit (Floor Aps key sender value) s is = same_nets s (applied (Floor Aps key sender value) s) refl refl refl
calm_edit (Start key value) s is = absurd cc
calm_edit (Moved m) s is = calm_move m s is

calm_edits : (es : List Edit) (s : NodeState) → AllByRecursion IsCalm es → Calmly s (applied_all es s)
unfolding applied_all
calm_edits [] s all = same_nets s s refl refl refl
calm_edits (e ∷ es) s all =
    calm_then s (applied e s) (applied_all es (applied e s)) (calm_edit e s all.0) (calm_edits es (applied e s) all.1)

calm_hearing : (l : Layer) (key : Bytes) (sender counter : ℕ) (s : NodeState)
    → Calmly s (after_hearing l key sender counter s)
unfolding after_hearing
calm_hearing Nwk key sender counter s =
    calm_at s key (net_kept sender (counter + 1)) (record { key = λ r. refl; sequence = λ r. refl; live = λ r. refl })
    (λ r. refl)
calm_hearing Aps key sender counter s = same_nets s (after_hearing Aps key sender counter s) refl refl refl

calm_accepts : (ts : List Term) (s : NodeState) → Calmly s (accepted_all ts s)
unfolding after_accepting
calm_accepts [] s = same_nets s s refl refl refl
calm_accepts (t ∷ ts) s =
    calm_then s (after_accepting t s) (accepted_all ts (after_accepting t s))
    (calm_hearing t.layer t.base t.source t.counter s) (calm_accepts ts (after_accepting t s))

-- ---- the changes of an answer

appended : {X : Type 0} (P : X → Type 0) (xs ys : List X) → AllByRecursion P xs → AllByRecursion P ys
    → AllByRecursion P (xs ++ ys)
appended P [] ys a b = b
appended P (x ∷ xs) ys a b = (a.0, appended P xs ys a.1 b)

calm_reserve : (l : Layer) (o : Option ℕ) → AllByRecursion IsCalm (option_to_list (option_map (Reserve l) o))
calm_reserve l None = tt
calm_reserve l (Some v) = (tt, tt)

calm_floor : (t : Term) (o : Option ℕ)
    → AllByRecursion IsCalm (option_to_list (option_map (Floor t.layer t.base t.source) o))
calm_floor t None = tt
calm_floor t (Some v) = (tt, tt)

calm_floors : (k : Counting) (ts : List Term) → AllByRecursion IsCalm (flat_map (floor_edit k) ts)
calm_floors k [] = tt
calm_floors k (t ∷ ts) = appended IsCalm (floor_edit k t) (flat_map (floor_edit k) ts) (calm_floor t (k.floor t.layer))
    (calm_floors k ts)

calm_one : (k : Counting) (m : Move) → OfLinks m → AllByRecursion IsCalm (move_edits k m)
calm_one k (Draw key) of = (tt, tt)
calm_one k (DropLink partner key) of = (tt, tt)
calm_one k (Row partner key attribute) of = (tt, tt)
calm_one k (Became state) of = (tt, tt)
calm_one k _ of = absurd cc

calm_moves : (k : Counting) (ms : List Move) → AllByRecursion OfLinks ms
    → AllByRecursion IsCalm (flat_map (move_edits k) ms)
calm_moves k [] all = tt
calm_moves k (m ∷ ms) all =
    appended IsCalm (move_edits k m) (flat_map (move_edits k) ms) (calm_one k m all.0) (calm_moves k ms all.1)

pub calm_answer : (s : NodeState) (k : Counting) (p : Plan) → AllByRecursion OfLinks
    (filter (changes s) (moves_of p.outcome)) → Calmly s (accepted_all p.accepts (applied_all (edits_of s k p) s))
unfolding edits_of
calm_answer s k p all =
    let reserves = option_to_list (option_map (Reserve Nwk) (k.reserve Nwk))
    ++ option_to_list (option_map (Reserve Aps) (k.reserve Aps)) in
    let moves = flat_map (move_edits k) (filter (changes s) (moves_of p.outcome)) in
    let es = reserves ++ (flat_map (floor_edit k) p.accepts ++ moves) in
    calm_then s (applied_all es s) (accepted_all p.accepts (applied_all es s))
    (calm_edits es s
    (appended IsCalm reserves (flat_map (floor_edit k) p.accepts ++ moves)
    (appended IsCalm (option_to_list (option_map (Reserve Nwk) (k.reserve Nwk)))
    (option_to_list (option_map (Reserve Aps) (k.reserve Aps))) (calm_reserve Nwk (k.reserve Nwk))
    (calm_reserve Aps (k.reserve Aps)))
    (appended IsCalm (flat_map (floor_edit k) p.accepts) moves (calm_floors k p.accepts)
    (calm_moves k (filter (changes s) (moves_of p.outcome)) all))))
    (calm_accepts p.accepts (applied_all es s))

next_found : (change : NetKey → NetKey) (declared : ℕ) (o : Option NetKey)
    → ((r : NetKey) → (change r).next ≡ r.next) → next_of declared (option_map change o) ≡ next_of declared o
next_found change declared None next = refl
next_found change declared (Some r) next = next r

-- so the next counter is the same
pub calm_next : (s v : NodeState) → Calmly s v → next_counter Nwk v ≡ next_counter Nwk s
unfolding next_counter
calm_next s v c =
    ap (λ n. next_of n (active_row v)) c.declared
    ∙ ap (next_of s.declared) (active_after c.change c.mild s v c.nets c.active)
    ∙ next_found c.change s.declared (active_row s) c.next

-- ---- a counter that is used

all_sealed : (key : Bytes) (n : ℕ) (rs : List NetKey)
    → AllByRecursion (λ (r : NetKey). same_key r.key key ≡ true → r.next ≡ n) (at_net key (next_at n) rs)
all_sealed key n [] = tt
all_sealed key n (r ∷ rs) = (by_test (same_key r.key key) refl, all_sealed key n rs)
  where
    by_test : (b : Bool) → same_key r.key key ≡ b
        → same_key (if b then next_at n r else r).key key ≡ true → (if b then next_at n r else r).next ≡ n
    by_test true e f = refl
    by_test false e f = absurd (false≢true (sym e ∙ f))

all_found : (P : NetKey → Type 0) (q : NetKey → Bool) (rs : List NetKey) (row : NetKey) → AllByRecursion P rs
    → find q rs ≡ Some row → P row
all_found P q [] row all e = absurd cc
all_found P q (r ∷ rs) row all e = by_test (q r) e (λ f. all_found P q rs row all.1 f)
  where
    by_test : (b : Bool) → (if b then Some r else find q rs) ≡ Some row → (find q rs ≡ Some row → P row) → P row
    by_test true f later = subst P (same f) all.0
      where
        same : Some r ≡ Some row → r ≡ row
        same g = cc
    by_test false f later = later f

-- the active row is the row of the active key
active_found : (u : NodeState) (k : Bytes) (row : NetKey) → u.active ≡ Some k → active_row u ≡ Some row
    → find (λ (r : NetKey). same_key r.key k) u.nets ≡ Some row
unfolding active_row
active_found u k row a is = ap (λ o. net_of_active o u) (sym a) ∙ is

pub sealed_next : (u : NodeState) (key : Bytes) (sequence n : ℕ) (rs : List NetKey) → (h : HasNetwork u key sequence)
    → u.nets ≡ at_net key (next_at n) rs → next_counter Nwk u ≡ n
unfolding next_counter
sealed_next u key sequence n rs h e =
    let a = active_key u h.active h.is_active in
    ap (next_of u.declared) h.is_active
    ∙ all_found (λ (r : NetKey). same_key r.key key ≡ true → r.next ≡ n) (λ (r : NetKey). same_key r.key a.0) u.nets
    h.active
    (subst (AllByRecursion (λ (r : NetKey). same_key r.key key ≡ true → r.next ≡ n)) (sym e) (all_sealed key n rs))
    (active_found u a.0 h.active a.1 h.is_active) (same_key_of h.active.key key h.active_key)
