-- The outgoing counters of a state: which of them stay after changes, accepted terms, and what tables show.
use Rattle.std.proofs.Common.{◌≡◌, ℕ, ◌≤◌, min, max, Bool, true, false, List, [], ◌∷◌, ◌++◌, map, Option, Some, None, option_map, refl, sym, ap, ◌∙◌, subst, arith}
use Rattle.std.specs.Prelude.{find, if◌then◌else◌}
use Rattle.std.specs.List.{AllByRecursion}
use Rattle.zb_model.specs.Data.{Bytes, Layer, Nwk, Aps, Move, DropNet, Install, Edit, Reserve, Floor, Start, Moved, Term}
use Rattle.zb_model.specs.State.{greatest_counter, NetKey, NodeState, same_key, has_net, at_net, of_active, new_net, reserved, started_at, dropped_net, net_floor, net_kept, applied, applied_all, moved, shown, shown_net, after_hearing, after_accepting}
use Rattle.zb_model.specs.Answer.{accepted_all}

-- a row is found, and Q is true of its next counter and its limit
unfoldable pub Holds : (ℕ → ℕ → Type 0) → Option NetKey → Type 0
Holds Q None = ⊥
Holds Q (Some r) = Q r.next r.limit

abbrev pub with_key : Bytes → NetKey → Bool
with_key key r = same_key r.key key

abbrev pub On : (ℕ → ℕ → Type 0) → Bytes → List NetKey → Type 0
On Q key nets = Holds Q (find (with_key key) nets)

-- rows that are changed, one by one

chosen_map : {X : Type 0} (f : X → X) (b : Bool) (x : X) (o p : Option X) → o ≡ option_map f p
    → (if b then Some (f x) else o) ≡ option_map f (if b then Some x else p)
chosen_map f true x o p e = refl
chosen_map f false x o p e = e

pub find_map : {X : Type 0} (test : X → Bool) (f : X → X) → ((x : X) → test (f x) ≡ test x) → (xs : List X)
    → find test (map f xs) ≡ option_map f (find test xs)
find_map test f same [] = refl
find_map test f same (x ∷ xs) =
    rw (same x) (chosen_map f (test x) x (find test (map f xs)) (find test xs) (find_map test f same xs))

holds_map : (Q : ℕ → ℕ → Type 0) (f : NetKey → NetKey) → ((r : NetKey) → Q r.next r.limit → Q (f r).next (f r).limit)
    → (o : Option NetKey) → Holds Q o → Holds Q (option_map f o)
unfolding Holds
holds_map Q f kept None h = absurd h
holds_map Q f kept (Some r) h = kept r h

on_map : (Q : ℕ → ℕ → Type 0) (f : NetKey → NetKey) → ((r : NetKey) → (f r).key ≡ r.key)
    → ((r : NetKey) → Q r.next r.limit → Q (f r).next (f r).limit) → (key : Bytes) (nets : List NetKey)
    → On Q key nets → On Q key (map f nets)
on_map Q f keyed kept key nets h =
    subst (Holds Q) (sym (find_map (with_key key) f (λ r. ap (λ k. same_key k key) (keyed r)) nets))
    (holds_map Q f kept (find (with_key key) nets) h)

on_at : (Q : ℕ → ℕ → Type 0) (f : NetKey → NetKey) → ((r : NetKey) → (f r).key ≡ r.key)
    → ((r : NetKey) → Q r.next r.limit → Q (f r).next (f r).limit) → (other key : Bytes) (nets : List NetKey)
    → On Q key nets → On Q key (at_net other f nets)
on_at Q f keyed kept other key nets h = on_map Q (λ (r : NetKey). if same_key r.key other then f r
    else r) (λ r. key_of (same_key r.key other) r) (λ r. kept_of (same_key r.key other) r) key nets h
  where
    key_of : (b : Bool) (r : NetKey) → (if b then f r else r).key ≡ r.key
    key_of true r = keyed r
    key_of false r = refl

    kept_of : (b : Bool) (r : NetKey) → Q r.next r.limit → Q (if b then f r else r).next (if b then f r else r).limit
    kept_of true r h = kept r h
    kept_of false r h = h

on_active : (Q : ℕ → ℕ → Type 0) (f : NetKey → NetKey) → ((r : NetKey) → (f r).key ≡ r.key)
    → ((r : NetKey) → Q r.next r.limit → Q (f r).next (f r).limit)
    → (active : Option Bytes) (key : Bytes) (nets : List NetKey) → On Q key nets → On Q key (of_active f active nets)
on_active Q f keyed kept None key nets h = h
on_active Q f keyed kept (Some active) key nets h = on_at Q f keyed kept active key nets h

on_append : (Q : ℕ → ℕ → Type 0) (key : Bytes) (nets more : List NetKey) → On Q key nets → On Q key (nets ++ more)
unfolding Holds
on_append Q key [] more h = absurd h
on_append Q key (r ∷ rs) more h = by_test (same_key r.key key) h (on_append Q key rs more)
  where
    by_test : (b : Bool) → Holds Q (if b then Some r else find (with_key key) rs)
        → (On Q key rs → On Q key (rs ++ more)) → Holds Q (if b then Some r else find (with_key key) (rs ++ more))
    by_test true h later = h
    by_test false h later = later h

on_added : (Q : ℕ → ℕ → Type 0) (b : Bool) (key : Bytes) (nets more : List NetKey) → On Q key nets
    → On Q key (if b then nets else nets ++ more)
on_added Q true key nets more h = h
on_added Q false key nets more h = on_append Q key nets more h

-- if each row of a key meets Q afterwards, the one that is found does
pub made_found : (Q : ℕ → ℕ → Type 0) (f : NetKey → NetKey) → ((r : NetKey) → (f r).key ≡ r.key)
    → ((r : NetKey) → Q (f r).next (f r).limit) → (key : Bytes) (nets : List NetKey) (r : NetKey)
    → find (with_key key) nets ≡ Some r → On Q key (at_net key f nets)
unfolding Holds
made_found Q f keyed made key [] r e = absurd (cc)
made_found Q f keyed made key (x ∷ xs) r e = by_test (same_key x.key key) refl e (made_found Q f keyed made key xs r)
  where
    by_test : (b : Bool) → same_key x.key key ≡ b → (if b then Some x else find (with_key key) xs) ≡ Some r
        → (find (with_key key) xs ≡ Some r → On Q key (at_net key f xs))
        → Holds Q (if same_key (if b then f x else x).key key then Some (if b then f x else x)
        else find (with_key key) (at_net key f xs))
    by_test true is e later = rw (ap (λ k. same_key k key) (keyed x) ∙ is) (made x)
    by_test false is e later = rw is (later e)

-- Q stays true when a limit rises, and when a key gets a first counter of at most c

abbrev pub Rises : (ℕ → ℕ → Type 0) → Type 0
Rises Q = (next limit more : ℕ) → limit ≤ more → Q next limit → Q next more

abbrev pub Starts : ℕ → (ℕ → ℕ → Type 0) → Type 0
Starts c Q = (next limit value : ℕ) → value ≤ c → Q next limit → Q (max next value) (max limit value)

-- a first counter of at most c
abbrev pub Gentle : ℕ → Edit → Type 0
Gentle c (Start key value) = value ≤ c
Gentle c _ = Unit {0}

on_moved : (Q : ℕ → ℕ → Type 0) (key : Bytes) (m : Move) (s : NodeState) → On Q key s.nets → On Q key (moved m s).nets
on_moved Q key (DropNet k) s h = on_at Q dropped_net (λ r. refl) (λ r h. h) k key s.nets h
on_moved Q key (Install k sequence) s h = on_added Q (has_net k s.nets) key s.nets (new_net k sequence ∷ []) h
on_moved Q key _ s h = h

on_applied : (c : ℕ) (Q : ℕ → ℕ → Type 0) → Rises Q → Starts c Q → (key : Bytes) (e : Edit) (s : NodeState)
    → Gentle c e → On Q key s.nets → On Q key (applied e s).nets
unfolding applied
on_applied c Q rises starts key (Reserve Nwk limit) s g h = on_active Q (reserved limit) (λ r. refl)
    (λ r h. rises r.next r.limit (max r.limit (min limit greatest_counter)) (omega arith) h) s.active key s.nets h
on_applied c Q rises starts key (Reserve Aps limit) s g h = h
on_applied c Q rises starts key (Floor Nwk k sender value) s g h = on_at Q (net_floor sender value) (λ r. refl)
    (λ r h. h) k key s.nets h
on_applied c Q rises starts key (Floor Aps k sender value) s g h = h
on_applied c Q rises starts key (Start k value) s g h =
    on_at Q (started_at value) (λ r. refl)
    (λ r h. starts r.next r.limit (min value greatest_counter) (omega (arith, g)) h) k key s.nets h
on_applied c Q rises starts key (Moved m) s g h = on_moved Q key m s h

pub on_applied_all : (c : ℕ) (Q : ℕ → ℕ → Type 0) → Rises Q → Starts c Q
    → (key : Bytes) (es : List Edit) (s : NodeState) → AllByRecursion (Gentle c) es → On Q key s.nets
    → On Q key (applied_all es s).nets
unfolding applied_all
on_applied_all c Q rises starts key [] s g h = h
on_applied_all c Q rises starts key (e ∷ es) s g h = on_applied_all c Q rises starts key es (applied e s) g.1
    (on_applied c Q rises starts key e s g.0 h)

on_heard : (Q : ℕ → ℕ → Type 0) (key : Bytes) (layer : Layer) (k : Bytes) (sender counter : ℕ) (s : NodeState)
    → On Q key s.nets → On Q key (after_hearing layer k sender counter s).nets
unfolding after_hearing
on_heard Q key Nwk k sender counter s h = on_at Q (net_kept sender _) (λ r. refl) (λ r h. h) k key s.nets h
on_heard Q key Aps k sender counter s h = h

pub on_accepted : (Q : ℕ → ℕ → Type 0) (key : Bytes) (ts : List Term) (s : NodeState) → On Q key s.nets
    → On Q key (accepted_all ts s).nets
unfolding after_accepting
on_accepted Q key [] s h = h
on_accepted Q key (t ∷ ts) s h = on_accepted Q key ts (after_accepting t s)
    (on_heard Q key t.layer t.base t.source t.counter s h)

pub on_shown : (Q : ℕ → ℕ → Type 0) (key : Bytes) (s : NodeState) → On Q key s.nets → On Q key (shown s).nets
unfolding shown
on_shown Q key s h = on_map Q shown_net (λ r. refl) (λ r h. h) key s.nets h

-- the counter of APS

abbrev pub OnAps : (ℕ → ℕ → Type 0) → NodeState → Type 0
OnAps Q s = Q s.aps_next s.aps_limit

aps_moved : (Q : ℕ → ℕ → Type 0) (m : Move) (s : NodeState) → OnAps Q s → OnAps Q (moved m s)
aps_moved Q (DropNet key) s h = h
aps_moved Q _ s h = h

aps_applied : (Q : ℕ → ℕ → Type 0) → Rises Q → (e : Edit) (s : NodeState) → OnAps Q s → OnAps Q (applied e s)
unfolding applied
aps_applied Q rises (Reserve Nwk limit) s h = h
aps_applied Q rises (Reserve Aps limit) s h =
    rises s.aps_next s.aps_limit (max s.aps_limit (min limit greatest_counter)) (omega arith) h
aps_applied Q rises (Floor Nwk k sender value) s h = h
aps_applied Q rises (Floor Aps k sender value) s h = h
aps_applied Q rises (Start k value) s h = h
aps_applied Q rises (Moved m) s h = aps_moved Q m s h

pub aps_applied_all : (Q : ℕ → ℕ → Type 0) → Rises Q → (es : List Edit) (s : NodeState) → OnAps Q s
    → OnAps Q (applied_all es s)
unfolding applied_all
aps_applied_all Q rises [] s h = h
aps_applied_all Q rises (e ∷ es) s h = aps_applied_all Q rises es (applied e s) (aps_applied Q rises e s h)

aps_heard : (Q : ℕ → ℕ → Type 0) (layer : Layer) (k : Bytes) (sender counter : ℕ) (s : NodeState) → OnAps Q s
    → OnAps Q (after_hearing layer k sender counter s)
unfolding after_hearing
aps_heard Q Nwk k sender counter s h = h
aps_heard Q Aps k sender counter s h = h

pub aps_accepted : (Q : ℕ → ℕ → Type 0) (ts : List Term) (s : NodeState) → OnAps Q s → OnAps Q (accepted_all ts s)
unfolding after_accepting
aps_accepted Q [] s h = h
aps_accepted Q (t ∷ ts) s h =
    aps_accepted Q ts (after_accepting t s) (aps_heard Q t.layer t.base t.source t.counter s h)

pub aps_shown : (Q : ℕ → ℕ → Type 0) (s : NodeState) → OnAps Q s → OnAps Q (shown s)
unfolding shown
aps_shown Q s h = h
