-- A row of a run is started exactly if lines say that its key has started.
use Rattle.std.proofs.Common.{◌≡◌, ℕ, ◌+◌, max, Bool, true, false, cond, ◌&&◌, ◌||◌, List, [], ◌∷◌, ◌++◌, map, Option, Some, None, option_map, find, nat_eq, flat_map, refl, sym, ap, ◌∙◌, subst, append_assoc, ⊎_elim, ◌⊎◌, inl, inr, eqb-true}
use Rattle.std.proofs.lemmas.Bool.{false≢true}
use Rattle.std.specs.List.{AllByRecursion, list_any}
use Rattle.zb_model.specs.Data.{Bytes, Layer, Nwk, Aps, Term, Edit, Reserve, Floor, Start, Moved, Move, Draw, DropNet, DropLink, Install, Active, Row, Pair, Became, Live, Removed, Roll, Told, Untold}
use Rattle.zb_model.specs.Lines.{Line, Declared, GivenNet, GivenLink, Counter, Changed, Commit, Accept, Refuse, Seal, Forge, Send, Inject, Stopped, DownReset, DownDisk, Boot, Dump, End}
use Rattle.zb_model.specs.State.{NetKey, NodeState, same_key, has_net, at_net, of_active, new_net, given_net, reserved, started_at, dropped_net, net_floor, net_kept, next_at, booted_net, declared_at, applied, moved, applied_all, after_sealing, sealed_at, after_boot, after_hearing, after_accepting, with_given_net, with_given_link, with_declared}
use Rattle.zb_model.specs.Rules.{Plan}
use Rattle.zb_model.specs.Answer.{Counting, row_is_started, is_started_key, reserve_edit, floor_edit, start_edit, edits_of}
use Rattle.zb_model.specs.Readings.{state_of, heard_line, after, speaker}
use Rattle.zb_model.specs.Claims.{Each}
use Rattle.law_run.proofs.Basics.{same_key-eq, same_key-refl, find-map, append-nil', state-snoc}
use Rattle.law_run.proofs.Nets.{at_key}
use Rattle.law_run.proofs.Counters.{found-key, none-some}
use Rattle.law_run.proofs.Groups.{changed-line}
use Rattle.law_run_counters.specs.Counted.{starts_key, has_started}
use Rattle.law_run_counters.proofs.Shown.{NoActive, MovesFit}
use Rattle.law_run_counters.proofs.Sections.{IsFloor, are-floors, kept_moves, reserve_list}
use Rattle.law_run_counters.proofs.Calls.{edits_by}

-- Tests

or-nothing : (a : Bool) → a ≡ (a || false)
or-nothing true = refl
or-nothing false = refl

or-first : (a b : Bool) → a ≡ true → a ≡ (a || b)
or-first true b e = refl
or-first false b e = absurd (false≢true e)

or-no : (a b : Bool) → b ≡ false → a ≡ (a || b)
or-no a true e = absurd (false≢true (sym e))
or-no a false e = or-nothing a

pub or-yes : (a b : Bool) → b ≡ true → true ≡ (a || b)
or-yes true b e = refl
or-yes false true e = refl
or-yes false false e = absurd (false≢true e)

and-none : (b : Bool) → false ≡ (b && false)
and-none true = refl
and-none false = refl

-- The row of a key: whether it is there, and started

abbrev pub started : Bytes → List NetKey → Bool
started key nets = row_is_started (find (at_key key) nets)

pub record KeepsRow (f : NetKey → NetKey) : Type 0 where
  pub key : (r : NetKey) → (f r).key ≡ r.key
  pub start : (r : NetKey) → (f r).started ≡ r.started

row-map : (f : NetKey → NetKey) → KeepsRow f → (o : Option NetKey) → row_is_started (option_map f o) ≡ row_is_started o
row-map f k None = refl
row-map f k (Some r) = k.start r

pub started-map : (f : NetKey → NetKey) → KeepsRow f → (key : Bytes) (nets : List NetKey) → started key (map f nets)
    ≡ started key nets
started-map f k key nets = ap row_is_started (find-map (at_key key) f (λ r. ap (λ x. same_key x key) (k.key r)) nets)
    ∙ row-map f k (find (at_key key) nets)

only-row : (f : NetKey → NetKey) (test : NetKey → Bool) → KeepsRow f → KeepsRow (λ r. cond (test r) (f r) r)
only-row f test k = record { key = λ r. key_ (test r) r; start = λ r. start_ (test r) r }
  where
    key_ : (b : Bool) (r : NetKey) → (cond b (f r) r).key ≡ r.key
    key_ true r = k.key r
    key_ false r = refl

    start_ : (b : Bool) (r : NetKey) → (cond b (f r) r).started ≡ r.started
    start_ true r = k.start r
    start_ false r = refl

pub started-at : (f : NetKey → NetKey) → KeepsRow f → (key other : Bytes) (nets : List NetKey)
    → started key (at_net other f nets) ≡ started key nets
started-at f k key other nets = started-map (λ r. cond (same_key r.key other) (f r) r)
    (only-row f (λ r. same_key r.key other) k) key nets

-- one more row, not started
new-same : (x : NetKey) → x.started ≡ false → (key : Bytes) (nets : List NetKey) → started key (nets ++ x ∷ [])
    ≡ started key nets
new-same x e key [] = one (at_key key x)
  where
    one : (b : Bool) → row_is_started (cond b (Some x) None) ≡ false
    one true = e
    one false = refl
new-same x e key (r ∷ rs) = more (at_key key r) r (find (at_key key) (rs ++ x ∷ [])) (find (at_key key) rs)
    (new-same x e key rs)
  where
    more : (b : Bool) (r : NetKey) (o p : Option NetKey) → row_is_started o ≡ row_is_started p
        → row_is_started (cond b (Some r) o) ≡ row_is_started (cond b (Some r) p)
    more true r o p e = refl
    more false r o p e = e

new-by : (b : Bool) (x : NetKey) → x.started ≡ false → (key : Bytes) (nets : List NetKey)
    → started key (cond b nets (nets ++ x ∷ [])) ≡ started key nets
new-by true x e key nets = refl
new-by false x e key nets = new-same x e key nets

-- one more row that is started, of a key that has none
or-parts : (a b : Bool) → (a || b) ≡ false → (a ≡ false) × (b ≡ false)
or-parts true b e = absurd (false≢true (sym e))
or-parts false b e = (refl, e)

other-key : (r x : NetKey) (key : Bytes) (b : Bool) → same_key x.key key ≡ b → same_key r.key key ≡ true
    → same_key r.key x.key ≡ false → b ≡ false
other-key r x key true e f g = absurd (false≢true (sym g ∙ ap (λ k. same_key r.key k) (same_key-eq x.key key e) ∙ f))
other-key r x key false e f g = refl

new-started : (x : NetKey) → x.started ≡ true → (key : Bytes) (nets : List NetKey) → has_net x.key nets ≡ false
    → started key (nets ++ x ∷ []) ≡ (started key nets || same_key x.key key)
new-started x e key [] h = one (same_key x.key key)
  where
    one : (b : Bool) → row_is_started (cond b (Some x) None) ≡ (false || b)
    one true = e
    one false = refl
new-started x e key (r ∷ rs) h =
    more (same_key r.key key) refl (new-started x e key rs (or-parts (same_key r.key x.key) (has_net x.key rs) h).1)
  where
    more : (b : Bool) → same_key r.key key ≡ b → started key (rs ++ x ∷ []) ≡ (started key rs || same_key x.key key)
        → row_is_started (cond b (Some r) (find (at_key key) (rs ++ x ∷ [])))
        ≡ (row_is_started (cond b (Some r) (find (at_key key) rs)) || same_key x.key key)
    more true f g =
        or-no r.started (same_key x.key key)
        (other-key r x key (same_key x.key key) refl f (or-parts (same_key r.key x.key) (has_net x.key rs) h).0)
    more false f g = g

started-of : (k key : Bytes) (nets : List NetKey) → started k nets ≡ true → (b : Bool) → same_key k key ≡ b
    → started key nets ≡ (started key nets || b)
started-of k key nets e true f =
    or-first (started key nets) true (ap (λ x. started x nets) (sym (same_key-eq k key f)) ∙ e)
started-of k key nets e false f = or-nothing (started key nets)

given-by : (b : Bool) (x : NetKey) (key : Bytes) (nets : List NetKey) → x.started ≡ true → has_net x.key nets ≡ b
    → (b ≡ true → started x.key nets ≡ true) → started key (cond b nets (nets ++ x ∷ []))
    ≡ (started key nets || same_key x.key key)
given-by true x key nets e h k = started-of x.key key nets (k refl) (same_key x.key key) refl
given-by false x key nets e h k = new-started x e key nets h

-- a row that is started becomes started again
again-row : (f : NetKey → NetKey) → ((r : NetKey) → (f r).started ≡ true) → (a key : Bytes) (nets : List NetKey)
    → started a nets ≡ true → (o : Option NetKey) → find (at_key key) nets ≡ o
    → row_is_started (option_map (λ r. cond (same_key r.key a) (f r) r) o) ≡ row_is_started o
again-row f k a key nets s None e = refl
again-row f k a key nets s (Some r) e = by-test (same_key r.key a) refl
  where
    same : same_key r.key a ≡ true → r.started ≡ true
    same b = ap row_is_started (sym e) ∙ ap (λ x. started x nets)
        (sym (same_key-eq r.key key (found-key key nets r e)) ∙ same_key-eq r.key a b) ∙ s

    by-test : (b : Bool) → same_key r.key a ≡ b → (cond b (f r) r).started ≡ r.started
    by-test true b = k r ∙ sym (same b)
    by-test false b = refl

pub key-cond : (f : NetKey → NetKey) → ((r : NetKey) → (f r).key ≡ r.key) → (b : Bool) (r : NetKey)
    → (cond b (f r) r).key ≡ r.key
key-cond f k true r = k r
key-cond f k false r = refl

found-at : (f : NetKey → NetKey) → ((r : NetKey) → (f r).key ≡ r.key) → (a key : Bytes) (nets : List NetKey)
    → find (at_key key) (at_net a f nets) ≡ option_map (λ r. cond (same_key r.key a) (f r) r) (find (at_key key) nets)
found-at f k a key nets = find-map (at_key key) (λ r. cond (same_key r.key a) (f r) r)
    (λ r. ap (λ x. same_key x key) (key-cond f k (same_key r.key a) r)) nets

again-at : (v : ℕ) (a key : Bytes) (nets : List NetKey) → started a nets ≡ true
    → started key (at_net a (reserved v) nets) ≡ started key nets
again-at v a key nets s = ap row_is_started (found-at (reserved v) (λ r. refl) a key nets) ∙ again-row (reserved v)
    (λ r. refl) a key nets s (find (at_key key) nets) refl

pub reserve-same : (v : ℕ) (o : Option Bytes) (key : Bytes) (nets : List NetKey)
    → ((a : Bytes) → o ≡ Some a → started a nets ≡ true) → started key (of_active (reserved v) o nets)
    ≡ started key nets
reserve-same v None key nets k = refl
reserve-same v (Some a) key nets k = again-at v a key nets (k a refl)

-- a row starts
any-find : (key : Bytes) (nets : List NetKey) → find (at_key key) nets ≡ None → has_net key nets ≡ false
any-find key [] e = refl
any-find key (r ∷ rs) e = by-test (same_key r.key key) e (any-find key rs)
  where
    by-test : (b : Bool) → cond b (Some r) (find (at_key key) rs) ≡ None
        → (find (at_key key) rs ≡ None → has_net key rs ≡ false) → (b || has_net key rs) ≡ false
    by-test true e k = absurd (none-some r (sym e))
    by-test false e k = k e

start-row : (f : NetKey → NetKey) → ((r : NetKey) → (f r).started ≡ true) → (k key : Bytes) (nets : List NetKey)
    → has_net k nets ≡ true → (o : Option NetKey) → find (at_key key) nets ≡ o
    → row_is_started (option_map (λ r. cond (same_key r.key k) (f r) r) o) ≡ (row_is_started o || same_key k key)
start-row f s k key nets h None e = or-no false (same_key k key) (none (same_key k key) refl)
  where
    none : (b : Bool) → same_key k key ≡ b → b ≡ false
    none true b =
        absurd (false≢true (sym (any-find key nets e) ∙ ap (λ x. has_net x nets) (sym (same_key-eq k key b)) ∙ h))
    none false b = refl
start-row f s k key nets h (Some r) e = by-test (same_key r.key k) refl
  where
    same : r.key ≡ key
    same = same_key-eq r.key key (found-key key nets r e)

    by-test : (b : Bool) → same_key r.key k ≡ b → (cond b (f r) r).started ≡ (r.started || same_key k key)
    by-test true b =
        s r ∙ or-yes r.started (same_key k key)
        (ap (λ x. same_key x key) (sym (same_key-eq r.key k b) ∙ same) ∙ same_key-refl key)
    by-test false b = or-no r.started (same_key k key) (apart (same_key k key) refl b)
      where
        apart : (x : Bool) → same_key k key ≡ x → same_key r.key k ≡ false → x ≡ false
        apart true q b =
            absurd (false≢true (sym b ∙ ap (λ y. same_key y k) (same ∙ sym (same_key-eq k key q)) ∙ same_key-refl k))
        apart false q b = refl

pub start-at : (v : ℕ) (k key : Bytes) (nets : List NetKey) → has_net k nets ≡ true
    → started key (at_net k (started_at v) nets) ≡ (started key nets || same_key k key)
start-at v k key nets h = ap row_is_started (found-at (started_at v) (λ r. refl) k key nets) ∙ start-row
    (started_at v) (λ r. refl) k key nets h (find (at_key key) nets) refl

-- What a line needs of its node's state

unfoldable pub StartFits : Line → NodeState → Type 0
StartFits (GivenNet n k q) s = has_net k s.nets ≡ true → started k s.nets ≡ true
StartFits (Changed e n (Reserve Nwk v)) s = (a : Bytes) → s.active ≡ Some a → started a s.nets ≡ true
StartFits (Changed e n (Start k v)) s = has_net k s.nets ≡ true
StartFits _ s = Unit {0}

abbrev pub LineStarts : List Line → Line → Type 0
LineStarts h l = StartFits l (state_of h (speaker l))

-- the key that a line starts
abbrev starting : Bytes → Line → Bool
starting key (GivenNet n k q) = same_key k key
starting key (Changed e n (Start k v)) = same_key k key
starting key _ = false

pub plain-row : (f : NetKey → NetKey) → ((r : NetKey) → (f r).key ≡ r.key)
    → ((r : NetKey) → (f r).started ≡ r.started) → KeepsRow f
plain-row f k s = record { key = k; start = s }

stays : (a b : Bool) → a ≡ b → a ≡ (b || false)
stays a b e = e ∙ or-nothing b

pub started-moved : (key : Bytes) (m : Move) (s : NodeState) → started key (moved m s).nets ≡ started key s.nets
started-moved key (Draw k) s = refl
started-moved key (DropNet k) s = started-at dropped_net (plain-row dropped_net (λ r. refl) (λ r. refl)) key k s.nets
started-moved key (DropLink p k) s = refl
started-moved key (Install k q) s = new-by (has_net k s.nets) (new_net k q) refl key s.nets
started-moved key (Active k) s = refl
started-moved key (Row p k t) s = refl
started-moved key (Pair x y k) s = refl
started-moved key (Became g) s = refl
started-moved key (Live d) s = refl
started-moved key (Removed d) s = refl
started-moved key (Roll b) s = refl
started-moved key (Told d) s = refl
started-moved key (Untold d) s = refl

started-applied : (key : Bytes) (number n : ℕ) (e : Edit) (s : NodeState) → StartFits (Changed number n e) s
    → started key (applied e s).nets ≡ (started key s.nets || starting key (Changed number n e))
unfolding applied StartFits
started-applied key number n (Reserve Nwk v) s f = stays _ (started key s.nets) (reserve-same v s.active key s.nets f)
started-applied key number n (Reserve Aps v) s f = or-nothing (started key s.nets)
started-applied key number n (Floor Nwk k p v) s f =
    stays _ (started key s.nets)
    (started-at (net_floor p v) (plain-row (net_floor p v) (λ r. refl) (λ r. refl)) key k s.nets)
started-applied key number n (Floor Aps k p v) s f = or-nothing (started key s.nets)
started-applied key number n (Start k v) s f = start-at v k key s.nets f
started-applied key number n (Moved m) s f = stays _ (started key s.nets) (started-moved key m s)

pub started-heard : (key : Bytes) (layer : Layer) (k : Bytes) (sender counter : ℕ) (s : NodeState)
    → started key (after_hearing layer k sender counter s).nets ≡ started key s.nets
unfolding after_hearing
started-heard key Nwk k sender counter s = started-at (net_kept sender (counter + 1))
    (plain-row (net_kept sender (counter + 1)) (λ r. refl) (λ r. refl)) key k s.nets
started-heard key Aps k sender counter s = refl

pub started-sealed : (key : Bytes) (layer : Layer) (t : Term) (s : NodeState) → started key (sealed_at layer t s).nets
    ≡ started key s.nets
started-sealed key Nwk t s =
    started-at (next_at (t.counter + 1)) (plain-row (next_at (t.counter + 1)) (λ r. refl) (λ r. refl)) key t.base
    s.nets
started-sealed key Aps t s = refl

pub declared-row : (v : ℕ) → KeepsRow (declared_at v)
declared-row v = only-row (λ r. record r { limit = max r.limit v; next = max r.next v }) (λ r. r.started)
    (plain-row (λ r. record r { limit = max r.limit v; next = max r.next v }) (λ r. refl) (λ r. refl))

started-after : (key : Bytes) (l : Line) (s : NodeState) → StartFits l s → started key (after l s).nets
    ≡ (started key s.nets || starting key l)
unfolding after with_given_net with_given_link with_declared after_sealing after_accepting after_boot StartFits
started-after key (GivenNet n k q) s f = given-by (has_net k s.nets) (given_net s.declared k q) key s.nets refl refl f
started-after key (Counter n Nwk v) s f =
    stays _ (started key s.nets) (started-map (declared_at v) (declared-row v) key s.nets)
started-after key (Counter n Aps v) s f = or-nothing (started key s.nets)
started-after key (Changed e n edit) s f = started-applied key e n edit s f
started-after key (Accept e n t) s f =
    stays _ (started key s.nets) (started-heard key t.layer t.base t.source t.counter s)
started-after key (Seal e n t) s f = stays _ (started key s.nets) (started-sealed key t.layer t s)
started-after key (Boot e n) s f =
    stays _ (started key s.nets) (started-map booted_net (plain-row booted_net (λ r. refl) (λ r. refl)) key s.nets)
started-after key _ s f = or-nothing (started key s.nets)

-- Over lines

abbrev pub Bridged : List Line → Type 0
Bridged h = (n : ℕ) (key : Bytes) → is_started_key (state_of h n) key ≡ has_started h n key

any-last : (test : Line → Bool) (h : List Line) (l : Line) → list_any test (h ++ l ∷ []) ≡ (list_any test h || test l)
any-last test [] l = sym (or-nothing (test l))
any-last test (x ∷ h) l = ap (λ b. test x || b) (any-last test h l) ∙ or-assoc (test x) (list_any test h) (test l)
  where
    or-assoc : (a b c : Bool) → (a || (b || c)) ≡ ((a || b) || c)
    or-assoc true b c = refl
    or-assoc false b c = refl

own-starting : (n : ℕ) (key : Bytes) (l : Line) (b : Bool) → nat_eq (speaker l) n ≡ b → starts_key n key l
    ≡ (b && starting key l)
unfolding speaker
own-starting n key (GivenNet m k q) b e = ap (λ x. x && same_key k key) e
own-starting n key (Changed ev m (Start k v)) b e = ap (λ x. x && same_key k key) e
own-starting n key (Changed ev m (Reserve layer v)) b e = and-none b
own-starting n key (Changed ev m (Floor layer k p v)) b e = and-none b
own-starting n key (Changed ev m (Moved mv)) b e = and-none b
own-starting n key (Declared p) b e = and-none b
own-starting n key (GivenLink m p k) b e = and-none b
own-starting n key (Counter m layer v) b e = and-none b
own-starting n key (Commit ev m) b e = and-none b
own-starting n key (Accept ev m t) b e = and-none b
own-starting n key (Refuse ev m place reason) b e = and-none b
own-starting n key (Seal ev m t) b e = and-none b
own-starting n key (Forge ev t) b e = and-none b
own-starting n key (Send ev m frame bytes) b e = and-none b
own-starting n key (Inject ev frame bytes) b e = and-none b
own-starting n key (Stopped ev m) b e = and-none b
own-starting n key (DownReset ev m) b e = and-none b
own-starting n key (DownDisk ev m) b e = and-none b
own-starting n key (Boot ev m) b e = and-none b
own-starting n key (Dump ev m bytes) b e = and-none b
own-starting n key (End events seals accepts refusals ideal private) b e = and-none b

heard-started : (n : ℕ) (key : Bytes) (l : Line) (s : NodeState) (b : Bool) → (b ≡ true → StartFits l s)
    → started key (cond b (after l s) s).nets ≡ (started key s.nets || (b && starting key l))
heard-started n key l s true f = started-after key l s (f refl)
heard-started n key l s false f = or-nothing (started key s.nets)

pub bridged-snoc : (h : List Line) (l : Line) → LineStarts h l → Bridged h → Bridged (h ++ l ∷ [])
unfolding has_started heard_line
bridged-snoc h l f b n key =
    ap (λ s. is_started_key s key) (state-snoc h l n)
    ∙ heard-started n key l (state_of h n) (nat_eq (speaker l) n)
    (λ e. subst (λ m. StartFits l (state_of h m)) (eqb-true (speaker l) n e) f)
    ∙ ap (λ x. x || (nat_eq (speaker l) n && starting key l)) (b n key)
    ∙ ap (λ x. list_any (starts_key n key) h || x) (sym (own-starting n key l (nat_eq (speaker l) n) refl))
    ∙ sym (any-last (starts_key n key) h l)

pub bridged-lines : (h ls : List Line) → Each LineStarts h ls → Bridged h → Bridged (h ++ ls)
bridged-lines h [] f b = subst Bridged (sym (append-nil' h)) b
bridged-lines h (l ∷ ls) f b = subst Bridged (append_assoc h (l ∷ []) ls)
    (bridged-lines (h ++ l ∷ []) ls f.1 (bridged-snoc h l f.0 b))

-- Lines that start nothing

unfoldable pub Quiet : Line → Type 0
Quiet (GivenNet n k q) = ⊥
Quiet (Changed e n edit) = ⊥
Quiet _ = Unit {0}

quiet-starts : (l : Line) → Quiet l → (s : NodeState) → StartFits l s
unfolding Quiet StartFits
quiet-starts (GivenNet n k q) f s = absurd f
quiet-starts (Changed e n edit) f s = absurd f
quiet-starts _ f s = tt

pub quiet-lines : (h ls : List Line) → AllByRecursion Quiet ls → Each LineStarts h ls
quiet-lines h [] a = tt
quiet-lines h (l ∷ ls) a = (quiet-starts l a.0 (state_of h (speaker l)), quiet-lines (h ++ l ∷ []) ls a.1)

-- The edits of an answer

abbrev pub EditsStart : ℕ → ℕ → NodeState → List Edit → Type 0
EditsStart number n s [] = Unit {0}
EditsStart number n s (e ∷ es) = StartFits (Changed number n e) s × EditsStart number n (applied e s) es

pub edit-lines : (number n : ℕ) (h : List Line) (es : List Edit) → EditsStart number n (state_of h n) es
    → Each LineStarts h (map (Changed number n) es)
unfolding speaker
edit-lines number n h [] f = tt
edit-lines number n h (e ∷ es) f = (
  f.0,
  edit-lines number n (h ++ Changed number n e ∷ []) es
      (subst (λ s. EditsStart number n s es)
      (sym (state-snoc h (Changed number n e) n ∙ changed-line number n e (state_of h n))) f.1),
)

edits-append : (number n : ℕ) (s : NodeState) (xs ys : List Edit) → EditsStart number n s xs
    → EditsStart number n (applied_all xs s) ys → EditsStart number n s (xs ++ ys)
unfolding applied_all
edits-append number n s [] ys f g = g
edits-append number n s (x ∷ xs) ys f g = (f.0, edits-append number n (applied x s) xs ys f.1 g)

-- the active row has started
abbrev pub ActiveStarted : NodeState → Type 0
ActiveStarted s = (a : Bytes) → s.active ≡ Some a → started a s.nets ≡ true

reserve-by : (number n : ℕ) (s : NodeState) (o : Option ℕ) → ActiveStarted s
    → EditsStart number n s (reserve_list Nwk o)
unfolding StartFits
reserve-by number n s (Some v) active = (active, tt)
reserve-by number n s None active = tt

aps-reserve : (number n : ℕ) (s : NodeState) (o : Option ℕ) → EditsStart number n s (reserve_list Aps o)
unfolding StartFits
aps-reserve number n s None = tt
aps-reserve number n s (Some v) = (tt, tt)

floors-start : (number n : ℕ) (s : NodeState) (es : List Edit) → AllByRecursion IsFloor es → EditsStart number n s es
unfolding StartFits
floors-start number n s [] a = tt
floors-start number n s (Floor layer key sender value ∷ es) a =
    (tt, floors-start number n (applied (Floor layer key sender value) s) es a.1)
floors-start number n s (Reserve layer limit ∷ es) a = absurd a.0
floors-start number n s (Start key value ∷ es) a = absurd a.0
floors-start number n s (Moved m ∷ es) a = absurd a.0

-- rows stay there

abbrev pub Within : List NetKey → List NetKey → Type 0
Within xs ys = (k : Bytes) → has_net k xs ≡ true → has_net k ys ≡ true

pub has-map : (f : NetKey → NetKey) → ((r : NetKey) → (f r).key ≡ r.key) → (k : Bytes) (nets : List NetKey)
    → has_net k (map f nets) ≡ has_net k nets
has-map f same k [] = refl
has-map f same k (r ∷ rs) = ap (λ x. same_key x k || has_net k (map f rs)) (same r) ∙ ap (λ b. same_key r.key k || b)
    (has-map f same k rs)

pub has-at : (f : NetKey → NetKey) → ((r : NetKey) → (f r).key ≡ r.key) → (a k : Bytes) (nets : List NetKey)
    → has_net k (at_net a f nets) ≡ has_net k nets
has-at f same a k nets = has-map (λ r. cond (same_key r.key a) (f r) r) (λ r. key-cond f same (same_key r.key a) r) k
    nets

or-left : (a b : Bool) → a ≡ true → (a || b) ≡ true
or-left true b e = refl
or-left false b e = absurd (false≢true e)

or-right : (a b : Bool) → b ≡ true → (a || b) ≡ true
or-right true b e = refl
or-right false b e = e

or-cases : (a b : Bool) → (a || b) ≡ true → (a ≡ true) ⊎ (b ≡ true)
or-cases true b e = inl refl
or-cases false b e = inr e

has-more : (k : Bytes) (nets more : List NetKey) → has_net k nets ≡ true → has_net k (nets ++ more) ≡ true
has-more k [] more e = absurd (false≢true e)
has-more k (r ∷ rs) more e = ⊎_elim (λ a. or-left (same_key r.key k) (has_net k (rs ++ more)) a)
    (λ a. or-right (same_key r.key k) (has_net k (rs ++ more)) (has-more k rs more a))
    (or-cases (same_key r.key k) (has_net k rs) e)

has-last : (x : NetKey) (nets : List NetKey) → has_net x.key (nets ++ x ∷ []) ≡ true
has-last x [] = or-left (same_key x.key x.key) false (same_key-refl x.key)
has-last x (r ∷ rs) = or-right (same_key r.key x.key) (has_net x.key (rs ++ x ∷ [])) (has-last x rs)

has-either : (k : Bytes) (x : NetKey) (nets : List NetKey) → has_net k (nets ++ x ∷ []) ≡ true
    → (has_net k nets ≡ true) ⊎ (x.key ≡ k)
has-either k x [] e = ⊎_elim (λ a. inr (same_key-eq x.key k a)) (λ a. absurd (false≢true a))
    (or-cases (same_key x.key k) false e)
has-either k x (r ∷ rs) e = ⊎_elim (λ a. inl (or-left (same_key r.key k) (has_net k rs) a))
    (λ a. ⊎_elim (λ b. inl (or-right (same_key r.key k) (has_net k rs) b)) (λ b. inr b) (has-either k x rs a))
    (or-cases (same_key r.key k) (has_net k (rs ++ x ∷ [])) e)

grown-has : (b : Bool) (x : NetKey) (k : Bytes) (nets : List NetKey) → has_net k nets ≡ true
    → has_net k (cond b nets (nets ++ x ∷ [])) ≡ true
grown-has true x k nets e = e
grown-has false x k nets e = has-more k nets (x ∷ []) e

pub grown-new : (b : Bool) (x : NetKey) (nets : List NetKey) → has_net x.key nets ≡ b
    → has_net x.key (cond b nets (nets ++ x ∷ [])) ≡ true
grown-new true x nets e = e
grown-new false x nets e = has-last x nets

grown-within : (a b : Bool) (x : NetKey) (xs ys : List NetKey) → has_net x.key ys ≡ b → Within xs ys
    → Within (cond a xs (xs ++ x ∷ [])) (cond b ys (ys ++ x ∷ []))
grown-within true b x xs ys e w k h = grown-has b x k ys (w k h)
grown-within false b x xs ys e w k h = ⊎_elim (λ p. grown-has b x k ys (w k p))
    (λ p. subst (λ j. has_net j (cond b ys (ys ++ x ∷ [])) ≡ true) p (grown-new b x ys e)) (has-either k x xs h)

has-active : (f : NetKey → NetKey) → ((r : NetKey) → (f r).key ≡ r.key)
    → (o : Option Bytes) (k : Bytes) (nets : List NetKey) → has_net k (of_active f o nets) ≡ has_net k nets
has-active f same None k nets = refl
has-active f same (Some a) k nets = has-at f same a k nets

-- the moves of a plan
starts-none : (number n : ℕ) (k : Counting) (s : NodeState) (ms : List Move) → AllByRecursion NoActive ms
    → EditsStart number n s (edits_by k ms)
unfolding StartFits
starts-none number n k s [] a = tt
starts-none number n k s (Active key ∷ ms) a = absurd a.0
starts-none number n k s (Draw key ∷ ms) a = (tt, starts-none number n k (applied (Moved (Draw key)) s) ms a.1)
starts-none number n k s (DropNet key ∷ ms) a = (tt, starts-none number n k (applied (Moved (DropNet key)) s) ms a.1)
starts-none number n k s (DropLink p key ∷ ms) a =
    (tt, starts-none number n k (applied (Moved (DropLink p key)) s) ms a.1)
starts-none number n k s (Install key q ∷ ms) a =
    (tt, starts-none number n k (applied (Moved (Install key q)) s) ms a.1)
starts-none number n k s (Row p key t ∷ ms) a = (tt, starts-none number n k (applied (Moved (Row p key t)) s) ms a.1)
starts-none number n k s (Pair x y key ∷ ms) a = (tt, starts-none number n k (applied (Moved (Pair x y key)) s) ms a.1)
starts-none number n k s (Became g ∷ ms) a = (tt, starts-none number n k (applied (Moved (Became g)) s) ms a.1)
starts-none number n k s (Live d ∷ ms) a = (tt, starts-none number n k (applied (Moved (Live d)) s) ms a.1)
starts-none number n k s (Removed d ∷ ms) a = (tt, starts-none number n k (applied (Moved (Removed d)) s) ms a.1)
starts-none number n k s (Roll b ∷ ms) a = (tt, starts-none number n k (applied (Moved (Roll b)) s) ms a.1)
starts-none number n k s (Told d ∷ ms) a = (tt, starts-none number n k (applied (Moved (Told d)) s) ms a.1)
starts-none number n k s (Untold d ∷ ms) a = (tt, starts-none number n k (applied (Moved (Untold d)) s) ms a.1)

start-then : (number n : ℕ) (s : NodeState) (key : Bytes) (o : Option ℕ) (rest : List Edit) → has_net key s.nets
    ≡ true → ((x : NodeState) → EditsStart number n x rest) → EditsStart number n s (start_edit key o ++ rest)
unfolding StartFits
start-then number n s key None rest h k = k s
start-then number n s key (Some v) rest h k = (h, k (applied (Start key v) s))

pub active-nets : (key : Bytes) (s : NodeState) → (applied (Moved (Active key)) s).nets ≡ s.nets
unfolding applied
active-nets key s = refl

pub same-nets : (nets : List NetKey) (m : Move) (s : NodeState) → (moved m s).nets ≡ s.nets → Within nets s.nets
    → Within nets (applied (Moved m) s).nets
unfolding applied
same-nets nets m s e w = subst (λ x. Within nets x) (sym e) w

pub install-nets : (nets : List NetKey) (key : Bytes) (q : ℕ) (s : NodeState) → Within nets s.nets
    → Within (cond (has_net key nets) nets (nets ++ new_net key q ∷ [])) (applied (Moved (Install key q)) s).nets
unfolding applied
install-nets nets key q s w = grown-within (has_net key nets) (has_net key s.nets) (new_net key q) nets s.nets refl w

pub drop-nets : (nets : List NetKey) (key : Bytes) (s : NodeState) → Within nets s.nets
    → Within (at_net key dropped_net nets) (applied (Moved (DropNet key)) s).nets
unfolding applied
drop-nets nets key s w k h = has-at dropped_net (λ r. refl) key k s.nets ∙ w k
    (sym (has-at dropped_net (λ r. refl) key k nets) ∙ h)

moves-start : (number n : ℕ) (k : Counting) (nets : List NetKey) (s : NodeState) (ms : List Move) → MovesFit nets ms
    → Within nets s.nets → EditsStart number n s (edits_by k ms)
unfolding StartFits
moves-start number n k nets s [] f w = tt
moves-start number n k nets s (Active key ∷ ms) f w = (
  tt,
  start-then number n (applied (Moved (Active key)) s) key k.start (edits_by k ms)
      (subst (λ x. has_net key x ≡ true) (sym (active-nets key s)) (w key f.0)) (λ x. starts-none number n k x ms f.1),
)
moves-start number n k nets s (Draw key ∷ ms) f w =
    (tt, moves-start number n k nets (applied (Moved (Draw key)) s) ms f (same-nets nets (Draw key) s refl w))
moves-start number n k nets s (DropNet key ∷ ms) f w = (
  tt,
  moves-start number n k (at_net key dropped_net nets) (applied (Moved (DropNet key)) s) ms f
      (drop-nets nets key s w),
)
moves-start number n k nets s (DropLink p key ∷ ms) f w = (
  tt,
  moves-start number n k nets (applied (Moved (DropLink p key)) s) ms f
      (same-nets nets (DropLink p key) s refl w),
)
moves-start number n k nets s (Install key q ∷ ms) f w = (
  tt,
  moves-start number n k (cond (has_net key nets) nets (nets ++ new_net key q ∷ []))
      (applied (Moved (Install key q)) s) ms f (install-nets nets key q s w),
)
moves-start number n k nets s (Row p key t ∷ ms) f w =
    (tt, moves-start number n k nets (applied (Moved (Row p key t)) s) ms f (same-nets nets (Row p key t) s refl w))
moves-start number n k nets s (Pair x y key ∷ ms) f w =
    (tt, moves-start number n k nets (applied (Moved (Pair x y key)) s) ms f (same-nets nets (Pair x y key) s refl w))
moves-start number n k nets s (Became g ∷ ms) f w =
    (tt, moves-start number n k nets (applied (Moved (Became g)) s) ms f (same-nets nets (Became g) s refl w))
moves-start number n k nets s (Live d ∷ ms) f w =
    (tt, moves-start number n k nets (applied (Moved (Live d)) s) ms f (same-nets nets (Live d) s refl w))
moves-start number n k nets s (Removed d ∷ ms) f w =
    (tt, moves-start number n k nets (applied (Moved (Removed d)) s) ms f (same-nets nets (Removed d) s refl w))
moves-start number n k nets s (Roll b ∷ ms) f w =
    (tt, moves-start number n k nets (applied (Moved (Roll b)) s) ms f (same-nets nets (Roll b) s refl w))
moves-start number n k nets s (Told d ∷ ms) f w =
    (tt, moves-start number n k nets (applied (Moved (Told d)) s) ms f (same-nets nets (Told d) s refl w))
moves-start number n k nets s (Untold d ∷ ms) f w =
    (tt, moves-start number n k nets (applied (Moved (Untold d)) s) ms f (same-nets nets (Untold d) s refl w))

-- reserves and floors leave the rows there
not-move-has : (e : Edit) → Rattle.law_run_counters.proofs.Sections.IsReserve e ⊎ IsFloor e
    → (k : Bytes) (s : NodeState) → has_net k (applied e s).nets ≡ has_net k s.nets
unfolding applied
not-move-has (Reserve Nwk v) q k s = has-active (reserved v) (λ r. refl) s.active k s.nets
not-move-has (Reserve Aps v) q k s = refl
not-move-has (Floor Nwk key p v) q k s = has-at (net_floor p v) (λ r. refl) key k s.nets
not-move-has (Floor Aps key p v) q k s = refl
not-move-has (Start key v) (inl q) k s = absurd q
not-move-has (Start key v) (inr q) k s = absurd q
not-move-has (Moved m) (inl q) k s = absurd q
not-move-has (Moved m) (inr q) k s = absurd q

pub reserves-within : (es : List Edit) → AllByRecursion Rattle.law_run_counters.proofs.Sections.IsReserve es
    → (s : NodeState) → Within s.nets (applied_all es s).nets
unfolding applied_all
reserves-within [] a s k h = h
reserves-within (e ∷ es) a s k h = reserves-within es a.1 (applied e s) k (not-move-has e (inl a.0) k s ∙ h)

pub floors-within : (es : List Edit) → AllByRecursion IsFloor es → (s : NodeState)
    → Within s.nets (applied_all es s).nets
unfolding applied_all
floors-within [] a s k h = h
floors-within (e ∷ es) a s k h = floors-within es a.1 (applied e s) k (not-move-has e (inr a.0) k s ∙ h)

-- the whole
pub edits-start : (number n : ℕ) (s : NodeState) (k : Counting) (p : Plan) → ActiveStarted s
    → MovesFit s.nets (kept_moves s p) → EditsStart number n s (edits_of s k p)
unfolding edits_of
edits-start number n s k p active moves =
    edits-append number n s first (second ++ edits_by k (kept_moves s p))
    (edits-append number n s (reserve_edit k Nwk) (reserve_edit k Aps) (reserve-by number n s (k.reserve Nwk) active)
    (aps-reserve number n (applied_all (reserve_edit k Nwk) s) (k.reserve Aps)))
    (edits-append number n (applied_all first s) second (edits_by k (kept_moves s p))
    (floors-start number n (applied_all first s) second (are-floors k p.accepts))
    (moves-start number n k s.nets (applied_all second (applied_all first s)) (kept_moves s p) moves
    (λ j h. floors-within second (are-floors k p.accepts) (applied_all first s) j
    (reserves-within first (Rattle.law_run_counters.proofs.Sections.are-reserves k) s j h))))
  where
    first : List Edit
    first = reserve_edit k Nwk ++ reserve_edit k Aps

    second : List Edit
    second = flat_map (floor_edit k) p.accepts
