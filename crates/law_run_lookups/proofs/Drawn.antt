-- No row of the centre has a key that is still to be drawn.
use Rattle.std.proofs.Common.{◌≡◌, ℕ, ◌<◌, ◌≤◌, ◌+◌, Bool, true, false, cond, List, [], ◌∷◌, ◌++◌, map, filter, Option, Some, None, flat_map, slice_get, fold, sym, ap, ◌∙◌, subst, arith, le_refl, lt_irrefl, inl, inr, ⊎_elim}
use Rattle.std.proofs.lemmas.Bool.{false≢true}
use Rattle.std.proofs.lemmas.List.Sums.{fold-append}
use Rattle.std.specs.List.{AllByRecursion}
use Rattle.zb_model.specs.Data.{Bytes, Term, Edit, Reserve, Floor, Start, Moved, Move, Draw, DropNet, DropLink, Install, Active, Row, Pair, Became, Live, Removed, Roll, Told, Untold, Task, SayTo, TellTo, DoKnock, DoRejoin, DoTimer, AskFor, HasChild, DoProvision, DoRemove, DoRoll, DoSwitch, DoAgain, DoShare, Received}
use Rattle.zb_model.specs.Lines.{Line, Changed, Accept, Seal, Boot}
use Rattle.zb_model.specs.State.{NetKey, LinkKey, NodeState, is_centre, is_live, applied, applied_all, after_accepting, after_sealing, after_boot}
use Rattle.zb_model.specs.Rules.{Setting, drop_link, drop_partner}
use Rattle.zb_model.specs.Readings.{draw_line, draws_used, after}
use Rattle.zb_model.specs.Answer.{Counting, changes, move_edits, start_edit}
use Rattle.zb_model.specs.Play.{Schedule, Own, supply}
use Rattle.law_run.specs.KeysApart.{KeysApart, EntersOwn, IsNoneOf}
use Rattle.law_run.proofs.FreshLines.{all-append}
use Rattle.law_run.proofs.EventStates.{TaskOf}
use Rattle.law_run.proofs.LockoutDeeds.{HasRow, HasNet, IdleMove, Quiet, draw_of, EnteredBy, Deed, member, nothing, quiet, verifies, rolls, offers, pairs, enters, removes}
use Rattle.law_run.proofs.LockoutKept.{used-less}
use Rattle.law_run.proofs.LockoutMoves.{new-by, none-at, places-one, no-key}
use Rattle.law_run.proofs.LockoutRows.{OldLink, SameNet, RowOf, NetOf, after-back, nets-after-back, applied-back, nets-applied-back}
use Rattle.law_run_lookups.proofs.Alike.{kept_edits}

-- no row has the key
pub record Lacks (k : Bytes) (s : NodeState) : Type 0 where
  pub nets : HasNet s k → ⊥
  pub links : (p : ℕ) → HasRow s p k → ⊥

-- changes that don't bring it
abbrev pub BringsOther : Bytes → Move → Type 0
BringsOther k (Install j q) = j ≡ k → ⊥
BringsOther k (Row p j t) = j ≡ k → ⊥
BringsOther k _ = Unit {0}

abbrev pub BringsNone : Bytes → Edit → Type 0
BringsNone k (Moved m) = BringsOther k m
BringsNone k _ = Unit {0}

no-net : (k : Bytes) (e : Edit) → BringsNone k e → (y : NetKey) → y.key ≡ k → NetOf (Changed 0 0 e) y → ⊥
no-net k (Moved (Install j q)) b y e f = b (f ∙ e)
no-net k (Reserve l v) b y e f = f
no-net k (Floor l j p v) b y e f = f
no-net k (Start j v) b y e f = f
no-net k (Moved (Draw j)) b y e f = f
no-net k (Moved (DropNet j)) b y e f = f
no-net k (Moved (DropLink p j)) b y e f = f
no-net k (Moved (Active j)) b y e f = f
no-net k (Moved (Row p j t)) b y e f = f
no-net k (Moved (Pair u v j)) b y e f = f
no-net k (Moved (Became g)) b y e f = f
no-net k (Moved (Live d)) b y e f = f
no-net k (Moved (Removed d)) b y e f = f
no-net k (Moved (Roll x)) b y e f = f
no-net k (Moved (Told d)) b y e f = f
no-net k (Moved (Untold d)) b y e f = f

no-row : (k : Bytes) (e : Edit) → BringsNone k e → (y : LinkKey) → y.key ≡ k → RowOf (Changed 0 0 e) y → ⊥
no-row k (Moved (Row p j t)) b y e f = b (f.1 ∙ e)
no-row k (Reserve l v) b y e f = f
no-row k (Floor l j p v) b y e f = f
no-row k (Start j v) b y e f = f
no-row k (Moved (Draw j)) b y e f = f
no-row k (Moved (DropNet j)) b y e f = f
no-row k (Moved (DropLink p j)) b y e f = f
no-row k (Moved (Active j)) b y e f = f
no-row k (Moved (Install j q)) b y e f = f
no-row k (Moved (Pair u v j)) b y e f = f
no-row k (Moved (Became g)) b y e f = f
no-row k (Moved (Live d)) b y e f = f
no-row k (Moved (Removed d)) b y e f = f
no-row k (Moved (Roll x)) b y e f = f
no-row k (Moved (Told d)) b y e f = f
no-row k (Moved (Untold d)) b y e f = f

old-net : (k : Bytes) (s : NodeState) → Lacks k s → (y : NetKey) → y.key ≡ k → SameNet s.nets y → ⊥
old-net k s a y e o = a.nets (record { row = o.row; among = o.among; key = o.key ∙ e })

old-row : (k : Bytes) (s : NodeState) → Lacks k s → (y : LinkKey) → y.key ≡ k → OldLink s.links y → ⊥
old-row k s a y e o = a.links y.partner (record { row = o.row; among = o.among; partner = o.partner; key = o.key ∙ e })

lacks-edit : (k : Bytes) (e : Edit) → BringsNone k e → (s : NodeState) → Lacks k s → Lacks k (applied e s)
lacks-edit k e b s a = record {
  nets = λ h. ⊎_elim (old-net k s a h.row h.key) (no-net k e b h.row h.key) (nets-applied-back 0 0 e s h.row h.among);
  links = λ p h. ⊎_elim (old-row k s a h.row h.key) (no-row k e b h.row h.key) (applied-back 0 0 e s h.row h.among);
}

pub lacks-edits : (k : Bytes) (es : List Edit) → AllByRecursion (BringsNone k) es → (s : NodeState) → Lacks k s
    → Lacks k (applied_all es s)
unfolding applied_all
lacks-edits k [] b s a = a
lacks-edits k (e ∷ es) b s a = lacks-edits k es b.1 (applied e s) (lacks-edit k e b.0 s a)

-- lines that bring nothing
pub lacks-after : (k : Bytes) (l : Line) → ((y : NetKey) → y.key ≡ k → NetOf l y → ⊥)
    → ((y : LinkKey) → y.key ≡ k → RowOf l y → ⊥) → (s : NodeState) → Lacks k s → Lacks k (after l s)
lacks-after k l b c s a = record {
  nets = λ h. ⊎_elim (old-net k s a h.row h.key) (b h.row h.key) (nets-after-back l s h.row h.among);
  links = λ p h. ⊎_elim (old-row k s a h.row h.key) (c h.row h.key) (after-back l s h.row h.among);
}

pub lacks-accepted : (k : Bytes) (t : Term) (s : NodeState) → Lacks k s → Lacks k (after_accepting t s)
unfolding after
lacks-accepted k t s a = lacks-after k (Accept 0 0 t) (λ y e f. f) (λ y e f. f) s a

pub lacks-sealed : (k : Bytes) (t : Term) (s : NodeState) → Lacks k s → Lacks k (after_sealing t s)
unfolding after
lacks-sealed k t s a = lacks-after k (Seal 0 0 t) (λ y e f. f) (λ y e f. f) s a

pub lacks-booted : (k : Bytes) (s : NodeState) → Lacks k s → Lacks k (after_boot s)
unfolding after
lacks-booted k s a = lacks-after k (Boot 0 0) (λ y e f. f) (λ y e f. f) s a

-- the changes of moves
start-brings : (k key : Bytes) (o : Option ℕ) → AllByRecursion (BringsNone k) (start_edit key o)
start-brings k key None = tt
start-brings k key (Some v) = (tt, tt)

move-brings : (k : Bytes) (kk : Counting) (m : Move) → BringsOther k m
    → AllByRecursion (BringsNone k) (move_edits kk m)
move-brings k kk (Active key) a = (tt, start-brings k key kk.start)
move-brings k kk (Draw key) a = (tt, tt)
move-brings k kk (DropNet key) a = (tt, tt)
move-brings k kk (DropLink p key) a = (tt, tt)
move-brings k kk (Install key n) a = (a, tt)
move-brings k kk (Row p key t) a = (a, tt)
move-brings k kk (Pair x y key) a = (tt, tt)
move-brings k kk (Became g) a = (tt, tt)
move-brings k kk (Live d) a = (tt, tt)
move-brings k kk (Removed d) a = (tt, tt)
move-brings k kk (Roll b) a = (tt, tt)
move-brings k kk (Told d) a = (tt, tt)
move-brings k kk (Untold d) a = (tt, tt)

pub kept-brings : (k : Bytes) (kk : Counting) (s0 : NodeState) (ms : List Move) → AllByRecursion (BringsOther k) ms
    → AllByRecursion (BringsNone k) (kept_edits kk s0 ms)
kept-brings k kk s0 [] a = tt
kept-brings k kk s0 (m ∷ ms) a = by-test (changes s0 m) (kept-brings k kk s0 ms a.1)
  where
    by-test : (b : Bool) → AllByRecursion (BringsNone k) (kept_edits kk s0 ms)
        → AllByRecursion (BringsNone k)
        (flat_map (move_edits kk) (cond b (m ∷ filter (changes s0) ms) (filter (changes s0) ms)))
    by-test true more = all-append (BringsNone k) (move_edits kk m) (kept_edits kk s0 ms) (move-brings k kk m a.0) more
    by-test false more = more

-- How many draws lines use

line-less : (u : ℕ) (l : Line) → u ≤ draw_line u l
line-less u l = ⊎_elim (λ e. subst (λ n. u ≤ n) e (le_refl u)) (λ e. subst (λ n. u ≤ n) e (omega (arith)))
    (used-less u l)

fold-less : (ls : List Line) (u : ℕ) → u ≤ fold draw_line u ls
fold-less [] u = le_refl u
fold-less (l ∷ ls) u = omega (arith, line-less u l, fold-less ls (draw_line u l))

pub used-more : (h ls : List Line) → draws_used h ≤ draws_used (h ++ ls)
unfolding draws_used
used-more h ls = subst (λ n. fold draw_line 0 h ≤ n) (sym (fold-append draw_line 0 h ls))
    (fold-less ls (fold draw_line 0 h))

fold-draws : (number n : ℕ) (xs : List Edit) (k : Bytes) (ys : List Edit) (more : List Line) (u : ℕ) → u
    < fold draw_line u (map (Changed number n) (xs ++ Moved (Draw k) ∷ ys) ++ more)
fold-draws number n [] k ys more u = omega (arith, fold-less (map (Changed number n) ys ++ more) (u + 1))
fold-draws number n (x ∷ xs) k ys more u =
    omega (
      arith,
      line-less u (Changed number n x),
      fold-draws number n xs k ys more
          (draw_line u (Changed number n x)),
    )

-- a draw among changes uses one
pub used-drawn : (h : List Line) (number n : ℕ) (xs : List Edit) (k : Bytes) (ys : List Edit) (more : List Line)
    → draws_used h < draws_used (h ++ (map (Changed number n) (xs ++ Moved (Draw k) ∷ ys) ++ more))
unfolding draws_used
used-drawn h number n xs k ys more =
    subst (λ m. fold draw_line 0 h < m)
    (sym (fold-append draw_line 0 h (map (Changed number n) (xs ++ Moved (Draw k) ∷ ys) ++ more)))
    (fold-draws number n xs k ys more (fold draw_line 0 h))

-- The keys that an answer brings

-- the key that is drawn is the next of the supply
own-none : (w : Schedule) (n : ℕ) (task : Task) → EntersOwn w (Own n task) → (k : Bytes) → draw_of task ≡ Some k → ⊥
own-none w n (DoRoll draw) f k e = no-key k (sym f ∙ e)
own-none w n (Received bytes draw) f k e = no-key k (sym f ∙ e)
own-none w n (SayTo to bytes) f k e = no-key k e
own-none w n (TellTo p bytes) f k e = no-key k e
own-none w n DoKnock f k e = no-key k e
own-none w n DoRejoin f k e = no-key k e
own-none w n DoTimer f k e = no-key k e
own-none w n (AskFor p) f k e = no-key k e
own-none w n (HasChild c r) f k e = no-key k e
own-none w n (DoProvision d key) f k e = no-key k e
own-none w n (DoRemove d v) f k e = no-key k e
own-none w n DoSwitch f k e = no-key k e
own-none w n (DoAgain d) f k e = no-key k e
own-none w n (DoShare d p) f k e = no-key k e

pub next-drawn : (w : Schedule) (h : List Line) (n : ℕ) (task : Task) → TaskOf (EntersOwn w) w h n task → (k : Bytes)
    → draw_of task ≡ Some k → slice_get w.draws (draws_used h) ≡ Some k
unfolding supply
next-drawn w h n task (inl f) k e = absurd (own-none w n task f k e)
next-drawn w h n task (inr (inl f)) k e = sym (ap draw_of f.1) ∙ e
next-drawn w h n task (inr (inr f)) k e = sym (ap draw_of f.3) ∙ e

-- a key that is entered is not in the supply
entered-other : (w : Schedule) (n : ℕ) (task : Task) → EntersOwn w (Own n task) → (p : ℕ) (k : Bytes)
    → EnteredBy task p k → IsNoneOf w.draws k
entered-other w n (DoProvision d key) f p k e = subst (IsNoneOf w.draws) e.1 f.2
entered-other w n (DoRoll draw) f p k e = absurd e
entered-other w n (Received bytes draw) f p k e = absurd e
entered-other w n (SayTo to bytes) f p k e = absurd e
entered-other w n (TellTo q bytes) f p k e = absurd e
entered-other w n DoKnock f p k e = absurd e
entered-other w n DoRejoin f p k e = absurd e
entered-other w n DoTimer f p k e = absurd e
entered-other w n (AskFor q) f p k e = absurd e
entered-other w n (HasChild c r) f p k e = absurd e
entered-other w n (DoRemove d v) f p k e = absurd e
entered-other w n DoSwitch f p k e = absurd e
entered-other w n (DoAgain d) f p k e = absurd e
entered-other w n (DoShare d q) f p k e = absurd e

pub entered-none : (w : Schedule) (h : List Line) (n : ℕ) (task : Task) → TaskOf (EntersOwn w) w h n task
    → (p : ℕ) (k : Bytes) → EnteredBy task p k → IsNoneOf w.draws k
entered-none w h n task (inl f) p k e = entered-other w n task f p k e
entered-none w h n task (inr (inl f)) p k e = absurd (subst (λ t. EnteredBy t p k) f.1 e)
entered-none w h n task (inr (inr f)) p k e = absurd (subst (λ t. EnteredBy t p k) f.3 e)

quiet-brings : (k : Bytes) (s : NodeState) → Lacks k s → (ms : List Move) → AllByRecursion (Quiet s) ms
    → AllByRecursion (BringsOther k) ms
quiet-brings k s a [] q = tt
quiet-brings k s a (Row p j t ∷ ms) q = (λ e. a.links p (subst (λ x. HasRow s p x) e q.0.0), quiet-brings k s a ms q.1)
quiet-brings k s a (Install j n ∷ ms) q = absurd q.0
quiet-brings k s a (Draw j ∷ ms) q = absurd q.0
quiet-brings k s a (Pair x y j ∷ ms) q = absurd q.0
quiet-brings k s a (Live d ∷ ms) q = absurd q.0
quiet-brings k s a (Removed d ∷ ms) q = absurd q.0
quiet-brings k s a (DropNet j ∷ ms) q = (tt, quiet-brings k s a ms q.1)
quiet-brings k s a (DropLink p j ∷ ms) q = (tt, quiet-brings k s a ms q.1)
quiet-brings k s a (Active j ∷ ms) q = (tt, quiet-brings k s a ms q.1)
quiet-brings k s a (Became g ∷ ms) q = (tt, quiet-brings k s a ms q.1)
quiet-brings k s a (Roll b ∷ ms) q = (tt, quiet-brings k s a ms q.1)
quiet-brings k s a (Told d ∷ ms) q = (tt, quiet-brings k s a ms q.1)
quiet-brings k s a (Untold d ∷ ms) q = (tt, quiet-brings k s a ms q.1)

idle-brings : (k : Bytes) (ms more : List Move) → AllByRecursion IdleMove ms → AllByRecursion (BringsOther k) more
    → AllByRecursion (BringsOther k) (ms ++ more)
idle-brings k [] more a b = b
idle-brings k (Row p j t ∷ ms) more a b = absurd a.0
idle-brings k (Install j n ∷ ms) more a b = absurd a.0
idle-brings k (Draw j ∷ ms) more a b = absurd a.0
idle-brings k (Pair x y j ∷ ms) more a b = absurd a.0
idle-brings k (Live d ∷ ms) more a b = absurd a.0
idle-brings k (Removed d ∷ ms) more a b = absurd a.0
idle-brings k (DropNet j ∷ ms) more a b = (tt, idle-brings k ms more a.1 b)
idle-brings k (DropLink p j ∷ ms) more a b = (tt, idle-brings k ms more a.1 b)
idle-brings k (Active j ∷ ms) more a b = (tt, idle-brings k ms more a.1 b)
idle-brings k (Became g ∷ ms) more a b = (tt, idle-brings k ms more a.1 b)
idle-brings k (Roll x ∷ ms) more a b = (tt, idle-brings k ms more a.1 b)
idle-brings k (Told d ∷ ms) more a b = (tt, idle-brings k ms more a.1 b)
idle-brings k (Untold d ∷ ms) more a b = (tt, idle-brings k ms more a.1 b)

drops-bring : (k : Bytes) (rs : List LinkKey) (more : List Move) → AllByRecursion (BringsOther k) more
    → AllByRecursion (BringsOther k) (map drop_link rs ++ more)
drops-bring k [] more a = a
drops-bring k (r ∷ rs) more a = (tt, drops-bring k rs more a)

removes-bring : (k : Bytes) (s : NodeState) (p : ℕ)
    → AllByRecursion (BringsOther k) (drop_partner s p ++ (Removed p ∷ []))
unfolding drop_partner
removes-bring k s p = drops-bring k (filter (Rattle.zb_model.specs.State.is_live_of p) s.links) (Removed p ∷ [])
    (tt, tt)

-- whether moves begin with a draw
abbrev pub Draws : Bytes → List Move → Type 0
Draws k ms = (rest : List Move) × (ms ≡ Draw k ∷ rest)

-- the moves of the centre bring no key that comes later in the supply
pub deed-brings : (w : Schedule) → KeysApart w → (h : List Line) (n : ℕ) (c : Setting) (s : NodeState) (task : Task)
    → TaskOf (EntersOwn w) w h n task → is_centre c.me.role ≡ true → (moves : List Move) → Deed c s task moves
    → (i : ℕ) (k : Bytes) → slice_get w.draws i ≡ Some k → ((j : Bytes) → Draws j moves → draws_used h < i)
    → Lacks k s → AllByRecursion (BringsOther k) moves
deed-brings w apart h n c s task is m moves (member x a d) i k at later lacks = absurd (false≢true (sym x ∙ m))
deed-brings w apart h n c s task is m moves (nothing e) i k at later lacks =
    subst (AllByRecursion (BringsOther k)) (sym e) tt
deed-brings w apart h n c s task is m moves (quiet x a y) i k at later lacks = quiet-brings k s lacks moves a
deed-brings w apart h n c s task is m moves (verifies x p row f a e) i k at later lacks =
    quiet-brings k s lacks moves a
deed-brings w apart h n c s task is m moves (rolls x j q drops new a y e) i k at later lacks =
    subst (AllByRecursion (BringsOther k)) (sym e)
    (tt, idle-brings k drops (Install j q ∷ Roll true ∷ []) a (other, (tt, tt)))
  where
    other : j ≡ k → ⊥
    other f =
        lt_irrefl i
        (subst (λ u. u < i)
        (places-one w.draws (draws_used h) i k apart.draws_differ
        (next-drawn w h n task is j (new-by s (draw_of task) j new).0 ∙ ap (λ z. Some z) f) at)
        (later j (drops ++ (Install j q ∷ Roll true ∷ []), e)))
deed-brings w apart h n c s task is m moves (offers x p j new live e) i k at later lacks =
    subst (AllByRecursion (BringsOther k)) (sym e) (tt, (other, tt))
  where
    other : j ≡ k → ⊥
    other f =
        lt_irrefl i
        (subst (λ u. u < i)
        (places-one w.draws (draws_used h) i k apart.draws_differ
        (next-drawn w h n task is j (new-by s (draw_of task) j new).0 ∙ ap (λ z. Some z) f) at)
        (later j (Row p j Rattle.zb_model.specs.Data.Attribute.Unverified ∷ [], e)))
deed-brings w apart h n c s task is m moves (pairs x u v j new la lb e) i k at later lacks =
    subst (AllByRecursion (BringsOther k)) (sym e) (tt, (tt, tt))
deed-brings w apart h n c s task is m moves (enters x p j by dead none e) i k at later lacks =
    subst (AllByRecursion (BringsOther k)) (sym e)
    (λ f. none-at k w.draws i (subst (IsNoneOf w.draws) f (entered-none w h n task is p j by)) at, (tt, tt))
deed-brings w apart h n c s task is m moves (removes x p live e) i k at later lacks =
    subst (AllByRecursion (BringsOther k)) (sym e) (removes-bring k s p)
