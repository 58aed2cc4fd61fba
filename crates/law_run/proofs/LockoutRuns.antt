-- Whole runs: a removed device obtains no key that is drawn while it is away.
use Rattle.std.proofs.Common.{◌≡◌, ℕ, ◌+◌, Bool, true, false, cond, List, [], ◌∷◌, ◌++◌, map, filter, length, Option, Some, None, flat_map, nat_eq, refl, sym, ap, ◌∙◌, subst, append_assoc, eqb-true, eq-eqb, inl, inr, ⊎_elim}
use Rattle.std.proofs.lemmas.Bool.{false≢true}
use Rattle.std.specs.List.{AllByRecursion}
use Rattle.zb_model.specs.Data.{Bytes, Attribute, Unverified, Term, Move, Draw, DropNet, DropLink, Install, Active, Row, Pair, Became, Live, Removed, Roll, Told, Untold, Edit, Reserve, Floor, Start, Moved, Command, TransportNet, TransportApp, TransportLink, UpdateDevice, RemoveDevice, RequestApp, RequestLink, SwitchKey, Tunnel, VerifyKey, ConfirmKey, Task, Place, Reason}
use Rattle.zb_model.specs.Lines.{Line, GivenLink, Changed, Commit, Accept, Seal}
use Rattle.zb_model.specs.State.{NodeState, is_live}
use Rattle.zb_model.specs.Rules.{Body, Saying, Clear, Secret, Tunnelled, Telling, Leaving, Relayed, Sending, Outcome, Stop, Does, Setting, Plan}
use Rattle.zb_model.specs.Answer.{Answer, Counting, answer_by, plan_of, counting_of, edits_of, move_edits, changes, moves_of, sending_of, may_seal, out_of}
use Rattle.zb_model.specs.Readings.{state_of, air, stations_of}
use Rattle.zb_model.specs.Play.{Armed, NotArmed, StopAfter, FailAt, Calls, stations, setting_of, stands, commit_lines, refuse_lines, send_lines, stored_lines, told_lines, group_of, cut_of, fallen_line}
use Rattle.zb_model.specs.Schedules.{Names}
use Rattle.law_run.proofs.Basics.{append-nil'}
use Rattle.law_run.proofs.FreshLines.{all-append, all-map}
use Rattle.law_run.proofs.Judged.{In}
use Rattle.law_run.proofs.LockoutDeeds.{HasRow, LiveRow, HasNet, HasPair, IsNew, draw_of, Stays, BringsNoRow, Deed, nothing, OutcomeFits, SendFits, BodyFits, CommandFits, is-live}
use Rattle.law_run.proofs.ConfirmsRuns.{Mere, rests-mere, no-stations, start-stations}
use Rattle.law_run.proofs.LockoutRows.{row-forth, row-new, net-forth, in-left, in-right}
use Rattle.law_run.proofs.LockoutKept.{Away, late_line, away, away-snoc, row-back, drawn, drawn-new, Other, Safe, Known, Kept, Ledger, exposed-free, holds-in, safe-cases}
use Rattle.law_run.proofs.LockoutSteps.{Case, centre, InNet, Whole, IsIdle, present-own}
use Rattle.law_run.proofs.LockoutMoves.{Honest, RemovesOther, Goes, GoesOn, goes-none, goes-append, goes-line, goes-cons, goes-idle, moves_lines, map-append, present, TaskFits, Entered, row-is-new, new-rows, new-by, drawn-lines, here-in, no-key}
use Rattle.law_run.proofs.LockoutGroups.{Grounds, is-centre, stored-parts, stored-goes, seals-go, CarryAt, CommandCarries, BodyCarries, SendCarries, out-carries}

-- Readings over several more lines

rows-lines : (h ls : List Line) (c p : ℕ) (k : Bytes) → HasRow (state_of h c) p k → HasRow (state_of (h ++ ls) c) p k
rows-lines h [] c p k r = subst (λ y. HasRow (state_of y c) p k) (sym (append-nil' h)) r
rows-lines h (l ∷ ls) c p k r = subst (λ y. HasRow (state_of y c) p k) (append_assoc h (l ∷ []) ls)
    (rows-lines (h ++ l ∷ []) ls c p k (row-forth h l c p k r))

nets-lines : (h ls : List Line) (c : ℕ) (k : Bytes) → HasNet (state_of h c) k → HasNet (state_of (h ++ ls) c) k
nets-lines h [] c k r = subst (λ y. HasNet (state_of y c) k) (sym (append-nil' h)) r
nets-lines h (l ∷ ls) c k r = subst (λ y. HasNet (state_of y c) k) (append_assoc h (l ∷ []) ls)
    (nets-lines (h ++ l ∷ []) ls c k (net-forth h l c k r))

row-among : (h ls : List Line) (e c p : ℕ) (k : Bytes) (t : Attribute) → In (Changed e c (Moved (Row p k t))) ls
    → HasRow (state_of (h ++ ls) c) p k
unfolding In
row-among h [] e c p k t i = absurd i
row-among h (l ∷ ls) e c p k t (inl q) = subst (λ y. HasRow (state_of y c) p k) (append_assoc h (l ∷ []) ls)
    (rows-lines (h ++ l ∷ []) ls c p k
    (subst (λ y. HasRow (state_of (h ++ y ∷ []) c) p k) (sym q) (row-new h e c p k t)))
row-among h (l ∷ ls) e c p k t (inr i) = subst (λ y. HasRow (state_of y c) p k) (append_assoc h (l ∷ []) ls)
    (row-among (h ++ l ∷ []) ls e c p k t i)

draw-among : (h ls : List Line) (e n : ℕ) (k : Bytes) → In (Changed e n (Moved (Draw k))) ls → In k (drawn (h ++ ls))
unfolding In
draw-among h [] e n k i = absurd i
draw-among h (l ∷ ls) e n k (inl q) = subst (λ y. In k (drawn y)) (append_assoc h (l ∷ []) ls)
    (drawn-lines (h ++ l ∷ []) ls k
    (subst (λ y. In k (drawn (h ++ y ∷ []))) (sym q)
    (drawn-new h (Changed e n (Moved (Draw k))) k (here-in k []))))
draw-among h (l ∷ ls) e n k (inr i) = subst (λ y. In k (drawn y)) (append_assoc h (l ∷ []) ls)
    (draw-among (h ++ l ∷ []) ls e n k i)

abbrev StaysLine : Line → Type 0
StaysLine (Changed e n (Moved m)) = Stays m
StaysLine _ = Unit {0}

abbrev NoRowLine : Line → Type 0
NoRowLine (Changed e n (Moved m)) = BringsNoRow m
NoRowLine (GivenLink n p k) = ⊥
NoRowLine _ = Unit {0}

stays-gone : (d : ℕ) (a : Away) (l : Line) → StaysLine l → a.gone ≡ false → (late_line d a l).gone ≡ false
stays-gone d a (Changed e n (Moved (Live x))) s g = by-test (nat_eq x d)
  where
    by-test : (b : Bool) → (cond b (record { gone = false; keys = [] }) a).gone ≡ false
    by-test true = refl
    by-test false = g
stays-gone d a (Changed e n (Moved (Removed x))) s g = absurd s
stays-gone d a (Changed e n (Moved (Draw k))) s g = by-gone a.gone refl
  where
    by-gone : (b : Bool) → a.gone ≡ b → (cond b (record { gone = true; keys = k ∷ a.keys }) a).gone ≡ false
    by-gone true q = absurd (false≢true (sym g ∙ q))
    by-gone false q = g
stays-gone d a _ s g = g

stays-lines : (d : ℕ) (h ls : List Line) → AllByRecursion StaysLine ls → (away d h).gone ≡ false
    → (away d (h ++ ls)).gone ≡ false
stays-lines d h [] s g = subst (λ y. (away d y).gone ≡ false) (sym (append-nil' h)) g
stays-lines d h (l ∷ ls) s g = subst (λ y. (away d y).gone ≡ false) (append_assoc h (l ∷ []) ls)
    (stays-lines d (h ++ l ∷ []) ls s.1 (ap (λ a. a.gone) (away-snoc d h l) ∙ stays-gone d (away d h) l s.0 g))

no-row-line : (l : Line) (p : ℕ) (k : Bytes) → NoRowLine l → Rattle.law_run.proofs.LockoutKept.LineRow l p k → ⊥
no-row-line (Changed e n (Moved (Row q j t))) p k s r = s
no-row-line (GivenLink n q j) p k s r = s
no-row-line _ p k s r = r

rows-back : (h ls : List Line) (c p : ℕ) (k : Bytes) → AllByRecursion NoRowLine ls → HasRow (state_of (h ++ ls) c) p k
    → HasRow (state_of h c) p k
rows-back h [] c p k s r = subst (λ y. HasRow (state_of y c) p k) (append-nil' h) r
rows-back h (l ∷ ls) c p k s r = ⊎_elim (λ a. a) (λ a. absurd (no-row-line l p k s.0 a.1))
    (row-back h l c p k
    (rows-back (h ++ l ∷ []) ls c p k s.1
    (subst (λ y. HasRow (state_of y c) p k) (sym (append_assoc h (l ∷ []) ls)) r)))

-- the lines of a group's changes

pub record Reads (R : Move → Type 0) (Q : Line → Type 0) : Type 0 where
  pub moved : (number n : ℕ) (m : Move) → R m → Q (Changed number n (Moved m))
  pub mere : (number n : ℕ) (e : Edit) → Mere e → Q (Changed number n e)
  pub commit : (number n : ℕ) → Q (Commit number n)

mere-all : (R : Move → Type 0) (Q : Line → Type 0) → Reads R Q → (number n : ℕ) (es : List Edit)
    → AllByRecursion Mere es → AllByRecursion Q (map (Changed number n) es)
mere-all R Q r number n [] a = tt
mere-all R Q r number n (e ∷ es) a = (r.mere number n e a.0, mere-all R Q r number n es a.1)

start-all : (R : Move → Type 0) (Q : Line → Type 0) → Reads R Q → (number n : ℕ) (key : Bytes) (o : Option ℕ)
    → AllByRecursion Q (map (Changed number n) (Rattle.zb_model.specs.Answer.start_edit key o))
start-all R Q r number n key None = tt
start-all R Q r number n key (Some v) = (r.mere number n (Start key v) tt, tt)

move-all : (R : Move → Type 0) (Q : Line → Type 0) → Reads R Q → (number n : ℕ) (k : Counting) (m : Move) → R m
    → AllByRecursion Q (map (Changed number n) (move_edits k m))
move-all R Q r number n k (Active key) a = (r.moved number n (Active key) a, start-all R Q r number n key k.start)
move-all R Q r number n k (Draw key) a = (r.moved number n (Draw key) a, tt)
move-all R Q r number n k (DropNet key) a = (r.moved number n (DropNet key) a, tt)
move-all R Q r number n k (DropLink p key) a = (r.moved number n (DropLink p key) a, tt)
move-all R Q r number n k (Install key q) a = (r.moved number n (Install key q) a, tt)
move-all R Q r number n k (Row p key t) a = (r.moved number n (Row p key t) a, tt)
move-all R Q r number n k (Pair u v key) a = (r.moved number n (Pair u v key) a, tt)
move-all R Q r number n k (Became g) a = (r.moved number n (Became g) a, tt)
move-all R Q r number n k (Live d) a = (r.moved number n (Live d) a, tt)
move-all R Q r number n k (Removed d) a = (r.moved number n (Removed d) a, tt)
move-all R Q r number n k (Roll b) a = (r.moved number n (Roll b) a, tt)
move-all R Q r number n k (Told d) a = (r.moved number n (Told d) a, tt)
move-all R Q r number n k (Untold d) a = (r.moved number n (Untold d) a, tt)

moves-all : (R : Move → Type 0) (Q : Line → Type 0) → Reads R Q
    → (number n : ℕ) (s : NodeState) (k : Counting) (ms : List Move) → AllByRecursion R ms
    → AllByRecursion Q (moves_lines number n s k ms)
moves-all R Q r number n s k [] a = tt
moves-all R Q r number n s k (m ∷ ms) a = by-test (changes s m) (moves-all R Q r number n s k ms a.1)
  where
    by-test : (b : Bool) → AllByRecursion Q (moves_lines number n s k ms)
        → AllByRecursion Q
        (map (Changed number n) (flat_map (move_edits k) (cond b (m ∷ filter (changes s) ms) (filter (changes s) ms))))
    by-test true more =
        subst (λ l. AllByRecursion Q l)
        (sym (map-append (Changed number n) (move_edits k m) (flat_map (move_edits k) (filter (changes s) ms))))
        (all-append Q (map (Changed number n) (move_edits k m)) (moves_lines number n s k ms)
        (move-all R Q r number n k m a.0) more)
    by-test false more = more

commit-all : (R : Move → Type 0) (Q : Line → Type 0) → Reads R Q → (number n : ℕ) (es : List Edit)
    → AllByRecursion Q (commit_lines number n es)
commit-all R Q r number n [] = tt
commit-all R Q r number n (e ∷ es) = (r.commit number n, tt)

stored-all : (R : Move → Type 0) (Q : Line → Type 0) → Reads R Q
    → (number n : ℕ) (s : NodeState) (k : Counting) (p : Plan) (a : Answer) → a.edits ≡ edits_of s k p
    → AllByRecursion R (moves_of p.outcome) → AllByRecursion Q (stored_lines number n a)
stored-all R Q r number n s k p a same q = subst (λ l. AllByRecursion Q l) (sym (stored-parts number n s k p a same))
    (all-append Q (mere ++ moves_lines number n s k (moves_of p.outcome)) (commit_lines number n a.edits)
    (all-append Q mere (moves_lines number n s k (moves_of p.outcome))
    (mere-all R Q r number n (Rattle.law_run.proofs.ConfirmsRuns.rest_edits k p.accepts) (rests-mere k p.accepts))
    (moves-all R Q r number n s k (moves_of p.outcome) q))
    (commit-all R Q r number n a.edits))
  where
    mere : List Line
    mere = map (Changed number n) (Rattle.law_run.proofs.ConfirmsRuns.rest_edits k p.accepts)

mere-stays : (number n : ℕ) (e : Edit) → Mere e → StaysLine (Changed number n e)
mere-stays number n (Reserve l v) a = tt
mere-stays number n (Floor l k p v) a = tt
mere-stays number n (Start k v) a = tt
mere-stays number n (Moved m) a = absurd a

mere-no-row : (number n : ℕ) (e : Edit) → Mere e → NoRowLine (Changed number n e)
mere-no-row number n (Reserve l v) a = tt
mere-no-row number n (Floor l k p v) a = tt
mere-no-row number n (Start k v) a = tt
mere-no-row number n (Moved m) a = absurd a

idle-stays : (l : Line) → IsIdle l → StaysLine l
unfolding IsIdle
idle-stays (Changed e n (Moved (Removed d))) i = absurd i
idle-stays _ i = tt

idle-no-row : (l : Line) → IsIdle l → NoRowLine l
unfolding IsIdle
idle-no-row (Changed e n (Moved (Row p k t))) i = absurd i
idle-no-row (GivenLink n p k) i = absurd i
idle-no-row _ i = tt

-- What a command of the centre may carry, after its group's changes

record Behind (x : Case) (number n : ℕ) (h : List Line) (kk : Counting) (p : Plan) (a : Answer) (rest : List Line) :
    Type 0 where
  grounds : Grounds x
  named : Names x.schedule n
  same : a.edits ≡ edits_of (state_of h n) kk p
  idle_ : AllByRecursion IsIdle rest
  here : Whole x h
  there : Whole x (h ++ (stored_lines number n a ++ rest))

abbrev reached : List Line → ℕ → ℕ → Answer → List Line → List Line
reached h number n a rest = h ++ (stored_lines number n a ++ rest)

carry-at : (x : Case) (number n : ℕ) (h : List Line) (kk : Counting) (p : Plan) (a : Answer) (rest : List Line)
    → Behind x number n h kk p a rest → AllByRecursion Stays (moves_of p.outcome)
    → (q : ℕ) (base k : Bytes) → LiveRow (state_of h (centre x)) q base
    → ((m : ℕ) → q ≡ x.device → HasRow (state_of (reached h number n a rest) (centre x)) m k → m ≡ x.device)
    → (InNet x k → Known (centre x) (reached h number n a rest) k)
    → CarryAt x (reached h number n a rest) base k
carry-at x number n h kk p a rest b stays q base k live only known = (by-test (nat_eq q x.device) refl, known)
  where
    g : List Line
    g = reached h number n a rest

    stay : AllByRecursion StaysLine (stored_lines number n a ++ rest)
    stay = all-append StaysLine (stored_lines number n a) rest
        (stored-all Stays StaysLine (record { moved = λ u v m s. s; mere = mere-stays; commit = λ u v. tt }) number n
        (state_of h n) kk p a b.same stays)
        (all-map IsIdle StaysLine idle-stays rest b.idle_)

    by-test : (t : Bool) → nat_eq q x.device ≡ t → Safe (centre x) x.device g k
        → Other (state_of g (centre x)) x.device base
    by-test false e s =
        record {
          partner = q;
          not_it = λ d. false≢true (sym e ∙ eq-eqb q x.device d);
          row = rows-lines h (stored_lines number n a ++ rest) (centre x) q base
              (record { row = live.row; among = live.among; partner = live.partner; key = live.key });
        }
    by-test true e s = absurd (present-own x g k b.there
        (stays-lines x.device h (stored_lines number n a ++ rest) stay
        (present x h b.here
        (subst (λ m. is_live (state_of h (centre x)) m ≡ true) (eqb-true q x.device e)
        (is-live (state_of h (centre x)) q base live))))
        (λ m r. only m (eqb-true q x.device e) r) s)

at-centre : (x : Case) (h : List Line) (n : ℕ) → n ≡ centre x → (P : NodeState → Type 0) → P (state_of h n)
    → P (state_of h (centre x))
at-centre x h n e P p = subst (λ m. P (state_of h m)) e p

in-moves : (x : Case) (number n : ℕ) (h : List Line) (kk : Counting) (p : Plan) (a : Answer) (l : Line)
    (rest : List Line) → a.edits ≡ edits_of (state_of h n) kk p
    → In l (moves_lines number n (state_of h n) kk (moves_of p.outcome)) → In l (stored_lines number n a ++ rest)
in-moves x number n h kk p a l rest same i = in-left l (stored_lines number n a) rest
    (subst (λ ls. In l ls) (sym (stored-parts number n (state_of h n) kk p a same))
    (in-left l (mere ++ moves_lines number n (state_of h n) kk (moves_of p.outcome)) (commit_lines number n a.edits)
    (in-right l mere (moves_lines number n (state_of h n) kk (moves_of p.outcome)) i)))
  where
    mere : List Line
    mere = map (Changed number n) (Rattle.law_run.proofs.ConfirmsRuns.rest_edits kk p.accepts)

second-in : {X : Type 0} (y z : X) (ys : List X) → In z (y ∷ z ∷ ys)
unfolding In
second-in y z ys = inr (inl refl)

command-behind : (x : Case) (number n : ℕ) (h : List Line) (kk : Counting) (p : Plan) (a : Answer) (rest : List Line)
    → Behind x number n h kk p a rest → (draw : Option Bytes) (base : Bytes) (command : Command)
    → CommandFits (setting_of x.schedule n) (state_of h n) draw (moves_of p.outcome) base command
    → CommandCarries x (reached h number n a rest) base command
command-behind x number n h kk p a rest b draw base (TransportNet key q d o) f k e =
    subst (λ y. CarryAt x (reached h number n a rest) base y) same
    (carry-at x number n h kk p a rest b f.3 f.1.0 base key (at-centre x h n mine (λ s. LiveRow s f.1.0 base) f.1.1)
    (λ m d r. absurd (b.there.ledger.net m key r net)) (λ i. inr (inr net)))
  where
    mine : n ≡ centre x
    mine = is-centre x b.grounds n b.named f.0

    same : key ≡ k
    same = Rattle.law_run.proofs.LockoutMoves.some-key key k e

    net : HasNet (state_of (reached h number n a rest) (centre x)) key
    net = nets-lines h (stored_lines number n a ++ rest) (centre x) key (at-centre x h n mine (λ s. HasNet s key) f.2)
command-behind x number n h kk p a rest b draw base (TransportLink key d o) f k e =
    subst (λ y. CarryAt x (reached h number n a rest) base y) (Rattle.law_run.proofs.LockoutMoves.some-key key k e)
    (carry-at x number n h kk p a rest b f.2 f.1.0 base key (at-centre x h n mine (λ s. LiveRow s f.1.0 base) f.1.1)
    (λ m q r. b.there.ledger.one m f.1.0 key r has ∙ q) (λ i. inr (inl (f.1.0, has))))
  where
    mine : n ≡ centre x
    mine = is-centre x b.grounds n b.named f.0

    has : HasRow (state_of (reached h number n a rest) (centre x)) f.1.0 key
    has = ⊎_elim
        (λ r. rows-lines h (stored_lines number n a ++ rest) (centre x) f.1.0 key
        (at-centre x h n mine (λ s. HasRow s f.1.0 key) r))
        (λ r. row-among h (stored_lines number n a ++ rest) number (centre x) f.1.0 key Unverified
        (subst (λ m. In (Changed number m (Moved (Row f.1.0 key Unverified))) (stored_lines number n a ++ rest)) mine
        (in-moves x number n h kk p a (Changed number n (Moved (Row f.1.0 key Unverified))) rest b.same
        (subst (λ ms. In (Changed number n (Moved (Row f.1.0 key Unverified)))
        (moves_lines number n (state_of h n) kk ms)) (sym r.1)
        (subst (λ t. In (Changed number n (Moved (Row f.1.0 key Unverified)))
        (map (Changed number n) (flat_map (move_edits kk) (Draw key ∷ cond t (Row f.1.0 key Unverified ∷ []) []))))
        (sym (row-is-new (state_of h n) f.1.0 key Unverified
        (new-rows (state_of h n) key (new-by (state_of h n) draw key r.0).1)))
        (second-in (Changed number n (Moved (Draw key))) (Changed number n (Moved (Row f.1.0 key Unverified)))
        [])))))) f.1.2
command-behind x number n h kk p a rest b draw base (TransportApp key q i) f k e =
    subst (λ y. CarryAt x (reached h number n a rest) base y) (Rattle.law_run.proofs.LockoutMoves.some-key key k e)
    (carry-at x number n h kk p a rest b f.3 f.1.0 base key (at-centre x h n mine (λ s. LiveRow s f.1.0 base) f.1.1)
    (λ m d r. absurd (none m (rows-back h (stored_lines number n a ++ rest) (centre x) m key stay r)))
    (λ i. inl taken))
  where
    mine : n ≡ centre x
    mine = is-centre x b.grounds n b.named f.0

    stay : AllByRecursion NoRowLine (stored_lines number n a ++ rest)
    stay = all-append NoRowLine (stored_lines number n a) rest
        (stored-all BringsNoRow NoRowLine (record { moved = λ u v m s. s; mere = mere-no-row; commit = λ u v. tt })
        number n (state_of h n) kk p a b.same f.4)
        (all-map IsIdle NoRowLine idle-no-row rest b.idle_)

    none : (m : ℕ) → HasRow (state_of h (centre x)) m key → ⊥
    none m r = ⊎_elim (λ y. b.here.ledger.pair m key r (at-centre x h n mine (λ s. HasPair s key) y))
        (λ y. new-rows (state_of h (centre x)) key
        (new-by (state_of h (centre x)) draw key (at-centre x h n mine (λ s. IsNew s draw key) y.0)).1 m r) f.2

    taken : In key (drawn (reached h number n a rest))
    taken =
        ⊎_elim (λ y. drawn-lines h (stored_lines number n a ++ rest) key
        (b.here.ledger.pair_drawn key (at-centre x h n mine (λ s. HasPair s key) y)))
        (λ y. draw-among h (stored_lines number n a ++ rest) number n key
        (in-moves x number n h kk p a (Changed number n (Moved (Draw key))) rest b.same
        (subst (λ ms. In (Changed number n (Moved (Draw key))) (moves_lines number n (state_of h n) kk ms))
        (sym y.1.2)
        (here-in (Changed number n (Moved (Draw key))) (Changed number n (Moved (Pair y.1.0 y.1.1 key)) ∷ [])))))
        f.2
command-behind x number n h kk p a rest b draw base (ConfirmKey status kind d) f k e = absurd (no-key k e)
command-behind x number n h kk p a rest b draw base (UpdateDevice d s status) f k e = absurd (no-key k e)
command-behind x number n h kk p a rest b draw base (RemoveDevice t) f k e = absurd (no-key k e)
command-behind x number n h kk p a rest b draw base (RequestApp t) f k e = absurd (no-key k e)
command-behind x number n h kk p a rest b draw base RequestLink f k e = absurd (no-key k e)
command-behind x number n h kk p a rest b draw base (SwitchKey q) f k e = absurd (no-key k e)
command-behind x number n h kk p a rest b draw base (Tunnel d i) f k e = absurd (no-key k e)
command-behind x number n h kk p a rest b draw base (VerifyKey t s i) f k e = absurd (no-key k e)

body-behind : (x : Case) (number n : ℕ) (h : List Line) (kk : Counting) (p : Plan) (a : Answer) (rest : List Line)
    → Behind x number n h kk p a rest → (draw : Option Bytes) (secured : Bool) (body : Body)
    → BodyFits (setting_of x.schedule n) (state_of h n) draw (moves_of p.outcome) secured body
    → BodyCarries x (reached h number n a rest) secured body
body-behind x number n h kk p a rest b draw secured (Saying bytes) f = tt
body-behind x number n h kk p a rest b draw secured (Clear control command) f = f
body-behind x number n h kk p a rest b draw secured (Secret label key command) f =
    command-behind x number n h kk p a rest b draw key command f
body-behind x number n h kk p a rest b draw secured (Tunnelled device key command) f =
    command-behind x number n h kk p a rest b draw key command f
body-behind x number n h kk p a rest b draw secured (Telling key bytes) f = tt
body-behind x number n h kk p a rest b draw secured Leaving f = tt
body-behind x number n h kk p a rest b draw secured (Relayed bytes) f = f

send-behind : (x : Case) (number n : ℕ) (h : List Line) (kk : Counting) (p : Plan) (a : Answer) (rest : List Line)
    → Behind x number n h kk p a rest → (draw : Option Bytes) (send : Option Sending)
    → SendFits (setting_of x.schedule n) (state_of h n) draw (moves_of p.outcome) send
    → SendCarries x (reached h number n a rest) send
send-behind x number n h kk p a rest b draw None f = tt
send-behind x number n h kk p a rest b draw (Some send) f = body-behind x number n h kk p a rest b draw send.secured
    send.body f

-- Groups

accepts-idle : (number n : ℕ) (ts : List Term) → AllByRecursion IsIdle (map (Accept number n) ts)
unfolding IsIdle
accepts-idle number n [] = tt
accepts-idle number n (t ∷ ts) = (tt, accepts-idle number n ts)

refuse-idle : (number n : ℕ) (place : Place) (r : Option Reason)
    → AllByRecursion IsIdle (refuse_lines number n place r)
unfolding IsIdle
refuse-idle number n place None = tt
refuse-idle number n place (Some r) = (tt, tt)

send-idle : (number : ℕ) (n : Option ℕ) (frame : ℕ) (bytes : Option Bytes)
    → AllByRecursion IsIdle (send_lines number n frame bytes)
unfolding IsIdle
send-idle number n frame None = tt
send-idle number n frame (Some b) = (tt, tt)

pub fallen-idle : (armed : Armed) (number n : ℕ) → AllByRecursion IsIdle (fallen_line armed number n)
unfolding IsIdle
fallen-idle NotArmed number n = tt
fallen-idle (StopAfter calls torn) number n = (tt, tt)
fallen-idle (FailAt call) number n = (tt, tt)

outcome-deed : (c : Setting) (s : NodeState) (task : Task) (o : Outcome) → OutcomeFits c s task o
    → Deed c s task (moves_of o) × SendFits c s (draw_of task) (moves_of o) (sending_of o)
outcome-deed c s task (Stop reason) f = (nothing refl, tt)
outcome-deed c s task (Does moves sending) f = (f.deed, f.send)

pub group-goes : (x : Case) → Grounds x → (h h0 : List Line) → stations_of h ≡ stations x.schedule → (number n : ℕ)
    → Names x.schedule n → (task : Task) → TaskFits x h task → (p : Plan)
    → OutcomeFits (setting_of x.schedule n) (state_of h n) task p.outcome
    → GoesOn x h
    (group_of h0 number n
    (answer_by x.tools (setting_of x.schedule n) (state_of h n)
    (counting_of (setting_of x.schedule n) (state_of h n) p) p))
unfolding group_of told_lines answer_by out_of
group-goes x g h h0 known number n named task f p fits o w =
    (goes-append x h stored (accepts ++ (refusal ++ (seals ++ send)))
    (stored-goes x g h known number n named k task f p (outcome-deed c s task p.outcome fits).0 a refl)
    (goes-append x (h ++ stored) accepts (refusal ++ (seals ++ send))
    (goes-idle x (h ++ stored) accepts (accepts-idle number n p.accepts))
    (goes-append x ((h ++ stored) ++ accepts) refusal (seals ++ send)
    (goes-idle x ((h ++ stored) ++ accepts) refusal (refuse-idle number n a.place a.refusal))
    (goes-append x h3 seals send
    (λ q v. seals-go x number n h3 a.seals
    (out-carries x g.shows h3 c s k (sending_of p.outcome) (may_seal s (sending_of p.outcome)) (carries v)) q v)
    (goes-idle x (h3 ++ seals) send (send-idle number (Some n) (length (air h0) + 1) a.frame)))))) o w
  where
    c : Setting
    c = setting_of x.schedule n

    s : NodeState
    s = state_of h n

    k : Counting
    k = counting_of c s p

    a : Answer
    a = answer_by x.tools c s k p

    stored : List Line
    stored = stored_lines number n a

    accepts : List Line
    accepts = map (Accept number n) p.accepts

    refusal : List Line
    refusal = refuse_lines number n a.place a.refusal

    seals : List Line
    seals = map (Seal number n) a.seals

    send : List Line
    send = send_lines number (Some n) (length (air h0) + 1) a.frame

    h3 : List Line
    h3 = ((h ++ stored) ++ accepts) ++ refusal

    shape : h3 ≡ h ++ (stored ++ (accepts ++ refusal))
    shape = append_assoc (h ++ stored) accepts refusal ∙ append_assoc h stored (accepts ++ refusal)

    carries : Whole x h3 → SendCarries x h3 (sending_of p.outcome)
    carries v = subst (λ y. SendCarries x y (sending_of p.outcome)) (sym shape)
        (send-behind x number n h k p a (accepts ++ refusal)
        (record {
          grounds = g;
          named = named;
          same = refl;
          idle_ = all-append IsIdle accepts refusal
              (accepts-idle number n p.accepts) (refuse-idle number n a.place a.refusal);
          here = w;
          there =
              subst (Whole x) shape v;
        })
        (draw_of task) (sending_of p.outcome) (outcome-deed c s task p.outcome fits).1)

pub cut-goes : (x : Case) → Grounds x → (h : List Line) → stations_of h ≡ stations x.schedule
    → (armed : Armed) (calls : Calls) (number n : ℕ) → Names x.schedule n → (task : Task) → TaskFits x h task
    → (kk : Counting) (p : Plan) → OutcomeFits (setting_of x.schedule n) (state_of h n) task p.outcome
    → (a : Answer) → a.edits ≡ edits_of (state_of h n) kk p → GoesOn x h (cut_of armed calls number n a)
unfolding cut_of
cut-goes x g h known armed calls number n named task f kk p fits a same =
    goes-append x h (cond (stands armed calls) (stored_lines number n a) []) (fallen_line armed number n)
    (by-test (stands armed calls))
    (goes-idle x (h ++ cond (stands armed calls) (stored_lines number n a) []) (fallen_line armed number n)
    (fallen-idle armed number n))
  where
    by-test : (b : Bool) → GoesOn x h (cond b (stored_lines number n a) [])
    by-test true = stored-goes x g h known number n named kk task f p
        (outcome-deed (setting_of x.schedule n) (state_of h n) task p.outcome fits).0 a same
    by-test false = goes-none x h
