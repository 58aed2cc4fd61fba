-- The floors of a sender in a row, and what changes them.
use Rattle.std.proofs.Common.{◌≡◌, ℕ, ◌<◌, ◌≤◌, ◌+◌, min, max, Bool, true, false, cond, List, [], ◌∷◌, ◌++◌, map, Option, Some, None, option_map, find, nat_eq, nat_lt, refl, sym, ap, ◌∙◌, subst, arith, eqb-true, ltb-true, ltb-false, lt_irrefl, lt_trans, le_refl, zero-le}
use Rattle.std.proofs.lemmas.Bool.{false≢true, eqb-false}
use Rattle.std.specs.List.{AllByRecursion}
use Rattle.zb_model.specs.State.{SenderFloor, floor_stored, floor_kept, booted_floor, floor_of_sender}
use Rattle.law_run.proofs.Finds.{HoldsOf, IfOf, Finds, finds-map}
use Rattle.law_run.proofs.Basics.{find-map, nat_eq-refl}
use Rattle.law_run.proofs.FreshLines.{all-map}

-- senders ascend
unfoldable pub Sorted : List SenderFloor → Type 0
Sorted [] = Unit {0}
Sorted (f ∷ fs) = AllByRecursion (λ (g : SenderFloor). f.sender < g.sender) fs × Sorted fs

abbrev pub of_sender : ℕ → SenderFloor → Bool
of_sender sender f = nat_eq f.sender sender

-- the floor of a sender meets P
abbrev pub FloorAt : (SenderFloor → Type 0) → ℕ → List SenderFloor → Type 0
FloorAt P sender fs = Finds P (of_sender sender) fs

abbrev new_floor : ℕ → ℕ → SenderFloor
new_floor sender value = record { sender = sender; kept = 0; stored = value }

abbrev raised_floor : ℕ → SenderFloor → SenderFloor
raised_floor value f = record f { stored = max f.stored value }

-- nothing is found if every sender is greater
none-found : (P : SenderFloor → Type 0) (sender : ℕ) (fs : List SenderFloor)
    → AllByRecursion (λ (g : SenderFloor). sender < g.sender) fs → FloorAt P sender fs → ⊥
unfolding HoldsOf
none-found P sender [] a h = h
none-found P sender (f ∷ fs) a h = by-test (nat_eq f.sender sender) refl h (none-found P sender fs a.1)
  where
    by-test : (b : Bool) → nat_eq f.sender sender ≡ b → HoldsOf P (cond b (Some f) (find (of_sender sender) fs))
        → (FloorAt P sender fs → ⊥) → ⊥
    by-test true e h k = lt_irrefl f.sender (omega (arith, a.0, eqb-true f.sender sender e))
    by-test false e h k = k h

all-above : (m sender value : ℕ) (fs : List SenderFloor) → m < sender
    → AllByRecursion (λ (g : SenderFloor). m < g.sender) fs → AllByRecursion (λ (g : SenderFloor). m < g.sender)
    (floor_stored sender value fs)
all-above m sender value [] lt a = (lt, tt)
all-above m sender value (f ∷ fs) lt a = by-tests (nat_lt sender f.sender) (nat_eq sender f.sender)
    (all-above m sender value fs lt a.1)
  where
    by-tests : (b d : Bool) → AllByRecursion (λ (g : SenderFloor). m < g.sender) (floor_stored sender value fs)
        → AllByRecursion (λ (g : SenderFloor). m < g.sender)
        (cond b (new_floor sender value ∷ f ∷ fs)
        (cond d (raised_floor value f ∷ fs) (f ∷ floor_stored sender value fs)))
    by-tests true d r = (lt, a)
    by-tests false true r = (a.0, a.1)
    by-tests false false r = (a.0, r)

pub sorted-stored : (sender value : ℕ) (fs : List SenderFloor) → Sorted fs → Sorted (floor_stored sender value fs)
unfolding Sorted
sorted-stored sender value [] s = (tt, tt)
sorted-stored sender value (f ∷ fs) s = by-tests (nat_lt sender f.sender) refl (nat_eq sender f.sender) refl
    (sorted-stored sender value fs s.1)
  where
    above : sender < f.sender → AllByRecursion (λ (g : SenderFloor). sender < g.sender) fs
    above lt = all-map (λ (g : SenderFloor). f.sender < g.sender) (λ (g : SenderFloor). sender < g.sender)
        (λ g p. lt_trans lt p) fs s.0

    by-tests : (b : Bool) → nat_lt sender f.sender ≡ b → (d : Bool) → nat_eq sender f.sender ≡ d
        → Sorted (floor_stored sender value fs)
        → Sorted
        (cond b (new_floor sender value ∷ f ∷ fs)
        (cond d (raised_floor value f ∷ fs) (f ∷ floor_stored sender value fs)))
    by-tests true e d e' r = ((ltb-true sender f.sender e, above (ltb-true sender f.sender e)), s)
    by-tests false e true e' r = (s.0, s.1)
    by-tests false e false e' r = (
      all-above f.sender sender value fs (omega (arith, ltb-false sender f.sender e, eqb-false sender f.sender e'))
          s.0,
      r,
    )

-- a stored floor keeps a claim on any sender's floor, if that floor may rise
pub stored-keeps : (P : SenderFloor → Type 0) → ((value : ℕ) (f : SenderFloor) → P f → P (raised_floor value f))
    → (sender value of : ℕ) (fs : List SenderFloor) → Sorted fs → FloorAt P of fs
    → FloorAt P of (floor_stored sender value fs)
unfolding Sorted HoldsOf
stored-keeps P k sender value of [] s h = absurd h
stored-keeps P k sender value of (f ∷ fs) s h = by-tests (nat_lt sender f.sender) refl (nat_eq sender f.sender)
    (stored-keeps P k sender value of fs s.1)
  where
    above : sender < f.sender → AllByRecursion (λ (g : SenderFloor). sender < g.sender) (f ∷ fs)
    above lt = (
      lt,
      all-map (λ (g : SenderFloor). f.sender < g.sender) (λ (g : SenderFloor). sender < g.sender)
          (λ g p. lt_trans lt p) fs s.0,
    )

    before : sender < f.sender → (d : Bool) → nat_eq sender of ≡ d
        → HoldsOf P (cond d (Some (new_floor sender value)) (find (of_sender of) (f ∷ fs)))
    before lt true e =
        absurd (none-found P of (f ∷ fs)
        (subst (λ m. AllByRecursion (λ (g : SenderFloor). m < g.sender) (f ∷ fs)) (eqb-true sender of e) (above lt)) h)
    before lt false e = h

    here : (d : Bool) → HoldsOf P (cond d (Some f) (find (of_sender of) fs))
        → HoldsOf P (cond d (Some (raised_floor value f)) (find (of_sender of) fs))
    here true p = k value f p
    here false p = p

    later : (d : Bool) → (FloorAt P of fs → FloorAt P of (floor_stored sender value fs))
        → HoldsOf P (cond d (Some f) (find (of_sender of) fs))
        → HoldsOf P (cond d (Some f) (find (of_sender of) (floor_stored sender value fs)))
    later true r p = p
    later false r p = r p

    by-tests : (b : Bool) → nat_lt sender f.sender ≡ b → (d : Bool)
        → (FloorAt P of fs → FloorAt P of (floor_stored sender value fs))
        → FloorAt P of
        (cond b (new_floor sender value ∷ f ∷ fs)
        (cond d (raised_floor value f ∷ fs) (f ∷ floor_stored sender value fs)))
    by-tests true e d r = before (ltb-true sender f.sender e) (nat_eq sender of) refl
    by-tests false e true r = here (nat_eq f.sender of) h
    by-tests false e false r = later (nat_eq f.sender of) r h

-- a counter that isn't stale is below its stored floor after that floor is stored above it
abbrev pub Takes : ℕ → SenderFloor → Type 0
Takes c f = (f.kept ≤ c) × (c < f.stored)

abbrev pub NotStale : ℕ → SenderFloor → Type 0
NotStale c f = f.kept ≤ c

pub stored-takes : (c sender value : ℕ) (fs : List SenderFloor) → c < value
    → IfOf (NotStale c) (find (of_sender sender) fs) → FloorAt (Takes c) sender (floor_stored sender value fs)
unfolding HoldsOf IfOf
stored-takes c sender value [] lt h = rw (nat_eq-refl sender) (zero-le, lt)
stored-takes c sender value (f ∷ fs) lt h = by-tests (nat_lt sender f.sender) (nat_eq sender f.sender) refl
    (stored-takes c sender value fs lt)
  where
    first : HoldsOf (Takes c) (find (of_sender sender) (new_floor sender value ∷ f ∷ fs))
    first = rw (nat_eq-refl sender) (zero-le, lt)

    same : (d : Bool) → nat_eq f.sender sender ≡ d → d ≡ true
        → IfOf (NotStale c) (cond d (Some f) (find (of_sender sender) fs))
        → HoldsOf (Takes c) (cond d (Some (raised_floor value f)) (find (of_sender sender) fs))
    same true e t p = (p, omega (arith, lt))
    same false e t p = absurd (false≢true t)

    other : (d : Bool) → nat_eq f.sender sender ≡ d → d ≡ false
        → (IfOf (NotStale c) (find (of_sender sender) fs) → FloorAt (Takes c) sender (floor_stored sender value fs))
        → IfOf (NotStale c) (cond d (Some f) (find (of_sender sender) fs))
        → HoldsOf (Takes c) (cond d (Some f) (find (of_sender sender) (floor_stored sender value fs)))
    other true e t r p = absurd (false≢true (sym t))
    other false e t r p = r p

    flip-true : nat_eq sender f.sender ≡ true → nat_eq f.sender sender ≡ true
    flip-true e = Rattle.std.proofs.Common.eq-eqb f.sender sender (sym (eqb-true sender f.sender e))

    flip-false : nat_eq sender f.sender ≡ false → nat_eq f.sender sender ≡ false
    flip-false e = Rattle.std.proofs.Common.ne_eqb f.sender sender (λ q. eqb-false sender f.sender e (sym q))

    by-tests : (b d : Bool) → nat_eq sender f.sender ≡ d
        → (IfOf (NotStale c) (find (of_sender sender) fs) → FloorAt (Takes c) sender (floor_stored sender value fs))
        → FloorAt (Takes c) sender
        (cond b (new_floor sender value ∷ f ∷ fs)
        (cond d (raised_floor value f ∷ fs) (f ∷ floor_stored sender value fs)))
    by-tests true d e r = first
    by-tests false true e r = same (nat_eq f.sender sender) refl (flip-true e) h
    by-tests false false e r = other (nat_eq f.sender sender) refl (flip-false e) r h

-- a floor that was below the counter already
pub found-takes : (c sender : ℕ) (fs : List SenderFloor) → IfOf (NotStale c) (find (of_sender sender) fs) → c
    < (floor_of_sender sender (find (of_sender sender) fs)).stored → FloorAt (Takes c) sender fs
unfolding HoldsOf IfOf
found-takes c sender fs h lt = by-found (find (of_sender sender) fs) h lt
  where
    by-found : (o : Option SenderFloor) → IfOf (NotStale c) o → c < (floor_of_sender sender o).stored
        → HoldsOf (Takes c) o
    by-found None h lt = Rattle.std.proofs.Common.not-suc-le-zero lt
    by-found (Some f) h lt = (h, lt)

-- what the floors record of accepted counters
abbrev pub Over : ℕ → SenderFloor → Type 0
Over c f = (c < f.kept) × (c < f.stored)

abbrev kept_floor : ℕ → SenderFloor → SenderFloor
kept_floor kept f = record f { kept = kept }

all-kept : (m sender kept : ℕ) (fs : List SenderFloor) → AllByRecursion (λ (g : SenderFloor). m < g.sender) fs
    → AllByRecursion (λ (g : SenderFloor). m < g.sender) (floor_kept sender kept fs)
all-kept m sender kept [] a = tt
all-kept m sender kept (f ∷ fs) a = (by-test (nat_eq f.sender sender), all-kept m sender kept fs a.1)
  where
    by-test : (b : Bool) → m < (cond b (kept_floor kept f) f).sender
    by-test true = a.0
    by-test false = a.0

pub sorted-kept : (sender kept : ℕ) (fs : List SenderFloor) → Sorted fs → Sorted (floor_kept sender kept fs)
unfolding Sorted
sorted-kept sender kept [] s = tt
sorted-kept sender kept (f ∷ fs) s = (by-test (nat_eq f.sender sender), sorted-kept sender kept fs s.1)
  where
    by-test : (b : Bool) → AllByRecursion (λ (g : SenderFloor). (cond b (kept_floor kept f) f).sender < g.sender)
        (floor_kept sender kept fs)
    by-test true = all-kept f.sender sender kept fs s.0
    by-test false = all-kept f.sender sender kept fs s.0

all-booted : (m : ℕ) (fs : List SenderFloor) → AllByRecursion (λ (g : SenderFloor). m < g.sender) fs
    → AllByRecursion (λ (g : SenderFloor). m < g.sender) (map booted_floor fs)
all-booted m [] a = tt
all-booted m (f ∷ fs) a = (a.0, all-booted m fs a.1)

pub sorted-booted : (fs : List SenderFloor) → Sorted fs → Sorted (map booted_floor fs)
unfolding Sorted
sorted-booted [] s = tt
sorted-booted (f ∷ fs) s = (all-booted f.sender fs s.0, sorted-booted fs s.1)

-- an accepted counter moves its own sender's floor, and no other's
same-test : (sender kept of : ℕ) (f : SenderFloor)
    → of_sender of (cond (nat_eq f.sender sender) (kept_floor kept f) f) ≡ of_sender of f
same-test sender kept of f = by-test (nat_eq f.sender sender)
  where
    by-test : (b : Bool) → of_sender of (cond b (kept_floor kept f) f) ≡ of_sender of f
    by-test true = refl
    by-test false = refl

found-sender : (of : ℕ) (fs : List SenderFloor) (f : SenderFloor) → find (of_sender of) fs ≡ Some f → f.sender ≡ of
found-sender of fs f e = by-found fs e
  where
    abbrev_is : Option SenderFloor → Type 0
    abbrev_is None = Unit {0}
    abbrev_is (Some g) = g.sender ≡ of

    in-list : (fs : List SenderFloor) → abbrev_is (find (of_sender of) fs)
    in-list [] = tt
    in-list (g ∷ gs) = first (nat_eq g.sender of) refl (in-list gs)
      where
        first : (b : Bool) → nat_eq g.sender of ≡ b → abbrev_is (find (of_sender of) gs)
            → abbrev_is (cond b (Some g) (find (of_sender of) gs))
        first true e r = eqb-true g.sender of e
        first false e r = r

    by-found : (fs : List SenderFloor) → find (of_sender of) fs ≡ Some f → f.sender ≡ of
    by-found fs e = subst abbrev_is e (in-list fs)

pub kept-over : (c of sender counter : ℕ) (fs : List SenderFloor) → FloorAt (Over c) of fs
    → FloorAt (Takes counter) sender fs → FloorAt (Over c) of (floor_kept sender (counter + 1) fs)
unfolding HoldsOf
kept-over c of sender counter fs h t =
    subst (λ o. HoldsOf (Over c) o)
    (sym (find-map (of_sender of) (λ f. cond (nat_eq f.sender sender) (kept_floor (counter + 1) f) f)
    (same-test sender (counter + 1) of) fs))
    (by-found (find (of_sender of) fs) refl h)
  where
    by-found : (o : Option SenderFloor) → find (of_sender of) fs ≡ o → HoldsOf (Over c) o
        → HoldsOf (Over c) (option_map (λ f. cond (nat_eq f.sender sender) (kept_floor (counter + 1) f) f) o)
    by-found None e p = p
    by-found (Some f) e p = by-test (nat_eq f.sender sender) refl
      where
        takes : nat_eq f.sender sender ≡ true → Takes counter f
        takes b = subst (λ o. HoldsOf (Takes counter) o) e
            (subst (λ m. FloorAt (Takes counter) m fs) (sym (eqb-true f.sender sender b) ∙ found-sender of fs f e) t)

        risen : Takes counter f → Over c (kept_floor (counter + 1) f)
        risen q = (omega (arith, p.0, q.0), p.1)

        by-test : (b : Bool) → nat_eq f.sender sender ≡ b → Over c (cond b (kept_floor (counter + 1) f) f)
        by-test true b = risen (takes b)
        by-test false b = p

pub kept-new : (sender counter : ℕ) (fs : List SenderFloor) → FloorAt (Takes counter) sender fs
    → FloorAt (Over counter) sender (floor_kept sender (counter + 1) fs)
unfolding HoldsOf
kept-new sender counter fs t =
    subst (λ o. HoldsOf (Over counter) o)
    (sym (find-map (of_sender sender) (λ f. cond (nat_eq f.sender sender) (kept_floor (counter + 1) f) f)
    (same-test sender (counter + 1) sender) fs))
    (by-found (find (of_sender sender) fs) refl t)
  where
    by-found : (o : Option SenderFloor) → find (of_sender sender) fs ≡ o → HoldsOf (Takes counter) o
        → HoldsOf (Over counter) (option_map (λ f. cond (nat_eq f.sender sender) (kept_floor (counter + 1) f) f) o)
    by-found None e p = p
    by-found (Some f) e p = subst (λ b. Over counter (cond b (kept_floor (counter + 1) f) f))
        (sym (Rattle.std.proofs.Common.eq-eqb f.sender sender (found-sender sender fs f e))) (omega arith, p.1)

pub booted-over : (c of : ℕ) (fs : List SenderFloor) → FloorAt (Over c) of fs
    → FloorAt (Over c) of (map booted_floor fs)
booted-over c of fs h = finds-map (Over c) (Over c) (of_sender of) booted_floor (λ f. refl) (λ f p. (p.1, p.1)) fs h
