-- Which devices the centre told of a rollover: a live row says of its device what the lines say of it, or a line that
-- makes the device live is still to come.
use Rattle.std.proofs.Common.{◌≡◌, ℕ, ◌+◌, ◌⊎◌, inl, inr, ⊎_elim, Bool, true, false, cond, ◌&&◌, ◌||◌, List, [], ◌∷◌, ◌++◌, map, nat_eq, refl, sym, ap, ◌∙◌, subst, eqb-true, eq-eqb}
use Rattle.std.proofs.lemmas.Bool.{false≢true, and_parts}
use Rattle.std.specs.List.{AllByRecursion, list_any}
use Rattle.zb_model.specs.Data.{Bytes, Layer, Nwk, Aps, Attribute, Term, Move, Draw, DropNet, DropLink, Install, Active, Row, Pair, Became, Live, Removed, Roll, Told, Untold, Edit, Reserve, Floor, Start, Moved}
use Rattle.zb_model.specs.Lines.{Line, Declared, GivenNet, GivenLink, Counter, Changed, Commit, Accept, Refuse, Seal, Forge, Send, Inject, Stopped, DownReset, DownDisk, Boot, Dump, End}
use Rattle.zb_model.specs.State.{LinkKey, NodeState, same_key, is_centre, has_link, is_link, is_live_of, is_live, is_told, at_link, with_link, with_told, new_link, revived, dropped_link, told_as, link_floor, link_kept, booted_link, applied, moved, after_accepting, after_boot, after_hearing, after_sealing, sealed_at}
use Rattle.zb_model.specs.Readings.{speaker, after}
use Rattle.law_run.proofs.FreshLines.{all-append, all-map}
use Rattle.law_run_readings.specs.RowLines.{tells}

-- ---- what is asked of lines

-- the node makes the device live by the line; a line that does this is still to come
abbrev pub MakesLive : ℕ → ℕ → Line → Type 0
MakesLive n d (Changed e m (Moved (Live x))) = (m ≡ n) × (x ≡ d)
MakesLive n d _ = ⊥

abbrev pub Due : ℕ → ℕ → List Line → Type 0
Due n d [] = ⊥
Due n d (l ∷ ls) = MakesLive n d l ⊎ Due n d ls

-- A row is added for a device that is live, or that the centre makes live after it. Only the centre tells devices.
abbrev pub TellsLine : Line → NodeState → List Line → Type 0
TellsLine (Changed e n (Moved (Row p k a))) s later =
    (is_live s p ≡ true) ⊎ (Due n p later ⊎ (is_centre s.role ≡ false))
TellsLine (Changed e n (Moved (Told d))) s later = is_centre s.role ≡ true
TellsLine _ s later = Unit {0}

due_more : (n d : ℕ) (ls more : List Line) → Due n d ls → Due n d (ls ++ more)
due_more n d [] more due = absurd due
due_more n d (l ∷ ls) more (inl is) = inl is
due_more n d (l ∷ ls) more (inr due) = inr (due_more n d ls more due)

pub tells_more : (l : Line) (s : NodeState) (later more : List Line) → TellsLine l s later
    → TellsLine l s (later ++ more)
tells_more (Changed e n (Moved (Row p k a))) s later more (inl live) = inl live
tells_more (Changed e n (Moved (Row p k a))) s later more (inr (inl due)) = inr (inl (due_more n p later more due))
tells_more (Changed e n (Moved (Row p k a))) s later more (inr (inr other)) = inr (inr other)
tells_more (Changed e n (Moved (Told d))) s later more t = t
tells_more _ s later more t = tt

-- ---- the rows of a state

abbrev pub RowTold : (ℕ → Bool) → Bool → ℕ → List Line → LinkKey → Type 0
RowTold said centre n later r = (r.told ≡ (r.live && said r.partner))
    ⊎ ((centre ≡ true) × ((r.live ≡ true) × Due n r.partner later))

-- `said` tells which devices the lines so far call told
pub record Telling (said : ℕ → Bool) (n : ℕ) (later : List Line) (s : NodeState) : Type 0 where
  pub rows : AllByRecursion (RowTold said (is_centre s.role) n later) s.links
  pub member : is_centre s.role ≡ false → (d : ℕ) → said d ≡ false

pub same_telling : (said also : ℕ → Bool) (n : ℕ) (later : List Line) (s : NodeState) → ((d : ℕ) → said d ≡ also d)
    → Telling said n later s → Telling also n later s
same_telling said also n later s same t = record {
  rows = all-map (RowTold said (is_centre s.role) n later) (RowTold also (is_centre s.role) n later) one s.links
      t.rows;
  member = λ m d. sym (same d) ∙ t.member m d;
}
  where
    one : (r : LinkKey) → RowTold said (is_centre s.role) n later r → RowTold also (is_centre s.role) n later r
    one r (inl e) = inl (e ∙ ap (λ b. r.live && b) (same r.partner))
    one r (inr due) = inr due

pub and_false : (b : Bool) → (b && false) ≡ false
and_false true = refl
and_false false = refl

-- all rows are changed
mapped : (P Q : LinkKey → Type 0) (f : LinkKey → LinkKey) → ((r : LinkKey) → P r → Q (f r)) → (links : List LinkKey)
    → AllByRecursion P links → AllByRecursion Q (map f links)
mapped P Q f k [] a = tt
mapped P Q f k (r ∷ rs) a = (k r a.0, mapped P Q f k rs a.1)

-- a change that leaves of a row its partner, whether it is live and whether it is told
record Plain (f : LinkKey → LinkKey) : Type 0 where
  partner : (r : LinkKey) → (f r).partner ≡ r.partner
  live : (r : LinkKey) → (f r).live ≡ r.live
  told : (r : LinkKey) → (f r).told ≡ r.told

plain_row : (said : ℕ → Bool) (centre : Bool) (n : ℕ) (later : List Line) (f : LinkKey → LinkKey) → Plain f
    → (r : LinkKey) → RowTold said centre n later r → RowTold said centre n later (f r)
plain_row said centre n later f k r (inl e) =
    inl (k.told r ∙ e ∙ ap (λ b. b && said r.partner) (sym (k.live r)) ∙ ap (λ p. (f r).live && said p)
    (sym (k.partner r)))
plain_row said centre n later f k r (inr due) =
    inr (due.0, (k.live r ∙ due.1.0, subst (λ p. Due n p later) (sym (k.partner r)) due.1.1))

plain_all : (said : ℕ → Bool) (centre : Bool) (n : ℕ) (later : List Line) (f : LinkKey → LinkKey) → Plain f
    → (links : List LinkKey) → AllByRecursion (RowTold said centre n later) links
    → AllByRecursion (RowTold said centre n later) (map f links)
plain_all said centre n later f k links a = mapped (RowTold said centre n later) (RowTold said centre n later) f
    (plain_row said centre n later f k) links a

some_row : (P : LinkKey → Type 0) (f : LinkKey → LinkKey) → ((r : LinkKey) → P r → P (f r)) → (b : Bool) (r : LinkKey)
    → P r → P (cond b (f r) r)
some_row P f k true r p = k r p
some_row P f k false r p = p

plain_at : (said : ℕ → Bool) (centre : Bool) (n : ℕ) (later : List Line) (f : LinkKey → LinkKey) → Plain f
    → (p : ℕ) (key : Bytes) (links : List LinkKey) → AllByRecursion (RowTold said centre n later) links
    → AllByRecursion (RowTold said centre n later) (at_link p key f links)
plain_at said centre n later f k p key links a =
    mapped (RowTold said centre n later) (RowTold said centre n later) (λ r. cond (is_link p key r) (f r) r)
    (λ r t. some_row (RowTold said centre n later) f (plain_row said centre n later f k) (is_link p key r) r t) links a

-- a line that makes no device live is past
pub past : (said : ℕ → Bool) (n : ℕ) (l : Line) (later : List Line) (s : NodeState) → ((d : ℕ) → MakesLive n d l → ⊥)
    → Telling said n (l ∷ later) s → Telling said n later s
past said n l later s none t = record {
  rows = all-map (RowTold said (is_centre s.role) n (l ∷ later)) (RowTold said (is_centre s.role) n later) one s.links
      t.rows;
  member = t.member;
}
  where
    one : (r : LinkKey) → RowTold said (is_centre s.role) n (l ∷ later) r → RowTold said (is_centre s.role) n later r
    one r (inl e) = inl e
    one r (inr due) = ⊎_elim (λ is. absurd (none r.partner is)) (λ more. inr (due.0, (due.1.0, more))) due.1.1

-- ---- one change

-- whether a device is told, by its rows
told_by : (said : ℕ → Bool) (centre : Bool) (n : ℕ) (later : List Line) (p : ℕ) (links : List LinkKey)
    → AllByRecursion (RowTold said centre n later) links
    → (list_any (λ (r : LinkKey). is_live_of p r && r.told) links ≡ (list_any (is_live_of p) links && said p))
    ⊎ ((centre ≡ true) × Due n p later)
told_by said centre n later p [] a = inl refl
told_by said centre n later p (r ∷ rs) a =
    ⊎_elim (λ e. by_live (is_live_of p r) refl e a.0) (λ due. inr due) (told_by said centre n later p rs a.1)
  where
    rest_told : Bool
    rest_told = list_any (λ (x : LinkKey). is_live_of p x && x.told) rs

    rest_live : Bool
    rest_live = list_any (is_live_of p) rs

    absorbed : (x y : Bool) → (x || (y && x)) ≡ x
    absorbed true y = refl
    absorbed false true = refl
    absorbed false false = refl

    by_live : (b : Bool) → is_live_of p r ≡ b → rest_told ≡ (rest_live && said p) → RowTold said centre n later r
        → ((is_live_of p r && r.told || rest_told) ≡ ((is_live_of p r || rest_live) && said p))
        ⊎ ((centre ≡ true) × Due n p later)
    by_live false is e row =
        inl (ap (λ x. x && r.told || rest_told) is ∙ e ∙ ap (λ x. (x || rest_live) && said p) (sym is))
    by_live true is e (inl t) =
        let both = and_parts r.live (nat_eq r.partner p) is in
        let told_is : r.told ≡ said p =
        t ∙ ap (λ x. x && said r.partner) both.0 ∙ ap said (eqb-true r.partner p both.1) in
        inl (ap (λ x. x && r.told || rest_told) is ∙ ap (λ x. x || rest_told) told_is
        ∙ ap (λ x. said p || x) e ∙ absorbed (said p) rest_live ∙ ap (λ x. (x || rest_live) && said p) (sym is))
    by_live true is e (inr due) =
        let both = and_parts r.live (nat_eq r.partner p) is in
        inr (due.0, subst (λ x. Due n x later) (eqb-true r.partner p both.1) due.1.1)

pub is_told_by : (said : ℕ → Bool) (n : ℕ) (later : List Line) (s : NodeState) (p : ℕ) → Telling said n later s
    → (is_told s p ≡ (is_live s p && said p)) ⊎ ((is_centre s.role ≡ true) × Due n p later)
unfolding is_told is_live
is_told_by said n later s p t = told_by said (is_centre s.role) n later p s.links t.rows

-- what a new row says of its device
abbrev NewRow : (ℕ → Bool) → ℕ → List Line → NodeState → ℕ → Type 0
NewRow said n later s p = (is_told s p ≡ said p) ⊎ ((is_centre s.role ≡ true) × Due n p later)

new_row : (said : ℕ → Bool) (n : ℕ) (later : List Line) (s : NodeState) (p : ℕ) → Telling said n later s
    → (is_live s p ≡ true) ⊎ (Due n p later ⊎ (is_centre s.role ≡ false)) → NewRow said n later s p
new_row said n later s p t asks = ⊎_elim (λ e. by_told e asks) (λ due. inr due) (is_told_by said n later s p t)
  where
    by_member : is_told s p ≡ (is_live s p && said p) → is_centre s.role ≡ false
        → (is_told s p ≡ said p) ⊎ ((is_centre s.role ≡ true) × Due n p later)
    by_member e m = inl (e ∙ ap (λ b. is_live s p && b) (t.member m p) ∙ and_false (is_live s p) ∙ sym (t.member m p))

    by_due : is_told s p ≡ (is_live s p && said p) → Due n p later → (b : Bool) → is_centre s.role ≡ b
        → (is_told s p ≡ said p) ⊎ ((is_centre s.role ≡ true) × Due n p later)
    by_due e due true c = inr (c, due)
    by_due e due false c = by_member e c

    by_told : is_told s p ≡ (is_live s p && said p)
        → (is_live s p ≡ true) ⊎ (Due n p later ⊎ (is_centre s.role ≡ false))
        → (is_told s p ≡ said p) ⊎ ((is_centre s.role ≡ true) × Due n p later)
    by_told e (inl live) = inl (e ∙ ap (λ b. b && said p) live)
    by_told e (inr (inl due)) = by_due e due (is_centre s.role) refl
    by_told e (inr (inr m)) = by_member e m

row_comes : (said : ℕ → Bool) (centre : Bool) (n : ℕ) (later : List Line) (p : ℕ) (k : Bytes) (a : Attribute)
    (b : Bool) (links : List LinkKey) → (b ≡ said p) ⊎ ((centre ≡ true) × Due n p later)
    → AllByRecursion (RowTold said centre n later) links
    → AllByRecursion (RowTold said centre n later) (with_link p k a b links)
row_comes said centre n later p k a b links new all = by_has (has_link p k links)
  where
    P : LinkKey → Type 0
    P = RowTold said centre n later

    one : (r : LinkKey) (t : Bool) → is_link p k r ≡ t → P r → P (cond t (revived a b r) r)
    one r false is row = row
    one r true is row =
        let at : r.partner ≡ p = eqb-true r.partner p (and_parts (nat_eq r.partner p) (same_key r.key k) is).0 in
        ⊎_elim (λ e. inl (e ∙ ap said (sym at)))
        (λ due. inr (due.0, (refl, subst (λ x. Due n x later) (sym at) due.1))) new

    made : P (new_link p k a b)
    made = ⊎_elim (λ e. inl e) (λ due. inr (due.0, (refl, due.1))) new

    by_has : (t : Bool)
        → AllByRecursion P (cond t (at_link p k (revived a b) links) (links ++ new_link p k a b ∷ []))
    by_has true = mapped P P (λ r. cond (is_link p k r) (revived a b r) r) (λ r row. one r (is_link p k r) refl row)
        links all
    by_has false = all-append P links (new_link p k a b ∷ []) all (made, tt)

-- a device is told, untold, or made live
abbrev set_at : ℕ → Bool → (ℕ → Bool) → ℕ → Bool
set_at d b said x = cond (nat_eq d x) b (said x)

set_rows : (said : ℕ → Bool) (centre : Bool) (n : ℕ) (later : List Line) (d : ℕ) (b : Bool) (links : List LinkKey)
    → AllByRecursion (λ (r : LinkKey). RowTold said centre n later r ⊎ (is_live_of d r ≡ true)) links
    → AllByRecursion (RowTold (set_at d b said) centre n later) (with_told d b links)
set_rows said centre n later d b links all =
    mapped (λ (r : LinkKey). RowTold said centre n later r ⊎ (is_live_of d r ≡ true))
    (RowTold (set_at d b said) centre n later) (λ r. cond (is_live_of d r) (told_as b r) r)
    (λ r row. one r (is_live_of d r) refl row) links all
  where
    here : (r : LinkKey) → is_live_of d r ≡ true → b ≡ (r.live && set_at d b said r.partner)
    here r is =
        let both = and_parts r.live (nat_eq r.partner d) is in
        ap (λ x. cond x b (said r.partner)) (sym (eq-eqb d r.partner (sym (eqb-true r.partner d both.1))))
        ∙ ap (λ x. x && set_at d b said r.partner) (sym both.0)

    off : (lv x : Bool) → x ≡ true → (lv && x) ≡ false → lv ≡ false
    off true x e q = sym (e) ∙ q
    off false x e q = refl

    there : (r : LinkKey) → is_live_of d r ≡ false → r.told ≡ (r.live && said r.partner) → (t : Bool)
        → nat_eq d r.partner ≡ t → r.told ≡ (r.live && cond t b (said r.partner))
    there r not_it e false q = e
    there r not_it e true q =
        let dead : r.live ≡ false =
        off r.live (nat_eq r.partner d) (eq-eqb r.partner d (sym (eqb-true d r.partner q))) not_it in
        e ∙ ap (λ x. x && said r.partner) dead ∙ ap (λ x. x && b) (sym dead)

    one : (r : LinkKey) (t : Bool) → is_live_of d r ≡ t → RowTold said centre n later r ⊎ (is_live_of d r ≡ true)
        → RowTold (set_at d b said) centre n later (cond t (told_as b r) r)
    one r true is row = inl (here r is)
    one r false is (inl (inl e)) = inl (there r is e (nat_eq d r.partner) refl)
    one r false is (inl (inr due)) = inr due
    one r false is (inr live) = absurd (false≢true (sym is ∙ live))

abbrev pub Now : (ℕ → Bool) → Line → ℕ → Bool
Now said l d = tells d l (said d)

set_now : (said : ℕ → Bool) (n : ℕ) (later : List Line) (d : ℕ) (b : Bool) (s : NodeState)
    → (is_centre s.role ≡ false → b ≡ false)
    → AllByRecursion (λ (r : LinkKey). RowTold said (is_centre s.role) n later r ⊎ (is_live_of d r ≡ true)) s.links
    → (is_centre s.role ≡ false → (x : ℕ) → said x ≡ false)
    → Telling (set_at d b said) n later (record s { links = with_told d b s.links })
set_now said n later d b s alone rows member = record {
  rows = set_rows said (is_centre s.role) n later d b s.links rows;
  member = λ m x. by_test m x (nat_eq d x);
}
  where
    by_test : is_centre s.role ≡ false → (x : ℕ) (t : Bool) → cond t b (said x) ≡ false
    by_test m x true = alone m
    by_test m x false = member m x

abbrev Either : (ℕ → Bool) → Bool → ℕ → List Line → ℕ → LinkKey → Type 0
Either said centre n later d r = RowTold said centre n later r ⊎ (is_live_of d r ≡ true)

first_of : (said : ℕ → Bool) (centre : Bool) (n : ℕ) (later : List Line) (d : ℕ) (links : List LinkKey)
    → AllByRecursion (RowTold said centre n later) links → AllByRecursion (Either said centre n later d) links
first_of said centre n later d links a =
    all-map (RowTold said centre n later) (Either said centre n later d) (λ r row. inl row) links a

-- the line that makes a device live is the one that was to come
live_comes : (said : ℕ → Bool) (centre : Bool) (n e m : ℕ) (later : List Line) (d : ℕ) (links : List LinkKey)
    → AllByRecursion (RowTold said centre n (Changed e m (Moved (Live d)) ∷ later)) links
    → AllByRecursion (Either said centre n later d) links
live_comes said centre n e m later d links a =
    all-map (RowTold said centre n (Changed e m (Moved (Live d)) ∷ later)) (Either said centre n later d) one links a
  where
    one : (r : LinkKey) → RowTold said centre n (Changed e m (Moved (Live d)) ∷ later) r
        → Either said centre n later d r
    one r (inl t) = inl (inl t)
    one r (inr due) =
        ⊎_elim (λ is. inr (ap (λ x. x && nat_eq r.partner d) due.1.0 ∙ eq-eqb r.partner d (sym is.1)))
        (λ more. inl (inr (due.0, (due.1.0, more)))) due.1.1

rolled : (said : ℕ → Bool) (n : ℕ) (later : List Line) (b : Bool) (s : NodeState) → Telling said n later s
    → Telling (λ d. cond b false (said d)) n later
    (record s { sending = b; links = cond b (map (told_as false) s.links) s.links })
rolled said n later true s t = record {
  rows = mapped (RowTold said (is_centre s.role) n later) (RowTold (λ d. false) (is_centre s.role) n later)
      (told_as false) (λ r row. inl (sym (and_false r.live))) s.links t.rows;
  member = λ m d. refl;
}
rolled said n later false s t = record { rows = t.rows; member = t.member }

dropped_row : (said : ℕ → Bool) (centre : Bool) (n : ℕ) (later : List Line) (p : ℕ) (k : Bytes) (r : LinkKey)
    (t : Bool) → RowTold said centre n later r → RowTold said centre n later (cond t (dropped_link r) r)
dropped_row said centre n later p k r true row = inl refl
dropped_row said centre n later p k r false row = row

pub moved_tells : (said : ℕ → Bool) (n e m : ℕ) (move : Move) (later : List Line) (s : NodeState)
    → TellsLine (Changed e m (Moved move)) s later → m ≡ n
    → Telling said n (Changed e m (Moved move) ∷ later) s
    → Telling (Now said (Changed e m (Moved move))) n later (moved move s)
moved_tells said n e m (Draw k) later s asks own t0 =
    let t = past said n (Changed e m (Moved (Draw k))) later s (λ d is. is) t0 in
    record { rows = t.rows; member = t.member }
moved_tells said n e m (DropNet k) later s asks own t0 =
    let t = past said n (Changed e m (Moved (DropNet k))) later s (λ d is. is) t0 in
    record { rows = t.rows; member = t.member }
moved_tells said n e m (DropLink p k) later s asks own t0 =
    let t = past said n (Changed e m (Moved (DropLink p k))) later s (λ d is. is) t0 in
    record {
      rows = mapped (RowTold said (is_centre s.role) n later) (RowTold said (is_centre s.role) n later)
          (λ r. cond (is_link p k r) (dropped_link r) r)
          (λ r row. dropped_row said (is_centre s.role) n later p k r (is_link p k r) row) s.links t.rows;
      member = t.member;
    }
moved_tells said n e m (Install k q) later s asks own t0 =
    let t = past said n (Changed e m (Moved (Install k q))) later s (λ d is. is) t0 in
    record { rows = t.rows; member = t.member }
moved_tells said n e m (Active k) later s asks own t0 =
    let t = past said n (Changed e m (Moved (Active k))) later s (λ d is. is) t0 in
    record { rows = t.rows; member = t.member }
moved_tells said n e m (Row p k a) later s asks own t0 =
    let t = past said n (Changed e m (Moved (Row p k a))) later s (λ d is. is) t0 in
    record {
      rows = row_comes said (is_centre s.role) n later p k a (is_told s p) s.links
          (new_row said n later s p t (⊎_elim (λ live. inl live)
          (λ more. inr (⊎_elim (λ due. inl (subst (λ x. Due x p later) own due)) (λ other. inr other) more)) asks))
          t.rows;
      member = t.member;
    }
moved_tells said n e m (Pair a b k) later s asks own t0 =
    let t = past said n (Changed e m (Moved (Pair a b k))) later s (λ d is. is) t0 in
    record { rows = t.rows; member = t.member }
moved_tells said n e m (Became g) later s asks own t0 =
    let t = past said n (Changed e m (Moved (Became g))) later s (λ d is. is) t0 in
    record { rows = t.rows; member = t.member }
moved_tells said n e m (Live d) later s asks own t0 =
    set_now said n later d false s (λ c. refl) (live_comes said (is_centre s.role) n e m later d s.links t0.rows)
    t0.member
moved_tells said n e m (Removed d) later s asks own t0 =
    let t = past said n (Changed e m (Moved (Removed d))) later s (λ x is. is) t0 in
    record { rows = t.rows; member = t.member }
moved_tells said n e m (Roll b) later s asks own t0 =
    rolled said n later b s (past said n (Changed e m (Moved (Roll b))) later s (λ x is. is) t0)
moved_tells said n e m (Told d) later s asks own t0 =
    let t = past said n (Changed e m (Moved (Told d))) later s (λ x is. is) t0 in
    set_now said n later d true s (λ c. absurd (false≢true (sym c ∙ asks)))
    (first_of said (is_centre s.role) n later d s.links t.rows) t.member
moved_tells said n e m (Untold d) later s asks own t0 =
    let t = past said n (Changed e m (Moved (Untold d))) later s (λ x is. is) t0 in
    set_now said n later d false s (λ c. refl) (first_of said (is_centre s.role) n later d s.links t.rows) t.member

-- ---- one own line

edit_tells : (said : ℕ → Bool) (n e m : ℕ) (edit : Edit) (later : List Line) (s : NodeState)
    → TellsLine (Changed e m edit) s later → m ≡ n → Telling said n (Changed e m edit ∷ later) s
    → Telling (Now said (Changed e m edit)) n later (applied edit s)
unfolding applied
edit_tells said n e m (Reserve Nwk v) later s asks own t0 =
    let t = past said n (Changed e m (Reserve Nwk v)) later s (λ d is. is) t0 in
    record { rows = t.rows; member = t.member }
edit_tells said n e m (Reserve Aps v) later s asks own t0 =
    let t = past said n (Changed e m (Reserve Aps v)) later s (λ d is. is) t0 in
    record { rows = t.rows; member = t.member }
edit_tells said n e m (Floor Nwk k p v) later s asks own t0 =
    let t = past said n (Changed e m (Floor Nwk k p v)) later s (λ d is. is) t0 in
    record { rows = t.rows; member = t.member }
edit_tells said n e m (Floor Aps k p v) later s asks own t0 =
    let t = past said n (Changed e m (Floor Aps k p v)) later s (λ d is. is) t0 in
    record {
      rows = plain_at said (is_centre s.role) n later (link_floor v)
          (record { partner = λ r. refl; live = λ r. refl; told = λ r. refl }) p k s.links t.rows;
      member = t.member;
    }
edit_tells said n e m (Start k v) later s asks own t0 =
    let t = past said n (Changed e m (Start k v)) later s (λ d is. is) t0 in
    record { rows = t.rows; member = t.member }
edit_tells said n e m (Moved move) later s asks own t0 = moved_tells said n e m move later s asks own t0

heard_tells : (said : ℕ → Bool) (n : ℕ) (later : List Line) (layer : Layer) (k : Bytes) (p c : ℕ) (s : NodeState)
    → Telling said n later s → Telling said n later (after_hearing layer k p c s)
unfolding after_hearing
heard_tells said n later Nwk k p c s t = record { rows = t.rows; member = t.member }
heard_tells said n later Aps k p c s t = record {
  rows = plain_at said (is_centre s.role) n later (link_kept (c + 1))
      (record { partner = λ r. refl; live = λ r. refl; told = λ r. refl }) p k s.links t.rows;
  member = t.member;
}

sealed_tells : (said : ℕ → Bool) (n : ℕ) (later : List Line) (layer : Layer) (x : Term) (s : NodeState)
    → Telling said n later s → Telling said n later (sealed_at layer x s)
sealed_tells said n later Nwk x s t = record { rows = t.rows; member = t.member }
sealed_tells said n later Aps x s t = record { rows = t.rows; member = t.member }

boot_tells : (said : ℕ → Bool) (n : ℕ) (later : List Line) (s : NodeState) → Telling said n later s
    → Telling said n later (after_boot s)
unfolding after_boot
boot_tells said n later s t = record {
  rows = plain_all said (is_centre s.role) n later booted_link
      (record { partner = λ r. refl; live = λ r. refl; told = λ r. refl }) s.links t.rows;
  member = t.member;
}

-- no line of the start
abbrev pub Later : Line → Type 0
Later (Declared p) = ⊥
Later (GivenNet n k q) = ⊥
Later (GivenLink n p k) = ⊥
Later (Counter n layer v) = ⊥
Later _ = Unit {0}

pub line_tells : (said : ℕ → Bool) (n : ℕ) (l : Line) (later : List Line) (s : NodeState) → Later l
    → TellsLine l s later → speaker l ≡ n → Telling said n (l ∷ later) s
    → Telling (Now said l) n later (after l s)
unfolding speaker after after_accepting after_sealing
line_tells said n (Declared p) later s late asks own t = absurd late
line_tells said n (GivenNet m k q) later s late asks own t = absurd late
line_tells said n (GivenLink m p k) later s late asks own t = absurd late
line_tells said n (Counter m layer v) later s late asks own t = absurd late
line_tells said n (Changed e m edit) later s late asks own t = edit_tells said n e m edit later s asks own t
line_tells said n (Accept e m x) later s late asks own t =
    heard_tells said n later x.layer x.base x.source x.counter s
    (past said n (Accept e m x) later s (λ d is. is) t)
line_tells said n (Seal e m x) later s late asks own t =
    sealed_tells said n later x.layer x s (past said n (Seal e m x) later s (λ d is. is) t)
line_tells said n (Boot e m) later s late asks own t =
    boot_tells said n later s (past said n (Boot e m) later s (λ d is. is) t)
line_tells said n (Commit e m) later s late asks own t =
    past said n (Commit e m) later s (λ d is. is) t
line_tells said n (Refuse e m place reason) later s late asks own t =
    past said n (Refuse e m place reason) later s (λ d is. is) t
line_tells said n (Forge e x) later s late asks own t =
    past said n (Forge e x) later s (λ d is. is) t
line_tells said n (Send e m frame bytes) later s late asks own t =
    past said n (Send e m frame bytes) later s (λ d is. is) t
line_tells said n (Inject e frame bytes) later s late asks own t =
    past said n (Inject e frame bytes) later s (λ d is. is) t
line_tells said n (Stopped e m) later s late asks own t =
    past said n (Stopped e m) later s (λ d is. is) t
line_tells said n (DownReset e m) later s late asks own t =
    past said n (DownReset e m) later s (λ d is. is) t
line_tells said n (DownDisk e m) later s late asks own t =
    past said n (DownDisk e m) later s (λ d is. is) t
line_tells said n (Dump e m bytes) later s late asks own t =
    past said n (Dump e m bytes) later s (λ d is. is) t
line_tells said n (End events seals accepts refusals ideal private) later s late asks
    own t =
    past said n (End events seals accepts refusals ideal private) later s
    (λ d is. is) t

live_speaker : (n d : ℕ) (l : Line) → MakesLive n d l → speaker l ≡ n
unfolding speaker
live_speaker n d (Changed e m (Moved (Live x))) is = is.0
live_speaker n d _ is = absurd is

-- another node's line
pub other_tells : (said : ℕ → Bool) (n : ℕ) (l : Line) (later : List Line) (s : NodeState)
    → nat_eq (speaker l) n ≡ false → Telling said n (l ∷ later) s → Telling said n later s
other_tells said n l later s other t = past said n l later s
    (λ d is. false≢true (sym other ∙ eq-eqb (speaker l) n (live_speaker n d l is))) t
