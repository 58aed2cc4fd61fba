-- If what a node accepted under a link key is below a number, the key's floor is at most a block above that number.
use Rattle.std.proofs.Common.{◌≡◌, ℕ, ◌+◌, ◌-◌, ◌<◌, ◌≤◌, max, Bool, true, false, cond, not, List, [], ◌∷◌, fold, find, map, reverse, Some, is_some, nat_eq, refl, sym, ap, ◌∙◌, arith, eqb-true, subst}
use Rattle.std.proofs.lemmas.Bool.{false≢true}
use Rattle.std.specs.List.{AllByRecursion}
use Rattle.zb_model.specs.Data.{Bytes, Layer, Nwk, Aps, Attribute, Provisional, Term, Device, Move, DropLink, Row, Live, Roll, Told, Untold, Edit, Reserve, Floor, Start, Moved}
use Rattle.zb_model.specs.Lines.{Line, GivenLink, Counter, Changed, Accept, Seal, Boot}
use Rattle.zb_model.specs.Play.{Schedule, setting_of}
use Rattle.zb_model.specs.Readings.{state_of, heard_line, after, speaker}
use Rattle.zb_model.specs.State.{LinkKey, NodeState, new_node, same_key, is_link, has_link, is_live_of, is_unverified, is_told, dropped_link, link_floor, told_as, revived, new_link, with_link, with_told, moved, applied, sealed_at, after_sealing, link_kept, after_hearing, after_accepting, booted_link, after_boot, with_given_net, with_given_link, with_declared, current, next_counter}
use Rattle.law_change_fits.proofs.Parts.{same_key_is, same_key_of}
use Rattle.law_change_fits.proofs.Tests.{both}
use Rattle.law_recovery.proofs.Rows.{found_test, is_current}
use Rattle.law_run.proofs.FreshLines.{all-append, heard-keeps}
use Rattle.law_run.proofs.Judged.{all-in, found-element, in-reverse}
use Rattle.law_recovery.specs.Fronts.{Front}
use Rattle.law_recovery.specs.Rounds.{CameFrom, IsBelow}

-- the row of a partner with a key has both floors within a bound
abbrev pub Within : ℕ → Bytes → ℕ → LinkKey → Type 0
Within c key most r = is_link c key r ≡ true → (r.kept ≤ most) × (r.stored ≤ most)

abbrev pub AllWithin : ℕ → Bytes → ℕ → List LinkKey → Type 0
AllWithin c key most rs = AllByRecursion (Within c key most) rs

pub if_then : {X : Type 0} (P : X → Type 0) (b : Bool) (x y : X) → (b ≡ true → P x) → P y → P (cond b x y)
if_then P true x y p q = p refl
if_then P false x y p q = q

pub mapped : {X : Type 0} (P : X → Type 0) (f : X → X) → ((x : X) → P x → P (f x)) → (xs : List X)
    → AllByRecursion P xs → AllByRecursion P (map f xs)
mapped P f keeps [] all = tt
mapped P f keeps (x ∷ xs) all = (keeps x all.0, mapped P f keeps xs all.1)

-- rows that a test picks are changed
pub changed : {X : Type 0} (P : X → Type 0) (test : X → Bool) (f : X → X) → ((x : X) → test x ≡ true → P x → P (f x))
    → (xs : List X) → AllByRecursion P xs → AllByRecursion P (map (λ x. cond (test x) (f x) x) xs)
changed P test f keeps [] all = tt
changed P test f keeps (x ∷ xs) all =
    (if_then P (test x) (f x) x (λ e. keeps x e all.0) all.0, changed P test f keeps xs all.1)

link_in : (c : ℕ) (k : Bytes) (most partner : ℕ) (key : Bytes) (a : Attribute) (told : Bool) (rs : List LinkKey)
    → AllWithin c k most rs → AllWithin c k most (with_link partner key a told rs)
link_in c k most partner key a told rs all =
    if_then (λ (l : List LinkKey). AllWithin c k most l) (has_link partner key rs) _ _
    (λ e. changed (Within c k most) (is_link partner key) (revived a told) (λ r t x. x) rs all)
    (all-append (Within c k most) rs (new_link partner key a told ∷ []) all (new_within, tt))
  where
    new_within : Within c k most (new_link partner key a told)
    new_within e = (omega arith, omega arith)

told_in : (c : ℕ) (k : Bytes) (most partner : ℕ) (told : Bool) (rs : List LinkKey) → AllWithin c k most rs
    → AllWithin c k most (with_told partner told rs)
told_in c k most partner told rs all =
    changed (Within c k most) (is_live_of partner) (told_as told) (λ r t x. x) rs all

after_move : (c : ℕ) (k : Bytes) (most : ℕ) (m : Move) (s : NodeState) → AllWithin c k most s.links
    → AllWithin c k most (moved m s).links
after_move c k most (DropLink partner key) s all =
    changed (Within c k most) (is_link partner key) dropped_link (λ r t x. x) s.links all
after_move c k most (Row partner key attribute) s all =
    link_in c k most partner key attribute (is_told s partner) s.links all
after_move c k most (Live device) s all = told_in c k most device false s.links all
after_move c k most (Roll sending) s all =
    if_then (λ (l : List LinkKey). AllWithin c k most l) sending _ _
    (λ e. mapped (Within c k most) (told_as false) (λ r x. x) s.links all) all
after_move c k most (Told device) s all = told_in c k most device true s.links all
after_move c k most (Untold device) s all = told_in c k most device false s.links all
after_move c k most _ s all = all

-- the row is that of the partner and the key
abbrev same_row : ℕ → Bytes → LinkKey → Type 0
same_row p k r = (r.partner ≡ p) × (r.key ≡ k)

row_is : (p : ℕ) (k : Bytes) (r : LinkKey) → is_link p k r ≡ true → same_row p k r
row_is p k r e =
    let parts = both (nat_eq r.partner p) (same_key r.key k) e in
    (eqb-true r.partner p parts.0, same_key_is r.key k parts.1)

below_max : (a b most : ℕ) → a ≤ most → b ≤ most → max a b ≤ most
below_max a b most x y = omega (arith, x, y)

floor_within : (c : ℕ) (k : Bytes) (most sender : ℕ) (key : Bytes) (value : ℕ)
    → (key ≡ k → sender ≡ c → value ≤ most) → (r : LinkKey) → is_link sender key r ≡ true → Within c k most r
    → Within c k most (link_floor value r)
floor_within c k most sender key value fits r at within e =
    let mine = row_is sender key r at in
    let its = row_is c k r e in
    let old = within e in (
      old.0,
      below_max r.stored value most old.1 (fits (sym mine.1 ∙ its.1)
          (sym mine.0 ∙ its.0)),
    )

kept_within : (c : ℕ) (k : Bytes) (most sender : ℕ) (key : Bytes) (counter : ℕ)
    → (key ≡ k → sender ≡ c → counter < most) → (r : LinkKey) → is_link sender key r ≡ true → Within c k most r
    → Within c k most (link_kept (counter + 1) r)
kept_within c k most sender key counter fits r at within e =
    let mine = row_is sender key r at in
    let its = row_is c k r e in
    let less = fits (sym mine.1 ∙ its.1) (sym mine.0 ∙ its.0) in
    (omega (arith, less), (within e).1)

after_heard : (l : Layer) (c : ℕ) (k : Bytes) (most : ℕ) (key : Bytes) (sender counter : ℕ) (s : NodeState)
    → (l ≡ Aps → key ≡ k → sender ≡ c → counter < most) → AllWithin c k most s.links
    → AllWithin c k most (after_hearing l key sender counter s).links
unfolding after_hearing
after_heard Nwk c k most key sender counter s fits all = all
after_heard Aps c k most key sender counter s fits all =
    changed (Within c k most) (is_link sender key) (λ r. link_kept (counter + 1) r)
    (kept_within c k most sender key counter (fits refl)) s.links all

after_seal : (l : Layer) (t : Term) (c : ℕ) (k : Bytes) (most : ℕ) (s : NodeState) → AllWithin c k most s.links
    → AllWithin c k most (sealed_at l t s).links
after_seal Nwk t c k most s all = all
after_seal Aps t c k most s all = all

declared : (l : Layer) (value c : ℕ) (k : Bytes) (most : ℕ) (s : NodeState) → AllWithin c k most s.links
    → AllWithin c k most (with_declared l value s).links
unfolding with_declared
declared Nwk value c k most s all = all
declared Aps value c k most s all = all

after_edit : (c : ℕ) (k : Bytes) (number block d e n : ℕ) (edit : Edit) (s : NodeState) → n ≡ d
    → IsBelow Aps number block d c k (Changed e n edit) → AllWithin c k (number + (block - 1)) s.links
    → AllWithin c k (number + (block - 1)) (applied edit s).links
unfolding applied
after_edit c k number block d e n (Floor Aps key sender value) s own below all =
    changed (Within c k (number + (block - 1))) (is_link sender key) (link_floor value)
    (floor_within c k (number + (block - 1)) sender key value (λ x y. at_most (below own refl x y))) s.links all
  where
    at_most : (counter : ℕ) × (counter < number) × (value ≤ counter + block) → value ≤ number + (block - 1)
    at_most x = omega (arith, x.2, x.1)
after_edit c k number block d e n (Moved m) s own below all = after_move c k (number + (block - 1)) m s all
after_edit c k number block d e n (Reserve Nwk limit) s own below all = all
after_edit c k number block d e n (Reserve Aps limit) s own below all = all
after_edit c k number block d e n (Floor Nwk key sender value) s own below all = all
after_edit c k number block d e n (Start key value) s own below all = all

after_line : (c : ℕ) (k : Bytes) (number block d : ℕ) (l : Line) (s : NodeState) → speaker l ≡ d
    → IsBelow Aps number block d c k l → AllWithin c k (number + (block - 1)) s.links
    → AllWithin c k (number + (block - 1)) (after l s).links
unfolding after speaker after_sealing after_accepting after_boot with_given_net with_given_link
after_line c k number block d (GivenLink n partner key) s own below all =
    link_in c k (number + (block - 1)) partner key Provisional false s.links all
after_line c k number block d (Counter n layer limit) s own below all =
    declared layer limit c k (number + (block - 1)) s all
after_line c k number block d (Changed e n edit) s own below all =
    after_edit c k number block d e n edit s own below all
after_line c k number block d (Accept e n t) s own below all =
    after_heard t.layer c k (number + (block - 1)) t.base t.source t.counter s
    (λ layer key source. above (below own layer key source)) all
  where
    above : t.counter < number → t.counter < number + (block - 1)
    above lt = omega (arith, lt)
after_line c k number block d (Seal e n t) s own below all = after_seal t.layer t c k (number + (block - 1)) s all
after_line c k number block d (Boot e n) s own below all =
    mapped (Within c k (number + (block - 1))) booted_link (λ r x e. ((x e).1, (x e).1)) s.links all
after_line c k number block d _ s own below all = all

heard : (c : ℕ) (k : Bytes) (number block d : ℕ) (s : NodeState) (h : List Line)
    → AllByRecursion (IsBelow Aps number block d c k) h → AllWithin c k (number + (block - 1)) s.links
    → AllWithin c k (number + (block - 1)) (fold (heard_line d) s h).links
heard c k number block d s [] below all = all
heard c k number block d s (l ∷ h) below all =
    heard c k number block d (heard_line d s l) h below.1
    (heard-keeps (λ (z : NodeState). AllWithin c k (number + (block - 1)) z.links) d l s
    (λ own. after_line c k number block d l s own below.0 all) all)

-- ---- the current row

pub all_found : {X : Type 0} (P : X → Type 0) (q : X → Bool) (xs : List X) (r : X) → AllByRecursion P xs
    → find q xs ≡ Some r → P r
all_found P q [] r all e = absurd (false≢true (ap is_some e))
all_found {X} P q (x ∷ xs) r all e = by_test (q x) e (λ f. all_found P q xs r all.1 f)
  where
    by_test : (b : Bool) → cond b (Some x) (find q xs) ≡ Some r → (find q xs ≡ Some r → P r) → P r
    by_test true f later = subst P (same f) all.0
      where
        same : Some x ≡ Some r → x ≡ r
        same g = cc
    by_test false f later = later f

-- a row of a partner in which all floors of a key are within a bound
abbrev OwnWithin : ℕ → ℕ → LinkKey → Type 0
OwnWithin c most own = nat_eq own.partner c ≡ true → own.kept ≤ most

own_within : (c most : ℕ) (own : LinkKey) → Within c own.key most own → OwnWithin c most own
own_within c most own within mine = (within (rw (mine, same_key_of own.key own.key refl) refl)).0

pub current_within : (s : NodeState) (c most : ℕ) (own : LinkKey) → current s c ≡ Some own
    → AllWithin c own.key most s.links → own.kept ≤ most
unfolding current
current_within s c most own e all =
    let live = both (is_live_of c own) (not (is_unverified own.attribute)) (found_test (is_current c) s.links own e) in
    own_within c most own (all_found (Within c own.key most) (is_current c) s.links own all e)
    (both own.live (nat_eq own.partner c) live.0).1

tried_within : (s : NodeState) (c most : ℕ) (own : LinkKey) → find (is_live_of c) (reverse s.links) ≡ Some own
    → AllWithin c own.key most s.links → own.kept ≤ most
tried_within s c most own e all =
    let found = found-element (is_live_of c) (reverse s.links) own e in
    own_within c most own (all-in (Within c own.key most) s.links all own (in-reverse own s.links found.0))
    (both own.live (nat_eq own.partner c) found.1).1

-- what is accepted from a under a key leaves the floors of all rows of b with that key at most a block above
pub links_within : (w : Schedule) (x : Front) (a b : ℕ) (key : Bytes) → CameFrom Aps w x a b key
    → AllWithin (setting_of w a).me.eui key
    (next_counter Aps (state_of x.lines a) + ((setting_of w b).me.in_block - 1)) (state_of x.lines b).links
unfolding state_of
links_within w x a b key came =
    heard (setting_of w a).me.eui key (next_counter Aps (state_of x.lines a)) (setting_of w b).me.in_block b
    (new_node Device) x.lines came tt

less_than_block : (kept number block : ℕ) → kept ≤ number + (block - 1) → 1 ≤ block → kept - number < block
less_than_block kept number block most some = omega (arith, most, some)

pub floor_at_most : (w : Schedule) (x : Front) (a b : ℕ) (own : LinkKey)
    → current (state_of x.lines b) (setting_of w a).me.eui ≡ Some own → CameFrom Aps w x a b own.key
    → 1 ≤ (setting_of w b).me.in_block
    → own.kept - next_counter Aps (state_of x.lines a) < (setting_of w b).me.in_block
floor_at_most w x a b own e came some =
    let number = next_counter Aps (state_of x.lines a) in
    let block = (setting_of w b).me.in_block in
    less_than_block own.kept number block
    (current_within (state_of x.lines b) (setting_of w a).me.eui (number + (block - 1)) own e
    (links_within w x a b own.key came)) some

pub tried_at_most : (w : Schedule) (x : Front) (a b : ℕ) (own : LinkKey)
    → find (is_live_of (setting_of w a).me.eui) (reverse (state_of x.lines b).links) ≡ Some own
    → CameFrom Aps w x a b own.key → 1 ≤ (setting_of w b).me.in_block
    → own.kept - next_counter Aps (state_of x.lines a) < (setting_of w b).me.in_block
tried_at_most w x a b own e came some =
    let number = next_counter Aps (state_of x.lines a) in
    let block = (setting_of w b).me.in_block in
    less_than_block own.kept number block
    (tried_within (state_of x.lines b) (setting_of w a).me.eui (number + (block - 1)) own e
    (links_within w x a b own.key came)) some
