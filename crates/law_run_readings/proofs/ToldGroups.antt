-- Which devices the centre told of a rollover, after the lines of whole groups: what lines say of a device and of its
-- rows is what the state says.
use Rattle.std.proofs.Common.{◌≡◌, ℕ, inl, inr, ⊎_elim, Bool, true, false, cond, ◌&&◌, List, [], ◌∷◌, ◌++◌, Option, Some, None, option_map, find, nat_eq, refl, sym, ap, ◌∙◌, subst, append_assoc, eqb-true}
use Rattle.std.proofs.lemmas.Bool.{and_parts}
use Rattle.std.proofs.lemmas.List.Sums.{fold-append}
use Rattle.std.specs.List.{AllByRecursion}
use Rattle.zb_model.specs.Data.{Bytes, Nwk, Aps, Attribute, Provisional}
use Rattle.zb_model.specs.Lines.{Line, Declared, GivenNet, GivenLink, Counter}
use Rattle.zb_model.specs.State.{LinkKey, NodeState, same_key, is_centre, has_link, is_link, is_told, at_link, with_link, new_link, revived, with_given_net, with_given_link, with_declared}
use Rattle.zb_model.specs.Readings.{speaker, after, heard_line, state_of}
use Rattle.zb_model.specs.Play.{Schedule, start}
use Rattle.law_run.proofs.Basics.{append-nil', state-snoc}
use Rattle.law_run.proofs.FreshLines.{all-append, all-map, heard-keeps}
use Rattle.law_run.proofs.Judged.{all-in, found-element}
use Rattle.law_run_counters.proofs.Events.{IsStart, start-are}
use Rattle.law_run_readings.specs.LastLines.{flat}
use Rattle.law_run_readings.specs.RowLines.{LinkSaid, link_said, tells, told, told_live, told_of_state, told_row}
use Rattle.law_run_readings.proofs.Lines.{FitsChange, FitsChanges}
use Rattle.law_run_readings.proofs.OwnLines.{links_said, lives_said}
use Rattle.law_run_readings.proofs.Telling.{Later, Now, RowTold, Telling, TellsLine, and_false, is_told_by, line_tells, other_tells, same_telling}

-- while these lines are still to come
abbrev pub ToldAt : List Line → ℕ → List Line → Type 0
ToldAt h n later = Telling (told h n) n later (state_of h n)

-- ---- one more line

said_snoc : (h : List Line) (l : Line) (n d : ℕ) → told (h ++ l ∷ []) n d
    ≡ cond (nat_eq (speaker l) n) (tells d l (told h n d)) (told h n d)
unfolding told
said_snoc h l n d = fold-append (λ found x. cond (nat_eq (speaker x) n) (tells d x found) found) false h (l ∷ [])

told_line : (h : List Line) (l : Line) (later : List Line) (n : ℕ)
    → (nat_eq (speaker l) n ≡ true → Later l × TellsLine l (state_of h n) later) → ToldAt h n (l ∷ later)
    → ToldAt (h ++ l ∷ []) n later
unfolding heard_line
told_line h l later n asks t = subst (Telling (told (h ++ l ∷ []) n) n later) (sym (state-snoc h l n))
    (by_speaker (nat_eq (speaker l) n) refl)
  where
    s : NodeState
    s = state_of h n

    now : (b : Bool) → nat_eq (speaker l) n ≡ b → (d : ℕ)
        → cond b (tells d l (told h n d)) (told h n d) ≡ told (h ++ l ∷ []) n d
    now b e d = ap (λ x. cond x (tells d l (told h n d)) (told h n d)) (sym e) ∙ sym (said_snoc h l n d)

    by_speaker : (b : Bool) → nat_eq (speaker l) n ≡ b → Telling (told (h ++ l ∷ []) n) n later (cond b (after l s) s)
    by_speaker true e =
        same_telling (Now (told h n) l) (told (h ++ l ∷ []) n) n later (after l s) (now true e)
        (line_tells (told h n) n l later s (asks e).0 (asks e).1 (eqb-true (speaker l) n e) t)
    by_speaker false e =
        same_telling (told h n) (told (h ++ l ∷ []) n) n later s (now false e)
        (other_tells (told h n) n l later s e t)

-- ---- the lines of a group

later_is : (was : Bytes → Bool) (l : Line) (s : NodeState) → FitsChange was l s → Later l
later_is was (Declared p) s fits = absurd fits
later_is was (GivenNet n k q) s fits = absurd fits
later_is was (GivenLink n p k) s fits = absurd fits
later_is was (Counter n layer v) s fits = absurd fits
later_is was _ s fits = tt

pub told_group : (before : List (List Line)) (front ls : List Line) (n : ℕ) → FitsChanges before n front ls
    → ToldAt (flat before ++ front) n ls → ToldAt (flat before ++ (front ++ ls)) n []
told_group before front [] n fits t = subst (λ x. ToldAt (flat before ++ x) n []) (sym (append-nil' front)) t
told_group before front (l ∷ ls) n fits t =
    subst (λ x. ToldAt (flat before ++ x) n []) (append_assoc front (l ∷ []) ls)
    (told_group before (front ++ l ∷ []) ls n fits.1
    (subst (λ x. ToldAt x n ls) (append_assoc (flat before) front (l ∷ []))
    (told_line (flat before ++ front) l ls n
    (λ own. (later_is _ l (state_of (flat before ++ front) n) (fits.0 own).0, (fits.0 own).1)) t)))

-- a group begins
pub told_begins : (h ls : List Line) (n : ℕ) → ToldAt h n [] → ToldAt h n ls
told_begins h ls n t = record {
  rows = all-map (RowTold (told h n) centre n []) (RowTold (told h n) centre n ls) one (state_of h n).links t.rows;
  member = t.member;
}
  where
    centre : Bool
    centre = is_centre (state_of h n).role

    one : (r : LinkKey) → RowTold (told h n) centre n [] r → RowTold (told h n) centre n ls r
    one r (inl e) = inl e
    one r (inr due) = absurd due.1.1

-- ---- the start

abbrev NoneTold : NodeState → Type 0
NoneTold s = AllByRecursion (λ (r : LinkKey). r.told ≡ false) s.links

given_none : (p : ℕ) (k : Bytes) (a : Attribute) (links : List LinkKey)
    → AllByRecursion (λ (r : LinkKey). r.told ≡ false) links
    → AllByRecursion (λ (r : LinkKey). r.told ≡ false) (with_link p k a false links)
given_none p k a links none = by_has (has_link p k links)
  where
    one : (b : Bool) (r : LinkKey) → r.told ≡ false → (cond b (revived a false r) r).told ≡ false
    one true r e = refl
    one false r e = e

    all : (rs : List LinkKey) → AllByRecursion (λ (r : LinkKey). r.told ≡ false) rs
        → AllByRecursion (λ (r : LinkKey). r.told ≡ false) (at_link p k (revived a false) rs)
    all [] e = tt
    all (r ∷ rs) e = (one (is_link p k r) r e.0, all rs e.1)

    by_has : (b : Bool) → AllByRecursion (λ (r : LinkKey). r.told ≡ false)
        (cond b (at_link p k (revived a false) links) (links ++ new_link p k a false ∷ []))
    by_has true = all links none
    by_has false = all-append (λ (r : LinkKey). r.told ≡ false) links (new_link p k a false ∷ []) none (refl, tt)

start_line : (l : Line) (s : NodeState) → IsStart l → NoneTold s → NoneTold (after l s)
unfolding after with_given_net with_given_link with_declared IsStart
start_line (Declared p) s is none = none
start_line (GivenNet n k q) s is none = none
start_line (GivenLink n p k) s is none = given_none p k Provisional s.links none
start_line (Counter n Nwk v) s is none = none
start_line (Counter n Aps v) s is none = none
start_line _ s is none = absurd is

start_says : (d : ℕ) (l : Line) (x : Bool) → IsStart l → tells d l x ≡ x
unfolding IsStart
start_says d (Declared p) x is = refl
start_says d (GivenNet n k q) x is = refl
start_says d (GivenLink n p k) x is = refl
start_says d (Counter n layer v) x is = refl
start_says d _ x is = absurd is

starts_tell : (h ls : List Line) (n : ℕ) → AllByRecursion IsStart ls → NoneTold (state_of h n)
    → ((d : ℕ) → told h n d ≡ false) → NoneTold (state_of (h ++ ls) n) × ((d : ℕ) → told (h ++ ls) n d ≡ false)
starts_tell h [] n is none said = (
  subst (λ x. NoneTold (state_of x n)) (sym (append-nil' h)) none,
  λ d. ap (λ x. told x n d) (append-nil' h) ∙ said d,
)
starts_tell h (l ∷ ls) n is none said =
    subst (λ x. NoneTold (state_of x n) × ((d : ℕ) → told x n d ≡ false)) (append_assoc h (l ∷ []) ls)
    (starts_tell (h ++ l ∷ []) ls n is.1
    (subst NoneTold (sym (state-snoc h l n))
    (heard-keeps NoneTold n l (state_of h n) (λ own. start_line l (state_of h n) is.0 none) none))
    (λ d. said_snoc h l n d ∙ by_speaker d (nat_eq (speaker l) n)))
  where
    by_speaker : (d : ℕ) (b : Bool) → cond b (tells d l (told h n d)) (told h n d) ≡ false
    by_speaker d true = start_says d l (told h n d) is.0 ∙ said d
    by_speaker d false = said d

none_at_first : (n : ℕ) → NoneTold (state_of [] n)
unfolding state_of
none_at_first n = tt

said_at_first : (n d : ℕ) → told [] n d ≡ false
unfolding told
said_at_first n d = refl

pub told_start : (w : Schedule) (n : ℕ) → ToldAt (start w) n []
told_start w n =
    let both = starts_tell [] (start w) n (start-are w) (none_at_first n) (said_at_first n) in
    record {
      rows = all-map (λ (r : LinkKey). r.told ≡ false)
          (RowTold (told (start w) n) (is_centre (state_of (start w) n).role) n [])
          (λ r e. inl (e ∙ sym (ap (λ b. r.live && b) (both.1 r.partner) ∙ and_false r.live)))
          (state_of (start w) n).links both.0;
      member = λ m d. both.1 d;
    }

-- ---- what is said is what the state says

pub told_devices : (h : List Line) (n d : ℕ) → ToldAt h n [] → told_live h n d ≡ is_told (state_of h n) d
unfolding told_live
told_devices h n d t =
    ap (λ b. b && told h n d) (lives_said h n d)
    ∙ ⊎_elim (λ e. sym e) (λ due. absurd due.1) (is_told_by (told h n) n [] (state_of h n) d t)

pub told_links : (h : List Line) (n p : ℕ) (k : Bytes) → ToldAt h n []
    → told_row h n p k ≡ told_of_state p k (state_of h n)
unfolding told_row
told_links h n p k t =
    ap (option_map (λ (x : LinkSaid). x.live && told h n p)) (sym (links_said h n p k))
    ∙ by_row (find (is_link p k) (state_of h n).links) refl
  where
    links : List LinkKey
    links = (state_of h n).links

    P : LinkKey → Type 0
    P = RowTold (told h n) (is_centre (state_of h n).role) n []

    one : (r : LinkKey) → r.partner ≡ p → P r → (r.live && told h n p) ≡ r.told
    one r at (inl e) = ap (λ x. r.live && told h n x) (sym at) ∙ sym e
    one r at (inr due) = absurd due.1.1

    by_row : (o : Option LinkKey) → find (is_link p k) links ≡ o
        → option_map (λ (x : LinkSaid). x.live && told h n p) (option_map link_said o)
        ≡ option_map (λ (r : LinkKey). r.told) o
    by_row None e = refl
    by_row (Some r) e =
        let f = found-element (is_link p k) links r e in
        ap Some
        (one r (eqb-true r.partner p (and_parts (nat_eq r.partner p) (same_key r.key k) f.1).0)
        (all-in P links t.rows r f.0))
