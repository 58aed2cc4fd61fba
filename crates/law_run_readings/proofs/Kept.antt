-- The floors in memory after whole groups, of a node with power: the counters that it accepted since its boot set
-- them, and a group that stores a floor accepts a counter for it.
use Rattle.std.proofs.Common.{◌≡◌, ℕ, zero, suc, ◌<◌, ◌+◌, arith, get_or, not-suc-le-zero, Bool, true, false, cond, ◌&&◌, List, [], ◌∷◌, ◌++◌, map, length, Option, Some, None, option_map, find, nat_eq, refl, sym, ap, ◌∙◌, subst, append_assoc, unwrap_or}
use Rattle.std.specs.List.{AllByRecursion}
use Rattle.std.specs.Option.{option_or}
use Rattle.std.proofs.lemmas.Bool.{false≢true}
use Rattle.zb_model.specs.Data.{Bytes, Layer, Nwk, Aps, Term, Edit, Floor, Start, Reserve, Moved}
use Rattle.zb_model.specs.Lines.{Line, Declared, GivenNet, GivenLink, Counter, Changed, Accept, Boot}
use Rattle.zb_model.specs.State.{SenderFloor, NetKey, LinkKey, NodeState, same_key, same_layer, is_link, booted_floor, booted_net, booted_link, floor_of_sender, after_boot}
use Rattle.zb_model.specs.Fits.{net_stored, link_stored}
use Rattle.zb_model.specs.Answer.{Answer}
use Rattle.zb_model.specs.Readings.{speaker, after, heard_line, state_of, air}
use Rattle.zb_model.specs.Claims.{Each}
use Rattle.zb_model.specs.Play.{Schedule, start, group_of, stored_lines, told_lines, commit_lines}
use Rattle.law_run.proofs.Basics.{append-nil', find-map, nat_eq-refl, state-snoc}
use Rattle.law_run.proofs.FloorRows.{of_sender}
use Rattle.law_run.proofs.FreshLines.{all-append, all-map}
use Rattle.law_run.proofs.Nets.{at_key}
use Rattle.law_run.proofs.OnceGroups.{NoAccept, plain}
use Rattle.law_run.proofs.OnceLines.{AcceptFits}
use Rattle.law_run_counters.specs.Floors.{FloorOf}
use Rattle.law_run_counters.proofs.Events.{IsStart, start-are}
use Rattle.law_run_readings.specs.Agreeing.{floor_at, link_memory, memory_at, net_memory}
use Rattle.law_run_readings.specs.LastLines.{accepted_in, accepted_since, floor_in, is_from, kept, last_said, stored}
use Rattle.law_run_readings.proofs.Evens.{AllOwn}
use Rattle.law_run_readings.proofs.Events.{commit_plain, told_plain}
use Rattle.law_run_readings.proofs.Keeping.{stored_is}
use Rattle.law_run_readings.proofs.Lines.{NoChange, last_snoc}
use Rattle.law_run_readings.proofs.Memory.{NoBoot, accepted_snoc, kept_of, lines_memory, memory_is}
use Rattle.law_run_readings.proofs.Rows.{link_at, row_at, stored_of}

-- ---- what is not accepted, and what is not said

abbrev Unaccepted : Layer → Bytes → ℕ → Line → Type 0
Unaccepted layer key sender (Accept e n t) = is_from layer key sender t ≡ false
Unaccepted layer key sender _ = Unit {0}

abbrev is_none : Option ℕ → Type 0
is_none None = Unit {0}
is_none (Some n) = ⊥

-- a line after which nothing is accepted: nothing was before, and it accepts nothing
not_accepted : (layer : Layer) (key : Bytes) (sender : ℕ) (found : Option ℕ) (l : Line) → NoBoot l
    → accepted_in layer key sender found l ≡ None → (found ≡ None) × Unaccepted layer key sender l
not_accepted layer key sender found (Boot e n) free q = absurd free
not_accepted layer key sender found (Accept e n t) free q = by_test (is_from layer key sender t) refl q
  where
    by_test : (b : Bool) → is_from layer key sender t ≡ b → cond b (Some (t.counter + 1)) found ≡ None
        → (found ≡ None) × (is_from layer key sender t ≡ false)
    by_test true is f = absurd (subst is_none (sym f) tt)
    by_test false is f = (f, is)
not_accepted layer key sender found _ free q = (q, tt)

none_accepted : (n : ℕ) (layer : Layer) (key : Bytes) (sender : ℕ) (h ls : List Line) → AllByRecursion NoBoot ls
    → accepted_since n layer key sender (h ++ ls) ≡ None
    → (accepted_since n layer key sender h ≡ None) × AllOwn (Unaccepted layer key sender) n ls
none_accepted n layer key sender h [] free e =
    (ap (accepted_since n layer key sender) (sym (append-nil' h)) ∙ e, tt)
none_accepted n layer key sender h (l ∷ ls) free e =
    let more = none_accepted n layer key sender (h ++ l ∷ []) ls free.1
    (ap (accepted_since n layer key sender) (append_assoc h (l ∷ []) ls) ∙ e) in
    let one = by_own (nat_eq (speaker l) n) refl (sym (accepted_snoc n layer key sender h l) ∙ more.0) in
    (one.0, (one.1, more.1))
  where
    by_own : (b : Bool) → nat_eq (speaker l) n ≡ b
        → cond b (accepted_in layer key sender (accepted_since n layer key sender h) l)
        (accepted_since n layer key sender h) ≡ None
        → (accepted_since n layer key sender h ≡ None)
        × (nat_eq (speaker l) n ≡ true → Unaccepted layer key sender l)
    by_own true is f =
        let p = not_accepted layer key sender (accepted_since n layer key sender h) l free.0 f in (p.0, λ own. p.1)
    by_own false is f = (f, λ own. absurd (false≢true (sym is ∙ own)))

-- own lines that say nothing of a thing
unsaid : {A : Type 0} (n : ℕ) (f : Line → Option A) (h ls : List Line) → AllOwn (λ l. f l ≡ None) n ls
    → last_said n f (h ++ ls) ≡ last_said n f h
unsaid n f h [] none = ap (last_said n f) (append-nil' h)
unsaid n f h (l ∷ ls) none =
    ap (last_said n f) (sym (append_assoc h (l ∷ []) ls)) ∙ unsaid n f (h ++ l ∷ []) ls none.1 ∙ last_snoc n f h l
    ∙ by_own (nat_eq (speaker l) n) refl
  where
    by_own : (b : Bool) → nat_eq (speaker l) n ≡ b
        → option_or (cond b (f l) None) (last_said n f h) ≡ last_said n f h
    by_own true e = ap (λ o. option_or o (last_said n f h)) (none.0 e)
    by_own false e = refl

-- ---- a floor is stored for a counter that is accepted

left_part : {X : Type 0} (P : X → Type 0) (xs ys : List X) → AllByRecursion P (xs ++ ys) → AllByRecursion P xs
left_part P [] ys a = tt
left_part P (x ∷ xs) ys a = (a.0, left_part P xs ys a.1)

right_part : {X : Type 0} (P : X → Type 0) (xs ys : List X) → AllByRecursion P (xs ++ ys) → AllByRecursion P ys
right_part P [] ys a = a
right_part P (x ∷ xs) ys a = right_part P xs ys a.1

at_place : (P : Term → Type 0) (ts : List Term) (i : ℕ) (t : Term) → i < length ts → get_or ts i t ≡ t
    → AllByRecursion P ts → P t
at_place P [] i t lt e a = absurd (not-suc-le-zero lt)
at_place P (x ∷ ts) zero t lt e a = subst P e a.0
at_place P (x ∷ ts) (suc i) t lt e a = at_place P ts i t (omega (arith, lt)) e a.1

abbrev NotFrom : Layer → Bytes → ℕ → Term → Type 0
NotFrom layer key sender t = is_from layer key sender t ≡ false

accepts_none : (layer : Layer) (key : Bytes) (sender number n : ℕ) (ts : List Term)
    → AllOwn (Unaccepted layer key sender) n (map (Accept number n) ts)
    → AllByRecursion (NotFrom layer key sender) ts
unfolding speaker
accepts_none layer key sender number n [] a = tt
accepts_none layer key sender number n (t ∷ ts) a =
    (a.0 (nat_eq-refl n), accepts_none layer key sender number n ts a.1)

floor_none : (layer : Layer) (key : Bytes) (sender block number n : ℕ) (ts : List Term) (e : Edit)
    → FloorOf block ts e → AllByRecursion (NotFrom layer key sender) ts
    → floor_in layer key sender (Changed number n e) ≡ None
floor_none layer key sender block number n ts (Floor l k p v) any none =
    by_test (same_layer l layer && (same_key k key && nat_eq p sender)) refl
  where
    t : Term
    t = any.1

    same : is_from layer key sender t ≡ (same_layer l layer && (same_key k key && nat_eq p sender))
    same =
        ap (λ x. same_layer x layer && (same_key t.base key && nat_eq t.source sender)) any.4.0
        ∙ ap (λ x. same_layer l layer && (same_key x key && nat_eq t.source sender)) any.4.1
        ∙ ap (λ x. same_layer l layer && (same_key k key && nat_eq x sender)) any.4.2

    by_test : (b : Bool) → (same_layer l layer && (same_key k key && nat_eq p sender)) ≡ b
        → cond b (Some v) None ≡ None
    by_test true e = absurd (false≢true
        (sym (at_place (NotFrom layer key sender) ts any.0 t any.2 any.3 none) ∙ same ∙ e))
    by_test false e = refl
floor_none layer key sender block number n ts (Reserve l v) any none = refl
floor_none layer key sender block number n ts (Start k v) any none = refl
floor_none layer key sender block number n ts (Moved m) any none = refl

floors_none : (layer : Layer) (key : Bytes) (sender block number n : ℕ) (ts : List Term) (es : List Edit)
    → AllByRecursion (FloorOf block ts) es → AllByRecursion (NotFrom layer key sender) ts
    → AllOwn (λ l. floor_in layer key sender l ≡ None) n (map (Changed number n) es)
floors_none layer key sender block number n ts [] terms none = tt
floors_none layer key sender block number n ts (e ∷ es) terms none = (
  λ own. floor_none layer key sender block number n ts e terms.0 none,
  floors_none layer key sender block number n ts es terms.1 none,
)

plain_none : (layer : Layer) (key : Bytes) (sender : ℕ) (l : Line) → NoChange l
    → floor_in layer key sender l ≡ None
unfolding NoChange
plain_none layer key sender (Changed e n edit) free = absurd free
plain_none layer key sender _ free = refl

plains_none : (layer : Layer) (key : Bytes) (sender n : ℕ) (ls : List Line) → AllByRecursion NoChange ls
    → AllOwn (λ l. floor_in layer key sender l ≡ None) n ls
plains_none layer key sender n [] free = tt
plains_none layer key sender n (l ∷ ls) free =
    (λ own. plain_none layer key sender l free.0, plains_none layer key sender n ls free.1)

told_accepts : (layer : Layer) (key : Bytes) (sender number n frame : ℕ) (a : Answer)
    → AllOwn (Unaccepted layer key sender) n (told_lines number n frame a)
    → AllByRecursion (NotFrom layer key sender) a.accepts
unfolding told_lines
told_accepts layer key sender number n frame a all =
    accepts_none layer key sender number n a.accepts
    (left_part (λ l. nat_eq (speaker l) n ≡ true → Unaccepted layer key sender l) (map (Accept number n) a.accepts) _
    all)

stored_none : (layer : Layer) (key : Bytes) (sender block number n : ℕ) (a : Answer)
    → AllByRecursion (FloorOf block a.accepts) a.edits → AllByRecursion (NotFrom layer key sender) a.accepts
    → AllOwn (λ l. floor_in layer key sender l ≡ None) n (stored_lines number n a)
unfolding stored_lines
stored_none layer key sender block number n a terms none =
    all-append (λ l. nat_eq (speaker l) n ≡ true → floor_in layer key sender l ≡ None)
    (map (Changed number n) a.edits) (commit_lines number n a.edits)
    (floors_none layer key sender block number n a.accepts a.edits terms none)
    (plains_none layer key sender n (commit_lines number n a.edits) (commit_plain number n a.edits))

group_none : (layer : Layer) (key : Bytes) (sender block : ℕ) (h : List Line) (number n : ℕ) (a : Answer)
    → AllByRecursion (FloorOf block a.accepts) a.edits
    → AllOwn (Unaccepted layer key sender) n (group_of h number n a)
    → AllOwn (λ l. floor_in layer key sender l ≡ None) n (group_of h number n a)
unfolding group_of
group_none layer key sender block h number n a terms free =
    let told = told_lines number n (length (air h) + 1) a in
    all-append (λ l. nat_eq (speaker l) n ≡ true → floor_in layer key sender l ≡ None) (stored_lines number n a) told
    (stored_none layer key sender block number n a terms
    (told_accepts layer key sender number n (length (air h) + 1) a
    (right_part (λ l. nat_eq (speaker l) n ≡ true → Unaccepted layer key sender l) (stored_lines number n a) told
    free))) (plains_none layer key sender n told (told_plain number n (length (air h) + 1) a))

-- a whole group of the node
pub group_kept : (layer : Layer) (key : Bytes) (sender block : ℕ) (h h0 : List Line) (number n : ℕ) (a : Answer)
    → AllByRecursion (FloorOf block a.accepts) a.edits → AllByRecursion NoBoot (group_of h0 number n a)
    → Each AcceptFits h (group_of h0 number n a)
    → memory_at layer key sender (state_of h n) ≡ kept h n layer key sender
    → memory_at layer key sender (state_of (h ++ group_of h0 number n a) n)
    ≡ kept (h ++ group_of h0 number n a) n layer key sender
unfolding kept stored
group_kept layer key sender block h h0 number n a terms free takes is =
    lines_memory n layer key sender (unwrap_or (last_said n (floor_in layer key sender) h) 0) h g free takes is
    ∙ by_found (accepted_since n layer key sender (h ++ g)) refl
  where
    g : List Line
    g = group_of h0 number n a

    by_found : (o : Option ℕ) → accepted_since n layer key sender (h ++ g) ≡ o
        → unwrap_or o (unwrap_or (last_said n (floor_in layer key sender) h) 0)
        ≡ unwrap_or o (unwrap_or (last_said n (floor_in layer key sender) (h ++ g)) 0)
    by_found (Some v) e = refl
    by_found None e =
        ap (λ o. unwrap_or o 0)
        (sym (unsaid n (floor_in layer key sender) h g
        (group_none layer key sender block h0 number n a terms
        (none_accepted n layer key sender h g free e).1)))

-- ---- a boot

mapped_kept : (sender : ℕ) (fs : List SenderFloor) → kept_of sender (map booted_floor fs) ≡ stored_of sender fs
mapped_kept sender fs =
    ap (λ o. (floor_of_sender sender o).kept) (find-map (of_sender sender) booted_floor (λ f. refl) fs) ∙
    by_found (find (of_sender sender) fs)
  where
    by_found : (o : Option SenderFloor)
        → (floor_of_sender sender (option_map booted_floor o)).kept ≡ (floor_of_sender sender o).stored
    by_found None = refl
    by_found (Some f) = refl

booted_memory : (layer : Layer) (key : Bytes) (sender : ℕ) (s : NodeState)
    → memory_at layer key sender (after_boot s) ≡ floor_at layer key sender s
unfolding after_boot
booted_memory Nwk key sender s =
    ap (net_memory sender) (find-map (at_key key) booted_net (λ r. refl) s.nets) ∙ by_row (row_at key s.nets)
  where
    by_row : (o : Option NetKey) → net_memory sender (option_map booted_net o) ≡ net_stored sender o
    by_row None = refl
    by_row (Some r) = memory_is sender (booted_net r) ∙ mapped_kept sender r.floors ∙ sym (stored_is sender r)
booted_memory Aps key sender s =
    ap link_memory (find-map (is_link sender key) booted_link (λ r. refl) s.links)
    ∙ by_row (link_at sender key s.links)
  where
    by_row : (o : Option LinkKey) → link_memory (option_map booted_link o) ≡ link_stored o
    by_row None = refl
    by_row (Some r) = refl

boot_state : (h : List Line) (number n : ℕ) → state_of (h ++ Boot number n ∷ []) n ≡ after_boot (state_of h n)
unfolding heard_line speaker after
boot_state h number n =
    state-snoc h (Boot number n) n ∙ ap (λ b. cond b (after_boot (state_of h n)) (state_of h n)) (nat_eq-refl n)

pub boot_kept : (layer : Layer) (key : Bytes) (sender : ℕ) (h : List Line) (number n : ℕ)
    → stored h n layer key sender ≡ floor_at layer key sender (state_of h n)
    → memory_at layer key sender (state_of (h ++ Boot number n ∷ []) n)
    ≡ kept (h ++ Boot number n ∷ []) n layer key sender
unfolding kept stored speaker
boot_kept layer key sender h number n is =
    ap (memory_at layer key sender) (boot_state h number n) ∙ booted_memory layer key sender (state_of h n) ∙ sym is
    ∙ ap (λ o. unwrap_or o 0)
    (sym (last_snoc n (floor_in layer key sender) h (Boot number n) ∙ by_said (nat_eq n n)))
    ∙ ap (λ o. unwrap_or o (unwrap_or (last_said n (floor_in layer key sender) (h ++ Boot number n ∷ [])) 0))
    (sym (accepted_snoc n layer key sender h (Boot number n)
    ∙ ap (λ b. cond b None (accepted_since n layer key sender h)) (nat_eq-refl n)))
  where
    by_said : (b : Bool) → option_or (cond b None None) (last_said n (floor_in layer key sender) h)
        ≡ last_said n (floor_in layer key sender) h
    by_said true = refl
    by_said false = refl

-- ---- lines that say nothing of the node's floors

-- it accepts nothing and stores no floor
abbrev pub Mute : Layer → Bytes → ℕ → Line → Type 0
Mute layer key sender l = ((o : Option ℕ) → accepted_in layer key sender o l ≡ o)
    × (floor_in layer key sender l ≡ None)

pub mute_kept : (layer : Layer) (key : Bytes) (sender m : ℕ) (h ls : List Line)
    → AllOwn (Mute layer key sender) m ls → kept (h ++ ls) m layer key sender ≡ kept h m layer key sender
unfolding kept stored
mute_kept layer key sender m h ls mute =
    ap (λ o. unwrap_or o (unwrap_or (last_said m (floor_in layer key sender) (h ++ ls)) 0)) (same h ls mute)
    ∙ ap (λ o. unwrap_or (accepted_since m layer key sender h) (unwrap_or o 0))
    (unsaid m (floor_in layer key sender) h ls
    (all-map (λ l. nat_eq (speaker l) m ≡ true → Mute layer key sender l)
    (λ l. nat_eq (speaker l) m ≡ true → floor_in layer key sender l ≡ None) (λ l p own. (p own).1) ls mute))
  where
    same : (h ls : List Line) → AllOwn (Mute layer key sender) m ls
        → accepted_since m layer key sender (h ++ ls) ≡ accepted_since m layer key sender h
    same h [] mute = ap (accepted_since m layer key sender) (append-nil' h)
    same h (l ∷ ls) mute =
        ap (accepted_since m layer key sender) (sym (append_assoc h (l ∷ []) ls)) ∙ same (h ++ l ∷ []) ls mute.1
        ∙ accepted_snoc m layer key sender h l ∙ by_own (nat_eq (speaker l) m) refl
      where
        by_own : (b : Bool) → nat_eq (speaker l) m ≡ b
            → cond b (accepted_in layer key sender (accepted_since m layer key sender h) l)
            (accepted_since m layer key sender h) ≡ accepted_since m layer key sender h
        by_own true e = (mute.0 e).0 (accepted_since m layer key sender h)
        by_own false e = refl

-- ---- the start

start_mute : (layer : Layer) (key : Bytes) (sender : ℕ) (l : Line) → IsStart l
    → floor_in layer key sender l ≡ None
unfolding IsStart
start_mute layer key sender (Declared p) is = refl
start_mute layer key sender (GivenNet n k q) is = refl
start_mute layer key sender (GivenLink n p k) is = refl
start_mute layer key sender (Counter n l v) is = refl
start_mute layer key sender _ is = absurd is

start_boots : (l : Line) → IsStart l → NoBoot l
unfolding IsStart
start_boots (Boot e n) is = absurd is
start_boots _ is = tt

start_accepts : (l : Line) → IsStart l → NoAccept l
unfolding IsStart NoAccept
start_accepts (Accept e n t) is = absurd is
start_accepts _ is = tt

at_first : (layer : Layer) (key : Bytes) (sender n : ℕ)
    → memory_at layer key sender (state_of [] n) ≡ unwrap_or (accepted_since n layer key sender []) 0
unfolding state_of accepted_since
at_first Nwk key sender n = refl
at_first Aps key sender n = refl

none_at_first : (layer : Layer) (key : Bytes) (sender n : ℕ) → last_said n (floor_in layer key sender) [] ≡ None
unfolding last_said
none_at_first layer key sender n = refl

pub start_kept : (w : Schedule) (n : ℕ) (layer : Layer) (key : Bytes) (sender : ℕ)
    → memory_at layer key sender (state_of (start w) n) ≡ kept (start w) n layer key sender
unfolding kept stored
start_kept w n layer key sender =
    lines_memory n layer key sender 0 [] (start w)
    (all-map IsStart NoBoot start_boots (start w) (start-are w))
    (plain [] (start w) (all-map IsStart NoAccept start_accepts (start w) (start-are w)))
    (at_first layer key sender n)
    ∙ ap (λ o. unwrap_or (accepted_since n layer key sender (start w)) (unwrap_or o 0))
    (sym (unsaid n (floor_in layer key sender) [] (start w)
    (all-map IsStart (λ l. nat_eq (speaker l) n ≡ true → floor_in layer key sender l ≡ None)
    (λ l is own. start_mute layer key sender l is) (start w) (start-are w)) ∙ none_at_first layer key sender n))
