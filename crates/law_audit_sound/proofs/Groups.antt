-- The lines of a node's answer add up, for a whole group and for one that a stop or a failure cut.
use Rattle.std.proofs.Common.{◌≡◌, ℕ, ◌+◌, Bool, true, false, cond, ◌&&◌, ◌||◌, ◌⊎◌, inl, inr, List, [], ◌∷◌, ◌++◌, map, length, Option, Some, None, is_some, nat_eq, nat_le, bytes_eq, flat_map, refl, sym, ap, ◌∙◌, subst, append_assoc, eq-eqb}
use Rattle.std.proofs.lemmas.Bool.{and_from, and_parts, false≢true, or_left, or_right}
use Rattle.std.specs.List.{AllByRecursion, list_all, list_any}
use Rattle.zb_base.specs.declared.label.Layer.{Layer}
use Rattle.law_audit_groups.specs.Printing.{printed}
use Rattle.zb_model.specs.Answer.{Answer, stored_floor}
use Rattle.zb_model.specs.Data as model
use Rattle.zb_model.specs.Data.{Bytes, Edit, Place, Reason, Station, Term}
use Rattle.zb_model.specs.Lines as log
use Rattle.zb_model.specs.Play.{Armed, Calls, FailAt, NotArmed, Schedule, StopAfter, change_lines, commit_lines, cut_of, fallen_line, falls, group_of, refuse_lines, send_lines, setting_of, stands, stations, stored_lines, told_lines}
use Rattle.zb_model.specs.Readings.{air, state_of}
use Rattle.zb_model.specs.State.{greatest_counter}
use Rattle.law_run.proofs.Basics.{append-nil'}
use Rattle.law_run.proofs.FreshLines.{all-append}
use Rattle.law_run.proofs.Judged.{In, all-in}
use Rattle.zb_model_real.specs.Terms.{layer_of}
use Rattle.zb_audit_counters.specs.Counting.{accepted, accepted_in, activates, ahead, cuts, floor_fits, is_counted, seals_at, starts, uncounted_in}
use Rattle.zb_audit_counters.specs.Readings as read
use Rattle.zb_trace_model.specs.Naming.{name_of}
use Rattle.zb_trace_model.specs.Said.{line_for}
use Rattle.zb_trace.specs.declared.line.Line.{Line}
use Rattle.law_audit_sound.proofs.Answers.{AcceptFits, AnswerFits, EditFits, FloorFits, SealFits, each_in, in_left, in_map, in_right}
use Rattle.law_audit_sound.proofs.EachKind.{Told, accept_counts, active_counts, all_more, any_in, bytes_same, floor_counts, from_same, is_there, last_in, layer_same, layers_are, reserve_counts, seal_counts, start_counts, there_in}

-- ---- each line of a group, after those before it

abbrev pub EachCounts : List Station → List (List Line) → List Line → List Line → List log.Line → Type 0
EachCounts known before group front [] = Unit {0}
EachCounts known before group front (m ∷ ms) = (is_counted before group front (line_for known m) ≡ true)
    × EachCounts known before group (front ++ line_for known m ∷ []) ms

-- wherever it is in the group after those
abbrev pub CountsBehind : List Station → List (List Line) → List Line → List Line → log.Line → Type 0
CountsBehind known before group first m = (more : List Line)
    → is_counted before group (first ++ more) (line_for known m) ≡ true

abbrev pub GroupCounts : List Station → List (List Line) → List log.Line → Type 0
GroupCounts known before ms = EachCounts known before (printed known ms) [] ms

from_behind : (known : List Station) (before : List (List Line)) (group first more : List Line) (ms : List log.Line)
    → AllByRecursion (CountsBehind known before group first) ms → EachCounts known before group (first ++ more) ms
from_behind known before group first more [] all = tt
from_behind known before group first more (m ∷ ms) all = (
  all.0 more,
  subst (λ f. EachCounts known before group f ms)
      (sym (append_assoc first more (line_for known m ∷ [])))
      (from_behind known before group first (more ++ line_for known m ∷ []) ms all.1),
)

two_parts : (known : List Station) (before : List (List Line)) (group front : List Line) (ms more : List log.Line)
    → EachCounts known before group front ms → EachCounts known before group (front ++ printed known ms) more
    → EachCounts known before group front (ms ++ more)
two_parts known before group front [] more all rest = subst (λ f. EachCounts known before group f more)
    (append-nil' front) rest
two_parts known before group front (m ∷ ms) more all rest = (
  all.0,
  two_parts known before group (front ++ line_for known m ∷ []) ms more all.1
      (subst (λ f. EachCounts known before group f more)
      (sym (append_assoc front (line_for known m ∷ []) (printed known ms))) rest),
)

pub plain_group : (known : List Station) (before : List (List Line)) (ms : List log.Line)
    → AllByRecursion (CountsBehind known before (printed known ms) []) ms → GroupCounts known before ms
plain_group known before ms all = from_behind known before (printed known ms) [] [] ms all

pub none_uncounted : (known : List Station) (before : List (List Line)) (group front : List Line) (number : ℕ)
    (ms : List log.Line) → EachCounts known before group front ms
    → uncounted_in before group front number (printed known ms) ≡ []
unfolding uncounted_in
none_uncounted known before group front number [] all = refl
none_uncounted known before group front number (m ∷ ms) all =
    ap (λ b. cond b [] (number ∷ []) ++ uncounted_in before group (front ++ line_for known m ∷ []) (number + 1)
    (printed known ms)) all.0
    ∙ none_uncounted known before group (front ++ line_for known m ∷ []) (number + 1) ms all.1

-- ---- after the stored changes

-- all seals and accepts of the answer are there
pub record Whole (number n : ℕ) (a : Answer) (tail : List log.Line) : Type 0 where
  pub seals : (t : Term) → In t a.seals → In (log.Seal number n t) tail
  pub accepts : (t : Term) → In t a.accepts → In (log.Accept number n t) tail

-- a stop or failure is there
abbrev pub Cut : List Station → List log.Line → Type 0
Cut known tail = (m : log.Line) × In m tail × (cuts (line_for known m) ≡ true)

-- the accepted counters there pass this test
abbrev pub CountersPass : (ℕ → Bool) → List Station → Bytes → Layer → Bytes → ℕ → log.Line → Type 0
CountersPass test known name layer key sender m = list_all test (accepted_in name layer key sender (line_for known m))
    ≡ true

pub record Tail (known : List Station) (number n : ℕ) (a : Answer) (tail : List log.Line) : Type 0 where
  pub ends : Cut known tail ⊎ Whole number n a tail
  pub counters : (test : ℕ → Bool) (name : Bytes) (layer : Layer) (key : Bytes) (sender : ℕ)
      → ((t : Term) → In t a.accepts → CountersPass test known name layer key sender (log.Accept number n t))
      → AllByRecursion (CountersPass test known name layer key sender) tail

-- ---- members of a group

in_group : (known : List Station) (m : log.Line) (ms : List log.Line) → In m ms
    → In (line_for known m) (printed known ms)
in_group known m ms i = in_map (λ x. line_for known x) m ms i

stored_in : (known : List Station) (number n : ℕ) (a : Answer) (e : Edit) → In e a.edits
    → In (line_for known (log.Changed number n e)) (printed known (stored_lines number n a))
unfolding stored_lines
stored_in known number n a e i =
    in_group known (log.Changed number n e) (stored_lines number n a)
    (in_left (log.Changed number n e) (change_lines number n a.edits) (commit_lines number n a.edits)
    (in_map (log.Changed number n) e a.edits i))

edit_in : (known : List Station) (number n : ℕ) (a : Answer) (tail : List log.Line) (e : Edit) → In e a.edits
    → In (line_for known (log.Changed number n e)) (printed known (stored_lines number n a ++ tail))
unfolding stored_lines
edit_in known number n a tail e i =
    in_group known (log.Changed number n e) (stored_lines number n a ++ tail)
    (in_left (log.Changed number n e) (stored_lines number n a) tail
    (in_left (log.Changed number n e) (change_lines number n a.edits) (commit_lines number n a.edits)
    (in_map (log.Changed number n) e a.edits i)))

tail_in : (known : List Station) (number n : ℕ) (a : Answer) (tail : List log.Line) (m : log.Line) → In m tail
    → In (line_for known m) (printed known (stored_lines number n a ++ tail))
tail_in known number n a tail m i = in_group known m (stored_lines number n a ++ tail)
    (in_right m (stored_lines number n a) tail i)

-- ---- accepted counters

no_counter : (known : List Station) (number n : ℕ) (name : Bytes) (layer : Layer) (key : Bytes) (sender : ℕ)
    (e : Edit) → accepted_in name layer key sender (line_for known (log.Changed number n e)) ≡ []
unfolding line_for
no_counter known number n name layer key sender (model.Reserve l limit) = refl
no_counter known number n name layer key sender (model.Floor l k from value) = refl
no_counter known number n name layer key sender (model.Start k value) = refl
no_counter known number n name layer key sender (model.Moved (model.Draw k)) = refl
no_counter known number n name layer key sender (model.Moved (model.DropNet k)) = refl
no_counter known number n name layer key sender (model.Moved (model.DropLink partner k)) = refl
no_counter known number n name layer key sender (model.Moved (model.Install k sequence)) = refl
no_counter known number n name layer key sender (model.Moved (model.Active k)) = refl
no_counter known number n name layer key sender (model.Moved (model.Row partner k attribute)) = refl
no_counter known number n name layer key sender (model.Moved (model.Pair first second k)) = refl
no_counter known number n name layer key sender (model.Moved (model.Became s)) = refl
no_counter known number n name layer key sender (model.Moved (model.Live device)) = refl
no_counter known number n name layer key sender (model.Moved (model.Removed device)) = refl
no_counter known number n name layer key sender (model.Moved (model.Roll sending)) = refl
no_counter known number n name layer key sender (model.Moved (model.Told device)) = refl
no_counter known number n name layer key sender (model.Moved (model.Untold device)) = refl

changes_pass : (test : ℕ → Bool) (known : List Station) (number n : ℕ) (name : Bytes) (layer : Layer) (key : Bytes)
    (sender : ℕ) (es : List Edit) → AllByRecursion (CountersPass test known name layer key sender)
    (change_lines number n es)
changes_pass test known number n name layer key sender [] = tt
changes_pass test known number n name layer key sender (e ∷ es) = (
  ap (list_all test) (no_counter known number n name layer key sender e),
  changes_pass test known number n name
      layer key sender es,
)

commit_passes : (test : ℕ → Bool) (known : List Station) (number n : ℕ) (name : Bytes) (layer : Layer) (key : Bytes)
    (sender : ℕ) (es : List Edit) → AllByRecursion (CountersPass test known name layer key sender)
    (commit_lines number n es)
unfolding line_for
commit_passes test known number n name layer key sender [] = tt
commit_passes test known number n name layer key sender (e ∷ es) = (refl, tt)

stored_pass : (test : ℕ → Bool) (known : List Station) (number n : ℕ) (name : Bytes) (layer : Layer) (key : Bytes)
    (sender : ℕ) (a : Answer) → AllByRecursion (CountersPass test known name layer key sender)
    (stored_lines number n a)
unfolding stored_lines
stored_pass test known number n name layer key sender a =
    all-append (CountersPass test known name layer key sender) (change_lines number n a.edits)
    (commit_lines number n a.edits) (changes_pass test known number n name layer key sender a.edits)
    (commit_passes test known number n name layer key sender a.edits)

counters_pass : (test : ℕ → Bool) (known : List Station) (name : Bytes) (layer : Layer) (key : Bytes) (sender : ℕ)
    (ms : List log.Line) → AllByRecursion (CountersPass test known name layer key sender) ms
    → list_all test (accepted (printed known ms) name layer key sender) ≡ true
unfolding accepted
counters_pass test known name layer key sender [] all = refl
counters_pass test known name layer key sender (m ∷ ms) all =
    all_more test (accepted_in name layer key sender (line_for known m))
    (flat_map (accepted_in name layer key sender) (printed known ms)) all.0
    (counters_pass test known name layer key sender ms all.1)

-- ---- changes

from_is : (t : Term) (layer : model.Layer) (key : Bytes) (sender : ℕ) → t.layer ≡ layer → t.base ≡ key → t.source
    ≡ sender → read.is_from (layer_of layer) key sender (layer_of t.layer) t.base t.source ≡ true
from_is t layer key sender l b f =
    ap (λ x. read.is_from (layer_of x) key sender (layer_of t.layer) t.base t.source) (sym l)
    ∙ ap (λ x. read.is_from (layer_of t.layer) x sender (layer_of t.layer) t.base t.source) (sym b)
    ∙ ap (λ x. read.is_from (layer_of t.layer) t.base x (layer_of t.layer) t.base t.source) (sym f)
    ∙ from_same t.layer t.base t.source

-- an accepted counter is one of those for which the floor is stored, or of another layer, key or sender
counter_passes : (w : Schedule) (h : List log.Line) (number n : ℕ) (a : Answer) (name : Bytes) (layer : model.Layer)
    (key : Bytes) (sender value : ℕ)
    (fits : FloorFits (setting_of w n).me.in_block (state_of h n) a.accepts layer key sender value)
    → (t : Term) → In t a.accepts
    → CountersPass (floor_fits (stored_floor fits.term (state_of h n)) value (setting_of w n).me.in_block)
    (stations w) name (layer_of layer) key sender (log.Accept number n t)
unfolding line_for
counter_passes w h number n a name layer key sender value fits t i =
    by_test
    (bytes_eq (name_of (stations w) n) name && read.is_from (layer_of layer) key sender (layer_of t.layer) t.base
    t.source) refl
  where
    block : ℕ
    block = (setting_of w n).me.in_block

    floor : ℕ
    floor = stored_floor fits.term (state_of h n)

    by_test : (b : Bool)
        → (bytes_eq (name_of (stations w) n) name && read.is_from (layer_of layer) key sender (layer_of t.layer)
        t.base t.source) ≡ b → list_all (floor_fits floor value block) (cond b (t.counter ∷ []) []) ≡ true
    by_test true is =
        let first = and_parts (bytes_eq (name_of (stations w) n) name)
        (read.is_from (layer_of layer) key sender (layer_of t.layer) t.base t.source) is in
        let second = and_parts (read.same_layer (layer_of t.layer) (layer_of layer))
        (bytes_eq t.base key && nat_eq t.source sender) first.1 in
        let facts = fits.each t i (layers_are t.layer layer second.0) in
        and_from (floor_fits floor value block t.counter) true
        (and_from (nat_le floor t.counter) (nat_eq value (ahead t.counter block)) facts.0
        (eq-eqb value (ahead t.counter block) facts.1)) refl
    by_test false is = refl

-- an accepted counter is in the group
one_accepted : (known : List Station) (number n : ℕ) (a : Answer) (tail : List log.Line) (layer : model.Layer)
    (key : Bytes) (sender : ℕ) (t : Term) → t.layer ≡ layer → t.base ≡ key → t.source ≡ sender
    → In (log.Accept number n t) tail
    → is_there
    (accepted (printed known (stored_lines number n a ++ tail)) (name_of known n) (layer_of layer) key sender)
    ≡ true
unfolding accepted line_for
one_accepted known number n a tail layer key sender t l b f i =
    let name = name_of known n in
    let is : (bytes_eq name name && read.is_from (layer_of layer) key sender (layer_of t.layer) t.base t.source)
    ≡ true =
    and_from (bytes_eq name name) (read.is_from (layer_of layer) key sender (layer_of t.layer) t.base t.source)
    (bytes_same name) (from_is t layer key sender l b f) in
    there_in (accepted_in name (layer_of layer) key sender) (line_for known (log.Accept number n t))
    (printed known (stored_lines number n a ++ tail)) (tail_in known number n a tail (log.Accept number n t) i)
    (ap (λ x. is_there (cond x (t.counter ∷ []) [])) is)

edit_counts : (w : Schedule) (h : List log.Line) (before : List (List Line)) (number n : ℕ) (a : Answer)
    (tail : List log.Line) → Told w h before n → Tail (stations w) number n a tail → (e : Edit) → EditFits w h n a e
    → CountsBehind (stations w) before (printed (stations w) (stored_lines number n a ++ tail)) []
    (log.Changed number n e)
unfolding is_counted line_for EditFits
edit_counts w h before number n a tail told ends (model.Reserve layer value) fits = λ front.
    reserve_counts w h before n told (printed (stations w) (stored_lines number n a ++ tail)) front layer value fits.0
    fits.1 (called ends.ends)
  where
    known : List Station
    known = stations w

    group : List Line
    group = printed (stations w) (stored_lines number n a ++ tail)

    sealed : Bool
    sealed = list_any (seals_at (name_of (stations w) n) (layer_of layer)) group

    called : Cut (stations w) tail ⊎ Whole number n a tail
        → (list_any cuts group || list_any (seals_at (name_of (stations w) n) (layer_of layer)) group) ≡ true
    called (inl cut) =
        or_left (list_any cuts group) sealed
        (any_in cuts (line_for known cut.0) group (tail_in known number n a tail cut.0 cut.1) cut.2)
    called (inr whole) =
        let t = fits.2.0 in
        let is : (bytes_eq (name_of known n) (name_of known n) && read.same_layer (layer_of t.layer) (layer_of layer))
        ≡ true =
        and_from (bytes_eq (name_of known n) (name_of known n)) (read.same_layer (layer_of t.layer) (layer_of layer))
        (bytes_same (name_of known n))
        (ap (λ x. read.same_layer (layer_of t.layer) (layer_of x)) (sym fits.2.2) ∙ layer_same t.layer) in
        or_right (list_any cuts group) sealed
        (any_in (seals_at (name_of known n) (layer_of layer)) (line_for known (log.Seal number n t)) group
        (tail_in known number n a tail (log.Seal number n t) (whole.seals t fits.2.1)) is)
edit_counts w h before number n a tail told ends (model.Floor layer key sender value) fits = λ front.
    floor_counts w h before n told (printed (stations w) (stored_lines number n a ++ tail)) front layer key sender
    value fits.term fits.layer_is fits.base_is fits.source_is fits.rises each (called ends.ends)
  where
    known : List Station
    known = stations w

    name : Bytes
    name = name_of (stations w) n

    group : List Line
    group = printed (stations w) (stored_lines number n a ++ tail)

    test : ℕ → Bool
    test = floor_fits (stored_floor fits.term (state_of h n)) value (setting_of w n).me.in_block

    each : list_all (floor_fits (stored_floor fits.term (state_of h n)) value (setting_of w n).me.in_block)
        (accepted group name (layer_of layer) key sender) ≡ true
    each = counters_pass test known name (layer_of layer) key sender (stored_lines number n a ++ tail)
        (all-append (CountersPass test known name (layer_of layer) key sender) (stored_lines number n a) tail
        (stored_pass test known number n name (layer_of layer) key sender a)
        (ends.counters test name (layer_of layer) key sender
        (counter_passes w h number n a name layer key sender value fits)))

    called : Cut (stations w) tail ⊎ Whole number n a tail → (list_any cuts group ≡ true)
        ⊎ (is_there (accepted group name (layer_of layer) key sender) ≡ true)
    called (inl cut) = inl (any_in cuts (line_for known cut.0) group (tail_in known number n a tail cut.0 cut.1) cut.2)
    called (inr whole) =
        inr (one_accepted known number n a tail layer key sender fits.term fits.layer_is fits.base_is fits.source_is
        (whole.accepts fits.term fits.there))
edit_counts w h before number n a tail told ends (model.Start key value) fits = λ front.
    let known = stations w in
    let name = name_of known n in
    let group = printed known (stored_lines number n a ++ tail) in
    start_counts w h before n told group front key value fits.0 fits.1
    (any_in (activates name key) (line_for known (log.Changed number n (model.Moved (model.Active key)))) group
    (edit_in known number n a tail (model.Moved (model.Active key)) fits.2)
    (and_from (bytes_eq name name) (bytes_eq key key) (bytes_same name) (bytes_same key)))
edit_counts w h before number n a tail told ends (model.Moved (model.Active key)) fits =
    λ front. active_counts w h before n told (printed (stations w) (stored_lines number n a ++ tail)) key (by_fit fits)
  where
    by_fit : (Rattle.law_run_counters.specs.Counted.has_started h n key ≡ true)
        ⊎ ((value : ℕ) × In (model.Start key value) a.edits)
        → (Rattle.law_run_counters.specs.Counted.has_started h n key ≡ true)
        ⊎ (list_any (starts (name_of (stations w) n) key) (printed (stations w) (stored_lines number n a ++ tail))
        ≡ true)
    by_fit (inl e) = inl e
    by_fit (inr v) =
        let known = stations w in
        let name = name_of known n in
        inr (any_in (starts name key) (line_for known (log.Changed number n (model.Start key v.0)))
        (printed known (stored_lines number n a ++ tail)) (edit_in known number n a tail (model.Start key v.0) v.1)
        (and_from (bytes_eq name name) (bytes_eq key key) (bytes_same name) (bytes_same key)))
edit_counts w h before number n a tail told ends (model.Moved (model.Draw k)) fits = λ front. refl
edit_counts w h before number n a tail told ends (model.Moved (model.DropNet k)) fits = λ front. refl
edit_counts w h before number n a tail told ends (model.Moved (model.DropLink partner k)) fits = λ front. refl
edit_counts w h before number n a tail told ends (model.Moved (model.Install k sequence)) fits = λ front. refl
edit_counts w h before number n a tail told ends (model.Moved (model.Row partner k attribute)) fits = λ front. refl
edit_counts w h before number n a tail told ends (model.Moved (model.Pair first second k)) fits = λ front. refl
edit_counts w h before number n a tail told ends (model.Moved (model.Became s)) fits = λ front. refl
edit_counts w h before number n a tail told ends (model.Moved (model.Live device)) fits = λ front. refl
edit_counts w h before number n a tail told ends (model.Moved (model.Removed device)) fits = λ front. refl
edit_counts w h before number n a tail told ends (model.Moved (model.Roll sending)) fits = λ front. refl
edit_counts w h before number n a tail told ends (model.Moved (model.Told device)) fits = λ front. refl
edit_counts w h before number n a tail told ends (model.Moved (model.Untold device)) fits = λ front. refl

edits_count : (w : Schedule) (h : List log.Line) (before : List (List Line)) (number n : ℕ) (a : Answer)
    (tail : List log.Line) → Told w h before n → Tail (stations w) number n a tail → (es : List Edit)
    → AllByRecursion (EditFits w h n a) es
    → AllByRecursion (CountsBehind (stations w) before (printed (stations w) (stored_lines number n a ++ tail)) [])
    (change_lines number n es)
edits_count w h before number n a tail told ends [] fits = tt
edits_count w h before number n a tail told ends (e ∷ es) fits = (
  edit_counts w h before number n a tail told ends e fits.0,
  edits_count w h before number n a tail told ends es
      fits.1,
)

commit_counts : (known : List Station) (before : List (List Line)) (group : List Line) (number n : ℕ) (es : List Edit)
    → AllByRecursion (CountsBehind known before group []) (commit_lines number n es)
unfolding is_counted line_for
commit_counts known before group number n [] = tt
commit_counts known before group number n (e ∷ es) = (λ front. refl, tt)

stored_count : (w : Schedule) (h : List log.Line) (before : List (List Line)) (number n : ℕ) (a : Answer)
    (tail : List log.Line) → Told w h before n → Tail (stations w) number n a tail
    → AllByRecursion (EditFits w h n a) a.edits
    → EachCounts (stations w) before (printed (stations w) (stored_lines number n a ++ tail)) []
    (stored_lines number n a)
unfolding stored_lines
stored_count w h before number n a tail told ends fits =
    let group = printed (stations w) (stored_lines number n a ++ tail) in
    from_behind (stations w) before group [] [] (stored_lines number n a)
    (all-append (CountsBehind (stations w) before group []) (change_lines number n a.edits)
    (commit_lines number n a.edits) (edits_count w h before number n a tail told ends a.edits fits)
    (commit_counts (stations w) before group number n a.edits))

-- a group is counted if the lines after its stored changes are
group_counts : (w : Schedule) (h : List log.Line) (before : List (List Line)) (number n : ℕ) (a : Answer)
    (tail : List log.Line) → Told w h before n → Tail (stations w) number n a tail
    → AllByRecursion (EditFits w h n a) a.edits
    → AllByRecursion
    (CountsBehind (stations w) before (printed (stations w) (stored_lines number n a ++ tail))
    (printed (stations w) (stored_lines number n a))) tail
    → GroupCounts (stations w) before (stored_lines number n a ++ tail)
group_counts w h before number n a tail told ends fits rest =
    let known = stations w in
    let group = printed known (stored_lines number n a ++ tail) in
    let first = printed known (stored_lines number n a) in
    two_parts known before group [] (stored_lines number n a) tail
    (stored_count w h before number n a tail told ends fits)
    (subst (λ f. EachCounts known before group f tail) (append-nil' first)
    (from_behind known before group first [] tail rest))

-- ---- a whole group

abbrev told_of : List log.Line → ℕ → ℕ → Answer → List log.Line
told_of h number n a = told_lines number n (length (air h) + 1) a

accept_in_tail : (h : List log.Line) (number n : ℕ) (a : Answer) (t : Term) → In t a.accepts
    → In (log.Accept number n t) (told_of h number n a)
unfolding told_lines
accept_in_tail h number n a t i = in_left (log.Accept number n t) (map (log.Accept number n) a.accepts) _
    (in_map (log.Accept number n) t a.accepts i)

seal_in_tail : (h : List log.Line) (number n : ℕ) (a : Answer) (t : Term) → In t a.seals
    → In (log.Seal number n t) (told_of h number n a)
unfolding told_lines
seal_in_tail h number n a t i =
    let seals = map (log.Seal number n) a.seals in
    let send = send_lines number (Some n) (length (air h) + 1) a.frame in
    let refusal = refuse_lines number n a.place a.refusal in
    in_right (log.Seal number n t) (map (log.Accept number n) a.accepts) (refusal ++ (seals ++ send))
    (in_right (log.Seal number n t) refusal (seals ++ send)
    (in_left (log.Seal number n t) seals send (in_map (log.Seal number n) t a.seals i)))

all_mapped : (P : log.Line → Type 0) (f : Term → log.Line) (ts : List Term) → AllByRecursion (λ t. P (f t)) ts
    → AllByRecursion P (map f ts)
all_mapped P f [] all = tt
all_mapped P f (t ∷ ts) all = (all.0, all_mapped P f ts all.1)

-- what is true of each line after the stored changes: of accepts and seals, and of others
told_all : (P : log.Line → Type 0) (h : List log.Line) (number n : ℕ) (a : Answer)
    → ((t : Term) → In t a.accepts → P (log.Accept number n t)) → ((t : Term) → In t a.seals → P (log.Seal number n t))
    → ((place : Place) (reason : Reason) → P (log.Refuse number n place reason))
    → ((frame : ℕ) (bytes : Bytes) → P (log.Send number (Some n) frame bytes))
    → AllByRecursion P (told_of h number n a)
unfolding told_lines
told_all P h number n a accepts seals refused sent =
    let seal_lines = map (log.Seal number n) a.seals in
    let send = send_lines number (Some n) (length (air h) + 1) a.frame in
    let refusal = refuse_lines number n a.place a.refusal in
    all-append P (map (log.Accept number n) a.accepts) (refusal ++ (seal_lines ++ send))
    (mapped (log.Accept number n) a.accepts accepts)
    (all-append P refusal (seal_lines ++ send) (by_refusal a.place a.refusal)
    (all-append P seal_lines send (mapped (log.Seal number n) a.seals seals)
    (by_frame (length (air h) + 1) a.frame)))
  where
    mapped : (f : Term → log.Line) (ts : List Term) → ((t : Term) → In t ts → P (f t)) → AllByRecursion P (map f ts)
    mapped f ts each = all_mapped P f ts (each_in (λ t. P (f t)) ts each)

    by_refusal : (place : Place) (o : Option Reason) → AllByRecursion P (refuse_lines number n place o)
    by_refusal place None = tt
    by_refusal place (Some reason) = (refused place reason, tt)

    by_frame : (frame : ℕ) (o : Option Bytes) → AllByRecursion P (send_lines number (Some n) frame o)
    by_frame frame None = tt
    by_frame frame (Some bytes) = (sent frame bytes, tt)

whole_tail : (known : List Station) (h : List log.Line) (number n : ℕ) (a : Answer)
    → Tail known number n a (told_of h number n a)
unfolding line_for
whole_tail known h number n a = record {
  ends = inr (record { seals = seal_in_tail h number n a; accepts = accept_in_tail h number n a });
  counters = λ test name layer key sender each. told_all (CountersPass test known name layer key sender) h number n a
      each (λ t i. refl) (λ place reason. refl) (λ frame bytes. refl);
}

told_accept : (w : Schedule) (h : List log.Line) (before : List (List Line)) (number n : ℕ) (a : Answer)
    (tail : List log.Line) (first : List Line) → Told w h before n → (t : Term) → AcceptFits h n a t
    → CountsBehind (stations w) before (printed (stations w) (stored_lines number n a ++ tail)) first
    (log.Accept number n t)
unfolding is_counted line_for
told_accept w h before number n a tail first told t fits =
    λ more. accept_counts w h before n told (printed (stations w) (stored_lines number n a ++ tail)) t (by_fit fits)
  where
    by_fit : AcceptFits h n a t → (Rattle.std.specs.Prelude.nat_lt t.counter (stored_floor t (state_of h n)) ≡ true)
        ⊎ (is_some
        (read.last (read.floor_in (name_of (stations w) n) (layer_of t.layer) t.base t.source)
        (printed (stations w) (stored_lines number n a ++ tail))) ≡ true)
    by_fit (inl e) = inl e
    by_fit (inr v) =
        let known = stations w in
        let name = name_of known n in
        let is :
        (bytes_eq name name && read.is_from (layer_of t.layer) t.base t.source (layer_of t.layer) t.base t.source)
        ≡ true =
        and_from (bytes_eq name name)
        (read.is_from (layer_of t.layer) t.base t.source (layer_of t.layer) t.base t.source) (bytes_same name)
        (from_same t.layer t.base t.source) in
        inr (last_in (read.floor_in name (layer_of t.layer) t.base t.source)
        (line_for known (log.Changed number n (model.Floor t.layer t.base t.source v.0)))
        (printed known (stored_lines number n a ++ tail))
        (edit_in known number n a tail (model.Floor t.layer t.base t.source v.0) v.1)
        (ap (λ x. is_some (cond x (Some v.0) None)) is))

told_seal : (w : Schedule) (h : List log.Line) (before : List (List Line)) (number n : ℕ) (a : Answer)
    (group : List Line) → Told w h before n → (t : Term) → SealFits h n a t
    → CountsBehind (stations w) before group (printed (stations w) (stored_lines number n a)) (log.Seal number n t)
unfolding is_counted line_for
told_seal w h before number n a group told t fits =
    λ more. seal_counts w h before n told t (printed (stations w) (stored_lines number n a) ++ more) fits.counter
    fits.under (by_fit more fits.reserve)
  where
    by_fit : (more : List Line)
        → (nat_eq (Rattle.zb_model.specs.State.next_counter t.layer (state_of h n))
        (Rattle.zb_model.specs.State.stored_limit t.layer (state_of h n)) ≡ false)
        ⊎ ((value : ℕ) × In (model.Reserve t.layer value) a.edits)
        → (nat_eq (Rattle.zb_model.specs.State.next_counter t.layer (state_of h n))
        (Rattle.zb_model.specs.State.stored_limit t.layer (state_of h n)) ≡ false)
        ⊎ (is_some
        (read.last (read.reserve_in (name_of (stations w) n) (layer_of t.layer))
        (printed (stations w) (stored_lines number n a) ++ more)) ≡ true)
    by_fit more (inl e) = inl e
    by_fit more (inr v) =
        let known = stations w in
        let name = name_of known n in
        let reserve = line_for known (log.Changed number n (model.Reserve t.layer v.0)) in
        let is : (bytes_eq name name && read.same_layer (layer_of t.layer) (layer_of t.layer)) ≡ true =
        and_from (bytes_eq name name) (read.same_layer (layer_of t.layer) (layer_of t.layer)) (bytes_same name)
        (layer_same t.layer) in
        inr (last_in (read.reserve_in name (layer_of t.layer)) reserve
        (printed known (stored_lines number n a) ++ more)
        (in_left reserve (printed known (stored_lines number n a)) more
        (stored_in known number n a (model.Reserve t.layer v.0) v.1))
        (ap (λ x. is_some (cond x (Some v.0) None)) is))

pub whole_counts : (w : Schedule) (h : List log.Line) (before : List (List Line)) (number n : ℕ) (a : Answer)
    → Told w h before n → AnswerFits w h n a → GroupCounts (stations w) before (group_of h number n a)
unfolding group_of is_counted line_for
whole_counts w h before number n a told fits =
    let known = stations w in
    let tail = told_of h number n a in
    let group = printed known (stored_lines number n a ++ tail) in
    let first = printed known (stored_lines number n a) in
    group_counts w h before number n a tail told (whole_tail known h number n a) fits.edits
    (told_all (CountsBehind known before group first) h number n a
    (λ t i. told_accept w h before number n a tail first told t
    (all-in (AcceptFits h n a) a.accepts fits.accepts t i))
    (λ t i. told_seal w h before number n a group told t (all-in (SealFits h n a) a.seals fits.seals t i))
    (λ place reason more. refl) (λ frame bytes more. refl))

-- ---- a group that was cut

cut_tail : (known : List Station) (armed : Armed) (calls : Calls) (number n : ℕ) (a : Answer) → falls armed calls
    ≡ true → Tail known number n a (fallen_line armed number n)
unfolding line_for In
cut_tail known NotArmed calls number n a falls = absurd (false≢true falls)
cut_tail known (StopAfter count torn) calls number n a falls =
    record {
      ends = inl (log.Stopped number n, inl refl, refl);
      counters = λ test name layer key sender each.
          (refl, tt);
    }
cut_tail known (FailAt call) calls number n a falls =
    record {
      ends = inl (log.DownDisk number n, inl refl, refl);
      counters = λ test name layer key sender each.
          (refl, tt);
    }

pub fallen_counts : (known : List Station) (before : List (List Line)) (group first : List Line) (armed : Armed)
    (number n : ℕ) → AllByRecursion (CountsBehind known before group first) (fallen_line armed number n)
unfolding is_counted line_for
fallen_counts known before group first NotArmed number n = tt
fallen_counts known before group first (StopAfter count torn) number n = (λ more. refl, tt)
fallen_counts known before group first (FailAt call) number n = (λ more. refl, tt)

cut_by : (w : Schedule) (h : List log.Line) (before : List (List Line)) (armed : Armed) (calls : Calls) (number n : ℕ)
    (a : Answer) → falls armed calls ≡ true → Told w h before n → AnswerFits w h n a → (b : Bool)
    → GroupCounts (stations w) before (cond b (stored_lines number n a) [] ++ fallen_line armed number n)
cut_by w h before armed calls number n a falls told fits true =
    let known = stations w in
    let tail = fallen_line armed number n in
    group_counts w h before number n a tail told (cut_tail known armed calls number n a falls) fits.edits
    (fallen_counts known before (printed known (stored_lines number n a ++ tail))
    (printed known (stored_lines number n a)) armed number n)
cut_by w h before armed calls number n a falls told fits false =
    let known = stations w in
    let tail = fallen_line armed number n in
    plain_group known before tail (fallen_counts known before (printed known tail) [] armed number n)

pub cut_counts : (w : Schedule) (h : List log.Line) (before : List (List Line)) (armed : Armed) (calls : Calls)
    (number n : ℕ) (a : Answer) → falls armed calls ≡ true → Told w h before n → AnswerFits w h n a
    → GroupCounts (stations w) before (cut_of armed calls number n a)
unfolding cut_of
cut_counts w h before armed calls number n a falls told fits = cut_by w h before armed calls number n a falls told
    fits (stands armed calls)
