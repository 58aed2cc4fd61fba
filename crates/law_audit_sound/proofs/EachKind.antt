-- Each kind of line adds up, if what is read of its node before its group is what the node's state says.
use Rattle.std.proofs.Common.{◌≡◌, ℕ, ◌+◌, min, Bool, true, false, not, ◌&&◌, ◌||◌, ◌⊎◌, inl, inr, List, [], ◌∷◌, ◌++◌, fold, Option, Some, None, is_some, nat_eq, nat_lt, bytes_eq, flat_map, refl, sym, ap, ◌∙◌, eq-eqb}
use Rattle.std.proofs.lemmas.Bool.{and_from, and_parts, false≢true, or_left, or_right}
use Rattle.std.proofs.lemmas.Slice.Eq.{bytes_eq-Decides}
use Rattle.std.specs.List.{list_all, list_any}
use Rattle.std.specs.Option.{option_or}
use Rattle.zb_audit_names.specs.Groups.{flat}
use Rattle.zb_model.specs.Answer.{stored_floor}
use Rattle.zb_model.specs.Data as model
use Rattle.zb_model.specs.Data.{Bytes, Station, Term}
use Rattle.zb_model.specs.Lines as log
use Rattle.zb_model.specs.Play.{Schedule, setting_of, stations}
use Rattle.zb_model.specs.Readings.{state_of}
use Rattle.zb_model.specs.State.{NodeState, greatest_counter, next_counter, stored_limit}
use Rattle.law_run_counters.specs.Counted as counted
use Rattle.law_run_counters.specs.Counted.{IsActive, block_reserved}
use Rattle.law_run.proofs.Judged.{In}
use Rattle.law_run_readings.specs.Agreeing.{floor_at}
use Rattle.zb_model_real.specs.Terms.{layer_of, term_of}
use Rattle.zb_audit_counters.specs.Counting.{accept_stands, accepted, accepted_in, active_stands, activates, ahead, block_passes, cuts, floor_fits, floor_stands, in_block, is_called_for, is_spent, is_under, out_block, reserve_stands, seal_stands, seals_at, start_stands, starts}
use Rattle.zb_audit_counters.specs.Readings as read
use Rattle.zb_trace_model.specs.Naming.{name_of}
use Rattle.zb_trace.specs.declared.line.Line.{Line}

-- what is read of a node before a group is what its state says
pub record Told (w : Schedule) (h : List log.Line) (before : List (List Line)) (n : ℕ) : Type 0 where
  pub active_is : read.active (flat before) (name_of (stations w) n) ≡ (state_of h n).active
  pub limits : (layer : model.Layer) → read.limit before (name_of (stations w) n) (layer_of layer)
      ≡ stored_limit layer (state_of h n)
  pub nexts : (layer : model.Layer) → read.next before (name_of (stations w) n) (layer_of layer)
      ≡ next_counter layer (state_of h n)
  pub floors : (layer : model.Layer) (key : Bytes) (sender : ℕ) → read.stored (flat before) (name_of (stations w) n)
      (layer_of layer) key sender ≡ floor_at layer key sender (state_of h n)
  pub started : (key : Bytes) → read.has_started (flat before) (name_of (stations w) n) key
      ≡ counted.has_started h n key
  pub out_is : (front : List Line) → out_block (flat before ++ front) (name_of (stations w) n)
      ≡ Some (setting_of w n).me.out_block
  pub in_is : (front : List Line) → in_block (flat before ++ front) (name_of (stations w) n)
      ≡ Some (setting_of w n).me.in_block

-- ---- tests

pub bytes_same : (a : Bytes) → bytes_eq a a ≡ true
bytes_same a = (bytes_eq-Decides a a).1 refl

number_same : (n : ℕ) → nat_eq n n ≡ true
number_same n = eq-eqb n n refl

pub layer_same : (l : model.Layer) → read.same_layer (layer_of l) (layer_of l) ≡ true
layer_same model.Nwk = refl
layer_same model.Aps = refl

pub layers_are : (a b : model.Layer) → read.same_layer (layer_of a) (layer_of b) ≡ true → a ≡ b
layers_are model.Nwk model.Nwk e = refl
layers_are model.Nwk model.Aps e = absurd (false≢true e)
layers_are model.Aps model.Nwk e = absurd (false≢true e)
layers_are model.Aps model.Aps e = refl

pub from_same : (l : model.Layer) (key : Bytes) (sender : ℕ) → read.is_from (layer_of l) key sender (layer_of l) key
    sender ≡ true
from_same l key sender = and_from (read.same_layer (layer_of l) (layer_of l))
    (bytes_eq key key && nat_eq sender sender) (layer_same l)
    (and_from (bytes_eq key key) (nat_eq sender sender) (bytes_same key) (number_same sender))

-- the floor of an accepted term
floor_is : (t : Term) (s : NodeState) → floor_at t.layer t.base t.source s ≡ stored_floor t s
unfolding stored_floor
floor_is t s = by_layer t.layer
  where
    by_layer : (l : model.Layer) → floor_at l t.base t.source s ≡ Rattle.zb_model.specs.Answer.stored_at l t s
    by_layer model.Nwk = refl
    by_layer model.Aps = refl

floor_of : (t : Term) (s : NodeState) (layer : model.Layer) (key : Bytes) (sender : ℕ) → t.layer ≡ layer → t.base
    ≡ key → t.source ≡ sender → floor_at layer key sender s ≡ stored_floor t s
floor_of t s layer key sender l b f =
    ap (λ x. floor_at x key sender s) (sym l) ∙ ap (λ x. floor_at t.layer x sender s) (sym b) ∙ ap
    (λ x. floor_at t.layer t.base x s) (sym f) ∙ floor_is t s

-- ---- seals and reserves

under_active : (layer : model.Layer) (base : Bytes) (s : NodeState) (o : Option Bytes) → o ≡ s.active
    → IsActive layer base s → is_under (layer_of layer) o base ≡ true
under_active model.Nwk base s o same is = ap (λ x. read.is_key x base) (same ∙ is) ∙ bytes_same base
under_active model.Aps base s o same is = refl

pub full_is : {w : Schedule} {h : List log.Line} {before : List (List Line)} {n : ℕ} (told : Told w h before n)
    (layer : model.Layer)
    → is_spent before (name_of (stations w) n) (layer_of layer)
    ≡ nat_eq (next_counter layer (state_of h n)) (stored_limit layer (state_of h n))
full_is {w} {h} {before} {n} told layer =
    ap (λ x. nat_eq x (read.limit before (name_of (stations w) n) (layer_of layer))) (told.nexts layer) ∙ ap
    (nat_eq (next_counter layer (state_of h n))) (told.limits layer)

pub seal_counts : (w : Schedule) (h : List log.Line) (before : List (List Line)) (n : ℕ) → Told w h before n
    → (t : Term) (front : List Line) → t.counter ≡ next_counter t.layer (state_of h n)
    → IsActive t.layer t.base (state_of h n)
    → (nat_eq (next_counter t.layer (state_of h n)) (stored_limit t.layer (state_of h n)) ≡ false)
    ⊎ (is_some (read.last (read.reserve_in (name_of (stations w) n) (layer_of t.layer)) front) ≡ true)
    → seal_stands before front (name_of (stations w) n) (term_of t) ≡ true
unfolding seal_stands
seal_counts w h before n told t front counter under reserved =
    let name = name_of (stations w) n in
    let layer = layer_of t.layer in
    let reserve = is_some (read.last (read.reserve_in name layer) front) in
    and_from
    (nat_eq t.counter (read.next before name layer) && is_under layer (read.active (flat before) name) t.base)
    (is_some (out_block (flat before ++ front) name) && (not (is_spent before name layer) || reserve))
    (and_from (nat_eq t.counter (read.next before name layer)) (is_under layer (read.active (flat before) name) t.base)
    (eq-eqb t.counter (read.next before name layer) (counter ∙ sym (told.nexts t.layer)))
    (under_active t.layer t.base (state_of h n) (read.active (flat before) name) told.active_is under))
    (and_from (is_some (out_block (flat before ++ front) name)) (not (is_spent before name layer) || reserve)
    (ap is_some (told.out_is front))
    (by_reserve (is_spent before name layer) reserve (full_is told t.layer) reserved))
  where
    by_reserve : (spent reserve : Bool) → {full : Bool} → spent ≡ full → (full ≡ false) ⊎ (reserve ≡ true)
        → (not spent || reserve) ≡ true
    by_reserve spent reserve same (inl e) = or_left (not spent) reserve (ap not (same ∙ e))
    by_reserve spent reserve same (inr e) = or_right (not spent) reserve e

pub reserve_counts : (w : Schedule) (h : List log.Line) (before : List (List Line)) (n : ℕ) → Told w h before n
    → (group front : List Line) (layer : model.Layer) (value : ℕ)
    → nat_eq (next_counter layer (state_of h n)) (stored_limit layer (state_of h n)) ≡ true → value
    ≡ block_reserved w (state_of h n) n layer
    → (list_any cuts group || list_any (seals_at (name_of (stations w) n) (layer_of layer)) group) ≡ true
    → reserve_stands before group front (name_of (stations w) n) (layer_of layer) value ≡ true
unfolding reserve_stands
reserve_counts w h before n told group front layer value full is called =
    let name = name_of (stations w) n in
    let block = (setting_of w n).me.out_block in
    let next = read.next before name (layer_of layer) in
    let test : ℕ → Bool = λ b. nat_eq value (ahead next b) in
    and_from (block_passes test (out_block (flat before ++ front) name) && is_spent before name (layer_of layer))
    (list_any cuts group || list_any (seals_at name (layer_of layer)) group)
    (and_from (block_passes test (out_block (flat before ++ front) name)) (is_spent before name (layer_of layer))
    (ap (block_passes test) (told.out_is front) ∙ eq-eqb value (ahead next block)
    (is ∙ ap (λ x. min (x + block) greatest_counter) (sym (told.nexts layer)))) (full_is told layer ∙ full))
    called

-- ---- accepts and floors

pub accept_counts : (w : Schedule) (h : List log.Line) (before : List (List Line)) (n : ℕ) → Told w h before n
    → (group : List Line) (t : Term)
    → (nat_lt t.counter (stored_floor t (state_of h n)) ≡ true)
    ⊎ (is_some (read.last (read.floor_in (name_of (stations w) n) (layer_of t.layer) t.base t.source) group)
    ≡ true)
    → accept_stands before group (name_of (stations w) n) (term_of t) ≡ true
unfolding accept_stands
accept_counts w h before n told group t (inl e) =
    let name = name_of (stations w) n in
    or_left (nat_lt t.counter (read.stored (flat before) name (layer_of t.layer) t.base t.source))
    (is_some (read.last (read.floor_in name (layer_of t.layer) t.base t.source) group))
    (ap (nat_lt t.counter) (told.floors t.layer t.base t.source ∙ floor_is t (state_of h n)) ∙ e)
accept_counts w h before n told group t (inr e) =
    let name = name_of (stations w) n in
    or_right (nat_lt t.counter (read.stored (flat before) name (layer_of t.layer) t.base t.source))
    (is_some (read.last (read.floor_in name (layer_of t.layer) t.base t.source) group)) e

abbrev pub is_there : List ℕ → Bool
is_there [] = false
is_there (x ∷ xs) = true

called_for : (cut : Bool) (floor value : ℕ) (counters : List ℕ) → nat_lt floor value ≡ true → (cut ≡ true)
    ⊎ (is_there counters ≡ true) → is_called_for cut floor value counters ≡ true
called_for true floor value counters rises is = rises
called_for false floor value [] rises (inl e) = absurd (false≢true e)
called_for false floor value [] rises (inr e) = absurd (false≢true e)
called_for false floor value (c ∷ cs) rises is = refl

pub floor_counts : (w : Schedule) (h : List log.Line) (before : List (List Line)) (n : ℕ) → Told w h before n
    → (group front : List Line) (layer : model.Layer) (key : Bytes) (sender value : ℕ) (t : Term)
    → t.layer ≡ layer → t.base ≡ key → t.source ≡ sender → nat_lt (stored_floor t (state_of h n)) value ≡ true
    → list_all (floor_fits (stored_floor t (state_of h n)) value (setting_of w n).me.in_block)
    (accepted group (name_of (stations w) n) (layer_of layer) key sender) ≡ true
    → (list_any cuts group ≡ true)
    ⊎ (is_there (accepted group (name_of (stations w) n) (layer_of layer) key sender) ≡ true)
    → floor_stands before group front (name_of (stations w) n) (layer_of layer) key sender value ≡ true
unfolding floor_stands
floor_counts w h before n told group front layer key sender value t l b f rises each called =
    let name = name_of (stations w) n in
    let block = (setting_of w n).me.in_block in
    let counters = accepted group name (layer_of layer) key sender in
    let floor = read.stored (flat before) name (layer_of layer) key sender in
    let same : floor ≡ stored_floor t (state_of h n) = told.floors layer key sender ∙ floor_of t (state_of h n) layer
    key sender l b f in
    let test : ℕ → Bool = λ x. list_all (floor_fits floor value x) counters in
    and_from (block_passes test (in_block (flat before ++ front) name))
    (is_called_for (list_any cuts group) floor value counters)
    (ap (block_passes test) (told.in_is front) ∙ ap (λ x. list_all (floor_fits x value block) counters) same ∙ each)
    (called_for (list_any cuts group) floor value counters (ap (λ x. nat_lt x value) same ∙ rises) called)

-- ---- starts and active keys

pub start_counts : (w : Schedule) (h : List log.Line) (before : List (List Line)) (n : ℕ) → Told w h before n
    → (group front : List Line) (key : Bytes) (value : ℕ) → counted.has_started h n key ≡ false
    → value ≡ counted.start_value (state_of h n) → list_any (activates (name_of (stations w) n) key) group ≡ true
    → start_stands before group front (name_of (stations w) n) key value ≡ true
unfolding start_stands
start_counts w h before n told group front key value new is active =
    let name = name_of (stations w) n in
    let next = read.next before name (layer_of model.Nwk) in
    let first = Rattle.zb_audit_counters.specs.Counting.start_value next in
    and_from
    (is_some (out_block (flat before ++ front) name)
    && (not (read.has_started (flat before) name key) && nat_eq value first)) (list_any (activates name key) group)
    (and_from (is_some (out_block (flat before ++ front) name))
    (not (read.has_started (flat before) name key) && nat_eq value first) (ap is_some (told.out_is front))
    (and_from (not (read.has_started (flat before) name key)) (nat_eq value first) (ap not (told.started key ∙ new))
    (eq-eqb value first (is ∙ ap Rattle.zb_audit_counters.specs.Counting.start_value (sym (told.nexts model.Nwk))))))
    active

pub active_counts : (w : Schedule) (h : List log.Line) (before : List (List Line)) (n : ℕ) → Told w h before n
    → (group : List Line) (key : Bytes)
    → (counted.has_started h n key ≡ true) ⊎ (list_any (starts (name_of (stations w) n) key) group ≡ true)
    → active_stands before group (name_of (stations w) n) key ≡ true
unfolding active_stands
active_counts w h before n told group key (inl e) =
    let name = name_of (stations w) n in
    or_left (read.has_started (flat before) name key) (list_any (starts name key) group) (told.started key ∙ e)
active_counts w h before n told group key (inr e) =
    let name = name_of (stations w) n in
    or_right (read.has_started (flat before) name key) (list_any (starts name key) group) e

-- ---- lines of a group

pub any_in : (test : Line → Bool) (l : Line) (ls : List Line) → In l ls → test l ≡ true → list_any test ls ≡ true
unfolding In
any_in test l [] i e = absurd i
any_in test l (m ∷ ls) (inl same) e = or_left (test m) (list_any test ls) (ap test same ∙ e)
any_in test l (m ∷ ls) (inr i) e = or_right (test m) (list_any test ls) (any_in test l ls i e)

some_on : {A : Type 0} (f : Line → Option A) (o : Option A) (ls : List Line) → is_some o ≡ true
    → is_some (fold (λ (found : Option A) (l : Line). option_or (f l) found) o ls) ≡ true
some_on f o [] e = e
some_on {A} f o (l ∷ ls) e = some_on f (option_or (f l) o) ls (by_line (f l) o e)
  where
    by_line : (x o : Option A) → is_some o ≡ true → is_some (option_or x o) ≡ true
    by_line None o e = e
    by_line (Some v) o e = refl

some_from : {A : Type 0} (f : Line → Option A) (o : Option A) (l : Line) (ls : List Line) → In l ls → is_some (f l)
    ≡ true → is_some (fold (λ (found : Option A) (m : Line). option_or (f m) found) o ls) ≡ true
unfolding In
some_from f o l [] i e = absurd i
some_from {A} f o l (m ∷ ls) (inl same) e =
    some_on f (option_or (f m) o) ls (by_line (f m) (ap (λ x. is_some (f x)) same ∙ e))
  where
    by_line : (x : Option A) → is_some x ≡ true → is_some (option_or x o) ≡ true
    by_line None e = absurd (false≢true e)
    by_line (Some v) e = refl
some_from f o l (m ∷ ls) (inr i) e = some_from f (option_or (f m) o) l ls i e

pub last_in : {A : Type 0} (f : Line → Option A) (l : Line) (ls : List Line) → In l ls → is_some (f l) ≡ true
    → is_some (read.last f ls) ≡ true
unfolding read.last
last_in f l ls i e = some_from f None l ls i e

pub all_more : (test : ℕ → Bool) (xs ys : List ℕ) → list_all test xs ≡ true → list_all test ys ≡ true
    → list_all test (xs ++ ys) ≡ true
all_more test [] ys a b = b
all_more test (x ∷ xs) ys a b =
    let parts = and_parts (test x) (list_all test xs) a in
    and_from (test x) (list_all test (xs ++ ys)) parts.0 (all_more test xs ys parts.1 b)

there_left : (xs ys : List ℕ) → is_there xs ≡ true → is_there (xs ++ ys) ≡ true
there_left [] ys e = absurd (false≢true e)
there_left (x ∷ xs) ys e = refl

there_right : (xs ys : List ℕ) → is_there ys ≡ true → is_there (xs ++ ys) ≡ true
there_right [] ys e = e
there_right (x ∷ xs) ys e = refl

pub there_in : (f : Line → List ℕ) (l : Line) (ls : List Line) → In l ls → is_there (f l) ≡ true
    → is_there (flat_map f ls) ≡ true
unfolding In
there_in f l [] i e = absurd i
there_in f l (m ∷ ls) (inl same) e = there_left (f m) (flat_map f ls) (ap (λ x. is_there (f x)) same ∙ e)
there_in f l (m ∷ ls) (inr i) e = there_right (f m) (flat_map f ls) (there_in f l ls i e)
