-- Groups of plain lines, and which of them add up.
use Rattle.std.proofs.Common.{◌≡◌, ℕ, ◌+◌, Bool, true, false, cond, if◌then◌else◌, List, [], ◌∷◌, ◌++◌, map, fold, length, Option, Some, None, unwrap_or, refl, ap, ◌∙◌}
use Rattle.std.specs.Option.{option_or}
use Rattle.zb_base.specs.declared.label.Layer.{Layer}
use Rattle.zb_base.specs.declared.label.Layer.TheVariants.{Nwk, Aps}
use Rattle.zb_audit_names.specs.Groups.{event_of, flat, groups, onto, same_event}
use Rattle.zb_audit_names.specs.Naming.{declared_in}
use Rattle.zb_model.specs.Data.{Bytes}
use Rattle.zb_audit_counters.specs.Counting.{accept_stands, accepted, accepted_in, activates, active_stands, cuts, first_of, first_uncounted, floor_stands, is_counted, reserve_stands, seal_stands, seals_at, start_stands, starts, uncounted, uncounted_from, uncounted_in}
use Rattle.zb_audit_counters.specs.Readings.{active, active_in, boots, counter_in, declared, floor_in, given_in, has_started, is_key, last, limit, limit_behind, limit_in, limit_under, next, reserve_in, sealed_in, since_boot, starts_key, stored}
use Rattle.zb_seal.specs.declared.term.Term.{Term}
use Rattle.zb_trace.specs.declared.line.Line.{Line}
use Rattle.zb_trace.specs.declared.line.Line.TheVariants as line
use Rattle.law_audit_text.proofs.Knowing.{declared_plain}
use Rattle.law_audit_text.specs.Plain.{plain, plains}
use Rattle.law_audit_text.proofs.Plain.{plains_append, plains_snoc, plains_length, any_plain, flat_plain, fold_plain}

-- ---- groups

pub event_plain : (l : Line) → event_of (plain l) ≡ event_of l
unfolding event_of
event_plain (line.Node name r eui short out_block in_block) = refl
event_plain _ = refl

onto_plain : (l : Line) (gs : List (List Line)) → onto (plain l) (map plains gs) ≡ map plains (onto l gs)
onto_plain l [] = refl
onto_plain l ([] ∷ gs) = refl
onto_plain l ((m ∷ run) ∷ gs) = rw (event_plain l, event_plain m) (by_test (same_event (event_of l) (event_of m)))
  where
    by_test : (b : Bool) → cond b ((plain l ∷ plain m ∷ plains run) ∷ map plains gs)
        ((plain l ∷ []) ∷ (plain m ∷ plains run) ∷ map plains gs)
        ≡ map plains (cond b ((l ∷ m ∷ run) ∷ gs) ((l ∷ []) ∷ (m ∷ run) ∷ gs))
    by_test true = refl
    by_test false = refl

pub groups_plain : (h : List Line) → groups (plains h) ≡ map plains (groups h)
unfolding groups
groups_plain [] = refl
groups_plain (l ∷ h) = ap (onto (plain l)) (groups_plain h) ∙ onto_plain l (groups h)

pub flats_plain : (gs : List (List Line)) → flat (map plains gs) ≡ plains (flat gs)
flats_plain [] = refl
flats_plain (g ∷ gs) = ap (λ xs. plains g ++ xs) (flats_plain gs) ∙ plains_append g (flat gs)

groups_snoc : (gs : List (List Line)) (g : List Line) → map plains gs ++ plains g ∷ [] ≡ map plains (gs ++ g ∷ [])
groups_snoc [] g = refl
groups_snoc (x ∷ gs) g = ap (λ xs. plains x ∷ xs) (groups_snoc gs g)

-- ---- readings

last_plain : {A : Type 0} (speaks : Line → Option A) → ((l : Line) → speaks (plain l) ≡ speaks l) → (h : List Line)
    → last speaks (plains h) ≡ last speaks h
unfolding last
last_plain {A = A} speaks each h = fold_plain (λ (found : Option A) (l : Line). option_or (speaks l) found)
    (λ found l. ap (λ o. option_or o found) (each l)) None h

active_line : (n : Bytes) (l : Line) → active_in n (plain l) ≡ active_in n l
active_line n (line.Active event node key) = refl
active_line n _ = refl

given_line : (n : Bytes) (l : Line) → given_in n (plain l) ≡ given_in n l
given_line n (line.GivenNet node key sequence) = refl
given_line n _ = refl

active_plain : (h : List Line) (n : Bytes) → active (plains h) n ≡ active h n
unfolding active
active_plain h n = rw (last_plain (active_in n) (active_line n) h, last_plain (given_in n) (given_line n) h) refl

starts_key_line : (n key : Bytes) (l : Line) → starts_key n key (plain l) ≡ starts_key n key l
starts_key_line n key (line.GivenNet node k sequence) = refl
starts_key_line n key (line.Start event node k value) = refl
starts_key_line n key _ = refl

started_plain : (h : List Line) (n key : Bytes) → has_started (plains h) n key ≡ has_started h n key
unfolding has_started
started_plain h n key = any_plain (starts_key n key) (starts_key_line n key) h

counter_line : (n : Bytes) (l : Layer) (m : Line) → counter_in n l (plain m) ≡ counter_in n l m
counter_line n l (line.Counter node layer value) = refl
counter_line n l _ = refl

counter_plain : (h : List Line) (n : Bytes) (l : Layer) → declared (plains h) n l ≡ declared h n l
unfolding declared
counter_plain h n l = ap (λ o. unwrap_or o 0) (last_plain (counter_in n l) (counter_line n l) h)

reserve_line : (n : Bytes) (l : Layer) (m : Line) → reserve_in n l (plain m) ≡ reserve_in n l m
reserve_line n l (line.Reserve event node layer value) = refl
reserve_line n l _ = refl

limit_line : (n key : Bytes) (was : Bool) (m : Line) → limit_in n key was (plain m) ≡ limit_in n key was m
limit_line n key was (line.Start event node k value) = refl
limit_line n key was (line.Reserve event node layer value) = refl
limit_line n key was _ = refl

behind_plain : (h : List Line) (n key : Bytes) (gs : List (List Line)) → limit_behind (plains h) n key (map plains gs)
    ≡ limit_behind h n key gs
unfolding limit_behind
behind_plain h n key [] = refl
behind_plain h n key (g ∷ gs) =
    rw (
      plains_append h g,
      behind_plain (h ++ g) n key gs,
      active_plain h n,
      last_plain (limit_in n key (is_key (active h n) key)) (limit_line n key (is_key (active h n) key)) g,
    ) refl

under_plain : (before : List (List Line)) (n : Bytes) (key : Option Bytes) → limit_under (map plains before) n key
    ≡ limit_under before n key
unfolding limit_under
under_plain before n None = rw (flats_plain before, counter_plain (flat before) n Nwk) refl
under_plain before n (Some key) =
    rw (flats_plain before, counter_plain (flat before) n Nwk, behind_plain [] n key before) refl

limit_plain : (before : List (List Line)) (n : Bytes) (l : Layer) → limit (map plains before) n l ≡ limit before n l
unfolding limit
limit_plain before n Nwk = rw (flats_plain before, active_plain (flat before) n)
    (under_plain before n (active (flat before) n))
limit_plain before n Aps =
    rw (
      flats_plain before,
      last_plain (reserve_in n Aps) (reserve_line n Aps) (flat before),
      counter_plain (flat before) n Aps,
    ) refl

boots_line : (n : Bytes) (l : Line) → boots n (plain l) ≡ boots n l
boots_line n (line.Boot event node) = refl
boots_line n _ = refl

abbrev booted : Bytes → List Line → Line → List Line
booted n run l = if boots n l then [] else run ++ l ∷ []

booted_plain : (n : Bytes) (run : List Line) (l : Line) → booted n (plains run) (plain l) ≡ plains (booted n run l)
booted_plain n run l = ap (λ b. cond b [] (plains run ++ plain l ∷ [])) (boots_line n l) ∙ by_test (boots n l)
  where
    by_test : (b : Bool) → cond b [] (plains run ++ plain l ∷ []) ≡ plains (cond b [] (run ++ l ∷ []))
    by_test true = refl
    by_test false = plains_snoc run l

since_from : (n : Bytes) (run h : List Line) → fold (booted n) (plains run) (plains h) ≡ plains (fold (booted n) run h)
since_from n run [] = refl
since_from n run (l ∷ h) = ap (λ xs. fold (booted n) xs (plains h)) (booted_plain n run l) ∙ since_from n
    (booted n run l) h

since_plain : (n : Bytes) (h : List Line) → since_boot n (plains h) ≡ plains (since_boot n h)
unfolding since_boot
since_plain n h = since_from n [] h

sealed_line : (n : Bytes) (l : Layer) (key : Option Bytes) (m : Line) → sealed_in n l key (plain m)
    ≡ sealed_in n l key m
sealed_line n l key (line.Seal event node t) = refl
sealed_line n l key _ = refl

next_plain : (before : List (List Line)) (n : Bytes) (l : Layer) → next (map plains before) n l ≡ next before n l
unfolding next
next_plain before n l =
    rw (
      limit_plain before n l,
      flats_plain before,
      active_plain (flat before) n,
      since_plain n (flat before),
      last_plain (sealed_in n l (active (flat before) n)) (sealed_line n l (active (flat before) n))
          (since_boot n (flat before)),
    ) refl

floor_line : (n : Bytes) (l : Layer) (key : Bytes) (sender : ℕ) (m : Line) → floor_in n l key sender (plain m)
    ≡ floor_in n l key sender m
floor_line n l key sender (line.Floor event node layer k s value) = refl
floor_line n l key sender _ = refl

stored_plain : (h : List Line) (n : Bytes) (l : Layer) (key : Bytes) (sender : ℕ) → stored (plains h) n l key sender
    ≡ stored h n l key sender
unfolding stored
stored_plain h n l key sender =
    ap (λ o. unwrap_or o 0) (last_plain (floor_in n l key sender) (floor_line n l key sender) h)

-- ---- lines that add up

cuts_line : (l : Line) → cuts (plain l) ≡ cuts l
cuts_line (line.Stopped event node) = refl
cuts_line (line.DownDisk event node) = refl
cuts_line _ = refl

seals_line : (n : Bytes) (l : Layer) (m : Line) → seals_at n l (plain m) ≡ seals_at n l m
seals_line n l (line.Seal event node t) = refl
seals_line n l _ = refl

activates_line : (n key : Bytes) (m : Line) → activates n key (plain m) ≡ activates n key m
activates_line n key (line.Active event node k) = refl
activates_line n key _ = refl

starts_line : (n key : Bytes) (m : Line) → starts n key (plain m) ≡ starts n key m
starts_line n key (line.Start event node k value) = refl
starts_line n key _ = refl

accepted_line : (n : Bytes) (l : Layer) (key : Bytes) (sender : ℕ) (m : Line) → accepted_in n l key sender (plain m)
    ≡ accepted_in n l key sender m
accepted_line n l key sender (line.Accept event node t) = refl
accepted_line n l key sender _ = refl

accepted_plain : (group : List Line) (n : Bytes) (l : Layer) (key : Bytes) (sender : ℕ)
    → accepted (plains group) n l key sender ≡ accepted group n l key sender
unfolding accepted
accepted_plain group n l key sender = flat_plain (accepted_in n l key sender) (accepted_line n l key sender) group

-- the nodes that the lines before a line declare
declared_before : (before : List (List Line)) (front : List Line)
    → declared_in (flat (map plains before) ++ plains front) ≡ declared_in (flat before ++ front)
declared_before before front =
    ap (λ h. declared_in (h ++ plains front)) (flats_plain before) ∙
    (ap declared_in (plains_append (flat before) front) ∙ declared_plain (flat before ++ front))

module _ (before : List (List Line)) (group front : List Line) (n : Bytes) where
  seal_plain : (t : Term) → seal_stands (map plains before) (plains front) n t ≡ seal_stands before front n t
  unfolding seal_stands
  seal_plain t =
      rw (
        declared_before before front,
        next_plain before n t.layer,
        limit_plain before n t.layer,
        flats_plain before,
        active_plain (flat before) n,
        last_plain (reserve_in n t.layer) (reserve_line n t.layer) front,
      ) refl

  reserve_plain : (l : Layer) (value : ℕ) → reserve_stands (map plains before) (plains group) (plains front) n l value
      ≡ reserve_stands before group front n l value
  unfolding reserve_stands
  reserve_plain l value =
      rw (
        declared_before before front,
        next_plain before n l,
        limit_plain before n l,
        any_plain cuts cuts_line group,
        any_plain (seals_at n l) (seals_line n l) group,
      ) refl

  accept_plain : (t : Term) → accept_stands (map plains before) (plains group) n t ≡ accept_stands before group n t
  unfolding accept_stands
  accept_plain t =
      rw (
        flats_plain before,
        stored_plain (flat before) n t.layer t.base.0 t.source.0,
        last_plain (floor_in n t.layer t.base.0 t.source.0) (floor_line n t.layer t.base.0 t.source.0) group,
      ) refl

  floor_plain : (l : Layer) (key : Bytes) (sender value : ℕ) → floor_stands (map plains before) (plains group)
      (plains front) n l key sender value ≡ floor_stands before group front n l key sender value
  unfolding floor_stands
  floor_plain l key sender value =
      rw (
        declared_before before front,
        flats_plain before,
        stored_plain (flat before) n l key sender,
        accepted_plain group n l key sender,
        any_plain cuts cuts_line group,
      ) refl

  start_plain : (key : Bytes) (value : ℕ) → start_stands (map plains before) (plains group) (plains front) n key value
      ≡ start_stands before group front n key value
  unfolding start_stands
  start_plain key value =
      rw (
        declared_before before front,
        next_plain before n Nwk,
        flats_plain before,
        started_plain (flat before) n key,
        any_plain (activates n key) (activates_line n key) group,
      ) refl

  active_stands_plain : (key : Bytes) → active_stands (map plains before) (plains group) n key
      ≡ active_stands before group n key
  unfolding active_stands
  active_stands_plain key =
      rw (flats_plain before, started_plain (flat before) n key, any_plain (starts n key) (starts_line n key) group)
      refl

counted_plain : (before : List (List Line)) (group front : List Line) (l : Line)
    → is_counted (map plains before) (plains group) (plains front) (plain l) ≡ is_counted before group front l
unfolding is_counted
counted_plain before group front (line.Seal event node t) = seal_plain before group front node.bytes t
counted_plain before group front (line.Reserve event node l value) = reserve_plain before group front node.bytes l
    value
counted_plain before group front (line.Accept event node t) = accept_plain before group front node.bytes t
counted_plain before group front (line.Floor event node l key sender value) =
    floor_plain before group front node.bytes l key.0 sender.0 value
counted_plain before group front (line.Start event node key value) = start_plain before group front node.bytes key.0
    value
counted_plain before group front (line.Active event node key) = active_stands_plain before group front node.bytes key.0
counted_plain before group front _ = refl

uncounted_in_plain : (before : List (List Line)) (group front : List Line) (number : ℕ) (ls : List Line)
    → uncounted_in (map plains before) (plains group) (plains front) number (plains ls)
    ≡ uncounted_in before group front number ls
unfolding uncounted_in
uncounted_in_plain before group front number [] = refl
uncounted_in_plain before group front number (l ∷ ls) =
    rw (
      counted_plain before group front l,
      plains_snoc front l,
      uncounted_in_plain before group (front ++ l ∷ [])
          (number + 1) ls,
    ) refl

uncounted_from_plain : (before : List (List Line)) (number : ℕ) (gs : List (List Line))
    → uncounted_from (map plains before) number (map plains gs) ≡ uncounted_from before number gs
unfolding uncounted_from
uncounted_from_plain before number [] = refl
uncounted_from_plain before number (g ∷ gs) =
    rw (
      uncounted_in_plain before g [] number g,
      groups_snoc before g,
      plains_length g,
      uncounted_from_plain (before ++ g ∷ []) (number + length g) gs,
    ) refl

pub uncounted_plain : (lines : List Line) → first_uncounted (plains lines) ≡ first_uncounted lines
unfolding first_uncounted uncounted
uncounted_plain lines = ap (λ gs. first_of (uncounted_from [] 1 gs)) (groups_plain lines) ∙ ap first_of
    (uncounted_from_plain [] 1 (groups lines))
