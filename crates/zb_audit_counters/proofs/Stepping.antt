-- What is kept about a node, one line later.
use Rattle.std.proofs.Common.{◌≡◌, ℕ, ◌+◌, ◌≤◌, ◌<◌, List, [], ◌∷◌, ◌++◌, Bool, true, false, not, ◌&&◌, ◌||◌, append-nil, append_assoc, Option, Some, None, refl, ap, sym, subst, ◌∙◌, bytes_eq, nat_eq, nat_lt, arith, ltb}
use Rattle.std.specs.List.{list_any, list_all}
use Rattle.std.specs.Option.{option_map, option_or, is_some, IfSome, unwrap_or}
use Rattle.std.specs.Prelude.{if◌then◌else◌, min, max, nat_le}
use Rattle.std.proofs.lemmas.Bool.{le-leb, le-ltb, leb-true, ltb-true, ltb-false}
use Rattle.std.proofs.Math.Nat.{le-max_right, le-min, max-eq_left, max-eq_right, min-eq_left, min-eq_right, min-le_left, min-le_right}
use Rattle.std.proofs.lemmas.List.Folds.{list_all-append}
use Rattle.zb_base.specs.declared.key.Key.{Key}
use Rattle.zb_base.specs.declared.label.Layer.{Layer}
use Rattle.zb_base.specs.declared.label.Layer.TheVariants.{Nwk, Aps}
use Rattle.zb_audit_names.specs.Groups.{flat}
use Rattle.zb_model.specs.Data.{Bytes}
use Rattle.zb_audit_counters.specs.Counting.{accepted, accepted_in, activates, ahead, floor_fits, seals_at, starts}
use Rattle.zb_audit_counters.specs.Readings.{active, active_in, boots, counter_in, declared, floor_in, given_in, has_started, is_key, last, limit_behind, limit_in, reserve_in, sealed_in, starts_key, stored}
use Rattle.zb_audit_counters.specs.Recounting.{IsFloor, IsKey, IsLayer, IsMark, IsOf, IsOutgoing, IsRead, are_any, itself, last_seal}
use Rattle.zb_audit_counters.specs.Standing.{Hears, active_said, before_of, boot_said, fits_all, floor_of, greatest_of, hear, heard_floor, heard_key, heard_layer, heard_outgoing, key_bytes, key_in, layer_of, least_of, mark_if, seal_said, set_in, since, some_said, true_if, with_accepted, with_stored}
use Rattle.zb_audit_counters.specs.declared.counters.Counters.{Counters}
use Rattle.zb_audit_counters.specs.declared.floor.Floor.{Floor}
use Rattle.zb_audit_counters.specs.declared.floor.Sender.{Sender}
use Rattle.zb_audit_counters.specs.declared.key.KeyCounters.{KeyCounters}
use Rattle.zb_audit_counters.specs.declared.layer.LayerCounters.{LayerCounters}
use Rattle.zb_audit_counters.specs.declared.outgoing.Outgoing.{Outgoing}
use Rattle.zb_audit_counters.specs.declared.outgoing.Sealed.{Sealed}
use Rattle.zb_audit_counters.specs.declared.versioned.Versioned.{Versioned}
use Rattle.zb_trace.specs.declared.line.Line.{Line}
use Rattle.zb_trace.specs.declared.line.Line.TheVariants as line
use Rattle.zb_audit_counters.proofs.LineLists.{accepted_more, any_more, last_more, last_seal_more, limit_now}
use Rattle.zb_audit_counters.proofs.Puts.{itself_number, same_number}

-- Numbers

pub not_below : (g : ℕ) → nat_lt g g ≡ false
not_below g = le-ltb g g (omega arith)

pub not_equal : (a b : ℕ) → a < b → nat_eq a b ≡ false
not_equal a b h = decide (nat_eq a b) refl
  where
    decide : (x : Bool) → nat_eq a b ≡ x → nat_eq a b ≡ false
    decide true e = let same : a ≡ b = same_number a b e in absurd (omega arith)
    decide false e = e

up : (m count : ℕ) → m ≤ count → m ≤ count + 1
up m count h = omega arith

-- Values

pub before_stays : {T : Type 0} (g : ℕ) (value : T) (v : Versioned T) → before_of g (set_in g value v) ≡ before_of g v
before_stays g value v = ap (λ (b : Bool). if b then value else before_of g v) (not_below g)

pub hear_before : {T : Type 0} (g : ℕ) (said : Option T) (v : Versioned T) → before_of g (hear g said v)
    ≡ before_of g v
hear_before g None v = refl
hear_before g (Some value) v = before_stays g value v

heard_group : {T : Type 0} (count g : ℕ) (said : Option T) (v : Versioned T) → g ≤ count + 1 → v.group ≤ count
    → (hear g said v).group ≤ count + 1
heard_group count g None v within past = up v.group count past
heard_group count g (Some value) v within past = within

heard_latest : {T A : Type 0} (f : T → A) (g : ℕ) (said : Option T) (v : Versioned T) (new : A) → f v.latest ≡ new
    → f (hear g said v).latest ≡ unwrap_or (option_map f said) new
heard_latest f g None v new is = is
heard_latest f g (Some value) v new is = refl

read_more : {T A : Type 0} (f : T → A) (count g : ℕ) (v : Versioned T) (old new later : A) (said : Option T) → g
    ≤ count + 1 → IsRead f count g v old new → unwrap_or (option_map f said) new ≡ later
    → IsRead f (count + 1) g (hear g said v) old later
read_more f count g v old new later said within is e =
    (heard_group count g said v within is.0, ap f (hear_before g said v) ∙ is.1, heard_latest f g said v new is.2 ∙ e)

mark_more : (count g mark : ℕ) (there said later : Bool) → g ≤ count + 1 → IsMark count g mark there → (there || said)
    ≡ later → IsMark (count + 1) g (mark_if g said mark) later
mark_more count g mark there true later within is e = (within, itself_number g ∙ (sym (or_true there) ∙ e))
  where
    or_true : (b : Bool) → (b || true) ≡ true
    or_true true = refl
    or_true false = refl
mark_more count g mark there false later within is e = (up mark count is.0, is.1 ∙ (sym (or_false there) ∙ e))
  where
    or_false : (b : Bool) → (b || false) ≡ b
    or_false true = refl
    or_false false = refl

-- What is known about a reading, and the reading with it

said_value : (said : Option ℕ) (found : Option ℕ) → unwrap_or (option_map itself said) (unwrap_or found 0)
    ≡ unwrap_or (option_or said found) 0
said_value None found = refl
said_value (Some x) found = refl

said_some : (said now : Option ℕ) → unwrap_or (option_map itself (some_said said)) now ≡ option_or said now
said_some None now = refl
said_some (Some x) now = refl

said_true : (b now : Bool) → unwrap_or (option_map itself (true_if b)) now ≡ (now || b)
said_true true true = refl
said_true true false = refl
said_true false true = refl
said_true false false = refl

some_or : (said found : Option ℕ) → (is_some found || is_some said) ≡ is_some (option_or said found)
some_or None None = refl
some_or None (Some y) = refl
some_or (Some x) None = refl
some_or (Some x) (Some y) = refl

-- Outgoing counters

sealed_now : (g boot : ℕ) (said now : Option ℕ) (v : Versioned (Option Sealed)) → since boot v.latest ≡ now
    → since boot (hear g (seal_said boot said) v).latest ≡ option_or said now
sealed_now g boot None now v is = is
sealed_now g boot (Some counter) now v is = ap (λ (b : Bool). if b then Some counter else None) (itself_number boot)

sealed_noted : (g boot : ℕ) (said : Option ℕ) (v : Versioned (Option Sealed))
    → IfSome v.latest (λ (s : Sealed). s.boot ≤ boot) → IfSome (hear g (seal_said boot said) v).latest
    (λ (s : Sealed). s.boot ≤ boot)
sealed_noted g boot None v noted = noted
sealed_noted g boot (Some counter) v noted = omega arith

forgotten : (boot number : ℕ) (o : Option Sealed) → IfSome o (λ (s : Sealed). s.boot ≤ boot) → boot < number
    → since number o ≡ None
forgotten boot number None noted later = refl
forgotten boot number (Some s) noted later = ap (λ (b : Bool). if b then Some s.counter else None)
    (not_equal s.boot number (omega arith))

noted_later : (boot number : ℕ) (o : Option Sealed) → IfSome o (λ (s : Sealed). s.boot ≤ boot) → boot < number
    → IfSome o (λ (s : Sealed). s.boot ≤ number)
noted_later boot number None noted later = tt
noted_later boot number (Some s) noted later = omega arith

abbrev boot_heard : Bool → ℕ → Option ℕ
boot_heard b number = if b then Some number else None

outgoing_more : (count g number : ℕ) (booted : Versioned ℕ) (la ln sa sn limit_said seal_heard : Option ℕ)
    (o : Outgoing) (b : Bool) → g ≤ count + 1 → number ≡ count + 1 → booted.latest ≤ count
    → (b ≡ true → limit_said ≡ None) → (b ≡ true → seal_heard ≡ None) → IsOutgoing count g booted la ln sa sn o
    → IsOutgoing (count + 1) g (hear g (boot_heard b number) booted) la (option_or limit_said ln) sa (if b then None
    else option_or seal_heard sn) (heard_outgoing g booted.latest limit_said seal_heard o)
outgoing_more count g number booted la ln sa sn limit_said seal_heard o false within is_number known no_limit no_seal
    is = record {
      limit = read_more itself count g o.limit la ln (option_or limit_said ln) (some_said limit_said) within is.limit
          (said_some limit_said ln);
      past = heard_group count g (seal_said booted.latest seal_heard) o.sealed within is.past;
      before = ap (since (before_of g booted)) (hear_before g (seal_said booted.latest seal_heard) o.sealed) ∙
          is.before;
      now = sealed_now g booted.latest seal_heard sn o.sealed is.now;
      noted = sealed_noted g booted.latest seal_heard o.sealed is.noted;
    }
outgoing_more count g number booted la ln sa sn limit_said seal_heard o true within is_number known no_limit no_seal
    is =
    subst (λ (x : Option ℕ). IsOutgoing (count + 1) g (set_in g number booted) la (option_or x ln) sa None
    (heard_outgoing g booted.latest x seal_heard o)) (sym (no_limit refl))
    (subst (λ (x : Option ℕ). IsOutgoing (count + 1) g (set_in g number booted) la ln sa None
    (heard_outgoing g booted.latest None x o)) (sym (no_seal refl)) (record {
      limit = (up o.limit.group count is.limit.0, is.limit.1, is.limit.2);
      past = up o.sealed.group count is.past;
      before = ap (λ (x : ℕ). since x (before_of g o.sealed)) (before_stays g number booted) ∙ is.before;
      now = forgotten booted.latest number o.sealed.latest is.noted (omega arith);
      noted = noted_later booted.latest number o.sealed.latest is.noted (omega arith);
    }))

-- A boot says nothing about limits and seals.

no_reserve : (n : Bytes) (ly : Layer) (l : Line) → boots n l ≡ true → reserve_in n ly l ≡ None
no_reserve n ly (line.Reserve e m layer value) boot = cc
no_reserve n ly _ boot = refl

no_limit_set : (n key : Bytes) (was : Bool) (l : Line) → boots n l ≡ true → limit_in n key was l ≡ None
no_limit_set n key was (line.Reserve e m layer value) boot = cc
no_limit_set n key was (line.Start e m k value) boot = cc
no_limit_set n key was _ boot = refl

no_seal_set : (n : Bytes) (ly : Layer) (key : Option Bytes) (l : Line) → boots n l ≡ true → sealed_in n ly key l ≡ None
no_seal_set n ly key (line.Seal e m t) boot = cc
no_seal_set n ly key _ boot = refl

-- Floors

fits_from : (floor value block c : ℕ) → floor ≤ c → value ≡ ahead c block → floor_fits floor value block c ≡ true
fits_from floor value block c low is = rw (le-leb floor c low, is) (itself_number (ahead c block))

fits_low : (floor value block c : ℕ) → floor_fits floor value block c ≡ true → floor ≤ c
fits_low floor value block c h = leb-true floor c (left (nat_le floor c) (nat_eq value (ahead c block)) h)
  where
    left : (a b : Bool) → (a && b) ≡ true → a ≡ true
    left true b e = refl
    left false b e = e

fits_value : (floor value block c : ℕ) → floor_fits floor value block c ≡ true → value ≡ ahead c block
fits_value floor value block c h =
    same_number value (ahead c block) (right (nat_le floor c) (nat_eq value (ahead c block)) h)
  where
    right : (a b : Bool) → (a && b) ≡ true → b ≡ true
    right true b e = e
    right false b e = cc

ahead_up : (x y block : ℕ) → x ≤ y → ahead x block ≤ ahead y block
ahead_up x y block h = le-min (le_trans (min-le_left (x + block) 4294967295) (omega arith))
    (min-le_right (x + block) 4294967295)
  where
    le_trans : {a b c : ℕ} → a ≤ b → b ≤ c → a ≤ c
    le_trans p q = omega arith

fits_between : (floor value block x y z : ℕ) → x ≤ y → y ≤ z → floor_fits floor value block x ≡ true
    → floor_fits floor value block z ≡ true → floor_fits floor value block y ≡ true
fits_between floor value block x y z low high h k =
    let from = fits_low floor value block x h in
    let one = fits_value floor value block x h in
    let other = fits_value floor value block z k in
    let up : ahead x block ≤ ahead y block = ahead_up x y block low in
    let down : ahead y block ≤ ahead z block = ahead_up y z block high in
    fits_from floor value block y (omega arith) (omega arith)

and_third : (a b c : Bool) → (a ≡ true → b ≡ true → c ≡ true) → (a && b) ≡ (a && b && c)
and_third true true c h = sym (h refl refl)
and_third true false c h = refl
and_third false b c h = refl

and_first : (a b c : Bool) → (c ≡ true → b ≡ true → a ≡ true) → (c && b) ≡ (a && b && c)
and_first true true true h = refl
and_first true true false h = refl
and_first true false true h = refl
and_first true false false h = refl
and_first false b true h = no b (h refl)
  where
    no : (b : Bool) → (b ≡ true → false ≡ true) → b ≡ false
    no true k = sym (k refl)
    no false k = refl
and_first false b false h = refl

and_second : (a b c : Bool) → (a ≡ true → c ≡ true → b ≡ true) → (a && c) ≡ (a && b && c)
and_second true true c h = refl
and_second true false true h = sym (h refl refl)
and_second true false false h = refl
and_second false b c h = refl

-- The least and greatest counter with one more, for a test that holds between two values if it holds for both.
ends_of : (P : ℕ → Bool) → ((x y z : ℕ) → x ≤ y → y ≤ z → P x ≡ true → P z ≡ true → P y ≡ true)
    → (least greatest c : ℕ) → least ≤ greatest
    → (P (min least c) && P (max greatest c)) ≡ (P least && P greatest && P c)
ends_of P convex least greatest c order = at_least (ltb c least) refl
  where
    at_greatest : least ≤ c → (b : Bool) → ltb greatest c ≡ b → (P (min least c) && P (max greatest c))
        ≡ (P least && P greatest && P c)
    at_greatest low true e =
        let high = ltb-true greatest c e in
        ap (λ (x : ℕ). P x && P (max greatest c)) (min-eq_left low)
        ∙ (ap (λ (x : ℕ). P least && P x) (max-eq_right (omega arith)) ∙ and_second (P least) (P greatest) (P c)
        (convex least greatest c order (omega arith)))
    at_greatest low false e =
        let high = ltb-false greatest c e in
        ap (λ (x : ℕ). P x && P (max greatest c)) (min-eq_left low)
        ∙ (ap (λ (x : ℕ). P least && P x) (max-eq_left high) ∙ and_third (P least) (P greatest) (P c)
        (convex least c greatest low high))

    at_least : (b : Bool) → ltb c least ≡ b → (P (min least c) && P (max greatest c)) ≡ (P least && P greatest && P c)
    at_least true e =
        let low = ltb-true c least e in
        ap (λ (x : ℕ). P x && P (max greatest c)) (min-eq_right (omega arith))
        ∙ (ap (λ (x : ℕ). P c && P x) (max-eq_left (omega arith)) ∙ and_first (P least) (P greatest) (P c)
        (convex c least greatest (omega arith) order))
    at_least false e = at_greatest (ltb-false c least e) (ltb greatest c) refl

fits_ends : (floor value block least greatest c : ℕ) → least ≤ greatest
    → (floor_fits floor value block (min least c) && floor_fits floor value block (max greatest c))
    ≡ (floor_fits floor value block least && floor_fits floor value block greatest
    && floor_fits floor value block c)
fits_ends floor value block = ends_of (floor_fits floor value block) (fits_between floor value block)

any_end : (xs : List ℕ) (c : ℕ) → are_any (xs ++ c ∷ []) ≡ true
any_end [] c = refl
any_end (x ∷ xs) c = refl

and_true : (b : Bool) → (b && true) ≡ b
and_true true = refl
and_true false = refl

-- The accepted frames of a floor with one more.
module _ (count g : ℕ) (within : g ≤ count + 1) (f : Floor) (xs : List ℕ)
    (taken : IsMark count g f.accepted (are_any xs))
    (fits : (floor value block : ℕ) → fits_all g floor value block f ≡ list_all (floor_fits floor value block) xs)
    (order : f.least ≤ f.greatest) (c : ℕ) where
  fits_one : (floor value block : ℕ) (b : Bool) → nat_eq f.accepted g ≡ b
      → (floor_fits floor value block (if b then min f.least c else c)
      && floor_fits floor value block (if b then max f.greatest c else c))
      ≡ (list_all (floor_fits floor value block) xs && floor_fits floor value block c)
  fits_one floor value block true e =
      fits_ends floor value block f.least f.greatest c order
      ∙ ap (λ (x : Bool). x && floor_fits floor value block c)
      (sym (ap
      (λ (b : Bool). not b || (floor_fits floor value block f.least && floor_fits floor value block f.greatest))
      e) ∙ fits floor value block)
  fits_one floor value block false e =
      twice (floor_fits floor value block c)
      ∙ ap (λ (x : Bool). x && floor_fits floor value block c)
      (sym (ap
      (λ (b : Bool). not b || (floor_fits floor value block f.least && floor_fits floor value block f.greatest))
      e) ∙ fits floor value block)
    where
      twice : (b : Bool) → (b && b) ≡ (true && b)
      twice true = refl
      twice false = refl

  fits_more : (floor value block : ℕ) → fits_all g floor value block (with_accepted g (c ∷ []) f)
      ≡ list_all (floor_fits floor value block) (xs ++ c ∷ [])
  fits_more floor value block =
      ap (λ (b : Bool). not b
      || (floor_fits floor value block (least_of g c f) && floor_fits floor value block (greatest_of g c f)))
      (itself_number g)
      ∙ (fits_one floor value block (nat_eq f.accepted g) refl
      ∙ sym (list_all-append (floor_fits floor value block) xs (c ∷ []) ∙ ap
      (λ (b : Bool). list_all (floor_fits floor value block) xs && b) (and_true (floor_fits floor value block c))))

  order_more : (b : Bool) → (if b then min f.least c else c) ≤ (if b then max f.greatest c else c)
  order_more true = let low = min-le_right f.least c in let high = le-max_right f.greatest c in omega arith
  order_more false = omega arith

accepted_as : (n : Bytes) (ly : Layer) (key : Bytes) (sender : ℕ) (l : Line) → (b : Bool) × (c : ℕ)
    × (accepted_in n ly key sender l ≡ (if b then c ∷ [] else []))
accepted_as n ly key sender (line.Accept e m t) = (_, t.counter, refl)
accepted_as n ly key sender _ = (false, 0, refl)

group_heard : (g : ℕ) (said found : Option ℕ) (v : Versioned ℕ) → nat_eq v.group g ≡ is_some found
    → nat_eq (hear g said v).group g ≡ is_some (option_or said found)
group_heard g None found v is = is
group_heard g (Some value) found v is = itself_number g

floor_more : (count g : ℕ) (n : Bytes) (s : Sender) (before : List (List Line)) (front : List Line) (l : Line)
    (f : Floor) → g ≤ count + 1
    → IsFloor count g n s.layer s.key.0 s.eui.0 before front f → IsFloor (count + 1) g n s.layer s.key.0 s.eui.0
    before (front ++ l ∷ []) (heard_floor g n s l f)
unfolding stored
floor_more count g n s before front l f within is = from (accepted_as n s.layer s.key.0 s.eui.0 l)
  where
    kept_more : IsRead itself (count + 1) g (hear g (floor_in n s.layer s.key.0 s.eui.0 l) f.stored)
        (stored (flat before) n s.layer s.key.0 s.eui.0)
        (stored (flat before ++ (front ++ l ∷ [])) n s.layer s.key.0 s.eui.0)
    kept_more =
        read_more itself count g f.stored (stored (flat before) n s.layer s.key.0 s.eui.0)
        (stored (flat before ++ front) n s.layer s.key.0 s.eui.0)
        (stored (flat before ++ (front ++ l ∷ [])) n s.layer s.key.0 s.eui.0)
        (floor_in n s.layer s.key.0 s.eui.0 l) within is.kept
        (said_value (floor_in n s.layer s.key.0 s.eui.0 l)
        (last (floor_in n s.layer s.key.0 s.eui.0) (flat before ++ front))
        ∙ (ap (λ (o : Option ℕ). unwrap_or o 0)
        (sym (last_more (floor_in n s.layer s.key.0 s.eui.0) (flat before ++ front) l))
        ∙ ap (λ (h : List Line). unwrap_or (last (floor_in n s.layer s.key.0 s.eui.0) h) 0)
        (append_assoc (flat before) front (l ∷ []))))

    here_more : nat_eq (hear g (floor_in n s.layer s.key.0 s.eui.0 l) f.stored).group g
        ≡ is_some (last (floor_in n s.layer s.key.0 s.eui.0) (front ++ l ∷ []))
    here_more =
        group_heard g (floor_in n s.layer s.key.0 s.eui.0 l) (last (floor_in n s.layer s.key.0 s.eui.0) front)
        f.stored is.here ∙ ap (λ (o : Option ℕ). is_some o)
        (sym (last_more (floor_in n s.layer s.key.0 s.eui.0) front l))

    with : (b : Bool) (c : ℕ) (cs : List ℕ) → cs ≡ (if b then c ∷ [] else [])
        → accepted (front ++ l ∷ []) n s.layer s.key.0 s.eui.0 ≡ accepted front n s.layer s.key.0 s.eui.0 ++ cs
        → IsFloor (count + 1) g n s.layer s.key.0 s.eui.0 before (front ++ l ∷ [])
        (with_accepted g cs (with_stored g (floor_in n s.layer s.key.0 s.eui.0 l) f))
    with true c cs is_one more =
        subst (λ (ys : List ℕ). IsFloor (count + 1) g n s.layer s.key.0 s.eui.0 before (front ++ l ∷ [])
        (with_accepted g ys (with_stored g (floor_in n s.layer s.key.0 s.eui.0 l) f))) (sym is_one) (record {
          kept = kept_more;
          here = here_more;
          taken = (
            within,
            itself_number g ∙ sym
                (ap are_any (more ∙ ap (λ (ys : List ℕ). accepted front n s.layer s.key.0 s.eui.0 ++ ys) is_one) ∙
                any_end (accepted front n s.layer s.key.0 s.eui.0) c),
          );
          fits = λ floor value block.
              fits_more count g within f (accepted front n s.layer s.key.0 s.eui.0) is.taken is.fits is.ordered c
              floor value block
              ∙ ap (list_all (floor_fits floor value block))
              (sym (more ∙ ap (λ (ys : List ℕ). accepted front n s.layer s.key.0 s.eui.0 ++ ys) is_one));
          ordered = order_more count g within f (accepted front n s.layer s.key.0 s.eui.0) is.taken is.fits is.ordered
              c (nat_eq f.accepted g);
        })
    with false c cs is_none more =
        subst (λ (ys : List ℕ). IsFloor (count + 1) g n s.layer s.key.0 s.eui.0 before (front ++ l ∷ [])
        (with_accepted g ys (with_stored g (floor_in n s.layer s.key.0 s.eui.0 l) f))) (sym is_none) (record {
          kept = kept_more;
          here = here_more;
          taken = (up f.accepted count is.taken.0, is.taken.1 ∙ sym (ap are_any (same is_none more)));
          fits = λ floor value block. is.fits floor value block ∙ ap (list_all (floor_fits floor value block))
              (sym (same is_none more));
          ordered = is.ordered;
        })
      where
        same : cs ≡ [] → accepted (front ++ l ∷ []) n s.layer s.key.0 s.eui.0
            ≡ accepted front n s.layer s.key.0 s.eui.0 ++ cs → accepted (front ++ l ∷ []) n s.layer s.key.0 s.eui.0
            ≡ accepted front n s.layer s.key.0 s.eui.0
        same none more =
            more ∙ (ap (λ (ys : List ℕ). accepted front n s.layer s.key.0 s.eui.0 ++ ys) none ∙ append-nil
            (accepted front n s.layer s.key.0 s.eui.0))

    from : (b : Bool) × (c : ℕ) × (accepted_in n s.layer s.key.0 s.eui.0 l ≡ (if b then c ∷ [] else []))
        → IsFloor (count + 1) g n s.layer s.key.0 s.eui.0 before (front ++ l ∷ []) (heard_floor g n s l f)
    from it = with it.0 it.1 (accepted_in n s.layer s.key.0 s.eui.0 l) it.2
        (accepted_more front l n s.layer s.key.0 s.eui.0)

-- The rest of a node

further : (before : List (List Line)) (front : List Line) (l : Line) → (flat before ++ front) ++ l ∷ [] ≡ flat before
    ++ (front ++ l ∷ [])
further before front l = append_assoc (flat before) front (l ∷ [])

layer_more : (count g : ℕ) (n : Bytes) (ly : Layer) (before : List (List Line)) (front : List Line) (l : Line)
    (a : LayerCounters) → g ≤ count + 1
    → IsLayer count g n ly before front a → IsLayer (count + 1) g n ly before (front ++ l ∷ [])
    (heard_layer g n ly l a)
unfolding declared
layer_more count g n ly before front l a within is = record {
  declared = read_more itself count g a.declared (declared (flat before) n ly) (declared (flat before ++ front) n ly)
      (declared (flat before ++ (front ++ l ∷ [])) n ly) (counter_in n ly l) within is.declared
      (said_value (counter_in n ly l) (last (counter_in n ly) (flat before ++ front))
      ∙ (ap (λ (o : Option ℕ). unwrap_or o 0) (sym (last_more (counter_in n ly) (flat before ++ front) l)) ∙ ap
      (λ (h : List Line). unwrap_or (last (counter_in n ly) h) 0) (further before front l)));
  reserved = mark_more count g a.reserved (is_some (last (reserve_in n ly) front)) (is_some (reserve_in n ly l))
      (is_some (last (reserve_in n ly) (front ++ l ∷ []))) within is.reserved
      (some_or (reserve_in n ly l) (last (reserve_in n ly) front) ∙ ap (λ (o : Option ℕ). is_some o)
      (sym (last_more (reserve_in n ly) front l)));
  sealed = mark_more count g a.sealed (list_any (seals_at n ly) front) (seals_at n ly l)
      (list_any (seals_at n ly) (front ++ l ∷ [])) within is.sealed (sym (any_more (seals_at n ly) front l));
}

seal_further : (n : Bytes) (ly : Layer) (key : Option Bytes) (before : List (List Line)) (front : List Line) (l : Line)
    → (if boots n l then None else option_or (sealed_in n ly key l) (last_seal n ly key (flat before ++ front)))
    ≡ last_seal n ly key (flat before ++ (front ++ l ∷ []))
seal_further n ly key before front l = sym (last_seal_more n ly key (flat before ++ front) l) ∙ ap
    (last_seal n ly key) (further before front l)

key_more : (count g number : ℕ) (booted : Versioned ℕ) (n key : Bytes) (before : List (List Line)) (front : List Line)
    (l : Line) (k : KeyCounters) → g ≤ count + 1 → number ≡ count + 1 → booted.latest ≤ count
    → IsKey count g booted n key before front k
    → IsKey (count + 1) g (hear g (boot_said n number l) booted) n key before (front ++ l ∷ [])
    (heard_key g booted.latest n key (is_key (active (flat before) n) key) l k)
unfolding has_started
key_more count g number booted n key before front l k within is_number known is = record {
  outgoing =
      subst (λ (x : Option ℕ). IsOutgoing (count + 1) g (hear g (boot_said n number l) booted)
      (limit_behind [] n key before) x (last_seal n Nwk (Some key) (flat before))
      (last_seal n Nwk (Some key) (flat before ++ (front ++ l ∷ [])))
      (heard_outgoing g booted.latest (limit_in n key (is_key (active (flat before) n) key) l)
      (sealed_in n Nwk (Some key) l) k.outgoing))
      (sym (limit_now n key before front l))
      (subst (λ (x : Option ℕ). IsOutgoing (count + 1) g (hear g (boot_said n number l) booted)
      (limit_behind [] n key before)
      (option_or (limit_in n key (is_key (active (flat before) n) key) l)
      (limit_behind [] n key (before ++ front ∷ [])))
      (last_seal n Nwk (Some key) (flat before)) x
      (heard_outgoing g booted.latest (limit_in n key (is_key (active (flat before) n) key) l)
      (sealed_in n Nwk (Some key) l) k.outgoing))
      (seal_further n Nwk (Some key) before front l)
      (outgoing_more count g number booted (limit_behind [] n key before)
      (limit_behind [] n key (before ++ front ∷ [])) (last_seal n Nwk (Some key) (flat before))
      (last_seal n Nwk (Some key) (flat before ++ front))
      (limit_in n key (is_key (active (flat before) n) key) l) (sealed_in n Nwk (Some key) l) k.outgoing (boots n l)
      within is_number known (no_limit_set n key (is_key (active (flat before) n) key) l)
      (no_seal_set n Nwk (Some key) l) is.outgoing));
  started = read_more itself count g k.started (has_started (flat before) n key)
      (has_started (flat before ++ front) n key) (has_started (flat before ++ (front ++ l ∷ [])) n key)
      (true_if (starts_key n key l)) within is.started
      (said_true (starts_key n key l) (list_any (starts_key n key) (flat before ++ front))
      ∙ (sym (any_more (starts_key n key) (flat before ++ front) l) ∙ ap (list_any (starts_key n key))
      (further before front l)));
  start = mark_more count g k.start (list_any (starts n key) front) (starts n key l)
      (list_any (starts n key) (front ++ l ∷ [])) within is.start (sym (any_more (starts n key) front l));
  active = mark_more count g k.active (list_any (activates n key) front) (activates n key l)
      (list_any (activates n key) (front ++ l ∷ [])) within is.active (sym (any_more (activates n key) front l));
}

-- The active key

active_with : (n : Bytes) (l : Line) (A G : Option Bytes)
    → unwrap_or (option_map (option_map key_bytes) (active_said n (is_some A) l)) (option_or A G)
    ≡ option_or (option_or (active_in n l) A) (option_or (given_in n l) G)
active_with n (line.Active e m key) A G = chosen (bytes_eq m.bytes n)
  where
    chosen : (b : Bool) → unwrap_or (option_map (option_map key_bytes) (if b then Some (Some key) else None))
        (option_or A G) ≡ option_or (option_or (if b then Some key.0 else None) A) G
    chosen true = refl
    chosen false = refl
active_with n (line.GivenNet m key sequence) A G = chosen A (bytes_eq m.bytes n)
  where
    chosen : (A : Option Bytes) (b : Bool)
        → unwrap_or (option_map (option_map key_bytes) (if not (is_some A) && b then Some (Some key) else None))
        (option_or A G) ≡ option_or A (option_or (if b then Some key.0 else None) G)
    chosen None true = refl
    chosen None false = refl
    chosen (Some x) b = refl
active_with n _ A G = refl

activated_with : (said found : Option Bytes) → (is_some said || is_some found) ≡ is_some (option_or said found)
activated_with None found = refl
activated_with (Some x) found = refl

latest_boot : (count g : ℕ) (said : Bool) (booted : Versioned ℕ) → booted.latest ≤ count
    → (hear g (boot_heard said (count + 1)) booted).latest ≤ count + 1
latest_boot count g true booted known = omega arith
latest_boot count g false booted known = up booted.latest count known

-- One seal of the APS layer is one under any key.
aps_sealed : (n : Bytes) (key : Option Bytes) (l : Line) → sealed_in n Aps None l ≡ sealed_in n Aps key l
aps_sealed n key (line.Seal e m t) = refl
aps_sealed n key _ = refl

active_further : (n : Bytes) (before : List (List Line)) (front : List Line) (l : Line)
    → option_or (option_or (active_in n l) (last (active_in n) (flat before ++ front)))
    (option_or (given_in n l) (last (given_in n) (flat before ++ front)))
    ≡ active (flat before ++ (front ++ l ∷ [])) n
unfolding active
active_further n before front l =
    sym (ap (λ (h : List Line). option_or (last (active_in n) h) (last (given_in n) h)) (sym (further before front l))
    ∙ (ap (λ (o : Option Bytes). option_or o (last (given_in n) ((flat before ++ front) ++ l ∷ [])))
    (last_more (active_in n) (flat before ++ front) l)
    ∙ ap (option_or (option_or (active_in n l) (last (active_in n) (flat before ++ front))))
    (last_more (given_in n) (flat before ++ front) l)))

pub of_more : (count g number : ℕ) (n : Bytes) (before : List (List Line)) (front : List Line) (l : Line)
    (old new : Counters) → g ≤ count + 1 → number ≡ count + 1
    → IsOf count g n before front old → Hears g number n l old new → IsOf (count + 1) g n before (front ++ l ∷ []) new
unfolding active
of_more count g number n before front l old new within is_number is hears = record {
  active =
      subst (λ (v : Versioned (Option Key)). IsRead (option_map key_bytes) (count + 1) g v (active (flat before) n)
      (active (flat before ++ (front ++ l ∷ [])) n)) (sym hears.active)
      (read_more (option_map key_bytes) count g old.active (active (flat before) n) (active (flat before ++ front) n)
      (active (flat before ++ (front ++ l ∷ [])) n) (active_said n old.activated l) within is.active
      (ap (λ (b : Bool). unwrap_or (option_map (option_map key_bytes) (active_said n b l))
      (active (flat before ++ front) n)) is.activated
      ∙ (active_with n l (last (active_in n) (flat before ++ front)) (last (given_in n) (flat before ++ front)) ∙
      active_further n before front l)));
  activated =
      hears.activated
      ∙ (ap (λ (b : Bool). is_some (active_in n l) || b) is.activated
      ∙ (activated_with (active_in n l) (last (active_in n) (flat before ++ front))
      ∙ (ap (λ (o : Option Bytes). is_some o) (sym (last_more (active_in n) (flat before ++ front) l)) ∙ ap
      (λ (h : List Line). is_some (last (active_in n) h)) (further before front l))));
  booted = (booted_group, booted_latest);
  layers = λ ly. subst (IsLayer (count + 1) g n ly before (front ++ l ∷ [])) (sym (hears.layers ly))
      (layer_more count g n ly before front l (layer_of old ly) within (is.layers ly));
  outgoing = λ key.
      subst (λ (o : Outgoing). IsOutgoing (count + 1) g new.booted (last (reserve_in n Aps) (flat before))
      (last (reserve_in n Aps) (flat before ++ (front ++ l ∷ []))) (last_seal n Aps key (flat before))
      (last_seal n Aps key (flat before ++ (front ++ l ∷ []))) o)
      (sym (hears.outgoing ∙ ap
      (λ (x : Option ℕ). heard_outgoing g old.booted.latest (reserve_in n Aps l) x old.outgoing)
      (aps_sealed n key l)))
      (subst (λ (v : Versioned ℕ). IsOutgoing (count + 1) g v (last (reserve_in n Aps) (flat before))
      (last (reserve_in n Aps) (flat before ++ (front ++ l ∷ []))) (last_seal n Aps key (flat before))
      (last_seal n Aps key (flat before ++ (front ++ l ∷ [])))
      (heard_outgoing g old.booted.latest (reserve_in n Aps l) (sealed_in n Aps key l) old.outgoing))
      (sym hears.booted) (outgoing_at key));
  keys = λ key.
      subst (IsKey (count + 1) g new.booted n key.0 before (front ++ l ∷ []))
      (sym (hears.keys key ∙ ap
      (λ (o : Option Bytes). heard_key g old.booted.latest n key.0 (is_key o key.0) l (key_in old.keys key))
      is.active.1))
      (subst (λ (v : Versioned ℕ). IsKey (count + 1) g v n key.0 before (front ++ l ∷ [])
      (heard_key g old.booted.latest n key.0 (is_key (active (flat before) n) key.0) l (key_in old.keys key)))
      (sym hears.booted)
      (key_more count g number old.booted n key.0 before front l (key_in old.keys key) within is_number is.booted.1
      (is.keys key)));
  floors = λ s.
      subst (IsFloor (count + 1) g n s.layer s.key.0 s.eui.0 before (front ++ l ∷ [])) (sym (hears.floors s))
      (floor_more count g n s before front l (floor_of old.floors s) within (is.floors s));
}
  where
    booted_group : new.booted.group ≤ count + 1
    booted_group = subst (λ (v : Versioned ℕ). v.group ≤ count + 1) (sym hears.booted)
        (heard_group count g (boot_said n number l) old.booted within is.booted.0)

    booted_latest : new.booted.latest ≤ count + 1
    booted_latest =
        subst (λ (v : Versioned ℕ). v.latest ≤ count + 1)
        (sym (hears.booted ∙ ap (λ (x : ℕ). hear g (boot_heard (boots n l) x) old.booted) is_number))
        (latest_boot count g (boots n l) old.booted is.booted.1)

    limit_further : option_or (reserve_in n Aps l) (last (reserve_in n Aps) (flat before ++ front))
        ≡ last (reserve_in n Aps) (flat before ++ (front ++ l ∷ []))
    limit_further = sym (last_more (reserve_in n Aps) (flat before ++ front) l) ∙ ap (last (reserve_in n Aps))
        (further before front l)

    outgoing_at : (key : Option Bytes) → IsOutgoing (count + 1) g (hear g (boot_said n number l) old.booted)
        (last (reserve_in n Aps) (flat before)) (last (reserve_in n Aps) (flat before ++ (front ++ l ∷ [])))
        (last_seal n Aps key (flat before)) (last_seal n Aps key (flat before ++ (front ++ l ∷ [])))
        (heard_outgoing g old.booted.latest (reserve_in n Aps l) (sealed_in n Aps key l) old.outgoing)
    outgoing_at key =
        subst (λ (x : Option ℕ). IsOutgoing (count + 1) g (hear g (boot_said n number l) old.booted)
        (last (reserve_in n Aps) (flat before)) x (last_seal n Aps key (flat before))
        (last_seal n Aps key (flat before ++ (front ++ l ∷ [])))
        (heard_outgoing g old.booted.latest (reserve_in n Aps l) (sealed_in n Aps key l) old.outgoing)) limit_further
        (subst (λ (x : Option ℕ). IsOutgoing (count + 1) g (hear g (boot_said n number l) old.booted)
        (last (reserve_in n Aps) (flat before))
        (option_or (reserve_in n Aps l) (last (reserve_in n Aps) (flat before ++ front)))
        (last_seal n Aps key (flat before)) x
        (heard_outgoing g old.booted.latest (reserve_in n Aps l) (sealed_in n Aps key l) old.outgoing))
        (seal_further n Aps key before front l)
        (outgoing_more count g number old.booted (last (reserve_in n Aps) (flat before))
        (last (reserve_in n Aps) (flat before ++ front)) (last_seal n Aps key (flat before))
        (last_seal n Aps key (flat before ++ front))
        (reserve_in n Aps l) (sealed_in n Aps key l) old.outgoing (boots n l) within is_number is.booted.1
        (no_reserve n Aps l) (no_seal_set n Aps key l) (is.outgoing key)))
