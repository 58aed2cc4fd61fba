-- A rollover ends: the timer tells one more device, and leaves what the next timer needs; the switch ends it.
use Rattle.std.proofs.Common.{◌≡◌, ℕ, zero, suc, ◌+◌, ◌<◌, ◌≤◌, Bool, true, false, cond, not, ◌&&◌, ◌||◌, if◌then◌else◌, List, [], ◌∷◌, ◌++◌, map, filter, fold, length, find, Option, Some, None, option_map, is_some, flat_map, nat_eq, nat_le, min, refl, sym, ap, ◌∙◌, subst, eq-eqb, eqb-true, arith, ◌⊎◌, inl, inr}
use Rattle.std.specs.List.{list_any}
use Rattle.std.specs.Prelude.{unwrap_or}
use Rattle.std.proofs.lemmas.Slice.Eq.{bytes_eq-Decides}
use Rattle.std.proofs.lemmas.Bool.{false≢true, lt-leb, leb-true, leb-false, le-leb}
use Rattle.zb_model.specs.Data.{Bytes, Nwk, Aps, Told, Active, Roll, Moved, Label, ForTransport, AtEvent, CounterSpent, Command, TransportNet, SwitchKey, DoTimer, DoSwitch, Layer}
use Rattle.zb_model.specs.Frames.{secured_frame, clear_broadcast, to_all, nwk_term, aps_term, sealed_command}
use Rattle.zb_model.specs.State.{greatest_counter, NetKey, LinkKey, NodeState, same_key, is_centre, is_live_of, is_unverified, is_active_key, next_at, with_told, told_as, applied, applied_all, after_sealing, active_row, newest, current, is_live, next_of, next_counter}
use Rattle.zb_model.specs.Tools.{Tools}
use Rattle.zb_model.specs.Rules.{Setting, Outcome, Does, Stop, Sending, Secret, Clear, refuse_if, found_or, choose, sends, short_of, spent, both_spent}
use Rattle.zb_model.specs.OwnEvents.{is_waiting, least, next_member, is_unfinished, centre_timer, switch_over, own}
use Rattle.zb_model.specs.Answer.{Answer, Counting, changes, move_edits, start_edit, comes_to, part_of, may_seal, out_of, edits_of, answer_by, counting_of, plan_of, answer, answered}
use Rattle.law_recovery.specs.Answering.{after_task, IsRefused}
use Rattle.law_recovery.specs.Rollovers.{each_once, untold, IsRolling, HasCounters, TellsNext, Switches, EndsAfter, LacksCounters, SpentWithin}
use Rattle.law_recovery.proofs.Once.{others_once, once_less, none_once, map_map, find_map}
use Rattle.law_recovery.proofs.Fields.{Fields, fields, fields_by, fields_after, reserve_leaves}
use Rattle.law_recovery.proofs.Changing.{IsMild, mild_then, mild_if, active_after, newest_after, there_after, reserves, Reserved, reserved_so, applied_then}

-- ---- the next device

abbrev partners : List LinkKey → List ℕ
partners rows = map (λ (r : LinkKey). r.partner) rows

abbrev lesser_partner : Option ℕ → LinkKey → Option ℕ
lesser_partner best r = least best r.partner

stays_some : (rows : List LinkKey) (n : ℕ) → is_some (fold lesser_partner (Some n) rows) ≡ true
stays_some [] n = refl
stays_some (r ∷ rows) n = stays_some rows (min n r.partner)

least_is : (o : Option ℕ) (n d : ℕ) → least o n ≡ Some d → (o ≡ Some d) ⊎ (nat_eq d n ≡ true)
least_is None n d e = inr (eq-eqb d n (sym (ap (λ (x : Option ℕ). unwrap_or x n) e)))
least_is (Some m) n d e = by_order (nat_le m n) refl
  where
    is : min m n ≡ d
    is = ap (λ (x : Option ℕ). unwrap_or x d) e

    by_order : (b : Bool) → nat_le m n ≡ b → (Some m ≡ Some d) ⊎ (nat_eq d n ≡ true)
    by_order true le = let same : m ≡ d = omega (arith, is, leb-true m n le) in inl (ap Some same)
    by_order false lt = inr (eq-eqb d n (omega (arith, is, leb-false m n lt)))

next_among : (rows : List LinkKey) (o : Option ℕ) (d : ℕ) → fold lesser_partner o rows ≡ Some d → (o ≡ Some d)
    ⊎ (list_any (nat_eq d) (partners rows) ≡ true)
next_among [] o d e = inl e
next_among (r ∷ rows) o d e = by_rest (next_among rows (least o r.partner) d e)
  where
    here : (b : Bool) → b ≡ true → (b || list_any (nat_eq d) (partners rows)) ≡ true
    here b e = rw e refl

    later : (b : Bool) → list_any (nat_eq d) (partners rows) ≡ true → (b || list_any (nat_eq d) (partners rows)) ≡ true
    later true e = refl
    later false e = e

    by_first : (o ≡ Some d) ⊎ (nat_eq d r.partner ≡ true) → (o ≡ Some d)
        ⊎ (list_any (nat_eq d) (partners (r ∷ rows)) ≡ true)
    by_first (inl f) = inl f
    by_first (inr f) = inr (here (nat_eq d r.partner) f)

    by_rest : (least o r.partner ≡ Some d) ⊎ (list_any (nat_eq d) (partners rows) ≡ true) → (o ≡ Some d)
        ⊎ (list_any (nat_eq d) (partners (r ∷ rows)) ≡ true)
    by_rest (inl f) = by_first (least_is o r.partner d f)
    by_rest (inr f) = inr (later (nat_eq d r.partner) f)

-- if a device is to be told, one is next; if none is to be told, none is next
next_of_rows : (rows : List LinkKey) (n : ℕ) → length (each_once (partners rows)) ≡ suc n → (d : ℕ)
    × (fold lesser_partner None rows ≡ Some d)
unfolding each_once
next_of_rows [] n e = absurd (omega (arith, e))
next_of_rows (r ∷ rows) n e = some_is (fold lesser_partner (Some r.partner) rows) (stays_some rows r.partner)
  where
    some_is : (o : Option ℕ) → is_some o ≡ true → (d : ℕ) × (o ≡ Some d)
    some_is None f = absurd (false≢true f)
    some_is (Some d) f = (d, refl)

next_there : (s : NodeState) (n : ℕ) → length (untold s) ≡ suc n → (d : ℕ) × (next_member s ≡ Some d)
unfolding untold next_member
next_there s n e = next_of_rows (filter is_waiting s.links) n e

no_partners : (rows : List LinkKey) → partners rows ≡ [] → rows ≡ []
no_partners [] e = refl
no_partners (r ∷ rows) e = absurd cc

none_next : (s : NodeState) → length (untold s) ≡ 0 → next_member s ≡ None
unfolding untold next_member
none_next s e =
    ap (fold lesser_partner None)
    (no_partners (filter is_waiting s.links) (none_once (partners (filter is_waiting s.links)) e))

live_waiting : (d : ℕ) (rows : List LinkKey) → list_any (nat_eq d) (partners (filter is_waiting rows)) ≡ true
    → list_any (is_live_of d) rows ≡ true
live_waiting d [] e = e
live_waiting d (r ∷ rows) e = by_test r.live r.told e (live_waiting d rows)
  where
    turned : (b : Bool) → nat_eq d r.partner ≡ b → nat_eq d r.partner ≡ true → nat_eq r.partner d ≡ true
    turned b f e = eq-eqb r.partner d (sym (eqb-true d r.partner e))

    later : (b : Bool) → list_any (is_live_of d) rows ≡ true → (b || list_any (is_live_of d) rows) ≡ true
    later true e = refl
    later false e = e

    first : (b : Bool) → nat_eq d r.partner ≡ b → (b || list_any (nat_eq d) (partners (filter is_waiting rows)))
        ≡ true → (list_any (nat_eq d) (partners (filter is_waiting rows)) ≡ true → list_any (is_live_of d) rows ≡ true)
        → (nat_eq r.partner d || list_any (is_live_of d) rows) ≡ true
    first true f e more = rw (turned true f f) refl
    first false f e more = later (nat_eq r.partner d) (more e)

    by_test : (l t : Bool)
        → list_any (nat_eq d) (partners (cond (l && not t) (r ∷ filter is_waiting rows) (filter is_waiting rows)))
        ≡ true → (list_any (nat_eq d) (partners (filter is_waiting rows)) ≡ true → list_any (is_live_of d) rows ≡ true)
        → ((l && nat_eq r.partner d) || list_any (is_live_of d) rows) ≡ true
    by_test true true e more = later (nat_eq r.partner d) (more e)
    by_test true false e more = first (nat_eq d r.partner) refl e more
    by_test false t e more = more e

-- ---- after a device is told

abbrev now_told : ℕ → LinkKey → LinkKey
now_told d r = if is_live_of d r then told_as true r else r

abbrev ToldIs : ℕ → LinkKey → List LinkKey → Bool → Bool → Bool → Type 0
ToldIs d r rows l p t =
    partners
    (cond (is_waiting (if l && p then told_as true r else r))
    ((if l && p then told_as true r else r) ∷ filter is_waiting (map (now_told d) rows))
    (filter is_waiting (map (now_told d) rows)))
    ≡ filter (λ n. not (nat_eq n d))
    (partners (cond (l && not t) (r ∷ filter is_waiting rows) (filter is_waiting rows)))

told_partners : (d : ℕ) (rows : List LinkKey) → partners (filter is_waiting (map (now_told d) rows))
    ≡ filter (λ n. not (nat_eq n d)) (partners (filter is_waiting rows))
told_partners d [] = refl
told_partners d (r ∷ rows) = by_test r.live (nat_eq r.partner d) r.told refl refl refl (told_partners d rows)
  where
    by_test : (l p t : Bool) → r.live ≡ l → nat_eq r.partner d ≡ p → r.told ≡ t
        → partners (filter is_waiting (map (now_told d) rows))
        ≡ filter (λ n. not (nat_eq n d)) (partners (filter is_waiting rows)) → ToldIs d r rows l p t
    by_test false p t a b c h = rw a h
    by_test true true true a b c h = rw a h
    by_test true true false a b c h = rw (a, b) h
    by_test true false true a b c h = rw (a, c) h
    by_test true false false a b c h = rw (a, c, b) (ap (λ l. r.partner ∷ l) h)

told_untold : (d : ℕ) (s t : NodeState) → t.links ≡ with_told d true s.links → untold t
    ≡ filter (λ n. not (nat_eq n d)) (untold s)
unfolding untold
told_untold d s t e = ap (λ l. each_once (partners (filter is_waiting l))) e ∙ ap each_once (told_partners d s.links)
    ∙ others_once d (partners (filter is_waiting s.links))

among_counts : (d n : ℕ) (ns : List ℕ) → list_any (nat_eq d) ns ≡ true → length (each_once ns) ≡ suc n
    → length (each_once (filter (λ m. not (nat_eq m d)) ns)) ≡ n
among_counts d n ns there count =
    let less : length (each_once (filter (λ m. not (nat_eq m d)) ns)) + 1 ≡ length (each_once ns) =
    subst (λ b. length (each_once (filter (λ m. not (nat_eq m d)) ns)) + (if b then 1 else 0)
    ≡ length (each_once ns)) there (once_less d ns) in
    omega (arith, less, count)

next_is_among : (s : NodeState) (d : ℕ) → next_member s ≡ Some d
    → list_any (nat_eq d) (partners (filter is_waiting s.links)) ≡ true
unfolding next_member
next_is_among s d e = by_case (next_among (filter is_waiting s.links) None d e)
  where
    by_case : (None ≡ Some d) ⊎ (list_any (nat_eq d) (partners (filter is_waiting s.links)) ≡ true)
        → list_any (nat_eq d) (partners (filter is_waiting s.links)) ≡ true
    by_case (inl f) = absurd (false≢true (ap is_some f))
    by_case (inr f) = f

one_less : (d n : ℕ) (s t : NodeState) → t.links ≡ with_told d true s.links → next_member s ≡ Some d
    → length (untold s) ≡ suc n → length (untold t) ≡ n
unfolding untold
one_less d n s t e next count =
    ap (λ l. length (each_once (partners (filter is_waiting l)))) e ∙ ap (λ l. length (each_once l))
    (told_partners d s.links)
    ∙ among_counts d n (partners (filter is_waiting s.links)) (next_is_among s d next) count

next_is_live : (s : NodeState) (d : ℕ) → next_member s ≡ Some d → is_live s d ≡ true
unfolding is_live
next_is_live s d e = live_waiting d s.links (next_is_among s d e)

-- ---- what the timer and the switch leave

any_map : {X : Type 0} (test : X → Bool) (f : X → X) → ((x : X) → test (f x) ≡ test x) → (xs : List X)
    → list_any test (map f xs) ≡ list_any test xs
any_map test f same [] = refl
any_map test f same (x ∷ xs) = rw (same x, any_map test f same xs) refl

told_live : (d p : ℕ) (r : LinkKey) → is_live_of p (now_told d r) ≡ is_live_of p r
told_live d p r = by_test (is_live_of d r)
  where
    by_test : (b : Bool) → is_live_of p (if b then told_as true r else r) ≡ is_live_of p r
    by_test true = refl
    by_test false = refl

told_current : (d p : ℕ) (r : LinkKey) → (is_live_of p (now_told d r) && not (is_unverified (now_told d r).attribute))
    ≡ (is_live_of p r && not (is_unverified r.attribute))
told_current d p r = by_test (is_live_of d r)
  where
    by_test : (b : Bool)
        → (is_live_of p (if b then told_as true r else r)
        && not (is_unverified (if b then told_as true r else r).attribute))
        ≡ (is_live_of p r && not (is_unverified r.attribute))
    by_test true = refl
    by_test false = refl

some_map : {X : Type 0} (f : X → X) (o : Option X) → is_some (option_map f o) ≡ is_some o
some_map f None = refl
some_map f (Some x) = refl

links_left : (d : ℕ) (s t : NodeState) → t.links ≡ with_told d true s.links
    → ((p : ℕ) → is_live s p ≡ true → is_some (current s p) ≡ true) → (p : ℕ) → is_live t p ≡ true
    → is_some (current t p) ≡ true
unfolding is_live current
links_left d s t e has p live =
    ap (λ l. is_some (find (λ (r : LinkKey). is_live_of p r && not (is_unverified r.attribute)) l)) e
    ∙ ap is_some
    (find_map (λ (r : LinkKey). is_live_of p r && not (is_unverified r.attribute)) (now_told d) (told_current d p)
    s.links)
    ∙ some_map (now_told d) (find (λ (r : LinkKey). is_live_of p r && not (is_unverified r.attribute)) s.links)
    ∙ has p
    (sym (any_map (is_live_of p) (now_told d) (told_live d p) s.links) ∙ sym (ap (list_any (is_live_of p)) e) ∙
    live)

-- the state after a timer: rows are changed mildly, both counters rise by one, and the device is told
record ToldState (s t : NodeState) (d : ℕ) : Type 0 where
  change : NetKey → NetKey
  mild : IsMild change
  next : (r : NetKey) → active_row s ≡ Some r → (change r).next ≡ next_counter Nwk s + 1
  nets : t.nets ≡ map change s.nets
  active : t.active ≡ s.active
  sending : t.sending ≡ s.sending
  aps : t.aps_next ≡ next_counter Aps s + 1
  links : t.links ≡ with_told d true s.links

mild_next : (n : ℕ) → IsMild (next_at n)
mild_next n = record { key = λ r. refl; sequence = λ r. refl; live = λ r. refl }

same_self : (key : Bytes) → same_key key key ≡ true
same_self key = (bytes_eq-Decides key key).1 refl

some_is : {X : Type 0} (x y : X) → Some x ≡ Some y → x ≡ y
some_is x y e = ap (λ o. unwrap_or o x) e

-- a change of the row of a key, at a row of that key
at_own : (key : Bytes) (n : ℕ) (f : NetKey → NetKey) → IsMild f → (r : NetKey) → same_key r.key key ≡ true
    → (if same_key (f r).key key then next_at n (f r) else f r).next ≡ n
at_own key n f m r e = rw (ap (λ k. same_key k key) (m.key r) ∙ e) refl

-- the state after limits are reserved, the device is told, and two terms are sealed
told_then : (s : NodeState) (d : ℕ) (nwk aps : Option ℕ) → Reserved nwk aps s → (base : NetKey) → active_row s
    ≡ Some base
    → (front bytes : Bytes) (label : Label) (key : Bytes) (me control to from sequence : ℕ) (content : Bytes)
    → ToldState s
    (after_sealing (nwk_term control to from me base.key sequence (next_counter Nwk s) content)
    (after_sealing (aps_term front label key me (next_counter Aps s) bytes)
    (applied_all (Moved (Told d) ∷ []) (applied_all (reserves nwk aps) s)))) d
unfolding after_sealing applied applied_all
told_then s d nwk aps r base e front bytes label key me control to from sequence content =
    subst (λ u. ToldState s
    (after_sealing (nwk_term control to from me base.key sequence (next_counter Nwk s) content)
    (after_sealing (aps_term front label key me (next_counter Aps s) bytes)
    (applied_all (Moved (Told d) ∷ []) u))) d) (sym r.same) (record {
      change = λ x. if same_key (r.change x).key base.key then next_at (next_counter Nwk s + 1) (r.change x)
          else r.change x;
      mild = mild_then (λ x. if same_key x.key base.key then next_at (next_counter Nwk s + 1) x else x) r.change
          (mild_if (λ x. same_key x.key base.key) (next_at (next_counter Nwk s + 1))
          (mild_next (next_counter Nwk s + 1))) r.mild;
      next = λ x f. at_own base.key (next_counter Nwk s + 1) r.change r.mild x
          (subst (λ y. same_key x.key y.key ≡ true) (some_is x base (sym f ∙ e)) (same_self x.key));
      nets = map_map (λ x. if same_key x.key base.key then next_at (next_counter Nwk s + 1) x else x) r.change s.nets;
      active = refl;
      sending = refl;
      aps = refl;
      links = refl;
    })

-- ---- the answer to an event of a node's own

abbrev by_outcome : Tools → Setting → NodeState → Outcome → Answer
by_outcome tools c s o = answer_by tools c s (counting_of c s (comes_to [] AtEvent o)) (comes_to [] AtEvent o)

timer_answer : (tools : Tools) (c : Setting) (s : NodeState) (o : Outcome) → own tools c s DoTimer ≡ o
    → answer tools c s DoTimer ≡ by_outcome tools c s o
unfolding answer plan_of
timer_answer tools c s o e = ap (by_outcome tools c s) e

switch_answer : (tools : Tools) (c : Setting) (s : NodeState) (o : Outcome) → own tools c s DoSwitch ≡ o
    → answer tools c s DoSwitch ≡ by_outcome tools c s o
unfolding answer plan_of
switch_answer tools c s o e = ap (by_outcome tools c s) e

-- a frame that is sealed at both layers
abbrev both_layers : ℕ → Bytes → Command → Option Sending
both_layers to key command = sends to true (Secret ForTransport key command)

may_both : (s : NodeState) (base : NetKey) (to : ℕ) (key : Bytes) (command : Command) → active_row s ≡ Some base
    → spent Nwk s ≡ false → spent Aps s ≡ false → may_seal s (both_layers to key command) ≡ true
unfolding may_seal
may_both s base to key command e n a = rw (e, n, a) refl

told_answered : (tools : Tools) (c : Setting) (s : NodeState) (k : Counting) (d : ℕ) (base : NetKey) (to : ℕ)
    (key : Bytes) (command : Command) → k.counter Nwk ≡ next_counter Nwk s → k.counter Aps ≡ next_counter Aps s
    → active_row s ≡ Some base → may_seal s (both_layers to key command) ≡ true
    → ToldState s
    (answered (answer_by tools c s k (comes_to [] AtEvent (Does (Told d ∷ []) (both_layers to key command)))) s) d
unfolding answered answer_by edits_of out_of part_of
told_answered tools c s k d base to key command n a e may =
    let t = told_then s d (k.reserve Nwk) (k.reserve Aps) (reserved_so (k.reserve Nwk) (k.reserve Aps) s) base e
    sealed_command (tools.spelled command) ForTransport key c.me.eui secured_frame to c.me.short base.sequence
    (tools.wire (aps_term sealed_command ForTransport key c.me.eui (next_counter Aps s) (tools.spelled command)))
    in
    rw (may, e, n, a, applied_then (reserves (k.reserve Nwk) (k.reserve Aps)) (Moved (Told d) ∷ []) s) t

sent_both : (tools : Tools) (c : Setting) (s : NodeState) (k : Counting) (base : NetKey) (to : ℕ) (key : Bytes)
    (command : Command) → active_row s ≡ Some base → may_seal s (both_layers to key command) ≡ true
    → is_some (out_of tools c s k (both_layers to key command)).frame ≡ true
unfolding out_of
sent_both tools c s k base to key command e may = rw (may, e) refl

-- ---- the timer

timer_rule : (tools : Tools) (c : Setting) (s : NodeState) (base new : NetKey) (d : ℕ) (row : LinkKey)
    → is_centre c.me.role ≡ true → active_row s ≡ Some base → s.sending ≡ true → next_member s ≡ Some d → newest s
    ≡ Some new → current s d ≡ Some row → (b : Bool) → both_spent s ≡ b
    → own tools c s DoTimer
    ≡ (if b then Stop CounterSpent
    else Does (Told d ∷ []) (both_layers (short_of c d) row.key (TransportNet new.key new.sequence d c.me.eui)))
unfolding own centre_timer refuse_if found_or
timer_rule tools c s base new d row role e on next f g b spent_is = rw (role, e, next, f, g, spent_is, on) refl

-- what the timer looks up
record Looked (s : NodeState) (d : ℕ) : Type 0 where
  base : NetKey
  is_active : active_row s ≡ Some base
  new : NetKey
  is_newest : newest s ≡ Some new
  row : LinkKey
  is_current : current s d ≡ Some row

there : {X : Type 0} (o : Option X) → is_some o ≡ true → (x : X) × (o ≡ Some x)
there None e = absurd (false≢true e)
there (Some x) e = (x, refl)

looked : (s : NodeState) (d : ℕ) → IsRolling s → next_member s ≡ Some d → Looked s d
looked s d r next =
    let a = there (active_row s) r.active_key in
    let n = there (newest s) r.newest_key in
    let l = there (current s d) (r.link_keys d (next_is_live s d next)) in
    record { base = a.0; is_active = a.1; new = n.0; is_newest = n.1; row = l.0; is_current = l.1 }

unspent : (s : NodeState) → next_counter Nwk s < greatest_counter → next_counter Aps s < greatest_counter
    → (spent Nwk s ≡ false) × (spent Aps s ≡ false)
unfolding spent
unspent s n a = (lt-leb greatest_counter (next_counter Nwk s) n, lt-leb greatest_counter (next_counter Aps s) a)

neither_spent : (s : NodeState) → spent Nwk s ≡ false → spent Aps s ≡ false → both_spent s ≡ false
unfolding both_spent
neither_spent s n a = rw (n, a) refl

abbrev ToNext : Setting → NodeState → ℕ → Type 0
ToNext c s d = (to : ℕ) × (key : Bytes) × (command : Command)
    × ((tools : Tools) → own tools c s DoTimer ≡ Does (Told d ∷ []) (both_layers to key command))

to_next : (c : Setting) (s : NodeState) (d : ℕ) → is_centre c.me.role ≡ true → IsRolling s → next_member s ≡ Some d
    → Looked s d → spent Nwk s ≡ false → spent Aps s ≡ false → ToNext c s d
to_next c s d role r next l n a = (
  short_of c d,
  l.row.key,
  TransportNet l.new.key l.new.sequence d c.me.eui,
  λ tools. timer_rule tools c s l.base
      l.new d l.row role l.is_active r.sending next l.is_newest l.is_current false (neither_spent s n a),
)

told_state : (tools : Tools) (c : Setting) (s : NodeState) (d : ℕ) (l : Looked s d) → spent Nwk s ≡ false
    → spent Aps s ≡ false → (x : ToNext c s d) → ToldState s (after_task tools c s DoTimer) d
unfolding after_task counting_of
told_state tools c s d l n a x =
    subst (λ y. ToldState s (answered y s) d)
    (sym (timer_answer tools c s (Does (Told d ∷ []) (both_layers x.0 x.1 x.2)) (x.3 tools)))
    (told_answered tools c s (counting_of c s (comes_to [] AtEvent (Does (Told d ∷ []) (both_layers x.0 x.1 x.2)))) d
    l.base x.0 x.1 x.2 refl refl l.is_active (may_both s l.base x.0 x.1 x.2 l.is_active n a))

tells : (tools : Tools) (c : Setting) (s : NodeState) (d : ℕ) (l : Looked s d) → next_member s ≡ Some d → spent Nwk s
    ≡ false → spent Aps s ≡ false → (x : ToNext c s d) → TellsNext tools c s
unfolding answer_by
tells tools c s d l next n a x =
    let o : Outcome = Does (Told d ∷ []) (both_layers x.0 x.1 x.2) in
    let is = timer_answer tools c s o (x.3 tools) in
    record {
      device = d;
      is_next = next;
      taken = ap (λ (y : Answer). y.refusal) is;
      sent = ap (λ (y : Answer). is_some y.frame) is ∙ sent_both tools c s (counting_of c s (comes_to [] AtEvent o))
          l.base x.0 x.1 x.2 l.is_active (may_both s l.base x.0 x.1 x.2 l.is_active n a);
      others = told_untold d s (after_task tools c s DoTimer) (told_state tools c s d l n a x).links;
    }

-- what the next timer needs is left

rolling_after : (s t : NodeState) (d : ℕ) → IsRolling s → ToldState s t d → IsRolling t
rolling_after s t d r x = record {
  sending = x.sending ∙ r.sending;
  active_key = ap is_some (active_after x.change x.mild s t x.nets x.active) ∙ there_after x.change (active_row s) ∙
      r.active_key;
  newest_key = ap is_some (newest_after x.change x.mild s t x.nets) ∙ there_after x.change (newest s) ∙ r.newest_key;
  link_keys = links_left d s t x.links r.link_keys;
}

nwk_after : (s t : NodeState) (d : ℕ) → IsRolling s → ToldState s t d → next_counter Nwk t ≡ next_counter Nwk s + 1
unfolding next_counter
nwk_after s t d r x =
    let a = there (active_row s) r.active_key in
    ap (next_of t.declared) (active_after x.change x.mild s t x.nets x.active ∙ ap (option_map x.change) a.1) ∙ x.next
    a.0 a.1

aps_after : (s t : NodeState) (d : ℕ) → ToldState s t d → next_counter Aps t ≡ next_counter Aps s + 1
unfolding next_counter
aps_after s t d x = x.aps

counters_after : (s t : NodeState) (d n : ℕ) → IsRolling s → ToldState s t d → HasCounters s (suc n) → HasCounters t n
counters_after s t d n r x h =
    record { nwk = omega (arith, h.nwk, nwk_after s t d r x); aps = omega (arith, h.aps, aps_after s t d x) }

-- ---- the switch

switch_rule : (tools : Tools) (c : Setting) (s : NodeState) (base new : NetKey) → is_centre c.me.role ≡ true
    → active_row s ≡ Some base → s.sending ≡ true → next_member s ≡ None → newest s ≡ Some new → (b : Bool)
    → spent Nwk s ≡ b
    → own tools c s DoSwitch
    ≡ (if b then Stop CounterSpent
    else Does (Active new.key ∷ Roll false ∷ [])
    (sends to_all true (Clear clear_broadcast (SwitchKey new.sequence))))
unfolding own switch_over is_unfinished refuse_if found_or choose
switch_rule tools c s base new role e on next f b spent_is = rw (role, e, next, f, spent_is, on) refl

switched_fields : (tools : Tools) (c : Setting) (s : NodeState) (k : Counting) (key : Bytes) (send : Option Sending)
    → fields (answered (answer_by tools c s k (comes_to [] AtEvent (Does (Active key ∷ Roll false ∷ []) send))) s)
    ≡ record { active = Some key; state = s.state; sending = false }
unfolding answer_by edits_of
switched_fields tools c s k key send =
    fields_after (answer_by tools c s k (comes_to [] AtEvent (Does (Active key ∷ Roll false ∷ []) send))) s ∙
    reserve_leaves (k.reserve Nwk) (k.reserve Aps) (fields s)
    (flat_map (move_edits k) (filter (changes s) (Active key ∷ Roll false ∷ []))) ∙ by_key s.active refl
  where
    with_start : (o : Option ℕ)
        → fold fields_by (fields s) (Moved (Active key) ∷ start_edit key o ++ (Moved (Roll false) ∷ []))
        ≡ record { active = Some key; state = s.state; sending = false }
    with_start None = refl
    with_start (Some v) = refl

    kept : (o : Option Bytes) → is_active_key o key ≡ true → o ≡ Some key
    kept None e = absurd (false≢true e)
    kept (Some a) e = ap Some ((bytes_eq-Decides a key).0 e)

    by_test : (b : Bool) → is_active_key s.active key ≡ b
        → fold fields_by (fields s)
        (flat_map (move_edits k) (if not b then Active key ∷ Roll false ∷ [] else Roll false ∷ []))
        ≡ record { active = Some key; state = s.state; sending = false }
    by_test true e = ap (λ o. record { active = o; state = s.state; sending = false }) (kept s.active e)
    by_test false e = with_start k.start

    by_key : (o : Option Bytes) → s.active ≡ o
        → fold fields_by (fields s) (flat_map (move_edits k) (filter (changes s) (Active key ∷ Roll false ∷ [])))
        ≡ record { active = Some key; state = s.state; sending = false }
    by_key o e = by_test (is_active_key s.active key) refl

may_nwk : (s : NodeState) (base : NetKey) (command : Command) → active_row s ≡ Some base → spent Nwk s ≡ false
    → may_seal s (sends to_all true (Clear clear_broadcast command)) ≡ true
unfolding may_seal
may_nwk s base command e n = rw (e, n) refl

sent_nwk : (tools : Tools) (c : Setting) (s : NodeState) (k : Counting) (base : NetKey) (command : Command)
    → active_row s ≡ Some base → spent Nwk s ≡ false
    → is_some (out_of tools c s k (sends to_all true (Clear clear_broadcast command))).frame ≡ true
unfolding out_of
sent_nwk tools c s k base command e n = rw (may_nwk s base command e n, e) refl

nwk_unspent : (s : NodeState) → next_counter Nwk s < greatest_counter → spent Nwk s ≡ false
unfolding spent
nwk_unspent s lt = lt-leb greatest_counter (next_counter Nwk s) lt

switches : (tools : Tools) (c : Setting) (s : NodeState) → is_centre c.me.role ≡ true → IsRolling s → next_member s
    ≡ None → next_counter Nwk s < greatest_counter → Switches tools c s
unfolding answer_by after_task
switches tools c s role r next lt =
    let a = there (active_row s) r.active_key in
    let w = there (newest s) r.newest_key in
    let unspent_is : spent Nwk s ≡ false = nwk_unspent s lt in
    let o : Outcome =
    Does (Active w.0.key ∷ Roll false ∷ []) (sends to_all true (Clear clear_broadcast (SwitchKey w.0.sequence))) in
    let is = switch_answer tools c s o (switch_rule tools c s a.0 w.0 role a.1 r.sending next w.1 false unspent_is) in
    let k = counting_of c s (comes_to [] AtEvent o) in
    let fs : fields (after_task tools c s DoSwitch)
    ≡ record { active = Some w.0.key; state = s.state; sending = false } =
    ap (λ y. fields (answered y s)) is ∙ switched_fields tools c s k w.0.key
    (sends to_all true (Clear clear_broadcast (SwitchKey w.0.sequence))) in
    record {
      all_told = next;
      taken = ap (λ (y : Answer). y.refusal) is;
      sent = ap (λ (y : Answer). is_some y.frame) is ∙ sent_nwk tools c s k a.0 (SwitchKey w.0.sequence) a.1
          unspent_is;
      over = ap (λ (x : Fields). x.sending) fs;
      switched = ap (λ (x : Fields). x.active) fs ∙ sym (ap (option_map (λ (x : NetKey). x.key)) w.1);
    }

-- ---- all of it

pub ends : (tools : Tools) (c : Setting) → is_centre c.me.role ≡ true → (n : ℕ) (s : NodeState) → length (untold s)
    ≡ n → IsRolling s → HasCounters s n → EndsAfter tools c n s
ends tools c role zero s count r h = switches tools c s role r (none_next s count) (omega (arith, h.nwk))
ends tools c role (suc n) s count r h =
    let next = next_there s n count in
    let l = looked s next.0 r next.1 in
    let u = unspent s (omega (arith, h.nwk)) (omega (arith, h.aps)) in
    let x = to_next c s next.0 role r next.1 l u.0 u.1 in
    let t = told_state tools c s next.0 l u.0 u.1 x in (
      tells tools c s next.0 l next.1 u.0 u.1 x,
      ends tools c role n (after_task tools c s DoTimer)
          (one_less next.0 n s (after_task tools c s DoTimer) t.links next.1 count)
          (rolling_after s (after_task tools c s DoTimer) next.0 r t)
          (counters_after s (after_task tools c s DoTimer) next.0 n r t h),
    )

pub rollover_ends : (tools : Tools) (c : Setting) (s : NodeState) → is_centre c.me.role ≡ true → IsRolling s
    → HasCounters s (length (untold s)) → EndsAfter tools c (length (untold s)) s
rollover_ends tools c s role r h = ends tools c role (length (untold s)) s refl r h

-- ---- a counter that ends before

spent_is : (layer : Layer) (s : NodeState) → greatest_counter ≤ next_counter layer s → spent layer s ≡ true
unfolding spent
spent_is layer s le = le-leb greatest_counter (next_counter layer s) le

below_end : (layer : Layer) (s : NodeState) → spent layer s ≡ false → next_counter layer s < greatest_counter
unfolding spent
below_end layer s e = leb-false greatest_counter (next_counter layer s) e

each_unspent : (s : NodeState) → both_spent s ≡ false → (spent Nwk s ≡ false) × (spent Aps s ≡ false)
unfolding both_spent
each_unspent s e = by_test (spent Nwk s) (spent Aps s) refl refl e
  where
    by_test : (a b : Bool) → spent Nwk s ≡ a → spent Aps s ≡ b → (a || b) ≡ false → (spent Nwk s ≡ false)
        × (spent Aps s ≡ false)
    by_test true b x y e = absurd (false≢true (sym e))
    by_test false true x y e = absurd (false≢true (sym e))
    by_test false false x y e = (x, y)

refused_as : (tools : Tools) (c : Setting) (s : NodeState) → (by_outcome tools c s (Stop CounterSpent)).refusal
    ≡ Some CounterSpent
unfolding answer_by
refused_as tools c s = refl

switch_spent : (tools : Tools) (c : Setting) (s : NodeState) → is_centre c.me.role ≡ true → IsRolling s
    → next_member s ≡ None → spent Nwk s ≡ true → IsRefused tools c s DoSwitch CounterSpent
switch_spent tools c s role r next e =
    let a = there (active_row s) r.active_key in
    let w = there (newest s) r.newest_key in
    ap (λ (y : Answer). y.refusal)
    (switch_answer tools c s (Stop CounterSpent)
    (switch_rule tools c s a.0 w.0 role a.1 r.sending next w.1 true e)) ∙ refused_as tools c s

timer_spent : (tools : Tools) (c : Setting) (s : NodeState) (d : ℕ) → is_centre c.me.role ≡ true → IsRolling s
    → next_member s ≡ Some d → Looked s d → both_spent s ≡ true → IsRefused tools c s DoTimer CounterSpent
timer_spent tools c s d role r next l e =
    ap (λ (y : Answer). y.refusal)
    (timer_answer tools c s (Stop CounterSpent)
    (timer_rule tools c s l.base l.new d l.row role l.is_active r.sending next l.is_newest l.is_current true e)) ∙
    refused_as tools c s

none_lacking : (s : NodeState) → LacksCounters s 0 → greatest_counter ≤ next_counter Nwk s
none_lacking s (inl le) = omega (arith, le)
none_lacking s (inr both) = absurd (omega (arith, both.0, both.1))

lacks_after : (s t : NodeState) (d n : ℕ) → IsRolling s → ToldState s t d → next_counter Aps s < greatest_counter
    → LacksCounters s (suc n) → LacksCounters t n
lacks_after s t d n r x small (inl le) = inl (omega (arith, le, nwk_after s t d r x))
lacks_after s t d n r x small (inr both) =
    inr (omega (arith, small, aps_after s t d x), omega (arith, both.1, aps_after s t d x))

pub stops : (tools : Tools) (c : Setting) → is_centre c.me.role ≡ true → (n : ℕ) (s : NodeState) → length (untold s)
    ≡ n → IsRolling s → LacksCounters s n → SpentWithin tools c n s
stops tools c role zero s count r lacks = switch_spent tools c s role r (none_next s count)
    (spent_is Nwk s (none_lacking s lacks))
stops tools c role (suc n) s count r lacks =
    let next = next_there s n count in
    let l = looked s next.0 r next.1 in
    by_test next.0 next.1 l (stops tools c role n (after_task tools c s DoTimer)) (both_spent s) refl
  where
    by_test : (d : ℕ) → next_member s ≡ Some d → Looked s d
        → (length (untold (after_task tools c s DoTimer)) ≡ n → IsRolling (after_task tools c s DoTimer)
        → LacksCounters (after_task tools c s DoTimer) n → SpentWithin tools c n (after_task tools c s DoTimer))
        → (b : Bool) → both_spent s ≡ b → SpentWithin tools c (suc n) s
    by_test d next l more true e = inl (timer_spent tools c s d role r next l e)
    by_test d next l more false e =
        let u = each_unspent s e in
        let x = to_next c s d role r next l u.0 u.1 in
        let t = told_state tools c s d l u.0 u.1 x in
        inr (
          tells tools c s d l next u.0 u.1 x,
          more (one_less d n s (after_task tools c s DoTimer) t.links next count)
              (rolling_after s (after_task tools c s DoTimer) d r t)
              (lacks_after s (after_task tools c s DoTimer) d n r t (below_end Aps s u.1) lacks),
        )

pub rollover_stops : (tools : Tools) (c : Setting) (s : NodeState) → is_centre c.me.role ≡ true → IsRolling s
    → LacksCounters s (length (untold s)) → SpentWithin tools c (length (untold s)) s
rollover_stops tools c s role r lacks = stops tools c role (length (untold s)) s refl r lacks
