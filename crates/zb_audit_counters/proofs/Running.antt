-- A recount, line by line.
use Rattle.std.proofs.Common.{◌≡◌, ℕ, ◌+◌, ◌≤◌, ◌<◌, List, [], ◌∷◌, ◌++◌, Bool, true, false, true≢false, cond, ◌||◌, length, length-append, append-nil, append_assoc, drop, get_or, Option, Some, None, refl, ap, sym, subst, ◌∙◌, bytes_eq, nat_eq, eq-eqb, arith, Result, Ok, Err}
use Rattle.std.specs.BTreeMap.{BTreeMap, get, is_at}
use Rattle.std.specs.List.{list_any, AllByRecursion}
use Rattle.std.specs.Option.{option_map, option_or, is_some, IsSome}
use Rattle.std.specs.Ordering.{nat_cmp}
use Rattle.std.specs.Prelude.{if◌then◌else◌, IfOk, OnOk, Vec}
use Rattle.std.specs.Global.{Global}
use Rattle.std.specs.declared.alloc.AllocError.{AllocError}
use Rattle.std.proofs.Math.Numerals.{add-one}
use Rattle.std.proofs.lemmas.List.{drop_all, drop_more}
use Rattle.zb_base.specs.declared.key.Key.{Key}
use Rattle.zb_base.specs.declared.label.Layer.{Layer}
use Rattle.zb_audit_names.specs.Groups.{event_of, flat, groups, same_event}
use Rattle.zb_audit_names.specs.Naming.{declared_in, place_in, speaker}
use Rattle.zb_audit_names.specs.Standing.{IsSpeaker, Tells, TellsOf}
use Rattle.zb_audit_names.specs.declared.node.Who.{Who}
use Rattle.zb_audit_names.proofs.Places.{one_place}
use Rattle.zb_model.specs.Data.{Bytes}
use Rattle.zb_audit_counters.specs.Counting.{accepted, cuts, first_of, first_uncounted, in_block, is_counted, out_block, uncounted, uncounted_from, uncounted_in}
use Rattle.zb_audit_counters.specs.Readings.{active, declared, has_started, last, limit_behind, since_boot, stored}
use Rattle.zb_audit_counters.specs.Recounting.{HasHeard, IsAt, IsFloor, IsKey, IsLayer, IsOf, IsOfGroups, IsOutgoing, IsRead, IsOrFresh, IsReadyFor, IsRun, IsUnderWay, IsWaiting, Ready, ReadyTo, Recounts, RecountsTo, first_unmet, first_unmet_by, is_met_at, last_seal, meets, verdict, with_bad, with_wait}
use Rattle.zb_audit_counters.specs.Standing.{AreFresh, Hears, counts, fresh_outgoing, in_block_by, is_met, judged_at, key_bytes, layer_of, out_block_by}
use Rattle.zb_audit_counters.specs.declared.counters.Counters.{Counters}
use Rattle.zb_audit_counters.specs.declared.judgement.Judgement.{Judgement}
use Rattle.zb_audit_counters.specs.declared.judgement.Judgement.TheVariants.{Stands, Falls, Waits}
use Rattle.zb_audit_counters.specs.declared.judgement.Wait.{Wait}
use Rattle.zb_audit_counters.specs.declared.outgoing.Outgoing.{Outgoing}
use Rattle.zb_audit_counters.specs.declared.recount.Recount.{Recount}
use Rattle.zb_audit_counters.specs.declared.versioned.Versioned.{Versioned}
use Rattle.zb_trace.specs.declared.line.Line.{Line}
use Rattle.zb_trace.specs.declared.line.Line.TheVariants as line
use Rattle.zb_audit_counters.proofs.Judging.{judged_as, met_as}
use Rattle.zb_audit_counters.proofs.LineLists.{any_more, ended, first_append, flat_more, limit_none, uncounted_behind, uncounted_more, whole}
use Rattle.zb_audit_counters.proofs.Puts.{itself_number, number_alike, same_bytes, same_number}
use Rattle.zb_audit_counters.proofs.Silent.{not_named, passed_over}
use Rattle.zb_audit_counters.proofs.Stepping.{of_more}
use Rattle.zb_audit_counters.proofs.Turning.{at_turns}

-- Names by their places

unsome : {A : Type 0} (x y : A) → Some x ≡ Some y → x ≡ y
unsome x y e = cc

placed : (other n : Bytes) (names : List Bytes) (same : Bool) (p : Option ℕ) (i : ℕ) → bytes_eq other n ≡ same
    → ((j : ℕ) → p ≡ Some j → get_or names j [] ≡ n)
    → (if same then Some 0 else option_map (λ (n : ℕ). n + 1) p) ≡ Some i → get_or (other ∷ names) i [] ≡ n
placed other n names true p i same more e = subst (λ (x : ℕ). get_or (other ∷ names) x [] ≡ n) (unsome 0 i e)
    (same_bytes other n same)
placed other n names false None i same more e = cc
placed other n names false (Some j) i same more e =
    subst (λ (x : ℕ). get_or (other ∷ names) x [] ≡ n) (sym (add-one j) ∙ unsome (j + 1) i e) (more j refl)

name_at : (names : List Bytes) (n : Bytes) (i : ℕ) → place_in names n ≡ Some i → get_or names i [] ≡ n
unfolding place_in
name_at [] n i e = cc
name_at (other ∷ names) n i e = placed other n names (bytes_eq other n) (place_in names n) i refl (name_at names n) e

-- No line

fresh_layers : (n : Bytes) (c : Counters) → AreFresh c → (ly : Layer) → IsLayer 0 1 n ly [] [] (layer_of c ly)
unfolding last declared
fresh_layers n c fresh ly =
    subst (IsLayer 0 1 n ly [] []) (sym (fresh.layers ly))
    (record { declared = (omega arith, refl, refl); reserved = (omega arith, refl); sealed = (omega arith, refl) })

fresh_outgoings : (booted : Versioned ℕ) (o : Outgoing) → o ≡ fresh_outgoing
    → IsOutgoing 0 1 booted None None None None o
fresh_outgoings booted o is =
    subst (IsOutgoing 0 1 booted None None None None) (sym is)
    (record { limit = (omega arith, refl, refl); past = omega arith; before = refl; now = refl; noted = tt })

fresh_of : (n : Bytes) (c : Counters) → AreFresh c → IsOf 0 1 n [] [] c
unfolding last has_started declared stored active limit_behind since_boot last_seal accepted
fresh_of n c fresh = record {
  active = subst (λ (v : Versioned (Option Key)). IsRead (option_map key_bytes) 0 1 v None None) (sym fresh.active)
      (omega arith, refl, refl);
  activated = fresh.activated;
  booted = subst (λ (v : Versioned ℕ). (v.group ≤ 0) × (v.latest ≤ 0)) (sym fresh.booted) (omega arith, omega arith);
  layers = fresh_layers n c fresh;
  outgoing = λ key. fresh_outgoings c.booted c.outgoing fresh.outgoing;
  keys = λ key.
      subst (IsKey 0 1 c.booted n key.0 [] []) (sym (fresh.keys key))
      (record {
        outgoing = fresh_outgoings c.booted fresh_outgoing refl;
        started = (omega arith, refl, refl);
        start = (omega arith, refl);
        active = (omega arith, refl);
      });
  floors = λ s.
      subst (IsFloor 0 1 n s.layer s.key.0 s.eui.0 [] []) (sym (fresh.floors s))
      (record {
        kept = (omega arith, refl, refl);
        here = refl;
        taken = (omega arith, refl);
        fits = λ floor value block. refl;
        ordered = omega arith;
      });
}

nothing_at : (n : Bytes) (o : Option Counters) → o ≡ None → IsAt 0 1 n [] [] o
nothing_at n None e = fresh_of n
nothing_at n (Some c) e = cc

pub none_recounted : (names : List Bytes) (r : Recount) → r.nodes.entries ≡ [] → r.waits.items ≡ [] → r.group ≡ 1
    → r.event ≡ None → r.cut ≡ false → r.bad ≡ None → r.first ≡ None → Recounts names r []
unfolding Recounts uncounted_from uncounted_in
none_recounted names r nodes waits group event cut bad first =
    subst (λ (o : Option ℕ). RecountsTo o names r []) (sym first) (
      [],
      [],
      record {
        lines_are = refl;
        ahead = λ rest. refl;
        run = record { alike = tt; alone = λ absent. omega arith };
        kept = record {
          group = group;
          past = refl;
          cut = cut;
          nodes = λ n place is. subst (λ (g : ℕ). IsAt 0 g n [] [] (get nat_cmp r.nodes place)) (sym group)
              (nothing_at n (get nat_cmp r.nodes place) (rw nodes refl));
          waits = subst (AllByRecursion (IsWaiting names r.nodes)) (sym waits) tt;
          judged = λ rest. sym (ap (λ (ws : List Wait). option_or (first_unmet names [] rest ws) r.bad) waits ∙ bad);
        };
      },
    )

-- The waits of a group

first_unmet_more : (names : List Bytes) (before : List (List Line)) (group : List Line) (ws : List Wait) (w : Wait)
    → first_unmet names before group (ws ++ w ∷ [])
    ≡ option_or (first_unmet names before group ws) (if meets before group (get_or names w.place []) w.need
    then None else Some w.line)
first_unmet_more names before group [] w = refl
first_unmet_more names before group (x ∷ ws) w = chosen (first_unmet_more names before group ws w)
    (meets before group (get_or names x.place []) x.need)
  where
    chosen : first_unmet names before group (ws ++ w ∷ [])
        ≡ option_or (first_unmet names before group ws) (if meets before group (get_or names w.place []) w.need
        then None else Some w.line)
        → (b : Bool) → (if b then first_unmet names before group (ws ++ w ∷ []) else Some x.line)
        ≡ option_or (if b then first_unmet names before group ws else Some x.line)
        (if meets before group (get_or names w.place []) w.need then None else Some w.line)
    chosen more true = more
    chosen more false = refl

met_at : (names : List Bytes) (r : Recount) (before : List (List Line)) (front : List Line)
    → IsOfGroups names r before front → (w : Wait) → IsWaiting names r.nodes w
    → is_met_at r w (get nat_cmp r.nodes w.place) ≡ meets before front (get_or names w.place []) w.need
met_at names r before front kept w waiting =
    from (get nat_cmp r.nodes w.place) refl (kept.nodes waiting.name w.place waiting.place)
    ∙ ap (λ (n : Bytes). meets before front n w.need) (sym (name_at names waiting.name w.place waiting.place))
  where
    from : (o : Option Counters) → get nat_cmp r.nodes w.place ≡ o
        → IsAt (length (flat before ++ front)) r.group waiting.name before front o → is_met_at r w o
        ≡ meets before front waiting.name w.need
    from None e at = absurd (true≢false (sym waiting.there ∙ ap (λ (o : Option Counters). is_some o) e))
    from (Some c) e at =
        ap (λ (b : Bool). is_met r.group b c w.need) kept.cut ∙ met_as (length (flat before ++ front)) r.group
        waiting.name before front c at w.need

unmet_at : (names : List Bytes) (r : Recount) (before : List (List Line)) (front : List Line)
    → IsOfGroups names r before front → (ws : List Wait) → AllByRecursion (IsWaiting names r.nodes) ws
    → first_unmet_by r ws ≡ first_unmet names before front ws
unmet_at names r before front kept [] waiting = refl
unmet_at names r before front kept (w ∷ ws) waiting =
    ap (λ (b : Bool). if b then first_unmet_by r ws else Some w.line) (met_at names r before front kept w waiting.0)
    ∙ ap (λ (o : Option ℕ). if meets before front (get_or names w.place []) w.need then o else Some w.line)
    (unmet_at names r before front kept ws waiting.1)

-- The first line of the group that doesn't add up, when all its lines are there.
group_first : (names : List Bytes) (r : Recount) (before : List (List Line)) (front : List Line)
    → IsOfGroups names r before front
    → first_of (uncounted_in before front [] r.group front) ≡ option_or (first_unmet_by r r.waits.items) r.bad
group_first names r before front kept =
    sym (ap (λ (g : List Line). first_of (uncounted_in before g [] r.group front)) (append-nil front))
    ∙ (kept.judged []
    ∙ (ap (λ (g : List Line). option_or (first_unmet names before g r.waits.items) r.bad) (append-nil front)
    ∙ ap (λ (o : Option ℕ). option_or o r.bad) (sym (unmet_at names r before front kept r.waits.items kept.waits))))

-- The groups before, and one more

first_here : (before : List (List Line)) (front : List Line) (more : List (List Line)) (number : ℕ) → number
    ≡ length (flat before) + 1 → first_of (uncounted_from [] 1 before) ≡ None
    → first_of (uncounted_from [] 1 (before ++ front ∷ more))
    ≡ option_or (first_of (uncounted_in before front [] number front))
    (first_of (uncounted_from (before ++ front ∷ []) (number + length front) more))
unfolding uncounted_from
first_here before front more number is past =
    ap first_of (uncounted_behind [] 1 before (front ∷ more))
    ∙ (first_append (uncounted_from [] 1 before) (uncounted_from before (1 + length (flat before)) (front ∷ more))
    ∙ (ap (λ (o : Option ℕ). option_or o (first_of (uncounted_from before (1 + length (flat before)) (front ∷ more))))
    past
    ∙ (ap (λ (m : ℕ). first_of (uncounted_from before m (front ∷ more))) (one_more ∙ sym is)
    ∙ first_append (uncounted_in before front [] number front)
    (uncounted_from (before ++ front ∷ []) (number + length front) more))))
  where
    one_more : 1 + length (flat before) ≡ length (flat before) + 1
    one_more = omega arith

or_nothing : (o : Option ℕ) → option_or o None ≡ o
or_nothing None = refl
or_nothing (Some x) = refl

-- The end

pub end_of : (names : List Bytes) (r : Recount) (h : List Line) → r.first ≡ None → Recounts names r h
    → option_or (first_unmet_by r r.waits.items) r.bad ≡ first_uncounted h
unfolding Recounts first_uncounted uncounted uncounted_from uncounted_in groups
end_of names r h none stands = from (subst (λ (o : Option ℕ). RecountsTo o names r h) none stands)
  where
    with : (before : List (List Line)) (front : List Line) → IsUnderWay names r h before front
        → option_or (first_unmet_by r r.waits.items) r.bad ≡ first_of (uncounted_from [] 1 (groups h))
    with before [] under =
        sym (group_first names r before [] under.kept)
        ∙ (sym under.kept.past ∙ ap (λ (gs : List (List Line)). first_of (uncounted_from [] 1 gs))
        (sym (sym (ap groups (append-nil h)) ∙ (under.ahead [] ∙ append-nil before))))
    with before (m ∷ ms) under =
        sym (group_first names r before (m ∷ ms) under.kept)
        ∙ (sym (first_here before (m ∷ ms) [] r.group under.kept.group under.kept.past ∙ or_nothing
        (first_of (uncounted_in before (m ∷ ms) [] r.group (m ∷ ms))))
        ∙ ap (λ (gs : List (List Line)). first_of (uncounted_from [] 1 gs))
        (sym (sym (ap groups (append-nil h))
        ∙ (under.ahead [] ∙
        (ap (λ (g : List Line). before ++ groups g) (append-nil (m ∷ ms)) ∙ ap
        (λ (gs : List (List Line)). before ++ gs) (whole r.event m ms under.run.alike under.run.alone))))))

    from : RecountsTo None names r h → option_or (first_unmet_by r r.waits.items) r.bad
        ≡ first_of (uncounted_from [] 1 (groups h))
    from it = with it.0 it.1 it.2

pub end_known : (names : List Bytes) (r : Recount) (h : List Line) (number : ℕ) → r.first ≡ Some number
    → Recounts names r h → Some number ≡ first_uncounted h
unfolding Recounts
end_known names r h number known stands = from (subst (λ (o : Option ℕ). RecountsTo o names r h) known stands)
  where
    from : RecountsTo (Some number) names r h → Some number ≡ first_uncounted h
    from it = sym (sym (ap first_uncounted (append-nil h)) ∙ it [])

-- Nothing changes after the first bad line is known

pub known_stays : (names : List Bytes) (r : Recount) (h : List Line) (l : Line) → is_some r.first ≡ true
    → Recounts names r h → Recounts names r (h ++ l ∷ [])
unfolding Recounts
known_stays names r h l known stands = from r.first known stands
  where
    from : (o : Option ℕ) → is_some o ≡ true → RecountsTo o names r h → RecountsTo o names r (h ++ l ∷ [])
    from None e it = absurd (true≢false (sym e))
    from (Some number) e it = λ rest. ap first_uncounted (append_assoc h (l ∷ []) rest) ∙ it (l ∷ rest)

pub known_ready : (names : List Bytes) (r : Recount) (h : List Line) (l : Line) → is_some r.first ≡ true
    → Ready names r h l → Recounts names r (h ++ l ∷ [])
unfolding Recounts Ready
known_ready names r h l known ready = from r.first known ready
  where
    from : (o : Option ℕ) → is_some o ≡ true → ReadyTo o names r h l → RecountsTo o names r (h ++ l ∷ [])
    from None e it = absurd (true≢false (sym e))
    from (Some number) e it = λ rest. ap first_uncounted (append_assoc h (l ∷ []) rest) ∙ it rest

-- The next line is of the same event

all_more : {A : Type 0} (P : A → Type 0) (xs : List A) (x : A) → AllByRecursion P xs → P x
    → AllByRecursion P (xs ++ x ∷ [])
all_more P [] x all here = (here, tt)
all_more P (y ∷ xs) x all here = (all.0, all_more P xs x all.1 here)

same_events : (a b : Option ℕ) → same_event a b ≡ true → b ≡ a
same_events None b e = cc
same_events (Some x) None e = cc
same_events (Some x) (Some y) e = ap Some (sym (same_number x y e))

some_event : (a b : Option ℕ) → same_event a b ≡ true → a ≡ None → ⊥
some_event None b e h = true≢false (sym e)
some_event (Some x) b e h = cc

pub goes_on : (names : List Bytes) (r : Recount) (h : List Line) (l : Line) → r.first ≡ None
    → same_event r.event (event_of l) ≡ true → Recounts names r h → Ready names r h l
unfolding Recounts Ready
goes_on names r h l none same stands = subst (λ (o : Option ℕ). ReadyTo o names r h l) (sym none)
    (from (subst (λ (o : Option ℕ). RecountsTo o names r h) none stands))
  where
    from : RecountsTo None names r h → ReadyTo None names r h l
    from it = (
      it.0,
      it.1,
      record {
        lines_are = it.2.lines_are;
        ahead = λ rest. it.2.ahead (l ∷ rest);
        run = record {
          alike = all_more (λ (x : Line). event_of x ≡ r.event) it.1 l it.2.run.alike
              (same_events r.event (event_of l) same);
          alone = λ absent. absurd (some_event r.event (event_of l) same absent);
        };
        kept = it.2.kept;
      },
    )

-- The group ends

none_from : (before : List (List Line)) (number : ℕ) → first_of (uncounted_from before number []) ≡ None
unfolding uncounted_from
none_from before number = refl

changed : (names : List Bytes) (r : Recount) (before : List (List Line)) (front : List Line)
    → IsOfGroups names r before front → (later : List (List Line)) → flat later ≡ flat before ++ front
    → ((n key : Bytes) → limit_behind [] n key later ≡ limit_behind [] n key (before ++ front ∷ []))
    → first_of (uncounted_from [] 1 later) ≡ None
    → (next : Recount) → next.nodes ≡ r.nodes → next.group ≡ length (flat later) + 1 → next.cut ≡ false
    → next.waits.items ≡ [] → next.bad ≡ None → IsOfGroups names next later []
unfolding uncounted_in
changed names r before front kept later lines limits past next nodes group cut waits bad = record {
  group = group;
  past = past;
  cut = cut;
  nodes = λ n place is.
      subst (λ (count : ℕ). IsAt count next.group n later [] (get nat_cmp next.nodes place))
      (ap (λ (x : List Line). length x) (sym lines ∙ sym (append-nil (flat later))))
      (subst (λ (m : BTreeMap ℕ Counters). IsAt (length (flat before ++ front)) next.group n later []
      (get nat_cmp m place)) (sym nodes)
      (at_turns (length (flat before ++ front)) r.group next.group n before later front (further place n is) lines
      (limits n) (get nat_cmp r.nodes place) (kept.nodes n place is)));
  waits = subst (AllByRecursion (IsWaiting names next.nodes)) (sym waits) tt;
  judged = λ rest. sym (ap (λ (ws : List Wait). option_or (first_unmet names later rest ws) next.bad) waits ∙ bad);
}
  where
    further : (place : ℕ) (n : Bytes) → place_in names n ≡ Some place → length (flat before ++ front) < next.group
    further place n is = let same = ap (λ (x : List Line). length x) lines in omega (arith, group, same)

alone : (event : Option ℕ) (l : Line) → event ≡ event_of l → IsRun event (l ∷ [])
alone event l is = record { alike = (sym is, tt); alone = λ absent. omega arith }

pub turned : (names : List Bytes) (r next : Recount) (h : List Line) (l : Line) → r.first ≡ None
    → same_event r.event (event_of l) ≡ false → Recounts names r h
    → next.nodes ≡ r.nodes → next.group ≡ length h + 1 → next.event ≡ event_of l → next.cut ≡ false → next.waits.items
    ≡ [] → next.bad ≡ None
    → next.first ≡ option_or (first_unmet_by r r.waits.items) r.bad → Ready names next h l
unfolding Recounts Ready first_uncounted uncounted uncounted_in
turned names r next h l none apart stands nodes group event cut waits bad first =
    from (subst (λ (o : Option ℕ). RecountsTo o names r h) none stands)
  where
    -- There is no line of the group yet.
    empty : (before : List (List Line)) → IsUnderWay names r h before [] → next.first ≡ None
        → ReadyTo None names next h l
    empty before under absent = (
      before,
      [],
      record {
        lines_are = under.lines_are;
        ahead = λ rest. under.ahead (l ∷ rest);
        run = alone next.event l event;
        kept = changed names r before [] under.kept before (sym (append-nil (flat before)))
            (λ n key. sym (limit_none n key before)) under.kept.past next nodes
            (group ∙ ap (λ (x : List Line). length x + 1) (under.lines_are ∙ append-nil (flat before))) cut waits bad;
      },
    )

    -- All its lines add up.
    full : (before : List (List Line)) (m : Line) (ms : List Line) → IsUnderWay names r h before (m ∷ ms)
        → first_of (uncounted_in before (m ∷ ms) [] r.group (m ∷ ms)) ≡ None → ReadyTo None names next h l
    full before m ms under sound = (
      before ++ (m ∷ ms) ∷ [],
      [],
      record {
        lines_are = under.lines_are ∙ sym (append-nil (flat (before ++ (m ∷ ms) ∷ [])) ∙ flat_more before (m ∷ ms));
        ahead = λ rest.
            under.ahead (l ∷ rest)
            ∙ (ap (λ (gs : List (List Line)). before ++ gs)
            (ended r.event m ms l rest under.run.alike under.run.alone apart)
            ∙ sym (append_assoc before ((m ∷ ms) ∷ []) (groups (l ∷ rest))));
        run = alone next.event l event;
        kept = changed names r before (m ∷ ms) under.kept (before ++ (m ∷ ms) ∷ []) (flat_more before (m ∷ ms))
            (λ n key. refl)
            (first_here before (m ∷ ms) [] r.group under.kept.group under.kept.past ∙ ap
            (λ (o : Option ℕ). option_or o
            (first_of (uncounted_from (before ++ (m ∷ ms) ∷ []) (r.group + length (m ∷ ms)) []))) sound ∙ no_more
            before (m ∷ ms))
            next nodes
            (group ∙ ap (λ (x : List Line). length x + 1) (under.lines_are ∙ sym (flat_more before (m ∷ ms)))) cut
            waits bad;
      },
    )
      where
        no_more : (before : List (List Line)) (front : List Line)
            → first_of (uncounted_from (before ++ front ∷ []) (r.group + length front) []) ≡ None
        no_more before front = none_from (before ++ front ∷ []) (r.group + length front)

    -- One of them doesn't.
    broken : (before : List (List Line)) (m : Line) (ms : List Line) → IsUnderWay names r h before (m ∷ ms)
        → (number : ℕ) → first_of (uncounted_in before (m ∷ ms) [] r.group (m ∷ ms)) ≡ Some number
        → ReadyTo (Some number) names next h l
    broken before m ms under number is = λ rest.
        ap (λ (gs : List (List Line)). first_of (uncounted_from [] 1 gs))
        (under.ahead (l ∷ rest) ∙ ap (λ (gs : List (List Line)). before ++ gs)
        (ended r.event m ms l rest under.run.alike under.run.alone apart))
        ∙ (first_here before (m ∷ ms) (groups (l ∷ rest)) r.group under.kept.group under.kept.past
        ∙ ap (λ (o : Option ℕ). option_or o
        (first_of (uncounted_from (before ++ (m ∷ ms) ∷ []) (r.group + length (m ∷ ms)) (groups (l ∷ rest))))) is)

    by : (before : List (List Line)) (m : Line) (ms : List Line) → IsUnderWay names r h before (m ∷ ms)
        → (o : Option ℕ) → first_of (uncounted_in before (m ∷ ms) [] r.group (m ∷ ms)) ≡ o → ReadyTo o names next h l
    by before m ms under None is = full before m ms under is
    by before m ms under (Some number) is = broken before m ms under number is

    with : (before : List (List Line)) (front : List Line) → IsUnderWay names r h before front
        → ReadyTo next.first names next h l
    with before [] under =
        let absent : next.first ≡ None = first ∙ sym (group_first names r before [] under.kept) in
        subst (λ (o : Option ℕ). ReadyTo o names next h l) (sym absent) (empty before under absent)
    with before (m ∷ ms) under =
        subst (λ (o : Option ℕ). ReadyTo o names next h l) (group_first names r before (m ∷ ms) under.kept ∙ sym first)
        (by before m ms under (first_of (uncounted_in before (m ∷ ms) [] r.group (m ∷ ms))) refl)

    from : RecountsTo None names r h → ReadyTo next.first names next h l
    from it = with it.0 it.1 it.2

-- One more line in the group

not_counted : (before : List (List Line)) (group front : List Line) (l : Line) → counts l ≡ false
    → is_counted before group front l ≡ true
unfolding is_counted
not_counted before group front (line.Seal e m t) h = cc
not_counted before group front (line.Reserve e m ly value) h = cc
not_counted before group front (line.Accept e m t) h = cc
not_counted before group front (line.Floor e m ly key sender value) h = cc
not_counted before group front (line.Start e m key value) h = cc
not_counted before group front (line.Active e m key) h = cc
not_counted before group front _ h = refl

speaks : (l : Line) → counts l ≡ true → (n : Bytes) × (speaker l ≡ Some n)
unfolding speaker
speaks (line.Counter m ly value) h = (m.bytes, refl)
speaks (line.GivenNet m key sequence) h = (m.bytes, refl)
speaks (line.Active e m key) h = (m.bytes, refl)
speaks (line.Start e m key value) h = (m.bytes, refl)
speaks (line.Reserve e m ly value) h = (m.bytes, refl)
speaks (line.Seal e m t) h = (m.bytes, refl)
speaks (line.Accept e m t) h = (m.bytes, refl)
speaks (line.Floor e m ly key sender value) h = (m.bytes, refl)
speaks (line.Boot e m) h = (m.bytes, refl)
speaks _ h = cc

counted_or : (b : Bool) (number : ℕ) → first_of (if b then [] else number ∷ []) ≡ (if b then None else Some number)
counted_or true number = refl
counted_or false number = refl

judged_more : (before : List (List Line)) (g number : ℕ) (front : List Line) (l : Line) (rest : List Line) → number
    ≡ g + length front
    → first_of (uncounted_in before ((front ++ l ∷ []) ++ rest) [] g (front ++ l ∷ []))
    ≡ option_or (first_of (uncounted_in before (front ++ l ∷ rest) [] g front))
    (if is_counted before (front ++ l ∷ rest) front l then None else Some number)
judged_more before g number front l rest is =
    ap (λ (group : List Line). first_of (uncounted_in before group [] g (front ++ l ∷ [])))
    (append_assoc front (l ∷ []) rest)
    ∙ (ap first_of (uncounted_more before (front ++ l ∷ rest) [] g front l)
    ∙ (first_append (uncounted_in before (front ++ l ∷ rest) [] g front)
    (if is_counted before (front ++ l ∷ rest) front l then [] else (g + length front) ∷ [])
    ∙ ap (option_or (first_of (uncounted_in before (front ++ l ∷ rest) [] g front)))
    (counted_or (is_counted before (front ++ l ∷ rest) front l) (g + length front) ∙ ap
    (λ (m : ℕ). if is_counted before (front ++ l ∷ rest) front l then None else Some m) (sym is))))

or_kept : (o : Option ℕ) (bad : ℕ) (p : Option ℕ) → option_or (option_or o (Some bad)) p ≡ option_or o (Some bad)
or_kept None bad p = refl
or_kept (Some x) bad p = refl

or_last : (o p : Option ℕ) → option_or (option_or o None) p ≡ option_or o p
or_last None p = refl
or_last (Some x) p = refl

or_end : (o p : Option ℕ) → option_or (option_or o p) None ≡ option_or o p
or_end None p = or_nothing p
or_end (Some x) p = refl

noted : (names : List Bytes) (before : List (List Line)) (group : List Line) (n : Bytes) (number place : ℕ)
    → get_or names place [] ≡ n → (j : Judgement) (bad : Option ℕ) (ws : List Wait)
    → option_or (option_or (first_unmet names before group ws) bad) (if verdict before group n j then None
    else Some number)
    ≡ option_or (first_unmet names before group (with_wait number place j bad ws)) (with_bad number j bad)
noted names before group n number place at j (Some bad) ws = or_kept (first_unmet names before group ws) bad
    (if verdict before group n j then None else Some number)
noted names before group n number place at Stands None ws = or_end (first_unmet names before group ws) None
noted names before group n number place at Falls None ws = or_last (first_unmet names before group ws) (Some number)
noted names before group n number place at (Waits what) None ws =
    or_last (first_unmet names before group ws) (if meets before group n what then None else Some number)
    ∙ (ap (λ (x : Bytes). option_or (first_unmet names before group ws) (if meets before group x what then None
    else Some number)) (sym at)
    ∙ sym (or_nothing
    (first_unmet names before group (ws ++ record { line = number; place = place; need = what } ∷ [])) ∙
    first_unmet_more names before group ws (record { line = number; place = place; need = what })))

-- The map with a node's counters added.
put_here : (place q : ℕ) (c : Counters) (o : Option Counters) (b : Bool) → b ≡ true → cond b (Some c) o ≡ Some c
put_here place q c o true e = refl
put_here place q c o false e = cc

still_there : (place q : ℕ) (c : Counters) (o : Option Counters) (b : Bool) → is_some o ≡ true
    → is_some (cond b (Some c) o) ≡ true
still_there place q c o true e = refl
still_there place q c o false e = e

waits_on : (names : List Bytes) (old new : BTreeMap ℕ Counters) (place : ℕ) (c : Counters)
    → ((q : ℕ) → get nat_cmp new q ≡ cond (nat_eq place q) (Some c) (get nat_cmp old q))
    → (ws : List Wait) → AllByRecursion (IsWaiting names old) ws → AllByRecursion (IsWaiting names new) ws
waits_on names old new place c puts [] all = tt
waits_on names old new place c puts (w ∷ ws) all = (
  record {
    name = all.0.name;
    place = all.0.place;
    there = ap (λ (o : Option Counters). is_some o) (puts w.place) ∙ still_there place w.place c
        (get nat_cmp old w.place) (nat_eq place w.place) all.0.there;
  },
  waits_on names old new place c puts ws all.1,
)

waits_more : (names : List Bytes) (nodes : BTreeMap ℕ Counters) (n : Bytes) (number place : ℕ) → place_in names n
    ≡ Some place → IsSome (get nat_cmp nodes place) → (j : Judgement) (bad : Option ℕ) (ws : List Wait)
    → AllByRecursion (IsWaiting names nodes) ws
    → AllByRecursion (IsWaiting names nodes) (with_wait number place j bad ws)
waits_more names nodes n number place at there j (Some bad) ws all = all
waits_more names nodes n number place at there Stands None ws all = all
waits_more names nodes n number place at there Falls None ws all = all
waits_more names nodes n number place at there (Waits what) None ws all =
    all_more (IsWaiting names nodes) ws (record { line = number; place = place; need = what }) all
    (record { name = n; place = at; there = there })

-- A node about which the line says nothing.
at_stays : (count g number : ℕ) (n : Bytes) (before : List (List Line)) (front : List Line) (l : Line)
    (o : Option Counters) → g ≤ count + 1 → number ≡ count + 1
    → ((c : Counters) → Hears g number n l c c) → IsAt count g n before front o
    → IsAt (count + 1) g n before (front ++ l ∷ []) o
at_stays count g number n before front l None within is_number silent at = λ c fresh. of_more count g number n before
    front l c c within is_number (at c fresh) (silent c)
at_stays count g number n before front l (Some c) within is_number silent at =
    of_more count g number n before front l c c within is_number at (silent c)

was_of : (count g : ℕ) (n : Bytes) (before : List (List Line)) (front : List Line) (o : Option Counters)
    (c : Counters) → IsOrFresh o c → IsAt count g n before front o → IsOf count g n before front c
was_of count g n before front None c found at = at c found
was_of count g n before front (Some kept) c found at = subst (IsOf count g n before front) (sym found) at

apart : (a b : Bytes) → (a ≡ b → ⊥) → bytes_eq a b ≡ false
apart a b differ = from (bytes_eq a b) refl
  where
    from : (same : Bool) → bytes_eq a b ≡ same → bytes_eq a b ≡ false
    from true e = absurd (differ (same_bytes a b e))
    from false e = e

module _ (names : List Bytes) (r next : Recount) (h : List Line) (l : Line) (before : List (List Line))
    (front : List Line) (ready : IsReadyFor names r h l before front) (number : ℕ) (is_number : number ≡ length h + 1)
    (first : next.first ≡ None) (group : next.group ≡ r.group) (event : next.event ≡ r.event)
    (cut : next.cut ≡ (r.cut || cuts l)) where
  count_is : length h ≡ length (flat before ++ front)
  count_is = ap (λ (x : List Line). length x) ready.lines_are

  number_at : number ≡ length (flat before ++ front) + 1
  number_at = is_number ∙ ap (λ (m : ℕ). m + 1) count_is

  within : r.group ≤ length (flat before ++ front) + 1
  within = let it = length-append (flat before) front in let g = ready.kept.group in omega (arith, it, g)

  number_is : number ≡ r.group + length front
  number_is = let it = length-append (flat before) front in let g = ready.kept.group in let m =
      number_at in omega (arith, it, g, m)

  count_more : length (flat before ++ front) + 1 ≡ length (flat before ++ (front ++ l ∷ []))
  count_more =
      sym (ap (λ (x : List Line). length x) (sym (append_assoc (flat before) front (l ∷ []))) ∙
      (length-append (flat before ++ front) (l ∷ [])))

  cut_more : next.cut ≡ list_any cuts (front ++ l ∷ [])
  cut_more = cut ∙ (ap (λ (b : Bool). b || cuts l) ready.kept.cut ∙ sym (any_more cuts front l))

  under_way : IsOfGroups names next before (front ++ l ∷ []) → Recounts names next (h ++ l ∷ [])
  unfolding Recounts
  under_way kept =
      subst (λ (o : Option ℕ). RecountsTo o names next (h ++ l ∷ [])) (sym first) (
        before,
        front ++ l ∷ [],
        record {
          lines_are = ap (λ (x : List Line). x ++ l ∷ []) ready.lines_are ∙ append_assoc (flat before) front (l ∷ []);
          ahead = λ rest. ap groups (append_assoc h (l ∷ []) rest) ∙
              (ready.ahead rest ∙ ap (λ (x : List Line). before ++ groups x) (sym (append_assoc front (l ∷ []) rest)));
          run = subst (λ (e : Option ℕ). IsRun e (front ++ l ∷ [])) (sym event) ready.run;
          kept = kept;
        },
      )

  pub passed : next.nodes ≡ r.nodes → next.waits ≡ r.waits → next.bad ≡ r.bad → counts l ≡ false
      → Recounts names next (h ++ l ∷ [])
  passed nodes waits bad quiet =
      under_way (record {
        group = group ∙ ready.kept.group;
        past = ready.kept.past;
        cut = cut_more;
        nodes = λ n place is.
            subst (λ (m : BTreeMap ℕ Counters). IsAt (length (flat before ++ (front ++ l ∷ []))) next.group n before
            (front ++ l ∷ []) (get nat_cmp m place)) (sym nodes)
            (subst (λ (g : ℕ). IsAt (length (flat before ++ (front ++ l ∷ []))) g n before (front ++ l ∷ [])
            (get nat_cmp r.nodes place)) (sym group)
            (subst (λ (count : ℕ). IsAt count r.group n before (front ++ l ∷ []) (get nat_cmp r.nodes place))
            count_more
            (at_stays (length (flat before ++ front)) r.group number n before front l (get nat_cmp r.nodes place)
            within number_at (λ c. passed_over r.group number n l c quiet) (ready.kept.nodes n place is))));
        waits = subst (λ (m : BTreeMap ℕ Counters). AllByRecursion (IsWaiting names m) next.waits.items) (sym nodes)
            (subst (λ (ws : Vec Wait Global). AllByRecursion (IsWaiting names r.nodes) ws.items) (sym waits)
            ready.kept.waits);
        judged = λ rest.
            ap (λ (g : ℕ). first_of (uncounted_in before ((front ++ l ∷ []) ++ rest) [] g (front ++ l ∷ []))) group
            ∙ (judged_more before r.group number front l rest number_is
            ∙ (ap (λ (b : Bool). option_or (first_of (uncounted_in before (front ++ l ∷ rest) [] r.group front))
            (if b then None else Some number)) (not_counted before (front ++ l ∷ rest) front l quiet)
            ∙ (or_nothing (first_of (uncounted_in before (front ++ l ∷ rest) [] r.group front))
            ∙ (ready.kept.judged (l ∷ rest)
            ∙ (ap (λ (x : List Line). option_or (first_unmet names before x r.waits.items) r.bad)
            (sym (append_assoc front (l ∷ []) rest))
            ∙ (ap (λ (ws : Vec Wait Global). option_or (first_unmet names before ((front ++ l ∷ []) ++ rest) ws.items)
            r.bad) (sym waits)
            ∙ ap (option_or (first_unmet names before ((front ++ l ∷ []) ++ rest) next.waits.items)) (sym bad)))))));
      })

  -- A line that says something about its node.
  module _ (who : Who) (n : Bytes) (says : speaker l ≡ Some n) (tells : Tells who names (declared_in h) n)
      (nodes : BTreeMap ℕ Counters) (j : Judgement)
      (heard : HasHeard r.group number l (out_block_by who.node) (in_block_by who.node) who.place r.nodes nodes j)
    where
      was_is : IsOf (length (flat before ++ front)) r.group n before front heard.was
      was_is = was_of (length (flat before ++ front)) r.group n before front (get nat_cmp r.nodes who.place) heard.was
          heard.found (ready.kept.nodes n who.place tells.place)

      now_is : IsOf (length (flat before ++ front) + 1) r.group n before (front ++ l ∷ []) heard.is
      now_is = of_more (length (flat before ++ front)) r.group number n before front l heard.was heard.is within
          number_at was_is (heard.heard n says)

      node_at : (m : Bytes) (place : ℕ) → place_in names m ≡ Some place → (b : Bool) → nat_eq who.place place ≡ b
          → IsAt (length (flat before ++ front) + 1) r.group m before (front ++ l ∷ [])
          (cond b (Some heard.is) (get nat_cmp r.nodes place))
      node_at m place is true e =
          subst (λ (x : Bytes). IsOf (length (flat before ++ front) + 1) r.group x before (front ++ l ∷ []) heard.is)
          (one_place names n m place (tells.place ∙ ap Some (same_number who.place place e)) is) now_is
      node_at m place is false e =
          at_stays (length (flat before ++ front)) r.group number m before front l (get nat_cmp r.nodes place) within
          number_at
          (λ c. not_named r.group number m l c n says (apart n m (λ same. true≢false (sym (here same) ∙ e))))
          (ready.kept.nodes m place is)
        where
          here : n ≡ m → nat_eq who.place place ≡ true
          here same =
              eq-eqb who.place place (unsome who.place place (sym tells.place ∙ (ap (place_in names) same ∙ is)))

      outs : out_block_by who.node ≡ out_block (flat before ++ front) n
      outs = subst (λ (x : List Line). out_block_by who.node ≡ out_block x n) ready.lines_are tells.out_block

      ins : in_block_by who.node ≡ in_block (flat before ++ front) n
      ins = subst (λ (x : List Line). in_block_by who.node ≡ in_block x n) ready.lines_are tells.in_block

      verdict_is : (group : List Line) → is_counted before group front l ≡ verdict before group n j
      verdict_is group =
          judged_as (length (flat before ++ front)) r.group n before front heard.was was_is group
          (out_block_by who.node) (in_block_by who.node) l says outs ins
          ∙ ap (verdict before group n) (sym heard.judged)

      pub told : next.nodes ≡ nodes → next.waits.items ≡ with_wait number who.place j r.bad r.waits.items → next.bad
          ≡ with_bad number j r.bad → Recounts names next (h ++ l ∷ [])
      told nodes_are waits bad =
          under_way (record {
            group = group ∙ ready.kept.group;
            past = ready.kept.past;
            cut = cut_more;
            nodes = λ m place is.
                subst (λ (x : BTreeMap ℕ Counters). IsAt (length (flat before ++ (front ++ l ∷ []))) next.group m
                before
                (front ++ l ∷ []) (get nat_cmp x place)) (sym nodes_are)
                (subst (λ (g : ℕ). IsAt (length (flat before ++ (front ++ l ∷ []))) g m before (front ++ l ∷ [])
                (get nat_cmp nodes place)) (sym group)
                (subst (λ (count : ℕ). IsAt count r.group m before (front ++ l ∷ []) (get nat_cmp nodes place))
                count_more
                (subst (λ (o : Option Counters). IsAt (length (flat before ++ front) + 1) r.group m before
                (front ++ l ∷ []) o) (sym (heard.puts place)) (node_at m place is (nat_eq who.place place) refl))));
            waits =
                subst (λ (x : BTreeMap ℕ Counters). AllByRecursion (IsWaiting names x) next.waits.items)
                (sym nodes_are)
                (subst (AllByRecursion (IsWaiting names nodes)) (sym waits)
                (waits_more names nodes n number who.place tells.place
                (ap (λ (o : Option Counters). is_some o)
                (heard.puts who.place ∙ put_here who.place who.place heard.is (get nat_cmp r.nodes who.place)
                (nat_eq who.place who.place) (itself_number who.place)))
                j r.bad r.waits.items
                (waits_on names r.nodes nodes who.place heard.is heard.puts r.waits.items ready.kept.waits)));
            judged = λ rest.
                ap (λ (g : ℕ). first_of (uncounted_in before ((front ++ l ∷ []) ++ rest) [] g (front ++ l ∷ []))) group
                ∙ (judged_more before r.group number front l rest number_is
                ∙ (ap (λ (b : Bool). option_or (first_of (uncounted_in before (front ++ l ∷ rest) [] r.group front))
                (if b then None else Some number)) (verdict_is (front ++ l ∷ rest))
                ∙ (ap (λ (o : Option ℕ). option_or o (if verdict before (front ++ l ∷ rest) n j then None
                else Some number)) (ready.kept.judged (l ∷ rest))
                ∙ (noted names before (front ++ l ∷ rest) n number who.place (name_at names n who.place tells.place) j
                r.bad r.waits.items
                ∙ (ap (λ (x : List Line). option_or
                (first_unmet names before x (with_wait number who.place j r.bad r.waits.items))
                (with_bad number j r.bad)) (sym (append_assoc front (l ∷ []) rest))
                ∙ (ap (λ (ws : List Wait). option_or (first_unmet names before ((front ++ l ∷ []) ++ rest) ws)
                (with_bad number j r.bad)) (sym waits)
                ∙ ap (option_or (first_unmet names before ((front ++ l ∷ []) ++ rest) next.waits.items))
                (sym bad)))))));
          })

-- What a line makes of a recount that is ready for it

pub read_over : (names : List Bytes) (r next : Recount) (h : List Line) (l : Line) (number : ℕ) → number
    ≡ length h + 1 → r.first ≡ None → Ready names r h l
    → next.first ≡ r.first → next.group ≡ r.group → next.event ≡ r.event → next.cut ≡ (r.cut || cuts l) → next.nodes
    ≡ r.nodes → next.waits ≡ r.waits → next.bad ≡ r.bad → counts l ≡ false → Recounts names next (h ++ l ∷ [])
unfolding Ready
read_over names r next h l number is_number none ready first group event cut nodes waits bad quiet =
    let it = subst (λ (o : Option ℕ). ReadyTo o names r h l) none ready in
    passed names r next h l it.0 it.1 it.2 number is_number (first ∙ none) group event cut nodes waits bad quiet

pub read_in : (names : List Bytes) (r next : Recount) (h : List Line) (l : Line) (number : ℕ) (who : Who)
    (nodes : BTreeMap ℕ Counters) (j : Judgement) → number ≡ length h + 1 → IsSpeaker who names (declared_in h) l
    → r.first ≡ None → Ready names r h l → next.first ≡ r.first → next.group ≡ r.group → next.event ≡ r.event
    → next.cut ≡ (r.cut || cuts l) → counts l ≡ true
    → HasHeard r.group number l (out_block_by who.node) (in_block_by who.node) who.place r.nodes nodes j
    → next.nodes ≡ nodes → next.waits.items ≡ with_wait number who.place j r.bad r.waits.items → next.bad
    ≡ with_bad number j r.bad → Recounts names next (h ++ l ∷ [])
unfolding Ready
read_in names r next h l number who nodes j is_number is_who none ready first group event cut loud heard nodes_are
    waits bad =
    let it = subst (λ (o : Option ℕ). ReadyTo o names r h l) none ready in
    let spoken = speaks l loud in
    told names r next h l it.0 it.1 it.2 number is_number (first ∙ none) group event cut who spoken.0 spoken.1
    (subst (λ (o : Option Bytes). TellsOf who names (declared_in h) o) spoken.1 is_who) nodes j heard nodes_are
    waits bad

-- What is heard about a node that is there, or new

pub heard_at : (g number : ℕ) (l : Line) (out inb : Option ℕ) (place : ℕ) (old new : BTreeMap ℕ Counters)
    (was is : Counters) (result : Result Judgement AllocError) → IsOrFresh (get nat_cmp old place) was
    → ((q : ℕ) → get nat_cmp new q ≡ cond (is_at (nat_cmp place) q) (Some is) (get nat_cmp old q))
    → IfOk result (λ (j : Judgement). j ≡ judged_at g was out inb l)
    → OnOk result ((n : Bytes) → speaker l ≡ Some n → Hears g number n l was is)
    → IfOk result (λ (j : Judgement). HasHeard g number l out inb place old new j)
heard_at g number l out inb place old new was is (Ok j) found puts judged heard =
    record {
      was = was;
      is = is;
      found = found;
      heard = heard;
      judged = judged;
      puts = λ q. puts q ∙ ap (λ (b : Bool). cond b (Some is) (get nat_cmp old q)) (number_alike place q);
    }
heard_at g number l out inb place old new was is (Err x) found puts judged heard = tt

pub found_there : (o : Option Counters) (c : Counters) → Some c ≡ o → IsOrFresh o c
found_there None c e = cc
found_there (Some kept) c e = unsome c kept e

pub found_new : (o : Option Counters) (c : Counters) → None ≡ o → AreFresh c → IsOrFresh o c
found_new None c e fresh = fresh
found_new (Some kept) c e fresh = cc

pub none_known : (o : Option ℕ) → is_some o ≡ false → o ≡ None
none_known None e = refl
none_known (Some x) e = cc

pub put_at : (place q : ℕ) (c : Counters) (o : Option Counters) → cond (is_at (nat_cmp place) q) (Some c) o
    ≡ cond (nat_eq place q) (Some c) o
put_at place q c o = ap (λ (b : Bool). cond b (Some c) o) (number_alike place q)

-- The waits, one by one

wait_more : (r : Recount) (ws : List Wait) (i : ℕ) (d : Wait) → i < length ws
    → first_unmet_by r (drop i ws)
    ≡ (if is_met_at r (get_or ws i d) (get nat_cmp r.nodes (get_or ws i d).place)
    then first_unmet_by r (drop (i + 1) ws) else Some (get_or ws i d).line)
wait_more r ws i d within = ap (first_unmet_by r) (drop_more ws i d within)

pub wait_met : (r : Recount) (ws : List Wait) (i : ℕ) (d : Wait) (found : Option ℕ) → i < length ws
    → is_met_at r (get_or ws i d) (get nat_cmp r.nodes (get_or ws i d).place) ≡ true → first_unmet_by r (drop i ws)
    ≡ found
    → first_unmet_by r (drop (i + 1) ws) ≡ found
wait_met r ws i d found within met is =
    sym (wait_more r ws i d within ∙ ap (λ (b : Bool). if b then first_unmet_by r (drop (i + 1) ws)
    else Some (get_or ws i d).line) met) ∙ is

pub wait_unmet : (r : Recount) (ws : List Wait) (i : ℕ) (d : Wait) (found : Option ℕ) → i < length ws
    → is_met_at r (get_or ws i d) (get nat_cmp r.nodes (get_or ws i d).place) ≡ false → first_unmet_by r (drop i ws)
    ≡ found
    → Some (get_or ws i d).line ≡ found
wait_unmet r ws i d found within unmet is =
    sym (wait_more r ws i d within ∙ ap (λ (b : Bool). if b then first_unmet_by r (drop (i + 1) ws)
    else Some (get_or ws i d).line) unmet) ∙ is

pub wait_end : (r : Recount) (ws : List Wait) (i : ℕ) (found : Option ℕ) → length ws ≤ i
    → first_unmet_by r (drop i ws) ≡ found → None ≡ found
wait_end r ws i found past is = sym (ap (first_unmet_by r) (drop_all i ws past)) ∙ is

pub there : (o : Option Counters) (c : Counters) → Some c ≡ o → IsSome o
there None c e = cc
there (Some kept) c e = refl
