-- After the groups of a run, what lines say of its nodes is what their states say.
use Rattle.std.proofs.Common.{◌≡◌, ℕ, ◌+◌, Bool, true, false, cond, List, [], ◌∷◌, ◌++◌, map, find, Option, Some, None, is_some, nat_eq, refl, sym, ap, ◌∙◌, subst, unwrap_or}
use Rattle.std.specs.List.{AllByRecursion}
use Rattle.std.specs.Option.{option_or}
use Rattle.std.proofs.lemmas.Bool.{false≢true}
use Rattle.zb_model.specs.Data.{Bytes, Layer, Nwk, Aps, Station}
use Rattle.zb_model.specs.Lines.{Line}
use Rattle.zb_model.specs.State.{NetKey, NodeState, next_of, limit_of, active_row, net_of_active, next_counter, stored_limit}
use Rattle.zb_model.specs.Tools.{Tools}
use Rattle.zb_model.specs.Answer.{row_is_started}
use Rattle.zb_model.specs.Readings.{state_of}
use Rattle.zb_model.specs.Schedules.{IsSchedule, Names, NamesNode}
use Rattle.zb_model.specs.Play.{Schedule, Node, Event, Disk, stations, start, step, groups, setting_of}
use Rattle.zb_model.specs.Rules.{station_of}
use Rattle.law_run.specs.Events.{BeforeEach}
use Rattle.law_run.specs.Opening.{Opens}
use Rattle.law_run.proofs.Basics.{append-nil'}
use Rattle.law_run.proofs.FreshLines.{Inv, inv-lines}
use Rattle.law_run.proofs.Runs.{step-fits, start-inv}
use Rattle.law_run_counters.proofs.Events.{Grounded, event-counted, step-is, event-grounded, start-grounded}
use Rattle.law_run_counters.proofs.Started.{ActiveStarted, started}
use Rattle.law_tables_suffice.specs.Along.{OfNode, IsAsDeclared, IsRuled, euis_differ}
use Rattle.law_tables_suffice.proofs.Ready.{declared_along, ruled_along}
use Rattle.law_run_steps.specs.Steps.{is_of}
use Rattle.law_answer_storable.specs.Storing.{OpensAsJudged}
use Rattle.law_run_counters.specs.Counted.{IsCounted}
use Rattle.law_run_readings.specs.LastLines.{active, flat, limit, limit_from, limit_of_key, next, sealed_of_key, sealed_since, last_said, given_in, active_in, counter_in, reserve_in, floor_in, declared}
use Rattle.law_run_readings.specs.Agreeing.{Agrees, AgreeFrom}
use Rattle.law_run_readings.proofs.Rows.{row_at}
use Rattle.law_run_readings.proofs.SaidRows.{RowIs}
use Rattle.law_run_readings.proofs.Steps.{Said, Recalls}
use Rattle.law_run_readings.proofs.Lines.{alike_recalls, said_of, was_active, RecallsAt, flat_snoc}
use Rattle.law_run_readings.proofs.Events.{AnswersFit, IsReady, active_said, answers_fit, event_changes, step_recalls}
use Rattle.law_run_readings.proofs.Joining.{Joins, joins_group, joins_said, start_joins}
use Rattle.law_run_readings.proofs.ToldGroups.{ToldAt, told_begins, told_devices, told_group, told_links, told_start}
use Rattle.law_run_readings.proofs.OwnLines.{keys_said, links_said, lives_said, nets_said, role_said, rolling_said, rows_said}
use Rattle.law_run_readings.proofs.Starting.{has_eui, start_even, start_recalls}
use Rattle.law_run_readings.proofs.Evens.{Even, EvenRow, EvenAps, IfRow}
use Rattle.law_run_readings.proofs.Kept.{start_kept}
use Rattle.law_run_readings.proofs.Along.{Evens, EvensAt, floors_said, own_evens, other_evens, of_node, to_node}

-- ---- what is carried along a run

pub record Stands (tools : Tools) (w : Schedule) (before : List (List Line)) : Type 0 where
  pub said : (n : ℕ) → Names w n → RecallsAt before [] n
  pub evens : (n : ℕ) → Names w n → EvensAt (flat before) n
  pub grounded : Grounded (flat before)
  pub inv : Inv tools (flat before)
  pub joins : (n : ℕ) → Names w n → Joins (flat before) n
  pub tells : (n : ℕ) → Names w n → ToldAt (flat before) n []

-- the node of an event is ready
ready_node : (w : Schedule) (h : List Line) (event : Event) → OfNode (λ n. IsRuled (state_of h n) (setting_of w n) n)
    event → OfNode (λ n. IsAsDeclared (state_of h n) (setting_of w n) n) event → OfNode (IsReady w h) event
ready_node w h event ruled declared = by_event event ruled declared
  where
    by_event : (event : Event) → OfNode (λ n. IsRuled (state_of h n) (setting_of w n) n) event
        → OfNode (λ n. IsAsDeclared (state_of h n) (setting_of w n) n) event → OfNode (IsReady w h) event
    by_event (Rattle.zb_model.specs.Play.Event.Own n task) r d = record { ruled = r; declared = d }
    by_event (Rattle.zb_model.specs.Play.Event.RollOver n) r d = record { ruled = r; declared = d }
    by_event (Rattle.zb_model.specs.Play.Event.Deliver frame n) r d = record { ruled = r; declared = d }
    by_event (Rattle.zb_model.specs.Play.Event.Reset n) r d = record { ruled = r; declared = d }
    by_event (Rattle.zb_model.specs.Play.Event.PowerOn n) r d = record { ruled = r; declared = d }
    by_event (Rattle.zb_model.specs.Play.Event.ShowRecord n) r d = record { ruled = r; declared = d }
    by_event (Rattle.zb_model.specs.Play.Event.ArmStop n calls torn) r d = record { ruled = r; declared = d }
    by_event (Rattle.zb_model.specs.Play.Event.ArmFail n call) r d = record { ruled = r; declared = d }
    by_event (Rattle.zb_model.specs.Play.Event.InjectBytes bytes) r d = tt
    by_event (Rattle.zb_model.specs.Play.Event.ForgeNet to from source key sequence counter content) r d = tt
    by_event
        (Rattle.zb_model.specs.Play.Event.ForgeNetAps to from source key sequence counter label base aps_counter
        command) r d = tt
    by_event (Rattle.zb_model.specs.Play.Event.ForgeOpen to from source label base aps_counter command) r d = tt

ready_fits : (tools : Tools) → Opens tools → OpensAsJudged tools → (w : Schedule) (before : List (List Line))
    → Stands tools w before → (event : Event) → NamesNode w event → OfNode (IsReady w (flat before)) event
    → OfNode (AnswersFit tools w before) event
ready_fits tools opens judged w before s event named ready = by_event event named ready
  where
    one : (n : ℕ) → Names w n → IsReady w (flat before) n → AnswersFit tools w before n
    one n its r = answers_fit tools opens judged w before n r (s.grounded.active n) (s.said n its)

    by_event : (event : Event) → NamesNode w event → OfNode (IsReady w (flat before)) event
        → OfNode (AnswersFit tools w before) event
    by_event (Rattle.zb_model.specs.Play.Event.Own n task) its r = one n its r
    by_event (Rattle.zb_model.specs.Play.Event.RollOver n) its r = one n its r
    by_event (Rattle.zb_model.specs.Play.Event.Deliver frame n) its r = one n its r
    by_event (Rattle.zb_model.specs.Play.Event.Reset n) its r = one n its r
    by_event (Rattle.zb_model.specs.Play.Event.PowerOn n) its r = one n its r
    by_event (Rattle.zb_model.specs.Play.Event.ShowRecord n) its r = one n its r
    by_event (Rattle.zb_model.specs.Play.Event.ArmStop n calls torn) its r = one n its r
    by_event (Rattle.zb_model.specs.Play.Event.ArmFail n call) its r = one n its r
    by_event (Rattle.zb_model.specs.Play.Event.InjectBytes bytes) its r = tt
    by_event (Rattle.zb_model.specs.Play.Event.ForgeNet to from source key sequence counter content) its r = tt
    by_event
        (Rattle.zb_model.specs.Play.Event.ForgeNetAps to from source key sequence counter label base aps_counter
        command) its r = tt
    by_event (Rattle.zb_model.specs.Play.Event.ForgeOpen to from source label base aps_counter command) its r = tt

pub stands_more : (tools : Tools) → Opens tools → OpensAsJudged tools → (w : Schedule) → IsSchedule w
    → (before : List (List Line)) (disks : List Disk) (number : ℕ) (event : Event) → NamesNode w event
    → OfNode (IsReady w (flat before)) event
    → Stands tools w before → Stands tools w (before ++ (step tools w (flat before) disks number event).lines ∷ [])
stands_more tools opens judged w i before disks number event named ready s =
    let h = flat before in
    let ls = (step tools w h disks number event).lines in
    let all = before ++ ls ∷ [] in
    let same : h ++ ls ≡ flat all = sym (flat_snoc before ls) in
    let fits = ready_fits tools opens judged w before s event named ready in
    let counted : IsCounted w h (step tools w h [] number event).lines =
    subst (λ g. IsCounted w h g.lines) (step-is tools w h [] number event)
    (event-counted tools opens w h number event s.grounded.bridged) in
    let own = own_evens tools w before disks number event counted
    (to_node (λ n. RecallsAt before [] n) w s.said event named) fits (to_node (EvensAt h) w s.evens event named) in
    record {
      said = λ n its. step_recalls tools w i before disks number event named s.inv fits n (s.said n its);
      evens = λ n its. subst (λ x. EvensAt x n) same (by_node n its (is_of n event) refl own);
      grounded = subst Grounded same (event-grounded tools w h disks number event s.grounded);
      inv = subst (Inv tools) same
          (inv-lines tools h ls (step-fits tools w i h disks number event named s.inv.commanded) s.inv);
      joins = λ n its. subst (λ x. Joins x n) same
          (joins_group before [] ls n (event_changes tools w before n disks number event fits)
          (subst (λ x. Joins x n) (sym (append-nil' h)) (s.joins n its)));
      tells = λ n its. subst (λ x. ToldAt x n []) same
          (told_group before [] ls n (event_changes tools w before n disks number event fits)
          (told_begins (h ++ []) ls n (subst (λ x. ToldAt x n []) (sym (append-nil' h)) (s.tells n its))));
    }
  where
    by_node : (n : ℕ) → Names w n → (b : Bool) → is_of n event ≡ b
        → OfNode (EvensAt (flat before ++ (step tools w (flat before) disks number event).lines)) event
        → EvensAt (flat before ++ (step tools w (flat before) disks number event).lines) n
    by_node n its true is own =
        of_node (EvensAt (flat before ++ (step tools w (flat before) disks number event).lines)) event n is own
    by_node n its false is own = other_evens tools w (flat before) disks number event n is (s.evens n its)

-- ---- the start

found_as : {C : Type 0} (n : ℕ) (ms : List Node)
    → is_some (find (λ (p : Station). nat_eq p.eui n) (map (λ (m : Node). m.station) ms)) ≡ true
    → ((m : Node) → find (has_eui n) ms ≡ Some m → has_eui n m ≡ true → C) → C
found_as n [] named k = absurd (false≢true named)
found_as {C} n (m ∷ ms) named k = by_test (has_eui n m) refl named k (λ more j. found_as n ms more j)
  where
    by_test : (b : Bool) → has_eui n m ≡ b
        → is_some
        (cond b (Some m.station) (find (λ (p : Station). nat_eq p.eui n) (map (λ (x : Node). x.station) ms))) ≡ true
        → ((x : Node) → cond b (Some m) (find (has_eui n) ms) ≡ Some x → has_eui n x ≡ true → C)
        → (is_some (find (λ (p : Station). nat_eq p.eui n) (map (λ (x : Node). x.station) ms)) ≡ true
        → ((x : Node) → find (has_eui n) ms ≡ Some x → has_eui n x ≡ true → C) → C) → C
    by_test true is named k more = k m refl is
    by_test false is named k more = more named k

pub start_stands : (tools : Tools) (w : Schedule) → euis_differ w ≡ true → Stands tools w (start w ∷ [])
unfolding station_of
start_stands tools w differ =
    let same : start w ≡ flat (start w ∷ []) = sym (append-nil' (start w)) in
    record {
      said = λ n named. found_as n w.nodes named (λ m found is. start_recalls w differ n m found is);
      evens = λ n named. found_as n w.nodes named (λ m found is. let e = start_even w differ n m found is in
          subst (λ x. EvensAt x n) same (λ on. record {
            nwk = λ key none. e.0 key;
            aps = λ none. e.1;
            memory = λ layer key sender. start_kept w n layer key sender;
          }));
      grounded = subst Grounded same (start-grounded w);
      inv = subst (Inv tools) same (start-inv tools w);
      joins = λ n named. subst (λ x. Joins x n) same (start_joins w n);
      tells = λ n named. subst (λ x. ToldAt x n []) same (told_start w n);
    }

-- ---- what is said is what the state says

-- what is said after whole groups
abbrev said_at : List (List Line) → ℕ → Said
said_at before n = record {
  lim = λ key. limit_from n key [] before;
  sealed = λ key. sealed_since n Nwk key (flat before);
  aps = sealed_since n Aps [] (flat before);
  given = last_said n given_in (flat before);
  active = last_said n active_in (flat before);
  counter = λ layer. last_said n (counter_in layer) (flat before);
  reserve = last_said n (reserve_in Aps) (flat before);
  floor = λ layer key sender. last_said n (floor_in layer key sender) (flat before);
}

none_said : {A : Type 0} (n : ℕ) (f : Line → Option A) → last_said n f [] ≡ None
unfolding last_said
none_said n f = refl

plainly : (before : List (List Line)) (n : ℕ) → RecallsAt before [] n
    → Recalls (said_at before n) (state_of (flat before) n)
plainly before n is =
    let same = append-nil' (flat before) in
    subst (Recalls (said_at before n)) (ap (λ x. state_of x n) same)
    (alike_recalls (said_of before [] n) (said_at before n) (state_of (flat before ++ []) n) (record {
      lim = λ key. ap (λ o. option_or o (limit_from n key [] before))
          (none_said n (Rattle.law_run_readings.specs.LastLines.limit_in key (was_active before n key)));
      sealed = λ key. ap (sealed_since n Nwk key) same;
      aps = ap (sealed_since n Aps []) same;
      given = ap (last_said n given_in) same;
      active = ap (last_said n active_in) same;
      counter = λ layer. ap (last_said n (counter_in layer)) same;
      reserve = ap (last_said n (reserve_in Aps)) same;
      floor = λ layer key sender. ap (last_said n (floor_in layer key sender)) same;
    }) is)

-- the row of the active key, which has started
row_says : (s : NodeState) (key : Bytes) (lim sealed : Option ℕ) (d : ℕ) → RowIs lim sealed d (row_at key s.nets)
    → started key s.nets ≡ true → (sealed ≡ None → Even key s)
    → (is_on : Bool) → (limit_of s.declared (row_at key s.nets) ≡ unwrap_or lim d)
    × (next_of s.declared (row_at key s.nets) ≡ unwrap_or sealed (unwrap_or lim d))
row_says s key lim sealed d is on even is_on = by_row (row_at key s.nets) refl is on
  where
    by_row : (o : Option NetKey) → row_at key s.nets ≡ o → RowIs lim sealed d o → row_is_started o ≡ true
        → (limit_of s.declared o ≡ unwrap_or lim d) × (next_of s.declared o ≡ unwrap_or sealed (unwrap_or lim d))
    by_row None e is on = absurd (false≢true on)
    by_row (Some r) e is on = (is.limit on, by_sealed sealed refl)
      where
        by_sealed : (q : Option ℕ) → sealed ≡ q → r.next ≡ unwrap_or q (unwrap_or lim d)
        by_sealed None f = subst (IfRow EvenRow) e (even f) ∙ is.limit on
        by_sealed (Some v) f = is.next v f

limit_says : (s : NodeState) (key : Bytes) (lim sealed : Option ℕ) (d : ℕ) → RowIs lim sealed d (row_at key s.nets)
    → started key s.nets ≡ true → limit_of s.declared (row_at key s.nets) ≡ unwrap_or lim d
limit_says s key lim sealed d is on = by_row (row_at key s.nets) is on
  where
    by_row : (o : Option NetKey) → RowIs lim sealed d o → row_is_started o ≡ true → limit_of s.declared o
        ≡ unwrap_or lim d
    by_row None is on = absurd (false≢true on)
    by_row (Some r) is on = is.limit on

nwk_limit : (before : List (List Line)) (n : ℕ) → Recalls (said_at before n) (state_of (flat before) n)
    → ActiveStarted (state_of (flat before) n) → active (flat before) n ≡ (state_of (flat before) n).active
    → limit before n Nwk ≡ stored_limit Nwk (state_of (flat before) n)
unfolding limit stored_limit active_row declared
nwk_limit before n is on same = ap (limit_of_key before n) same ∙ by_active s.active refl
  where
    s : NodeState
    s = state_of (flat before) n

    by_active : (o : Option Bytes) → s.active ≡ o → limit_of_key before n o ≡ limit_of s.declared (net_of_active o s)
    by_active None e = sym is.declared
    by_active (Some key) e =
        ap (unwrap_or (limit_from n key [] before)) (sym is.declared) ∙ sym
        (limit_says s key (limit_from n key [] before) (sealed_since n Nwk key (flat before)) s.declared
        (is.rows key) (on key e))

nwk_next : (before : List (List Line)) (n : ℕ) → Recalls (said_at before n) (state_of (flat before) n)
    → ActiveStarted (state_of (flat before) n) → active (flat before) n ≡ (state_of (flat before) n).active
    → Evens (flat before) n
    → limit before n Nwk ≡ stored_limit Nwk (state_of (flat before) n) → next before n Nwk
    ≡ next_counter Nwk (state_of (flat before) n)
unfolding next next_counter stored_limit active_row
nwk_next before n is on same evens limits = ap (λ o. unwrap_or (sealed_of_key before n o) (limit before n Nwk)) same ∙
    ap (unwrap_or (sealed_of_key before n s.active)) limits ∙ by_active s.active refl
  where
    s : NodeState
    s = state_of (flat before) n

    by_active : (o : Option Bytes) → s.active ≡ o
        → unwrap_or (sealed_of_key before n o) (limit_of s.declared (net_of_active o s))
        ≡ next_of s.declared (net_of_active o s)
    by_active None e = refl
    by_active (Some key) e =
        let both = row_says s key (limit_from n key [] before) (sealed_since n Nwk key (flat before)) s.declared
        (is.rows key) (on key e) (evens.nwk key) true in
        ap (unwrap_or (sealed_since n Nwk key (flat before))) both.0 ∙ sym both.1

aps_next : (sealed : Option ℕ) (s : NodeState) → ((v : ℕ) → sealed ≡ Some v → s.aps_next ≡ v)
    → (sealed ≡ None → EvenAps s) → unwrap_or sealed s.aps_limit ≡ s.aps_next
aps_next sealed s some none = by_sealed sealed refl
  where
    by_sealed : (o : Option ℕ) → sealed ≡ o → unwrap_or o s.aps_limit ≡ s.aps_next
    by_sealed None e = sym (none e)
    by_sealed (Some v) e = sym (some v e)

aps_limit_is : (before : List (List Line)) (n : ℕ) → Recalls (said_at before n) (state_of (flat before) n)
    → limit before n Aps ≡ (state_of (flat before) n).aps_limit
unfolding limit declared
aps_limit_is before n is = sym is.aps_limit

aps_next_is : (before : List (List Line)) (n : ℕ) → Recalls (said_at before n) (state_of (flat before) n)
    → Evens (flat before) n → next before n Aps ≡ (state_of (flat before) n).aps_next
unfolding next
aps_next_is before n is evens = ap (unwrap_or (sealed_since n Aps [] (flat before))) (aps_limit_is before n is) ∙
    aps_next (sealed_since n Aps [] (flat before)) (state_of (flat before) n) is.aps_next evens.aps

limits_are : (before : List (List Line)) (n : ℕ) → Recalls (said_at before n) (state_of (flat before) n)
    → ActiveStarted (state_of (flat before) n) → active (flat before) n ≡ (state_of (flat before) n).active
    → (layer : Layer) → limit before n layer ≡ stored_limit layer (state_of (flat before) n)
unfolding stored_limit
limits_are before n is on same Nwk = nwk_limit before n is on same
limits_are before n is on same Aps = aps_limit_is before n is

nexts_are : (before : List (List Line)) (n : ℕ) → Recalls (said_at before n) (state_of (flat before) n)
    → ActiveStarted (state_of (flat before) n) → active (flat before) n ≡ (state_of (flat before) n).active
    → Evens (flat before) n
    → (layer : Layer) → next before n layer ≡ next_counter layer (state_of (flat before) n)
unfolding next_counter
nexts_are before n is on same evens Nwk = nwk_next before n is on same evens (nwk_limit before n is on same)
nexts_are before n is on same evens Aps = aps_next_is before n is evens

pub stands_agree : (tools : Tools) (w : Schedule) (before : List (List Line)) → Stands tools w before → (n : ℕ)
    → Names w n → Agrees before n
stands_agree tools w before s n named =
    let is = plainly before n (s.said n named) in
    let same = active_said before n (s.said n named) in
    let on = s.grounded.active n in
    record {
      active_is = same;
      limits = limits_are before n is on same;
      nexts = λ up. nexts_are before n is on same (s.evens n named up);
      floors = floors_said before n (s.said n named);
      memory = λ up layer key sender. sym ((s.evens n named up).memory layer key sender);
      networks = sym (keys_said (flat before) n);
      network = λ key. sym (nets_said (flat before) n key);
      rows = sym (rows_said (flat before) n);
      row = λ partner key. sym (links_said (flat before) n partner key);
      lives = lives_said (flat before) n;
      told = λ device. told_devices (flat before) n device (s.tells n named);
      told_rows = λ partner key. told_links (flat before) n partner key (s.tells n named);
      role_is = role_said (flat before) n;
      state_is = joins_said (flat before) n (s.joins n named);
      rolling = sym (rolling_said (flat before) n);
    }

-- ---- along the run

agree_from : (tools : Tools) → Opens tools → OpensAsJudged tools → (w : Schedule) → IsSchedule w
    → (before : List (List Line)) (disks : List Disk) (number : ℕ) (events : List Event)
    → AllByRecursion (NamesNode w) events
    → BeforeEach (λ h event. OfNode (λ n. IsRuled (state_of h n) (setting_of w n) n) event) tools w (flat before)
    disks number events
    → BeforeEach (λ h event. OfNode (λ n. IsAsDeclared (state_of h n) (setting_of w n) n) event) tools w (flat before)
    disks number events
    → Stands tools w before → AgreeFrom tools w before disks number events
agree_from tools opens judged w i before disks number [] named ruled declared s =
    λ n its. stands_agree tools w before s n its
agree_from tools opens judged w i before disks number (event ∷ events) named ruled declared s =
    let g = step tools w (flat before) disks number event in
    let same : flat before ++ g.lines ≡ flat (before ++ g.lines ∷ []) = sym (flat_snoc before g.lines) in (
      λ n its. stands_agree tools w before s n its,
      agree_from tools opens judged w i (before ++ g.lines ∷ []) g.disks (number + 1) events named.1
          (subst (λ h. BeforeEach (λ h event. OfNode (λ n. IsRuled (state_of h n) (setting_of w n) n) event) tools w h
          g.disks (number + 1) events) same ruled.1)
          (subst (λ h. BeforeEach (λ h event. OfNode (λ n. IsAsDeclared (state_of h n) (setting_of w n) n) event)
          tools w h g.disks (number + 1) events) same declared.1)
          (stands_more tools opens judged w i before disks number event named.0
          (ready_node w (flat before) event ruled.0 declared.0) s),
    )

pub run_agrees : (tools : Tools) → Opens tools → OpensAsJudged tools → (w : Schedule) → IsSchedule w → euis_differ w
    ≡ true → Rattle.law_run_readings.specs.Agreeing.RunAgrees tools w
run_agrees tools opens judged w i differ =
    let same : start w ≡ flat (start w ∷ []) = sym (append-nil' (start w)) in
    agree_from tools opens judged w i (start w ∷ []) [] 1 w.events i.events
    (subst (λ h. BeforeEach (λ h event. OfNode (λ n. IsRuled (state_of h n) (setting_of w n) n) event) tools w h [] 1
    w.events) same (ruled_along tools judged w i differ))
    (subst (λ h. BeforeEach (λ h event. OfNode (λ n. IsAsDeclared (state_of h n) (setting_of w n) n) event) tools w h
    [] 1 w.events) same (declared_along tools w i differ))
    (start_stands tools w differ)
