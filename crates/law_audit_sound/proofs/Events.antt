-- The events of a run's lines: those of each event have its number, as the audit reads it and as the model does, and
-- the numbers rise. So what is before the group of a line is what comes before its event.
use Rattle.std.proofs.Common.{◌≡◌, ℕ, ◌+◌, ◌<◌, ◌≤◌, Bool, true, false, cond, not, List, [], ◌∷◌, ◌++◌, map, filter, flat_map, length, Option, Some, None, ◌⊎◌, inl, inr, nat_eq, refl, sym, ap, ◌∙◌, subst, append_assoc, eqb-true, eq-eqb, arith}
use Rattle.std.specs.List.{AllByRecursion}
use Rattle.std.proofs.lemmas.List.{append-nil}
use Rattle.std.proofs.lemmas.List.Elements.{filter-append}
use Rattle.law_audit_sound.specs.Beginnings.{Begins, RunBegins, numbered}
use Rattle.zb_audit_names.specs.Groups.{event_of as read_event, same_event}
use Rattle.law_audit_groups.specs.Printing.{printed}
use Rattle.zb_audit_lockout.specs.Before.{before_group}
use Rattle.zb_audit_lockout.specs.Standing.{last_event}
use Rattle.zb_audit_lockout.proofs.Grouping.{before_more, last_more}
use Rattle.zb_model.specs.Answer.{Answer, counting_of}
use Rattle.zb_model.specs.Claims.{Each, event_of}
use Rattle.zb_model.specs.Claims as claims
use Rattle.zb_model.specs.Data as model
use Rattle.zb_model.specs.Data.{Bytes, Layer, Nwk, Aps, Station, Term, Place, Reason, Down, NoFrame, WrongState, Task, Received, DoRoll, Edit}
use Rattle.zb_model.specs.Lines as log
use Rattle.zb_model.specs.Lines.{Line, Declared, Counter, Changed, Accept, Seal, DownReset, Boot}
use Rattle.zb_model.specs.Play.{Schedule, Node, Event, Own, RollOver, Deliver, Reset, PowerOn, ShowRecord, ArmStop, ArmFail, InjectBytes, ForgeNet, ForgeNetAps, ForgeOpen, Step, Disk, Armed, NotArmed, StopAfter, FailAt, Calls, BootCalls, stations, net_line, link_line, limit_line, start, groups, disk_of, with_disk, falls, stands, calls_for, leaves_both, commit_lines, refuse_lines, send_lines, stored_lines, told_lines, group_of, cut_of, fallen_line, answer_step, boot_step, refused_step, task_step, deliver_step, frame_at, supply, forged_net, forged_both, forged_open, step_by, step}
use Rattle.zb_model.specs.Readings.{is_up, air}
use Rattle.zb_model.specs.Rules.{centre_of}
use Rattle.zb_model.specs.Tools.{Tools}
use Rattle.zb_model.specs.Transcript.{end_line, run_lines, transcript}
use Rattle.law_run.proofs.Basics.{each-append}
use Rattle.law_run.proofs.EventStates.{answer_to}
use Rattle.law_run.proofs.FreshLines.{all-append, all-map}
use Rattle.zb_trace_model.specs.Said.{line_for}

-- ---- the number of a line's event

read_so : (known : List Station) (m : Line) → read_event (line_for known m) ≡ numbered m
unfolding read_event line_for
read_so known (Changed event n (model.Moved (model.Draw key))) = refl
read_so known _ = refl

some_same : (x e : ℕ) → Some x ≡ Some e → x ≡ e
some_same x e is = ap (λ (o : Option ℕ). number_or o) is
  where
    number_or : Option ℕ → ℕ
    number_or None = 0
    number_or (Some n) = n

number_is : (e : ℕ) (m : Line) → numbered m ≡ Some e → event_of m ≡ e
number_is e (log.End events seals accepts refusals ideal private) is = cc
number_is e (log.Declared p) is = some_same 0 e is
number_is e (log.GivenNet n key sequence) is = some_same 0 e is
number_is e (log.GivenLink n partner key) is = some_same 0 e is
number_is e (log.Counter n l limit) is = some_same 0 e is
number_is e (log.Changed event n edit) is = some_same event e is
number_is e (log.Commit event n) is = some_same event e is
number_is e (log.Accept event n t) is = some_same event e is
number_is e (log.Refuse event n place why) is = some_same event e is
number_is e (log.Seal event n t) is = some_same event e is
number_is e (log.Forge event t) is = some_same event e is
number_is e (log.Send event from frame bytes) is = some_same event e is
number_is e (log.Inject event frame bytes) is = some_same event e is
number_is e (log.Stopped event n) is = some_same event e is
number_is e (log.DownReset event n) is = some_same event e is
number_is e (log.DownDisk event n) is = some_same event e is
number_is e (log.Boot event n) is = some_same event e is
number_is e (log.Dump event n bytes) is = some_same event e is

abbrev Of : ℕ → Line → Type 0
Of e m = numbered m ≡ Some e

abbrev AllOf : ℕ → List Line → Type 0
AllOf e ms = AllByRecursion (Of e) ms

of_changes : (e n : ℕ) (es : List Edit) → AllOf e (map (Changed e n) es)
of_changes e n [] = tt
of_changes e n (x ∷ es) = (refl, of_changes e n es)

of_commit : (e n : ℕ) (es : List Edit) → AllOf e (commit_lines e n es)
of_commit e n [] = tt
of_commit e n (x ∷ es) = (refl, tt)

of_accepts : (e n : ℕ) (ts : List Term) → AllOf e (map (Accept e n) ts)
of_accepts e n [] = tt
of_accepts e n (t ∷ ts) = (refl, of_accepts e n ts)

of_seals : (e n : ℕ) (ts : List Term) → AllOf e (map (Seal e n) ts)
of_seals e n [] = tt
of_seals e n (t ∷ ts) = (refl, of_seals e n ts)

of_refuse : (e n : ℕ) (place : Place) (o : Option Reason) → AllOf e (refuse_lines e n place o)
of_refuse e n place None = tt
of_refuse e n place (Some r) = (refl, tt)

of_send : (e : ℕ) (n : Option ℕ) (frame : ℕ) (o : Option Bytes) → AllOf e (send_lines e n frame o)
of_send e n frame None = tt
of_send e n frame (Some b) = (refl, tt)

of_fallen : (armed : Armed) (e n : ℕ) → AllOf e (fallen_line armed e n)
of_fallen NotArmed e n = tt
of_fallen (StopAfter calls torn) e n = (refl, tt)
of_fallen (FailAt call) e n = (refl, tt)

of_stored : (e n : ℕ) (a : Answer) → AllOf e (stored_lines e n a)
unfolding stored_lines
of_stored e n a = all-append (Of e) (map (Changed e n) a.edits) (commit_lines e n a.edits) (of_changes e n a.edits)
    (of_commit e n a.edits)

of_group : (h : List Line) (e n : ℕ) (a : Answer) → AllOf e (group_of h e n a)
unfolding group_of told_lines
of_group h e n a =
    all-append (Of e) (stored_lines e n a) _ (of_stored e n a)
    (all-append (Of e) (map (Accept e n) a.accepts) _ (of_accepts e n a.accepts)
    (all-append (Of e) (refuse_lines e n a.place a.refusal) _ (of_refuse e n a.place a.refusal)
    (all-append (Of e) (map (Seal e n) a.seals) _ (of_seals e n a.seals)
    (of_send e (Some n) (length (air h) + 1) a.frame))))

of_cut : (armed : Armed) (calls : Calls) (e n : ℕ) (a : Answer) → AllOf e (cut_of armed calls e n a)
unfolding cut_of
of_cut armed calls e n a = all-append (Of e) (cond (stands armed calls) (stored_lines e n a) [])
    (fallen_line armed e n) (by_test (stands armed calls)) (of_fallen armed e n)
  where
    by_test : (b : Bool) → AllOf e (cond b (stored_lines e n a) [])
    by_test true = of_stored e n a
    by_test false = tt

either : (e : ℕ) (b : Bool) (x y : Step) → AllOf e x.lines → AllOf e y.lines → AllOf e (cond b x y).lines
either e true x y p q = p
either e false x y p q = q

of_refused : (ds : List Disk) (e n : ℕ) (reason : Reason) → AllOf e (refused_step ds e n reason).lines
of_refused ds e n reason = (refl, tt)

of_task : (tools : Tools) (w : Schedule) (h : List Line) (ds : List Disk) (e n : ℕ) (task : Task)
    → AllOf e (task_step tools counting_of w h ds e n task).lines
unfolding task_step
of_task tools w h ds e n task =
    let a = answer_to tools w h n task in
    let calls = calls_for h n a.edits in
    either e (is_up h n) (answer_step h ds e n a) (refused_step ds e n Down)
    (either e (falls (disk_of ds n).armed calls)
    (record {
      lines = cut_of (disk_of ds n).armed calls e n a;
      disks = with_disk ds n (record { armed = NotArmed; both_open = leaves_both (disk_of ds n).armed calls });
    })
    (record { lines = group_of h e n a; disks = ds })
    (of_cut (disk_of ds n).armed calls e n a) (of_group h e n a))
    (of_refused ds e n Down)

of_deliver : (tools : Tools) (w : Schedule) (h : List Line) (ds : List Disk) (e n : ℕ) (o : Option Bytes)
    → AllOf e (deliver_step tools counting_of w h ds e n o).lines
of_deliver tools w h ds e n None = of_refused ds e n (cond (is_up h n) NoFrame Down)
of_deliver tools w h ds e n (Some bytes) = of_task tools w h ds e n (Received bytes (supply w h))

of_event : (tools : Tools) (w : Schedule) (h : List Line) (ds : List Disk) (e : ℕ) (event : Event)
    → AllOf e (step tools w h ds e event).lines
unfolding step step_by forged_net forged_both forged_open
of_event tools w h ds e (Own n task) = of_task tools w h ds e n task
of_event tools w h ds e (RollOver n) = of_task tools w h ds e n (DoRoll (supply w h))
of_event tools w h ds e (Deliver frame n) = of_deliver tools w h ds e n (frame_at h frame)
of_event tools w h ds e (Reset n) = either e (is_up h n) (record { lines = DownReset e n ∷ []; disks = ds })
    (refused_step ds e n Down) (refl, tt) (refl, tt)
of_event tools w h ds e (PowerOn n) =
    either e (is_up h n) (refused_step ds e n WrongState) (boot_step ds e n) (refl, tt)
    (either e (falls (disk_of ds n).armed (BootCalls (disk_of ds n).both_open))
    (record {
      lines = fallen_line (disk_of ds n).armed e n;
      disks =
          with_disk ds n
          (record
          { armed = NotArmed; both_open = leaves_both (disk_of ds n).armed (BootCalls (disk_of ds n).both_open) });
    })
    (record
    { lines = Boot e n ∷ []; disks = with_disk ds n (record { armed = (disk_of ds n).armed; both_open = false }) })
    (of_fallen (disk_of ds n).armed e n) (refl, tt))
of_event tools w h ds e (ShowRecord n) = (refl, tt)
of_event tools w h ds e (ArmStop n calls torn) = tt
of_event tools w h ds e (ArmFail n call) = tt
of_event tools w h ds e (InjectBytes bytes) = (refl, tt)
of_event tools w h ds e (ForgeNet to from source key sequence counter content) = (refl, (refl, tt))
of_event tools w h ds e (ForgeNetAps to from source key sequence counter label base aps_counter command) =
    (refl, (refl, (refl, tt)))
of_event tools w h ds e (ForgeOpen to from source label base aps_counter command) = (refl, (refl, tt))

-- ---- the start has the number 0

of_declared : (ps : List Station) → AllOf 0 (map Declared ps)
of_declared [] = tt
of_declared (p ∷ ps) = (refl, of_declared ps)

of_each : (f : Node → List Line) → ((m : Node) → AllOf 0 (f m)) → (ms : List Node) → AllOf 0 (flat_map f ms)
of_each f each [] = tt
of_each f each (m ∷ ms) = all-append (Of 0) (f m) (flat_map f ms) (each m) (of_each f each ms)

of_net : (n : ℕ) (o : Option (Bytes × ℕ)) → AllOf 0 (net_line n o)
of_net n None = tt
of_net n (Some given) = (refl, tt)

of_link : (centre n : ℕ) (o : Option Bytes) → AllOf 0 (link_line centre n o)
of_link centre n None = tt
of_link centre n (Some key) = (refl, tt)

of_limit : (n : ℕ) (layer : Layer) (limit : ℕ) → AllOf 0 (limit_line n layer limit)
of_limit n layer limit = by_test (nat_eq limit 0)
  where
    by_test : (b : Bool) → AllOf 0 (cond b [] (Counter n layer limit ∷ []))
    by_test true = tt
    by_test false = (refl, tt)

of_start : (w : Schedule) → AllOf 0 (start w)
unfolding start
of_start w =
    let known = stations w in
    all-append (Of 0) (map Declared known) _ (of_declared known)
    (all-append (Of 0) (flat_map (λ (m : Node). net_line m.station.eui m.network) w.nodes) _
    (of_each (λ (m : Node). net_line m.station.eui m.network) (λ m. of_net m.station.eui m.network) w.nodes)
    (all-append (Of 0) (flat_map (λ (m : Node). link_line (centre_of known) m.station.eui m.code) w.nodes) _
    (of_each (λ (m : Node). link_line (centre_of known) m.station.eui m.code)
    (λ m. of_link (centre_of known) m.station.eui m.code) w.nodes)
    (of_each (λ (m : Node). limit_line m.station.eui Nwk m.start_nwk ++ limit_line m.station.eui Aps m.start_aps)
    (λ m. all-append (Of 0) (limit_line m.station.eui Nwk m.start_nwk) (limit_line m.station.eui Aps m.start_aps)
    (of_limit m.station.eui Nwk m.start_nwk) (of_limit m.station.eui Aps m.start_aps))
    w.nodes)))

-- ---- before the group of a line

-- the lines are of events before this one, and none is of this event
record Ahead (known : List Station) (number : ℕ) (h : List Line) : Type 0 where
  early : AllByRecursion (λ (m : Line). event_of m < number) h
  other : (e : ℕ) → number ≤ e → same_event (last_event (printed known h)) (Some e) ≡ false

-- the lines of an event so far: none, or they are the last group
abbrev IsAt : List Station → ℕ → List Line → List Line → Type 0
IsAt known number h done =
    (done ≡ [])
    ⊎ ((last_event (printed known (h ++ done)) ≡ Some number)
    × (before_group (printed known (h ++ done)) ≡ printed known h))

printed_snoc : (known : List Station) (h : List Line) (m : Line) → printed known (h ++ m ∷ []) ≡ printed known h
    ++ line_for known m ∷ []
printed_snoc known [] m = refl
printed_snoc known (x ∷ h) m = ap (λ ls. line_for known x ∷ ls) (printed_snoc known h m)

less_differs : (e number : ℕ) (b : Bool) → nat_eq e number ≡ b → e < number → b ≡ false
less_differs e number true is less = let same : e ≡ number = eqb-true e number is in absurd (omega (arith, same, less))
less_differs e number false is less = refl

-- the model's lines before the event
all_kept : (number : ℕ) (h : List Line) → AllByRecursion (λ (m : Line). event_of m < number) h
    → filter (λ (m : Line). not (nat_eq (event_of m) number)) h ≡ h
all_kept number [] all = refl
all_kept number (m ∷ h) all =
    ap (λ b. cond (not b) (m ∷ filter (λ (l : Line). not (nat_eq (event_of l) number)) h)
    (filter (λ (l : Line). not (nat_eq (event_of l) number)) h))
    (less_differs (event_of m) number (nat_eq (event_of m) number) refl all.0)
    ∙ ap (λ ls. m ∷ ls) (all_kept number h all.1)

none_kept : (number : ℕ) (g : List Line) → AllOf number g → filter (λ (m : Line). not (nat_eq (event_of m) number)) g
    ≡ []
none_kept number [] all = refl
none_kept number (m ∷ g) all =
    ap (λ b. cond (not b) (m ∷ filter (λ (l : Line). not (nat_eq (event_of l) number)) g)
    (filter (λ (l : Line). not (nat_eq (event_of l) number)) g))
    (eq-eqb (event_of m) number (number_is number m all.0))
    ∙ none_kept number g all.1

model_before : (number : ℕ) (h done : List Line) → AllByRecursion (λ (m : Line). event_of m < number) h
    → AllOf number done → claims.before_group number (h ++ done) ≡ h
unfolding claims.before_group
model_before number h done early all =
    filter-append (λ (m : Line). not (nat_eq (event_of m) number)) h done
    ∙ ap (λ ls. ls ++ filter (λ (m : Line). not (nat_eq (event_of m) number)) done) (all_kept number h early)
    ∙ ap (λ ls. h ++ ls) (none_kept number done all) ∙ append-nil h

-- the audit's
read_before : (known : List Station) (number : ℕ) (h done : List Line) (m : Line) → Ahead known number h
    → IsAt known number h done → Of number m
    → before_group (printed known ((h ++ done) ++ m ∷ [])) ≡ printed known h
read_before known number h done m ahead at is =
    ap before_group (printed_snoc known (h ++ done) m)
    ∙ before_more (printed known (h ++ done)) (line_for known m)
    ∙ ap (λ o. cond (same_event (last_event (printed known (h ++ done))) o) (before_group (printed known (h ++ done)))
    (printed known (h ++ done))) (read_so known m ∙ is)
    ∙ by_place at
  where
    by_place : IsAt known number h done → cond (same_event (last_event (printed known (h ++ done))) (Some number))
        (before_group (printed known (h ++ done))) (printed known (h ++ done)) ≡ printed known h
    by_place (inl none) =
        let here : h ++ done ≡ h = ap (λ ls. h ++ ls) none ∙ append-nil h in
        ap (λ ls. cond (same_event (last_event (printed known ls)) (Some number)) (before_group (printed known ls))
        (printed known ls)) here
        ∙ ap (λ b. cond b (before_group (printed known h)) (printed known h)) (ahead.other number (omega arith))
    by_place (inr on) =
        ap (λ o. cond (same_event o (Some number)) (before_group (printed known (h ++ done)))
        (printed known (h ++ done))) on.0
        ∙ ap (λ b. cond b (before_group (printed known (h ++ done))) (printed known (h ++ done)))
        (eq-eqb number number refl)
        ∙ on.1

last_is : (known : List Station) (number : ℕ) (g : List Line) (m : Line) → Of number m
    → last_event (printed known (g ++ m ∷ [])) ≡ Some number
last_is known number g m is = ap last_event (printed_snoc known g m) ∙ last_more (printed known g) (line_for known m)
    ∙ read_so known m ∙ is

-- ---- along the lines of an event, and of all

begins_in : (known : List Station) (number : ℕ) (h done ms : List Line) → Ahead known number h
    → IsAt known number h done → AllOf number done → AllOf number ms → Each (Begins known) (h ++ done) ms
begins_in known number h done [] ahead at before all = tt
begins_in known number h done (m ∷ ms) ahead at before all = (
  λ e is. record {
    group = done;
    whole = ap (λ x. claims.before_group x (h ++ done) ++ done) (number_is number m all.0) ∙ ap (λ ls. ls ++ done)
        (model_before number h done ahead.early before);
    same =
        read_before known number h done m ahead at all.0
        ∙ ap (printed known) (sym (model_before number h done ahead.early before))
        ∙ ap (λ x. printed known (claims.before_group x (h ++ done))) (sym (number_is number m all.0));
  },
  subst (λ ls. Each (Begins known) ls ms) (sym (append_assoc h done (m ∷ [])))
      (begins_in known number h (done ++ m ∷ []) ms ahead (inr (on (append_assoc h done (m ∷ []))))
      (all-append (Of number) done (m ∷ []) before (all.0, tt)) all.1),
)
  where
    on : (h ++ done) ++ m ∷ [] ≡ h ++ (done ++ m ∷ [])
        → (last_event (printed known (h ++ (done ++ m ∷ []))) ≡ Some number)
        × (before_group (printed known (h ++ (done ++ m ∷ []))) ≡ printed known h)
    on is = (
      ap (λ ls. last_event (printed known ls)) (sym is) ∙ last_is known number (h ++ done) m all.0,
      ap (λ ls. before_group (printed known ls)) (sym is) ∙ read_before known number h done m ahead at all.0,
    )

-- after the lines of an event
last_of : (known : List Station) (number : ℕ) (h g : List Line) → AllOf number g
    → (last_event (printed known (h ++ g)) ≡ last_event (printed known h))
    ⊎ (last_event (printed known (h ++ g)) ≡ Some number)
last_of known number h [] all = inl (ap (λ ls. last_event (printed known ls)) (append-nil h))
last_of known number h (m ∷ g) all = by_rest (append_assoc h (m ∷ []) g) (last_of known number (h ++ m ∷ []) g all.1)
  where
    by_rest : (h ++ m ∷ []) ++ g ≡ h ++ m ∷ g
        → (last_event (printed known ((h ++ m ∷ []) ++ g)) ≡ last_event (printed known (h ++ m ∷ [])))
        ⊎ (last_event (printed known ((h ++ m ∷ []) ++ g)) ≡ Some number)
        → (last_event (printed known (h ++ m ∷ g)) ≡ last_event (printed known h))
        ⊎ (last_event (printed known (h ++ m ∷ g)) ≡ Some number)
    by_rest is (inl same) =
        inr (ap (λ ls. last_event (printed known ls)) (sym is) ∙ same ∙ last_is known number h m all.0)
    by_rest is (inr same) = inr (ap (λ ls. last_event (printed known ls)) (sym is) ∙ same)

ahead_more : (known : List Station) (number : ℕ) (h g : List Line) → Ahead known number h → AllOf number g
    → Ahead known (number + 1) (h ++ g)
ahead_more known number h g ahead all = record {
  early =
      all-append (λ (m : Line). event_of m < number + 1) h g
      (all-map (λ (m : Line). event_of m < number) (λ (m : Line). event_of m < number + 1)
      (λ m less. omega (arith, less)) h ahead.early)
      (all-map (Of number) (λ (m : Line). event_of m < number + 1)
      (λ m is. let same : event_of m ≡ number = number_is number m is in omega (arith, same)) g all);
  other = λ e more. by_last e more (last_of known number h g all);
}
  where
    by_last : (e : ℕ) → number + 1 ≤ e → (last_event (printed known (h ++ g)) ≡ last_event (printed known h))
        ⊎ (last_event (printed known (h ++ g)) ≡ Some number) → same_event (last_event (printed known (h ++ g)))
        (Some e) ≡ false
    by_last e more (inl same) = ap (λ o. same_event o (Some e)) same ∙ ahead.other e (omega (arith, more))
    by_last e more (inr same) = ap (λ o. same_event o (Some e)) same ∙ less_differs number e (nat_eq number e) refl
        (omega (arith, more))

begins_from : (tools : Tools) (w : Schedule) (known : List Station) (h : List Line) (ds : List Disk) (number : ℕ)
    (events : List Event) → Ahead known number h → Each (Begins known) h (groups tools w h ds number events)
unfolding groups
begins_from tools w known h ds number [] ahead = tt
begins_from tools w known h ds number (event ∷ events) ahead =
    let g = step tools w h ds number event in
    let all = of_event tools w h ds number event in
    each-append (Begins known) h g.lines (groups tools w (h ++ g.lines) g.disks (number + 1) events)
    (subst (λ ls. Each (Begins known) ls g.lines) (append-nil h)
    (begins_in known number h [] g.lines ahead (inl refl) tt all))
    (begins_from tools w known (h ++ g.lines) g.disks (number + 1) events
    (ahead_more known number h g.lines ahead all))

ahead_of_all : (known : List Station) → Ahead known 0 []
ahead_of_all known = record { early = tt; other = λ e more. refl }

-- Of each line of a run that is of an event: the lines before its group are the run before that event.
pub begins : (tools : Tools) (w : Schedule) → RunBegins tools w
unfolding transcript run_lines end_line
begins tools w =
    let known = stations w in
    let rest = groups tools w (start w) [] 1 w.events in
    let last = end_line tools (length w.events) (run_lines tools w) in
    each-append (Begins known) [] (start w ++ rest) (last ∷ [])
    (each-append (Begins known) [] (start w) rest
    (begins_in known 0 [] [] (start w) (ahead_of_all known) (inl refl) tt (of_start w))
    (begins_from tools w known (start w) [] 1 w.events
    (ahead_more known 0 [] (start w) (ahead_of_all known) (of_start w))))
    ((λ e is. cc), tt)
