-- What the lines of a run say of its nodes is what their states say, before each event and at the end.
use Rattle.std.proofs.Common.{◌≡◌, ℕ, unwrap_or, ◌+◌, Bool, true, false, cond, List, [], ◌∷◌, ◌++◌, map, length, Option, Some, None, nat_eq, refl, sym, ap, ◌∙◌, subst, append_assoc, eqb-true}
use Rattle.std.specs.List.{AllByRecursion}
use Rattle.std.proofs.lemmas.Bool.{false≢true}
use Rattle.std.proofs.lemmas.List.Sums.{fold-append}
use Rattle.zb_model.specs.Data.{Bytes, Layer, Nwk, Aps, Station, Term, Place, Reason, Edit, Down, NoFrame, WrongState, AtEvent, Task, Received, DoRoll}
use Rattle.zb_model.specs.Lines.{Line, Declared, GivenNet, GivenLink, Counter, Changed, Commit, Accept, Refuse, Seal, Forge, Send, Inject, Stopped, DownReset, DownDisk, Boot, Dump, End}
use Rattle.zb_model.specs.State.{NetKey, NodeState, is_active_key, next_of, limit_of, active_row, net_of_active, next_counter, stored_limit}
use Rattle.zb_model.specs.Tools.{Tools}
use Rattle.zb_model.specs.Answer.{Answer}
use Rattle.zb_model.specs.Readings.{speaker, state_of, is_up, power_line, air}
use Rattle.zb_model.specs.Record.{record_of}
use Rattle.zb_model.specs.Schedules.{Names, NamesNode}
use Rattle.zb_model.specs.Play.{Schedule, Event, Own, RollOver, Deliver, Reset, PowerOn, ShowRecord, ArmStop, ArmFail, InjectBytes, ForgeNet, ForgeNetAps, ForgeOpen, Step, Disk, Armed, NotArmed, StopAfter, FailAt, Calls, BootCalls, setting_of, disk_of, with_disk, falls, stands, calls_for, leaves_both, commit_lines, refuse_lines, send_lines, stored_lines, told_lines, group_of, cut_of, fallen_line, answer_step, boot_step, refused_step, task_step, deliver_step, frame_at, supply, forged_net, forged_both, forged_open, step_by, step}
use Rattle.zb_model.specs.Answer.{counting_of}
use Rattle.law_run.proofs.Basics.{append-nil', state-snoc, nat_eq-refl}
use Rattle.law_run.proofs.EventStates.{answer_to}
use Rattle.law_run.proofs.FreshLines.{all-append}
use Rattle.law_run_counters.specs.Counted.{IsCounted}
use Rattle.law_tables_suffice.specs.Along.{OfNode}
use Rattle.law_run_steps.proofs.Spared.{spared}
use Rattle.law_run_steps.specs.Conditions.{Condition}
use Rattle.law_run_steps.specs.Steps.{is_of}
use Rattle.law_run_readings.specs.Agreeing.{floor_at, memory_at}
use Rattle.law_run_readings.specs.LastLines.{active, flat, floor_in, kept, limit, limit_from, limit_of_key, next, sealed_of_key, sealed_since, sealed_in, stored, last_said, given_in, active_in, declared}
use Rattle.law_run_readings.proofs.Kept.{Mute, boot_kept, group_kept, mute_kept}
use Rattle.law_run_readings.proofs.Lines.{RecallsAt, FitsChanges, said_of, sealed_snoc}
use Rattle.law_run_readings.proofs.Memory.{NoBoot}
use Rattle.law_run_readings.proofs.Steps.{Recalls, Said}
use Rattle.law_run_readings.proofs.Events.{AnswersFit, active_said, group_changes}
use Rattle.law_run_readings.proofs.Evens.{AllOwn, Even, EvenAps, SealsOf, boot_even, boot_aps, evens_more, aps_more, none_sealed, nwk_unreserved, aps_unreserved}

-- ---- power

power_snoc : (h : List Line) (l : Line) (n : ℕ) → is_up (h ++ l ∷ []) n ≡ power_line n (is_up h n) l
unfolding is_up
power_snoc h l n = fold-append (power_line n) true h (l ∷ [])

refused_up : (h : List Line) (number n m : ℕ) (place : Place) (reason : Reason)
    → is_up (h ++ Refuse number n place reason ∷ []) m ≡ is_up h m
unfolding speaker
refused_up h number n m place reason = power_snoc h (Refuse number n place reason) m ∙ by_test (nat_eq n m)
  where
    by_test : (b : Bool) → cond b (is_up h m) (is_up h m) ≡ is_up h m
    by_test true = refl
    by_test false = refl

fallen_down : (h : List Line) (armed : Armed) (calls : Calls) (number n : ℕ) → falls armed calls ≡ true
    → is_up (h ++ fallen_line armed number n) n ≡ false
unfolding speaker
fallen_down h NotArmed calls number n e = absurd (false≢true e)
fallen_down h (StopAfter k torn) calls number n e =
    power_snoc h (Stopped number n) n ∙ ap (λ b. cond b false (is_up h n)) (nat_eq-refl n)
fallen_down h (FailAt k) calls number n e = power_snoc h (DownDisk number n) n ∙ ap (λ b. cond b false (is_up h n))
    (nat_eq-refl n)

cut_down : (h : List Line) (armed : Armed) (calls : Calls) (number n : ℕ) (a : Answer) → falls armed calls ≡ true
    → is_up (h ++ cut_of armed calls number n a) n ≡ false
unfolding cut_of
cut_down h armed calls number n a e =
    let some = cond (stands armed calls) (stored_lines number n a) [] in
    ap (λ x. is_up x n) (sym (append_assoc h some (fallen_line armed number n))) ∙ fallen_down (h ++ some) armed calls
    number n e

-- ---- what is true of a node with power

-- If no counter was used since its last boot, the next one is the limit; and the floors in memory are as the lines
-- say.
pub record Evens (h : List Line) (n : ℕ) : Type 0 where
  pub nwk : (key : Bytes) → sealed_since n Nwk key h ≡ None → Even key (state_of h n)
  pub aps : sealed_since n Aps [] h ≡ None → EvenAps (state_of h n)
  pub memory : (layer : Layer) (key : Bytes) (sender : ℕ) → memory_at layer key sender (state_of h n)
      ≡ kept h n layer key sender

abbrev pub EvensAt : List Line → ℕ → Type 0
EvensAt h n = is_up h n ≡ true → Evens h n

-- lines that change nothing of it
same_evens : (h k : List Line) (n : ℕ) → state_of k n ≡ state_of h n
    → ((layer : Layer) (key : Bytes) → sealed_since n layer key k ≡ sealed_since n layer key h)
    → ((layer : Layer) (key : Bytes) (sender : ℕ) → kept k n layer key sender ≡ kept h n layer key sender)
    → is_up k n ≡ is_up h n → EvensAt h n → EvensAt k n
same_evens h k n state sealed floors up e on =
    let was = e (sym up ∙ on) in
    record {
      nwk = λ key none. subst (Even key) (sym state) (was.nwk key (sym (sealed Nwk key) ∙ none));
      aps = λ none. subst EvenAps (sym state) (was.aps (sym (sealed Aps []) ∙ none));
      memory = λ layer key sender. ap (memory_at layer key sender) state ∙ was.memory layer key sender ∙ sym
          (floors layer key sender);
    }

refused_evens : (h : List Line) (number n m : ℕ) (place : Place) (reason : Reason) → EvensAt h m
    → EvensAt (h ++ Refuse number n place reason ∷ []) m
unfolding Rattle.zb_model.specs.Readings.heard_line speaker Rattle.zb_model.specs.Readings.after
refused_evens h number n m place reason e =
    same_evens h (h ++ Refuse number n place reason ∷ []) m
    (state-snoc h (Refuse number n place reason) m ∙ by_state (nat_eq n m))
    (λ layer key. sealed_snoc m layer key h (Refuse number n place reason) ∙ by_sealed (nat_eq n m)
    (sealed_since m layer key h))
    (λ layer key sender. mute_kept layer key sender m h (Refuse number n place reason ∷ [])
    (λ own. (λ o. refl, refl), tt)) (refused_up h number n m place reason) e
  where
    by_state : (b : Bool) → cond b (state_of h m) (state_of h m) ≡ state_of h m
    by_state true = refl
    by_state false = refl

    by_sealed : (b : Bool) (o : Option ℕ) → cond b o o ≡ o
    by_sealed true o = refl
    by_sealed false o = refl

dump_evens : (h : List Line) (number n m : ℕ) (bytes : Bytes) → EvensAt h m → EvensAt (h ++ Dump number n bytes ∷ []) m
unfolding Rattle.zb_model.specs.Readings.heard_line speaker Rattle.zb_model.specs.Readings.after
dump_evens h number n m bytes e =
    same_evens h (h ++ Dump number n bytes ∷ []) m (state-snoc h (Dump number n bytes) m ∙ by_state (nat_eq n m))
    (λ layer key. sealed_snoc m layer key h (Dump number n bytes) ∙ by_sealed (nat_eq n m)
    (sealed_since m layer key h))
    (λ layer key sender. mute_kept layer key sender m h (Dump number n bytes ∷ [])
    (λ own. (λ o. refl, refl), tt)) (power_snoc h (Dump number n bytes) m ∙ by_up (nat_eq n m)) e
  where
    by_state : (b : Bool) → cond b (state_of h m) (state_of h m) ≡ state_of h m
    by_state true = refl
    by_state false = refl

    by_sealed : (b : Bool) (o : Option ℕ) → cond b o o ≡ o
    by_sealed true o = refl
    by_sealed false o = refl

    by_up : (b : Bool) → cond b (is_up h m) (is_up h m) ≡ is_up h m
    by_up true = refl
    by_up false = refl

nothing_evens : (h : List Line) (m : ℕ) → EvensAt h m → EvensAt (h ++ []) m
nothing_evens h m e = subst (λ x. EvensAt x m) (sym (append-nil' h)) e

-- what lines say of the stored floors
abbrev FloorsSaid : List Line → ℕ → Type 0
FloorsSaid h n = (layer : Layer) (key : Bytes) (sender : ℕ) → stored h n layer key sender
    ≡ floor_at layer key sender (state_of h n)

floors_by : (h : List Line) (n : ℕ) (x : Said) → Recalls x (state_of h n)
    → ((layer : Layer) (key : Bytes) (sender : ℕ) → x.floor layer key sender
    ≡ last_said n (floor_in layer key sender) h)
    → FloorsSaid h n
unfolding stored
floors_by h n x is same Nwk key sender = ap (λ o. unwrap_or o 0) (sym (same Nwk key sender)) ∙ sym
    (is.net_floors key sender)
floors_by h n x is same Aps key sender = ap (λ o. unwrap_or o 0) (sym (same Aps key sender)) ∙ sym
    (is.link_floors key sender)

pub floors_said : (before : List (List Line)) (n : ℕ) → RecallsAt before [] n → FloorsSaid (flat before) n
floors_said before n is =
    subst (λ x. FloorsSaid x n) (append-nil' (flat before))
    (floors_by (flat before ++ []) n (said_of before [] n) is (λ layer key sender. refl))

boot_evens : (h : List Line) (number n : ℕ) → FloorsSaid h n → EvensAt (h ++ Boot number n ∷ []) n
unfolding Rattle.zb_model.specs.Readings.heard_line speaker Rattle.zb_model.specs.Readings.after
boot_evens h number n floors on =
    let state_is =
    state-snoc h (Boot number n) n ∙ ap
    (λ b. cond b (Rattle.zb_model.specs.State.after_boot (state_of h n)) (state_of h n)) (nat_eq-refl n) in
    record {
      nwk = λ key none. subst (Even key) (sym state_is) (boot_even key (state_of h n));
      aps = λ none. subst EvenAps (sym state_is) (boot_aps (state_of h n));
      memory = λ layer key sender. boot_kept layer key sender h number n (floors layer key sender);
    }

down_evens : (h : List Line) (n : ℕ) → is_up h n ≡ false → EvensAt h n
down_evens h n off on = absurd (false≢true (sym off ∙ on))

-- ---- a whole group of the node

unboot_commit : (number n : ℕ) (es : List Edit) → AllByRecursion NoBoot (commit_lines number n es)
unboot_commit number n [] = tt
unboot_commit number n (e ∷ es) = (tt, tt)

unboot_changes : (number n : ℕ) (es : List Edit) → AllByRecursion NoBoot (map (Changed number n) es)
unboot_changes number n [] = tt
unboot_changes number n (e ∷ es) = (tt, unboot_changes number n es)

unboot_accepts : (number n : ℕ) (ts : List Term) → AllByRecursion NoBoot (map (Accept number n) ts)
unboot_accepts number n [] = tt
unboot_accepts number n (t ∷ ts) = (tt, unboot_accepts number n ts)

unboot_seals : (number n : ℕ) (ts : List Term) → AllByRecursion NoBoot (map (Seal number n) ts)
unboot_seals number n [] = tt
unboot_seals number n (t ∷ ts) = (tt, unboot_seals number n ts)

unboot_refuse : (number n : ℕ) (place : Place) (o : Option Reason)
    → AllByRecursion NoBoot (refuse_lines number n place o)
unboot_refuse number n place None = tt
unboot_refuse number n place (Some r) = (tt, tt)

unboot_send : (number : ℕ) (n : Option ℕ) (frame : ℕ) (o : Option Bytes)
    → AllByRecursion NoBoot (send_lines number n frame o)
unboot_send number n frame None = tt
unboot_send number n frame (Some b) = (tt, tt)

unboot_group : (h0 : List Line) (number n : ℕ) (a : Answer) → AllByRecursion NoBoot (group_of h0 number n a)
unfolding group_of stored_lines told_lines
unboot_group h0 number n a =
    all-append NoBoot (map (Changed number n) a.edits ++ commit_lines number n a.edits) _
    (all-append NoBoot (map (Changed number n) a.edits) (commit_lines number n a.edits)
    (unboot_changes number n a.edits) (unboot_commit number n a.edits))
    (all-append NoBoot (map (Accept number n) a.accepts) _ (unboot_accepts number n a.accepts)
    (all-append NoBoot (refuse_lines number n a.place a.refusal) _ (unboot_refuse number n a.place a.refusal)
    (all-append NoBoot (map (Seal number n) a.seals) _ (unboot_seals number n a.seals)
    (unboot_send number (Some n) (length (air h0) + 1) a.frame))))

of_commit : (number n : ℕ) (es : List Edit) → AllByRecursion (SealsOf n) (commit_lines number n es)
of_commit number n [] = tt
of_commit number n (e ∷ es) = (tt, tt)

of_changes : (number n : ℕ) (es : List Edit) → AllByRecursion (SealsOf n) (map (Changed number n) es)
of_changes number n [] = tt
of_changes number n (e ∷ es) = (tt, of_changes number n es)

of_accepts : (number n : ℕ) (ts : List Term) → AllByRecursion (SealsOf n) (map (Accept number n) ts)
of_accepts number n [] = tt
of_accepts number n (t ∷ ts) = (tt, of_accepts number n ts)

of_seals : (number n : ℕ) (ts : List Term) → AllByRecursion (SealsOf n) (map (Seal number n) ts)
of_seals number n [] = tt
of_seals number n (t ∷ ts) = (refl, of_seals number n ts)

of_refuse : (number n : ℕ) (place : Place) (o : Option Reason)
    → AllByRecursion (SealsOf n) (refuse_lines number n place o)
of_refuse number n place None = tt
of_refuse number n place (Some r) = (tt, tt)

of_send : (number n : ℕ) (m : Option ℕ) (frame : ℕ) (o : Option Bytes)
    → AllByRecursion (SealsOf n) (send_lines number m frame o)
of_send number n m frame None = tt
of_send number n m frame (Some b) = (tt, tt)

of_group : (h0 : List Line) (number n : ℕ) (a : Answer) → AllByRecursion (SealsOf n) (group_of h0 number n a)
unfolding group_of stored_lines told_lines
of_group h0 number n a =
    all-append (SealsOf n) (map (Changed number n) a.edits ++ commit_lines number n a.edits) _
    (all-append (SealsOf n) (map (Changed number n) a.edits) (commit_lines number n a.edits)
    (of_changes number n a.edits) (of_commit number n a.edits))
    (all-append (SealsOf n) (map (Accept number n) a.accepts) _ (of_accepts number n a.accepts)
    (all-append (SealsOf n) (refuse_lines number n a.place a.refusal) _ (of_refuse number n a.place a.refusal)
    (all-append (SealsOf n) (map (Seal number n) a.seals) _ (of_seals number n a.seals)
    (of_send number n (Some n) (length (air h0) + 1) a.frame))))

some_key : (o : Option Bytes) (key : Bytes) → is_active_key o key ≡ true → o ≡ Some key
some_key None key e = absurd (false≢true e)
some_key (Some a) key e = ap Some (Rattle.law_run.proofs.Basics.same_key-eq a key e)

group_evens : (w : Schedule) (before : List (List Line)) (n : ℕ) (g : List Line) → RecallsAt before [] n
    → FitsChanges before n [] g → IsCounted w (flat before) g → AllByRecursion NoBoot g → AllByRecursion (SealsOf n) g
    → ((layer : Layer) (key : Bytes) (sender : ℕ) → memory_at layer key sender (state_of (flat before ++ g) n)
    ≡ kept (flat before ++ g) n layer key sender)
    → Evens (flat before) n → Evens (flat before ++ g) n
group_evens w before n g said fits counted free own floors was = record {
  nwk = λ key none.
      let p = none_sealed n Nwk key (flat before) g free none in
      evens_more before n key [] g fits
      (λ active. nwk_unreserved w (flat before) n key g counted
      (sym (active_said before n said) ∙ some_key (Rattle.law_run_readings.specs.LastLines.active (flat before) n)
      key active) own p.1)
      p.1 (subst (λ x. Even key (state_of x n)) (sym (append-nil' (flat before))) (was.nwk key p.0));
  aps = λ none.
      let p = none_sealed n Aps [] (flat before) g free none in
      aps_more before n [] g fits (aps_unreserved w (flat before) n g counted own p.1) p.1
      (subst (λ x. EvenAps (state_of x n)) (sym (append-nil' (flat before))) (was.aps p.0));
  memory = floors;
}

-- ---- the event's own node

either_evens : (h : List Line) (n : ℕ) (b : Bool) (x y : Step) → (b ≡ true → EvensAt (h ++ x.lines) n)
    → (b ≡ false → EvensAt (h ++ y.lines) n) → EvensAt (h ++ (cond b x y).lines) n
either_evens h n true x y p q = p refl
either_evens h n false x y p q = q refl

counted_group : (tools : Tools) (w : Schedule) (h : List Line) (number n : ℕ) (task : Task) → is_up h n ≡ true
    → IsCounted w h (task_step tools counting_of w h [] number n task).lines
    → IsCounted w h (group_of h number n (answer_to tools w h n task))
unfolding task_step disk_of
counted_group tools w h number n task up counted =
    subst (λ b. IsCounted w h
    (cond b (record { lines = group_of h number n (answer_to tools w h n task); disks = [] })
    (refused_step [] number n Down)).lines) up counted

stepped : (tools : Tools) (w : Schedule) (h : List Line) (ds : List Disk) (number n : ℕ) (task : Task)
    → (is_up h n ≡ true → EvensAt (h ++ (answer_step h ds number n (answer_to tools w h n task)).lines) n)
    → (is_up h n ≡ false → EvensAt (h ++ (refused_step ds number n Down).lines) n)
    → EvensAt (h ++ (task_step tools counting_of w h ds number n task).lines) n
unfolding task_step
stepped tools w h ds number n task p q =
    either_evens h n (is_up h n) (answer_step h ds number n (answer_to tools w h n task))
    (refused_step ds number n Down) p q

task_evens : (tools : Tools) (w : Schedule) (before : List (List Line)) (ds : List Disk) (number n : ℕ) (task : Task)
    → RecallsAt before [] n → AnswersFit tools w before n
    → IsCounted w (flat before) (task_step tools counting_of w (flat before) [] number n task).lines
    → EvensAt (flat before) n
    → EvensAt (flat before ++ (task_step tools counting_of w (flat before) ds number n task).lines) n
task_evens tools w before ds number n task said fits counted e =
    by_power (counted_group tools w (flat before) number n task)
  where
    h : List Line
    h = flat before

    a : Answer
    a = answer_to tools w h n task

    calls : Calls
    calls = calls_for h n a.edits

    whole : IsCounted w h (group_of h number n a) → is_up h n ≡ true → Evens (h ++ group_of h number n a) n
    whole c up =
        group_evens w before n (group_of h number n a) said
        (group_changes before h number n n a (fits task).edits ((fits task).tells number)) c
        (unboot_group h number n a) (of_group h number n a)
        (λ layer key sender. group_kept layer key sender (setting_of w n).me.in_block h h number n a (fits task).floors
        (unboot_group h number n a) ((fits task).takes number) ((e up).memory layer key sender)) (e up)

    answered : IsCounted w h (group_of h number n a) → is_up h n ≡ true
        → EvensAt (h ++ (answer_step h ds number n a).lines) n
    answered c up =
        either_evens h n (falls (disk_of ds n).armed calls)
        (record {
          lines = cut_of (disk_of ds n).armed calls number n a;
          disks = with_disk ds n (record { armed = NotArmed; both_open = leaves_both (disk_of ds n).armed calls });
        })
        (record { lines = group_of h number n a; disks = ds })
        (λ fell. down_evens (h ++ cut_of (disk_of ds n).armed calls number n a) n
        (cut_down h (disk_of ds n).armed calls number n a fell))
        (λ missed on. whole c up)

    by_power : (is_up h n ≡ true → IsCounted w h (task_step tools counting_of w h [] number n task).lines
        → IsCounted w h (group_of h number n a))
        → EvensAt (h ++ (task_step tools counting_of w h ds number n task).lines) n
    by_power k = stepped tools w h ds number n task (λ up. answered (k up counted) up)
        (λ down. refused_evens h number n n AtEvent Down e)

deliver_evens : (tools : Tools) (w : Schedule) (before : List (List Line)) (ds : List Disk) (number n : ℕ)
    (o : Option Bytes) → RecallsAt before [] n → AnswersFit tools w before n
    → IsCounted w (flat before) (deliver_step tools counting_of w (flat before) [] number n o).lines
    → EvensAt (flat before) n
    → EvensAt (flat before ++ (deliver_step tools counting_of w (flat before) ds number n o).lines) n
deliver_evens tools w before ds number n None said fits counted e = refused_evens (flat before) number n n AtEvent
    (cond (is_up (flat before) n) NoFrame Down) e
deliver_evens tools w before ds number n (Some bytes) said fits counted e =
    task_evens tools w before ds number n (Received bytes (supply w (flat before))) said fits counted e

reset_evens : (h : List Line) (ds : List Disk) (number n : ℕ) → EvensAt h n
    → EvensAt
    (h ++ (cond (is_up h n) (record { lines = DownReset number n ∷ []; disks = ds })
    (refused_step ds number n Down)).lines) n
unfolding speaker
reset_evens h ds number n e =
    either_evens h n (is_up h n) (record { lines = DownReset number n ∷ []; disks = ds })
    (refused_step ds number n Down)
    (λ up. down_evens (h ++ DownReset number n ∷ []) n
    (power_snoc h (DownReset number n) n ∙ ap (λ b. cond b false (is_up h n)) (nat_eq-refl n)))
    (λ down. refused_evens h number n n AtEvent Down e)

power_evens : (h : List Line) (ds : List Disk) (number n : ℕ) → FloorsSaid h n → EvensAt h n
    → EvensAt (h ++ (cond (is_up h n) (refused_step ds number n WrongState) (boot_step ds number n)).lines) n
power_evens h ds number n floors e =
    either_evens h n (is_up h n) (refused_step ds number n WrongState) (boot_step ds number n)
    (λ up. refused_evens h number n n AtEvent WrongState e)
    (λ down. either_evens h n (falls (disk_of ds n).armed (BootCalls (disk_of ds n).both_open))
    (record {
      lines = fallen_line (disk_of ds n).armed number n;
      disks =
          with_disk ds n
          (record
          { armed = NotArmed; both_open = leaves_both (disk_of ds n).armed (BootCalls (disk_of ds n).both_open) });
    })
    (record {
      lines = Boot number n
          ∷ [];
      disks = with_disk ds n (record { armed = (disk_of ds n).armed; both_open = false });
    })
    (λ fell. down_evens (h ++ fallen_line (disk_of ds n).armed number n) n
    (fallen_down h (disk_of ds n).armed (BootCalls (disk_of ds n).both_open) number n fell))
    (λ missed. boot_evens h number n floors))

abbrev CountedStep : Tools → Schedule → List Line → ℕ → Event → Type 0
CountedStep tools w h number event = IsCounted w h (step tools w h [] number event).lines

pub own_evens : (tools : Tools) (w : Schedule) (before : List (List Line)) (ds : List Disk) (number : ℕ)
    (event : Event) → CountedStep tools w (flat before) number event → OfNode (λ n. RecallsAt before [] n) event
    → OfNode (AnswersFit tools w before) event
    → OfNode (EvensAt (flat before)) event
    → OfNode (EvensAt (flat before ++ (step tools w (flat before) ds number event).lines)) event
unfolding step step_by
own_evens tools w before ds number (Own n task) counted said fits e = task_evens tools w before ds number n task said
    fits counted e
own_evens tools w before ds number (RollOver n) counted said fits e =
    task_evens tools w before ds number n (DoRoll (supply w (flat before))) said fits counted e
own_evens tools w before ds number (Deliver frame n) counted said fits e = deliver_evens tools w before ds number n
    (frame_at (flat before) frame) said fits counted e
own_evens tools w before ds number (Reset n) counted said fits e = reset_evens (flat before) ds number n e
own_evens tools w before ds number (PowerOn n) counted said fits e = power_evens (flat before) ds number n
    (floors_said before n said) e
own_evens tools w before ds number (ShowRecord n) counted said fits e =
    dump_evens (flat before) number n n (record_of (state_of (flat before) n)) e
own_evens tools w before ds number (ArmStop n calls torn) counted said fits e = nothing_evens (flat before) n e
own_evens tools w before ds number (ArmFail n call) counted said fits e = nothing_evens (flat before) n e
own_evens tools w before ds number (InjectBytes bytes) counted said fits e = tt
own_evens tools w before ds number (ForgeNet to from source key sequence counter content) counted said fits e = tt
own_evens tools w before ds number (ForgeNetAps to from source key sequence counter label base aps_counter command)
    counted said fits e = tt
own_evens tools w before ds number (ForgeOpen to from source label base aps_counter command) counted said fits e = tt

-- ---- other nodes

-- a line other than a seal, boot, change or accepted counter of the node
abbrev Deaf : ℕ → Line → Type 0
Deaf m (Changed e n edit) = nat_eq n m ≡ false
Deaf m (Accept e n t) = nat_eq n m ≡ false
Deaf m (Seal e n t) = nat_eq n m ≡ false
Deaf m (Boot e n) = nat_eq n m ≡ false
Deaf m _ = Unit {0}

both_same : (b : Bool) (o : Option ℕ) → cond b o o ≡ o
both_same true o = refl
both_same false o = refl

deaf_line : (m : ℕ) (layer : Layer) (key : Bytes) (o : Option ℕ) (l : Line) → Deaf m l
    → cond (nat_eq (speaker l) m) (sealed_in layer key o l) o ≡ o
unfolding speaker
deaf_line m layer key o (Seal e n t) d = ap (λ b. cond b (sealed_in layer key o (Seal e n t)) o) d
deaf_line m layer key o (Boot e n) d = ap (λ b. cond b (sealed_in layer key o (Boot e n)) o) d
deaf_line m layer key o (Declared p) d = both_same (nat_eq p.eui m) o
deaf_line m layer key o (GivenNet n k q) d = both_same (nat_eq n m) o
deaf_line m layer key o (GivenLink n p k) d = both_same (nat_eq n m) o
deaf_line m layer key o (Counter n l v) d = both_same (nat_eq n m) o
deaf_line m layer key o (Changed n k edit) d = both_same (nat_eq k m) o
deaf_line m layer key o (Commit n k) d = both_same (nat_eq k m) o
deaf_line m layer key o (Accept n k t) d = both_same (nat_eq k m) o
deaf_line m layer key o (Refuse n k place reason) d = both_same (nat_eq k m) o
deaf_line m layer key o (Stopped n k) d = both_same (nat_eq k m) o
deaf_line m layer key o (DownReset n k) d = both_same (nat_eq k m) o
deaf_line m layer key o (DownDisk n k) d = both_same (nat_eq k m) o
deaf_line m layer key o (Dump n k bytes) d = both_same (nat_eq k m) o
deaf_line m layer key o (Forge n t) d = both_same (nat_eq Rattle.zb_model.specs.Data.nobody m) o
deaf_line m layer key o (Send n k frame bytes) d = both_same (nat_eq Rattle.zb_model.specs.Data.nobody m) o
deaf_line m layer key o (Inject n frame bytes) d = both_same (nat_eq Rattle.zb_model.specs.Data.nobody m) o
deaf_line m layer key o (End events seals accepts refusals ideal private) d =
    both_same (nat_eq Rattle.zb_model.specs.Data.nobody m) o

deaf_lines : (m : ℕ) (layer : Layer) (key : Bytes) (h ls : List Line) → AllByRecursion (Deaf m) ls
    → sealed_since m layer key (h ++ ls) ≡ sealed_since m layer key h
deaf_lines m layer key h [] d = ap (sealed_since m layer key) (append-nil' h)
deaf_lines m layer key h (l ∷ ls) d =
    ap (sealed_since m layer key) (sym (append_assoc h (l ∷ []) ls)) ∙ deaf_lines m layer key (h ++ l ∷ []) ls d.1
    ∙ sealed_snoc m layer key h l ∙ deaf_line m layer key (sealed_since m layer key h) l d.0

deaf_own : (layer : Layer) (key : Bytes) (sender m : ℕ) (l : Line) → Deaf m l → nat_eq (speaker l) m ≡ true
    → Mute layer key sender l
unfolding speaker
deaf_own layer key sender m (Changed e n edit) d own = absurd (false≢true (sym d ∙ own))
deaf_own layer key sender m (Accept e n t) d own = absurd (false≢true (sym d ∙ own))
deaf_own layer key sender m (Boot e n) d own = absurd (false≢true (sym d ∙ own))
deaf_own layer key sender m _ d own = (λ o. refl, refl)

deaf_mute : (layer : Layer) (key : Bytes) (sender m : ℕ) (ls : List Line) → AllByRecursion (Deaf m) ls
    → AllOwn (Mute layer key sender) m ls
deaf_mute layer key sender m [] d = tt
deaf_mute layer key sender m (l ∷ ls) d = (deaf_own layer key sender m l d.0, deaf_mute layer key sender m ls d.1)

deaf_commit : (m number n : ℕ) (es : List Edit) → AllByRecursion (Deaf m) (commit_lines number n es)
deaf_commit m number n [] = tt
deaf_commit m number n (e ∷ es) = (tt, tt)

deaf_changes : (m number n : ℕ) (es : List Edit) → nat_eq n m ≡ false
    → AllByRecursion (Deaf m) (map (Changed number n) es)
deaf_changes m number n [] other = tt
deaf_changes m number n (e ∷ es) other = (other, deaf_changes m number n es other)

deaf_accepts : (m number n : ℕ) (ts : List Term) → nat_eq n m ≡ false
    → AllByRecursion (Deaf m) (map (Accept number n) ts)
deaf_accepts m number n [] other = tt
deaf_accepts m number n (t ∷ ts) other = (other, deaf_accepts m number n ts other)

deaf_seals : (m number n : ℕ) (ts : List Term) → nat_eq n m ≡ false → AllByRecursion (Deaf m) (map (Seal number n) ts)
deaf_seals m number n [] other = tt
deaf_seals m number n (t ∷ ts) other = (other, deaf_seals m number n ts other)

deaf_refuse : (m number n : ℕ) (place : Place) (o : Option Reason)
    → AllByRecursion (Deaf m) (refuse_lines number n place o)
deaf_refuse m number n place None = tt
deaf_refuse m number n place (Some r) = (tt, tt)

deaf_send : (m number : ℕ) (n : Option ℕ) (frame : ℕ) (o : Option Bytes)
    → AllByRecursion (Deaf m) (send_lines number n frame o)
deaf_send m number n frame None = tt
deaf_send m number n frame (Some b) = (tt, tt)

deaf_fallen : (m : ℕ) (armed : Armed) (number n : ℕ) → AllByRecursion (Deaf m) (fallen_line armed number n)
deaf_fallen m NotArmed number n = tt
deaf_fallen m (StopAfter calls torn) number n = (tt, tt)
deaf_fallen m (FailAt call) number n = (tt, tt)

deaf_stored : (m number n : ℕ) (a : Answer) → nat_eq n m ≡ false
    → AllByRecursion (Deaf m) (stored_lines number n a)
unfolding stored_lines
deaf_stored m number n a other = all-append (Deaf m) (map (Changed number n) a.edits) (commit_lines number n a.edits)
    (deaf_changes m number n a.edits other) (deaf_commit m number n a.edits)

deaf_group : (m : ℕ) (h0 : List Line) (number n : ℕ) (a : Answer) → nat_eq n m ≡ false
    → AllByRecursion (Deaf m) (group_of h0 number n a)
unfolding group_of told_lines
deaf_group m h0 number n a other =
    all-append (Deaf m) (stored_lines number n a) _ (deaf_stored m number n a other)
    (all-append (Deaf m) (map (Accept number n) a.accepts) _ (deaf_accepts m number n a.accepts other)
    (all-append (Deaf m) (refuse_lines number n a.place a.refusal) _ (deaf_refuse m number n a.place a.refusal)
    (all-append (Deaf m) (map (Seal number n) a.seals) _ (deaf_seals m number n a.seals other)
    (deaf_send m number (Some n) (length (air h0) + 1) a.frame))))

deaf_cut : (m : ℕ) (armed : Armed) (calls : Calls) (number n : ℕ) (a : Answer) → nat_eq n m ≡ false
    → AllByRecursion (Deaf m) (cut_of armed calls number n a)
unfolding cut_of
deaf_cut m armed calls number n a other = all-append (Deaf m) (cond (stands armed calls) (stored_lines number n a) [])
    (fallen_line armed number n) (by_test (stands armed calls)) (deaf_fallen m armed number n)
  where
    by_test : (b : Bool) → AllByRecursion (Deaf m) (cond b (stored_lines number n a) [])
    by_test true = deaf_stored m number n a other
    by_test false = tt

either_deaf : (m : ℕ) (b : Bool) (x y : Step) → AllByRecursion (Deaf m) x.lines → AllByRecursion (Deaf m) y.lines
    → AllByRecursion (Deaf m) (cond b x y).lines
either_deaf m true x y p q = p
either_deaf m false x y p q = q

deaf_task : (tools : Tools) (w : Schedule) (m : ℕ) (h : List Line) (ds : List Disk) (number n : ℕ) (task : Task)
    → nat_eq n m ≡ false → AllByRecursion (Deaf m) (task_step tools counting_of w h ds number n task).lines
unfolding task_step
deaf_task tools w m h ds number n task other =
    let a = answer_to tools w h n task in
    let calls = calls_for h n a.edits in
    either_deaf m (is_up h n) (answer_step h ds number n a) (refused_step ds number n Down)
    (either_deaf m (falls (disk_of ds n).armed calls)
    (record {
      lines = cut_of (disk_of ds n).armed calls number n a;
      disks = with_disk ds n (record { armed = NotArmed; both_open = leaves_both (disk_of ds n).armed calls });
    })
    (record { lines = group_of h number n a; disks = ds })
    (deaf_cut m (disk_of ds n).armed calls number n a other) (deaf_group m h number n a other))
    (tt, tt)

deaf_deliver : (tools : Tools) (w : Schedule) (m : ℕ) (h : List Line) (ds : List Disk) (number n : ℕ)
    (o : Option Bytes) → nat_eq n m ≡ false
    → AllByRecursion (Deaf m) (deliver_step tools counting_of w h ds number n o).lines
deaf_deliver tools w m h ds number n None other = (tt, tt)
deaf_deliver tools w m h ds number n (Some bytes) other =
    deaf_task tools w m h ds number n (Received bytes (supply w h)) other

deaf_event : (tools : Tools) (w : Schedule) (m : ℕ) (h : List Line) (ds : List Disk) (number : ℕ) (event : Event)
    → is_of m event ≡ false → AllByRecursion (Deaf m) (step tools w h ds number event).lines
unfolding step step_by forged_net forged_both forged_open
deaf_event tools w m h ds number (Own n task) other = deaf_task tools w m h ds number n task other
deaf_event tools w m h ds number (RollOver n) other = deaf_task tools w m h ds number n (DoRoll (supply w h)) other
deaf_event tools w m h ds number (Deliver frame n) other = deaf_deliver tools w m h ds number n (frame_at h frame)
    other
deaf_event tools w m h ds number (Reset n) other =
    either_deaf m (is_up h n) (record { lines = DownReset number n ∷ []; disks = ds }) (refused_step ds number n Down)
    (tt, tt) (tt, tt)
deaf_event tools w m h ds number (PowerOn n) other =
    either_deaf m (is_up h n) (refused_step ds number n WrongState) (boot_step ds number n) (tt, tt)
    (either_deaf m (falls (disk_of ds n).armed (BootCalls (disk_of ds n).both_open))
    (record {
      lines = fallen_line (disk_of ds n).armed number n;
      disks =
          with_disk ds n
          (record
          { armed = NotArmed; both_open = leaves_both (disk_of ds n).armed (BootCalls (disk_of ds n).both_open) });
    })
    (record {
      lines = Boot number n
          ∷ [];
      disks = with_disk ds n (record { armed = (disk_of ds n).armed; both_open = false });
    })
    (deaf_fallen m (disk_of ds n).armed number n) (other, tt))
deaf_event tools w m h ds number (ShowRecord n) other = (tt, tt)
deaf_event tools w m h ds number (ArmStop n calls torn) other = tt
deaf_event tools w m h ds number (ArmFail n call) other = tt
deaf_event tools w m h ds number (InjectBytes bytes) other = (tt, tt)
deaf_event tools w m h ds number (ForgeNet to from source key sequence counter content) other = (tt, (tt, tt))
deaf_event tools w m h ds number (ForgeNetAps to from source key sequence counter label base aps_counter command)
    other = (tt, (tt, (tt, tt)))
deaf_event tools w m h ds number (ForgeOpen to from source label base aps_counter command) other = (tt, (tt, tt))

pub other_evens : (tools : Tools) (w : Schedule) (h : List Line) (ds : List Disk) (number : ℕ) (event : Event) (m : ℕ)
    → is_of m event ≡ false → EvensAt h m → EvensAt (h ++ (step tools w h ds number event).lines) m
other_evens tools w h ds number event m other e =
    let same = spared tools w h ds number event m other in
    same_evens h (h ++ (step tools w h ds number event).lines) m (ap (λ (x : Condition). x.state) same)
    (λ layer key. deaf_lines m layer key h (step tools w h ds number event).lines
    (deaf_event tools w m h ds number event other))
    (λ layer key sender. mute_kept layer key sender m h (step tools w h ds number event).lines
    (deaf_mute layer key sender m (step tools w h ds number event).lines
    (deaf_event tools w m h ds number event other)))
    (ap (λ (x : Condition). x.up) same) e

-- what is true of an event's node
pub of_node : (P : ℕ → Type 0) (event : Event) (m : ℕ) → is_of m event ≡ true → OfNode P event → P m
of_node P (Own n task) m is p = subst P (eqb-true n m is) p
of_node P (RollOver n) m is p = subst P (eqb-true n m is) p
of_node P (Deliver frame n) m is p = subst P (eqb-true n m is) p
of_node P (Reset n) m is p = subst P (eqb-true n m is) p
of_node P (PowerOn n) m is p = subst P (eqb-true n m is) p
of_node P (ShowRecord n) m is p = subst P (eqb-true n m is) p
of_node P (ArmStop n calls torn) m is p = subst P (eqb-true n m is) p
of_node P (ArmFail n call) m is p = subst P (eqb-true n m is) p
of_node P (InjectBytes bytes) m is p = absurd (false≢true is)
of_node P (ForgeNet to from source key sequence counter content) m is p = absurd (false≢true is)
of_node P (ForgeNetAps to from source key sequence counter label base aps_counter command) m is p =
    absurd (false≢true is)
of_node P (ForgeOpen to from source label base aps_counter command) m is p = absurd (false≢true is)

-- what is true of each declared node is true of the event's
pub to_node : (P : ℕ → Type 0) (w : Schedule) → ((n : ℕ) → Names w n → P n) → (event : Event) → NamesNode w event
    → OfNode P event
to_node P w each (Own n task) named = each n named
to_node P w each (RollOver n) named = each n named
to_node P w each (Deliver frame n) named = each n named
to_node P w each (Reset n) named = each n named
to_node P w each (PowerOn n) named = each n named
to_node P w each (ShowRecord n) named = each n named
to_node P w each (ArmStop n calls torn) named = each n named
to_node P w each (ArmFail n call) named = each n named
to_node P w each (InjectBytes bytes) named = tt
to_node P w each (ForgeNet to from source key sequence counter content) named = tt
to_node P w each (ForgeNetAps to from source key sequence counter label base aps_counter command) named = tt
to_node P w each (ForgeOpen to from source label base aps_counter command) named = tt
