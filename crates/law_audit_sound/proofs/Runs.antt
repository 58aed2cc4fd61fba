-- All lines of a run add up, group by group.
use Rattle.std.proofs.Common.{◌≡◌, ℕ, ◌+◌, Bool, true, false, cond, ◌&&◌, ◌||◌, List, [], ◌∷◌, ◌++◌, length, Option, Some, None, bytes_eq, refl, sym, ap, ◌∙◌, subst, unwrap_or}
use Rattle.std.specs.List.{AllByRecursion, list_any}
use Rattle.std.specs.Option.{option_map, option_or}
use Rattle.zb_base.specs.declared.label.Layer.{Layer}
use Rattle.zb_base.specs.declared.label.Layer.TheVariants as layer
use Rattle.zb_audit_names.specs.Groups.{flat}
use Rattle.zb_audit_names.specs.Naming.{declared_in, station_named}
use Rattle.law_audit_groups.specs.Grouping.{groups_from, with_group}
use Rattle.law_audit_groups.specs.Printing.{all_printed, printed}
use Rattle.law_audit_groups.proofs.Grouped.{is_grouped}
use Rattle.zb_model.specs.Answer.{Answer, counting_of}
use Rattle.zb_model.specs.Data as model
use Rattle.zb_model.specs.Data.{Bytes, Down, DoRoll, NoFrame, Reason, Received, Station, Task, Term, WrongState}
use Rattle.zb_model.specs.Lines as log
use Rattle.zb_model.specs.Play.{ArmFail, ArmStop, BootCalls, Deliver, Disk, Event, ForgeNet, ForgeNetAps, ForgeOpen, InjectBytes, NotArmed, Own, PowerOn, Reset, RollOver, Schedule, ShowRecord, Step, answer_step, boot_step, calls_for, cut_of, deliver_step, disk_of, fallen_line, falls, forged_both, forged_net, forged_open, frame_at, group_of, groups, leaves_both, refused_step, start, stations, step, step_by, supply, task_step, with_disk}
use Rattle.zb_model.specs.Readings.{is_up}
use Rattle.zb_model.specs.Schedules.{IsSchedule, Names, NamesNode}
use Rattle.zb_model.specs.Tools.{Tools}
use Rattle.zb_model.specs.Transcript.{end_line, run_lines, transcript}
use Rattle.law_run_counters.specs.Counted as counted
use Rattle.law_run_counters.proofs.Events.{Grounded, IsStart, event-grounded, start-are, start-grounded}
use Rattle.law_run_counters.proofs.Started.{Bridged}
use Rattle.law_run.specs.Commanding.{OneCentre}
use Rattle.law_run.specs.Opening.{Opens}
use Rattle.law_run.proofs.Basics.{append-nil'}
use Rattle.law_run.proofs.EventStates.{answer_to}
use Rattle.law_run.proofs.FreshLines.{all-append, all-map}
use Rattle.law_run_text.specs.OfNodes.{IsOfSchedule}
use Rattle.law_run_text.proofs.Lines.{are_of_nodes}
use Rattle.law_run_readings.specs.LastLines as said
use Rattle.law_run_readings.proofs.Lines.{flat_snoc}
use Rattle.zb_model_real.specs.Terms.{layer_of}
use Rattle.law_tables_suffice.specs.Along.{euis_differ}
use Rattle.law_answer_storable.specs.Storing.{OpensAsJudged}
use Rattle.law_audit_sound.specs.Reading.{ReadFrom, Reads as NodeReads}
use Rattle.law_audit_sound.proofs.EachLine.{TellsApart, tells_apart}
use Rattle.law_audit_sound.proofs.Reading.{run_reads}
use Rattle.zb_audit_counters.specs.Counting.{is_counted, uncounted, uncounted_from}
use Rattle.zb_audit_counters.specs.Readings as read
use Rattle.zb_trace_model.specs.Naming.{AreNamed, name_of}
use Rattle.zb_trace_model.specs.Said.{IsOfNodes, line_for}
use Rattle.zb_trace.specs.declared.line.Line.{Line}
use Rattle.law_audit_sound.proofs.Answers.{AnswerFits, answer_fits}
use Rattle.law_audit_sound.proofs.Blocks.{KnowsNodes, more_knows, start_knows}
use Rattle.law_audit_sound.proofs.Groups.{CountsBehind, GroupCounts, cut_counts, fallen_counts, none_uncounted, plain_group, whole_counts}
use Rattle.law_audit_sound.proofs.EachKind.{Told}
use Rattle.law_audit_sound.specs.CountersKeeping.{KeepsFourth}

-- ---- groups without lines

-- the groups that have lines
abbrev dense : List (List log.Line) → List (List log.Line)
dense [] = []
dense (g ∷ gs) = with_group g (dense gs)

flat_dense : (known : List Station) (gs : List (List log.Line)) → flat (all_printed known (dense gs))
    ≡ flat (all_printed known gs)
flat_dense known [] = refl
flat_dense known ([] ∷ gs) = flat_dense known gs
flat_dense known ((m ∷ g) ∷ gs) = ap (λ ls. printed known (m ∷ g) ++ ls) (flat_dense known gs)

or_none : {A : Type 0} (o : Option A) → o ≡ option_or o None
or_none None = refl
or_none (Some x) = refl

none_said : {A : Type 0} (f : Line → Option A) → read.last f [] ≡ None
unfolding read.last
none_said f = refl

limit_dense : (known : List Station) (name key : Bytes) (h : List Line) (gs : List (List log.Line))
    → read.limit_behind h name key (all_printed known (dense gs)) ≡ read.limit_behind h name key (all_printed known gs)
unfolding read.limit_behind
limit_dense known name key h [] = refl
limit_dense known name key h ([] ∷ gs) =
    limit_dense known name key h gs ∙ ap (λ ls. read.limit_behind ls name key (all_printed known gs))
    (sym (append-nil' h))
    ∙ or_none (read.limit_behind (h ++ []) name key (all_printed known gs))
    ∙ ap (option_or (read.limit_behind (h ++ []) name key (all_printed known gs)))
    (sym (none_said (read.limit_in name key (read.is_key (read.active h name) key))))
limit_dense known name key h ((m ∷ g) ∷ gs) =
    ap (λ o. option_or o
    (read.last (read.limit_in name key (read.is_key (read.active h name) key)) (printed known (m ∷ g))))
    (limit_dense known name key (h ++ printed known (m ∷ g)) gs)

-- groups of the same lines, with the same limits of keys
record AreAlike (name : Bytes) (some others : List (List Line)) : Type 0 where
  lines : flat some ≡ flat others
  limits : (key : Bytes) → read.limit_behind [] name key some ≡ read.limit_behind [] name key others

under_alike : (name : Bytes) (some others : List (List Line)) → AreAlike name some others → (o : Option Bytes)
    → read.limit_under some name o ≡ read.limit_under others name o
unfolding read.limit_under
under_alike name some others alike None = ap (λ ls. read.declared ls name layer.Nwk) alike.lines
under_alike name some others alike (Some key) =
    ap (λ ls. unwrap_or (read.limit_behind [] name key some) (read.declared ls name layer.Nwk)) alike.lines ∙ ap
    (λ o. unwrap_or o (read.declared (flat others) name layer.Nwk)) (alike.limits key)

limit_alike : (name : Bytes) (some others : List (List Line)) → AreAlike name some others → (l : Layer)
    → read.limit some name l ≡ read.limit others name l
unfolding read.limit
limit_alike name some others alike layer.Nwk = ap (λ ls. read.limit_under some name (read.active ls name)) alike.lines
    ∙ under_alike name some others alike (read.active (flat others) name)
limit_alike name some others alike layer.Aps =
    ap (λ ls. unwrap_or (read.last (read.reserve_in name layer.Aps) ls) (read.declared ls name layer.Aps)) alike.lines

next_alike : (name : Bytes) (some others : List (List Line)) → AreAlike name some others → (l : Layer)
    → read.next some name l ≡ read.next others name l
unfolding read.next
next_alike name some others alike l =
    ap (λ x. read.behind x
    (read.last (read.sealed_in name l (read.active (flat some) name)) (read.since_boot name (flat some))))
    (limit_alike name some others alike l)
    ∙ ap (λ ls. read.behind (read.limit others name l)
    (read.last (read.sealed_in name l (read.active ls name)) (read.since_boot name ls))) alike.lines

dense_alike : (known : List Station) (name : Bytes) (gs : List (List log.Line))
    → AreAlike name (all_printed known (dense gs)) (all_printed known gs)
dense_alike known name gs = record { lines = flat_dense known gs; limits = λ key. limit_dense known name key [] gs }

-- ---- the lines before a group

printed_more : (known : List Station) (g h : List log.Line) → printed known g ++ printed known h
    ≡ printed known (g ++ h)
printed_more known [] h = refl
printed_more known (m ∷ g) h = ap (λ ls. line_for known m ∷ ls) (printed_more known g h)

flat_printed : (known : List Station) (gs : List (List log.Line)) → flat (all_printed known gs)
    ≡ printed known (said.flat gs)
flat_printed known [] = refl
flat_printed known (g ∷ gs) = ap (λ ls. printed known g ++ ls) (flat_printed known gs) ∙ printed_more known g
    (said.flat gs)

abbrev AllOf : List Station → List log.Line → Type 0
AllOf known h = AllByRecursion (IsOfNodes known) h

-- whether a line starts a key
started_line : (known : List Station) (n : ℕ) → TellsApart known n → (key : Bytes) (m : log.Line) → IsOfNodes known m
    → read.starts_key (name_of known n) key (line_for known m) ≡ counted.starts_key n key m
unfolding line_for
started_line known n apart key (log.Declared p) is = refl
started_line known n apart key (log.GivenNet j k sequence) is = ap (λ b. b && bytes_eq k key) (apart j is)
started_line known n apart key (log.GivenLink j partner k) is = refl
started_line known n apart key (log.Counter j l limit) is = refl
started_line known n apart key (log.Commit event j) is = refl
started_line known n apart key (log.Accept event j t) is = refl
started_line known n apart key (log.Refuse event j at why) is = refl
started_line known n apart key (log.Seal event j t) is = refl
started_line known n apart key (log.Forge event t) is = refl
started_line known n apart key (log.Send event from frame bytes) is = refl
started_line known n apart key (log.Inject event frame bytes) is = refl
started_line known n apart key (log.Stopped event j) is = refl
started_line known n apart key (log.DownReset event j) is = refl
started_line known n apart key (log.DownDisk event j) is = refl
started_line known n apart key (log.Boot event j) is = refl
started_line known n apart key (log.Dump event j bytes) is = refl
started_line known n apart key (log.End events seals accepts refusals ideal private) is = refl
started_line known n apart key (log.Changed event j (model.Reserve l limit)) is = refl
started_line known n apart key (log.Changed event j (model.Floor l k from value)) is = refl
started_line known n apart key (log.Changed event j (model.Start k value)) is =
    ap (λ b. b && bytes_eq k key) (apart j is.0)
started_line known n apart key (log.Changed event j (model.Moved (model.Draw k))) is = refl
started_line known n apart key (log.Changed event j (model.Moved (model.DropNet k))) is = refl
started_line known n apart key (log.Changed event j (model.Moved (model.DropLink partner k))) is = refl
started_line known n apart key (log.Changed event j (model.Moved (model.Install k sequence))) is = refl
started_line known n apart key (log.Changed event j (model.Moved (model.Active k))) is = refl
started_line known n apart key (log.Changed event j (model.Moved (model.Row partner k attribute))) is = refl
started_line known n apart key (log.Changed event j (model.Moved (model.Pair first second k))) is = refl
started_line known n apart key (log.Changed event j (model.Moved (model.Became s))) is = refl
started_line known n apart key (log.Changed event j (model.Moved (model.Live device))) is = refl
started_line known n apart key (log.Changed event j (model.Moved (model.Removed device))) is = refl
started_line known n apart key (log.Changed event j (model.Moved (model.Roll sending))) is = refl
started_line known n apart key (log.Changed event j (model.Moved (model.Told device))) is = refl
started_line known n apart key (log.Changed event j (model.Moved (model.Untold device))) is = refl

started_same : (known : List Station) (n : ℕ) → TellsApart known n → (key : Bytes) (h : List log.Line) → AllOf known h
    → read.has_started (printed known h) (name_of known n) key ≡ counted.has_started h n key
unfolding read.has_started counted.has_started
started_same known n apart key [] all = refl
started_same known n apart key (m ∷ h) all =
    ap (λ b. b || list_any (read.starts_key (name_of known n) key) (printed known h))
    (started_line known n apart key m all.0)
    ∙ ap (λ b. counted.starts_key n key m || b) (started_same known n apart key h all.1)

told_by : (w : Schedule) → AreNamed (stations w) → (before : List (List log.Line))
    → AllOf (stations w) (said.flat before) → KnowsNodes w (said.flat before) → (n : ℕ) → Names w n
    → is_up (said.flat before) n ≡ true → NodeReads (stations w) before n
    → Told w (said.flat before) (all_printed (stations w) (dense before)) n
unfolding KnowsNodes
told_by w fits before all knows n named up reads =
    let known = stations w in
    let name = name_of known n in
    let alike = dense_alike known name before in
    let same : flat (all_printed known (dense before)) ≡ printed known (said.flat before) =
    flat_dense known before ∙ flat_printed known before in
    record {
      active_is = ap (λ ls. read.active ls name) alike.lines ∙ reads.active_is;
      limits = λ l. limit_alike name (all_printed known (dense before)) (all_printed known before) alike (layer_of l)
          ∙ reads.limits l;
      nexts = λ l. next_alike name (all_printed known (dense before)) (all_printed known before) alike (layer_of l) ∙
          reads.nexts up l;
      floors = λ l key sender. ap (λ ls. read.stored ls name (layer_of l) key sender) alike.lines ∙ reads.floors l key
          sender;
      started = λ key. ap (λ ls. read.has_started ls name key) same ∙ started_same known n
          (tells_apart known fits n named) key (said.flat before) all;
      out_is =
          λ front. ap
          (λ ls. option_map (λ (s : Station). s.out_block) (station_named (declared_in (ls ++ front)) name)) same ∙ ap
          (option_map (λ (s : Station). s.out_block)) (knows n named front);
      in_is =
          λ front. ap
          (λ ls. option_map (λ (s : Station). s.in_block) (station_named (declared_in (ls ++ front)) name)) same ∙ ap
          (option_map (λ (s : Station). s.in_block)) (knows n named front);
    }

-- ---- the group of an event

-- what the proof needs of the node of an event
record IsReady (w : Schedule) (h : List log.Line) (before : List (List Line)) : Type 0 where
  told : (n : ℕ) → Names w n → is_up h n ≡ true → Told w h before n
  bridged : Bridged h

either_counts : (known : List Station) (before : List (List Line)) (b : Bool) (x y : Step)
    → (b ≡ true → GroupCounts known before x.lines) → (b ≡ false → GroupCounts known before y.lines)
    → GroupCounts known before (cond b x y).lines
either_counts known before true x y p q = p refl
either_counts known before false x y p q = q refl

refused_counts : (known : List Station) (before : List (List Line)) (ds : List Disk) (number n : ℕ) (reason : Reason)
    → GroupCounts known before (refused_step ds number n reason).lines
unfolding is_counted line_for
refused_counts known before ds number n reason = (refl, tt)

answer_counts : (w : Schedule) (h : List log.Line) (before : List (List Line)) (ds : List Disk) (number n : ℕ)
    (a : Answer) → Told w h before n → AnswerFits w h n a
    → GroupCounts (stations w) before (answer_step h ds number n a).lines
answer_counts w h before ds number n a told fits =
    let armed = (disk_of ds n).armed in
    let calls = calls_for h n a.edits in
    either_counts (stations w) before (falls armed calls)
    (record {
      lines = cut_of armed calls number n a;
      disks = with_disk ds n (record { armed = NotArmed; both_open = leaves_both armed calls });
    })
    (record { lines = group_of h number n a; disks = ds })
    (λ is. cut_counts w h before armed calls number n a is told fits)
    (λ is. whole_counts w h before number n a told fits)

task_counts : (tools : Tools) → Opens tools → (w : Schedule) → IsSchedule w
    → (h : List log.Line) (before : List (List Line)) (ds : List Disk) (number n : ℕ) (task : Task) → Names w n
    → IsReady w h before
    → GroupCounts (stations w) before (task_step tools counting_of w h ds number n task).lines
unfolding task_step
task_counts tools opens w i h before ds number n task named ready =
    let a = answer_to tools w h n task in
    either_counts (stations w) before (is_up h n) (answer_step h ds number n a) (refused_step ds number n Down)
    (λ up. answer_counts w h before ds number n a (ready.told n named up)
    (answer_fits tools opens w i h number n task named ready.bridged up))
    (λ down. refused_counts (stations w) before ds number n Down)

deliver_counts : (tools : Tools) → Opens tools → (w : Schedule) → IsSchedule w
    → (h : List log.Line) (before : List (List Line)) (ds : List Disk) (number n : ℕ) (o : Option Bytes) → Names w n
    → IsReady w h before
    → GroupCounts (stations w) before (deliver_step tools counting_of w h ds number n o).lines
deliver_counts tools opens w i h before ds number n None named ready = refused_counts (stations w) before ds number n
    (cond (is_up h n) NoFrame Down)
deliver_counts tools opens w i h before ds number n (Some bytes) named ready =
    task_counts tools opens w i h before ds number n (Received bytes (supply w h)) named ready

step_counts : (tools : Tools) → Opens tools → (w : Schedule) → IsSchedule w
    → (h : List log.Line) (before : List (List Line)) (ds : List Disk) (number : ℕ) (event : Event)
    → NamesNode w event → IsReady w h before
    → GroupCounts (stations w) before (step tools w h ds number event).lines
unfolding step step_by forged_net forged_both forged_open is_counted line_for
step_counts tools opens w i h before ds number (Own n task) named ready =
    task_counts tools opens w i h before ds number n task named ready
step_counts tools opens w i h before ds number (RollOver n) named ready =
    task_counts tools opens w i h before ds number n (DoRoll (supply w h)) named ready
step_counts tools opens w i h before ds number (Deliver frame n) named ready =
    deliver_counts tools opens w i h before ds number n (frame_at h frame) named ready
step_counts tools opens w i h before ds number (Reset n) named ready =
    either_counts (stations w) before (is_up h n) (record { lines = log.DownReset number n ∷ []; disks = ds })
    (refused_step ds number n Down) (λ up. (refl, tt)) (λ down. (refl, tt))
step_counts tools opens w i h before ds number (PowerOn n) named ready =
    let armed = (disk_of ds n).armed in
    let calls = BootCalls (disk_of ds n).both_open in
    either_counts (stations w) before (is_up h n) (refused_step ds number n WrongState) (boot_step ds number n)
    (λ up. (refl, tt))
    (λ down. either_counts (stations w) before (falls armed calls)
    (record {
      lines = fallen_line armed number n;
      disks = with_disk ds n (record { armed = NotArmed; both_open = leaves_both armed calls });
    })
    (record { lines = log.Boot number n ∷ []; disks = with_disk ds n (record { armed = armed; both_open = false }) })
    (λ is. plain_group (stations w) before (fallen_line armed number n)
    (fallen_counts (stations w) before (printed (stations w) (fallen_line armed number n)) [] armed number n))
    (λ is. (refl, tt)))
step_counts tools opens w i h before ds number (ShowRecord n) named ready = (refl, tt)
step_counts tools opens w i h before ds number (ArmStop n calls torn) named ready = tt
step_counts tools opens w i h before ds number (ArmFail n call) named ready = tt
step_counts tools opens w i h before ds number (InjectBytes bytes) named ready = (refl, tt)
step_counts tools opens w i h before ds number (ForgeNet to from source key sequence counter content) named ready =
    (refl, (refl, tt))
step_counts tools opens w i h before ds number
    (ForgeNetAps to from source key sequence counter label base aps_counter command) named ready =
    (refl, (refl, (refl, tt)))
step_counts tools opens w i h before ds number (ForgeOpen to from source label base aps_counter command) named ready =
    (refl, (refl, tt))

-- ---- group by group

-- no line of a group, and of those after it
group_and_more : (known : List Station) (before : List (List Line)) (number : ℕ) (g : List log.Line)
    (more : List (List log.Line)) → GroupCounts known before g
    → ((count : ℕ) → uncounted_from (before ++ all_printed known (with_group g [])) count (all_printed known more)
    ≡ []) → uncounted_from before number (all_printed known (with_group g more)) ≡ []
unfolding uncounted_from
group_and_more known before number [] more counts rest = ap (λ gs. uncounted_from gs number (all_printed known more))
    (sym (append-nil' before)) ∙ rest number
group_and_more known before number (m ∷ g) more counts rest =
    let group = printed known (m ∷ g) in
    ap (λ ns. ns ++ uncounted_from (before ++ group ∷ []) (number + length group) (all_printed known more))
    (none_uncounted known before group [] number (m ∷ g) counts) ∙ rest (number + length group)

dense_snoc : (known : List Station) (gs : List (List log.Line)) (g : List log.Line)
    → all_printed known (dense (gs ++ g ∷ [])) ≡ all_printed known (dense gs) ++ all_printed known (with_group g [])
dense_snoc known [] g = refl
dense_snoc known ([] ∷ gs) g = dense_snoc known gs g
dense_snoc known ((m ∷ f) ∷ gs) g = ap (λ ls. printed known (m ∷ f) ∷ ls) (dense_snoc known gs g)

all_left : {X : Type 0} (P : X → Type 0) (xs ys : List X) → AllByRecursion P (xs ++ ys) → AllByRecursion P xs
all_left P [] ys all = tt
all_left P (x ∷ xs) ys all = (all.0, all_left P xs ys all.1)

all_right : {X : Type 0} (P : X → Type 0) (xs ys : List X) → AllByRecursion P (xs ++ ys) → AllByRecursion P ys
all_right P [] ys all = all
all_right P (x ∷ xs) ys all = all_right P xs ys all.1

-- what is carried along a run
record IsAlong (w : Schedule) (h : List log.Line) : Type 0 where
  grounded : Grounded h
  knows : KnowsNodes w h
  of : AllOf (stations w) h

abbrev IsLast : List Station → log.Line → Type 0
IsLast known last = (before : List (List Line)) (group front : List Line)
    → is_counted before group front (line_for known last) ≡ true

run_counts : (tools : Tools) → Opens tools → (w : Schedule) → IsSchedule w → AreNamed (stations w) → (last : log.Line)
    → IsLast (stations w) last → (before : List (List log.Line)) (ds : List Disk) (number : ℕ) (events : List Event)
    → AllByRecursion (NamesNode w) events → ReadFrom tools w before ds number events
    → AllOf (stations w) (groups tools w (said.flat before) ds number events) → IsAlong w (said.flat before)
    → (count : ℕ)
    → uncounted_from (all_printed (stations w) (dense before)) count
    (all_printed (stations w) (groups_from tools w (said.flat before) ds number events last)) ≡ []
unfolding groups_from groups uncounted_from
run_counts tools opens w i fits last is_last before ds number [] named reads of along count =
    let known = stations w in
    let so_far = all_printed known (dense before) in
    ap (λ ns. ns ++ [])
    (none_uncounted known so_far (printed known (last ∷ [])) [] count (last ∷ [])
    (is_last so_far (printed known (last ∷ [])) [], tt))
run_counts tools opens w i fits last is_last before ds number (event ∷ events) named reads of along count =
    let known = stations w in
    let h = said.flat before in
    let g = step tools w h ds number event in
    let more = groups tools w (h ++ g.lines) g.disks (number + 1) events in
    let same : h ++ g.lines ≡ said.flat (before ++ g.lines ∷ []) = sym (flat_snoc before g.lines) in
    let next : IsAlong w (h ++ g.lines) = record {
      grounded = event-grounded tools w h ds number event along.grounded;
      knows = more_knows w h g.lines along.knows;
      of = all-append (IsOfNodes known) h g.lines along.of (all_left (IsOfNodes known) g.lines more of);
    } in
    group_and_more known (all_printed known (dense before)) count g.lines
    (groups_from tools w (h ++ g.lines) g.disks (number + 1) events last)
    (step_counts tools opens w i h (all_printed known (dense before)) ds number event named.0
    (record {
      told = λ n its up. told_by w fits before along.of along.knows n its up (reads.0 n its);
      bridged = along.grounded.bridged;
    }))
    (λ c.
    ap (λ gs. uncounted_from gs c
    (all_printed known (groups_from tools w (h ++ g.lines) g.disks (number + 1) events last)))
    (sym (dense_snoc known before g.lines))
    ∙ ap (λ x. uncounted_from (all_printed known (dense (before ++ g.lines ∷ []))) c
    (all_printed known (groups_from tools w x g.disks (number + 1) events last))) same
    ∙ run_counts tools opens w i fits last is_last (before ++ g.lines ∷ []) g.disks (number + 1) events named.1 reads.1
    (subst (λ x. AllOf known (groups tools w x g.disks (number + 1) events)) same
    (all_right (IsOfNodes known) g.lines more of)) (subst (IsAlong w) same next) c)

-- ---- the whole run

start_plain : (known : List Station) (before : List (List Line)) (group : List Line) (m : log.Line) → IsStart m
    → CountsBehind known before group [] m
unfolding IsStart is_counted line_for
start_plain known before group (log.Declared p) is = λ more. refl
start_plain known before group (log.GivenNet n key sequence) is = λ more. refl
start_plain known before group (log.GivenLink n partner key) is = λ more. refl
start_plain known before group (log.Counter n l limit) is = λ more. refl
start_plain known before group _ is = absurd is

last_counts : (tools : Tools) (known : List Station) (events : ℕ) (h : List log.Line)
    → IsLast known (end_line tools events h)
unfolding end_line is_counted line_for
last_counts tools known events h = λ before group front. refl

of_nodes : (known : List Station) (h : List log.Line) → AllByRecursion (IsOfSchedule known) h → AllOf known h
of_nodes known h all = all-map (IsOfSchedule known) (IsOfNodes known) (λ m is. is.0) h all

pub keeps_fourth : (tools : Tools) → Opens tools → OpensAsJudged tools → (w : Schedule) → IsSchedule w → euis_differ w
    ≡ true → OneCentre w → AreNamed (stations w) → KeepsFourth tools w
unfolding uncounted transcript run_lines
keeps_fourth tools opens judged w is differ one fits =
    let known = stations w in
    let last = end_line tools (length w.events) (run_lines tools w) in
    let lines = groups tools w (start w) [] 1 w.events in
    let all =
    of_nodes known (start w ++ lines)
    (all_left (IsOfSchedule known) (start w ++ lines) (last ∷ []) (are_of_nodes tools w is one)) in
    let same : start w ≡ said.flat (start w ∷ []) = sym (append-nil' (start w)) in
    let first : IsAlong w (start w) =
    record {
      grounded = start-grounded w;
      knows = start_knows w fits;
      of = all_left (IsOfNodes known) (start w)
          lines all;
    } in
    ap (uncounted_from [] 1) (is_grouped tools w)
    ∙ group_and_more known [] 1 (start w) (groups_from tools w (start w) [] 1 w.events last)
    (plain_group known [] (start w)
    (all-map IsStart (CountsBehind known [] (printed known (start w)) [])
    (start_plain known [] (printed known (start w))) (start w) (start-are w)))
    (λ c.
    ap (λ x. uncounted_from (all_printed known (with_group (start w) [])) c
    (all_printed known (groups_from tools w x [] 1 w.events last))) same
    ∙ run_counts tools opens w is fits last (last_counts tools known (length w.events) (run_lines tools w))
    (start w ∷ []) [] 1 w.events is.events (run_reads tools opens judged w is differ one fits)
    (subst (λ x. AllOf known (groups tools w x [] 1 w.events)) same (all_right (IsOfNodes known) (start w) lines all))
    (subst (IsAlong w) same first) c)
