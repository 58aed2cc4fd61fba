-- All lines of a run are in their ranges: what the lines so far say of a node is in its range, and so is what its
-- next answer says.
use Rattle.std.proofs.Common.{◌≡◌, ℕ, ◌+◌, ◌*◌, ◌-◌, ◌≤◌, Bool, true, false, cond, nat_eq, List, [], ◌∷◌, ◌++◌, map, find, fold, flat_map, length, slice_get, Option, Some, None, IfSome, option_map, is_some, refl, sym, ap, ◌∙◌, subst, arith, length-append}
use Rattle.std.specs.List.{AllByRecursion}
use Rattle.std.proofs.lemmas.Bool.{false≢true}
use Rattle.zb_model.specs.Answer.{Answer, counting_of}
use Rattle.zb_model.specs.Data.{Bytes, Layer, Nwk, Aps, Label, Station, Term, Place, Reason, Down, NoFrame, WrongState, Edit, Task, Received, DoRoll}
use Rattle.zb_model.specs.Fits.{keeps_rules}
use Rattle.zb_model.specs.Frames.{plain_frame, secured_frame, nwk_header, nwk_term, aps_term, sealed_command}
use Rattle.zb_model.specs.Lines.{Line, Declared, Counter, Changed, Accept, Refuse, Seal, Forge, Send, Inject, DownReset, Boot}
use Rattle.zb_model.specs.Play.{Schedule, Node, Event, Own, RollOver, Deliver, Reset, PowerOn, ShowRecord, ArmStop, ArmFail, InjectBytes, ForgeNet, ForgeNetAps, ForgeOpen, Step, Disk, Armed, NotArmed, StopAfter, FailAt, Calls, BootCalls, stations, station_or, without_blocks, setting_of, net_line, link_line, limit_line, start, groups, disk_of, with_disk, falls, stands, calls_for, leaves_both, commit_lines, refuse_lines, send_lines, stored_lines, told_lines, group_of, cut_of, fallen_line, answer_step, boot_step, refused_step, task_step, deliver_step, frame_at, supply, forged_control, forged_net, forged_both, forged_open, step_by, step}
use Rattle.zb_model.specs.Readings.{state_of, is_up, air, air_line, draws_used}
use Rattle.zb_model.specs.Rules.{centre_of, eui_or, station_of}
use Rattle.zb_model.specs.Schedules.{IsSchedule, Names, NamesNode}
use Rattle.zb_model.specs.State.{is_centre}
use Rattle.zb_model.specs.Tools.{Tools}
use Rattle.zb_model.specs.Transcript.{seal_count, accept_count, refuse_count, run_lines, transcript, end_line}
use Rattle.law_run.specs.Events.{BeforeEach}
use Rattle.law_run.proofs.Basics.{find-map}
use Rattle.law_run.proofs.EventStates.{answer_to}
use Rattle.law_run.proofs.FreshLines.{all-append}
use Rattle.law_tables_suffice.specs.Along.{OfNode, euis_differ}
use Rattle.law_tables_suffice.proofs.Ready.{ruled_along}
use Rattle.law_answer_storable.specs.Storing.{OpensAsJudged}
use Rattle.law_run_ranges.specs.Asking.{IsSmall, NodeInRange, TaskInRange, EventInRange, ScheduleInRange, KeepsRanges, AreInRange}
use Rattle.law_run_ranges.specs.Ranges.{IsCount, IsEui, IsByte, AreBytes, IsKey, IsShort, TermInRange, EditInRange, ReasonInRange, LineInRange}
use Rattle.law_run_ranges.proofs.Answers.{AcceptInRange, AnswerInRange, answer_in}
use Rattle.law_run_ranges.proofs.Frames.{header_in, header_length, nwk_front_length, aps_front_length, nwk_term_in, aps_term_in, bytes_append}
use Rattle.law_run_ranges.proofs.Lists.{found, item}
use Rattle.law_run_ranges.proofs.Outcomes.{SettingInRange, StationHasEui}
use Rattle.law_run_ranges.proofs.Records.{few_nets, record_in}
use Rattle.law_run_ranges.proofs.States.{state_in, air_in}

-- ---- how many lines are about frames, terms and refusals

abbrev one : Line → ℕ
one (Accept e n t) = 1
one (Refuse e n place reason) = 1
one (Seal e n t) = 1
one (Forge e t) = 1
one (Send e n frame bytes) = 1
one (Inject e frame bytes) = 1
one _ = 0

abbrev told : List Line → ℕ
told [] = 0
told (l ∷ ls) = one l + told ls

told_append : (xs ys : List Line) → told (xs ++ ys) ≡ told xs + told ys
told_append [] ys = omega arith
told_append (x ∷ xs) ys = omega (arith, told_append xs ys)

bounded : (f : ℕ → Line → ℕ) → ((n : ℕ) (l : Line) → f n l ≤ n + one l) → (n : ℕ) (ls : List Line) → fold f n ls
    ≤ n + told ls
bounded f each n [] = omega arith
bounded f each n (l ∷ ls) = omega (arith, each n l, bounded f each (f n l) ls)

seal_one : (n : ℕ) (l : Line) → seal_count n l ≤ n + one l
seal_one n (Seal e k t) = omega arith
seal_one n _ = omega arith

accept_one : (n : ℕ) (l : Line) → accept_count n l ≤ n + one l
accept_one n (Accept e k t) = omega arith
accept_one n _ = omega arith

refuse_one : (n : ℕ) (l : Line) → refuse_count n l ≤ n + one l
refuse_one n (Refuse e k place reason) = omega arith
refuse_one n _ = omega arith

frame_one : (frames : List Bytes) (l : Line) → length (air_line frames l) ≤ length frames + one l
frame_one frames (Send e n frame bytes) = omega (arith, length-append frames (bytes ∷ []))
frame_one frames (Inject e frame bytes) = omega (arith, length-append frames (bytes ∷ []))
frame_one frames _ = omega arith

frames_bounded : (frames : List Bytes) (ls : List Line) → length (fold air_line frames ls) ≤ length frames + told ls
frames_bounded frames [] = omega arith
frames_bounded frames (l ∷ ls) = omega (arith, frame_one frames l, frames_bounded (air_line frames l) ls)

air_bounded : (h : List Line) → length (air h) ≤ told h
unfolding air
air_bounded h = omega (arith, frames_bounded [] h)

-- ---- the lines of a group: in their ranges, and at most six of them are about these

record GroupInRange (g : List Line) : Type 0 where
  lines : AllByRecursion LineInRange g
  few : told g ≤ 6

changes_in : (number n : ℕ) (es : List Edit) → IsCount number → AllByRecursion EditInRange es
    → AllByRecursion LineInRange (map (Changed number n) es)
changes_in number n [] c all = tt
changes_in number n (e ∷ es) c all = ((c, all.0), changes_in number n es c all.1)

no_changes : (number n : ℕ) (es : List Edit) → told (map (Changed number n) es) ≡ 0
no_changes number n [] = refl
no_changes number n (e ∷ es) = omega (arith, no_changes number n es)

commit_in : (number n : ℕ) (es : List Edit) → IsCount number → AllByRecursion LineInRange (commit_lines number n es)
commit_in number n [] c = tt
commit_in number n (e ∷ es) c = (c, tt)

no_commit : (number n : ℕ) (es : List Edit) → told (commit_lines number n es) ≡ 0
no_commit number n [] = refl
no_commit number n (e ∷ es) = refl

stored_in : (number n : ℕ) (a : Answer) → IsCount number → AnswerInRange a
    → AllByRecursion LineInRange (stored_lines number n a)
unfolding stored_lines
stored_in number n a c is = all-append LineInRange (map (Changed number n) a.edits) (commit_lines number n a.edits)
    (changes_in number n a.edits c is.edits) (commit_in number n a.edits c)

none_stored : (number n : ℕ) (a : Answer) → told (stored_lines number n a) ≡ 0
unfolding stored_lines
none_stored number n a =
    omega (
      arith,
      told_append (map (Changed number n) a.edits) (commit_lines number n a.edits),
      no_changes number n a.edits,
      no_commit number n a.edits,
    )

accepts_in : (number n : ℕ) (ts : List Term) → IsCount number → AllByRecursion AcceptInRange ts
    → AllByRecursion LineInRange (map (Accept number n) ts)
accepts_in number n [] c all = tt
accepts_in number n (t ∷ ts) c all = ((c, all.0.0, all.0.1), accepts_in number n ts c all.1)

accepts_told : (number n : ℕ) (ts : List Term) → told (map (Accept number n) ts) ≡ length ts
accepts_told number n [] = refl
accepts_told number n (t ∷ ts) = omega (arith, accepts_told number n ts)

seals_in : (number n : ℕ) (ts : List Term) → IsCount number → AllByRecursion TermInRange ts
    → AllByRecursion LineInRange (map (Seal number n) ts)
seals_in number n [] c all = tt
seals_in number n (t ∷ ts) c all = ((c, all.0), seals_in number n ts c all.1)

seals_told : (number n : ℕ) (ts : List Term) → told (map (Seal number n) ts) ≡ length ts
seals_told number n [] = refl
seals_told number n (t ∷ ts) = omega (arith, seals_told number n ts)

refuse_in : (number n : ℕ) (place : Place) (o : Option Reason) → IsCount number → IfSome o ReasonInRange
    → AllByRecursion LineInRange (refuse_lines number n place o)
refuse_in number n place None c is = tt
refuse_in number n place (Some reason) c is = ((c, is), tt)

refuse_told : (number n : ℕ) (place : Place) (o : Option Reason) → told (refuse_lines number n place o) ≤ 1
refuse_told number n place None = omega arith
refuse_told number n place (Some reason) = omega arith

send_in : (number : ℕ) (n : Option ℕ) (frame : ℕ) (o : Option Bytes) → IsCount number → IsCount frame
    → IfSome o IsShort → AllByRecursion LineInRange (send_lines number n frame o)
send_in number n frame None c f is = tt
send_in number n frame (Some bytes) c f is = ((c, f, is), tt)

send_told : (number : ℕ) (n : Option ℕ) (frame : ℕ) (o : Option Bytes) → told (send_lines number n frame o) ≤ 1
send_told number n frame None = omega arith
send_told number n frame (Some bytes) = omega arith

group_in : (h : List Line) (number n : ℕ) (a : Answer) → IsCount number → IsCount (length (air h) + 1)
    → AnswerInRange a → GroupInRange (group_of h number n a)
unfolding group_of told_lines
group_in h number n a c f is =
    let stored = stored_lines number n a in
    let accepts = map (Accept number n) a.accepts in
    let refuse = refuse_lines number n a.place a.refusal in
    let seals = map (Seal number n) a.seals in
    let send = send_lines number (Some n) (length (air h) + 1) a.frame in
    record {
      lines = all-append LineInRange stored _ (stored_in number n a c is)
          (all-append LineInRange accepts _ (accepts_in number n a.accepts c is.accepts)
          (all-append LineInRange refuse _ (refuse_in number n a.place a.refusal c is.refusal)
          (all-append LineInRange seals send (seals_in number n a.seals c is.seals)
          (send_in number (Some n) (length (air h) + 1) a.frame c f is.frame))));
      few = omega (
        arith,
        told_append stored (accepts ++ (refuse ++ (seals ++ send))),
        told_append accepts (refuse ++ (seals ++ send)),
        told_append refuse (seals ++ send),
        told_append seals send,
        none_stored number n a,
        accepts_told number n a.accepts,
        refuse_told number n a.place a.refusal,
        seals_told number n a.seals,
        send_told number (Some n) (length (air h) + 1) a.frame,
        is.few_accepts,
        is.few_seals,
      );
    }

fallen_in : (armed : Armed) (number n : ℕ) → IsCount number → GroupInRange (fallen_line armed number n)
fallen_in NotArmed number n c = record { lines = tt; few = omega arith }
fallen_in (StopAfter calls torn) number n c = record { lines = (c, tt); few = omega arith }
fallen_in (FailAt call) number n c = record { lines = (c, tt); few = omega arith }

fallen_told : (armed : Armed) (number n : ℕ) → told (fallen_line armed number n) ≡ 0
fallen_told NotArmed number n = refl
fallen_told (StopAfter calls torn) number n = refl
fallen_told (FailAt call) number n = refl

cut_in : (armed : Armed) (calls : Calls) (number n : ℕ) (a : Answer) → IsCount number → AnswerInRange a
    → GroupInRange (cut_of armed calls number n a)
unfolding cut_of
cut_in armed calls number n a c is = by_test (stands armed calls)
  where
    by_test : (b : Bool) → GroupInRange (cond b (stored_lines number n a) [] ++ fallen_line armed number n)
    by_test true = record {
      lines = all-append LineInRange (stored_lines number n a) (fallen_line armed number n)
          (stored_in number n a c is) (fallen_in armed number n c).lines;
      few = omega (
        arith,
        told_append (stored_lines number n a) (fallen_line armed number n),
        none_stored number n a,
        fallen_told armed number n,
      );
    }
    by_test false = fallen_in armed number n c

-- ---- what a node knows

euis_in : (ms : List Node) → AllByRecursion NodeInRange ms
    → AllByRecursion StationHasEui (map (λ (m : Node). m.station) ms)
euis_in [] all = tt
euis_in (m ∷ ms) all = (all.0.station.eui, euis_in ms all.1)

without_in : (ps : List Station) → AllByRecursion StationHasEui ps
    → AllByRecursion StationHasEui (map without_blocks ps)
without_in [] all = tt
without_in (p ∷ ps) all = (all.0, without_in ps all.1)

same_eui : (n : ℕ) (o : Option Station) → eui_or n (option_map without_blocks o) ≡ eui_or n o
same_eui n None = refl
same_eui n (Some p) = refl

same_centre : (ps : List Station) → centre_of (map without_blocks ps) ≡ centre_of ps
unfolding centre_of
same_centre ps =
    ap (eui_or 18446744073709551616) (find-map (λ (p : Station). is_centre p.role) without_blocks (λ p. refl) ps) ∙
    same_eui 18446744073709551616 (find (λ (p : Station). is_centre p.role) ps)

me_in : (o : Option Station) → is_some o ≡ true → IfSome o StationHasEui → IsEui (station_or o).eui
me_in None named is = absurd (false≢true named)
me_in (Some p) named is = is

setting_in : (w : Schedule) (n : ℕ) → ScheduleInRange w → Names w n → SettingInRange (setting_of w n)
unfolding setting_of station_of
setting_in w n within named =
    let euis = euis_in w.nodes within.nodes in (
      me_in (find (λ (p : Station). nat_eq p.eui n) (stations w)) named
          (found StationHasEui (λ (p : Station). nat_eq p.eui n) (stations w) euis),
      subst IsEui (sym (same_centre (stations w))) within.centre,
      without_in (stations w) euis,
    )

supply_in : (w : Schedule) (h : List Line) → ScheduleInRange w → IfSome (supply w h) IsKey
unfolding supply
supply_in w h within = item IsKey w.draws (draws_used h) within.draws

frame_in : (h : List Line) (frame : ℕ) → AllByRecursion LineInRange h → IfSome (frame_at h frame) IsShort
frame_in h frame all = by_test (nat_eq frame 0)
  where
    by_test : (b : Bool) → IfSome (cond b None (slice_get (air h) (frame - 1))) IsShort
    by_test true = tt
    by_test false = item IsShort (air h) (frame - 1) (air_in h all)

-- ---- steps

record Sofar (h : List Line) (number : ℕ) : Type 0 where
  lines : AllByRecursion LineInRange h
  few : told h + 6 ≤ 6 * number
  soon : number ≤ 100001

either : (b : Bool) (x y : Step) → GroupInRange x.lines → GroupInRange y.lines → GroupInRange (cond b x y).lines
either true x y p q = p
either false x y p q = q

count_in : (h : List Line) (number : ℕ) → Sofar h number → IsCount number
count_in h number so = omega (arith, so.soon)

next_frame : (h : List Line) (number : ℕ) → Sofar h number → IsCount (length (air h) + 1)
next_frame h number so = omega (arith, so.soon, so.few, air_bounded h)

refused_in : (h : List Line) (ds : List Disk) (number n : ℕ) (reason : Reason) → Sofar h number → ReasonInRange reason
    → GroupInRange (refused_step ds number n reason).lines
refused_in h ds number n reason so r = record { lines = ((count_in h number so, r), tt); few = omega arith }

quiet_in : (h : List Line) (number : ℕ) (l : Line) → LineInRange l → one l ≤ 1 → GroupInRange (l ∷ [])
quiet_in h number l is le = record { lines = (is, tt); few = omega arith }

module _ (tools : Tools) (w : Schedule) (opens : OpensAsJudged tools) (keeps : KeepsRanges tools)
    (within : ScheduleInRange w) where
  task_in : (h : List Line) (ds : List Disk) (number n : ℕ) (task : Task) → Sofar h number → Names w n
      → keeps_rules (state_of h n) ≡ true → TaskInRange task
      → GroupInRange (task_step tools counting_of w h ds number n task).lines
  unfolding task_step
  task_in h ds number n task so named ruled t =
      let a = answer_to tools w h n task in
      let calls = calls_for h n a.edits in
      let c = count_in h number so in
      let is : AnswerInRange a = answer_in tools (setting_of w n) (state_of h n) task opens keeps
      (setting_in w n within named) (state_in h n so.lines) (few_nets (state_of h n) ruled) t in
      either (is_up h n) (answer_step h ds number n a) (refused_step ds number n Down)
      (either (falls (disk_of ds n).armed calls)
      (record {
        lines = cut_of (disk_of ds n).armed calls number n a;
        disks = with_disk ds n (record { armed = NotArmed; both_open = leaves_both (disk_of ds n).armed calls });
      })
      (record { lines = group_of h number n a; disks = ds })
      (cut_in (disk_of ds n).armed calls number n a c is) (group_in h number n a c (next_frame h number so) is))
      (refused_in h ds number n Down so tt)

  reason_in : (b : Bool) → ReasonInRange (cond b NoFrame Down)
  reason_in true = tt
  reason_in false = tt

  deliver_in : (h : List Line) (ds : List Disk) (number n : ℕ) (o : Option Bytes) → Sofar h number → Names w n
      → keeps_rules (state_of h n) ≡ true → IfSome o IsShort
      → GroupInRange (deliver_step tools counting_of w h ds number n o).lines
  deliver_in h ds number n None so named ruled is = refused_in h ds number n (cond (is_up h n) NoFrame Down) so
      (reason_in (is_up h n))
  deliver_in h ds number n (Some bytes) so named ruled is = task_in h ds number n (Received bytes (supply w h)) so
      named ruled (is, supply_in w h within)

  inner_in : (source : ℕ) (label : Label) (base : Bytes) (counter : ℕ) (command : Bytes) → IsEui source → IsKey base
      → IsCount counter → IsSmall command → TermInRange (aps_term sealed_command label base source counter command)
  inner_in source label base counter command e k n b = aps_term_in sealed_command label base source counter command
      (omega arith, tt) (omega arith) k e n (b.0, omega (arith, b.1))

  inner_long : (source : ℕ) (label : Label) (base : Bytes) (counter : ℕ) (command : Bytes) → IsEui source → IsKey base
      → IsCount counter → IsSmall command
      → length (tools.wire (aps_term sealed_command label base source counter command)) ≤ 83
  inner_long source label base counter command e k n b =
      omega (
        arith,
        b.1,
        keeps.wire_length (aps_term sealed_command label base source counter command)
            (inner_in source label base counter command e k n b),
        aps_front_length sealed_command label counter source,
      )

  outer_in : (control to from source : ℕ) (key : Bytes) (sequence counter : ℕ) (content : Bytes) → IsEui source
      → IsKey key → IsByte sequence → IsCount counter → AreBytes content → length content ≤ 101
      → TermInRange (nwk_term control to from source key sequence counter content)
      × IsShort (tools.wire (nwk_term control to from source key sequence counter content))
  outer_in control to from source key sequence counter content e k q n b le =
      let t = nwk_term control to from source key sequence counter content in
      let is = nwk_term_in control to from source key sequence counter content e k q n (b, omega (arith, le)) in (
        is,
        (
          keeps.wire t is,
          omega (arith, le, keeps.wire_length t is, nwk_front_length control to from sequence counter source),
        ),
      )

  event_in : (h : List Line) (ds : List Disk) (number : ℕ) (event : Event) → Sofar h number → NamesNode w event
      → OfNode (λ n. keeps_rules (state_of h n) ≡ true) event → EventInRange event
      → GroupInRange (step tools w h ds number event).lines
  unfolding step step_by forged_net forged_both forged_open
  event_in h ds number (Own n task) so named ruled v = task_in h ds number n task so named ruled v
  event_in h ds number (RollOver n) so named ruled v = task_in h ds number n (DoRoll (supply w h)) so named ruled
      (supply_in w h within)
  event_in h ds number (Deliver frame n) so named ruled v = deliver_in h ds number n (frame_at h frame) so named ruled
      (frame_in h frame so.lines)
  event_in h ds number (Reset n) so named ruled v =
      either (is_up h n) (record { lines = DownReset number n ∷ []; disks = ds }) (refused_step ds number n Down)
      (quiet_in h number (DownReset number n) (count_in h number so) (omega arith))
      (refused_in h ds number n Down so tt)
  event_in h ds number (PowerOn n) so named ruled v =
      either (is_up h n) (refused_step ds number n WrongState) (boot_step ds number n)
      (refused_in h ds number n WrongState so tt)
      (either (falls (disk_of ds n).armed (BootCalls (disk_of ds n).both_open))
      (record {
        lines = fallen_line (disk_of ds n).armed number n;
        disks =
            with_disk ds n
            (record
            { armed = NotArmed; both_open = leaves_both (disk_of ds n).armed (BootCalls (disk_of ds n).both_open) });
      })
      (record {
        lines = Boot number n
            ∷ [];
        disks = with_disk ds n (record { armed = (disk_of ds n).armed; both_open = false });
      })
      (fallen_in (disk_of ds n).armed number n (count_in h number so))
      (quiet_in h number (Boot number n) (count_in h number so) (omega arith)))
  event_in h ds number (ShowRecord n) so named ruled v =
      quiet_in h number _ (count_in h number so, record_in (state_of h n) ruled (state_in h n so.lines)) (omega arith)
  event_in h ds number (ArmStop n calls torn) so named ruled v = record { lines = tt; few = omega arith }
  event_in h ds number (ArmFail n call) so named ruled v = record { lines = tt; few = omega arith }
  event_in h ds number (InjectBytes bytes) so named ruled v =
      quiet_in h number (Inject number (length (air h) + 1) bytes) (count_in h number so, next_frame h number so, v)
      (omega arith)
  event_in h ds number (ForgeNet to from source key sequence counter content) so named ruled v =
      let t = outer_in (forged_control tools content) to from source key sequence counter content v.0 v.1 v.2 v.3
      v.4.0 (omega (arith, v.4.1)) in
      let c = count_in h number so in
      record { lines = ((c, t.0), ((c, next_frame h number so, t.1), tt)); few = omega arith }
  event_in h ds number (ForgeNetAps to from source key sequence counter label base aps_counter command) so named ruled
      v =
      let inner = aps_term sealed_command label base source aps_counter command in
      let is = inner_in source label base aps_counter command v.0 v.4 v.5 v.6 in
      let t = outer_in secured_frame to from source key sequence counter (tools.wire inner) v.0 v.1 v.2 v.3
      (keeps.wire inner is) (omega (arith, inner_long source label base aps_counter command v.0 v.4 v.5 v.6)) in
      let c = count_in h number so in
      record { lines = ((c, is), ((c, t.0), ((c, next_frame h number so, t.1), tt))); few = omega arith }
  event_in h ds number (ForgeOpen to from source label base aps_counter command) so named ruled v =
      let inner = aps_term sealed_command label base source aps_counter command in
      let is = inner_in source label base aps_counter command v.0 v.1 v.2 v.3 in
      let c = count_in h number so in
      let bytes = bytes_append (nwk_header plain_frame to from 0) (tools.wire inner)
      (header_in plain_frame to from 0 (omega arith)) (keeps.wire inner is) in
      let long : length (nwk_header plain_frame to from 0 ++ tools.wire inner)
      ≤ 127 =
      omega (
        arith,
        length-append (nwk_header plain_frame to from 0) (tools.wire inner),
        header_length plain_frame to from 0,
        inner_long source label base aps_counter command v.0 v.1 v.2 v.3,
      ) in
      record { lines = ((c, is), ((c, next_frame h number so, (bytes, long)), tt)); few = omega arith }

  record RunInRange (g : List Line) (events : ℕ) : Type 0 where
    lines : AllByRecursion LineInRange g
    few : told g ≤ 6 * events

  groups_in : (h : List Line) (ds : List Disk) (number : ℕ) (events : List Event) → Sofar h number
      → number + length events ≤ 100001 → AllByRecursion (NamesNode w) events → AllByRecursion EventInRange events
      → BeforeEach (λ x event. OfNode (λ n. keeps_rules (state_of x n) ≡ true) event) tools w h ds number events
      → RunInRange (groups tools w h ds number events) (length events)
  unfolding groups
  groups_in h ds number [] so few named v ruled = record { lines = tt; few = omega arith }
  groups_in h ds number (event ∷ events) so few named v ruled =
      let g = step tools w h ds number event in
      let is = event_in h ds number event so named.0 ruled.0 v.0 in
      let more = groups_in (h ++ g.lines) g.disks (number + 1) events
      (record {
        lines = all-append LineInRange h g.lines so.lines is.lines;
        few = omega (arith, told_append h g.lines, so.few, is.few);
        soon = omega arith;
      }) (omega arith) named.1 v.1
      ruled.1 in
      record {
        lines = all-append LineInRange g.lines _ is.lines more.lines;
        few = omega (
          arith,
          told_append g.lines (groups tools w (h ++ g.lines) g.disks (number + 1) events),
          is.few,
          more.few,
        );
      }

-- ---- the start

declared_in : (ms : List Node) → AllByRecursion NodeInRange ms
    → AllByRecursion LineInRange (map Declared (map (λ (m : Node). m.station) ms))
declared_in [] all = tt
declared_in (m ∷ ms) all = (all.0.station, declared_in ms all.1)

declared_told : (ps : List Station) → told (map Declared ps) ≡ 0
declared_told [] = refl
declared_told (p ∷ ps) = omega (arith, declared_told ps)

record StartInRange (g : List Line) : Type 0 where
  lines : AllByRecursion LineInRange g
  none : told g ≡ 0

start_append : (xs ys : List Line) → StartInRange xs → StartInRange ys → StartInRange (xs ++ ys)
start_append xs ys p q =
    record {
      lines = all-append LineInRange xs ys p.lines q.lines;
      none = omega (arith, told_append xs ys, p.none, q.none);
    }

each_start : (f : Node → List Line) → ((m : Node) → NodeInRange m → StartInRange (f m)) → (ms : List Node)
    → AllByRecursion NodeInRange ms → StartInRange (flat_map f ms)
each_start f each [] all = record { lines = tt; none = refl }
each_start f each (m ∷ ms) all = start_append (f m) (flat_map f ms) (each m all.0) (each_start f each ms all.1)

net_start : (n : ℕ) (o : Option (Bytes × ℕ)) → IfSome o (λ given. IsKey given.0 × IsByte given.1)
    → StartInRange (net_line n o)
net_start n None is = record { lines = tt; none = refl }
net_start n (Some given) is = record { lines = (is, tt); none = refl }

link_start : (centre n : ℕ) (o : Option Bytes) → IsEui centre → IfSome o IsKey → StartInRange (link_line centre n o)
link_start centre n None e is = record { lines = tt; none = refl }
link_start centre n (Some key) e is = record { lines = ((e, is), tt); none = refl }

limit_start : (n : ℕ) (l : Layer) (limit : ℕ) → IsCount limit → StartInRange (limit_line n l limit)
limit_start n l limit is = by_test (nat_eq limit 0)
  where
    by_test : (b : Bool) → StartInRange (cond b [] (Counter n l limit ∷ []))
    by_test true = record { lines = tt; none = refl }
    by_test false = record { lines = (is, tt); none = refl }

start_in : (w : Schedule) → ScheduleInRange w → StartInRange (start w)
unfolding start
start_in w within =
    start_append (map Declared (stations w)) _
    (record { lines = declared_in w.nodes within.nodes; none = declared_told (stations w) })
    (start_append (flat_map (λ (m : Node). net_line m.station.eui m.network) w.nodes) _
    (each_start (λ (m : Node). net_line m.station.eui m.network)
    (λ m is. net_start m.station.eui m.network is.network) w.nodes within.nodes)
    (start_append (flat_map (λ (m : Node). link_line (centre_of (stations w)) m.station.eui m.code) w.nodes) _
    (each_start (λ (m : Node). link_line (centre_of (stations w)) m.station.eui m.code)
    (λ m is. link_start (centre_of (stations w)) m.station.eui m.code within.centre is.code) w.nodes within.nodes)
    (each_start (λ (m : Node). limit_line m.station.eui Nwk m.start_nwk ++ limit_line m.station.eui Aps m.start_aps)
    (λ m is. start_append (limit_line m.station.eui Nwk m.start_nwk) (limit_line m.station.eui Aps m.start_aps)
    (limit_start m.station.eui Nwk m.start_nwk is.start_nwk)
    (limit_start m.station.eui Aps m.start_aps is.start_aps))
    w.nodes within.nodes)))

-- ---- the transcript

pub in_range : (tools : Tools) → OpensAsJudged tools → KeepsRanges tools → (w : Schedule) → IsSchedule w
    → euis_differ w ≡ true → ScheduleInRange w → AreInRange tools w
unfolding transcript run_lines end_line
in_range tools opens keeps w is differ within =
    let first = start_in w within in
    let rest = groups_in tools w opens keeps within (start w) [] 1 w.events
    (record { lines = first.lines; few = omega (arith, first.none); soon = omega arith })
    (omega (arith, within.few_events)) is.events within.events (ruled_along tools opens w is differ) in
    let lines = start w ++ groups tools w (start w) [] 1 w.events in
    let few : told lines ≤ 600000 =
    omega (
      arith,
      told_append (start w) (groups tools w (start w) [] 1 w.events),
      first.none,
      rest.few,
      within.few_events,
    ) in
    all-append LineInRange lines _
    (all-append LineInRange (start w) (groups tools w (start w) [] 1 w.events) first.lines rest.lines) (
      (
        omega (arith, within.few_events),
        omega (arith, few, bounded seal_count seal_one 0 lines),
        omega (arith, few, bounded accept_count accept_one 0 lines),
        omega (arith, few, bounded refuse_count refuse_one 0 lines),
      ),
      tt,
    )
