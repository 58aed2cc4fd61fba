-- Whole runs: each accepted term fits.
use Rattle.std.proofs.Common.{ℕ, ◌+◌, Bool, true, false, cond, List, [], ◌∷◌, ◌++◌, map, length, Option, Some, None, nat_eq, flat_map}
use Rattle.std.specs.List.{AllByRecursion}
use Rattle.zb_model.specs.Data.{Bytes, Layer, Nwk, Aps, Station, Task, Received, DoRoll, Down, WrongState}
use Rattle.zb_model.specs.Lines.{Line, Declared, Counter, Boot, DownReset}
use Rattle.zb_model.specs.Tools.{Tools}
use Rattle.law_run.specs.Opening.{Opens}
use Rattle.zb_model.specs.Rules.{Setting, Plan, centre_of}
use Rattle.zb_model.specs.Answer.{Answer, answer_by, plan_of, counting_of}
use Rattle.zb_model.specs.Readings.{state_of, is_up}
use Rattle.zb_model.specs.Play.{Schedule, Node, Event, Own, RollOver, Deliver, Reset, PowerOn, ShowRecord, ArmStop, ArmFail, InjectBytes, ForgeNet, ForgeNetAps, ForgeOpen, Step, Disk, Armed, NotArmed, StopAfter, FailAt, Calls, stations, setting_of, net_line, link_line, limit_line, start, disk_of, with_disk, falls, stands, calls_for, leaves_both, BootCalls, group_of, cut_of, fallen_line, stored_lines, answer_step, boot_step, refused_step, answer_counted, task_step, deliver_step, frame_at, supply, forged_net, forged_both, forged_open, step_by, step, groups}
use Rattle.zb_model.specs.Schedules.{Names, NamesNode, IsSchedule}
use Rattle.zb_model.specs.Transcript.{run_lines, transcript, end_line}
use Rattle.zb_model.specs.Claims.{Each, Once}
use Rattle.law_run.proofs.Basics.{each-append}
use Rattle.law_run.proofs.FreshLines.{all-append}
use Rattle.law_run.proofs.Runs.{Me, me-of}
use Rattle.law_run.proofs.OnceLines.{AcceptFits, once-lines}
use Rattle.law_run.proofs.OnceGroups.{NoAccept, plain, stored-plain, group-accepts}
use Rattle.law_run.proofs.Judged.{AcceptsFit, plan-accepts}
use Rattle.law_run.proofs.Sound.{sound}

abbrev Fit : List Line → List Line → Type 0
Fit h ls = Each AcceptFits h ls

either : (P : List Line → Type 0) (b : Bool) (x y : Step) → P x.lines → P y.lines → P (cond b x y).lines
either P true x y p q = p
either P false x y p q = q

fallen-plain : (armed : Armed) (number n : ℕ) → AllByRecursion NoAccept (fallen_line armed number n)
unfolding NoAccept
fallen-plain NotArmed number n = tt
fallen-plain (StopAfter calls torn) number n = (tt, tt)
fallen-plain (FailAt call) number n = (tt, tt)

cut-part : (b : Bool) (number n : ℕ) (a : Answer) → AllByRecursion NoAccept (cond b (stored_lines number n a) [])
cut-part true number n a = stored-plain number n a
cut-part false number n a = tt

cut-plain : (armed : Armed) (calls : Calls) (number n : ℕ) (a : Answer)
    → AllByRecursion NoAccept (cut_of armed calls number n a)
unfolding cut_of
cut-plain armed calls number n a = all-append NoAccept (cond (stands armed calls) (stored_lines number n a) [])
    (fallen_line armed number n) (cut-part (stands armed calls) number n a) (fallen-plain armed number n)

answer-fits : (tools : Tools) (c : Setting) (h : List Line) (disks : List Disk) (number n : ℕ) (p : Plan) → Me c n
    → AcceptsFit (state_of h n) p.accepts
    → Fit h (answer_step h disks number n (answer_by tools c (state_of h n) (counting_of c (state_of h n) p) p)).lines
answer-fits tools c h disks number n p m f =
    either (Fit h) (falls (disk_of disks n).armed (calls_for h n a.edits)) cut whole
    (plain h cut.lines (cut-plain (disk_of disks n).armed (calls_for h n a.edits) number n a))
    (group-accepts tools c h h number n p m.in_block f)
  where
    a : Answer
    a = answer_by tools c (state_of h n) (counting_of c (state_of h n) p) p

    cut : Step
    cut = record {
      lines = cut_of (disk_of disks n).armed (calls_for h n a.edits) number n a;
      disks =
          with_disk disks n
          (record { armed = NotArmed; both_open = leaves_both (disk_of disks n).armed (calls_for h n a.edits) });
    }

    whole : Step
    whole = record { lines = group_of h number n a; disks = disks }

task-fits : (tools : Tools) → Opens tools → (w : Schedule) → IsSchedule w
    → (h : List Line) (disks : List Disk) (number n : ℕ) (task : Task) → Names w n
    → Fit h (task_step tools counting_of w h disks number n task).lines
unfolding task_step
task-fits tools opens w i h disks number n task named =
    either (Fit h) (is_up h n)
    (answer_step h disks number n (answer_counted tools counting_of (setting_of w n) (state_of h n) p))
    (refused_step disks number n Down)
    (answer-fits tools (setting_of w n) h disks number n p (me-of w i n named)
    (plan-accepts tools opens (setting_of w n) (state_of h n) (sound h n) task)) (tt, tt)
  where
    p : Plan
    p = plan_of tools (setting_of w n) (state_of h n) task

deliver-fits : (tools : Tools) → Opens tools → (w : Schedule) → IsSchedule w
    → (h : List Line) (disks : List Disk) (number n : ℕ) (o : Option Bytes) → Names w n
    → Fit h (deliver_step tools counting_of w h disks number n o).lines
deliver-fits tools opens w i h disks number n None named = (tt, tt)
deliver-fits tools opens w i h disks number n (Some bytes) named = task-fits tools opens w i h disks number n
    (Received bytes (supply w h)) named

boot-fits : (h : List Line) (disks : List Disk) (number n : ℕ) → Fit h (boot_step disks number n).lines
boot-fits h disks number n =
    either (Fit h) (falls (disk_of disks n).armed (BootCalls (disk_of disks n).both_open))
    (record {
      lines = fallen_line (disk_of disks n).armed number n;
      disks =
          with_disk disks n
          (record {
            armed = NotArmed;
            both_open = leaves_both (disk_of disks n).armed (BootCalls (disk_of disks n).both_open);
          });
    })
    (record {
      lines = Boot number n
          ∷ [];
      disks = with_disk disks n (record { armed = (disk_of disks n).armed; both_open = false });
    })
    (plain h (fallen_line (disk_of disks n).armed number n) (fallen-plain (disk_of disks n).armed number n)) (tt, tt)

step-fits : (tools : Tools) → Opens tools → (w : Schedule) → IsSchedule w
    → (h : List Line) (disks : List Disk) (number : ℕ) (event : Event) → NamesNode w event
    → Fit h (step tools w h disks number event).lines
unfolding step step_by forged_net forged_both forged_open
step-fits tools opens w i h disks number (Own n task) named = task-fits tools opens w i h disks number n task named
step-fits tools opens w i h disks number (RollOver n) named = task-fits tools opens w i h disks number n
    (DoRoll (supply w h)) named
step-fits tools opens w i h disks number (Deliver frame n) named = deliver-fits tools opens w i h disks number n
    (frame_at h frame) named
step-fits tools opens w i h disks number (Reset n) named =
    either (Fit h) (is_up h n) (record { lines = DownReset number n ∷ []; disks = disks })
    (refused_step disks number n Down) (tt, tt) (tt, tt)
step-fits tools opens w i h disks number (PowerOn n) named =
    either (Fit h) (is_up h n) (refused_step disks number n WrongState) (boot_step disks number n) (tt, tt)
    (boot-fits h disks number n)
step-fits tools opens w i h disks number (ShowRecord n) named = (tt, tt)
step-fits tools opens w i h disks number (ArmStop n calls torn) named = tt
step-fits tools opens w i h disks number (ArmFail n call) named = tt
step-fits tools opens w i h disks number (InjectBytes bytes) named = (tt, tt)
step-fits tools opens w i h disks number (ForgeNet to from source key sequence counter content) named = (tt, (tt, tt))
step-fits tools opens w i h disks number
    (ForgeNetAps to from source key sequence counter label base aps_counter command) named = (tt, (tt, (tt, tt)))
step-fits tools opens w i h disks number (ForgeOpen to from source label base aps_counter command) named =
    (tt, (tt, tt))

groups-fit : (tools : Tools) → Opens tools → (w : Schedule) → IsSchedule w
    → (h : List Line) (disks : List Disk) (number : ℕ) (events : List Event) → AllByRecursion (NamesNode w) events
    → Fit h (groups tools w h disks number events)
unfolding groups
groups-fit tools opens w i h disks number [] named = tt
groups-fit tools opens w i h disks number (event ∷ events) named =
    each-append AcceptFits h (step tools w h disks number event).lines
    (groups tools w (h ++ (step tools w h disks number event).lines) (step tools w h disks number event).disks
    (number + 1) events)
    (step-fits tools opens w i h disks number event named.0)
    (groups-fit tools opens w i (h ++ (step tools w h disks number event).lines)
    (step tools w h disks number event).disks (number + 1) events named.1)

-- the start

declared-plain : (ps : List Station) → AllByRecursion NoAccept (map Declared ps)
unfolding NoAccept
declared-plain [] = tt
declared-plain (p ∷ ps) = (tt, declared-plain ps)

flat-plain : {X : Type 0} (f : X → List Line) → ((x : X) → AllByRecursion NoAccept (f x)) → (xs : List X)
    → AllByRecursion NoAccept (flat_map f xs)
flat-plain f k [] = tt
flat-plain f k (x ∷ xs) = all-append NoAccept (f x) (flat_map f xs) (k x) (flat-plain f k xs)

net-plain : (n : ℕ) (o : Option (Bytes × ℕ)) → AllByRecursion NoAccept (net_line n o)
unfolding NoAccept
net-plain n None = tt
net-plain n (Some g) = (tt, tt)

link-plain : (c n : ℕ) (o : Option Bytes) → AllByRecursion NoAccept (link_line c n o)
unfolding NoAccept
link-plain c n None = tt
link-plain c n (Some k) = (tt, tt)

limit-by : (n : ℕ) (layer : Layer) (v : ℕ) (b : Bool) → AllByRecursion NoAccept (cond b [] (Counter n layer v ∷ []))
unfolding NoAccept
limit-by n layer v true = tt
limit-by n layer v false = (tt, tt)

start-plain : (w : Schedule) → AllByRecursion NoAccept (start w)
unfolding start
start-plain w =
    all-append NoAccept (map Declared (stations w)) (nets ++ (links ++ limits)) (declared-plain (stations w))
    (all-append NoAccept nets (links ++ limits)
    (flat-plain (λ (m : Node). net_line m.station.eui m.network) (λ m. net-plain m.station.eui m.network) w.nodes)
    (all-append NoAccept links limits
    (flat-plain (λ (m : Node). link_line (centre_of (stations w)) m.station.eui m.code)
    (λ m. link-plain (centre_of (stations w)) m.station.eui m.code) w.nodes)
    (flat-plain (λ (m : Node). limit_line m.station.eui Nwk m.start_nwk ++ limit_line m.station.eui Aps m.start_aps)
    (λ m. all-append NoAccept (limit_line m.station.eui Nwk m.start_nwk) (limit_line m.station.eui Aps m.start_aps)
    (limit-by m.station.eui Nwk m.start_nwk (nat_eq m.start_nwk 0))
    (limit-by m.station.eui Aps m.start_aps (nat_eq m.start_aps 0))) w.nodes)))
  where
    nets : List Line
    nets = flat_map (λ (m : Node). net_line m.station.eui m.network) w.nodes

    links : List Line
    links = flat_map (λ (m : Node). link_line (centre_of (stations w)) m.station.eui m.code) w.nodes

    limits : List Line
    limits =
        flat_map (λ (m : Node). limit_line m.station.eui Nwk m.start_nwk ++ limit_line m.station.eui Aps m.start_aps)
        w.nodes

-- The law

run-fits : (tools : Tools) → Opens tools → (w : Schedule) → IsSchedule w → Fit [] (run_lines tools w)
unfolding run_lines
run-fits tools opens w i = each-append AcceptFits [] (start w) (groups tools w (start w) [] 1 w.events)
    (plain [] (start w) (start-plain w)) (groups-fit tools opens w i (start w) [] 1 w.events i.events)

pub once : (tools : Tools) → Opens tools → (w : Schedule) → IsSchedule w → Once (transcript tools w)
unfolding transcript end_line
once tools opens w i = once-lines [] (run_lines tools w ++ end_line tools (length w.events) (run_lines tools w) ∷ [])
    (each-append AcceptFits [] (run_lines tools w) (end_line tools (length w.events) (run_lines tools w) ∷ [])
    (run-fits tools opens w i) (tt, tt))
