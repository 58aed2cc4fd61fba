-- A claim on each line, and one on the disks, over all parts of a step.
use Rattle.std.proofs.Common.{ℕ, ◌+◌, Bool, true, false, cond, List, [], ◌∷◌, ◌++◌, map, length, flat_map, Option, Some, None, nat_eq}
use Rattle.std.specs.List.{AllByRecursion}
use Rattle.zb_model.specs.Data.{Bytes, Layer, Nwk, Aps, Station, Term, Edit, Place, Reason, Down, NoFrame, WrongState, Task, Received, DoRoll}
use Rattle.zb_model.specs.Lines.{Line, Declared, GivenNet, GivenLink, Counter, Changed, Commit, Accept, Refuse, Seal, Forge, Send, Inject, Stopped, DownReset, DownDisk, Boot, Dump}
use Rattle.zb_model.specs.Tools.{Tools}
use Rattle.zb_model.specs.Rules.{centre_of}
use Rattle.zb_model.specs.Answer.{Answer, answer_by, plan_of, counting_of}
use Rattle.zb_model.specs.Readings.{state_of, is_up, air}
use Rattle.zb_model.specs.Play.{Schedule, Node, Event, Own, RollOver, Deliver, Reset, PowerOn, ShowRecord, ArmStop, ArmFail, InjectBytes, ForgeNet, ForgeNetAps, ForgeOpen, Step, Disk, DiskState, Armed, NotArmed, StopAfter, FailAt, Calls, BootCalls, stations, net_line, link_line, limit_line, start, setting_of, disk_of, with_disk, falls, stands, calls_for, leaves_both, commit_lines, refuse_lines, send_lines, stored_lines, told_lines, group_of, cut_of, fallen_line, answer_step, boot_step, refused_step, task_step, deliver_step, frame_at, supply, forged_net, forged_both, forged_open, step_by, step}
use Rattle.law_run.proofs.FreshLines.{all-append}

-- The lines of an answer

pub map-all : {X : Type 0} (P : Line → Type 0) (f : X → Line) → ((x : X) → P (f x)) → (xs : List X)
    → AllByRecursion P (map f xs)
map-all P f k [] = tt
map-all P f k (x ∷ xs) = (k x, map-all P f k xs)

pub commit-all : (P : Line → Type 0) (number n : ℕ) → P (Commit number n) → (es : List Edit)
    → AllByRecursion P (commit_lines number n es)
commit-all P number n k [] = tt
commit-all P number n k (e ∷ es) = (k, tt)

pub fallen-all : (P : Line → Type 0) (number n : ℕ) → P (Stopped number n) → P (DownDisk number n) → (armed : Armed)
    → AllByRecursion P (fallen_line armed number n)
fallen-all P number n s d NotArmed = tt
fallen-all P number n s d (StopAfter calls torn) = (s, tt)
fallen-all P number n s d (FailAt call) = (d, tt)

-- a claim on the lines after the commit of an answer
pub record OfTold (P : Line → Type 0) (number n : ℕ) : Type 0 where
  pub accept : (t : Term) → P (Accept number n t)
  pub refuse : (place : Place) (reason : Reason) → P (Refuse number n place reason)
  pub seal : (t : Term) → P (Seal number n t)
  pub send : (o : Option ℕ) (frame : ℕ) (bytes : Bytes) → P (Send number o frame bytes)

refuse-all : (P : Line → Type 0) (number n : ℕ) → OfTold P number n → (place : Place) (o : Option Reason)
    → AllByRecursion P (refuse_lines number n place o)
refuse-all P number n k place None = tt
refuse-all P number n k place (Some r) = (k.refuse place r, tt)

send-all : (P : Line → Type 0) (number n : ℕ) → OfTold P number n → (by : Option ℕ) (frame : ℕ) (o : Option Bytes)
    → AllByRecursion P (send_lines number by frame o)
send-all P number n k by frame None = tt
send-all P number n k by frame (Some bytes) = (k.send by frame bytes, tt)

pub told-all : (P : Line → Type 0) (number n : ℕ) → OfTold P number n → (frame : ℕ) (a : Answer)
    → AllByRecursion P (told_lines number n frame a)
unfolding told_lines
told-all P number n k frame a =
    all-append P (map (Accept number n) a.accepts)
    (refuse_lines number n a.place a.refusal
    ++ (map (Seal number n) a.seals ++ send_lines number (Some n) frame a.frame))
    (map-all P (Accept number n) k.accept a.accepts)
    (all-append P (refuse_lines number n a.place a.refusal)
    (map (Seal number n) a.seals ++ send_lines number (Some n) frame a.frame)
    (refuse-all P number n k a.place a.refusal)
    (all-append P (map (Seal number n) a.seals) (send_lines number (Some n) frame a.frame)
    (map-all P (Seal number n) k.seal a.seals) (send-all P number n k (Some n) frame a.frame)))

-- A whole step

-- a claim on each line that a step of a node may have
pub record OfSteps (P : Line → Type 0) (number n : ℕ) : Type 0 where
  pub changed : (e : Edit) → P (Changed number n e)
  pub commit : P (Commit number n)
  pub told : OfTold P number n
  pub stopped : P (Stopped number n)
  pub failed : P (DownDisk number n)
  pub reset : P (DownReset number n)
  pub boot : P (Boot number n)
  pub dump : (bytes : Bytes) → P (Dump number n bytes)

-- the claims on the lines and on the disks that a step leaves
abbrev pub Has : (Line → Type 0) → (List Disk → Type 0) → Step → Type 0
Has P D g = AllByRecursion P g.lines × D g.disks

pub record OfNode (P : Line → Type 0) (D : List Disk → Type 0) (ds : List Disk) (number n : ℕ) : Type 0 where
  pub lines : OfSteps P number n
  pub disks : (d : DiskState) → D (with_disk ds n d)

pub record OfOutside (P : Line → Type 0) (number : ℕ) : Type 0 where
  pub forge : (t : Term) → P (Forge number t)
  pub send : (o : Option ℕ) (frame : ℕ) (bytes : Bytes) → P (Send number o frame bytes)
  pub inject : (frame : ℕ) (bytes : Bytes) → P (Inject number frame bytes)

-- the claim that an event asks for: of its node, or of the outside
abbrev pub Asked : (Line → Type 0) → (List Disk → Type 0) → List Disk → ℕ → Event → Type 0
Asked P D ds number (Own n task) = OfNode P D ds number n
Asked P D ds number (RollOver n) = OfNode P D ds number n
Asked P D ds number (Deliver frame n) = OfNode P D ds number n
Asked P D ds number (Reset n) = OfNode P D ds number n
Asked P D ds number (PowerOn n) = OfNode P D ds number n
Asked P D ds number (ShowRecord n) = OfNode P D ds number n
Asked P D ds number (ArmStop n calls torn) = OfNode P D ds number n
Asked P D ds number (ArmFail n call) = OfNode P D ds number n
Asked P D ds number _ = OfOutside P number

either : (Q : Step → Type 0) (b : Bool) (x y : Step) → Q x → Q y → Q (cond b x y)
either Q true x y p q = p
either Q false x y p q = q

stored-all : (P : Line → Type 0) (number n : ℕ) → OfSteps P number n → (a : Answer)
    → AllByRecursion P (stored_lines number n a)
unfolding stored_lines
stored-all P number n k a = all-append P (map (Changed number n) a.edits) (commit_lines number n a.edits)
    (map-all P (Changed number n) k.changed a.edits) (commit-all P number n k.commit a.edits)

group-all : (P : Line → Type 0) (h : List Line) (number n : ℕ) → OfSteps P number n → (a : Answer)
    → AllByRecursion P (group_of h number n a)
unfolding group_of
group-all P h number n k a = all-append P (stored_lines number n a) (told_lines number n (length (air h) + 1) a)
    (stored-all P number n k a) (told-all P number n k.told (length (air h) + 1) a)

cut-all : (P : Line → Type 0) (number n : ℕ) → OfSteps P number n → (armed : Armed) (calls : Calls) (a : Answer)
    → AllByRecursion P (cut_of armed calls number n a)
unfolding cut_of
cut-all P number n k armed calls a = all-append P (cond (stands armed calls) (stored_lines number n a) [])
    (fallen_line armed number n) (by-test (stands armed calls)) (fallen-all P number n k.stopped k.failed armed)
  where
    by-test : (b : Bool) → AllByRecursion P (cond b (stored_lines number n a) [])
    by-test true = stored-all P number n k a
    by-test false = tt

answer-has : (P : Line → Type 0) (D : List Disk → Type 0) (h : List Line) (ds : List Disk) (number n : ℕ)
    → OfNode P D ds number n → D ds → (a : Answer) → Has P D (answer_step h ds number n a)
answer-has P D h ds number n k d a =
    either (Has P D) (falls armed calls)
    (record {
      lines = cut_of armed calls number n a;
      disks = with_disk ds n (record { armed = NotArmed; both_open = leaves_both armed calls });
    })
    (record { lines = group_of h number n a; disks = ds }) (
      cut-all P number n k.lines armed calls a,
      k.disks (record { armed = NotArmed; both_open = leaves_both armed calls }),
    )
    (group-all P h number n k.lines a, d)
  where
    armed : Armed
    armed = (disk_of ds n).armed

    calls : Calls
    calls = calls_for h n a.edits

refused-has : (P : Line → Type 0) (D : List Disk → Type 0) (ds : List Disk) (number n : ℕ) → OfNode P D ds number n
    → D ds → (reason : Reason) → Has P D (refused_step ds number n reason)
refused-has P D ds number n k d reason = ((k.lines.told.refuse Rattle.zb_model.specs.Data.Place.AtEvent reason, tt), d)

task-has : (P : Line → Type 0) (D : List Disk → Type 0) (tools : Tools) (w : Schedule) (h : List Line)
    (ds : List Disk) (number n : ℕ) → OfNode P D ds number n → D ds → (task : Task)
    → Has P D (task_step tools counting_of w h ds number n task)
unfolding task_step
task-has P D tools w h ds number n k d task =
    either (Has P D) (is_up h n) (answer_step h ds number n a) (refused_step ds number n Down)
    (answer-has P D h ds number n k d a) (refused-has P D ds number n k d Down)
  where
    a : Answer
    a = answer_by tools (setting_of w n) (state_of h n)
        (counting_of (setting_of w n) (state_of h n) (plan_of tools (setting_of w n) (state_of h n) task))
        (plan_of tools (setting_of w n) (state_of h n) task)

deliver-has : (P : Line → Type 0) (D : List Disk → Type 0) (tools : Tools) (w : Schedule) (h : List Line)
    (ds : List Disk) (number n : ℕ) → OfNode P D ds number n → D ds → (o : Option Bytes)
    → Has P D (deliver_step tools counting_of w h ds number n o)
deliver-has P D tools w h ds number n k d None = refused-has P D ds number n k d (cond (is_up h n) NoFrame Down)
deliver-has P D tools w h ds number n k d (Some bytes) =
    task-has P D tools w h ds number n k d (Received bytes (supply w h))

boot-has : (P : Line → Type 0) (D : List Disk → Type 0) (ds : List Disk) (number n : ℕ) → OfNode P D ds number n
    → Has P D (boot_step ds number n)
boot-has P D ds number n k =
    either (Has P D) (falls before.armed calls)
    (record {
      lines = fallen_line before.armed number n;
      disks = with_disk ds n (record { armed = NotArmed; both_open = leaves_both before.armed calls });
    })
    (record
    { lines = Boot number n ∷ []; disks = with_disk ds n (record { armed = before.armed; both_open = false }) }) (
      fallen-all P number n k.lines.stopped k.lines.failed before.armed,
      k.disks (record { armed = NotArmed; both_open = leaves_both before.armed calls }),
    )
    ((k.lines.boot, tt), k.disks (record { armed = before.armed; both_open = false }))
  where
    before : DiskState
    before = disk_of ds n

    calls : Calls
    calls = BootCalls before.both_open

pub step-has : (P : Line → Type 0) (D : List Disk → Type 0) (tools : Tools) (w : Schedule) (h : List Line)
    (ds : List Disk) (number : ℕ) (act : Event) → Asked P D ds number act → D ds
    → Has P D (step tools w h ds number act)
unfolding step step_by forged_net forged_both forged_open
step-has P D tools w h ds number (Own n task) k d = task-has P D tools w h ds number n k d task
step-has P D tools w h ds number (RollOver n) k d = task-has P D tools w h ds number n k d (DoRoll (supply w h))
step-has P D tools w h ds number (Deliver frame n) k d = deliver-has P D tools w h ds number n k d (frame_at h frame)
step-has P D tools w h ds number (Reset n) k d =
    either (Has P D) (is_up h n) (record { lines = DownReset number n ∷ []; disks = ds })
    (refused_step ds number n Down) ((k.lines.reset, tt), d) (refused-has P D ds number n k d Down)
step-has P D tools w h ds number (PowerOn n) k d =
    either (Has P D) (is_up h n) (refused_step ds number n WrongState) (boot_step ds number n)
    (refused-has P D ds number n k d WrongState) (boot-has P D ds number n k)
step-has P D tools w h ds number (ShowRecord n) k d =
    ((k.lines.dump (Rattle.zb_model.specs.Record.record_of (state_of h n)), tt), d)
step-has P D tools w h ds number (ArmStop n calls torn) k d =
    (tt, k.disks (record { armed = StopAfter calls torn; both_open = (disk_of ds n).both_open }))
step-has P D tools w h ds number (ArmFail n call) k d =
    (tt, k.disks (record { armed = FailAt call; both_open = (disk_of ds n).both_open }))
step-has P D tools w h ds number (InjectBytes bytes) k d = ((k.inject (length (air h) + 1) bytes, tt), d)
step-has P D tools w h ds number (ForgeNet to from source key sequence counter content) k d =
    ((k.forge _, (k.send None (length (air h) + 1) _, tt)), d)
step-has P D tools w h ds number (ForgeNetAps to from source key sequence counter label base aps_counter command) k
    d = ((k.forge _, (k.forge _, (k.send None (length (air h) + 1) _, tt))), d)
step-has P D tools w h ds number (ForgeOpen to from source label base aps_counter command) k d =
    ((k.forge _, (k.send None (length (air h) + 1) _, tt)), d)

-- The start lines

pub record OfStart (P : Line → Type 0) : Type 0 where
  pub declared : (p : Station) → P (Declared p)
  pub net : (n : ℕ) (key : Bytes) (sequence : ℕ) → P (GivenNet n key sequence)
  pub link : (n partner : ℕ) (key : Bytes) → P (GivenLink n partner key)
  pub counter : (n : ℕ) (layer : Layer) (limit : ℕ) → P (Counter n layer limit)

flat-all : {X : Type 0} (P : Line → Type 0) (f : X → List Line) → ((x : X) → AllByRecursion P (f x)) → (xs : List X)
    → AllByRecursion P (flat_map f xs)
flat-all P f k [] = tt
flat-all P f k (x ∷ xs) = all-append P (f x) (flat_map f xs) (k x) (flat-all P f k xs)

net-all : (P : Line → Type 0) → OfStart P → (n : ℕ) (o : Option (Bytes × ℕ)) → AllByRecursion P (net_line n o)
net-all P k n None = tt
net-all P k n (Some g) = (k.net n g.0 g.1, tt)

link-all : (P : Line → Type 0) → OfStart P → (c n : ℕ) (o : Option Bytes) → AllByRecursion P (link_line c n o)
link-all P k c n None = tt
link-all P k c n (Some key) = (k.link n c key, tt)

limit-by : (P : Line → Type 0) → OfStart P → (n : ℕ) (layer : Layer) (v : ℕ) (b : Bool)
    → AllByRecursion P (cond b [] (Counter n layer v ∷ []))
limit-by P k n layer v true = tt
limit-by P k n layer v false = (k.counter n layer v, tt)

pub start-all : (P : Line → Type 0) → OfStart P → (w : Schedule) → AllByRecursion P (start w)
unfolding start
start-all P k w =
    all-append P (map Declared (stations w)) (nets ++ (links ++ limits)) (map-all P Declared k.declared (stations w))
    (all-append P nets (links ++ limits)
    (flat-all P (λ (m : Node). net_line m.station.eui m.network) (λ m. net-all P k m.station.eui m.network)
    w.nodes)
    (all-append P links limits
    (flat-all P (λ (m : Node). link_line (centre_of (stations w)) m.station.eui m.code)
    (λ m. link-all P k (centre_of (stations w)) m.station.eui m.code) w.nodes)
    (flat-all P (λ (m : Node). limit_line m.station.eui Nwk m.start_nwk ++ limit_line m.station.eui Aps m.start_aps)
    (λ m. all-append P (limit_line m.station.eui Nwk m.start_nwk) (limit_line m.station.eui Aps m.start_aps)
    (limit-by P k m.station.eui Nwk m.start_nwk (nat_eq m.start_nwk 0))
    (limit-by P k m.station.eui Aps m.start_aps (nat_eq m.start_aps 0))) w.nodes)))
  where
    nets : List Line
    nets = flat_map (λ (m : Node). net_line m.station.eui m.network) w.nodes

    links : List Line
    links = flat_map (λ (m : Node). link_line (centre_of (stations w)) m.station.eui m.code) w.nodes

    limits : List Line
    limits =
        flat_map (λ (m : Node). limit_line m.station.eui Nwk m.start_nwk ++ limit_line m.station.eui Aps m.start_aps)
        w.nodes
