-- Whole runs: each line of a transcript fits.
use Rattle.std.proofs.Common.{◌≡◌, ℕ, ◌<◌, ◌+◌, ◌^◌, Bool, true, false, cond, List, [], ◌∷◌, ◌++◌, map, length, Option, Some, None, option_map, find, is_some, nat_eq, flat_map, refl, ap, ◌∙◌, subst, eqb-true, le_refl}
use Rattle.std.proofs.lemmas.Bool.{false≢true}
use Rattle.std.specs.List.{AllByRecursion}
use Rattle.zb_model.specs.Data.{Bytes, Layer, Nwk, Aps, Station, Task, Received, DoRoll, Reason, Down, WrongState}
use Rattle.zb_model.specs.Lines.{Line, Declared, Counter, Boot, DownReset}
use Rattle.zb_model.specs.Tools.{Tools}
use Rattle.zb_model.specs.Rules.{Setting, Plan, centre_of, is_declared, station_of}
use Rattle.zb_model.specs.Answer.{Answer, answer_by, plan_of, counting_of}
use Rattle.zb_model.specs.Readings.{state_of, is_up}
use Rattle.zb_model.specs.Play.{Schedule, Node, Event, Own, RollOver, Deliver, Reset, PowerOn, ShowRecord, ArmStop, ArmFail, InjectBytes, ForgeNet, ForgeNetAps, ForgeOpen, Step, Disk, stations, setting_of, station_or, without_blocks, net_line, link_line, limit_line, start, disk_of, with_disk, falls, calls_for, leaves_both, BootCalls, group_of, cut_of, fallen_line, answer_step, boot_step, refused_step, answer_counted, task_step, deliver_step, frame_at, supply, forged, forged_net, forged_both, forged_open, step_by, step, groups}
use Rattle.zb_model.specs.Schedules.{IsMember, Names, NamesNode, IsSchedule}
use Rattle.zb_model.specs.Transcript.{run_lines, transcript, end_line}
use Rattle.zb_model.specs.Claims.{Each, Fresh, sealed_terms}
use Rattle.law_run.proofs.Basics.{each-append, find-map}
use Rattle.law_run.proofs.Counters.{LineFits, Commanded}
use Rattle.law_run.proofs.FreshLines.{all-append, Inv, inv-lines}
use Rattle.law_run.proofs.Groups.{NoSeal, plain}
use Rattle.law_run.proofs.GroupSeals.{group-fits, cut-plain, fallen-plain}

-- A declared node is found with its EUI.

abbrev pub FoundIs : {X : Type 0} → (X → Type 0) → Option X → Type 0
FoundIs P None = Unit {0}
FoundIs P (Some x) = P x

pub found-is : {X : Type 0} (P : X → Type 0) (test : X → Bool) (xs : List X) → AllByRecursion P xs
    → FoundIs (λ x. P x × (test x ≡ true)) (find test xs)
found-is P test [] a = tt
found-is P test (x ∷ xs) a = first P test x (find test xs) (test x) refl a.0 (found-is P test xs a.1)
  where
    first : {X : Type 0} (P : X → Type 0) (test : X → Bool) (x : X) (o : Option X) (b : Bool) → test x ≡ b → P x
        → FoundIs (λ x. P x × (test x ≡ true)) o → FoundIs (λ x. P x × (test x ≡ true)) (cond b (Some x) o)
    first P test x o true e p r = (p, e)
    first P test x o false e p r = r

pub record IsStation (p : Station) : Type 0 where
  pub eui : p.eui < 2 ^ 64
  pub out_block : 0 < p.out_block
  pub in_block : 0 < p.in_block

pub are-stations : (ms : List Node) → AllByRecursion IsMember ms
    → AllByRecursion IsStation (map (λ (m : Node). m.station) ms)
are-stations [] a = tt
are-stations (m ∷ ms) a =
    (record { eui = a.0.eui; out_block = a.0.out_block; in_block = a.0.in_block }, are-stations ms a.1)

pub record Me (c : Setting) (n : ℕ) : Type 0 where
  pub mine : c.me.eui ≡ n
  pub eui : n < 2 ^ 64
  pub out_block : 0 < c.me.out_block
  pub in_block : 0 < c.me.in_block

me-by : (ps : List Station) (n : ℕ) (o : Option Station) → is_some o ≡ true
    → FoundIs (λ p. IsStation p × (nat_eq p.eui n ≡ true)) o → Me (record { me = station_or o; stations = ps }) n
me-by ps n None e f = absurd (false≢true e)
me-by ps n (Some p) e f =
    record {
      mine = eqb-true p.eui n f.1;
      eui = subst (λ k. k < 2 ^ 64) (eqb-true p.eui n f.1) f.0.eui;
      out_block = f.0.out_block;
      in_block = f.0.in_block;
    }

pub me-of : (w : Schedule) → IsSchedule w → (n : ℕ) → Names w n → Me (setting_of w n) n
unfolding setting_of station_of
me-of w i n named = me-by (map without_blocks (stations w)) n (station_of (stations w) n) named
    (found-is IsStation (λ p. nat_eq p.eui n) (stations w) (are-stations w.nodes i.nodes))

-- Others are known as they are declared, except their blocks.

pub some-map : {X Y : Type 0} (f : X → Y) (o : Option X) → is_some (option_map f o) ≡ is_some o
some-map f None = refl
some-map f (Some x) = refl

pub hidden-station : (ps : List Station) (n : ℕ) → station_of (map without_blocks ps) n
    ≡ option_map without_blocks (station_of ps n)
unfolding station_of
hidden-station ps n = find-map (λ (p : Station). nat_eq p.eui n) without_blocks (λ p. refl) ps

pub hidden-declared : (w : Schedule) (n d : ℕ) → is_declared (setting_of w n) d ≡ is_some (station_of (stations w) d)
unfolding setting_of
hidden-declared w n d = ap is_some (hidden-station (stations w) d) ∙ some-map without_blocks
    (station_of (stations w) d)

-- The lines of a step

either : (P : List Line → Type 0) (b : Bool) (x y : Step) → P x.lines → P y.lines → P (cond b x y).lines
either P true x y p q = p
either P false x y p q = q

abbrev Fit : List Line → List Line → Type 0
Fit h ls = Each LineFits h ls

answer-fits : (tools : Tools) (c : Setting) (h : List Line) (disks : List Disk) (number n : ℕ) (p : Plan) → Me c n
    → Commanded (state_of h n)
    → Fit h (answer_step h disks number n (answer_by tools c (state_of h n) (counting_of c (state_of h n) p) p)).lines
answer-fits tools c h disks number n p m o =
    either (Fit h) (falls (disk_of disks n).armed (calls_for h n a.edits)) cut whole
    (plain h cut.lines (cut-plain (disk_of disks n).armed (calls_for h n a.edits) number n a))
    (group-fits tools c h h number n p m.mine m.eui m.out_block o)
  where
    a : Answer
    a = answer_by tools c (state_of h n) (counting_of c (state_of h n) p) p

    cut : Step
    cut = record {
      lines = cut_of (disk_of disks n).armed (calls_for h n a.edits) number n a;
      disks =
          with_disk disks n
          (record {
            armed = Rattle.zb_model.specs.Play.Armed.NotArmed;
            both_open = leaves_both (disk_of disks n).armed
                (calls_for h n a.edits);
          });
    }

    whole : Step
    whole = record { lines = group_of h number n a; disks = disks }

refused-fits : (h : List Line) (disks : List Disk) (number n : ℕ) (reason : Reason)
    → Fit h (refused_step disks number n reason).lines
refused-fits h disks number n reason = (tt, tt)

task-fits : (tools : Tools) (w : Schedule) → IsSchedule w → (h : List Line) (disks : List Disk) (number n : ℕ)
    (task : Task) → Names w n → Commanded (state_of h n)
    → Fit h (task_step tools counting_of w h disks number n task).lines
unfolding task_step
task-fits tools w i h disks number n task named o =
    either (Fit h) (is_up h n)
    (answer_step h disks number n (answer_counted tools counting_of (setting_of w n) (state_of h n) p))
    (refused_step disks number n Down)
    (answer-fits tools (setting_of w n) h disks number n p (me-of w i n named) o) (refused-fits h disks number n Down)
  where
    p : Plan
    p = plan_of tools (setting_of w n) (state_of h n) task

deliver-fits : (tools : Tools) (w : Schedule) → IsSchedule w → (h : List Line) (disks : List Disk) (number n : ℕ)
    (o : Option Bytes) → Names w n → Commanded (state_of h n)
    → Fit h (deliver_step tools counting_of w h disks number n o).lines
deliver-fits tools w i h disks number n None named commanded = (tt, tt)
deliver-fits tools w i h disks number n (Some bytes) named commanded =
    task-fits tools w i h disks number n (Received bytes (supply w h)) named commanded

fallen-fits : (h : List Line) (armed : Rattle.zb_model.specs.Play.Armed) (number n : ℕ)
    → Fit h (fallen_line armed number n)
fallen-fits h armed number n = plain h (fallen_line armed number n) (fallen-plain armed number n)

boot-fits : (h : List Line) (disks : List Disk) (number n : ℕ) → Fit h (boot_step disks number n).lines
boot-fits h disks number n =
    either (Fit h) (falls (disk_of disks n).armed (BootCalls (disk_of disks n).both_open))
    (record {
      lines = fallen_line (disk_of disks n).armed number n;
      disks =
          with_disk disks n
          (record {
            armed = Rattle.zb_model.specs.Play.Armed.NotArmed;
            both_open = leaves_both (disk_of disks n).armed
                (BootCalls (disk_of disks n).both_open);
          });
    })
    (record {
      lines = Boot number n
          ∷ [];
      disks = with_disk disks n (record { armed = (disk_of disks n).armed; both_open = false });
    })
    (fallen-fits h (disk_of disks n).armed number n) (tt, tt)

pub step-fits : (tools : Tools) (w : Schedule) → IsSchedule w → (h : List Line) (disks : List Disk) (number : ℕ)
    (event : Event) → NamesNode w event → ((n : ℕ) → Commanded (state_of h n))
    → Fit h (step tools w h disks number event).lines
unfolding step step_by forged_net forged_both forged_open
step-fits tools w i h disks number (Own n task) named o = task-fits tools w i h disks number n task named (o n)
step-fits tools w i h disks number (RollOver n) named o = task-fits tools w i h disks number n (DoRoll (supply w h))
    named (o n)
step-fits tools w i h disks number (Deliver frame n) named o =
    deliver-fits tools w i h disks number n (frame_at h frame) named (o n)
step-fits tools w i h disks number (Reset n) named o =
    either (Fit h) (is_up h n) (record { lines = DownReset number n ∷ []; disks = disks })
    (refused_step disks number n Down) (tt, tt) (tt, tt)
step-fits tools w i h disks number (PowerOn n) named o =
    either (Fit h) (is_up h n) (refused_step disks number n WrongState) (boot_step disks number n) (tt, tt)
    (boot-fits h disks number n)
step-fits tools w i h disks number (ShowRecord n) named o = (tt, tt)
step-fits tools w i h disks number (ArmStop n calls torn) named o = tt
step-fits tools w i h disks number (ArmFail n call) named o = tt
step-fits tools w i h disks number (InjectBytes bytes) named o = (tt, tt)
step-fits tools w i h disks number (ForgeNet to from source key sequence counter content) named o = (tt, (tt, tt))
step-fits tools w i h disks number (ForgeNetAps to from source key sequence counter label base aps_counter command)
    named o = (tt, (tt, (tt, tt)))
step-fits tools w i h disks number (ForgeOpen to from source label base aps_counter command) named o = (tt, (tt, tt))

pub groups-fit : (tools : Tools) (w : Schedule) → IsSchedule w → (h : List Line) (disks : List Disk) (number : ℕ)
    (events : List Event) → AllByRecursion (NamesNode w) events → Inv tools h
    → Fit h (groups tools w h disks number events)
unfolding groups
groups-fit tools w i h disks number [] named inv = tt
groups-fit tools w i h disks number (event ∷ events) named inv =
    each-append LineFits h (step tools w h disks number event).lines
    (groups tools w (h ++ (step tools w h disks number event).lines) (step tools w h disks number event).disks
    (number + 1) events)
    (fits inv)
    (groups-fit tools w i (h ++ (step tools w h disks number event).lines)
    (step tools w h disks number event).disks (number + 1) events named.1
    (inv-lines tools h (step tools w h disks number event).lines (fits inv) inv))
  where
    fits : Inv tools h → Fit h (step tools w h disks number event).lines
    fits inv = step-fits tools w i h disks number event named.0 inv.commanded

-- The start lines

declared-plain : (ps : List Station) → AllByRecursion NoSeal (map Declared ps)
unfolding NoSeal
declared-plain [] = tt
declared-plain (p ∷ ps) = (tt, declared-plain ps)

pub flat-plain : {X : Type 0} (f : X → List Line) → ((x : X) → AllByRecursion NoSeal (f x)) → (xs : List X)
    → AllByRecursion NoSeal (flat_map f xs)
flat-plain f k [] = tt
flat-plain f k (x ∷ xs) = all-append NoSeal (f x) (flat_map f xs) (k x) (flat-plain f k xs)

net-plain : (n : ℕ) (o : Option (Bytes × ℕ)) → AllByRecursion NoSeal (net_line n o)
unfolding NoSeal
net-plain n None = tt
net-plain n (Some g) = (tt, tt)

link-plain : (c n : ℕ) (o : Option Bytes) → AllByRecursion NoSeal (link_line c n o)
unfolding NoSeal
link-plain c n None = tt
link-plain c n (Some k) = (tt, tt)

limit-by : (n : ℕ) (layer : Layer) (v : ℕ) (b : Bool) → AllByRecursion NoSeal (cond b [] (Counter n layer v ∷ []))
unfolding NoSeal
limit-by n layer v true = tt
limit-by n layer v false = (tt, tt)

pub start-plain : (w : Schedule) → AllByRecursion NoSeal (start w)
unfolding start
start-plain w =
    all-append NoSeal (map Declared (stations w)) (nets ++ (links ++ limits)) (declared-plain (stations w))
    (all-append NoSeal nets (links ++ limits)
    (flat-plain (λ (m : Node). net_line m.station.eui m.network) (λ m. net-plain m.station.eui m.network) w.nodes)
    (all-append NoSeal links limits
    (flat-plain (λ (m : Node). link_line (centre_of (stations w)) m.station.eui m.code)
    (λ m. link-plain (centre_of (stations w)) m.station.eui m.code) w.nodes)
    (flat-plain (λ (m : Node). limit_line m.station.eui Nwk m.start_nwk ++ limit_line m.station.eui Aps m.start_aps)
    (λ m. all-append NoSeal (limit_line m.station.eui Nwk m.start_nwk) (limit_line m.station.eui Aps m.start_aps)
    (limit-by m.station.eui Nwk m.start_nwk (nat_eq m.start_nwk 0))
    (limit-by m.station.eui Aps m.start_aps (nat_eq m.start_aps 0))) w.nodes)))
  where
    nets : List Line
    nets = flat_map (λ (m : Node). net_line m.station.eui m.network) w.nodes

    links : List Line
    links = flat_map (λ (m : Node). link_line (centre_of (stations w)) m.station.eui m.code) w.nodes

    limits : List Line
    limits =
        flat_map (λ (m : Node). limit_line m.station.eui Nwk m.start_nwk ++ limit_line m.station.eui Aps m.start_aps)
        w.nodes

-- The law

new-ordered : (n : ℕ) → Commanded (state_of [] n)
unfolding state_of
new-ordered n = record { nets = λ key. tt; aps = le_refl 0 }

no-lines : (tools : Tools) → Inv tools []
unfolding sealed_terms
no-lines tools = record { commanded = new-ordered; below = tt; apart = tt }

pub start-inv : (tools : Tools) (w : Schedule) → Inv tools (start w)
start-inv tools w = inv-lines tools [] (start w) (plain [] (start w) (start-plain w)) (no-lines tools)

pub run-inv : (tools : Tools) (w : Schedule) → IsSchedule w → Inv tools (run_lines tools w)
unfolding run_lines
run-inv tools w i = inv-lines tools (start w) (groups tools w (start w) [] 1 w.events)
    (groups-fit tools w i (start w) [] 1 w.events i.events (start-inv tools w)) (start-inv tools w)

pub fresh : (tools : Tools) (w : Schedule) → IsSchedule w → Fresh tools (transcript tools w)
unfolding transcript end_line
fresh tools w i =
    (inv-lines tools (run_lines tools w) (end_line tools (length w.events) (run_lines tools w) ∷ []) (tt, tt)
    (run-inv tools w i)).apart
