-- A whole run: the group of lines that each event gives, with the stops and failures of disks that cut it, and the
-- transcript of a schedule.
use Rattle.std.specs.Prelude.{ℕ, ◌+◌, ◌-◌, ◌%◌, Bool, true, false, not, if◌then◌else◌, ◌&&◌, ◌||◌, List, [], ◌∷◌, ◌++◌, map, filter, find, length, slice_get, Option, Some, None, nat_eq, nat_lt, nat_le, flat_map}
use Rattle.zb_model.specs.Data.{Bytes, Role, Layer, Nwk, Aps, Label, Station, Term, Edit, Moved, Place, AtEvent, Reason, Down, NoFrame, WrongState, Task, SayTo, TellTo, DoKnock, DoRejoin, DoTimer, AskFor, HasChild, DoProvision, DoRemove, DoRoll, DoSwitch, DoAgain, DoShare, Received}
use Rattle.zb_model.specs.Lines.{Line, Declared, GivenNet, GivenLink, Counter, Changed, Commit, Accept, Refuse, Seal, Forge, Send, Inject, Stopped, DownReset, DownDisk, Boot, Dump}
use Rattle.zb_model.specs.Record.{record_of}
use Rattle.zb_model.specs.Tools.{Tools, LeaveShown, Leave, Other, NoCommand}
use Rattle.zb_model.specs.Frames.{plain_frame, secured_frame, leave_frame, nwk_header, nwk_term, aps_term, sealed_command}
use Rattle.zb_model.specs.Rules.{Setting, Plan, centre_of, station_of}
use Rattle.zb_model.specs.State.{NodeState}
use Rattle.zb_model.specs.Answer.{Answer, Counting, answer_by, plan_of, counting_of}
use Rattle.zb_model.specs.Readings.{state_of, is_up, air, draws_used, commits_of}

-- The schedule

-- A node with what it holds at the start: the link key of its install code, a network key with its sequence, and the
-- stored outgoing limits.
pub record Node : Type 0 where
  pub station : Station
  pub code : Option Bytes
  pub network : Option (Bytes × ℕ)
  pub start_nwk : ℕ
  pub start_aps : ℕ

-- An event. The first ones are of one node, the others come from outside.
pub data Event : Type 0 where
  -- what the node does itself
  Own : (node : ℕ) (task : Task) → Event
  RollOver : (node : ℕ) → Event
  -- the frame of this number comes to the node
  Deliver : (frame : ℕ) (node : ℕ) → Event
  -- what happens to the power and the disk of the node
  Reset : (node : ℕ) → Event
  PowerOn : (node : ℕ) → Event
  ShowRecord : (node : ℕ) → Event
  ArmStop : (node : ℕ) (calls : ℕ) (torn : Bytes) → Event
  ArmFail : (node : ℕ) (call : ℕ) → Event
  -- bytes are put on the air
  InjectBytes : (bytes : Bytes) → Event
  -- a NWK frame is forged under known keys
  ForgeNet : (to : ℕ) (from : ℕ) (source : ℕ) (key : Bytes) (sequence : ℕ) (counter : ℕ) (content : Bytes) → Event
  -- a NWK frame with an APS command sealed in it is forged in the same way
  ForgeNetAps : (to : ℕ) (from : ℕ) (source : ℕ) (key : Bytes) (sequence : ℕ) (counter : ℕ) (label : Label)
      (base : Bytes) (aps_counter : ℕ) (command : Bytes) → Event
  -- an unsecured NWK frame with an APS command sealed in it is forged in the same way
  ForgeOpen : (to : ℕ) (from : ℕ) (source : ℕ) (label : Label) (base : Bytes) (aps_counter : ℕ) (command : Bytes)
      → Event

pub record Schedule : Type 0 where
  pub nodes : List Node
  pub draws : List Bytes
  pub events : List Event

abbrev pub stations : Schedule → List Station
stations w = map (λ (m : Node). m.station) w.nodes

-- The start lines: the nodes, then their network keys, link keys and stored limits, each kind in the order of the
-- nodes.

abbrev pub net_line : ℕ → Option (Bytes × ℕ) → List Line
net_line n None = []
net_line n (Some given) = GivenNet n given.0 given.1 ∷ []

abbrev pub link_line : ℕ → ℕ → Option Bytes → List Line
link_line centre n None = []
link_line centre n (Some key) = GivenLink n centre key ∷ []

abbrev pub limit_line : ℕ → Layer → ℕ → List Line
limit_line n layer limit = if nat_eq limit 0 then [] else Counter n layer limit ∷ []

unfoldable pub start : Schedule → List Line
start w =
    map Declared (stations w)
    ++ (flat_map (λ (m : Node). net_line m.station.eui m.network) w.nodes
    ++ (flat_map (λ (m : Node). link_line (centre_of (stations w)) m.station.eui m.code) w.nodes
    ++ flat_map (λ (m : Node). limit_line m.station.eui Nwk m.start_nwk ++ limit_line m.station.eui Aps m.start_aps)
    w.nodes))

-- The disks: what is armed, and whether both slots of the store are open. A node's entry is added when it is needed.

pub data Armed : Type 0 where
  NotArmed : Armed
  StopAfter : (calls : ℕ) (torn : Bytes) → Armed
  FailAt : (call : ℕ) → Armed

pub record DiskState : Type 0 where
  pub armed : Armed
  pub both_open : Bool

pub record Disk : Type 0 where
  pub owner : ℕ
  pub state : DiskState

abbrev pub new_disk : DiskState
new_disk = record { armed = NotArmed; both_open = false }

abbrev pub state_or : Option Disk → DiskState
state_or None = new_disk
state_or (Some d) = d.state

unfoldable pub disk_of : List Disk → ℕ → DiskState
disk_of disks n = state_or (find (λ (d : Disk). nat_eq d.owner n) disks)

unfoldable pub with_disk : List Disk → ℕ → DiskState → List Disk
with_disk disks n state = record { owner = n; state = state } ∷ filter (λ (d : Disk). not (nat_eq d.owner n)) disks

-- The device calls of a commit: an entry of the journal makes four, and each 33rd commit writes the whole record, in
-- six. A boot makes three if two slots are open, else one.
pub data Calls : Type 0 where
  NoCalls : Calls
  EntryCalls : Calls
  RecordCalls : Calls
  BootCalls : (both_open : Bool) → Calls

abbrev pub count_of : Calls → ℕ
count_of NoCalls = 0
count_of EntryCalls = 4
count_of RecordCalls = 6
count_of (BootCalls both) = if both then 3 else 1

-- After this number of commits a node writes its whole record again: 32 entries, and the record.
abbrev pub commits_of_record : ℕ
commits_of_record = 33

abbrev pub commit_calls : ℕ → Calls
commit_calls commits = if nat_eq ((commits + 1) % commits_of_record) 0 then RecordCalls else EntryCalls

-- An armed stop falls on the first event with more than its calls, an armed failure on the first with as many.
abbrev pub falls : Armed → Calls → Bool
falls NotArmed calls = false
falls (StopAfter n torn) calls = nat_lt n (count_of calls)
falls (FailAt n) calls = nat_le n (count_of calls)

-- A gate that was written and not synced reads as open if there are no torn bytes, or if they begin with A5.
abbrev pub is_gate : Bytes → Bool
is_gate [] = false
is_gate (b ∷ bytes) = nat_eq b 0xa5

abbrev pub gate_opens : Bytes → Bool
gate_opens [] = true
gate_opens (b ∷ bytes) = nat_eq b 0xa5

-- Whether the commit that is cut remains stored. An entry remains from call 3 on, which opens its gate, if that gate
-- reads as open after a stop, or after a failure of call 4, the sync. A whole record likewise, and from call 4 on in
-- every case.
unfoldable pub stands : Armed → Calls → Bool
stands (StopAfter n torn) EntryCalls = nat_eq n 3 && gate_opens torn
stands (FailAt n) EntryCalls = nat_eq n 4
stands (StopAfter n torn) RecordCalls = (nat_eq n 3 && gate_opens torn) || nat_le 4 n
stands (FailAt n) RecordCalls = nat_le 4 n
stands _ _ = false

-- Whether two slots are open afterwards. After a whole record: until the old slot's gate is closed. After a boot: as
-- before, until the boot has closed the other gate.
unfoldable pub leaves_both : Armed → Calls → Bool
leaves_both (StopAfter n torn) RecordCalls = (nat_eq n 3 && gate_opens torn)
    || (nat_eq n 4 || (nat_eq n 5 && is_gate torn))
leaves_both (FailAt n) RecordCalls = nat_eq n 4 || nat_eq n 5
leaves_both (StopAfter n torn) (BootCalls both) = both && (nat_le n 1 || is_gate torn)
leaves_both (FailAt n) (BootCalls both) = both && nat_le n 2
leaves_both _ _ = false

abbrev pub fallen_line : Armed → ℕ → ℕ → List Line
fallen_line NotArmed number n = []
fallen_line (StopAfter calls torn) number n = Stopped number n ∷ []
fallen_line (FailAt call) number n = DownDisk number n ∷ []

-- One event: its lines, and the disks after it.
pub record Step : Type 0 where
  pub lines : List Line
  pub disks : List Disk

-- The lines of an answer, in their order: changes, commit, accepts, a refusal, seals, the frame. A group that is cut
-- has the first two alone.

abbrev pub change_lines : ℕ → ℕ → List Edit → List Line
change_lines number n edits = map (Changed number n) edits

abbrev pub commit_lines : ℕ → ℕ → List Edit → List Line
commit_lines number n [] = []
commit_lines number n (e ∷ es) = Commit number n ∷ []

abbrev pub refuse_lines : ℕ → ℕ → Place → Option Reason → List Line
refuse_lines number n place None = []
refuse_lines number n place (Some reason) = Refuse number n place reason ∷ []

abbrev pub send_lines : ℕ → Option ℕ → ℕ → Option Bytes → List Line
send_lines number n frame None = []
send_lines number n frame (Some bytes) = Send number n frame bytes ∷ []

unfoldable pub stored_lines : ℕ → ℕ → Answer → List Line
stored_lines number n a = change_lines number n a.edits ++ commit_lines number n a.edits

unfoldable pub told_lines : ℕ → ℕ → ℕ → Answer → List Line
told_lines number n frame a =
    map (Accept number n) a.accepts
    ++ (refuse_lines number n a.place a.refusal
    ++ (map (Seal number n) a.seals ++ send_lines number (Some n) frame a.frame))

abbrev pub calls_for : List Line → ℕ → List Edit → Calls
calls_for h n [] = NoCalls
calls_for h n (e ∷ es) = commit_calls (commits_of h n)

unfoldable pub group_of : List Line → ℕ → ℕ → Answer → List Line
group_of h number n a = stored_lines number n a ++ told_lines number n (length (air h) + 1) a

-- what remains of the group if a stop or a failure cuts its commit
unfoldable pub cut_of : Armed → Calls → ℕ → ℕ → Answer → List Line
cut_of armed calls number n a = (if stands armed calls then stored_lines number n a else [])
    ++ fallen_line armed number n

abbrev pub answer_step : List Line → List Disk → ℕ → ℕ → Answer → Step
answer_step h disks number n a =
    let d = disk_of disks n in
    let calls = calls_for h n a.edits in
    if falls d.armed calls
    then record {
      lines = cut_of d.armed calls number n a;
      disks = with_disk disks n (record { armed = NotArmed; both_open = leaves_both d.armed calls });
    }
    else record { lines = group_of h number n a; disks = disks }

abbrev pub boot_step : List Disk → ℕ → ℕ → Step
boot_step disks number n =
    let d = disk_of disks n in
    let calls = BootCalls d.both_open in
    if falls d.armed calls
    then record {
      lines = fallen_line d.armed number n;
      disks = with_disk disks n (record { armed = NotArmed; both_open = leaves_both d.armed calls });
    }
    else record {
      lines = Boot number n
          ∷ [];
      disks = with_disk disks n (record { armed = d.armed; both_open = false });
    }

abbrev pub refused_step : List Disk → ℕ → ℕ → Reason → Step
refused_step disks number n reason = record { lines = Refuse number n AtEvent reason ∷ []; disks = disks }

-- The station that is used if a node isn't declared. It decides nothing in a run: a schedule's events are of declared
-- nodes.
abbrev pub no_station : Station
no_station =
    record {
      name = [];
      eui = Rattle.zb_model.specs.Data.nobody;
      short = 0xffff;
      role = Rattle.zb_model.specs.Data.Role.Device;
      out_block = 0;
      in_block = 0;
    }

abbrev pub station_or : Option Station → Station
station_or None = no_station
station_or (Some p) = p

-- what a node knows of another: name, EUI, short address and role; blocks it knows of itself alone
abbrev pub without_blocks : Station → Station
without_blocks p = record p { out_block = 0; in_block = 0 }

-- What a node of the schedule knows of the network: all about itself, and about each declared node what others know.
unfoldable pub setting_of : Schedule → ℕ → Setting
setting_of w n = record { me = station_or (station_of (stations w) n); stations = map without_blocks (stations w) }

-- the next key of the supply
unfoldable pub supply : Schedule → List Line → Option Bytes
supply w h = slice_get w.draws (draws_used h)

-- How the counters of an answer are chosen: `counting_of` in a transcript.
abbrev pub Counts : Type 0
Counts = Setting → NodeState → Plan → Counting

abbrev pub answer_counted : Tools → Counts → Setting → NodeState → Plan → Answer
answer_counted tools counts c s p = answer_by tools c s (counts c s p) p

unfoldable pub task_step : Tools → Counts → Schedule → List Line → List Disk → ℕ → ℕ → Task → Step
task_step tools counts w h disks number n task =
    if is_up h n
    then answer_step h disks number n
    (answer_counted tools counts (setting_of w n) (state_of h n)
    (plan_of tools (setting_of w n) (state_of h n) task))
    else refused_step disks number n Down

abbrev pub deliver_step : Tools → Counts → Schedule → List Line → List Disk → ℕ → ℕ → Option Bytes → Step
deliver_step tools counts w h disks number n None = refused_step disks number n (if is_up h n then NoFrame else Down)
deliver_step tools counts w h disks number n (Some bytes) = task_step tools counts w h disks number n
    (Received bytes (supply w h))

-- the frame of a number from 1
abbrev pub frame_at : List Line → ℕ → Option Bytes
frame_at h frame = if nat_eq frame 0 then None else slice_get (air h) (frame - 1)

-- Forged frames have the fields of a node's own frames; one whose content is a Leave is a NWK command.
abbrev pub forged_control : Tools → Bytes → ℕ
forged_control tools content = by_sight (tools.read_leave content)
  where
    by_sight : LeaveShown → ℕ
    by_sight (Leave options) = leave_frame
    by_sight Other = secured_frame
    by_sight NoCommand = secured_frame

abbrev pub forged : List Line → ℕ → List Term → Bytes → List Line
forged h number terms bytes = map (Forge number) terms ++ Send number None (length (air h) + 1) bytes ∷ []

unfoldable pub forged_net : Tools → List Line → ℕ → Term → List Line
forged_net tools h number t = forged h number (t ∷ []) (tools.wire t)

unfoldable pub forged_both : Tools → List Line → ℕ → Term → Term → List Line
forged_both tools h number inner t = forged h number (inner ∷ t ∷ []) (tools.wire t)

unfoldable pub forged_open : Tools → List Line → ℕ → ℕ → ℕ → Term → List Line
forged_open tools h number to from inner =
    forged h number (inner ∷ []) (nwk_header plain_frame to from 0 ++ tools.wire inner)

unfoldable pub step_by : Tools → Counts → Schedule → List Line → List Disk → ℕ → Event → Step
step_by tools counts w h disks number (Own n task) = task_step tools counts w h disks number n task
step_by tools counts w h disks number (RollOver n) = task_step tools counts w h disks number n (DoRoll (supply w h))
step_by tools counts w h disks number (Deliver frame n) = deliver_step tools counts w h disks number n
    (frame_at h frame)
step_by tools counts w h disks number (Reset n) =
    if is_up h n then record { lines = DownReset number n ∷ []; disks = disks } else refused_step disks number n Down
step_by tools counts w h disks number (PowerOn n) = if is_up h n then refused_step disks number n WrongState
    else boot_step disks number n
step_by tools counts w h disks number (ShowRecord n) =
    record { lines = Dump number n (record_of (state_of h n)) ∷ []; disks = disks }
step_by tools counts w h disks number (ArmStop n calls torn) =
    record {
      lines = [];
      disks = with_disk disks n (record { armed = StopAfter calls torn; both_open = (disk_of disks n).both_open });
    }
step_by tools counts w h disks number (ArmFail n call) =
    record {
      lines = [];
      disks = with_disk disks n (record { armed = FailAt call; both_open = (disk_of disks n).both_open });
    }
step_by tools counts w h disks number (InjectBytes bytes) =
    record { lines = Inject number (length (air h) + 1) bytes ∷ []; disks = disks }
step_by tools counts w h disks number (ForgeNet to from source key sequence counter content) =
    record {
      lines = forged_net tools h number
          (nwk_term (forged_control tools content) to from source key sequence counter content);
      disks = disks;
    }
step_by tools counts w h disks number
    (ForgeNetAps to from source key sequence counter label base aps_counter command) =
    let inner = aps_term sealed_command label base source aps_counter command in
    record {
      lines = forged_both tools h number inner
          (nwk_term secured_frame to from source key sequence counter (tools.wire inner));
      disks = disks;
    }
step_by tools counts w h disks number (ForgeOpen to from source label base aps_counter command) =
    record {
      lines = forged_open tools h number to from
          (aps_term sealed_command label base source aps_counter command);
      disks = disks;
    }

unfoldable pub step : Tools → Schedule → List Line → List Disk → ℕ → Event → Step
step tools w h disks number event = step_by tools counting_of w h disks number event

-- All groups of a schedule's events, from an event's number on.
unfoldable pub groups : Tools → Schedule → List Line → List Disk → ℕ → List Event → List Line
groups tools w h disks number [] = []
groups tools w h disks number (event ∷ events) =
    let g = step tools w h disks number event in
    g.lines ++ groups tools w (h ++ g.lines) g.disks (number + 1) events
