-- What is told of a run so far, and what an event of a node adds.
use Rattle.std.specs.Prelude.{◌≡◌, ℕ, zero, suc, ◌+◌, ◌≤◌, ◌<◌, List, ◌++◌, true}
use Rattle.std.specs.Io.KnownBytes.{append_known}
use Rattle.zb_base.specs.Outside.{risen}
use Rattle.zb_disk.specs.Memory.{Medium}
use Rattle.zb_armed_host.specs.declared.fall.Fall.{Fall}
use Rattle.zb_armed_host.specs.declared.fall.Fall.TheVariants.{Stopped as stopped, Failed as failed}
use Rattle.zb_model.specs.Data.{AtEvent, Reason}
use Rattle.zb_model.specs.Lines.{Line, Stopped, DownDisk}
use Rattle.zb_model.specs.Play.{Schedule, setting_of, stations}
use Rattle.zb_model.specs.Readings.{stations_of}
use Rattle.zb_model.specs.State.{is_centre}
use Rattle.law_run_steps.specs.Conditions.{Condition}
use Rattle.law_run_steps.specs.Turns.{Turn}
use Rattle.zb_player_node.specs.Nodes.{IsIn}
use Rattle.zb_player_node.specs.Values.{NodeValue}
use Rattle.zb_node_types.specs.Changes.{model_place, place_of, reason}
use Rattle.zb_node_types.specs.declared.refusal.Refusal.{Refusal}
use Rattle.zb_player_events.specs.declared.ledger.Ledger.{Ledger}
use Rattle.zb_trace_model.specs.Naming.{IsCalled}
use Rattle.zb_trace_model.specs.Said.{IsLineOf, text_of}
use Rattle.zb_player_scribe.specs.Kept.{Kept, told}
use Rattle.zb_text.specs.Fields.{is_name}
use Rattle.zb_trace.specs.declared.line.Line.{Line as Printed}
use Rattle.zb_trace.specs.Views.{the_centre}
use Rattle.zb_base.specs.Sizes.{late_generation}

-- The most lines that an event adds.
abbrev pub most_event_lines : ℕ
most_event_lines = 24

-- how many lines were counted
abbrev pub lines_told : Ledger → ℕ
lines_told k = told k.transcript.scribe

-- How many lines may have been counted before an event. It is so far below the most that any event has room.
abbrev pub most_before_event : ℕ
most_before_event = 4294967000

abbrev pub HasRoom : Ledger → Type 0
HasRoom k = lines_told k ≤ most_before_event

-- The lines so far declare the nodes of the schedule, and the transcript's scribe has of them what a run needs.
pub record IsTold (w : Schedule) (h : List Line) (k : Ledger) : Type 0 where
  pub known : stations_of h ≡ stations w
  pub kept : Kept h k.transcript.scribe

-- Further lines were told: their text is after what stood on the page, where that is read.
pub record Adds (w : Schedule) (h lines : List Line) (old new : Ledger) : Type 0 where
  pub page : new.transcript.page ≡ append_known old.transcript.page (text_of (stations w) lines)
  pub told : IsTold w (h ++ lines) new

-- a refusal of the event itself, for this reason
abbrev pub IsRefusedFor : Reason → Refusal → Type 0
IsRefusedFor why refusal = (model_place (place_of refusal) ≡ AtEvent) × (reason refusal ≡ why)

-- the line of a node on whose call a stop or a failure fell
abbrev pub fall_line : Fall → ℕ → ℕ → Line
fall_line stopped event n = Stopped event n
fall_line failed event n = DownDisk event n

abbrev pub IsFallen : Printed → ℕ → List ℕ → Fall → Type 0
IsFallen line event name fall =
    (w : Schedule) (n : ℕ) → IsCalled (stations w) n name → IsLineOf (stations w) line (fall_line fall event n)

-- The node is the schedule's node of this EUI: its name leads there, and the centre is the schedule's centre.
pub record IsSeated (w : Schedule) (n : ℕ) (node : NodeValue) : Type 0 where
  pub called : IsCalled (stations w) n node.peer.name.bytes
  pub spelled : is_name node.peer.name.bytes ≡ true
  pub centre : is_centre (setting_of w n).me.role ≡ true → the_centre (stations w) ≡ n

-- Before an event of the node of this EUI, which is in this condition over its disk. The generations of the disk are
-- far from the last one.
pub record Before (w : Schedule) (h : List Line) (x : Condition) (latest n : ℕ) (k : Ledger) (node : NodeValue)
    (m : Medium) : Type 0 where
  pub told : IsTold w h k
  pub is_in : IsIn x latest node m
  pub setting : x.setting ≡ setting_of w n
  pub seat : IsSeated w n node
  pub few : latest < late_generation

-- the count of a disk's calls after more of them; it stops at 2^64 - 1
abbrev pub counted_on : ℕ → ℕ → ℕ
counted_on count zero = count
counted_on count (suc more) = risen count (suc more)

-- The disk made this number of device calls.
abbrev pub Calls : ℕ → Medium → Medium → Type 0
Calls made old new = new.calls ≡ counted_on old.calls made

-- The event's lines were told, and the node is in the condition that its turn leaves.
pub record Goes (w : Schedule) (t : Turn) (h : List Line) (latest : ℕ) (old new : Ledger) (node : NodeValue)
    (m : Medium) : Type 0 where
  pub adds : Adds w h t.lines old new
  pub is_in : IsIn t.left (latest + 1) node m
