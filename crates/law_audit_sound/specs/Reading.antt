-- What the audit reads from the printed lines of whole groups is what the states of their nodes say.
use Rattle.std.specs.Prelude.{ℕ, ◌≡◌, ◌+◌, true, List, [], ◌∷◌, ◌++◌}
use Rattle.zb_audit_names.specs.Groups.{flat}
use Rattle.law_audit_groups.specs.Printing.{all_printed}
use Rattle.zb_model.specs.Data.{Bytes, Layer, Station}
use Rattle.zb_model.specs.Lines as log
use Rattle.zb_model.specs.Play.{Schedule, Disk, Event, start, stations, step}
use Rattle.zb_model.specs.Readings.{is_up, state_of}
use Rattle.zb_model.specs.Schedules.{Names}
use Rattle.zb_model.specs.State.{next_counter, stored_limit}
use Rattle.zb_model.specs.Tools.{Tools}
use Rattle.law_run_readings.specs.Agreeing.{floor_at}
use Rattle.law_run_readings.specs.LastLines as said
use Rattle.zb_model_real.specs.Terms.{layer_of}
use Rattle.zb_audit_counters.specs.Readings as read
use Rattle.zb_trace_model.specs.Naming.{name_of}

-- What is read of a node after these groups is what its state says; its next counters only if it has power.
pub record Reads (known : List Station) (before : List (List log.Line)) (n : ℕ) : Type 0 where
  pub active_is : read.active (flat (all_printed known before)) (name_of known n)
      ≡ (state_of (said.flat before) n).active
  pub limits : (layer : Layer) → read.limit (all_printed known before) (name_of known n) (layer_of layer)
      ≡ stored_limit layer (state_of (said.flat before) n)
  pub nexts : is_up (said.flat before) n ≡ true → (layer : Layer)
      → read.next (all_printed known before) (name_of known n) (layer_of layer)
      ≡ next_counter layer (state_of (said.flat before) n)
  pub floors : (layer : Layer) (key : Bytes) (sender : ℕ)
      → read.stored (flat (all_printed known before)) (name_of known n) (layer_of layer) key sender
      ≡ floor_at layer key sender (state_of (said.flat before) n)

abbrev pub AllRead : Schedule → List (List log.Line) → Type 0
AllRead w before = (n : ℕ) → Names w n → Reads (stations w) before n

-- before each of these events and after the last one, for each declared node
abbrev pub ReadFrom : Tools → Schedule → List (List log.Line) → List Disk → ℕ → List Event → Type 0
ReadFrom tools w before disks number [] = AllRead w before
ReadFrom tools w before disks number (event ∷ events) =
    let g = step tools w (said.flat before) disks number event in
    AllRead w before × ReadFrom tools w (before ++ g.lines ∷ []) g.disks (number + 1) events

abbrev pub RunReads : Tools → Schedule → Type 0
RunReads tools w = ReadFrom tools w (start w ∷ []) [] 1 w.events
