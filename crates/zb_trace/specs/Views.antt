-- The lines of the program as lines of the model.
--
-- A line of the program names a node by its name, a line of the model by its EUI. The EUI is that of the first node
-- of that name that the lines before it declare, and `nobody` if there is none. Lines that only the centre gives, and
-- that don't show the node, are the centre's: the first declared node of that role.
use Rattle.std.specs.Prelude.{ℕ, List, find, bytes_eq, codes, Option, Some, None, if◌then◌else◌}
use Rattle.zb_node_types.specs.Changes.{model_layer, model_role, model_state, model_attribute, is_sending, model_place, reason}
use Rattle.zb_node_types.specs.Changes as changes
use Rattle.zb_model.specs.Data as model
use Rattle.zb_model.specs.Data.{Station, nobody}
use Rattle.zb_model.specs.Lines as log
use Rattle.zb_model.specs.State.{is_centre}
use Rattle.zb_model_real.specs.Terms.{model_term}
use Rattle.zb_trace.specs.declared.line.Line.{Line}
use Rattle.zb_trace.specs.declared.line.Line.TheVariants as line

abbrev pub eui_or_nobody : Option Station → ℕ
eui_or_nobody None = nobody
eui_or_nobody (Some station) = station.eui

-- The EUI of the first declared node of that name.
unfoldable pub named : List Station → List ℕ → ℕ
named stations name = eui_or_nobody (find (λ (s : Station). bytes_eq s.name name) stations)

-- The EUI of the first declared centre.
unfoldable pub the_centre : List Station → ℕ
the_centre stations = eui_or_nobody (find (λ (s : Station). is_centre s.role) stations)

-- The sender of a frame, if that isn't an outsider.
unfoldable pub sent_by : List Station → List ℕ → Option ℕ
sent_by stations name = if bytes_eq name (codes "-") then None else Some (named stations name)

-- A line after lines that declare these nodes.
abbrev pub logged : List Station → Line → log.Line
logged known (line.Node name r eui short out_block in_block) =
    log.Declared
    (record {
      name = name.bytes;
      eui = eui.0;
      short = short.0;
      role = model_role r;
      out_block = out_block;
      in_block = in_block;
    })
logged known (line.GivenNet node key sequence) = log.GivenNet (named known node.bytes) key.0 sequence
logged known (line.GivenLink node partner key) = log.GivenLink (named known node.bytes) partner.0 key.0
logged known (line.Counter node l limit) = log.Counter (named known node.bytes) (model_layer l) limit
logged known (line.Reserve event node l limit) = log.Changed event (named known node.bytes)
    (model.Reserve (model_layer l) limit)
logged known (line.Floor event node l key sender value) =
    log.Changed event (named known node.bytes) (model.Floor (model_layer l) key.0 sender.0 value)
logged known (line.Draw event key) = log.Changed event (the_centre known) (model.Moved (model.Draw key.0))
logged known (line.DropNet event node key) = log.Changed event (named known node.bytes)
    (model.Moved (model.DropNet key.0))
logged known (line.DropLink event node partner key) = log.Changed event (named known node.bytes)
    (model.Moved (model.DropLink partner.0 key.0))
logged known (line.Install event node key sequence) = log.Changed event (named known node.bytes)
    (model.Moved (model.Install key.0 sequence))
logged known (line.Active event node key) = log.Changed event (named known node.bytes)
    (model.Moved (model.Active key.0))
logged known (line.Start event node key value) = log.Changed event (named known node.bytes) (model.Start key.0 value)
logged known (line.Row event node partner key a) = log.Changed event (named known node.bytes)
    (model.Moved (model.Row partner.0 key.0 (model_attribute a)))
logged known (line.Pair event node first second key) =
    log.Changed event (named known node.bytes) (model.Moved (model.Pair first.0 second.0 key.0))
logged known (line.State event node s) = log.Changed event (named known node.bytes)
    (model.Moved (model.Became (model_state s)))
logged known (line.Live event device) = log.Changed event (the_centre known) (model.Moved (model.Live device.0))
logged known (line.Removed event device) = log.Changed event (the_centre known) (model.Moved (model.Removed device.0))
logged known (line.Roll event node r) = log.Changed event (named known node.bytes)
    (model.Moved (model.Roll (is_sending r)))
logged known (line.Told event device) = log.Changed event (the_centre known) (model.Moved (model.Told device.0))
logged known (line.Untold event device) = log.Changed event (the_centre known) (model.Moved (model.Untold device.0))
logged known (line.Commit event node) = log.Commit event (named known node.bytes)
logged known (line.Accept event node t) = log.Accept event (named known node.bytes) (model_term t)
logged known (line.Refuse event node r) = log.Refuse event (named known node.bytes) (model_place (changes.place_of r))
    (reason r)
logged known (line.Seal event node t) = log.Seal event (named known node.bytes) (model_term t)
logged known (line.Forge event t) = log.Forge event (model_term t)
logged known (line.Send event node frame bytes) = log.Send event (sent_by known node.bytes) frame bytes.items
logged known (line.Inject event frame bytes) = log.Inject event frame bytes.items
logged known (line.Stopped event node) = log.Stopped event (named known node.bytes)
logged known (line.DownReset event node) = log.DownReset event (named known node.bytes)
logged known (line.DownDisk event node) = log.DownDisk event (named known node.bytes)
logged known (line.Boot event node) = log.Boot event (named known node.bytes)
logged known (line.Dump event node bytes) = log.Dump event (named known node.bytes) bytes
logged known (line.End events seals accepts refusals ideal private) = log.End events seals accepts refusals ideal
    private
