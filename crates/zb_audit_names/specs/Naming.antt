-- Which node a name is in the lines of a transcript.
--
-- Names distinguish nodes: a name's address, role and blocks are those of the first `0 node` line of that name. The
-- centre is the first node that is declared as one. The lines before a line say which node it names.
use Rattle.std.specs.Prelude.{ℕ, ◌+◌, Bool, false, if◌then◌else◌, List, [], ◌∷◌, ◌++◌, fold, find, bytes_eq, nat_eq, Option, Some, None}
use Rattle.std.specs.Option.{option_map}
use Rattle.zb_model.specs.Data.{Bytes, Station}
use Rattle.zb_model.specs.State.{is_centre}
use Rattle.zb_node_types.specs.Changes.{model_role}
use Rattle.zb_trace.specs.declared.line.Line.{Line}
use Rattle.zb_trace.specs.declared.line.Line.TheVariants as line

-- The first declared node of that name.
unfoldable pub station_named : List Station → Bytes → Option Station
station_named known name = find (λ (s : Station). bytes_eq s.name name) known

-- One node more, if its name is new.
abbrev pub or_added : List Station → Station → Option Station → List Station
or_added known s None = known ++ s ∷ []
or_added known s (Some other) = known

unfoldable pub with_station : List Station → Station → List Station
with_station known s = or_added known s (station_named known s.name)

-- The declared nodes, in order: a `0 node` line adds one, if its name is new.
unfoldable pub declares : List Station → Line → List Station
declares known (line.Node name r eui short out_block in_block) =
    with_station known
    (record {
      name = name.bytes;
      eui = eui.0;
      short = short.0;
      role = model_role r;
      out_block = out_block;
      in_block = in_block;
    })
declares known _ = known

unfoldable pub declared_in : List Line → List Station
declared_in h = fold declares [] h

-- The address of a name.
unfoldable pub eui_of : List Station → Bytes → Option ℕ
eui_of known name = option_map (λ (s : Station). s.eui) (station_named known name)

-- The name of the first centre.
unfoldable pub centre_name : List Station → Option Bytes
centre_name known = option_map (λ (s : Station). s.name) (find (λ (s : Station). is_centre s.role) known)

abbrev pub is_name : Option Bytes → Bytes → Bool
is_name None name = false
is_name (Some other) name = bytes_eq other name

-- Whether the first centre is the node of this name.
unfoldable pub is_centres : List Station → Bytes → Bool
is_centres known name = is_name (centre_name known) name

-- Whether the node of this name has this address.
abbrev pub is_eui : Option ℕ → ℕ → Bool
is_eui None d = false
is_eui (Some eui) d = nat_eq eui d

unfoldable pub is_of : List Station → ℕ → Bytes → Bool
is_of known d name = is_eui (eui_of known name) d

-- The name of the node of a line; that of a frame's sender doesn't count.
unfoldable pub speaker : Line → Option Bytes
speaker (line.Node name r eui short out_block in_block) = Some name.bytes
speaker (line.GivenNet node key sequence) = Some node.bytes
speaker (line.GivenLink node partner key) = Some node.bytes
speaker (line.Counter node l limit) = Some node.bytes
speaker (line.Reserve event node l limit) = Some node.bytes
speaker (line.Floor event node l key sender value) = Some node.bytes
speaker (line.DropNet event node key) = Some node.bytes
speaker (line.DropLink event node partner key) = Some node.bytes
speaker (line.Install event node key sequence) = Some node.bytes
speaker (line.Active event node key) = Some node.bytes
speaker (line.Start event node key value) = Some node.bytes
speaker (line.Row event node partner key a) = Some node.bytes
speaker (line.Pair event node first second key) = Some node.bytes
speaker (line.State event node s) = Some node.bytes
speaker (line.Roll event node r) = Some node.bytes
speaker (line.Commit event node) = Some node.bytes
speaker (line.Accept event node t) = Some node.bytes
speaker (line.Refuse event node r) = Some node.bytes
speaker (line.Seal event node t) = Some node.bytes
speaker (line.Stopped event node) = Some node.bytes
speaker (line.DownReset event node) = Some node.bytes
speaker (line.DownDisk event node) = Some node.bytes
speaker (line.Boot event node) = Some node.bytes
speaker (line.Dump event node bytes) = Some node.bytes
speaker _ = None

-- The place of a name in a list of names: that of its first occurrence.
unfoldable pub place_in : List Bytes → Bytes → Option ℕ
place_in [] name = None
place_in (other ∷ names) name = if bytes_eq other name then Some 0
    else option_map (λ (n : ℕ). n + 1) (place_in names name)

-- The names in a list of lines, in the order of their first occurrences.
abbrev pub or_new : List Bytes → Bytes → Option ℕ → List Bytes
or_new names name None = names ++ name ∷ []
or_new names name (Some place) = names

unfoldable pub with_name : List Bytes → Bytes → List Bytes
with_name names name = or_new names name (place_in names name)

abbrev pub with_speaker : List Bytes → Option Bytes → List Bytes
with_speaker names None = names
with_speaker names (Some name) = with_name names name

unfoldable pub named_by : List Bytes → Line → List Bytes
named_by names l = with_speaker names (speaker l)

unfoldable pub names_in : List Line → List Bytes
names_in h = fold named_by [] h
