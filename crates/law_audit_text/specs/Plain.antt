-- A line whose name leaves no room unused: what is after the end of a name, in its room, is left out.
use Rattle.std.specs.Prelude.{List, map}
use Rattle.arrayvec.specs.ArrayString.{ArrayString}
use Rattle.zb_trace.specs.declared.line.Line.{Line}
use Rattle.zb_trace.specs.declared.line.Line.TheVariants as line
use Rattle.zb_trace_model.specs.Said.{name_in}

abbrev pub bare : ArrayString → ArrayString
bare name = name_in name.bytes

-- the line with this plain name; a line without a name is the same
abbrev pub plain : Line → Line
plain (line.Node name r eui short out_block in_block) = line.Node (bare name) r eui short out_block in_block
plain (line.GivenNet node key sequence) = line.GivenNet (bare node) key sequence
plain (line.GivenLink node partner key) = line.GivenLink (bare node) partner key
plain (line.Counter node l limit) = line.Counter (bare node) l limit
plain (line.Reserve event node l limit) = line.Reserve event (bare node) l limit
plain (line.Floor event node l key sender value) = line.Floor event (bare node) l key sender value
plain (line.DropNet event node key) = line.DropNet event (bare node) key
plain (line.DropLink event node partner key) = line.DropLink event (bare node) partner key
plain (line.Install event node key sequence) = line.Install event (bare node) key sequence
plain (line.Active event node key) = line.Active event (bare node) key
plain (line.Start event node key value) = line.Start event (bare node) key value
plain (line.Row event node partner key a) = line.Row event (bare node) partner key a
plain (line.Pair event node first second key) = line.Pair event (bare node) first second key
plain (line.State event node s) = line.State event (bare node) s
plain (line.Roll event node r) = line.Roll event (bare node) r
plain (line.Commit event node) = line.Commit event (bare node)
plain (line.Accept event node t) = line.Accept event (bare node) t
plain (line.Refuse event node r) = line.Refuse event (bare node) r
plain (line.Seal event node t) = line.Seal event (bare node) t
plain (line.Send event node frame bytes) = line.Send event (bare node) frame bytes
plain (line.Stopped event node) = line.Stopped event (bare node)
plain (line.DownReset event node) = line.DownReset event (bare node)
plain (line.DownDisk event node) = line.DownDisk event (bare node)
plain (line.Boot event node) = line.Boot event (bare node)
plain (line.Dump event node bytes) = line.Dump event (bare node) bytes
plain l = l

abbrev pub plains : List Line → List Line
plains lines = map plain lines
