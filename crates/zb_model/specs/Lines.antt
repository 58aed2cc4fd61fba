-- The lines of a transcript. A line's node is its EUI, or `nobody` if a line of a foreign transcript names a node that
-- it never declared; the text shows the name from the node's own line.
use Rattle.std.specs.Prelude.{ℕ, Bool, Option}
use Rattle.zb_model.specs.Data.{Bytes, Layer, Station, Term, Edit, Place, Reason}

pub data Line : Type 0 where
  -- the start: a node, a network key and a link key that it holds, a stored outgoing limit that isn't 0
  Declared : (station : Station) → Line
  GivenNet : (node : ℕ) (key : Bytes) (sequence : ℕ) → Line
  GivenLink : (node : ℕ) (partner : ℕ) (key : Bytes) → Line
  Counter : (node : ℕ) (layer : Layer) (limit : ℕ) → Line
  -- a change of the node's stable state. The text of some changes at the centre doesn't show the node.
  Changed : (event : ℕ) (node : ℕ) (edit : Edit) → Line
  -- the changes before it in its group are stored
  Commit : (event : ℕ) (node : ℕ) → Line
  Accept : (event : ℕ) (node : ℕ) (term : Term) → Line
  Refuse : (event : ℕ) (node : ℕ) (place : Place) (reason : Reason) → Line
  Seal : (event : ℕ) (node : ℕ) (term : Term) → Line
  -- a frame that an outsider made with keys that it knows
  Forge : (event : ℕ) (term : Term) → Line
  -- a frame went on the air, sent by a node, or by an outsider that forged it (None)
  Send : (event : ℕ) (node : Option ℕ) (frame : ℕ) (bytes : Bytes) → Line
  Inject : (event : ℕ) (frame : ℕ) (bytes : Bytes) → Line
  -- power and disk
  Stopped : (event : ℕ) (node : ℕ) → Line
  DownReset : (event : ℕ) (node : ℕ) → Line
  DownDisk : (event : ℕ) (node : ℕ) → Line
  Boot : (event : ℕ) (node : ℕ) → Line
  -- the record that the node's disk represents
  Dump : (event : ℕ) (node : ℕ) (bytes : Bytes) → Line
  -- how many events, seal lines, accept lines and refuse lines; whether all that was accepted was sealed or forged
  -- before, and whether outsiders forged only with what outsiders know
  End : (events : ℕ) (seals : ℕ) (accepts : ℕ) (refusals : ℕ) (ideal : Bool) (private : Bool) → Line
