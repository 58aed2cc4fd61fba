-- The second claim: no receiver accepts a sender's counter twice under one key.
use Rattle.std.specs.Prelude.{Bool, true, false, not, ◌&&◌, List, bytes_eq, nat_eq, nat_le}
use Rattle.std.specs.List.{list_any}
use Rattle.zb_base.specs.declared.label.Layer.{Layer}
use Rattle.zb_base.specs.declared.label.Layer.TheVariants.{Nwk, Aps}
use Rattle.zb_model.specs.Data.{Bytes}
use Rattle.zb_seal.specs.declared.term.Term.{Term}
use Rattle.zb_trace.specs.declared.line.Line.{Line}
use Rattle.zb_trace.specs.declared.line.Line.TheVariants as line

abbrev pub same_layer : Layer → Layer → Bool
same_layer Nwk Nwk = true
same_layer Aps Aps = true
same_layer Nwk Aps = false
same_layer Aps Nwk = false

-- Whether two terms have one layer, base key and source.
unfoldable pub same_sender : Term → Term → Bool
same_sender t u = same_layer t.layer u.layer && (bytes_eq t.base.0 u.base.0 && nat_eq t.source.0 u.source.0)

-- Whether a line accepts, at the node of this name and from the sender of a term, a counter that isn't smaller.
unfoldable pub bars : Bytes → Term → Line → Bool
bars name t (line.Accept event node u) = bytes_eq node.bytes name && (same_sender t u && nat_le t.counter u.counter)
bars name t _ = false

-- Whether an accepted counter is greater than those that the node accepted before from the same sender under the same
-- key.
unfoldable pub is_later : List Line → Line → Bool
is_later h (line.Accept event node t) = not (list_any (bars node.bytes t) h)
is_later h _ = true
