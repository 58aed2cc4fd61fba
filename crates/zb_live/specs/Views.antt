-- What the program's lines say.
use Rattle.std.specs.Prelude.{Option}
use Rattle.std.specs.Option.{option_map}
use Rattle.zb_base.specs.declared.key.Key.{Key}
use Rattle.zb_live.specs.Said.{Bytes, Sentence, Quiet, Founds, Introduces, Logs, Opens, Happens, Asks}
use Rattle.zb_live.specs.declared.line.Line.{Line}
use Rattle.zb_live.specs.declared.line.Line.TheVariants as line
use Rattle.zb_script.specs.Resolving.{said_of}

-- the key that may be drawn
abbrev pub draw_bytes : Option Key → Option Bytes
draw_bytes draw = option_map (λ key. key.0) draw

abbrev pub sentence_of : Line → Sentence
sentence_of line.Blank = Quiet
sentence_of (line.Centre name eui out_block in_block) = Founds name.bytes eui.0 out_block in_block
sentence_of (line.Peer peer) = Introduces peer.name.bytes peer.role peer.eui.0 peer.short.0
sentence_of (line.Log log) = Logs log
sentence_of line.Open = Opens
sentence_of (line.Event event) = Happens (said_of event)
sentence_of (line.Show question) = Asks question
