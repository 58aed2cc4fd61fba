-- What the program's peers, lines and scripts represent.
use Rattle.std.specs.Prelude.{ℕ, List, map}
use Rattle.zb_base.specs.declared.node.Peer.{Peer}
use Rattle.zb_script.specs.Said.{Sentence, Quiet, Founds, Introduces, Begins, Provisions, Removes, Lists, BacksUp, Restores}
use Rattle.zb_script.specs.Scripts.{Station, Script}
use Rattle.zb_script.specs.declared.line.Line.{Line}
use Rattle.zb_script.specs.declared.line.Line.TheVariants as line
use Rattle.zb_script.specs.declared.script.Script.{Script as Read}
use Rattle.zb_script.specs.declared.script.Step.{Step}

abbrev pub station_of : Peer → Station
station_of peer = record { name = peer.name.bytes; role = peer.role; eui = peer.eui.0; short = peer.short.0 }

-- the script with these peers, blocks and steps
abbrev pub script_with : List Peer → ℕ → ℕ → List Step → Script
script_with peers out_block in_block steps =
    record { stations = map station_of peers; out_block = out_block; in_block = in_block; steps = steps }

abbrev pub script_of : Read → Script
script_of script = script_with script.config.peers.items script.config.out_block script.config.in_block script.steps

abbrev pub sentence_of : Line → Sentence
sentence_of line.Blank = Quiet
sentence_of (line.Centre name eui out_block in_block) = Founds name.bytes eui.0 out_block in_block
sentence_of (line.Peer peer) = Introduces peer.name.bytes peer.role peer.eui.0 peer.short.0
sentence_of (line.Init key) = Begins key.0
sentence_of (line.Provision name code) = Provisions name.bytes code
sentence_of (line.Remove name parent) = Removes name.bytes parent.bytes
sentence_of line.List = Lists
sentence_of line.Backup = BacksUp
sentence_of (line.Restore skip json) = Restores skip json.now
