-- What a watch represents: a list of transcript lines, as the model reads them.
use Rattle.std.specs.Prelude.{ℕ, not, Bool, List, [], ◌∷◌, ◌++◌, length, nat_eq, flat_map}
use Rattle.zb_model.specs.Data.{nobody}
use Rattle.zb_model.specs.Lines as log
use Rattle.zb_model.specs.Readings.{stations_of}
use Rattle.zb_model.specs.Secrets.{based_line, bases, codes_of, each_line, ever, forged_in, ideal, network_keys, removed_devices, terms_of}
use Rattle.zb_model.specs.Tools.{Tools}
use Rattle.zb_trace.specs.declared.line.Line.{Line}
use Rattle.zb_trace_watch.specs.Nodes.{Declares}
use Rattle.zb_trace_watch.specs.Sayings.{said_by, JoinerCounts, Sayings}
use Rattle.zb_trace_watch.specs.Standing as standing
use Rattle.zb_trace_watch.specs.Standing.{FindKeys, Represents}
use Rattle.zb_trace_watch.specs.declared.speaker.Speaker.{Speaker}
use Rattle.zb_trace_watch.specs.declared.watch.Watch.{Watch}
use Rattle.zb_trace_watch.specs.declared.words.EndWords.{EndWords}

-- What the model reads from lines. Nodes are identified by their addresses.
abbrev pub said : Tools → List log.Line → Sayings
said tools h = record {
  terms = terms_of h;
  forged = flat_map forged_in h;
  codes = codes_of h;
  bases = bases h;
  ever = ever h;
  removed = removed_devices h;
  network = network_keys h;
  lines = length h;
  ideal = ideal tools h;
  based = each_line (based_line tools) [] h;
}

-- Whether this is a node's address: nobody has none.
abbrev pub is_somebody : ℕ → Bool
is_somebody n = not (nat_eq n nobody)

-- The watch represents these lines.
pub record Stands (tools : Tools) (w : Watch) (h : List log.Line) : Type 0 where
  pub nodes : Declares w.nodes (stations_of h)
  pub words : Represents tools is_somebody w.words (said tools h)

-- The watch after a line represents the lines before it and this one.
abbrev pub Follows : Watch → Watch → log.Line → List log.Line → Tools → Type 0
Follows old new line h tools = FindKeys tools → Stands tools old h → Stands tools new (h ++ line ∷ [])

-- The words after a line of that speaker represent that line too.
abbrev pub FollowsBy : Tools → Speaker → Line → EndWords → EndWords → Type 0
FollowsBy tools who line old new =
    (s : Sayings) → JoinerCounts is_somebody who line
    → standing.Follows tools is_somebody s (said_by tools s who line) old new
