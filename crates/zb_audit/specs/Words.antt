-- What lines say about terms and keys for the two words of the end line, if nodes are identified by names.
use Rattle.std.specs.Prelude.{ℕ, Bool, false, List, [], length, get_or, nat_eq, Option, Some, None, flat_map, if◌then◌else◌}
use Rattle.std.specs.Option.{option_map}
use Rattle.zb_audit_names.specs.Naming.{place_in}
use Rattle.zb_audit_names.specs.Secrets.{based_line, bases, codes_of, each_line, ever, forged_in, ideal, is_member, network_keys, removed_devices, terms_of}
use Rattle.zb_audit_names.specs.declared.node.Node.{Node}
use Rattle.zb_audit_names.specs.declared.node.Who.{Who}
use Rattle.zb_model.specs.Data.{Bytes, Role}
use Rattle.zb_model.specs.Tools.{Tools}
use Rattle.zb_node_types.specs.Changes.{model_role}
use Rattle.zb_trace.specs.declared.line.Line.{Line}
use Rattle.zb_trace_watch.specs.Sayings.{Sayings}
use Rattle.zb_trace_watch.specs.Standing.{Represents}
use Rattle.zb_trace_watch.specs.declared.speaker.Speaker.{Speaker}
use Rattle.zb_trace_watch.specs.declared.words.EndWords.{EndWords}

-- The name at a place of a list of names.
abbrev pub name_at : List Bytes → ℕ → Bytes
name_at names place = get_or names place []

-- Whether a place is the first at which the list has its name.
abbrev pub is_first : Option ℕ → ℕ → Bool
is_first None place = false
is_first (Some first) place = nat_eq first place

abbrev pub is_place : List Bytes → ℕ → Bool
is_place names place = is_first (place_in names (name_at names place)) place

-- What lines say. Each node is identified by the place of its name in this list.
abbrev pub said : Tools → List Bytes → List Line → Sayings
said tools names h = record {
  terms = terms_of h;
  forged = flat_map forged_in h;
  codes = λ place. codes_of h (name_at names place);
  bases = λ place. bases h (name_at names place);
  ever = ever h;
  removed = removed_devices h;
  network = network_keys h;
  lines = length h;
  ideal = ideal tools h;
  based = each_line (based_line tools) [] h;
}

-- The two words represent these lines.
abbrev pub WordsStand : Tools → List Bytes → EndWords → List Line → Type 0
WordsStand tools names w h = Represents tools (is_place names) w (said tools names h)

-- Whether a node was declared as a router or device.
abbrev pub has_role : Option Role → Bool
has_role None = false
has_role (Some r) = is_member r

abbrev pub is_joining : Option Node → Bool
is_joining node = has_role (option_map (λ (n : Node). model_role n.role) node)

-- The node of a line, as the two words see it: it is identified by the place of its name.
abbrev pub seen : Who → Speaker
seen who = record {
  number = Some who.place;
  joiner = if is_joining who.node then Some who.place else None;
  address = option_map (λ (n : Node). n.eui) who.node;
  is_centre = who.is_centre;
}
