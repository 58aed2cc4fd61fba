-- What lines of a transcript say about terms and keys, as values, whether nodes are identified by addresses or by
-- names. The two words of the end line depend only on these values.
use Rattle.std.specs.Prelude.{◌≡◌, ◌≤◌, ℕ, Bool, true, false, not, ◌&&◌, ◌||◌, if◌then◌else◌, List, [], ◌∷◌, length, nat_eq, Option, Some, None, flat_map}
use Rattle.std.specs.List.{list_any}
use Rattle.std.specs.Option.{IfSome}
use Rattle.zb_model.specs.Data.{Bytes, Term, nobody}
use Rattle.zb_model.specs.Secrets.{brings, carried, holds, holds_some, rounds, same_term, well_known}
use Rattle.zb_model.specs.Tools.{Tools}
use Rattle.zb_model_real.specs.Terms.{model_term}
use Rattle.zb_trace.specs.declared.line.Line.{Line}
use Rattle.zb_trace.specs.declared.line.Line.TheVariants as line
use Rattle.zb_trace_watch.specs.Passing.{is_code}
use Rattle.zb_trace_watch.specs.Sets.{is_node, is_number}
use Rattle.zb_trace_watch.specs.declared.speaker.Speaker.{Speaker}

pub record Sayings : Type 0 where
  -- The terms that were sealed or forged, and those that were forged.
  pub terms : List Term
  pub forged : List Term
  -- The keys of each node's install code, and those under which it may be sent a key. A node is identified by a
  -- number.
  pub codes : ℕ → List Bytes
  pub bases : ℕ → List Bytes
  -- The keys that each device ever held, and the removed devices. A device is identified by its address.
  pub ever : ℕ → List Bytes
  pub removed : List ℕ
  -- The keys of the network.
  pub network : List Bytes
  -- How many lines there are.
  pub lines : ℕ
  -- Whether everything accepted or installed came from earlier terms, and each forged term was under a known key.
  pub ideal : Bool
  pub based : Bool

-- What outsiders may know: the well-known key, what removed devices ever held, and what terms carry under these keys.
unfoldable pub exposed : Tools → Sayings → List Bytes
exposed tools said = rounds said.lines tools said.terms (well_known ∷ flat_map said.ever said.removed)

-- Whether a node's key is its install code's, or a term carries it under one of the node's keys.
unfoldable pub came_by : Tools → Sayings → ℕ → Bytes → Bool
came_by tools said node key = holds (said.codes node) key
    || list_any (brings tools (said.bases node) key) said.terms

-- The same for a node that may be missing. True if there is none.
abbrev pub came_to : Tools → Sayings → Option ℕ → Bytes → Bool
came_to tools said None key = true
came_to tools said (Some node) key = came_by tools said node key

-- Whether a forged term carries a key of the network.
unfoldable pub passes_on : Tools → Sayings → Bool
passes_on tools said = list_any (λ (t : Term). holds_some said.network (carried tools t)) said.forged

abbrev pub private : Tools → Sayings → Bool
private tools said = said.based && not (passes_on tools said)

-- What no lines say, and what a line says that says nothing about terms and keys.
abbrev pub start : Sayings
start = record {
  terms = [];
  forged = [];
  codes = λ node. [];
  bases = λ node. [];
  ever = λ device. [];
  removed = [];
  network = [];
  lines = 0;
  ideal = true;
  based = true;
}

abbrev pub nothing : Sayings
nothing = record start { lines = 1 }

abbrev pub only_if : Bool → Bytes → List Bytes
only_if test key = if test then key ∷ [] else []

-- What a line of node `who` says, after lines that say `said`.
abbrev pub said_by : Tools → Sayings → Speaker → Line → Sayings
said_by tools said who (line.GivenNet node key sequence) = record nothing {
  network = key.0 ∷ [];
  ever = λ device. only_if (is_node who.address device) key.0;
}
said_by tools said who (line.GivenLink node partner key) = record nothing {
  network = key.0 ∷ [];
  codes = λ node. only_if (is_number who.number node) key.0;
  bases = λ node. only_if (is_number who.number node) key.0;
  ever = λ device. only_if (is_node who.address device) key.0;
}
said_by tools said who (line.Draw event key) = record nothing { network = key.0 ∷ [] }
said_by tools said who (line.Install event node key sequence) = record nothing {
  ever = λ device. only_if (is_node who.address device) key.0;
  ideal = came_to tools said who.joiner key.0;
}
said_by tools said who (line.Row event node partner key attribute) = record nothing {
  network = only_if (is_code attribute) key.0;
  bases = λ node. only_if (is_number who.number node) key.0;
  -- A row of the centre also has a device that holds its key.
  ever = λ device. only_if (is_node who.address device || (who.is_centre && nat_eq partner.0 device)) key.0;
  ideal = came_to tools said who.joiner key.0;
}
said_by tools said who (line.Pair event node first second key) =
    record nothing { ever = λ device. only_if (nat_eq first.0 device || nat_eq second.0 device) key.0 }
said_by tools said who (line.Removed event device) = record nothing { removed = device.0 ∷ [] }
said_by tools said who (line.Accept event node t) =
    record nothing { ideal = list_any (same_term (model_term t)) said.terms }
said_by tools said who (line.Seal event node t) = record nothing { terms = model_term t ∷ [] }
said_by tools said who (line.Forge event t) = record nothing {
  terms = model_term t ∷ [];
  forged = model_term t ∷ [];
  based = holds (exposed tools said) t.base.0;
}
said_by tools said who _ = nothing

-- What lines say with one more line. Only these numbers are those of nodes, and nobody is no device.
pub record Grows (counts : ℕ → Bool) (said more after : Sayings) : Type 0 where
  pub terms : (p : Term → Bool) → list_any p after.terms ≡ (list_any p said.terms || list_any p more.terms)
  pub forged : (p : Term → Bool) → list_any p after.forged ≡ (list_any p said.forged || list_any p more.forged)
  pub codes : (node : ℕ) → counts node ≡ true → (key : Bytes) → holds (after.codes node) key
      ≡ (holds (said.codes node) key || holds (more.codes node) key)
  pub bases : (node : ℕ) → counts node ≡ true → (key : Bytes) → holds (after.bases node) key
      ≡ (holds (said.bases node) key || holds (more.bases node) key)
  pub ever : (device : ℕ) → nat_eq device nobody ≡ false → (key : Bytes) → holds (after.ever device) key
      ≡ (holds (said.ever device) key || holds (more.ever device) key)
  pub removed : (device : ℕ) → list_any (nat_eq device) after.removed
      ≡ (list_any (nat_eq device) said.removed || list_any (nat_eq device) more.removed)
  pub network : (key : Bytes) → holds after.network key ≡ (holds said.network key || holds more.network key)
  -- No line has two terms.
  pub few : length after.terms ≤ after.lines
  pub ideal : after.ideal ≡ (said.ideal && more.ideal)
  pub based : after.based ≡ (said.based && more.based)

-- Whether a node installs a key by this line.
abbrev pub takes_in : Line → Bool
takes_in (line.Install event node key sequence) = true
takes_in (line.Row event node partner key attribute) = true
takes_in _ = false

-- A router or device that installs a key is identified by the number of a node.
abbrev pub JoinerCounts : (ℕ → Bool) → Speaker → Line → Type 0
JoinerCounts counts who l = takes_in l ≡ true → IfSome who.joiner (λ node. counts node ≡ true)
