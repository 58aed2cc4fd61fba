-- What the two words represent: what lines say about terms and keys.
use Rattle.zb_model.specs.Data as model
use Rattle.std.specs.Prelude.{◌≡◌, ◌≤◌, ℕ, ◌&&◌, List, Bool, true, false, bytes_eq, nat_eq, length, Option, Some, None}
use Rattle.std.specs.List.{list_any}
use Rattle.std.specs.Option.{option_map}
use Rattle.zb_model.specs.Data.{Bytes, nobody}
use Rattle.zb_model.specs.Secrets.{carried, clear_key, holds, key_shown, same_term}
use Rattle.zb_model.specs.Tools.{Tools}
use Rattle.zb_aps.specs.Reading.{frame_of}
use Rattle.zb_base.specs.declared.key.Key.{Key}
use Rattle.zb_seal.specs.Carrying as carrying
use Rattle.zb_cmd.specs.Reading.{command_of}
use Rattle.zb_model_real.specs.Terms.{model_term}
use Rattle.zb_seal.specs.declared.term.Term.{Term}
use Rattle.zb_trace_watch.specs.Exposure.{was_removed}
use Rattle.zb_trace_watch.specs.Sayings.{came_by, exposed, passes_on, Grows, Sayings}
use Rattle.zb_trace_watch.specs.Sets.{has, is_carried, node_has, number_has}
use Rattle.zb_trace_watch.specs.Terms.{has_term}
use Rattle.zb_trace_watch.specs.declared.words.EndWords.{EndWords}

-- The bytes of a key, as the model has keys.
abbrev pub bytes_of : Option Key → Option Bytes
bytes_of key = option_map (λ (key : Key). key.0) key

-- The model's tools find the keys in frames and commands that this program's readers find.
pub record FindKeys (tools : Tools) : Type 0 where
  pub in_command : (bytes : List ℕ) → key_shown (tools.read_command bytes)
      ≡ bytes_of (carrying.key_in (command_of bytes))
  pub in_frame : (bytes : List ℕ) → clear_key tools (tools.read_aps bytes)
      ≡ bytes_of (carrying.clear_key (frame_of bytes))

-- Whether there is a key, and it is this one.
abbrev pub is_that : Option Bytes → Bytes → Bool
is_that None key = false
is_that (Some other) key = bytes_eq key other

-- Whether the term carries the key under the base key.
abbrev pub carries : Tools → Bytes → Bytes → model.Term → Bool
carries tools base key t = bytes_eq base t.base && is_that (carried tools t) key

-- The two words represent lines that say this. Only these numbers are those of nodes.
pub record Represents (tools : Tools) (counts : ℕ → Bool) (w : EndWords) (said : Sayings) : Type 0 where
  -- The terms that were sealed or forged, and the keys that they carry.
  pub few : length said.terms ≤ said.lines
  pub terms : (t : Term) → has_term w.origins.terms t ≡ list_any (same_term (model_term t)) said.terms
  pub carried : (base key : Bytes) → is_carried w.exposure.carried base key
      ≡ list_any (carries tools base key) said.terms
  -- The keys that each device ever held, those of a node's install code, and those under which it may be sent a key.
  pub ever : (device : ℕ) → nat_eq device nobody ≡ false → (key : Bytes) → node_has w.exposure.ever device key
      ≡ holds (said.ever device) key
  pub codes : (node : ℕ) → counts node ≡ true → (key : Bytes) → number_has w.origins.codes node key
      ≡ holds (said.codes node) key
  pub bases : (node : ℕ) → counts node ≡ true → (key : Bytes) → number_has w.origins.bases node key
      ≡ holds (said.bases node) key
  -- The keys under which each key was carried; and a traced key came from somewhere.
  pub carriers : (base key : Bytes) → is_carried w.origins.carriers key base
      ≡ list_any (carries tools base key) said.terms
  pub traced : (node : ℕ) → counts node ≡ true → (key : Bytes) → number_has w.origins.traced node key ≡ true
      → came_by tools said node key ≡ true
  -- The removed devices; nobody is none of them.
  pub removed : (device : ℕ) → was_removed w.exposure device ≡ list_any (nat_eq device) said.removed
  pub somebody : list_any (nat_eq nobody) said.removed ≡ false
  -- What outsiders may know.
  pub known : (key : Bytes) → has w.exposure.known key ≡ holds (exposed tools said) key
  -- The keys of the network, and those that forged terms carry.
  pub network : (key : Bytes) → has w.passing.network key ≡ holds said.network key
  pub forged : (key : Bytes) → has w.passing.forged key
      ≡ list_any (λ (t : model.Term). is_that (Rattle.zb_model.specs.Secrets.carried tools t) key) said.forged
  pub passed_on : w.passing.passed_on ≡ passes_on tools said
  -- The two words.
  pub ideal : w.origins.ideal ≡ said.ideal
  pub based : w.exposure.based ≡ said.based

-- After a line that says `more`, the two words represent all that was said.
abbrev pub Follows : Tools → (ℕ → Bool) → Sayings → Sayings → EndWords → EndWords → Type 0
Follows tools counts said more old new = FindKeys tools → (after : Sayings) → Grows counts said more after
    → Represents tools counts old said → Represents tools counts new after
