-- What the audit reads by names, from the printed lines of a run, is what the model reads by addresses.
use Rattle.std.specs.Prelude.{ℕ, ◌≡◌, ◌&&◌, Bool, false, List, ◌++◌, nat_eq, is_some, flat_map}
use Rattle.std.specs.List.{list_any}
use Rattle.std.specs.Option.{option_map}
use Rattle.zb_audit_names.specs.Naming as naming
use Rattle.zb_audit_names.specs.Secrets as audit
use Rattle.law_audit_groups.specs.Printing.{printed}
use Rattle.zb_audit_lockout.specs.Before as before
use Rattle.zb_audit_lockout.specs.Lockout as lockout
use Rattle.zb_model.specs.Claims as claims
use Rattle.zb_model.specs.Data.{Bytes, Station}
use Rattle.zb_model.specs.Lines as log
use Rattle.zb_model.specs.Play.{Schedule, stations}
use Rattle.zb_model.specs.Readings.{state_of, stations_of}
use Rattle.zb_model.specs.Rules.{station_of}
use Rattle.zb_model.specs.Secrets as model
use Rattle.zb_model.specs.State.{NetKey, has_net, live_nets}
use Rattle.zb_model.specs.Tools.{Tools}
use Rattle.zb_model.specs.Transcript.{transcript}
use Rattle.zb_trace_model.specs.Naming.{IsDeclared, name_of}

-- What depends on no name: the terms, the removed devices, the network's keys, and the keys that become known to
-- somebody.
pub record ShowSame (tools : Tools) (known : List Station) (h : List log.Line) : Type 0 where
  pub terms : audit.terms_of (printed known h) ≡ model.terms_of h
  pub forged : flat_map audit.forged_in (printed known h) ≡ flat_map model.forged_in h
  pub passed_on : audit.passes_on tools (printed known h) ≡ model.passes_on tools h
  pub removed : audit.removed_devices (printed known h) ≡ model.removed_devices h
  pub network : audit.network_keys (printed known h) ≡ model.network_keys h
  pub drawn : flat_map lockout.drawn_in (printed known h) ≡ flat_map claims.drawn_in h
  pub exposed : (from : List Bytes) → audit.exposed tools (printed known h) from ≡ model.exposed tools h from
  pub until_live : (d : ℕ) → lockout.until_live d (printed known h) ≡ printed known (claims.until_live d h)

-- the nodes that the printed lines declare
abbrev pub nodes_in : List Station → List log.Line → List Station
nodes_in known h = naming.declared_in (printed known h)

-- Which node is which: names distinguish nodes as addresses do, and the first centre is the model's.
pub record NameSame (known : List Station) (h : List log.Line) : Type 0 where
  pub declared : nodes_in known h ≡ stations_of h
  pub named : (n : ℕ) → IsDeclared known n
      → naming.station_named (nodes_in known h) (name_of known n) ≡ station_of (stations_of h) n
  pub addressed : (n : ℕ) → IsDeclared known n
      → naming.eui_of (nodes_in known h) (name_of known n)
      ≡ option_map (λ (p : Station). p.eui) (station_of (stations_of h) n)
  -- a name has an address only after the line that declares its node
  pub whose : (n d : ℕ) → IsDeclared known n
      → naming.is_of (nodes_in known h) d (name_of known n) ≡ (is_some (station_of (stations_of h) n) && nat_eq n d)
  pub centres : (n : ℕ) → IsDeclared known n
      → naming.is_centres (nodes_in known h) (name_of known n) ≡ model.is_the_centre (stations_of h) n
  pub joining : (n : ℕ) → IsDeclared known n → audit.joins (nodes_in known h) (name_of known n) ≡ model.joins h n

-- Which keys a node ever held, came by and has in its rows, what outsiders may hold, and what a device sealed.
pub record HoldSame (tools : Tools) (known : List Station) (h : List log.Line) : Type 0 where
  pub ever : (d : ℕ) → audit.ever (printed known h) d ≡ model.ever h d
  pub outside : audit.outside (printed known h) ≡ model.outside h
  pub codes : (n : ℕ) → IsDeclared known n → audit.codes_of (printed known h) (name_of known n) ≡ model.codes_of h n
  pub bases : (n : ℕ) → IsDeclared known n → audit.bases (printed known h) (name_of known n) ≡ model.bases h n
  pub came_by : (n : ℕ) (key : Bytes) → IsDeclared known n
      → audit.came_by tools (printed known h) (name_of known n) key ≡ model.came_by tools h n key
  -- of a part of the lines, read after those before it
  pub sealed : (d : ℕ) (front since : List log.Line) → front ++ since ≡ h
      → audit.along (lockout.sealed_by d) (nodes_in known front) (printed known since)
      ≡ flat_map (claims.seals_of d) since

-- whether outsiders may know a network key
abbrev pub is_exposed : Tools → List log.Line → NetKey → Bool
is_exposed tools h r = model.holds (model.exposed tools h (model.outside h)) r.key

-- The live network keys of a node, and whether outsiders may know one of them.
pub record LiveSame (tools : Tools) (known : List Station) (h : List log.Line) : Type 0 where
  pub live : (n : ℕ) (key : Bytes) → IsDeclared known n
      → before.is_live (printed known h) (name_of known n) key ≡ has_net key (live_nets (state_of h n))
  pub known_outside : (n : ℕ) → IsDeclared known n → before.holds_known tools (printed known h) (name_of known n)
      ≡ list_any (is_exposed tools h) (live_nets (state_of h n))
  pub none_known : (n : ℕ) → IsDeclared known n
      → before.holds_known tools (printed known h) (name_of known n) ≡ false → claims.HoldsNoneKnown tools h n

-- the two words of the end line
pub record WordsSame (tools : Tools) (known : List Station) (h : List log.Line) : Type 0 where
  pub ideal : audit.ideal tools (printed known h) ≡ model.ideal tools h
  pub private : audit.private tools (printed known h) ≡ model.private tools h

-- All that the audit reads of these lines, with the names of these nodes, is what the model reads of them.
pub record ReadSame (tools : Tools) (known : List Station) (h : List log.Line) : Type 0 where
  pub shows : ShowSame tools known h
  pub names : NameSame known h
  pub holds : HoldSame tools known h
  pub lives : LiveSame tools known h
  pub words : WordsSame tools known h

-- of each prefix of the transcript
abbrev pub RunReadSame : Tools → Schedule → Type 0
RunReadSame tools w = (h rest : List log.Line) → h ++ rest ≡ transcript tools w → ReadSame tools (stations w) h
