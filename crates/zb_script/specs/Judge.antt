-- What one line does to the part of a script that stands before it, or why it may not stand there. The causes are
-- tried in the order in which they stand here.
use Rattle.std.specs.Prelude.{ℕ, ◌==◌, ◌&&◌, ◌||◌, not, nat_le, List, [], ◌∷◌, ◌++◌, length, bytes_eq, find, Bool, true, false, if◌then◌else◌, Option, Some, None, Result, Ok, Err}
use Rattle.std.specs.List.{list_any}
use Rattle.std.specs.Option.{option_map}
use Rattle.zb_base.specs.declared.node.Role.{Role}
use Rattle.zb_base.specs.declared.node.Role.TheVariants.{Centre, Router, Device}
use Rattle.zb_model.specs.Record.{record_of}
use Rattle.zb_model.specs.State.{NodeState}
use Rattle.zb_sched.specs.Judge.{are_blocks}
use Rattle.zb_backup.specs.Reading.{backup_in}
use Rattle.zb_script.specs.Grammar.{is_joiner}
use Rattle.zb_script.specs.Said.{Bytes, Sentence, Quiet, Founds, Introduces, Begins, Provisions, Removes, Lists, BacksUp, Restores}
use Rattle.zb_script.specs.Scripts.{Station, Script}
use Rattle.zb_script.specs.declared.error.ScriptCause.{ScriptCause}
use Rattle.zb_script.specs.declared.error.ScriptCause.TheVariants.{Syntax, DuplicateNode, Block, UnknownNode, BadCode, Backup as NoBackup, TooMany}
use Rattle.zb_script.specs.declared.script.Order.{Order}
use Rattle.zb_script.specs.declared.script.Order.TheVariants.{Init, Provision, Remove, List as ListAll, Backup, Restore}
use Rattle.zb_base.specs.Limits.{most_steps, most_nodes}

-- ---- nodes: first the centre, then its peers, before all commands

abbrev pub has_centre : Script → Bool
has_centre s = not (length s.stations == 0)

abbrev pub has_begun : Script → Bool
has_begun s = not (length s.steps == 0)

abbrev pub after_centre : Script → Bytes → ℕ → ℕ → ℕ → Result Script ScriptCause
after_centre s name eui out_block in_block =
    if has_centre s then Err Syntax
    else if not (are_blocks out_block in_block) then Err Block
    else Ok
    (record {
      stations = s.stations ++ record { name = name; role = Centre; eui = eui; short = 0 }
          ∷ [];
      out_block = out_block;
      in_block = in_block;
      steps = s.steps;
    })

-- a name, an EUI or a short address is taken
abbrev pub is_taken : Bytes → ℕ → ℕ → Station → Bool
is_taken name eui short station = bytes_eq station.name name || station.eui == eui || station.short == short

-- at most 63 peers stand beside the centre
abbrev pub after_peer : Script → Bytes → Role → ℕ → ℕ → Result Script ScriptCause
after_peer s name role eui short =
    if not (has_centre s) || has_begun s then Err Syntax
    else if list_any (λ station. is_taken name eui short station) s.stations then Err DuplicateNode
    else if nat_le most_nodes (length s.stations) then Err TooMany
    else Ok (record s { stations = s.stations ++ record { name = name; role = role; eui = eui; short = short } ∷ [] })

-- ---- commands

-- one step more, of at most 10,000
abbrev pub with_order : ℕ → Order → Script → Result Script ScriptCause
with_order line order s = if nat_le most_steps (length s.steps) then Err TooMany
    else Ok (record s { steps = s.steps ++ record { line = line; order = order } ∷ [] })

-- the EUI of the router or device of that name
abbrev pub device_named : Bytes → List Station → Option ℕ
device_named name stations =
    option_map (λ station. station.eui)
    (find (λ station. bytes_eq station.name name && is_joiner station.role) stations)

-- the EUI of the centre or router of that name
abbrev pub is_parent : Role → Bool
is_parent Centre = true
is_parent Router = true
is_parent Device = false

abbrev pub parent_named : Bytes → List Station → Option ℕ
parent_named name stations =
    option_map (λ station. station.eui)
    (find (λ station. bytes_eq station.name name && is_parent station.role) stations)

abbrev pub provided : ℕ → Option ℕ → Option Bytes → Script → Result Script ScriptCause
provided line None code s = Err UnknownNode
provided line (Some device) None s = Err BadCode
provided line (Some device) (Some code) s = with_order line (Provision (record { 0 = device }) code) s

abbrev pub removed : ℕ → Option ℕ → Option ℕ → Script → Result Script ScriptCause
removed line None via s = Err UnknownNode
removed line (Some device) None s = Err UnknownNode
removed line (Some device) (Some via) s = with_order line (Remove (record { 0 = device }) (record { 0 = via })) s

-- a parent is another node than the device
abbrev pub after_remove : ℕ → Script → Bytes → Bytes → Result Script ScriptCause
after_remove line s name parent =
    if bytes_eq name parent then Err UnknownNode
    else removed line (device_named name s.stations) (parent_named parent s.stations) s

-- the record of the tables of a backup
abbrev pub restored : ℕ → ℕ → Option NodeState → Script → Result Script ScriptCause
restored line skip None s = Err NoBackup
restored line skip (Some tables) s = with_order line (Restore skip (record_of tables)) s

-- commands stand after the centre
abbrev pub commanded : Script → Result Script ScriptCause → Result Script ScriptCause
commanded s after = if has_centre s then after else Err Syntax

-- ---- lines

abbrev pub after_sentence : ℕ → Script → Sentence → Result Script ScriptCause
after_sentence line s Quiet = Ok s
after_sentence line s (Founds name eui out_block in_block) = after_centre s name eui out_block in_block
after_sentence line s (Introduces name role eui short) = after_peer s name role eui short
after_sentence line s (Begins key) = commanded s (with_order line (Init (record { 0 = key })) s)
after_sentence line s (Provisions name code) = commanded s (provided line (device_named name s.stations) code s)
after_sentence line s (Removes name parent) = commanded s (after_remove line s name parent)
after_sentence line s Lists = commanded s (with_order line ListAll s)
after_sentence line s BacksUp = commanded s (with_order line Backup s)
after_sentence line s (Restores skip json) = commanded s (restored line skip (backup_in json) s)
