-- What the calls inside the reader answer.
use Rattle.std.specs.Prelude.{◌≡◌, ◌&&◌, ℕ, Bool, true, nat_le, length, filter, Option, Some, None, Result, Ok, Err}
use Rattle.serde_json.specs.Errors.{IsMemory}
use Rattle.serde_json.specs.declared.error.Error.{Error}
use Rattle.zb_model.specs.Fits.{keeps_rules, most_nets, most_centre_links, most_pairs}
use Rattle.zb_model.specs.State.{NodeState, after_boot, shown}
use Rattle.zb_record.specs.Ranges.{FitsBytes}
use Rattle.zb_record.specs.RowViews.{net_key}
use Rattle.zb_record.specs.Headings.{state_written}
use Rattle.zb_backup.specs.declared.error.BackupError.{BackupError}
use Rattle.zb_backup.specs.declared.error.BackupError.TheVariants.{Form, NoMemory}
use Rattle.zb_backup.specs.declared.told_rows.Parts.{Parts}

-- What a call answered, seen by `view`, is expected; it says nothing where memory is wanting.
abbrev pub Tells : {A B : Type 0} → (A → B) → Result A BackupError → Option B → Type 0
Tells view (Ok x) expected = expected ≡ Some (view x)
Tells view (Err Form) expected = expected ≡ None
Tells view (Err NoMemory) expected = Unit {0}

-- the state of tables with that heading and these rows, after a boot
abbrev pub told_state : Parts → NodeState
told_state t = state_written t.heading.aps_limit t.heading t.nets.items t.links.items t.pairs.items

-- rows that have room in a record: at most 256 network keys, of which two are live, 1,024 link keys and 256 pairs
abbrev pub has_room : Parts → Bool
has_room t = nat_le (length t.nets.items) most_nets
    && (nat_le (length (filter (λ r. (net_key r).live) t.nets.items)) 2
    && (nat_le (length t.links.items) most_centre_links && nat_le (length t.pairs.items) most_pairs))

-- Tables that were made of a state by its record. They are refused only where that breaks the rules for records.
abbrev pub IsMade : Result NodeState BackupError → NodeState → Type 0
IsMade (Ok made) s = keeps_rules s ≡ true → FitsBytes s → made ≡ shown (after_boot s)
IsMade (Err Form) s = keeps_rules s ≡ true → FitsBytes s → ⊥
IsMade (Err NoMemory) s = Unit {0}

-- the tables of a record, where the bytes are one
abbrev pub IsOfRecord : Result NodeState BackupError → Result NodeState ℕ → Type 0
IsOfRecord (Ok made) read = read ≡ Ok made
IsOfRecord (Err Form) read = (left : ℕ) × (read ≡ Err left)
IsOfRecord (Err NoMemory) read = Unit {0}

-- why a text is no value: it is none, unless memory is wanting
abbrev pub IsRefusal : BackupError → Error → Type 0
IsRefusal Form error = ¬ IsMemory error
IsRefusal NoMemory error = Unit {0}
