-- What commands write over any store, one that tells nothing too. A centre has the setting of its script, and the
-- tables that were found when it was booted. Each command goes on from what the one before it left.
use Rattle.std.specs.Prelude.{◌≡◌, ◌⊎◌, ◌++◌, List, [], ◌∷◌, Option, Some, None, is_some, option_map}
use Rattle.std.specs.Io.KnownBytes.{Appends}
use Rattle.zb_admin.specs.Commands.{lays_out}
use Rattle.zb_admin.specs.Served.{HasChanges, done}
use Rattle.zb_base.specs.Outside.{AppendsFront}
use Rattle.zb_model.specs.Data.{Bytes}
use Rattle.zb_model.specs.Rules.{Setting}
use Rattle.zb_model.specs.State.{NodeState}
use Rattle.zb_script.specs.declared.script.Step.{Step}
use Rattle.zb_stored_tables.specs.Cores.{CoreValue}
use Rattle.zb_text.specs.Pages.{page}

-- what the centre has, if one is up: this setting and these tables
abbrev pub with_setting : Setting → Option NodeState → Option CoreValue
with_setting c standing =
    option_map (λ (s : NodeState). let core : CoreValue = record { setting = c; tables = s } in core) standing

-- After a command the centre has what stands then. Where the command makes a new store, the centre is booted from it,
-- and has the tables that are found there.
abbrev pub Follows : Setting → Step → Option NodeState → Option NodeState → Type 0
Follows c step None next = is_some next ≡ lays_out step.order None
Follows c step (Some s) next = next ≡ (done c step (Some s)).after

-- The text is that of the lines of commands, one after the other, the first of which finds these tables, or none.
abbrev pub Writes : Setting → List Step → Option NodeState → Bytes → Type 0
Writes c [] standing text = text ≡ []
Writes c (step ∷ steps) standing text =
    (next : Option NodeState) × (more : Bytes) × Follows c step standing next
    × (text ≡ page (done c step standing).lines ++ more) × Writes c steps next more

-- all of such a text was written
abbrev pub WritesAll : Setting → List Step → Option NodeState → Option Bytes → Option Bytes → Type 0
WritesAll c steps standing before after = (text : Bytes) × Writes c steps standing text × Appends before after text

-- a prefix of such a text was written
abbrev pub WritesFront : Setting → List Step → Option NodeState → Option Bytes → Option Bytes → Type 0
WritesFront c steps standing before after = (text : Bytes) × Writes c steps standing text
    × AppendsFront before after text

-- The text is that of the lines of some first commands, and the next one has something to store.
abbrev pub WritesUntilWorn : Setting → List Step → Option NodeState → Bytes → Type 0
WritesUntilWorn c [] standing text = ⊥
WritesUntilWorn c (step ∷ steps) standing text =
    (HasChanges c step standing × (text ≡ []))
    ⊎ ((next : Option NodeState) × (more : Bytes) × Follows c step standing next
    × (text ≡ page (done c step standing).lines ++ more) × WritesUntilWorn c steps next more)

-- such a text was written
abbrev pub WritesWorn : Setting → List Step → Option NodeState → Option Bytes → Option Bytes → Type 0
WritesWorn c steps standing before after = (text : Bytes) × WritesUntilWorn c steps standing text
    × Appends before after text
