-- What the lines of a session write over any store, even one that reports nothing. Each line continues the session
-- that the one before it left. If a line opens the session, some tables are found in the store, or none.
use Rattle.std.specs.Prelude.{◌≡◌, ◌++◌, List, [], ◌∷◌, Option, Ok}
use Rattle.std.specs.Io.KnownBytes.{Appends}
use Rattle.zb_base.specs.Outside.{AppendsFront}
use Rattle.zb_live.specs.Grammar.{meaning_of}
use Rattle.zb_live.specs.Living.{HasChanges, Living, done, fresh}
use Rattle.zb_model.specs.Data.{Bytes}
use Rattle.zb_model.specs.State.{NodeState}

-- the text is that of lines, one after the other, the first of which finds the session so
abbrev pub Writes : List Bytes → Living → Bytes → Type 0
Writes [] v text = text ≡ []
Writes (line ∷ lines) v text =
    (found : Option NodeState) × (more : Bytes) × (text ≡ (done (Ok found) line v).text ++ more)
    × Writes lines (done (Ok found) line v).after more

-- all of a text of these lines was written, from the first line of a session on
abbrev pub WritesAll : List Bytes → Option Bytes → Option Bytes → Type 0
WritesAll lines before after = (text : Bytes) × Writes lines fresh text × Appends before after text

-- a prefix of a text of these lines was written
abbrev pub WritesFront : List Bytes → Option Bytes → Option Bytes → Type 0
WritesFront lines before after = (text : Bytes) × Writes lines fresh text × AppendsFront before after text

-- these lines write this text and lead to this session
abbrev pub Leads : List Bytes → Living → Bytes → Living → Type 0
Leads [] v text after = (text ≡ []) × (after ≡ v)
Leads (line ∷ lines) v text after =
    (found : Option NodeState) × (more : Bytes) × (text ≡ (done (Ok found) line v).text ++ more)
    × Leads lines (done (Ok found) line v).after more after

-- The last of these lines has something to store, and all that those before it write was written.
pub record WritesWorn (lines : List Bytes) (before after : Option Bytes) : Type 0 where
  pub front : List Bytes
  pub line : Bytes
  pub split : lines ≡ front ++ line ∷ []
  pub text : Bytes
  pub reached : Living
  pub leads : Leads front fresh text reached
  pub changes : HasChanges (meaning_of line) reached
  pub written : Appends before after text
