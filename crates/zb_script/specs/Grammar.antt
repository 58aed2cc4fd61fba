-- The grammar of the lines of a script, word by word. A line that provisions or removes a device is that of a
-- schedule.
use Rattle.std.specs.Prelude.{ℕ, ◌&&◌, List, [], ◌∷◌, codes, bytes_eq, Bool, true, false, if◌then◌else◌, Option, Some, None}
use Rattle.std.specs.Option.{option_map}
use Rattle.zb_base.specs.declared.node.Role.{Role}
use Rattle.zb_base.specs.declared.node.Role.TheVariants.{Centre, Router, Device}
use Rattle.zb_text.specs.Choices.{role_of}
use Rattle.zb_text.specs.Fields.{name_of, short_of, key_of}
use Rattle.zb_text.specs.Numbers.{number_of}
use Rattle.zb_text.specs.Pages.{line_of_words}
use Rattle.zb_text.specs.Words.{words, first_of, field, nothing}
use Rattle.zb_sched_line.specs.Grammar.{◌>>=◌, greatest, is_quiet, is_short_of, or_else, real_eui_of}
use Rattle.zb_sched_line.specs.Grammar as schedule
use Rattle.zb_sched_line.specs.Said as said
use Rattle.zb_script.specs.Said.{Bytes, Sentence, Quiet, Founds, Introduces, Begins, Provisions, Removes, Lists, BacksUp, Restores}

-- a router or a device
abbrev pub is_joiner : Role → Bool
is_joiner Centre = false
is_joiner Router = true
is_joiner Device = true

-- NAME EUI OUT IN
abbrev pub centre_of : List (List ℕ) → Option Sentence
centre_of ws = do
  name ← field name_of ws
  eui ← field real_eui_of name.1
  out_block ← field (number_of greatest) eui.1
  in_block ← field (number_of greatest) out_block.1
  end ← nothing in_block.1
  Some (Founds name.0 eui.0 out_block.0 in_block.0)

-- NAME ROLE EUI SHORT
abbrev pub peer_of : List (List ℕ) → Option Sentence
peer_of ws = do
  name ← field name_of ws
  role ← field role_of name.1
  eui ← field real_eui_of role.1
  short ← field short_of eui.1
  end ← nothing short.1
  if is_joiner role.0 && is_short_of role.0 short.0 then Some (Introduces name.0 role.0 eui.0 short.0) else None

-- KEY
abbrev pub init_of : List (List ℕ) → Option Sentence
init_of ws = do
  key ← field key_of ws
  end ← nothing key.1
  Some (Begins key.0)

-- the rest of a line, where there is one: also an empty one, after a space
abbrev pub rest_of : List (List ℕ) → Option Bytes
rest_of [] = None
rest_of (word ∷ more) = Some (line_of_words (word ∷ more))

-- SKIP JSON
abbrev pub restore_of : List (List ℕ) → Option Sentence
restore_of ws = do
  skip ← field (number_of greatest) ws
  json ← rest_of skip.1
  Some (Restores skip.0 json)

-- lines that no schedule has
abbrev pub own_line : List ℕ → List (List ℕ) → Option Sentence
own_line word ws =
    if bytes_eq word (codes "centre") then centre_of ws
    else if bytes_eq word (codes "peer") then peer_of ws
    else if bytes_eq word (codes "init") then init_of ws
    else if bytes_eq word (codes "list") then option_map (λ end. Lists) (nothing ws)
    else if bytes_eq word (codes "backup") then option_map (λ end. BacksUp) (nothing ws)
    else if bytes_eq word (codes "restore") then restore_of ws
    else None

-- the events of schedules that a script has too
abbrev pub event_of : said.Event → Option Sentence
event_of (said.Provisions name code) = Some (Provisions name (Some code))
event_of (said.Removes name parent) = Some (Removes name parent)
event_of _ = None

abbrev pub shared : said.Sentence → Option Sentence
shared (said.Misprovisions name) = Some (Provisions name None)
shared (said.Happens event) = event_of event
shared _ = None

abbrev pub shared_in : Option said.Sentence → Option Sentence
shared_in None = None
shared_in (Some sentence) = shared sentence

-- What a line says. None is a line that says nothing.
abbrev pub meaning_of : List ℕ → Option Sentence
meaning_of line =
    if is_quiet line then Some Quiet
    else do
      first ← first_of (words (Some line))
      or_else (own_line first.0 first.1) (shared_in (schedule.meaning_of line))
