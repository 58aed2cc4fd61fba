-- The grammar of the lines of a session, word by word. The lines of the network, those that provision or remove a
-- node, `list` and `backup` are those of a script.
use Rattle.std.specs.Prelude.{ℕ, List, codes, bytes_eq, if◌then◌else◌, Option, Some, None}
use Rattle.std.specs.Option.{option_map}
use Rattle.zb_text.specs.Fields.{name_of, short_of, key_of}
use Rattle.zb_text.specs.Hexadecimal.{bytes_of}
use Rattle.zb_text.specs.Words.{words, first_of, field, nothing}
use Rattle.zb_sched_line.specs.Grammar.{◌>>=◌, is_quiet, name_alone, or_else, rejoin_of, two_names}
use Rattle.zb_model.specs.Data.{SayTo, DoTimer, HasChild, DoProvision, DoRemove, DoRoll, DoSwitch, DoAgain, DoShare, Received}
use Rattle.zb_script.specs.Grammar as script
use Rattle.zb_script.specs.Resolving.{SaidTask}
use Rattle.zb_script.specs.Said as said
use Rattle.zb_live.specs.declared.line.Log.TheVariants.{All, NoKeys}
use Rattle.zb_live.specs.declared.question.Question.TheVariants as question
use Rattle.zb_live.specs.Said.{Bytes, Sentence, Quiet, Founds, Introduces, Logs, Opens, Happens, Asks}
use Rattle.zb_base.specs.Limits.{longest_frame, longest_content}

-- ---- events, after their first word

-- a key that may be drawn, or `-` for none
abbrev pub draw_of : List ℕ → Option (Option Bytes)
draw_of word = if bytes_eq word (codes "-") then Some None else option_map Some (key_of word)

-- HEX DRAW: a frame has at most 127 bytes
abbrev pub deliver_of : List (List ℕ) → Option SaidTask
deliver_of ws = do
  bytes ← field (bytes_of longest_frame) ws
  draw ← field draw_of bytes.1
  end ← nothing draw.1
  Some (Received bytes.0 draw.0)

-- NAME join or NAME rejoin
abbrev pub child_of : List (List ℕ) → Option SaidTask
child_of ws = do
  name ← field name_of ws
  rejoin ← field rejoin_of name.1
  end ← nothing rejoin.1
  Some (HasChild name.0 rejoin.0)

-- SHORT HEX: at most 64 bytes
abbrev pub say_of : List (List ℕ) → Option SaidTask
say_of ws = do
  to ← field short_of ws
  bytes ← field (bytes_of longest_content) to.1
  end ← nothing bytes.1
  Some (SayTo to.0 bytes.0)

-- DRAW
abbrev pub roll_of : List (List ℕ) → Option SaidTask
roll_of ws = do
  draw ← field draw_of ws
  end ← nothing draw.1
  Some (DoRoll draw.0)

-- NAME
abbrev pub again_of : List (List ℕ) → Option SaidTask
again_of ws = option_map DoAgain (name_alone ws)

-- NAME PARTNER
abbrev pub share_of : List (List ℕ) → Option SaidTask
share_of ws = option_map (λ names. DoShare names.0 names.1) (two_names ws)

-- the events that no script has
abbrev pub event_at : List ℕ → List (List ℕ) → Option SaidTask
event_at word ws =
    if bytes_eq word (codes "deliver") then deliver_of ws
    else if bytes_eq word (codes "child") then child_of ws
    else if bytes_eq word (codes "timer") then option_map (λ end. DoTimer) (nothing ws)
    else if bytes_eq word (codes "say") then say_of ws
    else if bytes_eq word (codes "roll") then roll_of ws
    else if bytes_eq word (codes "switch") then option_map (λ end. DoSwitch) (nothing ws)
    else if bytes_eq word (codes "again") then again_of ws
    else if bytes_eq word (codes "share") then share_of ws
    else None

-- ---- lines

-- `all`: all lines of an event are answered; `none`: those without a key
abbrev pub log_named : List ℕ → Option Sentence
log_named word =
    if bytes_eq word (codes "all") then Some (Logs All)
    else if bytes_eq word (codes "none") then Some (Logs NoKeys)
    else None

abbrev pub log_of : List (List ℕ) → Option Sentence
log_of ws = do
  word ← first_of ws
  end ← nothing word.1
  log_named word.0

-- the lines of the header that no script has
abbrev pub header_at : List ℕ → List (List ℕ) → Option Sentence
header_at word ws =
    if bytes_eq word (codes "log") then log_of ws
    else if bytes_eq word (codes "open") then option_map (λ end. Opens) (nothing ws)
    else None

abbrev pub own_line : List ℕ → List (List ℕ) → Option Sentence
own_line word ws = or_else (header_at word ws) (option_map Happens (event_at word ws))

-- The lines that scripts have too. A session makes no store, so it has neither `init` nor `restore`.
abbrev pub scripted : said.Sentence → Option Sentence
scripted said.Quiet = None
scripted (said.Founds name eui out_block in_block) = Some (Founds name eui out_block in_block)
scripted (said.Introduces name role eui short) = Some (Introduces name role eui short)
scripted (said.Begins key) = None
scripted (said.Provisions name code) = Some (Happens (DoProvision name code))
scripted (said.Removes name parent) = Some (Happens (DoRemove name parent))
scripted said.Lists = Some (Asks question.List)
scripted said.BacksUp = Some (Asks question.Backup)
scripted (said.Restores skip json) = None

abbrev pub scripted_in : Option said.Sentence → Option Sentence
scripted_in None = None
scripted_in (Some sentence) = scripted sentence

-- What a line says. None is a line that says nothing.
abbrev pub meaning_of : List ℕ → Option Sentence
meaning_of line =
    if is_quiet line then Some Quiet
    else do
      first ← first_of (words (Some line))
      or_else (own_line first.0 first.1) (scripted_in (script.meaning_of line))
