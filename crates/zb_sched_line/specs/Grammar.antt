-- The grammar of the lines of a schedule, word by word.
use Rattle.std.specs.Prelude.{ℕ, ◌==◌, ◌&&◌, ◌||◌, not, nat_lt, nat_le, List, length, slice_index, codes, bytes_eq, Bool, true, false, if◌then◌else◌, Option, Some, None}
use Rattle.std.specs.Option.{option_map}
use Rattle.zb_base.specs.declared.label.Label.{Label}
use Rattle.zb_base.specs.declared.label.Label.TheVariants.{Data, Network, Transport, Load}
use Rattle.zb_base.specs.declared.node.Role.{Role}
use Rattle.zb_base.specs.declared.node.Role.TheVariants.{Centre, Router, Device}
use Rattle.zb_text.specs.Choices.{role_of, layer_of, label_of}
use Rattle.zb_text.specs.Fields.{name_of, eui_of, short_of, key_of}
use Rattle.zb_text.specs.Hexadecimal.{bytes_of}
use Rattle.zb_text.specs.Numbers.{number_of}
use Rattle.zb_text.specs.Words.{words, first_of, field, nothing}
use Rattle.zb_sched_line.specs.Codes.{is_code}
use Rattle.zb_sched_line.specs.Said.{Bytes, Event, Says, Delivers, Ticks, Knocks, Rejoins, Adopts, Provisions, Repeats, Rolls, Switches, Removes, Resets, Boots, Dumps, Stops, Fails, Injects, ForgesNet, ForgesBoth, ForgesOpen, Asks, Shares, Tells, Sentence, Quiet, Introduces, Codes, Holds, Starts, Draws, Misprovisions, Happens}
use Rattle.zb_base.specs.Limits.{longest_frame, broadcast_eui, longest_content, last_short, longest_torn}

-- The next step of a grammar, where the one before it found what it wants.
infixl 10 ◌>>=◌
abbrev pub ◌>>=◌ : {A B : Type 0} → Option A → (A → Option B) → Option B
None >>= f = None
Some x >>= f = f x

-- What passes a test.
abbrev pub kept : {A : Type 0} → (A → Bool) → Option A → Option A
kept test None = None
kept test (Some x) = if test x then Some x else None

-- ---- words

-- The greatest counter and block: numbers are at most 4294967295.
abbrev pub greatest : ℕ
greatest = 4294967295

-- A number from `low` to `high`.
abbrev pub number_from : ℕ → ℕ → List ℕ → Option ℕ
number_from low high word = kept (λ number. nat_le low number) (number_of high word)

-- An EUI that a node can have: not all 0, nor all F.
abbrev pub is_real_eui : ℕ → Bool
is_real_eui eui = not (eui == 0) && not (eui == broadcast_eui)

abbrev pub real_eui_of : List ℕ → Option ℕ
real_eui_of word = kept is_real_eui (eui_of word)

-- Bytes, at least one of them.
abbrev pub some_bytes_of : ℕ → List ℕ → Option (List ℕ)
some_bytes_of limit word = kept (λ bytes. nat_lt 0 (length bytes)) (bytes_of limit word)

-- One certain word.
abbrev pub literal : List ℕ → List ℕ → Option Unit
literal expected word = if bytes_eq word expected then Some tt else None

-- The short address of the centre is 0, and that of others 0001 to FFF7 (05-3474-21, 3.6.1).
abbrev pub is_short_of : Role → ℕ → Bool
is_short_of Centre short = short == 0
is_short_of Router short = nat_le 1 short && nat_le short last_short
is_short_of Device short = nat_le 1 short && nat_le short last_short

-- The key identifiers of an APS command: not that of the network layer.
abbrev pub is_aps_label : Label → Bool
is_aps_label Data = true
is_aps_label Network = false
is_aps_label Transport = true
is_aps_label Load = true

abbrev pub aps_label_of : List ℕ → Option Label
aps_label_of word = kept is_aps_label (label_of word)

-- `join` is no rejoin.
abbrev pub rejoin_of : List ℕ → Option Bool
rejoin_of word =
    if bytes_eq word (codes "join") then Some false
    else if bytes_eq word (codes "rejoin") then Some true
    else None

-- Bytes of any number, which are an install code or not.
abbrev pub code_of : List ℕ → Option (Option (List ℕ))
code_of word = option_map (λ bytes. if is_code bytes then Some bytes else None) (bytes_of (length word) word)

-- ---- declarations, after their first word

abbrev pub node_of : List (List ℕ) → Option Sentence
node_of ws = do
  name ← field name_of ws
  role ← field role_of name.1
  eui ← field real_eui_of role.1
  short ← field short_of eui.1
  out_block ← field (number_of greatest) short.1
  in_block ← field (number_of greatest) out_block.1
  end ← nothing in_block.1
  if is_short_of role.0 short.0 then Some (Introduces name.0 role.0 eui.0 short.0 out_block.0 in_block.0) else None

abbrev pub code_line_of : List (List ℕ) → Option Sentence
code_line_of ws = do
  name ← field name_of ws
  code ← field code_of name.1
  end ← nothing code.1
  Some (Codes name.0 code.0)

abbrev pub netkey_of : List (List ℕ) → Option Sentence
netkey_of ws = do
  name ← field name_of ws
  key ← field key_of name.1
  sequence ← field (number_of 255) key.1
  end ← nothing sequence.1
  Some (Holds name.0 key.0 sequence.0)

abbrev pub counter_of : List (List ℕ) → Option Sentence
counter_of ws = do
  name ← field name_of ws
  layer ← field layer_of name.1
  limit ← field (number_of greatest) layer.1
  end ← nothing limit.1
  Some (Starts name.0 layer.0 limit.0)

abbrev pub draw_of : List (List ℕ) → Option Sentence
draw_of ws = do
  key ← field key_of ws
  end ← nothing key.1
  Some (Draws key.0)

-- ---- events, after their first word

abbrev pub name_alone : List (List ℕ) → Option Bytes
name_alone ws = do
  name ← field name_of ws
  end ← nothing name.1
  Some name.0

abbrev pub two_names : List (List ℕ) → Option (Bytes × Bytes)
two_names ws = do
  first ← field name_of ws
  second ← field name_of first.1
  end ← nothing second.1
  Some (first.0, second.0)

abbrev pub say_of : List (List ℕ) → Option Event
say_of ws = do
  name ← field name_of ws
  to ← field short_of name.1
  bytes ← field (bytes_of longest_content) to.1
  end ← nothing bytes.1
  Some (Says name.0 to.0 bytes.0)

abbrev pub deliver_of : List (List ℕ) → Option Event
deliver_of ws = do
  frame ← field (number_from 1 greatest) ws
  name ← field name_of frame.1
  end ← nothing name.1
  Some (Delivers frame.0 name.0)

abbrev pub child_of : List (List ℕ) → Option Event
child_of ws = do
  parent ← field name_of ws
  name ← field name_of parent.1
  rejoin ← field rejoin_of name.1
  end ← nothing rejoin.1
  Some (Adopts parent.0 name.0 rejoin.0)

abbrev pub remove_of : List (List ℕ) → Option Event
remove_of ws = do
  name ← field name_of ws
  via ← field (literal (codes "via")) name.1
  parent ← field name_of via.1
  end ← nothing parent.1
  Some (Removes name.0 parent.0)

abbrev pub stop_of : List (List ℕ) → Option Event
stop_of ws = do
  name ← field name_of ws
  calls ← field (number_of 5) name.1
  torn ← field (bytes_of longest_torn) calls.1
  end ← nothing torn.1
  Some (Stops name.0 calls.0 torn.0)

abbrev pub fail_of : List (List ℕ) → Option Event
fail_of ws = do
  name ← field name_of ws
  call ← field (number_from 1 6) name.1
  end ← nothing call.1
  Some (Fails name.0 call.0)

abbrev pub inject_of : List (List ℕ) → Option Event
inject_of ws = do
  bytes ← field (some_bytes_of longest_frame) ws
  end ← nothing bytes.1
  Some (Injects bytes.0)

abbrev pub tell_of : List (List ℕ) → Option Event
tell_of ws = do
  name ← field name_of ws
  partner ← field name_of name.1
  bytes ← field (bytes_of longest_content) partner.1
  end ← nothing bytes.1
  Some (Tells name.0 partner.0 bytes.0)

-- A provision with its install code or without one.
abbrev pub provided : Bytes → Option Bytes → Sentence
provided name None = Misprovisions name
provided name (Some code) = Happens (Provisions name code)

abbrev pub provision_of : List (List ℕ) → Option Sentence
provision_of ws = do
  name ← field name_of ws
  code ← field code_of name.1
  end ← nothing code.1
  Some (provided name.0 code.0)

-- ---- forged frames

-- The APS part of a forged frame.
pub record Sealed : Type 0 where
  pub label : Label
  pub base : Bytes
  pub counter : ℕ
  pub command : Bytes

abbrev pub sealed_of : List (List ℕ) → Option Sealed
sealed_of ws = do
  label ← field aps_label_of ws
  base ← field key_of label.1
  counter ← field (number_of greatest) base.1
  command ← field (some_bytes_of longest_content) counter.1
  end ← nothing command.1
  Some (record { label = label.0; base = base.0; counter = counter.0; command = command.0 })

-- The content of a forged frame as its last word.
abbrev pub last_content : List ℕ → List (List ℕ) → Option Bytes
last_content word ws = do
  content ← some_bytes_of longest_content word
  end ← nothing ws
  Some content

abbrev pub forge_content : ℕ → ℕ → ℕ → Bytes → ℕ → ℕ → List ℕ → List (List ℕ) → Option Event
forge_content to from source key sequence counter word ws =
    if bytes_eq word (codes "aps")
    then option_map
    (λ part. ForgesBoth to from source key sequence counter part.label part.base part.counter part.command)
    (sealed_of ws)
    else option_map (λ content. ForgesNet to from source key sequence counter content) (last_content word ws)

abbrev pub forge_net_of : ℕ → ℕ → ℕ → List (List ℕ) → Option Event
forge_net_of to from source ws = do
  key ← field key_of ws
  sequence ← field (number_of 255) key.1
  counter ← field (number_of greatest) sequence.1
  next ← first_of counter.1
  forge_content to from source key.0 sequence.0 counter.0 next.0 next.1

abbrev pub forge_open_of : ℕ → ℕ → ℕ → List (List ℕ) → Option Event
forge_open_of to from source ws = do
  aps ← field (literal (codes "aps")) ws
  part ← sealed_of aps.1
  Some (ForgesOpen to from source part.label part.base part.counter part.command)

abbrev pub forge_of : List (List ℕ) → Option Event
forge_of ws = do
  to ← field short_of ws
  from ← field short_of to.1
  source ← field real_eui_of from.1
  kind ← first_of source.1
  if bytes_eq kind.0 (codes "net") then forge_net_of to.0 from.0 source.0 kind.1
      else if bytes_eq kind.0 (codes "open") then forge_open_of to.0 from.0 source.0 kind.1 else None

-- ---- lines

-- Events of one node.
abbrev pub own_event : List ℕ → List (List ℕ) → Option Event
own_event word ws =
    if bytes_eq word (codes "say") then say_of ws
    else if bytes_eq word (codes "deliver") then deliver_of ws
    else if bytes_eq word (codes "timer") then option_map Ticks (name_alone ws)
    else if bytes_eq word (codes "knock") then option_map Knocks (name_alone ws)
    else if bytes_eq word (codes "rejoin") then option_map Rejoins (name_alone ws)
    else if bytes_eq word (codes "reset") then option_map Resets (name_alone ws)
    else if bytes_eq word (codes "boot") then option_map Boots (name_alone ws)
    else if bytes_eq word (codes "dump") then option_map Dumps (name_alone ws)
    else if bytes_eq word (codes "stop") then stop_of ws
    else if bytes_eq word (codes "fail") then fail_of ws
    else None

-- Events of the centre, of two nodes, and of the air.
abbrev pub other_event : List ℕ → List (List ℕ) → Option Event
other_event word ws =
    if bytes_eq word (codes "inject") then inject_of ws
    else if bytes_eq word (codes "forge") then forge_of ws
    else if bytes_eq word (codes "child") then child_of ws
    else if bytes_eq word (codes "again") then option_map Repeats (name_alone ws)
    else if bytes_eq word (codes "roll") then option_map (λ end. Rolls) (nothing ws)
    else if bytes_eq word (codes "switch") then option_map (λ end. Switches) (nothing ws)
    else if bytes_eq word (codes "remove") then remove_of ws
    else if bytes_eq word (codes "ask") then option_map (λ names. Asks names.0 names.1) (two_names ws)
    else if bytes_eq word (codes "share") then option_map (λ names. Shares names.0 names.1) (two_names ws)
    else if bytes_eq word (codes "tell") then tell_of ws
    else None

abbrev pub declaration : List ℕ → List (List ℕ) → Option Sentence
declaration word ws =
    if bytes_eq word (codes "node") then node_of ws
    else if bytes_eq word (codes "code") then code_line_of ws
    else if bytes_eq word (codes "netkey") then netkey_of ws
    else if bytes_eq word (codes "counter") then counter_of ws
    else if bytes_eq word (codes "draw") then draw_of ws
    else if bytes_eq word (codes "provision") then provision_of ws
    else None

-- The first of two that is there.
abbrev pub or_else : {A : Type 0} → Option A → Option A → Option A
or_else None other = other
or_else (Some x) other = Some x

-- An empty line or a comment.
abbrev pub is_quiet : List ℕ → Bool
is_quiet line = length line == 0 || slice_index line 0 == 35

-- What a line says. None is a line that says nothing.
abbrev pub meaning_of : List ℕ → Option Sentence
meaning_of line =
    if is_quiet line then Some Quiet
    else do
      first ← first_of (words (Some line))
      or_else (option_map Happens (own_event first.0 first.1))
          (or_else (declaration first.0 first.1) (option_map Happens (other_event first.0 first.1)))
