-- The words of the printed lines.
use Rattle.std.specs.Prelude.{ℕ, List, [], ◌∷◌, codes, decimal, Bool, true, false}
use Rattle.hex.specs.Hex.{encode_upper}
use Rattle.zb_base.specs.declared.label.Label.{Label}
use Rattle.zb_base.specs.declared.label.Layer.{Layer}
use Rattle.zb_base.specs.declared.node.Role.{Role}
use Rattle.zb_text.specs.Choices.{role_text, layer_text, label_text}
use Rattle.zb_text.specs.Fields.{eui_text, short_text}
use Rattle.zb_text.specs.Hexadecimal.{bytes_text}
use Rattle.zb_text.specs.Pages.{line_of_words, ended}
use Rattle.zb_sched_line.specs.Said.{Bytes, Event, Says, Delivers, Ticks, Knocks, Rejoins, Adopts, Provisions, Repeats, Rolls, Switches, Removes, Resets, Boots, Dumps, Stops, Fails, Injects, ForgesNet, ForgesBoth, ForgesOpen, Asks, Shares, Tells}

abbrev pub rejoin_text : Bool → List ℕ
rejoin_text false = codes "join"
rejoin_text true = codes "rejoin"

-- The text of a line of some words, with its end.
abbrev pub text_of_words : List (List ℕ) → List ℕ
text_of_words words = ended (line_of_words words)

-- ---- declarations

abbrev pub node_words : Bytes → Role → ℕ → ℕ → ℕ → ℕ → List (List ℕ)
node_words name role eui short out_block in_block =
    codes "node" ∷ name ∷ role_text role ∷ eui_text eui ∷ short_text short ∷ decimal out_block ∷ decimal in_block ∷ []

abbrev pub code_words : Bytes → Bytes → List (List ℕ)
code_words name code = codes "code" ∷ name ∷ bytes_text code ∷ []

abbrev pub netkey_words : Bytes → Bytes → ℕ → List (List ℕ)
netkey_words name key sequence = codes "netkey" ∷ name ∷ encode_upper key ∷ decimal sequence ∷ []

abbrev pub counter_words : Bytes → Layer → ℕ → List (List ℕ)
counter_words name layer limit = codes "counter" ∷ name ∷ layer_text layer ∷ decimal limit ∷ []

abbrev pub draw_words : Bytes → List (List ℕ)
draw_words key = codes "draw" ∷ encode_upper key ∷ []

-- ---- events

abbrev pub sealed_words : Label → Bytes → ℕ → Bytes → List (List ℕ)
sealed_words label base counter command = codes "aps" ∷ label_text label ∷ encode_upper base ∷ decimal counter
    ∷ bytes_text command ∷ []

abbrev pub event_words : Event → List (List ℕ)
event_words (Says name to bytes) = codes "say" ∷ name ∷ short_text to ∷ bytes_text bytes ∷ []
event_words (Delivers frame name) = codes "deliver" ∷ decimal frame ∷ name ∷ []
event_words (Ticks name) = codes "timer" ∷ name ∷ []
event_words (Knocks name) = codes "knock" ∷ name ∷ []
event_words (Rejoins name) = codes "rejoin" ∷ name ∷ []
event_words (Adopts parent name rejoin) = codes "child" ∷ parent ∷ name ∷ rejoin_text rejoin ∷ []
event_words (Provisions name code) = codes "provision" ∷ name ∷ bytes_text code ∷ []
event_words (Repeats name) = codes "again" ∷ name ∷ []
event_words Rolls = codes "roll" ∷ []
event_words Switches = codes "switch" ∷ []
event_words (Removes name parent) = codes "remove" ∷ name ∷ codes "via" ∷ parent ∷ []
event_words (Resets name) = codes "reset" ∷ name ∷ []
event_words (Boots name) = codes "boot" ∷ name ∷ []
event_words (Dumps name) = codes "dump" ∷ name ∷ []
event_words (Stops name calls torn) = codes "stop" ∷ name ∷ decimal calls ∷ bytes_text torn ∷ []
event_words (Fails name call) = codes "fail" ∷ name ∷ decimal call ∷ []
event_words (Injects bytes) = codes "inject" ∷ bytes_text bytes ∷ []
event_words (ForgesNet to from source key sequence counter content) =
    codes "forge" ∷ short_text to ∷ short_text from ∷ eui_text source ∷ codes "net" ∷ encode_upper key
    ∷ decimal sequence ∷ decimal counter ∷ bytes_text content ∷ []
event_words (ForgesBoth to from source key sequence counter label base aps_counter command) =
    codes "forge" ∷ short_text to ∷ short_text from ∷ eui_text source ∷ codes "net" ∷ encode_upper key
    ∷ decimal sequence ∷ decimal counter
    ∷ sealed_words label base aps_counter command
event_words (ForgesOpen to from source label base aps_counter command) =
    codes "forge" ∷ short_text to ∷ short_text from ∷ eui_text source ∷ codes "open"
    ∷ sealed_words label base aps_counter command
event_words (Asks name partner) = codes "ask" ∷ name ∷ partner ∷ []
event_words (Shares name partner) = codes "share" ∷ name ∷ partner ∷ []
event_words (Tells name partner bytes) = codes "tell" ∷ name ∷ partner ∷ bytes_text bytes ∷ []

-- The text of an event's line.
abbrev pub event_text : Event → List ℕ
event_text event = text_of_words (event_words event)
