-- The ranges of what lines say.
use Rattle.std.specs.Prelude.{◌≡◌, ℕ, ◌^◌, ◌<◌, ◌≤◌, length, true, Option, Some, None, ⊤}
use Rattle.hex.specs.Hex.{IsBytes}
use Rattle.zb_text.specs.Fields.{is_name}
use Rattle.zb_sched_line.specs.Codes.{is_code}
use Rattle.zb_sched_line.specs.Grammar.{greatest, is_aps_label, is_real_eui, is_short_of, Sealed}
use Rattle.zb_sched_line.specs.Said.{Bytes, Event, Says, Delivers, Ticks, Knocks, Rejoins, Adopts, Provisions, Repeats, Rolls, Switches, Removes, Resets, Boots, Dumps, Stops, Fails, Injects, ForgesNet, ForgesBoth, ForgesOpen, Asks, Shares, Tells, Sentence, Quiet, Introduces, Codes, Holds, Starts, Draws, Misprovisions, Happens}
use Rattle.zb_base.specs.declared.label.Label.{Label}
use Rattle.zb_base.specs.Limits.{longest_frame, longest_content, longest_torn}

abbrev pub IsName : Bytes → Type 0
IsName name = is_name name ≡ true

abbrev pub IsEui : ℕ → Type 0
IsEui eui = (eui < 2 ^ 64) × (is_real_eui eui ≡ true)

abbrev pub IsKey : Bytes → Type 0
IsKey key = (length key ≡ 16) × IsBytes key

abbrev pub AtMost : ℕ → Bytes → Type 0
AtMost limit bytes = (length bytes ≤ limit) × IsBytes bytes

abbrev pub SomeUpTo : ℕ → Bytes → Type 0
SomeUpTo limit bytes = (0 < length bytes) × (length bytes ≤ limit) × IsBytes bytes

abbrev pub IsCode : Bytes → Type 0
IsCode code = (is_code code ≡ true) × IsBytes code

abbrev pub IsApsLabel : Label → Type 0
IsApsLabel label = is_aps_label label ≡ true

abbrev pub FitsSealed : Sealed → Type 0
FitsSealed part =
    IsApsLabel part.label × IsKey part.base × (part.counter ≤ greatest) × SomeUpTo longest_content part.command

abbrev pub FitsEvent : Event → Type 0
FitsEvent (Says name to bytes) = IsName name × (to < 2 ^ 16) × AtMost longest_content bytes
FitsEvent (Delivers frame name) = (1 ≤ frame) × (frame ≤ greatest) × IsName name
FitsEvent (Ticks name) = IsName name
FitsEvent (Knocks name) = IsName name
FitsEvent (Rejoins name) = IsName name
FitsEvent (Adopts parent name rejoin) = IsName parent × IsName name
FitsEvent (Provisions name code) = IsName name × IsCode code
FitsEvent (Repeats name) = IsName name
FitsEvent Rolls = ⊤
FitsEvent Switches = ⊤
FitsEvent (Removes name parent) = IsName name × IsName parent
FitsEvent (Resets name) = IsName name
FitsEvent (Boots name) = IsName name
FitsEvent (Dumps name) = IsName name
FitsEvent (Stops name calls torn) = IsName name × (calls ≤ 5) × AtMost longest_torn torn
FitsEvent (Fails name call) = IsName name × (1 ≤ call) × (call ≤ 6)
FitsEvent (Injects bytes) = SomeUpTo longest_frame bytes
FitsEvent (ForgesNet to from source key sequence counter content) =
    (to < 2 ^ 16) × (from < 2 ^ 16) × IsEui source × IsKey key × (sequence ≤ 255) × (counter ≤ greatest)
    × SomeUpTo longest_content content
FitsEvent (ForgesBoth to from source key sequence counter label base aps_counter command) =
    (to < 2 ^ 16) × (from < 2 ^ 16) × IsEui source × IsKey key × (sequence ≤ 255) × (counter ≤ greatest)
    × FitsSealed (record { label = label; base = base; counter = aps_counter; command = command })
FitsEvent (ForgesOpen to from source label base aps_counter command) =
    (to < 2 ^ 16) × (from < 2 ^ 16) × IsEui source
    × FitsSealed (record { label = label; base = base; counter = aps_counter; command = command })
FitsEvent (Asks name partner) = IsName name × IsName partner
FitsEvent (Shares name partner) = IsName name × IsName partner
FitsEvent (Tells name partner bytes) = IsName name × IsName partner × AtMost longest_content bytes

abbrev pub FitsCode : Option Bytes → Type 0
FitsCode None = ⊤
FitsCode (Some code) = IsCode code

abbrev pub FitsSentence : Sentence → Type 0
FitsSentence Quiet = ⊤
FitsSentence (Introduces name role eui short out_block in_block) =
    IsName name × IsEui eui × (is_short_of role short ≡ true) × (short < 2 ^ 16) × (out_block ≤ greatest)
    × (in_block ≤ greatest)
FitsSentence (Codes name code) = IsName name × FitsCode code
FitsSentence (Holds name key sequence) = IsName name × IsKey key × (sequence ≤ 255)
FitsSentence (Starts name layer limit) = IsName name × (limit ≤ greatest)
FitsSentence (Draws key) = IsKey key
FitsSentence (Misprovisions name) = IsName name
FitsSentence (Happens event) = FitsEvent event
