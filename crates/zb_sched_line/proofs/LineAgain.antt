-- The printed lines read as themselves.
use Rattle.std.proofs.Common.{◌≡◌, ℕ, ◌==◌, ◌^◌, ◌<◌, ◌≤◌, nat_lt, nat_le, List, [], ◌∷◌, ◌++◌, length, Bool, true, false, Option, Some, refl, arith, ap, ◌∙◌, codes, decimal, bytes_eq}
use Rattle.std.specs.List.{AllByRecursion}
use Rattle.std.specs.Option.{option_map}
use Rattle.std.proofs.lemmas.Bool.Decides.{nat_tests}
use Rattle.hex.specs.Hex.{encode_upper, upper_digits}
use Rattle.hex.proofs.HexLemmas.{length-encode_with}
use Rattle.zb_base.specs.declared.label.Label.{Label}
use Rattle.zb_base.specs.declared.label.Layer.{Layer}
use Rattle.zb_base.specs.declared.node.Role.{Role}
use Rattle.zb_text.specs.Choices.{role_text, layer_text, label_text}
use Rattle.zb_text.specs.Fields.{eui_text, short_text, key_of}
use Rattle.zb_text.specs.Hexadecimal.{bytes_text}
use Rattle.zb_text.specs.Pages.{IsWord, IsLine, line_of_words}
use Rattle.zb_text.proofs.ChoiceLemmas.{role_again, role_words, layer_again, layer_words, label_again, label_words}
use Rattle.zb_text.proofs.ReadAgain.{words_again, differ, number_again, name_again, eui_again, short_again, fixed_again, bytes_again, IsWord-name, IsWord-decimal, IsWord-digits, IsWord-bytes, eui_words, short_words, IsLine-words}
use Rattle.zb_sched_line.specs.Fits.{IsName, IsEui, IsKey, SomeUpTo, IsCode, IsApsLabel, FitsEvent, FitsSentence}
use Rattle.zb_sched_line.specs.Grammar.{greatest, number_from, real_eui_of, some_bytes_of, aps_label_of, rejoin_of, code_of as word_of_code, or_else, own_event, other_event, declaration, is_quiet, meaning_of}
use Rattle.zb_sched_line.specs.Said.{Bytes, Event, Says, Delivers, Ticks, Knocks, Rejoins, Adopts, Provisions, Repeats, Rolls, Switches, Removes, Resets, Boots, Dumps, Stops, Fails, Injects, ForgesNet, ForgesBoth, ForgesOpen, Asks, Shares, Tells, Sentence, Introduces, Codes, Holds, Starts, Draws, Happens}
use Rattle.zb_sched_line.specs.Texts.{rejoin_text, node_words, code_words, netkey_words, counter_words, draw_words, event_words}

-- what a line means, from its words
abbrev said : List ℕ → List (List ℕ) → Option Sentence
said word ws = or_else (option_map Happens (own_event word ws))
    (or_else (declaration word ws) (option_map Happens (other_event word ws)))

not_quiet : (b : ℕ) (bs : List ℕ) → (b == 35) ≡ false → is_quiet (b ∷ bs) ≡ false
not_quiet b bs other = let some : (length (b ∷ bs) == 0) ≡ false = grind (arith, nat_tests) in rw (some, other) refl

first_byte : (b : ℕ) (bs : List ℕ) (ws : List (List ℕ)) → (rest : List ℕ) × (line_of_words ((b ∷ bs) ∷ ws) ≡ b ∷ rest)
first_byte b bs [] = (bs, refl)
first_byte b bs (w ∷ ws) = (bs ++ 32 ∷ line_of_words (w ∷ ws), refl)

meaning_again : (b : ℕ) (bs : List ℕ) (ws : List (List ℕ)) → (b == 35) ≡ false → IsWord (b ∷ bs)
    → AllByRecursion IsWord ws
    → meaning_of (line_of_words ((b ∷ bs) ∷ ws)) ≡ said (b ∷ bs) ws
meaning_again b bs ws other word words_fit =
    let first = first_byte b bs ws in
    let loud : is_quiet (line_of_words ((b ∷ bs) ∷ ws)) ≡ false = ap is_quiet first.1 ∙ not_quiet b first.0 other in
    rw (loud, words_again (b ∷ bs) ws word words_fit) refl

-- ---- words

number_from_again : (low high n : ℕ) → low ≤ n → n ≤ high → n < 2 ^ 64 → number_from low high (decimal n) ≡ Some n
number_from_again low high n least most lt = let test : nat_le low n ≡ true =
    grind (arith, nat_tests) in rw (number_again high n most lt, test) refl

real_eui_again : (eui : ℕ) → IsEui eui → real_eui_of (eui_text eui) ≡ Some eui
real_eui_again eui fits = rw (eui_again eui fits.0, fits.1) refl

some_bytes_again : (limit : ℕ) (bytes : Bytes) → SomeUpTo limit bytes → some_bytes_of limit (bytes_text bytes)
    ≡ Some bytes
some_bytes_again limit bytes fits = let some : nat_lt 0 (length bytes) ≡ true =
    grind (arith, nat_tests, fits.0) in rw (bytes_again limit bytes fits.1 fits.2, some) refl

key_again : (key : Bytes) → IsKey key → key_of (encode_upper key) ≡ Some key
key_again key fits = fixed_again key 16 fits.0 fits.1

aps_label_again : (label : Label) → IsApsLabel label → aps_label_of (label_text label) ≡ Some label
aps_label_again label fits = rw (label_again label, fits) refl

rejoin_again : (rejoin : Bool) → rejoin_of (rejoin_text rejoin) ≡ Some rejoin
rejoin_again true = refl
rejoin_again false = refl

IsWord-rejoin : (rejoin : Bool) → IsWord (rejoin_text rejoin)
IsWord-rejoin true = refl
IsWord-rejoin false = refl

-- the content of a forged frame is no keyword
not_aps : (limit : ℕ) (bytes : Bytes) → SomeUpTo limit bytes → bytes_eq (bytes_text bytes) (codes "aps") ≡ false
not_aps limit [] fits = absurd (omega (arith, fits.0))
not_aps limit (b ∷ bs) fits = differ (encode_upper (b ∷ bs)) (codes "aps")
    (λ same. absurd (omega (arith, length-encode_with upper_digits (b ∷ bs), same)))

-- ---- declarations

pub node_again : (name : Bytes) (role : Role) (eui short out_block in_block : ℕ)
    → FitsSentence (Introduces name role eui short out_block in_block)
    → meaning_of (line_of_words (node_words name role eui short out_block in_block))
    ≡ Some (Introduces name role eui short out_block in_block)
node_again name role eui short out_block in_block fits =
    meaning_again 110 (111 ∷ 100 ∷ 101 ∷ [])
    (name ∷ role_text role ∷ eui_text eui ∷ short_text short ∷ decimal out_block ∷ decimal in_block ∷ []) refl refl (
      IsWord-name name fits.0,
      (
        role_words role,
        (
          eui_words eui,
          (
            short_words short,
            (IsWord-decimal out_block (omega (arith, fits.4)), (IsWord-decimal in_block (omega (arith, fits.5)), tt)),
          ),
        ),
      ),
    )
    ∙ rw (
      name_again name fits.0,
      role_again role,
      real_eui_again eui fits.1,
      short_again short fits.3,
      number_again greatest out_block fits.4 (omega (arith, fits.4)),
      number_again greatest in_block fits.5 (omega (arith, fits.5)),
      fits.2,
    ) refl

pub netkey_again : (name key : Bytes) (sequence : ℕ) → FitsSentence (Holds name key sequence)
    → meaning_of (line_of_words (netkey_words name key sequence)) ≡ Some (Holds name key sequence)
netkey_again name key sequence fits =
    meaning_again 110 (101 ∷ 116 ∷ 107 ∷ 101 ∷ 121 ∷ []) (name ∷ encode_upper key ∷ decimal sequence ∷ []) refl refl
    (IsWord-name name fits.0, (IsWord-digits key fits.1.1, (IsWord-decimal sequence (omega (arith, fits.2)), tt)))
    ∙ rw (name_again name fits.0, key_again key fits.1, number_again 255 sequence fits.2 (omega (arith, fits.2))) refl

pub counter_again : (name : Bytes) (layer : Layer) (limit : ℕ) → FitsSentence (Starts name layer limit)
    → meaning_of (line_of_words (counter_words name layer limit)) ≡ Some (Starts name layer limit)
counter_again name layer limit fits =
    meaning_again 99 (111 ∷ 117 ∷ 110 ∷ 116 ∷ 101 ∷ 114 ∷ []) (name ∷ layer_text layer ∷ decimal limit ∷ []) refl refl
    (IsWord-name name fits.0, (layer_words layer, (IsWord-decimal limit (omega (arith, fits.1)), tt)))
    ∙ rw (name_again name fits.0, layer_again layer, number_again greatest limit fits.1 (omega (arith, fits.1))) refl

pub draw_again : (key : Bytes) → FitsSentence (Draws key) → meaning_of (line_of_words (draw_words key))
    ≡ Some (Draws key)
draw_again key fits =
    meaning_again 100 (114 ∷ 97 ∷ 119 ∷ []) (encode_upper key ∷ []) refl refl (IsWord-digits key fits.1, tt) ∙ rw
    (key_again key fits) refl

-- ---- events

timer_again : (name : Bytes) → FitsEvent (Ticks name) → meaning_of (line_of_words (event_words (Ticks name)))
    ≡ Some (Happens (Ticks name))
timer_again name fits =
    meaning_again 116 (105 ∷ 109 ∷ 101 ∷ 114 ∷ []) (name ∷ []) refl refl
    (IsWord-name name fits, tt) ∙ rw (name_again name fits) refl

knock_again : (name : Bytes) → FitsEvent (Knocks name) → meaning_of (line_of_words (event_words (Knocks name)))
    ≡ Some (Happens (Knocks name))
knock_again name fits =
    meaning_again 107 (110 ∷ 111 ∷ 99 ∷ 107 ∷ []) (name ∷ []) refl refl
    (IsWord-name name fits, tt) ∙ rw (name_again name fits) refl

rejoin_line_again : (name : Bytes) → FitsEvent (Rejoins name)
    → meaning_of (line_of_words (event_words (Rejoins name))) ≡ Some (Happens (Rejoins name))
rejoin_line_again name fits =
    meaning_again 114 (101 ∷ 106 ∷ 111 ∷ 105 ∷ 110 ∷ []) (name ∷ []) refl refl
    (IsWord-name name fits, tt) ∙ rw (name_again name fits) refl

repeat_again : (name : Bytes) → FitsEvent (Repeats name) → meaning_of (line_of_words (event_words (Repeats name)))
    ≡ Some (Happens (Repeats name))
repeat_again name fits =
    meaning_again 97 (103 ∷ 97 ∷ 105 ∷ 110 ∷ []) (name ∷ []) refl refl
    (IsWord-name name fits, tt) ∙ rw (name_again name fits) refl

reset_again : (name : Bytes) → FitsEvent (Resets name) → meaning_of (line_of_words (event_words (Resets name)))
    ≡ Some (Happens (Resets name))
reset_again name fits =
    meaning_again 114 (101 ∷ 115 ∷ 101 ∷ 116 ∷ []) (name ∷ []) refl refl
    (IsWord-name name fits, tt) ∙ rw (name_again name fits) refl

boot_again : (name : Bytes) → FitsEvent (Boots name) → meaning_of (line_of_words (event_words (Boots name)))
    ≡ Some (Happens (Boots name))
boot_again name fits =
    meaning_again 98 (111 ∷ 111 ∷ 116 ∷ []) (name ∷ []) refl refl
    (IsWord-name name fits, tt) ∙ rw (name_again name fits) refl

dump_again : (name : Bytes) → FitsEvent (Dumps name) → meaning_of (line_of_words (event_words (Dumps name)))
    ≡ Some (Happens (Dumps name))
dump_again name fits =
    meaning_again 100 (117 ∷ 109 ∷ 112 ∷ []) (name ∷ []) refl refl
    (IsWord-name name fits, tt) ∙ rw (name_again name fits) refl

say_again : (name : Bytes) (to : ℕ) (bytes : Bytes) → FitsEvent (Says name to bytes)
    → meaning_of (line_of_words (event_words (Says name to bytes))) ≡ Some (Happens (Says name to bytes))
say_again name to bytes fits =
    meaning_again 115 (97 ∷ 121 ∷ []) (name ∷ short_text to ∷ bytes_text bytes ∷ []) refl refl
    (IsWord-name name fits.0, (short_words to, (IsWord-bytes bytes fits.2.1, tt))) ∙ rw
    (name_again name fits.0, short_again to fits.1, bytes_again 64 bytes fits.2.0 fits.2.1) refl

deliver_again : (frame : ℕ) (name : Bytes) → FitsEvent (Delivers frame name)
    → meaning_of (line_of_words (event_words (Delivers frame name))) ≡ Some (Happens (Delivers frame name))
deliver_again frame name fits =
    meaning_again 100 (101 ∷ 108 ∷ 105 ∷ 118 ∷ 101 ∷ 114 ∷ []) (decimal frame ∷ name ∷ []) refl refl
    (IsWord-decimal frame (omega (arith, fits.1)), (IsWord-name name fits.2, tt)) ∙ rw
    (number_from_again 1 greatest frame fits.0 fits.1 (omega (arith, fits.1)), name_again name fits.2) refl

child_again : (parent : Bytes) (name : Bytes) (rejoin : Bool) → FitsEvent (Adopts parent name rejoin)
    → meaning_of (line_of_words (event_words (Adopts parent name rejoin))) ≡ Some (Happens (Adopts parent name rejoin))
child_again parent name rejoin fits =
    meaning_again 99 (104 ∷ 105 ∷ 108 ∷ 100 ∷ []) (parent ∷ name ∷ rejoin_text rejoin ∷ []) refl refl
    (IsWord-name parent fits.0, (IsWord-name name fits.1, (IsWord-rejoin rejoin, tt))) ∙ rw
    (name_again parent fits.0, name_again name fits.1, rejoin_again rejoin) refl

roll_again : FitsEvent Rolls → meaning_of (line_of_words (event_words Rolls)) ≡ Some (Happens Rolls)
roll_again fits =
    meaning_again 114 (111 ∷ 108 ∷ 108 ∷ []) ([]) refl refl
    tt

switch_again : FitsEvent Switches → meaning_of (line_of_words (event_words Switches)) ≡ Some (Happens Switches)
switch_again fits =
    meaning_again 115 (119 ∷ 105 ∷ 116 ∷ 99 ∷ 104 ∷ []) ([]) refl refl
    tt

remove_again : (name : Bytes) (parent : Bytes) → FitsEvent (Removes name parent)
    → meaning_of (line_of_words (event_words (Removes name parent))) ≡ Some (Happens (Removes name parent))
remove_again name parent fits =
    meaning_again 114 (101 ∷ 109 ∷ 111 ∷ 118 ∷ 101 ∷ []) (name ∷ codes "via" ∷ parent ∷ []) refl refl
    (IsWord-name name fits.0, (refl, (IsWord-name parent fits.1, tt))) ∙ rw
    (name_again name fits.0, name_again parent fits.1) refl

stop_again : (name : Bytes) (calls : ℕ) (torn : Bytes) → FitsEvent (Stops name calls torn)
    → meaning_of (line_of_words (event_words (Stops name calls torn))) ≡ Some (Happens (Stops name calls torn))
stop_again name calls torn fits =
    meaning_again 115 (116 ∷ 111 ∷ 112 ∷ []) (name ∷ decimal calls ∷ bytes_text torn ∷ []) refl refl
    (IsWord-name name fits.0, (IsWord-decimal calls (omega (arith, fits.1)), (IsWord-bytes torn fits.2.1, tt))) ∙ rw (
      name_again name fits.0,
      number_again 5 calls fits.1 (omega (arith, fits.1)),
      bytes_again 32 torn fits.2.0 fits.2.1,
    ) refl

fail_again : (name : Bytes) (call : ℕ) → FitsEvent (Fails name call)
    → meaning_of (line_of_words (event_words (Fails name call))) ≡ Some (Happens (Fails name call))
fail_again name call fits =
    meaning_again 102 (97 ∷ 105 ∷ 108 ∷ []) (name ∷ decimal call ∷ []) refl refl
    (IsWord-name name fits.0, (IsWord-decimal call (omega (arith, fits.2)), tt)) ∙ rw
    (name_again name fits.0, number_from_again 1 6 call fits.1 fits.2 (omega (arith, fits.2))) refl

inject_again : (bytes : Bytes) → FitsEvent (Injects bytes) → meaning_of (line_of_words (event_words (Injects bytes)))
    ≡ Some (Happens (Injects bytes))
inject_again bytes fits =
    meaning_again 105 (110 ∷ 106 ∷ 101 ∷ 99 ∷ 116 ∷ []) (bytes_text bytes ∷ []) refl refl
    (IsWord-bytes bytes fits.2, tt) ∙ rw (some_bytes_again 127 bytes fits) refl

ask_again : (name : Bytes) (partner : Bytes) → FitsEvent (Asks name partner)
    → meaning_of (line_of_words (event_words (Asks name partner))) ≡ Some (Happens (Asks name partner))
ask_again name partner fits =
    meaning_again 97 (115 ∷ 107 ∷ []) (name ∷ partner ∷ []) refl refl
    (IsWord-name name fits.0, (IsWord-name partner fits.1, tt)) ∙ rw
    (name_again name fits.0, name_again partner fits.1) refl

share_again : (name : Bytes) (partner : Bytes) → FitsEvent (Shares name partner)
    → meaning_of (line_of_words (event_words (Shares name partner))) ≡ Some (Happens (Shares name partner))
share_again name partner fits =
    meaning_again 115 (104 ∷ 97 ∷ 114 ∷ 101 ∷ []) (name ∷ partner ∷ []) refl refl
    (IsWord-name name fits.0, (IsWord-name partner fits.1, tt)) ∙ rw
    (name_again name fits.0, name_again partner fits.1) refl

tell_again : (name : Bytes) (partner : Bytes) (bytes : Bytes) → FitsEvent (Tells name partner bytes)
    → meaning_of (line_of_words (event_words (Tells name partner bytes))) ≡ Some (Happens (Tells name partner bytes))
tell_again name partner bytes fits =
    meaning_again 116 (101 ∷ 108 ∷ 108 ∷ []) (name ∷ partner ∷ bytes_text bytes ∷ []) refl refl
    (IsWord-name name fits.0, (IsWord-name partner fits.1, (IsWord-bytes bytes fits.2.1, tt))) ∙ rw
    (name_again name fits.0, name_again partner fits.1, bytes_again 64 bytes fits.2.0 fits.2.1) refl

forge_net_again : (to : ℕ) (from : ℕ) (source : ℕ) (key : Bytes) (sequence : ℕ) (counter : ℕ) (content : Bytes)
    → FitsEvent (ForgesNet to from source key sequence counter content)
    → meaning_of (line_of_words (event_words (ForgesNet to from source key sequence counter content)))
    ≡ Some (Happens (ForgesNet to from source key sequence counter content))
forge_net_again to from source key sequence counter content fits =
    meaning_again 102 (111 ∷ 114 ∷ 103 ∷ 101 ∷ [])
    (short_text to ∷ short_text from ∷ eui_text source ∷ codes "net" ∷ encode_upper key ∷ decimal sequence
    ∷ decimal counter ∷ bytes_text content ∷ []) refl refl (
      short_words to,
      (
        short_words from,
        (
          eui_words source,
          (
            refl,
            (
              IsWord-digits key fits.3.1,
              (
                IsWord-decimal sequence (omega (arith, fits.4)),
                (IsWord-decimal counter (omega (arith, fits.5)), (IsWord-bytes content fits.6.2, tt)),
              ),
            ),
          ),
        ),
      ),
    ) ∙ rw (
      short_again to fits.0,
      short_again from fits.1,
      real_eui_again source fits.2,
      key_again key fits.3,
      number_again 255 sequence fits.4 (omega (arith, fits.4)),
      number_again greatest counter fits.5
          (omega (arith, fits.5)),
      not_aps 64 content fits.6,
      some_bytes_again 64 content fits.6,
    ) refl

forge_both_again : (to : ℕ) (from : ℕ) (source : ℕ) (key : Bytes) (sequence : ℕ) (counter : ℕ) (label : Label)
    (base : Bytes) (aps_counter : ℕ) (command : Bytes)
    → FitsEvent (ForgesBoth to from source key sequence counter label base aps_counter command)
    → meaning_of
    (line_of_words (event_words (ForgesBoth to from source key sequence counter label base aps_counter command)))
    ≡ Some (Happens (ForgesBoth to from source key sequence counter label base aps_counter command))
forge_both_again to from source key sequence counter label base aps_counter command fits =
    meaning_again 102 (111 ∷ 114 ∷ 103 ∷ 101 ∷ [])
    (short_text to ∷ short_text from ∷ eui_text source ∷ codes "net" ∷ encode_upper key ∷ decimal sequence
    ∷ decimal counter ∷ codes "aps" ∷ label_text label ∷ encode_upper base ∷ decimal aps_counter
    ∷ bytes_text command ∷ []) refl refl (
      short_words to,
      (
        short_words from,
        (
          eui_words source,
          (
            refl,
            (
              IsWord-digits key fits.3.1,
              (
                IsWord-decimal sequence (omega (arith, fits.4)),
                (
                  IsWord-decimal counter (omega (arith, fits.5)),
                  (
                    refl,
                    (
                      label_words label,
                      (
                        IsWord-digits base fits.6.1.1,
                        (IsWord-decimal aps_counter (omega (arith, fits.6.2)), (IsWord-bytes command fits.6.3.2, tt)),
                      ),
                    ),
                  ),
                ),
              ),
            ),
          ),
        ),
      ),
    ) ∙ rw (
      short_again to fits.0,
      short_again from fits.1,
      real_eui_again source fits.2,
      key_again key fits.3,
      number_again 255 sequence fits.4 (omega (arith, fits.4)),
      number_again greatest counter fits.5
          (omega (arith, fits.5)),
      aps_label_again label fits.6.0,
      key_again base fits.6.1,
      number_again greatest aps_counter fits.6.2 (omega (arith, fits.6.2)),
      some_bytes_again 64 command fits.6.3,
    )
    refl

forge_open_again : (to : ℕ) (from : ℕ) (source : ℕ) (label : Label) (base : Bytes) (aps_counter : ℕ) (command : Bytes)
    → FitsEvent (ForgesOpen to from source label base aps_counter command)
    → meaning_of (line_of_words (event_words (ForgesOpen to from source label base aps_counter command)))
    ≡ Some (Happens (ForgesOpen to from source label base aps_counter command))
forge_open_again to from source label base aps_counter command fits =
    meaning_again 102 (111 ∷ 114 ∷ 103 ∷ 101 ∷ [])
    (short_text to ∷ short_text from ∷ eui_text source ∷ codes "open" ∷ codes "aps" ∷ label_text label
    ∷ encode_upper base ∷ decimal aps_counter ∷ bytes_text command ∷ []) refl refl (
      short_words to,
      (
        short_words from,
        (
          eui_words source,
          (
            refl,
            (
              refl,
              (
                label_words label,
                (
                  IsWord-digits base fits.3.1.1,
                  (IsWord-decimal aps_counter (omega (arith, fits.3.2)), (IsWord-bytes command fits.3.3.2, tt)),
                ),
              ),
            ),
          ),
        ),
      ),
    ) ∙ rw (
      short_again to fits.0,
      short_again from fits.1,
      real_eui_again source fits.2,
      aps_label_again label fits.3.0,
      key_again base fits.3.1,
      number_again greatest aps_counter fits.3.2 (omega (arith, fits.3.2)),
      some_bytes_again 64 command fits.3.3,
    ) refl

-- ---- install codes

text_is_longer : (bytes : Bytes) → length bytes ≤ length (bytes_text bytes)
text_is_longer [] = omega arith
text_is_longer (b ∷ bs) = omega (arith, length-encode_with upper_digits (b ∷ bs))

word_of_code_again : (code : Bytes) → IsCode code → word_of_code (bytes_text code) ≡ Some (Some code)
word_of_code_again code fits = rw (bytes_again (length (bytes_text code)) code (text_is_longer code) fits.1, fits.0)
    refl

pub code_again : (name code : Bytes) → IsName name → IsCode code → meaning_of (line_of_words (code_words name code))
    ≡ Some (Codes name (Some code))
code_again name code named fits =
    meaning_again 99 (111 ∷ 100 ∷ 101 ∷ []) (name ∷ bytes_text code ∷ []) refl refl
    (IsWord-name name named, (IsWord-bytes code fits.1, tt))
    ∙ rw (name_again name named, word_of_code_again code fits) refl

provision_again : (name code : Bytes) → FitsEvent (Provisions name code)
    → meaning_of (line_of_words (event_words (Provisions name code))) ≡ Some (Happens (Provisions name code))
provision_again name code fits =
    meaning_again 112 (114 ∷ 111 ∷ 118 ∷ 105 ∷ 115 ∷ 105 ∷ 111 ∷ 110 ∷ []) (name ∷ bytes_text code ∷ []) refl refl
    (IsWord-name name fits.0, (IsWord-bytes code fits.1.1, tt))
    ∙ rw (name_again name fits.0, word_of_code_again code fits.1) refl

-- ---- every event

pub event_again : (event : Event) → FitsEvent event → meaning_of (line_of_words (event_words event))
    ≡ Some (Happens event)
event_again (Says name to bytes) fits = say_again name to bytes fits
event_again (Delivers frame name) fits = deliver_again frame name fits
event_again (Ticks name) fits = timer_again name fits
event_again (Knocks name) fits = knock_again name fits
event_again (Rejoins name) fits = rejoin_line_again name fits
event_again (Adopts parent name rejoin) fits = child_again parent name rejoin fits
event_again (Provisions name code) fits = provision_again name code fits
event_again (Repeats name) fits = repeat_again name fits
event_again Rolls fits = roll_again fits
event_again Switches fits = switch_again fits
event_again (Removes name parent) fits = remove_again name parent fits
event_again (Resets name) fits = reset_again name fits
event_again (Boots name) fits = boot_again name fits
event_again (Dumps name) fits = dump_again name fits
event_again (Stops name calls torn) fits = stop_again name calls torn fits
event_again (Fails name call) fits = fail_again name call fits
event_again (Injects bytes) fits = inject_again bytes fits
event_again (ForgesNet to from source key sequence counter content) fits = forge_net_again to from source key sequence
    counter content fits
event_again (ForgesBoth to from source key sequence counter label base aps_counter command) fits =
    forge_both_again to from source key sequence counter label base aps_counter command fits
event_again (ForgesOpen to from source label base aps_counter command) fits =
    forge_open_again to from source label base aps_counter command fits
event_again (Asks name partner) fits = ask_again name partner fits
event_again (Shares name partner) fits = share_again name partner fits
event_again (Tells name partner bytes) fits = tell_again name partner bytes fits

-- ---- every printed line is a line

pub IsLine-node : (name : Bytes) (role : Role) (eui short out_block in_block : ℕ)
    → FitsSentence (Introduces name role eui short out_block in_block)
    → IsLine (line_of_words (node_words name role eui short out_block in_block))
IsLine-node name role eui short out_block in_block fits =
    IsLine-words (node_words name role eui short out_block in_block) (
      refl,
      (
        IsWord-name name fits.0,
        (
          role_words role,
          (
            eui_words eui,
            (
              short_words short,
              (
                IsWord-decimal out_block (omega (arith, fits.4)),
                (IsWord-decimal in_block (omega (arith, fits.5)), tt),
              ),
            ),
          ),
        ),
      ),
    )

pub IsLine-code : (name code : Bytes) → IsName name → IsCode code → IsLine (line_of_words (code_words name code))
IsLine-code name code named fits =
    IsLine-words (code_words name code) (refl, (IsWord-name name named, (IsWord-bytes code fits.1, tt)))

pub IsLine-netkey : (name key : Bytes) (sequence : ℕ) → FitsSentence (Holds name key sequence)
    → IsLine (line_of_words (netkey_words name key sequence))
IsLine-netkey name key sequence fits =
    IsLine-words (netkey_words name key sequence) (
      refl,
      (
        IsWord-name name fits.0,
        (IsWord-digits key fits.1.1, (IsWord-decimal sequence (omega (arith, fits.2)), tt)),
      ),
    )

pub IsLine-counter : (name : Bytes) (layer : Layer) (limit : ℕ) → FitsSentence (Starts name layer limit)
    → IsLine (line_of_words (counter_words name layer limit))
IsLine-counter name layer limit fits =
    IsLine-words (counter_words name layer limit)
    (refl, (IsWord-name name fits.0, (layer_words layer, (IsWord-decimal limit (omega (arith, fits.1)), tt))))

pub IsLine-draw : (key : Bytes) → FitsSentence (Draws key) → IsLine (line_of_words (draw_words key))
IsLine-draw key fits = IsLine-words (draw_words key) (refl, (IsWord-digits key fits.1, tt))

pub IsLine-event : (event : Event) → FitsEvent event → IsLine (line_of_words (event_words event))
IsLine-event (Ticks name) fits =
    IsLine-words (event_words (Ticks name)) (refl, (IsWord-name name fits, tt))
IsLine-event (Knocks name) fits =
    IsLine-words (event_words (Knocks name)) (refl, (IsWord-name name fits, tt))
IsLine-event (Rejoins name) fits =
    IsLine-words (event_words (Rejoins name)) (refl, (IsWord-name name fits, tt))
IsLine-event (Repeats name) fits =
    IsLine-words (event_words (Repeats name)) (refl, (IsWord-name name fits, tt))
IsLine-event (Resets name) fits =
    IsLine-words (event_words (Resets name)) (refl, (IsWord-name name fits, tt))
IsLine-event (Boots name) fits =
    IsLine-words (event_words (Boots name)) (refl, (IsWord-name name fits, tt))
IsLine-event (Dumps name) fits =
    IsLine-words (event_words (Dumps name)) (refl, (IsWord-name name fits, tt))
IsLine-event (Says name to bytes) fits =
    IsLine-words (event_words (Says name to bytes))
    (refl, (IsWord-name name fits.0, (short_words to, (IsWord-bytes bytes fits.2.1, tt))))
IsLine-event (Delivers frame name) fits =
    IsLine-words (event_words (Delivers frame name))
    (refl, (IsWord-decimal frame (omega (arith, fits.1)), (IsWord-name name fits.2, tt)))
IsLine-event (Adopts parent name rejoin) fits =
    IsLine-words (event_words (Adopts parent name rejoin))
    (refl, (IsWord-name parent fits.0, (IsWord-name name fits.1, (IsWord-rejoin rejoin, tt))))
IsLine-event Rolls fits =
    IsLine-words (event_words Rolls) (refl, tt)
IsLine-event Switches fits =
    IsLine-words (event_words Switches) (refl, tt)
IsLine-event (Removes name parent) fits =
    IsLine-words (event_words (Removes name parent))
    (refl, (IsWord-name name fits.0, (refl, (IsWord-name parent fits.1, tt))))
IsLine-event (Stops name calls torn) fits =
    IsLine-words (event_words (Stops name calls torn)) (
      refl,
      (
        IsWord-name name fits.0,
        (IsWord-decimal calls (omega (arith, fits.1)), (IsWord-bytes torn fits.2.1, tt)),
      ),
    )
IsLine-event (Fails name call) fits =
    IsLine-words (event_words (Fails name call))
    (refl, (IsWord-name name fits.0, (IsWord-decimal call (omega (arith, fits.2)), tt)))
IsLine-event (Injects bytes) fits =
    IsLine-words (event_words (Injects bytes)) (refl, (IsWord-bytes bytes fits.2, tt))
IsLine-event (Asks name partner) fits =
    IsLine-words (event_words (Asks name partner)) (refl, (IsWord-name name fits.0, (IsWord-name partner fits.1, tt)))
IsLine-event (Shares name partner) fits =
    IsLine-words (event_words (Shares name partner))
    (refl, (IsWord-name name fits.0, (IsWord-name partner fits.1, tt)))
IsLine-event (Tells name partner bytes) fits =
    IsLine-words (event_words (Tells name partner bytes))
    (refl, (IsWord-name name fits.0, (IsWord-name partner fits.1, (IsWord-bytes bytes fits.2.1, tt))))
IsLine-event (ForgesNet to from source key sequence counter content) fits =
    IsLine-words (event_words (ForgesNet to from source key sequence counter content)) (
      refl,
      (
        short_words to,
        (
          short_words from,
          (
            eui_words source,
            (
              refl,
              (
                IsWord-digits key fits.3.1,
                (
                  IsWord-decimal sequence (omega (arith, fits.4)),
                  (IsWord-decimal counter (omega (arith, fits.5)), (IsWord-bytes content fits.6.2, tt)),
                ),
              ),
            ),
          ),
        ),
      ),
    )
IsLine-event (ForgesBoth to from source key sequence counter label base aps_counter command) fits =
    IsLine-words (event_words (ForgesBoth to from source key sequence counter label base aps_counter command)) (
      refl,
      (
        short_words to,
        (
          short_words from,
          (
            eui_words source,
            (
              refl,
              (
                IsWord-digits key fits.3.1,
                (
                  IsWord-decimal sequence (omega (arith, fits.4)),
                  (
                    IsWord-decimal counter (omega (arith, fits.5)),
                    (
                      refl,
                      (
                        label_words label,
                        (
                          IsWord-digits base fits.6.1.1,
                          (
                            IsWord-decimal aps_counter (omega (arith, fits.6.2)),
                            (IsWord-bytes command fits.6.3.2, tt),
                          ),
                        ),
                      ),
                    ),
                  ),
                ),
              ),
            ),
          ),
        ),
      ),
    )
IsLine-event (ForgesOpen to from source label base aps_counter command) fits =
    IsLine-words (event_words (ForgesOpen to from source label base aps_counter command)) (
      refl,
      (
        short_words to,
        (
          short_words from,
          (
            eui_words source,
            (
              refl,
              (
                refl,
                (
                  label_words label,
                  (
                    IsWord-digits base fits.3.1.1,
                    (IsWord-decimal aps_counter (omega (arith, fits.3.2)), (IsWord-bytes command fits.3.3.2, tt)),
                  ),
                ),
              ),
            ),
          ),
        ),
      ),
    )
IsLine-event (Provisions name code) fits =
    IsLine-words (event_words (Provisions name code))
    (refl, (IsWord-name name fits.0, (IsWord-bytes code fits.1.1, tt)))
