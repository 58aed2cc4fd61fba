-- How the words of a line are read. Each kind of line has a shape, which says what comes after its first words.
use Rattle.std.specs.Prelude.{ℕ, ◌==◌, nat_lt, List, [], ◌∷◌, length, map, codes, bytes_eq, Bool, if◌then◌else◌, Option, Some, None}
use Rattle.std.specs.List.{list_all}
use Rattle.std.specs.Option.{option_map, option_and_then}
use Rattle.std.specs.Result.{result_ok}
use Rattle.hex.specs.Hex.{decode_of}
use Rattle.zb_model.specs.Data.{Down, Malformed, NotForMe, Unsecured, NoKey, CounterMax, BadMic, Policy, NotMember, WrongState, KeysFull, RowsFull, NoDraw, CounterSpent, WrongHash, NoFrame}
use Rattle.zb_node_types.specs.Reasons.{reason_word, stale_word, key_old_word, key_in_use_word}
use Rattle.zb_text.specs.Fields.{name_of, eui_of, short_of, key_of}
use Rattle.zb_text.specs.Hexadecimal.{fixed_of, bytes_of}
use Rattle.zb_text.specs.Numbers.{number_of}
use Rattle.zb_text.specs.Words.{first_of, field, nothing}
use Rattle.zb_trace.specs.Text.{Word, Fixed, Chosen, Number, Called, CalledOrNobody, Address, ShortAddress, Secret, Octet, Octets, AllOctets, layers, labels, places}
use Rattle.zb_base.specs.Limits.{longest_frame, greatest_count}

-- What a place of a line may have.
pub data Field : Type 0 where
  OneOf : (among : List (List ℕ)) → Field
  UpTo : (limit : ℕ) → Field
  AName : Field
  ANameOrDash : Field
  AnAddress : Field
  AShort : Field
  AKey : Field
  AByte : Field
  SomeBytes : (limit : ℕ) → Field
  AllBytes : Field

abbrev pub choice : List (List ℕ) → List (List ℕ) → List ℕ → Option Word
choice among [] word = None
choice among (one ∷ more) word = if bytes_eq word one then Some (Chosen among one) else choice among more word

abbrev pub name_or_dash : List ℕ → Option (List ℕ)
name_or_dash word = if bytes_eq word (codes "-") then Some (codes "-") else name_of word

-- The bytes that a word spells, any number of them: `-` is no bytes, and others have two digits each.
abbrev pub all_bytes_of : List ℕ → Option (List ℕ)
all_bytes_of word =
    if bytes_eq word (codes "-") then Some []
    else if length word == 0 then None
    else result_ok (decode_of word)

-- Whether a word has no small letter. Hexadecimal digits are printed in capital letters.
abbrev pub lacks_small : List ℕ → Bool
lacks_small word = list_all (λ byte. nat_lt byte 97) word

-- What a word in capital letters is.
abbrev pub in_capitals : {X : Type 0} → (List ℕ → Option X) → List ℕ → Option X
in_capitals meaning word = if lacks_small word then meaning word else None

-- One byte.
abbrev pub octet_of : List ℕ → Option Word
octet_of (byte ∷ []) = Some (Octet byte)
octet_of _ = None

-- What a word is in a place.
abbrev pub value_of : Field → List ℕ → Option Word
value_of (OneOf among) word = choice among among word
value_of (UpTo limit) word = option_map (Number limit) (number_of limit word)
value_of AName word = option_map Called (name_of word)
value_of ANameOrDash word = option_map CalledOrNobody (name_or_dash word)
value_of AnAddress word = option_map Address (in_capitals eui_of word)
value_of AShort word = option_map ShortAddress (in_capitals short_of word)
value_of AKey word = option_map Secret (in_capitals key_of word)
value_of AByte word = option_and_then octet_of (in_capitals (fixed_of 1) word)
value_of (SomeBytes limit) word = option_map (Octets limit) (in_capitals (bytes_of limit) word)
value_of AllBytes word = option_map AllOctets (in_capitals all_bytes_of word)

-- What words are in the places of a shape, if nothing comes after them.
abbrev pub shaped : List Field → List (List ℕ) → Option (List Word)
shaped [] words = option_map (λ _. []) (nothing words)
shaped (place ∷ more) words =
    option_and_then (λ (taken : Word × List (List ℕ)). option_map (λ behind. taken.0 ∷ behind) (shaped more taken.1))
    (field (value_of place) words)

-- The shapes

abbrev pub a_count : Field
a_count = UpTo greatest_count

abbrev pub a_sequence : Field
a_sequence = UpTo 255

abbrev pub a_layer : Field
a_layer = OneOf layers

-- A term: layer, label, base key, source, counter, control byte, header, content.
abbrev pub a_term : List Field
a_term =
    a_layer ∷ OneOf labels ∷ AKey ∷ AnAddress ∷ a_count ∷ AByte
    ∷ SomeBytes longest_frame ∷ SomeBytes longest_frame ∷ []

-- Words after a word that says which of two forms they have.
abbrev pub two_forms : List ℕ → List Field → List ℕ → List Field → List (List ℕ) → Option (List Word)
two_forms one first other second words =
    option_and_then (λ (taken : List ℕ × List (List ℕ)).
    if bytes_eq taken.0 one then option_map (λ behind. Fixed one ∷ behind) (shaped first taken.1)
    else if bytes_eq taken.0 other then option_map (λ behind. Fixed other ∷ behind) (shaped second taken.1)
    else None)
    (first_of words)

-- The reasons of a refusal that have no detail: those of frames, and those of the policy. Their words are those that
-- are printed.
abbrev pub reason_or : (List ℕ → Option Word) → List (List ℕ) → List ℕ → Option Word
reason_or other [] word = other word
reason_or other (one ∷ more) word = if bytes_eq word one then Some (Fixed one) else reason_or other more word

unfoldable pub policy_reason : List ℕ → Option Word
policy_reason word =
    reason_or (λ _. None)
    (map reason_word (NotMember ∷ WrongState ∷ KeysFull ∷ RowsFull ∷ NoDraw ∷ CounterSpent ∷ WrongHash ∷ NoFrame
    ∷ [])) word

unfoldable pub plain_reason : List ℕ → Option Word
plain_reason word =
    reason_or policy_reason
    (map reason_word (Down ∷ Malformed ∷ NotForMe ∷ Unsecured ∷ NoKey ∷ CounterMax ∷ BadMic ∷ Policy ∷ [])) word

abbrev pub behind_reason : Word → List ℕ → List (List ℕ) → Option (List Word)
behind_reason place word words =
    if bytes_eq word stale_word
    then option_map (λ behind. place ∷ Fixed stale_word ∷ behind) (shaped (a_count ∷ []) words)
    else if bytes_eq word key_old_word
    then option_map (λ behind. place ∷ Fixed key_old_word ∷ behind) (shaped (a_count ∷ []) words)
    else if bytes_eq word key_in_use_word
    then option_map (λ behind. place ∷ Fixed key_in_use_word ∷ behind) (shaped (AnAddress ∷ []) words)
    else option_and_then (λ reason. option_map (λ behind. place ∷ reason ∷ behind) (shaped [] words))
    (plain_reason word)

-- Where and why an event was refused.
unfoldable pub a_refusal : List (List ℕ) → Option (List Word)
a_refusal words =
    option_and_then (λ (place : Word × List (List ℕ)).
    option_and_then (λ (reason : List ℕ × List (List ℕ)). behind_reason place.0 reason.0 reason.1) (first_of place.1))
    (field (value_of (OneOf places)) words)
