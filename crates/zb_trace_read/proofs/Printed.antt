-- The words of a line, as they are printed, are read as themselves.
use Rattle.std.proofs.Common.{◌≡◌, ℕ, ◌<◌, ◌≤◌, ◌/◌, ◌==◌, ◌⊎◌, inl, inr, List, [], ◌∷◌, length, Bool, true, false, Option, Some, None, refl, arith, lit<, ap, sym, ◌∙◌, codes, decimal, bytes_eq, map}
use Rattle.std.specs.Prelude.{if◌then◌else◌, nat_lt}
use Rattle.std.specs.List.{AllByRecursion}
use Rattle.std.specs.Option.{option_map, option_and_then}
use Rattle.std.specs.Result.{result_ok}
use Rattle.std.proofs.lemmas.Slice.Eq.{bytes_eq-Decides}
use Rattle.hex.specs.Hex.{decode_of, encode_upper, IsBytes}
use Rattle.zb_base.specs.declared.node.Role.{Role}
use Rattle.zb_base.specs.declared.node.Role.TheVariants as role
use Rattle.zb_base.specs.declared.label.Layer.{Layer}
use Rattle.zb_base.specs.declared.label.Layer.TheVariants as layer
use Rattle.zb_base.specs.declared.label.Label.{Label}
use Rattle.zb_base.specs.declared.label.Label.TheVariants as label
use Rattle.zb_base.specs.declared.state.State.{State}
use Rattle.zb_base.specs.declared.state.State.TheVariants as state
use Rattle.zb_base.specs.declared.state.Attribute.{Attribute}
use Rattle.zb_base.specs.declared.state.Attribute.TheVariants as attribute
use Rattle.zb_base.specs.declared.state.Rollover.{Rollover}
use Rattle.zb_base.specs.declared.state.Rollover.TheVariants as rollover
use Rattle.zb_base.specs.declared.place.Place.{Place}
use Rattle.zb_base.specs.declared.place.Place.TheVariants as place
use Rattle.zb_node_types.specs.declared.refusal.Refusal.{Refusal}
use Rattle.zb_node_types.specs.declared.refusal.Refusal.TheVariants as refusal
use Rattle.zb_seal.specs.declared.term.Term.{Term}
use Rattle.zb_text.specs.Fields.{is_name, name_of, eui_of, eui_text, short_of, short_text, key_of}
use Rattle.zb_text.specs.Hexadecimal.{fixed_of, bytes_of, bytes_text}
use Rattle.zb_text.specs.Numbers.{number_of}
use Rattle.zb_text.specs.Pages.{IsWord}
use Rattle.zb_text.specs.Words.{field}
use Rattle.zb_text.proofs.ReadAgain.{number_again, fixed_again, bytes_again, eui_again, short_again, IsWord-decimal, IsWord-digits, IsWord-bytes, IsWord-name, eui_words, short_words}
use Rattle.zb_trace.specs.Text.{Word, Fixed, Chosen, Number, CalledOrNobody, Address, ShortAddress, Secret, Octet, Octets, AllOctets, MayStand, spelled, counted, sequenced, begun, begun_of, roles, layers, labels, attributes, states, rollovers, places, answers, role_text, layer_text, label_text, attribute_text, state_text, rollover_text, place_text, answer_text, term_words, refusal_words, reason, words}
use Rattle.zb_trace.specs.declared.line.Line.{Line}
use Rattle.zb_trace.specs.declared.line.Line.TheVariants as line
use Rattle.zb_trace_read.specs.Grammar.{behind_reason, Field, OneOf, ANameOrDash, AnAddress, AShort, AKey, AByte, SomeBytes, AllBytes, all_bytes_of, octet_of, value_of, shaped, a_count, a_sequence, a_layer, a_term, two_forms, a_refusal, policy_reason, plain_reason}
use Rattle.zb_trace_read.proofs.Capitals.{kept, capital_digits, capital_bytes, capital_eui, capital_short}
use Rattle.zb_trace_read.specs.Reading.{of_start, of_change, of_node, of_nobody, of_event, read_words}

-- A word is read as itself in its place, and is a word.
abbrev pub Suits : Field → Word → Type 0
Suits f w = (value_of f (spelled w) ≡ Some w) × IsWord (spelled w)

abbrev pub AllSuit : List Field → List Word → Type 0
AllSuit [] [] = Unit {0}
AllSuit [] (w ∷ ws) = ⊥
AllSuit (f ∷ fs) [] = ⊥
AllSuit (f ∷ fs) (w ∷ ws) = Suits f w × AllSuit fs ws

-- The words after the beginning of a line are read as themselves.

abbrev put_before : Word → List Word → List Word
put_before w ws = w ∷ ws

taken : (w : Word) (rest : List (List ℕ)) (fs : List Field) (ws : List Word) (o : Option Word) → o ≡ Some w
    → shaped fs rest ≡ Some ws
    → option_and_then (λ (t : Word × List (List ℕ)). option_map (λ behind. t.0 ∷ behind) (shaped fs t.1))
    (option_map {U = Word × List (List ℕ)} (λ x. (x, rest)) o) ≡ Some (w ∷ ws)
taken w rest fs ws o here there = rw here (ap (option_map (put_before w)) there)

pub shaped_again : (fs : List Field) (ws : List Word) → AllSuit fs ws → shaped fs (map spelled ws) ≡ Some ws
shaped_again [] [] suit = refl
shaped_again [] (w ∷ ws) suit = absurd suit
shaped_again (f ∷ fs) [] suit = absurd suit
shaped_again (f ∷ fs) (w ∷ ws) suit = taken w (map spelled ws) fs ws (value_of f (spelled w)) suit.0.0
    (shaped_again fs ws suit.1)

pub are_words : (fs : List Field) (ws : List Word) → AllSuit fs ws → AllByRecursion IsWord (map spelled ws)
are_words [] [] suit = tt
are_words [] (w ∷ ws) suit = absurd suit
are_words (f ∷ fs) [] suit = absurd suit
are_words (f ∷ fs) (w ∷ ws) suit = (suit.0.1, are_words fs ws suit.1)

-- The kinds of words

count_suits : (n : ℕ) → n ≤ 4294967295 → Suits a_count (counted n)
count_suits n le = (
  ap (option_map (Number 4294967295)) (number_again 4294967295 n le (omega (arith, le))),
  IsWord-decimal n (omega (arith, le)),
)

sequence_suits : (n : ℕ) → n ≤ 255 → Suits a_sequence (sequenced n)
sequence_suits n le =
    (ap (option_map (Number 255)) (number_again 255 n le (omega (arith, le))), IsWord-decimal n (omega (arith, le)))

eui_suits : (e : ℕ) → e < 18446744073709551616 → Suits AnAddress (Address e)
eui_suits e lt = (
  ap (option_map Address) (kept eui_of (eui_text e) e (capital_eui e) (eui_again e lt)),
  eui_words e,
)

short_suits : (s : ℕ) → s < 65536 → Suits AShort (ShortAddress s)
short_suits s lt = (
  ap (option_map ShortAddress) (kept short_of (short_text s) s (capital_short s) (short_again s lt)),
  short_words s,
)

key_suits : (key : List ℕ) → IsBytes key × (length key ≡ 16) → Suits AKey (Secret key)
key_suits key fits = (
  ap (option_map Secret)
      (kept key_of (encode_upper key) key (capital_digits key fits.0) (fixed_again key 16 fits.1 fits.0)),
  IsWord-digits key fits.0,
)

one_byte : (b : ℕ) → b < 256 → IsBytes (b ∷ [])
one_byte b lt Rattle.std.proofs.Common.zero = lt
one_byte b lt (Rattle.std.proofs.Common.suc i) = lit< tt

octet_suits : (b : ℕ) → b < 256 → Suits AByte (Octet b)
octet_suits b lt = (
  ap (option_and_then octet_of)
      (kept (fixed_of 1) (encode_upper (b ∷ [])) (b ∷ []) (capital_digits (b ∷ []) (one_byte b lt))
      (fixed_again (b ∷ []) 1 refl (one_byte b lt))),
  IsWord-digits (b ∷ []) (one_byte b lt),
)

bytes_suit : (bytes : List ℕ) → IsBytes bytes × (length bytes ≤ 127) → Suits (SomeBytes 127) (Octets 127 bytes)
bytes_suit bytes fits = (
  ap (option_map (Octets 127))
      (kept (bytes_of 127) (bytes_text bytes) bytes (capital_bytes bytes fits.0)
      (bytes_again 127 bytes fits.1 fits.0)),
  IsWord-bytes bytes fits.0,
)

without_limit : (dash none over : Bool) (o : Option (List ℕ)) (bytes : List ℕ)
    → (if dash then Some [] else if none then None else if over then None else o) ≡ Some bytes
    → (if dash then Some [] else if none then None else o) ≡ Some bytes
without_limit true none over o bytes h = h
without_limit false true over o bytes h = cc h
without_limit false false true o bytes h = cc h
without_limit false false false o bytes h = h

all_bytes_suit : (bytes : List ℕ) → IsBytes bytes → Suits AllBytes (AllOctets bytes)
all_bytes_suit bytes fits =
    let whole : bytes_of (length bytes) (bytes_text bytes) ≡ Some bytes =
    bytes_again (length bytes) bytes (omega arith) fits in
    let text : List ℕ = bytes_text bytes in (
      ap (option_map AllOctets)
          (kept all_bytes_of text bytes (capital_bytes bytes fits)
          (without_limit (bytes_eq text (codes "-")) (length text == 0) (nat_lt (length bytes) (length text / 2))
          (result_ok (decode_of text)) bytes whole)),
      IsWord-bytes bytes fits,
    )

layer_suits : (l : Layer) → Suits a_layer (Chosen layers (layer_text l))
layer_suits layer.Nwk = (refl, refl)
layer_suits layer.Aps = (refl, refl)

label_suits : (l : Label) → Suits (OneOf labels) (Chosen labels (label_text l))
label_suits label.Data = (refl, refl)
label_suits label.Network = (refl, refl)
label_suits label.Transport = (refl, refl)
label_suits label.Load = (refl, refl)

role_suits : (r : Role) → Suits (OneOf roles) (Chosen roles (role_text r))
role_suits role.Centre = (refl, refl)
role_suits role.Router = (refl, refl)
role_suits role.Device = (refl, refl)

attribute_suits : (a : Attribute) → Suits (OneOf attributes) (Chosen attributes (attribute_text a))
attribute_suits attribute.Provisional = (refl, refl)
attribute_suits attribute.Unverified = (refl, refl)
attribute_suits attribute.Verified = (refl, refl)

state_suits : (s : State) → Suits (OneOf states) (Chosen states (state_text s))
state_suits state.Fresh = (refl, refl)
state_suits state.Knocked = (refl, refl)
state_suits state.Joined = (refl, refl)
state_suits state.Offered = (refl, refl)
state_suits state.Confirmed = (refl, refl)
state_suits state.Rejoining = (refl, refl)
state_suits state.Gone = (refl, refl)

rollover_suits : (r : Rollover) → Suits (OneOf rollovers) (Chosen rollovers (rollover_text r))
rollover_suits rollover.Sending = (refl, refl)
rollover_suits rollover.Idle = (refl, refl)

place_suits : (p : Place) → Suits (OneOf places) (Chosen places (place_text p))
place_suits place.Nwk = (refl, refl)
place_suits place.Aps = (refl, refl)
place_suits place.Event = (refl, refl)

answer_suits : (b : Bool) → Suits (OneOf answers) (Chosen answers (answer_text b))
answer_suits true = (refl, refl)
answer_suits false = (refl, refl)

sender_suits : (name : List ℕ) → (is_name name ≡ true) ⊎ (name ≡ codes "-") → Suits ANameOrDash (CalledOrNobody name)
sender_suits name (inl h) = (named (bytes_eq name (codes "-")) refl, IsWord-name name h)
  where
    named : (dash : Bool) → bytes_eq name (codes "-") ≡ dash
        → option_map CalledOrNobody (if bytes_eq name (codes "-") then Some (codes "-")
        else (if is_name name then Some name else None)) ≡ Some (CalledOrNobody name)
    named true same = rw (same, (bytes_eq-Decides name (codes "-")).0 same) refl
    named false other = rw (other, h) refl
sender_suits name (inr e) = rw e (refl, refl)

-- The parts of lines

term_suits : (t : Term) → AllByRecursion MayStand (term_words t) → AllSuit a_term (term_words t)
unfolding term_words
term_suits t fits = (
  layer_suits t.layer,
  (
    label_suits t.label,
    (
      key_suits t.base.0 fits.1.1.0,
      (
        eui_suits t.source.0 fits.1.1.1.0,
        (
          count_suits t.counter fits.1.1.1.1.0,
          (
            octet_suits t.control fits.1.1.1.1.1.0,
            (bytes_suit t.header.items fits.1.1.1.1.1.1.0, (bytes_suit t.content.items fits.1.1.1.1.1.1.1.0, tt)),
          ),
        ),
      ),
    ),
  ),
)

-- The words of a refusal: they are read, and are words.
abbrev pub Refused : Refusal → Type 0
Refused r = (a_refusal (map spelled (refusal_words r)) ≡ Some (refusal_words r))
    × AllByRecursion IsWord (map spelled (refusal_words r))

behind_place : (at : Place) (word : List ℕ) (rest : List (List ℕ)) → a_refusal (place_text at ∷ word ∷ rest)
    ≡ behind_reason (Chosen places (place_text at)) word rest
unfolding a_refusal
behind_place place.Nwk word rest = refl
behind_place place.Aps word rest = refl
behind_place place.Event word rest = refl

refused_plainly : (at : Place) (word : List ℕ) → IsWord word
    → behind_reason (Chosen places (place_text at)) word [] ≡ Some (reason at word)
    → (a_refusal (place_text at ∷ word ∷ []) ≡ Some (reason at word))
    × AllByRecursion IsWord (place_text at ∷ word ∷ [])
refused_plainly at word fit known = (behind_place at word [] ∙ known, ((place_suits at).1, (fit, tt)))

abbrev with_detail : Place → List ℕ → List Word → List Word
with_detail at word behind = Chosen places (place_text at) ∷ Fixed word ∷ behind

refused_with : (at : Place) (word : List ℕ) (f : Field) (detail : Word) → IsWord word → Suits f detail
    → behind_reason (Chosen places (place_text at)) word (spelled detail ∷ [])
    ≡ option_map (with_detail at word) (shaped (f ∷ []) (spelled detail ∷ []))
    → (a_refusal (place_text at ∷ word ∷ spelled detail ∷ []) ≡ Some (with_detail at word (detail ∷ [])))
    × AllByRecursion IsWord (place_text at ∷ word ∷ spelled detail ∷ [])
refused_with at word f detail fit suit known = (
  behind_place at word (spelled detail ∷ []) ∙
      (known ∙ ap (option_map (with_detail at word)) (shaped_again (f ∷ []) (detail ∷ []) (suit, tt))),
  ((place_suits at).1, (fit, (suit.1, tt))),
)

refusal_again : (r : Refusal) → AllByRecursion MayStand (refusal_words r) → Refused r
unfolding refusal_words plain_reason policy_reason
refusal_again (refusal.Down at) fits = refused_plainly at (codes "down") refl refl
refusal_again (refusal.Malformed at) fits = refused_plainly at (codes "malformed") refl refl
refusal_again (refusal.NotForMe at) fits = refused_plainly at (codes "not-for-me") refl refl
refusal_again (refusal.Unsecured at) fits = refused_plainly at (codes "unsecured") refl refl
refusal_again (refusal.NoKey at) fits = refused_plainly at (codes "no-key") refl refl
refusal_again (refusal.CounterMax at) fits = refused_plainly at (codes "counter-max") refl refl
refusal_again (refusal.Stale at n) fits = refused_with at (codes "stale") a_count (counted n) refl
    (count_suits n fits.1.1.0) refl
refusal_again (refusal.BadMic at) fits = refused_plainly at (codes "bad-mic") refl refl
refusal_again (refusal.Policy at) fits = refused_plainly at (codes "policy") refl refl
refusal_again (refusal.NotMember at) fits = refused_plainly at (codes "not-member") refl refl
refusal_again (refusal.WrongState at) fits = refused_plainly at (codes "wrong-state") refl refl
refusal_again (refusal.KeyOld at n) fits = refused_with at (codes "key-old") a_count (counted n) refl
    (count_suits n fits.1.1.0) refl
refusal_again (refusal.KeysFull at) fits = refused_plainly at (codes "keys-full") refl refl
refusal_again (refusal.RowsFull at) fits = refused_plainly at (codes "rows-full") refl refl
refusal_again (refusal.KeyInUse at partner) fits = refused_with at (codes "key-in-use") AnAddress (Address partner.0)
    refl (eui_suits partner.0 fits.1.1.0) refl
refusal_again (refusal.NoDraw at) fits = refused_plainly at (codes "no-draw") refl refl
refusal_again (refusal.CounterSpent at) fits = refused_plainly at (codes "counter-spent") refl refl
refusal_again (refusal.WrongHash at) fits = refused_plainly at (codes "wrong-hash") refl refl
refusal_again (refusal.NoFrame at) fits = refused_plainly at (codes "no-frame") refl refl

-- The words of a line: they are read, and are words.
abbrev pub Printed : List Word → Type 0
Printed ws = (read_words (map spelled ws) ≡ Some ws) × AllByRecursion IsWord (map spelled ws)

not_end : (same : Bool) (n : ℕ) → n ≤ 4294967295 → bytes_eq (decimal n) (codes "end") ≡ same
    → bytes_eq (decimal n) (codes "end") ≡ false
not_end true n le e =
    let impossible : Some n ≡ None = sym (number_again 4294967295 n le (omega (arith, le))) ∙ ap
    (number_of 4294967295) ((bytes_eq-Decides (decimal n) (codes "end")).0 e) in cc impossible
not_end false n le e = e

event_read : (event : ℕ) (rest : List (List ℕ)) → event ≤ 4294967295 → read_words (decimal event ∷ rest)
    ≡ of_event event rest
unfolding read_words
event_read event rest le =
    rw (
      not_end (bytes_eq (decimal event) (codes "end")) event le refl,
      number_again 4294967295 event le
          (omega (arith, le)),
    ) refl

abbrev Named : Type 0
Named = List ℕ × List (List ℕ)

named : (f : Named → Option (List Word)) (node : List ℕ) (rest : List (List ℕ)) → is_name node ≡ true
    → option_and_then f (field name_of (node ∷ rest)) ≡ f (node, rest)
named f node rest h = rw h refl

-- A line that names a node: `dispatch` says that the kind leads to this reading of what is after the name.
of_named : (event : ℕ) (kind node : List ℕ) (behind : List (List ℕ) → Option (List Word)) (ws : List Word) → event
    ≤ 4294967295 → is_name node ≡ true → IsWord kind
    → ((rest : List (List ℕ)) → of_event event (kind ∷ node ∷ rest)
    ≡ option_and_then (λ (t : Named). option_map (begun_of event kind t.0) (behind t.1))
    (field name_of (node ∷ rest)))
    → behind (map spelled ws) ≡ Some ws → AllByRecursion IsWord (map spelled ws)
    → Printed (begun_of event kind node ws)
of_named event kind node behind ws le name fit dispatch again are = (
  event_read event (kind ∷ node ∷ map spelled ws) le
      ∙ (dispatch (map spelled ws)
      ∙ (named (λ (t : Named). option_map (begun_of event kind t.0) (behind t.1)) node (map spelled ws) name
      ∙ ap (option_map (begun_of event kind node)) again)),
  (IsWord-decimal event (omega (arith, le)), (fit, (IsWord-name node name, are))),
)

of_shape : (event : ℕ) (kind node : List ℕ) (fs : List Field) (ws : List Word) → event ≤ 4294967295 → is_name node
    ≡ true → IsWord kind
    → ((rest : List (List ℕ)) → of_event event (kind ∷ node ∷ rest)
    ≡ option_and_then (λ (t : Named). option_map (begun_of event kind t.0) (shaped fs t.1))
    (field name_of (node ∷ rest)))
    → AllSuit fs ws → Printed (begun_of event kind node ws)
of_shape event kind node fs ws le name fit dispatch suit =
    of_named event kind node (shaped fs) ws le name fit dispatch (shaped_again fs ws suit) (are_words fs ws suit)

-- One of two forms.
of_form : (event : ℕ) (kind node form : List ℕ) (forms : List (List ℕ) → Option (List Word)) (fs : List Field)
    (ws : List Word) → event ≤ 4294967295 → is_name node ≡ true → IsWord kind → IsWord form
    → ((rest : List (List ℕ)) → of_event event (kind ∷ node ∷ rest)
    ≡ option_and_then (λ (t : Named). option_map (begun_of event kind t.0) (forms t.1))
    (field name_of (node ∷ rest)))
    → ((rest : List (List ℕ)) → forms (form ∷ rest) ≡ option_map (put_before (Fixed form)) (shaped fs rest))
    → AllSuit fs ws → Printed (begun_of event kind node (Fixed form ∷ ws))
of_form event kind node form forms fs ws le name fit fit_form dispatch way suit =
    of_named event kind node forms (Fixed form ∷ ws) le name fit dispatch
    (way (map spelled ws) ∙ ap (option_map (put_before (Fixed form))) (shaped_again fs ws suit))
    (fit_form, are_words fs ws suit)

-- A line that shows no node.
of_none : (event : ℕ) (kind : List ℕ) (fs : List Field) (ws : List Word) → event ≤ 4294967295 → IsWord kind
    → ((rest : List (List ℕ)) → of_event event (kind ∷ rest) ≡ option_map (begun event kind) (shaped fs rest))
    → AllSuit fs ws → Printed (begun event kind ws)
of_none event kind fs ws le fit dispatch suit = (
  event_read event (kind ∷ map spelled ws) le ∙
      (dispatch (map spelled ws) ∙ ap (option_map (begun event kind)) (shaped_again fs ws suit)),
  (IsWord-decimal event (omega (arith, le)), (fit, are_words fs ws suit)),
)

end_again : (events seals accepts refusals : ℕ) (ideal private : Bool)
    → AllByRecursion MayStand (words (line.End events seals accepts refusals ideal private))
    → Printed (words (line.End events seals accepts refusals ideal private))
unfolding read_words
end_again events seals accepts refusals ideal private fits =
    let counts : List Word = counted events ∷ counted seals ∷ counted accepts ∷ counted refusals
    ∷ Chosen answers (answer_text ideal) ∷ Chosen answers (answer_text private) ∷ [] in
    let fields : List Field = a_count ∷ a_count ∷ a_count ∷ a_count ∷ OneOf answers ∷ OneOf answers ∷ [] in
    let suit : AllSuit fields counts = (
      count_suits events fits.1.0,
      (
        count_suits seals fits.1.1.0,
        (
          count_suits accepts fits.1.1.1.0,
          (count_suits refusals fits.1.1.1.1.0, (answer_suits ideal, (answer_suits private, tt))),
        ),
      ),
    ) in (
      ap (option_map (put_before (Fixed (codes "end")))) (shaped_again fields counts suit),
      (refl, are_words fields counts suit),
    )

pub words_again : (l : Line) → AllByRecursion MayStand (words l) → Printed (words l)
unfolding of_nobody of_node of_change of_start
words_again (line.Node name r eui short out_block in_block) fits =
    of_shape 0 (codes "node") name.bytes (OneOf roles ∷ AnAddress ∷ AShort ∷ a_count ∷ a_count ∷ [])
    (Chosen roles (role_text r) ∷ Address eui.0 ∷ ShortAddress short.0 ∷ counted out_block ∷ counted in_block ∷ [])
    fits.0 fits.1.1.0 refl (λ rest. refl)
    ((
      role_suits r,
      (
        eui_suits eui.0 fits.1.1.1.1.0,
        (
          short_suits short.0 fits.1.1.1.1.1.0,
          (count_suits out_block fits.1.1.1.1.1.1.0, (count_suits in_block fits.1.1.1.1.1.1.1.0, tt)),
        ),
      ),
    ))
words_again (line.GivenNet node key sequence) fits = of_form 0 (codes "given") node.bytes (codes "net")
    (two_forms (codes "net") (AKey ∷ a_sequence ∷ []) (codes "link") (AnAddress ∷ AKey ∷ [])) (AKey ∷ a_sequence ∷ [])
    (Secret key.0 ∷ sequenced sequence ∷ []) fits.0 fits.1.1.0 refl refl (λ rest. refl) (λ rest. refl)
    ((key_suits key.0 fits.1.1.1.1.0, (sequence_suits sequence fits.1.1.1.1.1.0, tt)))
words_again (line.GivenLink node partner key) fits = of_form 0 (codes "given") node.bytes (codes "link")
    (two_forms (codes "net") (AKey ∷ a_sequence ∷ []) (codes "link") (AnAddress ∷ AKey ∷ [])) (AnAddress ∷ AKey ∷ [])
    (Address partner.0 ∷ Secret key.0 ∷ []) fits.0 fits.1.1.0 refl refl (λ rest. refl) (λ rest. refl)
    ((eui_suits partner.0 fits.1.1.1.1.0, (key_suits key.0 fits.1.1.1.1.1.0, tt)))
words_again (line.Counter node l limit) fits = of_shape 0 (codes "counter") node.bytes (a_layer ∷ a_count ∷ [])
    (Chosen layers (layer_text l) ∷ counted limit ∷ []) fits.0 fits.1.1.0 refl (λ rest. refl)
    ((layer_suits l, (count_suits limit fits.1.1.1.1.0, tt)))
words_again (line.Reserve event node l limit) fits = of_shape event (codes "reserve") node.bytes
    (a_layer ∷ a_count ∷ []) (Chosen layers (layer_text l) ∷ counted limit ∷ []) fits.0 fits.1.1.0 refl (λ rest. refl)
    ((layer_suits l, (count_suits limit fits.1.1.1.1.0, tt)))
words_again (line.Floor event node l key sender value) fits = of_shape event (codes "floor") node.bytes
    (a_layer ∷ AKey ∷ AnAddress ∷ a_count ∷ [])
    (Chosen layers (layer_text l) ∷ Secret key.0 ∷ Address sender.0 ∷ counted value ∷ []) fits.0 fits.1.1.0 refl
    (λ rest. refl)
    ((
      layer_suits l,
      (
        key_suits key.0 fits.1.1.1.1.0,
        (eui_suits sender.0 fits.1.1.1.1.1.0, (count_suits value fits.1.1.1.1.1.1.0, tt)),
      ),
    ))
words_again (line.Draw event key) fits = of_none event (codes "draw") (AKey ∷ []) (Secret key.0 ∷ []) fits.0 refl
    (λ rest. refl) ((key_suits key.0 fits.1.1.0, tt))
words_again (line.DropNet event node key) fits = of_form event (codes "drop") node.bytes (codes "net")
    (two_forms (codes "net") (AKey ∷ []) (codes "link") (AnAddress ∷ AKey ∷ [])) (AKey ∷ []) (Secret key.0 ∷ [])
    fits.0 fits.1.1.0 refl refl (λ rest. refl) (λ rest. refl) ((key_suits key.0 fits.1.1.1.1.0, tt))
words_again (line.DropLink event node partner key) fits = of_form event (codes "drop") node.bytes (codes "link")
    (two_forms (codes "net") (AKey ∷ []) (codes "link") (AnAddress ∷ AKey ∷ [])) (AnAddress ∷ AKey ∷ [])
    (Address partner.0 ∷ Secret key.0 ∷ []) fits.0 fits.1.1.0 refl refl (λ rest. refl) (λ rest. refl)
    ((eui_suits partner.0 fits.1.1.1.1.0, (key_suits key.0 fits.1.1.1.1.1.0, tt)))
words_again (line.Install event node key sequence) fits = of_shape event (codes "install") node.bytes
    (AKey ∷ a_sequence ∷ []) (Secret key.0 ∷ sequenced sequence ∷ []) fits.0 fits.1.1.0 refl (λ rest. refl)
    ((key_suits key.0 fits.1.1.1.0, (sequence_suits sequence fits.1.1.1.1.0, tt)))
words_again (line.Active event node key) fits = of_shape event (codes "active") node.bytes (AKey ∷ [])
    (Secret key.0 ∷ []) fits.0 fits.1.1.0 refl (λ rest. refl) ((key_suits key.0 fits.1.1.1.0, tt))
words_again (line.Start event node key value) fits = of_shape event (codes "start") node.bytes (AKey ∷ a_count ∷ [])
    (Secret key.0 ∷ counted value ∷ []) fits.0 fits.1.1.0 refl (λ rest. refl)
    ((key_suits key.0 fits.1.1.1.0, (count_suits value fits.1.1.1.1.0, tt)))
words_again (line.Row event node partner key a) fits =
    of_shape event (codes "row") node.bytes (AnAddress ∷ AKey ∷ OneOf attributes ∷ [])
    (Address partner.0 ∷ Secret key.0 ∷ Chosen attributes (attribute_text a) ∷ []) fits.0 fits.1.1.0 refl
    (λ rest. refl) ((eui_suits partner.0 fits.1.1.1.0, (key_suits key.0 fits.1.1.1.1.0, (attribute_suits a, tt))))
words_again (line.Pair event node first second key) fits = of_shape event (codes "pair") node.bytes
    (AnAddress ∷ AnAddress ∷ AKey ∷ []) (Address first.0 ∷ Address second.0 ∷ Secret key.0 ∷ []) fits.0 fits.1.1.0
    refl (λ rest. refl)
    ((eui_suits first.0 fits.1.1.1.0, (eui_suits second.0 fits.1.1.1.1.0, (key_suits key.0 fits.1.1.1.1.1.0, tt))))
words_again (line.State event node s) fits = of_shape event (codes "state") node.bytes (OneOf states ∷ [])
    (Chosen states (state_text s) ∷ []) fits.0 fits.1.1.0 refl (λ rest. refl) ((state_suits s, tt))
words_again (line.Live event device) fits = of_none event (codes "live") (AnAddress ∷ []) (Address device.0 ∷ [])
    fits.0 refl (λ rest. refl) ((eui_suits device.0 fits.1.1.0, tt))
words_again (line.Removed event device) fits = of_none event (codes "removed") (AnAddress ∷ [])
    (Address device.0 ∷ []) fits.0 refl (λ rest. refl) ((eui_suits device.0 fits.1.1.0, tt))
words_again (line.Roll event node r) fits = of_shape event (codes "roll") node.bytes (OneOf rollovers ∷ [])
    (Chosen rollovers (rollover_text r) ∷ []) fits.0 fits.1.1.0 refl (λ rest. refl) ((rollover_suits r, tt))
words_again (line.Told event device) fits = of_none event (codes "told") (AnAddress ∷ []) (Address device.0 ∷ [])
    fits.0 refl (λ rest. refl) ((eui_suits device.0 fits.1.1.0, tt))
words_again (line.Untold event device) fits = of_none event (codes "untold") (AnAddress ∷ []) (Address device.0 ∷ [])
    fits.0 refl (λ rest. refl) ((eui_suits device.0 fits.1.1.0, tt))
words_again (line.Commit event node) fits = of_shape event (codes "commit") node.bytes ([]) ([]) fits.0 fits.1.1.0
    refl (λ rest. refl) (tt)
words_again (line.Accept event node t) fits = of_shape event (codes "accept") node.bytes (a_term) (term_words t)
    fits.0 fits.1.1.0 refl (λ rest. refl) (term_suits t fits.1.1.1)
words_again (line.Refuse event node r) fits = of_named event (codes "refuse") node.bytes a_refusal (refusal_words r)
    fits.0 fits.1.1.0 refl (λ rest. refl) (refusal_again r fits.1.1.1).0 (refusal_again r fits.1.1.1).1
words_again (line.Seal event node t) fits = of_shape event (codes "seal") node.bytes (a_term) (term_words t) fits.0
    fits.1.1.0 refl (λ rest. refl) (term_suits t fits.1.1.1)
words_again (line.Forge event t) fits = of_none event (codes "forge") (a_term) (term_words t) fits.0 refl
    (λ rest. refl) (term_suits t fits.1.1)
words_again (line.Send event node frame bytes) fits =
    of_none event (codes "send") (ANameOrDash ∷ a_count ∷ SomeBytes 127 ∷ [])
    (CalledOrNobody node.bytes ∷ counted frame ∷ Octets 127 bytes.items ∷ []) fits.0 refl (λ rest. refl)
    ((
      sender_suits node.bytes fits.1.1.0,
      (count_suits frame fits.1.1.1.0, (bytes_suit bytes.items fits.1.1.1.1.0, tt)),
    ))
words_again (line.Inject event frame bytes) fits = of_none event (codes "inject") (a_count ∷ SomeBytes 127 ∷ [])
    (counted frame ∷ Octets 127 bytes.items ∷ []) fits.0 refl (λ rest. refl)
    ((count_suits frame fits.1.1.0, (bytes_suit bytes.items fits.1.1.1.0, tt)))
words_again (line.Stopped event node) fits = of_shape event (codes "stopped") node.bytes ([]) ([]) fits.0 fits.1.1.0
    refl (λ rest. refl) (tt)
words_again (line.DownReset event node) fits = of_form event (codes "down") node.bytes (codes "reset")
    (two_forms (codes "reset") [] (codes "disk") []) ([]) ([]) fits.0 fits.1.1.0 refl refl (λ rest. refl)
    (λ rest. refl) (tt)
words_again (line.DownDisk event node) fits = of_form event (codes "down") node.bytes (codes "disk")
    (two_forms (codes "reset") [] (codes "disk") []) ([]) ([]) fits.0 fits.1.1.0 refl refl (λ rest. refl)
    (λ rest. refl) (tt)
words_again (line.Boot event node) fits = of_shape event (codes "boot") node.bytes ([]) ([]) fits.0 fits.1.1.0 refl
    (λ rest. refl) (tt)
words_again (line.Dump event node bytes) fits = of_shape event (codes "dump") node.bytes (AllBytes ∷ [])
    (AllOctets bytes ∷ []) fits.0 fits.1.1.0 refl (λ rest. refl) ((all_bytes_suit bytes fits.1.1.1.0, tt))
words_again (line.End events seals accepts refusals ideal private) fits =
    end_again events seals accepts refusals ideal private fits
