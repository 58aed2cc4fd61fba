-- The text of a line: words, separated by one space each and ended by a line feed.
use Rattle.std.specs.Prelude.{◌^◌, ◌≡◌, ◌<◌, ◌≤◌, ◌⊎◌, ℕ, List, [], ◌∷◌, ◌++◌, length, map, codes, decimal, true}
use Rattle.std.specs.List.{AllByRecursion, flat_map}
use Rattle.hex.specs.Hex.{encode_upper, IsBytes}
use Rattle.zb_base.specs.declared.place.Place.{Place}
use Rattle.zb_node_types.specs.Changes.{place_of, reason as reason_of}
use Rattle.zb_node_types.specs.Reasons.{reason_word, reason_detail}
use Rattle.zb_node_types.specs.declared.refusal.Detail.{Detail}
use Rattle.zb_node_types.specs.declared.refusal.Detail.TheVariants as detail
use Rattle.zb_node_types.specs.declared.refusal.Refusal.{Refusal}
use Rattle.zb_model_real.specs.Term.{Term}
pub use Rattle.zb_text.specs.Choices.{role_text, layer_text, label_text, attribute_text, state_text, rollover_text, place_text, answer_text}
use Rattle.zb_text.specs.Choices as choices
use Rattle.zb_text.specs.Fields.{is_name, eui_text, short_text}
use Rattle.zb_text.specs.Hexadecimal.{bytes_text}
use Rattle.zb_text.specs.Words.{then}
use Rattle.zb_trace.specs.declared.line.Line.{Line}
use Rattle.zb_trace.specs.declared.line.Line.TheVariants as line
use Rattle.zb_base.specs.Limits.{longest_frame, greatest_count}

-- The words that a line is made of.
pub data Word : Type 0 where
  -- A fixed word.
  Fixed : (text : List ℕ) → Word
  -- One of some words.
  Chosen : (among : List (List ℕ)) (text : List ℕ) → Word
  -- A number in decimal digits, at most `limit`.
  Number : (limit : ℕ) (number : ℕ) → Word
  -- A node's name; and a name that may be `-` instead.
  Called : (name : List ℕ) → Word
  CalledOrNobody : (name : List ℕ) → Word
  -- An EUI in 16 hexadecimal digits, a short address in 4, a key in 32, a byte in 2.
  Address : (eui : ℕ) → Word
  ShortAddress : (short : ℕ) → Word
  Secret : (key : List ℕ) → Word
  Octet : (byte : ℕ) → Word
  -- At most `limit` bytes in two hexadecimal digits each, or `-` for no bytes; and the same without a limit.
  Octets : (limit : ℕ) (bytes : List ℕ) → Word
  AllOctets : (bytes : List ℕ) → Word

abbrev pub spelled : Word → List ℕ
spelled (Fixed text) = text
spelled (Chosen among text) = text
spelled (Number limit number) = decimal number
spelled (Called name) = name
spelled (CalledOrNobody name) = name
spelled (Address eui) = eui_text eui
spelled (ShortAddress short) = short_text short
spelled (Secret key) = encode_upper key
spelled (Octet byte) = encode_upper (byte ∷ [])
spelled (Octets limit bytes) = bytes_text bytes
spelled (AllOctets bytes) = bytes_text bytes

-- Which words a line may have: names are valid names, and the values of the program's types are in their ranges.
abbrev pub MayStand : Word → Type 0
MayStand (Fixed text) = Unit {0}
MayStand (Chosen among text) = Unit {0}
MayStand (Number limit number) = number ≤ limit
MayStand (Called name) = is_name name ≡ true
MayStand (CalledOrNobody name) = (is_name name ≡ true) ⊎ (name ≡ codes "-")
MayStand (Address eui) = eui < 2 ^ 64
MayStand (ShortAddress short) = short < 2 ^ 16
MayStand (Secret key) = IsBytes key × (length key ≡ 16)
MayStand (Octet byte) = byte < 256
MayStand (Octets limit bytes) = IsBytes bytes × (length bytes ≤ limit)
MayStand (AllOctets bytes) = IsBytes bytes

-- The words after a first one.
abbrev pub trailing : List Word → List ℕ
trailing words = flat_map (λ word. then (spelled word)) words

-- A line of words, with its line feed.
abbrev pub line_of : List Word → List ℕ
line_of [] = 10 ∷ []
line_of (word ∷ more) = spelled word ++ (trailing more ++ 10 ∷ [])

-- The beginning of a line: the number of its event, its kind, and the name of its node, if it has one.
abbrev pub opening : ℕ → List ℕ → List ℕ
opening event kind = decimal event ++ then kind

abbrev pub opening_of : ℕ → List ℕ → List ℕ → List ℕ
opening_of event kind node = opening event kind ++ then node

-- Words that are chosen from lists

abbrev pub roles : List (List ℕ)
roles = map role_text choices.roles

abbrev pub layers : List (List ℕ)
layers = map layer_text choices.layers

abbrev pub labels : List (List ℕ)
labels = map label_text choices.labels

abbrev pub attributes : List (List ℕ)
attributes = map attribute_text choices.attributes

abbrev pub states : List (List ℕ)
states = map state_text choices.states

abbrev pub rollovers : List (List ℕ)
rollovers = map rollover_text choices.rollovers

abbrev pub places : List (List ℕ)
places = map place_text choices.places

abbrev pub answers : List (List ℕ)
answers = map answer_text choices.answers

-- The words of a line's parts

-- A counter, a limit, the number of an event or a frame.
abbrev pub counted : ℕ → Word
counted number = Number greatest_count number

-- The sequence number of a network key.
abbrev pub sequenced : ℕ → Word
sequenced number = Number 255 number

-- A sealed layer: which key, the nonce, what is authenticated, what is encrypted.
unfoldable pub term_words : Term → List Word
term_words t =
    Chosen layers (layer_text t.layer) ∷ Chosen labels (label_text t.label) ∷ Secret t.base.0 ∷ Address t.source.0
    ∷ counted t.counter ∷ Octet t.control ∷ Octets longest_frame t.header.items
    ∷ Octets longest_frame t.content.items ∷ []

-- Where and why an event was refused.
abbrev pub reason : Place → List ℕ → List Word
reason at text = Chosen places (place_text at) ∷ Fixed text ∷ []

-- What is reported after the word of a reason.
abbrev pub detail_words : Detail → List Word
detail_words detail.Nothing = []
detail_words (detail.Number number) = counted number ∷ []
detail_words (detail.Partner partner) = Address partner.0 ∷ []

unfoldable pub refusal_words : Refusal → List Word
refusal_words r = Chosen places (place_text (place_of r)) ∷ Fixed (reason_word (reason_of r))
    ∷ detail_words (reason_detail (reason_of r))

-- The beginning of a line: the number of its event, its kind, and its node.
abbrev pub begun : ℕ → List ℕ → List Word → List Word
begun event kind more = counted event ∷ Fixed kind ∷ more

abbrev pub begun_of : ℕ → List ℕ → List ℕ → List Word → List Word
begun_of event kind node more = counted event ∷ Fixed kind ∷ Called node ∷ more

-- The words of each line.
abbrev pub words : Line → List Word
words (line.Node name r eui short out_block in_block) =
    begun_of 0 (codes "node") name.bytes
    (Chosen roles (role_text r) ∷ Address eui.0 ∷ ShortAddress short.0 ∷ counted out_block ∷ counted in_block ∷ [])
words (line.GivenNet node key sequence) =
    begun_of 0 (codes "given") node.bytes (Fixed (codes "net") ∷ Secret key.0 ∷ sequenced sequence ∷ [])
words (line.GivenLink node partner key) =
    begun_of 0 (codes "given") node.bytes (Fixed (codes "link") ∷ Address partner.0 ∷ Secret key.0 ∷ [])
words (line.Counter node l limit) =
    begun_of 0 (codes "counter") node.bytes (Chosen layers (layer_text l) ∷ counted limit ∷ [])
words (line.Reserve event node l limit) = begun_of event (codes "reserve") node.bytes
    (Chosen layers (layer_text l) ∷ counted limit ∷ [])
words (line.Floor event node l key sender value) =
    begun_of event (codes "floor") node.bytes
    (Chosen layers (layer_text l) ∷ Secret key.0 ∷ Address sender.0 ∷ counted value ∷ [])
words (line.Draw event key) = begun event (codes "draw") (Secret key.0 ∷ [])
words (line.DropNet event node key) = begun_of event (codes "drop") node.bytes
    (Fixed (codes "net") ∷ Secret key.0 ∷ [])
words (line.DropLink event node partner key) = begun_of event (codes "drop") node.bytes
    (Fixed (codes "link") ∷ Address partner.0 ∷ Secret key.0 ∷ [])
words (line.Install event node key sequence) = begun_of event (codes "install") node.bytes
    (Secret key.0 ∷ sequenced sequence ∷ [])
words (line.Active event node key) = begun_of event (codes "active") node.bytes (Secret key.0 ∷ [])
words (line.Start event node key value) = begun_of event (codes "start") node.bytes (Secret key.0 ∷ counted value ∷ [])
words (line.Row event node partner key a) =
    begun_of event (codes "row") node.bytes (Address partner.0 ∷ Secret key.0 ∷ Chosen attributes (attribute_text a)
    ∷ [])
words (line.Pair event node first second key) = begun_of event (codes "pair") node.bytes
    (Address first.0 ∷ Address second.0 ∷ Secret key.0 ∷ [])
words (line.State event node s) = begun_of event (codes "state") node.bytes (Chosen states (state_text s) ∷ [])
words (line.Live event device) = begun event (codes "live") (Address device.0 ∷ [])
words (line.Removed event device) = begun event (codes "removed") (Address device.0 ∷ [])
words (line.Roll event node r) = begun_of event (codes "roll") node.bytes (Chosen rollovers (rollover_text r) ∷ [])
words (line.Told event device) = begun event (codes "told") (Address device.0 ∷ [])
words (line.Untold event device) = begun event (codes "untold") (Address device.0 ∷ [])
words (line.Commit event node) = begun_of event (codes "commit") node.bytes []
words (line.Accept event node t) = begun_of event (codes "accept") node.bytes (term_words t)
words (line.Refuse event node r) = begun_of event (codes "refuse") node.bytes (refusal_words r)
words (line.Seal event node t) = begun_of event (codes "seal") node.bytes (term_words t)
words (line.Forge event t) = begun event (codes "forge") (term_words t)
words (line.Send event node frame bytes) =
    begun event (codes "send") (CalledOrNobody node.bytes ∷ counted frame ∷ Octets longest_frame bytes.items ∷ [])
words (line.Inject event frame bytes) =
    begun event (codes "inject") (counted frame ∷ Octets longest_frame bytes.items ∷ [])
words (line.Stopped event node) = begun_of event (codes "stopped") node.bytes []
words (line.DownReset event node) = begun_of event (codes "down") node.bytes (Fixed (codes "reset") ∷ [])
words (line.DownDisk event node) = begun_of event (codes "down") node.bytes (Fixed (codes "disk") ∷ [])
words (line.Boot event node) = begun_of event (codes "boot") node.bytes []
words (line.Dump event node bytes) = begun_of event (codes "dump") node.bytes (AllOctets bytes ∷ [])
words (line.End events seals accepts refusals ideal private) =
    Fixed (codes "end") ∷ counted events ∷ counted seals ∷ counted accepts ∷ counted refusals
    ∷ Chosen answers (answer_text ideal) ∷ Chosen answers (answer_text private) ∷ []

-- The text of a line, and of lines.
unfoldable pub text : Line → List ℕ
text l = line_of (words l)

abbrev pub texts : List Line → List ℕ
texts lines = flat_map text lines

-- A line may have all of its words. Only the names are a condition: the rest holds for each value of the program's
-- type.
abbrev pub IsProper : Line → Type 0
IsProper l = AllByRecursion MayStand (words l)

abbrev pub AllProper : List Line → Type 0
AllProper lines = AllByRecursion IsProper lines
