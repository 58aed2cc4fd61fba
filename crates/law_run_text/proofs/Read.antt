-- What is read from bytes, and what they open to, is in its range.
use Rattle.std.proofs.Common.{◌≡◌, ℕ, ◌+◌, ◌^◌, ◌<◌, ◌≤◌, Bool, true, false, cond, List, [], ◌∷◌, ◌++◌, flat_map, length, bytes_eq, Option, Some, None, IfSome, option_map, Result, Ok, Err, refl, ap, subst, arith, length-append}
use Rattle.std.specs.Int.{w16, w32}
use Rattle.zb_aps.specs.Reading as aps
use Rattle.zb_aps.specs.Shape as aps_shape
use Rattle.zb_aps.specs.Spelling as aps_spelling
use Rattle.zb_aps.specs.declared.auxiliary.ApsAux.{ApsAux}
use Rattle.zb_aps.specs.declared.fault.ApsError.{ApsError}
use Rattle.zb_aps.specs.declared.frame.ApsFrame.{ApsFrame}
use Rattle.zb_aps.specs.declared.header.ApsHeader.{ApsHeader}
use Rattle.zb_aps.specs.declared.header.Extended.{Extended}
use Rattle.zb_aps.proofs.FaultLaws as aps_laws
use Rattle.zb_base.specs.declared.address.Eui.{Eui}
use Rattle.zb_base.specs.declared.address.Short.{Short}
use Rattle.zb_base.specs.declared.label.Layer.TheVariants as layer
use Rattle.zb_ccm.specs.Ccm.{opens, crypted, mic_of}
use Rattle.zb_cmd.specs.Reading.{command_of}
use Rattle.zb_cmd.specs.Shape as cmd_shape
use Rattle.zb_cmd.specs.Spelling as cmd_spelling
use Rattle.zb_cmd.specs.declared.command.Command.{Command}
use Rattle.zb_cmd.specs.declared.command.Command.TheVariants as cmd
use Rattle.zb_cmd.specs.declared.fault.CmdError.{CmdError}
use Rattle.zb_cmd.specs.declared.fault.CmdError.TheVariants as fault
use Rattle.zb_cmd.proofs.FaultLaws as cmd_laws
use Rattle.zb_cursor.specs.Spelling.{byte, number, eui, short, optional}
use Rattle.zb_model.specs.Data.{Bytes}
use Rattle.zb_model.specs.Tools.{NwkShown, ApsAuxiliary}
use Rattle.law_run_ranges.specs.Asking.{ApsInRange, CommandInRange, ShownInRange}
use Rattle.law_run_ranges.specs.Ranges.{IsCount, IsEui, IsByte, AreBytes, IsKey, IsShort, TermInRange}
use Rattle.zb_model_real.specs.Readers.{auxiliary, aps_shown, nwk_shown, command_shown, model_command}
use Rattle.zb_model_real.specs.Real.{opened, real}
use Rattle.zb_model_real.specs.Terms.{eui_of, key_of, model_term}
use Rattle.law_run_text.proofs.Ciphers.{bytes_append, front_of, back_of, two_in, four_in, eight_in, sealing_in, crypted_in, crypted_length}
use Rattle.law_run_text.proofs.Indexes.{by_index}
use Rattle.zb_nwk.specs.Reading as nwk
use Rattle.zb_nwk.specs.Shape as nwk_shape
use Rattle.zb_nwk.specs.Spelling as nwk_spelling
use Rattle.zb_nwk.specs.declared.auxiliary.NwkAux.{NwkAux}
use Rattle.zb_nwk.specs.declared.fault.NwkError.{NwkError}
use Rattle.zb_nwk.specs.declared.frame.NwkFrame.{NwkFrame}
use Rattle.zb_nwk.specs.declared.header.NwkHeader.{NwkHeader}
use Rattle.zb_nwk.specs.declared.header.Route.{Route}
use Rattle.zb_nwk.proofs.FaultLaws as nwk_laws
use Rattle.zb_seal.specs.Keys.{sealing_key}
use Rattle.zb_seal.specs.Opening as opening
use Rattle.zb_seal.specs.Opening.{opened_nwk, opened_aps, opened_seen, opened_from, opened_term, nwk_seen, nwk_envelope, seen_nwk, aps_seen, aps_envelope, seen_aps, source_of, content_of, leveled_nwk, leveled_aps}
use Rattle.zb_seal.specs.Wire.{nonce, real_level}
use Rattle.zb_seal.specs.declared.envelope.Envelope.{Envelope}

-- ---- what an envelope opens to

-- the parts of an envelope are in their ranges, and together they are at most 127 bytes
record EnvelopeInRange (s : Envelope) : Type 0 where
  counter : IsCount s.counter
  control : IsByte s.control
  header : AreBytes s.header.items
  text : AreBytes s.text.items
  fits : length s.header.items + length s.text.items ≤ 127

term_in : (s : Envelope) (base : Bytes) (source : Eui) (content : List ℕ) → EnvelopeInRange s → IsKey base
    → IsEui source.0 → AreBytes content → length content ≤ length s.text.items
    → TermInRange (model_term (opening.term_of (record s { text = record { items = content } }) (key_of base) source))
term_in s base source content is k e b le = record {
  base = k;
  source = e;
  counter = is.counter;
  control = is.control;
  header = (is.header, omega (arith, is.fits));
  content = (b, omega (arith, is.fits, le));
}

if_open : (s : Envelope) (base : Bytes) (source : Eui) (key text : List ℕ) (b : Bool) → EnvelopeInRange s → IsKey base
    → IsEui source.0 → AreBytes text → length text ≤ length s.text.items
    → IfSome (opened (opened_term s (key_of base) source (cond b (Some text) None))) TermInRange
if_open s base source key text true is k e b le = term_in s base source text is k e b le
if_open s base source key text false is k e b le = tt

from_in : (s : Envelope) (base : Bytes) (o : Option Eui) → EnvelopeInRange s → IsKey base
    → IfSome o (λ (x : Eui). IsEui x.0) → IfSome (opened (opened_from s (key_of base) o)) TermInRange
unfolding opens
from_in s base None is k e = tt
from_in s base (Some source) is k e =
    let key = sealing_key s.label base in
    let n = nonce source s.counter s.control in
    let key_in = sealing_in s.label base k in
    if_open s base source key (crypted key n s.text.items)
    (bytes_eq (mic_of key n s.header.items (crypted key n s.text.items) (length s.mic)) s.mic) is k e
    (crypted_in key n s.text.items key_in.0 is.text) (omega (arith, crypted_length key n s.text.items key_in.1))

level_in : (control : ℕ) → IsByte control → IsByte (real_level control)
level_in control c = omega (arith, c)

byte_in : (n : ℕ) → n < 2 ^ 8 → AreBytes (byte n)
byte_in n lt = (omega arith, tt)

optional_in : {A : Type 0} (P : A → Type 0) (spell : A → List ℕ) → ((a : A) → P a → AreBytes (spell a))
    → (o : Option A) → IfSome o P → AreBytes (optional spell o)
optional_in P spell each None is = tt
optional_in P spell each (Some a) is = each a is

-- ---- NWK

relays_in : (rs : List Short) → AreBytes (flat_map short rs)
relays_in [] = tt
relays_in (r ∷ rs) = bytes_append (short r) (flat_map short rs) (two_in r.0) (relays_in rs)

route_in : (r : Route) → nwk_shape.RouteInRange r → AreBytes (nwk_spelling.route r)
route_in r is = (omega (arith, is.number), (omega (arith, is.index), relays_in r.relays.items))

nwk_header_in : (h : NwkHeader) → nwk_shape.HeaderInRange h → AreBytes (nwk_spelling.header h)
nwk_header_in h is =
    let control = number w16 h.control in
    let first = nwk_spelling.addresses h in
    let second = optional eui h.destination_eui in
    let third = optional eui h.source_eui in
    let fourth = optional byte h.multicast in
    let addresses : AreBytes first =
    bytes_append (control ++ short h.destination ++ short h.source ++ byte h.radius) (byte h.sequence)
    (bytes_append (control ++ short h.destination ++ short h.source) (byte h.radius)
    (bytes_append (control ++ short h.destination) (short h.source)
    (bytes_append control (short h.destination) (two_in h.control) (two_in h.destination.0)) (two_in h.source.0))
    (byte_in h.radius is.radius)) (byte_in h.sequence is.sequence) in
    bytes_append (first ++ second ++ third ++ fourth) (optional nwk_spelling.route h.route)
    (bytes_append (first ++ second ++ third) fourth
    (bytes_append (first ++ second) third
    (bytes_append first second addresses
    (optional_in (λ (e : Eui). e.0 < 2 ^ 64) eui (λ e x. eight_in e.0) h.destination_eui is.destination_eui))
    (optional_in (λ (e : Eui). e.0 < 2 ^ 64) eui (λ e x. eight_in e.0) h.source_eui is.source_eui))
    (optional_in (λ (b : ℕ). b < 2 ^ 8) byte byte_in h.multicast is.multicast))
    (optional_in nwk_shape.RouteInRange nwk_spelling.route route_in h.route is.route)

nwk_aux_in : (a : NwkAux) → nwk_shape.AuxInRange a → AreBytes (nwk_spelling.aux (leveled_nwk a))
nwk_aux_in a is = (
  level_in a.control is.control,
  bytes_append (number w32 a.counter) (eui a.source ++ byte a.key_sequence)
      (four_in a.counter)
      (bytes_append (eui a.source) (byte a.key_sequence) (eight_in a.source.0)
      (byte_in a.key_sequence is.key_sequence)),
)

nwk_aux_length : (a : NwkAux) → length (nwk_spelling.aux a) ≡ 14
nwk_aux_length a = refl

-- the body of a frame of bytes
nwk_body : (bytes : Bytes) (f : NwkFrame) (o : Option NwkAux) → f.aux ≡ o → IsShort bytes → bytes
    ≡ nwk_spelling.header f.header ++ nwk_spelling.content o f.body.items f.mic → IsShort f.body.items
nwk_body bytes f None e b text =
    let all : AreBytes (nwk_spelling.header f.header ++ f.body.items) = subst AreBytes text b.0 in (
      back_of (nwk_spelling.header f.header) f.body.items all,
      omega (arith, b.1, ap (length {A = ℕ}) text, length-append (nwk_spelling.header f.header) f.body.items),
    )
nwk_body bytes f (Some a) e b text =
    let header = nwk_spelling.header f.header in
    let rest = f.body.items ++ f.mic in
    let all : AreBytes (header ++ (nwk_spelling.aux a ++ rest)) = subst AreBytes text b.0 in (
      front_of f.body.items f.mic
          (back_of (nwk_spelling.aux a) rest (back_of header (nwk_spelling.aux a ++ rest) all)),
      omega (
        arith,
        b.1,
        ap (length {A = ℕ}) text,
        length-append header (nwk_spelling.aux a ++ rest),
        length-append (nwk_spelling.aux a) rest,
        length-append f.body.items f.mic,
      ),
    )

nwk_by : (bytes : Bytes) (r : Result NwkFrame NwkError) → nwk.frame_of bytes ≡ r → IsShort bytes
    → IfSome (nwk_shown r) (λ (f : NwkShown). IsShort f.body)
nwk_by bytes (Err e) is b = tt
nwk_by bytes (Ok f) is b =
    nwk_body bytes f f.aux refl b (nwk_laws.read_is_spelled bytes (by_index bytes b.0) f is).is_frame.text

pub read_nwk_in : (bytes : Bytes) → IsShort bytes → IfSome (real.read_nwk bytes) (λ (f : NwkShown). IsShort f.body)
unfolding real
read_nwk_in bytes b = nwk_by bytes (nwk.frame_of bytes) refl b

nwk_sealed : (bytes : Bytes) (f : NwkFrame) (a : NwkAux) → IsShort bytes → bytes ≡ nwk_spelling.header f.header
    ++ nwk_spelling.content (Some a) f.body.items f.mic
    → length (nwk_spelling.header f.header ++ nwk_spelling.aux (leveled_nwk a)) + length f.body.items ≤ 127
nwk_sealed bytes f a b text =
    let header = nwk_spelling.header f.header in
    let rest = f.body.items ++ f.mic in
    omega (
      arith,
      b.1,
      ap (length {A = ℕ}) text,
      length-append header (nwk_spelling.aux a ++ rest),
      length-append (nwk_spelling.aux a) rest,
      length-append f.body.items f.mic,
      length-append header (nwk_spelling.aux (leveled_nwk a)),
      nwk_aux_length a,
      nwk_aux_length (leveled_nwk a),
    )

nwk_open : (bytes : Bytes) (f : NwkFrame) (base : Bytes) (o : Option NwkAux) → f.aux ≡ o → IsShort bytes
    → nwk_shape.HeaderInRange f.header → IfSome o nwk_shape.AuxInRange → bytes ≡ nwk_spelling.header f.header
    ++ nwk_spelling.content o f.body.items f.mic → IsKey base
    → IfSome (opened (opened_seen (nwk_envelope f o) (key_of base) None)) TermInRange
unfolding opening.opened
nwk_open bytes f base None e b range aux text k = tt
nwk_open bytes f base (Some a) e b range aux text k =
    let body = nwk_body bytes f (Some a) e b text in
    from_in (opening.nwk_layer f a) base (Some a.source)
    (record {
      counter = omega (arith, aux.counter);
      control = level_in a.control aux.control;
      header = bytes_append (nwk_spelling.header f.header) (nwk_spelling.aux (leveled_nwk a))
          (nwk_header_in f.header range) (nwk_aux_in a aux);
      text = body.0;
      fits = nwk_sealed bytes f a b text;
    }) k aux.source

nwk_opens : (bytes base : Bytes) (r : Result NwkFrame NwkError) → nwk.frame_of bytes ≡ r → IsShort bytes → IsKey base
    → IfSome (opened (opened_seen (nwk_seen r) (key_of base) None)) TermInRange
nwk_opens bytes base (Err e) is b k = tt
nwk_opens bytes base (Ok f) is b k =
    let frame = (nwk_laws.read_is_spelled bytes (by_index bytes b.0) f is).is_frame in
    nwk_open bytes f base f.aux refl b frame.in_range.header frame.in_range.aux frame.text k

pub open_nwk_in : (bytes key : Bytes) → IsShort bytes → IsKey key → IfSome (real.open_nwk bytes key) TermInRange
unfolding real opened_nwk seen_nwk
open_nwk_in bytes key b k = nwk_opens bytes key (nwk.frame_of bytes) refl b k

-- ---- APS

extended_in : (e : Extended) → aps_shape.ExtendedInRange e → AreBytes (aps_spelling.extended e)
extended_in e is = (
  omega (arith, is.control),
  bytes_append (optional byte e.block) (optional byte e.bits)
      (optional_in (λ (b : ℕ). b < 2 ^ 8) byte byte_in e.block is.block)
      (optional_in (λ (b : ℕ). b < 2 ^ 8) byte byte_in e.bits is.bits),
)

words_in : (o : Option ℕ) → IfSome o (λ n. n < 2 ^ 16) → AreBytes (optional (number w16) o)
words_in o is = optional_in (λ (n : ℕ). n < 2 ^ 16) (number w16) (λ n x. two_in n) o is

aps_header_in : (h : ApsHeader) → aps_shape.HeaderInRange h → AreBytes (aps_spelling.header h)
aps_header_in h is =
    let first = aps_spelling.addressing h in
    let second = optional (number w16) h.profile in
    let third = optional byte h.source_endpoint in
    let endpoint = optional byte h.endpoint in
    let group = optional (number w16) h.group in
    let cluster = optional (number w16) h.cluster in
    let addressing : AreBytes first = (
      omega (arith, is.control),
      bytes_append (endpoint ++ group) cluster
          (bytes_append endpoint group (optional_in (λ (b : ℕ). b < 2 ^ 8) byte byte_in h.endpoint is.endpoint)
          (words_in h.group is.group)) (words_in h.cluster is.cluster),
    ) in
    bytes_append (first ++ second ++ third ++ byte h.counter) (optional aps_spelling.extended h.extended)
    (bytes_append (first ++ second ++ third) (byte h.counter)
    (bytes_append (first ++ second) third (bytes_append first second addressing (words_in h.profile is.profile))
    (optional_in (λ (b : ℕ). b < 2 ^ 8) byte byte_in h.source_endpoint is.source_endpoint))
    (byte_in h.counter is.counter))
    (optional_in aps_shape.ExtendedInRange aps_spelling.extended extended_in h.extended is.extended)

aps_aux_in : (a : ApsAux) → aps_shape.AuxInRange a → AreBytes (aps_spelling.aux (leveled_aps a))
aps_aux_in a is = (
  level_in a.control is.control,
  bytes_append (number w32 a.counter) (optional eui a.source) (four_in a.counter)
      (optional_in (λ (e : Eui). e.0 < 2 ^ 64) eui (λ e x. eight_in e.0) a.source is.source),
)

aps_aux_length : (a : ApsAux) → length (aps_spelling.aux (leveled_aps a)) ≡ length (aps_spelling.aux a)
aps_aux_length a = refl

aps_body : (bytes : Bytes) (f : ApsFrame) (o : Option ApsAux) → f.aux ≡ o → IsShort bytes → bytes
    ≡ aps_spelling.header f.header ++ aps_spelling.content o f.body.items f.mic → IsShort f.body.items
aps_body bytes f None e b text =
    let all : AreBytes (aps_spelling.header f.header ++ f.body.items) = subst AreBytes text b.0 in (
      back_of (aps_spelling.header f.header) f.body.items all,
      omega (arith, b.1, ap (length {A = ℕ}) text, length-append (aps_spelling.header f.header) f.body.items),
    )
aps_body bytes f (Some a) e b text =
    let header = aps_spelling.header f.header in
    let front = aps_spelling.aux a ++ f.body.items in
    let all : AreBytes (header ++ (front ++ f.mic)) = subst AreBytes text b.0 in (
      back_of (aps_spelling.aux a) f.body.items (front_of front f.mic (back_of header (front ++ f.mic) all)),
      omega (
        arith,
        b.1,
        ap (length {A = ℕ}) text,
        length-append header (front ++ f.mic),
        length-append front f.mic,
        length-append (aps_spelling.aux a) f.body.items,
      ),
    )

eui_in : (o : Option Eui) → IfSome o (λ (e : Eui). e.0 < 2 ^ 64) → IfSome (option_map (λ (e : Eui). e.0) o) IsEui
eui_in None is = tt
eui_in (Some e) is = is

source_in : (o : Option ApsAux) → IfSome o aps_shape.AuxInRange
    → IfSome (option_map auxiliary o) (λ (x : ApsAuxiliary). IfSome x.source IsEui)
source_in None is = tt
source_in (Some a) is = eui_in a.source is.source

aps_by : (bytes : Bytes) (r : Result ApsFrame ApsError) → aps.frame_of bytes ≡ r → IsShort bytes
    → IfSome (aps_shown r) ApsInRange
aps_by bytes (Err e) is b = tt
aps_by bytes (Ok f) is b =
    let frame = (aps_laws.read_is_spelled bytes (by_index bytes b.0) f is).is_frame in
    (aps_body bytes f f.aux refl b frame.text, source_in f.aux frame.in_range.aux)

pub read_aps_in : (bytes : Bytes) → IsShort bytes → IfSome (real.read_aps bytes) ApsInRange
unfolding real
read_aps_in bytes b = aps_by bytes (aps.frame_of bytes) refl b

aps_sealed : (bytes : Bytes) (f : ApsFrame) (a : ApsAux) → IsShort bytes → bytes ≡ aps_spelling.header f.header
    ++ aps_spelling.content (Some a) f.body.items f.mic
    → length (aps_spelling.header f.header ++ aps_spelling.aux (leveled_aps a)) + length f.body.items ≤ 127
aps_sealed bytes f a b text =
    let header = aps_spelling.header f.header in
    let front = aps_spelling.aux a ++ f.body.items in
    omega (
      arith,
      b.1,
      ap (length {A = ℕ}) text,
      length-append header (front ++ f.mic),
      length-append front f.mic,
      length-append (aps_spelling.aux a) f.body.items,
      length-append header (aps_spelling.aux (leveled_aps a)),
      aps_aux_length a,
    )

abbrev aps_layer : ApsFrame → ApsAux → Envelope
aps_layer f a = record {
  layer = layer.Aps;
  label = opening.label_of (aps_shape.key_id a.control);
  source = a.source;
  counter = a.counter;
  control = real_level a.control;
  header = record { items = aps_spelling.header f.header ++ aps_spelling.aux (leveled_aps a) };
  text = f.body;
  mic = f.mic;
}

either_source : (own : Option Eui) (given : ℕ) → IfSome own (λ (e : Eui). e.0 < 2 ^ 64) → IsEui given
    → IfSome (source_of own (Some (eui_of given))) (λ (e : Eui). IsEui e.0)
either_source None given is e = e
either_source (Some x) given is e = is

aps_open : (bytes : Bytes) (f : ApsFrame) (base : Bytes) (given : ℕ) (o : Option ApsAux) → f.aux ≡ o → IsShort bytes
    → aps_shape.HeaderInRange f.header → IfSome o aps_shape.AuxInRange → bytes ≡ aps_spelling.header f.header
    ++ aps_spelling.content o f.body.items f.mic → IsKey base → IsEui given
    → IfSome (opened (opened_seen (aps_envelope f o) (key_of base) (Some (eui_of given)))) TermInRange
unfolding opening.opened
aps_open bytes f base given None e b range aux text k g = tt
aps_open bytes f base given (Some a) e b range aux text k g =
    let body = aps_body bytes f (Some a) e b text in
    from_in (aps_layer f a) base (source_of a.source (Some (eui_of given)))
    (record {
      counter = omega (arith, aux.counter);
      control = level_in a.control aux.control;
      header = bytes_append (aps_spelling.header f.header) (aps_spelling.aux (leveled_aps a))
          (aps_header_in f.header range) (aps_aux_in a aux);
      text = body.0;
      fits = aps_sealed bytes f a b text;
    }) k (either_source a.source given aux.source g)

aps_opens : (bytes base : Bytes) (given : ℕ) (r : Result ApsFrame ApsError) → aps.frame_of bytes ≡ r → IsShort bytes
    → IsKey base → IsEui given → IfSome (opened (opened_seen (aps_seen r) (key_of base) (Some (eui_of given))))
    TermInRange
aps_opens bytes base given (Err e) is b k g = tt
aps_opens bytes base given (Ok f) is b k g =
    let frame = (aps_laws.read_is_spelled bytes (by_index bytes b.0) f is).is_frame in
    aps_open bytes f base given f.aux refl b frame.in_range.header frame.in_range.aux frame.text k g

pub open_aps_in : (bytes key : Bytes) (source : ℕ) → IsShort bytes → IsKey key → IsEui source
    → IfSome (real.open_aps bytes key source) TermInRange
unfolding real opened_aps seen_aps
open_aps_in bytes key source b k e = aps_opens bytes key source (aps.frame_of bytes) refl b k e

-- ---- commands

spelled_range : (bytes : Bytes) (c : Command) → IsShort bytes → cmd_shape.InRange c → bytes ≡ cmd_spelling.command c
    → CommandInRange (model_command c)
spelled_range bytes (cmd.TransportNetwork k sequence destination source) b r text =
    let all : AreBytes (cmd_spelling.command (cmd.TransportNetwork k sequence destination source)) =
    subst AreBytes text b.0 in (
      (
        front_of k.0 (byte sequence)
            (front_of (k.0 ++ byte sequence) (eui destination)
            (front_of (k.0 ++ byte sequence ++ eui destination) (eui source) all.1.1)),
        r.0,
      ),
      r.1,
      r.2,
      r.3,
    )
spelled_range bytes (cmd.TransportApplication k partner initiator) b r text =
    let all : AreBytes (cmd_spelling.command (cmd.TransportApplication k partner initiator)) =
    subst AreBytes text b.0 in
    ((front_of k.0 (eui partner) (front_of (k.0 ++ eui partner) (byte initiator) all.1.1), r.0), r.1, r.2)
spelled_range bytes (cmd.TransportLink k destination source) b r text =
    let all : AreBytes (cmd_spelling.command (cmd.TransportLink k destination source)) = subst AreBytes text b.0 in
    ((front_of k.0 (eui destination) (front_of (k.0 ++ eui destination) (eui source) all.1.1), r.0), r.1, r.2)
spelled_range bytes (cmd.Update device address status) b r text = (r.0, r.2)
spelled_range bytes (cmd.Remove target) b r text = r
spelled_range bytes (cmd.RequestApplication partner) b r text = r
spelled_range bytes cmd.RequestLink b r text = tt
spelled_range bytes (cmd.Switch sequence) b r text = r
spelled_range bytes (cmd.Tunnel destination inner) b r text =
    let all : AreBytes (cmd_spelling.command (cmd.Tunnel destination inner)) = subst AreBytes text b.0 in (
      r,
      back_of (eui destination) inner.items all.1,
      omega (arith, b.1, ap (length {A = ℕ}) text, length-append (eui destination) inner.items),
    )
spelled_range bytes (cmd.Verify kind source hash) b r text =
    let all : AreBytes (cmd_spelling.command (cmd.Verify kind source hash)) = subst AreBytes text b.0 in
    (r.0, r.1, (back_of (eui source) hash all.1.1, r.2))
spelled_range bytes (cmd.Confirm status kind destination) b r text = r

faulty : (e : CmdError) → ShownInRange (command_shown (Err e))
faulty (fault.Unknown id) = tt
faulty (fault.KeyType found) = tt
faulty _ = tt

command_by : (bytes : Bytes) (r : Result Command CmdError) → command_of bytes ≡ r → IsShort bytes
    → ShownInRange (command_shown r)
command_by bytes (Err e) is b = faulty e
command_by bytes (Ok c) is b =
    let spells = cmd_laws.read_is_spelled bytes (by_index bytes b.0) c is in
    spelled_range bytes c b spells.in_range spells.text

pub read_command_in : (bytes : Bytes) → IsShort bytes → ShownInRange (real.read_command bytes)
unfolding real
read_command_in bytes b = command_by bytes (command_of bytes) refl b
