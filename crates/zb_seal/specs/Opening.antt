-- What a frame shows before any key is tried, and what it opens to.
use Rattle.std.specs.Prelude.{◌≡◌, ℕ, ◌-◌, ◌%◌, ◌≤◌, true, List, ◌++◌, length, Option, Some, None, Result, Ok, Err, ◌==◌, if◌then◌else◌}
use Rattle.zb_base.specs.declared.address.Eui.{Eui}
use Rattle.zb_base.specs.declared.key.Key.{Key}
use Rattle.zb_base.specs.declared.label.Label.{Label}
use Rattle.zb_base.specs.declared.label.Label.TheVariants.{Data, Network, Transport, Load}
use Rattle.zb_base.specs.declared.label.Layer.TheVariants.{Nwk, Aps}
use Rattle.zb_cursor.specs.Spelling.{bit}
use Rattle.zb_ccm.specs.Ccm.{opens}
use Rattle.zb_nwk.specs.declared.fault.NwkError.{NwkError}
use Rattle.zb_nwk.specs.declared.header.NwkHeader.{NwkHeader}
use Rattle.zb_nwk.specs.declared.auxiliary.NwkAux.{NwkAux}
use Rattle.zb_nwk.specs.declared.frame.NwkFrame.{NwkFrame}
use Rattle.zb_nwk.specs.Reading as nwk_reading
use Rattle.zb_nwk.specs.Spelling as nwk
use Rattle.zb_nwk.specs.Shape as nwk_shape
use Rattle.zb_aps.specs.declared.fault.ApsError.{ApsError}
use Rattle.zb_aps.specs.declared.header.ApsHeader.{ApsHeader}
use Rattle.zb_aps.specs.declared.auxiliary.ApsAux.{ApsAux}
use Rattle.zb_aps.specs.declared.frame.ApsFrame.{ApsFrame}
use Rattle.zb_aps.specs.Reading as aps_reading
use Rattle.zb_aps.specs.Spelling as aps
use Rattle.zb_aps.specs.Shape as aps_shape
use Rattle.zb_seal.specs.declared.envelope.Envelope.{Envelope}
use Rattle.zb_seal.specs.declared.envelope.NwkEnvelope.{NwkEnvelope}
use Rattle.zb_seal.specs.declared.envelope.OpenError.{OpenError}
use Rattle.zb_seal.specs.declared.envelope.OpenError.TheVariants.{Frame, NotSecured, NoSource, BadMic}
use Rattle.zb_seal.specs.declared.term.Term.{Term}
use Rattle.zb_seal.specs.Wire.{real_level, zero_level, at_place, nonce, wire}
use Rattle.zb_seal.specs.Keys.{sealing_key}
use Rattle.zb_base.specs.Limits.{longest_frame}

-- the label of a key identifier (05-3474-21, 4.5.1.1.2)
abbrev pub label_of : ℕ → Label
label_of id = if id == 0 then Data else if id == 1 then Network else if id == 2 then Transport else Load

-- an auxiliary header with the actual level
abbrev pub leveled_nwk : NwkAux → NwkAux
leveled_nwk a = record a { control = real_level a.control }

abbrev pub leveled_aps : ApsAux → ApsAux
leveled_aps a = record a { control = real_level a.control }

-- the secured layer of a NWK frame that has this auxiliary header
abbrev pub nwk_layer : NwkFrame → NwkAux → Envelope
nwk_layer f a = record {
  layer = Nwk;
  label = Network;
  source = Some a.source;
  counter = a.counter;
  control = real_level a.control;
  header = record { items = nwk.header f.header ++ nwk.aux (leveled_nwk a) };
  text = f.body;
  mic = f.mic;
}

abbrev pub nwk_envelope : NwkFrame → Option NwkAux → Result Envelope OpenError
nwk_envelope f None = Err NotSecured
nwk_envelope f (Some a) = Ok (nwk_layer f a)

-- the same, with the addresses of the frame and the network key that seals it
abbrev pub nwk_closed : NwkFrame → Option NwkAux → Result NwkEnvelope OpenError
nwk_closed f None = Err NotSecured
nwk_closed f (Some a) =
    Ok (record {
      destination = f.header.destination;
      source = f.header.source;
      key_sequence = a.key_sequence;
      envelope = nwk_layer f a;
    })

abbrev pub nwk_seen : Result NwkFrame NwkError → Result Envelope OpenError
nwk_seen (Err e) = Err (Frame (Some e) None)
nwk_seen (Ok f) = nwk_envelope f f.aux

-- what a NWK frame shows
unfoldable pub seen_nwk : List ℕ → Result Envelope OpenError
seen_nwk bytes = nwk_seen (nwk_reading.frame_of bytes)

-- the length of an auxiliary header at APS
abbrev pub aps_size : Option Eui → ℕ
aps_size None = 5
aps_size (Some source) = 13

abbrev pub aps_envelope : ApsFrame → Option ApsAux → Result Envelope OpenError
aps_envelope f None = Err NotSecured
aps_envelope f (Some a) = Ok (record {
  layer = Aps;
  label = label_of (aps_shape.key_id a.control);
  source = a.source;
  counter = a.counter;
  control = real_level a.control;
  header = record { items = aps.header f.header ++ aps.aux (leveled_aps a) };
  text = f.body;
  mic = f.mic;
})

abbrev pub aps_seen : Result ApsFrame ApsError → Result Envelope OpenError
aps_seen (Err e) = Err (Frame None (Some e))
aps_seen (Ok f) = aps_envelope f f.aux

-- what an APS frame shows
unfoldable pub seen_aps : List ℕ → Result Envelope OpenError
seen_aps bytes = aps_seen (aps_reading.frame_of bytes)

-- the source in the frame, or else the given one
abbrev pub source_of : Option Eui → Option Eui → Option Eui
source_of (Some source) given = Some source
source_of None given = given

-- the term of an envelope with the text as the content
abbrev pub term_of : Envelope → Key → Eui → Term
term_of s base source = record {
  layer = s.layer;
  base = base;
  label = s.label;
  source = source;
  counter = s.counter;
  control = s.control;
  header = s.header;
  content = s.text;
}

abbrev pub opened_term : Envelope → Key → Eui → Option (List ℕ) → Result Term OpenError
opened_term s base source None = Err BadMic
opened_term s base source (Some content) = Ok (term_of (record s { text = record { items = content } }) base source)

-- the content that an envelope holds for this source under this sealing key
abbrev pub content_of : Envelope → List ℕ → Eui → Option (List ℕ)
content_of s key source = opens key (nonce source s.counter s.control) s.header.items s.text.items s.mic

abbrev pub opened_from : Envelope → Key → Option Eui → Result Term OpenError
opened_from s base None = Err NoSource
opened_from s base (Some source) = opened_term s base source (content_of s (sealing_key s.label base.0) source)

-- what an envelope opens to under a base key
unfoldable pub opened : Envelope → Key → Option Eui → Result Term OpenError
opened s base given = opened_from s base (source_of s.source given)

abbrev pub opened_seen : Result Envelope OpenError → Key → Option Eui → Result Term OpenError
opened_seen (Err e) base given = Err e
opened_seen (Ok s) base given = opened s base given

-- What a NWK frame opens to, or the first of its faults: not a frame, not secured, a MIC that isn't the content's.
unfoldable pub opened_nwk : List ℕ → Key → Result Term OpenError
opened_nwk bytes base = opened_seen (seen_nwk bytes) base None

-- The same for an APS frame, which may leave its source out.
unfoldable pub opened_aps : List ℕ → Key → Option Eui → Result Term OpenError
opened_aps bytes base given = opened_seen (seen_aps bytes) base given

-- The term is of a NWK frame: its header is of a secured frame with the actual level, and the fields of the term agree
-- with the header.
pub record IsNwkTerm (t : Term) (h : NwkHeader) (a : NwkAux) : Type 0 where
  pub shaped : nwk_shape.IsHeader h
  pub in_range : nwk_shape.HeaderInRange h
  pub secured : bit h.control 9 ≡ true
  pub aux_shaped : nwk_shape.IsAuxControl a.control
  pub aux_in_range : nwk_shape.AuxInRange a
  pub level : a.control % 8 ≡ 5
  pub layer : t.layer ≡ Nwk
  pub label : t.label ≡ Network
  pub source : t.source ≡ a.source
  pub counter : t.counter ≡ a.counter
  pub control : t.control ≡ a.control
  pub header : t.header.items ≡ nwk.header h ++ nwk.aux a

-- The bytes open to the term under the base key: they are its bytes on the air, except for the level bits.
pub record OpensNwk (bytes : List ℕ) (base : Key) (t : Term) : Type 0 where
  pub header : NwkHeader
  pub aux : NwkAux
  pub is_term : IsNwkTerm t header aux
  pub base_is : t.base ≡ base
  pub fits : length bytes ≤ longest_frame
  pub same : at_place zero_level (length t.header.items - 14) bytes ≡ wire t

-- The same at APS, where the header may leave the source out.
pub record IsApsTerm (t : Term) (h : ApsHeader) (a : ApsAux) : Type 0 where
  pub shaped : aps_shape.IsHeader h
  pub in_range : aps_shape.HeaderInRange h
  pub secured : bit h.control 5 ≡ true
  pub aux_shaped : aps_shape.IsAux a
  pub aux_in_range : aps_shape.AuxInRange a
  pub level : a.control % 8 ≡ 5
  pub layer : t.layer ≡ Aps
  pub label : t.label ≡ label_of (aps_shape.key_id a.control)
  pub counter : t.counter ≡ a.counter
  pub control : t.control ≡ a.control
  pub header : t.header.items ≡ aps.header h ++ aps.aux a

pub record OpensAps (bytes : List ℕ) (base : Key) (given : Option Eui) (t : Term) : Type 0 where
  pub header : ApsHeader
  pub aux : ApsAux
  pub is_term : IsApsTerm t header aux
  pub source : source_of aux.source given ≡ Some t.source
  pub base_is : t.base ≡ base
  pub fits : length bytes ≤ longest_frame
  pub same : at_place zero_level (length t.header.items - aps_size aux.source) bytes ≡ wire t
