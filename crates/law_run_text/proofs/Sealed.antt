-- What is sealed and spelled consists of bytes; and its length.
use Rattle.std.proofs.Common.{◌≡◌, ℕ, zero, suc, ◌+◌, ◌-◌, ◌≤◌, Bool, true, false, cond, List, [], ◌∷◌, ◌++◌, length, nat_le, refl, arith, length-append}
use Rattle.std.specs.Int.{w16, w64, to_le_bytes}
use Rattle.zb_ccm.specs.Ccm.{sealed, crypted, mic_of}
use Rattle.zb_cursor.specs.Spelling.{byte, number}
use Rattle.zb_model.specs.Data.{Bytes, Command, TransportNet, TransportApp, TransportLink, UpdateDevice, RemoveDevice, RequestApp, RequestLink, SwitchKey, Tunnel, VerifyKey, ConfirmKey, Term}
use Rattle.law_run_ranges.specs.Asking.{CommandInRange, IsPlain}
use Rattle.law_run_ranges.specs.Ranges.{AreBytes, TermInRange}
use Rattle.zb_model_real.specs.Real.{real}
use Rattle.zb_model_real.specs.Terms.{term_of, label_of, layer_of, eui_of}
use Rattle.law_run_text.proofs.Ciphers.{bytes_append, two_in, eight_in, sealing_in, crypted_in, crypted_length, mic_in}
use Rattle.zb_seal.specs.Keys.{sealing_key}
use Rattle.zb_seal.specs.Wire.{nonce, zero_level, at_place, aux_size, on_air}
use Rattle.zb_seal.proofs.Lengths.{length-mic, length-wire}

-- ---- sealed terms

placed : (n : ℕ) (xs : List ℕ) → AreBytes xs → AreBytes (at_place zero_level n xs)
placed n [] all = tt
placed zero (x ∷ xs) all = (omega (arith, all.0), all.1)
placed (suc n) (x ∷ xs) all = (all.0, placed n xs all.1)

if_bytes : (b : Bool) (xs ys : List ℕ) → AreBytes xs → AreBytes ys → AreBytes (cond b xs ys)
if_bytes true xs ys p q = p
if_bytes false xs ys p q = q

air_in : (size : ℕ) (header : List ℕ) → AreBytes header → AreBytes (on_air size header)
air_in size header h = if_bytes (nat_le size (length header)) _ header (placed (length header - size) header h) h

pub wire_in : (t : Term) → TermInRange t → AreBytes (real.wire t)
unfolding real sealed
wire_in t is =
    let key = sealing_key (label_of t.label) t.base in
    let key_in = sealing_in (label_of t.label) t.base is.base in
    let n = nonce (eui_of t.source) t.counter t.control in
    let air = on_air (aux_size (layer_of t.layer) t.control) t.header in
    bytes_append (air ++ crypted key n t.content) (mic_of key n t.header t.content 4)
    (bytes_append air (crypted key n t.content) (air_in (aux_size (layer_of t.layer) t.control) t.header is.header.0)
    (crypted_in key n t.content key_in.0 is.content.0))
    (mic_in key n t.header t.content key_in.0)

pub wire_length_in : (t : Term) → TermInRange t → length (real.wire t) ≡ length t.header + length t.content + 4
unfolding real sealed
wire_length_in t is =
    let key = sealing_key (label_of t.label) t.base in
    let key_in = sealing_in (label_of t.label) t.base is.base in
    let n = nonce (eui_of t.source) t.counter t.control in
    length-wire (term_of t) key (crypted key n t.content) (mic_of key n t.header t.content 4) refl refl refl
    (crypted_length key n t.content key_in.1) (length-mic key n t.header t.content key_in.1)

-- ---- commands

pub spelled_in : (c : Command) → CommandInRange c → AreBytes (real.spelled c)
unfolding real
spelled_in (TransportNet key sequence destination source) r = (
  omega arith,
  (
    omega arith,
    bytes_append (key ++ byte sequence ++ number w64 destination) (number w64 source)
        (bytes_append (key ++ byte sequence) (number w64 destination)
        (bytes_append key (byte sequence) r.0.0 (r.1, tt)) (eight_in destination)) (eight_in source),
  ),
)
spelled_in (TransportApp key partner initiator) r = (
  omega arith,
  (
    omega arith,
    bytes_append (key ++ number w64 partner) (byte initiator)
        (bytes_append key (number w64 partner) r.0.0 (eight_in partner)) (r.2, tt),
  ),
)
spelled_in (TransportLink key destination source) r = (
  omega arith,
  (
    omega arith,
    bytes_append (key ++ number w64 destination) (number w64 source)
        (bytes_append key (number w64 destination) r.0.0 (eight_in destination)) (eight_in source),
  ),
)
spelled_in (UpdateDevice device short status) r = (
  omega arith,
  bytes_append (to_le_bytes w64 device) (to_le_bytes w16 short ++ status ∷ []) (eight_in device)
      (bytes_append (to_le_bytes w16 short) (status ∷ []) (two_in short) (r.1, tt)),
)
spelled_in (RemoveDevice target) r = (omega arith, eight_in target)
spelled_in (RequestApp partner) r = (omega arith, (omega arith, eight_in partner))
spelled_in RequestLink r = (omega arith, (omega arith, tt))
spelled_in (SwitchKey sequence) r = (omega arith, (r, tt))
spelled_in (Tunnel destination inner) r =
    (omega arith, bytes_append (to_le_bytes w64 destination) inner (eight_in destination) r.1)
spelled_in (VerifyKey kind source hash) r =
    (omega arith, (r.0, bytes_append (to_le_bytes w64 source) hash (eight_in source) r.2.0))
spelled_in (ConfirmKey status kind destination) r = (omega arith, (r.0, (r.1, eight_in destination)))

pub plain_in : (c : Command) → CommandInRange c → IsPlain c → length (real.spelled c) ≤ 35
unfolding real
plain_in (TransportNet key sequence destination source) r plain =
    omega (
      arith,
      r.0.1,
      length-append (key ++ byte sequence ++ number w64 destination) (number w64 source),
      length-append (key ++ byte sequence) (number w64 destination),
      length-append key (byte sequence),
    )
plain_in (TransportApp key partner initiator) r plain =
    omega (
      arith,
      r.0.1,
      length-append (key ++ number w64 partner) (byte initiator),
      length-append key (number w64 partner),
    )
plain_in (TransportLink key destination source) r plain =
    omega (
      arith,
      r.0.1,
      length-append (key ++ number w64 destination) (number w64 source),
      length-append key (number w64 destination),
    )
plain_in (UpdateDevice device short status) r plain = omega arith
plain_in (RemoveDevice target) r plain = omega arith
plain_in (RequestApp partner) r plain = omega arith
plain_in RequestLink r plain = omega arith
plain_in (SwitchKey sequence) r plain = omega arith
plain_in (Tunnel destination inner) r plain = absurd plain
plain_in (VerifyKey kind source hash) r plain = omega (arith, r.2.1)
plain_in (ConfirmKey status kind destination) r plain = omega arith

pub tunnel_length : (destination : ℕ) (inner : Bytes) → length (real.spelled (Tunnel destination inner))
    ≡ 9 + length inner
unfolding real
tunnel_length destination inner = omega (arith, length-append (to_le_bytes w64 destination) inner)
