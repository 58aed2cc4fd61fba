-- The real frame of a network key is read, opened and understood as it was sealed.
use Rattle.std.proofs.Common.{◌≡◌, ℕ, false, ◌<◌, ◌^◌, List, [], ◌∷◌, ◌++◌, length, Some, None, refl, ap, ◌∙◌, append_assoc, arith, length-append}
use Rattle.std.specs.Int.{w32, w64}
use Rattle.zb_aps.proofs.ReadAgain as aps_again
use Rattle.zb_aps.specs.Shape as aps_shape
use Rattle.zb_aps.specs.Spelling as aps
use Rattle.zb_aps.specs.declared.auxiliary.ApsAux.{ApsAux}
use Rattle.zb_aps.specs.declared.frame.ApsFrame.{ApsFrame}
use Rattle.zb_aps.specs.declared.header.ApsHeader.{ApsHeader}
use Rattle.zb_ccm.specs.Ccm.{Sealed, sealed}
use Rattle.zb_cmd.proofs.ReadAgain as cmd_again
use Rattle.zb_cmd.specs.Shape as cmd_shape
use Rattle.zb_cmd.specs.Spelling.{command}
use Rattle.zb_cursor.specs.Spelling.{number}
use Rattle.zb_model.specs.Data.{Bytes}
use Rattle.zb_model.specs.Frames.{plain_frame, nwk_header, low_byte}
use Rattle.zb_model.specs.Tools.{Known}
use Rattle.zb_model_real.specs.Readers.{aps_shown, nwk_shown, command_shown, aps_frame_shown}
use Rattle.zb_model_real.specs.Real.{real, opened, command_for}
use Rattle.zb_model_real.specs.Terms.{term_of, eui_of}
use Rattle.zb_nwk.proofs.ReadAgain as nwk_again
use Rattle.zb_nwk.specs.Shape as nwk_shape
use Rattle.zb_nwk.specs.declared.frame.NwkFrame.{NwkFrame}
use Rattle.zb_nwk.specs.declared.header.NwkHeader.{NwkHeader}
use Rattle.zb_seal.proofs.Airs.{wire_is}
use Rattle.zb_seal.proofs.ApsLaws.{aps_opens}
use Rattle.zb_seal.proofs.Lengths.{length-mic, length-wire, length-sealing_key}
use Rattle.zb_seal.specs.Keys.{sealing_key}
use Rattle.zb_seal.specs.Opening.{IsApsTerm}
use Rattle.zb_seal.specs.Wire.{nonce, sealed_term, wire}
use Rattle.zb_seal.specs.declared.term.Term.{Term}
use Rattle.law_recovery.specs.KeyFrames.{KeyFrame, KeyFrameInRange, key_command, key_term, key_bytes, DeliversKeys}
use Rattle.law_run_text.proofs.Ciphers.{crypted_length}

-- ---- the command

key-fits : (f : KeyFrame) → KeyFrameInRange f → cmd_shape.InRange (command_for (key_command f))
key-fits f r = (r.key, r.sequence, r.device, r.centre)

spells-key : (f : KeyFrame) → KeyFrameInRange f → cmd_shape.Spells (command (command_for (key_command f)))
    (command_for (key_command f))
spells-key f r =
    record {
      in_range = key-fits f r;
      shaped = tt;
      text = refl;
      fits = cmd_again.small_fits (command_for (key_command f)) (key-fits f r) tt;
    }

means : (f : KeyFrame) → KeyFrameInRange f → real.read_command (real.spelled (key_command f)) ≡ Known (key_command f)
unfolding real
means f r =
    ap command_shown
    (cmd_again.spelled_again (command (command_for (key_command f))) (command_for (key_command f)) (spells-key f r))

command-length : (f : KeyFrame) → KeyFrameInRange f → length (command (command_for (key_command f))) ≡ 35
command-length f r =
    omega (
      arith,
      r.key,
      length-append (f.key ++ f.sequence ∷ [] ++ number w64 f.device) (number w64 f.centre),
      length-append (f.key ++ f.sequence ∷ []) (number w64 f.device),
      length-append f.key (f.sequence ∷ []),
    )

-- ---- the term, as the program's

abbrev pub own_term : KeyFrame → Term
own_term f = term_of (key_term real f)

abbrev pub head : KeyFrame → ApsHeader
head f =
    record {
      control = 33;
      endpoint = None;
      group = None;
      cluster = None;
      profile = None;
      source_endpoint = None;
      counter = low_byte f.counter;
      extended = None;
    }

-- with the level that counts, and as the term is on the air
abbrev pub sealed_aux : KeyFrame → ApsAux
sealed_aux f = record { control = 53; counter = f.counter; source = Some (eui_of f.centre) }

abbrev pub air_aux : KeyFrame → ApsAux
air_aux f = record { control = 48; counter = f.counter; source = Some (eui_of f.centre) }

two-not-one : ◌≡◌ {A = ℕ} 2 1 → ⊥
two-not-one e = absurd (omega (arith, e))

zero-not-one : ◌≡◌ {A = ℕ} 0 1 → ⊥
zero-not-one e = absurd (omega (arith, e))

head-shaped : (f : KeyFrame) → aps_shape.IsHeader (head f)
head-shaped f = record {
  control = record { known_kind = omega arith; known_delivery = zero-not-one };
  addresses = record { endpoint = refl; group = refl; cluster = refl; profile = refl; source_endpoint = refl };
  extended = refl;
  extended_shaped = tt;
}

head-fits : (f : KeyFrame) → aps_shape.HeaderInRange (head f)
head-fits f =
    record {
      control = omega arith;
      endpoint = tt;
      group = tt;
      cluster = tt;
      profile = tt;
      source_endpoint = tt;
      counter = omega arith;
      extended = tt;
    }

aux-fits : (f : KeyFrame) → KeyFrameInRange f → (control : ℕ) → control < 2 ^ 8
    → aps_shape.AuxInRange (record (sealed_aux f) { control = control })
aux-fits f r control lt = record { control = lt; counter = omega (arith, r.counter); source = r.centre }

is-term : (f : KeyFrame) → KeyFrameInRange f → IsApsTerm (own_term f) (head f) (sealed_aux f)
unfolding real
is-term f r = record {
  shaped = head-shaped f;
  in_range = head-fits f;
  secured = refl;
  aux_shaped = record { link_key = two-not-one; source = refl };
  aux_in_range = aux-fits f r 53 (omega arith);
  level = refl;
  layer = refl;
  label = refl;
  counter = refl;
  control = refl;
  header = refl;
}

-- ---- its bytes

sixteen : (f : KeyFrame) → KeyFrameInRange f → length (sealing_key (own_term f).label (own_term f).base.0) ≡ 16
sixteen f r = length-sealing_key (own_term f).label f.link r.link

abbrev pub sealed_of : KeyFrame → Sealed
sealed_of f = sealed_term (sealing_key (own_term f).label f.link) (own_term f)

mic-length : (f : KeyFrame) → KeyFrameInRange f → length (sealed_of f).mic ≡ 4
mic-length f r = length-mic (sealing_key (own_term f).label f.link) (nonce (eui_of f.centre) f.counter 53)
    (own_term f).header.items (own_term f).content.items (sixteen f r)

text-length : (f : KeyFrame) → KeyFrameInRange f → length (sealed_of f).text ≡ length (own_term f).content.items
unfolding sealed
text-length f r = crypted_length (sealing_key (own_term f).label f.link) (nonce (eui_of f.centre) f.counter 53)
    (own_term f).content.items (sixteen f r)

pub wire-length : (f : KeyFrame) → KeyFrameInRange f → length (wire (own_term f)) ≡ 54
unfolding real
wire-length f r =
    length-wire (own_term f) (sealing_key (own_term f).label f.link) (sealed_of f).text (sealed_of f).mic refl refl
    refl (text-length f r) (mic-length f r)
    ∙ omega (arith, command-length f r)

regroup : (hd au body mic : List ℕ) → (hd ++ au) ++ body ++ mic ≡ hd ++ ((au ++ body) ++ mic)
regroup hd au body mic = simp append_assoc

unfoldable pub air_frame : KeyFrame → ApsFrame
air_frame f =
    record {
      header = head f;
      aux = Some (air_aux f);
      body = record { items = (sealed_of f).text };
      mic = (sealed_of f).mic;
    }

pub air-spells : (f : KeyFrame) → KeyFrameInRange f → aps_shape.Spells (wire (own_term f)) (air_frame f)
unfolding real air_frame
air-spells f r = record {
  is_frame = record {
    in_range = record { header = head-fits f; aux = aux-fits f r 48 (omega arith); mic = mic-length f r };
    shaped =
        record {
          header = head-shaped f;
          secured = refl;
          aux = record { link_key = two-not-one; source = refl };
          mic = tt;
        };
    text =
        wire_is (own_term f) (aps.header (head f)) (number w32 f.counter ++ number w64 f.centre) 53 13 refl refl refl
        ∙ regroup (aps.header (head f)) (48 ∷ (number w32 f.counter ++ number w64 f.centre)) (sealed_of f).text
        (sealed_of f).mic;
  };
  fits = omega (arith, wire-length f r);
}

reads : (f : KeyFrame) → KeyFrameInRange f → real.read_aps (real.wire (key_term real f))
    ≡ Some (aps_frame_shown (air_frame f))
unfolding real air_frame
reads f r = ap aps_shown (aps_again.spelled_again (wire (own_term f)) (air_frame f) (air-spells f r))

opens : (f : KeyFrame) → KeyFrameInRange f → (given : ℕ) → real.open_aps (real.wire (key_term real f)) f.link given
    ≡ Some (key_term real f)
unfolding real
opens f r given =
    ap opened
    (aps_opens (own_term f) (head f) (sealed_aux f) (Some (eui_of given)) (is-term f r) refl r.link
    (omega (arith, wire-length f r)))

-- ---- the frame

net_head : KeyFrame → NwkHeader
net_head f =
    record {
      control = 8;
      destination = record { 0 = f.to };
      source = record { 0 = f.from };
      radius = 30;
      sequence = 0;
      destination_eui = None;
      source_eui = None;
      multicast = None;
      route = None;
    }

net_frame : KeyFrame → Bytes → NwkFrame
net_frame f body = record { header = net_head f; aux = None; body = record { items = body }; mic = 0 ∷ 0 ∷ 0 ∷ 0 ∷ [] }

net-spells : (f : KeyFrame) (body : Bytes) → KeyFrameInRange f → length body ≡ 54
    → nwk_shape.Spells (nwk_header plain_frame f.to f.from 0 ++ body) (net_frame f body)
unfolding net_frame net_head
net-spells f body r long = record {
  is_frame = record {
    in_range = record {
      header =
          record {
            control = omega arith;
            destination = r.to;
            source = r.from;
            radius = omega arith;
            sequence = omega arith;
            destination_eui = tt;
            source_eui = tt;
            multicast = tt;
            route = tt;
          };
      aux = tt;
      mic = refl;
    };
    shaped = record {
      header =
          record {
            control = record { known_kind = omega arith; version_two = refl };
            destination_eui = refl;
            source_eui = refl;
            multicast = refl;
            route = refl;
          };
      secured = refl;
      aux = tt;
      mic = refl;
    };
    text = refl;
  };
  fits = omega (arith, long, length-append (nwk_header plain_frame f.to f.from 0) body);
}

shown : (f : KeyFrame) → KeyFrameInRange f → real.read_nwk (key_bytes real f)
    ≡ Some (record
    { is_command = false; destination = f.to; source = f.from; auxiliary = None; body = real.wire (key_term real f) })
unfolding real net_frame net_head
shown f r =
    ap nwk_shown
    (nwk_again.spelled_again (nwk_header plain_frame f.to f.from 0 ++ wire (own_term f))
    (net_frame f (wire (own_term f))) (net-spells f (wire (own_term f)) r (wire-length f r)))

-- ---- all of it

pub delivers : DeliversKeys real
unfolding air_frame
delivers f r =
    record {
      shown = shown f r;
      part = aps_frame_shown (air_frame f);
      reads = reads f r;
      is_command = refl;
      sealed = refl;
      opens = opens f r;
      means = means f r;
    }
