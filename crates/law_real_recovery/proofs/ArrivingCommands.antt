-- The real frames of the exchange of link keys are read, opened and understood as they were sealed.
use Rattle.std.proofs.Common.{◌≡◌, ℕ, Bool, true, false, ◌+◌, ◌<◌, ◌≤◌, ◌^◌, List, [], ◌∷◌, ◌++◌, length, Some, None, refl, ap, ◌∙◌, append_assoc, arith, length-append}
use Rattle.std.specs.Int.{w32, w64}
use Rattle.zb_aps.proofs.ReadAgain as aps_again
use Rattle.zb_aps.specs.Shape as aps_shape
use Rattle.zb_aps.specs.Spelling as aps
use Rattle.zb_aps.specs.declared.auxiliary.ApsAux.{ApsAux}
use Rattle.zb_aps.specs.declared.frame.ApsFrame.{ApsFrame}
use Rattle.zb_aps.specs.declared.header.ApsHeader.{ApsHeader}
use Rattle.zb_ccm.specs.Ccm.{Sealed, sealed}
use Rattle.zb_cmd.proofs.ReadAgain as cmd_again
use Rattle.zb_cmd.specs.Shape as cmd_shape
use Rattle.zb_cmd.specs.Spelling.{command}
use Rattle.zb_cursor.specs.Spelling.{number}
use Rattle.zb_model.specs.Data.{Bytes, Label, ForData, ForLoad, Command, TransportLink, RequestLink, VerifyKey, ConfirmKey}
use Rattle.zb_model.specs.Frames.{low_byte}
use Rattle.zb_model.specs.Tools.{Known, verify_hash}
use Rattle.zb_model_real.specs.Readers.{aps_shown, nwk_shown, command_shown, aps_frame_shown}
use Rattle.zb_model_real.specs.Real.{real, opened, command_for}
use Rattle.zb_model_real.specs.Terms.{term_of, eui_of}
use Rattle.zb_nwk.proofs.ReadAgain as nwk_again
use Rattle.zb_nwk.specs.Shape as nwk_shape
use Rattle.zb_nwk.specs.Spelling as nwk
use Rattle.zb_nwk.specs.declared.auxiliary.NwkAux.{NwkAux}
use Rattle.zb_nwk.specs.declared.frame.NwkFrame.{NwkFrame}
use Rattle.zb_nwk.specs.declared.header.NwkHeader.{NwkHeader}
use Rattle.zb_seal.proofs.Airs.{wire_is}
use Rattle.zb_seal.proofs.ApsLaws.{aps_opens}
use Rattle.zb_seal.proofs.NwkLaws.{nwk_opens}
use Rattle.zb_seal.proofs.Lengths.{length-keyed, length-mic, length-wire, length-sealing_key}
use Rattle.zb_seal.specs.Keys.{sealing_key}
use Rattle.zb_seal.specs.Opening.{IsApsTerm, IsNwkTerm}
use Rattle.zb_seal.specs.Wire.{nonce, sealed_term, wire}
use Rattle.zb_seal.specs.declared.term.Term.{Term}
use Rattle.law_recovery.specs.CommandFrames.{NetFrame, LinkFrame, net_term, link_term, sealed_content, clear_content, NetFrameInRange, SealedInRange, ClearInRange, IsCarried, IsUnsealed, IsRead, DeliversCommands}
use Rattle.law_run_text.proofs.Ciphers.{crypted_length}

-- ---- commands

-- a command that has this spelling, and isn't long, is understood
pub record IsSpelled (c : Command) : Type 0 where
  pub means : real.read_command (real.spelled c) ≡ Known c
  pub short : length (command (command_for c)) ≤ 64

spelled_request : IsSpelled RequestLink
unfolding real
spelled_request = record {
  means =
      ap command_shown
      (cmd_again.spelled_again (command (command_for RequestLink)) (command_for RequestLink)
      (record { in_range = tt; shaped = tt; text = refl; fits = omega arith }));
  short = omega arith;
}

spelled_link : (key : Bytes) (destination source : ℕ) → length key ≡ 16 → destination < 2 ^ 64 → source < 2 ^ 64
    → IsSpelled (TransportLink key destination source)
unfolding real
spelled_link key destination source long to from =
    let c = TransportLink key destination source in
    let fits : cmd_shape.InRange (command_for c) = (long, to, from) in
    record {
      means =
          ap command_shown
          (cmd_again.spelled_again (command (command_for c)) (command_for c)
          (record { in_range = fits; shaped = tt; text = refl; fits = cmd_again.small_fits (command_for c) fits tt }));
      short =
          omega (
            arith,
            long,
            length-append (key ++ number w64 destination) (number w64 source),
            length-append key (number w64 destination),
          );
    }

spelled_proof : (kind source : ℕ) (hash : Bytes) → kind < 2 ^ 8 → source < 2 ^ 64 → length hash ≡ 16
    → IsSpelled (VerifyKey kind source hash)
unfolding real
spelled_proof kind source hash small from long =
    let c = VerifyKey kind source hash in
    let fits : cmd_shape.InRange (command_for c) = (small, from, long) in
    record {
      means =
          ap command_shown
          (cmd_again.spelled_again (command (command_for c)) (command_for c)
          (record { in_range = fits; shaped = tt; text = refl; fits = cmd_again.small_fits (command_for c) fits tt }));
      short = omega (arith, long, length-append (number w64 source) hash);
    }

spelled_confirmation : (status kind destination : ℕ) → status < 2 ^ 8 → kind < 2 ^ 8 → destination < 2 ^ 64
    → IsSpelled (ConfirmKey status kind destination)
unfolding real
spelled_confirmation status kind destination a b to =
    let c = ConfirmKey status kind destination in
    let fits : cmd_shape.InRange (command_for c) = (a, b, to) in
    record {
      means =
          ap command_shown
          (cmd_again.spelled_again (command (command_for c)) (command_for c)
          (record { in_range = fits; shaped = tt; text = refl; fits = cmd_again.small_fits (command_for c) fits tt }));
      short = omega arith;
    }

-- ---- a command that is sealed: with the key itself, or with the load key

-- of the load key, or of the key itself: the label, the auxiliary control byte, and that byte on the air
abbrev pub label_by : Bool → Label
label_by true = ForLoad
label_by false = ForData

abbrev control_by : Bool → ℕ
control_by true = 61
control_by false = 37

abbrev air_by : Bool → ℕ
air_by true = 56
air_by false = 32

abbrev pub of_load : Bool → Bytes → ℕ → ℕ → Command → LinkFrame
of_load b link source counter c =
    record { label = label_by b; link = link; source = source; counter = counter; command = c }

abbrev pub aps_own : LinkFrame → Term
aps_own l = term_of (link_term real l)

abbrev aps_head : ℕ → ApsHeader
aps_head counter =
    record {
      control = 33;
      endpoint = None;
      group = None;
      cluster = None;
      profile = None;
      source_endpoint = None;
      counter = low_byte counter;
      extended = None;
    }

abbrev aps_aux : ℕ → ℕ → ℕ → ApsAux
aps_aux control counter source = record { control = control; counter = counter; source = Some (eui_of source) }

zero-not-one : ◌≡◌ {A = ℕ} 0 1 → ⊥
zero-not-one e = absurd (omega (arith, e))

three-not-one : ◌≡◌ {A = ℕ} 3 1 → ⊥
three-not-one e = absurd (omega (arith, e))

head-shaped : (counter : ℕ) → aps_shape.IsHeader (aps_head counter)
head-shaped counter = record {
  control = record { known_kind = omega arith; known_delivery = zero-not-one };
  addresses = record { endpoint = refl; group = refl; cluster = refl; profile = refl; source_endpoint = refl };
  extended = refl;
  extended_shaped = tt;
}

head-fits : (counter : ℕ) → aps_shape.HeaderInRange (aps_head counter)
head-fits counter =
    record {
      control = omega arith;
      endpoint = tt;
      group = tt;
      cluster = tt;
      profile = tt;
      source_endpoint = tt;
      counter = omega arith;
      extended = tt;
    }

aux-fits : (control counter source : ℕ) → control < 2 ^ 8 → counter < 4294967295 → source < 2 ^ 64
    → aps_shape.AuxInRange (aps_aux control counter source)
aux-fits control counter source small lt le = record { control = small; counter = omega (arith, lt); source = le }

is-term : (b : Bool) (link : Bytes) (source counter : ℕ) (c : Command) → counter < 4294967295 → source < 2 ^ 64
    → IsApsTerm (aps_own (of_load b link source counter c)) (aps_head counter) (aps_aux (control_by b) counter source)
unfolding real
is-term true link source counter c lt le = record {
  shaped = head-shaped counter;
  in_range = head-fits counter;
  secured = refl;
  aux_shaped = record { link_key = three-not-one; source = refl };
  aux_in_range = aux-fits 61 counter source (omega arith) lt le;
  level = refl;
  layer = refl;
  label = refl;
  counter = refl;
  control = refl;
  header = refl;
}
is-term false link source counter c lt le = record {
  shaped = head-shaped counter;
  in_range = head-fits counter;
  secured = refl;
  aux_shaped = record { link_key = zero-not-one; source = refl };
  aux_in_range = aux-fits 37 counter source (omega arith) lt le;
  level = refl;
  layer = refl;
  label = refl;
  counter = refl;
  control = refl;
  header = refl;
}

abbrev aps_key : LinkFrame → List ℕ
aps_key l = sealing_key (aps_own l).label l.link

abbrev aps_sealed : LinkFrame → Sealed
aps_sealed l = sealed_term (aps_key l) (aps_own l)

key-length : (l : LinkFrame) → length l.link ≡ 16 → length (aps_key l) ≡ 16
key-length l long = length-sealing_key (aps_own l).label l.link long

mic-length : (l : LinkFrame) → length l.link ≡ 16 → length (aps_sealed l).mic ≡ 4
mic-length l long = length-mic (aps_key l) (nonce (aps_own l).source (aps_own l).counter (aps_own l).control)
    (aps_own l).header.items (aps_own l).content.items (key-length l long)

text-length : (l : LinkFrame) → length l.link ≡ 16 → length (aps_sealed l).text ≡ length (aps_own l).content.items
unfolding sealed
text-length l long = crypted_length (aps_key l) (nonce (aps_own l).source (aps_own l).counter (aps_own l).control)
    (aps_own l).content.items (key-length l long)

pub content-length : (b : Bool) (link : Bytes) (source counter : ℕ) (c : Command) → length link ≡ 16
    → length (wire (aps_own (of_load b link source counter c))) ≡ length (command (command_for c)) + 19
unfolding real
content-length true link source counter c long =
    let l = of_load true link source counter c in
    length-wire (aps_own l) (aps_key l) (aps_sealed l).text (aps_sealed l).mic refl refl refl (text-length l long)
    (mic-length l long) ∙ omega arith
content-length false link source counter c long =
    let l = of_load false link source counter c in
    length-wire (aps_own l) (aps_key l) (aps_sealed l).text (aps_sealed l).mic refl refl refl (text-length l long)
    (mic-length l long) ∙ omega arith

regroup : (hd au body mic : List ℕ) → (hd ++ au) ++ body ++ mic ≡ hd ++ ((au ++ body) ++ mic)
regroup hd au body mic = simp append_assoc

air_frame : Bool → Bytes → ℕ → ℕ → Command → ApsFrame
air_frame b link source counter c = let l =
    of_load b link source counter c in
    record {
      header = aps_head counter;
      aux = Some (aps_aux (air_by b) counter source);
      body = record { items = (aps_sealed l).text };
      mic = (aps_sealed l).mic;
    }

air-text : (b : Bool) (link : Bytes) (source counter : ℕ) (c : Command)
    → wire (aps_own (of_load b link source counter c)) ≡ aps.frame (air_frame b link source counter c)
unfolding real air_frame
air-text true link source counter c =
    let l = of_load true link source counter c in
    wire_is (aps_own l) (aps.header (aps_head counter)) (number w32 counter ++ number w64 source) 61 13 refl refl refl
    ∙ regroup (aps.header (aps_head counter)) (56 ∷ (number w32 counter ++ number w64 source)) (aps_sealed l).text
    (aps_sealed l).mic
air-text false link source counter c =
    let l = of_load false link source counter c in
    wire_is (aps_own l) (aps.header (aps_head counter)) (number w32 counter ++ number w64 source) 37 13 refl refl refl
    ∙ regroup (aps.header (aps_head counter)) (32 ∷ (number w32 counter ++ number w64 source)) (aps_sealed l).text
    (aps_sealed l).mic

air-shaped : (b : Bool) (link : Bytes) (source counter : ℕ) (c : Command)
    → aps_shape.IsShaped (air_frame b link source counter c)
unfolding air_frame
air-shaped true link source counter c =
    record {
      header = head-shaped counter;
      secured = refl;
      aux = record { link_key = three-not-one; source = refl };
      mic = tt;
    }
air-shaped false link source counter c =
    record {
      header = head-shaped counter;
      secured = refl;
      aux = record { link_key = zero-not-one; source = refl };
      mic = tt;
    }

air-small : (b : Bool) → air_by b < 2 ^ 8
air-small true = omega arith
air-small false = omega arith

air-fits : (b : Bool) (link : Bytes) (source counter : ℕ) (c : Command) → length link ≡ 16 → counter < 4294967295
    → source < 2 ^ 64 → aps_shape.InRange (air_frame b link source counter c)
unfolding air_frame
air-fits b link source counter c long lt le =
    record {
      header = head-fits counter;
      aux = aux-fits (air_by b) counter source (air-small b) lt le;
      mic = mic-length (of_load b link source counter c) long;
    }

reads : (b : Bool) (link : Bytes) (source counter : ℕ) (c : Command) → length link ≡ 16 → counter < 4294967295
    → source < 2 ^ 64 → IsSpelled c
    → real.read_aps (real.wire (link_term real (of_load b link source counter c)))
    ≡ Some (aps_frame_shown (air_frame b link source counter c))
unfolding real
reads b link source counter c long lt le s =
    ap aps_shown
    (aps_again.spelled_again (wire (aps_own (of_load b link source counter c)))
    (air_frame b link source counter c) (record {
      is_frame =
          record {
            in_range = air-fits b link source counter c long lt le;
            shaped = air-shaped b link source counter
                c;
            text = air-text b link source counter c;
          };
      fits = omega (arith, content-length b link source counter c long, s.short);
    }))

opens : (b : Bool) (link : Bytes) (source counter : ℕ) (c : Command) → length link ≡ 16 → counter < 4294967295
    → source < 2 ^ 64 → IsSpelled c → (given : ℕ)
    → real.open_aps (real.wire (link_term real (of_load b link source counter c))) link given
    ≡ Some (link_term real (of_load b link source counter c))
unfolding real
opens true link source counter c long lt le s given =
    ap opened
    (aps_opens (aps_own (of_load true link source counter c)) (aps_head counter) (aps_aux 61 counter source)
    (Some (eui_of given)) (is-term true link source counter c lt le) refl long
    (omega (arith, content-length true link source counter c long, s.short)))
opens false link source counter c long lt le s given =
    ap opened
    (aps_opens (aps_own (of_load false link source counter c)) (aps_head counter) (aps_aux 37 counter source)
    (Some (eui_of given)) (is-term false link source counter c lt le) refl long
    (omega (arith, content-length false link source counter c long, s.short)))

pub arrives : (b : Bool) (link : Bytes) (source counter : ℕ) (c : Command) → length link ≡ 16 → counter < 4294967295
    → source < 2 ^ 64 → IsSpelled c → IsUnsealed real (of_load b link source counter c)
unfolding air_frame
arrives true link source counter c long lt le s =
    record {
      part = aps_frame_shown (air_frame true link source counter c);
      reads = reads true link source counter c
          long lt le s;
      is_command = refl;
      sealed = refl;
      opens = opens true link source counter c long lt le s;
      means =
          s.means;
    }
arrives false link source counter c long lt le s =
    record {
      part = aps_frame_shown (air_frame false link source counter c);
      reads = reads false link source counter c
          long lt le s;
      is_command = refl;
      sealed = refl;
      opens = opens false link source counter c long lt le s;
      means =
          s.means;
    }

-- ---- a NWK frame

abbrev net_own : NetFrame → Bytes → Term
net_own f content = term_of (net_term f content)

abbrev net_head : NetFrame → NwkHeader
net_head f =
    record {
      control = 520;
      destination = record { 0 = f.to };
      source = record { 0 = f.from };
      radius = 30;
      sequence = low_byte f.counter;
      destination_eui = None;
      source_eui = None;
      multicast = None;
      route = None;
    }

abbrev net_aux : ℕ → NetFrame → NwkAux
net_aux control f =
    record { control = control; counter = f.counter; source = eui_of f.source; key_sequence = f.sequence }

net-shaped : (f : NetFrame) → nwk_shape.IsHeader (net_head f)
net-shaped f =
    record {
      control = record { known_kind = omega arith; version_two = refl };
      destination_eui = refl;
      source_eui = refl;
      multicast = refl;
      route = refl;
    }

net-fits : (f : NetFrame) → NetFrameInRange f → nwk_shape.HeaderInRange (net_head f)
net-fits f r =
    record {
      control = omega arith;
      destination = r.to;
      source = r.from;
      radius = omega arith;
      sequence = omega arith;
      destination_eui = tt;
      source_eui = tt;
      multicast = tt;
      route = tt;
    }

net-aux-fits : (control : ℕ) (f : NetFrame) → NetFrameInRange f → control < 2 ^ 8
    → nwk_shape.AuxInRange (net_aux control f)
net-aux-fits control f r small =
    record { control = small; counter = omega (arith, r.counter); source = r.source; key_sequence = r.sequence }

is-net-term : (f : NetFrame) (content : Bytes) → NetFrameInRange f
    → IsNwkTerm (net_own f content) (net_head f) (net_aux 45 f)
is-net-term f content r = record {
  shaped = net-shaped f;
  in_range = net-fits f r;
  secured = refl;
  aux_shaped = record { network_key = refl; extended = refl };
  aux_in_range = net-aux-fits 45 f r (omega arith);
  level = refl;
  layer = refl;
  label = refl;
  source = refl;
  counter = refl;
  control = refl;
  header = refl;
}

abbrev net_sealed : NetFrame → Bytes → Sealed
net_sealed f content = sealed_term (sealing_key (net_own f content).label f.key) (net_own f content)

net-key-length : (f : NetFrame) (content : Bytes) → NetFrameInRange f
    → length (sealing_key (net_own f content).label f.key) ≡ 16
net-key-length f content r = length-sealing_key (net_own f content).label f.key r.key

net-mic-length : (f : NetFrame) (content : Bytes) → NetFrameInRange f → length (net_sealed f content).mic ≡ 4
net-mic-length f content r = length-mic (sealing_key (net_own f content).label f.key)
    (nonce (eui_of f.source) f.counter 45) (net_own f content).header.items content (net-key-length f content r)

net-text-length : (f : NetFrame) (content : Bytes) → NetFrameInRange f → length (net_sealed f content).text
    ≡ length content
unfolding sealed
net-text-length f content r = crypted_length (sealing_key (net_own f content).label f.key)
    (nonce (eui_of f.source) f.counter 45) content (net-key-length f content r)

net-length : (f : NetFrame) (content : Bytes) → NetFrameInRange f → length (wire (net_own f content))
    ≡ length content + 26
net-length f content r =
    length-wire (net_own f content) (sealing_key (net_own f content).label f.key) (net_sealed f content).text
    (net_sealed f content).mic refl refl refl (net-text-length f content r) (net-mic-length f content r) ∙ omega
    arith

net_air : NetFrame → Bytes → NwkFrame
net_air f content =
    record {
      header = net_head f;
      aux = Some (net_aux 40 f);
      body = record { items = (net_sealed f content).text };
      mic = (net_sealed f content).mic;
    }

net-text : (f : NetFrame) (content : Bytes) → wire (net_own f content) ≡ nwk.frame (net_air f content)
unfolding net_air
net-text f content =
    wire_is (net_own f content) (nwk.header (net_head f))
    (number w32 f.counter ++ number w64 f.source ++ f.sequence ∷ []) 45 14 refl refl refl
    ∙ regroup (nwk.header (net_head f)) (40 ∷ (number w32 f.counter ++ number w64 f.source ++ f.sequence ∷ []))
    (net_sealed f content).text (net_sealed f content).mic

net-spells : (f : NetFrame) (content : Bytes) → NetFrameInRange f → length content ≤ 101
    → nwk_shape.Spells (wire (net_own f content)) (net_air f content)
unfolding net_air
net-spells f content r short = record {
  is_frame = record {
    in_range =
        record { header = net-fits f r; aux = net-aux-fits 40 f r (omega arith); mic = net-mic-length f content r };
    shaped =
        record {
          header = net-shaped f;
          secured = refl;
          aux = record { network_key = refl; extended = refl };
          mic = tt;
        };
    text = net-text f content;
  };
  fits = omega (arith, net-length f content r, short);
}

pub carried : (f : NetFrame) (content : Bytes) → NetFrameInRange f → length content ≤ 101 → IsCarried real f content
unfolding real net_air
carried f content r short = record {
  body = (net_sealed f content).text;
  shown =
      ap nwk_shown
      (nwk_again.spelled_again (wire (net_own f content)) (net_air f content) (net-spells f content r short));
  opens =
      ap opened
      (nwk_opens (net_own f content) (net_head f) (net_aux 45 f) (is-net-term f content r) r.key
      (omega (arith, net-length f content r, short)));
}

-- ---- a command in clear

clear_head : ℕ → ApsHeader
clear_head counter =
    record {
      control = 1;
      endpoint = None;
      group = None;
      cluster = None;
      profile = None;
      source_endpoint = None;
      counter = low_byte counter;
      extended = None;
    }

clear_frame : ℕ → Command → ApsFrame
clear_frame counter c =
    record {
      header = clear_head counter;
      aux = None;
      body = record { items = command (command_for c) };
      mic = 0 ∷ 0
          ∷ 0 ∷ 0 ∷ [];
    }

clear-spells : (counter : ℕ) (c : Command) → IsSpelled c → aps_shape.Spells (clear_content real counter c)
    (clear_frame counter c)
unfolding real clear_frame clear_head
clear-spells counter c s = record {
  is_frame = record {
    in_range = record {
      header =
          record {
            control = omega arith;
            endpoint = tt;
            group = tt;
            cluster = tt;
            profile = tt;
            source_endpoint = tt;
            counter = omega arith;
            extended = tt;
          };
      aux = tt;
      mic = refl;
    };
    shaped = record {
      header = record {
        control = record { known_kind = omega arith; known_delivery = zero-not-one };
        addresses = record { endpoint = refl; group = refl; cluster = refl; profile = refl; source_endpoint = refl };
        extended = refl;
        extended_shaped = tt;
      };
      secured = refl;
      aux = tt;
      mic = refl;
    };
    text = refl;
  };
  fits = omega (arith, s.short);
}

pub read_clear : (counter : ℕ) (c : Command) → IsSpelled c → IsRead real counter c
unfolding real clear_frame clear_head
read_clear counter c s = record {
  part = aps_frame_shown (clear_frame counter c);
  reads =
      ap aps_shown
      (aps_again.spelled_again (clear_content real counter c) (clear_frame counter c) (clear-spells counter c s));
  is_command = refl;
  clear = refl;
  body = refl;
  means = s.means;
}

-- ---- all of it

sealed_by : (label : Label) (link : Bytes) (source counter : ℕ) (c : Command) → length link ≡ 16 → counter
    < 4294967295 → source < 2 ^ 64 → SealedInRange label c
    → IsUnsealed real (record { label = label; link = link; source = source; counter = counter; command = c })
sealed_by ForData link source counter RequestLink long lt le in_range = arrives false link source counter RequestLink
    long lt le spelled_request
sealed_by ForData link source counter (ConfirmKey status kind destination) long lt le in_range =
    arrives false link source counter (ConfirmKey status kind destination) long lt le
    (spelled_confirmation status kind destination in_range.0 in_range.1 in_range.2)
sealed_by ForLoad link source counter (TransportLink key destination from) long lt le in_range =
    arrives true link source counter (TransportLink key destination from) long lt le
    (spelled_link key destination from in_range.0 in_range.1 in_range.2)
sealed_by _ link source counter _ long lt le in_range = absurd (zero-not-one in_range)

short_by : (label : Label) (link : Bytes) (source counter : ℕ) (c : Command) → length link ≡ 16
    → SealedInRange label c
    → length
    (sealed_content real (record { label = label; link = link; source = source; counter = counter; command = c }))
    ≤ 101
unfolding real
short_by ForData link source counter RequestLink long in_range =
    omega (arith, content-length false link source counter RequestLink long, spelled_request.short)
short_by ForData link source counter (ConfirmKey status kind destination) long in_range =
    omega (
      arith,
      content-length false link source counter (ConfirmKey status kind destination) long,
      (spelled_confirmation status kind destination in_range.0 in_range.1 in_range.2).short,
    )
short_by ForLoad link source counter (TransportLink key destination from) long in_range =
    omega (
      arith,
      content-length true link source counter (TransportLink key destination from) long,
      (spelled_link key destination from in_range.0 in_range.1 in_range.2).short,
    )
short_by _ link source counter _ long in_range = absurd (zero-not-one in_range)

spelled_clear : (c : Command) → ClearInRange c → IsSpelled c
spelled_clear (VerifyKey kind source hash) r = spelled_proof kind source hash r.0 r.1 r.2
spelled_clear _ r = absurd (zero-not-one r)

pub clear_short : (counter : ℕ) (c : Command) → IsSpelled c → length (clear_content real counter c) ≤ 101
unfolding real
clear_short counter c s = omega (arith, s.short)

hash_size : (key : Bytes) → length (verify_hash real key) ≡ 16
unfolding real
hash_size key = length-keyed key (3 ∷ [])

pub delivers_commands : DeliversCommands real
delivers_commands = record {
  carried = λ f l r s. carried f (sealed_content real l) r
      (short_by l.label l.link l.source l.counter l.command s.link s.command);
  unsealed = λ l s. sealed_by l.label l.link l.source l.counter l.command s.link s.counter s.source s.command;
  carried_clear = λ f c r s. carried f (clear_content real f.counter c) r
      (clear_short f.counter c (spelled_clear c s));
  read = λ counter c s. read_clear counter c (spelled_clear c s);
  proof = hash_size;
}
