-- An APS frame opens to a term exactly if its bytes are those of the term, except for the level bits.
use Rattle.std.proofs.Common.{◌≡◌, ℕ, ◌-◌, ◌≤◌, List, ◌++◌, length, Option, Some, None, Result, Ok, Err, refl, sym, ap, subst, ◌∙◌, arith}
use Rattle.std.specs.Prelude.{is_some, IfSome}
use Rattle.std.specs.Int.{w32}
use Rattle.zb_base.specs.declared.address.Eui.{Eui}
use Rattle.zb_base.specs.declared.key.Key.{Key}
use Rattle.zb_base.specs.declared.label.Label.{Label}
use Rattle.zb_base.specs.declared.label.Layer.{Layer}
use Rattle.zb_base.specs.declared.label.Layer.TheVariants.{Aps}
use Rattle.zb_cursor.specs.Spelling.{IsBytes, number, eui, optional, bit}
use Rattle.zb_ccm.specs.Ccm.{Sealed, opens, sealed}
use Rattle.zb_ccm.proofs.Sealings.{sealed-opens}
use Rattle.zb_aps.specs.declared.fault.ApsError.{ApsError}
use Rattle.zb_aps.specs.declared.header.ApsHeader.{ApsHeader}
use Rattle.zb_aps.specs.declared.auxiliary.ApsAux.{ApsAux}
use Rattle.zb_aps.specs.declared.frame.ApsFrame.{ApsFrame}
use Rattle.zb_aps.specs.Reading.{frame_of}
use Rattle.zb_aps.specs.Spelling as aps
use Rattle.zb_aps.specs.Shape.{key_id, IsAux, AuxInRange, IsFrame, Spells}
use Rattle.zb_aps.proofs.ReadAgain.{spelled_again}
use Rattle.zb_aps.proofs.FaultLaws.{read_is_spelled}
use Rattle.zb_seal.specs.declared.envelope.Envelope.{Envelope}
use Rattle.zb_seal.specs.declared.envelope.OpenError.{OpenError}
use Rattle.zb_seal.specs.declared.term.Term.{Term}
use Rattle.zb_seal.specs.Keys.{sealing_key}
use Rattle.zb_seal.specs.Wire.{real_level, zero_level, at_place, nonce, aux_size, sealed_term, wire}
use Rattle.zb_seal.specs.Opening.{label_of, aps_size, leveled_aps, aps_envelope, aps_seen, seen_aps, source_of, opened_term, opened_from, opened, opened_seen, opened_aps, IsApsTerm, OpensAps}
use Rattle.zb_seal.proofs.Fronts.{aps_text, aps_size_is}
use Rattle.zb_seal.proofs.Lengths.{length-sealing_key, length-mic}
use Rattle.zb_seal.proofs.Airs.{zero_of_real, real_is, same_key_id, same_bit, same_range, wire_same, unwire, wire_twice, envelope_of, envelope_is, opened_again, term_ok_is}

abbrev aps_label : ApsAux → Label
aps_label a = label_of (key_id a.control)

-- the term of a frame that opened
abbrev aps_term : ApsFrame → ApsAux → Key → Eui → List ℕ → Term
aps_term f a base source content =
    record {
      layer = Aps;
      base = base;
      label = aps_label a;
      source = source;
      counter = a.counter;
      control = real_level a.control;
      header = record { items = aps.header f.header ++ aps.aux (leveled_aps a) };
      content = record { items = content };
    }

abbrev aps_content : ApsFrame → ApsAux → Key → Eui → Option (List ℕ)
aps_content f a base source = opens (sealing_key (aps_label a) base.0) (nonce source a.counter (real_level a.control))
    (aps.header f.header ++ aps.aux (leveled_aps a)) f.body.items f.mic

abbrev aps_closed : ApsFrame → ApsAux → Envelope
aps_closed f a =
    record {
      layer = Aps;
      label = aps_label a;
      source = a.source;
      counter = a.counter;
      control = real_level a.control;
      header = record { items = aps.header f.header ++ aps.aux (leveled_aps a) };
      text = f.body;
      mic = f.mic;
    }

size_at : (o : Option Eui) (c : ℕ) → is_some o ≡ bit c 5 → aux_size Aps c ≡ aps_size o
size_at None c is = rw (← is) refl
size_at (Some source) c is = rw (← is) refl

found_term : (bytes : List ℕ) (f : ApsFrame) (a : ApsAux) (base : Key) (given : Option Eui) (source : Eui)
    (content : List ℕ) → Spells bytes f → f.aux ≡ Some a → length base.0 ≡ 16 → source_of a.source given ≡ Some source
    → aps_content f a base source ≡ Some content → OpensAps bytes base given (aps_term f a base source content)
found_term bytes f a base given source content spells is sixteen from opened_to =
    let c = a.control in
    let t = aps_term f a base source content in
    let shaped : IsAux a = subst (λ (o : Option ApsAux). IfSome o IsAux) is spells.is_frame.shaped.aux in
    let range : AuxInRange a = subst (λ (o : Option ApsAux). IfSome o AuxInRange) is spells.is_frame.in_range.aux in
    let n = nonce source a.counter (real_level c) in
    let header = aps.header f.header ++ aps.aux (leveled_aps a) in
    let key = sealing_key (aps_label a) base.0 in
    let back : sealed key n header content 4 ≡ record { text = f.body.items; mic = f.mic } =
    ap (λ (k : ℕ). sealed key n header content k) (sym spells.is_frame.in_range.mic) ∙ sealed-opens key n header
    f.body.items f.mic content (length-sealing_key (aps_label a) base.0 sixteen) opened_to in
    let same_id = same_key_id (real_level c) c (zero_of_real c) in
    let same_five = same_bit (real_level c) c (zero_of_real c) in
    record {
      header = f.header;
      aux = leveled_aps a;
      is_term = record {
        shaped = spells.is_frame.shaped.header;
        in_range = spells.is_frame.in_range.header;
        secured = sym spells.is_frame.shaped.secured ∙ ap (λ (o : Option ApsAux). is_some o) is;
        aux_shaped =
            record { link_key = λ one. shaped.link_key (sym same_id ∙ one); source = shaped.source ∙ sym same_five };
        aux_in_range =
            record {
              control = same_range (real_level c) c (zero_of_real c) range.control;
              counter = range.counter;
              source = range.source;
            };
        level = omega arith;
        layer = refl;
        label = ap label_of (sym same_id);
        counter = refl;
        control = refl;
        header = refl;
      };
      source = from;
      base_is = refl;
      fits = spells.fits;
      same = wire_same bytes (aps.header f.header) (number w32 a.counter ++ optional eui a.source) f.body.items f.mic
          c (aps_size a.source) t
          (size_at a.source (real_level c) (shaped.source ∙ sym same_five)) (aps_size_is a)
          (aps_text bytes f a spells is) refl
          (ap (λ (s : Sealed). s.text) back) (ap (λ (s : Sealed). s.mic) back);
    }

of_content : (bytes : List ℕ) (f : ApsFrame) (a : ApsAux) (base : Key) (given : Option Eui) (source : Eui) (t : Term)
    → Spells bytes f → f.aux ≡ Some a → length base.0 ≡ 16 → source_of a.source given ≡ Some source
    → (o : Option (List ℕ)) → aps_content f a base source ≡ o → opened_term (aps_closed f a) base source o ≡ Ok t
    → OpensAps bytes base given t
of_content bytes f a base given source t spells is sixteen from None content result = absurd cc
of_content bytes f a base given source t spells is sixteen from (Some m) content result =
    subst (λ (u : Term). OpensAps bytes base given u) (term_ok_is (aps_term f a base source m) t result)
    (found_term bytes f a base given source m spells is sixteen from content)

of_source : (bytes : List ℕ) (f : ApsFrame) (a : ApsAux) (base : Key) (given : Option Eui) (t : Term) → Spells bytes f
    → f.aux ≡ Some a → length base.0 ≡ 16 → (o : Option Eui) → source_of a.source given ≡ o
    → opened_from (aps_closed f a) base o ≡ Ok t → OpensAps bytes base given t
of_source bytes f a base given t spells is sixteen None from result = absurd cc
of_source bytes f a base given t spells is sixteen (Some source) from result =
    of_content bytes f a base given source t spells is sixteen from (aps_content f a base source) refl result

of_aux : (bytes : List ℕ) (f : ApsFrame) (base : Key) (given : Option Eui) (t : Term) → Spells bytes f → length base.0
    ≡ 16 → (o : Option ApsAux) → f.aux ≡ o → opened_seen (aps_envelope f o) base given ≡ Ok t
    → OpensAps bytes base given t
unfolding opened
of_aux bytes f base given t spells sixteen None is result = absurd cc
of_aux bytes f base given t spells sixteen (Some a) is result = of_source bytes f a base given t spells is sixteen
    (source_of a.source given) refl result

of_frame : (bytes : List ℕ) (base : Key) (given : Option Eui) (t : Term) → IsBytes bytes → length base.0 ≡ 16
    → (r : Result ApsFrame ApsError) → frame_of bytes ≡ r → opened_seen (aps_seen r) base given ≡ Ok t
    → OpensAps bytes base given t
of_frame bytes base given t fits sixteen (Err e) is result = absurd cc
of_frame bytes base given t fits sixteen (Ok f) is result =
    of_aux bytes f base given t (read_is_spelled bytes fits f is) sixteen f.aux refl result

pub found_aps : (bytes : List ℕ) (base : Key) (given : Option Eui) (t : Term) → IsBytes bytes → length base.0 ≡ 16
    → opened_aps bytes base given ≡ Ok t → OpensAps bytes base given t
unfolding opened_aps seen_aps
found_aps bytes base given t fits sixteen result = of_frame bytes base given t fits sixteen (frame_of bytes) refl
    result

pub only_aps : (bytes : List ℕ) (base : Key) (given : Option Eui) (t : Term) → length base.0 ≡ 16
    → OpensAps bytes base given t → opened_aps bytes base given ≡ Ok t
unfolding opened_aps seen_aps
only_aps bytes base given t sixteen o =
    let h = o.header in
    let a = o.aux in
    let is = o.is_term in
    let tl : List ℕ = number w32 a.counter ++ optional eui a.source in
    let base16 : length t.base.0 ≡ 16 = subst (λ (k : Key). length k.0 ≡ 16) (sym o.base_is) sixteen in
    let key16 : length (sealing_key t.label t.base.0) ≡ 16 = length-sealing_key t.label t.base.0 base16 in
    let s = sealed_term (sealing_key t.label t.base.0) t in
    let at : aux_size t.layer t.control ≡ aps_size a.source =
    ap (λ (l : Layer). aux_size l t.control) is.layer ∙ ap (aux_size Aps) is.control ∙ size_at a.source a.control
    is.aux_shaped.source in
    let u = unwire bytes (aps.header h) tl a.control (aps_size a.source) t at (aps_size_is a) is.header o.same in
    let b = u.0 in
    let same_id = same_key_id b a.control u.2 in
    let heard : ApsAux = record a { control = b } in
    let f : ApsFrame = record { header = h; aux = Some heard; body = record { items = s.text }; mic = s.mic } in
    let frame : IsFrame bytes f = record {
      in_range = record {
        header = is.in_range;
        aux = record {
          control = same_range b a.control u.2 is.aux_in_range.control;
          counter = is.aux_in_range.counter;
          source = is.aux_in_range.source;
        };
        mic = length-mic (sealing_key t.label t.base.0) (nonce t.source t.counter t.control) t.header.items
            t.content.items key16;
      };
      shaped = record {
        header = is.shaped;
        secured = sym is.secured;
        aux = record {
          link_key = λ one. is.aux_shaped.link_key (sym same_id ∙ one);
          source = is.aux_shaped.source ∙ sym (same_bit b a.control u.2);
        };
        mic = tt;
      };
      text = u.1;
    } in
    let reads : frame_of bytes ≡ Ok f = spelled_again bytes f (record { is_frame = frame; fits = o.fits }) in
    let real : real_level b ≡ a.control = real_is b a.control u.2 is.level in
    let env : aps_envelope f (Some heard) ≡ Ok (envelope_of t a.source s) =
    ap (λ (e : Envelope). Ok e)
    (envelope_is t a.source s Aps (label_of (key_id b)) a.counter (real_level b)
    (aps.header h ++ aps.aux (leveled_aps heard)) is.layer (is.label ∙ ap label_of (sym same_id)) is.counter
    (is.control ∙ sym real)
    (is.header ∙ ap (λ (n : ℕ). aps.header h ++ aps.aux (record a { control = n })) (sym real))) in
    ap (λ (r : Result ApsFrame ApsError). opened_seen (aps_seen r) base given) reads
    ∙ ap (λ (r : Result Envelope OpenError). opened_seen r base given) env
    ∙ ap (λ (k : Key). opened (envelope_of t a.source s) k given) (sym o.base_is)
    ∙ opened_again t a.source given o.source key16

aps_at : (t : Term) (h : ApsHeader) (a : ApsAux) → IsApsTerm t h a → aux_size t.layer t.control ≡ aps_size a.source
aps_at t h a is = ap (λ (l : Layer). aux_size l t.control) is.layer ∙ ap (aux_size Aps) is.control ∙ size_at a.source
    a.control is.aux_shaped.source

pub aps_opens : (t : Term) (h : ApsHeader) (a : ApsAux) (given : Option Eui) → IsApsTerm t h a
    → source_of a.source given ≡ Some t.source → length t.base.0 ≡ 16 → length (wire t) ≤ 127
    → opened_aps (wire t) t.base given ≡ Ok t
aps_opens t h a given is from sixteen le =
    only_aps (wire t) t.base given t sixteen (record {
      header = h;
      aux = a;
      is_term = is;
      source = from;
      base_is = refl;
      fits = le;
      same = wire_twice t (aps.header h) (number w32 a.counter ++ optional eui a.source) a.control (aps_size a.source)
          (aps_at t h a is) (aps_size_is a) is.header;
    })

pub aps_wire : (bytes : List ℕ) (base : Key) (given : Option Eui) (t : Term) → IsBytes bytes → length base.0 ≡ 16
    → opened_aps bytes base given ≡ Ok t → wire t
    ≡ at_place zero_level (length t.header.items - aux_size t.layer t.control) bytes
aps_wire bytes base given t fits sixteen result =
    let o = found_aps bytes base given t fits sixteen result in
    sym (ap (λ (n : ℕ). at_place zero_level (length t.header.items - n) bytes) (aps_at t o.header o.aux o.is_term) ∙
    o.same)
