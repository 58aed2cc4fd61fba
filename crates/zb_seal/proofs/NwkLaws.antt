-- A NWK frame opens to a term exactly if its bytes are those of the term, except for the level bits.
use Rattle.std.proofs.Common.{◌≡◌, ℕ, ◌≤◌, List, ◌++◌, length, Option, Some, None, Result, Ok, Err, refl, sym, ap, subst, ◌∙◌, arith}
use Rattle.std.specs.Prelude.{is_some, IfSome}
use Rattle.std.specs.Int.{w32}
use Rattle.zb_base.specs.declared.address.Eui.{Eui}
use Rattle.zb_base.specs.declared.key.Key.{Key}
use Rattle.zb_base.specs.declared.label.Label.TheVariants.{Network}
use Rattle.zb_base.specs.declared.label.Layer.{Layer}
use Rattle.zb_base.specs.declared.label.Layer.TheVariants.{Nwk}
use Rattle.zb_cursor.specs.Spelling.{IsBytes, byte, number, eui}
use Rattle.zb_ccm.specs.Ccm.{Sealed, opens, sealed}
use Rattle.zb_ccm.proofs.Sealings.{sealed-opens}
use Rattle.zb_nwk.specs.declared.fault.NwkError.{NwkError}
use Rattle.zb_nwk.specs.declared.header.NwkHeader.{NwkHeader}
use Rattle.zb_nwk.specs.declared.auxiliary.NwkAux.{NwkAux}
use Rattle.zb_nwk.specs.declared.frame.NwkFrame.{NwkFrame}
use Rattle.zb_nwk.specs.Reading.{frame_of}
use Rattle.zb_nwk.specs.Spelling as nwk
use Rattle.zb_nwk.specs.Shape.{IsAuxControl, AuxInRange, IsFrame, Spells}
use Rattle.zb_nwk.proofs.ReadAgain.{spelled_again}
use Rattle.zb_nwk.proofs.FaultLaws.{read_is_spelled}
use Rattle.zb_seal.specs.declared.envelope.Envelope.{Envelope}
use Rattle.zb_seal.specs.declared.envelope.OpenError.{OpenError}
use Rattle.zb_seal.specs.declared.term.Term.{Term}
use Rattle.zb_seal.specs.Keys.{sealing_key}
use Rattle.zb_seal.specs.Wire.{real_level, nonce, aux_size, sealed_term, wire}
use Rattle.zb_seal.specs.Opening.{leveled_nwk, nwk_envelope, nwk_seen, seen_nwk, opened_term, opened, opened_seen, opened_nwk, IsNwkTerm, OpensNwk}
use Rattle.zb_seal.proofs.Fronts.{nwk_text}
use Rattle.zb_seal.proofs.Lengths.{length-sealing_key, length-mic}
use Rattle.zb_seal.proofs.Airs.{zero_of_real, real_is, same_key_id, same_bit, same_range, wire_same, unwire, wire_twice, envelope_of, envelope_is, opened_again, term_ok_is}

-- the term of a frame that opened
abbrev nwk_term : NwkFrame → NwkAux → Key → List ℕ → Term
nwk_term f a base content =
    record {
      layer = Nwk;
      base = base;
      label = Network;
      source = a.source;
      counter = a.counter;
      control = real_level a.control;
      header = record { items = nwk.header f.header ++ nwk.aux (leveled_nwk a) };
      content = record { items = content };
    }

abbrev nwk_content : NwkFrame → NwkAux → Key → Option (List ℕ)
nwk_content f a base = opens base.0 (nonce a.source a.counter (real_level a.control))
    (nwk.header f.header ++ nwk.aux (leveled_nwk a)) f.body.items f.mic

found_term : (bytes : List ℕ) (f : NwkFrame) (a : NwkAux) (base : Key) (content : List ℕ) → Spells bytes f → f.aux
    ≡ Some a → length base.0 ≡ 16 → nwk_content f a base ≡ Some content
    → OpensNwk bytes base (nwk_term f a base content)
found_term bytes f a base content spells is sixteen opened_to =
    let c = a.control in
    let t = nwk_term f a base content in
    let shaped : IsAuxControl c = subst (λ (o : Option NwkAux). IfSome o (λ x. IsAuxControl x.control)) is
    spells.is_frame.shaped.aux in
    let range : AuxInRange a = subst (λ (o : Option NwkAux). IfSome o AuxInRange) is spells.is_frame.in_range.aux in
    let n = nonce a.source a.counter (real_level c) in
    let header = nwk.header f.header ++ nwk.aux (leveled_nwk a) in
    let back : sealed base.0 n header content 4 ≡ record { text = f.body.items; mic = f.mic } =
    ap (λ (k : ℕ). sealed base.0 n header content k) (sym spells.is_frame.in_range.mic) ∙ sealed-opens base.0 n header
    f.body.items f.mic content sixteen opened_to in
    record {
      header = f.header;
      aux = leveled_nwk a;
      is_term = record {
        shaped = spells.is_frame.shaped.header;
        in_range = spells.is_frame.in_range.header;
        secured = sym spells.is_frame.shaped.secured ∙ ap (λ (o : Option NwkAux). is_some o) is;
        aux_shaped =
            record {
              network_key = same_key_id (real_level c) c (zero_of_real c) ∙ shaped.network_key;
              extended = same_bit (real_level c) c (zero_of_real c) ∙ shaped.extended;
            };
        aux_in_range =
            record {
              control = same_range (real_level c) c (zero_of_real c) range.control;
              counter = range.counter;
              source = range.source;
              key_sequence = range.key_sequence;
            };
        level = omega arith;
        layer = refl;
        label = refl;
        source = refl;
        counter = refl;
        control = refl;
        header = refl;
      };
      base_is = refl;
      fits = spells.fits;
      same = wire_same bytes (nwk.header f.header) (number w32 a.counter ++ eui a.source ++ byte a.key_sequence)
          f.body.items f.mic c 14 t refl refl (nwk_text bytes f a spells is) refl
          (ap (λ (s : Sealed). s.text) back) (ap (λ (s : Sealed). s.mic) back);
    }

of_content : (bytes : List ℕ) (f : NwkFrame) (a : NwkAux) (base : Key) (t : Term) → Spells bytes f → f.aux ≡ Some a
    → length base.0 ≡ 16 → (o : Option (List ℕ)) → nwk_content f a base ≡ o
    → opened_term
    (record {
      layer = Nwk;
      label = Network;
      source = Some a.source;
      counter = a.counter;
      control = real_level a.control;
      header = record { items = nwk.header f.header ++ nwk.aux (leveled_nwk a) };
      text = f.body;
      mic = f.mic;
    }) base
    a.source o ≡ Ok t
    → OpensNwk bytes base t
of_content bytes f a base t spells is sixteen None content given = absurd cc
of_content bytes f a base t spells is sixteen (Some m) content given =
    subst (λ (u : Term). OpensNwk bytes base u) (term_ok_is (nwk_term f a base m) t given)
    (found_term bytes f a base m spells is sixteen content)

of_aux : (bytes : List ℕ) (f : NwkFrame) (base : Key) (t : Term) → Spells bytes f → length base.0 ≡ 16
    → (o : Option NwkAux) → f.aux ≡ o → opened_seen (nwk_envelope f o) base None ≡ Ok t → OpensNwk bytes base t
unfolding opened
of_aux bytes f base t spells sixteen None is given = absurd cc
of_aux bytes f base t spells sixteen (Some a) is given = of_content bytes f a base t spells is sixteen
    (nwk_content f a base) refl given

of_frame : (bytes : List ℕ) (base : Key) (t : Term) → IsBytes bytes → length base.0 ≡ 16
    → (r : Result NwkFrame NwkError) → frame_of bytes ≡ r → opened_seen (nwk_seen r) base None ≡ Ok t
    → OpensNwk bytes base t
of_frame bytes base t fits sixteen (Err e) is given = absurd cc
of_frame bytes base t fits sixteen (Ok f) is given = of_aux bytes f base t (read_is_spelled bytes fits f is) sixteen
    f.aux refl given

pub found_nwk : (bytes : List ℕ) (base : Key) (t : Term) → IsBytes bytes → length base.0 ≡ 16 → opened_nwk bytes base
    ≡ Ok t → OpensNwk bytes base t
unfolding opened_nwk seen_nwk
found_nwk bytes base t fits sixteen given = of_frame bytes base t fits sixteen (frame_of bytes) refl given

pub only_nwk : (bytes : List ℕ) (base : Key) (t : Term) → length base.0 ≡ 16 → OpensNwk bytes base t
    → opened_nwk bytes base ≡ Ok t
unfolding opened_nwk seen_nwk
only_nwk bytes base t sixteen o =
    let h = o.header in
    let a = o.aux in
    let is = o.is_term in
    let tl : List ℕ = number w32 a.counter ++ eui a.source ++ byte a.key_sequence in
    let base16 : length t.base.0 ≡ 16 = subst (λ (k : Key). length k.0 ≡ 16) (sym o.base_is) sixteen in
    let key16 : length (sealing_key t.label t.base.0) ≡ 16 = length-sealing_key t.label t.base.0 base16 in
    let s = sealed_term (sealing_key t.label t.base.0) t in
    let at : aux_size t.layer t.control ≡ 14 = ap (λ (l : Layer). aux_size l t.control) is.layer in
    let u = unwire bytes (nwk.header h) tl a.control 14 t at refl is.header o.same in
    let b = u.0 in
    let heard : NwkAux = record a { control = b } in
    let f : NwkFrame = record { header = h; aux = Some heard; body = record { items = s.text }; mic = s.mic } in
    let frame : IsFrame bytes f = record {
      in_range = record {
        header = is.in_range;
        aux = record {
          control = same_range b a.control u.2 is.aux_in_range.control;
          counter = is.aux_in_range.counter;
          source = is.aux_in_range.source;
          key_sequence =
              is.aux_in_range.key_sequence;
        };
        mic = length-mic (sealing_key t.label t.base.0) (nonce t.source t.counter t.control) t.header.items
            t.content.items key16;
      };
      shaped = record {
        header = is.shaped;
        secured = sym is.secured;
        aux = record {
          network_key = same_key_id b a.control u.2 ∙ is.aux_shaped.network_key;
          extended = same_bit b a.control u.2 ∙ is.aux_shaped.extended;
        };
        mic = tt;
      };
      text = u.1;
    } in
    let reads : frame_of bytes ≡ Ok f = spelled_again bytes f (record { is_frame = frame; fits = o.fits }) in
    let real : real_level b ≡ a.control = real_is b a.control u.2 is.level in
    let env : nwk_envelope f (Some heard) ≡ Ok (envelope_of t (Some a.source) s) =
    ap (λ (e : Envelope). Ok e)
    (envelope_is t (Some a.source) s Nwk Network a.counter (real_level b)
    (nwk.header h ++ nwk.aux (leveled_nwk heard)) is.layer is.label is.counter (is.control ∙ sym real)
    (is.header ∙ ap (λ (n : ℕ). nwk.header h ++ nwk.aux (record a { control = n })) (sym real))) in
    ap (λ (r : Result NwkFrame NwkError). opened_seen (nwk_seen r) base None) reads
    ∙ ap (λ (r : Result Envelope OpenError). opened_seen r base None) env
    ∙ ap (λ (k : Key). opened (envelope_of t (Some a.source) s) k None) (sym o.base_is)
    ∙ opened_again t (Some a.source) None (ap (λ (e : Eui). Some e) (sym is.source)) key16

pub nwk_opens : (t : Term) (h : NwkHeader) (a : NwkAux) → IsNwkTerm t h a → length t.base.0 ≡ 16 → length (wire t)
    ≤ 127 → opened_nwk (wire t) t.base ≡ Ok t
nwk_opens t h a is sixteen le =
    let at : aux_size t.layer t.control ≡ 14 = ap (λ (l : Layer). aux_size l t.control) is.layer in
    only_nwk (wire t) t.base t sixteen (record {
      header = h;
      aux = a;
      is_term = is;
      base_is = refl;
      fits = le;
      same = wire_twice t (nwk.header h) (number w32 a.counter ++ eui a.source ++ byte a.key_sequence) a.control 14 at
          refl is.header;
    })
