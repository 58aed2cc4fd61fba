-- Bytes on the air and their term.
use Rattle.std.proofs.Common.{◌≡◌, ℕ, ◌-◌, ◌/◌, ◌%◌, ◌<◌, ◌^◌, true, leb, List, [], ◌∷◌, ◌++◌, length, Option, Some, Result, Ok, refl, sym, ap, ◌∙◌, append_assoc, arith, length-append}
use Rattle.std.specs.Prelude.{◌==◌}
use Rattle.std.proofs.lemmas.Bool.{le-leb}
use Rattle.zb_base.specs.declared.address.Eui.{Eui}
use Rattle.zb_base.specs.declared.label.Label.{Label}
use Rattle.zb_base.specs.declared.label.Layer.{Layer}
use Rattle.zb_cursor.specs.Spelling.{bit}
use Rattle.zb_ccm.specs.Ccm.{Sealed}
use Rattle.zb_ccm.proofs.Sealings.{opens-sealed}
use Rattle.zb_seal.specs.declared.envelope.Envelope.{Envelope}
use Rattle.zb_seal.specs.declared.envelope.OpenError.{OpenError}
use Rattle.zb_seal.specs.declared.term.Term.{Term}
use Rattle.zb_seal.specs.Keys.{sealing_key}
use Rattle.zb_seal.specs.Wire.{zero_level, real_level, nonce, at_place, aux_size, on_air, sealed_term, wire}
use Rattle.zb_seal.specs.Opening.{source_of, opened}
use Rattle.zb_seal.proofs.Places.{at_place-append}

-- ---- level bits

pub zero_of_real : (c : ℕ) → zero_level (real_level c) ≡ zero_level c
zero_of_real c = omega arith

pub real_is : (b c : ℕ) → zero_level b ≡ zero_level c → c % 8 ≡ 5 → real_level b ≡ c
real_is b c same level = omega (arith, same, level)

pub same_key_id : (b c : ℕ) → zero_level b ≡ zero_level c → b / 8 % 4 ≡ c / 8 % 4
same_key_id b c same = omega (arith, same)

pub same_bit : (b c : ℕ) → zero_level b ≡ zero_level c → bit b 5 ≡ bit c 5
same_bit b c same = let e : b / 2 ^ 5 % 2 ≡ c / 2 ^ 5 % 2 = omega (arith, same) in ap (λ n. n == 1) e

pub same_range : (b c : ℕ) → zero_level b ≡ zero_level c → c < 2 ^ 8 → b < 2 ^ 8
same_range b c same lt = omega (arith, same, lt)

-- ---- headers on the air

pub on_air_is : (hd tl : List ℕ) (c size : ℕ) → size ≡ length (c ∷ tl) → on_air size (hd ++ (c ∷ tl)) ≡ hd
    ++ (zero_level c ∷ tl)
on_air_is hd tl c size is =
    let long : leb size (length (hd ++ (c ∷ tl))) ≡ true = le-leb _ _ (omega (arith, is, length-append hd (c ∷ tl))) in
    let place : length (hd ++ (c ∷ tl)) - size ≡ length hd = omega (arith, is, length-append hd (c ∷ tl)) in
    rw (long, place) (at_place-append zero_level hd tl c)

-- the bytes on the air of a term, by its parts
pub wire_is : (t : Term) (hd tl : List ℕ) (c size : ℕ) → aux_size t.layer t.control ≡ size → size ≡ length (c ∷ tl)
    → t.header.items ≡ hd ++ (c ∷ tl)
    → wire t ≡ (hd ++ (zero_level c ∷ tl)) ++ (sealed_term (sealing_key t.label t.base.0) t).text
    ++ (sealed_term (sealing_key t.label t.base.0) t).mic
wire_is t hd tl c size at is header =
    let s = sealed_term (sealing_key t.label t.base.0) t in
    let air : on_air (aux_size t.layer t.control) t.header.items ≡ hd ++ (zero_level c ∷ tl) =
    ap (λ n. on_air n t.header.items) at ∙ ap (on_air size) header ∙ on_air_is hd tl c size is in
    ap (λ (l : List ℕ). l ++ s.text ++ s.mic) air

regroup : (hd au body mic : List ℕ) → (hd ++ au) ++ body ++ mic ≡ hd ++ ((au ++ body) ++ mic)
regroup hd au body mic = simp append_assoc

-- bytes that are sealed in this way are those of the term, except for the level bits
pub wire_same : (bytes hd tl body mic : List ℕ) (c size : ℕ) (t : Term) → aux_size t.layer t.control ≡ size → size
    ≡ length (c ∷ tl) → bytes ≡ hd ++ (((c ∷ tl) ++ body) ++ mic)
    → t.header.items ≡ hd ++ (real_level c ∷ tl) → (sealed_term (sealing_key t.label t.base.0) t).text ≡ body
    → (sealed_term (sealing_key t.label t.base.0) t).mic ≡ mic
    → at_place zero_level (length t.header.items - size) bytes ≡ wire t
wire_same bytes hd tl body mic c size t at is parts header text code =
    let place : length t.header.items - size ≡ length hd =
    omega (arith, is, ap (length {A = ℕ}) header, length-append hd (real_level c ∷ tl)) in
    let here : at_place zero_level (length t.header.items - size) bytes ≡ hd
    ++ (((zero_level c ∷ tl) ++ body) ++ mic) =
    rw (place, parts) (at_place-append zero_level hd ((tl ++ body) ++ mic) c) in
    let real_size : size ≡ length (real_level c ∷ tl) = is in
    let air = wire_is t hd tl (real_level c) size at real_size header in
    here ∙ sym (regroup hd (zero_level c ∷ tl) body mic) ∙ sym (air ∙ rw (zero_of_real c, text, code) refl)

unplace : (change : ℕ → ℕ) (hd tl bytes : List ℕ) (x : ℕ) → at_place change (length hd) bytes ≡ hd ++ (x ∷ tl)
    → (b : ℕ) × (bytes ≡ hd ++ (b ∷ tl)) × (change b ≡ x)
unplace change [] tl [] x e = absurd cc
unplace change [] tl (b ∷ bytes) x e = (b, ap (λ (l : List ℕ). b ∷ l) cc, cc)
unplace change (y ∷ hd) tl [] x e = absurd cc
unplace change (y ∷ hd) tl (b ∷ bytes) x e =
    let inner : at_place change (length hd) bytes ≡ hd ++ (x ∷ tl) = cc in
    let first : b ≡ y = cc in
    let t = unplace change hd tl bytes x inner in
    (t.0, ap (λ (l : List ℕ). b ∷ l) t.1 ∙ ap (λ (n : ℕ). n ∷ (hd ++ (t.0 ∷ tl))) first, t.2)

-- bytes that are those of a term, except for the level bits
pub unwire : (bytes hd tl : List ℕ) (c size : ℕ) (t : Term) → aux_size t.layer t.control ≡ size → size
    ≡ length (c ∷ tl) → t.header.items ≡ hd ++ (c ∷ tl)
    → at_place zero_level (length t.header.items - size) bytes ≡ wire t
    → (b : ℕ)
    × (bytes ≡ hd
    ++ (((b ∷ tl) ++ (sealed_term (sealing_key t.label t.base.0) t).text)
    ++ (sealed_term (sealing_key t.label t.base.0) t).mic)) × (zero_level b ≡ zero_level c)
unwire bytes hd tl c size t at is header same =
    let s = sealed_term (sealing_key t.label t.base.0) t in
    let place : length t.header.items - size ≡ length hd =
    omega (arith, is, ap (length {A = ℕ}) header, length-append hd (c ∷ tl)) in
    let here : at_place zero_level (length hd) bytes ≡ hd ++ (zero_level c ∷ ((tl ++ s.text) ++ s.mic)) =
    ap (λ n. at_place zero_level n bytes) (sym place) ∙ same ∙ wire_is t hd tl c size at is header ∙ regroup hd
    (zero_level c ∷ tl) s.text s.mic in
    unplace zero_level hd ((tl ++ s.text) ++ s.mic) bytes (zero_level c) here

-- ---- envelopes of terms

abbrev pub envelope_of : Term → Option Eui → Sealed → Envelope
envelope_of t own s =
    record {
      layer = t.layer;
      label = t.label;
      source = own;
      counter = t.counter;
      control = t.control;
      header = t.header;
      text = record { items = s.text };
      mic = s.mic;
    }

abbrev done : Term → Result Term OpenError
done t = Ok t

pub opened_again : (t : Term) (own given : Option Eui) → source_of own given ≡ Some t.source
    → length (sealing_key t.label t.base.0) ≡ 16
    → opened (envelope_of t own (sealed_term (sealing_key t.label t.base.0) t)) t.base given ≡ done t
unfolding opened
opened_again t own given source sixteen =
    rw (
      source,
      opens-sealed (sealing_key t.label t.base.0) (nonce t.source t.counter t.control) t.header.items
          t.content.items 4 sixteen (omega arith),
    ) refl

-- an envelope is that of a term if each of its fields is
pub envelope_is : (t : Term) (own : Option Eui) (s : Sealed) (layer : Layer) (label : Label) (counter control : ℕ)
    (header : List ℕ) → t.layer ≡ layer → t.label ≡ label → t.counter ≡ counter → t.control ≡ control → t.header.items
    ≡ header
    → record {
      layer = layer;
      label = label;
      source = own;
      counter = counter;
      control = control;
      header = record { items = header };
      text = record { items = s.text };
      mic = s.mic;
    } ≡ envelope_of t own s
envelope_is t own s layer label counter control header p q r u v = rw (← p, ← q, ← r, ← u, ← v) refl

pub term_ok_is : (t u : Term) → done t ≡ done u → t ≡ u
term_ok_is t u same = cc

-- the bytes on the air of a term, which have their level bits cleared
pub wire_twice : (t : Term) (hd tl : List ℕ) (c size : ℕ) → aux_size t.layer t.control ≡ size → size ≡ length (c ∷ tl)
    → t.header.items ≡ hd ++ (c ∷ tl) → at_place zero_level (length t.header.items - size) (wire t) ≡ wire t
wire_twice t hd tl c size at is header =
    let s = sealed_term (sealing_key t.label t.base.0) t in
    let place : length t.header.items - size ≡ length hd =
    omega (arith, is, ap (length {A = ℕ}) header, length-append hd (c ∷ tl)) in
    let air : wire t ≡ hd ++ (zero_level c ∷ ((tl ++ s.text) ++ s.mic)) =
    wire_is t hd tl c size at is header ∙ regroup hd (zero_level c ∷ tl) s.text s.mic in
    let again : zero_level (zero_level c) ≡ zero_level c = omega arith in
    rw (place, air)
    (at_place-append zero_level hd ((tl ++ s.text) ++ s.mic) (zero_level c) ∙ ap
    (λ (n : ℕ). hd ++ (n ∷ ((tl ++ s.text) ++ s.mic))) again)
