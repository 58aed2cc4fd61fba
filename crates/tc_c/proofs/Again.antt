-- What is sealed from a frame in clear opens to its term.
use Rattle.std.proofs.Common.{◌≡◌, ℕ, zero, suc, ◌≤◌, List, [], ◌∷◌, ◌++◌, length, replicate, Option, Some, None, Result, Ok, Err, refl, sym, ap, subst, ◌∙◌, arith}
use Rattle.std.specs.Prelude.{is_some, IfSome}
use Rattle.tc_c.specs.Openings.{clear_term, term_in}
use Rattle.zb_base.specs.declared.key.Key.{Key}
use Rattle.zb_cursor.specs.Spelling.{IsBytes}
use Rattle.zb_nwk.proofs.FaultLaws.{read_is_spelled}
use Rattle.zb_nwk.specs.Reading.{frame_of}
use Rattle.zb_nwk.specs.Shape.{AuxInRange, IsAuxControl, Spells}
use Rattle.zb_nwk.specs.declared.auxiliary.NwkAux.{NwkAux}
use Rattle.zb_nwk.specs.declared.fault.NwkError.{NwkError}
use Rattle.zb_nwk.specs.declared.frame.NwkFrame.{NwkFrame}
use Rattle.zb_nwk.specs.declared.header.NwkHeader.{NwkHeader}
use Rattle.zb_seal.proofs.Airs.{same_bit, same_key_id, same_range, term_ok_is, zero_of_real}
use Rattle.zb_seal.proofs.NwkLaws.{nwk_opens}
use Rattle.zb_seal.specs.Opening.{IsNwkTerm, leveled_nwk, nwk_envelope, nwk_layer, nwk_seen, opened_nwk, seen_nwk, term_of}
use Rattle.zb_seal.specs.Wire.{real_level, wire}
use Rattle.zb_seal.specs.declared.term.Term.{Term}

bytes_append : (xs ys : List ℕ) → IsBytes xs → IsBytes ys → IsBytes (xs ++ ys)
bytes_append [] ys h k i = k i
bytes_append (x ∷ xs) ys h k zero = h 0
bytes_append (x ∷ xs) ys h k (suc i) = bytes_append xs ys (λ j. h (suc j)) k i

zeros_are_bytes : (n : ℕ) → IsBytes (replicate n 0)
zeros_are_bytes zero i = omega arith
zeros_are_bytes (suc n) zero = omega arith
zeros_are_bytes (suc n) (suc i) = zeros_are_bytes n i

-- The term is that of a NWK frame, under this key.
record OfKey (key : Key) (t : Term) : Type 0 where
  header : NwkHeader
  aux : NwkAux
  is_term : IsNwkTerm t header aux
  base : t.base ≡ key

layer_term : (bytes : List ℕ) (f : NwkFrame) (a : NwkAux) (key : Key) → Spells bytes f → f.aux ≡ Some a
    → OfKey key (term_of (nwk_layer f a) key a.source)
layer_term bytes f a key spells is =
    let c = a.control in
    let shaped : IsAuxControl c = subst (λ (o : Option NwkAux). IfSome o (λ x. IsAuxControl x.control)) is
    spells.is_frame.shaped.aux in
    let range : AuxInRange a = subst (λ (o : Option NwkAux). IfSome o AuxInRange) is spells.is_frame.in_range.aux in
    record {
      header = f.header;
      aux = leveled_nwk a;
      is_term = record {
        shaped = spells.is_frame.shaped.header;
        in_range = spells.is_frame.in_range.header;
        secured = sym spells.is_frame.shaped.secured ∙ ap (λ (o : Option NwkAux). is_some o) is;
        aux_shaped =
            record {
              network_key = same_key_id (real_level c) c (zero_of_real c) ∙ shaped.network_key;
              extended = same_bit (real_level c) c (zero_of_real c) ∙ shaped.extended;
            };
        aux_in_range =
            record {
              control = same_range (real_level c) c (zero_of_real c) range.control;
              counter = range.counter;
              source = range.source;
              key_sequence = range.key_sequence;
            };
        level = omega arith;
        layer = refl;
        label = refl;
        source = refl;
        counter = refl;
        control = refl;
        header = refl;
      };
      base = refl;
    }

of_aux : (bytes : List ℕ) (f : NwkFrame) (key : Key) (t : Term) → Spells bytes f → (o : Option NwkAux) → f.aux ≡ o
    → term_in key (nwk_envelope f o) ≡ Ok t → OfKey key t
of_aux bytes f key t spells None is given = absurd cc
of_aux bytes f key t spells (Some a) is given =
    subst (λ (u : Term). OfKey key u) (term_ok_is (term_of (nwk_layer f a) key a.source) t given)
    (layer_term bytes f a key spells is)

of_read : (bytes : List ℕ) (r : Result NwkFrame NwkError) (key : Key) (t : Term) → IsBytes bytes → frame_of bytes ≡ r
    → term_in key (nwk_seen r) ≡ Ok t → OfKey key t
of_read bytes (Ok f) key t fits is given = of_aux bytes f key t (read_is_spelled bytes fits f is) f.aux refl given
of_read bytes (Err e) key t fits is given = absurd cc

of_clear : (clear : List ℕ) (key : Key) (t : Term) → IsBytes clear → clear_term clear key ≡ Ok t → OfKey key t
unfolding seen_nwk
of_clear clear key t fits given =
    of_read (clear ++ replicate 4 0) (frame_of (clear ++ replicate 4 0)) key t
    (bytes_append clear (replicate 4 0) fits (zeros_are_bytes 4)) refl given

pub opens_again : (clear : List ℕ) (key : Key) (t : Term) → IsBytes clear → length key.0 ≡ 16 → clear_term clear key
    ≡ Ok t → length (wire t) ≤ 127 → opened_nwk (wire t) key ≡ Ok t
opens_again clear key t fits sixteen given room =
    let it : OfKey key t = of_clear clear key t fits given in
    let base16 : length t.base.0 ≡ 16 = subst (λ (k : Key). length k.0 ≡ 16) (sym it.base) sixteen in
    subst (λ (k : Key). opened_nwk (wire t) k ≡ Ok t) it.base (nwk_opens t it.header it.aux it.is_term base16 room)
