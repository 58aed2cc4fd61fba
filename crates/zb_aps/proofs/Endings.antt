-- How the reading of an APS frame ends on any bytes: they are cut and can be continued, have a fault that remains, or
-- are a frame.
use Rattle.std.proofs.Common.{◌≡◌, ◌≢◌, ℕ, ◌-◌, ◌^◌, ◌<◌, Bool, true, false, eqb, List, [], ◌∷◌, ◌++◌, length, take, drop, Option, Some, None, Ok, Err, refl, sym, ap, subst, ◌∙◌, append_assoc, arith, inl, inr, length-append}
use Rattle.std.specs.Prelude.{replicate, IfSome, not, ◌&&◌}
use Rattle.std.specs.Int.{w16, w32}
use Rattle.std.proofs.lemmas.Bool.{cases_lt, le-ltb, lt-ltb, eqb-true, eqb-false}
use Rattle.std.proofs.lemmas.List.{append-nil, take-append-drop, length-drop, length-replicate}
use Rattle.zb_cursor.specs.Spelling.{IsBytes, byte, number, eui, optional, bit}
use Rattle.zb_cursor.specs.Reading.{body_and_mic_at}
use Rattle.zb_cursor.proofs.Outcomes.{Outcome, RunsOut, IsWrong, IsRead, HasText, IsBytes-rest, read_now, Field, Ends, then_ends, give_ends, byte_ends, number16_ends, number32_ends, eui_ends, optional_ends}
use Rattle.zb_aps.specs.declared.fault.ApsError.{ApsError}
use Rattle.zb_aps.specs.declared.fault.ApsError.TheVariants as error
use Rattle.zb_aps.specs.declared.header.Extended.{Extended}
use Rattle.zb_aps.specs.declared.header.ApsHeader.{ApsHeader}
use Rattle.zb_aps.specs.declared.auxiliary.ApsAux.{ApsAux}
use Rattle.zb_aps.specs.declared.frame.ApsFrame.{ApsFrame}
use Rattle.zb_aps.specs.Spelling.{extended, header, aux}
use Rattle.zb_aps.specs.Shape.{kind, delivery, key_id, is_ack, to_group, is_addressed, is_block, IsControl, IsExtended, IsHeader, IsAux, ExtendedInRange, HeaderInRange, AuxInRange, IsFrame}
use Rattle.zb_aps.specs.Reading.{control_at, extended_at, fields_at, header_at, aux_control_at, aux_at, secured_at, frame_at}
use Rattle.zb_aps.specs.Faults.{CanGoOn, Explains}
use Rattle.zb_aps.proofs.ReadAgain.{regroup3, regroup8}

abbrev FitsControl : ℕ → Type 0
FitsControl c = (c < 2 ^ 8) × IsControl c

of_delivery : (c : ℕ) (rest : List ℕ) → c < 2 ^ 8 → kind c < 3 → (d : Bool) → eqb (delivery c) 1 ≡ d
    → Outcome control_at (Field byte FitsControl) Explains (c ∷ rest)
unfolding control_at
of_delivery c rest lt known true e = IsWrong (error.Delivery (delivery c)) (λ cut more. rw (lt-ltb _ _ known, e) refl)
    (c, rest, refl, known, refl, eqb-true _ _ e)
of_delivery c rest lt known false e =
    IsRead c (c ∷ []) rest refl (refl, (lt, record { known_kind = known; known_delivery = eqb-false _ _ e }))
    (λ cut more. rw (lt-ltb _ _ known, e) refl)

control_judged : (c : ℕ) (rest : List ℕ) → c < 2 ^ 8 → Outcome control_at (Field byte FitsControl) Explains (c ∷ rest)
unfolding control_at
control_judged c rest lt =
    elim (cases_lt (kind c) 3) [
      | inr ge ↦ IsWrong (error.FrameType (kind c)) (λ cut more. rw (le-ltb _ _ ge) refl)
          (c, rest, refl, refl, omega (arith, ge))
      | inl known ↦ of_delivery c rest lt known (eqb (delivery c) 1) refl
    ]

control_outcome : (bytes : List ℕ) → IsBytes bytes → Outcome control_at (Field byte FitsControl) Explains bytes
unfolding control_at
control_outcome [] fits =
    RunsOut (0 ∷ []) 0 (λ cut. refl)
    (refl, (omega arith, record { known_kind = omega arith; known_delivery = λ e. absurd cc }))
control_outcome (c ∷ rest) fits = control_judged c rest (fits 0)

control_ends : Ends control_at (Field byte FitsControl) Explains
control_ends =
    record {
      outcome = control_outcome;
      text = record {
        text = 0 ∷ [];
        value = 0;
        spelt = (refl, (omega arith, record { known_kind = omega arith; known_delivery = λ e. absurd cc }));
      };
    }

abbrev FitsExtended : Bool → Extended → Type 0
FitsExtended ack e = ExtendedInRange e × IsExtended ack e

extended_ends : {Wrong : List ℕ → ApsError → Type 0} (ack : Bool)
    → Ends (extended_at ack) (Field extended (FitsExtended ack)) Wrong
unfolding extended_at
extended_ends ack =
    then_ends byte_ends
    (λ control t0 s0. then_ends (optional_ends (is_block control) byte_ends)
    (λ block t1 s1. then_ends (optional_ends (is_block control && ack) byte_ends) (λ bits t2 s2.
    let e : Extended = record { control = control; block = block; bits = bits } in
    give_ends e (
      rw (s0.0, s1.0, s2.0)
          (sym (regroup3 (byte control) (optional byte block) (optional byte bits) []) ∙ append-nil (extended e)),
      (record { control = s0.1; block = s1.2; bits = s2.2 }, record { block = s1.1; bits = s2.1 }),
    ))))

ranges : (ack : Bool) (o : Option Extended) → IfSome o (FitsExtended ack) → IfSome o ExtendedInRange
ranges ack None fits = tt
ranges ack (Some e) fits = fits.0

shapes : (ack : Bool) (o : Option Extended) → IfSome o (FitsExtended ack) → IfSome o (IsExtended ack)
shapes ack None fits = tt
shapes ack (Some e) fits = fits.1

-- what a header spells
pub record HeaderText (text : List ℕ) (h : ApsHeader) : Type 0 where
  pub parts : text ≡ header h
  pub shaped : IsHeader h
  pub in_range : HeaderInRange h

pub header_ends : Ends header_at HeaderText Explains
unfolding header_at fields_at
header_ends =
    then_ends control_ends (λ control t0 s0.
    then_ends (optional_ends (is_addressed control && not (to_group control)) byte_ends) (λ endpoint t1 s1.
    then_ends (optional_ends (is_addressed control && to_group control) number16_ends) (λ group t2 s2.
    then_ends (optional_ends (is_addressed control) number16_ends) (λ cluster t3 s3.
    then_ends (optional_ends (is_addressed control) number16_ends) (λ profile t4 s4.
    then_ends (optional_ends (is_addressed control) byte_ends) (λ source_endpoint t5 s5.
    then_ends byte_ends (λ counter t6 s6.
    then_ends (optional_ends (bit control 7) (extended_ends (is_ack control))) (λ ext t7 s7.
    let h : ApsHeader =
    record {
      control = control;
      endpoint = endpoint;
      group = group;
      cluster = cluster;
      profile = profile;
      source_endpoint = source_endpoint;
      counter = counter;
      extended = ext;
    } in
    give_ends h (record {
      parts = rw (s0.0, s1.0, s2.0, s3.0, s4.0, s5.0, s6.0, s7.0)
          (sym (regroup8 (byte control) (optional byte endpoint) (optional (number w16) group)
          (optional (number w16) cluster) (optional (number w16) profile) (optional byte source_endpoint)
          (byte counter) (optional extended ext) []) ∙ append-nil (header h));
      shaped = record {
        control = s0.1.1;
        addresses = record { endpoint = s1.1; group = s2.1; cluster = s3.1; profile = s4.1; source_endpoint = s5.1 };
        extended = s7.1;
        extended_shaped = shapes (is_ack control) ext s7.2;
      };
      in_range =
          record {
            control = s0.1.0;
            endpoint = s1.2;
            group = s2.2;
            cluster = s3.2;
            profile = s4.2;
            source_endpoint = s5.2;
            counter = s6.1;
            extended = ranges (is_ack control) ext s7.2;
          };
    })))))))))

-- ---- the auxiliary header

-- a key identifier that is refused
abbrev pub Refuses : (List ℕ → ApsError → Type 0) → Type 0
Refuses Wrong = (c : ℕ) (rest : List ℕ) → key_id c ≡ 1 → Wrong (c ∷ rest) (error.KeyId (key_id c))

abbrev FitsAux : ℕ → Type 0
FitsAux c = (c < 2 ^ 8) × (key_id c ≢ 1)

aux_control_judged : (Wrong : List ℕ → ApsError → Type 0) → Refuses Wrong → (c : ℕ) (rest : List ℕ) → c < 2 ^ 8
    → (k : Bool) → eqb (key_id c) 1 ≡ k → Outcome aux_control_at (Field byte FitsAux) Wrong (c ∷ rest)
unfolding aux_control_at
aux_control_judged Wrong refuses c rest lt true e = IsWrong (error.KeyId (key_id c)) (λ cut more. rw e refl)
    (refuses c rest (eqb-true _ _ e))
aux_control_judged Wrong refuses c rest lt false e = IsRead c (c ∷ []) rest refl (refl, (lt, eqb-false _ _ e))
    (λ cut more. rw e refl)

aux_control_outcome : (Wrong : List ℕ → ApsError → Type 0) → Refuses Wrong → (bytes : List ℕ) → IsBytes bytes
    → Outcome aux_control_at (Field byte FitsAux) Wrong bytes
unfolding aux_control_at
aux_control_outcome Wrong refuses [] fits = RunsOut (0 ∷ []) 0 (λ cut. refl) (refl, (omega arith, λ e. absurd cc))
aux_control_outcome Wrong refuses (c ∷ rest) fits = aux_control_judged Wrong refuses c rest (fits 0)
    (eqb (key_id c) 1) refl

aux_control_ends : {Wrong : List ℕ → ApsError → Type 0} → Refuses Wrong
    → Ends aux_control_at (Field byte FitsAux) Wrong
aux_control_ends {Wrong} refuses =
    record {
      outcome = aux_control_outcome Wrong refuses;
      text = record { text = 0 ∷ []; value = 0; spelt = (refl, (omega arith, λ e. absurd cc)) };
    }

-- what an auxiliary header spells
pub record AuxText (text : List ℕ) (a : ApsAux) : Type 0 where
  pub parts : text ≡ aux a
  pub shaped : IsAux a
  pub in_range : AuxInRange a

pub aux_ends : {Wrong : List ℕ → ApsError → Type 0} → Refuses Wrong → Ends aux_at AuxText Wrong
unfolding aux_at
aux_ends refuses =
    then_ends (aux_control_ends refuses)
    (λ control t0 s0. then_ends number32_ends
    (λ counter t1 s1. then_ends (optional_ends (bit control 5) eui_ends) (λ source t2 s2.
    let a : ApsAux = record { control = control; counter = counter; source = source } in
    give_ends a (record {
      parts =
          rw (s0.0, s1.0, s2.0)
          (sym (regroup3 (byte control) (number w32 counter) (optional eui source) []) ∙ append-nil (aux a));
      shaped = record { link_key = s0.1.1; source = s2.1 };
      in_range = record { control = s0.1.0; counter = s1.1; source = s2.2 };
    }))))

-- ---- whole frames

pub unsecured_frame : (bytes : List ℕ) (h : ApsHeader) (body : List ℕ) → IsHeader h → HeaderInRange h
    → bit h.control 5 ≡ false → bytes ≡ header h ++ body
    → IsFrame bytes (record { header = h; aux = None; body = record { items = body }; mic = 0 ∷ 0 ∷ 0 ∷ 0 ∷ [] })
unsecured_frame bytes h body shaped fits e parts =
    record {
      in_range = record { header = fits; aux = tt; mic = refl };
      shaped = record { header = shaped; secured = sym e; aux = tt; mic = refl };
      text = parts;
    }

pub secured_frame : (bytes : List ℕ) (h : ApsHeader) (a : ApsAux) (body mic : List ℕ) → IsHeader h → HeaderInRange h
    → bit h.control 5 ≡ true → IsAux a → AuxInRange a → length mic ≡ 4
    → bytes ≡ header h ++ ((aux a ++ body) ++ mic)
    → IsFrame bytes (record { header = h; aux = Some a; body = record { items = body }; mic = mic })
secured_frame bytes h a body mic shaped fits e aux_shaped aux_fits four parts =
    record {
      in_range = record { header = fits; aux = aux_fits; mic = four };
      shaped = record { header = shaped; secured = sym e; aux = aux_shaped; mic = tt };
      text = parts;
    }

-- an auxiliary header that is spelled
aux_text : HasText AuxText
aux_text = (aux_ends {Wrong = λ r e. Unit {0}} (λ c rest is. tt)).text

join_cut : (bytes hd rest more au mic : List ℕ) → bytes ≡ hd ++ rest → rest ++ more ≡ au → bytes ++ (more ++ mic) ≡ hd
    ++ ((au ++ []) ++ mic)
join_cut bytes hd rest more au mic p q = rw (p, ← q) (simp (append_assoc, append-nil))

join_short : (bytes hd rest au end more : List ℕ) → bytes ≡ hd ++ rest → rest ≡ au ++ end → bytes ++ more ≡ hd
    ++ ((au ++ []) ++ (end ++ more))
join_short bytes hd rest au end more p q = rw (p, q) (simp (append_assoc, append-nil))

join_whole : (bytes hd rest au end body mic : List ℕ) → bytes ≡ hd ++ rest → rest ≡ au ++ end → end ≡ body ++ mic
    → bytes ≡ hd ++ ((au ++ body) ++ mic)
join_whole bytes hd rest au end body mic p q r = rw (p, q, r) (simp append_assoc)

-- any header can be followed by a content
content_text : (h : ApsHeader) → IsHeader h → HeaderInRange h → (b : Bool) → bit h.control 5 ≡ b → CanGoOn (header h)
content_text h shaped fits false e = (
  [],
  record { header = h; aux = None; body = record { items = [] }; mic = 0 ∷ 0 ∷ 0 ∷ 0 ∷ [] },
  unsecured_frame (header h ++ []) h [] shaped fits e refl,
)
content_text h shaped fits true e =
    let t = aux_text in (
      t.text ++ (0 ∷ 0 ∷ 0 ∷ 0 ∷ []),
      record { header = h; aux = Some t.value; body = record { items = [] }; mic = 0 ∷ 0 ∷ 0 ∷ 0 ∷ [] },
      secured_frame (header h ++ (t.text ++ (0 ∷ 0 ∷ 0 ∷ 0 ∷ []))) h t.value [] (0 ∷ 0 ∷ 0 ∷ 0 ∷ []) shaped fits e
          t.spelt.shaped t.spelt.in_range refl
          (join_cut (header h) (header h) [] t.text (aux t.value) (0 ∷ 0 ∷ 0 ∷ 0 ∷ []) (sym (append-nil (header h)))
          t.spelt.parts),
    )

pub data FrameEnd (bytes : List ℕ) : Type 0 where
  FrameCut : ((cut : ApsError) → frame_at cut bytes ≡ Err cut) → CanGoOn bytes → FrameEnd bytes
  FrameWrong : (e : ApsError) → ((cut : ApsError) (more : List ℕ) → frame_at cut (bytes ++ more) ≡ Err e)
      → Explains bytes e → FrameEnd bytes
  FrameRead : (f : ApsFrame) → IsFrame bytes f → FrameEnd bytes

module _ (bytes : List ℕ) (h : ApsHeader) (rest : List ℕ) (parts : bytes ≡ header h ++ rest) (shaped : IsHeader h)
    (fits : HeaderInRange h) (rest_fits : IsBytes rest)
    (read : (cut : ApsError) (more : List ℕ) → header_at cut (bytes ++ more) ≡ Ok (h, rest ++ more)) where
  content_end : (b : Bool) → bit h.control 5 ≡ b → FrameEnd bytes
  unfolding frame_at secured_at body_and_mic_at
  content_end false e =
      FrameRead (record { header = h; aux = None; body = record { items = rest }; mic = 0 ∷ 0 ∷ 0 ∷ 0 ∷ [] })
      (unsecured_frame bytes h rest shaped fits e parts)
  content_end true e =
      elim ((aux_ends {Wrong = λ r f. (all : List ℕ) → all ≡ header h ++ r → Explains all f}
      (λ c tail one all is.
      (c, h, tail, record { shaped = shaped; in_range = fits; secured = e; parts = is }, refl, one))).outcome rest
      rest_fits) [
        | RunsOut more a short spelt ↦
            FrameCut (λ cut. rw (read_now header_at cut bytes rest h (read cut), e, short cut) refl) (
              more ++ (0 ∷ 0 ∷ 0 ∷ 0 ∷ []),
              record { header = h; aux = Some a; body = record { items = [] }; mic = 0 ∷ 0 ∷ 0 ∷ 0 ∷ [] },
              secured_frame (bytes ++ (more ++ (0 ∷ 0 ∷ 0 ∷ 0 ∷ []))) h a [] (0 ∷ 0 ∷ 0 ∷ 0 ∷ []) shaped fits e
                  spelt.shaped spelt.in_range refl
                  (join_cut bytes (header h) rest more (aux a) (0 ∷ 0 ∷ 0 ∷ 0 ∷ []) parts spelt.parts),
            )
        | IsWrong f wrong why ↦ FrameWrong f (λ cut more. rw (read cut more, e, wrong cut more) refl) (why bytes parts)
        | IsRead a text end parts2 spelt reads ↦
            let rest_is : rest ≡ aux a ++ end = parts2 ∙ ap (λ (t : List ℕ). t ++ end) spelt.parts in
            elim (cases_lt (length end) 4) [
              | inl lt ↦
                  let more : List ℕ = replicate (4 - length end) 0 in
                  FrameCut
                  (λ cut. rw (
                    read_now header_at cut bytes rest h (read cut),
                    e,
                    read_now aux_at cut rest end a (reads cut),
                    lt-ltb _ _ lt,
                  ) refl) (
                    more,
                    record { header = h; aux = Some a; body = record { items = [] }; mic = end ++ more },
                    secured_frame (bytes ++ more) h a [] (end ++ more) shaped fits e spelt.shaped spelt.in_range
                        (omega (arith, length-append end more, length-replicate {A = ℕ} (4 - length end) 0))
                        (join_short bytes (header h) rest (aux a) end more parts rest_is),
                  )
              | inr le ↦
                  let n = length end - 4 in
                  FrameRead
                  (record { header = h; aux = Some a; body = record { items = take n end }; mic = drop n end })
                  (secured_frame bytes h a (take n end) (drop n end) shaped fits e spelt.shaped spelt.in_range
                  (omega (arith, length-drop n end))
                  (join_whole bytes (header h) rest (aux a) end (take n end) (drop n end) parts rest_is
                  (sym (take-append-drop n end))))
            ]
      ]

pub frame_end : (bytes : List ℕ) → IsBytes bytes → FrameEnd bytes
unfolding frame_at
frame_end bytes fits =
    elim (header_ends.outcome bytes fits) [
      | RunsOut more h short spelt ↦
          let t = content_text h spelt.shaped spelt.in_range (bit h.control 5) refl in
          FrameCut (λ cut. rw (short cut) refl) (
            more ++ t.0,
            t.1,
            subst (λ (b : List ℕ). IsFrame b t.1)
                (ap (λ (b : List ℕ). b ++ t.0) (sym spelt.parts) ∙ append_assoc bytes more t.0) t.2,
          )
      | IsWrong e wrong why ↦ FrameWrong e (λ cut more. rw (wrong cut more) refl) why
      | IsRead h text rest parts spelt reads ↦
          content_end bytes h rest (parts ∙ ap (λ (t : List ℕ). t ++ rest) spelt.parts) spelt.shaped spelt.in_range
          (IsBytes-rest text rest bytes parts fits) reads (bit h.control 5) refl
    ]
