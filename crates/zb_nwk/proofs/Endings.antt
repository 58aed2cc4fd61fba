-- How the reading of a NWK frame ends on any bytes: they are cut and can be continued, have a fault that remains, or
-- are a frame.
use Rattle.std.proofs.Common.{◌≡◌, ◌≢◌, ℕ, ◌-◌, ◌^◌, ◌<◌, ◌≤◌, Bool, true, false, eqb, List, [], ◌∷◌, ◌++◌, length, take, drop, Some, None, Ok, Err, refl, sym, ap, subst, ◌∙◌, append_assoc, arith, inl, inr, ◌⊎◌, length-append}
use Rattle.std.specs.Prelude.{replicate}
use Rattle.std.specs.Int.{w16, w32}
use Rattle.std.proofs.lemmas.Bool.{cases_lt, le-ltb, lt-ltb, eqb-true, eqb-false}
use Rattle.std.proofs.lemmas.List.{append-nil, take-append-drop, length-drop, length-replicate}
use Rattle.zb_cursor.specs.Spelling.{IsBytes, byte, number, short, eui, optional, bit}
use Rattle.zb_cursor.specs.Reading.{number_at, body_and_mic_at}
use Rattle.zb_cursor.proofs.Outcomes.{Outcome, RunsOut, IsWrong, IsRead, HasText, IsBytes-rest, read_now, Field, Ends, then_ends, give_ends, byte_ends, number32_ends, short_ends, eui_ends, optional_ends, shorts_ends, number_outcome, number16}
use Rattle.zb_nwk.specs.declared.fault.NwkError.{NwkError}
use Rattle.zb_nwk.specs.declared.fault.NwkError.TheVariants as error
use Rattle.zb_nwk.specs.declared.header.Route.{Route}
use Rattle.zb_nwk.specs.declared.header.NwkHeader.{NwkHeader}
use Rattle.zb_nwk.specs.declared.auxiliary.NwkAux.{NwkAux}
use Rattle.zb_nwk.specs.declared.frame.NwkFrame.{NwkFrame}
use Rattle.zb_nwk.specs.Spelling.{route, header, aux}
use Rattle.zb_nwk.specs.Shape.{kind, version, key_id, IsControl, IsHeader, IsAuxControl, RouteInRange, HeaderInRange, AuxInRange, IsFrame}
use Rattle.zb_nwk.specs.Reading.{control_at, route_at, fields_at, header_at, aux_control_at, aux_at, secured_at, frame_at}
use Rattle.zb_nwk.specs.Faults.{CanGoOn, Explains}
use Rattle.zb_nwk.proofs.ReadAgain.{regroup9, regroup4}

regroup3 : (a b c r : List ℕ) → ((a ++ b) ++ c) ++ r ≡ a ++ (b ++ (c ++ r))
regroup3 a b c r = simp append_assoc

route_ends : {Wrong : List ℕ → NwkError → Type 0} → Ends route_at (Field route RouteInRange) Wrong
unfolding route_at
route_ends =
    then_ends byte_ends
    (λ count t0 s0. then_ends byte_ends (λ index t1 s1. then_ends (shorts_ends count) (λ relays t2 s2.
    let r : Route = record { index = index; relays = record { items = relays } } in
    give_ends r (
      rw (s0.0, s1.0, s2.0, ← s2.1) (sym (regroup3 (byte (length relays)) (byte index) _ []) ∙ append-nil (route r)),
      record { number = rw s2.1 s0.1; index = s1.1; relays = s2.2 },
    ))))

-- what the fields after a control word spell
record FieldsText (control : ℕ) (text : List ℕ) (h : NwkHeader) : Type 0 where
  parts : number w16 control ++ text ≡ header h
  shaped : IsHeader h
  in_range : HeaderInRange h

fields_ends : {Wrong : List ℕ → NwkError → Type 0} (control : ℕ) → IsControl control → control < 2 ^ 16
    → Ends (fields_at control) (FieldsText control) Wrong
unfolding fields_at
fields_ends control known lt =
    then_ends short_ends
    (λ destination t0 s0. then_ends short_ends
    (λ source t1 s1. then_ends byte_ends (λ radius t2 s2. then_ends byte_ends (λ sequence t3 s3.
    then_ends (optional_ends (bit control 11) eui_ends)
    (λ destination_eui t4 s4. then_ends (optional_ends (bit control 12) eui_ends) (λ source_eui t5 s5.
    then_ends (optional_ends (bit control 8) byte_ends)
    (λ multicast t6 s6. then_ends (optional_ends (bit control 10) route_ends) (λ relayed t7 s7.
    let h : NwkHeader =
    record {
      control = control;
      destination = destination;
      source = source;
      radius = radius;
      sequence = sequence;
      destination_eui = destination_eui;
      source_eui = source_eui;
      multicast = multicast;
      route = relayed;
    } in
    give_ends h (record {
      parts = rw (s0.0, s1.0, s2.0, s3.0, s4.0, s5.0, s6.0, s7.0)
          (sym (regroup9 (number w16 control) (short destination) (short source) (byte radius) (byte sequence)
          (optional eui destination_eui) (optional eui source_eui) (optional byte multicast)
          (optional route relayed) []) ∙ append-nil (header h));
      shaped = record { control = known; destination_eui = s4.1; source_eui = s5.1; multicast = s6.1; route = s7.1 };
      in_range =
          record {
            control = lt;
            destination = s0.1;
            source = s1.1;
            radius = s2.1;
            sequence = s3.1;
            destination_eui = s4.2;
            source_eui = s5.2;
            multicast = s6.2;
            route = s7.2;
          };
    })))))))))

-- what a header spells
pub record HeaderText (text : List ℕ) (h : NwkHeader) : Type 0 where
  pub parts : text ≡ header h
  pub shaped : IsHeader h
  pub in_range : HeaderInRange h

of_fields : (control : ℕ) (text : List ℕ) (h : NwkHeader) → FieldsText control text h
    → HeaderText (number w16 control ++ text) h
of_fields control text h t = record { parts = t.parts; shaped = t.shaped; in_range = t.in_range }

module _ (bytes : List ℕ) (control : ℕ) (rest : List ℕ) (parts : bytes ≡ number w16 control ++ rest)
    (lt : control < 2 ^ 16) (rest_fits : IsBytes rest)
    (read : (cut : NwkError) (more : List ℕ) → number_at w16 cut (bytes ++ more) ≡ Ok (control, rest ++ more)) where
  with_version : kind control < 2 → (b : Bool) → eqb (version control) 2 ≡ b
      → Outcome header_at HeaderText Explains bytes
  unfolding header_at control_at
  with_version known false e = IsWrong (error.Version (version control))
      (λ cut more. rw (read cut more, lt-ltb _ _ known, e) refl)
      (control, rest, record { parts = parts; in_range = lt }, known, refl, eqb-false _ _ e)
  with_version known true e =
      elim ((fields_ends {Wrong = λ r f. ⊥} control (record { known_kind = known; version_two = eqb-true _ _ e })
      lt).outcome rest rest_fits) [
        | RunsOut more h short spelt ↦
            RunsOut more h
            (λ cut. rw (read_now (number_at w16) cut bytes rest control (read cut), lt-ltb _ _ known, e)
            (short cut))
            (subst (λ (b : List ℕ). HeaderText b h)
            (sym (append_assoc (number w16 control) rest more) ∙ ap (λ (b : List ℕ). b ++ more) (sym parts))
            (of_fields control (rest ++ more) h spelt))
        | IsWrong f wrong never ↦ absurd never
        | IsRead h text end parts2 spelt reads ↦
            IsRead h (number w16 control ++ text) end
            (parts ∙ ap (λ (b : List ℕ). number w16 control ++ b) parts2 ∙ sym
            (append_assoc (number w16 control) text end)) (of_fields control text h spelt)
            (λ cut more. rw (read cut more, lt-ltb _ _ known, e) (reads cut more))
      ]

  judged : Outcome header_at HeaderText Explains bytes
  unfolding header_at control_at
  judged =
      elim (cases_lt (kind control) 2) [
        | inl known ↦ with_version known (eqb (version control) 2) refl
        | inr ge ↦ IsWrong (error.FrameType (kind control)) (λ cut more. rw (read cut more, le-ltb _ _ ge) refl)
            (control, rest, record { parts = parts; in_range = lt }, refl, ge)
      ]

not_cut : (bytes : List ℕ) → 2 ≤ length bytes → number_at w16 error.TooLong bytes ≡ Err error.TooLong → ⊥
unfolding number_at
not_cut bytes le e = let f = rw (le-ltb _ _ le) at e in cc

-- a header, if at least the control word is whole
pub header_end : (bytes : List ℕ) → IsBytes bytes → 2 ≤ length bytes → Outcome header_at HeaderText Explains bytes
header_end bytes fits le =
    elim (number_outcome {E = NwkError} (λ r e. ⊥) w16 (2 ^ 16) number16 bytes fits) [
      | RunsOut more n short spelt ↦ absurd (not_cut bytes le (short error.TooLong))
      | IsWrong e h never ↦ absurd never
      | IsRead control text rest parts spelt read ↦
          judged bytes control rest (parts ∙ ap (λ (t : List ℕ). t ++ rest) spelt.0) spelt.1
          (IsBytes-rest text rest bytes parts fits) read
    ]

-- ---- the auxiliary header

-- an auxiliary control byte that is refused
pub record Refuses (Wrong : List ℕ → NwkError → Type 0) : Type 0 where
  pub key : (c : ℕ) (rest : List ℕ) → key_id c ≢ 1 → Wrong (c ∷ rest) (error.KeyId (key_id c))
  pub source : (c : ℕ) (rest : List ℕ) → key_id c ≡ 1 → bit c 5 ≡ false → Wrong (c ∷ rest) error.NoSource

abbrev FitsAux : ℕ → Type 0
FitsAux c = (c < 2 ^ 8) × IsAuxControl c

control_judged : (Wrong : List ℕ → NwkError → Type 0) → Refuses Wrong → (c : ℕ) (rest : List ℕ) → c < 2 ^ 8
    → (k s : Bool) → eqb (key_id c) 1 ≡ k → bit c 5 ≡ s → Outcome aux_control_at (Field byte FitsAux) Wrong (c ∷ rest)
unfolding aux_control_at
control_judged Wrong refuses c rest lt false s ek es = IsWrong (error.KeyId (key_id c)) (λ cut more. rw ek refl)
    (refuses.key c rest (eqb-false _ _ ek))
control_judged Wrong refuses c rest lt true false ek es = IsWrong error.NoSource (λ cut more. rw (ek, es) refl)
    (refuses.source c rest (eqb-true _ _ ek) es)
control_judged Wrong refuses c rest lt true true ek es =
    IsRead c (c ∷ []) rest refl (refl, (lt, record { network_key = eqb-true _ _ ek; extended = es }))
    (λ cut more. rw (ek, es) refl)

control_outcome : (Wrong : List ℕ → NwkError → Type 0) → Refuses Wrong → (bytes : List ℕ) → IsBytes bytes
    → Outcome aux_control_at (Field byte FitsAux) Wrong bytes
unfolding aux_control_at
control_outcome Wrong refuses [] fits =
    RunsOut (40 ∷ []) 40 (λ cut. refl) (refl, (omega arith, record { network_key = refl; extended = refl }))
control_outcome Wrong refuses (c ∷ rest) fits = control_judged Wrong refuses c rest (fits 0) (eqb (key_id c) 1)
    (bit c 5) refl refl

aux_control_ends : {Wrong : List ℕ → NwkError → Type 0} → Refuses Wrong
    → Ends aux_control_at (Field byte FitsAux) Wrong
aux_control_ends {Wrong} refuses =
    record {
      outcome = control_outcome Wrong refuses;
      text = record {
        text = 40 ∷ [];
        value = 40;
        spelt = (refl, (omega arith, record { network_key = refl; extended = refl }));
      };
    }

-- what an auxiliary header spells
pub record AuxText (text : List ℕ) (a : NwkAux) : Type 0 where
  pub parts : text ≡ aux a
  pub shaped : IsAuxControl a.control
  pub in_range : AuxInRange a

pub aux_ends : {Wrong : List ℕ → NwkError → Type 0} → Refuses Wrong → Ends aux_at AuxText Wrong
unfolding aux_at
aux_ends refuses =
    then_ends (aux_control_ends refuses)
    (λ control t0 s0. then_ends number32_ends
    (λ counter t1 s1. then_ends eui_ends (λ source t2 s2. then_ends byte_ends (λ key_sequence t3 s3.
    let a : NwkAux = record { control = control; counter = counter; source = source; key_sequence = key_sequence } in
    give_ends a (record {
      parts =
          rw (s0.0, s1.0, s2.0, s3.0)
          (sym (regroup4 (byte control) (number w32 counter) (eui source) (byte key_sequence) []) ∙ append-nil
          (aux a));
      shaped = s0.1.1;
      in_range = record { control = s0.1.0; counter = s1.1; source = s2.1; key_sequence = s3.1 };
    })))))

-- ---- whole frames

pub unsecured_frame : (bytes : List ℕ) (h : NwkHeader) (body : List ℕ) → IsHeader h → HeaderInRange h
    → bit h.control 9 ≡ false → bytes ≡ header h ++ body
    → IsFrame bytes (record { header = h; aux = None; body = record { items = body }; mic = 0 ∷ 0 ∷ 0 ∷ 0 ∷ [] })
unsecured_frame bytes h body shaped fits e parts =
    record {
      in_range = record { header = fits; aux = tt; mic = refl };
      shaped = record { header = shaped; secured = sym e; aux = tt; mic = refl };
      text = parts;
    }

pub secured_frame : (bytes : List ℕ) (h : NwkHeader) (a : NwkAux) (body mic : List ℕ) → IsHeader h → HeaderInRange h
    → bit h.control 9 ≡ true → IsAuxControl a.control → AuxInRange a → length mic ≡ 4
    → bytes ≡ header h ++ ((aux a ++ body) ++ mic)
    → IsFrame bytes (record { header = h; aux = Some a; body = record { items = body }; mic = mic })
secured_frame bytes h a body mic shaped fits e aux_shaped aux_fits four parts =
    record {
      in_range = record { header = fits; aux = aux_fits; mic = four };
      shaped = record { header = shaped; secured = sym e; aux = aux_shaped; mic = tt };
      text = parts;
    }

-- an auxiliary header that is spelled
aux_text : HasText AuxText
aux_text =
    (aux_ends {Wrong = λ r e. Unit {0}} (record { key = λ c rest ne. tt; source = λ c rest is no_source. tt })).text

join_cut : (bytes hd rest more au mic : List ℕ) → bytes ≡ hd ++ rest → rest ++ more ≡ au → bytes ++ (more ++ mic) ≡ hd
    ++ ((au ++ []) ++ mic)
join_cut bytes hd rest more au mic p q = rw (p, ← q) (simp (append_assoc, append-nil))

join_short : (bytes hd rest au end more : List ℕ) → bytes ≡ hd ++ rest → rest ≡ au ++ end → bytes ++ more ≡ hd
    ++ ((au ++ []) ++ (end ++ more))
join_short bytes hd rest au end more p q = rw (p, q) (simp (append_assoc, append-nil))

join_whole : (bytes hd rest au end body mic : List ℕ) → bytes ≡ hd ++ rest → rest ≡ au ++ end → end ≡ body ++ mic
    → bytes ≡ hd ++ ((au ++ body) ++ mic)
join_whole bytes hd rest au end body mic p q r = rw (p, q, r) (simp append_assoc)

-- any header can be followed by a content
content_text : (h : NwkHeader) → IsHeader h → HeaderInRange h → (b : Bool) → bit h.control 9 ≡ b → CanGoOn (header h)
content_text h shaped fits false e = (
  [],
  record { header = h; aux = None; body = record { items = [] }; mic = 0 ∷ 0 ∷ 0 ∷ 0 ∷ [] },
  unsecured_frame (header h ++ []) h [] shaped fits e refl,
)
content_text h shaped fits true e =
    let t = aux_text in (
      t.text ++ (0 ∷ 0 ∷ 0 ∷ 0 ∷ []),
      record { header = h; aux = Some t.value; body = record { items = [] }; mic = 0 ∷ 0 ∷ 0 ∷ 0 ∷ [] },
      secured_frame (header h ++ (t.text ++ (0 ∷ 0 ∷ 0 ∷ 0 ∷ []))) h t.value [] (0 ∷ 0 ∷ 0 ∷ 0 ∷ []) shaped fits e
          t.spelt.shaped t.spelt.in_range refl
          (join_cut (header h) (header h) [] t.text (aux t.value) (0 ∷ 0 ∷ 0 ∷ 0 ∷ []) (sym (append-nil (header h)))
          t.spelt.parts),
    )

pub data FrameEnd (bytes : List ℕ) : Type 0 where
  FrameCut : ((cut : NwkError) → frame_at cut bytes ≡ Err cut) → ((length bytes < 2) ⊎ CanGoOn bytes) → FrameEnd bytes
  FrameWrong : (e : NwkError) → ((cut : NwkError) (more : List ℕ) → frame_at cut (bytes ++ more) ≡ Err e)
      → Explains bytes e → FrameEnd bytes
  FrameRead : (f : NwkFrame) → IsFrame bytes f → FrameEnd bytes

module _ (bytes : List ℕ) (h : NwkHeader) (rest : List ℕ) (parts : bytes ≡ header h ++ rest) (shaped : IsHeader h)
    (fits : HeaderInRange h) (rest_fits : IsBytes rest)
    (read : (cut : NwkError) (more : List ℕ) → header_at cut (bytes ++ more) ≡ Ok (h, rest ++ more)) where
  content_end : (b : Bool) → bit h.control 9 ≡ b → FrameEnd bytes
  unfolding frame_at secured_at body_and_mic_at
  content_end false e =
      FrameRead (record { header = h; aux = None; body = record { items = rest }; mic = 0 ∷ 0 ∷ 0 ∷ 0 ∷ [] })
      (unsecured_frame bytes h rest shaped fits e parts)
  content_end true e =
      elim ((aux_ends {Wrong = λ r f. (all : List ℕ) → all ≡ header h ++ r → Explains all f} (record {
        key = λ c tail ne all is.
            (c, h, tail, record { shaped = shaped; in_range = fits; secured = e; parts = is }, refl, ne);
        source =
            λ c tail key no_source all is.
            (c, h, tail, record { shaped = shaped; in_range = fits; secured = e; parts = is }, key, no_source);
      })).outcome rest rest_fits) [
        | RunsOut more a short spelt ↦
            FrameCut (λ cut. rw (read_now header_at cut bytes rest h (read cut), e, short cut) refl)
            (inr (
              more ++ (0 ∷ 0 ∷ 0 ∷ 0 ∷ []),
              record { header = h; aux = Some a; body = record { items = [] }; mic = 0 ∷ 0 ∷ 0 ∷ 0 ∷ [] },
              secured_frame (bytes ++ (more ++ (0 ∷ 0 ∷ 0 ∷ 0 ∷ []))) h a [] (0 ∷ 0 ∷ 0 ∷ 0 ∷ []) shaped fits e
                  spelt.shaped spelt.in_range refl
                  (join_cut bytes (header h) rest more (aux a) (0 ∷ 0 ∷ 0 ∷ 0 ∷ []) parts spelt.parts),
            ))
        | IsWrong f wrong why ↦ FrameWrong f (λ cut more. rw (read cut more, e, wrong cut more) refl) (why bytes parts)
        | IsRead a text end parts2 spelt reads ↦
            let rest_is : rest ≡ aux a ++ end = parts2 ∙ ap (λ (t : List ℕ). t ++ end) spelt.parts in
            elim (cases_lt (length end) 4) [
              | inl lt ↦
                  let more : List ℕ = replicate (4 - length end) 0 in
                  FrameCut
                  (λ cut. rw (
                    read_now header_at cut bytes rest h (read cut),
                    e,
                    read_now aux_at cut rest end a (reads cut),
                    lt-ltb _ _ lt,
                  ) refl)
                  (inr (
                    more,
                    record { header = h; aux = Some a; body = record { items = [] }; mic = end ++ more },
                    secured_frame (bytes ++ more) h a [] (end ++ more) shaped fits e spelt.shaped spelt.in_range
                        (omega (arith, length-append end more, length-replicate {A = ℕ} (4 - length end) 0))
                        (join_short bytes (header h) rest (aux a) end more parts rest_is),
                  ))
              | inr le ↦
                  let n = length end - 4 in
                  FrameRead
                  (record { header = h; aux = Some a; body = record { items = take n end }; mic = drop n end })
                  (secured_frame bytes h a (take n end) (drop n end) shaped fits e spelt.shaped spelt.in_range
                  (omega (arith, length-drop n end))
                  (join_whole bytes (header h) rest (aux a) end (take n end) (drop n end) parts rest_is
                  (sym (take-append-drop n end))))
            ]
      ]

-- bytes in which not even the control word is whole
pub control_cut : (cut : NwkError) (bytes : List ℕ) → length bytes < 2 → frame_at cut bytes ≡ Err cut
unfolding frame_at header_at control_at number_at
control_cut cut bytes lt = rw (lt-ltb _ _ lt) refl

pub frame_end : (bytes : List ℕ) → IsBytes bytes → FrameEnd bytes
unfolding frame_at
frame_end bytes fits =
    elim (cases_lt (length bytes) 2) [
      | inl lt ↦ FrameCut (λ cut. control_cut cut bytes lt) (inl lt)
      | inr le ↦
          elim (header_end bytes fits le) [
            | RunsOut more h short spelt ↦
                let t = content_text h spelt.shaped spelt.in_range (bit h.control 9) refl in
                FrameCut (λ cut. rw (short cut) refl)
                (inr (
                  more ++ t.0,
                  t.1,
                  subst (λ (b : List ℕ). IsFrame b t.1)
                      (ap (λ (b : List ℕ). b ++ t.0) (sym spelt.parts) ∙ append_assoc bytes more t.0) t.2,
                ))
            | IsWrong e wrong why ↦ FrameWrong e (λ cut more. rw (wrong cut more) refl) why
            | IsRead h text rest parts spelt reads ↦
                content_end bytes h rest (parts ∙ ap (λ (t : List ℕ). t ++ rest) spelt.parts) spelt.shaped
                spelt.in_range (IsBytes-rest text rest bytes parts fits) reads (bit h.control 9) refl
          ]
    ]
