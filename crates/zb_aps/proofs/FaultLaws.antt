-- The first fault on the walk is the fault that the bytes have.
use Rattle.std.proofs.Common.{◌≡◌, ℕ, ◌≤◌, List, ◌∷◌, ◌++◌, length, Result, Ok, Err, refl, ap, subst, ◌∙◌, arith, inl, inr}
use Rattle.std.proofs.lemmas.Bool.{cases_lt, le-ltb, lt-ltb, eq-eqb}
use Rattle.zb_cursor.specs.Spelling.{IsBytes}
use Rattle.zb_cursor.proofs.Outcomes.{wrong_now}
use Rattle.zb_aps.specs.declared.fault.ApsError.{ApsError}
use Rattle.zb_aps.specs.declared.fault.ApsError.TheVariants as error
use Rattle.zb_aps.specs.declared.frame.ApsFrame.{ApsFrame}
use Rattle.zb_aps.specs.Shape.{kind, delivery, key_id, Spells}
use Rattle.zb_aps.specs.Reading.{control_at, header_at, aux_control_at, aux_at, secured_at, frame_at, frame_of}
use Rattle.zb_aps.specs.Faults.{CanGoOn, Explains, HasFault}
use Rattle.zb_aps.proofs.ReadAgain.{header_again, frame_again}
use Rattle.zb_aps.proofs.Endings.{FrameCut, FrameWrong, FrameRead, frame_end}

explained : (bytes : List ℕ) (e : ApsError) → length bytes ≤ 127 → Explains bytes e → HasFault bytes e
explained bytes error.TooLong le why = absurd why
explained bytes (error.Short place) le why = (le, why)
explained bytes (error.FrameType found) le why = (le, why)
explained bytes (error.Delivery found) le why = (le, why)
explained bytes (error.KeyId found) le why = (le, why)

abbrev failed : ApsError → Result ApsFrame ApsError
failed e = Err e

err_is : (e f : ApsError) → failed e ≡ failed f → e ≡ f
err_is e f same = cc

abbrev read_as : ApsFrame → Result ApsFrame ApsError
read_as f = Ok f

pub ok_is : (f g : ApsFrame) → read_as f ≡ read_as g → f ≡ g
ok_is f g same = cc

cut_has : (bytes : List ℕ) → length bytes ≤ 127 → frame_at (error.Short (length bytes)) bytes
    ≡ Err (error.Short (length bytes)) → CanGoOn bytes → HasFault bytes (error.Short (length bytes))
cut_has bytes le short goes = (
  le,
  (
    refl,
    record {
      no_frame = λ f is. let again = frame_again (error.Short (length bytes)) bytes f is in cc
          (again, short);
      goes_on = goes;
    },
  ),
)

pub fault_found : (bytes : List ℕ) → IsBytes bytes → (e : ApsError) → frame_of bytes ≡ Err e → HasFault bytes e
unfolding frame_of
fault_found bytes fits e given =
    elim (cases_lt 127 (length bytes)) [
      | inl long ↦
          let same = rw (lt-ltb _ _ long) at given in
          subst (λ (f : ApsError). HasFault bytes f) (err_is error.TooLong e same) long
      | inr le ↦
          let cut = error.Short (length bytes) in
          elim (frame_end bytes fits) [
            | FrameCut short goes ↦
                let same = rw (le-ltb _ _ le, short cut) at given in
                subst (λ (f : ApsError). HasFault bytes f) (err_is cut e same) (cut_has bytes le (short cut) goes)
            | FrameWrong f wrong why ↦
                let same = rw (le-ltb _ _ le, wrong_now frame_at cut f bytes (wrong cut)) at given in
                subst (λ (g : ApsError). HasFault bytes g) (err_is f e same) (explained bytes f le why)
            | FrameRead f is ↦
                let same = rw (le-ltb _ _ le, frame_again cut bytes f is) at given in
                absurd cc
          ]
    ]

-- bytes that can be continued have no fault that remains
stays_not : (bytes : List ℕ) (e : ApsError)
    → ((cut : ApsError) (more : List ℕ) → frame_at cut (bytes ++ more) ≡ Err e) → CanGoOn bytes → ⊥
stays_not bytes e wrong (more, f, is) =
    let again = frame_again error.TooLong (bytes ++ more) f is in
    cc (again, wrong error.TooLong more)

pub fault_only : (bytes : List ℕ) → IsBytes bytes → (e : ApsError) → HasFault bytes e → frame_of bytes ≡ Err e
unfolding frame_of frame_at header_at control_at aux_at aux_control_at secured_at
fault_only bytes fits error.TooLong long = rw (lt-ltb _ _ long) refl
fault_only bytes fits (error.Short place) (le, (at, cut)) =
    elim (frame_end bytes fits) [
      | FrameCut short goes ↦ rw (le-ltb _ _ le, short (error.Short (length bytes)), at) refl
      | FrameWrong e wrong why ↦ absurd (stays_not bytes e wrong cut.goes_on)
      | FrameRead f is ↦ absurd (cut.no_frame f is)
    ]
fault_only bytes fits (error.FrameType found) (le, (control, rest, begins, is, three)) =
    let cut = error.Short (length bytes) in
    let reads : frame_at cut bytes ≡ Err (error.FrameType (kind control)) =
    ap (frame_at cut) begins ∙ rw (le-ltb (kind control) 3 (omega (arith, is, three))) refl in
    rw (le-ltb _ _ le, reads, is) refl
fault_only bytes fits (error.Delivery found) (le, (control, rest, begins, known, is, one)) =
    let cut = error.Short (length bytes) in
    let reads : frame_at cut bytes ≡ Err (error.Delivery (delivery control)) =
    ap (frame_at cut) begins ∙ rw (lt-ltb (kind control) 3 known, eq-eqb (delivery control) 1 (is ∙ one)) refl in
    rw (le-ltb _ _ le, reads, is) refl
fault_only bytes fits (error.KeyId found) (le, (control, h, rest, by, is, one)) =
    let cut = error.Short (length bytes) in
    let reads : frame_at cut bytes ≡ Err (error.KeyId (key_id control)) =
    ap (frame_at cut) by.parts ∙ rw
    (header_again cut h (control ∷ rest) by.in_range by.shaped, by.secured, eq-eqb (key_id control) 1 (is ∙ one))
    refl in
    rw (le-ltb _ _ le, reads, is) refl

pub read_is_spelled : (bytes : List ℕ) → IsBytes bytes → (f : ApsFrame) → frame_of bytes ≡ Ok f → Spells bytes f
unfolding frame_of
read_is_spelled bytes fits f given =
    elim (cases_lt 127 (length bytes)) [
      | inl long ↦ let same = rw (lt-ltb _ _ long) at given in absurd cc
      | inr le ↦
          let cut = error.Short (length bytes) in
          elim (frame_end bytes fits) [
            | FrameCut short goes ↦ let same = rw (le-ltb _ _ le, short cut) at given in absurd cc
            | FrameWrong e wrong why ↦ let same = rw (le-ltb _ _ le, wrong_now frame_at cut e bytes (wrong cut)) at
                given in absurd cc
            | FrameRead g is ↦
                let same = rw (le-ltb _ _ le, frame_again cut bytes g is) at given in
                subst (λ (h : ApsFrame). Spells bytes h) (ok_is g f same) (record { is_frame = is; fits = le })
          ]
    ]
