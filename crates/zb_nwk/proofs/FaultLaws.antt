-- The first fault on the walk is the fault that the bytes have.
use Rattle.std.proofs.Common.{◌≡◌, ℕ, ◌^◌, ◌<◌, ◌≤◌, false, eqb, List, ◌∷◌, ◌++◌, length, Result, Ok, Err, refl, sym, ap, subst, ◌∙◌, arith, inl, inr, ◌⊎◌}
use Rattle.std.specs.Int.{w16}
use Rattle.std.proofs.lemmas.Bool.{cases_lt, le-ltb, lt-ltb, eq-eqb, ne_eqb}
use Rattle.zb_cursor.specs.Spelling.{IsBytes}
use Rattle.zb_cursor.proofs.ReadAgain.{wide16, number_again}
use Rattle.zb_cursor.proofs.Outcomes.{wrong_now}
use Rattle.zb_nwk.specs.declared.fault.NwkError.{NwkError}
use Rattle.zb_nwk.specs.declared.fault.NwkError.TheVariants as error
use Rattle.zb_nwk.specs.declared.frame.NwkFrame.{NwkFrame}
use Rattle.zb_nwk.specs.Shape.{kind, version, key_id, Spells}
use Rattle.zb_nwk.specs.Reading.{control_at, header_at, aux_control_at, aux_at, secured_at, frame_at, frame_of}
use Rattle.zb_nwk.specs.Faults.{CanGoOn, Explains, HasFault}
use Rattle.zb_nwk.proofs.ReadAgain.{header_again, frame_again}
use Rattle.zb_nwk.proofs.Endings.{FrameCut, FrameWrong, FrameRead, control_cut, frame_end}

explained : (bytes : List ℕ) (e : NwkError) → length bytes ≤ 127 → Explains bytes e → HasFault bytes e
explained bytes error.TooLong le why = absurd why
explained bytes (error.Short place) le why = (le, why)
explained bytes (error.FrameType found) le why = (le, why)
explained bytes (error.Version found) le why = (le, why)
explained bytes (error.KeyId found) le why = (le, why)
explained bytes error.NoSource le why = (le, why)

abbrev failed : NwkError → Result NwkFrame NwkError
failed e = Err e

err_is : (e f : NwkError) → failed e ≡ failed f → e ≡ f
err_is e f same = cc

abbrev read_as : NwkFrame → Result NwkFrame NwkError
read_as f = Ok f

pub ok_is : (f g : NwkFrame) → read_as f ≡ read_as g → f ≡ g
ok_is f g same = cc

cut_has : (bytes : List ℕ) → length bytes ≤ 127 → frame_at (error.Short (length bytes)) bytes
    ≡ Err (error.Short (length bytes)) → ((length bytes < 2) ⊎ CanGoOn bytes)
    → HasFault bytes (error.Short (length bytes))
cut_has bytes le short goes = (
  le,
  (
    refl,
    record {
      no_frame = λ f is. let again = frame_again (error.Short (length bytes)) bytes f is in cc
          (again, short);
      goes_on = goes;
    },
  ),
)

pub fault_found : (bytes : List ℕ) → IsBytes bytes → (e : NwkError) → frame_of bytes ≡ Err e → HasFault bytes e
unfolding frame_of
fault_found bytes fits e given =
    elim (cases_lt 127 (length bytes)) [
      | inl long ↦
          let same = rw (lt-ltb _ _ long) at given in
          subst (λ (f : NwkError). HasFault bytes f) (err_is error.TooLong e same) long
      | inr le ↦
          let cut = error.Short (length bytes) in
          elim (frame_end bytes fits) [
            | FrameCut short goes ↦
                let same = rw (le-ltb _ _ le, short cut) at given in
                subst (λ (f : NwkError). HasFault bytes f) (err_is cut e same) (cut_has bytes le (short cut) goes)
            | FrameWrong f wrong why ↦
                let same = rw (le-ltb _ _ le, wrong_now frame_at cut f bytes (wrong cut)) at given in
                subst (λ (g : NwkError). HasFault bytes g) (err_is f e same) (explained bytes f le why)
            | FrameRead f is ↦
                let same = rw (le-ltb _ _ le, frame_again cut bytes f is) at given in
                absurd cc
          ]
    ]

-- bytes that can be continued have no fault that remains
stays_not : (bytes : List ℕ) (e : NwkError)
    → ((cut : NwkError) (more : List ℕ) → frame_at cut (bytes ++ more) ≡ Err e) → (length bytes < 2) ⊎ CanGoOn bytes
    → ⊥
stays_not bytes e wrong (inl lt) =
    let one = sym (control_cut error.TooLong bytes lt) ∙ wrong_now frame_at error.TooLong e bytes
    (wrong error.TooLong) in
    let other = sym (control_cut error.NoSource bytes lt) ∙ wrong_now frame_at error.NoSource e bytes
    (wrong error.NoSource) in
    cc (one, other)
stays_not bytes e wrong (inr (more, f, is)) =
    let again = frame_again error.TooLong (bytes ++ more) f is in
    cc (again, wrong error.TooLong more)

pub fault_only : (bytes : List ℕ) → IsBytes bytes → (e : NwkError) → HasFault bytes e → frame_of bytes ≡ Err e
unfolding frame_of frame_at header_at control_at aux_at aux_control_at secured_at
fault_only bytes fits error.TooLong long = rw (lt-ltb _ _ long) refl
fault_only bytes fits (error.Short place) (le, (at, cut)) =
    elim (frame_end bytes fits) [
      | FrameCut short goes ↦ rw (le-ltb _ _ le, short (error.Short (length bytes)), at) refl
      | FrameWrong e wrong why ↦ absurd (stays_not bytes e wrong cut.goes_on)
      | FrameRead f is ↦ absurd (cut.no_frame f is)
    ]
fault_only bytes fits (error.FrameType found) (le, (control, rest, begins, is, ge)) =
    let cut = error.Short (length bytes) in
    let reads : frame_at cut bytes ≡ Err (error.FrameType (kind control)) =
    ap (frame_at cut) begins.parts ∙ rw (
      number_again cut w16 (2 ^ 16) wide16 control rest begins.in_range,
      le-ltb (kind control) 2 (omega (arith, is, ge)),
    ) refl in
    rw (le-ltb _ _ le, reads, is) refl
fault_only bytes fits (error.Version found) (le, (control, rest, begins, known, is, ne)) =
    let cut = error.Short (length bytes) in
    let other : eqb (version control) 2 ≡ false = ne_eqb (version control) 2 (λ e. ne (sym is ∙ e)) in
    let reads : frame_at cut bytes ≡ Err (error.Version (version control)) =
    ap (frame_at cut) begins.parts ∙ rw
    (number_again cut w16 (2 ^ 16) wide16 control rest begins.in_range, lt-ltb (kind control) 2 known, other) refl
    in
    rw (le-ltb _ _ le, reads, is) refl
fault_only bytes fits (error.KeyId found) (le, (control, h, rest, by, is, ne)) =
    let cut = error.Short (length bytes) in
    let other : eqb (key_id control) 1 ≡ false = ne_eqb (key_id control) 1 (λ e. ne (sym is ∙ e)) in
    let reads : frame_at cut bytes ≡ Err (error.KeyId (key_id control)) =
    ap (frame_at cut) by.parts ∙ rw (header_again cut h (control ∷ rest) by.in_range by.shaped, by.secured, other)
    refl in
    rw (le-ltb _ _ le, reads, is) refl
fault_only bytes fits error.NoSource (le, (control, h, rest, by, is, no_source)) =
    let cut = error.Short (length bytes) in
    let reads : frame_at cut bytes ≡ Err error.NoSource =
    ap (frame_at cut) by.parts ∙ rw (
      header_again cut h (control ∷ rest) by.in_range by.shaped,
      by.secured,
      eq-eqb (key_id control) 1 is,
      no_source,
    ) refl in
    rw (le-ltb _ _ le, reads) refl

pub read_is_spelled : (bytes : List ℕ) → IsBytes bytes → (f : NwkFrame) → frame_of bytes ≡ Ok f → Spells bytes f
unfolding frame_of
read_is_spelled bytes fits f given =
    elim (cases_lt 127 (length bytes)) [
      | inl long ↦ let same = rw (lt-ltb _ _ long) at given in absurd cc
      | inr le ↦
          let cut = error.Short (length bytes) in
          elim (frame_end bytes fits) [
            | FrameCut short goes ↦ let same = rw (le-ltb _ _ le, short cut) at given in absurd cc
            | FrameWrong e wrong why ↦ let same = rw (le-ltb _ _ le, wrong_now frame_at cut e bytes (wrong cut)) at
                given in absurd cc
            | FrameRead g is ↦
                let same = rw (le-ltb _ _ le, frame_again cut bytes g is) at given in
                subst (λ (h : NwkFrame). Spells bytes h) (ok_is g f same) (record { is_frame = is; fits = le })
          ]
    ]
