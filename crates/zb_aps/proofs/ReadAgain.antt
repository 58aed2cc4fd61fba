-- A frame that is written is read back.
use Rattle.std.proofs.Common.{◌≡◌, ℕ, ◌-◌, ◌^◌, ◌<◌, Bool, true, false, ltb, List, [], ◌∷◌, ◌++◌, length, Option, Some, None, Ok, refl, sym, ap, ◌∙◌, append_assoc, arith, length-append}
use Rattle.std.specs.Prelude.{IfSome, IfNone, is_some, not, ◌&&◌}
use Rattle.std.specs.Int.{w16, w32}
use Rattle.std.proofs.lemmas.Bool.{le-ltb, lt-ltb, ne_eqb}
use Rattle.std.proofs.lemmas.List.{take_at, drop_at}
use Rattle.zb_cursor.specs.Spelling.{byte, number, eui, optional, bit}
use Rattle.zb_cursor.specs.Reading.{byte_at, number_at, eui_at, optional_at, body_and_mic_at}
use Rattle.zb_cursor.proofs.ReadAgain.{wide16, wide32, number_again, eui_again, optional_again}
use Rattle.zb_aps.specs.declared.fault.ApsError.{ApsError}
use Rattle.zb_aps.specs.declared.fault.ApsError.TheVariants as error
use Rattle.zb_aps.specs.declared.header.Extended.{Extended}
use Rattle.zb_aps.specs.declared.header.ApsHeader.{ApsHeader}
use Rattle.zb_aps.specs.declared.auxiliary.ApsAux.{ApsAux}
use Rattle.zb_aps.specs.declared.frame.ApsFrame.{ApsFrame}
use Rattle.zb_aps.specs.Spelling.{extended, header, aux, content}
use Rattle.zb_aps.specs.Shape.{is_ack, to_group, is_addressed, is_block, IsControl, IsExtended, IsHeader, IsAux, ExtendedInRange, HeaderInRange, AuxInRange, IsFrame, Spells}
use Rattle.zb_aps.specs.Reading.{control_at, extended_at, fields_at, header_at, aux_control_at, aux_at, secured_at, unsecured_at, content_at, frame_at, frame_of}

pub control_again : (cut : ApsError) (control : ℕ) (rest : List ℕ) → IsControl control
    → control_at cut (control ∷ rest) ≡ Ok (control, rest)
unfolding control_at
control_again cut control rest known = rw (lt-ltb _ _ known.known_kind, ne_eqb _ _ known.known_delivery) refl

pub regroup3 : (a b c r : List ℕ) → ((a ++ b) ++ c) ++ r ≡ a ++ (b ++ (c ++ r))
regroup3 a b c r = simp append_assoc

byte_again : (cut : ApsError) (b : ℕ) (tail : List ℕ) → b < 2 ^ 8 → byte_at cut (byte b ++ tail) ≡ Ok (b, tail)
byte_again cut b tail lt = refl

number16_again : (cut : ApsError) (n : ℕ) (tail : List ℕ) → n < 2 ^ 16 → number_at w16 cut (number w16 n ++ tail)
    ≡ Ok (n, tail)
number16_again cut n tail lt = number_again cut w16 (2 ^ 16) wide16 n tail lt

optional_byte_again : (cut : ApsError) (present : Bool) (o : Option ℕ) (rest : List ℕ) → is_some o ≡ present
    → IfSome o (λ b. b < 2 ^ 8) → optional_at present byte_at cut (optional byte o ++ rest) ≡ Ok (o, rest)
optional_byte_again cut present o rest is fits = optional_again cut byte byte_at (λ b. b < 2 ^ 8) (byte_again cut)
    present o rest is fits

pub extended_again : (cut : ApsError) (ack : Bool) (e : Extended) (rest : List ℕ) → ExtendedInRange e
    × IsExtended ack e → extended_at ack cut (extended e ++ rest) ≡ Ok (e, rest)
unfolding extended_at
extended_again cut ack e rest fits =
    ap (extended_at ack cut) (regroup3 (byte e.control) (optional byte e.block) (optional byte e.bits) rest)
    ∙ rw (
      optional_byte_again cut (is_block e.control) e.block (optional byte e.bits ++ rest) fits.1.block fits.0.block,
      optional_byte_again cut (is_block e.control && ack) e.bits rest fits.1.bits fits.0.bits,
    ) refl

pub regroup8 : (a b c d e f g h r : List ℕ) → (((((((a ++ b) ++ c) ++ d) ++ e) ++ f) ++ g) ++ h) ++ r ≡ a
    ++ (b ++ (c ++ (d ++ (e ++ (f ++ (g ++ (h ++ r)))))))
regroup8 a b c d e f g h r = simp append_assoc

both : (o : Option Extended) (ack : Bool) → IfSome o ExtendedInRange → IfSome o (IsExtended ack)
    → IfSome o (λ e. ExtendedInRange e × IsExtended ack e)
both None ack fits shaped = tt
both (Some e) ack fits shaped = (fits, shaped)

pub header_again : (cut : ApsError) (h : ApsHeader) (rest : List ℕ) → HeaderInRange h → IsHeader h
    → header_at cut (header h ++ rest) ≡ Ok (h, rest)
unfolding header_at fields_at
header_again cut h rest fits known =
    let c = h.control in
    let t6 = optional extended h.extended ++ rest in
    let t5 = byte h.counter ++ t6 in
    let t4 = optional byte h.source_endpoint ++ t5 in
    let t3 = optional (number w16) h.profile ++ t4 in
    let t2 = optional (number w16) h.cluster ++ t3 in
    let t1 = optional (number w16) h.group ++ t2 in
    let t0 = optional byte h.endpoint ++ t1 in
    ap (header_at cut)
    (regroup8 (byte c) (optional byte h.endpoint) (optional (number w16) h.group)
    (optional (number w16) h.cluster) (optional (number w16) h.profile) (optional byte h.source_endpoint)
    (byte h.counter) (optional extended h.extended) rest)
    ∙ rw (
      control_again cut c t0 known.control,
      optional_byte_again cut (is_addressed c && not (to_group c)) h.endpoint t1 known.addresses.endpoint
          fits.endpoint,
      optional_again cut (number w16) (number_at w16) (λ n. n < 2 ^ 16) (number16_again cut)
          (is_addressed c && to_group c) h.group t2 known.addresses.group fits.group,
      optional_again cut (number w16) (number_at w16) (λ n. n < 2 ^ 16) (number16_again cut) (is_addressed c)
          h.cluster t3 known.addresses.cluster fits.cluster,
      optional_again cut (number w16) (number_at w16) (λ n. n < 2 ^ 16) (number16_again cut) (is_addressed c)
          h.profile t4 known.addresses.profile fits.profile,
      optional_byte_again cut (is_addressed c) h.source_endpoint t5 known.addresses.source_endpoint
          fits.source_endpoint,
      optional_again cut extended (extended_at (is_ack c)) (λ e. ExtendedInRange e × IsExtended (is_ack c) e)
          (extended_again cut (is_ack c)) (bit c 7) h.extended rest known.extended
          (both h.extended (is_ack c) fits.extended known.extended_shaped),
    ) refl

pub aux_again : (cut : ApsError) (a : ApsAux) (rest : List ℕ) → AuxInRange a → IsAux a → aux_at cut (aux a ++ rest)
    ≡ Ok (a, rest)
unfolding aux_at aux_control_at
aux_again cut a rest fits known =
    ap (aux_at cut) (regroup3 (byte a.control) (number w32 a.counter) (optional eui a.source) rest)
    ∙ rw (
      ne_eqb _ _ known.link_key,
      number_again cut w32 (2 ^ 32) wide32 a.counter (optional eui a.source ++ rest)
          fits.counter,
      optional_again cut eui eui_at (λ e. e.0 < 2 ^ 64) (eui_again cut) (bit a.control 5) a.source
          rest known.source fits.source,
    ) refl

pub body_and_mic_again : {E : Type 0} (cut : E) (body mic : List ℕ) → length mic ≡ 4
    → body_and_mic_at cut (body ++ mic) ≡ Ok ((body, mic), [])
unfolding body_and_mic_at
body_and_mic_again cut body mic four =
    let n : length (body ++ mic) - 4 ≡ length body = omega (arith, length-append body mic) in
    let long : ltb (length (body ++ mic)) 4 ≡ false = le-ltb _ _ (omega (arith, length-append body mic)) in
    rw (long, n, take_at body mic (length body) refl, drop_at body mic (length body) refl) refl

pub content_again : (cut : ApsError) (h : ApsHeader) (o : Option ApsAux) (body mic : List ℕ) → IfSome o IsAux
    → IfNone o (mic ≡ 0 ∷ 0 ∷ 0 ∷ 0 ∷ []) → IfSome o AuxInRange → length mic ≡ 4
    → content_at (is_some o) h cut (content o body mic)
    ≡ Ok (record { header = h; aux = o; body = record { items = body }; mic = mic }, [])
unfolding secured_at unsecured_at
content_again cut h None body mic shaped zero fits four =
    ap (λ (m : List ℕ). Ok (record { header = h; aux = None; body = record { items = body }; mic = m }, [])) (sym zero)
content_again cut h (Some a) body mic shaped zero fits four =
    ap (content_at true h cut) (append_assoc (aux a) body mic) ∙ rw
    (aux_again cut a (body ++ mic) fits shaped, body_and_mic_again cut body mic four) refl

pub frame_again : (cut : ApsError) (bytes : List ℕ) (f : ApsFrame) → IsFrame bytes f → frame_at cut bytes ≡ Ok (f, [])
unfolding frame_at
frame_again cut bytes f is =
    ap (frame_at cut) is.text
    ∙ rw (
      header_again cut f.header (content f.aux f.body.items f.mic) is.in_range.header is.shaped.header,
      ← is.shaped.secured,
    )
    (content_again cut f.header f.aux f.body.items f.mic is.shaped.aux is.shaped.mic is.in_range.aux
    is.in_range.mic)

pub spelled_again : (bytes : List ℕ) (f : ApsFrame) → Spells bytes f → frame_of bytes ≡ Ok f
unfolding frame_of
spelled_again bytes f spells =
    rw (le-ltb _ _ spells.fits, frame_again (error.Short (length bytes)) bytes f spells.is_frame) refl
