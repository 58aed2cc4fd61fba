-- A frame that is written is read back.
use Rattle.std.proofs.Common.{◌≡◌, ℕ, ◌-◌, ◌^◌, ◌<◌, true, false, ltb, List, [], ◌∷◌, ◌++◌, length, Option, Some, None, Ok, refl, sym, ap, ◌∙◌, append_assoc, arith, length-append}
use Rattle.std.specs.Prelude.{IfSome, IfNone, is_some}
use Rattle.std.specs.Int.{w16, w32}
use Rattle.std.proofs.lemmas.Bool.{le-ltb, lt-ltb, eq-eqb}
use Rattle.std.proofs.lemmas.List.{take_at, drop_at}
use Rattle.zb_cursor.specs.Spelling.{byte, number, short, eui, optional, bit}
use Rattle.zb_cursor.specs.Reading.{byte_at, short_at, eui_at, body_and_mic_at}
use Rattle.zb_cursor.proofs.ReadAgain.{wide16, wide32, number_again, short_again, eui_again, optional_again}
use Rattle.zb_cursor.proofs.Times.{times_again}
use Rattle.zb_nwk.specs.declared.fault.NwkError.{NwkError}
use Rattle.zb_nwk.specs.declared.fault.NwkError.TheVariants as error
use Rattle.zb_nwk.specs.declared.header.Route.{Route}
use Rattle.zb_nwk.specs.declared.header.NwkHeader.{NwkHeader}
use Rattle.zb_nwk.specs.declared.auxiliary.NwkAux.{NwkAux}
use Rattle.zb_nwk.specs.declared.frame.NwkFrame.{NwkFrame}
use Rattle.zb_nwk.specs.Spelling.{route, header, aux, content}
use Rattle.zb_nwk.specs.Shape.{IsControl, IsHeader, IsAuxControl, RouteInRange, HeaderInRange, AuxInRange, IsFrame, Spells}
use Rattle.zb_nwk.specs.Reading.{control_at, route_at, fields_at, header_at, aux_control_at, aux_at, secured_at, unsecured_at, content_at, frame_at, frame_of}

pub control_again : (cut : NwkError) (control : ℕ) (rest : List ℕ) → control < 2 ^ 16 → IsControl control
    → control_at cut (number w16 control ++ rest) ≡ Ok (control, rest)
unfolding control_at
control_again cut control rest lt known =
    rw (
      number_again cut w16 (2 ^ 16) wide16 control rest lt,
      lt-ltb _ _ known.known_kind,
      eq-eqb _ _ known.version_two,
    ) refl

pub route_again : (cut : NwkError) (r : Route) (rest : List ℕ) → RouteInRange r → route_at cut (route r ++ rest)
    ≡ Ok (r, rest)
unfolding route_at
route_again cut r rest fits =
    rw (times_again cut short short_at (λ s. s.0 < 2 ^ 16) (λ s tail lt. short_again cut s tail lt) r.relays.items
    rest fits.relays) refl

pub regroup9 : (a b c d e f g h i r : List ℕ) → ((((((((a ++ b) ++ c) ++ d) ++ e) ++ f) ++ g) ++ h) ++ i) ++ r ≡ a
    ++ (b ++ (c ++ (d ++ (e ++ (f ++ (g ++ (h ++ (i ++ r))))))))
regroup9 a b c d e f g h i r = simp append_assoc

pub header_again : (cut : NwkError) (h : NwkHeader) (rest : List ℕ) → HeaderInRange h → IsHeader h
    → header_at cut (header h ++ rest) ≡ Ok (h, rest)
unfolding header_at fields_at
header_again cut h rest fits known =
    let route_text = optional route h.route ++ rest in
    let multicast_text = optional byte h.multicast ++ route_text in
    let source_text = optional eui h.source_eui ++ multicast_text in
    let destination_text = optional eui h.destination_eui ++ source_text in
    ap (header_at cut)
    (regroup9 (number w16 h.control) (short h.destination) (short h.source) (byte h.radius) (byte h.sequence)
    (optional eui h.destination_eui) (optional eui h.source_eui) (optional byte h.multicast)
    (optional route h.route) rest)
    ∙ rw (
      control_again cut h.control
          (short h.destination ++ (short h.source ++ (byte h.radius ++ (byte h.sequence ++ destination_text))))
          fits.control known.control,
      short_again cut h.destination (short h.source ++ (byte h.radius ++ (byte h.sequence ++ destination_text)))
          fits.destination,
      short_again cut h.source (byte h.radius ++ (byte h.sequence ++ destination_text)) fits.source,
      optional_again cut eui eui_at (λ e. e.0 < 2 ^ 64) (λ e tail lt. eui_again cut e tail lt) (bit h.control 11)
          h.destination_eui source_text known.destination_eui fits.destination_eui,
      optional_again cut eui eui_at (λ e. e.0 < 2 ^ 64) (λ e tail lt. eui_again cut e tail lt) (bit h.control 12)
          h.source_eui multicast_text known.source_eui fits.source_eui,
      optional_again cut byte byte_at (λ b. b < 2 ^ 8) (λ b tail lt. refl) (bit h.control 8) h.multicast route_text
          known.multicast fits.multicast,
      optional_again cut route route_at RouteInRange (λ r tail lt. route_again cut r tail lt) (bit h.control 10)
          h.route rest known.route fits.route,
    ) refl

pub regroup4 : (a b c d r : List ℕ) → (((a ++ b) ++ c) ++ d) ++ r ≡ a ++ (b ++ (c ++ (d ++ r)))
regroup4 a b c d r = simp append_assoc

pub aux_again : (cut : NwkError) (a : NwkAux) (rest : List ℕ) → AuxInRange a → IsAuxControl a.control
    → aux_at cut (aux a ++ rest) ≡ Ok (a, rest)
unfolding aux_at aux_control_at
aux_again cut a rest fits known =
    ap (aux_at cut) (regroup4 (byte a.control) (number w32 a.counter) (eui a.source) (byte a.key_sequence) rest)
    ∙ rw (
      eq-eqb _ _ known.network_key,
      known.extended,
      number_again cut w32 (2 ^ 32) wide32 a.counter
          (eui a.source ++ (byte a.key_sequence ++ rest)) fits.counter,
      eui_again cut a.source (byte a.key_sequence ++ rest) fits.source,
    ) refl

pub body_and_mic_again : {E : Type 0} (cut : E) (body mic : List ℕ) → length mic ≡ 4
    → body_and_mic_at cut (body ++ mic) ≡ Ok ((body, mic), [])
unfolding body_and_mic_at
body_and_mic_again cut body mic four =
    let n : length (body ++ mic) - 4 ≡ length body = omega (arith, length-append body mic) in
    let long : ltb (length (body ++ mic)) 4 ≡ false = le-ltb _ _ (omega (arith, length-append body mic)) in
    rw (long, n, take_at body mic (length body) refl, drop_at body mic (length body) refl) refl

pub content_again : (cut : NwkError) (h : NwkHeader) (o : Option NwkAux) (body mic : List ℕ)
    → IfSome o (λ a. IsAuxControl a.control) → IfNone o (mic ≡ 0 ∷ 0 ∷ 0 ∷ 0 ∷ []) → IfSome o AuxInRange → length mic
    ≡ 4
    → content_at (is_some o) h cut (content o body mic)
    ≡ Ok (record { header = h; aux = o; body = record { items = body }; mic = mic }, [])
unfolding secured_at unsecured_at
content_again cut h None body mic shaped zero fits four =
    ap (λ (m : List ℕ). Ok (record { header = h; aux = None; body = record { items = body }; mic = m }, [])) (sym zero)
content_again cut h (Some a) body mic shaped zero fits four =
    ap (content_at true h cut) (append_assoc (aux a) body mic) ∙ rw
    (aux_again cut a (body ++ mic) fits shaped, body_and_mic_again cut body mic four) refl

pub frame_again : (cut : NwkError) (bytes : List ℕ) (f : NwkFrame) → IsFrame bytes f → frame_at cut bytes ≡ Ok (f, [])
unfolding frame_at
frame_again cut bytes f is =
    ap (frame_at cut) is.text
    ∙ rw (
      header_again cut f.header (content f.aux f.body.items f.mic) is.in_range.header is.shaped.header,
      ← is.shaped.secured,
    )
    (content_again cut f.header f.aux f.body.items f.mic is.shaped.aux is.shaped.mic is.in_range.aux
    is.in_range.mic)

pub spelled_again : (bytes : List ℕ) (f : NwkFrame) → Spells bytes f → frame_of bytes ≡ Ok f
unfolding frame_of
spelled_again bytes f spells =
    rw (le-ltb _ _ spells.fits, frame_again (error.Short (length bytes)) bytes f spells.is_frame) refl
