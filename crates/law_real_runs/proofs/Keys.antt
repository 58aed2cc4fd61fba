-- What a node's own frame shows of keys.
use Rattle.std.proofs.Common.{◌≡◌, ℕ, Bool, true, false, cond, not, ◌&&◌, List, [], ◌∷◌, length, drop, Option, Some, None, option_map, is_some, nat_lt, Result, Ok, Err, refl, sym, ap, ◌∙◌, subst, inl, inr}
use Rattle.std.specs.Prelude.{◌==◌, if◌then◌else◌}
use Rattle.std.specs.Int.{Width, w16, w32, w64, byte_len, from_le_bytes}
use Rattle.zb_aps.specs.Reading as aps
use Rattle.zb_aps.specs.Reading.{control_at, extended_at, fields_at, header_at, aux_control_at, aux_at, secured_at, unsecured_at, content_at, frame_at, frame_of}
use Rattle.zb_aps.specs.Shape.{kind, delivery, is_ack, to_group, is_addressed}
use Rattle.zb_aps.specs.declared.auxiliary.ApsAux.{ApsAux}
use Rattle.zb_aps.specs.declared.fault.ApsError.{ApsError}
use Rattle.zb_aps.specs.declared.fault.ApsError.TheVariants.{TooLong, Short, FrameType, Delivery}
use Rattle.zb_aps.specs.declared.frame.ApsFrame.{ApsFrame}
use Rattle.zb_aps.specs.declared.header.ApsHeader.{ApsHeader}
use Rattle.zb_aps.specs.declared.header.Extended.{Extended}
use Rattle.zb_seal.specs.Carrying.{is_command}
use Rattle.zb_cursor.specs.Reading.{follow, byte_at, number_at, optional_at, insist, body_and_mic_at}
use Rattle.zb_cursor.specs.Spelling.{bit}
use Rattle.law_run.specs.Commanding.{IsClearControl}
use Rattle.zb_model.specs.Data as model
use Rattle.zb_model.specs.Data.{Bytes, Label}
use Rattle.zb_model.specs.Frames.{aps_term, sealed_command, sealed_data, data_front, clear_command, clear_broadcast}
use Rattle.zb_model.specs.Secrets.{is_command_header}
use Rattle.zb_model.specs.Tools.{ApsShown}
use Rattle.zb_seal.specs.Wire.{wire}
use Rattle.zb_model_real.specs.Terms.{term_of}
use Rattle.zb_model_real.specs.Readers.{auxiliary, aps_shown}

abbrev pub IsNone : (A : Type 0) → Option A → Type 0
IsNone A None = Unit {0}
IsNone A (Some x) = ⊥

pub none-is : (A : Type 0) (x : A) → None ≡ Some x → ⊥
none-is A x e = subst (λ o. IsNone A o) e tt

pub some-same : (A : Type 0) (x y : A) → Some x ≡ Some y → x ≡ y
some-same A x y e = ap (λ o. Rattle.std.specs.Prelude.unwrap_or o x) e

-- What is read has a property

abbrev pub Reads : (E A : Type 0) (P : A → Type 0) → Result (A × List ℕ) E → Type 0
Reads E A P (Ok x) = P x.0
Reads E A P (Err e) = Unit {0}

pub follow-reads : (E A B : Type 0) (P : A → Type 0) (Q : B → Type 0) (o : Result (A × List ℕ) E)
    (next : A → List ℕ → Result (B × List ℕ) E) → Reads E A P o
    → ((x : A) (rest : List ℕ) → P x → Reads E B Q (next x rest)) → Reads E B Q (follow o next)
follow-reads E A B P Q (Ok x) next p k = k x.0 x.1 p
follow-reads E A B P Q (Err e) next p k = tt

abbrev pub Any : (A : Type 0) → A → Type 0
Any A x = Unit {0}

pub any-reads : (E A : Type 0) (o : Result (A × List ℕ) E) → Reads E A (Any A) o
any-reads E A (Ok x) = tt
any-reads E A (Err e) = tt

-- APS frames: the control byte is the first, and a frame whose control says so has an auxiliary header

abbrev E : Type 0
E = ApsError

control-reads : (cut : E) (c : ℕ) (rest : List ℕ) → Reads E ℕ (λ x. x ≡ c) (control_at cut (c ∷ rest))
unfolding control_at
control-reads cut c rest =
    follow-reads E (Unit {0}) ℕ (Any (Unit {0})) (λ x. x ≡ c)
    (insist (nat_lt (kind c) 3) (FrameType (kind c)) cut rest)
    (λ u r. follow (insist (not (delivery c == 1)) (Delivery (delivery c)) cut r) (λ v r. Ok (c, r)))
    (any-reads E (Unit {0}) (insist (nat_lt (kind c) 3) (FrameType (kind c)) cut rest)) (λ u r p.
    follow-reads E (Unit {0}) ℕ (Any (Unit {0})) (λ x. x ≡ c)
    (insist (not (delivery c == 1)) (Delivery (delivery c)) cut r) (λ v r. Ok (c, r))
    (any-reads E (Unit {0}) (insist (not (delivery c == 1)) (Delivery (delivery c)) cut r)) (λ v r q. refl))

abbrev Has : ℕ → ApsHeader → Type 0
Has c h = h.control ≡ c

abbrev header_of : ℕ → Option ℕ → Option ℕ → Option ℕ → Option ℕ → Option ℕ → ℕ → Option Extended → ApsHeader
header_of c e g l p s n x =
    record {
      control = c;
      endpoint = e;
      group = g;
      cluster = l;
      profile = p;
      source_endpoint = s;
      counter = n;
      extended = x;
    }

fields-reads : (cut : E) (c : ℕ) (bytes : List ℕ) → Reads E ApsHeader (Has c) (fields_at c cut bytes)
unfolding fields_at
fields-reads cut c bytes =
    follow-reads E (Option ℕ) ApsHeader (Any (Option ℕ)) (Has c)
    (optional_at (is_addressed c && not (to_group c)) byte_at cut bytes) (λ e r. at1 e r)
    (any-reads E (Option ℕ) (optional_at (is_addressed c && not (to_group c)) byte_at cut bytes)) (λ e r u.
    follow-reads E (Option ℕ) ApsHeader (Any (Option ℕ)) (Has c)
    (optional_at (is_addressed c && to_group c) (number_at w16) cut r) (λ g r. at2 e g r)
    (any-reads E (Option ℕ) (optional_at (is_addressed c && to_group c) (number_at w16) cut r)) (λ g r u.
    follow-reads E (Option ℕ) ApsHeader (Any (Option ℕ)) (Has c) (optional_at (is_addressed c) (number_at w16) cut r)
    (λ l r. at3 e g l r) (any-reads E (Option ℕ) (optional_at (is_addressed c) (number_at w16) cut r)) (λ l r u.
    follow-reads E (Option ℕ) ApsHeader (Any (Option ℕ)) (Has c) (optional_at (is_addressed c) (number_at w16) cut r)
    (λ p r. at4 e g l p r) (any-reads E (Option ℕ) (optional_at (is_addressed c) (number_at w16) cut r)) (λ p r u.
    follow-reads E (Option ℕ) ApsHeader (Any (Option ℕ)) (Has c) (optional_at (is_addressed c) byte_at cut r)
    (λ s r. at5 e g l p s r) (any-reads E (Option ℕ) (optional_at (is_addressed c) byte_at cut r)) (λ s r u.
    follow-reads E ℕ ApsHeader (Any ℕ) (Has c) (byte_at cut r) (λ n r. at6 e g l p s n r)
    (any-reads E ℕ (byte_at cut r)) (λ n r u.
    follow-reads E (Option Extended) ApsHeader (Any (Option Extended)) (Has c)
    (optional_at (bit c 7) (extended_at (is_ack c)) cut r) (λ x r. Ok (header_of c e g l p s n x, r))
    (any-reads E (Option Extended) (optional_at (bit c 7) (extended_at (is_ack c)) cut r)) (λ x r u. refl)))))))
  where
    at6 : Option ℕ → Option ℕ → Option ℕ → Option ℕ → Option ℕ → ℕ → List ℕ → Result (ApsHeader × List ℕ) E
    at6 e g l p s n r = follow (optional_at (bit c 7) (extended_at (is_ack c)) cut r)
        (λ x r. Ok (header_of c e g l p s n x, r))

    at5 : Option ℕ → Option ℕ → Option ℕ → Option ℕ → Option ℕ → List ℕ → Result (ApsHeader × List ℕ) E
    at5 e g l p s r = follow (byte_at cut r) (λ n r. at6 e g l p s n r)

    at4 : Option ℕ → Option ℕ → Option ℕ → Option ℕ → List ℕ → Result (ApsHeader × List ℕ) E
    at4 e g l p r = follow (optional_at (is_addressed c) byte_at cut r) (λ s r. at5 e g l p s r)

    at3 : Option ℕ → Option ℕ → Option ℕ → List ℕ → Result (ApsHeader × List ℕ) E
    at3 e g l r = follow (optional_at (is_addressed c) (number_at w16) cut r) (λ p r. at4 e g l p r)

    at2 : Option ℕ → Option ℕ → List ℕ → Result (ApsHeader × List ℕ) E
    at2 e g r = follow (optional_at (is_addressed c) (number_at w16) cut r) (λ l r. at3 e g l r)

    at1 : Option ℕ → List ℕ → Result (ApsHeader × List ℕ) E
    at1 e r = follow (optional_at (is_addressed c && to_group c) (number_at w16) cut r) (λ g r. at2 e g r)

header-reads : (cut : E) (c : ℕ) (rest : List ℕ) → Reads E ApsHeader (Has c) (header_at cut (c ∷ rest))
unfolding header_at
header-reads cut c rest = follow-reads E ℕ ApsHeader (λ x. x ≡ c) (Has c) (control_at cut (c ∷ rest))
    (λ x r. fields_at x cut r) (control-reads cut c rest)
    (λ x r e. subst (λ y. Reads E ApsHeader (Has y) (fields_at x cut r)) e (fields-reads cut x r))

abbrev Shows : ApsHeader → Bool → ApsFrame → Type 0
Shows h b f = (f.header ≡ h) × (b ≡ true → is_some f.aux ≡ true)

content-reads : (b : Bool) (h : ApsHeader) (cut : E) (bytes : List ℕ)
    → Reads E ApsFrame (Shows h b) (content_at b h cut bytes)
unfolding secured_at unsecured_at
content-reads true h cut bytes =
    follow-reads E ApsAux ApsFrame (Any ApsAux) (Shows h true) (aux_at cut bytes)
    (λ x r. follow (body_and_mic_at cut r)
    (λ s r. Ok (record { header = h; aux = Some x; body = record { items = s.0 }; mic = s.1 }, r)))
    (any-reads E ApsAux (aux_at cut bytes)) (λ x r u.
    follow-reads E (List ℕ × List ℕ) ApsFrame (Any (List ℕ × List ℕ)) (Shows h true) (body_and_mic_at cut r)
    (λ s r. Ok (record { header = h; aux = Some x; body = record { items = s.0 }; mic = s.1 }, r))
    (any-reads E (List ℕ × List ℕ) (body_and_mic_at cut r)) (λ s r v. (refl, λ e. refl)))
content-reads false h cut bytes = (refl, λ e. absurd (Rattle.std.proofs.lemmas.Bool.false≢true e))

abbrev Begins : ℕ → ApsFrame → Type 0
Begins c f = (f.header.control ≡ c) × (bit c 5 ≡ true → is_some f.aux ≡ true)

frame-reads : (cut : E) (c : ℕ) (rest : List ℕ) → Reads E ApsFrame (Begins c) (frame_at cut (c ∷ rest))
unfolding frame_at
frame-reads cut c rest =
    follow-reads E ApsHeader ApsFrame (Has c) (Begins c) (header_at cut (c ∷ rest))
    (λ h r. content_at (bit h.control 5) h cut r) (header-reads cut c rest)
    (λ h r e. weaken (content_at (bit h.control 5) h cut r) h e (content-reads (bit h.control 5) h cut r))
  where
    weaken : (o : Result (ApsFrame × List ℕ) E) (h : ApsHeader) → h.control ≡ c
        → Reads E ApsFrame (Shows h (bit h.control 5)) o → Reads E ApsFrame (Begins c) o
    weaken (Ok x) h e p = (ap (λ (y : ApsHeader). y.control) p.0 ∙ e, λ b. p.1 (ap (λ n. bit n 5) e ∙ b))
    weaken (Err x) h e p = tt

abbrev sight_of : ApsFrame → ApsShown
sight_of f =
    record { is_command = is_command f.header.control; auxiliary = option_map auxiliary f.aux; body = f.body.items }

seen : (P : ApsFrame → Type 0) (long : Bool) (r : Result (ApsFrame × List ℕ) E) (a : ApsShown) → Reads E ApsFrame P r
    → aps_shown (cond long (Err TooLong) (aps.whole r)) ≡ Some a → (f : ApsFrame) × (sight_of f ≡ a) × P f
seen P true r a p e = absurd (none-is ApsShown a e)
seen P false (Err x) a p e = absurd (none-is ApsShown a e)
seen P false (Ok x) a p e = (x.0, some-same ApsShown (sight_of x.0) a e, p)

begins : (c : ℕ) (rest : List ℕ) (a : ApsShown) → aps_shown (frame_of (c ∷ rest)) ≡ Some a → (f : ApsFrame)
    × (sight_of f ≡ a) × Begins c f
unfolding frame_of
begins c rest a e = seen (Begins c) (nat_lt 127 (length (c ∷ rest))) (frame_at (Short (length (c ∷ rest))) (c ∷ rest))
    a (frame-reads (Short (length (c ∷ rest))) c rest) e

no-bytes : (a : ApsShown) → aps_shown (frame_of []) ≡ Some a → ⊥
unfolding frame_of frame_at header_at control_at
no-bytes a e = none-is ApsShown a e

pub shows-plain : (bytes : Bytes) (a : ApsShown) → aps_shown (frame_of bytes) ≡ Some a → is_command_header bytes
    ≡ false → a.is_command ≡ false
shows-plain [] a e h = absurd (no-bytes a e)
shows-plain (c ∷ rest) a e h = let b = begins c rest a e in ap (λ (y : ApsShown). y.is_command) (sym b.1) ∙ ap
    is_command b.2.0 ∙ h

some-mapped : (o : Option ApsAux) → is_some o ≡ true → is_some (option_map auxiliary o) ≡ true
some-mapped None e = e
some-mapped (Some x) e = refl

shows-secured : (c : ℕ) (rest : List ℕ) → bit c 5 ≡ true → (a : ApsShown) → aps_shown (frame_of (c ∷ rest)) ≡ Some a
    → is_some a.auxiliary ≡ true
shows-secured c rest s a e = let b = begins c rest a e in ap (λ (y : ApsShown). is_some y.auxiliary) (sym b.1) ∙
    some-mapped b.0.aux (b.2.1 s)

-- frames of a node's own

pub shows-command : (label : Label) (key : Bytes) (source counter : ℕ) (content : Bytes) (a : ApsShown)
    → aps_shown (frame_of (wire (term_of (aps_term sealed_command label key source counter content)))) ≡ Some a
    → is_some a.auxiliary ≡ true
shows-command model.ForData key source counter content a e =
    shows-secured 0x21 (drop 1 (wire (term_of (aps_term sealed_command model.ForData key source counter content))))
    refl a e
shows-command model.ForNetwork key source counter content a e =
    shows-secured 0x21 (drop 1 (wire (term_of (aps_term sealed_command model.ForNetwork key source counter content))))
    refl a e
shows-command model.ForTransport key source counter content a e =
    shows-secured 0x21
    (drop 1 (wire (term_of (aps_term sealed_command model.ForTransport key source counter content)))) refl a e
shows-command model.ForLoad key source counter content a e =
    shows-secured 0x21 (drop 1 (wire (term_of (aps_term sealed_command model.ForLoad key source counter content))))
    refl a e

pub shows-telling : (label : Label) (key : Bytes) (source counter : ℕ) (content : Bytes) (a : ApsShown)
    → aps_shown (frame_of (wire (term_of (aps_term (data_front sealed_data) label key source counter content))))
    ≡ Some a → is_some a.auxiliary ≡ true
shows-telling model.ForData key source counter content a e =
    shows-secured 0x20
    (drop 1 (wire (term_of (aps_term (data_front sealed_data) model.ForData key source counter content)))) refl a e
shows-telling model.ForNetwork key source counter content a e =
    shows-secured 0x20
    (drop 1 (wire (term_of (aps_term (data_front sealed_data) model.ForNetwork key source counter content)))) refl a e
shows-telling model.ForTransport key source counter content a e =
    shows-secured 0x20
    (drop 1 (wire (term_of (aps_term (data_front sealed_data) model.ForTransport key source counter content)))) refl a
    e
shows-telling model.ForLoad key source counter content a e =
    shows-secured 0x20
    (drop 1 (wire (term_of (aps_term (data_front sealed_data) model.ForLoad key source counter content)))) refl a e

clear-one : (long : Bool) (cut : E) (counter : ℕ) (bytes : Bytes) (a : ApsShown)
    → aps_shown (cond long (Err TooLong) (aps.whole (frame_at cut (0x01 ∷ counter ∷ bytes)))) ≡ Some a → a.body ≡ bytes
unfolding frame_at header_at control_at fields_at unsecured_at
clear-one true cut counter bytes a e = absurd (none-is ApsShown a e)
clear-one false cut counter bytes a e = ap (λ (o : Option ApsShown). body_of o) (sym e)
  where
    body_of : Option ApsShown → Bytes
    body_of None = []
    body_of (Some x) = x.body

clear-all : (long : Bool) (cut : E) (counter : ℕ) (bytes : Bytes) (a : ApsShown)
    → aps_shown (cond long (Err TooLong) (aps.whole (frame_at cut (0x09 ∷ counter ∷ bytes)))) ≡ Some a → a.body ≡ bytes
unfolding frame_at header_at control_at fields_at unsecured_at
clear-all true cut counter bytes a e = absurd (none-is ApsShown a e)
clear-all false cut counter bytes a e = ap (λ (o : Option ApsShown). body_of o) (sym e)
  where
    body_of : Option ApsShown → Bytes
    body_of None = []
    body_of (Some x) = x.body

pub shows-clear : (control counter : ℕ) (bytes : Bytes) (a : ApsShown) → IsClearControl control
    → aps_shown (frame_of (control ∷ counter ∷ bytes)) ≡ Some a → a.body ≡ bytes
unfolding frame_of
shows-clear control counter bytes a (inl c) e = clear-one (nat_lt 127 (length (clear_command ∷ counter ∷ bytes)))
    (Short (length (clear_command ∷ counter ∷ bytes))) counter bytes a
    (subst (λ x. aps_shown
    (cond (nat_lt 127 (length (x ∷ counter ∷ bytes))) (Err TooLong)
    (aps.whole (frame_at (Short (length (x ∷ counter ∷ bytes))) (x ∷ counter ∷ bytes)))) ≡ Some a) c e)
shows-clear control counter bytes a (inr c) e = clear-all (nat_lt 127 (length (clear_broadcast ∷ counter ∷ bytes)))
    (Short (length (clear_broadcast ∷ counter ∷ bytes))) counter bytes a
    (subst (λ x. aps_shown
    (cond (nat_lt 127 (length (x ∷ counter ∷ bytes))) (Err TooLong)
    (aps.whole (frame_at (Short (length (x ∷ counter ∷ bytes))) (x ∷ counter ∷ bytes)))) ≡ Some a) c e)
