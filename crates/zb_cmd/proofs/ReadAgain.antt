-- A command that is written is read back.
use Rattle.std.proofs.Common.{◌≡◌, ℕ, ◌≤◌, true, leb, List, [], ◌∷◌, ◌++◌, length, take, Ok, refl, sym, ap, subst, ◌∙◌, append_assoc, arith, inl, inr, ◌⊎◌, length-append}
use Rattle.std.specs.Prelude.{min}
use Rattle.std.proofs.lemmas.Bool.{cases_lt, le-leb}
use Rattle.std.proofs.lemmas.List.{append-nil, take_all, take_at, drop_at, length-take, get_or-take}
use Rattle.zb_cursor.specs.Spelling.{byte, short, eui, key}
use Rattle.zb_cursor.proofs.ReadAgain.{bytes_again, short_again, eui_again, key_again}
use Rattle.zb_cmd.specs.declared.fault.CmdError.{CmdError}
use Rattle.zb_cmd.specs.declared.fault.CmdError.TheVariants as error
use Rattle.zb_cmd.specs.declared.command.Command.{Command}
use Rattle.zb_cmd.specs.declared.command.Command.TheVariants.{TransportNetwork, TransportApplication, TransportLink, Update, Remove, RequestApplication, RequestLink, Switch, Tunnel, Verify, Confirm}
use Rattle.zb_cmd.specs.declared.leave.Leave.{Leave}
use Rattle.zb_cmd.specs.Spelling.{command, leave}
use Rattle.zb_cmd.specs.Shape.{is_inner, IsCommand, IsSmall, InRange, Spells, SpellsLeave}
use Rattle.zb_cmd.specs.Reading.{network_at, application_at, link_at, transport_of, transport_at, update_at, remove_at, partner_at, request_of, request_at, switch_at, inner_at, tunnel_at, verify_at, confirm_at, body_of, command_at, command_of, leave_body, leave_at, leave_of}

pub regroup2 : (a b r : List ℕ) → (a ++ b) ++ r ≡ a ++ (b ++ r)
regroup2 a b r = append_assoc a b r

pub regroup3 : (a b c r : List ℕ) → ((a ++ b) ++ c) ++ r ≡ a ++ (b ++ (c ++ r))
regroup3 a b c r = simp append_assoc

pub regroup4 : (a b c d r : List ℕ) → (((a ++ b) ++ c) ++ d) ++ r ≡ a ++ (b ++ (c ++ (d ++ r)))
regroup4 a b c d r = simp append_assoc

-- the first 118 bytes are an inner frame if all of them are
pub inner_front : (xs : List ℕ) → is_inner (take (min (length xs) 118) xs) ≡ is_inner xs
inner_front xs =
    elim (cases_lt 118 (length xs)) [
      | inl long ↦
          let n : min (length xs) 118 ≡ 118 = omega arith in
          let long_front : leb 19 (length (take 118 xs)) ≡ true = le-leb _ _ (omega (arith, length-take 118 xs)) in
          let long_all : leb 19 (length xs) ≡ true = le-leb _ _ (omega arith) in
          rw (n, long_front, long_all, get_or-take 118 xs 2 0 (omega arith)) refl
      | inr le ↦
          let n : min (length xs) 118 ≡ length xs = omega arith in
          rw (n, take_all (length xs) xs (omega arith)) refl
    ]

-- the reading of a Tunnel's inner frame takes all of it, if it has 118 bytes or nothing follows it
pub inner_again : (cut : CmdError) (xs rest : List ℕ) → is_inner xs ≡ true → (length xs ≡ 118)
    ⊎ ((rest ≡ []) × (length xs ≤ 118)) → inner_at cut (xs ++ rest) ≡ Ok (record { items = xs }, rest)
unfolding inner_at
inner_again cut xs rest inner (inl full) =
    let n : min (length (xs ++ rest)) 118 ≡ 118 = omega (arith, full, length-append xs rest) in
    rw (n, take_at xs rest 118 full, drop_at xs rest 118 full, inner) refl
inner_again cut xs rest inner (inr (nothing, le)) =
    let n : min (length (xs ++ [])) 118 ≡ length xs = omega (arith, le, length-append xs []) in
    rw (nothing, n, take_at xs [] (length xs) refl, drop_at xs [] (length xs) refl, inner) refl

-- where the command ends: a Tunnel extends to the 127th byte, or to the end
abbrev pub Ends : Command → List ℕ → Type 0
Ends (Tunnel destination inner) rest = (length inner.items ≡ 118) ⊎ ((rest ≡ []) × (length inner.items ≤ 118))
Ends _ rest = Unit {0}

pub command_again : (cut : CmdError) (c : Command) (rest : List ℕ) → InRange c → IsCommand c → Ends c rest
    → command_at cut (command c ++ rest) ≡ Ok (c, rest)
unfolding command_at body_of transport_at transport_of network_at application_at link_at update_at remove_at
    request_at request_of partner_at switch_at tunnel_at verify_at confirm_at
command_again cut (TransportNetwork k sequence destination source) rest fits is ends =
    ap (λ (t : List ℕ). command_at cut (5 ∷ 1 ∷ t))
    (regroup4 (key k) (byte sequence) (eui destination) (eui source) rest)
    ∙ rw (
      key_again cut k (byte sequence ++ (eui destination ++ (eui source ++ rest))) fits.0,
      eui_again cut destination (eui source ++ rest) fits.2,
      eui_again cut source rest fits.3,
    ) refl
command_again cut (TransportApplication k partner initiator) rest fits is ends =
    ap (λ (t : List ℕ). command_at cut (5 ∷ 3 ∷ t)) (regroup3 (key k) (eui partner) (byte initiator) rest)
    ∙ rw (
      key_again cut k (eui partner ++ (byte initiator ++ rest)) fits.0,
      eui_again cut partner (byte initiator ++ rest) fits.1,
    ) refl
command_again cut (TransportLink k destination source) rest fits is ends =
    ap (λ (t : List ℕ). command_at cut (5 ∷ 4 ∷ t)) (regroup3 (key k) (eui destination) (eui source) rest)
    ∙ rw (
      key_again cut k (eui destination ++ (eui source ++ rest)) fits.0,
      eui_again cut destination (eui source ++ rest) fits.1,
      eui_again cut source rest fits.2,
    ) refl
command_again cut (Update device address status) rest fits is ends =
    ap (λ (t : List ℕ). command_at cut (6 ∷ t)) (regroup3 (eui device) (short address) (byte status) rest)
    ∙ rw (
      eui_again cut device (short address ++ (byte status ++ rest)) fits.0,
      short_again cut address (byte status ++ rest) fits.1,
    ) refl
command_again cut (Remove target) rest fits is ends = rw (eui_again cut target rest fits) refl
command_again cut (RequestApplication partner) rest fits is ends = rw (eui_again cut partner rest fits) refl
command_again cut RequestLink rest fits is ends = refl
command_again cut (Switch sequence) rest fits is ends = refl
command_again cut (Tunnel destination inner) rest fits is ends =
    ap (λ (t : List ℕ). command_at cut (14 ∷ t)) (regroup2 (eui destination) inner.items rest)
    ∙ rw (eui_again cut destination (inner.items ++ rest) fits, inner_again cut inner.items rest is ends) refl
command_again cut (Verify kind source hash) rest fits is ends =
    ap (λ (t : List ℕ). command_at cut (15 ∷ t)) (regroup3 (byte kind) (eui source) hash rest)
    ∙ rw (eui_again cut source (hash ++ rest) fits.1, bytes_again cut 16 hash rest fits.2) refl
command_again cut (Confirm status kind destination) rest fits is ends =
    ap (λ (t : List ℕ). command_at cut (16 ∷ t)) (regroup3 (byte status) (byte kind) (eui destination) rest)
    ∙ rw (eui_again cut destination rest fits.2) refl

-- a command of at most 127 bytes that nothing follows ends there
pub ends_whole : (c : Command) → length (command c) ≤ 127 → Ends c []
ends_whole (Tunnel destination inner) le = inr (refl, omega (arith, le, length-append (eui destination) inner.items))
ends_whole _ _ = tt

pub spelled_again : (bytes : List ℕ) (c : Command) → Spells bytes c → command_of bytes ≡ Ok c
unfolding command_of
spelled_again bytes c spells =
    let cut = error.Short (length bytes) in
    let reads : command_at cut bytes ≡ Ok (c, []) =
    ap (command_at cut) (spells.text ∙ sym (append-nil (command c))) ∙ command_again cut c [] spells.in_range
    spells.shaped (ends_whole c (subst (λ (b : List ℕ). length b ≤ 127) spells.text spells.fits)) in
    rw reads refl

-- a small command has at most 127 bytes
pub small_fits : (c : Command) → InRange c → IsSmall c → length (command c) ≤ 127
small_fits (TransportNetwork k sequence destination source) fits small =
    omega (
      arith,
      fits.0,
      length-append k.0 (byte sequence),
      length-append (key k ++ byte sequence) (eui destination),
      length-append (key k ++ byte sequence ++ eui destination) (eui source),
    )
small_fits (TransportApplication k partner initiator) fits small =
    omega (arith, fits.0, length-append k.0 (eui partner), length-append (key k ++ eui partner) (byte initiator))
small_fits (TransportLink k destination source) fits small =
    omega (arith, fits.0, length-append k.0 (eui destination), length-append (key k ++ eui destination) (eui source))
small_fits (Update device address status) fits small = omega arith
small_fits (Remove target) fits small = omega arith
small_fits (RequestApplication partner) fits small = omega arith
small_fits RequestLink fits small = omega arith
small_fits (Switch sequence) fits small = omega arith
small_fits (Tunnel destination inner) fits small = omega (arith, small, length-append (eui destination) inner.items)
small_fits (Verify kind source hash) fits small = omega (arith, fits.2, length-append (byte kind ++ eui source) hash)
small_fits (Confirm status kind destination) fits small = omega arith

pub leave_again : (cut : CmdError) (l : Leave) (rest : List ℕ) → leave_at cut (leave l ++ rest) ≡ Ok (l, rest)
unfolding leave_at leave_body
leave_again cut l rest = refl

pub leave_spelled_again : (bytes : List ℕ) (l : Leave) → SpellsLeave bytes l → leave_of bytes ≡ Ok l
unfolding leave_of
leave_spelled_again bytes l spells =
    let cut = error.Short (length bytes) in
    let reads : leave_at cut bytes ≡ Ok (l, []) = ap (leave_at cut) spells.text ∙ leave_again cut l [] in
    rw reads refl

pub spelled_whole : (bytes : List ℕ) (c : Command) (rest : List ℕ) → InRange c → IsCommand c → IsSmall c → bytes
    ≡ command c ++ rest → rest ≡ [] → Spells bytes c
spelled_whole bytes c rest fits is small parts nothing =
    let text : bytes ≡ command c = parts ∙ ap (λ (r : List ℕ). command c ++ r) nothing ∙ append-nil (command c) in
    record {
      in_range = fits;
      shaped = is;
      text = text;
      fits = subst (λ (b : List ℕ). length b ≤ 127) (sym text)
          (small_fits c fits small);
    }
