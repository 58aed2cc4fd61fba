-- The first fault on the walk is the fault that the bytes have.
use Rattle.std.proofs.Common.{◌≡◌, ◌≢◌, ℕ, Bool, true, false, eqb, List, [], ◌∷◌, ◌++◌, length, get_or, leb, Result, Ok, Err, refl, sym, ap, subst, ◌∙◌, arith, inl, inr, ◌⊎◌}
use Rattle.std.specs.Prelude.{◌&&◌}
use Rattle.std.proofs.lemmas.Bool.{ne_eqb}
use Rattle.std.proofs.lemmas.Bool.Decides.{eqb_tells}
use Rattle.std.proofs.lemmas.List.{append-nil}
use Rattle.zb_base.specs.declared.address.Eui.{Eui}
use Rattle.zb_base.specs.declared.key.Key.{Key}
use Rattle.zb_cursor.specs.Spelling.{IsBytes, eui, bit}
use Rattle.zb_cursor.proofs.ReadAgain.{eui_again}
use Rattle.zb_cmd.specs.declared.fault.CmdError.{CmdError}
use Rattle.zb_cmd.specs.declared.fault.CmdError.TheVariants as error
use Rattle.zb_cmd.specs.declared.command.Command.{Command}
use Rattle.zb_cmd.specs.declared.command.Command.TheVariants.{TransportNetwork, TransportApplication, TransportLink, Update, Remove, RequestApplication, RequestLink, Switch, Tunnel, Verify, Confirm}
use Rattle.zb_cmd.specs.declared.leave.Leave.{Leave}
use Rattle.zb_cmd.specs.Spelling.{command, leave}
use Rattle.zb_cmd.specs.Shape.{is_inner, IsSmall, Spells}
use Rattle.zb_cmd.specs.Reading.{transport_of, transport_at, request_of, request_at, inner_at, tunnel_at, body_of, command_at, command_of, leave_body, leave_at, leave_of}
use Rattle.zb_cmd.specs.Faults.{BeginsWith, CanGoOn, LacksNonce, TakesAll, HasFault, HasLeaveFault}
use Rattle.zb_cmd.proofs.ReadAgain.{inner_front, command_again, spelled_whole}
use Rattle.zb_cmd.proofs.ReadAgain
use Rattle.zb_cmd.proofs.Endings.{CommandCut, CommandWrong, CommandRead, command_end, begins_read}

and_false : (b : Bool) → (b && false) ≡ false
and_false true = refl
and_false false = refl

abbrev failed : CmdError → Result Command CmdError
failed e = Err e

err_is : (e f : CmdError) → failed e ≡ failed f → e ≡ f
err_is e f same = cc

abbrev read_as : Command → Result Command CmdError
read_as c = Ok c

pub ok_is : (c d : Command) → read_as c ≡ read_as d → c ≡ d
ok_is c d same = cc

takes_all : (c : Command) (x : ℕ) (rest : List ℕ) → (x ∷ rest ≡ []) ⊎ TakesAll c → TakesAll c
takes_all c x rest (inl never) = absurd cc
takes_all c x rest (inr takes) = takes

found_behind : (bytes : List ℕ) (e : CmdError) (c : Command) (rest : List ℕ) → command_of bytes ≡ Err e
    → ((cut : CmdError) → command_at cut bytes ≡ Ok (c, rest)) → BeginsWith bytes c rest → (rest ≡ []) ⊎ TakesAll c
    → HasFault bytes e
unfolding command_of
found_behind bytes e c [] given read begins ends = let same = rw (read (error.Short (length bytes))) at given in
    absurd cc
found_behind bytes e c (x ∷ rest) given read begins ends =
    let behind : eqb (length (x ∷ rest)) 0 ≡ false = ne_eqb _ _ (λ zero. absurd (omega (arith, zero))) in
    let same = rw (read (error.Short (length bytes)), behind) at given in
    subst (λ (f : CmdError). HasFault bytes f) (err_is (error.Trailing (length (x ∷ rest))) e same)
    (c, x ∷ rest, begins, takes_all c x rest ends, refl, omega arith)

pub fault_found : (bytes : List ℕ) → IsBytes bytes → (e : CmdError) → command_of bytes ≡ Err e → HasFault bytes e
unfolding command_of
fault_found bytes fits e given =
    let cut = error.Short (length bytes) in
    elim (command_end bytes fits) [
      | CommandCut short is_cut ↦
          let same = rw (short cut) at given in
          subst (λ (f : CmdError). HasFault bytes f) (err_is cut e same) (refl, is_cut)
      | CommandWrong f wrong has ↦
          let now : command_at cut bytes ≡ Err f = ap (command_at cut) (sym (append-nil bytes)) ∙ wrong cut [] in
          let same = rw now at given in
          subst (λ (g : CmdError). HasFault bytes g) (err_is f e same) has
      | CommandRead c rest read begins small ends ↦ found_behind bytes e c rest given read begins ends
    ]

not_inner : (xs : List ℕ) → bit (get_or xs 2 0) 5 ≡ false → is_inner xs ≡ false
not_inner xs plain = rw plain (and_false (leb 19 (length xs)))

-- a Tunnel without the extended nonce is cut, whatever the fault of a missing byte is
plain_cut : (cut : CmdError) (bytes : List ℕ) (destination : Eui) (inner : List ℕ)
    → LacksNonce bytes destination inner → command_at cut bytes ≡ Err cut
unfolding command_at body_of tunnel_at inner_at
plain_cut cut bytes destination inner lacks =
    let no_inner : is_inner inner ≡ false = not_inner inner lacks.plain in
    ap (command_at cut) lacks.parts ∙ rw (eui_again cut destination inner lacks.in_range, inner_front inner, no_inner)
    refl

stays_not : (bytes : List ℕ) (e : CmdError)
    → ((cut : CmdError) (more : List ℕ) → command_at cut (bytes ++ more) ≡ Err e) → CanGoOn bytes
    ⊎ ((destination : Eui) × (inner : List ℕ) × LacksNonce bytes destination inner) → ⊥
stays_not bytes e wrong (inl (more, c, begins)) =
    let cut = error.Unknown 0 in
    let t = begins_read cut (bytes ++ more) c [] begins in
    let read : command_at cut (bytes ++ more) ≡ Ok (t.0, t.1) = t.2 in
    let bad = wrong cut more in
    cc (read, bad)
stays_not bytes e wrong (inr (destination, inner, lacks)) =
    let one = sym (plain_cut (error.Unknown 0) bytes destination inner lacks) ∙ ap (command_at (error.Unknown 0))
    (sym (append-nil bytes)) ∙ wrong (error.Unknown 0) [] in
    let other = sym (plain_cut (error.KeyType 0) bytes destination inner lacks) ∙ ap (command_at (error.KeyType 0))
    (sym (append-nil bytes)) ∙ wrong (error.KeyType 0) [] in
    cc (one, other)

-- a command takes the bytes that it ends with
ends_there : (c : Command) (rest : List ℕ) → TakesAll c → ReadAgain.Ends c rest
ends_there (Tunnel destination inner) rest takes = inl takes
ends_there _ _ _ = tt

-- two known bytes at the start
pair : (a b c d : ℕ) (tail : List ℕ) → a ≡ c → b ≡ d → c ∷ d ∷ tail ≡ a ∷ b ∷ tail
pair a b c d tail p q = rw (p, q) refl

unknown_body : (cut : CmdError) (id : ℕ) (rest : List ℕ) → ((c : Command) (tail : List ℕ) → command c ≢ id ∷ tail)
    → command_at cut (id ∷ rest) ≡ Err (error.Unknown id)
unfolding command_at body_of
unknown_body cut id rest none =
    let k : Key = record { 0 = [] } in
    let e : Eui = record { 0 = 0 } in
    rw (
      ne_eqb id 5
          (λ is. none (TransportLink k e e) (4 ∷ (k.0 ++ eui e ++ eui e))
          (ap (λ n. n ∷ (4 ∷ (k.0 ++ eui e ++ eui e))) (sym is))),
      ne_eqb id 6
          (λ is. none (Update e (record { 0 = 0 }) 0) (eui e ++ (0 ∷ 0 ∷ 0 ∷ []))
          (ap (λ n. n ∷ (eui e ++ (0 ∷ 0 ∷ 0 ∷ []))) (sym is))),
      ne_eqb id 7 (λ is. none (Remove e) (eui e) (ap (λ n. n ∷ eui e) (sym is))),
      ne_eqb id 8 (λ is. none RequestLink (4 ∷ []) (ap (λ n. n ∷ 4 ∷ []) (sym is))),
      ne_eqb id 9 (λ is. none (Switch 0) (0 ∷ []) (ap (λ n. n ∷ 0 ∷ []) (sym is))),
      ne_eqb id 14
          (λ is. none (Tunnel e (record { items = [] })) (eui e ++ []) (ap (λ n. n ∷ (eui e ++ [])) (sym is))),
      ne_eqb id 15 (λ is. none (Verify 0 e []) (0 ∷ (eui e ++ [])) (ap (λ n. n ∷ (0 ∷ (eui e ++ []))) (sym is))),
      ne_eqb id 16 (λ is. none (Confirm 0 0 e) (0 ∷ 0 ∷ eui e) (ap (λ n. n ∷ 0 ∷ 0 ∷ eui e) (sym is))),
    ) refl

unknown_kind : (cut : CmdError) (id found : ℕ) (rest : List ℕ) → (id ≡ 5) ⊎ (id ≡ 8)
    → ((c : Command) (tail : List ℕ) → command c ≢ id ∷ found ∷ tail) → command_at cut (id ∷ found ∷ rest)
    ≡ Err (error.KeyType found)
unfolding command_at body_of transport_at transport_of request_at request_of
unknown_kind cut id found rest (inl five) none =
    let k : Key = record { 0 = [] } in
    let e : Eui = record { 0 = 0 } in
    rw (
      five,
      ne_eqb found 1
          (λ is. none (TransportNetwork k 0 e e) (0 ∷ (eui e ++ eui e))
          (pair id found 5 1 (0 ∷ (eui e ++ eui e)) five is)),
      ne_eqb found 3
          (λ is. none (TransportApplication k e 0) (eui e ++ (0 ∷ []))
          (pair id found 5 3 (eui e ++ (0 ∷ [])) five is)),
      ne_eqb found 4 (λ is. none (TransportLink k e e) (eui e ++ eui e) (pair id found 5 4 (eui e ++ eui e) five is)),
    ) refl
unknown_kind cut id found rest (inr eight) none =
    let e : Eui = record { 0 = 0 } in
    rw (
      eight,
      ne_eqb found 2 (λ is. none (RequestApplication e) (eui e) (pair id found 8 2 (eui e) eight is)),
      ne_eqb found 4 (λ is. none RequestLink [] (pair id found 8 4 [] eight is)),
    ) refl

pub fault_only : (bytes : List ℕ) → IsBytes bytes → (e : CmdError) → HasFault bytes e → command_of bytes ≡ Err e
unfolding command_of
fault_only bytes fits (error.Unknown id) (rest, parts, none) =
    let cut = error.Short (length bytes) in
    let read : command_at cut bytes ≡ Err (error.Unknown id) = ap (command_at cut) parts ∙ unknown_body cut id rest
    none in
    rw read refl
fault_only bytes fits (error.KeyType found) (id, rest, parts, which, none) =
    let cut = error.Short (length bytes) in
    let read : command_at cut bytes ≡ Err (error.KeyType found) = ap (command_at cut) parts ∙ unknown_kind cut id
    found rest which none in
    rw read refl
fault_only bytes fits (error.Short place) (at, is_cut) =
    elim (command_end bytes fits) [
      | CommandCut short other ↦ rw (short (error.Short (length bytes)), at) refl
      | CommandWrong e wrong has ↦ absurd (stays_not bytes e wrong is_cut.goes_on)
      | CommandRead c rest read begins small ends ↦ absurd (is_cut.no_command c rest begins)
    ]
fault_only bytes fits (error.Trailing count) (c, rest, begins, takes, is, some) =
    let cut = error.Short (length bytes) in
    let read : command_at cut bytes ≡ Ok (c, rest) = ap (command_at cut) begins.parts ∙ command_again cut c rest
    begins.in_range begins.shaped (ends_there c rest takes) in
    let behind : eqb (length rest) 0 ≡ false = ne_eqb _ _ (λ zero. absurd (omega (arith, zero, is, some))) in
    rw (read, behind, is) refl

whole_is_spelled : (bytes : List ℕ) (c d : Command) (rest : List ℕ) → command_of bytes ≡ Ok c
    → ((cut : CmdError) → command_at cut bytes ≡ Ok (d, rest)) → BeginsWith bytes d rest → IsSmall d → Spells bytes c
unfolding command_of
whole_is_spelled bytes c d [] given read begins small =
    let same = rw (read (error.Short (length bytes))) at given in
    subst (λ (f : Command). Spells bytes f) (ok_is d c same)
    (spelled_whole bytes d [] begins.in_range begins.shaped small begins.parts refl)
whole_is_spelled bytes c d (x ∷ rest) given read begins small =
    let behind : eqb (length (x ∷ rest)) 0 ≡ false = ne_eqb _ _ (λ zero. absurd (omega (arith, zero))) in
    let same = rw (read (error.Short (length bytes)), behind) at given in
    absurd cc

pub read_is_spelled : (bytes : List ℕ) → IsBytes bytes → (c : Command) → command_of bytes ≡ Ok c → Spells bytes c
unfolding command_of
read_is_spelled bytes fits c given =
    let cut = error.Short (length bytes) in
    elim (command_end bytes fits) [
      | CommandCut short is_cut ↦ let same = rw (short cut) at given in absurd cc
      | CommandWrong e wrong has ↦
          let now : command_at cut bytes ≡ Err e = ap (command_at cut) (sym (append-nil bytes)) ∙ wrong cut [] in
          let same = rw now at given in
          absurd cc
      | CommandRead d rest read begins small ends ↦ whole_is_spelled bytes c d rest given read begins small
    ]

-- ---- Leave

abbrev leave_failed : CmdError → Result Leave CmdError
leave_failed e = Err e

leave_err_is : (e f : CmdError) → leave_failed e ≡ leave_failed f → e ≡ f
leave_err_is e f same = cc

abbrev leave_as : Leave → Result Leave CmdError
leave_as l = Ok l

pub leave_ok_is : (l m : Leave) → leave_as l ≡ leave_as m → l ≡ m
leave_ok_is l m same = cc

of_four : (rest : List ℕ) (e : CmdError) → leave_of (4 ∷ rest) ≡ Err e → HasLeaveFault (4 ∷ rest) e
unfolding leave_of leave_at leave_body
of_four [] e given = subst (λ (f : CmdError). HasLeaveFault (4 ∷ []) f) (leave_err_is (error.Short 1) e given)
    (refl, inr refl)
of_four (options ∷ []) e given = absurd cc
of_four (options ∷ x ∷ rest) e given =
    let behind : eqb (length (x ∷ rest)) 0 ≡ false = ne_eqb _ _ (λ zero. absurd (omega (arith, zero))) in
    let same = rw behind at given in
    subst (λ (f : CmdError). HasLeaveFault (4 ∷ options ∷ x ∷ rest) f)
    (leave_err_is (error.Trailing (length (x ∷ rest))) e same)
    (record { options = options }, x ∷ rest, refl, refl, omega arith)

pub leave_fault_found : (bytes : List ℕ) (e : CmdError) → leave_of bytes ≡ Err e → HasLeaveFault bytes e
unfolding leave_of leave_at leave_body
leave_fault_found [] e given = subst (λ (f : CmdError). HasLeaveFault [] f) (leave_err_is (error.Short 0) e given)
    (refl, inl refl)
leave_fault_found (id ∷ rest) e given =
    elim (eqb_tells id 4) [
      | inl yes_four ↦ subst (λ (n : ℕ). HasLeaveFault (n ∷ rest) e) (sym yes_four.1)
          (of_four rest e (ap (λ (n : ℕ). leave_of (n ∷ rest)) (sym yes_four.1) ∙ given))
      | inr no_four ↦
          let same = rw no_four.0 at given in
          subst (λ (f : CmdError). HasLeaveFault (id ∷ rest) f) (leave_err_is (error.Unknown id) e same)
          (rest, refl, no_four.1)
    ]

pub leave_fault_only : (bytes : List ℕ) (e : CmdError) → HasLeaveFault bytes e → leave_of bytes ≡ Err e
unfolding leave_of leave_at leave_body
leave_fault_only bytes (error.Unknown id) (rest, parts, ne) = ap leave_of parts ∙ rw (ne_eqb id 4 ne) refl
leave_fault_only bytes (error.KeyType found) never = absurd never
leave_fault_only bytes (error.Short place) (at, inl nothing) =
    ap leave_of nothing ∙ ap (λ (n : ℕ). Err (error.Short n)) (sym (at ∙ ap (length {A = ℕ}) nothing))
leave_fault_only bytes (error.Short place) (at, inr one) = ap leave_of one ∙ ap (λ (n : ℕ). Err (error.Short n))
    (sym (at ∙ ap (length {A = ℕ}) one))
leave_fault_only bytes (error.Trailing count) (l, rest, parts, is, some) =
    let behind : eqb (length rest) 0 ≡ false = ne_eqb _ _ (λ zero. absurd (omega (arith, zero, is, some))) in
    ap leave_of parts ∙ rw (behind, is) refl

leave_whole : (bytes : List ℕ) (options : ℕ) (rest : List ℕ) (l : Leave) → leave_of (4 ∷ options ∷ rest) ≡ Ok l
    → leave l ≡ 4 ∷ options ∷ rest
unfolding leave_of leave_at leave_body
leave_whole bytes options [] l given = ap leave (leave_ok_is l (record { options = options }) (sym given))
leave_whole bytes options (x ∷ rest) l given =
    let behind : eqb (length (x ∷ rest)) 0 ≡ false = ne_eqb _ _ (λ zero. absurd (omega (arith, zero))) in
    let same = rw behind at given in
    absurd cc

of_four_read : (rest : List ℕ) (l : Leave) → leave_of (4 ∷ rest) ≡ Ok l → leave l ≡ 4 ∷ rest
unfolding leave_of leave_at leave_body
of_four_read [] l given = absurd cc
of_four_read (options ∷ rest) l given = leave_whole (4 ∷ options ∷ rest) options rest l given

pub leave_is_spelled : (bytes : List ℕ) (l : Leave) → leave_of bytes ≡ Ok l → leave l ≡ bytes
unfolding leave_of leave_at leave_body
leave_is_spelled [] l given = absurd cc
leave_is_spelled (id ∷ rest) l given =
    elim (eqb_tells id 4) [
      | inl yes_four ↦ of_four_read rest l (ap (λ (n : ℕ). leave_of (n ∷ rest)) (sym yes_four.1) ∙ given) ∙ ap
          (λ (n : ℕ). n ∷ rest) (sym yes_four.1)
      | inr no_four ↦ let same = rw no_four.0 at given in absurd cc
    ]
