-- How the reading of a command ends on any bytes: they are cut, have a fault that remains, or begin with a command.
use Rattle.std.proofs.Common.{◌≡◌, ◌≢◌, ℕ, suc, ◌-◌, ◌^◌, ◌<◌, Bool, true, false, leb, List, [], ◌∷◌, ◌++◌, length, get_or, take, drop, Ok, Err, refl, sym, ap, subst, ◌∙◌, append_assoc, arith, inl, inr, ◌⊎◌, length-append}
use Rattle.std.specs.Prelude.{min, replicate}
use Rattle.std.proofs.lemmas.Bool.{cases_lt, le-leb, lt-leb}
use Rattle.std.proofs.lemmas.Bool.Decides.{eqb_tells}
use Rattle.std.proofs.lemmas.List.{append-nil, take-append-drop, length-take, length-drop, length-replicate, get_or_append_left, nil_from_length}
use Rattle.zb_base.specs.declared.address.Eui.{Eui}
use Rattle.zb_cursor.specs.Spelling.{IsBytes, byte, short, eui, key, bit}
use Rattle.zb_cursor.specs.Reading.{Reading, eui_at}
use Rattle.zb_cursor.proofs.ReadAgain.{eui_again}
use Rattle.zb_cursor.proofs.Outcomes.{RunsOut, IsWrong, IsRead, read_now, Ends, then_ends, give_ends, byte_ends, short_ends, eui_ends, key_ends, row_ends}
use Rattle.zb_cmd.specs.declared.fault.CmdError.{CmdError}
use Rattle.zb_cmd.specs.declared.fault.CmdError.TheVariants as error
use Rattle.zb_cmd.specs.declared.command.Command.{Command}
use Rattle.zb_cmd.specs.declared.command.Command.TheVariants.{TransportNetwork, TransportApplication, TransportLink, Update, Remove, RequestApplication, RequestLink, Switch, Tunnel, Verify, Confirm}
use Rattle.zb_cmd.specs.Spelling.{command}
use Rattle.zb_cmd.specs.Shape.{is_inner, IsCommand, IsSmall, InRange}
use Rattle.zb_cmd.specs.Reading.{network_at, application_at, link_at, transport_of, transport_at, update_at, remove_at, partner_at, request_of, request_at, switch_at, inner_at, tunnel_at, verify_at, confirm_at, body_of, command_at}
use Rattle.zb_cmd.specs.Faults.{BeginsWith, IsCut, TakesAll, HasFault}
use Rattle.zb_cmd.proofs.ReadAgain.{regroup2, regroup3, regroup4, inner_front, command_again}

-- ---- bytes that begin with a command are read as one

not_inner : (xs : List ℕ) → length xs < 19 → is_inner xs ≡ true → ⊥
not_inner xs lt inner = let plain = rw (lt-leb _ _ lt) at inner in cc

-- the start of an inner frame doesn't change if bytes follow
pub inner_grows : (xs rest : List ℕ) → is_inner xs ≡ true → is_inner (xs ++ rest) ≡ true
inner_grows xs rest inner =
    elim (cases_lt (length xs) 19) [
      | inl lt ↦ absurd (not_inner xs lt inner)
      | inr le ↦
          let long : leb 19 (length xs) ≡ true = le-leb _ _ le in
          let longer : leb 19 (length (xs ++ rest)) ≡ true = le-leb _ _ (omega (arith, length-append xs rest)) in
          let third : get_or (xs ++ rest) 2 0 ≡ get_or xs 2 0 = get_or_append_left xs rest 0 2 (omega arith) in
          let plain = rw long at inner in
          rw (longer, third) plain
    ]

begins_tunnel : (cut : CmdError) (destination : Eui) (xs rest : List ℕ) → destination.0 < 2 ^ 64 → is_inner xs ≡ true
    → (d : Command) × (end : List ℕ) × (command_at cut ((14 ∷ (eui destination ++ xs)) ++ rest) ≡ Ok (d, end))
unfolding command_at body_of tunnel_at inner_at
begins_tunnel cut destination xs rest fits inner =
    let all = xs ++ rest in
    let n = min (length all) 118 in (
      Tunnel destination (record { items = take n all }),
      drop n all,
      ap (λ (t : List ℕ). command_at cut (14 ∷ t)) (regroup2 (eui destination) xs rest) ∙ rw
          (eui_again cut destination all fits, inner_front all, inner_grows xs rest inner) refl,
    )

-- the command that is read may be longer, if it is a Tunnel
pub begins_read : (cut : CmdError) (bytes : List ℕ) (c : Command) (rest : List ℕ) → BeginsWith bytes c rest
    → (d : Command) × (end : List ℕ) × (command_at cut bytes ≡ Ok (d, end))
begins_read cut bytes (Tunnel destination inner) rest begins =
    let t = begins_tunnel cut destination inner.items rest begins.in_range begins.shaped in
    (t.0, t.1, ap (command_at cut) begins.parts ∙ t.2)
begins_read cut bytes (TransportNetwork k sequence destination source) rest begins = (
  TransportNetwork k sequence destination source,
  rest,
  ap (command_at cut) begins.parts ∙ command_again cut
      (TransportNetwork k sequence destination source) rest begins.in_range tt tt,
)
begins_read cut bytes (TransportApplication k partner initiator) rest begins = (
  TransportApplication k partner initiator,
  rest,
  ap (command_at cut) begins.parts ∙ command_again cut
      (TransportApplication k partner initiator) rest begins.in_range tt tt,
)
begins_read cut bytes (TransportLink k destination source) rest begins = (
  TransportLink k destination source,
  rest,
  ap (command_at cut) begins.parts ∙ command_again cut
      (TransportLink k destination source) rest begins.in_range tt tt,
)
begins_read cut bytes (Update device address status) rest begins = (
  Update device address status,
  rest,
  ap (command_at cut) begins.parts ∙ command_again cut
      (Update device address status) rest begins.in_range tt tt,
)
begins_read cut bytes (Remove target) rest begins = (
  Remove target,
  rest,
  ap (command_at cut) begins.parts ∙ command_again cut (Remove target) rest begins.in_range tt
      tt,
)
begins_read cut bytes (RequestApplication partner) rest begins = (
  RequestApplication partner,
  rest,
  ap (command_at cut) begins.parts ∙ command_again cut
      (RequestApplication partner) rest begins.in_range tt tt,
)
begins_read cut bytes RequestLink rest begins =
    (RequestLink, rest, ap (command_at cut) begins.parts ∙ command_again cut RequestLink rest tt tt tt)
begins_read cut bytes (Switch sequence) rest begins = (
  Switch sequence,
  rest,
  ap (command_at cut) begins.parts ∙ command_again cut (Switch sequence) rest
      begins.in_range tt tt,
)
begins_read cut bytes (Verify kind source hash) rest begins = (
  Verify kind source hash,
  rest,
  ap (command_at cut) begins.parts ∙ command_again cut (Verify kind source hash)
      rest begins.in_range tt tt,
)
begins_read cut bytes (Confirm status kind destination) rest begins = (
  Confirm status kind destination,
  rest,
  ap (command_at cut) begins.parts ∙ command_again cut
      (Confirm status kind destination) rest begins.in_range tt tt,
)

pub no_command : (bytes : List ℕ) → ((cut : CmdError) → command_at cut bytes ≡ Err cut)
    → (c : Command) (rest : List ℕ) → BeginsWith bytes c rest → ⊥
no_command bytes short c rest begins =
    let cut = error.Unknown 0 in
    let t = begins_read cut bytes c rest begins in
    let read : command_at cut bytes ≡ Ok (t.0, t.1) = t.2 in
    cc (read, short cut)

-- ---- endings

pub data CommandEnd (bytes : List ℕ) : Type 0 where
  CommandCut : ((cut : CmdError) → command_at cut bytes ≡ Err cut) → IsCut bytes → CommandEnd bytes
  CommandWrong : (e : CmdError) → ((cut : CmdError) (more : List ℕ) → command_at cut (bytes ++ more) ≡ Err e)
      → HasFault bytes e → CommandEnd bytes
  CommandRead : (c : Command) (rest : List ℕ) → ((cut : CmdError) → command_at cut bytes ≡ Ok (c, rest))
      → BeginsWith bytes c rest → IsSmall c → (rest ≡ []) ⊎ TakesAll c → CommandEnd bytes

-- what the fields after a prefix spell
record Text (front text : List ℕ) (c : Command) : Type 0 where
  parts : front ++ text ≡ command c
  in_range : InRange c
  shaped : IsCommand c
  small : IsSmall c
  takes : TakesAll c

of_ends : (front : List ℕ) (read : Reading CmdError Command)
    → ((cut : CmdError) (rest : List ℕ) → command_at cut (front ++ rest) ≡ read cut rest)
    → Ends read (Text front) (λ r e. ⊥) → (rest : List ℕ) → IsBytes rest → CommandEnd (front ++ rest)
of_ends front read same ends rest fits =
    elim (ends.outcome rest fits) [
      | RunsOut more c short spelt ↦
          let cut_all : (cut : CmdError) → command_at cut (front ++ rest) ≡ Err cut =
          λ cut. same cut rest ∙ short cut in
          let parts : (front ++ rest) ++ more ≡ command c ++ [] = append_assoc front rest more ∙ spelt.parts ∙ sym
          (append-nil (command c)) in
          CommandCut cut_all
          (record {
            no_command = no_command (front ++ rest) cut_all;
            goes_on = inl (more, c, record { in_range = spelt.in_range; shaped = spelt.shaped; parts = parts });
          })
      | IsWrong e wrong never ↦ absurd never
      | IsRead c text end parts spelt reads ↦
          let whole : front ++ rest ≡ command c ++ end = ap (λ (r : List ℕ). front ++ r) parts ∙ sym
          (append_assoc front text end) ∙ ap (λ (t : List ℕ). t ++ end) spelt.parts in
          CommandRead c end (λ cut. same cut rest ∙ read_now read cut rest end c (reads cut))
          (record { in_range = spelt.in_range; shaped = spelt.shaped; parts = whole }) spelt.small
          (inr spelt.takes)
    ]

-- bytes that are cut before a field for which a spelling exists
of_text : (bytes : List ℕ) → ((cut : CmdError) → command_at cut bytes ≡ Err cut) → (c : Command) (more : List ℕ)
    → InRange c → IsCommand c → bytes ++ more ≡ command c → CommandEnd bytes
of_text bytes short c more fits is parts =
    CommandCut short
    (record {
      no_command = no_command bytes short;
      goes_on = inl (more, c, record { in_range = fits; shaped = is; parts = parts ∙ sym (append-nil (command c)) });
    })

module _ {Wrong : List ℕ → CmdError → Type 0} where
  network_ends : Ends network_at (Text (5 ∷ 1 ∷ [])) Wrong
  unfolding network_at
  network_ends =
      then_ends key_ends
      (λ k t0 s0. then_ends byte_ends
      (λ sequence t1 s1. then_ends eui_ends (λ destination t2 s2. then_ends eui_ends (λ source t3 s3.
      give_ends (TransportNetwork k sequence destination source) (record {
        parts =
            ap (λ (t : List ℕ). 5 ∷ 1 ∷ t)
            (rw (s0.0, s1.0, s2.0, s3.0)
            (sym (regroup4 (key k) (byte sequence) (eui destination) (eui source) []) ∙ append-nil
            (key k ++ byte sequence ++ eui destination ++ eui source)));
        in_range = (s0.1, s1.1, s2.1, s3.1);
        shaped = tt;
        small = tt;
        takes = tt;
      })))))

  application_ends : Ends application_at (Text (5 ∷ 3 ∷ [])) Wrong
  unfolding application_at
  application_ends =
      then_ends key_ends (λ k t0 s0. then_ends eui_ends (λ partner t1 s1. then_ends byte_ends (λ initiator t2 s2.
      give_ends (TransportApplication k partner initiator) (record {
        parts =
            ap (λ (t : List ℕ). 5 ∷ 3 ∷ t)
            (rw (s0.0, s1.0, s2.0)
            (sym (regroup3 (key k) (eui partner) (byte initiator) []) ∙ append-nil
            (key k ++ eui partner ++ byte initiator)));
        in_range = (s0.1, s1.1, s2.1);
        shaped = tt;
        small = tt;
        takes = tt;
      }))))

  link_ends : Ends link_at (Text (5 ∷ 4 ∷ [])) Wrong
  unfolding link_at
  link_ends =
      then_ends key_ends (λ k t0 s0. then_ends eui_ends (λ destination t1 s1. then_ends eui_ends (λ source t2 s2.
      give_ends (TransportLink k destination source) (record {
        parts =
            ap (λ (t : List ℕ). 5 ∷ 4 ∷ t)
            (rw (s0.0, s1.0, s2.0)
            (sym (regroup3 (key k) (eui destination) (eui source) []) ∙ append-nil
            (key k ++ eui destination ++ eui source)));
        in_range = (s0.1, s1.1, s2.1);
        shaped = tt;
        small = tt;
        takes = tt;
      }))))

  update_ends : Ends update_at (Text (6 ∷ [])) Wrong
  unfolding update_at
  update_ends =
      then_ends eui_ends (λ device t0 s0. then_ends short_ends (λ address t1 s1. then_ends byte_ends (λ status t2 s2.
      give_ends (Update device address status) (record {
        parts =
            ap (λ (t : List ℕ). 6 ∷ t)
            (rw (s0.0, s1.0, s2.0)
            (sym (regroup3 (eui device) (short address) (byte status) []) ∙ append-nil
            (eui device ++ short address ++ byte status)));
        in_range = (s0.1, s1.1, s2.1);
        shaped = tt;
        small = tt;
        takes = tt;
      }))))

  remove_ends : Ends remove_at (Text (7 ∷ [])) Wrong
  unfolding remove_at
  remove_ends =
      then_ends eui_ends
      (λ target t0 s0. give_ends (Remove target)
      (record {
        parts = ap (λ (t : List ℕ). 7 ∷ t) (rw s0.0 (append-nil (eui target)));
        in_range = s0.1;
        shaped = tt;
        small = tt;
        takes = tt;
      }))

  partner_ends : Ends partner_at (Text (8 ∷ 2 ∷ [])) Wrong
  unfolding partner_at
  partner_ends =
      then_ends eui_ends
      (λ partner t0 s0. give_ends (RequestApplication partner)
      (record {
        parts = ap (λ (t : List ℕ). 8 ∷ 2 ∷ t) (rw s0.0 (append-nil (eui partner)));
        in_range = s0.1;
        shaped = tt;
        small = tt;
        takes = tt;
      }))

  switch_ends : Ends switch_at (Text (9 ∷ [])) Wrong
  unfolding switch_at
  switch_ends =
      then_ends byte_ends
      (λ sequence t0 s0. give_ends (Switch sequence)
      (record {
        parts = ap (λ (t : List ℕ). 9 ∷ t) (rw s0.0 refl);
        in_range = s0.1;
        shaped = tt;
        small = tt;
        takes = tt;
      }))

  verify_ends : Ends verify_at (Text (15 ∷ [])) Wrong
  unfolding verify_at
  verify_ends =
      then_ends byte_ends (λ kind t0 s0. then_ends eui_ends (λ source t1 s1. then_ends (row_ends 16) (λ hash t2 s2.
      give_ends (Verify kind source hash) (record {
        parts =
            ap (λ (t : List ℕ). 15 ∷ t)
            (rw (s0.0, s1.0, s2.0)
            (sym (regroup3 (byte kind) (eui source) hash []) ∙ append-nil (byte kind ++ eui source ++ hash)));
        in_range = (s0.1, s1.1, s2.1);
        shaped = tt;
        small = tt;
        takes = tt;
      }))))

  confirm_ends : Ends confirm_at (Text (16 ∷ [])) Wrong
  unfolding confirm_at
  confirm_ends =
      then_ends byte_ends (λ status t0 s0. then_ends byte_ends (λ kind t1 s1. then_ends eui_ends (λ destination t2 s2.
      give_ends (Confirm status kind destination) (record {
        parts =
            ap (λ (t : List ℕ). 16 ∷ t)
            (rw (s0.0, s1.0, s2.0)
            (sym (regroup3 (byte status) (byte kind) (eui destination) []) ∙ append-nil
            (byte status ++ byte kind ++ eui destination)));
        in_range = (s0.1, s1.1, s2.1);
        shaped = tt;
        small = tt;
        takes = tt;
      }))))

-- ---- the key types of Transport-Key and Request-Key

no_transport : (kind : ℕ) → kind ≢ 1 → kind ≢ 3 → kind ≢ 4 → (c : Command) (tail : List ℕ) → command c ≡ 5 ∷ kind
    ∷ tail → ⊥
no_transport kind one three four (TransportNetwork k sequence destination source) tail e = one cc
no_transport kind one three four (TransportApplication k partner initiator) tail e = three cc
no_transport kind one three four (TransportLink k destination source) tail e = four cc
no_transport kind one three four (Update device address status) tail e = cc
no_transport kind one three four (Remove target) tail e = cc
no_transport kind one three four (RequestApplication partner) tail e = cc
no_transport kind one three four RequestLink tail e = cc
no_transport kind one three four (Switch sequence) tail e = cc
no_transport kind one three four (Tunnel destination inner) tail e = cc
no_transport kind one three four (Verify kind2 source hash) tail e = cc
no_transport kind one three four (Confirm status kind2 destination) tail e = cc

no_request : (kind : ℕ) → kind ≢ 2 → kind ≢ 4 → (c : Command) (tail : List ℕ) → command c ≡ 8 ∷ kind ∷ tail → ⊥
no_request kind two four (TransportNetwork k sequence destination source) tail e = cc
no_request kind two four (TransportApplication k partner initiator) tail e = cc
no_request kind two four (TransportLink k destination source) tail e = cc
no_request kind two four (Update device address status) tail e = cc
no_request kind two four (Remove target) tail e = cc
no_request kind two four (RequestApplication partner) tail e = two cc
no_request kind two four RequestLink tail e = four cc
no_request kind two four (Switch sequence) tail e = cc
no_request kind two four (Tunnel destination inner) tail e = cc
no_request kind two four (Verify kind2 source hash) tail e = cc
no_request kind two four (Confirm status kind2 destination) tail e = cc

transport_end : (kind : ℕ) (rest : List ℕ) → IsBytes rest → CommandEnd (5 ∷ kind ∷ rest)
unfolding command_at body_of transport_at transport_of
transport_end kind rest fits =
    elim (eqb_tells kind 1) [
      | inl yes_one ↦ subst (λ (k : ℕ). CommandEnd (5 ∷ k ∷ rest)) (sym yes_one.1)
          (of_ends (5 ∷ 1 ∷ []) network_at (λ cut r. refl) network_ends rest fits)
      | inr one ↦
          elim (eqb_tells kind 3) [
            | inl yes_three ↦ subst (λ (k : ℕ). CommandEnd (5 ∷ k ∷ rest)) (sym yes_three.1)
                (of_ends (5 ∷ 3 ∷ []) application_at (λ cut r. refl) application_ends rest fits)
            | inr three ↦
                elim (eqb_tells kind 4) [
                  | inl yes_four ↦ subst (λ (k : ℕ). CommandEnd (5 ∷ k ∷ rest)) (sym yes_four.1)
                      (of_ends (5 ∷ 4 ∷ []) link_at (λ cut r. refl) link_ends rest fits)
                  | inr four ↦
                      CommandWrong (error.KeyType kind) (λ cut more. rw (one.0, three.0, four.0) refl)
                      (5, rest, refl, inl refl, no_transport kind one.1 three.1 four.1)
                ]
          ]
    ]

request_end : (kind : ℕ) (rest : List ℕ) → IsBytes rest → CommandEnd (8 ∷ kind ∷ rest)
unfolding command_at body_of request_at request_of
request_end kind rest fits =
    elim (eqb_tells kind 2) [
      | inl yes_two ↦ subst (λ (k : ℕ). CommandEnd (8 ∷ k ∷ rest)) (sym yes_two.1)
          (of_ends (8 ∷ 2 ∷ []) partner_at (λ cut r. refl) partner_ends rest fits)
      | inr two ↦
          elim (eqb_tells kind 4) [
            | inl yes_four ↦
                subst (λ (k : ℕ). CommandEnd (8 ∷ k ∷ rest)) (sym yes_four.1)
                (CommandRead RequestLink rest (λ cut. refl) (record { in_range = tt; shaped = tt; parts = refl }) tt
                (inr tt))
            | inr four ↦
                CommandWrong (error.KeyType kind) (λ cut more. rw (two.0, four.0) refl)
                (8, rest, refl, inr refl, no_request kind two.1 four.1)
          ]
    ]

-- ---- Tunnel

module _ (rest : List ℕ) (destination : Eui) (fits : destination.0 < 2 ^ 64) where
  longer : (inner more : List ℕ) → rest ≡ eui destination ++ inner → (14 ∷ rest) ++ more
      ≡ command (Tunnel destination (record { items = inner ++ more }))
  longer inner more parts =
      ap (λ (r : List ℕ). 14 ∷ r) (ap (λ (r : List ℕ). r ++ more) parts ∙ append_assoc (eui destination) inner more)

  third : (a b c : ℕ) (t : List ℕ) → rest ≡ eui destination ++ (a ∷ b ∷ c ∷ t)
      → ((cut : CmdError) → command_at cut (14 ∷ rest) ≡ Err cut) → is_inner (a ∷ b ∷ c ∷ t) ≡ false → (s : Bool)
      → bit c 5 ≡ s → CommandEnd (14 ∷ rest)
  third a b c t parts short e false plain =
      CommandCut short (record {
        no_command = no_command (14 ∷ rest) short;
        goes_on =
            inr (
              destination,
              a ∷ b ∷ c
                  ∷ t,
              record {
                parts = ap (λ (r : List ℕ). 14 ∷ r) parts;
                in_range = fits;
                judged = omega arith;
                plain = plain;
              },
            );
      })
  third a b c t parts short e true extended =
      let inner : List ℕ = a ∷ b ∷ c ∷ t in
      elim (cases_lt (length inner) 19) [
        | inl lt ↦
            let more : List ℕ = replicate (19 - length inner) 0 in
            let long : leb 19 (length (inner ++ more)) ≡ true =
            le-leb _ _ (omega (arith, length-append inner more, length-replicate {A = ℕ} (19 - length inner) 0)) in
            of_text (14 ∷ rest) short (Tunnel destination (record { items = inner ++ more })) more fits
            (rw (long, extended) refl) (longer inner more parts)
        | inr le ↦ let whole = rw (le-leb _ _ le, extended) at e in absurd cc
      ]

  -- an inner frame that is cut, or has no extended nonce
  inner_cut : (inner : List ℕ) → rest ≡ eui destination ++ inner
      → ((cut : CmdError) → command_at cut (14 ∷ rest) ≡ Err cut) → is_inner inner ≡ false → CommandEnd (14 ∷ rest)
  inner_cut [] parts short e =
      of_text (14 ∷ rest) short (Tunnel destination (record { items = 0 ∷ 0 ∷ 32 ∷ replicate 16 0 }))
      (0 ∷ 0 ∷ 32 ∷ replicate 16 0) fits refl (longer [] (0 ∷ 0 ∷ 32 ∷ replicate 16 0) parts)
  inner_cut (a ∷ []) parts short e =
      of_text (14 ∷ rest) short (Tunnel destination (record { items = a ∷ 0 ∷ 32 ∷ replicate 16 0 }))
      (0 ∷ 32 ∷ replicate 16 0) fits refl (longer (a ∷ []) (0 ∷ 32 ∷ replicate 16 0) parts)
  inner_cut (a ∷ b ∷ []) parts short e =
      of_text (14 ∷ rest) short (Tunnel destination (record { items = a ∷ b ∷ 32 ∷ replicate 16 0 }))
      (32 ∷ replicate 16 0) fits refl (longer (a ∷ b ∷ []) (32 ∷ replicate 16 0) parts)
  inner_cut (a ∷ b ∷ c ∷ t) parts short e = third a b c t parts short e (bit c 5) refl

  inner_end : (inner : List ℕ) → rest ≡ eui destination ++ inner
      → ((cut : CmdError) → eui_at cut rest ≡ Ok (destination, inner)) → (s : Bool) → is_inner inner ≡ s
      → CommandEnd (14 ∷ rest)
  unfolding command_at body_of tunnel_at inner_at
  inner_end inner parts read false e = inner_cut inner parts (λ cut. rw (read cut, inner_front inner, e) refl) e
  inner_end inner parts read true e =
      let n = min (length inner) 118 in
      CommandRead (Tunnel destination (record { items = take n inner })) (drop n inner)
      (λ cut. rw (read cut, inner_front inner, e) refl)
      (record {
        in_range = fits;
        shaped = inner_front inner ∙ e;
        parts =
            ap (λ (r : List ℕ). 14 ∷ r)
            (parts ∙ ap (λ (r : List ℕ). eui destination ++ r) (sym (take-append-drop n inner)) ∙ sym
            (append_assoc (eui destination) (take n inner) (drop n inner)));
      })
      (omega (arith, length-take n inner))
      (elim (cases_lt 118 (length inner)) [
        | inl lt ↦ inr (omega (arith, length-take n inner))
        | inr le ↦ inl (nil_from_length (drop n inner) (omega (arith, length-drop n inner)))
      ])

tunnel_end : (rest : List ℕ) → IsBytes rest → CommandEnd (14 ∷ rest)
unfolding command_at body_of tunnel_at
tunnel_end rest fits =
    elim ((eui_ends {E = CmdError} {Wrong = λ r e. ⊥}).outcome rest fits) [
      | RunsOut more destination short spelt ↦
          let inner : List ℕ = 0 ∷ 0 ∷ 32 ∷ replicate 16 0 in
          of_text (14 ∷ rest) (λ cut. rw (short cut) refl) (Tunnel destination (record { items = inner }))
          (more ++ inner) spelt.1 refl
          (ap (λ (r : List ℕ). 14 ∷ r) (sym (append_assoc rest more inner) ∙ ap (λ (t : List ℕ). t ++ inner) spelt.0))
      | IsWrong e wrong never ↦ absurd never
      | IsRead destination text inner parts spelt reads ↦
          inner_end rest destination spelt.1 inner (parts ∙ ap (λ (t : List ℕ). t ++ inner) spelt.0)
          (λ cut. read_now eui_at cut rest inner destination (reads cut)) (is_inner inner) refl
    ]

-- ---- all commands

no_body : (id : ℕ) → id ≢ 5 → id ≢ 6 → id ≢ 7 → id ≢ 8 → id ≢ 9 → id ≢ 14 → id ≢ 15 → id ≢ 16
    → (c : Command) (tail : List ℕ) → command c ≡ id ∷ tail → ⊥
no_body id n5 n6 n7 n8 n9 n14 n15 n16 (TransportNetwork k sequence destination source) tail e = n5 cc
no_body id n5 n6 n7 n8 n9 n14 n15 n16 (TransportApplication k partner initiator) tail e = n5 cc
no_body id n5 n6 n7 n8 n9 n14 n15 n16 (TransportLink k destination source) tail e = n5 cc
no_body id n5 n6 n7 n8 n9 n14 n15 n16 (Update device address status) tail e = n6 cc
no_body id n5 n6 n7 n8 n9 n14 n15 n16 (Remove target) tail e = n7 cc
no_body id n5 n6 n7 n8 n9 n14 n15 n16 (RequestApplication partner) tail e = n8 cc
no_body id n5 n6 n7 n8 n9 n14 n15 n16 RequestLink tail e = n8 cc
no_body id n5 n6 n7 n8 n9 n14 n15 n16 (Switch sequence) tail e = n9 cc
no_body id n5 n6 n7 n8 n9 n14 n15 n16 (Tunnel destination inner) tail e = n14 cc
no_body id n5 n6 n7 n8 n9 n14 n15 n16 (Verify kind source hash) tail e = n15 cc
no_body id n5 n6 n7 n8 n9 n14 n15 n16 (Confirm status kind destination) tail e = n16 cc

transport_front : (rest : List ℕ) → IsBytes rest → CommandEnd (5 ∷ rest)
unfolding command_at body_of transport_at
transport_front [] fits = let t = (network_ends {Wrong = λ r e. ⊥}).text in of_text (5 ∷ []) (λ cut. refl) t.value
    (1 ∷ t.text) t.spelt.in_range t.spelt.shaped t.spelt.parts
transport_front (kind ∷ rest) fits = transport_end kind rest (λ i. fits (suc i))

request_front : (rest : List ℕ) → IsBytes rest → CommandEnd (8 ∷ rest)
unfolding command_at body_of request_at
request_front [] fits = of_text (8 ∷ []) (λ cut. refl) RequestLink (4 ∷ []) tt tt refl
request_front (kind ∷ rest) fits = request_end kind rest (λ i. fits (suc i))

body_end : (id : ℕ) (rest : List ℕ) → IsBytes rest → CommandEnd (id ∷ rest)
unfolding command_at body_of
body_end id rest fits =
    elim (eqb_tells id 5) [
      | inl yes5 ↦ subst (λ (k : ℕ). CommandEnd (k ∷ rest)) (sym yes5.1) (transport_front rest fits)
      | inr n5 ↦
          elim (eqb_tells id 6) [
            | inl yes6 ↦ subst (λ (k : ℕ). CommandEnd (k ∷ rest)) (sym yes6.1)
                (of_ends (6 ∷ []) update_at (λ cut r. refl) update_ends rest fits)
            | inr n6 ↦
                elim (eqb_tells id 7) [
                  | inl yes7 ↦ subst (λ (k : ℕ). CommandEnd (k ∷ rest)) (sym yes7.1)
                      (of_ends (7 ∷ []) remove_at (λ cut r. refl) remove_ends rest fits)
                  | inr n7 ↦
                      elim (eqb_tells id 8) [
                        | inl yes8 ↦ subst (λ (k : ℕ). CommandEnd (k ∷ rest)) (sym yes8.1) (request_front rest fits)
                        | inr n8 ↦
                            elim (eqb_tells id 9) [
                              | inl yes9 ↦ subst (λ (k : ℕ). CommandEnd (k ∷ rest)) (sym yes9.1)
                                  (of_ends (9 ∷ []) switch_at (λ cut r. refl) switch_ends rest fits)
                              | inr n9 ↦
                                  elim (eqb_tells id 14) [
                                    | inl yes14 ↦ subst (λ (k : ℕ). CommandEnd (k ∷ rest)) (sym yes14.1)
                                        (tunnel_end rest fits)
                                    | inr n14 ↦
                                        elim (eqb_tells id 15) [
                                          | inl yes15 ↦ subst (λ (k : ℕ). CommandEnd (k ∷ rest)) (sym yes15.1)
                                              (of_ends (15 ∷ []) verify_at (λ cut r. refl) verify_ends rest fits)
                                          | inr n15 ↦
                                              elim (eqb_tells id 16) [
                                                | inl yes16 ↦ subst (λ (k : ℕ). CommandEnd (k ∷ rest)) (sym yes16.1)
                                                    (of_ends (16 ∷ []) confirm_at (λ cut r. refl) confirm_ends rest
                                                    fits)
                                                | inr n16 ↦
                                                    CommandWrong (error.Unknown id)
                                                    (λ cut more. rw
                                                    (n5.0, n6.0, n7.0, n8.0, n9.0, n14.0, n15.0, n16.0) refl) (
                                                      rest,
                                                      refl,
                                                      no_body id n5.1 n6.1 n7.1 n8.1 n9.1 n14.1 n15.1
                                                          n16.1,
                                                    )
                                              ]
                                        ]
                                  ]
                            ]
                      ]
                ]
          ]
    ]

pub command_end : (bytes : List ℕ) → IsBytes bytes → CommandEnd bytes
unfolding command_at
command_end [] fits = of_text [] (λ cut. refl) RequestLink (8 ∷ 4 ∷ []) tt tt refl
command_end (id ∷ rest) fits = body_end id rest (λ i. fits (suc i))
