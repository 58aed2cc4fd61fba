-- What was read is read again if more bytes come after it, and nothing is left that wasn't there.
use Rattle.std.proofs.Common.{◌≡◌, ℕ, ◌≤◌, Bool, true, false, List, [], ◌∷◌, ◌++◌, length, take, drop, Option, Some, None, Result, Ok, Err, refl, ap, arith, length-append, length-drop, if◌then◌else◌}
use Rattle.std.specs.Int.{Width, w32, w64, byte_len, from_le_bytes}
use Rattle.std.specs.Prelude.{nat_lt, ◌==◌}
use Rattle.std.proofs.lemmas.Bool.{le-ltb, ltb-false}
use Rattle.std.proofs.lemmas.List.{take-append-le, drop-append-le}
use Rattle.zb_base.specs.declared.address.Eui.{Eui}
use Rattle.zb_base.specs.declared.key.Key.{Key}
use Rattle.zb_cursor.specs.Reading.{Reading, follow, ◌>>=◌, give, byte_at, bytes_at, number_at, eui_at, key_at}
use Rattle.zb_record.specs.Fields.{chosen, layer_of, attribute_of, state_of, rollover_of, layer_at, attribute_at, state_at, rollover_at}
use Rattle.zb_record.specs.Changes.{reserve_at, floor_at, drop_net_at, drop_link_at, install_at, active_at, row_at, became_at, roll_at, told_at, untold_at, live_at, removed_at, start_at, pair_at, later_of, fields_of, change_at}

-- the value and the bytes after it
abbrev pub found : {E A : Type 0} → A → List ℕ → Result (A × List ℕ) E
found x rest = Ok (x, rest)

-- whatever the fault of a missing byte
abbrev pub Steady : {E A : Type 0} → Reading E A → Type 0
Steady {E} {A} read = (cut : E) (bytes rest : List ℕ) (x : A) → read cut bytes ≡ found x rest
    → (length rest ≤ length bytes)
    × ((other : E) (more : List ℕ) → read other (bytes ++ more) ≡ found x (rest ++ more))

-- more bytes after those that are left
with_more : {E A : Type 0} → List ℕ → Result (A × List ℕ) E → Result (A × List ℕ) E
with_more more (Ok x) = Ok (x.0, x.1 ++ more)
with_more more (Err e) = Err e

onto : {E A : Type 0} (x y : A) (one two more : List ℕ) → found {E = E} x one ≡ found y two
    → found {E = E} x (one ++ more) ≡ found y (two ++ more)
unfolding with_more
onto x y one two more e = ap (with_more more) e

left_of : {E A : Type 0} → Result (A × List ℕ) E → List ℕ
left_of (Ok x) = x.1
left_of (Err e) = []

same_left : {E A : Type 0} (x y : A) (one two : List ℕ) → found {E = E} x one ≡ found y two → one ≡ two
unfolding left_of
same_left x y one two e = ap left_of e

never : {E A : Type 0} {C : Type 0} (f : E) (x : A) (rest : List ℕ) → Err f ≡ found x rest → C
never f x rest e = absurd (cc)

pub then_steady : {E A B : Type 0} {first : Reading E A} {next : A → Reading E B} → Steady first
    → ((x : A) → Steady (next x)) → Steady (first >>= next)
then_steady {E = E} {A = A} {B = B} {first = first} {next = next} one two cut bytes rest y e =
    by_first (first cut bytes) refl e
  where
    by_first : (r : Result (A × List ℕ) E) → first cut bytes ≡ r → follow r (λ x behind. next x cut behind)
        ≡ found y rest
        → (length rest ≤ length bytes)
        × ((other : E) (more : List ℕ) → follow (first other (bytes ++ more)) (λ x behind. next x other behind)
        ≡ found y (rest ++ more))
    by_first (Ok x) is e =
        let a = one cut bytes x.1 x.0 is in
        let b = two x.0 cut x.1 rest y e in
        (omega (arith, a.0, b.0), λ other more. rw (a.1 other more) (b.1 other more))
    by_first (Err f) is e = never f y rest e

pub give_steady : {E A : Type 0} (x : A) → Steady {E = E} (give x)
give_steady {E} {A} x cut bytes rest y e =
    (omega (arith, ap (length {A = ℕ}) (same_left {E = E} x y bytes rest e)), λ other more. onto x y bytes rest more e)

pub byte_steady : {E : Type 0} → Steady {E = E} byte_at
byte_steady cut [] rest x e = never cut x rest e
byte_steady {E} cut (b ∷ bytes) rest x e =
    (omega (arith, ap (length {A = ℕ}) (same_left {E = E} b x bytes rest e)), λ other more. onto b x bytes rest more e)

pub bytes_steady : {E : Type 0} (n : ℕ) → Steady {E = E} (bytes_at n)
unfolding bytes_at
bytes_steady {E = E} n cut bytes rest x e = by_test (nat_lt (length bytes) n) refl e
  where
    by_test : (b : Bool) → nat_lt (length bytes) n ≡ b → (if b then Err cut else found (take n bytes) (drop n bytes))
        ≡ found x rest
        → (length rest ≤ length bytes)
        × ((other : E) (more : List ℕ) → (if nat_lt (length (bytes ++ more)) n then Err other
        else found (take n (bytes ++ more)) (drop n (bytes ++ more))) ≡ found x (rest ++ more))
    by_test true is e = never cut x rest e
    by_test false is e =
        let le : n ≤ length bytes = ltb-false _ _ is in
        let here = same_left {E = E} (take n bytes) x (drop n bytes) rest e in (
          omega (arith, ap (length {A = ℕ}) here, length-drop n bytes),
          λ other more.
              let long : nat_lt (length (bytes ++ more)) n ≡ false =
              le-ltb _ _ (omega (arith, le, length-append bytes more)) in
              rw (long, take-append-le n bytes more le, drop-append-le n bytes more le)
              (onto (take n bytes) x (drop n bytes) rest more e),
        )

pub number_steady : {E : Type 0} (w : Width) → Steady {E = E} (number_at w)
unfolding number_at
number_steady {E = E} w cut bytes rest x e = by_test (nat_lt (length bytes) (byte_len w)) refl e
  where
    by_test : (b : Bool) → nat_lt (length bytes) (byte_len w) ≡ b
        → (if b then Err cut else found (from_le_bytes w (take (byte_len w) bytes)) (drop (byte_len w) bytes))
        ≡ found x rest
        → (length rest ≤ length bytes)
        × ((other : E) (more : List ℕ) → (if nat_lt (length (bytes ++ more)) (byte_len w) then Err other
        else found (from_le_bytes w (take (byte_len w) (bytes ++ more))) (drop (byte_len w) (bytes ++ more)))
        ≡ found x (rest ++ more))
    by_test true is e = never cut x rest e
    by_test false is e =
        let le : byte_len w ≤ length bytes = ltb-false _ _ is in
        let here = same_left {E = E} (from_le_bytes w (take (byte_len w) bytes)) x (drop (byte_len w) bytes)
        rest e in (
          omega (arith, ap (length {A = ℕ}) here, length-drop (byte_len w) bytes),
          λ other more.
              let long : nat_lt (length (bytes ++ more)) (byte_len w) ≡ false =
              le-ltb _ _ (omega (arith, le, length-append bytes more)) in
              rw (long, take-append-le (byte_len w) bytes more le, drop-append-le (byte_len w) bytes more le)
              (onto (from_le_bytes w (take (byte_len w) bytes)) x (drop (byte_len w) bytes) rest more e),
        )

pub eui_steady : {E : Type 0} → Steady {E = E} eui_at
unfolding eui_at
eui_steady = then_steady (number_steady w64) (λ n. give_steady {A = Eui} (record { 0 = n }))

pub key_steady : {E : Type 0} → Steady {E = E} key_at
unfolding key_at
key_steady = then_steady (bytes_steady 16) (λ xs. give_steady {A = Key} (record { 0 = xs }))

chosen_steady : {E A : Type 0} (o : Option A) → Steady {E = E} (chosen o)
chosen_steady None cut bytes rest x e = never cut x rest e
chosen_steady {E} {A} (Some y) cut bytes rest x e =
    (omega (arith, ap (length {A = ℕ}) (same_left {E = E} y x bytes rest e)), λ other more. onto y x bytes rest more e)

layer_steady : {E : Type 0} → Steady {E = E} layer_at
unfolding layer_at
layer_steady = then_steady byte_steady (λ b. chosen_steady (layer_of b))

attribute_steady : {E : Type 0} → Steady {E = E} attribute_at
unfolding attribute_at
attribute_steady = then_steady byte_steady (λ b. chosen_steady (attribute_of b))

state_steady : {E : Type 0} → Steady {E = E} state_at
unfolding state_at
state_steady = then_steady byte_steady (λ b. chosen_steady (state_of b))

rollover_steady : {E : Type 0} → Steady {E = E} rollover_at
unfolding rollover_at
rollover_steady = then_steady byte_steady (λ b. chosen_steady (rollover_of b))

-- if a test chooses between two
either : {E A : Type 0} {one two : Reading E A} (b : Bool) → Steady one → Steady two
    → Steady (λ cut bytes. if b then one cut bytes else two cut bytes)
either true p q = p
either false p q = q

none_steady : {E A : Type 0} → Steady {E = E} {A = A} (λ cut bytes. Err cut)
none_steady cut bytes rest x e = never cut x rest e

later_steady : {E : Type 0} (kind : ℕ) → Steady {E = E} (later_of kind)
unfolding later_of became_at roll_at told_at untold_at live_at removed_at start_at pair_at
later_steady kind =
    either (kind == 8) (then_steady state_steady (λ s. give_steady _))
    (either (kind == 9) (then_steady rollover_steady (λ r. give_steady _))
    (either (kind == 10) (then_steady eui_steady (λ d. give_steady _))
    (either (kind == 11) (then_steady eui_steady (λ d. give_steady _))
    (either (kind == 12) (then_steady eui_steady (λ d. give_steady _))
    (either (kind == 13) (then_steady eui_steady (λ d. give_steady _))
    (either (kind == 14) (then_steady key_steady (λ k. then_steady (number_steady w32) (λ v. give_steady _)))
    (either (kind == 15)
    (then_steady eui_steady (λ a. then_steady eui_steady (λ b. then_steady key_steady (λ k. give_steady _))))
    none_steady)))))))

fields_steady : {E : Type 0} (kind : ℕ) → Steady {E = E} (fields_of kind)
unfolding fields_of reserve_at floor_at drop_net_at drop_link_at install_at active_at row_at
fields_steady kind =
    either (kind == 1) (then_steady layer_steady (λ l. then_steady (number_steady w32) (λ v. give_steady _)))
    (either (kind == 2)
    (then_steady layer_steady
    (λ l. then_steady key_steady
    (λ k. then_steady eui_steady (λ s. then_steady (number_steady w32) (λ v. give_steady _)))))
    (either (kind == 3) (then_steady key_steady (λ k. give_steady _))
    (either (kind == 4) (then_steady eui_steady (λ p. then_steady key_steady (λ k. give_steady _)))
    (either (kind == 5) (then_steady key_steady (λ k. then_steady byte_steady (λ s. give_steady _)))
    (either (kind == 6) (then_steady key_steady (λ k. give_steady _))
    (either (kind == 7)
    (then_steady eui_steady (λ p. then_steady key_steady (λ k. then_steady attribute_steady (λ a. give_steady _))))
    (later_steady kind)))))))

pub change_steady : {E : Type 0} → Steady {E = E} change_at
unfolding change_at
change_steady = then_steady byte_steady fields_steady
