-- How a reading ends, whatever bytes follow: the bytes run out, are wrong, or spell a field.
use Rattle.std.proofs.Common.{◌≡◌, ℕ, zero, suc, ◌-◌, ◌^◌, ◌<◌, Bool, true, false, ltb, List, [], ◌∷◌, ◌++◌, length, take, drop, Option, Some, None, Result, Ok, Err, refl, sym, ap, subst, ◌∙◌, append_assoc, arith, inl, inr, length-append}
use Rattle.std.specs.Prelude.{replicate, is_some, IfSome}
use Rattle.std.specs.List.{flat_map, AllByRecursion}
use Rattle.std.specs.Int.{Width, w16, w32, w64, byte_len, from_le_bytes, to_le_bytes}
use Rattle.std.proofs.lemmas.Bool.{cases_lt, le-ltb, lt-ltb}
use Rattle.std.proofs.lemmas.List.{append-nil, take-append-le, drop-append-le, take-append-drop, length-replicate, length-take, get_or-take, get_or_past}
use Rattle.std.proofs.lemmas.List.Concat.{flat_map-cons}
use Rattle.std.proofs.lemmas.Nat.{le_bytes_2, le_bytes_4, le_bytes_8}
use Rattle.zb_base.specs.declared.address.Eui.{Eui}
use Rattle.zb_base.specs.declared.address.Short.{Short}
use Rattle.zb_cursor.specs.Spelling.{IsBytes, byte, number, short, eui, key, optional}
use Rattle.zb_cursor.specs.Reading.{Reading, follow, ◌>>=◌, give, byte_at, bytes_at, number_at, short_at, eui_at, key_at, optional_at, times_at}

pub data Outcome {E A : Type 0} (read : Reading E A) (Spelt : List ℕ → A → Type 0) (Wrong : List ℕ → E → Type 0)
    (bytes : List ℕ) : Type 0 where
  -- with some more bytes they spell a field
  RunsOut : (more : List ℕ) (x : A) → ((cut : E) → read cut bytes ≡ Err cut) → Spelt (bytes ++ more) x
      → Outcome read Spelt Wrong bytes
  -- with no more bytes they spell a field
  IsWrong : (e : E) → ((cut : E) (more : List ℕ) → read cut (bytes ++ more) ≡ Err e) → Wrong bytes e
      → Outcome read Spelt Wrong bytes
  -- they begin with a field
  IsRead : (x : A) (text rest : List ℕ) → bytes ≡ text ++ rest → Spelt text x
      → ((cut : E) (more : List ℕ) → read cut (bytes ++ more) ≡ Ok (x, rest ++ more)) → Outcome read Spelt Wrong bytes

-- some bytes spell a field
pub record HasText {A : Type 0} (Spelt : List ℕ → A → Type 0) : Type 0 where
  pub text : List ℕ
  pub value : A
  pub spelt : Spelt text value

-- what holds for all bytes that may follow holds if none follows
pub read_now : {E A : Type 0} (read : Reading E A) (cut : E) (bytes rest : List ℕ) (x : A)
    → ((more : List ℕ) → read cut (bytes ++ more) ≡ Ok (x, rest ++ more)) → read cut bytes ≡ Ok (x, rest)
read_now read cut bytes rest x h = ap (read cut) (sym (append-nil bytes)) ∙ h [] ∙ ap (λ (r : List ℕ). Ok (x, r))
    (append-nil rest)

pub wrong_now : {E A : Type 0} (read : Reading E A) (cut e : E) (bytes : List ℕ)
    → ((more : List ℕ) → read cut (bytes ++ more) ≡ Err e) → read cut bytes ≡ Err e
wrong_now read cut e bytes h = ap (read cut) (sym (append-nil bytes)) ∙ h []

-- ---- bytes

pub IsBytes-take : (n : ℕ) (bytes : List ℕ) → IsBytes bytes → IsBytes (take n bytes)
IsBytes-take n bytes h i =
    elim (cases_lt i n) [
      | inl lt ↦ rw (get_or-take n bytes i 0 lt) (h i)
      | inr le ↦ rw (get_or_past (take n bytes) i 0 (omega (arith, length-take n bytes))) (omega arith)
    ]

pub IsBytes-rest : (text rest bytes : List ℕ) → bytes ≡ text ++ rest → IsBytes bytes → IsBytes rest
IsBytes-rest [] rest bytes parts h = subst IsBytes parts h
IsBytes-rest (b ∷ text) rest bytes parts h = IsBytes-rest text rest (text ++ rest) refl
    (λ i. subst IsBytes parts h (suc i))

zeros_are_bytes : (n : ℕ) → IsBytes (replicate n 0)
zeros_are_bytes zero i = omega arith
zeros_are_bytes (suc n) zero = omega arith
zeros_are_bytes (suc n) (suc i) = zeros_are_bytes n i

IsBytes-append : (xs ys : List ℕ) → IsBytes xs → IsBytes ys → IsBytes (xs ++ ys)
IsBytes-append [] ys h k i = k i
IsBytes-append (x ∷ xs) ys h k zero = h 0
IsBytes-append (x ∷ xs) ys h k (suc i) = IsBytes-append xs ys (λ j. h (suc j)) k i

-- ---- one reading after another

pub give_outcome : {E A : Type 0} (Spelt : List ℕ → A → Type 0) (Wrong : List ℕ → E → Type 0) (x : A) (bytes : List ℕ)
    → Spelt [] x → Outcome (give x) Spelt Wrong bytes
give_outcome Spelt Wrong x bytes spelt = IsRead x [] bytes refl spelt (λ cut more. refl)

pub then_outcome : {E A B : Type 0} (first : Reading E A) (next : A → Reading E B) (One : List ℕ → A → Type 0)
    (Spelt : List ℕ → B → Type 0) (Wrong : List ℕ → E → Type 0) (bytes : List ℕ)
    → IsBytes bytes
    → Outcome first One Wrong bytes
    → ((x : A) (text : List ℕ) → One text x → (rest : List ℕ) → IsBytes rest
    → Outcome (next x) (λ t y. Spelt (text ++ t) y) (λ r e. Wrong (text ++ r) e) rest)
    → ((x : A) (text : List ℕ) → One text x → HasText (λ t y. Spelt (text ++ t) y))
    → Outcome (first >>= next) Spelt Wrong bytes
then_outcome {E} {A} {B} first next One Spelt Wrong bytes fits one two text_of =
    elim one [
      | RunsOut more x short spelt ↦
          let t = text_of x (bytes ++ more) spelt in
          RunsOut (more ++ t.text) t.value (λ cut. rw (short cut) refl)
          (subst (λ (b : List ℕ). Spelt b t.value) (append_assoc bytes more t.text) t.spelt)
      | IsWrong e h wrong ↦ IsWrong e (λ cut more. rw (h cut more) refl) wrong
      | IsRead x text rest parts spelt h ↦
          elim (two x text spelt rest (IsBytes-rest text rest bytes parts fits)) [
            | RunsOut more y short two_spelt ↦
                RunsOut more y (λ cut. rw (read_now first cut bytes rest x (h cut)) (short cut))
                (subst (λ (b : List ℕ). Spelt b y)
                (sym (append_assoc text rest more) ∙ ap (λ (b : List ℕ). b ++ more) (sym parts)) two_spelt)
            | IsWrong e wrong fault ↦
                IsWrong e (λ cut more. rw (h cut more) (wrong cut more))
                (subst (λ (b : List ℕ). Wrong b e) (sym parts) fault)
            | IsRead y text2 end parts2 two_spelt reads ↦
                IsRead y (text ++ text2) end
                (parts ∙ ap (λ (b : List ℕ). text ++ b) parts2 ∙ sym (append_assoc text text2 end)) two_spelt
                (λ cut more. rw (h cut more) (reads cut more))
          ]
    ]

pub then_text : {A B : Type 0} (One : List ℕ → A → Type 0) (Spelt : List ℕ → B → Type 0) → HasText One
    → ((x : A) (text : List ℕ) → One text x → HasText (λ t y. Spelt (text ++ t) y)) → HasText Spelt
then_text One Spelt one two =
    let t = two one.value one.text one.spelt in
    record { text = one.text ++ t.text; value = t.value; spelt = t.spelt }

-- ---- fields

-- the text is the spelling of a value that fits
abbrev pub Field : {A : Type 0} → (A → List ℕ) → (A → Type 0) → List ℕ → A → Type 0
Field spell Fits text x = (text ≡ spell x) × Fits x

pub byte_outcome : {E : Type 0} (Wrong : List ℕ → E → Type 0) (bytes : List ℕ) → IsBytes bytes
    → Outcome byte_at (Field byte (λ b. b < 2 ^ 8)) Wrong bytes
byte_outcome Wrong [] fits = RunsOut (0 ∷ []) 0 (λ cut. refl) (refl, omega arith)
byte_outcome Wrong (b ∷ rest) fits = IsRead b (b ∷ []) rest refl (refl, fits 0) (λ cut more. refl)

pub byte_text : HasText (Field byte (λ b. b < 2 ^ 8))
byte_text = record { text = 0 ∷ []; value = 0; spelt = (refl, omega arith) }

filled : ℕ → List ℕ → List ℕ
filled n bytes = replicate (n - length bytes) 0

length-filled : (n : ℕ) (bytes : List ℕ) → length bytes < n → length (bytes ++ filled n bytes) ≡ n
unfolding filled
length-filled n bytes lt =
    omega (arith, length-append bytes (replicate (n - length bytes) 0), length-replicate {A = ℕ} (n - length bytes) 0)

filled_are_bytes : (n : ℕ) (bytes : List ℕ) → IsBytes bytes → IsBytes (bytes ++ filled n bytes)
unfolding filled
filled_are_bytes n bytes fits = IsBytes-append bytes (replicate (n - length bytes) 0) fits
    (zeros_are_bytes (n - length bytes))

-- n bytes
abbrev pub IsRow : ℕ → List ℕ → List ℕ → Type 0
IsRow n text xs = (text ≡ xs) × (length xs ≡ n) × IsBytes xs

pub bytes_outcome : {E : Type 0} (Wrong : List ℕ → E → Type 0) (n : ℕ) (bytes : List ℕ) → IsBytes bytes
    → Outcome (bytes_at n) (IsRow n) Wrong bytes
unfolding bytes_at
bytes_outcome Wrong n bytes fits =
    elim (cases_lt (length bytes) n) [
      | inl lt ↦
          RunsOut (filled n bytes) (bytes ++ filled n bytes) (λ cut. rw (lt-ltb _ _ lt) refl)
          (refl, length-filled n bytes lt, filled_are_bytes n bytes fits)
      | inr le ↦
          IsRead (take n bytes) (take n bytes) (drop n bytes) (sym (take-append-drop n bytes))
          (refl, omega (arith, length-take n bytes), IsBytes-take n bytes fits)
          (λ cut more.
          let long : ltb (length (bytes ++ more)) n ≡ false = le-ltb _ _ (omega (arith, length-append bytes more)) in
          rw (long, take-append-le n bytes more le, drop-append-le n bytes more le) refl)
    ]

pub bytes_text : (n : ℕ) → HasText (IsRow n)
bytes_text n =
    record {
      text = replicate n 0;
      value = replicate n 0;
      spelt = (refl, length-replicate {A = ℕ} n 0, zeros_are_bytes n);
    }

-- a reading that equals another one, seen in another way
pub same_outcome : {E A : Type 0} (read other : Reading E A) (Spelt : List ℕ → A → Type 0)
    (Wrong : List ℕ → E → Type 0) → ((cut : E) (bytes : List ℕ) → read cut bytes ≡ other cut bytes) → (bytes : List ℕ)
    → Outcome other Spelt Wrong bytes → Outcome read Spelt Wrong bytes
same_outcome read other Spelt Wrong same bytes (RunsOut more x short spelt) =
    RunsOut more x (λ cut. same cut bytes ∙ short cut) spelt
same_outcome read other Spelt Wrong same bytes (IsWrong e h wrong) =
    IsWrong e (λ cut more. same cut (bytes ++ more) ∙ h cut more) wrong
same_outcome read other Spelt Wrong same bytes (IsRead x text rest parts spelt h) =
    IsRead x text rest parts spelt (λ cut more. same cut (bytes ++ more) ∙ h cut more)

-- a number is read from its bytes
number_from_bytes : {E : Type 0} (w : Width) (cut : E) (bytes : List ℕ) → number_at w cut bytes
    ≡ (bytes_at (byte_len w) >>= λ xs. give (from_le_bytes w xs)) cut bytes
unfolding number_at bytes_at
number_from_bytes w cut bytes =
    elim (cases_lt (length bytes) (byte_len w)) [
      | inl lt ↦ rw (lt-ltb _ _ lt) refl
      | inr le ↦ rw (le-ltb _ _ le) refl
    ]

-- a width, and the bytes that spell a number of it
pub record IsNumber (w : Width) (limit : ℕ) : Type 0 where
  pub back : (xs : List ℕ) → length xs ≡ byte_len w → IsBytes xs → xs ≡ to_le_bytes w (from_le_bytes w xs)
  pub below : (xs : List ℕ) → IsBytes xs → from_le_bytes w xs < limit

pub number16 : IsNumber w16 (2 ^ 16)
number16 =
    record {
      back = λ xs len fits. sym (le_bytes_2 xs _ len fits refl);
      below = λ xs fits. omega (arith, fits 0, fits 1);
    }

pub number32 : IsNumber w32 (2 ^ 32)
number32 =
    record {
      back = λ xs len fits. sym (le_bytes_4 xs _ len fits refl);
      below = λ xs fits. omega (arith, fits 0, fits 1, fits 2, fits 3);
    }

pub number64 : IsNumber w64 (2 ^ 64)
number64 =
    record {
      back = λ xs len fits. sym (le_bytes_8 xs _ len fits refl);
      below = λ xs fits. omega (arith, fits 0, fits 1, fits 2, fits 3, fits 4, fits 5, fits 6, fits 7);
    }

-- a number in a wrapper, as an address is
wrapped : {A : Type 0} (w : Width) (limit : ℕ) (is : IsNumber w limit) (wrap : ℕ → A) (Spelt : List ℕ → A → Type 0)
    → ((n : ℕ) → n < limit → Spelt (number w n) (wrap n)) → (text xs : List ℕ) → IsRow (byte_len w) text xs
    → Spelt (text ++ []) (wrap (from_le_bytes w xs))
wrapped w limit is wrap Spelt spelt text xs row =
    let same : number w (from_le_bytes w xs) ≡ text ++ [] = sym (is.back xs row.1 row.2) ∙ sym row.0 ∙ sym
    (append-nil text) in
    subst (λ (t : List ℕ). Spelt t (wrap (from_le_bytes w xs))) same (spelt (from_le_bytes w xs) (is.below xs row.2))

wrapped_outcome : {E A : Type 0} (Wrong : List ℕ → E → Type 0) (w : Width) (limit : ℕ) (is : IsNumber w limit)
    (wrap : ℕ → A) (Spelt : List ℕ → A → Type 0) → ((n : ℕ) → n < limit → Spelt (number w n) (wrap n))
    → (bytes : List ℕ) → IsBytes bytes → Outcome (bytes_at (byte_len w) >>= λ xs. give (wrap (from_le_bytes w xs)))
    Spelt Wrong bytes
wrapped_outcome Wrong w limit is wrap Spelt spelt bytes fits =
    then_outcome (bytes_at (byte_len w)) (λ xs. give (wrap (from_le_bytes w xs))) (IsRow (byte_len w)) Spelt Wrong
    bytes fits (bytes_outcome Wrong (byte_len w) bytes fits)
    (λ xs text row rest rest_fits. give_outcome (λ t y. Spelt (text ++ t) y) (λ r e. Wrong (text ++ r) e)
    (wrap (from_le_bytes w xs)) rest (wrapped w limit is wrap Spelt spelt text xs row))
    (λ xs text row.
    record {
      text = [];
      value = wrap (from_le_bytes w xs);
      spelt = wrapped w limit is wrap Spelt spelt text xs row;
    })

pub number_outcome : {E : Type 0} (Wrong : List ℕ → E → Type 0) (w : Width) (limit : ℕ) (is : IsNumber w limit)
    (bytes : List ℕ) → IsBytes bytes → Outcome (number_at w) (Field (number w) (λ n. n < limit)) Wrong bytes
number_outcome Wrong w limit is bytes fits =
    same_outcome (number_at w) (bytes_at (byte_len w) >>= λ xs. give (from_le_bytes w xs))
    (Field (number w) (λ n. n < limit)) Wrong (number_from_bytes w) bytes
    (wrapped_outcome Wrong w limit is (λ n. n) (Field (number w) (λ n. n < limit)) (λ n lt. (refl, lt)) bytes fits)

pub number_text : (w : Width) (limit : ℕ) → 0 < limit → HasText (Field (number w) (λ n. n < limit))
number_text w limit some = record { text = number w 0; value = 0; spelt = (refl, some) }

follow_map : {E A B C : Type 0} (r : Result (A × List ℕ) E) (f : A → B) (g : B → C)
    → follow (follow r (λ x rest. Ok (f x, rest))) (λ y rest. Ok (g y, rest)) ≡ follow r (λ x rest. Ok (g (f x), rest))
follow_map (Ok x) f g = refl
follow_map (Err e) f g = refl

short_from_bytes : {E : Type 0} (cut : E) (bytes : List ℕ) → short_at cut bytes
    ≡ (bytes_at 2 >>= λ xs. give {A = Short} (record { 0 = from_le_bytes w16 xs })) cut bytes
unfolding short_at
short_from_bytes cut bytes =
    rw (number_from_bytes w16 cut bytes)
    (follow_map {B = ℕ} {C = Short} (bytes_at 2 cut bytes) (from_le_bytes w16) (λ n. record { 0 = n }))

pub short_outcome : {E : Type 0} (Wrong : List ℕ → E → Type 0) (bytes : List ℕ) → IsBytes bytes
    → Outcome short_at (Field short (λ s. s.0 < 2 ^ 16)) Wrong bytes
short_outcome Wrong bytes fits =
    same_outcome short_at (bytes_at 2 >>= λ xs. give (record { 0 = from_le_bytes w16 xs }))
    (Field short (λ s. s.0 < 2 ^ 16)) Wrong short_from_bytes bytes
    (wrapped_outcome Wrong w16 (2 ^ 16) number16 (λ n. record { 0 = n }) (Field short (λ s. s.0 < 2 ^ 16))
    (λ n lt. (refl, lt)) bytes fits)

pub short_text : HasText (Field short (λ s. s.0 < 2 ^ 16))
short_text = record { text = number w16 0; value = record { 0 = 0 }; spelt = (refl, omega arith) }

eui_from_bytes : {E : Type 0} (cut : E) (bytes : List ℕ) → eui_at cut bytes
    ≡ (bytes_at 8 >>= λ xs. give {A = Eui} (record { 0 = from_le_bytes w64 xs })) cut bytes
unfolding eui_at
eui_from_bytes cut bytes =
    rw (number_from_bytes w64 cut bytes)
    (follow_map {B = ℕ} {C = Eui} (bytes_at 8 cut bytes) (from_le_bytes w64) (λ n. record { 0 = n }))

pub eui_outcome : {E : Type 0} (Wrong : List ℕ → E → Type 0) (bytes : List ℕ) → IsBytes bytes
    → Outcome eui_at (Field eui (λ e. e.0 < 2 ^ 64)) Wrong bytes
eui_outcome Wrong bytes fits =
    same_outcome eui_at (bytes_at 8 >>= λ xs. give (record { 0 = from_le_bytes w64 xs }))
    (Field eui (λ e. e.0 < 2 ^ 64)) Wrong eui_from_bytes bytes
    (wrapped_outcome Wrong w64 (2 ^ 64) number64 (λ n. record { 0 = n }) (Field eui (λ e. e.0 < 2 ^ 64))
    (λ n lt. (refl, lt)) bytes fits)

pub eui_text : HasText (Field eui (λ e. e.0 < 2 ^ 64))
eui_text = record { text = number w64 0; value = record { 0 = 0 }; spelt = (refl, omega arith) }

pub key_outcome : {E : Type 0} (Wrong : List ℕ → E → Type 0) (bytes : List ℕ) → IsBytes bytes
    → Outcome key_at (Field key (λ k. length k.0 ≡ 16)) Wrong bytes
unfolding key_at
key_outcome Wrong bytes fits =
    then_outcome (bytes_at 16) (λ xs. give (record { 0 = xs })) (IsRow 16) (Field key (λ k. length k.0 ≡ 16)) Wrong
    bytes fits (bytes_outcome Wrong 16 bytes fits)
    (λ xs text row rest rest_fits. give_outcome (λ t y. Field key (λ k. length k.0 ≡ 16) (text ++ t) y)
    (λ r e. Wrong (text ++ r) e) (record { 0 = xs }) rest (append-nil text ∙ row.0, row.1))
    (λ xs text row. record { text = []; value = record { 0 = xs }; spelt = (append-nil text ∙ row.0, row.1) })

pub key_text : HasText (Field key (λ k. length k.0 ≡ 16))
key_text = record { text = replicate 16 0; value = record { 0 = replicate 16 0 }; spelt = (refl, refl) }

-- a field that is present exactly when it should be
abbrev pub OptionalField : {A : Type 0} → Bool → (A → List ℕ) → (A → Type 0) → List ℕ → Option A → Type 0
OptionalField present spell Fits text o = (text ≡ optional spell o) × (is_some o ≡ present) × IfSome o Fits

pub optional_outcome : {E A : Type 0} (Wrong : List ℕ → E → Type 0) (spell : A → List ℕ) (Fits : A → Type 0)
    (read : Reading E A) (present : Bool) (bytes : List ℕ) → Outcome read (Field spell Fits) Wrong bytes
    → Outcome (optional_at present read) (OptionalField present spell Fits) Wrong bytes
optional_outcome Wrong spell Fits read false bytes one = IsRead None [] bytes refl (refl, refl, tt) (λ cut more. refl)
optional_outcome Wrong spell Fits read true bytes (RunsOut more x short spelt) =
    RunsOut more (Some x) (λ cut. rw (short cut) refl) (spelt.0, refl, spelt.1)
optional_outcome Wrong spell Fits read true bytes (IsWrong e h wrong) = IsWrong e (λ cut more. rw (h cut more) refl)
    wrong
optional_outcome Wrong spell Fits read true bytes (IsRead x text rest parts spelt h) =
    IsRead (Some x) text rest parts (spelt.0, refl, spelt.1) (λ cut more. rw (h cut more) refl)

pub optional_text : {A : Type 0} (spell : A → List ℕ) (Fits : A → Type 0) (present : Bool)
    → HasText (Field spell Fits) → HasText (OptionalField present spell Fits)
optional_text spell Fits false one = record { text = []; value = None; spelt = (refl, refl, tt) }
optional_text spell Fits true one =
    record { text = one.text; value = Some one.value; spelt = (one.spelt.0, refl, one.spelt.1) }

-- that many fields
abbrev pub Fields : {A : Type 0} → ℕ → (A → List ℕ) → (A → Type 0) → List ℕ → List A → Type 0
Fields n spell Fits text xs = (text ≡ flat_map spell xs) × (length xs ≡ n) × AllByRecursion Fits xs

one_more : {A : Type 0} (spell : A → List ℕ) (Fits : A → Type 0) (n : ℕ) (x : A) (xs : List A) (t0 t1 : List ℕ)
    → Field spell Fits t0 x → Fields n spell Fits t1 xs → Fields (suc n) spell Fits (t0 ++ (t1 ++ [])) (x ∷ xs)
one_more spell Fits n x xs t0 t1 one many = (
  ap (λ (t : List ℕ). t0 ++ t) (append-nil t1) ∙ rw (one.0, many.0) (sym (flat_map-cons spell x xs)),
  ap suc many.1,
  (one.1, many.2),
)

pub times_text : {A : Type 0} (spell : A → List ℕ) (Fits : A → Type 0) → HasText (Field spell Fits) → (n : ℕ)
    → HasText (Fields n spell Fits)
times_text spell Fits one zero = record { text = []; value = []; spelt = (refl, refl, tt) }
times_text spell Fits one (suc n) =
    let t = times_text spell Fits one n in
    record {
      text = one.text ++ (t.text ++ []);
      value = one.value ∷ t.value;
      spelt = one_more spell Fits n one.value
          t.value one.text t.text one.spelt t.spelt;
    }

pub times_outcome : {E A : Type 0} (spell : A → List ℕ) (Fits : A → Type 0) (read : Reading E A)
    → ((Wrong : List ℕ → E → Type 0) (bytes : List ℕ) → IsBytes bytes → Outcome read (Field spell Fits) Wrong bytes)
    → HasText (Field spell Fits)
    → (n : ℕ) (Wrong : List ℕ → E → Type 0) (bytes : List ℕ) → IsBytes bytes
    → Outcome (times_at read n) (Fields n spell Fits) Wrong bytes
unfolding times_at
times_outcome spell Fits read one text zero Wrong bytes fits = IsRead [] [] bytes refl (refl, refl, tt)
    (λ cut more. refl)
times_outcome spell Fits read one text (suc n) Wrong bytes fits =
    then_outcome read (λ x. times_at read n >>= λ xs. give (x ∷ xs)) (Field spell Fits) (Fields (suc n) spell Fits)
    Wrong bytes fits (one Wrong bytes fits)
    (λ x t0 s0 rest rest_fits.
    then_outcome (times_at read n) (λ xs. give (x ∷ xs)) (Fields n spell Fits)
    (λ t y. Fields (suc n) spell Fits (t0 ++ t) y) (λ r e. Wrong (t0 ++ r) e) rest rest_fits
    (times_outcome spell Fits read one text n (λ r e. Wrong (t0 ++ r) e) rest rest_fits)
    (λ xs t1 s1 end end_fits. give_outcome (λ t y. Fields (suc n) spell Fits (t0 ++ (t1 ++ t)) y)
    (λ r e. Wrong (t0 ++ (t1 ++ r)) e) (x ∷ xs) end (one_more spell Fits n x xs t0 t1 s0 s1))
    (λ xs t1 s1. record { text = []; value = x ∷ xs; spelt = one_more spell Fits n x xs t0 t1 s0 s1 }))
    (λ x t0 s0.
    let t = times_text spell Fits text n in
    record { text = t.text ++ []; value = x ∷ t.value; spelt = one_more spell Fits n x t.value t0 t.text s0 t.spelt })

-- ---- readings with known endings on all bytes

pub record Ends {E A : Type 0} (read : Reading E A) (Spelt : List ℕ → A → Type 0) (Wrong : List ℕ → E → Type 0) : Type
    0 where
  pub outcome : (bytes : List ℕ) → IsBytes bytes → Outcome read Spelt Wrong bytes
  pub text : HasText Spelt

pub then_ends : {E A B : Type 0} {first : Reading E A} {next : A → Reading E B} {One : List ℕ → A → Type 0}
    {Spelt : List ℕ → B → Type 0} {Wrong : List ℕ → E → Type 0}
    → Ends first One Wrong
    → ((x : A) (text : List ℕ) → One text x
    → Ends (next x) (λ t y. Spelt (text ++ t) y) (λ r e. Wrong (text ++ r) e)) → Ends (first >>= next) Spelt Wrong
then_ends {first = first} {next = next} {One = One} {Spelt = Spelt} {Wrong = Wrong} one two =
    record {
      outcome = λ bytes fits. then_outcome first next One Spelt Wrong bytes fits (one.outcome bytes fits)
          (λ x text spelt rest rest_fits. (two x text spelt).outcome rest rest_fits)
          (λ x text spelt. (two x text spelt).text);
      text = then_text One Spelt one.text (λ x text spelt. (two x text spelt).text);
    }

pub give_ends : {E A : Type 0} {Spelt : List ℕ → A → Type 0} {Wrong : List ℕ → E → Type 0} (x : A) → Spelt [] x
    → Ends (give x) Spelt Wrong
give_ends {Spelt = Spelt} {Wrong = Wrong} x spelt =
    record {
      outcome = λ bytes fits. give_outcome Spelt Wrong x bytes spelt;
      text = record { text = []; value = x; spelt = spelt };
    }

module _ {E : Type 0} {Wrong : List ℕ → E → Type 0} where
  pub byte_ends : Ends byte_at (Field byte (λ b. b < 2 ^ 8)) Wrong
  byte_ends = record { outcome = byte_outcome Wrong; text = byte_text }

  pub number16_ends : Ends (number_at w16) (Field (number w16) (λ n. n < 2 ^ 16)) Wrong
  number16_ends =
      record { outcome = number_outcome Wrong w16 (2 ^ 16) number16; text = number_text w16 (2 ^ 16) (omega arith) }

  pub number32_ends : Ends (number_at w32) (Field (number w32) (λ n. n < 2 ^ 32)) Wrong
  number32_ends =
      record { outcome = number_outcome Wrong w32 (2 ^ 32) number32; text = number_text w32 (2 ^ 32) (omega arith) }

  pub short_ends : Ends short_at (Field short (λ s. s.0 < 2 ^ 16)) Wrong
  short_ends = record { outcome = short_outcome Wrong; text = short_text }

  pub eui_ends : Ends eui_at (Field eui (λ e. e.0 < 2 ^ 64)) Wrong
  eui_ends = record { outcome = eui_outcome Wrong; text = eui_text }

  pub key_ends : Ends key_at (Field key (λ k. length k.0 ≡ 16)) Wrong
  key_ends = record { outcome = key_outcome Wrong; text = key_text }

  pub row_ends : (n : ℕ) → Ends (bytes_at n) (IsRow n) Wrong
  row_ends n = record { outcome = bytes_outcome Wrong n; text = bytes_text n }

  pub optional_ends : {A : Type 0} {spell : A → List ℕ} {Fits : A → Type 0} {read : Reading E A} (present : Bool)
      → Ends read (Field spell Fits) Wrong → Ends (optional_at present read) (OptionalField present spell Fits) Wrong
  optional_ends {spell = spell} {Fits = Fits} {read = read} present one =
      record {
        outcome = λ bytes fits. optional_outcome Wrong spell Fits read present bytes (one.outcome bytes fits);
        text = optional_text spell Fits present one.text;
      }

  pub shorts_ends : (n : ℕ) → Ends (times_at short_at n) (Fields n short (λ s. s.0 < 2 ^ 16)) Wrong
  shorts_ends n =
      record {
        outcome = times_outcome short (λ s. s.0 < 2 ^ 16) short_at short_outcome short_text n Wrong;
        text = times_text short (λ s. s.0 < 2 ^ 16) short_text n;
      }
