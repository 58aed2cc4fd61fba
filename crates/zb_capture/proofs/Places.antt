-- Where a text may be cut, and lists that are related place by place.
use Rattle.std.proofs.Common.{◌≡◌, ℕ, suc, zero, ◌+◌, ◌-◌, ◌<◌, ◌≤◌, ◌==◌, List, [], ◌∷◌, ◌++◌, length, get_or, take, drop, refl, ap, sym, ◌∙◌, arith, append-nil, Bool, true, false, ◌||◌, cond, None, Some, map, position, length-append, length-drop}
use Rattle.std.specs.List.{AllZip, AllByRecursion, flat_map, list_any, onto_first}
use Rattle.std.specs.Str.Lines.{lines, lines_of_parts, strip_carriage_return}
use Rattle.std.proofs.Math.Seq.{take-length}
use Rattle.std.proofs.lemmas.List.Quantifiers.{position-Some}
use Rattle.std.proofs.lemmas.List.{get_or-drop, get_or_append_left, take-append-le, drop-append-le}
use Rattle.std.proofs.lemmas.Bool.Decides.{nat_tests}
use Rattle.zb_capture.specs.Pieces.{all_found, all_texts, IsFound}
use Rattle.zb_capture.specs.declared.pieces.Found.{Found}
use Rattle.zb_capture.specs.declared.pieces.Piece.{Piece}
use Rattle.zb_text.specs.Words.{parts, nothing}
use Rattle.zb_text.proofs.Cuts.{parts_are_some}

-- Parts of which the last begins after the byte.
parts_on : (b : Bool) (x : ℕ) (ps qs : List (List ℕ)) → nothing ps ≡ None
    → cond b ([] ∷ (ps ++ qs)) (onto_first x (ps ++ qs)) ≡ cond b ([] ∷ ps) (onto_first x ps) ++ qs
parts_on true x ps qs some = refl
parts_on false x [] qs some = absurd (cc some)
parts_on false x (p ∷ ps) qs some = refl

parts_behind : (c : ℕ) (front back : List ℕ) → (c == c) ≡ true → parts c (front ++ c ∷ back) ≡ parts c front
    ++ parts c back
parts_behind c [] back same = rw same refl
parts_behind c (x ∷ front) back same =
    ap (λ ps. cond (x == c) ([] ∷ ps) (onto_first x ps)) (parts_behind c front back same)
    ∙ parts_on (x == c) x (parts c front) (parts c back) (parts_are_some c front)

-- All parts but those of the last lines.
lines_on : (ps qs : List (List ℕ)) → nothing qs ≡ None → lines_of_parts (ps ++ qs) ≡ map strip_carriage_return ps
    ++ lines_of_parts qs
lines_on [] qs some = refl
lines_on (p ∷ []) [] some = absurd (cc some)
lines_on (p ∷ []) (q ∷ qs) some = refl
lines_on (p ∷ r ∷ ps) qs some = ap (λ zs. strip_carriage_return p ∷ zs) (lines_on (r ∷ ps) qs some)

lines_behind : (front back : List ℕ) → lines (front ++ 10 ∷ back) ≡ map strip_carriage_return (parts 10 front)
    ++ lines back
lines_behind front back =
    ap lines_of_parts (parts_behind 10 front back refl) ∙ lines_on (parts 10 front) (parts 10 back)
    (parts_are_some 10 back)

two_pieces : (front back : List ℕ) → lines (front ++ 10 ∷ back) ≡ lines (front ++ 10 ∷ []) ++ lines back
two_pieces front back =
    lines_behind front back
    ∙ ap (λ zs. zs ++ lines back)
    (sym (append-nil (map strip_carriage_return (parts 10 front))) ∙ sym (lines_behind front []))

-- The text up to a line feed, and after it.
split_at : (n : ℕ) (text : List ℕ) → n < length text → get_or text n 0 ≡ 10
    → (text ≡ take n text ++ 10 ∷ drop (suc n) text) × (take (suc n) text ≡ take n text ++ 10 ∷ [])
split_at n [] within is = absurd (omega (arith, within))
split_at zero (x ∷ text) within is = (ap (λ y. y ∷ text) is, ap (λ y. y ∷ []) is)
split_at (suc n) (x ∷ text) within is =
    let rest = split_at n text (omega (arith, within)) is in (ap (λ zs. x ∷ zs) rest.0, ap (λ zs. x ∷ zs) rest.1)

pub lines_cut : (n : ℕ) (text : List ℕ) → n < length text → get_or text n 0 ≡ 10 → lines text
    ≡ lines (take (suc n) text) ++ lines (drop (suc n) text)
lines_cut n text within is =
    let cut = split_at n text within is in
    ap lines cut.0 ∙ two_pieces (take n text) (drop (suc n) text) ∙ ap (λ zs. lines zs ++ lines (drop (suc n) text))
    (sym cut.1)

all_behind : (n : ℕ) (text : List ℕ) → take (length text - n) (drop n text) ≡ drop n text
all_behind n text = ap (λ k. take k (drop n text)) (sym (length-drop n text)) ∙ take-length (drop n text)

pub lines_found : (least at : ℕ) (text : List ℕ) → 1 ≤ least
    → position (λ b. b == 10) (take (length text - (least - 1)) (drop (least - 1) text)) ≡ Some at
    → lines text ≡ lines (take (least + at) text) ++ lines (drop (least + at) text)
lines_found least at text some is =
    let n = least - 1 in
    let found = position-Some (λ b. b == 10) (drop n text) at 0
    (ap (position (λ b. b == 10)) (sym (all_behind n text)) ∙ is) in
    let byte : get_or (drop n text) at 0 ≡ 10 = grind (arith, nat_tests, found.1) in
    let within : n + at < length text = omega (arith, found.0, length-drop n text) in
    let place : suc (n + at) ≡ least + at = omega (arith, some) in
    lines_cut (n + at) text within (sym (get_or-drop n text at 0) ∙ byte)
    ∙ ap (λ k. lines (take k text) ++ lines (drop k text)) place

-- A relation that holds place by place.
pub zip_from_index : {A B : Type 0} (R : A → B → Type 0) (xs : List A) (ys : List B) → length xs ≡ length ys
    → ((i : ℕ) (d : A) (e : B) → i < length xs → R (get_or xs i d) (get_or ys i e)) → AllZip R xs ys
zip_from_index R [] [] same each = tt
zip_from_index R [] (y ∷ ys) same each = absurd (omega (arith, same))
zip_from_index R (x ∷ xs) [] same each = absurd (omega (arith, same))
zip_from_index R (x ∷ xs) (y ∷ ys) same each = (
  each 0 x y (omega arith),
  zip_from_index R xs ys (omega (arith, same))
      (λ i d e within. each (suc i) d e (omega (arith, within))),
)

-- Pieces that were read.
pub piece_within : (ps : List Piece) (i : ℕ) (d : Piece) → i < length ps → length (get_or ps i d).text.now
    ≤ length (flat_map (λ part. part) (all_texts ps))
piece_within [] i d within = absurd (omega (arith, within))
piece_within (p ∷ ps) zero d within = omega (arith, length-append p.text.now (flat_map (λ part. part) (all_texts ps)))
piece_within (p ∷ ps) (suc i) d within =
    omega (
      arith,
      piece_within ps i d (omega (arith, within)),
      length-append p.text.now (flat_map (λ part. part) (all_texts ps)),
    )

abbrev pub WasRead : Piece → Found → Type 0
WasRead piece found = (found.text.now ≡ piece.text.now) × IsFound found

pub all_read : (ps : List Piece) (fs : List Found) → AllZip WasRead ps fs → (all_found fs ≡ all_texts ps)
    × AllByRecursion IsFound fs
all_read [] [] read = (refl, tt)
all_read [] (f ∷ fs) read = absurd read
all_read (p ∷ ps) [] read = absurd read
all_read (p ∷ ps) (f ∷ fs) read =
    let rest = all_read ps fs read.1 in (rw (read.0.0, rest.0) refl, (read.0.1, rest.1))

-- A text that continues after its last line feed.
pub lines_before : (n : ℕ) (text more : List ℕ) → n < length text → get_or text n 0 ≡ 10
    → lines (text ++ more) ≡ lines (take (suc n) text) ++ lines (drop (suc n) text ++ more)
lines_before n text more within is =
    lines_cut n (text ++ more) (omega (arith, within, length-append text more))
    (get_or_append_left text more 0 n within ∙ is)
    ∙ ap (λ zs. lines zs ++ lines (drop (suc n) (text ++ more))) (take-append-le (suc n) text more within)
    ∙ ap (λ zs. lines (take (suc n) text) ++ lines zs) (drop-append-le (suc n) text more within)

-- A byte that occurs at no place from one on.
not_any : (b c : Bool) → (b ≡ true → ⊥) → c ≡ false → (b || c) ≡ false
not_any true c h e = absurd (h refl)
not_any false c h e = e

none_in : (test : ℕ → Bool) (xs : List ℕ) → ((k : ℕ) → k < length xs → test (get_or xs k 0) ≡ true → ⊥)
    → list_any test xs ≡ false
none_in test [] h = refl
none_in test (x ∷ xs) h = not_any (test x) (list_any test xs) (h 0 (omega arith))
    (none_in test xs (λ k within. h (suc k) (omega (arith, within))))

pub none_behind : (n : ℕ) (xs : List ℕ) → ((k : ℕ) → n ≤ k → k < length xs → (get_or xs k 0 == 10) ≡ true → ⊥)
    → list_any (λ byte. byte == 10) (drop n xs) ≡ false
none_behind n xs h =
    none_in (λ byte. byte == 10) (drop n xs)
    (λ k within is. h (n + k) (omega arith) (omega (arith, within, length-drop n xs))
    (ap (λ byte. byte == 10) (sym (get_or-drop n xs k 0)) ∙ is))
