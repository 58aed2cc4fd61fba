-- The whole lines of a text, and what a feed takes of it.
use Rattle.std.proofs.Common.{◌≡◌, ℕ, zero, suc, ◌-◌, ◌<◌, ◌≤◌, ◌==◌, Bool, true, false, List, [], ◌∷◌, ◌++◌, length, get_or, take, drop, Some, None, refl, sym, ap, ◌∙◌, subst, arith, append_assoc, append-nil, position, cond, nat_lt, eqb-true}
use Rattle.std.proofs.lemmas.Bool.Decides.{nat_tests}
use Rattle.std.proofs.lemmas.List.Quantifiers.{position-Some}
use Rattle.std.proofs.lemmas.List.{length-take-le, take-append-drop}
use Rattle.std.proofs.lemmas.List.Sums.{fails_before_first}
use Rattle.std.specs.List.{AllByRecursion, position_or_len}
use Rattle.std.specs.Prelude.{if◌then◌else◌, slice_index}
use Rattle.std.specs.Str.Lines.{strip_carriage_return}
use Rattle.zb_live.specs.Feeding.{BeginsLong, IsInLine}
use Rattle.zb_live.specs.WholeLines.{longest_line, whole_from, whole_lines}

-- a line with its line feed is the first whole line
first_line : (line acc more : List ℕ) → IsInLine line → whole_from acc (line ++ 10 ∷ more)
    ≡ strip_carriage_return (acc ++ line) ∷ whole_from [] more
first_line [] acc more in_line = ap (λ l. strip_carriage_return l ∷ whole_from [] more) (sym (append-nil acc))
first_line (b ∷ line) acc more (miss, in_line) =
    rw miss
    (first_line line (acc ++ b ∷ []) more in_line ∙ ap (λ l. strip_carriage_return l ∷ whole_from [] more)
    (append_assoc acc (b ∷ []) line))

pub lines_then : (line more : List ℕ) → IsInLine line → whole_lines (line ++ 10 ∷ more) ≡ strip_carriage_return line
    ∷ whole_lines more
unfolding whole_lines
lines_then line more in_line = first_line line [] more in_line

-- bytes without a line feed have no whole line
none_from : (bytes acc : List ℕ) → IsInLine bytes → whole_from acc bytes ≡ []
none_from [] acc in_line = refl
none_from (b ∷ bytes) acc (miss, in_line) = rw miss (none_from bytes (acc ++ b ∷ []) in_line)

pub no_lines : (bytes : List ℕ) → IsInLine bytes → whole_lines bytes ≡ []
unfolding whole_lines
no_lines bytes in_line = none_from bytes [] in_line

-- ---- the first line feed

in_line_to : (bytes : List ℕ) (end : ℕ) → end ≤ length bytes → ((k : ℕ) → k < end → (get_or bytes k 0 == 10) ≡ false)
    → IsInLine (take end bytes)
in_line_to bytes zero within miss = tt
in_line_to [] (suc end) within miss = absurd (omega (arith, within))
in_line_to (b ∷ bytes) (suc end) within miss =
    (miss 0 (omega arith), in_line_to bytes end (omega (arith, within)) (λ k lt. miss (suc k) (omega (arith, lt))))

-- where the first line feed is
pub found_feed : (bytes : List ℕ) (end : ℕ) → position (λ byte. byte == 10) bytes ≡ Some end → (end < length bytes)
    × ((get_or bytes end 0 == 10) ≡ true) × IsInLine (take end bytes)
found_feed bytes end is =
    let h = position-Some (λ byte. byte == 10) bytes end 0 is in
    (h.0, h.1, in_line_to bytes end (omega (arith, h.0)) h.2)

in_line_all : (bytes : List ℕ) → ((k : ℕ) → k < length bytes → (get_or bytes k 0 == 10) ≡ false) → IsInLine bytes
in_line_all [] miss = tt
in_line_all (b ∷ bytes) miss = (miss 0 (omega arith), in_line_all bytes (λ k lt. miss (suc k) (omega (arith, lt))))

none_test : (b : Bool) (x : ℕ) → cond b (Some x) None ≡ None → b ≡ false
none_test true x h = cc h
none_test false x h = refl

-- there is none
pub no_feed : (bytes : List ℕ) → position (λ byte. byte == 10) bytes ≡ None → IsInLine bytes
no_feed bytes none =
    let all_before : nat_lt (position_or_len (λ byte. byte == 10) bytes) (length bytes) ≡ false = none_test _ _ none in
    let whole : length bytes ≤ position_or_len (λ byte. byte == 10) bytes = grind (arith, nat_tests) in
    in_line_all bytes (λ k lt. fails_before_first (λ byte. byte == 10) bytes k 0 (omega (arith, lt, whole)))

-- ---- what a feed takes

take_front : (xs ys : List ℕ) → take (length xs) (xs ++ ys) ≡ xs
take_front [] ys = refl
take_front (x ∷ xs) ys = ap (λ l. x ∷ l) (take_front xs ys)

front_is : (held line rest : List ℕ) (b end : ℕ) → held ≡ line ++ b ∷ rest → length line ≡ end → take end held ≡ line
front_is held line rest b end cut long = ap (λ n. take n held) (sym long) ∙ ap (take (length line)) cut ∙ take_front
    line (b ∷ rest)

-- the next line, where its line feed is the first one
pub taken_line : (held slice line rest : List ℕ) (end : ℕ) → slice ≡ held → position (λ byte. byte == 10) slice
    ≡ Some end → held ≡ line ++ get_or held end 0 ∷ rest → length line ≡ end
    → (held ≡ line ++ 10 ∷ rest) × IsInLine line
taken_line held slice line rest end slice_is at cut long =
    let h = found_feed held end (subst (λ l. position (λ byte. byte == 10) l ≡ Some end) slice_is at) in
    let feed : get_or held end 0 ≡ 10 = eqb-true (get_or held end 0) 10 h.1 in (
      cut ∙ ap (λ b. line ++ b ∷ rest) feed,
      subst IsInLine (front_is held line rest (get_or held end 0) end cut long) h.2,
    )

-- none is whole
pub no_line : (held slice : List ℕ) → slice ≡ held → position (λ byte. byte == 10) slice ≡ None → IsInLine held
no_line held slice slice_is none = no_feed held (subst (λ l. position (λ byte. byte == 10) l ≡ None) slice_is none)

-- the line that comes next is too long, with its line feed and without one
pub long_feed : (held slice : List ℕ) (end : ℕ) → slice ≡ held → position (λ byte. byte == 10) slice ≡ Some end
    → longest_line < end → BeginsLong held
long_feed held slice end slice_is at long =
    let h = found_feed held end (subst (λ l. position (λ byte. byte == 10) l ≡ Some end) slice_is at) in
    record {
      line = take end held;
      back = drop end held;
      whole = sym (take-append-drop end held);
      in_line = h.2;
      long = omega (arith, long, length-take-le end held (omega (arith, h.0)));
    }

pub long_rest : (held slice : List ℕ) → slice ≡ held → position (λ byte. byte == 10) slice ≡ None → longest_line
    < length held → BeginsLong held
long_rest held slice slice_is none long = record {
  line = held;
  back = [];
  whole = sym (append-nil held);
  in_line = no_line held slice slice_is none;
  long = long;
}

-- a line that is too long stays so, whatever follows
pub long_before : (held more : List ℕ) → BeginsLong held → BeginsLong (held ++ more)
long_before held more l = record {
  line = l.line;
  back = l.back ++ more;
  whole = ap (λ h. h ++ more) l.whole ∙ append_assoc l.line l.back more;
  in_line = l.in_line;
  long = l.long;
}

-- ---- how long lines are

-- a line without its carriage return isn't longer
pub stripped_short : (line : List ℕ) → length (strip_carriage_return line) ≤ length line
stripped_short line = by (slice_index line (length line - 1) == 13)
  where
    by : (b : Bool) → length (if b then take (length line - 1) line else line) ≤ length line
    by true = omega (arith, length-take-le (length line - 1) line (omega arith))
    by false = omega arith

abbrev pub AreShort : List (List ℕ) → Type 0
AreShort lines = AllByRecursion (λ (line : List ℕ). length line ≤ longest_line) lines

pub short_more : (lines : List (List ℕ)) (line : List ℕ) → AreShort lines → length line ≤ longest_line
    → AreShort (lines ++ strip_carriage_return line ∷ [])
short_more [] line all one = (omega (arith, one, stripped_short line), tt)
short_more (first ∷ lines) line (short, all) one = (short, short_more lines line all one)
