-- One line is read from the start of a text.
use Rattle.std.proofs.Common.{◌≡◌, ℕ, ◌<◌, ◌==◌, List, [], ◌∷◌, ◌++◌, length, get_or, map, true, false, Option, Some, None, refl, arith, ap, sym, ◌∙◌, append_assoc, append-nil, nat_lt, length-append}
use Rattle.std.specs.Prelude.{IfSome}
use Rattle.std.specs.List.{AllByRecursion, join_with_byte}
use Rattle.std.specs.Option.{MatchOption}
use Rattle.std.proofs.lemmas.Bool.Decides.{nat_tests}
use Rattle.std.proofs.lemmas.List.{append_cancel_left}
use Rattle.std.proofs.lemmas.List.Splits.{slice_split_at, join_with_byte-slice_split}
use Rattle.std.proofs.lemmas.List.Sums.{AllPass-from_list_all}
use Rattle.zb_text.specs.Pages.{IsWord, IsLine, line_of_words}
use Rattle.zb_text.specs.Words.{nothing, parts, Shows}
use Rattle.zb_text.specs.Words.{words as words_of}
use Rattle.zb_text.proofs.Cuts.{parts_are_some}
use Rattle.zb_text.proofs.ReadAgain as again
use Rattle.zb_text.proofs.ReadAgain.{IsLine-words}
use Rattle.zb_trace.specs.Text.{Word, spelled, trailing, line_of, words, text, texts, IsProper, AllProper}
use Rattle.zb_trace.specs.declared.line.Line.{Line}
use Rattle.zb_trace_read.specs.Places.{read_into}
use Rattle.zb_trace_read.specs.Reading.{read_words}
use Rattle.zb_trace_read.proofs.Printed.{words_again}
use Rattle.zb_trace_read.proofs.Spelled.{words_are}

-- The text of a line is its words, joined, and a line feed.

joined : (w : Word) (ws : List Word) → spelled w ++ trailing ws ≡ line_of_words (spelled w ∷ map spelled ws)
joined w [] = append-nil (spelled w)
joined w (v ∷ vs) = ap (λ rest. spelled w ++ 32 ∷ rest) (joined v vs)

abbrev joined_words : List Word → List ℕ
joined_words ws = line_of_words (map spelled ws)

line_ended : (ws : List Word) → line_of ws ≡ joined_words ws ++ 10 ∷ []
line_ended [] = refl
line_ended (w ∷ ws) = sym (append_assoc (spelled w) (trailing ws) (10 ∷ [])) ∙ ap (λ front. front ++ 10 ∷ [])
    (joined w ws)

lacks_line_feed : (line : List ℕ) → IsLine line → (k d : ℕ) → k < length line → (get_or line k d == 10) ≡ false
lacks_line_feed line fits k d lt =
    let above : nat_lt 31 (get_or line k d) ≡ true = AllPass-from_list_all (λ byte. nat_lt 31 byte) line fits k d lt
    in grind (arith, nat_tests)

abbrev pub body : Line → List ℕ
body l = joined_words (words l)

text_front : (l : Line) (more : List ℕ) → text l ++ more ≡ body l ++ 10 ∷ more
unfolding text
text_front l more = ap (λ whole. whole ++ more) (line_ended (words l)) ∙ append_assoc (body l) (10 ∷ []) more

read_nonempty : (ws : List Word) → AllByRecursion IsWord (map spelled ws) → read_words (map spelled ws) ≡ Some ws
    → read_words (words_of (Some (joined_words ws))) ≡ Some ws
unfolding read_words
read_nonempty [] are reads = cc reads
read_nonempty (w ∷ ws) are reads = ap read_words (again.words_again (spelled w) (map spelled ws) are.0 are.1) ∙ reads

-- And what it is read as.
pub body_again : (l : Line) → IsProper l → read_words (words_of (Some (body l))) ≡ Some (words l)
body_again l proper = read_nonempty (words l) (words_again l proper).1 (words_again l proper).0

one_head : {X : Type 0} (x y : X) (xs ys : List X) → (x ∷ xs) ≡ (y ∷ ys) → x ≡ y
one_head x y xs ys e = cc e

one_some : {X : Type 0} (x y : X) → Some x ≡ Some y → x ≡ y
one_some x y e = cc e

abbrev read_joined : List ℕ → Option (List Word)
read_joined line = read_words (words_of (Some line))

-- What is before the first line feed of a text that begins with a line, and what is after it.
parts_of_text : (l : Line) (more : List ℕ) → IsProper l → parts 10 (text l ++ more) ≡ body l ∷ parts 10 more
parts_of_text l more proper =
    let fits = IsLine-words (map spelled (words l)) (words_again l proper).1 in
    ap (parts 10) (text_front l more)
    ∙ slice_split_at (λ b. b == 10) (body l) 10 more (lacks_line_feed (body l) fits) refl

-- A text without a line feed doesn't begin with a line.
pub no_line : (bytes : List ℕ) (l : Line) (more : List ℕ) → IsProper l → bytes ≡ text l ++ more
    → parts 10 bytes ≡ bytes ∷ [] → ⊥
no_line bytes l more proper e none =
    no_parts (parts 10 more) (parts_are_some 10 more)
    (sym (parts_of_text l more proper) ∙ (ap (parts 10) (sym e) ∙ none))
  where
    no_parts : (ps : List (List ℕ)) → nothing ps ≡ None → body l ∷ ps ≡ bytes ∷ [] → ⊥
    no_parts [] some same = cc some
    no_parts (p ∷ ps) some same = cc same

-- The line that was read is the one with which the text begins.
pub begins_with : (bytes front : List ℕ) (after : List (List ℕ)) (l : Line) (more : List ℕ) → IsProper l → bytes
    ≡ text l ++ more → parts 10 bytes ≡ front ∷ after → read_joined front ≡ Some (words l)
begins_with bytes front after l more proper e cut =
    let same : body l ≡ front =
    one_head (body l) front (parts 10 more) after
    (sym (parts_of_text l more proper) ∙ (ap (parts 10) (sym e) ∙ cut)) in
    sym (ap read_joined same) ∙ body_again l proper

-- A text is what is before its first line feed, that line feed, and what is after it.
joined_parts : (front : List ℕ) (ps : List (List ℕ)) → nothing ps ≡ None → join_with_byte 10 (front ∷ ps)
    ≡ front ++ 10 ∷ join_with_byte 10 ps
joined_parts front [] some = cc some
joined_parts front (p ∷ ps) some = refl

cut_text : (bytes front rest : List ℕ) → parts 10 bytes ≡ front ∷ parts 10 rest → bytes ≡ front ++ 10 ∷ rest
cut_text bytes front rest cut =
    sym (join_with_byte-slice_split 10 bytes)
    ∙ (ap (join_with_byte 10) cut
    ∙ (joined_parts front (parts 10 rest) (parts_are_some 10 rest)
    ∙ ap (λ t. front ++ 10 ∷ t) (join_with_byte-slice_split 10 rest)))

-- What is read is what is before the line feed.
read_front : (front : List ℕ) (l : Line) → read_joined front ≡ Some (words l) → body l ≡ front
read_front front l reads =
    ap line_of_words (spells (read_joined front) reads (words_are (words_of (Some front))))
    ∙ join_with_byte-slice_split 32 front
  where
    spells : (o : Option (List Word)) → o ≡ Some (words l)
        → IfSome o (λ out. map spelled out ≡ words_of (Some front)) → map spelled (words l) ≡ words_of (Some front)
    spells None e are = cc e
    spells (Some out) e are = let same : out ≡ words l = cc e in ap (map spelled) (sym same) ∙ are

pub is_text : (bytes front rest : List ℕ) (l : Line) → parts 10 bytes ≡ front ∷ parts 10 rest
    → read_joined front ≡ Some (words l) → bytes ≡ text l ++ rest
is_text bytes front rest l cut reads =
    cut_text bytes front rest cut
    ∙ (ap (λ t. t ++ 10 ∷ rest) (sym (read_front front l reads)) ∙ sym (text_front l rest))

pub rest_is_shorter : (bytes front rest : List ℕ) → parts 10 bytes ≡ front ∷ parts 10 rest → length rest
    < length bytes
rest_is_shorter bytes front rest cut =
    let whole = ap (length {A = ℕ}) (cut_text bytes front rest cut) in omega
    (arith, whole, length-append front (10 ∷ rest))

-- A text begins with the text of at most one line.

same_words : (a b : Line) (p q : List ℕ) → IsProper a → IsProper b → text a ++ p ≡ text b ++ q → words a ≡ words b
same_words a b p q proper_a proper_b e =
    let bodies : body a ≡ body b =
    one_head _ _ _ _ (sym (parts_of_text a p proper_a) ∙ (ap (parts 10) e ∙ parts_of_text b q proper_b)) in
    one_some _ _ (sym (body_again a proper_a) ∙ (ap read_joined bodies ∙ body_again b proper_b))

text_of_words : (a b : Line) → words a ≡ words b → text a ≡ text b
unfolding text
text_of_words a b e = ap line_of e

pub one_front : (a b : Line) (p q : List ℕ) → IsProper a → IsProper b → text a ++ p ≡ text b ++ q
    → (words a ≡ words b) × (p ≡ q)
one_front a b p q proper_a proper_b e =
    let same = same_words a b p q proper_a proper_b e in
    (same, append_cancel_left (text a) p q (e ∙ ap (λ front. front ++ q) (sym (text_of_words a b same))))

some_text : (l : Line) (more : List ℕ) → text l ++ more ≡ [] → ⊥
some_text l more e = no_end (body l) (sym (text_front l more) ∙ e)
  where
    no_end : (front : List ℕ) → front ++ 10 ∷ more ≡ [] → ⊥
    no_end [] h = cc h
    no_end (b ∷ bs) h = cc h

-- Two lists of lines that have the same text are the same, word for word.
pub one_text : (ls ms : List Line) → AllProper ls → AllProper ms → texts ls ≡ texts ms → map words ls ≡ map words ms
one_text [] [] proper_a proper_b e = refl
one_text [] (b ∷ ms) proper_a proper_b e = absurd (some_text b (texts ms) (sym e))
one_text (a ∷ ls) [] proper_a proper_b e = absurd (some_text a (texts ls) e)
one_text (a ∷ ls) (b ∷ ms) proper_a proper_b e =
    let both = one_front a b (texts ls) (texts ms) proper_a.0 proper_b.0 e in
    ap (λ (first : List Word). first ∷ map words ls) both.0 ∙ ap (λ (more : List (List Word)). words b ∷ more)
    (one_text ls ms proper_a.1 proper_b.1 both.1)

-- The steps of reading one line

pub read_none : (r : Option Unit) (l : Line) (x : Option (List Word)) → Shows words (read_into r l) x → r ≡ None
    → x ≡ None
read_none None l x shows e = shows
read_none (Some u) l x shows e = cc e

pub read_some : (r : Option Unit) (u : Unit) (l : Line) (x : Option (List Word)) → Shows words (read_into r l) x
    → r ≡ Some u → x ≡ Some (words l)
read_some None u l x shows e = cc e
read_some (Some v) u l x shows e = shows

pub read_fits : (r : Option Unit) (u : Unit) (l : Line) → IfSome r (λ _. IsProper l) → r ≡ Some u → IsProper l
read_fits None u l fits e = cc e
read_fits (Some v) u l fits e = fits

-- The steps of reading lines

-- A text of lines has no first bad line.
pub no_bad : (before ls : List Line) (bytes rest : List ℕ) → AllProper before → AllProper ls → bytes ≡ texts before
    ++ rest → (rest ≡ [] → ⊥)
    → ((l : Line) (more : List ℕ) → IsProper l → rest ≡ text l ++ more → ⊥) → bytes ≡ texts ls → ⊥
no_bad [] [] bytes rest proper_b proper e some bad whole = some (sym e ∙ whole)
no_bad [] (l ∷ ls) bytes rest proper_b proper e some bad whole = bad l (texts ls) proper.0 (sym e ∙ whole)
no_bad (b ∷ before) [] bytes rest proper_b proper e some bad whole =
    some_text b (texts before ++ rest) (sym (append_assoc (text b) (texts before) rest) ∙ (sym e ∙ whole))
no_bad (b ∷ before) (l ∷ ls) bytes rest proper_b proper e some bad whole =
    let fronts = one_front b l (texts before ++ rest) (texts ls) proper_b.0 proper.0
    (sym (append_assoc (text b) (texts before) rest) ∙ (sym e ∙ whole)) in
    no_bad before ls (texts ls) rest proper_b.1 proper.1 (sym fronts.1) some bad refl

pub match_none : {X : Type 0} (o : Option X) (P : Type 0) (Q : X → Type 0) → MatchOption o P Q → o ≡ None → P
match_none None P Q h e = h
match_none (Some x) P Q h e = cc e

pub nothing_left : (bytes done rest : List ℕ) → bytes ≡ done ++ rest → length rest ≡ 0 → bytes ≡ done
nothing_left bytes done [] e empty = e ∙ append-nil done
nothing_left bytes done (b ∷ bs) e empty = absurd (omega (arith, empty))

pub not_empty : (rest : List ℕ) → (length rest ≡ 0 → ⊥) → rest ≡ [] → ⊥
not_empty rest some e = some (ap (length {A = ℕ}) e)
