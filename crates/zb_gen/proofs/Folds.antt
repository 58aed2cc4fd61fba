-- Lines taken one after the other.
use Rattle.std.proofs.Common.{◌≡◌, ℕ, ◌+◌, ◌*◌, ◌-◌, ◌<◌, suc, List, [], ◌∷◌, ◌++◌, map, Result, Ok, Err, Option, Some, refl, arith, ap, sym, ◌∙◌, subst, append-nil, codes}
use Rattle.std.specs.List.{flat_map, range_with_len}
use Rattle.std.specs.Prelude.{IsErrAnd}
use Rattle.std.proofs.lemmas.Grind.{flat_map-append}
use Rattle.std.proofs.lemmas.List.Concat.{flat_map_single}
use Rattle.zb_sched_line.specs.Grammar.{meaning_of}
use Rattle.zb_sched_line.specs.Said.{Sentence}
use Rattle.zb_sched.specs.Judge.{Seen, after_sentence as judged}
use Rattle.zb_sched.specs.Reading.{after_meaning}
use Rattle.zb_sched.specs.declared.error.SchedCause.{SchedCause}
use Rattle.zb_sched.specs.declared.error.SchedError.{SchedError}
use Rattle.zb_gen.specs.Made.{code_line, draw_line, join_lines, late_line, netkey_line, node_line, step_lines}
use Rattle.zb_gen.specs.Progress.{after_sentence, after_text, after_texts, Comes, go_on, moved, Progress}
use Rattle.zb_gen.specs.declared.maker.GenFault.{GenFault}
use Rattle.zb_gen.specs.declared.maker.GenFault.TheVariants.{Clash, NoMemory}
use Rattle.zb_gen.proofs.Ranges.{range_more, range_split}

-- ---- a line

go_on_ok : (x : Result Progress SchedError) → go_on x (λ q. Ok q) ≡ x
go_on_ok (Ok p) = refl
go_on_ok (Err fault) = refl

of_text : (p : Progress) (text : List ℕ) (sentence : Sentence) → meaning_of text ≡ Some sentence → after_text p text
    ≡ after_sentence p sentence
unfolding after_text after_sentence
of_text p text sentence means = ap (λ (o : Option Sentence). moved p.line (after_meaning p.seen o)) means

-- a call took what a line says, so it took the line
pub takes : (r : Result Unit GenFault) (p t : Progress) (text : List ℕ) (sentence : Sentence) → meaning_of text
    ≡ Some sentence
    → Comes r t (after_sentence p sentence) → Comes r t (after_texts p (text ∷ []))
takes r p t text sentence means comes =
    subst (λ (x : Result Progress SchedError). Comes r t x)
    (sym (go_on_ok (after_text p text) ∙ of_text p text sentence means)) comes

-- ---- lines after others

both_by : (r : Result Progress SchedError) (xs ys : List (List ℕ))
    → ((q : Progress) → after_texts q (xs ++ ys) ≡ go_on (after_texts q xs) (λ t. after_texts t ys))
    → go_on r (λ q. after_texts q (xs ++ ys)) ≡ go_on (go_on r (λ q. after_texts q xs)) (λ t. after_texts t ys)
both_by (Ok q) xs ys more = more q
both_by (Err fault) xs ys more = refl

pub after_both : (xs ys : List (List ℕ)) (p : Progress) → after_texts p (xs ++ ys)
    ≡ go_on (after_texts p xs) (λ q. after_texts q ys)
after_both [] ys p = refl
after_both (x ∷ xs) ys p = both_by (after_text p x) xs ys (after_both xs ys)

-- what a call answered of lines after others that were taken
pub then_comes : (r : Result Unit GenFault) (p q t : Progress) (xs ys : List (List ℕ)) → after_texts p xs ≡ Ok q
    → Comes r t (after_texts q ys)
    → Comes r t (after_texts p (xs ++ ys))
then_comes r p q t xs ys first comes =
    subst (λ (x : Result Progress SchedError). Comes r t x)
    (sym (after_both xs ys p ∙ ap (λ (x : Result Progress SchedError). go_on x (λ s. after_texts s ys)) first))
    comes

stop_by : (fault : GenFault) (t u : Progress) (x : Result Progress SchedError)
    (f : Progress → Result Progress SchedError) → Comes (Err fault) t x
    → Comes (Err fault) u (go_on x f)
stop_by (Clash line cause) t u x f stopped = ap (λ (y : Result Progress SchedError). go_on y f) stopped
stop_by NoMemory t u x f stopped = tt

-- a fault in lines is the fault of all that begin with them
pub stops : (fault : GenFault) (p t u : Progress) (xs ys : List (List ℕ)) → Comes (Err fault) t (after_texts p xs)
    → Comes (Err fault) u (after_texts p (xs ++ ys))
stops fault p t u xs ys stopped =
    subst (λ (x : Result Progress SchedError). Comes (Err fault) u x) (sym (after_both xs ys p))
    (stop_by fault t u (after_texts p xs) (λ s. after_texts s ys) stopped)

-- ---- the lines of a range of numbers

part_more : (f : ℕ → List (List ℕ)) (a k : ℕ) → flat_map f (range_with_len a (k + 1))
    ≡ flat_map f (range_with_len a k) ++ f (a + k)
part_more f a k =
    ap (flat_map f) (range_more a k) ∙ flat_map-append f (range_with_len a k) ((a + k) ∷ [])
    ∙ ap (λ (y : List (List ℕ)). flat_map f (range_with_len a k) ++ y) (append-nil (f (a + k)))

-- the lines of one number more, which is j
pub part_done : (f : ℕ → List (List ℕ)) (a k j : ℕ) (p q t : Progress) → j ≡ a + k
    → after_texts p (flat_map f (range_with_len a k)) ≡ Ok q → after_texts q (f j) ≡ Ok t
    → after_texts p (flat_map f (range_with_len a (k + 1))) ≡ Ok t
part_done f a k j p q t at so_far step =
    ap (after_texts p) (part_more f a k) ∙ after_both (flat_map f (range_with_len a k)) (f (a + k)) p
    ∙ ap (λ (x : Result Progress SchedError). go_on x (λ s. after_texts s (f (a + k)))) so_far ∙ ap
    (λ (x : ℕ). after_texts q (f x)) (sym at) ∙ step

part_split : (f : ℕ → List (List ℕ)) (a k n : ℕ) → k < n
    → flat_map f (range_with_len a n) ≡ flat_map f (range_with_len a k)
    ++ (f (a + k) ++ flat_map f (range_with_len (a + k + 1) (n - k - 1)))
part_split f a k n lt =
    let whole : n ≡ k + suc (n - k - 1) = omega (arith, lt) in
    ap (λ (x : ℕ). flat_map f (range_with_len a x)) whole ∙ ap (flat_map f) (range_split k (suc (n - k - 1)) a)
    ∙ flat_map-append f (range_with_len a k) (range_with_len (a + k) (suc (n - k - 1)))

-- a fault in the lines of the number j
pub part_stops : (f : ℕ → List (List ℕ)) (a k j n : ℕ) (fault : GenFault) (p q t u : Progress) → j ≡ a + k → k < n
    → after_texts p (flat_map f (range_with_len a k)) ≡ Ok q
    → Comes (Err fault) t (after_texts q (f j)) → Comes (Err fault) u (after_texts p (flat_map f (range_with_len a n)))
part_stops f a k j n fault p q t u at lt so_far stopped =
    subst (λ (ls : List (List ℕ)). Comes (Err fault) u (after_texts p ls)) (sym (part_split f a k n lt))
    (then_comes (Err fault) p q u (flat_map f (range_with_len a k))
    (f (a + k) ++ flat_map f (range_with_len (a + k + 1) (n - k - 1))) so_far
    (stops fault q t u (f (a + k)) (flat_map f (range_with_len (a + k + 1) (n - k - 1)))
    (subst (λ (x : ℕ). Comes (Err fault) t (after_texts q (f x))) at stopped)))

of_each : (g : ℕ → List ℕ) (xs : List ℕ) → flat_map (λ x. g x ∷ []) xs ≡ map g xs
of_each g xs = flat_map_single g xs

-- one line more, that of the number j
pub line_done : (g : ℕ → List ℕ) (a k j : ℕ) (p q t : Progress) → j ≡ a + k
    → after_texts p (map g (range_with_len a k)) ≡ Ok q → after_texts q (g j ∷ []) ≡ Ok t
    → after_texts p (map g (range_with_len a (k + 1))) ≡ Ok t
line_done g a k j p q t at so_far step =
    ap (after_texts p) (sym (of_each g (range_with_len a (k + 1))))
    ∙ part_done (λ x. g x ∷ []) a k j p q t at (ap (after_texts p) (of_each g (range_with_len a k)) ∙ so_far) step

-- a fault in the line of the number j
pub line_stops : (g : ℕ → List ℕ) (a k j n : ℕ) (fault : GenFault) (p q t u : Progress) → j ≡ a + k → k < n
    → after_texts p (map g (range_with_len a k)) ≡ Ok q
    → Comes (Err fault) t (after_texts q (g j ∷ [])) → Comes (Err fault) u (after_texts p (map g (range_with_len a n)))
line_stops g a k j n fault p q t u at lt so_far stopped =
    subst (λ (ls : List (List ℕ)). Comes (Err fault) u (after_texts p ls)) (of_each g (range_with_len a n))
    (part_stops (λ x. g x ∷ []) a k j n fault p q t u at lt
    (ap (after_texts p) (of_each g (range_with_len a k)) ∙ so_far) stopped)

-- ---- what a call hands on

-- a fault that is handed on
pub handed : (r : Result Unit GenFault) (fault : GenFault) (t : Progress) (x : Result Progress SchedError)
    → IsErrAnd r (λ other. other ≡ fault)
    → Comes (Err fault) t x → Comes r t x
handed (Ok done) fault t x is comes = absurd is
handed (Err other) fault t x is comes = subst (λ (f : GenFault). Comes (Err f) t x) (sym is) comes

-- what a line says, judged
pub said_so : (p q : Progress) (sentence : Sentence) (r : Result Seen SchedCause) → p ≡ q → judged q.seen sentence ≡ r
    → after_sentence p sentence ≡ moved q.line r
unfolding after_sentence
said_so p q sentence r at is = ap (λ (x : Progress). moved x.line (judged x.seen sentence)) at ∙ ap (moved q.line) is

-- ---- the parts of the made lines

abbrev pub node_lines : ℕ → List (List ℕ)
node_lines n = map node_line (range_with_len 1 n)

abbrev pub code_lines : ℕ → ℕ → List (List ℕ)
code_lines first n = map (λ i. code_line first i) (range_with_len 1 n)

abbrev pub supply_lines : ℕ → ℕ → List (List ℕ)
supply_lines first n = netkey_line first n ∷ map (λ j. draw_line first n j) (range_with_len 0 (n + 1))

abbrev pub all_joins : ℕ → ℕ → List (List ℕ)
all_joins first n = flat_map (λ i. join_lines first i) (range_with_len 1 n)

abbrev pub all_steps : ℕ → ℕ → List (List ℕ)
all_steps first n = flat_map (λ k. step_lines first n (8 * n + 8 + 4 * k)) (range_with_len 0 (20 * n))

abbrev pub all_late : ℕ → ℕ → List (List ℕ)
all_late first n = map (λ k. late_line first n (88 * n + 8 + 2 * k)) (range_with_len 0 (10 * n))

abbrev pub timers : ℕ → List (List ℕ)
timers count = map (λ k. codes "timer c") (range_with_len 0 count)
