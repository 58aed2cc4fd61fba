-- The first bad line of a list with one more line.
use Rattle.std.proofs.Common.{◌≡◌, ℕ, ◌+◌, Bool, true, false, ◌||◌, List, [], ◌∷◌, ◌++◌, length, append_assoc, Option, Some, None, refl, ap, sym, ◌∙◌}
use Rattle.std.specs.List.{list_any}
use Rattle.std.specs.Option.{option_or}
use Rattle.std.specs.Prelude.{if◌then◌else◌}
use Rattle.std.proofs.lemmas.List.{append-nil}
use Rattle.std.proofs.lemmas.List.Folds.{list_any-append}
use Rattle.zb_trace.specs.declared.line.Line.{Line}
use Rattle.zb_audit.specs.Failing.{failing, failing_from, head}

pub failing_at_end : (test : List Line → Line → Bool) (g h : List Line) (l : Line)
    → failing_from test g (h ++ l ∷ []) ≡ failing_from test g h
    ++ (if test (g ++ h) l then [] else (length (g ++ h) + 1) ∷ [])
unfolding failing_from
failing_at_end test g [] l =
    append-nil (if test g l then [] else (length g + 1) ∷ []) ∙ ap (λ (x : List Line). if test x l then []
    else (length x + 1) ∷ []) (sym (append-nil g))
failing_at_end test g (m ∷ h) l =
    ap (λ (ns : List ℕ). (if test g m then [] else (length g + 1) ∷ []) ++ ns) (failing_at_end test (g ++ m ∷ []) h l)
    ∙ (sym (append_assoc (if test g m then [] else (length g + 1) ∷ []) (failing_from test (g ++ m ∷ []) h)
    (if test ((g ++ m ∷ []) ++ h) l then [] else (length ((g ++ m ∷ []) ++ h) + 1) ∷ []))
    ∙ ap (λ (x : List Line). ((if test g m then [] else (length g + 1) ∷ []) ++ failing_from test (g ++ m ∷ []) h)
    ++ (if test x l then [] else (length x + 1) ∷ [])) (append_assoc g (m ∷ []) h))

pub head_then : {A : Type 0} (xs : List A) (b : Bool) (x : A) → head (xs ++ (if b then [] else x ∷ []))
    ≡ option_or (head xs) (if b then None else Some x)
head_then [] true x = refl
head_then [] false x = refl
head_then (y ∷ xs) b x = refl

pub failing_more : (test : List Line → Line → Bool) (h : List Line) (l : Line) → head (failing test (h ++ l ∷ []))
    ≡ option_or (head (failing test h)) (if test h l then None else Some (length h + 1))
unfolding failing
failing_more test h l = ap head (failing_at_end test [] h l) ∙ head_then (failing_from test [] h) (test h l)
    (length h + 1)

-- What the code notes of a line is what the definition adds.
pub first_more : (test : List Line → Line → Bool) (old new : Option ℕ) (number : ℕ) (good : Bool) (h : List Line)
    (l : Line) → new ≡ option_or old (if good then None else Some number)
    → good ≡ test h l → number ≡ length h + 1 → old ≡ head (failing test h) → new ≡ head (failing test (h ++ l ∷ []))
first_more test old new number good h l is same here before =
    is ∙ (rw (same, here, before) (sym (failing_more test h l)))

or_none : {A : Type 0} (o : Option A) → option_or o None ≡ o
or_none None = refl
or_none (Some x) = refl

-- A good line.
pub first_stays : (test : List Line → Line → Bool) (old : Option ℕ) (h : List Line) (l : Line) → test h l ≡ true → old
    ≡ head (failing test h) → old ≡ head (failing test (h ++ l ∷ []))
first_stays test old h l good before =
    sym (failing_more test h l ∙
    (ap (λ (b : Bool). option_or (head (failing test h)) (if b then None else Some (length h + 1))) good ∙
    (or_none (head (failing test h)) ∙ sym before)))

pub or_false : (a : Bool) → (a || false) ≡ a
or_false true = refl
or_false false = refl

pub any_more : {A : Type 0} (p : A → Bool) (h : List A) (l : A) → list_any p (h ++ l ∷ []) ≡ (list_any p h || p l)
any_more p h l = list_any-append p h (l ∷ []) ∙ ap (λ (b : Bool). list_any p h || b) (or_false (p l))

pub any_stays : {A : Type 0} (p : A → Bool) (h : List A) (l : A) → p l ≡ false → list_any p (h ++ l ∷ [])
    ≡ list_any p h
any_stays p h l none = any_more p h l ∙ (ap (λ (b : Bool). list_any p h || b) none ∙ or_false (list_any p h))
