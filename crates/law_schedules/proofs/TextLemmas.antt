-- What the lines of a text may say, and what the whole text is then.
use Rattle.std.proofs.Common.{◌≡◌, ℕ, ◌+◌, Bool, true, false, List, [], ◌∷◌, Option, Some, None, Result, Ok, Err, refl, sym, ◌∙◌, subst}
use Rattle.std.specs.Prelude.{IfSome, if◌then◌else◌}
use Rattle.std.specs.List.{AllByRecursion}
use Rattle.std.specs.Str.Lines.{lines}
use Rattle.zb_sched.specs.Judge.{Seen}
use Rattle.zb_sched.specs.Schedules.{Schedule}
use Rattle.zb_sched.specs.Reading.{after_line, after_meaning, finished, has_centre, numbered, reads, schedule_in, start}
use Rattle.zb_sched.specs.Valid.{IsSchedule, IsSoFar}
use Rattle.zb_sched.specs.declared.error.SchedCause.{SchedCause}
use Rattle.zb_sched.specs.declared.error.SchedCause.TheVariants.{Syntax, NoCentre}
use Rattle.zb_sched.specs.declared.error.SchedError.{SchedError}
use Rattle.zb_sched.proofs.Finished.{is_schedule, start_keeps}
use Rattle.zb_sched.proofs.Kept.{kept}
use Rattle.zb_sched_line.specs.Fits.{FitsSentence}
use Rattle.zb_sched_line.specs.Grammar.{meaning_of}
use Rattle.zb_sched_line.specs.Said.{Sentence}
use Rattle.zb_sched_line.specs.Views.{sentence_of}
use Rattle.zb_sched_line.specs.declared.line.Line.{Line}
use Rattle.zb_text.specs.Words.{Shows, first_of}

-- whatever the line says is in its range
abbrev pub LineFits : List ℕ → Type 0
LineFits line = (s : Sentence) → meaning_of line ≡ Some s → FitsSentence s

-- an Ok is no Err, a Some no None, and if two of them are equal, so are their contents

abbrev good : (A E : Type 0) → A → Result A E
good A E a = Ok a

abbrev bad : (A E : Type 0) → E → Result A E
bad A E e = Err e

abbrev OkIs : {A E : Type 0} → (A → Type 0) → Result A E → Type 0
OkIs P (Ok a) = P a
OkIs P (Err e) = Unit {0}

ok_same : (A E : Type 0) (a b : A) → good A E a ≡ Ok b → a ≡ b
ok_same A E a b e = subst (λ (r : Result A E). OkIs (λ x. a ≡ x) r) e refl

abbrev IsErr : {A E : Type 0} → Result A E → Type 0
IsErr (Ok a) = ⊥
IsErr (Err e) = Unit {0}

no_err : (A E : Type 0) (e : E) (a : A) → bad A E e ≡ Ok a → ⊥
no_err A E e a same = subst (λ (r : Result A E). IsErr r) same tt

abbrev SomeIs : {A : Type 0} → (A → Type 0) → Option A → Type 0
SomeIs P (Some a) = P a
SomeIs P None = Unit {0}

some_same : {A : Type 0} (a b : A) → Some a ≡ Some b → a ≡ b
some_same {A} a b e = subst (λ (o : Option A). SomeIs (λ x. a ≡ x) o) e refl

abbrev IsNone : {A : Type 0} → Option A → Type 0
IsNone (Some a) = ⊥
IsNone None = Unit {0}

no_none : {A : Type 0} (a : A) → None ≡ Some a → ⊥
no_none {A} a e = subst (λ (o : Option A). IsNone o) e tt

-- what a call answered of a line
pub shown_fits : (r : Option Line) (line : List ℕ) → Shows sentence_of r (meaning_of line)
    → IfSome r (λ l. FitsSentence (sentence_of l)) → LineFits line
shown_fits None line shows fits s says = absurd (no_none s (sym shows ∙ says))
shown_fits (Some l) line shows fits s says = subst FitsSentence (some_same (sentence_of l) s (sym shows ∙ says)) fits

-- one more line in front
pub one_more : (line : List ℕ) (ls more : List (List ℕ)) → first_of ls ≡ Some (line, more) → LineFits line
    → AllByRecursion LineFits more → AllByRecursion LineFits ls
one_more line [] more first fits all = absurd (no_none (line, more) first)
one_more line (l ∷ ls) more first fits all =
    subst (λ (x : List ℕ × List (List ℕ)). AllByRecursion LineFits (x.0 ∷ x.1))
    (sym (some_same (l, ls) (line, more) first)) (fits, all)

-- no more lines
pub no_more : (ls : List (List ℕ)) → first_of ls ≡ None → AllByRecursion LineFits ls
no_more [] first = tt
no_more (l ∷ ls) first = absurd (no_none (l, ls) (sym first))

-- a line that was accepted keeps what every schedule keeps
meant : (seen next : Seen) (line : List ℕ) (o : Option Sentence) → meaning_of line ≡ o → LineFits line
    → after_meaning seen o ≡ Ok next → IsSoFar (finished seen) → IsSoFar (finished next)
meant seen next line None says fits step so_far = absurd (no_err Seen SchedCause Syntax next step)
meant seen next line (Some s) says fits step so_far = kept seen next s (fits s says) step so_far

abbrev at_end : ℕ → Seen → Bool → Result Schedule SchedError
at_end number seen b = if b then Ok (finished seen) else Err (record { line = number; cause = NoCentre })

ended : (number : ℕ) (seen : Seen) (p : Schedule) (b : Bool) → has_centre seen.seats ≡ b → at_end number seen b ≡ Ok p
    → IsSoFar (finished seen) → IsSchedule p
ended number seen p true centre step so_far =
    is_schedule seen p (sym (ok_same Schedule SchedError (finished seen) p step)) so_far centre
ended number seen p false centre step so_far =
    absurd (no_err Schedule SchedError (record { line = number; cause = NoCentre }) p step)

gone_on : (number : ℕ) (seen : Seen) (p : Schedule) (line : List ℕ) (more : List (List ℕ))
    (r : Result Seen SchedCause) → after_line seen line ≡ r → LineFits line → IsSoFar (finished seen)
    → ((next : Seen) → IsSoFar (finished next) → reads (number + 1) next more ≡ Ok p → IsSchedule p)
    → numbered number r (λ next. reads (number + 1) next more) ≡ Ok p → IsSchedule p
gone_on number seen p line more (Err cause) e fits so_far later read =
    absurd (no_err Schedule SchedError (record { line = number; cause = cause }) p read)
gone_on number seen p line more (Ok next) e fits so_far later read =
    later next (meant seen next line (meaning_of line) refl fits e so_far) read

whole : (ls : List (List ℕ)) → AllByRecursion LineFits ls → (number : ℕ) (seen : Seen) (p : Schedule)
    → IsSoFar (finished seen) → reads number seen ls ≡ Ok p → IsSchedule p
whole [] fits number seen p so_far read = ended number seen p (has_centre seen.seats) refl read so_far
whole (line ∷ more) fits number seen p so_far read =
    gone_on number seen p line more (after_line seen line) refl fits.0 so_far
    (λ next kept_so_far rest. whole more fits.1 (number + 1) next p kept_so_far rest) read

pub text_keeps : (text : List ℕ) → AllByRecursion LineFits (lines text) → (p : Schedule) → schedule_in text ≡ Ok p
    → IsSchedule p
text_keeps text fits p read = whole (lines text) fits 1 start p (start_keeps start refl) read
