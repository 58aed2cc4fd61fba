-- One more line of a schedule.
use Rattle.std.proofs.Common.{◌≡◌, ℕ, ◌+◌, List, [], ◌∷◌, Option, Some, None, Ok, map, refl, ap, ◌∙◌}
use Rattle.zb_text.specs.Words.{first_of}
use Rattle.zb_sched.specs.Judge.{Seat, Seen}
use Rattle.zb_sched.specs.Schedules.{node_of}
use Rattle.zb_sched.specs.Drafts.{seat_of}
use Rattle.zb_sched.specs.Reading.{after_line, numbered, reads}
use Rattle.zb_sched.specs.declared.entry.Entry.{Entry}

abbrev list_of : Option (List ℕ × List (List ℕ)) → List (List ℕ)
list_of None = []
list_of (Some x) = x.0 ∷ x.1

first_some : (xs : List (List ℕ)) (y : List ℕ) (ys : List (List ℕ)) → first_of xs ≡ Some (y, ys) → xs ≡ y ∷ ys
first_some [] y ys e = cc e
first_some (x ∷ xs) y ys e = ap list_of e

pub go_on : (number : ℕ) (seen next : Seen) (line : List ℕ) (ls more : List (List ℕ)) → first_of ls
    ≡ Some (line, more) → after_line seen line ≡ Ok next
    → reads number seen ls ≡ reads (number + 1) next more
go_on number seen next line ls more first step = ap (reads number seen) (first_some ls line more first) ∙ ap
    (λ r. numbered number r (λ n. reads (number + 1) n more)) step

pub nodes_of : (es : List Entry) → map node_of (map (λ (e : Entry). e.node) es)
    ≡ map (λ (s : Seat). s.node) (map seat_of es)
nodes_of [] = refl
nodes_of (e ∷ es) = rw (nodes_of es) refl
