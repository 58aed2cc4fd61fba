-- Lines that are all taken, from one state of the judge to another.
use Rattle.std.proofs.Common.{◌≡◌, ℕ, ◌+◌, List, [], ◌∷◌, ◌++◌, true, Some, Ok, refl, ap, sym, ◌∙◌, subst, append_assoc, append-nil}
use Rattle.std.specs.List.{flat_map}
use Rattle.zb_sched_line.specs.Grammar.{meaning_of}
use Rattle.zb_sched_line.specs.Said.{Sentence}
use Rattle.zb_sched.specs.Judge.{Seen, after_sentence}
use Rattle.zb_sched.specs.Reading.{after_line, after_meaning, finished, has_centre, numbered, reads}

abbrev pub Leads : Seen → List (List ℕ) → Seen → Type 0
Leads from [] to = from ≡ to
Leads from (line ∷ more) to = (next : Seen) × (after_line from line ≡ Ok next) × Leads next more to

pub then_on : (from mid to : Seen) (xs ys : List (List ℕ)) → Leads from xs mid → Leads mid ys to
    → Leads from (xs ++ ys) to
then_on from mid to [] ys first second = subst (λ (s : Seen). Leads s ys to) (sym first) second
then_on from mid to (line ∷ xs) ys first second = (first.0, first.1, then_on first.0 mid to xs ys first.2 second)

pub leads_from : (from other to : Seen) (xs : List (List ℕ)) → from ≡ other → Leads other xs to → Leads from xs to
leads_from from other to xs e leads = subst (λ (s : Seen). Leads s xs to) (sym e) leads

pub leads_to : (from to other : Seen) (xs : List (List ℕ)) → Leads from xs to → to ≡ other → Leads from xs other
leads_to from to other xs leads e = subst (λ (s : Seen). Leads from xs s) e leads

-- one line, by what it means
pub one_line : (from to : Seen) (line : List ℕ) (sentence : Sentence) → meaning_of line ≡ Some sentence
    → after_sentence from sentence ≡ Ok to → Leads from (line ∷ []) to
one_line from to line sentence means step = (to, ap (after_meaning from) means ∙ step, refl)

-- the lines of all items of a list, one item after the other
pub item_by_item : {X : Type 0} (state : List X → List X → Seen) (out : X → List (List ℕ)) (xs : List X)
    → ((done : List X) (x : X) (todo : List X) → xs ≡ done ++ x ∷ todo
    → Leads (state done (x ∷ todo)) (out x) (state (done ++ x ∷ []) todo))
    → (done todo : List X) → xs ≡ done ++ todo → Leads (state done todo) (flat_map out todo) (state xs [])
item_by_item state out xs step done [] is = ap (λ l. state l []) (sym (is ∙ append-nil done))
item_by_item state out xs step done (x ∷ todo) is =
    then_on (state done (x ∷ todo)) (state (done ++ x ∷ []) todo) (state xs []) (out x) (flat_map out todo)
    (step done x todo is)
    (item_by_item state out xs step (done ++ x ∷ []) todo (is ∙ sym (append_assoc done (x ∷ []) todo)))

-- lines that are all taken are a schedule, if there is a centre
pub read_through : (number : ℕ) (from to : Seen) (ls : List (List ℕ)) → Leads from ls to → has_centre to.seats ≡ true
    → reads number from ls ≡ Ok (finished to)
read_through number from to [] leads centre = ap (λ s. reads number s []) leads ∙ rw centre refl
read_through number from to (line ∷ more) leads centre =
    ap (λ r. numbered number r (λ n. reads (number + 1) n more)) leads.1 ∙ read_through (number + 1) leads.0 to more
    leads.2 centre
