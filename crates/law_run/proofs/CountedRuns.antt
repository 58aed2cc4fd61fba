-- Each seal uses the next counter; a reserve and a floor are one block.
use Rattle.std.proofs.Common.{◌≡◌, ℕ, ◌≤◌, ◌+◌, min, Bool, true, false, cond, ◌&&◌, List, [], ◌∷◌, ◌++◌, length, Option, Some, None, option_map, find, nat_eq, nat_le, refl, sym, ap, subst, eqb-true, leb-true}
use Rattle.std.proofs.lemmas.Bool.{and_parts}
use Rattle.zb_model.specs.Data.{Layer, Nwk, Aps, Term}
use Rattle.zb_model.specs.Lines.{Line, Seal}
use Rattle.zb_model.specs.State.{greatest_counter, NetKey, NodeState, next_counter, stored_limit}
use Rattle.zb_model.specs.Tools.{Tools}
use Rattle.zb_model.specs.Rules.{Setting, Sending}
use Rattle.zb_model.specs.Answer.{seals_at, may_seal, reserve_of, stored_floor, floor_for}
use Rattle.zb_model.specs.Readings.{state_of, speaker}
use Rattle.zb_model.specs.Play.{Schedule, start, groups}
use Rattle.zb_model.specs.Schedules.{IsSchedule}
use Rattle.zb_model.specs.Transcript.{run_lines, transcript, end_line}
use Rattle.zb_model.specs.Claims.{Each}
use Rattle.law_run.specs.Counting.{NextIs, TakesNext}
use Rattle.law_run.proofs.Basics.{each-append}
use Rattle.law_run.proofs.Nets.{Holds, at_key, Gives}
use Rattle.law_run.proofs.Counters.{SealFitsAt, LineFits}
use Rattle.law_run.proofs.Groups.{plain}
use Rattle.law_run.proofs.Runs.{groups-fit, start-plain, start-inv}

row-next : (c : ℕ) (o : Option NetKey) → Holds (Gives c) o → option_map (λ (r : NetKey). r.next) o ≡ Some c
unfolding Holds
row-next c None h = absurd h
row-next c (Some r) h = ap Some h.1

next-is : (layer : Layer) (t : Term) (s : NodeState) → SealFitsAt layer t s → NextIs layer t s
unfolding SealFitsAt
next-is Nwk t s f = row-next t.counter (find (at_key t.base) s.nets) f.2
next-is Aps t s f = sym f.1

line-takes : (h : List Line) (l : Line) → LineFits h l → TakesNext h l
unfolding speaker
line-takes h (Seal e n t) f = (f.source, f.small, next-is t.layer t (state_of h n) f.fits)
line-takes h l f = tt

each-takes : (h ls : List Line) → Each LineFits h ls → Each TakesNext h ls
each-takes h [] f = tt
each-takes h (l ∷ ls) f = (line-takes h l f.0, each-takes (h ++ l ∷ []) ls f.1)

run-fits : (tools : Tools) (w : Schedule) → IsSchedule w → Each LineFits [] (run_lines tools w)
unfolding run_lines
run-fits tools w i = each-append LineFits [] (start w) (groups tools w (start w) [] 1 w.events)
    (plain [] (start w) (start-plain w)) (groups-fit tools w i (start w) [] 1 w.events i.events (start-inv tools w))

pub takes-next : (tools : Tools) (w : Schedule) → IsSchedule w → Each TakesNext [] (transcript tools w)
unfolding transcript end_line
takes-next tools w i =
    each-takes [] (run_lines tools w ++ end_line tools (length w.events) (run_lines tools w) ∷ [])
    (each-append LineFits [] (run_lines tools w) (end_line tools (length w.events) (run_lines tools w) ∷ [])
    (run-fits tools w i) (tt, tt))

-- a value that a test gives
abbrev IsNumber : ℕ → Option ℕ → Type 0
IsNumber v None = Unit {0}
IsNumber v (Some n) = v ≡ n

some-number : (n v : ℕ) → Some n ≡ Some v → n ≡ v
some-number n v e = subst (IsNumber n) e refl

none-some : (v : ℕ) → None ≡ Some v → ⊥
none-some v e = subst IsMissing e tt
  where
    IsMissing : Option ℕ → Type 0
    IsMissing None = Unit {0}
    IsMissing (Some n) = ⊥

by-test : (b : Bool) (n v : ℕ) → cond b (Some n) None ≡ Some v → (b ≡ true) × (v ≡ n)
by-test true n v e = (refl, sym (some-number n v e))
by-test false n v e = absurd (none-some v e)

pub reserve-block : (c : Setting) (s : NodeState) (send : Option Sending) (layer : Layer) (v : ℕ)
    → reserve_of c s send layer ≡ Some v → (next_counter layer s ≡ stored_limit layer s)
    × (v ≡ min (next_counter layer s + c.me.out_block) greatest_counter)
unfolding reserve_of
reserve-block c s send layer v e = (
  eqb-true (next_counter layer s) (stored_limit layer s)
      (and_parts (may_seal s send) equal (and_parts (seals_at layer send) (may_seal s send && equal) found.0).1).1,
  found.1,
)
  where
    equal : Bool
    equal = nat_eq (next_counter layer s) (stored_limit layer s)

    found : ((seals_at layer send && (may_seal s send && equal)) ≡ true)
        × (v ≡ min (next_counter layer s + c.me.out_block) greatest_counter)
    found = by-test (seals_at layer send && (may_seal s send && equal))
        (min (next_counter layer s + c.me.out_block) greatest_counter) v e

pub floor-block : (c : Setting) (s : NodeState) (t : Term) (v : ℕ) → floor_for c s t ≡ Some v
    → (stored_floor t s ≤ t.counter) × (v ≡ min (t.counter + c.me.in_block) greatest_counter)
floor-block c s t v e = (leb-true (stored_floor t s) t.counter (found e).0, (found e).1)
  where
    found : floor_for c s t ≡ Some v → (nat_le (stored_floor t s) t.counter ≡ true)
        × (v ≡ min (t.counter + c.me.in_block) greatest_counter)
    found e = by-test (nat_le (stored_floor t s) t.counter) (min (t.counter + c.me.in_block) greatest_counter) v e
