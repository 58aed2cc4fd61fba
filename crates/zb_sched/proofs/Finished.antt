-- A schedule at its beginning and at its end.
use Rattle.std.proofs.Common.{◌≡◌, ◌||◌, List, [], ◌∷◌, true, Result, Ok, Err, map, refl, arith, ap, sym, ◌∙◌, subst}
use Rattle.std.specs.Prelude.{OnOk}
use Rattle.std.specs.List.{list_any}
use Rattle.zb_base.specs.declared.fault.OrMemory.{OrMemory}
use Rattle.zb_base.specs.declared.fault.OrMemory.TheVariants.{Fault, NoMemory}
use Rattle.zb_sched_line.specs.Fits.{FitsSentence}
use Rattle.zb_sched_line.specs.Said.{Sentence}
use Rattle.zb_sched.specs.Judge.{Seat, Seen, after_sentence}
use Rattle.zb_sched.specs.Schedules.{Node, Schedule}
use Rattle.zb_sched.specs.Reading.{finished, has_centre, is_centre, start, Steps}
use Rattle.zb_sched.specs.Valid.{IsSchedule, IsSoFar}
use Rattle.zb_sched.specs.declared.error.SchedCause.{SchedCause}
use Rattle.zb_sched.proofs.Kept.{kept}

nothing_keeps : IsSoFar (finished start)
nothing_keeps = record {
  few_nodes = omega arith;
  nodes = tt;
  apart = tt;
  keys = tt;
  draws = tt;
  draws_apart = tt;
  few_events = omega arith;
  events = tt;
}

pub start_keeps : (seen : Seen) → seen ≡ start → IsSoFar (finished seen)
start_keeps seen e = subst (λ (s : Seen). IsSoFar (finished s)) (sym e) nothing_keeps

-- a line that was taken keeps what every schedule keeps
pub kept_by : (r : Result Unit (OrMemory SchedCause)) (seen next : Seen) (sentence : Sentence) → FitsSentence sentence
    → Steps r next (after_sentence seen sentence)
    → IsSoFar (finished seen) → OnOk r (IsSoFar (finished next))
kept_by (Ok done) seen next sentence fits step keeps = kept seen next sentence fits step keeps
kept_by (Err (Fault cause)) seen next sentence fits step keeps = tt
kept_by (Err NoMemory) seen next sentence fits step keeps = tt

any_node : (seats : List Seat) → has_centre seats
    ≡ list_any (λ (m : Node). is_centre m.role) (map (λ (s : Seat). s.node) seats)
any_node [] = refl
any_node (s ∷ seats) = ap (λ b. is_centre s.node.role || b) (any_node seats)

pub is_schedule : (seen : Seen) (p : Schedule) → p ≡ finished seen → IsSoFar (finished seen) → has_centre seen.seats
    ≡ true → IsSchedule p
is_schedule seen p e keeps centre =
    subst IsSchedule (sym e) (record { so_far = keeps; centre = sym (any_node seen.seats) ∙ centre })
