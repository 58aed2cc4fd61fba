-- A made schedule, from its lines to what is made.
use Rattle.std.proofs.Common.{◌≡◌, ℕ, zero, suc, ◌+◌, ◌*◌, ◌-◌, ◌%◌, ◌<◌, ◌≤◌, ◌==◌, nat_lt, List, [], ◌∷◌, ◌++◌, map, Bool, true, false, Result, Ok, Err, refl, arith, ap, sym, ◌∙◌, subst, codes, mod-lt, append_assoc}
use Rattle.std.specs.Prelude.{if◌then◌else◌, IfOk, IsErrAnd}
use Rattle.std.specs.List.{AllByRecursion, flat_map, range_with_len}
use Rattle.zb_text.specs.Pages.{IsLine}
use Rattle.zb_text.proofs.ReadAgain.{lines_again}
use Rattle.zb_sched_line.specs.Fits.{FitsSentence}
use Rattle.zb_sched_line.specs.Said.{Sentence}
use Rattle.zb_sched.specs.Judge.{Seen, after_sentence as judged}
use Rattle.zb_sched.specs.Printed.{printed}
use Rattle.zb_sched.specs.Reading.{after_line, after_meaning, finished, has_centre, numbered, reads, schedule_in, start}
use Rattle.zb_sched.specs.Schedules.{Schedule, schedule_of}
use Rattle.zb_sched.specs.Valid.{IsSchedule, IsSoFar}
use Rattle.zb_sched.specs.declared.error.SchedCause.{SchedCause}
use Rattle.zb_sched.specs.declared.error.SchedCause.TheVariants.{NoCentre}
use Rattle.zb_sched.specs.declared.error.SchedError.{SchedError}
use Rattle.zb_sched.specs.declared.schedule.Schedule.{Schedule as CodeSchedule}
use Rattle.zb_sched.proofs.Finished.{is_schedule, start_keeps}
use Rattle.zb_sched.proofs.Kept.{kept}
use Rattle.zb_sched.proofs.PrintedReads.{printed_again}
use Rattle.zb_gen.specs.Faults.{Makes}
use Rattle.zb_gen.specs.Made.{code_line, draw_line, join_lines, late_line, made_lines, made_schedule, node_line, rollover_lines, step_lines, step_of}
use Rattle.zb_gen.specs.Progress.{after_text, after_texts, begun, Comes, declarations, events, go_on, moved, Progress}
use Rattle.zb_gen.specs.Words.{word}
use Rattle.zb_gen.specs.declared.maker.GenFault.{GenFault}
use Rattle.zb_gen.specs.declared.maker.GenFault.TheVariants.{Clash, NoMemory}
use Rattle.zb_gen.proofs.Said.{boot_says, centre_says, child_says, code_says, deliver_says, draw_says, knock_says, netkey_says, node_says, provision_says, remove_says, reset_says, roll_says, role_at, role_is, say_says, Says, stop_says, switch_says, timer_says}

-- ---- each line says something

abbrev pub IsSaid : List ℕ → Type 0
IsSaid text = (sentence : Sentence) × Says text sentence

all_both : (xs ys : List (List ℕ)) → AllByRecursion IsSaid xs → AllByRecursion IsSaid ys
    → AllByRecursion IsSaid (xs ++ ys)
all_both [] ys p q = q
all_both (x ∷ xs) ys p q = (p.0, all_both xs ys p.1 q)

all_parts : (f : ℕ → List (List ℕ)) (n a : ℕ) → ((x : ℕ) → a ≤ x → x < a + n → AllByRecursion IsSaid (f x))
    → AllByRecursion IsSaid (flat_map f (range_with_len a n))
all_parts f zero a each = tt
all_parts f (suc n) a each =
    all_both (f a) (flat_map f (range_with_len (a + 1) n)) (each a (omega arith) (omega arith))
    (all_parts f n (a + 1) (λ x low high. each x (omega (arith, low)) (omega (arith, high))))

all_lines : (g : ℕ → List ℕ) (n a : ℕ) → ((x : ℕ) → a ≤ x → x < a + n → IsSaid (g x))
    → AllByRecursion IsSaid (map g (range_with_len a n))
all_lines g zero a each = tt
all_lines g (suc n) a each = (
  each a (omega arith) (omega arith),
  all_lines g n (a + 1) (λ x low high. each x (omega (arith, low)) (omega (arith, high))),
)

all_either : (b : Bool) (xs ys : List (List ℕ)) → AllByRecursion IsSaid xs → AllByRecursion IsSaid ys
    → AllByRecursion IsSaid (if b then xs else ys)
all_either true xs ys p q = p
all_either false xs ys p q = q

join_said : (first i : ℕ) → 1 ≤ i → i ≤ 60 → AllByRecursion IsSaid (join_lines first i)
join_said first i some few = (
  (_, provision_says first i few),
  (
    (_, knock_says i few),
    (
      (_, child_says i few),
      (
        (_, deliver_says (5 * (i - 1) + 1) i (omega arith) (omega arith) few),
        (
          (_, timer_says i few),
          (
            (_, deliver_says (5 * (i - 1) + 2) 0 (omega arith) (omega arith) (omega arith)),
            (
              (_, deliver_says (5 * (i - 1) + 3) i (omega arith) (omega arith) few),
              (
                (_, timer_says i few),
                (
                  (_, deliver_says (5 * (i - 1) + 4) 0 (omega arith) (omega arith) (omega arith)),
                  ((_, deliver_says (5 * (i - 1) + 5) i (omega arith) (omega arith) few), tt),
                ),
              ),
            ),
          ),
        ),
      ),
    ),
  ),
)

below : (m n : ℕ) → zero < n → m % n < n
below m n some = mod-lt m some

step_said : (n kind i p q : ℕ) → 1 ≤ n → n ≤ 60 → i ≤ 60 → AllByRecursion IsSaid (step_of n kind i p q)
step_said n kind i p q some many few =
    let near : p % (10 * n) < 10 * n = below p (10 * n) (omega arith) in
    all_either (nat_lt kind 2) _ _ ((_, say_says i (p % 256) few (omega arith)), tt)
    (all_either (nat_lt kind 5) _ _
    ((_, deliver_says (1 + p % (10 * n)) i (omega arith) (omega (arith, near)) few), tt)
    (all_either (kind == 5) _ _ ((_, timer_says i few), tt)
    (all_either (kind == 6) _ _ ((_, reset_says i few), ((_, boot_says i few), tt)) (
      (_, stop_says i (p % 6) (q % 256) few (omega arith) (omega arith)),
      ((_, say_says i 0 few (omega arith)), ((_, boot_says i few), tt)),
    ))))

late_said : (first n place : ℕ) → 1 ≤ n → n ≤ 60 → IsSaid (late_line first n place)
late_said first n place some many =
    let near : word first (place + 1) % (20 * n) < 20 * n = below (word first (place + 1)) (20 * n) (omega arith) in
    let node : word first place % (n + 1) < n + 1 = below (word first place) (n + 1) (omega arith) in (
      _,
      deliver_says (1 + word first (place + 1) % (20 * n)) (word first place % (n + 1)) (omega arith)
          (omega (arith, near)) (omega (arith, node)),
    )

node_said : (first n place : ℕ) → n ≤ 60 → word first (place + 1) % (n + 1) ≤ 60
node_said first n place many =
    let node : word first (place + 1) % (n + 1) < n + 1 = below (word first (place + 1)) (n + 1) (omega arith) in
    omega (arith, node)

rollover_said : (n : ℕ) → AllByRecursion IsSaid (rollover_lines n)
rollover_said n = (
  (_, remove_says),
  (
    (_, roll_says),
    all_both (map (λ k. codes "timer c") (range_with_len 0 (n - 1))) (codes "switch" ∷ [])
        (all_lines (λ k. codes "timer c") (n - 1) 0 (λ x low high. (_, timer_says 0 (omega arith))))
        ((_, switch_says), tt),
  ),
)

made_said : (first n : ℕ) → 1 ≤ n → n ≤ 60 → AllByRecursion IsSaid (made_lines first n)
unfolding made_lines
made_said first n some many = (
  (_, centre_says),
  all_both (map node_line (range_with_len 1 n)) _
      (all_lines node_line n 1 (λ i low high. (_, node_says i (role_at i) (omega (arith, high)) (role_is i))))
      (all_both (map (λ i. code_line first i) (range_with_len 1 n)) _
      (all_lines (λ i. code_line first i) n 1 (λ i low high. (_, code_says first i (omega (arith, high))))) (
        (_, netkey_says first n),
        all_both (map (λ j. draw_line first n j) (range_with_len 0 (n + 1))) _
            (all_lines (λ j. draw_line first n j) (n + 1) 0 (λ j low high. (_, draw_says first n j)))
            (all_both (flat_map (λ i. join_lines first i) (range_with_len 1 n)) _
            (all_parts (λ i. join_lines first i) n 1 (λ i low high. join_said first i low (omega (arith, high))))
            (all_both (flat_map (λ k. step_lines first n (8 * n + 8 + 4 * k)) (range_with_len 0 (20 * n))) _
            (all_parts (λ k. step_lines first n (8 * n + 8 + 4 * k)) (20 * n) 0
            (λ k low high. step_said n (word first (8 * n + 8 + 4 * k) % 8)
            (word first (8 * n + 8 + 4 * k + 1) % (n + 1)) (word first (8 * n + 8 + 4 * k + 2))
            (word first (8 * n + 8 + 4 * k + 3)) some many (node_said first n (8 * n + 8 + 4 * k) many)))
            (all_both (rollover_lines n) _ (rollover_said n)
            (all_lines (λ k. late_line first n (88 * n + 8 + 2 * k)) (10 * n) 0
            (λ k low high. late_said first n (88 * n + 8 + 2 * k) some many))))),
      )),
)

-- ---- the text of the lines

all_plain : (ls : List (List ℕ)) → AllByRecursion IsSaid ls → AllByRecursion IsLine ls
all_plain [] said = tt
all_plain (line ∷ more) said = (said.0.1.plain, all_plain more said.1)

-- the schedule after these lines, or their first fault
abbrev ended : Result Progress SchedError → Result Schedule SchedError
ended (Ok p) = reads p.line p.seen []
ended (Err fault) = Err fault

reads_by : (line : ℕ) (r : Result Seen SchedCause) (more : List (List ℕ))
    → ((p : Progress) → reads p.line p.seen more ≡ ended (after_texts p more))
    → numbered line r (λ next. reads (line + 1) next more) ≡ ended (go_on (moved line r) (λ q. after_texts q more))
reads_by line (Ok next) more rest = rest (record { line = line + 1; seen = next })
reads_by line (Err cause) more rest = refl

reads_on : (ls : List (List ℕ)) (p : Progress) → reads p.line p.seen ls ≡ ended (after_texts p ls)
unfolding after_text
reads_on [] p = refl
reads_on (line ∷ more) p = reads_by p.line (after_line p.seen line) more (reads_on more)

made_by_lines : (first n : ℕ) → 1 ≤ n → n ≤ 60 → made_schedule first n ≡ ended (after_texts begun (made_lines first n))
made_by_lines first n some many =
    ap (reads 1 start)
    (lines_again (made_lines first n) (all_plain (made_lines first n) (made_said first n some many))) ∙ reads_on
    (made_lines first n) begun

-- ---- what the call answers

stopped_by : (fault : GenFault) (t : Progress) (x : Result Progress SchedError) → Comes (Err fault) t x
    → Makes (Err fault) (ended x)
stopped_by (Clash line cause) t x comes = ap ended comes
stopped_by NoMemory t x comes = tt

pub stopped : (first n : ℕ) (fault : GenFault) (p t : Progress) → 1 ≤ n → n ≤ 60 → p ≡ begun
    → Comes (Err fault) t (after_texts p (made_lines first n))
    → Makes (Err fault) (made_schedule first n)
stopped first n fault p t some many at comes =
    subst (λ (x : Result Schedule SchedError). Makes (Err fault) x) (sym (made_by_lines first n some many))
    (stopped_by fault t (after_texts begun (made_lines first n))
    (subst (λ (q : Progress). Comes (Err fault) t (after_texts q (made_lines first n))) at comes))

pub through : (first n : ℕ) (r : Result CodeSchedule GenFault) (p t : Progress) → 1 ≤ n → n ≤ 60 → p ≡ begun
    → after_texts p (made_lines first n) ≡ Ok t
    → Makes r (reads t.line t.seen []) → Makes r (made_schedule first n)
through first n r p t some many at all makes =
    subst (λ (x : Result Schedule SchedError). Makes r x)
    (sym (made_by_lines first n some many ∙ ap ended
    (ap (λ (q : Progress). after_texts q (made_lines first n)) (sym at) ∙ all))) makes

pub handed_on : (r : Result CodeSchedule GenFault) (fault : GenFault) (x : Result Schedule SchedError)
    → IsErrAnd r (λ other. other ≡ fault) → Makes (Err fault) x → Makes r x
handed_on (Ok schedule) fault x is makes = absurd is
handed_on (Err other) fault x is makes = subst (λ (f : GenFault). Makes (Err f) x) (sym is) makes

-- ---- what is made is a schedule

abbrev OkIs : {A E : Type 0} → (A → Type 0) → Result A E → Type 0
OkIs P (Ok a) = P a
OkIs P (Err e) = Unit {0}

end_keeps : (b : Bool) (seen : Seen) (fault : SchedError) (p : Schedule) → has_centre seen.seats ≡ b
    → (if b then Ok (finished seen) else Err fault) ≡ Ok p
    → IsSoFar (finished seen) → IsSchedule p
end_keeps true seen fault p centre e so_far =
    is_schedule seen p (sym (subst (λ (r : Result Schedule SchedError). OkIs (λ x. finished seen ≡ x) r) e refl))
    so_far centre
end_keeps false seen fault p centre e so_far = cc e

line_keeps : (line : ℕ) (seen : Seen) (r : Result Seen SchedCause) (sentence : Sentence) (more : List (List ℕ))
    (p : Schedule) → judged seen sentence ≡ r → FitsSentence sentence
    → IsSoFar (finished seen)
    → ((next : Seen) → IsSoFar (finished next) → reads (line + 1) next more ≡ Ok p → IsSchedule p)
    → numbered line r (λ next. reads (line + 1) next more) ≡ Ok p → IsSchedule p
line_keeps line seen (Ok next) sentence more p step fits so_far rest e =
    rest next (kept seen next sentence fits step so_far) e
line_keeps line seen (Err cause) sentence more p step fits so_far rest e = cc e

reads_keep : (ls : List (List ℕ)) (line : ℕ) (seen : Seen) (p : Schedule) → AllByRecursion IsSaid ls
    → IsSoFar (finished seen) → reads line seen ls ≡ Ok p → IsSchedule p
reads_keep [] line seen p said so_far e =
    end_keeps (has_centre seen.seats) seen (record { line = line; cause = NoCentre }) p refl e so_far
reads_keep (l ∷ more) line seen p said so_far e =
    line_keeps line seen (after_line seen l) said.0.0 more p (sym (ap (after_meaning seen) said.0.1.means))
    said.0.1.fits so_far
    (λ next keeps go. reads_keep more (line + 1) next p said.1 keeps go) e

made_keeps : (first n : ℕ) (p : Schedule) → 1 ≤ n → n ≤ 60 → made_schedule first n ≡ Ok p → IsSchedule p
made_keeps first n p some many e =
    let said = made_said first n some many in
    reads_keep (made_lines first n) 1 start p said (start_keeps start refl)
    (sym (ap (reads 1 start) (lines_again (made_lines first n) (all_plain (made_lines first n) said))) ∙ e)

pub valid : (first n : ℕ) (r : Result CodeSchedule GenFault) → 1 ≤ n → n ≤ 60 → Makes r (made_schedule first n)
    → IfOk r (λ schedule. IsSchedule (schedule_of schedule))
valid first n (Ok schedule) some many makes = made_keeps first n (schedule_of schedule) some many makes
valid first n (Err fault) some many makes = tt

pub again : (first n : ℕ) (r : Result CodeSchedule GenFault) → 1 ≤ n → n ≤ 60 → Makes r (made_schedule first n)
    → IfOk r (λ schedule. schedule_in (printed (schedule_of schedule)) ≡ Ok (schedule_of schedule))
again first n (Ok schedule) some many makes =
    printed_again (schedule_of schedule) (made_keeps first n (schedule_of schedule) some many makes)
again first n (Err fault) some many makes = tt

-- ---- the two parts of the lines

pub both_parts : (first n : ℕ) → made_lines first n ≡ declarations first n ++ events first n
unfolding made_lines declarations events
both_parts first n = simp append_assoc
