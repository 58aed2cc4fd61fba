-- How far the lines of a made schedule were taken, and what further lines do.
use Rattle.std.specs.Prelude.{◌≡◌, ℕ, ◌+◌, ◌*◌, List, [], ◌∷◌, ◌++◌, map, Result, Ok, Err, ⊤}
use Rattle.std.specs.List.{flat_map, range_with_len}
use Rattle.zb_sched_line.specs.Said.{Sentence}
use Rattle.zb_sched.specs.Judge.{Seen, after_sentence as judged}
use Rattle.zb_sched.specs.Reading.{after_line, start}
use Rattle.zb_sched.specs.declared.error.SchedCause.{SchedCause}
use Rattle.zb_sched.specs.declared.error.SchedError.{SchedError}
use Rattle.zb_gen.specs.Made.{centre_line, code_line, draw_line, join_lines, late_line, netkey_line, node_line, rollover_lines, step_lines}
use Rattle.zb_gen.specs.declared.maker.GenFault.{GenFault}
use Rattle.zb_gen.specs.declared.maker.GenFault.TheVariants.{Clash, NoMemory}

-- The number of the next line, from 1, and the schedule of the lines before it.
pub record Progress : Type 0 where
  pub line : ℕ
  pub seen : Seen

abbrev pub begun : Progress
begun = record { line = 1; seen = start }

-- After the line of that number, or its number and the first cause why it may not stand there.
abbrev pub moved : ℕ → Result Seen SchedCause → Result Progress SchedError
moved line (Ok seen) = Ok (record { line = line + 1; seen = seen })
moved line (Err cause) = Err (record { line = line; cause = cause })

-- After a line that says this.
unfoldable pub after_sentence : Progress → Sentence → Result Progress SchedError
after_sentence p sentence = moved p.line (judged p.seen sentence)

-- After a line of that text.
unfoldable pub after_text : Progress → List ℕ → Result Progress SchedError
after_text p text = moved p.line (after_line p.seen text)

abbrev pub go_on : Result Progress SchedError → (Progress → Result Progress SchedError) → Result Progress SchedError
go_on (Ok p) next = next p
go_on (Err fault) next = Err fault

-- After lines of these texts, up to the first fault.
abbrev pub after_texts : Progress → List (List ℕ) → Result Progress SchedError
after_texts p [] = Ok p
after_texts p (text ∷ more) = go_on (after_text p text) (λ q. after_texts q more)

-- A call led to what was expected, or lacked memory.
abbrev pub Comes : Result Unit GenFault → Progress → Result Progress SchedError → Type 0
Comes (Ok done) p expected = expected ≡ Ok p
Comes (Err (Clash line cause)) p expected = expected ≡ Err (record { line = line; cause = cause })
Comes (Err NoMemory) p expected = ⊤

-- The made lines before the first event.
unfoldable pub declarations : ℕ → ℕ → List (List ℕ)
declarations start n =
    centre_line ∷ (map node_line (range_with_len 1 n) ++ (map (λ i. code_line start i) (range_with_len 1 n)
    ++ (netkey_line start n ∷ map (λ j. draw_line start n j) (range_with_len 0 (n + 1)))))

-- The made lines of events.
unfoldable pub events : ℕ → ℕ → List (List ℕ)
events start n =
    flat_map (λ i. join_lines start i) (range_with_len 1 n)
    ++ (flat_map (λ k. step_lines start n (8 * n + 8 + 4 * k)) (range_with_len 0 (20 * n)) ++ (rollover_lines n
    ++ map (λ k. late_line start n (88 * n + 8 + 2 * k)) (range_with_len 0 (10 * n))))
