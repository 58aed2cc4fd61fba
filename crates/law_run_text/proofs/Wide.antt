-- The lines of a run with real frames are wide: what is in its range may be in the words of its line.
use Rattle.std.proofs.Common.{ℕ, ◌≤◌, List, [], ◌∷◌, arith}
use Rattle.std.specs.List.{AllByRecursion}
use Rattle.zb_model.specs.Data.{Bytes, Term, Place, Reason, Down, Malformed, NotForMe, Unsecured, NoKey, CounterMax, Stale, BadMic, Policy, NotMember, WrongState, KeyOld, KeysFull, RowsFull, KeyInUse, NoDraw, CounterSpent, WrongHash, NoFrame, Draw, DropNet, DropLink, Install, Active, Row, Pair, Became, Live, Removed, Roll, Told, Untold, Edit, Reserve, Floor, Start, Moved}
use Rattle.zb_model.specs.Lines as log
use Rattle.zb_model.specs.Lines.{Line}
use Rattle.zb_model.specs.Transcript.{transcript}
use Rattle.law_run_text.specs.Alone.{AreWide}
use Rattle.law_run_text.specs.Wide.{MayBe, IsWide}
use Rattle.law_run_text.proofs.Words.{stand_alone}
use Rattle.law_run_ranges.specs.Ranges.{IsCount, IsByte, IsKey, TermInRange, EditInRange, ReasonInRange, LineInRange}
use Rattle.law_run_ranges.proofs.Runs.{in_range}
use Rattle.zb_model_real.specs.Real.{real}
use Rattle.zb_model_real.specs.Terms.{term_of}
use Rattle.law_real_nodes.proofs.Opening.{opens_as_judged}
use Rattle.law_real_nodes.proofs.Euis.{different}
use Rattle.law_schedules.specs.Schedules.{schedule_of}
use Rattle.law_schedules.proofs.Holding.{premises}
use Rattle.law_run_text.specs.Proper.{AreTheirOwn}
use Rattle.law_run_text.proofs.Indexes.{by_index}
use Rattle.law_run_text.proofs.Schedules.{schedule_in_range, are_named}
use Rattle.law_run_text.proofs.Tools.{real_keeps}
use Rattle.zb_trace_model.specs.Parts.{place_for, refusal_for}
use Rattle.zb_trace_model.specs.Said.{line_for}
use Rattle.zb_sched.specs.Schedules.{Schedule}
use Rattle.zb_sched.specs.Valid as sched
use Rattle.zb_trace.specs.Text.{term_words, refusal_words}

term_wide : (t : Term) → TermInRange t → AllByRecursion MayBe (term_words (term_of t))
unfolding term_words
term_wide t is = (
  tt,
  (
    tt,
    (
      (by_index t.base is.base.0, is.base.1),
      (
        is.source,
        (
          is.counter,
          (
            is.control,
            ((by_index t.header is.header.0, is.header.1), ((by_index t.content is.content.0, is.content.1), tt)),
          ),
        ),
      ),
    ),
  ),
)

reason_wide : (place : Place) (why : Reason) → ReasonInRange why
    → AllByRecursion MayBe (refusal_words (refusal_for (place_for place) why))
unfolding refusal_words
reason_wide place (Stale floor) r = (tt, (tt, (r, tt)))
reason_wide place (KeyOld row) r = (tt, (tt, (r, tt)))
reason_wide place (KeyInUse partner) r = (tt, (tt, (r, tt)))
reason_wide place Down r = (tt, (tt, tt))
reason_wide place Malformed r = (tt, (tt, tt))
reason_wide place NotForMe r = (tt, (tt, tt))
reason_wide place Unsecured r = (tt, (tt, tt))
reason_wide place NoKey r = (tt, (tt, tt))
reason_wide place CounterMax r = (tt, (tt, tt))
reason_wide place BadMic r = (tt, (tt, tt))
reason_wide place Policy r = (tt, (tt, tt))
reason_wide place NotMember r = (tt, (tt, tt))
reason_wide place WrongState r = (tt, (tt, tt))
reason_wide place KeysFull r = (tt, (tt, tt))
reason_wide place RowsFull r = (tt, (tt, tt))
reason_wide place NoDraw r = (tt, (tt, tt))
reason_wide place CounterSpent r = (tt, (tt, tt))
reason_wide place WrongHash r = (tt, (tt, tt))
reason_wide place NoFrame r = (tt, (tt, tt))

key_wide : (key : Bytes) → IsKey key → MayBe (Rattle.zb_trace.specs.Text.Secret key)
key_wide key k = (by_index key k.0, k.1)

sequence_in : (n : ℕ) → IsByte n → n ≤ 255
sequence_in n lt = omega arith

change_wide : (event n : ℕ) (e : Edit) → IsCount event → EditInRange e → IsWide (log.Changed event n e)
unfolding IsWide line_for
change_wide event n (Reserve l limit) c r = (c, (tt, (tt, (tt, (r, tt)))))
change_wide event n (Floor l key from value) c r = (c, (tt, (tt, (tt, (key_wide key r.0, (r.1, (r.2, tt)))))))
change_wide event n (Start key value) c r = (c, (tt, (tt, (key_wide key r.0, (r.1, tt)))))
change_wide event n (Moved (Draw key)) c r = (c, (tt, (key_wide key r, tt)))
change_wide event n (Moved (DropNet key)) c r = (c, (tt, (tt, (tt, (key_wide key r, tt)))))
change_wide event n (Moved (DropLink partner key)) c r = (c, (tt, (tt, (tt, (r.0, (key_wide key r.1, tt))))))
change_wide event n (Moved (Install key sequence)) c r =
    (c, (tt, (tt, (key_wide key r.0, (sequence_in sequence r.1, tt)))))
change_wide event n (Moved (Active key)) c r = (c, (tt, (tt, (key_wide key r, tt))))
change_wide event n (Moved (Row partner key a)) c r = (c, (tt, (tt, (r.0, (key_wide key r.1, (tt, tt))))))
change_wide event n (Moved (Pair first second key)) c r = (c, (tt, (tt, (r.0, (r.1, (key_wide key r.2, tt))))))
change_wide event n (Moved (Became s)) c r = (c, (tt, (tt, (tt, tt))))
change_wide event n (Moved (Live device)) c r = (c, (tt, (r, tt)))
change_wide event n (Moved (Removed device)) c r = (c, (tt, (r, tt)))
change_wide event n (Moved (Roll sending)) c r = (c, (tt, (tt, (tt, tt))))
change_wide event n (Moved (Told device)) c r = (c, (tt, (r, tt)))
change_wide event n (Moved (Untold device)) c r = (c, (tt, (r, tt)))

line_wide : (m : Line) → LineInRange m → IsWide m
unfolding IsWide line_for
line_wide (log.Declared p) r = (omega arith, (tt, (tt, (tt, (r.eui, (r.short, (r.out_block, (r.in_block, tt))))))))
line_wide (log.GivenNet n key sequence) r =
    (omega arith, (tt, (tt, (tt, (key_wide key r.0, (sequence_in sequence r.1, tt))))))
line_wide (log.GivenLink n partner key) r = (omega arith, (tt, (tt, (tt, (r.0, (key_wide key r.1, tt))))))
line_wide (log.Counter n l limit) r = (omega arith, (tt, (tt, (tt, (r, tt)))))
line_wide (log.Changed event n e) r = change_wide event n e r.0 r.1
line_wide (log.Commit event n) r = (r, (tt, (tt, tt)))
line_wide (log.Accept event n t) r = (r.0, (tt, (tt, term_wide t r.1)))
line_wide (log.Refuse event n place why) r = (r.0, (tt, (tt, reason_wide place why r.1)))
line_wide (log.Seal event n t) r = (r.0, (tt, (tt, term_wide t r.1)))
line_wide (log.Forge event t) r = (r.0, (tt, term_wide t r.1))
line_wide (log.Send event n frame bytes) r = (r.0, (tt, (tt, (r.1, ((by_index bytes r.2.0, r.2.1), tt)))))
line_wide (log.Inject event frame bytes) r = (r.0, (tt, (r.1, ((by_index bytes r.2.0, r.2.1), tt))))
line_wide (log.Stopped event n) r = (r, (tt, (tt, tt)))
line_wide (log.DownReset event n) r = (r, (tt, (tt, (tt, tt))))
line_wide (log.DownDisk event n) r = (r, (tt, (tt, (tt, tt))))
line_wide (log.Boot event n) r = (r, (tt, (tt, tt)))
line_wide (log.Dump event n bytes) r = (r.0, (tt, (tt, (by_index bytes r.1, tt))))
line_wide (log.End events seals accepts refusals ideal private) r = (tt, (r.0, (r.1, (r.2, (r.3, (tt, (tt, tt)))))))

all_wide : (ms : List Line) → AllByRecursion LineInRange ms → AllByRecursion IsWide ms
all_wide [] all = tt
all_wide (m ∷ ms) all = (line_wide m all.0, all_wide ms all.1)

pub are_their_own : (p : Schedule) → sched.IsSchedule p → AreTheirOwn (schedule_of p)
are_their_own p is =
    let w = schedule_of p in
    let asked = premises p is in
    let wide : AreWide real w =
    all_wide (transcript real w)
    (in_range real opens_as_judged real_keeps w asked.schedule (different p is) (schedule_in_range p is)) in
    record { wide = wide; alone = stand_alone real w asked.schedule asked.one_centre (are_named p is) wide }
