-- No line of a run breaks the fifth claim of the audit: removed devices are locked out of its printed lines, and so of
-- each prefix of them.
use Rattle.std.proofs.Common.{◌≡◌, ℕ, Bool, true, false, cond, not, ◌&&◌, List, [], ◌∷◌, ◌++◌, flat_map, length, None, refl, sym, ap, ◌∙◌, subst, append_assoc}
use Rattle.std.specs.List.{AllByRecursion, list_any}
use Rattle.std.proofs.lemmas.Grind.{flat_map-append}
use Rattle.std.proofs.lemmas.List.{append-nil}
use Rattle.zb_audit.specs.Faults.{unlocked}
use Rattle.law_audit_sound.specs.LockoutKeeping.{KeepsFifth}
use Rattle.law_audit_sound.specs.Beginnings.{Begins}
use Rattle.law_audit_sound.proofs.Events.{begins}
use Rattle.law_audit_sound.proofs.Locks.{accept_at, all_left, behind, each_left, keeps_so, printed_append}
use Rattle.law_audit_sound.proofs.Prefixes.{none_first}
use Rattle.law_audit_sound.specs.Agreeing.{ReadSame, RunReadSame}
use Rattle.law_audit_sound.proofs.Leading.{all_of_nodes}
use Rattle.law_audit_sound.proofs.Run.{run_begins, run_read_same}
use Rattle.law_audit_sound.proofs.Showing.{show_same}
use Rattle.zb_audit_names.specs.Secrets as read
use Rattle.law_audit_groups.specs.Printing.{printed}
use Rattle.zb_audit_lockout.specs.Lockout as lockout
use Rattle.zb_audit_lockout.specs.Lockout.{first_unlocked, locked, locked_from, locked_line, locks_out, refuses, refuses_line}
use Rattle.zb_model.specs.Claims as claims
use Rattle.zb_model.specs.Claims.{Each, KeepsOut, LockedFrom, LockedLine, Refuses, RefusesLine}
use Rattle.zb_model.specs.Data as model
use Rattle.zb_model.specs.Data.{Station, Term}
use Rattle.zb_model.specs.Lines as log
use Rattle.zb_model.specs.Lines.{Line}
use Rattle.zb_model.specs.Play.{Schedule, stations}
use Rattle.zb_model.specs.Schedules.{IsSchedule}
use Rattle.zb_model.specs.Secrets.{based_line, carried, each_line, forged_in, holds_some, ideal, ideal_line, network_in, network_keys, passes_on, private}
use Rattle.zb_model.specs.Tools.{Tools}
use Rattle.zb_model.specs.Transcript.{end_line, run_lines, transcript}
use Rattle.law_run.proofs.LockoutLaw.{locked as locked_out}
use Rattle.law_run.specs.Commanding.{OneCentre, ShowsKeys}
use Rattle.law_run.specs.KeysApart.{KeysApart}
use Rattle.law_run.specs.Opening.{Opens}
use Rattle.law_tables_suffice.specs.Along.{euis_differ}
use Rattle.law_answer_storable.specs.Storing.{OpensAsJudged}
use Rattle.zb_trace_model.specs.Naming.{AreNamed}
use Rattle.zb_trace_model.specs.Said.{IsOfNodes, line_for}
use Rattle.zb_trace.specs.declared.line.Line.{Line as Printed}
use Rattle.zb_trace_watch.proofs.Truth.{and_left, and_right, both}

-- ---- along the lines of a run

-- what is read of each prefix of these lines
abbrev Fronts : Tools → List Station → List Line → Type 0
Fronts tools known all = (h rest : List Line) → h ++ rest ≡ all → ReadSame tools known h

module _ (tools : Tools) (known : List Station) (all : List Line) (same : Fronts tools known all) where
  line_so : (h since rest : List Line) (d : ℕ) → (h ++ since) ++ rest ≡ all → (m : Line) → IsOfNodes known m
      → RefusesLine tools d h since m → Begins known (h ++ since) m
      → refuses_line tools d (printed known h) (printed known since) (line_for known m) ≡ true
  unfolding refuses_line line_for
  line_so h since rest d at (log.Accept event j t) is refused before =
      let it = before event refl in
      accept_at tools known h since d event j t is refused it.same
      (same (claims.before_group event (h ++ since)) (it.group ++ rest)
      (sym (append_assoc (claims.before_group event (h ++ since)) it.group rest) ∙ ap (λ ls. ls ++ rest) it.whole
      ∙ at))
      (same (h ++ since) rest at)
  line_so h since rest d at (log.Changed event j (model.Moved (model.Draw key))) is refused before = refl
  line_so h since rest d at _ is refused before = refl

  refuses_so : (h since u rest : List Line) (d : ℕ) → (h ++ since) ++ (u ++ rest) ≡ all
      → Each (RefusesLine tools d h) since u → Each (Begins known) (h ++ since) u → AllByRecursion (IsOfNodes known) u
      → refuses tools d (printed known h) (printed known since) (printed known u) ≡ true
  unfolding refuses
  refuses_so h since [] rest d at refused before of = refl
  refuses_so h since (m ∷ u) rest d at refused before of =
      both _ _ (line_so h since (m ∷ u ++ rest) d at m of.0 refused.0 before.0)
      (ap (λ ls. refuses tools d (printed known h) ls (printed known u)) (printed_append known since (m ∷ []))
      ∙ refuses_so h (since ++ m ∷ []) u rest d
      (ap (λ ls. ls ++ (u ++ rest)) (sym (append_assoc h since (m ∷ []))) ∙ append_assoc (h ++ since) (m ∷ [])
      (u ++ rest) ∙ at)
      refused.1 (subst (λ ls. Each (Begins known) ls u) (append_assoc h since (m ∷ [])) before.1) of.1)

  locks_so : (h ls : List Line) (d : ℕ) → h ++ ls ≡ all → KeepsOut tools h ls d → Refuses tools h ls d
      → Each (Begins known) h ls → AllByRecursion (IsOfNodes known) ls
      → locks_out tools (printed known h) (lockout.until_live d (printed known ls)) d ≡ true
  locks_so h ls d at out refused before of =
      let u = claims.until_live d ls in
      let b = behind d ls in
      ap (λ g. locks_out tools (printed known h) g d) ((show_same tools known ls).until_live d)
      ∙ both _ _
      (keeps_so tools known h u d (same (h ++ u) b.rest (append_assoc h u b.rest ∙ ap (λ g. h ++ g) b.whole ∙ at))
      out)
      (refuses_so h [] u b.rest d (ap (λ g. g ++ (u ++ b.rest)) (append-nil h) ∙ ap (λ g. h ++ g) b.whole ∙ at) refused
      (subst (λ g. Each (Begins known) g u) (sym (append-nil h))
      (each_left (Begins known) h u b.rest (subst (λ g. Each (Begins known) h g) (sym b.whole) before)))
      (all_left (IsOfNodes known) u b.rest (subst (AllByRecursion (IsOfNodes known)) (sym b.whole) of)))

  removal_so : (h ls : List Line) (m : Line) → h ++ m ∷ ls ≡ all → LockedLine tools h m ls
      → Each (Begins known) (h ++ m ∷ []) ls → AllByRecursion (IsOfNodes known) ls
      → locked_line tools (printed known h) (line_for known m) (printed known ls) ≡ true
  unfolding line_for
  removal_so h ls (log.Changed event j (model.Moved (model.Removed device))) at lock before of =
      ap (λ g. locks_out tools g (lockout.until_live device (printed known ls)) device)
      (printed_append known h (log.Changed event j (model.Moved (model.Removed device)) ∷ []))
      ∙ locks_so (h ++ log.Changed event j (model.Moved (model.Removed device)) ∷ []) ls device
      (append_assoc h (log.Changed event j (model.Moved (model.Removed device)) ∷ []) ls ∙ at) lock.0 lock.1
      before of
  removal_so h ls _ at lock before of = refl

  from_so : (h ls : List Line) → h ++ ls ≡ all → LockedFrom tools h ls → Each (Begins known) h ls
      → AllByRecursion (IsOfNodes known) ls → locked_from tools (printed known h) (printed known ls) ≡ true
  from_so h [] at lock before of = refl
  from_so h (m ∷ ls) at lock before of =
      both _ _ (removal_so h ls m at lock.0 before.1 of.1)
      (ap (λ g. locked_from tools g (printed known ls)) (printed_append known h (m ∷ []))
      ∙ from_so (h ++ m ∷ []) ls (append_assoc h (m ∷ []) ls ∙ at) lock.1 before.1 of.1)

-- ---- the two words, without the end line

each_front : (test : List Line → Line → Bool) (h ls more : List Line) → each_line test h (ls ++ more) ≡ true
    → each_line test h ls ≡ true
unfolding each_line
each_front test h [] more each = refl
each_front test h (m ∷ ls) more each =
    both _ _ (and_left (test h m) _ each) (each_front test (h ++ m ∷ []) ls more (and_right (test h m) _ each))

says_none : {X : Type 0} (f : Line → List X) (ls : List Line) (m : Line) → f m ≡ [] → flat_map f (ls ++ m ∷ [])
    ≡ flat_map f ls
says_none f ls m none = flat_map-append f ls (m ∷ []) ∙ ap (λ xs. flat_map f ls ++ (xs ++ [])) none ∙ append-nil
    (flat_map f ls)

passes_same : (tools : Tools) (ls : List Line) (m : Line) → forged_in m ≡ [] → network_in m ≡ []
    → passes_on tools (ls ++ m ∷ []) ≡ passes_on tools ls
unfolding passes_on network_keys
passes_same tools ls m forges none =
    ap (λ ts. list_any (λ (t : Term). holds_some (flat_map network_in (ls ++ m ∷ [])) (carried tools t)) ts)
    (says_none forged_in ls m forges)
    ∙ ap (λ ks. list_any (λ (t : Term). holds_some ks (carried tools t)) (flat_map forged_in ls))
    (says_none network_in ls m none)

ideal_run : (tools : Tools) (w : Schedule) → ideal tools (transcript tools w) ≡ true → ideal tools (run_lines tools w)
    ≡ true
unfolding ideal transcript
ideal_run tools w is = each_front (ideal_line tools) [] (run_lines tools w)
    (end_line tools (length w.events) (run_lines tools w) ∷ []) is

private_run : (tools : Tools) (w : Schedule) → private tools (transcript tools w) ≡ true
    → private tools (run_lines tools w) ≡ true
unfolding private transcript end_line
private_run tools w is =
    let run = run_lines tools w in
    let last = end_line tools (length w.events) run in
    both _ _
    (each_front (based_line tools) [] run (last ∷ [])
    (and_left (each_line (based_line tools) [] (run ++ last ∷ [])) _ is))
    (ap not (sym (passes_same tools run last refl refl)) ∙ and_right
    (each_line (based_line tools) [] (run ++ last ∷ [])) _ is)

-- ---- the fifth claim

abbrev lines_of : Tools → Schedule → List Printed
lines_of tools w = printed (stations w) (transcript tools w)

locked_so : (tools : Tools) → Opens tools → ShowsKeys tools → (w : Schedule) → IsSchedule w → OneCentre w
    → KeysApart w → AllByRecursion (IsOfNodes (stations w)) (transcript tools w) → RunReadSame tools w
    → (read.ideal tools (lines_of tools w) && read.private tools (lines_of tools w)) ≡ true
    → locked tools (lines_of tools w) ≡ true
unfolding locked
locked_so tools opens shows w is one apart of same words =
    let whole = same (transcript tools w) [] (append-nil (transcript tools w)) in
    from_so tools (stations w) (transcript tools w) same [] (transcript tools w) refl
    (locked_out tools opens shows w is one apart
    (ideal_run tools w (sym whole.words.ideal ∙ and_left (read.ideal tools (lines_of tools w)) _ words))
    (private_run tools w (sym whole.words.private ∙ and_right (read.ideal tools (lines_of tools w)) _ words)))
    (begins tools w) of

by_words : (tools : Tools) (lines : List Printed)
    → ((read.ideal tools lines && read.private tools lines) ≡ true → locked tools lines ≡ true) → (b : Bool)
    → (read.ideal tools lines && read.private tools lines) ≡ b → unlocked tools lines ≡ None
unfolding unlocked
by_words tools lines locks true yes_yes = ap (λ b. cond b (first_unlocked tools lines) None) yes_yes ∙ none_first
    tools lines (locks yes_yes)
by_words tools lines locks false other = ap (λ b. cond b (first_unlocked tools lines) None) other

keeps_by : (tools : Tools) → Opens tools → ShowsKeys tools → (w : Schedule) → IsSchedule w → OneCentre w → KeysApart w
    → AllByRecursion (IsOfNodes (stations w)) (transcript tools w) → RunReadSame tools w → KeepsFifth tools w
keeps_by tools opens shows w is one apart of same =
    by_words tools (lines_of tools w) (locked_so tools opens shows w is one apart of same)
    (read.ideal tools (lines_of tools w) && read.private tools (lines_of tools w)) refl

pub keeps_fifth : (tools : Tools) → Opens tools → OpensAsJudged tools → ShowsKeys tools → (w : Schedule)
    → IsSchedule w → euis_differ w ≡ true → OneCentre w → KeysApart w → AreNamed (stations w) → KeepsFifth tools w
keeps_fifth tools opens judged shows w is differ one apart fits =
    let lines = transcript tools w in
    keeps_by tools opens shows w is one apart
    (all_of_nodes (stations w) [] lines (run_begins tools w is differ one fits lines [] (append-nil lines)).leads)
    (run_read_same tools judged w is differ one fits)
