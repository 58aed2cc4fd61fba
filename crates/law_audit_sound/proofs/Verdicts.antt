-- What an audit counts in the lines of a run, and what it says of its two words.
use Rattle.std.proofs.Common.{◌≡◌, ℕ, Bool, true, not, ◌&&◌, List, [], ◌∷◌, ◌++◌, fold, flat_map, length, Option, Some, None, Result, Ok, Err, refl, sym, ap, ◌∙◌, subst}
use Rattle.std.specs.List.{list_any}
use Rattle.std.proofs.lemmas.List.Sums.{fold-append}
use Rattle.zb_audit.specs.Ending as audit
use Rattle.zb_audit.specs.Faults.{IsAnswer, first_fault}
use Rattle.zb_audit.specs.declared.fault.AuditFault.{AuditFault}
use Rattle.zb_audit.specs.declared.fault.AuditFault.TheVariants.{Broken, NoMemory}
use Rattle.zb_audit.specs.declared.fault.BadLine.{BadLine}
use Rattle.zb_audit.specs.declared.fault.Verdict.{Verdict}
use Rattle.law_audit_sound.proofs.Endings.{accepts_same, seals_same}
use Rattle.law_audit_sound.specs.Agreeing.{WordsSame}
use Rattle.law_audit_groups.specs.Printing.{printed}
use Rattle.zb_audit_names.specs.Secrets as secrets
use Rattle.zb_model.specs.Data.{Bytes, Term}
use Rattle.zb_model.specs.Lines as log
use Rattle.zb_model.specs.Lines.{Line}
use Rattle.zb_model.specs.Play.{Schedule, stations}
use Rattle.zb_model.specs.Secrets.{based_line, carried, each_line, forged_in, holds_some, ideal, ideal_line, network_in, network_keys, passes_on, private}
use Rattle.zb_model.specs.Tools.{Tools}
use Rattle.zb_model.specs.Transcript.{accept_count, end_line, run_lines, seal_count, transcript}
use Rattle.law_run.proofs.Basics.{append-nil', flat_map-append}
use Rattle.zb_model_real.specs.Real.{real}
use Rattle.law_audit_sound.specs.Sound.{IsVerdict, lines_of, verdict}

-- ---- the end line adds nothing to the words

each_more : (test : List Line → Line → Bool) (l : Line) → ((g : List Line) → test g l ≡ true) → (h xs : List Line)
    → each_line test h (xs ++ l ∷ []) ≡ each_line test h xs
unfolding each_line
each_more test l always h [] = ap (λ (b : Bool). b && true) (always h)
each_more test l always h (x ∷ xs) = ap (λ (b : Bool). test h x && b) (each_more test l always (h ++ x ∷ []) xs)

none_more : {X : Type 0} (f : Line → List X) (h : List Line) (l : Line) → f l ≡ [] → flat_map f (h ++ l ∷ [])
    ≡ flat_map f h
none_more {X = X} f h l none =
    flat_map-append f h (l ∷ []) ∙ (ap (λ (ys : List X). flat_map f h ++ (ys ++ [])) none ∙ append-nil' (flat_map f h))

ideal_stays : (tools : Tools) (h : List Line) (events seals accepts refusals : ℕ) (i p : Bool)
    → ideal tools (h ++ log.End events seals accepts refusals i p ∷ []) ≡ ideal tools h
unfolding ideal ideal_line
ideal_stays tools h events seals accepts refusals i p =
    each_more (ideal_line tools) (log.End events seals accepts refusals i p) (λ g. refl) [] h

passes_stays : (tools : Tools) (h : List Line) (l : Line) → network_in l ≡ [] → forged_in l ≡ []
    → passes_on tools (h ++ l ∷ []) ≡ passes_on tools h
unfolding passes_on network_keys
passes_stays tools h l keys forged =
    ap (λ (ks : List Bytes). list_any (λ (t : Term). holds_some ks (carried tools t))
    (flat_map forged_in (h ++ l ∷ []))) (none_more network_in h l keys)
    ∙ ap (λ (ts : List Term). list_any (λ (t : Term). holds_some (flat_map network_in h) (carried tools t)) ts)
    (none_more forged_in h l forged)

private_stays : (tools : Tools) (h : List Line) (events seals accepts refusals : ℕ) (i p : Bool)
    → private tools (h ++ log.End events seals accepts refusals i p ∷ []) ≡ private tools h
unfolding private
private_stays tools h events seals accepts refusals i p =
    let last = log.End events seals accepts refusals i p in
    ap (λ (b : Bool). b && not (passes_on tools (h ++ last ∷ []))) (each_more (based_line tools) last (λ g. refl) [] h)
    ∙ ap (λ (b : Bool). each_line (based_line tools) [] h && not b) (passes_stays tools h last refl refl)

words_are : (tools : Tools) (w : Schedule) → WordsSame tools (stations w) (transcript tools w)
    → (secrets.ideal tools (printed (stations w) (transcript tools w))
    && secrets.private tools (printed (stations w) (transcript tools w)))
    ≡ (ideal tools (run_lines tools w) && private tools (run_lines tools w))
unfolding transcript end_line
words_are tools w same =
    let run = run_lines tools w in
    ap (λ (b : Bool). b && secrets.private tools (printed (stations w) (transcript tools w)))
    (same.ideal ∙ ideal_stays tools run (length w.events) (fold seal_count 0 run) (fold accept_count 0 run)
    (fold Rattle.zb_model.specs.Transcript.refuse_count 0 run) (ideal tools run) (private tools run))
    ∙ ap (λ (b : Bool). ideal tools run && b)
    (same.private ∙ private_stays tools run (length w.events) (fold seal_count 0 run) (fold accept_count 0 run)
    (fold Rattle.zb_model.specs.Transcript.refuse_count 0 run) (ideal tools run) (private tools run))

-- ---- nor to the counts

seals_are : (tools : Tools) (w : Schedule) → audit.seals_in (printed (stations w) (transcript tools w))
    ≡ fold seal_count 0 (run_lines tools w)
unfolding transcript end_line audit.seals_in
seals_are tools w =
    let run = run_lines tools w in
    let last = end_line tools (length w.events) run in
    seals_same (stations w) 0 (run ++ last ∷ []) ∙ fold-append seal_count 0 run (last ∷ [])

accepts_are : (tools : Tools) (w : Schedule) → audit.accepts_in (printed (stations w) (transcript tools w))
    ≡ fold accept_count 0 (run_lines tools w)
unfolding transcript end_line audit.accepts_in
accepts_are tools w =
    let run = run_lines tools w in
    let last = end_line tools (length w.events) run in
    accepts_same (stations w) 0 (run ++ last ∷ []) ∙ fold-append accept_count 0 run (last ∷ [])

-- ---- the verdict

same_verdict : (v : Verdict) (seals accepts : ℕ) (locked : Bool) → v.seals ≡ seals → v.accepts ≡ accepts → v.locked
    ≡ locked → v ≡ verdict seals accepts locked
same_verdict v seals accepts locked s a l =
    ap (λ (n : ℕ). verdict n v.accepts v.locked) s ∙
    (ap (λ (n : ℕ). verdict seals n v.locked) a ∙ ap (λ (b : Bool). verdict seals accepts b) l)

abbrev IsNothing : Option BadLine → Type 0
IsNothing None = Unit {0}
IsNothing (Some bad) = ⊥

-- if no line is bad, an audit has this verdict
pub answered : (w : Schedule) → WordsSame real (stations w) (transcript real w) → first_fault real (lines_of w) ≡ None
    → (result : Result Verdict AuditFault) → IsAnswer real (lines_of w) result → IsVerdict w result
answered w same whole (Ok v) is =
    same_verdict v (fold seal_count 0 (run_lines real w)) (fold accept_count 0 (run_lines real w))
    (ideal real (run_lines real w) && private real (run_lines real w))
    (is.seals ∙ seals_are real w) (is.accepts ∙ accepts_are real w) (is.locked ∙ words_are real w same)
answered w same whole (Err (Broken line clause)) is = subst IsNothing (sym whole ∙ is) tt
answered w same whole (Err NoMemory) is = tt
