-- No line of a run seals under a key and nonce that was used before, as the audit reads it.
use Rattle.std.proofs.Common.{◌≡◌, ℕ, ◌&&◌, ◌||◌, not, true, false, List, [], ◌∷◌, ◌++◌, nat_eq, bytes_eq, refl, sym, ap, ◌∙◌, eqb-true}
use Rattle.std.specs.List.{AllByRecursion, list_any}
use Rattle.std.proofs.lemmas.Bool.{and_parts}
use Rattle.std.proofs.lemmas.Slice.Eq.{bytes_eq-Decides}
use Rattle.zb_audit.specs.Failing.{failing}
use Rattle.law_audit_sound.specs.Keeping.{KeepsFirst}
use Rattle.zb_audit.specs.Nonces.{is_fresh, same_stamp, seals_alike}
use Rattle.law_audit_sound.proofs.Clauses.{Passes, never_true, none_fails}
use Rattle.law_audit_groups.specs.Printing.{printed}
use Rattle.zb_model.specs.Claims.{Fresh, Stamp, nonce, sealed_in, sealed_terms, stamp}
use Rattle.zb_model.specs.Data as model
use Rattle.zb_model.specs.Data.{Bytes, Station, Term}
use Rattle.zb_model.specs.Lines as log
use Rattle.zb_model.specs.Lines.{Line}
use Rattle.zb_model.specs.Play.{Schedule, stations}
use Rattle.zb_model.specs.Record.{eight_bytes, four_bytes}
use Rattle.zb_model.specs.Schedules.{IsSchedule}
use Rattle.zb_model.specs.Tools.{sealing_key as model_key}
use Rattle.zb_model.specs.Transcript.{transcript}
use Rattle.law_run.proofs.FreshLines.{all-append}
use Rattle.law_run.proofs.Runs.{fresh}
use Rattle.zb_model_real.specs.Real.{real}
use Rattle.zb_model_real.specs.Terms.{label_of, term_of}
use Rattle.zb_trace_model.specs.Said.{line_for}
use Rattle.zb_seal.specs.Keys.{sealing_key}

-- ---- one seal and another

key_same : (label : model.Label) (base : Bytes) → sealing_key (label_of label) base ≡ model_key real label base
unfolding model_key real
key_same model.ForData base = refl
key_same model.ForNetwork base = refl
key_same model.ForTransport base = refl
key_same model.ForLoad base = refl

abbrev stamped : Bytes → ℕ → ℕ → ℕ → Stamp
stamped key source counter control =
    record { key = key; nonce = eight_bytes source ++ (four_bytes counter ++ control ∷ []) }

abbrev Apart : Term → Term → Type 0
Apart u t = stamp real u ≡ stamp real t → ⊥

unlike : (u t : Term) → Apart u t → same_stamp (term_of t) (term_of u) ≡ false
unfolding same_stamp stamp nonce
unlike u t apart =
    let ku = sealing_key (label_of u.label) u.base in
    let kt = sealing_key (label_of t.label) t.base in
    never_true (same_stamp (term_of t) (term_of u)) (λ e.
    let first =
    and_parts (bytes_eq kt ku)
    (nat_eq t.source u.source && (nat_eq t.counter u.counter && nat_eq t.control u.control)) e in
    let second = and_parts (nat_eq t.source u.source) (nat_eq t.counter u.counter && nat_eq t.control u.control)
    first.1 in
    let third = and_parts (nat_eq t.counter u.counter) (nat_eq t.control u.control) second.1 in
    let keys : model_key real u.label u.base ≡ model_key real t.label t.base =
    sym (key_same u.label u.base) ∙ sym ((bytes_eq-Decides kt ku).0 first.0) ∙ key_same t.label t.base in
    apart (ap (λ key. stamped key u.source u.counter u.control) keys
    ∙ ap (λ source. stamped (model_key real t.label t.base) source u.counter u.control)
    (sym (eqb-true t.source u.source second.0))
    ∙ ap (λ counter. stamped (model_key real t.label t.base) t.source counter u.control)
    (sym (eqb-true t.counter u.counter third.0))
    ∙ ap (λ control. stamped (model_key real t.label t.base) t.source t.counter control)
    (sym (eqb-true t.control u.control third.1))))

-- ---- a line before others

-- what it seals differs from all that they seal
abbrev ApartFrom : Line → List Line → Type 0
ApartFrom (log.Seal event n u) ms = AllByRecursion (Apart u) (sealed_terms ms)
ApartFrom _ ms = Unit {0}

alike_not : (known : List Station) (event n : ℕ) (t : Term) (ms : List Line) (m : Line)
    → ApartFrom m (log.Seal event n t ∷ ms) → seals_alike (term_of t) (line_for known m) ≡ false
unfolding line_for sealed_terms
alike_not known event n t ms (log.Declared p) all = refl
alike_not known event n t ms (log.GivenNet j key sequence) all = refl
alike_not known event n t ms (log.GivenLink j partner key) all = refl
alike_not known event n t ms (log.Counter j l limit) all = refl
alike_not known event n t ms (log.Commit e j) all = refl
alike_not known event n t ms (log.Accept e j u) all = refl
alike_not known event n t ms (log.Refuse e j at why) all = refl
alike_not known event n t ms (log.Seal e j u) all = unlike u t all.0
alike_not known event n t ms (log.Forge e u) all = refl
alike_not known event n t ms (log.Send e from frame bytes) all = refl
alike_not known event n t ms (log.Inject e frame bytes) all = refl
alike_not known event n t ms (log.Stopped e j) all = refl
alike_not known event n t ms (log.DownReset e j) all = refl
alike_not known event n t ms (log.DownDisk e j) all = refl
alike_not known event n t ms (log.Boot e j) all = refl
alike_not known event n t ms (log.Dump e j bytes) all = refl
alike_not known event n t ms (log.End events seals accepts refusals ideal private) all = refl
alike_not known event n t ms (log.Changed e j (model.Reserve l limit)) all = refl
alike_not known event n t ms (log.Changed e j (model.Floor l k from value)) all = refl
alike_not known event n t ms (log.Changed e j (model.Start k value)) all = refl
alike_not known event n t ms (log.Changed e j (model.Moved (model.Draw key))) all = refl
alike_not known event n t ms (log.Changed e j (model.Moved (model.DropNet key))) all = refl
alike_not known event n t ms (log.Changed e j (model.Moved (model.DropLink partner key))) all = refl
alike_not known event n t ms (log.Changed e j (model.Moved (model.Install key sequence))) all = refl
alike_not known event n t ms (log.Changed e j (model.Moved (model.Active key))) all = refl
alike_not known event n t ms (log.Changed e j (model.Moved (model.Row partner key attribute))) all = refl
alike_not known event n t ms (log.Changed e j (model.Moved (model.Pair first second key))) all = refl
alike_not known event n t ms (log.Changed e j (model.Moved (model.Became state))) all = refl
alike_not known event n t ms (log.Changed e j (model.Moved (model.Live device))) all = refl
alike_not known event n t ms (log.Changed e j (model.Moved (model.Removed device))) all = refl
alike_not known event n t ms (log.Changed e j (model.Moved (model.Roll sending))) all = refl
alike_not known event n t ms (log.Changed e j (model.Moved (model.Told device))) all = refl
alike_not known event n t ms (log.Changed e j (model.Moved (model.Untold device))) all = refl

abbrev Behind : List Line → Line → Type 0
Behind ms m = ApartFrom m ms

none_alike : (known : List Station) (event n : ℕ) (t : Term) (ms h : List Line)
    → AllByRecursion (Behind (log.Seal event n t ∷ ms)) h → list_any (seals_alike (term_of t)) (printed known h)
    ≡ false
none_alike known event n t ms [] all = refl
none_alike known event n t ms (m ∷ h) all =
    ap (λ b. b || list_any (seals_alike (term_of t)) (printed known h)) (alike_not known event n t ms m all.0) ∙
    none_alike known event n t ms h all.1

line_fresh : (known : List Station) (h : List Line) (m : Line) (ms : List Line) → AllByRecursion (Behind (m ∷ ms)) h
    → is_fresh (printed known h) (line_for known m) ≡ true
unfolding is_fresh line_for
line_fresh known h (log.Declared p) ms all = refl
line_fresh known h (log.GivenNet j key sequence) ms all = refl
line_fresh known h (log.GivenLink j partner key) ms all = refl
line_fresh known h (log.Counter j l limit) ms all = refl
line_fresh known h (log.Commit event j) ms all = refl
line_fresh known h (log.Accept event j t) ms all = refl
line_fresh known h (log.Refuse event j at why) ms all = refl
line_fresh known h (log.Seal event j t) ms all = ap not (none_alike known event j t ms h all)
line_fresh known h (log.Forge event t) ms all = refl
line_fresh known h (log.Send event from frame bytes) ms all = refl
line_fresh known h (log.Inject event frame bytes) ms all = refl
line_fresh known h (log.Stopped event j) ms all = refl
line_fresh known h (log.DownReset event j) ms all = refl
line_fresh known h (log.DownDisk event j) ms all = refl
line_fresh known h (log.Boot event j) ms all = refl
line_fresh known h (log.Dump event j bytes) ms all = refl
line_fresh known h (log.End events seals accepts refusals ideal private) ms all = refl
line_fresh known h (log.Changed event j (model.Reserve l limit)) ms all = refl
line_fresh known h (log.Changed event j (model.Floor l k from value)) ms all = refl
line_fresh known h (log.Changed event j (model.Start k value)) ms all = refl
line_fresh known h (log.Changed event j (model.Moved (model.Draw key))) ms all = refl
line_fresh known h (log.Changed event j (model.Moved (model.DropNet key))) ms all = refl
line_fresh known h (log.Changed event j (model.Moved (model.DropLink partner key))) ms all = refl
line_fresh known h (log.Changed event j (model.Moved (model.Install key sequence))) ms all = refl
line_fresh known h (log.Changed event j (model.Moved (model.Active key))) ms all = refl
line_fresh known h (log.Changed event j (model.Moved (model.Row partner key attribute))) ms all = refl
line_fresh known h (log.Changed event j (model.Moved (model.Pair first second key))) ms all = refl
line_fresh known h (log.Changed event j (model.Moved (model.Became state))) ms all = refl
line_fresh known h (log.Changed event j (model.Moved (model.Live device))) ms all = refl
line_fresh known h (log.Changed event j (model.Moved (model.Removed device))) ms all = refl
line_fresh known h (log.Changed event j (model.Moved (model.Roll sending))) ms all = refl
line_fresh known h (log.Changed event j (model.Moved (model.Told device))) ms all = refl
line_fresh known h (log.Changed event j (model.Moved (model.Untold device))) ms all = refl

-- ---- along lines

all_right : {X : Type 0} (P : X → Type 0) (xs ys : List X) → AllByRecursion P (xs ++ ys) → AllByRecursion P ys
all_right P [] ys all = all
all_right P (x ∷ xs) ys all = all_right P xs ys all.1

drop_first : (P : Term → Type 0) (m : Line) (ms : List Line) → AllByRecursion P (sealed_terms (m ∷ ms))
    → AllByRecursion P (sealed_terms ms)
unfolding sealed_terms
drop_first P m ms all = all_right P (sealed_in m) (sealed_terms ms) all

less_behind : (l m : Line) (ms : List Line) → ApartFrom l (m ∷ ms) → ApartFrom l ms
less_behind (log.Declared p) m ms all = tt
less_behind (log.GivenNet j key sequence) m ms all = tt
less_behind (log.GivenLink j partner key) m ms all = tt
less_behind (log.Counter j l limit) m ms all = tt
less_behind (log.Commit event j) m ms all = tt
less_behind (log.Accept event j u) m ms all = tt
less_behind (log.Refuse event j at why) m ms all = tt
less_behind (log.Seal event j u) m ms all = drop_first (Apart u) m ms all
less_behind (log.Forge event u) m ms all = tt
less_behind (log.Send event from frame bytes) m ms all = tt
less_behind (log.Inject event frame bytes) m ms all = tt
less_behind (log.Stopped event j) m ms all = tt
less_behind (log.DownReset event j) m ms all = tt
less_behind (log.DownDisk event j) m ms all = tt
less_behind (log.Boot event j) m ms all = tt
less_behind (log.Dump event j bytes) m ms all = tt
less_behind (log.End events seals accepts refusals ideal private) m ms all = tt
less_behind (log.Changed event j (model.Reserve l limit)) m ms all = tt
less_behind (log.Changed event j (model.Floor l k from value)) m ms all = tt
less_behind (log.Changed event j (model.Start k value)) m ms all = tt
less_behind (log.Changed event j (model.Moved (model.Draw key))) m ms all = tt
less_behind (log.Changed event j (model.Moved (model.DropNet key))) m ms all = tt
less_behind (log.Changed event j (model.Moved (model.DropLink partner key))) m ms all = tt
less_behind (log.Changed event j (model.Moved (model.Install key sequence))) m ms all = tt
less_behind (log.Changed event j (model.Moved (model.Active key))) m ms all = tt
less_behind (log.Changed event j (model.Moved (model.Row partner key attribute))) m ms all = tt
less_behind (log.Changed event j (model.Moved (model.Pair first second key))) m ms all = tt
less_behind (log.Changed event j (model.Moved (model.Became state))) m ms all = tt
less_behind (log.Changed event j (model.Moved (model.Live device))) m ms all = tt
less_behind (log.Changed event j (model.Moved (model.Removed device))) m ms all = tt
less_behind (log.Changed event j (model.Moved (model.Roll sending))) m ms all = tt
less_behind (log.Changed event j (model.Moved (model.Told device))) m ms all = tt
less_behind (log.Changed event j (model.Moved (model.Untold device))) m ms all = tt

all_less : (h : List Line) (m : Line) (ms : List Line) → AllByRecursion (Behind (m ∷ ms)) h
    → AllByRecursion (Behind ms) h
all_less [] m ms all = tt
all_less (l ∷ h) m ms all = (less_behind l m ms all.0, all_less h m ms all.1)

first_apart : (m : Line) (ms : List Line) → Fresh real (m ∷ ms) → ApartFrom m ms × Fresh real ms
unfolding sealed_terms
first_apart (log.Declared p) ms all = (tt, all)
first_apart (log.GivenNet j key sequence) ms all = (tt, all)
first_apart (log.GivenLink j partner key) ms all = (tt, all)
first_apart (log.Counter j l limit) ms all = (tt, all)
first_apart (log.Commit event j) ms all = (tt, all)
first_apart (log.Accept event j t) ms all = (tt, all)
first_apart (log.Refuse event j at why) ms all = (tt, all)
first_apart (log.Seal event j t) ms all = (all.0, all.1)
first_apart (log.Forge event t) ms all = (tt, all)
first_apart (log.Send event from frame bytes) ms all = (tt, all)
first_apart (log.Inject event frame bytes) ms all = (tt, all)
first_apart (log.Stopped event j) ms all = (tt, all)
first_apart (log.DownReset event j) ms all = (tt, all)
first_apart (log.DownDisk event j) ms all = (tt, all)
first_apart (log.Boot event j) ms all = (tt, all)
first_apart (log.Dump event j bytes) ms all = (tt, all)
first_apart (log.End events seals accepts refusals ideal private) ms all = (tt, all)
first_apart (log.Changed event j (model.Reserve l limit)) ms all = (tt, all)
first_apart (log.Changed event j (model.Floor l k from value)) ms all = (tt, all)
first_apart (log.Changed event j (model.Start k value)) ms all = (tt, all)
first_apart (log.Changed event j (model.Moved (model.Draw key))) ms all = (tt, all)
first_apart (log.Changed event j (model.Moved (model.DropNet key))) ms all = (tt, all)
first_apart (log.Changed event j (model.Moved (model.DropLink partner key))) ms all = (tt, all)
first_apart (log.Changed event j (model.Moved (model.Install key sequence))) ms all = (tt, all)
first_apart (log.Changed event j (model.Moved (model.Active key))) ms all = (tt, all)
first_apart (log.Changed event j (model.Moved (model.Row partner key attribute))) ms all = (tt, all)
first_apart (log.Changed event j (model.Moved (model.Pair first second key))) ms all = (tt, all)
first_apart (log.Changed event j (model.Moved (model.Became state))) ms all = (tt, all)
first_apart (log.Changed event j (model.Moved (model.Live device))) ms all = (tt, all)
first_apart (log.Changed event j (model.Moved (model.Removed device))) ms all = (tt, all)
first_apart (log.Changed event j (model.Moved (model.Roll sending))) ms all = (tt, all)
first_apart (log.Changed event j (model.Moved (model.Told device))) ms all = (tt, all)
first_apart (log.Changed event j (model.Moved (model.Untold device))) ms all = (tt, all)

passes : (known : List Station) (h ms : List Line) → AllByRecursion (Behind ms) h → Fresh real ms
    → Passes is_fresh known h ms
passes known h [] all is = tt
passes known h (m ∷ ms) all is =
    let both = first_apart m ms is in (
      line_fresh known h m ms all,
      passes known (h ++ m ∷ []) ms (all-append (Behind ms) h (m ∷ []) (all_less h m ms all) (both.0, tt)) both.1,
    )

pub keeps_first : (w : Schedule) → IsSchedule w → KeepsFirst w
unfolding failing
keeps_first w is = none_fails is_fresh (stations w) [] (transcript real w)
    (passes (stations w) [] (transcript real w) tt (fresh real w is))
