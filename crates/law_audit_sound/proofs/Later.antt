-- No line of a run accepts a counter twice, as the audit reads it.
use Rattle.std.proofs.Common.{◌≡◌, ℕ, ◌<◌, ◌≤◌, ◌&&◌, ◌||◌, not, true, false, List, [], ◌∷◌, ◌++◌, nat_eq, nat_le, bytes_eq, refl, sym, ap, ◌∙◌, eqb-true, arith}
use Rattle.std.specs.List.{AllByRecursion, list_any}
use Rattle.std.proofs.lemmas.Bool.{and_parts, false≢true, leb-true}
use Rattle.std.proofs.lemmas.Slice.Eq.{bytes_eq-Decides}
use Rattle.zb_audit.specs.Failing.{failing}
use Rattle.law_audit_sound.specs.Keeping.{KeepsSecond}
use Rattle.zb_audit.specs.Taking.{bars, is_later, same_layer, same_sender}
use Rattle.law_audit_sound.proofs.Clauses.{Passes, never_true, none_fails}
use Rattle.law_audit_groups.specs.Printing.{printed}
use Rattle.zb_model.specs.Claims.{Once, OnceFrom}
use Rattle.zb_model.specs.Data as model
use Rattle.zb_model.specs.Data.{Bytes, Station, Term}
use Rattle.zb_model.specs.Lines as log
use Rattle.zb_model.specs.Lines.{Line}
use Rattle.zb_model.specs.Play.{Schedule, stations}
use Rattle.zb_model.specs.Schedules.{IsSchedule}
use Rattle.zb_model.specs.Tools.{Tools}
use Rattle.zb_model.specs.Transcript.{transcript}
use Rattle.law_run.specs.Commanding.{OneCentre}
use Rattle.law_run.specs.Opening.{Opens}
use Rattle.law_run.proofs.FreshLines.{all-append}
use Rattle.law_run.proofs.OnceRuns.{once as taken_once}
use Rattle.law_run_text.specs.OfNodes.{IsOfSchedule}
use Rattle.law_run_text.proofs.Lines.{are_of_nodes}
use Rattle.zb_model_real.specs.Terms.{layer_of, term_of}
use Rattle.law_audit_sound.proofs.EachLine.{tells_apart}
use Rattle.zb_trace_model.specs.Naming.{AreNamed, IsDeclared, name_of}
use Rattle.zb_trace_model.specs.Said.{IsOfNodes, line_for}

-- ---- one accepted counter and another

layers_same : (a b : model.Layer) → same_layer (layer_of a) (layer_of b) ≡ true → a ≡ b
layers_same model.Nwk model.Nwk e = refl
layers_same model.Nwk model.Aps e = absurd (false≢true e)
layers_same model.Aps model.Nwk e = absurd (false≢true e)
layers_same model.Aps model.Aps e = refl

abbrev Later : ℕ → Term → ℕ → Term → Type 0
Later j u n t = j ≡ n → u.layer ≡ t.layer → u.base ≡ t.base → u.source ≡ t.source → u.counter < t.counter

apart_names : (known : List Station) → AreNamed known → (j n : ℕ) → IsDeclared known j → IsDeclared known n
    → bytes_eq (name_of known j) (name_of known n) ≡ true → j ≡ n
apart_names known fits j n there its e = eqb-true j n (sym (tells_apart known fits n its j there) ∙ e)

unbarred : (known : List Station) → AreNamed known → (j n : ℕ) (u t : Term) → IsDeclared known j → IsDeclared known n
    → Later j u n t
    → (bytes_eq (name_of known j) (name_of known n)
    && (same_sender (term_of t) (term_of u) && nat_le t.counter u.counter)) ≡ false
unfolding same_sender
unbarred known fits j n u t there its later =
    never_true
    (bytes_eq (name_of known j) (name_of known n)
    && (same_sender (term_of t) (term_of u) && nat_le t.counter u.counter)) (λ e.
    let first = and_parts (bytes_eq (name_of known j) (name_of known n))
    (same_sender (term_of t) (term_of u) && nat_le t.counter u.counter) e in
    let second = and_parts (same_sender (term_of t) (term_of u)) (nat_le t.counter u.counter) first.1 in
    let third = and_parts (same_layer (layer_of t.layer) (layer_of u.layer))
    (bytes_eq t.base u.base && nat_eq t.source u.source) second.0 in
    let fourth = and_parts (bytes_eq t.base u.base) (nat_eq t.source u.source) third.1 in
    let less : u.counter < t.counter = later (apart_names known fits j n there its first.0)
    (sym (layers_same t.layer u.layer third.0)) (sym ((bytes_eq-Decides t.base u.base).0 fourth.0))
    (sym (eqb-true t.source u.source fourth.1)) in
    let most : t.counter ≤ u.counter = leb-true t.counter u.counter second.1 in
    omega (arith, less, most))

-- ---- a line before another

bars_not : (known : List Station) → AreNamed known → (n event : ℕ) (t : Term) (ms : List Line) → IsDeclared known n
    → (m : Line) → IsOfNodes known m → OnceFrom m (log.Accept event n t ∷ ms)
    → bars (name_of known n) (term_of t) (line_for known m) ≡ false
unfolding bars line_for
bars_not known fits n event t ms its (log.Declared p) is once = refl
bars_not known fits n event t ms its (log.GivenNet j key sequence) is once = refl
bars_not known fits n event t ms its (log.GivenLink j partner key) is once = refl
bars_not known fits n event t ms its (log.Counter j l limit) is once = refl
bars_not known fits n event t ms its (log.Commit e j) is once = refl
bars_not known fits n event t ms its (log.Accept e j u) is once = unbarred known fits j n u t is its once.0
bars_not known fits n event t ms its (log.Refuse e j at why) is once = refl
bars_not known fits n event t ms its (log.Seal e j u) is once = refl
bars_not known fits n event t ms its (log.Forge e u) is once = refl
bars_not known fits n event t ms its (log.Send e from frame bytes) is once = refl
bars_not known fits n event t ms its (log.Inject e frame bytes) is once = refl
bars_not known fits n event t ms its (log.Stopped e j) is once = refl
bars_not known fits n event t ms its (log.DownReset e j) is once = refl
bars_not known fits n event t ms its (log.DownDisk e j) is once = refl
bars_not known fits n event t ms its (log.Boot e j) is once = refl
bars_not known fits n event t ms its (log.Dump e j bytes) is once = refl
bars_not known fits n event t ms its (log.End events seals accepts refusals ideal private) is once = refl
bars_not known fits n event t ms its (log.Changed e j (model.Reserve l limit)) is once = refl
bars_not known fits n event t ms its (log.Changed e j (model.Floor l k from value)) is once = refl
bars_not known fits n event t ms its (log.Changed e j (model.Start k value)) is once = refl
bars_not known fits n event t ms its (log.Changed e j (model.Moved (model.Draw key))) is once = refl
bars_not known fits n event t ms its (log.Changed e j (model.Moved (model.DropNet key))) is once = refl
bars_not known fits n event t ms its (log.Changed e j (model.Moved (model.DropLink partner key))) is once = refl
bars_not known fits n event t ms its (log.Changed e j (model.Moved (model.Install key sequence))) is once = refl
bars_not known fits n event t ms its (log.Changed e j (model.Moved (model.Active key))) is once = refl
bars_not known fits n event t ms its (log.Changed e j (model.Moved (model.Row partner key attribute))) is once = refl
bars_not known fits n event t ms its (log.Changed e j (model.Moved (model.Pair first second key))) is once = refl
bars_not known fits n event t ms its (log.Changed e j (model.Moved (model.Became state))) is once = refl
bars_not known fits n event t ms its (log.Changed e j (model.Moved (model.Live device))) is once = refl
bars_not known fits n event t ms its (log.Changed e j (model.Moved (model.Removed device))) is once = refl
bars_not known fits n event t ms its (log.Changed e j (model.Moved (model.Roll sending))) is once = refl
bars_not known fits n event t ms its (log.Changed e j (model.Moved (model.Told device))) is once = refl
bars_not known fits n event t ms its (log.Changed e j (model.Moved (model.Untold device))) is once = refl

abbrev Behind : List Line → Line → Type 0
Behind ms m = OnceFrom m ms

none_bars : (known : List Station) → AreNamed known → (n event : ℕ) (t : Term) (ms : List Line) → IsDeclared known n
    → (h : List Line) → AllByRecursion (IsOfNodes known) h
    → AllByRecursion (Behind (log.Accept event n t ∷ ms)) h
    → list_any (bars (name_of known n) (term_of t)) (printed known h) ≡ false
none_bars known fits n event t ms its [] of all = refl
none_bars known fits n event t ms its (m ∷ h) of all =
    ap (λ b. b || list_any (bars (name_of known n) (term_of t)) (printed known h))
    (bars_not known fits n event t ms its m of.0 all.0)
    ∙ none_bars known fits n event t ms its h of.1 all.1

line_later : (known : List Station) → AreNamed known → (h : List Line) → AllByRecursion (IsOfNodes known) h
    → (m : Line) (ms : List Line) → IsOfNodes known m → AllByRecursion (Behind (m ∷ ms)) h
    → is_later (printed known h) (line_for known m) ≡ true
unfolding is_later line_for
line_later known fits h of (log.Declared p) ms is all = refl
line_later known fits h of (log.GivenNet j key sequence) ms is all = refl
line_later known fits h of (log.GivenLink j partner key) ms is all = refl
line_later known fits h of (log.Counter j l limit) ms is all = refl
line_later known fits h of (log.Commit event j) ms is all = refl
line_later known fits h of (log.Accept event j t) ms is all = ap not (none_bars known fits j event t ms is h of all)
line_later known fits h of (log.Refuse event j at why) ms is all = refl
line_later known fits h of (log.Seal event j t) ms is all = refl
line_later known fits h of (log.Forge event t) ms is all = refl
line_later known fits h of (log.Send event from frame bytes) ms is all = refl
line_later known fits h of (log.Inject event frame bytes) ms is all = refl
line_later known fits h of (log.Stopped event j) ms is all = refl
line_later known fits h of (log.DownReset event j) ms is all = refl
line_later known fits h of (log.DownDisk event j) ms is all = refl
line_later known fits h of (log.Boot event j) ms is all = refl
line_later known fits h of (log.Dump event j bytes) ms is all = refl
line_later known fits h of (log.End events seals accepts refusals ideal private) ms is all = refl
line_later known fits h of (log.Changed event j (model.Reserve l limit)) ms is all = refl
line_later known fits h of (log.Changed event j (model.Floor l k from value)) ms is all = refl
line_later known fits h of (log.Changed event j (model.Start k value)) ms is all = refl
line_later known fits h of (log.Changed event j (model.Moved (model.Draw key))) ms is all = refl
line_later known fits h of (log.Changed event j (model.Moved (model.DropNet key))) ms is all = refl
line_later known fits h of (log.Changed event j (model.Moved (model.DropLink partner key))) ms is all = refl
line_later known fits h of (log.Changed event j (model.Moved (model.Install key sequence))) ms is all = refl
line_later known fits h of (log.Changed event j (model.Moved (model.Active key))) ms is all = refl
line_later known fits h of (log.Changed event j (model.Moved (model.Row partner key attribute))) ms is all = refl
line_later known fits h of (log.Changed event j (model.Moved (model.Pair first second key))) ms is all = refl
line_later known fits h of (log.Changed event j (model.Moved (model.Became state))) ms is all = refl
line_later known fits h of (log.Changed event j (model.Moved (model.Live device))) ms is all = refl
line_later known fits h of (log.Changed event j (model.Moved (model.Removed device))) ms is all = refl
line_later known fits h of (log.Changed event j (model.Moved (model.Roll sending))) ms is all = refl
line_later known fits h of (log.Changed event j (model.Moved (model.Told device))) ms is all = refl
line_later known fits h of (log.Changed event j (model.Moved (model.Untold device))) ms is all = refl

-- ---- along lines

less_behind : (l m : Line) (ms : List Line) → OnceFrom l (m ∷ ms) → OnceFrom l ms
less_behind (log.Declared p) m ms once = tt
less_behind (log.GivenNet j key sequence) m ms once = tt
less_behind (log.GivenLink j partner key) m ms once = tt
less_behind (log.Counter j l limit) m ms once = tt
less_behind (log.Commit event j) m ms once = tt
less_behind (log.Accept event j t) m ms once = once.1
less_behind (log.Refuse event j at why) m ms once = tt
less_behind (log.Seal event j t) m ms once = tt
less_behind (log.Forge event t) m ms once = tt
less_behind (log.Send event from frame bytes) m ms once = tt
less_behind (log.Inject event frame bytes) m ms once = tt
less_behind (log.Stopped event j) m ms once = tt
less_behind (log.DownReset event j) m ms once = tt
less_behind (log.DownDisk event j) m ms once = tt
less_behind (log.Boot event j) m ms once = tt
less_behind (log.Dump event j bytes) m ms once = tt
less_behind (log.End events seals accepts refusals ideal private) m ms once = tt
less_behind (log.Changed event j (model.Reserve l limit)) m ms once = tt
less_behind (log.Changed event j (model.Floor l k from value)) m ms once = tt
less_behind (log.Changed event j (model.Start k value)) m ms once = tt
less_behind (log.Changed event j (model.Moved (model.Draw key))) m ms once = tt
less_behind (log.Changed event j (model.Moved (model.DropNet key))) m ms once = tt
less_behind (log.Changed event j (model.Moved (model.DropLink partner key))) m ms once = tt
less_behind (log.Changed event j (model.Moved (model.Install key sequence))) m ms once = tt
less_behind (log.Changed event j (model.Moved (model.Active key))) m ms once = tt
less_behind (log.Changed event j (model.Moved (model.Row partner key attribute))) m ms once = tt
less_behind (log.Changed event j (model.Moved (model.Pair first second key))) m ms once = tt
less_behind (log.Changed event j (model.Moved (model.Became state))) m ms once = tt
less_behind (log.Changed event j (model.Moved (model.Live device))) m ms once = tt
less_behind (log.Changed event j (model.Moved (model.Removed device))) m ms once = tt
less_behind (log.Changed event j (model.Moved (model.Roll sending))) m ms once = tt
less_behind (log.Changed event j (model.Moved (model.Told device))) m ms once = tt
less_behind (log.Changed event j (model.Moved (model.Untold device))) m ms once = tt

all_less : (h : List Line) (m : Line) (ms : List Line) → AllByRecursion (Behind (m ∷ ms)) h
    → AllByRecursion (Behind ms) h
all_less [] m ms all = tt
all_less (l ∷ h) m ms all = (less_behind l m ms all.0, all_less h m ms all.1)

passes : (known : List Station) → AreNamed known → (h ms : List Line) → AllByRecursion (IsOfNodes known) h
    → AllByRecursion (IsOfNodes known) ms → AllByRecursion (Behind ms) h → Once ms → Passes is_later known h ms
passes known fits h [] of more all once = tt
passes known fits h (m ∷ ms) of more all once = (
  line_later known fits h of m ms more.0 all,
  passes known fits (h ++ m ∷ []) ms (all-append (IsOfNodes known) h (m ∷ []) of (more.0, tt)) more.1
      (all-append (Behind ms) h (m ∷ []) (all_less h m ms all) (once.0, tt)) once.1,
)

of_nodes : (known : List Station) (h : List Line) → AllByRecursion (IsOfSchedule known) h
    → AllByRecursion (IsOfNodes known) h
of_nodes known [] all = tt
of_nodes known (m ∷ h) all = (all.0.0, of_nodes known h all.1)

pub keeps_second : (tools : Tools) → Opens tools → (w : Schedule) → IsSchedule w → OneCentre w → AreNamed (stations w)
    → KeepsSecond tools w
unfolding failing
keeps_second tools opens w is one fits =
    none_fails is_later (stations w) [] (transcript tools w)
    (passes (stations w) fits [] (transcript tools w) tt
    (of_nodes (stations w) (transcript tools w) (are_of_nodes tools w is one)) tt (taken_once tools opens w is))
