-- The last seal since the last boot.
use Rattle.std.proofs.Common.{◌≡◌, ℕ, ◌+◌, ◌&&◌, Bool, true, false, cond, List, [], ◌∷◌, ◌++◌, map, fold, Option, Some, None, nat_eq, bytes_eq, refl, sym, ap, ◌∙◌}
use Rattle.std.specs.Option.{option_map, option_or}
use Rattle.std.specs.List.{AllByRecursion}
use Rattle.std.proofs.lemmas.List.Sums.{fold-append}
use Rattle.std.proofs.lemmas.Slice.Eq.{bytes_eq-Decides}
use Rattle.zb_model.specs.Data as model
use Rattle.zb_model.specs.Data.{Bytes, Station, Term}
use Rattle.zb_model.specs.Lines as log
use Rattle.zb_model.specs.Readings.{speaker}
use Rattle.zb_model.specs.State as state
use Rattle.law_run_readings.specs.LastLines as said
use Rattle.zb_model_real.specs.Terms.{layer_of, term_of}
use Rattle.zb_audit_counters.specs.Readings as read
use Rattle.law_audit_sound.proofs.EachLine.{TellsApart, bool_same, layers}
use Rattle.zb_trace_model.specs.Naming.{name_of}
use Rattle.zb_trace_model.specs.Said.{IsOfNodes, line_for}
use Rattle.zb_trace.specs.declared.line.Line.{Line}
use Rattle.zb_trace.specs.declared.line.Line.TheVariants as line

bytes_turned : (a b : Bytes) → bytes_eq a b ≡ bytes_eq b a
bytes_turned a b =
    bool_same (bytes_eq a b) (bytes_eq b a) (λ e. (bytes_eq-Decides b a).1 (sym ((bytes_eq-Decides a b).0 e)))
    (λ e. (bytes_eq-Decides a b).1 (sym ((bytes_eq-Decides b a).0 e)))

true_after : (b : Bool) → b ≡ (b && true)
true_after true = refl
true_after false = refl

-- whether a term is sealed under this key, in both readings
abbrev is_so : model.Layer → Bytes → Option Bytes → Term → Type 0
is_so layer key o t = read.is_sealed_at (layer_of layer) o (term_of t)
    ≡ (state.same_layer t.layer layer && said.is_under layer key t.base)

at_nwk : (key : Bytes) (t : Term) → is_so model.Nwk key (Some key) t
at_nwk key t = ap (λ b. b && bytes_eq key t.base) (layers t.layer model.Nwk) ∙ ap
    (λ b. state.same_layer t.layer model.Nwk && b) (bytes_turned key t.base)

at_aps : (key : Bytes) (o : Option Bytes) (t : Term) → is_so model.Aps key o t
at_aps key o t = layers t.layer model.Aps ∙ true_after (state.same_layer t.layer model.Aps)

abbrev pub following : Option ℕ → Option ℕ
following o = option_map (λ (c : ℕ). c + 1) o

-- what is found after a line of the node
abbrev Speaks : Type 0
Speaks = Line → Option ℕ

last_more : (f : Speaks) (run : List Line) (l : Line) → read.last f (run ++ l ∷ []) ≡ option_or (f l) (read.last f run)
unfolding read.last
last_more f run l = fold-append (λ (found : Option ℕ) (x : Line). option_or (f x) found) None run (l ∷ [])

last_none : (f : Speaks) → read.last f [] ≡ None
unfolding read.last
last_none f = refl

-- the run continues with a line that boots nothing
goes_on : (f : Speaks) (run : List Line) (l : Line) (found : Option ℕ) (o : Option ℕ) → following (read.last f run)
    ≡ found → f l ≡ o → following (read.last f (run ++ l ∷ [])) ≡ following (option_or o (read.last f run))
goes_on f run l found o is e = ap following (last_more f run l ∙ ap (λ x. option_or x (read.last f run)) e)

quiet : (f : Speaks) (run : List Line) (l : Line) (found : Option ℕ) (b : Bool) → following (read.last f run) ≡ found
    → f l ≡ None → following (read.last f (run ++ l ∷ [])) ≡ cond b found found
quiet f run l found true is e = goes_on f run l found None is e ∙ is
quiet f run l found false is e = goes_on f run l found None is e ∙ is

booted : (f : Speaks) (run : List Line) (l : Line) (found : Option ℕ) (b c : Bool) → following (read.last f run)
    ≡ found → f l ≡ None → c ≡ b → following (read.last f (cond c [] (run ++ l ∷ []))) ≡ cond b None found
booted f run l found true true is e same = ap following (last_none f)
booted f run l found true false is e same = absurd (Rattle.std.proofs.lemmas.Bool.false≢true same)
booted f run l found false true is e same = absurd (Rattle.std.proofs.lemmas.Bool.false≢true (sym same))
booted f run l found false false is e same = goes_on f run l found None is e ∙ is

sealed : (f : Speaks) (run : List Line) (l : Line) (found : Option ℕ) (b c : Bool) (counter : ℕ)
    → following (read.last f run) ≡ found → f l ≡ cond (b && c) (Some counter) None
    → following (read.last f (run ++ l ∷ [])) ≡ cond b (cond c (Some (counter + 1)) found) found
sealed f run l found true true counter is e = goes_on f run l found (Some counter) is e
sealed f run l found true false counter is e = goes_on f run l found None is e ∙ is
sealed f run l found false c counter is e = goes_on f run l found None is e ∙ is

abbrev pub run_on : Bytes → List Line → Line → List Line
run_on name run l = cond (read.boots name l) [] (run ++ l ∷ [])

abbrev pub found_on : ℕ → model.Layer → Bytes → Option ℕ → log.Line → Option ℕ
found_on n layer key found l = cond (nat_eq (speaker l) n) (said.sealed_in layer key found l) found

-- one more line
line_on : (known : List Station) (n : ℕ) → TellsApart known n → (layer : model.Layer) (key : Bytes) (o : Option Bytes)
    → ((t : Term) → is_so layer key o t) → (run : List Line) (found : Option ℕ)
    → following (read.last (read.sealed_in (name_of known n) (layer_of layer) o) run) ≡ found → (m : log.Line)
    → IsOfNodes known m
    → following
    (read.last (read.sealed_in (name_of known n) (layer_of layer) o)
    (run_on (name_of known n) run (line_for known m))) ≡ found_on n layer key found m
unfolding line_for speaker
line_on known n apart layer key o so run found step (log.Declared p) is =
    quiet (read.sealed_in (name_of known n) (layer_of layer) o) run (line_for known (log.Declared p)) found
    (nat_eq p.eui n) step refl
line_on known n apart layer key o so run found step (log.GivenNet j base sequence) is =
    quiet (read.sealed_in (name_of known n) (layer_of layer) o) run (line_for known (log.GivenNet j base sequence))
    found (nat_eq j n) step refl
line_on known n apart layer key o so run found step (log.GivenLink j partner base) is =
    quiet (read.sealed_in (name_of known n) (layer_of layer) o) run (line_for known (log.GivenLink j partner base))
    found (nat_eq j n) step refl
line_on known n apart layer key o so run found step (log.Counter j l limit) is =
    quiet (read.sealed_in (name_of known n) (layer_of layer) o) run (line_for known (log.Counter j l limit)) found
    (nat_eq j n) step refl
line_on known n apart layer key o so run found step (log.Commit event j) is =
    quiet (read.sealed_in (name_of known n) (layer_of layer) o) run (line_for known (log.Commit event j)) found
    (nat_eq j n) step refl
line_on known n apart layer key o so run found step (log.Accept event j t) is =
    quiet (read.sealed_in (name_of known n) (layer_of layer) o) run (line_for known (log.Accept event j t)) found
    (nat_eq j n) step refl
line_on known n apart layer key o so run found step (log.Refuse event j at why) is =
    quiet (read.sealed_in (name_of known n) (layer_of layer) o) run (line_for known (log.Refuse event j at why)) found
    (nat_eq j n) step refl
line_on known n apart layer key o so run found step (log.Seal event j t) is =
    sealed (read.sealed_in (name_of known n) (layer_of layer) o) run (line_for known (log.Seal event j t)) found
    (nat_eq j n) (state.same_layer t.layer layer && said.is_under layer key t.base) t.counter step
    (ap (λ b. cond (b && read.is_sealed_at (layer_of layer) o (term_of t)) (Some t.counter) None) (apart j is) ∙ ap
    (λ c. cond (nat_eq j n && c) (Some t.counter) None) (so t))
line_on known n apart layer key o so run found step (log.Forge event t) is =
    quiet (read.sealed_in (name_of known n) (layer_of layer) o) run (line_for known (log.Forge event t)) found
    (nat_eq Rattle.zb_model.specs.Data.nobody n) step refl
line_on known n apart layer key o so run found step (log.Send event from frame bytes) is =
    quiet (read.sealed_in (name_of known n) (layer_of layer) o) run (line_for known (log.Send event from frame bytes))
    found (nat_eq Rattle.zb_model.specs.Data.nobody n) step refl
line_on known n apart layer key o so run found step (log.Inject event frame bytes) is =
    quiet (read.sealed_in (name_of known n) (layer_of layer) o) run (line_for known (log.Inject event frame bytes))
    found (nat_eq Rattle.zb_model.specs.Data.nobody n) step refl
line_on known n apart layer key o so run found step (log.Stopped event j) is =
    quiet (read.sealed_in (name_of known n) (layer_of layer) o) run (line_for known (log.Stopped event j)) found
    (nat_eq j n) step refl
line_on known n apart layer key o so run found step (log.DownReset event j) is =
    quiet (read.sealed_in (name_of known n) (layer_of layer) o) run (line_for known (log.DownReset event j)) found
    (nat_eq j n) step refl
line_on known n apart layer key o so run found step (log.DownDisk event j) is =
    quiet (read.sealed_in (name_of known n) (layer_of layer) o) run (line_for known (log.DownDisk event j)) found
    (nat_eq j n) step refl
line_on known n apart layer key o so run found step (log.Boot event j) is =
    booted (read.sealed_in (name_of known n) (layer_of layer) o) run (line_for known (log.Boot event j)) found
    (nat_eq j n) (bytes_eq (name_of known j) (name_of known n)) step refl (apart j is)
line_on known n apart layer key o so run found step (log.Dump event j bytes) is =
    quiet (read.sealed_in (name_of known n) (layer_of layer) o) run (line_for known (log.Dump event j bytes)) found
    (nat_eq j n) step refl
line_on known n apart layer key o so run found step (log.End events seals accepts refusals ideal private) is =
    quiet (read.sealed_in (name_of known n) (layer_of layer) o) run
    (line_for known (log.End events seals accepts refusals ideal private)) found
    (nat_eq Rattle.zb_model.specs.Data.nobody n) step refl
line_on known n apart layer key o so run found step (log.Changed event j (model.Reserve l limit)) is =
    quiet (read.sealed_in (name_of known n) (layer_of layer) o) run
    (line_for known (log.Changed event j (model.Reserve l limit))) found (nat_eq j n) step refl
line_on known n apart layer key o so run found step (log.Changed event j (model.Floor l k from value)) is =
    quiet (read.sealed_in (name_of known n) (layer_of layer) o) run
    (line_for known (log.Changed event j (model.Floor l k from value))) found (nat_eq j n) step refl
line_on known n apart layer key o so run found step (log.Changed event j (model.Start k value)) is =
    quiet (read.sealed_in (name_of known n) (layer_of layer) o) run
    (line_for known (log.Changed event j (model.Start k value))) found (nat_eq j n) step refl
line_on known n apart layer key o so run found step (log.Changed event j (model.Moved (model.Draw base))) is =
    quiet (read.sealed_in (name_of known n) (layer_of layer) o) run
    (line_for known (log.Changed event j (model.Moved (model.Draw base)))) found (nat_eq j n) step refl
line_on known n apart layer key o so run found step (log.Changed event j (model.Moved (model.DropNet base))) is =
    quiet (read.sealed_in (name_of known n) (layer_of layer) o) run
    (line_for known (log.Changed event j (model.Moved (model.DropNet base)))) found (nat_eq j n) step refl
line_on known n apart layer key o so run found step (log.Changed event j (model.Moved (model.DropLink partner base)))
    is = quiet (read.sealed_in (name_of known n) (layer_of layer) o) run
    (line_for known (log.Changed event j (model.Moved (model.DropLink partner base)))) found (nat_eq j n) step refl
line_on known n apart layer key o so run found step (log.Changed event j (model.Moved (model.Install base sequence)))
    is = quiet (read.sealed_in (name_of known n) (layer_of layer) o) run
    (line_for known (log.Changed event j (model.Moved (model.Install base sequence)))) found (nat_eq j n) step refl
line_on known n apart layer key o so run found step (log.Changed event j (model.Moved (model.Active base))) is =
    quiet (read.sealed_in (name_of known n) (layer_of layer) o) run
    (line_for known (log.Changed event j (model.Moved (model.Active base)))) found (nat_eq j n) step refl
line_on known n apart layer key o so run found step
    (log.Changed event j (model.Moved (model.Row partner base attribute))) is =
    quiet (read.sealed_in (name_of known n) (layer_of layer) o) run
    (line_for known (log.Changed event j (model.Moved (model.Row partner base attribute)))) found (nat_eq j n) step
    refl
line_on known n apart layer key o so run found step (log.Changed event j (model.Moved (model.Pair first second base)))
    is = quiet (read.sealed_in (name_of known n) (layer_of layer) o) run
    (line_for known (log.Changed event j (model.Moved (model.Pair first second base)))) found (nat_eq j n) step refl
line_on known n apart layer key o so run found step (log.Changed event j (model.Moved (model.Became state))) is =
    quiet (read.sealed_in (name_of known n) (layer_of layer) o) run
    (line_for known (log.Changed event j (model.Moved (model.Became state)))) found (nat_eq j n) step refl
line_on known n apart layer key o so run found step (log.Changed event j (model.Moved (model.Live device))) is =
    quiet (read.sealed_in (name_of known n) (layer_of layer) o) run
    (line_for known (log.Changed event j (model.Moved (model.Live device)))) found (nat_eq j n) step refl
line_on known n apart layer key o so run found step (log.Changed event j (model.Moved (model.Removed device))) is =
    quiet (read.sealed_in (name_of known n) (layer_of layer) o) run
    (line_for known (log.Changed event j (model.Moved (model.Removed device)))) found (nat_eq j n) step refl
line_on known n apart layer key o so run found step (log.Changed event j (model.Moved (model.Roll sending))) is =
    quiet (read.sealed_in (name_of known n) (layer_of layer) o) run
    (line_for known (log.Changed event j (model.Moved (model.Roll sending)))) found (nat_eq j n) step refl
line_on known n apart layer key o so run found step (log.Changed event j (model.Moved (model.Told device))) is =
    quiet (read.sealed_in (name_of known n) (layer_of layer) o) run
    (line_for known (log.Changed event j (model.Moved (model.Told device)))) found (nat_eq j n) step refl
line_on known n apart layer key o so run found step (log.Changed event j (model.Moved (model.Untold device))) is =
    quiet (read.sealed_in (name_of known n) (layer_of layer) o) run
    (line_for known (log.Changed event j (model.Moved (model.Untold device)))) found (nat_eq j n) step refl

lines_on : (known : List Station) (n : ℕ) → TellsApart known n
    → (layer : model.Layer) (key : Bytes) (o : Option Bytes) → ((t : Term) → is_so layer key o t)
    → (run : List Line) (found : Option ℕ)
    → following (read.last (read.sealed_in (name_of known n) (layer_of layer) o) run) ≡ found → (h : List log.Line)
    → AllByRecursion (IsOfNodes known) h
    → following
    (read.last (read.sealed_in (name_of known n) (layer_of layer) o)
    (fold (run_on (name_of known n)) run (map (line_for known) h))) ≡ fold (found_on n layer key) found h
lines_on known n apart layer key o so run found step [] all = step
lines_on known n apart layer key o so run found step (m ∷ h) all =
    lines_on known n apart layer key o so (run_on (name_of known n) run (line_for known m))
    (found_on n layer key found m) (line_on known n apart layer key o so run found step m all.0) h all.1

-- what is sealed since the last boot
pub sealed_nwk : (known : List Station) (n : ℕ) → TellsApart known n → (key : Bytes) (h : List log.Line)
    → AllByRecursion (IsOfNodes known) h
    → following
    (read.last (read.sealed_in (name_of known n) (layer_of model.Nwk) (Some key))
    (read.since_boot (name_of known n) (map (line_for known) h))) ≡ said.sealed_since n model.Nwk key h
unfolding read.since_boot said.sealed_since
sealed_nwk known n apart key h all =
    lines_on known n apart model.Nwk key (Some key) (at_nwk key) [] None
    (ap following (last_none (read.sealed_in (name_of known n) (layer_of model.Nwk) (Some key)))) h all

pub sealed_aps : (known : List Station) (n : ℕ) → TellsApart known n
    → (key : Bytes) (o : Option Bytes) (h : List log.Line) → AllByRecursion (IsOfNodes known) h
    → following
    (read.last (read.sealed_in (name_of known n) (layer_of model.Aps) o)
    (read.since_boot (name_of known n) (map (line_for known) h))) ≡ said.sealed_since n model.Aps key h
unfolding read.since_boot said.sealed_since
sealed_aps known n apart key o h all =
    lines_on known n apart model.Aps key o (at_aps key o) [] None
    (ap following (last_none (read.sealed_in (name_of known n) (layer_of model.Aps) o))) h all

-- without a key nothing is sealed under it

never_so : (a b : Bool) (counter : ℕ) → cond (a && (b && false)) (Some counter) None ≡ None
never_so true true counter = refl
never_so true false counter = refl
never_so false b counter = refl

never : (name : Bytes) (l : Line) → read.sealed_in name (layer_of model.Nwk) None l ≡ None
never name (line.Node called r eui short out_block in_block) = refl
never name (line.GivenNet node key sequence) = refl
never name (line.GivenLink node partner key) = refl
never name (line.Counter node l limit) = refl
never name (line.Reserve event node l limit) = refl
never name (line.Floor event node l key sender value) = refl
never name (line.Draw event key) = refl
never name (line.DropNet event node key) = refl
never name (line.DropLink event node partner key) = refl
never name (line.Install event node key sequence) = refl
never name (line.Active event node key) = refl
never name (line.Start event node key value) = refl
never name (line.Row event node partner key a) = refl
never name (line.Pair event node first second key) = refl
never name (line.State event node s) = refl
never name (line.Live event device) = refl
never name (line.Removed event device) = refl
never name (line.Roll event node r) = refl
never name (line.Told event device) = refl
never name (line.Untold event device) = refl
never name (line.Commit event node) = refl
never name (line.Accept event node t) = refl
never name (line.Refuse event node r) = refl
never name (line.Seal event node t) =
    never_so (bytes_eq node.bytes name) (read.same_layer t.layer (layer_of model.Nwk)) t.counter
never name (line.Forge event t) = refl
never name (line.Send event node frame bytes) = refl
never name (line.Inject event frame bytes) = refl
never name (line.Stopped event node) = refl
never name (line.DownReset event node) = refl
never name (line.DownDisk event node) = refl
never name (line.Boot event node) = refl
never name (line.Dump event node bytes) = refl
never name (line.End events seals accepts refusals ideal private) = refl

pub no_key : (name : Bytes) (run : List Line) → read.last (read.sealed_in name (layer_of model.Nwk) None) run ≡ None
unfolding read.last
no_key name [] = refl
no_key name (l ∷ run) =
    ap (λ (o : Option ℕ). fold
    (λ (found : Option ℕ) (x : Line). option_or (read.sealed_in name (layer_of model.Nwk) None x) found)
    (option_or o None) run) (never name l) ∙ no_key name run
