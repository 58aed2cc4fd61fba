-- What is read from the printed lines of a run is what the states of its nodes say.
use Rattle.std.proofs.Common.{◌≡◌, ℕ, ◌+◌, true, List, [], ◌∷◌, ◌++◌, fold, Option, Some, None, unwrap_or, refl, sym, ap, ◌∙◌, subst}
use Rattle.std.specs.Option.{option_map, option_or}
use Rattle.std.specs.List.{AllByRecursion}
use Rattle.zb_audit_names.specs.Groups.{flat}
use Rattle.law_audit_groups.specs.Printing.{all_printed, printed}
use Rattle.zb_model.specs.Data as model
use Rattle.zb_model.specs.Data.{Bytes, Station}
use Rattle.zb_model.specs.Lines as log
use Rattle.zb_model.specs.Play.{Schedule, Disk, Event, groups, start, stations, step}
use Rattle.zb_model.specs.Schedules.{IsSchedule}
use Rattle.zb_model.specs.State as state
use Rattle.zb_model.specs.Tools.{Tools}
use Rattle.zb_model.specs.Transcript.{end_line, run_lines, transcript}
use Rattle.law_run.specs.Commanding.{OneCentre}
use Rattle.law_run.specs.Opening.{Opens}
use Rattle.law_run.proofs.Basics.{append-nil'}
use Rattle.law_run.proofs.FreshLines.{all-append}
use Rattle.law_run_text.specs.OfNodes.{IsOfSchedule}
use Rattle.law_run_text.proofs.Lines.{are_of_nodes}
use Rattle.law_run_readings.specs.Agreeing.{AgreeFrom, Agrees}
use Rattle.law_run_readings.specs.LastLines as said
use Rattle.law_run_readings.specs.LastLines.{said_by}
use Rattle.law_run_readings.proofs.Agreed.{run_agrees}
use Rattle.law_run_readings.proofs.Lines.{flat_snoc}
use Rattle.zb_model_real.specs.Terms.{layer_of}
use Rattle.law_tables_suffice.specs.Along.{euis_differ}
use Rattle.law_answer_storable.specs.Storing.{OpensAsJudged}
use Rattle.law_audit_sound.specs.Reading.{ReadFrom, Reads, RunReads}
use Rattle.law_audit_sound.proofs.EachLine.{TellsApart, active_line, counter_line, floor_line, given_line, limit_line, reserve_line, tells_apart}
use Rattle.law_audit_sound.proofs.Sealed.{following, no_key, sealed_aps, sealed_nwk}
use Rattle.zb_audit_counters.specs.Readings as read
use Rattle.zb_trace_model.specs.Naming.{AreNamed, name_of}
use Rattle.zb_trace_model.specs.Said.{IsOfNodes, line_for}
use Rattle.zb_trace.specs.declared.line.Line.{Line}

abbrev AllOf : List Station → List log.Line → Type 0
AllOf known h = AllByRecursion (IsOfNodes known) h

abbrev AllGroups : List Station → List (List log.Line) → Type 0
AllGroups known gs = AllByRecursion (AllOf known) gs

-- ---- lists

printed_more : (known : List Station) (g h : List log.Line) → printed known g ++ printed known h
    ≡ printed known (g ++ h)
printed_more known [] h = refl
printed_more known (m ∷ g) h = ap (λ ls. line_for known m ∷ ls) (printed_more known g h)

flat_printed : (known : List Station) (gs : List (List log.Line)) → flat (all_printed known gs)
    ≡ printed known (said.flat gs)
flat_printed known [] = refl
flat_printed known (g ∷ gs) = ap (λ ls. printed known g ++ ls) (flat_printed known gs) ∙ printed_more known g
    (said.flat gs)

flat_of : (known : List Station) (gs : List (List log.Line)) → AllGroups known gs → AllOf known (said.flat gs)
flat_of known [] all = tt
flat_of known (g ∷ gs) all = all-append (IsOfNodes known) g (said.flat gs) all.0 (flat_of known gs all.1)

-- ---- the last line about a thing

last_from : {A : Type 0} (known : List Station) (n : ℕ) (f : Line → Option A) (g : log.Line → Option A)
    → ((m : log.Line) → IsOfNodes known m → f (line_for known m) ≡ said_by n g m)
    → (o : Option A) (h : List log.Line) → AllOf known h
    → fold (λ (found : Option A) (l : Line). option_or (f l) found) o (printed known h)
    ≡ fold (λ (found : Option A) (l : log.Line). option_or (said_by n g l) found) o h
last_from known n f g each o [] all = refl
last_from {A} known n f g each o (m ∷ h) all =
    ap (λ (x : Option A). fold (λ (found : Option A) (l : Line). option_or (f l) found) (option_or x o)
    (printed known h)) (each m all.0)
    ∙ last_from known n f g each (option_or (said_by n g m) o) h all.1

last_same : {A : Type 0} (known : List Station) (n : ℕ) (f : Line → Option A) (g : log.Line → Option A)
    → ((m : log.Line) → IsOfNodes known m → f (line_for known m) ≡ said_by n g m)
    → (h : List log.Line) → AllOf known h → read.last f (printed known h) ≡ said.last_said n g h
unfolding read.last said.last_said
last_same known n f g each h all = last_from known n f g each None h all

active_same : (known : List Station) (n : ℕ) → TellsApart known n → (h : List log.Line) → AllOf known h
    → read.active (printed known h) (name_of known n) ≡ said.active h n
unfolding read.active said.active
active_same known n apart h all =
    ap (λ o. option_or o (read.last (read.given_in (name_of known n)) (printed known h)))
    (last_same known n (read.active_in (name_of known n)) said.active_in (active_line known n apart) h all)
    ∙ ap (option_or (said.last_said n said.active_in h))
    (last_same known n (read.given_in (name_of known n)) said.given_in (given_line known n apart) h all)

declared_same : (known : List Station) (n : ℕ) → TellsApart known n → (layer : model.Layer) (h : List log.Line)
    → AllOf known h → read.declared (printed known h) (name_of known n) (layer_of layer) ≡ said.declared h n layer
unfolding read.declared said.declared
declared_same known n apart layer h all =
    ap (λ o. unwrap_or o 0)
    (last_same known n (read.counter_in (name_of known n) (layer_of layer)) (said.counter_in layer)
    (counter_line known n apart layer) h all)

stored_same : (known : List Station) (n : ℕ) → TellsApart known n → (layer : model.Layer) (key : Bytes) (sender : ℕ)
    (h : List log.Line) → AllOf known h
    → read.stored (printed known h) (name_of known n) (layer_of layer) key sender ≡ said.stored h n layer key sender
unfolding read.stored said.stored
stored_same known n apart layer key sender h all =
    ap (λ o. unwrap_or o 0)
    (last_same known n (read.floor_in (name_of known n) (layer_of layer) key sender)
    (said.floor_in layer key sender) (floor_line known n apart layer key sender) h all)

-- ---- limits

is_key_same : (o : Option Bytes) (key : Bytes) → read.is_key o key ≡ state.is_active_key o key
is_key_same None key = refl
is_key_same (Some other) key = refl

limit_from_same : (known : List Station) (n : ℕ) → TellsApart known n
    → (key : Bytes) (h : List log.Line) (gs : List (List log.Line)) → AllOf known h → AllGroups known gs
    → read.limit_behind (printed known h) (name_of known n) key (all_printed known gs) ≡ said.limit_from n key h gs
unfolding read.limit_behind said.limit_from
limit_from_same known n apart key h [] all more = refl
limit_from_same known n apart key h (g ∷ gs) all more =
    let name = name_of known n in
    let was = state.is_active_key (said.active h n) key in
    let same_was = ap (λ o. read.is_key o key) (active_same known n apart h all) ∙ is_key_same (said.active h n) key in
    ap (λ o. option_or o
    (read.last (read.limit_in name key (read.is_key (read.active (printed known h) name) key)) (printed known g)))
    (ap (λ ls. read.limit_behind ls name key (all_printed known gs)) (printed_more known h g)
    ∙ limit_from_same known n apart key (h ++ g) gs (all-append (IsOfNodes known) h g all more.0) more.1)
    ∙ ap (option_or (said.limit_from n key (h ++ g) gs))
    (ap (λ b. read.last (read.limit_in name key b) (printed known g)) same_was
    ∙ last_same known n (read.limit_in name key was) (said.limit_in key was) (limit_line known n apart key was) g
    more.0)

under_same : (known : List Station) (n : ℕ) → TellsApart known n → (before : List (List log.Line))
    → AllGroups known before → (o : Option Bytes)
    → read.limit_under (all_printed known before) (name_of known n) o ≡ said.limit_of_key before n o
unfolding read.limit_under
under_same known n apart before all None =
    ap (λ ls. read.declared ls (name_of known n) (layer_of model.Nwk)) (flat_printed known before) ∙ declared_same
    known n apart model.Nwk (said.flat before) (flat_of known before all)
under_same known n apart before all (Some key) =
    ap (λ d. unwrap_or (read.limit_behind [] (name_of known n) key (all_printed known before)) d)
    (ap (λ ls. read.declared ls (name_of known n) (layer_of model.Nwk)) (flat_printed known before) ∙ declared_same
    known n apart model.Nwk (said.flat before) (flat_of known before all))
    ∙ ap (λ o. unwrap_or o (said.declared (said.flat before) n model.Nwk))
    (limit_from_same known n apart key [] before tt all)

active_now : (known : List Station) (n : ℕ) → TellsApart known n → (before : List (List log.Line))
    → AllGroups known before → read.active (flat (all_printed known before)) (name_of known n)
    ≡ said.active (said.flat before) n
active_now known n apart before all =
    ap (λ ls. read.active ls (name_of known n)) (flat_printed known before) ∙ active_same known n apart
    (said.flat before) (flat_of known before all)

limit_same : (known : List Station) (n : ℕ) → TellsApart known n → (before : List (List log.Line))
    → AllGroups known before → (layer : model.Layer)
    → read.limit (all_printed known before) (name_of known n) (layer_of layer) ≡ said.limit before n layer
unfolding read.limit said.limit
limit_same known n apart before all model.Nwk =
    ap (read.limit_under (all_printed known before) (name_of known n)) (active_now known n apart before all) ∙
    under_same known n apart before all (said.active (said.flat before) n)
limit_same known n apart before all model.Aps =
    let name = name_of known n in
    let same = flat_printed known before in
    ap (λ ls. unwrap_or (read.last (read.reserve_in name (layer_of model.Aps)) ls)
    (read.declared ls name (layer_of model.Aps))) same
    ∙ ap (λ o. unwrap_or o (read.declared (printed known (said.flat before)) name (layer_of model.Aps)))
    (last_same known n (read.reserve_in name (layer_of model.Aps)) (said.reserve_in model.Aps)
    (reserve_line known n apart model.Aps) (said.flat before) (flat_of known before all))
    ∙ ap (unwrap_or (said.last_said n (said.reserve_in model.Aps) (said.flat before)))
    (declared_same known n apart model.Aps (said.flat before) (flat_of known before all))

-- ---- next counters

behind_is : (limit : ℕ) (o : Option ℕ) → read.behind limit o ≡ unwrap_or (following o) limit
behind_is limit None = refl
behind_is limit (Some c) = refl

under_key : (known : List Station) (n : ℕ) → TellsApart known n → (before : List (List log.Line))
    → AllGroups known before → (limit : ℕ) (o : Option Bytes)
    → read.behind limit
    (read.last (read.sealed_in (name_of known n) (layer_of model.Nwk) o)
    (read.since_boot (name_of known n) (printed known (said.flat before))))
    ≡ unwrap_or (said.sealed_of_key before n o) limit
under_key known n apart before all limit None =
    ap (read.behind limit)
    (no_key (name_of known n) (read.since_boot (name_of known n) (printed known (said.flat before))))
under_key known n apart before all limit (Some key) =
    behind_is limit
    (read.last (read.sealed_in (name_of known n) (layer_of model.Nwk) (Some key))
    (read.since_boot (name_of known n) (printed known (said.flat before))))
    ∙ ap (λ o. unwrap_or o limit) (sealed_nwk known n apart key (said.flat before) (flat_of known before all))

next_same : (known : List Station) (n : ℕ) → TellsApart known n → (before : List (List log.Line))
    → AllGroups known before → (layer : model.Layer)
    → read.next (all_printed known before) (name_of known n) (layer_of layer) ≡ said.next before n layer
unfolding read.next said.next
next_same known n apart before all model.Nwk =
    let name = name_of known n in
    let limit = read.limit (all_printed known before) name (layer_of model.Nwk) in
    ap (λ ls. read.behind limit
    (read.last (read.sealed_in name (layer_of model.Nwk) (read.active (flat (all_printed known before)) name))
    (read.since_boot name ls))) (flat_printed known before)
    ∙ ap (λ o. read.behind limit
    (read.last (read.sealed_in name (layer_of model.Nwk) o)
    (read.since_boot name (printed known (said.flat before))))) (active_now known n apart before all)
    ∙ under_key known n apart before all limit (said.active (said.flat before) n)
    ∙ ap (unwrap_or (said.sealed_of_key before n (said.active (said.flat before) n)))
    (limit_same known n apart before all model.Nwk)
next_same known n apart before all model.Aps =
    let name = name_of known n in
    let limit = read.limit (all_printed known before) name (layer_of model.Aps) in
    let on = read.active (flat (all_printed known before)) name in
    ap (λ ls. read.behind limit (read.last (read.sealed_in name (layer_of model.Aps) on) (read.since_boot name ls)))
    (flat_printed known before)
    ∙ behind_is limit
    (read.last (read.sealed_in name (layer_of model.Aps) on)
    (read.since_boot name (printed known (said.flat before))))
    ∙ ap (λ o. unwrap_or o limit) (sealed_aps known n apart [] on (said.flat before) (flat_of known before all))
    ∙ ap (unwrap_or (said.sealed_since n model.Aps [] (said.flat before)))
    (limit_same known n apart before all model.Aps)

-- ---- what is read is what the state says

reads : (known : List Station) → AreNamed known → (before : List (List log.Line)) → AllGroups known before → (n : ℕ)
    → Rattle.zb_trace_model.specs.Naming.IsDeclared known n → Agrees before n → Reads known before n
reads known fits before all n its agrees =
    let apart = tells_apart known fits n its in
    record {
      active_is = active_now known n apart before all ∙ agrees.active_is;
      limits = λ layer. limit_same known n apart before all layer ∙ agrees.limits layer;
      nexts = λ up layer. next_same known n apart before all layer ∙ agrees.nexts up layer;
      floors = λ layer key sender.
          ap (λ ls. read.stored ls (name_of known n) (layer_of layer) key sender) (flat_printed known before)
          ∙ stored_same known n apart layer key sender (said.flat before) (flat_of known before all) ∙ agrees.floors
          layer key sender;
    }

-- ---- along the run

all_left : {X : Type 0} (P : X → Type 0) (xs ys : List X) → AllByRecursion P (xs ++ ys) → AllByRecursion P xs
all_left P [] ys all = tt
all_left P (x ∷ xs) ys all = (all.0, all_left P xs ys all.1)

all_right : {X : Type 0} (P : X → Type 0) (xs ys : List X) → AllByRecursion P (xs ++ ys) → AllByRecursion P ys
all_right P [] ys all = all
all_right P (x ∷ xs) ys all = all_right P xs ys all.1

of_nodes : (known : List Station) (h : List log.Line) → AllByRecursion (IsOfSchedule known) h → AllOf known h
of_nodes known [] all = tt
of_nodes known (m ∷ h) all = (all.0.0, of_nodes known h all.1)

read_from : (tools : Tools) (w : Schedule) → AreNamed (stations w)
    → (before : List (List log.Line)) (disks : List Disk) (number : ℕ) (events : List Event)
    → AgreeFrom tools w before disks number events
    → AllGroups (stations w) before
    → AllByRecursion (IsOfSchedule (stations w)) (groups tools w (said.flat before) disks number events)
    → ReadFrom tools w before disks number events
unfolding groups
read_from tools w fits before disks number [] agree all rest = λ n its. reads (stations w) fits before all n its
    (agree n its)
read_from tools w fits before disks number (event ∷ events) agree all rest =
    let known = stations w in
    let g = step tools w (said.flat before) disks number event in
    let more = groups tools w (said.flat before ++ g.lines) g.disks (number + 1) events in
    let same : said.flat before ++ g.lines ≡ said.flat (before ++ g.lines ∷ []) = sym (flat_snoc before g.lines) in (
      λ n its. reads known fits before all n its (agree.0 n its),
      read_from tools w fits (before ++ g.lines ∷ []) g.disks (number + 1) events agree.1
          (all-append (AllOf known) before (g.lines ∷ []) all
          (of_nodes known g.lines (all_left (IsOfSchedule known) g.lines more rest), tt))
          (subst (λ h. AllByRecursion (IsOfSchedule known) (groups tools w h g.disks (number + 1) events)) same
          (all_right (IsOfSchedule known) g.lines more rest)),
    )

pub run_reads : (tools : Tools) → Opens tools → OpensAsJudged tools → (w : Schedule) → IsSchedule w → euis_differ w
    ≡ true → OneCentre w → AreNamed (stations w) → RunReads tools w
unfolding transcript run_lines
run_reads tools opens judged w is differ one fits =
    let known = stations w in
    let all = all_left (IsOfSchedule known) (run_lines tools w)
    (end_line tools (Rattle.std.specs.Prelude.length w.events) (run_lines tools w) ∷ [])
    (are_of_nodes tools w is one) in
    let same : start w ≡ said.flat (start w ∷ []) = sym (append-nil' (start w)) in
    read_from tools w fits (start w ∷ []) [] 1 w.events (run_agrees tools opens judged w is differ) (
      of_nodes known (start w) (all_left (IsOfSchedule known) (start w) (groups tools w (start w) [] 1 w.events) all),
      tt,
    )
    (subst (λ h. AllByRecursion (IsOfSchedule known) (groups tools w h [] 1 w.events)) same
    (all_right (IsOfSchedule known) (start w) (groups tools w (start w) [] 1 w.events) all))
