-- What each line says, as it is printed and as the model has it.
use Rattle.std.proofs.Common.{◌≡◌, ℕ, ◌&&◌, Bool, true, false, cond, List, Option, Some, None, nat_eq, bytes_eq, refl, sym, ap, ◌∙◌, eq-eqb, eqb-true}
use Rattle.std.proofs.lemmas.Slice.Eq.{bytes_eq-Decides}
use Rattle.zb_model.specs.Data as model
use Rattle.zb_model.specs.Data.{Bytes, Station}
use Rattle.zb_model.specs.Lines as log
use Rattle.zb_model.specs.Readings.{speaker}
use Rattle.zb_model.specs.State as state
use Rattle.law_run_readings.specs.LastLines as said
use Rattle.law_run_readings.specs.LastLines.{said_by}
use Rattle.zb_model_real.specs.Terms.{layer_of}
use Rattle.zb_audit_counters.specs.Readings as read
use Rattle.zb_trace_model.specs.Naming.{AreNamed, IsDeclared, name_of}
use Rattle.zb_trace_model.specs.Said.{IsOfNodes, line_for}
use Rattle.zb_trace_model.proofs.Naming.{named_again}
use Rattle.zb_trace.specs.Views.{named}

-- ---- tests

pub bool_same : (a b : Bool) → (a ≡ true → b ≡ true) → (b ≡ true → a ≡ true) → a ≡ b
bool_same true true f g = refl
bool_same true false f g = sym (f refl)
bool_same false true f g = g refl
bool_same false false f g = refl

same_if : {A : Type 0} (b : Bool) (o : Option A) → o ≡ cond b o o
same_if true o = refl
same_if false o = refl

pub layers : (x y : model.Layer) → read.same_layer (layer_of x) (layer_of y) ≡ state.same_layer x y
layers model.Nwk model.Nwk = refl
layers model.Nwk model.Aps = refl
layers model.Aps model.Nwk = refl
layers model.Aps model.Aps = refl

both : (b c d : Bool) (x : ℕ) → c ≡ d → cond (b && c) (Some x) None ≡ cond b (cond d (Some x) None) None
both true c d x e = ap (λ t. cond t (Some x) None) e
both false c d x e = refl

all_three : (was b c d : Bool) (x : ℕ) → c ≡ d → cond (was && (b && c)) (Some x) None
    ≡ cond b (cond was (cond d (Some x) None) None) None
all_three true true c d x e = ap (λ t. cond t (Some x) None) e
all_three true false c d x e = refl
all_three false true c d x e = refl
all_three false false c d x e = refl

-- names distinguish the nodes as their addresses do
abbrev pub TellsApart : List Station → ℕ → Type 0
TellsApart known n = (j : ℕ) → IsDeclared known j → bytes_eq (name_of known j) (name_of known n) ≡ nat_eq j n

pub tells_apart : (known : List Station) → AreNamed known → (n : ℕ) → IsDeclared known n → TellsApart known n
tells_apart known fits n its j there =
    bool_same (bytes_eq (name_of known j) (name_of known n)) (nat_eq j n)
    (λ e. eq-eqb j n
    (sym (named_again known j fits.differ there) ∙ ap (named known)
    ((bytes_eq-Decides (name_of known j) (name_of known n)).0 e) ∙ named_again known n fits.differ its))
    (λ e. (bytes_eq-Decides (name_of known j) (name_of known n)).1 (ap (name_of known) (eqb-true j n e)))

-- ---- what a line says

pub active_line : (known : List Station) (n : ℕ) → TellsApart known n → (m : log.Line) → IsOfNodes known m
    → read.active_in (name_of known n) (line_for known m) ≡ said_by n said.active_in m
unfolding line_for speaker
active_line known n apart (log.Declared p) is = same_if (nat_eq p.eui n) None
active_line known n apart (log.GivenNet j key sequence) is = same_if (nat_eq j n) None
active_line known n apart (log.GivenLink j partner key) is = same_if (nat_eq j n) None
active_line known n apart (log.Counter j l limit) is = same_if (nat_eq j n) None
active_line known n apart (log.Commit event j) is = same_if (nat_eq j n) None
active_line known n apart (log.Accept event j t) is = same_if (nat_eq j n) None
active_line known n apart (log.Refuse event j at why) is = same_if (nat_eq j n) None
active_line known n apart (log.Seal event j t) is = same_if (nat_eq j n) None
active_line known n apart (log.Forge event t) is = same_if (nat_eq Rattle.zb_model.specs.Data.nobody n) None
active_line known n apart (log.Send event from frame bytes) is = same_if (nat_eq Rattle.zb_model.specs.Data.nobody n)
    None
active_line known n apart (log.Inject event frame bytes) is = same_if (nat_eq Rattle.zb_model.specs.Data.nobody n) None
active_line known n apart (log.Stopped event j) is = same_if (nat_eq j n) None
active_line known n apart (log.DownReset event j) is = same_if (nat_eq j n) None
active_line known n apart (log.DownDisk event j) is = same_if (nat_eq j n) None
active_line known n apart (log.Boot event j) is = same_if (nat_eq j n) None
active_line known n apart (log.Dump event j bytes) is = same_if (nat_eq j n) None
active_line known n apart (log.End events seals accepts refusals ideal private) is =
    same_if (nat_eq Rattle.zb_model.specs.Data.nobody n) None
active_line known n apart (log.Changed event j (model.Reserve l limit)) is = same_if (nat_eq j n) None
active_line known n apart (log.Changed event j (model.Floor l k from value)) is = same_if (nat_eq j n) None
active_line known n apart (log.Changed event j (model.Start k value)) is = same_if (nat_eq j n) None
active_line known n apart (log.Changed event j (model.Moved (model.Draw key))) is = same_if (nat_eq j n) None
active_line known n apart (log.Changed event j (model.Moved (model.DropNet key))) is = same_if (nat_eq j n) None
active_line known n apart (log.Changed event j (model.Moved (model.DropLink partner key))) is =
    same_if (nat_eq j n) None
active_line known n apart (log.Changed event j (model.Moved (model.Install key sequence))) is =
    same_if (nat_eq j n) None
active_line known n apart (log.Changed event j (model.Moved (model.Active key))) is =
    ap (λ b. cond b (Some key) None) (apart j is.0)
active_line known n apart (log.Changed event j (model.Moved (model.Row partner key attribute))) is =
    same_if (nat_eq j n) None
active_line known n apart (log.Changed event j (model.Moved (model.Pair first second key))) is =
    same_if (nat_eq j n) None
active_line known n apart (log.Changed event j (model.Moved (model.Became state))) is = same_if (nat_eq j n) None
active_line known n apart (log.Changed event j (model.Moved (model.Live device))) is = same_if (nat_eq j n) None
active_line known n apart (log.Changed event j (model.Moved (model.Removed device))) is = same_if (nat_eq j n) None
active_line known n apart (log.Changed event j (model.Moved (model.Roll sending))) is = same_if (nat_eq j n) None
active_line known n apart (log.Changed event j (model.Moved (model.Told device))) is = same_if (nat_eq j n) None
active_line known n apart (log.Changed event j (model.Moved (model.Untold device))) is = same_if (nat_eq j n) None

pub given_line : (known : List Station) (n : ℕ) → TellsApart known n → (m : log.Line) → IsOfNodes known m
    → read.given_in (name_of known n) (line_for known m) ≡ said_by n said.given_in m
unfolding line_for speaker
given_line known n apart (log.Declared p) is = same_if (nat_eq p.eui n) None
given_line known n apart (log.GivenNet j key sequence) is = ap (λ b. cond b (Some key) None) (apart j is)
given_line known n apart (log.GivenLink j partner key) is = same_if (nat_eq j n) None
given_line known n apart (log.Counter j l limit) is = same_if (nat_eq j n) None
given_line known n apart (log.Commit event j) is = same_if (nat_eq j n) None
given_line known n apart (log.Accept event j t) is = same_if (nat_eq j n) None
given_line known n apart (log.Refuse event j at why) is = same_if (nat_eq j n) None
given_line known n apart (log.Seal event j t) is = same_if (nat_eq j n) None
given_line known n apart (log.Forge event t) is = same_if (nat_eq Rattle.zb_model.specs.Data.nobody n) None
given_line known n apart (log.Send event from frame bytes) is = same_if (nat_eq Rattle.zb_model.specs.Data.nobody n)
    None
given_line known n apart (log.Inject event frame bytes) is = same_if (nat_eq Rattle.zb_model.specs.Data.nobody n) None
given_line known n apart (log.Stopped event j) is = same_if (nat_eq j n) None
given_line known n apart (log.DownReset event j) is = same_if (nat_eq j n) None
given_line known n apart (log.DownDisk event j) is = same_if (nat_eq j n) None
given_line known n apart (log.Boot event j) is = same_if (nat_eq j n) None
given_line known n apart (log.Dump event j bytes) is = same_if (nat_eq j n) None
given_line known n apart (log.End events seals accepts refusals ideal private) is =
    same_if (nat_eq Rattle.zb_model.specs.Data.nobody n) None
given_line known n apart (log.Changed event j (model.Reserve l limit)) is = same_if (nat_eq j n) None
given_line known n apart (log.Changed event j (model.Floor l k from value)) is = same_if (nat_eq j n) None
given_line known n apart (log.Changed event j (model.Start k value)) is = same_if (nat_eq j n) None
given_line known n apart (log.Changed event j (model.Moved (model.Draw key))) is = same_if (nat_eq j n) None
given_line known n apart (log.Changed event j (model.Moved (model.DropNet key))) is = same_if (nat_eq j n) None
given_line known n apart (log.Changed event j (model.Moved (model.DropLink partner key))) is =
    same_if (nat_eq j n) None
given_line known n apart (log.Changed event j (model.Moved (model.Install key sequence))) is =
    same_if (nat_eq j n) None
given_line known n apart (log.Changed event j (model.Moved (model.Active key))) is = same_if (nat_eq j n) None
given_line known n apart (log.Changed event j (model.Moved (model.Row partner key attribute))) is =
    same_if (nat_eq j n) None
given_line known n apart (log.Changed event j (model.Moved (model.Pair first second key))) is =
    same_if (nat_eq j n) None
given_line known n apart (log.Changed event j (model.Moved (model.Became state))) is = same_if (nat_eq j n) None
given_line known n apart (log.Changed event j (model.Moved (model.Live device))) is = same_if (nat_eq j n) None
given_line known n apart (log.Changed event j (model.Moved (model.Removed device))) is = same_if (nat_eq j n) None
given_line known n apart (log.Changed event j (model.Moved (model.Roll sending))) is = same_if (nat_eq j n) None
given_line known n apart (log.Changed event j (model.Moved (model.Told device))) is = same_if (nat_eq j n) None
given_line known n apart (log.Changed event j (model.Moved (model.Untold device))) is = same_if (nat_eq j n) None

pub counter_line : (known : List Station) (n : ℕ) → TellsApart known n → (layer : model.Layer) (m : log.Line)
    → IsOfNodes known m → read.counter_in (name_of known n) (layer_of layer) (line_for known m)
    ≡ said_by n (said.counter_in layer) m
unfolding line_for speaker
counter_line known n apart layer (log.Declared p) is = same_if (nat_eq p.eui n) None
counter_line known n apart layer (log.GivenNet j key sequence) is = same_if (nat_eq j n) None
counter_line known n apart layer (log.GivenLink j partner key) is = same_if (nat_eq j n) None
counter_line known n apart layer (log.Counter j l limit) is =
    ap (λ b. cond (b && read.same_layer (layer_of l) (layer_of layer)) (Some limit) None) (apart j is) ∙ both
    (nat_eq j n) (read.same_layer (layer_of l) (layer_of layer)) (state.same_layer l layer) limit (layers l layer)
counter_line known n apart layer (log.Commit event j) is = same_if (nat_eq j n) None
counter_line known n apart layer (log.Accept event j t) is = same_if (nat_eq j n) None
counter_line known n apart layer (log.Refuse event j at why) is = same_if (nat_eq j n) None
counter_line known n apart layer (log.Seal event j t) is = same_if (nat_eq j n) None
counter_line known n apart layer (log.Forge event t) is = same_if (nat_eq Rattle.zb_model.specs.Data.nobody n) None
counter_line known n apart layer (log.Send event from frame bytes) is =
    same_if (nat_eq Rattle.zb_model.specs.Data.nobody n) None
counter_line known n apart layer (log.Inject event frame bytes) is =
    same_if (nat_eq Rattle.zb_model.specs.Data.nobody n) None
counter_line known n apart layer (log.Stopped event j) is = same_if (nat_eq j n) None
counter_line known n apart layer (log.DownReset event j) is = same_if (nat_eq j n) None
counter_line known n apart layer (log.DownDisk event j) is = same_if (nat_eq j n) None
counter_line known n apart layer (log.Boot event j) is = same_if (nat_eq j n) None
counter_line known n apart layer (log.Dump event j bytes) is = same_if (nat_eq j n) None
counter_line known n apart layer (log.End events seals accepts refusals ideal private) is =
    same_if (nat_eq Rattle.zb_model.specs.Data.nobody n) None
counter_line known n apart layer (log.Changed event j (model.Reserve l limit)) is = same_if (nat_eq j n) None
counter_line known n apart layer (log.Changed event j (model.Floor l k from value)) is = same_if (nat_eq j n) None
counter_line known n apart layer (log.Changed event j (model.Start k value)) is = same_if (nat_eq j n) None
counter_line known n apart layer (log.Changed event j (model.Moved (model.Draw key))) is = same_if (nat_eq j n) None
counter_line known n apart layer (log.Changed event j (model.Moved (model.DropNet key))) is = same_if (nat_eq j n) None
counter_line known n apart layer (log.Changed event j (model.Moved (model.DropLink partner key))) is =
    same_if (nat_eq j n) None
counter_line known n apart layer (log.Changed event j (model.Moved (model.Install key sequence))) is =
    same_if (nat_eq j n) None
counter_line known n apart layer (log.Changed event j (model.Moved (model.Active key))) is = same_if (nat_eq j n) None
counter_line known n apart layer (log.Changed event j (model.Moved (model.Row partner key attribute))) is =
    same_if (nat_eq j n) None
counter_line known n apart layer (log.Changed event j (model.Moved (model.Pair first second key))) is =
    same_if (nat_eq j n) None
counter_line known n apart layer (log.Changed event j (model.Moved (model.Became state))) is =
    same_if (nat_eq j n) None
counter_line known n apart layer (log.Changed event j (model.Moved (model.Live device))) is = same_if (nat_eq j n) None
counter_line known n apart layer (log.Changed event j (model.Moved (model.Removed device))) is =
    same_if (nat_eq j n) None
counter_line known n apart layer (log.Changed event j (model.Moved (model.Roll sending))) is =
    same_if (nat_eq j n) None
counter_line known n apart layer (log.Changed event j (model.Moved (model.Told device))) is = same_if (nat_eq j n) None
counter_line known n apart layer (log.Changed event j (model.Moved (model.Untold device))) is =
    same_if (nat_eq j n) None

pub reserve_line : (known : List Station) (n : ℕ) → TellsApart known n → (layer : model.Layer) (m : log.Line)
    → IsOfNodes known m → read.reserve_in (name_of known n) (layer_of layer) (line_for known m)
    ≡ said_by n (said.reserve_in layer) m
unfolding line_for speaker
reserve_line known n apart layer (log.Declared p) is = same_if (nat_eq p.eui n) None
reserve_line known n apart layer (log.GivenNet j key sequence) is = same_if (nat_eq j n) None
reserve_line known n apart layer (log.GivenLink j partner key) is = same_if (nat_eq j n) None
reserve_line known n apart layer (log.Counter j l limit) is = same_if (nat_eq j n) None
reserve_line known n apart layer (log.Commit event j) is = same_if (nat_eq j n) None
reserve_line known n apart layer (log.Accept event j t) is = same_if (nat_eq j n) None
reserve_line known n apart layer (log.Refuse event j at why) is = same_if (nat_eq j n) None
reserve_line known n apart layer (log.Seal event j t) is = same_if (nat_eq j n) None
reserve_line known n apart layer (log.Forge event t) is = same_if (nat_eq Rattle.zb_model.specs.Data.nobody n) None
reserve_line known n apart layer (log.Send event from frame bytes) is =
    same_if (nat_eq Rattle.zb_model.specs.Data.nobody n) None
reserve_line known n apart layer (log.Inject event frame bytes) is =
    same_if (nat_eq Rattle.zb_model.specs.Data.nobody n) None
reserve_line known n apart layer (log.Stopped event j) is = same_if (nat_eq j n) None
reserve_line known n apart layer (log.DownReset event j) is = same_if (nat_eq j n) None
reserve_line known n apart layer (log.DownDisk event j) is = same_if (nat_eq j n) None
reserve_line known n apart layer (log.Boot event j) is = same_if (nat_eq j n) None
reserve_line known n apart layer (log.Dump event j bytes) is = same_if (nat_eq j n) None
reserve_line known n apart layer (log.End events seals accepts refusals ideal private) is =
    same_if (nat_eq Rattle.zb_model.specs.Data.nobody n) None
reserve_line known n apart layer (log.Changed event j (model.Reserve l limit)) is =
    ap (λ b. cond (b && read.same_layer (layer_of l) (layer_of layer)) (Some limit) None) (apart j is.0) ∙ both
    (nat_eq j n) (read.same_layer (layer_of l) (layer_of layer)) (state.same_layer l layer) limit (layers l layer)
reserve_line known n apart layer (log.Changed event j (model.Floor l k from value)) is = same_if (nat_eq j n) None
reserve_line known n apart layer (log.Changed event j (model.Start k value)) is = same_if (nat_eq j n) None
reserve_line known n apart layer (log.Changed event j (model.Moved (model.Draw key))) is = same_if (nat_eq j n) None
reserve_line known n apart layer (log.Changed event j (model.Moved (model.DropNet key))) is = same_if (nat_eq j n) None
reserve_line known n apart layer (log.Changed event j (model.Moved (model.DropLink partner key))) is =
    same_if (nat_eq j n) None
reserve_line known n apart layer (log.Changed event j (model.Moved (model.Install key sequence))) is =
    same_if (nat_eq j n) None
reserve_line known n apart layer (log.Changed event j (model.Moved (model.Active key))) is = same_if (nat_eq j n) None
reserve_line known n apart layer (log.Changed event j (model.Moved (model.Row partner key attribute))) is =
    same_if (nat_eq j n) None
reserve_line known n apart layer (log.Changed event j (model.Moved (model.Pair first second key))) is =
    same_if (nat_eq j n) None
reserve_line known n apart layer (log.Changed event j (model.Moved (model.Became state))) is =
    same_if (nat_eq j n) None
reserve_line known n apart layer (log.Changed event j (model.Moved (model.Live device))) is = same_if (nat_eq j n) None
reserve_line known n apart layer (log.Changed event j (model.Moved (model.Removed device))) is =
    same_if (nat_eq j n) None
reserve_line known n apart layer (log.Changed event j (model.Moved (model.Roll sending))) is =
    same_if (nat_eq j n) None
reserve_line known n apart layer (log.Changed event j (model.Moved (model.Told device))) is = same_if (nat_eq j n) None
reserve_line known n apart layer (log.Changed event j (model.Moved (model.Untold device))) is =
    same_if (nat_eq j n) None

pub limit_line : (known : List Station) (n : ℕ) → TellsApart known n → (key : Bytes) (was : Bool) (m : log.Line)
    → IsOfNodes known m → read.limit_in (name_of known n) key was (line_for known m)
    ≡ said_by n (said.limit_in key was) m
unfolding line_for speaker
limit_line known n apart key was (log.Declared p) is = same_if (nat_eq p.eui n) None
limit_line known n apart key was (log.GivenNet j k sequence) is = same_if (nat_eq j n) None
limit_line known n apart key was (log.GivenLink j partner base) is = same_if (nat_eq j n) None
limit_line known n apart key was (log.Counter j l limit) is = same_if (nat_eq j n) None
limit_line known n apart key was (log.Commit event j) is = same_if (nat_eq j n) None
limit_line known n apart key was (log.Accept event j t) is = same_if (nat_eq j n) None
limit_line known n apart key was (log.Refuse event j at why) is = same_if (nat_eq j n) None
limit_line known n apart key was (log.Seal event j t) is = same_if (nat_eq j n) None
limit_line known n apart key was (log.Forge event t) is = same_if (nat_eq Rattle.zb_model.specs.Data.nobody n) None
limit_line known n apart key was (log.Send event from frame bytes) is =
    same_if (nat_eq Rattle.zb_model.specs.Data.nobody n) None
limit_line known n apart key was (log.Inject event frame bytes) is =
    same_if (nat_eq Rattle.zb_model.specs.Data.nobody n) None
limit_line known n apart key was (log.Stopped event j) is = same_if (nat_eq j n) None
limit_line known n apart key was (log.DownReset event j) is = same_if (nat_eq j n) None
limit_line known n apart key was (log.DownDisk event j) is = same_if (nat_eq j n) None
limit_line known n apart key was (log.Boot event j) is = same_if (nat_eq j n) None
limit_line known n apart key was (log.Dump event j bytes) is = same_if (nat_eq j n) None
limit_line known n apart key was (log.End events seals accepts refusals ideal private) is =
    same_if (nat_eq Rattle.zb_model.specs.Data.nobody n) None
limit_line known n apart key was (log.Changed event j (model.Reserve l limit)) is =
    ap (λ b. cond (was && (b && read.same_layer (layer_of l) (layer_of model.Nwk))) (Some limit) None) (apart j is.0)
    ∙ all_three was (nat_eq j n) (read.same_layer (layer_of l) (layer_of model.Nwk)) (state.same_layer l model.Nwk)
    limit (layers l model.Nwk)
limit_line known n apart key was (log.Changed event j (model.Floor l k from value)) is = same_if (nat_eq j n) None
limit_line known n apart key was (log.Changed event j (model.Start k value)) is =
    ap (λ b. cond (b && bytes_eq k key) (Some value) None) (apart j is.0) ∙ both (nat_eq j n) (bytes_eq k key)
    (bytes_eq k key) value refl
limit_line known n apart key was (log.Changed event j (model.Moved (model.Draw base))) is = same_if (nat_eq j n) None
limit_line known n apart key was (log.Changed event j (model.Moved (model.DropNet base))) is =
    same_if (nat_eq j n) None
limit_line known n apart key was (log.Changed event j (model.Moved (model.DropLink partner base))) is =
    same_if (nat_eq j n) None
limit_line known n apart key was (log.Changed event j (model.Moved (model.Install base sequence))) is =
    same_if (nat_eq j n) None
limit_line known n apart key was (log.Changed event j (model.Moved (model.Active base))) is = same_if (nat_eq j n) None
limit_line known n apart key was (log.Changed event j (model.Moved (model.Row partner base attribute))) is =
    same_if (nat_eq j n) None
limit_line known n apart key was (log.Changed event j (model.Moved (model.Pair first second base))) is =
    same_if (nat_eq j n) None
limit_line known n apart key was (log.Changed event j (model.Moved (model.Became state))) is =
    same_if (nat_eq j n) None
limit_line known n apart key was (log.Changed event j (model.Moved (model.Live device))) is = same_if (nat_eq j n) None
limit_line known n apart key was (log.Changed event j (model.Moved (model.Removed device))) is =
    same_if (nat_eq j n) None
limit_line known n apart key was (log.Changed event j (model.Moved (model.Roll sending))) is =
    same_if (nat_eq j n) None
limit_line known n apart key was (log.Changed event j (model.Moved (model.Told device))) is = same_if (nat_eq j n) None
limit_line known n apart key was (log.Changed event j (model.Moved (model.Untold device))) is =
    same_if (nat_eq j n) None

pub floor_line : (known : List Station) (n : ℕ) → TellsApart known n
    → (layer : model.Layer) (key : Bytes) (sender : ℕ) (m : log.Line) → IsOfNodes known m
    → read.floor_in (name_of known n) (layer_of layer) key sender (line_for known m)
    ≡ said_by n (said.floor_in layer key sender) m
unfolding line_for speaker
floor_line known n apart layer key sender (log.Declared p) is = same_if (nat_eq p.eui n) None
floor_line known n apart layer key sender (log.GivenNet j base sequence) is = same_if (nat_eq j n) None
floor_line known n apart layer key sender (log.GivenLink j partner base) is = same_if (nat_eq j n) None
floor_line known n apart layer key sender (log.Counter j l limit) is = same_if (nat_eq j n) None
floor_line known n apart layer key sender (log.Commit event j) is = same_if (nat_eq j n) None
floor_line known n apart layer key sender (log.Accept event j t) is = same_if (nat_eq j n) None
floor_line known n apart layer key sender (log.Refuse event j at why) is = same_if (nat_eq j n) None
floor_line known n apart layer key sender (log.Seal event j t) is = same_if (nat_eq j n) None
floor_line known n apart layer key sender (log.Forge event t) is =
    same_if (nat_eq Rattle.zb_model.specs.Data.nobody n) None
floor_line known n apart layer key sender (log.Send event from frame bytes) is =
    same_if (nat_eq Rattle.zb_model.specs.Data.nobody n) None
floor_line known n apart layer key sender (log.Inject event frame bytes) is =
    same_if (nat_eq Rattle.zb_model.specs.Data.nobody n) None
floor_line known n apart layer key sender (log.Stopped event j) is = same_if (nat_eq j n) None
floor_line known n apart layer key sender (log.DownReset event j) is = same_if (nat_eq j n) None
floor_line known n apart layer key sender (log.DownDisk event j) is = same_if (nat_eq j n) None
floor_line known n apart layer key sender (log.Boot event j) is = same_if (nat_eq j n) None
floor_line known n apart layer key sender (log.Dump event j bytes) is = same_if (nat_eq j n) None
floor_line known n apart layer key sender (log.End events seals accepts refusals ideal private) is =
    same_if (nat_eq Rattle.zb_model.specs.Data.nobody n) None
floor_line known n apart layer key sender (log.Changed event j (model.Reserve l limit)) is = same_if (nat_eq j n) None
floor_line known n apart layer key sender (log.Changed event j (model.Floor l k from value)) is =
    ap (λ b. cond (b && read.is_from (layer_of layer) key sender (layer_of l) k from) (Some value) None)
    (apart j is.0) ∙ both (nat_eq j n) (read.is_from (layer_of layer) key sender (layer_of l) k from)
    (state.same_layer l layer && (bytes_eq k key && nat_eq from sender)) value
    (ap (λ t. t && (bytes_eq k key && nat_eq from sender)) (layers l layer))
floor_line known n apart layer key sender (log.Changed event j (model.Start k value)) is = same_if (nat_eq j n) None
floor_line known n apart layer key sender (log.Changed event j (model.Moved (model.Draw base))) is =
    same_if (nat_eq j n) None
floor_line known n apart layer key sender (log.Changed event j (model.Moved (model.DropNet base))) is =
    same_if (nat_eq j n) None
floor_line known n apart layer key sender (log.Changed event j (model.Moved (model.DropLink partner base))) is =
    same_if (nat_eq j n) None
floor_line known n apart layer key sender (log.Changed event j (model.Moved (model.Install base sequence))) is =
    same_if (nat_eq j n) None
floor_line known n apart layer key sender (log.Changed event j (model.Moved (model.Active base))) is =
    same_if (nat_eq j n) None
floor_line known n apart layer key sender (log.Changed event j (model.Moved (model.Row partner base attribute))) is =
    same_if (nat_eq j n) None
floor_line known n apart layer key sender (log.Changed event j (model.Moved (model.Pair first second base))) is =
    same_if (nat_eq j n) None
floor_line known n apart layer key sender (log.Changed event j (model.Moved (model.Became state))) is =
    same_if (nat_eq j n) None
floor_line known n apart layer key sender (log.Changed event j (model.Moved (model.Live device))) is =
    same_if (nat_eq j n) None
floor_line known n apart layer key sender (log.Changed event j (model.Moved (model.Removed device))) is =
    same_if (nat_eq j n) None
floor_line known n apart layer key sender (log.Changed event j (model.Moved (model.Roll sending))) is =
    same_if (nat_eq j n) None
floor_line known n apart layer key sender (log.Changed event j (model.Moved (model.Told device))) is =
    same_if (nat_eq j n) None
floor_line known n apart layer key sender (log.Changed event j (model.Moved (model.Untold device))) is =
    same_if (nat_eq j n) None
