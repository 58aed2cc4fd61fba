-- What the lines of an answer call for: its seals call for the reserves, its accepted terms for the floors, its moves
-- for the starts.
use Rattle.std.proofs.Common.{◌≡◌, ℕ, ◌+◌, min, Bool, true, false, cond, ◌&&◌, List, [], ◌∷◌, ◌++◌, map, filter, Option, Some, None, option_map, option_to_list, is_some, nat_eq, nat_le, flat_map, refl, sym, ap, ◌∙◌}
use Rattle.std.proofs.lemmas.Bool.{false≢true}
use Rattle.std.specs.List.{AllByRecursion}
use Rattle.zb_model.specs.Data.{Bytes, Layer, Nwk, Aps, Term, Edit, Reserve, Floor, Start, Moved, Move, Draw, DropNet, DropLink, Install, Active, Row, Pair, Became, Live, Removed, Roll, Told, Untold}
use Rattle.zb_model.specs.Lines.{Line, Changed, Accept, Seal}
use Rattle.zb_model.specs.State.{greatest_counter, NetKey, NodeState, at_net, has_net, new_net, dropped_net, active_row, next_counter, stored_limit, same_layer}
use Rattle.zb_model.specs.Tools.{Tools}
use Rattle.zb_model.specs.Rules.{Body, Saying, Clear, Secret, Tunnelled, Telling, Leaving, Relayed, Sending, Setting}
use Rattle.zb_model.specs.Answer.{Counting, has_aps_seal, seals_at, part_of, framed, sent, may_seal, out_of, nothing_out, reserve_of, stored_floor, floor_for, floor_of, start_edit, move_edits, changes, is_started_key, activated, start_for}
use Rattle.zb_model.specs.Readings.{state_of}
use Rattle.zb_model.specs.Play.{Schedule, setting_of}
use Rattle.law_run.proofs.Basics.{append-nil', flat_map-append}
use Rattle.law_run.proofs.Groups.{may-seal}
use Rattle.law_run.proofs.Judged.{AcceptsFit}
use Rattle.law_run_counters.specs.Counted.{reserve_line, reserve_called, floor_called, start_value, has_started, start_called, start_there}
use Rattle.law_run_counters.proofs.Shown.{NoActive, MovesFit}
use Rattle.law_run_counters.proofs.Sections.{map-append, flat-none, reserve_list}

-- Reserves

-- what a sealed term calls for at a layer, whatever its counter: `due`, if it is of the layer
abbrev Calls : Layer → List Line → Term → List Line
Calls layer due t = cond (same_layer t.layer layer) due []

body-calls-net : (due : List Line) (tools : Tools) (me to nwk aps : ℕ) (body : Body)
    → flat_map (Calls Nwk due) (part_of tools me to nwk aps body).seals ≡ []
unfolding part_of
body-calls-net due tools me to nwk aps (Saying bytes) = refl
body-calls-net due tools me to nwk aps (Clear control command) = refl
body-calls-net due tools me to nwk aps (Secret label key command) = refl
body-calls-net due tools me to nwk aps (Tunnelled device key command) = refl
body-calls-net due tools me to nwk aps (Telling key bytes) = refl
body-calls-net due tools me to nwk aps Leaving = refl
body-calls-net due tools me to nwk aps (Relayed bytes) = refl

body-calls-aps : (due : List Line) (tools : Tools) (me to nwk aps : ℕ) (body : Body)
    → flat_map (Calls Aps due) (part_of tools me to nwk aps body).seals ≡ cond (has_aps_seal body) due []
unfolding part_of
body-calls-aps due tools me to nwk aps (Saying bytes) = refl
body-calls-aps due tools me to nwk aps (Clear control command) = refl
body-calls-aps due tools me to nwk aps (Secret label key command) = append-nil' due
body-calls-aps due tools me to nwk aps (Tunnelled device key command) = append-nil' due
body-calls-aps due tools me to nwk aps (Telling key bytes) = append-nil' due
body-calls-aps due tools me to nwk aps Leaving = refl
body-calls-aps due tools me to nwk aps (Relayed bytes) = refl

-- the layers at which a body is sealed in a frame
abbrev sealed_at_layer : Layer → Bool → Body → Bool
sealed_at_layer Nwk secured body = secured
sealed_at_layer Aps secured body = has_aps_seal body

framed-calls : (layer : Layer) (due : List Line) (tools : Tools) (c : Setting) (to nwk aps : ℕ) (secured : Bool)
    (row : Option NetKey) (body : Body) → (secured ≡ true → is_some row ≡ true)
    → flat_map (Calls layer due) (framed tools c to nwk secured row (part_of tools c.me.eui to nwk aps body)).seals
    ≡ cond (sealed_at_layer layer secured body) due []
framed-calls Nwk due tools c to nwk aps false row body k = body-calls-net due tools c.me.eui to nwk aps body
framed-calls Aps due tools c to nwk aps false row body k = body-calls-aps due tools c.me.eui to nwk aps body
framed-calls layer due tools c to nwk aps true None body k = absurd (false≢true (k refl))
framed-calls Nwk due tools c to nwk aps true (Some r) body k =
    flat_map-append (Calls Nwk due) (part_of tools c.me.eui to nwk aps body).seals _
    ∙ ap (λ l. l ++ (due ++ [])) (body-calls-net due tools c.me.eui to nwk aps body)
    ∙ append-nil' due
framed-calls Aps due tools c to nwk aps true (Some r) body k =
    flat_map-append (Calls Aps due) (part_of tools c.me.eui to nwk aps body).seals _
    ∙ append-nil' (flat_map (Calls Aps due) (part_of tools c.me.eui to nwk aps body).seals)
    ∙ body-calls-aps due tools c.me.eui to nwk aps body

sent-calls : (layer : Layer) (due : List Line) (tools : Tools) (c : Setting) (s : NodeState) (k : Counting)
    (send : Option Sending) → (seals_at Nwk send ≡ true → is_some (active_row s) ≡ true)
    → flat_map (Calls layer due) (sent tools c s k send).seals ≡ cond (seals_at layer send) due []
sent-calls Nwk due tools c s k None g = refl
sent-calls Aps due tools c s k None g = refl
sent-calls Nwk due tools c s k (Some send) g = framed-calls Nwk due tools c send.to (k.counter Nwk) (k.counter Aps)
    send.secured (active_row s) send.body g
sent-calls Aps due tools c s k (Some send) g = framed-calls Aps due tools c send.to (k.counter Nwk) (k.counter Aps)
    send.secured (active_row s) send.body g

out-calls : (layer : Layer) (due : List Line) (tools : Tools) (c : Setting) (s : NodeState) (k : Counting)
    (send : Option Sending) (b : Bool) → may_seal s send ≡ b
    → flat_map (Calls layer due) (cond b (sent tools c s k send) nothing_out).seals
    ≡ cond (seals_at layer send && b) due []
out-calls layer due tools c s k send true e =
    sent-calls layer due tools c s k send (λ a. (may-seal s send e).active a) ∙ ap (λ b. cond b due [])
    (sym (and-true (seals_at layer send)))
  where
    and-true : (a : Bool) → (a && true) ≡ a
    and-true true = refl
    and-true false = refl
out-calls layer due tools c s k send false e = ap (λ b. cond b due []) (sym (and-false (seals_at layer send)))
  where
    and-false : (a : Bool) → (a && false) ≡ false
    and-false true = refl
    and-false false = refl

listed : (number n : ℕ) (layer : Layer) (v : ℕ) (a b e : Bool)
    → cond (a && b) (cond e (Changed number n (Reserve layer v) ∷ []) []) []
    ≡ map (Changed number n) (reserve_list layer (cond (a && (b && e)) (Some v) None))
listed number n layer v true true true = refl
listed number n layer v true true false = refl
listed number n layer v true false e = refl
listed number n layer v false b e = refl

-- the reserves that seals call for are those of `reserve_of`, whatever the counters of the seals
pub seals-call : (tools : Tools) (w : Schedule) (h : List Line) (number n : ℕ) (k : Counting) (send : Option Sending)
    (layer : Layer)
    → flat_map (λ t. reserve_called w h layer (Seal number n t))
    (out_of tools (setting_of w n) (state_of h n) k send).seals
    ≡ map (Changed number n) (reserve_list layer (reserve_of (setting_of w n) (state_of h n) send layer))
unfolding out_of reserve_of
seals-call tools w h number n k send layer =
    out-calls layer (reserve_line w (state_of h n) number n layer) tools (setting_of w n) (state_of h n) k send
    (may_seal (state_of h n) send) refl
    ∙ listed number n layer (min (next_counter layer (state_of h n) + (setting_of w n).me.out_block) greatest_counter)
    (seals_at layer send) (may_seal (state_of h n) send)
    (nat_eq (next_counter layer (state_of h n)) (stored_limit layer (state_of h n)))

-- Floors

abbrev pub floor_list : Term → Option ℕ → List Edit
floor_list t o = option_to_list (option_map (Floor t.layer t.base t.source) o)

-- the floors that accepted terms call for, each its own
abbrev pub own_floors : Setting → NodeState → List Term → List Edit
own_floors c s ts = flat_map (λ t. floor_list t (floor_for c s t)) ts

one-called : (number n : ℕ) (t : Term) (v : ℕ) (b : Bool)
    → cond b (Changed number n (Floor t.layer t.base t.source v) ∷ []) []
    ≡ map (Changed number n) (floor_list t (cond b (Some v) None))
one-called number n t v true = refl
one-called number n t v false = refl

pub accepts-call : (w : Schedule) (h : List Line) (number n : ℕ) (ts : List Term)
    → flat_map (λ t. floor_called w h (Accept number n t)) ts
    ≡ map (Changed number n) (own_floors (setting_of w n) (state_of h n) ts)
accepts-call w h number n [] = refl
accepts-call w h number n (t ∷ ts) =
    ap (λ l. l ++ flat_map (λ t. floor_called w h (Accept number n t)) ts)
    (one-called number n t (min (t.counter + (setting_of w n).me.in_block) greatest_counter)
    (nat_le (stored_floor t (state_of h n)) t.counter))
    ∙ ap (λ l. map (Changed number n) own ++ l) (accepts-call w h number n ts)
    ∙ sym (map-append (Changed number n) own (own_floors (setting_of w n) (state_of h n) ts))
  where
    own : List Edit
    own = floor_list t (floor_for (setting_of w n) (state_of h n) t)

-- if there is at most one term per layer, each floor is its own
layer-same : (l : Layer) → same_layer l l ≡ true
layer-same Nwk = refl
layer-same Aps = refl

first-own : (c : Setting) (s : NodeState) (t : Term) (ts : List Term) → floor_of c s (t ∷ ts) t.layer ≡ floor_for c s t
unfolding floor_of
first-own c s t ts = ap (λ b. cond b (floor_for c s t) (floor_of c s ts t.layer)) (layer-same t.layer)

second-own : (c : Setting) (s : NodeState) (t u : Term) → t.layer ≡ Nwk → u.layer ≡ Aps
    → floor_of c s (t ∷ u ∷ []) u.layer ≡ floor_for c s u
unfolding floor_of
second-own c s t u a b =
    ap (λ l. cond (same_layer l u.layer) (floor_for c s t) (floor_of c s (u ∷ []) u.layer)) a
    ∙ ap (λ l. cond (same_layer Nwk l) (floor_for c s t) (cond (same_layer u.layer l) (floor_for c s u) None)) b
    ∙ ap (λ l. cond (same_layer l Aps) (floor_for c s u) None) b

abbrev floors_by : Setting → NodeState → List Term → List Term → List Edit
floors_by c s ts us = flat_map (λ t. floor_list t (floor_of c s ts t.layer)) us

pub floors-own : (c : Setting) (s s0 : NodeState) (ts : List Term) → AcceptsFit s0 ts → floors_by c s ts ts
    ≡ own_floors c s ts
floors-own c s s0 [] f = refl
floors-own c s s0 (t ∷ []) f = ap (λ o. floor_list t o ++ []) (first-own c s t [])
floors-own c s s0 (t ∷ u ∷ []) f =
    ap (λ o. floor_list t o ++ (floor_list u (floor_of c s (t ∷ u ∷ []) u.layer) ++ [])) (first-own c s t (u ∷ []))
    ∙ ap (λ o. floor_list t (floor_for c s t) ++ (floor_list u o ++ [])) (second-own c s t u f.0.at f.1.at)
floors-own c s s0 (t ∷ u ∷ v ∷ ts) f = absurd f

-- Starts

abbrev pub there : ℕ → ℕ → Edit → List Line
there number n e = start_there (Changed number n e)

abbrev pub called : List Line → ℕ → ℕ → Edit → List Line
called h number n e = start_called h (Changed number n e)

abbrev pub edits_by : Counting → List Move → List Edit
edits_by k ms = flat_map (move_edits k) ms

-- moves that make nothing active have no start, and their edits are the same with all counters
pub none-there : (number n : ℕ) (k : Counting) (ms : List Move) → AllByRecursion NoActive ms
    → flat_map (there number n) (edits_by k ms) ≡ []
none-there number n k [] a = refl
none-there number n k (Active key ∷ ms) a = absurd a.0
none-there number n k (Draw key ∷ ms) a = none-there number n k ms a.1
none-there number n k (DropNet key ∷ ms) a = none-there number n k ms a.1
none-there number n k (DropLink p key ∷ ms) a = none-there number n k ms a.1
none-there number n k (Install key q ∷ ms) a = none-there number n k ms a.1
none-there number n k (Row p key t ∷ ms) a = none-there number n k ms a.1
none-there number n k (Pair x y key ∷ ms) a = none-there number n k ms a.1
none-there number n k (Became g ∷ ms) a = none-there number n k ms a.1
none-there number n k (Live d ∷ ms) a = none-there number n k ms a.1
none-there number n k (Removed d ∷ ms) a = none-there number n k ms a.1
none-there number n k (Roll b ∷ ms) a = none-there number n k ms a.1
none-there number n k (Told d ∷ ms) a = none-there number n k ms a.1
none-there number n k (Untold d ∷ ms) a = none-there number n k ms a.1

pub none-called : (h : List Line) (number n : ℕ) (k : Counting) (ms : List Move) → AllByRecursion NoActive ms
    → flat_map (called h number n) (edits_by k ms) ≡ []
none-called h number n k [] a = refl
none-called h number n k (Active key ∷ ms) a = absurd a.0
none-called h number n k (Draw key ∷ ms) a = none-called h number n k ms a.1
none-called h number n k (DropNet key ∷ ms) a = none-called h number n k ms a.1
none-called h number n k (DropLink p key ∷ ms) a = none-called h number n k ms a.1
none-called h number n k (Install key q ∷ ms) a = none-called h number n k ms a.1
none-called h number n k (Row p key t ∷ ms) a = none-called h number n k ms a.1
none-called h number n k (Pair x y key ∷ ms) a = none-called h number n k ms a.1
none-called h number n k (Became g ∷ ms) a = none-called h number n k ms a.1
none-called h number n k (Live d ∷ ms) a = none-called h number n k ms a.1
none-called h number n k (Removed d ∷ ms) a = none-called h number n k ms a.1
none-called h number n k (Roll b ∷ ms) a = none-called h number n k ms a.1
none-called h number n k (Told d ∷ ms) a = none-called h number n k ms a.1
none-called h number n k (Untold d ∷ ms) a = none-called h number n k ms a.1

-- the start of a key that becomes active, and what it calls for
abbrev start_due : List Line → ℕ → ℕ → Bytes → List Line
start_due h number n key =
    cond (has_started h n key) [] (Changed number n (Start key (start_value (state_of h n))) ∷ [])

start-there : (number n : ℕ) (key : Bytes) (o : Option ℕ) (rest : List Edit) → flat_map (there number n) rest ≡ []
    → flat_map (there number n) (start_edit key o ++ rest) ≡ map (Changed number n) (start_edit key o)
start-there number n key None rest e = e
start-there number n key (Some v) rest e = ap (λ l. Changed number n (Start key v) ∷ l) e

start-called : (h : List Line) (number n : ℕ) (key : Bytes) (o : Option ℕ) (rest : List Edit)
    → flat_map (called h number n) rest ≡ [] → flat_map (called h number n) (start_edit key o ++ rest) ≡ []
start-called h number n key None rest e = e
start-called h number n key (Some v) rest e = e

-- the start lines of the active move, and those called for
pub active-there : (number n : ℕ) (k : Counting) (key : Bytes) (ms : List Move) → AllByRecursion NoActive ms
    → flat_map (there number n) (edits_by k (Active key ∷ ms)) ≡ map (Changed number n) (start_edit key k.start)
active-there number n k key ms a = start-there number n key k.start (edits_by k ms) (none-there number n k ms a)

pub active-called : (h : List Line) (number n : ℕ) (k : Counting) (key : Bytes) (ms : List Move)
    → AllByRecursion NoActive ms → flat_map (called h number n) (edits_by k (Active key ∷ ms))
    ≡ start_due h number n key
active-called h number n k key ms a =
    ap (λ l. start_due h number n key ++ l)
    (start-called h number n key k.start (edits_by k ms) (none-called h number n k ms a)) ∙ append-nil'
    (start_due h number n key)

due-listed : (number n : ℕ) (key : Bytes) (v : ℕ) (b : Bool)
    → map (Changed number n) (start_edit key (cond b None (Some v))) ≡ cond b [] (Changed number n (Start key v) ∷ [])
due-listed number n key v true = refl
due-listed number n key v false = refl

-- in a transcript each start that is there is called for
pub starts-counted : (h : List Line) (number n : ℕ) (k : Counting)
    → ((key : Bytes) → is_started_key (state_of h n) key ≡ has_started h n key)
    → (nets : List NetKey) (ms : List Move) → MovesFit nets ms → k.start
    ≡ start_for (state_of h n) (activated (state_of h n) ms)
    → flat_map (there number n) (edits_by k ms) ≡ flat_map (called h number n) (edits_by k ms)
starts-counted h number n k r nets [] f e = refl
starts-counted h number n k r nets (Active key ∷ ms) f e =
    active-there number n k key ms f.1
    ∙ ap (λ o. map (Changed number n) (start_edit key o))
    (e ∙ ap (λ b. cond b None (Some (start_value (state_of h n)))) (r key))
    ∙ due-listed number n key (start_value (state_of h n)) (has_started h n key)
    ∙ sym (active-called h number n k key ms f.1)
starts-counted h number n k r nets (Draw key ∷ ms) f e = starts-counted h number n k r nets ms f e
starts-counted h number n k r nets (DropNet key ∷ ms) f e =
    starts-counted h number n k r (at_net key dropped_net nets) ms f e
starts-counted h number n k r nets (DropLink p key ∷ ms) f e = starts-counted h number n k r nets ms f e
starts-counted h number n k r nets (Install key q ∷ ms) f e =
    starts-counted h number n k r (cond (has_net key nets) nets (nets ++ new_net key q ∷ [])) ms f e
starts-counted h number n k r nets (Row p key t ∷ ms) f e = starts-counted h number n k r nets ms f e
starts-counted h number n k r nets (Pair x y key ∷ ms) f e = starts-counted h number n k r nets ms f e
starts-counted h number n k r nets (Became g ∷ ms) f e = starts-counted h number n k r nets ms f e
starts-counted h number n k r nets (Live d ∷ ms) f e = starts-counted h number n k r nets ms f e
starts-counted h number n k r nets (Removed d ∷ ms) f e = starts-counted h number n k r nets ms f e
starts-counted h number n k r nets (Roll b ∷ ms) f e = starts-counted h number n k r nets ms f e
starts-counted h number n k r nets (Told d ∷ ms) f e = starts-counted h number n k r nets ms f e
starts-counted h number n k r nets (Untold d ∷ ms) f e = starts-counted h number n k r nets ms f e

-- with other counters, if each start that is there is called for, the edits are the same
none-same : (k j : Counting) (ms : List Move) → AllByRecursion NoActive ms → edits_by k ms ≡ edits_by j ms
none-same k j [] a = refl
none-same k j (Active key ∷ ms) a = absurd a.0
none-same k j (Draw key ∷ ms) a = ap (λ l. Moved (Draw key) ∷ l) (none-same k j ms a.1)
none-same k j (DropNet key ∷ ms) a = ap (λ l. Moved (DropNet key) ∷ l) (none-same k j ms a.1)
none-same k j (DropLink p key ∷ ms) a = ap (λ l. Moved (DropLink p key) ∷ l) (none-same k j ms a.1)
none-same k j (Install key q ∷ ms) a = ap (λ l. Moved (Install key q) ∷ l) (none-same k j ms a.1)
none-same k j (Row p key t ∷ ms) a = ap (λ l. Moved (Row p key t) ∷ l) (none-same k j ms a.1)
none-same k j (Pair x y key ∷ ms) a = ap (λ l. Moved (Pair x y key) ∷ l) (none-same k j ms a.1)
none-same k j (Became g ∷ ms) a = ap (λ l. Moved (Became g) ∷ l) (none-same k j ms a.1)
none-same k j (Live d ∷ ms) a = ap (λ l. Moved (Live d) ∷ l) (none-same k j ms a.1)
none-same k j (Removed d ∷ ms) a = ap (λ l. Moved (Removed d) ∷ l) (none-same k j ms a.1)
none-same k j (Roll b ∷ ms) a = ap (λ l. Moved (Roll b) ∷ l) (none-same k j ms a.1)
none-same k j (Told d ∷ ms) a = ap (λ l. Moved (Told d) ∷ l) (none-same k j ms a.1)
none-same k j (Untold d ∷ ms) a = ap (λ l. Moved (Untold d) ∷ l) (none-same k j ms a.1)

abbrev pub StartsCalled : List Line → ℕ → ℕ → Counting → List Move → Type 0
StartsCalled h number n k ms = flat_map (there number n) (edits_by k ms) ≡ flat_map (called h number n) (edits_by k ms)

pub moves-same : (h : List Line) (number n : ℕ) (k j : Counting) (nets : List NetKey) (ms : List Move)
    → MovesFit nets ms → StartsCalled h number n k ms → StartsCalled h number n j ms → edits_by k ms ≡ edits_by j ms
moves-same h number n k j nets [] f a b = refl
moves-same h number n k j nets (Active key ∷ ms) f a b =
    ap (λ l. Moved (Active key) ∷ (l ++ edits_by k ms))
    (Rattle.law_run_counters.proofs.Sections.same-edits number n (start_edit key k.start) (start_edit key j.start)
    (sym (active-there number n k key ms f.1) ∙ a ∙ active-called h number n k key ms f.1 ∙ sym
    (active-called h number n j key ms f.1) ∙ sym b ∙ active-there number n j key ms f.1))
    ∙ ap (λ l. Moved (Active key) ∷ (start_edit key j.start ++ l)) (none-same k j ms f.1)
moves-same h number n k j nets (Draw key ∷ ms) f a b =
    ap (λ l. Moved (Draw key) ∷ l) (moves-same h number n k j nets ms f a b)
moves-same h number n k j nets (DropNet key ∷ ms) f a b =
    ap (λ l. Moved (DropNet key) ∷ l) (moves-same h number n k j (at_net key dropped_net nets) ms f a b)
moves-same h number n k j nets (DropLink p key ∷ ms) f a b =
    ap (λ l. Moved (DropLink p key) ∷ l) (moves-same h number n k j nets ms f a b)
moves-same h number n k j nets (Install key q ∷ ms) f a b =
    ap (λ l. Moved (Install key q) ∷ l)
    (moves-same h number n k j (cond (has_net key nets) nets (nets ++ new_net key q ∷ [])) ms f a b)
moves-same h number n k j nets (Row p key t ∷ ms) f a b =
    ap (λ l. Moved (Row p key t) ∷ l) (moves-same h number n k j nets ms f a b)
moves-same h number n k j nets (Pair x y key ∷ ms) f a b =
    ap (λ l. Moved (Pair x y key) ∷ l) (moves-same h number n k j nets ms f a b)
moves-same h number n k j nets (Became g ∷ ms) f a b =
    ap (λ l. Moved (Became g) ∷ l) (moves-same h number n k j nets ms f a b)
moves-same h number n k j nets (Live d ∷ ms) f a b =
    ap (λ l. Moved (Live d) ∷ l) (moves-same h number n k j nets ms f a b)
moves-same h number n k j nets (Removed d ∷ ms) f a b =
    ap (λ l. Moved (Removed d) ∷ l) (moves-same h number n k j nets ms f a b)
moves-same h number n k j nets (Roll b ∷ ms) f a c =
    ap (λ l. Moved (Roll b) ∷ l) (moves-same h number n k j nets ms f a c)
moves-same h number n k j nets (Told d ∷ ms) f a b =
    ap (λ l. Moved (Told d) ∷ l) (moves-same h number n k j nets ms f a b)
moves-same h number n k j nets (Untold d ∷ ms) f a b =
    ap (λ l. Moved (Untold d) ∷ l) (moves-same h number n k j nets ms f a b)

-- moves that are left out, because they change nothing, leave the others fit
none-cond : (b : Bool) (m : Move) (ms : List Move) → NoActive m → AllByRecursion NoActive ms
    → AllByRecursion NoActive (cond b (m ∷ ms) ms)
none-cond true m ms a b = (a, b)
none-cond false m ms a b = b

pub filter-none : (test : Move → Bool) (ms : List Move) → AllByRecursion NoActive ms
    → AllByRecursion NoActive (filter test ms)
filter-none test [] a = tt
filter-none test (m ∷ ms) a = none-cond (test m) m (filter test ms) a.0 (filter-none test ms a.1)

cond-fits : (b : Bool) (nets : List NetKey) (m : Move) (ms : List Move) → MovesFit nets (m ∷ ms) → MovesFit nets ms
    → MovesFit nets (cond b (m ∷ ms) ms)
cond-fits true nets m ms f g = f
cond-fits false nets m ms f g = g

pub filter-fits : (s : NodeState) (nets : List NetKey) (ms : List Move) → MovesFit nets ms
    → MovesFit nets (filter (changes s) ms)
filter-fits s nets [] f = tt
filter-fits s nets (Active key ∷ ms) f = cond-fits (changes s (Active key)) nets (Active key) (filter (changes s) ms)
    (f.0, filter-none (changes s) ms f.1)
    (Rattle.law_run_counters.proofs.Shown.none-fits nets (filter (changes s) ms) (filter-none (changes s) ms f.1))
filter-fits s nets (Draw key ∷ ms) f = filter-fits s nets ms f
filter-fits s nets (DropNet key ∷ ms) f = filter-fits s (at_net key dropped_net nets) ms f
filter-fits s nets (DropLink p key ∷ ms) f = filter-fits s nets ms f
filter-fits s nets (Install key q ∷ ms) f = filter-fits s (cond (has_net key nets) nets (nets ++ new_net key q ∷ []))
    ms f
filter-fits s nets (Row p key t ∷ ms) f = cond-fits (changes s (Row p key t)) nets (Row p key t)
    (filter (changes s) ms) (filter-fits s nets ms f) (filter-fits s nets ms f)
filter-fits s nets (Pair x y key ∷ ms) f = filter-fits s nets ms f
filter-fits s nets (Became g ∷ ms) f = cond-fits (changes s (Became g)) nets (Became g) (filter (changes s) ms)
    (filter-fits s nets ms f) (filter-fits s nets ms f)
filter-fits s nets (Live d ∷ ms) f = filter-fits s nets ms f
filter-fits s nets (Removed d ∷ ms) f = filter-fits s nets ms f
filter-fits s nets (Roll b ∷ ms) f = filter-fits s nets ms f
filter-fits s nets (Told d ∷ ms) f = filter-fits s nets ms f
filter-fits s nets (Untold d ∷ ms) f = filter-fits s nets ms f
