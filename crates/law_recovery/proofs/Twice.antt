-- What a node accepted at NWK has raised its sender's floor over the frame's counter, so that frame is stale then.
use Rattle.std.proofs.Common.{◌≡◌, ℕ, ◌+◌, ◌<◌, ◌≤◌, min, Bool, true, false, cond, if◌then◌else◌, List, [], ◌∷◌, ◌++◌, map, filter, find, reverse, flat_map, Option, Some, None, option_map, option_to_list, is_some, nat_eq, nat_lt, nat_le, refl, sym, ap, ◌∙◌, subst, arith, eq-eqb, eqb-true, leb-false, max, not-suc-le-zero}
use Rattle.std.specs.List.{AllByRecursion}
use Rattle.std.proofs.lemmas.Bool.{false≢true, lt-leb, lt-ltb}
use Rattle.zb_model.specs.Data.{Bytes, Layer, Nwk, Aps, AtNwk, AtAps, Place, Reason, NoKey, CounterMax, BadMic, Stale, Term, Move, DropNet, Install, Edit, Reserve, Floor, Start, Moved, Received}
use Rattle.zb_model.specs.Fits.{keeps_rules, net_stored}
use Rattle.zb_model.specs.Judging.{Verdict, Not, Good, Unsealed, aps_source, candidates, chosen_row, judge_aps, judge_net, judge_nwk, need, payload_of, reject}
use Rattle.zb_model.specs.Rules.{Setting, Plan, Does}
use Rattle.zb_model.specs.State.{SenderFloor, NetKey, NodeState, greatest_counter, same_key, same_layer, has_net, at_net, of_active, net_of, net_of_active, active_row, reserved, started_at, dropped_net, net_floor, net_kept, new_net, next_at, floor_stored, floor_kept, floor_of_sender, sender_floor, moved, applied, applied_all, after_hearing, after_accepting, sealed_at, after_sealing, may_use, live_nets, usable_nets, usable_of}
use Rattle.zb_model.specs.Tools.{Tools, ApsShown, ApsAuxiliary, CommandShown, Known, Unknown, Broken, NwkShown}
use Rattle.zb_model.specs.Commands.{Heard}
use Rattle.zb_model.specs.Answer.{accepted_all, sealed_all, comes_to, stopped_at, heard_clear, heard_sealed, stored_at, aps_command, aps_part, by_security, received_as, sealed_part, changes, moves_of, move_edits, floor_edit, edits_of, out_of, may_seal, reserve_of, floor_of, floor_for, stored_floor, answer_by, counting_of, plan_of, answer, answered, refusal_of}
use Rattle.law_answer_storable.specs.Storing.{OpensAsJudged}
use Rattle.law_change_fits.proofs.Parts.{nets_alike, rules_of, same_key_is, same_key_of}
use Rattle.law_recovery.specs.CommandFrames.{IsCarried, NetFrame, net_term}
use Rattle.law_recovery.specs.Meeting.{HasNetwork, IsSteady}
use Rattle.law_recovery.specs.Obstacles.{in_row, why_not_heard}
use Rattle.law_recovery.proofs.Judged.{IsHeard, delivered, free_at, shown_of}
use Rattle.law_recovery.proofs.Rows.{found_before, found_test, only_one}
use Rattle.law_recovery.proofs.Steady.{steady_after}
use Rattle.law_recovery.specs.Answering.{after_task}
use Rattle.law_recovery.proofs.Changing.{active_key, applied_then, reserves}
use Rattle.law_recovery.proofs.Once.{find_map}
use Rattle.law_run.proofs.Judged.{In, all-in, found-element, in-filter, in-reverse, nowhere}
use Rattle.law_recovery.specs.Twice.{Hears, frame_bytes}

-- ---- the row of a key

abbrev pub key_test : Bytes → NetKey → Bool
key_test key r = same_key r.key key

abbrev pub of_sender : ℕ → SenderFloor → Bool
of_sender source f = nat_eq f.sender source

-- the row of a key is there, and its floors have a property
pub record AtKey (P : List SenderFloor → Type 0) (key : Bytes) (rs : List NetKey) : Type 0 where
  pub row : NetKey
  pub found : find (key_test key) rs ≡ Some row
  pub has : P row.floors

mapped : (P Q : List SenderFloor → Type 0) (g : NetKey → NetKey) (key : Bytes) (rs : List NetKey)
    → ((r : NetKey) → (g r).key ≡ r.key)
    → ((r : NetKey) → same_key r.key key ≡ true → P r.floors → Q (g r).floors) → AtKey P key rs
    → AtKey Q key (map g rs)
mapped P Q g key rs same moves a = record {
  row = g a.row;
  found = find_map (key_test key) g (λ r. ap (λ k. same_key k key) (same r)) rs ∙ ap (option_map g) a.found;
  has = moves a.row (found_test (key_test key) rs a.row a.found) a.has;
}

-- rows of one key are changed
at_rows : (P Q : List SenderFloor → Type 0) (f : NetKey → NetKey) (other key : Bytes) (rs : List NetKey)
    → ((r : NetKey) → (f r).key ≡ r.key) → ((r : NetKey) → same_key r.key other ≡ true → P r.floors → Q (f r).floors)
    → (same_key key other ≡ false → (fs : List SenderFloor) → P fs → Q fs) → AtKey P key rs
    → AtKey Q key (at_net other f rs)
at_rows P Q f other key rs same moves stays a =
    mapped P Q (λ r. if same_key r.key other then f r else r) key rs (λ r. keys (same_key r.key other) r)
    (λ r mine h. by_test (same_key r.key other) r refl mine h) a
  where
    keys : (b : Bool) (r : NetKey) → (if b then f r else r).key ≡ r.key
    keys true r = same r
    keys false r = refl

    by_test : (b : Bool) (r : NetKey) → same_key r.key other ≡ b → same_key r.key key ≡ true → P r.floors
        → Q (if b then f r else r).floors
    by_test true r e mine h = moves r e h
    by_test false r e mine h = stays (ap (λ k. same_key k other) (sym (same_key_is r.key key mine)) ∙ e) r.floors h

added : (P : List SenderFloor → Type 0) (key : Bytes) (rs more : List NetKey) → AtKey P key rs
    → AtKey P key (rs ++ more)
added P key rs more a =
    record { row = a.row; found = found_before (key_test key) rs more a.row a.found; has = a.has }

-- ---- a floor of a sender is there

abbrev HasFloor : ℕ → List SenderFloor → Type 0
HasFloor source fs = is_some (find (of_sender source) fs) ≡ true

abbrev Any : List SenderFloor → Type 0
Any fs = Unit {0}

self : (n : ℕ) → nat_eq n n ≡ true
self n = eq-eqb n n refl

turned : (a b : ℕ) → nat_eq a b ≡ true → nat_eq b a ≡ true
turned a b e = eq-eqb b a (sym (eqb-true a b e))

stored_has : (source value : ℕ) (fs : List SenderFloor) → HasFloor source (floor_stored source value fs)
stored_has source value [] = rw (self source) refl
stored_has source value (f ∷ fs) = by_tests (nat_lt source f.sender) (nat_eq source f.sender) refl
    (stored_has source value fs)
  where
    later : (b : Bool) → HasFloor source (floor_stored source value fs)
        → is_some (cond b (Some f) (find (of_sender source) (floor_stored source value fs))) ≡ true
    later true h = refl
    later false h = h

    by_tests : (b d : Bool) → nat_eq source f.sender ≡ d → HasFloor source (floor_stored source value fs)
        → HasFloor source
        (cond b (record { sender = source; kept = 0; stored = value } ∷ f ∷ fs)
        (cond d (record f { stored = max f.stored value } ∷ fs)
        (f ∷ floor_stored source value fs)))
    by_tests true d e h = rw (self source) refl
    by_tests false true e h = rw (turned source f.sender e) refl
    by_tests false false e h = later (nat_eq f.sender source) h

stored_keeps : (of source value : ℕ) (fs : List SenderFloor) → HasFloor of fs
    → HasFloor of (floor_stored source value fs)
stored_keeps of source value [] h = absurd (false≢true h)
stored_keeps of source value (f ∷ fs) h = by_tests (nat_lt source f.sender) (nat_eq source f.sender)
    (λ g. stored_keeps of source value fs g)
  where
    before : (b : Bool) → is_some (cond b (Some (record { sender = source; kept = 0; stored = value }))
        (find (of_sender of) (f ∷ fs))) ≡ true
    before true = refl
    before false = h

    here : (b : Bool) → is_some (cond b (Some f) (find (of_sender of) fs)) ≡ true
        → is_some (cond b (Some (record f { stored = max f.stored value }))
        (find (of_sender of) fs)) ≡ true
    here true g = refl
    here false g = g

    later : (b : Bool) → is_some (cond b (Some f) (find (of_sender of) fs)) ≡ true
        → (HasFloor of fs → HasFloor of (floor_stored source value fs))
        → is_some (cond b (Some f) (find (of_sender of) (floor_stored source value fs))) ≡ true
    later true g more = refl
    later false g more = more g

    by_tests : (b d : Bool) → (HasFloor of fs → HasFloor of (floor_stored source value fs))
        → HasFloor of
        (cond b (record { sender = source; kept = 0; stored = value } ∷ f ∷ fs)
        (cond d (record f { stored = max f.stored value } ∷ fs)
        (f ∷ floor_stored source value fs)))
    by_tests true d more = before (nat_eq source of)
    by_tests false true more = here (nat_eq f.sender of) h
    by_tests false false more = later (nat_eq f.sender of) h more

-- what every change of a state keeps of the floors of a key
record Keeps (P : List SenderFloor → Type 0) : Type 0 where
  stores : (sender value : ℕ) (fs : List SenderFloor) → P fs → P (floor_stored sender value fs)

move_keeps : (P : List SenderFloor → Type 0) (key : Bytes) (m : Move) (s : NodeState) → AtKey P key s.nets
    → AtKey P key (moved m s).nets
move_keeps P key (DropNet other) s a =
    at_rows P P dropped_net other key s.nets (λ r. refl) (λ r e h. h) (λ e fs h. h) a
move_keeps P key (Install other sequence) s a = by_test (has_net other s.nets)
  where
    by_test : (b : Bool) → AtKey P key (if b then s.nets else s.nets ++ new_net other sequence ∷ [])
    by_test true = a
    by_test false = added P key s.nets (new_net other sequence ∷ []) a
move_keeps P key _ s a = a

active_keeps : (P : List SenderFloor → Type 0) (key : Bytes) (limit : ℕ) (o : Option Bytes) (rs : List NetKey)
    → AtKey P key rs → AtKey P key (of_active (reserved limit) o rs)
active_keeps P key limit None rs a = a
active_keeps P key limit (Some other) rs a =
    at_rows P P (reserved limit) other key rs (λ r. refl) (λ r e h. h) (λ e fs h. h) a

edit_keeps : (P : List SenderFloor → Type 0) → Keeps P → (key : Bytes) (e : Edit) (s : NodeState)
    → AtKey P key s.nets → AtKey P key (applied e s).nets
unfolding applied
edit_keeps P k key (Reserve Nwk limit) s a = active_keeps P key limit s.active s.nets a
edit_keeps P k key (Reserve Aps limit) s a = a
edit_keeps P k key (Floor Nwk other sender value) s a =
    at_rows P P (net_floor sender value) other key s.nets (λ r. refl) (λ r e h. k.stores sender value r.floors h)
    (λ e fs h. h) a
edit_keeps P k key (Floor Aps other sender value) s a = a
edit_keeps P k key (Start other value) s a =
    at_rows P P (started_at value) other key s.nets (λ r. refl) (λ r e h. h) (λ e fs h. h) a
edit_keeps P k key (Moved m) s a = move_keeps P key m s a

edits_keep : (P : List SenderFloor → Type 0) → Keeps P → (key : Bytes) (es : List Edit) (s : NodeState)
    → AtKey P key s.nets → AtKey P key (applied_all es s).nets
unfolding applied_all
edits_keep P k key [] s a = a
edits_keep P k key (e ∷ es) s a = edits_keep P k key es (applied e s) (edit_keeps P k key e s a)

any_keeps : Keeps Any
any_keeps = record { stores = λ sender value fs h. h }

floor_keeps : (of : ℕ) → Keeps (HasFloor of)
floor_keeps of = record { stores = λ sender value fs h. stored_keeps of sender value fs h }

-- the floor that is stored for an accepted term
floor_comes : (key : Bytes) (source value : ℕ) (s : NodeState) → AtKey Any key s.nets
    → AtKey (HasFloor source) key (applied (Floor Nwk key source value) s).nets
unfolding applied
floor_comes key source value s a =
    at_rows Any (HasFloor source) (net_floor source value) key key s.nets (λ r. refl)
    (λ r e h. stored_has source value r.floors)
    (λ e fs h. absurd (false≢true (sym e ∙ same_key_of key key refl))) a

-- ---- after the accepted term the floor is above its counter

abbrev pub KeptAt : ℕ → ℕ → List SenderFloor → Type 0
KeptAt source kept fs = (floor_of_sender source (find (of_sender source) fs)).kept ≡ kept

kept_then : (source kept : ℕ) (fs : List SenderFloor) → HasFloor source fs → KeptAt source kept
    (floor_kept source kept fs)
kept_then source kept [] h = absurd (false≢true h)
kept_then source kept (f ∷ fs) h = by_test (nat_eq f.sender source) refl h (λ g. kept_then source kept fs g)
  where
    by_test : (b : Bool) → nat_eq f.sender source ≡ b → is_some (cond b (Some f) (find (of_sender source) fs)) ≡ true
        → (HasFloor source fs → KeptAt source kept (floor_kept source kept fs))
        → KeptAt source kept (cond b (record f { kept = kept }) f ∷ floor_kept source kept fs)
    by_test true e g later = rw e refl
    by_test false e g later = rw e (later g)

heard_then : (key : Bytes) (source counter : ℕ) (s : NodeState) → AtKey (HasFloor source) key s.nets
    → AtKey (KeptAt source (counter + 1)) key (after_hearing Nwk key source counter s).nets
unfolding after_hearing
heard_then key source counter s a =
    at_rows (HasFloor source) (KeptAt source (counter + 1)) (net_kept source (counter + 1)) key key s.nets (λ r. refl)
    (λ r e h. kept_then source (counter + 1) r.floors h)
    (λ e fs h. absurd (false≢true (sym e ∙ same_key_of key key refl))) a

accept_then : (t : Term) (s : NodeState) → t.layer ≡ Nwk → AtKey (HasFloor t.source) t.base s.nets
    → AtKey (KeptAt t.source (t.counter + 1)) t.base (after_accepting t s).nets
unfolding after_accepting
accept_then t s e a =
    subst (λ l. AtKey (KeptAt t.source (t.counter + 1)) t.base (after_hearing l t.base t.source t.counter s).nets)
    (sym e) (heard_then t.base t.source t.counter s a)

aps_leaves : (v : Term) (s : NodeState) → v.layer ≡ Aps → (after_accepting v s).nets ≡ s.nets
unfolding after_accepting after_hearing
aps_leaves v s e = by_layer v.layer e
  where
    by_layer : (l : Layer) → l ≡ Aps → (after_hearing l v.base v.source v.counter s).nets ≡ s.nets
    by_layer Nwk e = absurd (cc)
    by_layer Aps e = refl

seal_keeps : (P : List SenderFloor → Type 0) (key : Bytes) (t : Term) (s : NodeState) (l : Layer) → AtKey P key s.nets
    → AtKey P key (sealed_at l t s).nets
seal_keeps P key t s Nwk a =
    at_rows P P (next_at (t.counter + 1)) t.base key s.nets (λ r. refl) (λ r e h. h) (λ e fs h. h) a
seal_keeps P key t s Aps a = a

seals_keep : (P : List SenderFloor → Type 0) (key : Bytes) (ts : List Term) (s : NodeState) → AtKey P key s.nets
    → AtKey P key (sealed_all ts s).nets
unfolding after_sealing
seals_keep P key [] s a = a
seals_keep P key (t ∷ ts) s a = seals_keep P key ts (after_sealing t s) (seal_keeps P key t s t.layer a)

-- ---- what is accepted begins with the NWK term, followed by at most one APS term

-- each is of the counter that the frame shows
abbrev pub AllAps : ℕ → List Term → Type 0
AllAps counter ts = AllByRecursion (λ (v : Term). (v.layer ≡ Aps) × (v.counter ≡ counter)) ts

abbrev pub seal_counter : Option ApsAuxiliary → ℕ
seal_counter None = 0
seal_counter (Some aux) = aux.counter

abbrev pub shown_counter : Option ApsShown → ℕ
shown_counter None = 0
shown_counter (Some a) = seal_counter a.auxiliary

pub record Begins (counter : ℕ) (t : Term) (p : Plan) : Type 0 where
  pub rest : List Term
  pub accepts : p.accepts ≡ t ∷ rest
  pub aps : AllAps counter rest

either : (n : ℕ) (t : Term) (b : Bool) (p q : Plan) → Begins n t p → Begins n t q → Begins n t (if b then p else q)
either n t true p q x y = x
either n t false p q x y = y

abbrev OnGood : {A : Type 0} → (A → Type 0) → Verdict A → Type 0
OnGood P (Not place reason) = Unit {0}
OnGood P (Good it) = P it

after_reject : {A : Type 0} (P : A → Type 0) (bad : Bool) (place : Place) (reason : Reason) (rest : Verdict A)
    → OnGood P rest → OnGood P (reject bad place reason rest)
unfolding reject
after_reject P true place reason rest k = tt
after_reject P false place reason rest k = k

after_need : {A B : Type 0} (P : B → Type 0) (o : Option A) (place : Place) (reason : Reason) (rest : A → Verdict B)
    → ((a : A) → o ≡ Some a → OnGood P (rest a)) → OnGood P (need o place reason rest)
unfolding need
after_need P None place reason rest k = tt
after_need P (Some a) place reason rest k = k a refl

abbrev IsAps : ℕ → Unsealed → Type 0
IsAps counter u = (u.term.layer ≡ Aps) × (u.term.counter ≡ counter)

aps_judged : (tools : Tools) → OpensAsJudged tools → (c : Setting) (s : NodeState) (f : NwkShown) (bytes : Bytes)
    (a : ApsShown) (aux : ApsAuxiliary) → tools.read_aps bytes ≡ Some a → a.auxiliary ≡ Some aux
    → OnGood (IsAps aux.counter) (judge_aps tools c s f bytes aux)
unfolding judge_aps
aps_judged tools opens c s f bytes a aux read shown =
    after_need (IsAps aux.counter) (aps_source c f aux) AtAps NoKey _
    (λ source e. after_need (IsAps aux.counter) (chosen_row tools bytes source (candidates s source)) AtAps NoKey _
    (λ row g. after_reject (IsAps aux.counter) (nat_le greatest_counter aux.counter) AtAps CounterMax _
    (after_reject (IsAps aux.counter) (nat_lt aux.counter row.kept) AtAps (Stale row.kept) _
    (after_need (IsAps aux.counter) (tools.open_aps bytes row.key source) AtAps BadMic _
    (λ term h. (
      (opens.aps bytes row.key source a aux term read shown h).0,
      (opens.aps bytes row.key source a aux term read shown h).3,
    ))))))

command_begins : (tools : Tools) (c : Setting) (s : NodeState) (draw : Option Bytes) (n : ℕ) (t : Term)
    (rest : List Term) (m : Heard) (o : CommandShown) → AllAps n rest
    → Begins n t (aps_command tools c s draw (t ∷ rest) m o)
command_begins tools c s draw n t rest m (Known command) all = record { rest = rest; accepts = refl; aps = all }
command_begins tools c s draw n t rest m Unknown all = record { rest = rest; accepts = refl; aps = all }
command_begins tools c s draw n t rest m Broken all = record { rest = rest; accepts = refl; aps = all }

sealed_begins : (tools : Tools) (c : Setting) (s : NodeState) (draw : Option Bytes) (t : Term) (a : ApsShown)
    (aux : ApsAuxiliary) (v : Verdict Unsealed) → OnGood (IsAps aux.counter) v
    → Begins aux.counter t (sealed_part tools c s draw (Some t) a aux v)
sealed_begins tools c s draw t a aux (Not place reason) good = record { rest = []; accepts = refl; aps = tt }
sealed_begins tools c s draw t a aux (Good u) good =
    either aux.counter t a.is_command
    (aps_command tools c s draw (t ∷ u.term ∷ []) (heard_sealed (Some t) aux u) (tools.read_command u.term.content))
    (comes_to (t ∷ u.term ∷ []) AtAps (Does [] None))
    (command_begins tools c s draw aux.counter t (u.term ∷ []) (heard_sealed (Some t) aux u)
    (tools.read_command u.term.content) (good, tt))
    (record { rest = u.term ∷ []; accepts = refl; aps = (good, tt) })

security_begins : (tools : Tools) → OpensAsJudged tools → (c : Setting) (s : NodeState) (draw : Option Bytes)
    (f : NwkShown) (t : Term) (a : ApsShown) (o : Option ApsAuxiliary) → tools.read_aps t.content ≡ Some a
    → a.auxiliary ≡ o → Begins (seal_counter o) t (by_security tools c s draw f (Some t) a o)
security_begins tools opens c s draw f t a None read shown =
    either 0 t a.is_command
    (aps_command tools c s draw (t ∷ []) (heard_clear (Some t)) (tools.read_command a.body))
    (comes_to (t ∷ []) AtAps (Does [] None))
    (command_begins tools c s draw 0 t [] (heard_clear (Some t)) (tools.read_command a.body) tt)
    (record { rest = []; accepts = refl; aps = tt })
security_begins tools opens c s draw f t a (Some aux) read shown =
    sealed_begins tools c s draw t a aux (judge_aps tools c s f (payload_of f (Some t)) aux)
    (aps_judged tools opens c s f (payload_of f (Some t)) a aux read shown)

pub part_begins : (tools : Tools) → OpensAsJudged tools → (c : Setting) (s : NodeState) (draw : Option Bytes)
    (f : NwkShown) (t : Term) (o : Option ApsShown) → tools.read_aps t.content ≡ o
    → Begins (shown_counter o) t (aps_part tools c s draw f (Some t) o)
part_begins tools opens c s draw f t None read = record { rest = []; accepts = refl; aps = tt }
part_begins tools opens c s draw f t (Some a) read = security_begins tools opens c s draw f t a a.auxiliary read refl

-- ---- the whole answer

-- the node's floor of the sender is over the frame's counter
abbrev pub StandsOver : NetFrame → NodeState → Type 0
StandsOver f u = AtKey (KeptAt f.source (f.counter + 1)) f.key u.nets

-- what a plan accepts after the NWK term leaves the network rows
rest_leaves : (n : ℕ) (rest : List Term) → AllAps n rest → (v : NodeState) → (accepted_all rest v).nets ≡ v.nets
rest_leaves n [] all v = refl
rest_leaves n (u ∷ rest) all v = rest_leaves n rest all.1 (after_accepting u v) ∙ aps_leaves u v all.0.0

abbrev floor_list : Term → Option ℕ → List Edit
floor_list t o = option_to_list (option_map (Floor t.layer t.base t.source) o)

-- a floor is stored now, or was stored before
own_floor : (c : Setting) (s u : NodeState) (t : Term) → t.layer ≡ Nwk → AtKey Any t.base u.nets
    → (AtKey (HasFloor t.source) t.base s.nets → AtKey (HasFloor t.source) t.base u.nets) → AtKey Any t.base s.nets
    → AtKey (HasFloor t.source) t.base (applied_all (floor_list t (floor_for c s t)) u).nets
unfolding stored_floor applied_all sender_floor
own_floor c s u t layer any more here = by_test (nat_le (stored_floor t s) t.counter) refl
  where
    standing : (o : Option SenderFloor) → t.counter < (floor_of_sender t.source o).stored → is_some o ≡ true
    standing None lt = absurd (not-suc-le-zero lt)
    standing (Some f) lt = refl

    stored_is : stored_floor t s ≡ net_stored t.source (net_of t.base s)
    stored_is = ap (λ l. stored_at l t s) layer

    row_stored : net_stored t.source (net_of t.base s)
        ≡ (floor_of_sender t.source (find (of_sender t.source) here.row.floors)).stored
    row_stored = ap (net_stored t.source) here.found

    by_test : (b : Bool) → nat_le (stored_floor t s) t.counter ≡ b
        → AtKey (HasFloor t.source) t.base
        (applied_all
        (floor_list t (if b then Some (min (t.counter + c.me.in_block) greatest_counter) else None)) u).nets
    by_test true e =
        subst (λ l. AtKey (HasFloor t.source) t.base
        (applied (Floor l t.base t.source (min (t.counter + c.me.in_block) greatest_counter)) u).nets) (sym layer)
        (floor_comes t.base t.source (min (t.counter + c.me.in_block) greatest_counter) u any)
    by_test false e =
        more (record {
          row = here.row;
          found = here.found;
          has = standing (find (of_sender t.source) here.row.floors)
              (subst (λ n. t.counter < n) (stored_is ∙ row_stored) (leb-false (stored_floor t s) t.counter e));
        })

layer_same : (l : Layer) → same_layer l l ≡ true
layer_same Nwk = refl
layer_same Aps = refl

first_floor : (c : Setting) (s : NodeState) (t : Term) (rest : List Term) → floor_of c s (t ∷ rest) t.layer
    ≡ floor_for c s t
unfolding floor_of
first_floor c s t rest =
    ap (λ b. if b then floor_for c s t else floor_of c s rest t.layer) (layer_same t.layer)

abbrev pub plan_with : Plan → List Term → Plan
plan_with p ts = record p { accepts = ts }

heard_plan : (tools : Tools) (c : Setting) (s : NodeState) (p : Plan) (n : ℕ) (t : Term) (rest : List Term)
    → t.layer ≡ Nwk → AllAps n rest → AtKey Any t.base s.nets
    → AtKey (KeptAt t.source (t.counter + 1)) t.base
    (answered (answer_by tools c s (counting_of c s (plan_with p (t ∷ rest))) (plan_with p (t ∷ rest))) s).nets
unfolding answered answer_by edits_of counting_of
heard_plan tools c s p n t rest layer all here =
    let q = plan_with p (t ∷ rest) in
    let k = counting_of c s q in
    let a = answer_by tools c s k q in
    let first = reserves (k.reserve Nwk) (k.reserve Aps) in
    let v = applied_all first s in
    let own = floor_list t (floor_for c s t) in
    let others = flat_map (floor_edit k) rest in
    let moves = flat_map (move_edits k) (filter (changes s) (moves_of p.outcome)) in
    let z = applied_all own v in
    let floor : AtKey (HasFloor t.source) t.base z.nets =
    own_floor c s v t layer (edits_keep Any any_keeps t.base first s here)
    (edits_keep (HasFloor t.source) (floor_keeps t.source) t.base first s) here in
    let kept : AtKey (HasFloor t.source) t.base (applied_all moves (applied_all others z)).nets =
    edits_keep (HasFloor t.source) (floor_keeps t.source) t.base moves (applied_all others z)
    (edits_keep (HasFloor t.source) (floor_keeps t.source) t.base others z floor) in
    let order : applied_all a.edits s ≡ applied_all moves (applied_all others z) =
    ap (λ o. applied_all (first ++ ((floor_list t o ++ others) ++ moves)) s) (first_floor c s t rest)
    ∙ applied_then first ((own ++ others) ++ moves) s
    ∙ applied_then (own ++ others) moves v
    ∙ ap (applied_all moves) (applied_then own others v) in
    let w = applied_all a.edits s in
    let over : AtKey (KeptAt t.source (t.counter + 1)) t.base (after_accepting t w).nets =
    accept_then t w layer (subst (λ (x : NodeState). AtKey (HasFloor t.source) t.base x.nets) (sym order) kept) in
    seals_keep (KeptAt t.source (t.counter + 1)) t.base a.seals (accepted_all rest (after_accepting t w))
    (subst (λ n. AtKey (KeptAt t.source (t.counter + 1)) t.base n)
    (sym (rest_leaves n rest all (after_accepting t w))) over)

-- ---- the row that the node finds

net_here : (s : NodeState) (key : Bytes) (sequence : ℕ) → HasNetwork s key sequence → AtKey Any key s.nets
unfolding active_row
net_here s key sequence h =
    let x = active_key s h.active h.is_active in
    let same : x.0 ≡ key = sym (same_key_is h.active.key x.0 x.2) ∙ h.active_key in
    record {
      row = h.active;
      found = ap (λ k. find (key_test k) s.nets) (sym same) ∙ ap (λ o. net_of_active o s) (sym x.1) ∙ h.is_active;
      has = tt;
    }

pub among : (u : NodeState) (sequence : ℕ) (row : NetKey) → usable_of u sequence ≡ Some row → In row u.nets
unfolding usable_of usable_nets
among u sequence row e = by_may (may_use u) (in-reverse row (if may_use u then live_nets u else [])
    (found-element (λ (r : NetKey). nat_eq r.sequence sequence) (reverse (if may_use u then live_nets u else [])) row
    e).0)
  where
    by_may : (b : Bool) → In row (if b then live_nets u else []) → In row u.nets
    by_may true i = in-filter (λ (r : NetKey). r.live) row u.nets i
    by_may false i = absurd (nowhere row i)

one_key : (key : Bytes) (a b : NetKey) → key_test key a ≡ true → key_test key b ≡ true → nets_alike a b ≡ true
one_key key a b x y = same_key_of a.key b.key (same_key_is a.key key x ∙ sym (same_key_is b.key key y))

-- the row that a node finds by the sequence of a key is the row of that key
pub found_row : (u : NodeState) (key : Bytes) (sequence : ℕ) (P : List SenderFloor → Type 0) → keeps_rules u ≡ true
    → (h : HasNetwork u key sequence) → (a : AtKey P key u.nets) → h.found ≡ a.row
found_row u key sequence P rules h a =
    let all = only_one nets_alike (key_test key) (one_key key) a.row u.nets (rules_of u rules).net_keys a.found in
    all-in (λ r. key_test key r ≡ true → r ≡ a.row) u.nets all h.found (among u sequence h.found h.is_found)
    (same_key_of h.found.key key h.found_key)

pub floor_over : (u : NodeState) (key : Bytes) (sequence source kept : ℕ) → keeps_rules u ≡ true
    → (h : HasNetwork u key sequence) → AtKey (KeptAt source kept) key u.nets
    → (sender_floor source h.found).kept ≡ kept
unfolding sender_floor
floor_over u key sequence source kept rules h a =
    ap (λ (r : NetKey). (floor_of_sender source (find (of_sender source) r.floors)).kept)
    (found_row u key sequence (KeptAt source kept) rules h a) ∙ a.has

-- ---- the second time

second_judged : (tools : Tools) (c : Setting) (s u : NodeState) (f : NetFrame) (content : Bytes)
    → IsCarried tools f content → Hears c s f → (h : HasNetwork u f.key f.sequence)
    → nat_lt f.counter (sender_floor f.source h.found).kept ≡ true
    → judge_nwk tools c u (frame_bytes tools f content) ≡ Not AtNwk (Stale (sender_floor f.source h.found).kept)
unfolding judge_nwk judge_net need reject
second_judged tools c s u f content a m h stale =
    let to : nat_eq f.to c.me.short ≡ true = eq-eqb f.to c.me.short m.to in
    let small : nat_le greatest_counter f.counter ≡ false = lt-leb greatest_counter f.counter m.small in
    rw (a.shown, m.apart, to, h.is_found, small, stale) refl

pub stop_leaves : (tools : Tools) (c : Setting) (u : NodeState) (place : Place) (reason : Reason)
    → answered
    (answer_by tools c u (counting_of c u (stopped_at [] place reason)) (stopped_at [] place reason)) u ≡ u
unfolding answered answer_by counting_of edits_of out_of may_seal reserve_of floor_of applied_all
stop_leaves tools c u place reason = refl

pub record Stays (tools : Tools) (c : Setting) (u : NodeState) (bytes : Bytes) (draw : Option Bytes) (floor : ℕ) :
    Type 0 where
  pub refused : (answer tools c u (Received bytes draw)).refusal ≡ Some (Stale floor)
  pub same : after_task tools c u (Received bytes draw) ≡ u

second_time : (tools : Tools) (c : Setting) (u : NodeState) (bytes : Bytes) (draw : Option Bytes) (floor : ℕ)
    → judge_nwk tools c u bytes ≡ Not AtNwk (Stale floor) → Stays tools c u bytes draw floor
unfolding after_task answer answer_by plan_of
second_time tools c u bytes draw floor e =
    let plan : received_as tools c u draw (judge_nwk tools c u bytes) ≡ stopped_at [] AtNwk (Stale floor) =
    ap (received_as tools c u draw) e in
    record {
      refused = ap refusal_of plan;
      same = ap (λ p. answered (answer_by tools c u (counting_of c u p) p) u) plan
          ∙ stop_leaves tools c u AtNwk (Stale floor);
    }

-- ---- all of it

pub heard_frame : (tools : Tools) → OpensAsJudged tools → (c : Setting) (s : NodeState) (f : NetFrame)
    (content : Bytes) (draw : Option Bytes) → IsCarried tools f content → Hears c s f
    → StandsOver f (after_task tools c s (Received (frame_bytes tools f content) draw))
unfolding after_task answer
heard_frame tools opens c s f content draw a m =
    let t = net_term f content in
    let task = Received (frame_bytes tools f content) draw in
    let h : IsHeard c s f m.network.found = record {
      found = m.network.is_found;
      same = m.network.found_key;
      to = m.to;
      apart = m.apart;
      small = m.small;
      declared = m.declared;
      member = m.member;
    } in
    let part = aps_part tools c s draw (shown_of f a.body) (Some t) (tools.read_aps content) in
    let free : why_not_heard m.network.found f.source f.counter ≡ None =
    ap (λ o. in_row o (λ row. why_not_heard row f.source f.counter)) (sym m.network.is_found) ∙ m.free in
    let plan : plan_of tools c s task ≡ part =
    delivered tools c s f content m.network.found draw a h ∙ free_at f m.network.found part free in
    let begins = part_begins tools opens c s draw (shown_of f a.body) t (tools.read_aps content) refl in
    let shape : part ≡ plan_with part (t ∷ begins.rest) = ap (λ ts. plan_with part ts) begins.accepts in
    subst (λ p. StandsOver f (answered (answer_by tools c s (counting_of c s p) p) s)) (sym (plan ∙ shape))
    (heard_plan tools c s part (shown_counter (tools.read_aps content)) t begins.rest refl begins.aps
    (net_here s f.key f.sequence m.network))

pub comes_twice : (tools : Tools) → OpensAsJudged tools → (c : Setting) (s : NodeState) (f : NetFrame)
    (content : Bytes) (draw again : Option Bytes) → 1 ≤ c.me.in_block → IsSteady c s → IsCarried tools f content
    → Hears c s f
    → HasNetwork (after_task tools c s (Received (frame_bytes tools f content) draw)) f.key f.sequence
    → Stays tools c (after_task tools c s (Received (frame_bytes tools f content) draw)) (frame_bytes tools f content)
    again (f.counter + 1)
comes_twice tools opens c s f content draw again block i a m h =
    let u = after_task tools c s (Received (frame_bytes tools f content) draw) in
    let steady = steady_after tools opens c s (Received (frame_bytes tools f content) draw) block i in
    let kept = floor_over u f.key f.sequence f.source (f.counter + 1) steady.rules h
    (heard_frame tools opens c s f content draw a m) in
    let stale : nat_lt f.counter (sender_floor f.source h.found).kept ≡ true =
    lt-ltb f.counter (sender_floor f.source h.found).kept (omega (arith, kept)) in
    subst (Stays tools c u (frame_bytes tools f content) again) kept
    (second_time tools c u (frame_bytes tools f content) again (sender_floor f.source h.found).kept
    (second_judged tools c s u f content a m h stale))
