-- The answer to an event with counters for which it is counted is the answer of the transcript.
use Rattle.std.proofs.Common.{◌≡◌, ℕ, ◌+◌, Bool, true, false, cond, List, [], ◌∷◌, ◌++◌, map, length, Option, Some, None, flat_map, refl, sym, ap, ◌∙◌, subst}
use Rattle.std.proofs.lemmas.Bool.{false≢true}
use Rattle.std.specs.List.{AllByRecursion}
use Rattle.zb_model.specs.Data.{Bytes, Layer, Nwk, Aps, Term, Edit, Reserve, Floor, Start, Moved, Place, Reason}
use Rattle.zb_model.specs.Lines.{Line, Changed, Accept, Seal}
use Rattle.zb_model.specs.State.{NetKey, NodeState, net_of_active, active_row, next_counter}
use Rattle.zb_model.specs.Tools.{Tools}
use Rattle.zb_model.specs.Rules.{Body, Saying, Clear, Secret, Tunnelled, Telling, Leaving, Relayed, Sending, Plan, Setting}
use Rattle.zb_model.specs.Answer.{Answer, Counting, Outgoing, has_aps_seal, part_of, plain_out, secured_out, framed, sent, may_seal, out_of, nothing_out, reserve_of, reserve_edit, floor_edit, sending_of, refusal_of, edits_of, answer_by, counting_of, is_started_key}
use Rattle.zb_model.specs.Readings.{state_of, air}
use Rattle.zb_model.specs.Play.{Schedule, setting_of, commit_lines, refuse_lines, send_lines, stored_lines, told_lines, group_of}
use Rattle.law_run.proofs.Basics.{same_key-eq}
use Rattle.law_run.proofs.Counters.{found-key, none-some}
use Rattle.law_run.proofs.FreshLines.{all-append}
use Rattle.law_run.proofs.Judged.{AcceptsFit}
use Rattle.law_run_counters.specs.Counted.{TakesCounter, reserve_there, reserve_called, floor_there, floor_called, has_started, start_there, start_called, IsCounted}
use Rattle.law_run_counters.proofs.Shown.{NeedsNoNwk, ShownBy, Shown, MovesFit}
use Rattle.law_run_counters.proofs.Sections.{map-append, Quiet, changes-only, accepts-only, seals-only, IsReserve, IsFloor, IsOfMove, are-floors, kept_moves, reserve-edits, floor-edits, start-edits, reserve_list, reserves-of, floors-of, same-edits}
use Rattle.law_run_counters.proofs.Calls.{seals-call, own_floors, accepts-call, floors-own, there, called, edits_by, starts-counted, moves-same}

-- What is there and what is called for, in a group with any counters

abbrev answer_of : Tools → Schedule → List Line → ℕ → Counting → Plan → Answer
answer_of tools w h n k p = answer_by tools (setting_of w n) (state_of h n) k p

abbrev group_with : Tools → Schedule → List Line → ℕ → ℕ → Counting → Plan → List Line
group_with tools w h number n k p = group_of h number n (answer_of tools w h n k p)

quiet-reserve-there : (layer : Layer) → Quiet (reserve_there layer)
quiet-reserve-there layer =
    record { commit = λ e n. refl; refuse = λ e n place reason. refl; send = λ e n frame bytes. refl }

quiet-reserve-called : (w : Schedule) (h : List Line) (layer : Layer) → Quiet (reserve_called w h layer)
quiet-reserve-called w h layer =
    record { commit = λ e n. refl; refuse = λ e n place reason. refl; send = λ e n frame bytes. refl }

quiet-floor-there : Quiet floor_there
quiet-floor-there = record { commit = λ e n. refl; refuse = λ e n place reason. refl; send = λ e n frame bytes. refl }

quiet-floor-called : (w : Schedule) (h : List Line) → Quiet (floor_called w h)
quiet-floor-called w h =
    record { commit = λ e n. refl; refuse = λ e n place reason. refl; send = λ e n frame bytes. refl }

quiet-start-there : Quiet start_there
quiet-start-there = record { commit = λ e n. refl; refuse = λ e n place reason. refl; send = λ e n frame bytes. refl }

quiet-start-called : (h : List Line) → Quiet (start_called h)
quiet-start-called h =
    record { commit = λ e n. refl; refuse = λ e n place reason. refl; send = λ e n frame bytes. refl }

floor-no-reserve : (number n : ℕ) (layer : Layer) (e : Edit) → IsFloor e → reserve_there layer (Changed number n e)
    ≡ []
floor-no-reserve number n layer (Floor l key sender value) f = refl
floor-no-reserve number n layer (Reserve l limit) f = absurd f
floor-no-reserve number n layer (Start key value) f = absurd f
floor-no-reserve number n layer (Moved m) f = absurd f

move-no-reserve : (number n : ℕ) (layer : Layer) (e : Edit) → IsOfMove e → reserve_there layer (Changed number n e)
    ≡ []
move-no-reserve number n layer (Floor l key sender value) f = absurd f
move-no-reserve number n layer (Reserve l limit) f = absurd f
move-no-reserve number n layer (Start key value) f = refl
move-no-reserve number n layer (Moved m) f = refl

reserve-no-floor : (number n : ℕ) (e : Edit) → IsReserve e → floor_there (Changed number n e) ≡ []
reserve-no-floor number n (Reserve l limit) f = refl
reserve-no-floor number n (Floor l key sender value) f = absurd f
reserve-no-floor number n (Start key value) f = absurd f
reserve-no-floor number n (Moved m) f = absurd f

move-no-floor : (number n : ℕ) (e : Edit) → IsOfMove e → floor_there (Changed number n e) ≡ []
move-no-floor number n (Reserve l limit) f = absurd f
move-no-floor number n (Floor l key sender value) f = absurd f
move-no-floor number n (Start key value) f = refl
move-no-floor number n (Moved m) f = refl

reserve-no-start : (number n : ℕ) (e : Edit) → IsReserve e → there number n e ≡ []
reserve-no-start number n (Reserve l limit) f = refl
reserve-no-start number n (Floor l key sender value) f = absurd f
reserve-no-start number n (Start key value) f = absurd f
reserve-no-start number n (Moved m) f = absurd f

floor-no-start : (number n : ℕ) (e : Edit) → IsFloor e → there number n e ≡ []
floor-no-start number n (Reserve l limit) f = absurd f
floor-no-start number n (Floor l key sender value) f = refl
floor-no-start number n (Start key value) f = absurd f
floor-no-start number n (Moved m) f = absurd f

reserve-no-call : (h : List Line) (number n : ℕ) (e : Edit) → IsReserve e → called h number n e ≡ []
reserve-no-call h number n (Reserve l limit) f = refl
reserve-no-call h number n (Floor l key sender value) f = absurd f
reserve-no-call h number n (Start key value) f = absurd f
reserve-no-call h number n (Moved m) f = absurd f

floor-no-call : (h : List Line) (number n : ℕ) (e : Edit) → IsFloor e → called h number n e ≡ []
floor-no-call h number n (Reserve l limit) f = absurd f
floor-no-call h number n (Floor l key sender value) f = refl
floor-no-call h number n (Start key value) f = absurd f
floor-no-call h number n (Moved m) f = absurd f

reserves-there : (tools : Tools) (w : Schedule) (h : List Line) (number n : ℕ) (k : Counting) (p : Plan)
    (layer : Layer) → flat_map (reserve_there layer) (group_with tools w h number n k p)
    ≡ map (Changed number n) (reserve_list layer (k.reserve layer))
unfolding answer_by
reserves-there tools w h number n k p layer =
    changes-only (reserve_there layer) (quiet-reserve-there layer) h number n (answer_of tools w h n k p) (λ t. refl)
    (λ t. refl)
    ∙ reserve-edits (λ e. reserve_there layer (Changed number n e)) (floor-no-reserve number n layer)
    (move-no-reserve number n layer) (state_of h n) k p
    ∙ reserves-of number n layer k

reserves-called : (tools : Tools) (w : Schedule) (h : List Line) (number n : ℕ) (k : Counting) (p : Plan)
    (layer : Layer) → flat_map (reserve_called w h layer) (group_with tools w h number n k p)
    ≡ map (Changed number n)
    (reserve_list layer (reserve_of (setting_of w n) (state_of h n) (sending_of p.outcome) layer))
unfolding answer_by
reserves-called tools w h number n k p layer =
    seals-only (reserve_called w h layer) (quiet-reserve-called w h layer) h number n (answer_of tools w h n k p)
    (λ e. refl) (λ t. refl)
    ∙ seals-call tools w h number n k (sending_of p.outcome) layer

floors-there : (tools : Tools) (w : Schedule) (h : List Line) (number n : ℕ) (k : Counting) (p : Plan)
    → flat_map floor_there (group_with tools w h number n k p)
    ≡ map (Changed number n) (flat_map (floor_edit k) p.accepts)
unfolding answer_by
floors-there tools w h number n k p =
    changes-only floor_there quiet-floor-there h number n (answer_of tools w h n k p) (λ t. refl) (λ t. refl)
    ∙ floor-edits (λ e. floor_there (Changed number n e)) (reserve-no-floor number n) (move-no-floor number n)
    (state_of h n) k p
    ∙ floors-of number n (flat_map (floor_edit k) p.accepts) (are-floors k p.accepts)

floors-called : (tools : Tools) (w : Schedule) (h : List Line) (number n : ℕ) (k : Counting) (p : Plan)
    → flat_map (floor_called w h) (group_with tools w h number n k p)
    ≡ map (Changed number n) (own_floors (setting_of w n) (state_of h n) p.accepts)
unfolding answer_by
floors-called tools w h number n k p =
    accepts-only (floor_called w h) (quiet-floor-called w h) h number n (answer_of tools w h n k p) (λ e. refl)
    (λ t. refl)
    ∙ accepts-call w h number n p.accepts

starts-there : (tools : Tools) (w : Schedule) (h : List Line) (number n : ℕ) (k : Counting) (p : Plan)
    → flat_map start_there (group_with tools w h number n k p)
    ≡ flat_map (there number n) (edits_by k (kept_moves (state_of h n) p))
unfolding answer_by
starts-there tools w h number n k p =
    changes-only start_there quiet-start-there h number n (answer_of tools w h n k p) (λ t. refl) (λ t. refl)
    ∙ start-edits (there number n) (reserve-no-start number n) (floor-no-start number n) (state_of h n) k p

starts-called : (tools : Tools) (w : Schedule) (h : List Line) (number n : ℕ) (k : Counting) (p : Plan)
    → flat_map (start_called h) (group_with tools w h number n k p)
    ≡ flat_map (called h number n) (edits_by k (kept_moves (state_of h n) p))
unfolding answer_by
starts-called tools w h number n k p =
    changes-only (start_called h) (quiet-start-called h) h number n (answer_of tools w h n k p) (λ t. refl) (λ t. refl)
    ∙ start-edits (called h number n) (reserve-no-call h number n) (floor-no-call h number n) (state_of h n) k p

-- The seals of a transcript use the next counters

abbrev Taken : List Line → ℕ → ℕ → List Term → Type 0
Taken h number n ts = AllByRecursion (TakesCounter h) (map (Seal number n) ts)

part-takes : (h : List Line) (number n : ℕ) (tools : Tools) (me to nwk aps : ℕ) (body : Body) → aps
    ≡ next_counter Aps (state_of h n) → Taken h number n (part_of tools me to nwk aps body).seals
unfolding part_of
part-takes h number n tools me to nwk aps (Saying bytes) e = tt
part-takes h number n tools me to nwk aps (Clear control command) e = tt
part-takes h number n tools me to nwk aps (Secret label key command) e = ((e, tt), tt)
part-takes h number n tools me to nwk aps (Tunnelled device key command) e = ((e, tt), tt)
part-takes h number n tools me to nwk aps (Telling key bytes) e = ((e, tt), tt)
part-takes h number n tools me to nwk aps Leaving e = tt
part-takes h number n tools me to nwk aps (Relayed bytes) e = tt

active-by : (o : Option Bytes) (s : NodeState) (r : NetKey) → net_of_active o s ≡ Some r → o ≡ Some r.key
active-by None s r e = absurd (none-some r e)
active-by (Some key) s r e = ap Some (sym (same_key-eq r.key key (found-key key s.nets r e)))

active-key : (s : NodeState) (r : NetKey) → active_row s ≡ Some r → s.active ≡ Some r.key
unfolding active_row
active-key s r e = active-by s.active s r e

framed-takes : (h : List Line) (number n : ℕ) (tools : Tools) (c : Setting) (to nwk aps : ℕ) (secured : Bool)
    (row : Option NetKey) (body : Body) → nwk ≡ next_counter Nwk (state_of h n) → aps ≡ next_counter Aps (state_of h n)
    → ((r : NetKey) → row ≡ Some r → (state_of h n).active ≡ Some r.key)
    → Taken h number n (framed tools c to nwk secured row (part_of tools c.me.eui to nwk aps body)).seals
framed-takes h number n tools c to nwk aps false row body e f k = part-takes h number n tools c.me.eui to nwk aps body
    f
framed-takes h number n tools c to nwk aps true None body e f k = tt
framed-takes h number n tools c to nwk aps true (Some r) body e f k =
    subst (λ ls. AllByRecursion (TakesCounter h) ls)
    (sym (map-append (Seal number n) (part_of tools c.me.eui to nwk aps body).seals _))
    (all-append (TakesCounter h) (map (Seal number n) (part_of tools c.me.eui to nwk aps body).seals) _
    (part-takes h number n tools c.me.eui to nwk aps body f) ((e, k r refl), tt))

sent-takes : (h : List Line) (number n : ℕ) (tools : Tools) (c : Setting) (k : Counting) (send : Option Sending)
    → k.counter Nwk ≡ next_counter Nwk (state_of h n) → k.counter Aps ≡ next_counter Aps (state_of h n)
    → Taken h number n (sent tools c (state_of h n) k send).seals
sent-takes h number n tools c k None e f = tt
sent-takes h number n tools c k (Some send) e f = framed-takes h number n tools c send.to (k.counter Nwk)
    (k.counter Aps) send.secured (active_row (state_of h n)) send.body e f (active-key (state_of h n))

either-taken : (h : List Line) (number n : ℕ) (b : Bool) (x : Outgoing) → Taken h number n x.seals
    → Taken h number n (cond b x nothing_out).seals
either-taken h number n true x t = t
either-taken h number n false x t = tt

out-takes : (h : List Line) (number n : ℕ) (tools : Tools) (c : Setting) (k : Counting) (send : Option Sending)
    → k.counter Nwk ≡ next_counter Nwk (state_of h n) → k.counter Aps ≡ next_counter Aps (state_of h n)
    → Taken h number n (out_of tools c (state_of h n) k send).seals
unfolding out_of
out-takes h number n tools c k send e f = either-taken h number n (may_seal (state_of h n) send)
    (sent tools c (state_of h n) k send) (sent-takes h number n tools c k send e f)

-- other lines use none
changes-take : (h : List Line) (number n : ℕ) (es : List Edit)
    → AllByRecursion (TakesCounter h) (map (Changed number n) es)
changes-take h number n [] = tt
changes-take h number n (e ∷ es) = (tt, changes-take h number n es)

commit-takes : (h : List Line) (number n : ℕ) (es : List Edit)
    → AllByRecursion (TakesCounter h) (commit_lines number n es)
commit-takes h number n [] = tt
commit-takes h number n (e ∷ es) = (tt, tt)

accepts-take : (h : List Line) (number n : ℕ) (ts : List Term)
    → AllByRecursion (TakesCounter h) (map (Accept number n) ts)
accepts-take h number n [] = tt
accepts-take h number n (t ∷ ts) = (tt, accepts-take h number n ts)

refuse-takes : (h : List Line) (number n : ℕ) (place : Place) (r : Option Reason)
    → AllByRecursion (TakesCounter h) (refuse_lines number n place r)
refuse-takes h number n place None = tt
refuse-takes h number n place (Some r) = (tt, tt)

send-takes : (h : List Line) (number : ℕ) (n : Option ℕ) (frame : ℕ) (b : Option Bytes)
    → AllByRecursion (TakesCounter h) (send_lines number n frame b)
send-takes h number n frame None = tt
send-takes h number n frame (Some b) = (tt, tt)

group-takes : (h : List Line) (number n : ℕ) (a : Answer) → Taken h number n a.seals
    → AllByRecursion (TakesCounter h) (group_of h number n a)
unfolding group_of stored_lines told_lines
group-takes h number n a t =
    all-append (TakesCounter h) (map (Changed number n) a.edits ++ commit_lines number n a.edits) _
    (all-append (TakesCounter h) (map (Changed number n) a.edits) (commit_lines number n a.edits)
    (changes-take h number n a.edits) (commit-takes h number n a.edits))
    (all-append (TakesCounter h) (map (Accept number n) a.accepts) _ (accepts-take h number n a.accepts)
    (all-append (TakesCounter h) (refuse_lines number n a.place a.refusal) _
    (refuse-takes h number n a.place a.refusal)
    (all-append (TakesCounter h) (map (Seal number n) a.seals) _ t
    (send-takes h number (Some n) (length (air h) + 1) a.frame))))

taken-by : (tools : Tools) (w : Schedule) (h : List Line) (number n : ℕ) (k : Counting) (p : Plan) → k.counter Nwk
    ≡ next_counter Nwk (state_of h n) → k.counter Aps ≡ next_counter Aps (state_of h n)
    → Taken h number n (answer_of tools w h n k p).seals
unfolding answer_by
taken-by tools w h number n k p e f = out-takes h number n tools (setting_of w n) k (sending_of p.outcome) e f

-- The group of a transcript is counted

pub group-counted : (tools : Tools) (w : Schedule) (h : List Line) (number n : ℕ) (p : Plan)
    → ((key : Bytes) → is_started_key (state_of h n) key ≡ has_started h n key) → AcceptsFit (state_of h n) p.accepts
    → MovesFit (state_of h n).nets (kept_moves (state_of h n) p)
    → IsCounted w h
    (group_of h number n
    (answer_by tools (setting_of w n) (state_of h n) (counting_of (setting_of w n) (state_of h n) p) p))
unfolding counting_of
group-counted tools w h number n p bridged accepts moves = record {
  seals = group-takes h number n (answer_of tools w h n k p) (taken-by tools w h number n k p refl refl);
  reserves = λ layer. reserves-there tools w h number n k p layer ∙ sym (reserves-called tools w h number n k p layer);
  floors = floors-there tools w h number n k p ∙ ap (λ es. map (Changed number n) es)
      (floors-own (setting_of w n) (state_of h n) (state_of h n) p.accepts accepts) ∙ sym
      (floors-called tools w h number n k p);
  starts = starts-there tools w h number n k p ∙ starts-counted h number n k bridged (state_of h n).nets
      (kept_moves (state_of h n) p) moves refl ∙ sym (starts-called tools w h number n k p);
}
  where
    k : Counting
    k = counting_of (setting_of w n) (state_of h n) p

-- With counters for which it is counted, the answer is the same

all-left : {X : Type 0} (P : X → Type 0) (xs ys : List X) → AllByRecursion P (xs ++ ys) → AllByRecursion P xs
all-left P [] ys a = tt
all-left P (x ∷ xs) ys a = (a.0, all-left P xs ys a.1)

all-right : {X : Type 0} (P : X → Type 0) (xs ys : List X) → AllByRecursion P (xs ++ ys) → AllByRecursion P ys
all-right P [] ys a = a
all-right P (x ∷ xs) ys a = all-right P xs ys a.1

seals-taken : (h : List Line) (number n : ℕ) (a : Answer) → AllByRecursion (TakesCounter h) (group_of h number n a)
    → Taken h number n a.seals
unfolding group_of stored_lines told_lines
seals-taken h number n a t =
    all-left (TakesCounter h) (map (Seal number n) a.seals) (send_lines number (Some n) (length (air h) + 1) a.frame)
    (all-right (TakesCounter h) (refuse_lines number n a.place a.refusal) _
    (all-right (TakesCounter h) (map (Accept number n) a.accepts) _
    (all-right (TakesCounter h) (map (Changed number n) a.edits ++ commit_lines number n a.edits) _ t)))

part-taken : (h : List Line) (number n : ℕ) (tools : Tools) (me to nwk aps : ℕ) (body : Body)
    → Taken h number n (part_of tools me to nwk aps body).seals → has_aps_seal body ≡ true → aps
    ≡ next_counter Aps (state_of h n)
unfolding part_of
part-taken h number n tools me to nwk aps (Saying bytes) t e = absurd (false≢true e)
part-taken h number n tools me to nwk aps (Clear control command) t e = absurd (false≢true e)
part-taken h number n tools me to nwk aps (Secret label key command) t e = t.0.0
part-taken h number n tools me to nwk aps (Tunnelled device key command) t e = t.0.0
part-taken h number n tools me to nwk aps (Telling key bytes) t e = t.0.0
part-taken h number n tools me to nwk aps Leaving t e = absurd (false≢true e)
part-taken h number n tools me to nwk aps (Relayed bytes) t e = absurd (false≢true e)

part-aps : (tools : Tools) (me to nwk a b : ℕ) (body : Body) → (has_aps_seal body ≡ true → a ≡ b)
    → part_of tools me to nwk a body ≡ part_of tools me to nwk b body
unfolding part_of
part-aps tools me to nwk a b (Saying bytes) k = refl
part-aps tools me to nwk a b (Clear control command) k = refl
part-aps tools me to nwk a b (Secret label key command) k =
    ap (λ x. part_of tools me to nwk x (Secret label key command)) (k refl)
part-aps tools me to nwk a b (Tunnelled device key command) k =
    ap (λ x. part_of tools me to nwk x (Tunnelled device key command)) (k refl)
part-aps tools me to nwk a b (Telling key bytes) k = ap (λ x. part_of tools me to nwk x (Telling key bytes)) (k refl)
part-aps tools me to nwk a b Leaving k = refl
part-aps tools me to nwk a b (Relayed bytes) k = refl

part-nwk : (tools : Tools) (me to a b aps : ℕ) (body : Body) → NeedsNoNwk body → part_of tools me to a aps body
    ≡ part_of tools me to b aps body
unfolding part_of
part-nwk tools me to a b aps (Saying bytes) k = absurd k
part-nwk tools me to a b aps (Clear control command) k = absurd k
part-nwk tools me to a b aps (Secret label key command) k = refl
part-nwk tools me to a b aps (Tunnelled device key command) k = absurd k
part-nwk tools me to a b aps (Telling key bytes) k = refl
part-nwk tools me to a b aps Leaving k = refl
part-nwk tools me to a b aps (Relayed bytes) k = refl

framed-same : (h : List Line) (number n : ℕ) (tools : Tools) (c : Setting) (to nwk aps nwk' aps' : ℕ) (secured : Bool)
    (row : Option NetKey) (body : Body) → next_counter Nwk (state_of h n) ≡ nwk' → next_counter Aps (state_of h n)
    ≡ aps' → ShownBy secured body
    → Taken h number n (framed tools c to nwk secured row (part_of tools c.me.eui to nwk aps body)).seals
    → framed tools c to nwk secured row (part_of tools c.me.eui to nwk aps body)
    ≡ framed tools c to nwk' secured row (part_of tools c.me.eui to nwk' aps' body)
framed-same h number n tools c to nwk aps nwk' aps' false row body e f g t =
    ap (λ p. plain_out c to p)
    (part-aps tools c.me.eui to nwk aps aps' body
    (λ x. part-taken h number n tools c.me.eui to nwk aps body t x ∙ f) ∙ part-nwk tools c.me.eui to nwk nwk' aps'
    body g)
framed-same h number n tools c to nwk aps nwk' aps' true None body e f g t = refl
framed-same h number n tools c to nwk aps nwk' aps' true (Some r) body e f g t =
    ap (λ p. secured_out tools c to nwk r p)
    (part-aps tools c.me.eui to nwk aps aps' body
    (λ x. part-taken h number n tools c.me.eui to nwk aps body (all-left (TakesCounter h) first _ parts) x ∙ f))
    ∙ ap (λ x. secured_out tools c to x r (part_of tools c.me.eui to x aps' body))
    ((all-right (TakesCounter h) first _ parts).0.0 ∙ e)
  where
    first : List Line
    first = map (Seal number n) (part_of tools c.me.eui to nwk aps body).seals

    last_seal : Term
    last_seal = Rattle.zb_model.specs.Frames.nwk_term (part_of tools c.me.eui to nwk aps body).control to c.me.short
        c.me.eui r.key r.sequence nwk (part_of tools c.me.eui to nwk aps body).bytes

    parts : AllByRecursion (TakesCounter h) (first ++ map (Seal number n) (last_seal ∷ []))
    parts = subst (λ ls. AllByRecursion (TakesCounter h) ls)
        (map-append (Seal number n) (part_of tools c.me.eui to nwk aps body).seals (last_seal ∷ [])) t

sent-same : (h : List Line) (number n : ℕ) (tools : Tools) (c : Setting) (k j : Counting) (send : Option Sending)
    → next_counter Nwk (state_of h n) ≡ j.counter Nwk → next_counter Aps (state_of h n) ≡ j.counter Aps → Shown send
    → Taken h number n (sent tools c (state_of h n) k send).seals → sent tools c (state_of h n) k send
    ≡ sent tools c (state_of h n) j send
sent-same h number n tools c k j None e f g t = refl
sent-same h number n tools c k j (Some send) e f g t = framed-same h number n tools c send.to (k.counter Nwk)
    (k.counter Aps) (j.counter Nwk) (j.counter Aps) send.secured (active_row (state_of h n)) send.body e f g t

out-by : (h : List Line) (number n : ℕ) (b : Bool) (x y : Outgoing) → (Taken h number n x.seals → x ≡ y)
    → Taken h number n (cond b x nothing_out).seals → cond b x nothing_out ≡ cond b y nothing_out
out-by h number n true x y k t = k t
out-by h number n false x y k t = refl

out-same : (h : List Line) (number n : ℕ) (tools : Tools) (c : Setting) (k j : Counting) (send : Option Sending)
    → next_counter Nwk (state_of h n) ≡ j.counter Nwk → next_counter Aps (state_of h n) ≡ j.counter Aps → Shown send
    → Taken h number n (out_of tools c (state_of h n) k send).seals → out_of tools c (state_of h n) k send
    ≡ out_of tools c (state_of h n) j send
unfolding out_of
out-same h number n tools c k j send e f g t = out-by h number n (may_seal (state_of h n) send)
    (sent tools c (state_of h n) k send) (sent tools c (state_of h n) j send)
    (sent-same h number n tools c k j send e f g) t

edits-same : (s : NodeState) (k j : Counting) (p : Plan)
    → ((layer : Layer) → reserve_edit k layer ≡ reserve_edit j layer) → flat_map (floor_edit k) p.accepts
    ≡ flat_map (floor_edit j) p.accepts → edits_by k (kept_moves s p) ≡ edits_by j (kept_moves s p) → edits_of s k p
    ≡ edits_of s j p
unfolding edits_of
edits-same s k j p r f m =
    ap (λ l. (l ++ reserve_edit k Aps) ++ (flat_map (floor_edit k) p.accepts ++ edits_by k (kept_moves s p))) (r Nwk)
    ∙ ap (λ l. (reserve_edit j Nwk ++ l) ++ (flat_map (floor_edit k) p.accepts ++ edits_by k (kept_moves s p))) (r Aps)
    ∙ ap (λ l. (reserve_edit j Nwk ++ reserve_edit j Aps) ++ (l ++ edits_by k (kept_moves s p))) f
    ∙ ap (λ l. (reserve_edit j Nwk ++ reserve_edit j Aps) ++ (flat_map (floor_edit j) p.accepts ++ l)) m

abbrev made : Plan → List Edit → Outgoing → Answer
made p es out =
    record {
      edits = es;
      accepts = p.accepts;
      place = p.place;
      refusal = refusal_of p;
      seals = out.seals;
      frame = out.frame;
    }

answer-parts : (tools : Tools) (c : Setting) (s : NodeState) (k j : Counting) (p : Plan) → edits_of s k p
    ≡ edits_of s j p → out_of tools c s k (sending_of p.outcome) ≡ out_of tools c s j (sending_of p.outcome)
    → answer_by tools c s k p ≡ answer_by tools c s j p
unfolding answer_by
answer-parts tools c s k j p e o = ap (λ es. made p es (out_of tools c s k (sending_of p.outcome))) e ∙ ap
    (λ x. made p (edits_of s j p) x) o

shown-of : (tools : Tools) (w : Schedule) (h : List Line) (number n : ℕ) (k : Counting) (p : Plan)
    → AllByRecursion (TakesCounter h) (group_with tools w h number n k p)
    → Taken h number n (out_of tools (setting_of w n) (state_of h n) k (sending_of p.outcome)).seals
unfolding answer_by
shown-of tools w h number n k p t = seals-taken h number n (answer_of tools w h n k p) t

pub answer-same : (tools : Tools) (w : Schedule) (h : List Line) (number n : ℕ) (k : Counting) (p : Plan)
    → ((key : Bytes) → is_started_key (state_of h n) key ≡ has_started h n key) → AcceptsFit (state_of h n) p.accepts
    → MovesFit (state_of h n).nets (kept_moves (state_of h n) p) → Shown (sending_of p.outcome)
    → IsCounted w h (group_of h number n (answer_by tools (setting_of w n) (state_of h n) k p))
    → answer_by tools (setting_of w n) (state_of h n) k p ≡ answer_by tools (setting_of w n) (state_of h n)
    (counting_of (setting_of w n) (state_of h n) p) p
unfolding counting_of
answer-same tools w h number n k p bridged accepts moves shown i =
    answer-parts tools (setting_of w n) (state_of h n) k j p
    (edits-same (state_of h n) k j p
    (λ layer. same-edits number n (reserve_edit k layer) (reserve_edit j layer)
    (sym (reserves-there tools w h number n k p layer) ∙ i.reserves layer ∙ reserves-called tools w h number n k p
    layer))
    (same-edits number n (flat_map (floor_edit k) p.accepts) (flat_map (floor_edit j) p.accepts)
    (sym (floors-there tools w h number n k p) ∙ i.floors ∙ floors-called tools w h number n k p ∙ ap
    (λ es. map (Changed number n) es)
    (sym (floors-own (setting_of w n) (state_of h n) (state_of h n) p.accepts accepts))))
    (moves-same h number n k j (state_of h n).nets (kept_moves (state_of h n) p) moves
    (sym (starts-there tools w h number n k p) ∙ i.starts ∙ starts-called tools w h number n k p)
    (starts-counted h number n j bridged (state_of h n).nets (kept_moves (state_of h n) p) moves refl)))
    (out-same h number n tools (setting_of w n) k j (sending_of p.outcome) refl refl shown
    (shown-of tools w h number n k p i.seals))
  where
    j : Counting
    j = counting_of (setting_of w n) (state_of h n) p
