-- The lines of a group fit, in their order.
use Rattle.std.proofs.Common.{◌≡◌, ℕ, ◌<◌, ◌≤◌, ◌+◌, ◌^◌, min, max, Bool, true, false, cond, not, ◌&&◌, ◌||◌, List, [], ◌∷◌, ◌++◌, map, filter, length, Option, Some, None, option_map, option_to_list, find, nat_eq, nat_le, fold, flat_map, refl, sym, ap, ◌∙◌, subst, arith, eqb-true, eq-eqb, le_refl, append_assoc, leb-false, zero-le}
use Rattle.std.specs.List.{AllByRecursion}
use Rattle.zb_model.specs.Data.{Bytes, Nwk, Aps, Label, ForData, ForNetwork, ForTransport, ForLoad, Term, Move, Draw, DropNet, DropLink, Install, Active, Row, Pair, Became, Live, Removed, Roll, Told, Untold, Edit, Floor, Place, Reason}
use Rattle.zb_model.specs.Lines.{Line, Changed, Accept, Seal}
use Rattle.zb_model.specs.State.{greatest_counter, NetKey, NodeState, active_row, next_counter, applied, applied_all, after_accepting, after_sealing}
use Rattle.zb_model.specs.Tools.{Tools}
use Rattle.zb_model.specs.Frames.{nwk_control, nwk_term, aps_term, aps_control, aps_label}
use Rattle.zb_model.specs.Rules.{Body, Saying, Clear, Secret, Tunnelled, Telling, Leaving, Relayed, Sending, Plan, Setting}
use Rattle.zb_model.specs.Answer.{Answer, Counting, Part, has_aps_seal, seals_at, part_of, framed, sent, may_seal, out_of, start_edit, move_edits, floor_edit, moves_of, sending_of, changes, edits_of, answer_by, first_counter, activated, start_for, is_started_key, counting_of, half, nothing_out}
use Rattle.zb_model.specs.Readings.{state_of, after, speaker, air}
use Rattle.zb_model.specs.Play.{commit_lines, refuse_lines, send_lines, stored_lines, told_lines, group_of, cut_of, fallen_line, Armed, NotArmed, StopAfter, FailAt, Calls, stands}
use Rattle.zb_model.specs.Claims.{Each}
use Rattle.law_run.proofs.Basics.{each-append}
use Rattle.law_run.proofs.Nets.{On, Gives}
use Rattle.law_run.proofs.Counters.{SealFitsAt, SealFits, LineFits, Commanded}
use Rattle.law_run.proofs.FreshLines.{all-append}
use Rattle.law_run.proofs.Groups.{NoSeal, plain, stored-plain, accepts-plain, refuse-plain, send-plain, lines-keep, changed-state, ApsGives, Ready, Gentle, ready-applied, ready-accepted, may-seal, applied-all-append, reserves, ready}

-- The changes after the reserves are gentle

abbrev StartFits : NodeState → Option ℕ → Type 0
StartFits s None = Unit {0}
StartFits s (Some v) = v ≤ next_counter Nwk s

first-fits : (s : NodeState) (b : Bool) → cond b 0 (next_counter Nwk s) ≤ next_counter Nwk s
first-fits s true = zero-le
first-fits s false = le_refl (next_counter Nwk s)

start-by : (s : NodeState) (b : Bool) → StartFits s (cond b None (Some (first_counter s)))
start-by s true = tt
start-by s false = first-fits s (nat_le half (next_counter Nwk s))

start-fits : (s : NodeState) (o : Option Bytes) → StartFits s (start_for s o)
start-fits s None = tt
start-fits s (Some key) = start-by s (is_started_key s key)

start-gentle : (s : NodeState) (key : Bytes) (o : Option ℕ) → StartFits s o
    → AllByRecursion (Gentle s) (start_edit key o)
start-gentle s key None f = tt
start-gentle s key (Some v) f = (f, tt)

move-gentle : (s : NodeState) (k : Counting) (m : Move) → StartFits s k.start
    → AllByRecursion (Gentle s) (move_edits k m)
move-gentle s k (Active key) f = (tt, start-gentle s key k.start f)
move-gentle s k (Draw key) f = (tt, tt)
move-gentle s k (DropNet key) f = (tt, tt)
move-gentle s k (DropLink p key) f = (tt, tt)
move-gentle s k (Install key q) f = (tt, tt)
move-gentle s k (Row p key t) f = (tt, tt)
move-gentle s k (Pair a b key) f = (tt, tt)
move-gentle s k (Became g) f = (tt, tt)
move-gentle s k (Live d) f = (tt, tt)
move-gentle s k (Removed d) f = (tt, tt)
move-gentle s k (Roll b) f = (tt, tt)
move-gentle s k (Told d) f = (tt, tt)
move-gentle s k (Untold d) f = (tt, tt)

moves-gentle : (s : NodeState) (k : Counting) → StartFits s k.start → (ms : List Move)
    → AllByRecursion (Gentle s) (flat_map (move_edits k) ms)
moves-gentle s k f [] = tt
moves-gentle s k f (m ∷ ms) = all-append (Gentle s) (move_edits k m) (flat_map (move_edits k) ms)
    (move-gentle s k m f) (moves-gentle s k f ms)

floor-gentle : (s : NodeState) (t : Term) (o : Option ℕ)
    → AllByRecursion (Gentle s) (option_to_list (option_map (Floor t.layer t.base t.source) o))
floor-gentle s t None = tt
floor-gentle s t (Some v) = (tt, tt)

floors-gentle : (s : NodeState) (k : Counting) (ts : List Term)
    → AllByRecursion (Gentle s) (flat_map (floor_edit k) ts)
floors-gentle s k [] = tt
floors-gentle s k (t ∷ ts) = all-append (Gentle s) (floor_edit k t) (flat_map (floor_edit k) ts)
    (floor-gentle s t (k.floor t.layer)) (floors-gentle s k ts)

abbrev rest_of : NodeState → Counting → Plan → List Edit
rest_of s k p = flat_map (floor_edit k) p.accepts ++ flat_map (move_edits k) (filter (changes s) (moves_of p.outcome))

rest-gentle : (s : NodeState) (k : Counting) (p : Plan) → StartFits s k.start
    → AllByRecursion (Gentle s) (rest_of s k p)
rest-gentle s k p f = all-append (Gentle s) (flat_map (floor_edit k) p.accepts)
    (flat_map (move_edits k) (filter (changes s) (moves_of p.outcome))) (floors-gentle s k p.accepts)
    (moves-gentle s k f (filter (changes s) (moves_of p.outcome)))

ready-all : (s0 : NodeState) (send : Option Sending) (es : List Edit) → AllByRecursion (Gentle s0) es
    → (s : NodeState) → Ready s0 send s → Ready s0 send (applied_all es s)
unfolding applied_all
ready-all s0 send [] g s r = r
ready-all s0 send (e ∷ es) g s r = ready-all s0 send es g.1 (applied e s) (ready-applied s0 send e g.0 s r)

-- the state after all changes of an answer is ready for its seals
changed-ready : (c : Setting) (s : NodeState) (p : Plan) → 0 < c.me.out_block → Commanded s
    → may_seal s (sending_of p.outcome) ≡ true
    → Ready s (sending_of p.outcome) (applied_all (edits_of s (counting_of c s p) p) s)
unfolding edits_of counting_of
changed-ready c s p block o m =
    subst (λ x. Ready s (sending_of p.outcome) x)
    (sym (applied-all-append (reserves c s (sending_of p.outcome)) (rest_of s (counting_of c s p) p) s))
    (ready-all s (sending_of p.outcome) (rest_of s (counting_of c s p) p)
    (rest-gentle s (counting_of c s p) p (start-fits s (activated s (filter (changes s) (moves_of p.outcome)))))
    (applied_all (reserves c s (sending_of p.outcome)) s) (ready c s (sending_of p.outcome) block o m))

-- the lines between the changes and the seals keep it

commit-keeps : (Φ : NodeState → Type 0) (number n : ℕ) (es : List Edit)
    → AllByRecursion (λ l. (s : NodeState) → Φ s → Φ (after l s)) (commit_lines number n es)
unfolding after
commit-keeps Φ number n [] = tt
commit-keeps Φ number n (e ∷ es) = (λ s p. p, tt)

refuse-keeps : (Φ : NodeState → Type 0) (number n : ℕ) (place : Place) (r : Option Reason)
    → AllByRecursion (λ l. (s : NodeState) → Φ s → Φ (after l s)) (refuse_lines number n place r)
unfolding after
refuse-keeps Φ number n place None = tt
refuse-keeps Φ number n place (Some r) = (λ s p. p, tt)

accepts-keep : (Φ : NodeState → Type 0) → ((t : Term) (s : NodeState) → Φ s → Φ (after_accepting t s))
    → (number n : ℕ) (ts : List Term) → AllByRecursion (λ l. (s : NodeState) → Φ s → Φ (after l s))
    (map (Accept number n) ts)
unfolding after
accepts-keep Φ k number n [] = tt
accepts-keep Φ k number n (t ∷ ts) = (λ s p. k t s p, accepts-keep Φ k number n ts)

pub stored-state : (h : List Line) (number n : ℕ) (a : Answer) → state_of (h ++ stored_lines number n a) n
    ≡ applied_all a.edits (state_of h n)
unfolding stored_lines
stored-state h number n a =
    ap (λ x. state_of x n) (sym (append_assoc h (map (Changed number n) a.edits) (commit_lines number n a.edits)))
    ∙ commit-same (h ++ map (Changed number n) a.edits) number n a.edits
    ∙ changed-state number n h a.edits
  where
    commit-same : (h : List Line) (number n : ℕ) (es : List Edit) → state_of (h ++ commit_lines number n es) n
        ≡ state_of h n
    commit-same h number n es = lines-keep (λ s. s ≡ state_of h n) n h (commit_lines number n es)
        (commit-keeps (λ s. s ≡ state_of h n) number n es) refl

-- The seals

abbrev SealsFit : List Line → ℕ → ℕ → List Term → Type 0
SealsFit h number n ts = Each LineFits h (map (Seal number n) ts)

no-nwk-label : (label : Label) → aps_control label ≡ nwk_control → ⊥
no-nwk-label ForTransport e = absurd (Rattle.std.proofs.Common.ne_of_lt (omega arith) (sym e))
no-nwk-label ForLoad e = absurd (Rattle.std.proofs.Common.ne_of_lt (omega arith) (sym e))
no-nwk-label ForData e = absurd (Rattle.std.proofs.Common.ne_of_lt (omega arith) e)
no-nwk-label ForNetwork e = absurd (Rattle.std.proofs.Common.ne_of_lt (omega arith) e)

-- what a node's seals need: its EUI, and the two counters
pub record Facts (me n nwk aps : ℕ) : Type 0 where
  pub mine : me ≡ n
  pub eui : n < 2 ^ 64

aps-fits : (me n nwk aps : ℕ) → Facts me n nwk aps → (h : List Line) (front : Bytes) (label : Label)
    (key content : Bytes) → aps < greatest_counter → ApsGives aps (state_of h n)
    → SealFits n (aps_term front label key me aps content) (state_of h n)
unfolding SealFitsAt
aps-fits me n nwk aps f h front label key content small g =
    record { source = f.mine; small = small; eui = f.eui; fits = (no-nwk-label label, sym g.0, g.1) }

one-fits : (me n nwk aps : ℕ) → Facts me n nwk aps → (h : List Line) (number : ℕ) (front : Bytes) (label : Label)
    (key content : Bytes) → aps < greatest_counter → ApsGives aps (state_of h n)
    → SealsFit h number n (aps_term front label key me aps content ∷ [])
unfolding speaker
one-fits me n nwk aps f h number front label key content small g =
    (aps-fits me n nwk aps f h front label key content small g, tt)

part-fits : (tools : Tools) (me n to nwk aps : ℕ) → Facts me n nwk aps → (h : List Line) (number : ℕ) (body : Body)
    → (has_aps_seal body ≡ true → (aps < greatest_counter) × ApsGives aps (state_of h n))
    → SealsFit h number n (part_of tools me to nwk aps body).seals
unfolding part_of
part-fits tools me n to nwk aps f h number (Saying bytes) g = tt
part-fits tools me n to nwk aps f h number (Clear control command) g = tt
part-fits tools me n to nwk aps f h number (Secret label key command) g =
    one-fits me n nwk aps f h number (Rattle.zb_model.specs.Frames.sealed_command) label key (tools.spelled command)
    ((g refl).0) ((g refl).1)
part-fits tools me n to nwk aps f h number (Tunnelled device key command) g =
    one-fits me n nwk aps f h number (Rattle.zb_model.specs.Frames.sealed_command) ForTransport key
    (tools.spelled command) ((g refl).0) ((g refl).1)
part-fits tools me n to nwk aps f h number (Telling key bytes) g =
    one-fits me n nwk aps f h number
    (Rattle.zb_model.specs.Frames.data_front Rattle.zb_model.specs.Frames.sealed_data) ForData key bytes ((g refl).0)
    ((g refl).1)
part-fits tools me n to nwk aps f h number Leaving g = tt
part-fits tools me n to nwk aps f h number (Relayed bytes) g = tt

-- an APS seal leaves the network rows
part-keeps : (tools : Tools) (me to nwk aps number n : ℕ) (P : NetKey → Type 0) (key : Bytes) (body : Body)
    → AllByRecursion (λ l. (s : NodeState) → On P key s.nets → On P key (after l s).nets)
    (map (Seal number n) (part_of tools me to nwk aps body).seals)
unfolding part_of after after_sealing
part-keeps tools me to nwk aps number n P key (Saying bytes) = tt
part-keeps tools me to nwk aps number n P key (Clear control command) = tt
part-keeps tools me to nwk aps number n P key (Secret label k command) = (λ s p. p, tt)
part-keeps tools me to nwk aps number n P key (Tunnelled device k command) = (λ s p. p, tt)
part-keeps tools me to nwk aps number n P key (Telling k bytes) = (λ s p. p, tt)
part-keeps tools me to nwk aps number n P key Leaving = tt
part-keeps tools me to nwk aps number n P key (Relayed bytes) = tt

seals-append : (number n : ℕ) (ts us : List Term) → map (Seal number n) (ts ++ us) ≡ map (Seal number n) ts
    ++ map (Seal number n) us
seals-append number n [] us = refl
seals-append number n (t ∷ ts) us = ap (λ l. Seal number n t ∷ l) (seals-append number n ts us)

nwk-fits : (h : List Line) (number n control to from nwk sequence me aps : ℕ) (key bytes : Bytes) → Facts me n nwk aps
    → nwk < greatest_counter → On (Gives nwk) key (state_of h n).nets
    → SealsFit h number n (nwk_term control to from me key sequence nwk bytes ∷ [])
unfolding SealFitsAt speaker
nwk-fits h number n control to from nwk sequence me aps key bytes f small g =
    (record { source = f.mine; small = small; eui = f.eui; fits = (refl, refl, g) }, tt)

framed-fits : (tools : Tools) (c : Setting) (n to nwk aps : ℕ) → Facts c.me.eui n nwk aps
    → (h : List Line) (number : ℕ) (body : Body) (secured : Bool) (row : Option NetKey)
    → (has_aps_seal body ≡ true → (aps < greatest_counter) × ApsGives aps (state_of h n))
    → (secured ≡ true → (r : NetKey) → row ≡ Some r → (nwk < greatest_counter)
    × On (Gives nwk) r.key (state_of h n).nets)
    → SealsFit h number n (framed tools c to nwk secured row (part_of tools c.me.eui to nwk aps body)).seals
framed-fits tools c n to nwk aps f h number body false row g k = part-fits tools c.me.eui n to nwk aps f h number body
    g
framed-fits tools c n to nwk aps f h number body true None g k = tt
framed-fits tools c n to nwk aps f h number body true (Some r) g k =
    subst (λ ls. Each LineFits h ls) (sym (seals-append number n part.seals (t ∷ [])))
    (each-append LineFits h (map (Seal number n) part.seals) (map (Seal number n) (t ∷ []))
    (part-fits tools c.me.eui n to nwk aps f h number body g)
    (nwk-fits (h ++ map (Seal number n) part.seals) number n part.control to c.me.short nwk r.sequence c.me.eui aps
    r.key part.bytes f ((k refl r refl).0)
    (lines-keep (λ s. On (Gives nwk) r.key s.nets) n h (map (Seal number n) part.seals)
    (part-keeps tools c.me.eui to nwk aps number n (Gives nwk) r.key body) ((k refl r refl).1))))
  where
    part : Part
    part = part_of tools c.me.eui to nwk aps body

    t : Term
    t = nwk_term part.control to c.me.short c.me.eui r.key r.sequence nwk part.bytes

sent-fits : (tools : Tools) (c : Setting) (n : ℕ) (s0 : NodeState) (k : Counting)
    → Facts c.me.eui n (k.counter Nwk) (k.counter Aps) → (h : List Line) (number : ℕ) (send : Option Sending)
    → (seals_at Aps send ≡ true → (k.counter Aps < greatest_counter) × ApsGives (k.counter Aps) (state_of h n))
    → (seals_at Nwk send ≡ true → (r : NetKey) → active_row s0 ≡ Some r → (k.counter Nwk < greatest_counter)
    × On (Gives (k.counter Nwk)) r.key (state_of h n).nets)
    → SealsFit h number n (sent tools c s0 k send).seals
sent-fits tools c n s0 k f h number None a b = tt
sent-fits tools c n s0 k f h number (Some send) a b = framed-fits tools c n send.to (k.counter Nwk) (k.counter Aps) f
    h number send.body send.secured (active_row s0) a b

out-fits : (tools : Tools) (c : Setting) (n : ℕ) (s0 : NodeState) (k : Counting) (h : List Line) (number : ℕ)
    (send : Option Sending) (b : Bool)
    → (b ≡ true → SealsFit h number n (sent tools c s0 k send).seals)
    → SealsFit h number n (cond b (sent tools c s0 k send) nothing_out).seals
out-fits tools c n s0 k h number send true g = g refl
out-fits tools c n s0 k h number send false g = tt

-- The whole group

pub group-fits : (tools : Tools) (c : Setting) (h h0 : List Line) (number n : ℕ) (p : Plan) → c.me.eui ≡ n → n
    < 2 ^ 64 → 0 < c.me.out_block → Commanded (state_of h n)
    → Each LineFits h (group_of h0 number n (answer_by tools c (state_of h n) (counting_of c (state_of h n) p) p))
unfolding group_of told_lines answer_by out_of counting_of
group-fits tools c h h0 number n p mine eui block o =
    each-append LineFits h stored (accepts ++ (refusal ++ (seals ++ send))) (plain h stored (stored-plain number n a))
    (each-append LineFits (h ++ stored) accepts (refusal ++ (seals ++ send))
    (plain (h ++ stored) accepts (accepts-plain number n p.accepts))
    (each-append LineFits ((h ++ stored) ++ accepts) refusal (seals ++ send)
    (plain ((h ++ stored) ++ accepts) refusal (refuse-plain number n a.place a.refusal))
    (each-append LineFits h3 seals send
    (out-fits tools c n s k h3 number sending (may_seal s sending)
    (λ m. sent-fits tools c n s k (record { mine = mine; eui = eui }) h3 number sending
    (λ e. ((may-seal s sending m).aps e, (ready3 m).aps e))
    (λ e r found. ((may-seal s sending m).net e, (ready3 m).net e r found))))
    (plain (h3 ++ seals) send (send-plain number (Some n) (length (air h0) + 1) a.frame)))))
  where
    s : NodeState
    s = state_of h n

    k : Counting
    k = counting_of c s p

    sending : Option Sending
    sending = sending_of p.outcome

    a : Answer
    a = answer_by tools c s k p

    stored : List Line
    stored = stored_lines number n a

    accepts : List Line
    accepts = map (Accept number n) p.accepts

    refusal : List Line
    refusal = refuse_lines number n a.place a.refusal

    seals : List Line
    seals = map (Seal number n) a.seals

    send : List Line
    send = send_lines number (Some n) (length (air h0) + 1) a.frame

    h3 : List Line
    h3 = ((h ++ stored) ++ accepts) ++ refusal

    ready1 : may_seal s sending ≡ true → Ready s sending (state_of (h ++ stored) n)
    ready1 m = subst (λ x. Ready s sending x) (sym (stored-state h number n a)) (changed-ready c s p block o m)

    ready2 : may_seal s sending ≡ true → Ready s sending (state_of ((h ++ stored) ++ accepts) n)
    ready2 m = lines-keep (λ x. Ready s sending x) n (h ++ stored) accepts
        (accepts-keep (λ x. Ready s sending x) (λ t x r. ready-accepted s sending t x r) number n p.accepts) (ready1 m)

    ready3 : may_seal s sending ≡ true → Ready s sending (state_of h3 n)
    ready3 m = lines-keep (λ x. Ready s sending x) n ((h ++ stored) ++ accepts) refusal
        (refuse-keeps (λ x. Ready s sending x) number n a.place a.refusal) (ready2 m)

-- the rest of a group that is cut has no seal
pub fallen-plain : (armed : Armed) (number n : ℕ) → AllByRecursion NoSeal (fallen_line armed number n)
unfolding NoSeal
fallen-plain NotArmed number n = tt
fallen-plain (StopAfter calls torn) number n = (tt, tt)
fallen-plain (FailAt call) number n = (tt, tt)

cut-part : (b : Bool) (number n : ℕ) (a : Answer) → AllByRecursion NoSeal (cond b (stored_lines number n a) [])
cut-part true number n a = stored-plain number n a
cut-part false number n a = tt

pub cut-plain : (armed : Armed) (calls : Calls) (number n : ℕ) (a : Answer)
    → AllByRecursion NoSeal (cut_of armed calls number n a)
unfolding cut_of
cut-plain armed calls number n a = all-append NoSeal (cond (stands armed calls) (stored_lines number n a) [])
    (fallen_line armed number n) (cut-part (stands armed calls) number n a) (fallen-plain armed number n)
