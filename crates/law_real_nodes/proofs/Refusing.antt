-- Each rule refuses for the reason that it names, given what is true before each event of a run.
use Rattle.std.proofs.Common.{◌≡◌, ℕ, ◌≤◌, ◌<◌, min, Bool, true, false, cond, not, ◌&&◌, ◌||◌, List, [], ◌∷◌, ◌++◌, filter, Option, Some, None, option_to_list, is_some, nat_eq, nat_le, eq-eqb, leb-true, arith, refl, sym, ap, ◌∙◌, subst, ◌⊎◌, inl, inr}
use Rattle.std.proofs.Math.Nat.{min-eq_left, min-eq_right}
use Rattle.std.proofs.lemmas.Bool.{false≢true, and_parts, leb-false}
use Rattle.std.specs.List.{fold, list_any}
use Rattle.std.specs.Prelude.{unwrap_or}
use Rattle.zb_model.specs.Data.{Bytes, State, Joined, Offered, Became, Gone, NoKey, NotMember, WrongState, RowsFull, WrongHash, Policy, CounterSpent, Place, AtNwk, AtAps, Reason, Term, Received}
use Rattle.zb_model.specs.Lines.{Line}
use Rattle.zb_model.specs.State.{NetKey, LinkKey, PairKey, NodeState, is_centre, is_live_of, active_row, usable_active, usable_of, newest, current, offered, is_live, pair_of}
use Rattle.zb_model.specs.Tools.{Tools, NwkShown, NwkAuxiliary, ApsShown, ApsAuxiliary, LeaveShown, Leave, Other, NoCommand}
use Rattle.zb_model.specs.Rules.{Outcome, Stop, Does, Plan, Setting, refuse_if, found_or, choose, centre_of, is_declared}
use Rattle.zb_model.specs.OwnEvents.{request_key, verify_key, timer_in, member_timer, is_waiting, least, next_member, centre_timer, switch_over, share}
use Rattle.zb_model.specs.Commands.{Heard, row_is, is_verified_row, labelled, under_current, proves, verified_current, take_confirm, answer_request, take_request, answer_pair, take_app_request, take_verify, take_leave}
use Rattle.zb_model.specs.Judging.{Verdict, Not, Good, reject, need, senders_full, judge_net, Carrier, carrier, judge_security, judge_nwk, payload_of, candidates, chosen_row, aps_source, Unsealed, judge_aps}
use Rattle.zb_model.specs.Answer.{comes_to, heard_clear, heard_sealed, nwk_command, aps_command, sealed_part, by_security, aps_part, net_part, received_as, plan_of, refusal_of}
use Rattle.zb_model.specs.Readings.{state_of}
use Rattle.zb_model.specs.Play.{Schedule, setting_of}
use Rattle.law_run_lookups.specs.Granted.{Granted, HasNewest, HasRoom}
use Rattle.law_real_nodes.specs.Refusing.{RefusedFor, why_timer, why_rollover, why_switch, why_share, why_confirm, why_request, why_app_request, why_verify, IsNotFull, NoFillerDecides}

-- The steps of a rule

un : (R : Reason → Type 0) (bad : Bool) (reason : Reason) (rest : Outcome) → (bad ≡ true → R reason)
    → (bad ≡ false → RefusedFor R rest) → RefusedFor R (refuse_if bad reason rest)
unfolding refuse_if
un R true reason rest k f = k refl
un R false reason rest k f = f refl

gi : {A : Type 0} (R : Reason → Type 0) (o : Option A) (reason : Reason) (rest : A → Outcome) → (o ≡ None → R reason)
    → ((a : A) → o ≡ Some a → RefusedFor R (rest a)) → RefusedFor R (found_or o reason rest)
unfolding found_or
gi R None reason rest k f = k refl
gi R (Some a) reason rest k f = f a refl

ch : (R : Reason → Type 0) (test : Bool) (a b : Outcome) → (test ≡ true → RefusedFor R a)
    → (test ≡ false → RefusedFor R b) → RefusedFor R (choose test a b)
unfolding choose
ch R true a b f g = f refl
ch R false a b f g = g refl

not-true : (b : Bool) → not b ≡ true → b ≡ false
not-true false e = refl
not-true true e = absurd (false≢true e)

not-false : (b : Bool) → not b ≡ false → b ≡ true
not-false true e = refl
not-false false e = absurd (false≢true (sym e))

-- what is there isn't missing
not-none : {A : Type 0} (o : Option A) → o ≡ None → is_some o ≡ true → ⊥
not-none o e f = false≢true (sym (ap is_some e) ∙ f)

-- Events of a node's own

abbrev IsJoined : State → Type 0
IsJoined Joined = Unit {0}
IsJoined _ = ⊥

not-both : (g : State) → g ≡ Joined → g ≡ Offered → ⊥
not-both g e f = subst IsJoined (sym e ∙ f) tt

timer-by : (tools : Tools) (c : Setting) (s : NodeState) (g : State) → s.state ≡ g
    → (s.state ≡ Offered → is_some (offered s (centre_of c.stations)) ≡ true)
    → RefusedFor (why_timer s) (timer_in g tools c s)
unfolding request_key verify_key
timer-by tools c s Joined e there = gi (why_timer s) (current s (centre_of c.stations)) _ _
    (λ f x. absurd (not-both s.state e x)) (λ row f. un (why_timer s) _ _ _ (λ x. tt) (λ x. tt))
timer-by tools c s Offered e there = gi (why_timer s) (offered s (centre_of c.stations)) _ _
    (λ f x. absurd (not-none (offered s (centre_of c.stations)) f (there e)))
    (λ row f. un (why_timer s) _ _ _ (λ x. tt) (λ x. tt))
timer-by tools c s _ e there = tt

timer-why : (tools : Tools) (c : Setting) (s : NodeState)
    → (s.state ≡ Offered → is_some (offered s (centre_of c.stations)) ≡ true)
    → RefusedFor (why_timer s) (member_timer tools c s)
unfolding member_timer
timer-why tools c s there = gi (why_timer s) (usable_active s) _ _ (λ e x. e)
    (λ net e. timer-by tools c s s.state refl there)

-- the next member is live
lt_le : {n m : ℕ} → n < m → n ≤ m
lt_le less = omega (arith, less)

least-from : (o : Option ℕ) (n d : ℕ) → least o n ≡ Some d → (o ≡ Some d) ⊎ (n ≡ d)
least-from None n d e = inr (ap (λ (x : Option ℕ). unwrap_or x n) e)
least-from (Some m) n d e = by-order (nat_le m n) refl
  where
    is : min m n ≡ d
    is = ap (λ (x : Option ℕ). unwrap_or x d) e

    by-order : (b : Bool) → nat_le m n ≡ b → (Some m ≡ Some d) ⊎ (n ≡ d)
    by-order true less = inl (ap (λ x. Some x) (sym (min-eq_left (leb-true m n less)) ∙ is))
    by-order false less = inr (sym (min-eq_right (lt_le (leb-false m n less))) ∙ is)

abbrev next_in : Option ℕ → List LinkKey → Option ℕ
next_in best rows = fold (λ (b : Option ℕ) (r : LinkKey). least b r.partner) best rows

or-first : (a b : Bool) → a ≡ true → (a || b) ≡ true
or-first true b e = refl
or-first false b e = absurd (false≢true e)

or-later : (a b : Bool) → b ≡ true → (a || b) ≡ true
or-later true b e = refl
or-later false b e = e

live-here : (r : LinkKey) (d : ℕ) → is_waiting r ≡ true → r.partner ≡ d → is_live_of d r ≡ true
live-here r d w e = rw (and_parts r.live (not r.told) w).0 (eq-eqb r.partner d e)

next-live : (links : List LinkKey) (best : Option ℕ) (d : ℕ) → next_in best (filter is_waiting links) ≡ Some d
    → (best ≡ Some d) ⊎ (list_any (is_live_of d) links ≡ true)
next-live [] best d e = inl e
next-live (r ∷ rs) best d e = by-test (is_waiting r) refl e (next-live rs)
  where
    here : is_waiting r ≡ true → (best ≡ Some d) ⊎ (r.partner ≡ d) → (best ≡ Some d)
        ⊎ (list_any (is_live_of d) (r ∷ rs) ≡ true)
    here w (inl f) = inl f
    here w (inr f) = inr (or-first (is_live_of d r) (list_any (is_live_of d) rs) (live-here r d w f))

    behind : is_waiting r ≡ true → (least best r.partner ≡ Some d) ⊎ (list_any (is_live_of d) rs ≡ true)
        → (best ≡ Some d) ⊎ (list_any (is_live_of d) (r ∷ rs) ≡ true)
    behind w (inl f) = here w (least-from best r.partner d f)
    behind w (inr f) = inr (or-later (is_live_of d r) (list_any (is_live_of d) rs) f)

    passed : (best ≡ Some d) ⊎ (list_any (is_live_of d) rs ≡ true) → (best ≡ Some d)
        ⊎ (list_any (is_live_of d) (r ∷ rs) ≡ true)
    passed (inl f) = inl f
    passed (inr f) = inr (or-later (is_live_of d r) (list_any (is_live_of d) rs) f)

    by-test : (b : Bool) → is_waiting r ≡ b → next_in best (cond b (r ∷ filter is_waiting rs) (filter is_waiting rs))
        ≡ Some d
        → ((o : Option ℕ) (x : ℕ) → next_in o (filter is_waiting rs) ≡ Some x → (o ≡ Some x)
        ⊎ (list_any (is_live_of x) rs ≡ true))
        → (best ≡ Some d) ⊎ (list_any (is_live_of d) (r ∷ rs) ≡ true)
    by-test true w f more = behind w (more (least best r.partner) d f)
    by-test false w f more = passed (more best d f)

member-live : (s : NodeState) (d : ℕ) → next_member s ≡ Some d → is_live s d ≡ true
unfolding next_member is_live
member-live s d e = by-case (next-live s.links None d e)
  where
    by-case : (None ≡ Some d) ⊎ (list_any (is_live_of d) s.links ≡ true) → list_any (is_live_of d) s.links ≡ true
    by-case (inl f) = absurd (false≢true (ap is_some f))
    by-case (inr f) = f

-- the newest key, if there is an active row
abbrev Newest : NodeState → Type 0
Newest s = is_some (active_row s) ≡ true → is_some (newest s) ≡ true

no-newest : (s : NodeState) (net : NetKey) → Newest s → active_row s ≡ Some net → newest s ≡ None → ⊥
no-newest s net has e f = not-none (newest s) f (has (ap is_some e))

rollover-why : (c : Setting) (s : NodeState) → Newest s
    → ((d : ℕ) → is_live s d ≡ true → is_some (current s d) ≡ true) → RefusedFor (why_rollover s) (centre_timer c s)
unfolding centre_timer
rollover-why c s has live =
    gi (why_rollover s) (active_row s) _ _ (λ e. e)
    (λ net e. un (why_rollover s) _ _ _ (λ x. inl (not-true s.sending x)) (λ x.
    gi (why_rollover s) (next_member s) _ _ (λ f. inr f)
    (λ device f. gi (why_rollover s) (newest s) _ _ (λ g. absurd (no-newest s net has e g)) (λ new g.
    gi (why_rollover s) (current s device) _ _
    (λ i. absurd (not-none (current s device) i (live device (member-live s device f))))
    (λ row i. un (why_rollover s) _ _ _ (λ y. tt) (λ y. tt))))))

switch-why : (s : NodeState) → Newest s → RefusedFor (why_switch s) (switch_over s)
unfolding switch_over
switch-why s has =
    gi (why_switch s) (active_row s) _ _ (λ e. e)
    (λ net e. un (why_switch s) _ _ _ (λ x. tt) (λ x. un (why_switch s) _ _ _ (λ y. tt) (λ y.
    ch (why_switch s) s.sending _ _
    (λ z. gi (why_switch s) (newest s) _ _ (λ f. absurd (no-newest s net has e f)) (λ new f. tt)) (λ z. tt))))

share-why : (c : Setting) (s : NodeState) (device partner : ℕ)
    → ((d : ℕ) → is_live s d ≡ true → is_some (current s d) ≡ true)
    → RefusedFor (why_share s device partner) (share c s device partner)
unfolding share
share-why c s device partner live =
    gi (why_share s device partner) (active_row s) _ _ (λ e. tt)
    (λ net e. un (why_share s device partner) _ _ _ (λ x. not-true (is_live s device && is_live s partner) x) (λ x.
    gi (why_share s device partner) (pair_of s device partner) _ _ (λ f. tt) (λ pair f.
    gi (why_share s device partner) (current s device) _ _
    (λ g. absurd
    (not-none (current s device) g
    (live device
    (and_parts (is_live s device) (is_live s partner) (not-false (is_live s device && is_live s partner) x)).0)))
    (λ row g.
    un (why_share s device partner) _ _ _ (λ y. tt) (λ y. tt)))))

-- Commands

row-is-none : (o : Option LinkKey) → row_is o None ≡ false
row-is-none None = refl
row-is-none (Some r) = refl

-- the row that opened a command is there
not-missing : (a b : Option LinkKey) → row_is a b ≡ true → b ≡ None → ⊥
not-missing a b e f = false≢true (sym (ap (row_is a) f ∙ row-is-none a) ∙ e)

pub confirm-why : (c : Setting) (s : NodeState) (m : Heard) (status kind destination : ℕ)
    → RefusedFor (why_confirm c s m) (take_confirm c s m status kind destination)
unfolding take_confirm
confirm-why c s m status kind destination =
    un (why_confirm c s m) _ _ _ (λ x. tt)
    (λ x. un (why_confirm c s m) _ _ _ (λ y. inl y)
    (λ y. un (why_confirm c s m) _ _ _ (λ z. inr (not-true (row_is m.row (offered s (centre_of c.stations))) z))
    (λ z.
    gi (why_confirm c s m) (offered s (centre_of c.stations)) _ _
    (λ e. absurd
    (not-missing m.row (offered s (centre_of c.stations))
    (not-false (row_is m.row (offered s (centre_of c.stations))) z) e)) (λ row e. tt))))

answer-why : (c : Setting) (s : NodeState) (m : Heard) (device : ℕ) (draw : Option Bytes) (row : LinkKey)
    (o : Option LinkKey) → RefusedFor (why_request c s m) (answer_request c s device draw row o)
answer-why c s m device draw row (Some offer) = un (why_request c s m) _ _ _ (λ x. tt) (λ x. tt)
answer-why c s m device draw row None =
    un (why_request c s m) _ _ _ (λ x. tt)
    (λ x. gi (why_request c s m) _ _ _ (λ e. tt) (λ key e. un (why_request c s m) _ _ _ (λ y. tt) (λ y. tt)))

pub request-why : (c : Setting) (s : NodeState) (m : Heard) (draw : Option Bytes)
    → RefusedFor (why_request c s m) (take_request c s m draw)
unfolding take_request
request-why c s m draw =
    un (why_request c s m) _ _ _ (λ x. not-true (is_centre c.me.role && under_current s m) x) (λ x.
    gi (why_request c s m) (current s m.sender) _ _
    (λ e. absurd (not-missing m.row (current s m.sender) (opened x) e))
    (λ row e. answer-why c s m m.sender draw row (offered s m.sender)))
  where
    opened : not (is_centre c.me.role && under_current s m) ≡ false → row_is m.row (current s m.sender) ≡ true
    opened x =
        (and_parts (labelled Rattle.zb_model.specs.Data.ForData m.label) (row_is m.row (current s m.sender))
        (and_parts (is_centre c.me.role) (under_current s m)
        (not-false (is_centre c.me.role && under_current s m) x)).1).1

pair-why : (c : Setting) (s : NodeState) (m : Heard) (device partner : ℕ) (draw : Option Bytes) (row : LinkKey)
    (o : Option PairKey) → RefusedFor (why_app_request c s m partner) (answer_pair c s device partner draw row o)
pair-why c s m device partner draw row (Some pair) = un (why_app_request c s m partner) _ _ _ (λ x. tt) (λ x. tt)
pair-why c s m device partner draw row None = un (why_app_request c s m partner) _ _ _ (λ x. tt)
    (λ x. gi (why_app_request c s m partner) _ _ _ (λ e. tt)
    (λ key e. un (why_app_request c s m partner) _ _ _ (λ y. tt) (λ y. tt)))

verified-there : (o : Option LinkKey) → is_verified_row o ≡ true → is_some o ≡ true
verified-there None e = e
verified-there (Some r) e = refl

pub app-request-why : (c : Setting) (s : NodeState) (m : Heard) (draw : Option Bytes) (partner : ℕ)
    → RefusedFor (why_app_request c s m partner) (take_app_request c s m draw partner)
unfolding take_app_request
app-request-why c s m draw partner =
    un (why_app_request c s m partner) _ _ _
    (λ x. not-true
    (is_centre c.me.role && (under_current s m && not (nat_eq partner m.sender || nat_eq partner c.me.eui))) x)
    (λ x.
    un (why_app_request c s m partner) _ _ _ (λ y. tt) (λ y. un (why_app_request c s m partner) _ _ _ (λ z. tt) (λ z.
    gi (why_app_request c s m partner) (current s m.sender) _ _
    (λ e. absurd (not-none (current s m.sender) e (verified-there (current s m.sender) (verified z))))
    (λ row e. pair-why c s m m.sender partner draw row (pair_of s m.sender partner)))))
  where
    verified : not (is_verified_row (current s m.sender) && is_verified_row (current s partner)) ≡ false
        → is_verified_row (current s m.sender) ≡ true
    verified z =
        (and_parts (is_verified_row (current s m.sender)) (is_verified_row (current s partner))
        (not-false (is_verified_row (current s m.sender) && is_verified_row (current s partner)) z)).0

-- a key that a hash proves is there
not-proved : (tools : Tools) (hash : Bytes) (o : Option LinkKey) → o ≡ None → proves tools hash o ≡ true → ⊥
not-proved tools hash o e f = false≢true (sym (ap (proves tools hash) e) ∙ f)

pub verify-why : (tools : Tools) (c : Setting) (s : NodeState) (m : Heard) (kind device : ℕ) (hash : Bytes)
    → RefusedFor (why_verify tools s device hash) (take_verify tools c s m kind device hash)
unfolding take_verify
verify-why tools c s m kind device hash =
    un why _ _ _ (λ x. tt) (λ x. un why _ _ _ (λ x. tt) (λ x. un why _ _ _ (λ x. tt) (λ x. un why _ _ _ (λ x. tt) (λ x.
    ch why (proves tools hash (offered s device)) _ _
    (λ y. gi why (offered s device) _ _ (λ e. absurd (not-proved tools hash (offered s device) e y)) (λ row e. tt))
    (λ y. ch why (proves tools hash (verified_current s device)) _ _
    (λ z. gi why (verified_current s device) _ _ (λ e. absurd (not-proved tools hash (verified_current s device) e z))
    (λ row e. tt))
    (λ z. (y, z)))))))
  where
    why : Reason → Type 0
    why = why_verify tools s device hash

-- A delivered frame: rows-full at its NWK layer

abbrev Fair : {A : Type 0} → Verdict A → Type 0
Fair (Not at reason) = IsNotFull at (Some reason)
Fair (Good it) = Unit {0}

re : {A : Type 0} (bad : Bool) (at : Place) (reason : Reason) (rest : Verdict A)
    → (bad ≡ true → IsNotFull at (Some reason)) → (bad ≡ false → Fair rest) → Fair (reject bad at reason rest)
unfolding reject
re true at reason rest k f = k refl
re false at reason rest k f = f refl

ne : {A B : Type 0} (o : Option A) (at : Place) (reason : Reason) (rest : A → Verdict B) → IsNotFull at (Some reason)
    → ((a : A) → o ≡ Some a → Fair (rest a)) → Fair (need o at reason rest)
unfolding need
ne None at reason rest k f = k
ne (Some a) at reason rest k f = f a refl

abbrev Room : Setting → NodeState → Type 0
Room c s = (sequence : ℕ) (row : NetKey) → usable_of s sequence ≡ Some row → (source counter : ℕ)
    → is_declared c source ≡ true → senders_full source counter row ≡ false

judge-net-fair : (tools : Tools) (c : Setting) (s : NodeState) → Room c s → (bytes : Bytes) (aux : NwkAuxiliary)
    → Fair (judge_net tools c s bytes aux)
unfolding judge_net
judge-net-fair tools c s room bytes aux =
    ne (usable_of s aux.sequence) _ _ _ tt
    (λ row e. re _ _ _ _ (λ x. tt)
    (λ x. re _ _ _ _ (λ x. tt) (λ x. ne (tools.open_nwk bytes row.key) _ _ _ tt (λ t f.
    re _ _ _ _ (λ x. tt) (λ d. re _ _ _ _ (λ x. tt) (λ x.
    re _ _ _ _
    (λ y. absurd
    (false≢true
    (sym (room aux.sequence row e aux.source aux.counter (not-false (is_declared c aux.source) d)) ∙ y)))
    (λ y. tt)))))))

carrier-fair : (f : NwkShown) (v : Verdict Term) → Fair v → Fair (carrier f v)
carrier-fair f (Not at reason) k = k
carrier-fair f (Good t) k = tt

security-fair : (tools : Tools) (c : Setting) (s : NodeState) → Room c s
    → (bytes : Bytes) (f : NwkShown) (x : Option NwkAuxiliary) → Fair (judge_security tools c s bytes f x)
security-fair tools c s room bytes f None = re _ _ _ _ (λ x. tt) (λ x. tt)
security-fair tools c s room bytes f (Some aux) = carrier-fair f (judge_net tools c s bytes aux)
    (judge-net-fair tools c s room bytes aux)

judge-nwk-fair : (tools : Tools) (c : Setting) (s : NodeState) → Room c s → (bytes : Bytes)
    → Fair (judge_nwk tools c s bytes)
unfolding judge_nwk
judge-nwk-fair tools c s room bytes =
    ne (tools.read_nwk bytes) _ _ _ tt
    (λ f e. re _ _ _ _ (λ x. tt) (λ x. security-fair tools c s room bytes f f.auxiliary))

judge-aps-fair : (tools : Tools) (c : Setting) (s : NodeState) (f : NwkShown) (bytes : Bytes) (aux : ApsAuxiliary)
    → Fair (judge_aps tools c s f bytes aux)
unfolding judge_aps
judge-aps-fair tools c s f bytes aux =
    ne (aps_source c f aux) _ _ _ tt
    (λ source e. ne (chosen_row tools bytes source (candidates s source)) _ _ _ tt
    (λ row g. re _ _ _ _ (λ x. tt)
    (λ x. re _ _ _ _ (λ x. tt) (λ x. ne (tools.open_aps bytes row.key source) _ _ _ tt (λ t i. tt)))))

abbrev FairPlan : Plan → Type 0
FairPlan p = IsNotFull p.place (refusal_of p)

either-plan : (b : Bool) (p q : Plan) → FairPlan p → FairPlan q → FairPlan (cond b p q)
either-plan true p q f g = f
either-plan false p q f g = g

shown-fair : (tools : Tools) (c : Setting) (s : NodeState) (d : Option Bytes) (ts : List Term) (m : Heard)
    (o : Rattle.zb_model.specs.Tools.CommandShown) → FairPlan (aps_command tools c s d ts m o)
shown-fair tools c s d ts m (Rattle.zb_model.specs.Tools.CommandShown.Known command) = tt
shown-fair tools c s d ts m Rattle.zb_model.specs.Tools.CommandShown.Unknown = tt
shown-fair tools c s d ts m Rattle.zb_model.specs.Tools.CommandShown.Broken = tt

sealed-fair : (tools : Tools) (c : Setting) (s : NodeState) (d : Option Bytes) (nwk : Option Term) (a : ApsShown)
    (aux : ApsAuxiliary) (v : Verdict Unsealed) → Fair v → FairPlan (sealed_part tools c s d nwk a aux v)
sealed-fair tools c s d nwk a aux (Not at reason) j = j
sealed-fair tools c s d nwk a aux (Good u) j =
    either-plan a.is_command
    (aps_command tools c s d (option_to_list nwk ++ u.term ∷ []) (heard_sealed nwk aux u)
    (tools.read_command u.term.content)) (comes_to (option_to_list nwk ++ u.term ∷ []) AtAps (Does [] None))
    (shown-fair tools c s d (option_to_list nwk ++ u.term ∷ []) (heard_sealed nwk aux u)
    (tools.read_command u.term.content)) tt

by-fair : (tools : Tools) (c : Setting) (s : NodeState) (d : Option Bytes) (f : NwkShown) (nwk : Option Term)
    (a : ApsShown) (x : Option ApsAuxiliary) → FairPlan (by_security tools c s d f nwk a x)
by-fair tools c s d f nwk a None =
    either-plan a.is_command
    (aps_command tools c s d (option_to_list nwk) (heard_clear nwk) (tools.read_command a.body))
    (comes_to (option_to_list nwk) AtAps (Does [] None))
    (shown-fair tools c s d (option_to_list nwk) (heard_clear nwk) (tools.read_command a.body)) tt
by-fair tools c s d f nwk a (Some aux) =
    sealed-fair tools c s d nwk a aux (judge_aps tools c s f (payload_of f nwk) aux)
    (judge-aps-fair tools c s f (payload_of f nwk) aux)

part-fair : (tools : Tools) (c : Setting) (s : NodeState) (d : Option Bytes) (f : NwkShown) (nwk : Option Term)
    (o : Option ApsShown) → FairPlan (aps_part tools c s d f nwk o)
part-fair tools c s d f nwk None = tt
part-fair tools c s d f nwk (Some a) = by-fair tools c s d f nwk a a.auxiliary

leave-fair : (c : Setting) (term : Term) (options : ℕ)
    → FairPlan (comes_to (term ∷ []) AtNwk (take_leave c term options))
unfolding take_leave refuse_if
leave-fair c term options = by-test _
  where
    by-test : (b : Bool) → FairPlan (comes_to (term ∷ []) AtNwk (cond b (Stop Policy) (Does (Became Gone ∷ []) None)))
    by-test true = tt
    by-test false = tt

nwk-command-fair : (c : Setting) (term : Term) (l : LeaveShown) → FairPlan (nwk_command c term l)
nwk-command-fair c term (Leave options) = leave-fair c term options
nwk-command-fair c term Other = tt
nwk-command-fair c term NoCommand = tt

net-fair : (tools : Tools) (c : Setting) (s : NodeState) (d : Option Bytes) (f : NwkShown) (o : Option Term)
    → FairPlan (net_part tools c s d f o)
net-fair tools c s d f None = part-fair tools c s d f None (tools.read_aps f.body)
net-fair tools c s d f (Some t) =
    either-plan f.is_command (nwk_command c t (tools.read_leave t.content))
    (aps_part tools c s d f (Some t) (tools.read_aps t.content))
    (nwk-command-fair c t (tools.read_leave t.content))
    (part-fair tools c s d f (Some t) (tools.read_aps t.content))

received-fair : (tools : Tools) (c : Setting) (s : NodeState) (d : Option Bytes) (v : Verdict Carrier) → Fair v
    → FairPlan (received_as tools c s d v)
received-fair tools c s d (Not at reason) j = j
received-fair tools c s d (Good x) j = net-fair tools c s d x.frame x.term

delivery-fair : (tools : Tools) (c : Setting) (s : NodeState) → Room c s → (bytes : Bytes) (d : Option Bytes)
    → FairPlan (plan_of tools c s (Received bytes d))
unfolding plan_of
delivery-fair tools c s room bytes d = received-fair tools c s d (judge_nwk tools c s bytes)
    (judge-nwk-fair tools c s room bytes)

-- all of them

pub none-decides : (tools : Tools) (w : Schedule) (h : List Line) (n : ℕ) → Granted w h n → HasRoom w h n
    → HasNewest (state_of h n) (setting_of w n) n → NoFillerDecides tools w h n
none-decides tools w h n g room has = record {
  timer = λ m. timer-why tools (setting_of w n) (state_of h n) (λ e. g.offered_row m e);
  rollover = λ m. rollover-why (setting_of w n) (state_of h n) has (λ d e. g.current_row m d e);
  switch = switch-why (state_of h n) has;
  shared = λ m device partner. share-why (setting_of w n) (state_of h n) device partner (λ d e. g.current_row m d e);
  room = λ bytes draw. delivery-fair tools (setting_of w n) (state_of h n) room bytes draw;
}
