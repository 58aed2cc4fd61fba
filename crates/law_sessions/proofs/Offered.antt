-- An answer that neither draws an offered key nor is refused because there is none is the same with any key that may
-- be drawn.
use Rattle.std.proofs.Common.{◌≡◌, ℕ, Bool, true, false, not, cond, List, [], ◌∷◌, ◌++◌, Option, Some, None, option_to_list, refl, ap, ◌∙◌}
use Rattle.std.specs.Prelude.{◌&&◌, ◌||◌, nat_eq}
use Rattle.law_sessions.specs.Offers.{IsFree, IsUndrawn}
use Rattle.zb_model.specs.Answer.{answer, answer_by, aps_command, aps_part, by_security, clear_part, comes_to, counting_of, heard_clear, heard_sealed, net_part, nwk_command, plan_of, received_as, sealed_part}
use Rattle.zb_model.specs.Commands.{Heard, answer_pair, answer_request, greater, is_verified_row, lesser, send_app_key, send_link_key, take_app_request, take_command, take_request, under_current}
use Rattle.zb_model.specs.Data.{AtAps, Bytes, Command, ConfirmKey, CounterSpent, Draw, NoDraw, NotMember, Pair, Policy, Reason, Received, RemoveDevice, RequestApp, RequestLink, Row, RowsFull, SwitchKey, Term, TransportApp, TransportLink, TransportNet, Tunnel, Unverified, UpdateDevice, VerifyKey, WrongState}
use Rattle.zb_model.specs.Judging.{Carrier, Good, Not, Unsealed, Verdict, judge_aps, judge_nwk, payload_of}
use Rattle.zb_model.specs.Rules.{Outcome, Plan, Setting, both_spent, found_or, links_full, pairs_full, refuse_if, refuse_unless, unless_held}
use Rattle.zb_model.specs.State.{LinkKey, NodeState, PairKey as PairRow, current, is_centre, is_live, offered, pair_of}
use Rattle.zb_model.specs.Tools.{ApsAuxiliary, ApsShown, Broken, CommandShown, Known, NwkShown, Tools, Unknown}

-- a rule that is offered a key
abbrev Same : Option Bytes → Bytes → (Option Bytes → Outcome) → Type 0
Same d key f = IsUndrawn (f d) → f (Some key) ≡ f d

same_unless : (d : Option Bytes) (key : Bytes) (bad : Bool) (reason : Reason) (f : Option Bytes → Outcome)
    → Same d key f → Same d key (λ x. refuse_if bad reason (f x))
unfolding refuse_if
same_unless d key true reason f k = λ u. refl
same_unless d key false reason f k = k

same_found : {A : Type 0} (d : Option Bytes) (key : Bytes) (o : Option A) (reason : Reason)
    (f : A → Option Bytes → Outcome) → ((a : A) → Same d key (f a))
    → Same d key (λ x. found_or o reason (λ a. f a x))
unfolding found_or
same_found d key None reason f k = λ u. refl
same_found d key (Some a) reason f k = k a

-- where a key is asked for
same_drawn : (key : Bytes) (o p : Option Bytes) (rest : Bytes → Outcome) → p ≡ Some key
    → ((j : Bytes) → IsUndrawn (rest j) → rest key ≡ rest j) → IsUndrawn (found_or o NoDraw rest)
    → found_or p NoDraw rest ≡ found_or o NoDraw rest
unfolding found_or
same_drawn key None p rest free k u = absurd u
same_drawn key (Some j) p rest free k u = ap (λ q. found_or q NoDraw rest) free ∙ k j u

-- a draw comes only where the counters aren't spent
same_spent : (b : Bool) (x y : Outcome) → (IsUndrawn x → ⊥) → IsUndrawn (refuse_if b CounterSpent x)
    → refuse_if b CounterSpent y ≡ refuse_if b CounterSpent x
unfolding refuse_if
same_spent true x y never u = refl
same_spent false x y never u = absurd (never u)

request_same : (c : Setting) (s : NodeState) (device : ℕ) (d : Option Bytes) (key : Bytes) (row : LinkKey)
    (o : Option LinkKey) → IsFree s key → Same d key (λ x. answer_request c s device x row o)
request_same c s device d key row (Some offer) free = λ u. refl
request_same c s device d key row None free =
    same_unless d key (links_full s) RowsFull (λ x. found_or (unless_held s x) NoDraw rest)
    (same_drawn key (unless_held s d) (unless_held s (Some key)) rest free
    (λ j. same_spent (both_spent s) (sent j) (sent key) (λ u. u)))
  where
    sent : Bytes → Outcome
    sent j = send_link_key c s device j (Draw j ∷ Row device j Unverified ∷ []) row

    rest : Bytes → Outcome
    rest j = refuse_if (both_spent s) CounterSpent (sent j)

pair_same : (c : Setting) (s : NodeState) (device partner : ℕ) (d : Option Bytes) (key : Bytes) (row : LinkKey)
    (o : Option PairRow) → IsFree s key → Same d key (λ x. answer_pair c s device partner x row o)
pair_same c s device partner d key row (Some pair) free = λ u. refl
pair_same c s device partner d key row None free =
    same_unless d key (pairs_full s) RowsFull (λ x. found_or (unless_held s x) NoDraw rest)
    (same_drawn key (unless_held s d) (unless_held s (Some key)) rest free
    (λ j. same_spent (both_spent s) (sent j) (sent key) (λ u. u)))
  where
    sent : Bytes → Outcome
    sent j = send_app_key c device partner j
        (Draw j ∷ Pair (lesser device partner) (greater device partner) j ∷ []) row

    rest : Bytes → Outcome
    rest j = refuse_if (both_spent s) CounterSpent (sent j)

-- ---- the commands

link_same : (c : Setting) (s : NodeState) (d : Option Bytes) (key : Bytes) (m : Heard) → IsFree s key
    → Same d key (λ x. take_request c s m x)
unfolding take_request
link_same c s d key m free =
    same_unless d key (not (is_centre c.me.role && under_current s m)) Policy
    (λ x. found_or (current s m.sender) Policy
    (λ row. answer_request c s m.sender x row (offered s m.sender)))
    (same_found d key (current s m.sender) Policy
    (λ row x. answer_request c s m.sender x row (offered s m.sender))
    (λ row. request_same c s m.sender d key row (offered s m.sender) free))

app_same : (c : Setting) (s : NodeState) (d : Option Bytes) (key : Bytes) (m : Heard) (partner : ℕ) → IsFree s key
    → Same d key (λ x. take_app_request c s m x partner)
unfolding take_app_request
app_same c s d key m partner free =
    same_unless d key
    (not (is_centre c.me.role && (under_current s m && not (nat_eq partner m.sender || nat_eq partner c.me.eui))))
    Policy
    (λ x. refuse_unless (is_live s partner) NotMember (refuse_if unverified WrongState (found_or (current s m.sender)
    Policy (λ row. answer_pair c s m.sender partner x row (pair_of s m.sender partner)))))
    (same_unless d key (not (is_live s partner)) NotMember
    (λ x. refuse_if unverified WrongState (found_or (current s m.sender) Policy
    (λ row. answer_pair c s m.sender partner x row (pair_of s m.sender partner))))
    (same_unless d key unverified WrongState
    (λ x. found_or (current s m.sender) Policy
    (λ row. answer_pair c s m.sender partner x row (pair_of s m.sender partner)))
    (same_found d key (current s m.sender) Policy
    (λ row x. answer_pair c s m.sender partner x row (pair_of s m.sender partner))
    (λ row. pair_same c s m.sender partner d key row (pair_of s m.sender partner) free))))
  where
    unverified : Bool
    unverified = not (is_verified_row (current s m.sender) && is_verified_row (current s partner))

command_same : (tools : Tools) (c : Setting) (s : NodeState) (d : Option Bytes) (key : Bytes) (m : Heard)
    (command : Command) → IsFree s key → Same d key (λ x. take_command tools c s x m command)
unfolding take_command
command_same tools c s d key m (TransportNet k q o e) free = λ u. refl
command_same tools c s d key m (TransportApp k p i) free = λ u. refl
command_same tools c s d key m (TransportLink k o e) free = λ u. refl
command_same tools c s d key m (UpdateDevice device short status) free = λ u. refl
command_same tools c s d key m (RemoveDevice target) free = λ u. refl
command_same tools c s d key m (RequestApp partner) free = app_same c s d key m partner free
command_same tools c s d key m RequestLink free = link_same c s d key m free
command_same tools c s d key m (SwitchKey q) free = λ u. refl
command_same tools c s d key m (Tunnel o inner) free = λ u. refl
command_same tools c s d key m (VerifyKey kind source hash) free = λ u. refl
command_same tools c s d key m (ConfirmKey status kind o) free = λ u. refl

-- ---- the plan

abbrev SamePlan : Option Bytes → Bytes → (Option Bytes → Plan) → Type 0
SamePlan d key f = IsUndrawn (f d).outcome → f (Some key) ≡ f d

shown_same : (tools : Tools) (c : Setting) (s : NodeState) (d : Option Bytes) (key : Bytes) (accepts : List Term)
    (m : Heard) (o : CommandShown) → IsFree s key → SamePlan d key (λ x. aps_command tools c s x accepts m o)
shown_same tools c s d key accepts m (Known command) free =
    λ u. ap (comes_to accepts AtAps) (command_same tools c s d key m command free u)
shown_same tools c s d key accepts m Unknown free = λ u. refl
shown_same tools c s d key accepts m Broken free = λ u. refl

either_same : (d : Option Bytes) (key : Bytes) (b : Bool) (f : Option Bytes → Plan) (p : Plan) → SamePlan d key f
    → SamePlan d key (λ x. cond b (f x) p)
either_same d key true f p k = k
either_same d key false f p k = λ u. refl

clear_same : (tools : Tools) (c : Setting) (s : NodeState) (d : Option Bytes) (key : Bytes) (nwk : Option Term)
    (a : ApsShown) → IsFree s key → SamePlan d key (λ x. clear_part tools c s x nwk a)
clear_same tools c s d key nwk a free =
    either_same d key a.is_command
    (λ x. aps_command tools c s x (option_to_list nwk) (heard_clear nwk) (tools.read_command a.body)) _
    (shown_same tools c s d key (option_to_list nwk) (heard_clear nwk) (tools.read_command a.body) free)

sealed_same : (tools : Tools) (c : Setting) (s : NodeState) (d : Option Bytes) (key : Bytes) (nwk : Option Term)
    (a : ApsShown) (aux : ApsAuxiliary) (v : Verdict Unsealed) → IsFree s key
    → SamePlan d key (λ x. sealed_part tools c s x nwk a aux v)
sealed_same tools c s d key nwk a aux (Not place reason) free = λ u. refl
sealed_same tools c s d key nwk a aux (Good it) free =
    either_same d key a.is_command
    (λ x. aps_command tools c s x (option_to_list nwk ++ it.term ∷ []) (heard_sealed nwk aux it)
    (tools.read_command it.term.content)) _
    (shown_same tools c s d key (option_to_list nwk ++ it.term ∷ []) (heard_sealed nwk aux it)
    (tools.read_command it.term.content) free)

security_same : (tools : Tools) (c : Setting) (s : NodeState) (d : Option Bytes) (key : Bytes) (f : NwkShown)
    (nwk : Option Term) (a : ApsShown) (o : Option ApsAuxiliary) → IsFree s key
    → SamePlan d key (λ x. by_security tools c s x f nwk a o)
security_same tools c s d key f nwk a None free = clear_same tools c s d key nwk a free
security_same tools c s d key f nwk a (Some aux) free = sealed_same tools c s d key nwk a aux
    (judge_aps tools c s f (payload_of f nwk) aux) free

aps_same : (tools : Tools) (c : Setting) (s : NodeState) (d : Option Bytes) (key : Bytes) (f : NwkShown)
    (nwk : Option Term) (o : Option ApsShown) → IsFree s key → SamePlan d key (λ x. aps_part tools c s x f nwk o)
aps_same tools c s d key f nwk None free = λ u. refl
aps_same tools c s d key f nwk (Some a) free = security_same tools c s d key f nwk a a.auxiliary free

other_same : (d : Option Bytes) (key : Bytes) (b : Bool) (p : Plan) (f : Option Bytes → Plan) → SamePlan d key f
    → SamePlan d key (λ x. cond b p (f x))
other_same d key true p f k = λ u. refl
other_same d key false p f k = k

net_same : (tools : Tools) (c : Setting) (s : NodeState) (d : Option Bytes) (key : Bytes) (f : NwkShown)
    (o : Option Term) → IsFree s key → SamePlan d key (λ x. net_part tools c s x f o)
net_same tools c s d key f None free = aps_same tools c s d key f None (tools.read_aps f.body) free
net_same tools c s d key f (Some term) free =
    other_same d key f.is_command (nwk_command c term (tools.read_leave term.content))
    (λ x. aps_part tools c s x f (Some term) (tools.read_aps term.content))
    (aps_same tools c s d key f (Some term) (tools.read_aps term.content) free)

received_same : (tools : Tools) (c : Setting) (s : NodeState) (d : Option Bytes) (key : Bytes) (v : Verdict Carrier)
    → IsFree s key → SamePlan d key (λ x. received_as tools c s x v)
received_same tools c s d key (Not place reason) free = λ u. refl
received_same tools c s d key (Good k) free = net_same tools c s d key k.frame k.term free

pub plan_same : (tools : Tools) (c : Setting) (s : NodeState) (bytes : Bytes) (d : Option Bytes) (key : Bytes)
    → IsFree s key → IsUndrawn (plan_of tools c s (Received bytes d)).outcome
    → plan_of tools c s (Received bytes (Some key)) ≡ plan_of tools c s (Received bytes d)
unfolding plan_of
plan_same tools c s bytes d key free u = received_same tools c s d key (judge_nwk tools c s bytes) free u

pub answer_same : (tools : Tools) (c : Setting) (s : NodeState) (bytes : Bytes) (d : Option Bytes) (key : Bytes)
    → IsFree s key → IsUndrawn (plan_of tools c s (Received bytes d)).outcome
    → answer tools c s (Received bytes (Some key)) ≡ answer tools c s (Received bytes d)
unfolding answer
answer_same tools c s bytes d key free u =
    ap (λ p. answer_by tools c s (counting_of c s p) p) (plan_same tools c s bytes d key free u)
