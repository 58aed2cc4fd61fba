-- An accepted term has its row: there is a live row in which its floor can be stored, and room there. Also the plan
-- of every event: what it accepts, and moves that may be made.
use Rattle.std.proofs.Common.{◌≡◌, ℕ, ◌<◌, Bool, true, false, not, if◌then◌else◌, ◌&&◌, ◌||◌, List, [], ◌∷◌, ◌++◌, length, Option, Some, None, refl, sym, ap, ◌∙◌, arith, ◌⊎◌, inl, inr}
use Rattle.std.specs.Prelude.{find, filter, reverse, option_to_list, nat_eq, nat_lt, nat_le}
use Rattle.std.specs.List.{list_any}
use Rattle.std.proofs.lemmas.Bool.{leb-false, lt-ltb, not-true}
use Rattle.zb_model.specs.Data.{Bytes, Nwk, Aps, Label, Term, Place, AtAps, Reason, Task, Received}
use Rattle.zb_model.specs.State.{greatest_counter, SenderFloor, NetKey, LinkKey, NodeState, same_key, is_link, is_live_of, net_of, sender_floor, usable_of, usable_nets, live_nets, may_use}
use Rattle.zb_model.specs.Fits.{live_net, live_link, net_stored, row_is_live}
use Rattle.zb_model.specs.Tools.{Tools, NwkShown, NwkAuxiliary, ApsShown, ApsAuxiliary, CommandShown, Known, Unknown, Broken, LeaveShown, Leave, Other, NoCommand}
use Rattle.zb_model.specs.Rules.{Setting, Plan, Does}
use Rattle.zb_model.specs.Commands.{Heard}
use Rattle.zb_model.specs.Judging.{Verdict, Not, Good, reject, need, senders_full, judge_net, Carrier, carrier, judge_security, judge_nwk, payload_of, candidates, opens_with, chosen, chosen_row, aps_source, Unsealed, judge_aps}
use Rattle.zb_model.specs.Answer.{comes_to, nwk_command, heard_clear, heard_sealed, aps_command, clear_part, sealed_part, by_security, aps_part, net_part, received_as, plan_of}
use Rattle.law_change_fits.specs.Fitting.{has_floor, floor_has_room}
use Rattle.law_change_fits.proofs.Tests.{both, neither, any_from}
use Rattle.law_change_fits.proofs.Parts.{Rules, same_key_of}
use Rattle.zb_model.specs.OwnEvents.{own}
use Rattle.law_answer_storable.specs.Storing.{OpensAsJudged, source_or}
use Rattle.law_answer_storable.proofs.Lists.{found_any, any_reverse, any_filter}
use Rattle.law_answer_storable.proofs.NetRows.{has, found_has}
use Rattle.law_answer_storable.proofs.Outcomes.{Fitting, stopped, no_moves}
use Rattle.law_answer_storable.proofs.OwnMoves.{own_fits}
use Rattle.law_answer_storable.proofs.CommandMoves.{command_fits, leave_fits}

-- an accepted NWK term: its key is live, and if a floor is to be stored, its sender has one or there is room
pub record HeardNwk (s : NodeState) (t : Term) : Type 0 where
  pub layer : t.layer ≡ Nwk
  pub live : live_net t.base s ≡ true
  pub small : t.counter < greatest_counter
  pub room : nat_le (net_stored t.source (net_of t.base s)) t.counter ≡ true → (value : ℕ) → 0 < value
      → floor_has_room t.source value (net_of t.base s) ≡ true

-- an accepted APS term: its source has a live row of its key
pub record HeardAps (s : NodeState) (t : Term) : Type 0 where
  pub layer : t.layer ≡ Aps
  pub live : live_link t.source t.base s ≡ true
  pub small : t.counter < greatest_counter

-- verdicts

abbrev OnGood : {A : Type 0} → (A → Type 0) → Verdict A → Type 0
OnGood P (Not place reason) = Unit {0}
OnGood P (Good it) = P it

after_reject : {A : Type 0} (P : A → Type 0) (bad : Bool) (place : Place) (reason : Reason) (rest : Verdict A)
    → (bad ≡ false → OnGood P rest) → OnGood P (reject bad place reason rest)
unfolding reject
after_reject P true place reason rest k = tt
after_reject P false place reason rest k = k refl

after_need : {A B : Type 0} (P : B → Type 0) (o : Option A) (place : Place) (reason : Reason) (rest : A → Verdict B)
    → ((a : A) → o ≡ Some a → OnGood P (rest a)) → OnGood P (need o place reason rest)
unfolding need
after_need P None place reason rest k = tt
after_need P (Some a) place reason rest k = k a refl

-- the NWK layer

usable_any : (s : NodeState) (sequence : ℕ) (row : NetKey) → usable_of s sequence ≡ Some row → (f : NetKey → Bool)
    → f row ≡ true → list_any (λ (r : NetKey). r.live && f r) s.nets ≡ true
unfolding usable_of usable_nets
usable_any s sequence row e f k = by_use (may_use s) e
  where
    by_use : (b : Bool) → find (λ (r : NetKey). nat_eq r.sequence sequence) (reverse (if b then live_nets s else []))
        ≡ Some row → list_any (λ (r : NetKey). r.live && f r) s.nets ≡ true
    by_use true e = any_filter f (λ (r : NetKey). r.live) s.nets
        (any_reverse f (live_nets s)
        (found_any (λ (r : NetKey). nat_eq r.sequence sequence) f (reverse (live_nets s)) row e k))
    by_use false e = absurd (cc)

others_all : (sender : ℕ) (fs : List SenderFloor) → has_floor sender fs ≡ false
    → length (filter (λ (f : SenderFloor). not (nat_eq f.sender sender)) fs) ≡ length fs
others_all sender [] none = refl
others_all sender (f ∷ fs) none =
    let parts = neither (nat_eq f.sender sender) (has_floor sender fs) none in
    rw parts.0 (omega (arith, others_all sender fs parts.1))

has_room : (sender counter : ℕ) (r : NetKey) → senders_full sender counter r ≡ false
    → nat_le (sender_floor sender r).stored counter ≡ true → (value : ℕ) → 0 < value
    → floor_has_room sender value (Some r) ≡ true
has_room sender counter r full below value some = by_test (has_floor sender r.floors) refl
  where
    open_test : (b : Bool) → b ≡ true
        → (b && nat_le 64 (length (filter (λ (f : SenderFloor). not (nat_eq f.sender sender)) r.floors))) ≡ false
        → nat_le 64 (length (filter (λ (f : SenderFloor). not (nat_eq f.sender sender)) r.floors)) ≡ false
    open_test true e f = f
    open_test false e f = absurd (cc)

    by_test : (b : Bool) → has_floor sender r.floors ≡ b → (b || (nat_lt 0 value && nat_lt (length r.floors) 64))
        ≡ true
    by_test true is = refl
    by_test false is =
        let few : nat_lt (length r.floors) 64 ≡ true =
        lt-ltb _ _
        (omega (
          arith,
          leb-false _ _ (open_test (nat_le (sender_floor sender r).stored counter) below full),
          others_all sender r.floors is,
        )) in
        let positive : nat_lt 0 value ≡ true = lt-ltb _ _ some in
        rw (positive, few) refl

nwk_heard : (s : NodeState) → Rules s → (sequence source counter : ℕ) (row : NetKey) → usable_of s sequence ≡ Some row
    → senders_full source counter row ≡ false → counter < greatest_counter
    → (t : Term) → t.layer ≡ Nwk → t.base ≡ row.key → t.source ≡ source → t.counter ≡ counter → HeardNwk s t
nwk_heard s r sequence source counter row found full small t layer base from count = record {
  layer = layer;
  live = by_row (net_of t.base s) there;
  small = omega (arith, small, count);
  room = λ below value some. room_in (net_of t.base s) there below value some;
}
  where
    test : NetKey → Bool
    test x = x.live && not (senders_full t.source t.counter x)

    not_full : senders_full t.source t.counter row ≡ false
    not_full = ap (λ n. senders_full n t.counter row) from ∙ ap (λ n. senders_full source n row) count ∙ full

    there : has test (net_of t.base s) ≡ true
    there = found_has test t.base s.nets r.net_keys
        (any_from (λ (x : NetKey). x.live && (not (senders_full t.source t.counter x) && same_key x.key t.base))
        (λ (x : NetKey). test x && same_key x.key t.base)
        (λ x e. shuffle x.live (not (senders_full t.source t.counter x)) (same_key x.key t.base) e) s.nets
        (usable_any s sequence row found
        (λ (x : NetKey). not (senders_full t.source t.counter x) && same_key x.key t.base)
        (rw (not_full, same_key_of row.key t.base (sym base)) refl)))
      where
        shuffle : (a b c : Bool) → (a && (b && c)) ≡ true → ((a && b) && c) ≡ true
        shuffle true b c e = e
        shuffle false b c e = e

    by_row : (o : Option NetKey) → has test o ≡ true → row_is_live o ≡ true
    by_row None e = e
    by_row (Some x) e = (both x.live (not (senders_full t.source t.counter x)) e).0

    room_in : (o : Option NetKey) → has test o ≡ true → nat_le (net_stored t.source o) t.counter ≡ true → (value : ℕ)
        → 0 < value → floor_has_room t.source value o ≡ true
    room_in None e below value some = absurd (cc)
    room_in (Some x) e below value some =
        has_room t.source t.counter x (not-true _ (both x.live (not (senders_full t.source t.counter x)) e).1) below
        value some

net_judged : (tools : Tools) → OpensAsJudged tools → (c : Setting) (s : NodeState) → Rules s
    → (bytes : Bytes) (f : NwkShown) (aux : NwkAuxiliary) → tools.read_nwk bytes ≡ Some f → f.auxiliary ≡ Some aux
    → OnGood (HeardNwk s) (judge_net tools c s bytes aux)
unfolding judge_net
net_judged tools opens c s r bytes f aux read shown =
    after_need (HeardNwk s) (usable_of s aux.sequence) _ _ _ (λ row found.
    after_reject (HeardNwk s) (nat_le greatest_counter aux.counter) _ _ _ (λ small.
    after_reject (HeardNwk s) _ _ _ _ (λ a.
    after_need (HeardNwk s) (tools.open_nwk bytes row.key) _ _ _ (λ t opened.
    after_reject (HeardNwk s) _ _ _ _ (λ b.
    after_reject (HeardNwk s) _ _ _ _ (λ d.
    after_reject (HeardNwk s) (senders_full aux.source aux.counter row) _ _ _ (λ full.
    let is = opens.nwk bytes row.key f aux t read shown opened in
    nwk_heard s r aux.sequence aux.source aux.counter row found full (leb-false greatest_counter aux.counter small) t
    is.0 is.1 is.2 is.3)))))))

abbrev OfTerm : NodeState → Option Term → Type 0
OfTerm s None = Unit {0}
OfTerm s (Some t) = HeardNwk s t

abbrev OfCarrier : Tools → NodeState → Carrier → Type 0
OfCarrier tools s k = OfTerm s k.term

carried : (tools : Tools) (s : NodeState) (f : NwkShown) (v : Verdict Term) → OnGood (HeardNwk s) v
    → OnGood (OfCarrier tools s) (carrier f v)
carried tools s f (Not place reason) g = tt
carried tools s f (Good t) g = g

security_judged : (tools : Tools) → OpensAsJudged tools → (c : Setting) (s : NodeState) → Rules s
    → (bytes : Bytes) (f : NwkShown) (x : Option NwkAuxiliary) → tools.read_nwk bytes ≡ Some f → f.auxiliary ≡ x
    → OnGood (OfCarrier tools s) (judge_security tools c s bytes f x)
security_judged tools opens c s r bytes f None read shown = after_reject (OfCarrier tools s) _ _ _ _ (λ e. tt)
security_judged tools opens c s r bytes f (Some aux) read shown = carried tools s f (judge_net tools c s bytes aux)
    (net_judged tools opens c s r bytes f aux read shown)

nwk_judged : (tools : Tools) → OpensAsJudged tools → (c : Setting) (s : NodeState) → Rules s → (bytes : Bytes)
    → OnGood (OfCarrier tools s) (judge_nwk tools c s bytes)
unfolding judge_nwk
nwk_judged tools opens c s r bytes =
    after_need (OfCarrier tools s) (tools.read_nwk bytes) _ _ _
    (λ f read. after_reject (OfCarrier tools s) _ _ _ _
    (λ a. security_judged tools opens c s r bytes f f.auxiliary read refl))

-- the APS part

chosen_any : (q f : LinkKey → Bool) (rows : List LinkKey) (row : LinkKey) → chosen (find q rows) rows ≡ Some row
    → f row ≡ true → list_any f rows ≡ true
chosen_any q f rows row e k = by_find (find q rows) refl e
  where
    first : (xs : List LinkKey) → chosen None xs ≡ Some row → list_any f xs ≡ true
    first [] e = absurd (cc)
    first (x ∷ xs) e =
        let same : x ≡ row = cc in
        let here : f x ≡ true = ap f same ∙ k in
        rw here refl

    by_find : (o : Option LinkKey) → find q rows ≡ o → chosen o rows ≡ Some row → list_any f rows ≡ true
    by_find None is e = first rows e
    by_find (Some x) is e = found_any q f rows row (is ∙ e) k

candidate_live : (tools : Tools) (s : NodeState) (bytes : Bytes) (source : ℕ) (row : LinkKey)
    → chosen_row tools bytes source (candidates s source) ≡ Some row → live_link source row.key s ≡ true
unfolding candidates
candidate_live tools s bytes source row e =
    any_from (λ (x : LinkKey). is_live_of source x && same_key x.key row.key)
    (λ (x : LinkKey). is_link source row.key x && x.live)
    (λ x k. shuffle x.live (nat_eq x.partner source) (same_key x.key row.key) k) s.links
    (any_reverse (λ (x : LinkKey). is_live_of source x && same_key x.key row.key) s.links
    (any_filter (λ (x : LinkKey). same_key x.key row.key) (is_live_of source) (reverse s.links)
    (chosen_any (opens_with tools bytes source) (λ (x : LinkKey). same_key x.key row.key) (candidates s source) row e
    (same_key_of row.key row.key refl))))
  where
    shuffle : (a b c : Bool) → ((a && b) && c) ≡ true → ((b && c) && a) ≡ true
    shuffle true true true e = refl
    shuffle true true false e = e
    shuffle true false c e = e
    shuffle false b c e = absurd (cc)

shown_source : (c : Setting) (f : NwkShown) (label : Label) (counter : ℕ) (x : Option ℕ) (source : ℕ)
    → aps_source c f (record { label = label; counter = counter; source = x }) ≡ Some source → source_or source x
    ≡ source
shown_source c f label counter None source e = refl
shown_source c f label counter (Some n) source e = cc

aps_judged : (tools : Tools) → OpensAsJudged tools → (c : Setting) (s : NodeState) (f : NwkShown) (bytes : Bytes)
    (a : ApsShown) (aux : ApsAuxiliary) → tools.read_aps bytes ≡ Some a → a.auxiliary ≡ Some aux
    → OnGood (λ (u : Unsealed). HeardAps s u.term) (judge_aps tools c s f bytes aux)
unfolding judge_aps
aps_judged tools opens c s f bytes a aux read shown =
    after_need P (aps_source c f aux) _ _ _ (λ source from.
    after_need P (chosen_row tools bytes source (candidates s source)) _ _ _ (λ row found.
    after_reject P (nat_le greatest_counter aux.counter) _ _ _ (λ small.
    after_reject P _ _ _ _ (λ b.
    after_need P (tools.open_aps bytes row.key source) _ _ _ (λ t opened.
    let is = opens.aps bytes row.key source a aux t read shown opened in
    let sender : t.source ≡ source = is.2 ∙ shown_source c f aux.label aux.counter aux.source source from in
    record {
      layer = is.0;
      live = ap (λ n. live_link n t.base s) sender ∙ ap (λ k. live_link source k s) is.1 ∙ candidate_live tools s
          bytes source row found;
      small = omega (arith, leb-false greatest_counter aux.counter small, is.3);
    })))))
  where
    P : Unsealed → Type 0
    P u = HeardAps s u.term

-- The plan: what it accepts is nothing, a term, or a NWK term and then an APS term.

abbrev pub Accepted : NodeState → List Term → Type 0
Accepted s [] = Unit {0}
Accepted s (t ∷ []) = HeardNwk s t ⊎ HeardAps s t
Accepted s (t ∷ u ∷ []) = HeardNwk s t × HeardAps s u
Accepted s (t ∷ u ∷ v ∷ ts) = ⊥

pub record PlanFits (s : NodeState) (p : Plan) : Type 0 where
  pub accepted : Accepted s p.accepts
  pub outcome : Fitting s p.outcome

of_nwk : (s : NodeState) (o : Option Term) → OfTerm s o → Accepted s (option_to_list o)
of_nwk s None g = tt
of_nwk s (Some t) g = inl g

of_both : (s : NodeState) (o : Option Term) (u : Term) → OfTerm s o → HeardAps s u
    → Accepted s (option_to_list o ++ u ∷ [])
of_both s None u g h = inr h
of_both s (Some t) u g h = (g, h)

either_plan : (s : NodeState) (b : Bool) (p q : Plan) → PlanFits s p → PlanFits s q → PlanFits s (if b then p else q)
either_plan s true p q a b = a
either_plan s false p q a b = b

module _ (tools : Tools) (opens : OpensAsJudged tools) (c : Setting) (s : NodeState) (r : Rules s)
    (role : s.role ≡ c.me.role) (draw : Option Bytes) where
  command_plan : (ts : List Term) (m : Heard) (o : CommandShown) → Accepted s ts
      → PlanFits s (aps_command tools c s draw ts m o)
  command_plan ts m (Known command) g = record { accepted = g; outcome = command_fits tools c s draw m command r role }
  command_plan ts m Unknown g = record { accepted = g; outcome = stopped s _ }
  command_plan ts m Broken g = record { accepted = g; outcome = stopped s _ }

  clear_plan : (nwk : Option Term) (a : ApsShown) → OfTerm s nwk → PlanFits s (clear_part tools c s draw nwk a)
  clear_plan nwk a g =
      either_plan s a.is_command
      (aps_command tools c s draw (option_to_list nwk) (heard_clear nwk) (tools.read_command a.body))
      (comes_to (option_to_list nwk) AtAps (Does [] None))
      (command_plan (option_to_list nwk) (heard_clear nwk) (tools.read_command a.body) (of_nwk s nwk g))
      (record { accepted = of_nwk s nwk g; outcome = no_moves s None })

  sealed_plan : (nwk : Option Term) (a : ApsShown) (aux : ApsAuxiliary) (v : Verdict Unsealed) → OfTerm s nwk
      → OnGood (λ (u : Unsealed). HeardAps s u.term) v → PlanFits s (sealed_part tools c s draw nwk a aux v)
  sealed_plan nwk a aux (Not place reason) g h = record { accepted = of_nwk s nwk g; outcome = stopped s reason }
  sealed_plan nwk a aux (Good u) g h =
      either_plan s a.is_command
      (aps_command tools c s draw (option_to_list nwk ++ u.term ∷ []) (heard_sealed nwk aux u)
      (tools.read_command u.term.content)) (comes_to (option_to_list nwk ++ u.term ∷ []) AtAps (Does [] None))
      (command_plan (option_to_list nwk ++ u.term ∷ []) (heard_sealed nwk aux u) (tools.read_command u.term.content)
      (of_both s nwk u.term g h)) (record { accepted = of_both s nwk u.term g h; outcome = no_moves s None })

  security_plan : (f : NwkShown) (nwk : Option Term) (a : ApsShown) (x : Option ApsAuxiliary)
      → tools.read_aps (payload_of f nwk) ≡ Some a → a.auxiliary ≡ x → OfTerm s nwk
      → PlanFits s (by_security tools c s draw f nwk a x)
  security_plan f nwk a None read shown g = clear_plan nwk a g
  security_plan f nwk a (Some aux) read shown g = sealed_plan nwk a aux (judge_aps tools c s f (payload_of f nwk) aux)
      g (aps_judged tools opens c s f (payload_of f nwk) a aux read shown)

  aps_plan : (f : NwkShown) (nwk : Option Term) (x : Option ApsShown) → tools.read_aps (payload_of f nwk) ≡ x
      → OfTerm s nwk → PlanFits s (aps_part tools c s draw f nwk x)
  aps_plan f nwk None read g = record { accepted = of_nwk s nwk g; outcome = stopped s _ }
  aps_plan f nwk (Some a) read g = security_plan f nwk a a.auxiliary read refl g

  leave_plan : (t : Term) (l : LeaveShown) → HeardNwk s t → PlanFits s (nwk_command c t l)
  leave_plan t (Leave options) g = record { accepted = inl g; outcome = leave_fits c s t options role }
  leave_plan t Other g = record { accepted = inl g; outcome = stopped s _ }
  leave_plan t NoCommand g = record { accepted = inl g; outcome = stopped s _ }

  net_plan : (f : NwkShown) (nwk : Option Term) → OfTerm s nwk → PlanFits s (net_part tools c s draw f nwk)
  net_plan f None g = aps_plan f None (tools.read_aps f.body) refl tt
  net_plan f (Some t) g =
      either_plan s f.is_command (nwk_command c t (tools.read_leave t.content))
      (aps_part tools c s draw f (Some t) (tools.read_aps t.content))
      (leave_plan t (tools.read_leave t.content) g) (aps_plan f (Some t) (tools.read_aps t.content) refl g)

  received_plan : (v : Verdict Carrier) → OnGood (OfCarrier tools s) v → PlanFits s (received_as tools c s draw v)
  received_plan (Not place reason) g = record { accepted = tt; outcome = stopped s reason }
  received_plan (Good k) g = net_plan k.frame k.term g

own_plan : (tools : Tools) (c : Setting) (s : NodeState) (task : Task) → Rules s → s.role ≡ c.me.role
    → PlanFits s (comes_to [] Place.AtEvent (own tools c s task))
own_plan tools c s task r role = record { accepted = tt; outcome = own_fits tools c s task r role }

pub plan_fits : (tools : Tools) → OpensAsJudged tools → (c : Setting) (s : NodeState) (task : Task) → Rules s → s.role
    ≡ c.me.role → PlanFits s (plan_of tools c s task)
unfolding plan_of
plan_fits tools opens c s (Received bytes draw) r role = received_plan tools opens c s r role draw
    (judge_nwk tools c s bytes) (nwk_judged tools opens c s r bytes)
plan_fits tools opens c s task r role = own_plan tools c s task r role
