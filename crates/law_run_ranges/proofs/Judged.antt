-- The outcome of a delivered frame is in its range.
use Rattle.std.proofs.Common.{◌≡◌, ℕ, Bool, true, false, nat_eq, List, [], ◌∷◌, ◌++◌, find, reverse, length, Option, Some, None, IfSome, refl, arith}
use Rattle.std.specs.List.{AllByRecursion}
use Rattle.std.specs.Prelude.{option_to_list}
use Rattle.zb_model.specs.Answer.{nwk_command, heard_clear, heard_sealed, aps_command, clear_part, sealed_part, by_security, aps_part, net_part, received_as, plan_of}
use Rattle.zb_model.specs.Commands.{Heard}
use Rattle.zb_model.specs.Data.{Bytes, Label, Station, Term, Place, Reason, Task, SayTo, TellTo, DoKnock, DoRejoin, DoTimer, AskFor, HasChild, DoProvision, DoRemove, DoRoll, DoSwitch, DoAgain, DoShare, Received}
use Rattle.zb_model.specs.Judging.{Verdict, Not, Good, reject, need, judge_net, Carrier, carrier, judge_security, judge_nwk, payload_of, candidates, opens_with, chosen, chosen_row, aps_source, Unsealed, judge_aps}
use Rattle.zb_model.specs.Rules.{Setting, Plan, station_at}
use Rattle.zb_model.specs.State.{SenderFloor, NetKey, LinkKey, NodeState, floor_of_sender, sender_floor, usable_of, is_live_of}
use Rattle.zb_model.specs.Tools.{Tools, NwkShown, NwkAuxiliary, ApsShown, ApsAuxiliary, CommandShown, Known, Unknown, Broken, LeaveShown, Leave, Other, NoCommand}
use Rattle.law_run.proofs.FreshLines.{all-append}
use Rattle.law_run_ranges.specs.Asking.{ApsInRange, ShownInRange, TaskInRange, KeepsRanges}
use Rattle.law_run_ranges.specs.Ranges.{IsCount, IsEui, IsKey, IsShort, TermInRange, ReasonInRange}
use Rattle.law_run_ranges.proofs.CommandRules.{HeardInRange, command_in, leave_in}
use Rattle.law_run_ranges.proofs.Lists.{found, filtered, reversed, if_then}
use Rattle.law_run_ranges.proofs.Outcomes.{OutcomeInRange, SettingInRange, StationHasEui}
use Rattle.law_run_ranges.proofs.OwnRules.{own_in}
use Rattle.law_run_ranges.proofs.Questions.{usable_in}
use Rattle.law_run_ranges.proofs.States.{FloorInRange, NetInRange, LinkInRange, StateInRange}

-- ---- verdicts

abbrev VerdictInRange : {A : Type 0} → (A → Type 0) → Verdict A → Type 0
VerdictInRange P (Not place reason) = ReasonInRange reason
VerdictInRange P (Good it) = P it

reject_in : {A : Type 0} (P : A → Type 0) (bad : Bool) (place : Place) (reason : Reason) (rest : Verdict A)
    → ReasonInRange reason → VerdictInRange P rest → VerdictInRange P (reject bad place reason rest)
unfolding reject
reject_in P true place reason rest r k = r
reject_in P false place reason rest r k = k

need_in : {A B : Type 0} (Q : A → Type 0) (P : B → Type 0) (o : Option A) (place : Place) (reason : Reason)
    (rest : A → Verdict B) → ReasonInRange reason → IfSome o Q → ((a : A) → Q a → VerdictInRange P (rest a))
    → VerdictInRange P (need o place reason rest)
unfolding need
need_in Q P None place reason rest r is k = r
need_in Q P (Some a) place reason rest r is k = k a is

floor_or : (sender : ℕ) (o : Option SenderFloor) → IfSome o FloorInRange → IsCount (floor_of_sender sender o).kept
floor_or sender None is = omega arith
floor_or sender (Some f) is = is.0

floor_in : (sender : ℕ) (r : NetKey) → NetInRange r → IsCount (sender_floor sender r).kept
unfolding sender_floor
floor_in sender r is = floor_or sender (find (λ (f : SenderFloor). nat_eq f.sender sender) r.floors)
    (found FloorInRange (λ (f : SenderFloor). nat_eq f.sender sender) r.floors is.2)

net_in : (tools : Tools) (c : Setting) (s : NodeState) (bytes : Bytes) (aux : NwkAuxiliary) → KeepsRanges tools
    → StateInRange s → IsShort bytes → VerdictInRange TermInRange (judge_net tools c s bytes aux)
unfolding judge_net
net_in tools c s bytes aux keeps is b =
    need_in NetInRange TermInRange (usable_of s aux.sequence) _ _ _ tt (usable_in s aux.sequence is) (λ row r.
    reject_in TermInRange _ _ _ _ tt (
    reject_in TermInRange _ _ _ _ (floor_in aux.source row r) (
    need_in TermInRange TermInRange (tools.open_nwk bytes row.key) _ _ _ tt (keeps.open_nwk bytes row.key b r.0)
    (λ t is_term.
    reject_in TermInRange _ _ _ _ tt (reject_in TermInRange _ _ _ _ tt (reject_in TermInRange _ _ _ _ tt is_term))))))

-- what the NWK layer gives after it passed
abbrev CarrierInRange : Carrier → Type 0
CarrierInRange k = IsShort k.frame.body × IfSome k.term TermInRange

carrier_in : (f : NwkShown) (v : Verdict Term) → IsShort f.body → VerdictInRange TermInRange v
    → VerdictInRange CarrierInRange (carrier f v)
carrier_in f (Not place reason) b v = v
carrier_in f (Good t) b v = (b, v)

security_in : (tools : Tools) (c : Setting) (s : NodeState) (bytes : Bytes) (f : NwkShown) (o : Option NwkAuxiliary)
    → KeepsRanges tools → StateInRange s → IsShort bytes → IsShort f.body
    → VerdictInRange CarrierInRange (judge_security tools c s bytes f o)
security_in tools c s bytes f None keeps is b body = reject_in CarrierInRange _ _ _ _ tt (body, tt)
security_in tools c s bytes f (Some aux) keeps is b body = carrier_in f (judge_net tools c s bytes aux) body
    (net_in tools c s bytes aux keeps is b)

abbrev BodyIsShort : NwkShown → Type 0
BodyIsShort f = IsShort f.body

nwk_in : (tools : Tools) (c : Setting) (s : NodeState) (bytes : Bytes) → KeepsRanges tools → StateInRange s
    → IsShort bytes → VerdictInRange CarrierInRange (judge_nwk tools c s bytes)
unfolding judge_nwk
nwk_in tools c s bytes keeps is b =
    need_in BodyIsShort CarrierInRange (tools.read_nwk bytes) _ _ _ tt (keeps.read_nwk bytes b)
    (λ f body. reject_in CarrierInRange _ _ _ _ tt (security_in tools c s bytes f f.auxiliary keeps is b body))

payload_in : (f : NwkShown) (o : Option Term) → IsShort f.body → IfSome o TermInRange → IsShort (payload_of f o)
payload_in f None b t = b
payload_in f (Some term) b t = t.content

-- ---- the APS part

declared_by : (c : Setting) (f : NwkShown) (l : Label) (n : ℕ) (o : Option Station) → station_at c.stations f.source
    ≡ o → IfSome o StationHasEui → IfSome (aps_source c f (record { label = l; counter = n; source = None })) IsEui
declared_by c f l n None e is = rw e tt
declared_by c f l n (Some p) e is = rw e is

source_by : (c : Setting) (f : NwkShown) (l : Label) (n : ℕ) (o : Option ℕ) → SettingInRange c → IfSome o IsEui
    → IfSome (aps_source c f (record { label = l; counter = n; source = o })) IsEui
unfolding station_at
source_by c f l n None at is = declared_by c f l n (station_at c.stations f.source) refl
    (found StationHasEui (λ (p : Station). nat_eq p.short f.source) c.stations at.2)
source_by c f l n (Some eui) at is = is

chosen_in : (o : Option LinkKey) (rows : List LinkKey) → IfSome o LinkInRange → AllByRecursion LinkInRange rows
    → IfSome (chosen o rows) LinkInRange
chosen_in (Some row) rows is all = is
chosen_in None [] is all = tt
chosen_in None (row ∷ rows) is all = all.0

row_in : (tools : Tools) (bytes : Bytes) (source : ℕ) (rows : List LinkKey) → AllByRecursion LinkInRange rows
    → IfSome (chosen_row tools bytes source rows) LinkInRange
row_in tools bytes source rows all = chosen_in (find (opens_with tools bytes source) rows) rows
    (found LinkInRange (opens_with tools bytes source) rows all) all

candidates_in : (s : NodeState) (source : ℕ) → StateInRange s → AllByRecursion LinkInRange (candidates s source)
unfolding candidates
candidates_in s source is = filtered LinkInRange (is_live_of source) (reverse s.links)
    (reversed LinkInRange s.links is.1)

abbrev UnsealedInRange : Unsealed → Type 0
UnsealedInRange u = TermInRange u.term

aps_in : (tools : Tools) (c : Setting) (s : NodeState) (f : NwkShown) (bytes : Bytes) (aux : ApsAuxiliary)
    → KeepsRanges tools → SettingInRange c → StateInRange s → IsShort bytes → IfSome aux.source IsEui
    → VerdictInRange UnsealedInRange (judge_aps tools c s f bytes aux)
unfolding judge_aps
aps_in tools c s f bytes aux keeps at is b shown =
    need_in IsEui UnsealedInRange (aps_source c f aux) _ _ _ tt
    (source_by c f aux.label aux.counter aux.source at shown) (λ source e.
    need_in LinkInRange UnsealedInRange (chosen_row tools bytes source (candidates s source)) _ _ _ tt
    (row_in tools bytes source (candidates s source) (candidates_in s source is)) (λ row r.
    reject_in UnsealedInRange _ _ _ _ tt (
    reject_in UnsealedInRange _ _ _ _ r.2 (
    need_in TermInRange UnsealedInRange (tools.open_aps bytes row.key source) _ _ _ tt
    (keeps.open_aps bytes row.key source b r.1 e) (λ t is_term. is_term)))))

-- ---- the plan

abbrev pub PlanInRange : Plan → Type 0
PlanInRange p = AllByRecursion TermInRange p.accepts × OutcomeInRange p.outcome

alone : (o : Option Term) → IfSome o TermInRange → AllByRecursion TermInRange (option_to_list o)
alone None is = tt
alone (Some t) is = (is, tt)

module _ (tools : Tools) (c : Setting) (s : NodeState) (draw : Option Bytes) (keeps : KeepsRanges tools)
    (at : SettingInRange c) (is : StateInRange s) (few : IsCount (length s.nets)) (d : IfSome draw IsKey) where
  nwk_command_in : (t : Term) (o : LeaveShown) → TermInRange t → PlanInRange (nwk_command c t o)
  nwk_command_in t (Leave options) is_term = ((is_term, tt), leave_in c t options)
  nwk_command_in t Other is_term = ((is_term, tt), tt)
  nwk_command_in t NoCommand is_term = ((is_term, tt), tt)

  aps_command_in : (ts : List Term) (m : Heard) (o : CommandShown) → AllByRecursion TermInRange ts → HeardInRange m
      → ShownInRange o → PlanInRange (aps_command tools c s draw ts m o)
  aps_command_in ts m (Known command) all h o = (all, command_in tools c s draw m command at is few d h o)
  aps_command_in ts m Unknown all h o = (all, tt)
  aps_command_in ts m Broken all h o = (all, tt)

  clear_in : (nwk : Option Term) (a : ApsShown) → IfSome nwk TermInRange → ApsInRange a
      → PlanInRange (clear_part tools c s draw nwk a)
  clear_in nwk a t x =
      if_then PlanInRange a.is_command _ _
      (aps_command_in (option_to_list nwk) (heard_clear nwk) (tools.read_command a.body) (alone nwk t) tt
      (keeps.read_command a.body x.0)) (alone nwk t, (tt, tt))

  sealed_in : (nwk : Option Term) (a : ApsShown) (aux : ApsAuxiliary) (v : Verdict Unsealed) → IfSome nwk TermInRange
      → VerdictInRange UnsealedInRange v → PlanInRange (sealed_part tools c s draw nwk a aux v)
  sealed_in nwk a aux (Not place reason) t v = (alone nwk t, v)
  sealed_in nwk a aux (Good u) t v =
      let both = all-append TermInRange (option_to_list nwk) (u.term ∷ []) (alone nwk t) (v, tt) in
      if_then PlanInRange a.is_command _ _
      (aps_command_in (option_to_list nwk ++ u.term ∷ []) (heard_sealed nwk aux u)
      (tools.read_command u.term.content) both v.source (keeps.read_command u.term.content v.content))
      (both, (tt, tt))

  by_security_in : (f : NwkShown) (nwk : Option Term) (a : ApsShown) (o : Option ApsAuxiliary) → IsShort f.body
      → IfSome nwk TermInRange → ApsInRange a → IfSome o (λ (x : ApsAuxiliary). IfSome x.source IsEui)
      → PlanInRange (by_security tools c s draw f nwk a o)
  by_security_in f nwk a None b t x y = clear_in nwk a t x
  by_security_in f nwk a (Some aux) b t x y = sealed_in nwk a aux (judge_aps tools c s f (payload_of f nwk) aux) t
      (aps_in tools c s f (payload_of f nwk) aux keeps at is (payload_in f nwk b t) y)

  aps_part_in : (f : NwkShown) (nwk : Option Term) (o : Option ApsShown) → IsShort f.body → IfSome nwk TermInRange
      → IfSome o ApsInRange → PlanInRange (aps_part tools c s draw f nwk o)
  aps_part_in f nwk None b t x = (alone nwk t, tt)
  aps_part_in f nwk (Some a) b t x = by_security_in f nwk a a.auxiliary b t x x.1

  net_part_in : (f : NwkShown) (nwk : Option Term) → IsShort f.body → IfSome nwk TermInRange
      → PlanInRange (net_part tools c s draw f nwk)
  net_part_in f None b t = aps_part_in f None (tools.read_aps f.body) b tt (keeps.read_aps f.body b)
  net_part_in f (Some term) b t =
      if_then PlanInRange f.is_command _ _ (nwk_command_in term (tools.read_leave term.content) t)
      (aps_part_in f (Some term) (tools.read_aps term.content) b t (keeps.read_aps term.content t.content))

  received_in : (v : Verdict Carrier) → VerdictInRange CarrierInRange v → PlanInRange (received_as tools c s draw v)
  received_in (Not place reason) v = (tt, v)
  received_in (Good k) v = net_part_in k.frame k.term v.0 v.1

pub plan_in : (tools : Tools) (c : Setting) (s : NodeState) (task : Task) → KeepsRanges tools → SettingInRange c
    → StateInRange s → IsCount (length s.nets) → TaskInRange task → PlanInRange (plan_of tools c s task)
unfolding plan_of
plan_in tools c s (Received bytes draw) keeps at is few t = received_in tools c s draw keeps at is few t.1
    (judge_nwk tools c s bytes) (nwk_in tools c s bytes keeps is t.0)
plan_in tools c s (SayTo to bytes) keeps at is few t = (tt, own_in tools c s (SayTo to bytes) keeps at is t)
plan_in tools c s (TellTo partner bytes) keeps at is few t =
    (tt, own_in tools c s (TellTo partner bytes) keeps at is t)
plan_in tools c s DoKnock keeps at is few t = (tt, own_in tools c s DoKnock keeps at is t)
plan_in tools c s DoRejoin keeps at is few t = (tt, own_in tools c s DoRejoin keeps at is t)
plan_in tools c s DoTimer keeps at is few t = (tt, own_in tools c s DoTimer keeps at is t)
plan_in tools c s (AskFor partner) keeps at is few t = (tt, own_in tools c s (AskFor partner) keeps at is t)
plan_in tools c s (HasChild child again) keeps at is few t =
    (tt, own_in tools c s (HasChild child again) keeps at is t)
plan_in tools c s (DoProvision device key) keeps at is few t =
    (tt, own_in tools c s (DoProvision device key) keeps at is t)
plan_in tools c s (DoRemove device via) keeps at is few t = (tt, own_in tools c s (DoRemove device via) keeps at is t)
plan_in tools c s (DoRoll draw) keeps at is few t = (tt, own_in tools c s (DoRoll draw) keeps at is t)
plan_in tools c s DoSwitch keeps at is few t = (tt, own_in tools c s DoSwitch keeps at is t)
plan_in tools c s (DoAgain device) keeps at is few t = (tt, own_in tools c s (DoAgain device) keeps at is t)
plan_in tools c s (DoShare device partner) keeps at is few t =
    (tt, own_in tools c s (DoShare device partner) keeps at is t)
