-- A term that is accepted has a live network key as its base key, if network rows have different keys.
use Rattle.std.proofs.Common.{◌≡◌, ℕ, List, [], ◌∷◌, ◌++◌, filter, reverse, find, option_to_list, refl, sym, ap, ◌∙◌, subst, Bool, true, false, if◌then◌else◌, Option, Some, None, nat_eq}
use Rattle.std.specs.List.{AllByRecursion}
use Rattle.std.proofs.lemmas.Slice.Eq.{bytes_eq-Decides}
use mathlib.Core.List.{reverse_aux}
use Rattle.zb_model.specs.Data.{Bytes, Layer, Nwk, Aps, Term, Place, Reason, Task, SayTo, TellTo, DoKnock, DoRejoin, DoTimer, AskFor, HasChild, DoProvision, DoRemove, DoRoll, DoSwitch, DoAgain, DoShare, Received}
use Rattle.zb_model.specs.State.{NodeState, NetKey, same_key, usable_of, usable_nets, live_nets, may_use}
use Rattle.zb_model.specs.Fits.{all_apart, row_is_live, live_net}
use Rattle.zb_model.specs.Tools.{Tools, NwkShown, NwkAuxiliary, ApsShown, ApsAuxiliary, CommandShown, Known, Unknown, Broken, LeaveShown, Leave, Other, NoCommand}
use Rattle.zb_model.specs.Rules.{Setting, Plan}
use Rattle.zb_model.specs.Judging.{Verdict, Not, Good, reject, need, judge_net, Carrier, carrier, judge_security, judge_nwk, payload_of, candidates, chosen_row, aps_source, Unsealed, judge_aps}
use Rattle.zb_model.specs.Commands.{Heard}
use Rattle.zb_model.specs.Answer.{nwk_command, heard_clear, heard_sealed, aps_command, clear_part, sealed_part, by_security, aps_part, net_part, received_as, plan_of}
use Rattle.law_tables_suffice.proofs.Apart.{each_first}
use Rattle.law_answer_storable.specs.Storing.{OpensAsJudged}
use Rattle.law_tables_suffice.specs.Showing.{IsUnderLive, AreUnderLive, nets_differ}

-- ---- a live row is found by its key

key_same : (key : Bytes) → same_key key key ≡ true
key_same key = (bytes_eq-Decides key key).1 refl

abbrev IsFound : List NetKey → NetKey → Type 0
IsFound nets r = find (λ (x : NetKey). same_key x.key r.key) nets ≡ Some r

each_found : (nets : List NetKey) → all_apart (λ (a b : NetKey). same_key a.key b.key) nets ≡ true
    → AllByRecursion (IsFound nets) nets
each_found nets differ = each_first (λ (a b : NetKey). same_key a.key b.key) (λ r. key_same r.key) nets differ

abbrev IsLiveIn : List NetKey → NetKey → Type 0
IsLiveIn nets r = row_is_live (find (λ (x : NetKey). same_key x.key r.key) nets) ≡ true

lives_found : (nets rs : List NetKey) → AllByRecursion (IsFound nets) rs
    → AllByRecursion (IsLiveIn nets) (filter (λ (r : NetKey). r.live) rs)
lives_found nets [] all = tt
lives_found nets (r ∷ rs) all = at_test r.live refl (lives_found nets rs all.1)
  where
    at_test : (b : Bool) → r.live ≡ b → AllByRecursion (IsLiveIn nets) (filter (λ (x : NetKey). x.live) rs)
        → AllByRecursion (IsLiveIn nets) (if b then r ∷ filter (λ (x : NetKey). x.live) rs
        else filter (λ (x : NetKey). x.live) rs)
    at_test true is more = (ap row_is_live all.0 ∙ is, more)
    at_test false is more = more

all_aux : {X : Type 0} (P : X → Type 0) (xs ys : List X) → AllByRecursion P xs → AllByRecursion P ys
    → AllByRecursion P (reverse_aux xs ys)
all_aux P [] ys a b = b
all_aux P (x ∷ xs) ys a b = all_aux P xs (x ∷ ys) a.1 (a.0, b)

all_reverse : {X : Type 0} (P : X → Type 0) (xs : List X) → AllByRecursion P xs → AllByRecursion P (reverse xs)
all_reverse P xs a = all_aux P xs [] a tt

abbrev IfSome : {X : Type 0} → (X → Type 0) → Option X → Type 0
IfSome P None = Unit {0}
IfSome P (Some x) = P x

found_all : {X : Type 0} (P : X → Type 0) (test : X → Bool) (xs : List X) → AllByRecursion P xs
    → IfSome P (find test xs)
found_all P test [] a = tt
found_all P test (x ∷ xs) a = at_test (test x) (found_all P test xs a.1)
  where
    at_test : (b : Bool) → IfSome P (find test xs) → IfSome P (if b then Some x else find test xs)
    at_test true more = a.0
    at_test false more = more

usable_live : (s : NodeState) → nets_differ s ≡ true → AllByRecursion (IsLiveIn s.nets) (usable_nets s)
unfolding usable_nets nets_differ
usable_live s differ = by_use (may_use s)
  where
    by_use : (b : Bool) → AllByRecursion (IsLiveIn s.nets) (if b then live_nets s else [])
    by_use true = lives_found s.nets s.nets (each_found s.nets differ)
    by_use false = tt

usable_is_live : (s : NodeState) → nets_differ s ≡ true → (sequence : ℕ)
    → IfSome (λ (r : NetKey). live_net r.key s ≡ true) (usable_of s sequence)
unfolding usable_of
usable_is_live s differ sequence = found_all (IsLiveIn s.nets) (λ (r : NetKey). nat_eq r.sequence sequence)
    (reverse (usable_nets s)) (all_reverse (IsLiveIn s.nets) (usable_nets s) (usable_live s differ))

-- ---- what verification finds

abbrev OnGood : {A : Type 0} → (A → Type 0) → Verdict A → Type 0
OnGood P (Not place reason) = Unit {0}
OnGood P (Good it) = P it

reject_good : {A : Type 0} (P : A → Type 0) (bad : Bool) (place : Place) (reason : Reason) (rest : Verdict A)
    → OnGood P rest → OnGood P (reject bad place reason rest)
unfolding reject
reject_good P true place reason rest k = tt
reject_good P false place reason rest k = k

need_good : {A B : Type 0} (P : B → Type 0) (o : Option A) (place : Place) (reason : Reason) (rest : A → Verdict B)
    → ((a : A) → o ≡ Some a → OnGood P (rest a)) → OnGood P (need o place reason rest)
unfolding need
need_good P None place reason rest k = tt
need_good P (Some a) place reason rest k = k a refl

under : (s : NodeState) (layer : Layer) (t : Term) → live_net t.base s ≡ true → IsUnderLive s layer t
under s Nwk t live = live
under s Aps t live = tt

abbrev TermLive : NodeState → Term → Type 0
TermLive s t = IsUnderLive s t.layer t

net_live : (tools : Tools) → OpensAsJudged tools → (c : Setting) (s : NodeState) → nets_differ s ≡ true
    → (bytes : Bytes) (f : NwkShown) (aux : NwkAuxiliary) → tools.read_nwk bytes ≡ Some f → f.auxiliary ≡ Some aux
    → OnGood (TermLive s) (judge_net tools c s bytes aux)
unfolding judge_net
net_live tools opens c s differ bytes f aux read aux_is =
    need_good (TermLive s) (usable_of s aux.sequence) _ _ _ (λ row found.
    reject_good (TermLive s) _ _ _ _ (
    reject_good (TermLive s) _ _ _ _ (
    need_good (TermLive s) (tools.open_nwk bytes row.key) _ _ _ (λ t opened.
    reject_good (TermLive s) _ _ _ _ (
    reject_good (TermLive s) _ _ _ _ (
    reject_good (TermLive s) _ _ _ _ (
    under s t.layer t
    (subst (λ k. live_net k s ≡ true) (sym (opens.nwk bytes row.key f aux t read aux_is opened).1)
    (subst (IfSome (λ (r : NetKey). live_net r.key s ≡ true)) found (usable_is_live s differ aux.sequence)))
    )))))))

abbrev CarrierLive : NodeState → Carrier → Type 0
CarrierLive s k = IfSome (TermLive s) k.term

carried : (s : NodeState) (f : NwkShown) (v : Verdict Term) → OnGood (TermLive s) v
    → OnGood (CarrierLive s) (carrier f v)
carried s f (Not place reason) good = tt
carried s f (Good t) good = good

security_live : (tools : Tools) → OpensAsJudged tools → (c : Setting) (s : NodeState) → nets_differ s ≡ true
    → (bytes : Bytes) (f : NwkShown) (o : Option NwkAuxiliary) → tools.read_nwk bytes ≡ Some f → f.auxiliary ≡ o
    → OnGood (CarrierLive s) (judge_security tools c s bytes f o)
security_live tools opens c s differ bytes f None read aux_is = reject_good (CarrierLive s) _ _ _ _ tt
security_live tools opens c s differ bytes f (Some aux) read aux_is = carried s f (judge_net tools c s bytes aux)
    (net_live tools opens c s differ bytes f aux read aux_is)

nwk_live : (tools : Tools) → OpensAsJudged tools → (c : Setting) (s : NodeState) → nets_differ s ≡ true
    → (bytes : Bytes) → OnGood (CarrierLive s) (judge_nwk tools c s bytes)
unfolding judge_nwk
nwk_live tools opens c s differ bytes =
    need_good (CarrierLive s) (tools.read_nwk bytes) _ _ _
    (λ f read. reject_good (CarrierLive s) _ _ _ _
    (security_live tools opens c s differ bytes f f.auxiliary read refl))

abbrev IsAps : Unsealed → Type 0
IsAps u = u.term.layer ≡ Aps

aps_good : (tools : Tools) → OpensAsJudged tools → (c : Setting) (s : NodeState) (f : NwkShown) (bytes : Bytes)
    (a : ApsShown) (aux : ApsAuxiliary) → tools.read_aps bytes ≡ Some a → a.auxiliary ≡ Some aux
    → OnGood IsAps (judge_aps tools c s f bytes aux)
unfolding judge_aps
aps_good tools opens c s f bytes a aux read aux_is =
    need_good IsAps (aps_source c f aux) _ _ _ (λ source named.
    need_good IsAps (chosen_row tools bytes source (candidates s source)) _ _ _ (λ row found.
    reject_good IsAps _ _ _ _ (
    reject_good IsAps _ _ _ _ (
    need_good IsAps (tools.open_aps bytes row.key source) _ _ _ (λ t opened.
    (opens.aps bytes row.key source a aux t read aux_is opened).0)))))

-- ---- the terms of a plan

alone : (s : NodeState) (o : Option Term) → IfSome (TermLive s) o → AreUnderLive s (option_to_list o)
alone s None live = tt
alone s (Some t) live = (live, tt)

with_aps : (s : NodeState) (o : Option Term) (t : Term) → IfSome (TermLive s) o → t.layer ≡ Aps
    → AreUnderLive s (option_to_list o ++ t ∷ [])
with_aps s None t live aps = (subst (λ layer. IsUnderLive s layer t) (sym aps) tt, tt)
with_aps s (Some n) t live aps = (live, (subst (λ layer. IsUnderLive s layer t) (sym aps) tt, tt))

either : (s : NodeState) (b : Bool) (p q : Plan) → AreUnderLive s p.accepts → AreUnderLive s q.accepts
    → AreUnderLive s (if b then p else q).accepts
either s true p q x y = x
either s false p q x y = y

leave_live : (c : Setting) (s : NodeState) (t : Term) → TermLive s t → (o : LeaveShown)
    → AreUnderLive s (nwk_command c t o).accepts
leave_live c s t live (Leave options) = (live, tt)
leave_live c s t live Other = (live, tt)
leave_live c s t live NoCommand = (live, tt)

command_live : (tools : Tools) (c : Setting) (s : NodeState) (draw : Option Bytes) (ts : List Term) (m : Heard)
    (o : CommandShown) → AreUnderLive s ts → AreUnderLive s (aps_command tools c s draw ts m o).accepts
command_live tools c s draw ts m (Known command) live = live
command_live tools c s draw ts m Unknown live = live
command_live tools c s draw ts m Broken live = live

clear_live : (tools : Tools) (c : Setting) (s : NodeState) (draw : Option Bytes) (nwk : Option Term) (a : ApsShown)
    → IfSome (TermLive s) nwk → AreUnderLive s (clear_part tools c s draw nwk a).accepts
clear_live tools c s draw nwk a live =
    either s a.is_command _ _
    (command_live tools c s draw (option_to_list nwk) (heard_clear nwk) (tools.read_command a.body)
    (alone s nwk live)) (alone s nwk live)

sealed_live : (tools : Tools) (c : Setting) (s : NodeState) (draw : Option Bytes) (nwk : Option Term) (a : ApsShown)
    (aux : ApsAuxiliary) (v : Verdict Unsealed) → IfSome (TermLive s) nwk → OnGood IsAps v
    → AreUnderLive s (sealed_part tools c s draw nwk a aux v).accepts
sealed_live tools c s draw nwk a aux (Not place reason) live good = alone s nwk live
sealed_live tools c s draw nwk a aux (Good u) live good =
    either s a.is_command _ _
    (command_live tools c s draw (option_to_list nwk ++ u.term ∷ []) (heard_sealed nwk aux u)
    (tools.read_command u.term.content) (with_aps s nwk u.term live good)) (with_aps s nwk u.term live good)

module _ (tools : Tools) (opens : OpensAsJudged tools) (c : Setting) (s : NodeState) where
  by_security_live : (draw : Option Bytes) (f : NwkShown) (nwk : Option Term) (a : ApsShown) (o : Option ApsAuxiliary)
      → tools.read_aps (payload_of f nwk) ≡ Some a → a.auxiliary ≡ o → IfSome (TermLive s) nwk
      → AreUnderLive s (by_security tools c s draw f nwk a o).accepts
  by_security_live draw f nwk a None read aux_is live = clear_live tools c s draw nwk a live
  by_security_live draw f nwk a (Some aux) read aux_is live =
      sealed_live tools c s draw nwk a aux (judge_aps tools c s f (payload_of f nwk) aux) live
      (aps_good tools opens c s f (payload_of f nwk) a aux read aux_is)

  aps_part_live : (draw : Option Bytes) (f : NwkShown) (nwk : Option Term) (o : Option ApsShown)
      → tools.read_aps (payload_of f nwk) ≡ o → IfSome (TermLive s) nwk
      → AreUnderLive s (aps_part tools c s draw f nwk o).accepts
  aps_part_live draw f nwk None read live = alone s nwk live
  aps_part_live draw f nwk (Some a) read live = by_security_live draw f nwk a a.auxiliary read refl live

  net_part_live : (draw : Option Bytes) (f : NwkShown) (nwk : Option Term) → IfSome (TermLive s) nwk
      → AreUnderLive s (net_part tools c s draw f nwk).accepts
  net_part_live draw f None live = aps_part_live draw f None (tools.read_aps f.body) refl tt
  net_part_live draw f (Some t) live =
      either s f.is_command _ _ (leave_live c s t live (tools.read_leave t.content))
      (aps_part_live draw f (Some t) (tools.read_aps t.content) refl live)

  received_live : (draw : Option Bytes) (v : Verdict Carrier) → OnGood (CarrierLive s) v
      → AreUnderLive s (received_as tools c s draw v).accepts
  received_live draw (Not place reason) good = tt
  received_live draw (Good k) good = net_part_live draw k.frame k.term good

pub accepts_live : (tools : Tools) → OpensAsJudged tools → (c : Setting) (s : NodeState) → nets_differ s ≡ true
    → (task : Task) → AreUnderLive s (plan_of tools c s task).accepts
unfolding plan_of
accepts_live tools opens c s differ (Received bytes draw) =
    received_live tools opens c s draw (judge_nwk tools c s bytes) (nwk_live tools opens c s differ bytes)
accepts_live tools opens c s differ (SayTo to bytes) = tt
accepts_live tools opens c s differ (TellTo partner bytes) = tt
accepts_live tools opens c s differ DoKnock = tt
accepts_live tools opens c s differ DoRejoin = tt
accepts_live tools opens c s differ DoTimer = tt
accepts_live tools opens c s differ (AskFor partner) = tt
accepts_live tools opens c s differ (HasChild child rejoin) = tt
accepts_live tools opens c s differ (DoProvision device key) = tt
accepts_live tools opens c s differ (DoRemove device via) = tt
accepts_live tools opens c s differ (DoRoll draw) = tt
accepts_live tools opens c s differ DoSwitch = tt
accepts_live tools opens c s differ (DoAgain device) = tt
accepts_live tools opens c s differ (DoShare device partner) = tt
