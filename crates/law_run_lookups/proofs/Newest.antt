-- By the rules for records the active network key is live, so there is a newest live one.
use Rattle.std.proofs.Common.{◌≡◌, ℕ, Bool, true, ◌&&◌, List, [], ◌∷◌, Option, Some, None, find, is_some, reverse, refl, ◌⊎◌, inl, inr}
use mathlib.Core.List.{reverse_aux}
use Rattle.std.proofs.lemmas.Bool.{false≢true, and_parts}
use Rattle.zb_model.specs.Data.{Bytes}
use Rattle.zb_model.specs.State.{NetKey, NodeState, same_key, net_of_active, active_row, newest}
use Rattle.zb_model.specs.Fits.{keeps_rules, rows_have_room, keys_differ, at_most_two_live, active_is_live, row_is_live, partners_agree, links_are_marked, floors_are_kept, limits_are_started, role_is_kept, pairs_are_kept}
use Rattle.zb_model.specs.Tools.{Tools}
use Rattle.zb_model.specs.Readings.{state_of}
use Rattle.zb_model.specs.Play.{Schedule, Event, Own, RollOver, Deliver, Reset, PowerOn, ShowRecord, ArmStop, ArmFail, setting_of, start}
use Rattle.zb_model.specs.Schedules.{IsSchedule}
use Rattle.law_run.proofs.Judged.{In, found-element}
use Rattle.law_answer_storable.specs.Storing.{OpensAsJudged}
use Rattle.law_tables_suffice.specs.Along.{OfNode, NodesAllAlong, IsRuled, euis_differ}
use Rattle.law_tables_suffice.proofs.Ready.{ruled_along}
use Rattle.law_run_lookups.specs.Granted.{HasNewest}
use Rattle.law_run_lookups.proofs.Standing.{before-map, found-some}

in-onto : {X : Type 0} (x : X) (xs ys : List X) → In x xs ⊎ In x ys → In x (reverse_aux xs ys)
unfolding In
in-onto x [] ys (inl i) = absurd i
in-onto x [] ys (inr i) = i
in-onto x (z ∷ xs) ys (inl (inl e)) = in-onto x xs (z ∷ ys) (inr (inl e))
in-onto x (z ∷ xs) ys (inl (inr i)) = in-onto x xs (z ∷ ys) (inl i)
in-onto x (z ∷ xs) ys (inr i) = in-onto x xs (z ∷ ys) (inr (inr i))

live-newest : (s : NodeState) (r : NetKey) → In r s.nets → r.live ≡ true → is_some (newest s) ≡ true
unfolding newest
live-newest s r i e = found-some (λ (x : NetKey). x.live) r (reverse s.nets) (in-onto r s.nets [] (inl i)) e

by-row : (s : NodeState) (key : Bytes) (o : Option NetKey) → find (λ (r : NetKey). same_key r.key key) s.nets ≡ o
    → row_is_live o ≡ true → is_some (newest s) ≡ true
by-row s key None f e = absurd (false≢true e)
by-row s key (Some r) f e = live-newest s r (found-element (λ (x : NetKey). same_key x.key key) s.nets r f).0 e

by-active : (s : NodeState) (o : Option Bytes) → active_is_live (record s { active = o }) ≡ true
    → is_some (net_of_active o s) ≡ true → is_some (newest s) ≡ true
unfolding active_is_live
by-active s None e f = absurd (false≢true f)
by-active s (Some key) e f = by-row s key (find (λ (r : NetKey). same_key r.key key) s.nets) refl e

active-of : (s : NodeState) → keeps_rules s ≡ true → active_is_live s ≡ true
unfolding keeps_rules
active-of s e =
    (and_parts (active_is_live s) last
    (and_parts (at_most_two_live s) (active_is_live s && last)
    (and_parts (keys_differ s) (at_most_two_live s && (active_is_live s && last))
    (and_parts (rows_have_room s) (keys_differ s && (at_most_two_live s && (active_is_live s && last))) e).1).1).1).0
  where
    last : Bool
    last = partners_agree s
        && (links_are_marked s
        && (floors_are_kept s && (limits_are_started s && (role_is_kept s && pairs_are_kept s))))

has-newest : (s : NodeState) → keeps_rules s ≡ true → is_some (active_row s) ≡ true → is_some (newest s) ≡ true
unfolding active_row
has-newest s kept there = by-active s s.active (active-of s kept) there

of-node : (P Q : ℕ → Type 0) → ((n : ℕ) → P n → Q n) → (event : Event) → OfNode P event → OfNode Q event
of-node P Q k (Own n task) a = k n a
of-node P Q k (RollOver n) a = k n a
of-node P Q k (Deliver frame n) a = k n a
of-node P Q k (Reset n) a = k n a
of-node P Q k (PowerOn n) a = k n a
of-node P Q k (ShowRecord n) a = k n a
of-node P Q k (ArmStop n calls torn) a = k n a
of-node P Q k (ArmFail n call) a = k n a
of-node P Q k _ a = tt

pub newest-along : (tools : Tools) → OpensAsJudged tools → (w : Schedule) → IsSchedule w → euis_differ w ≡ true
    → NodesAllAlong HasNewest tools w
newest-along tools opens w i differ =
    before-map (λ h event. OfNode (λ n. IsRuled (state_of h n) (setting_of w n) n) event)
    (λ h event. OfNode (λ n. HasNewest (state_of h n) (setting_of w n) n) event)
    (λ h event a. of-node (λ n. IsRuled (state_of h n) (setting_of w n) n)
    (λ n. HasNewest (state_of h n) (setting_of w n) n) (λ n kept. has-newest (state_of h n) kept) event a)
    tools w (start w) [] 1 w.events (ruled_along tools opens w i differ)
