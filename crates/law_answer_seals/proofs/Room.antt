-- The counters that an answer's seals use were reserved: if a counter has reached its limit, a reserve makes room.
use Rattle.std.proofs.Common.{◌≡◌, ℕ, ◌<◌, ◌≤◌, ◌+◌, min, Bool, true, false, if◌then◌else◌, ◌&&◌, List, [], ◌∷◌, ◌++◌, find, Option, Some, None, option_map, option_to_list, refl, sym, ap, ◌∙◌, subst, arith}
use Rattle.std.specs.Prelude.{nat_eq}
use Rattle.std.proofs.lemmas.Bool.{eqb-false}
use Rattle.zb_model.specs.Data.{Bytes, Layer, Nwk, Aps, Edit, Reserve, Task}
use Rattle.zb_model.specs.State.{greatest_counter, NetKey, NodeState, of_active, active_row, next_counter, stored_limit, reserved, applied, applied_all, shown}
use Rattle.zb_model.specs.Tools.{Tools}
use Rattle.zb_model.specs.Rules.{Plan, Sending, Setting}
use Rattle.zb_model.specs.Answer.{seals_at, may_seal, reserve_of, edits_of, counting_of, plan_of, answer_by, answer}
use Rattle.law_answer_seals.specs.Sealing.{before_seals, IsBelow, IsReserved, SealsReserved, RowIsWithin, IsWithinLimits}
use Rattle.law_answer_seals.proofs.Rows.{Holds, with_key, On, OnAps, Rises, made_found, on_applied_all, on_accepted, on_shown, aps_applied_all, aps_accepted, aps_shown}
use Rattle.law_answer_seals.proofs.Along.{active_is, active_found, next_is, limit_is, unspent_nwk, unspent_aps, sending_at, answer_along}
use Rattle.law_answer_seals.proofs.Next.{holds_some, reserve_gentle, rest_of, rest_gentle}

-- a counter is below the limit
abbrev Room : ℕ → ℕ → ℕ → Type 0
Room n next limit = n < limit

room_rises : (n : ℕ) → Rises (Room n)
room_rises n next limit more le is = omega (arith, le, is)

abbrev block_end : Setting → ℕ → ℕ
block_end c n = min (n + c.me.out_block) greatest_counter

abbrev maybe : Layer → Option ℕ → List Edit
maybe layer o = option_to_list (option_map (Reserve layer) o)

reserve_test : (a m e : Bool) (value : ℕ) → a ≡ true → m ≡ true → (if a && (m && e) then Some value else None)
    ≡ (if e then Some value else None)
reserve_test true true e value p q = refl
reserve_test false m e value p q = absurd (cc)
reserve_test true false e value p q = absurd (cc)

-- if a frame is sealed at a layer, a limit is reserved exactly if the counter has reached it
reserve_is : (c : Setting) (s : NodeState) (send : Option Sending) (layer : Layer) → seals_at layer send ≡ true
    → may_seal s send ≡ true
    → reserve_of c s send layer
    ≡ (if nat_eq (next_counter layer s) (stored_limit layer s) then Some (block_end c (next_counter layer s))
    else None)
unfolding reserve_of
reserve_is c s send layer seals may = reserve_test (seals_at layer send) (may_seal s send)
    (nat_eq (next_counter layer s) (stored_limit layer s)) (block_end c (next_counter layer s)) seals may

-- NWK

reserved_found : (o : Option Bytes) (s : NodeState) (r : NetKey) (n value : ℕ) → o ≡ Some r.key
    → find (with_key r.key) s.nets ≡ Some r → n < min value greatest_counter
    → On (Room n) r.key (of_active (reserved value) o s.nets)
reserved_found None s r n value is found room = absurd (cc)
reserved_found (Some key) s r n value is found room =
    let same : key ≡ r.key = cc in
    subst (λ k. On (Room n) r.key (of_active (reserved value) (Some k) s.nets)) (sym same)
    (made_found (Room n) (reserved value) (λ x. refl) (λ x. omega (arith, room)) r.key s.nets r found)

within_found : (o : Option NetKey) (r : NetKey) → o ≡ Some r → RowIsWithin o → r.next ≤ r.limit
within_found o r e h = subst RowIsWithin e h

nwk_room_by : (s : NodeState) (r : NetKey) (value : ℕ) (b : Bool) → nat_eq (next_counter Nwk s) (stored_limit Nwk s)
    ≡ b → active_row s ≡ Some r → IsWithinLimits s → next_counter Nwk s < min value greatest_counter
    → On (Room (next_counter Nwk s)) r.key (applied_all (maybe Nwk (if b then Some value else None)) s).nets
unfolding applied_all applied
nwk_room_by s r value true e found within room = reserved_found s.active s r (next_counter Nwk s) value
    (active_is s r found) (active_found s r found) room
nwk_room_by s r value false e found within room =
    let under = within_found (find (with_key r.key) s.nets) r (active_found s r found) (within.nets r.key) in
    holds_some (Room (next_counter Nwk s)) (find (with_key r.key) s.nets) r (active_found s r found)
    (omega (
      arith,
      under,
      next_is s r found,
      limit_is s r found,
      eqb-false (next_counter Nwk s) (stored_limit Nwk s)
          e,
    ))

-- APS

aps_room_by : (s u : NodeState) (value : ℕ) (b : Bool) → nat_eq (next_counter Aps s) (stored_limit Aps s) ≡ b
    → u.aps_limit ≡ s.aps_limit → IsWithinLimits s → next_counter Aps s < min value greatest_counter
    → OnAps (Room (next_counter Aps s)) (applied_all (maybe Aps (if b then Some value else None)) u)
unfolding applied_all applied next_counter stored_limit
aps_room_by s u value true e limit within room = omega (arith, room)
aps_room_by s u value false e limit within room = omega (arith, within.aps, limit, eqb-false s.aps_next s.aps_limit e)

nwk_reserve_limit : (o : Option ℕ) (s : NodeState) → (applied_all (maybe Nwk o) s).aps_limit ≡ s.aps_limit
unfolding applied_all applied
nwk_reserve_limit None s = refl
nwk_reserve_limit (Some value) s = refl

-- all changes

applied_append : (xs ys : List Edit) (s : NodeState) → applied_all (xs ++ ys) s ≡ applied_all ys (applied_all xs s)
unfolding applied_all
applied_append [] ys s = refl
applied_append (x ∷ xs) ys s = applied_append xs ys (applied x s)

three : (a b d : List Edit) (s : NodeState) → applied_all ((a ++ b) ++ d) s
    ≡ applied_all d (applied_all b (applied_all a s))
three a b d s = applied_append (a ++ b) d s ∙ ap (applied_all d) (applied_append a b s)

module _ (tools : Tools) (c : Setting) (s : NodeState) (task : Task) (within : IsWithinLimits s)
    (block : 1 ≤ c.me.out_block) (may : may_seal s (sending_at tools c s task) ≡ true) where
  p : Plan
  p = plan_of tools c s task

  at_nwk : List Edit
  at_nwk = maybe Nwk (reserve_of c s (sending_at tools c s task) Nwk)

  at_aps : List Edit
  at_aps = maybe Aps (reserve_of c s (sending_at tools c s task) Aps)

  changed_is : applied_all (answer tools c s task).edits s
      ≡ applied_all (rest_of c s p) (applied_all at_aps (applied_all at_nwk s))
  unfolding answer answer_by edits_of counting_of p at_nwk at_aps
  changed_is = three at_nwk at_aps (rest_of c s p) s

  nwk_changed : seals_at Nwk (sending_at tools c s task) ≡ true → (r : NetKey) → active_row s ≡ Some r
      → On (Room (next_counter Nwk s)) r.key (applied_all (answer tools c s task).edits s).nets
  unfolding at_nwk at_aps
  nwk_changed seals r found =
      let n = next_counter Nwk s in
      let one : On (Room n) r.key (applied_all at_nwk s).nets =
      subst (λ o. On (Room n) r.key (applied_all (maybe Nwk o) s).nets)
      (sym (reserve_is c s (sending_at tools c s task) Nwk seals may))
      (nwk_room_by s r (block_end c n) (nat_eq n (stored_limit Nwk s)) refl found within
      (omega (arith, block, unspent_nwk s (sending_at tools c s task) may seals))) in
      subst (λ u. On (Room n) r.key u.nets) (sym changed_is)
      (on_applied_all n (Room n) (room_rises n) (λ next limit value le is. omega (arith, is)) r.key (rest_of c s p)
      (applied_all at_aps (applied_all at_nwk s)) (rest_gentle c s p)
      (on_applied_all n (Room n) (room_rises n) (λ next limit value le is. omega (arith, is)) r.key at_aps
      (applied_all at_nwk s) (reserve_gentle n Aps (reserve_of c s (sending_at tools c s task) Aps)) one))

  aps_changed : seals_at Aps (sending_at tools c s task) ≡ true
      → OnAps (Room (next_counter Aps s)) (applied_all (answer tools c s task).edits s)
  unfolding at_nwk at_aps
  aps_changed seals =
      let n = next_counter Aps s in
      let one : OnAps (Room n) (applied_all at_aps (applied_all at_nwk s)) =
      subst (λ o. OnAps (Room n) (applied_all (maybe Aps o) (applied_all at_nwk s)))
      (sym (reserve_is c s (sending_at tools c s task) Aps seals may))
      (aps_room_by s (applied_all at_nwk s) (block_end c n) (nat_eq n (stored_limit Aps s)) refl
      (nwk_reserve_limit (reserve_of c s (sending_at tools c s task) Nwk) s) within
      (omega (arith, block, unspent_aps s (sending_at tools c s task) may seals))) in
      subst (OnAps (Room n)) (sym changed_is)
      (aps_applied_all (Room n) (room_rises n) (rest_of c s p) (applied_all at_aps (applied_all at_nwk s)) one)

  nwk_room : seals_at Nwk (sending_at tools c s task) ≡ true → (r : NetKey) → active_row s ≡ Some r
      → On (Room (next_counter Nwk s)) r.key (before_seals (answer tools c s task) s).nets
  nwk_room seals r found =
      let a = answer tools c s task in
      let n = next_counter Nwk s in
      on_accepted (Room n) r.key a.accepts (shown (applied_all a.edits s))
      (on_shown (Room n) r.key (applied_all a.edits s) (nwk_changed seals r found))

  aps_room : seals_at Aps (sending_at tools c s task) ≡ true
      → OnAps (Room (next_counter Aps s)) (before_seals (answer tools c s task) s)
  aps_room seals =
      let a = answer tools c s task in
      let n = next_counter Aps s in
      aps_accepted (Room n) a.accepts (shown (applied_all a.edits s))
      (aps_shown (Room n) (applied_all a.edits s) (aps_changed seals))

below_found : (n : ℕ) (o : Option NetKey) → Holds (Room n) o → IsBelow n (option_map (λ (r : NetKey). r.limit) o)
unfolding Holds
below_found n None h = absurd h
below_found n (Some r) h = h

pub answer_reserved : (tools : Tools) (c : Setting) (s : NodeState) (task : Task) → IsWithinLimits s → 1
    ≤ c.me.out_block → SealsReserved (before_seals (answer tools c s task) s) (answer tools c s task).seals
answer_reserved tools c s task within block =
    answer_along IsReserved tools c s task (before_seals (answer tools c s task) s)
    (λ may seals front label key content. aps_room tools c s task within block may seals)
    (λ may seals r e u same control to bytes.
    subst (λ (rs : List NetKey). IsBelow (next_counter Nwk s)
    (option_map (λ (x : NetKey). x.limit) (find (with_key r.key) rs))) (sym same)
    (below_found (next_counter Nwk s) (find (with_key r.key) (before_seals (answer tools c s task) s).nets)
    (nwk_room tools c s task within block may seals r e)))
