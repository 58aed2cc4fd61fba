-- The seals of an answer, one after the other: if a claim is true of APS and of NWK terms with the answer's counters,
-- it is true of each seal.
use Rattle.std.proofs.Common.{◌≡◌, ℕ, ◌<◌, ◌+◌, Bool, true, false, not, ◌&&◌, ◌||◌, if◌then◌else◌, List, [], ◌∷◌, ◌++◌, Option, Some, None, refl, sym, ap, ◌∙◌, subst, leb-false}
use Rattle.std.specs.Prelude.{find, is_some, nat_le}
use Rattle.std.proofs.lemmas.Bool.{not-true}
use Rattle.zb_model.specs.Data.{Bytes, Nwk, Aps, Label, ForTransport, ForData, Term, Task}
use Rattle.zb_model.specs.State.{greatest_counter, NetKey, NodeState, net_of_active, active_row, next_of, limit_of, next_counter, stored_limit, after_sealing}
use Rattle.zb_model.specs.Tools.{Tools}
use Rattle.zb_model.specs.Frames.{nwk_term, aps_term, sealed_command, data_front, sealed_data}
use Rattle.zb_model.specs.Rules.{Body, Saying, Clear, Secret, Tunnelled, Telling, Leaving, Relayed, Sending, Setting, spent}
use Rattle.zb_model.specs.Answer.{Counting, has_aps_seal, seals_at, part_of, framed, sent, nothing_out, may_seal, out_of, sending_of, counting_of, plan_of, answer_by, answer}
use Rattle.law_change_fits.proofs.Tests.{both}
use Rattle.law_change_fits.proofs.Parts.{same_key_is}
use Rattle.law_answer_seals.specs.Sealing.{SealsAlong}
use Rattle.law_answer_seals.proofs.Rows.{with_key}

-- the active row

abbrev Passes : (NetKey → Bool) → Option NetKey → Type 0
Passes q None = Unit {0}
Passes q (Some r) = q r ≡ true

passes : (q : NetKey → Bool) (rs : List NetKey) → Passes q (find q rs)
passes q [] = tt
passes q (r ∷ rs) = by_test (q r) refl (passes q rs)
  where
    by_test : (b : Bool) → q r ≡ b → Passes q (find q rs) → Passes q (if b then Some r else find q rs)
    by_test true e h = e
    by_test false e h = h

pub found_key : (key : Bytes) (rs : List NetKey) (r : NetKey) → find (with_key key) rs ≡ Some r → r.key ≡ key
found_key key rs r e = same_key_is r.key key (subst (Passes (with_key key)) e (passes (with_key key) rs))

key_of_active : (o : Option Bytes) (s : NodeState) (r : NetKey) → net_of_active o s ≡ Some r → o ≡ Some r.key
key_of_active None s r e = absurd (cc)
key_of_active (Some key) s r e = ap Some (sym (found_key key s.nets r e))

-- the active row is under the active key
pub active_is : (s : NodeState) (r : NetKey) → active_row s ≡ Some r → s.active ≡ Some r.key
unfolding active_row
active_is s r e = key_of_active s.active s r e

-- and is found by its own key
pub active_found : (s : NodeState) (r : NetKey) → active_row s ≡ Some r → find (with_key r.key) s.nets ≡ Some r
unfolding active_row
active_found s r e = sym (ap (λ o. net_of_active o s) (active_is s r e)) ∙ e

pub next_is : (s : NodeState) (r : NetKey) → active_row s ≡ Some r → next_counter Nwk s ≡ r.next
unfolding next_counter
next_is s r e = ap (next_of s.declared) e

pub limit_is : (s : NodeState) (r : NetKey) → active_row s ≡ Some r → stored_limit Nwk s ≡ r.limit
unfolding stored_limit
limit_is s r e = ap (limit_of s.declared) e

-- what a frame that may be sealed has

or_then : (a b : Bool) → (not a || b) ≡ true → a ≡ true → b ≡ true
or_then true b e f = e
or_then false b e f = absurd (cc)

pub unspent_nwk : (s : NodeState) (send : Option Sending) → may_seal s send ≡ true → seals_at Nwk send ≡ true
    → next_counter Nwk s < greatest_counter
unfolding may_seal spent
unspent_nwk s send may seals =
    let parts =
    both (not (seals_at Nwk send)
    || (is_some (active_row s) && not (nat_le greatest_counter (next_counter Nwk s)))) _ may in
    let here = both (is_some (active_row s)) (not (nat_le greatest_counter (next_counter Nwk s)))
    (or_then (seals_at Nwk send) _ parts.0 seals) in
    leb-false greatest_counter (next_counter Nwk s) (not-true _ here.1)

pub unspent_aps : (s : NodeState) (send : Option Sending) → may_seal s send ≡ true → seals_at Aps send ≡ true
    → next_counter Aps s < greatest_counter
unfolding may_seal spent
unspent_aps s send may seals =
    let parts =
    both (not (seals_at Nwk send)
    || (is_some (active_row s) && not (nat_le greatest_counter (next_counter Nwk s)))) _ may in
    leb-false greatest_counter (next_counter Aps s) (not-true _ (or_then (seals_at Aps send) _ parts.1 seals))

-- the claim, of every APS term, and of every NWK term under a row, in a state with the same rows

abbrev pub OfAps : (NodeState → Term → Type 0) → Setting → ℕ → NodeState → Type 0
OfAps P c aps s = (front : Bytes) (label : Label) (key content : Bytes)
    → P s (aps_term front label key c.me.eui aps content)

abbrev pub OfNwk : (NodeState → Term → Type 0) → Setting → ℕ → NodeState → NetKey → Type 0
OfNwk P c nwk s r = (u : NodeState) → u.nets ≡ s.nets → (control to : ℕ) (bytes : Bytes)
    → P u (nwk_term control to c.me.short c.me.eui r.key r.sequence nwk bytes)

module _ (P : NodeState → Term → Type 0) (tools : Tools) (c : Setting) (to nwk aps : ℕ) (s : NodeState) where
  part_along : (body : Body) → (has_aps_seal body ≡ true → OfAps P c aps s)
      → SealsAlong P s (part_of tools c.me.eui to nwk aps body).seals
  unfolding part_of
  part_along (Saying bytes) g = tt
  part_along (Clear control command) g = tt
  part_along (Secret label key command) g = (g refl sealed_command label key (tools.spelled command), tt)
  part_along (Tunnelled device key command) g = (g refl sealed_command ForTransport key (tools.spelled command), tt)
  part_along (Telling key bytes) g = (g refl (data_front sealed_data) ForData key bytes, tt)
  part_along Leaving g = tt
  part_along (Relayed bytes) g = tt

  both_along : (body : Body) → (has_aps_seal body ≡ true → OfAps P c aps s) → (r : NetKey) → OfNwk P c nwk s r
      → (control : ℕ) (bytes : Bytes)
      → SealsAlong P s
      ((part_of tools c.me.eui to nwk aps body).seals ++ nwk_term control to c.me.short c.me.eui r.key r.sequence
      nwk bytes ∷ [])
  unfolding part_of after_sealing
  both_along (Saying _) g r k control bytes = (k s refl control to bytes, tt)
  both_along (Clear _ command) g r k control bytes = (k s refl control to bytes, tt)
  both_along (Secret label key command) g r k control bytes = (
    g refl sealed_command label key (tools.spelled command),
    (k (record s { aps_next = aps + 1 }) refl control to bytes, tt),
  )
  both_along (Tunnelled device key command) g r k control bytes = (
    g refl sealed_command ForTransport key (tools.spelled command),
    (k (record s { aps_next = aps + 1 }) refl control to bytes, tt),
  )
  both_along (Telling key said) g r k control bytes = (
    g refl (data_front sealed_data) ForData key said,
    (k (record s { aps_next = aps + 1 }) refl control to bytes, tt),
  )
  both_along Leaving g r k control bytes = (k s refl control to bytes, tt)
  both_along (Relayed _) g r k control bytes = (k s refl control to bytes, tt)

  framed_along : (secured : Bool) (row : Option NetKey) (body : Body) → (has_aps_seal body ≡ true → OfAps P c aps s)
      → (secured ≡ true → (r : NetKey) → row ≡ Some r → OfNwk P c nwk s r)
      → SealsAlong P s (framed tools c to nwk secured row (part_of tools c.me.eui to nwk aps body)).seals
  framed_along false row body g k = part_along body g
  framed_along true None body g k = tt
  framed_along true (Some r) body g k =
      both_along body g r (k refl r refl) (part_of tools c.me.eui to nwk aps body).control
      (part_of tools c.me.eui to nwk aps body).bytes

sent_along : (P : NodeState → Term → Type 0) (tools : Tools) (c : Setting) (s0 : NodeState) (k : Counting)
    (s : NodeState) (send : Option Sending)
    → (seals_at Aps send ≡ true → OfAps P c (k.counter Aps) s)
    → (seals_at Nwk send ≡ true → (r : NetKey) → active_row s0 ≡ Some r → OfNwk P c (k.counter Nwk) s r)
    → SealsAlong P s (sent tools c s0 k send).seals
sent_along P tools c s0 k s None g h = tt
sent_along P tools c s0 k s (Some send) g h = framed_along P tools c send.to (k.counter Nwk) (k.counter Aps) s
    send.secured (active_row s0) send.body g h

-- what an event sends
abbrev pub sending_at : Tools → Setting → NodeState → Task → Option Sending
sending_at tools c s task = sending_of (plan_of tools c s task).outcome

-- the seals of the answer in s0, in the state s
pub answer_along : (P : NodeState → Term → Type 0) (tools : Tools) (c : Setting) (s0 : NodeState) (task : Task)
    (s : NodeState)
    → (may_seal s0 (sending_at tools c s0 task) ≡ true → seals_at Aps (sending_at tools c s0 task) ≡ true
    → OfAps P c (next_counter Aps s0) s)
    → (may_seal s0 (sending_at tools c s0 task) ≡ true → seals_at Nwk (sending_at tools c s0 task) ≡ true
    → (r : NetKey) → active_row s0 ≡ Some r → OfNwk P c (next_counter Nwk s0) s r)
    → SealsAlong P s (answer tools c s0 task).seals
unfolding answer answer_by out_of counting_of
answer_along P tools c s0 task s g h = by_test (may_seal s0 send) refl
  where
    send : Option Sending
    send = sending_at tools c s0 task

    k : Counting
    k = counting_of c s0 (plan_of tools c s0 task)

    by_test : (b : Bool) → may_seal s0 send ≡ b → SealsAlong P s (if b then sent tools c s0 k send
        else nothing_out).seals
    by_test true may = sent_along P tools c s0 k s send (g may) (h may)
    by_test false may = tt
