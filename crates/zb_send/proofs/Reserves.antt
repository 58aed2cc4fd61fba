-- What a draw stores first is what the model reserves for a frame.
use Rattle.std.proofs.Common.{◌≡◌, ◌+◌, ◌&&◌, ◌||◌, ℕ, min, not, nat_eq, Bool, true, false, Option, Some, None, is_some, if◌then◌else◌, refl, sym, ◌∙◌, ap}
use Rattle.zb_model.specs.Answer.{may_seal, reserve_of, seals_at}
use Rattle.zb_model.specs.Data.{Layer, Nwk, Aps}
use Rattle.zb_model.specs.Rules.{Sending, Setting, spent}
use Rattle.zb_model.specs.State.{NodeState, active_row, greatest_counter, next_counter, stored_limit}
use Rattle.zb_rows.specs.Drawing.{reserve_at}
use Rattle.zb_send.specs.Sent.{drawn_limit}

and_false : (b : Bool) → (b && false) ≡ false
and_false true = refl
and_false false = refl

-- where the counter of a layer has reached its end nothing may be sealed there
none_sealed : (s : NodeState) (send : Option Sending) (layer : Layer) → seals_at layer send ≡ true → spent layer s
    ≡ true → may_seal s send ≡ false
unfolding may_seal
none_sealed s send Nwk seals end =
    ap (λ b. (not b || (is_some (active_row s) && not (spent Nwk s)))
    && (not (seals_at Aps send) || not (spent Aps s))) seals
    ∙ ap (λ b. (is_some (active_row s) && not b) && (not (seals_at Aps send) || not (spent Aps s))) end
    ∙ ap (λ b. b && (not (seals_at Aps send) || not (spent Aps s))) (and_false (is_some (active_row s)))
none_sealed s send Aps seals end =
    let front = not (seals_at Nwk send) || (is_some (active_row s) && not (spent Nwk s)) in
    ap (λ b. front && (not b || not (spent Aps s))) seals ∙ ap (λ b. front && not b) end ∙ and_false front

unspent : (s : NodeState) (send : Option Sending) (layer : Layer) → seals_at layer send ≡ true → may_seal s send
    ≡ true → spent layer s ≡ false
unspent s send layer seals may = by_end (spent layer s) refl
  where
    by_end : (b : Bool) → spent layer s ≡ b → spent layer s ≡ false
    by_end true end = end ∙ (sym may ∙ none_sealed s send layer seals end)
    by_end false end = end

first_of : (a b : Bool) → (a && b) ≡ true → a ≡ true
first_of true b both = refl
first_of false b both = both

second_of : (a b : Bool) → (a && b) ≡ true → b ≡ true
second_of true b both = both
second_of false b both = absurd cc

pub reserved_is : (c : Setting) (s : NodeState) (send : Option Sending) (layer : Layer)
    → (seals_at layer send && may_seal s send) ≡ true → drawn_limit c s layer ≡ reserve_of c s send layer
unfolding reserve_of
reserved_is c s send layer both =
    let seals = first_of (seals_at layer send) (may_seal s send) both in
    let may = second_of (seals_at layer send) (may_seal s send) both in
    let full = nat_eq (next_counter layer s) (stored_limit layer s) in
    let some = Some (min (next_counter layer s + c.me.out_block) greatest_counter) in
    ap (λ b. if b then None else reserve_at c s layer) (unspent s send layer seals may)
    ∙ sym
    (ap (λ b. if b && (may_seal s send && full) then some else None) seals
    ∙ ap (λ b. if b && full then some else None) may)

none_by : (seals may full : Bool) (limit : Option ℕ) → (seals && may) ≡ false → None
    ≡ (if seals && (may && full) then limit else None)
none_by true true full limit neither = absurd cc
none_by true false full limit neither = refl
none_by false may full limit neither = refl

pub none_reserved : (c : Setting) (s : NodeState) (send : Option Sending) (layer : Layer)
    → (seals_at layer send && may_seal s send) ≡ false → None ≡ reserve_of c s send layer
unfolding reserve_of
none_reserved c s send layer neither =
    none_by (seals_at layer send) (may_seal s send) (nat_eq (next_counter layer s) (stored_limit layer s))
    (Some (min (next_counter layer s + c.me.out_block) greatest_counter)) neither
