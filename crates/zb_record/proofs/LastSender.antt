-- Ascending senders are all below another one if the last of them is.
use Rattle.std.proofs.Common.{◌≡◌, ℕ, suc, ◌-◌, ◌&&◌, Bool, true, false, List, [], ◌∷◌, length, map, Option, Some, None, is_some, refl, sym, ap, arith, ◌∙◌, true≢false}
use Rattle.std.specs.Prelude.{nat_lt, slice_get}
use Rattle.std.specs.List.{list_all}
use Rattle.std.proofs.lemmas.Bool.{ltb-true, lt-ltb}
use Rattle.law_change_fits.proofs.Tests.{both}
use Rattle.zb_model.specs.Fits.{senders_ascend}
use Rattle.zb_model.specs.State as model
use Rattle.zb_record.specs.Rows.{sender_seen}
use Rattle.zb_record.specs.declared.sender.SenderRecord.{SenderRecord}

-- the last of a list that isn't empty
abbrev top : SenderRecord → List SenderRecord → SenderRecord
top x [] = x
top x (y ∷ ys) = top y ys

at_last : (x : SenderRecord) (xs : List SenderRecord) → slice_get (x ∷ xs) (length xs) ≡ Some (top x xs)
at_last x [] = refl
at_last x (y ∷ ys) = at_last y ys

only_true : (b : Bool) → (b && true) ≡ b
only_true true = refl
only_true false = refl

never_true : (b : Bool) → (b && false) ≡ false
never_true true = refl
never_true false = refl

all_below : (x : SenderRecord) (xs : List SenderRecord) (s : ℕ) → senders_ascend (map sender_seen (x ∷ xs)) ≡ true
    → list_all (λ (g : model.SenderFloor). nat_lt g.sender s) (map sender_seen (x ∷ xs))
    ≡ nat_lt (top x xs).sender.0 s
all_below x [] s ascend = only_true (nat_lt x.sender.0 s)
all_below x (y ∷ ys) s ascend = by_rest (nat_lt (top y ys).sender.0 s) (all_below y ys s parts.1)
  where
    parts : (list_all (λ (g : model.SenderFloor). nat_lt x.sender.0 g.sender) (map sender_seen (y ∷ ys)) ≡ true)
        × (senders_ascend (map sender_seen (y ∷ ys)) ≡ true)
    parts = both (list_all (λ (g : model.SenderFloor). nat_lt x.sender.0 g.sender) (map sender_seen (y ∷ ys)))
        (senders_ascend (map sender_seen (y ∷ ys))) ascend

    first : nat_lt x.sender.0 y.sender.0 ≡ true
    first = (both (nat_lt x.sender.0 y.sender.0)
        (list_all (λ (g : model.SenderFloor). nat_lt x.sender.0 g.sender) (map sender_seen ys)) parts.0).0

    by_rest : (b : Bool)
        → list_all (λ (g : model.SenderFloor). nat_lt g.sender s) (map sender_seen (y ∷ ys)) ≡ b
        → (nat_lt x.sender.0 s
        && list_all (λ (g : model.SenderFloor). nat_lt g.sender s) (map sender_seen (y ∷ ys))) ≡ b
    by_rest true all =
        let second : nat_lt y.sender.0 s ≡ true = (both (nat_lt y.sender.0 s)
        (list_all (λ (g : model.SenderFloor). nat_lt g.sender s) (map sender_seen ys)) all).0 in
        let below : nat_lt x.sender.0 s ≡ true = lt-ltb x.sender.0 s
        (omega (arith, ltb-true x.sender.0 y.sender.0 first, ltb-true y.sender.0 s second)) in
        rw (below, all) refl
    by_rest false all =
        ap (λ (b : Bool). nat_lt x.sender.0 s && b) all ∙ never_true (nat_lt x.sender.0 s)

less_one : (n : ℕ) → suc n - 1 ≡ n
less_one n = omega arith

abbrev found : SenderRecord → Option SenderRecord → SenderRecord
found d None = d
found d (Some x) = x

pub above_last : (xs : List SenderRecord) (f : SenderRecord) (s : ℕ) → Some f ≡ slice_get xs (length xs - 1)
    → senders_ascend (map sender_seen xs) ≡ true
    → nat_lt f.sender.0 s ≡ list_all (λ (g : model.SenderFloor). nat_lt g.sender s) (map sender_seen xs)
above_last [] f s at ascend = absurd (true≢false (ap is_some at))
above_last (x ∷ xs) f s at ascend =
    let same : f ≡ top x xs = ap (found f)
    (at ∙ ap (slice_get (x ∷ xs)) (less_one (length xs)) ∙ at_last x xs) in
    ap (λ (g : SenderRecord). nat_lt g.sender.0 s) same ∙ sym (all_below x xs s ascend)

pub above_none : (xs : List SenderRecord) (s : ℕ) → None ≡ slice_get xs (length xs - 1)
    → true ≡ list_all (λ (g : model.SenderFloor). nat_lt g.sender s) (map sender_seen xs)
above_none [] s at = refl
above_none (x ∷ xs) s at = absurd (true≢false (sym (ap is_some
    (at ∙ ap (slice_get (x ∷ xs)) (less_one (length xs)) ∙ at_last x xs))))
