-- What the lines of a whole group make of a node's state: its changes, its accepted terms and its seals, in this
-- order.
use Rattle.std.proofs.Common.{◌≡◌, ℕ, ◌+◌, cond, List, [], ◌∷◌, ◌++◌, map, length, Option, Some, None, refl, sym, ap, ◌∙◌, append_assoc}
use Rattle.std.specs.List.{AllByRecursion}
use Rattle.zb_model.specs.Data.{Bytes, Term, Place, Reason}
use Rattle.zb_model.specs.Lines.{Line, Accept, Seal}
use Rattle.zb_model.specs.State.{NodeState, after_accepting, after_sealing}
use Rattle.zb_model.specs.Answer.{Answer, accepted_all, sealed_all, answered}
use Rattle.zb_model.specs.Readings.{state_of, heard_line, after, speaker, air}
use Rattle.zb_model.specs.Play.{refuse_lines, send_lines, stored_lines, told_lines, group_of}
use Rattle.law_run.proofs.Basics.{nat_eq-refl, state-snoc, append-nil'}
use Rattle.law_run.proofs.Groups.{lines-keep}
use Rattle.law_run.proofs.GroupSeals.{stored-state}

-- lines that leave every state as it is
abbrev Leaves : Line → Type 0
Leaves l = (s : NodeState) → after l s ≡ s

leaves-keep : (Φ : NodeState) (ls : List Line) → AllByRecursion Leaves ls
    → AllByRecursion (λ l. (s : NodeState) → s ≡ Φ → after l s ≡ Φ) ls
leaves-keep Φ [] a = tt
leaves-keep Φ (l ∷ ls) a = (λ s e. a.0 s ∙ e, leaves-keep Φ ls a.1)

left-state : (n : ℕ) (h ls : List Line) → AllByRecursion Leaves ls → state_of (h ++ ls) n ≡ state_of h n
left-state n h ls a = lines-keep (λ s. s ≡ state_of h n) n h ls (leaves-keep (state_of h n) ls a) refl

refusal-leaves : (number n : ℕ) (place : Place) (r : Option Reason)
    → AllByRecursion Leaves (refuse_lines number n place r)
unfolding after
refusal-leaves number n place None = tt
refusal-leaves number n place (Some r) = (λ s. refl, tt)

send-leaves : (number : ℕ) (n : Option ℕ) (frame : ℕ) (b : Option Bytes)
    → AllByRecursion Leaves (send_lines number n frame b)
unfolding after
send-leaves number n frame None = tt
send-leaves number n frame (Some b) = (λ s. refl, tt)

accept-line : (number n : ℕ) (t : Term) (s : NodeState) → heard_line n s (Accept number n t) ≡ after_accepting t s
unfolding heard_line speaker after
accept-line number n t s = ap (λ b. cond b (after_accepting t s) s) (nat_eq-refl n)

seal-line : (number n : ℕ) (t : Term) (s : NodeState) → heard_line n s (Seal number n t) ≡ after_sealing t s
unfolding heard_line speaker after
seal-line number n t s = ap (λ b. cond b (after_sealing t s) s) (nat_eq-refl n)

accepted-state : (number n : ℕ) (h : List Line) (ts : List Term) → state_of (h ++ map (Accept number n) ts) n
    ≡ accepted_all ts (state_of h n)
accepted-state number n h [] = ap (λ x. state_of x n) (append-nil' h)
accepted-state number n h (t ∷ ts) =
    ap (λ x. state_of x n) (sym (append_assoc h (Accept number n t ∷ []) (map (Accept number n) ts)))
    ∙ accepted-state number n (h ++ Accept number n t ∷ []) ts
    ∙ ap (λ x. accepted_all ts x) (state-snoc h (Accept number n t) n ∙ accept-line number n t (state_of h n))

sealed-state : (number n : ℕ) (h : List Line) (ts : List Term) → state_of (h ++ map (Seal number n) ts) n
    ≡ sealed_all ts (state_of h n)
sealed-state number n h [] = ap (λ x. state_of x n) (append-nil' h)
sealed-state number n h (t ∷ ts) =
    ap (λ x. state_of x n) (sym (append_assoc h (Seal number n t ∷ []) (map (Seal number n) ts)))
    ∙ sealed-state number n (h ++ Seal number n t ∷ []) ts
    ∙ ap (λ x. sealed_all ts x) (state-snoc h (Seal number n t) n ∙ seal-line number n t (state_of h n))

pub group-state : (h h0 : List Line) (number n : ℕ) (a : Answer) → state_of (h ++ group_of h0 number n a) n
    ≡ answered a (state_of h n)
unfolding group_of told_lines answered
group-state h h0 number n a =
    ap (λ x. state_of x n)
    (sym (append_assoc h stored (accepts ++ (refusal ++ (seals ++ send)))) ∙ sym
    (append_assoc h1 accepts (refusal ++ (seals ++ send))) ∙ sym (append_assoc h2 refusal (seals ++ send)) ∙ sym
    (append_assoc h3 seals send))
    ∙ left-state n (h3 ++ seals) send (send-leaves number (Some n) (length (air h0) + 1) a.frame)
    ∙ sealed-state number n h3 a.seals
    ∙ ap (λ x. sealed_all a.seals x)
    (left-state n h2 refusal (refusal-leaves number n a.place a.refusal) ∙ accepted-state number n h1 a.accepts ∙
    ap (λ x. accepted_all a.accepts x) (stored-state h number n a))
  where
    stored : List Line
    stored = stored_lines number n a

    accepts : List Line
    accepts = map (Accept number n) a.accepts

    refusal : List Line
    refusal = refuse_lines number n a.place a.refusal

    seals : List Line
    seals = map (Seal number n) a.seals

    send : List Line
    send = send_lines number (Some n) (length (air h0) + 1) a.frame

    h1 : List Line
    h1 = h ++ stored

    h2 : List Line
    h2 = h1 ++ accepts

    h3 : List Line
    h3 = h2 ++ refusal
