-- The model's stops and failures are those of the store.
use Rattle.std.proofs.Common.{◌≡◌, ◌+◌, ◌%◌, ◌≤◌, ◌<◌, ◌==◌, ◌&&◌, ◌||◌, ℕ, zero, suc, List, [], ◌∷◌, Bool, true, false, nat_eq, nat_lt, nat_le, if◌then◌else◌, refl, sym, ◌∙◌, ap, arith}
use Rattle.std.proofs.lemmas.Bool.{false≢true, ltb-true, leb-true}
use Rattle.std.proofs.lemmas.Bool.Decides.{nat_tests}
use Rattle.zb_store.specs.Layout.{open_gate}
use Rattle.zb_store.specs.Power.{reads_open, stop_commits, failure_commits, stop_opens_both, failure_opens_both, open_stop_leaves_both, open_failure_leaves_both}
use Rattle.zb_model.specs.Play.{StopAfter, FailAt, BootCalls, EntryCalls, RecordCalls, falls, stands, leaves_both, commit_calls, is_gate, gate_opens}
use Rattle.zb_armed_host.specs.Arms.{commit_of}

-- a gate that was being opened, and one that was being closed
gate_opening : (torn : List ℕ) → gate_opens torn ≡ reads_open torn open_gate
gate_opening [] = refl
gate_opening (b ∷ torn) = grind (arith, nat_tests)

gate_closing : (torn : List ℕ) → is_gate torn ≡ reads_open torn 0
gate_closing [] = refl
gate_closing (b ∷ torn) = grind (arith, nat_tests)

-- by the number of the call, with what the gate reads as a test

entry_stands : (n : ℕ) (b : Bool) → n < 4 → (nat_eq n 3 && b) ≡ (if n == 3 then b else nat_lt 3 n)
entry_stands zero b low = refl
entry_stands (suc zero) b low = refl
entry_stands (suc (suc zero)) b low = refl
entry_stands (suc (suc (suc zero))) b low = refl
entry_stands (suc (suc (suc (suc n)))) b low = absurd (omega arith)

record_stands : (n : ℕ) (b : Bool) → n < 6 → ((nat_eq n 3 && b) || nat_le 4 n) ≡ (if n == 3 then b else nat_lt 3 n)
record_stands zero b low = refl
record_stands (suc zero) b low = refl
record_stands (suc (suc zero)) b low = refl
record_stands (suc (suc (suc zero))) true low = refl
record_stands (suc (suc (suc zero))) false low = refl
record_stands (suc (suc (suc (suc zero)))) b low = refl
record_stands (suc (suc (suc (suc (suc zero))))) b low = refl
record_stands (suc (suc (suc (suc (suc (suc n)))))) b low = absurd (omega arith)

record_leaves : (n : ℕ) (b d : Bool) → n < 6 → ((nat_eq n 3 && b) || (nat_eq n 4 || (nat_eq n 5 && d)))
    ≡ (if n == 3 then b else (if n == 4 then true else (n == 5 && d)))
record_leaves zero b d low = refl
record_leaves (suc zero) b d low = refl
record_leaves (suc (suc zero)) b d low = refl
record_leaves (suc (suc (suc zero))) true d low = refl
record_leaves (suc (suc (suc zero))) false d low = refl
record_leaves (suc (suc (suc (suc zero)))) b d low = refl
record_leaves (suc (suc (suc (suc (suc zero))))) b d low = refl
record_leaves (suc (suc (suc (suc (suc (suc n)))))) b d low = absurd (omega arith)

boot_leaves : (n : ℕ) (d : Bool) → n < 3 → (nat_le n 1 || d) ≡ (if n == 2 then d else true)
boot_leaves zero d low = refl
boot_leaves (suc zero) d low = refl
boot_leaves (suc (suc zero)) d low = refl
boot_leaves (suc (suc (suc n))) d low = absurd (omega arith)

pub stop_stands : (whole : Bool) (calls : ℕ) (torn : List ℕ) → falls (StopAfter calls torn) (commit_of whole) ≡ true
    → stands (StopAfter calls torn) (commit_of whole) ≡ stop_commits calls torn
unfolding stands
stop_stands true calls torn fell =
    ap (λ b. (nat_eq calls 3 && b) || nat_le 4 calls) (gate_opening torn) ∙ record_stands calls
    (reads_open torn open_gate) (ltb-true calls 6 fell)
stop_stands false calls torn fell = ap (λ b. nat_eq calls 3 && b) (gate_opening torn) ∙ entry_stands calls
    (reads_open torn open_gate) (ltb-true calls 4 fell)

fail_entry : (n : ℕ) → n ≤ 4 → nat_eq n 4 ≡ nat_lt 3 n
fail_entry n low = grind (arith, nat_tests)

pub fail_stands : (whole : Bool) (call : ℕ) → falls (FailAt call) (commit_of whole) ≡ true
    → stands (FailAt call) (commit_of whole) ≡ failure_commits call
unfolding stands
fail_stands true call fell = grind (arith, nat_tests)
fail_stands false call fell = fail_entry call (leb-true call 4 fell)

pub stop_leaves : (whole : Bool) (calls : ℕ) (torn : List ℕ) → falls (StopAfter calls torn) (commit_of whole) ≡ true
    → leaves_both (StopAfter calls torn) (commit_of whole) ≡ (whole && stop_opens_both calls torn)
unfolding leaves_both
stop_leaves true calls torn fell =
    ap (λ b. (nat_eq calls 3 && b) || (nat_eq calls 4 || (nat_eq calls 5 && is_gate torn))) (gate_opening torn)
    ∙ ap (λ d. (nat_eq calls 3 && reads_open torn open_gate) || (nat_eq calls 4 || (nat_eq calls 5 && d)))
    (gate_closing torn)
    ∙ record_leaves calls (reads_open torn open_gate) (reads_open torn 0) (ltb-true calls 6 fell)
stop_leaves false calls torn fell = refl

pub fail_leaves : (whole : Bool) (call : ℕ) → falls (FailAt call) (commit_of whole) ≡ true
    → leaves_both (FailAt call) (commit_of whole) ≡ (whole && failure_opens_both call)
unfolding leaves_both
fail_leaves true call fell = grind (arith, nat_tests)
fail_leaves false call fell = refl

pub boot_stop_leaves : (calls : ℕ) (torn : List ℕ) → falls (StopAfter calls torn) (BootCalls true) ≡ true
    → leaves_both (StopAfter calls torn) (BootCalls true) ≡ open_stop_leaves_both calls torn
unfolding leaves_both
boot_stop_leaves calls torn fell = ap (λ d. nat_le calls 1 || d) (gate_closing torn) ∙ boot_leaves calls
    (reads_open torn 0) (ltb-true calls 3 fell)

pub boot_fail_leaves : (call : ℕ) → falls (FailAt call) (BootCalls true) ≡ true
    → leaves_both (FailAt call) (BootCalls true) ≡ open_failure_leaves_both call
unfolding leaves_both
boot_fail_leaves call fell = grind (arith, nat_tests)

chosen : (b d : Bool) → b ≡ d → (if b then RecordCalls else EntryCalls) ≡ commit_of d
chosen true true same = refl
chosen false false same = refl
chosen true false same = absurd (false≢true (sym same))
chosen false true same = absurd (false≢true same)

pub full_is : (entries commits : ℕ) → entries ≡ commits % 33 → commit_calls commits ≡ commit_of (entries == 32)
full_is entries commits is = chosen (nat_eq ((commits + 1) % 33) 0) (entries == 32) (grind (arith, nat_tests))
