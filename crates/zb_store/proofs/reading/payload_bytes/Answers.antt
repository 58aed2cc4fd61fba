use Rattle.std.proofs.Common.{◌≡◌, ◌+◌, ◌-◌, ◌++◌, List, ℕ, Some, length, drop, rules, sym, ◌∙◌, ap, arith}
use Rattle.std.proofs.lemmas.List.{length-append}
use Rattle.std.specs.List.{concat}
use Rattle.zb_store.specs.Layout.{payloads_of, entry_of}
use Rattle.zb_store.proofs.Finding.{concat_step, concat_end, concat_full}
use Rattle.zb_store.proofs.reading.payload_bytes.Goals as goal

pub loop-entry-preserved : goal.loop-entry-preserved
loop-entry-preserved c =
    let i = c.loop-entry.entry in
    let b = c.loop-entry.rest.now in
    let payload = c.in-Some.payload.now in
    let behind = c.in-Some.behind.now in
    let out = c.loop-entry.payloads.items in
    let first : entry_of b ≡ Some payload = search rules in
    let rest : behind ≡ drop (3 + length payload) b = search rules in
    let new = c.in_ok-extend_from_slice.ensures.items in (
      ap (λ (l : List ℕ). l ++ concat (payloads_of (32 - (i + 1)) behind)) new ∙ concat_step 32 i b behind payload out
          c.loop-entry-test.true first rest ∙ c.loop-entry.invariant.0,
      omega (arith, ap length new, length-append out payload, c.in-Some.ensures.within, c.loop-entry.invariant.1),
    )

pub returns-in_default-clause-payloads : goal.returns-in_default-clause-payloads
returns-in_default-clause-payloads c =
    sym (concat_end (32 - c.loop-entry.entry) c.loop-entry.rest.now c.loop-entry.payloads.items
    c.in_default.ensures.entry) ∙ c.loop-entry.invariant.0

pub returns-clause-payloads : goal.returns-clause-payloads
returns-clause-payloads c =
    let none : 32 - c.loop-entry.entry ≡ 0 = omega arith in
    sym (concat_full c.loop-entry.rest.now c.loop-entry.payloads.items) ∙ ap
    (λ (n : ℕ). c.loop-entry.payloads.items ++ concat (payloads_of n c.loop-entry.rest.now)) (sym none) ∙
    c.loop-entry.invariant.0
