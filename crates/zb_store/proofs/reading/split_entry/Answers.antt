use Rattle.std.proofs.Common.{◌≡◌, ◌+◌, ◌-◌, ℕ, Bool, true, false, Some, None, if◌then◌else◌, ◌&&◌, nat_eq, nat_le, length, get_or, take, drop, rules, refl, sym, ◌∙◌, ap, arith, length-take, length-drop}
use Rattle.std.proofs.lemmas.List.{take_rest}
use Rattle.std.proofs.lemmas.Bool.{and_parts, leb-true}
use Rattle.zb_store.proofs.Finding.{entry_short, entry_test_is}
use Rattle.zb_store.proofs.reading.split_entry.Goals as goal

pub returns-then-bytes-lt3-clause-entry : goal.returns-then-bytes-lt3-clause-entry
returns-then-bytes-lt3-clause-entry c = entry_short c.args.bytes.now (omega arith)

pub returns-then-not-is_entry-clause-entry : goal.returns-then-not-is_entry-clause-entry
returns-then-not-is_entry-clause-entry c =
    let b = c.args.bytes.now in
    let shut : c.is_entry.result ≡ false = search rules in
    entry_test_is b (get_or b 0 0) c.le16-size.result (length b) c.is_entry.result refl c.le16-size.ensures refl
    c.is_entry.ensures
    ∙ ap (λ (t : Bool). if t then Some (take c.le16-size.result (drop 3 b)) else None) shut

pub returns-clause-entry : goal.returns-clause-entry
returns-clause-entry c =
    let b = c.args.bytes.now in
    let n = c.le16-size.result in
    let open_it : c.is_entry.result ≡ true = search rules in
    let from = c.from-end.ensures in
    let size : 3 + c.from-end.result - 3 ≡ n = omega arith in
    let parts = and_parts (nat_eq (get_or b 0 0) 165 && nat_le n 481) (nat_le (3 + n) (length b))
    (sym c.is_entry.ensures ∙ open_it) in
    let within = leb-true (3 + n) (length b) parts.1 in
    let long : length (take (3 + c.from-end.result - 3) (drop 3 b))
    ≡ n = omega (arith, length-take (3 + c.from-end.result - 3) (drop 3 b), length-drop 3 b) in (
      entry_test_is b (get_or b 0 0) n (length b) c.is_entry.result refl c.le16-size.ensures refl c.is_entry.ensures
          ∙ ap (λ (t : Bool). if t then Some (take n (drop 3 b)) else None) open_it ∙ ap
          (λ (k : ℕ). Some (take k (drop 3 b))) (sym size),
      take_rest b (3 + c.from-end.result) ∙ ap (λ (k : ℕ). drop k b) (omega (arith, long)),
    )
