-- A map of addresses, as they are noted one by one.
use Rattle.std.proofs.Common.{◌≡◌, ℕ, ◌+◌, ◌<◌, ◌==◌, Bool, true, false, cond, List, ◌∷◌, length, get_or, drop, drop-cons, add-one, Option, Some, None, refl, ap, sym, ◌∙◌, arith}
use Rattle.std.specs.BTreeMap.{BTreeMap, get, is_at}
use Rattle.std.specs.Option.{option_or, is_some}
use Rattle.std.specs.Ordering.{is_eq, nat_cmp}
use Rattle.std.specs.Prelude.{if◌then◌else◌}
use Rattle.zb_base.specs.declared.address.Eui.{Eui}
use Rattle.zb_base.specs.declared.address.Short.{Short}
use Rattle.zb_inspect_frame.specs.Known.{known_of, short_cmp}
use Rattle.zb_inspect_frame.specs.Shows.{addr_of}

alike : (a b : ℕ) → is_eq (nat_cmp a b) ≡ (a == b)
alike a b = grind arith

same : (a b : ℕ) → (a == b) ≡ true → a ≡ b
same a b e = grind arith

first_value : (b : Bool) (old : Option Eui) (x : Eui) → (b ≡ true → old ≡ None) → cond b (Some x) old
    ≡ option_or old (if b then Some x else None)
first_value true old x none = rw (none refl) refl
first_value false None x none = refl
first_value false (Some y) x none = refl

pub noted : (old new : BTreeMap Short Eui) (short : Short) (eui : Eui) → known_of old short.0 ≡ None
    → ((q : Short) → get short_cmp new q ≡ cond (is_at (short_cmp short) q) (Some eui) (get short_cmp old q))
    → (q : ℕ) → known_of new q ≡ option_or (known_of old q) (if short.0 == q then Some eui else None)
noted old new short eui none updates q =
    updates (record { 0 = q })
    ∙ (ap (λ (b : Bool). cond b (Some eui) (known_of old q)) (alike short.0 q)
    ∙ first_value (short.0 == q) (known_of old q) eui (λ e. ap (known_of old) (sym (same short.0 q e)) ∙ none))

pub nothing_there : (o : Option Eui) → is_some o ≡ false → o ≡ None
nothing_there None h = refl
nothing_there (Some x) h = cc

or_next : (o : Option Eui) (b : Bool) (x : Eui) (rest : Option Eui)
    → option_or (option_or o (if b then Some x else None)) rest ≡ option_or o (if b then Some x else rest)
or_next None true x rest = refl
or_next None false x rest = refl
or_next (Some y) b x rest = refl

left_of : (list : List (Short × Eui)) (i : ℕ) → i < length list → drop i list
    ≡ get_or list i (record { 0 = 0 }, record { 0 = 0 }) ∷ drop (i + 1) list
left_of list i within = rw add-one (drop-cons list i (record { 0 = 0 }, record { 0 = 0 }) within)

-- One more address of a list.
pub next_noted : (old new : BTreeMap Short Eui) (list : List (Short × Eui)) (i q : ℕ) → i < length list
    → known_of new q ≡ option_or (known_of old q) (if (get_or list i (record { 0 = 0 }, record { 0 = 0 })).0.0 == q
    then Some (get_or list i (record { 0 = 0 }, record { 0 = 0 })).1 else None)
    → option_or (known_of old q) (addr_of (record { 0 = q }) (drop i list)) ≡ addr_of (record { 0 = q }) list
    → option_or (known_of new q) (addr_of (record { 0 = q }) (drop (i + 1) list)) ≡ addr_of (record { 0 = q }) list
next_noted old new list i q within told so_far =
    let x = get_or list i (record { 0 = 0 }, record { 0 = 0 }) in
    let rest = addr_of (record { 0 = q }) (drop (i + 1) list) in
    ap (λ o. option_or o rest) told ∙ or_next (known_of old q) (x.0.0 == q) x.1 rest
    ∙ ap (λ l. option_or (known_of old q) (addr_of (record { 0 = q }) l)) (sym (left_of list i within)) ∙ so_far
