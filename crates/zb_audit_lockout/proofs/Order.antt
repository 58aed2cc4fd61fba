-- Devices with a number each, in the order of the numbers, and how both change.
use Rattle.std.proofs.Common.{◌≡◌, ◌≤◌, ◌<◌, ℕ, List, length, [], ◌∷◌, Bool, true, false, cond, ◌||◌, ◌&&◌, Option, Some, None, inl, inr, refl, arith, ap, sym, ◌∙◌, nat_eq}
use Rattle.std.specs.BTreeMap.{BTreeMap, get, is_at}
use Rattle.std.specs.List.{list_any}
use Rattle.std.specs.Map.{keys_of}
use Rattle.std.specs.BTreeSet.{BTreeSet, contains}
use Rattle.std.specs.Ordering.{is_eq, is_gt, nat_cmp, ordering_then}
use Rattle.std.specs.declared.cmp.Ordering.{Ordering}
use Rattle.std.specs.declared.cmp.Ordering.TheVariants.{Less, Equal, Greater}
use Rattle.std.proofs.lemmas.Bool.Decides.{leb_tells}
use Rattle.std.proofs.lemmas.Map.Keys.{le_from_not_gt}
use Rattle.std.specs.Prelude.{nat_le}
use Rattle.zb_base.specs.declared.address.Eui.{Eui}
use Rattle.zb_audit_lockout.specs.Ordered.{IsInOrder, is_listed, is_number, opening_cmp}
use Rattle.zb_audit_lockout.specs.Reading.{number_in, opened_by, some_by}
use Rattle.zb_audit_lockout.specs.declared.opened.Opening.{Opening}
use Rattle.zb_audit_lockout.proofs.Reaching.{some_key}
use Rattle.zb_audit_lockout.proofs.Tests.{both_off}
use Rattle.zb_trace_watch.specs.Sets.{eui_cmp}
use Rattle.zb_trace_watch.proofs.TermOrder.{then_alike}
use Rattle.zb_trace_watch.proofs.Truth.{itself_number, not_both, number_so, same_number, turned_number}

opening_alike : (a b : Opening) → is_eq (opening_cmp a b) ≡ (nat_eq a.number b.number && nat_eq a.device.0 b.device.0)
opening_alike a b =
    then_alike (nat_cmp a.number b.number) (nat_cmp a.device.0 b.device.0)
    ∙ (ap (λ (x : Bool). x && is_eq (nat_cmp a.device.0 b.device.0)) (number_so a.number b.number)
    ∙ ap (λ (x : Bool). nat_eq a.number b.number && x) (number_so a.device.0 b.device.0))

-- What a test becomes as an opening is added, or removed.
on_here : (a : Bool) → cond (a && true) true false ≡ a
on_here true = refl
on_here false = refl

on_there : (a x : Bool) → cond (a && false) true x ≡ x
on_there true x = refl
on_there false x = refl

off_here : (a : Bool) → cond (a && true) false a ≡ false
off_here true = refl
off_here false = refl

off_there : (a x : Bool) → cond (a && false) false x ≡ x
off_there true x = refl
off_there false x = refl

back_here : (a : Bool) → cond (a && true) false (cond (a && true) true false) ≡ false
back_here true = refl
back_here false = refl

abbrev at : ℕ → ℕ → Opening
at n d = record { number = n; device = record { 0 = d } }

abbrev Adds : BTreeSet Opening → BTreeSet Opening → ℕ → Eui → Bool → Type 0
Adds old new number device is = (q : Opening) → contains opening_cmp new q
    ≡ cond (is_at (opening_cmp (record { number = number; device = device })) q) is (contains opening_cmp old q)

adds_at : (old new : BTreeSet Opening) (number : ℕ) (device : Eui) (is : Bool) → Adds old new number device is
    → (n d : ℕ)
    → contains opening_cmp new (at n d) ≡ cond (nat_eq number n && nat_eq device.0 d) is
    (contains opening_cmp old (at n d))
adds_at old new number device is adds n d =
    adds (at n d) ∙ ap (λ (b : Bool). cond b is (contains opening_cmp old (at n d)))
    (opening_alike (record { number = number; device = device }) (at n d))

number_at : (old new : BTreeMap Eui ℕ) (device : Eui) (to : Option ℕ)
    → ((q : Eui) → get eui_cmp new q ≡ cond (is_at (eui_cmp device) q) to (get eui_cmp old q))
    → (d : ℕ) → number_in new.entries d ≡ cond (nat_eq device.0 d) to (number_in old.entries d)
number_at old new device to updates d =
    updates (record { 0 = d }) ∙ ap (λ (b : Bool). cond b to (number_in old.entries d)) (number_so device.0 d)

pub added : (numbers more : BTreeMap Eui ℕ) (order larger : BTreeSet Opening) (device : Eui) (number : ℕ)
    → IsInOrder numbers order → number_in numbers.entries device.0 ≡ None
    → Adds order larger number device true
    → ((q : Eui) → get eui_cmp more q ≡ cond (is_at (eui_cmp device) q) (Some number) (get eui_cmp numbers q))
    → IsInOrder more larger
added numbers more order larger device number before none adds updates n d =
    adds_at order larger number device true adds n d
    ∙ (ap (cond (nat_eq number n && nat_eq device.0 d) true) (before n d)
    ∙ (by (nat_eq device.0 d) refl ∙ sym (ap (is_number n) (number_at numbers more device (Some number) updates d))))
  where
    by : (b : Bool) → nat_eq device.0 d ≡ b
        → cond (nat_eq number n && b) true (is_number n (number_in numbers.entries d))
        ≡ is_number n (cond b (Some number) (number_in numbers.entries d))
    by true same =
        ap (λ (o : Option ℕ). cond (nat_eq number n && true) true (is_number n o))
        (ap (number_in numbers.entries) (sym (same_number device.0 d same)) ∙ none)
        ∙ (on_here (nat_eq number n) ∙ turned_number number n)
    by false same = on_there (nat_eq number n) (is_number n (number_in numbers.entries d))

pub taken : (numbers fewer : BTreeMap Eui ℕ) (order smaller : BTreeSet Opening) (device : Eui) (number : ℕ)
    → IsInOrder numbers order → number_in numbers.entries device.0 ≡ Some number
    → Adds order smaller number device false
    → ((q : Eui) → get eui_cmp fewer q ≡ cond (is_at (eui_cmp device) q) None (get eui_cmp numbers q))
    → IsInOrder fewer smaller
taken numbers fewer order smaller device number before there adds updates n d =
    adds_at order smaller number device false adds n d
    ∙ (ap (cond (nat_eq number n && nat_eq device.0 d) false) (before n d)
    ∙ (by (nat_eq device.0 d) refl ∙ sym (ap (is_number n) (number_at numbers fewer device None updates d))))
  where
    by : (b : Bool) → nat_eq device.0 d ≡ b
        → cond (nat_eq number n && b) false (is_number n (number_in numbers.entries d))
        ≡ is_number n (cond b None (number_in numbers.entries d))
    by true same =
        ap (λ (o : Option ℕ). cond (nat_eq number n && true) false (is_number n o))
        (ap (number_in numbers.entries) (sym (same_number device.0 d same)) ∙ there)
        ∙ (ap (λ (b : Bool). cond (nat_eq number n && true) false b) (turned_number n number) ∙ off_here
        (nat_eq number n))
    by false same = off_there (nat_eq number n) (is_number n (number_in numbers.entries d))

-- An opening is added, and removed again.
pub undone : (numbers : BTreeMap Eui ℕ) (order larger back : BTreeSet Opening) (device : Eui) (number : ℕ)
    → IsInOrder numbers order → number_in numbers.entries device.0 ≡ None
    → Adds order larger number device true → Adds larger back number device false → IsInOrder numbers back
undone numbers order larger back device number before none adds drops n d =
    adds_at larger back number device false drops n d
    ∙ (ap (cond (nat_eq number n && nat_eq device.0 d) false)
    (adds_at order larger number device true adds n d ∙ ap (cond (nat_eq number n && nat_eq device.0 d) true)
    (before n d))
    ∙ by (nat_eq device.0 d) refl)
  where
    by : (b : Bool) → nat_eq device.0 d ≡ b
        → cond (nat_eq number n && b) false
        (cond (nat_eq number n && b) true (is_number n (number_in numbers.entries d)))
        ≡ is_number n (number_in numbers.entries d)
    by true same =
        let gone : number_in numbers.entries d ≡ None =
        ap (number_in numbers.entries) (sym (same_number device.0 d same)) ∙ none in
        ap (λ (o : Option ℕ). cond (nat_eq number n && true) false
        (cond (nat_eq number n && true) true (is_number n o))) gone
        ∙ (back_here (nat_eq number n) ∙ sym (ap (is_number n) gone))
    by false same =
        off_there (nat_eq number n) (cond (nat_eq number n && false) true (is_number n (number_in numbers.entries d)))
        ∙ on_there (nat_eq number n) (is_number n (number_in numbers.entries d))

-- The least number decides.

none_by : (numbers : List (Eui × ℕ)) (number : ℕ) → ((n d : ℕ) → number_in numbers d ≡ Some n → number < n)
    → (ds : List Eui) → some_by numbers number ds ≡ false
none_by numbers number above [] = refl
none_by numbers number above (e ∷ ds) = both_off _ _ (not_by (number_in numbers e.0) refl)
    (none_by numbers number above ds)
  where
    not_by : (o : Option ℕ) → number_in numbers e.0 ≡ o → opened_by o number ≡ false
    not_by None is = refl
    not_by (Some n) is = elim (leb_tells n number) [
      | inl it ↦ (let high : number < n = above n e.0 is in let low : n ≤ number = it.1 in absurd (omega arith))
      | inr it ↦ it.0
    ]

pub was_number : (n : ℕ) (o : Option ℕ) → is_number n o ≡ true → o ≡ Some n
was_number n None is = cc
was_number n (Some m) is = ap Some (sym (same_number n m is))

in_order : (numbers : BTreeMap Eui ℕ) (order : BTreeSet Opening) → IsInOrder numbers order → (n d : ℕ)
    → number_in numbers.entries d ≡ Some n → contains opening_cmp order (at n d) ≡ true
in_order numbers order before n d found = before n d ∙ (ap (is_number n) found ∙ itself_number n)

then_not : (o p : Ordering) → is_gt (ordering_then o p) ≡ false → is_gt o ≡ false
then_not Less p not_above = refl
then_not Equal p not_above = refl
then_not Greater p not_above = not_above

pub none_at_all : (numbers : BTreeMap Eui ℕ) (order : BTreeSet Opening) (number : ℕ) → IsInOrder numbers order
    → order.keys ≡ [] → some_by numbers.entries number (keys_of numbers.entries) ≡ false
none_at_all numbers order number before empty =
    none_by numbers.entries number
    (λ n d found. absurd
    (not_both (contains opening_cmp order (at n d)) (in_order numbers order before n d found) (nothing (at n d))))
    (keys_of numbers.entries)
  where
    nothing : (q : Opening) → contains opening_cmp order q ≡ false
    nothing q = rw empty refl

pub least_decides : (numbers : BTreeMap Eui ℕ) (order : BTreeSet Opening) (first : Opening) (number : ℕ)
    → IsInOrder numbers order → contains opening_cmp order first ≡ true
    → ((q : Opening) → contains opening_cmp order q ≡ true → is_gt (opening_cmp first q) ≡ false)
    → nat_le first.number number ≡ some_by numbers.entries number (keys_of numbers.entries)
least_decides numbers order first number before member least = elim (leb_tells first.number number) [
  | inl it ↦
      it.0 ∙ sym (some_key (record { removals = numbers.entries; last = 0 }) number first.device.0 first.number
      (was_number first.number (number_in numbers.entries first.device.0)
      (sym (before first.number first.device.0) ∙ member)) it.1)
  | inr it ↦ it.0 ∙ sym
      (none_by numbers.entries number (λ n d found. let low : first.number ≤ n = lowest n d found in let high : number
      < first.number = it.1 in omega arith) (keys_of numbers.entries))
]
  where
    lowest : (n d : ℕ) → number_in numbers.entries d ≡ Some n → first.number ≤ n
    lowest n d found =
        le_from_not_gt first.number n
        (then_not (nat_cmp first.number n) (nat_cmp first.device.0 d)
        (least (at n d) (in_order numbers order before n d found)))

pub no_keys : {K : Type 0} (xs : List K) → (0 < length xs → ⊥) → xs ≡ []
no_keys [] none = refl
no_keys (x ∷ xs) none = absurd (none (omega arith))

-- A list of openings as a test in the order.
pub listed_alike : (n d : ℕ) (os : List Opening) → is_listed n d os
    ≡ list_any (λ (o : Opening). is_eq (opening_cmp (at n d) o)) os
listed_alike n d [] = refl
listed_alike n d (o ∷ os) =
    ap (λ (b : Bool). b || is_listed n d os) (sym (opening_alike (at n d) o))
    ∙ ap (λ (b : Bool). is_eq (opening_cmp (at n d) o) || b) (listed_alike n d os)

-- The list has what the order has.
pub listed_is : (numbers : BTreeMap Eui ℕ) (order : BTreeSet Opening) → IsInOrder numbers order → (n d : ℕ)
    → is_listed n d order.keys ≡ is_number n (number_in numbers.entries d)
listed_is numbers order before n d = listed_alike n d order.keys ∙ before n d

-- A device is put into a set with its number, if it has one.
pub noted_open : (was now : BTreeSet Opening) (device : Eui) (number : ℕ) (numbers : List (Eui × ℕ))
    → number_in numbers device.0 ≡ Some number → Adds was now number device true → (n d : ℕ)
    → contains opening_cmp now (at n d)
    ≡ (contains opening_cmp was (at n d) || (nat_eq d device.0 && is_number n (number_in numbers d)))
noted_open was now device number numbers there adds n d =
    adds_at was now number device true adds n d
    ∙ (ap (λ (b : Bool). cond (nat_eq number n && b) true (contains opening_cmp was (at n d)))
    (turned_number device.0 d) ∙ by (nat_eq d device.0) refl)
  where
    here : (a x : Bool) → cond (a && true) true x ≡ (x || a)
    here true true = refl
    here true false = refl
    here false true = refl
    here false false = refl

    there_not : (a x : Bool) → cond (a && false) true x ≡ (x || false)
    there_not true true = refl
    there_not true false = refl
    there_not false true = refl
    there_not false false = refl

    by : (b : Bool) → nat_eq d device.0 ≡ b
        → cond (nat_eq number n && b) true (contains opening_cmp was (at n d))
        ≡ (contains opening_cmp was (at n d) || (b && is_number n (number_in numbers d)))
    by true same =
        here (nat_eq number n) (contains opening_cmp was (at n d))
        ∙ ap (λ (b : Bool). contains opening_cmp was (at n d) || b)
        (turned_number number n
        ∙ sym (ap (is_number n) (ap (number_in numbers) (same_number d device.0 same) ∙ there)))
    by false same = there_not (nat_eq number n) (contains opening_cmp was (at n d))

pub noted_none : (was : BTreeSet Opening) (device : Eui) (numbers : List (Eui × ℕ))
    → number_in numbers device.0 ≡ None → (n d : ℕ)
    → contains opening_cmp was (at n d)
    ≡ (contains opening_cmp was (at n d) || (nat_eq d device.0 && is_number n (number_in numbers d)))
noted_none was device numbers none n d = by (nat_eq d device.0) refl
  where
    with_none : (x : Bool) → x ≡ (x || false)
    with_none true = refl
    with_none false = refl

    by : (b : Bool) → nat_eq d device.0 ≡ b
        → contains opening_cmp was (at n d)
        ≡ (contains opening_cmp was (at n d) || (b && is_number n (number_in numbers d)))
    by true same =
        with_none (contains opening_cmp was (at n d))
        ∙ ap (λ (o : Option ℕ). contains opening_cmp was (at n d) || is_number n o)
        (sym (ap (number_in numbers) (same_number d device.0 same) ∙ none))
    by false same = with_none (contains opening_cmp was (at n d))
