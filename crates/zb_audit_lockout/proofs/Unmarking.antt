-- Devices that are forgotten one by one. Those that are still removed are put into a set.
use Rattle.std.proofs.Common.{◌≡◌, ◌≢◌, ◌⊎◌, ℕ, ◌+◌, ◌<◌, List, [], ◌∷◌, length, drop, get_or, Bool, true, false, ◌||◌, ◌&&◌, inl, inr, refl, ap, sym, ◌∙◌, bytes_eq, nat_eq}
use Rattle.std.specs.Prelude.{if◌then◌else◌}
use Rattle.std.specs.BTreeSet.{BTreeSet}
use Rattle.std.specs.List.{list_any}
use Rattle.std.proofs.lemmas.List.{drop_more}
use Rattle.zb_base.specs.declared.key.Key.{Key}
use Rattle.zb_audit_lockout.specs.Backing.{is_holder}
use Rattle.zb_audit_lockout.specs.Ordered.{is_listed, is_number}
use Rattle.zb_audit_lockout.specs.Reading.{early_of, number_of, open_at}
use Rattle.zb_audit_lockout.specs.Withdrawing.{Unmarks, Withdraws, holds_any, is_in}
use Rattle.zb_audit_lockout.specs.declared.back.Back.{Back}
use Rattle.zb_audit_lockout.specs.declared.opened.Opening.{Opening}
use Rattle.zb_audit_lockout.specs.declared.spread.Spread.{Spread}
use Rattle.zb_audit_lockout.specs.declared.windows.Windows.{Windows}
use Rattle.zb_audit_lockout.proofs.Order.{listed_alike, was_number}
use Rattle.zb_model.specs.Secrets.{well_known}
use Rattle.zb_trace_watch.specs.Sets.{is_among}
use Rattle.zb_trace_watch.proofs.Truth.{and_right, both, decided, either, itself_number, not_both, or_left, or_right, same_bytes}

-- One device is forgotten.
pub unmarked : (w : Windows) (old new : Spread) (was now : BTreeSet Opening) (device : ℕ) → new.keys ≡ old.keys
    → ((d : ℕ) → early_of new d ≡ (if nat_eq d device then 0 else early_of old d))
    → ((n d : ℕ) → is_in now n d ≡ (is_in was n d || (nat_eq d device && is_number n (open_at w d))))
    → Unmarks w old new was now (λ (d : ℕ). nat_eq d device)
unmarked w old new was now device keys becomes noted = record {
  keys = keys;
  told = λ d. elim (decided (nat_eq d device)) [
    | inl is ↦ inr (
      gone d is,
      λ n found. noted n d ∙ or_right (is_in was n d) _
          (both _ _ is (ap (is_number n) found ∙ itself_number n)),
    )
    | inr other ↦ inl (becomes d ∙ ap (λ (b : Bool). if b then 0 else early_of old d) other)
  ];
  zero = λ d is. gone d is;
  more = λ n d there. noted n d ∙ or_left _ _ there;
  only = λ n d there.
      elim (either (is_in was n d) (nat_eq d device && is_number n (open_at w d)) (sym (noted n d) ∙ there)) [
        | inl before ↦ inl before
        | inr it ↦ inr (was_number n (open_at w d) (and_right (nat_eq d device) _ it))
      ];
}
  where
    gone : (d : ℕ) → nat_eq d device ≡ true → early_of new d ≡ 0
    gone d is = becomes d ∙ ap (λ (b : Bool). if b then 0 else early_of old d) is

-- What is true after the devices of some items of a list were forgotten.
pub record Unmarking {A : Type 0} (w : Windows) (old now : Spread) (was opened : BTreeSet Opening)
    (test : ℕ → A → Bool) (items : List A) (index : ℕ) : Type 0 where
  pub marks : Unmarks w old now was opened (λ (d : ℕ). false)
  pub zero : (d : ℕ) → list_any (test d) items ≡ true → (early_of now d ≡ 0)
      ⊎ (list_any (test d) (drop index items) ≡ true)

pub nothing_unmarked : {A : Type 0} (w : Windows) (s : Spread) (set : BTreeSet Opening) (test : ℕ → A → Bool)
    (items : List A) → Unmarking w s s set set test items 0
nothing_unmarked w s set test items = record {
  marks = record {
    keys = refl;
    told = λ d. inl refl;
    zero = λ d gone. cc;
    more = λ n d there. there;
    only = λ n d there. inl there;
  };
  zero = λ d there. inr there;
}

module _ (w : Windows) (old mid new : Spread) (was between now : BTreeSet Opening) (first second : ℕ → Bool)
    (a : Unmarks w old mid was between first) (b : Unmarks w mid new between now second) where
  pub unmarks_more : Unmarks w old new was now (λ (d : ℕ). false)
  unmarks_more = record {
    keys = b.keys ∙ a.keys;
    told = λ d. elim (b.told d) [
      | inl same ↦ elim (a.told d) [
        | inl before ↦ inl (same ∙ before)
        | inr it ↦ inr (same ∙ it.0, λ n found. b.more n d (it.1 n found))
      ]
      | inr it ↦ inr it
    ];
    zero = λ d gone. cc;
    more = λ n d there. b.more n d (a.more n d there);
    only = λ n d there. elim (b.only n d there) [
      | inl before ↦ a.only n d before
      | inr found ↦ inr found
    ];
  }

  pub still_zero : (d : ℕ) → early_of mid d ≡ 0 → early_of new d ≡ 0
  still_zero d none = elim (b.told d) [
    | inl same ↦ same ∙ none
    | inr it ↦ it.0
  ]

pub one_unmarked : {A : Type 0} (w : Windows) (old mid new : Spread) (was between now : BTreeSet Opening)
    (test : ℕ → A → Bool) (items : List A) (index : ℕ) (e : A) → index < length items
    → Unmarking w old mid was between test items index
    → Unmarks w mid new between now (λ (d : ℕ). test d (get_or items index e))
    → Unmarking w old new was now test items (index + 1)
one_unmarked {A} w old mid new was between now test items index e lt before step = record {
  marks = unmarks_more w old mid new was between now (λ (d : ℕ). false) (λ (d : ℕ). test d (get_or items index e))
      before.marks step;
  zero = λ d there. elim (before.zero d there) [
    | inl none ↦ inl
        (still_zero w old mid new was between now (λ (x : ℕ). false) (λ (x : ℕ). test x (get_or items index e))
        before.marks step d none)
    | inr left ↦ elim
        (either (test d (get_or items index e)) (list_any (test d) (drop (index + 1) items))
        (sym (ap (list_any (test d)) (drop_more items index e lt)) ∙ left)) [
          | inl here ↦ inl (step.zero d here)
          | inr later ↦ inr later
        ]
  ];
}

pub all_unmarked : {A : Type 0} (w : Windows) (old now : Spread) (was opened : BTreeSet Opening) (test : ℕ → A → Bool)
    (items : List A) (index : ℕ) → drop index items ≡ [] → Unmarking w old now was opened test items index
    → Unmarks w old now was opened (λ (d : ℕ). list_any (test d) items)
all_unmarked {A} w old now was opened test items index none done = record {
  keys = done.marks.keys;
  told = done.marks.told;
  zero = λ d there. elim (done.zero d there) [
    | inl it ↦ it
    | inr left ↦ absurd
        (not_both (list_any (test d) []) (sym (ap (list_any (test d)) none) ∙ left) refl)
  ];
  more = done.marks.more;
  only = done.marks.only;
}

-- A key of a list that passes a test.
some_so : (P : List ℕ → Bool) (k : List ℕ) (keys : List Key) → is_among keys k ≡ true → P k ≡ true
    → list_any (λ (key : Key). P key.0) keys ≡ true
some_so P k [] there so = cc
some_so P k (key ∷ keys) there so =
    elim (either (bytes_eq k key.0) (is_among keys k) there) [
      | inl here ↦ or_left _ _ (ap P (sym (same_bytes k key.0 here)) ∙ so)
      | inr later ↦ or_right _ _ (some_so P k keys later so)
    ]

pub nothing_in : (set : BTreeSet Opening) → set.keys ≡ [] → (n d : ℕ) → is_in set n d ≡ false
nothing_in set none n d = rw none refl

-- The holders of keys are forgotten, and the set is put into a list.
pub withdraws : (w : Windows) (back : Back) (old new : Spread) (keys : List Key) (was now : BTreeSet Opening)
    (list : List Opening) → ((n d : ℕ) → is_in was n d ≡ false) → list ≡ now.keys
    → Unmarks w old new was now (holds_any back keys) → number_of old.keys well_known ≢ 0
    → Withdraws w back old new keys list
withdraws w back old new keys was now list empty list_is marks known = record {
  keys = marks.keys;
  told = λ d. elim (marks.told d) [
    | inl same ↦ inl same
    | inr it ↦ inr (it.0, λ n found. listed n d ∙ it.1 n found)
  ];
  zero = λ k d there none has. elim (either (bytes_eq k well_known) (is_holder back k d) has) [
    | inl everybody ↦ absurd (known (ap (number_of old.keys) (sym (same_bytes k well_known everybody)) ∙ none))
    | inr holder ↦ marks.zero d (some_so (λ (q : List ℕ). is_holder back q d) k keys there holder)
  ];
  found = λ n d there. elim (marks.only n d (sym (listed n d) ∙ there)) [
    | inl before ↦ absurd (not_both (is_in was n d) before (empty n d))
    | inr found ↦ found
  ];
}
  where
    listed : (n d : ℕ) → is_listed n d list ≡ is_in now n d
    listed n d = ap (is_listed n d) list_is ∙ listed_alike n d now.keys

-- No device is marked any more.
pub withdraws_all : (w : Windows) (back : Back) (old new : Spread) (keys : List Key) (list : List Opening)
    → new.keys ≡ old.keys → ((d : ℕ) → early_of new d ≡ 0)
    → ((n d : ℕ) → is_listed n d list ≡ is_number n (open_at w d)) → Withdraws w back old new keys list
withdraws_all w back old new keys list same none listed = record {
  keys = same;
  told = λ d. inr (none d, λ n found. listed n d ∙ (ap (is_number n) found ∙ itself_number n));
  zero = λ k d there cleared has. none d;
  found = λ n d there. was_number n (open_at w d) (sym (listed n d) ∙ there);
}
