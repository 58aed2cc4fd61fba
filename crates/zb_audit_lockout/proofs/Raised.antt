-- Numbers of keys that rise one by one, and with each key that is raised those of the keys that it leads to.
use Rattle.std.proofs.Common.{◌≡◌, ◌⊎◌, ℕ, ◌<◌, ◌≤◌, List, [], ◌∷◌, ◌++◌, Bool, true, false, ◌||◌, ◌&&◌, inl, inr, refl, arith, ap, sym, ◌∙◌, bytes_eq, nat_lt}
use Rattle.std.specs.Prelude.{if◌then◌else◌, nat_le}
use Rattle.std.proofs.lemmas.Bool.{le-leb, leb-true, ltb-true, ltb-false}
use Rattle.zb_base.specs.declared.key.Key.{Key}
use Rattle.zb_audit_lockout.specs.Raising.{IsRaised}
use Rattle.zb_audit_lockout.specs.Reading.{number_of}
use Rattle.zb_audit_lockout.specs.declared.numbers.Numbers.{Numbers}
use Rattle.zb_trace_watch.specs.Sets.{is_among, is_carried, key_cmp, keys_at}
use Rattle.zb_trace_watch.specs.declared.holdings.Holdings.{Holdings}
use Rattle.zb_trace_watch.proofs.Truth.{among_append, among_end, decided, either, itself, none_left, or_left, or_right, same_bytes}

-- What is raised so far, and what is left to raise.
pub record Raising (leads : Holdings Key) (old now : Numbers) (start left : List Key) (number : ℕ)
    (raised : List Key) : Type 0 where
  pub told : (k : List ℕ) → (number_of now k ≡ number_of old k) ⊎ IsRaised old now number raised k
  pub only : (k : List ℕ) → is_among raised k ≡ true → number_of now k ≡ number
  pub reached : (k : List ℕ) → is_among start k ≡ true → (number ≤ number_of now k) ⊎ (is_among left k ≡ true)
  pub bases : (k b : List ℕ) → is_among raised k ≡ true → is_carried leads k b ≡ true → (number ≤ number_of now b)
      ⊎ (is_among left b ≡ true)
  pub least : (S : List ℕ → Bool) → ((k : List ℕ) → is_among start k ≡ true → S k ≡ true)
      → ((k b : List ℕ) → S k ≡ true → is_carried leads k b ≡ true → S b ≡ true)
      → ((k : List ℕ) → is_among raised k ≡ true → S k ≡ true) × ((k : List ℕ) → is_among left k ≡ true → S k ≡ true)

module _ (leads : Holdings Key) (old now new : Numbers) (start left : List Key) (number : ℕ) (raised : List Key)
    (key : Key)
    (becomes : (k : List ℕ) → number_of new k ≡ (if bytes_eq k key.0 && nat_lt (number_of now key.0) number then number
    else number_of now k))
    (l : Raising leads old now start (left ++ key ∷ []) number raised) where
  others : (k : List ℕ) → bytes_eq k key.0 ≡ false → number_of new k ≡ number_of now k
  others k not_it = becomes k ∙ ap (λ (b : Bool). if b && nat_lt (number_of now key.0) number then number
      else number_of now k) not_it

  -- A key that was left.
  was_left : (k : List ℕ) → is_among (left ++ key ∷ []) k ≡ true → (is_among left k ≡ true) ⊎ (k ≡ key.0)
  was_left k there =
      elim (either (is_among left k) (bytes_eq k key.0 || false) (sym (among_append left (key ∷ []) k) ∙ there)) [
        | inl before ↦ inl before
        | inr last ↦ inr (same_bytes k key.0 (none_left _ last))
      ]

  -- A key that is raised adds the keys that it leads to.
  module _ (below : nat_lt (number_of now key.0) number ≡ true) where
    here : number_of new key.0 ≡ number
    here = becomes key.0 ∙ ap (λ (b : Bool). if b then number else number_of now key.0)
        (ap (λ (b : Bool). b && nat_lt (number_of now key.0) number) (itself key.0) ∙ below)

    at_key : (k : List ℕ) → k ≡ key.0 → number ≤ number_of new k
    at_key k is = let it : number_of new k ≡ number = ap (number_of new) is ∙ here in omega arith

    up : (k : List ℕ) → number ≤ number_of now k → number ≤ number_of new k
    up k high = elim (decided (bytes_eq k key.0)) [
      | inl is ↦ at_key k (same_bytes k key.0 is)
      | inr other ↦ let it : number_of new k ≡ number_of now k = others k other in omega arith
    ]

    abbrev more : List Key
    more = keys_at key_cmp leads key

    moved : (k : List ℕ) → (number ≤ number_of now k) ⊎ (is_among (left ++ key ∷ []) k ≡ true)
        → (number ≤ number_of new k) ⊎ (is_among (left ++ more) k ≡ true)
    moved k (inl high) = inl (up k high)
    moved k (inr there) = elim (was_left k there) [
      | inl before ↦ inr (among_append left more k ∙ or_left _ _ before)
      | inr is ↦ inl (at_key k is)
    ]

    now_raised : (k : List ℕ) → is_among (raised ++ key ∷ []) k ≡ true → (is_among raised k ≡ true) ⊎ (k ≡ key.0)
    now_raised k there =
        elim (either (is_among raised k) (bytes_eq k key.0 || false)
        (sym (among_append raised (key ∷ []) k) ∙ there)) [
          | inl before ↦ inl before
          | inr last ↦ inr (same_bytes k key.0 (none_left _ last))
        ]

    was_below : (k : List ℕ) → k ≡ key.0 → number_of old k < number
    was_below k is =
        let low : number_of now key.0 < number = ltb-true (number_of now key.0) number below in
        let same : number_of now k ≡ number_of now key.0 = ap (number_of now) is in
        elim (l.told k) [
          | inl kept ↦ omega arith
          | inr it ↦ it.was
        ]

    told_now : (k : List ℕ) → (number_of new k ≡ number_of old k) ⊎ IsRaised old new number (raised ++ key ∷ []) k
    told_now k = elim (decided (bytes_eq k key.0)) [
      | inl is ↦ inr (record {
        was = was_below k (same_bytes k key.0 is);
        is = ap (number_of new) (same_bytes k key.0 is) ∙ here;
        among = among_append raised (key ∷ []) k ∙ or_right _ _ (or_left _ _ is);
      })
      | inr other ↦ elim (l.told k) [
        | inl kept ↦ inl (others k other ∙ kept)
        | inr it ↦ inr
            (record {
              was = it.was;
              is = others k other ∙ it.is;
              among = among_append raised (key ∷ []) k ∙ or_left _ _
                  it.among;
            })
      ]
    ]

    only_now : (k : List ℕ) → is_among (raised ++ key ∷ []) k ≡ true → number_of new k ≡ number
    only_now k there = elim (decided (bytes_eq k key.0)) [
      | inl is ↦ ap (number_of new) (same_bytes k key.0 is) ∙ here
      | inr other ↦ elim (now_raised k there) [
        | inl before ↦ others k other ∙ l.only k before
        | inr is ↦ ap (number_of new) is ∙ here
      ]
    ]

    bases_now : (k b : List ℕ) → is_among (raised ++ key ∷ []) k ≡ true → is_carried leads k b ≡ true
        → (number ≤ number_of new b) ⊎ (is_among (left ++ more) b ≡ true)
    bases_now k b there carried = elim (now_raised k there) [
      | inl before ↦ moved b (l.bases k b before carried)
      | inr is ↦ inr
          (among_append left more b ∙ or_right _ _ (ap (λ (q : List ℕ). is_carried leads q b) (sym is) ∙ carried))
    ]

    pub raises_new : Raising leads old new start (left ++ more) number (raised ++ key ∷ [])
    raises_new = record {
      told = told_now;
      only = only_now;
      reached = λ k there. moved k (l.reached k there);
      bases = bases_now;
      least = λ S first closed.
          let it = l.least S first closed in (
            λ k there. elim (now_raised k there) [
              | inl before ↦ it.0 k before
              | inr is ↦ ap S is ∙ it.1 key.0 (among_end left key)
            ],
            λ k there. elim (either (is_among left k) (is_among more k) (sym (among_append left more k) ∙ there)) [
              | inl before ↦ it.1 k (among_append left (key ∷ []) k ∙ or_left _ _ before)
              | inr base ↦ closed key.0 k (it.1 key.0 (among_end left key)) base
            ],
          );
    }

  -- A key whose number is as high already adds nothing.
  module _ (high : nat_lt (number_of now key.0) number ≡ false) where
    same : (k : List ℕ) → number_of new k ≡ number_of now k
    same k = becomes k ∙ by (bytes_eq k key.0) (nat_lt (number_of now key.0) number) high
      where
        by : (a b : Bool) → b ≡ false → (if a && b then number else number_of now k) ≡ number_of now k
        by true false h = refl
        by false false h = refl
        by a true h = cc

    stays : (k : List ℕ) → (number ≤ number_of now k) ⊎ (is_among (left ++ key ∷ []) k ≡ true)
        → (number ≤ number_of new k) ⊎ (is_among left k ≡ true)
    stays k (inl up) = let it : number_of new k ≡ number_of now k = same k in inl (omega arith)
    stays k (inr there) = elim (was_left k there) [
      | inl before ↦ inr before
      | inr is ↦
          let it : number_of new k ≡ number_of now k = same k in
          let at : number_of now k ≡ number_of now key.0 = ap (number_of now) is in
          let up : number ≤ number_of now key.0 = ltb-false (number_of now key.0) number high in
          inl (omega arith)
    ]

    pub raises_old : Raising leads old new start left number raised
    raises_old = record {
      told = λ k. elim (l.told k) [
        | inl kept ↦ inl (same k ∙ kept)
        | inr it ↦ inr (record { was = it.was; is = same k ∙ it.is; among = it.among })
      ];
      only = λ k there. same k ∙ l.only k there;
      reached = λ k there. stays k (l.reached k there);
      bases = λ k b there carried. stays b (l.bases k b there carried);
      least = λ S first closed. let it =
          l.least S first closed in (it.0, λ k there. it.1 k (among_append left (key ∷ []) k ∙ or_left _ _ there));
    }

-- A key whose number is as high already.

abbrev pub is_high : Numbers → ℕ → List ℕ → Bool
is_high now number k = nat_le number (number_of now k)

module _ (now new : Numbers) (number : ℕ) (key : Key)
    (becomes : (k : List ℕ) → number_of new k ≡ (if bytes_eq k key.0 && nat_lt (number_of now key.0) number then number
    else number_of now k)) where
  rises : (k : List ℕ) → number_of now k ≤ number_of new k
  rises k = by (bytes_eq k key.0) (nat_lt (number_of now key.0) number) refl refl
    where
      by : (a b : Bool) → bytes_eq k key.0 ≡ a → nat_lt (number_of now key.0) number ≡ b
          → number_of now k ≤ number_of new k
      by true true is below =
          let it : number_of new k ≡ number = becomes k ∙ rw (is, below) refl in
          let at : number_of now k ≡ number_of now key.0 = ap (number_of now) (same_bytes k key.0 is) in
          let low : number_of now key.0 < number = ltb-true (number_of now key.0) number below in
          omega arith
      by false b is below = let it : number_of new k ≡ number_of now k = becomes k ∙ rw is refl in omega arith
      by true false is below =
          let it : number_of new k ≡ number_of now k = becomes k ∙ rw (is, below) refl in omega arith

  pub stays_high : (k : List ℕ) → is_high now number k ≡ true → is_high new number k ≡ true
  stays_high k high =
      let it : number ≤ number_of now k = leb-true number (number_of now k) high in
      let up : number_of now k ≤ number_of new k = rises k in
      le-leb number (number_of new k) (omega arith)

  pub was_low : nat_lt (number_of now key.0) number ≡ true → is_high now number key.0 ≡ false
  was_low below = lt-low (ltb-true (number_of now key.0) number below) (decided (is_high now number key.0))
    where
      lt-low : number_of now key.0 < number → (is_high now number key.0 ≡ true) ⊎ (is_high now number key.0 ≡ false)
          → is_high now number key.0 ≡ false
      lt-low low (inr it) = it
      lt-low low (inl it) =
          let high : number ≤ number_of now key.0 = leb-true number (number_of now key.0) it in
          absurd (omega arith)

  pub is_high_now : nat_lt (number_of now key.0) number ≡ true → is_high new number key.0 ≡ true
  is_high_now below =
      let it : number_of new key.0 ≡ number = becomes key.0 ∙ rw (itself key.0, below) refl in
      le-leb number (number_of new key.0) (omega arith)
