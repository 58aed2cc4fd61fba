-- Numbers of keys that are cleared one by one, and with each key those of the keys that lead to it.
use Rattle.std.proofs.Common.{◌≡◌, ◌⊎◌, ℕ, ◌<◌, ◌≤◌, List, [], ◌∷◌, ◌++◌, Bool, true, false, ◌||◌, inl, inr, arith, ap, sym, ◌∙◌, bytes_eq, nat_eq, nat_lt, eq-eqb}
use Rattle.std.specs.Prelude.{if◌then◌else◌}
use Rattle.std.proofs.lemmas.Bool.{ltb-true, ltb-false}
use Rattle.zb_base.specs.declared.key.Key.{Key}
use Rattle.zb_audit_lockout.specs.Reading.{number_of}
use Rattle.zb_audit_lockout.specs.declared.numbers.Numbers.{Numbers}
use Rattle.zb_trace_watch.specs.Sets.{is_among, is_carried, key_cmp, keys_at}
use Rattle.zb_trace_watch.specs.declared.holdings.Holdings.{Holdings}
use Rattle.zb_trace_watch.proofs.Truth.{among_append, decided, either, itself, none_left, or_left, or_right, same_bytes, same_number}

-- What is cleared so far, and what is left to clear.
pub record Clearing (bases : Holdings Key) (old now : Numbers) (start left cleared : List Key) : Type 0 where
  pub told : (k : List ℕ) → (number_of now k ≡ number_of old k)
      ⊎ ((number_of now k ≡ 0) × (is_among cleared k ≡ true))
  pub only : (k : List ℕ) → is_among cleared k ≡ true → number_of now k ≡ 0
  pub reached : (k : List ℕ) → is_among start k ≡ true → (number_of now k ≡ 0) ⊎ (is_among left k ≡ true)
  pub carried : (k b : List ℕ) → is_among cleared k ≡ true → is_carried bases k b ≡ true → (number_of now b ≡ 0)
      ⊎ (is_among left b ≡ true)

-- A key whose number is cleared already.
abbrev pub is_clear : Numbers → List ℕ → Bool
is_clear now k = nat_eq (number_of now k) 0

module _ (now new : Numbers) (key : Key)
    (becomes : (k : List ℕ) → number_of new k ≡ (if bytes_eq k key.0 then 0 else number_of now k)) where
  at_key : (k : List ℕ) → bytes_eq k key.0 ≡ true → number_of new k ≡ 0
  at_key k is = becomes k ∙ ap (λ (b : Bool). if b then 0 else number_of now k) is

  others : (k : List ℕ) → bytes_eq k key.0 ≡ false → number_of new k ≡ number_of now k
  others k other = becomes k ∙ ap (λ (b : Bool). if b then 0 else number_of now k) other

  still_none : (k : List ℕ) → number_of now k ≡ 0 → number_of new k ≡ 0
  still_none k none = elim (decided (bytes_eq k key.0)) [
    | inl is ↦ at_key k is
    | inr other ↦ others k other ∙ none
  ]

  pub stays_clear : (k : List ℕ) → is_clear now k ≡ true → is_clear new k ≡ true
  stays_clear k clear = eq-eqb (number_of new k) 0 (still_none k (same_number (number_of now k) 0 clear))

  pub is_clear_now : is_clear new key.0 ≡ true
  is_clear_now = eq-eqb (number_of new key.0) 0 (at_key key.0 (itself key.0))

  pub was_not_clear : nat_lt 0 (number_of now key.0) ≡ true → is_clear now key.0 ≡ false
  was_not_clear above = elim (decided (is_clear now key.0)) [
    | inl is ↦
        let none : number_of now key.0 ≡ 0 = same_number (number_of now key.0) 0 is in
        let some : 0 < number_of now key.0 = ltb-true 0 (number_of now key.0) above in
        absurd (omega arith)
    | inr it ↦ it
  ]

  module _ (bases : Holdings Key) (old : Numbers) (start left cleared : List Key)
      (l : Clearing bases old now start (left ++ key ∷ []) cleared) where
    was_left : (k : List ℕ) → is_among (left ++ key ∷ []) k ≡ true → (is_among left k ≡ true)
        ⊎ (bytes_eq k key.0 ≡ true)
    was_left k there =
        elim (either (is_among left k) (bytes_eq k key.0 || false) (sym (among_append left (key ∷ []) k) ∙ there)) [
          | inl before ↦ inl before
          | inr last ↦ inr (none_left _ last)
        ]

    moved : (more : List Key) (k : List ℕ) → (number_of now k ≡ 0) ⊎ (is_among (left ++ key ∷ []) k ≡ true)
        → (number_of new k ≡ 0) ⊎ (is_among (left ++ more) k ≡ true)
    moved more k (inl none) = inl (still_none k none)
    moved more k (inr there) = elim (was_left k there) [
      | inl before ↦ inr (among_append left more k ∙ or_left _ _ before)
      | inr is ↦ inl (at_key k is)
    ]

    now_cleared : (k : List ℕ) → is_among (cleared ++ key ∷ []) k ≡ true → (is_among cleared k ≡ true)
        ⊎ (bytes_eq k key.0 ≡ true)
    now_cleared k there =
        elim (either (is_among cleared k) (bytes_eq k key.0 || false)
        (sym (among_append cleared (key ∷ []) k) ∙ there)) [
          | inl before ↦ inl before
          | inr last ↦ inr (none_left _ last)
        ]

    -- A key that had a number adds the keys that lead to it.
    pub clears_new : Clearing bases old new start (left ++ keys_at key_cmp bases key) (cleared ++ key ∷ [])
    clears_new = record {
      told = λ k. elim (decided (bytes_eq k key.0)) [
        | inl is ↦ inr (at_key k is, among_append cleared (key ∷ []) k ∙ or_right _ _ (or_left _ _ is))
        | inr other ↦ elim (l.told k) [
          | inl kept ↦ inl (others k other ∙ kept)
          | inr it ↦ inr (others k other ∙ it.0, among_append cleared (key ∷ []) k ∙ or_left _ _ it.1)
        ]
      ];
      only = λ k there. elim (now_cleared k there) [
        | inl before ↦ still_none k (l.only k before)
        | inr is ↦ at_key k is
      ];
      reached = λ k there. moved (keys_at key_cmp bases key) k (l.reached k there);
      carried = λ k b there leads. elim (now_cleared k there) [
        | inl before ↦ moved (keys_at key_cmp bases key) b (l.carried k b before leads)
        | inr is ↦ inr
            (among_append left (keys_at key_cmp bases key) b ∙ or_right _ _
            (ap (λ (q : List ℕ). is_carried bases q b) (sym (same_bytes k key.0 is)) ∙ leads))
      ];
    }

    -- A key that had none adds nothing.
    pub clears_old : nat_lt 0 (number_of now key.0) ≡ false → Clearing bases old new start left cleared
    clears_old none_above = record {
      told = λ k. elim (l.told k) [
        | inl kept ↦ inl (same k ∙ kept)
        | inr it ↦ inr (same k ∙ it.0, it.1)
      ];
      only = λ k there. same k ∙ l.only k there;
      reached = λ k there. stays k (l.reached k there);
      carried = λ k b there leads. stays b (l.carried k b there leads);
    }
      where
        none : number_of now key.0 ≡ 0
        none = let low : number_of now key.0 ≤ 0 = ltb-false 0 (number_of now key.0) none_above in omega arith

        same : (k : List ℕ) → number_of new k ≡ number_of now k
        same k = elim (decided (bytes_eq k key.0)) [
          | inl is ↦ at_key k is ∙ sym (ap (number_of now) (same_bytes k key.0 is) ∙ none)
          | inr other ↦ others k other
        ]

        stays : (k : List ℕ) → (number_of now k ≡ 0) ⊎ (is_among (left ++ key ∷ []) k ≡ true)
            → (number_of new k ≡ 0) ⊎ (is_among left k ≡ true)
        stays k (inl zero_at) = inl (still_none k zero_at)
        stays k (inr there) = elim (was_left k there) [
          | inl before ↦ inr before
          | inr is ↦ inl (at_key k is)
        ]
