-- The round keys one after the other, and the rounds that add them.
use Rattle.std.proofs.Common.{◌≡◌, ◌≢◌, ℕ, zero, suc, ◌+◌, ◌-◌, ◌<◌, ◌≤◌, List, [], ◌∙◌, refl, sym, ap, get_or, length, map, replicate, add-one, below_more, arith}
use Rattle.std.proofs.Math.ListN.{set}
use Rattle.std.proofs.lemmas.List.{get_or-map, get_or-set_other, get_or-set_same}
use Rattle.std.proofs.lemmas.List.FromFn.{get_or-map-range_with_len}
use Rattle.std.specs.List.{range_with_len}
use Rattle.zb_aes.proofs.Linear.{get_or-bytes, map-xored}
use Rattle.zb_aes.specs.Block.{round, last_round, next_key, round_constant, round_key, state_after, enciphered}
use Rattle.zb_aes.specs.Bytes.{xored}
use Rattle.zb_aes.specs.Field.{substitute, times}
use Rattle.zb_aes.specs.Columns.{key_at, AreRoundKeys}
use Rattle.zb_aes.specs.Pairs.{byte_of, found}
use Rattle.zb_aes.specs.declared.schedule.TheConstants.{CONSTANTS, ZERO_KEYS}

constants : map byte_of CONSTANTS ≡ map (λ i. round_constant (i + 1)) (range_with_len 0 10)
unfolding byte_of found
constants = refl

constant_at : (i : ℕ) → i < 10 → byte_of (get_or CONSTANTS i 0) ≡ round_constant (i + 1)
constant_at i h =
    get_or-bytes CONSTANTS i ∙ ap (λ l. get_or l i 0) constants
    ∙ get_or-map-range_with_len (λ i. round_constant (i + 1)) 0 10 i i 0 h (omega arith)

round_key-more : (key : List ℕ) (n : ℕ) → round_key key (n + 1) ≡ next_key (round_constant (n + 1)) (round_key key n)
unfolding round_key
round_key-more key n = rw add-one refl

pub keys_one : (keys : List (List ℕ)) → AreRoundKeys 1 keys
unfolding round_key
keys_one keys = record { each = first_only }
  where
    first_only : (i : ℕ) → i < 1 → key_at keys i ≡ round_key (key_at keys 0) i
    first_only zero h = refl
    first_only (suc i) h = absurd (omega arith)

pub keys_more : (n : ℕ) (keys : List (List ℕ)) (next : List ℕ) → n < 10 → length keys ≡ 11 → AreRoundKeys (n + 1) keys
    → map byte_of next ≡ next_key (byte_of (get_or CONSTANTS n 0)) (key_at keys n)
    → AreRoundKeys (n + 1 + 1) (set keys (n + 1) next) × (key_at (set keys (n + 1) next) 0 ≡ key_at keys 0)
    × (next ≡ get_or (set keys (n + 1) next) (n + 1) [])
keys_more n keys next few long before e =
    let other : 0 ≢ n + 1 = omega arith in
    let first : key_at (set keys (n + 1) next) 0 ≡ key_at keys 0 =
    ap (map byte_of) (get_or-set_other keys (n + 1) 0 next _ other) in
    let below : (i : ℕ) → i < n + 1 → key_at (set keys (n + 1) next) i
    ≡ round_key (key_at (set keys (n + 1) next) 0) i =
    λ i h. ap (map byte_of) (get_or-set_other keys (n + 1) i next _ (omega arith)) ∙ before.each i h
    ∙ ap (λ k. round_key k i) (sym first) in
    let here : key_at (set keys (n + 1) next) (n + 1) ≡ round_key (key_at (set keys (n + 1) next) 0) (n + 1) =
    ap (map byte_of) (get_or-set_same keys (n + 1) next _ (omega arith)) ∙ e
    ∙ ap (λ k. next_key k (key_at keys n)) (constant_at n few)
    ∙ ap (next_key (round_constant (n + 1))) (before.each n (omega arith))
    ∙ sym (round_key-more (key_at keys 0) n) ∙ ap (λ k. round_key k (n + 1)) (sym first) in (
      record {
        each = below_more (λ i. key_at (set keys (n + 1) next) i ≡ round_key (key_at (set keys (n + 1) next) 0) i)
            (n + 1) below here;
      },
      first,
      sym (get_or-set_same keys (n + 1) next _ (omega arith)),
    )

state_after-zero : (key block : List ℕ) → state_after key block 0 ≡ xored block key
unfolding state_after
state_after-zero key block = refl

state_after-more : (key block : List ℕ) (i : ℕ) → 1 ≤ i
    → state_after key block i ≡ round (round_key key i) (state_after key block (i - 1))
unfolding state_after
state_after-more key block zero h = absurd (omega arith)
state_after-more key block (suc n) h = let e : suc n - 1 ≡ n = omega arith in rw e refl

-- The first round key is added to a block as pairs.
pub start-of-pairs : (key pairs block bytes state : List ℕ) → bytes ≡ block → map byte_of pairs ≡ bytes
    → state ≡ xored pairs key → map byte_of state ≡ state_after (map byte_of key) block 0
start-of-pairs key pairs block bytes state p q r =
    ap (map byte_of) r ∙ map-xored pairs key ∙ ap (λ b. xored b (map byte_of key)) (q ∙ p)
    ∙ sym (state_after-zero (map byte_of key) block)

pub rounds-more : (key block first now state next : List ℕ) (i : ℕ) → 1 ≤ i → first ≡ key → now ≡ round_key first i
    → state ≡ state_after key block (i - 1) → next ≡ round now state → next ≡ state_after key block (i + 1 - 1)
rounds-more key block first now state next i h p q r s =
    let e = state_after-more key block i h in let k : i + 1 - 1 ≡ i = omega arith in rw k (cc)

pub rounds-end : (key block first now state last result : List ℕ) (i : ℕ) → i ≡ 10 → first ≡ key
    → now ≡ round_key first 10 → state ≡ state_after key block (i - 1) → last ≡ last_round now state → result ≡ last
    → result ≡ enciphered key block
unfolding enciphered
rounds-end key block first now state last result i h p q r s t =
    let k : i - 1 ≡ 9 = omega arith in let r' = rw k at r in cc

-- The round keys of 16 zeros, by computation.
zero_keys : map (map byte_of) ZERO_KEYS ≡ map (λ i. round_key (replicate 16 0) i) (range_with_len 0 11)
unfolding round_key next_key substitute times xored byte_of found
zero_keys = refl

zero_key_at : (i : ℕ) → i < 11 → key_at ZERO_KEYS i ≡ round_key (replicate 16 0) i
zero_key_at i h =
    sym (get_or-map (map byte_of) ZERO_KEYS i [] [] h) ∙ ap (λ l. get_or l i []) zero_keys
    ∙ get_or-map-range_with_len (λ i. round_key (replicate 16 0) i) 0 11 i i [] h (omega arith)

pub first_zero_key : key_at ZERO_KEYS 0 ≡ replicate 16 0
unfolding byte_of found
first_zero_key = refl

pub zero_keys_are : AreRoundKeys 11 ZERO_KEYS
zero_keys_are = record { each = λ i h. zero_key_at i h ∙ ap (λ k. round_key k i) (sym first_zero_key) }
