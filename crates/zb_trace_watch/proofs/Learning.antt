-- A set that learns keys one by one, and with each new key those that terms carry under it.
use Rattle.std.proofs.Common.{◌≡◌, ℕ, ◌+◌, ◌≤◌, List, [], ◌∷◌, ◌++◌, length, Bool, true, false, cond, ◌||◌, Option, Some, inl, inr, refl, arith, ap, sym, ◌∙◌, bytes_eq}
use Rattle.std.specs.Prelude.{if◌then◌else◌}
use Rattle.std.specs.Map.{lookup}
use Rattle.std.specs.BTreeMap.{is_at}
use Rattle.zb_base.specs.declared.key.Key.{Key}
use Rattle.zb_trace_watch.specs.Sets.{has, is_among, is_carried, key_cmp, keys_at, keys_of}
use Rattle.zb_trace_watch.specs.declared.holdings.Holdings.{Holdings}
use Rattle.zb_trace_watch.specs.declared.keys.Keys.{Keys}
use Rattle.zb_trace_watch.proofs.Alike.{bytes_alike}
use Rattle.zb_trace_watch.proofs.Truth.{either, or_left, or_right, none_left, same_bytes, itself, among_append, among_end}

-- What is known now, and what is left to learn.
pub record Learning (carried : Holdings Key) (old now : Keys) (start left : List Key) : Type 0 where
  pub keeps : (k : List ℕ) → has old k ≡ true → has now k ≡ true
  pub learns : (k : List ℕ) → is_among start k ≡ true → (has now k || is_among left k) ≡ true
  pub opens : (b k : List ℕ) → has old b ≡ false → has now b ≡ true → is_carried carried b k ≡ true
      → (has now k || is_among left k) ≡ true
  pub least : (S : List ℕ → Bool) → ((k : List ℕ) → has old k ≡ true → S k ≡ true)
      → ((k : List ℕ) → is_among start k ≡ true → S k ≡ true)
      → ((b k : List ℕ) → S b ≡ true → is_carried carried b k ≡ true → S k ≡ true)
      → ((k : List ℕ) → has now k ≡ true → S k ≡ true) × ((k : List ℕ) → is_among left k ≡ true → S k ≡ true)

module _ (carried : Holdings Key) (old now new : Keys) (start left : List Key) (key : Key)
    (adds : (k : List ℕ) → has new k ≡ (has now k || bytes_eq k key.0))
    (l : Learning carried old now start (left ++ key ∷ [])) where
  up : (k : List ℕ) → has now k ≡ true → has new k ≡ true
  up k h = adds k ∙ or_left _ _ h

  here : (k : List ℕ) → bytes_eq k key.0 ≡ true → has new k ≡ true
  here k h = adds k ∙ or_right _ _ h

  popped : (k : List ℕ) → (bytes_eq k key.0 || false) ≡ true → has new k ≡ true
  popped k h = here k (none_left _ h)

  moved : (more : List Key) (k : List ℕ) → (has now k || is_among (left ++ key ∷ []) k) ≡ true
      → (has new k || is_among (left ++ more) k) ≡ true
  moved more k h =
      elim (either (has now k) (is_among (left ++ key ∷ []) k) h) [
        | inl known ↦ or_left _ _ (up k known)
        | inr there ↦ elim
            (either (is_among left k) (bytes_eq k key.0 || false) (sym (among_append left (key ∷ []) k) ∙ there)) [
              | inl before ↦ or_right _ _ (among_append left more k ∙ or_left _ _ before)
              | inr last ↦ or_left _ _ (popped k last)
            ]
      ]

  least_new : (S : List ℕ → Bool) → ((k : List ℕ) → has now k ≡ true → S k ≡ true)
      → ((k : List ℕ) → is_among (left ++ key ∷ []) k ≡ true → S k ≡ true)
      → (k : List ℕ) → has new k ≡ true → S k ≡ true
  least_new S known more k h =
      elim (either (has now k) (bytes_eq k key.0) (sym (adds k) ∙ h)) [
        | inl before ↦ known k before
        | inr last ↦ ap S (same_bytes k key.0 last) ∙ more key.0 (among_end left key)
      ]

  least_left : (S : List ℕ → Bool) → ((k : List ℕ) → is_among (left ++ key ∷ []) k ≡ true → S k ≡ true) → (k : List ℕ)
      → is_among left k ≡ true → S k ≡ true
  least_left S more k h = more k (among_append left (key ∷ []) k ∙ or_left _ _ h)

  -- A new key adds those that terms carry under it.
  pub learns_new : Learning carried old new start (left ++ keys_at key_cmp carried key)
  learns_new = record {
    keeps = λ k h. up k (l.keeps k h);
    learns = λ k h. moved (keys_at key_cmp carried key) k (l.learns k h);
    opens = λ b k unknown known there.
        elim (either (has now b) (bytes_eq b key.0) (sym (adds b) ∙ known)) [
          | inl before ↦ moved (keys_at key_cmp carried key) k (l.opens b k unknown before there)
          | inr last ↦ or_right _ _
              (among_append left (keys_at key_cmp carried key) k ∙ or_right _ _
              (ap (λ (q : List ℕ). is_carried carried q k) (sym (same_bytes b key.0 last)) ∙ there))
        ];
    least = λ S known more closed.
        let it = l.least S known more closed in (
          least_new S it.0 it.1,
          λ k h.
              elim (either (is_among left k) (is_among (keys_at key_cmp carried key) k)
              (sym (among_append left (keys_at key_cmp carried key) k) ∙ h)) [
                | inl before ↦ least_left S it.1 k before
                | inr opened ↦ closed key.0 k (it.1 key.0 (among_end left key)) opened
              ],
        );
  }

  -- A known key adds nothing.
  pub learns_old : has now key.0 ≡ true → Learning carried old new start left
  learns_old already = record {
    keeps = λ k h. up k (l.keeps k h);
    learns = λ k h. stays k (l.learns k h);
    opens = λ b k unknown known there. stays k (l.opens b k unknown (was b known) there);
    least = λ S known more closed. let it = l.least S known more closed in (least_new S it.0 it.1, least_left S it.1);
  }
    where
      was : (b : List ℕ) → has new b ≡ true → has now b ≡ true
      was b known =
          elim (either (has now b) (bytes_eq b key.0) (sym (adds b) ∙ known)) [
            | inl before ↦ before
            | inr last ↦ ap (has now) (same_bytes b key.0 last) ∙ already
          ]

      stays : (k : List ℕ) → (has now k || is_among (left ++ key ∷ []) k) ≡ true → (has new k || is_among left k)
          ≡ true
      stays k h =
          elim (either (has now k) (is_among (left ++ key ∷ []) k) h) [
            | inl known ↦ or_left _ _ (up k known)
            | inr there ↦ elim
                (either (is_among left k) (bytes_eq k key.0 || false) (sym (among_append left (key ∷ []) k) ∙ there)) [
                  | inl before ↦ or_right _ _ before
                  | inr last ↦ or_left _ _ (popped k last)
                ]
          ]

-- How many keys terms carry under base keys that aren't known.

abbrev pub unopened_by : Bool → Keys → ℕ
unopened_by known keys = if known then 0 else length keys.keys.keys

abbrev pub unopened : Keys → List (Key × Keys) → ℕ
unopened now [] = 0
unopened now (e ∷ es) = unopened_by (has now e.0.0) e.1 + unopened now es

less_or_same : (a b : Bool) (keys : Keys) → (a ≡ true → b ≡ true) → unopened_by b keys ≤ unopened_by a keys
less_or_same true b keys more = rw (more refl) (omega arith)
less_or_same false true keys more = omega arith
less_or_same false false keys more = omega arith

pub fewer_unopened : (now new : Keys) → ((k : List ℕ) → has now k ≡ true → has new k ≡ true)
    → (entries : List (Key × Keys)) → unopened new entries ≤ unopened now entries
fewer_unopened now new up [] = omega arith
fewer_unopened now new up (e ∷ es) =
    omega (arith, less_or_same (has now e.0.0) (has new e.0.0) e.1 (up e.0.0), fewer_unopened now new up es)

opened_here : (a b : Bool) (keys : Keys) → a ≡ false → b ≡ true → unopened_by b keys + length keys.keys.keys
    ≤ unopened_by a keys
opened_here a b keys e f = rw (e, f) (omega arith)

abbrev found : Key → List (Key × Keys) → Option Keys
found key entries = lookup (is_at (key_cmp key)) entries

opened_at : (now new : Keys) (key : Key) → ((k : List ℕ) → has now k ≡ true → has new k ≡ true) → has now key.0
    ≡ false → has new key.0 ≡ true
    → (e : Key × Keys) (es : List (Key × Keys)) → unopened new es + length (keys_of (found key es)) ≤ unopened now es
    → (b : Bool) → is_at (key_cmp key) e.0 ≡ b → (unopened_by (has new e.0.0) e.1 + unopened new es) + length
    (keys_of (cond b (Some e.1) (found key es))) ≤ unopened_by (has now e.0.0) e.1 + unopened now es
opened_at now new key up unknown known e es later true is =
    let same : e.0.0 ≡ key.0 = sym (same_bytes key.0 e.0.0 (sym (bytes_alike key.0 e.0.0) ∙ is)) in
    let here : unopened_by (has new e.0.0) e.1 + length e.1.keys.keys ≤ unopened_by (has now e.0.0) e.1 =
    opened_here (has now e.0.0) (has new e.0.0) e.1 (ap (has now) same ∙ unknown) (ap (has new) same ∙ known) in
    let others : unopened new es ≤ unopened now es = fewer_unopened now new up es in
    omega arith
opened_at now new key up unknown known e es later false is =
    let here : unopened_by (has new e.0.0) e.1 ≤ unopened_by (has now e.0.0) e.1 =
    less_or_same (has now e.0.0) (has new e.0.0) e.1 (up e.0.0) in
    omega arith

pub opened_once : (now new : Keys) (key : Key) → ((k : List ℕ) → has now k ≡ true → has new k ≡ true) → has now key.0
    ≡ false → has new key.0 ≡ true
    → (entries : List (Key × Keys)) → unopened new entries + length (keys_of (lookup (is_at (key_cmp key)) entries))
    ≤ unopened now entries
opened_once now new key up unknown known [] = omega arith
opened_once now new key up unknown known (e ∷ es) =
    opened_at now new key up unknown known e es (opened_once now new key up unknown known es)
    (is_at (key_cmp key) e.0) refl

pub known_more : (now new : Keys) (key : Key) → ((k : List ℕ) → has new k ≡ (has now k || bytes_eq k key.0))
    → (k : List ℕ) → has now k ≡ true → has new k ≡ true
known_more now new key adds k h = adds k ∙ or_left _ _ h

pub known_now : (now new : Keys) (key : Key) → ((k : List ℕ) → has new k ≡ (has now k || bytes_eq k key.0))
    → has new key.0 ≡ true
known_now now new key adds = adds key.0 ∙ or_right _ _ (itself key.0)
