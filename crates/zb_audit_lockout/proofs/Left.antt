-- The number of keys to which the remaining keys lead.
use Rattle.std.proofs.Common.{◌≡◌, ℕ, ◌+◌, ◌≤◌, List, [], ◌∷◌, length, Bool, true, false, cond, Option, Some, refl, arith, ap, sym, ◌∙◌}
use Rattle.std.specs.Prelude.{if◌then◌else◌}
use Rattle.std.specs.Map.{lookup}
use Rattle.std.specs.BTreeMap.{is_at}
use Rattle.zb_base.specs.declared.key.Key.{Key}
use Rattle.zb_trace_watch.specs.Sets.{key_cmp, keys_of}
use Rattle.zb_trace_watch.specs.declared.keys.Keys.{Keys}
use Rattle.zb_trace_watch.proofs.Alike.{bytes_alike}
use Rattle.zb_trace_watch.proofs.Truth.{same_bytes}

abbrev left_by : Bool → Keys → ℕ
left_by done keys = if done then 0 else length keys.keys.keys

abbrev pub left_of : (List ℕ → Bool) → List (Key × Keys) → ℕ
left_of done [] = 0
left_of done (e ∷ es) = left_by (done e.0.0) e.1 + left_of done es

less_or_same : (a b : Bool) (keys : Keys) → (a ≡ true → b ≡ true) → left_by b keys ≤ left_by a keys
less_or_same true b keys more = rw (more refl) (omega arith)
less_or_same false true keys more = omega arith
less_or_same false false keys more = omega arith

module _ (was is : List ℕ → Bool) (up : (k : List ℕ) → was k ≡ true → is k ≡ true) where
  pub fewer_left : (entries : List (Key × Keys)) → left_of is entries ≤ left_of was entries
  fewer_left [] = omega arith
  fewer_left (e ∷ es) = omega (arith, less_or_same (was e.0.0) (is e.0.0) e.1 (up e.0.0), fewer_left es)

  module _ (key : Key) (undone : was key.0 ≡ false) (done : is key.0 ≡ true) where
    abbrev found : List (Key × Keys) → Option Keys
    found entries = lookup (is_at (key_cmp key)) entries

    done_here : (a b : Bool) (keys : Keys) → a ≡ false → b ≡ true → left_by b keys + length keys.keys.keys
        ≤ left_by a keys
    done_here a b keys e f = rw (e, f) (omega arith)

    done_at : (e : Key × Keys) (es : List (Key × Keys)) → left_of is es + length (keys_of (found es))
        ≤ left_of was es
        → (b : Bool) → is_at (key_cmp key) e.0 ≡ b
        → (left_by (is e.0.0) e.1 + left_of is es) + length (keys_of (cond b (Some e.1) (found es)))
        ≤ left_by (was e.0.0) e.1 + left_of was es
    done_at e es later true at =
        let same : e.0.0 ≡ key.0 = sym (same_bytes key.0 e.0.0 (sym (bytes_alike key.0 e.0.0) ∙ at)) in
        let it : left_by (is e.0.0) e.1 + length e.1.keys.keys ≤ left_by (was e.0.0) e.1 =
        done_here (was e.0.0) (is e.0.0) e.1 (ap was same ∙ undone) (ap is same ∙ done) in
        let rest : left_of is es ≤ left_of was es = fewer_left es in
        omega arith
    done_at e es later false at =
        let it : left_by (is e.0.0) e.1 ≤ left_by (was e.0.0) e.1 =
        less_or_same (was e.0.0) (is e.0.0) e.1 (up e.0.0) in
        omega arith

    pub done_once : (entries : List (Key × Keys))
        → left_of is entries + length (keys_of (lookup (is_at (key_cmp key)) entries)) ≤ left_of was entries
    done_once [] = omega arith
    done_once (e ∷ es) = done_at e es (done_once es) (is_at (key_cmp key) e.0) refl
