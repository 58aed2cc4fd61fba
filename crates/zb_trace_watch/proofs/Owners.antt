-- What was added for an owner, in numbers and bytes.
use Rattle.std.proofs.Common.{◌≡◌, ℕ, List, Bool, true, cond, ◌||◌, ◌&&◌, Option, Some, ap, sym, ◌∙◌, bytes_eq, nat_eq, Result, Ok, Err}
use Rattle.std.specs.Result.{OnOk}
use Rattle.std.specs.declared.alloc.AllocError.{AllocError}
use Rattle.std.specs.BTreeMap.{is_at}
use Rattle.std.specs.BTreeSet.{BTreeSet, contains}
use Rattle.std.specs.Ordering.{is_eq, nat_cmp}
use Rattle.zb_base.specs.declared.address.Eui.{Eui}
use Rattle.zb_base.specs.declared.key.Key.{Key}
use Rattle.zb_trace_watch.specs.Sets.{eui_cmp, held, is_carried, is_key, is_number, key_cmp, node_has, number_has}
use Rattle.zb_trace_watch.specs.declared.holdings.Holdings.{Holdings}
use Rattle.zb_trace_watch.proofs.Alike.{bytes_alike, bytes_eq_sym, true_or}
use Rattle.zb_trace_watch.proofs.Truth.{number_alike}

pub added_number : (new old : Holdings Eui) (device : Eui) (key : Key)
    → ((o : Eui) (k : List ℕ) → held eui_cmp new o k
    ≡ (held eui_cmp old o k || (is_eq (eui_cmp device o) && bytes_eq k key.0)))
    → (d : ℕ) (k : List ℕ) → node_has new d k ≡ (node_has old d k || (nat_eq d device.0 && bytes_eq k key.0))
added_number new old device key adds d k =
    adds (record { 0 = d }) k ∙ ap (λ (x : Bool). node_has old d k || (x && bytes_eq k key.0))
    (number_alike device.0 d)

pub added_bytes : (new old : Holdings Key) (base key : Key)
    → ((o : Key) (k : List ℕ) → held key_cmp new o k
    ≡ (held key_cmp old o k || (is_eq (key_cmp base o) && bytes_eq k key.0)))
    → (b k : List ℕ) → is_carried new b k ≡ (is_carried old b k || (bytes_eq b base.0 && bytes_eq k key.0))
added_bytes new old base key adds b k =
    adds (record { 0 = b }) k
    ∙ ap (λ (x : Bool). is_carried old b k || (x && bytes_eq k key.0)) (bytes_alike base.0 b ∙ bytes_eq_sym base.0 b)

pub removed_number : (new old : BTreeSet Eui) (device : Eui)
    → ((q : Eui) → contains eui_cmp new q ≡ cond (is_at (eui_cmp device) q) true (contains eui_cmp old q))
    → (d : ℕ) → contains eui_cmp new (record { 0 = d })
    ≡ (contains eui_cmp old (record { 0 = d }) || nat_eq d device.0)
removed_number new old device updates d =
    updates (record { 0 = d })
    ∙ (true_or (is_eq (nat_cmp device.0 d)) (contains eui_cmp old (record { 0 = d }))
    ∙ ap (λ (x : Bool). contains eui_cmp old (record { 0 = d }) || x) (number_alike device.0 d))

pub added_at : (result : Result (Unit {0}) AllocError) (new old : Holdings ℕ) (node : Option ℕ) (number : ℕ)
    (key : Key) → node ≡ Some number
    → OnOk result
    ((o : ℕ) (k : List ℕ) → held nat_cmp new o k
    ≡ (held nat_cmp old o k || (is_eq (nat_cmp number o) && bytes_eq k key.0)))
    → OnOk result
    ((n : ℕ) (k : List ℕ) → number_has new n k ≡ (number_has old n k || (is_number node n && bytes_eq k key.0)))
added_at (Ok u) new old who number key is adds = λ n k.
    adds n k
    ∙ (ap (λ (x : Bool). number_has old n k || (x && bytes_eq k key.0)) (number_alike number n)
    ∙ ap (λ (o : Option ℕ). number_has old n k || (is_number o n && bytes_eq k key.0)) (sym is))
added_at (Err e) new old who number key is adds = tt

pub added_under : (result : Result (Unit {0}) AllocError) (new old : Holdings Key) (owner : Option Key)
    (one key : Key) → owner ≡ Some one
    → OnOk result
    ((o : Key) (k : List ℕ) → held key_cmp new o k
    ≡ (held key_cmp old o k || (is_eq (key_cmp one o) && bytes_eq k key.0)))
    → OnOk result ((o k : List ℕ) → is_carried new o k ≡ (is_carried old o k || (is_key owner o && bytes_eq k key.0)))
added_under (Ok u) new old who one key is adds = λ o k. added_bytes new old one key adds o k ∙ ap
    (λ (w : Option Key). is_carried old o k || (is_key w o && bytes_eq k key.0)) (sym is)
added_under (Err e) new old who one key is adds = tt
