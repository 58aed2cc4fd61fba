-- Values at keys and addresses, and how they change.
use Rattle.std.proofs.Common.{◌≡◌, ℕ, List, Bool, true, false, cond, not, ◌&&◌, Option, Some, None, refl, ap, sym, ◌∙◌, bytes_eq, nat_eq, nat_lt}
use Rattle.std.specs.BTreeMap.{BTreeMap, get, is_at}
use Rattle.std.specs.BTreeSet.{BTreeSet, contains}
use Rattle.std.specs.Option.{option_or, is_some}
use Rattle.std.specs.Ordering.{is_eq, nat_cmp}
use Rattle.std.specs.Prelude.{if◌then◌else◌}
use Rattle.zb_base.specs.declared.address.Eui.{Eui}
use Rattle.zb_base.specs.declared.key.Key.{Key}
use Rattle.zb_audit_lockout.specs.Reading.{number_of, number_in, or_zero}
use Rattle.zb_audit_lockout.specs.declared.numbers.Numbers.{Numbers}
use Rattle.zb_trace_watch.specs.Sets.{eui_cmp, is_among, key_cmp, keys_of}
use Rattle.zb_trace_watch.specs.declared.keys.Keys.{Keys}
use Rattle.zb_trace_watch.proofs.Alike.{bytes_alike, bytes_eq_sym, list_any_alike}
use Rattle.zb_trace_watch.proofs.Truth.{number_alike, number_so, same_number}

first_value : {X : Type 0} (same : Bool) (old : Option X) (x : X) → (same ≡ true → old ≡ None)
    → cond same (Some x) old ≡ option_or old (if same then Some x else None)
first_value true old x none = rw (none refl) refl
first_value false None x none = refl
first_value false (Some y) x none = refl

pub nothing_there : {X : Type 0} (o : Option X) → is_some o ≡ false → o ≡ None
nothing_there None h = refl
nothing_there (Some x) h = cc

pub first_number : (old new : BTreeMap Eui ℕ) (device : Eui) (number : ℕ) → number_in old.entries device.0 ≡ None
    → ((q : Eui) → get eui_cmp new q ≡ cond (is_at (eui_cmp device) q) (Some number) (get eui_cmp old q))
    → (d : ℕ) → number_in new.entries d ≡ option_or (number_in old.entries d) (if nat_eq d device.0 then Some number
    else None)
first_number old new device number none updates d =
    updates (record { 0 = d })
    ∙ (ap (λ (b : Bool). cond b (Some number) (number_in old.entries d)) (number_alike device.0 d)
    ∙ first_value (nat_eq d device.0) (number_in old.entries d) number
    (λ same. ap (number_in old.entries) (same_number d device.0 same) ∙ none))

pub taken_out : (old new : BTreeMap Eui ℕ) (device : Eui)
    → ((q : Eui) → get eui_cmp new q ≡ cond (is_at (eui_cmp device) q) None (get eui_cmp old q))
    → (d : ℕ) → number_in new.entries d ≡ (if nat_eq d device.0 then None else number_in old.entries d)
taken_out old new device updates d =
    updates (record { 0 = d }) ∙ ap (λ (b : Bool). cond b None (number_in old.entries d)) (number_alike device.0 d)

-- The numbers of keys.
pub raised_number : (old : Numbers) (new : BTreeMap Key ℕ) (key : Key) (number : ℕ)
    → nat_lt (number_of old key.0) number ≡ true
    → ((q : Key) → get key_cmp new q ≡ cond (is_at (key_cmp key) q) (Some number) (get key_cmp old.numbers q))
    → (k : List ℕ) → number_of (record { numbers = new }) k
    ≡ (if bytes_eq k key.0 && nat_lt (number_of old key.0) number then number else number_of old k)
raised_number old new key number below updates k =
    ap or_zero (updates (record { 0 = k }))
    ∙ (ap (λ (b : Bool). or_zero (cond b (Some number) (get key_cmp old.numbers (record { 0 = k }))))
    (bytes_alike key.0 k ∙ bytes_eq_sym key.0 k)
    ∙ by (bytes_eq k key.0) (nat_lt (number_of old key.0) number) below)
  where
    by : (a b : Bool) → b ≡ true → or_zero (cond a (Some number) (get key_cmp old.numbers (record { 0 = k })))
        ≡ (if a && b then number else number_of old k)
    by true true h = refl
    by false true h = refl
    by a false h = cc

pub given_number : (old : Numbers) (new : BTreeMap Key ℕ) (key : Key) (number : ℕ)
    → ((q : Key) → get key_cmp new q ≡ cond (is_at (key_cmp key) q) (Some number) (get key_cmp old.numbers q))
    → (k : List ℕ) → number_of (record { numbers = new }) k ≡ (if bytes_eq k key.0 then number else number_of old k)
given_number old new key number updates k =
    ap or_zero (updates (record { 0 = k }))
    ∙ (ap (λ (b : Bool). or_zero (cond b (Some number) (get key_cmp old.numbers (record { 0 = k }))))
    (bytes_alike key.0 k ∙ bytes_eq_sym key.0 k)
    ∙ by (bytes_eq k key.0))
  where
    by : (a : Bool) → or_zero (cond a (Some number) (get key_cmp old.numbers (record { 0 = k })))
        ≡ (if a then number else number_of old k)
    by true = refl
    by false = refl

pub marked_early : (old new : BTreeMap Eui ℕ) (device : Eui) (early : ℕ)
    → ((q : Eui) → get eui_cmp new q ≡ cond (is_at (eui_cmp device) q) (Some early) (get eui_cmp old q))
    → (d : ℕ) → or_zero (get eui_cmp new (record { 0 = d }))
    ≡ (if nat_eq d device.0 then early else or_zero (get eui_cmp old (record { 0 = d })))
marked_early old new device early updates d =
    ap or_zero (updates (record { 0 = d }))
    ∙ (ap (λ (b : Bool). or_zero (cond b (Some early) (get eui_cmp old (record { 0 = d }))))
    (number_alike device.0 d)
    ∙ by (nat_eq d device.0))
  where
    by : (a : Bool) → or_zero (cond a (Some early) (get eui_cmp old (record { 0 = d })))
        ≡ (if a then early else or_zero (get eui_cmp old (record { 0 = d })))
    by true = refl
    by false = refl

pub cleared_number : (old : Numbers) (new : BTreeMap Key ℕ) (key : Key)
    → ((q : Key) → get key_cmp new q ≡ cond (is_at (key_cmp key) q) None (get key_cmp old.numbers q))
    → (k : List ℕ) → number_of (record { numbers = new }) k ≡ (if bytes_eq k key.0 then 0 else number_of old k)
cleared_number old new key updates k =
    ap or_zero (updates (record { 0 = k }))
    ∙ (ap (λ (b : Bool). or_zero (cond b None (get key_cmp old.numbers (record { 0 = k }))))
    (bytes_alike key.0 k ∙ bytes_eq_sym key.0 k)
    ∙ by (bytes_eq k key.0))
  where
    by : (a : Bool) → or_zero (cond a None (get key_cmp old.numbers (record { 0 = k })))
        ≡ (if a then 0 else number_of old k)
    by true = refl
    by false = refl

pub unmarked_early : (old new : BTreeMap Eui ℕ) (device : Eui)
    → ((q : Eui) → get eui_cmp new q ≡ cond (is_at (eui_cmp device) q) None (get eui_cmp old q))
    → (d : ℕ) → or_zero (get eui_cmp new (record { 0 = d }))
    ≡ (if nat_eq d device.0 then 0 else or_zero (get eui_cmp old (record { 0 = d })))
unmarked_early old new device updates d =
    ap or_zero (updates (record { 0 = d }))
    ∙ (ap (λ (b : Bool). or_zero (cond b None (get eui_cmp old (record { 0 = d }))))
    (number_alike device.0 d)
    ∙ by (nat_eq d device.0))
  where
    by : (a : Bool) → or_zero (cond a None (get eui_cmp old (record { 0 = d })))
        ≡ (if a then 0 else or_zero (get eui_cmp old (record { 0 = d })))
    by true = refl
    by false = refl

-- One key fewer for an owner.

without : (was : Bool) (a : Bool) → cond a false was ≡ (was && not a)
without true true = refl
without false true = refl
without true false = refl
without false false = refl

and_stays : (was : Bool) → (was && not false) ≡ was
and_stays true = refl
and_stays false = refl

left_among : (set left : BTreeSet Key) (key : Key)
    → ((q : Key) → contains key_cmp left q ≡ cond (is_at (key_cmp key) q) false (contains key_cmp set q))
    → (k : List ℕ) → is_among left.keys k ≡ (is_among set.keys k && not (bytes_eq k key.0))
left_among set left key updates k =
    sym (list_any_alike (λ (x : Key). is_eq (key_cmp (record { 0 = k }) x)) (λ (x : Key). bytes_eq k x.0)
    (λ (x : Key). bytes_alike k x.0) left.keys)
    ∙ (updates (record { 0 = k })
    ∙ (without (contains key_cmp set (record { 0 = k })) (is_eq (key_cmp key (record { 0 = k })))
    ∙ rw (
      list_any_alike (λ (x : Key). is_eq (key_cmp (record { 0 = k }) x)) (λ (x : Key). bytes_eq k x.0)
          (λ (x : Key). bytes_alike k x.0) set.keys,
      bytes_alike key.0 k,
      bytes_eq_sym key.0 k,
    ) refl))

pub dropped_key : (old mid new : BTreeMap ℕ Keys) (place : ℕ) (key : Key) (set : Keys) (left : BTreeSet Key)
    → get nat_cmp old place ≡ Some set
    → ((q : Key) → contains key_cmp left q ≡ cond (is_at (key_cmp key) q) false (contains key_cmp set.keys q))
    → ((q : ℕ) → get nat_cmp mid q ≡ cond (is_at (nat_cmp place) q) None (get nat_cmp old q))
    → ((q : ℕ) → get nat_cmp new q ≡ cond (is_at (nat_cmp place) q) (Some (record { keys = left }))
    (get nat_cmp mid q))
    → (p : ℕ) (k : List ℕ) → is_among (keys_of (get nat_cmp new p)) k
    ≡ (is_among (keys_of (get nat_cmp old p)) k && not (nat_eq place p && bytes_eq k key.0))
dropped_key old mid new place key set left there fewer removed inserted p k = by (nat_eq place p) refl
  where
    by : (b : Bool) → nat_eq place p ≡ b → is_among (keys_of (get nat_cmp new p)) k
        ≡ (is_among (keys_of (get nat_cmp old p)) k && not (b && bytes_eq k key.0))
    by true is =
        ap (λ (o : Option Keys). is_among (keys_of o) k)
        (inserted p ∙ ap (λ (b : Bool). cond b (Some (record { keys = left })) (get nat_cmp mid p))
        (number_so place p ∙ is))
        ∙ (left_among set.keys left key fewer k
        ∙ ap (λ (o : Option Keys). is_among (keys_of o) k && not (bytes_eq k key.0))
        (sym (ap (get nat_cmp old) (sym (same_number place p is)) ∙ there)))
    by false is =
        ap (λ (o : Option Keys). is_among (keys_of o) k)
        (inserted p ∙
        (ap (λ (b : Bool). cond b (Some (record { keys = left })) (get nat_cmp mid p)) (number_so place p ∙ is)
        ∙ (removed p ∙ ap (λ (b : Bool). cond b None (get nat_cmp old p)) (number_so place p ∙ is))))
        ∙ sym (and_stays (is_among (keys_of (get nat_cmp old p)) k))
