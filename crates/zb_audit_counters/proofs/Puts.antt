-- What is added for a key or a sender.
use Rattle.std.proofs.Common.{◌≡◌, ℕ, List, Bool, true, false, ◌&&◌, cond, Option, Some, refl, ap, sym, ◌∙◌, bytes_eq, nat_eq, eq-eqb}
use Rattle.std.specs.BTreeMap.{BTreeMap, get, is_at}
use Rattle.std.specs.Cmp.Lexicographic.{texts_ties}
use Rattle.std.specs.Option.{unwrap_or}
use Rattle.std.specs.Ordering.{is_eq, nat_cmp, ordering_then}
use Rattle.std.specs.Prelude.{if◌then◌else◌}
use Rattle.std.specs.declared.cmp.Ordering.{Ordering}
use Rattle.std.specs.declared.cmp.Ordering.TheVariants.{Less, Equal, Greater}
use Rattle.std.proofs.lemmas.Cmp.{nat_cmp_total, tied_itself}
use Rattle.std.proofs.lemmas.Map.Lookups.{exact_unsigned}
use Rattle.std.proofs.lemmas.Map.Views.{exact_unsigned_eq}
use Rattle.std.proofs.lemmas.Slice.Eq.{bytes_eq-Decides}
use Rattle.zb_base.specs.contracts.label.LayerOrd.TheImpl as layer_ord
use Rattle.zb_base.specs.declared.key.Key.{Key}
use Rattle.zb_base.specs.declared.label.Layer.{Layer}
use Rattle.zb_base.specs.declared.label.Layer.TheVariants as layer
use Rattle.zb_audit_counters.specs.Readings.{same_layer}
use Rattle.zb_audit_counters.specs.Standing.{PutsFloor, PutsKey, floor_of, fresh_floor, fresh_key, key_cmp, key_in, same_sender, sender_cmp}
use Rattle.zb_audit_counters.specs.declared.floor.Floor.{Floor}
use Rattle.zb_audit_counters.specs.declared.floor.Sender.{Sender}
use Rattle.zb_audit_counters.specs.declared.key.KeyCounters.{KeyCounters}

pub same_bytes : (a b : List ℕ) → bytes_eq a b ≡ true → a ≡ b
same_bytes a b h = (bytes_eq-Decides a b).0 h

pub itself : (a : List ℕ) → bytes_eq a a ≡ true
itself a = (bytes_eq-Decides a a).1 refl

pub same_truth : (a b : Bool) → (a ≡ true → b ≡ true) → (b ≡ true → a ≡ true) → a ≡ b
same_truth true true f g = refl
same_truth true false f g = sym (f refl)
same_truth false true f g = g refl
same_truth false false f g = refl

pub bytes_turned : (a b : List ℕ) → bytes_eq a b ≡ bytes_eq b a
bytes_turned a b =
    same_truth (bytes_eq a b) (bytes_eq b a) (λ h. (bytes_eq-Decides b a).1 (sym (same_bytes a b h)))
    (λ h. (bytes_eq-Decides a b).1 (sym (same_bytes b a h)))

pub same_number : (a b : ℕ) → nat_eq a b ≡ true → a ≡ b
same_number a b h = exact_unsigned_eq a b h

pub itself_number : (a : ℕ) → nat_eq a a ≡ true
itself_number a = eq-eqb a a refl

pub number_alike : (a b : ℕ) → is_eq (nat_cmp a b) ≡ nat_eq a b
number_alike a b =
    same_truth (is_eq (nat_cmp a b)) (nat_eq a b) (λ h. eq-eqb a b (exact_unsigned a b (equal (nat_cmp a b) h)))
    (λ h. ap (λ (x : ℕ). is_eq (nat_cmp a x)) (sym (exact_unsigned_eq a b h)) ∙ ap is_eq
    (tied_itself nat_cmp_total a))
  where
    equal : (o : Ordering) → is_eq o ≡ true → o ≡ Equal
    equal Less h = cc
    equal Equal h = refl
    equal Greater h = cc

then_alike : (o p : Ordering) → is_eq (ordering_then o p) ≡ (is_eq o && is_eq p)
then_alike Less p = refl
then_alike Equal p = refl
then_alike Greater p = refl

part : (o p : Ordering) (a b : Bool) → is_eq o ≡ a → is_eq p ≡ b → is_eq (ordering_then o p) ≡ (a && b)
part o p a b e f = then_alike o p ∙ ap (λ (x : Bool). x && is_eq p) e ∙ ap (λ (x : Bool). a && x) f

layer_alike : (a b : Layer) → is_eq (layer_ord.cmp-value.it a b) ≡ same_layer a b
layer_alike layer.Nwk layer.Nwk = refl
layer_alike layer.Nwk layer.Aps = refl
layer_alike layer.Aps layer.Nwk = refl
layer_alike layer.Aps layer.Aps = refl

-- The first test of a conjunction may be the last.
first_last : (a b c : Bool) → (a && (b && c)) ≡ (b && (c && a))
first_last true true true = refl
first_last true true false = refl
first_last true false c = refl
first_last false true true = refl
first_last false true false = refl
first_last false false c = refl

sender_alike : (s q : Sender) → is_eq (sender_cmp s q) ≡ same_sender s q
sender_alike s q =
    part _ _ _ _ (number_alike s.eui.0 q.eui.0)
    (part _ _ _ _ (layer_alike s.layer q.layer) (sym (texts_ties s.key.0 q.key.0)))
    ∙ first_last (nat_eq s.eui.0 q.eui.0) (same_layer s.layer q.layer) (bytes_eq s.key.0 q.key.0)

put : {T : Type 0} (b same : Bool) (t fresh : T) (o : Option T) → b ≡ same → unwrap_or (cond b (Some t) o) fresh
    ≡ (if same then t else unwrap_or o fresh)
put true true t fresh o e = refl
put true false t fresh o e = cc
put false true t fresh o e = cc
put false false t fresh o e = refl

pub key_put : (old new : BTreeMap Key KeyCounters) (key : Key) (counters : KeyCounters)
    → ((q : Key) → get key_cmp new q ≡ cond (is_at (key_cmp key) q) (Some counters) (get key_cmp old q))
    → PutsKey old new key counters
unfolding key_in
key_put old new key counters updates q =
    ap (λ (o : Option KeyCounters). unwrap_or o fresh_key) (updates q) ∙ put (is_at (key_cmp key) q)
    (bytes_eq key.0 q.0) counters fresh_key (get key_cmp old q) (sym (texts_ties key.0 q.0))

pub floor_put : (old new : BTreeMap Sender Floor) (s : Sender) (floor : Floor)
    → ((q : Sender) → get sender_cmp new q ≡ cond (is_at (sender_cmp s) q) (Some floor) (get sender_cmp old q))
    → PutsFloor old new s floor
unfolding floor_of
floor_put old new s floor updates q =
    ap (λ (o : Option Floor). unwrap_or o fresh_floor) (updates q) ∙ put (is_at (sender_cmp s) q) (same_sender s q)
    floor fresh_floor (get sender_cmp old q) (sender_alike s q)

pub same_key : (a b : Key) → bytes_eq a.0 b.0 ≡ true → a ≡ b
same_key a b e = λ i. record { 0 = same_bytes a.0 b.0 e i }

-- What was put for a key is a change of what was there.

pub key_changed : (old new : BTreeMap Key KeyCounters) (key : Key) (f : KeyCounters → KeyCounters)
    → PutsKey old new key (f (key_in old key))
    → (q : Key) → key_in new q ≡ (if bytes_eq key.0 q.0 then f (key_in old q) else key_in old q)
key_changed old new key f puts q = puts q ∙ chosen (bytes_eq key.0 q.0) refl
  where
    chosen : (b : Bool) → bytes_eq key.0 q.0 ≡ b → (if b then f (key_in old key) else key_in old q)
        ≡ (if b then f (key_in old q) else key_in old q)
    chosen true e = ap (λ (k : Key). f (key_in old k)) (same_key key q e)
    chosen false e = refl
