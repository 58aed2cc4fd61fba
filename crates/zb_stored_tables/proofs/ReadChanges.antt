-- A change that is read from bytes is made of values that can be spelled.
use Rattle.std.proofs.Common.{◌≡◌, ℕ, ◌<◌, ◌^◌, Bool, true, false, if◌then◌else◌, List, [], ◌∷◌, Result, Ok, Err, refl, subst, arith}
use Rattle.std.specs.Int.{w32}
use Rattle.std.specs.Prelude.{◌==◌}
use Rattle.zb_base.specs.declared.address.Eui.{Eui}
use Rattle.zb_base.specs.declared.key.Key.{Key}
use Rattle.zb_base.specs.declared.label.Layer.{Layer}
use Rattle.zb_node_types.specs.declared.change.Change.{Change}
use Rattle.zb_node_types.specs.declared.change.Change.TheVariants.{Reserve, Floor, DropNet, DropLink, Install, Active, Row, State, Roll, Told, Untold, Live, Removed, Start, Pair}
use Rattle.zb_base.specs.declared.state.State.{State as NodeState}
use Rattle.zb_base.specs.declared.state.Attribute.{Attribute}
use Rattle.zb_base.specs.declared.state.Rollover.{Rollover}
use Rattle.zb_cursor.specs.Reading.{Reading, follow, ◌>>=◌, give, byte_at, number_at, eui_at, key_at}
use Rattle.zb_record.specs.Fields.{layer_of, attribute_of, state_of, rollover_of, layer_at, attribute_at, state_at, rollover_at}
use Rattle.zb_record.specs.Changes.{reserve_at, floor_at, drop_net_at, drop_link_at, install_at, active_at, row_at, became_at, roll_at, told_at, untold_at, live_at, removed_at, start_at, pair_at, later_of, fields_of, change_at}
use Rattle.zb_record.specs.Ranges.{IsKey, InRange}
use Rattle.zb_stored_tables.proofs.Widths.{AreBytes, found, given, Keeps, Any, Below32, IsEui, number32, eui_keeps, key_keeps, pick_keeps}

module _ {A B : Type 0} (P : A → Type 0) (Q : B → Type 0) where
  then_keeps : {first : Reading ℕ A} {next : A → Reading ℕ B} → Keeps A P first → ((x : A) → P x → Keeps B Q (next x))
      → Keeps B Q (first >>= next)
  then_keeps {first = first} {next = next} one two cut bytes rest y a e = by_first (first cut bytes) refl e
    where
      by_first : (r : Result (A × List ℕ) ℕ) → first cut bytes ≡ r → follow r (λ x behind. next x cut behind)
          ≡ found y rest → Q y × AreBytes rest
      by_first (Ok x) is e = let k = one cut bytes x.1 x.0 a is in two x.0 k.0 cut x.1 rest y k.1 e
      by_first (Err f) is e = absurd (cc)

-- the change itself: nothing more is read
ends : (c : Change) → InRange c → Keeps Change InRange (give c)
ends c p cut bytes rest x a e = let g = given c x bytes rest e in (subst InRange g.value p, subst AreBytes g.left a)

abbrev Byte : ℕ → Type 0
Byte n = n < 2 ^ 8

byte_small : Keeps ℕ Byte byte_at
byte_small cut [] rest x a e = absurd (cc)
byte_small cut (b ∷ bytes) rest x a e = let g =
    given b x bytes rest e in (subst Byte g.value (omega (arith, a.0)), subst AreBytes g.left a.1)

layer_keeps : Keeps Layer (Any Layer) layer_at
unfolding layer_at
layer_keeps = pick_keeps Layer layer_of

attribute_keeps : Keeps Attribute (Any Attribute) attribute_at
unfolding attribute_at
attribute_keeps = pick_keeps Attribute attribute_of

state_keeps : Keeps NodeState (Any NodeState) state_at
unfolding state_at
state_keeps = pick_keeps NodeState state_of

rollover_keeps : Keeps Rollover (Any Rollover) rollover_at
unfolding rollover_at
rollover_keeps = pick_keeps Rollover rollover_of

-- where a test chooses between two
either : {one two : Reading ℕ Change} (b : Bool) → Keeps Change InRange one → Keeps Change InRange two
    → Keeps Change InRange (λ cut bytes. if b then one cut bytes else two cut bytes)
either true p q = p
either false p q = q

none_keeps : Keeps Change InRange (λ cut bytes. Err cut)
none_keeps cut bytes rest x a e = absurd (cc)

-- what stands at the start of the fields that are left

after_eui : {next : Eui → Reading ℕ Change} → ((x : Eui) → IsEui x → Keeps Change InRange (next x))
    → Keeps Change InRange (eui_at >>= next)
after_eui more = then_keeps IsEui InRange eui_keeps more

after_key : {next : Key → Reading ℕ Change} → ((x : Key) → IsKey x → Keeps Change InRange (next x))
    → Keeps Change InRange (key_at >>= next)
after_key more = then_keeps IsKey InRange key_keeps more

after_number : {next : ℕ → Reading ℕ Change} → ((x : ℕ) → Below32 x → Keeps Change InRange (next x))
    → Keeps Change InRange (number_at w32 >>= next)
after_number more = then_keeps Below32 InRange number32 more

later_keeps : (kind : ℕ) → Keeps Change InRange (later_of kind)
unfolding later_of became_at roll_at told_at untold_at live_at removed_at start_at pair_at
later_keeps kind =
    either (kind == 8) (then_keeps (Any NodeState) InRange state_keeps (λ s p. ends (State s) tt))
    (either (kind == 9) (then_keeps (Any Rollover) InRange rollover_keeps (λ r p. ends (Roll r) tt))
    (either (kind == 10) (after_eui (λ d p. ends (Told d) p))
    (either (kind == 11) (after_eui (λ d p. ends (Untold d) p))
    (either (kind == 12) (after_eui (λ d p. ends (Live d) p))
    (either (kind == 13) (after_eui (λ d p. ends (Removed d) p))
    (either (kind == 14) (after_key (λ k p. after_number (λ v q. ends (Start k v) (p, q))))
    (either (kind == 15) (after_eui (λ a p. after_eui (λ b q. after_key (λ k r. ends (Pair a b k) (p, q, r)))))
    none_keeps)))))))

fields_keep : (kind : ℕ) → Keeps Change InRange (fields_of kind)
unfolding fields_of reserve_at floor_at drop_net_at drop_link_at install_at active_at row_at
fields_keep kind =
    either (kind == 1) (then_keeps (Any Layer) InRange layer_keeps (λ l p. after_number (λ v q. ends (Reserve l v) q)))
    (either (kind == 2)
    (then_keeps (Any Layer) InRange layer_keeps
    (λ l p. after_key (λ k q. after_eui (λ s r. after_number (λ v t. ends (Floor l k s v) (q, r, t))))))
    (either (kind == 3) (after_key (λ k p. ends (DropNet k) p))
    (either (kind == 4) (after_eui (λ d p. after_key (λ k q. ends (DropLink d k) (p, q))))
    (either (kind == 5) (after_key (λ k p. then_keeps Byte InRange byte_small (λ s q. ends (Install k s) (p, q))))
    (either (kind == 6) (after_key (λ k p. ends (Active k) p))
    (either (kind == 7)
    (after_eui
    (λ d p. after_key
    (λ k q. then_keeps (Any Attribute) InRange attribute_keeps (λ t r. ends (Row d k t) (p, q)))))
    (later_keeps kind)))))))

pub change_keeps : Keeps Change InRange change_at
unfolding change_at
change_keeps = then_keeps Byte InRange byte_small (λ kind p. fields_keep kind)

-- A change that is read from bytes can be spelled, and bytes are left.
pub read_in_range : (cut : ℕ) (bytes rest : List ℕ) (c : Change) → AreBytes bytes → change_at cut bytes ≡ Ok (c, rest)
    → InRange c × AreBytes rest
read_in_range cut bytes rest c a e = change_keeps cut bytes rest c a e
