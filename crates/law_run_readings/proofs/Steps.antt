-- What each own line of a node adds to what lines say of it, and that its state still agrees.
use Rattle.std.proofs.Common.{◌≡◌, ℕ, ◌≤◌, ◌+◌, Bool, true, false, cond, ◌&&◌, List, [], Option, Some, None, nat_eq, refl, sym, ap, ◌∙◌, subst, arith, unwrap_or}
use Rattle.std.proofs.lemmas.Bool.{false≢true}
use Rattle.std.specs.Option.{option_or}
use Rattle.zb_model.specs.Data.{Bytes, Layer, Nwk, Aps, Term, Move, Draw, DropNet, DropLink, Install, Active, Row, Pair, Became, Live, Removed, Roll, Told, Untold, Edit, Reserve, Floor, Start, Moved}
use Rattle.zb_model.specs.Lines.{Line, Declared, GivenNet, GivenLink, Counter, Changed, Commit, Accept, Refuse, Seal, Forge, Send, Inject, Stopped, DownReset, DownDisk, Boot, Dump, End}
use Rattle.zb_model.specs.State.{greatest_counter, NetKey, LinkKey, NodeState, same_key, same_layer, is_active_key, at_net, is_link, is_told, reserved, started_at, dropped_net, dropped_link, net_floor, net_kept, link_kept, next_at, booted_net, booted_link, told_as, of_active, applied, moved, after_accepting, after_hearing, after_sealing, sealed_at, after_boot}
use Rattle.zb_model.specs.Fits.{net_stored, link_stored}
use Rattle.zb_model.specs.Readings.{after}
use Rattle.law_run.proofs.Basics.{same_key-eq, same_key-refl, find-map}
use Rattle.law_run.proofs.Counters.{SealFitsAt}
use Rattle.law_run.proofs.FloorRows.{Sorted}
use Rattle.law_run.proofs.Nets.{Holds, On, Gives, at_key}
use Rattle.law_run_readings.specs.LastLines.{given_in, active_in, counter_in, reserve_in, limit_in, sealed_in, floor_in}
use Rattle.law_run_readings.proofs.Rows.{row_at, other_row, link_at}
use Rattle.law_run_readings.proofs.SaidRows.{SaysRow, RowIs, LeavesRow, left_at, reserved_row, start_row, sealed_row, booted_row, installed_row, at_own}
use Rattle.law_run_readings.proofs.Keeping.{LeavesLink, plain_floors, plain_link, only_link, booted_leaves, kept_leaves, floors_map, floors_at, floors_own, installed_floors, links_map, with_link_stored, with_told_stored, link_floors_own}

-- What lines say of a node: the limits of its network keys, their counters since the last boot, the counter of APS,
-- the given key and the key that became active, the limits at the start, the limit reserved at APS, and the floors.
pub record Said : Type 0 where
  pub lim : Bytes → Option ℕ
  pub sealed : Bytes → Option ℕ
  pub aps : Option ℕ
  pub given : Option Bytes
  pub active : Option Bytes
  pub counter : Layer → Option ℕ
  pub reserve : Option ℕ
  pub floor : Layer → Bytes → ℕ → Option ℕ

-- with one more own line; `was` is the key that is active before the line's group
abbrev pub with_line : (Bytes → Bool) → Line → Said → Said
with_line was l x = record {
  lim = λ key. option_or (limit_in key (was key) l) (x.lim key);
  sealed = λ key. sealed_in Nwk key (x.sealed key) l;
  aps = sealed_in Aps [] x.aps l;
  given = option_or (given_in l) x.given;
  active = option_or (active_in l) x.active;
  counter = λ layer. option_or (counter_in layer l) (x.counter layer);
  reserve = option_or (reserve_in Aps l) x.reserve;
  floor = λ layer key sender. option_or (floor_in layer key sender l) (x.floor layer key sender);
}

-- The state agrees with what lines say.
pub record Recalls (x : Said) (s : NodeState) : Type 0 where
  pub declared : s.declared ≡ unwrap_or (x.counter Nwk) 0
  pub active : s.active ≡ option_or x.active x.given
  pub rows : (key : Bytes) → RowIs (x.lim key) (x.sealed key) s.declared (row_at key s.nets)
  pub aps_limit : s.aps_limit ≡ unwrap_or x.reserve (unwrap_or (x.counter Aps) 0)
  pub aps_next : (v : ℕ) → x.aps ≡ Some v → s.aps_next ≡ v
  pub net_floors : (key : Bytes) (sender : ℕ) → net_stored sender (row_at key s.nets)
      ≡ unwrap_or (x.floor Nwk key sender) 0
  pub link_floors : (key : Bytes) (sender : ℕ) → link_stored (link_at sender key s.links)
      ≡ unwrap_or (x.floor Aps key sender) 0

-- What a change asks of the state before it.
pub record FitsReserve (was : Bytes → Bool) (v : ℕ) (s : NodeState) : Type 0 where
  pub was_is : (key : Bytes) → was key ≡ is_active_key s.active key
  pub key : Bytes
  pub active_is : s.active ≡ Some key
  pub there : row_at key s.nets ≡ None → ⊥
  pub row : (r : NetKey) → row_at key s.nets ≡ Some r → (r.started ≡ true) × (r.limit ≤ v)
  pub small : v ≤ greatest_counter

pub record FitsStart (k : Bytes) (v : ℕ) (s : NodeState) : Type 0 where
  pub there : row_at k s.nets ≡ None → ⊥
  pub row : (r : NetKey) → row_at k s.nets ≡ Some r → (r.started ≡ false) × (r.limit ≤ v)
  pub small : v ≤ greatest_counter

pub record FitsNetFloor (k : Bytes) (from v : ℕ) (s : NodeState) : Type 0 where
  pub there : row_at k s.nets ≡ None → ⊥
  pub sorted : (r : NetKey) → row_at k s.nets ≡ Some r → Sorted r.floors
  pub below : net_stored from (row_at k s.nets) ≤ v

pub record FitsLinkFloor (k : Bytes) (from v : ℕ) (s : NodeState) : Type 0 where
  pub there : link_at from k s.links ≡ None → ⊥
  pub below : link_stored (link_at from k s.links) ≤ v

abbrev pub FitsEdit : (Bytes → Bool) → Edit → NodeState → Type 0
FitsEdit was (Reserve Nwk v) s = FitsReserve was v s
FitsEdit was (Reserve Aps v) s = (s.aps_limit ≤ v) × (v ≤ greatest_counter)
FitsEdit was (Floor Nwk k from v) s = FitsNetFloor k from v s
FitsEdit was (Floor Aps k from v) s = FitsLinkFloor k from v s
FitsEdit was (Start k v) s = FitsStart k v s
FitsEdit was (Moved m) s = Unit {0}

abbrev pub FitsLine : (Bytes → Bool) → Line → NodeState → Type 0
FitsLine was (Declared p) s = ⊥
FitsLine was (GivenNet n k q) s = ⊥
FitsLine was (GivenLink n p k) s = ⊥
FitsLine was (Counter n layer v) s = ⊥
FitsLine was (Changed e n edit) s = FitsEdit was edit s
FitsLine was (Seal e n t) s = SealFitsAt t.layer t s
FitsLine was _ s = Unit {0}

-- ---- lines that say nothing

plain_row : (f : NetKey → NetKey) → ((r : NetKey) → (f r).key ≡ r.key) → ((r : NetKey) → (f r).started ≡ r.started)
    → ((r : NetKey) → (f r).limit ≡ r.limit) → ((r : NetKey) → (f r).next ≡ r.next) → LeavesRow f
plain_row f key started limit next = record { key = key; started = started; limit = limit; next = next }

drop_row : LeavesRow dropped_net
drop_row = plain_row dropped_net (λ r. refl) (λ r. refl) (λ r. refl) (λ r. refl)

told_link : (b : Bool) → LeavesLink (told_as b)
told_link b = plain_link (told_as b) (λ r. refl) (λ r. refl) (λ r. refl)

moves_say : (was : Bytes → Bool) (e n : ℕ) (m : Move) (x : Said) (s : NodeState) → Recalls x s
    → Recalls (with_line was (Changed e n (Moved m)) x) (moved m s)
moves_say was e n (Draw key) x s is =
    record {
      declared = is.declared;
      active = is.active;
      rows = is.rows;
      aps_limit = is.aps_limit;
      aps_next = is.aps_next;
      net_floors = is.net_floors;
      link_floors = is.link_floors;
    }
moves_say was e n (DropNet k) x s is = record {
  declared = is.declared;
  active = is.active;
  rows = λ key. left_at dropped_net drop_row (x.lim key) (x.sealed key) s.declared k key s.nets (is.rows key);
  aps_limit = is.aps_limit;
  aps_next = is.aps_next;
  net_floors = λ key sender. floors_at dropped_net (plain_floors dropped_net (λ r. refl) (λ r. refl)) sender k key
      s.nets ∙ is.net_floors key sender;
  link_floors = is.link_floors;
}
moves_say was e n (DropLink p k) x s is = record {
  declared = is.declared;
  active = is.active;
  rows = is.rows;
  aps_limit = is.aps_limit;
  aps_next = is.aps_next;
  net_floors = is.net_floors;
  link_floors = λ key sender. links_map (λ (r : LinkKey). cond (is_link p k r) (dropped_link r) r)
      (only_link dropped_link (is_link p k) (plain_link dropped_link (λ r. refl) (λ r. refl) (λ r. refl))) sender key
      s.links ∙ is.link_floors key sender;
}
moves_say was e n (Install k q) x s is = record {
  declared = is.declared;
  active = is.active;
  rows = λ key. installed_row k q (x.lim key) (x.sealed key) s.declared key s.nets (is.rows key);
  aps_limit = is.aps_limit;
  aps_next = is.aps_next;
  net_floors = λ key sender. installed_floors k q sender key s.nets ∙ is.net_floors key sender;
  link_floors = is.link_floors;
}
moves_say was e n (Active k) x s is =
    record {
      declared = is.declared;
      active = refl;
      rows = is.rows;
      aps_limit = is.aps_limit;
      aps_next = is.aps_next;
      net_floors = is.net_floors;
      link_floors = is.link_floors;
    }
moves_say was e n (Row p k a) x s is = record {
  declared = is.declared;
  active = is.active;
  rows = is.rows;
  aps_limit = is.aps_limit;
  aps_next = is.aps_next;
  net_floors = is.net_floors;
  link_floors = λ key sender. with_link_stored p k a (is_told s p) sender key s.links ∙ is.link_floors key sender;
}
moves_say was e n (Pair a b k) x s is =
    record {
      declared = is.declared;
      active = is.active;
      rows = is.rows;
      aps_limit = is.aps_limit;
      aps_next = is.aps_next;
      net_floors = is.net_floors;
      link_floors = is.link_floors;
    }
moves_say was e n (Became g) x s is =
    record {
      declared = is.declared;
      active = is.active;
      rows = is.rows;
      aps_limit = is.aps_limit;
      aps_next = is.aps_next;
      net_floors = is.net_floors;
      link_floors = is.link_floors;
    }
moves_say was e n (Live d) x s is = record {
  declared = is.declared;
  active = is.active;
  rows = is.rows;
  aps_limit = is.aps_limit;
  aps_next = is.aps_next;
  net_floors = is.net_floors;
  link_floors = λ key sender. with_told_stored d false sender key s.links ∙ is.link_floors key sender;
}
moves_say was e n (Removed d) x s is =
    record {
      declared = is.declared;
      active = is.active;
      rows = is.rows;
      aps_limit = is.aps_limit;
      aps_next = is.aps_next;
      net_floors = is.net_floors;
      link_floors = is.link_floors;
    }
moves_say was e n (Roll true) x s is = record {
  declared = is.declared;
  active = is.active;
  rows = is.rows;
  aps_limit = is.aps_limit;
  aps_next = is.aps_next;
  net_floors = is.net_floors;
  link_floors = λ key sender. links_map (told_as false) (told_link false) sender key s.links ∙ is.link_floors key
      sender;
}
moves_say was e n (Roll false) x s is =
    record {
      declared = is.declared;
      active = is.active;
      rows = is.rows;
      aps_limit = is.aps_limit;
      aps_next = is.aps_next;
      net_floors = is.net_floors;
      link_floors = is.link_floors;
    }
moves_say was e n (Told d) x s is = record {
  declared = is.declared;
  active = is.active;
  rows = is.rows;
  aps_limit = is.aps_limit;
  aps_next = is.aps_next;
  net_floors = is.net_floors;
  link_floors = λ key sender. with_told_stored d true sender key s.links ∙ is.link_floors key sender;
}
moves_say was e n (Untold d) x s is = record {
  declared = is.declared;
  active = is.active;
  rows = is.rows;
  aps_limit = is.aps_limit;
  aps_next = is.aps_next;
  net_floors = is.net_floors;
  link_floors = λ key sender. with_told_stored d false sender key s.links ∙ is.link_floors key sender;
}

-- ---- reserves, starts and floors

or_stays : {A : Type 0} (b : Bool) (v : A) (o : Option A) → b ≡ false → option_or (cond b (Some v) None) o ≡ o
or_stays b v o e = ap (λ c. option_or (cond c (Some v) None) o) e

or_takes : {A : Type 0} (b : Bool) (v : A) (o : Option A) → b ≡ true → option_or (cond b (Some v) None) o ≡ Some v
or_takes b v o e = ap (λ c. option_or (cond c (Some v) None) o) e

turned : (a b : Bytes) → same_key a b ≡ same_key b a
turned a b = by_turn (same_key a b) refl (same_key b a) refl
  where
    by_turn : (x : Bool) → same_key a b ≡ x → (y : Bool) → same_key b a ≡ y → x ≡ y
    by_turn true f true g = refl
    by_turn true f false g = sym (sym g ∙ ap (λ z. same_key z a) (sym (same_key-eq a b f)) ∙ same_key-refl a)
    by_turn false f true g = sym f ∙ ap (λ z. same_key a z) (same_key-eq b a g) ∙ same_key-refl a
    by_turn false f false g = refl

-- the row of key a, if o says something new about it
one_says : (f : NetKey → NetKey) → ((r : NetKey) → (f r).key ≡ r.key)
    → (a : Bytes) (v : ℕ) (b : Bool) (lim sealed : Option ℕ) (d : ℕ) (key : Bytes) (nets : List NetKey) → b
    ≡ same_key a key → (row_at a nets ≡ None → ⊥)
    → ((r : NetKey) → row_at a nets ≡ Some r → (l q : Option ℕ) → SaysRow l q d r → SaysRow (Some v) q d (f r))
    → RowIs lim sealed d (row_at key nets)
    → RowIs (option_or (cond b (Some v) None) lim) sealed d (row_at key (at_net a f nets))
one_says f same a v b lim sealed d key nets is there k says = by_key (same_key a key) refl
  where
    by_key : (c : Bool) → same_key a key ≡ c → RowIs (option_or (cond b (Some v) None) lim) sealed d
        (row_at key (at_net a f nets))
    by_key true e =
        subst (λ o. RowIs o sealed d (row_at key (at_net a f nets))) (sym (or_takes b v lim (is ∙ e)))
        (at_own f same lim (Some v) sealed sealed d a key nets there (λ r found said. k r found lim sealed said)
        (λ other. absurd (false≢true (sym other ∙ (sym (turned a key) ∙ e)))) says)
    by_key false e =
        subst (λ o. RowIs o sealed d (row_at key (at_net a f nets))) (sym (or_stays b v lim (is ∙ e)))
        (subst (RowIs lim sealed d) (sym (other_row f same a key nets (sym (turned a key) ∙ e))) says)

active_is : (o : Option Bytes) (a key : Bytes) → o ≡ Some a → is_active_key o key ≡ same_key a key
active_is o a key e = ap (λ x. is_active_key x key) e

reserve_says : (was : Bytes → Bool) (e n v : ℕ) (x : Said) (s : NodeState) → FitsReserve was v s → Recalls x s
    → Recalls (with_line was (Changed e n (Reserve Nwk v)) x) (applied (Reserve Nwk v) s)
unfolding applied
reserve_says was e n v x s fits is = record {
  declared = is.declared;
  active = is.active;
  rows = λ key.
      subst (λ nets. RowIs (option_or (cond (was key) (Some v) None) (x.lim key)) (x.sealed key) s.declared
      (row_at key nets)) (ap (λ o. of_active (reserved v) o s.nets) (sym fits.active_is))
      (one_says (reserved v) (λ r. refl) fits.key v (was key) (x.lim key) (x.sealed key) s.declared key s.nets
      (fits.was_is key ∙ active_is s.active fits.key key fits.active_is) fits.there
      (λ r found l q said. reserved_row v l q s.declared r (fits.row r found).0 (fits.row r found).1 fits.small said)
      (is.rows key));
  aps_limit = is.aps_limit;
  aps_next = is.aps_next;
  net_floors = λ key sender.
      ap (λ o. net_stored sender (row_at key (of_active (reserved v) o s.nets))) fits.active_is
      ∙ floors_at (reserved v) (plain_floors (reserved v) (λ r. refl) (λ r. refl)) sender fits.key key s.nets ∙
      is.net_floors key sender;
  link_floors = is.link_floors;
}

start_says : (was : Bytes → Bool) (e n : ℕ) (k : Bytes) (v : ℕ) (x : Said) (s : NodeState) → FitsStart k v s
    → Recalls x s → Recalls (with_line was (Changed e n (Start k v)) x) (applied (Start k v) s)
unfolding applied
start_says was e n k v x s fits is = record {
  declared = is.declared;
  active = is.active;
  rows = λ key.
      one_says (started_at v) (λ r. refl) k v (same_key k key) (x.lim key) (x.sealed key) s.declared key s.nets refl
      fits.there
      (λ r found l q said. start_row v l q s.declared r (fits.row r found).0 (fits.row r found).1 fits.small said)
      (is.rows key);
  aps_limit = is.aps_limit;
  aps_next = is.aps_next;
  net_floors = λ key sender. floors_at (started_at v) (plain_floors (started_at v) (λ r. refl) (λ r. refl)) sender k
      key s.nets ∙ is.net_floors key sender;
  link_floors = is.link_floors;
}

aps_reserve_says : (was : Bytes → Bool) (e n v : ℕ) (x : Said) (s : NodeState) → s.aps_limit ≤ v → v
    ≤ greatest_counter → Recalls x s → Recalls (with_line was (Changed e n (Reserve Aps v)) x)
    (applied (Reserve Aps v) s)
unfolding applied
aps_reserve_says was e n v x s below small is = record {
  declared = is.declared;
  active = is.active;
  rows = λ key. subst (λ o. RowIs o (x.sealed key) s.declared (row_at key s.nets)) (none_or (was key) (x.lim key))
      (is.rows key);
  aps_limit = omega (arith, below, small);
  aps_next = is.aps_next;
  net_floors = is.net_floors;
  link_floors = is.link_floors;
}
  where
    none_or : (b : Bool) (o : Option ℕ) → o ≡ option_or (cond b None None) o
    none_or true o = refl
    none_or false o = refl

floor_takes : (b d : Bool) (v : ℕ) (o : Option ℕ) (old : ℕ) → old ≡ unwrap_or o 0 → cond (b && d) v old
    ≡ unwrap_or (option_or (cond (b && d) (Some v) None) o) 0
floor_takes true true v o old e = refl
floor_takes true false v o old e = e
floor_takes false d v o old e = e

net_floor_says : (was : Bytes → Bool) (e n : ℕ) (k : Bytes) (from v : ℕ) (x : Said) (s : NodeState)
    → FitsNetFloor k from v s → Recalls x s → Recalls (with_line was (Changed e n (Floor Nwk k from v)) x)
    (applied (Floor Nwk k from v) s)
unfolding applied
net_floor_says was e n k from v x s fits is = record {
  declared = is.declared;
  active = is.active;
  rows = λ key. left_at (net_floor from v)
      (plain_row (net_floor from v) (λ r. refl) (λ r. refl) (λ r. refl) (λ r. refl)) (x.lim key) (x.sealed key)
      s.declared k key s.nets (is.rows key);
  aps_limit = is.aps_limit;
  aps_next = is.aps_next;
  net_floors = λ key sender. by_key key sender (same_key k key) refl;
  link_floors = is.link_floors;
}
  where
    by_key : (key : Bytes) (sender : ℕ) (b : Bool) → same_key k key ≡ b
        → net_stored sender (row_at key (at_net k (net_floor from v) s.nets))
        ≡ unwrap_or (option_or (cond (b && nat_eq from sender) (Some v) None) (x.floor Nwk key sender)) 0
    by_key key sender true same =
        subst (λ y. net_stored sender (row_at y (at_net k (net_floor from v) s.nets))
        ≡ unwrap_or (option_or (cond (nat_eq from sender) (Some v) None) (x.floor Nwk y sender)) 0)
        (same_key-eq k key same)
        (floors_own from v k sender s.nets fits.there fits.sorted fits.below ∙ floor_takes true (nat_eq from sender) v
        (x.floor Nwk k sender) (net_stored sender (row_at k s.nets)) (is.net_floors k sender))
    by_key key sender false same =
        ap (net_stored sender) (other_row (net_floor from v) (λ r. refl) k key s.nets (sym (turned k key) ∙ same)) ∙
        is.net_floors key sender

link_floor_says : (was : Bytes → Bool) (e n : ℕ) (k : Bytes) (from v : ℕ) (x : Said) (s : NodeState)
    → FitsLinkFloor k from v s → Recalls x s → Recalls (with_line was (Changed e n (Floor Aps k from v)) x)
    (applied (Floor Aps k from v) s)
unfolding applied
link_floor_says was e n k from v x s fits is = record {
  declared = is.declared;
  active = is.active;
  rows = is.rows;
  aps_limit = is.aps_limit;
  aps_next = is.aps_next;
  net_floors = is.net_floors;
  link_floors = λ key sender. link_floors_own v from k sender key s.links fits.there fits.below ∙ floor_takes
      (same_key k key) (nat_eq from sender) v (x.floor Aps key sender) (link_stored (link_at sender key s.links))
      (is.link_floors key sender);
}

moved_is : (was : Bytes → Bool) (e n : ℕ) (m : Move) (x : Said) (s : NodeState)
    → Recalls (with_line was (Changed e n (Moved m)) x) (moved m s)
    → Recalls (with_line was (Changed e n (Moved m)) x) (applied (Moved m) s)
unfolding applied
moved_is was e n m x s p = p

edits_say : (was : Bytes → Bool) (e n : ℕ) (edit : Edit) (x : Said) (s : NodeState) → FitsEdit was edit s
    → Recalls x s → Recalls (with_line was (Changed e n edit) x) (applied edit s)
edits_say was e n (Reserve Nwk v) x s fits is = reserve_says was e n v x s fits is
edits_say was e n (Reserve Aps v) x s fits is = aps_reserve_says was e n v x s fits.0 fits.1 is
edits_say was e n (Floor Nwk k from v) x s fits is = net_floor_says was e n k from v x s fits is
edits_say was e n (Floor Aps k from v) x s fits is = link_floor_says was e n k from v x s fits is
edits_say was e n (Start k v) x s fits is = start_says was e n k v x s fits is
edits_say was e n (Moved m) x s fits is = moved_is was e n m x s (moves_say was e n m x s is)

-- ---- what is accepted, what is sealed, and a boot

heard_says : (was : Bytes → Bool) (e n : ℕ) (t : Term) (layer : Layer) (k : Bytes) (from c : ℕ) (x : Said)
    (s : NodeState) → Recalls x s → Recalls (with_line was (Accept e n t) x) (after_hearing layer k from c s)
unfolding after_hearing
heard_says was e n t Nwk k from c x s is = record {
  declared = is.declared;
  active = is.active;
  rows = λ key. left_at (net_kept from (c + 1))
      (plain_row (net_kept from (c + 1)) (λ r. refl) (λ r. refl) (λ r. refl) (λ r. refl)) (x.lim key) (x.sealed key)
      s.declared k key s.nets (is.rows key);
  aps_limit = is.aps_limit;
  aps_next = is.aps_next;
  net_floors = λ key sender. floors_at (net_kept from (c + 1)) (kept_leaves from (c + 1)) sender k key s.nets ∙
      is.net_floors key sender;
  link_floors = is.link_floors;
}
heard_says was e n t Aps k from c x s is = record {
  declared = is.declared;
  active = is.active;
  rows = is.rows;
  aps_limit = is.aps_limit;
  aps_next = is.aps_next;
  net_floors = is.net_floors;
  link_floors = λ key sender. links_map (λ (r : LinkKey). cond (is_link from k r) (link_kept (c + 1) r) r)
      (only_link (link_kept (c + 1)) (is_link from k)
      (plain_link (link_kept (c + 1)) (λ r. refl) (λ r. refl) (λ r. refl))) sender key s.links ∙ is.link_floors key
      sender;
}

boot_says : (was : Bytes → Bool) (e n : ℕ) (x : Said) (s : NodeState) → Recalls x s
    → Recalls (with_line was (Boot e n) x) (after_boot s)
unfolding after_boot
boot_says was e n x s is = record {
  declared = is.declared;
  active = is.active;
  rows = λ key. subst (RowIs (x.lim key) None s.declared) (sym (find-map (at_key key) booted_net (λ r. refl) s.nets))
      (booted_row (x.lim key) (x.sealed key) s.declared (row_at key s.nets) (is.rows key));
  aps_limit = is.aps_limit;
  aps_next = λ v e. absurd (none-is v e);
  net_floors = λ key sender. floors_map booted_net booted_leaves sender key s.nets ∙ is.net_floors key sender;
  link_floors = λ key sender. links_map booted_link (plain_link booted_link (λ r. refl) (λ r. refl) (λ r. refl))
      sender key s.links ∙ is.link_floors key sender;
}
  where
    is-none : Option ℕ → Type 0
    is-none None = Unit {0}
    is-none (Some n) = ⊥

    none-is : (x : ℕ) → None ≡ Some x → ⊥
    none-is x e = subst is-none e tt

given_started : (c : ℕ) (o : Option NetKey) (r : NetKey) → o ≡ Some r → Holds (Gives c) o → r.started ≡ true
unfolding Holds
given_started c o r e h = (subst (Holds (Gives c)) e h).0

given_there : (c : ℕ) (o : Option NetKey) → Holds (Gives c) o → o ≡ None → ⊥
unfolding Holds
given_there c o h e = subst (Holds (Gives c)) e h

nwk_seal_says : (c : ℕ) (base : Bytes) (lim : Option ℕ) (sealed : Option ℕ) (d : ℕ) (key : Bytes) (nets : List NetKey)
    → On (Gives c) base nets → RowIs lim sealed d (row_at key nets)
    → RowIs lim (cond (same_key base key) (Some (c + 1)) sealed) d (row_at key (at_net base (next_at (c + 1)) nets))
nwk_seal_says c base lim sealed d key nets gives is = by_key (same_key base key) refl
  where
    by_key : (b : Bool) → same_key base key ≡ b
        → RowIs lim (cond b (Some (c + 1)) sealed) d (row_at key (at_net base (next_at (c + 1)) nets))
    by_key true e =
        at_own (next_at (c + 1)) (λ r. refl) lim lim sealed (Some (c + 1)) d base key nets
        (given_there c (row_at base nets) gives)
        (λ r found said. sealed_row c lim sealed d r (given_started c (row_at base nets) r found gives) said)
        (λ other. absurd (false≢true (sym other ∙ (sym (turned base key) ∙ e)))) is
    by_key false e =
        subst (RowIs lim sealed d)
        (sym (other_row (next_at (c + 1)) (λ r. refl) base key nets (sym (turned base key) ∙ e))) is

sealed_says : (was : Bytes → Bool) (e n : ℕ) (t : Term) (layer : Layer) (x : Said) (s : NodeState) → t.layer ≡ layer
    → SealFitsAt layer t s → Recalls x s → Recalls (with_line was (Seal e n t) x) (sealed_at layer t s)
unfolding SealFitsAt
sealed_says was e n t Nwk x s at fits is = record {
  declared = is.declared;
  active = is.active;
  rows = λ key.
      subst (λ l. RowIs (x.lim key)
      (cond (same_layer l Nwk && same_key t.base key) (Some (t.counter + 1)) (x.sealed key)) s.declared
      (row_at key (at_net t.base (next_at (t.counter + 1)) s.nets))) (sym at)
      (nwk_seal_says t.counter t.base (x.lim key) (x.sealed key) s.declared key s.nets fits.2 (is.rows key));
  aps_limit = is.aps_limit;
  aps_next =
      λ v e. is.aps_next v (sym (ap (λ l. cond (same_layer l Aps && true) (Some (t.counter + 1)) x.aps) at) ∙ e);
  net_floors = λ key sender. floors_at (next_at (t.counter + 1))
      (plain_floors (next_at (t.counter + 1)) (λ r. refl) (λ r. refl)) sender t.base key s.nets ∙ is.net_floors key
      sender;
  link_floors = is.link_floors;
}
sealed_says was e n t Aps x s at fits is = record {
  declared = is.declared;
  active = is.active;
  rows = λ key. subst
      (λ l. RowIs (x.lim key) (cond (same_layer l Nwk && same_key t.base key) (Some (t.counter + 1)) (x.sealed key))
      s.declared (row_at key s.nets)) (sym at) (is.rows key);
  aps_limit = is.aps_limit;
  aps_next =
      λ v e. ap (λ o. unwrap_or o 0)
      (sym (ap (λ l. cond (same_layer l Aps && true) (Some (t.counter + 1)) x.aps) at) ∙ e);
  net_floors = is.net_floors;
  link_floors = is.link_floors;
}

-- ---- any line

pub line_says : (was : Bytes → Bool) (l : Line) (x : Said) (s : NodeState) → FitsLine was l s → Recalls x s
    → Recalls (with_line was l x) (after l s)
unfolding after after_accepting after_sealing
line_says was (Declared p) x s fits is = absurd fits
line_says was (GivenNet n k q) x s fits is = absurd fits
line_says was (GivenLink n p k) x s fits is = absurd fits
line_says was (Counter n layer v) x s fits is = absurd fits
line_says was (Changed e n edit) x s fits is = edits_say was e n edit x s fits is
line_says was (Accept e n t) x s fits is = heard_says was e n t t.layer t.base t.source t.counter x s is
line_says was (Seal e n t) x s fits is = sealed_says was e n t t.layer x s refl fits is
line_says was (Boot e n) x s fits is = boot_says was e n x s is
line_says was (Commit e n) x s fits is =
    record {
      declared = is.declared;
      active = is.active;
      rows = is.rows;
      aps_limit = is.aps_limit;
      aps_next = is.aps_next;
      net_floors = is.net_floors;
      link_floors = is.link_floors;
    }
line_says was (Refuse e n place reason) x s fits is =
    record {
      declared = is.declared;
      active = is.active;
      rows = is.rows;
      aps_limit = is.aps_limit;
      aps_next = is.aps_next;
      net_floors = is.net_floors;
      link_floors = is.link_floors;
    }
line_says was (Forge e t) x s fits is =
    record {
      declared = is.declared;
      active = is.active;
      rows = is.rows;
      aps_limit = is.aps_limit;
      aps_next = is.aps_next;
      net_floors = is.net_floors;
      link_floors = is.link_floors;
    }
line_says was (Send e n frame bytes) x s fits is =
    record {
      declared = is.declared;
      active = is.active;
      rows = is.rows;
      aps_limit = is.aps_limit;
      aps_next = is.aps_next;
      net_floors = is.net_floors;
      link_floors = is.link_floors;
    }
line_says was (Inject e frame bytes) x s fits is =
    record {
      declared = is.declared;
      active = is.active;
      rows = is.rows;
      aps_limit = is.aps_limit;
      aps_next = is.aps_next;
      net_floors = is.net_floors;
      link_floors = is.link_floors;
    }
line_says was (Stopped e n) x s fits is =
    record {
      declared = is.declared;
      active = is.active;
      rows = is.rows;
      aps_limit = is.aps_limit;
      aps_next = is.aps_next;
      net_floors = is.net_floors;
      link_floors = is.link_floors;
    }
line_says was (DownReset e n) x s fits is =
    record {
      declared = is.declared;
      active = is.active;
      rows = is.rows;
      aps_limit = is.aps_limit;
      aps_next = is.aps_next;
      net_floors = is.net_floors;
      link_floors = is.link_floors;
    }
line_says was (DownDisk e n) x s fits is =
    record {
      declared = is.declared;
      active = is.active;
      rows = is.rows;
      aps_limit = is.aps_limit;
      aps_next = is.aps_next;
      net_floors = is.net_floors;
      link_floors = is.link_floors;
    }
line_says was (Dump e n bytes) x s fits is =
    record {
      declared = is.declared;
      active = is.active;
      rows = is.rows;
      aps_limit = is.aps_limit;
      aps_next = is.aps_next;
      net_floors = is.net_floors;
      link_floors = is.link_floors;
    }
line_says was (End events seals accepts refusals ideal private) x s fits is =
    record {
      declared = is.declared;
      active = is.active;
      rows = is.rows;
      aps_limit = is.aps_limit;
      aps_next = is.aps_next;
      net_floors = is.net_floors;
      link_floors = is.link_floors;
    }
