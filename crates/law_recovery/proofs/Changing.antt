-- Changes of a state that leave its network rows where they are, and what its rules find: limits that are reserved,
-- and counters that are used.
use Rattle.std.proofs.Common.{◌≡◌, ℕ, Bool, true, false, if◌then◌else◌, List, [], ◌∷◌, ◌++◌, map, find, reverse, Option, Some, None, option_map, option_to_list, is_some, refl, sym, ap, ◌∙◌, subst}
use Rattle.zb_model.specs.Data.{Bytes, Nwk, Aps, Edit, Reserve}
use Rattle.zb_model.specs.State.{NetKey, NodeState, same_key, of_active, net_of_active, active_row, newest, reserved, applied, applied_all}
use Rattle.law_recovery.proofs.Once.{map_same, find_map, reverse_map}

-- a change of a row that leaves its key, its sequence, and whether it is live
pub record IsMild (f : NetKey → NetKey) : Type 0 where
  pub key : (r : NetKey) → (f r).key ≡ r.key
  pub sequence : (r : NetKey) → (f r).sequence ≡ r.sequence
  pub live : (r : NetKey) → (f r).live ≡ r.live

pub mild_then : (f g : NetKey → NetKey) → IsMild f → IsMild g → IsMild (λ r. f (g r))
mild_then f g a b =
    record {
      key = λ r. a.key (g r) ∙ b.key r;
      sequence = λ r. a.sequence (g r) ∙ b.sequence r;
      live = λ r. a.live (g r) ∙ b.live r;
    }

pub mild_if : (test : NetKey → Bool) (f : NetKey → NetKey) → IsMild f → IsMild (λ r. if test r then f r else r)
mild_if test f a =
    record { key = λ r. key (test r) r; sequence = λ r. sequence (test r) r; live = λ r. live (test r) r }
  where
    key : (b : Bool) (r : NetKey) → (if b then f r else r).key ≡ r.key
    key true r = a.key r
    key false r = refl

    sequence : (b : Bool) (r : NetKey) → (if b then f r else r).sequence ≡ r.sequence
    sequence true r = a.sequence r
    sequence false r = refl

    live : (b : Bool) (r : NetKey) → (if b then f r else r).live ≡ r.live
    live true r = a.live r
    live false r = refl

-- what is found afterwards is what was found, changed

found_active : (f : NetKey → NetKey) → IsMild f → (o : Option Bytes) (s t : NodeState) → t.nets ≡ map f s.nets
    → net_of_active o t ≡ option_map f (net_of_active o s)
found_active f m None s t e = refl
found_active f m (Some key) s t e = ap (find (λ (r : NetKey). same_key r.key key)) e ∙ find_map
    (λ (r : NetKey). same_key r.key key) f (λ r. ap (λ k. same_key k key) (m.key r)) s.nets

pub active_after : (f : NetKey → NetKey) → IsMild f → (s t : NodeState) → t.nets ≡ map f s.nets → t.active ≡ s.active
    → active_row t ≡ option_map f (active_row s)
unfolding active_row
active_after f m s t e a = ap (λ o. net_of_active o t) a ∙ found_active f m s.active s t e

pub newest_after : (f : NetKey → NetKey) → IsMild f → (s t : NodeState) → t.nets ≡ map f s.nets → newest t
    ≡ option_map f (newest s)
unfolding newest
newest_after f m s t e = ap (λ l. find (λ (r : NetKey). r.live) (reverse l)) e ∙ ap (find (λ (r : NetKey). r.live))
    (reverse_map f s.nets) ∙ find_map (λ (r : NetKey). r.live) f (λ r. m.live r) (reverse s.nets)

pub there_after : (f : NetKey → NetKey) (o : Option NetKey) → is_some (option_map f o) ≡ is_some o
there_after f None = refl
there_after f (Some r) = refl

-- ---- the row of a key that is found has that key

abbrev HasKey : Bytes → Option NetKey → Type 0
HasKey key None = Unit {0}
HasKey key (Some r) = same_key r.key key ≡ true

has_key : (key : Bytes) (rs : List NetKey) → HasKey key (find (λ (r : NetKey). same_key r.key key) rs)
has_key key [] = tt
has_key key (r ∷ rs) = by_test (same_key r.key key) refl (has_key key rs)
  where
    by_test : (b : Bool) → same_key r.key key ≡ b → HasKey key (find (λ (x : NetKey). same_key x.key key) rs)
        → HasKey key (if b then Some r else find (λ (x : NetKey). same_key x.key key) rs)
    by_test true e h = e
    by_test false e h = h

-- ---- reserved limits

-- the changes of a state by two limits that may be reserved
abbrev pub reserves : Option ℕ → Option ℕ → List Edit
reserves nwk aps = option_to_list (option_map (Reserve Nwk) nwk) ++ option_to_list (option_map (Reserve Aps) aps)

-- the rows are changed mildly, and keep their next counters; a limit at APS is another
pub record Reserved (nwk aps : Option ℕ) (s : NodeState) : Type 0 where
  pub change : NetKey → NetKey
  pub mild : IsMild change
  pub next : (r : NetKey) → (change r).next ≡ r.next
  pub limit : ℕ
  pub same : applied_all (reserves nwk aps) s ≡ record s { nets = map change s.nets; aps_limit = limit }

pub record InRows (f : NetKey → NetKey) (o : Option Bytes) (rs : List NetKey) : Type 0 where
  pub change : NetKey → NetKey
  pub mild : IsMild change
  pub next : ((r : NetKey) → (f r).next ≡ r.next) → (r : NetKey) → (change r).next ≡ r.next
  pub same : of_active f o rs ≡ map change rs

pub in_rows : (f : NetKey → NetKey) → IsMild f → (o : Option Bytes) (rs : List NetKey) → InRows f o rs
in_rows f m None rs =
    record {
      change = λ r. r;
      mild = record { key = λ r. refl; sequence = λ r. refl; live = λ r. refl };
      next = λ n r. refl;
      same = sym (map_same rs);
    }
in_rows f m (Some key) rs = record {
  change = λ r. if same_key r.key key then f r
      else r;
  mild = mild_if (λ r. same_key r.key key) f m;
  next = λ n r. kept n (same_key r.key key) r;
  same = refl;
}
  where
    kept : ((r : NetKey) → (f r).next ≡ r.next) → (b : Bool) (r : NetKey) → (if b then f r else r).next ≡ r.next
    kept n true r = n r
    kept n false r = refl

mild_reserve : (v : ℕ) → IsMild (reserved v)
mild_reserve v = record { key = λ r. refl; sequence = λ r. refl; live = λ r. refl }

pub reserved_so : (nwk aps : Option ℕ) (s : NodeState) → Reserved nwk aps s
unfolding applied_all applied
reserved_so None None s =
    record {
      change = λ r. r;
      mild = record { key = λ r. refl; sequence = λ r. refl; live = λ r. refl };
      next = λ r. refl;
      limit = s.aps_limit;
      same = ap (λ l. record s { nets = l }) (sym (map_same s.nets));
    }
reserved_so None (Some v) s =
    record {
      change = λ r. r;
      mild = record { key = λ r. refl; sequence = λ r. refl; live = λ r. refl };
      next = λ r. refl;
      limit = (applied (Reserve Aps v) s).aps_limit;
      same =
          ap (λ l. record (applied (Reserve Aps v) s) { nets = l }) (sym (map_same s.nets));
    }
reserved_so (Some u) None s =
    let rows = in_rows (reserved u) (mild_reserve u) s.active s.nets in
    record {
      change = rows.change;
      mild = rows.mild;
      next = rows.next (λ r. refl);
      limit = s.aps_limit;
      same = ap (λ l. record s { nets = l }) rows.same;
    }
reserved_so (Some u) (Some v) s =
    let rows = in_rows (reserved u) (mild_reserve u) s.active s.nets in
    record {
      change = rows.change;
      mild = rows.mild;
      next = rows.next (λ r. refl);
      limit = (applied (Reserve Aps v) s).aps_limit;
      same =
          ap (λ l. record (applied (Reserve Aps v) s) { nets = l }) rows.same;
    }

pub applied_then : (xs ys : List Edit) (s : NodeState) → applied_all (xs ++ ys) s ≡ applied_all ys (applied_all xs s)
unfolding applied_all
applied_then [] ys s = refl
applied_then (x ∷ xs) ys s = applied_then xs ys (applied x s)

key_of_active : (o : Option Bytes) (s : NodeState) (r : NetKey) → net_of_active o s ≡ Some r → (key : Bytes)
    × (o ≡ Some key) × (same_key r.key key ≡ true)
key_of_active None s r e = absurd (cc)
key_of_active (Some key) s r e = (key, refl, subst (HasKey key) e (has_key key s.nets))

pub active_key : (s : NodeState) (r : NetKey) → active_row s ≡ Some r → (key : Bytes) × (s.active ≡ Some key)
    × (same_key r.key key ≡ true)
unfolding active_row
active_key s r e = key_of_active s.active s r e
