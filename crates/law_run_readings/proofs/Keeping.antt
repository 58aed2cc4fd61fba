-- What lines say of the stored floors stays true when rows change in other things.
use Rattle.std.proofs.Common.{◌≡◌, ℕ, ◌≤◌, max, Bool, true, false, cond, ◌&&◌, List, [], ◌∷◌, ◌++◌, map, Option, Some, None, option_map, find, nat_eq, refl, sym, ap, ◌∙◌, subst, arith, eqb-true}
use Rattle.std.proofs.lemmas.Bool.{and_parts}
use Rattle.zb_model.specs.Data.{Bytes, Attribute}
use Rattle.zb_model.specs.State.{SenderFloor, NetKey, LinkKey, same_key, at_net, at_link, is_link, has_net, has_link, is_live_of, new_net, new_link, net_floor, link_floor, net_kept, booted_net, booted_floor, revived, with_link, told_as, with_told, floor_of_sender, sender_floor}
use Rattle.zb_model.specs.Fits.{net_stored, link_stored}
use Rattle.law_run.proofs.Basics.{find-map, same_key-eq, same_key-refl, nat_eq-refl}
use Rattle.law_run.proofs.FloorRows.{Sorted}
use Rattle.law_run.proofs.Nets.{at_key}
use Rattle.law_run_readings.proofs.Rows.{row_at, own_row, new_row_other, new_row_own, absent_row, stored_of, placed, link_at, KeepsLink, link_same, found_link}

-- ---- of network rows

-- a change that leaves what is stored of senders
pub record LeavesFloors (f : NetKey → NetKey) : Type 0 where
  pub key : (r : NetKey) → (f r).key ≡ r.key
  pub stored : (r : NetKey) (sender : ℕ) → stored_of sender (f r).floors ≡ stored_of sender r.floors

pub stored_is : (sender : ℕ) (r : NetKey) → net_stored sender (Some r) ≡ stored_of sender r.floors
unfolding sender_floor
stored_is sender r = refl

left_stored : (f : NetKey → NetKey) → LeavesFloors f → (sender : ℕ) (o : Option NetKey)
    → net_stored sender (option_map f o) ≡ net_stored sender o
left_stored f k sender None = refl
left_stored f k sender (Some r) = stored_is sender (f r) ∙ k.stored r sender ∙ sym (stored_is sender r)

pub floors_map : (f : NetKey → NetKey) → LeavesFloors f → (sender : ℕ) (key : Bytes) (nets : List NetKey)
    → net_stored sender (row_at key (map f nets)) ≡ net_stored sender (row_at key nets)
floors_map f k sender key nets =
    ap (net_stored sender) (find-map (at_key key) f (λ r. ap (λ x. same_key x key) (k.key r)) nets) ∙ left_stored f k
    sender (row_at key nets)

only_floors : (f : NetKey → NetKey) (a : Bytes) → LeavesFloors f → LeavesFloors (λ r. cond (same_key r.key a) (f r) r)
only_floors f a k =
    record { key = λ r. key_ (same_key r.key a) r; stored = λ r sender. stored_ (same_key r.key a) r sender }
  where
    key_ : (b : Bool) (r : NetKey) → (cond b (f r) r).key ≡ r.key
    key_ true r = k.key r
    key_ false r = refl

    stored_ : (b : Bool) (r : NetKey) (sender : ℕ) → stored_of sender (cond b (f r) r).floors
        ≡ stored_of sender r.floors
    stored_ true r sender = k.stored r sender
    stored_ false r sender = refl

pub floors_at : (f : NetKey → NetKey) → LeavesFloors f → (sender : ℕ) (a key : Bytes) (nets : List NetKey)
    → net_stored sender (row_at key (at_net a f nets)) ≡ net_stored sender (row_at key nets)
floors_at f k sender a key nets = floors_map (λ r. cond (same_key r.key a) (f r) r) (only_floors f a k) sender key nets

pub plain_floors : (f : NetKey → NetKey) → ((r : NetKey) → (f r).key ≡ r.key)
    → ((r : NetKey) → (f r).floors ≡ r.floors) → LeavesFloors f
plain_floors f key floors = record { key = key; stored = λ r sender. ap (stored_of sender) (floors r) }

mapped_stored : (f : SenderFloor → SenderFloor) → ((x : SenderFloor) → (f x).sender ≡ x.sender)
    → ((x : SenderFloor) → (f x).stored ≡ x.stored) → (sender : ℕ) (fs : List SenderFloor)
    → stored_of sender (map f fs) ≡ stored_of sender fs
mapped_stored f from stored sender fs = ap (λ o. (floor_of_sender sender o).stored)
    (find-map (λ (x : SenderFloor). nat_eq x.sender sender) f (λ x. ap (λ y. nat_eq y sender) (from x)) fs) ∙ by_found
    (find (λ (x : SenderFloor). nat_eq x.sender sender) fs)
  where
    by_found : (o : Option SenderFloor) → (floor_of_sender sender (option_map f o)).stored
        ≡ (floor_of_sender sender o).stored
    by_found None = refl
    by_found (Some x) = stored x

pub booted_leaves : LeavesFloors booted_net
booted_leaves =
    record { key = λ r. refl; stored = λ r sender. mapped_stored booted_floor (λ x. refl) (λ x. refl) sender r.floors }

pub kept_leaves : (from kept : ℕ) → LeavesFloors (net_kept from kept)
kept_leaves from kept =
    record {
      key = λ r. refl;
      stored = λ r sender. mapped_stored
          (λ (x : SenderFloor). cond (nat_eq x.sender from) (record x { kept = kept }) x)
          (λ x. from_ (nat_eq x.sender from) x) (λ x. stored_ (nat_eq x.sender from) x) sender r.floors;
    }
  where
    from_ : (b : Bool) (x : SenderFloor) → (cond b (record x { kept = kept }) x).sender ≡ x.sender
    from_ true x = refl
    from_ false x = refl

    stored_ : (b : Bool) (x : SenderFloor) → (cond b (record x { kept = kept }) x).stored ≡ x.stored
    stored_ true x = refl
    stored_ false x = refl

-- a new row has no floors
pub installed_floors : (k : Bytes) (q sender : ℕ) (key : Bytes) (nets : List NetKey)
    → net_stored sender (row_at key (cond (has_net k nets) nets (nets ++ new_net k q ∷ [])))
    ≡ net_stored sender (row_at key nets)
installed_floors k q sender key nets = by_has (has_net k nets) refl
  where
    by_has : (b : Bool) → has_net k nets ≡ b → net_stored sender (row_at key (cond b nets (nets ++ new_net k q ∷ [])))
        ≡ net_stored sender (row_at key nets)
    by_has true e = refl
    by_has false e = by_key (same_key k key) refl
      where
        by_key : (b : Bool) → same_key k key ≡ b → net_stored sender (row_at key (nets ++ new_net k q ∷ []))
            ≡ net_stored sender (row_at key nets)
        by_key false other = ap (net_stored sender) (new_row_other (new_net k q) key nets other)
        by_key true same =
            let at : k ≡ key = same_key-eq k key same in
            subst (λ x. net_stored sender (row_at x (nets ++ new_net k q ∷ [])) ≡ net_stored sender (row_at x nets)) at
            (ap (net_stored sender) (new_row_own (new_net k q) nets e) ∙ stored_is sender (new_net k q) ∙ sym
            (ap (net_stored sender) (absent_row k nets e)))

-- a floor is stored: the row is there, and the floor isn't below the one before
pub floor_row : (from v sender : ℕ) (r : NetKey) → Sorted r.floors → net_stored from (Some r) ≤ v
    → net_stored sender (Some (net_floor from v r)) ≡ cond (nat_eq from sender) v (net_stored sender (Some r))
floor_row from v sender r sorted below =
    stored_is sender (net_floor from v r) ∙ placed from v sender r.floors sorted ∙ by_test (nat_eq from sender) refl
  where
    by_test : (b : Bool) → nat_eq from sender ≡ b
        → cond b (max (stored_of sender r.floors) v) (stored_of sender r.floors)
        ≡ cond b v (net_stored sender (Some r))
    by_test true e = let same =
        eqb-true from sender e in omega
        (arith, subst (λ x. stored_of x r.floors ≤ v) same (subst (λ x. x ≤ v) (stored_is from r) below))
    by_test false e = sym (stored_is sender r)

by_there : (from v sender : ℕ) (o : Option NetKey) → (o ≡ None → ⊥) → ((r : NetKey) → o ≡ Some r → Sorted r.floors)
    → net_stored from o ≤ v
    → net_stored sender (option_map (net_floor from v) o) ≡ cond (nat_eq from sender) v (net_stored sender o)
by_there from v sender None there sorted below = absurd (there refl)
by_there from v sender (Some r) there sorted below = floor_row from v sender r (sorted r refl) below

pub floors_own : (from v : ℕ) (a : Bytes) (sender : ℕ) (nets : List NetKey) → (row_at a nets ≡ None → ⊥)
    → ((r : NetKey) → row_at a nets ≡ Some r → Sorted r.floors) → net_stored from (row_at a nets) ≤ v
    → net_stored sender (row_at a (at_net a (net_floor from v) nets))
    ≡ cond (nat_eq from sender) v (net_stored sender (row_at a nets))
floors_own from v a sender nets there sorted below =
    ap (net_stored sender) (own_row (net_floor from v) (λ r. refl) a nets) ∙ by_there from v sender (row_at a nets)
    there sorted below

-- ---- of link rows

pub record LeavesLink (f : LinkKey → LinkKey) : Type 0 where
  pub keeps : KeepsLink f
  pub stored : (r : LinkKey) → (f r).stored ≡ r.stored

left_link : (f : LinkKey → LinkKey) → LeavesLink f → (o : Option LinkKey) → link_stored (option_map f o)
    ≡ link_stored o
left_link f k None = refl
left_link f k (Some r) = k.stored r

pub links_map : (f : LinkKey → LinkKey) → LeavesLink f → (p : ℕ) (key : Bytes) (links : List LinkKey)
    → link_stored (link_at p key (map f links)) ≡ link_stored (link_at p key links)
links_map f k p key links = ap link_stored (find-map (is_link p key) f (link_same f k.keeps p key) links) ∙ left_link
    f k (link_at p key links)

pub only_link : (f : LinkKey → LinkKey) (test : LinkKey → Bool) → LeavesLink f
    → LeavesLink (λ r. cond (test r) (f r) r)
only_link f test k =
    record {
      keeps = record { partner = λ r. partner_ (test r) r; key = λ r. key_ (test r) r };
      stored = λ r. stored_ (test r) r;
    }
  where
    partner_ : (b : Bool) (r : LinkKey) → (cond b (f r) r).partner ≡ r.partner
    partner_ true r = k.keeps.partner r
    partner_ false r = refl

    key_ : (b : Bool) (r : LinkKey) → (cond b (f r) r).key ≡ r.key
    key_ true r = k.keeps.key r
    key_ false r = refl

    stored_ : (b : Bool) (r : LinkKey) → (cond b (f r) r).stored ≡ r.stored
    stored_ true r = k.stored r
    stored_ false r = refl

pub plain_link : (f : LinkKey → LinkKey) → ((r : LinkKey) → (f r).partner ≡ r.partner)
    → ((r : LinkKey) → (f r).key ≡ r.key) → ((r : LinkKey) → (f r).stored ≡ r.stored) → LeavesLink f
plain_link f partner key stored = record { keeps = record { partner = partner; key = key }; stored = stored }

-- one more row with no floor
more_link : (x : LinkKey) → x.stored ≡ 0 → (p : ℕ) (key : Bytes) (links : List LinkKey)
    → link_stored (link_at p key (links ++ x ∷ [])) ≡ link_stored (link_at p key links)
more_link x zero_is p key [] = by_test (is_link p key x)
  where
    by_test : (b : Bool) → link_stored (cond b (Some x) None) ≡ 0
    by_test true = zero_is
    by_test false = refl
more_link x zero_is p key (r ∷ rs) = by_test (is_link p key r) (more_link x zero_is p key rs)
  where
    by_test : (b : Bool) → link_stored (link_at p key (rs ++ x ∷ [])) ≡ link_stored (link_at p key rs)
        → link_stored (cond b (Some r) (link_at p key (rs ++ x ∷ [])))
        ≡ link_stored (cond b (Some r) (link_at p key rs))
    by_test true more = refl
    by_test false more = more

pub with_link_stored : (partner : ℕ) (k : Bytes) (a : Attribute) (told : Bool) (p : ℕ) (key : Bytes)
    (links : List LinkKey) → link_stored (link_at p key (with_link partner k a told links))
    ≡ link_stored (link_at p key links)
with_link_stored partner k a told p key links = by_has (has_link partner k links)
  where
    by_has : (b : Bool)
        → link_stored
        (link_at p key (cond b (at_link partner k (revived a told) links) (links ++ new_link partner k a told ∷ [])))
        ≡ link_stored (link_at p key links)
    by_has true = links_map (λ (r : LinkKey). cond (is_link partner k r) (revived a told r) r)
        (only_link (revived a told) (is_link partner k)
        (plain_link (revived a told) (λ r. refl) (λ r. refl) (λ r. refl))) p key links
    by_has false = more_link (new_link partner k a told) refl p key links

pub with_told_stored : (partner : ℕ) (told : Bool) (p : ℕ) (key : Bytes) (links : List LinkKey)
    → link_stored (link_at p key (with_told partner told links)) ≡ link_stored (link_at p key links)
with_told_stored partner told p key links =
    links_map (λ (r : LinkKey). cond (is_live_of partner r) (told_as told r) r)
    (only_link (told_as told) (is_live_of partner) (plain_link (told_as told) (λ r. refl) (λ r. refl) (λ r. refl))) p
    key links

-- whether the row of a partner and a key is another's depends on the partner and the key
pub link_asks : (from : ℕ) (k : Bytes) (p : ℕ) (key : Bytes) (r : LinkKey) → is_link p key r ≡ true
    → is_link from k r ≡ (same_key k key && nat_eq from p)
link_asks from k p key r e =
    ap (λ x. nat_eq x from && same_key r.key k) (eqb-true r.partner p is.0) ∙ ap
    (λ x. nat_eq p from && same_key x k) (same_key-eq r.key key is.1)
    ∙ ap (λ b. b && same_key key k) (swap p from) ∙ ap (λ b. nat_eq from p && b) (turn key k) ∙ flip
    (nat_eq from p) (same_key k key)
  where
    is : (nat_eq r.partner p ≡ true) × (same_key r.key key ≡ true)
    is = and_parts (nat_eq r.partner p) (same_key r.key key) e

    turn : (a b : Bytes) → same_key a b ≡ same_key b a
    turn a b = by_turn (same_key a b) refl (same_key b a) refl
      where
        by_turn : (x : Bool) → same_key a b ≡ x → (y : Bool) → same_key b a ≡ y → x ≡ y
        by_turn true f true g = refl
        by_turn true f false g = sym (sym g ∙ ap (λ z. same_key z a) (sym (same_key-eq a b f)) ∙ same_key-refl a)
        by_turn false f true g = sym f ∙ ap (λ z. same_key a z) (same_key-eq b a g) ∙ same_key-refl a
        by_turn false f false g = refl

    swap : (m n : ℕ) → nat_eq m n ≡ nat_eq n m
    swap m n = by_swap (nat_eq m n) refl (nat_eq n m) refl
      where
        by_swap : (x : Bool) → nat_eq m n ≡ x → (y : Bool) → nat_eq n m ≡ y → x ≡ y
        by_swap true f true g = refl
        by_swap true f false g = sym (sym g ∙ ap (λ z. nat_eq z m) (sym (eqb-true m n f)) ∙ nat_eq-refl m)
        by_swap false f true g = sym f ∙ ap (λ z. nat_eq m z) (eqb-true n m g) ∙ nat_eq-refl m
        by_swap false f false g = refl

    flip : (a b : Bool) → (a && b) ≡ (b && a)
    flip true true = refl
    flip true false = refl
    flip false true = refl
    flip false false = refl

-- a floor of a partner's key
raised_link : (v : ℕ) (from : ℕ) (k : Bytes) (p : ℕ) (key : Bytes) (links : List LinkKey) → (o : Option LinkKey)
    → link_at p key links ≡ o → (link_at from k links ≡ None → ⊥) → link_stored (link_at from k links) ≤ v
    → link_stored (option_map (λ (r : LinkKey). cond (is_link from k r) (link_floor v r) r) o)
    ≡ cond (same_key k key && nat_eq from p) v (link_stored o)
raised_link v from k p key links None e there below = by_test (same_key k key) refl (nat_eq from p) refl
  where
    by_test : (b : Bool) → same_key k key ≡ b → (d : Bool) → nat_eq from p ≡ d → 0 ≡ cond (b && d) v 0
    by_test true f true g =
        absurd (there
        (ap (λ x. link_at x k links) (eqb-true from p g) ∙ ap (λ x. link_at p x links) (same_key-eq k key f) ∙ e))
    by_test true f false g = refl
    by_test false f d g = refl
raised_link v from k p key links (Some r) e there below = ap (λ b. link_stored (Some (cond b (link_floor v r) r)))
    (link_asks from k p key r (found_link p key links r e)) ∙ by_test (same_key k key) refl (nat_eq from p) refl
  where
    by_test : (b : Bool) → same_key k key ≡ b → (d : Bool) → nat_eq from p ≡ d
        → link_stored (Some (cond (b && d) (link_floor v r) r)) ≡ cond (b && d) v (link_stored (Some r))
    by_test true f true g =
        let at : link_at from k links ≡ Some r = ap (λ x. link_at x k links) (eqb-true from p g) ∙ ap
        (λ x. link_at p x links) (same_key-eq k key f) ∙ e in
        let low : r.stored ≤ v = subst (λ o. link_stored o ≤ v) at below in
        omega (arith, low)
    by_test true f false g = refl
    by_test false f d g = refl

pub link_floors_own : (v from : ℕ) (k : Bytes) (p : ℕ) (key : Bytes) (links : List LinkKey)
    → (link_at from k links ≡ None → ⊥) → link_stored (link_at from k links) ≤ v
    → link_stored (link_at p key (at_link from k (link_floor v) links))
    ≡ cond (same_key k key && nat_eq from p) v (link_stored (link_at p key links))
link_floors_own v from k p key links there below =
    ap link_stored
    (find-map (is_link p key) (λ (r : LinkKey). cond (is_link from k r) (link_floor v r) r)
    (λ r. same_link (is_link from k r) r) links)
    ∙ raised_link v from k p key links (link_at p key links) refl there below
  where
    same_link : (b : Bool) (r : LinkKey) → is_link p key (cond b (link_floor v r) r) ≡ is_link p key r
    same_link true r = refl
    same_link false r = refl
