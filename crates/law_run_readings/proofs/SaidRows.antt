-- What lines say of a node, as values: what each own line adds, and when a state agrees with it.
use Rattle.std.proofs.Common.{◌≡◌, ℕ, ◌≤◌, ◌+◌, Bool, true, false, cond, List, [], ◌∷◌, ◌++◌, map, Option, Some, None, option_map, refl, sym, ap, ◌∙◌, subst, arith, unwrap_or}
use Rattle.std.proofs.lemmas.Bool.{false≢true}
use Rattle.zb_model.specs.Data.{Bytes}
use Rattle.zb_model.specs.State.{greatest_counter, NetKey, same_key, at_net, has_net, new_net, reserved, started_at, next_at, booted_net}
use Rattle.law_run.proofs.Basics.{find-map, same_key-eq}
use Rattle.law_run.proofs.Nets.{at_key}
use Rattle.law_run_readings.proofs.Rows.{row_at, own_row, other_row, new_row_other, new_row_own, absent_row}

-- ---- one network row

-- What lines say of the limit of a key, and of its counter since the last boot: the row has it. A row that has not
-- started has neither, and a key without a row has neither.
pub record SaysRow (lim sealed : Option ℕ) (d : ℕ) (r : NetKey) : Type 0 where
  pub limit : r.started ≡ true → r.limit ≡ unwrap_or lim d
  pub fresh : r.started ≡ false → (lim ≡ None) × (sealed ≡ None)
  pub next : (x : ℕ) → sealed ≡ Some x → r.next ≡ x

abbrev pub RowIs : Option ℕ → Option ℕ → ℕ → Option NetKey → Type 0
RowIs lim sealed d None = (lim ≡ None) × (sealed ≡ None)
RowIs lim sealed d (Some r) = SaysRow lim sealed d r

-- a change that leaves limit, next counter and start
pub record LeavesRow (f : NetKey → NetKey) : Type 0 where
  pub key : (r : NetKey) → (f r).key ≡ r.key
  pub started : (r : NetKey) → (f r).started ≡ r.started
  pub limit : (r : NetKey) → (f r).limit ≡ r.limit
  pub next : (r : NetKey) → (f r).next ≡ r.next

pub left_row : (f : NetKey → NetKey) → LeavesRow f → (lim sealed : Option ℕ) (d : ℕ) (o : Option NetKey)
    → RowIs lim sealed d o → RowIs lim sealed d (option_map f o)
left_row f k lim sealed d None is = is
left_row f k lim sealed d (Some r) is = record {
  limit = λ e. k.limit r ∙ is.limit (sym (k.started r) ∙ e);
  fresh = λ e. is.fresh (sym (k.started r) ∙ e);
  next = λ x e. k.next r ∙ is.next x e;
}

only_row : (f : NetKey → NetKey) (a : Bytes) → LeavesRow f → LeavesRow (λ r. cond (same_key r.key a) (f r) r)
only_row f a k =
    record {
      key = λ r. key_ (same_key r.key a) r;
      started = λ r. started_ (same_key r.key a) r;
      limit = λ r. limit_ (same_key r.key a) r;
      next = λ r. next_ (same_key r.key a) r;
    }
  where
    key_ : (b : Bool) (r : NetKey) → (cond b (f r) r).key ≡ r.key
    key_ true r = k.key r
    key_ false r = refl

    started_ : (b : Bool) (r : NetKey) → (cond b (f r) r).started ≡ r.started
    started_ true r = k.started r
    started_ false r = refl

    limit_ : (b : Bool) (r : NetKey) → (cond b (f r) r).limit ≡ r.limit
    limit_ true r = k.limit r
    limit_ false r = refl

    next_ : (b : Bool) (r : NetKey) → (cond b (f r) r).next ≡ r.next
    next_ true r = k.next r
    next_ false r = refl

pub left_map : (f : NetKey → NetKey) → LeavesRow f
    → (lim sealed : Option ℕ) (d : ℕ) (key : Bytes) (nets : List NetKey) → RowIs lim sealed d (row_at key nets)
    → RowIs lim sealed d (row_at key (map f nets))
left_map f k lim sealed d key nets is =
    subst (RowIs lim sealed d) (sym (find-map (at_key key) f (λ r. ap (λ x. same_key x key) (k.key r)) nets))
    (left_row f k lim sealed d (row_at key nets) is)

pub left_at : (f : NetKey → NetKey) → LeavesRow f → (lim sealed : Option ℕ) (d : ℕ) (a key : Bytes)
    (nets : List NetKey) → RowIs lim sealed d (row_at key nets) → RowIs lim sealed d (row_at key (at_net a f nets))
left_at f k lim sealed d a key nets is = left_map (λ r. cond (same_key r.key a) (f r) r) (only_row f a k) lim sealed d
    key nets is

-- a reserve of the active key
pub reserved_row : (v : ℕ) (lim sealed : Option ℕ) (d : ℕ) (r : NetKey) → r.started ≡ true → r.limit ≤ v → v
    ≤ greatest_counter → SaysRow lim sealed d r → SaysRow (Some v) sealed d (reserved v r)
reserved_row v lim sealed d r started below small is = record {
  limit = λ e. omega (arith, below, small);
  fresh = λ e. absurd (false≢true (sym e));
  next = is.next;
}

-- the first counter of a key
pub start_row : (v : ℕ) (lim sealed : Option ℕ) (d : ℕ) (r : NetKey) → r.started ≡ false → r.limit ≤ v → v
    ≤ greatest_counter → SaysRow lim sealed d r → SaysRow (Some v) sealed d (started_at v r)
start_row v lim sealed d r unstarted below small is = record {
  limit = λ e. omega (arith, below, small);
  fresh = λ e. absurd (false≢true (sym e));
  next = λ x e. absurd (none-is x (sym (is.fresh unstarted).1 ∙ e));
}
  where
    is-none : Option ℕ → Type 0
    is-none None = Unit {0}
    is-none (Some n) = ⊥

    none-is : (x : ℕ) → None ≡ Some x → ⊥
    none-is x e = subst is-none e tt

-- a term was sealed under the key
pub sealed_row : (c : ℕ) (lim sealed : Option ℕ) (d : ℕ) (r : NetKey) → r.started ≡ true → SaysRow lim sealed d r
    → SaysRow lim (Some (c + 1)) d (next_at (c + 1) r)
sealed_row c lim sealed d r started is = record {
  limit = is.limit;
  fresh = λ e. absurd (false≢true (sym e ∙ started));
  next = λ x e. ap (λ o. unwrap_or o 0) e;
}

-- a boot
pub booted_row : (lim sealed : Option ℕ) (d : ℕ) (o : Option NetKey) → RowIs lim sealed d o
    → RowIs lim None d (option_map booted_net o)
booted_row lim sealed d None is = (is.0, refl)
booted_row lim sealed d (Some r) is = record {
  limit = is.limit;
  fresh = λ e. ((is.fresh e).0, refl);
  next = λ x e. absurd (none-is x e);
}
  where
    is-none : Option ℕ → Type 0
    is-none None = Unit {0}
    is-none (Some n) = ⊥

    none-is : (x : ℕ) → None ≡ Some x → ⊥
    none-is x e = subst is-none e tt

new_says : (k : Bytes) (q d : ℕ) → SaysRow None None d (new_net k q)
new_says k q d = record {
  limit = λ e. absurd (false≢true e);
  fresh = λ e. (refl, refl);
  next = λ x e. absurd (none-is x e);
}
  where
    is-none : Option ℕ → Type 0
    is-none None = Unit {0}
    is-none (Some n) = ⊥

    none-is : (x : ℕ) → None ≡ Some x → ⊥
    none-is x e = subst is-none e tt

-- a new row
pub installed_row : (k : Bytes) (q : ℕ) (lim sealed : Option ℕ) (d : ℕ) (key : Bytes) (nets : List NetKey)
    → RowIs lim sealed d (row_at key nets)
    → RowIs lim sealed d (row_at key (cond (has_net k nets) nets (nets ++ new_net k q ∷ [])))
installed_row k q lim sealed d key nets is = by_has (has_net k nets) refl
  where
    by_has : (b : Bool) → has_net k nets ≡ b → RowIs lim sealed d (row_at key (cond b nets (nets ++ new_net k q ∷ [])))
    by_has true e = is
    by_has false e = by_key (same_key k key) refl
      where
        by_key : (b : Bool) → same_key k key ≡ b → RowIs lim sealed d (row_at key (nets ++ new_net k q ∷ []))
        by_key false other = subst (RowIs lim sealed d) (sym (new_row_other (new_net k q) key nets other)) is
        by_key true same =
            let at : k ≡ key = same_key-eq k key same in
            let none : row_at key nets ≡ None = absent_row key nets (ap (λ x. has_net x nets) (sym at) ∙ e) in
            let says : RowIs lim sealed d None = subst (RowIs lim sealed d) none is in
            subst (RowIs lim sealed d)
            (ap (λ x. Some (new_net k q)) at ∙ sym
            (ap (λ x. row_at x (nets ++ new_net k q ∷ [])) (sym at) ∙ new_row_own (new_net k q) nets e))
            (subst (λ o. SaysRow o sealed d (new_net k q)) (sym says.0)
            (subst (λ o. SaysRow None o d (new_net k q)) (sym says.1) (new_says k q d)))

by_own : (f : NetKey → NetKey) (lim lim' sealed sealed' : Option ℕ) (d : ℕ) (o : Option NetKey) → (o ≡ None → ⊥)
    → ((r : NetKey) → o ≡ Some r → SaysRow lim sealed d r → SaysRow lim' sealed' d (f r))
    → RowIs lim sealed d o → RowIs lim' sealed' d (option_map f o)
by_own f lim lim' sealed sealed' d None there k is = absurd (there refl)
by_own f lim lim' sealed sealed' d (Some r) there k is = k r refl is

-- a change of the row of one key, and what is said of each
pub at_own : (f : NetKey → NetKey) → ((r : NetKey) → (f r).key ≡ r.key)
    → (lim lim' sealed sealed' : Option ℕ) (d : ℕ) (a key : Bytes) (nets : List NetKey) → (row_at a nets ≡ None → ⊥)
    → ((r : NetKey) → row_at a nets ≡ Some r → SaysRow lim sealed d r → SaysRow lim' sealed' d (f r))
    → (same_key key a ≡ false → (lim' ≡ lim) × (sealed' ≡ sealed)) → RowIs lim sealed d (row_at key nets)
    → RowIs lim' sealed' d (row_at key (at_net a f nets))
at_own f same lim lim' sealed sealed' d a key nets there k stays is = by_key (same_key key a) refl
  where
    by_key : (b : Bool) → same_key key a ≡ b → RowIs lim' sealed' d (row_at key (at_net a f nets))
    by_key false other =
        subst (RowIs lim' sealed' d) (sym (other_row f same a key nets other))
        (subst (λ o. RowIs o sealed' d (row_at key nets)) (sym (stays other).0)
        (subst (λ o. RowIs lim o d (row_at key nets)) (sym (stays other).1) is))
    by_key true own =
        let at : key ≡ a = same_key-eq key a own in
        subst (λ x. RowIs lim' sealed' d (row_at x (at_net a f nets))) (sym at)
        (subst (RowIs lim' sealed' d) (sym (own_row f same a nets))
        (by_own f lim lim' sealed sealed' d (row_at a nets) there k
        (subst (λ x. RowIs lim sealed d (row_at x nets)) at is)))
