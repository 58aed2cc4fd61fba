-- The network row of a key, and the link row of a partner and a key, after the changes of rows.
use Rattle.std.proofs.Common.{◌≡◌, ℕ, ◌<◌, max, Bool, true, false, cond, ◌&&◌, ◌||◌, List, [], ◌∷◌, ◌++◌, Option, Some, None, option_map, find, nat_eq, nat_lt, refl, sym, ap, ◌∙◌, subst, arith, eqb-true, eq-eqb, ltb-true, lt_irrefl, lt_trans}
use Rattle.std.proofs.lemmas.Bool.{false≢true}
use Rattle.std.specs.List.{AllByRecursion}
use Rattle.zb_model.specs.Data.{Bytes}
use Rattle.zb_model.specs.State.{SenderFloor, NetKey, LinkKey, same_key, at_net, is_link, has_net, floor_stored, floor_of_sender}
use Rattle.law_run.proofs.Basics.{find-map, same_key-eq, same_key-refl}
use Rattle.law_run.proofs.Counters.{found-key, none-some}
use Rattle.law_run.proofs.FloorRows.{Sorted}
use Rattle.law_run.proofs.FreshLines.{all-map}
use Rattle.law_run.proofs.Nets.{at_key}
use Rattle.law_run_counters.proofs.Started.{key-cond}

-- ---- network rows

abbrev pub row_at : Bytes → List NetKey → Option NetKey
row_at key nets = find (at_key key) nets

changed_at : (f : NetKey → NetKey) → ((r : NetKey) → (f r).key ≡ r.key) → (a key : Bytes) (nets : List NetKey)
    → row_at key (at_net a f nets) ≡ option_map (λ r. cond (same_key r.key a) (f r) r) (row_at key nets)
changed_at f same a key nets = find-map (at_key key) (λ r. cond (same_key r.key a) (f r) r)
    (λ r. ap (λ x. same_key x key) (key-cond f same (same_key r.key a) r)) nets

-- the row of the key that changes
pub own_row : (f : NetKey → NetKey) → ((r : NetKey) → (f r).key ≡ r.key) → (key : Bytes) (nets : List NetKey)
    → row_at key (at_net key f nets) ≡ option_map f (row_at key nets)
own_row f same key nets = changed_at f same key key nets ∙ by_row (row_at key nets) refl
  where
    by_row : (o : Option NetKey) → row_at key nets ≡ o → option_map (λ r. cond (same_key r.key key) (f r) r) o
        ≡ option_map f o
    by_row None e = refl
    by_row (Some r) e = ap (λ b. Some (cond b (f r) r)) (found-key key nets r e)

-- the row of another
pub other_row : (f : NetKey → NetKey) → ((r : NetKey) → (f r).key ≡ r.key) → (a key : Bytes) (nets : List NetKey)
    → same_key key a ≡ false → row_at key (at_net a f nets) ≡ row_at key nets
other_row f same a key nets other = changed_at f same a key nets ∙ by_row (row_at key nets) refl
  where
    by_row : (o : Option NetKey) → row_at key nets ≡ o → option_map (λ r. cond (same_key r.key a) (f r) r) o ≡ o
    by_row None e = refl
    by_row (Some r) e =
        ap (λ b. Some (cond b (f r) r))
        (ap (λ k. same_key k a) (same_key-eq r.key key (found-key key nets r e)) ∙ other)

pub has_row : (key : Bytes) (nets : List NetKey) → row_at key nets ≡ None → has_net key nets ≡ false
has_row key [] e = refl
has_row key (r ∷ rs) e = by_test (same_key r.key key) e (has_row key rs)
  where
    by_test : (b : Bool) → cond b (Some r) (row_at key rs) ≡ None → (row_at key rs ≡ None → has_net key rs ≡ false)
        → (b || has_net key rs) ≡ false
    by_test true e k = absurd (none-some r (sym e))
    by_test false e k = k e

-- one more row
pub new_row_other : (x : NetKey) (key : Bytes) (nets : List NetKey) → same_key x.key key ≡ false
    → row_at key (nets ++ x ∷ []) ≡ row_at key nets
new_row_other x key [] other = ap (λ b. cond b (Some x) None) other
new_row_other x key (r ∷ rs) other = ap (λ o. cond (same_key r.key key) (Some r) o) (new_row_other x key rs other)

pub new_row_own : (x : NetKey) (nets : List NetKey) → has_net x.key nets ≡ false → row_at x.key (nets ++ x ∷ [])
    ≡ Some x
new_row_own x [] none = ap (λ b. cond b (Some x) None) (same_key-refl x.key)
new_row_own x (r ∷ rs) none = by_test (same_key r.key x.key) none (new_row_own x rs)
  where
    by_test : (b : Bool) → (b || has_net x.key rs) ≡ false
        → (has_net x.key rs ≡ false → row_at x.key (rs ++ x ∷ []) ≡ Some x)
        → cond b (Some r) (row_at x.key (rs ++ x ∷ [])) ≡ Some x
    by_test true none k = absurd (false≢true (sym none))
    by_test false none k = k none

pub absent_row : (key : Bytes) (nets : List NetKey) → has_net key nets ≡ false → row_at key nets ≡ None
absent_row key [] e = refl
absent_row key (r ∷ rs) e = by_test (same_key r.key key) e (absent_row key rs)
  where
    by_test : (b : Bool) → (b || has_net key rs) ≡ false → (has_net key rs ≡ false → row_at key rs ≡ None)
        → cond b (Some r) (row_at key rs) ≡ None
    by_test true e k = absurd (false≢true (sym e))
    by_test false e k = k e

pub there_row : (key : Bytes) (nets : List NetKey) → has_net key nets ≡ true → row_at key nets ≡ None → ⊥
there_row key nets there none = false≢true (sym (has_row key nets none) ∙ there)

-- ---- the floors of a row

abbrev of_sender : ℕ → SenderFloor → Bool
of_sender sender f = nat_eq f.sender sender

abbrev pub stored_of : ℕ → List SenderFloor → ℕ
stored_of sender fs = (floor_of_sender sender (find (of_sender sender) fs)).stored

-- a stored floor is that of its sender, and no other sender's changes
abbrev Places : ℕ → ℕ → ℕ → List SenderFloor → Type 0
Places sender value of fs = stored_of of (floor_stored sender value fs)
    ≡ cond (nat_eq sender of) (max (stored_of of fs) value) (stored_of of fs)

-- senders ascend, so a sender below the first one has no floor
above_none : (of : ℕ) (fs : List SenderFloor) → AllByRecursion (λ (g : SenderFloor). of < g.sender) fs
    → find (of_sender of) fs ≡ None
above_none of [] a = refl
above_none of (g ∷ gs) a = by_test (nat_eq g.sender of) refl (above_none of gs a.1)
  where
    by_test : (b : Bool) → nat_eq g.sender of ≡ b → find (of_sender of) gs ≡ None
        → cond b (Some g) (find (of_sender of) gs) ≡ None
    by_test true e more = absurd (lt_irrefl of (omega (arith, a.0, eqb-true g.sender of e)))
    by_test false e more = more

pub above_from : (sender : ℕ) (f : SenderFloor) (fs : List SenderFloor) → sender < f.sender
    → AllByRecursion (λ (g : SenderFloor). f.sender < g.sender) fs → find (of_sender sender) (f ∷ fs) ≡ None
above_from sender f fs lt sorted =
    above_none sender (f ∷ fs) (
      lt,
      all-map (λ (g : SenderFloor). f.sender < g.sender) (λ (g : SenderFloor). sender < g.sender)
          (λ g p. lt_trans lt p) fs sorted,
    )

pub placed : (sender value of : ℕ) (fs : List SenderFloor) → Sorted fs → Places sender value of fs
unfolding Sorted
placed sender value of [] s = by_test (nat_eq sender of)
  where
    by_test : (b : Bool)
        → (floor_of_sender of (cond b (Some (record { sender = sender; kept = 0; stored = value })) None)).stored
        ≡ cond b (max 0 value) 0
    by_test true = omega arith
    by_test false = refl
placed sender value of (f ∷ fs) s = by_tests (nat_lt sender f.sender) refl (nat_eq sender f.sender) refl
    (placed sender value of fs s.1)
  where
    new : SenderFloor
    new = record { sender = sender; kept = 0; stored = value }

    raised : SenderFloor
    raised = record f { stored = max f.stored value }

    found : ℕ
    found = stored_of of (f ∷ fs)

    before : sender < f.sender → (b : Bool) → nat_eq sender of ≡ b
        → (floor_of_sender of (cond b (Some new) (find (of_sender of) (f ∷ fs)))).stored
        ≡ cond b (max found value) found
    before lt true e =
        let gone : find (of_sender of) (f ∷ fs) ≡ None =
        subst (λ m. find (of_sender m) (f ∷ fs) ≡ None) (eqb-true sender of e) (above_from sender f fs lt s.0) in
        let zero_is : found ≡ 0 = ap (λ o. (floor_of_sender of o).stored) gone in
        omega (arith, zero_is)
    before lt false e = refl

    here : (b d : Bool) → nat_eq f.sender of ≡ b → nat_eq sender of ≡ d → sender ≡ f.sender
        → (floor_of_sender of (cond b (Some raised) (find (of_sender of) fs))).stored
        ≡ cond d (max (floor_of_sender of (cond b (Some f) (find (of_sender of) fs))).stored value)
        (floor_of_sender of (cond b (Some f) (find (of_sender of) fs))).stored
    here true true e g same = refl
    here true false e g same = absurd (false≢true (sym g ∙ ap (λ k. nat_eq k of) same ∙ e))
    here false true e g same = absurd (false≢true (sym e ∙ ap (λ k. nat_eq k of) (sym same) ∙ g))
    here false false e g same = refl

    later : (b d : Bool) → nat_eq f.sender of ≡ b → nat_eq sender of ≡ d → nat_eq sender f.sender ≡ false
        → Places sender value of fs
        → (floor_of_sender of (cond b (Some f) (find (of_sender of) (floor_stored sender value fs)))).stored
        ≡ cond d (max (floor_of_sender of (cond b (Some f) (find (of_sender of) fs))).stored value)
        (floor_of_sender of (cond b (Some f) (find (of_sender of) fs))).stored
    later true true e g apart more =
        absurd (false≢true (sym apart ∙ eq-eqb sender f.sender (eqb-true sender of g ∙ sym (eqb-true f.sender of e))))
    later true false e g apart more = refl
    later false d e g apart more = more ∙ ap (λ b. cond b (max (stored_of of fs) value) (stored_of of fs)) g

    by_tests : (b : Bool) → nat_lt sender f.sender ≡ b → (d : Bool) → nat_eq sender f.sender ≡ d
        → Places sender value of fs
        → stored_of of (cond b (new ∷ f ∷ fs) (cond d (raised ∷ fs) (f ∷ floor_stored sender value fs)))
        ≡ cond (nat_eq sender of) (max found value) found
    by_tests true e d g more = before (ltb-true sender f.sender e) (nat_eq sender of) refl
    by_tests false e true g more = here (nat_eq f.sender of) (nat_eq sender of) refl refl (eqb-true sender f.sender g)
    by_tests false e false g more = later (nat_eq f.sender of) (nat_eq sender of) refl refl g more

-- ---- link rows

abbrev pub link_at : ℕ → Bytes → List LinkKey → Option LinkKey
link_at partner key links = find (is_link partner key) links

pub record KeepsLink (f : LinkKey → LinkKey) : Type 0 where
  pub partner : (r : LinkKey) → (f r).partner ≡ r.partner
  pub key : (r : LinkKey) → (f r).key ≡ r.key

pub link_same : (f : LinkKey → LinkKey) → KeepsLink f → (p : ℕ) (k : Bytes) (r : LinkKey) → is_link p k (f r)
    ≡ is_link p k r
link_same f same p k r = ap (λ x. nat_eq x p && same_key (f r).key k) (same.partner r) ∙ ap
    (λ x. nat_eq r.partner p && same_key x k) (same.key r)

pub found_link : (p : ℕ) (k : Bytes) (links : List LinkKey) (r : LinkKey) → link_at p k links ≡ Some r → is_link p k r
    ≡ true
found_link p k links r e = subst (IsThere p k) e (all links)
  where
    IsThere : ℕ → Bytes → Option LinkKey → Type 0
    IsThere p k None = Unit {0}
    IsThere p k (Some x) = is_link p k x ≡ true

    all : (xs : List LinkKey) → IsThere p k (link_at p k xs)
    all [] = tt
    all (x ∷ xs) = by_test (is_link p k x) refl (all xs)
      where
        by_test : (b : Bool) → is_link p k x ≡ b → IsThere p k (link_at p k xs)
            → IsThere p k (cond b (Some x) (link_at p k xs))
        by_test true e more = e
        by_test false e more = more
