-- A confirmed key is stored: the state that the audit keeps for a link row of the centre agrees with the lines
-- before.
use Rattle.std.proofs.Common.{◌≡◌, ℕ, Bool, true, false, ◌&&◌, List, [], ◌∷◌, ◌++◌, append_assoc, refl, ap, sym, subst, ◌∙◌, bytes_eq, nat_eq, eqb-true, eq-eqb, if◌then◌else◌}
use Rattle.std.specs.Prelude.{⊤}
use Rattle.std.proofs.lemmas.Bool.{and_from, and_parts}
use Rattle.std.proofs.lemmas.List.{append-nil}
use Rattle.std.proofs.lemmas.Slice.Eq.{bytes_eq-Decides}
use Rattle.arrayvec.specs.ArrayString.{ArrayString}
use Rattle.zb_audit.specs.Claims.{Commits, Each, IsOfCentre, StoredVerified, Unsettles, Verifies}
use Rattle.zb_audit.specs.Confirming.{Absent, Kept, Made, RowState, committed, is_row, made, row_becomes, row_from, row_in, with_attribute}
use Rattle.zb_audit.proofs.ConfirmedKeys.{row_more}
use Rattle.zb_audit_names.specs.Naming.{declared_in, is_centres}
use Rattle.zb_base.specs.declared.address.Eui.{Eui}
use Rattle.zb_base.specs.declared.key.Key.{Key}
use Rattle.zb_base.specs.declared.state.Attribute.{Attribute}
use Rattle.zb_base.specs.declared.state.Attribute.TheVariants as attribute
use Rattle.zb_model.specs.Data.{Bytes, Station}
use Rattle.zb_trace.specs.declared.line.Line.{Line}
use Rattle.zb_trace.specs.declared.line.Line.TheVariants as line

-- A line that neither changes a link row nor commits.
pub record IsQuiet (l : Line) : Type 0 where
  pub stays : (d : ℕ) (b : Bytes) (known : List Station) (s : RowState) → row_becomes d b known s l ≡ s
  pub settled : (d : ℕ) (b : Bytes) (h : List Line) → Unsettles d b h l → ⊥
  pub no_row : (d : ℕ) (b : Bytes) (h : List Line) → Verifies d b h l → ⊥
  pub no_commit : (h : List Line) → Commits h l → ⊥

-- The kinds of lines that the third claim distinguishes.
module _ (P : Line → Type 0)
    (row : (e : ℕ) (n : ArrayString) (p : Eui) (k : Key) (a : Attribute) → P (line.Row e n p k a))
    (drop : (e : ℕ) (n : ArrayString) (p : Eui) (k : Key) → P (line.DropLink e n p k))
    (commit : (e : ℕ) (n : ArrayString) → P (line.Commit e n)) (quiet : (l : Line) → IsQuiet l → P l) where
  by_kind : (l : Line) → P l
  by_kind (line.Node x0 x1 x2 x3 x4 x5) =
      quiet (line.Node x0 x1 x2 x3 x4 x5)
      (record { stays = λ d b known s. refl; settled = λ d b h u. u; no_row = λ d b h u. u; no_commit = λ h u. u })
  by_kind (line.GivenNet x0 x1 x2) =
      quiet (line.GivenNet x0 x1 x2)
      (record { stays = λ d b known s. refl; settled = λ d b h u. u; no_row = λ d b h u. u; no_commit = λ h u. u })
  by_kind (line.GivenLink x0 x1 x2) =
      quiet (line.GivenLink x0 x1 x2)
      (record { stays = λ d b known s. refl; settled = λ d b h u. u; no_row = λ d b h u. u; no_commit = λ h u. u })
  by_kind (line.Counter x0 x1 x2) =
      quiet (line.Counter x0 x1 x2)
      (record { stays = λ d b known s. refl; settled = λ d b h u. u; no_row = λ d b h u. u; no_commit = λ h u. u })
  by_kind (line.Reserve x0 x1 x2 x3) =
      quiet (line.Reserve x0 x1 x2 x3)
      (record { stays = λ d b known s. refl; settled = λ d b h u. u; no_row = λ d b h u. u; no_commit = λ h u. u })
  by_kind (line.Floor x0 x1 x2 x3 x4 x5) =
      quiet (line.Floor x0 x1 x2 x3 x4 x5)
      (record { stays = λ d b known s. refl; settled = λ d b h u. u; no_row = λ d b h u. u; no_commit = λ h u. u })
  by_kind (line.Draw x0 x1) =
      quiet (line.Draw x0 x1)
      (record { stays = λ d b known s. refl; settled = λ d b h u. u; no_row = λ d b h u. u; no_commit = λ h u. u })
  by_kind (line.DropNet x0 x1 x2) =
      quiet (line.DropNet x0 x1 x2)
      (record { stays = λ d b known s. refl; settled = λ d b h u. u; no_row = λ d b h u. u; no_commit = λ h u. u })
  by_kind (line.DropLink x0 x1 x2 x3) = drop x0 x1 x2 x3
  by_kind (line.Install x0 x1 x2 x3) =
      quiet (line.Install x0 x1 x2 x3)
      (record { stays = λ d b known s. refl; settled = λ d b h u. u; no_row = λ d b h u. u; no_commit = λ h u. u })
  by_kind (line.Active x0 x1 x2) =
      quiet (line.Active x0 x1 x2)
      (record { stays = λ d b known s. refl; settled = λ d b h u. u; no_row = λ d b h u. u; no_commit = λ h u. u })
  by_kind (line.Start x0 x1 x2 x3) =
      quiet (line.Start x0 x1 x2 x3)
      (record { stays = λ d b known s. refl; settled = λ d b h u. u; no_row = λ d b h u. u; no_commit = λ h u. u })
  by_kind (line.Row x0 x1 x2 x3 x4) = row x0 x1 x2 x3 x4
  by_kind (line.Pair x0 x1 x2 x3 x4) =
      quiet (line.Pair x0 x1 x2 x3 x4)
      (record { stays = λ d b known s. refl; settled = λ d b h u. u; no_row = λ d b h u. u; no_commit = λ h u. u })
  by_kind (line.State x0 x1 x2) =
      quiet (line.State x0 x1 x2)
      (record { stays = λ d b known s. refl; settled = λ d b h u. u; no_row = λ d b h u. u; no_commit = λ h u. u })
  by_kind (line.Live x0 x1) =
      quiet (line.Live x0 x1)
      (record { stays = λ d b known s. refl; settled = λ d b h u. u; no_row = λ d b h u. u; no_commit = λ h u. u })
  by_kind (line.Removed x0 x1) =
      quiet (line.Removed x0 x1)
      (record { stays = λ d b known s. refl; settled = λ d b h u. u; no_row = λ d b h u. u; no_commit = λ h u. u })
  by_kind (line.Roll x0 x1 x2) =
      quiet (line.Roll x0 x1 x2)
      (record { stays = λ d b known s. refl; settled = λ d b h u. u; no_row = λ d b h u. u; no_commit = λ h u. u })
  by_kind (line.Told x0 x1) =
      quiet (line.Told x0 x1)
      (record { stays = λ d b known s. refl; settled = λ d b h u. u; no_row = λ d b h u. u; no_commit = λ h u. u })
  by_kind (line.Untold x0 x1) =
      quiet (line.Untold x0 x1)
      (record { stays = λ d b known s. refl; settled = λ d b h u. u; no_row = λ d b h u. u; no_commit = λ h u. u })
  by_kind (line.Commit x0 x1) = commit x0 x1
  by_kind (line.Accept x0 x1 x2) =
      quiet (line.Accept x0 x1 x2)
      (record { stays = λ d b known s. refl; settled = λ d b h u. u; no_row = λ d b h u. u; no_commit = λ h u. u })
  by_kind (line.Refuse x0 x1 x2) =
      quiet (line.Refuse x0 x1 x2)
      (record { stays = λ d b known s. refl; settled = λ d b h u. u; no_row = λ d b h u. u; no_commit = λ h u. u })
  by_kind (line.Seal x0 x1 x2) =
      quiet (line.Seal x0 x1 x2)
      (record { stays = λ d b known s. refl; settled = λ d b h u. u; no_row = λ d b h u. u; no_commit = λ h u. u })
  by_kind (line.Forge x0 x1) =
      quiet (line.Forge x0 x1)
      (record { stays = λ d b known s. refl; settled = λ d b h u. u; no_row = λ d b h u. u; no_commit = λ h u. u })
  by_kind (line.Send x0 x1 x2 x3) =
      quiet (line.Send x0 x1 x2 x3)
      (record { stays = λ d b known s. refl; settled = λ d b h u. u; no_row = λ d b h u. u; no_commit = λ h u. u })
  by_kind (line.Inject x0 x1 x2) =
      quiet (line.Inject x0 x1 x2)
      (record { stays = λ d b known s. refl; settled = λ d b h u. u; no_row = λ d b h u. u; no_commit = λ h u. u })
  by_kind (line.Stopped x0 x1) =
      quiet (line.Stopped x0 x1)
      (record { stays = λ d b known s. refl; settled = λ d b h u. u; no_row = λ d b h u. u; no_commit = λ h u. u })
  by_kind (line.DownReset x0 x1) =
      quiet (line.DownReset x0 x1)
      (record { stays = λ d b known s. refl; settled = λ d b h u. u; no_row = λ d b h u. u; no_commit = λ h u. u })
  by_kind (line.DownDisk x0 x1) =
      quiet (line.DownDisk x0 x1)
      (record { stays = λ d b known s. refl; settled = λ d b h u. u; no_row = λ d b h u. u; no_commit = λ h u. u })
  by_kind (line.Boot x0 x1) =
      quiet (line.Boot x0 x1)
      (record { stays = λ d b known s. refl; settled = λ d b h u. u; no_row = λ d b h u. u; no_commit = λ h u. u })
  by_kind (line.Dump x0 x1 x2) =
      quiet (line.Dump x0 x1 x2)
      (record { stays = λ d b known s. refl; settled = λ d b h u. u; no_row = λ d b h u. u; no_commit = λ h u. u })
  by_kind (line.End x0 x1 x2 x3 x4 x5) =
      quiet (line.End x0 x1 x2 x3 x4 x5)
      (record { stays = λ d b known s. refl; settled = λ d b h u. u; no_row = λ d b h u. u; no_commit = λ h u. u })

-- ---- Claims on each line

abbrev Settled : ℕ → Bytes → List Line → Line → Type 0
Settled d b h l = Unsettles d b h l → ⊥

module _ (P : List Line → Line → Type 0) where
  each_more : (h ls : List Line) (l : Line) → Each P h ls → P (h ++ ls) l → Each P h (ls ++ l ∷ [])
  each_more h [] l all one = (subst (λ g. P g l) (append-nil h) one, tt)
  each_more h (x ∷ ls) l all one =
      (all.0, each_more (h ++ x ∷ []) ls l all.1 (subst (λ g. P g l) (sym (append_assoc h (x ∷ []) ls)) one))

  each_left : (h xs ys : List Line) → Each P h (xs ++ ys) → Each P h xs
  each_left h [] ys all = tt
  each_left h (x ∷ xs) ys all = (all.0, each_left (h ++ x ∷ []) xs ys all.1)

  each_right : (h xs ys : List Line) → Each P h (xs ++ ys) → Each P (h ++ xs) ys
  each_right h [] ys all = subst (λ g. Each P g ys) (sym (append-nil h)) all
  each_right h (x ∷ xs) ys all = subst (λ g. Each P g ys) (append_assoc h (x ∷ []) xs)
      (each_right (h ++ x ∷ []) xs ys all.1)

-- ---- The row of a line

pub record IsThat (d : ℕ) (b : Bytes) (h : List Line) (name : Bytes) (p : ℕ) (k : Bytes) : Type 0 where
  pub centre : IsOfCentre h name
  pub partner_is : p ≡ d
  pub key_is : k ≡ b

that_from : (d : ℕ) (b : Bytes) (h : List Line) (name : Bytes) (p : ℕ) (k : Bytes)
    → (is_centres (declared_in h) name && is_row d b p k) ≡ true → IsThat d b h name p k
that_from d b h name p k e =
    let first = and_parts (is_centres (declared_in h) name) (is_row d b p k) e in
    let second = and_parts (nat_eq p d) (bytes_eq k b) first.1 in
    record { centre = first.0; partner_is = eqb-true p d second.0; key_is = (bytes_eq-Decides k b).0 second.1 }

that_true : (d : ℕ) (b : Bytes) (h : List Line) (name : Bytes) (p : ℕ) (k : Bytes) → IsThat d b h name p k
    → (is_centres (declared_in h) name && is_row d b p k) ≡ true
that_true d b h name p k that =
    and_from (is_centres (declared_in h) name) (is_row d b p k) that.centre
    (and_from (nat_eq p d) (bytes_eq k b) (eq-eqb p d that.partner_is) ((bytes_eq-Decides k b).1 that.key_is))

not_that : (d : ℕ) (b : Bytes) (h : List Line) (name : Bytes) (p : ℕ) (k : Bytes)
    → (is_centres (declared_in h) name && is_row d b p k) ≡ false → IsThat d b h name p k → ⊥
not_that d b h name p k e that = two (sym (that_true d b h name p k that) ∙ e)
  where
    two : true ≡ false → ⊥
    two e = cc

-- ---- What the automaton says is true

-- The centre made the row verified, and nothing has unsettled it since.
pub record IsVerified (h : List Line) (d : ℕ) (b : Bytes) : Type 0 where
  pub before : List Line
  pub row : Line
  pub later : List Line
  pub shape : h ≡ before ++ row ∷ later
  pub verified : Verifies d b before row
  pub settled : Each (λ g l. Unsettles d b g l → ⊥) (before ++ row ∷ []) later

abbrev IsSo : List Line → ℕ → Bytes → RowState → Type 0
IsSo h d b Absent = ⊤
IsSo h d b Made = IsVerified h d b
IsSo h d b Kept = StoredVerified h d b

verified_now : (h : List Line) (l : Line) (d : ℕ) (b : Bytes) → Verifies d b h l → IsVerified (h ++ l ∷ []) d b
verified_now h l d b it = record { before = h; row = l; later = []; shape = refl; verified = it; settled = tt }

still_verified : (h : List Line) (l : Line) (d : ℕ) (b : Bytes) → Settled d b h l → IsVerified h d b
    → IsVerified (h ++ l ∷ []) d b
still_verified h l d b quiet v =
    let behind : h ≡ (v.before ++ v.row ∷ []) ++ v.later = v.shape ∙ sym (append_assoc v.before (v.row ∷ []) v.later)
    in
    record {
      before = v.before;
      row = v.row;
      later = v.later ++ l ∷ [];
      shape = ap (λ x. x ++ l ∷ []) v.shape ∙ append_assoc v.before (v.row ∷ v.later) (l ∷ []);
      verified = v.verified;
      settled = each_more (Settled d b) (v.before ++ v.row ∷ []) v.later l v.settled
          (subst (λ g. Settled d b g l) behind quiet);
    }

stored_now : (h : List Line) (l : Line) (d : ℕ) (b : Bytes) → Settled d b h l → Commits h l → IsVerified h d b
    → StoredVerified (h ++ l ∷ []) d b
stored_now h l d b quiet commits v =
    let behind : h ≡ (v.before ++ v.row ∷ []) ++ v.later = v.shape ∙ sym (append_assoc v.before (v.row ∷ []) v.later)
    in
    record {
      before = v.before;
      row = v.row;
      between = v.later;
      commit = l;
      later = [];
      shape = ap (λ x. x ++ l ∷ []) v.shape;
      verified = v.verified;
      stored = subst (λ g. Commits g l) v.shape commits;
      settled = each_more (Settled d b) (v.before ++ v.row ∷ []) v.later l v.settled
          (subst (λ g. Settled d b g l) behind quiet);
    }

still_stored : (h : List Line) (l : Line) (d : ℕ) (b : Bytes) → Settled d b h l → StoredVerified h d b
    → StoredVerified (h ++ l ∷ []) d b
still_stored h l d b quiet v =
    let rest : List Line = v.commit ∷ v.later in
    let behind : h ≡ (v.before ++ v.row ∷ []) ++ (v.between ++ rest) =
    v.shape ∙ append_assoc v.before (v.row ∷ v.between) rest ∙ sym
    (append_assoc v.before (v.row ∷ []) (v.between ++ rest)) in
    record {
      before = v.before;
      row = v.row;
      between = v.between;
      commit = v.commit;
      later = v.later ++ l ∷ [];
      shape = ap (λ x. x ++ l ∷ []) v.shape ∙ append_assoc (v.before ++ v.row ∷ v.between) rest (l ∷ []);
      verified = v.verified;
      stored = v.stored;
      settled =
          subst (λ ls. Each (Settled d b) (v.before ++ v.row ∷ []) ls) (append_assoc v.between rest (l ∷ []))
          (each_more (Settled d b) (v.before ++ v.row ∷ []) (v.between ++ rest) l v.settled
          (subst (λ g. Settled d b g l) behind quiet));
    }

still_so : (h : List Line) (l : Line) (d : ℕ) (b : Bytes) (s : RowState) → Settled d b h l → IsSo h d b s
    → IsSo (h ++ l ∷ []) d b s
still_so h l d b Absent quiet so = tt
still_so h l d b Made quiet so = still_verified h l d b quiet so
still_so h l d b Kept quiet so = still_stored h l d b quiet so

-- One line more.

row_so : (h : List Line) (e : ℕ) (n : ArrayString) (p : Eui) (k : Key) (a : Attribute) (d : ℕ) (b : Bytes)
    (s : RowState) → IsSo h d b s
    → IsSo (h ++ line.Row e n p k a ∷ []) d b (row_becomes d b (declared_in h) s (line.Row e n p k a))
row_so h e n p k a d b s so = by_test (is_centres (declared_in h) n.bytes && is_row d b p.0 k.0) refl a s so
  where
    by_test : (test : Bool) → (is_centres (declared_in h) n.bytes && is_row d b p.0 k.0) ≡ test
        → (x : Attribute) (r : RowState) → IsSo h d b r
        → IsSo (h ++ line.Row e n p k x ∷ []) d b (if test then with_attribute x r else r)
    by_test true is attribute.Verified Absent held = let that = that_from d b h n.bytes p.0 k.0 is in verified_now h
        (line.Row e n p k attribute.Verified) d b (that.centre, that.partner_is, that.key_is, refl)
    by_test true is attribute.Verified Made held = still_verified h (line.Row e n p k attribute.Verified) d b
        (λ u. u.3 refl) held
    by_test true is attribute.Verified Kept held = still_stored h (line.Row e n p k attribute.Verified) d b
        (λ u. u.3 refl) held
    by_test true is attribute.Unverified r held = tt
    by_test true is attribute.Provisional r held = tt
    by_test false is x r held =
        still_so h (line.Row e n p k x) d b r
        (λ u. not_that d b h n.bytes p.0 k.0 is (record { centre = u.0; partner_is = u.1; key_is = u.2 })) held

drop_so : (h : List Line) (e : ℕ) (n : ArrayString) (p : Eui) (k : Key) (d : ℕ) (b : Bytes) (s : RowState)
    → IsSo h d b s
    → IsSo (h ++ line.DropLink e n p k ∷ []) d b (row_becomes d b (declared_in h) s (line.DropLink e n p k))
drop_so h e n p k d b s so = by_test (is_centres (declared_in h) n.bytes && is_row d b p.0 k.0) refl
  where
    by_test : (test : Bool) → (is_centres (declared_in h) n.bytes && is_row d b p.0 k.0) ≡ test
        → IsSo (h ++ line.DropLink e n p k ∷ []) d b (if test then Absent else s)
    by_test true is = tt
    by_test false is = still_so h (line.DropLink e n p k) d b s
        (λ u. not_that d b h n.bytes p.0 k.0 is (record { centre = u.0; partner_is = u.1; key_is = u.2 })) so

commit_so : (h : List Line) (e : ℕ) (n : ArrayString) (d : ℕ) (b : Bytes) (s : RowState) → IsSo h d b s
    → IsSo (h ++ line.Commit e n ∷ []) d b (row_becomes d b (declared_in h) s (line.Commit e n))
commit_so h e n d b s so = by_test (is_centres (declared_in h) n.bytes) refl s so
  where
    by_test : (test : Bool) → is_centres (declared_in h) n.bytes ≡ test → (r : RowState) → IsSo h d b r
        → IsSo (h ++ line.Commit e n ∷ []) d b (if test then committed r else r)
    by_test true is Absent held = tt
    by_test true is Made held = stored_now h (line.Commit e n) d b (λ u. u) is held
    by_test true is Kept held = still_stored h (line.Commit e n) d b (λ u. u) held
    by_test false is r held = still_so h (line.Commit e n) d b r (λ u. u) held

abbrev Goes : List Line → ℕ → Bytes → RowState → Line → Type 0
Goes h d b s l = IsSo (h ++ l ∷ []) d b (row_becomes d b (declared_in h) s l)

line_so : (h : List Line) (d : ℕ) (b : Bytes) (s : RowState) → IsSo h d b s → (l : Line) → Goes h d b s l
line_so h d b s so =
    by_kind (Goes h d b s) (λ e n p k a. row_so h e n p k a d b s so) (λ e n p k. drop_so h e n p k d b s so)
    (λ e n. commit_so h e n d b s so)
    (λ l quiet. subst (IsSo (h ++ l ∷ []) d b) (sym (quiet.stays d b (declared_in h) s))
    (still_so h l d b s (quiet.settled d b h) so))

lines_so : (h ls : List Line) (d : ℕ) (b : Bytes) → IsSo h d b (row_in h d b)
    → IsSo (h ++ ls) d b (row_in (h ++ ls) d b)
lines_so h [] d b so = subst (λ g. IsSo g d b (row_in g d b)) (sym (append-nil h)) so
lines_so h (l ∷ ls) d b so =
    subst (λ g. IsSo g d b (row_in g d b)) (append_assoc h (l ∷ []) ls)
    (lines_so (h ++ l ∷ []) ls d b
    (subst (IsSo (h ++ l ∷ []) d b) (sym (row_more h l d b)) (line_so h d b (row_in h d b) so l)))

none_so : (d : ℕ) (b : Bytes) → IsSo [] d b (row_in [] d b)
unfolding row_in row_from
none_so d b = tt

-- If the automaton has a row as stored, the centre stored it.
pub stored_verified : (h : List Line) (d : ℕ) (b : Bytes) → row_in h d b ≡ Kept → StoredVerified h d b
stored_verified h d b e = subst (IsSo h d b) e (lines_so [] h d b (none_so d b))

-- ---- What is true the automaton says

-- What a settled row keeps: the centre makes it verified again, or commits.
pub record IsSteady (P : RowState → Type 0) : Type 0 where
  pub made_too : (s : RowState) → P s → P (made s)
  pub committed_too : (s : RowState) → P s → P (committed s)

module _ (P : RowState → Type 0) (steady : IsSteady P) where
  row_held : (h : List Line) (e : ℕ) (n : ArrayString) (p : Eui) (k : Key) (a : Attribute) (d : ℕ) (b : Bytes)
      (s : RowState) → Settled d b h (line.Row e n p k a) → P s
      → P (row_becomes d b (declared_in h) s (line.Row e n p k a))
  row_held h e n p k a d b s settled held = by_test (is_centres (declared_in h) n.bytes && is_row d b p.0 k.0) refl a
      settled
    where
      by_test : (test : Bool) → (is_centres (declared_in h) n.bytes && is_row d b p.0 k.0) ≡ test → (x : Attribute)
          → Settled d b h (line.Row e n p k x) → P (if test then with_attribute x s else s)
      by_test true is attribute.Verified calm = steady.made_too s held
      by_test true is attribute.Unverified calm = let that = that_from d b h n.bytes p.0 k.0 is in absurd
          (calm (that.centre, that.partner_is, that.key_is, λ q. cc))
      by_test true is attribute.Provisional calm = let that = that_from d b h n.bytes p.0 k.0 is in absurd
          (calm (that.centre, that.partner_is, that.key_is, λ q. cc))
      by_test false is x calm = held

  drop_held : (h : List Line) (e : ℕ) (n : ArrayString) (p : Eui) (k : Key) (d : ℕ) (b : Bytes) (s : RowState)
      → Settled d b h (line.DropLink e n p k) → P s
      → P (row_becomes d b (declared_in h) s (line.DropLink e n p k))
  drop_held h e n p k d b s settled held = by_test (is_centres (declared_in h) n.bytes && is_row d b p.0 k.0) refl
    where
      by_test : (test : Bool) → (is_centres (declared_in h) n.bytes && is_row d b p.0 k.0) ≡ test
          → P (if test then Absent else s)
      by_test true is = let that = that_from d b h n.bytes p.0 k.0 is in absurd
          (settled (that.centre, that.partner_is, that.key_is))
      by_test false is = held

  commit_held : (h : List Line) (e : ℕ) (n : ArrayString) (d : ℕ) (b : Bytes) (s : RowState) → P s
      → P (row_becomes d b (declared_in h) s (line.Commit e n))
  commit_held h e n d b s held = by_test (is_centres (declared_in h) n.bytes)
    where
      by_test : (test : Bool) → P (if test then committed s else s)
      by_test true = steady.committed_too s held
      by_test false = held

  line_held : (h : List Line) (d : ℕ) (b : Bytes) (s : RowState) → P s → (l : Line) → Settled d b h l
      → P (row_becomes d b (declared_in h) s l)
  line_held h d b s held =
      by_kind (λ l. Settled d b h l → P (row_becomes d b (declared_in h) s l))
      (λ e n p k a settled. row_held h e n p k a d b s settled held)
      (λ e n p k settled. drop_held h e n p k d b s settled held)
      (λ e n settled. commit_held h e n d b s held)
      (λ l quiet settled. subst P (sym (quiet.stays d b (declared_in h) s)) held)

  lines_held : (h ls : List Line) (d : ℕ) (b : Bytes) → Each (λ g l. Unsettles d b g l → ⊥) h ls → P (row_in h d b)
      → P (row_in (h ++ ls) d b)
  lines_held h [] d b settled held = subst (λ g. P (row_in g d b)) (sym (append-nil h)) held
  lines_held h (l ∷ ls) d b settled held =
      subst (λ g. P (row_in g d b)) (append_assoc h (l ∷ []) ls)
      (lines_held (h ++ l ∷ []) ls d b settled.1
      (subst P (sym (row_more h l d b)) (line_held h d b (row_in h d b) held l settled.0)))

abbrev IsThere : RowState → Type 0
IsThere Absent = ⊥
IsThere Made = ⊤
IsThere Kept = ⊤

abbrev IsKept : RowState → Type 0
IsKept s = s ≡ Kept

made_there : (s : RowState) → IsThere (made s)
made_there Absent = tt
made_there Made = tt
made_there Kept = tt

committed_there : (s : RowState) → IsThere s → IsThere (committed s)
committed_there Absent there = there
committed_there Made there = tt
committed_there Kept there = tt

steady_there : IsSteady IsThere
steady_there = record { made_too = λ s there. made_there s; committed_too = committed_there }

steady_kept : IsSteady IsKept
steady_kept = record { made_too = λ s kept. ap made kept; committed_too = λ s kept. ap committed kept }

there_kept : (s : RowState) → IsThere s → committed s ≡ Kept
there_kept Absent there = absurd there
there_kept Made there = refl
there_kept Kept there = refl

row_there : (h : List Line) (d : ℕ) (b : Bytes) (s : RowState) → (l : Line) → Verifies d b h l
    → IsThere (row_becomes d b (declared_in h) s l)
row_there h d b s =
    by_kind (λ l. Verifies d b h l → IsThere (row_becomes d b (declared_in h) s l)) row (λ e n p k it. absurd it)
    (λ e n it. absurd it) (λ l quiet it. absurd (quiet.no_row d b h it))
  where
    row : (e : ℕ) (n : ArrayString) (p : Eui) (k : Key) (a : Attribute) → Verifies d b h (line.Row e n p k a)
        → IsThere (row_becomes d b (declared_in h) s (line.Row e n p k a))
    row e n p k a it =
        subst (λ (test : Bool). IsThere (if test then with_attribute a s else s))
        (sym (that_true d b h n.bytes p.0 k.0 (record { centre = it.0; partner_is = it.1; key_is = it.2 })))
        (subst (λ (x : Attribute). IsThere (with_attribute x s)) (sym it.3) (made_there s))

commit_kept : (h : List Line) (d : ℕ) (b : Bytes) (s : RowState) → IsThere s → (l : Line) → Commits h l
    → row_becomes d b (declared_in h) s l ≡ Kept
commit_kept h d b s there =
    by_kind (λ l. Commits h l → row_becomes d b (declared_in h) s l ≡ Kept) (λ e n p k a it. absurd it)
    (λ e n p k it. absurd it) commit (λ l quiet it. absurd (quiet.no_commit h it))
  where
    commit : (e : ℕ) (n : ArrayString) → Commits h (line.Commit e n)
        → row_becomes d b (declared_in h) s (line.Commit e n) ≡ Kept
    commit e n it = ap (λ (test : Bool). if test then committed s else s) it ∙ there_kept s there

-- If the centre stored a row, the automaton has it as stored.
pub stored_kept : (h : List Line) (d : ℕ) (b : Bytes) → StoredVerified h d b → row_in h d b ≡ Kept
stored_kept h d b v =
    let P = Settled d b in
    let start : List Line = v.before ++ v.row ∷ [] in
    let rest : List Line = v.commit ∷ v.later in
    let front : start ++ v.between ≡ v.before ++ v.row ∷ v.between = append_assoc v.before (v.row ∷ []) v.between in
    let there : IsThere (row_in start d b) = subst IsThere (sym (row_more v.before v.row d b))
    (row_there v.before d b (row_in v.before d b) v.row v.verified) in
    let mid : IsThere (row_in (start ++ v.between) d b) = lines_held IsThere steady_there start v.between d b
    (each_left P start v.between rest v.settled) there in
    let commits : Commits (start ++ v.between) v.commit = subst (λ g. Commits g v.commit) (sym front) v.stored in
    let kept : row_in ((start ++ v.between) ++ v.commit ∷ []) d b ≡ Kept =
    row_more (start ++ v.between) v.commit d b ∙ commit_kept (start ++ v.between) d b
    (row_in (start ++ v.between) d b) mid v.commit commits in
    let later = (each_right P start v.between rest v.settled).1 in
    let whole : ((start ++ v.between) ++ v.commit ∷ []) ++ v.later ≡ h =
    append_assoc (start ++ v.between) (v.commit ∷ []) v.later ∙ (ap (λ x. x ++ rest) front ∙ sym v.shape) in
    subst (λ g. row_in g d b ≡ Kept) whole
    (lines_held IsKept steady_kept ((start ++ v.between) ++ v.commit ∷ []) v.later d b later kept)
