-- The centre's verified link rows, line by line.
use Rattle.std.proofs.Common.{◌≡◌, ℕ, ◌+◌, ◌<◌, ◌≤◌, Bool, true, false, ◌&&◌, List, [], ◌∷◌, ◌++◌, length, length-append, Option, Some, None, refl, ap, sym, subst, ◌∙◌, nat_eq, nat_lt, cond, arith, lt-ltb, ltb-true}
use Rattle.std.specs.BTreeMap.{BTreeMap, get, is_at}
use Rattle.std.specs.Option.{option_or, IfSome}
use Rattle.std.specs.Ordering.{is_eq}
use Rattle.std.specs.Prelude.{if◌then◌else◌, fold}
use Rattle.arrayvec.specs.ArrayString.{ArrayString}
use Rattle.zb_base.specs.declared.address.Eui.{Eui}
use Rattle.zb_base.specs.declared.key.Key.{Key}
use Rattle.zb_base.specs.declared.state.Attribute.{Attribute}
use Rattle.zb_base.specs.declared.state.Attribute.TheVariants as attribute
use Rattle.zb_seal.specs.declared.term.Term.{Term}
use Rattle.zb_trace.specs.declared.line.Line.{Line}
use Rattle.zb_trace.specs.declared.line.Line.TheVariants as line
use Rattle.zb_audit.specs.Confirming.{Absent, Kept, Made, RowState, committed, confirmed, is_confirmable, is_row, made, row_becomes, row_from, row_in, stands_for, with_attribute}
use Rattle.zb_audit.specs.Failing.{failing, failing_from}
use Rattle.zb_audit.specs.Standing.{AreConfirmed, row_cmp, row_state, stands_in, verified, verified_at}
use Rattle.zb_audit.specs.declared.confirming.Confirming.{Confirming}
use Rattle.zb_audit.specs.declared.confirming.LinkRow.{LinkRow}
use Rattle.zb_audit.proofs.Failing.{first_more, first_stays}
use Rattle.zb_audit.proofs.FreshNonces.{part}
use Rattle.zb_audit_names.specs.Naming.{declared_in, declares, is_centres}
use Rattle.zb_model.specs.Data.{Bytes, Station}
use Rattle.zb_trace_watch.proofs.Alike.{bytes_alike}
use Rattle.zb_trace_watch.proofs.Truth.{and_left, and_right, number_so, same_bytes, same_number}

row_alike : (a b : LinkRow) → is_eq (row_cmp a b) ≡ is_row b.partner.0 b.key.0 a.partner.0 a.key.0
row_alike a b = part _ _ _ _ (number_so a.partner.0 b.partner.0) (bytes_alike a.key.0 b.key.0)

same_row : (partner : Eui) (key : Key) (p : ℕ) (k : Bytes) → is_row p k partner.0 key.0 ≡ true
    → ◌≡◌ {A = LinkRow} (record { partner = partner; key = key })
    (record { partner = record { 0 = p }; key = record { 0 = k } })
same_row partner key p k same =
    let partners : partner.0 ≡ p = same_number partner.0 p (and_left _ _ same) in
    let keys : key.0 ≡ k = same_bytes key.0 k (and_right (nat_eq partner.0 p) _ same) in
    λ j. record { partner = record { 0 = partners j }; key = record { 0 = keys j } }

-- A row that is written, and one that is dropped.
pub row_written : (rows new : BTreeMap LinkRow ℕ) (partner : Eui) (key : Key) (number : ℕ) (centre : Bool) → centre
    ≡ true
    → get row_cmp rows (record { partner = partner; key = key }) ≡ None
    → ((q : LinkRow) → get row_cmp new q ≡ cond (is_at (row_cmp (record { partner = partner; key = key })) q)
    (Some number) (get row_cmp rows q))
    → (p : ℕ) (k : Bytes) → get row_cmp new (record { partner = record { 0 = p }; key = record { 0 = k } })
    ≡ (if centre && is_row p k partner.0 key.0
    then option_or (get row_cmp rows (record { partner = record { 0 = p }; key = record { 0 = k } })) (Some number)
    else get row_cmp rows (record { partner = record { 0 = p }; key = record { 0 = k } }))
row_written rows new partner key number centre is none updates p k =
    updates q
    ∙ (ap (λ (b : Bool). cond b (Some number) (get row_cmp rows q))
    (row_alike (record { partner = partner; key = key }) q)
    ∙ by centre (is_row p k partner.0 key.0) refl is)
  where
    q : LinkRow
    q = record { partner = record { 0 = p }; key = record { 0 = k } }

    by : (c b : Bool) → is_row p k partner.0 key.0 ≡ b → c ≡ true → cond b (Some number) (get row_cmp rows q)
        ≡ (if c && b then option_or (get row_cmp rows q) (Some number) else get row_cmp rows q)
    by true true e f =
        sym (ap (λ (o : Option ℕ). option_or o (Some number))
        (ap (get row_cmp rows) (sym (same_row partner key p k e)) ∙ none))
    by true false e f = refl
    by false b e f = cc

pub row_dropped : (rows new : BTreeMap LinkRow ℕ) (partner : Eui) (key : Key) (centre : Bool) → centre ≡ true
    → ((q : LinkRow) → get row_cmp new q ≡ cond (is_at (row_cmp (record { partner = partner; key = key })) q) None
    (get row_cmp rows q))
    → (p : ℕ) (k : Bytes) → get row_cmp new (record { partner = record { 0 = p }; key = record { 0 = k } })
    ≡ (if centre && is_row p k partner.0 key.0 then None
    else get row_cmp rows (record { partner = record { 0 = p }; key = record { 0 = k } }))
row_dropped rows new partner key centre is updates p k =
    updates q ∙
    (ap (λ (b : Bool). cond b None (get row_cmp rows q)) (row_alike (record { partner = partner; key = key }) q) ∙
    by centre (is_row p k partner.0 key.0) is)
  where
    q : LinkRow
    q = record { partner = record { 0 = p }; key = record { 0 = k } }

    by : (c b : Bool) → c ≡ true → cond b None (get row_cmp rows q) ≡ (if c && b then None else get row_cmp rows q)
    by true true e = refl
    by true false e = refl
    by false b e = cc

-- One more line

row_from_more : (p : ℕ) (k : Bytes) (known : List Station) (s : RowState) (h : List Line) (l : Line)
    → row_from p k known s (h ++ l ∷ []) ≡ row_becomes p k (fold declares known h) (row_from p k known s h) l
unfolding row_from
row_from_more p k known s [] l = refl
row_from_more p k known s (m ∷ h) l = row_from_more p k (declares known m) (row_becomes p k known s m) h l

pub row_more : (h : List Line) (l : Line) (p : ℕ) (k : Bytes) → row_in (h ++ l ∷ []) p k
    ≡ row_becomes p k (declared_in h) (row_in h p k) l
unfolding row_in declared_in
row_more h l p k = row_from_more p k [] Absent h l

pub none_confirmed : (rows : BTreeMap LinkRow ℕ) → rows.entries ≡ []
    → AreConfirmed (record { verified = rows; committed = 0; first = None }) []
unfolding failing failing_from row_in row_from
none_confirmed rows none = record {
  rows = λ p k. rw none refl;
  made = λ p k. rw none tt;
  committed = omega arith;
  first = refl;
}

longer : (h : List Line) (l : Line) → length (h ++ l ∷ []) ≡ length h + 1
longer h l = length-append h (l ∷ [])

within : (o : Option ℕ) (n m : ℕ) → n ≤ m → IfSome o (λ made. made ≤ n) → IfSome o (λ made. made ≤ m)
within None n m le some = tt
within (Some x) n m le some = omega arith

verified_stays : (number committed : ℕ) (a : Attribute) (o : Option ℕ) → committed < number
    → row_state committed (verified_at number a o) ≡ with_attribute a (row_state committed o)
verified_stays number committed attribute.Verified None less = ap (λ (b : Bool). if b then Kept else Made)
    (not_less (nat_lt number committed) refl)
  where
    not_less : (b : Bool) → nat_lt number committed ≡ b → nat_lt number committed ≡ false
    not_less true e = let it : number < committed = ltb-true number committed e in absurd (omega arith)
    not_less false e = e
verified_stays number committed attribute.Verified (Some m) less = by (nat_lt m committed)
  where
    by : (b : Bool) → (if b then Kept else Made) ≡ made (if b then Kept else Made)
    by true = refl
    by false = refl
verified_stays number committed attribute.Unverified o less = refl
verified_stays number committed attribute.Provisional o less = refl

verified_within : (number n : ℕ) (a : Attribute) (o : Option ℕ) → number ≡ n + 1 → IfSome o (λ made. made ≤ n)
    → IfSome (verified_at number a o) (λ made. made ≤ n + 1)
verified_within number n attribute.Verified None is some = omega arith
verified_within number n attribute.Verified (Some m) is some = omega arith
verified_within number n attribute.Unverified o is some = tt
verified_within number n attribute.Provisional o is some = tt

chosen : {A : Type 0} (P : A → Type 0) (b : Bool) (x y : A) → P x → P y → P (if b then x else y)
chosen P true x y p q = p
chosen P false x y p q = q

moved : (b : Bool) (f : Option ℕ → RowState) (x y : Option ℕ) → f (if b then x else y) ≡ (if b then f x else f y)
moved true f x y = refl
moved false f x y = refl

pub row_follows : (old new : Confirming) (h : List Line) (event : ℕ) (node : ArrayString) (partner : Eui) (key : Key)
    (a : Attribute) (number : ℕ) (centre : Bool)
    → ((p : ℕ) (k : Bytes) → verified new p k
    ≡ (if centre && is_row p k partner.0 key.0 then verified_at number a (verified old p k) else verified old p k))
    → new.committed ≡ old.committed → new.first ≡ old.first → number ≡ length h + 1 → centre
    ≡ is_centres (declared_in h) node.bytes → AreConfirmed old h
    → AreConfirmed new (h ++ line.Row event node partner key a ∷ [])
unfolding is_confirmable
row_follows old new h event node partner key a number centre rows commits first here is before =
    let l : Line = line.Row event node partner key a in
    let le : old.committed ≤ length h = before.committed in
    let less : old.committed < number = omega arith in
    record {
      rows = λ p k.
          ap (λ (n : ℕ). row_state n (verified new p k)) commits
          ∙ (ap (row_state old.committed) (rows p k)
          ∙ (moved (centre && is_row p k partner.0 key.0) (row_state old.committed)
          (verified_at number a (verified old p k)) (verified old p k)
          ∙ (ap (λ (s : RowState). if centre && is_row p k partner.0 key.0 then s
          else row_state old.committed (verified old p k))
          (verified_stays number old.committed a (verified old p k) less)
          ∙ (ap (λ (s : RowState). if centre && is_row p k partner.0 key.0 then with_attribute a s
          else s) (before.rows p k)
          ∙ (ap (λ (b : Bool). if b && is_row p k partner.0 key.0 then with_attribute a (row_in h p k)
          else row_in h p k) is ∙ sym (row_more h l p k))))));
      made = λ p k.
          subst (λ (n : ℕ). IfSome (verified new p k) (λ made. made ≤ n)) (sym (longer h l))
          (subst (λ (o : Option ℕ). IfSome o (λ made. made ≤ length h + 1)) (sym (rows p k))
          (chosen (λ (o : Option ℕ). IfSome o (λ made. made ≤ length h + 1)) (centre && is_row p k partner.0 key.0)
          (verified_at number a (verified old p k)) (verified old p k)
          (verified_within number (length h) a (verified old p k) here (before.made p k))
          (within (verified old p k) (length h) (length h + 1) (omega arith) (before.made p k))));
      committed = subst (λ (n : ℕ). new.committed ≤ n) (sym (longer h l))
          (subst (λ (n : ℕ). n ≤ length h + 1) (sym commits) (omega arith));
      first = first ∙ first_stays is_confirmable old.first h l refl before.first;
    }

pub drop_follows : (old new : Confirming) (h : List Line) (event : ℕ) (node : ArrayString) (partner : Eui) (key : Key)
    (centre : Bool)
    → ((p : ℕ) (k : Bytes) → verified new p k ≡ (if centre && is_row p k partner.0 key.0 then None
    else verified old p k))
    → new.committed ≡ old.committed → new.first ≡ old.first → centre ≡ is_centres (declared_in h) node.bytes
    → AreConfirmed old h → AreConfirmed new (h ++ line.DropLink event node partner key ∷ [])
unfolding is_confirmable
drop_follows old new h event node partner key centre rows commits first is before =
    let l : Line = line.DropLink event node partner key in
    let le : old.committed ≤ length h = before.committed in
    record {
      rows = λ p k.
          ap (λ (n : ℕ). row_state n (verified new p k)) commits
          ∙ (ap (row_state old.committed) (rows p k)
          ∙ (moved (centre && is_row p k partner.0 key.0) (row_state old.committed) None (verified old p k)
          ∙ (ap (λ (s : RowState). if centre && is_row p k partner.0 key.0 then Absent else s) (before.rows p k)
          ∙ (ap (λ (b : Bool). if b && is_row p k partner.0 key.0 then Absent else row_in h p k) is ∙ sym
          (row_more h l p k)))));
      made = λ p k.
          subst (λ (n : ℕ). IfSome (verified new p k) (λ made. made ≤ n)) (sym (longer h l))
          (subst (λ (o : Option ℕ). IfSome o (λ made. made ≤ length h + 1)) (sym (rows p k))
          (chosen (λ (o : Option ℕ). IfSome o (λ made. made ≤ length h + 1)) (centre && is_row p k partner.0 key.0)
          None (verified old p k)
          tt (within (verified old p k) (length h) (length h + 1) (omega arith) (before.made p k))));
      committed = subst (λ (n : ℕ). new.committed ≤ n) (sym (longer h l))
          (subst (λ (n : ℕ). n ≤ length h + 1) (sym commits) (omega arith));
      first = first ∙ first_stays is_confirmable old.first h l refl before.first;
    }

stored_now : (number before n : ℕ) (o : Option ℕ) → n < number → IfSome o (λ made. made ≤ n) → row_state number o
    ≡ committed (row_state before o)
stored_now number before n None less some = refl
stored_now number before n (Some m) less some = ap (λ (b : Bool). if b then Kept else Made)
    (lt-ltb m number (omega arith)) ∙ by (nat_lt m before)
  where
    by : (b : Bool) → Kept ≡ committed (if b then Kept else Made)
    by true = refl
    by false = refl

pub commit_follows : (old : Confirming) (h : List Line) (event : ℕ) (node : ArrayString) (number : ℕ) (centre : Bool)
    → number ≡ length h + 1 → centre ≡ is_centres (declared_in h) node.bytes
    → AreConfirmed old h → AreConfirmed (record old { committed = if centre then number else old.committed })
    (h ++ line.Commit event node ∷ [])
unfolding is_confirmable
commit_follows old h event node number centre here is before =
    let l : Line = line.Commit event node in
    let le : old.committed ≤ length h = before.committed in
    let less : length h < number = omega arith in
    record {
      rows = λ p k.
          at centre p k less
          ∙ (ap (λ (s : RowState). if centre then committed s else s) (before.rows p k)
          ∙ (ap (λ (b : Bool). if b then committed (row_in h p k) else row_in h p k) is ∙ sym (row_more h l p k)));
      made = λ p k. subst (λ (n : ℕ). IfSome (verified old p k) (λ made. made ≤ n)) (sym (longer h l))
          (within (verified old p k) (length h) (length h + 1) (omega arith) (before.made p k));
      committed =
          subst (λ (n : ℕ). (if centre then number else old.committed) ≤ n) (sym (longer h l))
          (chosen (λ (n : ℕ). n ≤ length h + 1) centre number old.committed (omega arith) (omega arith));
      first = first_stays is_confirmable old.first h l refl before.first;
    }
  where
    at : (b : Bool) (p : ℕ) (k : Bytes) → length h < number → row_state (if b then number else old.committed)
        (verified old p k) ≡ (if b then committed (row_state old.committed (verified old p k))
        else row_state old.committed (verified old p k))
    at true p k less = stored_now number old.committed (length h) (verified old p k) less (before.made p k)
    at false p k less = refl

stands_as : (c : Confirming) (h : List Line) (name base : Bytes) (centre : Bool) (o : Option Eui) → centre
    ≡ is_centres (declared_in h) name → AreConfirmed c h → stands_in c centre base o ≡ stands_for h name base o
stands_as c h name base centre None is before = refl
stands_as c h name base centre (Some device) is before = rw (is, before.rows device.0 base) refl

pub seal_follows : (old new : Confirming) (h : List Line) (event : ℕ) (node : ArrayString) (t : Term) (number : ℕ)
    (centre : Bool)
    → new.verified ≡ old.verified → new.committed ≡ old.committed → new.first
    ≡ option_or old.first (if stands_in old centre t.base.0 (confirmed t) then None else Some number)
    → number ≡ length h + 1 → centre ≡ is_centres (declared_in h) node.bytes → AreConfirmed old h
    → AreConfirmed new (h ++ line.Seal event node t ∷ [])
unfolding is_confirmable
seal_follows old new h event node t number centre rows commits first here is before =
    let l : Line = line.Seal event node t in
    let le : old.committed ≤ length h = before.committed in
    record {
      rows = λ p k.
          ap (λ (n : ℕ). row_state n (verified new p k)) commits
          ∙ (ap (λ (r : BTreeMap LinkRow ℕ). row_state old.committed
          (get row_cmp r (record { partner = record { 0 = p }; key = record { 0 = k } }))) rows ∙
          (before.rows p k ∙ sym (row_more h l p k)));
      made = λ p k.
          subst (λ (n : ℕ). IfSome (verified new p k) (λ made. made ≤ n)) (sym (longer h l))
          (subst (λ (r : BTreeMap LinkRow ℕ). IfSome
          (get row_cmp r (record { partner = record { 0 = p }; key = record { 0 = k } }))
          (λ made. made ≤ length h + 1)) (sym rows)
          (within (verified old p k) (length h) (length h + 1) (omega arith) (before.made p k)));
      committed = subst (λ (n : ℕ). new.committed ≤ n) (sym (longer h l))
          (subst (λ (n : ℕ). n ≤ length h + 1) (sym commits) (omega arith));
      first = first_more is_confirmable old.first new.first number (stands_in old centre t.base.0 (confirmed t)) h l
          first (stands_as old h node.bytes t.base.0 centre (confirmed t) is before) here before.first;
    }

pub row_stays : (l : Line)
    → ((x0 : ℕ) (x1 : ArrayString) (x2 : Eui) (x3 : Key) (x4 : Attribute) → l ≡ line.Row x0 x1 x2 x3 x4 → ⊥)
    → ((x0 : ℕ) (x1 : ArrayString) (x2 : Eui) (x3 : Key) → l ≡ line.DropLink x0 x1 x2 x3 → ⊥)
    → ((x0 : ℕ) (x1 : ArrayString) → l ≡ line.Commit x0 x1 → ⊥)
    → ((x0 : ℕ) (x1 : ArrayString) (x2 : Term) → l ≡ line.Seal x0 x1 x2 → ⊥)
    → (p : ℕ) (k : Bytes) (known : List Station) (s : RowState) → row_becomes p k known s l ≡ s
row_stays (line.Node x0 x1 x2 x3 x4 x5) no_row no_droplink no_commit no_seal p k known s = refl
row_stays (line.GivenNet x0 x1 x2) no_row no_droplink no_commit no_seal p k known s = refl
row_stays (line.GivenLink x0 x1 x2) no_row no_droplink no_commit no_seal p k known s = refl
row_stays (line.Counter x0 x1 x2) no_row no_droplink no_commit no_seal p k known s = refl
row_stays (line.Reserve x0 x1 x2 x3) no_row no_droplink no_commit no_seal p k known s = refl
row_stays (line.Floor x0 x1 x2 x3 x4 x5) no_row no_droplink no_commit no_seal p k known s = refl
row_stays (line.Draw x0 x1) no_row no_droplink no_commit no_seal p k known s = refl
row_stays (line.DropNet x0 x1 x2) no_row no_droplink no_commit no_seal p k known s = refl
row_stays (line.DropLink x0 x1 x2 x3) no_row no_droplink no_commit no_seal p k known s =
    absurd (no_droplink x0 x1 x2 x3 refl)
row_stays (line.Install x0 x1 x2 x3) no_row no_droplink no_commit no_seal p k known s = refl
row_stays (line.Active x0 x1 x2) no_row no_droplink no_commit no_seal p k known s = refl
row_stays (line.Start x0 x1 x2 x3) no_row no_droplink no_commit no_seal p k known s = refl
row_stays (line.Row x0 x1 x2 x3 x4) no_row no_droplink no_commit no_seal p k known s =
    absurd (no_row x0 x1 x2 x3 x4 refl)
row_stays (line.Pair x0 x1 x2 x3 x4) no_row no_droplink no_commit no_seal p k known s = refl
row_stays (line.State x0 x1 x2) no_row no_droplink no_commit no_seal p k known s = refl
row_stays (line.Live x0 x1) no_row no_droplink no_commit no_seal p k known s = refl
row_stays (line.Removed x0 x1) no_row no_droplink no_commit no_seal p k known s = refl
row_stays (line.Roll x0 x1 x2) no_row no_droplink no_commit no_seal p k known s = refl
row_stays (line.Told x0 x1) no_row no_droplink no_commit no_seal p k known s = refl
row_stays (line.Untold x0 x1) no_row no_droplink no_commit no_seal p k known s = refl
row_stays (line.Commit x0 x1) no_row no_droplink no_commit no_seal p k known s = absurd (no_commit x0 x1 refl)
row_stays (line.Accept x0 x1 x2) no_row no_droplink no_commit no_seal p k known s = refl
row_stays (line.Refuse x0 x1 x2) no_row no_droplink no_commit no_seal p k known s = refl
row_stays (line.Seal x0 x1 x2) no_row no_droplink no_commit no_seal p k known s = absurd (no_seal x0 x1 x2 refl)
row_stays (line.Forge x0 x1) no_row no_droplink no_commit no_seal p k known s = refl
row_stays (line.Send x0 x1 x2 x3) no_row no_droplink no_commit no_seal p k known s = refl
row_stays (line.Inject x0 x1 x2) no_row no_droplink no_commit no_seal p k known s = refl
row_stays (line.Stopped x0 x1) no_row no_droplink no_commit no_seal p k known s = refl
row_stays (line.DownReset x0 x1) no_row no_droplink no_commit no_seal p k known s = refl
row_stays (line.DownDisk x0 x1) no_row no_droplink no_commit no_seal p k known s = refl
row_stays (line.Boot x0 x1) no_row no_droplink no_commit no_seal p k known s = refl
row_stays (line.Dump x0 x1 x2) no_row no_droplink no_commit no_seal p k known s = refl
row_stays (line.End x0 x1 x2 x3 x4 x5) no_row no_droplink no_commit no_seal p k known s = refl

pub confirms_none : (h : List Line) (l : Line)
    → ((x0 : ℕ) (x1 : ArrayString) (x2 : Eui) (x3 : Key) (x4 : Attribute) → l ≡ line.Row x0 x1 x2 x3 x4 → ⊥)
    → ((x0 : ℕ) (x1 : ArrayString) (x2 : Eui) (x3 : Key) → l ≡ line.DropLink x0 x1 x2 x3 → ⊥)
    → ((x0 : ℕ) (x1 : ArrayString) → l ≡ line.Commit x0 x1 → ⊥)
    → ((x0 : ℕ) (x1 : ArrayString) (x2 : Term) → l ≡ line.Seal x0 x1 x2 → ⊥)
    → is_confirmable h l ≡ true
unfolding is_confirmable
confirms_none h (line.Node x0 x1 x2 x3 x4 x5) no_row no_droplink no_commit no_seal = refl
confirms_none h (line.GivenNet x0 x1 x2) no_row no_droplink no_commit no_seal = refl
confirms_none h (line.GivenLink x0 x1 x2) no_row no_droplink no_commit no_seal = refl
confirms_none h (line.Counter x0 x1 x2) no_row no_droplink no_commit no_seal = refl
confirms_none h (line.Reserve x0 x1 x2 x3) no_row no_droplink no_commit no_seal = refl
confirms_none h (line.Floor x0 x1 x2 x3 x4 x5) no_row no_droplink no_commit no_seal = refl
confirms_none h (line.Draw x0 x1) no_row no_droplink no_commit no_seal = refl
confirms_none h (line.DropNet x0 x1 x2) no_row no_droplink no_commit no_seal = refl
confirms_none h (line.DropLink x0 x1 x2 x3) no_row no_droplink no_commit no_seal =
    absurd (no_droplink x0 x1 x2 x3 refl)
confirms_none h (line.Install x0 x1 x2 x3) no_row no_droplink no_commit no_seal = refl
confirms_none h (line.Active x0 x1 x2) no_row no_droplink no_commit no_seal = refl
confirms_none h (line.Start x0 x1 x2 x3) no_row no_droplink no_commit no_seal = refl
confirms_none h (line.Row x0 x1 x2 x3 x4) no_row no_droplink no_commit no_seal = absurd (no_row x0 x1 x2 x3 x4 refl)
confirms_none h (line.Pair x0 x1 x2 x3 x4) no_row no_droplink no_commit no_seal = refl
confirms_none h (line.State x0 x1 x2) no_row no_droplink no_commit no_seal = refl
confirms_none h (line.Live x0 x1) no_row no_droplink no_commit no_seal = refl
confirms_none h (line.Removed x0 x1) no_row no_droplink no_commit no_seal = refl
confirms_none h (line.Roll x0 x1 x2) no_row no_droplink no_commit no_seal = refl
confirms_none h (line.Told x0 x1) no_row no_droplink no_commit no_seal = refl
confirms_none h (line.Untold x0 x1) no_row no_droplink no_commit no_seal = refl
confirms_none h (line.Commit x0 x1) no_row no_droplink no_commit no_seal = absurd (no_commit x0 x1 refl)
confirms_none h (line.Accept x0 x1 x2) no_row no_droplink no_commit no_seal = refl
confirms_none h (line.Refuse x0 x1 x2) no_row no_droplink no_commit no_seal = refl
confirms_none h (line.Seal x0 x1 x2) no_row no_droplink no_commit no_seal = absurd (no_seal x0 x1 x2 refl)
confirms_none h (line.Forge x0 x1) no_row no_droplink no_commit no_seal = refl
confirms_none h (line.Send x0 x1 x2 x3) no_row no_droplink no_commit no_seal = refl
confirms_none h (line.Inject x0 x1 x2) no_row no_droplink no_commit no_seal = refl
confirms_none h (line.Stopped x0 x1) no_row no_droplink no_commit no_seal = refl
confirms_none h (line.DownReset x0 x1) no_row no_droplink no_commit no_seal = refl
confirms_none h (line.DownDisk x0 x1) no_row no_droplink no_commit no_seal = refl
confirms_none h (line.Boot x0 x1) no_row no_droplink no_commit no_seal = refl
confirms_none h (line.Dump x0 x1 x2) no_row no_droplink no_commit no_seal = refl
confirms_none h (line.End x0 x1 x2 x3 x4 x5) no_row no_droplink no_commit no_seal = refl

pub quiet_follows : (c : Confirming) (h : List Line) (l : Line)
    → ((x0 : ℕ) (x1 : ArrayString) (x2 : Eui) (x3 : Key) (x4 : Attribute) → l ≡ line.Row x0 x1 x2 x3 x4 → ⊥)
    → ((x0 : ℕ) (x1 : ArrayString) (x2 : Eui) (x3 : Key) → l ≡ line.DropLink x0 x1 x2 x3 → ⊥)
    → ((x0 : ℕ) (x1 : ArrayString) → l ≡ line.Commit x0 x1 → ⊥)
    → ((x0 : ℕ) (x1 : ArrayString) (x2 : Term) → l ≡ line.Seal x0 x1 x2 → ⊥)
    → AreConfirmed c h → AreConfirmed c (h ++ l ∷ [])
quiet_follows c h l no_row no_drop no_commit no_seal before =
    let le : c.committed ≤ length h = before.committed in
    record {
      rows = λ p k. before.rows p k ∙ sym
          (row_more h l p k ∙ row_stays l no_row no_drop no_commit no_seal p k (declared_in h) (row_in h p k));
      made = λ p k. subst (λ (n : ℕ). IfSome (verified c p k) (λ made. made ≤ n)) (sym (longer h l))
          (within (verified c p k) (length h) (length h + 1) (omega arith) (before.made p k));
      committed = subst (λ (n : ℕ). c.committed ≤ n) (sym (longer h l)) (omega arith);
      first = first_stays is_confirmable c.first h l (confirms_none h l no_row no_drop no_commit no_seal) before.first;
    }
