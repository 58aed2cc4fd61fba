-- Marks for link rows: one more row, and what the marks show.
use Rattle.std.proofs.Common.{◌≡◌, ◌&&◌, ◌||◌, not, ℕ, List, [], ◌∷◌, ◌++◌, Bool, true, false, refl, ap, sym, subst, ◌∙◌, nat_eq, eqb-true}
use Rattle.std.specs.List.{list_any}
use Rattle.std.proofs.lemmas.Slice.Eq.{bytes_eq-Decides}
use Rattle.std.proofs.lemmas.List.Folds.{list_any-append}
use Rattle.law_change_fits.proofs.Tests.{both}
use Rattle.zb_model.specs.Fits.{same_bool}
use Rattle.zb_model.specs.State.{LinkKey, same_key, is_unverified}
use Rattle.zb_record.specs.LinkSets.{HaveKeys, HaveLive, HaveMarks, is_live_so}
use Rattle.zb_record.specs.Marks.{key_number, link_number, may_have, noted}
use Rattle.zb_record.specs.Rows.{kinds_alike, told_apart}
use Rattle.zb_record.proofs.MarkLemmas.{free_before, noted_there}

-- one more number, and one more row

kept_keys : (marks : List ℕ) (n : ℕ) (rows : List LinkKey) → HaveKeys marks rows → HaveKeys (noted marks n) rows
kept_keys marks n rows have key free = have key (free_before marks n (key_number key) free)

kept_live : (marks : List ℕ) (n : ℕ) (rows : List LinkKey) → HaveLive marks rows → HaveLive (noted marks n) rows
kept_live marks n rows have partner unverified told free =
    have partner unverified told (free_before marks n (link_number partner unverified told) free)

-- no row, and not the additional one either
neither : (p : LinkKey → Bool) (rows : List LinkKey) (r : LinkKey) → list_any p rows ≡ false → p r ≡ false
    → list_any p (rows ++ r ∷ []) ≡ false
neither p rows r none not_it =
    list_any-append p rows (r ∷ []) ∙ ap (λ (b : Bool). b || (p r || false)) none
    ∙ ap (λ (b : Bool). b || false) not_it

-- a number isn't free if it would be the noted number
another : (b : Bool) (marks : List ℕ) (n o : ℕ) → (b ≡ true → n ≡ o) → may_have (noted marks n) o ≡ false → b ≡ false
another true marks n o same free = sym (ap (may_have (noted marks n)) (sym (same refl)) ∙ noted_there marks n) ∙ free
another false marks n o same free = refl

more_keys : (marks : List ℕ) (rows : List LinkKey) (r : LinkKey) → HaveKeys marks rows
    → HaveKeys (noted marks (key_number r.key)) (rows ++ r ∷ [])
more_keys marks rows r have key free =
    neither (λ (x : LinkKey). same_key x.key key) rows r (kept_keys marks (key_number r.key) rows have key free)
    (another (same_key r.key key) marks (key_number r.key) (key_number key)
    (λ is. ap key_number ((bytes_eq-Decides r.key key).0 is)) free)

bool_is : (a b : Bool) → same_bool a b ≡ true → a ≡ b
bool_is true true is = refl
bool_is true false is = sym is
bool_is false true is = is
bool_is false false is = refl

same_number : (r : LinkKey) (partner : ℕ) (unverified told : Bool) → is_live_so partner unverified told r ≡ true
    → link_number r.partner (is_unverified r.attribute) r.told ≡ link_number partner unverified told
same_number r partner unverified told is =
    let kind = same_bool (is_unverified r.attribute) unverified in
    let a = both r.live (nat_eq r.partner partner && (kind && same_bool r.told told)) is in
    let b = both (nat_eq r.partner partner) (kind && same_bool r.told told) a.1 in
    let c = both kind (same_bool r.told told) b.1 in
    ap (λ (p : ℕ). link_number p (is_unverified r.attribute) r.told) (eqb-true r.partner partner b.0)
    ∙ ap (λ (u : Bool). link_number partner u r.told) (bool_is (is_unverified r.attribute) unverified c.0)
    ∙ ap (link_number partner unverified) (bool_is r.told told c.1)

more_live : (marks : List ℕ) (rows : List LinkKey) (r : LinkKey) → HaveLive marks rows
    → HaveLive (noted marks (link_number r.partner (is_unverified r.attribute) r.told)) (rows ++ r ∷ [])
more_live marks rows r have partner unverified told free =
    let n = link_number r.partner (is_unverified r.attribute) r.told in
    neither (is_live_so partner unverified told) rows r (kept_live marks n rows have partner unverified told free)
    (another (is_live_so partner unverified told r) marks n (link_number partner unverified told)
    (same_number r partner unverified told) free)

-- a row that isn't live is none of the live ones
more_dead : (marks : List ℕ) (rows : List LinkKey) (r : LinkKey) → r.live ≡ false → HaveLive marks rows
    → HaveLive marks (rows ++ r ∷ [])
more_dead marks rows r dead have partner unverified told free =
    neither (is_live_so partner unverified told) rows r (have partner unverified told free)
    (ap (λ (b : Bool). b && (nat_eq r.partner partner
    && (same_bool (is_unverified r.attribute) unverified && same_bool r.told told))) dead)

-- a live row has two marks, another one has one

module _ (old new : List ℕ) (rows : List LinkKey) (r : LinkKey) where
  pub note_live : new ≡ noted (noted old (key_number r.key)) (link_number r.partner (is_unverified r.attribute) r.told)
      → HaveMarks old rows → (HaveMarks new rows) × (HaveMarks new (rows ++ r ∷ []))
  note_live is have =
      let k = key_number r.key in
      let l = link_number r.partner (is_unverified r.attribute) r.told in
      let live = kept_live old k rows have.1 in
      subst (λ (m : List ℕ). (HaveMarks m rows) × (HaveMarks m (rows ++ r ∷ []))) (sym is) (
        (kept_keys (noted old k) l rows (kept_keys old k rows have.0), kept_live (noted old k) l rows live),
        (
          kept_keys (noted old k) l (rows ++ r ∷ []) (more_keys old rows r have.0),
          more_live (noted old k) rows r live,
        ),
      )

  pub note_dead : new ≡ noted old (key_number r.key) → r.live ≡ false
      → HaveMarks old rows → (HaveMarks new rows) × (HaveMarks new (rows ++ r ∷ []))
  note_dead is dead have =
      let k = key_number r.key in
      let live = kept_live old k rows have.1 in
      subst (λ (m : List ℕ). (HaveMarks m rows) × (HaveMarks m (rows ++ r ∷ []))) (sym is) (
        (kept_keys old k rows have.0, live),
        (more_keys old rows r have.0, more_dead (noted old k) rows r dead live),
      )

-- tests of all rows

both_any : (p q : LinkKey → Bool) (rows : List LinkKey) → (list_any p rows || list_any q rows)
    ≡ list_any (λ x. p x || q x) rows
both_any p q [] = refl
both_any p q (r ∷ rows) = turn (p r) (q r) (list_any p rows) (list_any q rows) ∙ ap (λ (b : Bool). (p r || q r) || b)
    (both_any p q rows)
  where
    turn : (a b c d : Bool) → ((a || c) || (b || d)) ≡ ((a || b) || (c || d))
    turn true b c d = refl
    turn false true true d = refl
    turn false true false d = refl
    turn false false c d = refl

under_any : (b : Bool) (p : LinkKey → Bool) (rows : List LinkKey) → (b && list_any p rows)
    ≡ list_any (λ x. b && p x) rows
under_any true p rows = refl
under_any false p [] = refl
under_any false p (r ∷ rows) = under_any false p rows

same_any : (p q : LinkKey → Bool) (rows : List LinkKey) → ((x : LinkKey) → p x ≡ q x) → list_any p rows
    ≡ list_any q rows
same_any p q [] each = refl
same_any p q (r ∷ rows) each = rw (each r, same_any p q rows each) refl

asked : (b : Bool) (p q t : LinkKey → Bool) (rows : List LinkKey) → ((x : LinkKey) → (b && (p x || q x)) ≡ t x)
    → (b && (list_any p rows || list_any q rows)) ≡ list_any t rows
asked b p q t rows each =
    ap (λ (c : Bool). b && c) (both_any p q rows) ∙ under_any b (λ x. p x || q x) rows ∙ same_any
    (λ x. b && (p x || q x)) t rows each

by_kind : (live now same kind told : Bool)
    → (now && ((live && (same && (kind && same_bool told true)))
    || (live && (same && (kind && same_bool told false))))) ≡ ((live && (now && same)) && kind)
by_kind true true true true true = refl
by_kind true true true true false = refl
by_kind true true true false told = refl
by_kind true true false kind told = refl
by_kind true false same kind told = refl
by_kind false true same kind told = refl
by_kind false false same kind told = refl

by_told : (live now same unverified told other : Bool)
    → (now && ((live && (same && (same_bool unverified true && same_bool told (not other))))
    || (live && (same && (same_bool unverified false && same_bool told (not other))))))
    ≡ ((live && (now && same)) && not (same_bool told other))
by_told true true true true true true = refl
by_told true true true true true false = refl
by_told true true true true false true = refl
by_told true true true true false false = refl
by_told true true true false true true = refl
by_told true true true false true false = refl
by_told true true true false false true = refl
by_told true true true false false false = refl
by_told true true false unverified told other = refl
by_told true false same unverified told other = refl
by_told false true same unverified told other = refl
by_told false false same unverified told other = refl

-- the two tests of a live row, and the result for one that isn't live

module _ (rows : List LinkKey) (r : LinkKey) (b : Bool) where
  like : (r.live
      && (list_any (is_live_so r.partner (is_unverified r.attribute) true) rows
      || list_any (is_live_so r.partner (is_unverified r.attribute) false) rows))
      ≡ list_any (λ (y : LinkKey). kinds_alike y r) rows
  like =
      asked r.live (is_live_so r.partner (is_unverified r.attribute) true)
      (is_live_so r.partner (is_unverified r.attribute) false) (λ (y : LinkKey). kinds_alike y r) rows
      (λ y. by_kind y.live r.live (nat_eq y.partner r.partner)
      (same_bool (is_unverified y.attribute) (is_unverified r.attribute)) y.told)

  apart :
      (r.live
      && (list_any (is_live_so r.partner true (not r.told)) rows || list_any (is_live_so r.partner false (not r.told))
      rows)) ≡ list_any (λ (y : LinkKey). told_apart y r) rows
  apart =
      asked r.live (is_live_so r.partner true (not r.told)) (is_live_so r.partner false (not r.told))
      (λ (y : LinkKey). told_apart y r) rows
      (λ y. by_told y.live r.live (nat_eq y.partner r.partner) (is_unverified y.attribute) y.told r.told)

  pub live_like : (u : Bool) → u ≡ is_unverified r.attribute → b
      ≡ (list_any (is_live_so r.partner u true) rows || list_any (is_live_so r.partner u false) rows) → r.live ≡ true
      → b ≡ list_any (λ (y : LinkKey). kinds_alike y r) rows
  live_like u same is lives =
      is ∙ ap
      (λ (v : Bool). list_any (is_live_so r.partner v true) rows || list_any (is_live_so r.partner v false) rows)
      same
      ∙ ap (λ (x : Bool). x
      && (list_any (is_live_so r.partner (is_unverified r.attribute) true) rows
      || list_any (is_live_so r.partner (is_unverified r.attribute) false) rows)) (sym lives) ∙ like

  pub dead_like : b ≡ false → r.live ≡ false → b ≡ list_any (λ (y : LinkKey). kinds_alike y r) rows
  dead_like is lives =
      is ∙ ap
      (λ (x : Bool). x
      && (list_any (is_live_so r.partner (is_unverified r.attribute) true) rows
      || list_any (is_live_so r.partner (is_unverified r.attribute) false) rows)) (sym lives) ∙ like

  pub live_apart : b
      ≡ (list_any (is_live_so r.partner true (not r.told)) rows || list_any (is_live_so r.partner false (not r.told))
      rows) → r.live ≡ true → b ≡ list_any (λ (y : LinkKey). told_apart y r) rows
  live_apart is lives =
      is ∙ ap
      (λ (x : Bool). x
      && (list_any (is_live_so r.partner true (not r.told)) rows
      || list_any (is_live_so r.partner false (not r.told)) rows)) (sym lives) ∙ apart

  pub dead_apart : b ≡ false → r.live ≡ false → b ≡ list_any (λ (y : LinkKey). told_apart y r) rows
  dead_apart is lives =
      is ∙ ap
      (λ (x : Bool). x
      && (list_any (is_live_so r.partner true (not r.told)) rows
      || list_any (is_live_so r.partner false (not r.told)) rows)) (sym lives) ∙ apart
