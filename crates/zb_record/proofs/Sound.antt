-- What is read from a record keeps the rules for records.
use Rattle.std.proofs.Common.{◌≡◌, ℕ, zero, suc, ◌+◌, ◌<◌, ◌≤◌, List, [], ◌∷◌, ◌++◌, length, map, filter, Result, Ok, Err, refl, sym, ap, ◌∙◌, subst, arith, Bool, true, false, not, if◌then◌else◌, ◌&&◌, ◌||◌, Option, Some, None, length-append, append_assoc}
use Rattle.std.specs.Prelude.{find, nat_eq, nat_le, nat_lt, ◌==◌}
use Rattle.std.specs.List.{list_any, list_all}
use Rattle.std.proofs.lemmas.Bool.{not-true, leb-true, ltb-true, eq-eqb}
use Rattle.std.proofs.lemmas.List.{map-append, append-nil, length-map}
use Rattle.std.proofs.lemmas.List.Elements.{filter-append}
use Rattle.std.proofs.lemmas.List.Folds.{list_all-append, list_all-map}
use Rattle.zb_node_types.specs.Changes.{model_role, model_attribute}
use Rattle.zb_cursor.specs.Spelling.{bit}
use Rattle.zb_cursor.specs.Reading.{Reading, byte_at, number_at, eui_at, key_at}
use Rattle.std.specs.Int.{w16, w32}
use Rattle.zb_model.specs.Data.{Bytes, Role}
use Rattle.zb_model.specs.State.{NodeState, SenderFloor, NetKey, LinkKey, PairKey, same_key, is_centre, has_net, shown_net}
use Rattle.zb_model.specs.Fits.{keeps_rules, role_is_kept, active_is_live, row_is_live, senders_ascend, all_apart, is_fresh, most_nets, most_links, most_pairs, most_senders}
use Rattle.law_change_fits.proofs.Tests.{both, never, or_true, apart_seen, apart_snoc}
use Rattle.law_change_fits.proofs.Parts.{rules_back, nets_alike, links_alike, pairs_alike, pair_rule, floors_rule, limit_rule, same_key_is, same_key_of}
use Rattle.zb_record.specs.declared.version.Version.{Version}
use Rattle.zb_record.specs.declared.version.Version.TheVariants.{First, Second, Third}
use Rattle.zb_record.specs.declared.record.Node.{Node}
use Rattle.zb_record.specs.declared.record.Head.{Head}
use Rattle.zb_record.specs.Fields.{attribute_at, state_at, rollover_at, version_at, role_at}
use Rattle.zb_record.specs.Placed.{Placed, onward, ◌>>=◌, give, judged, field, whole, rows_at}
use Rattle.zb_record.specs.Rows.{net_at, net_flags_fit, net_limit_at, is_started, is_new_net, allows_limit, lives, sender_at, floors_at, live_floors_at, all_floors_at, is_last, isnt_zero, has_few, link_at, links_at, link_row, is_new_link, is_marked, link_fits, link_flags_fit, kinds_alike, told_apart, has_link_room, pair_at, all_pairs_at, pairs_at, is_pair, is_new_pair, is_one, pairs_room, has_pair_room}
use Rattle.zb_record.specs.Records.{may_enter, may_roll, node_at, head_at, has_net_room, is_place, nets_at, key_of, state_from, record_at, record_read, ended}

-- ---- what was read, field by field

abbrev found : {A : Type 0} → A → List ℕ → Result (A × List ℕ) ℕ
found x rest = Ok (x, rest)

-- the first of two readings, and the second
pub record Both {A B : Type 0} (first : Placed A) (next : A → Placed B) (bytes rest : List ℕ) (y : B) : Type 0 where
  pub value : A
  pub between : List ℕ
  pub one : first bytes ≡ found value between
  pub two : next value between ≡ found y rest

pub both_read : {A B : Type 0} (first : Placed A) (next : A → Placed B) (bytes rest : List ℕ) (y : B)
    → (first >>= next) bytes ≡ found y rest → Both first next bytes rest y
both_read {A} {B} first next bytes rest y e = by_first (first bytes) refl e
  where
    by_first : (r : Result (A × List ℕ) ℕ) → first bytes ≡ r → onward r (λ x behind. next x behind) ≡ found y rest
        → Both first next bytes rest y
    by_first (Ok x) is e = record { value = x.0; between = x.1; one = is; two = e }
    by_first (Err f) is e = absurd (cc)

-- a field passed its test
pub passed : {A : Type 0} (read : Reading ℕ A) (fits : A → Bool) (bytes rest : List ℕ) (x : A) → field read fits bytes
    ≡ found x rest → fits x ≡ true
passed {A} read fits bytes rest x e = by_read (read (length bytes) bytes) e
  where
    by_test : (b : Bool) (y : A × List ℕ) → fits y.0 ≡ b → (if b then Ok y else Err (length bytes)) ≡ found x rest
        → fits x ≡ true
    by_test true y is e = let same : y ≡ (x, rest) = cc in ap fits (sym (ap (λ (z : A × List ℕ). z.0) same)) ∙ is
    by_test false y is e = absurd (cc)

    by_read : (r : Result (A × List ℕ) ℕ) → judged (length bytes) fits r ≡ found x rest → fits x ≡ true
    by_read (Ok y) e = by_test (fits y.0) y refl e
    by_read (Err f) e = absurd (cc)

-- what each row satisfies, all rows satisfy
pub rows_keep : {A : Type 0} (step : List A → Placed A) (P : List A → Type 0)
    → ((done : List A) (bytes rest : List ℕ) (x : A) → P done → step done bytes ≡ found x rest → P (done ++ x ∷ []))
    → (n : ℕ) (done : List A) (bytes rest : List ℕ) (rows : List A) → P done → rows_at step n done bytes
    ≡ found rows rest → P rows
unfolding rows_at
rows_keep {A} step P each zero done bytes rest rows p e = let same : done ≡ rows = first_is e in subst P same p
  where
    first_is : found done bytes ≡ found rows rest → done ≡ rows
    first_is e = let pair : (done, bytes) ≡ (rows, rest) = cc in ap (λ (z : List A × List ℕ). z.0) pair
rows_keep {A} step P each (suc n) done bytes rest rows p e =
    let b = both_read (step done) (λ row. rows_at step n (done ++ row ∷ [])) bytes rest rows e in
    rows_keep step P each n (done ++ b.value ∷ []) b.between rest rows (each done bytes b.between b.value p b.one)
    b.two

pub rows_length : {A : Type 0} (step : List A → Placed A) (n : ℕ) (done : List A) (bytes rest : List ℕ)
    (rows : List A) → rows_at step n done bytes ≡ found rows rest → length rows ≡ length done + n
unfolding rows_at
rows_length {A} step zero done bytes rest rows e =
    let pair : (done, bytes) ≡ (rows, rest) = cc in
    let same : done ≡ rows = ap (λ (z : List A × List ℕ). z.0) pair in
    omega (arith, ap (length {A = A}) same)
rows_length {A} step (suc n) done bytes rest rows e =
    let b = both_read (step done) (λ row. rows_at step n (done ++ row ∷ [])) bytes rest rows e in
    let later = rows_length step n (done ++ b.value ∷ []) b.between rest rows b.two in
    omega (arith, later, length-append done (b.value ∷ []))

-- a value that is given is the one that was found
pub given : {A : Type 0} (x y : A) (bytes rest : List ℕ) → found x bytes ≡ found y rest → x ≡ y
given {A} x y bytes rest e = let pair : (x, bytes) ≡ (y, rest) = cc in ap (λ (z : A × List ℕ). z.0) pair

-- ---- network keys

-- whether the row at a place is live, if there is one
abbrev pub live_at : ℕ → List NetKey → Bool
live_at place [] = true
live_at zero (r ∷ rs) = r.live
live_at (suc place) (r ∷ rs) = live_at place rs

abbrev pub bare : NetKey → NetKey
bare r = record r { floors = [] }

pub record NetsKept (active : ℕ) (rows : List NetKey) : Type 0 where
  pub keys : all_apart nets_alike rows ≡ true
  pub two : lives rows ≤ 2
  pub limits : list_all limit_rule rows ≡ true
  pub active_row : live_at active rows ≡ true
  pub floorless : map bare rows ≡ rows

no_nets : (active : ℕ) → NetsKept active []
no_nets active = record { keys = refl; two = omega arith; limits = refl; active_row = refl; floorless = refl }

live_snoc : (place : ℕ) (rows : List NetKey) (x : NetKey) → live_at place rows ≡ true
    → (place ≡ length rows → x.live ≡ true) → live_at place (rows ++ x ∷ []) ≡ true
live_snoc zero [] x e here = here refl
live_snoc (suc place) [] x e here = refl
live_snoc zero (r ∷ rs) x e here = e
live_snoc (suc place) (r ∷ rs) x e here = live_snoc place rs x e (λ same. here (ap suc same))

bare_snoc : (rows : List NetKey) (x : NetKey) → map bare rows ≡ rows → bare x ≡ x → map bare (rows ++ x ∷ []) ≡ rows
    ++ x ∷ []
bare_snoc rows x e here = map-append bare rows (x ∷ []) ∙ ap (λ l. l ++ bare x ∷ []) e ∙ ap (λ y. rows ++ y ∷ []) here

-- what the flags of a row say
flags_say : (version : Version) (active flags : ℕ) (done : List NetKey) → net_flags_fit version active done flags
    ≡ true
    → ((bit flags 0 ≡ true) → lives done < 2) × ((active ≡ length done) → bit flags 0 ≡ true)
flags_say version active flags done fit = by_bit (bit flags 0) (both (nat_lt flags _) _ fit).1
  where
    by_bit : (b : Bool) → (if b then nat_lt (lives done) 2 else not (nat_eq active (length done))) ≡ true
        → ((b ≡ true) → lives done < 2) × ((active ≡ length done) → b ≡ true)
    by_bit true e = (λ t. ltb-true _ _ e, λ t. refl)
    by_bit false e = (λ t. absurd (cc), λ same. never (nat_eq active (length done)) (eq-eqb _ _ same) (not-true _ e))

limit_says : (version : Version) (declared : ℕ) (flags : ℕ) (bytes rest : List ℕ) (limit : ℕ)
    → net_limit_at version declared (is_started version flags) bytes ≡ found limit rest
    → (is_started version flags || nat_eq limit 0) ≡ true
limit_says First declared flags bytes rest limit e = refl
limit_says Second declared flags bytes rest limit e = passed (number_at w32) (allows_limit (bit flags 1)) bytes rest
    limit e
limit_says Third declared flags bytes rest limit e = passed (number_at w32) (allows_limit (bit flags 1)) bytes rest
    limit e

one_more : (done : List NetKey) (x : NetKey) → (x.live ≡ true → lives done < 2) → lives done ≤ 2
    → lives (done ++ x ∷ []) ≤ 2
one_more done x room le = by_live x.live refl
  where
    all : lives (done ++ x ∷ []) ≡ lives done + length (filter (λ (r : NetKey). r.live) (x ∷ []))
    all = ap (length {A = NetKey}) (filter-append (λ (r : NetKey). r.live) done (x ∷ [])) ∙ length-append
        (filter (λ (r : NetKey). r.live) done) (filter (λ (r : NetKey). r.live) (x ∷ []))

    last : (b : Bool) → x.live ≡ b → length (filter (λ (r : NetKey). r.live) (x ∷ [])) ≡ (if b then 1 else 0)
    last true is = rw is refl
    last false is = rw is refl

    by_live : (b : Bool) → x.live ≡ b → lives (done ++ x ∷ []) ≤ 2
    by_live true is = let lt = room is in omega (arith, all, last true is, lt)
    by_live false is = omega (arith, all, last false is, le)

net_kept : (version : Version) (declared active : ℕ) (done : List NetKey) (bytes rest : List ℕ) (x : NetKey)
    → NetsKept active done → net_at version declared active done bytes ≡ found x rest
    → NetsKept active (done ++ x ∷ [])
unfolding net_at
net_kept version declared active done bytes rest x kept e =
    let a = both_read (field key_at (is_new_net done)) _ bytes rest x e in
    let b = both_read (whole byte_at) _ a.between rest x a.two in
    let c = both_read (field byte_at (net_flags_fit version active done)) _ b.between rest x b.two in
    let d = both_read (net_limit_at version declared (is_started version c.value)) _ c.between rest x c.two in
    let row : NetKey =
    record {
      key = a.value.0;
      sequence = b.value;
      live = bit c.value 0;
      started = is_started version c.value;
      limit = d.value;
      next = d.value;
      floors = [];
    } in
    let is : row ≡ x = given row x d.between rest d.two in
    let new : not (has_net row.key done) ≡ true = passed key_at (is_new_net done) bytes a.between a.value a.one in
    let say =
    flags_say version active c.value done
    (passed byte_at (net_flags_fit version active done) b.between c.between c.value c.one) in
    let limit = limit_says version declared c.value c.between d.between d.value d.one in
    subst (λ (r : NetKey). NetsKept active (done ++ r ∷ [])) is (record {
      keys = apart_snoc nets_alike done row ∙ rw (kept.keys, new) refl;
      two = one_more done row say.0 kept.two;
      limits = list_all-append limit_rule done (row ∷ []) ∙ rw (kept.limits, limit) refl;
      active_row = live_snoc active done row kept.active_row say.1;
      floorless = bare_snoc done row kept.floorless refl;
    })

-- ---- floors

pub record SendersKept (fs : List SenderFloor) : Type 0 where
  pub some : list_all (λ (f : SenderFloor). nat_lt 0 f.stored) fs ≡ true
  pub ascend : senders_ascend fs ≡ true

pub ascend_snoc : (fs : List SenderFloor) (x : SenderFloor) → senders_ascend fs ≡ true
    → list_all (λ (f : SenderFloor). nat_lt f.sender x.sender) fs ≡ true → senders_ascend (fs ++ x ∷ []) ≡ true
ascend_snoc [] x a below = refl
ascend_snoc (f ∷ fs) x a below =
    let parts = both (list_all (λ (g : SenderFloor). nat_lt f.sender g.sender) fs) (senders_ascend fs) a in
    let under = both (nat_lt f.sender x.sender) (list_all (λ (g : SenderFloor). nat_lt g.sender x.sender) fs) below in
    let all : list_all (λ (g : SenderFloor). nat_lt f.sender g.sender) (fs ++ x ∷ []) ≡ true =
    list_all-append (λ (g : SenderFloor). nat_lt f.sender g.sender) fs (x ∷ []) ∙ rw (parts.0, under.0) refl in
    rw all (ascend_snoc fs x parts.1 under.1)

sender_kept : (done : List SenderFloor) (bytes rest : List ℕ) (x : SenderFloor) → SendersKept done
    → sender_at done bytes ≡ found x rest → SendersKept (done ++ x ∷ [])
unfolding sender_at
sender_kept done bytes rest x kept e =
    let a = both_read (field eui_at (is_last done)) _ bytes rest x e in
    let b = both_read (field (number_at w32) isnt_zero) _ a.between rest x a.two in
    let row : SenderFloor = record { sender = a.value.0; kept = b.value; stored = b.value } in
    let is : row ≡ x = given row x b.between rest b.two in
    let last = passed eui_at (is_last done) bytes a.between a.value a.one in
    let some : nat_lt 0 row.stored ≡ true = passed (number_at w32) isnt_zero a.between b.between b.value b.one in
    subst (λ (r : SenderFloor). SendersKept (done ++ r ∷ [])) is (record {
      some = list_all-append (λ (f : SenderFloor). nat_lt 0 f.stored) done (row ∷ []) ∙ rw (kept.some, some) refl;
      ascend = ascend_snoc done row kept.ascend last;
    })

floors_kept : (bytes rest : List ℕ) (fs : List SenderFloor) → floors_at bytes ≡ found fs rest
    → (nat_le (length fs) most_senders && (list_all (λ (f : SenderFloor). nat_lt 0 f.stored) fs && senders_ascend fs))
    ≡ true
unfolding floors_at
floors_kept bytes rest fs e =
    let a = both_read (field byte_at has_few) _ bytes rest fs e in
    let few = passed byte_at has_few bytes a.between a.value a.one in
    let all = rows_length sender_at a.value [] a.between rest fs a.two in
    let long : length fs ≡ a.value = omega (arith, all) in
    let kept = rows_keep sender_at SendersKept sender_kept a.value [] a.between rest fs
    (record { some = refl; ascend = refl }) a.two in
    rw (long, few, kept.some, kept.ascend) refl

pub record FloorsKept (rows : List NetKey) : Type 0 where
  pub floors : list_all floors_rule rows ≡ true
  pub shows : map shown_net rows ≡ rows

filled_row : (r row : NetKey) (bytes rest : List ℕ) → bare r ≡ r → live_floors_at r bytes ≡ found row rest
    → (bare row ≡ r) × (floors_rule row ≡ true) × (shown_net row ≡ row)
filled_row r row bytes rest floorless e = by_live r.live refl e
  where
    empty : [] ≡ r.floors
    empty = ap (λ (x : NetKey). x.floors) floorless

    by_live : (b : Bool) → r.live ≡ b
        → (if b then (floors_at >>= (λ floors. give (record r { floors = floors }))) bytes else Ok (r, bytes))
        ≡ found row rest → (bare row ≡ r) × (floors_rule row ≡ true) × (shown_net row ≡ row)
    by_live true is e =
        let a = both_read floors_at (λ floors. give (record r { floors = floors })) bytes rest row e in
        let same : record r { floors = a.value } ≡ row = given _ row a.between rest a.two in
        let rule = floors_kept bytes a.between a.value a.one in
        subst (λ (x : NetKey). (bare x ≡ r) × (floors_rule x ≡ true) × (shown_net x ≡ x)) same
        (floorless, rule, ap (λ b. record r { floors = if b then a.value else [] }) is)
    by_live false is e =
        let same : r ≡ row = given r row bytes rest e in
        let rule : floors_rule r ≡ true = rw (← empty) refl in
        let shows : shown_net r ≡ r = ap (λ b. record r { floors = if b then r.floors else [] }) is ∙ floorless in
        subst (λ (x : NetKey). (bare x ≡ r) × (floors_rule x ≡ true) × (shown_net x ≡ x)) same (floorless, rule, shows)

all_filled : (rs done rows : List NetKey) (bytes rest : List ℕ) → map bare rs ≡ rs → FloorsKept done
    → all_floors_at done rs bytes ≡ found rows rest → (map bare rows ≡ map bare done ++ rs) × FloorsKept rows
unfolding all_floors_at
all_filled [] done rows bytes rest floorless kept e =
    let same : done ≡ rows = given done rows bytes rest e in
    (ap (map bare) (sym same) ∙ sym (append-nil (map bare done)), subst FloorsKept same kept)
all_filled (r ∷ rs) done rows bytes rest floorless kept e =
    let head : bare r ≡ r = cc in
    let tail : map bare rs ≡ rs = cc in
    let a = both_read (live_floors_at r) (λ row. all_floors_at (done ++ row ∷ []) rs) bytes rest rows e in
    let one = filled_row r a.value bytes a.between head a.one in
    let now : FloorsKept (done ++ a.value ∷ []) = record {
      floors = list_all-append floors_rule done (a.value ∷ []) ∙ rw (kept.floors, one.1) refl;
      shows = map-append shown_net done (a.value ∷ []) ∙ ap (λ l. l ++ shown_net a.value ∷ []) kept.shows ∙ ap
          (λ y. done ++ y ∷ []) one.2;
    } in
    let later = all_filled rs (done ++ a.value ∷ []) rows a.between rest tail now a.two in (
      later.0 ∙ ap (λ l. l ++ rs) (map-append bare done (a.value ∷ []) ∙ ap (λ y. map bare done ++ y ∷ []) one.0) ∙
          append_assoc (map bare done) (r ∷ []) rs,
      later.1,
    )

-- ---- link keys

pub record LinksKept (d : Role) (rows : List LinkKey) : Type 0 where
  pub keys : all_apart links_alike rows ≡ true
  pub kinds : all_apart kinds_alike rows ≡ true
  pub told : all_apart told_apart rows ≡ true
  pub marks : list_all (is_marked d) rows ≡ true

link_kept : (d : Role) (done : List LinkKey) (bytes rest : List ℕ) (x : LinkKey) → LinksKept d done
    → link_at d done bytes ≡ found x rest → LinksKept d (done ++ x ∷ [])
unfolding link_at
link_kept d done bytes rest x kept e =
    let a = both_read (whole eui_at) _ bytes rest x e in
    let b = both_read (field key_at (is_new_link done)) _ a.between rest x a.two in
    let c = both_read (whole attribute_at) _ b.between rest x b.two in
    let f = both_read (field byte_at (link_flags_fit d done a.value.0 b.value.0 (model_attribute c.value))) _
    c.between rest x c.two in
    let g = both_read (whole (number_at w32)) _ f.between rest x f.two in
    let row : LinkKey = record (link_row a.value.0 b.value.0 (model_attribute c.value) f.value)
    { kept = g.value; stored = g.value } in
    let is : row ≡ x = given row x g.between rest g.two in
    let new : not (list_any (λ (r : LinkKey). same_key r.key row.key) done) ≡ true =
    passed key_at (is_new_link done) a.between b.between b.value b.one in
    let fit = passed byte_at (link_flags_fit d done a.value.0 b.value.0 (model_attribute c.value)) c.between f.between
    f.value f.one in
    let parts = both (nat_lt f.value 8) (link_fits d done row) fit in
    let more =
    both (is_marked d row)
    (not (list_any (λ (y : LinkKey). kinds_alike y row) done)
    && not (list_any (λ (y : LinkKey). told_apart y row) done)) parts.1 in
    let alone = both (not (list_any (λ (y : LinkKey). kinds_alike y row) done))
    (not (list_any (λ (y : LinkKey). told_apart y row) done)) more.1 in
    subst (λ (r : LinkKey). LinksKept d (done ++ r ∷ [])) is (record {
      keys = apart_snoc links_alike done row ∙ rw (kept.keys, new) refl;
      kinds = apart_snoc kinds_alike done row ∙ rw (kept.kinds, alone.0) refl;
      told = apart_snoc told_apart done row ∙ rw (kept.told, alone.1) refl;
      marks = list_all-append (is_marked d) done (row ∷ []) ∙ rw (kept.marks, more.0) refl;
    })

links_kept : (d : Role) (bytes rest : List ℕ) (rows : List LinkKey) → links_at d bytes ≡ found rows rest
    → LinksKept d rows × (length rows ≤ most_links d)
unfolding links_at
links_kept d bytes rest rows e =
    let a = both_read (field (number_at w16) (has_link_room d)) _ bytes rest rows e in
    let few = passed (number_at w16) (has_link_room d) bytes a.between a.value a.one in
    let long = rows_length (link_at d) a.value [] a.between rest rows a.two in
    let room : a.value ≤ most_links d = leb-true _ _ few in (
      rows_keep (link_at d) (LinksKept d) (link_kept d) a.value [] a.between rest rows
          (record { keys = refl; kinds = refl; told = refl; marks = refl }) a.two,
      omega (arith, long, room),
    )

-- ---- pairs

pub record PairsKept (rows : List PairKey) : Type 0 where
  pub order : list_all pair_rule rows ≡ true
  pub names : all_apart pairs_alike rows ≡ true

pair_kept : (done : List PairKey) (bytes rest : List ℕ) (x : PairKey) → PairsKept done → pair_at done bytes
    ≡ found x rest → PairsKept (done ++ x ∷ [])
unfolding pair_at
pair_kept done bytes rest x kept e =
    let a = both_read (whole eui_at) _ bytes rest x e in
    let b = both_read (field eui_at (is_new_pair done a.value)) _ a.between rest x a.two in
    let c = both_read (whole key_at) _ b.between rest x b.two in
    let f = both_read (field byte_at is_one) _ c.between rest x c.two in
    let row : PairKey = record { first = a.value.0; second = b.value.0; key = c.value.0 } in
    let is : row ≡ x = given row x f.between rest f.two in
    let fit = passed eui_at (is_new_pair done a.value) a.between b.between b.value b.one in
    let parts = both (nat_lt row.first row.second) (not (list_any (is_pair row.first row.second) done)) fit in
    subst (λ (r : PairKey). PairsKept (done ++ r ∷ [])) is (record {
      order = list_all-append pair_rule done (row ∷ []) ∙ rw (kept.order, parts.0) refl;
      names = apart_snoc pairs_alike done row ∙ rw (kept.names, parts.1) refl;
    })

pairs_kept : (version : Version) (d : Role) (bytes rest : List ℕ) (rows : List PairKey) → pairs_at version d bytes
    ≡ found rows rest → PairsKept rows × (length rows ≤ pairs_room d)
unfolding all_pairs_at
pairs_kept First d bytes rest rows e = let same =
    given [] rows bytes rest e in subst (λ l. PairsKept l × (length l ≤ pairs_room d)) same
    (record { order = refl; names = refl }, omega arith)
pairs_kept Second d bytes rest rows e = let same =
    given [] rows bytes rest e in subst (λ l. PairsKept l × (length l ≤ pairs_room d)) same
    (record { order = refl; names = refl }, omega arith)
pairs_kept Third d bytes rest rows e =
    let a = both_read (field (number_at w16) (has_pair_room d)) _ bytes rest rows e in
    let few = passed (number_at w16) (has_pair_room d) bytes a.between a.value a.one in
    let long = rows_length pair_at a.value [] a.between rest rows a.two in
    let room : a.value ≤ pairs_room d = leb-true _ _ few in (
      rows_keep pair_at PairsKept pair_kept a.value [] a.between rest rows (record { order = refl; names = refl })
          a.two,
      omega (arith, long, room),
    )

-- ---- the whole

has_of : (place : ℕ) (rows : List NetKey) (r : NetKey) (key : Bytes) → r.key ≡ key → key_of place rows ≡ Some key
    → list_any (nets_alike r) rows ≡ true
has_of place [] r key is e = absurd (cc)
has_of zero (x ∷ xs) r key is e =
    let here : x.key ≡ key = cc in
    let same : same_key r.key x.key ≡ true = same_key_of _ _ (is ∙ sym here) in
    rw same refl
has_of (suc place) (x ∷ xs) r key is e = or_true (nets_alike r x) (list_any (nets_alike r) xs)
    (has_of place xs r key is e)

key_live : (place : ℕ) (rows : List NetKey) (key : Bytes) → all_apart nets_alike rows ≡ true → live_at place rows
    ≡ true → key_of place rows ≡ Some key → row_is_live (find (λ (r : NetKey). same_key r.key key) rows) ≡ true
key_live place [] key apart live e = absurd (cc)
key_live zero (r ∷ rs) key apart live e =
    let here : r.key ≡ key = cc in
    let same : same_key r.key key ≡ true = same_key_of _ _ here in
    rw same live
key_live (suc place) (r ∷ rs) key apart live e =
    let parts = both (not (list_any (nets_alike r) rs)) (all_apart nets_alike rs) apart in
    by_test (same_key r.key key) refl (not-true _ parts.0) (key_live place rs key parts.1 live e)
  where
    by_test : (b : Bool) → same_key r.key key ≡ b → list_any (nets_alike r) rs ≡ false
        → row_is_live (find (λ (x : NetKey). same_key x.key key) rs) ≡ true
        → row_is_live (if b then Some r else find (λ (x : NetKey). same_key x.key key) rs) ≡ true
    by_test true is none later = never (list_any (nets_alike r) rs) (has_of place rs r key (same_key_is _ _ is) e) none
    by_test false is none later = later

active_kept : (s : NodeState) (place : ℕ) → all_apart nets_alike s.nets ≡ true → live_at place s.nets ≡ true
    → s.active ≡ key_of place s.nets → active_is_live s ≡ true
unfolding active_is_live
active_kept s place apart live is = by_key s.active refl
  where
    by_key : (o : Option Bytes) → s.active ≡ o → active_is_live s ≡ true
    by_key None e = rw e refl
    by_key (Some key) e = rw e (key_live place s.nets key apart live (sym is ∙ e))

live_bare : (place : ℕ) (rows : List NetKey) → live_at place (map bare rows) ≡ live_at place rows
live_bare place [] = refl
live_bare zero (r ∷ rs) = refl
live_bare (suc place) (r ∷ rs) = live_bare place rs

lives_bare : (rows : List NetKey) → lives (map bare rows) ≡ lives rows
lives_bare [] = refl
lives_bare (r ∷ rs) = by_live r.live (lives_bare rs)
  where
    by_live : (b : Bool) → lives (map bare rs) ≡ lives rs
        → length (if b then bare r ∷ filter (λ (x : NetKey). x.live) (map bare rs)
        else filter (λ (x : NetKey). x.live) (map bare rs)) ≡ length (if b then r ∷ filter (λ (x : NetKey). x.live) rs
        else filter (λ (x : NetKey). x.live) rs)
    by_live true e = rw e refl
    by_live false e = e

-- what the network keys satisfy, with their floors
pub record AllNets (active : ℕ) (rows : List NetKey) : Type 0 where
  pub keys : all_apart nets_alike rows ≡ true
  pub two : lives rows ≤ 2
  pub limits : list_all limit_rule rows ≡ true
  pub active_row : live_at active rows ≡ true
  pub floors : list_all floors_rule rows ≡ true
  pub shows : map shown_net rows ≡ rows
  pub room : length rows ≤ most_nets

nets_kept : (h : Head) (bytes rest : List ℕ) (rows : List NetKey) → h.nets ≤ most_nets → nets_at h bytes
    ≡ found rows rest → AllNets h.active rows
unfolding nets_at
nets_kept h bytes rest rows room e =
    let step = net_at h.node.version h.declared h.active in
    let a = both_read (rows_at step h.nets []) (λ l. all_floors_at [] l) bytes rest rows e in
    let kept = rows_keep step (NetsKept h.active) (net_kept h.node.version h.declared h.active) h.nets [] bytes
    a.between a.value (no_nets h.active) a.one in
    let long = rows_length step h.nets [] bytes a.between a.value a.one in
    let filled = all_filled a.value [] rows a.between rest kept.floorless (record { floors = refl; shows = refl })
    a.two in
    let back : a.value ≡ map bare rows = sym filled.0 in
    let keys : all_apart nets_alike (map bare rows) ≡ true = subst (λ l. all_apart nets_alike l ≡ true) back kept.keys
    in
    let limits : list_all limit_rule (map bare rows) ≡ true = subst (λ l. list_all limit_rule l ≡ true) back
    kept.limits in
    record {
      keys = sym (apart_seen nets_alike bare rows) ∙ keys;
      two = omega (arith, kept.two, ap lives back, lives_bare rows);
      limits = sym (list_all-map limit_rule bare rows) ∙ limits;
      active_row = sym (live_bare h.active rows) ∙ ap (live_at h.active) (sym back) ∙ kept.active_row;
      floors = filled.1.floors;
      shows = filled.1.shows;
      room = omega (arith, long, room, ap (length {A = NetKey}) back, length-map rows bare);
    }

role_holds : (s : NodeState) → (not (is_centre s.role) || is_fresh s.state) ≡ true
    → (not s.sending || is_centre s.role) ≡ true → length s.pairs ≤ pairs_room s.role → role_is_kept s ≡ true
unfolding role_is_kept
role_holds s enter roll room = by_centre (is_centre s.role) s.sending enter roll room
  where
    by_centre : (b c : Bool) → (not b || is_fresh s.state) ≡ true → (not c || b) ≡ true → length s.pairs
        ≤ (if b then most_pairs else 0) → (if b then is_fresh s.state else not c && nat_eq (length s.pairs) 0) ≡ true
    by_centre true c enter roll room = enter
    by_centre false true enter roll room = absurd (cc)
    by_centre false false enter roll room = eq-eqb _ _ (omega (arith, room))

room_most : (d : Role) (n : ℕ) → n ≤ pairs_room d → n ≤ most_pairs
room_most d n le = by_centre (is_centre d) le
  where
    by_centre : (b : Bool) → n ≤ (if b then most_pairs else 0) → n ≤ most_pairs
    by_centre true le = le
    by_centre false le = omega (arith, le)

abbrev answered : NodeState → Result NodeState ℕ
answered s = Ok s

-- a record that was read
pub record IsKept (s : NodeState) : Type 0 where
  pub rules : keeps_rules s ≡ true
  pub forgets : map shown_net s.nets ≡ s.nets

pub record_kept : (bytes rest : List ℕ) (s : NodeState) → record_at bytes ≡ found s rest → IsKept s
unfolding record_at node_at head_at
record_kept bytes rest s e =
    let a = both_read node_at _ bytes rest s e in
    let b = both_read (head_at a.value) _ a.between rest s a.two in
    let c = both_read (nets_at b.value) _ b.between rest s b.two in
    let d = both_read (links_at (model_role a.value.role)) _ c.between rest s c.two in
    let f = both_read (pairs_at a.value.version (model_role a.value.role)) _ d.between rest s d.two in
    let is : state_from b.value c.value d.value f.value ≡ s = given _ s f.between rest f.two in
    let n1 = both_read (whole version_at) _ bytes a.between a.value a.one in
    let n2 = both_read (whole role_at) _ n1.between a.between a.value n1.two in
    let n3 = both_read (field state_at (may_enter n2.value)) _ n2.between a.between a.value n2.two in
    let node : record { version = n1.value; role = n2.value; state = n3.value } ≡ a.value =
    given _ a.value n3.between a.between n3.two in
    let h1 = both_read (whole (number_at w32)) _ a.between b.between b.value b.one in
    let h2 = both_read (whole (number_at w32)) _ h1.between b.between b.value h1.two in
    let h3 = both_read (field rollover_at (may_roll a.value.role)) _ h2.between b.between b.value h2.two in
    let h4 = both_read (field (number_at w16) has_net_room) _ h3.between b.between b.value h3.two in
    let h5 = both_read (field (number_at w16) (is_place h4.value)) _ h4.between b.between b.value h4.two in
    let head :
    record {
      node = a.value;
      declared = h1.value;
      aps_limit = h2.value;
      rolling = h3.value;
      nets = h4.value;
      active = h5.value;
    } ≡ b.value = given _ b.value h5.between b.between h5.two in
    let enter : may_enter a.value.role a.value.state ≡ true = subst (λ (x : Node). may_enter x.role x.state ≡ true)
    node (passed state_at (may_enter n2.value) n2.between n3.between n3.value n3.one) in
    let roll : may_roll a.value.role b.value.rolling ≡ true =
    subst (λ (x : Head). may_roll a.value.role x.rolling ≡ true) head
    (passed rollover_at (may_roll a.value.role) h2.between h3.between h3.value h3.one) in
    let count : b.value.nets ≤ most_nets = subst (λ (x : Head). x.nets ≤ most_nets) head
    (leb-true _ _ (passed (number_at w16) has_net_room h3.between h4.between h4.value h4.one)) in
    let same_node : a.value ≡ b.value.node = ap (λ (x : Head). x.node) head in
    let nets = nets_kept b.value b.between c.between c.value count c.one in
    let links = links_kept (model_role a.value.role) c.between d.between d.value d.one in
    let pairs = pairs_kept a.value.version (model_role a.value.role) d.between f.between f.value f.one in
    let state : NodeState = state_from b.value c.value d.value f.value in
    let role_is : model_role a.value.role ≡ state.role = ap (λ (x : Node). model_role x.role) same_node in
    let pairs_few : length f.value ≤ pairs_room state.role = subst (λ (d : Role). length f.value ≤ pairs_room d)
    role_is pairs.1 in
    let state_enter : (not (is_centre state.role) || is_fresh state.state) ≡ true =
    subst (λ (x : Node). may_enter x.role x.state ≡ true) same_node enter in
    let state_roll : (not state.sending || is_centre state.role) ≡ true =
    subst (λ (x : Node). may_roll x.role b.value.rolling ≡ true) same_node roll in
    subst IsKept is (record {
      rules = rules_back state (record {
        nets_room = nets.room;
        links_room = subst (λ (d : Role). length state.links ≤ most_links d) role_is links.1;
        pairs_room = room_most state.role (length f.value) pairs_few;
        net_keys = nets.keys;
        link_keys = links.0.keys;
        two = nets.two;
        active = active_kept state b.value.active nets.keys nets.active_row refl;
        kinds = links.0.kinds;
        told = links.0.told;
        marks = subst (λ (d : Role). list_all (is_marked d) state.links ≡ true) role_is links.0.marks;
        floors = nets.floors;
        limits = nets.limits;
        role_kept = role_holds state state_enter state_roll pairs_few;
        pairs = pairs.0.order;
        pair_names = pairs.0.names;
      });
      forgets = nets.shows;
    })

pub read_kept : (bytes : List ℕ) (s : NodeState) → record_read bytes ≡ Ok s → IsKept s
unfolding record_read
read_kept bytes s e = by_result (record_at bytes) refl e
  where
    by_test : (b : Bool) (x : NodeState × List ℕ) → record_at bytes ≡ Ok x → (if b then Ok x.0 else Err (length x.1))
        ≡ answered s → IsKept s
    by_test true x is e = let same : x.0 ≡ s = cc in subst IsKept same (record_kept bytes x.1 x.0 is)
    by_test false x is e = absurd (cc)

    by_result : (r : Result (NodeState × List ℕ) ℕ) → record_at bytes ≡ r → ended r ≡ answered s → IsKept s
    by_result (Ok x) is e = by_test (length x.1 == 0) x is e
    by_result (Err f) is e = absurd (cc)
