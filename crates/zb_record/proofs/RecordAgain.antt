-- A record that is written is read back, as it is after a boot.
use Rattle.zb_model.specs.Data as model
use Rattle.std.proofs.Common.{◌≡◌, ℕ, zero, suc, ◌+◌, ◌^◌, ◌<◌, ◌≤◌, List, [], ◌∷◌, ◌++◌, length, map, filter, flat_map, Result, Ok, refl, sym, ap, ◌∙◌, subst, arith, Bool, true, false, not, if◌then◌else◌, ◌&&◌, ◌||◌, append_assoc, append-nil, length-append}
use Rattle.std.specs.Prelude.{nat_eq, nat_le, nat_lt}
use Rattle.std.specs.Int.{w32}
use Rattle.std.specs.List.{list_any, list_all, AllByRecursion}
use Rattle.std.proofs.lemmas.Bool.{not-true, lt-ltb, ne_eqb}
use Rattle.std.proofs.lemmas.List.{map-append, length-map}
use Rattle.std.proofs.lemmas.List.Concat.{flat_map-cons}
use Rattle.std.proofs.lemmas.List.Elements.{filter-append}
use Rattle.std.proofs.lemmas.List.Folds.{list_all-append}
use Rattle.zb_base.specs.declared.address.Eui.{Eui}
use Rattle.zb_base.specs.declared.key.Key.{Key}
use Rattle.zb_base.specs.declared.state.Attribute.{Attribute}
use Rattle.zb_base.specs.declared.state.Attribute.TheVariants as attribute
use Rattle.zb_node_types.specs.Changes.{model_attribute}
use Rattle.zb_cursor.specs.Spelling.{bit}
use Rattle.zb_cursor.specs.Reading.{Reading, byte_at, number_at, eui_at, key_at}
use Rattle.zb_cursor.proofs.ReadAgain.{wide32, number_again, eui_again, key_again}
use Rattle.zb_model.specs.Data.{Role, Provisional, Unverified, Verified}
use Rattle.zb_model.specs.State.{SenderFloor, NetKey, LinkKey, PairKey, same_key, has_net, booted_floor, booted_net, booted_link, shown_net}
use Rattle.zb_model.specs.Fits.{senders_ascend, all_apart, most_senders}
use Rattle.zb_model.specs.Record.{worth, net_bytes, sender_bytes, floors_bytes, link_bytes, pair_bytes, attribute_byte, four_bytes, eight_bytes}
use Rattle.law_change_fits.proofs.Tests.{both, any_map, apart_snoc}
use Rattle.law_change_fits.proofs.Parts.{nets_alike, links_alike, pairs_alike, pair_rule, floors_rule, limit_rule}
use Rattle.zb_record.specs.declared.version.Version.TheVariants.{Third}
use Rattle.zb_record.specs.Fields.{attribute_at}
use Rattle.zb_record.specs.Placed.{Placed, onward, ◌>>=◌, give, judged, field, rows_at}
use Rattle.zb_record.specs.Ranges.{NetFits, LinkFits, PairFits}
use Rattle.zb_record.specs.Rows.{net_at, net_flags_fit, is_new_net, allows_limit, lives, sender_at, floors_at, live_floors_at, all_floors_at, is_last, isnt_zero, has_few, link_at, link_row, is_new_link, is_marked, link_fits, link_flags_fit, kinds_alike, told_apart, pair_at, is_pair, is_new_pair}
use Rattle.zb_record.proofs.ReadAgain.{attribute_again}
use Rattle.zb_record.proofs.Sound.{live_at}

abbrev pub found : {A : Type 0} → A → List ℕ → Result (A × List ℕ) ℕ
found x rest = Ok (x, rest)

pub field_again : {A : Type 0} (read : Reading ℕ A) (fits : A → Bool) (bytes rest : List ℕ) (x : A)
    → read (length bytes) bytes ≡ found x rest → fits x ≡ true → field read fits bytes ≡ found x rest
field_again read fits bytes rest x e fit = ap (judged (length bytes) fits) e ∙ rw fit refl

-- rows, each checked against those before it; `can` says that the first one is allowed there
pub rows_again : {A X : Type 0} (step : List A → Placed A) (spell : X → List ℕ) (view : X → A)
    (Can : List X → List X → Type 0)
    → ((done rows : List X) (x : X) (rest : List ℕ) → Can done (x ∷ rows)
    → (step (map view done) (spell x ++ rest) ≡ found (view x) rest) × Can (done ++ x ∷ []) rows)
    → (rows done : List X) (rest : List ℕ) → Can done rows
    → rows_at step (length rows) (map view done) (flat_map spell rows ++ rest)
    ≡ found (map view (done ++ rows)) rest
unfolding rows_at
rows_again step spell view Can each [] done rest can = ap (λ l. found (map view l) rest) (sym (append-nil done))
rows_again step spell view Can each (x ∷ rows) done rest can =
    let one = each done rows x (flat_map spell rows ++ rest) can in
    let bytes : flat_map spell (x ∷ rows) ++ rest ≡ spell x ++ (flat_map spell rows ++ rest) =
    ap (λ l. l ++ rest) (flat_map-cons spell x rows) ∙ append_assoc (spell x) (flat_map spell rows) rest in
    let grown : map view (done ++ x ∷ []) ≡ map view done ++ view x ∷ [] = map-append view done (x ∷ []) in
    let later = rows_again step spell view Can each rows (done ++ x ∷ []) rest one.1 in
    ap (rows_at step (suc (length rows)) (map view done)) bytes
    ∙ ap (λ r. onward r (λ row behind. rows_at step (length rows) (map view done ++ row ∷ []) behind)) one.0
    ∙ ap (λ l. rows_at step (length rows) l (flat_map spell rows ++ rest)) (sym grown)
    ∙ later ∙ ap (λ l. found (map view l) rest) (append_assoc done (x ∷ []) rows)

-- items that all differ: those before one item, and the item itself
apart_front : {X : Type 0} (alike : X → X → Bool) (xs ys : List X) → all_apart alike (xs ++ ys) ≡ true
    → all_apart alike xs ≡ true
apart_front alike [] ys e = refl
apart_front alike (x ∷ xs) ys e =
    let parts = both (not (list_any (alike x) (xs ++ ys))) (all_apart alike (xs ++ ys)) e in
    let none : list_any (alike x) xs ≡ false = any_front (alike x) xs ys (not-true _ parts.0) in
    rw none (apart_front alike xs ys parts.1)
  where
    any_front : {X : Type 0} (p : X → Bool) (xs ys : List X) → list_any p (xs ++ ys) ≡ false → list_any p xs ≡ false
    any_front p [] ys e = refl
    any_front p (z ∷ zs) ys e = by_test (p z) e (λ k. any_front p zs ys k)
      where
        by_test : (b : Bool) → (b || list_any p (zs ++ ys)) ≡ false
            → (list_any p (zs ++ ys) ≡ false → list_any p zs ≡ false) → (b || list_any p zs) ≡ false
        by_test true e later = absurd (cc)
        by_test false e later = later e

pub apart_here : {X : Type 0} (alike : X → X → Bool) (done rows : List X) (x : X) → all_apart alike (done ++ x ∷ rows)
    ≡ true → (list_any (λ y. alike y x) done ≡ false) × (all_apart alike ((done ++ x ∷ []) ++ rows) ≡ true)
apart_here alike done rows x e =
    let all : all_apart alike ((done ++ x ∷ []) ++ rows) ≡ true =
    ap (all_apart alike) (append_assoc done (x ∷ []) rows) ∙ e in
    let front = sym (apart_snoc alike done x) ∙ apart_front alike (done ++ x ∷ []) rows all in
    (not-true _ (both (all_apart alike done) (not (list_any (λ y. alike y x) done)) front).1, all)

-- ---- network keys

unfoldable pub bare_boot : NetKey → NetKey
bare_boot r =
    record {
      key = r.key;
      sequence = r.sequence;
      live = r.live;
      started = r.started;
      limit = r.limit;
      next = r.limit;
      floors = [];
    }

two_flags : (a b : Bool) → (bit (worth 1 a + worth 2 b) 0 ≡ a) × (bit (worth 1 a + worth 2 b) 1 ≡ b)
    × (nat_lt (worth 1 a + worth 2 b) 4 ≡ true)
two_flags true true = (refl, refl, refl)
two_flags true false = (refl, refl, refl)
two_flags false true = (refl, refl, refl)
two_flags false false = (refl, refl, refl)

pub record NetsCan (active : ℕ) (done rows : List NetKey) : Type 0 where
  pub keys : all_apart nets_alike (done ++ rows) ≡ true
  pub two : lives (done ++ rows) ≤ 2
  pub active_row : live_at active (done ++ rows) ≡ true
  pub limits : list_all limit_rule rows ≡ true
  pub fits : AllByRecursion NetFits rows

lives_boot : (rows : List NetKey) → lives (map bare_boot rows) ≡ lives rows
unfolding bare_boot
lives_boot [] = refl
lives_boot (r ∷ rs) = by_live r.live (lives_boot rs)
  where
    by_live : (b : Bool) → lives (map bare_boot rs) ≡ lives rs
        → length (if b then bare_boot r ∷ filter (λ (x : NetKey). x.live) (map bare_boot rs)
        else filter (λ (x : NetKey). x.live) (map bare_boot rs))
        ≡ length (if b then r ∷ filter (λ (x : NetKey). x.live) rs else filter (λ (x : NetKey). x.live) rs)
    by_live true e = rw e refl
    by_live false e = e

lives_more : (xs ys : List NetKey) → lives xs ≤ lives (xs ++ ys)
lives_more xs ys =
    omega (
      arith,
      ap (length {A = NetKey}) (filter-append (λ (x : NetKey). x.live) xs ys),
      length-append (filter (λ (x : NetKey). x.live) xs) (filter (λ (x : NetKey). x.live) ys),
    )

lives_one : (done : List NetKey) (r : NetKey) → r.live ≡ true → lives (done ++ r ∷ []) ≡ lives done + 1
lives_one done r live =
    let last : filter (λ (x : NetKey). x.live) (r ∷ []) ≡ r ∷ [] = rw live refl in
    ap (length {A = NetKey}) (filter-append (λ (x : NetKey). x.live) done (r ∷ [])) ∙ length-append
    (filter (λ (x : NetKey). x.live) done) (filter (λ (x : NetKey). x.live) (r ∷ [])) ∙ ap
    (λ l. lives done + length {A = NetKey} l) last

live_here : (place : ℕ) (done rows : List NetKey) (r : NetKey) → live_at place (done ++ r ∷ rows) ≡ true → place
    ≡ length done → r.live ≡ true
live_here zero [] rows r e same = e
live_here (suc place) [] rows r e same = absurd (omega (arith, same))
live_here zero (x ∷ done) rows r e same = absurd (omega (arith, same))
live_here (suc place) (x ∷ done) rows r e same = live_here place done rows r e (omega (arith, same))

flags_can : (active : ℕ) (done rows : List NetKey) (r : NetKey) → NetsCan active done (r ∷ rows)
    → net_flags_fit Third active (map bare_boot done) (worth 1 r.live + worth 2 r.started) ≡ true
flags_can active done rows r can =
    let flags = two_flags r.live r.started in
    rw (flags.2, flags.0) (by_live r.live refl)
  where
    all : lives ((done ++ r ∷ []) ++ rows) ≤ 2
    all = subst (λ l. lives l ≤ 2) (sym (append_assoc done (r ∷ []) rows)) can.two

    by_live : (b : Bool) → r.live ≡ b → (if b then nat_lt (lives (map bare_boot done)) 2
        else not (nat_eq active (length (map bare_boot done)))) ≡ true
    by_live true live =
        lt-ltb _ _ (omega (arith, lives_boot done, lives_one done r live, lives_more (done ++ r ∷ []) rows, all))
    by_live false dead =
        let apart : nat_eq active (length (map bare_boot done)) ≡ false =
        ne_eqb _ _
        (λ same. let live = live_here active done rows r can.active_row (same ∙ length-map done bare_boot) in
        absurd (cc (live, dead))) in
        rw apart refl

pub net_again : (declared active : ℕ) (done rows : List NetKey) (r : NetKey) (rest : List ℕ)
    → NetsCan active done (r ∷ rows)
    → (net_at Third declared active (map bare_boot done) (net_bytes r ++ rest) ≡ found (bare_boot r) rest)
    × NetsCan active (done ++ r ∷ []) rows
unfolding net_at bare_boot
net_again declared active done rows r rest can =
    let here = apart_here nets_alike done rows r can.keys in
    let limits = both (limit_rule r) (list_all limit_rule rows) can.limits in
    let k : Key = record { 0 = r.key } in
    let flags = worth 1 r.live + worth 2 r.started in
    let bits = two_flags r.live r.started in
    let tail : List ℕ = r.sequence ∷ flags ∷ (four_bytes r.limit ++ rest) in
    let new : is_new_net (map bare_boot done) k ≡ true = let none : has_net r.key (map bare_boot done) ≡ false =
    any_map (λ (x : NetKey). same_key x.key r.key) bare_boot done ∙ here.0 in rw none refl in
    let key_read = field_again key_at (is_new_net (map bare_boot done)) (r.key ++ tail) tail k
    (key_again (length (r.key ++ tail)) k tail can.fits.0.key) new in
    let flags_read = field_again byte_at (net_flags_fit Third active (map bare_boot done))
    (flags ∷ (four_bytes r.limit ++ rest)) (four_bytes r.limit ++ rest) flags refl
    (flags_can active done rows r can) in
    let allowed : allows_limit (bit flags 1) r.limit ≡ true = ap (λ b. allows_limit b r.limit) bits.1 ∙ limits.0 in
    let limit_read = field_again (number_at w32) (allows_limit (bit flags 1)) (four_bytes r.limit ++ rest) rest
    r.limit (number_again (length (four_bytes r.limit ++ rest)) w32 (2 ^ 32) wide32 r.limit rest can.fits.0.limit)
    allowed in
    let value : found {A = NetKey}
    (record {
      key = r.key;
      sequence = r.sequence;
      live = bit flags 0;
      started = bit flags 1;
      limit = r.limit;
      next = r.limit;
      floors = [];
    }) rest ≡ found (bare_boot r) rest = rw (bits.0, bits.1) refl in (
      ap (net_at Third declared active (map bare_boot done))
          (append_assoc r.key (r.sequence ∷ flags ∷ four_bytes r.limit) rest)
          ∙ rw (key_read, flags_read, limit_read) value,
      record {
        keys = here.1;
        two = subst (λ l. lives l ≤ 2) (sym (append_assoc done (r ∷ []) rows)) can.two;
        active_row = subst (λ l. live_at active l ≡ true) (sym (append_assoc done (r ∷ []) rows)) can.active_row;
        limits = limits.1;
        fits = can.fits.1;
      },
    )

-- ---- pairs

pub record PairsCan (done rows : List PairKey) : Type 0 where
  pub names : all_apart pairs_alike (done ++ rows) ≡ true
  pub order : list_all pair_rule rows ≡ true
  pub fits : AllByRecursion PairFits rows

unfoldable pub same_pair : PairKey → PairKey
same_pair p = p

pub map_same : (ps : List PairKey) → map same_pair ps ≡ ps
unfolding same_pair
map_same [] = refl
map_same (p ∷ ps) = ap (λ l. p ∷ l) (map_same ps)

pub pair_again : (done rows : List PairKey) (p : PairKey) (rest : List ℕ) → PairsCan done (p ∷ rows)
    → (pair_at (map same_pair done) (pair_bytes p ++ rest) ≡ found (same_pair p) rest) × PairsCan (done ++ p ∷ []) rows
unfolding pair_at same_pair
pair_again done rows p rest can =
    let here = apart_here pairs_alike done rows p can.names in
    let orders = both (pair_rule p) (list_all pair_rule rows) can.order in
    let a : Eui = record { 0 = p.first } in
    let b : Eui = record { 0 = p.second } in
    let k : Key = record { 0 = p.key } in
    let t3 : List ℕ = 1 ∷ rest in
    let t2 = p.key ++ t3 in
    let t1 = eight_bytes p.second ++ t2 in
    let none : list_any (is_pair p.first p.second) (map same_pair done) ≡ false =
    ap (list_any (is_pair p.first p.second)) (map_same done) ∙ here.0 in
    let new : is_new_pair (map same_pair done) a b ≡ true = rw (orders.0, none) refl in
    let regrouped : pair_bytes p ++ rest ≡ eight_bytes p.first ++ t1 = simp append_assoc in (
      ap (pair_at (map same_pair done)) regrouped
          ∙ rw (
            eui_again (length (eight_bytes p.first ++ t1)) a t1 can.fits.0.first,
            field_again eui_at (is_new_pair (map same_pair done) a) t1 t2 b
                (eui_again (length t1) b t2 can.fits.0.second) new,
            key_again (length t2) k t3 can.fits.0.key,
          ) refl,
      record { names = here.1; order = orders.1; fits = can.fits.1 },
    )

-- ---- floors

pub record SendersCan (done rows : List SenderFloor) : Type 0 where
  pub ascend : senders_ascend (done ++ rows) ≡ true
  pub some : list_all (λ (f : SenderFloor). nat_lt 0 f.stored) rows ≡ true
  pub fits : AllByRecursion (λ (f : SenderFloor). (f.sender < 2 ^ 64) × (f.stored < 2 ^ 32)) rows

all_below : (done rows : List SenderFloor) (f : SenderFloor) → senders_ascend (done ++ f ∷ rows) ≡ true
    → list_all (λ (g : SenderFloor). nat_lt g.sender f.sender) done ≡ true
all_below [] rows f e = refl
all_below (g ∷ done) rows f e =
    let parts = both (list_all (λ (h : SenderFloor). nat_lt g.sender h.sender) (done ++ f ∷ rows))
    (senders_ascend (done ++ f ∷ rows)) e in
    let split = both (list_all (λ (h : SenderFloor). nat_lt g.sender h.sender) done)
    (list_all (λ (h : SenderFloor). nat_lt g.sender h.sender) (f ∷ rows))
    (sym (list_all-append (λ (h : SenderFloor). nat_lt g.sender h.sender) done (f ∷ rows)) ∙ parts.0) in
    let here = both (nat_lt g.sender f.sender) (list_all (λ (h : SenderFloor). nat_lt g.sender h.sender) rows) split.1
    in
    rw here.0 (all_below done rows f parts.1)

all_booted : (e : ℕ) (done : List SenderFloor) → list_all (λ (f : SenderFloor). nat_lt f.sender e)
    (map booted_floor done) ≡ list_all (λ (f : SenderFloor). nat_lt f.sender e) done
all_booted e [] = refl
all_booted e (f ∷ fs) = ap (λ b. nat_lt f.sender e && b) (all_booted e fs)

sender_again : (done rows : List SenderFloor) (f : SenderFloor) (rest : List ℕ) → SendersCan done (f ∷ rows)
    → (sender_at (map booted_floor done) (sender_bytes f ++ rest) ≡ found (booted_floor f) rest)
    × SendersCan (done ++ f ∷ []) rows
unfolding sender_at
sender_again done rows f rest can =
    let some = both (nat_lt 0 f.stored) (list_all (λ (g : SenderFloor). nat_lt 0 g.stored) rows) can.some in
    let e : Eui = record { 0 = f.sender } in
    let t1 : List ℕ = four_bytes f.stored ++ rest in
    let last : is_last (map booted_floor done) e ≡ true = all_booted f.sender done ∙ all_below done rows f can.ascend
    in
    let sender_read = field_again eui_at (is_last (map booted_floor done)) (eight_bytes f.sender ++ t1) t1 e
    (eui_again (length (eight_bytes f.sender ++ t1)) e t1 can.fits.0.0) last in
    let stored_read = field_again (number_at w32) isnt_zero t1 rest f.stored
    (number_again (length t1) w32 (2 ^ 32) wide32 f.stored rest can.fits.0.1) some.0 in (
      ap (sender_at (map booted_floor done)) (append_assoc (eight_bytes f.sender) (four_bytes f.stored) rest) ∙ rw
          (sender_read, stored_read) refl,
      record {
        ascend = ap senders_ascend (append_assoc done (f ∷ []) rows) ∙ can.ascend;
        some = some.1;
        fits = can.fits.1;
      },
    )

floors_again : (r : NetKey) (rest : List ℕ) → NetFits r → floors_rule r ≡ true → floors_at (floors_bytes r ++ rest)
    ≡ found (map booted_floor r.floors) rest
unfolding floors_at
floors_again r rest fits rule =
    let parts = both (nat_le (length r.floors) most_senders) _ rule in
    let more = both (list_all (λ (f : SenderFloor). nat_lt 0 f.stored) r.floors) (senders_ascend r.floors) parts.1 in
    let few = field_again byte_at has_few (length r.floors ∷ (flat_map sender_bytes r.floors ++ rest))
    (flat_map sender_bytes r.floors ++ rest) (length r.floors) refl parts.0 in
    rw few (rows_again sender_at sender_bytes booted_floor SendersCan sender_again r.floors [] rest
    (record { ascend = more.1; some = more.0; fits = fits.floors }))

-- a network key as it is after a boot
unfoldable pub booted_row : NetKey → NetKey
booted_row r = shown_net (booted_net r)

row_floors : (r : NetKey) (rest : List ℕ) → NetFits r → floors_rule r ≡ true
    → live_floors_at (bare_boot r) ((if r.live then floors_bytes r else []) ++ rest) ≡ found (booted_row r) rest
unfolding bare_boot booted_row
row_floors r rest fits rule = by_live r.live
  where
    by_live : (b : Bool)
        → (if b then (floors_at >>= (λ floors. give (record (bare_boot r) { floors = floors })))
        ((if b then floors_bytes r else []) ++ rest) else Ok (bare_boot r, (if b then floors_bytes r else []) ++ rest))
        ≡ found (record (booted_net r) { floors = if b then map booted_floor r.floors else [] }) rest
    by_live true = rw (floors_again r rest fits rule) refl
    by_live false = refl

unfoldable pub live_bytes : NetKey → List ℕ
live_bytes r = if r.live then floors_bytes r else []

pub filtered : (rows : List NetKey) → flat_map floors_bytes (filter (λ (r : NetKey). r.live) rows)
    ≡ flat_map live_bytes rows
unfolding live_bytes
filtered [] = refl
filtered (r ∷ rs) = by_live r.live (filtered rs)
  where
    by_live : (b : Bool) → flat_map floors_bytes (filter (λ (x : NetKey). x.live) rs) ≡ flat_map live_bytes rs
        → flat_map floors_bytes (if b then r ∷ filter (λ (x : NetKey). x.live) rs
        else filter (λ (x : NetKey). x.live) rs) ≡ (if b then floors_bytes r else []) ++ flat_map live_bytes rs
    by_live true e = ap (λ l. floors_bytes r ++ l) e
    by_live false e = e

pub all_floors_again : (rows done : List NetKey) (rest : List ℕ) → AllByRecursion NetFits rows
    → list_all floors_rule rows ≡ true
    → all_floors_at (map booted_row done) (map bare_boot rows) (flat_map live_bytes rows ++ rest)
    ≡ found (map booted_row (done ++ rows)) rest
unfolding all_floors_at live_bytes
all_floors_again [] done rest fits rules = ap (λ l. found (map booted_row l) rest) (sym (append-nil done))
all_floors_again (r ∷ rs) done rest fits rules =
    let parts = both (floors_rule r) (list_all floors_rule rs) rules in
    let bytes : flat_map live_bytes (r ∷ rs) ++ rest ≡ live_bytes r ++ (flat_map live_bytes rs ++ rest) =
    ap (λ l. l ++ rest) (flat_map-cons live_bytes r rs) ∙ append_assoc (live_bytes r) (flat_map live_bytes rs)
    rest in
    let one = row_floors r (flat_map live_bytes rs ++ rest) fits.0 parts.0 in
    let grown : map booted_row (done ++ r ∷ []) ≡ map booted_row done ++ booted_row r
    ∷ [] = map-append booted_row done (r ∷ []) in
    ap (λ b. onward (live_floors_at (bare_boot r) b)
    (λ row behind. all_floors_at (map booted_row done ++ row ∷ []) (map bare_boot rs) behind)) bytes
    ∙ ap (λ x. onward x (λ row behind. all_floors_at (map booted_row done ++ row ∷ []) (map bare_boot rs) behind)) one
    ∙ ap (λ l. all_floors_at l (map bare_boot rs) (flat_map live_bytes rs ++ rest)) (sym grown)
    ∙ all_floors_again rs (done ++ r ∷ []) rest fits.1 parts.1 ∙ ap (λ l. found (map booted_row l) rest)
    (append_assoc done (r ∷ []) rs)

-- ---- link keys

three_flags : (a b c : Bool) → (bit (worth 1 a + (worth 2 b + worth 4 c)) 0 ≡ a)
    × (bit (worth 1 a + (worth 2 b + worth 4 c)) 1 ≡ b) × (bit (worth 1 a + (worth 2 b + worth 4 c)) 2 ≡ c)
    × (nat_lt (worth 1 a + (worth 2 b + worth 4 c)) 8 ≡ true)
three_flags true true true = (refl, refl, refl, refl)
three_flags true true false = (refl, refl, refl, refl)
three_flags true false true = (refl, refl, refl, refl)
three_flags true false false = (refl, refl, refl, refl)
three_flags false true true = (refl, refl, refl, refl)
three_flags false true false = (refl, refl, refl, refl)
three_flags false false true = (refl, refl, refl, refl)
three_flags false false false = (refl, refl, refl, refl)

-- the program's attribute for each one of the model
attribute_of : model.Attribute → Attribute
attribute_of Provisional = attribute.Provisional
attribute_of Unverified = attribute.Unverified
attribute_of Verified = attribute.Verified

attribute_same : (t : model.Attribute) → model_attribute (attribute_of t) ≡ t
unfolding attribute_of
attribute_same Provisional = refl
attribute_same Unverified = refl
attribute_same Verified = refl

pub record LinksCan (d : Role) (done rows : List LinkKey) : Type 0 where
  pub keys : all_apart links_alike (done ++ rows) ≡ true
  pub kinds : all_apart kinds_alike (done ++ rows) ≡ true
  pub told : all_apart told_apart (done ++ rows) ≡ true
  pub marks : list_all (is_marked d) rows ≡ true
  pub fits : AllByRecursion LinkFits rows

pub link_again : (d : Role) (done rows : List LinkKey) (r : LinkKey) (rest : List ℕ) → LinksCan d done (r ∷ rows)
    → (link_at d (map booted_link done) (link_bytes r ++ rest) ≡ found (booted_link r) rest)
    × LinksCan d (done ++ r ∷ []) rows
unfolding link_at
link_again d done rows r rest can =
    let keys = apart_here links_alike done rows r can.keys in
    let kinds = apart_here kinds_alike done rows r can.kinds in
    let told = apart_here told_apart done rows r can.told in
    let marks = both (is_marked d r) (list_all (is_marked d) rows) can.marks in
    let e : Eui = record { 0 = r.partner } in
    let k : Key = record { 0 = r.key } in
    let a : Attribute = attribute_of r.attribute in
    let flags = worth 1 r.live + (worth 2 r.code + worth 4 r.told) in
    let bits = three_flags r.live r.code r.told in
    let t4 : List ℕ = four_bytes r.stored ++ rest in
    let t3 : List ℕ = flags ∷ t4 in
    let t2 : List ℕ = attribute_byte r.attribute ∷ t3 in
    let t1 = r.key ++ t2 in
    let row : link_row r.partner r.key (model_attribute a) flags ≡ record r { kept = 0; stored = 0 } =
    rw (bits.0, bits.1, bits.2, attribute_same r.attribute) refl in
    let none_key : list_any (λ (x : LinkKey). same_key x.key r.key) (map booted_link done) ≡ false =
    any_map (λ (x : LinkKey). same_key x.key r.key) booted_link done ∙ keys.0 in
    let new : is_new_link (map booted_link done) k ≡ true = rw none_key refl in
    let none_kind : list_any (λ (y : LinkKey). kinds_alike y r) (map booted_link done) ≡ false =
    any_map (λ (y : LinkKey). kinds_alike y r) booted_link done ∙ kinds.0 in
    let none_told : list_any (λ (y : LinkKey). told_apart y r) (map booted_link done) ≡ false =
    any_map (λ (y : LinkKey). told_apart y r) booted_link done ∙ told.0 in
    let fit_row : link_fits d (map booted_link done) r ≡ true = rw (marks.0, none_kind, none_told) refl in
    let fit : link_flags_fit d (map booted_link done) r.partner r.key (model_attribute a) flags ≡ true =
    ap (λ b. b && link_fits d (map booted_link done) (link_row r.partner r.key (model_attribute a) flags)) bits.3
    ∙ ap (link_fits d (map booted_link done)) row ∙ fit_row in
    let partner_read = eui_again (length (eight_bytes r.partner ++ t1)) e t1 can.fits.0.partner in
    let key_read = field_again key_at (is_new_link (map booted_link done)) t1 t2 k
    (key_again (length t1) k t2 can.fits.0.key) new in
    let attribute_read : attribute_at (length t2) t2 ≡ found a t3 =
    ap (λ b. attribute_at (length t2) (attribute_byte b ∷ t3)) (sym (attribute_same r.attribute)) ∙
    attribute_again (length t2) a t3 in
    let flags_read = field_again byte_at (link_flags_fit d (map booted_link done) r.partner r.key (model_attribute a))
    t3 t4 flags refl fit in
    let floor_read = number_again (length t4) w32 (2 ^ 32) wide32 r.stored rest can.fits.0.stored in
    let value : found
    (record (link_row r.partner r.key (model_attribute a) flags) { kept = r.stored; stored = r.stored }) rest
    ≡ found (booted_link r) rest =
    ap (λ (x : LinkKey). found (record x { kept = r.stored; stored = r.stored }) rest) row in
    let regrouped : link_bytes r ++ rest ≡ eight_bytes r.partner ++ t1 = simp append_assoc in (
      ap (link_at d (map booted_link done)) regrouped ∙ rw
          (partner_read, key_read, attribute_read, flags_read, floor_read) value,
      record { keys = keys.1; kinds = kinds.1; told = told.1; marks = marks.1; fits = can.fits.1 },
    )
