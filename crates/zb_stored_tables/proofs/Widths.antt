-- What is read as a record has values within the widths of a record.
use Rattle.std.proofs.Common.{◌≡◌, ℕ, zero, suc, ◌<◌, ◌^◌, Bool, true, false, if◌then◌else◌, List, [], ◌∷◌, ◌++◌, length, take, drop, get_or, Option, Some, None, Result, Ok, Err, nat_lt, refl, ap, subst, arith, ltb-false, ◌==◌}
use Rattle.std.specs.Int.{Width, w16, w32, w64, byte_len, from_le_bytes}
use Rattle.std.specs.List.{AllByRecursion}
use Rattle.std.proofs.lemmas.List.{length-take}
use Rattle.zb_base.specs.declared.address.Eui.{Eui}
use Rattle.zb_base.specs.declared.key.Key.{Key}
use Rattle.zb_node_types.specs.Changes.{model_role, model_attribute}
use Rattle.zb_cursor.specs.Reading.{Reading, byte_at, bytes_at, number_at, eui_at, key_at}
use Rattle.zb_model.specs.Data.{Role}
use Rattle.zb_model.specs.State.{SenderFloor, NetKey, LinkKey, PairKey, NodeState}
use Rattle.zb_record.specs.declared.version.Version.{Version}
use Rattle.zb_record.specs.declared.version.Version.TheVariants.{First, Second, Third}
use Rattle.zb_record.specs.declared.record.Node.{Node}
use Rattle.zb_record.specs.declared.record.Head.{Head}
use Rattle.zb_record.specs.Fields.{chosen, version_of, role_of, state_of, rollover_of, attribute_of, version_at, role_at, state_at, rollover_at, attribute_at}
use Rattle.zb_record.specs.Placed.{Placed, ◌>>=◌, give, judged, field, whole, rows_at}
use Rattle.zb_record.specs.Ranges.{IsKey, NetFits, LinkFits, PairFits, FitsBytes}
use Rattle.zb_record.specs.Rows.{net_at, net_flags_fit, net_limit_at, is_started, is_new_net, allows_limit, sender_at, floors_at, live_floors_at, all_floors_at, is_last, isnt_zero, has_few, link_at, links_at, is_new_link, link_flags_fit, has_link_room, pair_at, all_pairs_at, pairs_at, is_new_pair, is_one, has_pair_room}
use Rattle.zb_record.specs.Records.{may_enter, may_roll, node_at, head_at, has_net_room, is_place, nets_at, state_from, record_at, record_read, ended}
use Rattle.zb_record.proofs.Sound.{both_read}

abbrev pub AreBytes : List ℕ → Type 0
AreBytes bytes = AllByRecursion (λ b. b < 256) bytes

abbrev pub found : {A : Type 0} → A → List ℕ → Result (A × List ℕ) ℕ
found x rest = Ok (x, rest)

byte_of : (bytes : List ℕ) → AreBytes bytes → (i : ℕ) → get_or bytes i 0 < 256
byte_of [] a i = omega arith
byte_of (b ∷ bytes) a zero = a.0
byte_of (b ∷ bytes) a (suc i) = byte_of bytes a.1 i

dropped : (n : ℕ) (bytes : List ℕ) → AreBytes bytes → AreBytes (drop n bytes)
dropped zero bytes a = a
dropped (suc n) [] a = a
dropped (suc n) (b ∷ bytes) a = dropped n bytes a.1

taken : (n : ℕ) (bytes : List ℕ) → AreBytes bytes → AreBytes (take n bytes)
taken zero bytes a = tt
taken (suc n) [] a = tt
taken (suc n) (b ∷ bytes) a = (a.0, taken n bytes a.1)

below32 : (bytes : List ℕ) → AreBytes bytes → from_le_bytes w32 bytes < 2 ^ 32
below32 bytes a = let s = byte_of bytes a in omega (arith, s 0, s 1, s 2, s 3)

below64 : (bytes : List ℕ) → AreBytes bytes → from_le_bytes w64 bytes < 2 ^ 64
below64 bytes a = let s = byte_of bytes a in omega (arith, s 0, s 1, s 2, s 3, s 4, s 5, s 6, s 7)

-- What is given is what was found, and the rest is what is left.
pub record Given {A : Type 0} (x y : A) (bytes rest : List ℕ) : Type 0 where
  pub value : x ≡ y
  pub left : bytes ≡ rest

pub given : {A : Type 0} (x y : A) (bytes rest : List ℕ) → found x bytes ≡ found y rest → Given x y bytes rest
given {A} x y bytes rest e =
    let pair : (x, bytes) ≡ (y, rest) = cc in
    record { value = ap (λ (z : A × List ℕ). z.0) pair; left = ap (λ (z : A × List ℕ). z.1) pair }

-- ---- fields

-- what is read of bytes has a property, and bytes are left
abbrev pub Keeps : (A : Type 0) → (A → Type 0) → Reading ℕ A → Type 0
Keeps A P read = (cut : ℕ) (bytes rest : List ℕ) (x : A) → AreBytes bytes → read cut bytes ≡ found x rest → P x
    × AreBytes rest

abbrev pub Any : (A : Type 0) → A → Type 0
Any A x = Unit {0}

abbrev pub Below32 : ℕ → Type 0
Below32 n = n < 2 ^ 32

abbrev pub IsEui : Eui → Type 0
IsEui e = e.0 < 2 ^ 64

byte_keeps : Keeps ℕ (Any ℕ) byte_at
byte_keeps cut [] rest x a e = absurd (cc)
byte_keeps cut (b ∷ bytes) rest x a e = (tt, subst AreBytes (given b x bytes rest e).left a.1)

number_keeps : (w : Width) (P : ℕ → Type 0) → ((bytes : List ℕ) → AreBytes bytes → P (from_le_bytes w bytes))
    → Keeps ℕ P (number_at w)
unfolding number_at
number_keeps w P below cut bytes rest x a e = by_test (nat_lt (length bytes) (byte_len w)) e
  where
    by_test : (b : Bool)
        → (if b then Err cut else found (from_le_bytes w (take (byte_len w) bytes)) (drop (byte_len w) bytes))
        ≡ found x rest → P x × AreBytes rest
    by_test true e = absurd (cc)
    by_test false e =
        let g = given (from_le_bytes w (take (byte_len w) bytes)) x (drop (byte_len w) bytes) rest e in (
          subst P g.value (below (take (byte_len w) bytes) (taken (byte_len w) bytes a)),
          subst AreBytes g.left (dropped (byte_len w) bytes a),
        )

pub number32 : Keeps ℕ Below32 (number_at w32)
number32 = number_keeps w32 Below32 below32

number16 : Keeps ℕ (Any ℕ) (number_at w16)
number16 = number_keeps w16 (Any ℕ) (λ bytes a. tt)

pub eui_keeps : Keeps Eui IsEui eui_at
unfolding eui_at
eui_keeps cut bytes rest x a e = by_number (number_at w64 cut bytes) refl e
  where
    by_number : (r : Result (ℕ × List ℕ) ℕ) → number_at w64 cut bytes ≡ r
        → Rattle.zb_cursor.specs.Reading.follow {B = Eui} r (λ n left. Ok (record { 0 = n }, left)) ≡ found x rest
        → IsEui x × AreBytes rest
    by_number (Ok y) is e =
        let k = number_keeps w64 (λ n. n < 2 ^ 64) below64 cut bytes y.1 y.0 a is in
        let eui : Eui = record { 0 = y.0 } in
        let g = given eui x y.1 rest e in
        (subst IsEui g.value k.0, subst AreBytes g.left k.1)
    by_number (Err f) is e = absurd (cc)

pub key_keeps : Keeps Key IsKey key_at
unfolding key_at bytes_at
key_keeps cut bytes rest x a e = by_test (nat_lt (length bytes) 16) refl e
  where
    key : Key
    key = record { 0 = take 16 bytes }

    by_test : (b : Bool) → nat_lt (length bytes) 16 ≡ b → Rattle.zb_cursor.specs.Reading.follow {B = Key}
        (if b then Err cut else found (take 16 bytes) (drop 16 bytes)) (λ xs left. Ok (record { 0 = xs }, left))
        ≡ found x rest → IsKey x × AreBytes rest
    by_test true is e = absurd (cc)
    by_test false is e =
        let g = given {A = Key} (record { 0 = take 16 bytes }) x (drop 16 bytes) rest e in
        let long : length (take 16 bytes) ≡ 16 = omega (arith, length-take 16 bytes, ltb-false (length bytes) 16 is) in
        (subst IsKey g.value long, subst AreBytes g.left (dropped 16 bytes a))

-- a byte that represents a value
pub pick_keeps : (A : Type 0) (pick : ℕ → Option A)
    → Keeps A (Any A)
    (λ cut bytes. Rattle.zb_cursor.specs.Reading.follow (byte_at cut bytes) (λ b left. chosen (pick b) cut left))
pick_keeps A pick cut [] rest x a e = absurd (cc)
pick_keeps A pick cut (b ∷ bytes) rest x a e = by_value (pick b) e
  where
    by_value : (o : Option A) → chosen o cut bytes ≡ found x rest → Any A x × AreBytes rest
    by_value None e = absurd (cc)
    by_value (Some y) e = (tt, subst AreBytes (given y x bytes rest e).left a.1)

-- ---- fields with their places

abbrev Holds : (A : Type 0) → (A → Type 0) → Placed A → Type 0
Holds A P read = (bytes rest : List ℕ) (x : A) → AreBytes bytes → read bytes ≡ found x rest → P x × AreBytes rest

field_holds : (A : Type 0) (P : A → Type 0) (read : Reading ℕ A) (fits : A → Bool) → Keeps A P read
    → Holds A P (field read fits)
field_holds A P read fits keeps bytes rest x a e = by_read (read (length bytes) bytes) refl e
  where
    by_test : (b : Bool) (y : A × List ℕ) → read (length bytes) bytes ≡ found y.0 y.1
        → (if b then Ok y else Err (length bytes)) ≡ found x rest → P x × AreBytes rest
    by_test true y is e =
        let k = keeps (length bytes) bytes y.1 y.0 a is in
        let g = given y.0 x y.1 rest e in
        (subst P g.value k.0, subst AreBytes g.left k.1)
    by_test false y is e = absurd (cc)

    by_read : (r : Result (A × List ℕ) ℕ) → read (length bytes) bytes ≡ r → judged (length bytes) fits r
        ≡ found x rest → P x × AreBytes rest
    by_read (Ok y) is e = by_test (fits y.0) y is e
    by_read (Err f) is e = absurd (cc)

all_snoc : (A : Type 0) (P : A → Type 0) (done : List A) (x : A) → AllByRecursion P done → P x
    → AllByRecursion P (done ++ x ∷ [])
all_snoc A P [] x all p = (p, tt)
all_snoc A P (y ∷ done) x all p = (all.0, all_snoc A P done x all.1 p)

rows_hold : (A : Type 0) (P : A → Type 0) (step : List A → Placed A) → ((done : List A) → Holds A P (step done))
    → (n : ℕ) (done : List A) → AllByRecursion P done → Holds (List A) (AllByRecursion P) (rows_at step n done)
unfolding rows_at
rows_hold A P step each zero done all bytes rest rows a e = let g =
    given done rows bytes rest e in (subst (AllByRecursion P) g.value all, subst AreBytes g.left a)
rows_hold A P step each (suc n) done all bytes rest rows a e =
    let b = both_read (step done) (λ row. rows_at step n (done ++ row ∷ [])) bytes rest rows e in
    let one = each done bytes b.between b.value a b.one in
    rows_hold A P step each n (done ++ b.value ∷ []) (all_snoc A P done b.value all one.0) b.between rest rows one.1
    b.two

-- ---- network keys

limit_holds : (version : Version) (declared : ℕ) (started : Bool) → declared < 2 ^ 32
    → Holds ℕ Below32 (net_limit_at version declared started)
limit_holds First declared started small bytes rest x a e = let g =
    given declared x bytes rest e in (subst Below32 g.value small, subst AreBytes g.left a)
limit_holds Second declared started small bytes rest x a e =
    field_holds ℕ Below32 (number_at w32) (allows_limit started) number32 bytes rest x a e
limit_holds Third declared started small bytes rest x a e =
    field_holds ℕ Below32 (number_at w32) (allows_limit started) number32 bytes rest x a e

net_holds : (version : Version) (declared active : ℕ) → declared < 2 ^ 32 → (done : List NetKey)
    → Holds NetKey NetFits (net_at version declared active done)
unfolding net_at
net_holds version declared active small done bytes rest x n e =
    let a = both_read (field key_at (is_new_net done)) _ bytes rest x e in
    let a1 = field_holds Key IsKey key_at (is_new_net done) key_keeps bytes a.between a.value n a.one in
    let b = both_read (whole byte_at) _ a.between rest x a.two in
    let b1 = byte_keeps (length a.between) a.between b.between b.value a1.1 b.one in
    let c = both_read (field byte_at (net_flags_fit version active done)) _ b.between rest x b.two in
    let c1 = field_holds ℕ (Any ℕ) byte_at (net_flags_fit version active done) byte_keeps b.between c.between c.value
    b1.1 c.one in
    let f = both_read (net_limit_at version declared (is_started version c.value)) _ c.between rest x c.two in
    let f1 = limit_holds version declared (is_started version c.value) small c.between f.between f.value c1.1 f.one in
    let g = given _ x f.between rest f.two in
    (subst NetFits g.value (record { key = a1.0; limit = f1.0; floors = tt }), subst AreBytes g.left f1.1)

abbrev FloorFits : SenderFloor → Type 0
FloorFits f = (f.sender < 2 ^ 64) × (f.stored < 2 ^ 32)

sender_holds : (done : List SenderFloor) → Holds SenderFloor FloorFits (sender_at done)
unfolding sender_at
sender_holds done bytes rest x n e =
    let a = both_read (field eui_at (is_last done)) _ bytes rest x e in
    let a1 = field_holds Eui IsEui eui_at (is_last done) eui_keeps bytes a.between a.value n a.one in
    let b = both_read (field (number_at w32) isnt_zero) _ a.between rest x a.two in
    let b1 = field_holds ℕ Below32 (number_at w32) isnt_zero number32 a.between b.between b.value a1.1 b.one in
    let g = given _ x b.between rest b.two in
    (subst FloorFits g.value (a1.0, b1.0), subst AreBytes g.left b1.1)

floors_hold : Holds (List SenderFloor) (AllByRecursion FloorFits) floors_at
unfolding floors_at
floors_hold bytes rest fs n e =
    let a = both_read (field byte_at has_few) _ bytes rest fs e in
    let a1 = field_holds ℕ (Any ℕ) byte_at has_few byte_keeps bytes a.between a.value n a.one in
    rows_hold SenderFloor FloorFits sender_at sender_holds a.value [] tt a.between rest fs a1.1 a.two

live_hold : (r : NetKey) → NetFits r → Holds NetKey NetFits (live_floors_at r)
live_hold r fits bytes rest row n e = by_live r.live e
  where
    by_live : (b : Bool) → (if b then (floors_at >>= (λ floors. give (record r { floors = floors }))) bytes
        else Ok (r, bytes)) ≡ found row rest → NetFits row × AreBytes rest
    by_live true e =
        let a = both_read floors_at (λ floors. give (record r { floors = floors })) bytes rest row e in
        let a1 = floors_hold bytes a.between a.value n a.one in
        let g = given (record r { floors = a.value }) row a.between rest a.two in (
          subst NetFits g.value (record { key = fits.key; limit = fits.limit; floors = a1.0 }),
          subst AreBytes g.left a1.1,
        )
    by_live false e = let g = given r row bytes rest e in (subst NetFits g.value fits, subst AreBytes g.left n)

all_hold : (rs done : List NetKey) → AllByRecursion NetFits rs → AllByRecursion NetFits done
    → Holds (List NetKey) (AllByRecursion NetFits) (all_floors_at done rs)
unfolding all_floors_at
all_hold [] done fits all bytes rest rows n e = let g =
    given done rows bytes rest e in (subst (AllByRecursion NetFits) g.value all, subst AreBytes g.left n)
all_hold (r ∷ rs) done fits all bytes rest rows n e =
    let a = both_read (live_floors_at r) (λ row. all_floors_at (done ++ row ∷ []) rs) bytes rest rows e in
    let a1 = live_hold r fits.0 bytes a.between a.value n a.one in
    all_hold rs (done ++ a.value ∷ []) fits.1 (all_snoc NetKey NetFits done a.value all a1.0) a.between rest rows a1.1
    a.two

nets_hold : (h : Head) → h.declared < 2 ^ 32 → Holds (List NetKey) (AllByRecursion NetFits) (nets_at h)
unfolding nets_at
nets_hold h small bytes rest rows n e =
    let step = net_at h.node.version h.declared h.active in
    let a = both_read (rows_at step h.nets []) (λ l. all_floors_at [] l) bytes rest rows e in
    let a1 = rows_hold NetKey NetFits step (net_holds h.node.version h.declared h.active small) h.nets [] tt bytes
    a.between a.value n a.one in
    all_hold a.value [] a1.0 tt a.between rest rows a1.1 a.two

-- ---- link keys

attribute_keeps : Keeps _ (Any _) attribute_at
unfolding attribute_at
attribute_keeps = pick_keeps _ attribute_of

link_holds : (d : Role) (done : List LinkKey) → Holds LinkKey LinkFits (link_at d done)
unfolding link_at
link_holds d done bytes rest x n e =
    let a = both_read (whole eui_at) _ bytes rest x e in
    let a1 = eui_keeps (length bytes) bytes a.between a.value n a.one in
    let b = both_read (field key_at (is_new_link done)) _ a.between rest x a.two in
    let b1 = field_holds Key IsKey key_at (is_new_link done) key_keeps a.between b.between b.value a1.1 b.one in
    let c = both_read (whole attribute_at) _ b.between rest x b.two in
    let c1 = attribute_keeps (length b.between) b.between c.between c.value b1.1 c.one in
    let f = both_read (field byte_at (link_flags_fit d done a.value.0 b.value.0 (model_attribute c.value))) _
    c.between rest x c.two in
    let f1 = field_holds ℕ (Any ℕ) byte_at (link_flags_fit d done a.value.0 b.value.0 (model_attribute c.value))
    byte_keeps c.between f.between f.value c1.1 f.one in
    let g = both_read (whole (number_at w32)) _ f.between rest x f.two in
    let g1 = number32 (length f.between) f.between g.between g.value f1.1 g.one in
    let h = given _ x g.between rest g.two in
    (subst LinkFits h.value (record { partner = a1.0; key = b1.0; stored = g1.0 }), subst AreBytes h.left g1.1)

links_hold : (d : Role) → Holds (List LinkKey) (AllByRecursion LinkFits) (links_at d)
unfolding links_at
links_hold d bytes rest rows n e =
    let a = both_read (field (number_at w16) (has_link_room d)) _ bytes rest rows e in
    let a1 = field_holds ℕ (Any ℕ) (number_at w16) (has_link_room d) number16 bytes a.between a.value n a.one in
    rows_hold LinkKey LinkFits (link_at d) (link_holds d) a.value [] tt a.between rest rows a1.1 a.two

-- ---- pairs

pair_holds : (done : List PairKey) → Holds PairKey PairFits (pair_at done)
unfolding pair_at
pair_holds done bytes rest x n e =
    let a = both_read (whole eui_at) _ bytes rest x e in
    let a1 = eui_keeps (length bytes) bytes a.between a.value n a.one in
    let b = both_read (field eui_at (is_new_pair done a.value)) _ a.between rest x a.two in
    let b1 = field_holds Eui IsEui eui_at (is_new_pair done a.value) eui_keeps a.between b.between b.value a1.1 b.one
    in
    let c = both_read (whole key_at) _ b.between rest x b.two in
    let c1 = key_keeps (length b.between) b.between c.between c.value b1.1 c.one in
    let f = both_read (field byte_at is_one) _ c.between rest x c.two in
    let f1 = field_holds ℕ (Any ℕ) byte_at is_one byte_keeps c.between f.between f.value c1.1 f.one in
    let h = given _ x f.between rest f.two in
    (subst PairFits h.value (record { first = a1.0; second = b1.0; key = c1.0 }), subst AreBytes h.left f1.1)

pairs_hold : (version : Version) (d : Role) → Holds (List PairKey) (AllByRecursion PairFits) (pairs_at version d)
unfolding all_pairs_at
pairs_hold First d bytes rest rows n e = let g =
    given [] rows bytes rest e in (subst (AllByRecursion PairFits) g.value tt, subst AreBytes g.left n)
pairs_hold Second d bytes rest rows n e = let g =
    given [] rows bytes rest e in (subst (AllByRecursion PairFits) g.value tt, subst AreBytes g.left n)
pairs_hold Third d bytes rest rows n e =
    let a = both_read (field (number_at w16) (has_pair_room d)) _ bytes rest rows e in
    let a1 = field_holds ℕ (Any ℕ) (number_at w16) (has_pair_room d) number16 bytes a.between a.value n a.one in
    rows_hold PairKey PairFits pair_at pair_holds a.value [] tt a.between rest rows a1.1 a.two

-- ---- the whole

version_keeps : Keeps _ (Any _) version_at
unfolding version_at
version_keeps = pick_keeps _ version_of

role_keeps : Keeps _ (Any _) role_at
unfolding role_at
role_keeps = pick_keeps _ role_of

state_keeps : Keeps _ (Any _) state_at
unfolding state_at
state_keeps = pick_keeps _ state_of

rollover_keeps : Keeps _ (Any _) rollover_at
unfolding rollover_at
rollover_keeps = pick_keeps _ rollover_of

node_holds : Holds Node (Any Node) node_at
unfolding node_at
node_holds bytes rest x n e =
    let a = both_read (whole version_at) _ bytes rest x e in
    let a1 = version_keeps (length bytes) bytes a.between a.value n a.one in
    let b = both_read (whole role_at) _ a.between rest x a.two in
    let b1 = role_keeps (length a.between) a.between b.between b.value a1.1 b.one in
    let c = both_read (field state_at (may_enter b.value)) _ b.between rest x b.two in
    let c1 = field_holds _ (Any _) state_at (may_enter b.value) state_keeps b.between c.between c.value b1.1 c.one in
    let g = given _ x c.between rest c.two in
    (tt, subst AreBytes g.left c1.1)

abbrev HeadFits : Head → Type 0
HeadFits h = (h.declared < 2 ^ 32) × (h.aps_limit < 2 ^ 32)

head_holds : (node : Node) → Holds Head HeadFits (head_at node)
unfolding head_at
head_holds node bytes rest x n e =
    let a = both_read (whole (number_at w32)) _ bytes rest x e in
    let a1 = number32 (length bytes) bytes a.between a.value n a.one in
    let b = both_read (whole (number_at w32)) _ a.between rest x a.two in
    let b1 = number32 (length a.between) a.between b.between b.value a1.1 b.one in
    let c = both_read (field rollover_at (may_roll node.role)) _ b.between rest x b.two in
    let c1 = field_holds _ (Any _) rollover_at (may_roll node.role) rollover_keeps b.between c.between c.value b1.1
    c.one in
    let d = both_read (field (number_at w16) has_net_room) _ c.between rest x c.two in
    let d1 = field_holds ℕ (Any ℕ) (number_at w16) has_net_room number16 c.between d.between d.value c1.1 d.one in
    let f = both_read (field (number_at w16) (is_place d.value)) _ d.between rest x d.two in
    let f1 = field_holds ℕ (Any ℕ) (number_at w16) (is_place d.value) number16 d.between f.between f.value d1.1 f.one
    in
    let g = given _ x f.between rest f.two in
    (subst HeadFits g.value (a1.0, b1.0), subst AreBytes g.left f1.1)

record_holds : Holds NodeState FitsBytes record_at
unfolding record_at
record_holds bytes rest s n e =
    let a = both_read node_at _ bytes rest s e in
    let a1 = node_holds bytes a.between a.value n a.one in
    let b = both_read (head_at a.value) _ a.between rest s a.two in
    let b1 = head_holds a.value a.between b.between b.value a1.1 b.one in
    let c = both_read (nets_at b.value) _ b.between rest s b.two in
    let c1 = nets_hold b.value b1.0.0 b.between c.between c.value b1.1 c.one in
    let d = both_read (links_at (model_role a.value.role)) _ c.between rest s c.two in
    let d1 = links_hold (model_role a.value.role) c.between d.between d.value c1.1 d.one in
    let f = both_read (pairs_at a.value.version (model_role a.value.role)) _ d.between rest s d.two in
    let f1 = pairs_hold a.value.version (model_role a.value.role) d.between f.between f.value d1.1 f.one in
    let g = given (state_from b.value c.value d.value f.value) s f.between rest f.two in (
      subst FitsBytes g.value
          (record { declared = b1.0.0; aps_limit = b1.0.1; nets = c1.0; links = d1.0; pairs = f1.0 }),
      subst AreBytes g.left f1.1,
    )

pub read_fits : (bytes : List ℕ) (s : NodeState) → AllByRecursion (λ b. b < 256) bytes → record_read bytes ≡ Ok s
    → FitsBytes s
unfolding record_read
read_fits bytes s n e = by_result (record_at bytes) refl e
  where
    answered : NodeState → Result NodeState ℕ
    answered t = Ok t

    by_end : (x : NodeState × List ℕ) (b : Bool) → record_at bytes ≡ found x.0 x.1
        → (if b then answered x.0 else Err (length x.1)) ≡ answered s → FitsBytes s
    by_end x true is e = let same : x.0 ≡ s = cc in subst FitsBytes same (record_holds bytes x.1 x.0 n is).0
    by_end x false is e = absurd (cc)

    by_result : (r : Result (NodeState × List ℕ) ℕ) → record_at bytes ≡ r → ended r ≡ answered s → FitsBytes s
    by_result (Ok x) is e = by_end x (length x.1 == 0) is e
    by_result (Err left) is e = absurd (cc)
