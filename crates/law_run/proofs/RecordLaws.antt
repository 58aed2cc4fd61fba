-- The record of a state is read back as the state after a boot.
use Rattle.std.proofs.Common.{◌≡◌, ℕ, zero, suc, ◌+◌, ◌<◌, ◌≤◌, ◌^◌, Bool, true, false, cond, ltb, List, [], ◌∷◌, ◌++◌, map, filter, length, take, drop, slice_get, Option, Some, None, option_map, find, is_some, nat_eq, flat_map, refl, sym, ap, ◌∙◌, subst, arith, append_assoc, length-append}
use Rattle.std.proofs.lemmas.Bool.{false≢true, le-ltb}
use Rattle.std.proofs.lemmas.List.{take_at, drop_at}
use Rattle.std.proofs.lemmas.Nat.{from_le_bytes-to_le_bytes_2, from_le_bytes-to_le_bytes_4, from_le_bytes-to_le_bytes_8}
use Rattle.std.specs.Int.{Width, w16, w32, w64, byte_len, from_le_bytes, to_le_bytes}
use Rattle.std.specs.List.{AllByRecursion}
use Rattle.zb_model.specs.Data.{Bytes, Role, Centre, Router, Device, State, Fresh, Knocked, Joined, Offered, Confirmed, Rejoining, Gone, Attribute, Provisional, Unverified, Verified}
use Rattle.zb_model.specs.State.{SenderFloor, NetKey, LinkKey, PairKey, NodeState, same_key, live_nets, booted_floor, booted_net, booted_link, after_boot, shown_net, shown}
use Rattle.zb_model.specs.Record.{role_byte, state_byte, attribute_byte, worth, place_from, active_place, net_bytes, sender_bytes, floors_bytes, link_bytes, pair_bytes, four_bytes, record_of}
use Rattle.law_run.specs.Records.{Taking, follow, chosen, some_bytes, a_number, so_many, role_of_byte, state_of_byte, attribute_of_byte, yes_or_no, two_flags, three_flags, net_at, sender_at, floors_at, with_floors, link_at, pair_at, active_at, record_at, whole, state_in, NetFits, LinkFits, PairFits, HasActive, FitsRecord}
use Rattle.zb_model.specs.Lines.{Line, Boot}
use Rattle.zb_model.specs.Readings.{state_of, heard_line, after, speaker}
use Rattle.law_run.proofs.Basics.{same_key-eq, append-nil', nat_eq-refl, state-snoc}
use Rattle.law_run.proofs.Nets.{at_key}

-- Fields

bytes-again : (n : ℕ) (xs rest : Bytes) → length xs ≡ n → some_bytes n (xs ++ rest) ≡ Some (xs, rest)
unfolding some_bytes
bytes-again n xs rest len =
    let long : ltb (length (xs ++ rest)) n ≡ false = le-ltb _ _ (omega (arith, length-append xs rest)) in
    rw (long, take_at xs rest n len, drop_at xs rest n len) refl

record Wide (w : Width) (limit : ℕ) : Type 0 where
  len : (n : ℕ) → length (to_le_bytes w n) ≡ byte_len w
  again : (n : ℕ) → n < limit → from_le_bytes w (to_le_bytes w n) ≡ n

wide16 : Wide w16 (2 ^ 16)
wide16 = record { len = λ n. refl; again = λ n lt. from_le_bytes-to_le_bytes_2 n lt }

wide32 : Wide w32 (2 ^ 32)
wide32 = record { len = λ n. refl; again = λ n lt. from_le_bytes-to_le_bytes_4 n lt }

wide64 : Wide w64 (2 ^ 64)
wide64 = record { len = λ n. refl; again = λ n lt. from_le_bytes-to_le_bytes_8 n lt }

number-again : (w : Width) (limit : ℕ) → Wide w limit → (n : ℕ) (rest : Bytes) → n < limit
    → a_number w (to_le_bytes w n ++ rest) ≡ Some (n, rest)
unfolding a_number
number-again w limit wide n rest lt =
    let len = wide.len n in
    let long : ltb (length (to_le_bytes w n ++ rest)) (byte_len w) ≡ false =
    le-ltb _ _ (omega (arith, length-append (to_le_bytes w n) rest)) in
    rw (
      long,
      take_at (to_le_bytes w n) rest (byte_len w) len,
      drop_at (to_le_bytes w n) rest (byte_len w) len,
      wide.again n lt,
    ) refl

two-again : (n : ℕ) (rest : Bytes) → n < 2 ^ 16 → a_number w16 (to_le_bytes w16 n ++ rest) ≡ Some (n, rest)
two-again n rest lt = number-again w16 (2 ^ 16) wide16 n rest lt

four-again : (n : ℕ) (rest : Bytes) → n < 2 ^ 32 → a_number w32 (to_le_bytes w32 n ++ rest) ≡ Some (n, rest)
four-again n rest lt = number-again w32 (2 ^ 32) wide32 n rest lt

eight-again : (n : ℕ) (rest : Bytes) → n < 2 ^ 64 → a_number w64 (to_le_bytes w64 n ++ rest) ≡ Some (n, rest)
eight-again n rest lt = number-again w64 (2 ^ 64) wide64 n rest lt

role-again : (d : Role) → role_of_byte (role_byte d) ≡ Some d
unfolding role_of_byte
role-again Centre = refl
role-again Router = refl
role-again Device = refl

state-again : (g : State) → state_of_byte (state_byte g) ≡ Some g
unfolding state_of_byte
state-again Fresh = refl
state-again Knocked = refl
state-again Joined = refl
state-again Offered = refl
state-again Confirmed = refl
state-again Rejoining = refl
state-again Gone = refl

attribute-again : (t : Attribute) → attribute_of_byte (attribute_byte t) ≡ Some t
unfolding attribute_of_byte
attribute-again Provisional = refl
attribute-again Unverified = refl
attribute-again Verified = refl

roll-again : (b : Bool) → yes_or_no (worth 1 b) ≡ Some b
unfolding yes_or_no
roll-again true = refl
roll-again false = refl

two-flags-again : (a b : Bool) → two_flags (worth 1 a + worth 2 b) ≡ Some (a, b)
unfolding two_flags
two-flags-again false false = refl
two-flags-again true false = refl
two-flags-again false true = refl
two-flags-again true true = refl

three-flags-again : (a b c : Bool) → three_flags (worth 1 a + (worth 2 b + worth 4 c)) ≡ Some (a, b, c)
unfolding three_flags
three-flags-again false false false = refl
three-flags-again true false false = refl
three-flags-again false true false = refl
three-flags-again true true false = refl
three-flags-again false false true = refl
three-flags-again true false true = refl
three-flags-again false true true = refl
three-flags-again true true true = refl

many-again : {A B : Type 0} (read : Taking B) (spell : A → Bytes) (view : A → B) (Fits : A → Type 0)
    → ((x : A) (rest : Bytes) → Fits x → read (spell x ++ rest) ≡ Some (view x, rest))
    → (xs : List A) (rest : Bytes) → AllByRecursion Fits xs → so_many read (length xs) (flat_map spell xs ++ rest)
    ≡ Some (map view xs, rest)
unfolding so_many follow chosen
many-again read spell view Fits again [] rest a = refl
many-again read spell view Fits again (x ∷ xs) rest a =
    ap (λ bytes. follow (read bytes)
    (λ y end_. follow (so_many read (length xs) end_) (λ ys last. Some (y ∷ ys, last))))
    (append_assoc (spell x) (flat_map spell xs) rest)
    ∙ rw (again x (flat_map spell xs ++ rest) a.0, many-again read spell view Fits again xs rest a.1) refl

-- Rows

-- a network row as it is read, before its floors
abbrev pub bare : NetKey → NetKey
bare r =
    record {
      key = r.key;
      sequence = r.sequence;
      live = r.live;
      started = r.started;
      limit = r.limit;
      next = r.limit;
      floors = [];
    }

net-again : (r : NetKey) (rest : Bytes) → NetFits r → net_at (net_bytes r ++ rest) ≡ Some (bare r, rest)
unfolding net_at follow chosen
net-again r rest f =
    ap net_at (append_assoc r.key (r.sequence ∷ (worth 1 r.live + worth 2 r.started) ∷ four_bytes r.limit) rest)
    ∙ rw (
      bytes-again 16 r.key (r.sequence ∷ (worth 1 r.live + worth 2 r.started) ∷ (to_le_bytes w32 r.limit ++ rest))
          f.key,
      two-flags-again r.live r.started,
      four-again r.limit rest f.limit,
    ) refl

abbrev SenderFits : SenderFloor → Type 0
SenderFits f = (f.sender < 2 ^ 64) × (f.stored < 2 ^ 32)

sender-again : (f : SenderFloor) (rest : Bytes) → SenderFits f → sender_at (sender_bytes f ++ rest)
    ≡ Some (booted_floor f, rest)
unfolding sender_at follow chosen
sender-again f rest fits =
    ap sender_at (append_assoc (to_le_bytes w64 f.sender) (to_le_bytes w32 f.stored) rest)
    ∙ rw (eight-again f.sender (to_le_bytes w32 f.stored ++ rest) fits.0, four-again f.stored rest fits.1) refl

floors-again : (r : NetKey) (rest : Bytes) → NetFits r → floors_at (floors_bytes r ++ rest)
    ≡ Some (map booted_floor r.floors, rest)
unfolding floors_at follow chosen
floors-again r rest f = many-again sender_at sender_bytes booted_floor SenderFits sender-again r.floors rest f.floors

-- a network row as it is after a boot
abbrev pub booted_row : NetKey → NetKey
booted_row r = shown_net (booted_net r)

step : (b : Bool) (r : NetKey) (rs live : List NetKey) (rest : Bytes) → NetFits r
    → with_floors (map bare rs) (flat_map floors_bytes live ++ rest) ≡ Some (map booted_row rs, rest)
    → cond b
    (follow (floors_at (flat_map floors_bytes (cond b (r ∷ live) live) ++ rest))
    (λ floors end_. follow (with_floors (map bare rs) end_)
    (λ nets last. Some (record (bare r) { floors = floors } ∷ nets, last))))
    (follow (with_floors (map bare rs) (flat_map floors_bytes (cond b (r ∷ live) live) ++ rest))
    (λ nets last. Some (bare r ∷ nets, last)))
    ≡ Some (record (booted_net r) { floors = cond b (booted_net r).floors [] } ∷ map booted_row rs, rest)
unfolding follow
step true r rs live rest f again =
    ap (λ bytes. follow (floors_at bytes)
    (λ floors end_. follow (with_floors (map bare rs) end_)
    (λ nets last. Some (record (bare r) { floors = floors } ∷ nets, last))))
    (append_assoc (floors_bytes r) (flat_map floors_bytes live) rest)
    ∙ rw (floors-again r (flat_map floors_bytes live ++ rest) f, again) refl
step false r rs live rest f again = rw again refl

floors-behind : (rs : List NetKey) (rest : Bytes) → AllByRecursion NetFits rs
    → with_floors (map bare rs) (flat_map floors_bytes (filter (λ (r : NetKey). r.live) rs) ++ rest)
    ≡ Some (map booted_row rs, rest)
unfolding with_floors follow chosen
floors-behind [] rest a = refl
floors-behind (r ∷ rs) rest a = step r.live r rs (filter (λ (r : NetKey). r.live) rs) rest a.0
    (floors-behind rs rest a.1)

link-again : (r : LinkKey) (rest : Bytes) → LinkFits r → link_at (link_bytes r ++ rest) ≡ Some (booted_link r, rest)
unfolding link_at follow chosen
link-again r rest f =
    ap link_at
    (append_assoc (to_le_bytes w64 r.partner) _ rest ∙ ap (λ l. to_le_bytes w64 r.partner ++ l)
    (append_assoc r.key (attribute_byte r.attribute ∷ (worth 1 r.live + (worth 2 r.code + worth 4 r.told))
    ∷ four_bytes r.stored) rest))
    ∙ rw (
      eight-again r.partner
          (r.key ++ (attribute_byte r.attribute ∷ (worth 1 r.live + (worth 2 r.code + worth 4 r.told))
          ∷ (to_le_bytes w32 r.stored ++ rest))) f.partner,
      bytes-again 16 r.key (attribute_byte r.attribute ∷ (worth 1 r.live + (worth 2 r.code + worth 4 r.told))
          ∷ (to_le_bytes w32 r.stored ++ rest)) f.key,
      attribute-again r.attribute,
      three-flags-again r.live r.code r.told,
      four-again r.stored rest f.stored,
    ) refl

pair-again : (p : PairKey) (rest : Bytes) → PairFits p → pair_at (pair_bytes p ++ rest) ≡ Some (p, rest)
unfolding pair_at follow chosen
pair-again p rest f =
    ap pair_at
    (append_assoc (to_le_bytes w64 p.first) (to_le_bytes w64 p.second ++ (p.key ++ 1 ∷ [])) rest ∙ ap
    (λ l. to_le_bytes w64 p.first ++ l)
    (append_assoc (to_le_bytes w64 p.second) (p.key ++ 1 ∷ []) rest ∙ ap (λ l. to_le_bytes w64 p.second ++ l)
    (append_assoc p.key (1 ∷ []) rest)))
    ∙ rw (
      eight-again p.first (to_le_bytes w64 p.second ++ (p.key ++ (1 ∷ rest))) f.first,
      eight-again p.second (p.key ++ (1 ∷ rest)) f.second,
      bytes-again 16 p.key (1 ∷ rest) f.key,
    ) refl

-- The place of the active row

record Placed (at : ℕ) (key : Bytes) (nets : List NetKey) : Type 0 where
  place : ℕ
  row : NetKey
  from : place_from at key nets ≡ at + place
  below : place < length nets
  there : slice_get nets place ≡ Some row
  has : row.key ≡ key

placed-by : (b : Bool) (at : ℕ) (key : Bytes) (r : NetKey) (rs : List NetKey) → same_key r.key key ≡ b
    → is_some (cond b (Some r) (find (at_key key) rs)) ≡ true
    → (is_some (find (at_key key) rs) ≡ true → Placed (at + 1) key rs) → Placed at key (r ∷ rs)
placed-by true at key r rs e f more =
    record {
      place = 0;
      row = r;
      from = ap (λ b. cond b at (place_from (at + 1) key rs)) e ∙ omega arith;
      below = omega arith;
      there = refl;
      has = same_key-eq r.key key e;
    }
placed-by false at key r rs e f more = next (more f)
  where
    next : Placed (at + 1) key rs → Placed at key (r ∷ rs)
    next p =
        record {
          place = suc p.place;
          row = p.row;
          from = ap (λ b. cond b at (place_from (at + 1) key rs)) e ∙ omega
              (arith, p.from);
          below = omega (arith, p.below);
          there = p.there;
          has = p.has;
        }

placed : (at : ℕ) (key : Bytes) (nets : List NetKey) → is_some (find (at_key key) nets) ≡ true → Placed at key nets
placed at key [] f = absurd (false≢true f)
placed at key (r ∷ rs) f = placed-by (same_key r.key key) at key r rs refl f (placed (at + 1) key rs)

get-map : (f : NetKey → NetKey) (nets : List NetKey) (i : ℕ) → slice_get (map f nets) i
    ≡ option_map f (slice_get nets i)
get-map f [] i = refl
get-map f (r ∷ rs) zero = refl
get-map f (r ∷ rs) (suc i) = get-map f rs i

active-by : (key : Bytes) (nets : List NetKey) → length nets < 65535 → Placed 0 key nets
    → active_at (place_from 0 key nets) (map booted_row nets) ≡ Some (Some key)
unfolding active_at
active-by key nets small p =
    let at : place_from 0 key nets ≡ p.place = p.from ∙ omega arith in
    let apart : nat_eq p.place 65535 ≡ false = eqb-false-of p.place 65535 (omega (arith, p.below, small)) in
    rw (at, apart, get-map booted_row nets p.place, p.there, p.has) refl
  where
    eqb-false-of : (a b : ℕ) → a < b → nat_eq a b ≡ false
    eqb-false-of a b lt = Rattle.std.proofs.Common.ne_eqb a b (Rattle.std.proofs.Common.ne_of_lt lt)

abbrev pub place_by : Option Bytes → List NetKey → ℕ
place_by None nets = 65535
place_by (Some key) nets = place_from 0 key nets

active-again : (s : NodeState) (o : Option Bytes) → HasActive s o → length s.nets < 65535
    → active_at (place_by o s.nets) (map booted_row s.nets) ≡ Some o
unfolding active_at
active-again s None has small = refl
active-again s (Some key) has small = active-by key s.nets small (placed 0 key s.nets has)

place-of : (s : NodeState) (o : Option Bytes) → active_place (record s { active = o }) ≡ place_by o s.nets
place-of s None = refl
place-of s (Some key) = refl

pub map-map : (f g : NetKey → NetKey) (nets : List NetKey) → map (λ r. f (g r)) nets ≡ map f (map g nets)
map-map f g [] = refl
map-map f g (r ∷ rs) = ap (λ l. f (g r) ∷ l) (map-map f g rs)

map-same : (ps : List PairKey) → map (λ (p : PairKey). p) ps ≡ ps
map-same [] = refl
map-same (p ∷ ps) = ap (λ l. p ∷ l) (map-same ps)

-- The whole record

booted : NodeState → List NetKey → List PairKey → NodeState
booted s nets pairs =
    record {
      role = s.role;
      state = s.state;
      declared = s.declared;
      aps_limit = s.aps_limit;
      aps_next = s.aps_limit;
      sending = s.sending;
      nets = nets;
      active = s.active;
      links = map booted_link s.links;
      pairs = pairs;
    }

booted-is : (s : NodeState) → booted s (map booted_row s.nets) (map (λ (p : PairKey). p) s.pairs)
    ≡ shown (after_boot s)
unfolding booted shown after_boot
booted-is s = ap (λ nets. booted s nets (map (λ (p : PairKey). p) s.pairs)) (map-map shown_net booted_net s.nets) ∙ ap
    (λ pairs. booted s (map shown_net (map booted_net s.nets)) pairs) (map-same s.pairs)

pairs-end : (s : NodeState) → FitsRecord s → so_many pair_at (length s.pairs) (flat_map pair_bytes s.pairs)
    ≡ Some (map (λ (p : PairKey). p) s.pairs, [])
pairs-end s f = ap (λ l. so_many pair_at (length s.pairs) l) (sym (append-nil' (flat_map pair_bytes s.pairs))) ∙
    many-again pair_at pair_bytes (λ (p : PairKey). p) PairFits pair-again s.pairs [] f.pairs

place-small : (s : NodeState) (o : Option Bytes) → HasActive s o → length s.nets < 65535 → place_by o s.nets < 2 ^ 16
place-small s None has small = omega arith
place-small s (Some key) has small = let p = placed 0 key s.nets has in omega (arith, p.from, p.below, small)

-- the record with a place in it
abbrev pub spelled : NodeState → ℕ → Bytes
spelled s place =
    3 ∷ role_byte s.role ∷ state_byte s.state
    ∷ (to_le_bytes w32 s.declared
    ++ (to_le_bytes w32 s.aps_limit
    ++ (worth 1 s.sending ∷ (to_le_bytes w16 (length s.nets) ++ (to_le_bytes w16 place
    ++ (flat_map net_bytes s.nets
    ++ (flat_map floors_bytes (live_nets s)
    ++ (to_le_bytes w16 (length s.links)
    ++ (flat_map link_bytes s.links ++ (to_le_bytes w16 (length s.pairs) ++ flat_map pair_bytes s.pairs))))))))))

pub record-bytes : (s : NodeState) → record_of s ≡ spelled s (place_by s.active s.nets)
unfolding record_of
record-bytes s = ap (spelled s) (place-of s s.active)

spelled-again : (s : NodeState) → FitsRecord s → record_at (spelled s (place_by s.active s.nets))
    ≡ Some (booted s (map booted_row s.nets) (map (λ (p : PairKey). p) s.pairs), [])
unfolding record_at booted follow chosen
spelled-again s f =
    rw (
      role-again s.role,
      state-again s.state,
      four-again s.declared t1 f.declared,
      four-again s.aps_limit t2 f.aps_limit,
      roll-again s.sending,
      two-again (length s.nets) t3 (omega (arith, f.net_count)),
      two-again (place_by s.active s.nets) t4 (place-small s s.active f.active f.net_count),
      many-again net_at net_bytes bare NetFits net-again s.nets t5 f.nets,
      floors-behind s.nets t6 f.nets,
      active-again s s.active f.active f.net_count,
      two-again (length s.links) t7 f.link_count,
      many-again link_at link_bytes booted_link LinkFits link-again s.links t8 f.links,
      two-again (length s.pairs) t9 f.pair_count,
      pairs-end s f,
    ) refl
  where
    t9 : Bytes
    t9 = flat_map pair_bytes s.pairs

    t8 : Bytes
    t8 = to_le_bytes w16 (length s.pairs) ++ t9

    t7 : Bytes
    t7 = flat_map link_bytes s.links ++ t8

    t6 : Bytes
    t6 = to_le_bytes w16 (length s.links) ++ t7

    t5 : Bytes
    t5 = flat_map floors_bytes (live_nets s) ++ t6

    t4 : Bytes
    t4 = flat_map net_bytes s.nets ++ t5

    t3 : Bytes
    t3 = to_le_bytes w16 (place_by s.active s.nets) ++ t4

    t2 : Bytes
    t2 = worth 1 s.sending ∷ (to_le_bytes w16 (length s.nets) ++ t3)

    t1 : Bytes
    t1 = to_le_bytes w32 s.aps_limit ++ t2

pub read-back : (s : NodeState) → FitsRecord s → state_in (record_of s) ≡ Some (shown (after_boot s))
unfolding state_in
read-back s f = ap (λ b. whole (record_at b)) (record-bytes s) ∙ ap whole (spelled-again s f) ∙ ap Some (booted-is s)

-- over lines: a node's state after a boot is what its record says

boot-line : (e n : ℕ) (s : NodeState) → heard_line n s (Boot e n) ≡ after_boot s
unfolding heard_line speaker after
boot-line e n s = ap (λ b. cond b (after_boot s) s) (nat_eq-refl n)

pub boot-reads : (h : List Line) (e n : ℕ) → FitsRecord (state_of h n) → state_in (record_of (state_of h n))
    ≡ Some (shown (state_of (h ++ Boot e n ∷ []) n))
boot-reads h e n f = read-back (state_of h n) f ∙ ap (λ x. Some (shown x))
    (sym (state-snoc h (Boot e n) n ∙ boot-line e n (state_of h n)))
