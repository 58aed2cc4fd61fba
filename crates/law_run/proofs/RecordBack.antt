-- What is read as a state is its record.
use Rattle.std.proofs.Common.{◌≡◌, ℕ, zero, suc, ◌+◌, ◌<◌, ◌^◌, Bool, true, false, cond, not, ◌&&◌, ◌||◌, ltb, List, [], ◌∷◌, ◌++◌, map, filter, length, take, drop, get_or, slice_get, Option, Some, None, option_map, nat_eq, nat_lt, flat_map, refl, sym, ap, ◌∙◌, subst, arith, append_assoc, eqb-true, ltb-false, inl, inr}
use Rattle.std.proofs.lemmas.Bool.{false≢true, and_parts, not-true, cases_lt}
use Rattle.std.proofs.lemmas.List.{take-append-drop, length-take, get_or-take, get_or_past}
use Rattle.std.proofs.lemmas.Nat.{le_bytes_2, le_bytes_4, le_bytes_8}
use Rattle.std.specs.Int.{Width, w16, w32, w64, byte_len, from_le_bytes, to_le_bytes}
use Rattle.std.specs.List.{AllByRecursion, list_any}
use Rattle.zb_model.specs.Data.{Bytes, Role, Centre, Router, Device, State, Fresh, Knocked, Joined, Offered, Confirmed, Rejoining, Gone, Attribute, Provisional, Unverified, Verified}
use Rattle.zb_model.specs.State.{SenderFloor, NetKey, LinkKey, PairKey, NodeState, same_key, booted_floor, booted_net, booted_link, after_boot, shown_net, shown}
use Rattle.zb_model.specs.Fits.{all_apart, keys_differ}
use Rattle.zb_model.specs.Record.{role_byte, state_byte, attribute_byte, worth, place_from, net_bytes, sender_bytes, floors_bytes, link_bytes, pair_bytes, record_of}
use Rattle.law_run.specs.Records.{Taking, follow, ◌>>=◌, give, chosen, a_byte, some_bytes, a_number, so_many, role_of_byte, state_of_byte, attribute_of_byte, yes_or_no, only, two_flags, three_flags, net_at, sender_at, floors_at, with_floors, link_at, pair_at, active_at, record_at, whole, state_in}
use Rattle.law_run.proofs.Basics.{same_key-refl, append-nil'}
use Rattle.law_run.proofs.RecordLaws.{bare, booted_row, place_by, spelled, record-bytes, map-map}

-- Options and bytes

abbrev IsNone : (A : Type 0) → Option A → Type 0
IsNone A None = Unit {0}
IsNone A (Some x) = ⊥

none-is : (A : Type 0) (x : A) → None ≡ Some x → ⊥
none-is A x e = subst (λ o. IsNone A o) e tt

some-same : (A : Type 0) (x y : A) → Some x ≡ Some y → x ≡ y
some-same A x y e = ap (λ o. Rattle.std.specs.Prelude.unwrap_or o x) e

-- the bytes of a record are bytes
abbrev Small : Bytes → Type 0
Small bytes = (i : ℕ) → get_or bytes i 0 < 256

small-of : (bytes : Bytes) → AllByRecursion (λ b. b < 256) bytes → Small bytes
small-of [] a i = omega arith
small-of (b ∷ bytes) a zero = a.0
small-of (b ∷ bytes) a (suc i) = small-of bytes a.1 i

small-rest : (text rest bytes : Bytes) → bytes ≡ text ++ rest → Small bytes → Small rest
small-rest [] rest bytes e s = subst Small e s
small-rest (b ∷ text) rest bytes e s = small-rest text rest (text ++ rest) refl (λ i. subst Small e s (suc i))

small-take : (n : ℕ) (bytes : Bytes) → Small bytes → Small (take n bytes)
small-take n bytes h i =
    elim (cases_lt i n) [
      | inl lt ↦ rw (get_or-take n bytes i 0 lt) (h i)
      | inr le ↦ rw (get_or_past (take n bytes) i 0 (omega (arith, length-take n bytes))) (omega arith)
    ]

-- One reading and what follows it

data Step (A B : Type 0) (spell : A → Bytes) (P : A → Type 0) (bytes : Bytes) (next : A → Taking B) (y : B)
    (rest : Bytes) : Type 0 where
  Went : (value : A) (mid : Bytes) → bytes ≡ spell value ++ mid → Small mid → P value → next value mid
      ≡ Some (y, rest) → Step A B spell P bytes next y rest

-- what a reading reads is spelled, and has a property
abbrev Back : (A : Type 0) → Taking A → (A → Bytes) → (A → Type 0) → Type 0
Back A read spell P = (bytes : Bytes) (x : A) (rest : Bytes) → Small bytes → read bytes ≡ Some (x, rest)
    → (bytes ≡ spell x ++ rest) × P x

step-by : (A B : Type 0) (read : Taking A) (spell : A → Bytes) (P : A → Type 0) → Back A read spell P
    → (bytes : Bytes) (next : A → Taking B) (y : B) (rest : Bytes) → Small bytes
    → (o : Option (A × Bytes)) → read bytes ≡ o → follow o next ≡ Some (y, rest) → Step A B spell P bytes next y rest
unfolding follow
step-by A B read spell P back bytes next y rest s None q e = absurd (none-is (B × Bytes) (y, rest) e)
step-by A B read spell P back bytes next y rest s (Some x) q e =
    Went x.0 x.1 (back bytes x.0 x.1 s q).0 (small-rest (spell x.0) x.1 bytes (back bytes x.0 x.1 s q).0 s)
    (back bytes x.0 x.1 s q).1 e

step : (A B : Type 0) (read : Taking A) (spell : A → Bytes) (P : A → Type 0) → Back A read spell P
    → (bytes : Bytes) (next : A → Taking B) (y : B) (rest : Bytes) → Small bytes → follow (read bytes) next
    ≡ Some (y, rest) → Step A B spell P bytes next y rest
step A B read spell P back bytes next y rest s e = step-by A B read spell P back bytes next y rest s (read bytes) refl
    e

data Pick (A B : Type 0) (o : Option A) (bytes : Bytes) (next : A → Taking B) (y : B) (rest : Bytes) : Type 0 where
  Picked : (value : A) → o ≡ Some value → next value bytes ≡ Some (y, rest) → Pick A B o bytes next y rest

pick : (A B : Type 0) (o : Option A) (bytes : Bytes) (next : A → Taking B) (y : B) (rest : Bytes)
    → follow (chosen o bytes) next ≡ Some (y, rest) → Pick A B o bytes next y rest
unfolding follow chosen
pick A B None bytes next y rest e = absurd (none-is (B × Bytes) (y, rest) e)
pick A B (Some x) bytes next y rest e = Picked x refl e

-- Fields

abbrev Any : (A : Type 0) → A → Type 0
Any A x = Unit {0}

abbrev one : ℕ → Bytes
one b = b ∷ []

byte-back : Back ℕ a_byte one (Any ℕ)
byte-back [] x rest s e = absurd (none-is (ℕ × Bytes) (x, rest) e)
byte-back (b ∷ bytes) x rest s e = (ap (λ p. p.0 ∷ p.1) (some-same (ℕ × Bytes) (b, bytes) (x, rest) e), tt)

abbrev same : Bytes → Bytes
same xs = xs

bytes-by : (n : ℕ) (bytes xs rest : Bytes) (b : Bool)
    → cond {A = Option (Bytes × Bytes)} b None (Some (take n bytes, drop n bytes)) ≡ Some (xs, rest) → bytes ≡ xs
    ++ rest
bytes-by n bytes xs rest true e = absurd (none-is (Bytes × Bytes) (xs, rest) e)
bytes-by n bytes xs rest false e = sym (take-append-drop n bytes) ∙ ap (λ p. p.0 ++ p.1)
    (some-same (Bytes × Bytes) (take n bytes, drop n bytes) (xs, rest) e)

bytes-back : (n : ℕ) → Back Bytes (some_bytes n) same (Any Bytes)
unfolding some_bytes
bytes-back n bytes xs rest s e = (bytes-by n bytes xs rest (nat_lt (length bytes) n) e, tt)

abbrev Spells : Width → Type 0
Spells w = (bs : Bytes) → length bs ≡ byte_len w → Small bs → to_le_bytes w (from_le_bytes w bs) ≡ bs

spells16 : Spells w16
spells16 bs len s = le_bytes_2 bs (from_le_bytes w16 bs) len s refl

spells32 : Spells w32
spells32 bs len s = le_bytes_4 bs (from_le_bytes w32 bs) len s refl

spells64 : Spells w64
spells64 bs len s = le_bytes_8 bs (from_le_bytes w64 bs) len s refl

number-by : (w : Width) → Spells w → (bytes : Bytes) (n : ℕ) (rest : Bytes) → Small bytes → (b : Bool)
    → nat_lt (length bytes) (byte_len w) ≡ b
    → cond {A = Option (ℕ × Bytes)} b None (Some (from_le_bytes w (take (byte_len w) bytes), drop (byte_len w) bytes))
    ≡ Some (n, rest) → bytes ≡ to_le_bytes w n ++ rest
number-by w sp bytes n rest s true q e = absurd (none-is (ℕ × Bytes) (n, rest) e)
number-by w sp bytes n rest s false q e =
    sym (take-append-drop (byte_len w) bytes)
    ∙ ap (λ l. l ++ drop (byte_len w) bytes)
    (sym (sp (take (byte_len w) bytes)
    (omega (arith, length-take (byte_len w) bytes, ltb-false (length bytes) (byte_len w) q))
    (small-take (byte_len w) bytes s)))
    ∙ ap (λ p. to_le_bytes w p.0 ++ p.1)
    (some-same (ℕ × Bytes) (from_le_bytes w (take (byte_len w) bytes), drop (byte_len w) bytes) (n, rest) e)

number-back : (w : Width) → Spells w → Back ℕ (a_number w) (to_le_bytes w) (Any ℕ)
unfolding a_number
number-back w sp bytes n rest s e = (number-by w sp bytes n rest s (nat_lt (length bytes) (byte_len w)) refl e, tt)

role-back : (b : ℕ) (d : Role) → role_of_byte b ≡ Some d → b ≡ role_byte d
unfolding role_of_byte
role-back zero d e = ap role_byte (some-same Role Centre d e)
role-back (suc zero) d e = ap role_byte (some-same Role Router d e)
role-back (suc (suc zero)) d e = ap role_byte (some-same Role Device d e)
role-back (suc (suc (suc b))) d e = absurd (none-is Role d e)

state-back : (b : ℕ) (g : State) → state_of_byte b ≡ Some g → b ≡ state_byte g
unfolding state_of_byte
state-back zero g e = ap state_byte (some-same State Fresh g e)
state-back (suc zero) g e = ap state_byte (some-same State Knocked g e)
state-back (suc (suc zero)) g e = ap state_byte (some-same State Joined g e)
state-back (suc (suc (suc zero))) g e = ap state_byte (some-same State Offered g e)
state-back (suc (suc (suc (suc zero)))) g e = ap state_byte (some-same State Confirmed g e)
state-back (suc (suc (suc (suc (suc zero))))) g e = ap state_byte (some-same State Rejoining g e)
state-back (suc (suc (suc (suc (suc (suc zero)))))) g e = ap state_byte (some-same State Gone g e)
state-back (suc (suc (suc (suc (suc (suc (suc b))))))) g e = absurd (none-is State g e)

attribute-back : (b : ℕ) (t : Attribute) → attribute_of_byte b ≡ Some t → b ≡ attribute_byte t
unfolding attribute_of_byte
attribute-back zero t e = ap attribute_byte (some-same Attribute Provisional t e)
attribute-back (suc zero) t e = ap attribute_byte (some-same Attribute Unverified t e)
attribute-back (suc (suc zero)) t e = ap attribute_byte (some-same Attribute Verified t e)
attribute-back (suc (suc (suc b))) t e = absurd (none-is Attribute t e)

roll-back : (b : ℕ) (x : Bool) → yes_or_no b ≡ Some x → b ≡ worth 1 x
unfolding yes_or_no
roll-back zero x e = ap (worth 1) (some-same Bool false x e)
roll-back (suc zero) x e = ap (worth 1) (some-same Bool true x e)
roll-back (suc (suc b)) x e = absurd (none-is Bool x e)

abbrev two_worth : Bool × Bool → ℕ
two_worth f = worth 1 f.0 + worth 2 f.1

two-back : (b : ℕ) (f : Bool × Bool) → two_flags b ≡ Some f → b ≡ two_worth f
unfolding two_flags
two-back zero f e = ap two_worth (some-same (Bool × Bool) (false, false) f e)
two-back (suc zero) f e = ap two_worth (some-same (Bool × Bool) (true, false) f e)
two-back (suc (suc zero)) f e = ap two_worth (some-same (Bool × Bool) (false, true) f e)
two-back (suc (suc (suc zero))) f e = ap two_worth (some-same (Bool × Bool) (true, true) f e)
two-back (suc (suc (suc (suc b)))) f e = absurd (none-is (Bool × Bool) f e)

abbrev three_worth : Bool × Bool × Bool → ℕ
three_worth f = worth 1 f.0 + (worth 2 f.1 + worth 4 f.2)

three-back : (b : ℕ) (f : Bool × Bool × Bool) → three_flags b ≡ Some f → b ≡ three_worth f
unfolding three_flags
three-back zero f e = ap three_worth (some-same (Bool × Bool × Bool) (false, false, false) f e)
three-back (suc zero) f e = ap three_worth (some-same (Bool × Bool × Bool) (true, false, false) f e)
three-back (suc (suc zero)) f e = ap three_worth (some-same (Bool × Bool × Bool) (false, true, false) f e)
three-back (suc (suc (suc zero))) f e = ap three_worth (some-same (Bool × Bool × Bool) (true, true, false) f e)
three-back (suc (suc (suc (suc zero)))) f e = ap three_worth (some-same (Bool × Bool × Bool) (false, false, true) f e)
three-back (suc (suc (suc (suc (suc zero))))) f e =
    ap three_worth (some-same (Bool × Bool × Bool) (true, false, true) f e)
three-back (suc (suc (suc (suc (suc (suc zero)))))) f e =
    ap three_worth (some-same (Bool × Bool × Bool) (false, true, true) f e)
three-back (suc (suc (suc (suc (suc (suc (suc zero))))))) f e =
    ap three_worth (some-same (Bool × Bool × Bool) (true, true, true) f e)
three-back (suc (suc (suc (suc (suc (suc (suc (suc b)))))))) f e = absurd (none-is (Bool × Bool × Bool) f e)

only-by : (wanted b : ℕ) (x : Unit {0}) (t : Bool) → nat_eq b wanted ≡ t → cond t (Some tt) None ≡ Some x → b ≡ wanted
only-by wanted b x true q e = eqb-true b wanted q
only-by wanted b x false q e = absurd (none-is (Unit {0}) x e)

only-back : (wanted b : ℕ) (x : Unit {0}) → only wanted b ≡ Some x → b ≡ wanted
only-back wanted b x e = only-by wanted b x (nat_eq b wanted) refl e

-- that many of them
many-back : (A : Type 0) (read : Taking A) (spell : A → Bytes) (P : A → Type 0) → Back A read spell P
    → (n : ℕ) (bytes : Bytes) (xs : List A) (rest : Bytes) → Small bytes → so_many read n bytes ≡ Some (xs, rest)
    → (bytes ≡ flat_map spell xs ++ rest) × (length xs ≡ n) × AllByRecursion P xs
unfolding so_many
many-back A read spell P back zero bytes xs rest s e =
    subst (λ (p : List A × Bytes). (bytes ≡ flat_map spell p.0 ++ p.1) × (length p.0 ≡ 0) × AllByRecursion P p.0)
    (some-same (List A × Bytes) ([], bytes) (xs, rest) e) (refl, refl, tt)
many-back A read spell P back (suc n) bytes xs rest s e =
    elim (step A (List A) read spell P back bytes _ xs rest s e) [
      | Went one_v one_m one_t one_s one_h one_l ↦
          elim (step (List A) (List A) (so_many read n) (flat_map spell) (λ ys. (length ys ≡ n) × AllByRecursion P ys)
          (λ b ys r t q. let m = many-back A read spell P back n b ys r t q in (m.0, (m.1, m.2))) one_m _ xs rest
          one_s one_l) [
            | Went more_v more_m more_t more_s more_h more_l ↦
                subst (λ (p : List A × Bytes). (bytes ≡ flat_map spell p.0 ++ p.1) × (length p.0 ≡ suc n)
                × AllByRecursion P p.0) (some-same (List A × Bytes) (one_v ∷ more_v, more_m) (xs, rest) more_l) (
                  one_t ∙ ap (λ l. spell one_v ++ l) more_t ∙ sym
                      (append_assoc (spell one_v) (flat_map spell more_v) more_m),
                  ap suc more_h.0,
                  (one_h, more_h.1),
                )
          ]
    ]

many-of : (A : Type 0) (read : Taking A) (spell : A → Bytes) (P : A → Type 0) → Back A read spell P → (n : ℕ)
    → Back (List A) (so_many read n) (flat_map spell) (λ ys. (length ys ≡ n) × AllByRecursion P ys)
many-of A read spell P back n bytes xs rest s e = let m = many-back A read spell P back n bytes xs rest s e in
    (m.0, (m.1, m.2))

-- Rows

abbrev IsBare : NetKey → Type 0
IsBare r = (r.next ≡ r.limit) × (r.floors ≡ [])

net-back : Back NetKey net_at net_bytes IsBare
unfolding net_at
net-back bytes r rest s e =
    elim (step Bytes NetKey (some_bytes 16) same (Any Bytes) (bytes-back 16) bytes _ r rest s e) [
      | Went k_v k_m k_t k_s k_h k_l ↦
          elim (step ℕ NetKey a_byte one (Any ℕ) byte-back k_m _ r rest k_s k_l) [
            | Went q_v q_m q_t q_s q_h q_l ↦
                elim (step ℕ NetKey a_byte one (Any ℕ) byte-back q_m _ r rest q_s q_l) [
                  | Went b_v b_m b_t b_s b_h b_l ↦
                      elim (pick (Bool × Bool) NetKey (two_flags b_v) b_m _ r rest b_l) [
                        | Picked f_v f_i f_l ↦
                            elim (step ℕ NetKey (a_number w32) (to_le_bytes w32) (Any ℕ) (number-back w32 spells32)
                            b_m _ r rest b_s f_l) [
                              | Went l_v l_m l_t l_s l_h l_l ↦
                                  subst (λ (p : NetKey × Bytes). (bytes ≡ net_bytes p.0 ++ p.1) × IsBare p.0)
                                  (some-same (NetKey × Bytes) (
                                    record {
                                      key = k_v;
                                      sequence = q_v;
                                      live = f_v.0;
                                      started = f_v.1;
                                      limit = l_v;
                                      next = l_v;
                                      floors = [];
                                    },
                                    l_m,
                                  ) (r, rest) l_l) (
                                    net-text k_v q_v b_v l_v f_v bytes k_m q_m b_m l_m k_t q_t b_t
                                        (two-back b_v f_v f_i) l_t,
                                    (refl, refl),
                                  )
                            ]
                      ]
                ]
          ]
    ]
  where
    net-text : (key : Bytes) (q b l : ℕ) (f : Bool × Bool) (bytes m1 m2 m3 m4 : Bytes) → bytes ≡ key ++ m1 → m1 ≡ q
        ∷ m2 → m2 ≡ b ∷ m3 → b ≡ two_worth f → m3 ≡ to_le_bytes w32 l ++ m4 → bytes
        ≡ (key ++ (q ∷ two_worth f ∷ to_le_bytes w32 l)) ++ m4
    net-text key q b l f bytes m1 m2 m3 m4 e1 e2 e3 e4 e5 =
        e1 ∙ ap (λ x. key ++ x)
        (e2 ∙ ap (λ x. q ∷ x) (e3 ∙ ap (λ x. b ∷ x) e5 ∙ ap (λ x. x ∷ (to_le_bytes w32 l ++ m4)) e4)) ∙ sym
        (append_assoc key (q ∷ two_worth f ∷ to_le_bytes w32 l) m4)

abbrev FixedSender : SenderFloor → Type 0
FixedSender f = booted_floor f ≡ f

sender-back : Back SenderFloor sender_at sender_bytes FixedSender
unfolding sender_at
sender-back bytes f rest s e =
    elim (step ℕ SenderFloor (a_number w64) (to_le_bytes w64) (Any ℕ) (number-back w64 spells64) bytes _ f rest s e) [
      | Went a_v a_m a_t a_s a_h a_l ↦
          elim (step ℕ SenderFloor (a_number w32) (to_le_bytes w32) (Any ℕ) (number-back w32 spells32) a_m _ f rest
          a_s a_l) [
            | Went b_v b_m b_t b_s b_h b_l ↦
                subst (λ (p : SenderFloor × Bytes). (bytes ≡ sender_bytes p.0 ++ p.1) × FixedSender p.0)
                (some-same (SenderFloor × Bytes) (record { sender = a_v; kept = b_v; stored = b_v }, b_m)
                (f, rest) b_l) (
                  a_t ∙ ap (λ x. to_le_bytes w64 a_v ++ x) b_t ∙ sym
                      (append_assoc (to_le_bytes w64 a_v) (to_le_bytes w32 b_v) b_m),
                  refl,
                )
          ]
    ]

fixed-map : (A : Type 0) (f : A → A) (xs : List A) → AllByRecursion (λ x. f x ≡ x) xs → map f xs ≡ xs
fixed-map A f [] a = refl
fixed-map A f (x ∷ xs) a = ap (λ y. y ∷ map f xs) a.0 ∙ ap (λ l. x ∷ l) (fixed-map A f xs a.1)

abbrev floors_text : List SenderFloor → Bytes
floors_text fs = length fs ∷ flat_map sender_bytes fs

floors-back : Back (List SenderFloor) floors_at floors_text (λ fs. map booted_floor fs ≡ fs)
unfolding floors_at
floors-back bytes fs rest s e =
    elim (step ℕ (List SenderFloor) a_byte one (Any ℕ) byte-back bytes _ fs rest s e) [
      | Went c_v c_m c_t c_s c_h c_l ↦
          let m = many-back SenderFloor sender_at sender_bytes FixedSender sender-back c_v c_m fs rest c_s c_l in (
            c_t ∙ ap (λ x. c_v ∷ x) m.0 ∙ ap (λ n. n ∷ (flat_map sender_bytes fs ++ rest)) (sym m.1),
            fixed-map SenderFloor booted_floor fs m.2,
          )
    ]

-- the floors of the live rows
abbrev live_floors : List NetKey → Bytes
live_floors rs = flat_map floors_bytes (filter (λ (r : NetKey). r.live) rs)

record FloorsOf (rs nets : List NetKey) : Type 0 where
  rows : flat_map net_bytes nets ≡ flat_map net_bytes rs
  count : length nets ≡ length rs
  fixed : AllByRecursion (λ r. booted_row r ≡ r) nets

abbrev with_ : NetKey → ℕ → List SenderFloor → NetKey
with_ r next floors = record r { next = next; floors = floors }

fixed-live : (r : NetKey) (fs : List SenderFloor) → r.next ≡ r.limit → r.live ≡ true → map booted_floor fs ≡ fs
    → booted_row (record r { floors = fs }) ≡ record r { floors = fs }
fixed-live r fs next live fix =
    ap (λ n. with_ r n (cond r.live (map booted_floor fs) [])) (sym next) ∙ ap
    (λ b. with_ r r.next (cond b (map booted_floor fs) [])) live ∙ ap (λ l. with_ r r.next l) fix

fixed-dropped : (r : NetKey) → r.next ≡ r.limit → r.live ≡ false → r.floors ≡ [] → booted_row r ≡ r
fixed-dropped r next live empty =
    ap (λ n. with_ r n (cond r.live (map booted_floor r.floors) [])) (sym next) ∙ ap
    (λ b. with_ r r.next (cond b (map booted_floor r.floors) [])) live ∙ ap (λ l. with_ r r.next l) (sym empty)

abbrev NetsBack : List NetKey → Type 0
NetsBack rs = Back (List NetKey) (with_floors rs) live_floors (FloorsOf rs)

with-by : (b : Bool) (r : NetKey) (rs : List NetKey) → r.live ≡ b → IsBare r → NetsBack rs
    → (bytes : Bytes) (nets : List NetKey) (rest : Bytes) → Small bytes
    → cond b
    (follow (floors_at bytes)
    (λ floors mid. follow (with_floors rs mid) (λ ns end_. Some (record r { floors = floors } ∷ ns, end_))))
    (follow (with_floors rs bytes) (λ ns end_. Some (r ∷ ns, end_))) ≡ Some (nets, rest)
    → (bytes ≡ live_floors nets ++ rest) × FloorsOf (r ∷ rs) nets
with-by true r rs live bare back bytes nets rest s e =
    elim (step (List SenderFloor) (List NetKey) floors_at floors_text (λ fs. map booted_floor fs ≡ fs) floors-back
    bytes _ nets rest s e) [
      | Went f_v f_m f_t f_s f_h f_l ↦
          elim (step (List NetKey) (List NetKey) (with_floors rs) live_floors (FloorsOf rs) back f_m _ nets rest f_s
          f_l) [
            | Went m_v m_m m_t m_s m_h m_l ↦
                subst (λ (p : List NetKey × Bytes). (bytes ≡ live_floors p.0 ++ p.1) × FloorsOf (r ∷ rs) p.0)
                (some-same (List NetKey × Bytes) (record r { floors = f_v } ∷ m_v, m_m) (nets, rest) m_l) (
                  f_t ∙ ap (λ l. floors_text f_v ++ l) m_t ∙ sym (append_assoc (floors_text f_v) (live_floors m_v) m_m)
                      ∙ ap (λ b. flat_map floors_bytes
                      (cond b (record r { floors = f_v } ∷ filter (λ (x : NetKey). x.live) m_v)
                      (filter (λ (x : NetKey). x.live) m_v)) ++ m_m) (sym live),
                  record {
                    rows = ap (λ l. net_bytes r ++ l) m_h.rows;
                    count = ap suc m_h.count;
                    fixed = (fixed-live r f_v bare.0 live f_h, m_h.fixed);
                  },
                )
          ]
    ]
with-by false r rs live bare back bytes nets rest s e =
    elim (step (List NetKey) (List NetKey) (with_floors rs) live_floors (FloorsOf rs) back bytes _ nets rest s e) [
      | Went m_v m_m m_t m_s m_h m_l ↦
          subst (λ (p : List NetKey × Bytes). (bytes ≡ live_floors p.0 ++ p.1) × FloorsOf (r ∷ rs) p.0)
          (some-same (List NetKey × Bytes) (r ∷ m_v, m_m) (nets, rest) m_l) (
            m_t ∙ ap
                (λ b. flat_map floors_bytes
                (cond b (r ∷ filter (λ (x : NetKey). x.live) m_v) (filter (λ (x : NetKey). x.live) m_v)) ++ m_m)
                (sym live),
            record {
              rows = ap (λ l. net_bytes r ++ l) m_h.rows;
              count = ap suc m_h.count;
              fixed = (fixed-dropped r bare.0 live bare.1, m_h.fixed);
            },
          )
    ]

with-back : (rs : List NetKey) → AllByRecursion IsBare rs → NetsBack rs
unfolding with_floors
with-back [] a bytes nets rest s e =
    subst (λ (p : List NetKey × Bytes). (bytes ≡ live_floors p.0 ++ p.1) × FloorsOf [] p.0)
    (some-same (List NetKey × Bytes) ([], bytes) (nets, rest) e)
    (refl, record { rows = refl; count = refl; fixed = tt })
with-back (r ∷ rs) a bytes nets rest s e = with-by r.live r rs refl a.0 (with-back rs a.1) bytes nets rest s e

abbrev FixedLink : LinkKey → Type 0
FixedLink r = booted_link r ≡ r

link-back : Back LinkKey link_at link_bytes FixedLink
unfolding link_at
link-back bytes r rest s e =
    elim (step ℕ LinkKey (a_number w64) (to_le_bytes w64) (Any ℕ) (number-back w64 spells64) bytes _ r rest s e) [
      | Went p_v p_m p_t p_s p_h p_l ↦
          elim (step Bytes LinkKey (some_bytes 16) same (Any Bytes) (bytes-back 16) p_m _ r rest p_s p_l) [
            | Went k_v k_m k_t k_s k_h k_l ↦
                elim (step ℕ LinkKey a_byte one (Any ℕ) byte-back k_m _ r rest k_s k_l) [
                  | Went a_v a_m a_t a_s a_h a_l ↦
                      elim (pick Attribute LinkKey (attribute_of_byte a_v) a_m _ r rest a_l) [
                        | Picked t_v t_i t_l ↦
                            elim (step ℕ LinkKey a_byte one (Any ℕ) byte-back a_m _ r rest a_s t_l) [
                              | Went b_v b_m b_t b_s b_h b_l ↦
                                  elim (pick (Bool × Bool × Bool) LinkKey (three_flags b_v) b_m _ r rest b_l) [
                                    | Picked f_v f_i f_l ↦
                                        elim (step ℕ LinkKey (a_number w32) (to_le_bytes w32) (Any ℕ)
                                        (number-back w32 spells32) b_m _ r rest b_s f_l) [
                                          | Went l_v l_m l_t l_s l_h l_l ↦
                                              subst (λ (x : LinkKey × Bytes). (bytes ≡ link_bytes x.0 ++ x.1)
                                              × FixedLink x.0)
                                              (some-same (LinkKey × Bytes) (
                                                record {
                                                  partner = p_v;
                                                  key = k_v;
                                                  attribute = t_v;
                                                  live = f_v.0;
                                                  code = f_v.1;
                                                  told = f_v.2;
                                                  kept = l_v;
                                                  stored = l_v;
                                                },
                                                l_m,
                                              )
                                              (r, rest) l_l) (
                                                link-text (to_le_bytes w64 p_v) k_v (to_le_bytes w32 l_v) a_v b_v
                                                    (attribute_byte t_v) (three_worth f_v) bytes p_m k_m a_m b_m l_m
                                                    p_t
                                                    k_t a_t (attribute-back a_v t_v t_i) b_t (three-back b_v f_v f_i)
                                                    l_t,
                                                refl,
                                              )
                                        ]
                                  ]
                            ]
                      ]
                ]
          ]
    ]
  where
    link-text : (partner key stored : Bytes) (a b t f : ℕ) (bytes m1 m2 m3 m4 m5 : Bytes) → bytes ≡ partner ++ m1 → m1
        ≡ key ++ m2 → m2 ≡ a ∷ m3 → a ≡ t → m3 ≡ b ∷ m4 → b ≡ f → m4 ≡ stored ++ m5 → bytes
        ≡ (partner ++ (key ++ (t ∷ f ∷ stored))) ++ m5
    link-text partner key stored a b t f bytes m1 m2 m3 m4 m5 e1 e2 e3 e4 e5 e6 e7 =
        e1 ∙ ap (λ x. partner ++ x)
        (e2 ∙ ap (λ x. key ++ x)
        (e3 ∙ ap (λ x. a ∷ x) (e5 ∙ ap (λ x. b ∷ x) e7 ∙ ap (λ x. x ∷ (stored ++ m5)) e6) ∙ ap
        (λ x. x ∷ f ∷ (stored ++ m5)) e4) ∙ sym (append_assoc key (t ∷ f ∷ stored) m5))
        ∙ sym (append_assoc partner (key ++ (t ∷ f ∷ stored)) m5)

pair-back : Back PairKey pair_at pair_bytes (Any PairKey)
unfolding pair_at
pair-back bytes p rest s e =
    elim (step ℕ PairKey (a_number w64) (to_le_bytes w64) (Any ℕ) (number-back w64 spells64) bytes _ p rest s e) [
      | Went a_v a_m a_t a_s a_h a_l ↦
          elim (step ℕ PairKey (a_number w64) (to_le_bytes w64) (Any ℕ) (number-back w64 spells64) a_m _ p rest a_s
          a_l) [
            | Went b_v b_m b_t b_s b_h b_l ↦
                elim (step Bytes PairKey (some_bytes 16) same (Any Bytes) (bytes-back 16) b_m _ p rest b_s b_l) [
                  | Went k_v k_m k_t k_s k_h k_l ↦
                      elim (step ℕ PairKey a_byte one (Any ℕ) byte-back k_m _ p rest k_s k_l) [
                        | Went c_v c_m c_t c_s c_h c_l ↦
                            elim (pick (Unit {0}) PairKey (only 1 c_v) c_m _ p rest c_l) [
                              | Picked l_v l_i l_l ↦
                                  subst (λ (x : PairKey × Bytes). (bytes ≡ pair_bytes x.0 ++ x.1) × Any PairKey x.0)
                                  (some-same (PairKey × Bytes)
                                  (record { first = a_v; second = b_v; key = k_v }, c_m) (p, rest) l_l) (
                                    pair-text (to_le_bytes w64 a_v) (to_le_bytes w64 b_v) k_v c_v bytes a_m b_m k_m c_m
                                        a_t b_t k_t c_t (only-back 1 c_v l_v l_i),
                                    tt,
                                  )
                            ]
                      ]
                ]
          ]
    ]
  where
    pair-text : (first second key : Bytes) (c : ℕ) (bytes m1 m2 m3 m4 : Bytes) → bytes ≡ first ++ m1 → m1 ≡ second
        ++ m2 → m2 ≡ key ++ m3 → m3 ≡ c ∷ m4 → c ≡ 1 → bytes ≡ (first ++ (second ++ (key ++ 1 ∷ []))) ++ m4
    pair-text first second key c bytes m1 m2 m3 m4 e1 e2 e3 e4 e5 =
        e1 ∙ ap (λ x. first ++ x)
        (e2 ∙ ap (λ x. second ++ x)
        (e3 ∙ ap (λ x. key ++ x) (e4 ∙ ap (λ x. x ∷ m4) e5) ∙ sym (append_assoc key (1 ∷ []) m4)) ∙ sym
        (append_assoc second (key ++ 1 ∷ []) m4))
        ∙ sym (append_assoc first (second ++ (key ++ 1 ∷ [])) m4)

-- The place of the active row

abbrev alike : NetKey → NetKey → Bool
alike a b = same_key a.key b.key

get-any : (test : NetKey → Bool) (nets : List NetKey) (i : ℕ) (r : NetKey) → slice_get nets i ≡ Some r → test r ≡ true
    → list_any test nets ≡ true
get-any test [] i r e t = absurd (none-is NetKey r e)
get-any test (x ∷ xs) zero r e t = ap (λ y. test y || list_any test xs) (some-same NetKey x r e) ∙ ap
    (λ b. b || list_any test xs) t
get-any test (x ∷ xs) (suc i) r e t = later (test x) (list_any test xs) (get-any test xs i r e t)
  where
    later : (a b : Bool) → b ≡ true → (a || b) ≡ true
    later true b q = refl
    later false b q = q

first-place : (at : ℕ) (nets : List NetKey) (i : ℕ) (r : NetKey) → all_apart alike nets ≡ true → slice_get nets i
    ≡ Some r → place_from at r.key nets ≡ at + i
first-place at [] i r a e = absurd (none-is NetKey r e)
first-place at (x ∷ xs) zero r a e = ap (λ b. cond b at (place_from (at + 1) r.key xs))
    (ap (λ (y : NetKey). same_key y.key r.key) (some-same NetKey x r e) ∙ same_key-refl r.key) ∙ omega arith
first-place at (x ∷ xs) (suc i) r a e = ap (λ b. cond b at (place_from (at + 1) r.key xs))
    (other (same_key x.key r.key) refl) ∙ first-place (at + 1) xs i r
    (and_parts (not (list_any (alike x) xs)) (all_apart alike xs) a).1 e ∙ omega arith
  where
    other : (b : Bool) → same_key x.key r.key ≡ b → b ≡ false
    other true q =
        absurd (false≢true
        (sym (not-true (list_any (alike x) xs) (and_parts (not (list_any (alike x) xs)) (all_apart alike xs) a).0) ∙
        get-any (alike x) xs i r e q))
    other false q = refl

zero-plus : (m : ℕ) → m ≡ 0 + m
zero-plus m = omega arith

active-by : (place : ℕ) (nets : List NetKey) (o : Option Bytes) → all_apart alike nets ≡ true → (b : Bool)
    → nat_eq place 65535 ≡ b → (x : Option NetKey) → slice_get nets place ≡ x
    → cond b (Some None) (option_map (λ (r : NetKey). Some r.key) x) ≡ Some o → place ≡ place_by o nets
active-by place nets o a true q x g e = eqb-true place 65535 q ∙ ap (λ y. place_by y nets)
    (some-same (Option Bytes) None o e)
active-by place nets o a false q None g e = absurd (none-is (Option Bytes) o e)
active-by place nets o a false q (Some r) g e = zero-plus place ∙ sym (first-place 0 nets place r a g) ∙ ap
    (λ y. place_by y nets) (some-same (Option Bytes) (Some r.key) o e)

active-back : (place : ℕ) (nets : List NetKey) (o : Option Bytes) → all_apart alike nets ≡ true → active_at place nets
    ≡ Some o → place ≡ place_by o nets
unfolding active_at
active-back place nets o a e = active-by place nets o a (nat_eq place 65535) refl (slice_get nets place) refl e

-- The whole record

-- a byte that represents one of a few values
value : (A B : Type 0) (of : ℕ → Option A) (spell : A → ℕ) → ((b : ℕ) (x : A) → of b ≡ Some x → b ≡ spell x)
    → (bytes : Bytes) (next : A → Taking B) (y : B) (rest : Bytes) → Small bytes
    → follow (a_byte bytes) (λ b mid. follow (chosen (of b) mid) next) ≡ Some (y, rest)
    → Step A B (λ x. one (spell x)) (Any A) bytes next y rest
value A B of spell back bytes next y rest s e =
    elim (step ℕ B a_byte one (Any ℕ) byte-back bytes _ y rest s e) [
      | Went b_v b_m b_t b_s b_h b_l ↦
          elim (pick A B (of b_v) b_m next y rest b_l) [
            | Picked x_v x_i x_l ↦ Went x_v b_m (b_t ∙ ap (λ b. b ∷ b_m) (back b_v x_v x_i)) b_s tt x_l
          ]
    ]

-- a number of the width
number : (B : Type 0) (w : Width) → Spells w → (bytes : Bytes) (next : ℕ → Taking B) (y : B) (rest : Bytes)
    → Small bytes → follow (a_number w bytes) next ≡ Some (y, rest)
    → Step ℕ B (to_le_bytes w) (Any ℕ) bytes next y rest
number B w sp bytes next y rest s e =
    step ℕ B (a_number w) (to_le_bytes w) (Any ℕ) (number-back w sp) bytes next y rest s e

-- a list after its count
abbrev counted_bytes : (A : Type 0) → (A → Bytes) → List A → Bytes
counted_bytes A spell xs = to_le_bytes w16 (length xs) ++ flat_map spell xs

counted : (A B : Type 0) (read : Taking A) (spell : A → Bytes) (P : A → Type 0) → Back A read spell P
    → (bytes : Bytes) (next : List A → Taking B) (y : B) (rest : Bytes) → Small bytes
    → follow (a_number w16 bytes) (λ n mid. follow (so_many read n mid) next) ≡ Some (y, rest)
    → Step (List A) B (counted_bytes A spell) (AllByRecursion P) bytes next y rest
counted A B read spell P back bytes next y rest s e =
    elim (number B w16 spells16 bytes _ y rest s e) [
      | Went n_v n_m n_t n_s n_h n_l ↦
          elim (step (List A) B (so_many read n_v) (flat_map spell) (λ ys. (length ys ≡ n_v) × AllByRecursion P ys)
          (many-of A read spell P back n_v) n_m next y rest n_s n_l) [
            | Went xs_v xs_m xs_t xs_s xs_h xs_l ↦
                Went xs_v xs_m
                (n_t ∙ ap (λ l. to_le_bytes w16 n_v ++ l) xs_t
                ∙ ap (λ n. to_le_bytes w16 n ++ (flat_map spell xs_v ++ xs_m)) (sym xs_h.0)
                ∙ sym (append_assoc (to_le_bytes w16 (length xs_v)) (flat_map spell xs_v) xs_m)) xs_s xs_h.1 xs_l
          ]
    ]

-- The link rows and the pairs, with the state as it was read before them

abbrev linked : NodeState → List LinkKey → List PairKey → NodeState
linked s links pairs = record s { links = links; pairs = pairs }

abbrev links_from : NodeState → Taking NodeState
links_from s = do
  link_count ← a_number w16
  links ← so_many link_at link_count
  pair_count ← a_number w16
  pairs ← so_many pair_at pair_count
  give (linked s links pairs)

record LinksRead (before : NodeState) (bytes : Bytes) (s : NodeState) (rest : Bytes) : Type 0 where
  links : List LinkKey
  pairs : List PairKey
  state : linked before links pairs ≡ s
  text : bytes ≡ counted_bytes LinkKey link_bytes links ++ (counted_bytes PairKey pair_bytes pairs ++ rest)
  fixed : AllByRecursion FixedLink links

links-read : (before : NodeState) (bytes : Bytes) (s : NodeState) (rest : Bytes) → Small bytes
    → links_from before bytes ≡ Some (s, rest) → LinksRead before bytes s rest
links-read before bytes s rest small e =
    elim (counted LinkKey NodeState link_at link_bytes FixedLink link-back bytes _ s rest small e) [
      | Went links_v links_m links_t links_s links_h links_l ↦
          elim (counted PairKey NodeState pair_at pair_bytes (Any PairKey) pair-back links_m _ s rest links_s
          links_l) [
            | Went pairs_v pairs_m pairs_t pairs_s pairs_h pairs_l ↦
                let both = some-same (NodeState × Bytes) (linked before links_v pairs_v, pairs_m) (s, rest) pairs_l in
                record {
                  links = links_v;
                  pairs = pairs_v;
                  state = ap (λ (p : NodeState × Bytes). p.0) both;
                  text = links_t ∙ ap (λ l. counted_bytes LinkKey link_bytes links_v ++ l)
                      (pairs_t ∙ ap (λ (p : NodeState × Bytes). counted_bytes PairKey pair_bytes pairs_v ++ p.1) both);
                  fixed = links_h;
                }
          ]
    ]

-- The network rows, with the place of the active one, and what comes after them

abbrev netted : NodeState → List NetKey → Option Bytes → NodeState
netted s nets active = record s { nets = nets; active = active }

abbrev nets_from : NodeState → Taking NodeState
nets_from s = do
  net_count ← a_number w16
  place ← a_number w16
  rows ← so_many net_at net_count
  nets ← with_floors rows
  active ← chosen (active_at place nets)
  links_from (netted s nets active)

record NetsRead (before : NodeState) (bytes : Bytes) (s : NodeState) (rest : Bytes) : Type 0 where
  place : ℕ
  nets : List NetKey
  active : Option Bytes
  active_is : active_at place nets ≡ Some active
  booted : AllByRecursion (λ r. booted_row r ≡ r) nets
  more : Bytes
  behind : LinksRead (netted before nets active) more s rest
  text : bytes
      ≡ to_le_bytes w16 (length nets)
      ++ (to_le_bytes w16 place ++ (flat_map net_bytes nets ++ (live_floors nets ++ more)))

nets-text : (bytes m1 m2 m3 m4 N N' P R R' F : Bytes) → bytes ≡ N ++ m1 → N ≡ N' → m1 ≡ P ++ m2 → m2 ≡ R ++ m3
    → R ≡ R' → m3 ≡ F ++ m4 → bytes ≡ N' ++ (P ++ (R' ++ (F ++ m4)))
nets-text bytes m1 m2 m3 m4 N N' P R R' F e1 e2 e3 e4 e5 e6 = cc

nets-read : (before : NodeState) (bytes : Bytes) (s : NodeState) (rest : Bytes) → Small bytes
    → nets_from before bytes ≡ Some (s, rest) → NetsRead before bytes s rest
nets-read before bytes s rest small e =
    elim (number NodeState w16 spells16 bytes _ s rest small e) [
      | Went n_v n_m n_t n_s n_h n_l ↦
          elim (number NodeState w16 spells16 n_m _ s rest n_s n_l) [
            | Went place_v place_m place_t place_s place_h place_l ↦
                elim (step (List NetKey) NodeState (so_many net_at n_v) (flat_map net_bytes)
                (λ ys. (length ys ≡ n_v) × AllByRecursion IsBare ys)
                (many-of NetKey net_at net_bytes IsBare net-back n_v) place_m _ s rest place_s place_l) [
                  | Went rows_v rows_m rows_t rows_s rows_h rows_l ↦
                      elim (step (List NetKey) NodeState (with_floors rows_v) live_floors (FloorsOf rows_v)
                      (with-back rows_v rows_h.1) rows_m _ s rest rows_s rows_l) [
                        | Went nets_v nets_m nets_t nets_s nets_h nets_l ↦
                            elim (pick (Option Bytes) NodeState (active_at place_v nets_v) nets_m _ s rest nets_l) [
                              | Picked active_v active_i active_l ↦
                                  record {
                                    place = place_v;
                                    nets = nets_v;
                                    active = active_v;
                                    active_is = active_i;
                                    booted = nets_h.fixed;
                                    more = nets_m;
                                    behind = links-read (netted before nets_v active_v) nets_m s rest nets_s active_l;
                                    text = nets-text bytes n_m place_m rows_m nets_m (to_le_bytes w16 n_v)
                                        (to_le_bytes w16 (length nets_v)) (to_le_bytes w16 place_v)
                                        (flat_map net_bytes rows_v) (flat_map net_bytes nets_v) (live_floors nets_v)
                                        n_t (ap (to_le_bytes w16) (sym (nets_h.count ∙ rows_h.0))) place_t rows_t
                                        (sym nets_h.rows) nets_t;
                                  }
                            ]
                      ]
                ]
          ]
    ]

-- What a reading of a whole record finds.
record Found (bytes : Bytes) (s : NodeState) (rest : Bytes) : Type 0 where
  place : ℕ
  text : bytes ≡ spelled s place ++ rest
  active : active_at place s.nets ≡ Some s.active
  aps : s.aps_next ≡ s.aps_limit
  nets : AllByRecursion (λ r. booted_row r ≡ r) s.nets
  links : AllByRecursion FixedLink s.links

-- the state of what comes before the network rows
abbrev headed : Role → State → ℕ → ℕ → Bool → NodeState
headed role state declared aps sending =
    record {
      role = role;
      state = state;
      declared = declared;
      aps_limit = aps;
      aps_next = aps;
      sending = sending;
      nets = [];
      active = None;
      links = [];
      pairs = [];
    }

head-text : (bytes m1 m2 m3 m4 m5 m6 D A more : Bytes) (v d g w : ℕ) → bytes ≡ v ∷ m1 → m1 ≡ d ∷ m2 → m2 ≡ g ∷ m3
    → m3 ≡ D ++ m4 → m4 ≡ A ++ m5 → m5 ≡ w ∷ m6 → m6 ≡ more → bytes ≡ v ∷ d ∷ g ∷ (D ++ (A ++ (w ∷ more)))
head-text bytes m1 m2 m3 m4 m5 m6 D A more v d g w e1 e2 e3 e4 e5 e6 e7 = cc

regroup : (D A N P R F L K Q rest : Bytes) (w : ℕ)
    → D ++ (A ++ (w ∷ (N ++ (P ++ (R ++ (F ++ ((L ++ K) ++ (Q ++ rest))))))))
    ≡ (D ++ (A ++ (w ∷ (N ++ (P ++ (R ++ (F ++ (L ++ (K ++ Q))))))))) ++ rest
regroup D A N P R F L K Q rest w =
    sym (append_assoc D (A ++ (w ∷ (N ++ (P ++ (R ++ (F ++ (L ++ (K ++ Q)))))))) rest ∙ ap (λ x. D ++ x)
    (append_assoc A (w ∷ (N ++ (P ++ (R ++ (F ++ (L ++ (K ++ Q))))))) rest ∙ ap (λ x. A ++ (w ∷ x))
    (append_assoc N (P ++ (R ++ (F ++ (L ++ (K ++ Q))))) rest ∙ ap (λ x. N ++ x)
    (append_assoc P (R ++ (F ++ (L ++ (K ++ Q)))) rest ∙ ap (λ x. P ++ x)
    (append_assoc R (F ++ (L ++ (K ++ Q))) rest ∙ ap (λ x. R ++ x)
    (append_assoc F (L ++ (K ++ Q)) rest ∙ ap (λ x. F ++ x)
    (append_assoc L (K ++ Q) rest ∙ ap (λ x. L ++ x) (append_assoc K Q rest)
    ∙ sym (append_assoc L K (Q ++ rest)))))))))

-- what comes after the head is spelled after it
whole-text : (bytes more : Bytes) (s : NodeState) (rest : Bytes) (role : Role) (state : State) (declared aps : ℕ)
    (sending : Bool) → bytes ≡ 3 ∷ role_byte role ∷ state_byte state
    ∷ (to_le_bytes w32 declared ++ (to_le_bytes w32 aps ++ (worth 1 sending ∷ more)))
    → NetsRead (headed role state declared aps sending) more s rest → Found bytes s rest
whole-text bytes more s rest role state declared aps sending e n =
    let l = n.behind in
    subst (λ x. Found bytes x rest) l.state (record {
      place = n.place;
      text =
          e ∙ ap (λ x. 3 ∷ role_byte role ∷ state_byte state ∷ x)
          (ap (λ x. to_le_bytes w32 declared ++ (to_le_bytes w32 aps ++ (worth 1 sending ∷ x)))
          (n.text ∙ ap (λ x. to_le_bytes w16 (length n.nets)
          ++ (to_le_bytes w16 n.place ++ (flat_map net_bytes n.nets ++ (live_floors n.nets ++ x)))) l.text)
          ∙ regroup (to_le_bytes w32 declared) (to_le_bytes w32 aps) (to_le_bytes w16 (length n.nets))
          (to_le_bytes w16 n.place) (flat_map net_bytes n.nets) (live_floors n.nets)
          (to_le_bytes w16 (length l.links)) (flat_map link_bytes l.links) (counted_bytes PairKey pair_bytes l.pairs)
          rest (worth 1 sending));
      active = n.active_is;
      aps = refl;
      nets = n.booted;
      links = l.fixed;
    })

found : (bytes : Bytes) (s : NodeState) (rest : Bytes) → Small bytes → record_at bytes ≡ Some (s, rest)
    → Found bytes s rest
unfolding record_at
found bytes s rest small e =
    elim (value (Unit {0}) NodeState (only 3) (λ v. 3) (only-back 3) bytes _ s rest small e) [
      | Went v_v v_m v_t v_s v_h v_l ↦
          elim (value Role NodeState role_of_byte role_byte role-back v_m _ s rest v_s v_l) [
            | Went role_v role_m role_t role_s role_h role_l ↦
                elim (value State NodeState state_of_byte state_byte state-back role_m _ s rest role_s role_l) [
                  | Went state_v state_m state_t state_s state_h state_l ↦
                      elim (number NodeState w32 spells32 state_m _ s rest state_s state_l) [
                        | Went declared_v declared_m declared_t declared_s declared_h declared_l ↦
                            elim (number NodeState w32 spells32 declared_m _ s rest declared_s declared_l) [
                              | Went aps_v aps_m aps_t aps_s aps_h aps_l ↦
                                  elim (value Bool NodeState yes_or_no (worth 1) roll-back aps_m _ s rest aps_s
                                  aps_l) [
                                    | Went roll_v roll_m roll_t roll_s roll_h roll_l ↦
                                        whole-text bytes roll_m s rest role_v state_v declared_v aps_v roll_v
                                        (head-text bytes v_m role_m state_m declared_m aps_m roll_m
                                        (to_le_bytes w32 declared_v) (to_le_bytes w32 aps_v) roll_m 3
                                        (role_byte role_v) (state_byte state_v) (worth 1 roll_v) v_t role_t state_t
                                        declared_t aps_t roll_t refl)
                                        (nets-read (headed role_v state_v declared_v aps_v roll_v) roll_m s rest
                                        roll_s roll_l)
                                  ]
                            ]
                      ]
                ]
          ]
    ]

whole-by : (x : NodeState × Bytes) (s : NodeState) (b : Bool) → nat_eq (length x.1) 0 ≡ b → cond b (Some x.0) None
    ≡ Some s → (x.0 ≡ s) × (x.1 ≡ [])
whole-by x s true q e = (some-same NodeState x.0 s e, empty x.1 (eqb-true (length x.1) 0 q))
  where
    empty : (l : Bytes) → length l ≡ 0 → l ≡ []
    empty [] e = refl
    empty (b ∷ l) e = absurd (Rattle.std.proofs.Common.ne_of_lt (omega arith) (sym e))
whole-by x s false q e = absurd (none-is NodeState s e)

whole-back : (o : Option (NodeState × Bytes)) (s : NodeState) → whole o ≡ Some s → o ≡ Some (s, [])
whole-back None s e = absurd (none-is NodeState s e)
whole-back (Some x) s e = let w = whole-by x s (nat_eq (length x.1) 0) refl e in ap (λ y. Some (y, x.1)) w.0 ∙ ap
    (λ l. Some (s, l)) w.1

with_rows : NodeState → ℕ → List NetKey → List LinkKey → NodeState
with_rows s aps nets links = record s { aps_next = aps; nets = nets; links = links }

fixed-state : (bytes : Bytes) (s : NodeState) (rest : Bytes) → Found bytes s rest → shown (after_boot s) ≡ s
unfolding shown after_boot with_rows
fixed-state bytes s rest f =
    ap (λ n. with_rows s n (map shown_net (map booted_net s.nets)) (map booted_link s.links)) (sym f.aps)
    ∙ ap (λ l. with_rows s s.aps_next l (map booted_link s.links))
    (sym (map-map shown_net booted_net s.nets) ∙ fixed-map NetKey booted_row s.nets f.nets)
    ∙ ap (λ l. with_rows s s.aps_next s.nets l) (fixed-map LinkKey booted_link s.links f.links)

apart-nets : (s : NodeState) → keys_differ s ≡ true → all_apart alike s.nets ≡ true
unfolding keys_differ
apart-nets s e = (and_parts (all_apart alike s.nets) (all_apart (λ (a b : LinkKey). same_key a.key b.key) s.links) e).0

pub spelled-back : (bytes : List ℕ) (s : NodeState) → AllByRecursion (λ b. b < 256) bytes → state_in bytes ≡ Some s
    → keys_differ s ≡ true → (record_of s ≡ bytes) × (shown (after_boot s) ≡ s)
unfolding state_in
spelled-back bytes s a e apart =
    let f = found bytes s [] (small-of bytes a) (whole-back (record_at bytes) s e) in (
      record-bytes s ∙ ap (spelled s) (sym (active-back f.place s.nets s.active (apart-nets s apart) f.active)) ∙ sym
          (f.text ∙ append-nil' (spelled s f.place)),
      fixed-state bytes s [] f,
    )
