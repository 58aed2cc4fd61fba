-- Nodes of which no two have one name: a node of a name is the first of that name.
use Rattle.std.proofs.Common.{◌≡◌, ℕ, ◌<◌, ◌||◌, nat_lt, zero, suc, arith, List, [], ◌∷◌, ◌++◌, Bool, true, false, map, length, get_or, Some, refl, ap, sym, ◌∙◌, subst, bytes_eq, ◌==◌}
use Rattle.std.specs.Prelude.{if◌then◌else◌}
use Rattle.std.specs.List.{list_any, AllByRecursion}
use Rattle.std.proofs.lemmas.Bool.Decides.{nat_tests}
use Rattle.std.proofs.lemmas.List.{map-append}
use Rattle.std.proofs.lemmas.Slice.Eq.{bytes_eq-Decides}
use Rattle.zb_base.specs.declared.label.Layer.{Layer}
use Rattle.zb_base.specs.declared.label.Layer.TheVariants.{Nwk, Aps}
use Rattle.zb_sched_line.specs.Said.{Bytes}
use Rattle.zb_sched.specs.Drafts.{seat_of, AreNamedApart, role_among}
use Rattle.zb_sched.specs.Judge.{Seat, changed, has_name, is_taken, starting}
use Rattle.zb_sched.specs.Valid.{Pairwise}
use Rattle.zb_sched.specs.declared.entry.Entry.{Entry}
use Rattle.zb_sched.proofs.Lists.{pairwise_append, neither, unequal}

abbrev names : List Seat → List Bytes
names seats = map (λ (seat : Seat). seat.node.name) seats

-- ---- what is found

name_at : (P : Bytes → Type 0) (es : List Entry) (i : ℕ) (d : Entry) → i < length es
    → AllByRecursion P (names (map seat_of es)) → P (get_or es i d).node.peer.name.bytes
name_at P [] i d within all = absurd (omega arith)
name_at P (x ∷ es) zero d within all = all.0
name_at P (x ∷ es) (suc i) d within all = name_at P es i d (omega arith) all.1

false_unless : (b : Bool) → (b ≡ true → ⊥) → b ≡ false
false_unless true no_way = absurd (no_way refl)
false_unless false no_way = refl

other_name : (x y name : Bytes) → (x ≡ y → ⊥) → bytes_eq y name ≡ true → bytes_eq x name ≡ false
other_name x y name differ named =
    false_unless (bytes_eq x name)
    (λ also. differ ((bytes_eq-Decides x name).0 also ∙ sym ((bytes_eq-Decides y name).0 named)))

pub named_at : (name : Bytes) (es : List Entry) (i : ℕ) (d : Entry) → i < length es
    → has_name name (seat_of (get_or es i d)) ≡ true → AreNamedApart (map seat_of es)
    → role_among name es ≡ Some (get_or es i d).node.peer.role
named_at name [] i d within here apart = absurd (omega arith)
named_at name (x ∷ es) zero d within here apart = rw here refl
named_at name (x ∷ es) (suc i) d within here apart =
    let other = other_name x.node.peer.name.bytes (get_or es i d).node.peer.name.bytes name
    (name_at (λ y. x.node.peer.name.bytes ≡ y → ⊥) es i d (omega arith) apart.0) here in
    rw other (named_at name es i d (omega arith) here apart.1)

-- the entry that stands at a place, in a search that may look there first
pub found_at : (name : Bytes) (es : List Entry) (i : ℕ) (e : Entry) → true ≡ nat_lt i (length es) → e ≡ get_or es i e
    → true ≡ bytes_eq e.node.peer.name.bytes name
    → AreNamedApart (map seat_of es) → Some e.node.peer.role ≡ role_among name es
found_at name es i e within there named apart =
    let lt : i < length es = grind (arith, nat_tests, within) in
    ap (λ (x : Entry). Some x.node.peer.role) there
    ∙ sym (named_at name es i e lt (ap (λ (x : Entry). has_name name (seat_of x)) (sym there) ∙ sym named) apart)

-- ---- one node changed

if_names : (b : Bool) (c s : Seat) (ss ts : List Seat) → c.node.name ≡ s.node.name → names ts ≡ names ss
    → names (if b then c ∷ ss else s ∷ ts) ≡ names (s ∷ ss)
if_names true c s ss ts kept more = ap (λ (n : Bytes). n ∷ names ss) kept
if_names false c s ss ts kept more = ap (λ (ns : List Bytes). s.node.name ∷ ns) more

names_kept : (name : Bytes) (change : Seat → Seat) → ((s : Seat) → (change s).node.name ≡ s.node.name)
    → (seats : List Seat) → names (changed name change seats) ≡ names seats
names_kept name change keep [] = refl
names_kept name change keep (s ∷ seats) = if_names (has_name name s) (change s) s seats (changed name change seats)
    (keep s) (names_kept name change keep seats)

pub changed_apart : (name : Bytes) (change : Seat → Seat) → ((s : Seat) → (change s).node.name ≡ s.node.name)
    → (before after : List Seat)
    → after ≡ changed name change before → AreNamedApart before → AreNamedApart after
changed_apart name change keep before after e apart =
    subst (λ (ns : List Bytes). Pairwise (λ a b. a ≡ b → ⊥) ns)
    (sym (ap names e ∙ names_kept name change keep before)) apart

pub start_keeps_name : (layer : Layer) (limit : ℕ) (s : Seat) → (starting layer limit s).node.name ≡ s.node.name
start_keeps_name Nwk limit s = refl
start_keeps_name Aps limit s = refl

-- ---- one node more

untaken : (name : Bytes) (eui short : ℕ) (seats : List Seat) → list_any (λ s. is_taken name eui short s) seats ≡ false
    → AllByRecursion (λ other. other ≡ name → ⊥) (names seats)
untaken name eui short [] free = tt
untaken name eui short (s ∷ seats) free =
    let both = neither (is_taken name eui short s) (list_any (λ x. is_taken name eui short x) seats) free in
    let addresses = neither (has_name name s || s.node.eui == eui) (s.node.short == short) both.0 in
    let own = neither (has_name name s) (s.node.eui == eui) addresses.0 in
    (unequal s.node.name name own.0, untaken name eui short seats both.1)

pub more_apart : (name : Bytes) (eui short : ℕ) (seats : List Seat) (new : Seat)
    → list_any (λ s. is_taken name eui short s) seats ≡ false → new.node.name ≡ name
    → AreNamedApart seats → AreNamedApart (seats ++ new ∷ [])
more_apart name eui short seats new free named apart =
    subst (λ (ns : List Bytes). Pairwise (λ a b. a ≡ b → ⊥) ns)
    (sym (map-append (λ (s : Seat). s.node.name) seats (new ∷ []) ∙ ap (λ (n : Bytes). names seats ++ n ∷ [])
    named))
    (pairwise_append (λ a b. a ≡ b → ⊥) (names seats) name apart (untaken name eui short seats free))

pub more_entries : (name : Bytes) (eui short : ℕ) (es : List Entry) (e : Entry)
    → list_any (λ s. is_taken name eui short s) (map seat_of es) ≡ false
    → (seat_of e).node.name ≡ name → AreNamedApart (map seat_of es) → AreNamedApart (map seat_of (es ++ e ∷ []))
more_entries name eui short es e free named apart =
    subst (λ (seats : List Seat). AreNamedApart seats) (sym (map-append seat_of es (e ∷ [])))
    (more_apart name eui short (map seat_of es) (seat_of e) free named apart)
