-- Writing the items of a list, one after the other.
use Rattle.std.proofs.Common.{◌≡◌, ℕ, ◌+◌, ◌*◌, ◌<◌, ◌≤◌, List, [], ◌∷◌, ◌++◌, length, take, drop, get_or, sym, ap, ◌∙◌, arith, append_assoc, append-nil, length-append, Bool, true, false, if◌then◌else◌, subst}
use Rattle.std.specs.Prelude.{filter}
use Rattle.std.specs.List.{flat_map}
use Rattle.std.proofs.lemmas.List.{take_more, take_all, take-append-drop}
use Rattle.std.proofs.lemmas.List.Elements.{filter-append}
use Rattle.std.proofs.lemmas.Grind.{flat_map-append}
use Rattle.std.proofs.lemmas.List.Folds.{length-flat_map-take}
use Rattle.zb_record.specs.Written.{Writes}

-- the items up to i are written
pub record Written {X : Type 0} (spell : X → List ℕ) (old new : List ℕ) (at end i : ℕ) (items : List X) : Type 0 where
  pub writes : Writes old new at end (flat_map spell (take i items))

pub written_none : {X : Type 0} (spell : X → List ℕ) (old : List ℕ) (at : ℕ) (items : List X)
    → Written spell old old at at 0 items
written_none spell old at items =
    record { writes = record { front = sym (append-nil (take at old)); end_is = omega arith } }

step : {X : Type 0} (spell : X → List ℕ) (i : ℕ) (items : List X) (d : X) → i < length items
    → flat_map spell (take (i + 1) items) ≡ flat_map spell (take i items) ++ spell (get_or items i d)
step spell i items d lt = ap (flat_map spell) (take_more items i d lt) ∙ flat_map-append spell (take i items)
    (get_or items i d ∷ []) ∙ ap (λ l. flat_map spell (take i items) ++ l) (append-nil (spell (get_or items i d)))

pub written_more : {X : Type 0} {spell : X → List ℕ} (old mid new : List ℕ) (at end next i : ℕ) (items : List X)
    (d : X) → i < length items
    → Written spell old mid at end i items → Writes mid new end next (spell (get_or items i d))
    → Written spell old new at next (i + 1) items
written_more {X} {spell} old mid new at end next i items d lt so one =
    let more = step spell i items d lt in
    record {
      writes = record {
        front = one.front ∙ ap (λ l. l ++ spell (get_or items i d)) so.writes.front ∙ append_assoc (take at old)
            (flat_map spell (take i items)) (spell (get_or items i d)) ∙ ap (λ l. take at old ++ l) (sym more);
        end_is =
            omega (
              arith,
              one.end_is,
              so.writes.end_is,
              ap (length {A = ℕ}) more,
              length-append (flat_map spell (take i items)) (spell (get_or items i d)),
            );
      };
    }

pub written_room : {X : Type 0} {spell : X → List ℕ} (old mid : List ℕ) (at end i : ℕ) (items : List X) (d : X)
    (room : ℕ) → i < length items
    → at + length (flat_map spell items) ≤ room → Written spell old mid at end i items
    → end + length (spell (get_or items i d)) ≤ room
written_room {X} {spell} old mid at end i items d room lt all so =
    omega (arith, length-flat_map-take spell items i d lt, so.writes.end_is)

pub written_all : {X : Type 0} {spell : X → List ℕ} (old new : List ℕ) (at end i : ℕ) (items : List X) → length items
    ≤ i → Written spell old new at end i items → Writes old new at end (flat_map spell items)
written_all {X} {spell} old new at end i items long so =
    let whole : flat_map spell (take i items) ≡ flat_map spell items = ap (flat_map spell) (take_all i items long) in
    record {
      front = so.writes.front ∙ ap (λ l. take at old ++ l) whole;
      end_is = so.writes.end_is ∙ ap (λ l. at + length l) whole;
    }

pub writes_as : (old new : List ℕ) (at end : ℕ) (p q : List ℕ) → p ≡ q → Writes old new at end p
    → Writes old new at end q
writes_as old new at end p q same so =
    record { front = so.front ∙ ap (λ l. take at old ++ l) same; end_is = so.end_is ∙ ap (λ l. at + length l) same }

pub filter_part : {X : Type 0} (p : X → Bool) (i : ℕ) (xs : List X) → length (filter p (take i xs))
    ≤ length (filter p xs)
filter_part {X} p i xs =
    let split : filter p xs ≡ filter p (take i xs) ++ filter p (drop i xs) =
    ap (filter p) (sym (take-append-drop i xs)) ∙ filter-append p (take i xs) (drop i xs) in
    omega (arith, ap (length {A = X}) split, length-append (filter p (take i xs)) (filter p (drop i xs)))

-- the bound after one more item, which takes room if it passes the test
pub bound_more : (b : Bool) (size at end next n m : ℕ) → next ≤ end + (if b then size else 0) → m
    ≡ n + (if b then 1 else 0) → end ≤ at + size * n → next ≤ at + size * m
bound_more true size at end next n m after more before = let e : size * (n + 1) ≡ size * n + size =
    omega arith in omega (arith, after, more, before, ap (λ k. size * k) more)
bound_more false size at end next n m after more before = omega (arith, after, more, before, ap (λ k. size * k) more)

pub writes_then : (old mid new : List ℕ) (at next end : ℕ) (p q : List ℕ) → Writes old mid at next p
    → Writes mid new next end q → Writes old new at end (p ++ q)
writes_then old mid new at next end p q first second = record {
  front = second.front ∙ ap (λ l. l ++ q) first.front ∙ append_assoc (take at old) p q;
  end_is = omega (arith, first.end_is, second.end_is, length-append p q);
}

-- one more item, which was read into x
pub written_item : {X : Type 0} {spell : X → List ℕ} (old mid new : List ℕ) (at end next i : ℕ) (items : List X)
    (x : X) → i < length items → x ≡ get_or items i x
    → Written spell old mid at end i items → Writes mid new end next (spell x)
    → Written spell old new at next (i + 1) items
written_item {X} {spell} old mid new at end next i items x lt is so one = written_more old mid new at end next i items
    x lt so (subst (λ (y : X). Writes mid new end next (spell y)) is one)
