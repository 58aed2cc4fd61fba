-- Storing a floor among ascending senders: walking past the smaller ones, and what the place means.
use Rattle.std.proofs.Common.{◌≡◌, ℕ, ◌+◌, ◌<◌, ◌≤◌, List, [], ◌∷◌, ◌++◌, length, map, take, drop, get_or, refl, sym, ap, ◌∙◌, arith, max, append_assoc, add-one, length-append}
use Rattle.std.specs.Prelude.{slice_set, nat_lt, nat_eq, insert, true, false}
use Rattle.std.proofs.lemmas.List.{take_more, drop_more, map_push, map-append, drop_all, take_at, set_split, length-map, take-append-drop}
use Rattle.std.specs.List.{refill}
use Rattle.std.proofs.lemmas.Bool.Decides.{nat_tests}
use borrow.Author.Tests.{le-ltb, lt-ltb, eq-eqb}
use Rattle.zb_model.specs.State as model
use Rattle.zb_model.specs.State.{floor_stored}
use Rattle.zb_record.specs.declared.net_row.SenderFloor.{SenderFloor}
use Rattle.zb_record.specs.RowViews.{heard_floor}
use Rattle.zb_record.specs.Senders.{IsPlace, IsAbsent}

-- the senders up to i are below this one
pub record Passed (floors : List SenderFloor) (sender i : ℕ) : Type 0 where
  pub before : (value : ℕ) → floor_stored sender value (map heard_floor floors) ≡ map heard_floor (take i floors)
      ++ floor_stored sender value (map heard_floor (drop i floors))

skips : (sender value : ℕ) (f : model.SenderFloor) (fs : List model.SenderFloor) → f.sender < sender
    → floor_stored sender value (f ∷ fs) ≡ f ∷ floor_stored sender value fs
skips sender value f fs below =
    let not_below : nat_lt sender f.sender ≡ false = le-ltb _ _ (omega arith) in
    let not_equal : nat_eq sender f.sender ≡ false = grind (arith, nat_tests) in
    rw (not_below, not_equal) refl

pub goes_past : (floors : List SenderFloor) (sender i : ℕ) (d : SenderFloor) → i < length floors
    → (get_or floors i d).sender.0 < sender → Passed floors sender i → Passed floors sender (i + 1)
goes_past floors sender i d lt below so = record {
  before = λ value.
      so.before value
      ∙ ap (λ l. map heard_floor (take i floors) ++ floor_stored sender value (map heard_floor l))
      (drop_more floors i d lt)
      ∙ ap (λ l. map heard_floor (take i floors) ++ l)
      (skips sender value (heard_floor (get_or floors i d)) (map heard_floor (drop (i + 1) floors)) below)
      ∙ sym (append_assoc (map heard_floor (take i floors)) (heard_floor (get_or floors i d) ∷ [])
      (floor_stored sender value (map heard_floor (drop (i + 1) floors))))
      ∙ ap (λ l. l ++ floor_stored sender value (map heard_floor (drop (i + 1) floors)))
      (sym (map_push heard_floor (take i floors) (get_or floors i d)) ∙ ap (map heard_floor)
      (sym (take_more floors i d lt)));
}

pub is_here : (floors : List SenderFloor) (sender i : ℕ) (d : SenderFloor) → i < length floors → sender
    ≤ (get_or floors i d).sender.0 → Passed floors sender i → IsPlace floors sender i
is_here floors sender i d lt here so = record {
  within = omega arith;
  before = so.before;
  here = λ f rest at. let same : get_or floors i d ∷ drop (i + 1) floors ≡ f ∷ rest =
      sym (drop_more floors i d lt) ∙ at in
      let e : get_or floors i d ≡ f = cc in
      rw (← e) here;
}

-- a floor that is already there is raised
pub raised : (floors : List SenderFloor) (sender place value : ℕ) (d : SenderFloor) (m : ℕ) → place < length floors
    → (get_or floors place d).sender.0 ≡ sender
    → m ≡ max (get_or floors place d).stored value
    → IsPlace floors sender place
    → map heard_floor (slice_set floors place (record (get_or floors place d) { stored = m }))
    ≡ floor_stored sender value (map heard_floor floors)
raised floors sender place value d m lt same new so =
    let not_below : nat_lt sender (get_or floors place d).sender.0 ≡ false = le-ltb _ _ (omega (arith, same)) in
    let equal : nat_eq sender (get_or floors place d).sender.0 ≡ true = eq-eqb _ _ (sym same) in
    let y : SenderFloor = record (get_or floors place d) { stored = m } in
    let stored : floor_stored sender value
    (heard_floor (get_or floors place d) ∷ map heard_floor (drop (place + 1) floors))
    ≡ heard_floor (record (get_or floors place d) { stored = m }) ∷ map heard_floor (drop (place + 1) floors) =
    rw (not_below, equal, new) refl in
    let split : slice_set floors place y ≡ take place floors ++ y ∷ drop (place + 1) floors =
    rw add-one (set_split floors place y lt) in
    ap (map heard_floor) split ∙ map-append heard_floor (take place floors) (y ∷ drop (place + 1) floors)
    ∙ ap (λ l. map heard_floor (take place floors) ++ l) (sym stored)
    ∙ ap (λ l. map heard_floor (take place floors) ++ floor_stored sender value (map heard_floor l))
    (sym (drop_more floors place d lt))
    ∙ sym (so.before value)

-- the floor of a sender without one goes before those of greater senders
in_front : (rest : List SenderFloor) (sender value : ℕ)
    → ((f : SenderFloor) (fs : List SenderFloor) → rest ≡ f ∷ fs → sender < f.sender.0)
    → floor_stored sender value (map heard_floor rest) ≡ record { sender = sender; kept = 0; stored = value }
    ∷ map heard_floor rest
in_front [] sender value above = refl
in_front (f ∷ fs) sender value above = let below : nat_lt sender f.sender.0 ≡ true =
    lt-ltb _ _ (above f fs refl) in rw below refl

pub inserted : (floors : List SenderFloor) (sender place value : ℕ) (new : SenderFloor) → heard_floor new
    ≡ record { sender = sender; kept = 0; stored = value }
    → IsPlace floors sender place → IsAbsent floors sender place → map heard_floor (insert floors place new)
    ≡ floor_stored sender value (map heard_floor floors)
inserted floors sender place value new is so absent =
    let front = in_front (drop place floors) sender value
    (λ f fs at. let le : sender ≤ f.sender.0 = so.here f fs at in let ne : f.sender.0 ≡ sender
    → ⊥ = absent f fs at in omega arith) in
    map-append heard_floor (take place floors) (new ∷ drop place floors)
    ∙ ap (λ z. map heard_floor (take place floors) ++ z ∷ map heard_floor (drop place floors)) is
    ∙ ap (λ l. map heard_floor (take place floors) ++ l) (sym front)
    ∙ sym (so.before value)

pub has_room : (floors : List SenderFloor) (sender place value : ℕ) → IsPlace floors sender place
    → IsAbsent floors sender place → length (floor_stored sender value (map heard_floor floors)) ≤ 64 → length floors
    < 64
has_room floors sender place value so absent room =
    let front = in_front (drop place floors) sender value
    (λ f fs at. let le : sender ≤ f.sender.0 = so.here f fs at in let ne : f.sender.0 ≡ sender
    → ⊥ = absent f fs at in omega arith) in
    let all = so.before value ∙ ap (λ l. map heard_floor (take place floors) ++ l) front in
    let long : length (floor_stored sender value (map heard_floor floors)) ≡ length floors + 1 =
    ap (length {A = model.SenderFloor}) all ∙ length-append (map heard_floor (take place floors)) _
    ∙ (let a : length (map heard_floor (take place floors))
    ≡ length (take place floors) = length-map (take place floors) heard_floor in
    let b : length (map heard_floor (drop place floors)) ≡ length (drop place floors) =
    length-map (drop place floors) heard_floor in
    let c : length (take place floors) + length (drop place floors) ≡ length floors =
    sym (length-append (take place floors) (drop place floors)) ∙ ap (length {A = SenderFloor})
    (take-append-drop place floors) in
    omega arith) in
    omega arith

-- an array that is filled from a list of its own length is that list
pub refilled : {X : Type 0} (xs ws : List X) → length ws ≡ length xs → refill (length xs) xs ws ≡ ws
refilled {X} xs ws same = ap (λ l. take (length xs) (ws ++ l)) (drop_all (length ws) xs (omega (arith, same))) ∙
    take_at ws [] (length xs) same
