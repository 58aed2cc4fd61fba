-- Rows read one after the other, as the loops do.
use Rattle.std.proofs.Common.{◌≡◌, ℕ, suc, ◌+◌, ◌-◌, ◌<◌, ◌≤◌, List, [], ◌∷◌, ◌++◌, length, map, take, drop, get_or, Result, Ok, Err, refl, sym, ap, ◌∙◌, arith, length-drop}
use Rattle.std.specs.Prelude.{slice_set}
use Rattle.std.proofs.lemmas.List.{map_push, take_more_set, drop_more, get_or-drop, drop-set-lt, drop-drop, drop_all, take_all}
use Rattle.zb_model.specs.State.{NetKey}
use Rattle.zb_record.specs.Placed.{Placed, rows_at}
use Rattle.zb_record.specs.declared.net.NetRecord.{NetRecord}
use Rattle.zb_record.specs.Rows.{net_seen, live_floors_at, all_floors_at}

module _ {A X : Type 0} (step : List A → Placed A) (view : X → A) (count i : ℕ) (bytes : List ℕ) (rows : List X)
    (total : Result (List A × List ℕ) ℕ) where
  pub go_on : (rest : List ℕ) (x : X) → i < count → step (map view rows) bytes ≡ Ok (view x, rest)
      → rows_at step (count - i) (map view rows) bytes ≡ total
      → rows_at step (count - (i + 1)) (map view (rows ++ x ∷ [])) rest ≡ total
  unfolding rows_at
  go_on rest x lt read so =
      let k : count - i ≡ suc (count - (i + 1)) = omega arith in
      let one : rows_at step (count - i) (map view rows) bytes
      ≡ rows_at step (count - (i + 1)) (map view rows ++ view x ∷ []) rest = rw (k, read) refl in
      ap (λ l. rows_at step (count - (i + 1)) l rest) (map_push view rows x) ∙ sym one ∙ so

  pub stop : (e : ℕ) → i < count → step (map view rows) bytes ≡ Err e → rows_at step (count - i) (map view rows) bytes
      ≡ total → total ≡ Err e
  unfolding rows_at
  stop e lt read so =
      let k : count - i ≡ suc (count - (i + 1)) = omega arith in
      let one : rows_at step (count - i) (map view rows) bytes ≡ Err e = rw (k, read) refl in
      sym so ∙ one

  pub all_read : count ≤ i → rows_at step (count - i) (map view rows) bytes ≡ total → total ≡ Ok (map view rows, bytes)
  unfolding rows_at
  all_read le so =
      let k : count - i ≡ 0 = omega arith in
      let one : rows_at step (count - i) (map view rows) bytes ≡ Ok (map view rows, bytes) = rw k refl in
      sym so ∙ one

-- floors are read into rows

pub record Filled (i : ℕ) (old new : List NetRecord) (rest : List ℕ) (total : Result (List NetKey × List ℕ) ℕ) : Type
    0 where
  pub reads : all_floors_at (map net_seen (take i new)) (map net_seen (drop i old)) rest ≡ total
  pub others : drop i new ≡ drop i old

same_item : (i : ℕ) (old new : List NetRecord) (x : NetRecord) → drop i new ≡ drop i old → get_or old i x
    ≡ get_or new i x
same_item i old new x rest =
    let e : i + 0 ≡ i = omega arith in
    sym (ap (λ k. get_or old k x) e) ∙ sym (get_or-drop i old 0 x) ∙ sym (ap (λ l. get_or l 0 x) rest) ∙ get_or-drop i
    new 0 x ∙ ap (λ k. get_or new k x) e

pub fill_next : (i : ℕ) (old new : List NetRecord) (rest after : List ℕ) (total : Result (List NetKey × List ℕ) ℕ)
    (d y : NetRecord) → i < length old
    → live_floors_at (net_seen (get_or new i d)) rest ≡ Ok (net_seen y, after) → Filled i old new rest total
    → Filled (i + 1) old (slice_set new i y) after total
unfolding all_floors_at
fill_next i old new rest after total d y lt read so =
    let in_new : i < length new =
    omega (arith, ap (length {A = NetRecord}) so.others, length-drop i new, length-drop i old) in
    let item : get_or old i d ≡ get_or new i d = same_item i old new d so.others in
    let parts : map net_seen (drop i old) ≡ net_seen (get_or new i d) ∷ map net_seen (drop (i + 1) old) =
    ap (map net_seen) (drop_more old i d lt) ∙ ap (λ x. net_seen x ∷ map net_seen (drop (i + 1) old)) item in
    let one : all_floors_at (map net_seen (take i new)) (map net_seen (drop i old)) rest
    ≡ all_floors_at (map net_seen (take i new) ++ net_seen y ∷ []) (map net_seen (drop (i + 1) old)) after =
    rw (parts, read) refl in
    let front : map net_seen (take (i + 1) (slice_set new i y)) ≡ map net_seen (take i new) ++ net_seen y
    ∷ [] = ap (map net_seen) (take_more_set new i y in_new) ∙ map_push net_seen (take i new) y in
    let later : i < i + 1 = omega arith in
    record {
      reads = ap (λ l. all_floors_at l (map net_seen (drop (i + 1) old)) after) front ∙ sym one ∙ so.reads;
      others = drop-set-lt (i + 1) new i y later ∙ sym (drop-drop 1 i new) ∙ ap (drop 1) so.others ∙ drop-drop 1 i old;
    }

pub fill_stop : (i : ℕ) (old new : List NetRecord) (rest : List ℕ) (total : Result (List NetKey × List ℕ) ℕ)
    (d : NetRecord) (e : ℕ) → i < length old
    → live_floors_at (net_seen (get_or new i d)) rest ≡ Err e → Filled i old new rest total → total ≡ Err e
unfolding all_floors_at
fill_stop i old new rest total d e lt read so =
    let item : get_or old i d ≡ get_or new i d = same_item i old new d so.others in
    let parts : map net_seen (drop i old) ≡ net_seen (get_or new i d) ∷ map net_seen (drop (i + 1) old) =
    ap (map net_seen) (drop_more old i d lt) ∙ ap (λ x. net_seen x ∷ map net_seen (drop (i + 1) old)) item in
    let one : all_floors_at (map net_seen (take i new)) (map net_seen (drop i old)) rest ≡ Err e =
    rw (parts, read) refl in
    sym so.reads ∙ one

pub fill_end : (i : ℕ) (old new : List NetRecord) (rest : List ℕ) (total : Result (List NetKey × List ℕ) ℕ)
    → length old ≤ i → Filled i old new rest total → total ≡ Ok (map net_seen new, rest)
unfolding all_floors_at
fill_end i old new rest total le so =
    let none : drop i old ≡ [] = drop_all i old le in
    let long : length new
    ≤ i = omega (arith, ap (length {A = NetRecord}) so.others, length-drop i new, length-drop i old, le) in
    let all : take i new ≡ new = take_all i new long in
    let one : all_floors_at (map net_seen (take i new)) (map net_seen (drop i old)) rest
    ≡ Ok (map net_seen new, rest) = rw (none, all) refl in
    sym so.reads ∙ one

-- the same if the rows are stored as contracts see them

module _ {A : Type 0} (step : List A → Placed A) (count i : ℕ) (bytes : List ℕ) (rows : List A)
    (total : Result (List A × List ℕ) ℕ) where
  pub row_read : (rest : List ℕ) (x : A) → i < count → step rows bytes ≡ Ok (x, rest)
      → rows_at step (count - i) rows bytes ≡ total → rows_at step (count - (i + 1)) (rows ++ x ∷ []) rest ≡ total
  unfolding rows_at
  row_read rest x lt read so =
      let k : count - i ≡ suc (count - (i + 1)) = omega arith in
      let one : rows_at step (count - i) rows bytes ≡ rows_at step (count - (i + 1)) (rows ++ x ∷ []) rest =
      rw (k, read) refl in
      sym one ∙ so

  pub row_refused : (e : ℕ) → i < count → step rows bytes ≡ Err e → rows_at step (count - i) rows bytes ≡ total
      → total ≡ Err e
  unfolding rows_at
  row_refused e lt read so =
      let k : count - i ≡ suc (count - (i + 1)) = omega arith in
      let one : rows_at step (count - i) rows bytes ≡ Err e = rw (k, read) refl in
      sym so ∙ one

  pub rows_read : count ≤ i → rows_at step (count - i) rows bytes ≡ total → total ≡ Ok (rows, bytes)
  unfolding rows_at
  rows_read le so =
      let k : count - i ≡ 0 = omega arith in
      let one : rows_at step (count - i) rows bytes ≡ Ok (rows, bytes) = rw k refl in
      sym so ∙ one
