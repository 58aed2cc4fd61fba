-- A loop that changes each item of a slice: how far it has got.
use Rattle.std.proofs.Common.{◌≡◌, ℕ, ◌+◌, ◌<◌, List, [], ◌∷◌, ◌++◌, length, map, take, drop, get_or, sym, ap, ◌∙◌, arith, length-drop, subst}
use Rattle.std.specs.Prelude.{slice_set, All}
use Rattle.std.proofs.lemmas.List.{take_more_set, map_push, map_more, get_or-drop, drop-set-lt, drop-drop, get_or_default, get_or-map, length-map}
use Rattle.std.proofs.lemmas.List.Elements.{All-get_or}

-- the items up to i are changed by f, as they are seen, and the others are as before
pub record Mapped {X Y : Type 0} (view : X → Y) (f : Y → Y) (i : ℕ) (old new : List X) : Type 0 where
  pub done : map view (take i new) ≡ map f (map view (take i old))
  pub rest : drop i new ≡ drop i old

-- two lists that agree from i on have the same item there
same_item : {X : Type 0} (i : ℕ) (old new : List X) (x : X) → drop i new ≡ drop i old → get_or old i x ≡ get_or new i x
same_item i old new x rest =
    let e : i + 0 ≡ i = omega arith in
    sym (ap (λ k. get_or old k x) e) ∙ sym (get_or-drop i old 0 x) ∙ sym (ap (λ l. get_or l 0 x) rest) ∙ get_or-drop i
    new 0 x ∙ ap (λ k. get_or new k x) e

-- one more item, which x shows
pub next : {X Y : Type 0} {view : X → Y} {f : Y → Y} (i : ℕ) (old new : List X) (x y : X) → i < length old → x
    ≡ get_or new i x → view y ≡ f (view x) → Mapped view f i old new → Mapped view f (i + 1) old (slice_set new i y)
next {X} {Y} {view} {f} i old new x y lt at changed so =
    let in_new : i < length new = omega (arith, ap (length {A = X}) so.rest, length-drop i new, length-drop i old) in
    let here : get_or old i x ≡ x = same_item i old new x so.rest ∙ sym at in
    let done : map view (take (i + 1) (slice_set new i y)) ≡ map f (map view (take (i + 1) old)) =
    ap (map view) (take_more_set new i y in_new) ∙ map_push view (take i new) y
    ∙ ap (λ l. l ++ view y ∷ []) so.done
    ∙ ap (λ z. map f (map view (take i old)) ++ z ∷ []) (changed ∙ ap (λ z. f (view z)) (sym here))
    ∙ sym (map_push f (map view (take i old)) (view (get_or old i x)))
    ∙ ap (map f) (sym (map_more view old i x lt)) in
    let later : i < i + 1 = omega arith in
    record {
      done = done;
      rest = drop-set-lt (i + 1) new i y later ∙ sym (drop-drop 1 i new) ∙ ap (drop 1) so.rest ∙ drop-drop 1 i old;
    }

-- the same, where the item is read with a default
pub next_read : {X Y : Type 0} {view : X → Y} {f : Y → Y} (i : ℕ) (old new : List X) (d y : X) → i < length old
    → view y ≡ f (view (get_or new i d)) → Mapped view f i old new → Mapped view f (i + 1) old (slice_set new i y)
next_read {X} {Y} {view} {f} i old new d y lt changed so =
    let in_new : i < length new = omega (arith, ap (length {A = X}) so.rest, length-drop i new, length-drop i old) in
    next i old new (get_or new i d) y lt (get_or_default new i d (get_or new i d) in_new) changed so

-- a condition that all changed items meet is met by the next one too, whatever the loop itself does
pub room_beside : {X Y : Type 0} {view : X → Y} {g : Y → Y} (f : Y → Y) (P : Y → Type 0) (i : ℕ) (old new : List X)
    (d : X) → i < length old → All P (map f (map view old)) → Mapped view g i old new → P (f (view (get_or new i d)))
room_beside {X} {Y} {view} {g} f P i old new d lt all so =
    let lt2 : i < length (map view old) = omega (arith, length-map old view) in
    let lt3 : i < length (map f (map view old)) = omega (arith, length-map (map view old) f) in
    let at : get_or (map f (map view old)) i (f (view d)) ≡ f (view (get_or new i d)) =
    get_or-map f (map view old) i (view d) (f (view d)) lt2 ∙ ap f (get_or-map view old i d (view d) lt) ∙ ap
    (λ x. f (view x)) (same_item i old new d so.rest) in
    subst P at (All-get_or P (map f (map view old)) i (f (view d)) lt3 all)
