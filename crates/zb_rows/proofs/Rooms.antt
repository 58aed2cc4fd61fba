-- Room for a third network key: if two are in use, the one that isn't active is dropped.
use Rattle.std.proofs.Common.{◌≡◌, ℕ, ◌<◌, ◌≤◌, ◌++◌, List, [], ◌∷◌, map, length, refl, sym, ap, ◌∙◌, Bool, true, false, not, ◌&&◌, if◌then◌else◌, Option, Some, None, append-nil}
use Rattle.std.specs.Prelude.{filter, find, nat_le, option_map}
use borrow.Author.Tests.{lt-leb, le-leb}
use Rattle.std.proofs.lemmas.List.{map_push}
use Rattle.zb_node_types.specs.declared.change.Change.{Change}
use Rattle.zb_node_types.specs.Changes.{edit, edits}
use Rattle.zb_model.specs.Data.{Bytes, Move, DropNet, Moved}
use Rattle.zb_model.specs.State.{NodeState, NetKey, live_nets, is_active_key}
use Rattle.zb_model.specs.Rules.{drop_old, first_drop}
use Rattle.zb_record.specs.declared.net_row.NetRow.{NetRow}
use Rattle.zb_record.specs.RowViews.{net_key}
use Rattle.zb_record.proofs.Lists.{count_map}
use Rattle.zb_rows.proofs.Looking.{found_in}

pub added : (old new : List Change) (x : Change) → new ≡ old ++ x ∷ [] → edits new ≡ edits old ++ edit x ∷ []
added old new x is = ap (map edit) is ∙ map_push edit old x

abbrev pub to_drop : Option NetKey → List Move
to_drop None = []
to_drop (Some r) = DropNet r.key ∷ []

first_of : (p q : NetKey → Bool) (xs : List NetKey) → first_drop (filter q (filter p xs))
    ≡ to_drop (find (λ (r : NetKey). p r && q r) xs)
first_of p q [] = refl
first_of p q (x ∷ xs) = at_test (p x) (first_of p q xs)
  where
    inner : (c : Bool) → first_drop (filter q (filter p xs)) ≡ to_drop (find (λ (r : NetKey). p r && q r) xs)
        → first_drop (if c then x ∷ filter q (filter p xs) else filter q (filter p xs))
        ≡ to_drop (if c then Some x else find (λ (r : NetKey). p r && q r) xs)
    inner true e = refl
    inner false e = e

    at_test : (b : Bool) → first_drop (filter q (filter p xs)) ≡ to_drop (find (λ (r : NetKey). p r && q r) xs)
        → first_drop (filter q (if b then x ∷ filter p xs else filter p xs))
        ≡ to_drop (if b && q x then Some x else find (λ (r : NetKey). p r && q r) xs)
    at_test true e = inner (q x) e
    at_test false e = e

pub live_count : (s : NodeState) (rows : List NetRow) (n : ℕ) → map net_key rows ≡ s.nets → n
    ≡ length (filter (λ (r : NetRow). (net_key r).live) rows) → n ≡ length (live_nets s)
live_count s rows n is counted = counted ∙ sym (count_map (λ (r : NetKey). r.live) net_key rows) ∙ ap
    (λ l. length {A = NetKey} (filter (λ (r : NetKey). r.live) l)) is

-- fewer than two are in use: nothing is dropped
pub drop_few : (s : NodeState) (old : List Change) (n : ℕ) → n ≡ length (live_nets s) → n < 2 → edits old ≡ edits old
    ++ map Moved (drop_old s)
unfolding drop_old
drop_few s old n is few =
    let two : nat_le 2 (length (live_nets s)) ≡ false = rw (sym is) (lt-leb 2 n few) in
    rw two (sym (append-nil (edits old)))

-- two are in use: the first that isn't active is dropped
pub drop_idle : (s : NodeState) (rows : List NetRow) (active : Option Bytes) (n : ℕ) (o : Option NetRow)
    → map net_key rows ≡ s.nets → active ≡ s.active → n ≡ length (live_nets s) → 2 ≤ n
    → o ≡ find (λ (r : NetRow). (net_key r).live && not (is_active_key active (net_key r).key)) rows
    → to_drop (option_map net_key o) ≡ drop_old s
unfolding drop_old
drop_idle s rows active n o is same number many found =
    let two : nat_le 2 (length (live_nets s)) ≡ true = rw (sym number) (le-leb 2 n many) in
    let row : to_drop (option_map net_key o)
    ≡ first_drop (filter (λ (r : NetKey). not (is_active_key s.active r.key)) (live_nets s)) =
    ap to_drop (found_in (λ (r : NetKey). r.live && not (is_active_key active r.key)) net_key rows s.nets o is found)
    ∙ ap (λ a. to_drop (find (λ (r : NetKey). r.live && not (is_active_key a r.key)) s.nets)) same
    ∙ sym (first_of (λ (r : NetKey). r.live) (λ (r : NetKey). not (is_active_key s.active r.key)) s.nets) in
    rw two row
