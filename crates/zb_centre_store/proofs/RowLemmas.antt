-- Lines of rows, one row after the other.
use Rattle.std.proofs.Common.{◌≡◌, ℕ, ◌+◌, ◌<◌, ◌≤◌, ◌^◌, Bool, true, false, if◌then◌else◌, Option, List, [], ◌∷◌, ◌++◌, map, take, get_or, length, refl, sym, ap, ◌∙◌, arith, append_assoc, append-nil}
use Rattle.std.proofs.lemmas.List.{length-map, length-take-le, map_more}
use Rattle.zb_centre_store.specs.Rows.{link_line, listed, net_line, numbered}
use Rattle.zb_model.specs.Data.{Bytes, Role}
use Rattle.zb_model.specs.Fits.{keeps_rules, most_links}
use Rattle.zb_model.specs.State.{LinkKey, NetKey, NodeState, is_centre}
use Rattle.law_change_fits.proofs.Parts.{rules_of}
use Rattle.zb_text.specs.Pages.{ended, page}

numbered_more : {Y : Type 0} (line : ℕ → Y → Bytes) (n : ℕ) (xs : List Y) (y : Y)
    → page (numbered line n (xs ++ y ∷ [])) ≡ page (numbered line n xs) ++ ended (line (n + length xs) y)
numbered_more line n [] y = append-nil (ended (line n y)) ∙ ap (λ m. ended (line m y)) here
  where
    here : n ≡ n + 0
    here = omega arith
numbered_more line n (x ∷ xs) y =
    ap (λ l. ended (line n x) ++ l) (numbered_more line (n + 1) xs y)
    ∙ sym (append_assoc (ended (line n x)) (page (numbered line (n + 1) xs)) (ended (line (n + 1 + length xs) y)))
    ∙ ap (λ m. ended (line n x) ++ page (numbered line (n + 1) xs) ++ ended (line m y)) there
  where
    there : n + 1 + length xs ≡ n + length (x ∷ xs)
    there = omega arith

pub numbered_step : {X Y : Type 0} (line : ℕ → Y → Bytes) (f : X → Y) (rows : List X) (i : ℕ) (d x : X)
    (front now next : List ℕ) → i < length rows → x ≡ get_or rows i d
    → now ≡ front ++ page (numbered line 0 (map f (take i rows))) → next ≡ now ++ ended (line i (f x)) → next ≡ front
    ++ page (numbered line 0 (map f (take (i + 1) rows)))
numbered_step line f rows i d x front now next lt here so is =
    is ∙ ap (λ l. l ++ ended (line i (f x))) so
    ∙ ap (λ y. front ++ page (numbered line 0 (map f (take i rows))) ++ ended (line i (f y))) here
    ∙ append_assoc front (page (numbered line 0 (map f (take i rows)))) (ended (line i (f (get_or rows i d))))
    ∙ ap (λ l. front ++ l) (
    ap (λ n. page (numbered line 0 (map f (take i rows))) ++ ended (line n (f (get_or rows i d)))) there
    ∙ sym (numbered_more line 0 (map f (take i rows)) (f (get_or rows i d)))
    ∙ ap (λ l. page (numbered line 0 l)) (sym (map_more f rows i d lt))
    )
  where
    long : length (map f (take i rows)) ≡ i
    long = length-map (take i rows) f ∙ length-take-le i rows (omega (arith, lt))

    there : i ≡ 0 + length (map f (take i rows))
    there = omega (arith, long)

page_more : (xs ys : List Bytes) → page (xs ++ ys) ≡ page xs ++ page ys
page_more [] ys = refl
page_more (x ∷ xs) ys = ap (λ l. ended x ++ l) (page_more xs ys) ∙ sym (append_assoc (ended x) (page xs) (page ys))

-- all rows of tables

most_1024 : (role : Role) → most_links role ≤ 1024
most_1024 role = by_role (is_centre role)
  where
    by_role : (b : Bool) → (if b then 1024 else 64) ≤ 1024
    by_role true = omega arith
    by_role false = omega arith

pub few_nets : {X : Type 0} (f : X → NetKey) (xs : List X) (s : NodeState) → map f xs ≡ s.nets → keeps_rules s ≡ true
    → length xs < 2 ^ 32
few_nets f xs s same kept =
    let few : length s.nets ≤ 256 = (rules_of s kept).nets_room in
    let is : length xs ≡ length s.nets = sym (length-map xs f) ∙ ap length same in
    omega (arith, few, is)

pub few_links : {X : Type 0} (f : X → LinkKey) (xs : List X) (s : NodeState) → map f xs ≡ s.links → keeps_rules s
    ≡ true → length xs < 2 ^ 32
few_links f xs s same kept =
    let few : length s.links ≤ most_links s.role = (rules_of s kept).links_room in
    let most : most_links s.role ≤ 1024 = most_1024 s.role in
    let is : length xs ≡ length s.links = sym (length-map xs f) ∙ ap length same in
    omega (arith, few, most, is)

pub all_listed : (s : NodeState) (active : Option Bytes) (nets : List NetKey) (links : List LinkKey)
    (front between now : List ℕ) → active ≡ s.active → nets ≡ s.nets → links ≡ s.links
    → between ≡ front ++ page (numbered (net_line active) 0 nets) → now ≡ between ++ page (numbered link_line 0 links)
    → now ≡ front ++ page (listed s)
unfolding listed
all_listed s active nets links front between now a n l first second =
    second ∙ ap (λ x. x ++ page (numbered link_line 0 links)) first
    ∙ append_assoc front (page (numbered (net_line active) 0 nets)) (page (numbered link_line 0 links))
    ∙ ap (λ x. front ++ x) (
    ap (λ x. page (numbered (net_line x) 0 nets) ++ page (numbered link_line 0 links)) a
    ∙ ap (λ x. page (numbered (net_line s.active) 0 x) ++ page (numbered link_line 0 links)) n
    ∙ ap (λ x. page (numbered (net_line s.active) 0 s.nets) ++ page (numbered link_line 0 x)) l
    ∙ sym (page_more (numbered (net_line s.active) 0 s.nets) (numbered link_line 0 s.links))
    )
