-- One more item of a printed page.
use Rattle.std.proofs.Common.{◌≡◌, ℕ, ◌+◌, ◌<◌, List, [], ◌∷◌, ◌++◌, length, get_or, take, map, refl, ap, sym, ◌∙◌, append_assoc, append-nil}
use Rattle.std.specs.List.{flat_map}
use Rattle.std.proofs.lemmas.List.{take_more, map-append}
use Rattle.std.proofs.lemmas.Grind.{flat_map-append}
use Rattle.zb_base.specs.declared.key.Key.{Key}
use Rattle.zb_text.specs.Pages.{ended, page}
use Rattle.zb_sched_line.specs.declared.event.Event.{Event}
use Rattle.zb_sched_line.specs.Views.{event_of}
use Rattle.zb_sched.specs.Schedules.{node_of}
use Rattle.zb_sched.specs.Printed.{event_line, code_lines, counter_lines, draw_line, netkey_lines, node_line, printed}
use Rattle.zb_sched.specs.declared.schedule.Node.{Node}

pub page-append : (xs ys : List (List ℕ)) → page (xs ++ ys) ≡ page xs ++ page ys
page-append xs ys = flat_map-append ended xs ys

page_one : (line : List ℕ) → page (line ∷ []) ≡ ended line
page_one line = append-nil (ended line)

pub map_more : {A : Type 0} (f : A → List ℕ) (xs : List A) (i : ℕ) (d : A) → i < length xs
    → page (map f (take (i + 1) xs)) ≡ page (map f (take i xs)) ++ ended (f (get_or xs i d))
map_more f xs i d lt =
    ap (λ ys. page (map f ys)) (take_more xs i d lt) ∙ ap page (map-append f (take i xs) (get_or xs i d ∷ []))
    ∙ page-append (map f (take i xs)) (f (get_or xs i d) ∷ []) ∙ ap (λ y. page (map f (take i xs)) ++ y)
    (page_one (f (get_or xs i d)))

pub flat_map_more : {A : Type 0} (f : A → List (List ℕ)) (xs : List A) (i : ℕ) (d : A) → i < length xs
    → page (flat_map f (take (i + 1) xs)) ≡ page (flat_map f (take i xs)) ++ page (f (get_or xs i d))
flat_map_more f xs i d lt =
    ap (λ ys. page (flat_map f ys)) (take_more xs i d lt) ∙ ap page
    (flat_map-append f (take i xs) (get_or xs i d ∷ []))
    ∙ page-append (flat_map f (take i xs)) (flat_map f (get_or xs i d ∷ []))
    ∙ ap (λ y. page (flat_map f (take i xs)) ++ page y) (append-nil (f (get_or xs i d)))

-- a page so far, with one more item
pub so_far : (old now next done one more : List ℕ) → now ≡ old ++ done → next ≡ now ++ one → more ≡ done ++ one → next
    ≡ old ++ more
so_far old now next done one more a b e = b ∙ ap (λ x. x ++ one) a ∙ append_assoc old done one ∙ ap (λ x. old ++ x)
    (sym e)

map_of : {A B C : Type 0} (g : B → C) (f : A → B) (xs : List A) → map g (map f xs) ≡ map (λ x. g (f x)) xs
map_of g f [] = refl
map_of {C = C} g f (x ∷ xs) = ap (λ (more : List C). g (f x) ∷ more) (map_of g f xs)

flat_map_of : {A B : Type 0} (g : B → List (List ℕ)) (f : A → B) (xs : List A) → flat_map g (map f xs)
    ≡ flat_map (λ x. g (f x)) xs
flat_map_of g f [] = refl
flat_map_of g f (x ∷ xs) = ap (λ (more : List (List ℕ)). g (f x) ++ more) (flat_map_of g f xs)

six_pages : (a b c d e f : List (List ℕ)) → page (a ++ (b ++ (c ++ (d ++ (e ++ f))))) ≡ page a
    ++ (page b ++ (page c ++ (page d ++ (page e ++ page f))))
six_pages a b c d e f =
    page-append a (b ++ (c ++ (d ++ (e ++ f)))) ∙ ap (λ x. page a ++ x)
    (page-append b (c ++ (d ++ (e ++ f))) ∙ ap (λ x. page b ++ x) (page-append c (d ++ (e ++ f))
    ∙ ap (λ x. page c ++ x) (page-append d (e ++ f) ∙ ap (λ x. page d ++ x) (page-append e f))))

-- the printed text, kind by kind, from the program's own lists
pub printed_by_kind : (nodes : List Node) (draws : List Key) (events : List Event)
    → printed
    (record { nodes = map node_of nodes; draws = map (λ (k : Key). k.0) draws; events = map event_of events })
    ≡ page (map (λ n. node_line (node_of n)) nodes)
    ++ (page (flat_map (λ n. code_lines (node_of n)) nodes)
    ++ (page (flat_map (λ n. netkey_lines (node_of n)) nodes)
    ++ (page (flat_map (λ n. counter_lines (node_of n)) nodes)
    ++ (page (map (λ (k : Key). draw_line k.0) draws) ++ page (map (λ e. event_line (event_of e)) events)))))
printed_by_kind nodes draws events =
    six_pages (map node_line (map node_of nodes)) (flat_map code_lines (map node_of nodes))
    (flat_map netkey_lines (map node_of nodes)) (flat_map counter_lines (map node_of nodes))
    (map draw_line (map (λ (k : Key). k.0) draws)) (map event_line (map event_of events))
    ∙ rw (
      map_of node_line node_of nodes,
      flat_map_of code_lines node_of nodes,
      flat_map_of netkey_lines node_of nodes,
      flat_map_of counter_lines node_of nodes,
      map_of draw_line (λ (k : Key). k.0) draws,
      map_of event_line event_of events,
    ) refl

pub regrouped : (old a b c d e f : List ℕ) → (((((old ++ a) ++ b) ++ c) ++ d) ++ e) ++ f ≡ old
    ++ (a ++ (b ++ (c ++ (d ++ (e ++ f)))))
regrouped old a b c d e f = simp append_assoc
