-- Looking for a node among the program's and among the model's; and that there is a centre if one is counted.
use Rattle.std.proofs.Common.{◌≡◌, Bool, List, [], ◌∷◌, map, refl, sym, ap, subst, ◌∙◌, true, false, if◌then◌else◌, Option, Some, None}
use Rattle.std.specs.Prelude.{count_by, filter, find, length, option_map}
use Rattle.std.proofs.lemmas.List.Sums.{length-filter}
use Rattle.zb_base.specs.Config as config
use Rattle.zb_base.specs.declared.node.Peer.{Peer}
use Rattle.zb_base.specs.declared.node.Role.{Role}
use Rattle.zb_base.specs.declared.node.Role.TheVariants.{Centre, Router, Device}
use Rattle.zb_model.specs.State.{is_centre}
use Rattle.zb_setting.specs.Settings.{known}

pub find_map : {X Y : Type 0} (p : Y → Bool) (view : X → Y) (xs : List X) → find p (map view xs)
    ≡ option_map view (find (λ x. p (view x)) xs)
find_map p view [] = refl
find_map p view (x ∷ xs) = at_test (p (view x)) (find_map p view xs)
  where
    at_test : (b : Bool) → find p (map view xs) ≡ option_map view (find (λ y. p (view y)) xs)
        → (if b then Some (view x) else find p (map view xs))
        ≡ option_map view (if b then Some x else find (λ y. p (view y)) xs)
    at_test true e = refl
    at_test false e = e

same_role : (r : Role) → is_centre (Rattle.zb_node_types.specs.Changes.model_role r) ≡ config.is_centre r
same_role Centre = refl
same_role Router = refl
same_role Device = refl

none_kept : (b : Bool) (x : Peer) (found : Option Peer) (kept : List Peer) → (found ≡ None → kept ≡ [])
    → (if b then Some x else found) ≡ None → (if b then x ∷ kept else kept) ≡ []
none_kept true x found kept more e = absurd cc
none_kept false x found kept more e = more e

no_centre_kept : (peers : List Peer) → find (λ (p : Peer). is_centre (known p).role) peers ≡ None
    → filter (λ (p : Peer). config.is_centre p.role) peers ≡ []
no_centre_kept [] e = refl
no_centre_kept (p ∷ peers) e =
    none_kept (config.is_centre p.role) p (find (λ (q : Peer). is_centre (known q).role) peers)
    (filter (λ (q : Peer). config.is_centre q.role) peers) (no_centre_kept peers)
    (ap (λ (b : Bool). if b then Some p else find (λ (q : Peer). is_centre (known q).role) peers)
    (sym (same_role p.role)) ∙ e)

-- If no centre is found, none is counted.
pub no_centre : (peers : List Peer) → find (λ (p : Peer). is_centre (known p).role) peers ≡ None
    → count_by (λ (p : Peer). config.is_centre p.role) peers ≡ 0
no_centre peers e = sym (length-filter (λ (p : Peer). config.is_centre p.role) peers) ∙ ap (length {A = Peer})
    (no_centre_kept peers e)

-- What is found passes the test.
pub found_passes : {X : Type 0} (p : X → Bool) (xs : List X) (x : X) → find p xs ≡ Some x → p x ≡ true
found_passes p [] x e = absurd cc
found_passes p (y ∷ ys) x e = by_test (p y) refl e (found_passes p ys x)
  where
    by_test : (b : Bool) → p y ≡ b → (if b then Some y else find p ys) ≡ Some x → (find p ys ≡ Some x → p x ≡ true)
        → p x ≡ true
    by_test true is found rest = let same : y ≡ x = cc in subst (λ z. p z ≡ true) same is
    by_test false is found rest = rest found
