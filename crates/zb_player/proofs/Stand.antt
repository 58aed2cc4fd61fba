-- Nodes over their disks, when an event is of one of them, or of none, and when one of them is given another disk.
use Rattle.std.proofs.Common.{◌≡◌, ℕ, zero, suc, ◌+◌, ◌<◌, ◌≤◌, List, [], ◌∷◌, length, get_or, slice_set, refl, ap, sym, subst, arith}
use Rattle.std.proofs.Math.ListN.{set}
use Rattle.std.specs.List.{AllByRecursion}
use Rattle.zb_disk.specs.Memory.{Medium}
use Rattle.zb_model.specs.Data.{Station}
use Rattle.law_run_steps.specs.Conditions.{Condition}
use Rattle.zb_player_events.specs.Nodes.{AllIn, IsIn, IsSeat, NodeValue}
use Rattle.zb_player_events.proofs.NodeLaws.{in_from}

-- the node at a place
pub record StandsAt (xs : ℕ → Condition) (number : ℕ) (p : Station) (node : NodeValue) (m : Medium) : Type 0 where
  pub seat : IsSeat p node
  pub is_in : IsIn (xs p.eui) number node m

pub at_place : (xs : ℕ → Condition) (number : ℕ) (ps : List Station) (nodes : List NodeValue) (ms : List Medium)
    (i : ℕ) (p : Station) (node : NodeValue) (m : Medium) → i < length ps
    → AllIn xs number ps nodes ms → StandsAt xs number (get_or ps i p) (get_or nodes i node) (get_or ms i m)
at_place xs number [] nodes ms i p node m bound all = absurd (omega arith)
at_place xs number (q ∷ ps) [] ms i p node m bound all = absurd all
at_place xs number (q ∷ ps) (x ∷ nodes) [] i p node m bound all = absurd all
at_place xs number (q ∷ ps) (x ∷ nodes) (y ∷ ms) zero p node m bound all = record { seat = all.0; is_in = all.1 }
at_place xs number (q ∷ ps) (x ∷ nodes) (y ∷ ms) (suc i) p node m bound all =
    at_place xs number ps nodes ms i p node m (omega arith) all.2

-- as many nodes as disks as declarations
pub as_many : (xs : ℕ → Condition) (number : ℕ) (ps : List Station) (nodes : List NodeValue) (ms : List Medium)
    → AllIn xs number ps nodes ms → (length nodes ≡ length ps) × (length ms ≡ length ps)
as_many xs number [] [] [] all = (refl, refl)
as_many xs number [] [] (y ∷ ms) all = absurd all
as_many xs number [] (x ∷ nodes) ms all = absurd all
as_many xs number (q ∷ ps) [] ms all = absurd all
as_many xs number (q ∷ ps) (x ∷ nodes) [] all = absurd all
as_many xs number (q ∷ ps) (x ∷ nodes) (y ∷ ms) all =
    let r = as_many xs number ps nodes ms all.2 in (ap suc r.0, ap suc r.1)

-- No two nodes have one EUI.
abbrev pub EuisDiffer : List Station → Type 0
EuisDiffer [] = Unit {0}
EuisDiffer (p ∷ ps) = AllByRecursion (λ (q : Station). p.eui ≡ q.eui → ⊥) ps × EuisDiffer ps

-- The conditions of these nodes stay.
abbrev pub AreSpared : (ℕ → Condition) → (ℕ → Condition) → Station → Type 0
AreSpared xs ys q = ys q.eui ≡ xs q.eui

-- they are so before a later event, too
pub all_spared : (xs ys : ℕ → Condition) (number later : ℕ) (ps : List Station) (nodes : List NodeValue)
    (ms : List Medium) → number ≤ later → AllByRecursion (AreSpared xs ys) ps → AllIn xs number ps nodes ms
    → AllIn ys later ps nodes ms
all_spared xs ys number later [] [] [] from spared all = tt
all_spared xs ys number later [] [] (y ∷ ms) from spared all = absurd all
all_spared xs ys number later [] (x ∷ nodes) ms from spared all = absurd all
all_spared xs ys number later (q ∷ ps) [] ms from spared all = absurd all
all_spared xs ys number later (q ∷ ps) (x ∷ nodes) [] from spared all = absurd all
all_spared xs ys number later (q ∷ ps) (x ∷ nodes) (y ∷ ms) from spared all = (
  all.0,
  subst (λ (c : Condition). IsIn c later x y) (sym spared.0) (in_from (xs q.eui) number later x y from all.1),
  all_spared xs ys number later ps nodes ms from spared.1 all.2,
)

-- The conditions of all other nodes stay.
abbrev pub Spares : (ℕ → Condition) → (ℕ → Condition) → ℕ → Type 0
Spares xs ys n = (q : ℕ) → (q ≡ n → ⊥) → ys q ≡ xs q

-- nodes of another EUI
others : (xs ys : ℕ → Condition) (n : ℕ) (ps : List Station) → Spares xs ys n
    → AllByRecursion (λ (q : Station). n ≡ q.eui → ⊥) ps → AllByRecursion (AreSpared xs ys) ps
others xs ys n [] spares differ = tt
others xs ys n (q ∷ ps) spares differ = (spares q.eui (λ e. differ.0 (sym e)), others xs ys n ps spares differ.1)

differs_at : (p : Station) (ps : List Station) (i : ℕ) (d : Station) → i < length ps
    → AllByRecursion (λ (q : Station). p.eui ≡ q.eui → ⊥) ps
    → p.eui ≡ (get_or ps i d).eui → ⊥
differs_at p [] i d bound differ same = absurd (omega arith)
differs_at p (q ∷ ps) zero d bound differ same = differ.0 same
differs_at p (q ∷ ps) (suc i) d bound differ same = differs_at p ps i d (omega arith) differ.1 same

next : (number : ℕ) → number ≤ number + 1
next number = omega arith

-- an event of the node at a place
pub put_back : (xs ys : ℕ → Condition) (number : ℕ) (ps : List Station) (nodes : List NodeValue) (ms : List Medium)
    (i : ℕ) (d : Station) (node : NodeValue) (m : Medium) → i < length ps → EuisDiffer ps
    → Spares xs ys (get_or ps i d).eui
    → StandsAt ys (number + 1) (get_or ps i d) node m
    → AllIn xs number ps nodes ms → AllIn ys (number + 1) ps (set nodes i node) (set ms i m)
put_back xs ys number [] nodes ms i d node m bound apart spares stands all = absurd (omega arith)
put_back xs ys number (q ∷ ps) [] ms i d node m bound apart spares stands all = absurd all
put_back xs ys number (q ∷ ps) (x ∷ nodes) [] i d node m bound apart spares stands all = absurd all
put_back xs ys number (q ∷ ps) (x ∷ nodes) (y ∷ ms) zero d node m bound apart spares stands all = (
  stands.seat,
  stands.is_in,
  all_spared xs ys number (number + 1) ps nodes ms (next number) (others xs ys q.eui ps spares apart.0) all.2,
)
put_back xs ys number (q ∷ ps) (x ∷ nodes) (y ∷ ms) (suc i) d node m bound apart spares stands all = (
  all.0,
  subst (λ (c : Condition). IsIn c (number + 1) x y) (sym (spares q.eui (differs_at q ps i d (omega arith) apart.0)))
      (in_from (xs q.eui) number (number + 1) x y (next number) all.1),
  put_back xs ys number ps nodes ms i d node m (omega arith) apart.1 spares stands all.2,
)

-- another disk under the node at a place
pub put_under : (xs ys : ℕ → Condition) (number : ℕ) (ps : List Station) (nodes : List NodeValue) (ms : List Medium)
    (i : ℕ) (d : Station) (m : Medium) → i < length ps → EuisDiffer ps → Spares xs ys (get_or ps i d).eui
    → ((node : NodeValue) (old : Medium) → IsIn (xs (get_or ps i d).eui) number node old
    → IsIn (ys (get_or ps i d).eui) number node m)
    → AllIn xs number ps nodes ms → AllIn ys number ps nodes (slice_set ms i m)
put_under xs ys number [] nodes ms i d m bound apart spares takes all = absurd (omega arith)
put_under xs ys number (q ∷ ps) [] ms i d m bound apart spares takes all = absurd all
put_under xs ys number (q ∷ ps) (x ∷ nodes) [] i d m bound apart spares takes all = absurd all
put_under xs ys number (q ∷ ps) (x ∷ nodes) (y ∷ ms) zero d m bound apart spares takes all = (
  all.0,
  takes x y all.1,
  all_spared xs ys number number ps nodes ms (omega arith) (others xs ys q.eui ps spares apart.0) all.2,
)
put_under xs ys number (q ∷ ps) (x ∷ nodes) (y ∷ ms) (suc i) d m bound apart spares takes all = (
  all.0,
  subst (λ (c : Condition). IsIn c number x y) (sym (spares q.eui (differs_at q ps i d (omega arith) apart.0)))
      all.1,
  put_under xs ys number ps nodes ms i d m (omega arith) apart.1 spares takes all.2,
)

-- the same conditions, before the same event or a later one
pub all_as : (xs ys : ℕ → Condition) (number later : ℕ) (ps : List Station) (nodes : List NodeValue)
    (ms : List Medium) → number ≤ later → ((q : ℕ) → ys q ≡ xs q) → AllIn xs number ps nodes ms
    → AllIn ys later ps nodes ms
all_as xs ys number later ps nodes ms from same all = all_spared xs ys number later ps nodes ms from (every ps) all
  where
    every : (qs : List Station) → AllByRecursion (AreSpared xs ys) qs
    every [] = tt
    every (q ∷ qs) = (same q.eui, every qs)
