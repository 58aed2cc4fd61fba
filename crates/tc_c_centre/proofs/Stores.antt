-- A store in memory, before anything is served over it.
use Rattle.std.proofs.Common.{◌≡◌, inl, inr, ⊎_elim, ℕ, List, [], length, replicate, false, sym, ◌∙◌, subst}
use Rattle.tc_c_centre.specs.Stores.{IsSound}
use Rattle.zb_centre_store.specs.Standing.{CanBeServed}
use Rattle.zb_disk.specs.Memory.{IsImage, fresh, memory_view}
use Rattle.zb_disk.specs.View.{Only}
use Rattle.zb_disk.proofs.Images.{lowered, one_image}
use Rattle.zb_store.specs.Layout.{Standing, IsWhole}

-- a store in memory of these bytes has no other image
only : (bytes : List ℕ) → Only bytes (IsImage bytes (replicate (length bytes) false) 0)
only bytes = one_image bytes (replicate (length bytes) false) (lowered (length bytes))

-- it can be served, where the bytes are sound
pub can_be_served : (bytes : List ℕ) → IsSound bytes → CanBeServed (memory_view (fresh bytes))
can_be_served bytes sound = ⊎_elim
    (λ (none : bytes ≡ []). inl (record { seen = none; images = λ image left. only bytes image left ∙ none }))
    (λ (whole : (s : Standing) × IsWhole s bytes). inr (λ image left.
    subst (λ (l : List ℕ). (s : Standing) × IsWhole s l) (sym (only bytes image left)) whole)) sound
