-- A store that `init` made is found with the tables that it was made with.
use Rattle.std.proofs.Common.{◌≡◌, ℕ, true, List, length, Some, Ok, refl, ap, ◌∙◌}
use Rattle.law_run.proofs.Basics.{same_key-refl}
use Rattle.law_sessions.specs.Making.{found_first}
use Rattle.law_sessions.proofs.FoundAgain.{found_again}
use Rattle.law_sessions.proofs.Made.{first_again}
use Rattle.zb_centre_store.proofs.StoreLemmas.{first_fits}
use Rattle.zb_centre_store.specs.Makings.{first_tables}
use Rattle.zb_centre_store.specs.Standing.{StandsAs, found_on}
use Rattle.zb_keys.specs.Declarations.{first_state}
use Rattle.zb_model.specs.Data.{Bytes}
use Rattle.zb_model.specs.Fits.{active_is_live, at_most_two_live, floors_are_kept, keeps_rules, keys_differ, limits_are_started, links_are_marked, pairs_are_kept, partners_agree, role_is_kept, rows_have_room}
use Rattle.zb_model.specs.State.{NodeState, shown, with_declared, with_given_net}
use Rattle.zb_stored_tables.specs.Stored.{IsKept}

first_rules : (key : Bytes) → keeps_rules (first_tables key) ≡ true
unfolding first_state with_declared with_given_net keeps_rules rows_have_room keys_differ at_most_two_live
    active_is_live partners_agree links_are_marked floors_are_kept limits_are_started role_is_kept pairs_are_kept
first_rules key = rw (same_key-refl key) refl

first_shown : (key : Bytes) → shown (first_tables key) ≡ first_tables key
unfolding first_state with_declared with_given_net shown
first_shown key = refl

pub first_found : (key : Bytes) (image : List ℕ) → length key ≡ 16 → StandsAs (Some (first_tables key)) image
    → found_on image ≡ found_first key
first_found key image is stands =
    let kept : IsKept (first_tables key) =
    record { rules = first_rules key; forgets = first_shown key; widths = first_fits key is } in
    found_again (first_tables key) image kept stands ∙ ap (λ (s : NodeState). Ok (Some s)) (first_again key)
