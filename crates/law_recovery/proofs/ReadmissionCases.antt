-- Each obstacle of the first events on a small state, computed: it is there, and it gives its refusal.
use Rattle.std.specs.Prelude.{◌≡◌, ℕ, true, false, List, [], ◌∷◌, map, replicate, Some, None, refl}
use Rattle.std.specs.List.{range_with_len}
use Rattle.zb_model.specs.Data.{Bytes, Centre, Device, Provisional, NoKey, NotMember, WrongState, RowsFull, KeyInUse}
use Rattle.zb_model.specs.State.{LinkKey, NodeState, new_node, code_row, is_live, other_user}
use Rattle.law_recovery.specs.Entering.{why_no_knock, why_no_row, why_not_entered, why_not_removed}

abbrev key : ℕ → Bytes
key n = replicate 16 n

abbrev link : ℕ → ℕ → LinkKey
link partner n =
    record {
      partner = partner;
      key = key n;
      attribute = Provisional;
      live = true;
      code = true;
      told = false;
      kept = 0;
      stored = 0;
    }

abbrev centre : List LinkKey → NodeState
centre links = record (new_node Centre) { links = links }

-- a device that isn't live can't be removed, and one that is live can't be provisioned
no_member : why_not_removed (centre (link 2 2 ∷ [])) 3 ≡ Some NotMember
unfolding why_not_removed is_live
no_member = refl

live_still : why_not_entered (centre (link 2 2 ∷ [])) 2 (key 3) ≡ Some WrongState
unfolding why_not_entered is_live
live_still = refl

-- the code of another device; and the same again after 1,024 codes
other_code : why_not_entered (centre (link 2 2 ∷ [])) 3 (key 2) ≡ Some (KeyInUse 2)
unfolding why_not_entered why_no_row is_live other_user
other_code = refl

full_rows : why_not_entered (centre (map (λ n. link n n) (range_with_len 10 1024))) 3 (key 3) ≡ Some RowsFull
unfolding why_not_entered why_no_row is_live
full_rows = refl

free_row : why_not_entered (centre (link 2 2 ∷ [])) 3 (key 3) ≡ None
unfolding why_not_entered why_no_row is_live other_user
free_row = refl

-- a device without a code doesn't knock
no_code : why_no_knock (record (new_node Device) { links = record (link 1 2) { code = false } ∷ [] }) 1 ≡ Some NoKey
unfolding why_no_knock code_row
no_code = refl
