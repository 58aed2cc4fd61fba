use Rattle.std.proofs.Common.{◌≡◌, List, ◌++◌, take, map}
use Rattle.serde_json.specs.View.{view, members_view}
use Rattle.serde_json.proofs.Views.{Entry}
use Rattle.zb_backup.specs.Raised.{raised, raised_members}
use Rattle.zb_backup.proofs.digits.+raised.Given as goal

abbrev pub invariant-raised_items-loop-item : goal.invariant-raised_items-loop-item
invariant-raised_items-loop-item l = map view l.copies.items
    ≡ map (λ v. raised (view v)) (take l.item-index l.item-items)

abbrev pub invariant-raised_members-loop-key : goal.invariant-raised_members-loop-key
invariant-raised_members-loop-key l =
    (done : List Entry) × (l.members.entries ≡ done ++ l.key-iterator)
    × (members_view l.copies.entries ≡ raised_members (members_view done))
