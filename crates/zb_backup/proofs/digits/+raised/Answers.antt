use Rattle.std.proofs.Common.{◌≡◌, [], ◌∷◌, ◌++◌, map, take, string_bytes, sym, ap, ◌∙◌, subst, append_assoc, take_all}
use Rattle.std.specs.List.Sorted.{IsStrictlySortedBy}
use Rattle.std.specs.Map.{keys_of}
use Rattle.std.specs.String.{string_cmp}
use Rattle.serde_json.specs.View.{items_of, members_view, view}
use Rattle.serde_json.proofs.Views.{Entry, members_view-insert_entry, put_last}
use Rattle.zb_backup.specs.Raised.{raised, raised_members}
use Rattle.zb_backup.proofs.Raised.{items_raised, put_raised}
use Rattle.zb_backup.proofs.digits.+raised.Goals as goal

pub raised_items-returns : goal.raised_items-returns
raised_items-returns t c =
    let vs = c.args.items.now.items in
    let seen = c.deref-item-items.result.now in
    let all : take c.loop-item.item-index seen ≡ vs = take_all c.loop-item.item-index seen c.loop-item-test.false ∙
    c.deref-item-items.ensures.value in
    let copied : map view c.loop-item.copies.items ≡ map (λ v. raised (view v)) vs =
    c.loop-item.invariant ∙ ap (map (λ v. raised (view v))) all in
    ap items_of copied ∙ items_raised vs

pub raised_members-loop-key-preserved : goal.raised_members-loop-key-preserved
raised_members-loop-key-preserved t c =
    let l = c.loop-key in
    let done = l.invariant.0 in
    let e : Entry = (c.in-Some.key.now, c.in-Some.member.now) in
    let left = c.next.new.self in
    let all : c.args.members.now.entries ≡ done ++ e ∷ left =
    l.invariant.1 ∙ ap (λ es. done ++ es) c.in-Some.ensures.steps in
    let last =
    put_last done e left
    (subst (λ es. IsStrictlySortedBy string_cmp (keys_of es)) all c.iter-key-items.ensures.ordered) in
    let named : string_bytes c.in_ok-name.name ≡ string_bytes e.0 = c.in_ok-name.ensures.cases in (
      done ++ e ∷ [],
      all ∙ sym (append_assoc done (e ∷ []) left),
      ap members_view c.in_ok-insert.ensures.entries ∙ members_view-insert_entry l.copies.entries c.in_ok-name.name
          c.in_ok-raised.field-0
          ∙ rw (named, c.in_ok-raised.ensures, l.invariant.2)
          (sym (put_raised (string_bytes e.0) (view e.1) (members_view done)) ∙ ap raised_members last),
    )
