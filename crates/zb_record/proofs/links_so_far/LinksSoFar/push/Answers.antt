use Rattle.std.proofs.Common.{◌≡◌, [], ◌∷◌, ◌++◌, map, ap, sym, subst, ◌∙◌}
use Rattle.std.proofs.lemmas.List.{map_push}
use Rattle.zb_record.specs.LinkSets.{HaveMarks}
use Rattle.zb_record.specs.Rows.{link_seen}
use Rattle.zb_record.proofs.MarkLemmas.{lent}
use Rattle.zb_record.proofs.links_so_far.LinksSoFar.push.Goals as goal

pub invariant_of-self : goal.invariant_of-self
invariant_of-self c =
    let old = map link_seen c.self.inside.rows.items in
    let rows : map link_seen c.push.new.self.items ≡ old = ap (map link_seen) c.in_err-push.ensures.items in
    let before : HaveMarks c.as_mut_slice.result.now old =
    subst (λ m. HaveMarks m old) (sym c.as_mut_slice.ensures.value) c.self.invariant in
    subst (λ m. HaveMarks m (map link_seen c.push.new.self.items))
    (sym (lent c.self.inside.marks.len c.as_mut_slice.result.now c.self.inside.marks.items c.note_row.new.marks
    c.note_row.auto.marks c.as_mut_slice.ensures.value c.as_mut_slice.ensures.len))
    (subst (HaveMarks c.note_row.new.marks) (sym rows) (c.note_row.ensures old before).0)

pub invariant_of-self-2 : goal.invariant_of-self-2
invariant_of-self-2 c =
    let old = map link_seen c.self.inside.rows.items in
    let rows : map link_seen c.push.new.self.items ≡ old ++ link_seen c.args.row ∷ [] =
    ap (map link_seen) c.in_ok-push.ensures.items ∙ map_push link_seen c.self.inside.rows.items c.args.row in
    let before : HaveMarks c.as_mut_slice.result.now old =
    subst (λ m. HaveMarks m old) (sym c.as_mut_slice.ensures.value) c.self.invariant in
    subst (λ m. HaveMarks m (map link_seen c.push.new.self.items))
    (sym (lent c.self.inside.marks.len c.as_mut_slice.result.now c.self.inside.marks.items c.note_row.new.marks
    c.note_row.auto.marks c.as_mut_slice.ensures.value c.as_mut_slice.ensures.len))
    (subst (HaveMarks c.note_row.new.marks) (sym rows) (c.note_row.ensures old before).1)
