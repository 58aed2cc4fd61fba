use Rattle.std.proofs.Common.{◌≡◌, ap, ◌∙◌}
use Rattle.zb_model.specs.State.{is_unverified}
use Rattle.zb_record.specs.Marks.{key_number, link_number, noted}
use Rattle.zb_record.specs.Rows.{link_seen}
use Rattle.zb_record.proofs.LinkSets.{note_dead, note_live}
use Rattle.zb_record.proofs.links_so_far.note_row.Goals as goal

pub returns-then-row : goal.returns-then-row
returns-then-row c =
    let r = link_seen c.args.row.now in
    let first : c.note.new.marks ≡ noted c.args.marks.now (key_number r.key) =
    c.note.ensures ∙ ap (noted c.args.marks.now) c.key_number.ensures in
    let second : c.note-then-row.new.marks
    ≡ noted c.note.new.marks (link_number r.partner (is_unverified r.attribute) r.told) =
    c.note-then-row.ensures ∙ ap (noted c.note.new.marks)
    (c.link_number.ensures ∙ ap (λ u. link_number r.partner u r.told) c.is_unverified.ensures) in
    λ rows have. note_live c.args.marks.now c.note-then-row.new.marks rows r
    (second ∙ ap (λ m. noted m (link_number r.partner (is_unverified r.attribute) r.told)) first) have

pub returns-else-row : goal.returns-else-row
returns-else-row c =
    let r = link_seen c.args.row.now in
    λ rows have. note_dead c.args.marks.now c.note.new.marks rows r
    (c.note.ensures ∙ ap (noted c.args.marks.now) c.key_number.ensures) c.if-row.false have
