use Rattle.std.proofs.Common.{◌≡◌, ◌++◌, ◌∙◌, ℕ, List, take, drop, ap, subst}
use Rattle.std.specs.Str.Lines.{lines}
use Rattle.zb_input.proofs.PartLaws.{part_read, part_not_read}
use Rattle.zb_input.proofs.incoming.Incoming.read_whole_lines.Goals as goal

pub returns-in_err-read_lines-clause-lines : goal.returns-in_err-read_lines-clause-lines
returns-in_err-read_lines-clause-lines c =
    let n = c.whole_lines-end.result in
    let part = c.args.self.now.part.items in
    let C : List ℕ → Type 0 = λ text. (more : List ℕ) → lines (text ++ more) ≡ lines (take n text)
    ++ lines (drop n text ++ more) in
    part_not_read c.from_residual.result c.in_err-read_lines.field-0.0 c.args.reader.now c.read_lines.new.self
    c.read_lines.new.self part (take n part) (drop n part)
    c.split_at.result.0.now c.from_residual.ensures.1 c.in_err-read_lines.ensures.exact
    (c.split_at.ensures.front ∙ ap (take n) c.as_slice-2.ensures.value)
    (subst C c.as_slice.ensures.value c.whole_lines-end.ensures.lines)

pub returns-clause-lines : goal.returns-clause-lines
returns-clause-lines c =
    let n = c.whole_lines-end.result in
    let part = c.args.self.now.part.items in
    let C : List ℕ → Type 0 = λ text. (more : List ℕ) → lines (text ++ more) ≡ lines (take n text)
    ++ lines (drop n text ++ more) in
    part_read c.args.reader.now c.read_lines.new.self part (take n part) (drop n part) c.split_at.result.0.now
    c.extend_from_slice.new.self.items
    c.in_ok-read_lines.ensures.exact (c.split_at.ensures.front ∙ ap (take n) c.as_slice-2.ensures.value)
    (c.in_ok-extend_from_slice.ensures.items ∙ ap (λ zs. zs ++ c.as_slice-3.result.now) c.clear.ensures.items ∙
    c.as_slice-3.ensures.value
    ∙ c.in_ok-more.ensures.items ∙ c.split_at.ensures.back ∙ ap (drop n) c.as_slice-2.ensures.value)
    (subst C c.as_slice.ensures.value c.whole_lines-end.ensures.lines)
