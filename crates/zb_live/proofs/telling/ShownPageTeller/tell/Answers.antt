use Rattle.std.proofs.Common.{ap, refl, sym, ◌∙◌}
use Rattle.zb_live.specs.Shown.{is_written}
use Rattle.zb_live.proofs.TellingLemmas.{none_hidden, one_printed}
use Rattle.zb_live.proofs.telling.ShownPageTeller.tell.Goals as goal

pub returns-in_ok-put_line-clause-tells : goal.returns-in_ok-put_line-clause-tells
returns-in_ok-put_line-clause-tells c = λ known m says.
    let log = c.args.self.now.log in (
      refl,
      one_printed log c.args.line.now c.args.self.now.text.items _ c.in_ok-put_line.ensures
          (ap (is_written log) (sym c.has_key.ensures) ∙ sym c.is_written.ensures ∙ c.if-is_written.true) known m says,
    )

pub returns-else-is_written-clause-tells : goal.returns-else-is_written-clause-tells
returns-else-is_written-clause-tells c = λ known m says.
    let log = c.args.self.now.log in (
      refl,
      none_hidden log c.args.line.now c.args.self.now.text.items
          (ap (is_written log) (sym c.has_key.ensures) ∙ sym c.is_written.ensures ∙ c.if-is_written.false) known m
          says,
    )
