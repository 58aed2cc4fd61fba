use Rattle.std.proofs.Common.{◌≡◌, ◌*◌, ◌/◌, ◌∙◌, sym, length, arith}
use Rattle.std.specs.Str.{chars}
use Rattle.zb_install.proofs.Digits.{text_odd, text_place, text_digits, digits_wrong}
use Rattle.zb_install.proofs.install_code.InstallCode.from_hex.Goals as goal

pub returns-then-count-eq1 : goal.returns-then-count-eq1
returns-then-count-eq1 c = sym (text_odd c.args.text.now _ c.count_characters-count.ensures.value c.if-count-eq1.true)

pub returns-in-Some : goal.returns-in-Some
returns-in-Some c =
    sym (text_place c.args.text.now c.count_characters-count.result c.in-Some.at c.count_characters-count.ensures.value
    c.if-count-eq1.false (sym c.in-Some.ensures))

pub returns-then-not-is_code_length : goal.returns-then-not-is_code_length
returns-then-not-is_code_length c =
    let pairs : length (chars c.args.text.now) ≡ 2 * (c.count_characters-count.result / 2) =
    omega (arith, c.count_characters-count.ensures.value, c.if-count-eq1.false) in
    sym (text_digits c.args.text.now c.count_characters-count.result c.count_characters-count.ensures.value
    c.if-count-eq1.false (sym c.in_default.ensures)
    ∙ digits_wrong c.args.text.now (c.count_characters-count.result / 2) c.utf8.text (sym c.in_default.ensures) pairs
    (sym c.is_code_length.ensures.value ∙ c.if-not-is_code_length.true))

pub returns : goal.returns
returns c =
    c.spelled.ensures
    ∙ sym (text_digits c.args.text.now c.count_characters-count.result c.count_characters-count.ensures.value
    c.if-count-eq1.false (sym c.in_default.ensures))
