use Rattle.std.proofs.Common.{◌≡◌, length, rules, arith}
use Rattle.std.proofs.lemmas.Str.{chars_from_encodes}
use Rattle.std.specs.Str.{chars}
use Rattle.zb_install.proofs.Digits.{chars_le}
use Rattle.zb_install.proofs.install_code.count_characters.Goals as goal

pub returns : goal.returns
returns c =
    let value : c.count.result ≡ length (chars c.args.text.now) = search (rules, chars_from_encodes) in
    record { value = value; bound = omega (arith, value, chars_le c.args.text.now c.utf8.text) }
