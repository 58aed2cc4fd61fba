use Rattle.std.proofs.Common.{◌∙◌, ap, length}
use Rattle.zb_install.proofs.Digits.{decoded}
use Rattle.zb_install.specs.Code.{code_of}
use Rattle.zb_install.proofs.install_code.spelled.Goals as goal

pub returns : goal.returns
returns c =
    c.from_bytes.ensures
    ∙ ap code_of (decoded c.args.text.now _ (length c.args.bytes.now) _ c.utf8.text c.requires.digits c.requires.pairs
    c.decode_to_slice.ensures.value)
