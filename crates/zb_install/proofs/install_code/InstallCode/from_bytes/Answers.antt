use Rattle.std.proofs.Common.{◌≡◌, ◌∙◌, sym, ap, Ok}
use Rattle.std.specs.Int.{w16, from_le_bytes}
use Rattle.zb_install.proofs.Codes.{wrong_length, wrong_crc, right_code}
use Rattle.zb_install.specs.Code.{code_of}
use Rattle.zb_install.specs.Crc.{crc}
use Rattle.zb_install.proofs.install_code.InstallCode.from_bytes.Goals as goal

pub returns-then-not-is_code_length : goal.returns-then-not-is_code_length
returns-then-not-is_code_length c =
    sym (wrong_length c.args.bytes.now _ c.is_code_length.ensures.value c.if-not-is_code_length.true)

pub returns-then-kept-found : goal.returns-then-kept-found
returns-then-kept-found c =
    sym (wrong_crc c.args.bytes.now _ _ _ c.is_code_length.ensures.value c.if-not-is_code_length.false
    (c.from_le_bytes-kept.ensures ∙ ap (from_le_bytes w16) c.split_at.ensures.back)
    (c.crc-found.ensures ∙ ap crc c.split_at.ensures.front) c.if-kept-found.true)

pub invariant_of-result : goal.invariant_of-result
invariant_of-result c =
    let good : code_of c.args.bytes.now ≡ Ok c.args.bytes.now =
    right_code c.args.bytes.now _ _ _ c.is_code_length.ensures.value c.if-not-is_code_length.false
    (c.from_le_bytes-kept.ensures ∙ ap (from_le_bytes w16) c.split_at.ensures.back)
    (c.crc-found.ensures ∙ ap crc c.split_at.ensures.front) c.if-kept-found.false in
    rw c.array_of.ensures (good, (c.is_code_length.ensures.bounds c.if-not-is_code_length.false).1, c.hash.ensures)

pub returns : goal.returns
returns c =
    let good : code_of c.args.bytes.now ≡ Ok c.args.bytes.now =
    right_code c.args.bytes.now _ _ _ c.is_code_length.ensures.value c.if-not-is_code_length.false
    (c.from_le_bytes-kept.ensures ∙ ap (from_le_bytes w16) c.split_at.ensures.back)
    (c.crc-found.ensures ∙ ap crc c.split_at.ensures.front) c.if-kept-found.false in
    rw c.array_of.ensures (sym good)
