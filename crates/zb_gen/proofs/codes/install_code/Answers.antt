use Rattle.std.proofs.Common.{◌≡◌, ◌++◌, ◌∙◌, ap, length, rules, sym}
use Rattle.std.specs.Int.{w16, to_le_bytes}
use Rattle.zb_install.specs.Code.{code_of}
use Rattle.zb_install.specs.Crc.{crc}
use Rattle.zb_sched_line.proofs.CodeLemmas.{code_is_itself}
use Rattle.zb_gen.proofs.CodeTexts.{code_whole, put_together}
use Rattle.zb_gen.proofs.codes.install_code.Goals as goal

pub unreachable-requires : goal.unreachable-requires
unreachable-requires c =
    let whole : c.as_slice.result.now ≡ c.args.key.now.0 ++ to_le_bytes w16 (crc c.args.key.now.0) =
    put_together c.args.key.now.0 c.new-bytes.result.items c.add.new.bytes.items c.add-2.new.bytes.items
    c.as_slice.result.now c.to_le_bytes.result c.crc.result
    c.new-bytes.ensures c.add.ensures.items c.add-2.ensures.items c.as_slice.ensures.value c.to_le_bytes.ensures
    c.crc.ensures in
    let long : length c.args.key.now.0 ≡ 16 = search rules in
    cc (sym (c.from_bytes.ensures ∙ ap code_of whole ∙ code_whole c.args.key.now.0 long) ∙ c.in-Err.is)

pub returns : goal.returns
returns c =
    let whole : c.as_slice.result.now ≡ c.args.key.now.0 ++ to_le_bytes w16 (crc c.args.key.now.0) =
    put_together c.args.key.now.0 c.new-bytes.result.items c.add.new.bytes.items c.add-2.new.bytes.items
    c.as_slice.result.now c.to_le_bytes.result c.crc.result
    c.new-bytes.ensures c.add.ensures.items c.add-2.ensures.items c.as_slice.ensures.value c.to_le_bytes.ensures
    c.crc.ensures in
    code_is_itself c.as_slice.result.now c.in-Ok.code (sym c.from_bytes.ensures ∙ c.in-Ok.is) ∙ whole
