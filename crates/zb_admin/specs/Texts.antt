-- The lines that commands write, without their ends.
use Rattle.std.specs.Prelude.{ℕ, [], ◌++◌, codes, decimal}
use Rattle.zb_model.specs.Data.{Bytes, Reason}
use Rattle.zb_node_types.specs.Reasons.{reason_word, reason_detail}
use Rattle.zb_node_types.specs.declared.refusal.Detail.{Detail}
use Rattle.zb_node_types.specs.declared.refusal.Detail.TheVariants as detail
use Rattle.zb_text.specs.Fields.{eui_text}
use Rattle.zb_text.specs.Hexadecimal.{bytes_text}
use Rattle.zb_text.specs.Words.{then}

-- a command of this line was carried out
abbrev pub ok_line : ℕ → Bytes
ok_line number = codes "ok" ++ then (decimal number)

-- it was refused, and why
abbrev pub refuse_line : ℕ → Bytes → Bytes
refuse_line number why = codes "refuse" ++ (then (decimal number) ++ then why)

-- a frame is to go on the air
abbrev pub send_line : Bytes → Bytes
send_line bytes = codes "send" ++ then (bytes_text bytes)

-- what is told beside the word for a reason
abbrev pub detail_text : Detail → Bytes
detail_text detail.Nothing = []
detail_text (detail.Number number) = then (decimal number)
detail_text (detail.Partner partner) = then (eui_text partner.0)

-- The word for a reason, as transcripts have it, and what is told beside it.
abbrev pub reason_text : Reason → Bytes
reason_text why = reason_word why ++ detail_text (reason_detail why)
