use Rattle.zb_audit.proofs.Auditing.{none_stand}
use Rattle.zb_audit.proofs.SaidByName.{words_start}
use Rattle.zb_audit.proofs.auditor.Auditor.new.Goals as goal

pub returns : goal.returns
returns c =
    λ tools.
    none_stand tools c.new.result c.in_ok-new.field-0 c.new-3.result c.new-4.result c.new-5.result c.new-6.result
    c.in_ok-new-2.field-0 c.new-8.result
    c.new.ensures (λ names. words_start tools names c.in_ok-new.field-0 (c.in_ok-new.ensures tools))
    c.new-3.ensures c.new-4.ensures c.new-5.ensures c.new-6.ensures
    (c.in_ok-new-2.ensures tools) (c.new-8.ensures tools)
