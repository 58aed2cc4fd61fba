use Rattle.zb_audit_names.proofs.Entries.{stands_for_none}
use Rattle.zb_audit_names.proofs.directory.Directory.new.Goals as goal

pub returns : goal.returns
returns c = stands_for_none c.new.result c.new-2.result c.new.ensures.empty c.new-2.ensures.items
