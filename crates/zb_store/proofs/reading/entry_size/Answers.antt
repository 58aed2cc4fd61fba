use Rattle.std.proofs.Common.{◌≡◌, ℕ, Bool, true, false, Some, None, if◌then◌else◌, get_or, refl, ◌∙◌}
use Rattle.std.specs.Bool.{then_some}
use Rattle.zb_store.proofs.Finding.{entry_size_is}
use Rattle.zb_store.proofs.reading.entry_size.Goals as goal

as_choice : (t : Bool) (n : ℕ) → then_some t n ≡ (if t then Some n else None)
as_choice true n = refl
as_choice false n = refl

pub returns-clause-entry : goal.returns-clause-entry
returns-clause-entry g c told b is =
    c.then_some.ensures ∙ as_choice c.is_entry.result c.le16-size.result
    ∙ entry_size_is b c.args.at c.args.room (g.D.Disk.state c.args.disk.now).seen c.read.new.buf
    (get_or c.read.new.buf 0 0) c.le16-size.result c.is_entry.result is (c.in_ok-read.ensures.bytes told) refl
    c.le16-size.ensures c.is_entry.ensures
