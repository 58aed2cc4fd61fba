use Rattle.std.proofs.Common.{ℕ, ◌∙◌}
use Rattle.std.specs.Global.{Vec}
use Rattle.zb_trace_watch.proofs.Alike.{bytes_alike, list_any_alike}
use Rattle.zb_trace_watch.proofs.terms.Terms.is_other.Goals as goal

pub returns : goal.returns
returns c =
    c.contains.ensures
    ∙ list_any_alike _ _ (λ (kept : Vec ℕ). bytes_alike c.args.bytes.now kept.items) c.args.self.now.others.keys
