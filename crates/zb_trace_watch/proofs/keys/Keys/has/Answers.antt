use Rattle.std.proofs.Common.{◌∙◌}
use Rattle.zb_base.specs.declared.key.Key.{Key}
use Rattle.zb_trace_watch.proofs.Alike.{list_any_alike, bytes_alike}
use Rattle.zb_trace_watch.proofs.keys.Keys.has.Goals as goal

pub returns : goal.returns
returns c = c.contains.ensures ∙ list_any_alike _ _ (λ (x : Key). bytes_alike c.args.key.now.0 x.0)
    c.args.self.now.keys.keys
