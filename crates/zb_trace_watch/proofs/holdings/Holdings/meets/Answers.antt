use Rattle.std.proofs.Common.{◌∙◌, Option, ap, sym}
use Rattle.zb_trace_watch.specs.Sets.{keys_of, meet}
use Rattle.zb_trace_watch.specs.declared.keys.Keys.{Keys}
use Rattle.zb_trace_watch.proofs.Alike.{none_of}
use Rattle.zb_trace_watch.proofs.holdings.Holdings.meets.Goals as goal

pub returns-in-None : goal.returns-in-None
returns-in-None g c =
    sym (ap (λ (o : Option Keys). meet c.args.keys.now.keys.keys (keys_of o)) (sym c.in-None.ensures.value) ∙ none_of
    c.args.keys.now.keys.keys)
