use Rattle.std.proofs.Common.{◌∙◌}
use Rattle.zb_trace_watch.specs.Terms.{has_spelled}
use Rattle.zb_trace_watch.proofs.terms.Terms.has.Goals as goal

pub returns : goal.returns
returns c = c.has_bytes.ensures ∙ (λ i. has_spelled c.args.self.now (c.head_of.ensures i)
    ((c.as_slice.ensures.value ∙ c.put_bytes.ensures) i))
