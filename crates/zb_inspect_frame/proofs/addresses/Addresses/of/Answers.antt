use Rattle.std.proofs.Common.{◌∙◌, ap}
use Rattle.zb_inspect_frame.specs.Shows.{addr_of}
use Rattle.zb_inspect_frame.proofs.addresses.Addresses.of.Goals as goal

pub returns : goal.returns
returns c = c.copied.ensures ∙ c.get.ensures.value ∙ c.self.invariant c.args.short.0 ∙ ap (addr_of c.args.short)
    c.self.view_is
