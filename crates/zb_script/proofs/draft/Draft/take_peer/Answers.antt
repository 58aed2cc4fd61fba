use Rattle.std.proofs.Common.{sym, ◌∙◌}
use Rattle.zb_script.proofs.Kept.{with_peer}
use Rattle.zb_script.proofs.draft.Draft.take_peer.Goals as goal

pub invariant_of-self : goal.invariant_of-self
invariant_of-self c =
    let i = c.self.inside in (
      c.self.invariant.0,
      with_peer i.config.peers.items c.push.new.self.items c.args.peer i.config.out_block i.config.in_block
          i.steps.items c.args.self.now c.self.view_is c.push.ensures.items c.self.invariant.1
          (sym c.has_centre.ensures ∙ c.if-not-has_centre.false)
          (sym c.is_taken.ensures ∙ c.if-is_taken.false) c.requires,
    )
