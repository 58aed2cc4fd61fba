use Rattle.zb_script.specs.Judge.{is_taken}
use Rattle.zb_script.proofs.ReadLemmas.{any_seen}
use Rattle.zb_script.proofs.draft.Draft.is_taken.Goals as goal

pub returns : goal.returns
returns c = let asked =
    any_seen (λ s. is_taken c.args.node.now.name.bytes c.args.node.now.eui.0 c.args.node.now.short.0 s)
    c.self.inside.config.peers.items in cc
