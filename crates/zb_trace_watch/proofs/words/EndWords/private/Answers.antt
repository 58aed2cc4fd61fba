use Rattle.std.proofs.Common.{Bool, ◌&&◌, ◌∙◌, ap, not, sym}
use Rattle.zb_trace_watch.proofs.Starting.{private_is}
use Rattle.zb_trace_watch.proofs.words.EndWords.private.Goals as goal

pub returns-then-self : goal.returns-then-self
returns-then-self c =
    λ tools counts said stands. ap (λ (b : Bool). b && not c.args.self.now.passing.passed_on) (sym c.if-self.true) ∙
    private_is tools counts c.args.self.now said stands

pub returns-else-self : goal.returns-else-self
returns-else-self c =
    λ tools counts said stands.
    c.if-self.false ∙
    (sym (ap (λ (b : Bool). b && not c.args.self.now.passing.passed_on) c.if-self.false) ∙ private_is tools counts
    c.args.self.now said stands)
