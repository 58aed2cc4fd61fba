use Rattle.std.proofs.Common.{ap, refl, sym, ◌∙◌}
use Rattle.zb_audit_counters.proofs.Running.{read_in, read_over}
use Rattle.zb_audit_counters.proofs.recount.Recount.read.Goals as goal
use Rattle.zb_audit_counters.specs.declared.recount.Recount.{Recount}

pub returns-in_ok-note : goal.returns-in_ok-note
returns-in_ok-note c =
    λ names h number who none ready.
    let rest = c.in_ok-note.ensures.rest in
    read_in names c.args.self.now c.note.new.self h c.args.line.now c.args.number c.args.who c.hear.new.nodes
    c.in_ok-judgement.judgement number who none ready
    (ap (λ (x : Recount). x.first) rest) (ap (λ (x : Recount). x.group) rest) (ap (λ (x : Recount). x.event) rest)
    (ap (λ (x : Recount). x.cut) rest ∙ c.is_cut-self.ensures)
    (sym c.counts.ensures ∙ c.if-counts.true) c.in_ok-judgement.ensures (ap (λ (x : Recount). x.nodes) rest)
    c.in_ok-note.ensures.waits c.in_ok-note.ensures.bad

pub returns-else-counts : goal.returns-else-counts
returns-else-counts c =
    λ names h number who none ready.
    read_over names c.args.self.now _ h c.args.line.now c.args.number number none ready refl refl refl
    c.is_cut-self.ensures refl refl refl (sym c.counts.ensures ∙ c.if-counts.false)
