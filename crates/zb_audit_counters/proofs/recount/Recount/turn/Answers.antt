use Rattle.std.proofs.Common.{ap, false, refl, sym, None, ◌∙◌}
use Rattle.zb_audit_names.specs.Groups.{same_event}
use Rattle.zb_audit_counters.proofs.Running.{goes_on, turned}
use Rattle.zb_audit_counters.proofs.recount.Recount.turn.Goals as goal

pub returns-then-not-continues : goal.returns-then-not-continues
returns-then-not-continues c =
    λ names h l event number none stands.
    turned names c.args.self.now
    (record {
      nodes = c.args.self.now.nodes;
      group = c.args.number;
      event = c.args.event;
      cut = false;
      waits = c.clear.new.self;
      bad = None;
      first = c.first_of_group-self.result;
    })
    h l none (sym (ap (same_event c.args.self.now.event) event) ∙ (sym c.continues.ensures ∙ c.if-not-continues.true))
    stands refl number event refl c.clear.ensures.items refl c.first_of_group-self.ensures

pub returns-else-not-continues : goal.returns-else-not-continues
returns-else-not-continues c =
    λ names h l event number none stands.
    goes_on names c.args.self.now h l none
    (sym (ap (same_event c.args.self.now.event) event) ∙ (sym c.continues.ensures ∙ c.if-not-continues.false))
    stands
