use Rattle.std.proofs.Common.{◌≡◌, ◌||◌, ◌&&◌, ℕ, Bool, ap, ◌∙◌, nat_eq}
use Rattle.std.specs.List.{each_same, list_any}
use Rattle.std.specs.Ordering.{is_eq}
use Rattle.std.specs.Prelude.{nat_le}
use Rattle.zb_audit_names.proofs.Entries.{on_ok}
use Rattle.zb_audit_lockout.specs.Bags.{items_at}
use Rattle.zb_audit_lockout.specs.Reading.{late_by, term_cmp}
use Rattle.zb_audit_lockout.specs.declared.evidence.LateSeal.{LateSeal}
use Rattle.zb_model.specs.Secrets.{same_term}
use Rattle.zb_model_real.specs.Terms.{model_term}
use Rattle.zb_seal.specs.declared.term.Term.{Term}
use Rattle.zb_trace_watch.proofs.TermOrder.{same_model_term, term_alike, term_turned}
use Rattle.zb_audit_lockout.proofs.evidence.Evidence.add.Goals as goal

pub returns-clause-sealed : goal.returns-clause-sealed
returns-clause-sealed c =
    let it = c.in_ok-clone.ensures.cases in
    let same : model_term c.in_ok-clone.field-0 ≡ model_term c.args.term.now =
    same_model_term c.in_ok-clone.field-0 c.args.term.now it.1.0 it.1.1.0 it.1.1.1.0 it.1.1.1.1.0 it.0 it.1.1.1.1.1.0
    (each_same _ _ it.1.1.1.1.1.1.0) (each_same _ _ it.1.1.1.1.1.1.1) in
    let read : ((test : LateSeal → Bool) (o : Term) → list_any test (items_at term_cmp c.add.new.self o)
    ≡ (list_any test (items_at term_cmp c.args.self.now.sealed o)
    || (is_eq (term_cmp c.in_ok-clone.field-0 o) && test c.args.seal)))
    → (t : Term) (d number : ℕ) → list_any (λ (s : LateSeal). nat_eq d s.device.0 && nat_le number s.number)
    (items_at term_cmp c.add.new.self t)
    ≡ (late_by c.args.self.now d number t
    || (same_term (model_term t) (model_term c.args.term.now)
    && (nat_eq d c.args.seal.device.0 && nat_le number c.args.seal.number))) =
    λ all t d number.
    all (λ (s : LateSeal). nat_eq d s.device.0 && nat_le number s.number) t
    ∙ ap (λ (b : Bool). late_by c.args.self.now d number t
    || (b && (nat_eq d c.args.seal.device.0 && nat_le number c.args.seal.number)))
    (term_alike c.in_ok-clone.field-0 t ∙ (term_turned c.in_ok-clone.field-0 t ∙ ap (same_term (model_term t)) same))
    in
    on_ok c.add.result _ _ read c.add.ensures
