use Rattle.std.proofs.Common.{List, ◌++◌, ◌∷◌, [], refl, ap, ◌∙◌}
use Rattle.zb_base.specs.declared.key.Key.{Key}
use Rattle.zb_audit_lockout.specs.declared.spread.Spread.{Spread}
use Rattle.zb_audit_lockout.proofs.Entering.{entered}
use Rattle.zb_model.specs.Secrets.{well_known}
use Rattle.zb_trace_watch.specs.Sets.{eui_cmp, is_among, keys_at}
use Rattle.zb_audit_lockout.proofs.spread.Spread.enter_anew.Goals as goal

pub returns : goal.returns
returns c =
    λ less.
    let new : Spread = record { devices = c.mark.new.self.devices; keys = c.raise.new.self } in
    let known : Key = record { 0 = well_known } in
    entered c.args.leads.now c.args.held.now c.args.self.now c.mark.new.self new c.args.device c.args.early
    c.append_to.new.list.items c.in_ok-raised.raised.items c.in_ok-mark.ensures.devices c.in_ok-mark.ensures.keys
    (λ e. refl)
    (λ k. ap (λ (l : List Key). is_among l k)
    (c.in_ok-append_to.ensures
    ∙ ap (λ (l : List Key). l ++ keys_at eui_cmp c.args.held.now c.args.device)
    (c.in_ok-push.ensures.items ∙ ap (λ (l : List Key). l ++ known ∷ []) c.new-keys.ensures.items)))
    c.in_ok-raised.ensures less
