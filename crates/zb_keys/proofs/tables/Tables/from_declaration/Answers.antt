use Rattle.std.proofs.Common.{◌≡◌, ◌∙◌, [], map, ap, sym, subst, arith}
use Rattle.zb_node_types.specs.Changes.{model_role}
use Rattle.zb_record.specs.RowViews.{pair_key}
use Rattle.zb_model.specs.State.{after_boot}
use Rattle.zb_keys.specs.Declarations.{network_of, code_of}
use Rattle.zb_keys.proofs.DeclarationLemmas.{assembled, first_is, booted, declared_sound}
use Rattle.zb_keys.proofs.tables.Tables.from_declaration.Goals as goal

pub invariant_of-result : goal.invariant_of-result
invariant_of-result c =
    let d = c.args.declaration.now in
    let p : c.in_ok-pairs.pairs.items ≡ [] = c.in_ok-pairs.ensures.items in
    declared_sound _ (network_of d.network) (code_of d.code) d.nwk d.aps
    (assembled (model_role d.role) (network_of d.network) (code_of d.code) d.nwk d.aps _ _ _ _ _ c.held_state.ensures
    c.in_ok-nets.ensures.rows c.held_key.ensures c.in_ok-links.ensures.rows (ap (map pair_key) p))
    c.in_ok-nets.ensures.room c.in_ok-links.ensures.room (omega (arith, c.in_ok-pairs.ensures.capacity))

pub returns-clause-state : goal.returns-clause-state
returns-clause-state c =
    let d = c.args.declaration.now in
    let p : c.in_ok-pairs.pairs.items ≡ [] = c.in_ok-pairs.ensures.items in
    assembled (model_role d.role) (network_of d.network) (code_of d.code) d.nwk d.aps _ _ _ _ _ c.held_state.ensures
    c.in_ok-nets.ensures.rows c.held_key.ensures c.in_ok-links.ensures.rows (ap (map pair_key) p)
    ∙ first_is (model_role d.role) (network_of d.network) (code_of d.code) d.nwk d.aps

pub returns-clause-booted : goal.returns-clause-booted
returns-clause-booted c =
    let d = c.args.declaration.now in
    let p : c.in_ok-pairs.pairs.items ≡ [] = c.in_ok-pairs.ensures.items in
    subst (λ s. after_boot s ≡ s)
    (sym (assembled (model_role d.role) (network_of d.network) (code_of d.code) d.nwk d.aps _ _ _ _ _
    c.held_state.ensures c.in_ok-nets.ensures.rows c.held_key.ensures c.in_ok-links.ensures.rows
    (ap (map pair_key) p)
    ∙ first_is (model_role d.role) (network_of d.network) (code_of d.code) d.nwk d.aps))
    (booted (model_role d.role) (network_of d.network) (code_of d.code) d.nwk d.aps)
