-- The tables of the declaration are on the disk as their record.
use Rattle.std.proofs.Common.{subst, ◌∙◌}
use Rattle.zb_model.specs.State.{NodeState}
use Rattle.zb_node_types.specs.Changes.{model_role}
use Rattle.zb_record.specs.Ranges.{FitsBytes}
use Rattle.zb_player_start.specs.Firsts.{begins_with, model_node}
use Rattle.zb_player_start.proofs.Records.{all_first, role_of}
use Rattle.zb_player_start.proofs.disk.first_disk.Goals as goal

pub returns : goal.returns
returns c =
    let u : NodeState = begins_with c.args.centre.0 (model_node c.args.node.now) in
    let widths : FitsBytes u = subst FitsBytes c.declaration_of.ensures.state c.declaration_of.ensures.fits in
    all_first (model_role c.args.node.now.peer.role) c.in_ok-tables.tables u _ c.disk_with.result
    (c.in_ok-tables.ensures.state ∙ c.declaration_of.ensures.state) (role_of _ _ _ _ _)
    c.keep_rules.ensures.rules c.keep_rules.ensures.forgets widths c.in_ok-tables.ensures.booted
    c.record_bytes-len.ensures.bytes c.disk_with.ensures.held c.disk_with.ensures.unarmed c.disk_with.ensures.calls
