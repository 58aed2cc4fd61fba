use Rattle.std.proofs.Common.{Ok, refl, sym, subst}
use Rattle.zb_base.specs.declared.node.Role.{Role}
use Rattle.zb_armed_host.specs.Arms.{armed_of}
use Rattle.zb_model.specs.Data as model
use Rattle.zb_player_node.proofs.Machines.{no_host}
use Rattle.zb_player_node.specs.Answers.{HasMade, made}
use Rattle.zb_node_types.specs.Changes.{model_role}
use Rattle.zb_player_node.proofs.machine.Machine.boot.Goals as goal

pub returns-in_err-host-in-Centre : goal.returns-in_err-host-in-Centre
returns-in_err-host-in-Centre c =
    let a = armed_of c.args.arms.now in
    subst (λ (role : Role). HasMade (model_role role) c.args.config.now a c.args.disk.now
    (made c.from_residual.result) c.boot_armed.new.disk) (sym c.in-Centre.is)
    (no_host model.Centre c.args.config.now a c.args.disk.now c.in_err-host-in-Centre.field-0.0 c.boot_armed.new.disk
    c.in_err-host-in-Centre.ensures.fallen c.in_err-host-in-Centre.ensures.ended c.from_residual.result
    c.from_residual.ensures.1)

pub returns-in_err-host-in-Router : goal.returns-in_err-host-in-Router
returns-in_err-host-in-Router c =
    let a = armed_of c.args.arms.now in
    subst (λ (role : Role). HasMade (model_role role) c.args.config.now a c.args.disk.now
    (made c.from_residual-in_err-host-in-Router.result) c.boot_armed-in-Router.new.disk) (sym c.in-Router.is)
    (no_host model.Router c.args.config.now a c.args.disk.now c.in_err-host-in-Router.field-0.0
    c.boot_armed-in-Router.new.disk c.in_err-host-in-Router.ensures.fallen c.in_err-host-in-Router.ensures.ended
    c.from_residual-in_err-host-in-Router.result c.from_residual-in_err-host-in-Router.ensures.1)

pub returns-in_err-host-in-Device : goal.returns-in_err-host-in-Device
returns-in_err-host-in-Device c =
    let a = armed_of c.args.arms.now in
    subst (λ (role : Role). HasMade (model_role role) c.args.config.now a c.args.disk.now
    (made c.from_residual-in_err-host-in-Device.result) c.boot_armed-in-Device.new.disk) (sym c.in-Device.is)
    (no_host model.Device c.args.config.now a c.args.disk.now c.in_err-host-in-Device.field-0.0
    c.boot_armed-in-Device.new.disk c.in_err-host-in-Device.ensures.fallen c.in_err-host-in-Device.ensures.ended
    c.from_residual-in_err-host-in-Device.result c.from_residual-in_err-host-in-Device.ensures.1)

pub returns-in_ok-host-in-Centre : goal.returns-in_ok-host-in-Centre
returns-in_ok-host-in-Centre c =
    let it = c.in_ok-host-in-Centre in
    subst (λ (role : Role). HasMade (model_role role) c.args.config.now (armed_of c.args.arms.now) c.args.disk.now
    (Ok (record { role = model.Centre; host = it.host })) c.boot_armed.new.disk) (sym c.in-Centre.is)
    (refl, it.ensures.up, λ s w down. (it.ensures.core s w down, it.ensures.booted s w down))

pub returns-in_ok-host-in-Router : goal.returns-in_ok-host-in-Router
returns-in_ok-host-in-Router c =
    let it = c.in_ok-host-in-Router in
    subst (λ (role : Role). HasMade (model_role role) c.args.config.now (armed_of c.args.arms.now) c.args.disk.now
    (Ok (record { role = model.Router; host = it.host })) c.boot_armed-in-Router.new.disk) (sym c.in-Router.is)
    (refl, it.ensures.up, λ s w down. (it.ensures.core s w down, it.ensures.booted s w down))

pub returns-in_ok-host-in-Device : goal.returns-in_ok-host-in-Device
returns-in_ok-host-in-Device c =
    let it = c.in_ok-host-in-Device in
    subst (λ (role : Role). HasMade (model_role role) c.args.config.now (armed_of c.args.arms.now) c.args.disk.now
    (Ok (record { role = model.Device; host = it.host })) c.boot_armed-in-Device.new.disk) (sym c.in-Device.is)
    (refl, it.ensures.up, λ s w down. (it.ensures.core s w down, it.ensures.booted s w down))
