use Rattle.std.proofs.Common.{◌≡◌, arith, true, subst}
use Rattle.zb_node_types.specs.declared.change.Change.{Change}
use Rattle.zb_node_types.specs.declared.change.Change.TheVariants as change
use Rattle.zb_node_types.specs.Changes.{edit, model_layer}
use Rattle.zb_model.specs.Data.{Floor}
use Rattle.zb_model.specs.State.{applied, shown}
use Rattle.zb_model.specs.Fits.{keeps_rules}
use Rattle.zb_keys.specs.Tables.{state_of}
use Rattle.zb_keys.proofs.StateLemmas.{sound_again, rooms, floors_room}
use Rattle.zb_keys.proofs.contents.Contents.change.Goals as goal

pub store-requires-clause-room : goal.store-requires-clause-room
store-requires-clause-room c = λ at_nwk.
    let kept = subst (λ (x : Change). keeps_rules (shown (applied (edit x) (state_of c.args.self.now))) ≡ true)
    c.in-Floor.is c.requires.rules in
    let nwk =
    subst (λ l. keeps_rules
    (shown (applied (Floor (model_layer l) c.in-Floor.key.0 c.in-Floor.sender.0 c.in-Floor.value)
    (state_of c.args.self.now))) ≡ true) at_nwk kept in
    floors_room (state_of c.args.self.now) _ _ _ c.requires.sound.forgets nwk

pub install-requires-clause-fits : goal.install-requires-clause-fits
unfolding applied
install-requires-clause-fits c =
    let kept = subst (λ (x : Change). keeps_rules (shown (applied (edit x) (state_of c.args.self.now))) ≡ true)
    c.in-Install.is c.requires.rules in
    let all =
    rooms (applied (edit (change.Install c.in-Install.key c.in-Install.sequence)) (state_of c.args.self.now)) kept
    in
    omega (arith, all.nets, c.requires.sound.nets_room)

pub set_link-requires-clause-fits : goal.set_link-requires-clause-fits
unfolding applied
set_link-requires-clause-fits c =
    let kept = subst (λ (x : Change). keeps_rules (shown (applied (edit x) (state_of c.args.self.now))) ≡ true)
    c.in-Row.is c.requires.rules in
    let all =
    rooms (applied (edit (change.Row c.in-Row.partner c.in-Row.key c.in-Row.attribute))
    (state_of c.args.self.now)) kept in
    omega (arith, all.links, c.requires.sound.links_room)

pub add_pair-requires-clause-fits : goal.add_pair-requires-clause-fits
unfolding applied
add_pair-requires-clause-fits c =
    let kept = subst (λ (x : Change). keeps_rules (shown (applied (edit x) (state_of c.args.self.now))) ≡ true)
    c.in-Pair.is c.requires.rules in
    let all =
    rooms (applied (edit (change.Pair c.in-Pair.first c.in-Pair.second c.in-Pair.key)) (state_of c.args.self.now))
    kept in
    omega (arith, all.pairs, c.requires.sound.pairs_room)

pub returns-in-Start-clause-sound : goal.returns-in-Start-clause-sound
returns-in-Start-clause-sound c =
    let kept = subst (λ (x : Change). keeps_rules (shown (applied (edit x) (state_of c.args.self.now))) ≡ true)
    c.in-Start.is c.requires.rules in
    sound_again _ _ _ c.start.ensures kept c.requires.sound

pub returns-in-DropNet-clause-sound : goal.returns-in-DropNet-clause-sound
returns-in-DropNet-clause-sound c =
    let kept = subst (λ (x : Change). keeps_rules (shown (applied (edit x) (state_of c.args.self.now))) ≡ true)
    c.in-DropNet.is c.requires.rules in
    sound_again _ _ _ c.drop_net.ensures kept c.requires.sound

pub returns-in-Reserve-clause-sound : goal.returns-in-Reserve-clause-sound
returns-in-Reserve-clause-sound c =
    let kept = subst (λ (x : Change). keeps_rules (shown (applied (edit x) (state_of c.args.self.now))) ≡ true)
    c.in-Reserve.is c.requires.rules in
    sound_again _ _ _ c.reserve.ensures kept c.requires.sound

pub returns-in-Floor-clause-sound : goal.returns-in-Floor-clause-sound
returns-in-Floor-clause-sound c =
    let kept = subst (λ (x : Change). keeps_rules (shown (applied (edit x) (state_of c.args.self.now))) ≡ true)
    c.in-Floor.is c.requires.rules in
    sound_again _ _ _ c.store.ensures kept c.requires.sound
