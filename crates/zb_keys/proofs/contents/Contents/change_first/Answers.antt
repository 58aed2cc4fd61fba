use Rattle.std.proofs.Common.{◌≡◌, ◌∙◌, sym, ap, arith, subst, true}
use Rattle.zb_node_types.specs.declared.change.Change.{Change}
use Rattle.zb_node_types.specs.declared.change.Change.TheVariants as change
use Rattle.zb_node_types.specs.Changes.{edit}
use Rattle.zb_model.specs.Fits.{keeps_rules}
use Rattle.zb_model.specs.State.{NodeState, shown}
use Rattle.zb_keys.specs.Tables.{state_of}
use Rattle.zb_keys.proofs.FirstLemmas.{applied_as_ever}
use Rattle.zb_keys.proofs.StateLemmas.{sound_again, rooms}
use Rattle.zb_record.specs.Redoing.{first_applied, first_fits, with_net}
use Rattle.zb_record.proofs.First.{first_shown}
use Rattle.zb_keys.proofs.contents.Contents.change_first.Goals as goal

pub install_started-requires-clause-fits : goal.install_started-requires-clause-fits
unfolding first_applied
install_started-requires-clause-fits c =
    let s = state_of c.args.self.now in
    let fit = subst (λ (x : Change). first_fits (edit x) s ≡ true) c.in-Install.is c.requires.fits in
    let all = rooms (with_net c.in-Install.key.0 c.in-Install.sequence s)
    (first_shown (edit (change.Install c.in-Install.key c.in-Install.sequence)) s c.requires.sound.rules fit) in
    omega (arith, all.nets, c.requires.sound.nets_room)

pub change-requires-clause-rules : goal.change-requires-clause-rules
change-requires-clause-rules c =
    let s = state_of c.args.self.now in
    subst (λ (t : NodeState). keeps_rules (shown t) ≡ true)
    (sym (applied_as_ever c.args.change.now s c.in_default.not-Reserve c.in_default.not-Install))
    (first_shown (edit c.args.change.now) s c.requires.sound.rules c.requires.fits)

pub returns-in-Reserve-clause-state : goal.returns-in-Reserve-clause-state
returns-in-Reserve-clause-state c =
    c.set_limit.ensures.state ∙ ap (λ (x : Change). shown (first_applied (edit x) (state_of c.args.self.now)))
    (sym c.in-Reserve.is)

pub returns-in-Reserve-clause-sound : goal.returns-in-Reserve-clause-sound
returns-in-Reserve-clause-sound c =
    let s = state_of c.args.self.now in
    let kept = subst (λ (x : Change). keeps_rules (shown (first_applied (edit x) s)) ≡ true) c.in-Reserve.is
    (first_shown (edit c.args.change.now) s c.requires.sound.rules c.requires.fits) in
    sound_again _ _ _ c.set_limit.ensures kept c.requires.sound

pub returns-in-Install-clause-state : goal.returns-in-Install-clause-state
unfolding first_applied
returns-in-Install-clause-state c =
    c.install_started.ensures.state ∙ ap (λ (x : Change). shown (first_applied (edit x) (state_of c.args.self.now)))
    (sym c.in-Install.is)

pub returns-in-Install-clause-sound : goal.returns-in-Install-clause-sound
unfolding first_applied
returns-in-Install-clause-sound c =
    let s = state_of c.args.self.now in
    let kept = subst (λ (x : Change). keeps_rules (shown (first_applied (edit x) s)) ≡ true) c.in-Install.is
    (first_shown (edit c.args.change.now) s c.requires.sound.rules c.requires.fits) in
    sound_again _ _ _ c.install_started.ensures kept c.requires.sound

pub returns-in_default-clause-state : goal.returns-in_default-clause-state
returns-in_default-clause-state c =
    c.change.ensures.state ∙ ap shown
    (applied_as_ever c.args.change.now (state_of c.args.self.now) c.in_default.not-Reserve c.in_default.not-Install)
