-- The configuration is that of a node of a schedule.
use Rattle.std.proofs.Common.{◌≡◌, Some, refl, sym, ap, ◌∙◌}
use Rattle.std.specs.Prelude.{slice_get}
use Rattle.std.proofs.lemmas.Option.{slice_get-get_or}
use Rattle.zb_player_start.proofs.Settings.{config_is, few_nodes, setting_at}
use Rattle.zb_player_start.proofs.config.config_at.Goals as goal

pub returns-clause-config : goal.returns-clause-config
returns-clause-config c =
    let at : slice_get c.args.declared.now c.args.me ≡ Some c.index-declared-me.result =
    slice_get-get_or c.args.declared.now c.args.me c.index-declared-me.result c.requires.place ∙ ap Some
    (sym c.index-declared-me.is) in
    config_is c.requires.schedule.0 c.args.declared.now c.requires.schedule.1 _ c.index-declared-me.result at
    c.requires.place c.peers_of.ensures refl refl

pub returns-clause-setting : goal.returns-clause-setting
returns-clause-setting c =
    let at : slice_get c.args.declared.now c.args.me ≡ Some c.index-declared-me.result =
    slice_get-get_or c.args.declared.now c.args.me c.index-declared-me.result c.requires.place ∙ ap Some
    (sym c.index-declared-me.is) in
    λ p s is found. setting_at p c.args.declared.now is _ c.index-declared-me.result at c.peers_of.ensures refl refl s
    found

pub peers_of-requires : goal.peers_of-requires
peers_of-requires c = few_nodes c.requires.schedule.0 c.args.declared.now c.requires.schedule.1
